-- One step of reading a type.
use Rattle.std.proofs.Common.{◌≡◌, ℕ, zero, suc, ◌-◌, ◌<◌, ◌≤◌, List, [], ◌∷◌, length, take, drop, get_or, if◌then◌else◌, sym, ap, ◌∙◌, arith}
use Rattle.std.proofs.lemmas.Bool.{eq-eqb}
use Rattle.ae_fields.proofs.CutLemmas.{whole_rest}
use Rattle.ae_fields.specs.TypeForm.{atom_from, pair_from, word_from, type_from, sequence_from, atom_type_of}

pub atom-opens : (version levels : ℕ) (bs : List ℕ) → 1 ≤ length bs → get_or bs 0 0 ≡ 40 → 0 < levels
    → pair_from (atom_from version (levels - 1)) (take (length bs - 1) (drop 1 bs)) ≡ atom_from version levels bs
atom-opens version levels [] some e h = absurd (omega arith)
atom-opens version zero (b ∷ bs) some e h = absurd (omega arith)
atom-opens version (suc l) (b ∷ bs) some e h =
    let d : suc l - 1 ≡ l = omega arith in
    ap (pair_from (atom_from version (suc l - 1))) (whole_rest (b ∷ bs) 1) ∙ ap (λ k. pair_from (atom_from version k) bs) d ∙
    sym (ap (λ t. if t then pair_from (atom_from version l) bs else word_from version b bs) (eq-eqb b 40 e))

pub type-opens : (version levels : ℕ) (bs : List ℕ) → 1 ≤ length bs → get_or bs 0 0 ≡ 91 → 0 < levels
    → sequence_from (type_from version (levels - 1)) (take (length bs - 1) (drop 1 bs)) ≡ type_from version levels bs
type-opens version levels [] some e h = absurd (omega arith)
type-opens version zero (b ∷ bs) some e h = absurd (omega arith)
type-opens version (suc l) (b ∷ bs) some e h =
    let d : suc l - 1 ≡ l = omega arith in
    ap (sequence_from (type_from version (suc l - 1))) (whole_rest (b ∷ bs) 1) ∙ ap (λ k. sequence_from (type_from version k) bs) d ∙
    sym (ap (λ t. if t then sequence_from (type_from version l) bs else atom_type_of version (b ∷ bs)) (eq-eqb b 91 e))
