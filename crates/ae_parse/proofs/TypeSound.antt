-- A type that a field spells is one that a program may have.
use Rattle.std.proofs.Common.{◌≡◌, ℕ, zero, suc, ◌+◌, ◌≤◌, Bool, true, false, not, ◌&&◌, ◌||◌, ◌==◌, nat_le, nat_eq, List, [], ◌∷◌, Some, None, if◌then◌else◌, refl, ap, arith}
use Rattle.std.proofs.lemmas.Bool.{leb-true, le-leb}
use Rattle.std.specs.Str.{bytes_eq}
use Rattle.std.specs.Fmt.{decimal}
use Rattle.std.specs.Str.Parse.{digits_value}
use Rattle.ae_word.specs.AtomTree.{AtomTree, word, pair, pair_depth, widths_in_range}
use Rattle.ae_seqtype.specs.SeqTree.{SeqTree, atom, seq, depth, parts_in_size, atom_of}
use Rattle.ae_seq.specs.Formed.{is_unsigned, is_spelled, within}
use Rattle.ae_fields.specs.Number.{is_plain, plain_of}
use Rattle.ae_seq.specs.Typing.{where_ok}
use Rattle.ae_fields.specs.TypeForm.{digits_of, after_digits, past, letter_kind, word_from, pair_from, atom_from, alone, atom_type_of, length_from, sequence_from, type_from, type_of}
use Rattle.ae_fields.proofs.OptionLemmas.{bind-some, where-some, some-is}
use Rattle.ae_seq.proofs.Judging.{left as and-first, right as and-second}
use Rattle.ae_fields.proofs.PartLemmas.{and-both}

pub record Within (low high n : ℕ) : Type 0 where
  pub low_is : low ≤ n
  pub high_is : n ≤ high

-- a number without leading zeros is in its range
pub plain-within : (low high : ℕ) (ds : List ℕ) (n : ℕ) → plain_of low high ds ≡ Some n → Within low high n
plain-within low high ds n e = by (is_plain low high ds) refl e
  where
    of : (v : ℕ) → v ≡ n → nat_le low v ≡ true → nat_le v high ≡ true → Within low high n
    of v same a b = let la = leb-true low v a in let lb = leb-true v high b in record { low_is = omega arith; high_is = omega arith }

    by : (b : Bool) → is_plain low high ds ≡ b → (if b then Some (digits_value 10 ds) else None) ≡ Some n → Within low high n
    by true h f = of (digits_value 10 ds) (some-is _ _ f) (and-second (bytes_eq ds (decimal (digits_value 10 ds))) _ (and-first _ _ h))
        (and-second (bytes_eq ds (decimal (digits_value 10 ds)) && nat_le low (digits_value 10 ds)) _ h)
    by false h f = absurd cc

pub within-true : (low high n : ℕ) → Within low high n → within low high n ≡ true
within-true low high n h = let a = h.low_is in let b = h.high_is in and-both _ _ (le-leb low n a) (le-leb n high b)

kind-sound : (version letter : ℕ) (s : Bool) → letter_kind version letter ≡ Some s → ((version == 2) || not s) ≡ true
kind-sound version letter s e = by (nat_eq letter 117) (version == 2) s e
  where
    by : (b v s : Bool) → (if b then Some false else where_ok (nat_eq letter 105 && v) (Some true)) ≡ Some s → (v || not s) ≡ true
    by true v true h = absurd cc
    by true true false h = refl
    by true false false h = refl
    by false v s h = let w = where-some _ _ _ h in ap (λ t. t || not s) (and-second (nat_eq letter 105) v w.0)

-- what is known of an atom that was read
pub record AtomSound (version levels : ℕ) (a : AtomTree) : Type 0 where
  pub widths : widths_in_range a ≡ true
  pub deep : pair_depth a ≤ levels
  pub signs : ((version == 2) || is_unsigned a) ≡ true

word-sound : (version letter levels : ℕ) (bs : List ℕ) (q : AtomTree × List ℕ) → word_from version letter bs ≡ Some q → AtomSound version levels q.0
word-sound version letter levels bs q e =
    let w = bind-some (plain_of 1 64 (digits_of bs)) _ _ e in
    let k = bind-some (letter_kind version letter) _ _ w.2 in
    let is : word (record { signed = k.0; width = w.0 }) ≡ q.0 = ap (λ (x : AtomTree × List ℕ). x.0) (some-is _ _ k.2) in
    let s : AtomSound version levels (word (record { signed = k.0; width = w.0 })) = record {
      widths = within-true 1 64 w.0
          (plain-within 1 64 (digits_of bs) w.0 w.1);
      deep = omega arith;
      signs = kind-sound version letter k.0 k.1;
    } in
    rw is at s

or-both : (v a b : Bool) → (v || a) ≡ true → (v || b) ≡ true → (v || a && b) ≡ true
or-both true a b h g = refl
or-both false true b h g = g
or-both false false b h g = absurd cc

pair-sound : (version levels : ℕ) (a b : AtomTree) → AtomSound version levels a → AtomSound version levels b → AtomSound version (levels + 1) (pair a b)
pair-sound version levels a b s t =
    let da = s.deep in
    let db = t.deep in
    record { widths = and-both _ _ s.widths t.widths; deep = omega arith; signs = or-both (version == 2) (is_unsigned a) (is_unsigned b) s.signs t.signs }

pub atom-sound : (version levels : ℕ) (bs : List ℕ) (q : AtomTree × List ℕ) → atom_from version levels bs ≡ Some q → AtomSound version levels q.0
atom-sound version levels [] q e = absurd cc
atom-sound version zero (b ∷ bs) q e = word-sound version b zero bs q e
atom-sound version (suc l) (b ∷ bs) q e = by (nat_eq b 40) e (atom-sound version l)
  where
    by : (t : Bool) → (if t then pair_from (atom_from version l) bs else word_from version b bs) ≡ Some q
        → ((cs : List ℕ) (r : AtomTree × List ℕ) → atom_from version l cs ≡ Some r → AtomSound version l r.0) → AtomSound version (suc l) q.0
    by false h rest = word-sound version b (suc l) bs q h
    by true h rest =
        let a = bind-some (atom_from version l bs) _ _ h in
        let c = bind-some (past 44 a.0.1) _ _ a.2 in
        let d = bind-some (atom_from version l c.0) _ _ c.2 in
        let g = bind-some (past 41 d.0.1) _ _ d.2 in
        let is : pair a.0.0 d.0.0 ≡ q.0 = ap (λ (x : AtomTree × List ℕ). x.0) (some-is _ _ g.2) in
        let s = pair-sound version l a.0.0 d.0.0 (rest bs a.0 a.1) (rest c.0 d.0 d.1) in
        let n : l + 1 ≡ suc l = omega arith in
        rw is at (rw n at s)

-- what is known of a type that was read
pub record TypeSound (version levels : ℕ) (t : SeqTree) : Type 0 where
  pub parts : parts_in_size t ≡ true
  pub deep : depth t ≤ levels
  pub signs : ((version == 2) || is_unsigned (atom_of t)) ≡ true

atom-type-sound : (version levels : ℕ) (bs : List ℕ) (t : SeqTree) → atom_type_of version bs ≡ Some t → TypeSound version levels t
atom-type-sound version levels bs t e =
    let a = bind-some (atom_from version 6 bs) _ _ e in
    let s = atom-sound version 6 bs a.0 a.1 in
    of a.0.0 a.0.1 a.2 s
  where
    of : (a : AtomTree) (r : List ℕ) → alone (a, r) ≡ Some t → AtomSound version 6 a → TypeSound version levels t
    of a (x ∷ r) h s = absurd cc
    of a [] h s =
        let is : atom a ≡ t = some-is _ _ h in
        let u : TypeSound version levels (atom a) = record { parts = and-both _ _ s.widths (le-leb _ 6 s.deep); deep = omega arith; signs = s.signs } in
        rw is at u

pub type-sound : (version levels : ℕ) (bs : List ℕ) (t : SeqTree) → type_from version levels bs ≡ Some t → TypeSound version levels t
type-sound version levels [] t e = absurd cc
type-sound version zero (b ∷ bs) t e = atom-type-sound version zero (b ∷ bs) t e
type-sound version (suc l) (b ∷ bs) t e = by (nat_eq b 91) e (type-sound version l)
  where
    by : (u : Bool) → (if u then sequence_from (type_from version l) bs else atom_type_of version (b ∷ bs)) ≡ Some t
        → ((cs : List ℕ) (r : SeqTree) → type_from version l cs ≡ Some r → TypeSound version l r) → TypeSound version (suc l) t
    by false h rest = atom-type-sound version (suc l) (b ∷ bs) t h
    by true h rest =
        let a = bind-some (length_from bs) _ _ h in
        let c = bind-some (type_from version l a.0.1) _ _ a.2 in
        let is : seq a.0.0 c.0 ≡ t = some-is _ _ c.2 in
        let s = rest a.0.1 c.0 c.1 in
        let p = bind-some (plain_of 1 4096 (digits_of bs)) _ _ a.1 in
        let r = bind-some (past 93 (after_digits bs)) _ _ p.2 in
        let n : p.0 ≡ a.0.0 = ap (λ (x : ℕ × List ℕ). x.0) (some-is _ _ r.2) in
        let w = rw n at (plain-within 1 4096 (digits_of bs) p.0 p.1) in
        let d = s.deep in
        let u : TypeSound version (suc l) (seq a.0.0 c.0) = record {
          parts = and-both _ _ (within-true 1 4096 a.0.0 w) s.parts;
          deep = omega arith;
          signs = s.signs;
        } in
        rw is at u

-- the type is spelled as the version allows
pub spelled-so : (version : ℕ) (f : List ℕ) (t : SeqTree) → type_of version f ≡ Some t → is_spelled version t ≡ true
spelled-so version f t e =
    let s = type-sound version 6 f t e in
    and-both _ _ (and-both _ _ s.parts (le-leb _ 6 s.deep)) s.signs
