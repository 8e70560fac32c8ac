-- Loops that write cells with notes between them.
use Rattle.std.proofs.Common.{◌≡◌, ℕ, suc, ◌+◌, ◌-◌, ◌<◌, List, ◌∷◌, ◌++◌, length, map, take, drop, get_or, sym, ap, ◌∙◌, arith, append_assoc}
use Rattle.std.specs.Prelude.{max}
use Rattle.std.proofs.Math.Seq.{drop-cons}
use Rattle.ae_netlist.specs.declared.cell.SizedCell.{SizedCell}
use Rattle.ae_verilog.specs.NetlistModule.{each_numbered}
use Rattle.ae_verilog.specs.Notes.{NoteTree, note_line}
use Rattle.ae_verilog.specs.Text.{between, noted}

-- one more cell
pub between_more : (f : ℕ → SizedCell → List ℕ) (cells : List SizedCell) (k to : ℕ) (d : SizedCell) (a b whole : List ℕ) → k < to → k < length cells →
    b ≡ a ++ f k (get_or cells k d) → a ++ between f cells k to ≡ whole → b ++ between f cells (k + 1) to ≡ whole
between_more f cells k to d a b whole before inside step h =
    ap (λ l. l ++ between f cells (k + 1) to) step ∙ append_assoc a (f k (get_or cells k d)) (between f cells (k + 1) to) ∙ ap (λ l. a ++ l) (sym one) ∙ h
  where
    count : to - k ≡ suc (to - (k + 1))
    count = omega arith

    one : between f cells k to ≡ f k (get_or cells k d) ++ between f cells (k + 1) to
    one =
        ap (λ xs. each_numbered f k (take (to - k) xs)) (drop-cons cells k d inside)
        ∙ ap (λ n. each_numbered f k (take n (get_or cells k d ∷ drop (suc k) cells))) count
        ∙ ap (λ n. f k (get_or cells k d) ++ each_numbered f (k + 1) (take (to - (k + 1)) (drop n cells))) (let same : suc k ≡ k + 1 = omega arith in same)

-- one more note
pub noted_more : {X : Type 0} (g : X → NoteTree) (f : ℕ → SizedCell → List ℕ) (cells : List SizedCell) (k m i : ℕ) (xs : List X) (x : X) (a b c whole : List ℕ)
    → i < length xs → x ≡ get_or xs i x → m ≡ max k (g x).cell →
    b ≡ a ++ between f cells k (g x).cell → c ≡ b ++ note_line (g x) → a ++ noted f cells k (map g (drop i xs)) ≡ whole → c
    ++ noted f cells m (map g (drop (i + 1) xs)) ≡ whole
noted_more g f cells k m i xs x a b c whole inside is later first second h =
    ap (λ l. l ++ noted f cells m ns) (second ∙ ap (λ l. l ++ note_line (g x)) first)
    ∙ ap (λ p. ((a ++ between f cells k (g x).cell) ++ note_line (g x)) ++ noted f cells p ns) later
    ∙ shape (between f cells k (g x).cell) (note_line (g x)) (noted f cells (max k (g x).cell) ns)
    ∙ ap (λ l. a ++ noted f cells k l) (sym one) ∙ h
  where
    ns : List NoteTree
    ns = map g (drop (i + 1) xs)

    one : map g (drop i xs) ≡ g x ∷ ns
    one = ap (map g) (drop-cons xs i x inside) ∙ ap (λ y. g y ∷ map g (drop (suc i) xs)) (sym is) ∙
        ap (λ p. g x ∷ map g (drop p xs)) (let same : suc i ≡ i + 1 = omega arith in same)

    shape : (x y z : List ℕ) → ((a ++ x) ++ y) ++ z ≡ a ++ (x ++ (y ++ z))
    shape x y z = simp append_assoc
