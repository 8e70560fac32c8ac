-- A listing with a report and notes that are short is shorter than 2 to the 32 bytes.
use Rattle.std.proofs.Common.{lit<, lit≤, ℕ, suc, ◌≡◌, ◌+◌, ◌-◌, ◌*◌, ◌^◌, ◌<◌, ◌≤◌, Bool, true, false, List, [], ◌∷◌, ◌++◌, length, take, drop, Option, Some, None, slice_get, arith, refl, sym, ap, ◌∙◌, subst}
use Rattle.std.specs.Prelude.{codes, cond, decimal, max, reverse, find, nat_le, nat_lt, ◌==◌, if◌then◌else◌}
use Rattle.std.specs.List.{flat_map}
use Rattle.std.specs.Option.{option_or}
use Rattle.std.proofs.Math.Nat.{mul-suc}
use Rattle.std.proofs.lemmas.Bool.{and_parts, leb-true}
use Rattle.std.proofs.lemmas.Fmt.{length-decimal-le}
use Rattle.std.proofs.lemmas.List.{length-append, length-take, length-drop, reverse-append}
use Rattle.std.proofs.lemmas.List.Concat.{flat_map-cons}
use Rattle.std.proofs.lemmas.List.Folds.{find-append}
use Rattle.std.proofs.lemmas.Option.{slice_get_within, get_or_from_slice_get}
use Rattle.ae_word.specs.AtomTree.{AtomTree, word, pair, atom_words, widths_in_range}
use Rattle.ae_word.specs.AtomText.{atom_text}
use Rattle.ae_sttype.specs.StTree.{StTree, atom, tseq, sseq, element_words, st_atoms, st_depth}
use Rattle.ae_sttype.specs.Size.{IsInSize}
use Rattle.ae_sttype.specs.TypeText.{st_text}
use Rattle.ae_sttype.proofs.Bounds.{atoms_pos, slots_below, part_of_tseq, part_of_sseq, atoms_below}
use Rattle.ae_netlist.specs.declared.cell.SizedCell.{SizedCell}
use Rattle.ae_netlist.specs.declared.cell.Outlet.{Outlet}
use Rattle.ae_verilog.specs.NetlistModule.{each_numbered}
use Rattle.ae_verilog.specs.Notes.{NoteTree, note_line, line_in, line_of, lines_of}
use Rattle.ae_verilog.specs.ReportLines.{ReportTree, number_line, enable_line, in_line, out_line, report_lines}
use Rattle.ae_verilog.specs.Text.{PortFits, between, noted, declaration_text, assignment_text, edge_text, input_text, output_text, module_text, named_text}
use Rattle.ae_verilog.specs.Written.{HaveNumbers, IsListable}
use Rattle.ae_spelled.specs.Short.{AreInSize, IsShort}
use Rattle.ae_spelled.proofs.LawLength.{IsUpTo, short, both, looser, choose_up, digits_32, declared_up, edge_up, input_up, output_up, assigned_up}
use Rattle.ae_spelled.proofs.Named.{IsGood}
use Rattle.ae_spelled.proofs.NetlistForm.{next_place, first_place}
use Rattle.ae_spelled.proofs.NotedCells.{part_get, rest_get}

-- a note with a line of 32 bits, a name of at most 32 bytes and a layout in size
pub record IsShortNote (n : NoteTree) : Type 0 where
  pub line : n.line < 2 ^ 32
  pub name : length n.name ≤ 32
  pub layout : IsInSize n.layout

abbrev pub AreShortNotes : List NoteTree → Type 0
AreShortNotes notes = (i : ℕ) (n : NoteTree) → slice_get notes i ≡ Some n → IsShortNote n

-- ---- layouts

atom_short : (a : AtomTree) → widths_in_range a ≡ true → length (atom_text a) + 3 ≤ 6 * atom_words a
atom_short (word k) h =
    let high : k.width ≤ 64 = leb-true k.width 64 (and_parts (nat_le 1 k.width) (nat_le k.width 64) h).1 in
    omega (arith, length-decimal-le 2 k.width (lit< tt) (omega (arith, high)) (omega (arith, high)))
atom_short (pair a b) h =
    let parts = and_parts (widths_in_range a) (widths_in_range b) h in
    let first = atom_short a parts.0 in
    let second = atom_short b parts.1 in
    omega (arith, first, second, length-append (40 ∷ atom_text a) (44 ∷ atom_text b), length-append ((40 ∷ atom_text a) ++ (44 ∷ atom_text b)) (41 ∷ []))

factor_le : (n m : ℕ) → 0 < m → n ≤ n * m
factor_le n m h = grind arith

type_short : (t : StTree) → IsInSize t → length (st_text t) ≤ 30 * st_depth t + 6 * element_words t
type_short (atom a) h = omega (arith, atom_short a (and_parts (widths_in_range a) _ h.lengths).0)
type_short (tseq n i t) h =
    let slots = slots_below n i t h in
    let inner = type_short t (part_of_tseq (tseq n i t) t n i refl h) in
    let head : IsUpTo 27 ((((codes "TSeq " ++ decimal n) ++ codes " ") ++ decimal i) ++ codes " ") =
    both 26 1 _ (codes " ") (both 16 10 _ (decimal i) (both 15 1 _ (codes " ")
    (both 5 10 (codes "TSeq ") _ (short (lit≤ tt)) (digits_32 n (omega (arith, slots)))) (short (lit≤ tt))) (digits_32 i (omega (arith, slots))))
    (short (lit≤ tt)) in
    omega (arith, inner, head.most, length-append ((((codes "TSeq " ++ decimal n) ++ codes " ") ++ decimal i) ++ codes " ") (st_text t))
type_short (sseq n t) h =
    let few = atoms_below (sseq n t) h in
    let most = factor_le n (st_atoms t) (atoms_pos t h.lengths.1) in
    let inner = type_short t (part_of_sseq (sseq n t) t n refl h) in
    let head : IsUpTo 16 ((codes "SSeq " ++ decimal n) ++ codes " ") = both 15 1 _ (codes " ")
    (both 5 10 (codes "SSeq ") _ (short (lit≤ tt)) (digits_32 n (omega (arith, few, most)))) (short (lit≤ tt)) in
    omega (arith, inner, head.most, length-append ((codes "SSeq " ++ decimal n) ++ codes " ") (st_text t))

words_below : (a w : ℕ) → 0 < a → a * w ≤ 16384 → w ≤ 16384
words_below a w p h = grind arith

type_up : (t : StTree) → IsInSize t → IsUpTo 100000 (st_text t)
type_up t h = record { most = omega (arith, type_short t h, h.in_depth, words_below (st_atoms t) (element_words t) (atoms_pos t h.lengths) h.in_words) }

-- ---- lists of texts

listed_up : {X : Type 0} (d : ℕ) (f : ℕ → X → List ℕ) (k : ℕ) (xs : List X) → ((j : ℕ) (x : X) → slice_get xs j ≡ Some x → IsUpTo d (f (k + j) x))
    → IsUpTo (d * length xs) (each_numbered f k xs)
listed_up d f k [] each = record { most = omega arith }
listed_up d f k (x ∷ xs) each =
    let here : IsUpTo d (f k x) = subst (λ n. IsUpTo d (f n x)) (first_place k) (each 0 x refl) in
    let rest : IsUpTo (d * length xs) (each_numbered f (k + 1) xs) = listed_up d f (k + 1) xs
    (λ j y e. subst (λ n. IsUpTo d (f n y)) (next_place k j) (each (suc j) y e)) in
    subst (λ n. IsUpTo n (f k x ++ each_numbered f (k + 1) xs)) (more d (length xs)) (both d (d * length xs) (f k x) (each_numbered f (k + 1) xs) here rest)
  where
    more : (d n : ℕ) → d + d * n ≡ d * suc n
    more d n = omega (arith, mul-suc d n)

flat_up : {X : Type 0} (f : X → List ℕ) (xs : List X) → ((j : ℕ) (x : X) → slice_get xs j ≡ Some x → IsUpTo 256 (f x))
    → IsUpTo (256 * length xs) (flat_map f xs)
flat_up f [] each = short (lit≤ tt)
flat_up f (x ∷ xs) each =
    let here : IsUpTo 256 (f x) = each 0 x refl in
    let rest : IsUpTo (256 * length xs) (flat_map f xs) = flat_up f xs (λ j y e. each (suc j) y e) in
    rw (flat_map-cons f x xs) (record { most = omega (arith, length-append (f x) (flat_map f xs), here.most, rest.most) })

-- ---- the cells and the notes between them

note_up : (n : NoteTree) → IsShortNote n → IsUpTo 100057 (note_line n)
note_up n h =
    both 10 100047 (codes "  // line ") _ (short (lit≤ tt))
    (both 10 100037 (decimal n.line) _ (digits_32 n.line h.line) (both 2 100035 (codes ": ") _ (short (lit≤ tt)) (both 32 100003 n.name _ (short h.name)
    (both 2 100001 (codes ", ") _ (short (lit≤ tt)) (both 100000 1 (st_text n.layout) (codes "\n") (type_up n.layout h.layout) (short (lit≤ tt)))))))

between_up : (f : ℕ → SizedCell → List ℕ) (cells : List SizedCell) (k to : ℕ) → ((j : ℕ) (x : SizedCell) → slice_get cells j ≡ Some x → IsUpTo 256 (f j x))
    → length (between f cells k to) ≤ 256 * length (take (to - k) (drop k cells))
between_up f cells k to each =
    (listed_up 256 f k (take (to - k) (drop k cells)) (λ j x e. each (k + j) x (rest_get cells k j x (part_get (drop k cells) (to - k) j x e)))).most

from_up : (f : ℕ → SizedCell → List ℕ) (cells : List SizedCell) (k : ℕ) (ns : List NoteTree) → AreShortNotes ns
    → ((j : ℕ) (x : SizedCell) → slice_get cells j ≡ Some x → IsUpTo 256 (f j x)) → length (noted f cells k ns) ≤ 256 * (length cells - k) + 100057 * length ns
from_up f cells k [] notes each =
    omega (arith, between_up f cells k (length cells) each, length-take (length cells - k) (drop k cells), length-drop k cells)
from_up f cells k (n ∷ ns) notes each =
    let here = between_up f cells k n.cell each in
    let one = note_up n (notes 0 n refl) in
    let rest = from_up f cells (max k n.cell) ns (λ i m e. notes (suc i) m e) each in
    omega (
      arith,
      here,
      one.most,
      rest,
      length-take (n.cell - k) (drop k cells),
      length-drop k cells,
      length-append (between f cells k n.cell) (note_line n ++ noted f cells (max k n.cell) ns),
      length-append (note_line n) (noted f cells (max k n.cell) ns),
    )

-- ---- the numbers of lines

one_line : (o : Option NoteTree) (t : Bool) (n : NoteTree) → line_in o < 2 ^ 32 → n.line < 2 ^ 32 → line_in (option_or o (cond t (Some n) None)) < 2 ^ 32
one_line (Some m) t n h k = h
one_line None true n h k = k
one_line None false n h k = lit< tt

last_line : (k : ℕ) (ns : List NoteTree) → AreShortNotes ns → line_of ns k < 2 ^ 32
last_line k [] notes = lit< tt
last_line k (n ∷ ns) notes =
    let p : NoteTree → Bool = λ (m : NoteTree). nat_le m.cell k in
    subst (λ o. line_in o < 2 ^ 32) (sym (ap (find p) (reverse-append (n ∷ []) ns) ∙ find-append p (reverse ns) (n ∷ [])))
    (one_line (find p (reverse ns)) (p n) n (last_line k ns (λ i m e. notes (suc i) m e)) (notes 0 n refl).line)

line_below : (notes : List NoteTree) (count k : ℕ) → AreShortNotes notes → lines_of notes count k < 2 ^ 32
line_below notes count k h = elim (nat_lt k count) as (λ t. (if t then line_of notes k else 0) < 2 ^ 32) [
  | true ↦ last_line k notes h
  | false ↦ lit< tt
]

-- ---- the report

number_up : (name : List ℕ) (n : ℕ) → IsUpTo 8 name → n < 2 ^ 32 → IsUpTo 23 (number_line name n)
number_up name n h k =
    both 3 20 (codes "// ") _ (short (lit≤ tt)) (both 8 12 name _ h
    (both 1 11 (codes " ") _ (short (lit≤ tt)) (both 10 1 (decimal n) (codes "\n") (digits_32 n k) (short (lit≤ tt)))))

in_up : (k : ℕ) (t : StTree) → k < 2 ^ 32 → IsInSize t → IsUpTo 100019 (in_line k t)
in_up k t few h =
    looser 100018 1 _ (both 6 100012 (codes "// in ") _ (short (lit≤ tt))
    (both 10 100002 (decimal k) _ (digits_32 k few) (both 1 100001 (codes " ") _ (short (lit≤ tt))
    (both 100000 1 (st_text t) (codes "\n") (type_up t h) (short (lit≤ tt))))))

out_up : (outs k : ℕ) (t : StTree) → k < 2 ^ 32 → IsInSize t → IsUpTo 100019 (out_line outs k t)
out_up outs k t few h =
    let last : IsUpTo 100001 (st_text t ++ codes "\n") = both 100000 1 (st_text t) (codes "\n") (type_up t h) (short (lit≤ tt)) in
    choose_up 100019 (outs == 1) (codes "// out " ++ (st_text t ++ codes "\n")) (codes "// out " ++ (decimal k ++ (codes " " ++ (st_text t ++ codes "\n"))))
    (looser 100008 11 _ (both 7 100001 (codes "// out ") _ (short (lit≤ tt)) last))
    (both 7 100012 (codes "// out ") _ (short (lit≤ tt)) (both 10 100002 (decimal k) _ (digits_32 k few) (both 1 100001 (codes " ") _ (short (lit≤ tt)) last)))

layouts_up : (f : ℕ → StTree → List ℕ) (ts : List StTree) → length ts ≤ 8 → AreInSize ts
    → ((k : ℕ) (t : StTree) → k < 2 ^ 32 → IsInSize t → IsUpTo 100019 (f k t)) → IsUpTo 800152 (each_numbered f 0 ts)
layouts_up f ts few sizes each =
    record {
      most = omega (
        arith,
        few,
        (listed_up 100019 f 0 ts
            (λ j t e. each (0 + j) t (let inside = slice_get_within ts j t e in omega (arith, few, inside)) (sizes j t e))).most,
      );
    }

pub report_up : (r : ReportTree) (notes : List NoteTree) (cells : List SizedCell) (outlets : List Outlet) → HaveNumbers r notes → IsShort r notes cells outlets
    → IsUpTo 2000000 (report_lines r)
unfolding report_lines
report_up r notes cells outlets h sizes =
    looser 1600416 399584 _ (both 10 1600406 (codes "// aeth 1\n") _ (short (lit≤ tt))
    (both 23 1600383 (number_line (codes "slowdown") r.slowdown) _ (number_up (codes "slowdown") r.slowdown (short (lit≤ tt)) h.slowdown)
    (both 23 1600360 (number_line (codes "latency") r.latency) _ (number_up (codes "latency") r.latency (short (lit≤ tt)) h.latency)
    (both 23 1600337 (number_line (codes "muls") r.muls) _ (number_up (codes "muls") r.muls (short (lit≤ tt)) h.muls)
    (both 23 1600314 (number_line (codes "load") r.load) _ (number_up (codes "load") r.load (short (lit≤ tt)) h.load)
    (both 10 1600304 (enable_line r.enable) _ (enable_up r.enable)
    (both 800152 800152 (each_numbered in_line 0 r.ins) _ (layouts_up in_line r.ins sizes.few_ins sizes.ins in_up)
    (layouts_up (out_line (length r.outs)) r.outs sizes.few_outs sizes.outs (out_up (length r.outs))))))))))
  where
    enable_up : (b : Bool) → IsUpTo 10 (enable_line b)
    enable_up true = short (lit≤ tt)
    enable_up false = short (lit≤ tt)

-- ---- the whole

module _ (title behind : List ℕ) (r : ReportTree) (notes : List NoteTree) (cells : List SizedCell) (outlets : List Outlet) (outs : ℕ)
    (few_letters : length title ≤ 1024) (few_behind : length behind ≤ 100) (ok : IsListable cells outlets) (told : HaveNumbers r notes)
    (sizes : IsShort r notes cells outlets) where
  abbrev lines : ℕ → ℕ
  lines = lines_of notes (length cells)

  noted_short : AreShortNotes notes
  noted_short i n e = record {
    line = subst (λ (x : NoteTree). x.line < 2 ^ 32) (get_or_from_slice_get notes i n n e) (told.lines i n (slice_get_within notes i n e));
    name = sizes.names i n e;
    layout = sizes.layouts i n e;
  }

  numbers : (k : ℕ) → lines k < 2 ^ 32
  numbers k = line_below notes (length cells) k noted_short

  good : IsGood cells
  good = record { formed = ok.formed; fits = ok.inputs; few = ok.few }

  port_at : (j : ℕ) (o : Outlet) → slice_get outlets j ≡ Some o → PortFits o.port
  port_at j o e = subst (λ (x : Outlet). PortFits x.port) (get_or_from_slice_get outlets j o o e) (ok.outputs j o (slice_get_within outlets j o e))

  pub module_up : length (module_text title lines notes cells outlets outs) ≤ 1280 + 768 * length cells + 512 * length outlets + 100057 * length notes
  module_up =
      let ins = flat_up (λ (x : SizedCell). input_text x.width x.cell) cells (λ j x e. input_up lines numbers cells good j x e) in
      let os = flat_up (output_text cells outs) outlets (λ j o e. output_up lines numbers cells good outlets outs ok.shown j o e (port_at j o e)) in
      let declared = from_up (λ net (x : SizedCell). declaration_text lines cells net x.width x.cell) cells 0 notes noted_short
      (λ j x e. declared_up lines numbers cells good j x e) in
      let assigned = flat_up (assignment_text lines cells outs) outlets
      (λ j o e. assigned_up lines numbers cells good outlets outs ok.shown j o e (port_at j o e)) in
      let edges = listed_up 256 (λ net (x : SizedCell). edge_text lines cells net x.cell) 0 cells
      (λ j x e. subst (λ k. IsUpTo 256 (edge_text lines cells k x.cell)) (let here : j ≡ 0 + j = omega arith in here)
      (edge_up lines numbers cells good j x e)) in
      sum _ _ _ _ _ ins os (short declared) assigned edges
    where
      sum : (a b c d e : List ℕ) → IsUpTo (256 * length cells) a → IsUpTo (256 * length outlets) b
          → IsUpTo (256 * (length cells - 0) + 100057 * length notes) c → IsUpTo (256 * length outlets) d → IsUpTo (256 * length cells) e
          → length ((codes "module " ++ (title ++ (codes " (\n  input wire clk" ++ (a ++ (b ++ codes "\n);\n")))))
          ++ (c ++ (d ++ (e ++ codes "endmodule\n")))) ≤ 1280 + 768 * length cells + 512 * length outlets + 100057 * length notes
      sum a b c d e ha hb hc hd he =
          let word : IsUpTo 7 (codes "module ") = short (lit≤ tt) in
          let head : IsUpTo 19 (codes " (\n  input wire clk") = short (lit≤ tt) in
          let close : IsUpTo 4 (codes "\n);\n") = short (lit≤ tt) in
          let last : IsUpTo 10 (codes "endmodule\n") = short (lit≤ tt) in
          simp length-append (omega (arith, ha.most, hb.most, hc.most, hd.most, he.most, few_letters, word.most, head.most, close.most, last.most))

  pub short_text : length (named_text title behind (report_lines r) notes cells outlets outs) < 2 ^ 32
  short_text =
      let quiet : List ℕ = codes
      "// verilator lint_off CMPCONST\n// verilator lint_off DECLFILENAME\n// verilator lint_off UNSIGNED\n// verilator lint_off UNUSEDSIGNAL\n" in
      let q : IsUpTo 200 quiet = short (lit≤ tt) in
      let few = sizes.few_notes in
      let small = sizes.small in
      omega (
        arith,
        small,
        few,
        q.most,
        module_up,
        (report_up r notes cells outlets told sizes).most,
        few_behind,
        length-append (report_lines r) (behind ++ (quiet ++ module_text title lines notes cells outlets outs)),
        length-append behind (quiet ++ module_text title lines notes cells outlets outs),
        length-append quiet (module_text title lines notes cells outlets outs),
      )
