-- The rings of input columns, and what output columns read from them, one more at a time.
use Rattle.std.proofs.Common.{ℕ, ◌≡◌, ◌+◌, ◌-◌, ◌<◌, Bool, true, false, List, ◌∷◌, ◌++◌, [], length, get_or, Option, Some, None, inl, inr, arith, sym, ap, ◌∙◌}
use Rattle.std.proofs.lemmas.Bool.{cases_eq, cases_lt}
use Rattle.std.proofs.lemmas.List.{length_push}
use Rattle.ae_netlist.specs.declared.cell.NetId.{NetId}
use Rattle.ae_netlist.specs.declared.cell.SizedCell.{SizedCell}
use Rattle.ae_netlist.specs.Circuit.{Extends, IsNet}
use Rattle.ae_netlist.proofs.Gets.{get_push_cases, get_left, get_pushed}
use Rattle.ae_netlist.proofs.Growing.{extends_trans, net_later}
use Rattle.ae_clocked.specs.declared.ring.Ring.{Ring}
use Rattle.ae_clocked.proofs.Making.{ring_grows}
use Rattle.ae_gather.specs.declared.reads.Reads.{Reads}
use Rattle.ae_columns.specs.Columns.{net_of}
use Rattle.ae_gather.specs.Readers.{AreReads, AreRings, ReadsColumn, ReadsRing, RingOf}
use Rattle.ae_columns.proofs.Keeping.{net_before, net_last}

pub ring_later : {a b : List SizedCell} {rst bits x : ℕ} {ring : Ring} → Extends a b → RingOf a rst bits x ring → RingOf b rst bits x ring
ring_later g h = record {
  width = h.width;
  net = net_later g h.net;
  wide = h.wide;
  memory = record { at = h.memory.at; next = h.memory.next; enable = h.memory.enable; found = g.keeps _ _ h.memory.found };
  counter = net_later g h.counter;
  keeps = ring_grows g h.keeps;
}

pub rings_grow : {a b : List SizedCell} {count rst : ℕ} {reads : Reads} {ins : List NetId} {rings : List (Option Ring)} → Extends a b
    → AreRings count a rst reads ins rings → AreRings count b rst reads ins rings
rings_grow g h = record { long = h.long; each = λ x ring f. ring_later g (h.each x ring f); has = h.has }

pub rings_more : (count : ℕ) (a b : List SizedCell) (rst : ℕ) (reads : Reads) (ins : List NetId) (rings : List (Option Ring)) (made : Option Ring) (has : Bool)
    → Extends a b → AreRings count a rst reads ins rings
    → ((ring : Ring) → made ≡ Some ring → RingOf b rst reads.bits (net_of ins count) ring) → (has ≡ true → (ring : Ring) × (made ≡ Some ring))
    → get_or reads.rings.items count false ≡ has
    → AreRings (count + 1) b rst reads ins (rings ++ made ∷ [])
rings_more count a b rst reads ins rings made has g h new there is = record {
  long = length_push rings made ∙ ap (λ n. n + 1) h.long;
  each = λ x ring f. elim (get_push_cases rings made x (Some ring) f) [
    | inl v ↦ ring_later g (h.each x ring v.0)
    | inr v ↦ (let at : x ≡ count = v.0 ∙ h.long in rw at (new ring v.1))
  ];
  has = λ x l on. elim (cases_eq x count) [
    | inl e ↦
        let yes : has ≡ true = sym is ∙ ap (λ n. get_or reads.rings.items n false) (sym e) ∙ on in
        let m = there yes in
        let end : x ≡ length rings = e ∙ sym h.long in
        (m.0, rw end (get_pushed rings made) ∙ ap Some m.1)
    | inr ne ↦ (let m = h.has x (omega arith) on in (m.0, get_left rings (made ∷ []) x (Some m.0) m.1))
  ];
}

reads_net : {a b : List SizedCell} {rst bits x place y : ℕ} → Extends a b → ReadsRing a rst bits x place y → ReadsRing b rst bits x place y
reads_net g h =
    record {
      width = h.width;
      from = net_later g h.from;
      net = net_later g h.net;
      reads = record { words = λ all e run r start reset. h.reads.words all (extends_trans g e) run r start reset };
    }

pub column_later : {a b : List SizedCell} {rst : ℕ} {reads : Reads} {from : Option ℕ} {ins : List NetId} {place y : ℕ} → Extends a b
    → ReadsColumn a rst reads from ins place y → ReadsColumn b rst reads from ins place y
column_later g h = record { net = (h.net.0, net_later g h.net.1); words = λ x f on. reads_net g (h.words x f on) }

pub reads_later : {a b : List SizedCell} {count rst : ℕ} {reads : Reads} {ins places all : List NetId} → Extends a b
    → AreReads count a rst reads ins places all → AreReads count b rst reads ins places all
reads_later g h = record { long = h.long; first = h.first; each = λ q l. column_later g (h.each q l) }

pub reads_more : (count : ℕ) (a b : List SizedCell) (rst : ℕ) (reads : Reads) (ins places all : List NetId) (y : NetId) → Extends a b
    → AreReads count a rst reads ins places all
    → ReadsColumn b rst reads (get_or reads.from.items count None) ins (net_of places count) y.0 → AreReads (count + 1) b rst reads ins places (all ++ y ∷ [])
reads_more count a b rst reads ins places all y g h new = record {
  long = length_push all y ∙ (let l = h.long in omega arith);
  first = λ q l. net_before all y q (omega (arith, h.long)) ∙ h.first q l;
  each = λ q l. elim (cases_eq q count) [
    | inl e ↦
        let end : length ins + count ≡ length all = omega (arith, h.long) in
        rw (e, end, net_last all y) new
    | inr ne ↦ rw (net_before all y (length ins + q) (omega (arith, h.long))) (column_later g (h.each q (omega arith)))
  ];
}

pub reads_whole : (count n : ℕ) (cells : List SizedCell) (rst : ℕ) (reads : Reads) (ins places all : List NetId) → count ≡ n
    → AreReads count cells rst reads ins places all → AreReads n cells rst reads ins places all
reads_whole count n cells rst reads ins places all e h = rw e at h

-- each of them is a net
pub reads_nets : (cells : List SizedCell) (rst outs : ℕ) (reads : Reads) (ins places all : List NetId)
    → ((q : ℕ) → q < length ins → (w : ℕ) × IsNet cells (net_of ins q) w) → AreReads outs cells rst reads ins places all
    → (q : ℕ) → q < length all → (w : ℕ) × IsNet cells (net_of all q) w
reads_nets cells rst outs reads ins places all nets h q l = elim (cases_lt q (length ins)) [
  | inl near ↦ (let n = nets q near in let e : net_of all q ≡ net_of ins q = h.first q near in (n.0, rw e n.1))
  | inr far ↦ (let k = h.each (q - length ins) (omega (arith, h.long)) in let e : length ins + (q - length ins) ≡ q = omega arith in (k.net.0, rw e at k.net.1))
]
