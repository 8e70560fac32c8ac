-- All marks of a circuit, one gained behind the other.
use Rattle.std.proofs.Common.{ℕ, ◌≡◌, ◌-◌, ◌%◌, ◌<◌, Bool, List, [], ap, ◌∙◌, subst}
use Rattle.std.specs.Prelude.{nat_lt, ◌==◌}
use Rattle.ae_sttype.specs.StTree.{StTree}
use Rattle.ae_netlist.specs.declared.cell.SizedCell.{SizedCell}
use Rattle.ae_netlist.specs.Circuit.{Circuit, IsNet}
use Rattle.ae_clocked.specs.Phases.{Belongs, Kept, phase_of}
use Rattle.ae_gates.specs.Cells.{Grows}
use Rattle.ae_gates.proofs.Adding.{grows_trans}
use Rattle.ae_stream.specs.Streams.{is_beat}
use Rattle.ae_stream.specs.Driven.{late_clock}
use Rattle.ae_streamed.specs.declared.marking.Marks.{Marks}
use Rattle.ae_streamed.specs.Beats.{GainsBit, HasMarks, IsBitOf}
use Rattle.ae_streamed.proofs.Bits.{bit_later, bit_same}
use Rattle.ae_streamed.proofs.Phasing.{first_is, last_is, phase_first, phase_late}

pub belongs_new : (clocks : Kept) (cells : List SizedCell) → clocks ≡ record { rst = 0; counters = []; marks = [] } → IsNet cells 0 1 → Belongs clocks cells
belongs_new clocks cells is h = rw is (record { rst = h; counters = λ phase net found. cc; marks = λ mark net found. cc })

module _ (a b c d e f : Circuit) (k0 k1 k2 k3 k4 k5 : Kept) (m : Marks) (slowdown r : ℕ) (inputs outputs : List StTree) (some : 0 < slowdown)
    (low : r < slowdown) (reset : k0.rst ≡ 0)
    (first : GainsBit a b k0 k1 m.first.0 (λ t. nat_lt (phase_of slowdown 0 t) 1))
    (last : GainsBit b c k1 k2 m.last.0 (λ t. nat_lt (phase_of slowdown (slowdown - 1) t) 1))
    (wants : GainsBit c d k2 k3 m.wants.0 (λ t. is_beat inputs (phase_of slowdown 0 t)))
    (late : GainsBit d e k3 k4 m.late.0 (λ t. is_beat outputs (phase_of slowdown r t)))
    (behind : GainsBit e f k4 k5 m.behind.0 (λ t. nat_lt (phase_of slowdown 0 t) r)) where
  from_c : Grows c f
  from_c = grows_trans wants.grows (grows_trans late.grows behind.grows)

  r1 : k1.rst ≡ 0
  r1 = first.rst ∙ reset

  r2 : k2.rst ≡ 0
  r2 = last.rst ∙ r1

  r3 : k3.rst ≡ 0
  r3 = wants.rst ∙ r2

  r4 : k4.rst ≡ 0
  r4 = late.rst ∙ r3

  at_zero : (cells : List SizedCell) (rst y : ℕ) (passes : ℕ → Bool) → rst ≡ 0 → IsBitOf cells rst y passes → IsBitOf cells 0 y passes
  at_zero cells rst y passes is h = subst (λ k. IsBitOf cells k y passes) is h

  pub has_marks : HasMarks f.cells m slowdown r inputs outputs
  has_marks = record {
    first = bit_same _ (λ t. t % slowdown == 0) (λ t. first_is slowdown t)
        (at_zero f.cells k0.rst m.first.0 _ reset (bit_later (grows_trans last.grows from_c) first.told));
    last = bit_same _ (λ t. t % slowdown == slowdown - 1) (λ t. last_is slowdown t some) (at_zero f.cells k1.rst m.last.0 _ r1 (bit_later from_c last.told));
    wants = bit_same _ (λ t. is_beat inputs (t % slowdown)) (λ t. ap (is_beat inputs) (phase_first slowdown t))
        (at_zero f.cells k2.rst m.wants.0 _ r2 (bit_later (grows_trans late.grows behind.grows) wants.told));
    late = bit_same _ (λ t. is_beat outputs (late_clock slowdown r (t % slowdown))) (λ t. ap (is_beat outputs) (phase_late slowdown r t some low))
        (at_zero f.cells k3.rst m.late.0 _ r3 (bit_later behind.grows late.told));
    behind = bit_same _ (λ t. nat_lt (t % slowdown) r) (λ t. ap (λ p. nat_lt p r) (phase_first slowdown t))
        (at_zero f.cells k4.rst m.behind.0 _ r4 behind.told);
  }
