-- Each demo program is accepted.
use Rattle.std.proofs.Common.{◌≡◌, ℕ, ◌*◌, ◌≤◌, true, None, nat_le, refl, arith}
use Rattle.ae_seq.specs.Formed.{formed}
use Rattle.ae_seq.specs.Typing.{refused_line}
use Rattle.ae_print.proofs.ProgramRead.{text-is-program}
use Rattle.ae_print.proofs.StatedForms.{program-stated}
use Rattle.ae_rewrite.specs.FailingLine as lines
use Rattle.ae_rewrite.specs.FailingLine.{failing_line}
use Rattle.ae_demo.specs.Demos.{DemosAreAccepted, demo_tree}
use Rattle.ae_demo.proofs.Layouts.{AreSizes, demo_light, sizes}

formed_is : (n : ℕ) → AreSizes n → formed (demo_tree n) ≡ true
formed_is n h = rw (h.one, h.most) refl

typed_is : (n : ℕ) → 1 ≤ n → n ≤ 64 → AreSizes n → refused_line (demo_tree n) ≡ None
typed_is n low high h =
    let few : nat_le (16 * n * 1) 16384 ≡ true = search (arith) in
    rw (h.one, h.most, h.same, few, h.one, h.most) refl

fine_is : (n : ℕ) → AreSizes n → failing_line (demo_tree n) (4 * n) ≡ None
unfolding lines.failing
fine_is n h = rw (h.one, h.same, h.clocks, h.small, h.some, h.even, h.whole) refl

pub demos_accepted : DemosAreAccepted
demos_accepted n low high =
    let h = sizes n low high in
    let good = formed_is n h in
    record {
      formed_is = good;
      reads = text-is-program (demo_tree n) good refl (program-stated (demo_tree n) good refl);
      typed = typed_is n low high h;
      fine = fine_is n h;
      light = (demo_light n low high).0;
      soon = (demo_light n low high).1;
    }
