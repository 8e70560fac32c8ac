use Rattle.std.proofs.Common.{length}
use Rattle.ae_lower.specs.Sections.{AreCopied, AreSections}
use Rattle.ae_lower.proofs.sections.copied_sections.Given as goal

abbrev pub invariant-loop-i : goal.invariant-loop-i
invariant-loop-i l = record {
  are : AreSections (length l.made) l.copied.items;
  copied : AreCopied l.sections l.places.items l.i l.copied.items;
}
