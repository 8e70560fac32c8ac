use Rattle.std.proofs.Common.{length, ◌-◌, ◌≡◌, ◌≤◌, ◌++◌, take, drop}
use Rattle.ae_fields.specs.TypeForm.{digits_of, after_digits}
use Rattle.ae_fields.proofs.types.split_digits.Given as goal

abbrev pub invariant-loop-end : goal.invariant-loop-end
invariant-loop-end l = record {
  within : l.end ≤ length l.bytes;
  digits : digits_of l.bytes ≡ take l.end l.bytes ++ digits_of (drop l.end l.bytes);
  after : after_digits l.bytes ≡ after_digits (drop l.end l.bytes);
}

abbrev pub decreases-loop-end : goal.decreases-loop-end
decreases-loop-end l = length l.bytes - l.end
