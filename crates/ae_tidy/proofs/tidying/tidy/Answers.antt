-- The places of the copy's marks hold for marks of any number.
use Rattle.std.proofs.Common.{Result, Ok, Err, IfOk, length}
use Rattle.ae_tidy.proofs.tidying.tidy.Goals as goal

if_ok_more : {X E : Type 0} (r : Result X E) (P Q : X → Type 0) → ((x : X) → P x → Q x) → IfOk r P → IfOk r Q
if_ok_more (Ok x) P Q f h = f x h
if_ok_more (Err e) P Q f h = tt

pub returns-clause-moved : goal.returns-clause-moved
returns-clause-moved c = if_ok_more c.copy.result _ _ (λ t h count a. h (length c.args.nl.cells) count a) (rw c.deref-2.ensures.value at c.copy.ensures.moved)
