-- What `load` and `put_all` answer.
use Rattle.std.specs.Prelude.{◌≡◌, ℕ, ◌≤◌, List, [], Option, Some, IfSome}
use Rattle.ae_io.specs.declared.sink.GiveFault.{GiveFault}
use Rattle.ae_io.specs.declared.sink.GiveFault.TheVariants.{Failed, Memory as NoMemory}
use Rattle.ae_io.specs.declared.transfer.PutFault.{PutFault}
use Rattle.ae_io.specs.declared.transfer.PutFault.TheVariants.{Write, Memory}
use Rattle.ae_io.specs.Told.{TakesCount}

-- the fault of a transfer for that of a call
abbrev pub put_fault : GiveFault → PutFault
put_fault Failed = Write
put_fault NoMemory = Memory

-- where the bytes left are told, these were all of them, and none is left
abbrev pub TakesAll : (old new : Option (List ℕ)) → List ℕ → Type 0
TakesAll old new bytes = IfSome old (λ left. (bytes ≡ left) × (new ≡ Some []))

-- where the bytes left are told, at most n of them were taken
abbrev pub TakesUpTo : (old new : Option (List ℕ)) → ℕ → Type 0
TakesUpTo old new n = (taken : ℕ) × (taken ≤ n) × TakesCount old new taken
