-- What holds of an answer.
use Rattle.std.proofs.Common.{Result, Ok, Err, IfOk, OnOk}

pub on_ok_map : {A E : Type 0} {P Q : Type 0} (r : Result A E) → (P → Q) → OnOk r P → OnOk r Q
on_ok_map (Ok y) f h = f h
on_ok_map (Err e) f h = tt

pub ok_map : {A E : Type 0} {P Q : A → Type 0} (r : Result A E) → ((y : A) → P y → Q y) → IfOk r P → IfOk r Q
ok_map (Ok y) f h = f y h
ok_map (Err e) f h = tt
