-- What holds of each value holds of the one that is given.
use Rattle.std.specs.Prelude.{Result, Ok, Err, IfOk}

pub if_ok_always : {T E : Type 0} (r : Result T E) (P : T → Type 0) → ((x : T) → P x) → IfOk r P
if_ok_always (Ok x) P h = h x
if_ok_always (Err e) P h = tt
