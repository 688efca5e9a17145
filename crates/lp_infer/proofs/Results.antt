-- Results that are both this and that.
use Rattle.std.proofs.Common.{Result, Ok, Err}
use Rattle.std.specs.Prelude.{IfOk, OnOk}

pub if_ok_with : {T E Q : Type 0} {P R : T → Type 0} (r : Result T E) → IfOk r P → OnOk r Q → ((x : T) → P x → Q → R x) → IfOk r R
if_ok_with (Ok x) p q f = f x p q
if_ok_with (Err e) p q f = tt

pub if_ok_late : {T E K Q : Type 0} {P R : T → Type 0} (r : Result T E) → (K → IfOk r P) → OnOk r Q → ((x : T) → (K → P x) → Q → R x) → IfOk r R
if_ok_late (Ok x) p q f = f x (λ k. p k) q
if_ok_late (Err e) p q f = tt
