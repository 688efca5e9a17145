-- What is known stays what the folder tells: without a file that was taken out, and after a refusal for want of memory.
use Rattle.std.specs.Global.{Global}
use Rattle.std.proofs.Common.{◌≡◌, ℕ, ◌<◌, ◌-◌, List, length, Option, Some, None, get_or, arith, sym, subst}
use Rattle.std.specs.Prelude.{Vec, String, string_bytes, Result, Ok, Err}
use Rattle.std.specs.Result.{IsErrAnd}
use Rattle.std.specs.List.{All, swap_remove}
use Rattle.std.proofs.lemmas.List.Elements.{All-take, All-set, All-get_or}
use Rattle.lp_base.specs.Held.{Held}
use Rattle.lp_build.specs.declared.fault.BuildFault.{BuildFault}
use Rattle.lp_build.specs.declared.fault.BuildFault.TheVariants as fault
use Rattle.lp_build.specs.declared.sources.Sources.{Sources}
use Rattle.lp_build.specs.Loads.{fault_of}
use Rattle.lp_build.specs.Told.{HoldsTold, IsFaultNamed, AreKnown, IsTold}

-- what holds of all holds without one of them
pub all_but_one : {X : Type 0} (P : X → Type 0) (xs : List X) (i : ℕ) (d : X) → i < length xs → All P xs → All P (swap_remove xs i d)
all_but_one P xs i d lt h =
    let last : length xs - 1 < length xs = omega arith in
    All-take P (length xs - 1) _ (All-set P xs i _ (All-get_or P xs (length xs - 1) d last h) h)

memory_named : (told : Option Held) (name : Option (String Global)) → IsFaultNamed told name fault.Memory
memory_named told (Some n) = tt
memory_named told None = tt

-- want of memory says nothing of a file
pub told_memory : (told : Option Held) (known : List (String Global × Vec ℕ Global)) (sources : Sources) → HoldsTold told known sources None → HoldsTold told known sources (Some fault.Memory)
told_memory told known sources h = record { waiting = h.waiting; loaded = h.loaded; fault = memory_named told sources.refused }

-- what was taken out has the bytes that the folder tells
pub taken_told : (told : Option Held) (known : List (String Global × Vec ℕ Global)) (i : ℕ) (x : String Global × Vec ℕ Global) (name : List ℕ) →
    AreKnown told known → i < length known → x ≡ get_or known i x → string_bytes x.0 ≡ name → IsTold told name x.1.items
taken_told told known i x name h lt e n =
    subst (λ w. IsTold told w x.1.items) n (subst (λ y. IsTold told (string_bytes y.0) y.1.items) (sym e) (h i x lt))

-- what the folder tells stays
pub told_still : (told told' : Option Held) (known : List (String Global × Vec ℕ Global)) (sources : Sources) (e : Option BuildFault) → told' ≡ told →
    HoldsTold told' known sources e → HoldsTold told known sources e
told_still told told' known sources e same h = subst (λ t. HoldsTold t known sources e) same h

-- a fault that is passed up
pub told_passed : {T : Type 0} (told : Option Held) (known : List (String Global × Vec ℕ Global)) (sources : Sources) (r : Result T BuildFault)
    (e : BuildFault) → IsErrAnd r (λ y. y ≡ e) → HoldsTold told known sources (Some e) → HoldsTold told known sources (fault_of r)
told_passed told known sources (Ok x) e is h = absurd is
told_passed told known sources (Err y) e is h = subst (λ z. HoldsTold told known sources (Some z)) (sym is) h
