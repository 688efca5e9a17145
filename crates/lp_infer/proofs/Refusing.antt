-- Why a text has no typing.
use Rattle.std.proofs.Common.{◌≡◌, ℕ, List, sym, subst, Result, Ok, Err, Option, Some, None, true, true≢false}
use Rattle.std.specs.Option.{is_some}
use Rattle.std.specs.Prelude.{IfErr}
use Rattle.std.specs.Result.{IsErrAnd}
use Rattle.lp_syntax.specs.declared.text.RawTerm.{RawTerm}
use Rattle.lp_sig.specs.declared.signature.Signature.{Signature}
use Rattle.lp_infer.specs.Refusals.{IsRefusal}
use Rattle.lp_infer.specs.declared.fault.InferFault.{InferFault}
use Rattle.lp_infer.specs.declared.fault.InferFault.TheVariants as fault

-- want of memory is free
pub for_memory : {T : Type 0} (sig : Signature) (text : List ℕ) (raw : RawTerm) (r : Result T InferFault) → IsErrAnd r (λ e. e ≡ fault.Memory) → IfErr r (IsRefusal sig text raw)
for_memory sig text raw (Ok x) is = tt
for_memory sig text raw (Err e) is = subst (IsRefusal sig text raw) (sym is) tt

-- what is there and what is not

pub not_none : {A : Type 0} (o : Option A) → is_some o ≡ true → o ≡ None → ⊥
not_none None e f = true≢false (sym e)
not_none (Some x) e f = cc
