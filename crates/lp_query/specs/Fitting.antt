-- That code fits its counts is one fact.
use Rattle.std.specs.Prelude.{List, slice_index_or}
use Rattle.std.specs.List.{All as Each}
use Rattle.std.proofs.Props.{props}
use Rattle.lp_code.specs.declared.instruction.Instr.{Instr}
use Rattle.lp_code.specs.declared.instruction.Instr.TheVariants.{TyCon, PutConst, PutStr, PutApp, GetConst, GetStr, Call, Assume}
use Rattle.lp_code.specs.declared.record.Record.{Record}
use Rattle.lp_code.specs.Length.{Fits, AllFit}

each_once : {A : Type 0} (P : A → Type 0) → ((x : A) → IsProp (P x)) → (xs : List A) → IsProp (Each P xs)
each_once P h xs f g = λ i k d l. h (slice_index_or xs k d) (f k d l) (g k d l) i

fits_once : (i : Instr) → IsProp (Fits i)
fits_once (TyCon d k ts) = Prim.hlevel props
fits_once (PutConst d c ts) = Prim.hlevel props
fits_once (PutStr d s) = Prim.hlevel props
fits_once (PutApp d s rs) = Prim.hlevel props
fits_once (GetConst i c ts) = Prim.hlevel props
fits_once (GetStr i s) = Prim.hlevel props
fits_once (Call c ts rs) = Prim.hlevel props
fits_once (Assume ns ts rs) = Prim.hlevel props
fits_once _ = Prim.hlevel props

pub all_fit_once : (rs : List Record) → IsProp (AllFit rs)
all_fit_once rs = each_once (λ (r : Record). Each Fits r.code.items) (λ r. each_once Fits fits_once r.code.items) rs
