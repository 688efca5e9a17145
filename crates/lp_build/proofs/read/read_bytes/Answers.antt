use Rattle.std.proofs.Common.{ℕ, Err, ap, subst, sym}
use Rattle.std.specs.Global.{Global}
use Rattle.std.specs.Prelude.{Vec}
use Rattle.lp_base.specs.Read.{IsTooLong}
use Rattle.lp_build.proofs.read.read_bytes.Goals as goal

pub returns-in-Err-Missing-clause-fault : goal.returns-in-Err-Missing-clause-fault
returns-in-Err-Missing-clause-fault g c = c.in-Err-Missing.ensures.missing_only (ap Err c.in-Err-Missing.field-0-is)

pub returns-in-Err-TooLong-clause-fault : goal.returns-in-Err-TooLong-clause-fault
returns-in-Err-TooLong-clause-fault g c = c.in-Err-TooLong.ensures.too_long_only (subst (λ e. IsTooLong {T = Vec ℕ Global} (Err e)) (sym c.in-Err-TooLong.field-0-is) tt)
