use Rattle.std.proofs.Common.{◌≡◌, refl, sym, subst, Some, arith}
use Rattle.lp_infer.specs.Scanning.{Finds}
use Rattle.lp_infer.proofs.Finding.{finds_known, finds_earlier}
use Rattle.lp_infer.proofs.names.earlier.Goals as goal

pub returns-then-known-other : goal.returns-then-known-other
returns-then-known-other c =
    subst (λ o. Finds (λ s. s ≡ c.args.other) o (Some c.in-Some.known)) (sym c.in-Some.is) (finds_known c.in-Some.known c.args.other (Some c.in-Some.known) (omega (arith, c.if-known-other.true)) refl)

pub returns-else-known-other : goal.returns-else-known-other
returns-else-known-other c =
    subst (λ o. Finds (λ s. s ≡ c.args.other) o (Some c.args.other)) (sym c.in-Some.is) (finds_earlier c.in-Some.known c.args.other (Some c.args.other) (omega (arith, c.if-known-other.false)) refl)
