use Rattle.std.proofs.Common.{refl, arith}
use Rattle.lp_verify.specs.declared.head.HeadSoFar.{HeadSoFar}
use Rattle.lp_verify.proofs.HeadTypes.{argument_taken}
use Rattle.lp_verify.proofs.head.HeadSoFar.add_argument.Goals as goal

pub returns-clause-head : goal.returns-clause-head
returns-clause-head c = λ h s t small k f.
    let p = c.args.self.now in
    let n = c.saturating_add-self.ensures in
    let q : HeadSoFar = record { predicate = p.predicate; count = p.count; types = p.types; arguments = c.saturating_add-self.result; whole = p.whole; left = c.left_behind-self.result } in
    argument_taken c.args.types.now h s t p q refl refl refl refl (omega (arith, n, small)) c.left_behind-self.ensures k f
