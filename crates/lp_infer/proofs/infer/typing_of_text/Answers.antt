use Rattle.std.proofs.Common.{subst}
use Rattle.std.proofs.lemmas.Result.{IfOk-weaker}
use Rattle.lp_infer.specs.Visits.{LookedUp}
use Rattle.lp_infer.proofs.Joining.{none_read}
use Rattle.lp_infer.proofs.infer.typing_of_text.Goals as goal

pub returns-in_default-clause-typed : goal.returns-in_default-clause-typed
returns-in_default-clause-typed c =
    none_read c.args.signature.now c.args.source.now c.args.raw.now (subst (LookedUp c.args.signature.now c.args.source.now c.args.raw.now.nodes.items c.args.raw.now.root) c.in_default.is c.in_ok-text.ensures)

pub returns-clause-typed : goal.returns-clause-typed
returns-clause-typed c =
    IfOk-weaker c.typed.result _ _ (λ found h. h c.args.raw.now (subst (LookedUp c.args.signature.now c.args.source.now c.args.raw.now.nodes.items c.args.raw.now.root) c.in-Some.is c.in_ok-text.ensures)) c.typed.ensures.typed

pub typed-requires : goal.typed-requires
typed-requires c = (c.args.raw.now, subst (LookedUp c.args.signature.now c.args.source.now c.args.raw.now.nodes.items c.args.raw.now.root) c.in-Some.is c.in_ok-text.ensures)
