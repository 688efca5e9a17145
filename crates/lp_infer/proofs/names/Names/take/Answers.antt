use Rattle.std.proofs.Common.{◌∷◌, ◌<◌, reverse, subst, sym}
use Rattle.std.specs.Prelude.{OnOk}
use Rattle.std.proofs.lemmas.Result.{on_ok_weaker}
use Rattle.lp_infer.specs.Scanning.{Scanned, HasLevel}
use Rattle.lp_infer.specs.inner.Rooms.{turns}
use Rattle.lp_infer.proofs.Scanning.{past_end}
use Rattle.lp_infer.proofs.NameTurns.{end_left}
use Rattle.lp_infer.proofs.names.Names.take.Goals as goal

pub returns-in-Leave-clause-scanned : goal.returns-in-Leave-clause-scanned
returns-in-Leave-clause-scanned c =
    on_ok_weaker c.leave.result (λ has root S.
    past_end c.args.signature.now c.args.source.now c.args.raw.now.nodes.items root c.args.self.now c.leave.new.self c.in-Leave.spot c.in-Leave.outside (reverse c.args.work.now.items) c.leave.ensures.fault
    (subst (λ x. HasLevel x c.in-Leave.outside c.args.self.now c.leave.new.self) c.spelled_at.ensures has)
    (subst (λ t. Scanned c.args.signature.now c.args.source.now c.args.raw.now.nodes.items root c.args.self.now (t ∷ reverse c.args.work.now.items)) c.in-Leave.is S)) c.leave.ensures.level

pub returns-in-Visit-clause-scanned : goal.returns-in-Visit-clause-scanned
returns-in-Visit-clause-scanned c =
    on_ok_weaker c.visit.result (λ step root S.
    step root (subst (λ t. Scanned c.args.signature.now c.args.source.now c.args.raw.now.nodes.items root c.args.self.now (t ∷ reverse c.args.work.now.items)) c.in-Visit.is S)) c.visit.ensures.scanned

pub returns-in-Leave-clause-fewer : goal.returns-in-Leave-clause-fewer
returns-in-Leave-clause-fewer c =
    subst (λ t. OnOk c.leave.result (turns (reverse c.args.work.now.items) < turns (t ∷ reverse c.args.work.now.items))) (sym c.in-Leave.is)
    (on_ok_weaker c.leave.result (λ has. end_left c.in-Leave.spot c.in-Leave.outside (reverse c.args.work.now.items)) c.leave.ensures.level)

pub returns-in-Visit-clause-fewer : goal.returns-in-Visit-clause-fewer
returns-in-Visit-clause-fewer c =
    subst (λ t. OnOk c.visit.result (turns (reverse c.visit.new.work.items) < turns (t ∷ reverse c.args.work.now.items))) (sym c.in-Visit.is) c.visit.ensures.fewer
