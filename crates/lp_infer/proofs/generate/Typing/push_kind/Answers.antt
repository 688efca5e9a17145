use Rattle.std.proofs.Common.{refl, []}
use Rattle.std.proofs.lemmas.Result.{on_ok_weaker}
use Rattle.lp_calculus.specs.Types.{con, tys}
use Rattle.lp_infer.specs.Running.{pushed}
use Rattle.lp_infer.proofs.Acting.{acts_then, grow_acts}
use Rattle.lp_infer.proofs.generate.Typing.push_kind.Goals as goal

pub returns : goal.returns
returns c =
    let T = con c.args.kind (tys []) in
    on_ok_weaker c.push.result (λ h.
    acts_then c.args.self.now _ c.push.new.self (λ s. s) (pushed T) (grow_acts c.args.self.now _ c.put_constructor.ensures.kept refl refl refl refl refl) (h T (λ S. (c.in_ok-id.ensures.within, c.in_ok-id.ensures.tree)))) c.push.ensures
