use Rattle.std.proofs.Common.{◌∷◌, []}
use Rattle.lp_lemmas.proofs.Results.{passed_up}
use Rattle.lp_build.specs.Ordered.{AreInOrderSoFar, asked, needed}
use Rattle.lp_build.specs.declared.fault.BuildFault.TheVariants as fault
use Rattle.lp_build.specs.declared.sources.Part.TheVariants as part
use Rattle.lp_build.proofs.Walking.{so_far_same, walk_waits}
use Rattle.lp_build.proofs.walk.Loading.want_module.Goals as goal

pub returns-in_err-await_module-clause-so_far : goal.returns-in_err-await_module-clause-so_far
returns-in_err-await_module-clause-so_far g c = λ all root word short w. passed_up c.from_residual.result fault.Memory (AreInOrderSoFar all root _) c.from_residual.ensures.1
    (so_far_same all root _ c.args.self.now _ c.await_module.ensures.sources w)

pub returns-clause-walked : goal.returns-clause-walked
returns-clause-walked g c = λ all root word short w. c.want.ensures.walked all root word short
    (walk_waits all root (asked word part.Signature c.args.name.now ∷ []) (needed part.Module c.args.name.now ∷ []) c.args.self.now c.await_module.new.self c.await_module.ensures.all c.await_module.ensures.sources c.await_module.ensures.names
    (λ left h. c.in_ok-await_module.ensures.owed all left h) w)

pub returns-clause-so_far : goal.returns-clause-so_far
returns-clause-so_far g c = λ all root word short w. c.want.ensures.so_far all root word short
    (walk_waits all root (asked word part.Signature c.args.name.now ∷ []) (needed part.Module c.args.name.now ∷ []) c.args.self.now c.await_module.new.self c.await_module.ensures.all c.await_module.ensures.sources c.await_module.ensures.names
    (λ left h. c.in_ok-await_module.ensures.owed all left h) w)
