use Rattle.std.proofs.Common.{◌∷◌, [], ap, false, subst, sym, ◌∙◌}
use Rattle.lp_build.specs.Ordered.{needed}
use Rattle.lp_build.specs.declared.sources.Part.TheVariants as part
use Rattle.lp_build.specs.inner.Walking.{IsOwed, IsWalk}
use Rattle.lp_build.proofs.Walking.{fits}
use Rattle.lp_build.proofs.walk.Loading.step.Goals as goal

pub returns-in-Signatures-clause-walked : goal.returns-in-Signatures-clause-walked
returns-in-Signatures-clause-walked g c = λ all root needs owed w. c.next_signature.ensures.walked all root needs (subst (λ x. IsOwed all c.args.self.now.sources.files.items x needs) c.in-Signatures.is owed) w

pub returns-in-Accumulated-clause-walked : goal.returns-in-Accumulated-clause-walked
returns-in-Accumulated-clause-walked g c = λ all root needs owed w. c.next_module.ensures.walked all root needs (subst (λ x. IsOwed all c.args.self.now.sources.files.items x needs) c.in-Accumulated.is owed) w

pub returns-in-Module-clause-walked : goal.returns-in-Module-clause-walked
returns-in-Module-clause-walked g c = λ all root needs owed w. c.want.ensures.walked all root false (fits part.Module _)
    (subst (λ x. IsWalk all root x c.args.self.now) (subst (λ x. IsOwed all c.args.self.now.sources.files.items x needs) c.in-Module.is owed ∙ ap (λ n. needed part.Module n ∷ []) (sym c.as_str.ensures.value)) w)

pub returns-in-Signatures-clause-so_far : goal.returns-in-Signatures-clause-so_far
returns-in-Signatures-clause-so_far g c = λ all root needs owed w. c.next_signature.ensures.so_far all root needs (subst (λ x. IsOwed all c.args.self.now.sources.files.items x needs) c.in-Signatures.is owed) w

pub returns-in-Accumulated-clause-so_far : goal.returns-in-Accumulated-clause-so_far
returns-in-Accumulated-clause-so_far g c = λ all root needs owed w. c.next_module.ensures.so_far all root needs (subst (λ x. IsOwed all c.args.self.now.sources.files.items x needs) c.in-Accumulated.is owed) w

pub returns-in-Module-clause-so_far : goal.returns-in-Module-clause-so_far
returns-in-Module-clause-so_far g c = λ all root needs owed w. c.want.ensures.so_far all root false (fits part.Module _)
    (subst (λ x. IsWalk all root x c.args.self.now) (subst (λ x. IsOwed all c.args.self.now.sources.files.items x needs) c.in-Module.is owed ∙ ap (λ n. needed part.Module n ∷ []) (sym c.as_str.ensures.value)) w)
