use Rattle.std.proofs.Common.{length, reverse}
use Rattle.lp_plain.specs.inner.Building.{GoesFed, IsFed}
use Rattle.lp_plain.proofs.Fed.{fed_built}
use Rattle.std.proofs.Common.{◌++◌, ◌∷◌, [], sym, subst}
use Rattle.lp_plain.specs.Instances.{KeepsInstancing}
use Rattle.lp_plain.specs.Renewal.{renewing}
use Rattle.lp_plain.proofs.instance.step.Goals as goal

pub returns-in_ok-visit-in-Visit-clause-moves : goal.returns-in_ok-visit-in-Visit-clause-moves
returns-in_ok-visit-in-Visit-clause-moves c = λ nb nv vs w σ s.
    subst (λ t. KeepsInstancing (length vs) σ (renewing c.args.values.types) c.args.bank.now c.visit.new.bank (c.args.tasks.now.items ++ t ∷ [])
    c.visit.new.tasks.items c.args.made.now.items c.visit.new.made.items) (sym c.in-Visit.is)
    (c.in_ok-visit-in-Visit.ensures.moves nb nv vs w σ s)

pub returns-in_ok-build-in-Build-clause-moves : goal.returns-in_ok-build-in-Build-clause-moves
returns-in_ok-build-in-Build-clause-moves c = λ nb nv vs w σ s.
    subst (λ t. KeepsInstancing (length vs) σ (renewing c.args.values.types) c.args.bank.now c.build.new.bank (c.args.tasks.now.items ++ t ∷ [])
    c.args.tasks.now.items c.args.made.now.items c.build.new.made.items) (sym c.in-Build.is)
    (c.in_ok-build-in-Build.ensures.moves (length vs) σ (renewing c.args.values.types) c.args.tasks.now.items)

pub visit-requires : goal.visit-requires
visit-requires c = subst (λ t. IsFed c.args.bank.now (t ∷ reverse c.args.tasks.now.items) (length c.args.made.now.items)) c.in-Visit.is c.requires

pub build-requires : goal.build-requires
build-requires c = (subst (λ t. IsFed c.args.bank.now (t ∷ reverse c.args.tasks.now.items) (length c.args.made.now.items)) c.in-Build.is c.requires).0

pub returns-in_ok-visit-in-Visit-clause-fed : goal.returns-in_ok-visit-in-Visit-clause-fed
returns-in_ok-visit-in-Visit-clause-fed c =
    subst (λ t. GoesFed c.args.bank.now c.visit.new.bank t c.args.tasks.now.items c.visit.new.tasks.items (length c.visit.new.made.items)) (sym c.in-Visit.is) c.in_ok-visit-in-Visit.ensures.fed

pub returns-in_ok-build-in-Build-clause-fed : goal.returns-in_ok-build-in-Build-clause-fed
returns-in_ok-build-in-Build-clause-fed c =
    subst (λ t. GoesFed c.args.bank.now c.build.new.bank t c.args.tasks.now.items c.args.tasks.now.items (length c.build.new.made.items)) (sym c.in-Build.is)
    (fed_built c.args.bank.now c.build.new.bank c.in_ok-build-in-Build.ensures.kept c.in-Build.id c.args.tasks.now.items
    (length c.args.made.now.items) (length c.build.new.made.items) c.in_ok-build-in-Build.ensures.left
    (subst (λ t. IsFed c.args.bank.now (t ∷ reverse c.args.tasks.now.items) (length c.args.made.now.items)) c.in-Build.is c.requires))
