use Rattle.std.proofs.Common.{◌<◌, reverse}
use Rattle.lp_lemmas.proofs.Lists.{reverse_pushed}
use Rattle.lp_plain.specs.inner.Building.{IsFed, toil}
use Rattle.lp_plain.proofs.Fed.{fed_begins}
use Rattle.std.proofs.Common.{◌∙◌, ◌++◌, ◌∷◌, [], ap, sym, subst, arith, length}
use Rattle.lp_term.specs.Nodes.{tree}
use Rattle.lp_term.proofs.Moves.{nothing}
use Rattle.lp_term.proofs.Trees.{extends-trans}
use Rattle.lp_plain.specs.declared.instance.Task.{Task}
use Rattle.lp_plain.specs.Renewal.{renewing}
use Rattle.lp_plain.specs.Instances.{instanced, values_of, IsReadable, ToInstance}
use Rattle.lp_plain.proofs.Instances.{instance_begins, instance_ends, values_stand, values_kept, written_begins}
use Rattle.lp_plain.proofs.instance.instance.Goals as goal

pub tasks-init : goal.tasks-init
tasks-init c =
    let b = c.inside.new.self in
    let r = c.in_ok-root in
    record {
      kept = r.ensures.kept;
      left = λ nb nv vs w σ s a.
          subst (λ t. ToInstance (length vs) σ (renewing c.args.values.types) b c.push.new.self.items c.new-made.result.items (instanced σ (renewing c.args.values.types) 0 t)) r.ensures.tree
          (instance_begins (length vs) σ (renewing c.args.values.types) b r.root _ _ r.ensures.within
          (subst (IsReadable (length vs) 0) (sym r.ensures.tree) a) (c.in_ok-push.ensures.items ∙ ap (λ l. l ++ Task.Visit r.root 0 ∷ [])
          c.new-tasks.ensures.items) c.new-made.ensures.items);
      fed = fed_begins b r.root _ _ r.ensures.within c.term_count-count.ensures.few
          (c.in_ok-push.ensures.items ∙ ap (λ l. l ++ Task.Visit r.root 0 ∷ []) c.new-tasks.ensures.items) c.new-made.ensures.items;
    }

pub tasks-preserved : goal.tasks-preserved
tasks-preserved c = record {
  kept = extends-trans c.args.bank.now c.tasks.bank c.step.new.bank c.tasks.invariant.kept c.in_ok-step.ensures.kept;
  left = λ nb nv vs w σ s a.
      c.in_ok-step.ensures.moves nb nv vs w σ (values_kept c.args.bank.now c.tasks.bank vs σ c.tasks.invariant.kept s) _
      (subst (λ l. ToInstance (length vs) σ (renewing c.args.values.types) c.tasks.bank l c.tasks.made.items
      (instanced σ (renewing c.args.values.types) 0 (tree c.args.bank.now c.args.term.0))) c.in-Some.ensures.items
      (c.tasks.invariant.left nb nv vs w σ s a));
  fed = c.in_ok-step.ensures.fed.0;
}

pub step-requires : goal.step-requires
step-requires c =
    subst (λ l. IsFed c.tasks.bank l (length c.tasks.made.items)) (reverse_pushed c.tasks.tasks.items c.pop.new.self.items c.in-Some.task c.in-Some.ensures.items) c.tasks.invariant.fed

pub tasks-smaller : goal.tasks-smaller
tasks-smaller c =
    subst (λ l. toil c.step.new.bank (reverse c.step.new.tasks.items) < toil c.tasks.bank l)
    (sym (reverse_pushed c.tasks.tasks.items c.pop.new.self.items c.in-Some.task c.in-Some.ensures.items)) c.in_ok-step.ensures.fed.1

pub unreachable-requires : goal.unreachable-requires
unreachable-requires c =
    let n = subst (λ l. IsFed c.tasks.bank (reverse l) (length c.tasks.made.items))
    (nothing c.tasks.tasks.items (omega (arith, c.in_default.ensures.cases.0, c.tasks.tasks.ok))) c.tasks.invariant.fed in
    omega (arith, n, c.in_default-pop.ensures.cases.0, c.tasks.made.ok)

pub returns-in_default-clause-tree : goal.returns-in_default-clause-tree
returns-in_default-clause-tree c = λ nb nv vs w a ar k h.
    c.in_ok-new.ensures.tree ∙
    instance_ends (length vs) (values_of c.args.bank.now vs) (renewing c.args.values.types) c.tasks.bank c.tasks.tasks.items c.tasks.made.items _
    c.in-Some-pop.last _ (nothing c.tasks.tasks.items (omega (arith, c.in_default.ensures.cases.0, c.tasks.tasks.ok)))
    c.in-Some-pop.ensures.items
    (c.tasks.invariant.left nb nv vs w (values_of c.args.bank.now vs) (values_stand c.args.bank.now vs a) (written_begins ar k (length vs) (tree c.args.bank.now c.args.term.0) h))
