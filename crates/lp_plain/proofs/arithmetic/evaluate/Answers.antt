use Rattle.std.proofs.Common.{◌∙◌, ◌++◌, ◌∷◌, [], ap, arith, length, refl, reverse, subst, sym}
use Rattle.lp_term.proofs.Trees.{extends_same}
use Rattle.lp_plain.specs.declared.arithmetic.Task.TheVariants as task
use Rattle.lp_plain.specs.inner.Evaluating.{GoesServed, IsStepOn, Serves}
use Rattle.lp_plain.proofs.Evaluations.{on_way}
use Rattle.lp_plain.proofs.GoingBank.{bank_then}
use Rattle.lp_plain.proofs.arithmetic.evaluate.Goals as goal

pub tasks-init : goal.tasks-init
tasks-init c =
    let m = c.args.machine.now in
    record {
      bank = record { bank = extends_same m.bank; same = refl };
      way = on_way m c.args.term _ _ (c.in_ok-push.ensures.items ∙ ap (λ l. l ++ task.Visit c.args.term ∷ []) c.new-tasks.ensures.items) c.new-values.ensures.items;
      served = subst (λ x. Serves (reverse x) (length c.new-values.result.items)) (sym (c.in_ok-push.ensures.items ∙ ap (λ l. l ++ task.Visit c.args.term ∷ []) c.new-tasks.ensures.items))
          (let k = ap length c.new-values.ensures.items in omega (arith, k));
    }

pub tasks-preserved : goal.tasks-preserved
tasks-preserved c =
    let m = c.args.machine.now in
    let q = c.tasks.machine in
    let r = c.go_on.new.machine in
    let i = c.tasks.invariant in
    let e = c.in_ok-count.ensures in
    record {
      bank = bank_then m q r i.bank e.bank;
      way = subst (λ s. IsStepOn s m r c.args.term c.go_on.new.tasks.items c.go_on.new.values.items) c.in-On.is (e.goes m c.args.term i.bank i.way);
      served = (subst (λ s. GoesServed s c.tasks.visited c.tasks.tasks.items c.go_on.new.tasks.items c.go_on.new.values.items) c.in-On.is e.served).0;
    }

pub tasks-smaller : goal.tasks-smaller
tasks-smaller c = (subst (λ s. GoesServed s c.tasks.visited c.tasks.tasks.items c.go_on.new.tasks.items c.go_on.new.values.items) c.in-On.is c.in_ok-count.ensures.served).1

pub go_on-requires : goal.go_on-requires
go_on-requires c = c.tasks.invariant.served

pub returns-in-End-clause-bank : goal.returns-in-End-clause-bank
returns-in-End-clause-bank c = bank_then c.args.machine.now c.tasks.machine c.go_on.new.machine c.tasks.invariant.bank c.in_ok-count.ensures.bank

pub returns-in-End-clause-value : goal.returns-in-End-clause-value
returns-in-End-clause-value c =
    let i = c.tasks.invariant in
    subst (λ s. IsStepOn s c.args.machine.now c.go_on.new.machine c.args.term c.go_on.new.tasks.items c.go_on.new.values.items) c.in-End.is
    (c.in_ok-count.ensures.goes c.args.machine.now c.args.term i.bank i.way)
