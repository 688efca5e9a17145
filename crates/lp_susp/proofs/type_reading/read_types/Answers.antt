use Rattle.std.proofs.Common.{◌≡◌, ◌∙◌, ◌<◌, ◌++◌, [], length, map, reverse, refl, sym, ap, subst, arith}
use Rattle.std.specs.Prelude.{All}
use Rattle.std.proofs.lemmas.List.{nil_from_length}
use Rattle.lp_store.specs.Reading.{ReadTypes}
use Rattle.lp_term.specs.Nodes.{type_tree}
use Rattle.lp_susp.specs.TypeWork.{Ran, IsThere, reads_of}
use Rattle.lp_susp.proofs.Chains.{all_front, all_last}
use Rattle.lp_susp.proofs.TypeWorks.{reads_run, there_all, bank_same, bank_on}
use Rattle.lp_susp.proofs.type_reading.read_types.Goals as goal

pub loop-task-init : goal.loop-task-init
loop-task-init c =
    let s = c.args.store.now in
    let q = c.in_ok-put_reads.ensures ∙ ap (λ l. l ++ reverse (reads_of c.items.result.now)) c.new-work.ensures.items in
    record {
      kept = bank_same c.args.bank.now;
      terms = refl;
      outs = subst (λ l. All (λ t. t.0 < length c.args.bank.now.types) l) (sym c.new-out.ensures.items) (λ k d h. absurd (omega arith));
      tasks = subst (λ l. All (IsThere s) l) (sym q) (there_all s c.items.result.now c.items.ensures.within);
      ran = λ Ts r.
          subst (λ l. Ran s l (map (λ t. type_tree c.args.bank.now t.0) c.new-out.result.items) Ts) (sym q)
          (subst (λ l. Ran s (reverse (reads_of c.items.result.now)) (map (λ t. type_tree c.args.bank.now t.0) l) Ts) (sym c.new-out.ensures.items)
          (reads_run s c.items.result.now Ts (subst (λ l. ReadTypes s (map (λ t. t.0) l) Ts) (sym c.items.ensures.items) r) []));
    }

pub returns-in_default-clause-types : goal.returns-in_default-clause-types
returns-in_default-clause-types c = λ Ts r.
    let n : c.loop-task.work.items ≡ [] = nil_from_length c.loop-task.work.items (omega (arith, c.in_default.ensures.cases.0, c.loop-task.work.ok)) in
    subst (λ l. Ran c.args.store.now l (map (λ t. type_tree c.loop-task.bank t.0) c.loop-task.out.items) Ts) n (c.loop-task.invariant.ran Ts r)

pub type_step-requires-clause-tasks : goal.type_step-requires-clause-tasks
type_step-requires-clause-tasks c =
    all_front (IsThere c.args.store.now) c.pop.new.self.items c.in-Some.task (subst (λ l. All (IsThere c.args.store.now) l) c.in-Some.ensures.items c.loop-task.invariant.tasks)

pub type_step-requires-clause-task : goal.type_step-requires-clause-task
type_step-requires-clause-task c =
    all_last (IsThere c.args.store.now) c.pop.new.self.items c.in-Some.task (subst (λ l. All (IsThere c.args.store.now) l) c.in-Some.ensures.items c.loop-task.invariant.tasks)

pub returns-in_err-type_step-clause-kept : goal.returns-in_err-type_step-clause-kept
returns-in_err-type_step-clause-kept c = bank_on c.args.bank.now c.loop-task.bank c.type_step.new.bank c.loop-task.invariant.kept c.in_err-type_step.ensures.kept

pub loop-task-preserved : goal.loop-task-preserved
loop-task-preserved c = record {
  kept = bank_on c.args.bank.now c.loop-task.bank c.type_step.new.bank c.loop-task.invariant.kept c.in_ok-type_step.ensures.kept;
  terms = c.in_ok-type_step.ensures.terms ∙ c.loop-task.invariant.terms;
  outs = c.in_ok-type_step.ensures.outs;
  tasks = c.in_ok-type_step.ensures.tasks;
  ran = λ Ts r.
      c.in_ok-type_step.ensures.ran Ts
      (subst (λ l. Ran c.args.store.now l (map (λ t. type_tree c.loop-task.bank t.0) c.loop-task.out.items) Ts) c.in-Some.ensures.items (c.loop-task.invariant.ran Ts r));
}
