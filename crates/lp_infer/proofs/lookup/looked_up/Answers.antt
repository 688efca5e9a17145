use Rattle.std.proofs.Common.{◌≡◌, ◌^◌, ◌<◌, ◌≤◌, ◌∙◌, ◌∷◌, ◌++◌, [], true, ap, sym, subst, length, reverse, arith}
use Rattle.std.proofs.lemmas.List.{nil_from_length, length-reverse}
use Rattle.lp_lemmas.proofs.Lists.{reverse_pushed}
use Rattle.lp_infer.specs.Visits.{Looked, TaskDone}
use Rattle.lp_infer.specs.inner.Turns.{turns}
use Rattle.lp_infer.specs.declared.lookup.Task.TheVariants as task
use Rattle.lp_infer.proofs.LookedUp.{ended}
use Rattle.lp_infer.proofs.Turns.{few_open}
use Rattle.lp_infer.proofs.lookup.looked_up.Goals as goal

pub loop-task-init : goal.loop-task-init
loop-task-init c =
    let all = c.in_ok-push.ensures.items ∙ ap (λ xs. xs ++ task.Visit c.args.raw.now.root ∷ []) c.new-work.ensures.items in
    subst (Looked c.args.signature.now c.args.source.now c.args.raw.now.nodes.items c.args.raw.now.root c.new-lookup.result) (sym (reverse_pushed c.push.new.self.items [] (task.Visit c.args.raw.now.root) all))
    (c.new-lookup.ensures c.args.signature.now c.args.source.now c.args.raw.now.nodes.items c.args.raw.now.root)

pub returns : goal.returns
returns c =
    ended c.args.signature.now c.args.source.now c.args.raw.now.nodes.items c.args.raw.now.root c.loop-task.lookup
    (subst (λ l. Looked c.args.signature.now c.args.source.now c.args.raw.now.nodes.items c.args.raw.now.root c.loop-task.lookup (reverse l)) (nil_from_length c.loop-task.work.items (omega (arith, c.in_default.ensures.cases.0, c.loop-task.work.ok))) c.loop-task.invariant)

pub returns-then-not-branch : goal.returns-then-not-branch
returns-then-not-branch c =
    subst (λ ok. TaskDone ok c.args.signature.now c.args.source.now c.args.raw.now.nodes.items c.args.raw.now.root c.take.new.self (reverse c.take.new.work.items)) c.if-not-branch.true
    (c.in_ok-take.ensures.looked c.args.raw.now.root
    (subst (Looked c.args.signature.now c.args.source.now c.args.raw.now.nodes.items c.args.raw.now.root c.loop-task.lookup) (reverse_pushed c.loop-task.work.items c.pop.new.self.items c.in-Some.task c.in-Some.ensures.items) c.loop-task.invariant))

pub loop-task-preserved : goal.loop-task-preserved
loop-task-preserved c =
    subst (λ ok. TaskDone ok c.args.signature.now c.args.source.now c.args.raw.now.nodes.items c.args.raw.now.root c.take.new.self (reverse c.take.new.work.items)) c.if-not-branch.false
    (c.in_ok-take.ensures.looked c.args.raw.now.root
    (subst (Looked c.args.signature.now c.args.source.now c.args.raw.now.nodes.items c.args.raw.now.root c.loop-task.lookup) (reverse_pushed c.loop-task.work.items c.pop.new.self.items c.in-Some.task c.in-Some.ensures.items) c.loop-task.invariant))

pub loop-task-smaller : goal.loop-task-smaller
loop-task-smaller c =
    subst (λ l. turns (reverse c.take.new.work.items) < turns l) (sym (reverse_pushed c.loop-task.work.items c.pop.new.self.items c.in-Some.task c.in-Some.ensures.items)) (c.in_ok-take.ensures.fewer c.if-not-branch.false)

pub take-requires-clause-depth : goal.take-requires-clause-depth
take-requires-clause-depth c =
    let I = c.loop-task.invariant in
    let work = c.loop-task.work in
    let few = few_open c.args.source.now I.scope (reverse work.items) I.are_open in
    omega (arith, few, I.has_scope.depth, length-reverse work.items, work.ok, work.small)

pub take-requires-clause-notes : goal.take-requires-clause-notes
take-requires-clause-notes c = c.loop-task.invariant.notes
