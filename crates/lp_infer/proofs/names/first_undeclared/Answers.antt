use Rattle.std.proofs.Common.{◌≡◌, ◌<◌, ◌∙◌, ◌∷◌, ◌++◌, [], length, ap, sym, subst, reverse, arith}
use Rattle.std.proofs.lemmas.List.{nil_from_length}
use Rattle.lp_lemmas.proofs.Lists.{reverse_pushed}
use Rattle.lp_infer.specs.Scanning.{Scanned}
use Rattle.lp_infer.specs.inner.Rooms.{turns}
use Rattle.lp_infer.specs.declared.names.Task.TheVariants.{Visit}
use Rattle.lp_infer.proofs.Scanning.{begun, ended}
use Rattle.lp_infer.proofs.names.first_undeclared.Goals as goal

pub loop-task-init : goal.loop-task-init
loop-task-init c =
    let raw = c.args.raw.now in
    let many : c.len.result ≡ length raw.nodes.items = omega (arith, c.len.ensures, raw.nodes.ok) in
    let all = c.in_ok-push.ensures.items ∙ ap (λ xs. xs ++ Visit raw.root c.len.result ∷ []) c.new-work.ensures.items in
    subst (Scanned c.args.signature.now c.args.source.now raw.nodes.items raw.root c.new-names.result)
    (sym (reverse_pushed c.push.new.self.items [] (Visit raw.root c.len.result) all ∙ ap (λ n. Visit raw.root n ∷ []) many))
    (begun c.args.signature.now c.args.source.now raw.nodes.items raw.root c.new-names.result c.new-names.ensures.fault c.new-names.ensures.level)

pub returns : goal.returns
returns c =
    ended c.args.signature.now c.args.source.now c.args.raw.now.nodes.items c.args.raw.now.root c.loop-task.names
    (subst (λ l. Scanned c.args.signature.now c.args.source.now c.args.raw.now.nodes.items c.args.raw.now.root c.loop-task.names (reverse l)) (nil_from_length c.loop-task.work.items (omega (arith, c.in_default.ensures.cases.0, c.loop-task.work.ok))) c.loop-task.invariant)

pub loop-task-preserved : goal.loop-task-preserved
loop-task-preserved c =
    c.in_ok-take.ensures.scanned c.args.raw.now.root
    (subst (Scanned c.args.signature.now c.args.source.now c.args.raw.now.nodes.items c.args.raw.now.root c.loop-task.names) (reverse_pushed c.loop-task.work.items c.pop.new.self.items c.in-Some.task c.in-Some.ensures.items) c.loop-task.invariant)

pub loop-task-smaller : goal.loop-task-smaller
loop-task-smaller c =
    subst (λ l. turns (reverse c.take.new.work.items) < turns l) (sym (reverse_pushed c.loop-task.work.items c.pop.new.self.items c.in-Some.task c.in-Some.ensures.items)) c.in_ok-take.ensures.fewer
