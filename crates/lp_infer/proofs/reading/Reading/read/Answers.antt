use Rattle.std.proofs.Common.{◌<◌, ◌∙◌, sym, ap, subst, refl, inl, ◌∷◌, reverse, arith}
use Rattle.std.proofs.lemmas.List.{append-nil, nil_from_length}
use Rattle.lp_lemmas.proofs.Lists.{reverse_pushed}
use Rattle.lp_infer.specs.Numbering.{type_variables}
use Rattle.lp_infer.specs.Meeting.{met}
use Rattle.lp_infer.specs.ReadingOff.{bound_type, pending, cost}
use Rattle.lp_infer.specs.declared.reading.Task.TheVariants as task
use Rattle.lp_term.proofs.Trees.{extends_same, extends-trans}
use Rattle.lp_infer.specs.inner.Waiting.{WasRead, Serves}
use Rattle.lp_infer.proofs.Memos.{reads_one}
use Rattle.lp_infer.proofs.reading.Reading.read.Goals as goal

pub loop-task-init : goal.loop-task-init
loop-task-init c =
    let A = bound_type c.args.from.now c.args.bindings.now.made in
    record {
      kept = extends_same c.args.to.now;
      memo = λ M. M;
      order = λ M.
          ap (λ l. met c.args.self.now.numbers.keys (pending A l)) (reverse_pushed c.push.new.self.items c.new-work.result.items (task.Visit c.args.id) c.in_ok-push.ensures.items ∙ ap (λ l. task.Visit c.args.id ∷ reverse l) c.new-work.ensures.items) ∙
          ap (met c.args.self.now.numbers.keys) (append-nil (type_variables (A c.args.id.0)));
      serves =
          subst (Serves A c.args.from.now c.args.id.0 (WasRead c.args.self.now))
          (sym (reverse_pushed c.push.new.self.items c.new-work.result.items (task.Visit c.args.id) c.in_ok-push.ensures.items ∙ ap (λ l. task.Visit c.args.id ∷ reverse l) c.new-work.ensures.items))
          (c.requires.known, inl refl);
    }

pub loop-task-preserved : goal.loop-task-preserved
loop-task-preserved c =
    let A = bound_type c.args.from.now c.args.bindings.now.made in
    record {
      kept = extends-trans c.args.to.now c.loop-task.to c.take.new.to c.loop-task.invariant.kept c.take.ensures.kept;
      memo = λ M. c.in_ok-take.ensures.taken.memo (c.loop-task.invariant.memo M);
      order = λ M.
          c.in_ok-take.ensures.taken.order (c.loop-task.invariant.memo M) ∙
          ap (λ l. met c.loop-task.self.numbers.keys (pending A l)) (sym (reverse_pushed c.loop-task.work.items c.pop.new.self.items c.in-Some.task c.in-Some.ensures.items)) ∙ c.loop-task.invariant.order M;
      serves = c.in_ok-take.ensures.serves c.args.id.0 (subst (Serves A c.args.from.now c.args.id.0 (WasRead c.loop-task.self)) (reverse_pushed c.loop-task.work.items c.pop.new.self.items c.in-Some.task c.in-Some.ensures.items) c.loop-task.invariant.serves);
    }

pub returns-clause-read : goal.returns-clause-read
returns-clause-read c =
    let A = bound_type c.args.from.now c.args.bindings.now.made in
    reads_one A c.args.to.now c.loop-task.to c.args.self.now c.loop-task.self c.args.id.0 c.part.result c.loop-task.work.items
    (nil_from_length c.loop-task.work.items (omega (arith, c.in_default.ensures.cases.0, c.loop-task.work.ok))) c.loop-task.invariant.memo
    c.loop-task.invariant.order (c.part.ensures A c.loop-task.to)

pub part-requires : goal.part-requires
part-requires c =
    subst (λ l. Serves (bound_type c.args.from.now c.args.bindings.now.made) c.args.from.now c.args.id.0 (WasRead c.loop-task.self) (reverse l))
    (nil_from_length c.loop-task.work.items (omega (arith, c.in_default.ensures.cases.0, c.loop-task.work.ok))) c.loop-task.invariant.serves

pub take-requires-clause-serves : goal.take-requires-clause-serves
take-requires-clause-serves c =
    let A = bound_type c.args.from.now c.args.bindings.now.made in
    (c.args.id.0, subst (Serves A c.args.from.now c.args.id.0 (WasRead c.loop-task.self)) (reverse_pushed c.loop-task.work.items c.pop.new.self.items c.in-Some.task c.in-Some.ensures.items) c.loop-task.invariant.serves)

pub loop-task-smaller : goal.loop-task-smaller
loop-task-smaller c =
    let A = bound_type c.args.from.now c.args.bindings.now.made in
    subst (λ l. cost A (reverse c.take.new.work.items) < cost A l) (sym (reverse_pushed c.loop-task.work.items c.pop.new.self.items c.in-Some.task c.in-Some.ensures.items)) c.in_ok-take.ensures.fewer
