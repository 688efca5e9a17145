use Rattle.std.proofs.Common.{◌∙◌, ◌++◌, ◌∷◌, [], refl, ap, sym, subst, arith, reverse, inr}
use Rattle.std.proofs.lemmas.List.{nil_from_length}
use Rattle.lp_lemmas.proofs.Lists.{reverse_pushed}
use Rattle.lp_term.proofs.Within.{kept_then}
use Rattle.lp_term.proofs.Trees.{extends_same}
use Rattle.lp_sig.specs.Copying.{InRange, AreInRange}
use Rattle.lp_sig.specs.inner.Tasks.{HasCopy, AreParts, AllGo}
use Rattle.lp_sig.proofs.Tasks.{next_goes}
use Rattle.lp_sig.specs.declared.interned.Task.TheVariants.{Visit}
use Rattle.lp_sig.proofs.Copies.{task_taken, rest_in_range}
use Rattle.lp_sig.proofs.Instances.{nothing_copied}
use Rattle.lp_sig.proofs.store.Types.copied.Goals as goal

pub tasks-init : goal.tasks-init
tasks-init c = record {
  kept = extends_same c.args.self.now.bank;
  in_range = subst (AreInRange c.args.self.now.bank) (sym (c.in_ok-push.ensures.items ∙ ap (λ w. w ++ Visit c.args.body ∷ []) c.new-work.ensures.items)) (c.requires.body, tt);
  goes = subst (λ w. AllGo c.args.self.now.bank c.args.body.0 (HasCopy c.new-made.result) (reverse w)) (sym (c.in_ok-push.ensures.items ∙ ap (λ w. w ++ Visit c.args.body ∷ []) c.new-work.ensures.items)) (inr refl);
  copies = nothing_copied c.args.self.now.bank c.args.self.now.bank c.args.args.now c.new-made.result c.new-made.ensures.empty;
}

pub tasks-preserved : goal.tasks-preserved
tasks-preserved c =
    let b = c.args.self.now.bank in
    let r = rest_in_range b c.tasks.work.items c.pop.new.self.items c.in-Some.task c.in-Some.ensures.items c.tasks.invariant.in_range in
    record {
      kept = kept_then b c.tasks.self.bank c.take.new.self.bank c.tasks.invariant.kept c.take.ensures.kept;
      in_range = (c.in_ok-take.ensures.falls b c.tasks.invariant.kept r.1 r.0).0;
      goes = c.in_ok-take.ensures.goes b c.args.body.0 c.tasks.invariant.kept r.1 (subst (AllGo b c.args.body.0 (HasCopy c.tasks.made)) (reverse_pushed c.tasks.work.items c.pop.new.self.items c.in-Some.task c.in-Some.ensures.items) c.tasks.invariant.goes);
      copies = c.in_ok-take.ensures.copies b c.tasks.invariant.kept r.1 c.requires.args c.tasks.invariant.copies;
    }

pub tasks-smaller : goal.tasks-smaller
tasks-smaller c =
    let b = c.args.self.now.bank in
    let r = rest_in_range b c.tasks.work.items c.pop.new.self.items c.in-Some.task c.in-Some.ensures.items c.tasks.invariant.in_range in
    task_taken b c.tasks.work.items c.pop.new.self.items c.take.new.work.items c.in-Some.task c.in-Some.ensures.items (c.in_ok-take.ensures.falls b c.tasks.invariant.kept r.1 r.0).1

pub returns-in_err-take-clause-kept : goal.returns-in_err-take-clause-kept
returns-in_err-take-clause-kept c = kept_then c.args.self.now.bank c.tasks.self.bank c.take.new.self.bank c.tasks.invariant.kept c.take.ensures.kept

pub returns-clause-kept : goal.returns-clause-kept
returns-clause-kept c = c.tasks.invariant.kept

pub returns-clause-tree : goal.returns-clause-tree
returns-clause-tree c = c.tasks.invariant.copies c.args.body.0 c.copy_of.result.0 c.copy_of.ensures

pub take-requires : goal.take-requires
take-requires c = λ id is.
    let b = c.args.self.now.bank in
    let r = rest_in_range b c.tasks.work.items c.pop.new.self.items c.in-Some.task c.in-Some.ensures.items c.tasks.invariant.in_range in
    let go = subst (AllGo b c.args.body.0 (HasCopy c.tasks.made)) (reverse_pushed c.tasks.work.items c.pop.new.self.items c.in-Some.task c.in-Some.ensures.items) c.tasks.invariant.goes in
    subst (AreParts (HasCopy c.tasks.made)) (sym (c.tasks.invariant.kept.types_stay id.0 (subst (InRange b) is r.1))) (next_goes b c.args.body.0 (HasCopy c.tasks.made) id c.in-Some.task (reverse c.pop.new.self.items) is go)

pub copy_of-requires : goal.copy_of-requires
copy_of-requires c =
    let none = nil_from_length c.tasks.work.items (omega (arith, c.in_default.ensures.cases.0, c.tasks.work.ok)) in
    subst (λ w. AllGo c.args.self.now.bank c.args.body.0 (HasCopy c.tasks.made) (reverse w)) none c.tasks.invariant.goes
