use Rattle.std.proofs.Common.{◌∙◌, refl, sym, subst, ◌∷◌, ap}
use Rattle.lp_term.proofs.Trees.{extends-trans, extends_same}
use Rattle.lp_term.specs.Nodes.{tree}
use Rattle.lp_cert.specs.Same.{types_in, terms_in}
use Rattle.lp_cert.specs.declared.work.Task.TheVariants as task
use Rattle.lp_cert.specs.Run.{focusing, proving}
use Rattle.lp_cert.proofs.Deriving.{some_is}
use Rattle.lp_cert.proofs.Naming.{types_found, types_inside, closed_types_later}
use Rattle.lp_cert.proofs.Stepping.{stays_trans, stays_with, task_pushed}
use Rattle.lp_cert.proofs.Going.{clause_goes}
use Rattle.lp_cert.proofs.Turning.{goes_to}
use Rattle.lp_cert.proofs.Ready.{ready_later, work_stays}
use Rattle.lp_cert.proofs.Nodewise.{types_open}
use Rattle.lp_calculus.specs.Spine.{head_of}
use Rattle.lp_model.specs.Proofs.{IsAtomHead}
use Rattle.lp_cert.specs.Written.{back_to}
use Rattle.lp_calculus.specs.Instance.{instance_term}
use Rattle.lp_calculus.specs.Typing.{type_at}
use Rattle.lp_cert.specs.inner.Left.{jobs_of}
use Rattle.lp_cert.specs.inner.Turned.{At}
use Rattle.lp_cert.proofs.work.Work.back.Goals as goal

pub returns-clause-goes : goal.returns-clause-goes
returns-clause-goes c = λ e b g ns h.
    let closed = sym c.in_ok-are_closed_types.ensures.closed ∙ c.if-not-branch.false in
    let long = extends-trans _ _ _ c.in_ok-found.ensures.kept g in
    let it = some_is _ c.in_ok-found.found c.in-Some.clause c.in-Some.is c.in_ok-found.ensures.clause (types_inside c.args.bank.now c.args.types.now closed) b g in
    clause_goes b c.args.self.now ns (tree b c.args.goal.0) (tree b c.in-Some.clause.0) c.args.number (types_in b c.args.types.now) it
    (closed_types_later c.args.bank.now b c.args.types.now long (types_found c.args.bank.now c.args.types.now closed))
    (c.is_atom.ensures.yes c.if-not-is_atom.false b long)
    (stays_with b c.args.self.now c.clause.new.self (focusing (tree b c.in-Some.clause.0) (tree b c.args.goal.0)) ns
    (stays_trans _ _ _ (record { theory = refl; eigens = refl; assumed = refl; tasks = refl }) c.in_ok-found.ensures.stays)
    (task_pushed b c.clause.new.self c.push.new.self.items (task.Focus c.in-Some.clause c.args.goal) ns c.in_ok-push.ensures.items h))

pub returns-then-not-is_atom-clause-turned : goal.returns-then-not-is_atom-clause-turned
returns-then-not-is_atom-clause-turned c = λ w g i b h k. c.is_atom.ensures.no c.if-not-is_atom.true (subst (λ t. IsAtomHead (head_of t)) (h.same_terms c.args.goal.0 g.0) k.4)

pub returns-then-not-branch-clause-turned : goal.returns-then-not-branch-clause-turned
returns-then-not-branch-clause-turned c = λ w g i b h k. types_open c.args.bank.now b c.args.types.now _ h i c.in_ok-are_closed_types.ensures.closed c.if-not-branch.true k.3

pub returns-in_default-clause-turned : goal.returns-in_default-clause-turned
returns-in_default-clause-turned c = λ w g i b h k.
    c.in_ok-found.ensures.none c.in_default.is (work_stays c.args.bank.now c.args.self.now _ (record { theory = refl; eigens = refl; assumed = refl; tasks = refl }) w) i b h
    (instance_term (type_at (types_in b c.args.types.now)) k.0.formula) (record { clause = k.0; at = k.1; count = k.2; is = refl })

pub returns-clause-turned : goal.returns-clause-turned
returns-clause-turned c = λ w g i.
    let kept = c.in_ok-found.ensures.kept in
    let closed = sym c.in_ok-are_closed_types.ensures.closed ∙ c.if-not-branch.false in
    let before = work_stays c.args.bank.now c.args.self.now _ (record { theory = refl; eigens = refl; assumed = refl; tasks = refl }) w in
    let types = types_found c.args.bank.now c.args.types.now closed in
    goes_to c.args.bank.now c.clause.new.bank c.args.self.now c.clause.new.self _ (λ b. proving (tree b c.args.goal.0)) (λ b. back_to c.args.number (types_in b c.args.types.now)) kept
    (stays_trans _ _ _ (record { theory = refl; eigens = refl; assumed = refl; tasks = refl }) c.in_ok-found.ensures.stays) (task.Focus c.in-Some.clause c.args.goal) (record { theory = refl; eigens = refl; assumed = refl; tasks = c.in_ok-push.ensures.items }) w
    (some_is _ c.in_ok-found.found c.in-Some.clause c.in-Some.is c.in_ok-found.ensures.ready before types, ready_later _ _ c.args.goal kept g) (λ b h at.
    let it = some_is _ c.in_ok-found.found c.in-Some.clause c.in-Some.is c.in_ok-found.ensures.clause i b h in (
      it.clause,
      it.at,
      it.count,
      closed_types_later c.args.bank.now b c.args.types.now (extends-trans _ _ _ kept h) types,
      c.is_atom.ensures.yes c.if-not-is_atom.false b (extends-trans _ _ _ kept h),
      (at.0, at.1, ap (λ X. focusing X (tree b c.args.goal.0) ∷ jobs_of b c.args.self.now.tasks.items) (sym it.is) ∙ at.2),
    ))
