use Rattle.std.proofs.Common.{arith, ◌∙◌, ◌∷◌, refl, subst, sym, ◌≡◌}
use Rattle.lp_term.proofs.Trees.{extends-trans, extends_same}
use Rattle.lp_term.specs.Nodes.{tree, type_tree, Extends, Nodes}
use Rattle.lp_cert.specs.Run.{focusing}
use Rattle.lp_cert.proofs.Later.{applied_later, closed_type_inside}
use Rattle.lp_cert.proofs.Stepping.{goes_on, stays_with}
use Rattle.lp_cert.proofs.Going.{focus_all_goes}
use Rattle.lp_cert.specs.Same.{terms_in, types_in}
use Rattle.lp_cert.specs.inner.Left.{jobs_of}
use Rattle.lp_cert.specs.inner.Turned.{At}
use Rattle.lp_cert.proofs.Turning.{goes_to, pushed_turned}
use Rattle.lp_cert.proofs.Ready.{applied_ready, ready_later}
use Rattle.lp_cert.proofs.Nodewise.{binder_type, further, other_ready, witness_read}
use Rattle.lp_cert.specs.Written.{focus_witness}
use Rattle.lp_cert.specs.declared.work.Task.TheVariants as task
use Rattle.lp_calculus.specs.Term.{app}
use Rattle.lp_cert.proofs.work.Work.focus_all.Goals as goal

pub returns-clause-goes : goal.returns-clause-goes
returns-clause-goes c =
    goes_on c.focus_on.result _ _ c.focus_on.ensures.left (λ p b g ns h.
    let on = c.in_ok-next.ensures.kept in
    let long = extends-trans _ _ _ on g in
    let l = c.in-Some.ensures.inside in
    let m = c.in_ok-is_witness.ensures.kept.more_terms in
    focus_all_goes b c.args.self.now ns (tree b c.args.clause.0) (tree b c.args.atom.0) (tree b c.in-Some.body.0) (tree b c.in_ok-next.next.0)
    c.in-Some.of c.args.value (c.in-Some.ensures.later b (extends-trans _ _ _ c.in_ok-is_witness.ensures.kept long))
    (c.in_ok-is_witness.ensures.witness c.if-not-branch.false b long)
    (applied_later _ _ b c.in-Some.body.0 c.args.value.0 c.in_ok-next.next.0 on g (omega (arith, l, m)) (c.in_ok-is_witness.ensures.inside c.if-not-branch.false) c.in_ok-next.ensures.within c.in_ok-next.ensures.tree)
    (stays_with b c.args.self.now c.is_witness.new.self (focusing (tree b c.in_ok-next.next.0) (tree b c.args.atom.0)) ns c.in_ok-is_witness.ensures.stays (p b ns h)))

pub returns-in_default-clause-turned : goal.returns-in_default-clause-turned
returns-in_default-clause-turned c = λ w g d l b h k. c.in_default.ensures.none refl k.0 k.1 (sym (h.same_terms c.args.clause.0 g.0) ∙ k.2)

pub returns-then-not-branch-clause-turned : goal.returns-then-not-branch-clause-turned
returns-then-not-branch-clause-turned c = λ w g d l b h k.
    let t = binder_type c.args.bank.now c.args.clause c.in-Some.body c.in-Some.of _ (c.in-Some.ensures.later c.args.bank.now (extends_same c.args.bank.now)) g c.in-Some.ensures.inside in
    c.in_ok-is_witness.ensures.never c.if-not-branch.true w.settled l (closed_type_inside c.args.bank.now c.in-Some.of.0 t.1) b h
    (witness_read b c.args.self.now (tree b c.args.clause.0) k.1 (tree b c.in-Some.body.0) k.0 _ c.args.value c.in-Some.of k.2 (c.in-Some.ensures.later b (extends-trans _ _ _ c.in_ok-is_witness.ensures.kept h)) k.3)

pub returns-clause-turned : goal.returns-clause-turned
returns-clause-turned c = pushed_turned c.focus_on.result _ _ c.focus_on.ensures.pushes (λ p w g d l.
    let on = c.in_ok-is_witness.ensures.kept in
    let off = c.in_ok-next.ensures.kept in
    let long = extends-trans _ _ _ on off in
    let s = extends_same c.args.bank.now in
    let t = binder_type c.args.bank.now c.args.clause c.in-Some.body c.in-Some.of _ (c.in-Some.ensures.later c.args.bank.now s) g c.in-Some.ensures.inside in
    let value = other_ready c.args.bank.now _ c.args.value _ long l (c.in_ok-is_witness.ensures.closed c.if-not-branch.false) in
    let made : (b : Nodes) → Extends c.put_applied.new.bank b → tree b c.in_ok-next.next.0 ≡ app (tree b c.in-Some.body.0)
    (tree b c.args.value.0) = λ b h. applied_later _ _ b c.in-Some.body.0 c.args.value.0 c.in_ok-next.next.0 off h
    (further _ _ c.in-Some.body on c.in-Some.ensures.inside) (c.in_ok-is_witness.ensures.inside c.if-not-branch.false) c.in_ok-next.ensures.within
    c.in_ok-next.ensures.tree in
    goes_to c.args.bank.now _ c.args.self.now c.is_witness.new.self c.focus_on.new.self (λ b. focusing (tree b c.args.clause.0) (tree b c.args.atom.0)) (λ b. focus_witness (tree b c.args.value.0)) long c.in_ok-is_witness.ensures.stays (task.Focus c.in_ok-next.next c.args.atom) p w
    (applied_ready _ c.in_ok-next.next c.in-Some.body c.args.value (made _ (extends_same _)) c.in_ok-next.ensures.within (ready_later _ _ c.in-Some.body long t.0) value, ready_later _ _ c.args.atom long d)
    (λ b h at. (
      type_tree b c.in-Some.of.0,
      tree b c.in-Some.body.0,
      c.in-Some.ensures.later b (extends-trans _ _ _ long h),
      c.in_ok-is_witness.ensures.witness c.if-not-branch.false b (extends-trans _ _ _ off h),
      subst
          (λ X. At b c.focus_on.new.self (types_in b c.args.self.now.eigens.items) (terms_in b c.args.self.now.assumed.items)
          (focusing X (tree b c.args.atom.0) ∷ jobs_of b c.args.self.now.tasks.items)) (made b h) at,
    )))
