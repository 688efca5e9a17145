use Rattle.std.proofs.Common.{arith, ap, ◌∙◌, ◌∷◌, refl, subst, sym, suc, length, ◌++◌, [], ◌≡◌}
use Rattle.lp_term.proofs.Trees.{extends-trans, extends_same}
use Rattle.lp_calculus.specs.Term.{app, atom, eigen}
use Rattle.lp_term.specs.Nodes.{tree, type_tree, Nodes, Extends}
use Rattle.lp_cert.proofs.Later.{applied_later, closed_type_inside}
use Rattle.lp_cert.proofs.Stepping.{goes_on}
use Rattle.lp_cert.proofs.Going.{all_goes}
use Rattle.lp_cert.specs.Same.{terms_in, types_in}
use Rattle.lp_cert.specs.inner.Left.{jobs_of}
use Rattle.lp_cert.specs.inner.Turned.{At}
use Rattle.std.proofs.lemmas.List.{length-map}
use Rattle.lp_cert.proofs.Turning.{goes_under_eigen, pushed_turned}
use Rattle.lp_cert.proofs.Ready.{applied_ready, ready_later}
use Rattle.lp_cert.proofs.Nodewise.{binder_type, further, eigen_ready, level_counted}
use Rattle.lp_cert.specs.Run.{proving, leaving_eigen}
use Rattle.lp_cert.specs.declared.work.Task.TheVariants as task
use Rattle.lp_cert.specs.Written.{general}
use Rattle.lp_calculus.specs.Closed.{IsClosedType}
use Rattle.lp_cert.proofs.work.Work.for_all.Goals as goal

pub returns-clause-goes : goal.returns-clause-goes
returns-clause-goes c =
    goes_on c.go_on.result _ _ c.go_on.ensures.left (λ p b g ns h.
    let on = c.in_ok-next.ensures.kept in
    let long = extends-trans _ _ _ on g in
    let l = c.in-Some.ensures.inside in
    let m = c.in_ok-eigen.ensures.kept.more_terms in
    all_goes b c.args.self.now ns c.push.new.self.items c.push-2.new.self.items (tree b c.args.goal.0) (tree b c.in-Some.body.0) (tree b c.in_ok-next.next.0) c.in-Some.of c.in-Some-checked_add.level c.in_ok-push.ensures.items c.in_ok-push-2.ensures.items
    (c.in-Some.ensures.later b (extends-trans _ _ _ c.in_ok-eigen.ensures.kept long)) (omega (arith, c.in-Some-checked_add.ensures.1, c.level.ensures))
    (applied_later _ _ b c.in-Some.body.0 c.in_ok-eigen.eigen.0 c.in_ok-next.next.0 on g (omega (arith, l, m)) c.in_ok-eigen.ensures.within
    c.in_ok-next.ensures.within c.in_ok-next.ensures.tree ∙ ap (app (tree b c.in-Some.body.0))
    (long.same_terms c.in_ok-eigen.eigen.0 c.in_ok-eigen.ensures.within ∙ c.in_ok-eigen.ensures.tree))
    (p b ns h))

pub returns-in_default-clause-turned : goal.returns-in_default-clause-turned
returns-in_default-clause-turned c = λ w g b h k. c.in_default.ensures.none refl k.0 k.1 (sym (h.same_terms c.args.goal.0 g.0) ∙ k.2)

pub returns-clause-turned : goal.returns-clause-turned
returns-clause-turned c = pushed_turned c.go_on.result _ _ c.go_on.ensures.pushes (λ p w g.
    let on = c.in_ok-eigen.ensures.kept in
    let off = c.in_ok-next.ensures.kept in
    let long = extends-trans _ _ _ on off in
    let s = extends_same c.args.bank.now in
    let t = binder_type c.args.bank.now c.args.goal c.in-Some.body c.in-Some.of _ (c.in-Some.ensures.later c.args.bank.now s) g c.in-Some.ensures.inside in
    let made : (b : Nodes) → Extends c.put_applied.new.bank b → tree b c.in_ok-next.next.0 ≡ app (tree b c.in-Some.body.0)
    (tree b c.in_ok-eigen.eigen.0) = λ b h. applied_later _ _ b c.in-Some.body.0 c.in_ok-eigen.eigen.0 c.in_ok-next.next.0 off h
    (further _ _ c.in-Some.body on c.in-Some.ensures.inside) c.in_ok-eigen.ensures.within c.in_ok-next.ensures.within c.in_ok-next.ensures.tree in
    let new_one : (b : Nodes) → Extends c.put_applied.new.bank b → tree b c.in_ok-eigen.eigen.0 ≡ atom (eigen c.in-Some-checked_add.level) = λ b h. (extends-trans _ _ _ off h).same_terms c.in_ok-eigen.eigen.0 c.in_ok-eigen.ensures.within ∙ c.in_ok-eigen.ensures.tree in
    let type_is = long.same_types c.in-Some.of.0 (closed_type_inside c.args.bank.now c.in-Some.of.0 t.1) in
    let level_is : (b : Nodes) → c.in-Some-checked_add.level ≡ suc (length (types_in b c.args.self.now.eigens.items)) = λ b. level_counted b c.args.self.now.eigens.items c.in-Some-checked_add.level (omega (arith, c.in-Some-checked_add.ensures.1, c.level.ensures)) in
    goes_under_eigen c.args.bank.now _ c.args.self.now _ c.go_on.new.self (λ b. proving (tree b c.args.goal.0)) (λ b. general) c.in-Some.of (task.Prove c.in_ok-next.next) long
    (record { theory = refl; eigens = c.in_ok-push.ensures.items; assumed = refl; tasks = c.in_ok-push-2.ensures.items }) p w (subst IsClosedType (sym type_is) t.1)
    (applied_ready _ c.in_ok-next.next c.in-Some.body c.in_ok-eigen.eigen (made _ (extends_same _)) c.in_ok-next.ensures.within
    (ready_later _ _ c.in-Some.body long t.0) (eigen_ready _ c.in_ok-eigen.eigen _
    (further _ _ c.in_ok-eigen.eigen off c.in_ok-eigen.ensures.within) (new_one _ (extends_same _))))
    (λ b h at. (
      type_tree b c.in-Some.of.0,
      tree b c.in-Some.body.0,
      c.in-Some.ensures.later b (extends-trans _ _ _ long h),
      subst (λ X. At b c.go_on.new.self (types_in b c.args.self.now.eigens.items ++ type_tree b c.in-Some.of.0 ∷ []) (terms_in b c.args.self.now.assumed.items) (proving X ∷ leaving_eigen ∷ jobs_of b c.args.self.now.tasks.items))
          (made b h ∙ ap (app (tree b c.in-Some.body.0)) (new_one b h ∙ ap (λ k. atom (eigen k)) (level_is b))) at,
    )))
