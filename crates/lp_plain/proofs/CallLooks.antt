-- The goal of a call as the definition looks at it: its first argument is as it was looked at, or takes too many steps.
use Rattle.std.proofs.Common.{◌≡◌, ◌⊎◌, ℕ, zero, suc, ◌≤◌, List, [], ◌∷◌, map, refl, sym, ap, inl, inr, ◌∙◌, arith, Option, Some, None}
use Rattle.std.specs.Prelude.{option_map}
use Rattle.lp_calculus.specs.Convert.{steps}
use Rattle.lp_calculus.specs.Term.{Term, apply}
use Rattle.lp_calculus.specs.Spine.{arguments, head_of}
use Rattle.lp_term.specs.Nodes.{tree}
use Rattle.lp_term.specs.declared.node.TermId.{TermId}
use Rattle.lp_term.proofs.Frames.{some_of}
use Rattle.lp_model.specs.Look.{top_normal, weak_step}
use Rattle.lp_model.specs.Pair.{Closing, closed}
use Rattle.lp_model.specs.Search.{first_looked, goal_looked}
use Rattle.lp_pattern.specs.Turning.{IsOpenReading}
use Rattle.lp_pattern.proofs.VisitSteps.{far_none}
use Rattle.lp_plain.specs.declared.choice.Call.{Call}
use Rattle.lp_plain.specs.declared.machine.Machine.{Machine}
use Rattle.lp_plain.specs.HeadLooks.{LooksAt}
use Rattle.lp_plain.specs.Trials.{IsCallHead, goal_of, term_at, with_first_term}
use Rattle.lp_plain.proofs.HeadLooks.{alone_looked, closed_apply, ended_stays, head_closes}
use Rattle.lp_plain.proofs.Trials.{arguments_closed}

-- a look at the top comes to what steps lead to, where none leads on
top_same : (m p : ℕ) (t x v : Term) → top_normal m t ≡ Some x → steps weak_step p t ≡ Some v → weak_step v ≡ None → x ≡ v
top_same zero p t x v e f n = absurd (cc)
top_same (suc m) zero t x v e f n =
    let i : t ≡ v = cc in
    let q : Some t ≡ Some x = sym (ap (λ (o : Option Term). elim o as (λ z. Option Term) [ None ↦ Some t | Some s ↦ top_normal m s ]) (ap weak_step i ∙ n)) ∙ e in
    let j : t ≡ x = cc in
    sym j ∙ i
top_same (suc m) (suc p) t x v e f n = go (weak_step t) refl f e (λ s a b. top_same m p s x v a b n)
  where
    go : (o : Option Term) → weak_step t ≡ o → (elim o as (λ z. Option Term) [ None ↦ None | Some s ↦ steps weak_step p s ]) ≡ Some v →
        (elim o as (λ z. Option Term) [ None ↦ Some t | Some s ↦ top_normal m s ]) ≡ Some x → ((s : Term) → top_normal m s ≡ Some x → steps weak_step p s ≡ Some v → x ≡ v) → x ≡ v
    go None q a b k = absurd (cc)
    go (Some s) q a b k = k s b a

-- what was looked at, or nothing
looked_or_lacks : (m n : Machine) (t u : TermId) (z : Closing) → LooksAt m n t (Some u) → IsOpenReading m.bank m.bindings m.branch.next z → (k : ℕ) →
    (top_normal k (closed z (tree m.bank t.0)) ≡ None) ⊎ (top_normal k (closed z (tree m.bank t.0)) ≡ Some (closed z (tree n.bank u.0)))
looked_or_lacks m n t u z h y k = go (top_normal k (closed z (tree m.bank t.0))) refl
  where
    go : (o : Option Term) → top_normal k (closed z (tree m.bank t.0)) ≡ o → (o ≡ None) ⊎ (o ≡ Some (closed z (tree n.bank u.0)))
    go None e = inl refl
    go (Some s) e =
        let r = h.2 z y.reading in
        inr (ap (λ v. Some v) (top_same k r.0 (closed z (tree m.bank t.0)) s (closed z (tree n.bank u.0)) e r.2 (ended_stays m.bank m.bindings m.branch.next z y (tree n.bank u.0) h.1)))

-- it takes too many steps
deep_lacks : (m n : Machine) (t : TermId) (z : Closing) → LooksAt m n t None → IsOpenReading m.bank m.bindings m.branch.next z → (k : ℕ) → k ≤ 1000000 → top_normal k (closed z (tree m.bank t.0)) ≡ None
deep_lacks m n t z h y k l = let s = some_of (steps weak_step (suc 1000000) (closed z (tree m.bank t.0))) (h z y.reading) in far_none (suc 1000000) k (closed z (tree m.bank t.0)) s.0 (omega (arith, l)) s.1

-- the goal of a call
module _ (m n : Machine) (call : Call) (z : Closing) (goal : Term) (same : tree m.bank call.goal.0 ≡ goal) (same' : tree n.bank call.goal.0 ≡ goal) (head : IsCallHead (head_of goal)) (k : ℕ) where
  -- it has no argument
  pub alone_is : call.first ≡ None → arguments goal ≡ [] → goal_looked k (closed z goal) ≡ Some (closed z (goal_of n call))
  alone_is none empty = alone_looked m n call z k goal same same' head none empty

  looked_first : (a : Term) (more : List Term) → arguments goal ≡ a ∷ more → goal_looked k (closed z goal) ≡ option_map (λ s. apply (closed z (head_of goal)) (s ∷ map (closed z) more)) (top_normal k (closed z a))
  looked_first a more given = λ i. first_looked k (head_closes z goal head i) ((arguments_closed z goal [] head ∙ ap (map (closed z)) given) i)

  module _ (a u : TermId) (more : List Term) (given : arguments goal ≡ tree m.bank a.0 ∷ more) where
    made : call.first ≡ Some u → goal_of n call ≡ apply (head_of goal) (tree n.bank u.0 ∷ more)
    made first =
        (λ i. apply (head_of (same' i)) (with_first_term (term_at n.bank (first i)) (arguments (same' i)))) ∙ ap (λ ts. apply (head_of goal) (with_first_term (Some (tree n.bank u.0)) ts)) given

    pub first_is : call.first ≡ Some u → LooksAt m n a (Some u) → IsOpenReading m.bank m.bindings m.branch.next z → (goal_looked k (closed z goal) ≡ None) ⊎ (goal_looked k (closed z goal) ≡ Some (closed z (goal_of n call)))
    first_is first looks y =
        let f = λ (s : Term). apply (closed z (head_of goal)) (s ∷ map (closed z) more) in
        let l = looked_first (tree m.bank a.0) more given in
        elim (looked_or_lacks m n a u z looks y k) [
          | inl e ↦ inl (l ∙ ap (option_map f) e)
          | inr e ↦ inr (l ∙ ap (option_map f) e ∙ ap (λ t. Some t) (sym (closed_apply z (tree n.bank u.0 ∷ more) (head_of goal)) ∙ ap (closed z) (sym (made first))))
        ]

    pub first_lacks : LooksAt m n a None → IsOpenReading m.bank m.bindings m.branch.next z → k ≤ 1000000 → goal_looked k (closed z goal) ≡ None
    first_lacks looks y l = looked_first (tree m.bank a.0) more given ∙ ap (option_map (λ (s : Term). apply (closed z (head_of goal)) (s ∷ map (closed z) more))) (deep_lacks m n a z looks y k l)
