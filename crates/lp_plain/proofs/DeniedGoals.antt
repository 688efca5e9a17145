-- The search of a negated goal begins as the definition's does.
use Rattle.std.proofs.Common.{◌≡◌, ℕ, zero, suc, ◌+◌, ◌-◌, ◌≤◌, List, [], ◌∷◌, ◌++◌, length, take, ◌<◌, refl, sym, ap, ◌∙◌, subst, arith, append-nil, false, Option, Some}
use Rattle.std.proofs.lemmas.List.Elements.{All-nil}
use Rattle.std.proofs.lemmas.List.{length-append}
use Rattle.lp_calculus.specs.Term.{Term}
use Rattle.lp_model.specs.Branch.{Branch, Task, entries}
use Rattle.lp_model.specs.Flat.{Goals, Written, Not, goal_list}
use Rattle.lp_model.specs.Search.{look_not}
use Rattle.lp_plain.specs.declared.choice.Choice.{Choice}
use Rattle.lp_plain.specs.declared.choice.Untried.{Untried}
use Rattle.lp_plain.specs.declared.frame.Place.{Place}
use Rattle.lp_plain.specs.declared.machine.Machine.{Machine}
use Rattle.lp_plain.specs.Entries.{Around, GrowsGoals, IsBehind, IsOf, Reads, entry_at, in_scope, placed}
use Rattle.lp_plain.specs.Keeping.{HasOneMore}
use Rattle.lp_plain.specs.Negations.{IsDenied}
use Rattle.lp_plain.specs.Stacks.{HaveTasks, IsMarkOf, base_of, stack_of}
use Rattle.lp_plain.specs.Within.{StandsIn}
use Rattle.lp_plain.proofs.Growing.{of_later}

take_none : {X : Type 0} (n : ℕ) (xs : List X) → xs ≡ [] → take n xs ≡ []
take_none zero xs e = refl
take_none (suc n) xs e = ap (take (suc n)) e

-- above the alternative that leads back there is none
no_tasks : (m : Machine) (k : ℕ) → m.denied ≡ Some k → length m.choices.items ≡ suc k → HaveTasks m []
no_tasks m k e c = record {
  count = subst (λ d. base_of d + 0 ≡ length m.choices.items) (sym e) (omega (arith, c));
  tasks = All-nil (λ (ts : List Task). 0 < length ts);
}

no_mark : (m : Machine) (k : ℕ) → m.denied ≡ Some k → length m.choices.items ≡ suc k → IsMarkOf m [] (length m.choices.items) 0
no_mark m k e c = (
  subst (λ d. base_of d ≤ length m.choices.items) (sym e) (omega (arith, c)),
  sym (ap (λ tss. length (stack_of tss)) (take_none (length m.choices.items - base_of m.denied) [] refl)),
)

pub one_longer : (m n : List Choice) (u : Untried) → HasOneMore m n u → length n ≡ suc (length m)
one_longer m n u h = let e : length n ≡ length m + 1 = ap length h.more ∙ length-append m (h.choice ∷ []) in omega (arith, e)

pub inner_begun : (m r : Machine) (p q : Place) (k : ℕ) (a : Around) (hs : Goals) (σ : ℕ → Term) (b : Branch) (w : Written) → q.values ≡ p.values →
    q.assumed ≡ p.assumed → q.standing ≡ p.standing → q.level ≡ p.level → q.mark ≡ length r.choices.items →
    Reads r a r.branch.goals (placed a q (goal_list (in_scope σ p.values.types hs)) ++ []) → r.branch.next ≡ m.branch.next → r.branch.next_type ≡
    m.branch.next_type → r.branch.pairs.items ≡ [] → r.denied ≡ Some k → length r.choices.items ≡ suc k → m.branch.next ≡ b.next →
    m.branch.next_type ≡ b.next_type → a.mark (length r.choices.items) ≡ 0 → IsDenied r a (look_not (entry_at a p (Not w (in_scope σ p.values.types hs))) b (in_scope σ p.values.types hs) (Some false))
inner_begun m r p q k a hs σ b w ev ea es el em h n t ps d c bn bt z =
    let gs = goal_list (in_scope σ p.values.types hs) in
    let mark : a.mark q.mark ≡ 0 = ap a.mark em ∙ z in (
      record {
        goals = subst (Reads r a r.branch.goals) (append-nil (placed a q gs) ∙ (λ i. entries gs (a.assumed (ea i)) (a.written (es i)) (el i) (mark i))) h;
        next = n ∙ bn;
        next_type = t ∙ bt;
      },
      ps,
      refl,
      refl,
      no_tasks r k d c,
      no_mark r k d c,
    )

-- where a step was taken and the goals were judged before
pub inner_after : (m n r : Machine) (p : Place) (list : ℕ) (behind : Option ℕ) → GrowsGoals m n → n.branch ≡ m.branch →
    ((a : Around) (hs : Goals) (σ : ℕ → Term) (b : Branch) (w : Written) → IsOf n p list hs σ → n.branch.next ≡ b.next → n.branch.next_type ≡ b.next_type → a.mark (length r.choices.items) ≡ 0 →
    IsDenied r a (look_not (entry_at a p (Not w (in_scope σ p.values.types hs))) b (in_scope σ p.values.types hs) (Some false))) →
    (a : Around) (hs : Goals) (σ : ℕ → Term) (b : Branch) (w : Written) → StandsIn m → IsOf m p list hs σ → IsBehind m a behind b → a.mark (length r.choices.items) ≡ 0 →
    IsDenied r a (look_not (entry_at a p (Not w (in_scope σ p.values.types hs))) b (in_scope σ p.values.types hs) (Some false))
inner_after m n r p list behind g e f a hs σ b w i x y z = f a hs σ b w (of_later m n i g p list hs σ x) (ap (λ v. v.next) e ∙ y.next) (ap (λ v. v.next_type) e ∙ y.next_type) z
