-- Each task that is done leaves what is to be shown.
use Rattle.std.proofs.Common.{◌≡◌, ◌+◌, ◌<◌, List, [], ◌∷◌, ◌++◌, length, reverse, sym, ap, ◌∙◌, subst, arith, Some, None, Bool, true, false}
use Rattle.std.specs.Prelude.{All}
use Rattle.std.specs.Bool.{Decides}
use Rattle.std.proofs.lemmas.Option.{none-some}
use Rattle.std.proofs.lemmas.List.Elements.{All-nil, All-cons}
use Rattle.lp_lemmas.proofs.Options.{one_value}
use Rattle.lp_lemmas.proofs.Elements.{All_popped}
use Rattle.lp_lemmas.proofs.Lists.{reverse_pushed}
use Rattle.lp_calculus.specs.Term.{Term}
use Rattle.lp_calculus.specs.Normal.{IsFormOf}
use Rattle.lp_term.proofs.EtaForms.{forms_are_one}
use Rattle.lp_term.specs.Nodes.{Nodes, tree}
use Rattle.lp_term.specs.declared.node.TermId.{TermId}
use Rattle.lp_lambda.specs.Pattern.{Part, parts_at, parts_of, ArePatterns, no_parts, more_parts, IsPatternText}
use Rattle.lp_lambda.specs.declared.walk.Position.{Position}
use Rattle.lp_lambda.specs.declared.walk.Task.{Task}
use Rattle.lp_lambda.specs.declared.walk.Task.TheVariants.{Visit, Leave}
use Rattle.lp_lambda.specs.declared.walk.Walk.{Walk}
use Rattle.lp_lambda.specs.inner.Walking.{outer, parts_left, scope_of, left, IsTaskIn, AreTasksIn, weight_at, task_weight, work, IsTaken, Leads}
use Rattle.lp_lambda.proofs.Weighing.{lighter}
use Rattle.lp_lambda.proofs.Puts.{work_last}

-- parts before others

both_patterns : (ps qs : List Part) → ArePatterns ps → ArePatterns qs → ArePatterns (ps ++ qs)
both_patterns [] qs no_parts k = k
both_patterns (p ∷ ps) qs (more_parts e own rest) k = more_parts e own (both_patterns ps qs rest k)

front_patterns : (ps qs : List Part) → ArePatterns (ps ++ qs) → ArePatterns ps
front_patterns [] qs k = no_parts
front_patterns (p ∷ ps) qs (more_parts e own rest) = more_parts e own (front_patterns ps qs rest)

back_patterns : (ps qs : List Part) → ArePatterns (ps ++ qs) → ArePatterns qs
back_patterns [] qs k = k
back_patterns (p ∷ ps) qs (more_parts e own rest) = back_patterns ps qs rest

-- the parts of the first in its place
pub apart : (p : Part) (ps qs : List Part) → parts_of p ≡ Some ps → ArePatterns (p ∷ qs) → ArePatterns (ps ++ qs)
apart p ps qs e (more_parts {ps = own} f k rest) = both_patterns ps qs (subst ArePatterns (one_value (parts_of p) own ps f e) k) rest

pub joined : (p : Part) (ps qs : List Part) → parts_of p ≡ Some ps → ArePatterns (ps ++ qs) → ArePatterns (p ∷ qs)
joined p ps qs e k = more_parts e (front_patterns ps qs k) (back_patterns ps qs k)

pub broken : (p : Part) (qs : List Part) → parts_of p ≡ None → ArePatterns (p ∷ qs) → ⊥
broken p qs e (more_parts {ps = own} f k rest) = none-some own (sym e ∙ f)

pub visited : (b c : Nodes) (p : Position) (t : Term) (old new : Walk) (f : Bool) → IsTaken b c (parts_at p (scope_of old) t) old new f →
    Leads c (record { position = p; binders = scope_of old; term = t } ∷ left b old) (weight_at p t + work b old.work.items) new f
visited b c p t old new true k =
    let part : Part = record { position = p; binders = scope_of old; term = t } in
    let l = lighter p (scope_of old) t k.0 k.1 in (
      (λ h. subst ArePatterns (sym k.2.left) (apart part k.0 (left b old) k.1 h)),
      (λ h. joined part k.0 (left b old) k.1 (subst ArePatterns k.2.left h)),
      k.2.within,
      omega (arith, l, k.2.work),
    )
visited b c p t old new false k = broken (record { position = p; binders = scope_of old; term = t }) (left b old) k

pub left_one : (b : Nodes) (old new : Walk) → AreTasksIn b old → scope_of new ≡ outer (scope_of old) → new.work ≡ old.work → Leads b (parts_left b (scope_of old) (Leave ∷ reverse old.work.items)) (1 + work b old.work.items) new true
left_one b old new a s w =
    let e : left b new ≡ parts_left b (outer (scope_of old)) (reverse old.work.items) = ap (λ z. parts_left b z (reverse new.work.items)) s ∙ ap (λ z. parts_left b (outer (scope_of old)) (reverse z.items)) w in
    let q = ap (λ z. work b z.items) w in (
      (λ h. subst ArePatterns (sym e) h),
      (λ h. subst ArePatterns e h),
      subst (λ z. All (IsTaskIn b) z.items) (sym w) a,
      omega (arith, q),
    )

-- the loop

-- what is left once the next task is taken
pub popped_left : (b : Nodes) (w v : Walk) (t : Task) → v.scope ≡ w.scope → w.work.items ≡ v.work.items ++ t ∷ [] → left b w ≡ parts_left b (scope_of v) (t ∷ reverse v.work.items)
popped_left b w v t s e = ap (λ z. parts_left b (reverse z.items) (reverse w.work.items)) (sym s) ∙ ap (parts_left b (scope_of v)) (reverse_pushed w.work.items v.work.items t e)

-- a text by its form
pub by_form : (p : Position) (t s : Term) (is : Bool) → IsFormOf t s → Decides is (ArePatterns (record { position = p; binders = []; term = s } ∷ [])) → Decides is (IsPatternText p t)
by_form p t s is f d = ((λ e. (s, f, d.0 e)), (λ k. d.1 (subst (λ z. ArePatterns (record { position = p; binders = []; term = z } ∷ [])) (forms_are_one t k.0 s k.1 f) k.2)))

-- the tasks that are done last: the walk before, without its next task, and after it
module _ (b : Nodes) (w v : Walk) (t : Task) (s : v.scope ≡ w.scope) (e : w.work.items ≡ v.work.items ++ t ∷ []) (a : AreTasksIn b w) where
  pub popped_tasks : AreTasksIn b v × IsTaskIn b t
  popped_tasks = All_popped (IsTaskIn b) w.work.items v.work.items t e a

  popped_work : work b w.work.items ≡ task_weight b t + work b v.work.items
  popped_work =
      let q = ap (work b) e ∙ work_last b v.work.items t in
      omega (arith, q)

  module _ (c : Nodes) (new : Walk) (k : Leads c (parts_left b (scope_of v) (t ∷ reverse v.work.items)) (task_weight b t + work b v.work.items) new true) where
    pub less_left : work c new.work.items < work b w.work.items
    less_left = let q = popped_work in let h = k.3 in omega (arith, q, h)

    pub goes_forth : ArePatterns (left b w) → ArePatterns (left c new)
    goes_forth h = k.0 (subst ArePatterns (popped_left b w v t s e) h)

    pub goes_back : ArePatterns (left c new) → ArePatterns (left b w)
    goes_back h = subst ArePatterns (sym (popped_left b w v t s e)) (k.1 h)

  pub breaks : (c : Nodes) (new : Walk) → Leads c (parts_left b (scope_of v) (t ∷ reverse v.work.items)) (task_weight b t + work b v.work.items) new false → ArePatterns (left b w) → ⊥
  breaks c new k h = k (subst ArePatterns (popped_left b w v t s e) h)

-- no task is left
pub all_done : (b : Nodes) (w : Walk) → w.work.items ≡ [] → ArePatterns (left b w)
all_done b w e = subst (λ z. ArePatterns (parts_left b (scope_of w) (reverse z))) (sym e) no_parts

-- a walk that begins

pub first_task : (b : Nodes) (w : Walk) (p : Position) (t : TermId) → w.work.items ≡ Visit p t ∷ [] → t.0 < length b.terms → AreTasksIn b w
first_task b w p t e h = subst (All (IsTaskIn b)) (sym e) (All-cons (IsTaskIn b) (Visit p t) [] h (All-nil (IsTaskIn b)))

pub one_left : (b : Nodes) (w : Walk) (p : Position) (t : TermId) (is : Bool) → w.scope.items ≡ [] → w.work.items ≡ Visit p t ∷ [] → Decides is (ArePatterns (left b w)) →
    Decides is (ArePatterns (record { position = p; binders = []; term = tree b t.0 } ∷ []))
one_left b w p t is s e d = subst (λ z. Decides is (ArePatterns z)) (ap (λ z. parts_left b (reverse z) (reverse w.work.items)) s ∙ ap (λ z. parts_left b [] (reverse z)) e) d
