-- Tasks that are pushed put parts before those that were left.
use Rattle.std.proofs.Common.{◌≡◌, ◌+◌, ◌<◌, List, [], ◌∷◌, ◌++◌, length, map, reverse, refl, sym, ap, ◌∙◌, subst, arith, Bool, true, false}
use Rattle.std.specs.Prelude.{All}
use Rattle.std.proofs.lemmas.List.{reverse-append, reverse-reverse}
use Rattle.std.proofs.lemmas.List.Elements.{All-head, All-tail, All-append, All-map, All-weaker}
use Rattle.lp_lemmas.proofs.Elements.{All_reverse, All_pushed}
use Rattle.lp_lemmas.proofs.Lists.{reverse_pushed}
use Rattle.lp_calculus.specs.Term.{Term}
use Rattle.lp_term.specs.Nodes.{Nodes, Extends, tree}
use Rattle.lp_term.specs.Within.{AreTermsOf}
use Rattle.lp_term.specs.declared.node.TermId.{TermId}
use Rattle.lp_lambda.specs.Pattern.{Part, inside, only}
use Rattle.lp_lambda.specs.declared.walk.Position.{Position}
use Rattle.lp_lambda.specs.declared.walk.Position.TheVariants.{Inside}
use Rattle.lp_lambda.specs.declared.walk.Binder.{Binder}
use Rattle.lp_lambda.specs.declared.walk.Task.{Task}
use Rattle.lp_lambda.specs.declared.walk.Task.TheVariants.{Visit, Leave}
use Rattle.lp_lambda.specs.declared.walk.Walk.{Walk}
use Rattle.lp_lambda.specs.inner.Walking.{part_in, outer, parts_left, scope_of, left, IsTaskIn, AreTasksIn, weight_at, weights, task_weight, work, IsPut, IsTaken}

pub work_append : (b : Nodes) (xs ys : List Task) → work b (xs ++ ys) ≡ work b xs + work b ys
work_append b [] ys = omega arith
work_append b (x ∷ xs) ys =
    let e = work_append b xs ys in
    omega (arith, e)

pub work_last : (b : Nodes) (xs : List Task) (t : Task) → work b (xs ++ t ∷ []) ≡ work b xs + task_weight b t
work_last b xs t =
    let e = work_append b xs (t ∷ []) in
    omega (arith, e)

pub work_reverse : (b : Nodes) (xs : List Task) → work b (reverse xs) ≡ work b xs
work_reverse b [] = refl
work_reverse b (x ∷ xs) =
    let e = work_reverse b xs in
    let q = ap (work b) (reverse-append (x ∷ []) xs) ∙ work_last b (reverse xs) x in
    omega (arith, e, q)

module _ (b : Nodes) (old new : Walk) (a : AreTasksIn b old) where
  pub one_put : (p : Position) (t : TermId) → new.scope ≡ old.scope → new.work.items ≡ old.work.items ++ Visit p t ∷ [] → t.0 < length b.terms → IsPut b b (part_in b p (scope_of old) t ∷ []) old new
  one_put p t s e h =
      let q : work b new.work.items ≡ work b old.work.items + weight_at p (tree b t.0) = ap (work b) e ∙ work_last b old.work.items (Visit p t) in
      record {
        left = ap (λ z. parts_left b (reverse z.items) (reverse new.work.items)) s ∙ ap (parts_left b (scope_of old)) (reverse_pushed new.work.items old.work.items (Visit p t) e);
        within = All_pushed (IsTaskIn b) new.work.items old.work.items (Visit p t) e a h;
        work = omega (arith, q);
      }

  pub both_put : (p o : Position) (t u : TermId) → new.scope ≡ old.scope → new.work.items ≡ (old.work.items ++ Visit o u ∷ []) ++ Visit p t ∷ [] → t.0 < length b.terms → u.0 < length b.terms →
      IsPut b b (part_in b p (scope_of old) t ∷ part_in b o (scope_of old) u ∷ []) old new
  both_put p o t u s e h k =
      let xs = old.work.items in
      let q : work b new.work.items ≡ (work b xs + weight_at o (tree b u.0)) + weight_at p (tree b t.0) =
      ap (work b) e ∙ work_last b (xs ++ Visit o u ∷ []) (Visit p t) ∙ ap (λ n. n + weight_at p (tree b t.0)) (work_last b xs (Visit o u)) in
      record {
        left =
            ap (λ z. parts_left b (reverse z.items) (reverse new.work.items)) s ∙ ap (parts_left b (scope_of old)) (reverse_pushed new.work.items (xs ++ Visit o u ∷ []) (Visit p t) e) ∙
            ap (λ z. part_in b p (scope_of old) t ∷ parts_left b (scope_of old) z) (reverse_pushed (xs ++ Visit o u ∷ []) xs (Visit o u) refl);
        within = All_pushed (IsTaskIn b) new.work.items (xs ++ Visit o u ∷ []) (Visit p t) e (All_pushed (IsTaskIn b) (xs ++ Visit o u ∷ []) xs (Visit o u) refl a k) h;
        work = omega (arith, q);
      }

  pub under_put : (x : Binder) (p : Position) (t : TermId) → new.scope.items ≡ old.scope.items ++ x ∷ [] → new.work.items ≡ (old.work.items ++ Leave ∷ []) ++ Visit p t ∷ [] → t.0 < length b.terms →
      IsPut b b (part_in b p (x ∷ scope_of old) t ∷ []) old new
  under_put x p t s e h =
      let xs = old.work.items in
      let q : work b new.work.items ≡ (work b xs + 1) + weight_at p (tree b t.0) =
      ap (work b) e ∙ work_last b (xs ++ Leave ∷ []) (Visit p t) ∙ ap (λ n. n + weight_at p (tree b t.0)) (work_last b xs Leave) in
      record {
        left =
            ap (λ z. parts_left b z (reverse new.work.items)) (reverse_pushed new.scope.items old.scope.items x s) ∙ ap (parts_left b (x ∷ scope_of old)) (reverse_pushed new.work.items (xs ++ Leave ∷ []) (Visit p t) e) ∙
            ap (λ z. part_in b p (x ∷ scope_of old) t ∷ parts_left b (x ∷ scope_of old) z) (reverse_pushed (xs ++ Leave ∷ []) xs Leave refl);
        within = All_pushed (IsTaskIn b) new.work.items (xs ++ Leave ∷ []) (Visit p t) e (All_pushed (IsTaskIn b) (xs ++ Leave ∷ []) xs Leave refl a tt) h;
        work = omega (arith, q);
      }

pub none_put : (b : Nodes) (w : Walk) → AreTasksIn b w → IsPut b b [] w w
none_put b w a = record { left = refl; within = a; work = omega arith }

-- nothing more is left of a variable whose arguments are names
pub taken_only : (b : Nodes) (w : Walk) (f g : Bool) → AreTasksIn b w → f ≡ g → IsTaken b b (only g []) w w f
taken_only b w true g a e = subst (λ z. IsTaken b b (only z []) w w true) e ([], refl, none_put b w a)
taken_only b w false g a e = subst (λ z. IsTaken b b (only z []) w w false) e refl

-- the arguments of a head

abbrev visits : List TermId → List Task
visits ids = map (Visit Inside) ids

visits_left : (b : Nodes) (bs : List Binder) (ids : List TermId) (ts : List Task) → parts_left b bs (visits ids ++ ts) ≡ map (inside bs) (map (λ t. tree b t.0) ids) ++ parts_left b bs ts
visits_left b bs [] ts = refl
visits_left b bs (i ∷ ids) ts = ap (λ z. part_in b Inside bs i ∷ z) (visits_left b bs ids ts)

visits_work : (b : Nodes) (bs : List Binder) (ids : List TermId) → work b (visits ids) ≡ weights (map (inside bs) (map (λ t. tree b t.0) ids))
visits_work b bs [] = refl
visits_work b bs (i ∷ ids) = ap (λ n. weight_at Inside (tree b i.0) + n) (visits_work b bs ids)

module _ (b : Nodes) (old mid : Walk) (ids : List TermId) (a : AreTasksIn b old) (s : mid.scope ≡ old.scope) (e : mid.work.items ≡ old.work.items ++ reverse (visits ids)) (w : AreTermsOf b ids) where
  abbrev us : List Part
  us = map (inside (scope_of old)) (map (λ t. tree b t.0) ids)

  mid_left : left b mid ≡ us ++ left b old
  mid_left =
      ap (λ z. parts_left b (reverse z.items) (reverse mid.work.items)) s ∙
      ap (parts_left b (scope_of old)) (ap reverse e ∙ reverse-append old.work.items (reverse (visits ids)) ∙ ap (λ z. z ++ reverse old.work.items) (reverse-reverse (visits ids))) ∙ visits_left b (scope_of old) ids (reverse old.work.items)

  mid_within : AreTasksIn b mid
  mid_within = subst (All (IsTaskIn b)) (sym e) (All-append (IsTaskIn b) old.work.items (reverse (visits ids)) a (All_reverse (IsTaskIn b) (visits ids) (All-map (IsTaskIn b) (Visit Inside) ids w)))

  mid_work : work b mid.work.items ≡ weights us + work b old.work.items
  mid_work =
      let p = ap (work b) e ∙ work_append b old.work.items (reverse (visits ids)) in
      let q = work_reverse b (visits ids) ∙ visits_work b (scope_of old) ids in
      omega (arith, p, q)

  pub all_put : IsPut b b us old mid
  all_put = record { left = mid_left; within = mid_within; work = omega (arith, mid_work) }

  -- and a part under a binder before them
  head_put : (new : Walk) (p : Part) → (AreTasksIn b mid → IsPut b b (p ∷ []) mid new) → IsPut b b (p ∷ us) old new
  head_put new p f =
      let k = f mid_within in
      record { left = k.left ∙ ap (λ z. p ∷ z) mid_left; within = k.within; work = omega (arith, k.work, mid_work) }

  pub body_before : (new : Walk) (x : Binder) (t : Term) → (AreTasksIn b mid → IsPut b b (inside (x ∷ scope_of mid) t ∷ []) mid new) → IsPut b b (inside (x ∷ scope_of old) t ∷ us) old new
  body_before new x t f = subst (λ z. IsPut b b (inside (x ∷ reverse z.items) t ∷ us) old new) s (head_put new (inside (x ∷ scope_of mid) t) f)

-- the bank grows

tasks_stay : (b c : Nodes) → Extends b c → (bs : List Binder) (ts : List Task) → All (IsTaskIn b) ts → parts_left c bs ts ≡ parts_left b bs ts
tasks_stay b c x bs [] a = refl
tasks_stay b c x bs (Visit p t ∷ ts) a =
    ap (λ z. record { position = p; binders = bs; term = z } ∷ parts_left c bs ts) (x.same_terms t.0 (All-head (IsTaskIn b) (Visit p t) ts a)) ∙
    ap (λ z. part_in b p bs t ∷ z) (tasks_stay b c x bs ts (All-tail (IsTaskIn b) (Visit p t) ts a))
tasks_stay b c x bs (Leave ∷ ts) a = tasks_stay b c x (outer bs) ts (All-tail (IsTaskIn b) Leave ts a)

work_stays : (b c : Nodes) → Extends b c → (ts : List Task) → All (IsTaskIn b) ts → work c ts ≡ work b ts
work_stays b c x [] a = refl
work_stays b c x (Visit p t ∷ ts) a =
    let e = ap (weight_at p) (x.same_terms t.0 (All-head (IsTaskIn b) (Visit p t) ts a)) in
    let f = work_stays b c x ts (All-tail (IsTaskIn b) (Visit p t) ts a) in
    omega (arith, e, f)
work_stays b c x (Leave ∷ ts) a = ap (λ n. 1 + n) (work_stays b c x ts (All-tail (IsTaskIn b) Leave ts a))

task_in : (b c : Nodes) → Extends b c → (t : Task) → IsTaskIn b t → IsTaskIn c t
task_in b c x (Visit p t) h = let m = x.more_terms in omega (arith, h, m)
task_in b c x Leave h = tt

pub tasks_in : (b c : Nodes) → Extends b c → (w : Walk) → AreTasksIn b w → AreTasksIn c w
tasks_in b c x w a = All-weaker (IsTaskIn b) (IsTaskIn c) (task_in b c x) w.work.items a

pub put_later : (b c : Nodes) → Extends b c → (ps : List Part) (old new : Walk) → AreTasksIn b old → (AreTasksIn c old → IsPut c c ps old new) → IsPut b c ps old new
put_later b c x ps old new a f =
    let k = f (tasks_in b c x old a) in
    let e = work_stays b c x old.work.items a in
    record {
      left = k.left ∙ ap (λ z. ps ++ z) (tasks_stay b c x (scope_of old) (reverse old.work.items) (All_reverse (IsTaskIn b) old.work.items a));
      within = k.within;
      work = omega (arith, k.work, e);
    }

-- a term with the tree that the part has
pub body_put : (b c : Nodes) → Extends b c → (p : Position) (bs : List Binder) (t : TermId) (u : Term) (old new : Walk) → AreTasksIn b old → t.0 < length c.terms → tree c t.0 ≡ u →
    ((d : Nodes) → AreTasksIn d old → t.0 < length d.terms → IsPut d d (part_in d p bs t ∷ []) old new) → IsPut b c (record { position = p; binders = bs; term = u } ∷ []) old new
body_put b c x p bs t u old new a h e f = subst (λ z. IsPut b c (record { position = p; binders = bs; term = z } ∷ []) old new) e (put_later b c x (part_in c p bs t ∷ []) old new a (λ k. f c k h))
