-- What a typed formula is flattened to is typed.
use Rattle.std.proofs.Common.{◌≡◌, ℕ, zero, suc, ◌+◌, ◌<◌, ◌≤◌, List, [], ◌∷◌, ◌++◌, map, Option, Some, None, Bool, true, false, refl, sym, ap, ◌∙◌, subst, arith}
use Rattle.std.specs.Prelude.{◌&&◌, if◌then◌else◌, nat_eq, nat_lt, option_map, slice_get}
use Rattle.std.proofs.lemmas.Bool.{eqb-true, ltb-true, ltb-false}
use Rattle.std.proofs.lemmas.Option.{same_Some}
use Rattle.lp_lemmas.specs.Each.{EachOf}
use Rattle.lp_lemmas.proofs.Each.{each_append, each_map}
use Rattle.lp_lemmas.proofs.Options.{and_then_some, option_map_some}
use Rattle.lp_calculus.specs.Types.{Ty, arrow}
use Rattle.lp_calculus.specs.Term.{Term, Atom, index, atom, abs, app, constant, integer, text, eigen, logic, param, raised, shift, substitute}
use Rattle.lp_calculus.specs.Convert.{leftmost_step, option_term, or_else}
use Rattle.lp_calculus.specs.Spine.{head_of, arguments, arguments_and}
use Rattle.lp_calculus.specs.Typing.{HasType, HaveTypes, Scheme, o_type}
use Rattle.lp_calculus.proofs.Subject.{typed_shift}
use Rattle.lp_calculus.proofs.Typings.{typed_substitute}
use Rattle.lp_standard.specs.Connectives.{Connective, connective_of, connective_of_constant, connective_at, body_of}
use Rattle.lp_standard.specs.Connectives as connective
use Rattle.lp_standard.specs.Positive.{are_positive}
use Rattle.lp_model.specs.Eigens.{beta_normal}
use Rattle.lp_model.specs.Flat.{Goal, Atomic, Cut, Either, Exists, Forall, Assume, Not, Goals, no_goals, goals, Clause, clause, Clauses, no_clauses, clauses, add_clauses, raise_goals, map_goal, map_goals, map_clauses, same_type, under_all, assuming, denied, clause_list}
use Rattle.lp_model.specs.Flatten.{ClauseFormula, only, is_goal_head, is_clause_head, flat_goal, flat_goal_form, flat_list, flat_clause, flat_clause_form, flatten, with_type_vars}
use Rattle.lp_model.specs.Proofs.{AreFlattened}
use Rattle.lp_build.specs.FlatTypes.{AreTypedClauses, AreTypedGoals, IsTypedClause, IsTypedGoal}

-- the types of the connectives
pub record TypesConnectives (τ : Atom → Option Ty) : Type 0 where
  pub on_two : (c : ℕ) → c < 4 → τ (constant c []) ≡ Some (arrow o_type (arrow o_type o_type))
  pub for_all : (T : Ty) → τ (constant 4 (T ∷ [])) ≡ Some (arrow (arrow T o_type) o_type)
  pub exists : (T : Ty) → τ (constant 5 (T ∷ [])) ≡ Some (arrow (arrow T o_type) o_type)
  pub not : τ (constant 24 []) ≡ Some (arrow o_type o_type)

only_true : {A : Type 0} (b : Bool) (a x : A) → only b a ≡ Some x → a ≡ x
only_true true a x e = same_Some a x e
only_true false a x e = absurd (cc)

module _ (τ : Atom → Option Ty) where
  -- beta-normal forms
  abs_part : (C : List Ty) (T : Ty) (b s : Term) (o : Option Term) → HasType τ C (abs b) T → ((c : Term) (D : List Ty) (B : Ty) → o ≡ Some c → HasType τ D b B → HasType τ D c B) → option_term abs o ≡ Some s → HasType τ C s T
  abs_part C T b s None h ih e = absurd (cc)
  abs_part C T b s (Some c) (A, B, f, h) ih e = subst (λ s. HasType τ C s T) (same_Some (abs c) s e) (A, B, f, ih c (A ∷ C) B refl h)

  argument_part : (C : List Ty) (T : Ty) (f u s : Term) (o : Option Term) → HasType τ C (app f u) T → ((v : Term) (B : Ty) → o ≡ Some v → HasType τ C u B → HasType τ C v B) → option_term (app f) o ≡ Some s → HasType τ C s T
  argument_part C T f u s None h ih e = absurd (cc)
  argument_part C T f u s (Some v) (A, g, h) ih e = subst (λ s. HasType τ C s T) (same_Some (app f v) s e) (A, g, ih v A refl h)

  head_part : (C : List Ty) (T : Ty) (f u s : Term) (o p : Option Term) → HasType τ C (app f u) T → ((g : Term) (B : Ty) → o ≡ Some g → HasType τ C f B → HasType τ C g B) →
      ((v : Term) (B : Ty) → p ≡ Some v → HasType τ C u B → HasType τ C v B) → or_else (option_term (λ s. app s u) o) (option_term (app f) p) ≡ Some s → HasType τ C s T
  head_part C T f u s None p h ih jh e = argument_part C T f u s p h jh e
  head_part C T f u s (Some g) p (A, k, h) ih jh e = subst (λ s. HasType τ C s T) (same_Some (app g u) s e) (A, ih g (arrow A T) refl k, h)

  leftmost_typed : (t s : Term) (C : List Ty) (T : Ty) → leftmost_step t ≡ Some s → HasType τ C t T → HasType τ C s T
  leftmost_typed (index i) s C T e h = absurd (cc)
  leftmost_typed (atom a) s C T e h = absurd (cc)
  leftmost_typed (abs b) s C T e h = abs_part C T b s (leftmost_step b) h (λ c D B f k. leftmost_typed b c D B f k) e
  leftmost_typed (app (abs b) u) s C T e (A, (P, B, f, h), k) =
      let p : P ≡ A = cc in
      let q : B ≡ T = cc in
      subst (λ s. HasType τ C s T) (same_Some (substitute u b) s e) (typed_substitute τ C u b A T k (subst (λ P. HasType τ (P ∷ C) b T) p (subst (HasType τ (P ∷ C) b) q h)))
  leftmost_typed (app (index i) u) s C T e h = argument_part C T (index i) u s (leftmost_step u) h (λ v B f k. leftmost_typed u v C B f k) e
  leftmost_typed (app (atom a) u) s C T e h = argument_part C T (atom a) u s (leftmost_step u) h (λ v B f k. leftmost_typed u v C B f k) e
  leftmost_typed (app (app t v) u) s C T e h =
      head_part C T (app t v) u s (leftmost_step (app t v)) (leftmost_step u) h (λ g B f k. leftmost_typed (app t v) g C B f k) (λ w B f k. leftmost_typed u w C B f k) e

  normal_typed : (n : ℕ) (t s : Term) (T : Ty) → beta_normal n t ≡ Some s → HasType τ [] t T → HasType τ [] s T
  normal_typed zero t s T e h = absurd (cc)
  normal_typed (suc n) t s T e h = by (leftmost_step t) refl (λ u k. normal_typed n u s T k) e
    where
      by : (o : Option Term) → leftmost_step t ≡ o → ((u : Term) → beta_normal n u ≡ Some s → HasType τ [] u T → HasType τ [] s T) → elim o [ None ↦ Some t | Some u ↦ beta_normal n u ] ≡ Some s → HasType τ [] s T
      by None f ih k = subst (λ s. HasType τ [] s T) (same_Some t s k) h
      by (Some u) f ih k = ih u k (leftmost_typed t u [] T f h)

  -- parts of formulas
  abbrev Parts : List Ty → Connective → Type 0
  Parts C connective.True = Unit {0}
  Parts C connective.Cut = Unit {0}
  Parts C (connective.And a b) = HasType τ C a o_type × HasType τ C b o_type
  Parts C (connective.Or a b) = HasType τ C a o_type × HasType τ C b o_type
  Parts C (connective.Implies a b) = HasType τ C a o_type × HasType τ C b o_type
  Parts C (connective.ForAll T b) = HasType τ (T ∷ C) b o_type
  Parts C (connective.Exists T b) = HasType τ (T ∷ C) b o_type
  Parts C (connective.Not a) = HasType τ C a o_type
  Parts C connective.Atomic = Unit {0}

  chosen : (C : List Ty) (b : Bool) (f g : Connective) → (b ≡ true → Parts C f) → Parts C g → Parts C (if b then f else g)
  chosen C true f g h k = h refl
  chosen C false f g h k = k

  on_two : (C : List Ty) (a b : Term) (A : Ty) → Some (arrow o_type (arrow o_type o_type)) ≡ Some A → HaveTypes τ C A (a ∷ b ∷ []) o_type → HasType τ C a o_type × HasType τ C b o_type
  on_two C a b A e h =
      let f = h.2 in
      let g = h.4.2 in
      let p : h.0 ≡ o_type = cc in
      let q : h.4.0 ≡ o_type = cc in
      (subst (HasType τ C a) p h.3, subst (HasType τ C b) q h.4.3)

  on_one : (C : List Ty) (a : Term) (X A : Ty) → Some (arrow X o_type) ≡ Some A → HaveTypes τ C A (a ∷ []) o_type → HasType τ C a X
  on_one C a X A e h =
      let f = h.2 in
      let p : h.0 ≡ X = cc in
      subst (HasType τ C a) p h.3

  body_typed : (C : List Ty) (T : Ty) (a : Term) → HasType τ C a (arrow T o_type) → HasType τ (T ∷ C) (body_of a) o_type
  body_typed C T (abs b) (A, B, e, h) =
      let p : A ≡ T = cc in
      let q : B ≡ o_type = cc in
      subst (λ A. HasType τ (A ∷ C) b o_type) p (subst (HasType τ (A ∷ C) b) q h)
  body_typed C T (index i) h = (T, typed_shift τ C T (index i) (arrow T o_type) h, refl)
  body_typed C T (atom a) h = (T, h, refl)
  body_typed C T (app t u) h = (T, typed_shift τ C T (app t u) (arrow T o_type) h, refl)

  module _ (std : TypesConnectives τ) where
    two_at : (C : List Ty) (n c : ℕ) (a b : Term) (A : Ty) → n < 4 → nat_eq c n ≡ true → τ (constant c []) ≡ Some A → HaveTypes τ C A (a ∷ b ∷ []) o_type → HasType τ C a o_type × HasType τ C b o_type
    two_at C n c a b A l e t h = on_two C a b A (sym (std.on_two n l) ∙ sym (ap (λ c. τ (constant c [])) (eqb-true c n e)) ∙ t) h

    constant_parts : (C : List Ty) (c : ℕ) (ts : List Ty) (us : List Term) (A : Ty) → τ (constant c ts) ≡ Some A → HaveTypes τ C A us o_type → Parts C (connective_of_constant c ts us)
    constant_parts C c ts [] A t h = chosen C (nat_eq c 6) connective.True (if nat_eq c 7 then connective.Cut else connective.Atomic) (λ e. tt) (chosen C (nat_eq c 7) connective.Cut connective.Atomic (λ e. tt) tt)
    constant_parts C c [] (a ∷ []) A t h =
        chosen C (nat_eq c 24) (connective.Not a) connective.Atomic (λ e. on_one C a o_type A (sym std.not ∙ sym (ap (λ c. τ (constant c [])) (eqb-true c 24 e)) ∙ t) h) tt
    constant_parts C c (T ∷ []) (a ∷ []) A t h =
        chosen C (nat_eq c 4) (connective.ForAll T (body_of a)) (if nat_eq c 5 then connective.Exists T (body_of a) else connective.Atomic)
        (λ e. body_typed C T a (on_one C a (arrow T o_type) A (sym (std.for_all T) ∙ sym (ap (λ c. τ (constant c (T ∷ []))) (eqb-true c 4 e)) ∙ t) h))
        (chosen C (nat_eq c 5) (connective.Exists T (body_of a)) connective.Atomic
        (λ e. body_typed C T a (on_one C a (arrow T o_type) A (sym (std.exists T) ∙ sym (ap (λ c. τ (constant c (T ∷ []))) (eqb-true c 5 e)) ∙ t) h)) tt)
    constant_parts C c (T ∷ U ∷ ts) (a ∷ []) A t h = tt
    constant_parts C c [] (a ∷ b ∷ []) A t h =
        chosen C (nat_eq c 0) (connective.And a b) (if nat_eq c 1 then connective.Or a b else (if nat_eq c 2 then connective.Implies a b else (if nat_eq c 3 then connective.Implies b a else connective.Atomic)))
        (λ e. two_at C 0 c a b A (omega arith) e t h)
        (chosen C (nat_eq c 1) (connective.Or a b) (if nat_eq c 2 then connective.Implies a b else (if nat_eq c 3 then connective.Implies b a else connective.Atomic)) (λ e. two_at C 1 c a b A (omega arith) e t h)
        (chosen C (nat_eq c 2) (connective.Implies a b) (if nat_eq c 3 then connective.Implies b a else connective.Atomic) (λ e. two_at C 2 c a b A (omega arith) e t h)
        (chosen C (nat_eq c 3) (connective.Implies b a) connective.Atomic (λ e. let z = two_at C 3 c a b A (omega arith) e t h in (z.1, z.0)) tt)))
    constant_parts C c (T ∷ []) (a ∷ b ∷ us) A t h = tt
    constant_parts C c (T ∷ U ∷ ts) (a ∷ b ∷ us) A t h = tt
    constant_parts C c [] (a ∷ b ∷ x ∷ us) A t h = tt

    parts_at : (C : List Ty) (f : Term) (us : List Term) (A : Ty) → HasType τ C f A → HaveTypes τ C A us o_type → Parts C (connective_at f us)
    parts_at C (atom (constant c ts)) us A t h = constant_parts C c ts us A t h
    parts_at C (atom (integer z)) us A t h = tt
    parts_at C (atom (text s)) us A t h = tt
    parts_at C (atom (eigen k)) us A t h = tt
    parts_at C (atom (logic x l)) us A t h = tt
    parts_at C (atom (param k T)) us A t h = tt
    parts_at C (index i) us A t h = tt
    parts_at C (abs b) us A t h = tt
    parts_at C (app f u) us A t h = tt

    spine_parts : (C : List Ty) (t : Term) (more : List Term) (A : Ty) → HasType τ C t A → HaveTypes τ C A more o_type → Parts C (connective_at (head_of t) (arguments_and t more))
    spine_parts C (index i) more A t h = parts_at C (index i) more A t h
    spine_parts C (atom a) more A t h = parts_at C (atom a) more A t h
    spine_parts C (abs b) more A t h = parts_at C (abs b) more A t h
    spine_parts C (app f u) more A (B, k, w) h = spine_parts C f (u ∷ more) (arrow B A) k (B, A, refl, w, h)

    formula_parts : (C : List Ty) (t : Term) → HasType τ C t o_type → Parts C (connective_of t)
    formula_parts C t h = spine_parts C t [] o_type h refl

  -- goals below one more variable
  record IsRaised (d : ℕ) (C D : List Ty) : Type 0 where
    low : (i : ℕ) (A : Ty) → i < d → slice_get C i ≡ Some A → slice_get D i ≡ Some A
    high : (i : ℕ) (A : Ty) → d ≤ i → slice_get C i ≡ Some A → slice_get D (suc i) ≡ Some A

  raised_below : (B : Ty) (d : ℕ) (C D : List Ty) → IsRaised d C D → IsRaised (suc d) (B ∷ C) (B ∷ D)
  raised_below B d C D r = record {
    low = λ i A l e. under i A l e;
    high = λ i A l e. above i A l e;
  }
    where
      under : (i : ℕ) (A : Ty) → i < suc d → slice_get (B ∷ C) i ≡ Some A → slice_get (B ∷ D) i ≡ Some A
      under zero A l e = e
      under (suc i) A l e = r.low i A (omega (arith, l)) e

      above : (i : ℕ) (A : Ty) → suc d ≤ i → slice_get (B ∷ C) i ≡ Some A → slice_get (B ∷ D) (suc i) ≡ Some A
      above zero A l e = absurd (omega (arith, l))
      above (suc i) A l e = r.high i A (omega (arith, l)) e

  raised_all : (vs : List Ty) (d : ℕ) (C D : List Ty) → IsRaised d C D → IsRaised (under_all suc vs d) (vs ++ C) (map same_type vs ++ D)
  raised_all [] d C D r = r
  raised_all (v ∷ vs) d C D r = raised_below v (under_all suc vs d) (vs ++ C) (map same_type vs ++ D) (raised_all vs d C D r)

  index_raised : (d : ℕ) (C D : List Ty) (i : ℕ) (A : Ty) → IsRaised d C D → slice_get C i ≡ Some A → HasType τ D (raised 1 d i) A
  index_raised d C D i A r e = by (nat_lt i d) refl
    where
      by : (b : Bool) → nat_lt i d ≡ b → HasType τ D (if b then index i else index (i + 1)) A
      by true f = r.low i A (ltb-true i d f) e
      by false f = let z : suc i ≡ i + 1 = omega arith in subst (λ j. slice_get D j ≡ Some A) z (r.high i A (ltb-false i d f) e)

  term_raised : (t : Term) (d : ℕ) (C D : List Ty) (A : Ty) → IsRaised d C D → HasType τ C t A → HasType τ D (shift d 1 t) A
  term_raised (index i) d C D A r h = index_raised d C D i A r h
  term_raised (atom a) d C D A r h = h
  term_raised (abs b) d C D A r (P, B, e, h) = (P, B, e, term_raised b (suc d) (P ∷ C) (P ∷ D) B (raised_below P d C D r) h)
  term_raised (app t u) d C D A r (B, h, k) = (B, term_raised t d C D (arrow B A) r h, term_raised u d C D B r k)

  abbrev by_one : ℕ → Term → Term
  by_one d t = shift d 1 t

  mutual
    goal_raised : (g : Goal) (d : ℕ) (C D : List Ty) → IsRaised d C D → IsTypedGoal τ C g → IsTypedGoal τ D (map_goal suc by_one same_type d g)
    goal_raised (Atomic t) d C D r h = term_raised t d C D o_type r h
    goal_raised Cut d C D r h = tt
    goal_raised (Either gs hs) d C D r (h, k) = (goals_raised gs d C D r h, goals_raised hs d C D r k)
    goal_raised (Exists T gs) d C D r h = goals_raised gs (suc d) (T ∷ C) (T ∷ D) (raised_below T d C D r) h
    goal_raised (Forall T gs) d C D r h = goals_raised gs (suc d) (T ∷ C) (T ∷ D) (raised_below T d C D r) h
    goal_raised (Assume w cs gs) d C D r (h, k) = (clauses_raised cs d C D r h, goals_raised gs d C D r k)
    goal_raised (Not w gs) d C D r h = goals_raised gs d C D r h

    goals_raised : (gs : Goals) (d : ℕ) (C D : List Ty) → IsRaised d C D → AreTypedGoals τ C gs → AreTypedGoals τ D (map_goals suc by_one same_type d gs)
    goals_raised no_goals d C D r h = tt
    goals_raised (goals g gs) d C D r (h, k) = (goal_raised g d C D r h, goals_raised gs d C D r k)

    clauses_raised : (cs : Clauses) (d : ℕ) (C D : List Ty) → IsRaised d C D → AreTypedClauses τ C cs → AreTypedClauses τ D (map_clauses suc by_one same_type d cs)
    clauses_raised no_clauses d C D r h = tt
    clauses_raised (clauses (clause n vs a b) cs) d C D r ((h, k), more) =
        let s = raised_all vs d C D r in
        ((term_raised a (under_all suc vs d) (vs ++ C) (map same_type vs ++ D) o_type s h, goals_raised b (under_all suc vs d) (vs ++ C) (map same_type vs ++ D) s k), clauses_raised cs d C D r more)

  raised_first : (T : Ty) (C : List Ty) → IsRaised 0 C (T ∷ C)
  raised_first T C = record { low = λ i A l e. absurd (omega (arith, l)); high = λ i A l e. e }

  added_typed : (C : List Ty) (cs ds : Clauses) → AreTypedClauses τ C cs → AreTypedClauses τ C ds → AreTypedClauses τ C (add_clauses cs ds)
  added_typed C no_clauses ds h k = k
  added_typed C (clauses (clause n vs a b) cs) ds (h, more) k = (h, added_typed C cs ds more k)

  module _ (std : TypesConnectives τ) (d : ℕ → Option Scheme) where
    mutual
      goal_typed : (n : ℕ) (B : List Bool) (C : List Ty) (t : Term) (rest gs : Goals) → flat_goal n d B t rest ≡ Some gs → HasType τ C t o_type → AreTypedGoals τ C rest → AreTypedGoals τ C gs
      goal_typed zero B C t rest gs e h r = absurd (cc)
      goal_typed (suc n) B C t rest gs e h r = goal_by n B C t (connective_of t) (formula_parts std C t h) h rest gs e r

      goal_by : (n : ℕ) (B : List Bool) (C : List Ty) (t : Term) (f : Connective) → Parts C f → HasType τ C t o_type → (rest gs : Goals) → flat_goal_form n d B t f rest ≡ Some gs → AreTypedGoals τ C rest → AreTypedGoals τ C gs
      goal_by zero B C t f p h rest gs e r = absurd (cc)
      goal_by (suc n) B C t connective.True p h rest gs e r = subst (AreTypedGoals τ C) (same_Some rest gs e) r
      goal_by (suc n) B C t connective.Cut p h rest gs e r = subst (AreTypedGoals τ C) (same_Some (goals Cut rest) gs e) (tt, r)
      goal_by (suc n) B C t (connective.And a b) (p, q) h rest gs e r =
          let (m, f, g) = and_then_some (flat_goal n d B b rest) (flat_goal n d B a) gs e in
          goal_typed n B C a m gs g p (goal_typed n B C b rest m f q r)
      goal_by (suc n) B C t (connective.Or a b) (p, q) h rest gs e r =
          let (l, f, g) = and_then_some (flat_goal n d B a no_goals) (λ l. option_map (λ r. goals (Either l r) rest) (flat_goal n d B b no_goals)) gs e in
          let (s, i, j) = option_map_some (flat_goal n d B b no_goals) (λ r. goals (Either l r) rest) gs g in
          subst (AreTypedGoals τ C) j ((goal_typed n B C a no_goals l f p tt, goal_typed n B C b no_goals s i q tt), r)
      goal_by (suc n) B C t (connective.Implies c g) (p, q) h rest gs e r =
          let (cs, f, k) = and_then_some (flat_clause n d B c [] []) (λ cs. option_map (λ gs. goals (assuming cs gs) rest) (flat_goal n d B g no_goals)) gs e in
          let (s, i, j) = option_map_some (flat_goal n d B g no_goals) (λ gs. goals (assuming cs gs) rest) gs k in
          subst (AreTypedGoals τ C) j ((clause_typed n B C c [] [] cs f p tt, goal_typed n B C g no_goals s i q tt), r)
      goal_by (suc n) B C t (connective.ForAll T b) p h rest gs e r =
          let (s, i, j) = option_map_some (flat_goal n d (true ∷ B) b no_goals) (λ gs. goals (Forall T gs) rest) gs e in
          subst (AreTypedGoals τ C) j (goal_typed n (true ∷ B) (T ∷ C) b no_goals s i p tt, r)
      goal_by (suc n) B C t (connective.Exists T b) p h rest gs e r =
          let (s, i, j) = option_map_some (flat_goal n d (false ∷ B) b (raise_goals 0 rest)) (λ gs. goals (Exists T gs) no_goals) gs e in
          subst (AreTypedGoals τ C) j (goal_typed n (false ∷ B) (T ∷ C) b (raise_goals 0 rest) s i p (goals_raised rest 0 C (T ∷ C) (raised_first T C) r), tt)
      goal_by (suc n) B C t (connective.Not a) p h rest gs e r =
          let (s, i, j) = option_map_some (flat_goal n d B a no_goals) (λ gs. goals (denied gs) rest) gs e in
          subst (AreTypedGoals τ C) j (goal_typed n B C a no_goals s i p tt, r)
      goal_by (suc n) B C t connective.Atomic p h rest gs e r = subst (AreTypedGoals τ C) (only_true (is_goal_head (head_of t) && are_positive (arguments t)) (goals (Atomic t) rest) gs e) (h, r)

      list_typed : (n : ℕ) (B : List Bool) (C : List Ty) (ts : List Term) (gs : Goals) → flat_list n d B ts ≡ Some gs → EachOf (λ t. HasType τ C t o_type) ts → AreTypedGoals τ C gs
      list_typed zero B C ts gs e h = absurd (cc)
      list_typed (suc n) B C [] gs e h = subst (AreTypedGoals τ C) (same_Some no_goals gs e) tt
      list_typed (suc n) B C (t ∷ ts) gs e (h, more) =
          let (m, f, g) = and_then_some (flat_list n d B ts) (flat_goal n d B t) gs e in
          goal_typed n B C t m gs g h (list_typed n B C ts m f more)

      clause_typed : (n : ℕ) (B : List Bool) (C : List Ty) (t : Term) (vars : List Ty) (body : List Term) (cs : Clauses) → flat_clause n d B t vars body ≡ Some cs → HasType τ (vars ++ C) t o_type →
          EachOf (λ t. HasType τ (vars ++ C) t o_type) body → AreTypedClauses τ C cs
      clause_typed zero B C t vars body cs e h k = absurd (cc)
      clause_typed (suc n) B C t vars body cs e h k = clause_by n B C t (connective_of t) vars (formula_parts std (vars ++ C) t h) h body cs e k

      clause_by : (n : ℕ) (B : List Bool) (C : List Ty) (t : Term) (f : Connective) (vars : List Ty) → Parts (vars ++ C) f → HasType τ (vars ++ C) t o_type → (body : List Term) (cs : Clauses) →
          flat_clause_form n d B t f vars body ≡ Some cs → EachOf (λ t. HasType τ (vars ++ C) t o_type) body → AreTypedClauses τ C cs
      clause_by zero B C t f vars p h body cs e k = absurd (cc)
      clause_by (suc n) B C t connective.True vars p h body cs e k = absurd (cc)
      clause_by (suc n) B C t connective.Cut vars p h body cs e k = absurd (cc)
      clause_by (suc n) B C t (connective.And a b) vars (p, q) h body cs e k =
          let (l, f, g) = and_then_some (flat_clause n d B a vars body) (λ l. option_map (add_clauses l) (flat_clause n d B b vars body)) cs e in
          let (s, i, j) = option_map_some (flat_clause n d B b vars body) (add_clauses l) cs g in
          subst (AreTypedClauses τ C) j (added_typed C l s (clause_typed n B C a vars body l f p k) (clause_typed n B C b vars body s i q k))
      clause_by (suc n) B C t (connective.Or a b) vars p h body cs e k = absurd (cc)
      clause_by (suc n) B C t (connective.Implies g c) vars (p, q) h body cs e k =
          clause_typed n B C c vars (body ++ g ∷ []) cs e q (each_append (λ t. HasType τ (vars ++ C) t o_type) body (g ∷ []) k (p, tt))
      clause_by (suc n) B C t (connective.ForAll T b) vars p h body cs e k =
          clause_typed n (false ∷ B) C b (T ∷ vars) (map (shift 0 1) body) cs e p
          (each_map (λ t. HasType τ (vars ++ C) t o_type) (λ t. HasType τ (T ∷ (vars ++ C)) t o_type) (shift 0 1) (λ t w. typed_shift τ (vars ++ C) T t o_type w) body k)
      clause_by (suc n) B C t (connective.Exists T b) vars p h body cs e k = absurd (cc)
      clause_by (suc n) B C t (connective.Not a) vars p h body cs e k = absurd (cc)
      clause_by (suc n) B C t connective.Atomic vars p h body cs e k =
          let (a, f, g) = and_then_some (only (is_clause_head d B (head_of t) && are_positive (arguments t)) t) (λ h. option_map (λ gs. clauses (clause 0 vars h gs) no_clauses) (flat_list n d B body)) cs e in
          let (s, i, j) = option_map_some (flat_list n d B body) (λ gs. clauses (clause 0 vars a gs) no_clauses) cs g in
          let same : t ≡ a = only_true (is_clause_head d B (head_of t) && are_positive (arguments t)) t a f in
          subst (AreTypedClauses τ C) j ((subst (λ t. HasType τ (vars ++ C) t o_type) same h, list_typed n B (vars ++ C) body s i k), tt)

    each_typed : (k : ℕ) (cs : Clauses) → AreTypedClauses τ [] cs → EachOf (IsTypedClause τ) (clause_list (with_type_vars k cs))
    each_typed k no_clauses h = tt
    each_typed k (clauses (clause n vs a b) cs) (h, more) = ((h, tt), each_typed k cs more)

    formula_typed : (depth : ℕ) (D : ClauseFormula) (cs : Clauses) → flatten depth d D ≡ Some cs → HasType τ [] D.formula o_type → EachOf (IsTypedClause τ) (clause_list cs)
    formula_typed depth D cs e h =
        let (t, f, g) = and_then_some (beta_normal depth D.formula) (λ t. option_map (with_type_vars D.type_vars) (flat_clause depth d [] t [] [])) cs e in
        let (s, i, j) = option_map_some (flat_clause depth d [] t [] []) (with_type_vars D.type_vars) cs g in
        subst (λ cs. EachOf (IsTypedClause τ) (clause_list cs)) j (each_typed D.type_vars s (clause_typed depth [] [] t [] [] s i (normal_typed depth D.formula t o_type f h) tt))

    pub flattened_typed : (Ds : List ClauseFormula) (cs : List Clause) → AreFlattened d Ds cs → EachOf (λ D. HasType τ [] D.formula o_type) Ds → EachOf (IsTypedClause τ) cs
    flattened_typed [] cs e h = subst (EachOf (IsTypedClause τ)) (sym e) tt
    flattened_typed (D ∷ Ds) cs (depth, ds, more, is, are, e) (h, k) =
        subst (EachOf (IsTypedClause τ)) (sym e) (each_append (IsTypedClause τ) (clause_list ds) more (formula_typed depth D ds is h) (flattened_typed Ds more are k))
