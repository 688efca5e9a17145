-- Raised goals and clauses are as flattening makes them, where those before were.
use Rattle.std.proofs.Common.{◌≡◌, ℕ, zero, suc, ◌+◌, List, [], ◌∷◌, ◌++◌, map, Bool, true, false, refl, sym, ap, ◌∙◌, subst, arith, inl, inr}
use Rattle.std.specs.Prelude.{◌&&◌, nat_lt, nat_eq, ◌-◌, if◌then◌else◌, slice_index_or}
use Rattle.std.proofs.lemmas.List.{map-append}
use Rattle.std.proofs.lemmas.Bool.{cases_lt, lt-ltb, le-ltb}
use Rattle.std.proofs.lemmas.Bool.Decides.{nat_tests}
use Rattle.lp_calculus.specs.Types.{Ty, var}
use Rattle.lp_calculus.specs.Term.{Term, index, atom, abs, app, constant, integer, text, eigen, logic, param, shift}
use Rattle.lp_calculus.proofs.Plain.{bump, shift-rename}
use Rattle.lp_calculus.specs.Spine.{head_of, arguments, arguments_and}
use Rattle.lp_standard.specs.Connectives.{Connective, connective_of, connective_at, connective_of_constant, body_of}
use Rattle.lp_standard.specs.Connectives as connective
use Rattle.lp_standard.specs.Positive.{is_positive, are_positive}
use Rattle.lp_model.specs.Flat.{Goal, Atomic, Cut, Either, Exists, Forall, Assume, Not, map_written, under_all, same_type, map_goal, map_goals, map_clause, map_clauses, Goals, no_goals, goals, Clause, clause, Clauses, no_clauses, clauses, loose_in, type_variables_in, collect_goal, collect_goals, collect_clauses, written_by, written_in_goals, written_in_clauses}
use Rattle.lp_model.specs.Flatten.{is_goal_head, is_clause_head}
use Rattle.lp_model.specs.Proofs.{Declared}
use Rattle.lp_proof_laws.proofs.Flattened.Again.{falses, IsExists, IsFlat, AreFlat, ClauseFlat, ClausesFlat}

abbrev raise : ℕ → Term → Term
raise e t = shift e 1 t

raise_index : (from i : ℕ) → shift from 1 (index i) ≡ index (bump 1 from i)
raise_index from i = shift-rename from 1 (index i)

-- heads and arguments
head_raised : (from : ℕ) (t : Term) → head_of (shift from 1 t) ≡ shift from 1 (head_of t)
head_raised from (index i) = ap head_of (raise_index from i) ∙ sym (raise_index from i)
head_raised from (atom a) = refl
head_raised from (abs b) = refl
head_raised from (app t u) = head_raised from t

arguments_and_raised : (from : ℕ) (t : Term) (more : List Term) → arguments_and (shift from 1 t) (map (raise from) more) ≡ map (raise from) (arguments_and t more)
arguments_and_raised from (index i) more = ap (λ z. arguments_and z (map (raise from) more)) (raise_index from i)
arguments_and_raised from (atom a) more = refl
arguments_and_raised from (abs b) more = refl
arguments_and_raised from (app t u) more = arguments_and_raised from t (u ∷ more)

positive_raised : (from : ℕ) (t : Term) → is_positive (shift from 1 t) ≡ is_positive t
positive_raised from (index i) = ap is_positive (raise_index from i)
positive_raised from (atom (constant c ts)) = refl
positive_raised from (atom (integer z)) = refl
positive_raised from (atom (text s)) = refl
positive_raised from (atom (eigen k)) = refl
positive_raised from (atom (logic x l)) = refl
positive_raised from (atom (param k T)) = refl
positive_raised from (abs b) = positive_raised (suc from) b
positive_raised from (app t u) = ap (λ p. p && is_positive (shift from 1 u)) (positive_raised from t) ∙ ap (λ p. is_positive t && p) (positive_raised from u)

positives_raised : (from : ℕ) (ts : List Term) → are_positive (map (raise from) ts) ≡ are_positive ts
positives_raised from [] = refl
positives_raised from (t ∷ ts) = ap (λ p. p && are_positive (map (raise from) ts)) (positive_raised from t) ∙ ap (λ p. is_positive t && p) (positives_raised from ts)

-- no connective
quantifier_stays : (p q : Bool) (X X' Y Y' : Connective) → (X ≡ connective.Atomic → ⊥) → (Y ≡ connective.Atomic → ⊥) → (if p then X else (if q then Y else connective.Atomic)) ≡ connective.Atomic → (if p then X' else (if q then Y' else connective.Atomic)) ≡ connective.Atomic
quantifier_stays true q X X' Y Y' f g e = absurd (f e)
quantifier_stays false true X X' Y Y' f g e = absurd (g e)
quantifier_stays false false X X' Y Y' f g e = refl

one_stays : (p : Bool) (X X' : Connective) → (X ≡ connective.Atomic → ⊥) → (if p then X else connective.Atomic) ≡ connective.Atomic → (if p then X' else connective.Atomic) ≡ connective.Atomic
one_stays true X X' f e = absurd (f e)
one_stays false X X' f e = refl

four_stay : (p q r s : Bool) (a b a' b' : Term) → (if p then connective.And a b else
    (if q then connective.Or a b else (if r then connective.Implies a b else (if s then connective.Implies b a else connective.Atomic)))) ≡
    connective.Atomic → (if p then connective.And a' b' else (if q then connective.Or a' b' else
    (if r then connective.Implies a' b' else (if s then connective.Implies b' a' else connective.Atomic)))) ≡ connective.Atomic
four_stay true q r s a b a' b' e = cc
four_stay false true r s a b a' b' e = cc
four_stay false false true s a b a' b' e = cc
four_stay false false false true a b a' b' e = cc
four_stay false false false false a b a' b' e = refl

constant_stays : (from c : ℕ) (ts : List Ty) (us : List Term) → connective_of_constant c ts us ≡ connective.Atomic → connective_of_constant c ts (map (raise from) us) ≡ connective.Atomic
constant_stays from c ts [] e = e
constant_stays from c (T ∷ []) (a ∷ []) e = quantifier_stays (nat_eq c 4) (nat_eq c 5) _ _ _ _ (λ q. cc) (λ q. cc) e
constant_stays from c [] (a ∷ []) e = one_stays (nat_eq c 24) _ _ (λ q. cc) e
constant_stays from c [] (a ∷ b ∷ []) e = four_stay (nat_eq c 0) (nat_eq c 1) (nat_eq c 2) (nat_eq c 3) a b _ _ e
constant_stays from c (T ∷ U ∷ ts) (a ∷ []) e = refl
constant_stays from c (T ∷ []) (a ∷ b ∷ []) e = refl
constant_stays from c (T ∷ U ∷ ts) (a ∷ b ∷ []) e = refl
constant_stays from c [] (a ∷ b ∷ x ∷ us) e = refl
constant_stays from c (T ∷ []) (a ∷ b ∷ x ∷ us) e = refl
constant_stays from c (T ∷ U ∷ ts) (a ∷ b ∷ x ∷ us) e = refl

at_stays : (from : ℕ) (h : Term) (us : List Term) → connective_at h us ≡ connective.Atomic → connective_at (shift from 1 h) (map (raise from) us) ≡ connective.Atomic
at_stays from (atom (constant c ts)) us e = constant_stays from c ts us e
at_stays from (atom (integer z)) us e = refl
at_stays from (atom (text s)) us e = refl
at_stays from (atom (eigen k)) us e = refl
at_stays from (atom (logic x l)) us e = refl
at_stays from (atom (param k T)) us e = refl
at_stays from (index i) us e = ap (λ z. connective_at z (map (raise from) us)) (raise_index from i)
at_stays from (abs b) us e = refl
at_stays from (app t u) us e = refl

form_stays : (from : ℕ) (t : Term) → connective_of t ≡ connective.Atomic → connective_of (shift from 1 t) ≡ connective.Atomic
form_stays from t e =
    ap (λ h. connective_at h (arguments (shift from 1 t))) (head_raised from t) ∙ ap (connective_at (shift from 1 (head_of t))) (arguments_and_raised from t []) ∙ at_stays from (head_of t) (arguments t) e

goal_head_raised : (from : ℕ) (h : Term) → is_goal_head (shift from 1 h) ≡ is_goal_head h
goal_head_raised from (index i) = ap is_goal_head (raise_index from i)
goal_head_raised from (atom a) = refl
goal_head_raised from (abs b) = refl
goal_head_raised from (app t u) = refl

both_parts : (p q : Bool) → (p && q) ≡ true → (p ≡ true) × (q ≡ true)
both_parts true q e = (refl, e)
both_parts false q e = cc

both_again : (p q : Bool) → p ≡ true → q ≡ true → (p && q) ≡ true
both_again true q e f = f
both_again false q e f = cc

goal_test : (from : ℕ) (t : Term) → (is_goal_head (head_of t) && are_positive (arguments t)) ≡ true → (is_goal_head (head_of (shift from 1 t)) && are_positive (arguments (shift from 1 t))) ≡ true
goal_test from t e =
    let b = both_parts (is_goal_head (head_of t)) (are_positive (arguments t)) e in
    both_again _ _ (ap is_goal_head (head_raised from t) ∙ goal_head_raised from (head_of t) ∙ b.0) (ap are_positive (arguments_and_raised from t []) ∙ positives_raised from (arguments t) ∙ b.1)

-- binders
pub record MayRaise (from : ℕ) (B D : List Bool) : Type 0 where
  pub at : (i : ℕ) → slice_index_or B i false ≡ true → slice_index_or D (bump 1 from i) false ≡ true

pub raise_first : (x : Bool) (B : List Bool) → MayRaise 0 B (x ∷ B)
raise_first x B = record { at = λ i e. let b : bump 1 0 i ≡ suc i = grind (arith, nat_tests) in ap (λ j. slice_index_or (x ∷ B) j false) b ∙ e }

raise_below : (x : Bool) (from : ℕ) (B D : List Bool) → MayRaise from B D → MayRaise (suc from) (x ∷ B) (x ∷ D)
raise_below x from B D m = record { at = go }
  where
    go : (i : ℕ) → slice_index_or (x ∷ B) i false ≡ true → slice_index_or (x ∷ D) (bump 1 (suc from) i) false ≡ true
    go zero e = let b : bump 1 (suc from) 0 ≡ 0 = grind (arith, nat_tests) in ap (λ j. slice_index_or (x ∷ D) j false) b ∙ e
    go (suc i) e = let b : bump 1 (suc from) (suc i) ≡ suc (bump 1 from i) = grind (arith, nat_tests) in ap (λ j. slice_index_or (x ∷ D) j false) b ∙ m.at i e

raise_below_all : (vs : List Ty) (from : ℕ) (B D : List Bool) → MayRaise from B D → MayRaise (under_all suc vs from) (falses vs B) (falses vs D)
raise_below_all [] from B D m = m
raise_below_all (v ∷ vs) from B D m = raise_below false (under_all suc vs from) (falses vs B) (falses vs D) (raise_below_all vs from B D m)

clause_head_raised : (d : Declared) (from : ℕ) (B D : List Bool) → MayRaise from B D → (h : Term) → is_clause_head d B h ≡ true → is_clause_head d D (shift from 1 h) ≡ true
clause_head_raised d from B D m (index i) e = ap (is_clause_head d D) (raise_index from i) ∙ m.at i e
clause_head_raised d from B D m (atom (constant c ts)) e = e
clause_head_raised d from B D m (atom (integer z)) e = e
clause_head_raised d from B D m (atom (text s)) e = e
clause_head_raised d from B D m (atom (eigen k)) e = e
clause_head_raised d from B D m (atom (logic x l)) e = e
clause_head_raised d from B D m (atom (param k T)) e = e
clause_head_raised d from B D m (abs b) e = e
clause_head_raised d from B D m (app t u) e = e

clause_test : (d : Declared) (from : ℕ) (B D : List Bool) → MayRaise from B D → (t : Term) → (is_clause_head d B (head_of t) && are_positive (arguments t)) ≡ true → (is_clause_head d D (head_of (shift from 1 t)) && are_positive (arguments (shift from 1 t))) ≡ true
clause_test d from B D m t e =
    let b = both_parts (is_clause_head d B (head_of t)) (are_positive (arguments t)) e in
    both_again _ _ (ap (is_clause_head d D) (head_raised from t) ∙ clause_head_raised d from B D m (head_of t) b.0) (ap are_positive (arguments_and_raised from t []) ∙ positives_raised from (arguments t) ∙ b.1)

-- what is written
loose_index : (from D g i : ℕ) → g ≡ D + from → loose_in D (index (bump 1 g i)) ≡ map (bump 1 from) (loose_in D (index i))
loose_index from D g i e = elim (cases_lt i D) [
  | inl l ↦ let x : nat_lt i D ≡ true = lt-ltb i D l in let y : nat_lt (bump 1 g i) D ≡ true = grind (arith, nat_tests) in ap (λ b. if b then [] else (bump 1 g i - D) ∷ []) y ∙ sym (ap (λ b. map (bump 1 from) (if b then [] else (i - D) ∷ [])) x)
  | inr l ↦
      let x : nat_lt i D ≡ false = le-ltb i D l in
      let y : nat_lt (bump 1 g i) D ≡ false = grind (arith, nat_tests) in
      let z : bump 1 g i - D ≡ bump 1 from (i - D) = grind (arith, nat_tests) in
      ap (λ b. if b then [] else (bump 1 g i - D) ∷ []) y ∙ ap (λ j. j ∷ []) z ∙ sym (ap (λ b. map (bump 1 from) (if b then [] else (i - D) ∷ [])) x)
]

appended : (f : ℕ → ℕ) (xs ys us vs : List ℕ) → us ≡ map f xs → vs ≡ map f ys → us ++ vs ≡ map f (xs ++ ys)
appended f xs ys us vs p q = let m = map-append f xs ys in cc

loose_raised : (from D g : ℕ) → g ≡ D + from → (t : Term) → loose_in D (shift g 1 t) ≡ map (bump 1 from) (loose_in D t)
loose_raised from D g e (index i) = ap (loose_in D) (raise_index g i) ∙ loose_index from D g i e
loose_raised from D g e (atom a) = refl
loose_raised from D g e (abs b) = loose_raised from (suc D) (suc g) (omega (arith, e)) b
loose_raised from D g e (app t u) = appended (bump 1 from) (loose_in D t) (loose_in D u) _ _ (loose_raised from D g e t) (loose_raised from D g e u)

under_same : (vs : List Ty) (D : ℕ) → under_all suc (map same_type vs) D ≡ under_all suc vs D
under_same [] D = refl
under_same (v ∷ vs) D = ap suc (under_same vs D)

under_more : (vs : List Ty) (from D g : ℕ) → g ≡ D + from → under_all suc vs g ≡ under_all suc vs D + from
under_more [] from D g e = e
under_more (v ∷ vs) from D g e = let h = under_more vs from D g e in omega (arith, h)

mutual
  goal_loose : (from D g : ℕ) → g ≡ D + from → (x : Goal) → collect_goal loose_in D (map_goal suc raise same_type g x) ≡ map (bump 1 from) (collect_goal loose_in D x)
  goal_loose from D g e (Atomic t) = loose_raised from D g e t
  goal_loose from D g e Cut = refl
  goal_loose from D g e (Either l r) = appended (bump 1 from) (collect_goals loose_in D l) (collect_goals loose_in D r) _ _ (goals_loose from D g e l) (goals_loose from D g e r)
  goal_loose from D g e (Exists T gs) = goals_loose from (suc D) (suc g) (omega (arith, e)) gs
  goal_loose from D g e (Forall T gs) = goals_loose from (suc D) (suc g) (omega (arith, e)) gs
  goal_loose from D g e (Assume w cs gs) = appended (bump 1 from) (collect_clauses loose_in D cs) (collect_goals loose_in D gs) _ _ (clauses_loose from D g e cs) (goals_loose from D g e gs)
  goal_loose from D g e (Not w gs) = goals_loose from D g e gs

  goals_loose : (from D g : ℕ) → g ≡ D + from → (xs : Goals) → collect_goals loose_in D (map_goals suc raise same_type g xs) ≡ map (bump 1 from) (collect_goals loose_in D xs)
  goals_loose from D g e no_goals = refl
  goals_loose from D g e (goals x xs) = appended (bump 1 from) (collect_goal loose_in D x) (collect_goals loose_in D xs) _ _ (goal_loose from D g e x) (goals_loose from D g e xs)

  clauses_loose : (from D g : ℕ) → g ≡ D + from → (cs : Clauses) → collect_clauses loose_in D (map_clauses suc raise same_type g cs) ≡ map (bump 1 from) (collect_clauses loose_in D cs)
  clauses_loose from D g e no_clauses = refl
  clauses_loose from D g e (clauses (clause n vs h b) cs) =
      let F = under_all suc vs D in
      let G = under_all suc vs g in
      let q = under_more vs from D g e in
      appended (bump 1 from) (loose_in F h ++ collect_goals loose_in F b) (collect_clauses loose_in D cs) _ _
      (ap (λ k. loose_in k (shift G 1 h) ++ collect_goals loose_in k (map_goals suc raise same_type G b)) (under_same vs D) ∙ appended (bump 1 from) (loose_in F h) (collect_goals loose_in F b) _ _ (loose_raised from F G q h) (goals_loose from F G q b)) (clauses_loose from D g e cs)

types_raised : (g : ℕ) (t : Term) → type_variables_in (shift g 1 t) ≡ type_variables_in t
types_raised g (index i) = ap type_variables_in (raise_index g i)
types_raised g (atom a) = refl
types_raised g (abs b) = types_raised (suc g) b
types_raised g (app t u) = let x = types_raised g t in let y = types_raised g u in cc

both_lists : (xs ys us vs : List ℕ) → us ≡ xs → vs ≡ ys → us ++ vs ≡ xs ++ ys
both_lists xs ys us vs p q = cc

abbrev tv : ℕ → Term → List ℕ
tv D t = type_variables_in t

mutual
  goal_types : (D D' g : ℕ) (x : Goal) → collect_goal tv D (map_goal suc raise same_type g x) ≡ collect_goal tv D' x
  goal_types D D' g (Atomic t) = types_raised g t
  goal_types D D' g Cut = refl
  goal_types D D' g (Either l r) = both_lists _ _ _ _ (goals_types D D' g l) (goals_types D D' g r)
  goal_types D D' g (Exists T gs) = goals_types (suc D) (suc D') (suc g) gs
  goal_types D D' g (Forall T gs) = goals_types (suc D) (suc D') (suc g) gs
  goal_types D D' g (Assume w cs gs) = both_lists _ _ _ _ (clauses_types D D' g cs) (goals_types D D' g gs)
  goal_types D D' g (Not w gs) = goals_types D D' g gs

  goals_types : (D D' g : ℕ) (xs : Goals) → collect_goals tv D (map_goals suc raise same_type g xs) ≡ collect_goals tv D' xs
  goals_types D D' g no_goals = refl
  goals_types D D' g (goals x xs) = both_lists _ _ _ _ (goal_types D D' g x) (goals_types D D' g xs)

  clauses_types : (D D' g : ℕ) (cs : Clauses) → collect_clauses tv D (map_clauses suc raise same_type g cs) ≡ collect_clauses tv D' cs
  clauses_types D D' g no_clauses = refl
  clauses_types D D' g (clauses (clause n vs h b) cs) =
      both_lists _ _ _ _ (both_lists _ _ _ _ (types_raised (under_all suc vs g) h) (goals_types (under_all suc (map same_type vs) D) (under_all suc vs D') (under_all suc vs g) b)) (clauses_types D D' g cs)

indices_raised : (from : ℕ) (is : List ℕ) → map (raise from) (map index is) ≡ map index (map (bump 1 from) is)
indices_raised from [] = refl
indices_raised from (i ∷ is) = let x = raise_index from i in let y = indices_raised from is in cc

same_vars : (js : List ℕ) → map same_type (map var js) ≡ map var js
same_vars [] = refl
same_vars (j ∷ js) = ap (λ z. var j ∷ z) (same_vars js)

written_same : (from : ℕ) (is is' js js' : List ℕ) → is' ≡ map (bump 1 from) is → js' ≡ js → map_written (raise from) same_type (written_by is js) ≡ written_by is' js'
written_same from is is' js js' p q = let x = indices_raised from is in let y = same_vars js in let z : map (raise from) (map index is) ≡ map index is' = x ∙ ap (map index) (sym p) in let w : map same_type (map var js) ≡ map var js' = y ∙ ap (map var) (sym q) in cc

goals_written : (from : ℕ) (gs : Goals) → map_written (raise from) same_type (written_in_goals gs) ≡ written_in_goals (map_goals suc raise same_type from gs)
goals_written from gs = written_same from (collect_goals loose_in 0 gs) _ (collect_goals tv 0 gs) _ (goals_loose from 0 from (omega arith) gs) (goals_types 0 0 from gs)

clauses_written : (from : ℕ) (cs : Clauses) → map_written (raise from) same_type (written_in_clauses cs) ≡ written_in_clauses (map_clauses suc raise same_type from cs)
clauses_written from cs = written_same from (collect_clauses loose_in 0 cs) _ (collect_clauses tv 0 cs) _ (clauses_loose from 0 from (omega arith) cs) (clauses_types 0 0 from cs)

exists_raised : (from : ℕ) (g : Goal) → IsExists (map_goal suc raise same_type from g) → IsExists g
exists_raised from (Atomic t) h = h
exists_raised from Cut h = h
exists_raised from (Either l r) h = h
exists_raised from (Exists T gs) h = h
exists_raised from (Forall T gs) h = h
exists_raised from (Assume w cs gs) h = h
exists_raised from (Not w gs) h = h

none_raised : (from : ℕ) (gs : Goals) → gs ≡ no_goals → map_goals suc raise same_type from gs ≡ no_goals
none_raised from gs e = ap (map_goals suc raise same_type from) e

falses_same : (vs : List Ty) (B : List Bool) → falses (map same_type vs) B ≡ falses vs B
falses_same [] B = refl
falses_same (v ∷ vs) B = ap (λ z. false ∷ z) (falses_same vs B)

module _ (d : Declared) where
  mutual
    goal_raised : (from : ℕ) (B D : List Bool) → MayRaise from B D → (g : Goal) → IsFlat d B g → IsFlat d D (map_goal suc raise same_type from g)
    goal_raised from B D m (Atomic t) h = (form_stays from t h.0, goal_test from t h.1)
    goal_raised from B D m Cut h = tt
    goal_raised from B D m (Either l r) h = (goals_raised from B D m l h.0, goals_raised from B D m r h.1)
    goal_raised from B D m (Exists T gs) h = goals_raised (suc from) (false ∷ B) (false ∷ D) (raise_below false from B D m) gs h
    goal_raised from B D m (Forall T gs) h = goals_raised (suc from) (true ∷ B) (true ∷ D) (raise_below true from B D m) gs h
    goal_raised from B D m (Assume w cs gs) h = (ap (map_written (raise from) same_type) h.0 ∙ clauses_written from cs, clauses_raised from B D m cs h.1, goals_raised from B D m gs h.2)
    goal_raised from B D m (Not w gs) h = (ap (map_written (raise from) same_type) h.0 ∙ goals_written from gs, goals_raised from B D m gs h.1)

    pub goals_raised : (from : ℕ) (B D : List Bool) → MayRaise from B D → (gs : Goals) → AreFlat d B gs → AreFlat d D (map_goals suc raise same_type from gs)
    goals_raised from B D m no_goals h = tt
    goals_raised from B D m (goals g gs) h = (goal_raised from B D m g h.0, goals_raised from B D m gs h.1, λ x. none_raised from gs (h.2 (exists_raised from g x)))

    clause_raised : (from : ℕ) (B D : List Bool) → MayRaise from B D → (c : Clause) → ClauseFlat d B c → ClauseFlat d D (map_clause suc raise same_type from c)
    clause_raised from B D m (clause n vs h b) w =
        let l = raise_below_all vs from B D m in
        let f = under_all suc vs from in (
          w.0,
          form_stays f h w.1,
          subst (λ z. (is_clause_head d z (head_of (shift f 1 h)) && are_positive (arguments (shift f 1 h))) ≡ true) (sym (falses_same vs D)) (clause_test d f (falses vs B) (falses vs D) l h w.2),
          subst (λ z. AreFlat d z (map_goals suc raise same_type f b)) (sym (falses_same vs D)) (goals_raised f (falses vs B) (falses vs D) l b w.3),
        )

    clauses_raised : (from : ℕ) (B D : List Bool) → MayRaise from B D → (cs : Clauses) → ClausesFlat d B cs → ClausesFlat d D (map_clauses suc raise same_type from cs)
    clauses_raised from B D m no_clauses h = h
    clauses_raised from B D m (clauses c no_clauses) h = clause_raised from B D m c h
    clauses_raised from B D m (clauses c (clauses e cs)) h = (clause_raised from B D m c h.0, clauses_raised from B D m (clauses e cs) h.1)
