-- What the definition gives over a table of constants, at some depth, is among what the relation gives.
use Rattle.std.proofs.Common.{◌≡◌, ℕ, zero, suc, List, [], ◌∷◌, ◌++◌, map, Option, Some, None, refl, sym, ap, ◌∙◌}
use Rattle.std.specs.Prelude.{◌&&◌, Bool, true, false, option_map, option_and_then}
use Rattle.lp_calculus.specs.Types.{Ty}
use Rattle.lp_calculus.specs.Term.{Term, shift}
use Rattle.lp_calculus.specs.Typing.{Scheme}
use Rattle.lp_calculus.specs.Spine.{head_of, arguments}
use Rattle.lp_standard.specs.Connectives.{Connective, connective_of}
use Rattle.lp_standard.specs.Connectives as connective
use Rattle.lp_standard.specs.Positive.{are_positive}
use Rattle.lp_model.specs.Flat.{Atomic, Cut, Either, Exists, Forall, Goals, no_goals, goals, clause, Clauses, no_clauses, clauses, add_clauses, raise_goals, assuming, denied}
use Rattle.lp_model.specs.Flatten.{only, is_goal_head, is_clause_head, flat_goal, flat_goal_form, flat_list, flat_clause, flat_clause_form, with_type_vars}
use Rattle.lp_normal.specs.Flats.{IsFlatGoal, truth, cutting, both, one_of, implies, every, exist, negated, plain, IsFlatList, no_more, one_more, IsFlatClause, both_clauses, implied, for_every, head}

pub bind_some : {A B : Type 0} (o : Option A) (f : A → Option B) (x : B) → option_and_then f o ≡ Some x → (a : A) × (o ≡ Some a) × (f a ≡ Some x)
bind_some None f x e = cc
bind_some (Some a) f x e = (a, refl, e)

pub map_some : {A B : Type 0} (o : Option A) (f : A → B) (x : B) → option_map f o ≡ Some x → (a : A) × (o ≡ Some a) × (f a ≡ x)
map_some None f x e = cc
map_some (Some a) f x e = let g : f a ≡ x = cc in (a, refl, g)

only_some : {A : Type 0} (b : Bool) (a x : A) → only b a ≡ Some x → a ≡ x
only_some true a x e = let g : a ≡ x = cc in g
only_some false a x e = cc

some_is : {A : Type 0} (a x : A) → Some a ≡ Some x → a ≡ x
some_is a x e = let g : a ≡ x = cc in g

module _ (d : ℕ → Option Scheme) where
  mutual
    pub goal_derived : (n : ℕ) (binders : List Bool) (t : Term) (rest gs : Goals) → flat_goal n d binders t rest ≡ Some gs → IsFlatGoal t rest gs
    goal_derived zero binders t rest gs e = absurd (cc)
    goal_derived (suc n) binders t rest gs e = form_derived n binders t (connective_of t) refl rest gs e

    form_derived : (n : ℕ) (binders : List Bool) (t : Term) (f : Connective) → connective_of t ≡ f → (rest gs : Goals) → flat_goal_form n d binders t f rest ≡ Some gs → IsFlatGoal t rest gs
    form_derived zero binders t f s rest gs e = absurd (cc)
    form_derived (suc n) binders t connective.True s rest gs e = truth s (sym (some_is rest gs e))
    form_derived (suc n) binders t connective.Cut s rest gs e = cutting s (sym (some_is (goals Cut rest) gs e))
    form_derived (suc n) binders t (connective.And a b) s rest gs e =
        let q = bind_some (flat_goal n d binders b rest) (flat_goal n d binders a) gs e in
        both a b q.0 s (goal_derived n binders b rest q.0 q.1) (goal_derived n binders a q.0 gs q.2)
    form_derived (suc n) binders t (connective.Or a b) s rest gs e =
        let q = bind_some (flat_goal n d binders a no_goals) (λ l. option_map (λ k. goals (Either l k) rest) (flat_goal n d binders b no_goals)) gs e in
        let z = map_some (flat_goal n d binders b no_goals) (λ k. goals (Either q.0 k) rest) gs q.2 in
        one_of a b q.0 z.0 s (goal_derived n binders a no_goals q.0 q.1) (goal_derived n binders b no_goals z.0 z.1) (sym z.2)
    form_derived (suc n) binders t (connective.Implies c g) s rest gs e =
        let q = bind_some (flat_clause n d binders c [] []) (λ cs. option_map (λ hs. goals (assuming cs hs) rest) (flat_goal n d binders g no_goals)) gs e in
        let z = map_some (flat_goal n d binders g no_goals) (λ hs. goals (assuming q.0 hs) rest) gs q.2 in
        implies c g q.0 z.0 s (clause_derived n binders c [] [] q.0 q.1) (goal_derived n binders g no_goals z.0 z.1) (sym z.2)
    form_derived (suc n) binders t (connective.ForAll T b) s rest gs e =
        let z = map_some (flat_goal n d (true ∷ binders) b no_goals) (λ hs. goals (Forall T hs) rest) gs e in
        every T b z.0 s (goal_derived n (true ∷ binders) b no_goals z.0 z.1) (sym z.2)
    form_derived (suc n) binders t (connective.Exists T b) s rest gs e =
        let z = map_some (flat_goal n d (false ∷ binders) b (raise_goals 0 rest)) (λ hs. goals (Exists T hs) no_goals) gs e in
        exist T b z.0 s (goal_derived n (false ∷ binders) b (raise_goals 0 rest) z.0 z.1) (sym z.2)
    form_derived (suc n) binders t (connective.Not g) s rest gs e =
        let z = map_some (flat_goal n d binders g no_goals) (λ hs. goals (denied hs) rest) gs e in
        negated g z.0 s (goal_derived n binders g no_goals z.0 z.1) (sym z.2)
    form_derived (suc n) binders t connective.Atomic s rest gs e =
        plain s (sym (only_some (is_goal_head (head_of t) && are_positive (arguments t)) (goals (Atomic t) rest) gs e))

    list_derived : (n : ℕ) (binders : List Bool) (ts : List Term) (gs : Goals) → flat_list n d binders ts ≡ Some gs → IsFlatList ts gs
    list_derived zero binders ts gs e = absurd (cc)
    list_derived (suc n) binders [] gs e = no_more refl (sym (some_is no_goals gs e))
    list_derived (suc n) binders (t ∷ ts) gs e =
        let q = bind_some (flat_list n d binders ts) (flat_goal n d binders t) gs e in
        one_more t ts q.0 refl (list_derived n binders ts q.0 q.1) (goal_derived n binders t q.0 gs q.2)

    pub clause_derived : (n : ℕ) (binders : List Bool) (c : Term) (vars : List Ty) (body : List Term) (cs : Clauses) → flat_clause n d binders c vars body ≡ Some cs → IsFlatClause c vars body cs
    clause_derived zero binders c vars body cs e = absurd (cc)
    clause_derived (suc n) binders c vars body cs e = clause_form_derived n binders c (connective_of c) refl vars body cs e

    clause_form_derived : (n : ℕ) (binders : List Bool) (c : Term) (f : Connective) → connective_of c ≡ f → (vars : List Ty) (body : List Term) (cs : Clauses) → flat_clause_form n d binders c f vars body ≡ Some cs → IsFlatClause c vars body cs
    clause_form_derived zero binders c f s vars body cs e = absurd (cc)
    clause_form_derived (suc n) binders c connective.True s vars body cs e = absurd (cc)
    clause_form_derived (suc n) binders c connective.Cut s vars body cs e = absurd (cc)
    clause_form_derived (suc n) binders c (connective.Or a b) s vars body cs e = absurd (cc)
    clause_form_derived (suc n) binders c (connective.Not g) s vars body cs e = absurd (cc)
    clause_form_derived (suc n) binders c (connective.Exists T b) s vars body cs e = absurd (cc)
    clause_form_derived (suc n) binders c (connective.And a b) s vars body cs e =
        let q = bind_some (flat_clause n d binders a vars body) (λ l. option_map (add_clauses l) (flat_clause n d binders b vars body)) cs e in
        let z = map_some (flat_clause n d binders b vars body) (add_clauses q.0) cs q.2 in
        both_clauses a b q.0 z.0 s (clause_derived n binders a vars body q.0 q.1) (clause_derived n binders b vars body z.0 z.1) (sym z.2)
    clause_form_derived (suc n) binders c (connective.Implies g b) s vars body cs e =
        implied g b s (clause_derived n binders b vars (body ++ g ∷ []) cs e)
    clause_form_derived (suc n) binders c (connective.ForAll T b) s vars body cs e =
        for_every T b s (clause_derived n (false ∷ binders) b (T ∷ vars) (map (shift 0 1) body) cs e)
    clause_form_derived (suc n) binders c connective.Atomic s vars body cs e =
        let q = bind_some (only (is_clause_head d binders (head_of c) && are_positive (arguments c)) c) (λ u. option_map (λ gs. clauses (clause 0 vars u gs) no_clauses) (flat_list n d binders body)) cs e in
        let z = map_some (flat_list n d binders body) (λ gs. clauses (clause 0 vars q.0 gs) no_clauses) cs q.2 in
        let u = only_some (is_clause_head d binders (head_of c) && are_positive (arguments c)) c q.0 q.1 in
        head z.0 s (list_derived n binders body z.0 z.1) (sym (ap (λ w. clauses (clause 0 vars w z.0) no_clauses) u ∙ z.2))

-- assumed clauses have no type variables of their own

pub with_added : (k : ℕ) (cs ds : Clauses) → with_type_vars k (add_clauses cs ds) ≡ add_clauses (with_type_vars k cs) (with_type_vars k ds)
with_added k no_clauses ds = refl
with_added k (clauses (clause n vs h b) cs) ds = ap (clauses (clause k vs h b)) (with_added k cs ds)

added_same : {A B X Y : Clauses} → A ≡ X → B ≡ Y → add_clauses A B ≡ add_clauses X Y
added_same {A} {B} {X} {Y} e f = ap (λ z. add_clauses z B) e ∙ ap (add_clauses X) f

pub none_of_their_own : (t : Term) (vars : List Ty) (body : List Term) (cs : Clauses) → IsFlatClause t vars body cs → with_type_vars 0 cs ≡ cs
none_of_their_own t vars body cs (both_clauses a b l r f p q e) =
    ap (with_type_vars 0) e ∙ with_added 0 l r ∙ added_same (none_of_their_own a vars body l p) (none_of_their_own b vars body r q) ∙ sym e
none_of_their_own t vars body cs (implied g c f p) = none_of_their_own c vars (body ++ g ∷ []) cs p
none_of_their_own t vars body cs (for_every T b f p) = none_of_their_own b (T ∷ vars) (map (shift 0 1) body) cs p
none_of_their_own t vars body cs (head gs f p e) = ap (with_type_vars 0) e ∙ sym e
