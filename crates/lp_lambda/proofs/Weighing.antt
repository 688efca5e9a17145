-- The parts of a part are less work than it, by more than one.
use Rattle.std.proofs.Common.{◌≡◌, ℕ, suc, ◌+◌, ◌<◌, ◌≤◌, List, [], ◌∷◌, map, refl, ap, subst, arith, Some, Bool, true, false}
use Rattle.std.specs.Prelude.{nat_eq, nat_lt, if◌then◌else◌, not}
use Rattle.std.proofs.lemmas.Option.{same_Some, none-some}
use Rattle.lp_calculus.specs.Types.{Ty}
use Rattle.lp_calculus.specs.Term.{Term, index, atom, abs, app, constant, integer, text, eigen, logic, param, replace, raised}
use Rattle.lp_calculus.specs.Spine.{head_of, arguments_and, arguments}
use Rattle.lp_standard.specs.Numbers as number
use Rattle.lp_standard.specs.Connectives.{body_of, Connective, connective_of_constant, connective_at, connective_of}
use Rattle.lp_standard.specs.Connectives as connective
use Rattle.lp_lambda.specs.Pattern.{Part, inside, binder_of, are_names, is_sigma, only, variable_parts, inside_parts, goal_parts, clause_parts, parts_at}
use Rattle.lp_lambda.specs.declared.walk.Position.{Position}
use Rattle.lp_lambda.specs.declared.walk.Position.TheVariants.{Goal, Clause, Inside}
use Rattle.lp_lambda.specs.declared.walk.Binder.{Binder}
use Rattle.lp_lambda.specs.declared.walk.Binder.TheVariants.{Existential, Universal}
use Rattle.lp_lambda.specs.inner.Walking.{weight, weight_at, weights}

-- a term by its head and its arguments

abbrev argument_weights : List Term → ℕ
argument_weights [] = 0
argument_weights (t ∷ ts) = (1 + weight t) + argument_weights ts

spine_weight : (t : Term) (more : List Term) → weight (head_of t) + argument_weights (arguments_and t more) ≡ weight t + argument_weights more
spine_weight (index i) more = refl
spine_weight (atom a) more = refl
spine_weight (abs b) more = refl
spine_weight (app t u) more =
    let e = spine_weight t (u ∷ more) in
    omega (arith, e)

whole_weight : (t : Term) → weight (head_of t) + argument_weights (arguments t) ≡ weight t
whole_weight t =
    let e = spine_weight t [] in
    omega (arith, e)

-- the bodies of quantifiers

raised_weight : (by d i : ℕ) → weight (raised by d i) ≡ 2
raised_weight by d i = go (nat_lt i d)
  where
    go : (f : Bool) → weight (if f then index i else index (i + by)) ≡ 2
    go true = refl
    go false = refl

shift_weight : (by d : ℕ) (t : Term) → weight (replace (raised by) d t) ≡ weight t
shift_weight by d (index i) = raised_weight by d i
shift_weight by d (atom a) = refl
shift_weight by d (abs b) = ap (λ n. 2 + n) (shift_weight by (suc d) b)
shift_weight by d (app t u) =
    let e = shift_weight by d t in
    let f = shift_weight by d u in
    omega (arith, e, f)

body_weight : (t : Term) → weight (body_of t) ≤ weight t + 3
body_weight (abs b) = omega arith
body_weight (index i) =
    let e = shift_weight 1 0 (index i) in
    omega (arith, e)
body_weight (atom a) = omega arith
body_weight (app t u) =
    let e = shift_weight 1 0 (app t u) in
    omega (arith, e)

-- what a connective is made of, as goals
abbrev load : Connective → ℕ
load connective.True = 0
load connective.Cut = 0
load (connective.And a b) = (2 + weight a) + (2 + weight b)
load (connective.Or a b) = (2 + weight a) + (2 + weight b)
load (connective.Implies c g) = (2 + weight c) + (2 + weight g)
load (connective.ForAll T b) = 2 + weight b
load (connective.Exists T b) = 2 + weight b
load (connective.Not g) = 2 + weight g
load connective.Atomic = 0

load_by : (n : ℕ) (f : Bool) (x y : Connective) → load x ≤ n → load y ≤ n → load (if f then x else y) ≤ n
load_by n true x y h k = h
load_by n false x y h k = k

constant_load : (c : ℕ) (ts : List Ty) (us : List Term) → load (connective_of_constant c ts us) ≤ 4 + argument_weights us
constant_load c ts [] = load_by _ (nat_eq c number.True) _ _ (omega arith) (load_by _ (nat_eq c number.Cut) _ _ (omega arith) (omega arith))
constant_load c [] (a ∷ []) = load_by _ (nat_eq c number.Not) _ _ (omega arith) (omega arith)
constant_load c (T ∷ []) (a ∷ []) =
    let e = body_weight a in
    load_by _ (nat_eq c number.ForAll) _ _ (omega (arith, e)) (load_by _ (nat_eq c number.Exists) _ _ (omega (arith, e)) (omega arith))
constant_load c (T ∷ U ∷ ts) (a ∷ []) = omega arith
constant_load c [] (a ∷ b ∷ []) =
    load_by _ (nat_eq c number.And) _ _ (omega arith)
    (load_by _ (nat_eq c number.Or) _ _ (omega arith) (load_by _ (nat_eq c number.Implies) _ _ (omega arith) (load_by _ (nat_eq c number.If) _ _ (omega arith) (omega arith))))
constant_load c (T ∷ []) (a ∷ b ∷ []) = omega arith
constant_load c (T ∷ U ∷ ts) (a ∷ b ∷ []) = omega arith
constant_load c [] (a ∷ b ∷ x ∷ us) = omega arith
constant_load c (T ∷ []) (a ∷ b ∷ x ∷ us) = omega arith
constant_load c (T ∷ U ∷ ts) (a ∷ b ∷ x ∷ us) = omega arith

head_load : (h : Term) (us : List Term) → load (connective_at h us) ≤ weight h + argument_weights us
head_load (index i) us = omega arith
head_load (atom (constant c ts)) us = constant_load c ts us
head_load (atom (integer z)) us = omega arith
head_load (atom (text s)) us = omega arith
head_load (atom (eigen k)) us = omega arith
head_load (atom (logic x l)) us = omega arith
head_load (atom (param k T)) us = omega arith
head_load (abs b) us = omega arith
head_load (app t u) us = omega arith

term_load : (t : Term) → load (connective_of t) ≤ weight t
term_load t =
    let h = head_load (head_of t) (arguments t) in
    let e = whole_weight t in
    omega (arith, h, e)

goal_lighter : (bs : List Binder) (t : Term) (k : Connective) → load k ≤ weight t → suc (weights (goal_parts bs t k)) < 2 + weight t
goal_lighter bs t connective.True h = omega arith
goal_lighter bs t connective.Cut h = omega arith
goal_lighter bs t (connective.And a b) h = omega (arith, h)
goal_lighter bs t (connective.Or a b) h = omega (arith, h)
goal_lighter bs t (connective.Implies c g) h = omega (arith, h)
goal_lighter bs t (connective.ForAll T b) h = omega (arith, h)
goal_lighter bs t (connective.Exists T b) h = omega (arith, h)
goal_lighter bs t (connective.Not g) h = omega (arith, h)
goal_lighter bs t connective.Atomic h = omega arith

clause_lighter : (bs : List Binder) (t : Term) (k : Connective) → load k ≤ weight t → suc (weights (clause_parts bs t k)) < 2 + weight t
clause_lighter bs t connective.True h = omega arith
clause_lighter bs t connective.Cut h = omega arith
clause_lighter bs t (connective.And a b) h = omega (arith, h)
clause_lighter bs t (connective.Or a b) h = omega arith
clause_lighter bs t (connective.Implies c g) h = omega (arith, h)
clause_lighter bs t (connective.ForAll T b) h = omega (arith, h)
clause_lighter bs t (connective.Exists T b) h = omega arith
clause_lighter bs t (connective.Not g) h = omega arith
clause_lighter bs t connective.Atomic h = omega arith

inside_weights : (bs : List Binder) (us : List Term) → weights (map (inside bs) us) ≤ argument_weights us
inside_weights bs [] = omega arith
inside_weights bs (u ∷ us) =
    let e = inside_weights bs us in
    omega (arith, e)

-- parts that there are
given_lighter : (ps qs : List Part) (n : ℕ) → suc (weights ps) < n → Some ps ≡ Some qs → suc (weights qs) < n
given_lighter ps qs n h e = subst (λ z. suc (weights z) < n) (same_Some ps qs e) h

only_lighter : (f : Bool) (ps qs : List Part) (n : ℕ) → suc (weights ps) < n → only f ps ≡ Some qs → suc (weights qs) < n
only_lighter true ps qs n h e = given_lighter ps qs n h e
only_lighter false ps qs n h e = absurd (none-some qs e)

variable_lighter : (x : Binder) (bs : List Binder) (i : ℕ) (us : List Term) (qs : List Part) → variable_parts x bs i us ≡ Some qs → suc (weights qs) < 2 + argument_weights us
variable_lighter Existential bs i us qs e = only_lighter (are_names bs i us) [] qs _ (omega arith) e
variable_lighter Universal bs i us qs e =
    let h = inside_weights bs us in
    given_lighter (map (inside bs) us) qs _ (omega (arith, h)) e

head_lighter : (bs : List Binder) (h : Term) (us : List Term) (qs : List Part) → inside_parts bs h us ≡ Some qs → suc (weights qs) < weight h + argument_weights us
head_lighter bs (index i) us qs e = variable_lighter (binder_of bs i) bs i us qs e
head_lighter bs (atom a) us qs e =
    let h = inside_weights bs us in
    only_lighter (not (is_sigma a)) (map (inside bs) us) qs _ (omega (arith, h)) e
head_lighter bs (abs b) us qs e =
    let h = inside_weights bs us in
    given_lighter (inside (Universal ∷ bs) b ∷ map (inside bs) us) qs _ (omega (arith, h)) e
head_lighter bs (app t u) us qs e = absurd (none-some qs e)

pub lighter : (p : Position) (bs : List Binder) (t : Term) (qs : List Part) → parts_at p bs t ≡ Some qs → suc (weights qs) < weight_at p t
lighter Goal bs t qs e = given_lighter (goal_parts bs t (connective_of t)) qs _ (goal_lighter bs t (connective_of t) (term_load t)) e
lighter Clause bs t qs e = given_lighter (clause_parts bs t (connective_of t)) qs _ (clause_lighter bs t (connective_of t) (term_load t)) e
lighter Inside bs t qs e =
    let h = head_lighter bs (head_of t) (arguments t) qs e in
    let w = whole_weight t in
    omega (arith, h, w)
