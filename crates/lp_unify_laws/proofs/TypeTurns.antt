-- One turn of solving type equations: lp_type_laws and the definition of unification see the same, at the same cost.
use Rattle.std.proofs.Common.{◌≡◌, ℕ, suc, ◌+◌, List, [], ◌∷◌, ◌++◌, map, Option, Some, None, inl, inr, refl, sym, ap, ◌∙◌, arith}
use Rattle.std.specs.Prelude.{nat_eq, nat_lt, if◌then◌else◌, Bool, true, false, option_map}
use Rattle.std.proofs.lemmas.Bool.{eq-eqb, ne_eqb, cases_eq}
use Rattle.lp_calculus.specs.Types.{Ty, Tys, var, param, con, arrow, no_types, types, instance}
use Rattle.lp_type_laws.specs.Equations.{Equation, equation, one, put_equation, occurs, occurs_in}
use Rattle.lp_type_laws.specs.Solving.{Look, nothing, binds, clash, bind_to, pairs, look_parts, Turn, clashes, goes, turn_of, turn}
use Rattle.lp_type_laws.specs.Solving.{solve}
use Rattle.lp_type_laws.proofs.Counts.{solve_turn, after_turn}
use Rattle.lp_type_laws.specs.Units.{visited, visited_in, cost}
use Rattle.lp_model.specs.Types as model
use Rattle.lp_model.specs.Types.{TypePair, TypeBinding, Visited, visit, visit_all, and_then, TypeVerdict, TypeRuled, differ, bound, parts_of, bind_type, plainly, of_parts, type_rule, put_in_pair, TypeOutcome, none, solve_types}
use Rattle.lp_unify_laws.specs.TypeSolutions.{equations}

-- what a verdict on an equation in front of others leads to
abbrev pub as_turn : TypeVerdict → List Equation → (ℕ → Ty) → Turn
as_turn differ es θ = clashes
as_turn (model.parts qs) es θ = goes (equations qs ++ es) θ
as_turn (bound b) es θ = goes (map (put_equation (one b.id b.value)) es) (λ i. instance (one b.id b.value) (θ i))

-- the occurs check

eq_turned : (i j : ℕ) → nat_eq i j ≡ nat_eq j i
eq_turned i j = elim (cases_eq i j) [
  | inl e ↦ eq-eqb i j e ∙ sym (eq-eqb j i (sym e))
  | inr ne ↦ ne_eqb i j ne ∙ sym (ne_eqb j i (λ f. ne (sym f)))
]

abbrev found_in : Visited → Bool
found_in v = v.found

abbrev units_in : Visited → ℕ
units_in v = v.units

abbrev last_of : (v w : Visited) → Visited
last_of v w = record { found = w.found; units = v.units + w.units }

found_by : (b : Bool) (v w : Visited) → v.found ≡ b → found_in (if b then v else last_of v w) ≡ (if b then true else w.found)
found_by true v w e = e
found_by false v w e = refl

units_by : (b : Bool) (v w : Visited) → units_in (if b then v else last_of v w) ≡ v.units + (if b then 0 else w.units)
units_by true v w = omega arith
units_by false v w = refl

and_found : (v w : Visited) (b c : Bool) → v.found ≡ b → w.found ≡ c → (and_then v w).found ≡ (if b then true else c)
and_found v w b c e f = ap (λ x. found_in (if x then v else last_of v w)) e ∙ found_by b v w e ∙ ap (λ x. if b then true else x) f

and_units : (v w : Visited) (b : Bool) (m n : ℕ) → v.found ≡ b → v.units ≡ m → w.units ≡ n → (and_then v w).units ≡ m + (if b then 0 else n)
and_units v w b m n e f g = ap (λ x. units_in (if x then v else last_of v w)) e ∙ units_by b v w ∙ ap (λ x. x + (if b then 0 else w.units)) f ∙ ap (λ x. m + (if b then 0 else x)) g

mutual
  found_is : (x : ℕ) (t : Ty) → (visit x t).found ≡ occurs x t
  found_is x (var i) = eq_turned i x
  found_is x (param k) = refl
  found_is x (con c ts) = found_all x ts
  found_is x (arrow a b) = and_found (visit x a) (visit x b) (occurs x a) (occurs x b) (found_is x a) (found_is x b)

  found_all : (x : ℕ) (ts : Tys) → (visit_all x ts).found ≡ occurs_in x ts
  found_all x no_types = refl
  found_all x (types t ts) = and_found (visit x t) (visit_all x ts) (occurs x t) (occurs_in x ts) (found_is x t) (found_all x ts)

mutual
  units_are : (x : ℕ) (t : Ty) → (visit x t).units ≡ visited x t
  units_are x (var i) = refl
  units_are x (param k) = refl
  units_are x (con c ts) = ap suc (units_all x ts)
  units_are x (arrow a b) = ap suc (and_units (visit x a) (visit x b) (occurs x a) (visited x a) (visited x b) (found_is x a) (units_are x a) (units_are x b))

  units_all : (x : ℕ) (ts : Tys) → (visit_all x ts).units ≡ visited_in x ts
  units_all x no_types = refl
  units_all x (types t ts) = and_units (visit x t) (visit_all x ts) (occurs x t) (visited x t) (visited_in x ts) (found_is x t) (units_are x t) (units_all x ts)

-- binding

abbrev verdict_of : TypeRuled → TypeVerdict
verdict_of r = r.verdict

abbrev units_of : TypeRuled → ℕ
units_of r = r.units

abbrev ruled_by : Bool → ℕ → Ty → ℕ → TypeRuled
ruled_by b x t u = if b then record { verdict = differ; units = u } else record { verdict = bound (record { id = x; value = t }); units = u }

bound_by : (b : Bool) (x : ℕ) (t : Ty) (u : ℕ) (es : List Equation) (θ : ℕ → Ty) → turn_of (if b then clash else binds x t) es θ ≡ as_turn (verdict_of (ruled_by b x t u)) es θ
bound_by true x t u es θ = refl
bound_by false x t u es θ = refl

units_bound : (b : Bool) (x : ℕ) (t : Ty) (u : ℕ) → units_of (ruled_by b x t u) ≡ u
units_bound true x t u = refl
units_bound false x t u = refl

bind_turn : (x : ℕ) (t : Ty) (es : List Equation) (θ : ℕ → Ty) → turn_of (bind_to x t) es θ ≡ as_turn (bind_type x t).verdict es θ
bind_turn x t es θ = bound_by (occurs x t) x t (visit x t).units es θ ∙ sym (ap (λ b. as_turn (verdict_of (ruled_by b x t (visit x t).units)) es θ) (found_is x t))

bind_units : (x : ℕ) (t : Ty) → (bind_type x t).units ≡ visited x t
bind_units x t = units_bound (visit x t).found x t (visit x t).units ∙ units_are x t

plain_bind : (x : ℕ) (t : Ty) → occurs x t ≡ false → (es : List Equation) (θ : ℕ → Ty) → turn_of (binds x t) es θ ≡ as_turn (bind_type x t).verdict es θ
plain_bind x t e es θ = sym (ap (λ b. turn_of (if b then clash else binds x t) es θ) e) ∙ bind_turn x t es θ

-- two variables

abbrev look_by : (s r : Bool) → ℕ → ℕ → Look
look_by s r x y = if s then nothing else (if r then binds y (var x) else binds x (var y))

abbrev rule_by : (s r : Bool) → ℕ → ℕ → TypeRuled
rule_by s r x y = if s then plainly (model.parts []) else (if r then bind_type y (var x) else bind_type x (var y))

vars_by : (s r : Bool) (x y : ℕ) → nat_eq x y ≡ s → (es : List Equation) (θ : ℕ → Ty) → turn_of (look_by s r x y) es θ ≡ as_turn (verdict_of (rule_by s r x y)) es θ
vars_by true r x y e es θ = refl
vars_by false true x y e es θ = plain_bind y (var x) (eq_turned y x ∙ e) es θ
vars_by false false x y e es θ = plain_bind x (var y) e es θ

vars_units : (s r : Bool) (x y : ℕ) → units_of (rule_by s r x y) ≡ (if s then 0 else 1)
vars_units true r x y = refl
vars_units false true x y = bind_units y (var x)
vars_units false false x y = bind_units x (var y)

-- parts

abbrev with_pair : Ty → Ty → Option (List TypePair) → Option (List TypePair)
with_pair t u o = elim o [ None ↦ None | Some ps ↦ Some (record { left = t; right = u } ∷ ps) ]

abbrev with_equation : Ty → Ty → Option (List Equation) → Option (List Equation)
with_equation t u o = elim o [ None ↦ None | Some es ↦ Some (equation t u ∷ es) ]

one_more : (t u : Ty) (o : Option (List TypePair)) → with_equation t u (option_map equations o) ≡ option_map equations (with_pair t u o)
one_more t u None = refl
one_more t u (Some ps) = refl

pairs_are : (ts us : Tys) → pairs ts us ≡ option_map equations (parts_of ts us)
pairs_are no_types no_types = refl
pairs_are no_types (types u us) = refl
pairs_are (types t ts) no_types = refl
pairs_are (types t ts) (types u us) = ap (with_equation t u) (pairs_are ts us) ∙ one_more t u (parts_of ts us)

parts_turn : (o : Option (List TypePair)) (es : List Equation) (θ : ℕ → Ty) → turn_of (look_parts (option_map equations o)) es θ ≡ as_turn (of_parts o).verdict es θ
parts_turn None es θ = refl
parts_turn (Some ps) es θ = refl

parts_units : (o : Option (List TypePair)) → (of_parts o).units ≡ 0
parts_units None = refl
parts_units (Some ps) = refl

cons_by : (s : Bool) (ts us : Tys) (es : List Equation) (θ : ℕ → Ty) →
    turn_of (if s then look_parts (pairs ts us) else clash) es θ ≡ as_turn (verdict_of (if s then of_parts (parts_of ts us) else plainly differ)) es θ
cons_by true ts us es θ = ap (λ o. turn_of (look_parts o) es θ) (pairs_are ts us) ∙ parts_turn (parts_of ts us) es θ
cons_by false ts us es θ = refl

cons_units : (s : Bool) (ts us : Tys) → units_of (if s then of_parts (parts_of ts us) else plainly differ) ≡ 0
cons_units true ts us = parts_units (parts_of ts us)
cons_units false ts us = refl

params_by : (s : Bool) (es : List Equation) (θ : ℕ → Ty) → turn_of (if s then nothing else clash) es θ ≡ as_turn (verdict_of (if s then plainly (model.parts []) else plainly differ)) es θ
params_by true es θ = refl
params_by false es θ = refl

params_units : (s : Bool) → units_of (if s then plainly (model.parts []) else plainly differ) ≡ 0
params_units true = refl
params_units false = refl

pub turn_is : (a b : Ty) (es : List Equation) (θ : ℕ → Ty) → turn (equation a b) es θ ≡ as_turn (type_rule a b).verdict es θ
turn_is (var x) (var y) es θ = vars_by (nat_eq x y) (nat_lt x y) x y refl es θ
turn_is (var x) (param k) es θ = bind_turn x (param k) es θ
turn_is (var x) (con c ts) es θ = bind_turn x (con c ts) es θ
turn_is (var x) (arrow a b) es θ = bind_turn x (arrow a b) es θ
turn_is (param k) (var y) es θ = bind_turn y (param k) es θ
turn_is (con c ts) (var y) es θ = bind_turn y (con c ts) es θ
turn_is (arrow a b) (var y) es θ = bind_turn y (arrow a b) es θ
turn_is (param k) (param l) es θ = params_by (nat_eq k l) es θ
turn_is (param k) (con c ts) es θ = refl
turn_is (param k) (arrow a b) es θ = refl
turn_is (con c ts) (param k) es θ = refl
turn_is (con c ts) (con d us) es θ = cons_by (nat_eq c d) ts us es θ
turn_is (con c ts) (arrow a b) es θ = refl
turn_is (arrow a b) (param k) es θ = refl
turn_is (arrow a b) (con d us) es θ = refl
turn_is (arrow a b) (arrow c d) es θ = refl

pub cost_is : (a b : Ty) → cost (equation a b) ≡ suc (type_rule a b).units
cost_is (var x) (var y) = ap suc (sym (vars_units (nat_eq x y) (nat_lt x y) x y))
cost_is (var x) (param k) = ap suc (sym (bind_units x (param k)))
cost_is (var x) (con c ts) = ap suc (sym (bind_units x (con c ts)))
cost_is (var x) (arrow a b) = ap suc (sym (bind_units x (arrow a b)))
cost_is (param k) (var y) = ap suc (sym (bind_units y (param k)))
cost_is (con c ts) (var y) = ap suc (sym (bind_units y (con c ts)))
cost_is (arrow a b) (var y) = ap suc (sym (bind_units y (arrow a b)))
cost_is (param k) (param l) = ap suc (sym (params_units (nat_eq k l)))
cost_is (param k) (con c ts) = refl
cost_is (param k) (arrow a b) = refl
cost_is (con c ts) (param k) = refl
cost_is (con c ts) (con d us) = ap suc (sym (cons_units (nat_eq c d) ts us))
cost_is (con c ts) (arrow a b) = refl
cost_is (arrow a b) (param k) = refl
cost_is (arrow a b) (con d us) = refl
cost_is (arrow a b) (arrow c d) = refl

-- the equations, put together and with a type for a variable
pub equations_append : (ps qs : List TypePair) → equations (ps ++ qs) ≡ equations ps ++ equations qs
equations_append [] qs = refl
equations_append (p ∷ ps) qs = ap (λ es. equation p.left p.right ∷ es) (equations_append ps qs)

pub equations_put : (b : TypeBinding) (ps : List TypePair) → equations (map (put_in_pair b) ps) ≡ map (put_equation (one b.id b.value)) (equations ps)
equations_put b [] = refl
equations_put b (p ∷ ps) = ap (λ es. equation (instance (one b.id b.value) p.left) (instance (one b.id b.value) p.right) ∷ es) (equations_put b ps)

-- the definition, behind the verdict on its first pair
abbrev pub behind : ℕ → List TypePair → List TypeBinding → ℕ → TypeVerdict → Option TypeOutcome
behind n ps made u differ = Some (none u)
behind n ps made u (model.parts qs) = solve_types n (qs ++ ps) made u
behind n ps made u (bound b) = solve_types n (map (put_in_pair b) ps) (made ++ b ∷ []) u

pub definition_turn : (n : ℕ) (p : TypePair) (ps : List TypePair) (made : List TypeBinding) (u : ℕ) →
    solve_types (suc n) (p ∷ ps) made u ≡ behind n ps made (suc u + (type_rule p.left p.right).units) (type_rule p.left p.right).verdict
definition_turn n p ps made u = go (type_rule p.left p.right).verdict
  where
    go : (v : TypeVerdict) → (elim v [
      | differ ↦ Some (none (suc u + (type_rule p.left p.right).units))
      | model.parts qs ↦ solve_types n (qs ++ ps)
          made (suc u + (type_rule p.left p.right).units)
      | bound b ↦ solve_types n (map (put_in_pair b) ps) (made ++ b ∷ [])
          (suc u + (type_rule p.left p.right).units)
    ]) ≡ behind n ps made (suc u + (type_rule p.left p.right).units) v
    go differ = refl
    go (model.parts qs) = refl
    go (bound b) = refl

pub solving_turn : (m : ℕ) (p : TypePair) (ps : List TypePair) (θ : ℕ → Ty) → solve (suc m) (equations (p ∷ ps)) θ ≡ after_turn m (as_turn (type_rule p.left p.right).verdict (equations ps) θ)
solving_turn m p ps θ = solve_turn m (equation p.left p.right) (equations ps) θ ∙ ap (after_turn m) (turn_is p.left p.right (equations ps) θ)
