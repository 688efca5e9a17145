-- Solving type equations: lp_type_laws keeps a substitution, the definition of unification a list of bindings. They come to the same, with the
-- same units.
use Rattle.std.proofs.Common.{◌≡◌, ℕ, zero, suc, ◌+◌, ◌<◌, ◌≤◌, List, [], ◌∷◌, ◌++◌, map, Some, refl, sym, ap, ◌∙◌, arith}
use Rattle.std.specs.Prelude.{Bool, true, false, nat_lt, if◌then◌else◌}
use Rattle.std.proofs.lemmas.Bool.{ltb-true}
use Rattle.std.proofs.lemmas.List.{append-nil, append_assoc}
use Rattle.lp_calculus.specs.Types.{Ty, instance}
use Rattle.lp_type_laws.specs.Equations.{one}
use Rattle.lp_type_laws.specs.Solving.{Turn, clashes, goes, turn, Outcome, unfinished, fails, solve}
use Rattle.lp_type_laws.specs.Solving as types
use Rattle.lp_type_laws.specs.Units.{units, spent, ended, solve_within}
use Rattle.lp_type_laws.proofs.Counts.{after_turn}
use Rattle.lp_model.specs.Types.{TypePair, TypeBinding, put_types, put_in_pair, TypeVerdict, differ, bound, type_rule, TypeOutcome, none, solve_types}
use Rattle.lp_model.specs.Types as model
use Rattle.lp_unify_laws.specs.TypeSolutions.{equations}
use Rattle.lp_pattern.specs.Filling.{units_in}
use Rattle.lp_unify_laws.proofs.TypeTurns.{as_turn, turn_is, cost_is, equations_append, equations_put, behind, definition_turn, solving_turn}

abbrev rest_units : ℕ → Turn → ℕ
rest_units n t = elim t [ clashes ↦ 0 | goes fs ι ↦ units n fs ι ]

units_turn : (m : ℕ) (p : TypePair) (ps : List TypePair) (θ : ℕ → Ty) →
    units (suc m) (equations (p ∷ ps)) θ ≡ suc (type_rule p.left p.right).units + rest_units m (as_turn (type_rule p.left p.right).verdict (equations ps) θ)
units_turn m p ps θ = (λ i. cost_is p.left p.right i + rest_units m (turn_is p.left p.right (equations ps) θ i))

-- the definition has come to what was solved
pub record HasSolved (r : TypeOutcome) (made : List TypeBinding) (u : ℕ) (θ ι : ℕ → Ty) : Type 0 where
  pub bindings : List TypeBinding
  pub is : r ≡ model.solved (made ++ bindings) u
  pub puts : (x : ℕ) → ι x ≡ put_types bindings (θ x)

pub some_is : {A : Type 0} (x y : A) → Some x ≡ Some y → x ≡ y
some_is x y e = cc

nothing_left : (m : ℕ) (θ ι : ℕ → Ty) → solve m [] θ ≡ types.solved ι → θ ≡ ι
nothing_left zero θ ι e = cc
nothing_left (suc m) θ ι e = cc

no_units : (m : ℕ) (θ : ℕ → Ty) → units m [] θ ≡ 0
no_units zero θ = refl
no_units (suc m) θ = refl

never_fails : (m : ℕ) (θ : ℕ → Ty) → solve m [] θ ≡ fails → ⊥
never_fails zero θ e = cc
never_fails (suc m) θ e = cc

same_end : (made : List TypeBinding) (u m : ℕ) (θ ι : ℕ → Ty) (r : TypeOutcome) → model.solved made u ≡ r → θ ≡ ι → HasSolved r made (u + units m [] θ) θ ι
same_end made u m θ ι r e f = record {
  bindings = [];
  is = sym e ∙ (λ i. model.solved (sym (append-nil made) i) (later i));
  puts = λ x. ap (λ g. g x) (sym f);
}
  where
    later : u ≡ u + units m [] θ
    later = let n = no_units m θ in omega arith

pub solved_same : (n m : ℕ) (ps : List TypePair) (θ ι : ℕ → Ty) (made : List TypeBinding) (u : ℕ) (r : TypeOutcome) → solve_types n ps made u ≡ Some r →
    solve m (equations ps) θ ≡ types.solved ι → HasSolved r made (u + units m (equations ps) θ) θ ι
solved_same zero m ps θ ι made u r e s = absurd (cc)
solved_same (suc n) m [] θ ι made u r e s = same_end made u m θ ι r (some_is _ _ e) (nothing_left m θ ι s)
solved_same (suc n) zero (p ∷ ps) θ ι made u r e s = absurd (cc)
solved_same (suc n) (suc m) (p ∷ ps) θ ι made u r e s =
    go (λ qs κ done w. solved_same n m qs κ ι done w r) (type_rule p.left p.right).verdict (sym (definition_turn n p ps made u) ∙ e) (sym (solving_turn m p ps θ) ∙ s) (units_turn m p ps θ)
  where
    k : ℕ
    k = suc u + (type_rule p.left p.right).units

    go : ((qs : List TypePair) (κ : ℕ → Ty) (done : List TypeBinding) (w : ℕ) → solve_types n qs done w ≡ Some r → solve m (equations qs) κ ≡ types.solved ι → HasSolved r done (w + units m (equations qs) κ) κ ι) →
        (v : TypeVerdict) → behind n ps made k v ≡ Some r → after_turn m (as_turn v (equations ps) θ) ≡ types.solved ι →
        units (suc m) (equations (p ∷ ps)) θ ≡ suc (type_rule p.left p.right).units + rest_units m (as_turn v (equations ps) θ) →
        HasSolved r made (u + units (suc m) (equations (p ∷ ps)) θ) θ ι
    go ih differ f g h = absurd (cc)
    go ih (model.parts qs) f g h = more (ih (qs ++ ps) θ made k f (ap (λ es. solve m es θ) (equations_append qs ps) ∙ g))
      where
        more : HasSolved r made (k + units m (equations (qs ++ ps)) θ) θ ι → HasSolved r made (u + units (suc m) (equations (p ∷ ps)) θ) θ ι
        more w =
            let a = ap (λ es. units m es θ) (equations_append qs ps) in
            let b : k + units m (equations (qs ++ ps)) θ ≡ u + units (suc m) (equations (p ∷ ps)) θ = omega (arith, a, h) in
            record { bindings = w.bindings; is = w.is ∙ ap (model.solved (made ++ w.bindings)) b; puts = w.puts }
    go ih (bound b) f g h = more (ih (map (put_in_pair b) ps) (λ i. instance (one b.id b.value) (θ i)) (made ++ b ∷ []) k f (ap (λ es. solve m es (λ i. instance (one b.id b.value) (θ i))) (equations_put b ps) ∙ g))
      where
        more : HasSolved r (made ++ b ∷ []) (k + units m (equations (map (put_in_pair b) ps)) (λ i. instance (one b.id b.value) (θ i))) (λ i. instance (one b.id b.value) (θ i)) ι →
            HasSolved r made (u + units (suc m) (equations (p ∷ ps)) θ) θ ι
        more w =
            let a = ap (λ es. units m es (λ i. instance (one b.id b.value) (θ i))) (equations_put b ps) in
            let c : k + units m (equations (map (put_in_pair b) ps)) (λ i. instance (one b.id b.value) (θ i)) ≡ u + units (suc m) (equations (p ∷ ps)) θ = omega (arith, a, h) in
            record { bindings = b ∷ w.bindings; is = w.is ∙ (λ i. model.solved (append_assoc made (b ∷ []) w.bindings i) (c i)); puts = w.puts }

pub fails_same : (n m : ℕ) (ps : List TypePair) (θ : ℕ → Ty) (made : List TypeBinding) (u : ℕ) (r : TypeOutcome) → solve_types n ps made u ≡ Some r →
    solve m (equations ps) θ ≡ fails → r ≡ none (u + units m (equations ps) θ)
fails_same zero m ps θ made u r e s = absurd (cc)
fails_same (suc n) m [] θ made u r e s = absurd (never_fails m θ s)
fails_same (suc n) zero (p ∷ ps) θ made u r e s = absurd (cc)
fails_same (suc n) (suc m) (p ∷ ps) θ made u r e s =
    go (λ qs κ done w. fails_same n m qs κ done w r) (type_rule p.left p.right).verdict (sym (definition_turn n p ps made u) ∙ e) (sym (solving_turn m p ps θ) ∙ s) (units_turn m p ps θ)
  where
    k : ℕ
    k = suc u + (type_rule p.left p.right).units

    go : ((qs : List TypePair) (κ : ℕ → Ty) (done : List TypeBinding) (w : ℕ) → solve_types n qs done w ≡ Some r → solve m (equations qs) κ ≡ fails → r ≡ none (w + units m (equations qs) κ)) →
        (v : TypeVerdict) → behind n ps made k v ≡ Some r → after_turn m (as_turn v (equations ps) θ) ≡ fails →
        units (suc m) (equations (p ∷ ps)) θ ≡ suc (type_rule p.left p.right).units + rest_units m (as_turn v (equations ps) θ) →
        r ≡ none (u + units (suc m) (equations (p ∷ ps)) θ)
    go ih differ f g h = let a : k ≡ u + units (suc m) (equations (p ∷ ps)) θ = omega (arith, h) in sym (some_is _ _ f) ∙ ap none a
    go ih (model.parts qs) f g h =
        let w = ih (qs ++ ps) θ made k f (ap (λ es. solve m es θ) (equations_append qs ps) ∙ g) in
        let a = ap (λ es. units m es θ) (equations_append qs ps) in
        let b : k + units m (equations (qs ++ ps)) θ ≡ u + units (suc m) (equations (p ∷ ps)) θ = omega (arith, a, h) in
        w ∙ ap none b
    go ih (bound b) f g h =
        let w = ih (map (put_in_pair b) ps) (λ i. instance (one b.id b.value) (θ i)) (made ++ b ∷ []) k f (ap (λ es. solve m es (λ i. instance (one b.id b.value) (θ i))) (equations_put b ps) ∙ g) in
        let a = ap (λ es. units m es (λ i. instance (one b.id b.value) (θ i))) (equations_put b ps) in
        let c : k + units m (equations (map (put_in_pair b) ps)) (λ i. instance (one b.id b.value) (θ i)) ≡ u + units (suc m) (equations (p ∷ ps)) θ = omega (arith, a, h) in
        w ∙ ap none c

-- so many equations cost no more than all
pub units_within : (n m : ℕ) (ps : List TypePair) (θ : ℕ → Ty) (made : List TypeBinding) (u : ℕ) (r : TypeOutcome) → solve_types n ps made u ≡ Some r →
    u + units m (equations ps) θ ≤ units_in r
units_within zero m ps θ made u r e = absurd (cc)
units_within (suc n) m [] θ made u r e = let a = no_units m θ in let b : u ≡ units_in r = ap units_in (some_is _ _ e) in omega arith
units_within (suc n) zero (p ∷ ps) θ made u r e = go (λ qs κ done w. units_within n zero qs κ done w r) (type_rule p.left p.right).verdict (sym (definition_turn n p ps made u) ∙ e)
  where
    k : ℕ
    k = suc u + (type_rule p.left p.right).units

    go : ((qs : List TypePair) (κ : ℕ → Ty) (done : List TypeBinding) (w : ℕ) → solve_types n qs done w ≡ Some r → w + units zero (equations qs) κ ≤ units_in r) →
        (v : TypeVerdict) → behind n ps made k v ≡ Some r → u + 0 ≤ units_in r
    go ih differ f = let a : k ≡ units_in r = ap units_in (some_is _ _ f) in omega arith
    go ih (model.parts qs) f = let a = ih (qs ++ ps) θ made k f in omega arith
    go ih (bound b) f = let a = ih (map (put_in_pair b) ps) θ (made ++ b ∷ []) k f in omega arith
units_within (suc n) (suc m) (p ∷ ps) θ made u r e = go (λ qs κ done w. units_within n m qs κ done w r) (type_rule p.left p.right).verdict (sym (definition_turn n p ps made u) ∙ e) (units_turn m p ps θ)
  where
    k : ℕ
    k = suc u + (type_rule p.left p.right).units

    go : ((qs : List TypePair) (κ : ℕ → Ty) (done : List TypeBinding) (w : ℕ) → solve_types n qs done w ≡ Some r → w + units m (equations qs) κ ≤ units_in r) →
        (v : TypeVerdict) → behind n ps made k v ≡ Some r →
        units (suc m) (equations (p ∷ ps)) θ ≡ suc (type_rule p.left p.right).units + rest_units m (as_turn v (equations ps) θ) → u + units (suc m) (equations (p ∷ ps)) θ ≤ units_in r
    go ih differ f h = let a : k ≡ units_in r = ap units_in (some_is _ _ f) in omega (arith, h, a)
    go ih (model.parts qs) f h =
        let w = ih (qs ++ ps) θ made k f in
        let a = ap (λ es. units m es θ) (equations_append qs ps) in
        omega (arith, h, w, a)
    go ih (bound b) f h =
        let w = ih (map (put_in_pair b) ps) (λ i. instance (one b.id b.value) (θ i)) (made ++ b ∷ []) k f in
        let a = ap (λ es. units m es (λ i. instance (one b.id b.value) (θ i))) (equations_put b ps) in
        omega (arith, h, w, a)

-- where the limit is passed the definition takes more units
pub spent_same : (limit n : ℕ) (ps : List TypePair) (θ : ℕ → Ty) (made : List TypeBinding) (u : ℕ) (r : TypeOutcome) → solve_types n ps made u ≡ Some r →
    solve_within limit (equations ps) θ ≡ spent → u + limit < units_in r
spent_same limit n ps θ made u r e s =
    let w = units_within n (suc limit) ps θ made u r e in
    let l = passed (nat_lt limit (units (suc limit) (equations ps) θ)) refl s in
    omega (arith, w, l)
  where
    passed : (b : Bool) → nat_lt limit (units (suc limit) (equations ps) θ) ≡ b → (if b then spent else ended (units (suc limit) (equations ps) θ) (solve (suc limit) (equations ps) θ)) ≡ spent → limit < units (suc limit) (equations ps) θ
    passed true f g = ltb-true limit (units (suc limit) (equations ps) θ) f
    passed false f g = absurd (cc)
