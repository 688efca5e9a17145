-- Where a comparison is refused: a head takes more contractions than there are steps, or the units do not suffice.
use Rattle.std.proofs.Common.{◌≡◌, ℕ, zero, suc, ◌<◌, ◌≤◌, List, [], ◌∷◌, length, ◌∙◌, refl, sym, ap, arith, Bool, true, false, Option, Some, None, nat_eq, subst as transport}
use Rattle.std.specs.Prelude.{IsSome, option_map, option_and_then, ◌&&◌}
use Rattle.lp_calculus.specs.Term.{Term}
use Rattle.lp_calculus.specs.Convert.{steps}
use Rattle.lp_term.specs.declared.reduce.TermRefusal.{TermRefusal}
use Rattle.lp_term.proofs.Frames.{some_of}
use Rattle.lp_model.specs.Same.{same_name}
use Rattle.lp_model.specs.Look.{Look, an_abs, rigid, flexible, looked, head_normal, look, weak_step}
use Rattle.lp_model.specs.Pair.{Pair}
use Rattle.lp_model.specs.Rule.{Compared, dearer, type_pairs, compare_types, compare, compare_looks, compare_all}
use Rattle.lp_pattern.specs.declared.fault.PatternRefusal.{PatternRefusal}
use Rattle.lp_pattern.specs.declared.fault.PatternRefusal.TheVariants.{Deep, Memory, Fails}
use Rattle.lp_pattern.specs.Refusing.{IsOfTerm}
use Rattle.lp_pattern.specs.Seen.{IsDeepWhere}
use Rattle.lp_pattern.specs.Comparing.{compare_pairs, IsPassed, IsRest, IsHeadPassed}
use Rattle.lp_unify_laws.proofs.Looks.{weak_head}
use Rattle.lp_unify_laws.proofs.MoreSteps.Scans.{Below}
use Rattle.lp_pattern.proofs.Compares.{from_bind, from_map, by_looks, First, goes_on, ends, first}

-- a head that is too far
normal_none : (k n : ℕ) (t s : Term) → n ≤ k → steps weak_step k t ≡ Some s → head_normal n t ≡ None
normal_none k zero t s l e = refl
normal_none zero (suc n) t s l e = absurd (omega (arith, l))
normal_none (suc k) (suc n) t s l e =
    elim (weak_step t) as (λ o. weak_step t ≡ o → (elim o [ None ↦ None | Some u ↦ steps weak_step k u ]) ≡ Some s → head_normal (suc n) t ≡ None) [
      | None ↦ λ w p. absurd (cc)
      | Some u ↦ λ w p.
          ap (λ (x : Option Term). elim x as (λ z. Option Term) [ None ↦ Some t | Some y ↦ head_normal n y ]) (weak_head t u w) ∙ normal_none k n u s (omega (arith, l)) p
    ] refl e

pub too_far : (limit n : ℕ) (t : Term) → n ≤ suc limit → IsSome (steps weak_step (suc limit) t) → look n t ≡ None
too_far limit n t l e = let k = some_of (steps weak_step (suc limit) t) e in ap (option_map (λ s. looked s [])) (normal_none (suc limit) n t k.0 l k.1)

no_left : (n k : ℕ) (t u : Term) → look n t ≡ None → compare (suc n) k t u ≡ None
no_left n k t u e = ap (option_and_then (λ v. option_and_then (λ w. compare_looks n k t u v w) (look n u))) e

no_right : (n k : ℕ) (t u : Term) → look n u ≡ None → compare (suc n) k t u ≡ None
no_right n k t u e =
    elim (look n t) as (λ o. option_and_then (λ v. option_and_then (λ w. compare_looks n k t u v w) (look n u)) o ≡ None) [
      | None ↦ refl
      | Some v ↦ ap (option_and_then (λ w. compare_looks n k t u v w)) e
    ]

left_too_far : (limit n k : ℕ) (t u : Term) → n ≤ limit → IsSome (steps weak_step (suc limit) t) → compare n k t u ≡ None
left_too_far limit zero k t u l e = refl
left_too_far limit (suc n) k t u l e = no_left n k t u (too_far limit n t (omega (arith, l)) e)

right_too_far : (limit n k : ℕ) (t u : Term) → n ≤ limit → IsSome (steps weak_step (suc limit) u) → compare n k t u ≡ None
right_too_far limit zero k t u l e = refl
right_too_far limit (suc n) k t u l e = no_right n k t u (too_far limit n u (omega (arith, l)) e)

abbrev behind : ℕ → List Pair → Compared → Bool → Option Compared
behind n ps c b = elim b [ true ↦ option_map (dearer c.units) (compare_pairs n ps) | false ↦ Some c ]

no_first : (n : ℕ) (p : Pair) (ps : List Pair) → compare n p.level p.left p.right ≡ None → compare_pairs n (p ∷ ps) ≡ None
no_first n p ps e = ap (option_and_then (λ c. behind n ps c c.same)) e

never : (old : ℕ) (o : Option Compared) → o ≡ None → IsPassed Deep old o
never old o e = λ r q. absurd (let x : None ≡ Some r = sym e ∙ q in cc)

pub left_refused : (limit old n : ℕ) (p : Pair) (ps : List Pair) (e : TermRefusal) (r : PatternRefusal) → IsOfTerm e r → IsDeepWhere limit p.left e → n ≤ limit → IsPassed r old (compare_pairs n (p ∷ ps))
left_refused limit old n p ps (TermRefusal.Deep m) r i d l =
    transport (λ x. IsPassed x old (compare_pairs n (p ∷ ps))) (sym i) (never old (compare_pairs n (p ∷ ps)) (no_first n p ps (left_too_far limit n p.level p.left p.right l d)))
left_refused limit old n p ps TermRefusal.Memory r i d l = transport (λ x. IsPassed x old (compare_pairs n (p ∷ ps))) (sym i) tt

pub right_refused : (limit old n : ℕ) (p : Pair) (ps : List Pair) (e : TermRefusal) (r : PatternRefusal) → IsOfTerm e r → IsDeepWhere limit p.right e → n ≤ limit → IsPassed r old (compare_pairs n (p ∷ ps))
right_refused limit old n p ps (TermRefusal.Deep m) r i d l =
    transport (λ x. IsPassed x old (compare_pairs n (p ∷ ps))) (sym i) (never old (compare_pairs n (p ∷ ps)) (no_first n p ps (right_too_far limit n p.level p.left p.right l d)))
right_refused limit old n p ps TermRefusal.Memory r i d l = transport (λ x. IsPassed x old (compare_pairs n (p ∷ ps))) (sym i) tt

-- what is given of the first pair alone
pub passed_in_front : (old n : ℕ) (p : Pair) (ps : List Pair) (r : PatternRefusal) → IsPassed r old (compare n p.level p.left p.right) → IsPassed r old (compare_pairs n (p ∷ ps))
passed_in_front old n p ps Deep h = λ d e. go d (first n p ps d e)
  where
    go : (d : Compared) → First n p ps d → old < d.units
    go d (goes_on c s g i j k) = omega (arith, h c g, ap (λ x. x.units) k)
    go d (ends c g i k) = omega (arith, h c g, ap (λ x. x.units) k)
passed_in_front old n p ps Memory h = tt
passed_in_front old n p ps Fails h = absurd h

-- what is given of the same comparison further on
pub passed_before : (old n : ℕ) (r : PatternRefusal) (o o' : Option Compared) → Below o o' → IsPassed r old o' → IsPassed r old o
passed_before old n Deep o o' b h = λ d e. h d (b d e)
passed_before old n Memory o o' b h = tt
passed_before old n Fails o o' b h = h

pub rest_passed : (old now : ℕ) (r : PatternRefusal) (o o' : Option Compared) → IsRest old now o o' → IsPassed r now o' → IsPassed r old o
rest_passed old now Deep o o' k h = λ d e. let s = k d e in omega (arith, h s.0 s.1, s.3)
rest_passed old now Memory o o' k h = tt
rest_passed old now Fails o o' k h = h

-- two tops take a unit
abbrev after_types : ℕ → ℕ → List Term → List Term → Compared → Bool → Option Compared
after_types n k ts us c b = elim b [ true ↦ option_map (dearer (suc c.units)) (compare_all n k ts us) | false ↦ Some (dearer 1 c) ]

abbrev differing : Option Compared
differing = Some (record { same = false; units = 1 })

abbrev after_names : ℕ → ℕ → Term → List Term → Term → List Term → Bool → Option Compared
after_names n k h ts g us b = elim b [ true ↦ option_and_then (λ c. after_types n k ts us c c.same) (compare_types n (type_pairs h g)) | false ↦ differing ]

abbrev after_variables : ℕ → ℕ → List Term → List Term → Bool → Option Compared
after_variables n k ts us b = elim b [ true ↦ option_map (dearer 1) (compare_all n k ts us) | false ↦ differing ]

one_costs : (d : Compared) → differing ≡ Some d → 0 < d.units
one_costs d e = let q : record { same = false; units = 1 } ≡ d = cc in omega (arith, ap (λ x. x.units) q)

types_cost : (m n k : ℕ) (ts us : List Term) (c d : Compared) (b : Bool) → m < c.units → after_types n k ts us c b ≡ Some d → suc m < d.units
types_cost m n k ts us c d true l e = let w = from_map (dearer (suc c.units)) (compare_all n k ts us) d e in omega (arith, l, ap (λ x. x.units) w.2)
types_cost m n k ts us c d false l e = let q : dearer 1 c ≡ d = cc in omega (arith, l, ap (λ x. x.units) q)

types_cost_one : (n k : ℕ) (ts us : List Term) (c d : Compared) (b : Bool) → after_types n k ts us c b ≡ Some d → 0 < d.units
types_cost_one n k ts us c d true e = let w = from_map (dearer (suc c.units)) (compare_all n k ts us) d e in omega (arith, ap (λ x. x.units) w.2)
types_cost_one n k ts us c d false e = let q : dearer 1 c ≡ d = cc in omega (arith, ap (λ x. x.units) q)

names_cost : (n k : ℕ) (h : Term) (ts : List Term) (g : Term) (us : List Term) (d : Compared) (b : Bool) → after_names n k h ts g us b ≡ Some d → 0 < d.units
names_cost n k h ts g us d true e =
    let x = from_bind (λ c. after_types n k ts us c c.same) (compare_types n (type_pairs h g)) d e in types_cost_one n k ts us x.0 d x.0.same x.2
names_cost n k h ts g us d false e = one_costs d e

variables_cost : (n k : ℕ) (ts us : List Term) (d : Compared) (b : Bool) → after_variables n k ts us b ≡ Some d → 0 < d.units
variables_cost n k ts us d true e = let w = from_map (dearer 1) (compare_all n k ts us) d e in omega (arith, ap (λ x. x.units) w.2)
variables_cost n k ts us d false e = one_costs d e

abbrev pub IsTop : Look → Type 0
IsTop (an_abs b) = ⊥
IsTop (rigid h ts) = Unit {0}
IsTop (flexible x l ts) = Unit {0}

tops_cost : (n k : ℕ) (t u : Term) (v w : Look) (d : Compared) → IsTop v → IsTop w → compare_looks (suc n) k t u v w ≡ Some d → 0 < d.units
tops_cost n k t u (an_abs b) w d i j e = absurd i
tops_cost n k t u (rigid h ts) (an_abs c) d i j e = absurd j
tops_cost n k t u (rigid h ts) (rigid g us) d i j e = names_cost n k h ts g us d (same_name h g && nat_eq (length ts) (length us)) e
tops_cost n k t u (rigid h ts) (flexible y m us) d i j e = one_costs d e
tops_cost n k t u (flexible x l ts) (an_abs c) d i j e = absurd j
tops_cost n k t u (flexible x l ts) (rigid g us) d i j e = one_costs d e
tops_cost n k t u (flexible x l ts) (flexible y m us) d i j e = variables_cost n k ts us d (nat_eq x y && nat_eq l m && nat_eq (length ts) (length us)) e

-- no unit is left for two tops
pub none_left : (old n k : ℕ) (t u : Term) (v w : Look) (r : PatternRefusal) → old ≡ 0 → r ≡ Deep → ((m : ℕ) → look (suc m) t ≡ Some v) → ((m : ℕ) → look (suc m) u ≡ Some w) → IsTop v → IsTop w →
    IsPassed r old (compare n k t u)
none_left old n k t u v w r z d a b i j =
    transport (λ x. IsPassed x old (compare n k t u)) (sym d)
    (λ c q. let x = by_looks n k t u t u 0 0 v w refl refl a b c q in omega (arith, z, tops_cost x.0 k t u v w c i j x.2))

-- the types of two heads take more units than there are
pub heads_passed : (u0 u1 n k : ℕ) (t u h g : Term) (ts us : List Term) (r : PatternRefusal) → ((m : ℕ) → look (suc m) t ≡ Some (rigid h ts)) → ((m : ℕ) → look (suc m) u ≡ Some (rigid g us)) →
    u0 ≡ suc u1 → IsHeadPassed r u1 h g (length ts) (length us) → IsPassed r u0 (compare n k t u)
heads_passed u0 u1 n k t u h g ts us Deep a b z p = λ c q.
    let w = by_looks n k t u t u 0 0 (rigid h ts) (rigid g us) refl refl a b c q in
    let x = from_bind (λ c. after_types w.0 k ts us c c.same) (compare_types w.0 (type_pairs h g)) c (ap (after_names w.0 k h ts g us) (sym p.0) ∙ w.2) in
    omega (arith, z, types_cost u1 w.0 k ts us x.0 c x.0.same (p.1 w.0 x.0 x.1) x.2)
heads_passed u0 u1 n k t u h g ts us Memory a b z p = tt
heads_passed u0 u1 n k t u h g ts us Fails a b z p = absurd p
