-- Solving type equations keeps and adds no solution: types solve the equations exactly where they satisfy the bindings.
use Rattle.std.proofs.Common.{◌≡◌, ℕ, zero, suc, ◌+◌, ◌≤◌, List, [], ◌∷◌, ◌++◌, map, ◌∙◌, refl, sym, ap, subst as transport, arith, true, false, nat_eq, if◌then◌else◌, Option, Some, None}
use Rattle.std.specs.Prelude.{nat_lt}
use Rattle.std.proofs.lemmas.Bool.Decides.{nat_tests}
use mathlib.Core.Path.{fun_ext}
use Rattle.lp_calculus.specs.Types.{Ty, Tys, var, param, con, arrow, no_types, types, instance, instances}
use Rattle.lp_calculus.proofs.TypeLaws.{instance-instance}
use Rattle.lp_model.specs.Types.{TypePair, TypeBinding, one_type, put_type, put_in_pair, Visited, and_then, visit, visit_all, TypeVerdict, differ, parts, bound, TypeRuled, parts_of, bind_type, plainly, of_parts, type_rule, TypeOutcome, none, solved, solve_types}
use Rattle.lp_unify_laws.specs.TypeSolutions.{Unifies, Satisfies}
use Rattle.lp_unify_laws.proofs.Sames.{same_number}

-- a binding that is satisfied changes nothing
one_satisfied : (θ : ℕ → Ty) (b : TypeBinding) → θ b.id ≡ instance θ b.value → (i : ℕ) → instance θ (one_type b i) ≡ θ i
one_satisfied θ b h i = elim (nat_eq i b.id) as (λ c. nat_eq i b.id ≡ c → instance θ (if c then b.value else var i) ≡ θ i) [
  | true ↦ λ e. sym h ∙ ap θ (sym (same_number i b.id e))
  | false ↦ λ e. refl
] refl

pub put_satisfied : (θ : ℕ → Ty) (b : TypeBinding) → θ b.id ≡ instance θ b.value → (t : Ty) → instance θ (put_type b t) ≡ instance θ t
put_satisfied θ b h t = instance-instance (one_type b) θ t ∙ ap (λ f. instance f t) (fun_ext (one_satisfied θ b h))

-- lists of equations
unifies_append : (θ : ℕ → Ty) (ps qs : List TypePair) → Unifies θ ps → Unifies θ qs → Unifies θ (ps ++ qs)
unifies_append θ [] qs h k = k
unifies_append θ (p ∷ ps) qs h k = (h.0, unifies_append θ ps qs h.1 k)

unifies_split : (θ : ℕ → Ty) (ps qs : List TypePair) → Unifies θ (ps ++ qs) → Unifies θ ps × Unifies θ qs
unifies_split θ [] qs h = (tt, h)
unifies_split θ (p ∷ ps) qs h = let r = unifies_split θ ps qs h.1 in ((h.0, r.0), r.1)

unifies_put : (θ : ℕ → Ty) (b : TypeBinding) → θ b.id ≡ instance θ b.value → (ps : List TypePair) → Unifies θ ps → Unifies θ (map (put_in_pair b) ps)
unifies_put θ b h [] k = tt
unifies_put θ b h (p ∷ ps) k = (put_satisfied θ b h p.left ∙ k.0 ∙ sym (put_satisfied θ b h p.right), unifies_put θ b h ps k.1)

unifies_back : (θ : ℕ → Ty) (b : TypeBinding) → θ b.id ≡ instance θ b.value → (ps : List TypePair) → Unifies θ (map (put_in_pair b) ps) → Unifies θ ps
unifies_back θ b h [] k = tt
unifies_back θ b h (p ∷ ps) k = (sym (put_satisfied θ b h p.left) ∙ k.0 ∙ put_satisfied θ b h p.right, unifies_back θ b h ps k.1)

pub satisfies_append : (θ : ℕ → Ty) (bs cs : List TypeBinding) → Satisfies θ bs → Satisfies θ cs → Satisfies θ (bs ++ cs)
satisfies_append θ [] cs h k = k
satisfies_append θ (b ∷ bs) cs h k = (h.0, satisfies_append θ bs cs h.1 k)

pub satisfies_split : (θ : ℕ → Ty) (bs cs : List TypeBinding) → Satisfies θ (bs ++ cs) → Satisfies θ bs × Satisfies θ cs
satisfies_split θ [] cs h = (tt, h)
satisfies_split θ (b ∷ bs) cs h = let r = satisfies_split θ bs cs h.1 in ((h.0, r.0), r.1)

-- a type variable that stands in a type has no greater value
abbrev mutual
  weight : Ty → ℕ
  weight (var i) = 1
  weight (param k) = 1
  weight (con c ts) = suc (weights ts)
  weight (arrow a b) = suc (weight a + weight b)

  weights : Tys → ℕ
  weights no_types = 0
  weights (types t ts) = weight t + weights ts

found_either : (v w : Visited) → (and_then v w).found ≡ true → (v.found ≡ false → w.found ≡ true)
found_either v w h e = elim v.found as (λ b. v.found ≡ b → (if b then v else record { found = w.found; units = v.units + w.units }).found ≡ true → w.found ≡ true) [
  | true ↦ λ p q. absurd (cc)
  | false ↦ λ p q. q
] refl h

mutual
  weight_found : (θ : ℕ → Ty) (x : ℕ) (t : Ty) → (visit x t).found ≡ true → weight (θ x) ≤ weight (instance θ t)
  weight_found θ x (var i) h = let e = same_number i x h in transport (λ z. weight (θ x) ≤ weight (θ z)) (sym e) (let q : weight (θ x) ≤ weight (θ x) = omega arith in q)
  weight_found θ x (param k) h = absurd (cc)
  weight_found θ x (con c ts) h = let r = weights_found θ x ts h in omega arith
  weight_found θ x (arrow a b) h = elim (visit x a).found as (λ c. (visit x a).found ≡ c → weight (θ x) ≤ weight (instance θ (arrow a b))) [
    | true ↦ λ e. let r = weight_found θ x a e in omega arith
    | false ↦ λ e. let r = weight_found θ x b (found_either (visit x a) (visit x b) h e) in omega arith
  ] refl

  weights_found : (θ : ℕ → Ty) (x : ℕ) (ts : Tys) → (visit_all x ts).found ≡ true → weight (θ x) ≤ weights (instances θ ts)
  weights_found θ x no_types h = absurd (cc)
  weights_found θ x (types t ts) h = elim (visit x t).found as (λ c. (visit x t).found ≡ c → weight (θ x) ≤ weights (instances θ (types t ts))) [
    | true ↦ λ e. let r = weight_found θ x t e in omega arith
    | false ↦ λ e. let r = weights_found θ x ts (found_either (visit x t) (visit_all x ts) h e) in omega arith
  ] refl

-- so it is not a type in which it stands, other than itself
abbrev IsCompound : Ty → Type 0
IsCompound (var i) = ⊥
IsCompound (param k) = Unit {0}
IsCompound (con c ts) = Unit {0}
IsCompound (arrow a b) = Unit {0}

no_occurrence : (θ : ℕ → Ty) (x : ℕ) (t : Ty) → IsCompound t → (visit x t).found ≡ true → θ x ≡ instance θ t → ⊥
no_occurrence θ x (var i) c h e = c
no_occurrence θ x (param k) c h e = absurd (cc)
no_occurrence θ x (con k ts) c h e = let r = weights_found θ x ts h in let q : weight (θ x) ≡ suc (weights (instances θ ts)) = ap weight e in omega arith
no_occurrence θ x (arrow a b) c h e =
    let q : weight (θ x) ≡ suc (weight (instance θ a) + weight (instance θ b)) = ap weight e in
    elim (visit x a).found as (λ z. (visit x a).found ≡ z → ⊥) [
      | true ↦ λ i. let r = weight_found θ x a i in omega arith
      | false ↦ λ i. let r = weight_found θ x b (found_either (visit x a) (visit x b) h i) in omega arith
    ] refl

-- what a rule says of one equation
abbrev IsRuled : Ty → Ty → TypeVerdict → Type 0
IsRuled t u differ = (θ : ℕ → Ty) → instance θ t ≡ instance θ u → ⊥
IsRuled t u (parts qs) = (θ : ℕ → Ty) → (instance θ t ≡ instance θ u → Unifies θ qs) × (Unifies θ qs → instance θ t ≡ instance θ u)
IsRuled t u (bound b) = (θ : ℕ → Ty) → (instance θ t ≡ instance θ u → θ b.id ≡ instance θ b.value) × (θ b.id ≡ instance θ b.value → instance θ t ≡ instance θ u)

flipped : (t u : Ty) (v : TypeVerdict) → IsRuled t u v → IsRuled u t v
flipped t u differ h = λ θ e. h θ (sym e)
flipped t u (parts qs) h = λ θ. ((λ e. (h θ).0 (sym e)), (λ k. sym ((h θ).1 k)))
flipped t u (bound b) h = λ θ. ((λ e. (h θ).0 (sym e)), (λ k. sym ((h θ).1 k)))

abbrev verdict_of : TypeRuled → TypeVerdict
verdict_of r = r.verdict

binds_right : (x : ℕ) (t : Ty) → ((visit x t).found ≡ true → (θ : ℕ → Ty) → θ x ≡ instance θ t → ⊥) → IsRuled (var x) t (bind_type x t).verdict
binds_right x t h = elim (visit x t).found as (λ b. (visit x t).found ≡ b → IsRuled (var x) t (verdict_of (if b then record { verdict = differ; units = (visit x t).units } else record { verdict = bound (record { id = x; value = t }); units = (visit x t).units }))) [
  | true ↦ λ e. h e
  | false ↦ λ e θ. ((λ k. k), (λ k. k))
] refl

other_variable : (i j : ℕ) → nat_eq i j ≡ false → nat_eq j i ≡ true → ⊥
other_variable i j h k = let e : i ≡ j = grind (arith, nat_tests) in let q : nat_eq i j ≡ true = grind (arith, nat_tests) in absurd (cc)

variables_right : (i j : ℕ) → IsRuled (var i) (var j) (type_rule (var i) (var j)).verdict
variables_right i j = elim (nat_eq i j) as (λ b. nat_eq i j ≡ b → IsRuled (var i) (var j) (if b then plainly (parts []) else (if nat_lt i j then bind_type j (var i) else bind_type i (var j))).verdict) [
  | true ↦ λ e θ. ((λ k. tt), (λ k. ap θ (same_number i j e)))
  | false ↦ λ e. elim (nat_lt i j) as (λ b. IsRuled (var i) (var j) (if b then bind_type j (var i) else bind_type i (var j)).verdict) [
    | true ↦ flipped (var j) (var i) (bind_type j (var i)).verdict (binds_right j (var i) (λ f θ q. absurd (cc)))
    | false ↦ binds_right i (var j) (λ f θ q. absurd (other_variable i j e f))
  ]
] refl

parts_unify : (θ : ℕ → Ty) (ts us : Tys) (qs : List TypePair) → parts_of ts us ≡ Some qs → (instances θ ts ≡ instances θ us → Unifies θ qs) × (Unifies θ qs → instances θ ts ≡ instances θ us)
parts_unify θ no_types no_types qs e = let z : [] ≡ qs = cc in ((λ h. transport (Unifies θ) z tt), (λ h. refl))
parts_unify θ no_types (types u us) qs e = absurd (cc)
parts_unify θ (types t ts) no_types qs e = absurd (cc)
parts_unify θ (types t ts) (types u us) qs e = elim (parts_of ts us) as (λ o. parts_of ts us ≡ o →
    (elim o [ None ↦ None | Some ps ↦ Some (record { left = t; right = u } ∷ ps) ]) ≡ Some qs →
    (instances θ (types t ts) ≡ instances θ (types u us) → Unifies θ qs) × (Unifies θ qs → instances θ (types t ts) ≡ instances θ (types u us))) [
      | None ↦ λ p q. absurd (cc)
      | Some ps ↦ λ p q.
          let z : record { left = t; right = u } ∷ ps ≡ qs = cc in
          let r = parts_unify θ ts us ps p in (
            (λ h. let i : instance θ t ≡ instance θ u = cc in let j : instances θ ts ≡ instances θ us = cc in transport (Unifies θ) z (i, r.0 j)),
            (λ h. let k = transport (Unifies θ) (sym z) h in let m = r.1 k.1 in λ i. types (k.0 i) (m i)),
          )
    ] refl e

tail_same : (t u : Ty) (ts us : Tys) → types t ts ≡ types u us → ts ≡ us
tail_same t u ts us e = cc

parts_differ : (θ : ℕ → Ty) (ts us : Tys) → parts_of ts us ≡ None → instances θ ts ≡ instances θ us → ⊥
parts_differ θ no_types no_types e h = absurd (cc)
parts_differ θ no_types (types u us) e h = absurd (cc)
parts_differ θ (types t ts) no_types e h = absurd (cc)
parts_differ θ (types t ts) (types u us) e h = elim (parts_of ts us) as (λ o. parts_of ts us ≡ o → (elim o as (λ x. Option (List TypePair)) [ None ↦ None | Some ps ↦ Some (record { left = t; right = u } ∷ ps) ]) ≡ None → ⊥) [
  | None ↦ λ p q. parts_differ θ ts us p (tail_same (instance θ t) (instance θ u) (instances θ ts) (instances θ us) h)
  | Some ps ↦ λ p q. absurd (cc)
] refl e

constructors_right : (c d : ℕ) (ts us : Tys) → IsRuled (con c ts) (con d us) (type_rule (con c ts) (con d us)).verdict
constructors_right c d ts us = elim (nat_eq c d) as (λ b. nat_eq c d ≡ b → IsRuled (con c ts) (con d us) (if b then of_parts (parts_of ts us) else plainly differ).verdict) [
  | true ↦ λ e. elim (parts_of ts us) as (λ o. parts_of ts us ≡ o → IsRuled (con c ts) (con d us) (of_parts o).verdict) [
    | None ↦ λ p θ h. let j : instances θ ts ≡ instances θ us = cc in parts_differ θ ts us p j
    | Some qs ↦ λ p θ.
        let r = parts_unify θ ts us qs p in
        let i = same_number c d e in
        ((λ h. let j : instances θ ts ≡ instances θ us = cc in r.0 j), (λ k. let m = r.1 k in λ z. con (i z) (m z)))
  ] refl
  | false ↦ λ e θ h. let i : c ≡ d = cc in let q : nat_eq c d ≡ true = grind (arith, nat_tests) in absurd (cc)
] refl

parameters_right : (k l : ℕ) → IsRuled (param k) (param l) (type_rule (param k) (param l)).verdict
parameters_right k l = elim (nat_eq k l) as (λ b. nat_eq k l ≡ b → IsRuled (param k) (param l) (if b then plainly (parts []) else plainly differ).verdict) [
  | true ↦ λ e θ. ((λ h. tt), (λ h. ap param (same_number k l e)))
  | false ↦ λ e θ h. let i : k ≡ l = cc in let q : nat_eq k l ≡ true = grind (arith, nat_tests) in absurd (cc)
] refl

rule_right : (t u : Ty) → IsRuled t u (type_rule t u).verdict
rule_right (var i) (var j) = variables_right i j
rule_right (var i) (param k) = binds_right i (param k) (λ h θ. no_occurrence θ i (param k) tt h)
rule_right (var i) (con c ts) = binds_right i (con c ts) (λ h θ. no_occurrence θ i (con c ts) tt h)
rule_right (var i) (arrow a b) = binds_right i (arrow a b) (λ h θ. no_occurrence θ i (arrow a b) tt h)
rule_right (param k) (var j) = flipped (var j) (param k) (bind_type j (param k)).verdict (binds_right j (param k) (λ h θ. no_occurrence θ j (param k) tt h))
rule_right (con c ts) (var j) = flipped (var j) (con c ts) (bind_type j (con c ts)).verdict (binds_right j (con c ts) (λ h θ. no_occurrence θ j (con c ts) tt h))
rule_right (arrow a b) (var j) = flipped (var j) (arrow a b) (bind_type j (arrow a b)).verdict (binds_right j (arrow a b) (λ h θ. no_occurrence θ j (arrow a b) tt h))
rule_right (param k) (param l) = parameters_right k l
rule_right (param k) (con c ts) = λ θ e. absurd (cc)
rule_right (param k) (arrow a b) = λ θ e. absurd (cc)
rule_right (con c ts) (param k) = λ θ e. absurd (cc)
rule_right (con c ts) (con d us) = constructors_right c d ts us
rule_right (con c ts) (arrow a b) = λ θ e. absurd (cc)
rule_right (arrow a b) (param k) = λ θ e. absurd (cc)
rule_right (arrow a b) (con d us) = λ θ e. absurd (cc)
rule_right (arrow a b) (arrow c d) = λ θ. (
  (λ h. let i : instance θ a ≡ instance θ c = cc in let j : instance θ b ≡ instance θ d = cc in (i, (j, tt))),
  (λ k. λ i. arrow (k.0 i) (k.1.0 i)),
)

-- what equations come to, behind the bindings made
pub record SolvedAs (ps : List TypePair) (made bs : List TypeBinding) : Type 0 where
  pub new : List TypeBinding
  pub is : bs ≡ made ++ new
  pub keeps : (θ : ℕ → Ty) → Unifies θ ps → Satisfies θ new
  pub solves : (θ : ℕ → Ty) → Satisfies θ new → Unifies θ ps

abbrev pub AreSolved : List TypePair → List TypeBinding → TypeOutcome → Type 0
AreSolved ps made (none u) = (θ : ℕ → Ty) → Unifies θ ps → ⊥
AreSolved ps made (solved bs u) = SolvedAs ps made bs

made_more : (made new : List TypeBinding) (b : TypeBinding) → (made ++ b ∷ []) ++ new ≡ made ++ (b ∷ new)
made_more [] new b = refl
made_more (c ∷ made) new b = ap (λ z. c ∷ z) (made_more made new b)

none_made : (made : List TypeBinding) → made ≡ made ++ []
none_made [] = refl
none_made (c ∷ made) = ap (λ z. c ∷ z) (none_made made)

by_parts : (p : TypePair) (ps qs : List TypePair) (made : List TypeBinding) → IsRuled p.left p.right (parts qs) → (o : TypeOutcome) → AreSolved (qs ++ ps) made o → AreSolved (p ∷ ps) made o
by_parts p ps qs made h (none u) k = λ θ e. k θ (unifies_append θ qs ps ((h θ).0 e.0) e.1)
by_parts p ps qs made h (solved bs u) k = record {
  new = k.new;
  is = k.is;
  keeps = λ θ e. k.keeps θ (unifies_append θ qs ps ((h θ).0 e.0) e.1);
  solves = λ θ s. let r = unifies_split θ qs ps (k.solves θ s) in ((h θ).1 r.0, r.1);
}

by_bound : (p : TypePair) (ps : List TypePair) (b : TypeBinding) (made : List TypeBinding) → IsRuled p.left p.right (bound b) → (o : TypeOutcome) → AreSolved (map (put_in_pair b) ps) (made ++ b ∷ []) o → AreSolved (p ∷ ps) made o
by_bound p ps b made h (none u) k = λ θ e. let s = (h θ).0 e.0 in k θ (unifies_put θ b s ps e.1)
by_bound p ps b made h (solved bs u) k = record {
  new = b ∷ k.new;
  is = k.is ∙ made_more made k.new b;
  keeps = λ θ e. let s = (h θ).0 e.0 in (s, k.keeps θ (unifies_put θ b s ps e.1));
  solves = λ θ s. ((h θ).1 s.0, unifies_back θ b s.0 ps (k.solves θ s.1));
}

pub types_right : (n : ℕ) (ps : List TypePair) (made : List TypeBinding) (u : ℕ) (o : TypeOutcome) → solve_types n ps made u ≡ Some o → AreSolved ps made o
types_right zero ps made u o e = absurd (cc)
types_right (suc n) [] made u o e = let z : solved made u ≡ o = cc in transport (AreSolved [] made) z (record { new = []; is = none_made made; keeps = λ θ h. tt; solves = λ θ h. tt })
types_right (suc n) (p ∷ ps) made u o e =
    let w = suc u + (type_rule p.left p.right).units in
    elim (type_rule p.left p.right).verdict as (λ v. IsRuled p.left p.right v → (elim v [
      | differ ↦ Some (none w)
      | parts qs ↦ solve_types n (qs ++ ps) made w
      | bound b ↦ solve_types n (map (put_in_pair b) ps) (made ++ b ∷ []) w
    ]) ≡ Some o → AreSolved (p ∷ ps) made o) [
      | differ ↦ λ h q. let z : none w ≡ o = cc in transport (AreSolved (p ∷ ps) made) z (λ θ k. h θ k.0)
      | parts qs ↦ λ h q. by_parts p ps qs made h o (types_right n (qs ++ ps) made w o q)
      | bound b ↦ λ h q. by_bound p ps b made h o (types_right n (map (put_in_pair b) ps) (made ++ b ∷ []) w o q)
    ] (rule_right p.left p.right) e
