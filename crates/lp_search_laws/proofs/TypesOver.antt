-- Type equations over some type variables: the bindings that solve them are over these, each bound one is free in what was bound before, and the types
-- that the bindings put satisfy the bindings themselves.
use Rattle.std.proofs.Common.{◌≡◌, ℕ, zero, suc, ◌+◌, List, [], ◌∷◌, ◌++◌, map, ◌∙◌, refl, sym, ap, subst as transport, true, false, nat_eq, if◌then◌else◌, Some, None}
use Rattle.std.specs.Prelude.{nat_lt}
use mathlib.Core.Path.{fun_ext}
use Rattle.lp_calculus.specs.Types.{Ty, Tys, var, param, con, arrow, no_types, types, instance, instances}
use Rattle.lp_calculus.proofs.TypeLaws.{instance-instance}
use Rattle.lp_lemmas.specs.Each.{EachOf}
use Rattle.lp_model.specs.Types.{TypePair, TypeBinding, one_type, put_type, put_types, put_in_pair, Visited, and_then, visit, visit_all, TypeVerdict, differ, parts, bound, TypeRuled, parts_of, bind_type, plainly, of_parts, type_rule, none, solved, solve_types}
use Rattle.lp_unify_laws.specs.TypeSolutions.{Satisfies}
use Rattle.lp_unify_laws.proofs.TypeSolving.{satisfies_append}
use Rattle.lp_unify_laws.proofs.Sames.{same_number, number_same}

-- each type variable is one of Q
abbrev mutual
  pub Over : (Q : ℕ → Type 0) → Ty → Type 0
  Over Q (var i) = Q i
  Over Q (param k) = Unit {0}
  Over Q (con c ts) = AreOver Q ts
  Over Q (arrow a b) = Over Q a × Over Q b

  pub AreOver : (Q : ℕ → Type 0) → Tys → Type 0
  AreOver Q no_types = Unit {0}
  AreOver Q (types t ts) = Over Q t × AreOver Q ts

mutual
  pub over_more : (Q R : ℕ → Type 0) → ((i : ℕ) → Q i → R i) → (T : Ty) → Over Q T → Over R T
  over_more Q R f (var i) h = f i h
  over_more Q R f (param k) h = tt
  over_more Q R f (con c ts) h = are_over_more Q R f ts h
  over_more Q R f (arrow a b) h = (over_more Q R f a h.0, over_more Q R f b h.1)

  are_over_more : (Q R : ℕ → Type 0) → ((i : ℕ) → Q i → R i) → (ts : Tys) → AreOver Q ts → AreOver R ts
  are_over_more Q R f no_types h = tt
  are_over_more Q R f (types t ts) h = (over_more Q R f t h.0, are_over_more Q R f ts h.1)

mutual
  over_both : (Q R S : ℕ → Type 0) → ((i : ℕ) → Q i → R i → S i) → (T : Ty) → Over Q T → Over R T → Over S T
  over_both Q R S f (var i) h k = f i h k
  over_both Q R S f (param n) h k = tt
  over_both Q R S f (con c ts) h k = are_over_both Q R S f ts h k
  over_both Q R S f (arrow a b) h k = (over_both Q R S f a h.0 k.0, over_both Q R S f b h.1 k.1)

  are_over_both : (Q R S : ℕ → Type 0) → ((i : ℕ) → Q i → R i → S i) → (ts : Tys) → AreOver Q ts → AreOver R ts → AreOver S ts
  are_over_both Q R S f no_types h k = tt
  are_over_both Q R S f (types t ts) h k = (over_both Q R S f t h.0 k.0, are_over_both Q R S f ts h.1 k.1)

mutual
  pub over_instance : (Q R : ℕ → Type 0) (θ : ℕ → Ty) → ((i : ℕ) → Q i → Over R (θ i)) → (T : Ty) → Over Q T → Over R (instance θ T)
  over_instance Q R θ f (var i) h = f i h
  over_instance Q R θ f (param k) h = tt
  over_instance Q R θ f (con c ts) h = are_over_instance Q R θ f ts h
  over_instance Q R θ f (arrow a b) h = (over_instance Q R θ f a h.0, over_instance Q R θ f b h.1)

  are_over_instance : (Q R : ℕ → Type 0) (θ : ℕ → Ty) → ((i : ℕ) → Q i → Over R (θ i)) → (ts : Tys) → AreOver Q ts → AreOver R (instances θ ts)
  are_over_instance Q R θ f no_types h = tt
  are_over_instance Q R θ f (types t ts) h = (over_instance Q R θ f t h.0, are_over_instance Q R θ f ts h.1)

mutual
  pub over_fixed : (Q : ℕ → Type 0) (θ : ℕ → Ty) → ((i : ℕ) → Q i → θ i ≡ var i) → (T : Ty) → Over Q T → instance θ T ≡ T
  over_fixed Q θ f (var i) h = f i h
  over_fixed Q θ f (param k) h = refl
  over_fixed Q θ f (con c ts) h = ap (con c) (are_over_fixed Q θ f ts h)
  over_fixed Q θ f (arrow a b) h = let e = over_fixed Q θ f a h.0 in let g = over_fixed Q θ f b h.1 in λ i. arrow (e i) (g i)

  are_over_fixed : (Q : ℕ → Type 0) (θ : ℕ → Ty) → ((i : ℕ) → Q i → θ i ≡ var i) → (ts : Tys) → AreOver Q ts → instances θ ts ≡ ts
  are_over_fixed Q θ f no_types h = refl
  are_over_fixed Q θ f (types t ts) h = let e = over_fixed Q θ f t h.0 in let g = are_over_fixed Q θ f ts h.1 in λ i. types (e i) (g i)

mutual
  pub itself : (T : Ty) → instance var T ≡ T
  itself (var i) = refl
  itself (param k) = refl
  itself (con c ts) = ap (con c) (themselves ts)
  itself (arrow a b) = let e = itself a in let g = itself b in λ i. arrow (e i) (g i)

  themselves : (ts : Tys) → instances var ts ≡ ts
  themselves no_types = refl
  themselves (types t ts) = let e = itself t in let g = themselves ts in λ i. types (e i) (g i)

-- what bindings put

abbrev pub types_put : List TypeBinding → ℕ → Ty
types_put bs i = put_types bs (var i)

abbrev pub Not : ℕ → ℕ → Type 0
Not x i = i ≡ x → ⊥

abbrev pub IsFree : List TypeBinding → ℕ → Type 0
IsFree bs i = EachOf (λ b. Not b.id i) bs

-- of Q, and not bound
abbrev pub Left : (Q : ℕ → Type 0) → List TypeBinding → ℕ → Type 0
Left Q bs i = Q i × IsFree bs i

pub put_types_put : (bs : List TypeBinding) (T : Ty) → put_types bs T ≡ instance (types_put bs) T
put_types_put [] T = sym (itself T)
put_types_put (b ∷ bs) T =
    put_types_put bs (put_type b T) ∙ instance-instance (one_type b) (types_put bs) T ∙ ap (λ f. instance f T) (fun_ext (λ i. sym (put_types_put bs (one_type b i))))

put_types_append : (xs ys : List TypeBinding) (T : Ty) → put_types (xs ++ ys) T ≡ put_types ys (put_types xs T)
put_types_append [] ys T = refl
put_types_append (x ∷ xs) ys T = put_types_append xs ys (put_type x T)

not_same : (i j : ℕ) → Not j i → nat_eq i j ≡ false
not_same i j h = elim (nat_eq i j) as (λ b. nat_eq i j ≡ b → b ≡ false) [ true ↦ λ e. absurd (h (same_number i j e)) | false ↦ λ e. refl ] refl

one_other : (b : TypeBinding) (i : ℕ) → Not b.id i → one_type b i ≡ var i
one_other b i h = ap (λ c. if c then b.value else var i) (not_same i b.id h)

one_here : (b : TypeBinding) → one_type b b.id ≡ b.value
one_here b = ap (λ c. if c then b.value else var b.id) (number_same b.id)

pub free_stays : (bs : List TypeBinding) (i : ℕ) → IsFree bs i → types_put bs i ≡ var i
free_stays [] i h = refl
free_stays (b ∷ bs) i h = ap (put_types bs) (one_other b i h.0) ∙ free_stays bs i h.1

each_append : {X : Type 0} (Q : X → Type 0) (xs ys : List X) → EachOf Q xs → EachOf Q ys → EachOf Q (xs ++ ys)
each_append Q [] ys h k = k
each_append Q (x ∷ xs) ys h k = (h.0, each_append Q xs ys h.1 k)

pub each_more : {X : Type 0} (Q R : X → Type 0) → ((x : X) → Q x → R x) → (xs : List X) → EachOf Q xs → EachOf R xs
each_more Q R f [] h = tt
each_more Q R f (x ∷ xs) h = (f x h.0, each_more Q R f xs h.1)

pub left_append : (Q : ℕ → Type 0) (xs ys : List TypeBinding) (i : ℕ) → Left (Left Q xs) ys i → Left Q (xs ++ ys) i
left_append Q xs ys i h = (h.0.0, each_append (λ b. Not b.id i) xs ys h.0.1 h.1)

abbrev pub IsBoundOver : (Q : ℕ → Type 0) → TypeBinding → Type 0
IsBoundOver Q b = Q b.id × Over Q b.value

-- bindings over Q that are satisfied by the types that they put
pub record AreSolved (Q : ℕ → Type 0) (bs : List TypeBinding) : Type 0 where
  pub satisfied : Satisfies (types_put bs) bs
  pub over : EachOf (IsBoundOver Q) bs
  pub puts : (i : ℕ) → Q i → Over (Left Q bs) (types_put bs i)

pub solved_none : (Q : ℕ → Type 0) → AreSolved Q []
solved_none Q = record { satisfied = tt; over = tt; puts = λ i q. (q, tt) }

satisfies_more : (θ τ : ℕ → Ty) (bs : List TypeBinding) → Satisfies θ bs → Satisfies (λ i. instance τ (θ i)) bs
satisfies_more θ τ [] h = tt
satisfies_more θ τ (b ∷ bs) h = (ap (instance τ) h.0 ∙ instance-instance θ τ b.value, satisfies_more θ τ bs h.1)

satisfies_behind : (Q : ℕ → Type 0) (xs : List TypeBinding) (τ : ℕ → Ty) (bs : List TypeBinding) → EachOf (IsBoundOver (Left Q xs)) bs → Satisfies τ bs → Satisfies (λ i. instance τ (types_put xs i)) bs
satisfies_behind Q xs τ [] o h = tt
satisfies_behind Q xs τ (b ∷ bs) o h = (
  ap (instance τ) (free_stays xs b.id o.0.0.1) ∙ h.0 ∙ ap (instance τ) (sym (over_fixed (Left Q xs) (types_put xs) (λ i l. free_stays xs i l.1) b.value o.0.1)) ∙ instance-instance (types_put xs) τ b.value,
  satisfies_behind Q xs τ bs o.1 h.1,
)

types_append : (xs ys : List TypeBinding) → types_put (xs ++ ys) ≡ (λ i. instance (types_put ys) (types_put xs i))
types_append xs ys = fun_ext (λ i. put_types_append xs ys (var i) ∙ put_types_put ys (types_put xs i))

pub solved_append : (Q : ℕ → Type 0) (xs ys : List TypeBinding) → AreSolved Q xs → AreSolved (Left Q xs) ys → AreSolved Q (xs ++ ys)
solved_append Q xs ys h k = record {
  satisfied = transport (λ θ. Satisfies θ (xs ++ ys)) (sym (types_append xs ys))
      (satisfies_append (λ i. instance (types_put ys) (types_put xs i)) xs ys (satisfies_more (types_put xs) (types_put ys) xs h.satisfied) (satisfies_behind Q xs (types_put ys) ys k.over k.satisfied));
  over = each_append (IsBoundOver Q) xs ys h.over (each_more (IsBoundOver (Left Q xs)) (IsBoundOver Q) (λ b o. (o.0.0, over_more (Left Q xs) Q (λ i l. l.0) b.value o.1)) ys k.over);
  puts = λ i q. transport (λ θ. Over (Left Q (xs ++ ys)) (θ i)) (sym (types_append xs ys))
      (over_more (Left (Left Q xs) ys) (Left Q (xs ++ ys)) (left_append Q xs ys) (instance (types_put ys) (types_put xs i)) (over_instance (Left Q xs) (Left (Left Q xs) ys) (types_put ys) k.puts (types_put xs i) (h.puts i q)));
}

-- one binding, of a variable that does not stand in its value
pub record IsBinding (Q : ℕ → Type 0) (b : TypeBinding) : Type 0 where
  pub over : IsBoundOver Q b
  pub not_in : Over (Not b.id) b.value

one_over : (Q : ℕ → Type 0) (b : TypeBinding) → IsBinding Q b → (i : ℕ) → Q i → Over (Left Q (b ∷ [])) (one_type b i)
one_over Q b h i q = elim (nat_eq i b.id) as (λ c. nat_eq i b.id ≡ c → Over (Left Q (b ∷ [])) (if c then b.value else var i)) [
  | true ↦ λ e. over_both Q (Not b.id) (Left Q (b ∷ [])) (λ j x n. (x, (n, tt))) b.value h.over.1 h.not_in
  | false ↦ λ e. (q, ((λ s. let z : nat_eq i b.id ≡ true = transport (λ j. nat_eq i j ≡ true) s (number_same i) in absurd (cc)), tt))
] refl

put_over : (Q : ℕ → Type 0) (b : TypeBinding) → IsBinding Q b → (T : Ty) → Over Q T → Over (Left Q (b ∷ [])) (put_type b T)
put_over Q b h T o = over_instance Q (Left Q (b ∷ [])) (one_type b) (one_over Q b h) T o

solved_one : (Q : ℕ → Type 0) (b : TypeBinding) → IsBinding Q b → AreSolved Q (b ∷ [])
solved_one Q b h = record { satisfied = (one_here b ∙ sym (over_fixed (Not b.id) (one_type b) (λ i n. one_other b i n) b.value h.not_in), tt); over = (h.over, tt); puts = one_over Q b h }

-- what a rule comes to

abbrev pub ArePairsOver : (Q : ℕ → Type 0) → List TypePair → Type 0
ArePairsOver Q ps = EachOf (λ p. Over Q p.left × Over Q p.right) ps

abbrev IsRuledOver : (Q : ℕ → Type 0) → TypeVerdict → Type 0
IsRuledOver Q differ = Unit {0}
IsRuledOver Q (parts qs) = ArePairsOver Q qs
IsRuledOver Q (bound b) = IsBinding Q b

neither : (v w : Visited) → (and_then v w).found ≡ false → (v.found ≡ false) × (w.found ≡ false)
neither v w h = elim v.found as (λ b. v.found ≡ b → (if b then v else record { found = w.found; units = v.units + w.units }).found ≡ false → (v.found ≡ false) × (w.found ≡ false)) [
  | true ↦ λ p q. absurd (cc)
  | false ↦ λ p q. (p, q)
] refl h

mutual
  not_found : (x : ℕ) (T : Ty) → (visit x T).found ≡ false → Over (Not x) T
  not_found x (var i) h = λ e. let z : nat_eq i x ≡ true = transport (λ j. nat_eq i j ≡ true) e (number_same i) in absurd (cc)
  not_found x (param k) h = tt
  not_found x (con c ts) h = none_found x ts h
  not_found x (arrow a b) h = let r = neither (visit x a) (visit x b) h in (not_found x a r.0, not_found x b r.1)

  none_found : (x : ℕ) (ts : Tys) → (visit_all x ts).found ≡ false → AreOver (Not x) ts
  none_found x no_types h = tt
  none_found x (types t ts) h = let r = neither (visit x t) (visit_all x ts) h in (not_found x t r.0, none_found x ts r.1)

abbrev verdict_of : TypeRuled → TypeVerdict
verdict_of r = r.verdict

binds_over : (Q : ℕ → Type 0) (x : ℕ) (T : Ty) → Q x → Over Q T → IsRuledOver Q (bind_type x T).verdict
binds_over Q x T q o = elim (visit x T).found as (λ b. (visit x T).found ≡ b → IsRuledOver Q (verdict_of (if b then record { verdict = differ; units = (visit x T).units } else record { verdict = bound (record { id = x; value = T }); units = (visit x T).units }))) [
  | true ↦ λ e. tt
  | false ↦ λ e. record { over = (q, o); not_in = not_found x T e }
] refl

parts_over : (Q : ℕ → Type 0) (ts us : Tys) (qs : List TypePair) → parts_of ts us ≡ Some qs → AreOver Q ts → AreOver Q us → ArePairsOver Q qs
parts_over Q no_types no_types qs e h k = let z : [] ≡ qs = cc in transport (ArePairsOver Q) z tt
parts_over Q no_types (types u us) qs e h k = absurd (cc)
parts_over Q (types t ts) no_types qs e h k = absurd (cc)
parts_over Q (types t ts) (types u us) qs e h k = elim (parts_of ts us) as (λ o. parts_of ts us ≡ o → (elim o [ None ↦ None | Some ps ↦ Some (record { left = t; right = u } ∷ ps) ]) ≡ Some qs → ArePairsOver Q qs) [
  | None ↦ λ p q. absurd (cc)
  | Some ps ↦ λ p q. let z : record { left = t; right = u } ∷ ps ≡ qs = cc in transport (ArePairsOver Q) z ((h.0, k.0), parts_over Q ts us ps p h.1 k.1)
] refl e

constructors_over : (Q : ℕ → Type 0) (c d : ℕ) (ts us : Tys) → AreOver Q ts → AreOver Q us → IsRuledOver Q (type_rule (con c ts) (con d us)).verdict
constructors_over Q c d ts us h k = elim (nat_eq c d) as (λ b. IsRuledOver Q (if b then of_parts (parts_of ts us) else plainly differ).verdict) [
  | true ↦ elim (parts_of ts us) as (λ o. parts_of ts us ≡ o → IsRuledOver Q (of_parts o).verdict) [
    | None ↦ λ p. tt
    | Some qs ↦ λ p. parts_over Q ts us qs p h k
  ] refl
  | false ↦ tt
]

variables_over : (Q : ℕ → Type 0) (i j : ℕ) → Q i → Q j → IsRuledOver Q (type_rule (var i) (var j)).verdict
variables_over Q i j h k = elim (nat_eq i j) as (λ b. IsRuledOver Q (if b then plainly (parts []) else (if nat_lt i j then bind_type j (var i) else bind_type i (var j))).verdict) [
  | true ↦ tt
  | false ↦ elim (nat_lt i j) as (λ b. IsRuledOver Q (if b then bind_type j (var i) else bind_type i (var j)).verdict) [
    | true ↦ binds_over Q j (var i) k h
    | false ↦ binds_over Q i (var j) h k
  ]
]

parameters_over : (Q : ℕ → Type 0) (k l : ℕ) → IsRuledOver Q (type_rule (param k) (param l)).verdict
parameters_over Q k l = elim (nat_eq k l) as (λ b. IsRuledOver Q (if b then plainly (parts []) else plainly differ).verdict) [ true ↦ tt | false ↦ tt ]

rule_over : (Q : ℕ → Type 0) (t u : Ty) → Over Q t → Over Q u → IsRuledOver Q (type_rule t u).verdict
rule_over Q (var i) (var j) h k = variables_over Q i j h k
rule_over Q (var i) (param n) h k = binds_over Q i (param n) h k
rule_over Q (var i) (con c ts) h k = binds_over Q i (con c ts) h k
rule_over Q (var i) (arrow a b) h k = binds_over Q i (arrow a b) h k
rule_over Q (param n) (var j) h k = binds_over Q j (param n) k h
rule_over Q (con c ts) (var j) h k = binds_over Q j (con c ts) k h
rule_over Q (arrow a b) (var j) h k = binds_over Q j (arrow a b) k h
rule_over Q (param n) (param l) h k = parameters_over Q n l
rule_over Q (param n) (con c ts) h k = tt
rule_over Q (param n) (arrow a b) h k = tt
rule_over Q (con c ts) (param n) h k = tt
rule_over Q (con c ts) (con d us) h k = constructors_over Q c d ts us h k
rule_over Q (con c ts) (arrow a b) h k = tt
rule_over Q (arrow a b) (param n) h k = tt
rule_over Q (arrow a b) (con d us) h k = tt
rule_over Q (arrow a b) (arrow c d) h k = ((h.0, k.0), ((h.1, k.1), tt))

each_put : (Q : ℕ → Type 0) (made : List TypeBinding) (b : TypeBinding) → IsBinding (Left Q made) b → (ps : List TypePair) → ArePairsOver (Left Q made) ps → ArePairsOver (Left Q (made ++ b ∷ [])) (map (put_in_pair b) ps)
each_put Q made b h [] k = tt
each_put Q made b h (p ∷ ps) k =
    let f : (T : Ty) → Over (Left Q made) T → Over (Left Q (made ++ b ∷ [])) (put_type b T) = λ T o. over_more (Left (Left Q made) (b ∷ [])) (Left Q (made ++ b ∷ [])) (left_append Q made (b ∷ [])) (put_type b T) (put_over (Left Q made) b h T o) in
    ((f p.left k.0.0, f p.right k.0.1), each_put Q made b h ps k.1)

pub solve_over : (Q : ℕ → Type 0) (n : ℕ) (ps : List TypePair) (made : List TypeBinding) (u : ℕ) (bs : List TypeBinding) (v : ℕ) → solve_types n ps made u ≡ Some (solved bs v) → ArePairsOver (Left Q made) ps → AreSolved Q made → AreSolved Q bs
solve_over Q zero ps made u bs v e h k = absurd (cc)
solve_over Q (suc n) [] made u bs v e h k = let z : made ≡ bs = cc in transport (AreSolved Q) z k
solve_over Q (suc n) (p ∷ ps) made u bs v e h k = elim (type_rule p.left p.right).verdict as (λ w. IsRuledOver (Left Q made) w → (elim w [
  | differ ↦ Some (none (suc u + (type_rule p.left p.right).units))
  | parts qs ↦ solve_types n (qs ++ ps) made (suc u + (type_rule p.left p.right).units)
  | bound b ↦ solve_types n (map (put_in_pair b) ps) (made ++ b ∷ []) (suc u + (type_rule p.left p.right).units)
]) ≡ Some (solved bs v) → AreSolved Q bs) [
  | differ ↦ λ r q. absurd (cc)
  | parts qs ↦ λ r q. solve_over Q n (qs ++ ps) made _ bs v q (each_append (λ x. Over (Left Q made) x.left × Over (Left Q made) x.right) qs ps r h.1) k
  | bound b ↦ λ r q. solve_over Q n (map (put_in_pair b) ps) (made ++ b ∷ []) _ bs v q (each_put Q made b r ps h.1) (solved_append Q made (b ∷ []) k (solved_one (Left Q made) b r))
] (rule_over (Left Q made) p.left p.right h.0.0 h.0.1) e
