-- A type whose variables are given the numbers of their first places is the numbered type.
use Rattle.std.proofs.Common.{◌≡◌, ℕ, zero, suc, ◌<◌, List, [], ◌∷◌, ◌++◌, length, get_or, refl, sym, ap, subst, ◌∙◌, Bool, true, false, true≢false, arith, inl, inr}
use Rattle.std.specs.Prelude.{nat_eq, if◌then◌else◌, ◌||◌, ◌⊎◌}
use Rattle.std.specs.List.{list_any}
use Rattle.std.proofs.lemmas.List.{length-append}
use Rattle.std.proofs.lemmas.Bool.{eq-eqb}
use Rattle.lp_lemmas.proofs.Numbers.{below_suc}
use Rattle.indexmap.specs.IndexSet.{insert_key}
use Rattle.lp_calculus.specs.Types.{Ty, Tys, var, param, con, arrow, no_types, types, instance, instances}
use Rattle.lp_term.specs.Nodes.{Nodes}
use Rattle.lp_term.specs.declared.node.TypeId.{TypeId}
use Rattle.lp_sig.specs.Copying.{picked, filled}
use Rattle.lp_sig.specs.Schemes.{type_variables, types_variables, met, first_variables, place, numbered_type, AllMet}
use Rattle.lp_sig.proofs.Meetings.{all_met}

all_front : (N xs ys : List ℕ) → AllMet N (xs ++ ys) → AllMet N xs
all_front N [] ys h = tt
all_front N (x ∷ xs) ys h = (h.0, all_front N xs ys h.1)

all_back : (N xs ys : List ℕ) → AllMet N (xs ++ ys) → AllMet N ys
all_back N [] ys h = h
all_back N (x ∷ xs) ys h = all_back N xs ys h.1

module _ (θ σ : ℕ → Ty) (N : List ℕ) (same : (x : ℕ) → list_any (nat_eq x) N ≡ true → θ x ≡ σ x) where
  mutual
    same_on : (t : Ty) → AllMet N (type_variables t) → instance θ t ≡ instance σ t
    same_on (var x) h = same x h.0
    same_on (param k) h = refl
    same_on (con c ts) h = ap (con c) (same_on_all ts h)
    same_on (arrow a b) h =
        let e = same_on a (all_front N (type_variables a) (type_variables b) h) in
        let f = same_on b (all_back N (type_variables a) (type_variables b) h) in
        ap (λ x. arrow x (instance θ b)) e ∙ ap (arrow (instance σ a)) f

    same_on_all : (ts : Tys) → AllMet N (types_variables ts) → instances θ ts ≡ instances σ ts
    same_on_all no_types h = refl
    same_on_all (types t ts) h =
        let e = same_on t (all_front N (type_variables t) (types_variables ts) h) in
        let f = same_on_all ts (all_back N (type_variables t) (types_variables ts) h) in
        ap (λ x. types x (instances θ ts)) e ∙ ap (types (instance σ t)) f

-- types are given for the variables that are met, each with its place
pub numbered_by : (b : Nodes) (names : List TypeId) (t : Ty) → ((x : ℕ) → list_any (nat_eq x) (first_variables t) ≡ true → picked b names x (var x) ≡ var (place (first_variables t) x)) → instance (filled b names) t ≡ numbered_type t
unfolding first_variables numbered_type
numbered_by b names t f = same_on (filled b names) (λ x. var (place (met [] (type_variables t)) x)) (met [] (type_variables t)) f t (all_met (type_variables t) [])

-- each of those that are met stands once
there : (N : List ℕ) (i : ℕ) → i < length N → list_any (nat_eq (get_or N i 0)) N ≡ true
there [] i h = absurd (omega (arith, h))
there (y ∷ N) zero h = ap (λ t. t || list_any (nat_eq y) N) (eq-eqb y y refl)
there (y ∷ N) (suc i) h = by (nat_eq (get_or N i 0) y) (there N i (omega (arith, h)))
  where
    by : (t : Bool) → list_any (nat_eq (get_or N i 0)) N ≡ true → (t || list_any (nat_eq (get_or N i 0)) N) ≡ true
    by true e = refl
    by false e = e

place_more : (N more : List ℕ) (x : ℕ) → list_any (nat_eq x) N ≡ true → place (N ++ more) x ≡ place N x
place_more [] more x e = absurd (true≢false (sym e))
place_more (y ∷ N) more x e = go (nat_eq x y) e (place_more N more x) where
  go : (b : Bool) → (b || list_any (nat_eq x) N) ≡ true → (list_any (nat_eq x) N ≡ true → place (N ++ more) x ≡ place N x) → (if b then 0 else suc (place (N ++ more) x)) ≡ (if b then 0 else suc (place N x))
  go true e h = refl
  go false e h = ap (λ n. suc n) (h e)

place_last : (N : List ℕ) (x : ℕ) → list_any (nat_eq x) N ≡ false → place (N ++ x ∷ []) x ≡ length N
place_last [] x e = ap (λ b. if b then 0 else 1) (eq-eqb x x refl)
place_last (y ∷ N) x e = by (nat_eq x y) e (place_last N x)
  where
    by : (b : Bool) → (b || list_any (nat_eq x) N) ≡ false → (list_any (nat_eq x) N ≡ false → place (N ++ x ∷ []) x ≡ length N) → (if b then 0 else suc (place (N ++ x ∷ []) x)) ≡ suc (length N)
    by true e h = absurd (true≢false e)
    by false e h = ap (λ n. suc n) (h e)

AreApart : List ℕ → Type 0
AreApart N = (i : ℕ) → i < length N → place N (get_or N i 0) ≡ i

at_front : (N : List ℕ) (x i : ℕ) → i < length N → get_or (N ++ x ∷ []) i 0 ≡ get_or N i 0
at_front [] x i h = absurd (omega (arith, h))
at_front (y ∷ N) x zero h = refl
at_front (y ∷ N) x (suc i) h = at_front N x i (omega (arith, h))

at_last : (N : List ℕ) (x : ℕ) → get_or (N ++ x ∷ []) (length N) 0 ≡ x
at_last [] x = refl
at_last (y ∷ N) x = at_last N x

one_more_apart : (N : List ℕ) (x : ℕ) → AreApart N → AreApart (insert_key nat_eq N x)
unfolding AreApart
one_more_apart N x apart = by (list_any (nat_eq x) N) refl
  where
    last : list_any (nat_eq x) N ≡ false → (i : ℕ) → (i < length N) ⊎ (i ≡ length N) → place (N ++ x ∷ []) (get_or (N ++ x ∷ []) i 0) ≡ i
    last e i (inl l) = ap (place (N ++ x ∷ [])) (at_front N x i l) ∙ place_more N (x ∷ []) (get_or N i 0) (there N i l) ∙ apart i l
    last e i (inr same) = subst (λ i. place (N ++ x ∷ []) (get_or (N ++ x ∷ []) i 0) ≡ i) (sym same) (ap (place (N ++ x ∷ [])) (at_last N x) ∙ place_last N x e)

    by : (t : Bool) → list_any (nat_eq x) N ≡ t → (i : ℕ) → i < length (if t then N else N ++ x ∷ []) → place (if t then N else N ++ x ∷ []) (get_or (if t then N else N ++ x ∷ []) i 0) ≡ i
    by true e i h = apart i h
    by false e i h = last e i (below_suc (length N) i (let l = length-append N (x ∷ []) in omega (arith, h, l)))

met_apart : (xs N : List ℕ) → AreApart N → AreApart (met N xs)
met_apart [] N a = a
met_apart (x ∷ xs) N a = met_apart xs (insert_key nat_eq N x) (one_more_apart N x a)

pub place_of_each : (t : Ty) (i : ℕ) → i < length (first_variables t) → place (first_variables t) (get_or (first_variables t) i 0) ≡ i
unfolding first_variables AreApart
place_of_each t i h = met_apart (type_variables t) [] (λ i h. absurd (omega (arith, h))) i h
