-- Type variables are numbered in the order in which they are met, and the numbers lead back to them.
use Rattle.std.proofs.Common.{◌≡◌, ℕ, suc, ◌<◌, List, [], ◌∷◌, ◌++◌, map, length, get_or, refl, sym, ap, subst, ◌∙◌, Bool, true, false, true≢false, arith, inl, inr}
use Rattle.std.specs.Prelude.{nat_eq, if◌then◌else◌, ◌||◌, ◌⊎◌}
use Rattle.std.specs.List.{list_any}
use Rattle.std.proofs.lemmas.List.{append-nil, append_assoc, map-append, length-append}
use Rattle.std.proofs.lemmas.Bool.{eqb-true, eq-eqb, or_parts}
use Rattle.lp_lemmas.proofs.Lists.{any_append, any_push}
use Rattle.indexmap.specs.IndexSet.{insert_key}
use Rattle.lp_calculus.specs.Types.{Ty, Tys, var, param, con, arrow, no_types, types, instance, instances}
use Rattle.lp_infer.specs.Numbering.{type_variables, types_variables, all_variables, AreNumbered}
use Rattle.lp_infer.specs.Meeting.{place, met, AllMet, renaming, unnaming}

pub place_more : (N more : List ℕ) (x : ℕ) → list_any (nat_eq x) N ≡ true → place (N ++ more) x ≡ place N x
place_more [] more x e = absurd (true≢false (sym e))
place_more (y ∷ N) more x e = go (nat_eq x y) e (place_more N more x) where
  go : (b : Bool) → (b || list_any (nat_eq x) N) ≡ true → (list_any (nat_eq x) N ≡ true → place (N ++ more) x ≡ place N x) → (if b then 0 else suc (place (N ++ more) x)) ≡ (if b then 0 else suc (place N x))
  go true e h = refl
  go false e h = ap (λ n. suc n) (h e)

pub place_below : (N : List ℕ) (x : ℕ) → list_any (nat_eq x) N ≡ true → place N x < length N
place_below [] x e = absurd (true≢false (sym e))
place_below (y ∷ N) x e = go (nat_eq x y) e (place_below N x) where
  go : (b : Bool) → (b || list_any (nat_eq x) N) ≡ true → (list_any (nat_eq x) N ≡ true → place N x < length N) → (if b then 0 else suc (place N x)) < suc (length N)
  go true e h = omega arith
  go false e h = let f = h e in omega (arith, f)

pub place_at : (N : List ℕ) (x : ℕ) → list_any (nat_eq x) N ≡ true → get_or N (place N x) 0 ≡ x
place_at [] x e = absurd (true≢false (sym e))
place_at (y ∷ N) x e = go (nat_eq x y) refl e (place_at N x) where
  go : (b : Bool) → nat_eq x y ≡ b → (b || list_any (nat_eq x) N) ≡ true → (list_any (nat_eq x) N ≡ true → get_or N (place N x) 0 ≡ x) → get_or (y ∷ N) (if b then 0 else suc (place N x)) 0 ≡ x
  go true f e h = sym (eqb-true x y f)
  go false f e h = h e

-- one that was not met
pub place_new : (N more : List ℕ) (x : ℕ) → list_any (nat_eq x) N ≡ false → place ((N ++ x ∷ []) ++ more) x ≡ length N
place_new [] more x e = ap (λ b. if b then 0 else suc (place more x)) (eq-eqb x x refl)
place_new (y ∷ N) more x e =
    let h = or_parts (nat_eq x y) (list_any (nat_eq x) N) e in
    ap (λ b. if b then 0 else suc (place ((N ++ x ∷ []) ++ more) x)) h.0 ∙ ap (λ n. suc n) (place_new N more x h.1)

pub place_absent : (N : List ℕ) (x : ℕ) → list_any (nat_eq x) N ≡ false → place N x ≡ length N
place_absent [] x e = refl
place_absent (y ∷ N) x e =
    let h = or_parts (nat_eq x y) (list_any (nat_eq x) N) e in
    ap (λ b. if b then 0 else suc (place N x)) h.0 ∙ ap (λ n. suc n) (place_absent N x h.1)

-- lists

pub keeps : (N : List ℕ) (x : ℕ) → (more : List ℕ) × (insert_key nat_eq N x ≡ N ++ more)
keeps N x = go (list_any (nat_eq x) N) where
  go : (b : Bool) → (more : List ℕ) × ((if b then N else N ++ x ∷ []) ≡ N ++ more)
  go true = ([], sym (append-nil N))
  go false = (x ∷ [], refl)

pub inserted : (N : List ℕ) (x : ℕ) → list_any (nat_eq x) (insert_key nat_eq N x) ≡ true
inserted N x = go (list_any (nat_eq x) N) refl where
  go : (b : Bool) → list_any (nat_eq x) N ≡ b → list_any (nat_eq x) (if b then N else N ++ x ∷ []) ≡ true
  go true e = e
  go false e = any_push N x

pub met_grows : (xs N : List ℕ) → (more : List ℕ) × (met N xs ≡ N ++ more)
met_grows [] N = ([], sym (append-nil N))
met_grows (x ∷ xs) N =
    let k = keeps N x in
    let h = met_grows xs (insert_key nat_eq N x) in
    (k.0 ++ h.0, h.1 ∙ ap (λ l. l ++ h.0) k.1 ∙ append_assoc N k.0 h.0)

pub met_append : (xs ys N : List ℕ) → met N (xs ++ ys) ≡ met (met N xs) ys
met_append [] ys N = refl
met_append (x ∷ xs) ys N = met_append xs ys (insert_key nat_eq N x)

pub all_more : (N more xs : List ℕ) → AllMet N xs → AllMet (N ++ more) xs
all_more N more [] h = tt
all_more N more (x ∷ xs) h = (any_append N more x h.0, all_more N more xs h.1)

pub all_appended : (N xs ys : List ℕ) → AllMet N xs → AllMet N ys → AllMet N (xs ++ ys)
all_appended N [] ys h k = k
all_appended N (x ∷ xs) ys h k = (h.0, all_appended N xs ys h.1 k)

pub all_front : (N xs ys : List ℕ) → AllMet N (xs ++ ys) → AllMet N xs
all_front N [] ys h = tt
all_front N (x ∷ xs) ys h = (h.0, all_front N xs ys h.1)

pub all_back : (N xs ys : List ℕ) → AllMet N (xs ++ ys) → AllMet N ys
all_back N [] ys h = h
all_back N (x ∷ xs) ys h = all_back N xs ys h.1

pub all_met : (xs N : List ℕ) → AllMet (met N xs) xs
all_met [] N = tt
all_met (x ∷ xs) N =
    let h = met_grows xs (insert_key nat_eq N x) in
    (subst (λ M. list_any (nat_eq x) M ≡ true) (sym h.1) (any_append (insert_key nat_eq N x) h.0 x (inserted N x)), all_met xs (insert_key nat_eq N x))

pub met_again : (xs N : List ℕ) → AllMet N xs → met N xs ≡ N
met_again [] N h = refl
met_again (x ∷ xs) N h =
    let e : insert_key nat_eq N x ≡ N = ap (λ b. if b then N else N ++ x ∷ []) h.0 in
    ap (λ M. met M xs) e ∙ met_again xs N h.1

-- numbers

pub numbered : (xs N M more : List ℕ) → M ≡ met N xs ++ more → AreNumbered (length N) (map (place M) xs) (length (met N xs))
numbered [] N M more e = refl
numbered (x ∷ xs) N M more e = go (list_any (nat_eq x) N) refl (λ K f. numbered xs K M more f) where
  grown : (K : List ℕ) → (rest : List ℕ) × (met K xs ++ more ≡ K ++ rest)
  grown K = let h = met_grows xs K in (h.0 ++ more, ap (λ l. l ++ more) h.1 ∙ append_assoc K h.0 more)

  go : (b : Bool) → list_any (nat_eq x) N ≡ b → ((K : List ℕ) → M ≡ met K xs ++ more → AreNumbered (length K) (map (place M) xs) (length (met K xs))) →
      ((place M x < length N) × AreNumbered (length N) (map (place M) xs) (length (met N (x ∷ xs)))) ⊎ ((place M x ≡ length N) × AreNumbered (suc (length N)) (map (place M) xs) (length (met N (x ∷ xs))))
  go true f ih =
      let same : insert_key nat_eq N x ≡ N = ap (λ b. if b then N else N ++ x ∷ []) f in
      let is : M ≡ met N xs ++ more = e ∙ ap (λ K. met K xs ++ more) same in
      let g = grown N in
      let at : place M x ≡ place N x = ap (λ l. place l x) (is ∙ g.1) ∙ place_more N g.0 x f in
      let below = place_below N x f in
      inl (subst (λ n. n < length N) (sym at) below, subst (λ n. AreNumbered (length N) (map (place M) xs) n) (ap (λ K. length (met K xs)) (sym same)) (ih N is))
  go false f ih =
      let K = N ++ x ∷ [] in
      let same : insert_key nat_eq N x ≡ K = ap (λ b. if b then N else N ++ x ∷ []) f in
      let is : M ≡ met K xs ++ more = e ∙ ap (λ L. met L xs ++ more) same in
      let g = grown K in
      let at : place M x ≡ length N = ap (λ l. place l x) (is ∙ g.1) ∙ place_new N g.0 x f in
      let longer : length K ≡ suc (length N) = (let l = length-append N (x ∷ []) in omega (arith, l)) in
      inr (at, subst (λ n. AreNumbered (suc (length N)) (map (place M) xs) n) (ap (λ L. length (met L xs)) (sym same)) (subst (λ n. AreNumbered n (map (place M) xs) (length (met K xs))) longer (ih K is)))

-- types

mutual
  pub variables_renamed : (N : List ℕ) (T : Ty) → type_variables (instance (renaming N) T) ≡ map (place N) (type_variables T)
  variables_renamed N (var x) = refl
  variables_renamed N (param k) = refl
  variables_renamed N (con c ts) = all_renamed N ts
  variables_renamed N (arrow a b) =
      ap (λ l. l ++ type_variables (instance (renaming N) b)) (variables_renamed N a) ∙ ap (λ l. map (place N) (type_variables a) ++ l) (variables_renamed N b) ∙ sym (map-append (place N) (type_variables a) (type_variables b))

  all_renamed : (N : List ℕ) (ts : Tys) → types_variables (instances (renaming N) ts) ≡ map (place N) (types_variables ts)
  all_renamed N no_types = refl
  all_renamed N (types t ts) =
      ap (λ l. l ++ types_variables (instances (renaming N) ts)) (variables_renamed N t) ∙ ap (λ l. map (place N) (type_variables t) ++ l) (all_renamed N ts) ∙ sym (map-append (place N) (type_variables t) (types_variables ts))

pub lists_renamed : (N : List ℕ) (Ts : List Ty) → all_variables (map (instance (renaming N)) Ts) ≡ map (place N) (all_variables Ts)
lists_renamed N [] = refl
lists_renamed N (T ∷ Ts) =
    ap (λ l. l ++ all_variables (map (instance (renaming N)) Ts)) (variables_renamed N T) ∙ ap (λ l. map (place N) (type_variables T) ++ l) (lists_renamed N Ts) ∙ sym (map-append (place N) (type_variables T) (all_variables Ts))

mutual
  pub type_back : (N : List ℕ) (T : Ty) → AllMet N (type_variables T) → instance (unnaming N) (instance (renaming N) T) ≡ T
  type_back N (var x) h = ap var (place_at N x h.0)
  type_back N (param k) h = refl
  type_back N (con c ts) h = ap (con c) (types_back N ts h)
  type_back N (arrow a b) h =
      let e = type_back N a (all_front N (type_variables a) (type_variables b) h) in let f = type_back N b (all_back N (type_variables a) (type_variables b) h) in cc

  types_back : (N : List ℕ) (ts : Tys) → AllMet N (types_variables ts) → instances (unnaming N) (instances (renaming N) ts) ≡ ts
  types_back N no_types h = refl
  types_back N (types t ts) h =
      let e = type_back N t (all_front N (type_variables t) (types_variables ts) h) in let f = types_back N ts (all_back N (type_variables t) (types_variables ts) h) in cc

pub list_back : (N : List ℕ) (Ts : List Ty) → AllMet N (all_variables Ts) → map (instance (unnaming N)) (map (instance (renaming N)) Ts) ≡ Ts
list_back N [] h = refl
list_back N (T ∷ Ts) h =
    let e = type_back N T (all_front N (type_variables T) (all_variables Ts) h) in let f = list_back N Ts (all_back N (type_variables T) (all_variables Ts) h) in cc

-- what was met keeps its number
mutual
  pub type_kept : (N more : List ℕ) (T : Ty) → AllMet N (type_variables T) → instance (renaming (N ++ more)) T ≡ instance (renaming N) T
  type_kept N more (var x) h = ap var (place_more N more x h.0)
  type_kept N more (param k) h = refl
  type_kept N more (con c ts) h = ap (con c) (types_kept N more ts h)
  type_kept N more (arrow a b) h =
      let e = type_kept N more a (all_front N (type_variables a) (type_variables b) h) in let f = type_kept N more b (all_back N (type_variables a) (type_variables b) h) in cc

  types_kept : (N more : List ℕ) (ts : Tys) → AllMet N (types_variables ts) → instances (renaming (N ++ more)) ts ≡ instances (renaming N) ts
  types_kept N more no_types h = refl
  types_kept N more (types t ts) h =
      let e = type_kept N more t (all_front N (type_variables t) (types_variables ts) h) in let f = types_kept N more ts (all_back N (type_variables t) (types_variables ts) h) in cc

pub list_kept : (N more : List ℕ) (Ts : List Ty) → AllMet N (all_variables Ts) → map (instance (renaming (N ++ more))) Ts ≡ map (instance (renaming N)) Ts
list_kept N more [] h = refl
list_kept N more (T ∷ Ts) h =
    let e = type_kept N more T (all_front N (type_variables T) (all_variables Ts) h) in let f = list_kept N more Ts (all_back N (type_variables T) (all_variables Ts) h) in cc
