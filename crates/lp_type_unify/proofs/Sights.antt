-- A look that marks nodes misses nothing: where the variable occurs in a marked node, it occurs in a smaller type that is still to be looked at.
use Rattle.std.proofs.Common.{◌≡◌, ℕ, suc, ◌<◌, ◌≤◌, inl, inr, List, [], ◌∷◌, ◌++◌, refl, sym, ap, ◌∙◌, subst, arith, not}
use Rattle.std.specs.Prelude.{nat_eq, if◌then◌else◌, Bool, true, false, ◌⊎◌}
use Rattle.std.proofs.lemmas.Bool.{ne_eqb, cases_eq}
use Rattle.lp_calculus.specs.Types.{Ty}
use Rattle.lp_type_laws.specs.Equations.{occurs, size}
use Rattle.lp_type_unify.specs.Looking.{occurs_some, size_of_all, Opened, Looked}
use Rattle.lp_type_unify.specs.Sharing.{Lies}

lies_more : (x n m : ℕ) (ts : List Ty) → n ≤ m → Lies x n ts → Lies x m ts
lies_more x n m [] l h = h
lies_more x n m (t ∷ ts) l (inl h) = inl (h.0, let s = h.1 in omega (arith, s, l))
lies_more x n m (t ∷ ts) l (inr h) = inr (lies_more x n m ts l h)

lies_right : (x n : ℕ) (ps ts : List Ty) → Lies x n ts → Lies x n (ps ++ ts)
lies_right x n [] ts h = h
lies_right x n (p ∷ ps) ts h = inr (lies_right x n ps ts h)

lies_left : (x n : ℕ) (ps ts : List Ty) → Lies x n ps → Lies x n (ps ++ ts)
lies_left x n [] ts h = absurd h
lies_left x n (p ∷ ps) ts (inl h) = inl h
lies_left x n (p ∷ ps) ts (inr h) = inr (lies_left x n ps ts h)

some_lies : (x n : ℕ) (ps : List Ty) → occurs_some x ps ≡ true → size_of_all ps < n → Lies x n ps
some_lies x n [] e l = let f : false ≡ true = e in cc
some_lies x n (p ∷ ps) e l = go (occurs x p) refl (λ f. some_lies x n ps f (omega (arith, l)))
  where
    go : (b : Bool) → occurs x p ≡ b → (occurs_some x ps ≡ true → Lies x n ps) → Lies x n (p ∷ ps)
    go true q ih = inl (q, omega (arith, l))
    go false q ih = inr (ih (sym (ap (λ b. if b then true else occurs_some x ps) q) ∙ e))

lies_skip : (x n : ℕ) (t : Ty) (ts : List Ty) → (occurs x t ≡ true → Lies x (size t) (t ∷ ts)) → Lies x n (t ∷ ts) → Lies x n ts
lies_skip x n t ts m (inr h) = h
lies_skip x n t ts m (inl h) = go (m h.0)
  where
    go : Lies x (size t) (t ∷ ts) → Lies x n ts
    go (inl k) = let l = k.1 in absurd (omega (arith, l))
    go (inr k) = let l = h.1 in lies_more x (size t) n ts (omega (arith, l)) k

lies_open : (x n : ℕ) (t : Ty) (ps ts : List Ty) → Opened x t ps → Lies x n (t ∷ ts) → Lies x n (ps ++ ts)
lies_open x n t ps ts o (inr h) = lies_right x n ps ts h
lies_open x n t ps ts o (inl h) = lies_left x n ps ts (some_lies x n ps (sym o.found ∙ h.0) (let s = o.smaller in let l = h.1 in omega (arith, s, l)))

-- of marked nodes
abbrev pub AreMet : ℕ → (ℕ → Ty) → (ℕ → Bool) → List Ty → Type 0
AreMet x T seen all = (i : ℕ) → seen i ≡ true → occurs x (T i) ≡ true → Lies x (size (T i)) all

marked : (node i : ℕ) (seen now : ℕ → Bool) → ((i : ℕ) → now i ≡ (if nat_eq node i then true else seen i)) → now i ≡ true → (i ≡ node) ⊎ (seen i ≡ true)
marked node i seen now e h = elim (cases_eq node i) [
  | inl q ↦ inl (sym q)
  | inr ne ↦ inr (sym (ap (λ b. if b then true else seen i) (ne_eqb node i ne)) ∙ sym (e i) ∙ h)
]

pub met_skip : (x node : ℕ) (T : ℕ → Ty) (seen now : ℕ → Bool) (t : Ty) (all ts : List Ty) → ((i : ℕ) → now i ≡ (if nat_eq node i then true else seen i)) →
    false ≡ not (seen node) → all ≡ t ∷ ts → T node ≡ t → AreMet x T seen all → AreMet x T now ts
met_skip x node T seen now t all ts e s q w m i h o = lies_skip x (size (T i)) t ts again (subst (λ l. Lies x (size (T i)) l) q (m i (is (marked node i seen now e h)) o))
  where
    there : seen node ≡ true
    there = go (seen node) s
      where
        go : (b : Bool) → false ≡ not b → b ≡ true
        go true f = refl
        go false f = cc

    is : (i ≡ node) ⊎ (seen i ≡ true) → seen i ≡ true
    is (inl f) = ap seen f ∙ there
    is (inr f) = f

    again : occurs x t ≡ true → Lies x (size t) (t ∷ ts)
    again f = subst (λ u. Lies x (size u) (t ∷ ts)) w (subst (λ l. Lies x (size (T node)) l) q (m node there (ap (occurs x) w ∙ f)))

pub wanted_skip : (x node n : ℕ) (T : ℕ → Ty) (seen : ℕ → Bool) (t : Ty) (all ts : List Ty) →
    false ≡ not (seen node) → all ≡ t ∷ ts → T node ≡ t → AreMet x T seen all → Lies x n all → Lies x n ts
wanted_skip x node n T seen t all ts s q w m h = lies_skip x n t ts again (subst (λ l. Lies x n l) q h)
  where
    there : seen node ≡ true
    there = go (seen node) s
      where
        go : (b : Bool) → false ≡ not b → b ≡ true
        go true f = refl
        go false f = cc

    again : occurs x t ≡ true → Lies x (size t) (t ∷ ts)
    again f = subst (λ u. Lies x (size u) (t ∷ ts)) w (subst (λ l. Lies x (size (T node)) l) q (m node there (ap (occurs x) w ∙ f)))

lies_looked : (x n : ℕ) (t u : Ty) (all ts new : List Ty) → all ≡ t ∷ ts → u ≡ t → Looked false x u ts new → Lies x n all → Lies x n new
lies_looked x n t u all ts new q w l h =
    subst (λ k. Lies x n k) (sym l.1) (lies_open x n u l.0 ts l.2 (subst (λ k. Lies x n k) (q ∙ ap (λ v. v ∷ ts) (sym w)) h))

pub wanted_open : (x n : ℕ) (t u : Ty) (all ts new : List Ty) → all ≡ t ∷ ts → u ≡ t → Looked false x u ts new → Lies x n all → Lies x n new
wanted_open x n t u all ts new q w l h = lies_looked x n t u all ts new q w l h

pub met_open : (x node : ℕ) (T : ℕ → Ty) (seen now : ℕ → Bool) (t : Ty) (all ts new : List Ty) → ((i : ℕ) → now i ≡ (if nat_eq node i then true else seen i)) →
    all ≡ t ∷ ts → T node ≡ t → Looked false x (T node) ts new → AreMet x T seen all → AreMet x T now new
met_open x node T seen now t all ts new e q w l m i h o = go (marked node i seen now e h)
  where
    go : (i ≡ node) ⊎ (seen i ≡ true) → Lies x (size (T i)) new
    go (inr f) = lies_looked x (size (T i)) t (T node) all ts new q w l (m i f o)
    go (inl f) = subst (λ k. Lies x (size (T i)) k) (sym l.1)
        (lies_left x (size (T i)) l.0 ts (some_lies x (size (T i)) l.0 (sym l.2.found ∙ ap (λ j. occurs x (T j)) (sym f) ∙ o)
        (let s = l.2.smaller in let g : size (T node) ≡ size (T i) = ap (λ j. size (T j)) (sym f) in omega (arith, s, g))))

pub honest_skip : (x : ℕ) (t : Ty) (all ts : List Ty) → all ≡ t ∷ ts → occurs_some x ts ≡ true → occurs_some x all ≡ true
honest_skip x t all ts q h = ap (occurs_some x) q ∙ go (occurs x t)
  where
    go : (b : Bool) → (if b then true else occurs_some x ts) ≡ true
    go true = refl
    go false = h

pub start_lies : (x : ℕ) (t : Ty) → occurs x t ≡ true → Lies x (suc (size t)) (t ∷ [])
start_lies x t h = inl (h, omega arith)

pub none_lies : (x n : ℕ) (t : Ty) (all : List Ty) → all ≡ [] → (occurs x t ≡ true → Lies x n all) → false ≡ occurs x t
none_lies x n t all q h = go (occurs x t) refl
  where
    go : (b : Bool) → occurs x t ≡ b → false ≡ occurs x t
    go true e = absurd (subst (λ l. Lies x n l) q (h e))
    go false e = sym e
