-- What an equation turns out to be has the same solutions.
use Rattle.std.proofs.Common.{◌≡◌, ◌≢◌, ℕ, ◌<◌, List, ◌∷◌, Option, Some, None, inl, inr, refl, sym, ap, subst, arith}
use Rattle.std.specs.Prelude.{nat_eq, nat_lt, if◌then◌else◌, Bool, true, false, ◌⊎◌}
use Rattle.std.proofs.lemmas.Bool.{eq-eqb, ne_eqb, cases_eq}
use Rattle.lp_calculus.specs.Types.{Ty, Tys, var, param, con, arrow, no_types, types, instance, instances}
use Rattle.lp_type_laws.specs.Equations.{Equation, equation, AllHold, occurs, size}
use Rattle.lp_type_laws.specs.Solving.{Look, nothing, parts, binds, clash, bind_to, look_vars, pairs, look_parts, look}
use Rattle.lp_type_laws.proofs.Types.{occurs_size, occurs_sizes}

-- the look at an equation is right
abbrev pub Right : Ty → Ty → Look → Type 0
Right a b nothing = (ρ : ℕ → Ty) → instance ρ a ≡ instance ρ b
Right a b (parts es) = (ρ : ℕ → Ty) → (AllHold ρ es → instance ρ a ≡ instance ρ b) × (instance ρ a ≡ instance ρ b → AllHold ρ es)
Right a b (binds x t) =
    (occurs x t ≡ false) × ((ρ : ℕ → Ty) → (ρ x ≡ instance ρ t → instance ρ a ≡ instance ρ b) × (instance ρ a ≡ instance ρ b → ρ x ≡ instance ρ t))
Right a b clash = (ρ : ℕ → Ty) → instance ρ a ≡ instance ρ b → ⊥

-- a type that is no variable
abbrev IsMade : Ty → Type 0
IsMade (var x) = ⊥
IsMade _ = Unit {0}

larger : (ρ : ℕ → Ty) (x : ℕ) (t : Ty) → IsMade t → occurs x t ≡ true → size (ρ x) < size (instance ρ t)
larger ρ x (var y) m e = absurd m
larger ρ x (param k) m e = cc
larger ρ x (con c ts) m e = let h = occurs_sizes ρ x ts e in omega arith
larger ρ x (arrow a b) m e = elim (go (occurs x a) refl e) [
  | inl f ↦ let h = occurs_size ρ x a f in omega arith
  | inr f ↦ let h = occurs_size ρ x b f in omega arith
]
  where
    go : (s : Bool) → occurs x a ≡ s → (if s then true else occurs x b) ≡ true → (occurs x a ≡ true) ⊎ (occurs x b ≡ true)
    go true f g = inl f
    go false f g = inr g

bound_right : (x : ℕ) (t : Ty) → IsMade t → Right (var x) t (bind_to x t)
bound_right x t m = go (occurs x t) refl
  where
    go : (s : Bool) → occurs x t ≡ s → Right (var x) t (if s then clash else binds x t)
    go true e = λ ρ f. let l = larger ρ x t m e in let g : size (ρ x) ≡ size (instance ρ t) = ap size f in omega arith
    go false e = (e, λ ρ. (λ f. f, λ f. f))

turned : (a b : Ty) (l : Look) → Right a b l → Right b a l
turned a b nothing r = λ ρ. sym (r ρ)
turned a b (parts es) r = λ ρ. (λ h. sym ((r ρ).0 h), λ e. (r ρ).1 (sym e))
turned a b (binds x t) r = (r.0, λ ρ. (λ h. sym ((r.1 ρ).0 h), λ e. (r.1 ρ).1 (sym e)))
turned a b clash r = λ ρ e. r ρ (sym e)

vars_right : (x y : ℕ) → Right (var x) (var y) (look_vars x y)
vars_right x y = elim (cases_eq x y) [
  | inl e ↦ subst (λ l. Right (var x) (var y) l) (sym (ap (λ b. if b then nothing else (if nat_lt x y then binds y (var x) else binds x (var y))) (eq-eqb x y e))) (λ ρ. ap ρ e)
  | inr ne ↦ subst (λ l. Right (var x) (var y) l) (sym (ap (λ b. if b then nothing else (if nat_lt x y then binds y (var x) else binds x (var y))) (ne_eqb x y ne))) (go (nat_lt x y) ne)
]
  where
    go : (s : Bool) → x ≢ y → Right (var x) (var y) (if s then binds y (var x) else binds x (var y))
    go true ne = (ne_eqb y x (λ f. ne (sym f)), λ ρ. (λ f. sym f, λ f. sym f))
    go false ne = (ne_eqb x y ne, λ ρ. (λ f. f, λ f. f))

-- the parts of two lists of types
abbrev Parted : Tys → Tys → Option (List Equation) → Type 0
Parted ts us None = (ρ : ℕ → Ty) → instances ρ ts ≡ instances ρ us → ⊥
Parted ts us (Some es) = (ρ : ℕ → Ty) → (AllHold ρ es → instances ρ ts ≡ instances ρ us) × (instances ρ ts ≡ instances ρ us → AllHold ρ es)

pairs_right : (ts us : Tys) → Parted ts us (pairs ts us)
pairs_right no_types no_types = λ ρ. (λ h. refl, λ e. tt)
pairs_right no_types (types u us) = λ ρ e. cc
pairs_right (types t ts) no_types = λ ρ e. cc
pairs_right (types t ts) (types u us) = go (pairs ts us) (pairs_right ts us)
  where
    go : (o : Option (List Equation)) → Parted ts us o → Parted (types t ts) (types u us) (elim o [ None ↦ None | Some es ↦ Some (equation t u ∷ es) ])
    go None h = λ ρ e. let f : instances ρ ts ≡ instances ρ us = cc in h ρ f
    go (Some es) h = λ ρ. (λ k. let e = k.0 in let f = (h ρ).0 k.1 in cc, λ e. let f : instances ρ ts ≡ instances ρ us = cc in let g : instance ρ t ≡ instance ρ u = cc in (g, (h ρ).1 f))

con_right : (c d : ℕ) (ts us : Tys) → Right (con c ts) (con d us) (if nat_eq c d then look_parts (pairs ts us) else clash)
con_right c d ts us = elim (cases_eq c d) [
  | inl e ↦ subst (λ l. Right (con c ts) (con d us) l) (sym (ap (λ b. if b then look_parts (pairs ts us) else clash) (eq-eqb c d e))) (go e (pairs ts us) (pairs_right ts us))
  | inr ne ↦ subst (λ l. Right (con c ts) (con d us) l) (sym (ap (λ b. if b then look_parts (pairs ts us) else clash) (ne_eqb c d ne))) (λ ρ e. let f : c ≡ d = cc in ne f)
]
  where
    go : c ≡ d → (o : Option (List Equation)) → Parted ts us o → Right (con c ts) (con d us) (look_parts o)
    go e None h = λ ρ f. let g : instances ρ ts ≡ instances ρ us = cc in h ρ g
    go e (Some es) h = λ ρ. (λ k. let f = (h ρ).0 k in cc, λ f. let g : instances ρ ts ≡ instances ρ us = cc in (h ρ).1 g)

param_right : (k l : ℕ) → Right (param k) (param l) (if nat_eq k l then nothing else clash)
param_right k l = elim (cases_eq k l) [
  | inl e ↦ subst (λ m. Right (param k) (param l) m) (sym (ap (λ b. if b then nothing else clash) (eq-eqb k l e))) (λ ρ. ap param e)
  | inr ne ↦ subst (λ m. Right (param k) (param l) m) (sym (ap (λ b. if b then nothing else clash) (ne_eqb k l ne))) (λ ρ e. let f : k ≡ l = cc in ne f)
]

pub look_right : (a b : Ty) → Right a b (look a b)
look_right (var x) (var y) = vars_right x y
look_right (var x) (param k) = bound_right x (param k) tt
look_right (var x) (con c ts) = bound_right x (con c ts) tt
look_right (var x) (arrow a b) = bound_right x (arrow a b) tt
look_right (param k) (var y) = turned (var y) (param k) (bind_to y (param k)) (bound_right y (param k) tt)
look_right (con c ts) (var y) = turned (var y) (con c ts) (bind_to y (con c ts)) (bound_right y (con c ts) tt)
look_right (arrow a b) (var y) = turned (var y) (arrow a b) (bind_to y (arrow a b)) (bound_right y (arrow a b) tt)
look_right (param k) (param l) = param_right k l
look_right (con c ts) (con d us) = con_right c d ts us
look_right (arrow a b) (arrow c d) = λ ρ. (λ h. let e = h.0 in let f = h.1.0 in cc, λ e. let f : instance ρ a ≡ instance ρ c = cc in let g : instance ρ b ≡ instance ρ d = cc in (f, (g, tt)))
look_right (param k) (con d us) = λ ρ e. cc
look_right (param k) (arrow c d) = λ ρ e. cc
look_right (con c ts) (param l) = λ ρ e. cc
look_right (con c ts) (arrow a b) = λ ρ e. cc
look_right (arrow a b) (param l) = λ ρ e. cc
look_right (arrow a b) (con d us) = λ ρ e. cc
