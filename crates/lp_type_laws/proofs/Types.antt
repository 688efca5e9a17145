-- Types with types for their variables: one variable at a time, and sizes.
use Rattle.std.proofs.Common.{◌≡◌, ◌≢◌, ℕ, ◌<◌, ◌≤◌, inl, inr, refl, sym, ap, ◌∙◌, arith}
use Rattle.std.specs.Prelude.{if◌then◌else◌, Bool, true, false, ◌⊎◌}
use Rattle.std.proofs.lemmas.Bool.{eq-eqb, ne_eqb, cases_eq, eqb-true}
use Rattle.lp_calculus.specs.Types.{Ty, Tys, var, param, con, arrow, no_types, types, instance, instances}
use Rattle.lp_type_laws.specs.Equations.{one, occurs, occurs_in, Below, AllBelow, size, sizes}

mutual
  pub instance-var : (t : Ty) → instance var t ≡ t
  instance-var (var i) = refl
  instance-var (param k) = refl
  instance-var (con c ts) = ap (con c) (instances-var ts)
  instance-var (arrow a b) = rw (instance-var a, instance-var b) refl

  pub instances-var : (ts : Tys) → instances var ts ≡ ts
  instances-var no_types = refl
  instances-var (types t ts) = rw (instance-var t, instances-var ts) refl

pub one_same : (x : ℕ) (t : Ty) → one x t x ≡ t
one_same x t = ap (λ b. if b then t else var x) (eq-eqb x x refl)

pub one_other : (x y : ℕ) (t : Ty) → y ≢ x → one x t y ≡ var y
one_other x y t ne = ap (λ b. if b then t else var y) (ne_eqb y x ne)

-- a solution of x = t does not see that x was replaced by t
pub one_fixes : (ρ : ℕ → Ty) (x : ℕ) (t : Ty) → ρ x ≡ instance ρ t → (y : ℕ) → instance ρ (one x t y) ≡ ρ y
one_fixes ρ x t e y = elim (cases_eq y x) [
  | inl f ↦ ap (λ z. instance ρ (one x t z)) f ∙ ap (instance ρ) (one_same x t) ∙ sym e ∙ sym (ap ρ f)
  | inr ne ↦ ap (instance ρ) (one_other x y t ne)
]

if_or_false : (a b : Bool) → (if a then true else b) ≡ false → (a ≡ false) × (b ≡ false)
if_or_false true b e = cc
if_or_false false b e = (refl, e)

if_or_true : (a b : Bool) → (if a then true else b) ≡ true → (a ≡ true) ⊎ (b ≡ true)
if_or_true true b e = inl refl
if_or_true false b e = inr e

-- what x does not occur in stays
mutual
  pub one_absent : (x : ℕ) (u t : Ty) → occurs x t ≡ false → instance (one x u) t ≡ t
  one_absent x u (var y) e = elim (cases_eq y x) [
    | inl f ↦ let g : true ≡ false = sym (eq-eqb x y (sym f)) ∙ e in cc
    | inr ne ↦ one_other x y u ne
  ]
  one_absent x u (param k) e = refl
  one_absent x u (con c ts) e = ap (con c) (ones_absent x u ts e)
  one_absent x u (arrow a b) e =
      let h = if_or_false (occurs x a) (occurs x b) e in
      rw (one_absent x u a h.0, one_absent x u b h.1) refl

  pub ones_absent : (x : ℕ) (u : Ty) (ts : Tys) → occurs_in x ts ≡ false → instances (one x u) ts ≡ ts
  ones_absent x u no_types e = refl
  ones_absent x u (types t ts) e =
      let h = if_or_false (occurs x t) (occurs_in x ts) e in
      rw (one_absent x u t h.0, ones_absent x u ts h.1) refl

pub some_size : (t : Ty) → 0 < size t
some_size (var i) = omega arith
some_size (param k) = omega arith
some_size (con c ts) = omega arith
some_size (arrow a b) = omega arith

-- where x stands in a type, what stands for x is no larger
mutual
  pub occurs_size : (ρ : ℕ → Ty) (x : ℕ) (t : Ty) → occurs x t ≡ true → size (ρ x) ≤ size (instance ρ t)
  occurs_size ρ x (var y) e = let f : size (ρ x) ≡ size (ρ y) = ap (λ z. size (ρ z)) (eqb-true x y e) in omega arith
  occurs_size ρ x (param k) e = cc
  occurs_size ρ x (con c ts) e = let h = occurs_sizes ρ x ts e in omega arith
  occurs_size ρ x (arrow a b) e = elim (if_or_true (occurs x a) (occurs x b) e) [
    | inl f ↦ let h = occurs_size ρ x a f in omega arith
    | inr f ↦ let h = occurs_size ρ x b f in omega arith
  ]

  pub occurs_sizes : (ρ : ℕ → Ty) (x : ℕ) (ts : Tys) → occurs_in x ts ≡ true → size (ρ x) ≤ sizes (instances ρ ts)
  occurs_sizes ρ x no_types e = cc
  occurs_sizes ρ x (types t ts) e = elim (if_or_true (occurs x t) (occurs_in x ts) e) [
    | inl f ↦ let h = occurs_size ρ x t f in omega arith
    | inr f ↦ let h = occurs_sizes ρ x ts f in omega arith
  ]

-- types for the variables below n
pub record Agree (n : ℕ) (ρ κ : ℕ → Ty) : Type 0 where
  pub on : (x : ℕ) → x < n → ρ x ≡ κ x

mutual
  pub instance_agree : (n : ℕ) (ρ κ : ℕ → Ty) → Agree n ρ κ → (t : Ty) → Below n t → instance ρ t ≡ instance κ t
  instance_agree n ρ κ A (var x) h = A.on x h
  instance_agree n ρ κ A (param k) h = refl
  instance_agree n ρ κ A (con c ts) h = ap (con c) (instances_agree n ρ κ A ts h)
  instance_agree n ρ κ A (arrow a b) h = rw (instance_agree n ρ κ A a h.0, instance_agree n ρ κ A b h.1) refl

  pub instances_agree : (n : ℕ) (ρ κ : ℕ → Ty) → Agree n ρ κ → (ts : Tys) → AllBelow n ts → instances ρ ts ≡ instances κ ts
  instances_agree n ρ κ A no_types h = refl
  instances_agree n ρ κ A (types t ts) h = rw (instance_agree n ρ κ A t h.0, instances_agree n ρ κ A ts h.1) refl

mutual
  pub below_more : (n m : ℕ) → n ≤ m → (t : Ty) → Below n t → Below m t
  below_more n m l (var x) h = omega arith
  below_more n m l (param k) h = tt
  below_more n m l (con c ts) h = all_below_more n m l ts h
  below_more n m l (arrow a b) h = (below_more n m l a h.0, below_more n m l b h.1)

  pub all_below_more : (n m : ℕ) → n ≤ m → (ts : Tys) → AllBelow n ts → AllBelow m ts
  all_below_more n m l no_types h = tt
  all_below_more n m l (types t ts) h = (below_more n m l t h.0, all_below_more n m l ts h.1)
