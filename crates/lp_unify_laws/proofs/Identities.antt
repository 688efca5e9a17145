-- Types put for type variables: none changed, and two after each other.
use Rattle.std.proofs.Common.{◌≡◌, ℕ, List, [], ◌∷◌, map, refl, ap}
use Rattle.lp_calculus.specs.Types.{Ty, Tys, var, param as type_param, con, arrow, no_types, types, instance, instances}
use Rattle.lp_calculus.specs.Term.{Term, Atom, index, atom, abs, app, constant, integer, text, eigen, logic, param}
use Rattle.lp_calculus.specs.Fill.{Binding}
use Rattle.lp_calculus.specs.Instance.{instance_atom, instance_term}
use Rattle.lp_calculus.proofs.TypeLaws.{instance-instance}
use Rattle.lp_model.specs.Pair.{Pair}
use Rattle.lp_model.specs.Answers.{Variable}
use Rattle.lp_unify_laws.specs.Solutions.{instance_pair, at_types, instance_variable, instance_binding}

mutual
  pub instance_same : (t : Ty) → instance var t ≡ t
  instance_same (var i) = refl
  instance_same (type_param k) = refl
  instance_same (con c ts) = ap (con c) (instances_same ts)
  instance_same (arrow a b) = λ i. arrow (instance_same a i) (instance_same b i)

  instances_same : (ts : Tys) → instances var ts ≡ ts
  instances_same no_types = refl
  instances_same (types t ts) = λ i. types (instance_same t i) (instances_same ts i)

pub map_same : {A : Type 0} (f : A → A) → ((x : A) → f x ≡ x) → (xs : List A) → map f xs ≡ xs
map_same f h [] = refl
map_same f h (x ∷ xs) = λ i. h x i ∷ map_same f h xs i

pub map_twice : {A : Type 0} (f g h : A → A) → ((x : A) → g (f x) ≡ h x) → (xs : List A) → map g (map f xs) ≡ map h xs
map_twice f g h k [] = refl
map_twice f g h k (x ∷ xs) = λ i. k x i ∷ map_twice f g h k xs i

atom_same : (a : Atom) → instance_atom var a ≡ a
atom_same (constant c ts) = ap (constant c) (map_same (instance var) instance_same ts)
atom_same (integer z) = refl
atom_same (text s) = refl
atom_same (eigen k) = refl
atom_same (logic x l) = refl
atom_same (param k T) = ap (param k) (instance_same T)

term_same : (t : Term) → instance_term var t ≡ t
term_same (index i) = refl
term_same (atom a) = ap atom (atom_same a)
term_same (abs b) = ap abs (term_same b)
term_same (app t u) = λ i. app (term_same t i) (term_same u i)

pub pair_same : (p : Pair) → instance_pair var p ≡ p
pair_same p = λ i. record { left = term_same p.left i; right = term_same p.right i; level = p.level }

pub variables_same : (V : List Variable) → map (instance_variable var) V ≡ V
variables_same V = map_same (instance_variable var) (λ v i. record { type = instance_same v.type i; scope = map_same (instance var) instance_same v.scope i }) V

pub bindings_same : (bs : List Binding) → map (instance_binding var) bs ≡ bs
bindings_same bs = map_same (instance_binding var) (λ b i. record { id = b.id; level = b.level; value = term_same b.value i }) bs

-- one after the other
abbrev pub both_types : (κ θ : ℕ → Ty) → ℕ → Ty
both_types κ θ i = instance κ (θ i)

atom_twice : (κ θ : ℕ → Ty) (a : Atom) → instance_atom κ (instance_atom θ a) ≡ instance_atom (both_types κ θ) a
atom_twice κ θ (constant c ts) = ap (constant c) (map_twice (instance θ) (instance κ) (instance (both_types κ θ)) (instance-instance θ κ) ts)
atom_twice κ θ (integer z) = refl
atom_twice κ θ (text s) = refl
atom_twice κ θ (eigen k) = refl
atom_twice κ θ (logic x l) = refl
atom_twice κ θ (param k T) = ap (param k) (instance-instance θ κ T)

pub term_twice : (κ θ : ℕ → Ty) (t : Term) → instance_term κ (instance_term θ t) ≡ instance_term (both_types κ θ) t
term_twice κ θ (index i) = refl
term_twice κ θ (atom a) = ap atom (atom_twice κ θ a)
term_twice κ θ (abs b) = ap abs (term_twice κ θ b)
term_twice κ θ (app t u) = λ i. app (term_twice κ θ t i) (term_twice κ θ u i)

pub pair_twice : (κ θ : ℕ → Ty) (p : Pair) → instance_pair κ (instance_pair θ p) ≡ instance_pair (both_types κ θ) p
pair_twice κ θ p = λ i. record { left = term_twice κ θ p.left i; right = term_twice κ θ p.right i; level = p.level }

pub pairs_twice : (κ θ : ℕ → Ty) (ps : List Pair) → at_types κ (at_types θ ps) ≡ at_types (both_types κ θ) ps
pairs_twice κ θ ps = map_twice (instance_pair θ) (instance_pair κ) (instance_pair (both_types κ θ)) (pair_twice κ θ) ps

pub bindings_twice : (κ θ : ℕ → Ty) (bs : List Binding) → map (instance_binding κ) (map (instance_binding θ) bs) ≡ map (instance_binding (both_types κ θ)) bs
bindings_twice κ θ bs = map_twice (instance_binding θ) (instance_binding κ) (instance_binding (both_types κ θ)) (λ b i. record { id = b.id; level = b.level; value = term_twice κ θ b.value i }) bs
