-- Renamed terms: what renaming of eigenconstants keeps, and where two renamings agree.
use Rattle.std.proofs.Common.{◌≡◌, ℕ, suc, ◌≤◌, List, [], length, Some, Bool, true, false, refl, sym, ap, subst, arith}
use Rattle.std.specs.Prelude.{nat_eq, if◌then◌else◌}
use Rattle.std.proofs.lemmas.Bool.{eq-eqb, ne_eqb}
use Rattle.lp_calculus.specs.Types.{Ty}
use Rattle.lp_calculus.specs.Term.{Term, Atom, index, atom, abs, app, constant, integer, text, eigen, logic, param}
use Rattle.lp_calculus.specs.Convert.{Converts, done, then_step, ReducesTo}
use Rattle.lp_calculus.specs.Typing.{Typed, atom_type, o_type}
use Rattle.lp_calculus.specs.Fill.{Within}
use Rattle.lp_calculus.specs.Instance.{instance_atom, instance_term}
use Rattle.lp_calculus.specs.Closed.{AllAtoms, IsClosedAtom, IsClosedAt}
use Rattle.lp_standard.specs.Positive.{IsPositiveAtom}
use Rattle.lp_calculus.proofs.Steps.{step_fill, converts_fill}
use Rattle.lp_calculus.proofs.Fills.{within_fill}
use Rattle.lp_calculus.proofs.Subject.{typed_fill}
use Rattle.lp_calculus.specs.Spine.{head_of}
use Rattle.lp_model.specs.Values.{Value, Outcome, Is, Faults, both, single, value, is_two_place, is_one_place, HasValue}
use Rattle.lp_model.specs.declared.ending.Fault.TheVariants.{NotClosed}
use Rattle.lp_model.specs.Proofs.{Declared, under, IsFormula, IsWitness, IsAtomHead}
use Rattle.lp_model.specs.Renaming.{renamed_atom, renamed, IsUpTo, HasLevel, IsRenaming}

app_same : {t s u v : Term} → t ≡ s → u ≡ v → app t u ≡ app s v
app_same p q = cc

-- atoms that a renaming leaves as they are, or makes into others of a kind
all_renamed : (P Q : Atom → Type 0) (ρ : ℕ → ℕ) → ((a : Atom) → P a → Q (renamed_atom ρ a)) → (t : Term) → AllAtoms P t → AllAtoms Q (renamed ρ t)
all_renamed P Q ρ h (index i) w = tt
all_renamed P Q ρ h (atom a) w = h a w
all_renamed P Q ρ h (abs b) w = all_renamed P Q ρ h b w
all_renamed P Q ρ h (app t u) w = (all_renamed P Q ρ h t w.0, all_renamed P Q ρ h u w.1)

atoms_within : (P Q : Atom → Type 0) → ((a : Atom) → P a → Q a) → (d : ℕ) (t : Term) → Within P d t → AllAtoms Q t
atoms_within P Q h d (index i) w = tt
atoms_within P Q h d (atom a) w = h a w
atoms_within P Q h d (abs b) w = atoms_within P Q h (suc d) b w
atoms_within P Q h d (app t u) w = (atoms_within P Q h d t w.0, atoms_within P Q h d u w.1)

closed_up_to : (n : ℕ) (a : Atom) → IsClosedAtom n a → IsUpTo n a
closed_up_to n (constant c ts) h = tt
closed_up_to n (integer z) h = tt
closed_up_to n (text s) h = tt
closed_up_to n (eigen k) h = h
closed_up_to n (logic x l) h = tt
closed_up_to n (param k T) h = tt

pub closed_level : (n : ℕ) (t : Term) → IsClosedAt n t → HasLevel n t
closed_level n t h = atoms_within (IsClosedAtom n) (IsUpTo n) (closed_up_to n) 0 t h

all_more : (P Q : Atom → Type 0) → ((a : Atom) → P a → Q a) → (t : Term) → AllAtoms P t → AllAtoms Q t
all_more P Q h (index i) w = tt
all_more P Q h (atom a) w = h a w
all_more P Q h (abs b) w = all_more P Q h b w
all_more P Q h (app t u) w = (all_more P Q h t w.0, all_more P Q h u w.1)

up_to_more : (n m : ℕ) → n ≤ m → (a : Atom) → IsUpTo n a → IsUpTo m a
up_to_more n m l (constant c ts) h = tt
up_to_more n m l (integer z) h = tt
up_to_more n m l (text s) h = tt
up_to_more n m l (eigen k) h = let r : k ≤ m = omega (arith, h) in r
up_to_more n m l (logic x j) h = tt
up_to_more n m l (param k T) h = tt

pub level_more : (n m : ℕ) → n ≤ m → (t : Term) → HasLevel n t → HasLevel m t
level_more n m l t h = all_more (IsUpTo n) (IsUpTo m) (up_to_more n m l) t h

up_to_instance : (n : ℕ) (θ : ℕ → Ty) (a : Atom) → IsUpTo n a → IsUpTo n (instance_atom θ a)
up_to_instance n θ (constant c ts) h = tt
up_to_instance n θ (integer z) h = tt
up_to_instance n θ (text s) h = tt
up_to_instance n θ (eigen k) h = h
up_to_instance n θ (logic x l) h = tt
up_to_instance n θ (param k T) h = tt

pub level_instance : (n : ℕ) (θ : ℕ → Ty) (t : Term) → HasLevel n t → HasLevel n (instance_term θ t)
level_instance n θ (index i) w = tt
level_instance n θ (atom a) w = up_to_instance n θ a w
level_instance n θ (abs b) w = level_instance n θ b w
level_instance n θ (app t u) w = (level_instance n θ t w.0, level_instance n θ u w.1)

-- the same on the eigenconstants that are there
same_atom : (ρ τ : ℕ → ℕ) (n : ℕ) → ((k : ℕ) → k ≤ n → ρ k ≡ τ k) → (a : Atom) → IsUpTo n a → atom (renamed_atom ρ a) ≡ atom (renamed_atom τ a)
same_atom ρ τ n h (constant c ts) w = refl
same_atom ρ τ n h (integer z) w = refl
same_atom ρ τ n h (text s) w = refl
same_atom ρ τ n h (eigen k) w = ap (λ j. atom (eigen j)) (h k w)
same_atom ρ τ n h (logic x l) w = refl
same_atom ρ τ n h (param k T) w = refl

pub renamed_same : (ρ τ : ℕ → ℕ) (n : ℕ) → ((k : ℕ) → k ≤ n → ρ k ≡ τ k) → (t : Term) → HasLevel n t → renamed ρ t ≡ renamed τ t
renamed_same ρ τ n h (index i) w = refl
renamed_same ρ τ n h (atom a) w = same_atom ρ τ n h a w
renamed_same ρ τ n h (abs b) w = ap abs (renamed_same ρ τ n h b w)
renamed_same ρ τ n h (app t u) w = app_same (renamed_same ρ τ n h t w.0) (renamed_same ρ τ n h u w.1)

-- types for type variables are put before a renaming or after it
instance_atom_renamed : (ρ : ℕ → ℕ) (θ : ℕ → Ty) (a : Atom) → atom (instance_atom θ (renamed_atom ρ a)) ≡ atom (renamed_atom ρ (instance_atom θ a))
instance_atom_renamed ρ θ (constant c ts) = refl
instance_atom_renamed ρ θ (integer z) = refl
instance_atom_renamed ρ θ (text s) = refl
instance_atom_renamed ρ θ (eigen k) = refl
instance_atom_renamed ρ θ (logic x l) = refl
instance_atom_renamed ρ θ (param k T) = refl

pub instance_renamed : (ρ : ℕ → ℕ) (θ : ℕ → Ty) (t : Term) → renamed ρ (instance_term θ t) ≡ instance_term θ (renamed ρ t)
instance_renamed ρ θ (index i) = refl
instance_renamed ρ θ (atom a) = sym (instance_atom_renamed ρ θ a)
instance_renamed ρ θ (abs b) = ap abs (instance_renamed ρ θ b)
instance_renamed ρ θ (app t u) = app_same (instance_renamed ρ θ t) (instance_renamed ρ θ u)

-- renaming keeps conversion, reduction, types, closedness and positivity
pub renamed_converts : (ρ : ℕ → ℕ) (t s : Term) → Converts t s → Converts (renamed ρ t) (renamed ρ s)
renamed_converts ρ t s c = converts_fill (λ a. atom (renamed_atom ρ a)) c

renamed_reduces : (ρ : ℕ → ℕ) {t s : Term} → ReducesTo t s → ReducesTo (renamed ρ t) (renamed ρ s)
renamed_reduces ρ (done t) = done (renamed ρ t)
renamed_reduces ρ (then_step p ps) = then_step (step_fill (λ a. atom (renamed_atom ρ a)) p) (renamed_reduces ρ ps)

typed_atom : (d : Declared) (E F : List Ty) (ρ : ℕ → ℕ) → IsRenaming E F ρ → (a : Atom) (T : Ty) → atom_type (under d E) a ≡ Some T → atom_type (under d F) (renamed_atom ρ a) ≡ Some T
typed_atom d E F ρ h (constant c ts) T e = e
typed_atom d E F ρ h (integer z) T e = e
typed_atom d E F ρ h (text s) T e = e
typed_atom d E F ρ h (eigen k) T e = h.typed k T e
typed_atom d E F ρ h (logic x l) T e = cc
typed_atom d E F ρ h (param k U) T e = e

pub renamed_typed : (d : Declared) (E F : List Ty) (ρ : ℕ → ℕ) → IsRenaming E F ρ → (t : Term) (T : Ty) → Typed (under d E) [] t T → Typed (under d F) [] (renamed ρ t) T
renamed_typed d E F ρ h t T w = typed_fill (atom_type (under d E)) (atom_type (under d F)) [] (λ a. atom (renamed_atom ρ a)) (λ a A e. typed_atom d E F ρ h a A e) t T w

closed_atom : (E F : List Ty) (ρ : ℕ → ℕ) → IsRenaming E F ρ → (a : Atom) → IsClosedAtom (length E) a → IsClosedAtom (length F) (renamed_atom ρ a)
closed_atom E F ρ h (constant c ts) w = w
closed_atom E F ρ h (integer z) w = tt
closed_atom E F ρ h (text s) w = tt
closed_atom E F ρ h (eigen k) w = h.level k w
closed_atom E F ρ h (logic x l) w = absurd w
closed_atom E F ρ h (param k T) w = w

pub renamed_closed : (E F : List Ty) (ρ : ℕ → ℕ) → IsRenaming E F ρ → (t : Term) → IsClosedAt (length E) t → IsClosedAt (length F) (renamed ρ t)
renamed_closed E F ρ h t w = within_fill (IsClosedAtom (length E)) (IsClosedAtom (length F)) (λ a. atom (renamed_atom ρ a)) 0 (closed_atom E F ρ h) t w

positive_atom : (ρ : ℕ → ℕ) (a : Atom) → IsPositiveAtom a → IsPositiveAtom (renamed_atom ρ a)
positive_atom ρ (constant c ts) w = w
positive_atom ρ (integer z) w = tt
positive_atom ρ (text s) w = tt
positive_atom ρ (eigen k) w = tt
positive_atom ρ (logic x l) w = tt
positive_atom ρ (param k T) w = tt

pub renamed_formula : (d : Declared) (E F : List Ty) (ρ : ℕ → ℕ) → IsRenaming E F ρ → (t : Term) → IsFormula d E t → IsFormula d F (renamed ρ t)
renamed_formula d E F ρ h t f = record { typed = renamed_typed d E F ρ h t o_type f.typed; closed = renamed_closed E F ρ h t f.closed }

pub renamed_witness : (d : Declared) (E F : List Ty) (ρ : ℕ → ℕ) → IsRenaming E F ρ → (t : Term) (T : Ty) → IsWitness d E t T → IsWitness d F (renamed ρ t) T
renamed_witness d E F ρ h t T w = record {
  typed = renamed_typed d E F ρ h t T w.typed;
  closed = renamed_closed E F ρ h t w.closed;
  positive = all_renamed IsPositiveAtom IsPositiveAtom ρ (positive_atom ρ) t w.positive;
  type_closed = w.type_closed;
}

-- the head of an atom stays the head of an atom
pub renamed_head : (ρ : ℕ → ℕ) (t : Term) → IsAtomHead (head_of t) → IsAtomHead (head_of (renamed ρ t))
renamed_head ρ (index i) h = absurd h
renamed_head ρ (atom (constant c ts)) h = h
renamed_head ρ (atom (integer z)) h = absurd h
renamed_head ρ (atom (text s)) h = absurd h
renamed_head ρ (atom (eigen k)) h = tt
renamed_head ρ (atom (logic x l)) h = absurd h
renamed_head ρ (atom (param k T)) h = absurd h
renamed_head ρ (abs b) h = absurd h
renamed_head ρ (app t u) h = renamed_head ρ t h

-- what has a value has no eigenconstant
record BothAre (x y : Outcome) : Type 0 where
  left : Value
  right : Value
  left_is : x ≡ Is left
  right_is : y ≡ Is right

two_place : (t : Bool) (c : ℕ) (x y : Outcome) (v : Value) → (if t then both c x y else Faults NotClosed) ≡ Is v → BothAre x y
two_place false c x y v h = cc
two_place true c (Faults f) y v h = cc
two_place true c (Is a) (Faults f) v h = cc
two_place true c (Is a) (Is b) v h = record { left = a; right = b; left_is = refl; right_is = refl }

one_place : (t : Bool) (c : ℕ) (x : Outcome) (v : Value) → (if t then single c x else Faults NotClosed) ≡ Is v → (u : Value) × (x ≡ Is u)
one_place false c x v h = cc
one_place true c (Faults f) v h = cc
one_place true c (Is a) v h = (a, refl)

value_renamed : (ρ : ℕ → ℕ) (t : Term) (v : Value) → value t ≡ Is v → renamed ρ t ≡ t
value_renamed ρ (index i) v h = refl
value_renamed ρ (atom (constant c ts)) v h = refl
value_renamed ρ (atom (integer z)) v h = refl
value_renamed ρ (atom (text s)) v h = refl
value_renamed ρ (atom (eigen k)) v h = cc
value_renamed ρ (atom (logic x l)) v h = refl
value_renamed ρ (atom (param k T)) v h = refl
value_renamed ρ (abs b) v h = cc
value_renamed ρ (app (app (atom (constant c ts)) a) b) v h =
    let r = two_place (is_two_place c) c (value a) (value b) v h in
    app_same (ap (app (atom (constant c ts))) (value_renamed ρ a r.left r.left_is)) (value_renamed ρ b r.right r.right_is)
value_renamed ρ (app (app (atom (integer z)) a) b) v h = cc
value_renamed ρ (app (app (atom (text s)) a) b) v h = cc
value_renamed ρ (app (app (atom (eigen k)) a) b) v h = cc
value_renamed ρ (app (app (atom (logic x l)) a) b) v h = cc
value_renamed ρ (app (app (atom (param k T)) a) b) v h = cc
value_renamed ρ (app (app (index i) a) b) v h = cc
value_renamed ρ (app (app (abs c) a) b) v h = cc
value_renamed ρ (app (app (app t u) a) b) v h = cc
value_renamed ρ (app (atom (constant c ts)) a) v h =
    let r = one_place (is_one_place c) c (value a) v h in ap (app (atom (constant c ts))) (value_renamed ρ a r.0 r.1)
value_renamed ρ (app (atom (integer z)) a) v h = cc
value_renamed ρ (app (atom (text s)) a) v h = cc
value_renamed ρ (app (atom (eigen k)) a) v h = cc
value_renamed ρ (app (atom (logic x l)) a) v h = cc
value_renamed ρ (app (atom (param k T)) a) v h = cc
value_renamed ρ (app (index i) a) v h = cc
value_renamed ρ (app (abs c) a) v h = cc

pub renamed_value : (ρ : ℕ → ℕ) (t : Term) (v : Value) → HasValue t v → HasValue (renamed ρ t) v
renamed_value ρ t v h = record {
  form = h.form;
  is_form = (subst (ReducesTo (renamed ρ t)) (value_renamed ρ h.form v h.is) (renamed_reduces ρ h.is_form.0), h.is_form.1);
  is = h.is;
}

-- under one eigenconstant more
pub wider : (ℕ → ℕ) → (n m : ℕ) → ℕ → ℕ
wider ρ n m k = if nat_eq k (suc n) then suc m else ρ k

pub wider_new : (ρ : ℕ → ℕ) (n m : ℕ) → wider ρ n m (suc n) ≡ suc m
unfolding wider
wider_new ρ n m = ap (λ t. if t then suc m else ρ (suc n)) (eq-eqb (suc n) (suc n) refl)

pub wider_old : (ρ : ℕ → ℕ) (n m k : ℕ) → k ≤ n → ρ k ≡ wider ρ n m k
unfolding wider
wider_old ρ n m k l = sym (ap (λ t. if t then suc m else ρ k) (ne_eqb k (suc n) (λ e. omega (arith, e, l))))
