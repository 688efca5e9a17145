-- What the facts of types and terms say.
use Rattle.std.proofs.Common.{◌≡◌, ℕ, suc, ◌+◌, ◌≤◌, List, [], ◌∷◌, refl, ap, arith, Bool, true, ◌&&◌}
use Rattle.lp_calculus.specs.Types.{Ty, Tys, var, param as type_param, con, arrow, no_types, types, instance, instances}
use Rattle.lp_calculus.specs.Term.{Term, Atom, index, atom, abs, app, constant, integer, text, eigen, logic, param}
use Rattle.lp_calculus.specs.Closed.{IsClosedType, AreClosedTypes, AreClosed, IsClosedAtom, IsClosedAt}
use Rattle.lp_calculus.specs.Fill.{Within}
use Rattle.lp_standard.specs.Positive.{IsPositive, is_positive}
use Rattle.lp_term.specs.Spine.{LooseBelow}
use Rattle.lp_lemmas.proofs.Booleans.{and_true_left, and_true_right}
use Rattle.lp_cert.specs.Facts.{is_closed_type, are_closed_parts, are_closed, is_plain_atom, is_plain, loose, eigen_of_atom, greatest_eigen}

both : (x y : Bool) → x ≡ true → y ≡ true → (x && y) ≡ true
both x y e f = rw (e, f)

mutual
  pub type_is_closed : (T : Ty) → is_closed_type T ≡ true → IsClosedType T
  type_is_closed (var i) e = absurd (cc)
  type_is_closed (type_param k) e = tt
  type_is_closed (con c ts) e = parts_are_closed ts e
  type_is_closed (arrow a b) e = (type_is_closed a (and_true_left (is_closed_type a) (is_closed_type b) e), type_is_closed b (and_true_right (is_closed_type a) (is_closed_type b) e))

  parts_are_closed : (ts : Tys) → are_closed_parts ts ≡ true → AreClosedTypes ts
  parts_are_closed no_types e = tt
  parts_are_closed (types t ts) e = (type_is_closed t (and_true_left (is_closed_type t) (are_closed_parts ts) e), parts_are_closed ts (and_true_right (is_closed_type t) (are_closed_parts ts) e))

mutual
  pub closed_is : (T : Ty) → IsClosedType T → is_closed_type T ≡ true
  closed_is (var i) h = absurd h
  closed_is (type_param k) h = refl
  closed_is (con c ts) h = closed_parts_are ts h
  closed_is (arrow a b) h = both (is_closed_type a) (is_closed_type b) (closed_is a h.0) (closed_is b h.1)

  closed_parts_are : (ts : Tys) → AreClosedTypes ts → are_closed_parts ts ≡ true
  closed_parts_are no_types h = refl
  closed_parts_are (types t ts) h = both (is_closed_type t) (are_closed_parts ts) (closed_is t h.0) (closed_parts_are ts h.1)

pub types_are_closed : (ts : List Ty) → are_closed ts ≡ true → AreClosed ts
types_are_closed [] e = tt
types_are_closed (t ∷ ts) e = (type_is_closed t (and_true_left (is_closed_type t) (are_closed ts) e), types_are_closed ts (and_true_right (is_closed_type t) (are_closed ts) e))

pub closed_are : (ts : List Ty) → AreClosed ts → are_closed ts ≡ true
closed_are [] h = refl
closed_are (t ∷ ts) h = both (is_closed_type t) (are_closed ts) (closed_is t h.0) (closed_are ts h.1)

-- types for the variables of a closed type change nothing
mutual
  pub closed_stays : (θ : ℕ → Ty) (T : Ty) → IsClosedType T → instance θ T ≡ T
  closed_stays θ (var i) h = absurd h
  closed_stays θ (type_param k) h = refl
  closed_stays θ (con c ts) h = ap (con c) (parts_stay θ ts h)
  closed_stays θ (arrow a b) h = λ j. arrow (closed_stays θ a h.0 j) (closed_stays θ b h.1 j)

  parts_stay : (θ : ℕ → Ty) (ts : Tys) → AreClosedTypes ts → instances θ ts ≡ ts
  parts_stay θ no_types h = refl
  parts_stay θ (types t ts) h = λ j. types (closed_stays θ t h.0 j) (parts_stay θ ts h.1 j)

-- a closed term

atom_is_closed : (n : ℕ) (a : Atom) → is_plain_atom a ≡ true → eigen_of_atom a ≤ n → IsClosedAtom n a
atom_is_closed n (constant c ts) e l = types_are_closed ts e
atom_is_closed n (integer z) e l = tt
atom_is_closed n (text s) e l = tt
atom_is_closed n (eigen k) e l = l
atom_is_closed n (logic x y) e l = absurd (cc)
atom_is_closed n (param k t) e l = type_is_closed t e

term_within : (n d : ℕ) (t : Term) → is_plain t ≡ true → loose t ≤ d → greatest_eigen t ≤ n → Within (IsClosedAtom n) d t
term_within n d (index i) p l g = omega (arith, l)
term_within n d (atom a) p l g = atom_is_closed n a p g
term_within n d (abs b) p l g = term_within n (suc d) b p (omega (arith, l)) g
term_within n d (app t u) p l g = (
  term_within n d t (and_true_left (is_plain t) (is_plain u) p) (omega (arith, l)) (omega (arith, g)),
  term_within n d u (and_true_right (is_plain t) (is_plain u) p) (omega (arith, l)) (omega (arith, g)),
)

pub term_is_closed : (n : ℕ) (t : Term) → is_plain t ≡ true → loose t ≡ 0 → greatest_eigen t ≤ n → IsClosedAt n t
term_is_closed n t p l g = term_within n 0 t p (omega (arith, l)) g

closed_atom : (n : ℕ) (a : Atom) → IsClosedAtom n a → (is_plain_atom a ≡ true) × (eigen_of_atom a ≤ n)
closed_atom n (constant c ts) h = (closed_are ts h, omega arith)
closed_atom n (integer z) h = (refl, omega arith)
closed_atom n (text s) h = (refl, omega arith)
closed_atom n (eigen k) h = (refl, h)
closed_atom n (logic x y) h = absurd h
closed_atom n (param k t) h = (closed_is t h, omega arith)

pub within_facts : (n d : ℕ) (t : Term) → Within (IsClosedAtom n) d t → (is_plain t ≡ true) × (loose t ≤ d) × (greatest_eigen t ≤ n)
within_facts n d (index i) h = (refl, omega (arith, h), omega arith)
within_facts n d (atom a) h = let c = closed_atom n a h in (c.0, omega arith, c.1)
within_facts n d (abs b) h = let c = within_facts n (suc d) b h in (c.0, omega (arith, c.1), c.2)
within_facts n d (app t u) h =
    let c = within_facts n d t h.0 in
    let e = within_facts n d u h.1 in
    (both (is_plain t) (is_plain u) c.0 e.0, omega (arith, c.1, e.1), omega (arith, c.2, e.2))

pub closed_facts : (n : ℕ) (t : Term) → IsClosedAt n t → (is_plain t ≡ true) × (loose t ≡ 0) × (greatest_eigen t ≤ n)
closed_facts n t h = let c = within_facts n 0 t h in (c.0, omega (arith, c.1), c.2)

-- a positive term

pub term_is_positive : (t : Term) → is_positive t ≡ true → IsPositive t
term_is_positive (index i) e = tt
term_is_positive (atom (constant c ts)) e = e
term_is_positive (atom (integer z)) e = tt
term_is_positive (atom (text s)) e = tt
term_is_positive (atom (eigen k)) e = tt
term_is_positive (atom (logic x l)) e = tt
term_is_positive (atom (param k t)) e = tt
term_is_positive (abs b) e = term_is_positive b e
term_is_positive (app t u) e = (term_is_positive t (and_true_left (is_positive t) (is_positive u) e), term_is_positive u (and_true_right (is_positive t) (is_positive u) e))

pub positive_is : (t : Term) → IsPositive t → is_positive t ≡ true
positive_is (index i) h = refl
positive_is (atom (constant c ts)) h = h
positive_is (atom (integer z)) h = refl
positive_is (atom (text s)) h = refl
positive_is (atom (eigen k)) h = refl
positive_is (atom (logic x l)) h = refl
positive_is (atom (param k t)) h = refl
positive_is (abs b) h = positive_is b h
positive_is (app t u) h = both (is_positive t) (is_positive u) (positive_is t h.0) (positive_is u h.1)

-- the loose indices of a term are below what is known of them
pub loose_below : (n d : ℕ) (t : Term) → loose t ≤ d + n → LooseBelow n d t
loose_below n d (index i) l = omega (arith, l)
loose_below n d (atom a) l = tt
loose_below n d (abs b) l = loose_below n (suc d) b (omega (arith, l))
loose_below n d (app t u) l = (loose_below n d t (omega (arith, l)), loose_below n d u (omega (arith, l)))

pub loose_within : (n d : ℕ) (t : Term) → LooseBelow n d t → loose t ≤ d + n
loose_within n d (index i) l = omega (arith, l)
loose_within n d (atom a) l = omega arith
loose_within n d (abs b) l = let q = loose_within n (suc d) b l in omega (arith, q)
loose_within n d (app t u) l = let p = loose_within n d t l.0 in let q = loose_within n d u l.1 in omega (arith, p, q)
