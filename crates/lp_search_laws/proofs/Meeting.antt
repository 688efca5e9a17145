-- A clause that serves for an atom passes the tests of candidates: where a head and an atom convert, their names are the same, and the first arguments
-- convert, so that these have no two names at their heads either.
use Rattle.std.proofs.Common.{◌≡◌, ℕ, suc, List, [], ◌∷◌, map, length, ◌∙◌, refl, sym, ap, subst as transport, arith, Bool, true, nat_eq, Option, Some, None}
use Rattle.std.specs.Prelude.{◌&&◌}
use Rattle.std.proofs.lemmas.Bool.Decides.{nat_tests, Decides-int_eq}
use Rattle.lp_calculus.specs.Types.{Ty, instance}
use Rattle.lp_calculus.specs.Term.{Term, Atom, index, atom, abs, app, apply, constant, integer, text, eigen, logic, param}
use Rattle.lp_calculus.specs.Convert.{Converts, ConvertAll, convert_more}
use Rattle.lp_calculus.specs.Instance.{instance_atom}
use Rattle.lp_calculus.proofs.Steps.{converts_on, converts_is}
use Rattle.lp_calculus.proofs.Rigid.{heads_joint}
use Rattle.lp_model.specs.Index.{instantiate}
use Rattle.lp_calculus.specs.Spine.{head_of, arguments}
use Rattle.lp_model.specs.Same.{same_name, same_atom, same_numbers}
use Rattle.lp_model.specs.Pair.{Closing, closed}
use Rattle.lp_model.specs.Search.{key_of, may_meet, first_key}
use Rattle.lp_model.specs.Proofs.{IsAtomHead}
use Rattle.lp_proof_laws.proofs.Uniform.Forms.{apply_arguments}
use Rattle.lp_unify_laws.proofs.Sames.{numbers_same}

-- what no closing takes away
abbrev IsName : Atom → Type 0
IsName (constant c ts) = Unit {0}
IsName (integer z) = Unit {0}
IsName (text s) = Unit {0}
IsName (eigen k) = Unit {0}
IsName (logic x l) = ⊥
IsName (param k T) = ⊥

-- without types
abbrev bare : Atom → Atom
bare (constant c ts) = constant c []
bare (integer z) = integer z
bare (text s) = text s
bare (eigen k) = eigen k
bare (logic x l) = logic x l
bare (param k T) = param k T

named : (a : Atom) (c : Closing) → IsName a → closed c (atom a) ≡ atom (instance_atom c.types a)
named (constant k ts) c n = refl
named (integer z) c n = refl
named (text s) c n = refl
named (eigen k) c n = refl
named (logic x l) c n = absurd n
named (param k T) c n = absurd n

length_map : {X Y : Type 0} (f : X → Y) (xs : List X) → length (map f xs) ≡ length xs
length_map f [] = refl
length_map f (x ∷ xs) = ap suc (length_map f xs)

nat_same : (m n : ℕ) → m ≡ n → nat_eq m n ≡ true
nat_same m n e = grind (arith, nat_tests, e)

pub and_true : (a b : Bool) → a ≡ true → b ≡ true → (a && b) ≡ true
and_true a b e f = ap (λ z. z && b) e ∙ f

types_of : Atom → List Ty
types_of (constant c ts) = ts
types_of (integer z) = []
types_of (text s) = []
types_of (eigen k) = []
types_of (logic x l) = []
types_of (param k T) = []

same_names : (θ κ : ℕ → Ty) (a b : Atom) → IsName a → IsName b → instance_atom θ a ≡ instance_atom κ b → (same_atom a b ≡ true) × (same_atom (bare a) (bare b) ≡ true)
unfolding types_of
same_names θ κ (constant c ts) (constant k us) n m e =
    let f : c ≡ k = cc in
    let g : map (instance θ) ts ≡ map (instance κ) us = ap types_of e in
    let l : length ts ≡ length us = sym (length_map (instance θ) ts) ∙ ap length g ∙ length_map (instance κ) us in
    (and_true (nat_eq c k) (nat_eq (length ts) (length us)) (nat_same c k f) (nat_same (length ts) (length us) l), and_true (nat_eq c k) true (nat_same c k f) refl)
same_names θ κ (integer y) (integer z) n m e = let f : y ≡ z = cc in let g = (Decides-int_eq y z).1 f in (g, g)
same_names θ κ (text s) (text r) n m e = let f : s ≡ r = cc in let g : same_numbers s r ≡ true = transport (λ x. same_numbers s x ≡ true) f (numbers_same s) in (g, g)
same_names θ κ (eigen i) (eigen j) n m e = let f : i ≡ j = cc in let g = nat_same i j f in (g, g)
same_names θ κ (constant c ts) (integer z) n m e = cc
same_names θ κ (constant c ts) (text s) n m e = cc
same_names θ κ (constant c ts) (eigen k) n m e = cc
same_names θ κ (integer z) (constant c ts) n m e = cc
same_names θ κ (integer z) (text s) n m e = cc
same_names θ κ (integer z) (eigen k) n m e = cc
same_names θ κ (text s) (constant c ts) n m e = cc
same_names θ κ (text s) (integer z) n m e = cc
same_names θ κ (text s) (eigen k) n m e = cc
same_names θ κ (eigen k) (constant c ts) n m e = cc
same_names θ κ (eigen k) (integer z) n m e = cc
same_names θ κ (eigen k) (text s) n m e = cc
same_names θ κ (logic x l) b n m e = absurd n
same_names θ κ (param k T) b n m e = absurd n
same_names θ κ (constant c ts) (logic x l) n m e = absurd m
same_names θ κ (integer z) (logic x l) n m e = absurd m
same_names θ κ (text s) (logic x l) n m e = absurd m
same_names θ κ (eigen k) (logic x l) n m e = absurd m
same_names θ κ (constant c ts) (param k T) n m e = absurd m
same_names θ κ (integer z) (param k T) n m e = absurd m
same_names θ κ (text s) (param k T) n m e = absurd m
same_names θ κ (eigen k) (param j T) n m e = absurd m

-- the name at a head
record HasName (t : Term) (a : Atom) : Type 0 where
  is : head_of t ≡ atom a
  name : IsName a

atom_name : (t : Term) → IsAtomHead (head_of t) → (a : Atom) × HasName t a
atom_name t h = go (head_of t) refl h
  where
    go : (k : Term) → head_of t ≡ k → IsAtomHead k → (a : Atom) × HasName t a
    go (atom (constant c ts)) e i = (constant c ts, record { is = e; name = tt })
    go (atom (eigen k)) e i = (eigen k, record { is = e; name = tt })
    go (atom (integer z)) e i = absurd i
    go (atom (text s)) e i = absurd i
    go (atom (logic x l)) e i = absurd i
    go (atom (param k T)) e i = absurd i
    go (index n) e i = absurd i
    go (abs b) e i = absurd i
    go (app u v) e i = absurd i

key_name : (t : Term) (k : Atom) → key_of t ≡ Some k → (a : Atom) × HasName t a × (k ≡ bare a)
key_name (index i) k e = absurd (cc)
key_name (atom (constant c ts)) k e = let f : k ≡ constant c [] = cc in (constant c ts, record { is = refl; name = tt }, f)
key_name (atom (integer z)) k e = let f : k ≡ integer z = cc in (integer z, record { is = refl; name = tt }, f)
key_name (atom (text s)) k e = let f : k ≡ text s = cc in (text s, record { is = refl; name = tt }, f)
key_name (atom (eigen j)) k e = let f : k ≡ eigen j = cc in (eigen j, record { is = refl; name = tt }, f)
key_name (atom (logic x l)) k e = absurd (cc)
key_name (atom (param j T)) k e = absurd (cc)
key_name (abs b) k e = absurd (cc)
key_name (app t u) k e = let r = key_name t k e in (r.0, record { is = r.1.is; name = r.1.name }, r.2)

-- a term under a closing, then with terms for its indices
module _ (f : ℕ → Term) (c z : Closing) where
  abbrev put : Term → Term
  put t = instantiate f (closed c t)

  put_apply : (h : Term) (ts : List Term) → put (apply h ts) ≡ apply (put h) (map put ts)
  put_apply h [] = refl
  put_apply h (t ∷ ts) = put_apply (app h t) ts

  closed_apply : (h : Term) (ts : List Term) → closed z (apply h ts) ≡ apply (closed z h) (map (closed z) ts)
  closed_apply h [] = refl
  closed_apply h (t ∷ ts) = closed_apply (app h t) ts

  record Meet (h t : Term) (a b : Atom) : Type 0 where
    names : instance_atom c.types a ≡ instance_atom z.types b
    arguments : ConvertAll (map put (arguments h)) (map (closed z) (arguments t))

  put_spine : (h : Term) (a : Atom) → HasName h a → put h ≡ apply (atom (instance_atom c.types a)) (map put (arguments h))
  put_spine h a n =
      ap put (sym (apply_arguments h []) ∙ ap (λ k. apply k (arguments h)) n.is) ∙ put_apply (atom a) (arguments h) ∙ ap (λ k. apply (instantiate f k) (map put (arguments h))) (named a c n.name)

  closed_spine : (t : Term) (b : Atom) → HasName t b → closed z t ≡ apply (atom (instance_atom z.types b)) (map (closed z) (arguments t))
  closed_spine t b n =
      ap (closed z) (sym (apply_arguments t []) ∙ ap (λ k. apply k (arguments t)) n.is) ∙ closed_apply (atom b) (arguments t) ∙ ap (λ k. apply k (map (closed z) (arguments t))) (named b z n.name)

  meet : (h t : Term) (a b : Atom) → HasName h a → HasName t b → Converts (put h) (closed z t) → Meet h t a b
  meet h t a b n m v =
      let w = converts_on (converts_is (sym (put_spine h a n))) (converts_on v (converts_is (closed_spine t b m))) in
      let j = heads_joint (atom (instance_atom c.types a)) (atom (instance_atom z.types b)) (map put (arguments h)) (map (closed z) (arguments t)) tt tt w in
      let e : instance_atom c.types a ≡ instance_atom z.types b = (let q = j.heads in cc) in
      record { names = e; arguments = j.arguments }

  keys_meet : (h s : Term) → Converts (put h) (closed z s) → (o : Option Atom) → key_of h ≡ o → (k : Option Atom) → key_of s ≡ k → may_meet o k ≡ true
  keys_meet h s v None e k g = refl
  keys_meet h s v (Some a) e None g = refl
  keys_meet h s v (Some a) e (Some b) g =
      let x = key_name h a e in
      let y = key_name s b g in
      let m = meet h s x.0 y.0 x.1 y.1 v in
      let r = (same_names c.types z.types x.0 y.0 x.1.name y.1.name m.names).1 in
      ap (λ q. same_name (atom q) (atom b)) x.2 ∙ ap (λ q. same_name (atom (bare x.0)) (atom q)) y.2 ∙ r

  none_none : {x : Term} {xs : List Term} → ConvertAll (x ∷ xs) [] → ⊥
  none_none v = elim v [ ]

  first_first : {x y : Term} {xs ys : List Term} → ConvertAll (x ∷ xs) (y ∷ ys) → Converts x y
  first_first (convert_more p q) = p

  firsts_meet : (hs ts : List Term) → ConvertAll (map put hs) (map (closed z) ts) → may_meet (first_key hs) (first_key ts) ≡ true
  firsts_meet [] ts v = refl
  firsts_meet (h ∷ hs) [] v = absurd (none_none v)
  firsts_meet (h ∷ hs) (s ∷ ss) v = keys_meet h s (first_first v) (key_of h) refl (key_of s) refl

  pub head_passes : (h t : Term) → IsAtomHead (head_of h) → IsAtomHead (head_of t) → Converts (instantiate f (closed c h)) (closed z t) → same_name (head_of h) (head_of t) ≡ true
  head_passes h t i j v =
      let x = atom_name h i in
      let y = atom_name t j in
      let m = meet h t x.0 y.0 x.1 y.1 v in
      ap (λ q. same_name q (head_of t)) x.1.is ∙ ap (same_name (atom x.0)) y.1.is ∙ (same_names c.types z.types x.0 y.0 x.1.name y.1.name m.names).0

  pub first_passes : (h t : Term) → IsAtomHead (head_of h) → IsAtomHead (head_of t) → Converts (instantiate f (closed c h)) (closed z t) → may_meet (first_key (arguments h)) (first_key (arguments t)) ≡ true
  first_passes h t i j v =
      let x = atom_name h i in
      let y = atom_name t j in
      firsts_meet (arguments h) (arguments t) (meet h t x.0 y.0 x.1 y.1 v).arguments
