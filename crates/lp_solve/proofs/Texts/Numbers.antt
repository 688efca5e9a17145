-- Type variables that are numbered by first place are below their count; renumbering kinds and constants keeps them.
use Rattle.std.proofs.Common.{ℕ, suc, ◌<◌, ◌≤◌, List, [], ◌∷◌, ◌++◌, map, length, sym, subst, arith, inl, inr}
use Rattle.std.specs.Prelude.{reverse}
use Rattle.std.proofs.lemmas.Option.{slice_get_within}
use mathlib.Core.List.{reverse-cons}
use Rattle.lp_calculus.specs.Types.{Ty, Tys, var, param, con, arrow, no_types, types}
use Rattle.lp_calculus.specs.Term.{Term}
use Rattle.lp_calculus.specs.Fill.{Within}
use Rattle.lp_unify_laws.specs.TypesBelow.{IsTypeBelow, AreTysBelow, AreTypesBelow}
use Rattle.lp_term.specs.Mapped.{Map, mapped_type, mapped_types, mapped}
use Rattle.lp_search_laws.specs.Started.{IsQueryAtom}
use Rattle.lp_infer.specs.Typing.{Raw, raw_index, raw_constant, raw_integer, raw_text, raw_abs, raw_app, Elaborates, term_arguments}
use Rattle.lp_infer.specs.Numbering.{type_variables, types_variables, all_variables, AreNumbered}
use Rattle.lp_solve.proofs.Texts.Elaborated.{IsPlain}

-- each is below
abbrev pub AreBelow : ℕ → List ℕ → Type 0
AreBelow k [] = Unit {0}
AreBelow k (x ∷ xs) = (x < k) × AreBelow k xs

front : (k : ℕ) (xs ys : List ℕ) → AreBelow k (xs ++ ys) → AreBelow k xs
front k [] ys h = tt
front k (x ∷ xs) ys (h, more) = (h, front k xs ys more)

back : (k : ℕ) (xs ys : List ℕ) → AreBelow k (xs ++ ys) → AreBelow k ys
back k [] ys h = h
back k (x ∷ xs) ys (h, more) = back k xs ys more

ends_above : (n : ℕ) (xs : List ℕ) (m : ℕ) → AreNumbered n xs m → n ≤ m
ends_above n [] m h = omega (arith, h)
ends_above n (x ∷ xs) m (inl h) = ends_above n xs m h.1
ends_above n (x ∷ xs) m (inr h) = let e = ends_above (suc n) xs m h.1 in omega (arith, e)

pub numbered_below : (n : ℕ) (xs : List ℕ) (m : ℕ) → AreNumbered n xs m → AreBelow m xs
numbered_below n [] m h = tt
numbered_below n (x ∷ xs) m (inl h) = let e = ends_above n xs m h.1 in let f = h.0 in (omega (arith, e, f), numbered_below n xs m h.1)
numbered_below n (x ∷ xs) m (inr h) = let e = ends_above (suc n) xs m h.1 in let f = h.0 in (omega (arith, e, f), numbered_below (suc n) xs m h.1)

both_below : (k : ℕ) (xs ys : List ℕ) → AreBelow k xs → AreBelow k ys → AreBelow k (xs ++ ys)
both_below k [] ys h i = i
both_below k (x ∷ xs) ys (h, more) i = (h, both_below k xs ys more i)

-- the variables of lists of types, one behind the other
pub front_types : (k : ℕ) (Ts Us : List Ty) → AreBelow k (all_variables (Ts ++ Us)) → AreBelow k (all_variables Ts)
front_types k [] Us h = tt
front_types k (T ∷ Ts) Us h =
    both_below k (type_variables T) (all_variables Ts) (front k (type_variables T) (all_variables (Ts ++ Us)) h) (front_types k Ts Us (back k (type_variables T) (all_variables (Ts ++ Us)) h))

pub back_types : (k : ℕ) (Ts Us : List Ty) → AreBelow k (all_variables (Ts ++ Us)) → AreBelow k (all_variables Us)
back_types k [] Us h = h
back_types k (T ∷ Ts) Us h = back_types k Ts Us (back k (type_variables T) (all_variables (Ts ++ Us)) h)

pub turned_types : (k : ℕ) (Ts : List Ty) → AreBelow k (all_variables (reverse Ts)) → AreBelow k (all_variables Ts)
turned_types k [] h = tt
turned_types k (T ∷ Ts) h =
    both_below k (type_variables T) (all_variables Ts) (front k (type_variables T) [] (back_types k (reverse Ts) (T ∷ []) (pushed h)))
    (turned_types k Ts (front_types k (reverse Ts) (T ∷ []) (pushed h)))
  where
    pushed : AreBelow k (all_variables (reverse (T ∷ Ts))) → AreBelow k (all_variables (reverse Ts ++ T ∷ []))
    pushed = subst (λ l. AreBelow k (all_variables l)) (reverse-cons T Ts)

module _ (m : Map) (p : IsPlain m) (k : ℕ) where
  mutual
    pub type_below : (T : Ty) → AreBelow k (type_variables T) → IsTypeBelow k (mapped_type m T)
    type_below (var x) h = subst (IsTypeBelow k) (sym (p.types x)) h.0
    type_below (param j) h = tt
    type_below (con c ts) h = types_below ts h
    type_below (arrow a b) h = (type_below a (front k (type_variables a) (type_variables b) h), type_below b (back k (type_variables a) (type_variables b) h))

    types_below : (ts : Tys) → AreBelow k (types_variables ts) → AreTysBelow k (mapped_types m ts)
    types_below no_types h = tt
    types_below (types t ts) h = (type_below t (front k (type_variables t) (types_variables ts) h), types_below ts (back k (type_variables t) (types_variables ts) h))

  pub all_below : (ts : List Ty) → AreBelow k (all_variables ts) → AreTypesBelow k (map (mapped_type m) ts)
  all_below [] h = tt
  all_below (t ∷ ts) h = (type_below t (front k (type_variables t) (all_variables ts) h), all_below ts (back k (type_variables t) (all_variables ts) h))

  -- a formula that a text elaborates to has such atoms, and its indices are those that have types
  pub elaborated_within : (C : List Ty) (R : Raw) (t : Term) (A : Ty) → AreBelow k (all_variables (term_arguments t)) → Elaborates C R t A → Within (IsQueryAtom k) (length C) (mapped m t)
  elaborated_within C (raw_index i) t A h (e, f) = subst (λ t. Within (IsQueryAtom k) (length C) (mapped m t)) (sym e) (slice_get_within C i A f)
  elaborated_within C (raw_constant c s) t A h (ts, e, n, f) =
      subst (λ t. Within (IsQueryAtom k) (length C) (mapped m t)) (sym e) (all_below ts (subst (λ t. AreBelow k (all_variables (term_arguments t))) e h))
  elaborated_within C (raw_integer z) t A h (e, f) = subst (λ t. Within (IsQueryAtom k) (length C) (mapped m t)) (sym e) tt
  elaborated_within C (raw_text s) t A h (e, f) = subst (λ t. Within (IsQueryAtom k) (length C) (mapped m t)) (sym e) tt
  elaborated_within C (raw_abs given b) t A h (s, e, P, R, f, g, j) =
      subst (λ t. Within (IsQueryAtom k) (length C) (mapped m t)) (sym e) (elaborated_within (P ∷ C) b s R (subst (λ t. AreBelow k (all_variables (term_arguments t))) e h) j)
  elaborated_within C (raw_app f u) t A h (g, v, e, P, i, j) =
      let both = subst (λ t. AreBelow k (all_variables (term_arguments t))) e h in
      subst (λ t. Within (IsQueryAtom k) (length C) (mapped m t)) (sym e)
      (elaborated_within C f g (arrow P A) (front_types k (term_arguments g) (term_arguments v) both) i, elaborated_within C u v P (back_types k (term_arguments g) (term_arguments v) both) j)
