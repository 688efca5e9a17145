-- Where all variables are set, the steps of a term make none.
use Rattle.std.proofs.Common.{◌≡◌, ◌∙◌, ℕ, ◌-◌, List, [], ◌∷◌, length, Option, Some, None, ap, refl, sym, subst}
use Rattle.std.specs.Prelude.{if◌then◌else◌, slice_get}
use Rattle.lp_calculus.specs.Types.{Ty}
use Rattle.lp_calculus.specs.Term.{Term, Atom, index, atom, abs, app, constant, integer, text, eigen, logic, param}
use Rattle.lp_calculus.specs.Typing.{o_type}
use Rattle.lp_gen.specs.Steps.{from_of, to_of, make_variable, from_register, Seen, Around, level_in, at_level, set_level, Listed, one_step, found_listed, level_listed, bound_listed, atom_listed, listed, headed}
use Rattle.lp_gen.specs.inner.TermLaw.{AreSet}

abbrev around_by : Listed → Around
around_by l = l.around

found_calm : (a : Around) (l : ℕ) (o : Option Seen) → at_level a l ≡ o → AreSet a → (found_listed a l o).around ≡ a
found_calm a l None e s = refl
found_calm a l (Some v) e s =
    ap (λ t. around_by (if t then one_step a (from_register v.register) else record { steps = make_variable v.register v.of ∷ from_register v.register ∷ []; around = set_level a l })) (s l v e)

level_calm : (a : Around) (o : Option ℕ) → AreSet a → (level_listed a o).around ≡ a
level_calm a None s = refl
level_calm a (Some l) s = found_calm a l (at_level a l) refl s

index_calm : (C : List Ty) (a : Around) (i : ℕ) (o : Option Ty) → AreSet a → (bound_listed C a i o).around ≡ a
index_calm C a i (Some T) s = refl
index_calm C a i None s = level_calm a (level_in a (i - length C)) s

atom_calm : (C : List Ty) (a : Around) (c : Atom) → AreSet a → (atom_listed C a c).around ≡ a
atom_calm C a (constant c Ts) s = refl
atom_calm C a (integer z) s = refl
atom_calm C a (text b) s = refl
atom_calm C a (eigen k) s = index_calm C a 0 (slice_get C 0) s
atom_calm C a (logic x l) s = index_calm C a 0 (slice_get C 0) s
atom_calm C a (param k T) s = index_calm C a 0 (slice_get C 0) s

module _ (K : ℕ → List Ty → Ty) where
  mutual
    pub listed_calm : (C : List Ty) (a : Around) (T : Ty) (t : Term) → AreSet a → (listed K C a T t).around ≡ a
    listed_calm C a T (index i) s = index_calm C a i (slice_get C i) s
    listed_calm C a T (atom c) s = atom_calm C a c s
    listed_calm C a T (abs b) s = listed_calm (from_of T ∷ C) a (to_of T) b s
    listed_calm C a T (app t u) s =
        let g = headed_calm C a t s in
        listed_calm C (headed K C a t).around (from_of (headed K C a t).function) u (subst AreSet (sym g) s) ∙ g

    headed_calm : (C : List Ty) (a : Around) (t : Term) → AreSet a → (headed K C a t).around ≡ a
    headed_calm C a (index i) s = index_calm C a i (slice_get C i) s
    headed_calm C a (atom c) s = atom_calm C a c s
    headed_calm C a (abs b) s = listed_calm (o_type ∷ C) a o_type b s
    headed_calm C a (app t u) s =
        let g = headed_calm C a t s in
        listed_calm C (headed K C a t).around (from_of (headed K C a t).function) u (subst AreSet (sym g) s) ∙ g
