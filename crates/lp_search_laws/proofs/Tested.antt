-- What was tested to hold no variable is the same under each closing.
use Rattle.std.proofs.Common.{◌≡◌, ℕ, List, [], ◌∷◌, ◌++◌, map, Bool, true, false, Some, refl, sym, ap, subst, ◌∙◌}
use Rattle.std.specs.Prelude.{◌||◌, option_map}
use Rattle.std.specs.List.{list_any}
use Rattle.lp_calculus.specs.Types.{Ty, Tys, var, param as type_param, con, arrow, no_types, types, instance, instances}
use Rattle.lp_calculus.specs.Term.{Term, index, atom, abs, app, shift, Atom, constant, integer, text, eigen, logic, param}
use Rattle.lp_calculus.specs.Convert.{Converts}
use Rattle.lp_calculus.specs.Fill.{fill, raise}
use Rattle.lp_calculus.proofs.Steps.{converts_on, converts_sym, converts_reduces}
use Rattle.lp_lemmas.specs.Each.{EachOf}
use Rattle.lp_lemmas.proofs.Options.{and_then_some, option_map_some}
use Rattle.lp_model.specs.Eigens.{beta_normal}
use Rattle.lp_model.specs.Pair.{Closing, closed}
use Rattle.lp_model.specs.Flat.{Written, type_variables, types_variables}
use Rattle.lp_model.specs.Search.{is_variable, has_variable, has_type_variable, beta_normals, has_variables}
use Rattle.lp_unify_laws.proofs.Looks.{beta_reduces}
use Rattle.lp_calculus.specs.Closed.{AllAtoms}
use Rattle.lp_search_laws.proofs.Closed.{closed_reduces}
use Rattle.lp_search_laws.proofs.ComesOver.{IsOver, ComesOver}
use Rattle.lp_search_laws.proofs.TypesOver.{Over, AreOver}
use Rattle.lp_search_laws.proofs.ClosedTerms.{closed_atom, closed_fill}

none_left : (x y : Bool) → (x || y) ≡ false → (x ≡ false) × (y ≡ false)
none_left true y e = cc
none_left false y e = (refl, e)

-- types without variables
append_none : {A : Type 0} (xs ys : List A) → xs ++ ys ≡ [] → (xs ≡ []) × (ys ≡ [])
append_none [] ys e = (refl, e)
append_none (x ∷ xs) ys e = cc

no_variables : (T : Ty) → has_type_variable T ≡ false → type_variables T ≡ []
no_variables T h = go (type_variables T) refl
  where
    go : (xs : List ℕ) → type_variables T ≡ xs → type_variables T ≡ []
    go [] e = e
    go (x ∷ xs) e = cc

mutual
  type_stays : (θ : ℕ → Ty) (T : Ty) → type_variables T ≡ [] → instance θ T ≡ T
  type_stays θ (var i) e = cc
  type_stays θ (type_param k) e = refl
  type_stays θ (con c ts) e = ap (con c) (types_stay θ ts e)
  type_stays θ (arrow a b) e = let q = append_none (type_variables a) (type_variables b) e in let x = type_stays θ a q.0 in let y = type_stays θ b q.1 in cc

  types_stay : (θ : ℕ → Ty) (ts : Tys) → types_variables ts ≡ [] → instances θ ts ≡ ts
  types_stay θ no_types e = refl
  types_stay θ (types t ts) e = let q = append_none (type_variables t) (types_variables ts) e in let x = type_stays θ t q.0 in let y = types_stay θ ts q.1 in cc

list_stays : (θ : ℕ → Ty) (ts : List Ty) → list_any has_type_variable ts ≡ false → map (instance θ) ts ≡ ts
list_stays θ [] h = refl
list_stays θ (t ∷ ts) h = let q = none_left (has_type_variable t) (list_any has_type_variable ts) h in let x = type_stays θ t (no_variables t q.0) in let y = list_stays θ ts q.1 in cc

-- terms without variables
term_stays : (f : Atom → Term) → ((a : Atom) → is_variable a ≡ false → f a ≡ atom a) → (t : Term) → has_variable t ≡ false → fill f t ≡ t
term_stays f h (index i) e = refl
term_stays f h (atom a) e = h a e
term_stays f h (abs b) e = ap abs (term_stays (raise f) (λ a q. ap (shift 0 1) (h a q)) b e)
term_stays f h (app t u) e = let q = none_left (has_variable t) (has_variable u) e in let x = term_stays f h t q.0 in let y = term_stays f h u q.1 in cc

atom_stays : (c : Closing) (a : Atom) → is_variable a ≡ false → closed_atom c a ≡ atom a
atom_stays c (constant k ts) e = ap (λ us. atom (constant k us)) (list_stays c.types ts e)
atom_stays c (integer z) e = refl
atom_stays c (text s) e = refl
atom_stays c (eigen k) e = refl
atom_stays c (logic x l) e = cc
atom_stays c (param k T) e = ap (λ U. atom (param k U)) (type_stays c.types T (no_variables T e))

normal_stays : (c : Closing) (t : Term) → has_variable t ≡ false → closed c t ≡ t
normal_stays c t e = closed_fill c t ∙ term_stays (closed_atom c) (atom_stays c) t e

value_stays : (n : ℕ) (c : Closing) (t s : Term) → beta_normal n t ≡ Some s → has_variable s ≡ false → Converts (closed c t) t
value_stays n c t s e h =
    let r = beta_reduces n t s e in
    converts_on (subst (Converts (closed c t)) (normal_stays c s h) (converts_reduces (closed_reduces c r))) (converts_sym (converts_reduces r))

values_stay : (n : ℕ) (c : Closing) (ts ss : List Term) → beta_normals n ts ≡ Some ss → list_any has_variable ss ≡ false → EachOf (λ t. Converts (closed c t) t) ts
values_stay n c [] ss e h = tt
values_stay n c (t ∷ ts) ss e h =
    let x = and_then_some (beta_normal n t) (λ s. option_map (λ rs. s ∷ rs) (beta_normals n ts)) ss e in
    let r = option_map_some (beta_normals n ts) (λ rs. x.0 ∷ rs) ss x.2 in
    let q = none_left (has_variable x.0) (list_any has_variable r.0) (subst (λ us. list_any has_variable us ≡ false) (sym r.2) h) in
    (value_stays n c t x.0 x.1 q.0, values_stay n c ts r.0 r.1 q.1)

types_written : (c : Closing) (Ts : List Ty) → list_any has_type_variable Ts ≡ false → EachOf (λ T. instance c.types T ≡ T) Ts
types_written c [] h = tt
types_written c (T ∷ Ts) h = let q = none_left (has_type_variable T) (list_any has_type_variable Ts) h in (type_stays c.types T (no_variables T q.0), types_written c Ts q.1)

pub tested_stays : (n : ℕ) (w : Written) → has_variables n w ≡ Some false → (c : Closing) → EachOf (λ t. Converts (closed c t) t) w.terms × EachOf (λ T. instance c.types T ≡ T) w.types
tested_stays n w e c =
    let r = option_map_some (beta_normals n w.terms) (λ ts. list_any has_variable ts || list_any has_type_variable w.types) false e in
    let q = none_left (list_any has_variable r.0) (list_any has_type_variable w.types) r.2 in
    (values_stay n c w.terms r.0 r.1 q.0, types_written c w.types q.1)

-- and the types in its normal form have no variables
module _ (Q : ℕ → Type 0) where
  mutual
    type_over : (T : Ty) → type_variables T ≡ [] → Over Q T
    type_over (var i) e = cc
    type_over (type_param k) e = tt
    type_over (con c ts) e = types_over ts e
    type_over (arrow a b) e = let q = append_none (type_variables a) (type_variables b) e in (type_over a q.0, type_over b q.1)

    types_over : (ts : Tys) → types_variables ts ≡ [] → AreOver Q ts
    types_over no_types e = tt
    types_over (types t ts) e = let q = append_none (type_variables t) (types_variables ts) e in (type_over t q.0, types_over ts q.1)

  list_over : (ts : List Ty) → list_any has_type_variable ts ≡ false → EachOf (Over Q) ts
  list_over [] h = tt
  list_over (t ∷ ts) h = let q = none_left (has_type_variable t) (list_any has_type_variable ts) h in (type_over t (no_variables t q.0), list_over ts q.1)

  atom_over : (a : Atom) → is_variable a ≡ false → IsOver Q a
  atom_over (constant k ts) e = (tt, list_over ts e)
  atom_over (integer z) e = tt
  atom_over (text s) e = tt
  atom_over (eigen k) e = tt
  atom_over (logic x l) e = tt
  atom_over (param k T) e = type_over T (no_variables T e)

  term_over : (t : Term) → has_variable t ≡ false → AllAtoms (IsOver Q) t
  term_over (index i) e = tt
  term_over (atom a) e = atom_over a e
  term_over (abs b) e = term_over b e
  term_over (app t u) e = let q = none_left (has_variable t) (has_variable u) e in (term_over t q.0, term_over u q.1)

  values_over : (n : ℕ) (ts ss : List Term) → beta_normals n ts ≡ Some ss → list_any has_variable ss ≡ false → EachOf (ComesOver Q) ts
  values_over n [] ss e h = tt
  values_over n (t ∷ ts) ss e h =
      let x = and_then_some (beta_normal n t) (λ s. option_map (λ rs. s ∷ rs) (beta_normals n ts)) ss e in
      let r = option_map_some (beta_normals n ts) (λ rs. x.0 ∷ rs) ss x.2 in
      let q = none_left (has_variable x.0) (list_any has_variable r.0) (subst (λ us. list_any has_variable us ≡ false) (sym r.2) h) in
      ((x.0, beta_reduces n t x.0 x.1, term_over x.0 q.0), values_over n ts r.0 r.1 q.1)

  pub tested_over : (n : ℕ) (w : Written) → has_variables n w ≡ Some false → EachOf (ComesOver Q) w.terms × EachOf (Over Q) w.types
  tested_over n w e =
      let r = option_map_some (beta_normals n w.terms) (λ ts. list_any has_variable ts || list_any has_type_variable w.types) false e in
      let q = none_left (list_any has_variable r.0) (list_any has_type_variable w.types) r.2 in
      (values_over n w.terms r.0 r.1 q.0, list_over w.types q.1)
