-- A formula that has its form has it below one more binder, and where more variables may head clauses.
use Rattle.std.proofs.Common.{◌≡◌, ℕ, zero, suc, List, [], ◌∷◌, Bool, true, false, refl, sym, ap, ◌∙◌, arith}
use Rattle.std.specs.Prelude.{◌&&◌, not, slice_index_or, Option}
use Rattle.std.proofs.lemmas.Bool.Decides.{nat_tests}
use Rattle.lp_lemmas.proofs.Booleans.{and_true_left, and_true_right}
use Rattle.lp_calculus.specs.Term.{Term, index, atom, abs, app, constant, integer, text, eigen, logic, param, shift}
use Rattle.lp_calculus.specs.Typing.{Scheme}
use Rattle.lp_calculus.specs.Spine.{head_of}
use Rattle.lp_calculus.proofs.Plain.{bump, shift-rename}
use Rattle.lp_standard.specs.Connectives.{Connective, connective_of}
use Rattle.lp_standard.specs.Connectives as connective
use Rattle.lp_standard.specs.Positive.{is_positive}
use Rattle.lp_model.specs.Flatten.{is_goal_head, is_clause_head}
use Rattle.lp_solve.proofs.Texts.Fits.{both, fits, fits_by, headed}
use Rattle.lp_solve.proofs.Texts.RaisedForms.{form_shift, shifted}

-- the variables of a sentence, bound by `pi`
abbrev pub falses : {A : Type 0} → List A → List Bool → List Bool
falses [] B = B
falses (v ∷ vs) B = false ∷ falses vs B

raise_index : (from i : ℕ) → shift from 1 (index i) ≡ index (bump 1 from i)
raise_index from i = shift-rename from 1 (index i)

head_raised : (from : ℕ) (t : Term) → head_of (shift from 1 t) ≡ shift from 1 (head_of t)
head_raised from (index i) = ap head_of (raise_index from i) ∙ sym (raise_index from i)
head_raised from (atom a) = refl
head_raised from (abs b) = refl
head_raised from (app t u) = head_raised from t

positive_raised : (from : ℕ) (t : Term) → is_positive (shift from 1 t) ≡ is_positive t
positive_raised from (index i) = ap is_positive (raise_index from i)
positive_raised from (atom (constant c ts)) = refl
positive_raised from (atom (integer z)) = refl
positive_raised from (atom (text s)) = refl
positive_raised from (atom (eigen k)) = refl
positive_raised from (atom (logic x l)) = refl
positive_raised from (atom (param k T)) = refl
positive_raised from (abs b) = positive_raised (suc from) b
positive_raised from (app t u) = ap (λ p. p && is_positive (shift from 1 u)) (positive_raised from t) ∙ ap (λ p. is_positive t && p) (positive_raised from u)

goal_head_raised : (from : ℕ) (h : Term) → is_goal_head (shift from 1 h) ≡ is_goal_head h
goal_head_raised from (index i) = ap is_goal_head (raise_index from i)
goal_head_raised from (atom a) = refl
goal_head_raised from (abs b) = refl
goal_head_raised from (app t u) = refl

-- binders, of which one more stands at a place
pub record MayRaise (from : ℕ) (B D : List Bool) : Type 0 where
  pub at : (i : ℕ) → slice_index_or B i false ≡ true → slice_index_or D (bump 1 from i) false ≡ true

pub raise_first : (x : Bool) (B : List Bool) → MayRaise 0 B (x ∷ B)
raise_first x B = record { at = λ i e. let b : bump 1 0 i ≡ suc i = grind (arith, nat_tests) in ap (λ j. slice_index_or (x ∷ B) j false) b ∙ e }

raise_below : (x : Bool) (from : ℕ) (B D : List Bool) → MayRaise from B D → MayRaise (suc from) (x ∷ B) (x ∷ D)
raise_below x from B D m = record { at = go }
  where
    go : (i : ℕ) → slice_index_or (x ∷ B) i false ≡ true → slice_index_or (x ∷ D) (bump 1 (suc from) i) false ≡ true
    go zero e = let b : bump 1 (suc from) 0 ≡ 0 = grind (arith, nat_tests) in ap (λ j. slice_index_or (x ∷ D) j false) b ∙ e
    go (suc i) e = let b : bump 1 (suc from) (suc i) ≡ suc (bump 1 from i) = grind (arith, nat_tests) in ap (λ j. slice_index_or (x ∷ D) j false) b ∙ m.at i e

module _ (d : ℕ → Option Scheme) where
  clause_head_raised : (from : ℕ) (B D : List Bool) → MayRaise from B D → (h : Term) → is_clause_head d B h ≡ true → is_clause_head d D (shift from 1 h) ≡ true
  clause_head_raised from B D m (index i) e = ap (is_clause_head d D) (raise_index from i) ∙ m.at i e
  clause_head_raised from B D m (atom (constant c ts)) e = e
  clause_head_raised from B D m (atom (integer z)) e = e
  clause_head_raised from B D m (atom (text s)) e = e
  clause_head_raised from B D m (atom (eigen k)) e = e
  clause_head_raised from B D m (atom (logic x l)) e = e
  clause_head_raised from B D m (atom (param k T)) e = e
  clause_head_raised from B D m (abs b) e = e
  clause_head_raised from B D m (app t u) e = e

  headed_raised : (from : ℕ) (B D : List Bool) → MayRaise from B D → (g : Bool) (h : Term) → headed d g B h ≡ true → headed d g D (shift from 1 h) ≡ true
  headed_raised from B D m true h e = goal_head_raised from h ∙ e
  headed_raised from B D m false h e = clause_head_raised from B D m h e

  raised_by : (n : ℕ) → ((g : Bool) (from : ℕ) (B D : List Bool) → MayRaise from B D → (t : Term) → fits d n g B t ≡ true → fits d n g D
      (shift from 1 t) ≡ true) → (g : Bool) (from : ℕ) (B D : List Bool) → MayRaise from B D → (t : Term) (f : Connective) →
      fits_by (fits d n) d g B t f ≡ true → fits_by (fits d n) d g D (shift from 1 t) (shifted from 1 f) ≡ true
  raised_by n ih g from B D m t connective.True e = e
  raised_by n ih g from B D m t connective.Cut e = e
  raised_by n ih g from B D m t (connective.And a b) e = both _ _ (ih g from B D m a (and_true_left _ _ e)) (ih g from B D m b (and_true_right (fits d n g B a) _ e))
  raised_by n ih g from B D m t (connective.Or a b) e =
      let r = and_true_right g _ e in
      both _ _ (and_true_left g _ e) (both _ _ (ih g from B D m a (and_true_left _ _ r)) (ih g from B D m b (and_true_right (fits d n g B a) _ r)))
  raised_by n ih g from B D m t (connective.Implies a b) e = both _ _ (ih (not g) from B D m a (and_true_left _ _ e)) (ih g from B D m b (and_true_right (fits d n (not g) B a) _ e))
  raised_by n ih g from B D m t (connective.ForAll T b) e = ih g (suc from) (g ∷ B) (g ∷ D) (raise_below g from B D m) b e
  raised_by n ih g from B D m t (connective.Exists T b) e = both _ _ (and_true_left g _ e) (ih g (suc from) (false ∷ B) (false ∷ D) (raise_below false from B D m) b (and_true_right g _ e))
  raised_by n ih g from B D m t (connective.Not a) e = both _ _ (and_true_left g _ e) (ih true from B D m a (and_true_right g _ e))
  raised_by n ih g from B D m t connective.Atomic e =
      both _ _ (positive_raised from t ∙ and_true_left _ _ e) (ap (headed d g D) (head_raised from t) ∙ headed_raised from B D m g (head_of t) (and_true_right (is_positive t) _ e))

  pub fits_raised : (n : ℕ) (g : Bool) (from : ℕ) (B D : List Bool) → MayRaise from B D → (t : Term) → fits d n g B t ≡ true → fits d n g D (shift from 1 t) ≡ true
  fits_raised zero g from B D m t e = cc
  fits_raised (suc n) g from B D m t e = ap (fits_by (fits d n) d g D (shift from 1 t)) (form_shift from 1 t) ∙ raised_by n (fits_raised n) g from B D m t (connective_of t) e

  -- more variables may head clauses
  abbrev pub IsWider : List Bool → List Bool → Type 0
  IsWider B D = (i : ℕ) → slice_index_or B i false ≡ true → slice_index_or D i false ≡ true

  wider_below : (x : Bool) (B D : List Bool) → IsWider B D → IsWider (x ∷ B) (x ∷ D)
  wider_below x B D w zero e = e
  wider_below x B D w (suc i) e = w i e

  clause_head_wider : (B D : List Bool) → IsWider B D → (h : Term) → is_clause_head d B h ≡ true → is_clause_head d D h ≡ true
  clause_head_wider B D w (index i) e = w i e
  clause_head_wider B D w (atom (constant c ts)) e = e
  clause_head_wider B D w (atom (integer z)) e = e
  clause_head_wider B D w (atom (text s)) e = e
  clause_head_wider B D w (atom (eigen k)) e = e
  clause_head_wider B D w (atom (logic x l)) e = e
  clause_head_wider B D w (atom (param k T)) e = e
  clause_head_wider B D w (abs b) e = e
  clause_head_wider B D w (app t u) e = e

  headed_wider : (B D : List Bool) → IsWider B D → (g : Bool) (h : Term) → headed d g B h ≡ true → headed d g D h ≡ true
  headed_wider B D w true h e = e
  headed_wider B D w false h e = clause_head_wider B D w h e

  wider_by : (n : ℕ) → ((g : Bool) (B D : List Bool) → IsWider B D → (t : Term) → fits d n g B t ≡ true → fits d n g D t ≡ true) → (g : Bool)
      (B D : List Bool) → IsWider B D → (t : Term) (f : Connective) → fits_by (fits d n) d g B t f ≡ true → fits_by (fits d n) d g D t f ≡ true
  wider_by n ih g B D w t connective.True e = e
  wider_by n ih g B D w t connective.Cut e = e
  wider_by n ih g B D w t (connective.And a b) e = both _ _ (ih g B D w a (and_true_left _ _ e)) (ih g B D w b (and_true_right (fits d n g B a) _ e))
  wider_by n ih g B D w t (connective.Or a b) e =
      let r = and_true_right g _ e in
      both _ _ (and_true_left g _ e) (both _ _ (ih g B D w a (and_true_left _ _ r)) (ih g B D w b (and_true_right (fits d n g B a) _ r)))
  wider_by n ih g B D w t (connective.Implies a b) e = both _ _ (ih (not g) B D w a (and_true_left _ _ e)) (ih g B D w b (and_true_right (fits d n (not g) B a) _ e))
  wider_by n ih g B D w t (connective.ForAll T b) e = ih g (g ∷ B) (g ∷ D) (wider_below g B D w) b e
  wider_by n ih g B D w t (connective.Exists T b) e = both _ _ (and_true_left g _ e) (ih g (false ∷ B) (false ∷ D) (wider_below false B D w) b (and_true_right g _ e))
  wider_by n ih g B D w t (connective.Not a) e = both _ _ (and_true_left g _ e) (ih true B D w a (and_true_right g _ e))
  wider_by n ih g B D w t connective.Atomic e = both _ _ (and_true_left _ _ e) (headed_wider B D w g (head_of t) (and_true_right (is_positive t) _ e))

  pub fits_wider : (n : ℕ) (g : Bool) (B D : List Bool) → IsWider B D → (t : Term) → fits d n g B t ≡ true → fits d n g D t ≡ true
  fits_wider zero g B D w t e = cc
  fits_wider (suc n) g B D w t e = wider_by n (fits_wider n) g B D w t (connective_of t) e

  pub none_wider : (D : List Bool) → IsWider [] D
  none_wider D i e = cc
