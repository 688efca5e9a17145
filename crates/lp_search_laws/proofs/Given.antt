-- The typings that the search gives: entries in the place of a goal, by what it binds.
use Rattle.std.proofs.Common.{◌≡◌, ℕ, ◌≤◌, ◌<◌, List, [], ◌∷◌, ◌++◌, map, Some, refl, sym, ap, ◌∙◌, inl, inr, arith, true, false, nat_eq}
use Rattle.std.proofs.lemmas.Bool.{eqb-true}
use Rattle.lp_calculus.specs.Types.{Ty}
use Rattle.lp_calculus.specs.Term.{Term}
use Rattle.lp_standard.specs.Connectives.{two, Connective, connective_of, connective_of_constant}
use Rattle.lp_standard.specs.Connectives as connective
use Rattle.lp_model.specs.Look.{head_normal}
use Rattle.lp_model.specs.Flat.{Goal, Atomic, Clause, Written}
use Rattle.lp_model.specs.Branch.{Entry, Branch, entries}
use Rattle.lp_model.specs.Search.{with_goals}
use Rattle.lp_model.specs.Answers.{Variable, AnswerTyping}
use Rattle.lp_model.specs.Proofs.{Declared}
use Rattle.lp_search_laws.specs.Branches.{BranchTyping, TypedTask, going, trying, stopping, lacking}
use Rattle.lp_search_laws.specs.Given.{Nothing, OneVariable, OneEigenconstant, bound_by, bound_by_form, bound_by_normal, variables_with, eigens_with, IsPut, IsTypedFromFirst, IsTypedFrom}

-- of a goal known at run time
pub form_bound : (n : ℕ) (g : Goal) (t u : Term) (f : Connective) → g ≡ Atomic t → head_normal n t ≡ Some u → connective_of u ≡ f → bound_by n g ≡ bound_by_form f
form_bound n g t u f i r x = ap (bound_by n) i ∙ ap bound_by_normal r ∙ ap bound_by_form x

pub put_nothing : (n : ℕ) (g : Goal) (E : List Ty) (V : List Variable) (fs : List Entry) (Fs : List (List Ty)) → bound_by n g ≡ Nothing → Fs ≡ map (λ f. E) fs → IsPut n g E V V fs Fs
put_nothing n g E V fs Fs e i = record { variables = ap (λ x. variables_with x E V) (sym e); eigens = i ∙ ap (λ x. map (λ f. eigens_with x E) fs) (sym e) }

pub put_variable : (n : ℕ) (g : Goal) (E : List Ty) (V : List Variable) (fs : List Entry) (Fs : List (List Ty)) (T : Ty) → bound_by n g ≡ OneVariable T → Fs ≡ map (λ f. E) fs → IsPut n g E V (V ++ record { type = T; scope = E } ∷ []) fs Fs
put_variable n g E V fs Fs T e i = record { variables = ap (λ x. variables_with x E V) (sym e); eigens = i ∙ ap (λ x. map (λ f. eigens_with x E) fs) (sym e) }

pub put_eigenconstant : (n : ℕ) (g : Goal) (E : List Ty) (V : List Variable) (fs : List Entry) (Fs : List (List Ty)) (T : Ty) → bound_by n g ≡ OneEigenconstant T → Fs ≡ map (λ f. E ++ T ∷ []) fs → IsPut n g E V V fs Fs
put_eigenconstant n g E V fs Fs T e i = record { variables = ap (λ x. variables_with x E V) (sym e); eigens = i ∙ ap (λ x. map (λ f. eigens_with x E) fs) (sym e) }

pub entries_at : (E : List Ty) (gs : List Goal) (A : List Clause) (w : Written) (l m : ℕ) → map (λ g. E) gs ≡ map (λ f. E) (entries gs A w l m)
entries_at E [] A w l m = refl
entries_at E (g ∷ gs) A w l m = ap (λ z. E ∷ z) (entries_at E gs A w l m)

-- another goal in front that binds the same
other_first : (n : ℕ) (d : Declared) (z : AnswerTyping) (E : List Ty) (Es : List (List Ty)) (b : Branch) (x e : Entry) (es : List Entry) → bound_by n x.goal ≡ bound_by n e.goal → (y : BranchTyping) (c : Branch) →
    IsTypedFromFirst n d z (E ∷ Es) (with_goals b (x ∷ es)) (x ∷ es) y c → IsTypedFromFirst n d z (E ∷ Es) (with_goals b (e ∷ es)) (e ∷ es) y c
other_first n d z E Es b x e es i y c (inl h) = inl (record {
  front = h.front;
  types = h.types;
  goals = h.goals;
  eigens = h.eigens;
  put = record {
    variables = h.put.variables ∙ ap (λ v. variables_with v E z.variables) i;
    eigens = h.put.eigens ∙ ap (λ v. map (λ f. eigens_with v E) h.front) i;
  };
  pairs = h.pairs;
  found = h.found;
})
other_first n d z E Es b x e es i y c (inr h) = inr h

pub same_start : (n : ℕ) (d : Declared) (z : AnswerTyping) (E : List Ty) (Es : List (List Ty)) (b : Branch) (x e : Entry) (es : List Entry) → bound_by n x.goal ≡ bound_by n e.goal → (U : TypedTask) →
    IsTypedFrom n d (going (record { answer = z; eigens = E ∷ Es }) (with_goals b (x ∷ es))) U → IsTypedFrom n d (going (record { answer = z; eigens = E ∷ Es }) (with_goals b (e ∷ es))) U
same_start n d z E Es b x e es i (going y c) h = other_first n d z E Es b x e es i y c h
same_start n d z E Es b x e es i (trying y k t f c m) h = h
same_start n d z E Es b x e es i (stopping y T) h = tt
same_start n d z E Es b x e es i (lacking T) h = tt

-- the orders are no connectives
not_equal : (k j : ℕ) → j < k → nat_eq k j ≡ false
not_equal k j l = elim (nat_eq k j) as (λ b. nat_eq k j ≡ b → b ≡ false) [ true ↦ λ e. let q : k ≡ j = eqb-true k j e in absurd (omega (arith, l, q)) | false ↦ λ e. refl ] refl

pub order_form : (k : ℕ) → 10 ≤ k → (ts : List Ty) (l r : Term) → connective_of (two k ts l r) ≡ connective.Atomic
order_form k h [] l r =
    let a = not_equal k 0 (omega (arith, h)) in
    let b = not_equal k 1 (omega (arith, h)) in
    let c = not_equal k 2 (omega (arith, h)) in
    let d = not_equal k 3 (omega (arith, h)) in
    let e : connective_of_constant k [] (l ∷ r ∷ []) ≡ connective.Atomic = cc in e
order_form k h (T ∷ []) l r = refl
order_form k h (T ∷ U ∷ ts) l r = refl
