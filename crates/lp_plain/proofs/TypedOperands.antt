-- The goal in front of a typed branch, as it is looked at: no abstraction in its arguments has a value.
use Rattle.std.proofs.Common.{◌≡◌, ℕ, List, [], ◌∷◌, Some, subst}
use Rattle.lp_calculus.specs.Spine.{arguments, arguments_and}
use Rattle.lp_calculus.specs.Term.{Term, index, atom, abs, app}
use Rattle.lp_calculus.specs.Types.{Ty, arrow}
use Rattle.lp_calculus.specs.Typing.{Context, Typed, o_type}
use Rattle.lp_lemmas.specs.Each.{EachOf}
use Rattle.lp_standard.specs.Schemes.{IsStandard}
use Rattle.lp_model.specs.Answers.{over}
use Rattle.lp_model.specs.Branch.{Branch, Entry, Go, Task}
use Rattle.lp_model.specs.Eigens.{beta_normal}
use Rattle.lp_model.specs.Flat.{Atomic, Clause, formula_of_goal}
use Rattle.lp_model.specs.Look.{head_normal}
use Rattle.lp_model.specs.Skeleton.{State}
use Rattle.lp_unify_laws.proofs.Looks.{head_reduces}
use Rattle.lp_search_laws.specs.Holds.{IsTyped}
use Rattle.lp_search_laws.proofs.Tried.{typed_reduct}
use Rattle.lp_plain.specs.Evaluated.{IsNoFunction}
use Rattle.lp_plain.specs.TypedStates.{IsTypedOver}
use Rattle.lp_plain.proofs.TypedCalls.{branch_typed, entry_typed}
use Rattle.lp_plain.proofs.TypedValues.{typed_form}

abbrev IsOperand : Term → Type 0
IsOperand x = (n : ℕ) (s : Term) → beta_normal n x ≡ Some s → IsNoFunction s

module _ (K : Context) (std : IsStandard K.declared) where
  abbrev HasSome : Term → Type 0
  HasSome x = (T : Ty) × Typed K [] x T

  arguments_typed : (t : Term) (more : List Term) (T : Ty) → Typed K [] t T → EachOf HasSome more → EachOf HasSome (arguments_and t more)
  arguments_typed (index i) more T h w = w
  arguments_typed (atom a) more T h w = w
  arguments_typed (abs b) more T h w = w
  arguments_typed (app f a) more T h w = arguments_typed f (a ∷ more) (arrow h.0 T) h.1 ((h.0, h.2), w)

  operands : (ts : List Term) → EachOf HasSome ts → EachOf IsOperand ts
  operands [] h = tt
  operands (t ∷ ts) h = ((λ n s e. typed_form K std [] n t s h.0.0 e h.0.1), operands ts h.1)

module _ (arity : ℕ → ℕ) (n : ℕ) (P : List Clause) (s : State Task) (ty : IsTypedOver arity n P s) (b : Branch) (rest : List Task)
    (stack : s.stack ≡ Go b ∷ rest) (e : Entry) (es : List Entry) (first : b.goals ≡ e ∷ es) where
  pub front_operands : (t u : Term) (m : ℕ) → e.goal ≡ Atomic t → head_normal m t ≡ Some u → EachOf (λ x. (i : ℕ) (y : Term) → beta_normal i x ≡ Some y → IsNoFunction y) (arguments u)
  front_operands t u m g h =
      let V = (branch_typed arity n P s ty b rest stack e es first).0.answer.variables in
      let w = entry_typed arity n P s ty b rest stack e es first in
      let a = subst (λ x. IsTyped ty.declared w.0 V (formula_of_goal x) o_type) g w.1.goal in
      let K = over ty.declared w.0 V in
      operands K ty.standard (arguments u) (arguments_typed K ty.standard u [] o_type (typed_reduct ty.declared w.0 V t u o_type (head_reduces m t u h) a).typed tt)
