-- The goal in front of a typed branch, as it is looked at: its arguments are plain terms, and so a unification of two of them binds no type variable that is still to come.
use Rattle.std.proofs.Common.{◌≡◌, ℕ, List, [], ◌∷◌, Some, subst}
use Rattle.lp_calculus.specs.Spine.{arguments, arguments_and}
use Rattle.lp_calculus.specs.Term.{Term, index, atom, abs, app}
use Rattle.lp_calculus.specs.Typing.{o_type}
use Rattle.lp_lemmas.specs.Each.{EachOf}
use Rattle.lp_model.specs.Branch.{Branch, Entry, Go, Task}
use Rattle.lp_model.specs.Flat.{Atomic, Clause, formula_of_goal}
use Rattle.lp_model.specs.Look.{head_normal}
use Rattle.lp_model.specs.Skeleton.{State}
use Rattle.lp_unify_laws.proofs.Looks.{head_reduces}
use Rattle.lp_search_laws.specs.Branches.{IsGoal, IsPlainPair, IsPlainTerm}
use Rattle.lp_search_laws.specs.Holds.{IsTyped}
use Rattle.lp_search_laws.proofs.Tried.{plain_reduct}
use Rattle.lp_plain.specs.TypedStates.{IsTypedOver}
use Rattle.lp_plain.proofs.TypedCalls.{branch_typed, entry_plain, entry_typed}

arguments_plain : (k : ℕ) (t : Term) (more : List Term) → IsPlainTerm k t → EachOf (IsPlainTerm k) more → EachOf (IsPlainTerm k) (arguments_and t more)
arguments_plain k (index i) more h w = w
arguments_plain k (atom a) more h w = w
arguments_plain k (abs b) more h w = w
arguments_plain k (app f a) more h w = arguments_plain k f (a ∷ more) h.0 (h.1, w)

module _ (arity : ℕ → ℕ) (n : ℕ) (P : List Clause) (s : State Task) (ty : IsTypedOver arity n P s) (b : Branch) (rest : List Task)
    (stack : s.stack ≡ Go b ∷ rest) (e : Entry) (es : List Entry) (first : b.goals ≡ e ∷ es) where
  pub front_arguments : (t u : Term) (m : ℕ) → e.goal ≡ Atomic t → head_normal m t ≡ Some u → EachOf (IsPlainTerm b.next_type) (arguments u)
  front_arguments t u m g h =
      let V = (branch_typed arity n P s ty b rest stack e es first).0.answer.variables in
      let w = entry_typed arity n P s ty b rest stack e es first in
      let a = subst (λ x. IsTyped ty.declared w.0 V (formula_of_goal x) o_type) g w.1.goal in
      let p = subst (IsGoal b.next_type []) g (entry_plain arity n P s ty b rest stack e es first).1.goal in
      arguments_plain b.next_type u [] (plain_reduct ty.declared w.0 V t u o_type b.next_type (head_reduces m t u h) a p) tt

  pub front_pairs : EachOf (IsPlainPair b.next_type) b.pairs
  front_pairs = (branch_typed arity n P s ty b rest stack e es first).1.pairs
