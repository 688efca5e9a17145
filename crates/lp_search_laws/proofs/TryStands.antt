-- What the search leaves of a try stands for it.
use Rattle.lp_proof_laws.proofs.Uniform.Settings.{IsSetting}
use Rattle.std.proofs.Common.{◌≡◌, ℕ, List, [], ◌∷◌, map, subst as transport, sym}
use Rattle.lp_calculus.specs.Types.{Ty, instance}
use Rattle.lp_calculus.specs.Term.{Term}
use Rattle.lp_calculus.specs.Instance.{instance_term}
use Rattle.lp_model.specs.Unify.{unit_limit}
use Rattle.lp_lemmas.specs.Each.{EachOf}
use Rattle.lp_calculus.specs.Spine.{head_of, arguments}
use Rattle.lp_model.specs.Types.{TypePair}
use Rattle.lp_model.specs.Pair.{Pair}
use Rattle.lp_model.specs.Rule.{type_pairs}
use Rattle.lp_model.specs.Flat.{Goals, Clause, clause, type_goals, formula_of_goals}
use Rattle.lp_model.specs.Branch.{Entry, Branch}
use Rattle.lp_model.specs.Search.{renewed, slots_of, slotted, pairs_of, tried, try_clause}
use Rattle.lp_model.specs.Proofs.{Declared, Leaves}
use Rattle.lp_model.specs.Answers.{Query, Instance, Variable}
use Rattle.lp_search_laws.specs.Branches.{IsProgramTyped, IsTypedTry, BranchTyping, TypedTask, trying, Sol}
use Rattle.lp_search_laws.specs.Given.{IsTypedFromTry}
use Rattle.lp_search_laws.specs.Views.{StandFor}
use Rattle.lp_search_laws.specs.Behind.{SolvesWith}
use Rattle.lp_search_laws.specs.Tries.{tried_values, tried_typing, tried_branch_of}
use Rattle.lp_search_laws.proofs.MatchTyped.{match_typed}
use Rattle.lp_search_laws.proofs.TryMatches as tries
use Rattle.lp_search_laws.proofs.TriedBranch.{tried_branch}
use Rattle.lp_search_laws.proofs.PlainTry.{new_goals_plain, new_variables_plain, eqs_plain, pairs_plain}
use Rattle.lp_search_laws.proofs.Resumed.{follows}

module _ {L : Leaves} (n : ℕ) (d : Declared) (std : IsSetting L d) (P : List Clause) (program : EachOf (IsProgramTyped d) P) (q : Query)
    (y : BranchTyping) (k : ℕ) (vs : List Ty) (h : Term) (g : Goals) (t : Term) (e : Entry) (b : Branch) (mark : ℕ)
    (w : IsTypedTry n d P q y (clause k vs h g) t e b) (E : List Ty) (Es : List (List Ty)) (is : y.eigens ≡ E ∷ Es) where
  abbrev ρ : ℕ → Ty
  ρ = renewed k b.next_type

  abbrev V : List Variable
  V = y.answer.variables

  abbrev head : Term
  head = instance_term ρ h

  abbrev values : ℕ → Term
  values = tried_values V e.level head t

  abbrev equations : List TypePair
  equations = type_pairs (head_of t) (head_of head)

  abbrev pairs : List Pair
  pairs = pairs_of values e.level [] (arguments head) (arguments t)

  abbrev here : TypedTask
  here = trying y (clause k vs h g) t e b mark

  -- where its solutions are those of the branch that solve the equations and the pairs
  pub stands : ((i : Instance) → Sol L d P q i here → SolvesWith L d P q i (tried_typing y E Es k vs h g t e b) (tried_branch_of V k vs h g t e b mark) equations pairs) →
      ((i : Instance) → SolvesWith L d P q i (tried_typing y E Es k vs h g t e b) (tried_branch_of V k vs h g t e b mark) equations pairs → Sol L d P q i here) →
      StandFor L n d P q here (try_clause unit_limit n (clause k vs h g) t e b mark)
  stands to from =
      let f = tries.entries n d std.standard P program q y k vs h g t e b w E Es is in
      let m = tries.try_matches n d std.standard P program q y k vs h g t e b w E Es is in
      transport (λ x. StandFor L n d P q here (tried unit_limit n k vs head (type_goals ρ g) t e b mark (slotted (slots_of [] (arguments head) (arguments t)) x e.level))) w.branch.answer.variables (
      follows n d std P q (tried_typing y E Es k vs h g t e b) (tried_branch_of V k vs h g t e b mark) equations pairs
      (tried_branch n d std.standard P program q y k vs h g t e b mark w E Es is (new_goals_plain n d std.standard P program q y k vs h g t e b w E Es is) (new_variables_plain n d std.standard P program q y k vs h g t e b w E Es is))
      (λ θ u. match_typed d E V e.level f.0.level (map (instance ρ) vs) head (formula_of_goals (type_goals ρ g)) t m θ u)
      (eqs_plain n d std.standard P program q y k vs h g t e b w E Es is) (pairs_plain n d std.standard P program q y k vs h g t e b w E Es is) here to from (λ y' b' x. transport (λ Fs. IsTypedFromTry n d y Fs (clause k vs h g) t e b mark y' b') (sym is) x)
      )
