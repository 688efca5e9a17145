-- Failing searches as leaves of proofs, whatever stands in the place of the variables of the search.
use Rattle.std.specs.Prelude.{◌≡◌, ℕ, Bool, List, [], ◌∷◌, ◌++◌, map, length, Some}
use Rattle.lp_calculus.specs.Types.{Ty, instance}
use Rattle.lp_calculus.specs.Term.{Term}
use Rattle.lp_calculus.specs.Convert.{Converts}
use Rattle.lp_calculus.specs.Typing.{o_type}
use Rattle.lp_lemmas.specs.Each.{EachOf}
use Rattle.lp_model.specs.declared.ending.Ending.TheVariants.{NoMore}
use Rattle.lp_model.specs.Index.{instantiate}
use Rattle.lp_model.specs.Flat.{Goals, no_goals, Clause, Clauses, goal_list, clause_list, formula_of_goals, formula_of_clauses}
use Rattle.lp_model.specs.Flatten.{ClauseFormula, flat_goal, flat_clause, flatten}
use Rattle.lp_model.specs.Pair.{Closing, closed}
use Rattle.lp_model.specs.Branch.{Branch, Answer, Go, entries}
use Rattle.lp_model.specs.Answers.{Closes}
use Rattle.lp_model.specs.Skeleton.{Told, starts_within, run}
use Rattle.lp_model.specs.Search.{look}
use Rattle.lp_model.specs.Unify.{unit_limit}
use Rattle.lp_model.specs.Proofs.{AreFlattened, Declared, IsFormula, IsSentence, Failure, Stands, assumed, newest_first}
use Rattle.lp_proof_laws.specs.Assumed.{assumed_at}
use Rattle.lp_proof_laws.specs.Open.{IsOpen, Fits}
use Rattle.lp_search_laws.specs.Clauses.{sentence_of, clauses_at}
use Rattle.lp_search_laws.specs.Branches.{BranchTyping, IsTypedBranch, no_query}

-- the same goal at the eigenconstants E, but for conversion and for flattening, with closed terms for the variables
pub data SameGoal (d : Declared) (E : List Ty) : (G H : Term) → Type 0 where
  goal_converts : {G H : Term} → IsFormula d E G → IsFormula d E H → Converts G H → SameGoal d E G H
  goal_flat : {G H : Term} (n : ℕ) (binders : List Bool) (t : Term) (gs : Goals) (Γ : List Ty) (θ : ℕ → Term) → IsOpen d Γ t o_type → Fits d E Γ θ → flat_goal n d binders t no_goals ≡ Some gs → G ≡ instantiate θ t → H ≡ instantiate θ (formula_of_goals gs) → SameGoal d E G H
  goal_back : {G H : Term} → SameGoal d E G H → SameGoal d E H G
  goal_then : {G K : Term} (H : Term) → SameGoal d E G H → SameGoal d E H K → SameGoal d E G K

-- whether clauses stand in their order, behind the sentences of the program, or in any
pub data Order : Type 0 where
  InOrder : (sentences : List ClauseFormula) → Order
  InAny : Order

-- the same clauses, but for conversion and flattening, and for assumptions that are made together or each on its own, the first one last, as it is tried first; the
-- sentences of the program may stand for its clauses P. In any order they may also change places and stand there more than once, and any sentence may stand for its clauses
pub data SameClauses (o : Order) (d : Declared) (P : List Clause) (E : List Ty) : (Q R : List ClauseFormula) → Type 0 where
  unchanged : {Q R : List ClauseFormula} → Q ≡ R → SameClauses o d P E Q R
  in_some_order : {Q R : List ClauseFormula} → o ≡ InAny → Stands Q R → Stands R Q → SameClauses o d P E Q R
  converted : {Q R : List ClauseFormula} (before behind : List ClauseFormula) (A B : Term) → IsFormula d E A → IsFormula d E B → Q ≡ before ++ assumed A ∷ behind → R ≡ before ++ assumed B ∷ behind → Converts A B → SameClauses o d P E Q R
  each_apart : {Q R : List ClauseFormula} (before behind : List ClauseFormula) (c : Closing) (cs : Clauses) → IsFormula d E (closed c (formula_of_clauses cs)) →
      Q ≡ before ++ assumed (closed c (formula_of_clauses cs)) ∷ behind → R ≡ before ++ (assumed_at c (clause_list cs) ++ behind) → SameClauses o d P E Q R
  clause_flat : {Q R : List ClauseFormula} (before behind : List ClauseFormula) (n : ℕ) (binders : List Bool) (t : Term) (cs : Clauses) (Γ : List Ty) (θ : ℕ → Term) → IsOpen d Γ t o_type → Fits d E Γ θ → flat_clause n d binders t [] [] ≡ Some cs →
      Q ≡ before ++ assumed (instantiate θ t) ∷ behind → R ≡ before ++ assumed (instantiate θ (formula_of_clauses cs)) ∷ behind → SameClauses o d P E Q R
  program_flat : {Q R : List ClauseFormula} (F behind : List ClauseFormula) → o ≡ InOrder F → EachOf (IsSentence d) F → AreFlattened d F P → Q ≡ F ++ behind → R ≡ map sentence_of P ++ behind → SameClauses o d P E Q R
  sentence_flat : {Q R : List ClauseFormula} (before behind : List ClauseFormula) (n : ℕ) (D : ClauseFormula) (cs : Clauses) → o ≡ InAny → IsSentence d D → flatten n d D ≡ Some cs → Q ≡ before ++ D ∷ behind → R ≡ before ++ (map sentence_of (clause_list cs) ++ behind) → SameClauses o d P E Q R
  other_way : {Q R : List ClauseFormula} → SameClauses o d P E Q R → SameClauses o d P E R Q
  one_by_one : {Q R : List ClauseFormula} (S : List ClauseFormula) → SameClauses o d P E Q S → SameClauses o d P E S R → SameClauses o d P E Q R

-- the branch that the search begins with, at a level
abbrev pub failing_branch : (level : ℕ) → Failure → Branch
failing_branch level f = record {
  next = length f.variables;
  next_type = f.next_type;
  goals = entries (goal_list f.goals) (newest_first f.assumed) f.written level 0;
  types = [];
  values = [];
  pairs = [];
}

-- its variables, and for each goal the types of its eigenconstants
abbrev pub failing_typing : (E : List Ty) → Failure → BranchTyping
failing_typing E f = record { answer = record { variables = f.variables; pairs = [] }; eigens = map (λ g. E) (goal_list f.goals) }

-- the plain search of it within the limit on steps and on goals that are taken apart in a row
abbrev pub failed_run : (level : ℕ) → Failure → Told Answer
failed_run level f = run (look unit_limit f.looks f.program) f.moves f.moves (starts_within f.limit (Go (failing_branch level f)) f.limit 1)

-- a search of the program P that fails, and that begins with a typed branch: a closing of its variables makes its goals G, and the program with what is assumed there
-- the clauses R
pub record IsFailedSearch (o : Order) (d : Declared) (P : List Clause) (E : List Ty) (R : List ClauseFormula) (G : Term) (f : Failure) : Type 0 where
  pub eigens : List Ty
  pub begins : IsTypedBranch f.looks d no_query (failing_typing eigens f) (failing_branch (length eigens) f)
  pub closing : Closing
  pub closes : Closes d f.variables closing
  pub is_closed : map (instance closing.types) eigens ≡ E
  pub goal : SameGoal d E (closed closing (formula_of_goals f.goals)) G
  pub clauses : SameClauses o d P E (clauses_at P (newest_first f.assumed) closing) R
  pub program : f.program ≡ P
  pub ends : (failed_run (length eigens) f).ending ≡ Some NoMore
  pub gives_none : (failed_run (length eigens) f).answers ≡ []
