-- Tasks of the search that are pattern text, and what a unification leaves of them.
use Rattle.std.proofs.Common.{◌≡◌, ℕ, List, [], length, Option, Some, None, ◌∙◌, refl, sym, subst as transport}
use Rattle.lp_calculus.specs.Types.{Ty}
use Rattle.lp_calculus.specs.Term.{Term}
use Rattle.lp_lemmas.specs.Each.{EachOf}
use Rattle.lp_model.specs.Types.{TypePair}
use Rattle.lp_model.specs.Pair.{Pair}
use Rattle.lp_model.specs.Unify.{Unified, Fail, Solution, Spent, solve, unit_limit}
use Rattle.lp_model.specs.Flat.{Clause}
use Rattle.lp_model.specs.Branch.{Entry, Branch, Answer, Task, Go, Try, Stop, Lack}
use Rattle.lp_model.specs.Search.{follow}
use Rattle.lp_model.specs.Answers.{Variable}
use Rattle.lp_model.specs.Proofs.{Declared}
use Rattle.lp_unify_laws.specs.TypeSolutions.{Unifies}
use Rattle.lp_unify_laws.specs.Solutions.{at_types, instance_variable, HaveTypings}
use Rattle.lp_unify_laws.proofs.TypedInstances.{length_map}
use Rattle.lp_search_laws.specs.Behind.{types_of, variables_of}
use Rattle.lp_search_laws.proofs.RunsKeep.{types_satisfy_themselves}
use Rattle.lp_pattern_laws.specs.Patterns.{ArePatternPairs}
use Rattle.lp_pattern_laws.specs.Goals.{IsPatternClause}
use Rattle.lp_pattern_laws.specs.Tasks.{IsPatternBranch}
use Rattle.lp_pattern_laws.proofs.ClosedPatterns.{IsPatternAt}
use Rattle.lp_pattern_laws.proofs.Resumed.{resumed_kept}
use Rattle.lp_pattern_laws.proofs.Turned.{solve_well}

pub record IsPatternTry (c : Clause) (t : Term) (e : Entry) (b : Branch) : Type 0 where
  pub branch : IsPatternBranch b
  pub goal : IsPatternAt e.level t
  pub clause : IsPatternClause e.level [] c
  pub assumed : EachOf (IsPatternClause e.level []) e.assumed

abbrev pub IsPatternTask : Task → Type 0
IsPatternTask (Go b) = IsPatternBranch b
IsPatternTask (Try c t e b mark) = IsPatternTry c t e b
IsPatternTask (Stop x) = Unit {0}
IsPatternTask Lack = Unit {0}

abbrev pub HasNoPair : Answer → Type 0
HasNoPair a = a.pairs ≡ []

-- typed pairs of pattern terms are unified
pub followed : (n : ℕ) (d : Declared) (V : List Variable) (b : Branch) (eqs : List TypePair) (ps : List Pair) (next : ℕ) → length V ≡ next →
    ((θ : ℕ → Ty) → Unifies θ eqs → HaveTypings d (variables_of θ V) (at_types θ ps)) → ArePatternPairs ps → IsPatternBranch b →
    EachOf IsPatternTask (follow b (solve n unit_limit eqs ps b.pairs next))
followed n d V b eqs ps next long typed patterns h = go (solve n unit_limit eqs ps b.pairs next) refl
  where
    go : (o : Option Unified) → solve n unit_limit eqs ps b.pairs next ≡ o → EachOf IsPatternTask (follow b o)
    go None e = (tt, tt)
    go (Some Spent) e = (tt, tt)
    go (Some Fail) e = tt
    go (Some (Solution s)) e =
        let θ = types_of s.types in
        let ty = types_satisfy_themselves n unit_limit eqs ps b.pairs next s e in
        let count : next ≡ length (variables_of θ V) = sym long ∙ sym (length_map (instance_variable θ) V) in
        let solved : solve n unit_limit eqs ps [] (length (variables_of θ V)) ≡ Some (Solution s) = transport
        (λ m. solve n unit_limit eqs ps [] m ≡ Some (Solution s)) count (transport (λ ds. solve n unit_limit eqs ps ds next ≡ Some (Solution s))
        h.pairs e) in
        let r = solve_well θ d (variables_of θ V) n unit_limit eqs ps s (λ u. (typed θ u, ([], tt))) patterns solved ty.0 in
        (resumed_kept b s h.entries r.0 r.1, tt)
