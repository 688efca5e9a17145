-- What is written of a query on pattern text: lines of values, without an equation, and a last line.
use Rattle.std.specs.Prelude.{◌≡◌, ◌⊎◌, ◌++◌, ℕ, suc, List, [], ◌∷◌, map, Option}
use Rattle.lp_base.specs.Held.{Held}
use Rattle.lp_calculus.specs.Term.{Term}
use Rattle.lp_term.specs.Nodes.{tree}
use Rattle.lp_model.specs.Shown.{Entry, shown_answer}
use Rattle.lp_model.specs.declared.ending.Ending.{Ending}
use Rattle.lp_lines.specs.Lines.{ending_line, memory_line}
use Rattle.lp_lambda.specs.First.{formulas_of, IsVerdict}
use Rattle.lp_lambda.specs.declared.first.Verdict.TheVariants.{Yes}
use Rattle.lp_solve.specs.Queries.{IsQuery}
use Rattle.lp_solve.specs.Sources.{modules_of}

-- the clauses of its modules, and the query, are pattern text, as `lambda` judges them
abbrev pub IsPatternText : {told : Option Held} {name text : List ℕ} → IsQuery told name text → Type 0
IsPatternText q = IsVerdict (map formulas_of (modules_of q.loaded.program)) (tree q.bank q.typed.formula.0) Yes

-- answers that say values alone, numbered from here on
abbrev pub value_lines : List Entry → List (List ℕ) → (number : ℕ) → List (List Term) → List ℕ
value_lines es ns k [] = []
value_lines es ns k (ts ∷ tss) = shown_answer es k ns ts [] ++ value_lines es ns (suc k) tss

-- lines of values, and the last line: that of an ending, with reports of watchers behind it, or that of want of memory
pub record PrintsValues (es : List Entry) (ns : List (List ℕ)) (text : List ℕ) : Type 0 where
  pub values : List (List Term)
  pub last : List ℕ
  pub wrote : text ≡ value_lines es ns 1 values ++ last
  pub ends : ((e : Ending) × (reports : List ℕ) × (last ≡ ending_line e ++ reports)) ⊎ (last ≡ memory_line)
