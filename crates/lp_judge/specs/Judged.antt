-- What is said of a program and a query that were judged.
use Rattle.std.specs.Prelude.{◌≡◌, ℕ, List, [], ◌++◌, map, get_or, codes, Option}
use Rattle.std.specs.Fmt.{decimal}
use Rattle.lp_base.specs.Held.{Held}
use Rattle.lp_base.specs.Written.{Appends}
use Rattle.lp_base.specs.declared.status.Status.{Status}
use Rattle.lp_base.specs.declared.status.Status.TheVariants as status
use Rattle.lp_calculus.specs.Term.{Term}
use Rattle.lp_term.specs.Nodes.{Nodes, tree}
use Rattle.lp_model.specs.declared.program.Typed.{Typed}
use Rattle.lp_module.specs.declared.module.Module.{Module}
use Rattle.lp_lambda.specs.First.{formulas_of, IsVerdict}
use Rattle.lp_lambda.specs.declared.first.Verdict.{Verdict}
use Rattle.lp_lambda.specs.declared.first.Verdict.TheVariants.{Yes, Clause, Query}
use Rattle.lp_judge.specs.Asked.{AreToldTexts}

abbrev pub names_of : List Module → List (List ℕ)
names_of ms = map (λ m. m.name.items) ms

-- the line of a verdict on modules of these names
abbrev pub verdict_line : (names : List (List ℕ)) → Verdict → List ℕ
verdict_line names Yes = codes "yes\n"
verdict_line names (Clause m n) = codes "no: " ++ get_or names m [] ++ codes " clause " ++ decimal n ++ codes "\n"
verdict_line names Query = codes "no: query\n"

abbrev pub verdict_status : Verdict → Status
verdict_status Yes = status.Done
verdict_status (Clause m n) = status.No
verdict_status Query = status.No

-- the line and the status are those of the verdict on modules and a query
pub record IsVerdictLine (modules : List Module) (query : Term) (line : List ℕ) (said : Status) : Type 0 where
  pub verdict : Verdict
  pub right : IsVerdict (map formulas_of modules) query verdict
  pub says : line ≡ verdict_line (names_of modules) verdict
  pub ends : said ≡ verdict_status verdict

-- they are those of the verdict on the modules of the texts that the folder tells, and the query of this text
pub record IsJudgement (told : Option Held) (name text line : List ℕ) (said : Status) : Type 0 where
  pub modules : List Module
  pub bank : Nodes
  pub query : Typed
  pub texts : AreToldTexts told name text modules bank query
  pub verdict : IsVerdictLine modules (tree bank query.formula.0) line said

-- such a line is all that is written
abbrev pub WritesJudgement : (told : Option Held) (name text : List ℕ) (old new : Option (List ℕ)) → Status → Type 0
WritesJudgement told name text old new said = (line : List ℕ) × IsJudgement told name text line said × Appends old new line

-- so ends a run that is not refused, where memory lasts and the output does not fail: all done, or not so
pub record Judges (told : Option Held) (name text : List ℕ) (old new : Option (List ℕ)) (said : Status) : Type 0 where
  pub yes : said ≡ status.Done → WritesJudgement told name text old new said
  pub no : said ≡ status.No → WritesJudgement told name text old new said
