-- The sentences of a module that are clauses.
use Rattle.std.specs.Prelude.{◌<◌, List, [], ◌∷◌, length, All}
use Rattle.lp_syntax.specs.declared.text.RawTerm.{RawTerm}
use Rattle.lp_syntax.specs.declared.text.Sentence.{Sentence}
use Rattle.lp_syntax.specs.declared.text.Sentence.TheVariants.{Declares, Says}
use Rattle.lp_term.specs.Nodes.{Nodes}
use Rattle.lp_model.specs.declared.program.ClauseFormula.{ClauseFormula}

-- what the sentences say that are no declarations, in text order
abbrev pub said : List Sentence → List RawTerm
said [] = []
said (Declares d ∷ ls) = said ls
said (Says raw ∷ ls) = raw ∷ said ls

-- the formulas stand in the bank
abbrev pub AreWithin : Nodes → List ClauseFormula → Type 0
AreWithin b clauses = All (λ c. c.formula.0 < length b.terms) clauses
