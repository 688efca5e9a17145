-- Clauses without loose indices.
use Rattle.std.specs.Prelude.{List, All}
use Rattle.lp_term.specs.Nodes.{Nodes, tree}
use Rattle.lp_term.specs.Spine.{LooseBelow}
use Rattle.lp_model.specs.declared.program.ClauseFormula.{ClauseFormula}
use Rattle.lp_module.specs.declared.module.Module.{Module}

-- no formula of these clauses has a loose index
abbrev pub AreClosedIn : Nodes → List ClauseFormula → Type 0
AreClosedIn b clauses = All (λ c. LooseBelow 0 0 (tree b c.formula.0)) clauses

abbrev pub AreClosedModules : List Module → Type 0
AreClosedModules modules = All (λ m. AreClosedIn m.bank m.clauses.items) modules
