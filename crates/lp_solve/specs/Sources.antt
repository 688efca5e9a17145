-- The clauses of the program of texts, and a query on it, as plain formulas.
use Rattle.std.specs.Prelude.{List, map}
use Rattle.lp_term.specs.Nodes.{Nodes, tree, type_tree}
use Rattle.lp_model.specs.Answers.{Query}
use Rattle.lp_model.specs.Flatten.{ClauseFormula}
use Rattle.lp_model.specs.Proofs.{Declared}
use Rattle.lp_model.specs.declared.program.Typed.{Typed}
use Rattle.lp_module.specs.Program.{Copy, clauses_of}
use Rattle.lp_module.specs.declared.module.Module.{Module}
use Rattle.lp_build.specs.declared.build.Built.{Built}
use Rattle.lp_build.specs.declared.sources.Sources.{Sources}
use Rattle.lp_load.specs.Loaded.{IsBuiltFrom}
use Rattle.lp_solve.specs.Schemes.{AreDeclared}

-- a typed query
abbrev pub query_of : Nodes → Typed → Query
query_of b q = record { type_vars = q.type_vars; vars = map (λ v. type_tree b v.1.0) q.vars.items; formula = tree b q.formula.0 }

-- the modules of the texts, and their copies
abbrev pub modules_of : {sources : Sources} {built : Built} → IsBuiltFrom sources built → List Module
modules_of p = p.is.modules

abbrev pub copies_of : {sources : Sources} {built : Built} → IsBuiltFrom sources built → List Copy
copies_of p = p.is.program.program.copied

-- the source clauses: those of all copies, in order
abbrev pub source_clauses : {sources : Sources} {built : Built} → IsBuiltFrom sources built → List ClauseFormula
source_clauses p = clauses_of (modules_of p) (copies_of p)

-- the declared types of the program's constants, and of the names that queries on it see
abbrev pub HasTypes : {sources : Sources} {built : Built} → IsBuiltFrom sources built → Declared → Type 0
HasTypes {built = built} p d = AreDeclared (modules_of p) (copies_of p) built.signature d
