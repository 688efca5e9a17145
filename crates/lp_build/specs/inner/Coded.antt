-- The kinds and constants that a signature declares, and the flattened clauses of formulas in a bank.
use Rattle.std.specs.Prelude.{◌≡◌, ℕ, List, map, Option}
use Rattle.lp_calculus.specs.Typing.{Scheme}
use Rattle.lp_term.specs.Nodes.{Nodes, Extends}
use Rattle.lp_model.specs.Flat.{Clause}
use Rattle.lp_model.specs.Flattened.{clause_of}
use Rattle.lp_model.specs.Proofs.{AreFlattened}
use Rattle.lp_model.specs.Readings.{formula_of}
use Rattle.lp_model.specs.declared.clause.Clause as code_clause
use Rattle.lp_model.specs.declared.program.ClauseFormula as code_formula
use Rattle.lp_code.specs.Naming.{tables_of}
use Rattle.lp_code.specs.Symbolic.{Tables}
use Rattle.lp_code.specs.declared.object.Object.{Object}
use Rattle.lp_sig.specs.declared.signature.Signature.{Signature}
use Rattle.lp_module.specs.Sentences.{AreWithin}
use Rattle.lp_module.specs.declared.module.Module.{Module}
use Rattle.lp_build.specs.Compiled.{HasNamesOf, IsObjectOf}
use Rattle.lp_build.specs.Uncoded.{schemes_of}

-- those of the language, and those of the signature in their order
abbrev pub signature_tables : Signature → Tables
signature_tables s = tables_of (map (λ e. e.arity) s.kinds.items) (schemes_of s)

-- in each later bank these are the flattened clauses of the formulas, whatever constants are declared
abbrev pub AreFlat : (old new : Nodes) → List code_formula.ClauseFormula → List code_clause.Clause → Type 0
AreFlat old new fs cs = (d : ℕ → Option Scheme) (ds : List Clause) (later : Nodes) → AreFlattened d (map (formula_of old) fs) ds → Extends new later → map (clause_of later) cs ≡ ds

-- an object that was given the code of its module
pub record IsCoded (named : Module × Object) (o : Object) : Type 0 where
  pub names : HasNamesOf named.0 named.1 → HasNamesOf named.0 o
  pub code : AreWithin named.0.bank named.0.clauses.items → HasNamesOf named.0 o → IsObjectOf named.0 o
