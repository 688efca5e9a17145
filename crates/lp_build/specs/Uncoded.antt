-- Why a module has no code: what one of its formulas is flattened to passes the limit on clauses, or the flattened clauses of all pass a limit of code.
use Rattle.std.specs.Prelude.{◌≡◌, ℕ, List, map, take, All, Contains, Option}
use Rattle.lp_base.specs.declared.limit.Limit.TheVariants as limit
use Rattle.lp_calculus.specs.Typing.{Scheme}
use Rattle.lp_term.specs.Nodes.{Nodes, Extends}
use Rattle.lp_model.specs.Flat.{Clause}
use Rattle.lp_model.specs.Flattened.{clause_of}
use Rattle.lp_model.specs.Proofs.{AreFlattened}
use Rattle.lp_model.specs.Readings.{formula_of, scheme_of}
use Rattle.lp_model.specs.declared.clause.Clause as code_clause
use Rattle.lp_model.specs.declared.program.ClauseFormula as code_formula
use Rattle.lp_model.specs.declared.program.Declared.{Declared}
use Rattle.lp_normal.specs.Counted.{HasFewClauses, HasManyClauses}
use Rattle.lp_code.specs.Naming.{scheme_in}
use Rattle.lp_gen.specs.Limits.{ClausesPass, ClausesWithin}
use Rattle.lp_gen.specs.declared.fault.GenRefusal.{GenRefusal}
use Rattle.lp_gen.specs.declared.fault.GenRefusal.TheVariants as code
use Rattle.lp_sig.specs.Refusals.{IsAt}
use Rattle.lp_sig.specs.declared.signature.Signature.{Signature}
use Rattle.lp_module.specs.Program.{clauses_in}
use Rattle.lp_module.specs.declared.module.Module.{Module}
use Rattle.lp_build.specs.declared.fault.BuildFault.{BuildFault}
use Rattle.lp_build.specs.declared.fault.BuildFault.TheVariants as fault

-- how a refusal of code is told
abbrev pub of_code : GenRefusal → BuildFault
of_code (code.Limit l) = fault.Limit l
of_code code.Memory = fault.Memory

-- the types of a signature's constants, in their order
abbrev pub schemes_of : Signature → List Scheme
schemes_of s = map (λ e. scheme_in s.bank e.type_vars e.scheme.0) s.constants.items

-- these are the flattened clauses of a module, in a bank behind its own in which these constants have the types of the module's
pub record AreFlatIn (m : Module) (b : Nodes) (constants : List Declared) (flat : List code_clause.Clause) : Type 0 where
  pub bank : Extends m.bank b
  pub types : map (scheme_of b) constants ≡ schemes_of m.signature
  pub clauses : (d : ℕ → Option Scheme) (own : List Clause) → AreFlattened d (clauses_in m) own → map (clause_of b) flat ≡ own

-- what one of these formulas is flattened to passes the limit on clauses
abbrev pub HasManyIn : Nodes → List code_formula.ClauseFormula → Type 0
HasManyIn b fs = (f : code_formula.ClauseFormula) × Contains fs f × HasManyClauses (formula_of b f)

-- no one's does
abbrev pub HaveFewIn : Nodes → List code_formula.ClauseFormula → Type 0
HaveFewIn b fs = All (λ f. HasFewClauses (formula_of b f)) fs

pub data IsUncoded (m : Module) (e : BuildFault) : Type 0 where
  of_formula : HasManyIn m.bank m.clauses.items → e ≡ fault.Limit limit.Clauses → IsUncoded m e
  of_limits : HaveFewIn m.bank m.clauses.items → (b : Nodes) (constants : List Declared) (flat : List code_clause.Clause) (r : GenRefusal) → AreFlatIn m b constants flat → ClausesPass b constants flat r → e ≡ of_code r → IsUncoded m e
  no_space : e ≡ fault.Memory → IsUncoded m e

-- a module has code: no limit is passed
pub record IsWithinCode (m : Module) : Type 0 where
  pub few : HaveFewIn m.bank m.clauses.items
  pub bank : Nodes
  pub constants : List Declared
  pub flat : List code_clause.Clause
  pub are : AreFlatIn m bank constants flat
  pub within : ClausesWithin bank constants flat

-- the first of these modules that has none
pub record IsFirstUncoded (modules : List Module) (e : BuildFault) : Type 0 where
  pub place : ℕ
  pub «module» : Module
  pub at : IsAt modules place «module»
  pub before : All IsWithinCode (take place modules)
  pub refused : IsUncoded «module» e
