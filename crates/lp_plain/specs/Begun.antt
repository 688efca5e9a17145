-- What a search is begun with: a program and a query over its declared types.
use Rattle.std.specs.Prelude.{◌≡◌, ℕ, ◌<◌, List, map, length, Some}
use Rattle.lp_calculus.specs.Closed.{AllAtoms}
use Rattle.lp_lemmas.specs.Each.{EachOf}
use Rattle.lp_term.specs.Nodes.{Nodes, tree, type_tree}
use Rattle.lp_model.specs.Answers.{Query}
use Rattle.lp_model.specs.Flat.{Clause, Goals}
use Rattle.lp_model.specs.Flatten.{ClauseFormula, flatten_query}
use Rattle.lp_model.specs.Proofs.{AreFlattened, Declared}
use Rattle.lp_model.specs.Readings.{formula_of}
use Rattle.lp_model.specs.declared.program.Program.{Program}
use Rattle.lp_model.specs.declared.program.Typed.{Typed}
use Rattle.lp_standard.specs.Schemes.{IsStandard}
use Rattle.lp_search_laws.specs.Started.{IsTypedQuery, IsTypedSentence}
use Rattle.lp_plain.specs.ProgramClauses.{IsNamedAtom}
use Rattle.lp_plain.specs.Starts.{AreFormulasIn}

-- the program's clauses as formulas
abbrev pub formulas_of : Program → List ClauseFormula
formulas_of p = map (formula_of p.bank) p.clauses.items

-- a typed query of the bank
abbrev pub query_in : Nodes → Typed → Query
query_in b q = record { type_vars = q.type_vars; vars = map (λ v. type_tree b v.1.0) q.vars.items; formula = tree b q.formula.0 }

-- over these declared types, among them the standard ones: the program's clauses are typed sentences, which flatten to P; the query is typed, and flattens to gs; no parameter of a proof stands in them
pub record Begins (d : Declared) (p : Program) (q : Typed) (P : List Clause) (gs : Goals) : Type 0 where
  pub standard : IsStandard d
  pub clauses_within : AreFormulasIn p.bank p.clauses.items
  pub clauses_typed : EachOf (IsTypedSentence d) (formulas_of p)
  pub clauses_named : EachOf (λ D. AllAtoms IsNamedAtom D.formula) (formulas_of p)
  pub clauses_flattened : AreFlattened d (formulas_of p) P
  pub query_within : q.formula.0 < length p.bank.terms
  pub query_typed : IsTypedQuery d (query_in p.bank q)
  pub query_named : AllAtoms IsNamedAtom (tree p.bank q.formula.0)
  pub depth : ℕ
  pub query_flattened : flatten_query depth d (tree p.bank q.formula.0) ≡ Some gs
