-- A query as its text says it.
use Rattle.std.specs.Prelude.{◌≡◌, ◌≤◌, ℕ, List, Option, Some, true}
use Rattle.lp_base.specs.declared.limits.TheConstants.{MAX_ARGUMENTS}
use Rattle.lp_lexer.specs.declared.token.Token.{Token}
use Rattle.lp_lexer.specs.Lexis.{HasTokens}
use Rattle.lp_fixity.specs.declared.table.Table.{Table}
use Rattle.lp_fixity.specs.Table.{entry_of}
use Rattle.lp_syntax.specs.declared.text.RawQuery.{RawQuery}
use Rattle.lp_syntax.specs.Tokens.{lexemes, spot_at}
use Rattle.lp_syntax.specs.Queries.{IsQueryText}
use Rattle.lp_calculus.specs.Typing.{Scheme}
use Rattle.lp_term.specs.Nodes.{Nodes, tree}
use Rattle.lp_model.specs.Flat.{Goals}
use Rattle.lp_model.specs.Flatten.{flatten_query}
use Rattle.lp_model.specs.Flattened.{goals_of}
use Rattle.lp_model.specs.declared.clause.Goal.{Goal}
use Rattle.lp_model.specs.declared.program.Declared.{Declared}
use Rattle.lp_model.specs.declared.program.Typed.{Typed}
use Rattle.lp_normal.specs.Counted.{AssumesFewClauses}
use Rattle.lp_gen.specs.Limits.{QueryWithin}
use Rattle.lp_sig.specs.declared.signature.Signature.{Signature}
use Rattle.lp_infer.specs.Numbering.{IsTyped}
use Rattle.lp_infer.specs.Refusals.{Stands}
use Rattle.lp_module.specs.Arguments.{HasManyArguments}
use Rattle.lp_module.specs.Clauses.{IsFormed}
use Rattle.lp_module.specs.Refusals.{IsShort}
use Rattle.lp_module.specs.Schemes.{declared_schemes}

-- the text has tokens, and these are one query tree under the operators
pub record IsRead (operators : Table) (text : List ℕ) (raw : RawQuery) : Type 0 where
  pub tokens : List Token
  pub lexed : HasTokens text tokens
  pub tree : IsQueryText (spot_at 0 text tokens) (entry_of operators) (lexemes text tokens) raw

-- the query is the principal typing of what is read in the text, in this bank, within the limits on arguments and on the nodes of its normal form, and has
-- the form of a goal: a constant heads an assumed clause only where its declared type ends in `o`
pub record IsAsked (operators : Table) (names : Signature) (text : List ℕ) (b : Nodes) (query : Typed) : Type 0 where
  pub raw : RawQuery
  pub read : IsRead operators text raw
  pub few : HasManyArguments raw.term → ⊥
  pub stands : Stands b query
  pub typed : IsTyped names text raw.term b query
  pub short : IsShort (tree b query.formula.0)
  pub variables : query.type_vars ≤ MAX_ARGUMENTS
  pub formed : IsFormed (declared_schemes names) true query.type_vars (tree b query.formula.0)

-- these are the flattened goals of a query in this bank, whatever the depth and the declared types by which it is flattened
abbrev pub AreGoalsOf : Nodes → Typed → List Goal → Type 0
AreGoalsOf b query goals = (n : ℕ) (d : ℕ → Option Scheme) (flat : Goals) → flatten_query n d (tree b query.formula.0) ≡ Some flat → goals_of b goals ≡ flat

-- the query has code: what it is flattened to assumes few enough clauses, and is within the limits of code, where these constants are declared
pub record HasCode (b : Nodes) (constants : List Declared) (query : Typed) : Type 0 where
  pub few : AssumesFewClauses (tree b query.formula.0)
  pub goals : List Goal
  pub are : AreGoalsOf b query goals
  pub within : QueryWithin b constants query goals
