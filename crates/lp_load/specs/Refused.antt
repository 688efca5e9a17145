-- Why the text of a query is refused: its first fault, in the order of tokens, tree, arguments, typing, form, clauses and code.
use Rattle.std.specs.Prelude.{◌≡◌, ◌⊎◌, ℕ, List, codes, true}
use Rattle.lp_base.specs.declared.limit.Limit.TheVariants as limit
use Rattle.lp_base.specs.declared.place.Spot.{Spot}
use Rattle.lp_calculus.specs.Term.{Term}
use Rattle.lp_lexer.specs.Lexis.{HasFault, HasTokens}
use Rattle.lp_lexer.specs.declared.token.LexFault.{LexFault}
use Rattle.lp_lexer.specs.declared.token.Token.{Token}
use Rattle.lp_fixity.specs.Table.{entry_of}
use Rattle.lp_fixity.specs.declared.table.Table.{Table}
use Rattle.lp_syntax.specs.Queries.{IsQueryRefusal}
use Rattle.lp_syntax.specs.Tokens.{lexemes, spot_at}
use Rattle.lp_syntax.specs.declared.fault.SyntaxFault.{SyntaxFault}
use Rattle.lp_syntax.specs.declared.text.RawQuery.{RawQuery}
use Rattle.lp_syntax.specs.declared.text.RawTerm.{RawTerm}
use Rattle.lp_term.specs.Nodes.{Extends, Nodes, tree}
use Rattle.lp_model.specs.declared.clause.Goal.{Goal}
use Rattle.lp_model.specs.declared.program.Declared.{Declared}
use Rattle.lp_model.specs.declared.program.Typed.{Typed}
use Rattle.lp_normal.specs.Counted.{AssumesFewClauses, AssumesManyClauses}
use Rattle.lp_sig.specs.declared.signature.Signature.{Signature}
use Rattle.lp_infer.specs.Numbering.{IsTyped}
use Rattle.lp_infer.specs.Refusals.{IsRefusal}
use Rattle.lp_infer.specs.declared.fault.InferFault.{InferFault}
use Rattle.lp_module.specs.Arguments.{HasManyArguments}
use Rattle.lp_module.specs.Refusals.{IsFormFault}
use Rattle.lp_module.specs.Schemes.{declared_schemes}
use Rattle.lp_module.specs.declared.fault.ModuleFault.{ModuleFault}
use Rattle.lp_gen.specs.Limits.{QueryPasses}
use Rattle.lp_gen.specs.declared.fault.GenRefusal.{GenRefusal}
use Rattle.lp_gen.specs.declared.fault.GenRefusal.TheVariants as code
use Rattle.lp_build.specs.declared.build.Built.{Built}
use Rattle.lp_lines.specs.Causes.{TellsModule, TellsSyntax, TellsTyping}
use Rattle.lp_lines.specs.Placed.{SaysOf}
use Rattle.lp_lines.specs.declared.cause.Cause.{Cause}
use Rattle.lp_lines.specs.declared.cause.Cause.TheVariants as cause
use Rattle.lp_lines.specs.declared.refusal.Refusal.{Refusal}
use Rattle.lp_load.specs.Asked.{AreGoalsOf, IsAsked, IsRead}

-- it has no tokens, or these are no query tree
pub data IsUnread (operators : Table) (text : List ℕ) : Cause → Type 0 where
  of_tokens : (e : LexFault) → HasFault text e → IsUnread operators text (cause.Tokens e)
  of_tree : (tokens : List Token) (f : SyntaxFault) (c : Cause) → HasTokens text tokens → IsQueryRefusal (spot_at 0 text tokens) (entry_of operators) (lexemes text tokens) f → TellsSyntax f c → IsUnread operators text c

-- too many arguments as written, or want of memory
abbrev pub IsOverArguments : RawTerm → Cause → Type 0
IsOverArguments raw c = (c ≡ cause.Memory) ⊎ ((c ≡ cause.Limit limit.Arguments) × HasManyArguments raw)

-- a typed query has not the form of a goal
abbrev pub IsUnformed : Signature → Nodes → Typed → (first : Spot) → Cause → Type 0
IsUnformed names b q first c = (f : ModuleFault) × IsFormFault (declared_schemes names) true q.type_vars (tree b q.formula.0) first f × TellsModule f c

-- more clauses are assumed in what a query is flattened to than the limit allows, or memory is wanting
abbrev pub IsOverClauses : Term → Cause → Type 0
IsOverClauses t c = (c ≡ cause.Memory) ⊎ ((c ≡ cause.Limit limit.Clauses) × AssumesManyClauses t)

-- what is said of a limit of code
abbrev pub TellsCode : GenRefusal → Cause → Type 0
TellsCode (code.Limit l) c = c ≡ cause.Limit l
TellsCode code.Memory c = c ≡ cause.Memory

-- their code passes a limit of code, or memory is wanting
abbrev pub IsOverCode : Nodes → List Declared → Typed → List Goal → Cause → Type 0
IsOverCode b constants q goals c = (r : GenRefusal) × QueryPasses b constants q goals r × TellsCode r c

-- each stage has its fault where those before it have none
pub data IsRefusedFor (built : Built) (text : List ℕ) : Cause → Type 0 where
  unread : (c : Cause) → IsUnread built.table text c → IsRefusedFor built text c
  of_arguments : (raw : RawQuery) → IsRead built.table text raw → HasManyArguments raw.term → IsRefusedFor built text (cause.Limit limit.Arguments)
  of_typing : (raw : RawQuery) (f : InferFault) (c : Cause) → IsRead built.table text raw → (HasManyArguments raw.term → ⊥) → IsRefusal built.signature text raw.term f → TellsTyping f c → IsRefusedFor built text c
  of_form : (raw : RawQuery) (b : Nodes) (q : Typed) (f : ModuleFault) (c : Cause) → IsRead built.table text raw → (HasManyArguments raw.term → ⊥) → IsTyped built.signature text raw.term b q →
      IsFormFault (declared_schemes built.signature) true q.type_vars (tree b q.formula.0) raw.term.first f → TellsModule f c → IsRefusedFor built text c
  of_clauses : (b : Nodes) (q : Typed) → IsAsked built.table built.signature text b q → AssumesManyClauses (tree b q.formula.0) → IsRefusedFor built text (cause.Limit limit.Clauses)
  of_code : (b : Nodes) (q : Typed) (goals : List Goal) (r : GenRefusal) (c : Cause) → Extends built.assembled.program.bank b → IsAsked built.table built.signature text b q → AssumesFewClauses (tree b q.formula.0) →
      AreGoalsOf b q goals → QueryPasses b built.assembled.program.constants.items q goals r → TellsCode r c → IsRefusedFor built text c
  no_memory : IsRefusedFor built text cause.Memory

-- the refusal of a query says its cause
abbrev pub IsRefusedQuery : Built → (text : List ℕ) → Refusal → Type 0
IsRefusedQuery built text r = (c : Cause) × IsRefusedFor built text c × SaysOf (codes "query") text c r
