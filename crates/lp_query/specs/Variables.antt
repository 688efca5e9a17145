-- The variables of a query.
use Rattle.std.specs.Prelude.{◌≡◌, ℕ, List, map}
use Rattle.lp_base.specs.declared.place.Spot.{Spot}
use Rattle.lp_lexer.specs.declared.token.Token.{Token}
use Rattle.lp_lexer.specs.Lexis.{HasTokens}
use Rattle.lp_fixity.specs.declared.table.Table.{Table}
use Rattle.lp_fixity.specs.Table.{entry_of}
use Rattle.lp_syntax.specs.declared.text.RawQuery.{RawQuery}
use Rattle.lp_syntax.specs.Tokens.{lexemes, spot_at}
use Rattle.lp_syntax.specs.Queries.{IsQueryText}
use Rattle.lp_sig.specs.declared.signature.Signature.{Signature}
use Rattle.lp_sig.specs.Pieces.{spelled}
use Rattle.lp_infer.specs.Typing.{Typing}
use Rattle.lp_infer.specs.Texts.{IsPrincipalTyping}

-- what queries are read with: the declared names, and the operators
pub record Reader : Type 0 where
  pub signature : Signature
  pub table : Table

-- the names of the variables of a query, in the order of their first places, where the text is a query and has a typing
pub record AreVariables (r : Reader) (text : List ℕ) (names : List (List ℕ)) : Type 0 where
  pub tokens : List Token
  pub lexed : HasTokens text tokens
  pub raw : RawQuery
  pub read : IsQueryText (spot_at 0 text tokens) (entry_of r.table) (lexemes text tokens) raw
  pub places : List Spot
  pub typing : Typing
  pub typed : IsPrincipalTyping r.signature text raw.term places typing
  pub are : names ≡ map (spelled text) places
