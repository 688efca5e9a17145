-- What it is for a name not to be declared.
use Rattle.std.specs.Prelude.{◌≡◌, ℕ, List, [], ◌∷◌, ◌++◌, map, Option, Some, None, false}
use Rattle.lp_base.specs.declared.place.Spot.{Spot}
use Rattle.lp_syntax.specs.declared.text.RawType.{RawType}
use Rattle.lp_syntax.specs.declared.text.RawTypeNode.{RawTypeNode}
use Rattle.lp_syntax.specs.declared.text.RawTypeNode.TheVariants.{Word, Arrow}
use Rattle.lp_sig.specs.declared.signature.Signature.{Signature}
use Rattle.lp_sig.specs.Pieces.{begins_variable}
use Rattle.lp_sig.specs.Rows.{found, kind_row, number_row, abbreviation_row}
use Rattle.lp_sig.specs.Standard.{standard_kinds, standard_constants}

-- the words of a type
abbrev pub words_of : List RawTypeNode → List Spot
words_of [] = []
words_of (Word s args ∷ ns) = s ∷ words_of ns
words_of (Arrow a b ∷ ns) = words_of ns

-- the words of an annotation
abbrev pub note_words : Option RawType → List Spot
note_words None = []
note_words (Some note) = words_of note.nodes.items

-- no variable, and no constant of the signature
pub record IsNoConstant (sig : Signature) (word : List ℕ) : Type 0 where
  pub constant : begins_variable word ≡ false
  pub undeclared : found word (standard_constants ++ map number_row sig.constants.items) ≡ None

-- no variable, no kind and no abbreviation of the signature
pub record IsNoKind (sig : Signature) (word : List ℕ) : Type 0 where
  pub constant : begins_variable word ≡ false
  pub undeclared : found word (standard_kinds ++ map kind_row sig.kinds.items) ≡ None
  pub unabbreviated : found word (map abbreviation_row sig.abbreviations.items) ≡ None
