-- What a search tells next, as text.
use Rattle.std.specs.Prelude.{ℕ, List}
use Rattle.lp_model.specs.Shown.{Entry}
use Rattle.lp_answers.specs.declared.writing.Piece.{Piece}
use Rattle.lp_answers.specs.declared.writing.Piece.TheVariants.{Answer, Over}
use Rattle.lp_answers.specs.Texts.{IsAnswer}

abbrev pub IsPiece : List Entry → List (List ℕ) → ℕ → Piece → Type 0
IsPiece es ns k (Answer lines) = IsAnswer es ns k lines.items
IsPiece es ns k (Over e) = Unit {0}
