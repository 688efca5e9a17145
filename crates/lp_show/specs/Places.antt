-- What parentheses do to a term where it stands.
use Rattle.std.specs.Prelude.{ℕ, List}
use Rattle.lp_show.specs.declared.place.Place.{Place}
use Rattle.lp_show.specs.declared.place.Place.TheVariants.{Alone, Argument, Side, Left, Right}
use Rattle.lp_show.specs.declared.place.Top.{Top}
use Rattle.lp_show.specs.declared.place.Top.TheVariants as top
use Rattle.lp_model.specs.Shown.{Shape, Name, Applied, Abstracted, Operated, Piece, as_argument, as_side, as_left, as_right}

-- the text of a term, where it stands
abbrev pub standing : Place → Shape → List ℕ → List ℕ
standing Alone f s = s
standing Argument f s = as_argument f s
standing Side f s = as_side f s
standing (Left g n) f s = as_left g n f s
standing (Right g n) f s = as_right g n f s

abbrev pub placed : Place → Piece → List ℕ
placed place p = standing place p.shape p.text

abbrev pub shape_of : Top → Shape
shape_of top.Name = Name
shape_of top.Applied = Applied
shape_of top.Abstracted = Abstracted
shape_of (top.Operated f n) = Operated f n
