-- A worked signature: `typeabbrev (pair A B) A -> list B.` and the type `pair int (list A)`.
use Rattle.std.specs.Global.{Global}
use Rattle.std.specs.Prelude.{◌≡◌, ℕ, List, [], ◌∷◌, Some, Vec, codes}
use Rattle.lp_base.specs.declared.place.Spot.{Spot}
use Rattle.lp_calculus.specs.Types.{var, con, arrow, tys}
use Rattle.lp_syntax.specs.declared.text.Declaration.TheVariants as declaration
use Rattle.lp_syntax.specs.declared.text.RawType.{RawType}
use Rattle.lp_syntax.specs.declared.text.RawTypeNode.TheVariants.{Word, Arrow}
use Rattle.lp_sig.specs.Types.{IsTypeOf, HasBody}
use Rattle.lp_sig.specs.Abbreviations.{Seen, nothing_seen, seen_text, abbreviation_names}

abbrev pub text : List ℕ
text = codes "pair A B list int"

abbrev pub spot : ℕ → ℕ → Spot
spot from to = record { file = 0; from = from; to = to; at = record { line = 1; column = 1 } }

abbrev pub pair : Spot
pair = spot 0 4

abbrev pub A : Spot
A = spot 5 6

abbrev pub B : Spot
B = spot 7 8

abbrev pub list_word : Spot
list_word = spot 9 13

abbrev pub int_word : Spot
int_word = spot 14 17

-- the parts of the sentence and of the type, as the reader gives them: `A`, `B`, `list B`, `A -> list B`; and `int`, `A`, `list A`,
-- `pair int (list A)`
pub record AreParts (parameters : Vec Spot Global) (body used : RawType) (none second both : Vec ℕ Global) : Type 0 where
  pub parameters_are : parameters.items ≡ A ∷ B ∷ []
  pub none_is : none.items ≡ []
  pub second_is : second.items ≡ 1 ∷ []
  pub both_are : both.items ≡ 0 ∷ 2 ∷ []
  pub body_nodes : body.nodes.items ≡ Word A none ∷ Word B none ∷ Word list_word second ∷ Arrow 0 2 ∷ []
  pub body_root : body.root ≡ 3
  pub used_nodes : used.nodes.items ≡ Word int_word none ∷ Word A none ∷ Word list_word second ∷ Word pair both ∷ []
  pub used_root : used.root ≡ 3

abbrev pub seen : Vec Spot Global → RawType → Seen
seen parameters body = seen_text nothing_seen text (declaration.Abbreviation pair parameters body ∷ [])

-- `int -> list (list A)`, with one variable A
abbrev pub IsWorked : Type 0
IsWorked = (parameters : Vec Spot Global) (body used : RawType) (none second both : Vec ℕ Global) → AreParts parameters body used none second both →
    (abbreviation_names (seen parameters body).said ≡ codes "pair" ∷ []) ×
    HasBody (seen parameters body).said (seen parameters body).definitions (codes "pair") (arrow (var 0) (con 3 (tys (var 1 ∷ [])))) ×
    IsTypeOf (seen parameters body).said (seen parameters body).definitions text (λ i s. Some 0) used.nodes.items used.root (arrow (con 1 (tys [])) (con 3 (tys (con 3 (tys (var 0 ∷ [])) ∷ []))))
