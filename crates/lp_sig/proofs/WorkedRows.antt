-- The worked signature, by the rules of types.
use Rattle.std.specs.Global.{Global}
use Rattle.std.proofs.Common.{◌≡◌, ℕ, zero, suc, ◌<◌, List, [], ◌∷◌, length, Option, Some, refl, sym, ap, subst, ◌∙◌, arith, map}
use Rattle.std.specs.Prelude.{Vec, codes, slice_index_or, Contains}
use Rattle.lp_base.specs.declared.place.Spot.{Spot}
use Rattle.lp_calculus.specs.Types.{Ty, var, con, arrow, tys}
use Rattle.lp_syntax.specs.declared.text.RawType.{RawType}
use Rattle.lp_syntax.specs.declared.text.RawTypeNode.{RawTypeNode}
use Rattle.lp_syntax.specs.declared.text.RawTypeNode.TheVariants.{Word, Arrow}
use Rattle.lp_sig.specs.Pieces.{spelled}
use Rattle.lp_sig.specs.Places.{first_place}
use Rattle.lp_sig.specs.Rows.{Row}
use Rattle.lp_sig.specs.Said.{Said, a_kind, an_abbreviation, each}
use Rattle.lp_sig.specs.Words.{meaning_of}
use Rattle.lp_sig.specs.Types.{kind_number_of, Definition, in_text, written_body, by_parameters, IsNode, IsTypeOf, a_variable, kind_on, abbreviation_on, an_arrow, no_more, one_more}
use Rattle.lp_sig.specs.Limits.{AreApart}
use Rattle.lp_sig.specs.Worked.{text, pair, A, B, list_word, int_word, AreParts, seen, IsWorked}

module _ (parameters : Vec Spot Global) (body used : RawType) (none second both : Vec ℕ Global) (parts : AreParts parameters body used none second both) where
  abbrev said : List (Row Said)
  said = (seen parameters body).said

  abbrev defs : List (Row Definition)
  defs = (seen parameters body).definitions

  abbrev definition : Definition
  definition = in_text text parameters.items body

  list_means : meaning_of (codes "list") said ≡ Some (a_kind 1)
  unfolding meaning_of
  list_means = refl

  int_means : meaning_of (codes "int") said ≡ Some (a_kind 0)
  unfolding meaning_of
  int_means = refl

  pair_means : meaning_of (codes "pair") said ≡ Some (an_abbreviation 2)
  unfolding meaning_of
  pair_means = ap (λ ps. meaning_of (codes "pair") (each text (an_abbreviation (length ps)) (pair ∷ []))) parts.parameters_are

  list_number : kind_number_of (codes "list") said ≡ Some 3
  unfolding kind_number_of
  list_number = refl

  int_number : kind_number_of (codes "int") said ≡ Some 1
  unfolding kind_number_of
  int_number = refl

  node_at : (nodes is : List RawTypeNode) (i : ℕ) (n : RawTypeNode) → nodes ≡ is → i < length is → slice_index_or is i n ≡ n → IsNode nodes i n
  node_at nodes is i n e h at = (subst (λ l. i < length l) (sym e) h, subst (λ l. slice_index_or l i n ≡ n) (sym e) at)

  -- `list` on one type
  list_on : (ν : ℕ → Spot → Option ℕ) (nodes : List RawTypeNode) (t : Ty) → IsNode nodes 2 (Word list_word second) → IsTypeOf said defs text ν nodes 1 t → IsTypeOf said defs text ν nodes 2 (con 3 (tys (t ∷ [])))
  list_on ν nodes t at inner =
      kind_on list_word second 3 (t ∷ []) at refl (list_means ∙ ap (λ l. Some (a_kind (length l))) (sym parts.second_is)) list_number (one_more 1 [] t [] parts.second_is refl inner (no_more refl refl)) refl

  -- the body: `A -> list B`
  abbrev of_body : ℕ → Spot → Option ℕ
  of_body = by_parameters text parameters.items

  numbered : (i n : ℕ) (s : Spot) → first_place (spelled text s) (map (λ p. spelled text p) (A ∷ B ∷ [])) ≡ Some n → of_body i s ≡ Some n
  numbered i n s e = ap (λ ps. first_place (spelled text s) (map (λ p. spelled text p) ps)) parts.parameters_are ∙ e

  apart : AreApart text parameters.items
  apart = subst (AreApart text) (sym parts.parameters_are) (λ c. not_among c, (λ c. absurd (omega (arith, c.1)), tt))
    where
      not_among : Contains (spelled text B ∷ []) (spelled text A) → ⊥
      not_among (zero, l, e) = let q : 66 ≡ 65 = ap (λ word. slice_index_or word 0 0) e in absurd (omega (arith, q))
      not_among (suc k, l, e) = absurd (omega (arith, l))

  body_at : (i : ℕ) (n : RawTypeNode) → i < 4 → slice_index_or (Word A none ∷ Word B none ∷ Word list_word second ∷ Arrow 0 2 ∷ []) i n ≡ n → IsNode body.nodes.items i n
  body_at i n h at = node_at body.nodes.items (Word A none ∷ Word B none ∷ Word list_word second ∷ Arrow 0 2 ∷ []) i n parts.body_nodes h at

  body_type : IsTypeOf said defs text of_body body.nodes.items body.root (arrow (var 0) (con 3 (tys (var 1 ∷ []))))
  body_type =
      subst (λ r. IsTypeOf said defs text of_body body.nodes.items r (arrow (var 0) (con 3 (tys (var 1 ∷ []))))) (sym parts.body_root)
      (an_arrow 0 2 (var 0) (con 3 (tys (var 1 ∷ []))) (body_at 3 (Arrow 0 2) (omega arith) refl)
      (a_variable A none 0 (body_at 0 (Word A none) (omega arith) refl) refl (numbered 0 0 A refl) refl)
      (list_on of_body body.nodes.items (var 1) (body_at 2 (Word list_word second) (omega arith) refl) (a_variable B none 1 (body_at 1 (Word B none) (omega arith) refl) refl (numbered 1 1 B refl) refl)) refl)

  -- `pair int (list A)`
  abbrev one_number : ℕ → Spot → Option ℕ
  one_number = λ i s. Some 0

  used_at : (i : ℕ) (n : RawTypeNode) → i < 4 → slice_index_or (Word int_word none ∷ Word A none ∷ Word list_word second ∷ Word pair both ∷ []) i n ≡ n → IsNode used.nodes.items i n
  used_at i n h at = node_at used.nodes.items (Word int_word none ∷ Word A none ∷ Word list_word second ∷ Word pair both ∷ []) i n parts.used_nodes h at

  int_type : IsTypeOf said defs text one_number used.nodes.items 0 (con 1 (tys []))
  int_type = kind_on int_word none 1 [] (used_at 0 (Word int_word none) (omega arith) refl) refl (int_means ∙ ap (λ l. Some (a_kind (length l))) (sym parts.none_is)) int_number (no_more parts.none_is refl) refl

  list_type : IsTypeOf said defs text one_number used.nodes.items 2 (con 3 (tys (var 0 ∷ [])))
  list_type = list_on one_number used.nodes.items (var 0) (used_at 2 (Word list_word second) (omega arith) refl) (a_variable A none 0 (used_at 1 (Word A none) (omega arith) refl) refl refl refl)

  used_type : IsTypeOf said defs text one_number used.nodes.items used.root (arrow (con 1 (tys [])) (con 3 (tys (con 3 (tys (var 0 ∷ [])) ∷ []))))
  used_type =
      subst (λ r. IsTypeOf said defs text one_number used.nodes.items r (arrow (con 1 (tys [])) (con 3 (tys (con 3 (tys (var 0 ∷ [])) ∷ []))))) (sym parts.used_root)
      (abbreviation_on pair both definition (arrow (var 0) (con 3 (tys (var 1 ∷ [])))) (con 1 (tys []) ∷ con 3 (tys (var 0 ∷ [])) ∷ []) (used_at 3 (Word pair both) (omega arith) refl) refl
      (pair_means ∙ ap (λ l. Some (an_abbreviation (length l))) (sym parts.both_are)) refl (written_body text parameters.items body refl apart body_type)
      (one_more 0 (2 ∷ []) (con 1 (tys [])) (con 3 (tys (var 0 ∷ [])) ∷ []) parts.both_are refl int_type (one_more 2 [] (con 3 (tys (var 0 ∷ []))) [] refl refl list_type (no_more refl refl))) refl)

pub worked : IsWorked
worked parameters body used none second both parts = (
  refl,
  record { definition = in_text text parameters.items body; declared = refl; is = written_body text parameters.items body refl (apart parameters body used none second both parts) (body_type parameters body used none second both parts) },
  used_type parameters body used none second both parts,
)
