-- What texts define has as many parameters as they say.
use Rattle.std.proofs.Common.{◌≡◌, ℕ, List, [], ◌∷◌, ◌++◌, Bool, true, false, length, map, Option, Some, None, sym, ap, subst, ◌∙◌, cond, append_assoc}
use Rattle.std.specs.Str.{bytes_eq}
use Rattle.std.proofs.lemmas.Option.{same_Some}
use Rattle.lp_calculus.specs.Types.{Ty}
use Rattle.lp_syntax.specs.declared.text.Declaration.{Declaration}
use Rattle.lp_syntax.specs.declared.text.Declaration.TheVariants.{Kinds, LocalKinds, Constants, Locals, Abbreviation, Accumulate, AccumSig, Fixities}
use Rattle.lp_sig.specs.Pieces.{spelled}
use Rattle.lp_sig.specs.Rows.{Row, found}
use Rattle.lp_sig.specs.Standard.{standard_kinds}
use Rattle.lp_sig.specs.Said.{Said, a_kind, an_abbreviation, said_by, said_in}
use Rattle.lp_sig.specs.Words.{meaning_of}
use Rattle.lp_sig.specs.Types.{Definition, in_text, as_tree, definitions_by, definitions_in}
use Rattle.lp_sig.specs.Abbreviations.{Text}
use Rattle.lp_sig.specs.Laws.{all_said, all_definitions, HasParameters, Agree}

-- of names that are found among what is said
abbrev IsAgreeing : List (Row Said) → List (Row Definition) → Type 0
IsAgreeing said defs = (name : List ℕ) (d : Definition) (n : ℕ) → found name defs ≡ Some d → found name said ≡ Some (an_abbreviation n) → HasParameters d n

module _ {A : Type 0} (name_of : A → List ℕ) (count : A → ℕ) (name : List ℕ) (n : ℕ) (rest : List (Row Said)) where
  past_kinds : (xs : List A) → found name (map (λ x. (name_of x, a_kind (count x))) xs ++ rest) ≡ Some (an_abbreviation n) → found name rest ≡ Some (an_abbreviation n)
  past_kinds [] e = e
  past_kinds (x ∷ xs) e = by (bytes_eq name (name_of x)) (past_kinds xs) e
    where
      by : (t : Bool) → (found name (map (λ x. (name_of x, a_kind (count x))) xs ++ rest) ≡ Some (an_abbreviation n) → found name rest ≡ Some (an_abbreviation n)) →
          cond t (Some (a_kind (count x))) (found name (map (λ x. (name_of x, a_kind (count x))) xs ++ rest)) ≡ Some (an_abbreviation n) → found name rest ≡ Some (an_abbreviation n)
      by true f e = absurd (cc)
      by false f e = f e

agree_by : (text : List ℕ) (d : Declaration) (said : List (Row Said)) (defs : List (Row Definition)) → IsAgreeing said defs → IsAgreeing (said_by text d ++ said) (definitions_by text d ++ defs)
agree_by text (Kinds names c) said defs h name d n e f = h name d n e (past_kinds (λ s. spelled text s) (λ s. c) name n said names.items f)
agree_by text (LocalKinds names None) said defs h name d n e f = h name d n e f
agree_by text (LocalKinds names (Some c)) said defs h name d n e f = h name d n e (past_kinds (λ s. spelled text s) (λ s. c) name n said names.items f)
agree_by text (Constants names ty) said defs h name d n e f = h name d n e f
agree_by text (Locals names ty) said defs h name d n e f = h name d n e f
agree_by text (Abbreviation s ps ty) said defs h name d n e f = by (bytes_eq name (spelled text s)) e f
  where
    said_count : Option Said → ℕ
    said_count None = 0
    said_count (Some (a_kind c)) = 0
    said_count (Some (an_abbreviation p)) = p

    by : (t : Bool) → cond t (Some (in_text text ps.items ty)) (found name defs) ≡ Some d → cond t (Some (an_abbreviation (length ps.items))) (found name said) ≡ Some (an_abbreviation n) → HasParameters d n
    by true e f = subst (λ d. HasParameters d n) (same_Some (in_text text ps.items ty) d e) (ap said_count f)
    by false e f = h name d n e f
agree_by text (Accumulate words) said defs h name d n e f = h name d n e f
agree_by text (AccumSig words) said defs h name d n e f = h name d n e f
agree_by text (Fixities names x k) said defs h name d n e f = h name d n e f

agree_in : (text : List ℕ) (lines : List Declaration) (said : List (Row Said)) (defs : List (Row Definition)) → IsAgreeing said defs → IsAgreeing (said_in text lines ++ said) (definitions_in text lines ++ defs)
agree_in text [] said defs h name e n p q = h name e n p q
agree_in text (d ∷ ds) said defs h name e n p q =
    agree_by text d (said_in text ds ++ said) (definitions_in text ds ++ defs) (agree_in text ds said defs h) name e n
    (ap (found name) (sym (append_assoc (definitions_by text d) (definitions_in text ds) defs)) ∙ p) (ap (found name) (sym (append_assoc (said_by text d) (said_in text ds) said)) ∙ q)

agree_all : (texts : List Text) → IsAgreeing (all_said texts) (all_definitions texts)
agree_all [] name d n e f = absurd (cc)
agree_all (t ∷ ts) name d n e f = agree_in t.0 t.1 (all_said ts) (all_definitions ts) (agree_all ts) name d n e f

pub texts_agree : (texts : List Text) → Agree (all_said texts) (all_definitions texts)
unfolding meaning_of
texts_agree texts name d n e f = agree_all texts name d n e (past_kinds (λ r. r.0) (λ r. r.1.1) name n (all_said texts) standard_kinds f)

-- no definition of a text is a tree
abbrev AreInText : List (Row Definition) → Type 0
AreInText defs = (name : List ℕ) (t : Ty) → found name defs ≡ Some (as_tree t) → ⊥

in_text_by : (text : List ℕ) (d : Declaration) (defs : List (Row Definition)) → AreInText defs → AreInText (definitions_by text d ++ defs)
in_text_by text (Kinds names c) defs h name t e = h name t e
in_text_by text (LocalKinds names c) defs h name t e = h name t e
in_text_by text (Constants names ty) defs h name t e = h name t e
in_text_by text (Locals names ty) defs h name t e = h name t e
in_text_by text (Abbreviation s ps ty) defs h name t e = by (bytes_eq name (spelled text s)) e
  where
    by : (b : Bool) → cond b (Some (in_text text ps.items ty)) (found name defs) ≡ Some (as_tree t) → ⊥
    by true e = absurd (cc)
    by false e = h name t e
in_text_by text (Accumulate words) defs h name t e = h name t e
in_text_by text (AccumSig words) defs h name t e = h name t e
in_text_by text (Fixities names x k) defs h name t e = h name t e

in_text_in : (text : List ℕ) (lines : List Declaration) (defs : List (Row Definition)) → AreInText defs → AreInText (definitions_in text lines ++ defs)
in_text_in text [] defs h name t e = h name t e
in_text_in text (d ∷ ds) defs h name t e =
    in_text_by text d (definitions_in text ds ++ defs) (in_text_in text ds defs h) name t (ap (found name) (sym (append_assoc (definitions_by text d) (definitions_in text ds) defs)) ∙ e)

pub texts_have_no_tree : (texts : List Text) (name : List ℕ) (t : Ty) → found name (all_definitions texts) ≡ Some (as_tree t) → ⊥
texts_have_no_tree [] name t e = absurd (cc)
texts_have_no_tree (t ∷ ts) name u e = in_text_in t.0 t.1 (all_definitions ts) (texts_have_no_tree ts) name u e
