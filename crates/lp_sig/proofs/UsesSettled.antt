-- Which bodies a type wants: those of the abbreviations that its words mean.
use Rattle.std.specs.Global.{Global}
use Rattle.std.proofs.Common.{◌≡◌, ℕ, zero, suc, ◌<◌, List, [], ◌∷◌, ◌++◌, false, length, get_or, Option, Some, None, refl, sym, ap, subst, ◌∙◌, arith, ⊎_elim}
use Rattle.std.specs.Prelude.{Contains, Vec}
use Rattle.std.proofs.lemmas.List.Elements.{Contains-append_left, Contains-append_right, Contains-append_cases}
use Rattle.lp_lemmas.proofs.Elements.{Contains_single}
use Rattle.lp_base.specs.declared.place.Spot.{Spot}
use Rattle.lp_syntax.specs.declared.text.RawTypeNode.{RawTypeNode}
use Rattle.lp_syntax.specs.declared.text.RawTypeNode.TheVariants.{Word}
use Rattle.lp_sig.specs.Pieces.{spelled, begins_variable}
use Rattle.lp_sig.specs.Places.{first_place}
use Rattle.lp_sig.specs.Loading.{Way, ways_in}
use Rattle.lp_sig.specs.Abbreviations.{type_names, uses_in}
use Rattle.lp_sig.specs.Constants.{IsSettledAt, AreUsesSettled}
use Rattle.lp_sig.specs.declared.bodies.Body.{Body}
use Rattle.lp_sig.proofs.Abbreviating.{type_names_append, node_word, word_used}
use Rattle.lp_sig.proofs.Heads.{place_below}
use Rattle.lp_sig.proofs.Naming.{one_way, ways_append}

uses_append : (ns : List (List ℕ)) (text : List ℕ) (xs ys : List RawTypeNode) → uses_in ns text (xs ++ ys) ≡ uses_in ns text xs ++ uses_in ns text ys
uses_append ns text xs ys = ap (ways_in ns text) (type_names_append text xs ys) ∙ ways_append ns text (type_names text xs) (type_names text ys)

-- what a node uses is used by its type
pub uses_at : (ns : List (List ℕ)) (text : List ℕ) (nodes : List RawTypeNode) (i : ℕ) (d : RawTypeNode) → i < length nodes → d ≡ get_or nodes i d → (w : Way) → Contains (uses_in ns text (d ∷ [])) w → Contains (uses_in ns text nodes) w
uses_at ns text [] i d h is w c = absurd (omega (arith, h))
uses_at ns text (x ∷ xs) zero d h is w c =
    subst (λ us. Contains us w) (sym (uses_append ns text (x ∷ []) xs)) (Contains-append_left (uses_in ns text (x ∷ [])) (uses_in ns text xs) w (subst (λ n. Contains (uses_in ns text (n ∷ [])) w) is c))
uses_at ns text (x ∷ xs) (suc i) d h is w c =
    subst (λ us. Contains us w) (sym (uses_append ns text (x ∷ []) xs)) (Contains-append_right (uses_in ns text (x ∷ [])) (uses_in ns text xs) w (uses_at ns text xs i d (omega (arith, h)) is w c))

-- a word that means an abbreviation uses it
pub word_settled : (bodies : List Body) (ns : List (List ℕ)) (text : List ℕ) (s : Spot) (args : Vec ℕ Global) (place : ℕ) → begins_variable (spelled text s) ≡ false → Some place ≡ first_place (spelled text s) ns → AreUsesSettled bodies (uses_in ns text (Word s args ∷ [])) → IsSettledAt bodies place
word_settled bodies ns text s args place e at h =
    h (s, place) (subst (λ us. Contains us (s, place)) (node_word ns text (Word s args) [] s args ((s, place) ∷ []) refl (word_used ns text s [] place ((s, place) ∷ []) e at refl)) (0, omega arith, refl))

-- a use is the place of what its word means
way_meant : (ns : List (List ℕ)) (text : List ℕ) (words : List Spot) (w : Way) → Contains (ways_in ns text words) w → first_place (spelled text w.0) ns ≡ Some w.1
way_meant ns text [] w c = absurd (omega (arith, c.1))
way_meant ns text (x ∷ xs) w c = ⊎_elim (λ d. one (first_place (spelled text x) ns) refl d) (λ d. way_meant ns text xs w d) (Contains-append_cases (ways_in ns text (x ∷ [])) (ways_in ns text xs) w (subst (λ u. Contains u w) (ways_append ns text (x ∷ []) xs) c))
  where
    one : (o : Option ℕ) → first_place (spelled text x) ns ≡ o → Contains (ways_in ns text (x ∷ [])) w → first_place (spelled text w.0) ns ≡ Some w.1
    one None e d = let q : length (ways_in ns text (x ∷ [])) ≡ 0 = ap length (one_way ns text x None (sym e)) in absurd (omega (arith, d.1, q))
    one (Some i) e d = subst (λ v. first_place (spelled text v.0) ns ≡ Some v.1) (Contains_single (x, i) w (subst (λ u. Contains u w) (one_way ns text x (Some i) (sym e)) d)) e

pub use_inside : (ns : List (List ℕ)) (text : List ℕ) (nodes : List RawTypeNode) (w : Way) → Contains (uses_in ns text nodes) w → w.1 < length ns
use_inside ns text nodes w c = place_below (spelled text w.0) ns w.1 (way_meant ns text (type_names text nodes) w c)
