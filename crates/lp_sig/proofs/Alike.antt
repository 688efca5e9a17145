-- Each sentence of typeabbrev has the body of the first one of its name.
use Rattle.std.proofs.Common.{◌≡◌, ℕ, ◌<◌, List, [], ◌++◌, ◌∷◌, length, get_or, Option, Some, sym, ap, subst}
use Rattle.std.specs.Prelude.{IfSome}
use Rattle.std.proofs.lemmas.List.Elements.{All-append, All-nil, All-cons, All-head, All-tail}
use Rattle.lp_base.specs.declared.place.Spot.{Spot}
use Rattle.lp_calculus.specs.Types.{Ty}
use Rattle.lp_term.specs.Nodes.{Nodes, type_tree}
use Rattle.lp_term.specs.declared.node.TypeId.{TypeId}
use Rattle.lp_syntax.specs.declared.text.Declaration.{Declaration}
use Rattle.lp_syntax.specs.declared.text.Declaration.TheVariants.{Kinds, LocalKinds, Constants, Locals, Abbreviation, Accumulate, AccumSig, Fixities}
use Rattle.lp_syntax.specs.declared.text.RawType.{RawType}
use Rattle.lp_sig.specs.Pieces.{spelled}
use Rattle.lp_sig.specs.Places.{first_place}
use Rattle.lp_sig.specs.Rows.{Row}
use Rattle.lp_sig.specs.Said.{Said, said_in}
use Rattle.lp_sig.specs.Standing.{seen_count, AllStand}
use Rattle.lp_sig.specs.Faults.{IsSound, AreSound}
use Rattle.lp_sig.specs.Types.{Definition, in_text, as_tree, definitions_by, definitions_in, IsTypeOf, by_parameters, IsOfTree, IsAlike, AreAlike}
use Rattle.lp_sig.specs.Abbreviations.{abbreviation_names, Seen, seen_text}
use Rattle.lp_sig.specs.Holding.{body_of, IsTree, HoldsBodies}
use Rattle.lp_sig.specs.declared.bodies.Body.{Body}
use Rattle.lp_sig.proofs.AllStanding.{all_bodies_stand, all_types_stand}
use Rattle.lp_sig.proofs.Growing.{body_stays, type_stays}

-- a body that is an equal of the first one
pub same_body : (b : Nodes) (bodies : List Body) (said : List (Row Said)) (defs : List (Row Definition)) (text : List ℕ) (name : Spot) (ps : List Spot) (ty : RawType) (place : ℕ) (known new : TypeId) (o : Option TypeId) → HoldsBodies b bodies said defs →
    first_place (spelled text name) (abbreviation_names said) ≡ Some place → body_of bodies place ≡ Some known → o ≡ Some new → IfSome o (IsTree b (IsTypeOf said defs text (by_parameters text ps) ty.nodes.items ty.root)) →
    (known.0 < length b.types → known.0 ≡ new.0) → IsAlike said defs (spelled text name) (in_text text ps ty)
same_body b bodies said defs text name ps ty place known new o h at is some made same =
    let first = h (spelled text name) place known at is in
    let here = subst (λ o. IfSome o (IsTree b (IsTypeOf said defs text (by_parameters text ps) ty.nodes.items ty.root))) some made in
    record { tree = type_tree b known.0; first = first.1; here = subst (IsTypeOf said defs text (by_parameters text ps) ty.nodes.items ty.root) (sym (ap (type_tree b) (same first.0))) here.1 }

-- more sentences change nothing of this
pub alike_stays : (said more : List (Row Said)) (defs others rows : List (Row Definition)) → AreAlike said defs rows → AreAlike (said ++ more) (defs ++ others) rows
alike_stays said more defs others rows all = λ k d h.
    let row = get_or rows k d in
    let a = all k d h in
    record {
      tree = a.tree;
      first = body_stays said more defs others row.0 a.tree a.first;
      here = tree_stays row.1 a.tree a.here;
    }
  where
    tree_stays : (d : Definition) (t : Ty) → IsOfTree said defs d t → IsOfTree (said ++ more) (defs ++ others) d t
    tree_stays (in_text text ps ty) t h = type_stays said more defs others text (by_parameters text ps) ty.nodes.items ty.root t h
    tree_stays (as_tree u) t h = h

-- a sentence without fault, and those of a text, where all stand
module _ (from : ℕ) (z : Seen) (text : List ℕ) (all : AllStand from z) where
  sentence_alike : (d : Declaration) → IsSound from text z d → AreAlike z.said z.definitions (definitions_by text d)
  sentence_alike (Kinds names n) s = All-nil (λ r. IsAlike z.said z.definitions r.0 r.1)
  sentence_alike (LocalKinds names n) s = All-nil (λ r. IsAlike z.said z.definitions r.0 r.1)
  sentence_alike (Constants names ty) s = All-nil (λ r. IsAlike z.said z.definitions r.0 r.1)
  sentence_alike (Locals names ty) s = All-nil (λ r. IsAlike z.said z.definitions r.0 r.1)
  sentence_alike (Abbreviation name ps ty) s =
      All-cons (λ r. IsAlike z.said z.definitions r.0 r.1) (spelled text name, in_text text ps.items ty) [] (s.1 (all_types_stand from z all text ty) (λ place at. all_bodies_stand from z all place))
      (All-nil (λ r. IsAlike z.said z.definitions r.0 r.1))
  sentence_alike (Accumulate words) s = All-nil (λ r. IsAlike z.said z.definitions r.0 r.1)
  sentence_alike (AccumSig words) s = All-nil (λ r. IsAlike z.said z.definitions r.0 r.1)
  sentence_alike (Fixities names f n) s = All-nil (λ r. IsAlike z.said z.definitions r.0 r.1)

  sentences_alike : (lines : List Declaration) → AreSound from text z lines → AreAlike z.said z.definitions (definitions_in text lines)
  sentences_alike [] s = All-nil (λ r. IsAlike z.said z.definitions r.0 r.1)
  sentences_alike (d ∷ ds) s =
      All-append (λ r. IsAlike z.said z.definitions r.0 r.1) (definitions_by text d) (definitions_in text ds) (sentence_alike d (All-head (IsSound from text z) d ds s)) (sentences_alike ds (All-tail (IsSound from text z) d ds s))

-- behind a text
pub all_alike : (z : Seen) (text : List ℕ) (lines : List Declaration) → AreAlike z.said z.definitions z.definitions → AllStand (seen_count z) (seen_text z text lines) → AreSound (seen_count z) text (seen_text z text lines) lines →
    AreAlike (seen_text z text lines).said (seen_text z text lines).definitions (seen_text z text lines).definitions
all_alike z text lines before all sound =
    All-append (λ r. IsAlike (z.said ++ said_in text lines) (z.definitions ++ definitions_in text lines) r.0 r.1) z.definitions (definitions_in text lines) (alike_stays z.said (said_in text lines) z.definitions (definitions_in text lines) z.definitions before)
    (sentences_alike (seen_count z) (seen_text z text lines) text all lines sound)
