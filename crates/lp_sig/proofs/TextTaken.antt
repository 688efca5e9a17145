-- A text is announced and settled, then its sentences are taken one after the other: what that gives where it begins, at each sentence
-- and at its end, from what each sentence says.
use Rattle.std.proofs.Common.{◌≡◌, ℕ, ◌+◌, ◌<◌, ◌≤◌, List, ◌++◌, length, take, take_all, get_or, sym, ap, subst, ◌∙◌, append-nil, arith, true}
use Rattle.std.proofs.lemmas.List.{length-map}
use Rattle.lp_term.specs.Nodes.{Nodes}
use Rattle.lp_syntax.specs.declared.text.Declaration.{Declaration}
use Rattle.lp_sig.specs.Rows.{Row}
use Rattle.lp_sig.specs.Said.{is_among, names_in, said_in}
use Rattle.lp_sig.specs.Knowing.{Knows}
use Rattle.lp_sig.specs.Loading.{HasNoCircle}
use Rattle.lp_sig.specs.Types.{definitions_in}
use Rattle.lp_sig.specs.Standing.{seen_count, AllStand, BodyStands}
use Rattle.lp_sig.specs.Faults.{AreSound}
use Rattle.lp_sig.specs.Abbreviations.{Seen, seen_text, all_uses}
use Rattle.lp_sig.specs.Holding.{line_of_text, KnowsBodies, KnowsTypes}
use Rattle.lp_sig.specs.Announced.{AreAnnounced, CanBeSettled, HasUsesInside}
use Rattle.lp_sig.specs.Constants.{Written, constants_by, constants_in, AreTyped, AreTypedIf, AreTakenConstants, HaveFirstTypes}
use Rattle.lp_sig.specs.declared.bodies.Body.{Body}
use Rattle.lp_sig.specs.declared.constants.Constants.{Constants}
use Rattle.lp_sig.specs.declared.names.Names.{Names}
use Rattle.lp_sig.proofs.Abbreviating.{heads_are}
use Rattle.lp_sig.proofs.AllStanding.{all_stand}
use Rattle.lp_sig.proofs.DeclaredConstants.{line_more, constants_more}
use Rattle.lp_sig.proofs.FirstBodies.{ready}
use Rattle.lp_sig.proofs.FirstTypes.{all_first, all_typed}
use Rattle.lp_sig.proofs.TakenConstants.{taken_then}

-- as many heads as abbreviations were seen
pub count_is : (names : Names) (z : Seen) → Knows names z.said → length names.heads.items ≡ seen_count z
count_is names z known = sym (length-map names.heads.items (λ h. h.name.items)) ∙ ap length (heads_are names z.said known)

module _ (z : Seen) (text : List ℕ) (lines : List Declaration) where
  -- none of the text is announced yet
  pub none_announced : (b : Nodes) (bodies : List Body) → KnowsTypes b bodies z → AreAnnounced (seen_count z) bodies z.said text (line_of_text lines)
  none_announced b bodies k = λ place f l. let same = k.count in absurd (omega (arith, f, l, same))

  module _ (b : Nodes) (bodies : List Body) (uses : (n : List ℕ) → is_among n (names_in z.bodies) ≡ true → is_among n (names_in z.said) ≡ true) (told : (n : List ℕ) → is_among n (names_in z.definitions) ≡ true → is_among n (names_in z.said) ≡ true)
      (now : KnowsBodies b bodies (z.said ++ said_in text lines) (z.definitions ++ definitions_in text lines) text (line_of_text lines)) (all : AreAnnounced (seen_count z) bodies (z.said ++ said_in text lines) text (line_of_text lines)) where
    -- those that are announced can be settled where they stand
    pub text_ready : (place : ℕ) → seen_count z ≤ place → place < length bodies →
        HasUsesInside (seen_text z text lines) place ×
        (BodyStands (seen_count z) (seen_text z text lines) place → CanBeSettled bodies (z.said ++ said_in text lines) (all_uses (seen_text z text lines)) text (line_of_text lines) place × HasNoCircle (all_uses (seen_text z text lines)) place)
    text_ready = ready z text lines bodies uses told now.lines all

    -- and where the sentences have no fault they stand
    pub text_stands : AreSound (seen_count z) text (seen_text z text lines) lines → AllStand (seen_count z) (seen_text z text lines)
    text_stands = all_stand z text lines bodies uses told now.lines now.count all

-- the constants so far are taken, and have types where their rows stand
abbrev pub AreDeclaredIf : ℕ → Seen → List (Row Written) → List (Row Written) → Constants → Type 0
AreDeclaredIf from z rows more constants = AreTypedIf from z (rows ++ more) constants × AreTakenConstants from z rows more

module _ (from : ℕ) (z : Seen) (rows : List (Row Written)) (text : List ℕ) (lines : List Declaration) where
  pub none_declared : (constants : Constants) → AreTypedIf from z rows constants → AreDeclaredIf from z rows (constants_in text (take 0 lines)) constants
  none_declared constants h = (subst (λ r. AreTypedIf from z r constants) (sym (append-nil rows)) h, tt)

  pub more_declared : (i : ℕ) (d : Declaration) (old new : Constants) → i < length lines → d ≡ get_or lines i d → AreDeclaredIf from z rows (constants_in text (take i lines)) old →
      AreTypedIf from z ((rows ++ constants_in text (take i lines)) ++ constants_by text d) new × AreTakenConstants from z (rows ++ constants_in text (take i lines)) (constants_by text d) →
      AreDeclaredIf from z rows (constants_in text (take (i + 1) lines)) new
  more_declared i d old new h is before this = (
    subst (λ r. AreTypedIf from z r new) (constants_more text lines i d rows h is) this.0,
    subst (AreTakenConstants from z rows) (line_more text lines i d h is) (taken_then from z rows (constants_in text (take i lines)) (constants_by text d) before.1 this.1),
  )

  pub all_declared : (i : ℕ) (constants : Constants) → length lines ≤ i → AreDeclaredIf from z rows (constants_in text (take i lines)) constants → AreDeclaredIf from z rows (constants_in text lines) constants
  all_declared i constants h a = subst (λ ls. AreDeclaredIf from z rows (constants_in text ls) constants) (take_all i lines h) a

-- behind a text whose abbreviations stand each constant has a type, which is the first one of its name
pub text_typed : (z : Seen) (text : List ℕ) (lines : List Declaration) (rows : List (Row Written)) (constants : Constants) → HaveFirstTypes z.said z.definitions rows rows → AllStand (seen_count z) (seen_text z text lines) →
    AreDeclaredIf (seen_count z) (seen_text z text lines) rows (constants_in text lines) constants →
    AreTyped constants × HaveFirstTypes (seen_text z text lines).said (seen_text z text lines).definitions (rows ++ constants_in text lines) (rows ++ constants_in text lines)
text_typed z text lines rows constants before all a = (all_typed (seen_count z) (seen_text z text lines) all (rows ++ constants_in text lines) constants a.0, all_first z text lines rows before all a.1)
