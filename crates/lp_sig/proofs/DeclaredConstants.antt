-- The constants that sentences, texts and steps declare, one after the other.
use Rattle.std.specs.Global.{Global}
use Rattle.std.proofs.Common.{◌≡◌, ℕ, zero, suc, ◌+◌, ◌<◌, ◌≤◌, List, [], ◌∷◌, ◌++◌, length, take, get_or, refl, sym, ap, subst, ◌∙◌, append_assoc, append-nil}
use Rattle.std.specs.Prelude.{String, Vec}
use Rattle.std.proofs.lemmas.List.{take_more}
use Rattle.lp_base.specs.declared.place.Spot.{Spot}
use Rattle.lp_term.specs.Nodes.{Nodes, Extends}
use Rattle.lp_syntax.specs.declared.text.Declaration.{Declaration}
use Rattle.lp_syntax.specs.declared.text.Declaration.TheVariants as declaration
use Rattle.lp_syntax.specs.declared.text.RawType.{RawType}
use Rattle.lp_syntax.specs.declared.text.SignatureText.{SignatureText}
use Rattle.lp_sig.specs.Rows.{Row}
use Rattle.lp_sig.specs.Said.{Said, each, of_text, of_step}
use Rattle.lp_sig.specs.Types.{Definition}
use Rattle.lp_sig.specs.Abbreviations.{Seen, Text, one_text, seen_text, seen_after}
use Rattle.lp_sig.specs.Constants.{Written, written_in, constants_by, constants_in, KnowsConstants}
use Rattle.lp_sig.specs.Declares.{constants_after, AreAllTyped, Declares}
use Rattle.lp_sig.specs.Holding.{KnowsSeen}
use Rattle.lp_sig.specs.Refusals.{seen_before, constants_before, constants_of}
use Rattle.lp_sig.specs.declared.constants.Constants.{Constants}
use Rattle.lp_sig.specs.declared.making.Making.{Making}
use Rattle.lp_sig.specs.declared.store.Types.{Types}
use Rattle.lp_sig.specs.declared.walk.Step.{Step}
use Rattle.lp_sig.specs.declared.walk.Step.TheVariants.{Enter, Declare}
use Rattle.lp_sig.proofs.Constancy.{constants_kept, constants_stay}
use Rattle.lp_sig.proofs.Seeing.{seen_more}
use Rattle.lp_sig.proofs.Spoken.{steps_more, all_steps_said}

module _ (b : Nodes) (known : Constants) (said : List (Row Said)) (defs : List (Row Definition)) (rows : List (Row Written)) (text : List ℕ) where
  -- a sentence that declares no constant, and one that does
  pub nothing_declared : (l d : Declaration) → l ≡ d → constants_by text d ≡ [] → KnowsConstants b known said defs rows → KnowsConstants b known said defs (rows ++ constants_by text l)
  nothing_declared l d is none k = subst (KnowsConstants b known said defs) (sym (append-nil rows) ∙ ap (λ z. rows ++ z) (sym none) ∙ ap (λ l. rows ++ constants_by text l) (sym is)) k

  pub its_constants : (l : Declaration) (names : Vec Spot Global) (slice : List Spot) (ty : RawType) → l ≡ declaration.Constants names ty → slice ≡
      names.items → KnowsConstants b known said defs (rows ++ each text (written_in text ty) slice) → KnowsConstants b known said defs
      (rows ++ constants_by text l)
  its_constants l names slice ty is same k =
      subst (λ l. KnowsConstants b known said defs (rows ++ constants_by text l)) (sym is) (subst (λ s. KnowsConstants b known said defs (rows ++ each text (written_in text ty) s)) same k)

constants_append : (text : List ℕ) (xs ys : List Declaration) → constants_in text (xs ++ ys) ≡ constants_in text xs ++ constants_in text ys
constants_append text [] ys = refl
constants_append text (x ∷ xs) ys = ap (λ z. constants_by text x ++ z) (constants_append text xs ys) ∙ sym (append_assoc (constants_by text x) (constants_in text xs) (constants_in text ys))

-- one more sentence
pub line_more : (text : List ℕ) (lines : List Declaration) (i : ℕ) (d : Declaration) → i < length lines → d ≡ get_or lines i d → constants_in text (take i lines) ++ constants_by text d ≡ constants_in text (take (i + 1) lines)
line_more text lines i d h is =
    ap (λ e. constants_in text (take i lines) ++ constants_by text e) is ∙ ap (λ z. constants_in text (take i lines) ++ z) (sym (append-nil (constants_by text (get_or lines i d)))) ∙
    sym (constants_append text (take i lines) (get_or lines i d ∷ [])) ∙ ap (constants_in text) (sym (take_more lines i d h))

pub constants_more : (text : List ℕ) (lines : List Declaration) (i : ℕ) (d : Declaration) (rows : List (Row Written)) → i < length lines → d ≡ get_or lines i d →
    (rows ++ constants_in text (take i lines)) ++ constants_by text d ≡ rows ++ constants_in text (take (i + 1) lines)
constants_more text lines i d rows h is = append_assoc rows (constants_in text (take i lines)) (constants_by text d) ∙ ap (λ z. rows ++ z) (line_more text lines i d h is)

-- a text begins: its kinds and abbreviations are announced and settled
pub text_begins : (old mid new : Types) (before known : Constants) (said more : List (Row Said)) (defs others : List (Row Definition)) (rows : List (Row Written)) (text : List ℕ) (lines : List Declaration) → mid ≡ old → known ≡ before → Extends mid.bank new.bank →
    KnowsConstants old.bank before said defs rows → KnowsConstants new.bank known (said ++ more) (defs ++ others) (rows ++ constants_in text (take 0 lines))
text_begins old mid new before known said more defs others rows text lines types same x k =
    subst (KnowsConstants new.bank known (said ++ more) (defs ++ others)) (sym (append-nil rows))
    (constants_stay new.bank known said more defs others rows (constants_kept mid.bank new.bank known said defs rows x
    (subst (λ t. KnowsConstants t.bank known said defs rows) (sym types) (subst (λ c. KnowsConstants old.bank c said defs rows) (sym same) k))))

-- one text, or none
pub text_declares : (old new : Making) (texts : List Text) (text : List ℕ) (lines : List Declaration) → texts ≡ (text, lines) ∷ [] → ((z : Seen) (rows : List (Row Written)) → KnowsSeen old z → KnowsConstants old.bodies.types.bank old.constants z.said z.definitions rows →
    KnowsConstants new.bodies.types.bank new.constants (seen_text z text lines).said (seen_text z text lines).definitions (rows ++ constants_in text lines) × (AreAllTyped old z rows → AreAllTyped new (seen_text z text lines) (rows ++ constants_in text lines))) → Declares old new texts
text_declares old new texts text lines is h = subst (Declares old new) (sym is) h

pub nothing_declares : (making : Making) (texts : List Text) → texts ≡ [] → Declares making making texts
nothing_declares making texts is = subst (Declares making making) (sym is) (λ z rows k c. (c, λ t. t))

text_rows : (sources : List (Vec ℕ Global)) (texts : List SignatureText) (i : ℕ) (rows : List (Row Written)) → constants_after rows (of_text one_text sources texts i) ≡ rows ++ of_text constants_in sources texts i
text_rows sources [] i rows = sym (append-nil rows)
text_rows [] (t ∷ ts) i rows = sym (append-nil rows)
text_rows (s ∷ ss) (t ∷ ts) zero rows = refl
text_rows (s ∷ ss) (t ∷ ts) (suc i) rows = text_rows ss ts i rows

step_rows : (sources : List (Vec ℕ Global)) (texts : List SignatureText) (step : Step) (rows : List (Row Written)) → constants_after rows (of_step one_text sources texts step) ≡ rows ++ of_step constants_in sources texts step
step_rows sources texts (Enter i) rows = sym (append-nil rows)
step_rows sources texts (Declare i) rows = text_rows sources texts i rows

-- one more step, and all steps
module _ (names : List (String Global)) (sources : List (Vec ℕ Global)) (texts : List SignatureText) (steps : List Step) (k : ℕ) where
  pub step_declares : (d : Step) → k < length steps → (old new : Making) → KnowsSeen old (seen_before names sources texts steps k) →
      KnowsConstants old.bodies.types.bank old.constants (seen_before names sources texts steps k).said
      (seen_before names sources texts steps k).definitions (constants_before names sources texts steps k) → AreAllTyped old
      (seen_before names sources texts steps k) (constants_before names sources texts steps k) →
      Declares old new (of_step one_text sources texts (get_or steps k d)) →
      KnowsConstants new.bodies.types.bank new.constants (seen_before names sources texts steps (k + 1)).said
      (seen_before names sources texts steps (k + 1)).definitions (constants_before names sources texts steps (k + 1)) × AreAllTyped new
      (seen_before names sources texts steps (k + 1)) (constants_before names sources texts steps (k + 1))
  step_declares d h old new a c t f =
      let z = seen_before names sources texts steps k in
      let rows = constants_before names sources texts steps k in
      let here = of_step one_text sources texts (get_or steps k d) in
      let made = f z rows a c in
      subst (λ y. KnowsConstants new.bodies.types.bank new.constants y.said y.definitions (constants_before names sources texts steps (k + 1)) × AreAllTyped new y (constants_before names sources texts steps (k + 1))) (seen_more names sources texts steps k d h)
      (subst (λ r. KnowsConstants new.bodies.types.bank new.constants (seen_after z here).said (seen_after z here).definitions r × AreAllTyped new (seen_after z here) r) (step_rows sources texts (get_or steps k d) rows ∙ steps_more constants_in sources texts steps k d h) (made.0, made.1 t))

  pub all_constants : (all : List Step) → steps ≡ all → length steps ≤ k → constants_before names sources texts steps k ≡ constants_of names sources texts all
  all_constants all same h = all_steps_said constants_in sources texts all steps k same h
