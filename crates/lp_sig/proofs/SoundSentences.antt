-- What holds of a sentence that is taken: where its type stands, all that the type uses is settled.
use Rattle.std.specs.Global.{Global}
use Rattle.std.proofs.Common.{◌≡◌, ℕ, ◌++◌, List, [], sym, ap, subst, ◌∙◌, append-nil}
use Rattle.std.specs.Prelude.{Vec}
use Rattle.lp_base.specs.declared.place.Spot.{Spot}
use Rattle.lp_syntax.specs.declared.text.Declaration.{Declaration}
use Rattle.lp_syntax.specs.declared.text.Declaration.TheVariants as declaration
use Rattle.lp_syntax.specs.declared.text.RawType.{RawType}
use Rattle.lp_sig.specs.Rows.{Row}
use Rattle.lp_sig.specs.Said.{each}
use Rattle.lp_sig.specs.Abbreviations.{Seen, abbreviation_names, uses_in}
use Rattle.lp_sig.specs.Standing.{TypeStands}
use Rattle.lp_sig.specs.Constants.{Written, written_in, constants_by, AreUsesSettled, AreSettledIf, AreTypedIf, AreTakenConstants}
use Rattle.lp_sig.specs.declared.bodies.Body.{Body}
use Rattle.lp_sig.specs.declared.constants.Constants.{Constants}
use Rattle.lp_sig.proofs.UsesSettled.{use_inside}

-- what a type uses that stands is settled
pub uses_settled : (from : ℕ) (z : Seen) (bodies : List Body) (text : List ℕ) (ty : RawType) → AreSettledIf from z bodies → TypeStands from z text ty → AreUsesSettled bodies (uses_in (abbreviation_names z.said) text ty.nodes.items)
uses_settled from z bodies text ty all stands = λ w c. all w.1 (use_inside (abbreviation_names z.said) text ty.nodes.items w c) (stands w c)

-- the constants behind a sentence, and that its own were taken
abbrev pub HasItsConstants : ℕ → Seen → List (Row Written) → Constants → List (Row Written) → Type 0
HasItsConstants from z rows constants own = AreTypedIf from z (rows ++ own) constants × AreTakenConstants from z rows own

module _ (from : ℕ) (z : Seen) (rows : List (Row Written)) (text : List ℕ) where
  -- a sentence that declares no constant, and one that does
  pub none_taken : (constants : Constants) (l d : Declaration) → l ≡ d → constants_by text d ≡ [] → AreTypedIf from z rows constants → HasItsConstants from z rows constants (constants_by text l)
  none_taken constants l d is none h =
      subst (HasItsConstants from z rows constants) (sym none ∙ ap (constants_by text) (sym is)) (subst (λ r. AreTypedIf from z r constants) (sym (append-nil rows)) h, tt)

  pub its_taken : (constants : Constants) (l : Declaration) (names : Vec Spot Global) (slice : List Spot) (ty : RawType) → l ≡ declaration.Constants
      names ty → slice ≡ names.items → HasItsConstants from z rows constants (each text (written_in text ty) slice) → HasItsConstants from z rows
      constants (constants_by text l)
  its_taken constants l names slice ty is same h =
      subst (λ l. HasItsConstants from z rows constants (constants_by text l)) (sym is) (subst (λ s. HasItsConstants from z rows constants (each text (written_in text ty) s)) same h)
