-- Why signatures are refused, and at which spots.
use Rattle.std.specs.Global.{Global}
use Rattle.std.specs.Prelude.{◌≡◌, ◌≢◌, ℕ, ◌<◌, ◌⊎◌, List, [], ◌++◌, map, take, length, Contains, String, Vec, string_bytes, slice_index_or}
use Rattle.lp_base.specs.declared.place.Spot.{Spot}
use Rattle.lp_syntax.specs.declared.text.Declaration.{Declaration}
use Rattle.lp_syntax.specs.declared.text.SignatureText.{SignatureText}
use Rattle.lp_sig.specs.Pieces.{spelled}
use Rattle.lp_standard.specs.declared.fixity.Fixity.{Fixity}
use Rattle.lp_sig.specs.Rows.{Row}
use Rattle.lp_sig.specs.Faults.{IsSentenceFault, AreSound}
use Rattle.lp_sig.specs.Standing.{seen_count, AllStand}
use Rattle.lp_sig.specs.Types.{AreAlike}
use Rattle.lp_sig.specs.Constants.{Written, constants_in, AreConstants, AreTakenConstants, HaveFirstTypes, HaveNumbers}
use Rattle.lp_sig.specs.Entries.{AreAbbreviations}
use Rattle.lp_sig.specs.Abbreviations.{Seen, nothing_seen, one_text, seen_text, seen_after}
use Rattle.lp_sig.specs.Said.{numbered, firsts, kinds_among, declared_names, fixities_in, of_steps}
use Rattle.lp_sig.specs.Limits.{AreWithin}
use Rattle.lp_sig.specs.Loading.{Way, ways_between, IsLoadOrder, HasNoCircle, IsFirstCircle}
use Rattle.lp_term.specs.Nodes.{Nodes}
use Rattle.lp_sig.specs.declared.entries.AbbreviationEntry.{AbbreviationEntry}
use Rattle.lp_sig.specs.declared.entries.ConstantEntry.{ConstantEntry}
use Rattle.lp_sig.specs.declared.walk.Step.{Step}
use Rattle.lp_sig.specs.declared.walk.Step.TheVariants.{Enter, Declare}
use Rattle.lp_sig.specs.declared.fault.SigFault.{SigFault}
use Rattle.lp_sig.specs.declared.fault.SigFault.TheVariants as fault

abbrev pub IsAt : {A : Type 0} → List A → ℕ → A → Type 0
IsAt xs i x = (i < length xs) × (slice_index_or xs i x ≡ x)

-- why the declarations of a text are refused, where so much is seen up to its end, and these constants were declared before it: none
-- before the one at fault passes a limit, or has a fault
pub record IsFaultAt (text : List ℕ) (from : ℕ) (z : Seen) (rows : List (Row Written)) (lines : List Declaration) (e : SigFault) : Type 0 where
  pub k : ℕ
  pub line : Declaration
  pub at_line : IsAt lines k line
  pub why : IsSentenceFault from text z (rows ++ constants_in text (take k lines)) line e
  pub before : AreWithin text (take k lines)
  pub sound : AreSound from text z (take k lines)
  pub constants : AreTakenConstants from z rows (constants_in text (take k lines))

abbrev pub IsFaultIn : List ℕ → ℕ → Seen → List (Row Written) → List Declaration → SigFault → Type 0
IsFaultIn text from z rows lines e = (e ≡ fault.Memory) ⊎ IsFaultAt text from z rows lines e

-- the text of a number, with its name and its bytes
pub record IsText (names : List (String Global)) (sources : List (Vec ℕ Global)) (texts : List SignatureText) (i : ℕ) (name : String Global) (source : Vec ℕ Global) (text : SignatureText) : Type 0 where
  pub at_name : IsAt names i name
  pub at_source : IsAt sources i source
  pub at_text : IsAt texts i text

-- a declaration of a text is at fault, where so much was seen before the text
pub record IsAtFault (sources : List (Vec ℕ Global)) (texts : List SignatureText) (z : Seen) (rows : List (Row Written)) (i : ℕ) (e : SigFault) : Type 0 where
  pub source : Vec ℕ Global
  pub text : SignatureText
  pub at_source : IsAt sources i source
  pub at_text : IsAt texts i text
  pub fault : IsFaultIn source.items (seen_count z) (seen_text z source.items text.lines.items) rows text.lines.items e

-- the declarations of a text are taken: none passes a limit, or has a fault, and its abbreviations stand
pub record AreTaken (sources : List (Vec ℕ Global)) (texts : List SignatureText) (z : Seen) (rows : List (Row Written)) (i : ℕ) : Type 0 where
  pub source : Vec ℕ Global
  pub text : SignatureText
  pub at_source : IsAt sources i source
  pub at_text : IsAt texts i text
  pub within : AreWithin source.items text.lines.items
  pub sound : AreSound (seen_count z) source.items (seen_text z source.items text.lines.items) text.lines.items
  pub constants : AreTakenConstants (seen_count z) (seen_text z source.items text.lines.items) rows (constants_in source.items text.lines.items)
  pub stand : AllStand (seen_count z) (seen_text z source.items text.lines.items)

module _ (names : List (String Global)) (sources : List (Vec ℕ Global)) (texts : List SignatureText) where
  -- the header of a text is its name, or another word
  pub record HasItsHeader (i : ℕ) : Type 0 where
    pub name : String Global
    pub source : Vec ℕ Global
    pub text : SignatureText
    pub is : IsText names sources texts i name source text
    pub same : spelled source.items text.header ≡ string_bytes name

  pub record HasOtherHeader (i : ℕ) (e : SigFault) : Type 0 where
    pub name : String Global
    pub source : Vec ℕ Global
    pub text : SignatureText
    pub is : IsText names sources texts i name source text
    pub fault : e ≡ fault.Header text.header
    pub other : spelled source.items text.header ≢ string_bytes name

  -- a step is refused, or it is taken, where so much was seen before
  abbrev pub IsStepRefused : Seen → List (Row Written) → Step → SigFault → Type 0
  IsStepRefused z rows (Enter i) e = HasOtherHeader i e
  IsStepRefused z rows (Declare i) e = IsAtFault sources texts z rows i e

  abbrev pub IsStepTaken : Seen → List (Row Written) → Step → Type 0
  IsStepTaken z rows (Enter i) = HasItsHeader i
  IsStepTaken z rows (Declare i) = AreTaken sources texts z rows i

  -- what is seen behind the first so many steps
  abbrev pub seen_before : List Step → ℕ → Seen
  seen_before steps k = seen_after nothing_seen (of_steps one_text sources texts (take k steps))

  -- the constants that the first so many steps declare, and those of all steps
  abbrev pub constants_before : List Step → ℕ → List (Row Written)
  constants_before steps k = of_steps constants_in sources texts (take k steps)

  abbrev pub constants_of : List Step → List (Row Written)
  constants_of steps = of_steps constants_in sources texts steps

  -- what is seen behind all steps
  abbrev pub seen_in : List Step → Seen
  seen_in steps = seen_after nothing_seen (of_steps one_text sources texts steps)

  -- the first so many steps are taken
  abbrev pub AreStepsTaken : List Step → ℕ → Type 0
  AreStepsTaken steps n = (k : ℕ) (s : Step) → k < n → IsAt steps k s → IsStepTaken (seen_before steps k) (constants_before steps k) s

  -- the ways of accum_sig between these texts
  abbrev pub ways : List (List Way)
  ways = ways_between (map (λ n. string_bytes n) names) sources texts

  -- the steps of a root, among which is no circle
  pub record IsFreeOfCircles (root : ℕ) (steps : List Step) : Type 0 where
    pub order : IsLoadOrder ways root steps
    pub free : (i : ℕ) → Contains steps (Enter i) → HasNoCircle ways i

  -- the first word of accum_sig that leads back
  pub record IsCircleFrom (root : ℕ) (s : Spot) : Type 0 where
    pub steps : List Step
    pub order : IsLoadOrder ways root steps
    pub circle : IsFirstCircle ways steps s

  -- the first step that is refused
  pub record IsRefusedFrom (root : ℕ) (e : SigFault) : Type 0 where
    pub steps : List Step
    pub loaded : IsFreeOfCircles root steps
    pub k : ℕ
    pub step : Step
    pub at_step : IsAt steps k step
    pub refused : IsStepRefused (seen_before steps k) (constants_before steps k) step e
    pub taken : AreStepsTaken steps k

  -- why texts are refused: circles go first; want of memory alone is free
  abbrev pub IsRefusal : ℕ → SigFault → Type 0
  IsRefusal root (fault.CyclicSignature s) = IsCircleFrom root s
  IsRefusal root fault.Memory = Unit {0}
  IsRefusal root e = IsRefusedFrom root e

  -- every step is taken, and these kinds, abbreviations, constants and fixities are declared: the first of each name. Each sentence of
  -- typeabbrev has the body of the first one of its name, and each constant the type.
  pub record IsAccepted (root : ℕ) (kinds : List (Row (ℕ × ℕ))) (fixities : List (Row (Fixity × ℕ))) (bank : Nodes) (abbreviations : List AbbreviationEntry) (constants : List ConstantEntry) : Type 0 where
    pub steps : List Step
    pub loaded : IsFreeOfCircles root steps
    pub taken : AreStepsTaken steps (length steps)
    pub kinds_are : kinds ≡ numbered 8 (kinds_among (declared_names (seen_in steps).said))
    pub fixities_are : fixities ≡ firsts [] (of_steps fixities_in sources texts steps)
    pub abbreviations_are : AreAbbreviations bank (seen_in steps) abbreviations
    pub alike : AreAlike (seen_in steps).said (seen_in steps).definitions (seen_in steps).definitions
    pub constants_are : AreConstants bank (seen_in steps).said (seen_in steps).definitions (constants_of steps) constants
    pub numbers : HaveNumbers (constants_of steps)
    pub typed : HaveFirstTypes (seen_in steps).said (seen_in steps).definitions (constants_of steps) (constants_of steps)
