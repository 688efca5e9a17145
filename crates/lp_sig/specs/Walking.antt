-- What the walks over signatures have done, and what is left to do.
use Rattle.std.specs.Global.{Global}
use Rattle.std.specs.Prelude.{◌≡◌, ℕ, suc, ◌+◌, ◌<◌, List, [], ◌∷◌, ◌++◌, Bool, true, false, map, reverse, length, Contains, Vec}
use Rattle.lp_syntax.specs.declared.text.SignatureText.{SignatureText}
use Rattle.lp_sig.specs.Loading.{Way, Loads, LeadsTo, IsCircle, IsFirstCircle}
use Rattle.lp_sig.specs.declared.walk.Step.{Step}
use Rattle.lp_sig.specs.declared.walk.Step.TheVariants.{Enter, Declare}
use Rattle.lp_sig.specs.declared.fault.SigFault.{SigFault}
use Rattle.lp_sig.specs.declared.fault.SigFault.TheVariants as fault

-- a step is that of a text
abbrev pub number_of_step : Step → ℕ
number_of_step (Enter i) = i
number_of_step (Declare i) = i

pub record HasText (sources : List (Vec ℕ Global)) (texts : List SignatureText) (s : Step) : Type 0 where
  pub source : number_of_step s < length sources
  pub text : number_of_step s < length texts

abbrev pub entries : List Way → List Step
entries words = map (λ w. Enter w.1) words

-- what comes of a list of steps that are left, the next one first, with the marks behind it
pub data Run (ways : List (List Way)) : List Bool → List Step → List Step → List Bool → Type 0 where
  over : {marks end : List Bool} {left steps : List Step} → left ≡ [] → steps ≡ [] → end ≡ marks → Run ways marks left steps end
  own : {marks end : List Bool} {left steps : List Step} → (i : ℕ) → (behind more : List Step) → left ≡ Declare i ∷ behind → Run ways marks behind more end → steps ≡ Declare i ∷ more → Run ways marks left steps end
  go : {marks end : List Bool} {left steps : List Step} → (i : ℕ) → (behind here more : List Step) → left ≡ Enter i ∷ behind → (mid : List Bool) → Loads ways marks i here mid → Run ways mid behind more end → steps ≡ here ++ more → Run ways marks left steps end

-- from one state of the walk to a later one; the next step is the last on the stack
abbrev pub Moves : List (List Way) → List Bool → List Step → List Step → List Bool → List Step → List Step → Type 0
Moves ways marks work steps marks' work' steps' =
    (rest : List Step) (end : List Bool) → Run ways marks' (reverse work') rest end → (all : List Step) × Run ways marks (reverse work) all end × (steps' ++ rest ≡ steps ++ all)

-- how much the places without a mark can add
abbrev pub waiting : List Bool → List (List Way) → ℕ
waiting [] ways = 0
waiting (true ∷ ms) [] = waiting ms []
waiting (false ∷ ms) [] = suc (waiting ms [])
waiting (true ∷ ms) (out ∷ ways) = waiting ms ways
waiting (false ∷ ms) (out ∷ ways) = suc (length out) + waiting ms ways

-- some of these words leads to a signature
abbrev pub SomeLeads : List (List Way) → List Way → ℕ → Type 0
SomeLeads ways words i = (w : Way) × Contains words w × LeadsTo ways w.1 i

abbrev pub IsCircleFault : List (List Way) → List Way → ℕ → SigFault → Type 0
IsCircleFault ways words i (fault.CyclicSignature s) = IsCircle ways words i s
IsCircleFault ways words i fault.Memory = Unit {0}
IsCircleFault ways words i _ = ⊥

abbrev pub IsFirstCircleFault : List (List Way) → List Step → SigFault → Type 0
IsFirstCircleFault ways steps (fault.CyclicSignature s) = IsFirstCircle ways steps s
IsFirstCircleFault ways steps fault.Memory = Unit {0}
IsFirstCircleFault ways steps _ = ⊥
