-- What the sentences of texts say of names, in text order, and what each name is declared as: the first thing that is said of it.
use Rattle.std.specs.Global.{Global}
use Rattle.std.specs.Prelude.{ℕ, zero, suc, List, [], ◌∷◌, ◌++◌, Bool, false, map, length, Some, None, Vec, ◌||◌, if◌then◌else◌, nat_le}
use Rattle.std.specs.Str.{bytes_eq}
use Rattle.lp_base.specs.declared.place.Spot.{Spot}
use Rattle.lp_standard.specs.declared.fixity.Fixity.{Fixity}
use Rattle.lp_syntax.specs.declared.text.Declaration.{Declaration}
use Rattle.lp_syntax.specs.declared.text.Declaration.TheVariants.{Kinds, LocalKinds, Constants, Locals, Abbreviation, Accumulate, AccumSig, Fixities}
use Rattle.lp_syntax.specs.declared.text.SignatureText.{SignatureText}
use Rattle.lp_sig.specs.Pieces.{spelled}
use Rattle.lp_sig.specs.Rows.{Row}
use Rattle.lp_sig.specs.Standard.{standard_kinds}
use Rattle.lp_sig.specs.declared.walk.Step.{Step}
use Rattle.lp_sig.specs.declared.walk.Step.TheVariants.{Enter, Declare}

abbrev pub is_among : List ℕ → List (List ℕ) → Bool
is_among n [] = false
is_among n (m ∷ ms) = bytes_eq n m || is_among n ms

abbrev pub names_in : {A : Type 0} → List (Row A) → List (List ℕ)
names_in rows = map (λ r. r.0) rows

-- the first row of each name that is not known
abbrev pub firsts : {A : Type 0} → List (List ℕ) → List (Row A) → List (Row A)
firsts known [] = []
firsts known (r ∷ rs) = if is_among r.0 known then firsts known rs else r ∷ firsts (r.0 ∷ known) rs

-- a kind with its count of arguments, or an abbreviation with its count of parameters
pub data Said : Type 0 where
  a_kind : (count : ℕ) → Said
  an_abbreviation : (parameters : ℕ) → Said

abbrev pub each : {A : Type 0} → List ℕ → A → List Spot → List (Row A)
each text a names = map (λ s. (spelled text s, a)) names

-- what a sentence says of kinds and abbreviations; that of localkind stands in modules alone
abbrev pub said_by : List ℕ → Declaration → List (Row Said)
said_by text (Kinds names n) = each text (a_kind n) names.items
said_by text (LocalKinds names None) = []
said_by text (LocalKinds names (Some n)) = each text (a_kind n) names.items
said_by text (Constants names ty) = []
said_by text (Locals names ty) = []
said_by text (Abbreviation name ps ty) = each text (an_abbreviation (length ps.items)) (name ∷ [])
said_by text (Accumulate words) = []
said_by text (AccumSig words) = []
said_by text (Fixities names f n) = []

abbrev pub said_in : List ℕ → List Declaration → List (Row Said)
said_in text [] = []
said_in text (d ∷ ds) = said_by text d ++ said_in text ds

abbrev pub kinds_among : List (Row Said) → List (Row ℕ)
kinds_among [] = []
kinds_among ((n, a_kind c) ∷ rs) = (n, c) ∷ kinds_among rs
kinds_among ((n, an_abbreviation p) ∷ rs) = kinds_among rs

abbrev pub abbreviations_among : List (Row Said) → List (Row ℕ)
abbreviations_among [] = []
abbreviations_among ((n, a_kind c) ∷ rs) = abbreviations_among rs
abbreviations_among ((n, an_abbreviation p) ∷ rs) = (n, p) ∷ abbreviations_among rs

-- what is declared: kinds and abbreviations share their names, and standard names are known
abbrev pub declared_names : List (Row Said) → List (Row Said)
declared_names said = firsts (names_in standard_kinds) said

-- kinds with their numbers, from a number on
abbrev pub numbered : ℕ → List (Row ℕ) → List (Row (ℕ × ℕ))
numbered n [] = []
numbered n (r ∷ rs) = (r.0, (n, r.1)) ∷ numbered (suc n) rs

-- what a sentence says of operators; a number above 255 is refused with the table of operators
abbrev pub fixities_by : List ℕ → Declaration → List (Row (Fixity × ℕ))
fixities_by text (Kinds names n) = []
fixities_by text (LocalKinds names n) = []
fixities_by text (Constants names ty) = []
fixities_by text (Locals names ty) = []
fixities_by text (Abbreviation name ps ty) = []
fixities_by text (Accumulate words) = []
fixities_by text (AccumSig words) = []
fixities_by text (Fixities names f n) = if nat_le n 255 then each text (f, n) names.items else []

abbrev pub fixities_in : List ℕ → List Declaration → List (Row (Fixity × ℕ))
fixities_in text [] = []
fixities_in text (d ∷ ds) = fixities_by text d ++ fixities_in text ds

-- the declarations of the texts, in the order of the steps
abbrev pub of_text : {A : Type 0} → (List ℕ → List Declaration → List A) → List (Vec ℕ Global) → List SignatureText → ℕ → List A
of_text f sources [] i = []
of_text f [] (t ∷ ts) i = []
of_text f (s ∷ ss) (t ∷ ts) zero = f s.items t.lines.items
of_text f (s ∷ ss) (t ∷ ts) (suc i) = of_text f ss ts i

abbrev pub of_step : {A : Type 0} → (List ℕ → List Declaration → List A) → List (Vec ℕ Global) → List SignatureText → Step → List A
of_step f sources texts (Enter i) = []
of_step f sources texts (Declare i) = of_text f sources texts i

abbrev pub of_steps : {A : Type 0} → (List ℕ → List Declaration → List A) → List (Vec ℕ Global) → List SignatureText → List Step → List A
of_steps f sources texts [] = []
of_steps f sources texts (s ∷ ss) = of_step f sources texts s ++ of_steps f sources texts ss
