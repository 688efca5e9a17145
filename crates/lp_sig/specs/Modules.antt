-- The names that a module sees: those of its own signature, of the signatures that it names and those that its text declares, each at its first place.
use Rattle.std.specs.Prelude.{◌≡◌, ℕ, suc, List, [], ◌∷◌, ◌++◌, map, take, length, Option, None, Some, if◌then◌else◌}
use Rattle.lp_base.specs.declared.place.Spot.{Spot}
use Rattle.lp_syntax.specs.declared.text.Declaration.{Declaration}
use Rattle.lp_syntax.specs.declared.text.Declaration.TheVariants.{Kinds, LocalKinds, Constants, Locals, Abbreviation, Accumulate, AccumSig, Fixities}
use Rattle.lp_syntax.specs.declared.text.RawType.{RawType}
use Rattle.lp_syntax.specs.declared.text.Sentence.{Sentence}
use Rattle.lp_syntax.specs.declared.text.Sentence.TheVariants.{Declares, Says}
use Rattle.lp_sig.specs.Pieces.{spelled}
use Rattle.lp_sig.specs.Rows.{Row, kind_row, number_row, fixity_row}
use Rattle.lp_sig.specs.Standard.{standard_constants}
use Rattle.lp_sig.specs.Said.{Said, a_kind, an_abbreviation, is_among, names_in, firsts, said_in, kinds_among, abbreviations_among, declared_names, numbered}
use Rattle.lp_sig.specs.Entries.{parameters_row}
use Rattle.lp_sig.specs.declared.entries.KindEntry.{KindEntry}
use Rattle.lp_sig.specs.declared.entries.AbbreviationEntry.{AbbreviationEntry}
use Rattle.lp_sig.specs.declared.signature.Signature.{Signature}

-- the declarations of a module's text
abbrev pub declarations : List Sentence → List Declaration
declarations [] = []
declarations (Declares d ∷ ls) = d ∷ declarations ls
declarations (Says raw ∷ ls) = declarations ls

-- what each signature has, one behind the other
abbrev pub of_each : {A : Type 0} → (Signature → List A) → List Signature → List A
of_each f [] = []
of_each f (s ∷ ss) = f s ++ of_each f ss

-- kinds and abbreviations: what a signature says of them, and what all say that a module sees
abbrev pub kind_said : KindEntry → Row Said
kind_said e = (e.name.items, a_kind e.arity)

abbrev pub abbreviation_said : AbbreviationEntry → Row Said
abbreviation_said e = (e.name.items, an_abbreviation e.type_vars)

abbrev pub said_of : Signature → List (Row Said)
said_of s = map kind_said s.kinds.items ++ map abbreviation_said s.abbreviations.items

abbrev pub said_in_module : Signature → List Signature → List ℕ → List Sentence → List (Row Said)
said_in_module own used text lines = (said_of own ++ of_each said_of used) ++ said_in text (declarations lines)

-- the names of constants: those of a signature, those that a sentence declares, a local one too, and all that a module sees
abbrev pub constants_of : Signature → List (List ℕ)
constants_of s = map (λ e. e.name.items) s.constants.items

abbrev pub local_names : List ℕ → List Spot → Option RawType → List (List ℕ)
local_names text names None = []
local_names text names (Some ty) = map (λ s. spelled text s) names

abbrev pub constant_names_by : List ℕ → Declaration → List (List ℕ)
constant_names_by text (Kinds names n) = []
constant_names_by text (LocalKinds names n) = []
constant_names_by text (Constants names ty) = map (λ s. spelled text s) names.items
constant_names_by text (Locals names ty) = local_names text names.items ty
constant_names_by text (Abbreviation name ps ty) = []
constant_names_by text (Accumulate words) = []
constant_names_by text (AccumSig words) = []
constant_names_by text (Fixities names f n) = []

abbrev pub constant_names_in : List ℕ → List Declaration → List (List ℕ)
constant_names_in text [] = []
constant_names_in text (d ∷ ds) = constant_names_by text d ++ constant_names_in text ds

abbrev pub constant_names : Signature → List Signature → List ℕ → List Sentence → List (List ℕ)
constant_names own used text lines = (constants_of own ++ of_each constants_of used) ++ constant_names_in text (declarations lines)

-- each name once, at its first place, but for those that are known
abbrev pub first_names : List (List ℕ) → List (List ℕ) → List (List ℕ)
first_names known [] = []
first_names known (n ∷ ns) = if is_among n known then first_names known ns else n ∷ first_names (n ∷ known) ns

-- names with numbers, from one on
abbrev pub numbered_names : ℕ → List (List ℕ) → List (Row ℕ)
numbered_names k [] = []
numbered_names k (n ∷ ns) = (n, k) ∷ numbered_names (suc k) ns

-- The names of a module's signature: its kinds have the numbers from 8, its constants those from 32, in order of first place; its fixities are those of the module's own signature.
pub record HasSeen (own : Signature) (used : List Signature) (text : List ℕ) (lines : List Sentence) (s : Signature) : Type 0 where
  pub kinds : map kind_row s.kinds.items ≡ numbered 8 (kinds_among (declared_names (said_in_module own used text lines)))
  pub abbreviations : map parameters_row s.abbreviations.items ≡ abbreviations_among (declared_names (said_in_module own used text lines))
  pub constants : map number_row s.constants.items ≡ numbered_names 32 (first_names (names_in standard_constants) (constant_names own used text lines))
  pub fixities : map fixity_row s.fixities.items ≡ firsts [] (map fixity_row own.fixities.items)

-- The names of a signature are apart, and none is standard; kinds and abbreviations share theirs.
pub record IsApart (s : Signature) : Type 0 where
  pub kinds : declared_names (said_of s) ≡ said_of s
  pub constants : first_names (names_in standard_constants) (constants_of s) ≡ constants_of s

-- The first names of a module's signature are those of its own one, in its order.
pub record HasOwnFirst (own s : Signature) : Type 0 where
  pub kinds : take (length own.kinds.items) (map (λ e. e.name.items) s.kinds.items) ≡ map (λ e. e.name.items) own.kinds.items
  pub constants : take (length own.constants.items) (map (λ e. e.name.items) s.constants.items) ≡ map (λ e. e.name.items) own.constants.items
