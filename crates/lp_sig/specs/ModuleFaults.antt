-- Why the declarations of a module are refused, and at which sentence. Of a name that the text declares otherwise it is said that its sentence can be at fault no other way.
use Rattle.std.specs.Prelude.{◌≡◌, ◌⊎◌, ◌+◌, slice_get, ◌<◌, ◌≤◌, ℕ, List, [], ◌∷◌, ◌++◌, Bool, true, false, Option, Some, None, map, take, length, All, Contains, slice_index_or, if◌then◌else◌}
use Rattle.lp_base.specs.declared.limits.TheConstants.{MAX_ARGUMENTS, MAX_NAME_BYTES}
use Rattle.lp_base.specs.declared.limit.Limit.TheVariants as limit
use Rattle.lp_base.specs.declared.place.Spot.{Spot}
use Rattle.lp_syntax.specs.declared.text.Declaration.{Declaration}
use Rattle.lp_syntax.specs.declared.text.Declaration.TheVariants.{Kinds, LocalKinds, Constants, Locals, Abbreviation, Accumulate, AccumSig, Fixities}
use Rattle.lp_syntax.specs.declared.text.RawType.{RawType}
use Rattle.lp_syntax.specs.declared.text.Sentence.{Sentence}
use Rattle.lp_calculus.specs.Types.{Ty}
use Rattle.lp_sig.specs.Constants.{Written}
use Rattle.lp_sig.specs.Differing.{HasNameCause, HasTypeCause, IsOtherBodyIf, trees_here}
use Rattle.lp_sig.specs.Pieces.{spelled}
use Rattle.lp_sig.specs.Rows.{Row}
use Rattle.lp_sig.specs.Standard.{standard_kinds, standard_constants}
use Rattle.lp_sig.specs.Said.{Said, a_kind, an_abbreviation, is_among, names_in}
use Rattle.lp_sig.specs.Limits.{AreShort, IsShort, AreApart, IsRepeated}
use Rattle.lp_sig.specs.Words.{IsNameFault, IsMeant, AreMeant, IsNumbered, AreNumbered, IsFirstFault, WordsStand, parameters_of, IsKindsFault, IsLongType, IsSoundType}
use Rattle.lp_sig.specs.GoingTogether.{types_of, AreOfTexts, GoesWith, IsOtherwise, HasNoNumber}
use Rattle.lp_sig.specs.Places.{first_place}
use Rattle.lp_sig.specs.Sights.{signature_words, module_words}
use Rattle.lp_sig.specs.Modules.{declarations, first_names, of_each, said_of, constants_of, constant_names_in, said_in_module}
use Rattle.lp_sig.specs.Types.{Definition, definitions_in}
use Rattle.lp_sig.specs.AsWritten.{as_trees, bodies_of, typed_in}
use Rattle.lp_sig.specs.Abbreviations.{Seen}
use Rattle.lp_sig.specs.Faults.{IsCyclic, IsStraight, IsStraightHead, IsSoundAbbreviation}
use Rattle.lp_sig.specs.SeenByModules.{seen_in_module}
use Rattle.lp_sig.specs.declared.signature.Signature.{Signature}
use Rattle.lp_sig.specs.declared.fault.SigFault.{SigFault}
use Rattle.lp_sig.specs.declared.fault.SigFault.TheVariants as fault
use Rattle.lp_sig.specs.declared.module_fault.ModuleSigFault.{ModuleSigFault}
use Rattle.lp_sig.specs.declared.module_fault.ModuleSigFault.TheVariants as wrong

-- the module's own signature has a kind or an abbreviation of this name, or a constant; standard ones are no names of it
abbrev pub exports_kind : Signature → List ℕ → Bool
exports_kind own name = if is_among name (names_in standard_kinds) then false else is_among name (names_in (said_of own))

abbrev pub exports_constant : Signature → List ℕ → Bool
exports_constant own name = if is_among name (names_in standard_constants) then false else is_among name (constants_of own)

-- the name that a fault calls declared otherwise
abbrev pub differs_at : SigFault → Option Spot
differs_at (fault.Differ s) = Some s
differs_at (fault.UnknownKind s) = None
differs_at (fault.Arity s) = None
differs_at (fault.CyclicAbbreviation s) = None
differs_at (fault.CyclicSignature s) = None
differs_at (fault.Limit l) = None
differs_at fault.Memory = None
differs_at (fault.Header s) = None

-- such a name is blamed as exported where the own signature has it
abbrev pub blamed_at : (List ℕ → Bool) → List ℕ → SigFault → Option Spot → ModuleSigFault
blamed_at exports text f None = wrong.Sig f
blamed_at exports text f (Some s) = if exports (spelled text s) then wrong.Exported s else wrong.Sig f

abbrev pub blamed_by : (List ℕ → Bool) → List ℕ → SigFault → ModuleSigFault
blamed_by exports text f = blamed_at exports text f (differs_at f)

-- the kinds that sentences declare with a count of arguments, local ones too
abbrev pub kind_names_by : List ℕ → Declaration → List (List ℕ)
kind_names_by text (Kinds names n) = map (λ s. spelled text s) names.items
kind_names_by text (LocalKinds names None) = []
kind_names_by text (LocalKinds names (Some n)) = map (λ s. spelled text s) names.items
kind_names_by text (Constants names ty) = []
kind_names_by text (Locals names ty) = []
kind_names_by text (Abbreviation name ps ty) = []
kind_names_by text (Accumulate words) = []
kind_names_by text (AccumSig words) = []
kind_names_by text (Fixities names f n) = []

abbrev pub kind_names_in : List ℕ → List Declaration → List (List ℕ)
kind_names_in text [] = []
kind_names_in text (d ∷ ds) = kind_names_by text d ++ kind_names_in text ds

-- the first of these names that is refused, where the names before it are taken
pub record IsFirstOf (P : Spot → ModuleSigFault → Type 0) (Q : Spot → Type 0) (names : List Spot) (e : ModuleSigFault) : Type 0 where
  pub k : ℕ
  pub name : Spot
  pub inside : k < length names
  pub at_name : slice_index_or names k name ≡ name
  pub refused : P name e
  pub before : All Q (take k names)

-- a local name is exported, or something else is wrong with it
pub data IsLocalFault (exports : List ℕ → Bool) (text : List ℕ) (P : Spot → ModuleSigFault → Type 0) (s : Spot) (e : ModuleSigFault) : Type 0 where
  is_exported : exports (spelled text s) ≡ true → e ≡ wrong.Exported s → IsLocalFault exports text P s e
  its_fault : exports (spelled text s) ≡ false → P s e → IsLocalFault exports text P s e

abbrev pub IsLocal : (List ℕ → Bool) → List ℕ → (Spot → Type 0) → Spot → Type 0
IsLocal exports text Q s = (exports (spelled text s) ≡ false) × Q s

-- local kinds with a count of arguments: a name of them, then the count
pub data IsLocalKindsFault (own : Signature) (text : List ℕ) (said : List (Row Said)) (names : List Spot) (n : ℕ) (e : ModuleSigFault) : Type 0 where
  a_local_kind : IsFirstOf (IsLocalFault (exports_kind own) text (λ s e. (f : SigFault) × IsNameFault text said (a_kind n) s f × (e ≡ wrong.Sig f))) (IsLocal (exports_kind own) text (λ s. IsMeant text said (a_kind n) s × IsNumbered text said s)) names e →
      IsLocalKindsFault own text said names n e
  many_arguments : All (IsLocal (exports_kind own) text (λ s. IsMeant text said (a_kind n) s × IsNumbered text said s)) names → MAX_ARGUMENTS < n → e ≡ wrong.Sig (fault.Limit limit.Arguments) → IsLocalKindsFault own text said names n e

-- local names without a count or a type: one that is exported, or that no sentence of the text declares with one
abbrev pub IsKnownFault : (List ℕ → Bool) → (Spot → ModuleSigFault) → List ℕ → List (List ℕ) → List Spot → ModuleSigFault → Type 0
IsKnownFault exports told text known names e =
    IsFirstOf (IsLocalFault exports text (λ s e. (is_among (spelled text s) known ≡ false) × (e ≡ told s))) (IsLocal exports text (λ s. is_among (spelled text s) known ≡ true)) names e

-- a declared type: its length as written, then its words, then the number of its type variables behind its abbreviations (which is told by HasTypeCause, where bodies are those of texts)
pub data IsTypeFault (text : List ℕ) (said : List (Row Said)) (ty : RawType) (e : SigFault) : Type 0 where
  long_type : e ≡ fault.Limit limit.Arguments → IsLongType ty.nodes.items ty.root → IsTypeFault text said ty e
  word_of_type : (IsLongType ty.nodes.items ty.root → ⊥) → IsFirstFault text said None ty.nodes.items e → IsTypeFault text said ty e
  many_variables : e ≡ fault.Limit limit.Arguments → IsSoundType text said ty → IsTypeFault text said ty e

-- a name of a sentence with a sound type: it is declared otherwise, or no number is left for it
pub data IsNewFault (names : List Spot) (e : SigFault) : Type 0 where
  other_type : (s : Spot) → Contains names s → e ≡ fault.Differ s → IsNewFault names e
  no_number : e ≡ fault.Limit limit.Names → IsNewFault names e

-- constants: a long name, then the type, then a name
pub data AreConstantsWrong (text : List ℕ) (said : List (Row Said)) (names : List Spot) (ty : RawType) (e : SigFault) : Type 0 where
  a_long_name : e ≡ fault.Limit limit.NameLength → (s : Spot) → Contains names s → MAX_NAME_BYTES < length (spelled text s) → AreConstantsWrong text said names ty e
  a_bad_type : AreShort text names → IsTypeFault text said ty e → AreConstantsWrong text said names ty e
  a_bad_name : AreShort text names → IsSoundType text said ty → IsNewFault names e → AreConstantsWrong text said names ty e

-- a local name that is not exported, of a sentence with a sound type: it is long, or declared otherwise, or no number is left for it
abbrev pub IsNewLocal : List ℕ → Spot → ModuleSigFault → Type 0
IsNewLocal text s e = ((e ≡ wrong.Sig (fault.Limit limit.NameLength)) × (MAX_NAME_BYTES < length (spelled text s))) ⊎ (IsShort text s × ((f : SigFault) × IsNewFault (s ∷ []) f × (e ≡ wrong.Sig f)))

-- local constants: where the type has a fault an exported name goes first, then a long one, then the type; else the names in order
pub data AreLocalsWrong (own : Signature) (text : List ℕ) (said : List (Row Said)) (names : List Spot) (ty : RawType) (e : ModuleSigFault) : Type 0 where
  local_exported : (f : SigFault) → IsTypeFault text said ty f → IsFirstOf (λ s e. (exports_constant own (spelled text s) ≡ true) × (e ≡ wrong.Exported s)) (λ s. exports_constant own (spelled text s) ≡ false) names e → AreLocalsWrong own text said names ty e
  local_long : (f : SigFault) → IsTypeFault text said ty f → All (λ s. exports_constant own (spelled text s) ≡ false) names → (s : Spot) → Contains names s → MAX_NAME_BYTES < length (spelled text s) → e ≡ wrong.Sig (fault.Limit limit.NameLength) → AreLocalsWrong own text said names ty e
  local_type : (f : SigFault) → IsTypeFault text said ty f → All (λ s. exports_constant own (spelled text s) ≡ false) names → AreShort text names → e ≡ wrong.Sig f → AreLocalsWrong own text said names ty e
  local_name : IsSoundType text said ty → IsFirstOf (IsLocalFault (exports_constant own) text (IsNewLocal text)) (IsLocal (exports_constant own) text (IsShort text)) names e → AreLocalsWrong own text said names ty e

-- local kinds and local constants, where the text declares these names with a count, or a type
abbrev pub AreLocalKindsRefused : Signature → List ℕ → List (Row Said) → List (List ℕ) → List Spot → Option ℕ → ModuleSigFault → Type 0
AreLocalKindsRefused own text said known names None e = IsKnownFault (exports_kind own) (λ s. wrong.Sig (fault.UnknownKind s)) text known names e
AreLocalKindsRefused own text said known names (Some n) e = IsLocalKindsFault own text said names n e

abbrev pub AreLocalKindsTaken : Signature → List ℕ → List (Row Said) → List (List ℕ) → List Spot → Option ℕ → Type 0
AreLocalKindsTaken own text said known names None = All (IsLocal (exports_kind own) text (λ s. is_among (spelled text s) known ≡ true)) names
AreLocalKindsTaken own text said known names (Some n) = All (IsLocal (exports_kind own) text (λ s. IsMeant text said (a_kind n) s × IsNumbered text said s)) names × (n ≤ MAX_ARGUMENTS)

abbrev pub AreLocalsRefused : Signature → List ℕ → List (Row Said) → List (List ℕ) → List Spot → Option RawType → ModuleSigFault → Type 0
AreLocalsRefused own text said known names None e = IsKnownFault (exports_constant own) (λ s. wrong.Undeclared s) text known names e
AreLocalsRefused own text said known names (Some ty) e = AreLocalsWrong own text said names ty e

abbrev pub AreLocalsTaken : Signature → List ℕ → List (Row Said) → List (List ℕ) → List Spot → Option RawType → Type 0
AreLocalsTaken own text said known names None = All (IsLocal (exports_constant own) text (λ s. is_among (spelled text s) known ≡ true)) names
AreLocalsTaken own text said known names (Some ty) = All (IsLocal (exports_constant own) text (IsShort text)) names × IsSoundType text said ty

-- an abbreviation: its name, then that its body leads back to it, then a parameter that stands a second time, then their number, then the first word of its body that has a fault, then another body than the first one
pub data IsAbbreviationWrong (text : List ℕ) (z : Seen) (name : Spot) (ps : List Spot) (ty : RawType) (e : SigFault) : Type 0 where
  a_name : IsNameFault text z.said (an_abbreviation (length ps)) name e → IsAbbreviationWrong text z name ps ty e
  circle : e ≡ fault.CyclicAbbreviation name → IsMeant text z.said (an_abbreviation (length ps)) name → IsCyclic text z name ty → IsAbbreviationWrong text z name ps ty e
  repeated : (s : Spot) → e ≡ fault.Differ s → IsStraight text z name (length ps) ty → IsRepeated text ps s → IsAbbreviationWrong text z name ps ty e
  arguments : e ≡ fault.Limit limit.Arguments → IsStraight text z name (length ps) ty → AreApart text ps → MAX_ARGUMENTS < length ps → IsAbbreviationWrong text z name ps ty e
  a_word : IsStraightHead text z name ps ty → IsFirstFault text z.said (parameters_of text ps) ty.nodes.items e → IsAbbreviationWrong text z name ps ty e
  other : e ≡ fault.Differ name → IsStraightHead text z name ps ty → WordsStand text z.said (parameters_of text ps) ty.nodes.items → IsAbbreviationWrong text z name ps ty e

-- why a word is refused that names this signature, where these are before it: it declares a name otherwise, or no number is left for its kinds or constants
pub data IsWordFault (before : List Signature) (u : Signature) (word : Spot) (e : ModuleSigFault) : Type 0 where
  otherwise : e ≡ wrong.Sig (fault.Differ word) → IsOtherwise before u → IsWordFault before u word e
  many : e ≡ wrong.Sig (fault.Limit limit.Names) → HasNoNumber before u → IsWordFault before u word e

-- the signature that a word names: the words of accum_sig name the first ones by their first places, and those of accumulate the ones behind them
abbrev pub IsNamedBy : (used : List Signature) (text : List ℕ) (from : ℕ) (all : List (List ℕ)) → Spot → ℕ → Signature → Type 0
IsNamedBy used text from all word i u = (first_place (spelled text word) (first_names [] all) ≡ Some i) × (slice_get used (from + i) ≡ Some u)

abbrev pub IsWordRefused : (own : Signature) (used : List Signature) (text : List ℕ) (from : ℕ) (all : List (List ℕ)) → Spot → ModuleSigFault → Type 0
IsWordRefused own used text from all word e = (i : ℕ) × (u : Signature) × IsNamedBy used text from all word i u × IsWordFault (own ∷ take (from + i) used) u word e

-- a word is taken: its signature goes with those before it
abbrev pub IsWordTaken : (own : Signature) (used : List Signature) (text : List ℕ) (from : ℕ) (all : List (List ℕ)) → Spot → Type 0
IsWordTaken own used text from all word = (i : ℕ) (u : Signature) → IsNamedBy used text from all word i u → GoesWith (own ∷ take (from + i) used) u

-- the words of a sentence: the first that is refused, or all that are taken
abbrev pub AreModulesRefused : Signature → List Signature → List ℕ → List Declaration → List Spot → ModuleSigFault → Type 0
AreModulesRefused own used text ds words e = IsFirstOf (IsWordRefused own used text (length (first_names [] (signature_words text ds))) (module_words text ds))
    (IsWordTaken own used text (length (first_names [] (signature_words text ds))) (module_words text ds)) words e

abbrev pub AreModulesTaken : Signature → List Signature → List ℕ → List Declaration → List Spot → Type 0
AreModulesTaken own used text ds words = All (IsWordTaken own used text (length (first_names [] (signature_words text ds))) (module_words text ds)) words

abbrev pub AreSignaturesRefused : Signature → List Signature → List ℕ → List Declaration → List Spot → ModuleSigFault → Type 0
AreSignaturesRefused own used text ds words e = IsFirstOf (IsWordRefused own used text 0 (signature_words text ds)) (IsWordTaken own used text 0 (signature_words text ds)) words e

abbrev pub AreSignaturesTaken : Signature → List Signature → List ℕ → List Declaration → List Spot → Type 0
AreSignaturesTaken own used text ds words = All (IsWordTaken own used text 0 (signature_words text ds)) words

-- why a sentence is refused, where so much is seen and these are all sentences of the text, and what holds of one that is taken
abbrev pub IsLineFault : Signature → List Signature → List ℕ → Seen → List Declaration → Declaration → ModuleSigFault → Type 0
IsLineFault own used text z ds (Kinds names n) e = (f : SigFault) × IsKindsFault text z.said names.items n f × (e ≡ blamed_by (exports_kind own) text f)
IsLineFault own used text z ds (LocalKinds names count) e = AreLocalKindsRefused own text z.said (kind_names_in text ds) names.items count e
IsLineFault own used text z ds (Constants names ty) e = (f : SigFault) × AreConstantsWrong text z.said names.items ty f × (e ≡ blamed_by (exports_constant own) text f)
IsLineFault own used text z ds (Locals names ty) e = AreLocalsRefused own text z.said (constant_names_in text ds) names.items ty e
IsLineFault own used text z ds (Abbreviation name ps ty) e = (f : SigFault) × IsAbbreviationWrong text z name ps.items ty f × (e ≡ blamed_by (exports_kind own) text f)
IsLineFault own used text z ds (Accumulate words) e = AreModulesRefused own used text ds words.items e
IsLineFault own used text z ds (AccumSig words) e = AreSignaturesRefused own used text ds words.items e
IsLineFault own used text z ds (Fixities names f n) e = ⊥

abbrev pub IsLineTaken : Signature → List Signature → List ℕ → Seen → List Declaration → Declaration → Type 0
IsLineTaken own used text z ds (Kinds names n) = AreMeant text z.said (a_kind n) names.items × AreNumbered text z.said names.items × (n ≤ MAX_ARGUMENTS)
IsLineTaken own used text z ds (LocalKinds names count) = AreLocalKindsTaken own text z.said (kind_names_in text ds) names.items count
IsLineTaken own used text z ds (Constants names ty) = AreShort text names.items × IsSoundType text z.said ty
IsLineTaken own used text z ds (Locals names ty) = AreLocalsTaken own text z.said (constant_names_in text ds) names.items ty
IsLineTaken own used text z ds (Abbreviation name ps ty) = IsSoundAbbreviation text z name ps.items ty
IsLineTaken own used text z ds (Accumulate words) = AreModulesTaken own used text ds words.items
IsLineTaken own used text z ds (AccumSig words) = AreSignaturesTaken own used text ds words.items
IsLineTaken own used text z ds (Fixities names f n) = Unit {0}

-- the first sentence that is refused, and why: each one before it is taken
pub record IsFaultAmong (own : Signature) (used : List Signature) (text : List ℕ) (z : Seen) (ds : List Declaration) (e : ModuleSigFault) : Type 0 where
  pub k : ℕ
  pub line : Declaration
  pub inside : k < length ds
  pub at_line : slice_index_or ds k line ≡ line
  pub why : IsLineFault own used text z ds line e
  pub before : All (IsLineTaken own used text z ds) (take k ds)

-- the same of a sentence: exported constants are blamed as such, and local ones of a type have faults of their own
abbrev pub HaveLocalsCause : List ℕ → List (List ℕ) → List Spot → Option RawType → ModuleSigFault → Type 0
HaveLocalsCause text words names None e = Unit {0}
HaveLocalsCause text words names (Some ty) e = (f : SigFault) → e ≡ wrong.Sig f → HasNameCause text words names f

abbrev pub HasLineCause : Signature → List ℕ → List (List ℕ) → Declaration → ModuleSigFault → Type 0
HasLineCause own text words (Kinds names n) e = Unit {0}
HasLineCause own text words (LocalKinds names count) e = Unit {0}
HasLineCause own text words (Constants names ty) e = (f : SigFault) × (e ≡ blamed_by (exports_constant own) text f) × HasNameCause text words names.items f
HasLineCause own text words (Locals names ty) e = HaveLocalsCause text words names.items ty e
HasLineCause own text words (Abbreviation name ps ty) e = Unit {0}
HasLineCause own text words (Accumulate ws) e = Unit {0}
HasLineCause own text words (AccumSig ws) e = Unit {0}
HasLineCause own text words (Fixities names f n) e = Unit {0}

abbrev pub HaveLocalsTypeCause : List ℕ → List (Row Said) → List (Row Definition) → List (Row Ty) → List (Row Written) → List Spot → Option RawType → ModuleSigFault → Type 0
HaveLocalsTypeCause text said defs given rows names None e = Unit {0}
HaveLocalsTypeCause text said defs given rows names (Some ty) e = (f : SigFault) → e ≡ wrong.Sig f → HasTypeCause text said defs given rows names ty f

abbrev pub HasLineTypeCause : Signature → List ℕ → List (Row Said) → List (Row Definition) → List (Row Ty) → List (Row Written) → Declaration → ModuleSigFault → Type 0
HasLineTypeCause own text said defs given rows (Kinds names n) e = Unit {0}
HasLineTypeCause own text said defs given rows (LocalKinds names count) e = Unit {0}
HasLineTypeCause own text said defs given rows (Constants names ty) e = (f : SigFault) × (e ≡ blamed_by (exports_constant own) text f) × HasTypeCause text said defs given rows names.items ty f
HasLineTypeCause own text said defs given rows (Locals names ty) e = HaveLocalsTypeCause text said defs given rows names.items ty e
HasLineTypeCause own text said defs given rows (Abbreviation name ps ty) e = (f : SigFault) × (e ≡ blamed_by (exports_kind own) text f) × IsOtherBodyIf text said defs name ps.items ty f
HasLineTypeCause own text said defs given rows (Accumulate ws) e = Unit {0}
HasLineTypeCause own text said defs given rows (AccumSig ws) e = Unit {0}
HasLineTypeCause own text said defs given rows (Fixities names f n) e = Unit {0}

-- what is told of a refusal at a sentence, behind those before it in the text: a constant that is declared otherwise is known, in the language, in the signatures or in these sentences, and where numbers are wanting none is left.
-- Where the signatures are as texts have them, one that differs has another type than the known one, a type that is refused for its arguments has too many of them, or of type variables, and an abbreviation that differs has another body than the first one of its name.
pub record IsToldAt (own : Signature) (used : List Signature) (text : List ℕ) (lines : List Sentence) (before : List Declaration) (line : Declaration) (e : ModuleSigFault) : Type 0 where
  pub names : HasLineCause own text ((constants_of own ++ of_each constants_of used) ++ constant_names_in text before) line e
  pub types : AreOfTexts (own ∷ used) → HasLineTypeCause own text (said_in_module own used text lines)
      (as_trees (trees_here (said_of own ++ of_each said_of used) (bodies_of own ++ of_each bodies_of used)) ++ definitions_in text (declarations lines))
      (trees_here (said_of own ++ of_each said_of used) (types_of own ++ of_each types_of used)) (typed_in text before) line e

-- Why the declarations of a module are refused, where its own signature and those that it names are these: want of memory alone is free.
abbrev pub IsDeclarationRefusal : Signature → List Signature → List ℕ → List Sentence → ModuleSigFault → Type 0
IsDeclarationRefusal own used text lines e =
    (e ≡ wrong.Sig fault.Memory) ⊎ ((f : IsFaultAmong own used text (seen_in_module own used text lines) (declarations lines) e) × IsToldAt own used text lines (take f.k (declarations lines)) f.line e)
