-- What a module's text declares: the types of its constants in the module's signature, and the bodies of the abbreviations.
use Rattle.std.specs.Prelude.{◌≡◌, ◌<◌, ◌≤◌, ℕ, List, [], ◌∷◌, ◌++◌, map, length, Option, Some, None, Contains, All}
use Rattle.lp_base.specs.declared.place.Spot.{Spot}
use Rattle.lp_calculus.specs.Types.{Ty}
use Rattle.lp_term.specs.Nodes.{type_tree}
use Rattle.lp_syntax.specs.declared.text.Declaration.{Declaration}
use Rattle.lp_syntax.specs.declared.text.Declaration.TheVariants.{Kinds, LocalKinds, Constants as OfType, Locals, Abbreviation, Accumulate, AccumSig, Fixities}
use Rattle.lp_syntax.specs.declared.text.RawType.{RawType}
use Rattle.lp_syntax.specs.declared.text.Sentence.{Sentence}
use Rattle.lp_sig.specs.Abbreviations.{abbreviation_names}
use Rattle.lp_sig.specs.Constants.{Written, written_in, IsSchemeOf, standard_tree}
use Rattle.lp_sig.specs.Modules.{declarations, of_each, said_of, said_in_module, IsApart}
use Rattle.lp_sig.specs.Named.{NamedTy, named, kind_name, kind_names, named_in, IsWhole, IsOrdered, many_words}
use Rattle.lp_sig.specs.Rows.{Row, found}
use Rattle.lp_sig.specs.Said.{Said, each, names_in}
use Rattle.lp_sig.specs.Standard.{standard_constants}
use Rattle.lp_sig.specs.Types.{Definition, as_tree, definitions_in, HasBody}
use Rattle.lp_sig.specs.declared.entries.AbbreviationEntry.{AbbreviationEntry}
use Rattle.lp_sig.specs.declared.entries.ConstantEntry.{ConstantEntry}
use Rattle.lp_sig.specs.declared.signature.Signature.{Signature}

-- the constants of a sentence and of a text, local ones too, each with its type as written
abbrev pub typed_locals : List ℕ → List Spot → Option RawType → List (Row Written)
typed_locals text names None = []
typed_locals text names (Some ty) = each text (written_in text ty) names

abbrev pub typed_by : List ℕ → Declaration → List (Row Written)
typed_by text (Kinds names n) = []
typed_by text (LocalKinds names n) = []
typed_by text (OfType names ty) = each text (written_in text ty) names.items
typed_by text (Locals names ty) = typed_locals text names.items ty
typed_by text (Abbreviation name ps ty) = []
typed_by text (Accumulate words) = []
typed_by text (AccumSig words) = []
typed_by text (Fixities names f n) = []

abbrev pub typed_in : List ℕ → List Declaration → List (Row Written)
typed_in text [] = []
typed_in text (d ∷ ds) = typed_by text d ++ typed_in text ds

-- the abbreviations of a signature, with their bodies by the names of kinds
abbrev pub named_body : Signature → AbbreviationEntry → Row NamedTy
named_body s e = (e.name.items, named_in s e.body)

abbrev pub bodies_of : Signature → List (Row NamedTy)
bodies_of s = map (named_body s) s.abbreviations.items

-- each kind of a body has a name
abbrev pub HasWholeBodies : Signature → Type 0
HasWholeBodies s = All (λ e. IsWhole (named_in s e.body)) s.abbreviations.items

-- each kind of the type of a constant has a name
abbrev pub HasWholeTypes : Signature → Type 0
HasWholeTypes s = All (λ e. IsWhole (named_in s e.scheme)) s.constants.items

-- The abbreviations that the signatures have, in order, each with the body that the first of them gives it.
pub record AreGiven (own : Signature) (used : List Signature) (s : Signature) (given : List (Row Ty)) : Type 0 where
  pub names : names_in given ≡ abbreviation_names (said_of own ++ of_each said_of used)
  pub bodies : (name : List ℕ) (t : Ty) → found name given ≡ Some t → found name (bodies_of own ++ of_each bodies_of used) ≡ Some (named (kind_name (kind_names s)) t)

abbrev pub as_trees : List (Row Ty) → List (Row Definition)
as_trees given = map (λ r. (r.0, as_tree r.1)) given

-- a signature has a constant of this name, with so many type variables and this type; every one has those of the language
pub data HasScheme (s : Signature) (name : List ℕ) (count : ℕ) (t : Ty) : Type 0 where
  standard_scheme : (n : ℕ) → found name standard_constants ≡ Some n → t ≡ standard_tree n → HasScheme s name count t
  declared_scheme : (e : ConstantEntry) → Contains s.constants.items e → e.name.items ≡ name → e.type_vars ≡ count → type_tree s.bank e.scheme.0 ≡ t → HasScheme s name count t

-- a constant has the type that is written
pub record HasWrittenType (s : Signature) (said : List (Row Said)) (defs : List (Row Definition)) (row : Row Written) : Type 0 where
  pub count : ℕ
  pub tree : Ty
  pub scheme : IsSchemeOf said defs row.1 count tree
  pub has : HasScheme s row.0 count tree

-- an abbreviation has the body of its definition
pub record HasWrittenBody (s : Signature) (said : List (Row Said)) (defs : List (Row Definition)) (e : AbbreviationEntry) : Type 0 where
  pub inside : e.body.0 < length s.bank.types
  pub body : HasBody said defs e.name.items (type_tree s.bank e.body.0)

-- The constants of a text have the types that are written, and the abbreviations their bodies, over the bodies that the signatures give.
pub record DeclaresAsWritten (own : Signature) (used : List Signature) (text : List ℕ) (lines : List Sentence) (s : Signature) : Type 0 where
  pub given : List (Row Ty)
  pub are : AreGiven own used s given
  pub constants : All (HasWrittenType s (said_in_module own used text lines) (as_trees given ++ definitions_in text (declarations lines))) (typed_in text (declarations lines))
  pub abbreviations : All (HasWrittenBody s (said_in_module own used text lines) (as_trees given ++ definitions_in text (declarations lines))) s.abbreviations.items

-- signatures as texts have them, and no more than the text has words
pub record AreReady (own : Signature) (used : List Signature) (text : List ℕ) (lines : List Sentence) : Type 0 where
  pub apart : IsApart own
  pub ordered : IsOrdered own
  pub whole : HasWholeBodies own
  pub used_ordered : All IsOrdered used
  pub used_whole : All HasWholeBodies used
  pub few : length used ≤ many_words text (declarations lines)

abbrev pub DeclaresTypes : Signature → List Signature → List ℕ → List Sentence → Signature → Type 0
DeclaresTypes own used text lines s = AreReady own used text lines → DeclaresAsWritten own used text lines s
