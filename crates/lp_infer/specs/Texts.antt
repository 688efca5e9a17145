-- What a text says: its names looked up, its annotations as types, and its typings.
use Rattle.std.specs.Prelude.{◌≡◌, ℕ, suc, ◌+◌, ◌-◌, ◌<◌, List, [], ◌∷◌, ◌++◌, map, length, Bool, Option, Some, None, option_map, find, codes, slice_get, slice_range, nat_eq, nat_lt, if◌then◌else◌}
use Rattle.std.specs.Prelude.{Vec}
use Rattle.std.specs.Global.{Global}
use Rattle.std.specs.Str.{bytes_eq}
use Rattle.lp_base.specs.declared.place.Spot.{Spot}
use Rattle.lp_calculus.specs.Types.{Ty, con, arrow, tys, instance}
use Rattle.lp_calculus.specs.Typing.{Scheme, o_type, type_at}
use Rattle.lp_term.specs.Nodes.{Nodes, type_tree}
use Rattle.lp_syntax.specs.declared.text.RawNode.{RawNode}
use Rattle.lp_syntax.specs.declared.text.RawNode.TheVariants.{Name, Known, Number, Text, App, Abs}
use Rattle.lp_syntax.specs.declared.text.RawType.{RawType}
use Rattle.lp_syntax.specs.declared.text.RawTypeNode.{RawTypeNode}
use Rattle.lp_syntax.specs.declared.text.RawTypeNode.TheVariants.{Word, Arrow}
use Rattle.lp_syntax.specs.declared.text.RawTerm.{RawTerm}
use Rattle.lp_syntax.specs.RawTypes.{AreBelow}
use Rattle.lp_standard.specs.Schemes.{standard_schemes, entry}
use Rattle.lp_sig.specs.declared.signature.Signature.{Signature}
use Rattle.lp_sig.specs.declared.entries.ConstantEntry.{ConstantEntry}
use Rattle.lp_sig.specs.Pieces.{spelled, begins_variable}
use Rattle.lp_sig.specs.Places.{first_place}
use Rattle.lp_sig.specs.Rows.{found, kind_row, number_row, abbreviation_row}
use Rattle.lp_sig.specs.Standard.{standard_kinds, standard_constants}
use Rattle.lp_infer.specs.Typing.{Raw, raw_index, raw_constant, raw_integer, raw_text, raw_abs, raw_app, Elaborates, Typing, put_typing}

-- types for the type variables of a text's annotations: by their names, and for `_` by its place
pub record Notes : Type 0 where
  pub named : List ℕ → Ty
  pub blank : ℕ → Ty

abbrev pub is_blank : List ℕ → Bool
is_blank w = bytes_eq w (codes "_")

-- annotations

-- a type variable, which has no arguments
abbrev pub variable_type : List ℕ → Notes → Spot → List Ty → Option Ty
variable_type text κ s [] = Some (if is_blank (spelled text s) then κ.blank s.from else κ.named (spelled text s))
variable_type text κ s (T ∷ Ts) = None

-- an abbreviation on as many arguments as it has parameters
abbrev pub abbreviated_type : Nodes → List Ty → Option (ℕ × ℕ) → Option Ty
abbreviated_type b Ts None = None
abbreviated_type b Ts (Some a) = if nat_eq (length Ts) a.0 then Some (instance (type_at Ts) (type_tree b a.1)) else None

-- a kind on as many arguments as it has, or an abbreviation
abbrev pub kind_type : Signature → List ℕ → List Ty → Option (ℕ × ℕ) → Option Ty
kind_type sig w Ts None = abbreviated_type sig.bank Ts (found w (map abbreviation_row sig.abbreviations.items))
kind_type sig w Ts (Some k) = if nat_eq (length Ts) k.1 then Some (con k.0 (tys Ts)) else None

-- a word of an annotation on these arguments
abbrev pub word_type : Signature → List ℕ → Notes → Spot → List Ty → Option Ty
word_type sig text κ s Ts =
    if begins_variable (spelled text s) then variable_type text κ s Ts
    else kind_type sig (spelled text s) Ts (found (spelled text s) (standard_kinds ++ map kind_row sig.kinds.items))

-- a node of an annotation means a type; each node names older ones
mutual
  pub data Means (sig : Signature) (text : List ℕ) (κ : Notes) (nodes : List RawTypeNode) : ℕ → Ty → Type 0 where
    word : (n : ℕ) (s : Spot) (parts : Vec ℕ Global) (Ts : List Ty) (A : Ty) → slice_get nodes n ≡ Some (Word s parts) → AreBelow n parts.items → AllMean sig text κ nodes parts.items Ts → word_type sig text κ s Ts ≡ Some A → Means sig text κ nodes n A
    function : (n a b : ℕ) (A B : Ty) → slice_get nodes n ≡ Some (Arrow a b) → a < n → b < n → Means sig text κ nodes a A → Means sig text κ nodes b B → Means sig text κ nodes n (arrow A B)

  pub data AllMean (sig : Signature) (text : List ℕ) (κ : Notes) (nodes : List RawTypeNode) : List ℕ → List Ty → Type 0 where
    no_parts : AllMean sig text κ nodes [] []
    more_parts : (n : ℕ) (ns : List ℕ) (A : Ty) (Ts : List Ty) → Means sig text κ nodes n A → AllMean sig text κ nodes ns Ts → AllMean sig text κ nodes (n ∷ ns) (A ∷ Ts)

-- the type that is written for a bound name, if one is
abbrev pub IsNoted : Signature → List ℕ → Notes → Option RawType → Option Ty → Type 0
IsNoted sig text κ None given = given ≡ None
IsNoted sig text κ (Some note) given = (A : Ty) × (given ≡ Some A) × Means sig text κ note.nodes.items note.root A

-- names

-- variable k of so many, under the abstractions of these names: the first variable is the outermost index
abbrev pub variable_index : (count : ℕ) → (scope : List (List ℕ)) → ℕ → Raw
variable_index count scope k = raw_index (length scope + (count - suc k))

abbrev pub entry_scheme : Nodes → ConstantEntry → Scheme
entry_scheme b e = record { count = e.type_vars; body = type_tree b e.scheme.0 }

-- the declared type of a constant: the standard constants are those below 32
abbrev pub constant_scheme : Signature → List ℕ → ℕ → Option Scheme
constant_scheme sig w c =
    if nat_lt c 32 then entry standard_schemes c else option_map (entry_scheme sig.bank) (find (λ e. bytes_eq w e.name.items) sig.constants.items)

-- what is read, with the first places of the variables so far
abbrev pub Read : Type 0
Read = Option (Raw × List Spot)

abbrev pub read_constant : ℕ → Option Scheme → List Spot → Read
read_constant c None before = None
read_constant c (Some s) before = Some (raw_constant c s, before)

abbrev pub read_number : Signature → List ℕ → Option ℕ → List Spot → Read
read_number sig w None before = None
read_number sig w (Some c) before = read_constant c (constant_scheme sig w c) before

-- a variable that is new at s, or the variable of this number
abbrev pub read_variable : (count : ℕ) → (scope : List (List ℕ)) → Spot → Option ℕ → List Spot → Read
read_variable count scope s None before = Some (variable_index count scope (length before), before ++ s ∷ [])
read_variable count scope s (Some k) before = Some (variable_index count scope k, before)

-- a name that no abstraction binds
abbrev pub read_free : Signature → List ℕ → (count : ℕ) → (scope : List (List ℕ)) → Spot → List Spot → Read
read_free sig text count scope s before =
    if begins_variable (spelled text s) then read_variable count scope s (first_place (spelled text s) (map (spelled text) before)) before
    else read_number sig (spelled text s) (found (spelled text s) (standard_constants ++ map number_row sig.constants.items)) before

abbrev pub read_bound : Signature → List ℕ → (count : ℕ) → (scope : List (List ℕ)) → Spot → Option ℕ → List Spot → Read
read_bound sig text count scope s None before = read_free sig text count scope s before
read_bound sig text count scope s (Some i) before = Some (raw_index i, before)

-- a name: `_` is new at each place, a bound name is that of the innermost abstraction
abbrev pub read_name : Signature → List ℕ → (count : ℕ) → (scope : List (List ℕ)) → Spot → List Spot → Read
read_name sig text count scope s before =
    if is_blank (spelled text s) then read_variable count scope s None before
    else read_bound sig text count scope s (first_place (spelled text s) scope) before

-- the byte that stands behind a backslash
abbrev pub escaped : ℕ → ℕ
escaped b = if nat_eq b 110 then 10 else (if nat_eq b 116 then 9 else b)

abbrev pub unescaped : List ℕ → List ℕ
unescaped [] = []
unescaped (b ∷ []) = if nat_eq b 92 then [] else b ∷ []
unescaped (b ∷ c ∷ bs) = if nat_eq b 92 then escaped c ∷ unescaped bs else b ∷ unescaped (c ∷ bs)

-- the bytes that a string stands for, without its quotes
abbrev pub string_bytes : List ℕ → List ℕ
string_bytes w = unescaped (slice_range w 1 (length w - 1))

-- a node without parts
abbrev pub read_leaf : Signature → List ℕ → (count : ℕ) → (scope : List (List ℕ)) → RawNode → List Spot → Read
read_leaf sig text count scope (Name s) before = read_name sig text count scope s before
read_leaf sig text count scope (Known c s) before = read_constant c (entry standard_schemes c) before
read_leaf sig text count scope (Number z s) before = Some (raw_integer z, before)
read_leaf sig text count scope (Text s) before = Some (raw_text (string_bytes (spelled text s)), before)
read_leaf sig text count scope _ before = None

-- a node, under the abstractions of these names, is this text; the first places of the variables, of which there are `count` in all,
-- are these before it and those after it, in the order of the text
pub data Reads (sig : Signature) (text : List ℕ) (nodes : List RawNode) (κ : Notes) (count : ℕ) : List (List ℕ) → List Spot → ℕ → Raw → List Spot → Type 0 where
  leaf : (scope : List (List ℕ)) (before : List Spot) (n : ℕ) (node : RawNode) (R : Raw) (after : List Spot) → slice_get nodes n ≡ Some node → read_leaf sig text count scope node before ≡ Some (R, after) → Reads sig text nodes κ count scope before n R after
  application : (scope : List (List ℕ)) (before : List Spot) (n f x : ℕ) (F X : Raw) (middle after : List Spot) → slice_get nodes n ≡ Some (App f x) →
      f < n → x < n → Reads sig text nodes κ count scope before f F middle → Reads sig text nodes κ count scope middle x X after → Reads sig text
      nodes κ count scope before n (raw_app F X) after
  abstraction : (scope : List (List ℕ)) (before : List Spot) (n : ℕ) (s : Spot) (note : Option RawType) (b : ℕ) (given : Option Ty) (R : Raw)
      (after : List Spot) → slice_get nodes n ≡ Some (Abs s note b) → b < n → IsNoted sig text κ note given → Reads sig text nodes κ count
      (spelled text s ∷ scope) before b R after → Reads sig text nodes κ count scope before n (raw_abs given R) after

-- the text

-- a typing of a text whose variables have these first places: types for the type variables of its annotations, and a formula of type
-- `o` that is the text without the type arguments of its constants
pub record IsTextTyping (sig : Signature) (text : List ℕ) (raw : RawTerm) (places : List Spot) (T : Typing) : Type 0 where
  pub notes : Notes
  pub looked_up : Raw
  pub reads : Reads sig text raw.nodes.items notes (length places) [] [] raw.root looked_up places
  pub many : length T.free ≡ length places
  pub elaborates : Elaborates T.free looked_up T.formula o_type

-- a typing of a text that becomes every other one when types are put for its type variables
pub record IsPrincipalTyping (sig : Signature) (text : List ℕ) (raw : RawTerm) (places : List Spot) (T : Typing) : Type 0 where
  pub typing : IsTextTyping sig text raw places T
  pub first : (others : List Spot) (U : Typing) → IsTextTyping sig text raw others U → (others ≡ places) × ((θ : ℕ → Ty) × (put_typing θ T ≡ U))

-- no well-typed formula leaves the text
abbrev pub HasNoTextTyping : Signature → List ℕ → RawTerm → Type 0
HasNoTextTyping sig text raw = (places : List Spot) (T : Typing) → IsTextTyping sig text raw places T → ⊥
