-- A text while its nodes are gone through: what stands in the list so far, and what is still to come.
use Rattle.std.specs.Prelude.{◌≡◌, ℕ, ◌+◌, ◌<◌, List, [], ◌∷◌, ◌++◌, map, length, All, Bool, true, false, Option, Some, None}
use Rattle.lp_base.specs.declared.place.Spot.{Spot}
use Rattle.lp_calculus.specs.Types.{Ty, instance}
use Rattle.lp_term.specs.Nodes.{Nodes, type_tree, Extends}
use Rattle.lp_term.specs.declared.node.TypeId.{TypeId}
use Rattle.lp_syntax.specs.declared.text.RawNode.{RawNode}
use Rattle.lp_syntax.specs.declared.text.RawType.{RawType}
use Rattle.lp_sig.specs.declared.signature.Signature.{Signature}
use Rattle.lp_sig.specs.Pieces.{spelled}
use Rattle.lp_sig.specs.Places.{first_place}
use Rattle.lp_infer.specs.Typing.{Raw}
use Rattle.lp_infer.specs.Texts.{Notes, Read, Reads, IsNoted}
use Rattle.lp_infer.specs.Firsts.{AreFirsts}
use Rattle.lp_infer.specs.Levels.{HasScope, level_of}
use Rattle.lp_infer.specs.Postfix.{Mark, closes, applies, postfix, mark, given_type, IsGivenKnown, IsStep}
use Rattle.lp_infer.specs.declared.lookup.Step.{Step}
use Rattle.lp_infer.specs.declared.lookup.Step.TheVariants as step
use Rattle.lp_infer.specs.declared.lookup.Task.{Task}
use Rattle.lp_infer.specs.declared.lookup.Task.TheVariants as task
use Rattle.lp_infer.specs.declared.lookup.Lookup.{Lookup}

-- the numbers of the type variables of annotations: `_` has its place, a name stands behind all places
pub record Agrees (text : List ℕ) (places : List Spot) (κ : Notes) (ρ : ℕ → Ty) : Type 0 where
  pub blank : (i : ℕ) → i < length text → ρ i ≡ κ.blank i
  pub named : (w : List ℕ) (k : ℕ) → first_place w (map (spelled text) places) ≡ Some k → ρ (length text + k) ≡ κ.named w

abbrev pub behind : List (List ℕ) → List (List ℕ)
behind [] = []
behind (x ∷ xs) = xs

-- the list that the tasks give, the next task first, from these variables on, with the variables behind them
abbrev pub Runs : Signature → List ℕ → List RawNode → Notes → (count : ℕ) → List (List ℕ) → List Spot → List Task → List Mark → List Spot → Type 0
Runs sig text nodes κ count scope before [] code after = (code ≡ []) × (after ≡ before)
Runs sig text nodes κ count scope before (task.Visit n ∷ ts) code after =
    (R : Raw) × (middle : List Spot) × (more : List Mark) × (code ≡ postfix R ++ more) × Reads sig text nodes κ count scope before n R middle × Runs sig text nodes κ count scope middle ts more after
Runs sig text nodes κ count scope before (task.Leave s o ∷ ts) code after =
    (more : List Mark) × (code ≡ closes ∷ more) × Runs sig text nodes κ count (behind scope) before ts more after
Runs sig text nodes κ count scope before (task.Apply ∷ ts) code after =
    (more : List Mark) × (code ≡ applies ∷ more) × Runs sig text nodes κ count scope before ts more after

-- the open abstractions, the innermost first, are those whose ends are among the tasks
abbrev pub AreOpen : List ℕ → List (List ℕ) → List Task → Type 0
AreOpen text scope [] = scope ≡ []
AreOpen text scope (task.Visit n ∷ ts) = AreOpen text scope ts
AreOpen text scope (task.Apply ∷ ts) = AreOpen text scope ts
AreOpen text [] (task.Leave x outside ∷ ts) = ⊥
AreOpen text (y ∷ ys) (task.Leave x outside ∷ ts) = (y ≡ spelled text x) × (outside ≡ level_of y ys) × AreOpen text ys ts

-- the types of annotations, with types for their type variables
abbrev pub noted_types : Nodes → (ℕ → Ty) → ℕ → Ty
noted_types b ρ i = instance ρ (type_tree b i)

abbrev pub marks : Signature → List ℕ → (count : ℕ) → (ℕ → Ty) → Lookup → List Mark
marks sig text count ρ l = map (mark text sig.bank count (noted_types l.types ρ)) l.steps.items

-- the list so far and what the tasks give are what the root gives
pub record Looked (sig : Signature) (text : List ℕ) (nodes : List RawNode) (root : ℕ) (l : Lookup) (tasks : List Task) : Type 0 where
  pub scope : List (List ℕ)
  pub has_scope : HasScope scope l.scope
  pub are_open : AreOpen text scope tasks
  pub variables : AreFirsts text l.variables
  pub notes : AreFirsts text l.notes
  pub known : All (IsStep (length l.types.types)) l.steps.items
  pub sound : (κ : Notes) (ρ : ℕ → Ty) (count : ℕ) → Agrees text l.notes.places.items κ ρ → (code : List Mark) (after : List Spot) →
      Runs sig text nodes κ count scope l.variables.places.items tasks code after → Runs sig text nodes κ count [] [] (task.Visit root ∷ []) (marks sig text count ρ l ++ code) after
  pub complete : (κ : Notes) (ρ : ℕ → Ty) (count : ℕ) → Agrees text l.notes.places.items κ ρ → (code : List Mark) (after : List Spot) →
      Runs sig text nodes κ count [] [] (task.Visit root ∷ []) code after →
      (more : List Mark) × (code ≡ marks sig text count ρ l ++ more) × Runs sig text nodes κ count scope l.variables.places.items tasks more after

-- one step more, for a node without parts
pub record IsLeafRead (sig : Signature) (text : List ℕ) (read : ℕ → Read) (old new : Lookup) : Type 0 where
  pub step : Step
  pub steps : new.steps.items ≡ old.steps.items ++ step ∷ []
  pub raw : ℕ → Raw
  pub reads : (count : ℕ) → read count ≡ Some (raw count, new.variables.places.items)
  pub marked : (count : ℕ) (τ : ℕ → Ty) → postfix (raw count) ≡ mark text sig.bank count τ step ∷ []
  pub known : (n : ℕ) → IsStep n step
  pub scope : new.scope ≡ old.scope
  pub types : new.types ≡ old.types
  pub notes : new.notes ≡ old.notes
  pub variables : AreFirsts text old.variables → AreFirsts text new.variables

-- a node without parts was read, or it has no reading
abbrev pub LeafRead : Bool → Signature → List ℕ → (ℕ → Read) → Lookup → Lookup → Type 0
LeafRead true sig text read old new = IsLeafRead sig text read old new
LeafRead false sig text read old new = (count : ℕ) → read count ≡ None

-- an annotation has a type, or it has none
abbrev pub IsNoteRead : Signature → List ℕ → Option RawType → Lookup → Lookup → Option TypeId → Type 0
IsNoteRead sig text note old new given =
    IsGivenKnown (length new.types.types) given × ((κ : Notes) (ρ : ℕ → Ty) → Agrees text new.notes.places.items κ ρ → IsNoted sig text κ note (given_type (noted_types new.types ρ) given))

abbrev pub HasNoNote : Signature → List ℕ → Option RawType → Type 0
HasNoNote sig text note = (κ : Notes) (given : Option Ty) → IsNoted sig text κ note given → ⊥

-- the notes grow
pub record NotesGrow (text : List ℕ) (old new : Lookup) : Type 0 where
  pub types : Extends old.types new.types
  pub agrees : (κ : Notes) (ρ : ℕ → Ty) → Agrees text new.notes.places.items κ ρ → Agrees text old.notes.places.items κ ρ
  pub firsts : AreFirsts text old.notes → AreFirsts text new.notes
  pub steps : new.steps ≡ old.steps
  pub scope : new.scope ≡ old.scope
  pub variables : new.variables ≡ old.variables

-- an abstraction of a name begins, which may have a type
pub record IsBegun (name : List ℕ) (given : Option TypeId) (old new : Lookup) (outside : Option ℕ) : Type 0 where
  pub steps : new.steps.items ≡ old.steps.items ++ step.Open given ∷ []
  pub types : new.types ≡ old.types
  pub notes : new.notes ≡ old.notes
  pub variables : new.variables ≡ old.variables
  pub scope : (names : List (List ℕ)) → HasScope names old.scope → HasScope (name ∷ names) new.scope × (outside ≡ level_of name names)

-- an abstraction was opened
pub record IsOpened (sig : Signature) (text : List ℕ) (name : List ℕ) (note : Option RawType) (old new : Lookup) (outside : Option ℕ) : Type 0 where
  pub given : Option TypeId
  pub noted : IsNoteRead sig text note old new given
  pub steps : new.steps.items ≡ old.steps.items ++ step.Open given ∷ []
  pub types : Extends old.types new.types
  pub agrees : (κ : Notes) (ρ : ℕ → Ty) → Agrees text new.notes.places.items κ ρ → Agrees text old.notes.places.items κ ρ
  pub firsts : AreFirsts text old.notes → AreFirsts text new.notes
  pub variables : new.variables ≡ old.variables
  pub scope : (names : List (List ℕ)) → HasScope names old.scope → HasScope (name ∷ names) new.scope × (outside ≡ level_of name names)

abbrev pub Opened : Signature → List ℕ → (name : List ℕ) → Option RawType → Lookup → Lookup → Option (Option ℕ) → Type 0
Opened sig text name note old new None = HasNoNote sig text note
Opened sig text name note old new (Some outside) = IsOpened sig text name note old new outside

-- a text with its names looked up: whatever the type variables of annotations are, this list is what the root reads as
pub record IsLookedUp (sig : Signature) (text : List ℕ) (nodes : List RawNode) (root : ℕ) (l : Lookup) : Type 0 where
  pub known : All (IsStep (length l.types.types)) l.steps.items
  pub reads : (κ : Notes) (ρ : ℕ → Ty) (count : ℕ) → Agrees text l.notes.places.items κ ρ →
      (R : Raw) × Reads sig text nodes κ count [] [] root R l.variables.places.items × (postfix R ≡ marks sig text count ρ l)
  pub only : (κ : Notes) (ρ : ℕ → Ty) (count : ℕ) → Agrees text l.notes.places.items κ ρ → (R : Raw) (after : List Spot) → Reads sig text nodes κ count [] [] root R after →
      (after ≡ l.variables.places.items) × (postfix R ≡ marks sig text count ρ l)

abbrev pub HasNoReading : Signature → List ℕ → List RawNode → ℕ → Type 0
HasNoReading sig text nodes root = (κ : Notes) (count : ℕ) (R : Raw) (after : List Spot) → Reads sig text nodes κ count [] [] root R after → ⊥

abbrev pub LookedUp : Signature → List ℕ → List RawNode → ℕ → Option Lookup → Type 0
LookedUp sig text nodes root None = HasNoReading sig text nodes root
LookedUp sig text nodes root (Some l) = IsLookedUp sig text nodes root l

-- a task was done, or the text has no reading
abbrev pub TaskDone : Bool → Signature → List ℕ → List RawNode → ℕ → Lookup → List Task → Type 0
TaskDone true sig text nodes root l tasks = Looked sig text nodes root l tasks
TaskDone false sig text nodes root l tasks = HasNoReading sig text nodes root
