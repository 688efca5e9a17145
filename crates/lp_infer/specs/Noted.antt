-- The types of an annotation's nodes, one after the other.
use Rattle.std.specs.Prelude.{◌≡◌, ℕ, ◌<◌, List, map, length, Option, Some, None, slice_get, Contains, Vec, ◌++◌}
use Rattle.std.specs.Global.{Global}
use Rattle.lp_calculus.specs.Types.{Ty}
use Rattle.lp_term.specs.declared.node.TypeId.{TypeId}
use Rattle.lp_syntax.specs.declared.text.RawTypeNode.{RawTypeNode}
use Rattle.lp_sig.specs.declared.signature.Signature.{Signature}
use Rattle.lp_sig.specs.Rows.{found, kind_row}
use Rattle.lp_sig.specs.Standard.{standard_kinds}
use Rattle.lp_infer.specs.Texts.{Notes, Means, kind_type}
use Rattle.lp_infer.specs.Visits.{Agrees, noted_types, HasNoNote, IsNoteRead}
use Rattle.lp_syntax.specs.declared.text.RawType.{RawType}
use Rattle.lp_infer.specs.declared.lookup.Lookup.{Lookup}

abbrev pub joined : Option (Option TypeId) → Option TypeId
joined None = None
joined (Some o) = o

-- the type of a place, if it is known
abbrev pub known_at : List (Option TypeId) → ℕ → Option TypeId
known_at done p = joined (slice_get done p)

-- the types of these places, or one of them has none
abbrev pub TypesAt : List (Option TypeId) → List ℕ → Option (Vec TypeId Global) → Type 0
TypesAt done places None = (p : ℕ) × Contains places p × (known_at done p ≡ None)
TypesAt done places (Some ts) = map (known_at done) places ≡ map (λ t. Some t) ts.items

-- a node means what its type is, whatever the type variables are, or it means nothing
abbrev pub NodeNoted : Signature → List ℕ → List RawTypeNode → Lookup → ℕ → Option TypeId → Type 0
NodeNoted sig text nodes l n None = (κ : Notes) (A : Ty) → Means sig text κ nodes n A → ⊥
NodeNoted sig text nodes l n (Some id) = (id.0 < length l.types.types) × ((κ : Notes) (ρ : ℕ → Ty) → Agrees text l.notes.places.items κ ρ → Means sig text κ nodes n (noted_types l.types ρ id.0))

abbrev pub AreNoted : Signature → List ℕ → List RawTypeNode → Lookup → List (Option TypeId) → Type 0
AreNoted sig text nodes l done = (n : ℕ) (o : Option TypeId) → slice_get done n ≡ Some o → NodeNoted sig text nodes l n o

-- a kind or an abbreviation on these types, or it takes another number of them
abbrev pub KindNoted : Signature → List ℕ → List TypeId → Lookup → Option TypeId → Type 0
KindNoted sig name parts l None =
    (Ts : List Ty) → length Ts ≡ length parts → kind_type sig name Ts (found name (standard_kinds ++ map kind_row sig.kinds.items)) ≡ None
KindNoted sig name parts l (Some id) = (id.0 < length l.types.types) ×
    ((ρ : ℕ → Ty) → kind_type sig name (map (λ t. noted_types l.types ρ t.0) parts) (found name (standard_kinds ++ map kind_row sig.kinds.items)) ≡ Some (noted_types l.types ρ id.0))

-- an annotation was read, or it is no type
abbrev pub NoteRead : Signature → List ℕ → Option RawType → Lookup → Lookup → Option TypeId → Type 0
NoteRead sig text note old new None = HasNoNote sig text note
NoteRead sig text note old new (Some id) = IsNoteRead sig text note old new (Some id)
