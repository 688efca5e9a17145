-- Loose indices as they are kept: ascending lists that several terms share, each seen from an entry on and lowered by a number.
use Rattle.std.specs.Prelude.{◌≡◌, ◌<◌, ◌+◌, ◌-◌, ◌^◌, ℕ, zero, suc, nat_eq, nat_lt, true, false, if◌then◌else◌, List, [], ◌∷◌, ◌++◌, map, drop, Option, Some, None, slice_get, option_map, Vec}
use Rattle.std.specs.Global.{Global}
use Rattle.lp_calculus.specs.Types.{Ty}
use Rattle.lp_code.specs.Symbolic.{agree, joined}
use Rattle.lp_verify.specs.declared.types.Types.{Types}
use Rattle.lp_verify.specs.inner.FirstNumbers.{AreTypes, TypesGrow}
use Rattle.lp_term.specs.declared.node.TypeId.{TypeId}
use Rattle.lp_verify.specs.declared.loose.Entry.{Entry}
use Rattle.lp_verify.specs.declared.loose.Loose.{Loose}
use Rattle.lp_verify.specs.declared.loose.Lists.{Lists}
use Rattle.lp_verify.specs.declared.loose.Next.{Next}
use Rattle.lp_verify.specs.declared.loose.Next.TheVariants as next

abbrev pub items_of : Option (Vec Entry Global) → List Entry
items_of None = []
items_of (Some v) = v.items

abbrev pub entries_in : Lists → Loose → List Entry
entries_in l x = drop x.from (items_of (slice_get l.lists.items x.list))

abbrev pub lowered_by : ℕ → Entry → Entry
lowered_by n e = record { index = e.index - n; of = e.of }

-- the entries, as they are seen
abbrev pub seen_in : Lists → Loose → List Entry
seen_in l x = map (lowered_by x.lowered) (entries_in l x)

-- the type of index 0 of entries that are lowered by a number
abbrev pub innermost_of : (lowered : ℕ) → Option Entry → Option TypeId
innermost_of n None = None
innermost_of n (Some e) = if nat_eq e.index n then Some e.of else None

abbrev pub innermost_in : Lists → Loose → Option TypeId
innermost_in l x = innermost_of x.lowered (slice_get (entries_in l x) 0)

-- of two ascending lists the entry that comes next
abbrev pub next_of_both : Entry → Entry → Next
next_of_both x y = if nat_eq x.index y.index then (if nat_eq x.of.0 y.of.0 then next.Both x else next.Clash) else (if nat_lt x.index y.index then next.Left x else next.Right y)

abbrev pub next_of : Option Entry → Option Entry → Next
next_of None None = next.Done
next_of (Some x) None = next.Left x
next_of None (Some y) = next.Right y
next_of (Some x) (Some y) = next_of_both x y

-- both as one; None where an index has two types. So many steps are enough
abbrev pub with_entry : Entry → Option (List Entry) → Option (List Entry)
with_entry e o = option_map (λ es. e ∷ es) o

abbrev pub merge_on : Next → (left right both : Option (List Entry)) → Option (List Entry)
merge_on next.Done l r b = Some []
merge_on (next.Left e) l r b = with_entry e l
merge_on (next.Right e) l r b = with_entry e r
merge_on (next.Both e) l r b = with_entry e b
merge_on next.Clash l r b = None

abbrev pub merge : ℕ → (left right : List Entry) → Option (List Entry)
merge zero left right = Some []
merge (suc n) left right = merge_on (next_of (slice_get left 0) (slice_get right 0)) (merge n (drop 1 left) right) (merge n left (drop 1 right)) (merge n (drop 1 left) (drop 1 right))

-- the places of a list at which something stands, counted from a number on
abbrev pub places_from : {A : Type 0} → ℕ → List (Option A) → List ℕ
places_from n [] = []
places_from n (None ∷ xs) = places_from (suc n) xs
places_from n (Some x ∷ xs) = n ∷ places_from (suc n) xs

abbrev pub indices : List Entry → List ℕ
indices es = map (λ (e : Entry). e.index) es

abbrev pub AreLow : List Entry → Type 0
AreLow [] = Unit {0}
AreLow (e ∷ es) = (e.index < 2 ^ 16) × AreLow es

-- types and lists as they are kept
pub record Store : Type 0 where
  pub types : Types
  pub lists : Lists

abbrev pub store : Types → Lists → Store
store x l = record { types = x; lists = l }

-- the types of entries, and those of a list with a place for each index
abbrev pub types_of : List Entry → List TypeId
types_of es = map (λ (e : Entry). e.of) es

abbrev pub types_there : {A : Type 0} → List (Option A) → List A
types_there [] = []
types_there (None ∷ xs) = types_there xs
types_there (Some x ∷ xs) = x ∷ types_there xs

-- entries stand for loose indices: each entry for one, raised by what it is lowered by, with its type
abbrev pub IsSeen : Store → Loose → List (Option Ty) → Type 0
IsSeen m x ts =
    (indices (entries_in m.lists x) ≡ map (λ n. n + x.lowered) (places_from 0 ts)) × AreLow (entries_in m.lists x) × AreTypes m.types (types_of (entries_in m.lists x)) (types_there ts)

-- lists were put
abbrev pub ListsGrow : (old new : Lists) → Type 0
ListsGrow old new = (more : List (Vec Entry Global)) × (new.lists.items ≡ old.lists.items ++ more)

abbrev pub StoreGrows : (old new : Store) → Type 0
StoreGrows old new = ListsGrow old.lists new.lists × TypesGrow old.types new.types

-- the same, however many types and lists are put
abbrev pub StandFor : Store → Loose → List (Option Ty) → Type 0
StandFor l x ts = (m : Store) → StoreGrows l m → IsSeen m x ts

-- what comes of two that are joined: nothing where an index has two types
abbrev pub AreJoined : Store → (left right : List (Option Ty)) → Option Loose → Type 0
AreJoined m ts us None = agree ts us ≡ false
AreJoined m ts us (Some x) = (agree ts us ≡ true) × StandFor m x (joined ts us)
