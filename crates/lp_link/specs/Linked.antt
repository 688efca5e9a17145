-- What an image denotes that is linked from objects: the clauses of each copy, with kinds and constants numbered as in the image, in the order of copies.
use Rattle.std.specs.Prelude.{◌≡◌, ℕ, suc, ◌+◌, ◌-◌, Bool, true, false, List, [], ◌∷◌, ◌++◌, map, length, get_or, slice_get, Option, None, Some, option_and_then}
use Rattle.lp_calculus.specs.Types.{var}
use Rattle.lp_calculus.specs.Term.{atom, logic}
use Rattle.lp_term.specs.Mapped.{Map, mapped, mapped_type}
use Rattle.lp_model.specs.Flat.{Clause, map_clause}
use Rattle.lp_code.specs.declared.object.Object.{Object}
use Rattle.lp_code.specs.declared.object.ObjectKind.{ObjectKind}
use Rattle.lp_code.specs.declared.object.ObjectConstant.{ObjectConstant}
use Rattle.lp_code.specs.declared.record.Record.{Record}
use Rattle.lp_code.specs.declared.image.Image.{Image}
use Rattle.lp_code.specs.Naming.{object_tables, image_tables}
use Rattle.lp_code.specs.Denote.{denote}
use Rattle.lp_places.specs.Places.{first_place}
use Rattle.lp_link.specs.Uses.{kind_names, constant_names, uses_of}
use Rattle.lp_link.specs.Ends.{hidden_kinds, hidden_constants}
use Rattle.lp_link.specs.Numbers.{renumbered}

-- the numbers of a copy's kinds and constants in the image, by their places in the object
pub record Copy : Type 0 where
  pub object : Object
  pub kinds : List ℕ
  pub constants : List ℕ

-- where the numbers of the next hidden kind and constant are
pub record Ends : Type 0 where
  pub kinds : ℕ
  pub constants : ℕ

-- hidden names are counted from a number on; exported ones have the number that is told of their name, and else are counted from another one on
abbrev pub next_of : Option ℕ → (global : ℕ) → (counted kept : List ℕ) → List ℕ
next_of None g ns ms = g ∷ ns
next_of (Some n) g ns ms = n ∷ ms

abbrev pub numbers_of : (told : List ℕ → Option ℕ) → (global hidden : ℕ) → List (List ℕ × Bool) → List ℕ
numbers_of told g h [] = []
numbers_of told g h ((name, false) ∷ more) = h ∷ numbers_of told g (suc h) more
numbers_of told g h ((name, true) ∷ more) = next_of (told name) g (numbers_of told (suc g) h more) (numbers_of told g h more)

abbrev pub kinds_of : Object → List (List ℕ × Bool)
kinds_of o = map (λ (k : ObjectKind). (k.name.items, k.exported)) o.kinds.items

abbrev pub constants_of : Object → List (List ℕ × Bool)
constants_of o = map (λ (c : ObjectConstant). (c.name.items, c.exported)) o.constants.items

-- the number that the copy above has for a name; the root has none above it
abbrev pub kind_above : Option Copy → List ℕ → Option ℕ
kind_above None name = None
kind_above (Some c) name = option_and_then (slice_get c.kinds) (first_place name (kind_names c.object.kinds.items))

abbrev pub constant_above : Option Copy → List ℕ → Option ℕ
constant_above None name = None
constant_above (Some c) name = option_and_then (slice_get c.constants) (first_place name (constant_names c.object.constants.items))

abbrev pub copy_of : (above : Option Copy) → Object → Ends → Copy
copy_of above o e = record { object = o; kinds = numbers_of (kind_above above) 8 e.kinds (kinds_of o); constants = numbers_of (constant_above above) 32 e.constants (constants_of o) }

abbrev pub behind : Object → Ends → Ends
behind o e = record { kinds = e.kinds + hidden_kinds o.kinds.items; constants = e.constants + hidden_constants o.constants.items }

-- the copies of entries below one, in the order of copies: those below a copy, then the copy, whose hidden names are counted behind theirs
pub data Linked (os : List Object) : (above : Option Copy) → (entries : List ℕ) → (begin : Ends) → List Copy → (end : Ends) → Type 0 where
  none_linked : (above : Option Copy) (e : Ends) → Linked os above [] e [] e
  one_linked : (above : Option Copy) (m : ℕ) (rest : List ℕ) (o : Object) (begin mid end : Ends) (below others all : List Copy) → slice_get os m ≡ Some o → Linked os (Some (copy_of above o mid)) (get_or (uses_of os) m []) begin below mid
      → Linked os above rest (behind o mid) others end → all ≡ below ++ copy_of above o mid ∷ others → Linked os above (m ∷ rest) begin all end

-- the hidden names begin behind those that the root exports
abbrev pub first_ends : Object → Ends
first_ends o = record { kinds = 8 + (length o.kinds.items - hidden_kinds o.kinds.items); constants = 32 + (length o.constants.items - hidden_constants o.constants.items) }

-- a clause with its kinds and constants renumbered; a logic variable, of which clauses have none, would go with its record, whose number is behind n others
abbrev pub map_of : (n : ℕ) → Copy → Map
map_of n c = record { kinds = renumbered 8 c.kinds; constants = renumbered 32 c.constants; types = var; terms = λ x k. atom (logic x (k + n)) }

abbrev pub renumbered_clause : (n : ℕ) → Copy → Clause → Clause
renumbered_clause n c d = map_clause (λ (u : ℕ). u) (λ u t. mapped (map_of n c) t) (mapped_type (map_of n c)) 0 d

abbrev pub records_of : Copy → List Record
records_of c = c.object.code.records.items

-- the clauses of copies, one copy behind the other, where the objects denote some; n records stand before them
abbrev pub AreDenoted : (n : ℕ) → List Copy → List Clause → Type 0
AreDenoted n [] ds = ds ≡ []
AreDenoted n (c ∷ cs) ds = (own : List Clause) × (rest : List Clause) × (denote (object_tables c.object) (records_of c) ≡ Some own) × AreDenoted (n + length (records_of c)) cs rest × (ds ≡ map (renumbered_clause n c) own ++ rest)

-- the image denotes the clauses of the copies, where the objects denote clauses
abbrev pub IsLinked : List Object → (root : ℕ) → Image → Type 0
IsLinked os root i =
    (o : Object) (end : Ends) (copies : List Copy) (ds : List Clause) → slice_get os root ≡ Some o → Linked os None (root ∷ []) (first_ends o) copies end → AreDenoted 0 copies ds → denote (image_tables i) i.code.records.items ≡ Some ds
