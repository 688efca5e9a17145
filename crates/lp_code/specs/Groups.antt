-- The records of a predicate, by the key of their first argument.
use Rattle.std.specs.Prelude.{ℕ, nat_eq, Bool, true, false, ◌&&◌, if◌then◌else◌, List, [], ◌∷◌, Option, Some, ℤ}
use Rattle.std.specs.declared.cmp.Ordering.{Ordering}
use Rattle.std.specs.declared.cmp.Ordering.TheVariants.{Less, Equal, Greater}
use Rattle.std.specs.Ordering.{is_eq, nat_cmp, int_cmp}
use Rattle.std.specs.Cmp.Lexicographic.{slice_cmp}
use Rattle.std.specs.BTreeSet.{insert_key}
use Rattle.lp_code.specs.declared.record.Record.{Record}
use Rattle.lp_code.specs.declared.record.RecordHead.{RecordHead}
use Rattle.lp_code.specs.declared.record.RecordHead.TheVariants.{Const}
use Rattle.lp_code.specs.declared.record.Key.{Key}
use Rattle.lp_code.specs.declared.record.Key.TheVariants as key
use Rattle.lp_code.specs.declared.record.KeyRef.{KeyRef}
use Rattle.lp_code.specs.declared.record.KeyRef.TheVariants as ref

-- a key on plain data
pub data PlainKey : Type 0 where
  no_key : PlainKey
  constant : ℕ → PlainKey
  integer : ℤ → PlainKey
  text : List ℕ → PlainKey

abbrev pub plain_key : Key → PlainKey
plain_key key.None = no_key
plain_key (key.Const c) = constant c
plain_key (key.Int z) = integer z
plain_key (key.Text s) = text s.items

abbrev pub looked_key : KeyRef → PlainKey
looked_key ref.None = no_key
looked_key (ref.Const c) = constant c
looked_key (ref.Int z) = integer z
looked_key (ref.Text s) = text s.now

-- no key first, then constants by number, integers by value and texts by their bytes
abbrev pub key_cmp : PlainKey → PlainKey → Ordering
key_cmp no_key no_key = Equal
key_cmp no_key k = Less
key_cmp k no_key = Greater
key_cmp (constant c) (constant d) = nat_cmp c d
key_cmp (constant c) k = Less
key_cmp k (constant d) = Greater
key_cmp (integer y) (integer z) = int_cmp y z
key_cmp (integer y) (text s) = Less
key_cmp (text s) (integer z) = Greater
key_cmp (text s) (text t) = slice_cmp nat_cmp s t

abbrev pub same_key : PlainKey → PlainKey → Bool
same_key k j = is_eq (key_cmp k j)

abbrev pub is_headed_by : ℕ → Option RecordHead → Bool
is_headed_by c (Some (Const d)) = nat_eq c d
is_headed_by c o = false

-- a program record of the predicate
abbrev pub is_of : ℕ → Record → Bool
is_of c r = r.program && is_headed_by c r.head

-- the records of a predicate and a key, ascending, where the first of the list has number n
abbrev pub group_from : (n : ℕ) → List Record → (constant : ℕ) → PlainKey → List ℕ
group_from n [] c k = []
group_from n (r ∷ rs) c k = if is_of c r && same_key k (plain_key r.key) then n ∷ group_from (ℕ.suc n) rs c k else group_from (ℕ.suc n) rs c k

abbrev pub group : List Record → (constant : ℕ) → PlainKey → List ℕ
group rs c k = group_from 0 rs c k

-- ascending lists without repetition: `insert_key` puts a member to its place

abbrev pub with_head : Bool → Option RecordHead → List ℕ → List ℕ
with_head true (Some (Const c)) cs = insert_key nat_cmp cs c
with_head p o cs = cs

-- the constants that head program records, where those of the list come after the ones that stand already
abbrev pub heads_onto : List ℕ → List Record → List ℕ
heads_onto cs [] = cs
heads_onto cs (r ∷ rs) = heads_onto (with_head r.program r.head cs) rs

abbrev pub heads : List Record → List ℕ
heads rs = heads_onto [] rs

-- the keys of the program records of a constant
abbrev pub keys_onto : List PlainKey → List Record → (constant : ℕ) → List PlainKey
keys_onto ks [] c = ks
keys_onto ks (r ∷ rs) c = keys_onto (if is_of c r then insert_key key_cmp ks (plain_key r.key) else ks) rs c

abbrev pub keys : List Record → (constant : ℕ) → List PlainKey
keys rs c = keys_onto [] rs c
