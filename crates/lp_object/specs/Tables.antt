-- The tables of records by the constant that heads them and by their key, which stand in images of version 2 and are a function of the records.
use Rattle.std.specs.Prelude.{ℕ, suc, Bool, ◌&&◌, if◌then◌else◌, List, [], ◌∷◌, ◌++◌, length, map}
use Rattle.std.specs.List.{flat_map}
use Rattle.std.specs.BTreeSet.{insert_key}
use Rattle.lp_code.specs.Groups.{PlainKey, no_key, constant, key_cmp, same_key, is_headed_by, with_head}
use Rattle.lp_code.specs.Groups as key
use Rattle.lp_object.specs.declared.width.Width.TheVariants.{Four}
use Rattle.lp_bytes.specs.Numbers.{spelled_two, spelled_four, spelled_integer}
use Rattle.lp_object.specs.Plain.{PlainRecord}
use Rattle.lp_object.specs.Spelling.{spelled_key}

-- a program record of the predicate
abbrev pub heads_it : ℕ → PlainRecord → Bool
heads_it c r = r.program && is_headed_by c r.head

-- the records of a predicate and a key, ascending, where the first of the list has number n
abbrev pub group_from : (n : ℕ) → List PlainRecord → (constant : ℕ) → PlainKey → List ℕ
group_from n [] c k = []
group_from n (r ∷ rs) c k = if heads_it c r && same_key k r.key then n ∷ group_from (suc n) rs c k else group_from (suc n) rs c k

abbrev pub group_of : List PlainRecord → (constant : ℕ) → PlainKey → List ℕ
group_of rs c k = group_from 0 rs c k

-- the constants that head program records, ascending
abbrev pub heads_onto : List ℕ → List PlainRecord → List ℕ
heads_onto cs [] = cs
heads_onto cs (r ∷ rs) = heads_onto (with_head r.program r.head cs) rs

abbrev pub heads_of : List PlainRecord → List ℕ
heads_of rs = heads_onto [] rs

-- the keys of the program records of a constant, in their order
abbrev pub keys_onto : List PlainKey → List PlainRecord → (constant : ℕ) → List PlainKey
keys_onto ks [] c = ks
keys_onto ks (r ∷ rs) c = keys_onto (if heads_it c r then insert_key key_cmp ks r.key else ks) rs c

abbrev pub keys_of : List PlainRecord → (constant : ℕ) → List PlainKey
keys_of rs c = keys_onto [] rs c

-- the fields of the tables, one behind the other: those of a key
abbrev pub key_fields : PlainKey → List (List ℕ)
key_fields no_key = (0 ∷ []) ∷ []
key_fields (constant c) = (1 ∷ []) ∷ spelled_four c ∷ []
key_fields (key.integer z) = (2 ∷ []) ∷ spelled_integer z ∷ []
key_fields (key.text s) = (3 ∷ []) ∷ spelled_two (length s) ∷ s ∷ []

-- of a group, of the groups of a constant, and of all
abbrev pub group_fields : List ℕ → PlainKey → List (List ℕ)
group_fields ns k = key_fields k ++ spelled_four (length ns) ∷ map spelled_four ns

abbrev pub groups_fields : List PlainRecord → ℕ → List (List ℕ)
groups_fields rs c = spelled_four c ∷ spelled_four (length (keys_of rs c)) ∷ flat_map (λ k. group_fields (group_of rs c k) k) (keys_of rs c)

abbrev pub table_fields : List PlainRecord → List (List ℕ)
table_fields rs = spelled_four (length (heads_of rs)) ∷ flat_map (groups_fields rs) (heads_of rs)

-- a key, and the records that have it, behind their count
unfoldable pub spelled_group : List ℕ → PlainKey → List ℕ
spelled_group ns k = spelled_key Four k ++ spelled_four (length ns) ++ flat_map spelled_four ns

-- a constant, and its groups behind their count
unfoldable pub spelled_groups : List PlainRecord → ℕ → List ℕ
spelled_groups rs c = spelled_four c ++ spelled_four (length (keys_of rs c)) ++ flat_map (λ k. spelled_group (group_of rs c k) k) (keys_of rs c)

-- the groups of each constant that heads a record of the program, behind the count of these constants
unfoldable pub spelled_tables : List PlainRecord → List ℕ
spelled_tables rs = spelled_four (length (heads_of rs)) ++ flat_map (spelled_groups rs) (heads_of rs)
