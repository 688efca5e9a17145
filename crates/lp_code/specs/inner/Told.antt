-- What the tables of an image tell: maps from constants and from keys to numbers of records.
use Rattle.std.specs.Global.{Global}
use Rattle.std.specs.Prelude.{ℕ, Bool, if◌then◌else◌, List, [], ◌∷◌, ◌++◌, map, Option, Some, None, ◌≡◌, Vec}
use Rattle.std.specs.declared.cmp.Ordering.{Ordering}
use Rattle.std.specs.Ordering.{nat_cmp, int_cmp}
use Rattle.std.specs.Cmp.Lexicographic.{slice_cmp}
use Rattle.std.specs.Map.{lookup, keys_of}
use Rattle.std.specs.BTreeMap.{insert_entry, is_at}
use Rattle.std.specs.BTreeSet.{insert_key}
use Rattle.lp_code.specs.declared.groups.Groups.{Groups}
use Rattle.lp_code.specs.declared.record.Record.{Record}
use Rattle.lp_code.specs.Groups.{PlainKey, no_key, constant, integer, text, plain_key, key_cmp, same_key, is_of, with_head, group_from, group, heads, keys}

abbrev pub numbers_of : Option (Vec ℕ Global) → List ℕ
numbers_of None = []
numbers_of (Some v) = v.items

-- the numbers at the key that passes a test
abbrev pub told_at : {K : Type 0} → (K → Bool) → List (K × Vec ℕ Global) → List ℕ
told_at test es = numbers_of (lookup test es)

-- one number more at a key
abbrev pub IsGrown : {K : Type 0} → (K → K → Ordering) → K → ℕ → (old new : List (K × Vec ℕ Global)) → Type 0
IsGrown cmp k n old new = (v : Vec ℕ Global) × (new ≡ insert_entry cmp old k v) × (v.items ≡ told_at (is_at (cmp k)) old ++ n ∷ [])

-- the records of one predicate

abbrev pub text_is : List ℕ → Vec ℕ Global → Bool
text_is s = is_at (λ (k : Vec ℕ Global). slice_cmp nat_cmp s k.items)

abbrev pub text_key : Vec ℕ Global → PlainKey
text_key v = text v.items

abbrev pub told : Groups → PlainKey → List ℕ
told g no_key = g.unkeyed.items
told g (constant c) = told_at (is_at (nat_cmp c)) g.constants.entries
told g (integer z) = told_at (is_at (int_cmp z)) g.integers.entries
told g (text s) = told_at (text_is s) g.texts.entries

abbrev pub own_key : List ℕ → List PlainKey
own_key [] = []
own_key (n ∷ ns) = no_key ∷ []

abbrev pub keys_told : Groups → List PlainKey
keys_told g =
    own_key g.unkeyed.items
    ++ (map constant (keys_of g.constants.entries)
    ++ (map integer (keys_of g.integers.entries)
    ++ map text_key (keys_of g.texts.entries)))

-- one record more under a key
pub record Adds (key : PlainKey) (n : ℕ) (old new : Groups) : Type 0 where
  pub told_more : (q : PlainKey) → told new q ≡ (if same_key q key then told old q ++ n ∷ [] else told old q)
  pub keys_more : keys_told new ≡ insert_key key_cmp (keys_told old) key

pub record HasNone (g : Groups) : Type 0 where
  pub told_none : (q : PlainKey) → told g q ≡ []
  pub no_keys : keys_told g ≡ []

-- the records of all predicates

abbrev pub told_by : Option Groups → PlainKey → List ℕ
told_by None q = []
told_by (Some g) q = told g q

abbrev pub keys_by : Option Groups → List PlainKey
keys_by None = []
keys_by (Some g) = keys_told g

abbrev pub group_in : List (ℕ × Groups) → (head : ℕ) → PlainKey → List ℕ
group_in es c q = told_by (lookup (is_at (nat_cmp c)) es) q

abbrev pub keys_in : List (ℕ × Groups) → (head : ℕ) → List PlainKey
keys_in es c = keys_by (lookup (is_at (nat_cmp c)) es)

-- one record more
pub record Recorded (r : Record) (n : ℕ) (old new : List (ℕ × Groups)) : Type 0 where
  pub heads_more : keys_of new ≡ with_head r.program r.head (keys_of old)
  pub group_more : (c : ℕ) (q : PlainKey) → group_in new c q ≡ group_in old c q ++ group_from n (r ∷ []) c q
  pub keys_are_more : (c : ℕ) → keys_in new c ≡ (if is_of c r then insert_key key_cmp (keys_in old c) (plain_key r.key) else keys_in old c)

-- all records
pub record AreTables (es : List (ℕ × Groups)) (rs : List Record) : Type 0 where
  pub heads_are : keys_of es ≡ heads rs
  pub group_is : (c : ℕ) (q : PlainKey) → group_in es c q ≡ group rs c q
  pub keys_are : (c : ℕ) → keys_in es c ≡ keys rs c
