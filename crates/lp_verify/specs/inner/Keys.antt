-- Keys of terms in registers, as they are kept at work.
use Rattle.std.specs.Prelude.{◌≡◌, ℕ, nat_eq, Bool, true, false, ◌&&◌, int_le, List, ◌∷◌, Option, Some, None}
use Rattle.std.specs.Ordering.{nat_cmp}
use Rattle.std.specs.Str.{bytes_eq}
use Rattle.std.specs.BTreeMap.{BTreeMap, get}
use Rattle.lp_calculus.specs.Term.{Atom, constant as atom_constant, integer as atom_integer, text as atom_text}
use Rattle.lp_code.specs.declared.instruction.Instr.{Instr}
use Rattle.lp_code.specs.declared.record.KeyRef.{KeyRef}
use Rattle.lp_code.specs.Groups.{PlainKey, no_key, constant, integer, text, looked_key}
use Rattle.lp_code.specs.Denote.{keys_behind, first_key}

abbrev pub same_plain_key : PlainKey → PlainKey → Bool
same_plain_key no_key no_key = true
same_plain_key (constant c) (constant d) = nat_eq c d
same_plain_key (integer y) (integer z) = int_le y z && int_le z y
same_plain_key (text s) (text t) = bytes_eq s t
same_plain_key k j = false

-- the key of what stands in a register
abbrev pub IsKeyOf : PlainKey → Option Atom → Type 0
IsKeyOf no_key None = Unit {0}
IsKeyOf (constant c) (Some (atom_constant d ts)) = c ≡ d
IsKeyOf (integer y) (Some (atom_integer z)) = y ≡ z
IsKeyOf (text s) (Some (atom_text t)) = s ≡ t
IsKeyOf k o = ⊥

abbrev pub told_key : Option KeyRef → PlainKey
told_key None = no_key
told_key (Some k) = looked_key k

-- a register that is not there has none
abbrev pub AreKeys : (ℕ → Option Atom) → BTreeMap ℕ KeyRef → Type 0
AreKeys f m = (r : ℕ) → IsKeyOf (told_key (get nat_cmp m r)) (f r)

-- the instruction ends the search with a key, or the search goes on behind it
abbrev pub IsTaken : (ℕ → Option Atom) → Instr → (left : List Instr) → Option KeyRef → Type 0
IsTaken f i is None = first_key f (i ∷ is) ≡ first_key (keys_behind f i) is
IsTaken f i is (Some k) = IsKeyOf (looked_key k) (first_key f (i ∷ is))

-- the search among the instructions that are left, whose key is that of all
abbrev pub GoesOnKeys : BTreeMap ℕ KeyRef → (all left : List Instr) → Type 0
GoesOnKeys m all left = (f : ℕ → Option Atom) × AreKeys f m × (first_key f left ≡ first_key (λ r. None) all)
