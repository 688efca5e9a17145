-- Code with its kinds and constants renumbered, and its records moved up: instructions, records, and the tables in which they are told.
use Rattle.std.specs.Prelude.{◌≡◌, ℕ, ◌+◌, nat_lt, true, false, List, [], ◌∷◌, map, option_map, Vec}
use Rattle.std.specs.Global.{Global}
use Rattle.lp_calculus.specs.Types.{var}
use Rattle.lp_calculus.specs.Term.{atom, logic}
use Rattle.lp_calculus.specs.Typing.{Scheme}
use Rattle.lp_term.specs.Mapped.{Map, mapped_type}
use Rattle.lp_code.specs.declared.instruction.Instr.{Instr}
use Rattle.lp_code.specs.declared.instruction.Instr.TheVariants as on
use Rattle.lp_code.specs.declared.record.Record.{Record}
use Rattle.lp_code.specs.declared.record.RecordHead.{RecordHead}
use Rattle.lp_code.specs.declared.record.RecordHead.TheVariants.{Const, Register}
use Rattle.lp_code.specs.Symbolic.{Tables}
use Rattle.lp_code.specs.Groups.{PlainKey, constant, plain_key}

-- kinds and constants have other numbers, and the variables of a record go with it
abbrev pub moving : (kinds constants : ℕ → ℕ) → (first : ℕ) → Map
moving f g n = record { kinds = f; constants = g; types = var; terms = λ x k. atom (logic x (k + n)) }

abbrev pub moved_scheme : Map → Scheme → Scheme
moved_scheme m s = record { count = s.count; body = mapped_type m s.body }

-- tables in which each kind and constant has its other number
pub record AreMoved (m : Map) (old new : Tables) : Type 0 where
  pub kinds : (k : ℕ) → new.kinds (m.kinds k) ≡ old.kinds k
  pub constants : (c : ℕ) → new.constants (m.constants c) ≡ option_map (moved_scheme m) (old.constants c)

-- lists with the same numbers, and with those of records moved up
abbrev pub SameNumbers : Vec ℕ Global → Vec ℕ Global → Type 0
SameNumbers v w = w.items ≡ v.items

-- an instruction of the image is one of the object
abbrev pub IsMoved : Map → (first : ℕ) → Instr → Instr → Type 0
IsMoved m n (on.TyCon d k ts) j = (us : Vec ℕ Global) × (j ≡ on.TyCon d (m.kinds k) us) × SameNumbers ts us
IsMoved m n (on.PutConst d c ts) j = (us : Vec ℕ Global) × (j ≡ on.PutConst d (m.constants c) us) × SameNumbers ts us
IsMoved m n (on.PutStr d s) j = (t : Vec ℕ Global) × (j ≡ on.PutStr d t) × SameNumbers s t
IsMoved m n (on.PutApp d f rs) j = (us : Vec ℕ Global) × (j ≡ on.PutApp d f us) × SameNumbers rs us
IsMoved m n (on.GetConst i c ts) j = (us : Vec ℕ Global) × (j ≡ on.GetConst i (m.constants c) us) × SameNumbers ts us
IsMoved m n (on.GetStr i s) j = (t : Vec ℕ Global) × (j ≡ on.GetStr i t) × SameNumbers s t
IsMoved m n (on.Call c ts rs) j = (us : Vec ℕ Global) × (vs : Vec ℕ Global) × (j ≡ on.Call (m.constants c) us vs) × SameNumbers ts us × SameNumbers rs vs
IsMoved m n (on.Assume ns ts rs) j = (ms : Vec ℕ Global) × (us : Vec ℕ Global) × (vs : Vec ℕ Global) × (j ≡ on.Assume ms us vs) × (ms.items ≡ map (λ r. n + r) ns.items) × SameNumbers ts us × SameNumbers rs vs
IsMoved m n i j = j ≡ i

-- the numbers of the language stay, and no other one becomes one of its constants
pub record KeepsStandard (f g : ℕ → ℕ) : Type 0 where
  pub kinds : (k : ℕ) → nat_lt k 8 ≡ true → f k ≡ k
  pub constants : (c : ℕ) → nat_lt c 32 ≡ true → g c ≡ c
  pub declared : (c : ℕ) → nat_lt c 32 ≡ false → nat_lt (g c) 32 ≡ false

-- a record of the image is one of the object
abbrev pub moved_head : Map → RecordHead → RecordHead
moved_head m (Const c) = Const (m.constants c)
moved_head m (Register r) = Register r

abbrev pub moved_key : Map → PlainKey → PlainKey
moved_key m (constant c) = constant (m.constants c)
moved_key m k = k

abbrev pub AllMoved : Map → (first : ℕ) → List Instr → List Instr → Type 0
AllMoved m n [] [] = Unit {0}
AllMoved m n [] (j ∷ js) = ⊥
AllMoved m n (i ∷ is) [] = ⊥
AllMoved m n (i ∷ is) (j ∷ js) = IsMoved m n i j × AllMoved m n is js

pub record IsMovedRecord (m : Map) (first : ℕ) (r q : Record) : Type 0 where
  pub program : q.program ≡ r.program
  pub head : q.head ≡ option_map (moved_head m) r.head
  pub captured_types : q.captured_types ≡ r.captured_types
  pub captured : q.captured ≡ r.captured
  pub types : q.types ≡ r.types
  pub registers : q.registers ≡ r.registers
  pub key : plain_key q.key ≡ moved_key m (plain_key r.key)
  pub code : AllMoved m first r.code.items q.code.items

abbrev pub AllRecordsMoved : Map → (first : ℕ) → List Record → List Record → Type 0
AllRecordsMoved m n [] [] = Unit {0}
AllRecordsMoved m n [] (q ∷ qs) = ⊥
AllRecordsMoved m n (r ∷ rs) [] = ⊥
AllRecordsMoved m n (r ∷ rs) (q ∷ qs) = IsMovedRecord m n r q × AllRecordsMoved m n rs qs
