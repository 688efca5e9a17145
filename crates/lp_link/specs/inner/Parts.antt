-- The instructions by what they are for: to build types and terms, to match a head, to call a goal, to open and end blocks.
use Rattle.std.specs.Prelude.{◌≡◌, ◌++◌, ℕ, ◌+◌, ◌-◌, ◌<◌, ◌^◌, min, Bool, true, false, List}
use Rattle.lp_term.specs.Mapped.{Map}
use Rattle.lp_code.specs.declared.instruction.Instr.{Instr}
use Rattle.lp_code.specs.declared.instruction.Instr.TheVariants as on
use Rattle.lp_code.specs.declared.record.Record.{Record}
use Rattle.lp_code.specs.Rules.{names_of}
use Rattle.lp_lemmas.specs.Each.{EachOf}
use Rattle.lp_link.specs.declared.names.Names.{Names}
use Rattle.lp_link.specs.declared.records.Numbers.{Numbers}
use Rattle.lp_link.specs.Numbers.{renumbered}
use Rattle.lp_link.specs.Renumbering.{moving, IsMoved, IsMovedRecord, AllRecordsMoved}

abbrev pub builds : Instr → Bool
builds (on.TyCon d k ts) = true
builds (on.TyArr d a b) = true
builds (on.TyNew d) = true
builds (on.New d t) = true
builds (on.PutConst d c ts) = true
builds (on.PutInt d z) = true
builds (on.PutStr d b) = true
builds (on.PutIndex d i t) = true
builds (on.PutAbs d b t) = true
builds (on.PutApp d f rs) = true
builds i = false

abbrev pub matches : Instr → Bool
matches (on.GetType j t) = true
matches (on.GetVar i d) = true
matches (on.Get i r) = true
matches (on.GetConst i c ts) = true
matches (on.GetInt i z) = true
matches (on.GetStr i b) = true
matches on.Neck = true
matches i = false

abbrev pub calls : Instr → Bool
calls (on.Call c ts rs) = true
calls (on.CallTerm r) = true
calls (on.Equal t l r) = true
calls (on.Is t l r) = true
calls (on.Less l r) = true
calls (on.Greater l r) = true
calls (on.AtMost l r) = true
calls (on.AtLeast l r) = true
calls on.Cut = true
calls i = false

-- what becomes of numbers
abbrev pub map_by : Names → (first : ℕ) → Map
map_by s n = moving (renumbered 8 s.kinds.items) (renumbered 32 s.constants.items) n

abbrev pub map_in : Numbers → Map
map_in s = map_by s.names.now s.first

-- a number of 32 bits, moved up
abbrev pub raised_to : (first : ℕ) → ℕ → ℕ
raised_to n r = min (n + r) (2 ^ 32 - 1)

-- the instruction's records have numbers there
abbrev pub HasRoom : (first : ℕ) → Instr → Type 0
HasRoom n i = EachOf (λ r. n + r < 2 ^ 32) (names_of i)

abbrev pub BecomesMoved : Numbers → Instr → Instr → Type 0
BecomesMoved s i j = HasRoom s.first i → IsMoved (map_in s) s.first i j

-- the records that the code names have numbers there
abbrev pub AllHaveRoom : (first : ℕ) → List Instr → Type 0
AllHaveRoom n is = EachOf (HasRoom n) is

abbrev pub BecomesMovedRecord : Numbers → Record → Record → Type 0
BecomesMovedRecord s r q = AllHaveRoom s.first r.code.items → IsMovedRecord (map_in s) s.first r q

-- records of a copy, put behind others with its numbers, n of which stand before them
abbrev pub AddsMoved : Map → (first : ℕ) → List Record → (old new : List Record) → Type 0
AddsMoved m n rs old new = (own : List Record) × (new ≡ old ++ own) × (EachOf (λ (r : Record). AllHaveRoom n r.code.items) rs → AllRecordsMoved m n rs own)
