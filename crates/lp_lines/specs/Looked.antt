-- What a reading of files shows of the outside: nothing is written, and a refusal comes of what was read.
use Rattle.std.specs.Global.{Global}
use Rattle.std.specs.Prelude.{◌≡◌, ◌<◌, ◌≤◌, ◌⊎◌, ℕ, List, length, Option, Some, None, IfSome, Result, Ok, Err, Vec}
use Rattle.lp_base.specs.Counts.{HasRisen}
use Rattle.lp_base.specs.Held.{Held}
use Rattle.lp_base.specs.Read.{IsLonger}
use Rattle.lp_base.specs.declared.limit.Limit.{Limit}
use Rattle.lp_base.specs.declared.outside.ReadErr.{ReadErr}
use Rattle.lp_base.specs.declared.outside.ReadErr.TheVariants as read
use Rattle.lp_base.specs.declared.status.Status.{Status}
use Rattle.lp_base.specs.declared.status.Status.TheVariants as variant
use Rattle.lp_lines.specs.Ends.{IsOtherLimit}
use Rattle.lp_lines.specs.Lines.{limit_line, missing_line, read_fault_line}
use Rattle.lp_lines.specs.Refusals.{IsRefusal, TellsFault, TellsMissing, TellsLimit}
use Rattle.lp_lines.specs.declared.refusal.Refusal.{Refusal}
use Rattle.lp_lines.specs.declared.refusal.Refusal.TheVariants.{Line, Memory}

abbrev pub refusal_of : {T : Type 0} → Result T Refusal → Option Refusal
refusal_of (Ok x) = None
refusal_of (Err r) = Some r

-- the refusal tells why a file was not read; of one that is too long it names this limit
abbrev pub IsUnread : (file : List ℕ) → Limit → ReadErr → Refusal → Type 0
IsUnread file l read.Failed r = TellsFault file r
IsUnread file l read.Missing r = TellsMissing file r
IsUnread file l (read.TooLong n) r = TellsLimit l r
IsUnread file l read.Memory r = r ≡ Memory

-- what a file of this name comes to that may have so many bytes: its bytes, a fault of reading, that it is not there, or that it has more
abbrev pub Found : (file : List ℕ) → (most : ℕ) → Limit → Option Held → Result (Vec ℕ Global) Refusal → Type 0
Found file most l told (Ok bytes) = (length bytes.items ≤ most) × IfSome told (λ held. held file ≡ Some bytes.items)
Found file most l told (Err (Line said line)) =
    ((said ≡ variant.ReadFault) × (line.items ≡ read_fault_line file))
    ⊎ ((said ≡ variant.Missing) × ((line.items ≡ missing_line file) × IfSome told (λ held. held file ≡ None)))
    ⊎ ((said ≡ variant.Limit) × ((line.items ≡ limit_line l) × IfSome told (λ held. IsLonger (held file) most)))
Found file most l told (Err Memory) = Unit {0}

-- the refusal has this status
abbrev pub EndsAs : Status → Option Refusal → Type 0
EndsAs status (Some (Line said line)) = said ≡ status
EndsAs status _ = ⊥

abbrev pub LacksMemory : Option Refusal → Type 0
LacksMemory (Some Memory) = Unit {0}
LacksMemory _ = ⊥

-- of the lines of limits
abbrev pub IfLimited : Option Refusal → (List ℕ → Type 0) → Type 0
IfLimited (Some (Line said line)) P = said ≡ variant.Limit → P line.items
IfLimited _ P = Unit {0}

-- a count of the outside that stands behind refusals with a status: it rises in no other answer but want of memory, and has risen after such a refusal
pub record Causes (status : Status) (refused : Option Refusal) (old new : ℕ) : Type 0 where
  pub never_falls : old ≤ new
  pub rises_only_then : old < new → EndsAs status refused ⊎ LacksMemory refused
  pub risen : EndsAs status refused → HasRisen old new

-- the count of files that are too long, which stands behind refusals by the limit on sources
pub record CausesLong (refused : Option Refusal) (old new : ℕ) : Type 0 where
  pub never_falls : old ≤ new
  pub rises_only_then : old < new → EndsAs variant.Limit refused ⊎ LacksMemory refused
  pub risen : IfLimited refused (λ line. HasRisen old new ⊎ IsOtherLimit line)

-- a reading that ended by this refusal, or by none
pub record Looked {F : Type 0} (read_faults misses overs write_faults : F → ℕ) (held : F → Option Held) (old new : F) (refused : Option Refusal) : Type 0 where
  pub kind : IfSome refused IsRefusal
  pub read : Causes variant.ReadFault refused (read_faults old) (read_faults new)
  pub missing : Causes variant.Missing refused (misses old) (misses new)
  pub long : CausesLong refused (overs old) (overs new)
  pub unwritten : write_faults new ≡ write_faults old
  pub same : held new ≡ held old
