-- How a run ends, whatever it does: what was written, and which counts of the outside stand behind its status.
use Rattle.std.specs.Prelude.{◌≡◌, ◌≢◌, ◌<◌, ◌≤◌, ℕ, List, ◌⊎◌, Option}
use Rattle.lp_base.specs.Counts.{Counts, HasRisen}
use Rattle.lp_base.specs.Held.{Held}
use Rattle.lp_base.specs.Written.{Appends}
use Rattle.lp_base.specs.declared.limit.Limit.{Limit}
use Rattle.lp_base.specs.declared.limit.Limit.TheVariants as limit
use Rattle.lp_base.specs.declared.status.Status.{Status}
use Rattle.lp_base.specs.declared.status.Status.TheVariants as variant
use Rattle.lp_lines.specs.Lines.{limit_line, read_fault_line}

-- the line of a read fault
abbrev pub IsFault : (text : List ℕ) → Type 0
IsFault text = (file : List ℕ) × (text ≡ read_fault_line file)

-- something was appended, and nothing else changed
abbrev pub Grows : (old new : Option (List ℕ)) → Type 0
Grows old new = (text : List ℕ) × Appends old new text

-- the line of a limit other than that on files
abbrev pub IsOtherLimit : (text : List ℕ) → Type 0
IsOtherLimit text = (l : Limit) × ((l ≢ limit.File) × (text ≡ limit_line l))

-- a count of the outside that stands behind runs that end so: it rises in no other run, but for one that lacked memory or could not
-- write, and has risen after such a run
pub record Caused (result said : Status) (old new : ℕ) : Type 0 where
  pub never_falls : old ≤ new
  pub rises_only_then : old < new → (result ≡ said) ⊎ (result ≡ variant.Memory) ⊎ (result ≡ variant.WriteFault)
  pub risen : result ≡ said → HasRisen old new

-- the count of files that are too long, beside what was written: of runs that end by a limit it has risen after those whose limit is that on files
pub record CausedLong (result : Status) (written_old written_new : Option (List ℕ)) (old new : ℕ) : Type 0 where
  pub never_falls : old ≤ new
  pub rises_only_then : old < new → (result ≡ variant.Limit) ⊎ (result ≡ variant.Memory) ⊎ (result ≡ variant.WriteFault)
  pub risen : result ≡ variant.Limit → HasRisen old new ⊎ ((text : List ℕ) × (IsOtherLimit text × Appends written_old written_new text))

-- what a run of a command shows, whatever it does: it appends to the output, tells a read fault by its line, and each refusal of the folder has
-- its count behind it
pub record Ran {F K : Type 0} (read_faults misses overs : F → ℕ) (written : K → Option (List ℕ)) (old new : F) (before after : K) (result : Status) : Type 0 where
  pub grows : Grows (written before) (written after)
  pub fault : result ≡ variant.ReadFault → (text : List ℕ) × (IsFault text × Appends (written before) (written after) text)
  pub command : result ≢ variant.Usage
  pub read : Caused result variant.ReadFault (read_faults old) (read_faults new)
  pub missing : Caused result variant.Missing (misses old) (misses new)
  pub long : CausedLong result (written before) (written after) (overs old) (overs new)

-- a run that writes no file: the folder holds what it held, and the run ends by a fault of writing exactly where the output failed
pub record KeepsFiles {F K : Type 0} (write_faults : F → ℕ) (held : F → Option Held) (faults : K → ℕ) (old new : F) (before after : K) (result : Status) : Type 0 where
  pub output : Counts (result ≡ variant.WriteFault) (faults before) (faults after)
  pub unwritten : write_faults new ≡ write_faults old
  pub same : held new ≡ held old
