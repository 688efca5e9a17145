-- What a command that writes a file leaves in the folder and in the output.
use Rattle.std.specs.Prelude.{◌≡◌, ◌≢◌, ◌<◌, ◌≤◌, ℕ, List, Option, IfSome, string_bytes}
use Rattle.lp_base.specs.Counts.{HasRisen}
use Rattle.lp_base.specs.Held.{Held, Puts, Spares}
use Rattle.lp_base.specs.Written.{Appends, AppendsPrefix}
use Rattle.lp_base.specs.declared.status.Status.{Status}
use Rattle.lp_base.specs.declared.status.Status.TheVariants as variant
use Rattle.lp_lines.specs.Lines.{write_fault_line}
use Rattle.lp_lines.specs.declared.store.Target.{Target}

-- a file of this name, with this line behind it
pub record IsTarget (file line : List ℕ) (target : Target) : Type 0 where
  pub file_is : string_bytes target.file ≡ file
  pub done_is : target.done.items ≡ line
  pub fault_is : target.fault.items ≡ write_fault_line file

-- the file stands at the bytes written, and its line was put with the status of its command; where that failed a prefix of the line stands
pub record Stands {F K : Type 0} (write_faults : F → ℕ) (held : F → Option Held) (faults : K → ℕ) (written : K → Option (List ℕ)) (old new : F) (before after : K) (file line : List ℕ) (last result : Status) : Type 0 where
  pub bytes : List ℕ
  pub puts : IfSome (held old) (λ o. IfSome (held new) (Puts file bytes o))
  pub unfailed : write_faults new ≡ write_faults old
  pub said : result ≢ variant.WriteFault → (result ≡ last) × Appends (written before) (written after) line
  pub begun : result ≡ variant.WriteFault → AppendsPrefix (written before) (written after) line × HasRisen (faults before) (faults after)

-- the folder failed: under this one name anything may stand
pub record Fails {F K : Type 0} (write_faults : F → ℕ) (held : F → Option Held) (written : K → Option (List ℕ)) (old new : F) (before after : K) (file : List ℕ) (result : Status) : Type 0 where
  pub is_fault : result ≡ variant.WriteFault
  pub risen : HasRisen (write_faults old) (write_faults new)
  pub spares : IfSome (held old) (λ o. IfSome (held new) (Spares file o))
  pub begun : AppendsPrefix (written before) (written after) (write_fault_line file)

-- the command was refused, and no file was touched
pub record Untouched {F K : Type 0} (write_faults : F → ℕ) (held : F → Option Held) (faults : K → ℕ) (old new : F) (before after : K) (result : Status) : Type 0 where
  pub is_refused : result ≢ variant.Done
  pub unfailed : write_faults new ≡ write_faults old
  pub same : held new ≡ held old
  pub risen : result ≡ variant.WriteFault → HasRisen (faults before) (faults after)

pub data Left {F K : Type 0} (write_faults : F → ℕ) (held : F → Option Held) (faults : K → ℕ) (written : K → Option (List ℕ)) (old new : F) (before after : K) (file line : List ℕ) (last result : Status) : Type 0 where
  stands : Stands write_faults held faults written old new before after file line last result → Left write_faults held faults written old new before after file line last result
  fails : Fails write_faults held written old new before after file result → Left write_faults held faults written old new before after file line last result
  untouched : Untouched write_faults held faults old new before after result → Left write_faults held faults written old new before after file line last result

-- how the run of such a command ends, which has this status where the file and the line are written; the count of failed pieces rises in no run that
-- ends otherwise than by a failed write
pub record LeavesWith {F K : Type 0} (write_faults : F → ℕ) (held : F → Option Held) (faults : K → ℕ) (written : K → Option (List ℕ)) (old new : F) (before after : K) (file line : List ℕ) (last result : Status) : Type 0 where
  pub left : Left write_faults held faults written old new before after file line last result
  pub never_falls : faults before ≤ faults after
  pub rises_only_then : faults before < faults after → result ≡ variant.WriteFault

-- the same of a command that ends with all done
abbrev pub Leaves : {F K : Type 0} (write_faults : F → ℕ) (held : F → Option Held) (faults : K → ℕ) (written : K → Option (List ℕ)) (old new : F) (before after : K) (file line : List ℕ) (result : Status) → Type 0
Leaves write_faults held faults written old new before after file line result = LeavesWith write_faults held faults written old new before after file line variant.Done result
