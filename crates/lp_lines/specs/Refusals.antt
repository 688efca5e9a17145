-- Refusals by what they are for, and the status and line of each.
use Rattle.std.specs.Prelude.{◌≡◌, ◌⊎◌, ℕ, List}
use Rattle.lp_base.specs.declared.limit.Limit.{Limit}
use Rattle.lp_base.specs.declared.status.Status.{Status}
use Rattle.lp_base.specs.declared.status.Status.TheVariants as variant
use Rattle.lp_lines.specs.Ends.{IsFault, IsOtherLimit}
use Rattle.lp_lines.specs.Lines.{image_line, limit_line, memory_line, missing_line, read_fault_line}
use Rattle.lp_lines.specs.declared.refusal.Refusal.{Refusal}
use Rattle.lp_lines.specs.declared.refusal.Refusal.TheVariants.{Line, Memory}

-- the status with which a refusal ends the run
abbrev pub status_of : Refusal → Status
status_of (Line said line) = said
status_of Memory = variant.Memory

-- all that is written of it
abbrev pub line_of : Refusal → List ℕ
line_of (Line said line) = line.items
line_of Memory = memory_line

-- a refusal for what texts say
abbrev pub IsTextRefusal : Refusal → Type 0
IsTextRefusal (Line said line) = (said ≡ variant.Source) ⊎ ((said ≡ variant.Limit) × IsOtherLimit line.items)
IsTextRefusal Memory = Unit {0}

-- a refusal for a file that was not read, or for what texts say
abbrev pub IsSourceRefusal : Refusal → Type 0
IsSourceRefusal (Line said line) =
    (said ≡ variant.Source) ⊎ (said ≡ variant.Missing) ⊎ (said ≡ variant.Limit) ⊎ ((said ≡ variant.ReadFault) × IsFault line.items)
IsSourceRefusal Memory = Unit {0}

-- a refusal for what was read: of a text, or of an object or image
abbrev pub IsJudged : Refusal → Type 0
IsJudged (Line said line) = (said ≡ variant.Image) ⊎ IsTextRefusal (Line said line)
IsJudged Memory = Unit {0}

-- a refusal for a file that was not read, or for what was read
abbrev pub IsRefusal : Refusal → Type 0
IsRefusal (Line said line) = (said ≡ variant.Image) ⊎ IsSourceRefusal (Line said line)
IsRefusal Memory = Unit {0}

-- the line of a read fault of this file
abbrev pub TellsFault : (file : List ℕ) → Refusal → Type 0
TellsFault file (Line said line) = (said ≡ variant.ReadFault) × (line.items ≡ read_fault_line file)
TellsFault file Memory = Unit {0}

-- the line of a file that is not there
abbrev pub TellsMissing : (file : List ℕ) → Refusal → Type 0
TellsMissing file (Line said line) = (said ≡ variant.Missing) × (line.items ≡ missing_line file)
TellsMissing file Memory = Unit {0}

-- the line of a limit
abbrev pub TellsLimit : Limit → Refusal → Type 0
TellsLimit l (Line said line) = (said ≡ variant.Limit) × (line.items ≡ limit_line l)
TellsLimit l Memory = Unit {0}

-- the line of what is said of the bytes of a file
abbrev pub TellsImage : (file said : List ℕ) → Refusal → Type 0
TellsImage file said (Line status line) = (status ≡ variant.Image) × (line.items ≡ image_line file said)
TellsImage file said Memory = Unit {0}
