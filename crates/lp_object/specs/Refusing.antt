-- What a refusal tells of the bytes.
use Rattle.std.specs.Prelude.{◌≡◌, Result, Ok, Err}
use Rattle.lp_bytes.specs.declared.fault.Fault.{Fault}
use Rattle.lp_bytes.specs.declared.fault.Fault.TheVariants as bytes
use Rattle.lp_bytes.specs.declared.fault.ReadError.{ReadError}
use Rattle.lp_bytes.specs.declared.fault.ReadError.TheVariants as errors
use Rattle.lp_base.specs.declared.limit.Limit.TheVariants.{Image}
use Rattle.lp_object.specs.declared.fault.WriteRefusal.{WriteRefusal}
use Rattle.lp_object.specs.declared.fault.WriteRefusal.TheVariants as refused
use Rattle.lp_object.specs.declared.fault.FormatFault.{FormatFault}
use Rattle.lp_object.specs.declared.fault.FormatFault.TheVariants.{BadMagic, BadVersion, Truncated, BadField, Trailing, Limit, Memory}

-- each fault of bytes under its public name
abbrev pub told : Fault → FormatFault
told bytes.BadMagic = BadMagic
told (bytes.BadVersion v) = BadVersion v
told (bytes.Truncated at) = Truncated at
told (bytes.BadField at) = BadField at
told (bytes.Trailing at) = Trailing at
told (bytes.Limit l) = Limit l

abbrev pub refusal : ReadError → FormatFault
refusal errors.Memory = Memory
refusal (errors.Fault f) = told f

-- what a call returned, seen by view, is what is read, unless memory ran out
abbrev pub Tells : {X Y : Type 0} → (X → Y) → Result X FormatFault → Result Y Fault → Type 0
Tells view (Ok x) read = read ≡ Ok (view x)
Tells view (Err BadMagic) read = read ≡ Err bytes.BadMagic
Tells view (Err (BadVersion v)) read = read ≡ Err (bytes.BadVersion v)
Tells view (Err (Truncated at)) read = read ≡ Err (bytes.Truncated at)
Tells view (Err (BadField at)) read = read ≡ Err (bytes.BadField at)
Tells view (Err (Trailing at)) read = read ≡ Err (bytes.Trailing at)
Tells view (Err (Limit l)) read = read ≡ Err (bytes.Limit l)
Tells view (Err Memory) read = Unit {0}

-- the refusal is want of memory, or the limit of a file, with its cause
abbrev pub IsLimit : WriteRefusal → (cause : Type 0) → Type 0
IsLimit (refused.Limit Image) cause = cause
IsLimit refused.Memory cause = Unit {0}
IsLimit _ cause = ⊥
