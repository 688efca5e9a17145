-- What is written where the words ask for nothing.
use Rattle.std.specs.Prelude.{◌≡◌, ℕ, List, Option}
use Rattle.lp_base.specs.Written.{Appends, AppendsPrefix}
use Rattle.lp_base.specs.declared.status.Status.{Status}
use Rattle.lp_base.specs.declared.status.Status.TheVariants as variant
use Rattle.lp_lines.specs.Lines.{memory_line}
use Rattle.lp_words.specs.Commands.{usage_line}

-- the usage line alone, or want of memory
pub data IsUsage (status : Status) (text : List ℕ) : Type 0 where
  with_line : status ≡ variant.Usage → text ≡ usage_line → IsUsage status text
  no_memory : status ≡ variant.Memory → text ≡ memory_line → IsUsage status text

-- it is all that is written, by a sink that went from one content to the other
pub record WritesUsage (status : Status) (old new : Option (List ℕ)) : Type 0 where
  pub text : List ℕ
  pub is : IsUsage status text
  pub appended : Appends old new text

-- a beginning of it, where the output fails
pub record BeginsUsage (old new : Option (List ℕ)) : Type 0 where
  pub status : Status
  pub text : List ℕ
  pub is : IsUsage status text
  pub appended : AppendsPrefix old new text
