-- The lines that the program writes, and the status of each ending.
use Rattle.std.specs.Prelude.{ℕ, List, ◌++◌, codes, Bool, true, false}
use Rattle.lp_base.specs.Limit.{name_of}
use Rattle.lp_base.specs.declared.limit.Limit.{Limit}
use Rattle.lp_base.specs.declared.limit.Limit.TheVariants as limit
use Rattle.lp_base.specs.declared.status.Status.{Status}
use Rattle.lp_base.specs.declared.status.Status.TheVariants as variant
use Rattle.lp_model.specs.declared.ending.Ending.{Ending}
use Rattle.lp_model.specs.declared.ending.Ending.TheVariants.{NoMore, NoMoreCut, Enough, Steps, Flexible, Arithmetic, OpenNot, Deep}
use Rattle.lp_model.specs.declared.ending.Fault.{Fault}
use Rattle.lp_model.specs.declared.ending.Fault.TheVariants.{Overflow, ZeroDivisor, NotClosed}

unfoldable pub memory_line : List ℕ
memory_line = codes "stopped: memory\n"

-- a limit was passed
unfoldable pub limit_line : Limit → List ℕ
limit_line l = codes "limit: " ++ name_of l ++ codes "\n"

-- a file is too long
abbrev pub long_file_line : List ℕ
long_file_line = limit_line limit.File

unfoldable pub missing_line : (file : List ℕ) → List ℕ
missing_line file = codes "missing: " ++ file ++ codes "\n"

unfoldable pub read_fault_line : (file : List ℕ) → List ℕ
read_fault_line file = codes "read fault: " ++ file ++ codes "\n"

unfoldable pub write_fault_line : (file : List ℕ) → List ℕ
write_fault_line file = codes "write fault: " ++ file ++ codes "\n"

-- what is said of an object, an image or certificates
unfoldable pub image_line : (file said : List ℕ) → List ℕ
image_line file said = codes "image: " ++ file ++ codes ": " ++ said ++ codes "\n"

-- a file was written
unfoldable pub wrote_line : (file : List ℕ) → List ℕ
wrote_line file = codes "wrote " ++ file ++ codes "\n"

-- a file was written as it is written today
unfoldable pub migrated_line : (file : List ℕ) → List ℕ
migrated_line file = codes "migrated " ++ file ++ codes "\n"

unfoldable pub fault_line : Fault → List ℕ
fault_line Overflow = codes "stopped: arithmetic: overflow\n"
fault_line ZeroDivisor = codes "stopped: arithmetic: zero divisor\n"
fault_line NotClosed = codes "stopped: arithmetic: not closed\n"

-- the last line of a search
unfoldable pub ending_line : Ending → List ℕ
ending_line NoMore = codes "no more answers\n"
ending_line NoMoreCut = codes "no more answers; some were cut away\n"
ending_line Enough = codes "stopped: answers\n"
ending_line Steps = codes "stopped: steps\n"
ending_line Flexible = codes "stopped: flexible goal\n"
ending_line (Arithmetic fault) = fault_line fault
ending_line OpenNot = codes "stopped: open negation\n"
ending_line Deep = codes "stopped: term too deep\n"

unfoldable pub ending_status : Ending → Status
ending_status NoMore = variant.Done
ending_status NoMoreCut = variant.Done
ending_status Enough = variant.Done
ending_status Steps = variant.Steps
ending_status Flexible = variant.Flexible
ending_status (Arithmetic fault) = variant.Arithmetic
ending_status OpenNot = variant.OpenNot
ending_status Deep = variant.Deep

-- the statuses with which a search or a judgement ends that was not refused
unfoldable pub is_of_search : Status → Bool
is_of_search variant.Done = true
is_of_search variant.Steps = true
is_of_search variant.Flexible = true
is_of_search variant.Arithmetic = true
is_of_search variant.Deep = true
is_of_search variant.OpenNot = true
is_of_search variant.No = true
is_of_search variant.Memory = true
is_of_search _ = false
