-- What is said of the bytes of an object or an image that is refused.
use Rattle.std.specs.Prelude.{◌≡◌, ◌++◌, ℕ, List, Some, codes, slice_get}
use Rattle.std.specs.Fmt.{decimal}
use Rattle.lp_code.specs.declared.object.Object.{Object}
use Rattle.lp_code.specs.declared.rule.Rule.{Rule}
use Rattle.lp_code.specs.declared.rule.Rule.TheVariants as rule
use Rattle.lp_object.specs.declared.fault.FormatFault.{FormatFault}
use Rattle.lp_object.specs.declared.fault.FormatFault.TheVariants as format
use Rattle.lp_verify.specs.declared.refusal.VerifyRefusal.{VerifyRefusal}
use Rattle.lp_verify.specs.declared.refusal.VerifyRefusal.TheVariants as verify
use Rattle.lp_link.specs.declared.fault.LinkRefusal.{LinkRefusal}
use Rattle.lp_link.specs.declared.fault.LinkRefusal.TheVariants as linked
use Rattle.lp_link.specs.declared.fault.Part.{Part}
use Rattle.lp_link.specs.declared.fault.Part.TheVariants as part
use Rattle.lp_link.specs.Differences.{number_at}
use Rattle.lp_lines.specs.Refusals.{TellsImage, TellsLimit}
use Rattle.lp_lines.specs.declared.refusal.Refusal.{Refusal}
use Rattle.lp_lines.specs.declared.refusal.Refusal.TheVariants as refusal

-- the bytes of this file are none of its kind
abbrev pub TellsMisread : (file : List ℕ) → FormatFault → Refusal → Type 0
TellsMisread file format.BadMagic r = TellsImage file (codes "bad magic") r
TellsMisread file (format.BadVersion v) r = TellsImage file (codes "bad version " ++ decimal v) r
TellsMisread file (format.Truncated at) r = TellsImage file (codes "truncated at " ++ decimal at) r
TellsMisread file (format.BadField at) r = TellsImage file (codes "bad field at " ++ decimal at) r
TellsMisread file (format.Trailing at) r = TellsImage file (codes "trailing bytes at " ++ decimal at) r
TellsMisread file (format.Limit l) r = TellsLimit l r
TellsMisread file format.Memory r = r ≡ refusal.Memory

-- the file is that of a module of another name
abbrev pub TellsMisnamed : (file : List ℕ) → Refusal → Type 0
TellsMisnamed file r = TellsImage file (codes "name differs") r

unfoldable pub rule_name : Rule → List ℕ
rule_name rule.Register = codes "register"
rule_name rule.Unset = codes "unset"
rule_name rule.Set = codes "set"
rule_name rule.Constant = codes "constant"
rule_name rule.Typing = codes "type"
rule_name rule.Index = codes "index"
rule_name rule.Term = codes "term"
rule_name rule.Order = codes "order"
rule_name rule.Head = codes "head"
rule_name rule.Block = codes "block"
rule_name rule.Clause = codes "clause"
rule_name rule.Key = codes "key"

-- an instruction of a record breaks a rule, by the numbers of the record and of its first byte there
unfoldable pub broken_rule : (clause at : ℕ) → Rule → List ℕ
broken_rule c at r = codes "invalid clause " ++ decimal c ++ codes " at " ++ decimal at ++ codes ": " ++ rule_name r

-- the code of this file denotes nothing
abbrev pub TellsRejected : (file : List ℕ) → VerifyRefusal → Refusal → Type 0
TellsRejected file (verify.Invalid c at rule) r = TellsImage file (broken_rule c at rule) r
TellsRejected file verify.Memory r = r ≡ refusal.Memory

-- a kind or a constant of an object, and its name
abbrev pub IsNameOf : Object → Part → (name : List ℕ) → Type 0
IsNameOf o (part.Kind n) name = (i : ℕ) × (n ≡ number_at 8 i) × ((k : _) × (slice_get o.kinds.items i ≡ Some k) × (k.name.items ≡ name))
IsNameOf o (part.Constant n) name = (i : ℕ) × (n ≡ number_at 32 i) × ((c : _) × (slice_get o.constants.items i ≡ Some c) × (c.name.items ≡ name))

-- an object has a name otherwise than the one above it
abbrev pub TellsDiffering : Object → Part → Refusal → Type 0
TellsDiffering o p r = (name : List ℕ) × IsNameOf o p name × TellsImage (o.name.items ++ codes ".lpo") (codes "signatures differ " ++ name) r

-- why objects are not linked
abbrev pub TellsUnlinked : List Object → LinkRefusal → Refusal → Type 0
TellsUnlinked os (linked.Differ n p) r = (k : ℕ) × (o : Object) × (n ≡ number_at 0 k) × (slice_get os k ≡ Some o) × TellsDiffering o p r
TellsUnlinked os (linked.Limit l) r = TellsLimit l r
TellsUnlinked os linked.Memory r = r ≡ refusal.Memory
