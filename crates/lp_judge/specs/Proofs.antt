-- The certificates that a proving run leaves: instances of the query, with proofs of them from the program of the texts.
use Rattle.std.specs.Prelude.{ℕ, List, Bool, true, false, Option, IfSome}
use Rattle.lp_base.specs.Held.{Held, Puts}
use Rattle.lp_base.specs.Written.{Appends}
use Rattle.lp_base.specs.declared.status.Status.{Status}
use Rattle.lp_base.specs.declared.status.Status.TheVariants as variant
use Rattle.lp_cert.specs.declared.judging.CheckVerdict.TheVariants.{Accepted}
use Rattle.lp_judge.specs.Checked.{IsJudgedOn}
use Rattle.lp_model.specs.declared.ending.Ending.{Ending}
use Rattle.lp_lines.specs.Left.{IsTarget}
use Rattle.lp_lines.specs.declared.store.Target.{Target}
use Rattle.lp_judge.specs.Proved.{cert_file, proved_line}
use Rattle.lp_judge.specs.declared.proving.Outcome.{Outcome}
use Rattle.lp_judge.specs.declared.proving.Outcome.TheVariants.{File, Deep}

-- the bytes spell certificates, and each is an instance of the query of the text with a proof of it from the program of a module, as the folder tells its texts
abbrev pub AreProofs : (told : Option Held) (name text bytes : List ℕ) → Type 0
AreProofs told name text bytes = (count : ℕ) × IsJudgedOn told name text bytes count Accepted

abbrev pub IsCertified : (told : Option Held) (name text : List ℕ) → Outcome → Type 0
IsCertified told name text (File r) = AreProofs told name text r.bytes.items
IsCertified told name text Deep = Unit {0}

-- the statuses with which a run ends that writes a file
unfoldable pub has_file : Status → Bool
has_file variant.Done = true
has_file variant.Steps = true
has_file variant.Flexible = true
has_file variant.Arithmetic = true
has_file variant.OpenNot = true
has_file _ = false

-- such a file stands in the folder, and nothing else has changed there
pub record WritesProofs (told now : Option Held) (name text : List ℕ) : Type 0 where
  pub bytes : List ℕ
  pub proofs : AreProofs told name text bytes
  pub stands : IfSome told (λ old. IfSome now (Puts (cert_file name) bytes old))

-- a file of so many certificates, with the line that tells of them, of how many answers, and of the ending
pub record IsCountedFile (told : Option Held) (name text bytes : List ℕ) (e : Ending) (target : Target) : Type 0 where
  pub count : ℕ
  pub answers : ℕ
  pub is : IsTarget (cert_file name) (proved_line count answers e) target
  pub proofs : IsJudgedOn told name text bytes count Accepted

abbrev pub IsCounted : (told : Option Held) (name text : List ℕ) → Outcome → Type 0
IsCounted told name text (File r) = IsCountedFile told name text r.bytes.items r.ending r.target
IsCounted told name text Deep = Unit {0}

-- the line that is written tells how many certificates stand in the file
pub record WritesCounted (told now : Option Held) (name text : List ℕ) (before after : Option (List ℕ)) : Type 0 where
  pub bytes : List ℕ
  pub count : ℕ
  pub answers : ℕ
  pub last : Ending
  pub proofs : IsJudgedOn told name text bytes count Accepted
  pub stands : IfSome told (λ old. IfSome now (Puts (cert_file name) bytes old))
  pub said : Appends before after (proved_line count answers last)
