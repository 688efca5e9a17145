-- What is said of certificates that were judged.
use Rattle.std.specs.Prelude.{◌≡◌, ℕ, List, ◌++◌, length, codes, All, Option}
use Rattle.std.specs.Fmt.{decimal}
use Rattle.lp_base.specs.Held.{Held}
use Rattle.lp_base.specs.Written.{Appends}
use Rattle.lp_base.specs.declared.status.Status.{Status}
use Rattle.lp_base.specs.declared.status.Status.TheVariants as variant
use Rattle.lp_cert.specs.declared.judging.CheckVerdict.{CheckVerdict}
use Rattle.lp_cert.specs.declared.judging.CheckVerdict.TheVariants.{Accepted, Rejected, Deep}
use Rattle.lp_model.specs.Answers.{Query}
use Rattle.lp_model.specs.declared.program.Typed.{Typed}
use Rattle.lp_module.specs.declared.copies.Assembled.{Assembled}
use Rattle.lp_cert.specs.Arities.{counts_in}
use Rattle.lp_cert.specs.Certified.{Certificate, Ground, Certifies, ground_of, query_of}
use Rattle.lp_cert.specs.Run.{NeedsLargeForm, StopsAt}
use Rattle.lp_cert.specs.Spellable.{AreCertificates}
use Rattle.lp_cert.specs.Spelling.{spelled_certificates}
use Rattle.lp_build.specs.Told.{IsTold}
use Rattle.lp_judge.specs.Asked.{IsAskedFrom}
use Rattle.lp_judge.specs.Proved.{cert_file}

abbrev pub checked_line : (count : ℕ) → CheckVerdict → List ℕ
checked_line n Accepted = codes "accepted " ++ decimal n ++ codes "\n"
checked_line n (Rejected i) = codes "no: certificate " ++ decimal i ++ codes "\n"
checked_line n (Deep i) = codes "stopped: term too deep\n"

abbrev pub checked_status : CheckVerdict → Status
checked_status Accepted = variant.Done
checked_status (Rejected i) = variant.No
checked_status (Deep i) = variant.Deep

-- the line and the status are those of the verdict on so many certificates
pub record IsChecked (count : ℕ) (verdict : CheckVerdict) (line : List ℕ) (said : Status) : Type 0 where
  pub says : line ≡ checked_line count verdict
  pub ends : said ≡ checked_status verdict

-- the verdict on certificates: each is an instance of the query with a proof of it; or it gives the number of the first of which this is not so, or is
-- not known, since a normal form past the limit is needed, and those before it are such
abbrev pub IsVerdictOn : Ground → Query → List Certificate → CheckVerdict → Type 0
IsVerdictOn g q cs Accepted = All (Certifies g q) cs
IsVerdictOn g q cs (Rejected i) = StopsAt (Certifies g q) (λ c. Certifies g q c → ⊥) cs i
IsVerdictOn g q cs (Deep i) = StopsAt (Certifies g q) (NeedsLargeForm g q) cs i

-- the bytes spell so many certificates over the kinds and constants of the program of a module, as the folder tells its texts, and the verdict on them is
-- right for the query of the text on it
pub record IsJudgedOn (told : Option Held) (name text bytes : List ℕ) (count : ℕ) (verdict : CheckVerdict) : Type 0 where
  pub names : Assembled
  pub query : Typed
  pub asked : IsAskedFrom told name text names query
  pub certificates : List Certificate
  pub known : AreCertificates (counts_in names) certificates
  pub spelled : bytes ≡ spelled_certificates certificates
  pub counted : count ≡ length certificates
  pub right : IsVerdictOn (ground_of names.program) (query_of names.program.bank query) certificates verdict

-- the line and the status are those of the verdict on the certificates of a module, as the folder holds them, over its program
pub record IsCheckOf (told : Option Held) (name text line : List ℕ) (said : Status) : Type 0 where
  pub bytes : List ℕ
  pub there : IsTold told (cert_file name) bytes
  pub count : ℕ
  pub verdict : CheckVerdict
  pub judged : IsJudgedOn told name text bytes count verdict
  pub checked : IsChecked count verdict line said

-- such a line is all that is written
abbrev pub WritesCheck : (told : Option Held) (name text : List ℕ) (old new : Option (List ℕ)) → Status → Type 0
WritesCheck told name text old new said = (line : List ℕ) × IsCheckOf told name text line said × Appends old new line

-- so ends a run that is not refused, where memory lasts and the output does not fail: all are proofs, or one is none, or one is too deep
pub record Checks (told : Option Held) (name text : List ℕ) (old new : Option (List ℕ)) (said : Status) : Type 0 where
  pub accepted : said ≡ variant.Done → WritesCheck told name text old new said
  pub rejected : said ≡ variant.No → WritesCheck told name text old new said
  pub deep : said ≡ variant.Deep → WritesCheck told name text old new said
