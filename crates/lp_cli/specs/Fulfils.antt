-- What a run of a command says or leaves that is true of the texts, the certificates and the files that it is asked for.
use Rattle.std.specs.Prelude.{◌≡◌, ◌≢◌, List, ℕ, Option, true, unwrap_or}
use Rattle.lp_base.specs.Held.{Held}
use Rattle.lp_base.specs.declared.limits.TheConstants.{DEFAULT_ANSWERS, DEFAULT_STEPS}
use Rattle.lp_base.specs.declared.status.Status.{Status}
use Rattle.lp_base.specs.declared.status.Status.TheVariants as variant
use Rattle.lp_files.specs.Refused.{Makes}
use Rattle.lp_judge.specs.Checked.{Checks}
use Rattle.lp_judge.specs.Judged.{Judges}
use Rattle.lp_judge.specs.Proofs.{WritesProofs, has_file}
use Rattle.lp_watch.specs.Seen.{Seen}
use Rattle.lp_solve.specs.Reported.{watching}
use Rattle.lp_solve.specs.Solved.{BeginsSolved, WritesSolved}
use Rattle.lp_words.specs.Asked.{Asked, check, files, lambda, prove, query_image, session, solve, trial}
use Rattle.lp_words.specs.declared.asked.Options.{Options}

-- the most steps and answers of the search of a query
abbrev pub step_limit : Options → ℕ
step_limit o = unwrap_or o.steps DEFAULT_STEPS

abbrev pub answer_limit : Options → ℕ
answer_limit o = unwrap_or o.answers DEFAULT_ANSWERS

-- what is written of a query: the line of a refusal, or the answers of the definition's search within these limits, which are right, and with `--watch` the reports of those of whom this
-- was seen before; where the output fails, a beginning of that
pub record Solves (told : Option Held) (name query : List ℕ) (options : Options) (seen : List Seen) (before after : Option (List ℕ)) (result : Status) : Type 0 where
  pub writes : result ≢ variant.WriteFault → WritesSolved told name query (watching options.watch seen) (step_limit options) (answer_limit options) result before after
  pub begins : result ≡ variant.WriteFault → BeginsSolved told name query (watching options.watch seen) (step_limit options) (answer_limit options) before after

-- A verdict on the texts of a module and a query is right; so is one on certificates over the program of a module; where certificates are written, they are proofs from that program; and where a file
-- of a module is asked for, it is written with bytes of its kind, or the line of a refusal with its cause. The answers that are written of a query on texts are those of the definition's search, and right. Of a search on an image nothing is said here.
abbrev pub Fulfils : (told now : Option Held) → (seen : List Seen) → (before after : Option (List ℕ)) → Asked → Status → Type 0
Fulfils told now seen before after (lambda name query) result = Judges told name query before after result
Fulfils told now seen before after (check name query) result = Checks told name query before after result
Fulfils told now seen before after (prove name query options) result = has_file result ≡ true → WritesProofs told now name query
Fulfils told now seen before after (files command name) result = Makes told now command name before after result
Fulfils told now seen before after (solve name query options) result = Solves told name query options seen before after result
Fulfils told now seen before after (query_image name query options) result = Unit {0}
Fulfils told now seen before after (trial size) result = Unit {0}
Fulfils told now seen before after (session name options) result = Unit {0}
