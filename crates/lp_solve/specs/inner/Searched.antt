-- What is written of a search that the program makes.
use Rattle.std.specs.Prelude.{◌≡◌, ◌≢◌, ◌++◌, ℕ, List, map, Bool, true, Option, None}
use Rattle.lp_base.specs.Held.{Held}
use Rattle.lp_base.specs.Written.{Appends, AppendsPrefix}
use Rattle.lp_base.specs.declared.status.Status.{Status}
use Rattle.lp_base.specs.declared.status.Status.TheVariants as variant
use Rattle.lp_watch.specs.Crowd.{Place, here, still_here}
use Rattle.lp_watch.specs.Seen.{Seen}
use Rattle.lp_model.specs.Flat.{Clause, Goals}
use Rattle.lp_model.specs.Proofs.{Declared}
use Rattle.lp_model.specs.Shown.{Entry}
use Rattle.lp_model.specs.declared.answer.Answer.{Answer}
use Rattle.lp_model.specs.declared.ending.Ending.{Ending}
use Rattle.lp_plain.specs.Between.{IsBetween}
use Rattle.lp_plain.specs.Held.{constants_of, ended}
use Rattle.lp_plain.specs.declared.search.Search.{Search}
use Rattle.lp_lines.specs.Lines.{ending_line, ending_status, memory_line}
use Rattle.lp_solve.specs.Queries.{IsFlat, IsQuery, first_state}
use Rattle.lp_solve.specs.Shown.{IsShownWith}
use Rattle.lp_solve.specs.Written.{AreLines}
use Rattle.lp_solve.specs.Watched.{ended_itself}
use Rattle.lp_solve.specs.inner.Events.{Ends, Tells, plain}
use Rattle.lp_solve.specs.inner.Heard.{IsReported, IsWatched, IsWatchedSoFar}
use Rattle.lp_solve.specs.declared.prepare.Prepared.{Prepared}

-- the lines of answers that a search tells
pub record HasAnswers (es : List Entry) (ns : List (List ℕ)) (first : Search) (text : List ℕ) : Type 0 where
  pub answers : List Answer
  pub now : Search
  pub told : Tells first answers now
  pub lines : AreLines es ns 1 (map plain answers) text

-- the last line of a search that ends so, and the reports of the watchers behind it; or memory ran out
pub data HasLast (ns : List (List ℕ)) (may : Ending → (reports : List ℕ) → Type 0) (s : Search) (status : Status) (text : List ℕ) : Type 0 where
  an_ending : (e : Ending) (reports : List ℕ) → Ends ns s e → may e reports → status ≡ ending_status e → text ≡ ending_line e ++ reports → HasLast ns may s status text
  no_memory : status ≡ variant.Memory → text ≡ memory_line → HasLast ns may s status text

-- the lines of answers, and the last line behind them
pub record IsSearched (es : List Entry) (ns : List (List ℕ)) (may : Ending → (reports : List ℕ) → Type 0) (first : Search) (status : Status) (text : List ℕ) : Type 0 where
  pub lines : List ℕ
  pub last : List ℕ
  pub answers : HasAnswers es ns first lines
  pub is_last : HasLast ns may answers.now status last
  pub wrote : text ≡ lines ++ last

-- so by a sink that went from one content to the other; and a beginning of it
pub record WritesLast (ns : List (List ℕ)) (may : Ending → (reports : List ℕ) → Type 0) (s : Search) (status : Status) (old new : Option (List ℕ)) : Type 0 where
  pub text : List ℕ
  pub is : HasLast ns may s status text
  pub appended : Appends old new text

pub record BeginsLast (ns : List (List ℕ)) (may : Ending → (reports : List ℕ) → Type 0) (s : Search) (old new : Option (List ℕ)) : Type 0 where
  pub status : Status
  pub text : List ℕ
  pub is : HasLast ns may s status text
  pub appended : AppendsPrefix old new text

pub record WritesSearch (es : List Entry) (ns : List (List ℕ)) (may : Ending → (reports : List ℕ) → Type 0) (first : Search) (status : Status) (old new : Option (List ℕ)) : Type 0 where
  pub text : List ℕ
  pub is : IsSearched es ns may first status text
  pub appended : Appends old new text

pub record BeginsSearch (es : List Entry) (ns : List (List ℕ)) (may : Ending → (reports : List ℕ) → Type 0) (first : Search) (old new : Option (List ℕ)) : Type 0 where
  pub status : Status
  pub text : List ℕ
  pub is : IsSearched es ns may first status text
  pub appended : AppendsPrefix old new text

-- The whole run of a search: what is written, where the reports are those of the places that the watchers came to, and who is there then.
pub record IsRun (es : List Entry) (ns : List (List ℕ)) (watched : Bool) (first : Search) (status : Status) (seen later : List Seen) (old new : Option (List ℕ)) : Type 0 where
  pub now : List Place
  pub here_now : later ≡ still_here now
  pub writes : status ≢ variant.WriteFault → WritesSearch es ns (IsReported watched first (map here seen) now) first status old new
  pub begins : status ≡ variant.WriteFault → BeginsSearch es ns (IsReported watched first (map here seen) now) first old new
  pub part : IsWatchedSoFar first (map here seen) now
  pub whole : ended_itself status ≡ true → IsWatched first (map here seen) now

-- the search of the query before its first event, in the state in which the definition's search begins, beside what its answers are shown with
pub record IsReady (told : Option Held) (name query : List ℕ) (steps answers : ℕ) (p : Prepared) : Type 0 where
  pub asks : IsQuery told name query
  pub begins : (d : Declared) (P : List Clause) (gs : Goals) → IsFlat asks d P gs → (n : ℕ) → IsBetween P n p.search (first_state asks gs steps answers)
  pub shown : IsShownWith query asks.typed asks.built p.shown
  pub going : ended p.search ≡ None
  pub constants : constants_of p.search ≡ asks.built.assembled.program.constants.items
