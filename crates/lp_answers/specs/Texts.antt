-- What is written of a search: the lines of its answers, numbered from 1, the last line, and the reports of the watchers.
use Rattle.std.specs.Global.{Global}
use Rattle.std.specs.Prelude.{◌≡◌, ℕ, suc, ◌≤◌, List, [], ◌++◌, map, codes, Bool, true, false, Option, ◌⊎◌, Vec}
use Rattle.lp_calculus.specs.Term.{Term}
use Rattle.lp_base.specs.Written.{Appends, AppendsPrefix}
use Rattle.lp_model.specs.Shown.{Entry, shown_answer}
use Rattle.lp_model.specs.declared.ending.Ending.{Ending}
use Rattle.lp_show.specs.Endings.{ending_line}
use Rattle.lp_answers.specs.declared.stopped.Written.{Written}
use Rattle.lp_answers.specs.declared.stopped.Stopped.{Stopped}
use Rattle.lp_answers.specs.declared.stopped.Stopped.TheVariants.{Write, Memory}

abbrev pub names_in : List (Vec ℕ Global) → List (List ℕ)
names_in ns = map (λ n. n.items) ns

-- the lines of an answer of this number, for some values and pairs
abbrev pub IsAnswer : List Entry → List (List ℕ) → (number : ℕ) → List ℕ → Type 0
IsAnswer es ns k text = (values : List Term) × ((pairs : List (Term × Term)) × (text ≡ shown_answer es k ns values pairs))

-- those of so many, one behind the other
pub data AreAnswers (es : List Entry) (ns : List (List ℕ)) : ℕ → List ℕ → Type 0 where
  no_answer : AreAnswers es ns 0 []
  one_more : (k : ℕ) (before text all : List ℕ) → AreAnswers es ns k before → IsAnswer es ns (suc k) text → all ≡ before ++ text → AreAnswers es ns (suc k) all

-- what stands behind the answers
abbrev pub last_text : Ending → (reports : List ℕ) → List ℕ
last_text e reports = ending_line e ++ (codes "\n" ++ reports)

-- so many whole answers were written
pub record Wrote (es : List Entry) (ns : List (List ℕ)) (count : ℕ) (old new : Option (List ℕ)) : Type 0 where
  pub text : List ℕ
  pub answers : AreAnswers es ns count text
  pub appended : Appends old new text

-- and behind them the last line and the reports
pub record WroteAll (es : List Entry) (ns : List (List ℕ)) (most : ℕ) (reports : List ℕ) (old new : Option (List ℕ)) (w : Written) : Type 0 where
  pub few : w.answers ≤ most
  pub text : List ℕ
  pub answers : AreAnswers es ns w.answers text
  pub appended : Appends old new (text ++ last_text w.ending reports)

-- the reports where a search is watched; else there are none
abbrev pub reports_in : (watched : Bool) → List ℕ → List ℕ
reports_in true reports = reports
reports_in false reports = []

abbrev pub MayReport : (watched : Bool) → List ℕ → Type 0
MayReport watched reports = watched ≡ false → reports ≡ []

-- behind so many answers the next one is written, or the last line with reports that may be
abbrev pub IsNext : List Entry → List (List ℕ) → (List ℕ → Type 0) → ℕ → List ℕ → Type 0
IsNext es ns may count next = IsAnswer es ns (suc count) next ⊎ ((e : Ending) × ((reports : List ℕ) × (may reports × (next ≡ last_text e reports))))

-- a prefix of what is written next behind some answers was written
pub record WroteCut (es : List Entry) (ns : List (List ℕ)) (may : List ℕ → Type 0) (most : ℕ) (old new : Option (List ℕ)) : Type 0 where
  pub count : ℕ
  pub few : count ≤ most
  pub text : List ℕ
  pub answers : AreAnswers es ns count text
  pub next : List ℕ
  pub is_next : IsNext es ns may count next
  pub appended : AppendsPrefix old new (text ++ next)

-- where the writing stopped for want of memory, whole answers stand
abbrev pub Stopping : List Entry → List (List ℕ) → (List ℕ → Type 0) → (most : ℕ) → (old new : Option (List ℕ)) → Stopped → Type 0
Stopping es ns may most old new Write = WroteCut es ns may most old new
Stopping es ns may most old new Memory = (count : ℕ) × ((count ≤ most) × Wrote es ns count old new)

-- something was appended
abbrev pub Grows : (old new : Option (List ℕ)) → Type 0
Grows old new = (text : List ℕ) × Appends old new text
