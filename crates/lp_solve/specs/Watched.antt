-- What the watchers of a query's search have heard.
use Rattle.std.specs.Prelude.{◌≡◌, ◌≢◌, ◌⊎◌, ℕ, List, Bool, Option, Some, true, false, map}
use Rattle.lp_base.specs.Held.{Held}
use Rattle.lp_base.specs.declared.status.Status.{Status}
use Rattle.lp_base.specs.declared.status.Status.TheVariants as variant
use Rattle.lp_watch.specs.Crowd.{Place, here, still_here}
use Rattle.lp_watch.specs.Seen.{Seen}
use Rattle.lp_model.specs.Flat.{Clause, Goals}
use Rattle.lp_model.specs.Proofs.{Declared}
use Rattle.lp_model.specs.declared.ending.Ending.{Ending}
use Rattle.lp_plain.specs.Hearing.{Hears, HearsPart}
use Rattle.lp_lines.specs.Lines.{is_of_search}
use Rattle.lp_solve.specs.Queries.{Flattens, IsFlat, IsQuery, constants, first_state, told_by}

-- the search came to an end of its own: neither memory nor the output failed, and it was not told to be too deep
unfoldable pub ended_itself : Status → Bool
ended_itself variant.Done = true
ended_itself variant.Steps = true
ended_itself variant.Flexible = true
ended_itself variant.Arithmetic = true
ended_itself variant.OpenNot = true
ended_itself _ = false

-- What is seen of the watchers is what it was before, with all notes of the definition's search within these limits, one after the other, and nothing else: who was done at one of them
-- is gone. Whatever declared types are taken, and however many moves and steps are looked at, as long as they lead to its end.
pub record HaveHeard (told : Option Held) (name query : List ℕ) (steps answers : ℕ) (old new : List Seen) : Type 0 where
  pub asks : IsQuery told name query
  pub flat : Flattens asks
  pub heard : (d : Declared) (P : List Clause) (gs : Goals) → IsFlat asks d P gs → (n j m : ℕ) (e : Ending) → (told_by P n j m (first_state asks gs steps answers)).ending ≡ Some e →
      (now : List Place) × Hears (constants asks) (told_by P n j m (first_state asks gs steps answers)).notes (map here old) now × (new ≡ still_here now)

-- The same of a beginning of these notes: want of memory may stop at a note that a first part of the watchers has.
pub record HaveHeardPart (told : Option Held) (name query : List ℕ) (steps answers : ℕ) (old new : List Seen) : Type 0 where
  pub asks : IsQuery told name query
  pub flat : Flattens asks
  pub heard : (d : Declared) (P : List Clause) (gs : Goals) → IsFlat asks d P gs → (n j m : ℕ) (e : Ending) → (told_by P n j m (first_state asks gs steps answers)).ending ≡ Some e →
      (now : List Place) × HearsPart (constants asks) (told_by P n j m (first_state asks gs steps answers)).notes (map here old) now × (new ≡ still_here now)

-- All notes were heard where a search ended, whatever stopped it a beginning of them, and nothing where texts or the query are refused
pub record Watches (told : Option Held) (name query : List ℕ) (steps answers : ℕ) (status : Status) (old new : List Seen) : Type 0 where
  pub searched : ended_itself status ≡ true → HaveHeard told name query steps answers old new
  pub always : (new ≡ old) ⊎ HaveHeardPart told name query steps answers old new
  pub refused : is_of_search status ≡ false → status ≢ variant.WriteFault → new ≡ old
