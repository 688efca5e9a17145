-- What watchers hear of a search, one event after the other.
use Rattle.std.specs.Prelude.{◌≡◌, ◌≢◌, ◌⊎◌, ℕ, List, [], None, Bool, true, false}
use Rattle.lp_watch.specs.Crowd.{Place, reports}
use Rattle.lp_model.specs.Branch.{Task}
use Rattle.lp_model.specs.Branch as definition
use Rattle.lp_model.specs.Events as happens
use Rattle.lp_model.specs.Events.{Advances}
use Rattle.lp_model.specs.Flat.{Clause}
use Rattle.lp_model.specs.Search.{look}
use Rattle.lp_model.specs.Skeleton.{State}
use Rattle.lp_model.specs.Unify.{unit_limit}
use Rattle.lp_model.specs.Whole.{Keeps}
use Rattle.lp_model.specs.declared.answer.Answer.{Answer}
use Rattle.lp_model.specs.declared.answer.Event.{Event}
use Rattle.lp_model.specs.declared.answer.Event.TheVariants as event
use Rattle.lp_model.specs.declared.ending.Ending.{Ending}
use Rattle.lp_model.specs.declared.ending.Ending.TheVariants.{Deep}
use Rattle.lp_plain.specs.Between.{AreEnough, IsBetween}
use Rattle.lp_plain.specs.Hearing.{Hears, HearsPart}
use Rattle.lp_plain.specs.Held.{constants_of, ended}
use Rattle.lp_plain.specs.Stepping.{notes_told}
use Rattle.lp_plain.specs.declared.search.Search.{Search}
use Rattle.lp_solve.specs.inner.Events.{IsTold}
use Rattle.lp_solve.specs.declared.piece.Piece.{Piece}
use Rattle.lp_solve.specs.declared.piece.Piece.TheVariants as piece

-- of a search that was not over, the notes of the definition on the way to the event
abbrev pub HearsOf : Search → Event → (seen later : List Place) → Type 0
HearsOf old told_now u v = ended old ≡ None → (P : List Clause) (n : ℕ) (s : State Task) → IsBetween P n old s → AreEnough P n s told_now → (x : happens.Event definition.Answer) (t : State Task)
    (d : Advances (look unit_limit n P) s x t) → Hears (constants_of old) (notes_told (look unit_limit n P) d.inner_moves d.moves s) u v

-- and whatever comes of it, a beginning of them
abbrev pub HearsSoFar : Search → (seen later : List Place) → Type 0
HearsSoFar old u v = (P : List Clause) (n : ℕ) (s : State Task) → IsBetween P n old s → (x : happens.Event definition.Answer) (t : State Task) (d : Advances (look unit_limit n P) s x t) →
    HearsPart (constants_of old) (notes_told (look unit_limit n P) d.inner_moves d.moves s) u v

-- the search tells an event, and the watchers hear what leads to it
pub record IsNext (old : Search) (told_now : Event) (new : Search) (seen later : List Place) : Type 0 where
  pub told : IsTold old told_now new
  pub heard : HearsOf old told_now seen later
  pub going : Keeps told_now (ended new)
  pub constants : constants_of new ≡ constants_of old

-- so answer after answer
pub data Watched (first : Search) (before : List Place) : Search → List Place → Type 0 where
  at_first : Watched first before first before
  one_answer : (s t : Search) (a : Answer) (u v : List Place) → IsNext s (event.Answer a) t u v → Watched first before s u → Watched first before t v

-- and to the end
pub record IsWatched (first : Search) (before after : List Place) : Type 0 where
  pub last : Search
  pub over : Search
  pub seen : List Place
  pub ending : Ending
  pub watched : Watched first before last seen
  pub ended : IsNext last (event.Ended ending) over seen after
  pub other : ending ≢ Deep

-- and up to where the search or the writing stopped
pub record IsWatchedSoFar (first : Search) (before after : List Place) : Type 0 where
  pub last : Search
  pub seen : List Place
  pub watched : Watched first before last seen
  pub part : (after ≡ seen) ⊎ HearsSoFar last seen after

-- what is heard up to a piece
abbrev pub HeardPiece : Search → Piece → Search → (seen later : List Place) → Type 0
HeardPiece s (piece.Answer lines) t u v = (a : Answer) × IsNext s (event.Answer a) t u v
HeardPiece s (piece.Over e) t u v = e ≢ Deep → IsNext s (event.Ended e) t u v

-- a report behind the last line: where somebody watches, that of the places that the watchers came to
abbrev pub IsReport : (watched : Bool) → (now : List Place) → (text : List ℕ) → Type 0
IsReport watched now text = (watched ≡ false → text ≡ []) × (watched ≡ true → text ≡ reports now)

-- the watchers came to them: by all notes up to an ending of its own, else by a beginning of them
pub record ComesTo (first : Search) (before after : List Place) (e : Ending) : Type 0 where
  pub whole : e ≢ Deep → IsWatched first before after
  pub part : IsWatchedSoFar first before after

abbrev pub IsReported : (watched : Bool) → (first : Search) → (before after : List Place) → Ending → (text : List ℕ) → Type 0
IsReported watched first before after e text = IsReport watched after text × ComesTo first before after e
