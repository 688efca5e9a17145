-- What a search tells, one event after the other, and the lines of its answers.
use Rattle.std.specs.Prelude.{◌≡◌, ℕ, List, [], ◌∷◌, ◌++◌, map}
use Rattle.lp_term.specs.Frame.{in_order}
use Rattle.lp_term.specs.declared.reduce.TermRefusal.{TermRefusal}
use Rattle.lp_term.specs.declared.reduce.TermRefusal.TheVariants as refusal
use Rattle.lp_model.specs.Branch as definition
use Rattle.lp_model.specs.Branch.{Task}
use Rattle.lp_model.specs.Events as happens
use Rattle.lp_model.specs.Events.{Advances}
use Rattle.lp_model.specs.Flat.{Clause}
use Rattle.lp_model.specs.Readings.{pair_of}
use Rattle.lp_model.specs.Search.{look}
use Rattle.lp_model.specs.Shown.{Entry}
use Rattle.lp_model.specs.Skeleton.{State}
use Rattle.lp_model.specs.Unify.{unit_limit}
use Rattle.lp_model.specs.Whole as whole
use Rattle.lp_model.specs.declared.answer.Answer.{Answer}
use Rattle.lp_model.specs.declared.answer.Event.{Event}
use Rattle.lp_model.specs.declared.answer.Event.TheVariants as event
use Rattle.lp_model.specs.declared.ending.Ending.{Ending}
use Rattle.lp_model.specs.declared.ending.Ending.TheVariants.{Deep}
use Rattle.lp_plain.specs.Between.{AreEnough, IsBetween}
use Rattle.lp_plain.specs.Held.{variables_of}
use Rattle.lp_plain.specs.Telling.{IsEventOf}
use Rattle.lp_plain.specs.declared.search.Search.{Search}
use Rattle.lp_solve.specs.Written.{CannotBeShown, IsLines}
use Rattle.lp_solve.specs.declared.piece.Piece.{Piece}
use Rattle.lp_solve.specs.declared.piece.Piece.TheVariants as piece

-- the event is the next one of the definition's search, wherever the search is in one of its states
abbrev pub Follows : Search → Event → Search → Type 0
Follows old told_now new = (P : List Clause) (n : ℕ) (s : State Task) → IsBetween P n old s → AreEnough P n s told_now → (x : happens.Event definition.Answer) (t : State Task) →
    Advances (look unit_limit n P) s x t → IsEventOf x told_now × IsBetween P n new t

-- the search tells an event, and is this one then
pub record IsTold (old : Search) (told_now : Event) (new : Search) : Type 0 where
  pub variables : variables_of new ≡ variables_of old
  pub told : whole.IsTold (variables_of old) told_now
  pub search : Follows old told_now new

-- it tells answers, in order
pub data Tells (first : Search) : List Answer → Search → Type 0 where
  no_answer : Tells first [] first
  one_answer : (before all : List Answer) (s t : Search) (a : Answer) → Tells first before s → IsTold s (event.Answer a) t → all ≡ before ++ a ∷ [] → Tells first all t

-- the values and pairs of an answer, as plain terms
abbrev pub plain : Answer → definition.Answer
plain a = record { next = 0; next_type = 0; types = []; values = in_order a.bank a.values.items; pairs = map (pair_of a.bank) a.pairs.items }

-- where the refusal is not want of memory
abbrev pub IfDeep : Type 0 → TermRefusal → Type 0
IfDeep P (refusal.Deep k) = P
IfDeep P refusal.Memory = Unit {0}

-- how what is written of a search ends: as the search tells, or by an answer that cannot be shown
pub data Ends (ns : List (List ℕ)) (s : Search) : Ending → Type 0 where
  as_told : (e : Ending) (t : Search) → IsTold s (event.Ended e) t → Ends ns s e
  too_deep : (a : Answer) (t : Search) → IsTold s (event.Answer a) t → CannotBeShown ns (plain a) → Ends ns s Deep

-- a piece that is to be written tells the next event of a search
abbrev pub IsPiece : List Entry → List (List ℕ) → (number : ℕ) → (old : Search) → Piece → (new : Search) → Type 0
IsPiece es ns k s (piece.Answer lines) t = (a : Answer) × IsTold s (event.Answer a) t × IsLines es ns k (plain a) lines.items
IsPiece es ns k s (piece.Over e) t = Ends ns s e
