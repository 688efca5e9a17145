-- What a caller knows of an answer: that it is whole, so that it can be shown.
use Rattle.std.specs.Prelude.{◌≡◌, ◌<◌, ◌^◌, ℕ, length, Option, Some, None, All}
use Rattle.lp_term.specs.Nodes.{Nodes, tree}
use Rattle.lp_term.specs.Spine.{LooseBelow}
use Rattle.lp_term.specs.declared.node.TermId.{TermId}
use Rattle.lp_model.specs.declared.answer.Answer as code
use Rattle.lp_model.specs.declared.answer.Pair as pair
use Rattle.lp_model.specs.declared.answer.Event as event
use Rattle.lp_model.specs.declared.answer.Event.TheVariants as told
use Rattle.lp_model.specs.declared.ending.Ending.{Ending}

-- the term stands in the bank, and its loose indices fit 32 bits
abbrev pub CanBeShown : Nodes → TermId → Type 0
CanBeShown b t = (t.0 < length b.terms) × LooseBelow (2 ^ 32) 0 (tree b t.0)

-- both sides
abbrev pub CanPairBeShown : Nodes → pair.Pair → Type 0
CanPairBeShown b p = CanBeShown b p.left × CanBeShown b p.right

-- a value for each of the query's variables, and all terms stand in the answer's own bank
pub record IsWhole (variables : ℕ) (a : code.Answer) : Type 0 where
  pub values : length a.values.items ≡ variables
  pub shown : All (CanBeShown a.bank) a.values.items
  pub pairs : All (CanPairBeShown a.bank) a.pairs.items

-- an answer is whole
abbrev pub IsTold : (variables : ℕ) → event.Event → Type 0
IsTold n (told.Answer a) = IsWhole n a
IsTold n (told.Ended e) = Unit {0}

-- how the search ended, as it is kept behind an event
abbrev pub Keeps : event.Event → Option Ending → Type 0
Keeps (told.Ended e) o = o ≡ Some e
Keeps (told.Answer a) o = o ≡ None
