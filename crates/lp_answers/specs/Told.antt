-- What the writer of answers asks of an answer.
use Rattle.std.specs.Prelude.{◌≡◌, ℕ, length, All}
use Rattle.lp_model.specs.declared.answer.Answer as code
use Rattle.lp_model.specs.declared.answer.Event as event
use Rattle.lp_model.specs.declared.answer.Event.TheVariants as told
use Rattle.lp_model.specs.Whole.{CanBeShown, CanPairBeShown}

-- a value for each of the query's variables, and all terms stand in the answer's own bank
pub record IsWhole (variables : ℕ) (a : code.Answer) : Type 0 where
  pub values : length a.values.items ≡ variables
  pub shown : All (CanBeShown a.bank) a.values.items
  pub pairs : All (CanPairBeShown a.bank) a.pairs.items

abbrev pub IsTold : (variables : ℕ) → event.Event → Type 0
IsTold n (told.Answer a) = IsWhole n a
IsTold n (told.Ended e) = Unit {0}
