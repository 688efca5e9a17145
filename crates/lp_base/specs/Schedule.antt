-- Which calls are to fail.
use Rattle.std.specs.Prelude.{◌≡◌, ℕ, ◌+◌, ◌-◌, ◌^◌, min, List, Contains}
use Rattle.lp_base.specs.declared.schedule.Schedule.{Schedule}

-- the next call is one of those that are to fail
abbrev pub IsDue : Schedule → Type 0
IsDue s = Contains s.fail.items s.calls

-- one call later: the same calls are to fail, and one more was counted
pub record CalledOnce (old new : Schedule) : Type 0 where
  pub fail : new.fail ≡ old.fail
  pub calls : new.calls ≡ min (old.calls + 1) (2 ^ 64 - 1)

-- no call was counted, and those of these numbers are to fail
pub record IsNew (s : Schedule) (numbers : List ℕ) : Type 0 where
  pub fail : s.fail.items ≡ numbers
  pub calls : s.calls ≡ 0
