-- An event that is to be told, and an answer that is noted.
use Rattle.std.specs.Prelude.{◌≡◌, suc, ◌+◌, ◌-◌, ◌^◌, ◌<◌, ◌≤◌, None}
use Rattle.lp_model.specs.Events.{Advances}
use Rattle.lp_model.specs.Search.{look}
use Rattle.lp_model.specs.Unify.{unit_limit}
use Rattle.lp_plain.specs.declared.machine.Machine.{Machine}
use Rattle.lp_plain.specs.declared.search.Search.{Search}
use Rattle.lp_plain.specs.Between.{HasVariables}
use Rattle.lp_plain.specs.inner.Following.{Course}

-- in a new row
abbrev pub rested : Machine → Machine
rested m = record m { counts = record m.counts { row = 0 } }

-- an answer is wanted, and its event is to be told
pub record IsToTell (s : Search) (c : Course) : Type 0 where
  pub goes_on : s.ended ≡ None
  pub variables : HasVariables c.query s
  pub given : c.given ≡ s.given
  pub left : s.answers ≡ s.given + suc c.left
  pub fits : s.answers ≤ 2 ^ 64 - 1
  pub comes : Advances (look unit_limit c.enough c.program) c.begin c.event c.after

-- one answer more is given, and a new row begins
pub record IsNoted (s t : Search) : Type 0 where
  pub machine : t.machine ≡ rested s.machine
  pub variables : t.variables ≡ s.variables
  pub ended : t.ended ≡ s.ended
  pub answers : t.answers ≡ s.answers
  pub given : s.given < s.answers → s.answers ≤ 2 ^ 64 - 1 → t.given ≡ suc s.given
