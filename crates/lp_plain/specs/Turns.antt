-- What each turn keeps, and how the turn of a goal may end.
use Rattle.std.specs.Prelude.{◌≡◌}
use Rattle.lp_term.specs.Nodes.{Extends}
use Rattle.lp_model.specs.declared.ending.Ending.{Ending}
use Rattle.lp_model.specs.declared.ending.Ending.TheVariants.{NoMore, NoMoreCut, Enough, Steps, Flexible, Arithmetic, OpenNot, Deep}
use Rattle.lp_plain.specs.declared.machine.Machine.{Machine}
use Rattle.lp_plain.specs.declared.outcome.Turn.{Turn}

-- the clauses and where they are found stay, and the bank only grows
pub record KeepsProgram (old new : Machine) : Type 0 where
  pub bank : Extends old.bank new.bank
  pub table : new.table ≡ old.table
  pub index : new.index ≡ old.index

-- an end other than that no alternative is left
abbrev pub EndsAll : Ending → Type 0
EndsAll NoMore = ⊥
EndsAll NoMoreCut = ⊥
EndsAll Enough = Unit {0}
EndsAll Steps = Unit {0}
EndsAll Flexible = Unit {0}
EndsAll (Arithmetic f) = Unit {0}
EndsAll OpenNot = Unit {0}
EndsAll Deep = Unit {0}

-- a turn that does not end the search
abbrev pub IsNoEnd : Turn → Type 0
IsNoEnd Turn.On = Unit {0}
IsNoEnd Turn.Back = Unit {0}
IsNoEnd Turn.Answered = Unit {0}
IsNoEnd (Turn.Ended e) = ⊥

-- the turn of a goal does not answer, and ends with no other end
abbrev pub IsGoalTurn : Turn → Type 0
IsGoalTurn Turn.On = Unit {0}
IsGoalTurn Turn.Back = Unit {0}
IsGoalTurn Turn.Answered = ⊥
IsGoalTurn (Turn.Ended e) = EndsAll e
