-- Steps of a term that find on the stack what they take.
use Rattle.std.specs.Prelude.{ℕ, suc, ◌-◌, ◌≤◌, List, [], ◌∷◌}
use Rattle.lp_gen.specs.Steps.{Step, make_constant, make_integer, make_text, make_index, make_variable, from_register, apply_last, abstract_last}

-- from so many on the stack
abbrev pub IsStacked : ℕ → Step → Type 0
IsStacked d (make_constant c Ts) = Unit {0}
IsStacked d (make_integer z) = Unit {0}
IsStacked d (make_text s) = Unit {0}
IsStacked d (make_index i T) = Unit {0}
IsStacked d (make_variable r T) = Unit {0}
IsStacked d (from_register r) = Unit {0}
IsStacked d (apply_last n) = suc n ≤ d
IsStacked d (abstract_last T) = 1 ≤ d

abbrev pub stack_behind : ℕ → Step → ℕ
stack_behind d (make_constant c Ts) = suc d
stack_behind d (make_integer z) = suc d
stack_behind d (make_text s) = suc d
stack_behind d (make_index i T) = suc d
stack_behind d (make_variable r T) = d
stack_behind d (from_register r) = suc d
stack_behind d (apply_last n) = d - n
stack_behind d (abstract_last T) = d

abbrev pub AreStacked : ℕ → List Step → Type 0
AreStacked d [] = Unit {0}
AreStacked d (s ∷ ss) = IsStacked d s × AreStacked (stack_behind d s) ss

abbrev pub stack_all : ℕ → List Step → ℕ
stack_all d [] = d
stack_all d (s ∷ ss) = stack_all (stack_behind d s) ss
