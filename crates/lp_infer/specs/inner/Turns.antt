-- How many turns tasks take at most. A node names older ones, so that each of its parts takes fewer turns than the node itself.
use Rattle.std.specs.Prelude.{ℕ, zero, suc, ◌+◌, List, [], ◌∷◌}
use Rattle.lp_infer.specs.declared.lookup.Task.{Task}
use Rattle.lp_infer.specs.declared.lookup.Task.TheVariants as task

-- the turns of a node of this number: more than those of two older ones
abbrev pub turns_of : ℕ → ℕ
turns_of zero = 1
turns_of (suc n) = turns_of n + turns_of n + 2

abbrev pub turns : List Task → ℕ
turns [] = 0
turns (task.Visit n ∷ ts) = turns_of n + turns ts
turns (task.Leave s outside ∷ ts) = suc (turns ts)
turns (task.Apply ∷ ts) = suc (turns ts)
