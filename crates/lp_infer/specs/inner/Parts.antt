-- What a text needs while its steps are gone through: parts on the stack, open abstractions, and type arguments.
use Rattle.std.specs.Prelude.{◌≡◌, ℕ, ◌+◌, ◌-◌, ◌^◌, ◌<◌, ◌≤◌, List, [], ◌∷◌}
use Rattle.lp_standard.specs.Schemes.{standard_schemes, entry}
use Rattle.lp_infer.specs.Postfix.{scheme_or}
use Rattle.lp_infer.specs.declared.lookup.Step.{Step}
use Rattle.lp_infer.specs.declared.lookup.Step.TheVariants as step

-- the parts that a step takes, and those that stand behind it
abbrev pub takes : Step → ℕ
takes step.Close = 1
takes step.Apply = 2
takes _ = 0

abbrev pub parts_after : Step → ℕ → ℕ
parts_after (step.Open given) n = n
parts_after step.Close n = n
parts_after step.Apply n = n - 1
parts_after _ n = n + 1

-- the abstractions that a step ends, and those that are open behind it
abbrev pub ends : Step → ℕ
ends step.Close = 1
ends _ = 0

abbrev pub open_after : Step → ℕ → ℕ
open_after (step.Open given) n = n + 1
open_after step.Close n = n - 1
open_after _ n = n

-- the type arguments that a step has
abbrev pub arguments_of : Step → ℕ
arguments_of (step.Standard c) = (scheme_or (entry standard_schemes c)).count
arguments_of (step.Declared c vars scheme) = vars
arguments_of _ = 0

abbrev pub all_arguments : List Step → ℕ
all_arguments [] = 0
all_arguments (s ∷ ss) = arguments_of s + all_arguments ss

-- each step has the parts that it takes, and one part stands at the end
abbrev pub HaveParts : List Step → ℕ → Type 0
HaveParts [] n = n ≡ 1
HaveParts (s ∷ ss) n = (takes s ≤ n) × HaveParts ss (parts_after s n)

-- each end of an abstraction is that of an open one
abbrev pub HaveOpen : List Step → ℕ → Type 0
HaveOpen [] n = Unit {0}
HaveOpen (s ∷ ss) n = (ends s ≤ n) × HaveOpen ss (open_after s n)

-- a variable stands below fewer abstractions than a list has elements
abbrev pub IsShallow : Step → Type 0
IsShallow (step.Variable depth k) = depth < 2 ^ 63
IsShallow _ = Unit {0}
