use Rattle.std.proofs.Common.{◌≡◌, ◌++◌, take, nat_eq}
use Rattle.std.specs.List.{IsDistinct}
use Rattle.std.specs.Map.{keys_of}
use Rattle.lp_pattern.specs.Growing.{Grows}
use Rattle.lp_pattern.proofs.types.adopt.Given as goal

abbrev pub invariant-loop-place : goal.invariant-loop-place
invariant-loop-place l = Grows l.fn.bindings l.bindings × (l.bindings.types.entries ≡ l.fn.bindings.types.entries ++ take l.place l.solution.made.entries) × (l.bindings.terms ≡ l.fn.bindings.terms) × IsDistinct nat_eq (keys_of (take l.place l.solution.made.entries))
