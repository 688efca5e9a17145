use Rattle.std.proofs.Common.{◌≡◌, ◌++◌, map}
use Rattle.lp_syntax.specs.References.{entry_for}
use Rattle.lp_syntax.proofs.outline.add_fixities.Given as goal

abbrev pub invariant-loop-name : goal.invariant-loop-name
invariant-loop-name l = l.fixities.items ≡ l.initial.fixities.items ++ map (entry_for l.fixity l.number) l.yielded
