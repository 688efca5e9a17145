use Rattle.std.proofs.Common.{◌-◌, length, map, take}
use Rattle.lp_fixity.specs.Table.{Extends, entry_of}
use Rattle.lp_syntax.specs.Modules.{DeclaresAll, bytes_of}
use Rattle.lp_syntax.proofs.whole.declare_all.Given as goal

abbrev pub invariant-over : goal.invariant-over
invariant-over l = record { extends : Extends l.fn.table l.table; declared : DeclaresAll (l.fixity, l.number) (entry_of l.fn.table) (map (bytes_of l.input.source.now) (take l.place l.names.items)) (entry_of l.table) }

abbrev pub decreases-over : goal.decreases-over
decreases-over l = length l.names.items - l.place
