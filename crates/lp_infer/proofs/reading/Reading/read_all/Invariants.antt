use Rattle.std.proofs.Common.{take}
use Rattle.lp_term.specs.Nodes.{Extends}
use Rattle.lp_infer.specs.ReadingOff.{bound_type, IsReadMemo, ReadsAll}
use Rattle.lp_infer.proofs.reading.Reading.read_all.Given as goal

abbrev pub invariant-loop-id : goal.invariant-loop-id
invariant-loop-id l = record {
  kept : Extends l.fn.to l.to;
  read : IsReadMemo (bound_type l.from l.bindings.made) l.fn.to l.fn.self → ReadsAll (bound_type l.from l.bindings.made) l.to l.fn.self l.self (take l.id-index l.ids) l.types.items;
}
