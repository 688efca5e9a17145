use Rattle.std.proofs.Common.{◌<◌, drop}
use Rattle.std.specs.Prelude.{◌^◌}
use Rattle.lp_verify.specs.Judged.{bytes_of}
use Rattle.lp_verify.specs.inner.Sides.{PlacesSoFar}
use Rattle.lp_verify.proofs.blocks.Places.of.Given as goal

abbrev pub invariant-loop-instr : goal.invariant-loop-instr
invariant-loop-instr l = bytes_of l.fn.code < 2 ^ 32 → PlacesSoFar l.fn.code (drop l.instr-index l.fn.code) l.place l.jumps
