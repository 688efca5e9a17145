use Rattle.std.proofs.Common.{◌≡◌, map, take}
use Rattle.std.specs.List.{flat_map}
use Rattle.lp_bytes.specs.Writing.{text_of, more}
use Rattle.lp_object.specs.Plain.{plain_instr}
use Rattle.lp_object.specs.Spelling.{spelled_instr}
use Rattle.lp_object.proofs.code.write_instructions.Given as goal

abbrev pub invariant-loop-instr : goal.invariant-loop-instr
invariant-loop-instr l = text_of l.writer ≡ more (text_of l.fn.writer) (flat_map (spelled_instr l.width) (map plain_instr (take l.instr-index l.code)))
