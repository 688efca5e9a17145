use Rattle.std.proofs.Common.{◌≡◌, ◌-◌, [], map}
use Rattle.std.specs.List.{All}
use Rattle.lp_bytes.specs.Reading.{left_of}
use Rattle.lp_code.specs.Length.{Fits}
use Rattle.lp_object.specs.Plain.{plain_instr}
use Rattle.lp_object.specs.Reading.{instrs_at}
use Rattle.lp_object.proofs.code.read_instructions.Given as goal

abbrev pub invariant-loop : goal.invariant-loop
invariant-loop l = All Fits l.code.items × (instrs_at l.width l.behind (map plain_instr l.code.items) (l.most - l.counter) (left_of l.reader) ≡ instrs_at l.width l.behind [] l.most (left_of l.fn.reader))
