use Rattle.std.proofs.Common.{arith}
use Rattle.lp_bytes.specs.Reading.{left_of}
use Rattle.lp_object.specs.Plain.{plain_instr}
use Rattle.lp_object.proofs.Told.{gives_so, refused_at, instr_is, no_instr}
use Rattle.lp_object.proofs.instructions.read_instruction.Goals as goal

pub returns-in-1-to-10-clause-read : goal.returns-in-1-to-10-clause-read
returns-in-1-to-10-clause-read c = gives_so plain_instr c.read_building.result _ _ _ (instr_is c.args.width _ _ _ c.in_ok-byte.ensures) (c.read_building.ensures.read c.args.reader.now.at)

pub returns-in-11-to-17-clause-read : goal.returns-in-11-to-17-clause-read
returns-in-11-to-17-clause-read c = gives_so plain_instr c.read_matching.result _ _ _ (instr_is c.args.width _ _ _ c.in_ok-byte.ensures) (c.read_matching.ensures.read c.args.reader.now.at)

pub returns-in-18-to-26-clause-read : goal.returns-in-18-to-26-clause-read
returns-in-18-to-26-clause-read c = gives_so plain_instr c.read_calling.result _ _ _ (instr_is c.args.width _ _ _ c.in_ok-byte.ensures) (c.read_calling.ensures.read c.args.reader.now.at)

pub returns-in-27-to-36-clause-read : goal.returns-in-27-to-36-clause-read
returns-in-27-to-36-clause-read c = gives_so plain_instr c.read_nesting.result _ _ _ (instr_is c.args.width _ _ _ c.in_ok-byte.ensures) (c.read_nesting.ensures.read c.args.reader.now.at)

pub returns-in_default-clause-read : goal.returns-in_default-clause-read
returns-in_default-clause-read c = refused_at _ _ (left_of c.args.reader.now) _ c.bad-in_default.ensures c.at-at.ensures (no_instr c.args.width _ _ _ c.in_ok-byte.ensures (omega (arith, c.in_default)))
