use Rattle.std.proofs.Common.{arith}
use Rattle.lp_bytes.proofs.Again
use Rattle.lp_bytes.proofs.Looping
use Rattle.lp_bytes.proofs.Taking
use Rattle.lp_bytes.proofs.Lengthened.{full_stays, full_now, room_left}
use Rattle.lp_bytes.proofs.written.Writer.put.Goals as goal

pub returns-then-self : goal.returns-then-self
returns-then-self c = full_stays c.args.self.now.full c.args.self.now.bytes.items c.args.field.now c.if-self.true

pub returns-then-len-field-gt-MAX_IMAGE_BYTES : goal.returns-then-len-field-gt-MAX_IMAGE_BYTES
returns-then-len-field-gt-MAX_IMAGE_BYTES c = full_now c.args.self.now.full c.args.self.now.bytes.items c.args.field.now c.if-self.false (omega (arith, c.if-len-field-gt-MAX_IMAGE_BYTES.true, c.len.ensures))

pub returns : goal.returns
returns c = room_left c.args.self.now.full c.args.self.now.bytes.items _ c.args.field.now c.if-self.false c.in_ok-extend_from_slice.ensures.items (omega (arith, c.if-len-field-gt-MAX_IMAGE_BYTES.false, c.len.ensures))
