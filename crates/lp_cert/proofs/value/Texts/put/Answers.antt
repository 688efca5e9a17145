use Rattle.std.proofs.Common.{arith}
use Rattle.lp_cert.proofs.Evaluating.{text_put, begins_more}
use Rattle.lp_cert.proofs.value.Texts.put.Goals as goal

pub returns-clause-put : goal.returns-clause-put
returns-clause-put c = text_put c.args.self.now.bytes.items c.args.bytes.now c.extend_from_slice.new.self.items
    (record { from = c.len-from.result; to = c.len.result }) (omega (arith, c.len-from.ensures, c.args.self.now.bytes.ok))
    (omega (arith, c.len.ensures, c.extend_from_slice.new.self.ok)) c.in_ok-extend_from_slice.ensures.items

pub returns-clause-grows : goal.returns-clause-grows
returns-clause-grows c = λ end g. begins_more c.args.self.now.bytes.items c.args.bytes.now c.extend_from_slice.new.self.items end c.in_ok-extend_from_slice.ensures.items g
