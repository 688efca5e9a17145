use Rattle.std.proofs.Common.{◌∙◌, ◌+◌, get_or, drop, sym}
use Rattle.std.proofs.lemmas.List.{drop_more}
use Rattle.lp_verify.specs.inner.Told.{is_loose}
use Rattle.lp_verify.proofs.TermsMade.{loose_here, loose_behind}
use Rattle.lp_verify.proofs.record.Work.are_loose.Goals as goal

pub returns-then-is_loose : goal.returns-then-is_loose
returns-then-is_loose c =
    let ds = c.args.registers.now in
    let n = c.loop-register.register-index in
    loose_here (is_loose c.args.shared.now.lists c.args.self.now.terms) (get_or ds n 0) (drop (n + 1) ds) ds (drop n ds) (drop_more ds n 0 c.loop-register-test.true) c.loop-register.invariant (sym c.is_loose.ensures ∙ c.if-is_loose.true)

pub loop-register-preserved : goal.loop-register-preserved
loop-register-preserved c =
    let ds = c.args.registers.now in
    let n = c.loop-register.register-index in
    loose_behind (is_loose c.args.shared.now.lists c.args.self.now.terms) (get_or ds n 0) (drop (n + 1) ds) ds (drop n ds) (drop_more ds n 0 c.loop-register-test.true) c.loop-register.invariant (sym c.is_loose.ensures ∙ c.if-is_loose.false)
