use Rattle.std.proofs.Common.{◌+◌, drop, get_or, refl, subst}
use Rattle.std.proofs.lemmas.List.{drop_more}
use Rattle.lp_verify.proofs.FirstTaken.{AreNotedSoFar, noted_more}
use Rattle.lp_verify.proofs.arguments.Takings.note_all.Goals as goal

pub loop-register-init : goal.loop-register-init
loop-register-init c = λ x n. refl

pub loop-register-preserved : goal.loop-register-preserved
loop-register-preserved c =
    let ds = c.args.registers.now in
    let n = c.loop-register.register-index in
    noted_more c.args.self.now.first c.loop-register.self.first c.note.new.self.first c.args.number (get_or ds n 0) ds (drop (n + 1) ds) c.in_ok-note.ensures
    (subst (AreNotedSoFar c.args.self.now.first c.loop-register.self.first c.args.number ds) (drop_more ds n 0 c.loop-register-test.true) c.loop-register.invariant)
