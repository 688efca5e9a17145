use Rattle.std.proofs.Common.{subst}
use Rattle.lp_cert.specs.declared.judging.CheckVerdict.TheVariants.{Accepted}
use Rattle.lp_judge.specs.Checked.{IsJudgedOn}
use Rattle.lp_judge.specs.Proofs.{AreProofs}
use Rattle.lp_judge.proofs.proving.made.Goals as goal

pub returns-clause-ready : goal.returns-clause-ready
returns-clause-ready c = (c.in_ok-proved.proved, c.in_ok-collected.collected.answers, c.in_ok-target.ensures)

pub returns-clause-proofs : goal.returns-clause-proofs
returns-clause-proofs c held name text = λ asked. subst (AreProofs held name text) c.as_slice.ensures.value (c.in_ok-proved.proved, c.in_ok-proved.ensures held name text asked)

pub returns-clause-counted : goal.returns-clause-counted
returns-clause-counted c held text = λ asked.
    let name = c.args.claim.name.now in
    record {
      count = c.in_ok-proved.proved;
      answers = c.in_ok-collected.collected.answers;
      is = c.in_ok-target.ensures;
      proofs = subst (λ b. IsJudgedOn held name text b c.in_ok-proved.proved Accepted) c.as_slice.ensures.value (c.in_ok-proved.ensures held name text asked);
    }
