use Rattle.lp_build.proofs.Walking.{own_owed, signature_owed}
use Rattle.lp_build.proofs.walk.Loading.await_named.Goals as goal

pub returns-in_ok-push-in-Signature-clause-owed : goal.returns-in_ok-push-in-Signature-clause-owed
returns-in_ok-push-in-Signature-clause-owed c = λ all f left at is h. signature_owed all _ c.args.self.now.work.items _ c.args.file f c.args.part left c.in_ok-push-in-Signature.ensures.items c.in-Signature.is at is h

pub returns-in_ok-push-in-Module-2-clause-owed : goal.returns-in_ok-push-in-Module-2-clause-owed
returns-in_ok-push-in-Module-2-clause-owed c = λ all f left at is h. own_owed all _ c.args.self.now.work.items _ _ c.args.file f c.args.part left c.in_ok-push-in-Module.ensures.items c.in_ok-push-in-Module-2.ensures.items c.in-Module.is at is h
