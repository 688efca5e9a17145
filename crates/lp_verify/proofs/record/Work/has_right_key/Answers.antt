use Rattle.std.proofs.Common.{None, ap}
use Rattle.std.specs.Prelude.{is_none}
use Rattle.std.proofs.lemmas.Result.{IfOk-weaker}
use Rattle.lp_code.specs.Denote.{first_key}
use Rattle.lp_verify.proofs.KeyLaws.{wanted}
use Rattle.lp_verify.proofs.record.Work.has_right_key.Goals as goal

pub returns-in-Some : goal.returns-in-Some
returns-in-Some c =
    let r = c.args.self.now.home.record.now in
    IfOk-weaker c.has_wanted_key.result _ _ (λ v e. wanted (is_none r.head) r.program r.key (first_key (λ q. None) r.code.items) v (ap is_none c.in-Some.is) e) c.has_wanted_key.ensures
