use Rattle.std.proofs.Common.{◌∙◌, ap}
use Rattle.lp_sig.proofs.Refusing.{key_more}
use Rattle.lp_build.proofs.Walking.{new_is}
use Rattle.lp_build.proofs.walk.Loading.is_new.Goals as goal

pub returns-clause-new : goal.returns-clause-new
returns-clause-new c = λ names h. new_is c.args.self.now.names names c.into_bytes.result _ _ (ap (λ v. v.items) c.into_bytes.ensures.value ∙ c.in_ok-name.ensures) c.in_ok-insert.ensures.added h

pub returns-clause-noted : goal.returns-clause-noted
returns-clause-noted c = λ names h. key_more c.args.self.now.names c.insert.new.self names c.into_bytes.result _ (ap (λ v. v.items) c.into_bytes.ensures.value ∙ c.in_ok-name.ensures) c.in_ok-insert.ensures.keys h
