use Rattle.std.proofs.Common.{◌∙◌}
use Rattle.lp_code.specs.Groups.{looked_key}
use Rattle.lp_verify.proofs.KeyLaws.{key_same}
use Rattle.lp_verify.proofs.record.Work.has_wanted_key.Goals as goal

pub returns : goal.returns
returns c = c.is_key.ensures ∙ key_same c.args.self.now.home.record.now.key (looked_key c.in_ok-key.key) _ c.in_ok-key.ensures
