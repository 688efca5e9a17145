use Rattle.std.proofs.Common.{◌∙◌, reverse, sym}
use Rattle.lp_model.specs.Values.{value}
use Rattle.lp_cert.proofs.Evaluating.{enters_one, none_leads, one_refused}
use Rattle.lp_cert.proofs.value.enter_one.Goals as goal

pub returns-then-not-is_on_one : goal.returns-then-not-is_on_one
returns-then-not-is_on_one c = λ b end t o i e. none_leads b end (reverse c.args.around.now.items) o (value t) (one_refused b t c.args.one (sym c.is_on_one.ensures ∙ c.if-not-is_on_one.true) i) e

pub returns : goal.returns
returns c = λ b end t o i e. enters_one b end t o c.args.one c.args.around.now.items c.push.new.self.items (sym c.is_on_one.ensures ∙ c.if-not-is_on_one.false) c.in_ok-push.ensures.items i e
