use Rattle.std.proofs.Common.{◌∙◌, reverse, sym}
use Rattle.lp_model.specs.Values.{value}
use Rattle.lp_cert.proofs.Evaluating.{enters_two, none_leads, two_refused}
use Rattle.lp_cert.proofs.value.enter_two.Goals as goal

pub returns-then-not-is_on_two : goal.returns-then-not-is_on_two
returns-then-not-is_on_two c = λ b end t o i e. none_leads b end (reverse c.args.around.now.items) o (value t) (two_refused b t c.args.two (sym c.is_on_two.ensures ∙ c.if-not-is_on_two.true) i) e

pub returns : goal.returns
returns c = λ b end t o i e. enters_two b end t o c.args.two c.args.around.now.items c.push.new.self.items (sym c.is_on_two.ensures ∙ c.if-not-is_on_two.false) c.in_ok-push.ensures.items i e
