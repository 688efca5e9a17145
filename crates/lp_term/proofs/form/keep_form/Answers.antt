use Rattle.std.proofs.lemmas.Map.Views.{All-values-set_value}
use Rattle.lp_term.specs.Opened.{IsForm}
use Rattle.lp_term.proofs.Ways.{one_more}
use Rattle.lp_term.proofs.form.keep_form.Goals as goal

pub returns : goal.returns
returns c = λ b a k.
    one_more (IsForm b) c.args.forms.now c.insert.new.self c.args.id (record { id = c.args.id; made = c.args.made }) _ _ c.in_ok-insert.ensures.entries (All-values-set_value _ (IsForm b) _ _ a k) a k
