use Rattle.std.proofs.lemmas.Map.Views.{All-values-set_value}
use Rattle.lp_term.specs.Change.{IsKnown}
use Rattle.lp_term.proofs.Ways.{one_more}
use Rattle.lp_term.proofs.change.remember.Goals as goal

pub returns : goal.returns
returns c = λ vs b a k.
    one_more (IsKnown vs b) c.args.memo.now c.insert.new.self c.args.place (record { place = c.args.place; made = c.args.made }) _ _ c.in_ok-insert.ensures.entries (All-values-set_value _ (IsKnown vs b) _ _ a k) a k
