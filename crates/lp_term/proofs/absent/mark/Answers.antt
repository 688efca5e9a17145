use Rattle.std.proofs.lemmas.Map.Views.{All-values-set_value}
use Rattle.lp_term.specs.Absent.{IsSettled}
use Rattle.lp_term.proofs.Ways.{one_more}
use Rattle.lp_term.proofs.absent.mark.Goals as goal

pub returns : goal.returns
returns c = λ b left a k.
    one_more (IsSettled b left) c.args.marks.now c.insert.new.self c.args.place c.args.place _ _ c.in_ok-insert.ensures.entries (All-values-set_value _ (IsSettled b left) _ _ a k) a k
