use Rattle.std.proofs.Common.{◌∙◌, ◌++◌, ◌∷◌, [], ap}
use Rattle.lp_term.proofs.Startings.{is_told}
use Rattle.lp_term.proofs.started.told.Goals as goal

pub returns-clause-started : goal.returns-clause-started
returns-clause-started c = λ vs b i m e.
    is_told vs b c.args.place c.args.made c.push.new.self c.new.result (c.in_ok-push.ensures.items ∙ ap (λ l. l ++ c.args.made ∷ []) c.new-done.ensures.items) c.new.ensures.items i m e
