use Rattle.std.proofs.Common.{◌∙◌, ◌++◌, ◌∷◌, [], ap}
use Rattle.lp_term.specs.declared.change.Change.TheVariants.{Raise, Put}
use Rattle.lp_term.proofs.Ways.{index_value}
use Rattle.lp_term.proofs.Startings.{is_put, told_later}
use Rattle.lp_term.proofs.started.start_index.Goals as goal

pub returns-in_ok-push-in-Put-clause-started : goal.returns-in_ok-push-in-Put-clause-started
returns-in_ok-push-in-Put-clause-started c =
    is_put c.args.given.now c.args.bank.now c.args.place c.args.at c.in-Some.value c.new.result c.push.new.self c.new.ensures.items (c.in_ok-push-in-Put.ensures.items ∙ ap (λ l. l ++ c.in-Some.value ∷ []) c.new-left.ensures.items) c.requires.place
    c.term_count-count.ensures.few c.requires.index c.in-Some.ensures.here c.in-Put.is

pub returns-in_default-clause-started : goal.returns-in_default-clause-started
returns-in_default-clause-started c =
    told_later c.args.given.now c.args.bank.now c.lower.new.bank c.in_ok-made-in-Put.ensures.kept c.args.place c.in_ok-started-in-Put.started c.in_ok-made-in-Put.made c.requires.place c.in_ok-made-in-Put.ensures.within
    (c.in_ok-made-in-Put.ensures.tree ∙ index_value c.args.given.now c.args.bank.now c.args.place c.args.at Put c.requires.index c.in-Put.is)
    (c.in_ok-started-in-Put.ensures.started c.args.given.now c.lower.new.bank)

pub returns-in_ok-started-in-Raise-clause-started : goal.returns-in_ok-started-in-Raise-clause-started
returns-in_ok-started-in-Raise-clause-started c =
    told_later c.args.given.now c.args.bank.now c.raise.new.bank c.in_ok-made-in-Raise.ensures.kept c.args.place c.in_ok-started-in-Raise.started c.in_ok-made-in-Raise.made c.requires.place c.in_ok-made-in-Raise.ensures.within
    (c.in_ok-made-in-Raise.ensures.tree ∙ index_value c.args.given.now c.args.bank.now c.args.place c.args.at (Raise c.in-Raise.by) c.requires.index c.in-Raise.is)
    (c.in_ok-started-in-Raise.ensures.started c.args.given.now c.raise.new.bank)
