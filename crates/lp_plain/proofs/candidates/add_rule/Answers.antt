use Rattle.std.proofs.Common.{ap, sym, ◌∙◌}
use Rattle.lp_plain.specs.Candidates.{set_next}
use Rattle.lp_plain.proofs.Indexes.{none_linked, one_linked}
use Rattle.lp_plain.proofs.candidates.add_rule.Goals as goal

pub returns-in_default : goal.returns-in_default
returns-in_default c = none_linked c.args.bank.now c.args.rules.now.items _ c.args.number (sym c.constant_of.ensures ∙ c.in_default.is)

pub returns : goal.returns
returns c =
    one_linked c.args.bank.now c.args.rules.now.items c.link.new.rules.items _ _ c.args.number c.in-Some.constant
    (sym c.constant_of.ensures ∙ c.in-Some.is) c.requires (c.link.ensures ∙ ap (set_next c.args.rules.now.items c.args.number)
    c.in_ok-next.ensures.old) c.in_ok-next.ensures.updates.0
