use Rattle.std.proofs.Common.{◌∙◌, sym}
use Rattle.lp_sig.specs.Said.{an_abbreviation}
use Rattle.lp_sig.proofs.Knowledge.{said_again, new_head}
use Rattle.lp_sig.proofs.names.Names.announce_head.Goals as goal

pub returns-then-is_some-clause-names : goal.returns-then-is_some-clause-names
returns-then-is_some-clause-names c = λ said k. said_again c.args.self.now said (c.args.name.now, an_abbreviation c.args.parameters) (sym (c.meaning.ensures.known said k) ∙ sym c.is_some.ensures ∙ c.if-is_some.true) k

pub returns-clause-names : goal.returns-clause-names
returns-clause-names c = λ said k. new_head c.args.self.now c.add_head.new.self said c.args.name.now c.args.parameters (sym (c.meaning.ensures.known said k) ∙ sym c.is_some.ensures ∙ c.if-is_some.false)
    c.in_ok-add_head.ensures.heads c.in_ok-add_head.ensures.kinds c.in_ok-add_head.ensures.kind_places c.in_ok-add_head.ensures.places k
