use Rattle.std.proofs.Common.{◌∙◌, sym}
use Rattle.lp_sig.specs.Said.{a_kind}
use Rattle.lp_sig.proofs.Knowledge.{said_again, new_kind}
use Rattle.lp_sig.proofs.names.Names.announce_kind.Goals as goal

pub returns-then-is_some : goal.returns-then-is_some
returns-then-is_some c = λ said k. said_again c.args.self.now said (c.args.name.now, a_kind c.args.arity) (sym (c.meaning.ensures.known said k) ∙ sym c.is_some.ensures ∙ c.if-is_some.true) k

pub returns : goal.returns
returns c = λ said k. new_kind c.args.self.now c.add_kind.new.self said c.args.name.now c.args.arity (sym (c.meaning.ensures.known said k) ∙ sym c.is_some.ensures ∙ c.if-is_some.false)
    c.in_ok-add_kind.ensures.kinds c.in_ok-add_kind.ensures.heads c.in_ok-add_kind.ensures.head_places c.in_ok-add_kind.ensures.places k
