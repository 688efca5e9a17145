use Rattle.std.proofs.Common.{true≢false, sym, ◌∙◌}
use Rattle.std.proofs.lemmas.Bool.{eq-eqb}
use Rattle.lp_sig.proofs.OneNumber.{equal_numbers}
use Rattle.lp_sig.proofs.store.Types.are_equal.Goals as goal

pub returns-then-type_count-one-clause-distinct : goal.returns-then-type_count-one-clause-distinct
returns-then-type_count-one-clause-distinct c = λ differ h k e.
    let t = c.args.self.now in
    true≢false (sym (eq-eqb c.args.one.0 c.args.other.0 (equal_numbers t.bank c.type_count.ensures.sound t.once c.args.one.0 c.args.other.0 h k e)) ∙ differ)
