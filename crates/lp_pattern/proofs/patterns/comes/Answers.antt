use Rattle.std.proofs.Common.{refl, subst as transport}
use Rattle.lp_calculus.specs.Term.{index}
use Rattle.lp_pattern.specs.Under.{under}
use Rattle.lp_pattern.specs.Stripping.{IsStripped, name_term}
use Rattle.lp_pattern.proofs.ArgumentRuns.{taken}
use Rattle.lp_pattern.proofs.patterns.comes.Goals as goal

pub returns-in_default-clause-comes : goal.returns-in_default-clause-comes
returns-in_default-clause-comes c = λ r i h m f.
    transport (λ o. IsStripped m (under c.args.bank.now r c.args.wanted.term) c.stripped_name.new.bank r o c.args.left.now.items c.stripped_name.new.left.items) c.in_default.is (c.in_ok-name.ensures.stripped r i h m f)
    (index c.args.wanted.place) refl

pub returns-clause-comes : goal.returns-clause-comes
returns-clause-comes c = λ r i h m f.
    let w = transport (λ o. IsStripped m (under c.args.bank.now r c.args.wanted.term) c.stripped_name.new.bank r o c.args.left.now.items c.stripped_name.new.left.items) c.in-Some.is (c.in_ok-name.ensures.stripped r i h m f) in
    taken m c.args.wanted.place c.in-Some.count (under c.args.bank.now r c.args.wanted.term) c.stripped_name.new.bank r (name_term c.in-Some.name) c.is_place.result c.args.left.now.items c.stripped_name.new.left.items w.0
    c.is_place.ensures w.1 w.2
