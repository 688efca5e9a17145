use Rattle.std.proofs.Common.{arith, length, subst}
use Rattle.std.specs.Prelude.{All}
use Rattle.std.proofs.lemmas.List.Elements.{All-nil, All-more, All-get_or}
use Rattle.lp_term.proofs.Knowing.{take_whole}
use Rattle.lp_type_unify.specs.Reading.{IsPair}
use Rattle.lp_cert.proofs.typing.are_pairs.Goals as goal

pub loop-at-init : goal.loop-at-init
loop-at-init c = All-nil (IsPair (length c.args.bank.now.types))

pub loop-at-preserved : goal.loop-at-preserved
loop-at-preserved c = All-more (IsPair (length c.args.bank.now.types)) c.args.pairs.now c.loop-at.at _ c.loop-at-test.true c.loop-at.invariant (c.is_pair.ensures.inside c.if-not-is_pair.false)

pub returns-then-not-is_pair-clause-outside : goal.returns-then-not-is_pair-clause-outside
returns-then-not-is_pair-clause-outside c = λ e h. c.is_pair.ensures.outside c.if-not-is_pair.true (All-get_or (IsPair (length c.args.bank.now.types)) c.args.pairs.now c.loop-at.at _ c.loop-at-test.true h)

pub returns-clause-inside : goal.returns-clause-inside
returns-clause-inside c = λ e. subst (All (IsPair (length c.args.bank.now.types))) (take_whole c.args.pairs.now c.loop-at.at (omega (arith, c.loop-at-test.false))) c.loop-at.invariant
