use Rattle.std.proofs.Common.{sym, subst, get_or, []}
use Rattle.std.proofs.lemmas.List.{take_all}
use Rattle.lp_term.proofs.Trees.{extends_same, extends-trans}
use Rattle.lp_module.specs.inner.Typed.{IsClosed, AreClosed}
use Rattle.lp_module.proofs.Typed.{closed_more, stands_later}
use Rattle.lp_module.proofs.sentences.closed_sentences.Goals as goal

pub loop-at-init : goal.loop-at-init
loop-at-init c = (extends_same c.args.bank.now, subst (AreClosed c.args.bank.now []) (sym c.new-clauses.ensures.items) tt)

pub loop-at-preserved : goal.loop-at-preserved
loop-at-preserved c = (
  extends-trans c.args.bank.now c.loop-at.bank c.closed.new.bank c.loop-at.invariant.0 c.in_ok-clause.ensures.kept,
  closed_more c.loop-at.bank c.closed.new.bank c.args.sentences.now c.loop-at.at c.index-sentences-at.result c.loop-at.clauses.items c.push.new.self.items c.in_ok-clause.clause c.loop-at-test.true c.index-sentences-at.is c.in_ok-push.ensures.items c.in_ok-clause.ensures.kept c.loop-at.invariant.1
      (subst (λ x. IsClosed c.closed.new.bank x.typed c.in_ok-clause.clause) (sym c.index-sentences-at.is) c.in_ok-clause.ensures.closed),
)

pub returns-clause-closed : goal.returns-clause-closed
returns-clause-closed c = subst (λ l. AreClosed c.loop-at.bank l c.loop-at.clauses.items) (take_all c.loop-at.at c.args.sentences.now c.loop-at-test.false) c.loop-at.invariant.1

pub closed-requires : goal.closed-requires
closed-requires c =
    stands_later c.args.bank.now c.loop-at.bank c.loop-at.invariant.0 (get_or c.args.sentences.now c.loop-at.at c.index-sentences-at.result).typed (c.requires c.loop-at.at c.index-sentences-at.result c.loop-at-test.true)
