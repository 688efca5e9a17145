use Rattle.std.proofs.Common.{sym, subst as transport, arith, map, add-one}
use Rattle.lp_calculus.specs.Term.{apply}
use Rattle.lp_term.specs.Nodes.{tree}
use Rattle.lp_term.specs.Facts.{AreFacts, IsNoAbstraction}
use Rattle.lp_term.proofs.Knowing.{applied_next, take_whole}
use Rattle.lp_term.proofs.bank.Bank.facts_applied.Goals as goal

pub loop-arg-init : goal.loop-arg-init
loop-arg-init c = record { facts = c.head_facts-facts.ensures.facts; head = c.head_facts-facts.ensures.head }

pub loop-arg-preserved : goal.loop-arg-preserved
loop-arg-preserved c =
    let next = applied_next (tree c.args.self.now) (tree c.args.self.now c.args.head.0) c.args.args.now c.loop-arg.arg-index _ (add-one c.loop-arg.arg-index) c.loop-arg-test.true in
    record {
      facts = transport (AreFacts c.applied-facts.result) (sym next) (c.applied-facts.ensures _ _ c.loop-arg.invariant.facts c.loop-arg.invariant.head c.facts.ensures);
      head = λ e. transport IsNoAbstraction (sym next) tt;
    }

pub returns : goal.returns
returns c =
    transport (λ l. AreFacts c.loop-arg.facts (apply (tree c.args.self.now c.args.head.0) (map (tree c.args.self.now) (map (λ t. t.0) l))))
    (take_whole c.args.args.now c.loop-arg.arg-index (omega (arith, c.loop-arg-test.false))) c.loop-arg.invariant.facts
