use Rattle.std.proofs.Common.{sym}
use Rattle.std.specs.HashMap.{values}
use Rattle.lp_calculus.specs.Term.{shift}
use Rattle.lp_term.specs.Nodes.{tree}
use Rattle.lp_term.specs.Change.{value}
use Rattle.lp_term.proofs.Trees.{extends_same}
use Rattle.lp_term.proofs.Ways.{unchanged, recalled, raised_found, given_value}
use Rattle.lp_term.proofs.carry.find.Goals as goal

pub returns-then-is_known_below-clause-found : goal.returns-then-is_known_below-clause-found
returns-then-is_known_below-clause-found c = (c.requires.place.id, unchanged c.args.given.now c.args.bank.now c.args.place (c.is_known_below.ensures c.if-is_known_below.true))

pub returns-in_default : goal.returns-in_default
returns-in_default c = record {
  kept = extends_same c.args.bank.now;
  found = recalled c.args.given.now c.args.bank.now (values c.args.memo.now) c.requires.known c.args.place c.recall.result c.recall.ensures;
}

pub returns-in_ok-found-in-Put-clause-found : goal.returns-in_ok-found-in-Put-clause-found
returns-in_ok-found-in-Put-clause-found c =
    raised_found c.raised_value.new.bank c.in_ok-found-in-Put.found (shift 0 c.args.place.depth (tree c.args.bank.now c.in-Some.value.0)) (value c.args.given.now c.args.bank.now c.args.place)
    (given_value c.args.given.now c.args.bank.now c.args.place c.in-Index.at c.in-Some.value (sym c.in-Index.ensures.tree) c.in-Put.is c.in-Some.ensures.here) c.in_ok-found-in-Put.ensures.made
