use Rattle.std.proofs.Common.{rules}
use Rattle.std.specs.Prelude.{All}
use Rattle.std.specs.HashMap.{values}
use Rattle.lp_term.specs.Change.{value, IsKnown}
use Rattle.lp_term.proofs.Trees.{extends-trans}
use Rattle.lp_term.proofs.Ways.{place_stays}
use Rattle.lp_term.proofs.Startings.{begins}
use Rattle.lp_term.proofs.started.carry.Goals as goal

pub start-requires : goal.start-requires
start-requires c = place_stays c.args.given.now c.args.bank.now c.find.new.bank c.in_ok-made.ensures.kept c.args.place c.requires

no_known : (c : goal.In_ok-top) → All (IsKnown c.args.given.now c.start.new.bank) (values c.new-memo.result)
no_known c = search rules

pub moves-init : goal.moves-init
moves-init c =
    let e = extends-trans c.args.bank.now c.find.new.bank c.start.new.bank c.in_ok-made.ensures.kept c.in_ok-top.ensures.kept in
    record {
      kept = e;
      known = no_known c;
      top = c.in_ok-top.ensures.started.0;
      waits = begins c.args.given.now c.args.bank.now c.start.new.bank e c.args.place c.in_ok-top.top c.new-waiting.result.items c.new-waiting.ensures.items c.in_ok-top.ensures.place c.requires;
    }

pub moves-preserved : goal.moves-preserved
moves-preserved c =
    let a = rw c.in-On.is at (c.in_ok-next.ensures.next (value c.args.given.now c.args.bank.now c.args.place) c.moves.invariant.waits) in
    record {
      kept = extends-trans c.args.bank.now c.moves.bank c.step.new.bank c.moves.invariant.kept c.in_ok-next.ensures.kept;
      known = c.in_ok-next.ensures.known;
      top = a.0;
      waits = a.1;
    }
