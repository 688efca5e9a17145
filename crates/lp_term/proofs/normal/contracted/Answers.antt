use Rattle.std.proofs.Common.{◌-◌, arith}
use Rattle.lp_term.specs.Nodes.{tree}
use Rattle.lp_term.specs.Frame.{IsSpent, standing}
use Rattle.lp_term.proofs.Trees.{extends-trans}
use Rattle.lp_term.proofs.Moves.{passed_up, spent_later, steps_on}
use Rattle.lp_term.proofs.normal.contracted.Goals as goal

pub returns-in_err-id-clause-refused : goal.returns-in_err-id-clause-refused
returns-in_err-id-clause-refused c =
    passed_up c.from_residual-in_err-id.result c.in_err-id.field-0.0 (IsSpent c.args.limit c.args.limit (tree c.args.bank.now c.args.term.0)) c.from_residual-in_err-id.ensures.1
    (spent_later c.args.limit c.contractions.left (tree c.args.bank.now c.args.term.0) (standing c.contractions.bank c.contractions.frames.items) c.in_err-id.field-0.0 c.contractions.invariant.left c.contractions.invariant.taken c.in_err-id.ensures.refused)

pub returns-in-Some-clause-form : goal.returns-in-Some-clause-form
returns-in-Some-clause-form c =
    let k = rw c.in-Some.is at c.in_ok-id.ensures.taken in (
      c.args.limit - c.go_on.new.left,
      omega arith,
      (steps_on c.args.limit c.contractions.left c.go_on.new.left (tree c.args.bank.now c.args.term.0) (standing c.contractions.bank c.contractions.frames.items) (tree c.go_on.new.bank c.in-Some.id.0) c.in_ok-id.ensures.left c.contractions.invariant.left c.contractions.invariant.taken k.0, k.1),
    )

pub contractions-preserved : goal.contractions-preserved
contractions-preserved c =
    let f = rw c.in_default.is at c.in_ok-id.ensures.frames in
    let k = rw c.in_default.is at c.in_ok-id.ensures.taken in
    record {
      kept = extends-trans c.args.bank.now c.contractions.bank c.go_on.new.bank c.contractions.invariant.kept c.go_on.ensures.kept;
      some = f.0;
      frames = f.1;
      left = omega (arith, c.in_ok-id.ensures.left, c.contractions.invariant.left);
      taken = steps_on c.args.limit c.contractions.left c.go_on.new.left (tree c.args.bank.now c.args.term.0)
          (standing c.contractions.bank c.contractions.frames.items) (standing c.go_on.new.bank c.go_on.new.frames.items) c.in_ok-id.ensures.left
          c.contractions.invariant.left c.contractions.invariant.taken k;
    }
