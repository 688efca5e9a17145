use Rattle.std.proofs.Common.{◌-◌, arith}
use Rattle.lp_term.specs.Nodes.{tree}
use Rattle.lp_term.specs.Frame.{IsSpent}
use Rattle.lp_term.proofs.Moves.{passed_up, spent_head, frame_open, opened}
use Rattle.lp_term.proofs.Loads.{opened_load}
use Rattle.lp_term.proofs.normal.open.Goals as goal

pub returns-in_err-spine-clause-refused : goal.returns-in_err-spine-clause-refused
returns-in_err-spine-clause-refused c =
    passed_up c.from_residual.result c.in_err-spine.field-0.0 (IsSpent c.args.limit c.args.left.now (tree c.args.bank.now c.args.term.0)) c.from_residual.ensures.1
    (spent_head c.args.limit c.args.left.now (tree c.args.bank.now c.args.term.0) c.in_err-spine.field-0.0 c.in_err-spine.ensures.refused)

pub returns-clause-frame : goal.returns-clause-frame
returns-clause-frame c = frame_open c.args.base c.reduce_spine.new.bank c.in_ok-spine.spine c.new.result c.new.ensures.items c.in_ok-spine.ensures.spine

pub returns-clause-taken : goal.returns-clause-taken
returns-clause-taken c =
    opened c.args.base c.reduce_spine.new.bank c.in_ok-spine.spine c.new.result (c.args.left.now - c.in_ok-spine.spine.left) (tree c.args.bank.now c.args.term.0) c.new.ensures.items c.in_ok-spine.ensures.taken

pub returns-clause-load : goal.returns-clause-load
returns-clause-load c = λ e.
    opened_load c.reduce_spine.new.bank (tree c.args.bank.now c.args.term.0) c.in_ok-spine.spine.depth (c.args.left.now - c.in_ok-spine.spine.left) c.in_ok-spine.spine.head c.in_ok-spine.spine.args.items (omega arith)
    c.in_ok-spine.ensures.taken
