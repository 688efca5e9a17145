use Rattle.lp_term.specs.Nodes.{tree}
use Rattle.lp_cert.proofs.Fitting.{closed_fits}
use Rattle.lp_cert.proofs.Putting.{put_later}
use Rattle.std.proofs.Common.{arith}
use Rattle.lp_cert.proofs.Marking.{known_later}
use Rattle.lp_cert.proofs.instance.put_value.Goals as goal

pub substitute-requires-clause-fits : goal.substitute-requires-clause-fits
substitute-requires-clause-fits c = closed_fits (tree c.args.bank.now c.args.value.0) (c.in_ok-is_loose_below.ensures.below c.if-not-branch.false) 0 (tree c.args.bank.now c.args.term.0)

pub returns-clause-put : goal.returns-clause-put
returns-clause-put c = λ b g.
    put_later c.args.bank.now c.substitute.new.bank b c.args.term.0 c.args.value.0 c.in_ok-made.made.0 c.in_ok-made.ensures.kept g
    (c.is_inside.ensures.inside c.if-not-is_inside.false) (c.is_inside-2.ensures.inside c.if-not-is_inside-2.false) c.in_ok-made.ensures.within
    (c.in_ok-is_loose_below.ensures.below c.if-not-branch.false) c.in_ok-made.ensures.tree

pub returns-then-not-is_inside-clause-none : goal.returns-then-not-is_inside-clause-none
returns-then-not-is_inside-clause-none c = λ e l m k. absurd (omega (arith, l, c.is_inside.ensures.outside c.if-not-is_inside.true))

pub returns-then-not-is_inside-2-clause-none : goal.returns-then-not-is_inside-2-clause-none
returns-then-not-is_inside-2-clause-none c = λ e l m k. absurd (omega (arith, m, c.is_inside-2.ensures.outside c.if-not-is_inside-2.true))

pub returns-then-not-branch-clause-none : goal.returns-then-not-branch-clause-none
returns-then-not-branch-clause-none c = λ e l m k. c.in_ok-is_loose_below.ensures.above c.if-not-branch.true k

pub returns-clause-known : goal.returns-clause-known
returns-clause-known c = known_later c.args.bank.now c.substitute.new.bank c.is_loose_below.new.self c.in_ok-made.ensures.kept c.in_ok-is_loose_below.ensures.known
