use Rattle.std.proofs.Common.{sym, ap, ◌∙◌}
use Rattle.lp_calculus.specs.Term.{shift}
use Rattle.lp_calculus.proofs.Plain.{shift-none}
use Rattle.lp_term.specs.Nodes.{tree}
use Rattle.lp_normal.proofs.Bodies.{can_raise}
use Rattle.lp_normal.proofs.raising.raised.Goals as goal

pub returns-then-by-eq0-clause-tree : goal.returns-then-by-eq0-clause-tree
returns-then-by-eq0-clause-tree c =
    let t = tree c.args.bank.now c.args.term.0 in
    sym (ap (λ n. shift 0 n t) c.if-by-eq0.true ∙ shift-none t)

pub shift-requires-clause-raised : goal.shift-requires-clause-raised
shift-requires-clause-raised c =
    can_raise c.args.bank.now c.term_count-count.ensures.sound c.args.term.0 c.args.by c.requires.term c.term_count-count.ensures.few (c.can_be_raised.ensures.few c.if-not-can_be_raised.false) (c.can_be_raised.ensures.loose c.if-not-can_be_raised.false)
