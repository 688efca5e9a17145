use Rattle.std.proofs.Common.{map, subst}
use Rattle.lp_calculus.specs.Term.{apply}
use Rattle.lp_term.specs.Nodes.{tree}
use Rattle.lp_term.specs.declared.node.TermId.{TermId}
use Rattle.lp_pattern.specs.Seen.{IsEnded}
use Rattle.lp_plain.proofs.HeadLooks.{head_applied, head_ended}
use Rattle.lp_plain.proofs.unified.is_rigid.Goals as goal

pub returns-in-App : goal.returns-in-App
returns-in-App c = λ e s.
    let b = c.args.bank.now in
    let ts = map (tree b) (map (λ (t : TermId). t.0) c.in-App.field-1.now) in
    subst (IsEnded s) c.in-App.ensures.tree (head_ended s (apply (tree b c.in-App.head.0) ts) (head_applied s (tree b c.in-App.head.0) ts (c.is_rigid_head.ensures e s)))

pub returns-in_default : goal.returns-in_default
returns-in_default c = λ e s. head_ended s (tree c.args.bank.now c.args.term.0) (c.is_rigid_head-in_default.ensures e s)
