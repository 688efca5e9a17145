use Rattle.std.proofs.Common.{[], ◌∷◌, ◌++◌, arith}
use Rattle.lp_term.proofs.Walking.{on_ok}
use Rattle.lp_pattern.specs.Pruning.{visit_at}
use Rattle.lp_pattern.specs.Reading.{side_of}
use Rattle.lp_pattern.proofs.PruneMoves.{look_prunes, prunes_then}
use Rattle.lp_pattern.specs.Refusing.{IsOfTerm}
use Rattle.lp_pattern.proofs.GivenUp.{prune_far, prune_seen}
use Rattle.lp_pattern.proofs.Results.{err_and, if_err}
use Rattle.lp_pattern.proofs.prune.visit_part.Goals as goal

pub returns-clause-prunes : goal.returns-clause-prunes
returns-clause-prunes c =
    on_ok c.visit_seen.result _ _
    (λ g.
    prunes_then (side_of c.args.side.now) c.args.bank.now c.look.new.bank c.visit_seen.new.bank c.args.bindings.now c.args.bindings.now c.visit_seen.new.bindings c.args.next.now c.args.next.now c.visit_seen.new.next
    (c.args.left.now.items ++ c.args.visit ∷ []) (c.args.left.now.items ++ visit_at c.args.visit c.in_ok-looked.looked.whole ∷ []) c.visit_seen.new.left.items (omega arith)
    (look_prunes (side_of c.args.side.now) c.args.bank.now c.look.new.bank c.args.bindings.now c.args.next.now 1000000 c.args.left.now.items c.args.visit c.in_ok-looked.looked c.in_ok-looked.ensures.kept c.in_ok-looked.ensures.looked
    c.in_ok-looked.ensures.reached)
    g)
    c.visit_seen.ensures.prunes

pub returns-in_err-looked-clause-refused : goal.returns-in_err-looked-clause-refused
returns-in_err-looked-clause-refused c =
    err_and c.from_residual.result (λ e. IsOfTerm c.in_err-looked.field-0.0 e) _ c.from_residual.ensures.1
    (λ y i l o most term r.
    prune_far (side_of c.args.side.now) o most c.args.bank.now c.args.bindings.now c.args.next.now term c.args.left.now.items c.args.visit r c.in_err-looked.field-0.0 y i c.in_err-looked.ensures.refused)

pub returns-clause-refused : goal.returns-clause-refused
returns-clause-refused c =
    if_err c.visit_seen.result _ _
    (λ e f. prune_seen (side_of c.args.side.now) c.args.bank.now c.look.new.bank c.args.bindings.now c.args.next.now c.args.left.now.items c.args.visit c.in_ok-looked.looked e c.in_ok-looked.ensures.kept c.in_ok-looked.ensures.looked
    c.in_ok-looked.ensures.reached f)
    c.visit_seen.ensures.refused
