use Rattle.std.proofs.Common.{◌≡◌, ◌∙◌, ap, length, sym, subst, arith}
use Rattle.lp_model.specs.Search.{look}
use Rattle.lp_model.specs.Unify.{unit_limit}
use Rattle.lp_plain.specs.Followed.{IsTryOf}
use Rattle.lp_plain.specs.Moving.{Leads, quiet}
use Rattle.lp_plain.specs.Turns.{IsGoalTurn}
use Rattle.lp_plain.proofs.Growing.{grows_kept}
use Rattle.lp_plain.proofs.ProgramKept.{at_keeps, goals_keep, program_then, unified_ends}
use Rattle.lp_plain.proofs.TrialsFound.{candidate_written}
use Rattle.lp_plain.proofs.TryMoves.{goal_ready, trial_ready, try_leads}
use Rattle.lp_plain.proofs.WrittenSearches.{same_lists}
use Rattle.lp_plain.proofs.Remains.{spent_then}
use Rattle.lp_plain.proofs.atomic.try_candidate.Goals as goal

pub returns-clause-leads : goal.returns-clause-leads
returns-clause-leads c = λ qv a s h sw w ea go enough few P ty.
    let m = c.args.machine.now in
    let k = c.put_others.new.machine in
    let n = c.attempt.new.machine in
    let call = c.args.call.now in
    let one = c.args.candidate in
    let p = c.in_ok-put_others.ensures in
    let u = c.in_ok-unified.ensures in
    let at = p.at_try qv a s h in
    let same : c.len-mark.result ≡ length m.choices.items = omega (arith, c.len-mark.ensures, m.choices.ok) in
    let leaves = subst (λ i. IsTryOf k n call one i c.in_ok-unified.unified) same u.leaves in
    let written = same_lists m k h.above.done.stands (grows_kept m k p.goals) (ap (λ v. v.items) p.frames) (ap (λ v. v.items) p.assumed.assumptions) qv.arity sw in
    subst (λ x. Leads 1 quiet qv x n go (look unit_limit enough P) s) (sym c.turn_of.ensures)
    (try_leads qv k n a call one (length m.choices.items) s at u.grows (goal_ready qv k a call one (length m.choices.items) s at) (trial_ready qv k a call one (length m.choices.items) s at written)
    w ea go enough P ty c.in_ok-unified.unified (λ e. few (c.turn_of.ensures ∙ e)) leaves)

pub returns-clause-written : goal.returns-clause-written
returns-clause-written c = λ qv a s h w.
    let m = c.args.machine.now in
    let k = c.put_others.new.machine in
    let call = c.args.call.now in
    let one = c.args.candidate in
    let p = c.in_ok-put_others.ensures in
    let at = p.at_try qv a s h in
    let wk = p.written qv.arity h.above.done.stands w in
    let tr = trial_ready qv k a call one (length m.choices.items) s at wk.at_work in
    c.in_ok-unified.ensures.written qv.arity tr.vars tr.head tr.values tr.around tr.trial at.above.done.stands (goal_ready qv k a call one (length m.choices.items) s at)
    (candidate_written k qv.arity one at.tried at.tried_written) wk

pub returns-clause-program : goal.returns-clause-program
returns-clause-program c = program_then c.args.machine.now c.put_others.new.machine c.attempt.new.machine
    (goals_keep c.args.machine.now c.put_others.new.machine c.in_ok-put_others.ensures.goals)
    (at_keeps c.put_others.new.machine c.attempt.new.machine c.args.call.now.place c.in_ok-unified.ensures.grows.grows)

pub returns-clause-ends : goal.returns-clause-ends
returns-clause-ends c = subst IsGoalTurn (sym c.turn_of.ensures) (unified_ends c.in_ok-unified.unified)

pub returns-clause-steps : goal.returns-clause-steps
returns-clause-steps c = ap (λ z. z.steps) (c.in_ok-unified.ensures.grows.counts ∙ c.in_ok-put_others.ensures.counts)

pub returns-clause-spent : goal.returns-clause-spent
returns-clause-spent c =
    let g = c.in_ok-unified.ensures.grows in
    spent_then c.args.machine.now c.put_others.new.machine c.attempt.new.machine c.args.candidate c.in_ok-put_others.ensures.spent g.counts g.choices
