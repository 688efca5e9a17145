use Rattle.std.proofs.Common.{◌∙◌, ap, subst}
use Rattle.lp_plain.specs.Calling.{IsLookedAs}
use Rattle.lp_plain.proofs.CallEnds.{deep_leads, none_on, plain_call, some_on}
use Rattle.lp_plain.proofs.ProgramKept.{only_keeps, program_then}
use Rattle.lp_plain.proofs.Remains.{few_then, same_few, spent_few}
use Rattle.lp_plain.proofs.atomic.take_call.Goals as goal

pub returns-in_default-clause-leads : goal.returns-in_default-clause-leads
returns-in_default-clause-leads c =
    let m = c.args.machine.now in
    let n = c.looked_call.new.machine in
    let o = c.in_ok-looked.ensures in
    deep_leads m n n.bank o.only.bank c.args.place c.args.goal c.args.head c.args.first c.args.behind
    (subst (IsLookedAs m n (plain_call c.args.place c.args.goal c.args.head c.args.behind) c.args.first) c.in_default.is o.looks)

pub returns-in_default-found-clause-leads : goal.returns-in_default-found-clause-leads
returns-in_default-found-clause-leads c =
    let m = c.args.machine.now in
    let n = c.looked_call.new.machine in
    let o = c.in_ok-looked.ensures in
    let lk = subst (IsLookedAs m n (plain_call c.args.place c.args.goal c.args.head c.args.behind) c.args.first) c.in-Some.is o.looks in
    none_on m n o.only c.args.place c.args.goal c.args.head c.args.first c.args.behind c.in-Some.call lk c.first_candidate-found.result c.first_candidate-found.ensures.apart c.in_default-found.is

pub returns-clause-leads : goal.returns-clause-leads
returns-clause-leads c =
    let m = c.args.machine.now in
    let n = c.looked_call.new.machine in
    let o = c.in_ok-looked.ensures in
    let lk = subst (IsLookedAs m n (plain_call c.args.place c.args.goal c.args.head c.args.behind) c.args.first) c.in-Some.is o.looks in
    some_on m n o.only c.args.place c.args.goal c.args.head c.args.first c.args.behind c.in-Some.call lk c.first_candidate-found.result
    c.first_candidate-found.ensures.apart c.in-Some-found.candidate c.in-Some-found.is c.try_candidate.new.machine c.in_ok-turn.turn
    c.in_ok-turn.ensures.leads c.in_ok-turn.ensures.written

pub returns-in_default-clause-program : goal.returns-in_default-clause-program
returns-in_default-clause-program c = only_keeps c.args.machine.now c.looked_call.new.machine c.in_ok-looked.ensures.only

pub returns-in_default-found-clause-program : goal.returns-in_default-found-clause-program
returns-in_default-found-clause-program c = only_keeps c.args.machine.now c.looked_call.new.machine c.in_ok-looked.ensures.only

pub returns-clause-program : goal.returns-clause-program
returns-clause-program c = program_then c.args.machine.now c.looked_call.new.machine c.try_candidate.new.machine
    (only_keeps c.args.machine.now c.looked_call.new.machine c.in_ok-looked.ensures.only) c.in_ok-turn.ensures.program

pub returns-clause-ends : goal.returns-clause-ends
returns-clause-ends c = c.in_ok-turn.ensures.ends

pub returns-in_default-clause-steps : goal.returns-in_default-clause-steps
returns-in_default-clause-steps c = ap (λ z. z.counts.steps) c.in_ok-looked.ensures.only.same

pub returns-in_default-found-clause-steps : goal.returns-in_default-found-clause-steps
returns-in_default-found-clause-steps c = ap (λ z. z.counts.steps) c.in_ok-looked.ensures.only.same

pub returns-clause-steps : goal.returns-clause-steps
returns-clause-steps c = c.in_ok-turn.ensures.steps ∙ ap (λ z. z.counts.steps) c.in_ok-looked.ensures.only.same

pub returns-in_default-clause-few : goal.returns-in_default-clause-few
returns-in_default-clause-few c =
    let e = c.in_ok-looked.ensures.only.same in
    same_few c.args.machine.now c.looked_call.new.machine (ap (λ z. z.counts) e) (ap (λ z. z.choices.items) e)

pub returns-in_default-found-clause-few : goal.returns-in_default-found-clause-few
returns-in_default-found-clause-few c =
    let e = c.in_ok-looked.ensures.only.same in
    same_few c.args.machine.now c.looked_call.new.machine (ap (λ z. z.counts) e) (ap (λ z. z.choices.items) e)

pub returns-clause-few : goal.returns-clause-few
returns-clause-few c =
    let m = c.args.machine.now in
    let n = c.looked_call.new.machine in
    let e = c.in_ok-looked.ensures.only.same in
    few_then m n c.try_candidate.new.machine (ap (λ z. z.counts) e) (ap (λ z. z.choices.items) e)
    (spent_few n c.try_candidate.new.machine c.in-Some-found.candidate c.in_ok-turn.ensures.spent)
