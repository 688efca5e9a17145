use Rattle.std.proofs.Common.{refl, subst}
use Rattle.lp_pattern.proofs.Keeps.{goes_on_same}
use Rattle.lp_plain.specs.declared.choice.Untried.{Untried}
use Rattle.lp_plain.specs.Trying.{IsNext}
use Rattle.lp_plain.proofs.Others.{alone_at, others_at}
use Rattle.lp_plain.proofs.WrittenSearches.{search_aside}
use Rattle.lp_plain.specs.inner.Remaining.{ComesAfter}
use Rattle.lp_plain.proofs.Remains.{none_spent, others_spent}
use Rattle.lp_plain.proofs.atomic.put_others.Goals as goal

pub returns-in_default-clause-at_try : goal.returns-in_default-clause-at_try
returns-in_default-clause-at_try c = λ qv a s h. alone_at qv c.args.machine.now a c.args.call.now c.args.candidate s h c.candidate_after-found.result c.candidate_after-found.ensures.next c.in_default.is

pub returns-clause-at_try : goal.returns-clause-at_try
returns-clause-at_try c = λ qv a s h.
    let m = c.args.machine.now in
    let p = c.in_ok-put_choice.ensures in
    let f = subst (IsNext m c.args.call.now c.args.candidate) c.in-Some.is c.candidate_after-found.ensures.next in
    others_at qv m a c.args.call.now c.args.candidate s h c.put_choice.new.self c.in-Some.next f p.alternative p.goals p.assumed p.frames p.branch p.denied p.counts

pub returns-clause-goals : goal.returns-clause-goals
returns-clause-goals c = let p = c.in_ok-put_choice.ensures in record { known = p.goals.known; frames = p.goals.frames }

pub returns-clause-assumed : goal.returns-clause-assumed
returns-clause-assumed c = c.in_ok-put_choice.ensures.assumed

pub returns-clause-branch : goal.returns-clause-branch
returns-clause-branch c = c.in_ok-put_choice.ensures.branch

pub returns-in_default-clause-goals : goal.returns-in_default-clause-goals
returns-in_default-clause-goals c = record {
  known = record { bank = refl; bindings = refl; scopes = refl; table = refl; standings = refl; index = refl };
  frames = goes_on_same c.args.machine.now.frames.items;
}

pub returns-in_default-clause-assumed : goal.returns-in_default-clause-assumed
returns-in_default-clause-assumed c = record { assumptions = refl; newest = refl }

pub returns-in_default-clause-branch : goal.returns-in_default-clause-branch
returns-in_default-clause-branch c = refl

pub returns-clause-frames : goal.returns-clause-frames
returns-clause-frames c = c.in_ok-put_choice.ensures.frames

pub returns-in_default-clause-frames : goal.returns-in_default-clause-frames
returns-in_default-clause-frames c = refl

pub returns-in_default-clause-written : goal.returns-in_default-clause-written
returns-in_default-clause-written c = λ ar i w. w

pub returns-clause-written : goal.returns-clause-written
returns-clause-written c = λ ar i w.
    let p = c.in_ok-put_choice.ensures in
    search_aside c.args.machine.now c.put_choice.new.self (Untried.Clauses c.args.call.now c.in-Some.next) i p.goals p.frames p.assumed p.alternative ar w

pub returns-in_default-clause-spent : goal.returns-in_default-clause-spent
returns-in_default-clause-spent c = none_spent c.args.machine.now c.args.candidate

pub returns-clause-spent : goal.returns-clause-spent
returns-clause-spent c =
    let p = c.in_ok-put_choice.ensures in
    others_spent c.args.machine.now c.put_choice.new.self c.args.call.now c.args.candidate c.in-Some.next
    (subst (ComesAfter c.args.candidate) c.in-Some.is c.candidate_after-found.ensures.less) p.counts p.more
