use Rattle.std.proofs.Common.{◌≡◌, ◌∙◌, ◌<◌, ap, length, refl, subst, sym}
use Rattle.std.specs.Prelude.{IfSome}
use Rattle.lp_plain.specs.Attempted.{IsClauseOf}
use Rattle.lp_plain.specs.Unifying.{StandPairs}
use Rattle.lp_plain.specs.Within.{StandsIn}
use Rattle.lp_plain.proofs.Trials.{tried_as}
use Rattle.lp_plain.proofs.TryGrows.{head_more, head_residual, head_stands, same_more}
use Rattle.lp_plain.proofs.TryScopes.{scope_is, types_taken}
use Rattle.lp_plain.proofs.attempt.try_head.Goals as goal

pub returns-clause-tried : goal.returns-clause-tried
returns-clause-tried c =
    let m = c.args.machine.now in
    let s = c.in_ok-spine.ensures in
    let a = c.as_slice-args.ensures.value in
    tried_as m c.clause_of.new.machine c.open.new.machine c.meet.new.machine c.args.call.now c.args.candidate c.in-Some.clause
    c.in_ok-values.values c.in_ok-spine.spine.head c.in_ok-spine.spine.args.items c.as_slice-args.result.now c.in_ok-unified.unified
    (subst (λ o. IfSome o (IsClauseOf c.args.machine.now c.clause_of.new.machine c.args.candidate)) c.in-Some.is c.in_ok-found.ensures.is)
    (a ∙ c.put_looked.ensures) c.in_ok-values.ensures.opened c.in_ok-unified.ensures.met s.head s.within s.args s.tree

pub returns-clause-more : goal.returns-clause-more
returns-clause-more c =
    head_more c.args.machine.now c.clause_of.new.machine c.open.new.machine c.meet.new.machine c.args.candidate c.in-Some.clause c.as_slice-args.result.now (subst (λ o. IfSome o (IsClauseOf c.args.machine.now c.clause_of.new.machine c.args.candidate)) c.in-Some.is c.in_ok-found.ensures.is) c.in_ok-values.ensures.more c.in_ok-unified.ensures.bound

pub returns-clause-residual : goal.returns-clause-residual
returns-clause-residual c =
    head_residual c.args.machine.now c.clause_of.new.machine c.open.new.machine c.meet.new.machine c.args.candidate c.in-Some.clause c.as_slice-args.result.now (subst (λ o. IfSome o (IsClauseOf c.args.machine.now c.clause_of.new.machine c.args.candidate)) c.in-Some.is c.in_ok-found.ensures.is) c.in_ok-values.ensures.more c.in_ok-unified.ensures.bound c.in_ok-unified.ensures.residual

pub returns-clause-stands : goal.returns-clause-stands
returns-clause-stands c =
    let s = c.in_ok-spine.ensures in
    head_stands c.args.machine.now c.clause_of.new.machine c.open.new.machine c.meet.new.machine c.args.candidate c.in-Some.clause c.as_slice-args.result.now (subst (λ o. IfSome o (IsClauseOf c.args.machine.now c.clause_of.new.machine c.args.candidate)) c.in-Some.is c.in_ok-found.ensures.is) c.in_ok-values.ensures.more c.in_ok-unified.ensures.bound
    c.args.call.now c.in_ok-spine.spine.head c.in_ok-spine.spine.args.items (c.as_slice-args.ensures.value ∙ c.put_looked.ensures) s.head s.args s.tree

pub returns-clause-scope : goal.returns-clause-scope
returns-clause-scope c =
    let s = c.in_ok-spine.ensures in
    scope_is c.args.machine.now c.clause_of.new.machine c.open.new.machine c.meet.new.machine c.args.call.now c.args.candidate c.in-Some.clause c.in_ok-values.values c.in_ok-spine.spine.head c.in_ok-spine.spine.args.items c.as_slice-args.result.now
    (subst (λ o. IfSome o (IsClauseOf c.args.machine.now c.clause_of.new.machine c.args.candidate)) c.in-Some.is c.in_ok-found.ensures.is) (c.as_slice-args.ensures.value ∙ c.put_looked.ensures) c.in_ok-values.ensures.opened c.in_ok-unified.ensures.bound s.head s.args s.tree

pub returns-clause-types : goal.returns-clause-types
returns-clause-types c =
    types_taken c.args.machine.now c.clause_of.new.machine c.meet.new.machine c.args.candidate c.in-Some.clause (subst (λ o. IfSome o (IsClauseOf c.args.machine.now c.clause_of.new.machine c.args.candidate)) c.in-Some.is c.in_ok-found.ensures.is) (c.in_ok-unified.ensures.bound.next_type ∙ c.in_ok-values.ensures.more.next_type)

pub open-requires : goal.open-requires
open-requires c = subst (λ o. IfSome o (λ p. p.0 < length c.clause_of.new.machine.table.rules.items)) c.in-Some.is c.in_ok-found.ensures.there

pub meet-requires : goal.meet-requires
meet-requires c =
    let t = subst (λ o. IfSome o (λ p. p.0 < length c.clause_of.new.machine.table.rules.items)) c.in-Some.is c.in_ok-found.ensures.there in
    subst (λ z. c.in-Some.clause.0 < length z.rules.items) (sym c.in_ok-values.ensures.more.more.table) t

pub returns-clause-there : goal.returns-clause-there
returns-clause-there c =
    let t = subst (λ o. IfSome o (λ p. p.0 < length c.clause_of.new.machine.table.rules.items)) c.in-Some.is c.in_ok-found.ensures.there in
    subst (λ z. c.in-Some.clause.0 < length z.rules.items) (sym (c.in_ok-unified.ensures.bound.table ∙ c.in_ok-values.ensures.more.more.table)) t

pub returns-in_default-clause-more : goal.returns-in_default-clause-more
returns-in_default-clause-more c = same_more c.args.machine.now c.clause_of.new.machine (c.in_ok-found.ensures.none c.in_default.is).0

pub returns-in_default-clause-residual : goal.returns-in_default-clause-residual
returns-in_default-clause-residual c = λ s. subst StandPairs (sym (c.in_ok-found.ensures.none c.in_default.is).0) s

pub returns-in_default-clause-stands : goal.returns-in_default-clause-stands
returns-in_default-clause-stands c = λ s g. subst StandsIn (sym (c.in_ok-found.ensures.none c.in_default.is).0) s

pub returns-in_default-clause-types : goal.returns-in_default-clause-types
returns-in_default-clause-types c = λ vs h values σ T own. absurd ((c.in_ok-found.ensures.none c.in_default.is).1 vs h values σ T)

pub returns-in_default-clause-none : goal.returns-in_default-clause-none
returns-in_default-clause-none c = λ e. (c.in_ok-found.ensures.none c.in_default.is).1

pub returns-clause-none : goal.returns-clause-none
returns-clause-none c = λ e. absurd (cc)
