use Rattle.std.proofs.Common.{reverse, refl, subst}
use Rattle.std.proofs.lemmas.Result.{on_ok_weaker, IfErr-weaker}
use Rattle.lp_calculus.specs.Types.{Ty}
use Rattle.lp_store.specs.Reading.{ReadsType}
use Rattle.lp_model.specs.Types.{TypePair}
use Rattle.lp_unify.specs.TypeEquations.{ReadsPair}
use Rattle.lp_unify.specs.TypeTurns.{IsSplit, IsUnboundAs, IsTurnRefused}
use Rattle.lp_unify.proofs.TypeRuns.{taken_dropped, taken_bound, taken_unbound, taken_split, taken_apart}
use Rattle.lp_unify.proofs.types.take.Goals as goal

pub returns-then-branch-clause-turns : goal.returns-then-branch-clause-turns
returns-then-branch-clause-turns c = λ p ps r q.
    let s = c.args.store.now in
    let m = c.referred-one.ensures.resolved in
    let n = c.referred-other.ensures.resolved in
    taken_split s c.args.round.now (record { units = c.spend.new.units; is_bound = c.args.round.now.is_bound }) c.referred-one.result c.referred-other.result c.args.pair (reverse c.args.todo.now.items) (reverse c.split.new.todo.items) p ps
    c.in-Split.ensures c.referred-one.ensures.refers c.referred-other.ensures.refers m n c.in_ok-spend.ensures.taken refl
    (λ A B x y. subst (λ b. IsSplit b s A B (reverse c.args.todo.now.items) (reverse c.split.new.todo.items)) c.if-branch.true (c.in_ok-split-in-Split.ensures m n c.in-Split.ensures.0 c.in-Split.ensures.1 A B x y)) r q

pub returns-else-branch-clause-refused : goal.returns-else-branch-clause-refused
returns-else-branch-clause-refused c = λ p r.
    let s = c.args.store.now in
    let m = c.referred-one.ensures.resolved in
    let n = c.referred-other.ensures.resolved in
    taken_apart s c.args.round.now.units c.spend.new.units c.referred-one.result c.referred-other.result c.args.pair p c.in-Split.ensures c.referred-one.ensures.refers c.referred-other.ensures.refers m n c.in_ok-spend.ensures.taken
    (λ A B x y. subst (λ b. IsSplit b s A B (reverse c.args.todo.now.items) (reverse c.split.new.todo.items)) c.if-branch.false (c.in_ok-split-in-Split.ensures m n c.in-Split.ensures.0 c.in-Split.ensures.1 A B x y)) r

pub returns-in-Drop-clause-turns : goal.returns-in-Drop-clause-turns
returns-in-Drop-clause-turns c = λ p ps r q.
    taken_dropped c.args.store.now c.args.round.now (record { units = c.spend.new.units; is_bound = c.args.round.now.is_bound }) c.referred-one.result c.referred-other.result c.args.pair (reverse c.args.todo.now.items) p ps
    c.in-Drop.ensures c.referred-one.ensures.refers c.referred-other.ensures.refers c.in_ok-spend.ensures.taken refl r q

pub returns-in-Bind-clause-turns : goal.returns-in-Bind-clause-turns
returns-in-Bind-clause-turns c =
    on_ok_weaker c.bind_type.result
    (λ b p ps r q.
    taken_bound c.args.store.now c.bind_type.new.store c.args.round.now (record { units = c.spend.new.units; is_bound = c.args.round.now.is_bound }) c.bind_type.new.round c.referred-one.result c.referred-other.result c.in-Bind.variable c.in-Bind.to c.args.pair
    (reverse c.args.todo.now.items) p ps c.in-Bind.ensures c.referred-one.ensures.refers c.referred-other.ensures.refers c.referred-one.ensures.resolved c.referred-other.ensures.resolved c.in_ok-spend.ensures.taken refl b r q)
    c.bind_type.ensures.bound

pub returns-in-Bind-clause-refused : goal.returns-in-Bind-clause-refused
returns-in-Bind-clause-refused c =
    IfErr-weaker c.bind_type.result (λ e. (T : Ty) → ReadsType c.args.store.now c.in-Bind.to.0 T → IsUnboundAs e c.spend.new.units c.in-Bind.variable.0 T) (λ e. (p : TypePair) → ReadsPair c.args.store.now c.args.pair p → IsTurnRefused e c.args.round.now.units p)
    (λ e b p r.
    taken_unbound e c.args.store.now c.args.round.now.units c.spend.new.units c.referred-one.result c.referred-other.result c.in-Bind.variable c.in-Bind.to c.args.pair p c.in-Bind.ensures c.referred-one.ensures.refers c.referred-other.ensures.refers
    c.referred-one.ensures.resolved c.referred-other.ensures.resolved c.in_ok-spend.ensures.taken b r)
    c.bind_type.ensures.refused
