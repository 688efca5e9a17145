use Rattle.std.proofs.Common.{◌<◌, ℕ, length, sym, ap, subst as transport}
use Rattle.lp_term.proofs.Moves.{passed_up}
use Rattle.lp_calculus.specs.Fill.{Within}
use Rattle.lp_model.specs.Pair.{Closing}
use Rattle.lp_lemmas.proofs.Results.{if_ok_both}
use Rattle.lp_pattern.specs.Putting.{Known}
use Rattle.lp_pattern.specs.Turning.{IsOpenReading}
use Rattle.lp_pattern.specs.Under.{under}
use Rattle.lp_pattern.specs.Valuing.{IsKnownSide, HasNoValue}
use Rattle.lp_pattern.specs.Reading.{side_of}
use Rattle.lp_pattern.specs.Refusing.{IsNothing}
use Rattle.lp_model.specs.Scan.{prune, settle}
use Rattle.lp_pattern.proofs.Results.{if_err}
use Rattle.lp_pattern.proofs.RuledOut.{nothing_behind, no_value_behind}
use Rattle.lp_pattern.proofs.Valued.{valued_pruned, valued_whole}
use Rattle.lp_pattern.proofs.rules.value_for.Goals as goal

pub returns-then-found-clause-value : goal.returns-then-found-clause-value
returns-then-found-clause-value c =
    if_ok_both c.settled.result _ _ _
    (λ id w g l r o levels k i n y p q t z.
    valued_pruned (side_of c.args.side.now) levels c.args.next.now c.prune.new.next n r c.args.bindings.now c.prune.new.bindings c.prune.new.bank c.settled.new.bank c.args.term id y t (c.in_ok-prune.ensures.pruned k.below l r o levels i n y p) c.settled.ensures.kept w
    g k.distinct z)
    c.settled.ensures.within c.settled.ensures.value

pub returns-clause-value : goal.returns-clause-value
returns-clause-value c =
    if_ok_both c.settled-2.result _ _ _
    (λ id w g l r o levels k i n y p q t z.
    valued_whole (side_of c.args.side.now) levels c.args.next.now n r c.args.bindings.now c.args.bank.now c.settled-2.new.bank c.args.term id y t o i l c.settled-2.ensures.kept w g k.distinct (q c.if-found.false) z)
    c.settled-2.ensures.within c.settled-2.ensures.value

pub returns-in_err-prune-clause-refused : goal.returns-in_err-prune-clause-refused
returns-in_err-prune-clause-refused c =
    passed_up c.from_residual.result c.in_err-prune.field-0.0
    (λ e. c.args.term.0 < length c.args.bank.now.terms → (r : Closing) → IsOpenReading c.args.bank.now c.args.bindings.now c.args.next.now r → (levels : ℕ → ℕ) → IsKnownSide levels c.args.next.now (side_of c.args.side.now) →
    Within (Known levels c.args.next.now) 0 (under c.args.bank.now r c.args.term) → (n : ℕ) → HasNoValue n e (side_of c.args.side.now) c.args.next.now c.args.found (under c.args.bank.now r c.args.term))
    c.from_residual.ensures.1
    (λ l r o levels k i n y p q.
    nothing_behind n c.in_err-prune.field-0.0 (prune n (side_of c.args.side.now) c.args.next.now (under c.args.bank.now r c.args.term)) (settle n c.args.side.now.pair y.term) y p (c.in_err-prune.ensures.refused k.below l r o levels i n))

pub returns-then-found-clause-refused : goal.returns-then-found-clause-refused
returns-then-found-clause-refused c =
    if_err c.settled.result _ _
    (λ e f l r o levels k i n y p q.
    let z = c.in_ok-prune.ensures.pruned k.below l r o levels i n y p in
    no_value_behind (side_of c.args.side.now) (record { closing = r; levels = levels; next = c.args.next.now; bindings = c.args.bindings.now }) c.prune.new.next n c.prune.new.bank c.prune.new.bindings c.args.term y e z
    (f z.whole z.closing z.reading.reading z.reading.shut n))
    c.settled.ensures.refused

pub returns-clause-refused : goal.returns-clause-refused
returns-clause-refused c =
    if_err c.settled-2.result _ _
    (λ e f l r o levels k i n y p q. transport (λ t. IsNothing n e (settle n c.args.side.now.pair t)) (sym (ap (λ t. t.term) (q c.if-found.false))) (f l r o.reading o.shut n))
    c.settled-2.ensures.refused
