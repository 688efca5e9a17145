use Rattle.lp_gen.proofs.HeadUsed.{has_place, has_no_place, arguments_use, arguments_left, next_at, arguments_lack}
use Rattle.lp_gen.proofs.Using.{uses_nothing, uses_both, uses_same, lacks_first, lacks_then}
use Rattle.lp_gen.specs.inner.Written.{left_by}
use Rattle.lp_gen.specs.Registers.{argument_takes, behind_argument, head_arguments_take, behind_arguments}
use Rattle.lp_gen.specs.inner.Using.{Lacks, Uses}
use Rattle.lp_lemmas.proofs.Results.{passed_up}
use Rattle.std.proofs.Common.{[], map, arith, subst, ◌≡◌, ◌∙◌, take, ap, refl, sym}
use Rattle.std.specs.Prelude.{slice_index_or}
use Rattle.std.proofs.lemmas.List.{take_all}
use Rattle.lp_term.specs.Nodes.{tree}
use Rattle.lp_term.specs.declared.node.TermId.{TermId}
use Rattle.lp_gen.specs.Steps.{from_of, constant_function, head_type}
use Rattle.lp_gen.specs.inner.Reading.{read}
use Rattle.lp_gen.specs.inner.Listing.{around_of, read_function}
use Rattle.lp_gen.specs.inner.Heading.{ArgumentsGot}
use Rattle.lp_gen.proofs.HeadGot.{no_head_arguments}
use Rattle.lp_gen.proofs.HeadNodes.{index_or, argument_at_place}
use Rattle.lp_gen.proofs.head.get_arguments.Goals as goal

pub loop-at-init : goal.loop-at-init
loop-at-init c =
    let b = c.args.tables.bank.now in
    let K = constant_function b c.args.tables.constants.now in
    let a = around_of b c.args.environment.now in
    (no_head_arguments K c.args.emitter.now a (head_type K [] a (tree b c.args.head.0)), c.type_of_head-function.ensures, refl, uses_nothing c.args.emitter.now)

pub loop-at-preserved : goal.loop-at-preserved
loop-at-preserved c =
    let b = c.args.tables.bank.now in
    let K = constant_function b c.args.tables.constants.now in
    let a = around_of b c.args.environment.now in
    let x : TermId = slice_index_or c.args.args.now c.loop-at.at (record { 0 = 0 }) in
    let xs = c.args.args.now in
    let i = c.loop-at.at in
    let y : TermId = slice_index_or xs i (record { 0 = 0 }) in
    let there = index_or xs i (record { 0 = 0 }) y c.loop-at-test.true in
    let of : read c.args.tables.bank.now c.next-of.result.0 ≡ from_of (left_by (head_type (constant_function c.args.tables.bank.now c.args.tables.constants.now) [] (around_of c.args.tables.bank.now c.args.environment.now) (tree c.args.tables.bank.now c.args.head.0)) i) = c.next-of.ensures.from ∙ ap from_of c.loop-at.invariant.1 in
    let here : argument_takes (constant_function c.args.tables.bank.now c.args.tables.constants.now) (around_of c.args.tables.bank.now c.loop-at.environment) (read c.args.tables.bank.now c.next-of.result.0) (tree c.args.tables.bank.now y.0)
    ≡ argument_takes (constant_function c.args.tables.bank.now c.args.tables.constants.now) (behind_arguments (constant_function c.args.tables.bank.now c.args.tables.constants.now) (around_of c.args.tables.bank.now c.args.environment.now) (head_type (constant_function c.args.tables.bank.now c.args.tables.constants.now) [] (around_of c.args.tables.bank.now c.args.environment.now) (tree c.args.tables.bank.now c.args.head.0)) (map (λ (t : TermId). tree c.args.tables.bank.now t.0) (take i xs))) (from_of (left_by (head_type (constant_function c.args.tables.bank.now c.args.tables.constants.now) [] (around_of c.args.tables.bank.now c.args.environment.now) (tree c.args.tables.bank.now c.args.head.0)) i)) (tree c.args.tables.bank.now y.0) =
    (λ j. argument_takes (constant_function c.args.tables.bank.now c.args.tables.constants.now) (c.loop-at.invariant.2 j) (of j) (tree c.args.tables.bank.now y.0)) in
    let w =
    argument_at_place (λ (t : TermId). tree b t.0) K c.args.emitter.now c.loop-at.emitter c.get_argument.new.emitter a (around_of b c.loop-at.environment) (around_of b c.get_argument.new.environment)
    c.loop-at.at c.in_ok-number.number (head_type K [] a (tree b c.args.head.0)) (read_function b c.loop-at.function) (read_function b c.next-of.result.1) (read b c.next-of.result.0) c.args.args.now
    x c.loop-at-test.true (index_or c.args.args.now c.loop-at.at (record { 0 = 0 }) x c.loop-at-test.true) (c.loop-at.invariant.0, c.loop-at.invariant.1)
    c.in_ok-get_argument.ensures.code c.in_ok-number.ensures.number c.next-of.ensures.from c.next-of.ensures.to in (
      w.0,
      w.1,
      c.in_ok-get_argument.ensures.around ∙ (λ j. behind_argument (constant_function c.args.tables.bank.now c.args.tables.constants.now) (c.loop-at.invariant.2 j) (of j) (tree c.args.tables.bank.now y.0)) ∙ sym (arguments_left (constant_function c.args.tables.bank.now c.args.tables.constants.now) (λ (t : TermId). tree c.args.tables.bank.now t.0) (around_of c.args.tables.bank.now c.args.environment.now) (head_type (constant_function c.args.tables.bank.now c.args.tables.constants.now) [] (around_of c.args.tables.bank.now c.args.environment.now) (tree c.args.tables.bank.now c.args.head.0)) xs y i c.loop-at-test.true there),
      arguments_use (constant_function c.args.tables.bank.now c.args.tables.constants.now) (λ (t : TermId). tree c.args.tables.bank.now t.0) (around_of c.args.tables.bank.now c.args.environment.now) (head_type (constant_function c.args.tables.bank.now c.args.tables.constants.now) [] (around_of c.args.tables.bank.now c.args.environment.now) (tree c.args.tables.bank.now c.args.head.0)) xs y i c.loop-at-test.true there c.args.emitter.now c.loop-at.emitter c.get_argument.new.emitter c.loop-at.invariant.3
          (uses_same (sym (next_at (constant_function c.args.tables.bank.now c.args.tables.constants.now) (λ (t : TermId). tree c.args.tables.bank.now t.0) (around_of c.args.tables.bank.now c.args.environment.now) (head_type (constant_function c.args.tables.bank.now c.args.tables.constants.now) [] (around_of c.args.tables.bank.now c.args.environment.now) (tree c.args.tables.bank.now c.args.head.0)) xs y i c.loop-at-test.true there)) (uses_both (has_place c.loop-at.emitter i (omega (arith, c.in_ok-number.ensures.low)))
          (uses_same here c.in_ok-get_argument.ensures.uses))),
    )

pub returns-clause-code : goal.returns-clause-code
returns-clause-code c =
    let b = c.args.tables.bank.now in
    let K = constant_function b c.args.tables.constants.now in
    let a = around_of b c.args.environment.now in
    subst (λ l. ArgumentsGot K c.args.emitter.now c.loop-at.emitter a (around_of b c.loop-at.environment) (head_type K [] a (tree b c.args.head.0)) (map (λ (t : TermId). tree b t.0) l))
    (take_all c.loop-at.at c.args.args.now (omega (arith, c.loop-at-test.false))) c.loop-at.invariant.0

pub returns-clause-around : goal.returns-clause-around
returns-clause-around c =
    c.loop-at.invariant.2 ∙ ap (λ l. behind_arguments (constant_function c.args.tables.bank.now c.args.tables.constants.now) (around_of c.args.tables.bank.now c.args.environment.now) (head_type (constant_function c.args.tables.bank.now c.args.tables.constants.now) [] (around_of c.args.tables.bank.now c.args.environment.now) (tree c.args.tables.bank.now c.args.head.0)) (map (λ (t : TermId). tree c.args.tables.bank.now t.0) l)) (take_all c.loop-at.at c.args.args.now (omega (arith, c.loop-at-test.false)))

pub returns-clause-uses : goal.returns-clause-uses
returns-clause-uses c =
    subst (λ l. Uses c.args.emitter.now c.loop-at.emitter (head_arguments_take (constant_function c.args.tables.bank.now c.args.tables.constants.now) (around_of c.args.tables.bank.now c.args.environment.now) 0 (head_type (constant_function c.args.tables.bank.now c.args.tables.constants.now) [] (around_of c.args.tables.bank.now c.args.environment.now) (tree c.args.tables.bank.now c.args.head.0)) (map (λ (t : TermId). tree c.args.tables.bank.now t.0) l))) (take_all c.loop-at.at c.args.args.now (omega (arith, c.loop-at-test.false))) c.loop-at.invariant.3

pub returns-in_err-number-clause-lacks : goal.returns-in_err-number-clause-lacks
returns-in_err-number-clause-lacks c =
    let xs = c.args.args.now in
    let i = c.loop-at.at in
    let y : TermId = slice_index_or xs i (record { 0 = 0 }) in
    let there = index_or xs i (record { 0 = 0 }) y c.loop-at-test.true in
    let e = c.in_err-number.field-0.0 in
    passed_up c.from_residual.result e (Lacks c.args.emitter.now (head_arguments_take (constant_function c.args.tables.bank.now c.args.tables.constants.now) (around_of c.args.tables.bank.now c.args.environment.now) 0 (head_type (constant_function c.args.tables.bank.now c.args.tables.constants.now) [] (around_of c.args.tables.bank.now c.args.environment.now) (tree c.args.tables.bank.now c.args.head.0)) (map (λ (t : TermId). tree c.args.tables.bank.now t.0) c.args.args.now))) c.from_residual.ensures.1
    (arguments_lack (constant_function c.args.tables.bank.now c.args.tables.constants.now) (λ (t : TermId). tree c.args.tables.bank.now t.0) (around_of c.args.tables.bank.now c.args.environment.now) (head_type (constant_function c.args.tables.bank.now c.args.tables.constants.now) [] (around_of c.args.tables.bank.now c.args.environment.now) (tree c.args.tables.bank.now c.args.head.0)) xs y i c.loop-at-test.true there c.args.emitter.now c.loop-at.emitter e c.loop-at.invariant.3 (subst (λ x. Lacks c.loop-at.emitter x e) (sym (next_at (constant_function c.args.tables.bank.now c.args.tables.constants.now) (λ (t : TermId). tree c.args.tables.bank.now t.0) (around_of c.args.tables.bank.now c.args.environment.now) (head_type (constant_function c.args.tables.bank.now c.args.tables.constants.now) [] (around_of c.args.tables.bank.now c.args.environment.now) (tree c.args.tables.bank.now c.args.head.0)) xs y i c.loop-at-test.true there)) (lacks_first (argument_takes (constant_function c.args.tables.bank.now c.args.tables.constants.now) (behind_arguments (constant_function c.args.tables.bank.now c.args.tables.constants.now) (around_of c.args.tables.bank.now c.args.environment.now) (head_type (constant_function c.args.tables.bank.now c.args.tables.constants.now) [] (around_of c.args.tables.bank.now c.args.environment.now) (tree c.args.tables.bank.now c.args.head.0)) (map (λ (t : TermId). tree c.args.tables.bank.now t.0) (take i xs))) (from_of (left_by (head_type (constant_function c.args.tables.bank.now c.args.tables.constants.now) [] (around_of c.args.tables.bank.now c.args.environment.now) (tree c.args.tables.bank.now c.args.head.0)) i)) (tree c.args.tables.bank.now y.0)) (has_no_place c.loop-at.emitter i e c.in_err-number.ensures.cause))))

pub returns-in_err-get_argument-clause-lacks : goal.returns-in_err-get_argument-clause-lacks
returns-in_err-get_argument-clause-lacks c =
    let xs = c.args.args.now in
    let i = c.loop-at.at in
    let y : TermId = slice_index_or xs i (record { 0 = 0 }) in
    let there = index_or xs i (record { 0 = 0 }) y c.loop-at-test.true in
    let of : read c.args.tables.bank.now c.next-of.result.0 ≡ from_of (left_by (head_type (constant_function c.args.tables.bank.now c.args.tables.constants.now) [] (around_of c.args.tables.bank.now c.args.environment.now) (tree c.args.tables.bank.now c.args.head.0)) i) = c.next-of.ensures.from ∙ ap from_of c.loop-at.invariant.1 in
    let here : argument_takes (constant_function c.args.tables.bank.now c.args.tables.constants.now) (around_of c.args.tables.bank.now c.loop-at.environment) (read c.args.tables.bank.now c.next-of.result.0) (tree c.args.tables.bank.now y.0)
    ≡ argument_takes (constant_function c.args.tables.bank.now c.args.tables.constants.now) (behind_arguments (constant_function c.args.tables.bank.now c.args.tables.constants.now) (around_of c.args.tables.bank.now c.args.environment.now) (head_type (constant_function c.args.tables.bank.now c.args.tables.constants.now) [] (around_of c.args.tables.bank.now c.args.environment.now) (tree c.args.tables.bank.now c.args.head.0)) (map (λ (t : TermId). tree c.args.tables.bank.now t.0) (take i xs))) (from_of (left_by (head_type (constant_function c.args.tables.bank.now c.args.tables.constants.now) [] (around_of c.args.tables.bank.now c.args.environment.now) (tree c.args.tables.bank.now c.args.head.0)) i)) (tree c.args.tables.bank.now y.0) =
    (λ j. argument_takes (constant_function c.args.tables.bank.now c.args.tables.constants.now) (c.loop-at.invariant.2 j) (of j) (tree c.args.tables.bank.now y.0)) in
    let e = c.in_err-get_argument.field-0.0 in
    passed_up c.from_residual-in_err-get_argument.result e (Lacks c.args.emitter.now (head_arguments_take (constant_function c.args.tables.bank.now c.args.tables.constants.now) (around_of c.args.tables.bank.now c.args.environment.now) 0 (head_type (constant_function c.args.tables.bank.now c.args.tables.constants.now) [] (around_of c.args.tables.bank.now c.args.environment.now) (tree c.args.tables.bank.now c.args.head.0)) (map (λ (t : TermId). tree c.args.tables.bank.now t.0) c.args.args.now))) c.from_residual-in_err-get_argument.ensures.1
    (arguments_lack (constant_function c.args.tables.bank.now c.args.tables.constants.now) (λ (t : TermId). tree c.args.tables.bank.now t.0) (around_of c.args.tables.bank.now c.args.environment.now) (head_type (constant_function c.args.tables.bank.now c.args.tables.constants.now) [] (around_of c.args.tables.bank.now c.args.environment.now) (tree c.args.tables.bank.now c.args.head.0)) xs y i c.loop-at-test.true there c.args.emitter.now c.loop-at.emitter e c.loop-at.invariant.3 (subst (λ x. Lacks c.loop-at.emitter x e) (sym (next_at (constant_function c.args.tables.bank.now c.args.tables.constants.now) (λ (t : TermId). tree c.args.tables.bank.now t.0) (around_of c.args.tables.bank.now c.args.environment.now) (head_type (constant_function c.args.tables.bank.now c.args.tables.constants.now) [] (around_of c.args.tables.bank.now c.args.environment.now) (tree c.args.tables.bank.now c.args.head.0)) xs y i c.loop-at-test.true there)) (lacks_then (has_place c.loop-at.emitter i (omega (arith, c.in_ok-number.ensures.low))) (subst (λ x. Lacks c.loop-at.emitter x e) here c.in_err-get_argument.ensures.lacks))))
