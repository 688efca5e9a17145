use Rattle.lp_gen.proofs.HeadUsed.{types_use, types_at_lack, type_matched, type_unmatched, type_has_no_place}
use Rattle.lp_gen.proofs.Using.{uses_nothing, lacks_first}
use Rattle.lp_gen.specs.Registers.{past, head_types_take, plain_code}
use Rattle.lp_gen.specs.inner.Using.{Lacks, Uses}
use Rattle.lp_lemmas.proofs.Results.{passed_up}
use Rattle.std.proofs.Common.{map, arith, subst}
use Rattle.std.specs.Prelude.{slice_index_or}
use Rattle.std.proofs.lemmas.List.{take_all}
use Rattle.lp_term.specs.Nodes.{type_tree}
use Rattle.lp_term.specs.declared.node.TypeId.{TypeId}
use Rattle.lp_gen.specs.inner.Heading.{TypesGot}
use Rattle.lp_gen.proofs.HeadGot.{no_head_types}
use Rattle.lp_gen.proofs.HeadNodes.{index_or, type_at_place}
use Rattle.lp_gen.proofs.head.get_types.Goals as goal

pub loop-at-init : goal.loop-at-init
loop-at-init c = (no_head_types c.args.emitter.now, uses_nothing c.args.emitter.now)

pub loop-at-preserved : goal.loop-at-preserved
loop-at-preserved c =
    let x : TypeId = slice_index_or c.args.types.now c.loop-at.at (record { 0 = 0 }) in
    let xs = c.args.types.now in
    let y : TypeId = slice_index_or xs c.loop-at.at (record { 0 = 0 }) in
    let there = index_or xs c.loop-at.at (record { 0 = 0 }) y c.loop-at-test.true in (
      type_at_place (λ (t : TypeId). type_tree c.args.bank.now t.0) c.args.emitter.now c.loop-at.emitter c.put_type.new.emitter c.get_type.new.emitter c.loop-at.at c.in_ok-number.number
          c.in_ok-register.register c.args.types.now x c.loop-at-test.true (index_or c.args.types.now c.loop-at.at (record { 0 = 0 }) x c.loop-at-test.true)
          c.loop-at.invariant.0 c.in_ok-register.ensures.code c.in_ok-get_type.ensures.code c.in_ok-number.ensures.number,
      types_use (λ (t : TypeId). type_tree c.args.bank.now t.0) xs y c.loop-at.at c.loop-at-test.true there c.args.emitter.now c.loop-at.emitter c.get_type.new.emitter c.loop-at.invariant.1
          (type_matched c.loop-at.at (type_tree c.args.bank.now y.0) c.in_ok-register.ensures.uses (omega (arith, c.in_ok-number.ensures.low)) c.in_ok-get_type.ensures.uses),
    )

pub returns-clause-code : goal.returns-clause-code
returns-clause-code c =
    subst (λ l. TypesGot c.args.emitter.now c.loop-at.emitter (map (λ (t : TypeId). type_tree c.args.bank.now t.0) l)) (take_all c.loop-at.at c.args.types.now (omega (arith, c.loop-at-test.false)))
    c.loop-at.invariant.0

pub returns-clause-uses : goal.returns-clause-uses
returns-clause-uses c =
    subst (λ l. Uses c.args.emitter.now c.loop-at.emitter (head_types_take 0 (map (λ (t : TypeId). type_tree c.args.bank.now t.0) l))) (take_all c.loop-at.at c.args.types.now (omega (arith, c.loop-at-test.false))) c.loop-at.invariant.1

pub returns-in_err-register-clause-lacks : goal.returns-in_err-register-clause-lacks
returns-in_err-register-clause-lacks c =
    let xs = c.args.types.now in
    let y : TypeId = slice_index_or xs c.loop-at.at (record { 0 = 0 }) in
    let there = index_or xs c.loop-at.at (record { 0 = 0 }) y c.loop-at-test.true in
    let e = c.in_err-register.field-0.0 in
    passed_up c.from_residual.result e (Lacks c.args.emitter.now (head_types_take 0 (map (λ (t : TypeId). type_tree c.args.bank.now t.0) c.args.types.now))) c.from_residual.ensures.1
    (types_at_lack (λ (t : TypeId). type_tree c.args.bank.now t.0) xs y c.loop-at.at c.loop-at-test.true there c.args.emitter.now c.loop-at.emitter e c.loop-at.invariant.1 (lacks_first (plain_code 4 (past 255 c.loop-at.at)) c.in_err-register.ensures.lacks))

pub returns-in_err-number-clause-lacks : goal.returns-in_err-number-clause-lacks
returns-in_err-number-clause-lacks c =
    let xs = c.args.types.now in
    let y : TypeId = slice_index_or xs c.loop-at.at (record { 0 = 0 }) in
    let there = index_or xs c.loop-at.at (record { 0 = 0 }) y c.loop-at-test.true in
    let e = c.in_err-number.field-0.0 in
    passed_up c.from_residual-in_err-number.result e (Lacks c.args.emitter.now (head_types_take 0 (map (λ (t : TypeId). type_tree c.args.bank.now t.0) c.args.types.now))) c.from_residual-in_err-number.ensures.1
    (types_at_lack (λ (t : TypeId). type_tree c.args.bank.now t.0) xs y c.loop-at.at c.loop-at-test.true there c.args.emitter.now c.loop-at.emitter e c.loop-at.invariant.1 (type_has_no_place c.loop-at.emitter c.put_type.new.emitter c.loop-at.at (type_tree c.args.bank.now y.0) e c.in_ok-register.ensures.uses c.in_err-number.ensures.cause))

pub returns-in_err-get_type-clause-lacks : goal.returns-in_err-get_type-clause-lacks
returns-in_err-get_type-clause-lacks c =
    let xs = c.args.types.now in
    let y : TypeId = slice_index_or xs c.loop-at.at (record { 0 = 0 }) in
    let there = index_or xs c.loop-at.at (record { 0 = 0 }) y c.loop-at-test.true in
    let e = c.in_err-get_type.field-0.0 in
    passed_up c.from_residual-in_err-get_type.result e (Lacks c.args.emitter.now (head_types_take 0 (map (λ (t : TypeId). type_tree c.args.bank.now t.0) c.args.types.now))) c.from_residual-in_err-get_type.ensures.1
    (types_at_lack (λ (t : TypeId). type_tree c.args.bank.now t.0) xs y c.loop-at.at c.loop-at-test.true there c.args.emitter.now c.loop-at.emitter e c.loop-at.invariant.1 (type_unmatched c.loop-at.emitter c.put_type.new.emitter c.loop-at.at (type_tree c.args.bank.now y.0) e c.in_ok-register.ensures.uses c.in_err-get_type.ensures.lacks))
