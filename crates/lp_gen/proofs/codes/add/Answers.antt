use Rattle.std.proofs.Common.{◌≡◌, ◌∙◌, ◌<◌, [], length, ap, refl, sym, subst, arith}
use Rattle.lp_lemmas.proofs.Results.{passed_up}
use Rattle.lp_base.specs.declared.limit.Limit.TheVariants as limit
use Rattle.lp_gen.specs.declared.fault.GenRefusal.TheVariants as told
use Rattle.lp_gen.specs.inner.Groups.{OriginFull}
use Rattle.lp_gen.specs.inner.Variables.{of_record}
use Rattle.std.proofs.lemmas.List.{length-append}
use Rattle.lp_gen.specs.inner.Planning.{ArePlanned, AllCaptured}
use Rattle.lp_gen.proofs.AddFits.{all_fit, one_full, full_record, refused_map, full_plan, full_types}
use Rattle.lp_gen.proofs.GroupPut.{group_made}
use Rattle.lp_gen.proofs.GroupTold.{written_length}
use Rattle.lp_gen.proofs.RecordsCounted.{few_assumed}
use Rattle.lp_gen.proofs.codes.add.Goals as goal

pub returns-clause-group : goal.returns-clause-group
returns-clause-group c =
    let w = c.in_ok-add_parts.ensures.written in
    let p = c.in_ok-plan.plan in (
      w.0,
      w.2,
      group_made c.args.bank.now c.args.constants.now (length c.args.records.now.items) c.args.type_vars c.args.origin p.due.items p.parts.items c.as_slice-2.result.now w.0 w.1
          p.assumptions.items _ w.3 refl refl c.in_ok-type_vars.ensures.count (grind (arith, c.in_ok-type_vars.ensures.count)) (λ low. omega (arith, low, c.number_of.ensures, c.len.ensures, c.args.records.now.ok))
          c.as_slice.ensures.value c.in_ok-plan.ensures.planned c.in_ok-plan.ensures.captured c.in_ok-plan.ensures.few c.as_slice-2.ensures.value,
    )

pub invariant_of-tables : goal.invariant_of-tables
invariant_of-tables c =
    let p = c.in_ok-plan.plan in
    record {
      few = few_assumed c.args.origin p.due.items p.parts.items c.as_slice.result.now
          (subst (ArePlanned c.args.origin p.due.items p.parts.items) (sym c.as_slice.ensures.value) c.in_ok-plan.ensures.planned) c.in_ok-plan.ensures.few;
    }

pub returns-clause-count : goal.returns-clause-count
returns-clause-count c =
    let w = c.in_ok-add_parts.ensures.written in
    let z = ap length w.2 ∙ length-append c.args.records.now.items w.0 in
    let y = written_length _ [] w.1 c.as_slice-2.result.now w.0 w.3 in
    let x = ap length c.as_slice-2.ensures.value in
    let k = c.in_ok-plan.ensures.count in
    omega (arith, z, y, x, k)

pub returns-clause-fits : goal.returns-clause-fits
returns-clause-fits c = λ few.
    let w = c.in_ok-add_parts.ensures.written in
    let p = c.in_ok-plan.plan in
    let k = c.in_ok-plan.ensures.count in
    all_fit c.args.bank.now c.args.constants.now c.args.type_vars c.args.origin p.due.items p.parts.items _ refl refl c.in_ok-type_vars.ensures.count
    (subst (ArePlanned c.args.origin p.due.items p.parts.items) (sym c.as_slice.ensures.value) c.in_ok-plan.ensures.planned)
    (subst (AllCaptured c.args.bank.now) (sym c.as_slice.ensures.value) c.in_ok-plan.ensures.captured)
    (omega (arith, few, k, c.number_of.ensures, c.len.ensures, c.args.records.now.ok)) w.1 w.0 c.as_slice-2.result.now c.as_slice-2.ensures.value w.3

pub returns-in_err-type_vars-clause-full : goal.returns-in_err-type_vars-clause-full
returns-in_err-type_vars-clause-full c = λ few.
    let b = c.args.bank.now in
    let ds = c.args.constants.now in
    let r = c.in_err-type_vars.field-0.0 in
    let F = OriginFull b ds c.args.type_vars c.args.origin in
    passed_up c.from_residual.result (of_record r) (λ e. e ≡ told.Limit limit.Registers → F) c.from_residual.ensures.1
    (full_record F r (of_record r) refl (refused_map (65535 < c.args.type_vars) F r (full_types b ds c.args.type_vars c.args.origin) c.in_err-type_vars.ensures.cause))

pub returns-in_err-plan-clause-full : goal.returns-in_err-plan-clause-full
returns-in_err-plan-clause-full c = λ few.
    let b = c.args.bank.now in
    let ds = c.args.constants.now in
    let F = OriginFull b ds c.args.type_vars c.args.origin in
    passed_up c.from_residual-in_err-plan.result c.in_err-plan.field-0.0 (λ e. e ≡ told.Limit limit.Registers → F) c.from_residual-in_err-plan.ensures.1
    (λ is. full_plan b ds c.args.type_vars c.args.origin (c.in_err-plan.ensures.fits is))

pub returns-in_err-add_parts-clause-full : goal.returns-in_err-add_parts-clause-full
returns-in_err-add_parts-clause-full c = λ few.
    let b = c.args.bank.now in
    let ds = c.args.constants.now in
    let p = c.in_ok-plan.plan in
    let k = c.in_ok-plan.ensures.count in
    let r = c.in_err-add_parts.field-0.0 in
    let F = OriginFull b ds c.args.type_vars c.args.origin in
    passed_up c.from_residual-in_err-add_parts.result (of_record r) (λ e. e ≡ told.Limit limit.Registers → F) c.from_residual-in_err-add_parts.ensures.1
    (full_record F r (of_record r) refl (refused_map _ F r
    (one_full b ds c.args.type_vars c.args.origin p.due.items p.parts.items _ refl refl c.in_ok-type_vars.ensures.count
    (subst (ArePlanned c.args.origin p.due.items p.parts.items) (sym c.as_slice.ensures.value) c.in_ok-plan.ensures.planned)
    (subst (AllCaptured b) (sym c.as_slice.ensures.value) c.in_ok-plan.ensures.captured)
    (omega (arith, few, k, c.number_of.ensures, c.len.ensures, c.args.records.now.ok)) c.as_slice-2.result.now c.as_slice-2.ensures.value) c.in_err-add_parts.ensures.lacks))
