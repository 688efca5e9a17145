use Rattle.std.proofs.Common.{[], inl, refl, subst, sym, arith}
use Rattle.std.proofs.lemmas.List.{take_all}
use Rattle.lp_lemmas.proofs.Results.{passed_up}
use Rattle.lp_build.specs.Meant.{AreModulesAt, no_module}
use Rattle.lp_build.specs.declared.fault.BuildFault.TheVariants as fault
use Rattle.lp_build.specs.inner.Refusing.{IsRefusedAmong}
use Rattle.lp_build.proofs.Causing.{first_module, order_told, walk_of}
use Rattle.lp_build.proofs.Growing.{module_behind}
use Rattle.lp_build.proofs.meanings.modules_of.Goals as goal

pub loop-at-init : goal.loop-at-init
loop-at-init c = λ files g links declared. subst (λ l. AreModulesAt files g c.args.group.now [] l) (sym c.new-modules.ensures.items) no_module

pub loop-at-preserved : goal.loop-at-preserved
loop-at-preserved c = λ files g links declared.
    module_behind files g c.args.group.now c.in-Ok.places.items c.loop-at.at c.index-place.result.now c.in_ok-module.module
    c.loop-at.modules.items c.push.new.self.items (omega (arith, c.loop-at-test.true, c.len-at-end.ensures, c.in-Ok.places.ok))
    c.index-place.ensures
    (c.loop-at.invariant files g links declared) (c.in_ok-module.ensures.meaning files g links declared) c.in_ok-push.ensures.items

pub returns-clause-meanings : goal.returns-clause-meanings
returns-clause-meanings c = λ files g links declared. record {
  order = c.in-Ok.places.items;
  walk = walk_of c.args.group.now c.as_slice-names.result.now c.as_slice-sources.result.now c.as_slice-texts.result.now c.in-Ok.places.items
      c.as_slice-names.ensures.value c.as_slice-sources.ensures.value
      c.as_slice-texts.ensures.value c.in-Ok.ensures.order;
  before = c.in-Ok.ensures.last.0;
  last = c.in-Ok.ensures.last.1;
  meanings = subst (λ l. AreModulesAt files g c.args.group.now l c.loop-at.modules.items)
      (take_all c.loop-at.at c.in-Ok.places.items (omega (arith, c.loop-at-test.false, c.len-at-end.ensures, c.in-Ok.places.ok)))
      (c.loop-at.invariant files g links declared);
}

pub returns-in-Err-clause-cause : goal.returns-in-Err-clause-cause
returns-in-Err-clause-cause c = λ files g links declared.
    order_told files g c.args.group.now c.as_slice-names.result.now c.as_slice-sources.result.now c.as_slice-texts.result.now c.in-Err.fault c.module_fault.result
    c.as_slice-names.ensures.value c.as_slice-sources.ensures.value c.as_slice-texts.ensures.value c.in-Err.ensures.refused c.module_fault.ensures.same

pub returns-in_err-module-clause-cause : goal.returns-in_err-module-clause-cause
returns-in_err-module-clause-cause c = λ files g links declared.
    passed_up c.from_residual.result c.in_err-module.field-0.0 (IsRefusedAmong files g c.args.group.now) c.from_residual.ensures.1
    (first_module files g c.args.group.now c.in-Ok.places.items c.loop-at.at c.index-place.result.now c.loop-at.modules.items c.in_err-module.field-0.0 (walk_of c.args.group.now
    c.as_slice-names.result.now c.as_slice-sources.result.now c.as_slice-texts.result.now c.in-Ok.places.items c.as_slice-names.ensures.value
    c.as_slice-sources.ensures.value c.as_slice-texts.ensures.value
    c.in-Ok.ensures.order)
    (omega (arith, c.loop-at-test.true, c.len-at-end.ensures, c.in-Ok.places.ok)) c.index-place.ensures (c.loop-at.invariant files g links declared)
    (c.in_err-module.ensures.cause files g links declared))

pub returns-in_err-push-clause-cause : goal.returns-in_err-push-clause-cause
returns-in_err-push-clause-cause c = λ files g links declared.
    passed_up c.from_residual-in_err-push.result fault.Memory (IsRefusedAmong files g c.args.group.now) c.from_residual-in_err-push.ensures.1 (inl refl)
