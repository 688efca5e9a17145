use Rattle.std.proofs.Common.{◌≡◌, map, [], ◌∷◌, ◌∙◌, length, ap, sym, subst, arith}
use Rattle.std.proofs.lemmas.List.{map-id, length-append}
use Rattle.std.proofs.lemmas.Iterator.{YieldsList-from_slice}
use Rattle.std.proofs.lemmas.Iterator.Consumers.{YieldsList-end, YieldsList-turn, YieldsList-so_far, YieldsList-from_copied}
use Rattle.lp_lemmas.proofs.Results.{passed_up}
use Rattle.lp_term.specs.Nodes.{type_tree}
use Rattle.lp_term.specs.declared.node.TypeId.{TypeId}
use Rattle.lp_gen.specs.Registers.{all_take}
use Rattle.lp_gen.specs.inner.Running.{AreTypesPut}
use Rattle.lp_gen.specs.inner.Using.{Uses, Lacks}
use Rattle.lp_gen.proofs.TermPut.{types_put_none, types_put_next}
use Rattle.lp_gen.proofs.Using.{uses_nothing, part_of, types_use_next, types_lack}
use Rattle.lp_gen.proofs.written_types.put_types.Goals as goal

pub loop-of-init : goal.loop-of-init
loop-of-init c = (
  subst (λ rs. AreTypesPut c.args.emitter.now c.args.emitter.now rs []) (sym c.new-registers.ensures.items) (types_put_none c.args.emitter.now),
  ap length c.new-registers.ensures.items,
  uses_nothing c.args.emitter.now,
)

pub loop-of-preserved : goal.loop-of-preserved
loop-of-preserved c = (
  types_put_next (λ (t : TypeId). type_tree c.args.bank.now t.0) c.args.emitter.now c.loop-of.emitter c.put_type.new.emitter c.loop-of.registers.items c.push.new.self.items
      c.loop-of.yielded c.in-Some.of c.in_ok-register.register c.in_ok-push.ensures.items c.loop-of.invariant.0 c.in_ok-register.ensures.code,
  (let n = c.loop-of.invariant.1 in
      let p = ap length c.in_ok-push.ensures.items in
      let q = length-append c.loop-of.registers.items (c.in_ok-register.register ∷ []) in
      let r = length-append c.loop-of.yielded (c.in-Some.of ∷ []) in
      omega (arith, n, p, q, r)),
  types_use_next (λ (t : TypeId). type_tree c.args.bank.now t.0) c.args.emitter.now c.loop-of.emitter c.put_type.new.emitter c.loop-of.yielded c.in-Some.of c.loop-of.invariant.2
      c.in_ok-register.ensures.uses,
)

pub returns-clause-code : goal.returns-clause-code
returns-clause-code c =
    let whole : c.loop-of.yielded ≡ c.args.types.now = sym (map-id c.loop-of.yielded)
    ∙ (YieldsList-end (YieldsList-from_copied (YieldsList-from_slice c.args.types.now cc)) c.loop-of.yielded _ c.loop-of.yielded_by _ _ c.in-None.is c.next.ensures.steps).0 in
    subst (λ l. AreTypesPut c.args.emitter.now c.loop-of.emitter c.loop-of.registers.items (map (λ (t : TypeId). type_tree c.args.bank.now t.0) l)) whole c.loop-of.invariant.0

pub returns-clause-count : goal.returns-clause-count
returns-clause-count c =
    let whole : c.loop-of.yielded ≡ c.args.types.now = sym (map-id c.loop-of.yielded)
    ∙ (YieldsList-end (YieldsList-from_copied (YieldsList-from_slice c.args.types.now cc)) c.loop-of.yielded _ c.loop-of.yielded_by _ _ c.in-None.is c.next.ensures.steps).0 in
    c.loop-of.invariant.1 ∙ ap length whole

pub returns-clause-uses : goal.returns-clause-uses
returns-clause-uses c =
    let whole : c.loop-of.yielded ≡ c.args.types.now = sym (map-id c.loop-of.yielded)
    ∙ (YieldsList-end (YieldsList-from_copied (YieldsList-from_slice c.args.types.now cc)) c.loop-of.yielded _ c.loop-of.yielded_by _ _ c.in-None.is c.next.ensures.steps).0 in
    subst (λ l. Uses c.args.emitter.now c.loop-of.emitter (all_take (map (λ (t : TypeId). type_tree c.args.bank.now t.0) l))) whole c.loop-of.invariant.2

pub returns-in_err-register-clause-lacks : goal.returns-in_err-register-clause-lacks
returns-in_err-register-clause-lacks c =
    let road = YieldsList-from_copied (YieldsList-from_slice c.args.types.now cc) in
    let turn = YieldsList-turn road c.loop-of.yielded _ c.loop-of.yielded_by _ _ c.in-Some.of c.in-Some.is c.next.ensures.steps in
    let so = YieldsList-so_far road c.loop-of.yielded _ c.loop-of.yielded_by in
    let e = c.in_err-register.field-0.0 in
    passed_up c.from_residual.result e (Lacks c.args.emitter.now (all_take (map (λ (t : TypeId). type_tree c.args.bank.now t.0) c.args.types.now))) c.from_residual.ensures.1
    (types_lack (λ (t : TypeId). type_tree c.args.bank.now t.0) c.args.emitter.now c.loop-of.emitter c.loop-of.yielded c.args.types.now c.in-Some.of e (part_of c.loop-of.yielded c.args.types.now c.in-Some.of so turn)
    c.loop-of.invariant.2 c.in_err-register.ensures.lacks)
