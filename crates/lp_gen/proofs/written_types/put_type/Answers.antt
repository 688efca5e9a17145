use Rattle.std.proofs.Common.{◌∙◌, ap, sym, arith}
use Rattle.std.proofs.lemmas.List.{nil_from_length}
use Rattle.std.specs.Prelude.{slice_index_or}
use Rattle.lp_gen.specs.inner.Reading.{read}
use Rattle.lp_gen.specs.inner.Works.{done, work_now}
use Rattle.lp_gen.proofs.TypeWorks.{done_popped, type_begins}
use Rattle.lp_gen.proofs.TypePut.{not_grown, grown_on, type_put}
use Rattle.lp_lemmas.proofs.Results.{passed_up}
use Rattle.lp_gen.specs.Registers.{type_takes}
use Rattle.lp_gen.specs.inner.Using.{Lacks}
use Rattle.lp_gen.proofs.TypesUsed.{spent_nothing, spent_on, type_used, type_lacks}
use Rattle.lp_gen.proofs.written_types.put_type.Goals as goal

pub types-init : goal.types-init
types-init c = (
  not_grown c.args.emitter.now,
  type_begins c.args.bank.now c.args.emitter.now c.args.of c.new-work.result.items c.push.new.self.items c.new-made.result.items c.in_ok-push.ensures.items
      c.new-work.ensures.items c.new-made.ensures.items,
  spent_nothing c.args.emitter.now,
)

pub types-preserved : goal.types-preserved
types-preserved c = (
  grown_on c.args.emitter.now c.types.emitter c.take_up.new.emitter c.types.invariant.0 c.in_ok-take_up.ensures.grown,
  c.in_ok-take_up.ensures.acts ∙ sym (done_popped c.args.bank.now c.types.work.items c.pop.new.self.items c.in-Some.task
      (work_now c.types.emitter c.types.made.items) c.in-Some.ensures.items) ∙ c.types.invariant.1,
  spent_on c.args.emitter.now c.types.emitter c.take_up.new.emitter c.types.invariant.2 c.in_ok-take_up.ensures.spent,
)

pub returns-clause-code : goal.returns-clause-code
returns-clause-code c =
    type_put c.args.emitter.now c.types.emitter (read c.args.bank.now c.args.of) c.types.made.items c.register_at.result c.types.invariant.0
    (ap (λ l. done c.args.bank.now l (work_now c.types.emitter c.types.made.items)) (sym (nil_from_length c.types.work.items (omega
    (arith, c.in_default.ensures.cases.0, c.types.work.ok)))) ∙ c.types.invariant.1) (c.register_at.ensures ∙ ap (λ l. slice_index_or l 0 0) c.as_slice.ensures.value)

pub returns-clause-uses : goal.returns-clause-uses
returns-clause-uses c =
    type_used c.args.emitter.now c.types.emitter (read c.args.bank.now c.args.of) c.types.made.items c.types.invariant.0 c.types.invariant.2
    (ap (λ l. done c.args.bank.now l (work_now c.types.emitter c.types.made.items)) (sym (nil_from_length c.types.work.items (omega
    (arith, c.in_default.ensures.cases.0, c.types.work.ok)))) ∙ c.types.invariant.1)

pub returns-in_err-take_up-clause-lacks : goal.returns-in_err-take_up-clause-lacks
returns-in_err-take_up-clause-lacks c =
    let b = c.args.bank.now in
    let e = c.in_err-take_up.field-0.0 in
    passed_up c.from_residual-in_err-take_up.result e (Lacks c.args.emitter.now (type_takes (read b c.args.of))) c.from_residual-in_err-take_up.ensures.1
    (type_lacks b c.args.emitter.now c.types.emitter (read b c.args.of) c.types.made.items c.pop.new.self.items c.in-Some.task e c.types.invariant.2
    (sym (done_popped b c.types.work.items c.pop.new.self.items c.in-Some.task (work_now c.types.emitter c.types.made.items) c.in-Some.ensures.items) ∙ c.types.invariant.1) c.in_err-take_up.ensures.over)
