use Rattle.std.proofs.Common.{◌∙◌, ap, refl}
use Rattle.std.specs.Prelude.{slice_index_or}
use Rattle.lp_lemmas.proofs.Results.{passed_up}
use Rattle.lp_code.specs.declared.instruction.Instr.TheVariants as on
use Rattle.lp_gen.specs.inner.Spending.{Overflows}
use Rattle.lp_gen.specs.inner.Works.{work_now, with_arrow}
use Rattle.lp_gen.proofs.TypesUsed.{one_spent, over_register, over_emit, arrow_code}
use Rattle.lp_gen.proofs.written_types.put_arrow.Goals as goal

pub returns-clause-spent : goal.returns-clause-spent
returns-clause-spent c =
    one_spent c.args.emitter.now c.new_type.new.self c.emit.new.self (on.TyArr c.in_ok-register.register c.register_at-from.result c.register_at-to.result) c.in_ok-register.ensures.code c.in_ok-register.ensures.place
    c.in_ok-emit.ensures.code c.in_ok-emit.ensures.place c.in_ok-emit.ensures.room refl refl

pub returns-in_err-register-clause-over : goal.returns-in_err-register-clause-over
returns-in_err-register-clause-over c =
    let w = with_arrow (work_now c.args.emitter.now c.args.made.now.items) in
    let e = c.in_err-register.field-0.0 in
    passed_up c.from_residual-in_err-register.result e (Overflows c.args.emitter.now w) c.from_residual-in_err-register.ensures.1 (over_register c.args.emitter.now w e refl c.in_err-register.ensures.cause)

pub returns-in_err-emit-clause-over : goal.returns-in_err-emit-clause-over
returns-in_err-emit-clause-over c =
    let w = with_arrow (work_now c.args.emitter.now c.args.made.now.items) in
    let e = c.in_err-emit.field-0.0 in
    passed_up c.from_residual-in_err-emit.result e (Overflows c.args.emitter.now w) c.from_residual-in_err-emit.ensures.1
    (over_emit c.args.emitter.now c.new_type.new.self w (on.TyArr c.in_ok-register.register c.register_at-from.result c.register_at-to.result) e c.in_ok-register.ensures.place
    (arrow_code c.args.emitter.now c.args.made.now.items c.in_ok-register.register c.register_at-from.result c.register_at-to.result c.in_ok-register.ensures.register
    (c.register_at-from.ensures ∙ ap (λ l. slice_index_or l 0 0) (c.as_slice.ensures.value ∙ c.in_ok-sides.ensures.taken))
    (c.register_at-to.ensures ∙ ap (λ l. slice_index_or l 1 0) (c.as_slice-2.ensures.value ∙ c.in_ok-sides.ensures.taken))) refl refl
    c.in_err-emit.ensures.cause)
