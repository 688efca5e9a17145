use Rattle.std.proofs.Common.{◌∙◌, ap, sym, subst, arith}
use Rattle.lp_gen.specs.inner.Pieces.{pieces}
use Rattle.lp_gen.specs.inner.Sizes.{type_task}
use Rattle.lp_gen.specs.inner.Works.{act, done, work_now}
use Rattle.lp_lemmas.proofs.Results.{passed_up}
use Rattle.lp_gen.specs.inner.Spending.{Overflows}
use Rattle.lp_gen.proofs.TypePut.{not_grown}
use Rattle.lp_gen.proofs.TypesUsed.{spent_nothing}
use Rattle.lp_gen.proofs.written_types.take_up.Goals as goal

pub returns-in_ok-visit_type-in-Visit-clause-grown : goal.returns-in_ok-visit_type-in-Visit-clause-grown
returns-in_ok-visit_type-in-Visit-clause-grown c = not_grown c.args.emitter.now

pub returns-in_ok-visit_type-in-Visit-clause-acts : goal.returns-in_ok-visit_type-in-Visit-clause-acts
returns-in_ok-visit_type-in-Visit-clause-acts c = c.in_ok-visit_type-in-Visit.ensures.gives (pieces c.args.emitter.now.code.items) c.args.emitter.now.types
    ∙ ap (λ t. done c.args.bank.now c.args.work.now.items (act c.args.bank.now t (work_now c.args.emitter.now c.args.made.now.items))) (sym c.in-Visit.is)

pub returns-in_ok-visit_parts-in-Parts-clause-less : goal.returns-in_ok-visit_parts-in-Parts-clause-less
returns-in_ok-visit_parts-in-Parts-clause-less c = let e = ap (type_task c.args.bank.now) c.in-Parts.is in omega (arith, e, c.in_ok-visit_parts-in-Parts.ensures.less)

pub returns-in_ok-visit_parts-in-Parts-clause-grown : goal.returns-in_ok-visit_parts-in-Parts-clause-grown
returns-in_ok-visit_parts-in-Parts-clause-grown c = not_grown c.args.emitter.now

pub returns-in_ok-visit_parts-in-Parts-clause-acts : goal.returns-in_ok-visit_parts-in-Parts-clause-acts
returns-in_ok-visit_parts-in-Parts-clause-acts c = c.in_ok-visit_parts-in-Parts.ensures.gives c.args.made.now.items (pieces c.args.emitter.now.code.items) c.args.emitter.now.types
    ∙ ap (λ t. done c.args.bank.now c.args.work.now.items (act c.args.bank.now t (work_now c.args.emitter.now c.args.made.now.items))) (sym c.in-Parts.is)

pub returns-in_ok-put_constructor-in-Constructor-clause-acts : goal.returns-in_ok-put_constructor-in-Constructor-clause-acts
returns-in_ok-put_constructor-in-Constructor-clause-acts c = ap (done c.args.bank.now c.args.work.now.items) c.in_ok-put_constructor-in-Constructor.ensures.made.comes
    ∙ ap (λ t. done c.args.bank.now c.args.work.now.items (act c.args.bank.now t (work_now c.args.emitter.now c.args.made.now.items))) (sym c.in-Constructor.is)

pub returns-in_ok-put_arrow-in-Arrow-clause-acts : goal.returns-in_ok-put_arrow-in-Arrow-clause-acts
returns-in_ok-put_arrow-in-Arrow-clause-acts c = ap (done c.args.bank.now c.args.work.now.items) c.in_ok-put_arrow-in-Arrow.ensures.made.comes
    ∙ ap (λ t. done c.args.bank.now c.args.work.now.items (act c.args.bank.now t (work_now c.args.emitter.now c.args.made.now.items))) (sym c.in-Arrow.is)

pub returns-in_ok-put_constructor-in-Constructor-clause-grown : goal.returns-in_ok-put_constructor-in-Constructor-clause-grown
returns-in_ok-put_constructor-in-Constructor-clause-grown c = c.in_ok-put_constructor-in-Constructor.ensures.made.grown

pub returns-in_ok-put_arrow-in-Arrow-clause-grown : goal.returns-in_ok-put_arrow-in-Arrow-clause-grown
returns-in_ok-put_arrow-in-Arrow-clause-grown c = c.in_ok-put_arrow-in-Arrow.ensures.made.grown

pub returns-in_ok-visit_type-in-Visit-clause-spent : goal.returns-in_ok-visit_type-in-Visit-clause-spent
returns-in_ok-visit_type-in-Visit-clause-spent c = spent_nothing c.args.emitter.now

pub returns-in_ok-visit_parts-in-Parts-clause-spent : goal.returns-in_ok-visit_parts-in-Parts-clause-spent
returns-in_ok-visit_parts-in-Parts-clause-spent c = spent_nothing c.args.emitter.now

pub returns-in_ok-put_constructor-in-Constructor-clause-spent : goal.returns-in_ok-put_constructor-in-Constructor-clause-spent
returns-in_ok-put_constructor-in-Constructor-clause-spent c = c.in_ok-put_constructor-in-Constructor.ensures.spent

pub returns-in_ok-put_arrow-in-Arrow-clause-spent : goal.returns-in_ok-put_arrow-in-Arrow-clause-spent
returns-in_ok-put_arrow-in-Arrow-clause-spent c = c.in_ok-put_arrow-in-Arrow.ensures.spent

pub returns-in_err-put_constructor-in-Constructor-clause-over : goal.returns-in_err-put_constructor-in-Constructor-clause-over
returns-in_err-put_constructor-in-Constructor-clause-over c =
    let w = work_now c.args.emitter.now c.args.made.now.items in
    let e = c.in_err-put_constructor-in-Constructor.field-0.0 in
    passed_up c.from_residual-in_err-put_constructor-in-Constructor.result e (Overflows c.args.emitter.now (act c.args.bank.now c.args.task w)) c.from_residual-in_err-put_constructor-in-Constructor.ensures.1
    (subst (λ t. Overflows c.args.emitter.now (act c.args.bank.now t w) e) (sym c.in-Constructor.is) c.in_err-put_constructor-in-Constructor.ensures.over)

pub returns-in_err-put_arrow-in-Arrow-clause-over : goal.returns-in_err-put_arrow-in-Arrow-clause-over
returns-in_err-put_arrow-in-Arrow-clause-over c =
    let w = work_now c.args.emitter.now c.args.made.now.items in
    let e = c.in_err-put_arrow-in-Arrow.field-0.0 in
    passed_up c.from_residual-in_err-put_arrow-in-Arrow.result e (Overflows c.args.emitter.now (act c.args.bank.now c.args.task w)) c.from_residual-in_err-put_arrow-in-Arrow.ensures.1
    (subst (λ t. Overflows c.args.emitter.now (act c.args.bank.now t w) e) (sym c.in-Arrow.is) c.in_err-put_arrow-in-Arrow.ensures.over)
