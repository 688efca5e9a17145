use Rattle.lp_gen.proofs.StepsUsed.{last_length, first_length, push_length}
use Rattle.lp_gen.specs.Steps.{apply_last}
use Rattle.lp_gen.specs.Registers.{step_takes}
use Rattle.lp_gen.specs.inner.Using.{Lacks, Uses}
use Rattle.lp_lemmas.proofs.Results.{passed_up}
use Rattle.std.proofs.Common.{◌∙◌, ap, ◌≡◌, length, subst, arith}
use Rattle.std.specs.Prelude.{slice_index_or}
use Rattle.lp_gen.proofs.StepPut.{apply_then}
use Rattle.lp_gen.proofs.term_steps.apply.Goals as goal

pub returns-clause-code : goal.returns-clause-code
returns-clause-code c = λ start steps x.
    apply_then c.args.bank.now start c.args.emitter.now c.put_application.new.emitter steps c.args.count c.args.made.now.items c.take.new.registers.items c.in_ok-heads.heads.items
    c.take-2.new.registers.items
    c.in_ok-args.args.items c.push.new.self.items c.register_at-head.result c.in_ok-register.register x c.in_ok-args.ensures.taken c.in_ok-args.ensures.left c.in_ok-heads.ensures.taken
    c.in_ok-heads.ensures.left
    (c.register_at-head.ensures ∙ ap (λ l. slice_index_or l 0 0) c.as_slice.ensures.value) c.in_ok-register.ensures.code c.in_ok-push.ensures.items

pub returns-clause-count : goal.returns-clause-count
returns-clause-count c =
    let a = ap length c.in_ok-args.ensures.left in
    let b = first_length c.args.count c.args.made.now.items in
    let d = ap length c.in_ok-heads.ensures.left in
    let e = first_length 1 c.take.new.registers.items in
    let f = ap length c.in_ok-push.ensures.items in
    let g = push_length c.take-2.new.registers.items c.in_ok-register.register in
    omega (arith, a, b, d, e, f, g, c.requires)

pub returns-clause-uses : goal.returns-clause-uses
returns-clause-uses c =
    let n : length c.in_ok-args.args.items ≡ c.args.count = ap length c.in_ok-args.ensures.taken ∙ last_length c.args.count c.args.made.now.items (omega (arith, c.requires)) in
    subst (λ k. Uses c.args.emitter.now c.put_application.new.emitter (step_takes (apply_last k))) n c.in_ok-register.ensures.uses

pub returns-in_err-register-clause-lacks : goal.returns-in_err-register-clause-lacks
returns-in_err-register-clause-lacks c =
    let n : length c.in_ok-args.args.items ≡ c.args.count = ap length c.in_ok-args.ensures.taken ∙ last_length c.args.count c.args.made.now.items (omega (arith, c.requires)) in
    let e = c.in_err-register.field-0.0 in
    passed_up c.from_residual-in_err-register.result e (Lacks c.args.emitter.now (step_takes (apply_last c.args.count))) c.from_residual-in_err-register.ensures.1
    (subst (λ k. Lacks c.args.emitter.now (step_takes (apply_last k)) e) n c.in_err-register.ensures.lacks)
