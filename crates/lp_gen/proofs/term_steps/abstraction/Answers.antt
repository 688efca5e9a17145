use Rattle.lp_gen.proofs.StepsUsed.{first_length, push_length}
use Rattle.lp_gen.specs.inner.Reading.{read}
use Rattle.lp_gen.specs.Steps.{abstract_last}
use Rattle.lp_gen.specs.Registers.{step_takes}
use Rattle.lp_gen.specs.inner.Using.{Lacks}
use Rattle.lp_lemmas.proofs.Results.{passed_up}
use Rattle.std.proofs.Common.{◌∙◌, ap, length, arith}
use Rattle.std.specs.Prelude.{slice_index_or}
use Rattle.lp_gen.proofs.StepPut.{abstract_then}
use Rattle.lp_gen.proofs.term_steps.abstraction.Goals as goal

pub returns-clause-code : goal.returns-clause-code
returns-clause-code c = λ start steps x.
    abstract_then c.args.bank.now start c.args.emitter.now c.put_abstraction.new.emitter steps c.args.of c.args.made.now.items c.in_ok-bodies.bodies.items c.take.new.registers.items
    c.push.new.self.items
    c.register_at-body.result c.in_ok-register.register x c.in_ok-bodies.ensures.taken c.in_ok-bodies.ensures.left
    (c.register_at-body.ensures ∙ ap (λ l. slice_index_or l 0 0) c.as_slice.ensures.value) c.in_ok-register.ensures.code c.in_ok-push.ensures.items

pub returns-clause-count : goal.returns-clause-count
returns-clause-count c =
    let d = ap length c.in_ok-bodies.ensures.left in
    let e = first_length 1 c.args.made.now.items in
    let f = ap length c.in_ok-push.ensures.items in
    let g = push_length c.take.new.registers.items c.in_ok-register.register in
    omega (arith, d, e, f, g, c.requires)

pub returns-clause-uses : goal.returns-clause-uses
returns-clause-uses c = c.in_ok-register.ensures.uses

pub returns-in_err-register-clause-lacks : goal.returns-in_err-register-clause-lacks
returns-in_err-register-clause-lacks c =
    let e = c.in_err-register.field-0.0 in
    passed_up c.from_residual-in_err-register.result e (Lacks c.args.emitter.now (step_takes (abstract_last (read c.args.bank.now c.args.of)))) c.from_residual-in_err-register.ensures.1
    (c.in_err-register.ensures.lacks)
