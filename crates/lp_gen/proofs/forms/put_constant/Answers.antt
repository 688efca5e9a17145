use Rattle.lp_gen.proofs.TypeWorks.{map_length}
use Rattle.lp_gen.specs.Steps.{make_constant}
use Rattle.lp_code.specs.declared.instruction.Instr.TheVariants as instr
use Rattle.lp_gen.proofs.Using.{uses_both, lacks_first, lacks_then, term_made, no_term_register, no_term_code}
use Rattle.lp_gen.specs.Registers.{past, step_takes, term_code}
use Rattle.lp_gen.specs.inner.Using.{Lacks}
use Rattle.lp_lemmas.proofs.Results.{passed_up}
use Rattle.std.proofs.Common.{map, ◌≡◌, ◌∙◌, ◌+◌, ◌*◌, length, ap, sym}
use Rattle.lp_term.specs.Nodes.{type_tree}
use Rattle.lp_gen.proofs.TermPut.{constant_put}
use Rattle.lp_gen.proofs.forms.put_constant.Goals as goal

pub returns-clause-code : goal.returns-clause-code
returns-clause-code c =
    constant_put c.args.emitter.now c.put_types.new.emitter c.new_register.new.self c.emit.new.self c.args.number c.in_ok-made.made c.in_ok-registers.registers (map
    (λ t. type_tree c.args.bank.now t.0) c.args.types.now) c.in_ok-registers.ensures.code c.in_ok-made.ensures.register c.in_ok-made.ensures.code c.in_ok-made.ensures.types
    c.in_ok-made.ensures.registers c.in_ok-emit.ensures.code c.in_ok-emit.ensures.types c.in_ok-emit.ensures.registers

pub returns-clause-uses : goal.returns-clause-uses
returns-clause-uses c =
    let n = length (map (λ t. type_tree c.args.bank.now t.0) c.args.types.now) in
    let count : length c.in_ok-registers.registers.items ≡ n = c.in_ok-registers.ensures.count ∙ sym (map_length (λ t. type_tree c.args.bank.now t.0) c.args.types.now) in
    uses_both c.in_ok-registers.ensures.uses (term_made c.new_register.new.self (instr.PutConst c.in_ok-made.made c.args.number c.in_ok-registers.registers) (6 + 2 * n) (past 255 n) c.in_ok-made.ensures.types c.in_ok-made.ensures.registers c.in_ok-made.ensures.place c.in_ok-emit.ensures.types c.in_ok-emit.ensures.registers c.in_ok-emit.ensures.place c.in_ok-emit.ensures.room (ap (λ k. 6 + 2 * k) count) (ap (past 255) count))

pub returns-in_err-registers-clause-lacks : goal.returns-in_err-registers-clause-lacks
returns-in_err-registers-clause-lacks c =
    let n = length (map (λ t. type_tree c.args.bank.now t.0) c.args.types.now) in
    let e = c.in_err-registers.field-0.0 in
    passed_up c.from_residual.result e (Lacks c.args.emitter.now (step_takes (make_constant c.args.number (map (λ t. type_tree c.args.bank.now t.0) c.args.types.now)))) c.from_residual.ensures.1
    (lacks_first (term_code (6 + 2 * n) (past 255 n)) c.in_err-registers.ensures.lacks)

pub returns-in_err-made-clause-lacks : goal.returns-in_err-made-clause-lacks
returns-in_err-made-clause-lacks c =
    let n = length (map (λ t. type_tree c.args.bank.now t.0) c.args.types.now) in
    let count : length c.in_ok-registers.registers.items ≡ n = c.in_ok-registers.ensures.count ∙ sym (map_length (λ t. type_tree c.args.bank.now t.0) c.args.types.now) in
    let e = c.in_err-made.field-0.0 in
    passed_up c.from_residual-in_err-made.result e (Lacks c.args.emitter.now (step_takes (make_constant c.args.number (map (λ t. type_tree c.args.bank.now t.0) c.args.types.now)))) c.from_residual-in_err-made.ensures.1
    (lacks_then c.in_ok-registers.ensures.uses (no_term_register c.put_types.new.emitter (6 + 2 * n) (past 255 n) e c.in_err-made.ensures.cause))

pub returns-in_err-emit-clause-lacks : goal.returns-in_err-emit-clause-lacks
returns-in_err-emit-clause-lacks c =
    let n = length (map (λ t. type_tree c.args.bank.now t.0) c.args.types.now) in
    let count : length c.in_ok-registers.registers.items ≡ n = c.in_ok-registers.ensures.count ∙ sym (map_length (λ t. type_tree c.args.bank.now t.0) c.args.types.now) in
    let e = c.in_err-emit.field-0.0 in
    passed_up c.from_residual-in_err-emit.result e (Lacks c.args.emitter.now (step_takes (make_constant c.args.number (map (λ t. type_tree c.args.bank.now t.0) c.args.types.now)))) c.from_residual-in_err-emit.ensures.1
    (lacks_then c.in_ok-registers.ensures.uses (no_term_code c.put_types.new.emitter c.new_register.new.self (instr.PutConst c.in_ok-made.made c.args.number c.in_ok-registers.registers) (6 + 2 * n) (past 255 n) e c.in_ok-made.ensures.place (ap (λ k. 6 + 2 * k) count) (ap (past 255) count) c.in_err-emit.ensures.cause))
