use Rattle.lp_gen.proofs.HeadUsed.{first_takes, first_left, constant_got_takes, other_by_node, built_takes_here}
use Rattle.lp_gen.proofs.Using.{uses_both, uses_same, lacks_first, lacks_then}
use Rattle.lp_gen.proofs.TypeWorks.{map_length}
use Rattle.lp_gen.specs.Steps.{constant_function, first_place}
use Rattle.lp_gen.specs.Registers.{past, argument_takes, behind_argument, plain_code}
use Rattle.lp_gen.specs.inner.Using.{Lacks}
use Rattle.lp_lemmas.proofs.Results.{passed_up}
use Rattle.std.proofs.Common.{◌≡◌, ◌∙◌, sym, subst, arith, w64, to_z, of_z, ◌+◌, ◌*◌, Some, length, map, ap}
use Rattle.std.proofs.lemmas.Int.{to_z-of_z}
use Rattle.lp_term.specs.Nodes.{tree, type_tree}
use Rattle.lp_gen.specs.inner.Reading.{read}
use Rattle.lp_gen.specs.inner.Saying.{IntegerGot}
use Rattle.lp_gen.specs.inner.Listing.{around_of}
use Rattle.lp_gen.specs.inner.Heading.{ArgumentGot}
use Rattle.lp_gen.proofs.GoalPut.{text_cut}
use Rattle.lp_gen.proofs.ArgumentGot.{integer_argument, text_argument, term_argument}
use Rattle.lp_gen.proofs.HeadNodes.{first_argument_of, constant_node_argument}
use Rattle.lp_gen.proofs.head.get_argument.Goals as goal

pub returns-in-Some-clause-code : goal.returns-in-Some-clause-code
returns-in-Some-clause-code c =
    let b = c.args.tables.bank.now in
    first_argument_of (constant_function b c.args.tables.constants.now) c.args.emitter.now c.get_variable.new.emitter (around_of b c.args.environment.now) (around_of b c.set.new.self) c.args.at
    c.in-Some.level c.in-Some.register (read b c.args.of) (tree b c.args.argument.0) c.in_ok-get_variable.ensures.code (sym c.place_of.ensures ∙ c.in-Some.is) (c.set.ensures b)

pub returns-in_ok-get_constant-in-Const-clause-code : goal.returns-in_ok-get_constant-in-Const-clause-code
returns-in_ok-get_constant-in-Const-clause-code c =
    let b = c.args.tables.bank.now in
    constant_node_argument (constant_function b c.args.tables.constants.now) b c.args.emitter.now c.put_types.new.emitter c.get_constant.new.emitter (around_of b c.args.environment.now) c.args.at
    c.in-Const.number (read b c.args.of) c.in-Const.types.now c.in_ok-registers-in-Const.registers.items (tree b c.args.argument.0) c.in_ok-registers-in-Const.ensures.code
    c.in_ok-get_constant-in-Const.ensures.code c.in-Const.ensures.tree

pub returns-in_ok-get_integer-in-Int-clause-code : goal.returns-in_ok-get_integer-in-Int-clause-code
returns-in_ok-get_integer-in-Int-clause-code c =
    let b = c.args.tables.bank.now in
    let K = constant_function b c.args.tables.constants.now in
    let a = around_of b c.args.environment.now in
    let same : to_z w64 (of_z w64 c.in-Int.value) ≡ c.in-Int.value = grind (arith, to_z-of_z) in
    subst (ArgumentGot K c.args.emitter.now c.get_integer.new.emitter a a c.args.at (read b c.args.of)) c.in-Int.ensures.tree
    (integer_argument K c.args.emitter.now c.get_integer.new.emitter a c.args.at (read b c.args.of) c.in-Int.value
    (subst (IntegerGot c.args.emitter.now c.get_integer.new.emitter c.args.at) same c.in_ok-get_integer-in-Int.ensures.code))

pub returns-in_ok-get_text-in-Text-clause-code : goal.returns-in_ok-get_text-in-Text-clause-code
returns-in_ok-get_text-in-Text-clause-code c =
    let b = c.args.tables.bank.now in
    let K = constant_function b c.args.tables.constants.now in
    let a = around_of b c.args.environment.now in
    subst (ArgumentGot K c.args.emitter.now c.get_text.new.emitter a a c.args.at (read b c.args.of)) c.in-Text.ensures.tree
    (text_argument K c.args.emitter.now c.get_text.new.emitter a c.args.at (read b c.args.of) c.in-Text.bytes.now
    (text_cut c.args.emitter.now c.get_text.new.emitter c.args.at c.in_ok-text-in-Text.text.items c.in-Text.bytes.now c.in_ok-text-in-Text.ensures.whole c.in_ok-get_text-in-Text.ensures.code))

pub returns-in_ok-get_term-in_default-term_node-clause-code : goal.returns-in_ok-get_term-in_default-term_node-clause-code
returns-in_ok-get_term-in_default-term_node-clause-code c =
    let b = c.args.tables.bank.now in
    term_argument (constant_function b c.args.tables.constants.now) c.args.emitter.now c.put_term.new.emitter c.get_term.new.emitter (around_of b c.args.environment.now)
    (around_of b c.put_term.new.environment) c.args.at c.in_ok-register-in_default-term_node.register (read b c.args.of) (tree b c.args.argument.0)
    c.in_ok-register-in_default-term_node.ensures.code c.in_ok-get_term-in_default-term_node.ensures.code
    (sym c.place_of.ensures ∙ c.in_default.is)

pub returns-in-Some-clause-around : goal.returns-in-Some-clause-around
returns-in-Some-clause-around c =
    let p : first_place (around_of c.args.tables.bank.now c.args.environment.now) (tree c.args.tables.bank.now c.args.argument.0) ≡ Some (c.in-Some.level, c.in-Some.register) = sym c.place_of.ensures ∙ c.in-Some.is in
    c.set.ensures c.args.tables.bank.now ∙ sym (first_left (constant_function c.args.tables.bank.now c.args.tables.constants.now) (around_of c.args.tables.bank.now c.args.environment.now) (read c.args.tables.bank.now c.args.of) (tree c.args.tables.bank.now c.args.argument.0) (c.in-Some.level, c.in-Some.register) p)

pub returns-in-Some-clause-uses : goal.returns-in-Some-clause-uses
returns-in-Some-clause-uses c =
    let p : first_place (around_of c.args.tables.bank.now c.args.environment.now) (tree c.args.tables.bank.now c.args.argument.0) ≡ Some (c.in-Some.level, c.in-Some.register) = sym c.place_of.ensures ∙ c.in-Some.is in
    uses_same (sym (first_takes (constant_function c.args.tables.bank.now c.args.tables.constants.now) (around_of c.args.tables.bank.now c.args.environment.now) (read c.args.tables.bank.now c.args.of) (tree c.args.tables.bank.now c.args.argument.0) (c.in-Some.level, c.in-Some.register) p)) c.in_ok-get_variable.ensures.uses

pub returns-in_err-get_variable-clause-lacks : goal.returns-in_err-get_variable-clause-lacks
returns-in_err-get_variable-clause-lacks c =
    let p : first_place (around_of c.args.tables.bank.now c.args.environment.now) (tree c.args.tables.bank.now c.args.argument.0) ≡ Some (c.in-Some.level, c.in-Some.register) = sym c.place_of.ensures ∙ c.in-Some.is in
    let e = c.in_err-get_variable.field-0.0 in
    passed_up c.from_residual.result e (Lacks c.args.emitter.now (argument_takes (constant_function c.args.tables.bank.now c.args.tables.constants.now) (around_of c.args.tables.bank.now c.args.environment.now) (read c.args.tables.bank.now c.args.of) (tree c.args.tables.bank.now c.args.argument.0))) c.from_residual.ensures.1
    (subst (λ x. Lacks c.args.emitter.now x e) (sym (first_takes (constant_function c.args.tables.bank.now c.args.tables.constants.now) (around_of c.args.tables.bank.now c.args.environment.now) (read c.args.tables.bank.now c.args.of) (tree c.args.tables.bank.now c.args.argument.0) (c.in-Some.level, c.in-Some.register) p)) c.in_err-get_variable.ensures.lacks)

pub returns-in_ok-get_constant-in-Const-clause-around : goal.returns-in_ok-get_constant-in-Const-clause-around
returns-in_ok-get_constant-in-Const-clause-around c =
    let Ts = map (λ i. type_tree c.args.tables.bank.now i.0) c.in-Const.types.now in
    let got = constant_got_takes (constant_function c.args.tables.bank.now c.args.tables.constants.now) c.args.tables.bank.now (around_of c.args.tables.bank.now c.args.environment.now) (read c.args.tables.bank.now c.args.of) c.in-Const.number c.in-Const.types.now (tree c.args.tables.bank.now c.args.argument.0) c.in-Const.ensures.tree in
    sym got.1

pub returns-in_ok-get_constant-in-Const-clause-uses : goal.returns-in_ok-get_constant-in-Const-clause-uses
returns-in_ok-get_constant-in-Const-clause-uses c =
    let Ts = map (λ i. type_tree c.args.tables.bank.now i.0) c.in-Const.types.now in
    let got = constant_got_takes (constant_function c.args.tables.bank.now c.args.tables.constants.now) c.args.tables.bank.now (around_of c.args.tables.bank.now c.args.environment.now) (read c.args.tables.bank.now c.args.of) c.in-Const.number c.in-Const.types.now (tree c.args.tables.bank.now c.args.argument.0) c.in-Const.ensures.tree in
    let n : length c.in_ok-registers-in-Const.registers.items ≡ length Ts = c.in_ok-registers-in-Const.ensures.count ∙ sym (map_length (λ i. type_tree c.args.tables.bank.now i.0) c.in-Const.types.now) in
    let code : plain_code (5 + 2 * length c.in_ok-registers-in-Const.registers.items) (past 255 (length c.in_ok-registers-in-Const.registers.items)) ≡ plain_code (5 + 2 * length Ts) (past 255 (length Ts)) = (λ i. plain_code (5 + 2 * n i) (past 255 (n i))) in
    uses_same (sym got.0) (uses_both c.in_ok-registers-in-Const.ensures.uses (uses_same code c.in_ok-get_constant-in-Const.ensures.uses))

pub returns-in_err-registers-in-Const-clause-lacks : goal.returns-in_err-registers-in-Const-clause-lacks
returns-in_err-registers-in-Const-clause-lacks c =
    let Ts = map (λ i. type_tree c.args.tables.bank.now i.0) c.in-Const.types.now in
    let got = constant_got_takes (constant_function c.args.tables.bank.now c.args.tables.constants.now) c.args.tables.bank.now (around_of c.args.tables.bank.now c.args.environment.now) (read c.args.tables.bank.now c.args.of) c.in-Const.number c.in-Const.types.now (tree c.args.tables.bank.now c.args.argument.0) c.in-Const.ensures.tree in
    let e = c.in_err-registers-in-Const.field-0.0 in
    passed_up c.from_residual-in_err-registers-in-Const.result e (Lacks c.args.emitter.now (argument_takes (constant_function c.args.tables.bank.now c.args.tables.constants.now) (around_of c.args.tables.bank.now c.args.environment.now) (read c.args.tables.bank.now c.args.of) (tree c.args.tables.bank.now c.args.argument.0))) c.from_residual-in_err-registers-in-Const.ensures.1
    (subst (λ x. Lacks c.args.emitter.now x e) (sym got.0) (lacks_first (plain_code (5 + 2 * length Ts) (past 255 (length Ts))) c.in_err-registers-in-Const.ensures.lacks))

pub returns-in_err-get_constant-in-Const-clause-lacks : goal.returns-in_err-get_constant-in-Const-clause-lacks
returns-in_err-get_constant-in-Const-clause-lacks c =
    let Ts = map (λ i. type_tree c.args.tables.bank.now i.0) c.in-Const.types.now in
    let got = constant_got_takes (constant_function c.args.tables.bank.now c.args.tables.constants.now) c.args.tables.bank.now (around_of c.args.tables.bank.now c.args.environment.now) (read c.args.tables.bank.now c.args.of) c.in-Const.number c.in-Const.types.now (tree c.args.tables.bank.now c.args.argument.0) c.in-Const.ensures.tree in
    let n : length c.in_ok-registers-in-Const.registers.items ≡ length Ts = c.in_ok-registers-in-Const.ensures.count ∙ sym (map_length (λ i. type_tree c.args.tables.bank.now i.0) c.in-Const.types.now) in
    let code : plain_code (5 + 2 * length c.in_ok-registers-in-Const.registers.items) (past 255 (length c.in_ok-registers-in-Const.registers.items)) ≡ plain_code (5 + 2 * length Ts) (past 255 (length Ts)) = (λ i. plain_code (5 + 2 * n i) (past 255 (n i))) in
    let e = c.in_err-get_constant-in-Const.field-0.0 in
    passed_up c.from_residual-in_err-get_constant-in-Const.result e (Lacks c.args.emitter.now (argument_takes (constant_function c.args.tables.bank.now c.args.tables.constants.now) (around_of c.args.tables.bank.now c.args.environment.now) (read c.args.tables.bank.now c.args.of) (tree c.args.tables.bank.now c.args.argument.0))) c.from_residual-in_err-get_constant-in-Const.ensures.1
    (subst (λ x. Lacks c.args.emitter.now x e) (sym got.0) (lacks_then c.in_ok-registers-in-Const.ensures.uses (subst (λ x. Lacks c.put_types.new.emitter x e) code c.in_err-get_constant-in-Const.ensures.lacks)))

pub returns-in_ok-get_integer-in-Int-clause-around : goal.returns-in_ok-get_integer-in-Int-clause-around
returns-in_ok-get_integer-in-Int-clause-around c =
    ap (behind_argument (constant_function c.args.tables.bank.now c.args.tables.constants.now) (around_of c.args.tables.bank.now c.args.environment.now) (read c.args.tables.bank.now c.args.of)) c.in-Int.ensures.tree

pub returns-in_ok-get_integer-in-Int-clause-uses : goal.returns-in_ok-get_integer-in-Int-clause-uses
returns-in_ok-get_integer-in-Int-clause-uses c =
    uses_same (ap (argument_takes (constant_function c.args.tables.bank.now c.args.tables.constants.now) (around_of c.args.tables.bank.now c.args.environment.now) (read c.args.tables.bank.now c.args.of)) c.in-Int.ensures.tree) c.in_ok-get_integer-in-Int.ensures.uses

pub returns-in_err-get_integer-in-Int-clause-lacks : goal.returns-in_err-get_integer-in-Int-clause-lacks
returns-in_err-get_integer-in-Int-clause-lacks c =
    let e = c.in_err-get_integer-in-Int.field-0.0 in
    passed_up c.from_residual-in_err-get_integer-in-Int.result e (Lacks c.args.emitter.now (argument_takes (constant_function c.args.tables.bank.now c.args.tables.constants.now) (around_of c.args.tables.bank.now c.args.environment.now) (read c.args.tables.bank.now c.args.of) (tree c.args.tables.bank.now c.args.argument.0))) c.from_residual-in_err-get_integer-in-Int.ensures.1
    (subst (λ t. Lacks c.args.emitter.now (argument_takes (constant_function c.args.tables.bank.now c.args.tables.constants.now) (around_of c.args.tables.bank.now c.args.environment.now) (read c.args.tables.bank.now c.args.of) t) e) c.in-Int.ensures.tree c.in_err-get_integer-in-Int.ensures.lacks)

pub returns-in_ok-get_text-in-Text-clause-around : goal.returns-in_ok-get_text-in-Text-clause-around
returns-in_ok-get_text-in-Text-clause-around c =
    ap (behind_argument (constant_function c.args.tables.bank.now c.args.tables.constants.now) (around_of c.args.tables.bank.now c.args.environment.now) (read c.args.tables.bank.now c.args.of)) c.in-Text.ensures.tree

pub returns-in_ok-get_text-in-Text-clause-uses : goal.returns-in_ok-get_text-in-Text-clause-uses
returns-in_ok-get_text-in-Text-clause-uses c =
    let cut = ap (λ n. plain_code (4 + n) 0) c.in_ok-text-in-Text.ensures.count in
    uses_same (cut ∙ ap (argument_takes (constant_function c.args.tables.bank.now c.args.tables.constants.now) (around_of c.args.tables.bank.now c.args.environment.now) (read c.args.tables.bank.now c.args.of)) c.in-Text.ensures.tree) c.in_ok-get_text-in-Text.ensures.uses

pub returns-in_err-get_text-in-Text-clause-lacks : goal.returns-in_err-get_text-in-Text-clause-lacks
returns-in_err-get_text-in-Text-clause-lacks c =
    let cut = ap (λ n. plain_code (4 + n) 0) c.in_ok-text-in-Text.ensures.count in
    let e = c.in_err-get_text-in-Text.field-0.0 in
    passed_up c.from_residual-in_err-get_text-in-Text.result e (Lacks c.args.emitter.now (argument_takes (constant_function c.args.tables.bank.now c.args.tables.constants.now) (around_of c.args.tables.bank.now c.args.environment.now) (read c.args.tables.bank.now c.args.of) (tree c.args.tables.bank.now c.args.argument.0))) c.from_residual-in_err-get_text-in-Text.ensures.1
    (subst (λ x. Lacks c.args.emitter.now x e) (cut ∙ ap (argument_takes (constant_function c.args.tables.bank.now c.args.tables.constants.now) (around_of c.args.tables.bank.now c.args.environment.now) (read c.args.tables.bank.now c.args.of)) c.in-Text.ensures.tree) c.in_err-get_text-in-Text.ensures.lacks)

pub returns-in_ok-get_term-in_default-term_node-clause-around : goal.returns-in_ok-get_term-in_default-term_node-clause-around
returns-in_ok-get_term-in_default-term_node-clause-around c =
    let other = other_by_node c.args.tables.bank.now (length c.args.tables.bank.now.types) c.args.argument.0 c.term_node.result (tree c.args.tables.bank.now c.args.argument.0) c.in_default-term_node.not-Const c.in_default-term_node.not-Int c.in_default-term_node.not-Text c.term_node.ensures.older c.term_node.ensures.tree in
    let got = built_takes_here (constant_function c.args.tables.bank.now c.args.tables.constants.now) (around_of c.args.tables.bank.now c.args.environment.now) (read c.args.tables.bank.now c.args.of) (tree c.args.tables.bank.now c.args.argument.0) other (sym c.place_of.ensures ∙ c.in_default.is) in
    c.in_ok-register-in_default-term_node.ensures.around ∙ sym got.1

pub returns-in_ok-get_term-in_default-term_node-clause-uses : goal.returns-in_ok-get_term-in_default-term_node-clause-uses
returns-in_ok-get_term-in_default-term_node-clause-uses c =
    let other = other_by_node c.args.tables.bank.now (length c.args.tables.bank.now.types) c.args.argument.0 c.term_node.result (tree c.args.tables.bank.now c.args.argument.0) c.in_default-term_node.not-Const c.in_default-term_node.not-Int c.in_default-term_node.not-Text c.term_node.ensures.older c.term_node.ensures.tree in
    let got = built_takes_here (constant_function c.args.tables.bank.now c.args.tables.constants.now) (around_of c.args.tables.bank.now c.args.environment.now) (read c.args.tables.bank.now c.args.of) (tree c.args.tables.bank.now c.args.argument.0) other (sym c.place_of.ensures ∙ c.in_default.is) in
    uses_same (sym got.0) (uses_both c.in_ok-register-in_default-term_node.ensures.uses c.in_ok-get_term-in_default-term_node.ensures.uses)

pub returns-in_err-register-in_default-term_node-clause-lacks : goal.returns-in_err-register-in_default-term_node-clause-lacks
returns-in_err-register-in_default-term_node-clause-lacks c =
    let other = other_by_node c.args.tables.bank.now (length c.args.tables.bank.now.types) c.args.argument.0 c.term_node.result (tree c.args.tables.bank.now c.args.argument.0) c.in_default-term_node.not-Const c.in_default-term_node.not-Int c.in_default-term_node.not-Text c.term_node.ensures.older c.term_node.ensures.tree in
    let got = built_takes_here (constant_function c.args.tables.bank.now c.args.tables.constants.now) (around_of c.args.tables.bank.now c.args.environment.now) (read c.args.tables.bank.now c.args.of) (tree c.args.tables.bank.now c.args.argument.0) other (sym c.place_of.ensures ∙ c.in_default.is) in
    let e = c.in_err-register-in_default-term_node.field-0.0 in
    passed_up c.from_residual-in_err-register-in_default-term_node.result e (Lacks c.args.emitter.now (argument_takes (constant_function c.args.tables.bank.now c.args.tables.constants.now) (around_of c.args.tables.bank.now c.args.environment.now) (read c.args.tables.bank.now c.args.of) (tree c.args.tables.bank.now c.args.argument.0))) c.from_residual-in_err-register-in_default-term_node.ensures.1
    (subst (λ x. Lacks c.args.emitter.now x e) (sym got.0) (lacks_first (plain_code 4 0) c.in_err-register-in_default-term_node.ensures.lacks))

pub returns-in_err-get_term-in_default-term_node-clause-lacks : goal.returns-in_err-get_term-in_default-term_node-clause-lacks
returns-in_err-get_term-in_default-term_node-clause-lacks c =
    let other = other_by_node c.args.tables.bank.now (length c.args.tables.bank.now.types) c.args.argument.0 c.term_node.result (tree c.args.tables.bank.now c.args.argument.0) c.in_default-term_node.not-Const c.in_default-term_node.not-Int c.in_default-term_node.not-Text c.term_node.ensures.older c.term_node.ensures.tree in
    let got = built_takes_here (constant_function c.args.tables.bank.now c.args.tables.constants.now) (around_of c.args.tables.bank.now c.args.environment.now) (read c.args.tables.bank.now c.args.of) (tree c.args.tables.bank.now c.args.argument.0) other (sym c.place_of.ensures ∙ c.in_default.is) in
    let e = c.in_err-get_term-in_default-term_node.field-0.0 in
    passed_up c.from_residual-in_err-get_term-in_default-term_node.result e (Lacks c.args.emitter.now (argument_takes (constant_function c.args.tables.bank.now c.args.tables.constants.now) (around_of c.args.tables.bank.now c.args.environment.now) (read c.args.tables.bank.now c.args.of) (tree c.args.tables.bank.now c.args.argument.0))) c.from_residual-in_err-get_term-in_default-term_node.ensures.1
    (subst (λ x. Lacks c.args.emitter.now x e) (sym got.0) (lacks_then c.in_ok-register-in_default-term_node.ensures.uses c.in_err-get_term-in_default-term_node.ensures.lacks))
