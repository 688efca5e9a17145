use Rattle.std.proofs.Common.{ℕ, ◌<◌, arith, ap, sym, ◌∙◌, map, length, subst as transport}
use Rattle.std.specs.Prelude.{All}
use Rattle.lp_term.specs.Nodes.{tree}
use Rattle.lp_term.proofs.Moves.{passed_up}
use Rattle.lp_model.specs.Pair.{Closing}
use Rattle.lp_model.specs.Rule.{decompose}
use Rattle.lp_model.specs.Same.{same_name}
use Rattle.lp_pattern.specs.Reading.{type_pairs_of}
use Rattle.lp_pattern.specs.Ruling.{IsRuledOut}
use Rattle.lp_pattern.specs.Stripping.{IsShut}
use Rattle.lp_pattern.specs.Under.{IsReading, under}
use Rattle.lp_pattern.proofs.HeadTypes.{rigid_top}
use Rattle.lp_pattern.proofs.Taking.{decompose_goes, decompose_gives, decompose_out, decompose_fails, lengths_differ, names_differ, even}
use Rattle.lp_pattern.proofs.Stacks.{pairs_join}
use Rattle.lp_pattern.proofs.rules.decompose.Goals as goal

pub returns-then-len-clause-refused : goal.returns-then-len-clause-refused
returns-then-len-clause-refused c = λ r i g n.
    decompose_fails n c.args.level c.args.units.now (under c.args.bank.now r c.args.one.now.top) (under c.args.bank.now r c.args.other.now.top) (map (under c.args.bank.now r) c.args.one.now.arguments.items) (map (under c.args.bank.now r) c.args.other.now.arguments.items)
    (lengths_differ c.args.bank.now r (same_name (under c.args.bank.now r c.args.one.now.top) (under c.args.bank.now r c.args.other.now.top))
    c.args.one.now.arguments.items c.args.other.now.arguments.items (λ e. c.if-len.true
    (omega (arith, e, c.len.ensures, c.len-2.ensures, c.args.one.now.arguments.ok, c.args.other.now.arguments.ok))))

pub returns-then-not-is_named-clause-refused : goal.returns-then-not-is_named-clause-refused
returns-then-not-is_named-clause-refused c = λ r i g n.
    decompose_fails n c.args.level c.args.units.now (under c.args.bank.now r c.args.one.now.top) (under c.args.bank.now r c.args.other.now.top) (map (under c.args.bank.now r) c.args.one.now.arguments.items) (map (under c.args.bank.now r) c.args.other.now.arguments.items)
    (names_differ r (tree c.args.bank.now c.args.one.now.top.0) (tree c.args.bank.now c.args.other.now.top.0) c.have_same_name-is_named.result
    (map (under c.args.bank.now r) c.args.one.now.arguments.items) (map (under c.args.bank.now r) c.args.other.now.arguments.items)
    (rigid_top c.args.bank.now c.args.bindings.now c.args.one.now c.requires.one c.requires.rigid_one)
    (rigid_top c.args.bank.now c.args.bindings.now c.args.other.now c.requires.other c.requires.rigid_other) c.have_same_name-is_named.ensures
    c.if-not-is_named.true)

pub returns-in_err-solve_types-clause-refused : goal.returns-in_err-solve_types-clause-refused
returns-in_err-solve_types-clause-refused c =
    passed_up c.from_residual-in_err-solve_types.result c.in_err-solve_types.field-0.0
    (λ e. (r : Closing) → IsReading c.args.bank.now c.args.bindings.now r → IsShut r → (n : ℕ) → IsRuledOut n e c.args.units.now
    (decompose n c.args.level (under c.args.bank.now r c.args.one.now.top) (map (under c.args.bank.now r) c.args.one.now.arguments.items)
    (under c.args.bank.now r c.args.other.now.top) (map (under c.args.bank.now r) c.args.other.now.arguments.items)))
    c.from_residual-in_err-solve_types.ensures.1
    (λ r i g n. decompose_out c.args.bank.now r (tree c.args.bank.now c.args.one.now.top.0) (tree c.args.bank.now c.args.other.now.top.0)
    c.have_same_name-is_named.result (map (under c.args.bank.now r) c.args.one.now.arguments.items)
    (map (under c.args.bank.now r) c.args.other.now.arguments.items) c.args.level n c.args.units.now c.as_slice.result.now
    (rigid_top c.args.bank.now c.args.bindings.now c.args.one.now c.requires.one c.requires.rigid_one)
    (rigid_top c.args.bank.now c.args.bindings.now c.args.other.now c.requires.other c.requires.rigid_other) c.have_same_name-is_named.ensures
    c.if-not-is_named.false (even c.args.bank.now r c.args.one.now.arguments.items c.args.other.now.arguments.items
    (omega (arith, c.if-len.false, c.len.ensures, c.len-2.ensures, c.args.one.now.arguments.ok, c.args.other.now.arguments.ok)))
    (ap (type_pairs_of c.args.bank.now r.types) c.as_slice.ensures.value ∙ c.in_ok-types.ensures.pairs r.types) c.in_err-solve_types.field-0.0
    (λ o x. c.in_err-solve_types.ensures.refused r.types i.types n o
    (x)))

pub returns-clause-solved : goal.returns-clause-solved
returns-clause-solved c = λ r i g n x e. decompose_goes c.args.bank.now r (tree c.args.bank.now c.args.one.now.top.0)
    (tree c.args.bank.now c.args.other.now.top.0) c.have_same_name-is_named.result (map (under c.args.bank.now r) c.args.one.now.arguments.items)
    (map (under c.args.bank.now r) c.args.other.now.arguments.items) c.args.level n c.args.units.now c.as_slice.result.now
    (rigid_top c.args.bank.now c.args.bindings.now c.args.one.now c.requires.one c.requires.rigid_one)
    (rigid_top c.args.bank.now c.args.bindings.now c.args.other.now c.requires.other c.requires.rigid_other) c.have_same_name-is_named.ensures
    c.if-not-is_named.false (even c.args.bank.now r c.args.one.now.arguments.items c.args.other.now.arguments.items
    (omega (arith, c.if-len.false, c.len.ensures, c.len-2.ensures, c.args.one.now.arguments.ok, c.args.other.now.arguments.ok)))
    (ap (type_pairs_of c.args.bank.now r.types) c.as_slice.ensures.value ∙ c.in_ok-types.ensures.pairs r.types) c.solve_types.new.units
    (λ o y. c.in_ok-solve_types.ensures.solved r.types i.types n o y) x e

pub returns-clause-given : goal.returns-clause-given
returns-clause-given c = λ r i g st n x e. decompose_gives c.args.bank.now r (tree c.args.bank.now c.args.one.now.top.0)
    (tree c.args.bank.now c.args.other.now.top.0) c.have_same_name-is_named.result (map (under c.args.bank.now r) c.args.one.now.arguments.items)
    (map (under c.args.bank.now r) c.args.other.now.arguments.items) c.args.level n c.args.units.now c.as_slice.result.now
    (rigid_top c.args.bank.now c.args.bindings.now c.args.one.now c.requires.one c.requires.rigid_one)
    (rigid_top c.args.bank.now c.args.bindings.now c.args.other.now c.requires.other c.requires.rigid_other) c.have_same_name-is_named.ensures
    c.if-not-is_named.false (even c.args.bank.now r c.args.one.now.arguments.items c.args.other.now.arguments.items
    (omega (arith, c.if-len.false, c.len.ensures, c.len-2.ensures, c.args.one.now.arguments.ok, c.args.other.now.arguments.ok)))
    (ap (type_pairs_of c.args.bank.now r.types) c.as_slice.ensures.value ∙ c.in_ok-types.ensures.pairs r.types) c.args.bindings.now
    c.solve_types.new.bank c.solve_types.new.bindings (λ o y. c.in_ok-solve_types.ensures.behind r i g st n o y) x e

pub returns-clause-todo : goal.returns-clause-todo
returns-clause-todo c =
    let known = All (λ t. t.0 < length c.args.bank.now.terms) in
    pairs_join c.args.bank.now c.solve_types.new.bank c.args.todo.now.items c.push_pairs.new.left.items c.args.level c.as_slice-ones.result.now c.as_slice-2.result.now c.in_ok-solve_types.ensures.kept
    c.requires.todo (transport known (sym c.as_slice-ones.ensures.value) c.requires.one.arguments) (transport known (sym c.as_slice-2.ensures.value) c.requires.other.arguments) c.in_ok-push_pairs.ensures
