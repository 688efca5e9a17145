use Rattle.std.proofs.Common.{◌≡◌, ap, refl, arith, length, rules}
use Rattle.lp_term.specs.Nodes.{type_tree}
use Rattle.lp_type_unify.specs.Reading.{reading, reads}
use Rattle.lp_pattern.proofs.TypesSolved.{all_solved, none_solved, refused_rightly, units_solved, ended_there, general_there, refused_there}
use Rattle.lp_pattern.specs.Refusing.{IsOfEquations}
use Rattle.lp_term.proofs.Moves.{nothing}
use Rattle.lp_term.proofs.Trees.{extends_same}
use Rattle.lp_pattern.specs.Reading.{type_pairs_of}
use Rattle.lp_pattern.proofs.ReadingsBehind.{read_behind}
use Rattle.lp_pattern.proofs.Results.{err_and}
use Rattle.lp_pattern.proofs.types.solve_types.Goals as goal

pub returns-in_err-units-clause-refused : goal.returns-in_err-units-clause-refused
returns-in_err-units-clause-refused c =
    let later = c.filled_pairs.new.bank in
    let none = ap (reading (type_tree later)) c.new-solution.ensures in
    err_and c.from_residual-in_err-units.result (λ e. IsOfEquations c.in_err-units.field-0.0 e) _ c.from_residual-in_err-units.ensures.1
    (λ e is θ A n r d.
    refused_rightly c.in_err-units.field-0.0 e c.args.units.now n _ r is
    (refused_there (type_tree later) _ _ _ _ c.args.units.now c.in_err-units.field-0.0 none c.as_slice.ensures.value (c.in_ok-filled.ensures.filled θ A) c.in_err-units.ensures.refused) d)

pub returns-clause-types : goal.returns-clause-types
returns-clause-types c = λ θ A still n r d.
    let b = c.args.bank.now in
    let later = c.filled_pairs.new.bank in
    let none = ap (reading (type_tree later)) c.new-solution.ensures in
    let same = c.in_ok-filled.ensures.filled θ A in
    all_solved b later c.args.bindings.now c.adopt.new.bindings θ (reads later c.unify_within.new.bindings.made) c.args.bindings.now.types.entries c.unify_within.new.bindings.made.entries c.args.pairs.now c.args.units.now
    c.in_ok-units.field-0 n r c.in_ok-filled.ensures.kept A still refl c.in_ok-adopt.ensures.taken c.in_ok-adopt.ensures.distinct (ended_there (type_tree later) _ _ _ _ c.args.units.now c.in_ok-units.field-0 _ none c.as_slice.ensures.value same c.in_ok-units.ensures.solved)
    (general_there (type_tree later) _ _ _ _ _ none c.as_slice.ensures.value same c.in_ok-units.ensures.general) c.in_ok-units.ensures.kept d

pub returns-clause-solved : goal.returns-clause-solved
returns-clause-solved c = λ θ A n o d.
    let later = c.filled_pairs.new.bank in
    units_solved _ _ c.args.units.now c.in_ok-units.field-0 n o
    (ended_there (type_tree later) _ _ _ _ c.args.units.now c.in_ok-units.field-0 _ (ap (reading (type_tree later)) c.new-solution.ensures) c.as_slice.ensures.value (c.in_ok-filled.ensures.filled θ A) c.in_ok-units.ensures.solved) d

pub returns-clause-behind : goal.returns-clause-behind
returns-clause-behind c = λ r i h still n o d.
    read_behind c.args.bank.now c.filled_pairs.new.bank c.args.bindings.now c.adopt.new.bindings r c.args.units.now c.in_ok-units.field-0 n c.args.pairs.now o c.in_ok-filled.ensures.kept c.adopt.ensures.terms i h d (returns-clause-types c r.types i.types still n o d)

no_pairs : (c : goal.Then-is_empty) → length c.args.pairs.now ≡ 0
no_pairs c = search rules

pub returns-then-is_empty-clause-behind : goal.returns-then-is_empty-clause-behind
returns-then-is_empty-clause-behind c = λ r i h still n o d.
    read_behind c.args.bank.now c.args.bank.now c.args.bindings.now c.args.bindings.now r c.args.units.now c.args.units.now n c.args.pairs.now o (extends_same c.args.bank.now) refl i h d
    (none_solved c.args.bank.now c.args.bindings.now r.types (type_pairs_of c.args.bank.now r.types c.args.pairs.now) c.args.units.now n o i.types still
    (ap (type_pairs_of c.args.bank.now r.types) (nothing c.args.pairs.now (no_pairs c))) d)

pub returns-clause-fewer : goal.returns-clause-fewer
returns-clause-fewer c = let e = c.in_ok-units.ensures.solved.2 in omega (arith, e)
