use Rattle.std.proofs.Common.{◌≡◌, ◌≤◌, [], List, reverse, arith}
use Rattle.std.proofs.lemmas.Grind.{common_steps}
use Rattle.lp_lemmas.proofs.Results.{passed_up}
use Rattle.lp_model.specs.Types.{TypePair}
use Rattle.lp_unify.specs.TypeEquations.{ReadPairs, AreRefused}
use Rattle.lp_unify.proofs.Frames.{goes_same, goes_then}
use Rattle.lp_unify.proofs.TypeRuns.{partly_first, partly_on, partly_solved, partly_refused}
use Rattle.lp_unify.proofs.types.solve_types.Goals as goal

pub pairs-init : goal.pairs-init
pairs-init c = record {
  goes = goes_same c.args.store.now;
  partly = λ ps r. partly_first c.args.store.now c.args.round.now ps (reverse c.args.todo.now.items) r;
  fewer = omega arith;
}

pub pairs-preserved : goal.pairs-preserved
pairs-preserved c =
    let less = c.in_ok-take.ensures.fewer in
    let before = c.pairs.invariant.fewer in
    record {
      goes = goes_then c.args.store.now c.pairs.store c.take.new.store c.pairs.invariant.goes c.in_ok-take.ensures.goes;
      partly = λ ps r. partly_on c.args.store.now c.pairs.store c.take.new.store c.args.round.now c.pairs.round c.take.new.round ps c.pairs.todo.items c.pop.new.self.items (reverse c.take.new.todo.items) c.in-Some.pair c.in-Some.ensures.items
          (c.pairs.invariant.partly ps r) c.in_ok-take.ensures.turns;
      fewer = omega (arith, less, before);
    }

pub returns-in_err-take-clause-refused : goal.returns-in_err-take-clause-refused
returns-in_err-take-clause-refused c =
    passed_up c.from_residual.result c.in_err-take.field-0.0 (λ e. (ps : List TypePair) → ReadPairs c.args.store.now (reverse c.args.todo.now.items) ps → AreRefused e c.args.round.now.units ps) c.from_residual.ensures.1
    (λ ps r. partly_refused c.in_err-take.field-0.0 c.args.store.now c.pairs.store c.args.round.now c.pairs.round ps c.pairs.todo.items c.pop.new.self.items c.in-Some.pair c.in-Some.ensures.items (c.pairs.invariant.partly ps r) c.in_err-take.ensures.refused)

pub returns-clause-solved : goal.returns-clause-solved
returns-clause-solved c = λ ps r.
    let empty : c.pairs.todo.items ≡ [] = grind (arith, common_steps) in
    partly_solved c.args.store.now c.pairs.store c.args.round.now c.pairs.round ps c.pairs.todo.items empty (c.pairs.invariant.partly ps r)
