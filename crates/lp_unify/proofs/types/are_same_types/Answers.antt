use Rattle.std.proofs.Common.{◌≡◌, [], List, reverse, sym, subst, arith}
use Rattle.std.proofs.lemmas.Grind.{common_steps}
use Rattle.lp_lemmas.proofs.Results.{passed_up}
use Rattle.lp_model.specs.Types.{TypePair}
use Rattle.lp_unify.specs.TypeEquations.{ReadPairs, IsComparedOver}
use Rattle.lp_unify.specs.TypeTurns.{IsSplit, IsWant}
use Rattle.lp_unify.proofs.TypeComparisons.{compared_first, compared_on, compared_apart, compared_all, compared_over}
use Rattle.lp_unify.proofs.types.are_same_types.Goals as goal

pub pairs-init : goal.pairs-init
pairs-init c = record { partly = λ ps r. compared_first c.args.store.now c.args.units.now ps (reverse c.args.todo.now.items) r; fewer = omega arith }

pub returns-in_err-spend-clause-spent : goal.returns-in_err-spend-clause-spent
returns-in_err-spend-clause-spent c =
    passed_up c.from_residual.result c.in_err-spend.field-0.0 (λ e. (ps : List TypePair) → ReadPairs c.args.store.now (reverse c.args.todo.now.items) ps → IsWant e (IsComparedOver c.args.units.now ps)) c.from_residual.ensures.1
    (λ ps r. subst (λ e. IsWant e (IsComparedOver c.args.units.now ps)) (sym c.in_err-spend.ensures.spent.0)
    (compared_over c.args.store.now c.args.units.now c.pairs.units ps c.pairs.todo.items c.pop.new.self.items (c.in-Some.one, c.in-Some.other) c.in-Some.ensures.items c.in_err-spend.ensures.spent.1 (c.pairs.invariant.partly ps r)))

pub returns-then-not-branch-clause-compared : goal.returns-then-not-branch-clause-compared
returns-then-not-branch-clause-compared c = λ ps r.
    compared_apart c.args.store.now c.args.units.now c.pairs.units c.spend.new.units ps c.pairs.todo.items c.pop.new.self.items (c.in-Some.one, c.in-Some.other) c.referred-one.result c.referred-other.result c.in-Some.ensures.items c.in_ok-spend.ensures.taken
    (c.pairs.invariant.partly ps r) c.referred-one.ensures.refers c.referred-other.ensures.refers
    (λ A B x y. subst (λ b. IsSplit b c.args.store.now A B (reverse c.pop.new.self.items) (reverse c.have_same_top.new.todo.items)) c.if-not-branch.true (c.in_ok-have_same_top.ensures c.referred-one.ensures.resolved c.referred-other.ensures.resolved A B x y))

pub pairs-preserved : goal.pairs-preserved
pairs-preserved c =
    let taken = c.in_ok-spend.ensures.taken in
    let before = c.pairs.invariant.fewer in
    record {
      partly = λ ps r. compared_on c.args.store.now c.args.units.now c.pairs.units c.spend.new.units ps c.pairs.todo.items c.pop.new.self.items (reverse c.have_same_top.new.todo.items) (c.in-Some.one, c.in-Some.other) c.referred-one.result c.referred-other.result
          c.in-Some.ensures.items taken (c.pairs.invariant.partly ps r) c.referred-one.ensures.refers c.referred-other.ensures.refers
          (λ A B x y. subst (λ b. IsSplit b c.args.store.now A B (reverse c.pop.new.self.items) (reverse c.have_same_top.new.todo.items)) c.if-not-branch.false (c.in_ok-have_same_top.ensures c.referred-one.ensures.resolved c.referred-other.ensures.resolved A B x y));
      fewer = omega (arith, taken, before);
    }

pub returns-clause-compared : goal.returns-clause-compared
returns-clause-compared c = λ ps r.
    let empty : c.pairs.todo.items ≡ [] = grind (arith, common_steps) in
    compared_all c.args.store.now c.args.units.now c.pairs.units ps c.pairs.todo.items empty (c.pairs.invariant.partly ps r)
