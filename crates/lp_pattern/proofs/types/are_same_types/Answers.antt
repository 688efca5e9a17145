use Rattle.std.proofs.Common.{ℕ, reverse, arith, subst as transport}
use Rattle.lp_calculus.specs.Types.{Ty, instance}
use Rattle.lp_term.specs.Nodes.{type_tree}
use Rattle.lp_term.proofs.Moves.{passed_up, nothing}
use Rattle.lp_model.specs.Types.{same_top}
use Rattle.lp_model.specs.Rule.{compare_types}
use Rattle.lp_pattern.specs.Under.{AreTypes}
use Rattle.lp_pattern.specs.Reading.{type_pairs_of}
use Rattle.lp_pattern.specs.Comparing.{HasSameTop, IsPassed}
use Rattle.lp_pattern.proofs.SameTypes.{unbound_loose, types_start, types_next, types_apart, types_spent, types_done}
use Rattle.lp_pattern.proofs.types.are_same_types.Goals as goal

pub pairs-init : goal.pairs-init
pairs-init c = record {
  fewer = omega arith;
  rest = λ θ r n. (n, types_start c.args.bank.now θ c.args.units.now n c.args.pairs.now c.in_ok-left.left.items c.in_ok-left.ensures);
}

pub returns-clause-compared : goal.returns-clause-compared
returns-clause-compared c = λ θ r n.
    let w = c.pairs.invariant.rest θ r n in
    types_done c.args.bank.now θ c.args.units.now c.pairs.units w.0 (compare_types n (type_pairs_of c.args.bank.now θ c.args.pairs.now)) c.pairs.left.items
    (nothing c.pairs.left.items (omega (arith, c.in_default.ensures.cases.0, c.pairs.left.ok))) w.1

pub returns-in_err-spend-clause-spent : goal.returns-in_err-spend-clause-spent
returns-in_err-spend-clause-spent c =
    passed_up c.from_residual-in_err-spend.result c.in_err-spend.field-0.0
    (λ r. (θ : ℕ → Ty) → AreTypes c.args.bank.now c.args.bindings.now θ → (n : ℕ) → IsPassed r c.args.units.now (compare_types n (type_pairs_of c.args.bank.now θ c.args.pairs.now)))
    c.from_residual-in_err-spend.ensures.1
    (λ θ r n.
    let w = c.pairs.invariant.rest θ r n in
    types_spent c.args.bank.now θ c.args.units.now c.pairs.units w.0 (compare_types n (type_pairs_of c.args.bank.now θ c.args.pairs.now)) c.pairs.left.items c.pop.new.self.items c.in-Some.one c.in-Some.other
    c.in-Some.ensures.items w.1 c.in_err-spend.ensures.refused.1 c.in_err-spend.field-0.0 c.in_err-spend.ensures.refused.0)

pub returns-then-not-branch-clause-compared : goal.returns-then-not-branch-clause-compared
returns-then-not-branch-clause-compared c = λ θ r n.
    let b = c.args.bank.now in
    let w = c.pairs.invariant.rest θ r n in
    let s =
    transport
    (λ x. HasSameTop x (same_top (instance θ (type_tree b c.in_ok-one.one.0)) (instance θ (type_tree b c.in_ok-other.other.0))) (type_pairs_of b θ (reverse c.pop.new.self.items)) (type_pairs_of b θ (reverse c.same_top.new.left.items)))
    c.if-not-branch.true
    (c.in_ok-same_top.ensures θ (unbound_loose b c.args.bindings.now θ c.in_ok-one.one r (c.in_ok-one.ensures.unbound θ r))
    (unbound_loose b c.args.bindings.now θ c.in_ok-other.other r (c.in_ok-other.ensures.unbound θ r))) in
    types_apart b θ c.args.units.now c.pairs.units w.0 (compare_types n (type_pairs_of b θ c.args.pairs.now)) c.pairs.left.items c.pop.new.self.items c.in-Some.one c.in-Some.other c.in-Some.ensures.items w.1
    c.spend.new.units c.in_ok-one.one c.in_ok-other.other c.in_ok-spend.ensures.spent (c.in_ok-one.ensures.same θ r) (c.in_ok-other.ensures.same θ r) s

pub pairs-preserved : goal.pairs-preserved
pairs-preserved c = record {
  fewer = omega (arith, c.pairs.invariant.fewer, c.in_ok-spend.ensures.spent);
  rest = λ θ r n.
      let b = c.args.bank.now in
      let w = c.pairs.invariant.rest θ r n in
      let s =
      transport
      (λ x. HasSameTop x (same_top (instance θ (type_tree b c.in_ok-one.one.0)) (instance θ (type_tree b c.in_ok-other.other.0))) (type_pairs_of b θ (reverse c.pop.new.self.items)) (type_pairs_of b θ (reverse c.same_top.new.left.items)))
      c.if-not-branch.false
      (c.in_ok-same_top.ensures θ (unbound_loose b c.args.bindings.now θ c.in_ok-one.one r (c.in_ok-one.ensures.unbound θ r))
      (unbound_loose b c.args.bindings.now θ c.in_ok-other.other r (c.in_ok-other.ensures.unbound θ r))) in
      types_next b θ c.args.units.now c.pairs.units w.0 (compare_types n (type_pairs_of b θ c.args.pairs.now)) c.pairs.left.items c.pop.new.self.items c.in-Some.one c.in-Some.other c.in-Some.ensures.items w.1
      c.spend.new.units c.same_top.new.left.items c.in_ok-one.one c.in_ok-other.other c.in_ok-spend.ensures.spent (c.in_ok-one.ensures.same θ r) (c.in_ok-other.ensures.same θ r) s;
}

pub returns-clause-fewer : goal.returns-clause-fewer
returns-clause-fewer c = c.pairs.invariant.fewer

pub returns-then-not-branch-clause-fewer : goal.returns-then-not-branch-clause-fewer
returns-then-not-branch-clause-fewer c = omega (arith, c.pairs.invariant.fewer, c.in_ok-spend.ensures.spent)
