use Rattle.std.proofs.Common.{ℕ, ◌≤◌, ◌∙◌, ap, ◌++◌, arith, length, map, reverse}
use Rattle.lp_term.proofs.Trees.{extends_same, extends-trans}
use Rattle.lp_term.proofs.Moves.{passed_up, nothing}
use Rattle.lp_model.specs.Pair.{Closing}
use Rattle.lp_model.specs.Rule.{compare_all}
use Rattle.lp_lemmas.proofs.Elements.{All_popped}
use Rattle.lp_pattern.specs.Growing.{IsPairOf}
use Rattle.lp_pattern.specs.Under.{IsReading, under}
use Rattle.lp_pattern.specs.Comparing.{IsPassed, pairs_of}
use Rattle.lp_pattern.proofs.Falls.{pair_falls}
use Rattle.lp_pattern.proofs.Tops.{are_start, are_next, are_apart_at, are_done, refused_at, start_known}
use Rattle.lp_pattern.proofs.Walking.{reading_kept}
use Rattle.lp_pattern.proofs.compare.are_same.Goals as goal

pub pairs-init : goal.pairs-init
pairs-init c = record {
  fewer = omega arith;
  kept = extends_same c.args.bank.now;
  left = start_known (length c.args.bank.now.terms) c.args.level c.args.lefts.now c.args.rights.now c.push_pairs.new.left.items
      (c.in_ok-push_pairs.ensures ∙ ap (λ l. l ++ reverse (pairs_of c.args.level c.args.lefts.now c.args.rights.now)) c.new-left.ensures.items)
      c.requires.lefts c.requires.rights;
  rest = λ r i n. are_start c.args.bank.now r c.args.units.now n c.args.level c.args.lefts.now c.args.rights.now c.push_pairs.new.left.items (c.in_ok-push_pairs.ensures ∙ ap (λ l. l ++ reverse (pairs_of c.args.level c.args.lefts.now c.args.rights.now)) c.new-left.ensures.items);
}

pub returns-in_default-clause-compared : goal.returns-in_default-clause-compared
returns-in_default-clause-compared c = λ r i n.
    are_done c.pairs.bank r c.args.units.now c.pairs.units n (compare_all n c.args.level (map (under c.args.bank.now r) c.args.lefts.now) (map (under c.args.bank.now r) c.args.rights.now)) c.pairs.left.items
    (nothing c.pairs.left.items (omega (arith, c.in_default.ensures.cases.0, c.pairs.left.ok))) (c.pairs.invariant.rest r i n)

pub compare-requires-clause-pair : goal.compare-requires-clause-pair
compare-requires-clause-pair c = (All_popped (IsPairOf (length c.pairs.bank.terms)) c.pairs.left.items c.pop.new.self.items c.in-Some.pair c.in-Some.ensures.items c.pairs.invariant.left).1

pub compare-requires-clause-left : goal.compare-requires-clause-left
compare-requires-clause-left c = (All_popped (IsPairOf (length c.pairs.bank.terms)) c.pairs.left.items c.pop.new.self.items c.in-Some.pair c.in-Some.ensures.items c.pairs.invariant.left).0

pub returns-in_err-is_same-clause-refused : goal.returns-in_err-is_same-clause-refused
returns-in_err-is_same-clause-refused c =
    passed_up c.from_residual-in_err-is_same.result c.in_err-is_same.field-0.0
    (λ e. (r : Closing) → IsReading c.args.bank.now c.args.bindings.now r → (n : ℕ) → n ≤ 1000000 →
    IsPassed e c.args.units.now (compare_all n c.args.level (map (under c.args.bank.now r) c.args.lefts.now) (map (under c.args.bank.now r) c.args.rights.now)))
    c.from_residual-in_err-is_same.ensures.1
    (λ r i n l.
    refused_at c.pairs.bank r c.args.units.now c.pairs.units n (compare_all n c.args.level (map (under c.args.bank.now r) c.args.lefts.now) (map (under c.args.bank.now r) c.args.rights.now)) c.pairs.left.items
    c.pop.new.self.items c.in-Some.pair c.in_err-is_same.field-0.0 c.in-Some.ensures.items (c.pairs.invariant.rest r i n)
    (c.in_err-is_same.ensures.refused r (reading_kept c.args.bank.now c.pairs.bank c.args.bindings.now r c.pairs.invariant.kept i) n l))

pub returns-then-not-is_same-clause-compared : goal.returns-then-not-is_same-clause-compared
returns-then-not-is_same-clause-compared c = λ r i n.
    are_apart_at c.pairs.bank r c.args.units.now c.pairs.units c.compare.new.units n
    (compare_all n c.args.level (map (under c.args.bank.now r) c.args.lefts.now) (map (under c.args.bank.now r) c.args.rights.now)) _ c.pairs.left.items c.pop.new.self.items c.in-Some.pair c.in_ok-is_same.is_same
    c.in-Some.ensures.items c.if-not-is_same.true (c.pairs.invariant.rest r i n)
    (c.in_ok-is_same.ensures.compared r (reading_kept c.args.bank.now c.pairs.bank c.args.bindings.now r c.pairs.invariant.kept i) n)

pub pairs-preserved : goal.pairs-preserved
pairs-preserved c = record {
  fewer = omega (arith, c.pairs.invariant.fewer, c.in_ok-is_same.ensures.fewer);
  kept = extends-trans c.args.bank.now c.pairs.bank c.compare.new.bank c.pairs.invariant.kept c.in_ok-is_same.ensures.kept;
  left = c.in_ok-is_same.ensures.left;
  rest = λ r i n.
      are_next c.pairs.bank c.compare.new.bank r c.args.units.now c.pairs.units c.compare.new.units n
      (compare_all n c.args.level (map (under c.args.bank.now r) c.args.lefts.now) (map (under c.args.bank.now r) c.args.rights.now)) c.pairs.left.items c.pop.new.self.items c.compare.new.left.items c.in-Some.pair
      c.in_ok-is_same.is_same c.in-Some.ensures.items c.if-not-is_same.false (c.pairs.invariant.rest r i n)
      (c.in_ok-is_same.ensures.compared r (reading_kept c.args.bank.now c.pairs.bank c.args.bindings.now r c.pairs.invariant.kept i) n);
}

pub pairs-smaller : goal.pairs-smaller
pairs-smaller c = pair_falls _ _ _ c.pop.new.self.items c.pairs.left.items c.in-Some.pair c.in-Some.ensures.items c.in_ok-is_same.ensures.falls

pub returns-in_default-clause-fewer : goal.returns-in_default-clause-fewer
returns-in_default-clause-fewer c = c.pairs.invariant.fewer

pub returns-then-not-is_same-clause-fewer : goal.returns-then-not-is_same-clause-fewer
returns-then-not-is_same-clause-fewer c = omega (arith, c.pairs.invariant.fewer, c.in_ok-is_same.ensures.fewer)
