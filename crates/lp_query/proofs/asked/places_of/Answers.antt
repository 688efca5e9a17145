use Rattle.std.proofs.Common.{◌<◌, length, ap, is_ok, Some, sym, ◌∙◌, arith}
use Rattle.std.proofs.ResultArms.{chosen}
use Rattle.lp_lemmas.proofs.Lists.{length_push_suc}
use Rattle.lp_query.proofs.Names.{bytes, read_at, found_more, found_before, found_all, all_pushed}
use Rattle.lp_query.proofs.asked.places_of.Goals as goal

pub returns-clause-count : goal.returns-clause-count
returns-clause-count c = let i = c.shown.invariant.0 in let a = c.shown-test.false in let b = c.shown.auto.at-end in omega (arith, i, a, b)

pub returns-clause-within : goal.returns-clause-within
returns-clause-within c = c.shown.invariant.1.0

pub shown-preserved : goal.shown-preserved
shown-preserved c =
    let push = chosen _ _ _ _ c.push.ensures.items (ap is_ok c.in_ok-push-in-Some.was) in
    let n = ap length push ∙ length_push_suc c.shown.places.items c.in-Some.place in
    let i = c.shown.invariant.0 in (
      omega (arith, n, i),
      (
        all_pushed (λ p. p < length c.args.names.now) _ _ c.in-Some.place push c.shown.invariant.1.0 c.in-Some.ensures.there,
        found_more _ c.args.shown.now c.shown.at c.index-shown-at.result _ c.in-Some.place c.shown-test.true (c.as_slice.ensures.value ∙ ap bytes c.index-shown-at.is) c.in-Some.ensures.found c.shown.invariant.1.1,
      ),
    )

pub returns-in-None-clause-refused : goal.returns-in-None-clause-refused
returns-in-None-clause-refused c = record {
  place = c.shown.at;
  number_is = c.min.ensures;
  name = c.as_slice.result.now;
  there = read_at c.args.shown.now c.shown.at c.index-shown-at.result c.shown-test.true ∙ ap Some (sym (c.as_slice.ensures.value ∙ ap bytes c.index-shown-at.is));
  missing = c.place_of.ensures.none c.in-None.is;
  before = found_before _ c.args.shown.now c.shown.at c.shown.invariant.1.1;
}

pub returns-clause-there : goal.returns-clause-there
returns-clause-there c = found_all _ c.args.shown.now c.shown.at c.shown-test.false c.shown.invariant.1.1
