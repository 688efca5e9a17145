use Rattle.std.proofs.Common.{◌∷◌, [], ◌+◌, ◌∙◌, length, sym, ap, subst, arith}
use Rattle.std.proofs.lemmas.List.{length-append}
use Rattle.lp_term.proofs.Trees.{extends_same, extends-trans}
use Rattle.lp_sig.specs.Sighted.{AreSeenTypes}
use Rattle.lp_sig.proofs.Sighting.{seen_later, seen_push}
use Rattle.lp_sig.specs.inner.Telling.{AreTypesHere}
use Rattle.lp_sig.proofs.TypesHere.{types_push, types_in_bank}
use Rattle.lp_sig.proofs.store.Types.see_types.Goals as goal

pub loop-number-init : goal.loop-number-init
loop-number-init c = record {
  kept = extends_same c.args.self.now.bank;
  count = ap length c.new-made.ensures.items;
  seen = λ names here all. subst
      (AreSeenTypes c.args.bank.now c.args.self.now.bank names here) (sym c.new-made.ensures.items) (λ i t e. absurd (cc));
  told = λ said names all. subst (AreTypesHere c.args.bank.now c.args.self.now.bank names said) (sym c.new-made.ensures.items) (λ i t e. absurd (cc));
}

pub loop-number-preserved : goal.loop-number-preserved
loop-number-preserved c = record {
  kept = extends-trans c.args.self.now.bank c.loop-number.self.bank c.see_type.new.self.bank c.loop-number.invariant.kept c.see_type.ensures.kept;
  count = ap length c.in_ok-push.ensures.items ∙ length-append c.loop-number.made.items (c.in_ok-here.here ∷ []) ∙ ap (λ n. n + 1) c.loop-number.invariant.count;
  seen = λ names here all.
      let before = c.loop-number.invariant.seen names here all in
      let there = c.args.bank.now in
      let now = c.see_type.new.self.bank in
      seen_push there now names here c.loop-number.made.items c.push.new.self.items c.loop-number.number c.in_ok-here.here c.in_ok-push.ensures.items c.loop-number.invariant.count
      (c.in_ok-here.ensures.seen names here all (subst (AreSeenTypes there c.loop-number.self.bank names here) (sym c.as_slice.ensures.value) before))
      (seen_later there c.loop-number.self.bank now names here c.loop-number.made.items c.see_type.ensures.kept before);
  told = λ said names all.
      let before = c.loop-number.invariant.told said names all in
      let there = c.args.bank.now in
      let now = c.see_type.new.self.bank in
      types_push there now names said c.loop-number.made.items c.push.new.self.items c.loop-number.number c.in_ok-here.here c.in_ok-push.ensures.items c.loop-number.invariant.count
      (c.in_ok-here.ensures.told said names all (subst (AreTypesHere there c.loop-number.self.bank names said) (sym c.as_slice.ensures.value) before))
      (types_in_bank there c.loop-number.self.bank now names said c.loop-number.made.items c.see_type.ensures.kept before);
}

pub returns-clause-kept : goal.returns-clause-kept
returns-clause-kept c = c.loop-number.invariant.kept

pub returns-clause-seen : goal.returns-clause-seen
returns-clause-seen c = c.loop-number.invariant.seen

pub returns-clause-count : goal.returns-clause-count
returns-clause-count c = let n = c.loop-number.invariant.count in omega (arith, n, c.loop-number-test.false, c.loop-number.auto.number-end, c.type_count-number-end.ensures.count)

pub returns-clause-told : goal.returns-clause-told
returns-clause-told c = c.loop-number.invariant.told
