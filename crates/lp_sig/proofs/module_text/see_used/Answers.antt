use Rattle.lp_sig.specs.Abbreviations.{KnowsUses}
use Rattle.lp_sig.specs.SeenByModules.{seen_signatures}
use Rattle.lp_sig.proofs.SeenUses.{none_used, one_used}
use Rattle.lp_sig.specs.inner.Given.{GivesBodies, GivesMore}
use Rattle.lp_sig.specs.Sights.{AreAlike}
use Rattle.lp_sig.specs.AsWritten.{bodies_of, HasWholeBodies}
use Rattle.std.proofs.Common.{◌++◌, ◌∙◌, ◌+◌, [], ◌∷◌, length, map, refl, sym, ap, subst, take, take_all, append-nil, arith, inl, ◌≡◌}
use Rattle.std.proofs.lemmas.List.{length-append}
use Rattle.lp_sig.specs.Knowing.{Knows}
use Rattle.lp_sig.specs.Modules.{of_each, said_of, constants_of}
use Rattle.lp_sig.specs.Named.{IsOrdered}
use Rattle.lp_sig.specs.Sighted.{SeenSo}
use Rattle.lp_sig.specs.Worded.{HasWords}
use Rattle.lp_sig.proofs.KnownConstants.{making_same, making_then}
use Rattle.lp_sig.proofs.Sayings.{signatures_more}
use Rattle.lp_sig.specs.inner.Telling.{KnowsBefore, AreTold}
use Rattle.lp_sig.proofs.Told.{told_more, used_more}
use Rattle.lp_sig.proofs.Sights.{at_is, last_alike, seen_so_far}
use Rattle.lp_sig.proofs.module_text.see_used.Goals as goal

pub loop-at-init : goal.loop-at-init
loop-at-init c = record {
  names = λ said k. subst (Knows c.args.making.now.names) (sym (append-nil said)) k;
  words = λ words h. subst (HasWords c.args.making.now.constants) (sym (append-nil words)) h;
  operators = refl;
  uses = λ z k u. none_used (map (λ out. out.items) c.args.making.now.uses.ways.items) z u;
  grown = making_same c.args.making.now;
  count = ap length c.new-sights.ensures.items;
  low = omega arith;
  counted = λ said words k h all ordered alike. all;
  seen = λ said words k h all ordered n low alike i below. absurd (omega (arith, low, below));
  given = λ ordered whole alike said rows k g. subst (λ s. GivesBodies c.args.making.now.bodies.types.bank c.args.making.now.bodies.bodies.items s (rows ++ [])) (sym (append-nil said))
      (subst (GivesBodies c.args.making.now.bodies.types.bank c.args.making.now.bodies.bodies.items said) (sym (append-nil rows)) g);
  before = λ before k. subst (KnowsBefore c.args.making.now) (sym (append-nil before)) k;
  told = λ before k. subst (AreTold before c.args.used.now) (sym c.new-sights.ensures.items) (λ i s e. absurd (cc));
}

pub loop-at-preserved : goal.loop-at-preserved
loop-at-preserved c = record {
  names = λ said k.
      subst (Knows c.see.new.self.names) (signatures_more said_of c.args.used.now c.loop-at.at c.index-used-at.result said c.loop-at-test.true c.index-used-at.is)
      (c.in_ok-sight.ensures.names (said ++ of_each said_of (take c.loop-at.at c.args.used.now)) (c.loop-at.invariant.names said k));
  words = λ words h.
      subst (HasWords c.see.new.self.constants) (signatures_more constants_of c.args.used.now c.loop-at.at c.index-used-at.result words c.loop-at-test.true c.index-used-at.is)
      (c.in_ok-sight.ensures.words (words ++ of_each constants_of (take c.loop-at.at c.args.used.now)) (c.loop-at.invariant.words words h));
  operators = c.see.ensures.operators ∙ c.loop-at.invariant.operators;
  uses = λ z k u.
      let before = seen_signatures z (take c.loop-at.at c.args.used.now) in
      one_used (map (λ out. out.items) c.see.new.self.uses.ways.items) z c.args.used.now c.loop-at.at c.index-used-at.result c.loop-at-test.true c.index-used-at.is
      (c.in_ok-sight.ensures.uses before (c.loop-at.invariant.names z.said k) (c.loop-at.invariant.uses z k u));
  grown = making_then c.args.making.now c.loop-at.making c.see.new.self c.loop-at.invariant.grown (record { bank = c.see.ensures.kept; constants = c.in_ok-sight.ensures.grown });
  count = ap length c.in_ok-push.ensures.items ∙ length-append c.loop-at.sights.items (c.in_ok-sight.sight ∷ []) ∙ ap (λ n. n + 1) c.loop-at.invariant.count;
  low = (let l = c.loop-at-test.true in omega (arith, l));
  counted = λ said words k h all ordered alike.
      let y = last_alike c.loop-at.sights.items c.push.new.self.items c.in_ok-sight.sight c.loop-at.at c.in_ok-push.ensures.items c.loop-at.invariant.count alike in
      (c.in_ok-sight.ensures.seen (said ++ of_each said_of (take c.loop-at.at c.args.used.now))
      (words ++ of_each constants_of (take c.loop-at.at c.args.used.now)) (c.loop-at.invariant.names said k) (c.loop-at.invariant.words words h)
      (c.loop-at.invariant.counted said words k h all ordered y.0) (at_is IsOrdered c.args.used.now c.loop-at.at c.index-used-at.result
      c.loop-at-test.true c.index-used-at.is ordered) (inl y.1)).0;
  seen = λ said words k h all ordered n low alike i below u found.
      let before = said ++ of_each said_of (take c.loop-at.at c.args.used.now) in
      subst (λ r. SeenSo c.see.new.self r u) (signatures_more said_of c.args.used.now c.loop-at.at c.index-used-at.result said c.loop-at-test.true c.index-used-at.is)
      (seen_so_far c.loop-at.making c.see.new.self said c.args.used.now c.loop-at.at c.index-used-at.result c.loop-at.sights.items
      c.push.new.self.items c.in_ok-sight.sight c.loop-at-test.true c.index-used-at.is c.in_ok-push.ensures.items c.loop-at.invariant.count
      (record { bank = c.see.ensures.kept; constants = c.in_ok-sight.ensures.grown }) ordered
      (λ n. c.loop-at.invariant.seen said words k h all ordered n)
      (λ alike s. (c.in_ok-sight.ensures.seen before (words ++ of_each constants_of (take c.loop-at.at c.args.used.now)) (c.loop-at.invariant.names said k) (c.loop-at.invariant.words words h)
      (c.loop-at.invariant.counted said words k h all ordered alike) (at_is IsOrdered c.args.used.now c.loop-at.at c.index-used-at.result
      c.loop-at-test.true c.index-used-at.is ordered) (inl s)).1)
      n low alike i below u found);
  given = λ ordered whole alike said rows k g.
      let at = c.loop-at.at in
      let used = c.args.used.now in
      let u = c.index-used-at.result in
      let new = c.see.new.self.bodies in
      let y = last_alike c.loop-at.sights.items c.push.new.self.items c.in_ok-sight.sight at c.in_ok-push.ensures.items c.loop-at.invariant.count alike in
      subst (λ s. GivesBodies new.types.bank new.bodies.items s (rows ++ of_each bodies_of (take (at + 1) used))) (signatures_more said_of used at u said c.loop-at-test.true c.index-used-at.is)
      (subst (GivesBodies new.types.bank new.bodies.items ((said ++ of_each said_of (take at used)) ++ said_of u)) (signatures_more bodies_of used at u rows c.loop-at-test.true c.index-used-at.is)
      (c.in_ok-sight.ensures.given (said ++ of_each said_of (take at used)) (rows ++ of_each bodies_of (take at used)) (c.loop-at.invariant.names said k)
      (c.loop-at.invariant.given ordered whole y.0 said rows k g) (at_is IsOrdered used at u c.loop-at-test.true c.index-used-at.is ordered)
      (at_is HasWholeBodies used at u c.loop-at-test.true c.index-used-at.is whole) (inl y.1)));
  before = λ before k.
      let at = c.loop-at.at in
      let used = c.args.used.now in
      let u = c.index-used-at.result in
      subst (KnowsBefore c.see.new.self) (used_more before used c.loop-at.sights.items c.push.new.self.items c.in_ok-sight.sight at u c.loop-at-test.true c.index-used-at.is c.in_ok-push.ensures.items c.loop-at.invariant.count)
      (c.in_ok-sight.ensures.stays (before ++ take at used) (c.loop-at.invariant.before before k));
  told = λ before k.
      let at = c.loop-at.at in
      let used = c.args.used.now in
      let u = c.index-used-at.result in
      told_more before used c.loop-at.sights.items c.push.new.self.items c.in_ok-sight.sight at u c.loop-at-test.true c.index-used-at.is c.in_ok-push.ensures.items c.loop-at.invariant.count
      (c.loop-at.invariant.told before k) (c.in_ok-sight.ensures.told (before ++ take at used) (c.loop-at.invariant.before before k));
}

pub returns-clause-names : goal.returns-clause-names
returns-clause-names c = λ said k. subst (λ ss. Knows c.loop-at.making.names (said ++ of_each said_of ss))
    (take_all c.loop-at.at c.args.used.now c.loop-at-test.false) (c.loop-at.invariant.names said k)

pub returns-clause-uses : goal.returns-clause-uses
returns-clause-uses c = λ z k u. subst (λ ss. KnowsUses (map (λ out. out.items) c.loop-at.making.uses.ways.items) (seen_signatures z ss))
    (take_all c.loop-at.at c.args.used.now c.loop-at-test.false) (c.loop-at.invariant.uses z k u)

pub returns-clause-words : goal.returns-clause-words
returns-clause-words c = λ words h. subst (λ ss. HasWords c.loop-at.making.constants (words ++ of_each constants_of ss))
    (take_all c.loop-at.at c.args.used.now c.loop-at-test.false) (c.loop-at.invariant.words words h)

pub returns-clause-grown : goal.returns-clause-grown
returns-clause-grown c = c.loop-at.invariant.grown

pub returns-clause-seen : goal.returns-clause-seen
returns-clause-seen c = λ said words k h all ordered n low alike i below u found.
    subst (λ ss. SeenSo c.loop-at.making (said ++ of_each said_of ss) u) (take_all c.loop-at.at c.args.used.now c.loop-at-test.false)
    (c.loop-at.invariant.seen said words k h all ordered n (let e = c.loop-at-test.false in omega (arith, low, e)) alike i below u found)

pub returns-clause-counted : goal.returns-clause-counted
returns-clause-counted c = λ said words k h all ordered alike.
    c.loop-at.invariant.counted said words k h all ordered (subst (AreAlike c.loop-at.sights.items) (let e = c.loop-at-test.false in let l = c.loop-at.invariant.low in let same : length c.args.used.now ≡ c.loop-at.at = omega (arith, e, l) in same) alike)

pub returns-clause-given : goal.returns-clause-given
returns-clause-given c = λ ordered whole alike.
    subst (λ ss. GivesMore c.args.making.now c.loop-at.making (of_each said_of ss) (of_each bodies_of ss)) (take_all c.loop-at.at c.args.used.now c.loop-at-test.false)
    (c.loop-at.invariant.given ordered whole (subst (AreAlike c.loop-at.sights.items) (let e = c.loop-at-test.false in let l = c.loop-at.invariant.low in let same : length c.args.used.now ≡ c.loop-at.at = omega (arith, e, l) in same) alike))

pub returns-clause-told : goal.returns-clause-told
returns-clause-told c = c.loop-at.invariant.told

pub returns-clause-stays : goal.returns-clause-stays
returns-clause-stays c = λ before k. subst (λ ss. KnowsBefore c.loop-at.making (before ++ ss)) (take_all c.loop-at.at c.args.used.now c.loop-at-test.false) (c.loop-at.invariant.before before k)
