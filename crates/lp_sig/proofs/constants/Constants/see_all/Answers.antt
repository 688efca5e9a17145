use Rattle.lp_sig.specs.Named.{named_in}
use Rattle.lp_sig.specs.Said.{names_in}
use Rattle.lp_sig.specs.GoingTogether.{named_constant, IsSameConstant}
use Rattle.lp_sig.specs.inner.Telling.{AreTypedHere, EachKind, FitsHere, ConstantsTell}
use Rattle.lp_sig.proofs.Sights.{at_is}
use Rattle.lp_sig.proofs.ToldConstants.{more_rows, can_see_next, constants_told, no_constants_told}
use Rattle.std.proofs.Common.{◌++◌, sym, subst, map, take, take_all, append-nil}
use Rattle.std.specs.Prelude.{All}
use Rattle.std.proofs.lemmas.List.Elements.{All-nil}
use Rattle.lp_term.proofs.Trees.{extends_same, extends-trans}
use Rattle.lp_sig.specs.Sighted.{IsSeenEntry, IsCountedEntry}
use Rattle.lp_sig.specs.Worded.{HasWords}
use Rattle.lp_sig.proofs.KnownConstants.{grows_same, grows_then, counted_entry_later, one_seen}
use Rattle.lp_sig.proofs.Worded.{mapped_at}
use Rattle.lp_sig.proofs.constants.Constants.see_all.Goals as goal

pub loop-at-init : goal.loop-at-init
loop-at-init c = (
  (λ words h. subst (HasWords c.args.self.now) (sym (append-nil words)) h),
  extends_same c.args.types.now.bank,
  grows_same c.args.self.now,
  (λ words h all counted. (all, λ premise. All-nil (IsSeenEntry c.args.types.now.bank c.args.self.now c.args.made.now))),
  (λ u said rows can. subst (AreTypedHere c.args.types.now.bank c.args.self.now said) (sym (append-nil rows)) can.typed),
  (λ u said rows can fits. no_constants_told u (names_in rows) (rows ++ map (named_constant u) c.args.entries.now) (All-nil (IsSameConstant (rows ++ map (named_constant u) c.args.entries.now) u))),
)

pub loop-at-preserved : goal.loop-at-preserved
loop-at-preserved c =
    let es = c.args.entries.now in
    let before = take c.loop-at.at es in
    let i = c.loop-at.invariant in (
      (λ words h.
          subst (HasWords c.see.new.self) (mapped_at (λ e. e.name.items) es c.loop-at.at c.index-entries-at.result words c.loop-at-test.true c.index-entries-at.is)
          (c.in_ok-sight.ensures.words (words ++ map (λ e. e.name.items) before) (i.0 words h))),
      extends-trans c.args.types.now.bank c.loop-at.types.bank c.see.new.types.bank i.1 c.see.ensures.kept,
      grows_then c.args.self.now c.loop-at.self c.see.new.self i.2 c.in_ok-sight.ensures.grown,
      (λ words h all counted.
          let now = i.3 words h all counted in
          let e = c.index-entries-at.result in
          let here = counted_entry_later c.args.types.now.bank c.loop-at.types.bank c.args.made.now e i.1
          (subst (IsCountedEntry c.args.types.now.bank c.args.made.now) (sym c.index-entries-at.is) (counted c.loop-at.at e c.loop-at-test.true))
          in
          let step = c.in_ok-sight.ensures.seen (words ++ map (λ e. e.name.items) before) (i.0 words h) now.0 here in (
            step.0,
            one_seen c.args.types.now.bank c.loop-at.types.bank c.see.new.types.bank c.loop-at.self c.see.new.self c.args.made.now es
                c.loop-at.at e c.loop-at.all c.and-all.result c.in_ok-sight.sight words c.loop-at-test.true c.index-entries-at.is i.1 c.see.ensures.kept
                c.in_ok-sight.ensures.grown c.and-all.ensures.alike counted now.1 step.1,
          )),
      (λ u said rows can.
          let e = c.index-entries-at.result in
          subst (AreTypedHere c.see.new.types.bank c.see.new.self said) (more_rows u rows es c.loop-at.at e c.loop-at-test.true c.index-entries-at.is)
          (c.in_ok-sight.ensures.here said (rows ++ map (named_constant u) before) (named_in u e.scheme)
          (can_see_next c.args.types.now.bank c.loop-at.types.bank c.args.self.now c.loop-at.self u said rows c.args.made.now es c.loop-at.at e c.loop-at-test.true c.index-entries-at.is i.1
          can (i.0 (names_in rows) can.met) (i.4 u said rows can)))),
      (λ u said rows can fits.
          let e = c.index-entries-at.result in
          constants_told u rows es c.loop-at.at e c.loop-at-test.true c.index-entries-at.is c.loop-at.all c.in_ok-sight.sight c.and-all.result c.and-all.ensures.first
          (c.in_ok-sight.ensures.told said (rows ++ map (named_constant u) before) (named_in u e.scheme)
          (can_see_next c.args.types.now.bank c.loop-at.types.bank c.args.self.now c.loop-at.self u said rows c.args.made.now es c.loop-at.at e c.loop-at-test.true c.index-entries-at.is i.1
          can (i.0 (names_in rows) can.met) (i.4 u said rows can)) (at_is (λ e. EachKind (FitsHere said) (named_in u e.scheme)) es c.loop-at.at e c.loop-at-test.true c.index-entries-at.is fits))
          (i.5 u said rows can fits)),
    )

pub returns-clause-words : goal.returns-clause-words
returns-clause-words c = λ words h. subst (λ es. HasWords c.loop-at.self (words ++ map (λ e. e.name.items) es))
    (take_all c.loop-at.at c.args.entries.now c.loop-at-test.false) (c.loop-at.invariant.0 words h)

pub returns-clause-kept : goal.returns-clause-kept
returns-clause-kept c = c.loop-at.invariant.1

pub returns-clause-grown : goal.returns-clause-grown
returns-clause-grown c = c.loop-at.invariant.2

pub returns-clause-seen : goal.returns-clause-seen
returns-clause-seen c = λ words h all counted.
    let now = c.loop-at.invariant.3 words h all counted in
    (now.0, λ premise. subst (All (IsSeenEntry c.loop-at.types.bank c.loop-at.self c.args.made.now)) (take_all c.loop-at.at c.args.entries.now c.loop-at-test.false) (now.1 premise))

pub returns-clause-here : goal.returns-clause-here
returns-clause-here c = λ u said rows can. subst (λ es. AreTypedHere c.loop-at.types.bank c.loop-at.self said (rows ++ map (named_constant u) es))
    (take_all c.loop-at.at c.args.entries.now c.loop-at-test.false) (c.loop-at.invariant.4 u said rows can)

pub returns-clause-told : goal.returns-clause-told
returns-clause-told c = λ u said rows can fits. subst (λ es. ConstantsTell (names_in rows) (rows ++ map (named_constant u) c.args.entries.now) u es c.loop-at.all)
    (take_all c.loop-at.at c.args.entries.now c.loop-at-test.false) (c.loop-at.invariant.5 u said rows can fits)
