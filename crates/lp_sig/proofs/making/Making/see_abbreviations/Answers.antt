use Rattle.lp_sig.specs.Abbreviations.{KnowsUses}
use Rattle.lp_sig.specs.inner.Noting.{with_unused}
use Rattle.lp_sig.proofs.SeenUses.{none_unused, one_unused}
use Rattle.std.proofs.lemmas.List.Elements.{All-nil}
use Rattle.lp_sig.specs.Named.{named_in}
use Rattle.lp_sig.specs.AsWritten.{named_body}
use Rattle.lp_sig.specs.GoingTogether.{IsSameAbbreviation}
use Rattle.lp_sig.specs.inner.Telling.{AreBodiesHere, AbbreviationsTell, EachKind, FitsHere}
use Rattle.lp_sig.proofs.ToldBodies.{made_next, abbreviations_told}
use Rattle.lp_sig.proofs.TypesHere.{each_weaker, fits_later}
use Rattle.lp_sig.specs.Rows.{Row}
use Rattle.lp_sig.specs.declared.entries.AbbreviationEntry.{AbbreviationEntry}
use Rattle.lp_sig.proofs.Sights.{at_is}
use Rattle.lp_sig.proofs.GivenBodies.{kinds_unchanged}
use Rattle.lp_sig.specs.inner.Given.{GivesBodies}
use Rattle.lp_sig.specs.Sighted.{said_kinds, AreSeenTypes}
use Rattle.lp_sig.specs.Named.{named, kind_name, IsWhole, NamedTy}
use Rattle.lp_term.specs.Nodes.{type_tree}
use Rattle.std.proofs.Common.{◌++◌, ◌∙◌, refl, sym, subst, map, take, take_all, append-nil, ◌+◌, [], ◌∷◌}
use Rattle.lp_sig.specs.Knowing.{Knows}
use Rattle.lp_sig.specs.Modules.{abbreviation_said}
use Rattle.lp_sig.proofs.Worded.{mapped_at}
use Rattle.lp_sig.proofs.making.Making.see_abbreviations.Goals as goal

pub loop-at-init : goal.loop-at-init
loop-at-init c = record {
  names = λ said k. subst (Knows c.args.self.now.names) (sym (append-nil said)) k;
  constants = refl;
  uses = λ z k u. none_unused (map (λ out. out.items) c.args.self.now.uses.ways.items) z u;
  types = refl;
  operators = refl;
  given = λ there names said rows k g seen whole.
      subst (λ s. GivesBodies c.args.self.now.bodies.types.bank c.args.self.now.bodies.bodies.items s (rows ++ [])) (sym (append-nil said)) (subst (GivesBodies c.args.self.now.bodies.types.bank c.args.self.now.bodies.bodies.items said) (sym (append-nil rows)) g);
  here = λ u said rows k can.
      subst (λ s. AreBodiesHere c.args.self.now.bodies.types.bank c.args.self.now.bodies.bodies.items s (rows ++ [])) (sym (append-nil said)) (subst (AreBodiesHere c.args.self.now.bodies.types.bank c.args.self.now.bodies.bodies.items said) (sym (append-nil rows)) can.given);
  told = λ u said rows k can fits. All-nil (IsSameAbbreviation (said ++ map abbreviation_said c.args.entries.now) (rows ++ map (named_body u) c.args.entries.now) u);
}

pub loop-at-preserved : goal.loop-at-preserved
loop-at-preserved c = record {
  names = λ said k.
      subst (Knows c.see_abbreviation.new.self.names) (mapped_at abbreviation_said c.args.entries.now c.loop-at.at c.index-entries-at.result said c.loop-at-test.true c.index-entries-at.is)
      (c.in_ok-sight.ensures.names (said ++ map abbreviation_said (take c.loop-at.at c.args.entries.now)) (c.loop-at.invariant.names said k));
  constants = c.see_abbreviation.ensures.constants ∙ c.loop-at.invariant.constants;
  uses = λ z k u.
      let before = with_unused z (take c.loop-at.at c.args.entries.now) in
      one_unused (map (λ out. out.items) c.see_abbreviation.new.self.uses.ways.items) z c.args.entries.now c.loop-at.at c.index-entries-at.result c.loop-at-test.true c.index-entries-at.is
      (c.in_ok-sight.ensures.uses before (c.loop-at.invariant.names z.said k) (c.loop-at.invariant.uses z k u));
  types = c.see_abbreviation.ensures.types ∙ c.loop-at.invariant.types;
  operators = c.see_abbreviation.ensures.operators ∙ c.loop-at.invariant.operators;
  given = λ there names said rows k g seen whole.
      let es = c.args.entries.now in
      let i = c.loop-at.at in
      let e = c.index-entries-at.result in
      let f : AbbreviationEntry → Row NamedTy = λ e. (e.name.items, named (kind_name names) (type_tree there e.body.0)) in
      let new = c.see_abbreviation.new.self.bodies in
      let before = c.loop-at.invariant.given there names said rows k g seen whole in
      let now : AreSeenTypes there c.loop-at.self.bodies.types.bank names (said_kinds (said ++ map abbreviation_said (take i es))) c.args.made.now =
      subst (λ l. AreSeenTypes there c.loop-at.self.bodies.types.bank names l c.args.made.now) (sym (kinds_unchanged said (take i es)))
      (subst (λ t. AreSeenTypes there t.bank names (said_kinds said) c.args.made.now) (sym c.loop-at.invariant.types) seen) in
      subst (λ s. GivesBodies new.types.bank new.bodies.items s (rows ++ map f (take (i + 1) es))) (mapped_at abbreviation_said es i e said c.loop-at-test.true c.index-entries-at.is)
      (subst (GivesBodies new.types.bank new.bodies.items ((said ++ map abbreviation_said (take i es)) ++ abbreviation_said e ∷ [])) (mapped_at f es i e rows c.loop-at-test.true c.index-entries-at.is)
      (c.in_ok-sight.ensures.given there names (said ++ map abbreviation_said (take i es)) (rows ++ map f (take i es)) (c.loop-at.invariant.names said k) before now
      (at_is (λ e. IsWhole (named (kind_name names) (type_tree there e.body.0))) es i e c.loop-at-test.true c.index-entries-at.is whole)));
  here = λ u said rows k can.
      let es = c.args.entries.now in
      let i = c.loop-at.at in
      let e = c.index-entries-at.result in
      let new = c.see_abbreviation.new.self.bodies in
      let before = said ++ map abbreviation_said (take i es) in
      subst (λ s. AreBodiesHere new.types.bank new.bodies.items s (rows ++ map (named_body u) (take (i + 1) es))) (mapped_at abbreviation_said es i e said c.loop-at-test.true c.index-entries-at.is)
      (subst (AreBodiesHere new.types.bank new.bodies.items (before ++ abbreviation_said e ∷ [])) (mapped_at (named_body u) es i e rows c.loop-at-test.true c.index-entries-at.is)
      (c.in_ok-sight.ensures.here before (rows ++ map (named_body u) (take i es)) (named_in u e.body) (c.loop-at.invariant.names said k) (c.loop-at.invariant.here u said rows k can)
      (made_next c.args.self.now.bodies.types c.loop-at.self.bodies.types c.args.self.now.bodies.bodies.items u said rows c.args.made.now es i e c.loop-at-test.true c.index-entries-at.is (sym c.loop-at.invariant.types) can)));
  told = λ u said rows k can fits.
      let es = c.args.entries.now in
      let i = c.loop-at.at in
      let e = c.index-entries-at.result in
      let before = said ++ map abbreviation_said (take i es) in
      abbreviations_told u said rows es i e c.loop-at-test.true c.index-entries-at.is c.loop-at.all c.in_ok-sight.sight c.and-all.result c.and-all.ensures.first
      (c.in_ok-sight.ensures.told before (rows ++ map (named_body u) (take i es)) (named_in u e.body) (c.loop-at.invariant.names said k) (c.loop-at.invariant.here u said rows k can)
      (made_next c.args.self.now.bodies.types c.loop-at.self.bodies.types c.args.self.now.bodies.bodies.items u said rows c.args.made.now es i e c.loop-at-test.true c.index-entries-at.is (sym c.loop-at.invariant.types) can)
      (each_weaker (FitsHere said) (FitsHere before) (fits_later said (map abbreviation_said (take i es))) (named_in u e.body) (at_is (λ e. EachKind (FitsHere said) (named_in u e.body)) es i e c.loop-at-test.true c.index-entries-at.is fits)))
      (c.loop-at.invariant.told u said rows k can fits);
}

pub returns-clause-names : goal.returns-clause-names
returns-clause-names c = λ said k. subst (λ es. Knows c.loop-at.self.names (said ++ map abbreviation_said es))
    (take_all c.loop-at.at c.args.entries.now c.loop-at-test.false) (c.loop-at.invariant.names said k)

pub returns-clause-uses : goal.returns-clause-uses
returns-clause-uses c = λ z k u. subst (λ es. KnowsUses (map (λ out. out.items) c.loop-at.self.uses.ways.items) (with_unused z es))
    (take_all c.loop-at.at c.args.entries.now c.loop-at-test.false) (c.loop-at.invariant.uses z k u)

pub returns-clause-given : goal.returns-clause-given
returns-clause-given c = λ there names said rows k g seen whole.
    subst (λ es. GivesBodies c.loop-at.self.bodies.types.bank c.loop-at.self.bodies.bodies.items (said ++ map abbreviation_said es) (rows ++ map (λ e. (e.name.items, named (kind_name names) (type_tree there e.body.0))) es))
    (take_all c.loop-at.at c.args.entries.now c.loop-at-test.false) (c.loop-at.invariant.given there names said rows k g seen whole)

pub returns-clause-here : goal.returns-clause-here
returns-clause-here c = λ u said rows k can.
    subst (λ es. AreBodiesHere c.loop-at.self.bodies.types.bank c.loop-at.self.bodies.bodies.items (said ++ map abbreviation_said es) (rows ++ map (named_body u) es))
    (take_all c.loop-at.at c.args.entries.now c.loop-at-test.false) (c.loop-at.invariant.here u said rows k can)

pub returns-clause-told : goal.returns-clause-told
returns-clause-told c = λ u said rows k can fits.
    subst (λ es. AbbreviationsTell (said ++ map abbreviation_said c.args.entries.now) (rows ++ map (named_body u) c.args.entries.now) u es c.loop-at.all)
    (take_all c.loop-at.at c.args.entries.now c.loop-at-test.false) (c.loop-at.invariant.told u said rows k can fits)
