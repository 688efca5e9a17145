use Rattle.std.proofs.Common.{◌≤◌, ◌<◌, length, take, refl, subst, arith, inl}
use Rattle.std.proofs.lemmas.Grind.{common_steps}
use Rattle.std.proofs.lemmas.List.{take_all, take_more}
use Rattle.lp_lemmas.proofs.Elements.{All_empty}
use Rattle.lp_lemmas.proofs.Results.{passed_up}
use Rattle.lp_term.proofs.Trees.{extends_same, extends-trans}
use Rattle.lp_model.specs.Readings.{formula_of}
use Rattle.lp_normal.specs.Counted.{HasFewClauses, IsOver}
use Rattle.lp_normal.specs.declared.fault.NormalRefusal.TheVariants as normal
use Rattle.lp_build.specs.Uncoded.{HasManyIn, HaveFewIn}
use Rattle.lp_build.specs.inner.Coded.{AreFlat}
use Rattle.lp_build.proofs.Coding.{flat_none, flat_more}
use Rattle.lp_build.proofs.Uncoding.{few_more, over_later}
use Rattle.lp_build.proofs.objects.flattened.Goals as goal

pub loop-formula-init : goal.loop-formula-init
loop-formula-init c = record {
  kept = extends_same c.args.bank.now;
  flat = λ within. flat_none c.args.bank.now _ _ refl c.new-clauses.ensures.items;
  few = λ within. All_empty (λ f. HasFewClauses (formula_of c.args.bank.now f)) _ refl;
}

pub loop-formula-preserved : goal.loop-formula-preserved
loop-formula-preserved c =
    let i = c.loop-formula.formula-index in
    let fs = c.args.formulas.now in
    let l : i < length fs = grind (arith, common_steps) in
    record {
      kept = extends-trans _ _ _ c.loop-formula.invariant.kept c.in_ok-more.ensures.kept;
      flat = λ within. flat_more c.args.bank.now c.loop-formula.bank c.normalise.new.bank (take i fs) _ _ c.loop-formula.clauses.items c.in_ok-more.more.items c.append.new.self.items
          (take_more fs i _ l) c.in_ok-append.ensures.items (within i _ l) c.loop-formula.invariant.kept c.in_ok-more.ensures.kept
          c.in_ok-more.ensures.flattened (c.loop-formula.invariant.flat within);
      few = λ within. few_more c.args.bank.now c.loop-formula.bank fs i _ l c.loop-formula.invariant.kept within c.in_ok-more.ensures.few (c.loop-formula.invariant.few within);
    }

pub returns-clause-flat : goal.returns-clause-flat
returns-clause-flat c = λ within.
    let u : length c.args.formulas.now ≤ c.loop-formula.formula-index = grind (arith, common_steps) in
    subst (λ l. AreFlat c.args.bank.now c.loop-formula.bank l c.loop-formula.clauses.items) (take_all c.loop-formula.formula-index c.args.formulas.now u) (c.loop-formula.invariant.flat within)

pub returns-clause-few : goal.returns-clause-few
returns-clause-few c = λ within.
    let u : length c.args.formulas.now ≤ c.loop-formula.formula-index = grind (arith, common_steps) in
    subst (HaveFewIn c.args.bank.now) (take_all c.loop-formula.formula-index c.args.formulas.now u) (c.loop-formula.invariant.few within)

pub returns-in_err-more-clause-limit : goal.returns-in_err-more-clause-limit
returns-in_err-more-clause-limit c = λ within.
    let i = c.loop-formula.formula-index in
    let fs = c.args.formulas.now in
    let l : i < length fs = grind (arith, common_steps) in
    passed_up c.from_residual.result c.in_err-more.field-0.0 (IsOver (HasManyIn c.args.bank.now fs)) c.from_residual.ensures.1
    (over_later c.args.bank.now c.loop-formula.bank fs i _ _ l c.loop-formula.invariant.kept within c.in_err-more.ensures.limit)

pub returns-in_err-append-clause-limit : goal.returns-in_err-append-clause-limit
returns-in_err-append-clause-limit c = λ within. passed_up c.from_residual-in_err-append.result normal.Memory (IsOver (HasManyIn c.args.bank.now c.args.formulas.now)) c.from_residual-in_err-append.ensures.1 (inl refl)
