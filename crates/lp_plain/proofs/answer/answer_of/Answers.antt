use Rattle.std.proofs.Common.{◌∙◌, ap, refl}
use Rattle.lp_term.proofs.Trees.{extends-trans}
use Rattle.lp_term.specs.Same.{same_map}
use Rattle.lp_model.specs.Search.{vars_from}
use Rattle.lp_plain.proofs.AnswerTerms.{pairs_are, pairs_shown, values_are, values_shown}
use Rattle.lp_plain.proofs.answer.answer_of.Goals as goal

pub returns-clause-whole : goal.returns-clause-whole
returns-clause-whole c = record {
  values = c.in_ok-values.ensures.count ∙ c.in_ok-full.ensures.count ∙ c.in_ok-variables.ensures.count;
  shown = c.in_ok-values_shown.ensures.shown c.if-not-values_shown.false;
  pairs = c.in_ok-pairs_shown.ensures.shown c.if-not-pairs_shown.false;
}

pub returns-clause-only : goal.returns-clause-only
returns-clause-only c = record {
  bank = extends-trans c.args.machine.now.bank c.query_variables.new.bank c.filled_pairs.new.bank c.in_ok-variables.ensures.kept
      (extends-trans c.query_variables.new.bank c.filled_terms.new.bank c.filled_pairs.new.bank c.in_ok-full.ensures.kept c.in_ok-sides.ensures.kept);
  same = refl;
}

pub returns-clause-answer : goal.returns-clause-answer
returns-clause-answer c = λ qv x e a.
    let m = c.args.machine.now in
    let b1 = c.query_variables.new.bank in
    let b2 = c.filled_terms.new.bank in
    let b3 = c.filled_pairs.new.bank in
    let to1 = c.copied_terms.new.to in
    let to2 = c.copied_pairs.new.to in
    let v = c.in_ok-variables.ensures in
    let f = c.in_ok-full.ensures in
    let g = c.in_ok-sides.ensures in
    let t = c.in_ok-values.ensures in
    let p = c.in_ok-pairs.ensures in
    let fresh = c.new-copies.ensures same_map b3 c.new-bank.result in
    let vs = c.in_ok-variables.variables.items in
    let full = c.in_ok-full.full.items in
    let sides = c.in_ok-sides.sides.items in
    let values = c.in_ok-values.values.items in
    let pairs = c.in_ok-pairs.pairs.items in
    let trees = v.trees ∙ ap (λ n. vars_from n 0) e in (
      refl,
      record {
        values = values_are qv m x a b1 b2 b3 c.new-bank.result to1 to2 vs full sides values pairs v.kept v.within trees f.kept f.filled g.kept g.filled f.within (t.copied fresh) t.within p.kept (p.copied (t.memo fresh));
        pairs = pairs_are qv m x a b1 b2 b3 c.new-bank.result to1 to2 vs full sides values pairs v.kept v.within trees f.kept f.filled g.kept g.filled f.within (t.copied fresh) t.within p.kept (p.copied (t.memo fresh));
      },
    )

pub returns-then-not-values_shown-clause-only : goal.returns-then-not-values_shown-clause-only
returns-then-not-values_shown-clause-only c = record {
  bank = extends-trans c.args.machine.now.bank c.query_variables.new.bank c.filled_pairs.new.bank c.in_ok-variables.ensures.kept
      (extends-trans c.query_variables.new.bank c.filled_terms.new.bank c.filled_pairs.new.bank c.in_ok-full.ensures.kept c.in_ok-sides.ensures.kept);
  same = refl;
}

pub returns-then-not-values_shown-clause-answer : goal.returns-then-not-values_shown-clause-answer
returns-then-not-values_shown-clause-answer c = λ qv x e a.
    let m = c.args.machine.now in
    let b1 = c.query_variables.new.bank in
    let b2 = c.filled_terms.new.bank in
    let b3 = c.filled_pairs.new.bank in
    let to1 = c.copied_terms.new.to in
    let to2 = c.copied_pairs.new.to in
    let v = c.in_ok-variables.ensures in
    let f = c.in_ok-full.ensures in
    let g = c.in_ok-sides.ensures in
    let t = c.in_ok-values.ensures in
    let p = c.in_ok-pairs.ensures in
    let fresh = c.new-copies.ensures same_map b3 c.new-bank.result in
    let vs = c.in_ok-variables.variables.items in
    let full = c.in_ok-full.full.items in
    let sides = c.in_ok-sides.sides.items in
    let values = c.in_ok-values.values.items in
    let pairs = c.in_ok-pairs.pairs.items in
    let trees = v.trees ∙ ap (λ n. vars_from n 0) e in
    absurd (c.in_ok-values_shown.ensures.hidden c.if-not-values_shown.true (values_shown qv m x a b1 b2 b3 c.new-bank.result to1 to2 vs full sides values pairs v.kept v.within trees f.kept f.filled g.kept g.filled f.within (t.copied fresh) t.within p.kept (p.copied (t.memo fresh))))

pub returns-then-not-pairs_shown-clause-only : goal.returns-then-not-pairs_shown-clause-only
returns-then-not-pairs_shown-clause-only c = record {
  bank = extends-trans c.args.machine.now.bank c.query_variables.new.bank c.filled_pairs.new.bank c.in_ok-variables.ensures.kept
      (extends-trans c.query_variables.new.bank c.filled_terms.new.bank c.filled_pairs.new.bank c.in_ok-full.ensures.kept c.in_ok-sides.ensures.kept);
  same = refl;
}

pub returns-then-not-pairs_shown-clause-answer : goal.returns-then-not-pairs_shown-clause-answer
returns-then-not-pairs_shown-clause-answer c = λ qv x e a.
    let m = c.args.machine.now in
    let b1 = c.query_variables.new.bank in
    let b2 = c.filled_terms.new.bank in
    let b3 = c.filled_pairs.new.bank in
    let to1 = c.copied_terms.new.to in
    let to2 = c.copied_pairs.new.to in
    let v = c.in_ok-variables.ensures in
    let f = c.in_ok-full.ensures in
    let g = c.in_ok-sides.ensures in
    let t = c.in_ok-values.ensures in
    let p = c.in_ok-pairs.ensures in
    let fresh = c.new-copies.ensures same_map b3 c.new-bank.result in
    let vs = c.in_ok-variables.variables.items in
    let full = c.in_ok-full.full.items in
    let sides = c.in_ok-sides.sides.items in
    let values = c.in_ok-values.values.items in
    let pairs = c.in_ok-pairs.pairs.items in
    let trees = v.trees ∙ ap (λ n. vars_from n 0) e in
    absurd (c.in_ok-pairs_shown.ensures.hidden c.if-not-pairs_shown.true (pairs_shown qv m x a b1 b2 b3 c.new-bank.result to1 to2 vs full sides values pairs v.kept v.within trees f.kept f.filled g.kept g.filled f.within (t.copied fresh) t.within p.kept (p.copied (t.memo fresh)) p.within))
