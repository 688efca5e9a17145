use Rattle.std.proofs.Common.{◌∙◌}
use Rattle.lp_plain.proofs.Indexes.{same_rules}
use Rattle.std.proofs.Common.{◌≡◌, ◌-◌, suc, sym, subst, refl, arith, inl, inr}
use Rattle.std.specs.Prelude.{nat_eq}
use Rattle.std.specs.HashMap.{get}
use Rattle.lp_plain.specs.Candidates.{IsLinked, numbers_from}
use Rattle.lp_plain.proofs.Indexes.{linked_none, span_more, span_done}
use Rattle.lp_plain.proofs.candidates.add_span.Goals as goal

pub rules-init : goal.rules-init
rules-init c =
    let z : c.args.span.to - c.args.span.to ≡ 0 = omega arith in
    record {
      within = omega arith;
      begun = inr refl;
      count = refl;
      linked = subst (λ n. IsLinked c.args.bank.now c.args.rules.now.items c.args.rules.now.items (λ k. get nat_eq c.args.index.now k)
          (λ k. get nat_eq c.args.index.now k) (numbers_from n c.args.span.to) c.args.behind c.args.span.to) (sym z)
          (linked_none c.args.bank.now c.args.rules.now.items _ c.args.behind c.args.span.to c.requires.order.1);
    }

pub rules-preserved : goal.rules-preserved
rules-preserved c =
    let t = c.rules-test.true in
    let w = c.rules.invariant.within in
    let e : suc (c.rules.left - 1) ≡ c.rules.left = omega (arith, t) in
    record {
      within = omega (arith, w);
      begun = inl (omega (arith, t));
      linked = span_more c.args.bank.now c.args.rules.now.items c.rules.rules.items c.add_rule.new.rules.items _ _ _ c.args.span.to c.args.behind
          c.rules.left (c.rules.left - 1) e w c.rules.invariant.linked c.in_ok-add_rule.ensures;
      count = same_rules c.rules.rules.items c.add_rule.new.rules.items c.in_ok-add_rule.ensures.same ∙ c.rules.invariant.count;
    }

pub returns-clause-linked : goal.returns-clause-linked
returns-clause-linked c =
    subst (λ z. IsLinked c.args.bank.now c.args.rules.now.items c.rules.rules.items (λ k. get nat_eq c.args.index.now k) (λ k. get nat_eq c.rules.index k) z c.args.behind c.rules.left)
    (span_done c.args.span c.rules.left c.rules-test.false c.rules.invariant.within c.rules.invariant.begun) c.rules.invariant.linked

pub returns-clause-first : goal.returns-clause-first
returns-clause-first c = let l = c.rules-test.false in let f = c.requires.order.0 in elim c.rules.invariant.begun [ inl h ↦ omega (arith, h, l) | inr h ↦ omega (arith, h, l, f) ]

pub add_rule-requires : goal.add_rule-requires
add_rule-requires c =
    let t = c.rules-test.true in
    let w = c.rules.invariant.within in
    let n = c.rules.invariant.count in
    let b = c.requires.order.1 in
    let r = c.requires.within in
    omega (arith, t, w, n, b, r)
