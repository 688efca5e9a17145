use Rattle.std.proofs.Common.{◌∙◌, sym, ap, arith}
use Rattle.lp_cert.specs.Same.{terms_in}
use Rattle.lp_cert.proofs.Comparisons.{equal_push, nothing}
use Rattle.lp_cert.proofs.Matching.{atoms_last, equal_grows, plain_push, terms_last, terms_none}
use Rattle.lp_cert.proofs.form.Comparing.push_terms.Goals as goal

pub terms-preserved : goal.terms-preserved
terms-preserved c = record {
  equal = λ b h q.
      let p = equal_push b c.terms.self.terms.items c.push.new.self.items c.terms.left.items c.pop.new.self.items c.terms.right.items c.pop-in-Some.new.self.items c.in-Some.one c.in-Some-pop.other c.in_ok-push.ensures.items c.in-Some.ensures.items c.in-Some-pop.ensures.items h q in
      c.terms.invariant.equal b p.0 p.1;
  types = c.terms.invariant.types;
  follows = λ b h q.
      let p = c.terms.invariant.follows b h q in
      let s = terms_last b c.terms.left.items c.pop.new.self.items c.terms.right.items c.pop-in-Some.new.self.items c.in-Some.one c.in-Some-pop.other c.in-Some.ensures.items c.in-Some-pop.ensures.items p.1 in
      (equal_grows b c.terms.self.terms.items c.push.new.self.items c.in-Some.one c.in-Some-pop.other c.in_ok-push.ensures.items p.0 s.1, s.0);
  same = λ b q. (terms_last b c.terms.left.items c.pop.new.self.items c.terms.right.items c.pop-in-Some.new.self.items c.in-Some.one c.in-Some-pop.other c.in-Some.ensures.items c.in-Some-pop.ensures.items (c.terms.invariant.same b q)).0;
  plain = λ b h a.
      let p = c.terms.invariant.plain b h a in
      let s = atoms_last b c.terms.left.items c.pop.new.self.items c.in-Some.one c.in-Some.ensures.items p.1 in
      (plain_push b c.terms.self.terms.items c.push.new.self.items c.in-Some.one c.in-Some-pop.other c.in_ok-push.ensures.items p.0 s.1, s.0);
}

pub returns-in-None-clause-equal : goal.returns-in-None-clause-equal
returns-in-None-clause-equal c = λ e b h.
    c.terms.invariant.equal b h (
    ap (terms_in b) (nothing c.terms.left.items (omega (arith, c.in_default.ensures.cases.0, c.terms.left.ok))) ∙
    sym (ap (terms_in b) (nothing c.terms.right.items (omega (arith, c.in-None.ensures.cases.0, c.terms.right.ok))))
    )

pub returns-in_default-pop-clause-follows : goal.returns-in_default-pop-clause-follows
returns-in_default-pop-clause-follows c = λ b q. terms_none b c.terms.left.items c.pop.new.self.items c.terms.right.items c.in-Some.one c.in-Some.ensures.items (nothing c.terms.right.items (omega (arith, c.in_default-pop.ensures.cases.0, c.terms.right.ok))) (c.terms.invariant.same b q)

pub returns-in-None-clause-follows : goal.returns-in-None-clause-follows
returns-in-None-clause-follows c = λ b h q. (c.terms.invariant.follows b h q).0

pub returns-in-None-clause-plain : goal.returns-in-None-clause-plain
returns-in-None-clause-plain c = λ b h a. (c.terms.invariant.plain b h a).0

pub returns-clause-follows : goal.returns-clause-follows
returns-clause-follows c = λ b q. terms_none b c.terms.right.items _ c.terms.left.items _ c.in-Some-pop-2.ensures.items (nothing c.terms.left.items (omega (arith, c.in_default.ensures.cases.0, c.terms.left.ok))) (sym (c.terms.invariant.same b q))
