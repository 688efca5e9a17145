use Rattle.std.proofs.Common.{◌∙◌, ap, arith, sym}
use Rattle.lp_cert.proofs.Comparisons.{types_equal_push, nothing}
use Rattle.lp_cert.proofs.Matching.{types_last, types_none, types_differ_at, types_follow_at}
use Rattle.lp_cert.specs.Same.{types_in}
use Rattle.lp_cert.proofs.form.Comparing.push_types.Goals as goal

pub types-preserved : goal.types-preserved
types-preserved c = record {
  known = c.in_ok-push_type.ensures.known;
  closed = λ h. c.in_ok-push_type.ensures.closed (c.types.invariant.closed h);
  one = λ h q.
      let p = c.in_ok-push_type.ensures.one c.if-not-branch.false h in
      c.types.invariant.one p.0 (types_equal_push c.args.bank.now c.types.ones.items c.pop.new.self.items c.types.others.items c.pop-in-Some.new.self.items c.in-Some.one c.in-Some-pop.other c.in-Some.ensures.items c.in-Some-pop.ensures.items p.1 q);
  terms = c.in_ok-push_type.ensures.terms ∙ c.types.invariant.terms;
  same = λ k q. let p = c.types.invariant.same k q in let s = types_last c.args.bank.now c.types.ones.items c.pop.new.self.items c.types.others.items c.pop-in-Some.new.self.items c.in-Some.one c.in-Some-pop.other c.in-Some.ensures.items c.in-Some-pop.ensures.items p.0 p.1 in (s.0, s.2);
  follows = λ k h q.
      let p = c.types.invariant.same k q in
      let s = types_last c.args.bank.now c.types.ones.items c.pop.new.self.items c.types.others.items c.pop-in-Some.new.self.items c.in-Some.one c.in-Some-pop.other c.in-Some.ensures.items c.in-Some-pop.ensures.items p.0 p.1 in
      types_follow_at c.args.bank.now c.types.self c.push_type.new.self _ _ _ c.if-not-branch.false (c.in_ok-push_type.ensures.follows s.1) (c.types.invariant.follows k h q) s.3;
}

pub returns-in_default-pop-clause-follows : goal.returns-in_default-pop-clause-follows
returns-in_default-pop-clause-follows c = λ k q.
    let p = c.types.invariant.same k q in
    types_none c.args.bank.now c.types.ones.items c.pop.new.self.items c.types.others.items c.in-Some.one c.in-Some.ensures.items (nothing c.types.others.items (omega (arith, c.in_default-pop.ensures.cases.0, c.types.others.ok))) p.1

pub returns-then-not-branch-clause-follows : goal.returns-then-not-branch-clause-follows
returns-then-not-branch-clause-follows c = λ k q.
    let p = c.types.invariant.same k q in
    let s = types_last c.args.bank.now c.types.ones.items c.pop.new.self.items c.types.others.items c.pop-in-Some.new.self.items c.in-Some.one c.in-Some-pop.other c.in-Some.ensures.items c.in-Some-pop.ensures.items p.0 p.1 in
    types_differ_at c.args.bank.now c.types.self c.push_type.new.self _ _ _ c.if-not-branch.true (c.in_ok-push_type.ensures.follows s.1) s.3

pub returns-in-None-clause-one : goal.returns-in-None-clause-one
returns-in-None-clause-one c = λ e h.
    c.types.invariant.one h (
    ap (types_in c.args.bank.now) (nothing c.types.ones.items (omega (arith, c.in_default.ensures.cases.0, c.types.ones.ok))) ∙
    sym (ap (types_in c.args.bank.now) (nothing c.types.others.items (omega (arith, c.in-None.ensures.cases.0, c.types.others.ok))))
    )

pub returns-in-None-clause-follows : goal.returns-in-None-clause-follows
returns-in-None-clause-follows c = c.types.invariant.follows

pub returns-clause-follows : goal.returns-clause-follows
returns-clause-follows c = λ k q.
    let p = c.types.invariant.same k q in
    types_none c.args.bank.now c.types.others.items _ c.types.ones.items _ c.in-Some-pop-2.ensures.items (nothing c.types.ones.items (omega (arith, c.in_default.ensures.cases.0, c.types.ones.ok))) (sym p.1)
