use Rattle.std.proofs.Common.{arith, refl}
use Rattle.lp_cert.proofs.Comparisons.{nothing, pair_back, same_solved}
use Rattle.lp_cert.proofs.Matching.{differs_at, follows_at, found_equal, plain_at}
use Rattle.lp_cert.specs.declared.form.Comparing.{Comparing}
use Rattle.lp_cert.proofs.form.are_same.Goals as goal

pub loop-preserved : goal.loop-preserved
loop-preserved c = record {
  known = c.in_ok-take.ensures.known;
  closed = c.in_ok-take.ensures.closed c.loop.invariant.closed;
  plain = λ a. let p = plain_at c.args.bank.now c.loop.comparing.terms.items c.pop.new.self.items c.in-Some.one c.in-Some.other c.in-Some.ensures.items (c.loop.invariant.plain a) in c.in_ok-take.ensures.plain p.0 p.1;
  follows = λ a e.
      let q = c.loop.invariant.follows a e in
      let w : Comparing = record { alloc = c.loop.comparing.alloc; terms = c.pop.new.self; types = c.loop.comparing.types } in
      follows_at c.args.bank.now w c.take.new.self c.loop.comparing.terms.items c.pop.new.self.items c.in-Some.one c.in-Some.other _ c.in-Some.ensures.items refl c.if-not-branch.false q.0 q.1 (c.loop.invariant.plain a) c.in_ok-take.ensures.follows;
  leads = λ h o.
      let l = c.in_ok-take.ensures.leads c.if-not-branch.false h o in
      c.loop.invariant.leads (pair_back c.args.bank.now c.loop.comparing.terms.items c.pop.new.self.items c.in-Some.one c.in-Some.other c.in-Some.ensures.items l.0 l.2) l.1;
}

pub returns-in_default-clause-same : goal.returns-in_default-clause-same
returns-in_default-clause-same c =
    same_solved c.args.bank.now c.loop.comparing.types.items _ c.loop.comparing.terms.items _ _ c.have_solution.result c.as_slice.ensures.value
    (nothing c.loop.comparing.terms.items (omega (arith, c.in_default.ensures.cases.0, c.loop.comparing.terms.ok))) c.loop.invariant.closed c.loop.invariant.leads c.have_solution.ensures.solved

pub returns-then-not-branch-clause-differ : goal.returns-then-not-branch-clause-differ
returns-then-not-branch-clause-differ c = λ n a e.
    let w : Comparing = record { alloc = c.loop.comparing.alloc; terms = c.pop.new.self; types = c.loop.comparing.types } in
    differs_at c.args.bank.now w c.take.new.self c.loop.comparing.terms.items c.pop.new.self.items c.in-Some.one c.in-Some.other _ c.in-Some.ensures.items c.if-not-branch.true (c.loop.invariant.follows a e).0 (c.loop.invariant.plain a) c.in_ok-take.ensures.follows

pub returns-in_default-clause-differ : goal.returns-in_default-clause-differ
returns-in_default-clause-differ c = found_equal c.args.bank.now c.loop.comparing.types.items _ 0 c.have_solution.result _ _ c.as_slice.ensures.value c.loop.invariant.closed (λ a e. (c.loop.invariant.follows a e).1) c.have_solution.ensures.none
