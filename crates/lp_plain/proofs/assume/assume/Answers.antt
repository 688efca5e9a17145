use Rattle.std.proofs.Common.{◌≡◌, ◌∙◌, ◌-◌, ℕ, suc, refl, arith, inl, inr, subst, None, Some}
use Rattle.std.specs.Prelude.{IfSome}
use Rattle.lp_calculus.specs.Term.{Term}
use Rattle.lp_model.specs.Flat.{Clause}
use Rattle.lp_plain.specs.declared.types.Renewal.{Renewal}
use Rattle.lp_plain.specs.Assuming.{IsTreeOf, clause_in, head_at}
use Rattle.lp_plain.specs.Entries.{HasValues}
use Rattle.lp_plain.specs.Scopes.{blocks_of}
use Rattle.lp_plain.specs.Tables.{IsRule, Never, shown}
use Rattle.lp_pattern.proofs.Keeps.{goes_on_same}
use Rattle.lp_plain.proofs.HeadsWritten.{headless_one}
use Rattle.lp_plain.proofs.Assumed.{Assumes, assumes_none, assumes_more, assumes_all, tree_more, tree_all, more_then}
use Rattle.lp_plain.proofs.WrittenAssumed.{one_more_written}
use Rattle.lp_plain.proofs.assume.assume.Goals as goal

pub numbers-init : goal.numbers-init
numbers-init c =
    let m = c.args.machine.now in
    record {
      within = omega arith;
      begun = inr refl;
      counts = refl;
      more = record {
        goals = record { known = record { bank = refl; bindings = refl; scopes = refl; table = refl; standings = refl; index = refl }; frames = goes_on_same m.frames.items };
        course = record { choices = refl; counts = refl; denied = refl; branch = refl };
        frames = refl;
        assumptions = goes_on_same m.assumptions.items;
        newest = goes_on_same m.newest.items;
      };
      tree = inl (refl, omega arith);
      assumed = assumes_none m c.args.rules.to c.args.place;
      written = λ ar i w s. s;
    }

pub numbers-preserved : goal.numbers-preserved
numbers-preserved c =
    let t = c.numbers-test.true in
    let i = c.numbers.invariant in
    let w = i.within in
    let m = c.args.machine.now in
    let k : c.numbers.left ≡ suc (c.numbers.left - 1) = omega (arith, t) in
    let one = c.in_ok-newest.ensures.one in
    record {
      within = omega (arith, w);
      begun = inl (omega (arith, t));
      counts = one.more.course.counts ∙ i.counts;
      more = more_then m c.numbers.machine c.assume_one.new.machine i.more one.more;
      tree = tree_more m c.numbers.machine c.assume_one.new.machine (c.numbers.left - 1) c.args.rules.to c.numbers.left c.args.place c.numbers.tree
          c.in-Some.head c.in_ok-newest.newest i.more one i.assumed k w (subst (λ o. IfSome o (λ h. (k : Clause) (σ : ℕ → Term) → IsRule c.numbers.machine.bank Never (shown c.numbers.machine.table) (c.numbers.left - 1) k → HasValues c.numbers.machine.bank (blocks_of c.numbers.machine.scopes) c.args.place.values.scope σ → (r : Renewal) → head_at (clause_in σ r k) ≡ Some h)) c.in-Some.is c.assumed_head.ensures.is);
      assumed = assumes_more m c.numbers.machine c.assume_one.new.machine (c.numbers.left - 1) c.args.rules.to c.numbers.left c.args.place
          c.numbers.tree c.in-Some.head c.in_ok-newest.newest i.more one i.assumed k w (subst (λ o. IfSome o (λ h. (k : Clause) (σ : ℕ → Term) → IsRule c.numbers.machine.bank Never (shown c.numbers.machine.table) (c.numbers.left - 1) k → HasValues c.numbers.machine.bank (blocks_of c.numbers.machine.scopes) c.args.place.values.scope σ → (r : Renewal) → head_at (clause_in σ r k) ≡ Some h)) c.in-Some.is c.assumed_head.ensures.is);
      written = one_more_written m c.numbers.machine c.assume_one.new.machine c.args.rules.from c.args.rules.to c.numbers.left c.args.place i.more
          one.more c.in_ok-newest.ensures.pushed (omega (arith, t)) w i.written;
    }

pub returns-clause-counts : goal.returns-clause-counts
returns-clause-counts c = c.numbers.invariant.counts

pub returns-clause-more : goal.returns-clause-more
returns-clause-more c = c.numbers.invariant.more

pub returns-clause-tree : goal.returns-clause-tree
returns-clause-tree c = λ tree e.
    let m = c.args.machine.now in
    let same : c.numbers.tree ≡ tree = cc in
    subst (IsTreeOf m c.numbers.machine c.args.rules.from c.args.rules.to c.args.place.assumed) same
    (tree_all m c.numbers.machine c.args.rules.from c.args.rules.to c.numbers.left c.args.place.assumed c.numbers.tree c.numbers.invariant.tree c.numbers-test.false)

pub returns-clause-assumed : goal.returns-clause-assumed
returns-clause-assumed c = λ tree e.
    let m = c.args.machine.now in
    let same : c.numbers.tree ≡ tree = cc in
    subst (Assumes m c.numbers.machine c.args.rules.from c.args.rules.to c.args.place) same
    (assumes_all m c.numbers.machine c.args.rules.from c.args.rules.to c.numbers.left c.args.place c.numbers.tree c.numbers.invariant.assumed c.numbers-test.false c.numbers.invariant.begun)

pub returns-clause-written : goal.returns-clause-written
returns-clause-written c = c.numbers.invariant.written

pub returns-in_default-clause-counts : goal.returns-in_default-clause-counts
returns-in_default-clause-counts c = c.numbers.invariant.counts

pub returns-in_default-clause-more : goal.returns-in_default-clause-more
returns-in_default-clause-more c = c.numbers.invariant.more

pub returns-in_default-clause-written : goal.returns-in_default-clause-written
returns-in_default-clause-written c = c.numbers.invariant.written

pub returns-in_default-clause-tree : goal.returns-in_default-clause-tree
returns-in_default-clause-tree c = λ tree e. absurd (cc)

pub returns-in_default-clause-assumed : goal.returns-in_default-clause-assumed
returns-in_default-clause-assumed c = λ tree e. absurd (cc)

pub returns-in_default-clause-headless : goal.returns-in_default-clause-headless
returns-in_default-clause-headless c = λ e.
    let w = c.numbers.invariant.within in
    let t = c.numbers-test.true in
    headless_one c.args.machine.now c.numbers.machine c.args.rules (c.numbers.left - 1) c.args.place c.numbers.invariant.more (omega (arith, t)) (omega (arith, w, t)) (c.assumed_head.ensures.none c.in_default.is)

pub returns-clause-headless : goal.returns-clause-headless
returns-clause-headless c = λ e. absurd (cc)
