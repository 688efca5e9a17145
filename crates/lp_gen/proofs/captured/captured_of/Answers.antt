use Rattle.std.proofs.Common.{subst, sym, arith}
use Rattle.std.proofs.lemmas.List.{nil_from_length}
use Rattle.lp_gen.specs.inner.Capturing.{PlacesHold}
use Rattle.lp_gen.proofs.CapturedBy.{walk_starts}
use Rattle.lp_gen.proofs.CapturedFrom.{walk_has, nothing_marked, place_looked_at}
use Rattle.lp_gen.proofs.captured.captured_of.Goals as goal

pub places-init : goal.places-init
places-init c = (
  record {
    marks = λ ks cov h. walk_starts c.args.bank.now c.args.base ks c.new-work.result.items c.push.new.self.items c.args.clauses c.new-work.ensures.items c.in_ok-push.ensures.items h;
    has = λ p x. walk_has c.args.bank.now p c.new-work.result.items c.push.new.self.items c.args.clauses c.new-work.ensures.items c.in_ok-push.ensures.items x;
    found = λ p x. nothing_marked c.args.base p c.new-levels.result.keys c.new-levels.ensures.empty;
  },
  c.new-levels.ensures.unique,
)

pub places-preserved : goal.places-preserved
places-preserved c = (
  place_looked_at c.args.bank.now c.args.clauses.now c.args.base c.places.levels.keys c.take_up.new.levels.keys c.places.work.items c.pop.new.self.items c.take_up.new.work.items c.in-Some.place
      c.in-Some.ensures.items c.places.invariant.0 c.in_ok-take_up.ensures.marks c.in_ok-take_up.ensures.finds,
  c.in_ok-take_up.ensures.distinct c.places.invariant.1,
)

pub returns-clause-all : goal.returns-clause-all
returns-clause-all c =
    let none = nil_from_length c.places.work.items (omega (arith, c.in_default.ensures.cases.0, c.places.work.ok)) in
    c.places.invariant.0.marks c.places.levels.keys (λ k e. e) (subst (PlacesHold c.args.bank.now c.args.base c.places.levels.keys) (sym none) tt)

pub returns-clause-found : goal.returns-clause-found
returns-clause-found c = λ p x. c.places.invariant.0.found p x

pub returns-clause-distinct : goal.returns-clause-distinct
returns-clause-distinct c = c.places.invariant.1
