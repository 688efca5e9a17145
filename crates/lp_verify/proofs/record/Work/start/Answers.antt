use Rattle.std.proofs.Common.{refl, subst}
use Rattle.lp_verify.specs.inner.Sides.{HasPlaces}
use Rattle.lp_verify.specs.inner.Taken.{before_neck, AreFirstTaken}
use Rattle.lp_verify.specs.inner.At.{home_in, kept_in}
use Rattle.lp_verify.proofs.UsedConstants.{basics_stay}
use Rattle.lp_verify.proofs.TermsMade.{head_given}
use Rattle.lp_verify.proofs.record.Work.start.Goals as goal

pub returns-clause-started : goal.returns-clause-started
returns-clause-started c = record {
  place_is = refl;
  number_is = refl;
  frames_are = c.new-2.ensures;
  places_are = subst (λ l. HasPlaces l c.in_ok-of.field-0.jumps) c.as_slice-code.ensures.value c.in_ok-of.ensures;
  takings_are = subst (λ l. AreFirstTaken 0 (before_neck l) c.in_ok-of-2.field-0.first) c.as_slice-code.ensures.value c.in_ok-of-2.ensures;
  body_is = refl;
  types_are = c.in_ok-head.ensures.types;
  arguments_are = c.in_ok-head.ensures.arguments;
  types_set = c.in_ok-types.ensures.ever;
  terms_set = c.in_ok-terms.ensures.ever;
  types_filled = c.in_ok-types.ensures.filled;
  terms_filled = c.in_ok-terms.ensures.filled;
}

pub returns-clause-head : goal.returns-clause-head
returns-clause-head c = λ language keeps s types arguments same.
    let x = c.args.shared.now.types in
    let h = home_in c.args.home in
    let l = kept_in c.args.shared.now in
    let m = c.in_ok-head.ensures.head h s (record { tables = refl; language = language; basics = keeps.0; uses = keeps.1 }) refl types arguments (head_given l c.in_ok-terms.terms h s h.self.head c.given_type-of.result c.given_type-of.ensures keeps.0 same) in
    record {
      number = refl;
      constants = record { tables = refl; language = language; basics = basics_stay x _ c.in_ok-head.ensures.grow keeps.0; uses = m.0 };
      own = c.in_ok-own_types_of.ensures;
      head = m.1;
    }
