use Rattle.std.proofs.Common.{◌∙◌, ap, sym, refl}
use Rattle.std.specs.Str.{bytes_eq}
use Rattle.lp_sig.specs.Knowing.{number_of}
use Rattle.lp_sig.proofs.Parameters.{number_closed}
use Rattle.lp_sig.proofs.InOrder.{blank_named, known_named, new_named}
use Rattle.lp_sig.proofs.Typing.{given_closed, given_blank, given_known, given_new}
use Rattle.lp_sig.proofs.expand.Variables.number.Goals as goal

pub returns-then-self-clause-given : goal.returns-then-self-clause-given
unfolding number_of
returns-then-self-clause-given c = λ vs h. number_closed c.args.self.now vs c.args.name.now c.copied.result c.if-self.true (c.copied.ensures ∙ c.get.ensures.value) h

pub returns-then-self-clause-is : goal.returns-then-self-clause-is
unfolding number_of
returns-then-self-clause-is c = given_closed c.args.self.now c.args.name.now c.copied.result c.if-self.true (c.copied.ensures ∙ c.get.ensures.value)

pub returns-then-eq-clause-is : goal.returns-then-eq-clause-is
returns-then-eq-clause-is c = given_blank c.args.self.now c.args.name.now c.if-self.false (sym (c.if-eq.ensures ∙ ap (bytes_eq c.args.name.now) c.as_slice.ensures))

pub returns-in-Some-clause-is : goal.returns-in-Some-clause-is
unfolding number_of
returns-in-Some-clause-is c = given_known c.args.self.now c.args.name.now c.in-Some.number.now c.if-self.false (sym (c.if-eq.ensures ∙ ap (bytes_eq c.args.name.now) c.as_slice.ensures)) (sym c.in-Some.ensures.value)

pub returns-clause-is : goal.returns-clause-is
unfolding number_of
returns-clause-is c = given_new c.args.self.now c.args.name.now c.in_ok-number.number c.if-self.false (sym (c.if-eq.ensures ∙ ap (bytes_eq c.args.name.now) c.as_slice.ensures)) (sym c.in_default.ensures.value) c.in_ok-number.ensures.is

pub returns-then-eq-clause-names : goal.returns-then-eq-clause-names
returns-then-eq-clause-names c = λ ks h. blank_named c.args.self.now _ ks h c.args.name.now (sym (c.if-eq.ensures ∙ ap (bytes_eq c.args.name.now) c.as_slice.ensures)) refl c.in_ok-self.ensures refl

pub returns-in-Some-clause-names : goal.returns-in-Some-clause-names
unfolding number_of
returns-in-Some-clause-names c = λ ks h. known_named c.args.self.now _ ks h c.args.name.now c.in-Some.number.now (sym (c.if-eq.ensures ∙ ap (bytes_eq c.args.name.now) c.as_slice.ensures)) (sym c.in-Some.ensures.value) refl

pub returns-clause-names : goal.returns-clause-names
unfolding number_of
returns-clause-names c = λ ks h. new_named c.args.self.now c.add.new.self ks h c.args.name.now (sym (c.if-eq.ensures ∙ ap (bytes_eq c.args.name.now) c.as_slice.ensures)) (sym c.in_default.ensures.value) c.add.ensures.closed c.in_ok-number.ensures.next c.in_ok-number.ensures.added
