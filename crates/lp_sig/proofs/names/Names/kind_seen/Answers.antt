use Rattle.std.proofs.Common.{Some, refl, sym, ap, subst, ◌∙◌, arith, inl, inr}
use Rattle.lp_sig.specs.inner.Telling.{of_no_kind}
use Rattle.lp_sig.proofs.ToldKinds.{kind_here, told_past, told_kind, no_kind, nothing}
use Rattle.std.specs.Prelude.{option_map}
use Rattle.lp_sig.specs.Knowing.{said_as}
use Rattle.lp_sig.specs.Holding.{HasNumber}
use Rattle.lp_sig.specs.Types.{kind_number_of}
use Rattle.lp_sig.proofs.Sighting.{number_alike, number_past, number_none}
use Rattle.lp_sig.proofs.names.Names.kind_seen.Goals as goal

pub returns-then-number-ge-END_OF_NUMBERS-clause-number : goal.returns-then-number-ge-END_OF_NUMBERS-clause-number
returns-then-number-ge-END_OF_NUMBERS-clause-number c = λ said k. number_past said c.args.name.now c.in-Some-Kind.number _
    (subst (HasNumber (kind_number_of c.args.name.now said)) c.in-Some-Kind.field-0-is (c.in-Some-Kind.ensures.exact said k))
    (λ q. let z = (c.and.ensures.alike q).1 in absurd (cc))

pub returns-else-number-ge-END_OF_NUMBERS-clause-number : goal.returns-else-number-ge-END_OF_NUMBERS-clause-number
returns-else-number-ge-END_OF_NUMBERS-clause-number c = λ said k. number_alike said c.args.name.now c.in-Some-Kind.number _
    (subst (HasNumber (kind_number_of c.args.name.now said)) c.in-Some-Kind.field-0-is (c.in-Some-Kind.ensures.exact said k))
    (let l = c.if-number-ge-END_OF_NUMBERS.false in omega (arith, l))

pub returns-in-Some-Abbreviation-clause-number : goal.returns-in-Some-Abbreviation-clause-number
returns-in-Some-Abbreviation-clause-number c = λ said k. number_none said c.args.name.now 4294967295 _ (sym
    (ap (λ m. Some (said_as c.args.self.now m)) (sym c.in-Some-Abbreviation.field-0-is) ∙ c.in-Some-Abbreviation.ensures.means said k))
    (λ n e. absurd (cc))

pub returns-in-None-clause-number : goal.returns-in-None-clause-number
returns-in-None-clause-number c = λ said k. number_none said c.args.name.now 4294967295 _ (sym (ap (option_map (said_as c.args.self.now)) (sym c.in-None.is) ∙ c.meaning.ensures.means said k)) (λ n e. absurd (cc))

pub returns-then-number-ge-END_OF_NUMBERS-clause-here : goal.returns-then-number-ge-END_OF_NUMBERS-clause-here
returns-then-number-ge-END_OF_NUMBERS-clause-here c = λ said k. kind_here said c.args.name.now c.in-Some-Kind.known c.args.arity c.in-Some-Kind.number
    (ap (λ m. Some (said_as c.args.self.now m)) (sym c.in-Some-Kind.field-0-is) ∙ c.in-Some-Kind.ensures.means said k)
    (subst (HasNumber (kind_number_of c.args.name.now said)) c.in-Some-Kind.field-0-is (c.in-Some-Kind.ensures.exact said k))

pub returns-else-number-ge-END_OF_NUMBERS-clause-here : goal.returns-else-number-ge-END_OF_NUMBERS-clause-here
returns-else-number-ge-END_OF_NUMBERS-clause-here c = λ said k. kind_here said c.args.name.now c.in-Some-Kind.known c.args.arity c.in-Some-Kind.number
    (ap (λ m. Some (said_as c.args.self.now m)) (sym c.in-Some-Kind.field-0-is) ∙ c.in-Some-Kind.ensures.means said k)
    (subst (HasNumber (kind_number_of c.args.name.now said)) c.in-Some-Kind.field-0-is (c.in-Some-Kind.ensures.exact said k))

pub returns-in-Some-Abbreviation-clause-here : goal.returns-in-Some-Abbreviation-clause-here
returns-in-Some-Abbreviation-clause-here c = λ said k. inl (of_no_kind _ (sym (ap (λ m. Some (said_as c.args.self.now m)) (sym c.in-Some-Abbreviation.field-0-is) ∙ c.in-Some-Abbreviation.ensures.means said k)) refl)

pub returns-in-None-clause-here : goal.returns-in-None-clause-here
returns-in-None-clause-here c = λ said k. inr (sym (ap (option_map (said_as c.args.self.now)) (sym c.in-None.is) ∙ c.meaning.ensures.means said k))

pub returns-then-number-ge-END_OF_NUMBERS-clause-told : goal.returns-then-number-ge-END_OF_NUMBERS-clause-told
returns-then-number-ge-END_OF_NUMBERS-clause-told c = λ said k. told_past said c.args.name.now c.in-Some-Kind.known c.args.arity c.in-Some-Kind.number
    (ap (λ m. Some (said_as c.args.self.now m)) (sym c.in-Some-Kind.field-0-is) ∙ c.in-Some-Kind.ensures.means said k)
    (subst (HasNumber (kind_number_of c.args.name.now said)) c.in-Some-Kind.field-0-is (c.in-Some-Kind.ensures.exact said k))
    c.if_alike-sight.result c.and.result (let l = c.if-number-ge-END_OF_NUMBERS.true in omega (arith, l)) c.if_alike-sight.ensures.first c.and.ensures.first

pub returns-else-number-ge-END_OF_NUMBERS-clause-told : goal.returns-else-number-ge-END_OF_NUMBERS-clause-told
returns-else-number-ge-END_OF_NUMBERS-clause-told c = λ said k. told_kind said c.args.name.now c.in-Some-Kind.known c.args.arity c.in-Some-Kind.number
    (ap (λ m. Some (said_as c.args.self.now m)) (sym c.in-Some-Kind.field-0-is) ∙ c.in-Some-Kind.ensures.means said k)
    (subst (HasNumber (kind_number_of c.args.name.now said)) c.in-Some-Kind.field-0-is (c.in-Some-Kind.ensures.exact said k))
    c.if_alike-sight.result (let l = c.if-number-ge-END_OF_NUMBERS.false in omega (arith, l)) c.if_alike-sight.ensures.first

pub returns-in-Some-Abbreviation-clause-told : goal.returns-in-Some-Abbreviation-clause-told
returns-in-Some-Abbreviation-clause-told c = λ said k. no_kind said c.args.name.now c.args.arity _ (ap (λ m. Some (said_as c.args.self.now m)) (sym c.in-Some-Abbreviation.field-0-is) ∙ c.in-Some-Abbreviation.ensures.means said k)

pub returns-in-None-clause-told : goal.returns-in-None-clause-told
returns-in-None-clause-told c = λ said k. nothing said c.args.name.now c.args.arity (ap (option_map (said_as c.args.self.now)) (sym c.in-None.is) ∙ c.meaning.ensures.means said k)
