use Rattle.std.proofs.Common.{ap}
use Rattle.lp_sig.specs.Said.{a_kind}
use Rattle.lp_sig.specs.Words.{IsNameFault, long, other, many, number_said}
use Rattle.lp_sig.proofs.Wording.{other_count, not_a_kind, no_meaning, so_meant}
use Rattle.std.proofs.Common.{refl, ◌∙◌, sym, subst, Some}
use Rattle.std.specs.Prelude.{option_map}
use Rattle.lp_lemmas.proofs.Results.{passed_up}
use Rattle.lp_sig.specs.Knowing.{said_as, IsNumberOf}
use Rattle.lp_sig.proofs.Numbering.{past_end}
use Rattle.lp_sig.proofs.names.Names.declare_kind.Goals as goal

pub returns-in_err-check_length-clause-why : goal.returns-in_err-check_length-clause-why
returns-in_err-check_length-clause-why c = λ said k. passed_up c.from_residual.result c.in_err-check_length.field-0.0 (IsNameFault c.args.source.now said (a_kind c.args.arity) c.args.name) c.from_residual.ensures.1
    (long c.in_err-check_length.ensures.long.0 c.in_err-check_length.ensures.long.1)

pub returns-then-known-arity-clause-why : goal.returns-then-known-arity-clause-why
returns-then-known-arity-clause-why c = λ said k. other refl c.in_ok-check_length.ensures.taken
    (other_count c.args.source.now said c.args.name c.spelled_at.result.now c.spelled_at.ensures c.in-Some-Kind.known c.args.arity
    (ap (λ m. Some (said_as c.args.self.now m)) (sym c.in-Some-Kind.field-0-is) ∙ c.in-Some-Kind.ensures.means said k) c.if-known-arity.true)

pub returns-then-number-ge-END_OF_NUMBERS-clause-why : goal.returns-then-number-ge-END_OF_NUMBERS-clause-why
returns-then-number-ge-END_OF_NUMBERS-clause-why c = λ said k.
    let word = c.spelled_at.result.now in
    let p = past_end (number_said word said) c.in-Some-Kind.number (subst (IsNumberOf (number_said word said)) c.in-Some-Kind.field-0-is (c.in-Some-Kind.ensures.number said k)) c.if-number-ge-END_OF_NUMBERS.true in
    many refl (
      c.in_ok-check_length.ensures.taken,
      so_meant c.args.source.now said c.args.name word c.spelled_at.ensures (a_kind c.in-Some-Kind.known)
          (a_kind c.args.arity) (ap (λ m. Some (said_as c.args.self.now m)) (sym c.in-Some-Kind.field-0-is) ∙ c.in-Some-Kind.ensures.means said k)
          (ap a_kind c.if-known-arity.false),
    )
    p.0 (ap (λ w. number_said w said) (sym c.spelled_at.ensures) ∙ p.1) p.2

pub returns-in-Some-Abbreviation-clause-why : goal.returns-in-Some-Abbreviation-clause-why
returns-in-Some-Abbreviation-clause-why c = λ said k. other refl c.in_ok-check_length.ensures.taken
    (not_a_kind c.args.source.now said c.args.name c.spelled_at.result.now c.spelled_at.ensures _ c.args.arity
    (ap (λ m. Some (said_as c.args.self.now m)) (sym c.in-Some-Abbreviation.field-0-is) ∙ c.in-Some-Abbreviation.ensures.means said k))

pub returns-in-None-clause-why : goal.returns-in-None-clause-why
returns-in-None-clause-why c = λ said k. other refl c.in_ok-check_length.ensures.taken (no_meaning c.args.source.now said c.args.name c.spelled_at.result.now c.spelled_at.ensures (a_kind c.args.arity) (ap (option_map (said_as c.args.self.now)) (sym c.in-None.is) ∙ c.meaning.ensures.means said k))
