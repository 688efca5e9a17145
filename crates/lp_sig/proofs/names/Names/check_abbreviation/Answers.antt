use Rattle.std.proofs.Common.{ap, refl, ◌∙◌, sym, Some}
use Rattle.std.specs.Prelude.{option_map}
use Rattle.lp_lemmas.proofs.Results.{passed_up}
use Rattle.lp_sig.specs.Said.{an_abbreviation}
use Rattle.lp_sig.specs.Words.{IsNameFault, long, other}
use Rattle.lp_sig.specs.Knowing.{said_as}
use Rattle.lp_sig.specs.Abbreviations.{place_meant}
use Rattle.lp_sig.proofs.Heads.{parameters_at, has_head}
use Rattle.lp_sig.proofs.Wording.{other_parameters, not_a_head, no_meaning}
use Rattle.lp_sig.proofs.names.Names.check_abbreviation.Goals as goal

pub returns-in_err-check_length-clause-why : goal.returns-in_err-check_length-clause-why
returns-in_err-check_length-clause-why c = λ said k. passed_up c.from_residual.result c.in_err-check_length.field-0.0 (IsNameFault c.args.source.now said (an_abbreviation c.args.parameters) c.args.name) c.from_residual.ensures.1
    (long c.in_err-check_length.ensures.long.0 c.in_err-check_length.ensures.long.1)

pub returns-then-known-parameters-clause-why : goal.returns-then-known-parameters-clause-why
returns-then-known-parameters-clause-why c = λ said k.
    let known = c.in-Some.known.now in
    other refl c.in_ok-check_length.ensures.taken (other_parameters c.args.source.now said c.args.name c.spelled_at.result.now c.spelled_at.ensures known.parameters c.args.parameters
    (ap (λ m. Some m) (sym (ap (said_as c.args.self.now) c.in-Some-Abbreviation.field-0-is ∙ parameters_at c.args.self.now.heads.items
    c.deref.result.now c.in-Some-Abbreviation.place known c.deref.ensures.value c.in-Some.ensures.lookup.3.0 c.in-Some.ensures.lookup.1)) ∙
    c.in-Some-Abbreviation.ensures.means said k) c.if-known-parameters.true)

pub returns-in-None-get-clause-why : goal.returns-in-None-get-clause-why
returns-in-None-get-clause-why c = λ said k.
    absurd (has_head c.args.self.now said c.spelled_at.result.now c.in-Some-Abbreviation.place c.deref.result.now k c.deref.ensures.value (sym (ap place_meant (ap (λ m. Some m) c.in-Some-Abbreviation.field-0-is)) ∙ c.in-Some-Abbreviation.ensures.place said k) c.in-None-get.ensures.lookup.3)

pub returns-in-Some-Kind-clause-why : goal.returns-in-Some-Kind-clause-why
returns-in-Some-Kind-clause-why c = λ said k. other refl c.in_ok-check_length.ensures.taken
    (not_a_head c.args.source.now said c.args.name c.spelled_at.result.now c.spelled_at.ensures _ c.args.parameters
    (ap (λ m. Some (said_as c.args.self.now m)) (sym c.in-Some-Kind.field-0-is) ∙ c.in-Some-Kind.ensures.means said k))

pub returns-in-None-clause-why : goal.returns-in-None-clause-why
returns-in-None-clause-why c = λ said k. other refl c.in_ok-check_length.ensures.taken
    (no_meaning c.args.source.now said c.args.name c.spelled_at.result.now c.spelled_at.ensures (an_abbreviation c.args.parameters)
    (ap (option_map (said_as c.args.self.now)) (sym c.in-None.is) ∙ c.meaning.ensures.means said k))
