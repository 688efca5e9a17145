use Rattle.std.proofs.Common.{ap, ◌∙◌, sym, Some}
use Rattle.std.specs.Prelude.{option_map}
use Rattle.lp_sig.specs.Said.{an_abbreviation}
use Rattle.lp_sig.specs.Knowing.{said_as}
use Rattle.lp_sig.specs.Abbreviations.{place_meant}
use Rattle.lp_sig.proofs.ToldBodies.{kind_told, nothing_told, other_parameters, body_told}
use Rattle.lp_sig.proofs.making.Making.sight_of_abbreviation.Goals as goal

pub returns-in-None : goal.returns-in-None
returns-in-None c = record {
  told = λ said rows t k g made fits. nothing_told said rows c.args.name.now c.args.parameters t (ap (option_map (said_as c.args.self.now.names)) (sym c.in-None.is) ∙ c.meaning.ensures.means said k);
}

pub returns-in-Some-Kind : goal.returns-in-Some-Kind
returns-in-Some-Kind c = record {
  told = λ said rows t k g made fits. kind_told said rows c.args.name.now _ c.args.parameters t
      (ap (λ m. Some (said_as c.args.self.now.names m)) (sym c.in-Some-Kind.field-0-is) ∙ c.in-Some-Kind.ensures.means said k);
}

pub returns-then-parameters_at-parameters : goal.returns-then-parameters_at-parameters
returns-then-parameters_at-parameters c = record {
  told = λ said rows t k g made fits.
      other_parameters said rows c.args.name.now c.parameters_at.result c.args.parameters t
      (ap (λ n. Some (an_abbreviation n)) c.parameters_at.ensures ∙ ap (λ m. Some (said_as c.args.self.now.names m)) (sym c.in-Some-Abbreviation.field-0-is) ∙ c.in-Some-Abbreviation.ensures.means said k) c.if-parameters_at-parameters.true;
}

pub returns-else-parameters_at-parameters : goal.returns-else-parameters_at-parameters
returns-else-parameters_at-parameters c = record {
  told = λ said rows t k g made fits.
      let means = ap (λ n. Some (an_abbreviation n)) c.parameters_at.ensures ∙ ap (λ m. Some (said_as c.args.self.now.names m)) (sym c.in-Some-Abbreviation.field-0-is) ∙ c.in-Some-Abbreviation.ensures.means said k in
      let place = sym (ap place_meant (ap (λ m. Some m) c.in-Some-Abbreviation.field-0-is)) ∙ c.in-Some-Abbreviation.ensures.place said k in
      body_told c.args.self.now.bodies.types.bank c.args.self.now.bodies.bodies.items said rows c.args.name.now c.in-Some-Abbreviation.place c.args.parameters t c.args.body
      g (sym place) (sym means ∙ ap (λ n. Some (an_abbreviation n)) c.if-parameters_at-parameters.false) made fits
      c.has_other_body-is_other.result c.has_other_body-is_other.ensures.other c.has_other_body-is_other.ensures.same c.if_alike.result c.if_alike.ensures.first;
}
