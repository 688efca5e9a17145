use Rattle.std.proofs.Common.{◌∙◌, sym}
use Rattle.std.proofs.lemmas.Bool.{eqb-true}
use Rattle.lp_pattern.proofs.FilledTerms.{types_noted, terms_later, parameter_made, parameter_stays}
use Rattle.lp_pattern.proofs.fill.parameter.Goals as goal

pub returns-then-eq-clause-made : goal.returns-then-eq-clause-made
returns-then-eq-clause-made c = λ d R h F k e.
    let w = c.in_ok-made.ensures.filled d.types R.types F.types in (
      types_noted c.args.bank.now c.filled_in.new.bank d c.args.done.now c.filled_in.new.done c.in_ok-made.ensures.kept F w.0,
      parameter_stays c.args.bank.now c.filled_in.new.bank d c.args.number c.args.id c.args.of c.in_ok-made.made c.in_ok-made.ensures.kept c.requires k e w.2
          (eqb-true c.in_ok-made.made.0 c.args.of.0 (sym c.eq.ensures ∙ c.if-eq.true)),
    )

pub returns-clause-made : goal.returns-clause-made
returns-clause-made c = λ d R h F k e.
    let w = c.in_ok-made.ensures.filled d.types R.types F.types in (
      terms_later c.filled_in.new.bank c.put_parameter.new.bank d _ c.in_ok-new.ensures.kept (types_noted c.args.bank.now c.filled_in.new.bank d c.args.done.now c.filled_in.new.done c.in_ok-made.ensures.kept F w.0),
      parameter_made c.args.bank.now c.filled_in.new.bank c.put_parameter.new.bank d c.args.number c.args.id c.in_ok-new.new c.args.of c.in_ok-made.made e w.2 c.in_ok-new.ensures.within c.in_ok-new.ensures.tree,
    )
