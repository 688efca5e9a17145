use Rattle.std.proofs.Common.{◌∙◌, sym, ap, length, map}
use Rattle.lp_calculus.specs.Term.{apply}
use Rattle.lp_term.specs.Spine.{abstractions}
use Rattle.lp_term.specs.Nodes.{tree}
use Rattle.lp_term.proofs.Walking.{on_ok}
use Rattle.lp_pattern.proofs.Pushing.{terms_stay}
use Rattle.lp_pattern.proofs.Renewing.{joined_value}
use Rattle.lp_pattern.proofs.rules.join.Goals as goal

pub returns-clause-bound : goal.returns-clause-bound
returns-clause-bound c =
    on_ok c.put_term.result _ _
    (λ m d. (
      c.in_ok-value.value,
      m,
      c.in_ok-value.ensures.within,
      c.in_ok-value.ensures.tree ∙
          ap (abstractions (length c.args.ones.now))
          (c.in_ok-body.ensures.tree ∙
          (λ i. apply (c.in_ok-variable.ensures.tree i)
          ((ap (map (λ t. tree c.put_variable.new.bank t.0)) c.as_slice.ensures.value ∙ (terms_stay c.put_agreeing.new.bank c.put_variable.new.bank c.in_ok-arguments.arguments.items _ c.in_ok-variable.ensures.kept c.in_ok-arguments.ensures.terms).trees) i))) ∙
          sym (joined_value c.args.next.now c.args.id c.args.level c.args.ones.now c.args.others.now d),
    ))
    c.put_term.ensures.made
