use Rattle.std.proofs.Common.{◌∙◌, sym, ap, length, map}
use Rattle.lp_calculus.specs.Term.{apply, atom, logic}
use Rattle.lp_term.specs.Spine.{abstractions}
use Rattle.lp_term.specs.Nodes.{tree}
use Rattle.lp_term.proofs.Walking.{on_ok}
use Rattle.lp_pattern.specs.Reading.{side_of}
use Rattle.lp_pattern.proofs.Pushing.{terms_stay}
use Rattle.lp_pattern.proofs.Renewing.{renewed_value}
use Rattle.lp_pattern.proofs.prune.renew.Goals as goal

pub returns-clause-bound : goal.returns-clause-bound
returns-clause-bound c =
    on_ok c.put_term.result _ _
    (λ m d a. (
      c.in_ok-value.value,
      m,
      c.in_ok-value.ensures.within,
      c.in_ok-value.ensures.tree ∙
          ap (abstractions (length c.args.eigens.now))
          (c.in_ok-body.ensures.tree ∙
          (λ i. apply ((c.in_ok-variable.ensures.tree ∙ ap (λ l. atom (logic c.args.next.now l)) c.smaller.ensures) i)
          ((ap (map (λ t. tree c.put_variable.new.bank t.0)) c.as_slice.ensures.value ∙ (terms_stay c.put_allowed.new.bank c.put_variable.new.bank c.in_ok-arguments.arguments.items _ c.in_ok-variable.ensures.kept c.in_ok-arguments.ensures.terms).trees) i))) ∙
          sym (renewed_value (side_of c.args.side.now) c.args.next.now c.args.id c.args.level c.args.eigens.now d a),
    ))
    c.put_term.ensures.made
