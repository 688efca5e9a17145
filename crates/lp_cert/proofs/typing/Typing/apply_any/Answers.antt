use Rattle.std.proofs.Common.{◌∙◌, arith, refl, ap, ◌++◌, ◌∷◌, []}
use Rattle.lp_cert.proofs.Applying.{any_solves, arrow_seen}
use Rattle.lp_cert.proofs.Completing.{any_keeps}
use Rattle.lp_cert.proofs.typing.Typing.apply_any.Goals as goal

pub returns-clause-applies : goal.returns-clause-applies
returns-clause-applies c = λ y.
    let g = c.in_ok-to.ensures.grown in
    let t = c.in_ok-equate.ensures.grown in
    record {
      constants = t.constants ∙ g.rest.constants;
      eigens = t.eigens ∙ g.rest.eigens;
      context = t.context ∙ g.rest.context;
      tasks = t.tasks ∙ g.rest.tasks;
      solves = λ b e θ s.
          let more = c.in_ok-to.ensures.kept.more_types in
          let l = c.requires.argument in
          any_solves b θ c.args.self.now c.new_variable.new.self c.equate.new.self c.push.new.self.items c.args.head c.args.argument c.in_ok-to.to c.in_ok-of.of g t c.in_ok-push.ensures.items
          (arrow_seen c.new_variable.new.bank c.put_arrow.new.bank b c.args.argument c.in_ok-to.to c.in_ok-of.of c.in_ok-of.ensures.kept e (omega (arith, l, more)) c.in_ok-to.ensures.within c.in_ok-of.ensures.within c.in_ok-of.ensures.tree) s;
    }

pub returns-clause-keeps : goal.returns-clause-keeps
returns-clause-keeps c = λ y lh la. (
  refl,
  any_keeps c.args.bank.now c.new_variable.new.bank c.put_arrow.new.bank c.args.self.now c.new_variable.new.self c.equate.new.self _ c.args.head c.args.argument c.in_ok-to.to c.in_ok-of.of c.in_ok-to.ensures.kept c.in_ok-of.ensures.kept y lh la c.in_ok-to.ensures.grown c.in_ok-to.ensures.next
      c.in_ok-equate.ensures.equated c.in_ok-equate.ensures.grown.constants c.in_ok-equate.ensures.grown.eigens c.in_ok-equate.ensures.grown.context c.in_ok-equate.ensures.grown.tasks
      (c.in_ok-push.ensures.items ∙ ap (λ x. x.items ++ c.in_ok-to.to ∷ []) (c.in_ok-equate.ensures.grown.stack ∙ c.in_ok-to.ensures.grown.stack)) refl refl c.in_ok-to.ensures.within c.in_ok-to.ensures.fresh c.in_ok-of.ensures.within c.in_ok-of.ensures.tree,
)
