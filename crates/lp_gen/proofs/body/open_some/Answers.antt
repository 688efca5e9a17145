use Rattle.std.proofs.Common.{refl, ◌∙◌, ◌++◌, ◌∷◌, [], ap}
use Rattle.lp_code.specs.declared.instruction.Instr.TheVariants as on
use Rattle.lp_gen.specs.inner.Bodies.{pushed}
use Rattle.lp_gen.specs.inner.Listing.{around_of}
use Rattle.lp_gen.specs.inner.GoalCode.{quantified}
use Rattle.lp_term.specs.Nodes.{type_tree}
use Rattle.lp_lemmas.proofs.Results.{passed_up}
use Rattle.lp_gen.specs.Registers.{variable_takes}
use Rattle.lp_gen.specs.inner.Using.{Lacks}
use Rattle.lp_gen.proofs.BodyUsed.{variable_uses, no_variable, not_opened}
use Rattle.lp_gen.proofs.body.open_some.Goals as goal

pub returns-clause-code : goal.returns-clause-code
returns-clause-code c =
    let x = c.in_ok-made.ensures.code in
    let T = type_tree c.args.bank.now c.args.of.0 in (
      x.0,
      c.in_ok-made.made.1,
      x.1,
      c.in_ok-emit.ensures.code ∙ (λ i. x.2 i ++ on.Sigma (x.5 i) c.in_ok-made.made.1 ∷ []),
      c.in_ok-emit.ensures.types ∙ x.3,
      c.in_ok-emit.ensures.registers ∙ x.4,
      x.6 ∙ ap (λ r. pushed (around_of c.args.bank.now c.args.environment.now) (quantified r T)) x.5,
    )

pub returns-clause-uses : goal.returns-clause-uses
returns-clause-uses c =
    variable_uses (type_tree c.args.bank.now c.args.of.0) (on.Sigma c.in_ok-made.made.0 c.in_ok-made.made.1) refl c.in_ok-made.ensures.uses c.in_ok-emit.ensures.types c.in_ok-emit.ensures.registers
    c.in_ok-emit.ensures.place

pub returns-in_err-made-clause-lacks : goal.returns-in_err-made-clause-lacks
returns-in_err-made-clause-lacks c =
    let T = type_tree c.args.bank.now c.args.of.0 in
    let e = c.in_err-made.field-0.0 in
    passed_up c.from_residual.result e (Lacks c.args.emitter.now (variable_takes T)) c.from_residual.ensures.1 (not_opened c.args.emitter.now T e c.in_err-made.ensures.lacks)

pub returns-in_err-emit-clause-lacks : goal.returns-in_err-emit-clause-lacks
returns-in_err-emit-clause-lacks c =
    let T = type_tree c.args.bank.now c.args.of.0 in
    let e = c.in_err-emit.field-0.0 in
    passed_up c.from_residual-in_err-emit.result e (Lacks c.args.emitter.now (variable_takes T)) c.from_residual-in_err-emit.ensures.1
    (no_variable c.args.emitter.now c.open_variable.new.emitter T (on.Sigma c.in_ok-made.made.0 c.in_ok-made.made.1) e refl refl c.in_ok-made.ensures.uses c.in_err-emit.ensures.cause)
