use Rattle.std.proofs.Common.{ℕ, Option}
use Rattle.lp_calculus.specs.Typing.{Scheme}
use Rattle.lp_term.specs.Nodes.{tree}
use Rattle.lp_term.proofs.Moves.{passed_up}
use Rattle.lp_module.specs.Refusals.{IsFormFault}
use Rattle.lp_module.specs.declared.fault.ModuleFault.TheVariants as fault
use Rattle.lp_module.specs.inner.Judging.{AreHeads}
use Rattle.lp_module.proofs.form.check_form.Goals as goal

pub returns-in_err-normal-clause-refused : goal.returns-in_err-normal-clause-refused
returns-in_err-normal-clause-refused c =
    passed_up c.from_residual.result c.in_err-normal.field-0.0 (λ e. (d : ℕ → Option Scheme) → AreHeads d c.args.heads.now → IsFormFault d c.args.goal c.args.type_vars (tree c.args.bank.now c.args.formula.0) c.args.first e) c.from_residual.ensures.1
    (λ d h. c.in_err-normal.ensures.refused d c.args.goal c.args.type_vars c.args.first)

pub returns-in_err-verdict-clause-refused : goal.returns-in_err-verdict-clause-refused
returns-in_err-verdict-clause-refused c =
    passed_up c.from_residual-in_err-verdict.result fault.Memory (λ e. (d : ℕ → Option Scheme) → AreHeads d c.args.heads.now → IsFormFault d c.args.goal c.args.type_vars (tree c.args.bank.now c.args.formula.0) c.args.first e) c.from_residual-in_err-verdict.ensures.1 (λ d h. tt)

pub returns-in_err-first_fault-clause-refused : goal.returns-in_err-first_fault-clause-refused
returns-in_err-first_fault-clause-refused c =
    passed_up c.from_residual-in_err-first_fault.result c.in_err-first_fault.field-0.0 (λ e. (d : ℕ → Option Scheme) → AreHeads d c.args.heads.now → IsFormFault d c.args.goal c.args.type_vars (tree c.args.bank.now c.args.formula.0) c.args.first e) c.from_residual-in_err-first_fault.ensures.1
    (λ d h. c.in_err-first_fault.ensures.refused d c.args.goal (tree c.args.bank.now c.args.formula.0) (tree c.normal_of.new.bank c.in_ok-normal.normal.0) (c.in_ok-verdict.ensures.verdict d h) c.in_ok-normal.ensures.form)

pub returns-clause-formed : goal.returns-clause-formed
returns-clause-formed c = λ d h.
    c.in_ok-first_fault.ensures.formed d c.args.goal (tree c.args.bank.now c.args.formula.0) (tree c.normal_of.new.bank c.in_ok-normal.normal.0) (c.in_ok-verdict.ensures.verdict d h) c.in_ok-normal.ensures.form
