use Rattle.lp_gen.proofs.StepsUsed.{listed_leads}
use Rattle.lp_gen.proofs.Using.{uses_same}
use Rattle.lp_gen.specs.inner.Stacked.{AreStacked}
use Rattle.lp_gen.specs.Registers.{term_takes, steps_take}
use Rattle.lp_gen.specs.inner.Using.{Lacks}
use Rattle.lp_lemmas.proofs.Results.{passed_up}
use Rattle.std.proofs.Common.{subst, ◌≡◌, ◌∙◌, [], map, ap, sym}
use Rattle.lp_term.specs.Nodes.{tree}
use Rattle.lp_gen.specs.inner.Reading.{read}
use Rattle.lp_gen.specs.Steps.{constant_function, listed}
use Rattle.lp_gen.specs.inner.Listing.{around_of, plain_step}
use Rattle.lp_gen.specs.inner.TermSteps.{TermOfSteps}
use Rattle.lp_gen.proofs.TermWritten.{term_written}
use Rattle.lp_gen.proofs.terms.put_term.Goals as goal

pub returns-clause-code : goal.returns-clause-code
returns-clause-code c =
    let b = c.args.tables.bank.now in
    term_written (constant_function b c.args.tables.constants.now) b c.args.emitter.now c.put_steps.new.emitter c.args.environment.now c.list_steps.new.environment c.in_ok-steps.steps.items
    c.in_ok-register.register (read b c.args.of) (tree b c.args.term.0)
    (subst (TermOfSteps b c.args.emitter.now c.put_steps.new.emitter c.in_ok-register.register) c.as_slice.ensures.value c.in_ok-register.ensures.code) c.in_ok-steps.ensures

pub returns-clause-around : goal.returns-clause-around
returns-clause-around c =
    c.in_ok-steps.ensures.around

pub put_steps-requires : goal.put_steps-requires
put_steps-requires c =
    let b = c.args.tables.bank.now in
    let steps : map (plain_step b) c.as_slice.result.now ≡ (listed (constant_function c.args.tables.bank.now c.args.tables.constants.now) [] (around_of c.args.tables.bank.now c.args.environment.now) (read c.args.tables.bank.now c.args.of) (tree c.args.tables.bank.now c.args.term.0)).steps = ap (map (plain_step b)) c.as_slice.ensures.value ∙ c.in_ok-steps.ensures.steps in
    subst (AreStacked 0) (sym steps) (listed_leads (constant_function c.args.tables.bank.now c.args.tables.constants.now) [] (around_of c.args.tables.bank.now c.args.environment.now) (read c.args.tables.bank.now c.args.of) (tree c.args.tables.bank.now c.args.term.0) 0).0

pub returns-clause-uses : goal.returns-clause-uses
returns-clause-uses c =
    let b = c.args.tables.bank.now in
    let steps : map (plain_step b) c.as_slice.result.now ≡ (listed (constant_function c.args.tables.bank.now c.args.tables.constants.now) [] (around_of c.args.tables.bank.now c.args.environment.now) (read c.args.tables.bank.now c.args.of) (tree c.args.tables.bank.now c.args.term.0)).steps = ap (map (plain_step b)) c.as_slice.ensures.value ∙ c.in_ok-steps.ensures.steps in
    uses_same (ap steps_take steps) c.in_ok-register.ensures.uses

pub returns-in_err-register-clause-lacks : goal.returns-in_err-register-clause-lacks
returns-in_err-register-clause-lacks c =
    let b = c.args.tables.bank.now in
    let steps : map (plain_step b) c.as_slice.result.now ≡ (listed (constant_function c.args.tables.bank.now c.args.tables.constants.now) [] (around_of c.args.tables.bank.now c.args.environment.now) (read c.args.tables.bank.now c.args.of) (tree c.args.tables.bank.now c.args.term.0)).steps = ap (map (plain_step b)) c.as_slice.ensures.value ∙ c.in_ok-steps.ensures.steps in
    let e = c.in_err-register.field-0.0 in
    passed_up c.from_residual-in_err-register.result e (Lacks c.args.emitter.now (term_takes (constant_function c.args.tables.bank.now c.args.tables.constants.now) (around_of c.args.tables.bank.now c.args.environment.now) (read c.args.tables.bank.now c.args.of) (tree c.args.tables.bank.now c.args.term.0))) c.from_residual-in_err-register.ensures.1
    (subst (λ x. Lacks c.args.emitter.now x e) (ap steps_take steps) c.in_err-register.ensures.lacks)
