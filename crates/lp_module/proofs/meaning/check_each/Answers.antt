use Rattle.std.proofs.Common.{ℕ, Option, ◌≡◌, ◌∙◌, false, inr, subst, arith}
use Rattle.std.specs.Prelude.{◌⊎◌, All}
use Rattle.std.proofs.lemmas.List.{take_all}
use Rattle.lp_calculus.specs.Typing.{Scheme}
use Rattle.lp_term.specs.Nodes.{tree}
use Rattle.lp_term.specs.Same.{same_map}
use Rattle.lp_term.proofs.MapLaws.{same_is_map, same_term}
use Rattle.lp_term.proofs.Memos.{made_later}
use Rattle.lp_term.proofs.Moves.{passed_up}
use Rattle.lp_module.specs.Clauses.{IsFormed}
use Rattle.lp_module.specs.Refusals.{IsFormFault}
use Rattle.lp_module.specs.declared.fault.ModuleFault.TheVariants as fault
use Rattle.lp_module.specs.inner.Judging.{AreHeads}
use Rattle.lp_module.specs.inner.Typed.{IsFormedIn, IsFirstUnformed}
use Rattle.lp_module.proofs.Typed.{all_more, first_unformed}
use Rattle.lp_module.proofs.meaning.check_each.Goals as goal

pub loop-at-init : goal.loop-at-init
loop-at-init c = (c.new-measures.ensures c.new-scratch.result, c.new-copied.ensures same_map c.args.bank.now c.new-scratch.result, λ d heads k s h. absurd (omega (arith, h)))

pub loop-at-preserved : goal.loop-at-preserved
loop-at-preserved c =
    let s = c.index-sentences-at.result in
    let i = same_is_map c.args.bank.now c.loop-at.scratch in
    let same = c.in_ok-formula.ensures.made same_map i c.loop-at.invariant.1 ∙ same_term (tree c.args.bank.now s.typed.formula.0) in (
      c.in_ok-check_form.ensures.measured,
      made_later same_map c.args.bank.now c.copy.new.to c.check_form.new.bank c.copy.new.self c.in_ok-check_form.ensures.kept (c.in_ok-formula.ensures.memo same_map i c.loop-at.invariant.1),
      λ d h. all_more (IsFormedIn d c.args.bank.now) c.args.sentences.now c.loop-at.at s c.loop-at-test.true c.index-sentences-at.is (c.loop-at.invariant.2 d h) (subst (IsFormed d false s.typed.type_vars) same (c.in_ok-check_form.ensures.formed d h)),
    )

pub returns-clause-formed : goal.returns-clause-formed
returns-clause-formed c = λ d h. subst (All (IsFormedIn d c.args.bank.now)) (take_all c.loop-at.at c.args.sentences.now c.loop-at-test.false) (c.loop-at.invariant.2 d h)

pub returns-in_err-check_form-clause-refused : goal.returns-in_err-check_form-clause-refused
returns-in_err-check_form-clause-refused c =
    let s = c.index-sentences-at.result in
    let e = c.in_err-check_form.field-0.0 in
    let i = same_is_map c.args.bank.now c.loop-at.scratch in
    let same = c.in_ok-formula.ensures.made same_map i c.loop-at.invariant.1 ∙ same_term (tree c.args.bank.now s.typed.formula.0) in
    passed_up c.from_residual-in_err-check_form.result e (λ e. (d : ℕ → Option Scheme) → AreHeads d c.args.heads.now → (e ≡ fault.Memory) ⊎ IsFirstUnformed d c.args.bank.now c.args.sentences.now e) c.from_residual-in_err-check_form.ensures.1
    (λ d h. inr (first_unformed d c.args.bank.now c.args.sentences.now c.loop-at.at s e c.loop-at-test.true c.index-sentences-at.is (c.loop-at.invariant.2 d h)
    (subst (λ t. IsFormFault d false s.typed.type_vars t s.first e) same (c.in_err-check_form.ensures.refused d h))))
