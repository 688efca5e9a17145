use Rattle.std.proofs.Common.{length, refl, inl, inr, ap}
use Rattle.lp_code.specs.Symbolic.{type_in}
use Rattle.lp_code.specs.declared.instruction.Instr.TheVariants as on
use Rattle.lp_verify.specs.inner.Outline.{taken_by}
use Rattle.std.proofs.lemmas.Result.{on_ok_weaker}
use Rattle.lp_verify.proofs.HeadTypes.{takes_type, takes_argument, takes_nothing, takes_none_of}
use Rattle.lp_verify.proofs.head.HeadSoFar.take.Goals as goal

pub returns-in-GetType-clause-head : goal.returns-in-GetType-clause-head
returns-in-GetType-clause-head c =
    let i = c.args.instr.now in
    on_ok_weaker c.add_type.result (λ m h s t small k old typed order f. m h s t (type_in s.now c.in-GetType.field-1) k old (typed (type_in s.now c.in-GetType.field-1) (ap (taken_by s) c.in-GetType.is)) (takes_type h s t i _ c.in-GetType.field-1 c.in-GetType.is order f)) c.add_type.ensures.head

pub returns-in-GetVar-clause-head : goal.returns-in-GetVar-clause-head
returns-in-GetVar-clause-head c = λ h s t small k old typed order f.
    let i = c.args.instr.now in (
      k.uses,
      c.add_argument.ensures.head h s t small old (elim c.in-GetVar.is [
        | inl e ↦ takes_argument h s t i (on.GetVar e.0 e.1) e.2 refl refl f
        | inr (inl e) ↦ takes_argument h s t i (on.Get e.0 e.1) e.2 refl refl f
        | inr (inr (inl e)) ↦ takes_argument h s t i (on.GetConst e.0 e.1 e.2) e.3 refl refl f
        | inr (inr (inr (inl e))) ↦ takes_argument h s t i (on.GetInt e.0 e.1) e.2 refl refl f
        | inr (inr (inr (inr e))) ↦ takes_argument h s t i (on.GetStr e.0 e.1) e.2 refl refl f
      ]),
    )

pub returns-in_default-clause-head : goal.returns-in_default-clause-head
returns-in_default-clause-head c = λ h s t small k old typed order f.
    let i = c.args.instr.now in
    let n = takes_none_of i c.in_default.not-GetType c.in_default.not-GetVar c.in_default.not-Get c.in_default.not-GetConst c.in_default.not-GetInt c.in_default.not-GetStr in
    (k.uses, takes_nothing c.args.types.now h s t i c.args.self.now (n.0 s) (n.1 (length s.head_arguments)) f old)
