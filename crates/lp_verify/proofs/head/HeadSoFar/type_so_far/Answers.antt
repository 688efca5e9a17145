use Rattle.std.proofs.Common.{◌≡◌, ◌∙◌, Some, ap, sym, subst}
use Rattle.lp_code.specs.declared.record.RecordHead.TheVariants.{Const}
use Rattle.lp_code.specs.Symbolic.{Built}
use Rattle.lp_code.specs.Steps.{built_of}
use Rattle.lp_verify.specs.inner.FirstNumbers.{IsType, AreTypes}
use Rattle.lp_verify.proofs.HeadTypes.{constant_there, no_constant_there}
use Rattle.lp_verify.proofs.head.HeadSoFar.type_so_far.Goals as goal

pub returns-in_ok-of-in-Some-clause-made : goal.returns-in_ok-of-in-Some-clause-made
returns-in_ok-of-in-Some-clause-made c = λ h s k e types given.
    let x = c.args.types.now in
    let y = c.constant_on.new.types in
    let p = c.args.self.now.predicate in
    let there : p ≡ Some (Const c.in-Some.constant) = constant_there p c.in-Some.constant (sym c.constant_of.ensures ∙ c.in-Some.is) in
    let q = c.in_ok-of-in-Some.ensures.made h s.head_types k (subst (λ l. AreTypes x l s.head_types) (sym c.as_slice.ensures.value) types) in
    (q.1, subst (λ (b : Built). IsType y c.in_ok-of-in-Some.of b.type) (sym (ap (built_of h s) (sym e ∙ there))) q.0)

pub returns-in-None-clause-made : goal.returns-in-None-clause-made
returns-in-None-clause-made c = λ h s k e types given. (k.uses, given (no_constant_there c.args.self.now.predicate (sym c.constant_of.ensures ∙ c.in-None.is)))
