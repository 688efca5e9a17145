use Rattle.std.proofs.Common.{refl, inl, inr}
use Rattle.std.proofs.lemmas.Result.{IfOk-weaker}
use Rattle.lp_calculus.specs.Typing.{int_type}
use Rattle.lp_code.specs.Symbolic.{type_in}
use Rattle.lp_verify.specs.inner.Indices.{store}
use Rattle.lp_verify.specs.inner.Made.{nothing_built}
use Rattle.lp_verify.proofs.TermsMade.{made_at, type_known, call_by}
use Rattle.lp_verify.proofs.Instructions.{no_goal_typed}
use Rattle.lp_verify.proofs.record.Work.typed.Goals as goal

pub returns-in_ok-call-in-Call-clause-made : goal.returns-in_ok-call-in-Call-clause-made
returns-in_ok-call-in-Call-clause-made c =
    call_by c.args.types.now c.constant_type.new.types c.args.lists.now c.args.self.now c.args.instr.now c.in-Call.constant c.in-Call.arguments
    c.in-Call.terms c.as_slice.result.now c.as_slice-in-Call.result.now c.in_ok-of-in-Call.of c.in_ok-call-in-Call.call c.in-Call.is
    c.as_slice.ensures.value c.as_slice-in-Call.ensures.value c.in_ok-of-in-Call.ensures.grow c.in_ok-of-in-Call.ensures.made
    c.in_ok-call-in-Call.ensures

pub returns-in-CallTerm-clause-made : goal.returns-in-CallTerm-clause-made
returns-in-CallTerm-clause-made c =
    let m = store c.args.types.now c.args.lists.now in
    made_at m m c.args.self.now c.args.instr.now _ c.is_goal.result c.in-CallTerm.is (λ h s k set. (k.of_head.constants.uses, c.is_goal.ensures c.args.lists.now h s nothing_built k refl refl refl))

pub returns-in-Less-clause-made : goal.returns-in-Less-clause-made
returns-in-Less-clause-made c =
    let m = store c.args.types.now c.args.lists.now in
    elim c.in-Less.is [
      | inl e ↦ made_at m m c.args.self.now c.args.instr.now _ c.have_type.result e (λ h s k set. (k.of_head.constants.uses, c.have_type.ensures c.args.lists.now h s int_type nothing_built k k.of_head.constants.basics.integer refl refl refl))
      | inr (inl e) ↦ made_at m m c.args.self.now c.args.instr.now _ c.have_type.result e (λ h s k set. (k.of_head.constants.uses, c.have_type.ensures c.args.lists.now h s int_type nothing_built k k.of_head.constants.basics.integer refl refl refl))
      | inr (inr (inl e)) ↦ made_at m m c.args.self.now c.args.instr.now _ c.have_type.result e (λ h s k set. (k.of_head.constants.uses, c.have_type.ensures c.args.lists.now h s int_type nothing_built k k.of_head.constants.basics.integer refl refl refl))
      | inr (inr (inr e)) ↦ made_at m m c.args.self.now c.args.instr.now _ c.have_type.result e (λ h s k set. (k.of_head.constants.uses, c.have_type.ensures c.args.lists.now h s int_type nothing_built k k.of_head.constants.basics.integer refl refl refl))
    ]

pub returns-in-Equal-clause-made : goal.returns-in-Equal-clause-made
returns-in-Equal-clause-made c =
    let m = store c.args.types.now c.args.lists.now in
    elim c.in-Equal.is [
      | inl e ↦ made_at m m c.args.self.now c.args.instr.now _ c.have_type-in-Equal.result e
          (λ h s k set. (
            k.of_head.constants.uses,
            c.have_type-in-Equal.ensures c.args.lists.now h s (type_in s.now c.in-Equal.of) nothing_built k
                (type_known m c.args.self.now h s c.in-Equal.of c.type_in-of.result k c.type_in-of.ensures) refl refl refl,
          ))
      | inr e ↦ made_at m m c.args.self.now c.args.instr.now _ c.have_type-in-Equal.result e
          (λ h s k set. (
            k.of_head.constants.uses,
            c.have_type-in-Equal.ensures c.args.lists.now h s (type_in s.now c.in-Equal.of) nothing_built k
                (type_known m c.args.self.now h s c.in-Equal.of c.type_in-of.result k c.type_in-of.ensures) refl refl refl,
          ))
    ]

pub returns-in_default-clause-made : goal.returns-in_default-clause-made
returns-in_default-clause-made c = IfOk-weaker c.got.result _ _ (λ t m. m (no_goal_typed c.args.instr.now c.in_default.not-Call
    c.in_default.not-CallTerm c.in_default.not-Equal c.in_default.not-Is c.in_default.not-Less c.in_default.not-Greater c.in_default.not-AtMost
    c.in_default.not-AtLeast)) c.got.ensures.made
