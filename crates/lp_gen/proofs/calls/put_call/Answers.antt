use Rattle.lp_gen.proofs.CallsUsed.{own_takes, other_takes}
use Rattle.lp_code.specs.Length.{length_of}
use Rattle.lp_gen.proofs.Using.{plain_said, no_plain_code, uses_same}
use Rattle.lp_code.specs.declared.instruction.Instr.TheVariants as instr
use Rattle.lp_gen.specs.Registers.{past, call_takes}
use Rattle.lp_gen.specs.inner.Using.{Lacks}
use Rattle.lp_lemmas.proofs.Results.{passed_up}
use Rattle.std.proofs.Common.{◌∙◌, ap, sym, ◌≡◌, ◌+◌, ◌*◌, Some, None, length, refl, subst}
use Rattle.lp_standard.specs.Constants.{numbered}
use Rattle.lp_gen.specs.inner.Saying.{own_numbered}
use Rattle.lp_gen.proofs.GoalPut.{numbered_short, own_put, call_put}
use Rattle.lp_gen.proofs.calls.put_call.Goals as goal

pub returns-in_ok-emit-in-Some-clause-code : goal.returns-in_ok-emit-in-Some-clause-code
returns-in_ok-emit-in-Some-clause-code c =
    own_put c.args.emitter.now c.emit.new.self c.in-Some.instr c.args.number c.args.types.items c.args.terms.items
    (ap (λ ts. own_numbered (numbered c.args.number) ts c.args.terms.items) (sym c.as_slice.ensures.value)
    ∙ ap (own_numbered (numbered c.args.number) c.as_slice.result.now) (sym c.as_slice-2.ensures.value) ∙ sym c.in-Some.ensures)
    c.in_ok-emit-in-Some.ensures.code c.in_ok-emit-in-Some.ensures.types c.in_ok-emit-in-Some.ensures.registers

pub returns-in_ok-emit-in-None-clause-code : goal.returns-in_ok-emit-in-None-clause-code
returns-in_ok-emit-in-None-clause-code c =
    call_put c.args.emitter.now c.emit-in-None.new.self c.args.number c.args.types c.args.terms c.in_ok-emit-in-None.ensures.code c.in_ok-emit-in-None.ensures.types
    c.in_ok-emit-in-None.ensures.registers

pub emit-requires : goal.emit-requires
emit-requires c = numbered_short (numbered c.args.number) c.as_slice.result.now c.as_slice-2.result.now c.in-Some.instr (sym c.in-Some.ensures)

pub returns-in_ok-emit-in-Some-clause-uses : goal.returns-in_ok-emit-in-Some-clause-uses
returns-in_ok-emit-in-Some-clause-uses c =
    let own : own_numbered (numbered c.args.number) c.args.types.items c.args.terms.items ≡ Some c.in-Some.instr = ap (λ ts. own_numbered (numbered c.args.number) ts c.args.terms.items) (sym c.as_slice.ensures.value)
    ∙ ap (own_numbered (numbered c.args.number) c.as_slice.result.now) (sym c.as_slice-2.ensures.value) ∙ sym c.in-Some.ensures in
    let w = own_takes c.args.number c.args.types.items c.args.terms.items c.in-Some.instr own in
    uses_same (sym w.0) (plain_said c.in-Some.instr (length_of c.in-Some.instr) 0 c.in_ok-emit-in-Some.ensures.types c.in_ok-emit-in-Some.ensures.registers c.in_ok-emit-in-Some.ensures.place c.in_ok-emit-in-Some.ensures.room refl w.1)

pub returns-in_err-emit-in-Some-clause-lacks : goal.returns-in_err-emit-in-Some-clause-lacks
returns-in_err-emit-in-Some-clause-lacks c =
    let own : own_numbered (numbered c.args.number) c.args.types.items c.args.terms.items ≡ Some c.in-Some.instr = ap (λ ts. own_numbered (numbered c.args.number) ts c.args.terms.items) (sym c.as_slice.ensures.value)
    ∙ ap (own_numbered (numbered c.args.number) c.as_slice.result.now) (sym c.as_slice-2.ensures.value) ∙ sym c.in-Some.ensures in
    let w = own_takes c.args.number c.args.types.items c.args.terms.items c.in-Some.instr own in
    let e = c.in_err-emit-in-Some.field-0.0 in
    passed_up c.from_residual.result e (Lacks c.args.emitter.now (call_takes c.args.number (length c.args.types.items) (length c.args.terms.items))) c.from_residual.ensures.1
    (subst (λ a. Lacks c.args.emitter.now a e) (sym w.0) (no_plain_code c.args.emitter.now c.in-Some.instr (length_of c.in-Some.instr) 0 e refl w.1 c.in_err-emit-in-Some.ensures.cause))

pub returns-in_ok-emit-in-None-clause-uses : goal.returns-in_ok-emit-in-None-clause-uses
returns-in_ok-emit-in-None-clause-uses c =
    let own : own_numbered (numbered c.args.number) c.args.types.items c.args.terms.items ≡ None = ap (λ ts. own_numbered (numbered c.args.number) ts c.args.terms.items) (sym c.as_slice.ensures.value)
    ∙ ap (own_numbered (numbered c.args.number) c.as_slice.result.now) (sym c.as_slice-2.ensures.value) ∙ sym c.in-None.ensures in
    let w = other_takes c.args.number c.args.types.items c.args.terms.items own in
    uses_same (sym w) (plain_said (instr.Call c.args.number c.args.types c.args.terms) (5 + 2 * length c.args.types.items + 2 * length c.args.terms.items) (past 255 (length c.args.types.items) + past 255 (length c.args.terms.items)) c.in_ok-emit-in-None.ensures.types c.in_ok-emit-in-None.ensures.registers c.in_ok-emit-in-None.ensures.place c.in_ok-emit-in-None.ensures.room refl refl)

pub returns-in_err-emit-in-None-clause-lacks : goal.returns-in_err-emit-in-None-clause-lacks
returns-in_err-emit-in-None-clause-lacks c =
    let own : own_numbered (numbered c.args.number) c.args.types.items c.args.terms.items ≡ None = ap (λ ts. own_numbered (numbered c.args.number) ts c.args.terms.items) (sym c.as_slice.ensures.value)
    ∙ ap (own_numbered (numbered c.args.number) c.as_slice.result.now) (sym c.as_slice-2.ensures.value) ∙ sym c.in-None.ensures in
    let w = other_takes c.args.number c.args.types.items c.args.terms.items own in
    let e = c.in_err-emit-in-None.field-0.0 in
    passed_up c.from_residual-in_err-emit-in-None.result e (Lacks c.args.emitter.now (call_takes c.args.number (length c.args.types.items) (length c.args.terms.items))) c.from_residual-in_err-emit-in-None.ensures.1
    (subst (λ a. Lacks c.args.emitter.now a e) (sym w) (no_plain_code c.args.emitter.now (instr.Call c.args.number c.args.types c.args.terms) (5 + 2 * length c.args.types.items + 2 * length c.args.terms.items) (past 255 (length c.args.types.items) + past 255 (length c.args.terms.items)) e refl refl c.in_err-emit-in-None.ensures.cause))
