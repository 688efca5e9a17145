use Rattle.std.proofs.Common.{◌≡◌, ◌∙◌, ◌∷◌, ◌+◌, drop, take, ap, refl, sym, arith}
use Rattle.lp_lemmas.proofs.Lists.{drop_read}
use Rattle.lp_verify.proofs.Faults.{none_left}
use Rattle.lp_verify.proofs.FirstTaken.{neck_passed, neck_found, no_neck}
use Rattle.lp_verify.proofs.arguments.head_length.Goals as goal

pub loop-instr-init : goal.loop-instr-init
loop-instr-init c = (refl, refl)

pub loop-instr-preserved : goal.loop-instr-preserved
loop-instr-preserved c =
    let code = c.args.code.now in
    let n = c.loop-instr.instr-index in
    let i = c.instr-item.result in
    let at : drop n code ≡ i ∷ drop (n + 1) code = drop_read code n i c.loop-instr-test.true c.instr-item.is in
    (grind arith, neck_passed code n i at (sym c.is_behind_neck-neck.ensures ∙ c.if-neck.false) c.loop-instr.invariant.1)

pub returns-then-neck-clause-are : goal.returns-then-neck-clause-are
returns-then-neck-clause-are c =
    let code = c.args.code.now in
    let n = c.loop-instr.instr-index in
    let i = c.instr-item.result in
    let at : drop n code ≡ i ∷ drop (n + 1) code = drop_read code n i c.loop-instr-test.true c.instr-item.is in
    ap (λ m. take m code) c.loop-instr.invariant.0 ∙ neck_found code n i at (sym c.is_behind_neck-neck.ensures ∙ c.if-neck.true) c.loop-instr.invariant.1

pub returns-clause-are : goal.returns-clause-are
returns-clause-are c =
    let code = c.args.code.now in
    let n = c.loop-instr.instr-index in
    ap (λ m. take m code) c.loop-instr.invariant.0 ∙ no_neck code n (none_left code code n refl (omega (arith, c.loop-instr-test.false))) c.loop-instr.invariant.1
