use Rattle.std.proofs.Common.{◌≡◌, ◌<◌, ◌+◌, ◌∙◌, ◌∷◌, length, drop, get_or, ap, subst, arith}
use Rattle.lp_lemmas.proofs.Lists.{drop_read}
use Rattle.lp_verify.specs.inner.Keys.{IsTaken, GoesOnKeys}
use Rattle.lp_verify.proofs.KeyLaws.{nothing_kept, key_goes_on, key_found, no_key_found}
use Rattle.lp_verify.proofs.Faults.{none_left}
use Rattle.lp_verify.proofs.keys.first_key.Goals as goal

pub loop-instr-init : goal.loop-instr-init
loop-instr-init c = nothing_kept c.new-keys.result c.args.code.now.items c.new-keys.ensures.empty

pub loop-instr-preserved : goal.loop-instr-preserved
loop-instr-preserved c =
    let code = c.args.code.now.items in
    let n = c.loop-instr.instr-index in
    let i = c.instr-item.result in
    let at : drop n code ≡ i ∷ drop (n + 1) code = drop_read code n i (subst (λ l. n < length l) c.deref-instr-items.ensures.value c.loop-instr-test.true) (c.instr-item.is ∙ ap (λ l. get_or l n i) c.deref-instr-items.ensures.value) in
    key_goes_on c.loop-instr.keys c.pass.new.keys code i (drop (n + 1) code) (λ f is a. subst (IsTaken f i is) c.in_default.is (c.taken_key.ensures f is a)) c.in_ok-pass.ensures (subst (GoesOnKeys c.loop-instr.keys code) at c.loop-instr.invariant)

pub returns-in-Some : goal.returns-in-Some
returns-in-Some c =
    let code = c.args.code.now.items in
    let n = c.loop-instr.instr-index in
    let i = c.instr-item.result in
    let at : drop n code ≡ i ∷ drop (n + 1) code = drop_read code n i (subst (λ l. n < length l) c.deref-instr-items.ensures.value c.loop-instr-test.true) (c.instr-item.is ∙ ap (λ l. get_or l n i) c.deref-instr-items.ensures.value) in
    key_found c.loop-instr.keys code i (drop (n + 1) code) c.in-Some.key (λ f is a. subst (IsTaken f i is) c.in-Some.is (c.taken_key.ensures f is a)) (subst (GoesOnKeys c.loop-instr.keys code) at c.loop-instr.invariant)

pub returns : goal.returns
returns c =
    let code = c.args.code.now.items in
    no_key_found c.loop-instr.keys code (subst (GoesOnKeys c.loop-instr.keys code) (none_left code c.deref-instr-items.result.now c.loop-instr.instr-index c.deref-instr-items.ensures.value (omega (arith, c.loop-instr-test.false))) c.loop-instr.invariant)
