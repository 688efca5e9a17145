use Rattle.std.proofs.Common.{◌∙◌, ap, sym, subst, length}
use Rattle.lp_code.specs.Steps.{is_made}
use Rattle.lp_verify.specs.inner.Known.{type_made_in, AreAbove, AreNumbered}
use Rattle.lp_verify.proofs.OwnTypes.{own_numbers}
use Rattle.lp_verify.proofs.record.own_types_of.Goals as goal

pub returns : goal.returns
returns c =
    let rs = c.in_ok-registers.registers.items in
    let e = c.as_slice-2.ensures.value in
    own_numbers c.args.of.now rs c.in_ok-made.made c.in_ok-numbers.numbers (λ d. c.in_ok-made.ensures d ∙ ap (λ l. is_made type_made_in l d) c.as_slice.ensures.value) c.in_ok-registers.ensures.has c.in_ok-registers.ensures.above
    (subst (λ l. AreNumbered l (length l) c.in_ok-numbers.numbers) e (c.in_ok-numbers.ensures (subst (AreAbove 0) (sym e) c.in_ok-registers.ensures.above)))
