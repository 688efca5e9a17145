use Rattle.std.proofs.Common.{◌∙◌, sym, ap, subst, arith, length, get_or, refl}
use Rattle.std.proofs.lemmas.List.{get_or_read_under}
use Rattle.lp_term.specs.Nodes.{tree}
use Rattle.lp_module.specs.inner.Judging.{IsMeasure, no_measure}
use Rattle.lp_module.proofs.measure.Measures.known.Goals as goal

pub returns-in-None : goal.returns-in-None
returns-in-None c = λ b a h. let l = ap length c.deref.ensures.value in absurd (omega (arith, h, c.in-None.ensures.lookup.3, l))

pub returns-in-Some : goal.returns-in-Some
returns-in-Some c = λ b a h.
    let l = ap length c.deref.ensures.value in
    subst (λ m. IsMeasure m (tree b c.args.id.0))
    (sym (get_or_read_under c.deref.result.now c.args.id.0 (length c.deref.result.now) c.in-Some.measure.now no_measure c.in-Some.ensures.lookup.1 (omega (arith, h, l)) refl ∙ ap (λ xs. get_or xs c.args.id.0 no_measure) c.deref.ensures.value))
    (a.each c.args.id.0 h)
