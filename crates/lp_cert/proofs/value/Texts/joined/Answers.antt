use Rattle.std.proofs.Common.{refl, ◌∙◌, ◌++◌, ap, sym}
use Rattle.lp_cert.proofs.Evaluating.{texts_follow}
use Rattle.lp_cert.proofs.value.Texts.joined.Goals as goal

pub returns-then-follows-clause-joined : goal.returns-then-follows-clause-joined
returns-then-follows-clause-joined c = λ end g. texts_follow end c.args.left c.args.right (c.if-follows.ensures refl)

pub returns-clause-joined : goal.returns-clause-joined
returns-clause-joined c = λ end g.
    let h = c.in_ok-made.ensures.grows end g in
    c.in_ok-made.ensures.put end g ∙ c.as_slice.ensures.value ∙ c.in_ok-extend_from_slice.ensures.items ∙ ap (λ xs. xs ++ c.in-Some-of.second.now) c.in_ok-bytes.ensures.items ∙ (λ j. sym (c.in-Some.ensures end h) j ++ sym (c.in-Some-of.ensures end h) j)
