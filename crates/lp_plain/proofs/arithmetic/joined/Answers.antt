use Rattle.std.proofs.Common.{◌≡◌, ◌++◌, ap, ◌∙◌}
use Rattle.lp_calculus.specs.Term.{atom, text}
use Rattle.lp_plain.proofs.arithmetic.joined.Goals as goal

pub returns-clause-joined : goal.returns-clause-joined
returns-clause-joined c = λ s t p q.
    let a : c.add_text.new.out.items ≡ s = c.in_ok-add_text.ensures s p ∙ ap (λ l. l ++ s) c.new-bytes.ensures.items in
    let b : c.add_text-2.new.out.items ≡ s ++ t = c.in_ok-add_text-2.ensures t q ∙ ap (λ l. l ++ t) a in
    c.in_ok-text.ensures.tree ∙ ap (λ l. atom (text l)) (c.as_slice.ensures.value ∙ b)
