use Rattle.std.proofs.Common.{◌≡◌, Some, ap, ◌∙◌, refl, inl, inr}
use Rattle.lp_sig.specs.declared.see.Sight.TheVariants.{Otherwise, TooMany}
use Rattle.lp_sig.proofs.module_lines.check_word.Goals as goal

pub returns-in-Some-Otherwise-clause-refused : goal.returns-in-Some-Otherwise-clause-refused
returns-in-Some-Otherwise-clause-refused c =
    let k : c.in-Some-Otherwise.field-0 ≡ Otherwise = rw c.in-Some-Otherwise.is at c.in-Some-Otherwise.field-0-is in
    inr (Otherwise, c.in-Some-Otherwise.is ∙ ap (λ s. Some s) k, refl)

pub returns-in-Some-TooMany-clause-refused : goal.returns-in-Some-TooMany-clause-refused
returns-in-Some-TooMany-clause-refused c =
    let k : c.in-Some-TooMany.field-0 ≡ TooMany = rw c.in-Some-TooMany.is at c.in-Some-TooMany.field-0-is in
    inr (TooMany, c.in-Some-TooMany.is ∙ ap (λ s. Some s) k, refl)

pub returns-in-None-clause-refused : goal.returns-in-None-clause-refused
returns-in-None-clause-refused c = inl refl
