use Rattle.std.proofs.Common.{◌≡◌, ◌⊎◌, ◌+◌, ◌∙◌, ℕ, length, ap, refl, subst, inl, inr}
use Rattle.lp_base.specs.declared.limit.Limit.TheVariants as limit
use Rattle.lp_lemmas.proofs.Results.{passed_up}
use Rattle.lp_link.specs.Refusals.{HasManyCopies}
use Rattle.lp_build.specs.Faults.{IsOfTexts}
use Rattle.lp_build.specs.inner.Refusing.{of_link}
use Rattle.lp_build.specs.declared.fault.BuildFault.TheVariants as fault
use Rattle.lp_build.proofs.Unmaking.{copies_told, link_texts}
use Rattle.lp_build.proofs.images.within_copies.Goals as goal

pub returns-in_err-last-clause-cause : goal.returns-in_err-last-clause-cause
returns-in_err-last-clause-cause c =
    passed_up c.from_residual.result fault.Memory
    (λ e. (e ≡ fault.Memory) ⊎ ((root : ℕ) × (root + 1 ≡ length c.args.objects.now.items) × HasManyCopies c.args.objects.now.items root × (e ≡ fault.Limit limit.Copies)))
    c.from_residual.ensures.1 (inl refl)

pub returns-in_err-check_copies-clause-refused : goal.returns-in_err-check_copies-clause-refused
returns-in_err-check_copies-clause-refused c =
    passed_up c.from_residual-in_err-check_copies.result (of_link c.in_err-check_copies.field-0.0) IsOfTexts c.from_residual-in_err-check_copies.ensures.1 (link_texts c.in_err-check_copies.field-0.0)

pub returns-in_err-check_copies-clause-cause : goal.returns-in_err-check_copies-clause-cause
returns-in_err-check_copies-clause-cause c =
    passed_up c.from_residual-in_err-check_copies.result (of_link c.in_err-check_copies.field-0.0)
    (λ e. (e ≡ fault.Memory) ⊎ ((root : ℕ) × (root + 1 ≡ length c.args.objects.now.items) × HasManyCopies c.args.objects.now.items root × (e ≡ fault.Limit limit.Copies)))
    c.from_residual-in_err-check_copies.ensures.1
    (copies_told c.args.objects.now.items c.as_slice-2.result.now c.in_ok-last.last c.in_err-check_copies.field-0.0
    (c.in_ok-last.ensures.last ∙ ap length c.as_slice.ensures.value) c.as_slice-2.ensures.value c.in_err-check_copies.ensures.refused)
