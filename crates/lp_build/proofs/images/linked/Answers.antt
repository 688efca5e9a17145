use Rattle.std.proofs.Common.{◌≡◌, ◌⊎◌, ◌+◌, ◌∙◌, ℕ, length, ap, refl, subst, inl, inr}
use Rattle.lp_lemmas.proofs.Results.{passed_up}
use Rattle.lp_link.specs.Linked.{IsLinked}
use Rattle.lp_link.specs.Names.{IsNamed}
use Rattle.lp_link.specs.Refusals.{CanBeLinked, IsLinkRefusal}
use Rattle.lp_link.specs.declared.fault.LinkRefusal.{LinkRefusal}
use Rattle.lp_build.specs.Faults.{IsOfTexts}
use Rattle.lp_build.specs.inner.Refusing.{of_link}
use Rattle.lp_build.specs.declared.fault.BuildFault.{BuildFault}
use Rattle.lp_build.specs.declared.fault.BuildFault.TheVariants as fault
use Rattle.lp_build.proofs.Unmaking.{link_texts}
use Rattle.lp_build.proofs.images.linked.Goals as goal

pub returns-clause-linked : goal.returns-clause-linked
returns-clause-linked c = (
  c.in_ok-last.last,
  c.in_ok-last.ensures.last ∙ ap length c.as_slice.ensures.value,
  subst (λ l. CanBeLinked l c.in_ok-last.last) c.as_slice-2.ensures.value c.in_ok-image.ensures.linked,
  subst (λ l. IsLinked l c.in_ok-last.last c.in_ok-image.image) c.as_slice-2.ensures.value c.in_ok-image.ensures.denotes,
  subst (λ l. IsNamed l c.in_ok-last.last c.in_ok-image.image) c.as_slice-2.ensures.value c.in_ok-image.ensures.names,
)

pub returns-in_err-last-clause-cause : goal.returns-in_err-last-clause-cause
returns-in_err-last-clause-cause c =
    passed_up c.from_residual.result fault.Memory
    (λ e. (e ≡ fault.Memory) ⊎ ((root : ℕ) × (f : LinkRefusal) × (root + 1 ≡ length c.args.objects.now.items) × IsLinkRefusal c.args.objects.now.items root f × (e ≡ of_link f)))
    c.from_residual.ensures.1 (inl refl)

pub returns-in_err-image-clause-refused : goal.returns-in_err-image-clause-refused
returns-in_err-image-clause-refused c = passed_up c.from_residual-in_err-image.result (of_link c.in_err-image.field-0.0) IsOfTexts c.from_residual-in_err-image.ensures.1 (link_texts c.in_err-image.field-0.0)

pub returns-in_err-image-clause-cause : goal.returns-in_err-image-clause-cause
returns-in_err-image-clause-cause c =
    passed_up c.from_residual-in_err-image.result (of_link c.in_err-image.field-0.0)
    (λ e. (e ≡ fault.Memory) ⊎ ((root : ℕ) × (f : LinkRefusal) × (root + 1 ≡ length c.args.objects.now.items) × IsLinkRefusal c.args.objects.now.items root f × (e ≡ of_link f)))
    c.from_residual-in_err-image.ensures.1
    (inr (
      c.in_ok-last.last,
      c.in_err-image.field-0.0,
      c.in_ok-last.ensures.last ∙ ap length c.as_slice.ensures.value,
      subst (λ l. IsLinkRefusal l c.in_ok-last.last c.in_err-image.field-0.0) c.as_slice-2.ensures.value c.in_err-image.ensures.refused,
      refl,
    ))
