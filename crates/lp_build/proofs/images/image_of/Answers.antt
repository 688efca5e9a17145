use Rattle.std.proofs.Common.{refl}
use Rattle.lp_lemmas.proofs.Results.{passed_up}
use Rattle.lp_build.specs.Unmade.{AreUnlinked, unlinked_memory}
use Rattle.lp_build.specs.declared.fault.BuildFault.TheVariants as fault
use Rattle.lp_build.proofs.Causing.{err_as}
use Rattle.lp_build.proofs.Imaging.{image_of_is}
use Rattle.lp_build.proofs.Unmaking.{codes_told, copies_layer, link_layer, names_few, names_layer}
use Rattle.lp_build.proofs.images.image_of.Goals as goal

pub returns-clause-image : goal.returns-clause-image
returns-clause-image c = λ within. image_of_is c.args.modules.items c.in_ok-objects.objects.items c.linked.result (c.in_ok-objects.ensures.objects c.in_ok-named.ensures within) c.linked.ensures.linked

pub returns-in_err-named-clause-cause : goal.returns-in_err-named-clause-cause
returns-in_err-named-clause-cause c = λ within never. passed_up c.from_residual.result fault.Memory (AreUnlinked c.args.modules.items) c.from_residual.ensures.1 (unlinked_memory refl)

pub returns-in_err-within_copies-clause-cause : goal.returns-in_err-within_copies-clause-cause
returns-in_err-within_copies-clause-cause c = λ within never.
    passed_up c.from_residual-in_err-within_copies.result c.in_err-within_copies.field-0.0 (AreUnlinked c.args.modules.items) c.from_residual-in_err-within_copies.ensures.1
    (copies_layer c.args.modules.items c.in_ok-named.named.items c.in_err-within_copies.field-0.0 c.in_ok-named.ensures c.in_err-within_copies.ensures.cause)

pub returns-in_err-objects-clause-cause : goal.returns-in_err-objects-clause-cause
returns-in_err-objects-clause-cause c = λ within never.
    passed_up c.from_residual-in_err-objects.result c.in_err-objects.field-0.0 (AreUnlinked c.args.modules.items) c.from_residual-in_err-objects.ensures.1
    (codes_told c.args.modules.items c.in_err-objects.field-0.0 (c.in_err-objects.ensures.cause within c.in_ok-named.ensures.many))

pub returns-in_err-check_all_names-clause-cause : goal.returns-in_err-check_all_names-clause-cause
returns-in_err-check_all_names-clause-cause c = λ within never.
    passed_up c.from_residual-in_err-check_all_names.result c.in_err-check_all_names.field-0.0 (AreUnlinked c.args.modules.items) c.from_residual-in_err-check_all_names.ensures.1
    (names_layer c.args.modules.items c.in_ok-objects.objects.items c.in_err-check_all_names.field-0.0 (c.in_ok-objects.ensures.within within c.in_ok-named.ensures.many)
    (c.in_ok-objects.ensures.objects c.in_ok-named.ensures within) c.in_err-check_all_names.ensures.cause)

pub returns-clause-cause : goal.returns-clause-cause
returns-clause-cause c = λ within never.
    let are = c.in_ok-objects.ensures.objects c.in_ok-named.ensures within in
    err_as c.linked.result _ (AreUnlinked c.args.modules.items)
    (λ e. link_layer c.args.modules.items c.in_ok-objects.objects.items e (c.in_ok-objects.ensures.within within c.in_ok-named.ensures.many)
    (names_few c.args.modules.items c.in_ok-objects.objects.items are c.in_ok-check_all_names.ensures.within) are never) c.linked.ensures.cause
