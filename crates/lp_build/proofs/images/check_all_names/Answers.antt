use Rattle.std.proofs.Common.{◌≡◌, ◌<◌, ◌+◌, ℕ, length, take, get_or, refl, sym, subst, arith}
use Rattle.std.specs.Prelude.{All}
use Rattle.std.proofs.lemmas.List.{take_all, take_more}
use Rattle.lp_base.specs.declared.limit.Limit.TheVariants as limit
use Rattle.lp_lemmas.proofs.Elements.{All_empty, All_pushed}
use Rattle.lp_lemmas.proofs.Results.{passed_up}
use Rattle.lp_code.specs.declared.object.Object.{Object}
use Rattle.lp_sig.specs.Refusals.{IsAt}
use Rattle.lp_build.specs.Limits.{HasFewNames, HasManyNames}
use Rattle.lp_build.specs.declared.fault.BuildFault.TheVariants as fault
use Rattle.lp_build.proofs.images.check_all_names.Goals as goal

abbrev HasFew : Object → Type 0
HasFew o = HasFewNames (length o.kinds.items) (length o.constants.items)

pub loop-at-init : goal.loop-at-init
loop-at-init c = All_empty HasFew (take 0 c.args.objects.now.items) refl

pub loop-at-preserved : goal.loop-at-preserved
loop-at-preserved c =
    let os = c.args.objects.now.items in
    let l : c.loop-at.at < length os = omega (arith, c.loop-at-test.true, c.len-at-end.ensures, c.args.objects.now.ok) in
    All_pushed HasFew (take (c.loop-at.at + 1) os) (take c.loop-at.at os) (get_or os c.loop-at.at c.index.result.now) (take_more os c.loop-at.at c.index.result.now l) c.loop-at.invariant
    (subst HasFew c.index.ensures c.in_ok-check_names.ensures.within)

pub returns-in_err-check_names-clause-cause : goal.returns-in_err-check_names-clause-cause
returns-in_err-check_names-clause-cause c =
    let os = c.args.objects.now.items in
    let told = c.in_err-check_names.ensures.cause in
    let l : c.loop-at.at < length os = omega (arith, c.loop-at-test.true, c.len-at-end.ensures, c.args.objects.now.ok) in
    passed_up c.from_residual.result c.in_err-check_names.field-0.0
    (λ e. (e ≡ fault.Limit limit.Names) × ((k : ℕ) × (o : Object) × IsAt os k o × HasManyNames (length o.kinds.items) (length o.constants.items)))
    c.from_residual.ensures.1 (told.0, (c.loop-at.at, c.index.result.now, (l, sym c.index.ensures), told.1))

pub returns-clause-within : goal.returns-clause-within
returns-clause-within c = subst (All HasFew) (take_all c.loop-at.at c.args.objects.now.items (omega (arith, c.loop-at-test.false, c.len-at-end.ensures, c.args.objects.now.ok))) c.loop-at.invariant
