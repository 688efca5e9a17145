use Rattle.std.proofs.Common.{◌≡◌, ◌∙◌, ◌++◌, length, ap, sym, arith, refl}
use Rattle.lp_lemmas.proofs.Results.{passed_up}
use Rattle.lp_base.specs.declared.limit.Limit.TheVariants as limit
use Rattle.lp_build.specs.Loads.{ending}
use Rattle.lp_build.specs.Ordered.{needed}
use Rattle.lp_build.specs.declared.fault.BuildFault.TheVariants as fault
use Rattle.lp_build.specs.inner.Walking.{IsNotLoaded}
use Rattle.lp_build.proofs.Reading.{one_read}
use Rattle.lp_build.proofs.Walking.{reading_so, not_at_fault}
use Rattle.lp_build.proofs.read.load_file.Goals as goal

pub returns-in_ok-push-in-Ok-clause-read : goal.returns-in_ok-push-in-Ok-clause-read
returns-in_ok-push-in-Ok-clause-read g c =
    λ h.
    let count : c.len-at.result ≡ length c.args.sources.now.files.items = omega (arith, c.len-at.ensures, c.args.sources.now.files.ok) in
    one_read c.args.sources.now _ c.len-at.result _ count (omega (arith, c.if-at-ge-MAX_MODULES.false)) c.in_ok-push-in-Ok.ensures.items
    (c.in_ok-name.ensures ∙ ap (λ b. b ++ ending c.args.part) (sym c.in_ok-module.ensures.ok)) c.in-Ok.ensures.read h

pub returns-in_ok-push-in-Ok-clause-loaded : goal.returns-in_ok-push-in-Ok-clause-loaded
returns-in_ok-push-in-Ok-clause-loaded g c = record {
  file = record { name = c.in_ok-name.name; «module» = c.in_ok-module.module; part = c.args.part; text = c.in-Ok.text };
  is = record { part = refl; stem = c.in_ok-module.ensures.ok; name = c.in_ok-name.ensures };
  last = omega (arith, c.len-at.ensures, c.args.sources.now.files.ok);
  files = c.in_ok-push-in-Ok.ensures.items;
  refused = refl;
}

pub returns-then-at-ge-MAX_MODULES-clause-not_loaded : goal.returns-then-at-ge-MAX_MODULES-clause-not_loaded
returns-then-at-ge-MAX_MODULES-clause-not_loaded g c = not_at_fault (needed c.args.part c.args.stem.now) c.args.sources.now (fault.Limit limit.Modules)
    (omega (arith, c.if-at-ge-MAX_MODULES.true, c.len-at.ensures, c.args.sources.now.files.ok))

pub returns-in_err-name-clause-not_loaded : goal.returns-in_err-name-clause-not_loaded
returns-in_err-name-clause-not_loaded g c = passed_up c.from_residual.result fault.Memory (IsNotLoaded (needed c.args.part c.args.stem.now) c.args.sources.now c.args.sources.now) c.from_residual.ensures.1
    (not_at_fault (needed c.args.part c.args.stem.now) c.args.sources.now fault.Memory tt)

pub returns-in_err-module-clause-not_loaded : goal.returns-in_err-module-clause-not_loaded
returns-in_err-module-clause-not_loaded g c = passed_up c.from_residual-in_err-module.result fault.Memory (IsNotLoaded (needed c.args.part c.args.stem.now) c.args.sources.now c.args.sources.now) c.from_residual-in_err-module.ensures.1
    (not_at_fault (needed c.args.part c.args.stem.now) c.args.sources.now fault.Memory tt)

pub returns-in_err-push-in-Ok-clause-not_loaded : goal.returns-in_err-push-in-Ok-clause-not_loaded
returns-in_err-push-in-Ok-clause-not_loaded g c = passed_up c.from_residual-in_err-push-in-Ok.result fault.Memory (IsNotLoaded (needed c.args.part c.args.stem.now) c.args.sources.now _) c.from_residual-in_err-push-in-Ok.ensures.1
    (record { files = c.in_err-push-in-Ok.ensures.items; fault = tt; file = (not_at_fault (needed c.args.part c.args.stem.now) c.args.sources.now fault.Memory tt).file })

pub returns-in-Err-clause-not_loaded : goal.returns-in-Err-clause-not_loaded
returns-in-Err-clause-not_loaded g c = record {
  files = refl;
  fault = reading_so c.len-at.result c.args.sources.now.files.items c.in-Err.fault (omega (arith, c.len-at.ensures, c.args.sources.now.files.ok))
      (omega (arith, c.if-at-ge-MAX_MODULES.false, c.len-at.ensures, c.args.sources.now.files.ok)) c.in-Err.ensures.refused;
  file = λ e. c.in_ok-name.ensures;
}
