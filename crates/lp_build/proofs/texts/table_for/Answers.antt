use Rattle.lp_build.proofs.Seeing.{force_same}
use Rattle.std.proofs.Common.{refl, inl}
use Rattle.lp_lemmas.proofs.Results.{passed_up}
use Rattle.lp_build.specs.Refused.{IsUndeclarable}
use Rattle.lp_build.specs.Sights.{Sees}
use Rattle.lp_build.specs.declared.fault.BuildFault.TheVariants as fault
use Rattle.lp_build.specs.inner.Refusing.{IsTold}
use Rattle.lp_build.proofs.Texting.{undeclarable_same}
use Rattle.lp_build.proofs.texts.table_for.Goals as goal

pub returns-clause-force : goal.returns-clause-force
returns-clause-force c = λ links. force_same (c.in_ok-seen.ensures.seen c.args.sources.now.files.items links)
    (c.in_ok-seen.ensures.all c.args.sources.now.files.items links) (c.in_ok-declare_seen.ensures.force c.in_ok-table.ensures)

pub returns-in_err-table-clause-cause : goal.returns-in_err-table-clause-cause
returns-in_err-table-clause-cause c = λ links.
    passed_up c.from_residual.result fault.Memory (IsTold (IsUndeclarable c.args.sources.now.files.items
    (Sees c.args.sources.now.files.items c.args.place c.args.name.now))) c.from_residual.ensures.1 (inl refl)

pub returns-in_err-seen-clause-cause : goal.returns-in_err-seen-clause-cause
returns-in_err-seen-clause-cause c = λ links.
    passed_up c.from_residual-in_err-seen.result fault.Memory (IsTold (IsUndeclarable c.args.sources.now.files.items (Sees c.args.sources.now.files.items c.args.place c.args.name.now)))
    c.from_residual-in_err-seen.ensures.1 (inl refl)

pub returns-in_err-declare_seen-clause-cause : goal.returns-in_err-declare_seen-clause-cause
returns-in_err-declare_seen-clause-cause c = λ links.
    passed_up c.from_residual-in_err-declare_seen.result c.in_err-declare_seen.field-0.0
    (IsTold (IsUndeclarable c.args.sources.now.files.items (Sees c.args.sources.now.files.items c.args.place c.args.name.now))) c.from_residual-in_err-declare_seen.ensures.1
    (undeclarable_same (c.in_ok-seen.ensures.seen c.args.sources.now.files.items links)
    (c.in_ok-seen.ensures.all c.args.sources.now.files.items links) (c.in_err-declare_seen.ensures.cause c.in_ok-table.ensures))
