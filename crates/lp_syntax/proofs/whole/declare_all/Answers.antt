use Rattle.std.proofs.Common.{◌≡◌, refl, sym, ap, ◌∙◌, subst, arith}
use Rattle.lp_fixity.specs.Table.{entry_of}
use Rattle.std.specs.Prelude.{slice_get, Some}
use Rattle.std.proofs.lemmas.Option.{slice_get-get_or}
use Rattle.lp_syntax.specs.Terms.{MemoryOr}
use Rattle.lp_syntax.specs.Modules.{none_declared, NameFault}
use Rattle.lp_syntax.proofs.ModuleCode.{one_more_name, all_names, name_refused}
use Rattle.std.proofs.Common.{ℕ, take, map}
use Rattle.lp_lemmas.proofs.Results.{passed_up}
use Rattle.lp_syntax.specs.Modules.{DeclaresAll, bytes_of}
use Rattle.lp_syntax.proofs.ModuleLeft.{names_kept}
use Rattle.lp_syntax.proofs.whole.declare_all.Goals as goal

pub over-init : goal.over-init
over-init c = record { extends = λ name e h. h; declared = none_declared (entry_of c.args.table.now) (λ o. refl) }

pub over-preserved : goal.over-preserved
over-preserved c =
    let v = c.over.invariant in
    let h : slice_get c.args.names.now.items c.over.place ≡ Some c.in-Some.name.now = subst (λ l. slice_get l c.over.place ≡ Some c.in-Some.name.now) c.deref.ensures.value (slice_get-get_or c.deref.result.now c.over.place _ c.in-Some.ensures.lookup.3.0 ∙ ap Some (sym c.in-Some.ensures.lookup.1)) in
    record {
      extends = λ name e g. c.in_ok-declare_one.ensures.extends name e (v.extends name e g);
      declared = one_more_name c.args.input.now.source.now c.args.names.now.items c.over.place c.in-Some.name.now (c.args.fixity, c.args.number) (entry_of c.args.table.now) (entry_of c.over.table) (entry_of c.declare_one.new.table) h v.declared c.in_ok-declare_one.ensures.declared;
    }

pub returns-clause-declared : goal.returns-clause-declared
returns-clause-declared c =
    let x = c.over-test.false in
    let y = c.len.ensures in
    let z = c.args.names.now.ok in
    all_names c.args.input.now.source.now c.args.names.now.items c.over.place (c.args.fixity, c.args.number) (entry_of c.args.table.now) (entry_of c.over.table) (omega (arith, x, y, z)) c.over.invariant.declared

pub returns-in_err-declare_one-clause-fault : goal.returns-in_err-declare_one-clause-fault
returns-in_err-declare_one-clause-fault c =
    let h : slice_get c.args.names.now.items c.over.place ≡ Some c.in-Some.name.now = subst (λ l. slice_get l c.over.place ≡ Some c.in-Some.name.now) c.deref.ensures.value (slice_get-get_or c.deref.result.now c.over.place _ c.in-Some.ensures.lookup.3.0 ∙ ap Some (sym c.in-Some.ensures.lookup.1)) in
    passed_up c.from_residual.result c.in_err-declare_one.field-0.0 (λ f. MemoryOr f
    (NameFault c.args.input.now.source.now c.args.names.now.items (c.args.fixity, c.args.number) (entry_of c.args.table.now) f))
    c.from_residual.ensures.1 (name_refused c.args.input.now.source.now c.args.names.now.items c.over.place c.in-Some.name.now
    (c.args.fixity, c.args.number) (entry_of c.args.table.now) (entry_of c.over.table) _ h c.over.invariant.declared
    c.in_err-declare_one.ensures.fault)

pub returns-in_err-declare_one-clause-left : goal.returns-in_err-declare_one-clause-left
returns-in_err-declare_one-clause-left c =
    passed_up c.from_residual.result c.in_err-declare_one.field-0.0 (λ _. (n : ℕ) × DeclaresAll (c.args.fixity, c.args.number)
    (entry_of c.args.table.now) (map (bytes_of c.args.input.now.source.now) (take n c.args.names.now.items)) (entry_of c.declare_one.new.table))
    c.from_residual.ensures.1 (
      c.over.place,
      names_kept (c.args.fixity, c.args.number) (entry_of c.args.table.now) (entry_of c.over.table)
          (entry_of c.declare_one.new.table) _ c.over.invariant.declared c.in_err-declare_one.ensures.kept,
    )
