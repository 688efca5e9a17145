use Rattle.std.proofs.Common.{◌≡◌, ◌∙◌, ◌<◌, ◌+◌, length, sym, refl, subst, ap, get_or, arith}
use Rattle.std.proofs.lemmas.Bool.{lt-ltb}
use Rattle.std.proofs.lemmas.Option.{slice_get_read, slice_get_past}
use Rattle.lp_gen.specs.declared.plan.Assumption.{Assumption}
use Rattle.lp_gen.specs.inner.Listing.{around_of}
use Rattle.lp_gen.specs.inner.GoalCode.{AreRegisters}
use Rattle.std.specs.Prelude.{[], ◌∷◌, nat_eq, slice_get}
use Rattle.std.specs.List.{IsDistinct}
use Rattle.indexmap.specs.IndexMap.{index_map_len}
use Rattle.lp_gen.specs.declared.plan.Step.TheVariants as on
use Rattle.lp_gen.specs.inner.BodyCode.{records_named, levels_found, AreStarts, started_at, AreAllSet, one_if}
use Rattle.std.proofs.lemmas.List.Elements.{All-nil, All-cons}
use Rattle.lp_gen.proofs.StartsPut.{starts_set}
use Rattle.lp_gen.proofs.BodyFacts.{starts_stay}
use Rattle.lp_gen.proofs.AssumptionPut.{no_assumption, same_assumption}
use Rattle.lp_lemmas.proofs.Results.{passed_up}
use Rattle.lp_gen.specs.inner.Fitting.{IsRefused}
use Rattle.lp_gen.specs.inner.BodyUsing.{assumption_takes}
use Rattle.lp_gen.proofs.BodyParts.{registers_length, zero_is}
use Rattle.lp_gen.proofs.BodyUsed.{assumption_size, many_misfit}
use Rattle.lp_gen.proofs.record.assumption.Goals as goal

pub returns-then-number-tables-clause-made : goal.returns-then-number-tables-clause-made
returns-then-number-tables-clause-made c = λ b x found few.
    absurd (no_assumption x (sym (slice_get_past c.args.tables.assumptions.now c.args.number (omega (arith, c.if-number-tables.true))) ∙ found))

pub returns-then-number-tables-clause-grown : goal.returns-then-number-tables-clause-grown
returns-then-number-tables-clause-grown c =
    starts_stay c.args.tables c.args.all_starts.now.items (on.Assume c.args.number) (ap one_if (slice_get_past c.args.tables.assumptions.now c.args.number (omega (arith, c.if-number-tables.true))))

pub returns-clause-grown : goal.returns-clause-grown
returns-clause-grown c =
    let xs = c.args.tables.assumptions.now in
    let b = c.args.tables.bank.now in
    let low : c.args.number < length xs = omega (arith, c.if-number-tables.false) in (
      c.captured_by.new.starts ∷ [],
      c.in_ok-push.ensures.items,
      sym (ap one_if (slice_get_read xs (length xs) c.args.number c.index-tables-number.result refl low c.index-tables-number.is)),
      All-cons (AreAllSet b) c.captured_by.new.starts [] (starts_set b (around_of b c.args.environment.now)
          (levels_found (around_of b c.args.environment.now) c.as_slice-levels.result.now) c.captured_by.new.starts
          (index_map_len c.captured_by.new.starts)
          (c.in_ok-registers.ensures.starts b c.new-starts.ensures.empty (subst (IsDistinct nat_eq) (sym c.as_slice-levels.ensures.keys) c.as_slice-levels.ensures.unique))) (All-nil (AreAllSet b)),
    )

pub returns-clause-made : goal.returns-clause-made
returns-clause-made c = λ b x found few.
    let xs = c.args.tables.assumptions.now in
    let low : c.args.number < length xs = omega (arith, c.if-number-tables.false) in
    let same : c.index-tables-number.result ≡ x = same_assumption c.index-tables-number.result x
    (sym (slice_get_read xs (length xs) c.args.number c.index-tables-number.result refl low c.index-tables-number.is) ∙ found) in
    let a = around_of b c.args.environment.now in
    let read : get_or xs c.args.number c.index-tables-number.result ≡ x = sym c.index-tables-number.is ∙ same in
    let few1 = subst (λ (y : Assumption). c.args.tables.first + y.first + y.count < 4294967296) (sym read) few in
    let keys : (get_or xs c.args.number c.index-tables-number.result).captured.keys ≡ x.captured.keys = ap (λ (y : Assumption). y.captured.keys) read in (
      c.in_ok-records.records,
      c.in_ok-types.types,
      c.in_ok-registers.registers,
      c.captured_by.new.starts,
      refl,
      c.in_ok-records.ensures.numbers few1 ∙ ap (records_named c.args.tables) read,
      c.in_ok-types.ensures,
      subst (λ l. AreRegisters a (levels_found a l) c.in_ok-registers.registers.items) (c.as_slice-levels.ensures.keys ∙ keys) (c.in_ok-registers.ensures.registers b),
      c.in_ok-push.ensures.items,
      subst (λ l. AreStarts a (levels_found a l) (started_at b c.captured_by.new.starts) (index_map_len c.captured_by.new.starts)) (c.as_slice-levels.ensures.keys ∙ keys)
          (c.in_ok-registers.ensures.starts b c.new-starts.ensures.empty (subst (IsDistinct nat_eq) (sym c.as_slice-levels.ensures.keys) c.as_slice-levels.ensures.unique)),
    )

pub returns-clause-short : goal.returns-clause-short
returns-clause-short c =
    let xs = c.args.tables.assumptions.now in
    let low : c.args.number < length xs = omega (arith, c.if-number-tables.false) in
    let few = c.args.tables.few c.args.number c.index-tables-number.result low in
    let same = ap (λ (x : Assumption). x.count) c.index-tables-number.is in
    let count = c.in_ok-records.ensures.count in
    lt-ltb (length c.in_ok-records.records.items) 65536 (omega (arith, few, same, count))

pub returns-then-number-tables-clause-takes : goal.returns-then-number-tables-clause-takes
returns-then-number-tables-clause-takes c =
    sym (ap (assumption_takes c.args.tables.type_vars (around_of c.args.tables.bank.now c.args.environment.now)) (slice_get_past c.args.tables.assumptions.now c.args.number
    (omega (arith, c.if-number-tables.true))))

pub returns-clause-takes : goal.returns-clause-takes
returns-clause-takes c =
    let xs = c.args.tables.assumptions.now in
    let a = around_of c.args.tables.bank.now c.args.environment.now in
    let x = c.index-tables-number.result in
    let low : c.args.number < length xs = omega (arith, c.if-number-tables.false) in
    let found = slice_get_read xs (length xs) c.args.number x refl low c.index-tables-number.is in
    let ls = c.as_slice-levels.result.now in
    let many : length c.in_ok-registers.registers.items ≡ length (levels_found a x.captured.keys) =
    registers_length a (levels_found a ls) c.in_ok-registers.registers.items (c.in_ok-registers.ensures.registers c.args.tables.bank.now)
    ∙ ap (λ l. length (levels_found a l)) (c.as_slice-levels.ensures.keys ∙ ap (λ (y : Assumption). y.captured.keys) (sym c.index-tables-number.is)) in
    let count : length c.in_ok-records.records.items ≡ x.count = c.in_ok-records.ensures.count ∙ ap (λ (y : Assumption). y.count) (sym c.index-tables-number.is) in
    assumption_size c.args.tables.type_vars (length (levels_found a x.captured.keys)) x.count (length c.in_ok-types.types.items) (length c.in_ok-registers.registers.items)
    (length c.in_ok-records.records.items) (zero_is c.args.tables.type_vars c.in_ok-types.types.items c.in_ok-types.ensures) many count
    ∙ sym (ap (assumption_takes c.args.tables.type_vars a) found)

pub returns-in_err-registers-clause-many : goal.returns-in_err-registers-clause-many
returns-in_err-registers-clause-many c =
    let xs = c.args.tables.assumptions.now in
    let a = around_of c.args.tables.bank.now c.args.environment.now in
    let x = c.index-tables-number.result in
    let low : c.args.number < length xs = omega (arith, c.if-number-tables.false) in
    let found = slice_get_read xs (length xs) c.args.number x refl low c.index-tables-number.is in
    let v = c.args.tables.type_vars in
    let e = c.in_err-registers.field-0.0 in
    passed_up c.from_residual.result e (IsRefused (0 < (assumption_takes v a (slice_get xs c.args.number)).misfits)) c.from_residual.ensures.1
    (subst (λ o. IsRefused (0 < (assumption_takes v a o).misfits) e) (sym found) (many_misfit v (length (levels_found a x.captured.keys)) e
    (subst (λ l. IsRefused (65535 < length (levels_found a l)) e) (c.as_slice-levels.ensures.keys ∙ ap (λ (y : Assumption). y.captured.keys) (sym c.index-tables-number.is)) (c.in_err-registers.ensures.many c.args.tables.bank.now))))
