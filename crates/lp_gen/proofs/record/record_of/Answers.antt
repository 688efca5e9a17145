use Rattle.std.proofs.Common.{◌≡◌, ◌∙◌, ◌<◌, Bool, ap, refl, subst, arith}
use Rattle.std.specs.Prelude.{is_none, if◌then◌else◌}
use Rattle.lp_lemmas.proofs.Results.{passed_up}
use Rattle.indexmap.specs.IndexMap.{index_map_len}
use Rattle.lp_gen.specs.Steps.{constant_function}
use Rattle.lp_gen.specs.Registers.{Passes}
use Rattle.lp_gen.specs.inner.Listing.{around_of}
use Rattle.lp_gen.specs.inner.Fitting.{IsRefused}
use Rattle.lp_gen.specs.inner.Using.{Uses, Lacks}
use Rattle.lp_gen.specs.inner.BodyCode.{BodyWritten}
use Rattle.lp_gen.specs.inner.BodyUsing.{body_code_takes}
use Rattle.lp_gen.specs.inner.Recorded.{TypesWritten, HasKey, types_taken, start_around, RecordTakes}
use Rattle.lp_gen.proofs.WrittenTypes.{none_of}
use Rattle.lp_gen.proofs.Filling.{RecordBegun, starts_refused, types_refused, front_refused, body_refused, record_fits}
use Rattle.lp_gen.proofs.record.record_of.Goals as goal

pub returns-in_err-registers-clause-lacks : goal.returns-in_err-registers-clause-lacks
returns-in_err-registers-clause-lacks c = λ set few.
    let t = c.args.tables in
    let b = t.bank.now in
    let K = constant_function b t.constants.now in
    let part = c.args.part.now in
    let k = index_map_len c.args.captured.now in
    let s = start_around b c.args.captured.now part.base in
    let e = c.in_err-registers.field-0.0 in
    passed_up c.from_residual.result e (IsRefused (RecordTakes Passes t K part s k)) c.from_residual.ensures.1
    (starts_refused t K part s k e (subst (λ n. IsRefused (65535 < n) e) c.len.ensures.len c.in_err-registers.ensures.cause))

pub returns-in_err-write_types-clause-lacks : goal.returns-in_err-write_types-clause-lacks
returns-in_err-write_types-clause-lacks c = λ set few.
    let t = c.args.tables in
    let b = t.bank.now in
    let K = constant_function b t.constants.now in
    let part = c.args.part.now in
    let k = index_map_len c.args.captured.now in
    let p : c.is_none-program.result ≡ is_none part.within = none_of part.within c.is_none-program.result c.is_none-program.ensures in
    let begun : RecordBegun t part c.args.captured.now k c.new-emitter.result c.new-environment.result = record {
      none = c.new-environment.ensures.own;
      base = c.new-environment.ensures.base;
      starts = c.new-environment.ensures.captured b;
      types = c.new-emitter.ensures.types ∙ c.first_types-captured_types.ensures ∙ ap (λ (y : Bool). if y then 0 else t.type_vars) p;
      terms = c.new-emitter.ensures.registers ∙ c.in_ok-registers.ensures.count ∙ c.len.ensures.len;
      bytes = c.new-emitter.ensures.place;
      set = set;
      few = few;
    } in
    let e = c.in_err-write_types.field-0.0 in
    passed_up c.from_residual-in_err-write_types.result e (IsRefused (RecordTakes Passes t K part (start_around b c.args.captured.now part.base) k)) c.from_residual-in_err-write_types.ensures.1
    (types_refused t K part c.args.captured.now k c.new-emitter.result c.new-environment.result begun e
    (subst (λ y. Lacks c.new-emitter.result (types_taken y t.type_vars) e) p c.in_err-write_types.ensures.lacks))

pub returns-in_err-head-clause-lacks : goal.returns-in_err-head-clause-lacks
returns-in_err-head-clause-lacks c = λ set few.
    let t = c.args.tables in
    let b = t.bank.now in
    let K = constant_function b t.constants.now in
    let part = c.args.part.now in
    let k = index_map_len c.args.captured.now in
    let p : c.is_none-program.result ≡ is_none part.within = none_of part.within c.is_none-program.result c.is_none-program.ensures in
    let begun : RecordBegun t part c.args.captured.now k c.new-emitter.result c.new-environment.result = record {
      none = c.new-environment.ensures.own;
      base = c.new-environment.ensures.base;
      starts = c.new-environment.ensures.captured b;
      types = c.new-emitter.ensures.types ∙ c.first_types-captured_types.ensures ∙ ap (λ (y : Bool). if y then 0 else t.type_vars) p;
      terms = c.new-emitter.ensures.registers ∙ c.in_ok-registers.ensures.count ∙ c.len.ensures.len;
      bytes = c.new-emitter.ensures.place;
      set = set;
      few = few;
    } in
    let used = subst (λ y. Uses c.new-emitter.result c.write_types.new.emitter (types_taken y t.type_vars)) p c.in_ok-write_types.ensures.uses in
    let e = c.in_err-head.field-0.0 in
    passed_up c.from_residual-in_err-head.result e (IsRefused (RecordTakes Passes t K part (start_around b c.args.captured.now part.base) k)) c.from_residual-in_err-head.ensures.1
    (front_refused t K part c.args.captured.now k c.new-emitter.result c.new-environment.result begun c.write_types.new.emitter used e c.in_err-head.ensures.lacks)

pub returns-in_err-write_body-clause-lacks : goal.returns-in_err-write_body-clause-lacks
returns-in_err-write_body-clause-lacks c = λ set few.
    let t = c.args.tables in
    let b = t.bank.now in
    let K = constant_function b t.constants.now in
    let part = c.args.part.now in
    let k = index_map_len c.args.captured.now in
    let p : c.is_none-program.result ≡ is_none part.within = none_of part.within c.is_none-program.result c.is_none-program.ensures in
    let begun : RecordBegun t part c.args.captured.now k c.new-emitter.result c.new-environment.result = record {
      none = c.new-environment.ensures.own;
      base = c.new-environment.ensures.base;
      starts = c.new-environment.ensures.captured b;
      types = c.new-emitter.ensures.types ∙ c.first_types-captured_types.ensures ∙ ap (λ (y : Bool). if y then 0 else t.type_vars) p;
      terms = c.new-emitter.ensures.registers ∙ c.in_ok-registers.ensures.count ∙ c.len.ensures.len;
      bytes = c.new-emitter.ensures.place;
      set = set;
      few = few;
    } in
    let used = subst (λ y. Uses c.new-emitter.result c.write_types.new.emitter (types_taken y t.type_vars)) p c.in_ok-write_types.ensures.uses in
    let e = c.in_err-write_body.field-0.0 in
    passed_up c.from_residual-in_err-write_body.result e (IsRefused (RecordTakes Passes t K part (start_around b c.args.captured.now part.base) k)) c.from_residual-in_err-write_body.ensures.1
    (body_refused t K part c.args.captured.now k c.new-emitter.result c.new-environment.result begun c.write_types.new.emitter used c.write_front.new.emitter c.write_front.new.environment
    c.in_ok-head.head c.in_ok-head.ensures.written c.in_ok-head.ensures.uses e
    (λ is_set. subst (λ l. Lacks c.write_front.new.emitter (body_code_takes b t.type_vars t.assumptions.now K (around_of b c.write_front.new.environment) l) e)
    c.as_slice-steps.ensures.value (c.in_err-write_body.ensures.lacks is_set)))

pub returns-clause-written : goal.returns-clause-written
returns-clause-written c =
    let t = c.args.tables in
    let b = t.bank.now in
    let p : c.is_none-program.result ≡ is_none c.args.part.now.within = none_of c.args.part.now.within c.is_none-program.result c.is_none-program.ensures in
    let many = c.in_ok-registers.ensures.count ∙ c.len.ensures.len in
    let first = c.first_types-captured_types.ensures ∙ ap (λ (y : Bool). if y then 0 else t.type_vars) p in
    record {
      begun = c.new-emitter.result;
      typed = c.write_types.new.emitter;
      fronted = c.write_front.new.emitter;
      ended = c.write_body.new.emitter;
      begun_env = c.new-environment.result;
      fronted_env = c.write_front.new.environment;
      ended_env = c.write_body.new.environment;
      empty = c.new-emitter.ensures.code;
      first_types = c.new-emitter.ensures.types ∙ first;
      first_registers = c.new-emitter.ensures.registers ∙ many;
      no_own = c.new-environment.ensures.own;
      base = c.new-environment.ensures.base;
      starts_are = c.new-environment.ensures.captured;
      made = subst (λ y. TypesWritten y c.new-emitter.result c.write_types.new.emitter t.type_vars) p c.in_ok-write_types.ensures.written;
      front = c.in_ok-head.ensures.written;
      body = subst (BodyWritten t (constant_function b t.constants.now) c.write_front.new.emitter c.write_body.new.emitter
          c.write_front.new.environment c.write_body.new.environment c.args.starts.now.items c.write_body.new.starts.items)
          c.as_slice-steps.ensures.value c.in_ok-write_body.ensures.code;
      key_is = subst (λ y. HasKey b c.args.part.now.origin y c.in_ok-key.key) p c.in_ok-key.ensures;
      code_is = refl;
      types_are = c.count_types-types.ensures.count;
      registers_are = c.count_terms-terms.ensures.count;
      is_program = p;
      captured_types = first;
      captured_are = many;
      fits = λ set few.
          let t = c.args.tables in
          let b = t.bank.now in
          let K = constant_function b t.constants.now in
          let part = c.args.part.now in
          let k = index_map_len c.args.captured.now in
          let p : c.is_none-program.result ≡ is_none part.within = none_of part.within c.is_none-program.result c.is_none-program.ensures in
          let begun : RecordBegun t part c.args.captured.now k c.new-emitter.result c.new-environment.result = record {
            none = c.new-environment.ensures.own;
            base = c.new-environment.ensures.base;
            starts = c.new-environment.ensures.captured b;
            types = c.new-emitter.ensures.types ∙ c.first_types-captured_types.ensures ∙ ap (λ (y : Bool). if y then 0 else t.type_vars) p;
            terms = c.new-emitter.ensures.registers ∙ c.in_ok-registers.ensures.count ∙ c.len.ensures.len;
            bytes = c.new-emitter.ensures.place;
            set = set;
            few = few;
          } in
          let used = subst (λ y. Uses c.new-emitter.result c.write_types.new.emitter (types_taken y t.type_vars)) p c.in_ok-write_types.ensures.uses in
          record_fits t K part c.args.captured.now k c.new-emitter.result c.new-environment.result begun c.write_types.new.emitter used c.write_front.new.emitter c.write_front.new.environment
          c.in_ok-head.head c.in_ok-head.ensures.written c.in_ok-head.ensures.uses c.write_body.new.emitter
          (λ is_set. subst (λ l. Uses c.write_front.new.emitter c.write_body.new.emitter (body_code_takes b t.type_vars t.assumptions.now K (around_of b c.write_front.new.environment) l))
          c.as_slice-steps.ensures.value (c.in_ok-write_body.ensures.uses is_set)) c.count_types-types.ensures.few c.count_terms-terms.ensures.few (omega arith);
    }
