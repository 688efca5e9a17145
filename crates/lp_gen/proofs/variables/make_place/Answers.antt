use Rattle.std.proofs.Common.{◌∙◌, ap, refl, sym, arith}
use Rattle.std.specs.Prelude.{option_map}
use Rattle.lp_gen.specs.Steps.{set_level}
use Rattle.lp_gen.specs.inner.Listing.{around_of, seen}
use Rattle.lp_lemmas.proofs.Results.{passed_up}
use Rattle.lp_gen.specs.Registers.{made_takes, unset_take}
use Rattle.lp_gen.specs.inner.Using.{Lacks}
use Rattle.lp_gen.proofs.OwnMade.{place_empty, place_was_set, place_made}
use Rattle.lp_gen.proofs.VariablesUsed.{nothing_unset, unset_less, first_lacks, base_below}
use Rattle.lp_gen.proofs.variables.make_place.Goals as goal

pub returns-in_default-clause-code : goal.returns-in_default-clause-code
returns-in_default-clause-code c =
    let b = c.args.bank.now in
    place_empty c.args.emitter.now (around_of b c.args.environment.now) c.args.place c.saturating_add-level.result c.saturating_add-level.ensures
    (sym (c.at.ensures b) ∙ ap (option_map (seen b)) c.in_default.is)

pub returns-then-variable-clause-code : goal.returns-then-variable-clause-code
returns-then-variable-clause-code c =
    let b = c.args.bank.now in
    place_was_set c.args.emitter.now (around_of b c.args.environment.now) c.args.place c.saturating_add-level.result (seen b c.in-Some.variable) c.saturating_add-level.ensures
    (sym (c.at.ensures b) ∙ ap (option_map (seen b)) c.in-Some.is) c.if-variable.true

pub returns-clause-code : goal.returns-clause-code
returns-clause-code c =
    let b = c.args.bank.now in
    place_made c.args.emitter.now c.put_variable.new.emitter (around_of b c.args.environment.now) (around_of b c.put_variable.new.environment) c.args.place c.saturating_add-level.result
    (seen b c.in-Some.variable) c.saturating_add-level.ensures (sym (c.at.ensures b) ∙ ap (option_map (seen b)) c.in-Some.is) c.if-variable.false
    c.in_ok-put_variable.ensures.made c.in_ok-put_variable.ensures.set

pub returns-in_default-clause-uses : goal.returns-in_default-clause-uses
returns-in_default-clause-uses c = nothing_unset c.args.emitter.now (around_of c.args.bank.now c.args.environment.now)

pub returns-then-variable-clause-uses : goal.returns-then-variable-clause-uses
returns-then-variable-clause-uses c = nothing_unset c.args.emitter.now (around_of c.args.bank.now c.args.environment.now)

pub returns-clause-uses : goal.returns-clause-uses
returns-clause-uses c =
    let b = c.args.bank.now in
    let a = around_of b c.args.environment.now in
    let v = seen b c.in-Some.variable in record {
      amount = made_takes v;
      used = c.in_ok-put_variable.ensures.uses;
      left = unset_less a (around_of b c.put_variable.new.environment) c.saturating_add-level.result v
          (base_below c.args.environment.now.base c.args.place c.saturating_add-level.result (omega arith) c.saturating_add-level.ensures)
          (sym (c.at.ensures b) ∙ ap (option_map (seen b)) c.in-Some.is) c.if-variable.false c.in_ok-put_variable.ensures.set;
    }

pub returns-in_err-put_variable-clause-lacks : goal.returns-in_err-put_variable-clause-lacks
returns-in_err-put_variable-clause-lacks c =
    let b = c.args.bank.now in
    let a = around_of b c.args.environment.now in
    let v = seen b c.in-Some.variable in
    let e = c.in_err-put_variable.field-0.0 in
    passed_up c.from_residual.result e (Lacks c.args.emitter.now (unset_take a.own)) c.from_residual.ensures.1
    (first_lacks c.args.emitter.now (made_takes v) (unset_take (set_level a c.saturating_add-level.result).own) (unset_take a.own) e
    (unset_less a (set_level a c.saturating_add-level.result) c.saturating_add-level.result v
    (base_below c.args.environment.now.base c.args.place c.saturating_add-level.result (omega arith) c.saturating_add-level.ensures)
    (sym (c.at.ensures b) ∙ ap (option_map (seen b)) c.in-Some.is) c.if-variable.false refl) c.in_err-put_variable.ensures.lacks)
