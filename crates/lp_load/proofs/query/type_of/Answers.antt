use Rattle.std.proofs.Common.{◌<◌, arith, length, subst, sym}
use Rattle.lp_lemmas.proofs.Results.{passed_up}
use Rattle.lp_lines.proofs.Placing.{cause_passed}
use Rattle.lp_gen.specs.Limits.{QueryWithin}
use Rattle.lp_normal.specs.Counted.{AssumesFewClauses}
use Rattle.lp_load.specs.Refused.{IsRefusedFor, of_form, of_typing, unread}
use Rattle.lp_load.proofs.Refusing.{over_arguments, over_clauses, over_code}
use Rattle.lp_term.proofs.Trees.{extends_same, extends-trans}
use Rattle.lp_load.proofs.Asking.{asked_later}
use Rattle.lp_load.proofs.query.type_of.Goals as goal

pub returns-in_err-within_arguments-clause-refused : goal.returns-in_err-within_arguments-clause-refused
returns-in_err-within_arguments-clause-refused g = cause_passed g.from_residual-in_err-within_arguments.result g.in_err-within_arguments.field-0.0
    g.args.text.now g.from_residual-in_err-within_arguments.ensures.1 (g.in_err-within_arguments.ensures.refused g.args.text.now)

pub returns-in-Err-clause-refused : goal.returns-in-Err-clause-refused
returns-in-Err-clause-refused g = g.of_typing.ensures.cause g.args.text.now

pub returns-in_err-within_form-clause-refused : goal.returns-in_err-within_form-clause-refused
returns-in_err-within_form-clause-refused g = cause_passed g.from_residual-in_err-within_form.result g.in_err-within_form.field-0.0 g.args.text.now
    g.from_residual-in_err-within_form.ensures.1 (g.in_err-within_form.ensures.refused g.args.text.now)

pub returns-in_err-goals-clause-refused : goal.returns-in_err-goals-clause-refused
returns-in_err-goals-clause-refused g = cause_passed g.from_residual-in_err-goals.result g.in_err-goals.field-0.0
    g.args.text.now g.from_residual-in_err-goals.ensures.1 (g.in_err-goals.ensures.refused g.args.text.now)

pub returns-clause-asked : goal.returns-clause-asked
returns-clause-asked g = asked_later _ _ _ _ _ _ g.in_ok-raw.raw _ g.in_ok-within_form.ensures.kept g.in_ok-goals.ensures.kept
    g.in_ok-raw.ensures.read g.in_ok-within_arguments.ensures.few g.in-Ok.ensures.stands g.in-Ok.ensures.typed g.in_ok-within_form.ensures.short
    g.in_ok-within_form.ensures.variables g.in_ok-within_form.ensures.formed

pub returns-in_err-raw-clause-cause : goal.returns-in_err-raw-clause-cause
returns-in_err-raw-clause-cause g = passed_up g.from_residual.result g.in_err-raw.field-0.0 (IsRefusedFor g.args.built.now g.args.text.now)
    g.from_residual.ensures.1 (unread g.in_err-raw.field-0.0 g.in_err-raw.ensures.cause)

pub returns-in_err-within_arguments-clause-cause : goal.returns-in_err-within_arguments-clause-cause
returns-in_err-within_arguments-clause-cause g = passed_up g.from_residual-in_err-within_arguments.result g.in_err-within_arguments.field-0.0
    (IsRefusedFor g.args.built.now g.args.text.now) g.from_residual-in_err-within_arguments.ensures.1
    (over_arguments g.args.built.now g.args.text.now g.in_ok-raw.raw g.in_err-within_arguments.field-0.0 g.in_ok-raw.ensures.read g.in_err-within_arguments.ensures.cause)

pub returns-in-Err-clause-cause : goal.returns-in-Err-clause-cause
returns-in-Err-clause-cause g =
    of_typing g.in_ok-raw.raw g.in-Err.fault g.of_typing.result g.in_ok-raw.ensures.read g.in_ok-within_arguments.ensures.few g.in-Err.ensures.refused g.of_typing.ensures.tells

pub returns-in_err-within_form-clause-cause : goal.returns-in_err-within_form-clause-cause
returns-in_err-within_form-clause-cause g =
    let why = g.in_err-within_form.ensures.cause in
    passed_up g.from_residual-in_err-within_form.result g.in_err-within_form.field-0.0 (IsRefusedFor g.args.built.now g.args.text.now)
    g.from_residual-in_err-within_form.ensures.1
    (of_form g.in_ok-raw.raw _ g.in-Ok.typed why.0 g.in_err-within_form.field-0.0 g.in_ok-raw.ensures.read g.in_ok-within_arguments.ensures.few g.in-Ok.ensures.typed why.1 why.2)

pub returns-in_err-goals-clause-cause : goal.returns-in_err-goals-clause-cause
returns-in_err-goals-clause-cause g =
    passed_up g.from_residual-in_err-goals.result g.in_err-goals.field-0.0 (IsRefusedFor g.args.built.now g.args.text.now)
    g.from_residual-in_err-goals.ensures.1
    (over_clauses g.args.built.now g.args.text.now _ g.in-Ok.typed g.in_err-goals.field-0.0
    (asked_later _ _ _ _ _ _ g.in_ok-raw.raw _ g.in_ok-within_form.ensures.kept (extends_same _)
    g.in_ok-raw.ensures.read g.in_ok-within_arguments.ensures.few g.in-Ok.ensures.stands g.in-Ok.ensures.typed g.in_ok-within_form.ensures.short
    g.in_ok-within_form.ensures.variables g.in_ok-within_form.ensures.formed) g.in_err-goals.ensures.cause)

pub returns-clause-few : goal.returns-clause-few
returns-clause-few g =
    subst AssumesFewClauses
    (sym (g.in_ok-goals.ensures.kept.same_terms g.in-Ok.typed.formula.0 (omega (arith, g.in-Ok.ensures.stands.formula, g.in_ok-within_form.ensures.kept.more_terms)))) g.in_ok-goals.ensures.few

pub returns-in_err-within_code-clause-refused : goal.returns-in_err-within_code-clause-refused
returns-in_err-within_code-clause-refused g = cause_passed g.from_residual-in_err-within_code.result g.in_err-within_code.field-0.0 g.args.text.now
    g.from_residual-in_err-within_code.ensures.1 (g.in_err-within_code.ensures.refused g.args.text.now)

pub returns-in_err-within_code-clause-cause : goal.returns-in_err-within_code-clause-cause
returns-in_err-within_code-clause-cause g =
    let old = g.args.built.now.assembled.program.bank in
    let b = g.within_clauses.new.bank in
    let lt : g.in-Ok.typed.formula.0 < length g.within_form.new.bank.terms = omega (arith, g.in-Ok.ensures.stands.formula, g.in_ok-within_form.ensures.kept.more_terms) in
    passed_up g.from_residual-in_err-within_code.result g.in_err-within_code.field-0.0 (IsRefusedFor g.args.built.now g.args.text.now) g.from_residual-in_err-within_code.ensures.1
    (over_code g.args.built.now g.args.text.now b g.as_slice-constants.result.now g.in-Ok.typed g.in_ok-goals.goals.items g.as_slice.result.now g.in_err-within_code.field-0.0
    (extends-trans old g.within_form.new.bank b (extends-trans old g.type_query.new.bank g.within_form.new.bank g.type_query.ensures.kept g.in_ok-within_form.ensures.kept) g.in_ok-goals.ensures.kept)
    (asked_later _ _ _ _ _ _ g.in_ok-raw.raw _ g.in_ok-within_form.ensures.kept g.in_ok-goals.ensures.kept
    g.in_ok-raw.ensures.read g.in_ok-within_arguments.ensures.few g.in-Ok.ensures.stands g.in-Ok.ensures.typed g.in_ok-within_form.ensures.short
    g.in_ok-within_form.ensures.variables g.in_ok-within_form.ensures.formed)
    (subst AssumesFewClauses (sym (g.in_ok-goals.ensures.kept.same_terms g.in-Ok.typed.formula.0 lt)) g.in_ok-goals.ensures.few)
    (g.in_ok-goals.ensures.goals lt) g.as_slice.ensures.value g.as_slice-constants.ensures.value g.in_err-within_code.ensures.cause)

pub returns-clause-coded : goal.returns-clause-coded
returns-clause-coded g =
    let b = g.within_clauses.new.bank in
    let q = g.in-Ok.typed in
    let lt : q.formula.0 < length g.within_form.new.bank.terms = omega (arith, g.in-Ok.ensures.stands.formula, g.in_ok-within_form.ensures.kept.more_terms) in
    record {
      few = subst AssumesFewClauses (sym (g.in_ok-goals.ensures.kept.same_terms q.formula.0 lt)) g.in_ok-goals.ensures.few;
      goals = g.in_ok-goals.goals.items;
      are = g.in_ok-goals.ensures.goals lt;
      within = subst (λ gs. QueryWithin b g.args.built.now.assembled.program.constants.items q gs) g.as_slice.ensures.value
          (subst (λ ds. QueryWithin b ds q g.as_slice.result.now) g.as_slice-constants.ensures.value g.in_ok-within_code.ensures.within);
    }
