use Rattle.std.proofs.Common.{◌≡◌, ◌∙◌, ap, sym, arith}
use Rattle.std.specs.Prelude.{if◌then◌else◌, ◌-◌}
use Rattle.lp_gen.specs.inner.Listing.{around_of, seen}
use Rattle.lp_gen.proofs.TypeWorks.{map_length}
use Rattle.lp_gen.proofs.OwnMade.{place_at, no_places, places_then, all_places}
use Rattle.lp_lemmas.proofs.Results.{passed_up}
use Rattle.lp_gen.specs.Registers.{unset_take}
use Rattle.lp_gen.specs.inner.Using.{Lacks}
use Rattle.lp_gen.proofs.VariablesUsed.{nothing_unset, unset_then, unset_done, unset_lacks}
use Rattle.lp_gen.proofs.variables.make_variables.Goals as goal
use Rattle.lp_gen.proofs.variables.make_variables.Goals.{then-is_clause, else-is_clause}

pub loop-at-init : goal.loop-at-init
loop-at-init c =
    let b = c.args.bank.now in
    let many = map_length (seen b) c.args.environment.now.own.items in (
      no_places c.args.is_clause c.args.emitter.now (around_of b c.args.environment.now) c.len-count.result (omega (arith, many, c.len-count.ensures, c.args.environment.now.own.ok)),
      nothing_unset c.args.emitter.now (around_of b c.args.environment.now),
    )

pub loop-at-preserved : goal.loop-at-preserved
loop-at-preserved c =
    let b = c.args.bank.now in
    let count = c.len-count.result in
    let at : c.if-is_clause.place ≡ place_at c.args.is_clause count c.loop-at.at = elim c.if-is_clause.branch [
      | then-is_clause w ↦ w.place-is ∙ ap (λ t. if t then count - 1 - c.loop-at.at else c.loop-at.at) (sym w.if-is_clause.true)
      | else-is_clause w ↦ w.place-is ∙ ap (λ t. if t then count - 1 - c.loop-at.at else c.loop-at.at) (sym w.if-is_clause.false)
    ] in (
      places_then c.args.is_clause c.args.emitter.now c.loop-at.emitter c.make_place.new.emitter (around_of b c.args.environment.now) (around_of b c.loop-at.environment)
          (around_of b c.make_place.new.environment) count c.loop-at.at c.if-is_clause.place c.loop-at.invariant.0 c.in_ok-make_place.ensures.code c.loop-at-test.true at,
      unset_then c.args.emitter.now c.loop-at.emitter c.make_place.new.emitter (around_of b c.args.environment.now) (around_of b c.loop-at.environment) (around_of b c.make_place.new.environment)
          c.loop-at.invariant.1 c.in_ok-make_place.ensures.uses,
    )

pub returns-clause-code : goal.returns-clause-code
returns-clause-code c =
    let b = c.args.bank.now in
    let many = map_length (seen b) c.args.environment.now.own.items in
    all_places c.args.is_clause c.args.emitter.now c.loop-at.emitter (around_of b c.args.environment.now) (around_of b c.loop-at.environment) c.len-count.result c.loop-at.at c.loop-at.invariant.0
    c.loop-at-test.false (omega (arith, many, c.len-count.ensures, c.args.environment.now.own.ok))

pub returns-clause-uses : goal.returns-clause-uses
returns-clause-uses c = λ short.
    let b = c.args.bank.now in
    let many = map_length (seen b) c.args.environment.now.own.items in
    unset_done c.args.emitter.now c.loop-at.emitter (around_of b c.args.environment.now) (around_of b c.loop-at.environment) c.loop-at.invariant.1
    ((all_places c.args.is_clause c.args.emitter.now c.loop-at.emitter (around_of b c.args.environment.now) (around_of b c.loop-at.environment) c.len-count.result c.loop-at.at c.loop-at.invariant.0
    c.loop-at-test.false (omega (arith, many, c.len-count.ensures, c.args.environment.now.own.ok))).set short)

pub returns-in_err-make_place-clause-lacks : goal.returns-in_err-make_place-clause-lacks
returns-in_err-make_place-clause-lacks c =
    let b = c.args.bank.now in
    let e = c.in_err-make_place.field-0.0 in
    passed_up c.from_residual.result e (Lacks c.args.emitter.now (unset_take (around_of b c.args.environment.now).own)) c.from_residual.ensures.1
    (unset_lacks c.args.emitter.now c.loop-at.emitter (around_of b c.args.environment.now) (around_of b c.loop-at.environment) e c.loop-at.invariant.1 c.in_err-make_place.ensures.lacks)
