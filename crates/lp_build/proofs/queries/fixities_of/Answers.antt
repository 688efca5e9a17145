use Rattle.std.proofs.Common.{◌∙◌, sym, ap, map}
use Rattle.std.specs.Prelude.{filter}
use Rattle.std.proofs.lemmas.List.{take_all}
use Rattle.lp_sig.specs.Rows.{fixity_row}
use Rattle.lp_build.specs.Queried.{is_seen}
use Rattle.lp_build.proofs.Placing.{filter_taken, filter_passed}
use Rattle.lp_build.proofs.queries.fixities_of.Goals as goal

pub loop-at-init : goal.loop-at-init
loop-at-init c = ap (map fixity_row) c.new-fixities.ensures.items

pub loop-at-preserved-then-not-is_seen : goal.loop-at-preserved-then-not-is_seen
loop-at-preserved-then-not-is_seen c =
    filter_passed fixity_row (λ e. is_seen c.args.own.now.constants.items e.name.items) c.fixities-entries.result.now c.loop-at.at
    c.index-entries-at.result c.loop-at.fixities.items c.loop-at-test.true c.index-entries-at.is
    (ap (is_seen c.args.own.now.constants.items) (sym c.as_slice.ensures.value) ∙ sym c.is_seen.ensures ∙ c.if-not-is_seen.true) c.loop-at.invariant

pub loop-at-preserved : goal.loop-at-preserved
loop-at-preserved c =
    filter_taken fixity_row (λ e. is_seen c.args.own.now.constants.items e.name.items) c.fixities-entries.result.now c.loop-at.at
    c.index-entries-at.result c.in_ok-fixity.fixity c.loop-at.fixities.items c.push.new.self.items c.loop-at-test.true c.index-entries-at.is
    (ap (is_seen c.args.own.now.constants.items) (sym c.as_slice.ensures.value) ∙ sym c.is_seen.ensures ∙ c.if-not-is_seen.false) c.in_ok-fixity.ensures c.in_ok-push.ensures.items c.loop-at.invariant

pub returns : goal.returns
returns c = c.loop-at.invariant ∙ ap (λ l. map fixity_row (filter (λ e. is_seen c.args.own.now.constants.items e.name.items) l))
    (take_all c.loop-at.at c.fixities-entries.result.now c.loop-at-test.false ∙ c.fixities-entries.ensures)
