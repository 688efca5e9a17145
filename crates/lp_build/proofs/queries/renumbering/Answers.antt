use Rattle.std.proofs.Common.{◌∙◌, sym, ap, map}
use Rattle.std.specs.Prelude.{nat_eq}
use Rattle.std.proofs.lemmas.List.{take_all}
use Rattle.indexmap.specs.IndexMap.{get}
use Rattle.lp_sig.specs.Rows.{kind_row}
use Rattle.lp_build.specs.Queried.{kind_numbers, number_among}
use Rattle.lp_build.proofs.Placing.{kind_more}
use Rattle.lp_build.proofs.queries.renumbering.Goals as goal

pub loop-at-preserved : goal.loop-at-preserved
loop-at-preserved c = λ names has.
    kind_more names c.kinds-entries.result.now c.loop-at.at c.index-entries-at.result c.in-Some.number (get nat_eq c.put_number.new.numbers)
    (get nat_eq c.loop-at.numbers) c.loop-at-test.true c.index-entries-at.is
    (ap (number_among 8 names) (sym c.as_slice-name.ensures.value) ∙ c.in-Some.ensures names has) c.in_ok-put_number.ensures (c.loop-at.invariant names has)

pub returns : goal.returns
returns c = λ names has k. c.loop-at.invariant names has k ∙ ap (λ l. kind_numbers names (map kind_row l) k)
    (take_all c.loop-at.at c.kinds-entries.result.now c.loop-at-test.false ∙ c.kinds-entries.ensures)
