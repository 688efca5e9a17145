use Rattle.std.proofs.Common.{◌∙◌, refl, sym, subst, take, ◌+◌}
use Rattle.std.proofs.lemmas.List.{take_all}
use Rattle.lp_fixity.specs.Table.{entry_of}
use Rattle.lp_build.specs.Queried.{DeclareEntries, declare_no_entry, declare_entry}
use Rattle.lp_build.proofs.Signing.{first_ones}
use Rattle.lp_build.proofs.queries.query_table.Goals as goal

pub loop-at-init : goal.loop-at-init
loop-at-init c = declare_no_entry (entry_of c.in_ok-table.table) (λ name. refl)

pub loop-at-preserved : goal.loop-at-preserved
loop-at-preserved c =
    let entries = c.fixities-entries.result.now in
    declare_entry (take c.loop-at.at entries) (take (c.loop-at.at + 1) entries) c.index-entries-at.result (entry_of c.loop-at.table)
    (entry_of c.declare_entry.new.table) c.loop-at.invariant c.in_ok-declare_entry.ensures
    (sym (first_ones entries c.loop-at.at c.index-entries-at.result c.loop-at-test.true c.index-entries-at.is))

pub returns : goal.returns
returns c = record {
  first = entry_of c.in_ok-table.table;
  standard_ones = c.in_ok-table.ensures;
  declared = subst (λ l. DeclareEntries (entry_of c.in_ok-table.table) l (entry_of c.loop-at.table))
      (take_all c.loop-at.at c.fixities-entries.result.now c.loop-at-test.false ∙ c.fixities-entries.ensures) c.loop-at.invariant;
}
