use Rattle.std.proofs.Common.{map}
use Rattle.lp_lemmas.proofs.Results.{on_ok_both}
use Rattle.lp_link.specs.Linked.{kinds_of, constants_of}
use Rattle.lp_link.specs.Names.{exported_of, moved_schemes, as_global, exported_kind_rows, exported_constant_rows}
use Rattle.lp_link.specs.inner.Entering.{open_copy}
use Rattle.lp_link.specs.inner.Tabled.{arities_of}
use Rattle.lp_link.proofs.MadeCopies.{tables_both}
use Rattle.lp_link.proofs.NamedTables.{rows_both}
use Rattle.lp_link.proofs.image.Making.add_global.Goals as goal

pub returns-clause-tables : goal.returns-clause-tables
returns-clause-tables c =
    let o = c.args.root.now in
    on_ok_both c.add_global_constants.result c.add_global_constants.ensures.tables c.add_global_constants.ensures.tables
    (λ x y. tables_both c.args.self.now c.add_global_kinds.new.self c.add_global_constants.new.self
    (exported_of (kinds_of o.member.now.object.now) (arities_of o.member.now.object.now))
    (exported_of (constants_of o.member.now.object.now) (moved_schemes (open_copy o))) c.in_ok-add_global_kinds.ensures.tables x)

pub returns-clause-names : goal.returns-clause-names
returns-clause-names c =
    let o = c.args.root.now.member.now.object.now in
    on_ok_both c.add_global_constants.result c.add_global_constants.ensures.names c.add_global_constants.ensures.names
    (λ x y. rows_both c.args.self.now c.add_global_kinds.new.self c.add_global_constants.new.self
    (map as_global (exported_kind_rows o)) (map as_global (exported_constant_rows o)) c.in_ok-add_global_kinds.ensures.names x)
