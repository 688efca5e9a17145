use Rattle.lp_lemmas.proofs.Results.{on_ok_both}
use Rattle.lp_link.specs.Linked.{kinds_of, constants_of}
use Rattle.lp_link.specs.Names.{hidden_of, moved_schemes, hidden_kind_rows, hidden_constant_rows}
use Rattle.lp_link.specs.inner.Entering.{open_copy}
use Rattle.lp_link.specs.inner.Tabled.{arities_of}
use Rattle.lp_link.proofs.MadeCopies.{tables_both}
use Rattle.lp_link.proofs.NamedTables.{hidden_both}
use Rattle.lp_link.proofs.image.Making.add_hidden.Goals as goal

pub returns-clause-tables : goal.returns-clause-tables
returns-clause-tables c =
    let o = c.args.copy.now in
    on_ok_both c.add_hidden_constants.result c.add_hidden_constants.ensures.tables c.add_hidden_constants.ensures.tables
    (λ x y. tables_both c.args.self.now c.add_hidden_kinds.new.self c.add_hidden_constants.new.self
    (hidden_of (kinds_of o.member.now.object.now) (arities_of o.member.now.object.now))
    (hidden_of (constants_of o.member.now.object.now) (moved_schemes (open_copy o))) c.in_ok-add_hidden_kinds.ensures.tables x)

pub returns-clause-names : goal.returns-clause-names
returns-clause-names c =
    let o = c.args.copy.now.member.now.object.now in
    on_ok_both c.add_hidden_constants.result c.add_hidden_constants.ensures.names c.add_hidden_constants.ensures.names
    (λ x y. hidden_both c.args.self.now c.add_hidden_kinds.new.self c.add_hidden_constants.new.self
    (hidden_kind_rows o) (hidden_constant_rows o) c.in_ok-add_hidden_kinds.ensures.names x)
