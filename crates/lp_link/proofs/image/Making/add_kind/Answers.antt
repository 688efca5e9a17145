use Rattle.std.proofs.Common.{◌∙◌, refl}
use Rattle.lp_link.proofs.AddedTables.{kind_added}
use Rattle.lp_link.proofs.NamedTables.{kind_put}
use Rattle.lp_link.proofs.image.Making.add_kind.Goals as goal

pub returns-clause-tables : goal.returns-clause-tables
returns-clause-tables c = kind_added c.args.self.now _ _ c.in_ok-push.ensures.items refl refl

pub returns-clause-names : goal.returns-clause-names
returns-clause-names c = kind_put c.args.self.now _ _ c.args.kind.now.name.items c.in_ok-push.ensures.items refl refl refl (c.in_ok-name.ensures.items ∙ c.as_slice.ensures.value)
