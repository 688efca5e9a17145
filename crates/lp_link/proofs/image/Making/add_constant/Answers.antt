use Rattle.std.proofs.Common.{◌∙◌, refl}
use Rattle.lp_link.proofs.AddedTables.{constant_added}
use Rattle.lp_link.proofs.NamedTables.{constant_put}
use Rattle.lp_link.proofs.image.Making.add_constant.Goals as goal

pub returns-clause-added : goal.returns-clause-added
returns-clause-added c = constant_added c.args.self.now _ _ refl c.in_ok-push.ensures.items refl c.requires

pub returns-clause-names : goal.returns-clause-names
returns-clause-names c = constant_put c.args.self.now _ _ c.args.constant.now.name.items refl c.in_ok-push.ensures.items refl refl (c.in_ok-name.ensures.items ∙ c.as_slice.ensures.value)
