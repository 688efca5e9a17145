use Rattle.std.proofs.Common.{◌∙◌, ap, length}
use Rattle.lp_plain.proofs.Scoped.{kept_before, length_taken}
use Rattle.lp_plain.proofs.scope.Scopes.undo.Goals as goal

pub returns-clause-kept : goal.returns-clause-kept
returns-clause-kept c = λ nb nv h l.
    kept_before c.args.self.now (record { blocks = c.truncate.new.self; values = c.truncate-2.new.self }) nb nv c.args.mark.blocks c.args.mark.values c.truncate.ensures.items c.truncate-2.ensures.items h l

pub returns-clause-blocks : goal.returns-clause-blocks
returns-clause-blocks c = λ h. ap length c.truncate.ensures.items ∙ length_taken c.args.mark.blocks c.args.self.now.blocks.items h

pub returns-clause-values : goal.returns-clause-values
returns-clause-values c = λ h. ap length c.truncate-2.ensures.items ∙ length_taken c.args.mark.values c.args.self.now.values.items h

pub returns-clause-taken : goal.returns-clause-taken
returns-clause-taken c = (c.truncate.ensures.items, c.truncate-2.ensures.items)
