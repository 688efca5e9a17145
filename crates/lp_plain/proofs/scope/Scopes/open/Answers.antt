use Rattle.std.proofs.Common.{arith, refl}
use Rattle.lp_plain.proofs.Scoped.{kept_behind, scope_opened}
use Rattle.lp_plain.proofs.scope.Scopes.open.Goals as goal

pub returns-clause-kept : goal.returns-clause-kept
returns-clause-kept c = λ nb nv h l.
    kept_behind c.args.self.now (record { blocks = c.push.new.self; values = c.extend_from_slice.new.self }) nb nv _ _ c.in_ok-push.ensures.items c.in_ok-extend_from_slice.ensures.items h l

pub returns-clause-opened : goal.returns-clause-opened
returns-clause-opened c = λ vs w.
    scope_opened c.args.self.now (record { blocks = c.push.new.self; values = c.extend_from_slice.new.self }) _ c.args.values.now vs c.in_ok-push.ensures.items c.in_ok-extend_from_slice.ensures.items
    (omega (arith, c.len-from.ensures, c.args.self.now.values.ok)) refl w c.len-number.result (omega (arith, c.len-number.ensures, c.args.self.now.blocks.ok))

pub returns-clause-blocks : goal.returns-clause-blocks
returns-clause-blocks c = (_, c.in_ok-push.ensures.items)
