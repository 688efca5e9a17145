use Rattle.std.proofs.Common.{refl, sym, ◌∙◌}
use Rattle.lp_cert.proofs.Deriving.{closed_pushes}
use Rattle.lp_cert.proofs.Closing.{closed_is}
use Rattle.lp_term.specs.Nodes.{type_tree}
use Rattle.lp_cert.proofs.typing.Typing.closed.Goals as goal

pub returns-clause-pushes : goal.returns-clause-pushes
returns-clause-pushes c = λ e. record {
  rest = record { constants = refl; eigens = refl; context = refl; pairs = refl; tasks = refl };
  stack = closed_pushes c.args.bank.now c.args.self.now.stack.items c.push.new.self.items c.args.of (sym c.in_ok-is_closed_type.ensures.closed ∙ c.if-not-branch.false) c.in_ok-push.ensures.items;
}

pub returns-then-not-branch-clause-held : goal.returns-then-not-branch-clause-held
returns-then-not-branch-clause-held c = λ h. absurd (let p = closed_is (type_tree c.args.bank.now c.args.of.0) h in let q = c.in_ok-is_closed_type.ensures.closed in let r = c.if-not-branch.true in cc)

pub returns-clause-held : goal.returns-clause-held
returns-clause-held c = λ h. (refl, record { rest = record { constants = refl; eigens = refl; context = refl; pairs = refl; tasks = refl }; next = refl; stack = c.in_ok-push.ensures.items })
