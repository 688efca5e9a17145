use Rattle.lp_cert.specs.inner.Derives.{steps_of, types_of}
use Rattle.lp_cert.proofs.Deriving.{close_moves}
use Rattle.std.proofs.Common.{refl, arith}
use Rattle.lp_cert.proofs.Comparisons.{nothing}
use Rattle.lp_cert.proofs.Completing.{closing_keeps, closing_no_type, closing_no_variable, last_inside}
use Rattle.lp_cert.proofs.typing.Typing.close.Goals as goal

pub returns-clause-moves : goal.returns-clause-moves
returns-clause-moves c = λ e b g θ T s d. (
  s,
  close_moves c.args.bank.now c.put_arrow.new.bank b θ (types_of b c.args.self.now) c.args.self.now.context.items c.pop-2.new.self.items c.args.self.now.stack.items c.pop.new.self.items c.push.new.self.items (steps_of b c.args.self.now.tasks.items)
      c.in-Some-pop.from c.in-Some.to c.in_ok-of.of T c.in_ok-of.ensures.kept g c.in-Some-pop.ensures.items c.in-Some.ensures.items c.in_ok-push.ensures.items
      (c.is_type_inside.ensures.inside c.if-not-is_type_inside.false) (c.is_type_inside-2.ensures.inside c.if-not-is_type_inside-2.false) c.in_ok-of.ensures.within c.in_ok-of.ensures.tree d,
)

pub returns-in_default-clause-keeps : goal.returns-in_default-clause-keeps
returns-in_default-clause-keeps c = λ y. closing_no_type c.args.bank.now c.args.self.now _ (nothing c.args.self.now.stack.items (omega (arith, c.in_default.ensures.cases.0, c.args.self.now.stack.ok)))

pub returns-in_default-pop-clause-keeps : goal.returns-in_default-pop-clause-keeps
returns-in_default-pop-clause-keeps c = λ y. closing_no_variable c.args.bank.now c.args.self.now _ (nothing c.args.self.now.context.items (omega (arith, c.in_default-pop.ensures.cases.0, c.args.self.now.context.ok)))

pub returns-then-not-is_type_inside-clause-keeps : goal.returns-then-not-is_type_inside-clause-keeps
returns-then-not-is_type_inside-clause-keeps c = λ y. last_inside c.args.bank.now c.args.self.now.next c.args.self.now.context.items c.pop-2.new.self.items c.in-Some-pop.from _ c.in-Some-pop.ensures.items y.context (c.is_type_inside.ensures.outside c.if-not-is_type_inside.true)

pub returns-then-not-is_type_inside-2-clause-keeps : goal.returns-then-not-is_type_inside-2-clause-keeps
returns-then-not-is_type_inside-2-clause-keeps c = λ y. last_inside c.args.bank.now c.args.self.now.next c.args.self.now.stack.items c.pop.new.self.items c.in-Some.to _ c.in-Some.ensures.items y.stack (c.is_type_inside-2.ensures.outside c.if-not-is_type_inside-2.true)

pub returns-clause-keeps : goal.returns-clause-keeps
returns-clause-keeps c = λ y.
    closing_keeps c.args.bank.now c.put_arrow.new.bank c.args.self.now _ c.pop-2.new.self.items c.pop.new.self.items c.in-Some-pop.from c.in-Some.to
    c.in_ok-of.of c.in_ok-of.ensures.kept y refl refl refl refl refl c.in-Some-pop.ensures.items c.in-Some.ensures.items refl
    c.in_ok-push.ensures.items c.in_ok-of.ensures.within c.in_ok-of.ensures.tree
