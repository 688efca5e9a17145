use Rattle.std.proofs.Common.{sym, refl, arith, ap, ◌∙◌, ◌++◌, ◌∷◌, []}
use Rattle.lp_cert.proofs.Applying.{arrow_moves, any_moves}
use Rattle.lp_cert.proofs.Later.{type_seen_later}
use Rattle.lp_cert.proofs.Comparisons.{nothing}
use Rattle.lp_cert.proofs.Completing.{arrow_keeps, any_kept, applying_none, applying_one, last_inside}
use Rattle.lp_term.proofs.Trees.{extends_same}
use Rattle.lp_cert.proofs.typing.Typing.apply.Goals as goal

pub returns-in_ok-push-in-Arrow-clause-moves : goal.returns-in_ok-push-in-Arrow-clause-moves
returns-in_ok-push-in-Arrow-clause-moves c = λ e b g θ T s d.
    arrow_moves b θ _ c.equate.new.self c.args.self.now.stack.items c.pop.new.self.items c.push.new.self.items c.in-Some-pop.head c.in-Some.argument c.in-Arrow.from c.in-Arrow.to T c.in-Some.ensures.items c.in-Some-pop.ensures.items c.in_ok-equate-in-Arrow.ensures.grown
    (sym (type_seen_later c.args.bank.now b c.in-Some-pop.head.0 _ g c.in-Arrow.ensures.node (λ q. absurd (cc)) c.in-Arrow.ensures.within c.in-Arrow.ensures.tree)) c.in_ok-push-in-Arrow.ensures.items s d

pub returns-in_default-type_node : goal.returns-in_default-type_node
returns-in_default-type_node c = record {
  kept = c.apply_any.ensures.kept;
  moves = any_moves _ _ c.apply_any.new.self c.args.self.now.stack.items c.pop.new.self.items c.in-Some-pop.head c.in-Some.argument c.apply_any.result c.in-Some.ensures.items c.in-Some-pop.ensures.items c.apply_any.ensures.applies;
  keeps = any_kept c.args.bank.now _ c.args.self.now _ c.apply_any.new.self c.pop.new.self.items c.in-Some-pop.head c.in-Some.argument c.apply_any.result c.in-Some.ensures.items c.in-Some-pop.ensures.items refl refl refl refl refl refl c.apply_any.ensures.keeps;
}

pub returns-in_default-clause-keeps : goal.returns-in_default-clause-keeps
returns-in_default-clause-keeps c = λ y. applying_none c.args.bank.now c.args.self.now _ (nothing c.args.self.now.stack.items (omega (arith, c.in_default.ensures.cases.0, c.args.self.now.stack.ok)))

pub returns-in_default-pop-clause-keeps : goal.returns-in_default-pop-clause-keeps
returns-in_default-pop-clause-keeps c = λ y. applying_one c.args.bank.now c.args.self.now _ c.pop.new.self.items c.in-Some.argument c.in-Some.ensures.items (nothing c.pop.new.self.items (omega (arith, c.in_default-pop.ensures.cases.0, c.pop.new.self.ok)))

pub returns-then-not-is_type_inside-clause-keeps : goal.returns-then-not-is_type_inside-clause-keeps
returns-then-not-is_type_inside-clause-keeps c = λ y. last_inside c.args.bank.now c.args.self.now.next c.args.self.now.stack.items c.pop.new.self.items c.in-Some.argument _ c.in-Some.ensures.items y.stack (c.is_type_inside.ensures.outside c.if-not-is_type_inside.true)

pub returns-in_ok-push-in-Arrow-clause-keeps : goal.returns-in_ok-push-in-Arrow-clause-keeps
returns-in_ok-push-in-Arrow-clause-keeps c = λ y.
    let t = c.in_ok-equate-in-Arrow.ensures.grown in
    let q = c.in_ok-equate-in-Arrow.ensures.equated in
    arrow_keeps c.args.bank.now c.args.self.now c.equate.new.self _ c.pop.new.self.items c.pop-2.new.self.items c.in-Some-pop.head c.in-Some.argument
    c.in-Arrow.from c.in-Arrow.to y (extends_same c.args.bank.now) c.in-Some.ensures.items c.in-Some-pop.ensures.items t.constants t.eigens
    t.context t.tasks q.next refl
    q.solved q.below (c.in_ok-push-in-Arrow.ensures.items ∙ ap (λ x. x.items ++ c.in-Arrow.to ∷ []) t.stack) c.in-Arrow.ensures.within.0 c.in-Arrow.ensures.within.1
    (λ b g. sym (type_seen_later c.args.bank.now b c.in-Some-pop.head.0 _ g c.in-Arrow.ensures.node (λ e. absurd (cc)) c.in-Arrow.ensures.within c.in-Arrow.ensures.tree))
