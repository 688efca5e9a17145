use Rattle.std.proofs.Common.{◌∙◌, sym, ap, subst, refl, [], ◌∷◌, true, false}
use Rattle.std.specs.Prelude.{not}
use Rattle.lp_term.specs.Nodes.{tree}
use Rattle.lp_standard.specs.Connectives.{body_of}
use Rattle.lp_model.specs.Connected.{connective_in, IsConnectiveIn}
use Rattle.lp_module.specs.Form.{parts_by, below, inside, is_term_by}
use Rattle.lp_module.specs.inner.Judging.{Pushes}
use Rattle.lp_module.proofs.Parting.{pushes_none, pushes_one, pushes_body, no_parts, all_parts}
use Rattle.lp_module.proofs.judge.Parts.push_parts.Goals as goal

pub returns-then-is_term-clause-pushed : goal.returns-then-is_term-clause-pushed
returns-then-is_term-clause-pushed c = λ p i.
    subst (Pushes c.args.bank.now c.args.self.now c.args.self.now)
    (sym (no_parts p (connective_in c.args.bank.now c.args.connective) (ap (λ g. is_term_by g (connective_in c.args.bank.now c.args.connective)) (sym i.goal) ∙ sym (c.is_term.ensures c.args.bank.now) ∙ c.if-is_term.true)))
    (pushes_none c.args.bank.now c.args.self.now)

pub returns-in-True-clause-pushed : goal.returns-in-True-clause-pushed
returns-in-True-clause-pushed c = λ p i. subst (λ f. Pushes c.args.bank.now c.args.self.now c.args.self.now (parts_by p (connective_in c.args.bank.now f))) (sym c.in-True.is) (pushes_none c.args.bank.now c.args.self.now)

pub returns-in-Cut-clause-pushed : goal.returns-in-Cut-clause-pushed
returns-in-Cut-clause-pushed c = λ p i. subst (λ f. Pushes c.args.bank.now c.args.self.now c.args.self.now (parts_by p (connective_in c.args.bank.now f))) (sym c.in-Cut.is) (pushes_none c.args.bank.now c.args.self.now)

pub returns-in-Atomic-clause-pushed : goal.returns-in-Atomic-clause-pushed
returns-in-Atomic-clause-pushed c = λ p i. subst (λ f. Pushes c.args.bank.now c.args.self.now c.args.self.now (parts_by p (connective_in c.args.bank.now f))) (sym c.in-Atomic.is) (pushes_none c.args.bank.now c.args.self.now)

pub returns-in_ok-push_both-in-And-clause-pushed : goal.returns-in_ok-push_both-in-And-clause-pushed
returns-in_ok-push_both-in-And-clause-pushed c = λ p i.
    let b = c.args.bank.now in
    let w = subst (IsConnectiveIn b) c.in-And.is c.requires.within in
    subst (λ f. Pushes b c.args.self.now c.push_both.new.self (parts_by p (connective_in b f))) (sym c.in-And.is)
    (subst (λ g. Pushes b c.args.self.now c.push_both.new.self (below p g (tree b c.in-And.left.0) ∷ below p p.goal (tree b c.in-And.right.0) ∷ [])) i.goal
    (c.in_ok-push_both-in-And.ensures b p (tree b c.in-And.left.0) (tree b c.in-And.right.0) i w.0 w.1 refl refl))

pub returns-in_ok-push_both-in-Or-clause-pushed : goal.returns-in_ok-push_both-in-Or-clause-pushed
returns-in_ok-push_both-in-Or-clause-pushed c = λ p i.
    let b = c.args.bank.now in
    let w = subst (IsConnectiveIn b) c.in-Or.is c.requires.within in
    let n = ap not (sym i.goal) ∙ sym (ap (λ f. is_term_by c.args.task.goal (connective_in b f)) c.in-Or.is) ∙ sym (c.is_term.ensures b) ∙ c.if-is_term.false in
    subst (λ f. Pushes b c.args.self.now c.push_both-in-Or.new.self (parts_by p (connective_in b f))) (sym c.in-Or.is)
    (subst (Pushes b c.args.self.now c.push_both-in-Or.new.self) (sym (all_parts p.goal _ n))
    (subst (λ g. Pushes b c.args.self.now c.push_both-in-Or.new.self (below p g (tree b c.in-Or.left.0) ∷ below p p.goal (tree b c.in-Or.right.0) ∷ [])) i.goal
    (c.in_ok-push_both-in-Or.ensures b p (tree b c.in-Or.left.0) (tree b c.in-Or.right.0) i w.0 w.1 refl refl)))

pub returns-in_ok-push_both-in-Implies-clause-pushed : goal.returns-in_ok-push_both-in-Implies-clause-pushed
returns-in_ok-push_both-in-Implies-clause-pushed c = λ p i.
    let b = c.args.bank.now in
    let w = subst (IsConnectiveIn b) c.in-Implies.is c.requires.within in
    subst (λ f. Pushes b c.args.self.now c.push_both-in-Implies.new.self (parts_by p (connective_in b f))) (sym c.in-Implies.is)
    (subst (λ g. Pushes b c.args.self.now c.push_both-in-Implies.new.self (below p (not g) (tree b c.in-Implies.premise.0) ∷ below p p.goal (tree b c.in-Implies.conclusion.0) ∷ [])) i.goal
    (c.in_ok-push_both-in-Implies.ensures b p (tree b c.in-Implies.premise.0) (tree b c.in-Implies.conclusion.0) i w.0 w.1 refl refl))

pub returns-in_ok-push_body-in-ForAll-clause-pushed : goal.returns-in_ok-push_body-in-ForAll-clause-pushed
returns-in_ok-push_body-in-ForAll-clause-pushed c = λ p i.
    let b = c.args.bank.now in
    subst (λ f. Pushes c.push_body.new.bank c.args.self.now c.push_body.new.self (parts_by p (connective_in b f))) (sym c.in-ForAll.is)
    (subst (λ g. Pushes c.push_body.new.bank c.args.self.now c.push_body.new.self (inside p g (body_of (tree b c.in-ForAll.part.0)) ∷ [])) i.goal
    (pushes_body b c.push_body.new.bank c.args.self.now c.push_body.new.self c.args.task c.args.task.goal c.in-ForAll.part p c.in_ok-push_body-in-ForAll.ensures.body i))

pub returns-in_ok-push_body-in-Exists-clause-pushed : goal.returns-in_ok-push_body-in-Exists-clause-pushed
returns-in_ok-push_body-in-Exists-clause-pushed c = λ p i.
    let b = c.args.bank.now in
    let n = ap not (sym i.goal) ∙ sym (ap (λ f. is_term_by c.args.task.goal (connective_in b f)) c.in-Exists.is) ∙ sym (c.is_term.ensures b) ∙ c.if-is_term.false in
    subst (λ f. Pushes c.push_body-in-Exists.new.bank c.args.self.now c.push_body-in-Exists.new.self (parts_by p (connective_in b f))) (sym c.in-Exists.is)
    (subst (Pushes c.push_body-in-Exists.new.bank c.args.self.now c.push_body-in-Exists.new.self) (sym (all_parts p.goal _ n))
    (pushes_body b c.push_body-in-Exists.new.bank c.args.self.now c.push_body-in-Exists.new.self c.args.task false c.in-Exists.part p c.in_ok-push_body-in-Exists.ensures.body i))

pub returns-in_ok-push-in-Not-clause-pushed : goal.returns-in_ok-push-in-Not-clause-pushed
returns-in_ok-push-in-Not-clause-pushed c = λ p i.
    let b = c.args.bank.now in
    let w = subst (IsConnectiveIn b) c.in-Not.is c.requires.within in
    let n = ap not (sym i.goal) ∙ sym (ap (λ f. is_term_by c.args.task.goal (connective_in b f)) c.in-Not.is) ∙ sym (c.is_term.ensures b) ∙ c.if-is_term.false in
    subst (λ f. Pushes b c.args.self.now c.push.new.self (parts_by p (connective_in b f))) (sym c.in-Not.is)
    (subst (Pushes b c.args.self.now c.push.new.self) (sym (all_parts p.goal _ n)) (pushes_one b c.args.self.now c.push.new.self c.args.task true c.in-Not.part p (tree b c.in-Not.part.0) c.in_ok-push-in-Not.ensures i w refl))

pub push_body-requires-clause-part : goal.push_body-requires-clause-part
push_body-requires-clause-part c = (subst (IsConnectiveIn c.args.bank.now) c.in-ForAll.is c.requires.within).1

pub push_body-requires-in-Exists-clause-part : goal.push_body-requires-in-Exists-clause-part
push_body-requires-in-Exists-clause-part c = (subst (IsConnectiveIn c.args.bank.now) c.in-Exists.is c.requires.within).1
