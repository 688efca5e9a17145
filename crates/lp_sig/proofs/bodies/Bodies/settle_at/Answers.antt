use Rattle.std.proofs.Common.{[], ◌∷◌, map, sym, ap, subst, ◌∙◌, inl, inr, ⊎_elim}
use Rattle.std.specs.Prelude.{slice_set}
use Rattle.lp_sig.specs.Holding.{HoldsBodies}
use Rattle.lp_sig.specs.Abbreviations.{all_uses}
use Rattle.lp_sig.specs.Standing.{BodyStands}
use Rattle.lp_sig.specs.Constants.{IsSettledIf}
use Rattle.lp_sig.specs.UseOrder.{Behind, UsesComeFirst}
use Rattle.lp_sig.proofs.InTurn.{put_settled, use_stands}
use Rattle.lp_sig.proofs.Typing.{bodies_stay}
use Rattle.lp_sig.proofs.Settling.{put_holds}
use Rattle.lp_sig.proofs.bodies.Bodies.settle_at.Goals as goal

pub returns-in_err-body-clause-bodies : goal.returns-in_err-body-clause-bodies
returns-in_err-body-clause-bodies g c = λ said defs k l h.
    bodies_stay c.args.self.now.types.bank c.body_of.new.self.types.bank c.args.self.now.bodies.items c.body_of.new.self.bodies.items said defs c.body_of.ensures.kept (ap (λ v. v.items) c.body_of.ensures.bodies) h

pub returns-clause-bodies : goal.returns-clause-bodies
returns-clause-bodies g c = λ said defs k l h.
    let stay = bodies_stay c.args.self.now.types.bank c.body_of.new.self.types.bank c.args.self.now.bodies.items c.body_of.new.self.bodies.items said defs c.body_of.ensures.kept (ap (λ v. v.items) c.body_of.ensures.bodies) h in
    subst (λ t. HoldsBodies t.bank c.put_body.new.self.bodies.items said defs) (sym c.put_body.ensures.types)
    (put_holds c.body_of.new.self.types.bank c.body_of.new.self.bodies.items c.put_body.new.self.bodies.items said defs c.in-Declare.place c.in_ok-body.body stay c.put_body.ensures.bodies (λ name at. c.in_ok-body.ensures.is said defs name k h l at))

pub returns-in_default-clause-settled : goal.returns-in_default-clause-settled
returns-in_default-clause-settled g c = λ from z k can first j b. subst (λ s. Behind (IsSettledIf from z c.args.self.now.bodies.items) (s ∷ []) j) c.in_default.is b

pub returns-clause-settled : goal.returns-clause-settled
returns-clause-settled g c = λ from z k can first j b stands.
    let old = c.args.self.now.bodies.items in
    let place = c.in-Declare.place in
    let used = (subst (λ s. UsesComeFirst (all_uses z) (BodyStands from z) (IsSettledIf from z old) (s ∷ [])) c.in-Declare.is first).0 in
    put_settled old c.put_body.new.self.bodies.items place c.in_ok-body.body (c.put_body.ensures.bodies ∙ ap (λ v. slice_set (map (λ b. b.body) v.items) place c.in_ok-body.body) c.body_of.ensures.bodies) j
    (λ e. let here = subst (BodyStands from z) e stands in
    let is = can place c.in-Declare.is here in
    (c.in_ok-body.ensures.settled z.said (all_uses z) k is (λ w d. used here w d (use_stands from z place here w d)), (is.announced.line, is.announced.at_line)))
    (⊎_elim (λ p. inl (p stands)) (λ e. inr e) (subst (λ s. Behind (IsSettledIf from z old) (s ∷ []) j) c.in-Declare.is b))
