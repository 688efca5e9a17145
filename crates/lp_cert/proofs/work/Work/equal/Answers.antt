use Rattle.lp_term.proofs.Trees.{extends-trans, extends_same}
use Rattle.lp_term.specs.Nodes.{tree}
use Rattle.std.proofs.Common.{refl, subst, sym, ◌∙◌, ◌≡◌}
use Rattle.lp_cert.proofs.Running.{two_once}
use Rattle.lp_calculus.specs.Convert.{Converts}
use Rattle.std.proofs.Math.Path.{transport}
use Rattle.lp_cert.proofs.Turning.{compared_turned, is_done}
use Rattle.lp_cert.proofs.Nodewise.{typed_ready}
use Rattle.lp_cert.specs.Run.{proving, OneIsLarge}
use Rattle.lp_cert.specs.Written.{equated}
use Rattle.lp_cert.specs.inner.Turned.{IsTurned}
use Rattle.lp_standard.specs.Numbers as number
use Rattle.lp_cert.proofs.work.Work.equal.Goals as goal

pub returns-clause-equation : goal.returns-clause-equation
returns-clause-equation c = λ e b g.
    let q = c.in-Some.ensures.later b (extends-trans _ _ _ c.in_ok-compared.ensures.kept g) in
    (q.0, tree b c.in-Some.left.0, tree b c.in-Some.right.0, q.1, c.in_ok-compared.ensures.later (c.turn_of-turn.ensures.on e) b g)

pub returns-in_default-clause-turned : goal.returns-in_default-clause-turned
returns-in_default-clause-turned c = λ w g b h k. c.in_default.ensures.none refl k.0.0 k.0.1 k.0.2 (sym (h.same_terms c.args.goal.0 g.0) ∙ k.0.3)

pub returns-clause-turned : goal.returns-clause-turned
returns-clause-turned c = λ w g.
    let kept = c.in_ok-compared.ensures.kept in
    let r = typed_ready c.args.bank.now c.args.goal c.in-Some.left c.in-Some.right number.Equal (c.in-Some.ensures.later c.args.bank.now (extends_same c.args.bank.now)) g c.in-Some.ensures.inside.0 c.in-Some.ensures.inside.1 in
    compared_turned (IsTurned c.converts.new.bank c.args.self.now c.converts.new.self (λ b. proving (tree b c.args.goal.0)) (λ b. equated)) c.turn_of-turn.result c.in_ok-compared.compared c.turn_of-turn.ensures.on c.turn_of-turn.ensures.no c.turn_of-turn.ensures.deep
    (λ e. is_done c.args.bank.now _ c.args.self.now c.converts.new.self c.converts.new.self (λ b. proving (tree b c.args.goal.0)) (λ b. equated) kept c.in_ok-compared.ensures.stays refl w (λ b h at.
    let q = c.in-Some.ensures.later b (extends-trans _ _ _ kept h) in
    ((q.0, tree b c.in-Some.left.0, tree b c.in-Some.right.0, q.1, c.in_ok-compared.ensures.later e b h), at)))
    (λ e b h k.
    let q = c.in-Some.ensures.later b (extends-trans _ _ _ kept h) in
    let s = two_once number.Equal _ _ k.0.1 k.0.2 (tree b c.in-Some.left.0) (tree b c.in-Some.right.0) (sym k.0.3 ∙ q.1) in
    c.in_ok-compared.ensures.differ e r.0 r.1 b h (transport (λ j. Converts (s.0 j) (s.1 j)) k.0.4))
    (λ e b h.
    let q = c.in-Some.ensures.later b (extends-trans _ _ _ kept h) in
    (q.0, tree b c.in-Some.left.0, tree b c.in-Some.right.0, q.1, c.in_ok-compared.ensures.deep e r.0 r.1 b h))
