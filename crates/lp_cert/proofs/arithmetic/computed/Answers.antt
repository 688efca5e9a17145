use Rattle.std.proofs.Common.{inl, inr, [], refl}
use Rattle.lp_term.specs.Nodes.{tree}
use Rattle.lp_term.proofs.Trees.{extends-trans, extends_same}
use Rattle.lp_cert.proofs.Stepping.{goes_where}
use Rattle.lp_cert.proofs.Deciding.{compared, evaluated}
use Rattle.lp_cert.proofs.Nodewise.{typed_ready}
use Rattle.lp_cert.proofs.Ready.{on_two}
use Rattle.lp_cert.proofs.arithmetic.computed.Goals as goal

pub returns-in-Some-clause-arith : goal.returns-in-Some-clause-arith
returns-in-Some-clause-arith c =
    goes_where c.valued.result _ _ c.valued.ensures.valued (λ p b g.
    let q = c.in-Some.ensures.later b (extends-trans _ _ _ c.valued.ensures.kept g) in
    let k = p b g in
    inl (q.0, tree b c.in-Some.term.0, tree b c.in-Some.expression.0, k.0, q.1, k.1, k.2))

pub returns-clause-arith : goal.returns-clause-arith
returns-clause-arith c =
    goes_where c.in_order.result _ _ c.in_order.ensures.ordered (λ p b g.
    let q = c.in-Some-comparison.ensures.later b (extends-trans _ _ _ c.in_order.ensures.kept g) in
    let k = p b g in
    inr (c.in-Some-comparison.order, tree b c.in-Some-comparison.left.0, tree b c.in-Some-comparison.right.0, k.0, k.1, c.in-Some-comparison.ensures.order.0, c.in-Some-comparison.ensures.order.1, q, k.2, k.3, k.4))

pub returns-in-Some-clause-decides : goal.returns-in-Some-clause-decides
returns-in-Some-clause-decides c =
    let e = c.in-Some.ensures.later c.args.bank.now (extends_same c.args.bank.now) in
    evaluated c.valued.result c.args.bank.now c.args.goal c.in-Some.term c.in-Some.expression e (λ g. typed_ready c.args.bank.now c.args.goal c.in-Some.term c.in-Some.expression _ e g c.in-Some.ensures.inside.0 c.in-Some.ensures.inside.1) c.valued.ensures.decides

pub returns-in_default-comparison-clause-decides : goal.returns-in_default-comparison-clause-decides
returns-in_default-comparison-clause-decides c = λ g q. elim q [
  | inl h ↦ c.in_default.ensures.none refl h.0 h.1 h.2 h.4
  | inr h ↦ c.in_default-comparison.ensures.none refl h.0 h.1 h.2 h.5 h.6 h.7
]

pub returns-clause-decides : goal.returns-clause-decides
returns-clause-decides c =
    let e = c.in-Some-comparison.ensures.later c.args.bank.now (extends_same c.args.bank.now) in
    compared c.in_order.result c.args.bank.now c.args.goal c.in-Some-comparison.left c.in-Some-comparison.right c.in-Some-comparison.order (c.in_default.ensures.none refl) c.in-Some-comparison.ensures.order.0 c.in-Some-comparison.ensures.order.1 e
    (λ g. on_two c.args.bank.now c.args.goal c.in-Some-comparison.left c.in-Some-comparison.right _ [] e g c.in-Some-comparison.ensures.inside.0 c.in-Some-comparison.ensures.inside.1) c.in_order.ensures.decides
