use Rattle.std.proofs.Common.{subst, arith, ◌∙◌, ap, sym}
use Rattle.lp_term.specs.Nodes.{tree}
use Rattle.lp_term.proofs.Trees.{extends_same, extends-trans}
use Rattle.lp_cert.specs.Same.{IsFormed}
use Rattle.lp_cert.specs.inner.Evaluated.{value_in}
use Rattle.lp_cert.proofs.Deriving.{some_is}
use Rattle.lp_cert.proofs.Evaluating.{begins_itself, none_is}
use Rattle.lp_cert.proofs.Computing.{value_later, term_later, inside_on}
use Rattle.lp_cert.proofs.Deciding.{form_is_value, value_is, valued_before, values_once, without_decides}
use Rattle.lp_cert.proofs.Matching.{ready_loose}
use Rattle.lp_cert.proofs.Ready.{ready_later}
use Rattle.lp_cert.proofs.Turning.{where_turned}
use Rattle.lp_cert.specs.inner.Turned.{Decides}
use Rattle.lp_cert.specs.Shape.{IsValued}
use Rattle.lp_model.specs.Values.{term_of, HasValue}
use Rattle.lp_cert.specs.declared.form.Formed.TheVariants as formed
use Rattle.lp_cert.proofs.arithmetic.valued.Goals as goal

pub returns-clause-valued : goal.returns-clause-valued
returns-clause-valued c = λ e b g.
    let end = c.value_of.new.texts.bytes.items in
    let v = value_in end c.in-Some.value in
    let l = c.is_inside.ensures.inside c.if-not-is_inside.false in
    let m = c.is_inside-2.ensures.inside c.if-not-is_inside-2.false in
    let on = c.in_ok-left.ensures.kept in
    let off = c.in_ok-right.ensures.kept in (
      v,
      value_later c.form_of.new.bank c.form_of-2.new.bank c.form_of-2.new.bank b c.args.expression c.in-Is-right.other v off (extends_same c.form_of-2.new.bank) g (inside_on c.args.bank.now c.form_of.new.bank c.args.expression on m)
          (subst (IsFormed (tree c.form_of.new.bank c.args.expression.0) c.form_of-2.new.bank) c.in-Is-right.is c.in_ok-right.ensures.formed) (some_is _ c.in_ok-found.found c.in-Some.value c.in-Some.is c.in_ok-found.ensures.some end (begins_itself end)),
      term_later c.args.bank.now c.form_of.new.bank c.form_of-2.new.bank b c.args.term c.in-Is.one v on off g l
          (subst (IsFormed (tree c.args.bank.now c.args.term.0) c.form_of.new.bank) c.in-Is.is c.in_ok-left.ensures.formed) (c.in_ok-holds.ensures.same (c.turn_where.ensures.on e) end (begins_itself end)),
    )

pub returns-then-not-is_inside-clause-decides : goal.returns-then-not-is_inside-clause-decides
returns-then-not-is_inside-clause-decides c = λ r s k. let l = r.0 in omega (arith, l, c.is_inside.ensures.outside c.if-not-is_inside.true)

pub returns-then-not-is_inside-2-clause-decides : goal.returns-then-not-is_inside-2-clause-decides
returns-then-not-is_inside-2-clause-decides c = λ r s k. let l = s.0 in omega (arith, l, c.is_inside-2.ensures.outside c.if-not-is_inside-2.true)

pub returns-in_default-clause-decides : goal.returns-in_default-clause-decides
returns-in_default-clause-decides c = λ r s.
    let on = c.in_ok-left.ensures.kept in
    without_decides _ (tree c.args.bank.now c.args.term.0) (tree c.args.bank.now c.args.expression.0) c.form_of.new.bank c.form_of-2.new.bank
    c.in_ok-left.left c.in_ok-right.right c.turn_without.result c.in_ok-left.ensures.formed
    (subst (λ x. IsFormed x c.form_of-2.new.bank c.in_ok-right.right) (on.same_terms c.args.expression.0 s.0) c.in_ok-right.ensures.formed)
    (λ e. c.in_ok-left.ensures.open e r.0 (ready_loose _ _ c.args.term (extends_same _) r))
    (λ e. c.in_ok-right.ensures.open e (ready_later _ _ c.args.expression on s).0 (ready_loose _ _ c.args.expression on s))
    (λ x y e f. c.in_default.not-Is x e) c.turn_without.ensures.on c.turn_without.ensures.no c.turn_without.ensures.deep

pub returns-in_default-right-clause-decides : goal.returns-in_default-right-clause-decides
returns-in_default-right-clause-decides c = λ r s.
    let on = c.in_ok-left.ensures.kept in
    without_decides _ (tree c.args.bank.now c.args.term.0) (tree c.args.bank.now c.args.expression.0) c.form_of.new.bank c.form_of-2.new.bank
    (formed.Is c.in-Is.one) c.in_ok-right.right c.turn_without-in_default-right.result
    (subst (IsFormed (tree c.args.bank.now c.args.term.0) c.form_of.new.bank) c.in-Is.is c.in_ok-left.ensures.formed)
    (subst (λ x. IsFormed x c.form_of-2.new.bank c.in_ok-right.right) (on.same_terms c.args.expression.0 s.0) c.in_ok-right.ensures.formed)
    (λ e. absurd (cc)) (λ e. c.in_ok-right.ensures.open e (ready_later _ _ c.args.expression on s).0 (ready_loose _ _ c.args.expression on s))
    (λ x y e f. c.in_default-right.not-Is y f) c.turn_without-in_default-right.ensures.on c.turn_without-in_default-right.ensures.no
    c.turn_without-in_default-right.ensures.deep

pub returns-in_default-found-clause-decides : goal.returns-in_default-found-clause-decides
returns-in_default-found-clause-decides c = λ r s k.
    let on = c.in_ok-left.ensures.kept in
    let form = subst (IsFormed (tree c.form_of.new.bank c.args.expression.0) c.form_of-2.new.bank) c.in-Is-right.is c.in_ok-right.ensures.formed in
    none_is _ k.0 (c.in_ok-found.ensures.none c.in_default-found.is) (value_is (tree c.form_of.new.bank c.args.expression.0) _ k.0 form.1 (subst (λ x. HasValue x k.0) (sym (on.same_terms c.args.expression.0 s.0)) k.1))

pub returns-clause-decides : goal.returns-clause-decides
returns-clause-decides c = λ r s.
    let end = c.value_of.new.texts.bytes.items in
    let v = value_in end c.in-Some.value in
    let on = c.in_ok-left.ensures.kept in
    let off = c.in_ok-right.ensures.kept in
    let one = subst (IsFormed (tree c.args.bank.now c.args.term.0) c.form_of.new.bank) c.in-Is.is c.in_ok-left.ensures.formed in
    let other = subst (IsFormed (tree c.form_of.new.bank c.args.expression.0) c.form_of-2.new.bank) c.in-Is-right.is c.in_ok-right.ensures.formed in
    let found = some_is _ c.in_ok-found.found c.in-Some.value c.in-Some.is c.in_ok-found.ensures.some end (begins_itself end) in
    where_turned (Decides (IsValued (tree c.args.bank.now c.args.expression.0) (tree c.args.bank.now c.args.term.0))
    (tree c.args.bank.now c.args.term.0) (tree c.args.bank.now c.args.expression.0)) c.turn_where.result c.in_ok-holds.holds
    c.turn_where.ensures.on c.turn_where.ensures.no c.turn_where.ensures.deep
    (λ e. valued_before c.args.bank.now c.form_of-2.new.bank c.args.expression c.args.term (extends-trans _ _ _ on off) s.0 r.0 (
      v,
      value_later c.form_of.new.bank c.form_of-2.new.bank c.form_of-2.new.bank c.form_of-2.new.bank c.args.expression c.in-Is-right.other v off (extends_same c.form_of-2.new.bank) (extends_same c.form_of-2.new.bank) (ready_later _ _ c.args.expression on s).0 other found,
      term_later c.args.bank.now c.form_of.new.bank c.form_of-2.new.bank c.form_of-2.new.bank c.args.term c.in-Is.one v on off (extends_same c.form_of-2.new.bank) r.0 one (c.in_ok-holds.ensures.same e end (begins_itself end)),
    ))
    (λ e k.
    let same = values_once (tree c.form_of.new.bank c.args.expression.0) _ v k.0 other.1 found (subst (λ x. HasValue x k.0) (sym (on.same_terms c.args.expression.0 s.0)) k.1) in
    c.in_ok-holds.ensures.differ e end (begins_itself end) (off.same_terms c.in-Is.one.0 one.0 ∙ form_is_value (tree c.args.bank.now c.args.term.0) _ k.0 one.1 k.2 ∙ ap term_of (sym same)))
