use Rattle.std.proofs.Common.{◌≡◌, ◌∙◌, arith, subst, sym, w64, to_z, of_z, ap, true}
use Rattle.std.proofs.lemmas.Int.{to_z-of_z}
use Rattle.lp_term.specs.Nodes.{tree}
use Rattle.lp_term.proofs.Trees.{extends_same, extends-trans}
use Rattle.lp_model.specs.Values.{Number, ordered, HasValue, value}
use Rattle.lp_cert.specs.Same.{IsFormed}
use Rattle.lp_cert.proofs.Deriving.{some_is}
use Rattle.lp_cert.proofs.Computing.{value_later, inside_on}
use Rattle.lp_cert.proofs.Deciding.{form_is_value, value_is, valued_before, values_once, without_decides, numbers_once, ordered_before}
use Rattle.lp_cert.proofs.Matching.{ready_loose}
use Rattle.lp_cert.proofs.Ready.{ready_later}
use Rattle.lp_cert.proofs.Turning.{where_turned}
use Rattle.lp_cert.specs.inner.Turned.{Decides}
use Rattle.lp_cert.specs.Shape.{AreOrdered}
use Rattle.lp_cert.specs.declared.form.Formed.TheVariants as formed
use Rattle.lp_cert.proofs.arithmetic.in_order.Goals as goal

pub returns-clause-ordered : goal.returns-clause-ordered
returns-clause-ordered c = λ e b g.
    let same : to_z w64 (of_z w64 c.in-Some.less) ≡ c.in-Some.less = grind (arith, to_z-of_z) in
    let alike : to_z w64 (of_z w64 c.in-Some-later.more) ≡ c.in-Some-later.more = grind (arith, to_z-of_z) in
    let l = c.is_inside.ensures.inside c.if-not-is_inside.false in
    let m = c.is_inside-2.ensures.inside c.if-not-is_inside-2.false in
    let on = c.in_ok-first.ensures.kept in
    let off = c.in_ok-second.ensures.kept in (
      c.in-Some.less,
      c.in-Some-later.more,
      value_later c.args.bank.now c.form_of.new.bank c.form_of-2.new.bank b c.args.left c.in-Is.one (Number c.in-Some.less) on off g l
          (subst (IsFormed (tree c.args.bank.now c.args.left.0) c.form_of.new.bank) c.in-Is.is c.in_ok-first.ensures.formed) (some_is _ c.in_ok-earlier.earlier c.in-Some.less c.in-Some.is c.in_ok-earlier.ensures.some),
      value_later c.form_of.new.bank c.form_of-2.new.bank c.form_of-2.new.bank b c.args.right c.in-Is-second.other (Number c.in-Some-later.more) off (extends_same c.form_of-2.new.bank) g (inside_on c.args.bank.now c.form_of.new.bank c.args.right on m)
          (subst (IsFormed (tree c.form_of.new.bank c.args.right.0) c.form_of-2.new.bank) c.in-Is-second.is c.in_ok-second.ensures.formed) (some_is _ c.in_ok-later.later c.in-Some-later.more c.in-Some-later.is c.in_ok-later.ensures.some),
      (λ j. ordered c.args.order (sym same j) (sym alike j)) ∙ sym c.are_ordered-holds.ensures ∙ c.turn_where.ensures.on e,
    )

pub returns-clause-kept : goal.returns-clause-kept
returns-clause-kept c = extends-trans _ _ _ c.in_ok-first.ensures.kept c.in_ok-second.ensures.kept

pub returns-then-not-is_inside-clause-decides : goal.returns-then-not-is_inside-clause-decides
returns-then-not-is_inside-clause-decides c = λ r s k. let l = r.0 in omega (arith, l, c.is_inside.ensures.outside c.if-not-is_inside.true)

pub returns-then-not-is_inside-2-clause-decides : goal.returns-then-not-is_inside-2-clause-decides
returns-then-not-is_inside-2-clause-decides c = λ r s k. let l = s.0 in omega (arith, l, c.is_inside-2.ensures.outside c.if-not-is_inside-2.true)

pub returns-in_default-clause-decides : goal.returns-in_default-clause-decides
returns-in_default-clause-decides c = λ r s.
    let on = c.in_ok-first.ensures.kept in
    without_decides _ (tree c.args.bank.now c.args.left.0) (tree c.args.bank.now c.args.right.0) c.form_of.new.bank c.form_of-2.new.bank
    c.in_ok-first.first c.in_ok-second.second c.turn_without.result c.in_ok-first.ensures.formed
    (subst (λ x. IsFormed x c.form_of-2.new.bank c.in_ok-second.second) (on.same_terms c.args.right.0 s.0) c.in_ok-second.ensures.formed)
    (λ e. c.in_ok-first.ensures.open e r.0 (ready_loose _ _ c.args.left (extends_same _) r))
    (λ e. c.in_ok-second.ensures.open e (ready_later _ _ c.args.right on s).0 (ready_loose _ _ c.args.right on s))
    (λ x y e f. c.in_default.not-Is x e) c.turn_without.ensures.on c.turn_without.ensures.no c.turn_without.ensures.deep

pub returns-in_default-second-clause-decides : goal.returns-in_default-second-clause-decides
returns-in_default-second-clause-decides c = λ r s.
    let on = c.in_ok-first.ensures.kept in
    without_decides _ (tree c.args.bank.now c.args.left.0) (tree c.args.bank.now c.args.right.0) c.form_of.new.bank c.form_of-2.new.bank
    (formed.Is c.in-Is.one) c.in_ok-second.second c.turn_without-in_default-second.result
    (subst (IsFormed (tree c.args.bank.now c.args.left.0) c.form_of.new.bank) c.in-Is.is c.in_ok-first.ensures.formed)
    (subst (λ x. IsFormed x c.form_of-2.new.bank c.in_ok-second.second) (on.same_terms c.args.right.0 s.0) c.in_ok-second.ensures.formed)
    (λ e. absurd (cc)) (λ e. c.in_ok-second.ensures.open e (ready_later _ _ c.args.right on s).0 (ready_loose _ _ c.args.right on s))
    (λ x y e f. c.in_default-second.not-Is y f) c.turn_without-in_default-second.ensures.on c.turn_without-in_default-second.ensures.no
    c.turn_without-in_default-second.ensures.deep

pub returns-in_default-earlier-clause-decides : goal.returns-in_default-earlier-clause-decides
returns-in_default-earlier-clause-decides c = λ r s k.
    let off = c.in_ok-second.ensures.kept in
    let one = subst (IsFormed (tree c.args.bank.now c.args.left.0) c.form_of.new.bank) c.in-Is.is c.in_ok-first.ensures.formed in
    c.in_ok-earlier.ensures.none c.in_default-earlier.is k.0 (ap value (off.same_terms c.in-Is.one.0 one.0) ∙ value_is (tree c.args.bank.now c.args.left.0) _ (Number k.0) one.1 k.2)

pub returns-in_default-later-clause-decides : goal.returns-in_default-later-clause-decides
returns-in_default-later-clause-decides c = λ r s k.
    let on = c.in_ok-first.ensures.kept in
    let other = subst (IsFormed (tree c.form_of.new.bank c.args.right.0) c.form_of-2.new.bank) c.in-Is-second.is c.in_ok-second.ensures.formed in
    c.in_ok-later.ensures.none c.in_default-later.is k.1 (value_is (tree c.form_of.new.bank c.args.right.0) _ (Number k.1) other.1 (subst (λ x. HasValue x (Number k.1)) (sym (on.same_terms c.args.right.0 s.0)) k.3))

pub returns-clause-decides : goal.returns-clause-decides
returns-clause-decides c = λ r s.
    let same : to_z w64 (of_z w64 c.in-Some.less) ≡ c.in-Some.less = grind (arith, to_z-of_z) in
    let alike : to_z w64 (of_z w64 c.in-Some-later.more) ≡ c.in-Some-later.more = grind (arith, to_z-of_z) in
    let on = c.in_ok-first.ensures.kept in
    let off = c.in_ok-second.ensures.kept in
    let one = subst (IsFormed (tree c.args.bank.now c.args.left.0) c.form_of.new.bank) c.in-Is.is c.in_ok-first.ensures.formed in
    let other = subst (IsFormed (tree c.form_of.new.bank c.args.right.0) c.form_of-2.new.bank) c.in-Is-second.is c.in_ok-second.ensures.formed in
    let less = some_is _ c.in_ok-earlier.earlier c.in-Some.less c.in-Some.is c.in_ok-earlier.ensures.some in
    let more = some_is _ c.in_ok-later.later c.in-Some-later.more c.in-Some-later.is c.in_ok-later.ensures.some in
    where_turned (Decides (AreOrdered c.args.order (tree c.args.bank.now c.args.left.0) (tree c.args.bank.now c.args.right.0))
    (tree c.args.bank.now c.args.left.0) (tree c.args.bank.now c.args.right.0)) c.turn_where.result c.are_ordered-holds.result
    c.turn_where.ensures.on c.turn_where.ensures.no c.turn_where.ensures.deep
    (λ e. ordered_before c.args.bank.now c.form_of-2.new.bank c.args.order c.args.left c.args.right (extends-trans _ _ _ on off) r.0 s.0 (
      c.in-Some.less,
      c.in-Some-later.more,
      value_later c.args.bank.now c.form_of.new.bank c.form_of-2.new.bank c.form_of-2.new.bank c.args.left c.in-Is.one (Number c.in-Some.less) on off (extends_same c.form_of-2.new.bank) r.0 one less,
      value_later c.form_of.new.bank c.form_of-2.new.bank c.form_of-2.new.bank c.form_of-2.new.bank c.args.right c.in-Is-second.other (Number c.in-Some-later.more) off (extends_same c.form_of-2.new.bank) (extends_same c.form_of-2.new.bank) (ready_later _ _ c.args.right on s).0 other more,
      (λ j. ordered c.args.order (sym same j) (sym alike j)) ∙ sym c.are_ordered-holds.ensures ∙ e,
    ))
    (λ e k.
    let x = numbers_once (tree c.args.bank.now c.args.left.0) _ c.in-Some.less k.0 one.1 (ap value (sym (off.same_terms c.in-Is.one.0 one.0)) ∙ less) k.2 in
    let y = numbers_once (tree c.form_of.new.bank c.args.right.0) _ c.in-Some-later.more k.1 other.1 more (subst (λ x. HasValue x (Number k.1)) (sym (on.same_terms c.args.right.0 s.0)) k.3) in
    absurd (let p = sym k.4 ∙ (λ j. ordered c.args.order (sym x j) (sym y j)) ∙ (λ j. ordered c.args.order (sym same j) (sym alike j)) ∙ sym c.are_ordered-holds.ensures ∙ e in cc))
