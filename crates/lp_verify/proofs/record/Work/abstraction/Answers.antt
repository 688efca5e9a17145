use Rattle.std.proofs.Common.{◌∙◌, refl, sym, subst}
use Rattle.std.specs.Prelude.{not, Some}
use Rattle.lp_code.specs.Symbolic.{type_in, term_in, innermost, agree_at, abstraction_of}
use Rattle.lp_verify.specs.declared.built.Built.{Built}
use Rattle.lp_verify.specs.declared.built.Head.TheVariants as head
use Rattle.lp_verify.specs.inner.FirstNumbers.{IsType}
use Rattle.lp_verify.specs.inner.Stack.{Agree}
use Rattle.lp_verify.specs.inner.Indices.{store}
use Rattle.lp_verify.proofs.LooseSeen.{innermost_stands}
use Rattle.lp_verify.proofs.TermsMade.{type_known, term_known, ill_makes, built_makes, abstraction_same}
use Rattle.lp_verify.proofs.record.Work.abstraction.Goals as goal

pub returns-then-other-clause-made : goal.returns-then-other-clause-made
returns-then-other-clause-made c = λ h s k.
    let l = store c.args.types.now c.args.lists.now in
    let w = c.args.self.now in
    let b = term_known l w h s c.args.body c.term_in-body.result k c.term_in-body.ensures in
    let t = type_known l w h s c.args.of c.type_in-from.result k c.type_in-from.ensures in
    let o = subst (λ o. Agree (IsType l.types) o (innermost (term_in s.now c.args.body).loose)) (sym c.innermost.ensures) (innermost_stands l c.term_in-body.result.loose (term_in s.now c.args.body).loose b.0) in
    ill_makes l (not (agree_at (innermost (term_in s.now c.args.body).loose) (Some (type_in s.now c.args.of))))
    (abstraction_of (term_in s.now c.args.body) (type_in s.now c.args.of)) (sym
    (c.is_other-other.ensures l.types (innermost (term_in s.now c.args.body).loose) (type_in s.now c.args.of) o t) ∙ c.if-other.true)

pub returns-clause-made : goal.returns-clause-made
returns-clause-made c = λ h s k.
    let x = c.args.types.now in
    let y = c.arrow.new.self in
    let l = store x c.args.lists.now in
    let m = store y c.args.lists.now in
    let w = c.args.self.now in
    let B = term_in s.now c.args.body in
    let T = type_in s.now c.args.of in
    let v : Built = record { of = c.in_ok-of.of; loose = c.outer-loose.result; head = head.Other } in
    let b = term_known l w h s c.args.body c.term_in-body.result k c.term_in-body.ensures in
    let t = type_known l w h s c.args.of c.type_in-from.result k c.type_in-from.ensures in
    let o = subst (λ o. Agree (IsType l.types) o (innermost B.loose)) (sym c.innermost.ensures) (innermost_stands l c.term_in-body.result.loose B.loose b.0) in
    built_makes m (not (agree_at (innermost B.loose) (Some T))) (abstraction_of B T) v (sym (c.is_other-other.ensures x (innermost B.loose) T o t) ∙ c.if-other.false)
    (abstraction_same x y c.args.lists.now c.term_in-body.result v B T c.in_ok-of.ensures.grow.0 b (c.outer-loose.ensures x) (c.in_ok-of.ensures.made T B.type t b.1) refl)
