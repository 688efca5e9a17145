use Rattle.std.proofs.Common.{◌≡◌, ◌∙◌, length, true, false, ap, refl, sym, subst}
use Rattle.lp_code.specs.Symbolic.{term_in, terms_in, applied_type, application_of}
use Rattle.lp_code.specs.Rules.{built_types, applies}
use Rattle.std.specs.Prelude.{not, nat_eq}
use Rattle.lp_verify.specs.inner.Stack.{Agree}
use Rattle.lp_verify.specs.inner.FirstNumbers.{IsType, AreTypes}
use Rattle.lp_verify.specs.declared.built.Built.{Built}
use Rattle.lp_verify.specs.declared.built.Head.TheVariants as head
use Rattle.lp_verify.specs.inner.Indices.{store}
use Rattle.lp_verify.proofs.TermsMade.{term_known, terms_alike, built_same, ill_makes, ill_function, ill_indices, no_arguments, ofs, application_same}
use Rattle.lp_verify.proofs.record.Work.application.Goals as goal

pub returns-in_default-clause-made : goal.returns-in_default-clause-made
returns-in_default-clause-made c = λ h s k set.
    let l = store c.args.types.now c.args.lists.now in
    let w = c.args.self.now in
    let f = term_in s.now c.args.function in
    let bs = terms_in s.now c.args.arguments.now in
    let t = term_known l w h s c.args.function c.term_in-function.result k c.term_in-function.ensures in
    let a = terms_alike l w.terms s c.args.arguments.now c.as_slice.result.now k.terms (c.as_slice.ensures.value ∙ c.in_ok-arguments.ensures) set in
    ill_makes l (not (applies f bs)) (application_of f bs) (ill_function l.types c.applied_type.result f bs c.in_default.is (c.applied_type.ensures f.type (built_types bs) t.1 (built_same l c.as_slice.result.now bs a)))

pub returns-in_default-2-clause-made : goal.returns-in_default-2-clause-made
returns-in_default-2-clause-made c = λ h s k set.
    let l = store c.args.types.now c.args.lists.now in
    let m = store c.args.types.now c.all_joined.new.lists in
    let w = c.args.self.now in
    let f = term_in s.now c.args.function in
    let bs = terms_in s.now c.args.arguments.now in
    let t = term_known l w h s c.args.function c.term_in-function.result k c.term_in-function.ensures in
    let ts = c.as_slice-2.result.now in
    let a = terms_alike l w.terms s c.args.arguments.now ts k.terms (c.as_slice-2.ensures.value ∙ c.in_ok-arguments.ensures) set in
    ill_makes m (not (applies f bs)) (application_of f bs) (ill_indices m c.in_ok-loose.field-0 f bs c.in_default-2.is (c.in_ok-loose.ensures.joined c.args.types.now f.loose bs t.0 a))

pub returns-then-empty-clause-made : goal.returns-then-empty-clause-made
returns-then-empty-clause-made c = λ h s k set.
    let l = store c.args.types.now c.args.lists.now in
    let m = store c.args.types.now c.all_joined.new.lists in
    let w = c.args.self.now in
    let f = term_in s.now c.args.function in
    let bs = terms_in s.now c.args.arguments.now in
    let t = term_known l w h s c.args.function c.term_in-function.result k c.term_in-function.ensures in
    let ts = c.as_slice-2.result.now in
    let a = terms_alike l w.terms s c.args.arguments.now ts k.terms (c.as_slice-2.ensures.value ∙ c.in_ok-arguments.ensures) set in
    let none : nat_eq (length ts) 0 ≡ true = ap (λ l. nat_eq (length l) 0) c.as_slice-2.ensures.value ∙ ap (λ n. nat_eq n 0) (sym c.in_ok-arguments.arguments.ok.0) ∙ sym c.is_empty-empty.ensures ∙ c.if-empty.true in
    ill_makes m (not (applies f bs)) (application_of f bs) (no_arguments l ts f bs a none)

pub returns-clause-made : goal.returns-clause-made
returns-clause-made c = λ h s k set.
    let l = store c.args.types.now c.args.lists.now in
    let m = store c.args.types.now c.all_joined.new.lists in
    let w = c.args.self.now in
    let f = term_in s.now c.args.function in
    let bs = terms_in s.now c.args.arguments.now in
    let t = term_known l w h s c.args.function c.term_in-function.result k c.term_in-function.ensures in
    let ts = c.as_slice-2.result.now in
    let a = terms_alike l w.terms s c.args.arguments.now ts k.terms (c.as_slice-2.ensures.value ∙ c.in_ok-arguments.ensures) set in
    let some : nat_eq (length ts) 0 ≡ false = ap (λ l. nat_eq (length l) 0) c.as_slice-2.ensures.value ∙ ap (λ n. nat_eq n 0) (sym c.in_ok-arguments.arguments.ok.0) ∙ sym c.is_empty-empty.ensures ∙ c.if-empty.false in
    let v : Built = record { of = c.in-Some.of; loose = c.in-Some-2.loose; head = head.Other } in
    let o = subst (λ l. Agree (IsType m.types) c.applied_type.result (applied_type f.type (built_types bs))) c.as_slice-2.ensures.value
    (c.applied_type.ensures f.type (built_types bs) t.1 (subst (λ l. AreTypes m.types (ofs l) (built_types bs))
    (c.as_slice-2.ensures.value ∙ sym c.as_slice.ensures.value) (built_same l ts bs a))) in
    application_same l m ts f bs c.applied_type.result c.in_ok-loose.field-0 v a some c.in-Some.is c.in-Some-2.is o (c.in_ok-loose.ensures.joined c.args.types.now f.loose bs t.0 a) refl
