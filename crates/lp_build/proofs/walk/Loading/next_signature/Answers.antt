use Rattle.std.proofs.Common.{◌∷◌, [], arith, refl, subst, sym, true}
use Rattle.lp_lemmas.proofs.Results.{passed_up}
use Rattle.lp_build.specs.Ordered.{AreInOrderSoFar, IsTooLong, asked}
use Rattle.lp_build.specs.declared.fault.BuildFault.TheVariants as fault
use Rattle.lp_build.specs.declared.sources.Part.TheVariants as part
use Rattle.lp_build.specs.inner.Walking.{IsWalk, IsWordAt}
use Rattle.lp_build.proofs.Walking.{so_far, no_signature, no_signature_name, short_word, signatures_wait}
use Rattle.lp_build.proofs.walk.Loading.next_signature.Goals as goal

pub returns-in_err-name-clause-so_far : goal.returns-in_err-name-clause-so_far
returns-in_err-name-clause-so_far g c = λ all root needs owed w.
    let e = c.in_err-name.field-0.0 in
    passed_up c.from_residual.result e (AreInOrderSoFar all root c.args.self.now.sources) c.from_residual.ensures.1
    (no_signature_name all root c.args.self.now c.args.file c.args.at needs e (λ f at. c.in_err-name.ensures.refused f at) owed w)

pub returns-in_default-clause-walked : goal.returns-in_default-clause-walked
returns-in_default-clause-walked g c = λ all root needs owed w. no_signature all root c.args.self.now c.args.file c.args.at needs
    (λ f at. subst (IsWordAt f.text.bytes.items f.text.references.accum_sig.items c.args.at) c.in_default.is (c.in_ok-name.ensures.found f at)) owed w

pub returns-in_err-push-clause-so_far : goal.returns-in_err-push-clause-so_far
returns-in_err-push-clause-so_far g c = λ all root needs owed w. passed_up c.from_residual-in_err-push.result fault.Memory (AreInOrderSoFar all root _) c.from_residual-in_err-push.ensures.1
    (so_far all root needs c.args.self.now w)

pub returns-clause-walked : goal.returns-clause-walked
returns-clause-walked g c = λ all root needs owed w.
    let short = short_word owed.0.text.bytes.items owed.0.text.references.accum_sig.items c.args.at c.in-Some.name _ c.in-Some.is (c.in_ok-name.ensures.found owed.0 owed.1) in
    c.want.ensures.walked all root true (subst (λ n. IsTooLong (asked true part.Signature n) → ⊥) (sym c.as_str.ensures.value) short)
    (subst (λ n. IsWalk all root (asked true part.Signature n ∷ []) (record c.args.self.now { work = c.push.new.self })) (sym c.as_str.ensures.value)
    (signatures_wait all root c.args.self.now (record c.args.self.now { work = c.push.new.self }) c.args.file c.args.at _ c.in-Some.name needs refl refl refl c.in_ok-push.ensures.items
    (λ f lt. let words = f.text.references.accum_sig in omega (arith, lt, words.ok, words.small, c.saturating_add.ensures))
    (λ f at. subst (IsWordAt f.text.bytes.items f.text.references.accum_sig.items c.args.at) c.in-Some.is (c.in_ok-name.ensures.found f at)) owed w))

pub returns-clause-so_far : goal.returns-clause-so_far
returns-clause-so_far g c = λ all root needs owed w.
    let short = short_word owed.0.text.bytes.items owed.0.text.references.accum_sig.items c.args.at c.in-Some.name _ c.in-Some.is (c.in_ok-name.ensures.found owed.0 owed.1) in
    c.want.ensures.so_far all root true (subst (λ n. IsTooLong (asked true part.Signature n) → ⊥) (sym c.as_str.ensures.value) short)
    (subst (λ n. IsWalk all root (asked true part.Signature n ∷ []) (record c.args.self.now { work = c.push.new.self })) (sym c.as_str.ensures.value)
    (signatures_wait all root c.args.self.now (record c.args.self.now { work = c.push.new.self }) c.args.file c.args.at _ c.in-Some.name needs refl refl refl c.in_ok-push.ensures.items
    (λ f lt. let words = f.text.references.accum_sig in omega (arith, lt, words.ok, words.small, c.saturating_add.ensures))
    (λ f at. subst (IsWordAt f.text.bytes.items f.text.references.accum_sig.items c.args.at) c.in-Some.is (c.in_ok-name.ensures.found f at)) owed w))
