use Rattle.std.proofs.Common.{◌≡◌, ◌+◌, ◌∷◌, [], ap, sym, subst, ◌∙◌, true, arith}
use Rattle.std.specs.Prelude.{All, sum_by}
use Rattle.std.proofs.lemmas.List.Sums.{sum_by_push}
use Rattle.std.proofs.lemmas.List.Elements.{All-nil, All-cons, All-append}
use Rattle.lp_code.specs.Length.{length_of}
use Rattle.lp_gen.specs.inner.Fitting.{is_fitting}
use Rattle.lp_gen.proofs.emitter.Emitter.emit.Goals as goal

pub invariant_of-self-2-clause-fit : goal.invariant_of-self-2-clause-fit
invariant_of-self-2-clause-fit c =
    subst (All (λ i. is_fitting i ≡ true)) (sym c.in_ok-push.ensures.items)
    (All-append (λ i. is_fitting i ≡ true) c.args.self.now.code.items (c.args.instr ∷ []) c.args.self.now.fit
    (All-cons (λ i. is_fitting i ≡ true) c.args.instr [] c.in_ok-fits.ensures.fit (All-nil (λ i. is_fitting i ≡ true))))

pub invariant_of-self-2-clause-bytes : goal.invariant_of-self-2-clause-bytes
invariant_of-self-2-clause-bytes c =
    let s : sum_by length_of c.push.new.self.items ≡ sum_by length_of c.args.self.now.code.items + length_of c.args.instr = ap (sum_by length_of)
    c.in_ok-push.ensures.items ∙ sum_by_push length_of c.args.self.now.code.items c.args.instr in
    omega (arith, s, c.args.self.now.bytes, c.length.ensures, c.saturating_add-place.ensures, c.if-place-gt-MAX_CODE_BYTES.false)
