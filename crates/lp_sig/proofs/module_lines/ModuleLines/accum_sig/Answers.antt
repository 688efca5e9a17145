use Rattle.std.proofs.Common.{◌≡◌, map, get_or, take_all, subst}
use Rattle.std.specs.Prelude.{◌⊎◌, All}
use Rattle.std.proofs.lemmas.List.Elements.{All-nil, All-more}
use Rattle.lp_lemmas.proofs.Results.{passed_up}
use Rattle.lp_sig.specs.Pieces.{spelled}
use Rattle.lp_sig.specs.Sights.{IsAlike, signature_words}
use Rattle.lp_sig.specs.ModuleFaults.{IsWordTaken, IsWordRefused, AreSignaturesRefused, AreSignaturesTaken}
use Rattle.lp_sig.specs.declared.fault.SigFault.TheVariants as fault
use Rattle.lp_sig.specs.declared.module_fault.ModuleSigFault.TheVariants as wrong
use Rattle.lp_sig.proofs.Refusing.{first_or}
use Rattle.lp_sig.proofs.Sights.{alike_more}
use Rattle.lp_sig.proofs.Told.{told_taken, told_refused}
use Rattle.lp_sig.proofs.module_lines.ModuleLines.accum_sig.Goals as goal

pub loop-word-init : goal.loop-word-init
loop-word-init c = record {
  alike = λ signatures h. All-nil (IsAlike c.args.self.now.sights.now 0 signatures);
  taken = λ used ds given. All-nil (IsWordTaken c.args.self.now.own.now used c.args.self.now.source.now 0 (signature_words c.args.self.now.source.now ds));
}

pub loop-word-preserved : goal.loop-word-preserved
loop-word-preserved c = record {
  alike = λ signatures h.
      alike_more (IsAlike c.args.self.now.sights.now 0 signatures) (λ s. spelled c.args.self.now.source.now s) c.args.words.now c.loop-word.word-index _
      c.spelled_at.result.now c.loop-word-test.true c.spelled_at.ensures
      (c.loop-word.invariant.alike signatures h) (c.sight_of_accum_sig-sight.ensures.alike signatures h c.in_ok-check_word.ensures.alike);
  taken = λ used ds given.
      let text = c.args.self.now.source.now in
      All-more (IsWordTaken c.args.self.now.own.now used text 0 (signature_words text ds)) c.args.words.now c.loop-word.word-index _ c.loop-word-test.true (c.loop-word.invariant.taken used ds given)
      (told_taken c.args.self.now.own.now used text 0 (signature_words text ds) c.args.self.now.sights.now c.spelled_at.result.now (get_or c.args.words.now c.loop-word.word-index _) c.sight_of_accum_sig-sight.result given.told c.spelled_at.ensures (c.sight_of_accum_sig-sight.ensures.place (signature_words text ds) given.signatures) c.in_ok-check_word.ensures.alike);
}

pub returns-clause-alike : goal.returns-clause-alike
returns-clause-alike c = λ signatures h. subst (λ ws. All (IsAlike c.args.self.now.sights.now 0 signatures) (map (λ s. spelled c.args.self.now.source.now s) ws))
    (take_all c.loop-word.word-index c.args.words.now c.loop-word-test.false) (c.loop-word.invariant.alike signatures h)

pub returns-clause-taken : goal.returns-clause-taken
returns-clause-taken c = λ used ds given. subst (AreSignaturesTaken c.args.self.now.own.now used c.args.self.now.source.now ds)
    (take_all c.loop-word.word-index c.args.words.now c.loop-word-test.false) (c.loop-word.invariant.taken used ds given)

pub returns-in_err-check_word-clause-refused : goal.returns-in_err-check_word-clause-refused
returns-in_err-check_word-clause-refused c = λ used ds given.
    let text = c.args.self.now.source.now in
    passed_up c.from_residual.result c.in_err-check_word.field-0.0 (λ e. (e ≡ wrong.Sig fault.Memory) ⊎ AreSignaturesRefused c.args.self.now.own.now used text ds c.args.words.now e) c.from_residual.ensures.1
    (first_or (IsWordRefused c.args.self.now.own.now used text 0 (signature_words text ds)) (IsWordTaken c.args.self.now.own.now used text 0 (signature_words text ds)) c.args.words.now c.loop-word.word-index _ c.in_err-check_word.field-0.0 (wrong.Sig fault.Memory)
    c.loop-word-test.true (c.loop-word.invariant.taken used ds given)
    (told_refused c.args.self.now.own.now used text 0 (signature_words text ds) c.args.self.now.sights.now c.spelled_at.result.now _ c.sight_of_accum_sig-sight.result given.told c.spelled_at.ensures (c.sight_of_accum_sig-sight.ensures.place (signature_words text ds) given.signatures) c.in_err-check_word.field-0.0 (wrong.Sig fault.Memory) c.in_err-check_word.ensures.refused))
