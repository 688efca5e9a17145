use Rattle.lp_sig.proofs.Reading.{reads_same, reads_so, typed_append}
use Rattle.lp_sig.specs.inner.Reading.{ReadsOn}
use Rattle.lp_sig.specs.AsWritten.{typed_in}
use Rattle.std.proofs.Common.{◌≡◌, [], ◌∷◌, ◌++◌, ◌∙◌, length, map, refl, sym, subst, take, take_all, append-nil, arith}
use Rattle.lp_sig.specs.Abbreviations.{KnowsUses}
use Rattle.std.proofs.lemmas.List.Elements.{All-nil, All-append}
use Rattle.lp_sig.specs.Modules.{declarations, constant_names_in, first_names}
use Rattle.lp_sig.specs.Sights.{IsAlike, AreWordsAlike}
use Rattle.lp_sig.specs.Worded.{HasWords}
use Rattle.lp_sig.proofs.KnownConstants.{making_same, making_then}
use Rattle.lp_sig.proofs.Sayings.{lines_more, lines_at, constants_append}
use Rattle.lp_sig.proofs.Sights.{both_alike}
use Rattle.std.specs.Prelude.{◌⊎◌, All}
use Rattle.lp_lemmas.proofs.Results.{passed_up}
use Rattle.lp_sig.specs.Knowing.{Knows}
use Rattle.lp_sig.specs.ModuleFaults.{IsLineTaken, IsFaultAmong}
use Rattle.lp_sig.specs.declared.fault.SigFault.TheVariants as fault
use Rattle.lp_sig.specs.declared.module_fault.ModuleSigFault.TheVariants as wrong
use Rattle.lp_sig.specs.inner.Taking.{IsTaking, TakesOn, IsCausedFrom}
use Rattle.lp_sig.proofs.Taking.{takes_same, takes_so, caused_among}
use Rattle.lp_sig.proofs.module_text.declare_all.Goals as goal

pub loop-at-init : goal.loop-at-init
loop-at-init c = record {
  words = λ words h. subst (HasWords c.args.making.now.constants) (sym (append-nil words)) h;
  grown = making_same
      c.args.making.now;
  alike = λ signatures modules h k. (
    All-nil (IsAlike c.args.lines.now.sights.now 0 signatures),
    All-nil
        (IsAlike c.args.lines.now.sights.now (length (first_names [] signatures)) modules),
  );
  taken = λ used z ds given k u hk hc. All-nil (IsLineTaken c.args.lines.now.own.now used c.args.lines.now.source.now z ds);
  names = refl;
  operators = refl;
  uses = refl;
  kept = refl;
  reads = reads_same c.args.making.now;
  takes = takes_same c.args.making.now;
}

pub loop-at-preserved : goal.loop-at-preserved
loop-at-preserved c =
    let text = c.args.lines.now.source.now in
    let lines = c.args.text.now.lines.items in
    record {
      words = λ words h.
          subst (HasWords c.declare_sentence.new.making.constants) (lines_more (constant_names_in text) (constants_append text) lines c.loop-at.at
          c.index.result.now words (omega (arith, c.loop-at-test.true, c.len-at-end.ensures, c.args.text.now.lines.ok)) c.index.ensures)
          (c.in_ok-declare_sentence.ensures.words (words ++ constant_names_in text (declarations (take c.loop-at.at lines))) (c.loop-at.invariant.words words h));
      grown = making_then c.args.making.now c.loop-at.making c.declare_sentence.new.making c.loop-at.invariant.grown c.in_ok-declare_sentence.ensures.grown;
      alike = λ signatures modules h k.
          subst (AreWordsAlike c.args.lines.now.sights.now text signatures modules)
          (lines_at lines c.loop-at.at c.index.result.now (omega (arith, c.loop-at-test.true, c.len-at-end.ensures, c.args.text.now.lines.ok))
          c.index.ensures)
          (both_alike c.args.lines.now.sights.now text signatures modules (declarations (take c.loop-at.at lines))
          (declarations (c.index.result.now ∷ [])) (c.loop-at.invariant.alike signatures modules h k)
          (c.in_ok-declare_sentence.ensures.alike signatures modules h k));
      taken = λ used z ds given k u hk hc.
          subst (All (IsLineTaken c.args.lines.now.own.now used c.args.lines.now.source.now z ds))
          (lines_at lines c.loop-at.at c.index.result.now (omega (arith, c.loop-at-test.true, c.len-at-end.ensures, c.args.text.now.lines.ok))
          c.index.ensures)
          (All-append (IsLineTaken c.args.lines.now.own.now used c.args.lines.now.source.now z ds) (declarations (take c.loop-at.at lines))
          (declarations (c.index.result.now ∷ [])) (c.loop-at.invariant.taken used z ds given k u hk hc)
          (c.in_ok-declare_sentence.ensures.taken used z ds given (subst (λ n. Knows n z.said) (sym c.loop-at.invariant.names) k) (subst (λ v. KnowsUses (map (λ out. out.items) v.ways.items) z) (sym c.loop-at.invariant.uses) u) hk hc));
      names = c.declare_sentence.ensures.names ∙ c.loop-at.invariant.names;
      operators = c.declare_sentence.ensures.operators ∙ c.loop-at.invariant.operators;
      uses = c.declare_sentence.ensures.uses ∙ c.loop-at.invariant.uses;
      kept = c.declare_sentence.ensures.kept ∙ c.loop-at.invariant.kept;
      reads =
          let before = declarations (take c.loop-at.at lines) in
          let this = declarations (c.index.result.now ∷ []) in
          let new = c.declare_sentence.new.making in
          subst (λ ds. ReadsOn c.args.making.now new (typed_in text ds) (constant_names_in text ds))
          (lines_at lines c.loop-at.at c.index.result.now (omega (arith, c.loop-at-test.true, c.len-at-end.ensures, c.args.text.now.lines.ok)) c.index.ensures)
          (subst (λ r. ReadsOn c.args.making.now new r (constant_names_in text (before ++ this))) (sym (typed_append text before this))
          (subst (ReadsOn c.args.making.now new (typed_in text before ++ typed_in text this)) (sym (constants_append text before this))
          (reads_so c.args.making.now c.loop-at.making new (typed_in text before) (typed_in text this) (constant_names_in text before) (constant_names_in text this)
          c.loop-at.invariant.names c.in_ok-declare_sentence.ensures.grown.bank c.in_ok-declare_sentence.ensures.grown.constants c.loop-at.invariant.reads c.in_ok-declare_sentence.ensures.reads)));
      takes =
          let before = declarations (take c.loop-at.at lines) in
          let this = declarations (c.index.result.now ∷ []) in
          let new = c.declare_sentence.new.making in
          subst (λ ds. TakesOn c.args.making.now new (typed_in text ds) (constant_names_in text ds))
          (lines_at lines c.loop-at.at c.index.result.now (omega (arith, c.loop-at-test.true, c.len-at-end.ensures, c.args.text.now.lines.ok)) c.index.ensures)
          (subst (λ r. TakesOn c.args.making.now new r (constant_names_in text (before ++ this))) (sym (typed_append text before this))
          (subst (TakesOn c.args.making.now new (typed_in text before ++ typed_in text this)) (sym (constants_append text before this))
          (takes_so c.args.making.now c.loop-at.making new (typed_in text before) (typed_in text this) (constant_names_in text before) (constant_names_in text this)
          c.loop-at.invariant.names c.loop-at.invariant.takes c.in_ok-declare_sentence.ensures.takes)));
    }

pub returns-clause-words : goal.returns-clause-words
returns-clause-words c = λ words h.
    subst (λ ls. HasWords c.loop-at.making.constants (words ++ constant_names_in c.args.lines.now.source.now (declarations ls)))
    (take_all c.loop-at.at c.args.text.now.lines.items (omega (arith, c.loop-at-test.false, c.len-at-end.ensures, c.args.text.now.lines.ok)))
    (c.loop-at.invariant.words words h)

pub returns-clause-grown : goal.returns-clause-grown
returns-clause-grown c = c.loop-at.invariant.grown

pub returns-clause-alike : goal.returns-clause-alike
returns-clause-alike c = λ signatures modules h k.
    subst (λ ls. AreWordsAlike c.args.lines.now.sights.now c.args.lines.now.source.now signatures modules (declarations ls))
    (take_all c.loop-at.at c.args.text.now.lines.items (omega (arith, c.loop-at-test.false, c.len-at-end.ensures, c.args.text.now.lines.ok)))
    (c.loop-at.invariant.alike signatures modules h k)

pub returns-in_err-declare_sentence-clause-refused : goal.returns-in_err-declare_sentence-clause-refused
returns-in_err-declare_sentence-clause-refused c = λ used z words given k u hk hc h.
    let own = c.args.lines.now.own.now in
    let text = c.args.lines.now.source.now in
    let lines = c.args.text.now.lines.items in
    let before = declarations (take c.loop-at.at lines) in
    let known = subst (λ n. Knows n z.said) (sym c.loop-at.invariant.names) k in
    let e = c.in_err-declare_sentence.field-0.0 in
    passed_up c.from_residual.result e (λ e. (e ≡ wrong.Sig fault.Memory) ⊎ ((f : IsFaultAmong own used text z (declarations lines) e) × IsCausedFrom c.args.making.now own text z.said words (take f.k (declarations lines)) f.line e)) c.from_residual.ensures.1
    (caused_among own used text z lines c.loop-at.at c.index.result.now e (wrong.Sig fault.Memory) (IsCausedFrom c.args.making.now own text z.said words)
    (omega (arith, c.loop-at-test.true, c.len-at-end.ensures, c.args.text.now.lines.ok)) c.index.ensures (c.loop-at.invariant.taken used z (declarations lines) given k u hk hc)
    (λ d is. record {
      full = c.in_err-declare_sentence.ensures.full z.said (words ++ constant_names_in text before) known (c.loop-at.invariant.words words h) d is;
      other = λ defs given rows r. c.in_err-declare_sentence.ensures.other z.said defs given (rows ++ typed_in text before) (words ++ constant_names_in text before)
          (subst (λ n. IsTaking n c.loop-at.making.bodies c.loop-at.making.constants z.said defs given (rows ++ typed_in text before) (words ++ constant_names_in text before)) (sym c.loop-at.invariant.names) (c.loop-at.invariant.takes z.said defs given rows words r)) d is;
    })
    (c.in_err-declare_sentence.ensures.refused used z (declarations lines) given known (subst (λ v. KnowsUses (map (λ out. out.items) v.ways.items) z) (sym c.loop-at.invariant.uses) u) hk hc))

pub returns-clause-kept : goal.returns-clause-kept
returns-clause-kept c = c.loop-at.invariant.kept

pub returns-in_err-declare_sentence-clause-kept : goal.returns-in_err-declare_sentence-clause-kept
returns-in_err-declare_sentence-clause-kept c = c.declare_sentence.ensures.kept ∙ c.loop-at.invariant.kept

pub returns-clause-reads : goal.returns-clause-reads
returns-clause-reads c =
    subst (λ ls. ReadsOn c.args.making.now c.loop-at.making (typed_in c.args.lines.now.source.now (declarations ls)) (constant_names_in c.args.lines.now.source.now (declarations ls)))
    (take_all c.loop-at.at c.args.text.now.lines.items (omega (arith, c.loop-at-test.false, c.len-at-end.ensures, c.args.text.now.lines.ok)))
    c.loop-at.invariant.reads

pub returns-clause-takes : goal.returns-clause-takes
returns-clause-takes c =
    subst (λ ls. TakesOn c.args.making.now c.loop-at.making (typed_in c.args.lines.now.source.now (declarations ls)) (constant_names_in c.args.lines.now.source.now (declarations ls)))
    (take_all c.loop-at.at c.args.text.now.lines.items (omega (arith, c.loop-at-test.false, c.len-at-end.ensures, c.args.text.now.lines.ok)))
    c.loop-at.invariant.takes
