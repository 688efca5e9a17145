use Rattle.std.proofs.Common.{◌≡◌, ◌<◌, ◌≤◌, length, ltb-false, arith, subst, sym}
use Rattle.std.specs.Prelude.{None, Some, string_bytes}
use Rattle.lp_lemmas.proofs.Results.{passed_up}
use Rattle.lp_sig.specs.Pieces.{spelled}
use Rattle.lp_sig.specs.Refusals.{IsAt}
use Rattle.lp_build.specs.Loads.{IsOfWord}
use Rattle.lp_build.specs.declared.sources.File.{File}
use Rattle.lp_build.specs.inner.Walking.{IsNoName}
use Rattle.lp_build.proofs.Walking.{no_name_of, word_of}
use Rattle.lp_build.proofs.walk.Loading.named.Goals as goal

pub returns-in_default-clause-found : goal.returns-in_default-clause-found
returns-in_default-clause-found c = λ f at.
    let none = ltb-false c.args.file (length c.deref.result.now) (sym c.in_default.ensures.lookup.0) in
    let low = subst (λ l. c.args.file < length l) (sym c.deref.ensures.value) at.0 in
    absurd (omega (arith, none, low))

pub returns-in_default-get-clause-found : goal.returns-in_default-get-clause-found
returns-in_default-get-clause-found c = λ f at.
    let file = subst (λ l. IsAt l c.args.file c.in-Some.found.now) c.deref.ensures.value (c.in-Some.ensures.lookup.3.0, sym c.in-Some.ensures.lookup.1) in
    let none = ltb-false c.args.at (length c.deref-2.result.now) (sym c.in_default-get.ensures.lookup.0) in
    word_of (λ (x : File). x.text.references.accum_sig.items) c.args.self.now.sources.files.items c.args.file c.args.at c.in-Some.found.now f None file at (subst (λ l. length l ≤ c.args.at) c.deref-2.ensures.value none)

pub returns-clause-found : goal.returns-clause-found
returns-clause-found c = λ f at.
    let file = subst (λ l. IsAt l c.args.file c.in-Some.found.now) c.deref.ensures.value (c.in-Some.ensures.lookup.3.0, sym c.in-Some.ensures.lookup.1) in
    let word = subst (λ l. IsAt l c.args.at c.in-Some-get.word.now) c.deref-2.ensures.value (c.in-Some-get.ensures.lookup.3.0, sym c.in-Some-get.ensures.lookup.1) in
    let spells = subst (λ t. string_bytes c.in_ok-name_of.field-0 ≡ spelled t c.in-Some-get.word.now) c.deref-3.ensures.value c.in_ok-name_of.ensures.spelled in
    word_of (λ (x : File). x.text.references.accum_sig.items) c.args.self.now.sources.files.items c.args.file c.args.at c.in-Some.found.now f (Some c.in_ok-name_of.field-0) file at (c.in-Some-get.word.now, word, spells, c.in_ok-name_of.ensures.short)

pub returns-in_err-name_of-clause-refused : goal.returns-in_err-name_of-clause-refused
returns-in_err-name_of-clause-refused c = λ f at.
    let file = subst (λ l. IsAt l c.args.file c.in-Some.found.now) c.deref.ensures.value (c.in-Some.ensures.lookup.3.0, sym c.in-Some.ensures.lookup.1) in
    let word = subst (λ l. IsAt l c.args.at c.in-Some-get.word.now) c.deref-2.ensures.value (c.in-Some-get.ensures.lookup.3.0, sym c.in-Some-get.ensures.lookup.1) in
    passed_up c.from_residual.result c.in_err-name_of.field-0.0 (IsNoName f.text.bytes.items f.text.references.accum_sig.items c.args.at) c.from_residual.ensures.1
    (no_name_of (λ (x : File). x.text.references.accum_sig.items) c.args.self.now.sources.files.items c.args.file c.args.at c.in-Some.found.now f c.in_err-name_of.field-0.0 file at
    (c.in-Some-get.word.now, word, subst (λ l. IsOfWord l c.in-Some-get.word.now c.in_err-name_of.field-0.0) c.deref-3.ensures.value c.in_err-name_of.ensures.refused))
