use Rattle.std.proofs.Common.{◌≡◌, sym, inr}
use Rattle.std.specs.Prelude.{◌≢◌, ◌⊎◌, string_bytes}
use Rattle.std.proofs.lemmas.Result.{IfErr-weaker, IfOk-weaker}
use Rattle.lp_sig.specs.Pieces.{spelled}
use Rattle.lp_sig.specs.Refusals.{HasOtherHeader, HasItsHeader}
use Rattle.lp_sig.specs.declared.fault.SigFault.TheVariants as fault
use Rattle.lp_sig.proofs.Blame.{other_header, its_header}
use Rattle.lp_sig.proofs.texts.enter.Goals as goal

pub returns-clause-refused : goal.returns-clause-refused
returns-clause-refused c =
    let source = c.index-sources-at.result in
    let text = c.index-texts-at.result in
    IfErr-weaker c.check_header.result (λ e. (e ≡ fault.Header text.header) × (spelled c.as_slice.result.now text.header ≢ string_bytes c.in-Some.name.now))
    (λ e. (e ≡ fault.Memory) ⊎ HasOtherHeader c.args.names.now c.args.sources.now c.args.texts.now c.args.at e)
    (λ e h. inr (other_header c.args.names.now c.args.sources.now c.args.texts.now c.args.at c.in-Some.name.now source text c.as_slice.result.now e c.as_slice.ensures.value
    (c.in-Some.ensures.lookup.3.0, sym c.in-Some.ensures.lookup.1) (c.requires.source, sym c.index-sources-at.is) (c.requires.text, sym c.index-texts-at.is) h))
    c.check_header.ensures.other

pub returns-clause-taken : goal.returns-clause-taken
returns-clause-taken c =
    let source = c.index-sources-at.result in
    let text = c.index-texts-at.result in
    IfOk-weaker c.check_header.result (λ done. spelled c.as_slice.result.now text.header ≡ string_bytes c.in-Some.name.now) (λ done. HasItsHeader c.args.names.now c.args.sources.now c.args.texts.now c.args.at)
    (λ done h. its_header c.args.names.now c.args.sources.now c.args.texts.now c.args.at c.in-Some.name.now source text c.as_slice.result.now c.as_slice.ensures.value
    (c.in-Some.ensures.lookup.3.0, sym c.in-Some.ensures.lookup.1) (c.requires.source, sym c.index-sources-at.is) (c.requires.text, sym c.index-texts-at.is) h)
    c.check_header.ensures.same
