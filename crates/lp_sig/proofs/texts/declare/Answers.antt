use Rattle.std.proofs.Common.{◌≡◌, ◌++◌, ◌∙◌, ap, subst, sym, inr}
use Rattle.std.specs.Prelude.{◌⊎◌}
use Rattle.std.proofs.lemmas.Result.{IfErr-weaker, IfOk-weaker, on_ok_weaker}
use Rattle.lp_sig.specs.Limits.{AreWithin}
use Rattle.lp_sig.specs.Refusals.{IsFaultIn, IsAtFault, AreTaken}
use Rattle.lp_sig.specs.declared.fault.SigFault.TheVariants as fault
use Rattle.lp_sig.specs.Said.{fixities_in, of_text}
use Rattle.lp_sig.specs.Abbreviations.{one_text, seen_text}
use Rattle.lp_sig.specs.Faults.{AreSound}
use Rattle.lp_sig.specs.Standing.{seen_count, AllStand}
use Rattle.lp_sig.specs.Constants.{constants_in, AreTakenConstants}
use Rattle.lp_sig.specs.Knowing.{KnowsOperators}
use Rattle.lp_sig.proofs.Spoken.{at_text}
use Rattle.lp_sig.proofs.Seeing.{text_follows}
use Rattle.lp_sig.proofs.DeclaredConstants.{text_declares}
use Rattle.lp_sig.proofs.Blame.{both_ok, text_at_fault, text_taken}
use Rattle.lp_sig.proofs.texts.declare.Goals as goal

pub returns-clause-refused : goal.returns-clause-refused
returns-clause-refused c = λ z rows k a t.
    let bytes = c.as_slice.result.now in
    let lines = c.index-texts-at.result.lines.items in
    IfErr-weaker c.declare.result (IsFaultIn bytes (seen_count z) (seen_text z bytes lines) rows lines) (λ e. (e ≡ fault.Memory) ⊎ IsAtFault c.args.sources.now c.args.texts.now z rows c.args.at e)
    (λ e f. inr (text_at_fault c.args.sources.now c.args.texts.now z rows c.args.at c.index-sources-at.result c.index-texts-at.result bytes e c.as_slice.ensures.value (c.requires.source, sym c.index-sources-at.is) (c.requires.text, sym c.index-texts-at.is) f))
    (c.declare.ensures.refused z rows k a t)

pub returns-clause-taken : goal.returns-clause-taken
returns-clause-taken c = λ z rows k a t.
    let bytes = c.as_slice.result.now in
    let lines = c.index-texts-at.result.lines.items in
    IfOk-weaker c.declare.result (λ done. (AreWithin bytes lines × AreSound (seen_count z) bytes (seen_text z bytes lines) lines) × (AreTakenConstants (seen_count z) (seen_text z bytes lines) rows (constants_in bytes lines) × AllStand (seen_count z) (seen_text z bytes lines)))
    (λ done. AreTaken c.args.sources.now c.args.texts.now z rows c.args.at)
    (λ done f. text_taken c.args.sources.now c.args.texts.now z rows c.args.at c.index-sources-at.result c.index-texts-at.result bytes
    c.as_slice.ensures.value (c.requires.source, sym c.index-sources-at.is)
    (c.requires.text, sym c.index-texts-at.is) f.0.0 f.0.1 f.1.0 f.1.1)
    (both_ok c.declare.result (λ done. AreWithin bytes lines × AreSound (seen_count z) bytes (seen_text z bytes lines) lines) (λ done. AreTakenConstants (seen_count z) (seen_text z bytes lines) rows (constants_in bytes lines) × AllStand (seen_count z) (seen_text z bytes lines))
    (both_ok c.declare.result (λ done. AreWithin bytes lines) (λ done. AreSound (seen_count z) bytes (seen_text z bytes lines) lines) c.declare.ensures.taken (c.declare.ensures.sound z k))
    (both_ok c.declare.result (λ done. AreTakenConstants (seen_count z) (seen_text z bytes lines) rows (constants_in bytes lines)) (λ done. AllStand (seen_count z) (seen_text z bytes lines)) (c.declare.ensures.declared z rows k a t) (c.declare.ensures.stand z k)))

pub returns-clause-operators : goal.returns-clause-operators
returns-clause-operators c = on_ok_weaker c.declare.result (λ h said k. subst (λ z. KnowsOperators c.declare.new.self.operators (said ++ z))
    (ap (λ b. fixities_in b c.index-texts-at.result.lines.items) c.as_slice.ensures.value ∙ sym
    (at_text fixities_in c.args.sources.now c.args.texts.now c.args.at c.index-sources-at.result c.index-texts-at.result c.requires.source
    c.index-sources-at.is c.requires.text c.index-texts-at.is)) (h said k)) c.declare.ensures.operators

pub returns-clause-seen : goal.returns-clause-seen
returns-clause-seen c =
    let lines = c.index-texts-at.result.lines.items in
    let texts = of_text one_text c.args.sources.now c.args.texts.now c.args.at in
    let is : texts ≡ one_text c.as_slice.result.now lines = (at_text one_text c.args.sources.now c.args.texts.now c.args.at c.index-sources-at.result
    c.index-texts-at.result c.requires.source c.index-sources-at.is c.requires.text
    c.index-texts-at.is) ∙ ap (λ b. one_text b lines) (sym c.as_slice.ensures.value) in
    on_ok_weaker c.declare.result (text_follows c.args.making.now c.declare.new.self texts c.as_slice.result.now lines is) c.declare.ensures.seen

pub returns-clause-constants : goal.returns-clause-constants
returns-clause-constants c =
    let lines = c.index-texts-at.result.lines.items in
    let texts = of_text one_text c.args.sources.now c.args.texts.now c.args.at in
    let is : texts ≡ one_text c.as_slice.result.now lines = (at_text one_text c.args.sources.now c.args.texts.now c.args.at c.index-sources-at.result
    c.index-texts-at.result c.requires.source c.index-sources-at.is c.requires.text
    c.index-texts-at.is) ∙ ap (λ b. one_text b lines) (sym c.as_slice.ensures.value) in
    on_ok_weaker c.declare.result (text_declares c.args.making.now c.declare.new.self texts c.as_slice.result.now lines is) c.declare.ensures.constants
