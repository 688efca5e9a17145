use Rattle.std.proofs.Common.{◌≡◌, true, false, refl, sym, ap, ◌∙◌, arith}
use Rattle.lp_lemmas.proofs.Results.{passed_up}
use Rattle.lp_syntax.specs.declared.class.Class.TheVariants as class
use Rattle.lp_syntax.specs.Tokens.{lexemes, spot_at, class_at}
use Rattle.lp_syntax.specs.Declarations.{is_word}
use Rattle.lp_syntax.specs.LineMachine.{AtHeader, StopsIn}
use Rattle.lp_syntax.specs.Signatures.{title}
use Rattle.lp_syntax.proofs.Tokens.{length_lexemes}
use Rattle.lp_syntax.proofs.LineCode.{class_within, word_within}
use Rattle.lp_syntax.proofs.SignatureCode.{title_stops, word_stops, header_dot_stops}
use Rattle.lp_syntax.proofs.whole.header.Goals as goal

pub returns-then-not-is_title-clause-fault : goal.returns-then-not-is_title-clause-fault
returns-then-not-is_title-clause-fault c = title_stops (spot_at c.args.input.now.file c.args.input.now.source.now c.args.input.now.tokens.now)
    (lexemes c.args.input.now.source.now c.args.input.now.tokens.now) (title c.args.signature) _
    (λ y. c.if-not-is_title.ensures.no refl (c.class.ensures ∙ y)) c.refusal.ensures

pub returns-then-not-is_word-clause-fault : goal.returns-then-not-is_word-clause-fault
returns-then-not-is_word-clause-fault c =
    let e = sym c.class.ensures ∙ c.if-not-is_title.ensures.yes refl in
    let w = class_within c.args.input.now.source.now c.args.input.now.tokens.now 0 (class.Keyword (title c.args.signature)) e (λ z. cc) in
    let l = length_lexemes c.args.input.now.source.now c.args.input.now.tokens.now in
    let h : is_word (class_at (lexemes c.args.input.now.source.now c.args.input.now.tokens.now) 1) ≡ false = ap is_word (sym c.class-2.ensures) ∙ sym c.is_word.ensures ∙ c.if-not-is_word.true in
    word_stops (spot_at c.args.input.now.file c.args.input.now.source.now c.args.input.now.tokens.now) (lexemes c.args.input.now.source.now c.args.input.now.tokens.now) (title c.args.signature) _ e h (omega (arith, w, l)) c.refusal-then-not-is_word.ensures

pub returns-in_err-end-clause-fault : goal.returns-in_err-end-clause-fault
returns-in_err-end-clause-fault c =
    let e = sym c.class.ensures ∙ c.if-not-is_title.ensures.yes refl in
    let h : is_word (class_at (lexemes c.args.input.now.source.now c.args.input.now.tokens.now) 1) ≡ true = ap is_word (sym c.class-2.ensures) ∙ sym c.is_word.ensures ∙ c.if-not-is_word.false in
    let w = word_within c.args.input.now.source.now c.args.input.now.tokens.now 1 h in
    let l = length_lexemes c.args.input.now.source.now c.args.input.now.tokens.now in
    passed_up c.from_residual.result c.in_err-end.field-0.0 (λ f. StopsIn (spot_at c.args.input.now.file c.args.input.now.source.now
    c.args.input.now.tokens.now) (lexemes c.args.input.now.source.now c.args.input.now.tokens.now) (AtHeader (title c.args.signature)) 0 f)
    c.from_residual.ensures.1 (header_dot_stops (spot_at c.args.input.now.file c.args.input.now.source.now c.args.input.now.tokens.now)
    (lexemes c.args.input.now.source.now c.args.input.now.tokens.now) (title c.args.signature) _ e h c.in_err-end.ensures.none
    (omega (arith, w, l)) c.in_err-end.ensures.refused)
