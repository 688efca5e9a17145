use Rattle.std.proofs.Common.{◌≢◌, ◌≤◌, ◌+◌, length, ap, ◌∙◌, subst, arith, inr}
use Rattle.std.proofs.lemmas.Grind.{common_steps}
use Rattle.lp_syntax.specs.declared.class.Class.TheVariants.{Backslash}
use Rattle.lp_syntax.specs.Ends.{IsFrom, IsUpTo}
use Rattle.lp_syntax.specs.Faults.{refused}
use Rattle.lp_syntax.specs.Tokens.{lexemes, spot_at, class_at}
use Rattle.lp_syntax.specs.TypeMachine.{Ends}
use Rattle.lp_syntax.specs.TypeViews.{IsTypeEnd, ComesTo}
use Rattle.lp_syntax.proofs.Tokens.{length_lexemes}
use Rattle.lp_syntax.proofs.TermSteps.{type_ended, no_backslash_past}
use Rattle.lp_syntax.proofs.term.Reader.annotation.Goals as goal

pub returns-then-end-input-clause-fault : goal.returns-then-end-input-clause-fault
returns-then-end-input-clause-fault c =
    let e = length_lexemes c.args.input.now.source.now c.args.input.now.tokens.now in
    let d : ComesTo (lexemes c.args.input.now.source.now c.args.input.now.tokens.now) (c.args.at + 1) c.in-Read.end Ends = subst (IsTypeEnd (lexemes c.args.input.now.source.now c.args.input.now.tokens.now) (c.args.at + 1)) c.in-Read.is c.in_ok-stop.ensures.end in
    let u : c.args.at + 1 ≤ c.in-Read.end = subst (IsFrom (c.args.at + 1)) c.in-Read.is c.in_ok-stop.ensures.further in
    let w : c.in-Read.end ≤ length c.args.input.now.tokens.now = subst (IsUpTo (length c.args.input.now.tokens.now)) c.in-Read.is c.in_ok-stop.ensures.within in
    let l : length c.args.input.now.tokens.now ≤ c.in-Read.end = grind (arith, common_steps) in
    inr
    (type_ended (spot_at c.args.input.now.file c.args.input.now.source.now c.args.input.now.tokens.now)
    (lexemes c.args.input.now.source.now c.args.input.now.tokens.now) c.args.self.now.opens.items c.args.at c.in-Read.end _ u
    (omega (arith, e, w)) d (no_backslash_past (lexemes c.args.input.now.source.now c.args.input.now.tokens.now) c.in-Read.end
    (omega (arith, e, l)))
    (c.refusal-then-end-input.ensures ∙ ap (λ b. refused (spot_at c.args.input.now.file c.args.input.now.source.now c.args.input.now.tokens.now) c.in-Read.end b (class_at (lexemes c.args.input.now.source.now c.args.input.now.tokens.now) c.in-Read.end)) c.innermost-then-end-input.ensures))

pub returns-then-not-is_backslash-clause-fault : goal.returns-then-not-is_backslash-clause-fault
returns-then-not-is_backslash-clause-fault c =
    let e = length_lexemes c.args.input.now.source.now c.args.input.now.tokens.now in
    let d : ComesTo (lexemes c.args.input.now.source.now c.args.input.now.tokens.now) (c.args.at + 1) c.in-Read.end Ends = subst (IsTypeEnd (lexemes c.args.input.now.source.now c.args.input.now.tokens.now) (c.args.at + 1)) c.in-Read.is c.in_ok-stop.ensures.end in
    let u : c.args.at + 1 ≤ c.in-Read.end = subst (IsFrom (c.args.at + 1)) c.in-Read.is c.in_ok-stop.ensures.further in
    let w : c.in-Read.end ≤ length c.args.input.now.tokens.now = subst (IsUpTo (length c.args.input.now.tokens.now)) c.in-Read.is c.in_ok-stop.ensures.within in
    let n : class_at (lexemes c.args.input.now.source.now c.args.input.now.tokens.now) c.in-Read.end ≢ Backslash = λ z. c.is_backslash.ensures.no c.if-not-is_backslash.true (c.class.ensures ∙ z) in
    inr
    (type_ended (spot_at c.args.input.now.file c.args.input.now.source.now c.args.input.now.tokens.now) (lexemes c.args.input.now.source.now c.args.input.now.tokens.now) c.args.self.now.opens.items c.args.at c.in-Read.end _ u (omega (arith, e, w)) d n
    (c.refusal-then-not-is_backslash.ensures ∙ ap (λ b. refused (spot_at c.args.input.now.file c.args.input.now.source.now
    c.args.input.now.tokens.now) c.in-Read.end b (class_at (lexemes c.args.input.now.source.now c.args.input.now.tokens.now) c.in-Read.end))
    c.innermost-then-not-is_backslash.ensures))
