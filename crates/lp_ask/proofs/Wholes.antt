-- Answers, last lines and refusals are whole lines.
use Rattle.std.proofs.Common.{◌≡◌, ℕ, List, [], ◌∷◌, ◌++◌, refl, sym, ap, ◌∙◌, subst, inl, inr, append_assoc, append-nil}
use Rattle.std.specs.Prelude.{codes, decimal}
use Rattle.std.specs.Global.{Global}
use Rattle.std.specs.Prelude.{Vec}
use Rattle.lp_base.specs.declared.status.Status.{Status}
use Rattle.lp_calculus.specs.Term.{Term}
use Rattle.lp_model.specs.Shown.{Entry, value_lines, pair_lines, values_shown, variables_of_values, variables_of_pairs, piece, side}
use Rattle.lp_model.specs.declared.ending.Ending.{Ending}
use Rattle.lp_show.specs.Endings.{ending_line}
use Rattle.lp_answers.specs.Texts.{AreAnswers, no_answer, one_more, IsAnswer, last_text}
use Rattle.lp_base.specs.Limit.{name_of}
use Rattle.lp_lines.specs.Lines.{limit_line}
use Rattle.lp_lines.specs.Ends.{IsOtherLimit}
use Rattle.lp_lines.specs.Placed.{IsOfText, IfSource}
use Rattle.lp_lines.specs.Refusals.{IsTextRefusal}
use Rattle.lp_lines.specs.declared.refusal.Refusal.TheVariants.{Line}
use Rattle.lp_lexer.specs.Lexis.{place_at}
use Rattle.lp_session.specs.Lines.{AreWholeLines}

pub whole_both : (xs ys : List ℕ) → AreWholeLines xs → AreWholeLines ys → AreWholeLines (xs ++ ys)
whole_both xs ys h (inl e) = subst AreWholeLines (sym (ap (λ z. xs ++ z) e ∙ append-nil xs)) h
whole_both xs ys h (inr k) = inr (xs ++ k.0, ap (λ z. xs ++ z) k.1 ∙ sym (append_assoc xs k.0 (10 ∷ [])))

-- what ends with whole lines behind something
behind : (xs ys : List ℕ) → (before : List ℕ) × (ys ≡ before ++ 10 ∷ []) → (before : List ℕ) × (xs ++ ys ≡ before ++ 10 ∷ [])
behind xs ys k = (xs ++ k.0, ap (λ z. xs ++ z) k.1 ∙ sym (append_assoc xs k.0 (10 ∷ [])))

feed : (before : List ℕ) × (codes "\n" ≡ before ++ 10 ∷ [])
feed = ([], refl)

values_whole : (es : List Entry) (vs : List ℕ) (bs : List (List ℕ × Term)) → AreWholeLines (value_lines es vs bs)
values_whole es vs [] = inl refl
values_whole es vs (b ∷ bs) = whole_both (codes "  " ++ (b.0 ++ (codes " = " ++ ((piece es vs 0 b.1).text ++ codes "\n")))) (value_lines es vs bs)
    (inr (behind (codes "  ") _ (behind b.0 _ (behind (codes " = ") _ (behind (piece es vs 0 b.1).text _ feed))))) (values_whole es vs bs)

pairs_whole : (es : List Entry) (vs : List ℕ) (ps : List (Term × Term)) → AreWholeLines (pair_lines es vs ps)
pairs_whole es vs [] = inl refl
pairs_whole es vs (p ∷ ps) = whole_both (codes "  where " ++ (side es vs p.0 ++ (codes " == " ++ (side es vs p.1 ++ codes "\n")))) (pair_lines es vs ps)
    (inr (behind (codes "  where ") _ (behind (side es vs p.0) _ (behind (codes " == ") _ (behind (side es vs p.1) _ feed))))) (pairs_whole es vs ps)

answer_whole : (es : List Entry) (ns : List (List ℕ)) (k : ℕ) (text : List ℕ) → IsAnswer es ns k text → AreWholeLines text
answer_whole es ns k text a =
    let shown = values_shown ns a.0 in
    let vs = variables_of_pairs (variables_of_values [] shown) a.1.0 in
    subst AreWholeLines (sym a.1.1)
    (whole_both (codes "answer " ++ (decimal k ++ codes "\n")) (value_lines es vs shown ++ pair_lines es vs a.1.0) (inr (behind (codes "answer ") _ (behind (decimal k) _ feed)))
    (whole_both (value_lines es vs shown) (pair_lines es vs a.1.0) (values_whole es vs shown) (pairs_whole es vs a.1.0)))

pub answers_whole : (es : List Entry) (ns : List (List ℕ)) (k : ℕ) (text : List ℕ) → AreAnswers es ns k text → AreWholeLines text
answers_whole es ns k text no_answer = inl refl
answers_whole es ns k text (one_more j before one _ a i e) = subst AreWholeLines (sym e) (whole_both before one (answers_whole es ns j before a) (answer_whole es ns _ one i))

pub last_whole : (e : Ending) → AreWholeLines (last_text e [])
last_whole e = inr (ending_line e, refl)

limit_whole : (text : List ℕ) → IsOtherLimit text → AreWholeLines text
unfolding limit_line
limit_whole text l = subst AreWholeLines (sym l.1.1) (inr (codes "limit: " ++ name_of l.0, refl))

source_whole : (file text line : List ℕ) → IsOfText file text line → AreWholeLines line
source_whole file text line o =
    subst AreWholeLines (sym o.wrote) (inr (codes "source: " ++ file ++ codes ":" ++ decimal (place_at text o.from).line ++ codes ":" ++ decimal (place_at text o.from).column ++ codes ": " ++ o.said, refl))

pub refused_whole : (query : List ℕ) (said : Status) (line : Vec ℕ Global) → IsTextRefusal (Line said line) → IfSource (IsOfText (codes "query") query) (Line said line) → AreWholeLines line.items
refused_whole query said line (inl s) p = source_whole (codes "query") query line.items (p s)
refused_whole query said line (inr l) p = limit_whole line.items l.1
