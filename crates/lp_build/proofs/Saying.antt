-- What a text says of other files is one thing.
use Rattle.std.proofs.Common.{◌≡◌, ℕ, ◌+◌, ◌≤◌, List, [], ◌∷◌, ◌++◌, map, length, true, refl, sym, ap, subst, ◌∙◌, append_assoc, append-nil, arith}
use Rattle.std.proofs.lemmas.Option.{slice_get_past}
use Rattle.lp_base.specs.declared.place.Spot.{Spot}
use Rattle.lp_lexer.specs.Lexis.{HasTokens}
use Rattle.lp_lexer.specs.declared.token.Token.{Token}
use Rattle.lp_lexer.proofs.Once.{one_reading}
use Rattle.lp_syntax.specs.Declarations.{Line}
use Rattle.lp_syntax.specs.References.{AreReferences, NextSentence, NoReference, Refer, all_of, at_last, later, none_refers, none_yet, one_refers, refers, sig_words_of, stop_here, words_of}
use Rattle.lp_syntax.specs.Signatures.{IsLine}
use Rattle.lp_syntax.specs.Tokens.{Lexeme, class_at, class_in}
use Rattle.lp_syntax.specs.declared.class.Class.TheVariants as class
use Rattle.lp_syntax.specs.declared.text.References.{References}
use Rattle.lp_syntax.proofs.LineUnique.{same_line}

pub same_tokens : (text : List ℕ) (ts us : List Token) → HasTokens text ts → HasTokens text us → ts ≡ us
same_tokens text ts us h k = (one_reading text 0 ts us _ _ h.1 k.1).tokens

past : (ls : List Lexeme) (i : ℕ) → length ls ≤ i → class_at ls i ≡ class.End
unfolding class_at
past ls i l = ap class_in (slice_get_past ls i l)

no_line_past : (ls : List Lexeme) (i j : ℕ) (l : Line) → length ls ≤ i → IsLine ls i j l → ⊥
no_line_past ls i j l low h = let e = sym (past ls i low) ∙ h.there in absurd (cc)

-- the next sentence

rises : (ls : List Lexeme) (i j : ℕ) → NextSentence ls i j → i ≤ j
rises ls i j (stop_here _ _ d e) = omega (arith, e)
rises ls i j (at_last _ l) = omega arith
rises ls i j (later _ _ k d e n) = let up = rises ls k j n in omega (arith, e, up)

next_one : (ls : List Lexeme) (i k j m : ℕ) → NextSentence ls i j → NextSentence ls k m → i ≡ k → j ≤ length ls → m ≤ length ls → j ≡ m
next_one ls i k j m (stop_here _ _ d e) (stop_here _ _ d' e') s a b = omega (arith, e, e', s)
next_one ls i k j m (stop_here _ _ d e) (at_last _ l) s a b = let f = sym d ∙ ap (class_at ls) s ∙ past ls k l in absurd (cc)
next_one ls i k j m (stop_here _ _ d e) (later _ _ n o e' r) s a b = absurd (o (sym (ap (class_at ls) s) ∙ d))
next_one ls i k j m (at_last _ l) (stop_here _ _ d e) s a b = let f = sym d ∙ sym (ap (class_at ls) s) ∙ past ls i l in absurd (cc)
next_one ls i k j m (at_last _ l) (at_last _ l') s a b = s
next_one ls i k j m (at_last _ l) (later _ _ n o e r) s a b = let up = rises ls n m r in absurd (omega (arith, l, s, e, up, b))
next_one ls i k j m (later _ _ n o e r) (stop_here _ _ d e') s a b = absurd (o (ap (class_at ls) s ∙ d))
next_one ls i k j m (later _ _ n o e r) (at_last _ l) s a b = let up = rises ls n j r in absurd (omega (arith, l, s, e, up, a))
next_one ls i k j m (later _ _ n o e r) (later _ _ n' o' e' r') s a b = next_one ls n n' j m r r' (e ∙ ap (λ x. x + 1) s ∙ sym e') a b

-- the sentences from a token up to another one
data From (ls : List Lexeme) (n : ℕ) : ℕ → List Line → Type 0 where
  over : From ls n n []
  said : (i e j : ℕ) (l : Line) (ds : List Line) → IsLine ls i e l → refers l ≡ true → NextSentence ls i j → From ls n j ds → From ls n i (l ∷ ds)
  unsaid : (i j : ℕ) (ds : List Line) → NoReference ls i → NextSentence ls i j → From ls n j ds → From ls n i ds

refer_from : (ls : List Lexeme) (n i : ℕ) (ds rest : List Line) → Refer ls i ds → From ls n i rest → From ls n 0 (ds ++ rest)
refer_from ls n i ds rest none_yet f = f
refer_from ls n i ds rest (one_refers k e j bs es l r line is next q) f =
    subst (From ls n 0) (sym (append_assoc bs (l ∷ []) rest) ∙ ap (λ xs. xs ++ rest) (sym q)) (refer_from ls n k bs (l ∷ rest) r (said k e i l rest line is next f))
refer_from ls n i ds rest (none_refers k j bs r no_one next) f = refer_from ls n k ds rest r (unsaid k i rest no_one next f)

up_to : (ls : List Lexeme) (n i : ℕ) (ds : List Line) → From ls n i ds → i ≤ n
up_to ls n i ds over = omega arith
up_to ls n i ds (said _ e j l rest line is next f) = let a = up_to ls n j rest f in let b = rises ls i j next in omega (arith, a, b)
up_to ls n i ds (unsaid _ j rest no_one next f) = let a = up_to ls n j ds f in let b = rises ls i j next in omega (arith, a, b)

none_behind : (ls : List Lexeme) (n i : ℕ) (ds : List Line) → n ≡ length ls → n ≤ i → From ls n i ds → ds ≡ []
none_behind ls n i ds e low over = refl
none_behind ls n i ds e low (said _ k j l rest line is next f) = absurd (no_line_past ls i k l (omega (arith, e, low)) line)
none_behind ls n i ds e low (unsaid _ j rest no_one next f) = let up = rises ls i j next in none_behind ls n j ds e (omega (arith, low, up)) f

from_one : (ls : List Lexeme) (n i k : ℕ) (ds es : List Line) → n ≡ length ls → i ≡ k → From ls n i ds → From ls n k es → ds ≡ es
from_one ls n i k ds es e s over g = sym (none_behind ls n k es e (omega (arith, s)) g)
from_one ls n i k ds es e s (said _ c j l rest line is next f) over = none_behind ls n i ds e (omega (arith, s)) (said i c j l rest line is next f)
from_one ls n i k ds es e s (said _ c j l rest line is next f) (said _ c' j' l' rest' line' is' next' f') =
    let same = (same_line ls i c c' l l' line (subst (λ x. IsLine ls x c' l') (sym s) line')).line in
    let up = up_to ls n j rest f in
    let up' = up_to ls n j' rest' f' in
    let more = from_one ls n j j' rest rest' e (next_one ls i k j j' next next' s (omega (arith, up, e)) (omega (arith, up', e))) f f' in
    ap (λ x. x ∷ rest) same ∙ ap (λ xs. l' ∷ xs) more
from_one ls n i k ds es e s (said _ c j l rest line is next f) (unsaid _ j' rest' no_one next' f') = absurd (no_one c l (subst (λ x. IsLine ls x c l) s line) is)
from_one ls n i k ds es e s (unsaid _ j rest no_one next f) over = none_behind ls n i ds e (omega (arith, s)) (unsaid i j ds no_one next f)
from_one ls n i k ds es e s (unsaid _ j rest no_one next f) (said _ c j' l rest' line is next' f') = absurd (no_one c l (subst (λ x. IsLine ls x c l) (sym s) line) is)
from_one ls n i k ds es e s (unsaid _ j rest no_one next f) (unsaid _ j' rest' no_one' next' f') =
    let up = up_to ls n j ds f in
    let up' = up_to ls n j' es f' in
    from_one ls n j j' ds es e (next_one ls i k j j' next next' s (omega (arith, up, e)) (omega (arith, up', e))) f f'

pub one_saying : (ls : List Lexeme) (n : ℕ) (ds es : List Line) → n ≡ length ls → Refer ls n ds → Refer ls n es → ds ≡ es
one_saying ls n ds es e h k = sym (append-nil ds) ∙ from_one ls n 0 0 (ds ++ []) (es ++ []) e refl (refer_from ls n n ds [] h over) (refer_from ls n n es [] k over) ∙ append-nil es

-- so are the words of accum_sig and of accumulate
pub same_signatures : (spot : ℕ → Spot) (ls : List Lexeme) (n : ℕ) (r q : References) → n ≡ length ls → AreReferences spot ls n r → AreReferences spot ls n q → r.accum_sig.items ≡ q.accum_sig.items
same_signatures spot ls n r q e h k = h.accum_sig ∙ ap (λ ds. map spot (all_of sig_words_of ds)) (one_saying ls n h.lines k.lines e h.refer k.refer) ∙ sym k.accum_sig

pub same_modules : (spot : ℕ → Spot) (ls : List Lexeme) (n : ℕ) (r q : References) → n ≡ length ls → AreReferences spot ls n r → AreReferences spot ls n q → r.accumulate.items ≡ q.accumulate.items
same_modules spot ls n r q e h k = h.accumulate ∙ ap (λ ds. map spot (all_of words_of ds)) (one_saying ls n h.lines k.lines e h.refer k.refer) ∙ sym k.accumulate
