-- Each token of a reading is the longest at its place.
use Rattle.std.proofs.Common.{◌≡◌, ℕ, ◌+◌, ◌-◌, ◌<◌, List, length, drop, Result, refl, sym, subst, arith, length-drop}
use Rattle.std.specs.Prelude.{All}
use Rattle.std.proofs.lemmas.List.Elements.{All-nil, All-cons}
use Rattle.lp_base.specs.declared.place.Place.{Place}
use Rattle.lp_lexer.specs.declared.token.Token.{Token}
use Rattle.lp_lexer.specs.declared.token.TokenKind.{TokenKind}
use Rattle.lp_lexer.specs.declared.token.LexFault.{LexFault}
use Rattle.lp_lexer.specs.declared.token.Piece.TheVariants.{Found}
use Rattle.lp_lexer.specs.Front.{front, IsWithin}
use Rattle.lp_lexer.specs.Laws.{IsTokenOf}
use Rattle.lp_lexer.specs.Lexis.{token, Lexes, ends, skips, takes, bad, open_text, open_comment, big_number}
use Rattle.lp_lexer.specs.Stands.{IsLongest}
use Rattle.lp_lexer.proofs.Longest.{what_stands}
use Rattle.lp_lexer.proofs.Reading.{within_rest}

token_of : (text : List ℕ) (i n : ℕ) (k : TokenKind) → i < length text → front (drop i text) ≡ Found k n → IsTokenOf text (token text i k n)
token_of text i n k h e =
    let some = length-drop i text in
    let s = what_stands (drop i text) (Found k n) (omega (arith, h, some)) e in
    let w : IsWithin (length text - i) (Found k n) = subst (IsWithin (length text - i)) e (within_rest text i h) in
    let len : i + n - i ≡ n = omega arith in
    let p = w.0 in
    let q = w.1 in
    record {
      some = omega (arith, p);
      within = omega (arith, q, h);
      longest = subst (IsLongest (drop i text) k) (sym len) s.0;
      bounded = s.1;
      place = refl;
    }

pub each_longest : (text : List ℕ) (i : ℕ) (ts : List Token) (r : Result Place LexFault) → Lexes text i ts r → All (IsTokenOf text) ts
each_longest text i ts r (ends _ e) = All-nil (IsTokenOf text)
each_longest text i ts r (skips _ n _ _ l e d) = each_longest text (i + n) ts r d
each_longest text i ts r (takes _ n k vs _ l e d) = All-cons (IsTokenOf text) (token text i k n) vs (token_of text i n k l e) (each_longest text (i + n) vs r d)
each_longest text i ts r (bad _ n l e) = All-nil (IsTokenOf text)
each_longest text i ts r (open_text _ l e) = All-nil (IsTokenOf text)
each_longest text i ts r (open_comment _ l e) = All-nil (IsTokenOf text)
each_longest text i ts r (big_number _ l e) = All-nil (IsTokenOf text)
