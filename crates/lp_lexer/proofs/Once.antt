-- A text has one reading.
use Rattle.std.proofs.Common.{◌≡◌, ℕ, ◌+◌, ◌<◌, List, [], ◌∷◌, length, drop, Result, Ok, Err, refl, sym, ap, ◌∙◌, subst, arith}
use Rattle.lp_base.specs.declared.place.Place.{Place}
use Rattle.lp_lexer.specs.declared.token.Token.{Token}
use Rattle.lp_lexer.specs.declared.token.LexFault.{LexFault}
use Rattle.lp_lexer.specs.declared.token.LexFault.TheVariants as fault
use Rattle.lp_lexer.specs.declared.token.Piece.{Piece}
use Rattle.lp_lexer.specs.declared.token.Piece.TheVariants.{Skip, Found, Bad, OpenText, OpenComment, BigNumber}
use Rattle.lp_lexer.specs.Front.{front}
use Rattle.lp_lexer.specs.Lexis.{place_at, token, Lexes, ends, skips, takes, bad, open_text, open_comment, big_number}

-- two readings of a place agree in this
pub record Agree (ts us : List Token) (r q : Result Place LexFault) : Type 0 where
  pub tokens : ts ≡ us
  pub result : r ≡ q

-- what a reading says of the piece at a place
abbrev Reading : (List ℕ) → ℕ → List Token → Result Place LexFault → Piece → Type 0
Reading text i us q (Skip n) = Lexes text (i + n) us q
Reading text i us q (Found k n) = (vs : List Token) × (us ≡ token text i k n ∷ vs) × Lexes text (i + n) vs q
Reading text i us q (Bad n) = (us ≡ []) × (q ≡ Err (fault.BadByte (place_at text (i + n))))
Reading text i us q OpenText = (us ≡ []) × (q ≡ Err (fault.OpenText (place_at text i)))
Reading text i us q OpenComment = (us ≡ []) × (q ≡ Err (fault.OpenComment (place_at text i)))
Reading text i us q BigNumber = (us ≡ []) × (q ≡ Err (fault.BigNumber (place_at text i)))

reading : (text : List ℕ) (i : ℕ) (us : List Token) (q : Result Place LexFault) → i < length text → Lexes text i us q → Reading text i us q (front (drop i text))
reading text i us q h (ends _ e) = absurd (omega (arith, e))
reading text i us q h (skips _ n _ _ l e d) = subst (Reading text i us q) (sym e) d
reading text i us q h (takes _ n k vs _ l e d) = subst (Reading text i (token text i k n ∷ vs) q) (sym e) (vs, refl, d)
reading text i us q h (bad _ n l e) = subst (Reading text i [] (Err (fault.BadByte (place_at text (i + n))))) (sym e) (refl, refl)
reading text i us q h (open_text _ l e) = subst (Reading text i [] (Err (fault.OpenText (place_at text i)))) (sym e) (refl, refl)
reading text i us q h (open_comment _ l e) = subst (Reading text i [] (Err (fault.OpenComment (place_at text i)))) (sym e) (refl, refl)
reading text i us q h (big_number _ l e) = subst (Reading text i [] (Err (fault.BigNumber (place_at text i)))) (sym e) (refl, refl)

at_end : (text : List ℕ) (i : ℕ) (us : List Token) (q : Result Place LexFault) → i ≡ length text → Lexes text i us q → Agree [] us (Ok (place_at text i)) q
at_end text i us q h (ends _ e) = record { tokens = refl; result = refl }
at_end text i us q h (skips _ n _ _ l e d) = absurd (omega (arith, l, h))
at_end text i us q h (takes _ n k vs _ l e d) = absurd (omega (arith, l, h))
at_end text i us q h (bad _ n l e) = absurd (omega (arith, l, h))
at_end text i us q h (open_text _ l e) = absurd (omega (arith, l, h))
at_end text i us q h (open_comment _ l e) = absurd (omega (arith, l, h))
at_end text i us q h (big_number _ l e) = absurd (omega (arith, l, h))

pub one_reading : (text : List ℕ) (i : ℕ) (ts us : List Token) (r q : Result Place LexFault) → Lexes text i ts r → Lexes text i us q → Agree ts us r q
one_reading text i ts us r q (ends _ e) d = at_end text i us q e d
one_reading text i ts us r q (skips _ n _ _ l e c) d = one_reading text (i + n) ts us r q c (subst (Reading text i us q) e (reading text i us q l d))
one_reading text i ts us r q (takes _ n k vs _ l e c) d =
    let z = subst (Reading text i us q) e (reading text i us q l d) in
    let y = one_reading text (i + n) vs z.0 r q c z.2 in
    record { tokens = ap (λ ws. token text i k n ∷ ws) y.tokens ∙ sym z.1; result = y.result }
one_reading text i ts us r q (bad _ n l e) d = let z = subst (Reading text i us q) e (reading text i us q l d) in record { tokens = sym z.0; result = sym z.1 }
one_reading text i ts us r q (open_text _ l e) d = let z = subst (Reading text i us q) e (reading text i us q l d) in record { tokens = sym z.0; result = sym z.1 }
one_reading text i ts us r q (open_comment _ l e) d = let z = subst (Reading text i us q) e (reading text i us q l d) in record { tokens = sym z.0; result = sym z.1 }
one_reading text i ts us r q (big_number _ l e) d = let z = subst (Reading text i us q) e (reading text i us q l d) in record { tokens = sym z.0; result = sym z.1 }
