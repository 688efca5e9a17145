-- The tokens of a text by their numbers.
use Rattle.std.proofs.Common.{◌≡◌, ℕ, zero, suc, ◌+◌, ◌<◌, ◌≤◌, List, [], ◌∷◌, ◌++◌, length, take, refl, sym, ap, ◌∙◌, subst, arith, length-append, append_assoc}
use Rattle.std.specs.Prelude.{Some, slice_get}
use Rattle.std.proofs.lemmas.Option.{slice_get_past}
use Rattle.std.proofs.lemmas.List.{length-take-le}
use Rattle.lp_lexer.specs.declared.token.Token.{Token}
use Rattle.lp_syntax.specs.declared.class.Class.TheVariants.{End}
use Rattle.lp_syntax.specs.Tokens.{Lexeme, Operators, lexemes, class_in, class_at, bytes_in, bytes_at, symbol_of, symbol_at, Agree}

pub length_lexemes : (source : List ℕ) (ts : List Token) → length (lexemes source ts) ≡ length ts
length_lexemes source [] = refl
length_lexemes source (t ∷ ts) = ap suc (length_lexemes source ts)

pub past_end : (ls : List Lexeme) (i : ℕ) → length ls ≤ i → class_at ls i ≡ End
unfolding class_at
past_end ls i l = ap class_in (slice_get_past ls i l)

pub class_past : (source : List ℕ) (ts : List Token) (i : ℕ) → length ts ≤ i → class_at (lexemes source ts) i ≡ End
class_past source ts i l = let e = length_lexemes source ts in past_end (lexemes source ts) i (omega (arith, e, l))

-- what two texts agree on
pub class_same : (n i : ℕ) (ls ms : List Lexeme) → Agree n ls ms → i < n → class_at ms i ≡ class_at ls i
unfolding class_at
class_same n i ls ms a l = ap class_in (a.same i l)

pub symbol_same : (ops : Operators) (n i : ℕ) (ls ms : List Lexeme) → Agree n ls ms → i < n → symbol_at ops ms i ≡ symbol_at ops ls i
unfolding class_at bytes_at symbol_at
symbol_same ops n i ls ms a l = ap (λ o. symbol_of i (class_in o) (ops (bytes_in o))) (a.same i l)

pub agree_less : (m n : ℕ) (ls ms : List Lexeme) → m ≤ n → Agree n ls ms → Agree m ls ms
agree_less m n ls ms l a = record { long = let h = a.long in omega (arith, h, l); same = λ i k. a.same i (omega (arith, k, l)) }

-- these tokens stand from a number on
abbrev pub Stands : List Lexeme → ℕ → List Lexeme → Type 0
Stands ls n [] = Unit {0}
Stands ls n (m ∷ ms) = (slice_get ls n ≡ Some m) × Stands ls (suc n) ms

at_seam : (fs : List Lexeme) (l : Lexeme) (ls : List Lexeme) → slice_get (fs ++ l ∷ ls) (length fs) ≡ Some l
at_seam [] l ls = refl
at_seam (f ∷ fs) l ls = at_seam fs l ls

pub stands : (fs ls : List Lexeme) (n : ℕ) → n ≡ length fs → Stands (fs ++ ls) n ls
stands fs [] n e = tt
stands fs (l ∷ ls) n e = (
  ap (slice_get (fs ++ l ∷ ls)) e ∙ at_seam fs l ls,
  let k = length-append fs (l ∷ []) in
      subst (λ ms. Stands ms (suc n) ls) (append_assoc fs (l ∷ []) ls) (stands (fs ++ l ∷ []) ls (suc n) (omega (arith, k, e))),
)

pub class_stands : (ls : List Lexeme) (n : ℕ) (l : Lexeme) → slice_get ls n ≡ Some l → class_at ls n ≡ class_in (Some l)
unfolding class_at
class_stands ls n l e = ap class_in e

pub symbol_stands : (ops : Operators) (ls : List Lexeme) (n : ℕ) (l : Lexeme) → slice_get ls n ≡ Some l → symbol_at ops ls n ≡ symbol_of n (class_in (Some l)) (ops l.bytes)
unfolding class_at bytes_at symbol_at
symbol_stands ops ls n l e = ap (λ o. symbol_of n (class_in o) (ops (bytes_in o))) e

front_get : (n i : ℕ) (ls ms : List Lexeme) → i < n → n ≤ length ls → slice_get (take n ls ++ ms) i ≡ slice_get ls i
front_get zero i ls ms l h = absurd (omega (arith, l))
front_get (suc n) i [] ms l h = absurd (omega (arith, h))
front_get (suc n) zero (x ∷ ls) ms l h = refl
front_get (suc n) (suc i) (x ∷ ls) ms l h = front_get n i ls ms (omega (arith, l)) (omega (arith, h))

-- a text whose tokens from this number on are these
pub record GoesOn (n : ℕ) (ls ms : List Lexeme) : Type 0 where
  pub text : List Lexeme
  pub agrees : Agree n ls text
  pub stand : Stands text n ms
  pub long : length text ≡ n + length ms

pub going_on : (n : ℕ) (ls ms : List Lexeme) → n ≤ length ls → GoesOn n ls ms
going_on n ls ms h =
    let f = length-take-le n ls h in
    let l = length-append (take n ls) ms in
    record {
      text = take n ls ++ ms;
      agrees = record { long = omega (arith, f, l); same = λ i k. front_get n i ls ms k h };
      stand = stands (take n ls) ms n (sym f);
      long = omega (arith, f, l);
    }
