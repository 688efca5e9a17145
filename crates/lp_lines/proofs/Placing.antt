-- The line of a refusal of texts tells of a byte of its text: the place of a fault of tokens is that of a byte, and what is said is a message.
use Rattle.std.proofs.Common.{◌≡◌, ℕ, ◌+◌, ◌<◌, ◌≤◌, List, length, refl, sym, ap, ◌∙◌, subst, arith, inl, inr, Result, Ok, Err}
use Rattle.std.specs.Global.{Global}
use Rattle.std.specs.Result.{IsErrAnd}
use Rattle.std.specs.Prelude.{Vec, Bool, true, false, ◌⊎◌, take, IfOk, IfErr}
use Rattle.std.proofs.lemmas.Bool.{cases_lt}
use Rattle.std.proofs.lemmas.List.{take_all}
use Rattle.lp_base.specs.declared.place.Place.{Place}
use Rattle.lp_lexer.specs.declared.token.Token.{Token}
use Rattle.lp_lexer.specs.declared.token.LexFault.{LexFault}
use Rattle.lp_lexer.specs.declared.token.LexFault.TheVariants as fault
use Rattle.lp_lexer.specs.Lexis.{Lexes, ends, skips, takes, bad, open_text, open_comment, big_number, HasFault, place_at, moved}
use Rattle.lp_lines.specs.Placed.{IsBlamed, IsOfText, IsSourceLine, IfSource, IsSaid, IsCauseOf, is_message, said_as, source_line}
use Rattle.lp_lines.specs.declared.cause.Blame.{Blame}
use Rattle.lp_lines.specs.declared.cause.Cause.{Cause}
use Rattle.lp_lines.specs.declared.refusal.Refusal.{Refusal}
use Rattle.lp_lines.specs.declared.refusal.Refusal.TheVariants.{Line, Memory}

abbrev pub IsPlaceOf : List ℕ → Place → Type 0
IsPlaceOf text p = (i : ℕ) × ((i ≤ length text) × (p ≡ place_at text i))

-- the bytes up to a place beyond the end are all of them
reached : (text : List ℕ) (k : ℕ) → IsPlaceOf text (place_at text k)
reached text k = go (cases_lt (length text) k)
  where
    go : (length text < k) ⊎ (k ≤ length text) → IsPlaceOf text (place_at text k)
    go (inl l) =
        let same : length text ≤ length text = omega arith in
        let past : length text ≤ k = omega arith in
        (length text, (same, ap (moved (record { line = 1; column = 1 })) (take_all k text past ∙ sym (take_all (length text) text same))))
    go (inr l) = (k, (l, refl))

abbrev HasPlace : List ℕ → Result Place LexFault → Type 0
HasPlace text (Ok p) = Unit {0}
HasPlace text (Err fault.Memory) = Unit {0}
HasPlace text (Err (fault.BadByte p)) = IsPlaceOf text p
HasPlace text (Err (fault.OpenText p)) = IsPlaceOf text p
HasPlace text (Err (fault.OpenComment p)) = IsPlaceOf text p
HasPlace text (Err (fault.BigNumber p)) = IsPlaceOf text p

has_place : {text : List ℕ} {i : ℕ} {ts : List Token} {r : Result Place LexFault} → Lexes text i ts r → HasPlace text r
has_place (ends i e) = tt
has_place (skips i n ts r l e h) = has_place h
has_place (takes i n k ts r l e h) = has_place h
has_place {text = text} (bad i n l e) = reached text (i + n)
has_place {text = text} (open_text i l e) = reached text i
has_place {text = text} (open_comment i l e) = reached text i
has_place {text = text} (big_number i l e) = reached text i

pub bad_byte : (text : List ℕ) (p : Place) → HasFault text (fault.BadByte p) → IsPlaceOf text p
bad_byte text p h = has_place h.1

pub unclosed_text : (text : List ℕ) (p : Place) → HasFault text (fault.OpenText p) → IsPlaceOf text p
unclosed_text text p h = has_place h.1

pub unclosed_comment : (text : List ℕ) (p : Place) → HasFault text (fault.OpenComment p) → IsPlaceOf text p
unclosed_comment text p h = has_place h.1

pub great_number : (text : List ℕ) (p : Place) → HasFault text (fault.BigNumber p) → IsPlaceOf text p
great_number text p h = has_place h.1

-- a line that says a message of such a place
pub line_of_place : {E : Type 0} (r : Result (Vec ℕ Global) E) (file text : List ℕ) (p : Place) (said : List ℕ) → IsPlaceOf text p → is_message false
    said ≡ true → IfOk r (λ line. line.items ≡ source_line file p said) → IfOk r (λ line. IsOfText file text line.items)
line_of_place (Err e) file text p said h m w = tt
line_of_place (Ok line) file text p said h m w = record { from = h.0; within = h.1.0; said = said; message = inl m; wrote = w ∙ ap (λ q. source_line file q said) h.1.1 }

-- the place behind the bytes before a place
pub place_behind : (text before : List ℕ) (from : ℕ) → before ≡ take from text → place_at before (length before) ≡ place_at text from
place_behind text before from e =
    let same : length before ≤ length before = omega arith in
    ap (moved (record { line = 1; column = 1 })) (take_all (length before) before same ∙ e)

-- a weaker claim of the same line
pub source_weaker : (P Q : List ℕ → Type 0) → ((line : List ℕ) → P line → Q line) → (r : Refusal) → IfSource P r → IfSource Q r
source_weaker P Q f (Line said line) h = λ e. f line.items (h e)
source_weaker P Q f Memory h = tt

-- so too where it is such a line, or want of memory
pub line_weaker : (P Q : List ℕ → Type 0) → ((line : List ℕ) → P line → Q line) → (r : Refusal) → IsSourceLine P r → IsSourceLine Q r
line_weaker P Q f (Line said line) h = (h.0, f line.items h.1)
line_weaker P Q f Memory h = tt

pub line_is_source : (P : List ℕ → Type 0) (r : Refusal) → IsSourceLine P r → IfSource P r
line_is_source P (Line said line) h = λ e. h.1
line_is_source P Memory h = tt

pub sources_weaker : {T : Type 0} (P Q : List ℕ → Type 0) → ((line : List ℕ) → P line → Q line) → (r : Result T Refusal) → IfErr r (IfSource P) → IfErr r (IfSource Q)
sources_weaker P Q f (Ok x) h = tt
sources_weaker P Q f (Err r) h = source_weaker P Q f r h

-- the line of what is said of a text, whose place was read off the bytes before it
pub blamed_behind : {E : Type 0} (r : Result (Vec ℕ Global) E) (file text before said : List ℕ) (b : Blame) (p : Place) → b.spot.from ≤ length text →
    before ≡ take b.spot.from text → p ≡ place_at before (length before) →
    said ≡ said_as b.is_named b.text.now text b.spot.from b.spot.to → IfOk r (λ line. line.items ≡ source_line file p said) → IfOk r (λ line. IsBlamed file text b line.items)
blamed_behind (Err e) file text before said b p within is place says w = tt
blamed_behind (Ok line) file text before said b p within is place says w =
    record { within = within; wrote = w ∙ (ap (λ q. source_line file q said) (place ∙ place_behind text before b.spot.from is) ∙ ap (source_line file (place_at text b.spot.from)) says) }

-- what is said is a message, behind which the name at the place may stand
said_is : (is_named : Bool) (message text : List ℕ) (from to : ℕ) → is_message is_named message ≡ true → IsSaid text from (said_as is_named message text from to)
said_is true message text from to m = inr (message, (to, (m, refl)))
said_is false message text from to m = inl m

-- so such a line tells of a byte of the text, or of its end
pub blamed_of_text : {file text line : List ℕ} (b : Blame) → is_message b.is_named b.text.now ≡ true → IsBlamed file text b line → IsOfText file text line
blamed_of_text {text = text} b m h =
    record {
      from = b.spot.from;
      within = h.within;
      said = said_as b.is_named b.text.now text b.spot.from b.spot.to;
      message = said_is b.is_named
          b.text.now text b.spot.from b.spot.to m;
      wrote = h.wrote;
    }

-- a refusal that is no line of a text
pub nowhere : (P : List ℕ → Type 0) (r : Refusal) → IfSource (λ line. ⊥) r → IfSource P r
nowhere P (Line said line) h = λ e. absurd (h e)
nowhere P Memory h = tt

-- a cause that is passed up
pub cause_passed : {T : Type 0} (r : Result T Cause) (e : Cause) (text : List ℕ) → IsErrAnd r (λ y. y ≡ e) → IsCauseOf text e → IfErr r (IsCauseOf text)
cause_passed (Ok x) e text is p = tt
cause_passed (Err y) e text is p = subst (IsCauseOf text) (sym is) p
