-- Signatures from their lines.
use Rattle.std.proofs.Common.{◌≡◌, ℕ, ◌+◌, ◌<◌, ◌≤◌, false, List, [], ◌∷◌, ◌++◌, length, refl, sym, ap, ◌∙◌, subst, arith}
use Rattle.lp_syntax.specs.declared.class.Keyword.{Keyword}
use Rattle.lp_syntax.specs.declared.class.Class.TheVariants as class
use Rattle.lp_syntax.specs.Tokens.{Lexeme, class_at, Agree}
use Rattle.lp_syntax.specs.Declarations.{is_word, Line, IsBody, kinds, local_kinds, local_kinds_of, constants, locals, locals_of, abbreviation, accumulate, accum_sig, fixities}
use Rattle.lp_syntax.specs.LineMachine.{LineState, AtHeader, AtWord, AtHeaderDot, AtStart, AtEnd, LineStep, header, header_word, header_dot, LineRuns, stays, goes, LineStops}
use Rattle.lp_syntax.specs.Signatures.{IsShared, IsHeader, IsLine, is_local, is_local_word, AreLines, no_line, one_line}
use Rattle.lp_syntax.proofs.Tokens.{class_same, going_on}
use Rattle.lp_syntax.proofs.Lines.{line_on, line_up, one_step, body_runs, body_starts, first_state}
use Rattle.lp_syntax.proofs.LineSound.{LineAt, LineReads, reads_start, reads_commas, reads_names, reads_front, reads_kind, reads_abbreviation, reads_bracket, reads_parameters, reads_type, reads_number, reads_line, line_reads, line_sound}
use Rattle.lp_syntax.proofs.LineStops.{never_ends, one_end, line_same, same_keyword}
use Rattle.lp_syntax.proofs.LineEnds.{CanEnd, line_ends, to_end}

-- a declaration in any text is read
pub line_run : (ls : List Lexeme) (i j : ℕ) (k : Keyword) (l : Line) → class_at ls i ≡ class.Keyword k → IsBody ls k (i + 1) j l → LineRuns ls AtStart i AtEnd j
line_run ls i j k l e b = goes AtStart (first_state k) AtEnd i (i + 1) j (body_starts ls k (i + 1) j l (class_at ls i) b e) refl (body_runs ls k (i + 1) j l b)

pub line_longer : (ls : List Lexeme) (i j : ℕ) → LineRuns ls AtStart i AtEnd j → i < j
line_longer ls i j d = go AtStart AtEnd i j d (λ e. let z : AtStart ≡ AtEnd = e in cc)
  where
    go : (s r : LineState) (i j : ℕ) → LineRuns ls s i r j → (s ≡ r → ⊥) → i < j
    go s r i j (stays _ _) n = absurd (n refl)
    go s r i j (goes _ q _ _ k _ h p e) n = let u = line_up ls q r k j e in omega (arith, u, p)

can_end : (ls : List Lexeme) (i j : ℕ) (s : LineState) → LineReads ls i s j → CanEnd s
can_end ls i j s reads_start = tt
can_end ls i j s (reads_commas k _ ns y h w) = y
can_end ls i j s (reads_names k _ ns y h a) = y
can_end ls i j s (reads_front k m _ n ns y h a d) = tt
can_end ls i j s (reads_kind k m _ n ns y h a d) = tt
can_end ls i j s (reads_abbreviation _ h p) = tt
can_end ls i j s (reads_bracket _ h o p) = tt
can_end ls i j s (reads_parameters _ ns h o n p) = tt
can_end ls i j s (reads_type m _ q b d) = tt
can_end ls i j s (reads_number f m _ n ns h a w p) = tt
can_end ls i j s (reads_line _ l) = tt

-- a text that goes on from where the reader stops to the end of a declaration
pub record Finished (ls : List Lexeme) (i n : ℕ) : Type 0 where
  pub text : List Lexeme
  pub agrees : Agree n ls text
  pub line : LineAt text i (length text)

pub finished : (ls : List Lexeme) (i n : ℕ) → LineStops ls AtStart i n → Finished ls i n
finished ls i n h =
    let g = going_on n ls (line_ends h.state) h.high in
    let c = can_end ls i n h.state (line_reads ls i AtStart h.state i n h.runs reads_start) in
    let r = line_same n ls g.text g.agrees AtStart h.state i n (omega arith) h.runs in
    let e = to_end g.text h.state n (length g.text) c g.stand g.long in
    record { text = g.text; agrees = g.agrees; line = line_sound g.text i (length g.text) (line_on g.text AtStart h.state AtEnd i n (length g.text) r e) }

-- no text with these tokens has a declaration there
pub no_line_there : (ls ms : List Lexeme) (s : LineState) (i n j : ℕ) → Agree n ls ms → class_at ms n ≡ class_at ls n → LineStops ls s i n → LineRuns ms s i AtEnd j → ⊥
no_line_there ls ms s i n j a e h d = never_ends ms s h.state i n j (line_same n ls ms a s h.state i n (omega arith) h.runs) h.unfinished (λ q k. h.stops q (subst (λ c. LineStep c h.state q) e k)) d

-- whether a declaration is local shows in its keyword
pub local_by_word : (ls : List Lexeme) (k : Keyword) (i e : ℕ) (l : Line) → IsBody ls k i e l → is_local l ≡ is_local_word k
local_by_word ls k i e l (kinds _ j m _ n ns a d z) = refl
local_by_word ls k i e l (local_kinds _ j _ ns a z) = refl
local_by_word ls k i e l (local_kinds_of _ j m _ n ns a d z) = refl
local_by_word ls k i e l (constants _ j m _ ns t a d z) = refl
local_by_word ls k i e l (locals _ j _ ns a z) = refl
local_by_word ls k i e l (locals_of _ j m _ ns t a d z) = refl
local_by_word ls k i e l (abbreviation _ j m _ n ns t a d z) = refl
local_by_word ls k i e l (accumulate _ j _ ns a z) = refl
local_by_word ls k i e l (accum_sig _ j _ ns a z) = refl
local_by_word ls k i e l (fixities _ j _ n f ns a y z) = refl

line_shared : (ls : List Lexeme) (i j : ℕ) (d : Line) → IsLine ls i j d → is_local d ≡ false → IsShared ls i
line_shared ls i j d h e = λ k y. ap is_local_word (same_keyword (sym y ∙ h.there)) ∙ sym (local_by_word ls h.word (i + 1) j d h.body) ∙ e

pub line_runs_of : (ls : List Lexeme) (i j : ℕ) (d : Line) → IsLine ls i j d → LineRuns ls AtStart i AtEnd j
line_runs_of ls i j d h = line_run ls i j h.word d h.there h.body

abbrev SharedLine : List Lexeme → ℕ → ℕ → Type 0
SharedLine ls i j = (d : Line) × IsLine ls i j d × (is_local d ≡ false)

shared_line : (ls : List Lexeme) (i j : ℕ) → IsShared ls i → LineAt ls i j → SharedLine ls i j
shared_line ls i j h l = (l.line, record { word = l.word; there = l.there; body = l.body }, local_by_word ls l.word (i + 1) j l.line l.body ∙ h l.word l.there)

shared_same : (n : ℕ) (ls ms : List Lexeme) (i : ℕ) → Agree n ls ms → i < n → IsShared ls i → IsShared ms i
shared_same n ls ms i a l h = λ k e. h k (sym (class_same n i ls ms a l) ∙ e)

-- lines in another text with these tokens
pub lines_same : (n : ℕ) (ls ms : List Lexeme) → Agree n ls ms → (i j : ℕ) (ds : List Line) → j ≤ n → AreLines ls i j ds → (es : List Line) × AreLines ms i j es
lines_same n ls ms a i j ds l (no_line _) = ([], no_line i)
lines_same n ls ms a i j ds l (one_line _ k _ d rest h e t) =
    let u = lines_up k j rest t in
    let r = line_runs_of ls i k d h in
    let z = line_longer ls i k r in
    let m = shared_line ms i k (shared_same n ls ms i a (omega (arith, z, u, l)) (line_shared ls i k d h e)) (line_sound ms i k (line_same n ls ms a AtStart AtEnd i k (omega (arith, u, l)) r)) in
    let g = lines_same n ls ms a k j rest l t in
    (m.0 ∷ g.0, one_line i k j m.0 g.0 m.1 m.2 g.1)
  where
    lines_up : (i j : ℕ) (ds : List Line) → AreLines ls i j ds → i ≤ j
    lines_up i j ds (no_line _) = omega arith
    lines_up i j ds (one_line _ k _ d rest h e t) = let u = lines_up k j rest t in let z = line_longer ls i k (line_runs_of ls i k d h) in omega (arith, u, z)

pub lines_grow : (ls : List Lexeme) (i j : ℕ) (ds : List Line) → AreLines ls i j ds → i ≤ j
lines_grow ls i j ds (no_line _) = omega arith
lines_grow ls i j ds (one_line _ k _ d rest h e t) = let u = lines_grow ls k j rest t in let z = line_longer ls i k (line_runs_of ls i k d h) in omega (arith, u, z)

pub lines_on : (ls : List Lexeme) (i j k : ℕ) (ds es : List Line) → AreLines ls i j ds → AreLines ls j k es → AreLines ls i k (ds ++ es)
lines_on ls i j k ds es (no_line _) t = t
lines_on ls i j k ds es (one_line _ m _ d rest h e s) t = one_line i m k d (rest ++ es) h e (lines_on ls m j k rest es s t)

-- the lines of a whole text, from where these end
pub lines_left : (ls ms : List Lexeme) (n i j m : ℕ) (ds es : List Line) → Agree n ls ms → j ≤ n → j ≤ m → AreLines ls i j ds → AreLines ms i m es → (rest : List Line) × AreLines ms j m rest
lines_left ls ms n i j m ds es a l h (no_line _) t = (es, t)
lines_left ls ms n i j m ds es a l h (one_line _ k _ d rest x e s) (no_line _) =
    let u = lines_grow ls k j rest s in
    let z = line_longer ls i k (line_runs_of ls i k d x) in
    absurd (omega (arith, u, z, h))
lines_left ls ms n i j m ds es a l h (one_line _ k _ d rest x e s) (one_line _ k' _ d' rest' x' e' t) =
    let u = lines_grow ls k j rest s in
    let p = one_end ms AtStart i k k' (line_same n ls ms a AtStart AtEnd i k (omega (arith, u, l)) (line_runs_of ls i k d x)) (line_runs_of ms i k' d' x') in
    lines_left ls ms n k j m rest rest' a l h s (subst (λ q. AreLines ms q m rest') (sym p) t)

-- headers
pub header_runs : (ls : List Lexeme) (k : Keyword) → IsHeader ls k → LineRuns ls (AtHeader k) 0 AtEnd 3
header_runs ls k h = goes (AtHeader k) AtWord AtEnd 0 1 3 (header k h.first) refl (goes AtWord AtHeaderDot AtEnd 1 2 3 (header_word h.second) refl (one_step ls AtHeaderDot AtEnd 2 3 (header_dot h.third) refl))

pub header_sound : (ls : List Lexeme) (k : Keyword) (j : ℕ) → LineRuns ls (AtHeader k) 0 AtEnd j → IsHeader ls k × (j ≡ 3)
header_sound ls k j (goes _ _ _ _ _ _ (header _ e) p (goes _ _ _ _ _ _ (header_word f) q (goes _ _ _ _ _ _ (header_dot g) r d))) = (
  record
      { first = e; second = ap (λ i. is_word (class_at ls i)) (sym p) ∙ f; third = ap (class_at ls) (sym (q ∙ ap (λ n. n + 1) p)) ∙ g },
  at_end _ j d ∙
      r ∙ ap (λ n. n + 1) (q ∙ ap (λ n. n + 1) p),
)
  where
    at_end : (a b : ℕ) → LineRuns ls AtEnd a AtEnd b → b ≡ a
    at_end a b (stays _ _) = refl
    at_end a b (goes _ _ _ _ _ _ h p d) = elim h [ ]

pub header_same : (n : ℕ) (ls ms : List Lexeme) (k : Keyword) → Agree n ls ms → 3 ≤ n → IsHeader ls k → IsHeader ms k
header_same n ls ms k a l h = record {
  first = class_same n 0 ls ms a (omega (arith, l)) ∙ h.first;
  second = ap is_word (class_same n 1 ls ms a (omega (arith, l))) ∙ h.second;
  third = class_same n 2 ls ms a (omega (arith, l)) ∙ h.third;
}
