-- Where a text is no signature.
use Rattle.std.proofs.Common.{◌≡◌, ℕ, suc, ◌+◌, ◌<◌, ◌≤◌, true, false, List, [], ◌∷◌, ◌++◌, length, refl, sym, ap, ◌∙◌, subst, arith, codes}
use Rattle.std.specs.Prelude.{None}
use Rattle.lp_syntax.proofs.Referring.{agree_self}
use Rattle.lp_base.specs.declared.place.Spot.{Spot}
use Rattle.lp_syntax.specs.declared.class.Keyword.{Keyword}
use Rattle.lp_syntax.specs.declared.class.Keyword.TheVariants as keyword
use Rattle.lp_syntax.specs.declared.class.Class.TheVariants as class
use Rattle.lp_syntax.specs.declared.fault.SyntaxFault.{SyntaxFault}
use Rattle.lp_syntax.specs.Faults.{refused, innermost}
use Rattle.lp_syntax.specs.Tokens.{Lexeme, class_at, open_brackets, Agree}
use Rattle.lp_syntax.specs.Declarations.{Line}
use Rattle.lp_syntax.specs.LineMachine.{LineState, AtHeader, AtWord, AtHeaderDot, AtStart, AtEnd, LineStep, header, header_word, header_dot, LineRuns, stays, goes, LineStops, StopsIn}
use Rattle.lp_syntax.specs.Signatures.{IsShared, IsHeader, is_local_word, AreLines, no_line, one_line, IsSignature, SignatureBegins, SignatureFault}
use Rattle.lp_syntax.proofs.Classes.{class_there, refused_there}
use Rattle.lp_syntax.proofs.Tokens.{class_same, agree_less, going_on, class_stands, past_end}
use Rattle.lp_syntax.proofs.TypeFaults.{Compared, less, same, more, compared}
use Rattle.lp_syntax.proofs.Lines.{line_on, line_up}
use Rattle.lp_syntax.proofs.LineStops.{line_same, word_token, is_sig_token, lower_token, dot_token}
use Rattle.lp_syntax.proofs.LineEnds.{CanEnd, line_ends, to_end}
use Rattle.lp_syntax.proofs.LineOpen.{open_from, line_closed, stops_up}
use Rattle.lp_syntax.proofs.SignatureFaults.{line_runs_of, finished, no_line_there, local_by_word, lines_same, lines_grow, lines_on, lines_left, header_runs, header_sound, header_same}

lines_closed : (ls : List Lexeme) (i j : ℕ) (ds : List Line) → AreLines ls i j ds → open_brackets ls i j ≡ []
lines_closed ls i j ds (no_line _) = line_closed ls AtStart AtStart i i (stays AtStart i) refl refl
lines_closed ls i j ds (one_line _ k _ d rest h e t) =
    let r = line_runs_of ls i k d h in
    open_from ls i k j (line_up ls AtStart AtEnd i k r) (lines_grow ls k j rest t) (line_closed ls AtStart AtEnd i k r refl refl) ∙ lines_closed ls k j rest t

-- nothing is open behind lines
all_closed : (ls : List Lexeme) (at n : ℕ) (ds : List Line) → IsHeader ls keyword.Sig → AreLines ls 3 at ds → at ≤ n → open_brackets ls 0 n ≡ open_brackets ls at n
all_closed ls at n ds h t l =
    let u = lines_grow ls 3 at ds t in
    open_from ls 0 3 n (omega arith) (omega (arith, u, l)) (line_closed ls (AtHeader keyword.Sig) AtEnd 0 3 (header_runs ls keyword.Sig h) refl refl)
    ∙ open_from ls 3 at n u l (lines_closed ls 3 at ds t)

-- these lines, and those behind them in a text that begins so
begins_with : (ls : List Lexeme) (at n : ℕ) (ds : List Line) → IsHeader ls keyword.Sig → AreLines ls 3 at ds → at ≤ n → (text : List Lexeme) → Agree n ls text → (es : List Line) → AreLines text at (length text) es → SignatureBegins ls n
begins_with ls at n ds h t l text a es s =
    let u = lines_grow ls 3 at ds t in
    let m = lines_same n ls text a 3 at ds l t in
    record { text = text; agrees = a; lines = m.0 ++ es; signature = record { header = header_same n ls text keyword.Sig a (omega (arith, u, l)) h; lines = lines_on text 3 at (length text) m.0 es m.1 s } }

-- a text that ends here
ends_here : (ls : List Lexeme) (at : ℕ) (ds : List Line) → IsHeader ls keyword.Sig → AreLines ls 3 at ds → at ≤ length ls → SignatureBegins ls at
ends_here ls at ds h t l = let g = going_on at ls [] l in let e = g.long in begins_with ls at at ds h t (omega arith) g.text g.agrees [] (subst (λ k. AreLines g.text at k []) (let z : at ≡ length g.text = omega (arith, e) in z) (no_line at))

line_begins : (ls : List Lexeme) (at n : ℕ) (ds : List Line) → IsHeader ls keyword.Sig → AreLines ls 3 at ds → at < n → IsShared ls at → LineStops ls AtStart at n → SignatureBegins ls n
line_begins ls at n ds h t l y s =
    let f = finished ls at n s in
    let d = f.line in
    let w = y d.word (sym (class_same n at ls f.text f.agrees l) ∙ d.there) in
    begins_with ls at n ds h t (omega (arith, l)) f.text f.agrees (d.line ∷ []) (one_line at (length f.text) (length f.text) d.line [] (record { word = d.word; there = d.there; body = d.body }) (local_by_word f.text d.word (at + 1) (length f.text) d.line d.body ∙ w) (no_line (length f.text)))

viable_there : (ls : List Lexeme) (at n : ℕ) (ds : List Line) → IsHeader ls keyword.Sig → AreLines ls 3 at ds → IsShared ls at → LineStops ls AtStart at n → SignatureBegins ls n
viable_there ls at n ds h t y s = go (compared at n)
  where
    go : Compared at n → SignatureBegins ls n
    go (less l) = line_begins ls at n ds h t l y s
    go (same e) = let z = s.high in subst (SignatureBegins ls) e (ends_here ls at ds h t (omega (arith, z, e)))
    go (more l) = let z = stops_up ls AtStart at n s in absurd (omega (arith, z, l))

-- what a whole text has behind these lines
rest_of : (ls ms : List Lexeme) (at n : ℕ) (ds es : List Line) → AreLines ls 3 at ds → at ≤ n → Agree n ls ms → IsSignature ms es → (rest : List Line) × AreLines ms at (length ms) rest
rest_of ls ms at n ds es t l a s = let u = a.long in lines_left ls ms n 3 at (length ms) ds es a l (omega (arith, u, l)) t s.lines

not_over : (ls ms : List Lexeme) (at n : ℕ) (ds es : List Line) → AreLines ls 3 at ds → at < length ls → Agree n ls ms → class_at ms n ≡ class_at ls n → LineStops ls AtStart at n → IsSignature ms es → ⊥
not_over ls ms at n ds es t l a e s g = go (rest_of ls ms at n ds es t (stops_up ls AtStart at n s) a g)
  where
    none : (m : ℕ) → at ≡ m → length ms ≡ m → ⊥
    none m p q = at_all (compared at n)
      where
        at_all : Compared at n → ⊥
        at_all (less k) = let u = a.long in omega (arith, u, k, p, q)
        at_all (same k) = class_there ls n (omega (arith, l, k)) (sym e ∙ past_end ms n (omega (arith, p, q, k)))
        at_all (more k) = let z = stops_up ls AtStart at n s in omega (arith, z, k)

    some : (m : ℕ) (rest : List Line) → length ms ≡ m → AreLines ms at m rest → ⊥
    some m rest q (no_line _) = none at refl q
    some m rest q (one_line _ k _ d ds' h f r) = no_line_there ls ms AtStart at n k a e s (line_runs_of ms at k d h)

    go : (rest : List Line) × AreLines ms at (length ms) rest → ⊥
    go r = some (length ms) r.0 refl r.1

pub line_fault : (spot : ℕ → Spot) (ls : List Lexeme) (at : ℕ) (ds : List Line) (f : SyntaxFault) → IsHeader ls keyword.Sig → AreLines ls 3 at ds → at < length ls → IsShared ls at → StopsIn spot ls AtStart at f → SignatureFault spot ls f
line_fault spot ls at ds f h t l y s =
    let n = s.number in
    let u = stops_up ls AtStart at n s.there in
    record {
      number = n;
      high = s.there.high;
      viable = viable_there ls at n ds h t y s.there;
      first = λ m b. not_over ls b.text at n ds b.lines t l (agree_less n (suc n) ls b.text (omega arith) b.agrees) (class_same (suc n) n ls b.text b.agrees (omega arith)) s.there b.signature;
      none = λ es g. not_over ls ls at n ds es t l (agree_self n ls s.there.high) refl s.there g;
      kind = s.kind ∙ ap (λ bs. refused spot n (innermost bs) (class_at ls n)) (sym (all_closed ls at n ds h t u));
    }

-- a declaration that no signature has
no_local : (ls ms : List Lexeme) (at : ℕ) (ds es : List Line) (k : Keyword) → AreLines ls 3 at ds → Agree at ls ms → at < length ms → class_at ms at ≡ class.Keyword k → is_local_word k ≡ true → IsSignature ms es → ⊥
no_local ls ms at ds es k t a l e y g = go (rest_of ls ms at at ds es t (omega arith) a g)
  where
    same_word : {k m : Keyword} → class.Keyword k ≡ class.Keyword m → k ≡ m
    same_word e = cc

    some : (m : ℕ) (rest : List Line) → length ms ≡ m → AreLines ms at m rest → ⊥
    some m rest q (no_line _) = omega (arith, q, l)
    some m rest q (one_line _ j _ d ds' h f r) = let z : true ≡ false = sym y ∙ ap is_local_word (same_word (sym e ∙ h.there)) ∙ sym (local_by_word ms h.word (at + 1) j d h.body) ∙ f in cc

    go : (rest : List Line) × AreLines ms at (length ms) rest → ⊥
    go r = some (length ms) r.0 refl r.1

pub local_fault : (spot : ℕ → Spot) (ls : List Lexeme) (at : ℕ) (ds : List Line) (f : SyntaxFault) (k : Keyword) → IsHeader ls keyword.Sig → AreLines
    ls 3 at ds → at < length ls → class_at ls at ≡ class.Keyword k → is_local_word k ≡ true → f ≡ refused spot at None (class_at ls at) →
    SignatureFault spot ls f
local_fault spot ls at ds f k h t l e y z = record {
  number = at;
  high = omega (arith, l);
  viable = ends_here ls at ds h t (omega (arith, l));
  first = λ m b. let u = b.agrees.long in no_local ls b.text at ds b.lines k t (agree_less at (suc at) ls b.text (omega arith) b.agrees) (omega (arith, u)) (class_same (suc at) at ls b.text b.agrees (omega arith) ∙ e) y b.signature;
  none = λ es g. no_local ls ls at ds es k t (agree_self at ls (omega (arith, l))) l e y g;
  kind = z ∙ refused_there spot at None (innermost (open_brackets ls 0 at)) (class_at ls at) (class_there ls at l);
}

-- headers
header_begins : (ls text : List Lexeme) (n : ℕ) → Agree n ls text → LineRuns text (AtHeader keyword.Sig) 0 AtEnd (length text) → SignatureBegins ls n
header_begins ls text n a d =
    let s = header_sound text keyword.Sig (length text) d in
    record { text = text; agrees = a; lines = []; signature = record { header = s.0; lines = subst (λ k. AreLines text 3 k []) (sym s.1) (no_line 3) } }

from_nothing : (ls : List Lexeme) → SignatureBegins ls 0
from_nothing ls =
    let g = going_on 0 ls (word_token (codes "sig") ∷ lower_token ∷ dot_token ∷ []) (omega arith) in
    let e = g.long in
    header_begins ls g.text 0 g.agrees
    (goes (AtHeader keyword.Sig) AtWord AtEnd 0 1 (length g.text) (header keyword.Sig (class_stands g.text 0 (word_token (codes "sig")) g.stand.0 ∙ is_sig_token)) refl
    (to_end g.text AtWord 1 (length g.text) tt g.stand.1 (omega (arith, e))))

later : (ls : List Lexeme) (n : ℕ) (r : LineState) → n ≤ length ls → CanEnd r → LineRuns ls (AtHeader keyword.Sig) 0 r n → SignatureBegins ls n
later ls n r l c d =
    let g = going_on n ls (line_ends r) l in
    header_begins ls g.text n g.agrees (line_on g.text (AtHeader keyword.Sig) r AtEnd 0 n (length g.text) (line_same n ls g.text g.agrees (AtHeader keyword.Sig) r 0 n (omega arith) d) (to_end g.text r n (length g.text) c g.stand g.long))

-- behind the first token of a header
pub in_header : (ls : List Lexeme) (s r : LineState) (i j : ℕ) → LineRuns ls s i r j → s ≡ AtWord → CanEnd r
in_header ls s r i j (stays _ _) e = subst CanEnd (sym e) tt
in_header ls s r i j (goes _ q _ _ k _ h p d) e = go (subst (λ z. LineStep (class_at ls i) z q) e h) d
  where
    last : (s r : LineState) (i j : ℕ) → LineRuns ls s i r j → s ≡ AtEnd → CanEnd r
    last s r i j (stays _ _) e = subst CanEnd (sym e) tt
    last s r i j (goes _ q _ _ k _ h p d) e = elim (subst (λ z. LineStep (class_at ls i) z q) e h) [ ]

    dot : (s r : LineState) (i j : ℕ) → LineRuns ls s i r j → s ≡ AtHeaderDot → CanEnd r
    dot s r i j (stays _ _) e = subst CanEnd (sym e) tt
    dot s r i j (goes _ q _ _ k _ h p d) e = step q (subst (λ z. LineStep (class_at ls i) z q) e h) d
      where
        step : (q : LineState) → LineStep (class_at ls i) AtHeaderDot q → LineRuns ls q k r j → CanEnd r
        step q (header_dot _) d = last AtEnd r k j d refl

    go : {q : LineState} → LineStep (class_at ls i) AtWord q → LineRuns ls q k r j → CanEnd r
    go (header_word _) d = dot AtHeaderDot r k j d refl

viable_from : (ls : List Lexeme) (r : LineState) (n : ℕ) → n ≤ length ls → LineRuns ls (AtHeader keyword.Sig) 0 r n → SignatureBegins ls n
viable_from ls r n l (stays _ _) = from_nothing ls
viable_from ls r n l (goes _ q _ _ k _ h p d) = first q h d (goes (AtHeader keyword.Sig) q r 0 k n h p d)
  where
    first : (q : LineState) → LineStep (class_at ls 0) (AtHeader keyword.Sig) q → LineRuns ls q k r n → LineRuns ls (AtHeader keyword.Sig) 0 r n → SignatureBegins ls n
    first q (header _ _) d e = later ls n r l (in_header ls AtWord r k n d refl) e

header_viable : (ls : List Lexeme) (n : ℕ) → LineStops ls (AtHeader keyword.Sig) 0 n → SignatureBegins ls n
header_viable ls n s = viable_from ls s.state n s.high s.runs

not_headed : (ls ms : List Lexeme) (n : ℕ) (es : List Line) → Agree n ls ms → class_at ms n ≡ class_at ls n → LineStops ls (AtHeader keyword.Sig) 0 n → IsSignature ms es → ⊥
not_headed ls ms n es a e s g = no_line_there ls ms (AtHeader keyword.Sig) 0 n 3 a e s (header_runs ms keyword.Sig g.header)

pub header_fault : (spot : ℕ → Spot) (ls : List Lexeme) (f : SyntaxFault) → StopsIn spot ls (AtHeader keyword.Sig) 0 f → SignatureFault spot ls f
header_fault spot ls f s =
    let n = s.number in
    record {
      number = n;
      high = s.there.high;
      viable = header_viable ls n s.there;
      first = λ m b. not_headed ls b.text n b.lines (agree_less n (suc n) ls b.text (omega arith) b.agrees) (class_same (suc n) n ls b.text b.agrees (omega arith)) s.there b.signature;
      none = λ es g. not_headed ls ls n es (agree_self n ls s.there.high) refl s.there g;
      kind = s.kind;
    }
