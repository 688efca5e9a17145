-- What the code that reads signatures gives.
use Rattle.std.proofs.Common.{◌≡◌, ◌≢◌, ℕ, ◌+◌, ◌<◌, ◌≤◌, ◌⊎◌, inl, inr, true, false, List, [], ◌∷◌, ◌++◌, length, refl, sym, ap, ◌∙◌, subst, arith}
use Rattle.std.proofs.lemmas.List.Elements.{All-nil, All-push, All-head, All-tail}
use Rattle.std.specs.Prelude.{All, None, Result, Ok, Err, IfOk, IfErr}
use Rattle.lp_syntax.proofs.Referring.{agree_self}
use Rattle.lp_syntax.proofs.LineStops.{same_keyword}
use Rattle.lp_base.specs.declared.place.Spot.{Spot}
use Rattle.lp_base.specs.declared.limit.Limit.TheVariants.{Nesting}
use Rattle.lp_syntax.specs.declared.class.Keyword.{Keyword}
use Rattle.lp_syntax.specs.declared.class.Keyword.TheVariants as keyword
use Rattle.lp_syntax.specs.declared.class.Class.{Class}
use Rattle.lp_syntax.specs.declared.class.Class.TheVariants as class
use Rattle.lp_syntax.specs.declared.fault.SyntaxFault.{SyntaxFault}
use Rattle.lp_syntax.specs.declared.fault.SyntaxFault.TheVariants as fault
use Rattle.lp_syntax.specs.declared.text.Declaration.{Declaration}
use Rattle.lp_syntax.specs.declared.text.SignatureText.{SignatureText}
use Rattle.lp_syntax.specs.Faults.{refused}
use Rattle.lp_syntax.specs.Tokens.{Lexeme, class_at}
use Rattle.lp_syntax.specs.Terms.{MemoryOr}
use Rattle.lp_syntax.specs.Declarations.{is_word, Line, IsBody, IsShown, IsDeclared, line_depth, LineFits}
use Rattle.lp_syntax.specs.LineMachine.{LineState, AtHeader, AtWord, AtHeaderDot, AtStart, LineStep, header, header_word, header_dot, LineRuns, stays, StopsIn, IsTooDeep}
use Rattle.lp_syntax.specs.Signatures.{IsHeader, is_local, is_local_word, IsLine, AreLines, no_line, one_line, IsSignature, IsSignatureRefusal, IsLineRefusal, IsDeepLine, IsLocalThere, IsShared, IsLineText, LinesRead, AreShown, IsSignatureText, IsGivenLines, HasDeepLine}
use Rattle.lp_syntax.proofs.Tokens.{past_end}
use Rattle.lp_syntax.proofs.Lines.{one_step, line_on}
use Rattle.lp_syntax.proofs.LineCode.{stops_here, memory_or}
use Rattle.lp_syntax.proofs.LineParts.{start_refused}
use Rattle.lp_syntax.proofs.SignatureFaults.{local_by_word, lines_on, no_line_there, line_runs_of, header_runs}
use Rattle.lp_syntax.proofs.LineUnique.{one_signature, same_line}
use Rattle.lp_syntax.proofs.SignatureTexts.{line_fault, local_fault, header_fault}

-- lines from one token on are the same as far as both go
lines_meet : (ls : List Lexeme) (i j k m : ℕ) (ds es : List Line) (l : Line) → AreLines ls i j ds → AreLines ls i k es → IsLine ls k m l → is_local l ≡ false → ((n : ℕ) (d : Line) → IsLine ls j n d → is_local d ≡ false → ⊥) → All LineFits ds → LineFits l
lines_meet ls i j k m ds es l (no_line _) (no_line _) h s n f = absurd (n m l h s)
lines_meet ls i j k m ds es l (no_line _) (one_line _ q _ d rest g t r) h s n f = absurd (n q d g t)
lines_meet ls i j k m ds es l (one_line _ q _ d rest g t r) (no_line _) h s n f = let z = same_line ls i q m d l g h in subst LineFits z.line (All-head LineFits d rest f)
lines_meet ls i j k m ds es l (one_line _ q _ d rest g t r) (one_line _ p _ e more w u v) h s n f = let z = same_line ls i q p d e g w in lines_meet ls q j k m rest more l r (subst (λ x. AreLines ls x k more) (sym z.ends) v) h s n (All-tail LineFits d rest f)

none_deep : (ls : List Lexeme) (i : ℕ) (ds : List Line) → AreLines ls 3 i ds → All LineFits ds → ((n : ℕ) (d : Line) → IsLine ls i n d → is_local d ≡ false → ⊥) → HasDeepLine ls → ⊥
none_deep ls i ds r f n d = let z = lines_meet ls 3 i d.from d.to ds d.before d.line r d.lines d.is d.shared n f in let y = d.deep in omega (arith, z, y)

no_line_from : (spot : ℕ → Spot) (ls : List Lexeme) (i : ℕ) (f : SyntaxFault) → StopsIn spot ls AtStart i f → (n : ℕ) (d : Line) → IsLine ls i n d → is_local d ≡ false → ⊥
no_line_from spot ls i f s n d h t = no_line_there ls ls AtStart i s.number n (agree_self s.number ls s.there.high) refl s.there (line_runs_of ls i n d h)

not_headed_there : (spot : ℕ → Spot) (ls : List Lexeme) (f : SyntaxFault) → StopsIn spot ls (AtHeader keyword.Sig) 0 f → IsHeader ls keyword.Sig → ⊥
not_headed_there spot ls f s h = no_line_there ls ls (AtHeader keyword.Sig) 0 s.number 3 (agree_self s.number ls s.there.high) refl s.there (header_runs ls keyword.Sig h)

-- a line that is too deep is one of the signature
deep_among : (ls : List Lexeme) (ds : List Line) → IsSignature ls ds → HasDeepLine ls → All LineFits ds → ⊥
deep_among ls ds k d f = none_deep ls (length ls) ds k.lines f (λ n e h s. let z = sym h.there ∙ past_end ls (length ls) (omega arith) in cc) d

-- headers
pub title_stops : (spot : ℕ → Spot) (ls : List Lexeme) (k : Keyword) (f : SyntaxFault) → class_at ls 0 ≢ class.Keyword k → f ≡ refused spot 0 None (class_at ls 0) → StopsIn spot ls (AtHeader k) 0 f
title_stops spot ls k f n h = stops_here spot ls (AtHeader k) (AtHeader k) 0 0 f (stays (AtHeader k) 0) refl refl tt (no_title (class_at ls 0) n) (omega arith) h
  where
    no_title : (c : Class) → c ≢ class.Keyword k → (q : LineState) → LineStep c (AtHeader k) q → ⊥
    no_title c n q (header _ e) = n e

no_word : (c : Class) → is_word c ≡ false → (q : LineState) → LineStep c AtWord q → ⊥
no_word c h q (header_word e) = let z : false ≡ true = sym h ∙ e in cc

no_header_dot : (c : Class) → c ≢ class.Dot → (q : LineState) → LineStep c AtHeaderDot q → ⊥
no_header_dot c h q (header_dot e) = h e

at_word : (ls : List Lexeme) (k : Keyword) → class_at ls 0 ≡ class.Keyword k → LineRuns ls (AtHeader k) 0 AtWord 1
at_word ls k e = one_step ls (AtHeader k) AtWord 0 1 (header k e) refl

pub word_stops : (spot : ℕ → Spot) (ls : List Lexeme) (k : Keyword) (f : SyntaxFault) → class_at ls 0 ≡ class.Keyword k → is_word (class_at ls 1) ≡ false → 1 ≤ length ls → f ≡ refused spot 1 None (class_at ls 1) → StopsIn spot ls (AtHeader k) 0 f
word_stops spot ls k f e w l h = stops_here spot ls (AtHeader k) AtWord 0 1 f (at_word ls k e) refl refl tt (no_word (class_at ls 1) w) l h

pub header_dot_stops : (spot : ℕ → Spot) (ls : List Lexeme) (k : Keyword) (f : SyntaxFault) → class_at ls 0 ≡ class.Keyword k → is_word (class_at ls 1) ≡ true → class_at ls 2 ≢ class.Dot → 2 ≤ length ls → f ≡ refused spot 2 None (class_at ls 2) → StopsIn spot ls (AtHeader k) 0 f
header_dot_stops spot ls k f e w d l h = stops_here spot ls (AtHeader k) AtHeaderDot 0 2 f (line_on ls (AtHeader k) AtWord AtHeaderDot 0 1 2 (at_word ls k e) (one_step ls AtWord AtHeaderDot 1 2 (header_word w) refl)) refl refl tt (no_header_dot (class_at ls 2) d) l h

-- lines
pub line_given : (spot : ℕ → Spot) (ls : List Lexeme) (i j : ℕ) (k : Keyword) (d : Declaration) → class_at ls i ≡ class.Keyword k → is_local_word k ≡ false → IsDeclared spot ls k (i + 1) j d → IsLineText spot ls i j d
line_given spot ls i j k d e s h = record { line = h.line; is = record { word = k; there = e; body = h.body }; shared = local_by_word ls k (i + 1) j h.line h.body ∙ s; shown = h.shown; fits = h.fits }

no_local_line : (ls : List Lexeme) (i : ℕ) (k : Keyword) → class_at ls i ≡ class.Keyword k → is_local_word k ≡ true → (n : ℕ) (d : Line) → IsLine ls i n d → is_local d ≡ false → ⊥
no_local_line ls i k e y n d h s = let z : true ≡ false = sym y ∙ ap is_local_word (same_keyword (sym e ∙ h.there)) ∙ sym (local_by_word ls h.word (i + 1) n d h.body) ∙ s in cc

shared_by : (ls : List Lexeme) (i : ℕ) (k : Keyword) → class_at ls i ≡ class.Keyword k → is_local_word k ≡ false → IsShared ls i
shared_by ls i k e s = λ m f. ap is_local_word (same_keyword (sym f ∙ e)) ∙ s

pub line_refused : {T : Type 0} (spot : ℕ → Spot) (ls : List Lexeme) (i : ℕ) (k : Keyword) (r : Result T SyntaxFault) → class_at ls i ≡ class.Keyword k → is_local_word k ≡ false → IfErr r (λ f. MemoryOr f (IsTooDeep ls k (i + 1) f ⊎ StopsIn spot ls AtStart i f)) → IfErr r (IsLineRefusal spot ls i)
line_refused spot ls i k (Ok x) e s h = tt
line_refused spot ls i k (Err f) e s h = memory_or f go h
  where
    deep : (j : ℕ) (l : Line) → f ≡ fault.Limit Nesting → IsBody ls k (i + 1) j l → 255 < line_depth l → IsDeepLine ls i f
    deep j l m b t = (m, (j, l, record { word = k; there = e; body = b }, local_by_word ls k (i + 1) j l b ∙ s, t))

    go : IsTooDeep ls k (i + 1) f ⊎ StopsIn spot ls AtStart i f → IsDeepLine ls i f ⊎ ((IsShared ls i × StopsIn spot ls AtStart i f) ⊎ IsLocalThere spot ls i f)
    go (inl d) = inl (deep d.1.0 d.1.1 d.0 d.1.2 d.1.3)
    go (inr s') = inr (inl (shared_by ls i k e s, s'))

pub local_refused : (spot : ℕ → Spot) (ls : List Lexeme) (i : ℕ) (k : Keyword) (f : SyntaxFault) → class_at ls i ≡ class.Keyword k → is_local_word k ≡ true → f ≡ refused spot i None (class_at ls i) → IsLineRefusal spot ls i f
local_refused spot ls i k f e s h = inr (inr (inr (k, e, s, h)))

pub other_refused : (spot : ℕ → Spot) (ls : List Lexeme) (i : ℕ) (f : SyntaxFault) → ((k : Keyword) → class_at ls i ≡ class.Keyword k → ⊥) → i ≤ length ls → f ≡ refused spot i None (class_at ls i) → IsLineRefusal spot ls i f
other_refused spot ls i f n l h = inr (inr (inl ((λ k e. absurd (n k e)), start_refused spot ls i f n l h)))

-- whole texts
pub none_read : (spot : ℕ → Spot) (ls : List Lexeme) (i : ℕ) (ds : List Declaration) → i ≡ 3 → ds ≡ [] → LinesRead spot ls i ds
none_read spot ls i ds e n = record { before = []; lines = subst (λ k. AreLines ls 3 k []) (sym e) (no_line 3); shown = subst (λ l. AreShown spot l []) (sym n) tt; fit = All-nil LineFits }

shown_more : (spot : ℕ → Spot) (ds : List Declaration) (d : Declaration) (ls : List Line) (l : Line) → AreShown spot ds ls → IsShown spot d l → AreShown spot (ds ++ d ∷ []) (ls ++ l ∷ [])
shown_more spot [] d [] l a h = (h, tt)
shown_more spot [] d (x ∷ ls) l a h = absurd a
shown_more spot (c ∷ ds) d [] l a h = absurd a
shown_more spot (c ∷ ds) d (x ∷ ls) l a h = (a.0, shown_more spot ds d ls l a.1 h)

pub one_more_read : (spot : ℕ → Spot) (ls : List Lexeme) (i j : ℕ) (ds es : List Declaration) (d : Declaration) → LinesRead spot ls i ds → IsLineText spot ls i j d → es ≡ ds ++ d ∷ [] → LinesRead spot ls j es
one_more_read spot ls i j ds es d r t e = record {
  before = r.before ++ t.line ∷ [];
  lines = lines_on ls 3 i j r.before (t.line ∷ []) r.lines (one_line i j j t.line [] t.is t.shared (no_line j));
  shown = subst (λ l. AreShown spot l (r.before ++ t.line ∷ [])) (sym e) (shown_more spot ds d r.before t.line r.shown t.shown);
  fit = All-push LineFits r.before t.line r.fit t.fits;
}

pub refused_line : (spot : ℕ → Spot) (ls : List Lexeme) (i : ℕ) (ds : List Declaration) (f : SyntaxFault) → IsHeader ls keyword.Sig → LinesRead spot ls i ds → i < length ls → IsLineRefusal spot ls i f → IsSignatureRefusal spot ls f
refused_line spot ls i ds f h r l (inl m) = inl m
refused_line spot ls i ds f h r l (inr (inl d)) = inr (inl (d.0, record { from = i; to = d.1.0; header = h; before = r.before; lines = r.lines; line = d.1.1; is = d.1.2; shared = d.1.3; deep = d.1.4 }))
refused_line spot ls i ds f h r l (inr (inr (inl s))) = inr (inr (line_fault spot ls i r.before f h r.lines l s.0 s.1, none_deep ls i r.before r.lines r.fit (no_line_from spot ls i f s.1)))
refused_line spot ls i ds f h r l (inr (inr (inr s))) = inr (inr (local_fault spot ls i r.before f s.0 h r.lines l s.1 s.2 s.3, none_deep ls i r.before r.lines r.fit (no_local_line ls i s.0 s.1 s.2)))

pub refused_header : (spot : ℕ → Spot) (ls : List Lexeme) (f : SyntaxFault) → StopsIn spot ls (AtHeader keyword.Sig) 0 f → IsSignatureRefusal spot ls f
refused_header spot ls f s = inr (inr (header_fault spot ls f s, λ d. not_headed_there spot ls f s d.header))

pub whole_signature : (spot : ℕ → Spot) (ls : List Lexeme) (i : ℕ) (ds : List Declaration) → IsHeader ls keyword.Sig → (r : LinesRead spot ls i ds) → i ≡ length ls → IsSignature ls r.before
whole_signature spot ls i ds h r e = record { header = h; lines = subst (λ k. AreLines ls 3 k r.before) e r.lines }

pub line_told : (spot : ℕ → Spot) (ls : List Lexeme) (i : ℕ) (k : Keyword) (r : Result (Declaration × ℕ) SyntaxFault) → class_at ls i ≡ class.Keyword k → is_local_word k ≡ false → IfOk r (λ x. IsDeclared spot ls k (i + 1) x.1 x.0) → IfOk r (λ x. IsLineText spot ls i x.1 x.0)
line_told spot ls i k (Ok x) e s h = line_given spot ls i x.1 k x.0 e s h
line_told spot ls i k (Err f) e s h = tt

-- where there are lines they are given
pub signature_given : (spot : ℕ → Spot) (ls : List Lexeme) (r : Result SignatureText SyntaxFault) → IfOk r (IsSignatureText spot ls) → IfErr r (IsSignatureRefusal spot ls) → (ds : List Line) → IsSignature ls ds → IsGivenLines spot ls ds r
signature_given spot ls (Ok t) d e ds k = let z = one_signature ls d.lines ds d.is k in (subst (AreShown spot t.lines.items) z d.shown, subst (All LineFits) z d.fit)
signature_given spot ls (Err f) d e ds k = go e
  where
    go : IsSignatureRefusal spot ls f → (f ≡ fault.Memory) ⊎ ((f ≡ fault.Limit Nesting) × (All LineFits ds → ⊥))
    go (inl m) = inl m
    go (inr (inl l)) = inr (l.0, deep_among ls ds k l.1)
    go (inr (inr z)) = absurd (z.0.none ds k)
