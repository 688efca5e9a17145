-- Where a part of a declaration stops, the declaration does.
use Rattle.std.proofs.Common.{◌≡◌, ◌≢◌, ℕ, ◌+◌, ◌<◌, ◌≤◌, ◌⊎◌, inl, inr, true, false, List, length, refl, sym, ap, ◌∙◌, subst, arith}
use Rattle.std.specs.Prelude.{None, ℤ, Result, Ok, Err, IfErr}
use Rattle.lp_base.specs.declared.place.Spot.{Spot}
use Rattle.lp_standard.specs.declared.fixity.Fixity.{Fixity}
use Rattle.lp_syntax.specs.declared.class.Keyword.{Keyword}
use Rattle.lp_syntax.specs.declared.class.Keyword.TheVariants as keyword
use Rattle.lp_syntax.specs.declared.class.Class.{Class}
use Rattle.lp_syntax.specs.declared.class.Class.TheVariants as class
use Rattle.lp_syntax.specs.declared.fault.SyntaxFault.{SyntaxFault}
use Rattle.lp_syntax.specs.Faults.{refused}
use Rattle.lp_syntax.specs.Tokens.{Lexeme, class_at}
use Rattle.lp_syntax.specs.TypeMachine.{TypeState, Goes, Ends, type_step}
use Rattle.lp_syntax.specs.Terms.{MemoryOr}
use Rattle.lp_syntax.specs.TypeViews.{ComesTo}
use Rattle.lp_syntax.specs.Declarations.{AreNames, IsKindText, IsHeadAt, HasNumber}
use Rattle.lp_syntax.specs.LineMachine.{LineState, AtStart, AtName, BehindName, AtKind, BehindKind, AtHead, InType, AtDot, lists, lists_words, takes_kind, takes_type, may_end, no_type, LineStep, start_list, start_head, comma, list_kind, list_type, list_number, list_dot, arrow, kind, kind_dot, in_type, type_dot, full_stop, LineRuns, stays, goes, IsUnfinished, LineStops, StopsIn, IsTooDeep}
use Rattle.lp_syntax.proofs.OpenBrackets.{ends_none}
use Rattle.lp_syntax.proofs.Lines.{line_on, one_step, line_up, names_run, kind_runs, head_runs, type_line, no_end, alike_runs}
use Rattle.lp_syntax.proofs.LineOpen.{stops_behind}
use Rattle.lp_syntax.proofs.LineCode.{stops_here, memory_or}

-- two states that do the same at this token
record Alike (c : Class) (s e : LineState) : Type 0 where
  pub to : (r : LineState) → LineStep c s r → LineStep c e r
  pub back : (r : LineState) → LineStep c e r → LineStep c s r
  pub unfinished : IsUnfinished e

alike_stops : (ls : List Lexeme) (s e : LineState) (i n : ℕ) → Alike (class_at ls i) s e → LineStops ls s i n → LineStops ls e i n
alike_stops ls s e i n a h = go h.state h.runs h.stops h.unfinished
  where
    go : (q : LineState) → LineRuns ls s i q n → ((r : LineState) → LineStep (class_at ls n) q r → ⊥) → IsUnfinished q → LineStops ls e i n
    go q d f u = by_run s q i n d a f u h.high
      where
        by_run : (s q : LineState) (i n : ℕ) → LineRuns ls s i q n → Alike (class_at ls i) s e → ((r : LineState) → LineStep (class_at ls n) q r → ⊥) → IsUnfinished q → n ≤ length ls → LineStops ls e i n
        by_run s q i n (stays _ _) a f u l = record { state = e; runs = stays e i; unfinished = a.unfinished; stops = λ r k. f r (a.back r k); high = l }
        by_run s q i n (goes _ p _ _ m _ k o d) a f u l = record { state = q; runs = goes e p q i m n (a.to p k) o d; unfinished = u; stops = f; high = l }

alike_in : (spot : ℕ → Spot) (ls : List Lexeme) (s e : LineState) (i : ℕ) (f : SyntaxFault) → Alike (class_at ls i) s e → StopsIn spot ls s i f → StopsIn spot ls e i f
alike_in spot ls s e i f a h = record { number = h.number; there = alike_stops ls s e i h.number a h.there; kind = h.kind }

-- what may stand behind a list
abbrev pub IsNoEnd : Keyword → Class → Type 0
IsNoEnd k c = may_end k ≡ true → c ≢ class.Dot

like_kind : (c : Class) (k : Keyword) → takes_kind k ≡ true → c ≢ class.Comma → IsNoEnd k c → Alike c AtKind (BehindName k)
like_kind c k y n d = record { to = to; back = λ r h. back k r y d h; unfinished = tt }
  where
    to : (r : LineState) → LineStep c AtKind r → LineStep c (BehindName k) r
    to r (kind e) = list_kind k y e

    typed : (k : Keyword) → takes_kind k ≡ true → takes_type k ≡ true → ⊥
    typed keyword.Kind a b = cc
    typed keyword.Localkind a b = cc
    typed keyword.Sig a b = cc
    typed keyword.Module a b = cc
    typed keyword.Type a b = cc
    typed keyword.Typeabbrev a b = cc
    typed keyword.Local a b = cc
    typed keyword.Accumulate a b = cc
    typed keyword.AccumSig a b = cc
    typed (keyword.Fixity f) a b = cc

    back : (k : Keyword) (r : LineState) → takes_kind k ≡ true → IsNoEnd k c → LineStep c (BehindName k) r → LineStep c AtKind r
    back k r y d (comma _ e) = absurd (n e)
    back k r y d (list_kind _ t e) = kind e
    back k r y d (list_type _ q t e) = absurd (typed k y t)
    back _ r y d (list_number f m e) = absurd (let z : false ≡ true = y in cc)
    back k r y d (list_dot _ t e) = absurd (d t e)

like_type : (c : Class) (k : Keyword) → takes_type k ≡ true → c ≢ class.Comma → IsNoEnd k c → Alike c (InType no_type) (BehindName k)
like_type c k y n d = record { to = to; back = λ r h. back k r y d h; unfinished = tt }
  where
    to : (r : LineState) → LineStep c (InType no_type) r → LineStep c (BehindName k) r
    to r (in_type _ q e) = list_type k q y e
    to r (type_dot _ e z) = absurd (no_end c e)

    kinded : (k : Keyword) → takes_type k ≡ true → takes_kind k ≡ true → ⊥
    kinded keyword.Kind a b = cc
    kinded keyword.Localkind a b = cc
    kinded keyword.Sig a b = cc
    kinded keyword.Module a b = cc
    kinded keyword.Type a b = cc
    kinded keyword.Typeabbrev a b = cc
    kinded keyword.Local a b = cc
    kinded keyword.Accumulate a b = cc
    kinded keyword.AccumSig a b = cc
    kinded (keyword.Fixity f) a b = cc

    back : (k : Keyword) (r : LineState) → takes_type k ≡ true → IsNoEnd k c → LineStep c (BehindName k) r → LineStep c (InType no_type) r
    back k r y d (comma _ e) = absurd (n e)
    back k r y d (list_kind _ t e) = absurd (kinded k y t)
    back k r y d (list_type _ q t e) = in_type no_type q e
    back _ r y d (list_number f m e) = absurd (let z : false ≡ true = y in cc)
    back k r y d (list_dot _ t e) = absurd (d t e)

-- a kind behind names
pub kind_refused : (spot : ℕ → Spot) (ls : List Lexeme) (k : Keyword) (i j : ℕ) (ns : List ℕ) (f : SyntaxFault) → takes_kind k ≡ true → AreNames ls (lists_words k) i j ns → class_at ls j ≢ class.Comma → IsNoEnd k (class_at ls j) → StopsIn spot ls AtKind j f → StopsIn spot ls (AtName k) i f
kind_refused spot ls k i j ns f y a n d s = stops_behind spot ls (AtName k) (BehindName k) i j f (names_run ls k i j ns a) refl refl (alike_in spot ls AtKind (BehindName k) j f (like_kind (class_at ls j) k y n d) s)

no_kind_dot : (c : Class) → c ≢ class.Arrow → c ≢ class.Dot → (q : LineState) → LineStep c BehindKind q → ⊥
no_kind_dot c a b q (arrow e) = a e
no_kind_dot c a b q (kind_dot e) = b e

kind_behind : (ls : List Lexeme) (k : Keyword) (i j m n : ℕ) (ns : List ℕ) → takes_kind k ≡ true → AreNames ls (lists_words k) i j ns → IsKindText ls j m n → LineRuns ls (AtName k) i BehindKind m
kind_behind ls k i j m n ns y a d =
    let r = kind_runs ls j m n d in
    line_on ls (AtName k) (BehindName k) BehindKind i j m (names_run ls k i j ns a) (alike_runs ls AtKind (BehindName k) BehindKind j m to (longer AtKind BehindKind j m r (λ e. let z : AtKind ≡ BehindKind = e in cc)) r)
  where
    to : (r : LineState) → LineStep (class_at ls j) AtKind r → LineStep (class_at ls j) (BehindName k) r
    to r (kind e) = list_kind k y e

    longer : (s r : LineState) (i j : ℕ) → LineRuns ls s i r j → (s ≡ r → ⊥) → i < j
    longer s r i j (stays _ _) n = absurd (n refl)
    longer s r i j (goes _ q _ _ k _ h p e) n = let u = line_up ls q r k j e in omega (arith, u, p)

pub kind_dot_refused : (spot : ℕ → Spot) (ls : List Lexeme) (k : Keyword) (i j m n : ℕ) (ns : List ℕ) (f : SyntaxFault) → takes_kind k ≡ true →
    AreNames ls (lists_words k) i j ns → IsKindText ls j m n → class_at ls m ≢ class.Arrow → class_at ls m ≢ class.Dot → m ≤ length ls → f ≡ refused
    spot m None (class_at ls m) → StopsIn spot ls (AtName k) i f
kind_dot_refused spot ls k i j m n ns f y a d b c l h = stops_here spot ls (AtName k) BehindKind i m f (kind_behind ls k i j m n ns y a d) refl refl tt (no_kind_dot (class_at ls m) b c) l h

-- a type behind names, and behind a head
pub type_refused : (spot : ℕ → Spot) (ls : List Lexeme) (k : Keyword) (i j : ℕ) (ns : List ℕ) (f : SyntaxFault) → takes_type k ≡ true → AreNames ls (lists_words k) i j ns → class_at ls j ≢ class.Comma → IsNoEnd k (class_at ls j) → StopsIn spot ls (InType no_type) j f → StopsIn spot ls (AtName k) i f
type_refused spot ls k i j ns f y a n d s = stops_behind spot ls (AtName k) (BehindName k) i j f (names_run ls k i j ns a) refl refl (alike_in spot ls (InType no_type) (BehindName k) j f (like_type (class_at ls j) k y n d) s)

pub head_type_refused : (spot : ℕ → Spot) (ls : List Lexeme) (i j n : ℕ) (ns : List ℕ) (f : SyntaxFault) → IsHeadAt ls i j n ns → StopsIn spot ls (InType no_type) j f → StopsIn spot ls AtHead i f
head_type_refused spot ls i j n ns f a s = stops_behind spot ls AtHead (InType no_type) i j f (head_runs ls i j n ns a) refl refl s

no_type_dot : (c : Class) (s : TypeState) → type_step s c ≡ Ends → c ≢ class.Dot → (q : LineState) → LineStep c (InType s) q → ⊥
no_type_dot c s h d q (in_type _ r e) = let z : Goes r ≡ Ends = sym e ∙ h in cc
no_type_dot c s h d q (type_dot _ e z) = d z

-- a type that ends before another token than a full stop
pub type_ends_wrong : (spot : ℕ → Spot) (ls : List Lexeme) (j m : ℕ) (f : SyntaxFault) → ComesTo ls j m Ends → class_at ls m ≢ class.Dot → m ≤ length ls → f ≡ refused spot m None (class_at ls m) → StopsIn spot ls (InType no_type) j f
type_ends_wrong spot ls j m f c d l h = stops_here spot ls (InType no_type) (InType c.state) j m f (type_line ls no_type c.state j m c.runs) refl (ends_none c.state.need (class_at ls m) c.state.waits c.moves) tt (no_type_dot (class_at ls m) c.state c.moves d) l h

-- a list that ends a declaration
no_list_end : (c : Class) (k : Keyword) → lists_words k ≡ true → c ≢ class.Comma → c ≢ class.Dot → (q : LineState) → LineStep c (BehindName k) q → ⊥
no_list_end c k y n d q (comma _ e) = n e
no_list_end c keyword.Accumulate y n d q (list_kind _ t e) = cc
no_list_end c keyword.AccumSig y n d q (list_kind _ t e) = cc
no_list_end c keyword.Sig y n d q (list_kind _ t e) = cc
no_list_end c keyword.Module y n d q (list_kind _ t e) = cc
no_list_end c keyword.Kind y n d q (list_kind _ t e) = cc
no_list_end c keyword.Type y n d q (list_kind _ t e) = cc
no_list_end c keyword.Typeabbrev y n d q (list_kind _ t e) = cc
no_list_end c keyword.Local y n d q (list_kind _ t e) = cc
no_list_end c keyword.Localkind y n d q (list_kind _ t e) = cc
no_list_end c (keyword.Fixity f) y n d q (list_kind _ t e) = cc
no_list_end c keyword.Accumulate y n d q (list_type _ r t e) = cc
no_list_end c keyword.AccumSig y n d q (list_type _ r t e) = cc
no_list_end c keyword.Sig y n d q (list_type _ r t e) = cc
no_list_end c keyword.Module y n d q (list_type _ r t e) = cc
no_list_end c keyword.Kind y n d q (list_type _ r t e) = cc
no_list_end c keyword.Type y n d q (list_type _ r t e) = cc
no_list_end c keyword.Typeabbrev y n d q (list_type _ r t e) = cc
no_list_end c keyword.Local y n d q (list_type _ r t e) = cc
no_list_end c keyword.Localkind y n d q (list_type _ r t e) = cc
no_list_end c (keyword.Fixity f) y n d q (list_type _ r t e) = cc
no_list_end c _ y n d q (list_number f m e) = cc
no_list_end c k y n d q (list_dot _ t e) = d e

pub list_dot_refused : (spot : ℕ → Spot) (ls : List Lexeme) (k : Keyword) (i j : ℕ) (ns : List ℕ) (f : SyntaxFault) → lists_words k ≡ true → AreNames
    ls true i j ns → class_at ls j ≢ class.Comma → class_at ls j ≢ class.Dot → j ≤ length ls → f ≡ refused spot j None (class_at ls j) → StopsIn spot
    ls (AtName k) i f
list_dot_refused spot ls k i j ns f y a n d l h = stops_here spot ls (AtName k) (BehindName k) i j f (names_run ls k i j ns (subst (λ w. AreNames ls w i j ns) (sym y) a)) refl refl tt (no_list_end (class_at ls j) k y n d) l h

-- fixities
no_number : (c : Class) (f : Fixity) → c ≢ class.Comma → ((n : ℤ) → c ≢ class.Number n) → (q : LineState) → LineStep c (BehindName (keyword.Fixity f)) q → ⊥
no_number c f n d q (comma _ e) = n e
no_number c f n d q (list_kind _ t e) = cc
no_number c f n d q (list_type _ r t e) = cc
no_number c f n d q (list_number _ m e) = d m e
no_number c f n d q (list_dot _ t e) = cc

pub number_refused : (spot : ℕ → Spot) (ls : List Lexeme) (g : Fixity) (i j : ℕ) (ns : List ℕ) (f : SyntaxFault) → AreNames ls false i j ns → class_at
    ls j ≢ class.Comma → ((n : ℤ) → class_at ls j ≢ class.Number n) → j ≤ length ls → f ≡ refused spot j None (class_at ls j) → StopsIn spot ls
    (AtName (keyword.Fixity g)) i f
number_refused spot ls g i j ns f a n d l h = stops_here spot ls (AtName (keyword.Fixity g)) (BehindName (keyword.Fixity g)) i j f (names_run ls (keyword.Fixity g) i j ns a) refl refl tt (no_number (class_at ls j) g n d) l h

no_dot : (c : Class) → c ≢ class.Dot → (q : LineState) → LineStep c AtDot q → ⊥
no_dot c d q (full_stop e) = d e

pub number_dot_refused : (spot : ℕ → Spot) (ls : List Lexeme) (g : Fixity) (i j m n : ℕ) (ns : List ℕ) (f : SyntaxFault) → AreNames ls false i j ns →
    HasNumber ls j n → m ≡ j + 1 → class_at ls m ≢ class.Dot → m ≤ length ls → f ≡ refused spot m None (class_at ls m) → StopsIn spot ls
    (AtName (keyword.Fixity g)) i f
number_dot_refused spot ls g i j m n ns f a w e d l h = stops_here spot ls (AtName (keyword.Fixity g)) AtDot i m f
    (line_on ls (AtName (keyword.Fixity g)) (BehindName (keyword.Fixity g)) AtDot i j m (names_run ls (keyword.Fixity g) i j ns a)
    (one_step ls (BehindName (keyword.Fixity g)) AtDot j m (list_number g w.written w.there) e)) refl refl tt (no_dot (class_at ls m) d) l h

-- the keyword itself
no_sentence : (c : Class) (k : Keyword) → c ≡ class.Keyword k → lists k ≡ false → (k ≡ keyword.Typeabbrev → ⊥) → (q : LineState) → LineStep c AtStart q → ⊥
no_sentence c k e y n q (start_list m z f) = let g : class.Keyword k ≡ class.Keyword m = sym e ∙ f in let h : k ≡ m = same_word g in let x : false ≡ true = sym y ∙ ap lists h ∙ z in cc
  where
    same_word : {k m : Keyword} → class.Keyword k ≡ class.Keyword m → k ≡ m
    same_word e = cc
no_sentence c k e y n q (start_head f) = let g : class.Keyword k ≡ class.Keyword keyword.Typeabbrev = sym e ∙ f in n (same_word g)
  where
    same_word : {k m : Keyword} → class.Keyword k ≡ class.Keyword m → k ≡ m
    same_word e = cc

pub title_refused : (spot : ℕ → Spot) (ls : List Lexeme) (k : Keyword) (i : ℕ) (f : SyntaxFault) → class_at ls i ≡ class.Keyword k → lists k ≡ false → (k ≡ keyword.Typeabbrev → ⊥) → i ≤ length ls → f ≡ refused spot i None (class_at ls i) → StopsIn spot ls AtStart i f
title_refused spot ls k i f e y n l h = stops_here spot ls AtStart AtStart i i f (stays AtStart i) refl refl tt (no_sentence (class_at ls i) k e y n) l h

no_start : (c : Class) → ((k : Keyword) → c ≡ class.Keyword k → ⊥) → (q : LineState) → LineStep c AtStart q → ⊥
no_start c n q (start_list m z f) = n m f
no_start c n q (start_head f) = n keyword.Typeabbrev f

pub start_refused : (spot : ℕ → Spot) (ls : List Lexeme) (i : ℕ) (f : SyntaxFault) → ((k : Keyword) → class_at ls i ≡ class.Keyword k → ⊥) → i ≤ length ls → f ≡ refused spot i None (class_at ls i) → StopsIn spot ls AtStart i f
start_refused spot ls i f n l h = stops_here spot ls AtStart AtStart i i f (stays AtStart i) refl refl tt (no_start (class_at ls i) n) l h

-- behind the keyword
pub list_started : (spot : ℕ → Spot) (ls : List Lexeme) (k : Keyword) (i : ℕ) (f : SyntaxFault) → class_at ls i ≡ class.Keyword k → lists k ≡ true → StopsIn spot ls (AtName k) (i + 1) f → StopsIn spot ls AtStart i f
list_started spot ls k i f e y s = stops_behind spot ls AtStart (AtName k) i (i + 1) f (one_step ls AtStart (AtName k) i (i + 1) (start_list k y e) refl) refl refl s

pub head_started : (spot : ℕ → Spot) (ls : List Lexeme) (i : ℕ) (f : SyntaxFault) → class_at ls i ≡ class.Keyword keyword.Typeabbrev → StopsIn spot ls AtHead (i + 1) f → StopsIn spot ls AtStart i f
head_started spot ls i f e s = stops_behind spot ls AtStart AtHead i (i + 1) f (one_step ls AtStart AtHead i (i + 1) (start_head e) refl) refl refl s

-- these lists have something behind them
pub not_last : (k : Keyword) (c : Class) → may_end k ≡ false → IsNoEnd k c
not_last k c h y e = let z : false ≡ true = sym h ∙ y in cc

-- a declaration by its keyword
pub list_kept : {T : Type 0} (spot : ℕ → Spot) (ls : List Lexeme) (k m : Keyword) (i : ℕ) (r : Result T SyntaxFault) → k ≡ m → lists m ≡ true →
    class_at ls i ≡ class.Keyword k → IfErr r (λ f. MemoryOr f (StopsIn spot ls (AtName m) (i + 1) f)) → IfErr r
    (λ f. MemoryOr f (IsTooDeep ls k (i + 1) f ⊎ StopsIn spot ls AtStart i f))
list_kept spot ls k m i (Ok x) p y e h = tt
list_kept spot ls k m i (Err f) p y e h = memory_or f (λ s. inr (list_started spot ls m i f (e ∙ ap class.Keyword p) y s)) h

pub typed_kept : {T : Type 0} (spot : ℕ → Spot) (ls : List Lexeme) (k m : Keyword) (i : ℕ) (r : Result T SyntaxFault) → k ≡ m → lists m ≡ true →
    class_at ls i ≡ class.Keyword k → IfErr r (λ f. MemoryOr f (IsTooDeep ls m (i + 1) f ⊎ StopsIn spot ls (AtName m) (i + 1) f)) → IfErr r
    (λ f. MemoryOr f (IsTooDeep ls k (i + 1) f ⊎ StopsIn spot ls AtStart i f))
typed_kept spot ls k m i (Ok x) p y e h = tt
typed_kept spot ls k m i (Err f) p y e h = memory_or f go h
  where
    go : IsTooDeep ls m (i + 1) f ⊎ StopsIn spot ls (AtName m) (i + 1) f → IsTooDeep ls k (i + 1) f ⊎ StopsIn spot ls AtStart i f
    go (inl d) = inl (subst (λ z. IsTooDeep ls z (i + 1) f) (sym p) d)
    go (inr s) = inr (list_started spot ls m i f (e ∙ ap class.Keyword p) y s)

pub head_kept : {T : Type 0} (spot : ℕ → Spot) (ls : List Lexeme) (k : Keyword) (i : ℕ) (r : Result T SyntaxFault) → k ≡ keyword.Typeabbrev → class_at
    ls i ≡ class.Keyword k → IfErr r (λ f. MemoryOr f (IsTooDeep ls keyword.Typeabbrev (i + 1) f ⊎ StopsIn spot ls AtHead (i + 1) f)) → IfErr r
    (λ f. MemoryOr f (IsTooDeep ls k (i + 1) f ⊎ StopsIn spot ls AtStart i f))
head_kept spot ls k i (Ok x) p e h = tt
head_kept spot ls k i (Err f) p e h = memory_or f go h
  where
    go : IsTooDeep ls keyword.Typeabbrev (i + 1) f ⊎ StopsIn spot ls AtHead (i + 1) f → IsTooDeep ls k (i + 1) f ⊎ StopsIn spot ls AtStart i f
    go (inl d) = inl (subst (λ z. IsTooDeep ls z (i + 1) f) (sym p) d)
    go (inr s) = inr (head_started spot ls i f (e ∙ ap class.Keyword p) s)

pub title_kept : (spot : ℕ → Spot) (ls : List Lexeme) (k m : Keyword) (i : ℕ) (f : SyntaxFault) → k ≡ m → lists m ≡ false →
    (m ≡ keyword.Typeabbrev → ⊥) → i ≤ length ls → f ≡ refused spot i None (class_at ls i) → class_at ls i ≡ class.Keyword k → MemoryOr f
    (IsTooDeep ls k (i + 1) f ⊎ StopsIn spot ls AtStart i f)
title_kept spot ls k m i f p y n l h e = inr (inr (title_refused spot ls m i f (e ∙ ap class.Keyword p) y n l h))
