-- What the reader of declarations reads is in their grammar.
use Rattle.std.proofs.Common.{◌≡◌, ℕ, suc, ◌+◌, true, false, List, [], ◌∷◌, ◌++◌, refl, sym, ap, ◌∙◌, subst, arith}
use Rattle.lp_standard.specs.declared.fixity.Fixity.{Fixity}
use Rattle.lp_syntax.specs.declared.class.Keyword.{Keyword}
use Rattle.lp_syntax.specs.declared.class.Keyword.TheVariants as keyword
use Rattle.lp_syntax.specs.declared.class.Class.TheVariants as class
use Rattle.lp_syntax.specs.Tokens.{Lexeme, class_at}
use Rattle.lp_syntax.specs.Types.{TypeTree, Whole, IsType}
use Rattle.lp_syntax.specs.TypeMachine.{TypeState, Ends, type_step, Runs, stays as type_stays}
use Rattle.lp_syntax.specs.Declarations.{WithCommas, none_listed, one_listed, AreNames, KindFront, no_argument, argument, IsKindText, Parameters, no_parameter, parameter, IsHeadAt, bare, bracketed, HasNumber, saturated, one_more, EndsAt, Line, IsBody, kinds, local_kinds, local_kinds_of, constants, locals, locals_of, abbreviation, accumulate, accum_sig, fixities}
use Rattle.lp_syntax.specs.LineMachine.{LineState, AtStart, AtName, BehindName, AtKind, BehindKind, AtHead, AtHeadName, AtParameter, InType, AtDot, AtEnd, lists, lists_words, takes_kind, takes_type, may_end, no_type, LineStep, start_list, start_head, name, comma, list_kind, list_type, list_number, list_dot, arrow, kind, kind_dot, bare_head, head_bracket, head_name, one_parameter, head_closed, in_type, type_dot, full_stop, LineRuns, stays, goes}
use Rattle.lp_syntax.proofs.TypeReading.{runs_on, one_run, type_sound}

-- a declaration from its keyword on
pub record LineAt (ls : List Lexeme) (i j : ℕ) : Type 0 where
  pub word : Keyword
  pub line : Line
  pub there : class_at ls i ≡ class.Keyword word
  pub body : IsBody ls word (i + 1) j line

-- what stands before a type
pub data BeforeType (ls : List Lexeme) (i m : ℕ) : Type 0 where
  after_names : (k : Keyword) (ns : List ℕ) → class_at ls i ≡ class.Keyword k → takes_type k ≡ true → AreNames ls (lists_words k) (i + 1) m ns → BeforeType ls i m
  after_head : (n : ℕ) (ns : List ℕ) → class_at ls i ≡ class.Keyword keyword.Typeabbrev → IsHeadAt ls (i + 1) m n ns → BeforeType ls i m

-- the tokens from the keyword on bring the reader to a state
pub data LineReads (ls : List Lexeme) (i : ℕ) : LineState → ℕ → Type 0 where
  reads_start : LineReads ls i AtStart i
  reads_commas : (k : Keyword) (j : ℕ) (ns : List ℕ) → lists k ≡ true → class_at ls i ≡ class.Keyword k → WithCommas ls (lists_words k) (i + 1) j ns → LineReads ls i (AtName k) j
  reads_names : (k : Keyword) (j : ℕ) (ns : List ℕ) → lists k ≡ true → class_at ls i ≡ class.Keyword k → AreNames ls (lists_words k) (i + 1) j ns → LineReads ls i (BehindName k) j
  reads_front : (k : Keyword) (m j n : ℕ) (ns : List ℕ) → takes_kind k ≡ true → class_at ls i ≡ class.Keyword k → AreNames ls (lists_words k) (i + 1) m ns → KindFront ls m j n → LineReads ls i AtKind j
  reads_kind : (k : Keyword) (m j n : ℕ) (ns : List ℕ) → takes_kind k ≡ true → class_at ls i ≡ class.Keyword k → AreNames ls (lists_words k) (i + 1) m ns → IsKindText ls m j n → LineReads ls i BehindKind j
  reads_abbreviation : (j : ℕ) → class_at ls i ≡ class.Keyword keyword.Typeabbrev → j ≡ i + 1 → LineReads ls i AtHead j
  reads_bracket : (j : ℕ) → class_at ls i ≡ class.Keyword keyword.Typeabbrev → class_at ls (i + 1) ≡ class.Open → j ≡ i + 1 + 1 → LineReads ls i AtHeadName j
  reads_parameters : (j : ℕ) (ns : List ℕ) → class_at ls i ≡ class.Keyword keyword.Typeabbrev → class_at ls (i + 1) ≡ class.Open → class_at ls (i + 1 + 1) ≡ class.Lower → Parameters ls (i + 1 + 1 + 1) j ns → LineReads ls i AtParameter j
  reads_type : (m j : ℕ) (s : TypeState) → BeforeType ls i m → Runs ls no_type m s j → LineReads ls i (InType s) j
  reads_number : (f : Fixity) (m j n : ℕ) (ns : List ℕ) → class_at ls i ≡ class.Keyword (keyword.Fixity f) → AreNames ls false (i + 1) m ns → HasNumber ls m n → j ≡ m + 1 → LineReads ls i AtDot j
  reads_line : (j : ℕ) → LineAt ls i j → LineReads ls i AtEnd j

kind_line : (ls : List Lexeme) (i m j e n : ℕ) (ns : List ℕ) (k : Keyword) → takes_kind k ≡ true → class_at ls i ≡ class.Keyword k → AreNames ls (lists_words k) (i + 1) m ns → IsKindText ls m j n → EndsAt ls j e → LineAt ls i e
kind_line ls i m j e n ns keyword.Kind y h a t z = record { word = keyword.Kind; line = _; there = h; body = kinds (i + 1) m j e n ns a t z }
kind_line ls i m j e n ns keyword.Localkind y h a t z = record { word = keyword.Localkind; line = _; there = h; body = local_kinds_of (i + 1) m j e n ns a t z }
kind_line ls i m j e n ns keyword.Sig y h a t z = absurd (cc)
kind_line ls i m j e n ns keyword.Module y h a t z = absurd (cc)
kind_line ls i m j e n ns keyword.Type y h a t z = absurd (cc)
kind_line ls i m j e n ns keyword.Typeabbrev y h a t z = absurd (cc)
kind_line ls i m j e n ns keyword.Local y h a t z = absurd (cc)
kind_line ls i m j e n ns keyword.Accumulate y h a t z = absurd (cc)
kind_line ls i m j e n ns keyword.AccumSig y h a t z = absurd (cc)
kind_line ls i m j e n ns (keyword.Fixity f) y h a t z = absurd (cc)

type_line_at : (ls : List Lexeme) (i m j e : ℕ) (t : TypeTree) (ns : List ℕ) (k : Keyword) → takes_type k ≡ true → class_at ls i ≡ class.Keyword k → AreNames ls (lists_words k) (i + 1) m ns → IsType ls Whole m j t → EndsAt ls j e → LineAt ls i e
type_line_at ls i m j e t ns keyword.Type y h a d z = record { word = keyword.Type; line = _; there = h; body = constants (i + 1) m j e ns t a d z }
type_line_at ls i m j e t ns keyword.Local y h a d z = record { word = keyword.Local; line = _; there = h; body = locals_of (i + 1) m j e ns t a d z }
type_line_at ls i m j e t ns keyword.Sig y h a d z = absurd (cc)
type_line_at ls i m j e t ns keyword.Module y h a d z = absurd (cc)
type_line_at ls i m j e t ns keyword.Kind y h a d z = absurd (cc)
type_line_at ls i m j e t ns keyword.Typeabbrev y h a d z = absurd (cc)
type_line_at ls i m j e t ns keyword.Localkind y h a d z = absurd (cc)
type_line_at ls i m j e t ns keyword.Accumulate y h a d z = absurd (cc)
type_line_at ls i m j e t ns keyword.AccumSig y h a d z = absurd (cc)
type_line_at ls i m j e t ns (keyword.Fixity f) y h a d z = absurd (cc)

list_line : (ls : List Lexeme) (i m e : ℕ) (ns : List ℕ) (k : Keyword) → may_end k ≡ true → class_at ls i ≡ class.Keyword k → AreNames ls (lists_words k) (i + 1) m ns → EndsAt ls m e → LineAt ls i e
list_line ls i m e ns keyword.Localkind y h a z = record { word = keyword.Localkind; line = _; there = h; body = local_kinds (i + 1) m e ns a z }
list_line ls i m e ns keyword.Local y h a z = record { word = keyword.Local; line = _; there = h; body = locals (i + 1) m e ns a z }
list_line ls i m e ns keyword.Accumulate y h a z = record { word = keyword.Accumulate; line = _; there = h; body = accumulate (i + 1) m e ns a z }
list_line ls i m e ns keyword.AccumSig y h a z = record { word = keyword.AccumSig; line = _; there = h; body = accum_sig (i + 1) m e ns a z }
list_line ls i m e ns keyword.Sig y h a z = absurd (cc)
list_line ls i m e ns keyword.Module y h a z = absurd (cc)
list_line ls i m e ns keyword.Kind y h a z = absurd (cc)
list_line ls i m e ns keyword.Type y h a z = absurd (cc)
list_line ls i m e ns keyword.Typeabbrev y h a z = absurd (cc)
list_line ls i m e ns (keyword.Fixity f) y h a z = absurd (cc)

typed_line : (ls : List Lexeme) (i m j : ℕ) (s : TypeState) → BeforeType ls i m → Runs ls no_type m s j → type_step s (class_at ls j) ≡ Ends → class_at ls j ≡ class.Dot → LineAt ls i (j + 1)
typed_line ls i m j s (after_names k ns h y a) d e z = let t = type_sound ls m s j d e in type_line_at ls i m j (j + 1) t.0 ns k y h a t.1 (z, refl)
typed_line ls i m j s (after_head n ns h a) d e z = let t = type_sound ls m s j d e in record { word = keyword.Typeabbrev; line = _; there = h; body = abbreviation (i + 1) m j (j + 1) n ns t.0 a t.1 (z, refl) }

pub reads_on : (ls : List Lexeme) (i : ℕ) (s r : LineState) (j : ℕ) → LineReads ls i s j → LineStep (class_at ls j) s r → LineReads ls i r (j + 1)
reads_on ls i s r j reads_start (start_list k y e) = reads_commas k (i + 1) [] y e none_listed
reads_on ls i s r j reads_start (start_head e) = reads_abbreviation (i + 1) e refl
reads_on ls i s r j (reads_commas k _ ns y h w) (name _ f) = reads_names k (j + 1) _ y h (record { final = j; front = ns; before = w; fits = f; end = refl; all = refl })
reads_on ls i s r j (reads_names k _ ns y h a) (comma _ c) = reads_commas k (j + 1) ns y h (one_listed a.final (j + 1) a.front ns a.before a.fits (ap (class_at ls) (sym a.end) ∙ c) (ap (λ n. n + 1) a.end) a.all)
reads_on ls i s r j (reads_names k _ ns y h a) (list_kind _ t e) = reads_kind k j (j + 1) 0 ns t h a (record { final = j; front = no_argument; target = e; end = refl })
reads_on ls i s r j (reads_names k _ ns y h a) (list_type _ q t e) = reads_type j (j + 1) q (after_names k ns h t a) (subst (Runs ls no_type j q) (let z : suc j ≡ j + 1 = omega arith in z) (one_run ls no_type q j e))
reads_on ls i s r j (reads_names _ _ ns y h a) (list_number f n e) = reads_number f j (j + 1) (saturated n) ns h a (record { written = n; there = e; is = refl }) refl
reads_on ls i s r j (reads_names k _ ns y h a) (list_dot _ t e) = reads_line (j + 1) (list_line ls i j (j + 1) ns k t h a (e, refl))
reads_on ls i s r j (reads_front k m _ n ns y h a d) (kind e) = reads_kind k m (j + 1) n ns y h a (record { final = j; front = d; target = e; end = refl })
reads_on ls i s r j (reads_kind k m _ n ns y h a d) (arrow e) = reads_front k m (j + 1) (one_more n) ns y h a (argument d.final (j + 1) n (one_more n) d.front d.target (ap (class_at ls) (sym d.end) ∙ e) (ap (λ n. n + 1) d.end) refl)
reads_on ls i s r j (reads_kind k m _ n ns y h a d) (kind_dot e) = reads_line (j + 1) (kind_line ls i m j (j + 1) n ns k y h a d (e, refl))
reads_on ls i s r j (reads_abbreviation _ h p) (bare_head e) = reads_type (j + 1) (j + 1) no_type (after_head j [] h (bare (i + 1) (j + 1) j [] (ap (class_at ls) (sym p) ∙ e) (ap (λ n. n + 1) p) p refl)) (type_stays no_type (j + 1))
reads_on ls i s r j (reads_abbreviation _ h p) (head_bracket e) = reads_bracket (j + 1) h (ap (class_at ls) (sym p) ∙ e) (ap (λ n. n + 1) p)
reads_on ls i s r j (reads_bracket _ h o p) (head_name e) = reads_parameters (j + 1) [] h o (ap (class_at ls) (sym p) ∙ e) (subst (λ n. Parameters ls (i + 1 + 1 + 1) n []) (ap (λ n. n + 1) (sym p)) no_parameter)
reads_on ls i s r j (reads_parameters _ ns h o n p) (one_parameter e) = reads_parameters (j + 1) (ns ++ j ∷ []) h o n (parameter j (j + 1) ns _ p e refl refl)
reads_on ls i s r j (reads_parameters _ ns h o n p) (head_closed e) = reads_type (j + 1) (j + 1) no_type (after_head (i + 1 + 1) ns h (bracketed (i + 1) j (j + 1) (i + 1 + 1) ns o n refl p e refl)) (type_stays no_type (j + 1))
reads_on ls i s r j (reads_type m _ q b d) (in_type _ t e) = reads_type m (j + 1) t b (subst (Runs ls no_type m t) (let z : suc j ≡ j + 1 = omega arith in z) (runs_on ls no_type q t m j (suc j) d (one_run ls q t j e)))
reads_on ls i s r j (reads_type m _ q b d) (type_dot _ e z) = reads_line (j + 1) (typed_line ls i m j q b d e z)
reads_on ls i s r j (reads_number f m _ n ns h a w p) (full_stop e) = reads_line (j + 1) (record { word = keyword.Fixity f; line = _; there = h; body = fixities (i + 1) m (j + 1) n f ns a w (ap (class_at ls) (sym p) ∙ e, ap (λ n. n + 1) p) })
reads_on ls i s r j (reads_line _ _) e = elim e [ ]

pub line_reads : (ls : List Lexeme) (i : ℕ) (s r : LineState) (j k : ℕ) → LineRuns ls s j r k → LineReads ls i s j → LineReads ls i r k
line_reads ls i s r j k (stays _ _) h = h
line_reads ls i s r j k (goes _ q _ _ m _ e p d) h = line_reads ls i q r m k d (subst (LineReads ls i q) (sym p) (reads_on ls i s q j h e))

pub line_sound : (ls : List Lexeme) (i j : ℕ) → LineRuns ls AtStart i AtEnd j → LineAt ls i j
line_sound ls i j d = go (line_reads ls i AtStart AtEnd i j d reads_start)
  where
    go : LineReads ls i AtEnd j → LineAt ls i j
    go (reads_line _ l) = l
