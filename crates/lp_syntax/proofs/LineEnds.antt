-- Each state of the reader of declarations can be brought to an end.
use Rattle.std.proofs.Common.{◌≡◌, ℕ, suc, ◌+◌, Bool, true, false, List, [], ◌∷◌, length, refl, ap, ◌∙◌, subst, arith, codes}
use Rattle.std.specs.Prelude.{Some, slice_get, pos}
use Rattle.lp_lexer.specs.declared.token.TokenKind.TheVariants as kind
use Rattle.lp_syntax.specs.declared.class.Class.{Class}
use Rattle.lp_syntax.specs.declared.class.Keyword.{Keyword}
use Rattle.lp_syntax.specs.declared.class.Keyword.TheVariants as keyword
use Rattle.lp_syntax.specs.declared.class.Class.TheVariants as class
use Rattle.lp_syntax.specs.Tokens.{Lexeme, class_at}
use Rattle.lp_syntax.specs.TypeMachine.{Wait, AtArrow, AtGroup, AtArgument, Need, Wants, Applies, Has, TypeState, ts, type_step}
use Rattle.lp_syntax.specs.Declarations.{is_word, is_listed}
use Rattle.lp_syntax.specs.LineMachine.{LineState, AtHeader, AtWord, AtHeaderDot, AtStart, AtName, BehindName, AtKind, BehindKind, AtHead, AtHeadName, AtParameter, InType, AtDot, AtEnd, lists, lists_words, may_end, no_type, LineStep, header_word, header_dot, start_list, name, list_kind, list_type, list_number, list_dot, kind as one_kind, kind_dot, bare_head, head_name, head_closed, in_type, type_dot, full_stop, LineRuns, stays, goes}
use Rattle.lp_syntax.proofs.Tokens.{class_stands, Stands}
use Rattle.lp_syntax.proofs.TypeReading.{above_close, Above, behind_word, behind_type, below_arrow}
use Rattle.lp_syntax.proofs.Lines.{one_step, dot_left}
use Rattle.lp_syntax.proofs.LineStops.{token, word_token, lower_token, dot_token, upper_token, type_token, is_lower_token, is_type_token, is_kind_token}

abbrev pub type_ends : List Wait → List Lexeme
type_ends [] = dot_token ∷ []
type_ends (AtArrow ∷ ws) = type_ends ws
type_ends (AtGroup ∷ ws) = token kind.Close ∷ type_ends ws
type_ends (AtArgument ∷ ws) = token kind.Close ∷ type_ends ws

abbrev pub ends_of_type : List Wait → Need → List Lexeme
ends_of_type ws Wants = upper_token ∷ type_ends ws
ends_of_type ws Applies = type_ends ws
ends_of_type ws Has = type_ends ws

abbrev pub ends_behind : Keyword → List Lexeme
ends_behind keyword.Kind = type_token ∷ dot_token ∷ []
ends_behind keyword.Type = upper_token ∷ dot_token ∷ []
ends_behind (keyword.Fixity f) = token (kind.Number (pos 0)) ∷ dot_token ∷ []
ends_behind _ = dot_token ∷ []

-- the tokens that end a sentence
abbrev pub line_ends : LineState → List Lexeme
line_ends (AtHeader k) = []
line_ends AtWord = lower_token ∷ dot_token ∷ []
line_ends AtHeaderDot = dot_token ∷ []
line_ends AtStart = word_token (codes "kind") ∷ lower_token ∷ type_token ∷ dot_token ∷ []
line_ends (AtName k) = lower_token ∷ ends_behind k
line_ends (BehindName k) = ends_behind k
line_ends AtKind = type_token ∷ dot_token ∷ []
line_ends BehindKind = dot_token ∷ []
line_ends AtHead = lower_token ∷ upper_token ∷ dot_token ∷ []
line_ends AtHeadName = lower_token ∷ token kind.Close ∷ upper_token ∷ dot_token ∷ []
line_ends AtParameter = token kind.Close ∷ upper_token ∷ dot_token ∷ []
line_ends (InType s) = ends_of_type s.waits s.need
line_ends AtDot = dot_token ∷ []
line_ends AtEnd = []

abbrev pub CanEnd : LineState → Type 0
CanEnd (AtHeader k) = ⊥
CanEnd (AtName k) = lists k ≡ true
CanEnd (BehindName k) = lists k ≡ true
CanEnd _ = Unit {0}

type_above : (ls : List Lexeme) (ws : List Wait) (s : TypeState) (i m : ℕ) → Above ws s → Stands ls i (type_ends ws) → m ≡ i + length (type_ends ws) → LineRuns ls (InType s) i AtEnd m
type_above ls [] s i m a h e = let d = class_stands ls i dot_token h.0 in one_step ls (InType s) AtEnd i m (type_dot s (ap (type_step s) d ∙ dot_left [] s a) d) e
type_above ls (AtArrow ∷ ws) s i m a h e = type_above ls ws s i m (below_arrow ws s a) h e
type_above ls (AtGroup ∷ ws) s i m a h e = goes (InType s) (InType (ts ws Has)) AtEnd i (suc i) m
    (in_type s (ts ws Has) (ap (type_step s) (class_stands ls i (token kind.Close) h.0) ∙ above_close (AtGroup ∷ ws) s a)) (omega arith)
    (type_above ls ws (ts ws Has) (suc i) m (behind_type ws) h.1 (omega (arith, e)))
type_above ls (AtArgument ∷ ws) s i m a h e = goes (InType s) (InType (ts ws Applies)) AtEnd i (suc i) m
    (in_type s (ts ws Applies) (ap (type_step s) (class_stands ls i (token kind.Close) h.0) ∙ above_close (AtArgument ∷ ws) s a)) (omega arith)
    (type_above ls ws (ts ws Applies) (suc i) m (behind_word ws) h.1 (omega (arith, e)))

type_to_end : (ls : List Lexeme) (ws : List Wait) (n : Need) (i m : ℕ) → Stands ls i (ends_of_type ws n) → m ≡ i + length (ends_of_type ws n) → LineRuns ls (InType (ts ws n)) i AtEnd m
type_to_end ls ws Wants i m h e = goes (InType (ts ws Wants)) (InType (ts ws Has)) AtEnd i (suc i) m (in_type (ts ws Wants) (ts ws Has) (ap (type_step (ts ws Wants)) (class_stands ls i upper_token h.0))) (omega arith) (type_above ls ws (ts ws Has) (suc i) m (behind_type ws) h.1 (omega (arith, e)))
type_to_end ls ws Applies i m h e = type_above ls ws (ts ws Applies) i m (behind_word ws) h e
type_to_end ls ws Has i m h e = type_above ls ws (ts ws Has) i m (behind_type ws) h e

dot_to_end : (ls : List Lexeme) (s : LineState) (i m : ℕ) → ((c : Class) → c ≡ class.Dot → LineStep c s AtEnd) → slice_get ls i ≡ Some dot_token → m ≡ i + 1 → LineRuns ls s i AtEnd m
dot_to_end ls s i m f h e = one_step ls s AtEnd i m (f (class_at ls i) (class_stands ls i dot_token h)) e

list_to_dot : (ls : List Lexeme) (k : Keyword) (i m : ℕ) → may_end k ≡ true → Stands ls i (dot_token ∷ []) → m ≡ i + 1 → LineRuns ls (BehindName k) i AtEnd m
list_to_dot ls k i m y h e = dot_to_end ls (BehindName k) i m (λ c z. list_dot k y z) h.0 e

behind_to_end : (ls : List Lexeme) (k : Keyword) (i m : ℕ) → lists k ≡ true → Stands ls i (ends_behind k) → m ≡ i + length (ends_behind k) → LineRuns ls (BehindName k) i AtEnd m
behind_to_end ls keyword.Sig i m y h e = absurd (cc)
behind_to_end ls keyword.Module i m y h e = absurd (cc)
behind_to_end ls keyword.Typeabbrev i m y h e = absurd (cc)
behind_to_end ls keyword.Kind i m y h e = goes (BehindName keyword.Kind) BehindKind AtEnd i (suc i) m (list_kind keyword.Kind refl (class_stands ls i type_token h.0 ∙ is_type_token)) (omega arith) (dot_to_end ls BehindKind (suc i) m (λ c z. kind_dot z) h.1.0 (omega (arith, e)))
behind_to_end ls keyword.Type i m y h e = goes (BehindName keyword.Type) (InType (ts [] Has)) AtEnd i (suc i) m
    (list_type keyword.Type (ts [] Has) refl (ap (type_step no_type) (class_stands ls i upper_token h.0))) (omega arith)
    (type_above ls [] (ts [] Has) (suc i) m (behind_type []) h.1 (omega (arith, e)))
behind_to_end ls (keyword.Fixity f) i m y h e = goes (BehindName (keyword.Fixity f)) AtDot AtEnd i (suc i) m (list_number f (pos 0) (class_stands ls i (token (kind.Number (pos 0))) h.0)) (omega arith) (dot_to_end ls AtDot (suc i) m (λ c z. full_stop z) h.1.0 (omega (arith, e)))
behind_to_end ls keyword.Local i m y h e = list_to_dot ls keyword.Local i m refl h (omega (arith, e))
behind_to_end ls keyword.Localkind i m y h e = list_to_dot ls keyword.Localkind i m refl h (omega (arith, e))
behind_to_end ls keyword.Accumulate i m y h e = list_to_dot ls keyword.Accumulate i m refl h (omega (arith, e))
behind_to_end ls keyword.AccumSig i m y h e = list_to_dot ls keyword.AccumSig i m refl h (omega (arith, e))

lower_listed : (w : Bool) → is_listed w class.Lower ≡ true
lower_listed true = refl
lower_listed false = refl

name_to_end : (ls : List Lexeme) (k : Keyword) (i m : ℕ) → lists k ≡ true → Stands ls i (lower_token ∷ ends_behind k) → m ≡ i + length (lower_token ∷ ends_behind k) → LineRuns ls (AtName k) i AtEnd m
name_to_end ls k i m y h e = goes (AtName k) (BehindName k) AtEnd i (suc i) m (name k (ap (is_listed (lists_words k)) (class_stands ls i lower_token h.0 ∙ is_lower_token) ∙ lower_listed (lists_words k))) (omega arith) (behind_to_end ls k (suc i) m y h.1 (omega (arith, e)))

parameter_to_end : (ls : List Lexeme) (i m : ℕ) → Stands ls i (line_ends AtParameter) → m ≡ i + 3 → LineRuns ls AtParameter i AtEnd m
parameter_to_end ls i m h e = goes AtParameter (InType no_type) AtEnd i (suc i) m (head_closed (class_stands ls i (token kind.Close) h.0)) (omega arith) (type_to_end ls [] Wants (suc i) m h.1 (omega (arith, e)))

pub to_end : (ls : List Lexeme) (s : LineState) (i m : ℕ) → CanEnd s → Stands ls i (line_ends s) → m ≡ i + length (line_ends s) → LineRuns ls s i AtEnd m
to_end ls (AtHeader k) i m y h e = absurd y
to_end ls AtWord i m y h e = goes AtWord AtHeaderDot AtEnd i (suc i) m (header_word (ap is_word (class_stands ls i lower_token h.0 ∙ is_lower_token))) (omega arith) (dot_to_end ls AtHeaderDot (suc i) m (λ c z. header_dot z) h.1.0 (omega (arith, e)))
to_end ls AtHeaderDot i m y h e = dot_to_end ls AtHeaderDot i m (λ c z. header_dot z) h.0 (omega (arith, e))
to_end ls AtStart i m y h e = goes AtStart (AtName keyword.Kind) AtEnd i (suc i) m (start_list keyword.Kind refl (class_stands ls i (word_token (codes "kind")) h.0 ∙ is_kind_token)) (omega arith) (name_to_end ls keyword.Kind (suc i) m refl h.1 (omega (arith, e)))
to_end ls (AtName k) i m y h e = name_to_end ls k i m y h e
to_end ls (BehindName k) i m y h e = behind_to_end ls k i m y h e
to_end ls AtKind i m y h e = goes AtKind BehindKind AtEnd i (suc i) m (one_kind (class_stands ls i type_token h.0 ∙ is_type_token)) (omega arith) (dot_to_end ls BehindKind (suc i) m (λ c z. kind_dot z) h.1.0 (omega (arith, e)))
to_end ls BehindKind i m y h e = dot_to_end ls BehindKind i m (λ c z. kind_dot z) h.0 (omega (arith, e))
to_end ls AtHead i m y h e = goes AtHead (InType no_type) AtEnd i (suc i) m (bare_head (class_stands ls i lower_token h.0 ∙ is_lower_token)) (omega arith) (type_to_end ls [] Wants (suc i) m h.1 (omega (arith, e)))
to_end ls AtHeadName i m y h e = goes AtHeadName AtParameter AtEnd i (suc i) m (head_name (class_stands ls i lower_token h.0 ∙ is_lower_token)) (omega arith) (parameter_to_end ls (suc i) m h.1 (omega (arith, e)))
to_end ls AtParameter i m y h e = parameter_to_end ls i m h (omega (arith, e))
to_end ls (InType s) i m y h e = type_to_end ls s.waits s.need i m h e
to_end ls AtDot i m y h e = dot_to_end ls AtDot i m (λ c z. full_stop z) h.0 (omega (arith, e))
to_end ls AtEnd i m y h e = subst (LineRuns ls AtEnd i AtEnd) (let z : i ≡ m = omega (arith, e) in z) (stays AtEnd i)
