-- Where the code that reads declarations stops, their reader does.
use Rattle.std.proofs.Common.{◌≡◌, ◌≢◌, ℕ, ◌+◌, ◌<◌, ◌≤◌, inl, inr, Bool, true, false, List, [], ◌∷◌, ◌++◌, length, map, refl, sym, ap, ◌∙◌, subst, arith}
use Rattle.std.specs.Prelude.{Option, Some, None}
use Rattle.lp_base.specs.declared.place.Spot.{Spot}
use Rattle.lp_lexer.specs.declared.token.Token.{Token}
use Rattle.lp_syntax.specs.declared.class.Keyword.{Keyword}
use Rattle.lp_syntax.specs.declared.class.Keyword.TheVariants as keyword
use Rattle.lp_syntax.specs.declared.class.Class.{Class}
use Rattle.lp_syntax.specs.declared.class.Class.TheVariants as class
use Rattle.lp_syntax.specs.declared.fault.SyntaxFault.{SyntaxFault}
use Rattle.lp_syntax.specs.Faults.{refused, innermost}
use Rattle.lp_syntax.specs.Tokens.{Lexeme, lexemes, class_at, open_behind, open_brackets}
use Rattle.lp_syntax.specs.Terms.{MemoryOr}
use Rattle.lp_syntax.specs.TypeMachine.{TypeState, Goes, Ends, Stops, type_step}
use Rattle.lp_syntax.specs.TypeViews.{ComesTo}
use Rattle.lp_syntax.specs.Declarations.{is_word, is_listed, WithCommas, KindFront, Parameters, no_parameter, parameter}
use Rattle.lp_syntax.specs.LineMachine.{LineState, AtName, AtKind, AtHead, AtHeadName, AtParameter, InType, lists_words, no_type, LineStep, name, kind, bare_head, head_bracket, head_name, one_parameter, head_closed, in_type, type_dot, LineRuns, stays, goes, IsUnfinished, StopsIn}
use Rattle.lp_syntax.proofs.Tokens.{class_past}
use Rattle.lp_syntax.proofs.TypeFaults.{Compared, less, same, more, compared}
use Rattle.lp_syntax.proofs.OpenBrackets.{brackets_none, brackets_more}
use Rattle.lp_syntax.proofs.Lines.{one_step, line_up, commas_run, front_runs, parameters_run, type_line}
use Rattle.lp_syntax.proofs.LineOpen.{opened, line_closed}

-- a token of another class than the end is there
pub there_if : (source : List ℕ) (ts : List Token) (i : ℕ) → (class_at (lexemes source ts) i ≡ class.End → ⊥) → i < length ts
there_if source ts i h = go (compared i (length ts))
  where
    go : Compared i (length ts) → i < length ts
    go (less l) = l
    go (same e) = absurd (h (class_past source ts i (omega (arith, e))))
    go (more l) = absurd (h (class_past source ts i (omega (arith, l))))

pub class_within : (source : List ℕ) (ts : List Token) (i : ℕ) (c : Class) → class_at (lexemes source ts) i ≡ c → (c ≡ class.End → ⊥) → i < length ts
class_within source ts i c e h = there_if source ts i (λ z. h (sym e ∙ z))

listed_there : (w : Bool) → is_listed w class.End ≡ true → ⊥
listed_there true e = cc
listed_there false e = cc

pub listed_within : (source : List ℕ) (ts : List Token) (i : ℕ) (w : Bool) → is_listed w (class_at (lexemes source ts) i) ≡ true → i < length ts
listed_within source ts i w e = there_if source ts i (λ z. listed_there w (sym (ap (is_listed w) z) ∙ e))

pub memory_or : {P Q : Type 0} (f : SyntaxFault) → (P → Q) → MemoryOr f P → MemoryOr f Q
memory_or f g (inl e) = inl e
memory_or f g (inr p) = inr (g p)

-- nothing is open where they stop
pub stops_here : (spot : ℕ → Spot) (ls : List Lexeme) (s r : LineState) (i n : ℕ) (f : SyntaxFault) → LineRuns ls s i r n → opened s ≡ 0 → opened r ≡
    0 → IsUnfinished r → ((q : LineState) → LineStep (class_at ls n) r q → ⊥) → n ≤ length ls → f ≡ refused spot n None (class_at ls n) → StopsIn spot
    ls s i f
stops_here spot ls s r i n f d e o u h l k = record {
  number = n;
  there = record { state = r; runs = d; unfinished = u; stops = h; high = l };
  kind = k ∙ ap (λ bs. refused spot n (innermost bs) (class_at ls n)) (sym (line_closed ls s r i n d e o));
}

-- lists
no_name : (k : Keyword) (c : Class) (w : Bool) → lists_words k ≡ w → is_listed w c ≡ false → (q : LineState) → LineStep c (AtName k) q → ⊥
no_name k c w y e q (name _ f) = let z : true ≡ false = sym f ∙ ap (λ v. is_listed v c) y ∙ e in cc

pub list_stops : (spot : ℕ → Spot) (ls : List Lexeme) (k : Keyword) (w : Bool) (i n : ℕ) (ns : List ℕ) (f : SyntaxFault) → WithCommas ls w i n ns → lists_words k ≡ w → is_listed w (class_at ls n) ≡ false → n ≤ length ls → f ≡ refused spot n None (class_at ls n) → StopsIn spot ls (AtName k) i f
list_stops spot ls k w i n ns f d y e l h = stops_here spot ls (AtName k) (AtName k) i n f (commas_run ls k i n ns (subst (λ v. WithCommas ls v i n ns) (sym y) d)) refl refl tt (no_name k (class_at ls n) w y e) l h

-- kinds
no_kind : (c : Class) → c ≢ class.Keyword keyword.Type → (q : LineState) → LineStep c AtKind q → ⊥
no_kind c h q (kind e) = h e

pub kind_stops : (spot : ℕ → Spot) (ls : List Lexeme) (i n m : ℕ) (f : SyntaxFault) → KindFront ls i n m → class_at ls n ≢ class.Keyword keyword.Type → n ≤ length ls → f ≡ refused spot n None (class_at ls n) → StopsIn spot ls AtKind i f
kind_stops spot ls i n m f d e l h = stops_here spot ls AtKind AtKind i n f (front_runs ls i n m d) refl refl tt (no_kind (class_at ls n) e) l h

-- heads
no_head : (c : Class) → c ≢ class.Lower → c ≢ class.Open → (q : LineState) → LineStep c AtHead q → ⊥
no_head c a b q (bare_head e) = a e
no_head c a b q (head_bracket e) = b e

pub head_stops : (spot : ℕ → Spot) (ls : List Lexeme) (i : ℕ) (f : SyntaxFault) → class_at ls i ≢ class.Lower → class_at ls i ≢ class.Open → i ≤ length ls → f ≡ refused spot i None (class_at ls i) → StopsIn spot ls AtHead i f
head_stops spot ls i f a b l h = stops_here spot ls AtHead AtHead i i f (stays AtHead i) refl refl tt (no_head (class_at ls i) a b) l h

bracket_open : (ls : List Lexeme) (i : ℕ) → class_at ls i ≡ class.Open → i ∷ [] ≡ open_brackets ls i (i + 1)
bracket_open ls i o = ap (λ c. open_behind i c []) (sym o) ∙ brackets_more ls i i [] (omega arith) (brackets_none ls i)

parameters_up : (ls : List Lexeme) (i j : ℕ) (ns : List ℕ) → Parameters ls i j ns → i ≤ j
parameters_up ls i j ns d = line_up ls AtParameter AtParameter i j (parameters_run ls i j ns d)

parameters_open : (ls : List Lexeme) (i j n : ℕ) (ns : List ℕ) → i ≤ j → i ∷ [] ≡ open_brackets ls i j → Parameters ls j n ns → i ∷ [] ≡ open_brackets ls i n
parameters_open ls i j n ns l e no_parameter = e
parameters_open ls i j n ns l e (parameter k _ ms _ d u p a) =
    let z = parameters_up ls j k ms d in
    ap (λ c. open_behind k c (i ∷ [])) (sym u) ∙ brackets_more ls i k (i ∷ []) (omega (arith, l, z)) (parameters_open ls i j k ms l e d) ∙ ap (open_brackets ls i) (sym p)

no_head_name : (c : Class) → c ≢ class.Lower → (q : LineState) → LineStep c AtHeadName q → ⊥
no_head_name c a q (head_name e) = a e

pub head_name_stops : (spot : ℕ → Spot) (ls : List Lexeme) (i : ℕ) (f : SyntaxFault) → class_at ls i ≡ class.Open → class_at ls (i + 1) ≢ class.Lower → i + 1 ≤ length ls → f ≡ refused spot (i + 1) (Some i) (class_at ls (i + 1)) → StopsIn spot ls AtHead i f
head_name_stops spot ls i f o a l h = record {
  number = i + 1;
  there = record { state = AtHeadName; runs = one_step ls AtHead AtHeadName i (i + 1) (head_bracket o) refl; unfinished = tt; stops = no_head_name (class_at ls (i + 1)) a; high = l };
  kind = h ∙ ap (λ bs. refused spot (i + 1) (innermost bs) (class_at ls (i + 1))) (bracket_open ls i o);
}

no_more_parameters : (c : Class) → c ≢ class.Upper → c ≢ class.Close → (q : LineState) → LineStep c AtParameter q → ⊥
no_more_parameters c a b q (one_parameter e) = a e
no_more_parameters c a b q (head_closed e) = b e

pub parameters_stop : (spot : ℕ → Spot) (ls : List Lexeme) (i n : ℕ) (ns : List ℕ) (f : SyntaxFault) → class_at ls i ≡ class.Open → class_at ls
    (i + 1) ≡ class.Lower → Parameters ls (i + 1 + 1) n ns → class_at ls n ≢ class.Upper → class_at ls n ≢ class.Close → n ≤ length ls → f ≡ refused
    spot n (Some i) (class_at ls n) → StopsIn spot ls AtHead i f
parameters_stop spot ls i n ns f o w p a b l h = record {
  number = n;
  there = record {
    state = AtParameter;
    runs = goes AtHead AtHeadName AtParameter i (i + 1) n (head_bracket o) refl (goes AtHeadName AtParameter AtParameter (i + 1) (i + 1 + 1) n (head_name w) refl (parameters_run ls (i + 1 + 1) n ns p));
    unfinished = tt;
    stops = no_more_parameters (class_at ls n) a b;
    high = l;
  };
  kind = h ∙ ap (λ bs. refused spot n (innermost bs) (class_at ls n)) (parameters_open ls i (i + 1 + 1) n ns (omega arith) (ap (λ c. open_behind (i + 1) c (i ∷ [])) (sym w) ∙ brackets_more ls i (i + 1) (i ∷ []) (omega arith) (bracket_open ls i o)) p);
}

-- types
no_more_type : (c : Class) (s : TypeState) → type_step s c ≡ Stops → (q : LineState) → LineStep c (InType s) q → ⊥
no_more_type c s h q (in_type _ r e) = let z : Goes r ≡ Stops = sym e ∙ h in cc
no_more_type c s h q (type_dot _ e d) = let z : Ends ≡ Stops = sym e ∙ h in cc

pub type_stops : (spot : ℕ → Spot) (ls : List Lexeme) (i n : ℕ) (b : Option ℕ) (f : SyntaxFault) → ComesTo ls i n Stops → b ≡ innermost (open_brackets ls i n) → n ≤ length ls → f ≡ refused spot n b (class_at ls n) → StopsIn spot ls (InType no_type) i f
type_stops spot ls i n b f c e l h = record {
  number = n;
  there = record { state = InType c.state; runs = type_line ls no_type c.state i n c.runs; unfinished = tt; stops = no_more_type (class_at ls n) c.state c.moves; high = l };
  kind = h ∙ ap (λ d. refused spot n d (class_at ls n)) e;
}

-- one more spot
pub spots_more : (spot : ℕ → Spot) (ns : List ℕ) (k : ℕ) (ss ts : List Spot) → ss ≡ map spot ns → ts ≡ ss ++ spot k ∷ [] → ts ≡ map spot (ns ++ k ∷ [])
spots_more spot ns k ss ts e f = f ∙ ap (λ l. l ++ spot k ∷ []) e ∙ sym (map_more ns)
  where
    map_more : (ms : List ℕ) → map spot (ms ++ k ∷ []) ≡ map spot ms ++ spot k ∷ []
    map_more [] = refl
    map_more (m ∷ ms) = ap (λ l. spot m ∷ l) (map_more ms)

pub word_within : (source : List ℕ) (ts : List Token) (i : ℕ) → is_word (class_at (lexemes source ts) i) ≡ true → i < length ts
word_within source ts i e = there_if source ts i (λ z. let y : false ≡ true = sym (ap is_word z) ∙ e in cc)
