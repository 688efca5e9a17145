-- The reader of sentences that are no terms: where it is in a sentence, and what one token does to it.
use Rattle.std.specs.Prelude.{◌≡◌, ℕ, ◌+◌, ◌<◌, ◌≤◌, Bool, true, false, List, []}
use Rattle.lp_base.specs.declared.place.Spot.{Spot}
use Rattle.lp_standard.specs.declared.fixity.Fixity.{Fixity}
use Rattle.std.specs.Prelude.{ℤ, length}
use Rattle.lp_base.specs.declared.limits.TheConstants.{MAX_TYPE_DEPTH}
use Rattle.lp_syntax.specs.declared.class.Keyword.{Keyword}
use Rattle.lp_syntax.specs.declared.class.Keyword.TheVariants as keyword
use Rattle.lp_syntax.specs.declared.class.Class.{Class}
use Rattle.lp_syntax.specs.declared.class.Class.TheVariants as class
use Rattle.lp_syntax.specs.declared.fault.SyntaxFault.{SyntaxFault}
use Rattle.lp_syntax.specs.Tokens.{Lexeme, class_at, open_brackets}
use Rattle.lp_syntax.specs.Faults.{refused, innermost}
use Rattle.lp_base.specs.declared.limit.Limit.TheVariants.{Nesting}
use Rattle.lp_syntax.specs.declared.fault.SyntaxFault.TheVariants as fault
use Rattle.lp_syntax.specs.Declarations.{is_word, is_listed, Line, IsBody, line_depth}
use Rattle.lp_syntax.specs.TypeMachine.{TypeState, Goes, Ends, Wants, ts, type_step}

pub data LineState : Type 0 where
  -- the keyword of a header is due, the name, and the full stop
  AtHeader : Keyword → LineState
  AtWord : LineState
  AtHeaderDot : LineState
  -- the keyword of a declaration is due
  AtStart : LineState
  -- a name of the list behind this keyword is due, and what stands behind a name
  AtName : Keyword → LineState
  BehindName : Keyword → LineState
  -- `type` is due in a kind, and what stands behind it
  AtKind : LineState
  BehindKind : LineState
  -- the head of an abbreviation is due, its name in a bracket, and what stands behind that
  AtHead : LineState
  AtHeadName : LineState
  AtParameter : LineState
  InType : TypeState → LineState
  -- a full stop is due
  AtDot : LineState
  AtEnd : LineState

-- which declarations begin with a list, which list words, and what may follow the list
abbrev pub lists : Keyword → Bool
lists keyword.Sig = false
lists keyword.Module = false
lists keyword.Typeabbrev = false
lists _ = true

abbrev pub lists_words : Keyword → Bool
lists_words keyword.Accumulate = true
lists_words keyword.AccumSig = true
lists_words _ = false

abbrev pub takes_kind : Keyword → Bool
takes_kind keyword.Kind = true
takes_kind keyword.Localkind = true
takes_kind _ = false

abbrev pub takes_type : Keyword → Bool
takes_type keyword.Type = true
takes_type keyword.Local = true
takes_type _ = false

abbrev pub may_end : Keyword → Bool
may_end keyword.Localkind = true
may_end keyword.Local = true
may_end keyword.Accumulate = true
may_end keyword.AccumSig = true
may_end _ = false

abbrev pub no_type : TypeState
no_type = ts [] Wants

-- what a token of this class does
pub data LineStep (c : Class) : LineState → LineState → Type 0 where
  header : (k : Keyword) → c ≡ class.Keyword k → LineStep c (AtHeader k) AtWord
  header_word : is_word c ≡ true → LineStep c AtWord AtHeaderDot
  header_dot : c ≡ class.Dot → LineStep c AtHeaderDot AtEnd
  start_list : (k : Keyword) → lists k ≡ true → c ≡ class.Keyword k → LineStep c AtStart (AtName k)
  start_head : c ≡ class.Keyword keyword.Typeabbrev → LineStep c AtStart AtHead
  name : (k : Keyword) → is_listed (lists_words k) c ≡ true → LineStep c (AtName k) (BehindName k)
  comma : (k : Keyword) → c ≡ class.Comma → LineStep c (BehindName k) (AtName k)
  list_kind : (k : Keyword) → takes_kind k ≡ true → c ≡ class.Keyword keyword.Type → LineStep c (BehindName k) BehindKind
  list_type : (k : Keyword) (s : TypeState) → takes_type k ≡ true → type_step no_type c ≡ Goes s → LineStep c (BehindName k) (InType s)
  list_number : (f : Fixity) (n : ℤ) → c ≡ class.Number n → LineStep c (BehindName (keyword.Fixity f)) AtDot
  list_dot : (k : Keyword) → may_end k ≡ true → c ≡ class.Dot → LineStep c (BehindName k) AtEnd
  arrow : c ≡ class.Arrow → LineStep c BehindKind AtKind
  kind : c ≡ class.Keyword keyword.Type → LineStep c AtKind BehindKind
  kind_dot : c ≡ class.Dot → LineStep c BehindKind AtEnd
  bare_head : c ≡ class.Lower → LineStep c AtHead (InType no_type)
  head_bracket : c ≡ class.Open → LineStep c AtHead AtHeadName
  head_name : c ≡ class.Lower → LineStep c AtHeadName AtParameter
  one_parameter : c ≡ class.Upper → LineStep c AtParameter AtParameter
  head_closed : c ≡ class.Close → LineStep c AtParameter (InType no_type)
  in_type : (s r : TypeState) → type_step s c ≡ Goes r → LineStep c (InType s) (InType r)
  type_dot : (s : TypeState) → type_step s c ≡ Ends → c ≡ class.Dot → LineStep c (InType s) AtEnd
  full_stop : c ≡ class.Dot → LineStep c AtDot AtEnd

-- the tokens from one number up to another take one state to another
pub data LineRuns (ls : List Lexeme) : LineState → ℕ → LineState → ℕ → Type 0 where
  stays : (s : LineState) (i : ℕ) → LineRuns ls s i s i
  goes : (s r q : LineState) (i k j : ℕ) → LineStep (class_at ls i) s r → k ≡ i + 1 → LineRuns ls r k q j → LineRuns ls s i q j

abbrev pub IsUnfinished : LineState → Type 0
IsUnfinished AtEnd = ⊥
IsUnfinished _ = Unit {0}

-- the tokens from one number on take a state up to this token, and not over it
pub record LineStops (ls : List Lexeme) (s : LineState) (i n : ℕ) : Type 0 where
  pub state : LineState
  pub runs : LineRuns ls s i state n
  pub unfinished : IsUnfinished state
  pub stops : (q : LineState) → LineStep (class_at ls n) state q → ⊥
  pub high : n ≤ length ls

-- the fault where they stop
pub record StopsIn (spot : ℕ → Spot) (ls : List Lexeme) (s : LineState) (i : ℕ) (f : SyntaxFault) : Type 0 where
  pub number : ℕ
  pub there : LineStops ls s i number
  pub kind : f ≡ refused spot number (innermost (open_brackets ls i number)) (class_at ls number)

-- a declaration is refused for the depth of its type
abbrev pub IsTooDeep : List Lexeme → Keyword → ℕ → SyntaxFault → Type 0
IsTooDeep ls k i f = (f ≡ fault.Limit Nesting) × ((j : ℕ) × (l : Line) × IsBody ls k i j l × (MAX_TYPE_DEPTH < line_depth l))
