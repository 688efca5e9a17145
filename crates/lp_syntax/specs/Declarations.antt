-- The grammar of declarations, from behind their keyword up to behind their full stop: their trees, whose words are the numbers of
-- tokens, and what is handed out of them.
use Rattle.std.specs.Prelude.{◌≡◌, ℕ, ◌+◌, ◌-◌, ◌^◌, ◌≤◌, min, Bool, true, false, nat_lt, List, [], ◌∷◌, ◌++◌, map, Option, Some, None, ℤ, pos, negsuc, if◌then◌else◌}
use Rattle.lp_base.specs.declared.limits.TheConstants.{MAX_TYPE_DEPTH}
use Rattle.lp_base.specs.declared.place.Spot.{Spot}
use Rattle.lp_standard.specs.declared.fixity.Fixity.{Fixity}
use Rattle.lp_syntax.specs.declared.class.Keyword.{Keyword}
use Rattle.lp_syntax.specs.declared.class.Keyword.TheVariants as keyword
use Rattle.lp_syntax.specs.declared.class.Class.{Class}
use Rattle.lp_syntax.specs.declared.class.Class.TheVariants as class
use Rattle.lp_syntax.specs.declared.text.Declaration.{Declaration}
use Rattle.lp_syntax.specs.declared.text.Declaration.TheVariants.{Kinds, LocalKinds, Constants, Locals, Abbreviation, Accumulate, AccumSig, Fixities}
use Rattle.lp_syntax.specs.declared.text.RawType.{RawType}
use Rattle.lp_syntax.specs.Tokens.{Lexeme, class_at}
use Rattle.lp_syntax.specs.Types.{TypeTree, Whole, IsType}
use Rattle.lp_syntax.specs.RawTypes.{Node, ShowsType}
use Rattle.lp_syntax.specs.Depth.{type_depth}
use Rattle.lp_syntax.specs.TypeHeld.{IsRoot, type_text}

-- names, and words
abbrev pub is_name : Class → Bool
is_name class.Lower = true
is_name class.Symbol = true
is_name class.Comma = true
is_name _ = false

abbrev pub is_word : Class → Bool
is_word class.Lower = true
is_word class.Upper = true
is_word _ = false

abbrev pub is_listed : Bool → Class → Bool
is_listed words c = if words then is_word c else is_name c

-- names, or words, with a comma behind each
pub data WithCommas (ls : List Lexeme) (words : Bool) (i : ℕ) : ℕ → List ℕ → Type 0 where
  none_listed : WithCommas ls words i i []
  one_listed : (k j : ℕ) (ns ms : List ℕ) → WithCommas ls words i k ns → is_listed words (class_at ls k) ≡ true → class_at ls (k + 1) ≡ class.Comma → j ≡ k + 1 + 1 → ms ≡ ns ++ k ∷ [] → WithCommas ls words i j ms

-- one or more names, or words, with commas between
pub record AreNames (ls : List Lexeme) (words : Bool) (i j : ℕ) (ns : List ℕ) : Type 0 where
  pub final : ℕ
  pub front : List ℕ
  pub before : WithCommas ls words i final front
  pub fits : is_listed words (class_at ls final) ≡ true
  pub end : j ≡ final + 1
  pub all : ns ≡ front ++ final ∷ []

-- numbers are counted up to 4294967295
abbrev pub one_more : ℕ → ℕ
one_more n = min (n + 1) (2 ^ 32 - 1)

-- `type ->` so many times
pub data KindFront (ls : List Lexeme) (i : ℕ) : ℕ → ℕ → Type 0 where
  no_argument : KindFront ls i i 0
  argument : (k j n m : ℕ) → KindFront ls i k n → class_at ls k ≡ class.Keyword keyword.Type → class_at ls (k + 1) ≡ class.Arrow → j ≡ k + 1 + 1 → m ≡ one_more n → KindFront ls i j m

-- a kind with so many arguments
pub record IsKindText (ls : List Lexeme) (i j n : ℕ) : Type 0 where
  pub final : ℕ
  pub front : KindFront ls i final n
  pub target : class_at ls final ≡ class.Keyword keyword.Type
  pub end : j ≡ final + 1

-- upper-case names
pub data Parameters (ls : List Lexeme) (i : ℕ) : ℕ → List ℕ → Type 0 where
  no_parameter : Parameters ls i i []
  parameter : (k j : ℕ) (ns ms : List ℕ) → Parameters ls i k ns → class_at ls k ≡ class.Upper → j ≡ k + 1 → ms ≡ ns ++ k ∷ [] → Parameters ls i j ms

-- the name of an abbreviation, alone or in brackets with its parameters
pub data IsHeadAt (ls : List Lexeme) : ℕ → ℕ → ℕ → List ℕ → Type 0 where
  bare : (i j n : ℕ) (ns : List ℕ) → class_at ls i ≡ class.Lower → j ≡ i + 1 → n ≡ i → ns ≡ [] → IsHeadAt ls i j n ns
  bracketed : (i k j n : ℕ) (ns : List ℕ) → class_at ls i ≡ class.Open → class_at ls (i + 1) ≡ class.Lower → n ≡ i + 1 → Parameters ls (i + 1 + 1) k ns → class_at ls k ≡ class.Close → j ≡ k + 1 → IsHeadAt ls i j n ns

-- the number of a fixity, 4294967295 where it is greater
abbrev pub saturated : ℤ → ℕ
saturated (pos n) = if nat_lt 4294967295 n then 4294967295 else n
saturated (negsuc n) = 0

pub record HasNumber (ls : List Lexeme) (i n : ℕ) : Type 0 where
  pub written : ℤ
  pub there : class_at ls i ≡ class.Number written
  pub is : n ≡ saturated written

-- a full stop, and the number of the token behind it
abbrev pub EndsAt : List Lexeme → ℕ → ℕ → Type 0
EndsAt ls i e = (class_at ls i ≡ class.Dot) × (e ≡ i + 1)

-- the trees of declarations
pub data Line : Type 0 where
  KindLine : List ℕ → ℕ → Line
  LocalKindLine : List ℕ → Option ℕ → Line
  ConstantLine : List ℕ → TypeTree → Line
  LocalLine : List ℕ → Option TypeTree → Line
  AbbreviationLine : ℕ → List ℕ → TypeTree → Line
  AccumulateLine : List ℕ → Line
  AccumSigLine : List ℕ → Line
  FixityLine : List ℕ → Fixity → ℕ → Line

-- a declaration from behind its keyword up to behind its full stop
pub data IsBody (ls : List Lexeme) : Keyword → ℕ → ℕ → Line → Type 0 where
  kinds : (i j k e n : ℕ) (ns : List ℕ) → AreNames ls false i j ns → IsKindText ls j k n → EndsAt ls k e → IsBody ls keyword.Kind i e (KindLine ns n)
  local_kinds : (i j e : ℕ) (ns : List ℕ) → AreNames ls false i j ns → EndsAt ls j e → IsBody ls keyword.Localkind i e (LocalKindLine ns None)
  local_kinds_of : (i j k e n : ℕ) (ns : List ℕ) → AreNames ls false i j ns → IsKindText ls j k n → EndsAt ls k e → IsBody ls keyword.Localkind i e (LocalKindLine ns (Some n))
  constants : (i j k e : ℕ) (ns : List ℕ) (t : TypeTree) → AreNames ls false i j ns → IsType ls Whole j k t → EndsAt ls k e → IsBody ls keyword.Type i e (ConstantLine ns t)
  locals : (i j e : ℕ) (ns : List ℕ) → AreNames ls false i j ns → EndsAt ls j e → IsBody ls keyword.Local i e (LocalLine ns None)
  locals_of : (i j k e : ℕ) (ns : List ℕ) (t : TypeTree) → AreNames ls false i j ns → IsType ls Whole j k t → EndsAt ls k e → IsBody ls keyword.Local i e (LocalLine ns (Some t))
  abbreviation : (i j k e n : ℕ) (ns : List ℕ) (t : TypeTree) → IsHeadAt ls i j n ns → IsType ls Whole j k t → EndsAt ls k e → IsBody ls keyword.Typeabbrev i e (AbbreviationLine n ns t)
  accumulate : (i j e : ℕ) (ns : List ℕ) → AreNames ls true i j ns → EndsAt ls j e → IsBody ls keyword.Accumulate i e (AccumulateLine ns)
  accum_sig : (i j e : ℕ) (ns : List ℕ) → AreNames ls true i j ns → EndsAt ls j e → IsBody ls keyword.AccumSig i e (AccumSigLine ns)
  fixities : (i j e n : ℕ) (f : Fixity) (ns : List ℕ) → AreNames ls false i j ns → HasNumber ls j n → EndsAt ls (j + 1) e → IsBody ls (keyword.Fixity f) i e (FixityLine ns f n)

-- how deep the type of a declaration is, 0 where it has none, and that it is at most 255 deep
abbrev pub line_depth : Line → ℕ
line_depth (ConstantLine ns t) = type_depth t
line_depth (LocalLine ns (Some t)) = type_depth t
line_depth (AbbreviationLine n ns t) = type_depth t
line_depth _ = 0

abbrev pub LineFits : Line → Type 0
LineFits l = line_depth l ≤ MAX_TYPE_DEPTH

-- the spots of numbers of which this holds
pub record Spotted (spot : ℕ → Spot) (Holds : List ℕ → Type 0) (ss : List Spot) : Type 0 where
  pub numbers : List ℕ
  pub holds : Holds numbers
  pub spots : ss ≡ map spot numbers

-- what is handed out of names, of a head, and of a type
abbrev pub AreListed : (ℕ → Spot) → List Lexeme → Bool → ℕ → ℕ → List Spot → Type 0
AreListed spot ls words i j ss = Spotted spot (AreNames ls words i j) ss

pub record IsHead (spot : ℕ → Spot) (ls : List Lexeme) (i j : ℕ) (s : Spot) (ss : List Spot) : Type 0 where
  pub number : ℕ
  pub numbers : List ℕ
  pub head : IsHeadAt ls i j number numbers
  pub spot_is : s ≡ spot number
  pub spots : ss ≡ map spot numbers

abbrev pub IsTypeAt : (ℕ → Spot) → List Lexeme → ℕ → ℕ → RawType → Type 0
IsTypeAt spot ls i j ty = IsRoot (type_text spot ls i) ty.nodes.items j ty.root

abbrev pub IsShownType : (ℕ → Spot) → RawType → TypeTree → Type 0
IsShownType spot ty t = ShowsType spot ty.nodes.items (Node ty.root) t

-- what is handed out of a declaration
abbrev pub IsShown : (ℕ → Spot) → Declaration → Line → Type 0
IsShown spot (Kinds ss n) (KindLine ns m) = (ss.items ≡ map spot ns) × (n ≡ m)
IsShown spot (LocalKinds ss n) (LocalKindLine ns m) = (ss.items ≡ map spot ns) × (n ≡ m)
IsShown spot (Constants ss ty) (ConstantLine ns t) = (ss.items ≡ map spot ns) × IsShownType spot ty t
IsShown spot (Locals ss None) (LocalLine ns None) = ss.items ≡ map spot ns
IsShown spot (Locals ss (Some ty)) (LocalLine ns (Some t)) = (ss.items ≡ map spot ns) × IsShownType spot ty t
IsShown spot (Abbreviation s ss ty) (AbbreviationLine n ns t) = (s ≡ spot n) × (ss.items ≡ map spot ns) × IsShownType spot ty t
IsShown spot (Accumulate ss) (AccumulateLine ns) = ss.items ≡ map spot ns
IsShown spot (AccumSig ss) (AccumSigLine ns) = ss.items ≡ map spot ns
IsShown spot (Fixities ss f n) (FixityLine ns g m) = (ss.items ≡ map spot ns) × (f ≡ g) × (n ≡ m)
IsShown spot _ _ = ⊥

pub record IsDeclared (spot : ℕ → Spot) (ls : List Lexeme) (k : Keyword) (i e : ℕ) (d : Declaration) : Type 0 where
  pub line : Line
  pub body : IsBody ls k i e line
  pub shown : IsShown spot d line
  pub fits : LineFits line
