-- The grammar of modules: their sentences, the operators that are in force behind each, and their faults.
use Rattle.std.specs.Prelude.{◌≡◌, ◌≢◌, ℕ, suc, ◌+◌, ◌<◌, ◌≤◌, ◌⊎◌, List, [], ◌∷◌, ◌++◌, length, map, All, Some, Result, Ok, Err}
use Rattle.lp_base.specs.declared.place.Spot.{Spot}
use Rattle.lp_base.specs.declared.limit.Limit.TheVariants.{Nesting}
use Rattle.lp_standard.specs.declared.fixity.Fixity.{Fixity}
use Rattle.lp_fixity.specs.declared.fault.FixFault.{FixFault}
use Rattle.lp_fixity.specs.declared.fault.FixFault.TheVariants as fix
use Rattle.lp_fixity.specs.Table.{with_entry}
use Rattle.lp_syntax.specs.declared.class.Keyword.{Keyword}
use Rattle.lp_syntax.specs.declared.class.Keyword.TheVariants as keyword
use Rattle.lp_syntax.specs.declared.class.Class.TheVariants as class
use Rattle.lp_syntax.specs.declared.fault.SyntaxFault.{SyntaxFault}
use Rattle.lp_syntax.specs.declared.fault.SyntaxFault.TheVariants as fault
use Rattle.std.specs.Prelude.{take, slice_get}
use Rattle.lp_base.specs.declared.limits.TheConstants.{MAX_TYPE_DEPTH}
use Rattle.lp_syntax.specs.declared.text.Declaration.{Declaration}
use Rattle.lp_syntax.specs.declared.text.Declaration.TheVariants as declaration
use Rattle.lp_syntax.specs.declared.text.Sentence.{Sentence}
use Rattle.lp_syntax.specs.declared.text.Sentence.TheVariants as sentence
use Rattle.lp_syntax.specs.declared.text.ModuleText.{ModuleText}
use Rattle.lp_syntax.specs.Tokens.{Lexeme, Operators, class_at, bytes_at, open_brackets, piece, Agree}
use Rattle.lp_syntax.specs.Faults.{refused, innermost}
use Rattle.lp_syntax.specs.Symbols.{Tree}
use Rattle.lp_syntax.specs.Terms.{TermAt, IsKind}
use Rattle.lp_syntax.specs.Raw.{Shows}
use Rattle.lp_syntax.specs.Depth.{TermFits, TermTooDeep}
use Rattle.lp_syntax.specs.Declarations.{Line, FixityLine, IsShown, line_depth, LineFits}
use Rattle.lp_syntax.specs.Signatures.{IsHeader, IsLine}

pub data Clause : Type 0 where
  Declared : Line → Clause
  Said : Tree → Clause

-- its type, or its term, is not too deep, and it is
abbrev pub ClauseFits : List Lexeme → Clause → Type 0
ClauseFits ls (Declared l) = LineFits l
ClauseFits ls (Said t) = TermFits ls t

abbrev pub ClauseTooDeep : List Lexeme → Clause → Type 0
ClauseTooDeep ls (Declared l) = MAX_TYPE_DEPTH < line_depth l
ClauseTooDeep ls (Said t) = TermTooDeep ls t

-- a declaration, or a term with a full stop
pub data IsSentence (ops : Operators) (ls : List Lexeme) (i j : ℕ) : Clause → Type 0 where
  declares : (l : Line) → IsLine ls i j l → IsSentence ops ls i j (Declared l)
  says : (e : ℕ) (t : Tree) → TermAt ops ls i e t → class_at ls e ≡ class.Dot → j ≡ e + 1 → IsSentence ops ls i j (Said t)

-- the name has another entry
abbrev pub HasOtherIn : Operators → List ℕ → Fixity × ℕ → Type 0
HasOtherIn ops name e = (has : Fixity × ℕ) × (ops name ≡ Some has) × (has ≢ e)

-- one name gets this fixity; it has no other one
pub record DeclaresOne (name : List ℕ) (e : Fixity × ℕ) (ops after : Operators) : Type 0 where
  pub low : e.1 ≤ 255
  pub free : HasOtherIn ops name e → ⊥
  pub is : (other : List ℕ) → after other ≡ with_entry (name, e) ops other

-- these names get it in turn
pub data DeclaresAll (e : Fixity × ℕ) (ops : Operators) : List (List ℕ) → Operators → Type 0 where
  none_declared : (after : Operators) → ((other : List ℕ) → after other ≡ ops other) → DeclaresAll e ops [] after
  one_declared : (ws vs : List (List ℕ)) (w : List ℕ) (now after : Operators) → DeclaresAll e ops ws now → DeclaresOne w e now after → vs ≡ ws ++ w ∷ [] → DeclaresAll e ops vs after

-- the operators behind a sentence
abbrev pub Follows : List Lexeme → Clause → Operators → Operators → Type 0
Follows ls (Declared (FixityLine ns f n)) ops after = DeclaresAll (f, n) ops (map (bytes_at ls) ns) after
Follows ls _ ops after = (name : List ℕ) → after name ≡ ops name

-- the sentences from one token up to another, each under the operators that those before it left
pub data AreSentences (ls : List Lexeme) (ops : Operators) (i : ℕ) : Operators → ℕ → List Clause → Type 0 where
  no_sentence : AreSentences ls ops i ops i []
  one_sentence : (now after : Operators) (k j : ℕ) (ss ts : List Clause) (s : Clause) → AreSentences ls ops i now k ss → IsSentence now ls k j s → Follows ls s now after → ts ≡ ss ++ s ∷ [] → AreSentences ls ops i after j ts

-- a header and sentences up to the end of the text
pub record IsModule (ops : Operators) (ls : List Lexeme) (ss : List Clause) (after : Operators) : Type 0 where
  pub header : IsHeader ls keyword.Module
  pub sentences : AreSentences ls ops 3 after (length ls) ss

-- what is handed out of a sentence, and of a module
abbrev pub IsSaid : (ℕ → Spot) → List Lexeme → Sentence → Clause → Type 0
IsSaid spot ls (sentence.Declares d) (Declared l) = IsShown spot d l
IsSaid spot ls (sentence.Says term) (Said t) = Shows spot ls term.nodes.items term.root t
IsSaid spot ls _ _ = ⊥

abbrev pub AreSaid : (ℕ → Spot) → List Lexeme → List Sentence → List Clause → Type 0
AreSaid spot ls [] [] = Unit {0}
AreSaid spot ls (d ∷ ds) (s ∷ ss) = IsSaid spot ls d s × AreSaid spot ls ds ss
AreSaid spot ls _ _ = ⊥

-- the sentences up to a token are these
pub record SentencesRead (spot : ℕ → Spot) (ls : List Lexeme) (ops now : Operators) (i : ℕ) (ds : List Sentence) : Type 0 where
  pub before : List Clause
  pub sentences : AreSentences ls ops 3 now i before
  pub said : AreSaid spot ls ds before
  pub fit : All (ClauseFits ls) before

pub record IsModuleText (spot : ℕ → Spot) (ops after : Operators) (ls : List Lexeme) (text : ModuleText) : Type 0 where
  pub header : IsHeader ls keyword.Module
  pub name : text.header ≡ spot 1
  pub read : SentencesRead spot ls ops after (length ls) text.lines.items

-- which fault it is at a token of a sentence: of a declaration; of a term; or behind a whole term at the end of the text, where
-- nothing is open
abbrev pub IsSentenceKind : (ℕ → Spot) → Operators → List Lexeme → ℕ → ℕ → SyntaxFault → Type 0
IsSentenceKind spot ops ls i n f =
    ((k : Keyword) × (class_at ls i ≡ class.Keyword k) × (f ≡ refused spot n (innermost (open_brackets ls i n)) (class_at ls n)))
    ⊎ (IsKind spot ops ls i n f ⊎ ((n ≡ length ls) × ((t : Tree) × TermAt ops ls i n t) × (f ≡ fault.Unexpected (spot n))))

-- the fault of a sentence is at the first token such that no sentence begins with its tokens up to it
pub record SentenceFault (spot : ℕ → Spot) (ops : Operators) (ls : List Lexeme) (i : ℕ) (f : SyntaxFault) : Type 0 where
  pub number : ℕ
  pub low : i ≤ number
  pub high : number ≤ length ls
  pub text : List Lexeme
  pub agrees : Agree number ls text
  pub end : ℕ
  pub clause : Clause
  pub viable : IsSentence ops text i end clause
  pub first : (ms : List Lexeme) → number < length ls → Agree (suc number) ls ms → (j : ℕ) (s : Clause) → IsSentence ops ms i j s → ⊥
  pub none : (j : ℕ) (s : Clause) → IsSentence ops ls i j s → ⊥
  pub kind : IsSentenceKind spot ops ls i number f

-- why a fixity is refused
abbrev pub IsFixFault : Operators → List ℕ → Fixity × ℕ → FixFault → Type 0
IsFixFault ops name e (fix.TooHigh n) = (n ≡ e.1) × (255 < n)
IsFixFault ops name e fix.Otherwise = (e.1 ≤ 255) × HasOtherIn ops name e
IsFixFault ops name e fix.Memory = ⊥

-- a fixity that cannot be declared, at its name; the names before it could
pub record OperatorFault (spot : ℕ → Spot) (ls : List Lexeme) (ops : Operators) (l : Line) (f : SyntaxFault) : Type 0 where
  pub front : List ℕ
  pub name : ℕ
  pub rest : List ℕ
  pub fixity : Fixity
  pub number : ℕ
  pub line_is : l ≡ FixityLine (front ++ name ∷ rest) fixity number
  pub now : Operators
  pub before : DeclaresAll (fixity, number) ops (map (bytes_at ls) front) now
  pub cause : FixFault
  pub is_cause : IsFixFault now (bytes_at ls name) (fixity, number) cause
  pub is : f ≡ fault.Operator cause (spot name)

-- a sentence that is handed out
pub record IsSentenceText (spot : ℕ → Spot) (ops : Operators) (ls : List Lexeme) (i j : ℕ) (d : Sentence) : Type 0 where
  pub clause : Clause
  pub is : IsSentence ops ls i j clause
  pub said : IsSaid spot ls d clause
  pub fits : ClauseFits ls clause

-- why a sentence is refused under the operators that are in force: want of memory, one that is too deep, or none
abbrev pub IsSentenceRefusal : (ℕ → Spot) → Operators → List Lexeme → ℕ → SyntaxFault → Type 0
IsSentenceRefusal spot ops ls i f = (f ≡ fault.Memory) ⊎ (((f ≡ fault.Limit Nesting) × ((j : ℕ) × (s : Clause) × IsSentence ops ls i j s × ClauseTooDeep ls s)) ⊎ SentenceFault spot ops ls i f)

-- so is one whose fixity cannot be declared
abbrev pub IsBadOperator : (ℕ → Spot) → Operators → List Lexeme → ℕ → SyntaxFault → Type 0
IsBadOperator spot ops ls i f = (j : ℕ) × (l : Line) × IsLine ls i j l × OperatorFault spot ls ops l f

-- some module begins with the tokens below this number
pub record ModuleBegins (ops : Operators) (ls : List Lexeme) (n : ℕ) : Type 0 where
  pub text : List Lexeme
  pub agrees : Agree n ls text
  pub clauses : List Clause
  pub after : Operators
  pub is : IsModule ops text clauses after

-- the fault of a header is at the first token such that no module begins with the tokens up to it, the end of the text counted as a
-- token
pub record HeaderFault (spot : ℕ → Spot) (ops : Operators) (ls : List Lexeme) (f : SyntaxFault) : Type 0 where
  pub number : ℕ
  pub high : number ≤ length ls
  pub no_header : IsHeader ls keyword.Module → ⊥
  pub viable : ModuleBegins ops ls number
  pub first : number < length ls → ModuleBegins ops ls (suc number) → ⊥
  pub kind : f ≡ refused spot number (innermost (open_brackets ls 0 number)) (class_at ls number)

-- why a module is refused: in its header, or in the sentence behind those that were read, none of which is too deep
pub record BehindSentences (spot : ℕ → Spot) (ops : Operators) (ls : List Lexeme) (f : SyntaxFault) : Type 0 where
  pub header : IsHeader ls keyword.Module
  pub at : ℕ
  pub now : Operators
  pub before : List Clause
  pub sentences : AreSentences ls ops 3 now at before
  pub fit : All (ClauseFits ls) before
  pub there : at < length ls
  pub refuses : IsSentenceRefusal spot now ls at f ⊎ IsBadOperator spot now ls at f

abbrev pub IsModuleRefusal : (ℕ → Spot) → Operators → List Lexeme → SyntaxFault → Type 0
IsModuleRefusal spot ops ls f = (f ≡ fault.Memory) ⊎ (HeaderFault spot ops ls f ⊎ BehindSentences spot ops ls f)

-- these sentences are given where none is too deep, with the operators behind them in force, unless memory is wanting
abbrev pub IsGivenModule : (ℕ → Spot) → List Lexeme → List Clause → Operators → Operators → Result ModuleText SyntaxFault → Type 0
IsGivenModule spot ls ss after now (Ok text) = AreSaid spot ls text.lines.items ss × All (ClauseFits ls) ss × ((name : List ℕ) → now name ≡ after name)
IsGivenModule spot ls ss after now (Err f) = (f ≡ fault.Memory) ⊎ ((f ≡ fault.Limit Nesting) × (All (ClauseFits ls) ss → ⊥))

-- the names of a fixity sentence up to one of them were declared
pub record IsPartDeclared (ls : List Lexeme) (at : ℕ) (ops now : Operators) : Type 0 where
  pub end : ℕ
  pub front : List ℕ
  pub rest : List ℕ
  pub fixity : Fixity
  pub number : ℕ
  pub line : IsLine ls at end (FixityLine (front ++ rest) fixity number)
  pub declared : DeclaresAll (fixity, number) ops (map (bytes_at ls) front) now

-- what a text that is refused leaves in force: the operators behind the sentences before the one at fault and, of this one, those of the
-- names before the one that cannot be declared
pub record IsLeft (ls : List Lexeme) (ops now : Operators) : Type 0 where
  pub at : ℕ
  pub behind : Operators
  pub before : List Clause
  pub sentences : AreSentences ls ops 3 behind at before
  pub names : ((name : List ℕ) → now name ≡ behind name) ⊎ IsPartDeclared ls at behind now

-- the bytes of a spot
abbrev pub bytes_of : List ℕ → Spot → List ℕ
bytes_of source s = piece source s.from s.to

-- what a declaration does to the operators, by its spots
abbrev pub LineFollows : List ℕ → Declaration → Operators → Operators → Type 0
LineFollows source (declaration.Fixities ss f n) ops after = DeclaresAll (f, n) ops (map (bytes_of source) ss.items) after
LineFollows source _ ops after = (name : List ℕ) → after name ≡ ops name

pub record NameFault (source : List ℕ) (ss : List Spot) (e : Fixity × ℕ) (ops : Operators) (f : SyntaxFault) : Type 0 where
  pub place : ℕ
  pub name : Spot
  pub there : slice_get ss place ≡ Some name
  pub now : Operators
  pub before : DeclaresAll e ops (map (bytes_of source) (take place ss)) now
  pub cause : FixFault
  pub is_cause : IsFixFault now (bytes_of source name) e cause
  pub is : f ≡ fault.Operator cause name

abbrev pub LineRefuses : List ℕ → Declaration → Operators → SyntaxFault → Type 0
LineRefuses source (declaration.Fixities ss f n) ops x = NameFault source ss.items (f, n) ops x
LineRefuses source _ ops x = ⊥

abbrev pub SentenceFollows : List ℕ → Sentence → Operators → Operators → Type 0
SentenceFollows source (sentence.Declares d) ops after = LineFollows source d ops after
SentenceFollows source (sentence.Says t) ops after = (name : List ℕ) → after name ≡ ops name

abbrev pub SentenceRefuses : List ℕ → Sentence → Operators → SyntaxFault → Type 0
SentenceRefuses source (sentence.Declares d) ops f = LineRefuses source d ops f
SentenceRefuses source (sentence.Says t) ops f = ⊥

-- what a sentence that is refused leaves in force, by its spots
abbrev pub LineLeft : List ℕ → Declaration → Operators → Operators → Type 0
LineLeft source (declaration.Fixities ss f n) ops now = (place : ℕ) × DeclaresAll (f, n) ops (map (bytes_of source) (take place ss.items)) now
LineLeft source _ ops now = (name : List ℕ) → now name ≡ ops name

abbrev pub SentenceLeft : List ℕ → Sentence → Operators → Operators → Type 0
SentenceLeft source (sentence.Declares d) ops now = LineLeft source d ops now
SentenceLeft source (sentence.Says t) ops now = (name : List ℕ) → now name ≡ ops name
