-- The sentences of a text that name other files or declare fixities, whatever else it holds.
use Rattle.std.specs.Prelude.{◌≡◌, ◌≢◌, ℕ, ◌+◌, ◌≤◌, Bool, true, false, List, [], ◌∷◌, ◌++◌, length, map, Option, Some, None}
use Rattle.lp_base.specs.declared.place.Spot.{Spot}
use Rattle.lp_standard.specs.declared.fixity.Fixity.{Fixity}
use Rattle.lp_syntax.specs.declared.class.Keyword.{Keyword}
use Rattle.lp_syntax.specs.declared.class.Keyword.TheVariants as keyword
use Rattle.lp_syntax.specs.declared.class.Class.TheVariants as class
use Rattle.lp_syntax.specs.declared.text.Declaration.{Declaration}
use Rattle.lp_syntax.specs.declared.text.Declaration.TheVariants.{Accumulate, AccumSig, Fixities}
use Rattle.lp_syntax.specs.declared.text.FixityLine.{FixityLine as FixityEntry}
use Rattle.lp_syntax.specs.declared.text.References.{References}
use Rattle.lp_syntax.specs.Tokens.{Lexeme, class_at}
use Rattle.lp_syntax.specs.Declarations.{Line, AccumulateLine, AccumSigLine, FixityLine, IsShown}
use Rattle.lp_syntax.specs.Signatures.{IsLine}

abbrev pub refers : Line → Bool
refers (AccumulateLine ns) = true
refers (AccumSigLine ns) = true
refers (FixityLine ns f n) = true
refers _ = false

abbrev pub refers_word : Keyword → Bool
refers_word keyword.Accumulate = true
refers_word keyword.AccumSig = true
refers_word (keyword.Fixity f) = true
refers_word _ = false

-- the number behind the next full stop, or behind the text
pub data NextSentence (ls : List Lexeme) : ℕ → ℕ → Type 0 where
  stop_here : (i j : ℕ) → class_at ls i ≡ class.Dot → j ≡ i + 1 → NextSentence ls i j
  at_last : (i : ℕ) → length ls ≤ i → NextSentence ls i i
  later : (i j k : ℕ) → class_at ls i ≢ class.Dot → k ≡ i + 1 → NextSentence ls k j → NextSentence ls i j

-- no sentence of these kinds begins here
abbrev pub NoReference : List Lexeme → ℕ → Type 0
NoReference ls i = (j : ℕ) (l : Line) → IsLine ls i j l → refers l ≡ true → ⊥

-- the sentences of these kinds that begin behind a full stop, or at the beginning, up to a token
pub data Refer (ls : List Lexeme) : ℕ → List Line → Type 0 where
  none_yet : Refer ls 0 []
  one_refers : (i e j : ℕ) (ds es : List Line) (l : Line) → Refer ls i ds → IsLine ls i e l → refers l ≡ true → NextSentence ls i j → es ≡ ds ++ l ∷ [] → Refer ls j es
  none_refers : (i j : ℕ) (ds : List Line) → Refer ls i ds → NoReference ls i → NextSentence ls i j → Refer ls j ds

-- what they say
abbrev pub words_of : Line → List ℕ
words_of (AccumulateLine ns) = ns
words_of _ = []

abbrev pub sig_words_of : Line → List ℕ
sig_words_of (AccumSigLine ns) = ns
sig_words_of _ = []

abbrev pub entry_for : Fixity → ℕ → Spot → FixityEntry
entry_for f n s = record { name = s; fixity = f; number = n }

abbrev pub entries_of : (ℕ → Spot) → Line → List FixityEntry
entries_of spot (FixityLine ns f n) = map (entry_for f n) (map spot ns)
entries_of spot _ = []

abbrev pub all_of : {A : Type 0} → (Line → List A) → List Line → List A
all_of f [] = []
all_of f (l ∷ ls) = f l ++ all_of f ls

-- what is handed out of the sentences up to a token
pub record AreReferences (spot : ℕ → Spot) (ls : List Lexeme) (i : ℕ) (found : References) : Type 0 where
  pub lines : List Line
  pub refer : Refer ls i lines
  pub accumulate : found.accumulate.items ≡ map spot (all_of words_of lines)
  pub accum_sig : found.accum_sig.items ≡ map spot (all_of sig_words_of lines)
  pub fixities : found.fixities.items ≡ all_of (entries_of spot) lines

-- what is handed out of one
abbrev pub words_in : Declaration → List Spot
words_in (Accumulate ss) = ss.items
words_in _ = []

abbrev pub sig_words_in : Declaration → List Spot
sig_words_in (AccumSig ss) = ss.items
sig_words_in _ = []

abbrev pub entries_in : Declaration → List FixityEntry
entries_in (Fixities ss f n) = map (entry_for f n) ss.items
entries_in _ = []

abbrev pub IsReferenceAt : (ℕ → Spot) → List Lexeme → ℕ → Option Declaration → Type 0
IsReferenceAt spot ls i None = NoReference ls i
IsReferenceAt spot ls i (Some d) = (j : ℕ) × (l : Line) × IsLine ls i j l × (refers l ≡ true) × IsShown spot d l
