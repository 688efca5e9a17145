-- The words that a module's text names other files by are those of the sentences that refer to files.
use Rattle.std.proofs.Common.{◌≡◌, ℕ, zero, suc, ◌+◌, ◌<◌, ◌≤◌, List, [], ◌∷◌, ◌++◌, length, map, Bool, true, false, Some, None, refl, sym, ap, subst, ◌∙◌, arith, inl, inr, append_assoc, append-nil}
use Rattle.std.specs.Prelude.{◌⊎◌, if◌then◌else◌}
use Rattle.std.proofs.lemmas.List.{map-append}
use Rattle.std.proofs.lemmas.Option.{slice_get_past}
use Rattle.lp_base.specs.declared.place.Spot.{Spot}
use Rattle.lp_syntax.specs.declared.class.Class.{Class}
use Rattle.lp_syntax.specs.declared.class.Class.TheVariants as class
use Rattle.lp_syntax.specs.declared.class.Keyword.{Keyword}
use Rattle.lp_syntax.specs.declared.class.Keyword.TheVariants as keyword
use Rattle.lp_syntax.specs.declared.symbol.Sym.{Sym}
use Rattle.lp_syntax.specs.declared.symbol.Sym.TheVariants as symbol
use Rattle.lp_syntax.specs.declared.text.Declaration.{Declaration}
use Rattle.lp_syntax.specs.declared.text.Declaration.TheVariants.{Kinds, LocalKinds, Constants, Locals, Abbreviation, Accumulate, AccumSig, Fixities}
use Rattle.lp_syntax.specs.declared.text.ModuleText.{ModuleText}
use Rattle.lp_syntax.specs.declared.text.References.{References}
use Rattle.lp_syntax.specs.declared.text.Sentence.{Sentence}
use Rattle.lp_syntax.specs.declared.text.Sentence.TheVariants.{Declares, Says}
use Rattle.lp_syntax.specs.Tokens.{Lexeme, Operators, class_at, class_in, bytes_at, symbol_of, symbol_at}
use Rattle.lp_syntax.specs.Symbols.{Tree}
use Rattle.lp_syntax.specs.Types.{TypeTree, Level, IsType, word, variable, group, head, applied, side_head, side_argument, target, arrow}
use Rattle.lp_syntax.specs.Machine.{State, Move, Goes, Stops, Reached, run, go_on, step, st, Wants}
use Rattle.lp_syntax.specs.Terms.{Spells, done, token, note, TermAt}
use Rattle.lp_syntax.specs.Declarations.{is_word, is_listed, WithCommas, none_listed, one_listed, AreNames, KindFront, no_argument, argument, IsKindText, Parameters, no_parameter, parameter, IsHeadAt, bare, bracketed, Line, KindLine, LocalKindLine, ConstantLine, LocalLine, AbbreviationLine, AccumulateLine, AccumSigLine, FixityLine, IsShown, IsBody, kinds, local_kinds, local_kinds_of, constants, locals, locals_of, abbreviation, accumulate, accum_sig, fixities}
use Rattle.lp_syntax.specs.Signatures.{IsHeader, IsLine}
use Rattle.lp_syntax.specs.Modules.{Clause, Declared, Said, IsSentence, declares, says, AreSentences, no_sentence, one_sentence, AreSaid, IsModuleText}
use Rattle.lp_syntax.specs.References.{refers, words_of, sig_words_of, all_of, NextSentence, stop_here, at_last, later, NoReference, Refer, none_yet, one_refers, none_refers, AreReferences}
use Rattle.lp_syntax.proofs.LineUnique.{same_line}
use Rattle.lp_syntax.proofs.Referring.{other_keyword}
use Rattle.lp_syntax.proofs.TermSteps.{dot_symbol, other_stops}
use Rattle.lp_syntax.proofs.TermFaults.{term_read}
use Rattle.lp_sig.specs.Loading.{accum_words}
use Rattle.lp_sig.specs.Modules.{declarations}
use Rattle.lp_module.specs.Words.{named_words, accumulate_words}
use Rattle.lp_sig.proofs.Naming.{accum_append}

-- two numbers
cut : (m j : ℕ) → (m < j) ⊎ (j ≤ m)
cut m zero = inr (omega arith)
cut zero (suc j) = inl (omega arith)
cut (suc m) (suc j) = next (cut m j)
  where
    next : (m < j) ⊎ (j ≤ m) → (suc m < suc j) ⊎ (suc j ≤ suc m)
    next (inl h) = inl (omega (arith, h))
    next (inr h) = inr (omega (arith, h))

-- no full stop stands at these tokens
record Clear (ls : List Lexeme) (i j : ℕ) : Type 0 where
  pub up : i ≤ j
  pub none : (m : ℕ) → i ≤ m → m < j → class_at ls m ≡ class.Dot → ⊥

empty : (ls : List Lexeme) (i : ℕ) → Clear ls i i
empty ls i = record { up = omega arith; none = λ m a b e. omega (arith, a, b) }

one : (ls : List Lexeme) (i j : ℕ) (c : Class) → class_at ls i ≡ c → (class.Dot ≡ c → ⊥) → j ≡ i + 1 → Clear ls i j
one ls i j c is never e = record { up = omega (arith, e); none = λ m a b d. let z : m ≡ i = omega (arith, a, b, e) in never (sym d ∙ ap (class_at ls) z ∙ is) }

join : (ls : List Lexeme) (i j k : ℕ) → Clear ls i j → Clear ls j k → Clear ls i k
join ls i j k a b = record { up = let x = a.up in let y = b.up in omega (arith, x, y); none = λ m low high e. by m low high e (cut m j) }
  where
    by : (m : ℕ) → i ≤ m → m < k → class_at ls m ≡ class.Dot → (m < j) ⊎ (j ≤ m) → ⊥
    by m low high e (inl h) = a.none m low h e
    by m low high e (inr h) = b.none m h high e

-- names, kinds and types have none
listed_clear : (ls : List Lexeme) (words : Bool) (i j : ℕ) → is_listed words (class_at ls i) ≡ true → j ≡ i + 1 → Clear ls i j
listed_clear ls words i j fits e = record {
  up = omega (arith, e);
  none = λ m a b d. let z : m ≡ i = omega (arith, a, b, e) in no words
      (sym (ap (is_listed words) (sym (ap (class_at ls) z) ∙ d)) ∙ fits);
}
  where
    no : (w : Bool) → is_listed w class.Dot ≡ true → ⊥
    no true f = absurd (cc)
    no false f = absurd (cc)

commas_clear : (ls : List Lexeme) (words : Bool) (i j : ℕ) (ns : List ℕ) → WithCommas ls words i j ns → Clear ls i j
commas_clear ls words i j ns none_listed = empty ls i
commas_clear ls words i j ns (one_listed k _ ms _ w fits comma e f) =
    join ls i k j (commas_clear ls words i k ms w) (join ls k (k + 1) j (listed_clear ls words k (k + 1) fits refl) (one ls (k + 1) j class.Comma comma (λ q. absurd (cc)) e))

names_clear : (ls : List Lexeme) (words : Bool) (i j : ℕ) (ns : List ℕ) → AreNames ls words i j ns → Clear ls i j
names_clear ls words i j ns a = join ls i a.final j (commas_clear ls words i a.final a.front a.before) (listed_clear ls words a.final j a.fits a.end)

front_clear : (ls : List Lexeme) (i j n : ℕ) → KindFront ls i j n → Clear ls i j
front_clear ls i j n no_argument = empty ls i
front_clear ls i j n (argument k _ m _ f type arr e g) =
    join ls i k j (front_clear ls i k m f) (join ls k (k + 1) j (one ls k (k + 1) (class.Keyword keyword.Type) type (λ q. absurd (cc)) refl) (one ls (k + 1) j class.Arrow arr (λ q. absurd (cc)) e))

kind_clear : (ls : List Lexeme) (i j n : ℕ) → IsKindText ls i j n → Clear ls i j
kind_clear ls i j n k = join ls i k.final j (front_clear ls i k.final n k.front) (one ls k.final j (class.Keyword keyword.Type) k.target (λ q. absurd (cc)) k.end)

parameters_clear : (ls : List Lexeme) (i j : ℕ) (ns : List ℕ) → Parameters ls i j ns → Clear ls i j
parameters_clear ls i j ns no_parameter = empty ls i
parameters_clear ls i j ns (parameter k _ ms _ p upper e f) = join ls i k j (parameters_clear ls i k ms p) (one ls k j class.Upper upper (λ q. absurd (cc)) e)

head_clear : (ls : List Lexeme) (i j n : ℕ) (ns : List ℕ) → IsHeadAt ls i j n ns → Clear ls i j
head_clear ls i j n ns (bare _ _ _ _ lower e f g) = one ls i j class.Lower lower (λ q. absurd (cc)) e
head_clear ls i j n ns (bracketed _ k _ _ _ opens lower e p closes f) =
    join ls i (i + 1) j (one ls i (i + 1) class.Open opens (λ q. absurd (cc)) refl)
    (join ls (i + 1) (i + 1 + 1) j (one ls (i + 1) (i + 1 + 1) class.Lower lower (λ q. absurd (cc)) refl)
    (join ls (i + 1 + 1) k j (parameters_clear ls (i + 1 + 1) k ns p) (one ls k j class.Close closes (λ q. absurd (cc)) f)))

one_on : (i : ℕ) → suc i ≡ i + 1
one_on i = omega arith

type_clear : (ls : List Lexeme) (l : Level) (i j : ℕ) (t : TypeTree) → IsType ls l i j t → Clear ls i j
type_clear ls l i j t (word _ lower) = one ls i (suc i) class.Lower lower (λ q. absurd (cc)) (one_on i)
type_clear ls l i j t (variable _ upper) = one ls i (suc i) class.Upper upper (λ q. absurd (cc)) (one_on i)
type_clear ls l i j t (group _ k _ opens inner closes) =
    join ls i (suc i) (suc k) (one ls i (suc i) class.Open opens (λ q. absurd (cc)) (one_on i))
    (join ls (suc i) k (suc k) (type_clear ls _ (suc i) k t inner) (one ls k (suc k) class.Close closes (λ q. absurd (cc)) (one_on k)))
type_clear ls l i j t (head _ lower) = one ls i (suc i) class.Lower lower (λ q. absurd (cc)) (one_on i)
type_clear ls l i j t (applied _ k _ u v f a) = join ls i k j (type_clear ls _ i k u f) (type_clear ls _ k j v a)
type_clear ls l i j t (side_head _ _ _ h) = type_clear ls _ i j t h
type_clear ls l i j t (side_argument _ _ _ h) = type_clear ls _ i j t h
type_clear ls l i j t (target _ _ _ h) = type_clear ls _ i j t h
type_clear ls l i j t (arrow _ k _ u v s is r) =
    join ls i k j (type_clear ls _ i k u s) (join ls k (suc k) j (one ls k (suc k) class.Arrow is (λ q. absurd (cc)) (one_on k)) (type_clear ls _ (suc k) j v r))

-- a sentence ends at its first full stop
record EndsFirst (ls : List Lexeme) (i j : ℕ) : Type 0 where
  pub at : ℕ
  pub clear : Clear ls i at
  pub dot : class_at ls at ≡ class.Dot
  pub end : j ≡ at + 1

body_stops : (ls : List Lexeme) (k : Keyword) (i e : ℕ) (l : Line) → IsBody ls k i e l → EndsFirst ls i e
body_stops ls k i e l (kinds _ j m _ n ns a b (d, f)) = record { at = m; clear = join ls i j m (names_clear ls false i j ns a) (kind_clear ls j m n b); dot = d; end = f }
body_stops ls k i e l (local_kinds _ j _ ns a (d, f)) = record { at = j; clear = names_clear ls false i j ns a; dot = d; end = f }
body_stops ls k i e l (local_kinds_of _ j m _ n ns a b (d, f)) = record { at = m; clear = join ls i j m (names_clear ls false i j ns a) (kind_clear ls j m n b); dot = d; end = f }
body_stops ls k i e l (constants _ j m _ ns t a b (d, f)) = record { at = m; clear = join ls i j m (names_clear ls false i j ns a) (type_clear ls _ j m t b); dot = d; end = f }
body_stops ls k i e l (locals _ j _ ns a (d, f)) = record { at = j; clear = names_clear ls false i j ns a; dot = d; end = f }
body_stops ls k i e l (locals_of _ j m _ ns t a b (d, f)) = record { at = m; clear = join ls i j m (names_clear ls false i j ns a) (type_clear ls _ j m t b); dot = d; end = f }
body_stops ls k i e l (abbreviation _ j m _ n ns t a b (d, f)) = record { at = m; clear = join ls i j m (head_clear ls i j n ns a) (type_clear ls _ j m t b); dot = d; end = f }
body_stops ls k i e l (accumulate _ j _ ns a (d, f)) = record { at = j; clear = names_clear ls true i j ns a; dot = d; end = f }
body_stops ls k i e l (accum_sig _ j _ ns a (d, f)) = record { at = j; clear = names_clear ls true i j ns a; dot = d; end = f }
body_stops ls k i e l (fixities _ j _ n x ns a b (d, f)) =
    record { at = j + 1; clear = join ls i j (j + 1) (names_clear ls false i j ns a) (one ls j (j + 1) (class.Number b.written) b.there (λ q. absurd (cc)) refl); dot = d; end = f }

line_stops : (ls : List Lexeme) (i j : ℕ) (l : Line) → IsLine ls i j l → EndsFirst ls i j
line_stops ls i j l h =
    let s = body_stops ls h.word (i + 1) j l h.body in
    record { at = s.at; clear = join ls i (i + 1) s.at (one ls i (i + 1) (class.Keyword h.word) h.there (λ q. absurd (cc)) refl) s.clear; dot = s.dot; end = s.end }

-- a term has none
run_on : (s t : State) (c : Sym) (cs : List Sym) → run s (c ∷ cs) ≡ Reached t → (u : State) × (run u cs ≡ Reached t)
run_on s t c cs e = by (step s c) e
  where
    by : (m : Move) → go_on (λ t. run t cs) c cs m ≡ Reached t → (u : State) × (run u cs ≡ Reached t)
    by (Goes u) e = (u, e)
    by (Stops f) e = absurd (cc)

spelled_clear : (ops : Operators) (ls : List Lexeme) (i j : ℕ) (cs : List Sym) → Spells ops ls i j cs → (s t : State) → run s cs ≡ Reached t → Clear ls i j
spelled_clear ops ls i j cs (done _) s t e = empty ls i
spelled_clear ops ls i j cs (token _ _ ds colon more) s t e =
    let (u, f) = run_on s t (symbol_at ops ls i) ds e in
    join ls i (suc i) j (record { up = omega arith; none = λ m a b d. let z : m ≡ i = omega (arith, a, b) in stuck (sym (ap (class_at ls) z) ∙ d) }) (spelled_clear ops ls (suc i) j ds more u t f)
  where
    stuck : class_at ls i ≡ class.Dot → ⊥
    stuck d = let f = sym (ap (λ c. run s (c ∷ ds)) (dot_symbol ops ls i d) ∙ ap (go_on (λ t. run t ds) symbol.Other ds) (other_stops s.frames s.mode)) ∙ e in absurd (cc)
spelled_clear ops ls i j cs (note _ k _ t ds colon type backslash more) s u e =
    let (v, f) = run_on s u (symbol.Binds (Some i)) ds e in
    join ls i (suc i) j (one ls i (suc i) class.Colon colon (λ q. absurd (cc)) (one_on i)) (join ls (suc i) k j (type_clear ls _ (suc i) k t type)
    (join ls k (suc k) j (one ls k (suc k) class.Backslash backslash (λ q. absurd (cc)) (one_on k)) (spelled_clear ops ls (suc k) j ds more v u f)))

term_stops : (ops : Operators) (ls : List Lexeme) (i e j : ℕ) (t : Tree) → TermAt ops ls i e t → class_at ls e ≡ class.Dot → j ≡ e + 1 → EndsFirst ls i j
term_stops ops ls i e j t h d f = let (s, r) = term_read ops ls i e t h in record { at = e; clear = spelled_clear ops ls i e r.symbols r.spells (st [] Wants) s r.runs; dot = d; end = f }

-- nor does it begin with a keyword
keyword_symbol : (ops : Operators) (ls : List Lexeme) (i : ℕ) (k : Keyword) → class_at ls i ≡ class.Keyword k → symbol_at ops ls i ≡ symbol.Other
unfolding symbol_at
keyword_symbol ops ls i k e = ap (λ c. symbol_of i c (ops (bytes_at ls i))) e

no_keyword_there : (ops : Operators) (ls : List Lexeme) (i e : ℕ) (t : Tree) (k : Keyword) → TermAt ops ls i e t → class_at ls e ≡ class.Dot → class_at ls i ≡ class.Keyword k → ⊥
no_keyword_there ops ls i e t k h d is = let (s, r) = term_read ops ls i e t h in by i e r.symbols r.spells s r.runs d is
  where
    by : (i e : ℕ) (cs : List Sym) → Spells ops ls i e cs → (s : State) → run (st [] Wants) cs ≡ Reached s → class_at ls e ≡ class.Dot → class_at ls i ≡ class.Keyword k → ⊥
    by i e cs (done _) s run_is d is = let z = sym d ∙ is in absurd (cc)
    by i e cs (token _ _ ds colon more) s run_is d is =
        let f = sym (ap (λ c. run (st [] Wants) (c ∷ ds)) (keyword_symbol ops ls i k is) ∙ ap (go_on (λ t. run t ds) symbol.Other ds) (other_stops [] Wants)) ∙ run_is in absurd (cc)
    by i e cs (note _ m _ t ds colon type backslash more) s run_is d is = let z = sym colon ∙ is in absurd (cc)

sentence_ends : (ops : Operators) (ls : List Lexeme) (i j : ℕ) (c : Clause) → IsSentence ops ls i j c → EndsFirst ls i j
sentence_ends ops ls i j c (declares l h) = line_stops ls i j l h
sentence_ends ops ls i j c (says e t h d f) = term_stops ops ls i e j t h d f

header_ends : (ls : List Lexeme) (k : Keyword) → IsHeader ls k → EndsFirst ls 0 3
header_ends ls k h = record {
  at = 2;
  clear = join ls 0 1 2 (one ls 0 1 (class.Keyword k) h.first (λ q. absurd (cc)) refl)
      (record {
        up = omega arith;
        none = λ m a b d. let z : m ≡ 1 = omega (arith, a, b) in no
            (sym (ap is_word (sym (ap (class_at ls) z) ∙ d)) ∙ h.second);
      });
  dot = h.third;
  end = refl;
}
  where
    no : is_word class.Dot ≡ true → ⊥
    no f = absurd (cc)

-- tokens lie in the text
past : (ls : List Lexeme) (i : ℕ) → length ls ≤ i → class_at ls i ≡ class.End
unfolding class_at
past ls i l = ap class_in (slice_get_past ls i l)

-- the next sentence begins behind it
next_from : (ls : List Lexeme) (at i j : ℕ) → class_at ls at ≡ class.Dot → ((m : ℕ) → i ≤ m → m < at → class_at ls m ≡ class.Dot → ⊥) → i ≤ at → NextSentence ls i j → j ≡ at + 1
next_from ls at i j d none low (stop_here _ _ e f) = by (cut i at)
  where
    by : (i < at) ⊎ (at ≤ i) → j ≡ at + 1
    by (inl h) = absurd (none i (omega arith) h e)
    by (inr h) = omega (arith, f, h, low)
next_from ls at i j d none low (at_last _ l) = let z = sym (past ls at (omega (arith, l, low))) ∙ d in absurd (cc)
next_from ls at i j d none low (later _ _ k never e more) =
    let up : k ≤ at = by (cut at k) in next_from ls at k j d (λ m a b. none m (omega (arith, a, e)) b) up more
  where
    by : (at < k) ⊎ (k ≤ at) → k ≤ at
    by (inl h) = let z : at ≡ i = omega (arith, h, e, low) in absurd (never (ap (class_at ls) (sym z) ∙ d))
    by (inr h) = h

next_is : (ls : List Lexeme) (i k j : ℕ) → EndsFirst ls i k → NextSentence ls i j → j ≡ k
next_is ls i k j s n = next_from ls s.at i j s.dot s.clear.none s.clear.up n ∙ sym s.end

next_up : (ls : List Lexeme) (i j : ℕ) → NextSentence ls i j → i ≤ j
next_up ls i j (stop_here _ _ e f) = omega (arith, f)
next_up ls i j (at_last _ l) = omega arith
next_up ls i j (later _ _ k never e more) = let h = next_up ls k j more in omega (arith, h, e)

-- sentences one after the other, from the first on
data Chain (ls : List Lexeme) : ℕ → List Clause → ℕ → Type 0 where
  stopped : (i n : ℕ) → i ≡ n → Chain ls i [] n
  onward : (i k n : ℕ) (s : Clause) (ss : List Clause) (now : Operators) → IsSentence now ls i k s → Chain ls k ss n → Chain ls i (s ∷ ss) n

chain_last : (ls : List Lexeme) (i k j : ℕ) (ss : List Clause) (s : Clause) (now : Operators) → Chain ls i ss k → IsSentence now ls k j s → Chain ls i (ss ++ s ∷ []) j
chain_last ls i k j ss s now (stopped _ _ e) h = subst (λ i. Chain ls i (s ∷ []) j) (sym e) (onward k j j s [] now h (stopped j j refl))
chain_last ls i k j ss s now (onward _ m _ t ts now' sentence more) h = onward i m j t (ts ++ s ∷ []) now' sentence (chain_last ls m k j ts s now more h)

chain_of : (ls : List Lexeme) (ops : Operators) (i : ℕ) (after : Operators) (j : ℕ) (ss : List Clause) → AreSentences ls ops i after j ss → Chain ls i ss j
chain_of ls ops i after j ss no_sentence = stopped i i refl
chain_of ls ops i after j ss (one_sentence now _ k _ us _ s before h follows e) = subst (λ l. Chain ls i l j) (sym e) (chain_last ls i k j us s now (chain_of ls ops i now k us before) h)

chain_up : (ls : List Lexeme) (i n : ℕ) (ss : List Clause) → Chain ls i ss n → i ≤ n
chain_up ls i n ss (stopped _ _ e) = omega (arith, e)
chain_up ls i n ss (onward _ k _ s ts now h more) =
    let a = sentence_ends now ls i k s h in
    let up = a.clear.up in
    let e = a.end in
    let b = chain_up ls k n ts more in
    omega (arith, up, e, b)

-- the lines among sentences that refer to files
abbrev referring : List Clause → List Line
referring [] = []
referring (Declared l ∷ ss) = if refers l then l ∷ referring ss else referring ss
referring (Said t ∷ ss) = referring ss

referring_last : (ss : List Clause) (s : Clause) → referring (ss ++ s ∷ []) ≡ referring ss ++ referring (s ∷ [])
referring_last [] s = refl
referring_last (Declared l ∷ ss) s = by (referring_last ss s) (refers l)
  where
    by : referring (ss ++ s ∷ []) ≡ referring ss ++ referring (s ∷ []) → (t : Bool) →
        (if t then l ∷ referring (ss ++ s ∷ []) else referring (ss ++ s ∷ [])) ≡ (if t then l ∷ referring ss else referring ss) ++ referring (s ∷ [])
    by h true = ap (λ ls. l ∷ ls) h
    by h false = h
referring_last (Said t ∷ ss) s = referring_last ss s

-- how far the sentences that refer are read
data Read (ls : List Lexeme) (all : List Clause) : ℕ → List Line → Type 0 where
  at_start : (j : ℕ) (es : List Line) → j ≡ 0 → es ≡ [] → Read ls all j es
  between : (j : ℕ) (es : List Line) (ps rest : List Clause) → all ≡ ps ++ rest → es ≡ referring ps → Chain ls j rest (length ls) → Read ls all j es
  behind : (j : ℕ) (es : List Line) → length ls ≤ j → es ≡ referring all → Read ls all j es

module _ (ls : List Lexeme) (all : List Clause) (header : IsHeader ls keyword.Module) (chain : Chain ls 3 all (length ls)) where
  no_line : (i j : ℕ) (l : Line) → length ls ≤ i → IsLine ls i j l → ⊥
  no_line i j l h line = let z = sym (past ls i h) ∙ line.there in absurd (cc)

  one_read : (i e j : ℕ) (ds es : List Line) (l : Line) → Read ls all i ds → IsLine ls i e l → refers l ≡ true → NextSentence ls i j → es ≡ ds ++ l ∷ [] → Read ls all j es
  one_read i e j ds es l (at_start _ _ z none) line r next is = absurd (other_keyword ls 0 keyword.Module header.first refl e l (subst (λ i. IsLine ls i e l) z line) r)
  one_read i e j ds es l (between _ _ ps rest whole so chain) line r next is = by rest whole chain
    where
      sentence : (k : ℕ) (s : Clause) (ss : List Clause) (now : Operators) → all ≡ ps ++ s ∷ ss → IsSentence now ls i k s → Chain ls k ss (length ls) → Read ls all j es
      sentence k s ss now whole (declares m h) more =
          let same : l ≡ m = (same_line ls i e k l m line h).line in
          let end : j ≡ k = next_is ls i k j (line_stops ls i k m h) next in
          let one_more : referring (ps ++ Declared m ∷ []) ≡ ds ++ l ∷ [] =
          referring_last ps (Declared m) ∙ ap (λ l. referring ps ++ referring (Declared l ∷ [])) (sym same) ∙ ap
          (λ t. referring ps ++ (if t then l ∷ [] else [])) r ∙ ap (λ ls. ls ++ l ∷ []) (sym so) in
          between j es (ps ++ Declared m ∷ []) ss (whole ∙ sym (append_assoc ps (Declared m ∷ []) ss)) (is ∙ sym one_more) (subst (λ k. Chain ls k ss (length ls)) (sym end) more)
      sentence k s ss now whole (says d t h dot f) more = absurd (no_keyword_there now ls i d t line.word h dot line.there)

      by : (rest : List Clause) → all ≡ ps ++ rest → Chain ls i rest (length ls) → Read ls all j es
      by rest whole (stopped _ _ e2) = absurd (no_line i e l (omega (arith, e2)) line)
      by rest whole (onward _ k _ s ss now h more) = sentence k s ss now whole h more
  one_read i e j ds es l (behind _ _ h so) line r next is = absurd (no_line i e l h line)

  none_read : (i j : ℕ) (ds : List Line) → Read ls all i ds → NoReference ls i → NextSentence ls i j → Read ls all j ds
  none_read i j ds (at_start _ _ z none) silent next =
      let end : j ≡ 3 = next_is ls 0 3 j (header_ends ls keyword.Module header) (subst (λ i. NextSentence ls i j) z next) in
      between j ds [] all refl none (subst (λ k. Chain ls k all (length ls)) (sym end) chain)
  none_read i j ds (between _ _ ps rest whole so chain) silent next = by rest whole chain
    where
      quiet : (k : ℕ) (s : Clause) (now : Operators) → IsSentence now ls i k s → referring (s ∷ []) ≡ []
      quiet k s now (declares m h) = line (refers m) refl
        where
          line : (t : Bool) → refers m ≡ t → (if t then m ∷ [] else []) ≡ []
          line true r = absurd (silent k m h r)
          line false r = refl
      quiet k s now (says d t h dot f) = refl

      by : (rest : List Clause) → all ≡ ps ++ rest → Chain ls i rest (length ls) → Read ls all j ds
      by rest whole (stopped _ _ e2) = let up = next_up ls i j next in behind j ds (omega (arith, e2, up)) (so ∙ ap referring (sym (append-nil ps) ∙ sym whole))
      by rest whole (onward _ k _ s ss now h more) =
          let end : j ≡ k = next_is ls i k j (sentence_ends now ls i k s h) next in
          between j ds (ps ++ s ∷ []) ss (whole ∙ sym (append_assoc ps (s ∷ []) ss))
          (so ∙ sym (append-nil (referring ps)) ∙ ap (λ ls. referring ps ++ ls) (sym (quiet k s now h)) ∙ sym (referring_last ps s))
          (subst (λ k. Chain ls k ss (length ls)) (sym end) more)
  none_read i j ds (behind _ _ h so) silent next = let up = next_up ls i j next in behind j ds (omega (arith, h, up)) so

  lines_read : (j : ℕ) (es : List Line) → Refer ls j es → Read ls all j es
  lines_read j es none_yet = at_start 0 [] refl refl
  lines_read j es (one_refers i e _ ds _ l before line r next is) = one_read i e j ds es l (lines_read i ds before) line r next is
  lines_read j es (none_refers i _ _ before silent next) = none_read i j es (lines_read i es before) silent next

  -- at the end of the text they are all
  all_read : (es : List Line) → Refer ls (length ls) es → es ≡ referring all
  all_read es r = by (lines_read (length ls) es r)
    where
      by : Read ls all (length ls) es → es ≡ referring all
      by (at_start _ _ z none) = let f = sym (past ls 0 (omega (arith, z))) ∙ header.first in absurd (cc)
      by (between _ _ ps rest whole so chain) = last rest whole chain
        where
          last : (rest : List Clause) → all ≡ ps ++ rest → Chain ls (length ls) rest (length ls) → es ≡ referring all
          last rest whole (stopped _ _ e) = so ∙ ap referring (sym (append-nil ps) ∙ sym whole)
          last rest whole (onward _ k _ s ss now h more) =
              let a = sentence_ends now ls (length ls) k s h in
              let up = a.clear.up in
              let e = a.end in
              let b = chain_up ls k (length ls) ss more in
              absurd (omega (arith, up, e, b))
      by (behind _ _ h so) = so

-- what declarations hand out
shown_words : (spot : ℕ → Spot) (d : Declaration) (l : Line) → IsShown spot d l → named_words d ≡ map spot (words_of l)
shown_words spot (Kinds ss n) (KindLine ns m) h = refl
shown_words spot (LocalKinds ss n) (KindLine ns m) h = absurd h
shown_words spot (Constants ss ty) (KindLine ns m) h = absurd h
shown_words spot (Locals ss None) (KindLine ns m) h = absurd h
shown_words spot (Locals ss (Some ty)) (KindLine ns m) h = absurd h
shown_words spot (Abbreviation s ss ty) (KindLine ns m) h = absurd h
shown_words spot (Accumulate ss) (KindLine ns m) h = absurd h
shown_words spot (AccumSig ss) (KindLine ns m) h = absurd h
shown_words spot (Fixities ss f n) (KindLine ns m) h = absurd h
shown_words spot (Kinds ss n) (LocalKindLine ns m) h = absurd h
shown_words spot (LocalKinds ss n) (LocalKindLine ns m) h = refl
shown_words spot (Constants ss ty) (LocalKindLine ns m) h = absurd h
shown_words spot (Locals ss None) (LocalKindLine ns m) h = absurd h
shown_words spot (Locals ss (Some ty)) (LocalKindLine ns m) h = absurd h
shown_words spot (Abbreviation s ss ty) (LocalKindLine ns m) h = absurd h
shown_words spot (Accumulate ss) (LocalKindLine ns m) h = absurd h
shown_words spot (AccumSig ss) (LocalKindLine ns m) h = absurd h
shown_words spot (Fixities ss f n) (LocalKindLine ns m) h = absurd h
shown_words spot (Kinds ss n) (ConstantLine ns t) h = absurd h
shown_words spot (LocalKinds ss n) (ConstantLine ns t) h = absurd h
shown_words spot (Constants ss ty) (ConstantLine ns t) h = refl
shown_words spot (Locals ss None) (ConstantLine ns t) h = absurd h
shown_words spot (Locals ss (Some ty)) (ConstantLine ns t) h = absurd h
shown_words spot (Abbreviation s ss ty) (ConstantLine ns t) h = absurd h
shown_words spot (Accumulate ss) (ConstantLine ns t) h = absurd h
shown_words spot (AccumSig ss) (ConstantLine ns t) h = absurd h
shown_words spot (Fixities ss f n) (ConstantLine ns t) h = absurd h
shown_words spot (Kinds ss n) (LocalLine ns None) h = absurd h
shown_words spot (LocalKinds ss n) (LocalLine ns None) h = absurd h
shown_words spot (Constants ss ty) (LocalLine ns None) h = absurd h
shown_words spot (Locals ss None) (LocalLine ns None) h = refl
shown_words spot (Locals ss (Some ty)) (LocalLine ns None) h = absurd h
shown_words spot (Abbreviation s ss ty) (LocalLine ns None) h = absurd h
shown_words spot (Accumulate ss) (LocalLine ns None) h = absurd h
shown_words spot (AccumSig ss) (LocalLine ns None) h = absurd h
shown_words spot (Fixities ss f n) (LocalLine ns None) h = absurd h
shown_words spot (Kinds ss n) (LocalLine ns (Some t)) h = absurd h
shown_words spot (LocalKinds ss n) (LocalLine ns (Some t)) h = absurd h
shown_words spot (Constants ss ty) (LocalLine ns (Some t)) h = absurd h
shown_words spot (Locals ss None) (LocalLine ns (Some t)) h = absurd h
shown_words spot (Locals ss (Some ty)) (LocalLine ns (Some t)) h = refl
shown_words spot (Abbreviation s ss ty) (LocalLine ns (Some t)) h = absurd h
shown_words spot (Accumulate ss) (LocalLine ns (Some t)) h = absurd h
shown_words spot (AccumSig ss) (LocalLine ns (Some t)) h = absurd h
shown_words spot (Fixities ss f n) (LocalLine ns (Some t)) h = absurd h
shown_words spot (Kinds ss n) (AbbreviationLine m ns t) h = absurd h
shown_words spot (LocalKinds ss n) (AbbreviationLine m ns t) h = absurd h
shown_words spot (Constants ss ty) (AbbreviationLine m ns t) h = absurd h
shown_words spot (Locals ss None) (AbbreviationLine m ns t) h = absurd h
shown_words spot (Locals ss (Some ty)) (AbbreviationLine m ns t) h = absurd h
shown_words spot (Abbreviation s ss ty) (AbbreviationLine m ns t) h = refl
shown_words spot (Accumulate ss) (AbbreviationLine m ns t) h = absurd h
shown_words spot (AccumSig ss) (AbbreviationLine m ns t) h = absurd h
shown_words spot (Fixities ss f n) (AbbreviationLine m ns t) h = absurd h
shown_words spot (Kinds ss n) (AccumulateLine ns) h = absurd h
shown_words spot (LocalKinds ss n) (AccumulateLine ns) h = absurd h
shown_words spot (Constants ss ty) (AccumulateLine ns) h = absurd h
shown_words spot (Locals ss None) (AccumulateLine ns) h = absurd h
shown_words spot (Locals ss (Some ty)) (AccumulateLine ns) h = absurd h
shown_words spot (Abbreviation s ss ty) (AccumulateLine ns) h = absurd h
shown_words spot (Accumulate ss) (AccumulateLine ns) h = h
shown_words spot (AccumSig ss) (AccumulateLine ns) h = absurd h
shown_words spot (Fixities ss f n) (AccumulateLine ns) h = absurd h
shown_words spot (Kinds ss n) (AccumSigLine ns) h = absurd h
shown_words spot (LocalKinds ss n) (AccumSigLine ns) h = absurd h
shown_words spot (Constants ss ty) (AccumSigLine ns) h = absurd h
shown_words spot (Locals ss None) (AccumSigLine ns) h = absurd h
shown_words spot (Locals ss (Some ty)) (AccumSigLine ns) h = absurd h
shown_words spot (Abbreviation s ss ty) (AccumSigLine ns) h = absurd h
shown_words spot (Accumulate ss) (AccumSigLine ns) h = absurd h
shown_words spot (AccumSig ss) (AccumSigLine ns) h = refl
shown_words spot (Fixities ss f n) (AccumSigLine ns) h = absurd h
shown_words spot (Kinds ss n) (FixityLine ns g m) h = absurd h
shown_words spot (LocalKinds ss n) (FixityLine ns g m) h = absurd h
shown_words spot (Constants ss ty) (FixityLine ns g m) h = absurd h
shown_words spot (Locals ss None) (FixityLine ns g m) h = absurd h
shown_words spot (Locals ss (Some ty)) (FixityLine ns g m) h = absurd h
shown_words spot (Abbreviation s ss ty) (FixityLine ns g m) h = absurd h
shown_words spot (Accumulate ss) (FixityLine ns g m) h = absurd h
shown_words spot (AccumSig ss) (FixityLine ns g m) h = absurd h
shown_words spot (Fixities ss f n) (FixityLine ns g m) h = refl

shown_sig_words : (spot : ℕ → Spot) (d : Declaration) (l : Line) → IsShown spot d l → accum_words (d ∷ []) ≡ map spot (sig_words_of l)
shown_sig_words spot (Kinds ss n) (KindLine ns m) h = refl
shown_sig_words spot (LocalKinds ss n) (KindLine ns m) h = absurd h
shown_sig_words spot (Constants ss ty) (KindLine ns m) h = absurd h
shown_sig_words spot (Locals ss None) (KindLine ns m) h = absurd h
shown_sig_words spot (Locals ss (Some ty)) (KindLine ns m) h = absurd h
shown_sig_words spot (Abbreviation s ss ty) (KindLine ns m) h = absurd h
shown_sig_words spot (Accumulate ss) (KindLine ns m) h = absurd h
shown_sig_words spot (AccumSig ss) (KindLine ns m) h = absurd h
shown_sig_words spot (Fixities ss f n) (KindLine ns m) h = absurd h
shown_sig_words spot (Kinds ss n) (LocalKindLine ns m) h = absurd h
shown_sig_words spot (LocalKinds ss n) (LocalKindLine ns m) h = refl
shown_sig_words spot (Constants ss ty) (LocalKindLine ns m) h = absurd h
shown_sig_words spot (Locals ss None) (LocalKindLine ns m) h = absurd h
shown_sig_words spot (Locals ss (Some ty)) (LocalKindLine ns m) h = absurd h
shown_sig_words spot (Abbreviation s ss ty) (LocalKindLine ns m) h = absurd h
shown_sig_words spot (Accumulate ss) (LocalKindLine ns m) h = absurd h
shown_sig_words spot (AccumSig ss) (LocalKindLine ns m) h = absurd h
shown_sig_words spot (Fixities ss f n) (LocalKindLine ns m) h = absurd h
shown_sig_words spot (Kinds ss n) (ConstantLine ns t) h = absurd h
shown_sig_words spot (LocalKinds ss n) (ConstantLine ns t) h = absurd h
shown_sig_words spot (Constants ss ty) (ConstantLine ns t) h = refl
shown_sig_words spot (Locals ss None) (ConstantLine ns t) h = absurd h
shown_sig_words spot (Locals ss (Some ty)) (ConstantLine ns t) h = absurd h
shown_sig_words spot (Abbreviation s ss ty) (ConstantLine ns t) h = absurd h
shown_sig_words spot (Accumulate ss) (ConstantLine ns t) h = absurd h
shown_sig_words spot (AccumSig ss) (ConstantLine ns t) h = absurd h
shown_sig_words spot (Fixities ss f n) (ConstantLine ns t) h = absurd h
shown_sig_words spot (Kinds ss n) (LocalLine ns None) h = absurd h
shown_sig_words spot (LocalKinds ss n) (LocalLine ns None) h = absurd h
shown_sig_words spot (Constants ss ty) (LocalLine ns None) h = absurd h
shown_sig_words spot (Locals ss None) (LocalLine ns None) h = refl
shown_sig_words spot (Locals ss (Some ty)) (LocalLine ns None) h = absurd h
shown_sig_words spot (Abbreviation s ss ty) (LocalLine ns None) h = absurd h
shown_sig_words spot (Accumulate ss) (LocalLine ns None) h = absurd h
shown_sig_words spot (AccumSig ss) (LocalLine ns None) h = absurd h
shown_sig_words spot (Fixities ss f n) (LocalLine ns None) h = absurd h
shown_sig_words spot (Kinds ss n) (LocalLine ns (Some t)) h = absurd h
shown_sig_words spot (LocalKinds ss n) (LocalLine ns (Some t)) h = absurd h
shown_sig_words spot (Constants ss ty) (LocalLine ns (Some t)) h = absurd h
shown_sig_words spot (Locals ss None) (LocalLine ns (Some t)) h = absurd h
shown_sig_words spot (Locals ss (Some ty)) (LocalLine ns (Some t)) h = refl
shown_sig_words spot (Abbreviation s ss ty) (LocalLine ns (Some t)) h = absurd h
shown_sig_words spot (Accumulate ss) (LocalLine ns (Some t)) h = absurd h
shown_sig_words spot (AccumSig ss) (LocalLine ns (Some t)) h = absurd h
shown_sig_words spot (Fixities ss f n) (LocalLine ns (Some t)) h = absurd h
shown_sig_words spot (Kinds ss n) (AbbreviationLine m ns t) h = absurd h
shown_sig_words spot (LocalKinds ss n) (AbbreviationLine m ns t) h = absurd h
shown_sig_words spot (Constants ss ty) (AbbreviationLine m ns t) h = absurd h
shown_sig_words spot (Locals ss None) (AbbreviationLine m ns t) h = absurd h
shown_sig_words spot (Locals ss (Some ty)) (AbbreviationLine m ns t) h = absurd h
shown_sig_words spot (Abbreviation s ss ty) (AbbreviationLine m ns t) h = refl
shown_sig_words spot (Accumulate ss) (AbbreviationLine m ns t) h = absurd h
shown_sig_words spot (AccumSig ss) (AbbreviationLine m ns t) h = absurd h
shown_sig_words spot (Fixities ss f n) (AbbreviationLine m ns t) h = absurd h
shown_sig_words spot (Kinds ss n) (AccumulateLine ns) h = absurd h
shown_sig_words spot (LocalKinds ss n) (AccumulateLine ns) h = absurd h
shown_sig_words spot (Constants ss ty) (AccumulateLine ns) h = absurd h
shown_sig_words spot (Locals ss None) (AccumulateLine ns) h = absurd h
shown_sig_words spot (Locals ss (Some ty)) (AccumulateLine ns) h = absurd h
shown_sig_words spot (Abbreviation s ss ty) (AccumulateLine ns) h = absurd h
shown_sig_words spot (Accumulate ss) (AccumulateLine ns) h = refl
shown_sig_words spot (AccumSig ss) (AccumulateLine ns) h = absurd h
shown_sig_words spot (Fixities ss f n) (AccumulateLine ns) h = absurd h
shown_sig_words spot (Kinds ss n) (AccumSigLine ns) h = absurd h
shown_sig_words spot (LocalKinds ss n) (AccumSigLine ns) h = absurd h
shown_sig_words spot (Constants ss ty) (AccumSigLine ns) h = absurd h
shown_sig_words spot (Locals ss None) (AccumSigLine ns) h = absurd h
shown_sig_words spot (Locals ss (Some ty)) (AccumSigLine ns) h = absurd h
shown_sig_words spot (Abbreviation s ss ty) (AccumSigLine ns) h = absurd h
shown_sig_words spot (Accumulate ss) (AccumSigLine ns) h = absurd h
shown_sig_words spot (AccumSig ss) (AccumSigLine ns) h = append-nil ss.items ∙ h
shown_sig_words spot (Fixities ss f n) (AccumSigLine ns) h = absurd h
shown_sig_words spot (Kinds ss n) (FixityLine ns g m) h = absurd h
shown_sig_words spot (LocalKinds ss n) (FixityLine ns g m) h = absurd h
shown_sig_words spot (Constants ss ty) (FixityLine ns g m) h = absurd h
shown_sig_words spot (Locals ss None) (FixityLine ns g m) h = absurd h
shown_sig_words spot (Locals ss (Some ty)) (FixityLine ns g m) h = absurd h
shown_sig_words spot (Abbreviation s ss ty) (FixityLine ns g m) h = absurd h
shown_sig_words spot (Accumulate ss) (FixityLine ns g m) h = absurd h
shown_sig_words spot (AccumSig ss) (FixityLine ns g m) h = absurd h
shown_sig_words spot (Fixities ss f n) (FixityLine ns g m) h = refl

-- lines that do not refer have no words
quiet_words : (l : Line) → refers l ≡ false → (words_of l ≡ []) × (sig_words_of l ≡ [])
quiet_words (KindLine ns m) r = (refl, refl)
quiet_words (LocalKindLine ns m) r = (refl, refl)
quiet_words (ConstantLine ns t) r = (refl, refl)
quiet_words (LocalLine ns t) r = (refl, refl)
quiet_words (AbbreviationLine m ns t) r = (refl, refl)
quiet_words (AccumulateLine ns) r = absurd (cc)
quiet_words (AccumSigLine ns) r = absurd (cc)
quiet_words (FixityLine ns g m) r = absurd (cc)

-- the words of a text are those of its lines
module _ (spot : ℕ → Spot) (ls : List Lexeme) where
  text_words : (ds : List Sentence) (ss : List Clause) → AreSaid spot ls ds ss → accumulate_words ds ≡ map spot (all_of words_of (referring ss))
  text_words [] [] h = refl
  text_words [] (s ∷ ss) h = absurd h
  text_words (d ∷ ds) [] h = absurd h
  text_words (Declares d ∷ ds) (Declared l ∷ ss) (h, more) = by (text_words ds ss more) (refers l) refl
    where
      by : accumulate_words ds ≡ map spot (all_of words_of (referring ss)) → (t : Bool) → refers l ≡ t → named_words d ++ accumulate_words ds ≡ map
          spot (all_of words_of (if t then l ∷ referring ss else referring ss))
      by g true r = (λ i. shown_words spot d l h i ++ g i) ∙ sym (map-append spot (words_of l) (all_of words_of (referring ss)))
      by g false r = ap (λ ws. ws ++ accumulate_words ds) (shown_words spot d l h ∙ ap (map spot) (quiet_words l r).0) ∙ g
  text_words (Declares d ∷ ds) (Said t ∷ ss) (h, more) = absurd h
  text_words (Says raw ∷ ds) (Declared l ∷ ss) (h, more) = absurd h
  text_words (Says raw ∷ ds) (Said t ∷ ss) (h, more) = text_words ds ss more

  text_sig_words : (ds : List Sentence) (ss : List Clause) → AreSaid spot ls ds ss → accum_words (declarations ds) ≡ map spot (all_of sig_words_of (referring ss))
  text_sig_words [] [] h = refl
  text_sig_words [] (s ∷ ss) h = absurd h
  text_sig_words (d ∷ ds) [] h = absurd h
  text_sig_words (Declares d ∷ ds) (Declared l ∷ ss) (h, more) = accum_append (d ∷ []) (declarations ds) ∙ by (text_sig_words ds ss more) (refers l) refl
    where
      by : accum_words (declarations ds) ≡ map spot (all_of sig_words_of (referring ss)) → (t : Bool) → refers l ≡ t → accum_words (d ∷ []) ++
          accum_words (declarations ds) ≡ map spot (all_of sig_words_of (if t then l ∷ referring ss else referring ss))
      by g true r = (λ i. shown_sig_words spot d l h i ++ g i) ∙ sym (map-append spot (sig_words_of l) (all_of sig_words_of (referring ss)))
      by g false r = ap (λ ws. ws ++ accum_words (declarations ds)) (shown_sig_words spot d l h ∙ ap (map spot) (quiet_words l r).1) ∙ g
  text_sig_words (Declares d ∷ ds) (Said t ∷ ss) (h, more) = absurd h
  text_sig_words (Says raw ∷ ds) (Declared l ∷ ss) (h, more) = absurd h
  text_sig_words (Says raw ∷ ds) (Said t ∷ ss) (h, more) = text_sig_words ds ss more

-- what is handed out of a module's tokens is what its text says
pub words_referred : (spot : ℕ → Spot) (ops after : Operators) (ls : List Lexeme) (text : ModuleText) (found : References) → IsModuleText spot ops
    after ls text → AreReferences spot ls (length ls) found →
    (found.accumulate.items ≡ accumulate_words text.lines.items) × (found.accum_sig.items ≡ accum_words (declarations text.lines.items))
words_referred spot ops after ls text found m r =
    let clauses = m.read.before in
    let e = all_read ls clauses m.header (chain_of ls ops 3 after (length ls) clauses m.read.sentences) r.lines r.refer in (
      r.accumulate ∙ ap (λ es. map spot (all_of words_of es)) e ∙ sym (text_words spot ls text.lines.items clauses m.read.said),
      r.accum_sig ∙ ap
          (λ es. map spot (all_of sig_words_of es)) e ∙ sym (text_sig_words spot ls text.lines.items clauses m.read.said),
    )
