-- The sentences that name other files or declare fixities.
use Rattle.std.proofs.Common.{arith, ◌<◌, ◌≡◌, ◌≢◌, ℕ, ◌+◌, ◌≤◌, ◌⊎◌, inl, inr, true, false, List, [], ◌∷◌, ◌++◌, length, map, refl, sym, ap, ◌∙◌, append_assoc, append-nil}
use Rattle.std.specs.Prelude.{Some, None, Result, Ok, Err, OnOk}
use Rattle.std.proofs.lemmas.List.{map-append}
use Rattle.lp_syntax.proofs.LineStops.{same_keyword}
use Rattle.lp_base.specs.declared.place.Spot.{Spot}
use Rattle.lp_syntax.specs.declared.class.Keyword.{Keyword}
use Rattle.lp_syntax.specs.declared.class.Class.TheVariants as class
use Rattle.lp_syntax.specs.declared.fault.SyntaxFault.{SyntaxFault}
use Rattle.lp_syntax.specs.declared.fault.SyntaxFault.TheVariants as fault
use Rattle.lp_syntax.specs.declared.text.Declaration.{Declaration}
use Rattle.lp_syntax.specs.declared.text.Declaration.TheVariants.{Kinds, LocalKinds, Constants, Locals, Abbreviation, Accumulate, AccumSig, Fixities}
use Rattle.lp_syntax.specs.declared.text.References.{References}
use Rattle.lp_syntax.specs.Tokens.{Lexeme, class_at, Agree}
use Rattle.lp_syntax.specs.Terms.{MemoryOr}
use Rattle.lp_syntax.specs.Declarations.{line_depth, Line, KindLine, LocalKindLine, ConstantLine, LocalLine, AbbreviationLine, AccumulateLine, AccumSigLine, FixityLine, IsBody, IsShown, IsDeclared, kinds, local_kinds, local_kinds_of, constants, locals, locals_of, abbreviation, accumulate, accum_sig, fixities}
use Rattle.lp_syntax.specs.LineMachine.{AtStart, StopsIn, IsTooDeep}
use Rattle.lp_syntax.specs.References.{refers, refers_word, NextSentence, later, NoReference, none_yet, one_refers, none_refers, words_of, sig_words_of, entry_for, entries_of, all_of, AreReferences, words_in, sig_words_in, entries_in, IsReferenceAt}
use Rattle.lp_syntax.proofs.SignatureFaults.{no_line_there, line_runs_of}

refers_by_word : (ls : List Lexeme) (k : Keyword) (i e : ℕ) (l : Line) → IsBody ls k i e l → refers l ≡ refers_word k
refers_by_word ls k i e l (kinds _ j m _ n ns a d z) = refl
refers_by_word ls k i e l (local_kinds _ j _ ns a z) = refl
refers_by_word ls k i e l (local_kinds_of _ j m _ n ns a d z) = refl
refers_by_word ls k i e l (constants _ j m _ ns t a d z) = refl
refers_by_word ls k i e l (locals _ j _ ns a z) = refl
refers_by_word ls k i e l (locals_of _ j m _ ns t a d z) = refl
refers_by_word ls k i e l (abbreviation _ j m _ n ns t a d z) = refl
refers_by_word ls k i e l (accumulate _ j _ ns a z) = refl
refers_by_word ls k i e l (accum_sig _ j _ ns a z) = refl
refers_by_word ls k i e l (fixities _ j _ n f ns a y z) = refl

refers_no_type : (l : Line) → refers l ≡ true → 255 < line_depth l → ⊥
refers_no_type (KindLine ns n) a b = cc
refers_no_type (LocalKindLine ns n) a b = cc
refers_no_type (ConstantLine ns t) a b = cc
refers_no_type (LocalLine ns None) a b = cc
refers_no_type (LocalLine ns (Some t)) a b = cc
refers_no_type (AbbreviationLine n ns t) a b = cc
refers_no_type (AccumulateLine ns) a b = omega (arith, b)
refers_no_type (AccumSigLine ns) a b = omega (arith, b)
refers_no_type (FixityLine ns f n) a b = omega (arith, b)

-- no sentence of these kinds
pub no_keyword : (ls : List Lexeme) (i : ℕ) → ((k : Keyword) → class_at ls i ≡ class.Keyword k → ⊥) → NoReference ls i
no_keyword ls i n j l h r = n h.word h.there

pub other_keyword : (ls : List Lexeme) (i : ℕ) (k : Keyword) → class_at ls i ≡ class.Keyword k → refers_word k ≡ false → NoReference ls i
other_keyword ls i k e f j l h r = let z : true ≡ false = sym r ∙ refers_by_word ls h.word (i + 1) j l h.body ∙ ap refers_word (same_keyword (sym h.there ∙ e)) ∙ f in cc

pub agree_self : (n : ℕ) (ls : List Lexeme) → n ≤ length ls → Agree n ls ls
agree_self n ls l = record { long = l; same = λ i h. refl }

pub refused_reference : (spot : ℕ → Spot) (ls : List Lexeme) (i : ℕ) (k : Keyword) (f : SyntaxFault) → class_at ls i ≡ class.Keyword k → refers_word k ≡ true → f ≢ fault.Memory → MemoryOr f (IsTooDeep ls k (i + 1) f ⊎ StopsIn spot ls AtStart i f) → NoReference ls i
refused_reference spot ls i k f e y n (inl m) = absurd (n m)
refused_reference spot ls i k f e y n (inr (inl d)) = absurd (refers_no_type d.1.1 (refers_by_word ls k (i + 1) d.1.0 d.1.1 d.1.2 ∙ y) d.1.3)
refused_reference spot ls i k f e y n (inr (inr s)) = λ j l h r. no_line_there ls ls AtStart i s.number j (agree_self s.number ls s.there.high) refl s.there (line_runs_of ls i j l h)

pub given_reference : (spot : ℕ → Spot) (ls : List Lexeme) (i j : ℕ) (k : Keyword) (d : Declaration) → class_at ls i ≡ class.Keyword k → refers_word k ≡ true → IsDeclared spot ls k (i + 1) j d → IsReferenceAt spot ls i (Some d)
given_reference spot ls i j k d e y h = (j, h.line, record { word = k; there = e; body = h.body }, refers_by_word ls k (i + 1) j h.line h.body ∙ y, h.shown)

-- the next sentence
pub from_next : (ls : List Lexeme) (i n : ℕ) → ((k : ℕ) → NextSentence ls n k → NextSentence ls i k) → class_at ls n ≢ class.Dot → (k : ℕ) → NextSentence ls (n + 1) k → NextSentence ls i k
from_next ls i n f h k s = f k (later n k (n + 1) h refl s)

-- what one says
record Says (spot : ℕ → Spot) (d : Declaration) (l : Line) : Type 0 where
  pub words : words_in d ≡ map spot (words_of l)
  pub sig_words : sig_words_in d ≡ map spot (sig_words_of l)
  pub entries : entries_in d ≡ entries_of spot l

says : (spot : ℕ → Spot) (l : Line) (d : Declaration) → refers l ≡ true → IsShown spot d l → Says spot d l
says spot (KindLine ns m) d r h = absurd (cc)
says spot (LocalKindLine ns m) d r h = absurd (cc)
says spot (ConstantLine ns t) d r h = absurd (cc)
says spot (LocalLine ns None) d r h = absurd (cc)
says spot (LocalLine ns (Some t)) d r h = absurd (cc)
says spot (AbbreviationLine m ns t) d r h = absurd (cc)
says spot (AccumulateLine ns) (Kinds ss n) r h = absurd h
says spot (AccumulateLine ns) (LocalKinds ss n) r h = absurd h
says spot (AccumulateLine ns) (Constants ss ty) r h = absurd h
says spot (AccumulateLine ns) (Locals ss None) r h = absurd h
says spot (AccumulateLine ns) (Locals ss (Some ty)) r h = absurd h
says spot (AccumulateLine ns) (Abbreviation s ss ty) r h = absurd h
says spot (AccumulateLine ns) (Accumulate ss) r h = record { words = h; sig_words = refl; entries = refl }
says spot (AccumulateLine ns) (AccumSig ss) r h = absurd h
says spot (AccumulateLine ns) (Fixities ss f n) r h = absurd h
says spot (AccumSigLine ns) (Kinds ss n) r h = absurd h
says spot (AccumSigLine ns) (LocalKinds ss n) r h = absurd h
says spot (AccumSigLine ns) (Constants ss ty) r h = absurd h
says spot (AccumSigLine ns) (Locals ss None) r h = absurd h
says spot (AccumSigLine ns) (Locals ss (Some ty)) r h = absurd h
says spot (AccumSigLine ns) (Abbreviation s ss ty) r h = absurd h
says spot (AccumSigLine ns) (Accumulate ss) r h = absurd h
says spot (AccumSigLine ns) (AccumSig ss) r h = record { words = refl; sig_words = h; entries = refl }
says spot (AccumSigLine ns) (Fixities ss f n) r h = absurd h
says spot (FixityLine ns g m) (Kinds ss n) r h = absurd h
says spot (FixityLine ns g m) (LocalKinds ss n) r h = absurd h
says spot (FixityLine ns g m) (Constants ss ty) r h = absurd h
says spot (FixityLine ns g m) (Locals ss None) r h = absurd h
says spot (FixityLine ns g m) (Locals ss (Some ty)) r h = absurd h
says spot (FixityLine ns g m) (Abbreviation s ss ty) r h = absurd h
says spot (FixityLine ns g m) (Accumulate ss) r h = absurd h
says spot (FixityLine ns g m) (AccumSig ss) r h = absurd h
says spot (FixityLine ns g m) (Fixities ss f n) r h = record { words = refl; sig_words = refl; entries = (λ x. map (entry_for (h.1 x) (h.2 x)) (h.0 x)) }

all_more : {A : Type 0} (f : Line → List A) (ds : List Line) (l : Line) → all_of f (ds ++ l ∷ []) ≡ all_of f ds ++ f l
all_more f [] l = append-nil (f l)
all_more f (d ∷ ds) l = ap (λ x. f d ++ x) (all_more f ds l) ∙ sym (append_assoc (f d) (all_of f ds) (f l))

two_parts : {A : Type 0} {a b c d : List A} → a ≡ b → c ≡ d → a ++ c ≡ b ++ d
two_parts e f = λ i. e i ++ f i

-- one more of them
pub one_more_refers : (spot : ℕ → Spot) (ls : List Lexeme) (i j : ℕ) (d : Declaration) (old new : References) → AreReferences spot ls i old →
    IsReferenceAt spot ls i (Some d) → NextSentence ls i j → new.accumulate.items ≡ old.accumulate.items ++ words_in d → new.accum_sig.items ≡
    old.accum_sig.items ++ sig_words_in d → new.fixities.items ≡ old.fixities.items ++ entries_in d → AreReferences spot ls j new
one_more_refers spot ls i j d old new a h n e f g =
    let l = h.1 in
    let s = says spot l d h.3 h.4 in
    record {
      lines = a.lines ++ l ∷ [];
      refer = one_refers i h.0 j a.lines (a.lines ++ l ∷ []) l a.refer h.2 h.3 n refl;
      accumulate = e ∙ two_parts a.accumulate s.words ∙ sym (map-append spot (all_of words_of a.lines) (words_of l)) ∙ ap (map spot) (sym (all_more words_of a.lines l));
      accum_sig = f ∙ two_parts a.accum_sig s.sig_words ∙ sym (map-append spot (all_of sig_words_of a.lines) (sig_words_of l)) ∙ ap (map spot) (sym (all_more sig_words_of a.lines l));
      fixities = g ∙ two_parts a.fixities s.entries ∙ sym (all_more (entries_of spot) a.lines l);
    }

pub none_more_refers : (spot : ℕ → Spot) (ls : List Lexeme) (i j : ℕ) (found : References) → AreReferences spot ls i found → IsReferenceAt spot ls i None → NextSentence ls i j → AreReferences spot ls j found
none_more_refers spot ls i j found a h n = record { lines = a.lines; refer = none_refers i j a.lines a.refer h n; accumulate = a.accumulate; accum_sig = a.accum_sig; fixities = a.fixities }

pub none_found : (spot : ℕ → Spot) (ls : List Lexeme) (found : References) → found.accumulate.items ≡ [] → found.accum_sig.items ≡ [] → found.fixities.items ≡ [] → AreReferences spot ls 0 found
none_found spot ls found e f g = record { lines = []; refer = none_yet; accumulate = e; accum_sig = f; fixities = g }

pub added : {E : Type 0} (spot : ℕ → Spot) (ls : List Lexeme) (i : ℕ) (d : Declaration) (old new : References) (r : Result (Unit {0}) E) →
    IsReferenceAt spot ls i (Some d) → OnOk r (new.accumulate.items ≡ old.accumulate.items ++ words_in d) → OnOk r
    (new.accum_sig.items ≡ old.accum_sig.items ++ sig_words_in d) → OnOk r (new.fixities.items ≡ old.fixities.items ++ entries_in d) → OnOk r
    ((j : ℕ) → NextSentence ls i j → AreReferences spot ls i old → AreReferences spot ls j new)
added spot ls i d old new (Ok x) h e f g = λ j n a. one_more_refers spot ls i j d old new a h n e f g
added spot ls i d old new (Err x) h e f g = tt
