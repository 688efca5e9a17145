-- What the code that reads modules gives.
use Rattle.std.proofs.Common.{◌≡◌, ◌≢◌, ℕ, zero, suc, ◌+◌, ◌<◌, ◌≤◌, ◌⊎◌, inl, inr, Bool, true, false, List, [], ◌∷◌, ◌++◌, length, map, take, refl, sym, ap, ◌∙◌, subst, arith}
use Rattle.std.specs.Prelude.{Some, None, slice_get}
use Rattle.lp_base.specs.declared.place.Spot.{Spot}
use Rattle.lp_standard.specs.declared.fixity.Fixity.{Fixity}
use Rattle.lp_syntax.specs.declared.class.Keyword.{Keyword}
use Rattle.lp_syntax.specs.declared.class.Class.TheVariants as class
use Rattle.lp_syntax.specs.declared.fault.SyntaxFault.{SyntaxFault}
use Rattle.lp_syntax.specs.declared.fault.SyntaxFault.TheVariants as fault
use Rattle.lp_syntax.specs.Faults.{refused}
use Rattle.lp_syntax.specs.Symbols.{Tree}
use Rattle.lp_syntax.specs.Tokens.{Lexeme, Operators, class_at}
use Rattle.lp_syntax.specs.Terms.{TermAt, TermFault, MemoryOr}
use Rattle.lp_syntax.specs.TermViews.{IsOver}
use Rattle.lp_syntax.specs.Declarations.{Line}
use Rattle.lp_syntax.specs.LineMachine.{AtStart, StopsIn, IsTooDeep}
use Rattle.std.specs.Prelude.{nat_le, ◌&&◌, if◌then◌else◌}
use Rattle.lp_lexer.specs.declared.token.Token.{Token}
use Rattle.lp_fixity.specs.declared.fault.FixFault.{FixFault}
use Rattle.lp_syntax.specs.declared.class.Keyword.TheVariants as keyword
use Rattle.lp_syntax.specs.declared.text.Sentence.{Sentence}
use Rattle.lp_syntax.specs.declared.text.Sentence.TheVariants as sentence
use Rattle.lp_syntax.specs.declared.text.Declaration.{Declaration}
use Rattle.lp_syntax.specs.declared.text.Declaration.TheVariants.{Kinds, LocalKinds, Constants, Locals, Abbreviation, Accumulate, AccumSig, Fixities}
use Rattle.lp_syntax.specs.Declarations.{KindLine, LocalKindLine, ConstantLine, LocalLine, AbbreviationLine, AccumulateLine, AccumSigLine, FixityLine, IsShown}
use Rattle.lp_syntax.specs.Tokens.{lexemes, spot_at, spot_in, bytes_at, bytes_in, piece, lexeme}
use Rattle.lp_syntax.specs.Signatures.{IsHeader, IsLine}
use Rattle.lp_syntax.specs.Modules.{Said, IsSaid, AreSaid, AreSentences, no_sentence, one_sentence, Follows, SentencesRead, IsSentenceText, SentenceFollows, SentenceRefuses, LineFollows, LineRefuses, NameFault, OperatorFault, IsBadOperator, IsModuleRefusal, IsFixFault, ClauseFits}
use Rattle.lp_syntax.specs.Modules.{Clause, Declared, IsSentence, declares, SentenceFault, IsSentenceRefusal, DeclaresOne, DeclaresAll, one_declared, bytes_of}
use Rattle.std.proofs.lemmas.List.Elements.{All-nil, All-push}
use Rattle.std.proofs.lemmas.List.{take_all, take-map}
use Rattle.lp_lemmas.proofs.Lists.{slice_range_none}
use Rattle.lp_syntax.proofs.Tokens.{past_end}
use Rattle.lp_syntax.proofs.LineCode.{memory_or}
use Rattle.lp_syntax.proofs.ModuleFaults.{declaration_fault, term_fault, end_fault}

pub declaration_refused : (spot : ℕ → Spot) (ops : Operators) (ls : List Lexeme) (i : ℕ) (k : Keyword) (f : SyntaxFault) → class_at ls i ≡ class.Keyword k → MemoryOr f (IsTooDeep ls k (i + 1) f ⊎ StopsIn spot ls AtStart i f) → IsSentenceRefusal spot ops ls i f
declaration_refused spot ops ls i k f e (inl m) = inl m
declaration_refused spot ops ls i k f e (inr (inl d)) = inr (inl (d.0, (d.1.0, Declared d.1.1, declares d.1.1 (record { word = k; there = e; body = d.1.2 }), d.1.3)))
declaration_refused spot ops ls i k f e (inr (inr s)) = inr (inr (declaration_fault spot ops ls i k f e s))

pub term_refused : (spot : ℕ → Spot) (ops : Operators) (ls : List Lexeme) (i : ℕ) (f : SyntaxFault) → ((k : Keyword) → class_at ls i ≡ class.Keyword k → ⊥) → MemoryOr f (TermFault spot ops ls i f) → IsSentenceRefusal spot ops ls i f
term_refused spot ops ls i f q (inl m) = inl m
term_refused spot ops ls i f q (inr t) = inr (inr (term_fault spot ops ls i f q t))

pub end_refused : (spot : ℕ → Spot) (ops : Operators) (ls : List Lexeme) (i n : ℕ) (t : Tree) (f : SyntaxFault) →
    ((k : Keyword) → class_at ls i ≡ class.Keyword k → ⊥) → TermAt ops ls i n t → IsOver ls n → class_at ls n ≢ class.Dot → f ≡ refused spot n None
    (class_at ls n) → SentenceFault spot ops ls i f
end_refused spot ops ls i n t f q d (inr e) h p = absurd (h e)
end_refused spot ops ls i n t f q d (inl e) h p = end_fault spot ops ls i n t f q d e (p ∙ ap (refused spot n None) (past_end ls n (omega (arith, e))))

-- names in turn
take_more : (ss : List Spot) (n : ℕ) (s : Spot) → slice_get ss n ≡ Some s → take (n + 1) ss ≡ take n ss ++ s ∷ []
take_more ss n s e = let z : n + 1 ≡ suc n = omega arith in ap (λ k. take k ss) z ∙ go ss n e
  where
    same : {x : Spot} → Some x ≡ Some s → x ≡ s
    same e = cc

    go : (ss : List Spot) (n : ℕ) → slice_get ss n ≡ Some s → take (suc n) ss ≡ take n ss ++ s ∷ []
    go [] n e = absurd (cc)
    go (x ∷ ss) zero e = ap (λ y. y ∷ []) (same e)
    go (x ∷ ss) (suc n) e = ap (λ l. x ∷ l) (go ss n e)

map_more : (source : List ℕ) (ss : List Spot) (s : Spot) → map (bytes_of source) (ss ++ s ∷ []) ≡ map (bytes_of source) ss ++ bytes_of source s ∷ []
map_more source [] s = refl
map_more source (x ∷ ss) s = ap (λ l. bytes_of source x ∷ l) (map_more source ss s)

pub one_more_name : (source : List ℕ) (ss : List Spot) (n : ℕ) (s : Spot) (e : Fixity × ℕ) (ops now after : Operators) → slice_get ss n ≡ Some s →
    DeclaresAll e ops (map (bytes_of source) (take n ss)) now → DeclaresOne (bytes_of source s) e now after → DeclaresAll e ops
    (map (bytes_of source) (take (n + 1) ss)) after
one_more_name source ss n s e ops now after h d o = one_declared (map (bytes_of source) (take n ss)) _ (bytes_of source s) now after d o (ap (map (bytes_of source)) (take_more ss n s h) ∙ map_more source (take n ss) s)

pub all_names : (source : List ℕ) (ss : List Spot) (n : ℕ) (e : Fixity × ℕ) (ops now : Operators) → length ss ≤ n → DeclaresAll e ops (map (bytes_of source) (take n ss)) now → DeclaresAll e ops (map (bytes_of source) ss) now
all_names source ss n e ops now l d = subst (λ x. DeclaresAll e ops (map (bytes_of source) x) now) (take_all n ss l) d

pub name_refused : (source : List ℕ) (ss : List Spot) (n : ℕ) (s : Spot) (e : Fixity × ℕ) (ops now : Operators) (f : SyntaxFault) → slice_get ss n ≡
    Some s → DeclaresAll e ops (map (bytes_of source) (take n ss)) now → MemoryOr f
    ((c : FixFault) × IsFixFault now (bytes_of source s) e c × (f ≡ fault.Operator c s)) → MemoryOr f (NameFault source ss e ops f)
name_refused source ss n s e ops now f h d m = memory_or f (λ x. record { place = n; name = s; there = h; now = now; before = d; cause = x.0; is_cause = x.1; is = x.2 }) m

no_piece : (b : Bool) (x : List ℕ) → x ≡ [] → (if b then x else []) ≡ []
no_piece true x e = e
no_piece false x e = refl

bytes_there : (file : ℕ) (source : List ℕ) (ts : List Token) (i : ℕ) → bytes_of source (spot_at file source ts i) ≡ bytes_at (lexemes source ts) i
unfolding bytes_at spot_at piece
bytes_there file source ts i = go ts i
  where
    go : (ts : List Token) (i : ℕ) → bytes_of source (spot_in file source (slice_get ts i)) ≡ bytes_in (slice_get (map (lexeme source) ts) i)
    go [] i = no_piece (nat_le (length source) (length source) && nat_le (length source) (length source)) _ (slice_range_none source (length source))
    go (t ∷ ts) zero = refl
    go (t ∷ ts) (suc i) = go ts i

pub bytes_all : (file : ℕ) (source : List ℕ) (ts : List Token) (ns : List ℕ) → map (bytes_of source) (map (spot_at file source ts) ns) ≡ map (bytes_at (lexemes source ts)) ns
bytes_all file source ts [] = refl
bytes_all file source ts (n ∷ ns) = (λ i. bytes_there file source ts n i ∷ bytes_all file source ts ns i)

-- what a sentence does to the operators
line_follows : (file : ℕ) (source : List ℕ) (ts : List Token) (l : Line) (d : Declaration) (now after : Operators) → IsShown (spot_at file source ts) d l → LineFollows source d now after → Follows (lexemes source ts) (Declared l) now after
line_follows file source ts (KindLine ns m) (Kinds ss n) now after h p = p
line_follows file source ts (KindLine ns m) (LocalKinds ss n) now after h p = absurd h
line_follows file source ts (KindLine ns m) (Constants ss ty) now after h p = absurd h
line_follows file source ts (KindLine ns m) (Locals ss None) now after h p = absurd h
line_follows file source ts (KindLine ns m) (Locals ss (Some ty)) now after h p = absurd h
line_follows file source ts (KindLine ns m) (Abbreviation s ss ty) now after h p = absurd h
line_follows file source ts (KindLine ns m) (Accumulate ss) now after h p = absurd h
line_follows file source ts (KindLine ns m) (AccumSig ss) now after h p = absurd h
line_follows file source ts (KindLine ns m) (Fixities ss f n) now after h p = absurd h
line_follows file source ts (LocalKindLine ns m) (Kinds ss n) now after h p = absurd h
line_follows file source ts (LocalKindLine ns m) (LocalKinds ss n) now after h p = p
line_follows file source ts (LocalKindLine ns m) (Constants ss ty) now after h p = absurd h
line_follows file source ts (LocalKindLine ns m) (Locals ss None) now after h p = absurd h
line_follows file source ts (LocalKindLine ns m) (Locals ss (Some ty)) now after h p = absurd h
line_follows file source ts (LocalKindLine ns m) (Abbreviation s ss ty) now after h p = absurd h
line_follows file source ts (LocalKindLine ns m) (Accumulate ss) now after h p = absurd h
line_follows file source ts (LocalKindLine ns m) (AccumSig ss) now after h p = absurd h
line_follows file source ts (LocalKindLine ns m) (Fixities ss f n) now after h p = absurd h
line_follows file source ts (ConstantLine ns t) (Kinds ss n) now after h p = absurd h
line_follows file source ts (ConstantLine ns t) (LocalKinds ss n) now after h p = absurd h
line_follows file source ts (ConstantLine ns t) (Constants ss ty) now after h p = p
line_follows file source ts (ConstantLine ns t) (Locals ss None) now after h p = absurd h
line_follows file source ts (ConstantLine ns t) (Locals ss (Some ty)) now after h p = absurd h
line_follows file source ts (ConstantLine ns t) (Abbreviation s ss ty) now after h p = absurd h
line_follows file source ts (ConstantLine ns t) (Accumulate ss) now after h p = absurd h
line_follows file source ts (ConstantLine ns t) (AccumSig ss) now after h p = absurd h
line_follows file source ts (ConstantLine ns t) (Fixities ss f n) now after h p = absurd h
line_follows file source ts (LocalLine ns None) (Kinds ss n) now after h p = absurd h
line_follows file source ts (LocalLine ns None) (LocalKinds ss n) now after h p = absurd h
line_follows file source ts (LocalLine ns None) (Constants ss ty) now after h p = absurd h
line_follows file source ts (LocalLine ns None) (Locals ss None) now after h p = p
line_follows file source ts (LocalLine ns None) (Locals ss (Some ty)) now after h p = absurd h
line_follows file source ts (LocalLine ns None) (Abbreviation s ss ty) now after h p = absurd h
line_follows file source ts (LocalLine ns None) (Accumulate ss) now after h p = absurd h
line_follows file source ts (LocalLine ns None) (AccumSig ss) now after h p = absurd h
line_follows file source ts (LocalLine ns None) (Fixities ss f n) now after h p = absurd h
line_follows file source ts (LocalLine ns (Some t)) (Kinds ss n) now after h p = absurd h
line_follows file source ts (LocalLine ns (Some t)) (LocalKinds ss n) now after h p = absurd h
line_follows file source ts (LocalLine ns (Some t)) (Constants ss ty) now after h p = absurd h
line_follows file source ts (LocalLine ns (Some t)) (Locals ss None) now after h p = absurd h
line_follows file source ts (LocalLine ns (Some t)) (Locals ss (Some ty)) now after h p = p
line_follows file source ts (LocalLine ns (Some t)) (Abbreviation s ss ty) now after h p = absurd h
line_follows file source ts (LocalLine ns (Some t)) (Accumulate ss) now after h p = absurd h
line_follows file source ts (LocalLine ns (Some t)) (AccumSig ss) now after h p = absurd h
line_follows file source ts (LocalLine ns (Some t)) (Fixities ss f n) now after h p = absurd h
line_follows file source ts (AbbreviationLine m ns t) (Kinds ss n) now after h p = absurd h
line_follows file source ts (AbbreviationLine m ns t) (LocalKinds ss n) now after h p = absurd h
line_follows file source ts (AbbreviationLine m ns t) (Constants ss ty) now after h p = absurd h
line_follows file source ts (AbbreviationLine m ns t) (Locals ss None) now after h p = absurd h
line_follows file source ts (AbbreviationLine m ns t) (Locals ss (Some ty)) now after h p = absurd h
line_follows file source ts (AbbreviationLine m ns t) (Abbreviation s ss ty) now after h p = p
line_follows file source ts (AbbreviationLine m ns t) (Accumulate ss) now after h p = absurd h
line_follows file source ts (AbbreviationLine m ns t) (AccumSig ss) now after h p = absurd h
line_follows file source ts (AbbreviationLine m ns t) (Fixities ss f n) now after h p = absurd h
line_follows file source ts (AccumulateLine ns) (Kinds ss n) now after h p = absurd h
line_follows file source ts (AccumulateLine ns) (LocalKinds ss n) now after h p = absurd h
line_follows file source ts (AccumulateLine ns) (Constants ss ty) now after h p = absurd h
line_follows file source ts (AccumulateLine ns) (Locals ss None) now after h p = absurd h
line_follows file source ts (AccumulateLine ns) (Locals ss (Some ty)) now after h p = absurd h
line_follows file source ts (AccumulateLine ns) (Abbreviation s ss ty) now after h p = absurd h
line_follows file source ts (AccumulateLine ns) (Accumulate ss) now after h p = p
line_follows file source ts (AccumulateLine ns) (AccumSig ss) now after h p = absurd h
line_follows file source ts (AccumulateLine ns) (Fixities ss f n) now after h p = absurd h
line_follows file source ts (AccumSigLine ns) (Kinds ss n) now after h p = absurd h
line_follows file source ts (AccumSigLine ns) (LocalKinds ss n) now after h p = absurd h
line_follows file source ts (AccumSigLine ns) (Constants ss ty) now after h p = absurd h
line_follows file source ts (AccumSigLine ns) (Locals ss None) now after h p = absurd h
line_follows file source ts (AccumSigLine ns) (Locals ss (Some ty)) now after h p = absurd h
line_follows file source ts (AccumSigLine ns) (Abbreviation s ss ty) now after h p = absurd h
line_follows file source ts (AccumSigLine ns) (Accumulate ss) now after h p = absurd h
line_follows file source ts (AccumSigLine ns) (AccumSig ss) now after h p = p
line_follows file source ts (AccumSigLine ns) (Fixities ss f n) now after h p = absurd h
line_follows file source ts (FixityLine ns g m) (Kinds ss n) now after h p = absurd h
line_follows file source ts (FixityLine ns g m) (LocalKinds ss n) now after h p = absurd h
line_follows file source ts (FixityLine ns g m) (Constants ss ty) now after h p = absurd h
line_follows file source ts (FixityLine ns g m) (Locals ss None) now after h p = absurd h
line_follows file source ts (FixityLine ns g m) (Locals ss (Some ty)) now after h p = absurd h
line_follows file source ts (FixityLine ns g m) (Abbreviation s ss ty) now after h p = absurd h
line_follows file source ts (FixityLine ns g m) (Accumulate ss) now after h p = absurd h
line_follows file source ts (FixityLine ns g m) (AccumSig ss) now after h p = absurd h
line_follows file source ts (FixityLine ns g m) (Fixities ss f n) now after h p = subst (λ x. DeclaresAll x now (map (bytes_at (lexemes source ts)) ns) after) (λ i. (h.1 i, h.2 i)) (subst (λ x. DeclaresAll (f, n) now x after) (ap (map (bytes_of source)) h.0 ∙ bytes_all file source ts ns) p)

follows : (file : ℕ) (source : List ℕ) (ts : List Token) (s : Clause) (d : Sentence) (now after : Operators) → IsSaid (spot_at file source ts) (lexemes source ts) d s → SentenceFollows source d now after → Follows (lexemes source ts) s now after
follows file source ts (Declared l) (sentence.Declares d) now after h p = line_follows file source ts l d now after h p
follows file source ts (Said t) (sentence.Says x) now after h p = p
follows file source ts (Declared l) (sentence.Says x) now after h p = absurd h
follows file source ts (Said t) (sentence.Declares d) now after h p = absurd h

-- sentences
pub none_said : (spot : ℕ → Spot) (ls : List Lexeme) (ops : Operators) (i : ℕ) (ds : List Sentence) → i ≡ 3 → ds ≡ [] → SentencesRead spot ls ops ops i ds
none_said spot ls ops i ds e n = record { before = []; sentences = subst (λ k. AreSentences ls ops 3 ops k []) (sym e) no_sentence; said = subst (λ l. AreSaid spot ls l []) (sym n) tt; fit = All-nil (ClauseFits ls) }

said_more : (spot : ℕ → Spot) (ls : List Lexeme) (ds : List Sentence) (d : Sentence) (ss : List Clause) (s : Clause) → AreSaid spot ls ds ss → IsSaid spot ls d s → AreSaid spot ls (ds ++ d ∷ []) (ss ++ s ∷ [])
said_more spot ls [] d [] s a h = (h, tt)
said_more spot ls [] d (x ∷ ss) s a h = absurd a
said_more spot ls (c ∷ ds) d [] s a h = absurd a
said_more spot ls (c ∷ ds) d (x ∷ ss) s a h = (a.0, said_more spot ls ds d ss s a.1 h)

pub one_more_said : (file : ℕ) (source : List ℕ) (ts : List Token) (ops now after : Operators) (i j : ℕ) (ds es : List Sentence) (d : Sentence) →
    SentencesRead (spot_at file source ts) (lexemes source ts) ops now i ds → IsSentenceText (spot_at file source ts) now (lexemes source ts) i j d →
    SentenceFollows source d now after → es ≡ ds ++ d ∷ [] → SentencesRead (spot_at file source ts) (lexemes source ts) ops after j es
one_more_said file source ts ops now after i j ds es d r t p e = record {
  before = r.before ++ t.clause ∷ [];
  sentences = one_sentence now after i j r.before (r.before ++ t.clause ∷ []) t.clause r.sentences t.is (follows file source ts t.clause d now after t.said p) refl;
  said = subst (λ l. AreSaid (spot_at file source ts) (lexemes source ts) l (r.before ++ t.clause ∷ [])) (sym e) (said_more (spot_at file source ts) (lexemes source ts) ds d r.before t.clause r.said t.said);
  fit = All-push (ClauseFits (lexemes source ts)) r.before t.clause r.fit t.fits;
}

pub sentence_refused : (spot : ℕ → Spot) (ops now : Operators) (ls : List Lexeme) (i : ℕ) (ds : List Sentence) (f : SyntaxFault) → IsHeader ls keyword.Module → SentencesRead spot ls ops now i ds → i < length ls → IsSentenceRefusal spot now ls i f → IsModuleRefusal spot ops ls f
sentence_refused spot ops now ls i ds f h r l x = inr (inr (record { header = h; at = i; now = now; before = r.before; sentences = r.sentences; fit = r.fit; there = l; refuses = inl x }))

-- the name at a place
record Split (ns : List ℕ) (place : ℕ) : Type 0 where
  pub number : ℕ
  pub rest : List ℕ
  pub all : ns ≡ take place ns ++ number ∷ rest

split_at : (spot : ℕ → Spot) (ns : List ℕ) (place : ℕ) (s : Spot) → slice_get (map spot ns) place ≡ Some s → (x : Split ns place) × (s ≡ spot x.number)
split_at spot [] place s e = absurd (cc)
split_at spot (n ∷ ns) zero s e = (record { number = n; rest = ns; all = refl }, same e)
  where
    same : Some (spot n) ≡ Some s → s ≡ spot n
    same e = cc
split_at spot (n ∷ ns) (suc place) s e = let h = split_at spot ns place s e in (record { number = h.0.number; rest = h.0.rest; all = ap (λ l. n ∷ l) h.0.all }, h.1)

operator_fault : (file : ℕ) (source : List ℕ) (ts : List Token) (ns : List ℕ) (ss : List Spot) (g : Fixity) (m : ℕ) (now : Operators)
    (f : SyntaxFault) → ss ≡ map (spot_at file source ts) ns → NameFault source ss (g, m) now f → OperatorFault (spot_at file source ts)
    (lexemes source ts) now (FixityLine ns g m) f
operator_fault file source ts ns ss g m now f e x =
    let spot = spot_at file source ts in
    let h = split_at spot ns x.place x.name (subst (λ l. slice_get l x.place ≡ Some x.name) e x.there) in
    record {
      front = take x.place ns;
      name = h.0.number;
      rest = h.0.rest;
      fixity = g;
      number = m;
      line_is = ap (λ l. FixityLine l g m) h.0.all;
      now = x.now;
      before = subst (λ l. DeclaresAll (g, m) now l x.now) (ap (λ l. map (bytes_of source) (take x.place l)) e ∙ ap (map (bytes_of source)) (take-map spot x.place ns) ∙ bytes_all file source ts (take x.place ns)) x.before;
      cause = x.cause;
      is_cause = subst (λ b. IsFixFault x.now b (g, m) x.cause) (ap (bytes_of source) h.1 ∙ bytes_there file source ts h.0.number) x.is_cause;
      is = x.is ∙ ap (fault.Operator x.cause) h.1;
    }

line_refuses : (file : ℕ) (source : List ℕ) (ts : List Token) (l : Line) (d : Declaration) (now : Operators) (f : SyntaxFault) → IsShown (spot_at file source ts) d l → LineRefuses source d now f → OperatorFault (spot_at file source ts) (lexemes source ts) now l f
line_refuses file source ts l (Kinds ss n) now f h p = absurd p
line_refuses file source ts l (LocalKinds ss n) now f h p = absurd p
line_refuses file source ts l (Constants ss ty) now f h p = absurd p
line_refuses file source ts l (Locals ss None) now f h p = absurd p
line_refuses file source ts l (Locals ss (Some ty)) now f h p = absurd p
line_refuses file source ts l (Abbreviation s ss ty) now f h p = absurd p
line_refuses file source ts l (Accumulate ss) now f h p = absurd p
line_refuses file source ts l (AccumSig ss) now f h p = absurd p
line_refuses file source ts (KindLine ns m) (Fixities ss k n) now f h p = absurd h
line_refuses file source ts (LocalKindLine ns m) (Fixities ss k n) now f h p = absurd h
line_refuses file source ts (ConstantLine ns t) (Fixities ss k n) now f h p = absurd h
line_refuses file source ts (LocalLine ns None) (Fixities ss k n) now f h p = absurd h
line_refuses file source ts (LocalLine ns (Some t)) (Fixities ss k n) now f h p = absurd h
line_refuses file source ts (AbbreviationLine m ns t) (Fixities ss k n) now f h p = absurd h
line_refuses file source ts (AccumulateLine ns) (Fixities ss k n) now f h p = absurd h
line_refuses file source ts (AccumSigLine ns) (Fixities ss k n) now f h p = absurd h
line_refuses file source ts (FixityLine ns g m) (Fixities ss k n) now f h p = operator_fault file source ts ns ss.items g m now f h.0 (subst (λ x. NameFault source ss.items x now f) (λ i. (h.1 i, h.2 i)) p)

pub operator_refused : (file : ℕ) (source : List ℕ) (ts : List Token) (ops now : Operators) (i j : ℕ) (ds : List Sentence) (d : Sentence)
    (f : SyntaxFault) → IsHeader (lexemes source ts) keyword.Module → SentencesRead (spot_at file source ts) (lexemes source ts) ops now i ds → i <
    length (lexemes source ts) → IsSentenceText (spot_at file source ts) now (lexemes source ts) i j d → MemoryOr f (SentenceRefuses source d now f) →
    IsModuleRefusal (spot_at file source ts) ops (lexemes source ts) f
operator_refused file source ts ops now i j ds d f h r l t (inl m) = inl m
operator_refused file source ts ops now i j ds d f h r l t (inr x) = inr (inr (record { header = h; at = i; now = now; before = r.before; sentences = r.sentences; fit = r.fit; there = l; refuses = inr (go t.clause d t.is t.said x) }))
  where
    line_of : (k : Line) → IsSentence now (lexemes source ts) i j (Declared k) → IsLine (lexemes source ts) i j k
    line_of k (declares _ y) = y

    go : (s : Clause) (d : Sentence) → IsSentence now (lexemes source ts) i j s → IsSaid (spot_at file source ts) (lexemes source ts) d s → SentenceRefuses source d now f → IsBadOperator (spot_at file source ts) now (lexemes source ts) i f
    go (Declared k) (sentence.Declares y) a b p = (j, k, line_of k a, line_refuses file source ts k y now f b p)
    go (Declared k) (sentence.Says y) a b p = absurd p
    go (Said k) (sentence.Declares y) a b p = absurd b
    go (Said k) (sentence.Says y) a b p = absurd p
