-- What a module that is refused leaves in the table.
use Rattle.std.proofs.Common.{◌≡◌, ℕ, zero, suc, ◌⊎◌, inl, inr, List, [], ◌∷◌, ◌++◌, map, take, drop, refl, sym, ap, ◌∙◌, subst}
use Rattle.std.specs.Prelude.{Some, None}
use Rattle.std.proofs.lemmas.List.{take-map}
use Rattle.lp_base.specs.declared.place.Spot.{Spot}
use Rattle.lp_standard.specs.declared.fixity.Fixity.{Fixity}
use Rattle.lp_lexer.specs.declared.token.Token.{Token}
use Rattle.lp_syntax.specs.declared.text.Declaration.{Declaration}
use Rattle.lp_syntax.specs.declared.text.Declaration.TheVariants.{Kinds, LocalKinds, Constants, Locals, Abbreviation, Accumulate, AccumSig, Fixities}
use Rattle.lp_syntax.specs.declared.text.Sentence.{Sentence}
use Rattle.lp_syntax.specs.declared.text.Sentence.TheVariants as sentence
use Rattle.lp_syntax.specs.Tokens.{Lexeme, Operators, lexemes, spot_at}
use Rattle.lp_syntax.specs.Declarations.{Line, KindLine, LocalKindLine, ConstantLine, LocalLine, AbbreviationLine, AccumulateLine, AccumSigLine, FixityLine, IsShown}
use Rattle.lp_syntax.specs.Signatures.{IsLine}
use Rattle.lp_syntax.specs.Modules.{Clause, Declared, Said, IsSentence, declares, DeclaresAll, no_sentence, IsSaid, SentencesRead, IsSentenceText, IsPartDeclared, IsLeft, LineLeft, SentenceLeft, bytes_of}
use Rattle.lp_syntax.proofs.ModuleCode.{bytes_all}

-- a table that is the same at each name
pub names_kept : (e : Fixity × ℕ) (ops now after : Operators) (ws : List (List ℕ)) → DeclaresAll e ops ws now → ((o : List ℕ) → after o ≡ now o) → DeclaresAll e ops ws after
names_kept e ops now after ws d h = subst (DeclaresAll e ops ws) (λ i o. sym (h o) i) d

take_drop : (n : ℕ) (ns : List ℕ) → ns ≡ take n ns ++ drop n ns
take_drop zero ns = refl
take_drop (suc n) [] = refl
take_drop (suc n) (x ∷ ns) = ap (λ l. x ∷ l) (take_drop n ns)

abbrev LeftBy : List Lexeme → ℕ → Operators → Operators → Type 0
LeftBy ls at ops now = ((name : List ℕ) → now name ≡ ops name) ⊎ IsPartDeclared ls at ops now

part_left : (file : ℕ) (source : List ℕ) (ts : List Token) (ns : List ℕ) (ss : List Spot) (g : Fixity) (m at end place : ℕ) (now after : Operators) →
    IsLine (lexemes source ts) at end (FixityLine ns g m) → ss ≡ map (spot_at file source ts) ns → DeclaresAll (g, m) now
    (map (bytes_of source) (take place ss)) after → IsPartDeclared (lexemes source ts) at now after
part_left file source ts ns ss g m at end place now after k e d = record {
  end = end;
  front = take place ns;
  rest = drop place ns;
  fixity = g;
  number = m;
  line = subst (λ l. IsLine (lexemes source ts) at end (FixityLine l g m)) (take_drop place ns) k;
  declared = subst (λ l. DeclaresAll (g, m) now l after) (ap (λ l. map (bytes_of source) (take place l)) e ∙ ap (map (bytes_of source)) (take-map (spot_at file source ts) place ns) ∙ bytes_all file source ts (take place ns)) d;
}

line_left : (file : ℕ) (source : List ℕ) (ts : List Token) (l : Line) (d : Declaration) (at end : ℕ) (now after : Operators) → IsLine (lexemes source ts) at end l → IsShown (spot_at file source ts) d l → LineLeft source d now after → LeftBy (lexemes source ts) at now after
line_left file source ts l (Kinds ss n) at end now after k h p = inl p
line_left file source ts l (LocalKinds ss n) at end now after k h p = inl p
line_left file source ts l (Constants ss ty) at end now after k h p = inl p
line_left file source ts l (Locals ss None) at end now after k h p = inl p
line_left file source ts l (Locals ss (Some ty)) at end now after k h p = inl p
line_left file source ts l (Abbreviation s ss ty) at end now after k h p = inl p
line_left file source ts l (Accumulate ss) at end now after k h p = inl p
line_left file source ts l (AccumSig ss) at end now after k h p = inl p
line_left file source ts (KindLine ns m) (Fixities ss f n) at end now after k h p = absurd h
line_left file source ts (LocalKindLine ns m) (Fixities ss f n) at end now after k h p = absurd h
line_left file source ts (ConstantLine ns t) (Fixities ss f n) at end now after k h p = absurd h
line_left file source ts (LocalLine ns None) (Fixities ss f n) at end now after k h p = absurd h
line_left file source ts (LocalLine ns (Some t)) (Fixities ss f n) at end now after k h p = absurd h
line_left file source ts (AbbreviationLine m ns t) (Fixities ss f n) at end now after k h p = absurd h
line_left file source ts (AccumulateLine ns) (Fixities ss f n) at end now after k h p = absurd h
line_left file source ts (AccumSigLine ns) (Fixities ss f n) at end now after k h p = absurd h
line_left file source ts (FixityLine ns g m) (Fixities ss f n) at end now after k h p = inr (part_left file source ts ns ss.items g m at end p.0 now after k h.0 (subst (λ x. DeclaresAll x now (map (bytes_of source) (take p.0 ss.items)) after) (λ i. (h.1 i, h.2 i)) p.1))

sentence_left : (file : ℕ) (source : List ℕ) (ts : List Token) (s : Clause) (d : Sentence) (at end : ℕ) (now after : Operators) → IsSentence now
    (lexemes source ts) at end s → IsSaid (spot_at file source ts) (lexemes source ts) d s → SentenceLeft source d now after → LeftBy
    (lexemes source ts) at now after
sentence_left file source ts (Declared l) (sentence.Declares d) at end now after (declares _ k) h p = line_left file source ts l d at end now after k h p
sentence_left file source ts (Declared l) (sentence.Says x) at end now after k h p = absurd h
sentence_left file source ts (Said t) (sentence.Declares d) at end now after k h p = absurd h
sentence_left file source ts (Said t) (sentence.Says x) at end now after k h p = inl p

-- at the header, behind sentences that were read, and in the one behind them
pub none_left : (ls : List Lexeme) (ops : Operators) → IsLeft ls ops ops
none_left ls ops = record { at = 3; behind = ops; before = []; sentences = no_sentence; names = inl (λ o. refl) }

pub left_behind : (spot : ℕ → Spot) (ls : List Lexeme) (ops now : Operators) (i : ℕ) (ds : List Sentence) → SentencesRead spot ls ops now i ds → IsLeft ls ops now
left_behind spot ls ops now i ds r = record { at = i; behind = now; before = r.before; sentences = r.sentences; names = inl (λ o. refl) }

pub left_within : (file : ℕ) (source : List ℕ) (ts : List Token) (ops now after : Operators) (i j : ℕ) (ds : List Sentence) (d : Sentence) →
    SentencesRead (spot_at file source ts) (lexemes source ts) ops now i ds → IsSentenceText (spot_at file source ts) now (lexemes source ts) i j d →
    SentenceLeft source d now after → IsLeft (lexemes source ts) ops after
left_within file source ts ops now after i j ds d r t p = record { at = i; behind = now; before = r.before; sentences = r.sentences; names = sentence_left file source ts t.clause d i j now after t.is t.said p }
