-- Where a sentence of a module has its fault.
use Rattle.std.proofs.Common.{◌≡◌, ℕ, suc, ◌+◌, ◌<◌, inl, inr, List, [], ◌∷◌, length, refl, sym, ap, ◌∙◌, subst, arith}
use Rattle.std.specs.Prelude.{Some}
use Rattle.lp_syntax.proofs.Referring.{agree_self}
use Rattle.lp_base.specs.declared.place.Spot.{Spot}
use Rattle.lp_syntax.specs.declared.class.Keyword.{Keyword}
use Rattle.lp_syntax.specs.declared.class.Class.TheVariants as class
use Rattle.lp_syntax.specs.declared.symbol.Sym.{Sym}
use Rattle.lp_syntax.specs.declared.symbol.Sym.TheVariants.{Other}
use Rattle.lp_syntax.specs.declared.symbol.Fault.TheVariants.{Unexpected}
use Rattle.lp_syntax.specs.declared.fault.SyntaxFault.{SyntaxFault}
use Rattle.lp_syntax.specs.declared.fault.SyntaxFault.TheVariants as fault
use Rattle.lp_syntax.specs.Symbols.{Tree}
use Rattle.lp_syntax.specs.Text.{IsTerm}
use Rattle.lp_syntax.specs.Machine.{Wants, st, step, read, Given, Unfinished}
use Rattle.lp_syntax.specs.Tokens.{Lexeme, Operators, class_at, symbol_at, symbol_of, bytes_at, Agree}
use Rattle.lp_syntax.specs.Terms.{Spells, done, token, note, TermAt, StopsAt, TermFault}
use Rattle.lp_syntax.specs.TermViews.{HasRead}
use Rattle.lp_syntax.specs.Declarations.{Line}
use Rattle.lp_syntax.specs.LineMachine.{AtStart, StopsIn, LineStops}
use Rattle.lp_syntax.specs.Signatures.{IsLine}
use Rattle.lp_syntax.specs.Modules.{Clause, Declared, Said, IsSentence, declares, says, SentenceFault}
use Rattle.lp_syntax.proofs.Reading.{read_of_term}
use Rattle.lp_syntax.proofs.Spelling.{spells_up}
use Rattle.lp_syntax.proofs.Tokens.{class_same, agree_less, going_on, class_stands, past_end}
use Rattle.lp_syntax.proofs.TypeFaults.{Compared, less, same, more, compared}
use Rattle.lp_syntax.proofs.TermFaults.{token_stops, same_term, agree_back}
use Rattle.lp_syntax.proofs.TermSteps.{other_stops}
use Rattle.lp_syntax.proofs.QueryFaults.{over_dot}
use Rattle.lp_syntax.proofs.LineOpen.{stops_up}
use Rattle.lp_syntax.proofs.LineStops.{dot_token}
use Rattle.lp_syntax.proofs.SignatureFaults.{line_runs_of, finished, no_line_there}

-- no term begins with a keyword
keyword_symbol : (ops : Operators) (ls : List Lexeme) (i : ℕ) (k : Keyword) → class_at ls i ≡ class.Keyword k → symbol_at ops ls i ≡ Other
unfolding symbol_at
keyword_symbol ops ls i k e = ap (λ c. symbol_of i c (ops (bytes_at ls i))) e

no_empty : (t : Tree) → IsTerm [] t → ⊥
unfolding read
no_empty t h = let z : Unfinished ≡ Given t = read_of_term [] t h in cc

pub up_from : (ops : Operators) (ls : List Lexeme) (i e : ℕ) (t : Tree) → TermAt ops ls i e t → i < e
up_from ops ls i e t d = go d.symbols d.spells d.is (compared i e)
  where
    empty : (ls : List Lexeme) (i e : ℕ) (cs : List Sym) → Spells ops ls i e cs → e ≡ i → cs ≡ []
    empty ls i e cs (done _) p = refl
    empty ls i e cs (token _ _ ds n s) p = let u = spells_up ops ls (suc i) e ds s in absurd (omega (arith, u, p))
    empty ls i e cs (note _ m _ t' ds c h b s) p =
        let u = spells_up ops ls (suc m) e ds s in
        let v = Rattle.lp_syntax.proofs.TypeFaults.type_up ls Rattle.lp_syntax.specs.Types.Whole (suc i) m t' h in
        absurd (omega (arith, u, v, p))

    go : (cs : List Sym) → Spells ops ls i e cs → IsTerm cs t → Compared i e → i < e
    go cs s h (less l) = l
    go cs s h (same p) = absurd (no_empty t (subst (λ x. IsTerm x t) (empty ls i e cs s (sym p)) h))
    go cs s h (more l) = let u = spells_up ops ls i e cs s in absurd (omega (arith, u, l))

pub no_keyword_term : (ops : Operators) (ls : List Lexeme) (i e : ℕ) (t : Tree) (k : Keyword) → class_at ls i ≡ class.Keyword k → TermAt ops ls i e t → ⊥
no_keyword_term ops ls i e t k c d =
    let s = st [] Wants in
    let h : HasRead ops ls i i s = record { symbols = []; spells = done i; runs = refl } in
    token_stops ops ls i i s Unexpected h (λ z. let y : class.Keyword k ≡ class.Colon = sym c ∙ z in cc) (ap (step s) (keyword_symbol ops ls i k c) ∙ other_stops [] Wants) e t (up_from ops ls i e t d) d

-- a declaration that stops
no_declaration : (ops : Operators) (ls ms : List Lexeme) (i n j : ℕ) (k : Keyword) (s : Clause) → class_at ls i ≡ class.Keyword k → Agree n ls ms → class_at ms n ≡ class_at ls n → LineStops ls AtStart i n → IsSentence ops ms i j s → ⊥
no_declaration ops ls ms i n j k s c a e h (declares l d) = no_line_there ls ms AtStart i n j a e h (line_runs_of ms i j l d)
no_declaration ops ls ms i n j k s c a e h (says m t d z p) = no_keyword_term ops ms i m t k (first (compared i n)) d
  where
    first : Compared i n → class_at ms i ≡ class.Keyword k
    first (less l) = class_same n i ls ms a l ∙ c
    first (same q) = ap (class_at ms) q ∙ e ∙ ap (class_at ls) (sym q) ∙ c
    first (more l) = let u = stops_up ls AtStart i n h in absurd (omega (arith, u, l))

pub declaration_fault : (spot : ℕ → Spot) (ops : Operators) (ls : List Lexeme) (i : ℕ) (k : Keyword) (f : SyntaxFault) → class_at ls i ≡ class.Keyword k → StopsIn spot ls AtStart i f → SentenceFault spot ops ls i f
declaration_fault spot ops ls i k f c s =
    let n = s.number in
    let g = finished ls i n s.there in
    record {
      number = n;
      low = stops_up ls AtStart i n s.there;
      high = s.there.high;
      text = g.text;
      agrees = g.agrees;
      end = length g.text;
      clause = Declared g.line.line;
      viable = declares g.line.line (record { word = g.line.word; there = g.line.there; body = g.line.body });
      first = λ ms l a j x h. no_declaration ops ls ms i n j k x c (agree_less n (suc n) ls ms (omega arith) a) (class_same (suc n) n ls ms a (omega arith)) s.there h;
      none = λ j x h. no_declaration ops ls ls i n j k x c (agree_self n ls s.there.high) refl s.there h;
      kind = inl (k, c, s.kind);
    }

-- a term with a full stop behind it
dotted : (ops : Operators) (ls : List Lexeme) (i : ℕ) (t : Tree) → TermAt ops ls i (length ls) t → (text : List Lexeme) → Agree (length ls) ls text → Rattle.std.specs.Prelude.slice_get text (length ls) ≡ Some dot_token → IsSentence ops text i (length ls + 1) (Said t)
dotted ops ls i t d text a h = says (length ls) t (same_term ops (length ls) ls text a i (length ls) t (omega arith) d) (class_stands text (length ls) dot_token h) refl

-- a term that stops is no sentence
no_term_line : (ops : Operators) (ms : List Lexeme) (i j : ℕ) (l : Line) → ((k : Keyword) → class_at ms i ≡ class.Keyword k → ⊥) → IsLine ms i j l → ⊥
no_term_line ops ms i j l n h = n h.word h.there

stopped_first : (ops : Operators) (ls ms : List Lexeme) (i n j : ℕ) (s : Clause) → ((k : Keyword) → class_at ls i ≡ class.Keyword k → ⊥) → StopsAt ops ls i n → Agree (suc n) ls ms → IsSentence ops ms i j s → ⊥
stopped_first ops ls ms i n j s q h a (declares l d) = q d.word (sym (class_same (suc n) i ls ms a (let u = h.low in omega (arith, u))) ∙ d.there)
stopped_first ops ls ms i n j s q h a (says e t d z p) = go (compared n e)
  where
    b : Agree n ls ms
    b = agree_less n (suc n) ls ms (omega arith) a

    go : Compared n e → ⊥
    go (less l) = h.first ms a e t l d
    go (same y) = h.none (inr (sym (class_same (suc n) n ls ms a (omega arith)) ∙ ap (class_at ms) y ∙ z)) t (same_term ops n ms ls (agree_back n ls ms h.high b) i n t (omega arith) (subst (λ m. TermAt ops ms i m t) (sym y) d))
    go (more l) =
        let g = h.viable in
        let long = g.agrees.long in
        over_dot ops g.text i e t (same_term ops n ls g.text g.agrees i e t (omega (arith, l))
        (same_term ops n ms ls (agree_back n ls ms h.high b) i e t (omega (arith, l)) d))
        (class_same n e ls g.text g.agrees l ∙ sym (class_same n e ls ms b l) ∙ z) (length g.text) g.tree (omega (arith, long, l)) g.term

stopped_none : (ops : Operators) (ls : List Lexeme) (i n j : ℕ) (s : Clause) → ((k : Keyword) → class_at ls i ≡ class.Keyword k → ⊥) → StopsAt ops ls i n → IsSentence ops ls i j s → ⊥
stopped_none ops ls i n j s q h (declares l d) = q d.word d.there
stopped_none ops ls i n j s q h (says e t d z p) = go (compared n e)
  where
    within : e < length ls
    within = by_compared (compared e (length ls))
      where
        by_compared : Compared e (length ls) → e < length ls
        by_compared (less l) = l
        by_compared (same y) = absurd (let x : class.End ≡ class.Dot = sym (past_end ls e (omega (arith, y))) ∙ z in cc)
        by_compared (more l) = absurd (let x : class.End ≡ class.Dot = sym (past_end ls e (omega (arith, l))) ∙ z in cc)

    go : Compared n e → ⊥
    go (less l) = h.first ls (agree_self (suc n) ls (let w = within in omega (arith, w, l))) e t l d
    go (same y) = h.none (inr (ap (class_at ls) y ∙ z)) t (subst (λ m. TermAt ops ls i m t) (sym y) d)
    go (more l) =
        let g = h.viable in
        let long = g.agrees.long in
        over_dot ops g.text i e t (same_term ops n ls g.text g.agrees i e t (omega (arith, l)) d) (class_same n e ls g.text g.agrees l ∙ z) (length g.text) g.tree (omega (arith, long, l)) g.term

pub term_fault : (spot : ℕ → Spot) (ops : Operators) (ls : List Lexeme) (i : ℕ) (f : SyntaxFault) → ((k : Keyword) → class_at ls i ≡ class.Keyword k → ⊥) → TermFault spot ops ls i f → SentenceFault spot ops ls i f
term_fault spot ops ls i f q e =
    let h = e.stops in
    let n = e.number in
    let v = h.viable in
    let g = going_on (length v.text) v.text (dot_token ∷ []) (omega arith) in
    record {
      number = n;
      low = h.low;
      high = h.high;
      text = g.text;
      agrees = agree_on ls v.text g.text n v.agrees g.agrees;
      end = length v.text + 1;
      clause = Said v.tree;
      viable = dotted ops v.text i v.tree v.term g.text g.agrees g.stand.0;
      first = λ ms l a j s x. stopped_first ops ls ms i n j s q h a x;
      none = λ j s x. stopped_none ops ls i n j s q h x;
      kind = inr (inl e.kind);
    }
  where
    agree_on : (ls ms ts : List Lexeme) (n : ℕ) → Agree n ls ms → Agree (length ms) ms ts → Agree n ls ts
    agree_on ls ms ts n a b = record { long = let u = a.long in let v = b.long in omega (arith, u, v); same = λ i l. b.same i (let u = a.long in omega (arith, u, l)) ∙ a.same i l }

-- a term at the end of the text wants its full stop
pub end_fault : (spot : ℕ → Spot) (ops : Operators) (ls : List Lexeme) (i n : ℕ) (t : Tree) (f : SyntaxFault) → ((k : Keyword) → class_at ls i ≡ class.Keyword k → ⊥) → TermAt ops ls i n t → n ≡ length ls → f ≡ fault.Unexpected (spot n) → SentenceFault spot ops ls i f
end_fault spot ops ls i n t f q d e p =
    let g = going_on (length ls) ls (dot_token ∷ []) (omega arith) in
    let w = up_from ops ls i n t d in
    record {
      number = n;
      low = omega (arith, w);
      high = omega (arith, e);
      text = g.text;
      agrees = subst (λ m. Agree m ls g.text) (sym e) g.agrees;
      end = length ls + 1;
      clause = Said t;
      viable = dotted ops ls i t (subst (λ m. TermAt ops ls i m t) e d) g.text g.agrees g.stand.0;
      first = λ ms l a j s x. omega (arith, l, e);
      none = λ j s x. none j s x;
      kind = inr (inr (e, (t, d), p));
    }
  where
    none : (j : ℕ) (s : Clause) → IsSentence ops ls i j s → ⊥
    none j s (declares l h) = q h.word h.there
    none j s (says m u h z y) = go (compared m n)
      where
        go : Compared m n → ⊥
        go (less l) = over_dot ops ls i m u h z n t l d
        go (same x) = let v : class.End ≡ class.Dot = sym (past_end ls m (omega (arith, x, e))) ∙ z in cc
        go (more l) = let v : class.End ≡ class.Dot = sym (past_end ls m (omega (arith, l, e))) ∙ z in cc
