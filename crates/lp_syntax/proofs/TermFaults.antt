-- How far a term is read, and what follows where it stops.
use Rattle.std.proofs.Common.{◌≡◌, ◌≢◌, ℕ, suc, ◌<◌, ◌≤◌, List, [], ◌∷◌, ◌++◌, length, refl, sym, ap, ◌∙◌, subst, arith, append-nil}
use Rattle.std.specs.Prelude.{Some, None}
use Rattle.lp_syntax.specs.declared.class.Class.TheVariants.{Colon, Backslash}
use Rattle.lp_syntax.specs.declared.symbol.Sym.{Sym}
use Rattle.lp_syntax.specs.declared.symbol.Sym.TheVariants.{Binds}
use Rattle.lp_syntax.specs.declared.symbol.Fault.{Fault}
use Rattle.lp_syntax.specs.Symbols.{Tree}
use Rattle.lp_syntax.specs.Machine.{State, Wants, st, step, Goes, Stops, Run, Reached, Failed, go_on, run, ended, Given, Faulty, Unfinished, outcome_at, outcome, read}
use Rattle.lp_syntax.specs.Text.{IsTerm}
use Rattle.lp_syntax.specs.Tokens.{Lexeme, Operators, class_at, symbol_at, Agree}
use Rattle.lp_syntax.specs.Types.{Whole}
use Rattle.lp_syntax.specs.TypeMachine.{TypeState, Ends, Runs, ts, Wants as NeedsType}
use Rattle.lp_syntax.specs.TypeViews.{ComesTo}
use Rattle.lp_syntax.specs.Terms.{Spells, done, token, note, TermAt, CanGoOn, NoneOver}
use Rattle.lp_syntax.specs.TermViews.{HasRead, IsNoNote}
use Rattle.lp_syntax.proofs.Complete.{run_step}
use Rattle.lp_syntax.proofs.Reading.{one_tree, run_append, read_of_term, term_of_run, completed_run, completion}
use Rattle.lp_syntax.proofs.Tokens.{class_same, agree_less, going_on}
use Rattle.lp_syntax.proofs.TypeReading.{type_sound, runs_on}
use Rattle.lp_syntax.proofs.TypeFaults.{type_up, runs_same, type_end, type_completion, completes_type}
use Rattle.lp_syntax.proofs.Spelling.{spells_on, spells_same, spells_further, spells_up, first_plain, first_note, completing, completion_marks, marks_spell}

pub nothing_read : (ops : Operators) (ls : List Lexeme) (from : ℕ) → HasRead ops ls from from (st [] Wants)
nothing_read ops ls from = record { symbols = []; spells = done from; runs = refl }

run_more : (cs : List Sym) (c : Sym) (s r : State) → run (st [] Wants) cs ≡ Reached s → step s c ≡ Goes r → run (st [] Wants) (cs ++ c ∷ []) ≡ Reached r
run_more cs c s r e f = run_append (st [] Wants) s cs (c ∷ []) e ∙ run_step s c [] r f

pub read_token : (ops : Operators) (ls : List Lexeme) (from n : ℕ) (s r : State) → HasRead ops ls from n s → class_at ls n ≢ Colon → step s (symbol_at ops ls n) ≡ Goes r → HasRead ops ls from (suc n) r
read_token ops ls from n s r h c e = record {
  symbols = h.symbols ++ symbol_at ops ls n ∷ [];
  spells = spells_on ops ls from n (suc n) h.symbols _ h.spells (token n (suc n) [] c (done (suc n)));
  runs = run_more h.symbols _ s r h.runs e;
}

pub read_note : (ops : Operators) (ls : List Lexeme) (from n k : ℕ) (s r : State) → HasRead ops ls from n s → class_at ls n ≡ Colon → ComesTo ls (suc n) k Ends → class_at ls k ≡ Backslash → step s (Binds (Some n)) ≡ Goes r → HasRead ops ls from (suc k) r
read_note ops ls from n k s r h c y b e =
    let t = type_sound ls (suc n) y.state k y.runs y.moves in
    record {
      symbols = h.symbols ++ Binds (Some n) ∷ [];
      spells = spells_on ops ls from n (suc k) h.symbols _ h.spells (note n k (suc k) t.0 [] c t.1 b (done (suc k)));
      runs = run_more h.symbols _ s r h.runs e;
    }

pub same_read : (ops : Operators) (n : ℕ) (ls ms : List Lexeme) → Agree n ls ms → (from : ℕ) (s : State) → HasRead ops ls from n s → HasRead ops ms from n s
same_read ops n ls ms a from s h = record { symbols = h.symbols; spells = spells_same ops n ls ms a from n h.symbols (omega arith) h.spells; runs = h.runs }

-- what was read goes on to a term
go_on_in : (ops : Operators) (text : List Lexeme) (from n : ℕ) (s : State) → HasRead ops text from n s → Spells ops text n (length text) (completion n s) → (t : Tree) × TermAt ops text from (length text) t
go_on_in ops text from n s h d =
    let c = completed_run n h.symbols s h.runs in
    (c.tree, record { symbols = h.symbols ++ completion n s; spells = spells_on ops text from n (length text) h.symbols _ h.spells d; is = c.whole })

pub can_go_on : (ops : Operators) (ls : List Lexeme) (from n : ℕ) (s : State) → n ≤ length ls → HasRead ops ls from n s → CanGoOn ops ls from n
can_go_on ops ls from n s l h =
    let g = going_on n ls (completing s) l in
    let d = marks_spell ops g.text n (length g.text) (completion n s) (completing s) (completion_marks n s) g.stand g.long in
    let t = go_on_in ops g.text from n s (same_read ops n ls g.text g.agrees from s h) d in
    record { text = g.text; agrees = g.agrees; tree = t.0; term = t.1 }

-- no term goes over a token that stops the reader
stopped_run : (s : State) (c : Sym) (cs ds : List Sym) (f : Fault) (t : Tree) → step s c ≡ Stops f → run (st [] Wants) cs ≡ Reached s → read (cs ++ c ∷ ds) ≡ Given t → ⊥
unfolding read
stopped_run s c cs ds f t e r g =
    let i = ap outcome (run_append (st [] Wants) s cs (c ∷ ds) r) in
    let j = ap (λ m. outcome (go_on (λ u. run u ds) c ds m)) e in
    let k : Faulty f (c ∷ ds) ≡ Given t = sym (i ∙ j) ∙ g in
    cc

pub token_stops : (ops : Operators) (ls : List Lexeme) (from n : ℕ) (s : State) (f : Fault) → HasRead ops ls from n s → class_at ls n ≢ Colon → step s (symbol_at ops ls n) ≡ Stops f → NoneOver ops ls from n
token_stops ops ls from n s f h c e = λ m t l d.
    let x = spells_further ops ls from n m h.symbols d.symbols h.spells d.spells (omega (arith, l)) in
    let y = first_plain ops ls n m x.after x.spells l c in
    stopped_run s _ h.symbols y.after f t e h.runs (ap read (ap (λ z. h.symbols ++ z) (sym y.are) ∙ sym x.are) ∙ read_of_term d.symbols t d.is)

pub colon_stops : (ops : Operators) (ls : List Lexeme) (from n : ℕ) (s : State) (f : Fault) → HasRead ops ls from n s → class_at ls n ≡ Colon → step s (Binds (Some n)) ≡ Stops f → NoneOver ops ls from n
colon_stops ops ls from n s f h c e = λ m t l d.
    let x = spells_further ops ls from n m h.symbols d.symbols h.spells d.spells (omega (arith, l)) in
    let y = first_note ops ls n m x.after x.spells l c in
    stopped_run s _ h.symbols y.after f t e h.runs (ap read (ap (λ z. h.symbols ++ z) (sym y.are) ∙ sym x.are) ∙ read_of_term d.symbols t d.is)

pub note_stops : (ops : Operators) (ls : List Lexeme) (from n p : ℕ) (s : State) (q : TypeState) → HasRead ops ls from n s → class_at ls n ≡ Colon → Runs ls (ts [] NeedsType) (suc n) q p → IsNoNote ls p q → (m : ℕ) (t : Tree) → n < m → TermAt ops ls from m t → ⊥
note_stops ops ls from n p s q h c r i = λ m t l d.
    let x = spells_further ops ls from n m h.symbols d.symbols h.spells d.spells (omega (arith, l)) in
    let y = first_note ops ls n m x.after x.spells l c in
    let z = type_end ls (suc n) p y.end q y.tree r i.0 y.type_is y.mark in
    i.1 z.1 (ap (class_at ls) z.0 ∙ y.mark)

-- a term that ends here
pub read_ends : (ops : Operators) (ls : List Lexeme) (from n : ℕ) (s : State) (t : Tree) → HasRead ops ls from n s → ended s ≡ Some t → TermAt ops ls from n t
read_ends ops ls from n s t h e = record { symbols = h.symbols; spells = h.spells; is = term_of_run h.symbols s t h.runs e }

pub none_between : (ops : Operators) (ls : List Lexeme) (i j : ℕ) → i ≡ j → (cs : List Sym) → Spells ops ls i j cs → cs ≡ []
none_between ops ls i j f cs (done _) = refl
none_between ops ls i j f cs (token _ _ es c k) = let u = spells_up ops ls (suc i) j es k in absurd (omega (arith, u, f))
none_between ops ls i j f cs (note _ m _ y es c z b k) = let u = spells_up ops ls (suc m) j es k in let v = type_up ls Whole (suc i) m y z in absurd (omega (arith, u, v, f))

pub read_is_open : (ops : Operators) (ls : List Lexeme) (from n : ℕ) (s : State) → HasRead ops ls from n s → ended s ≡ None → (t : Tree) → TermAt ops ls from n t → ⊥
unfolding read
read_is_open ops ls from n s h e t d =
    let x = spells_further ops ls from n n h.symbols d.symbols h.spells d.spells (omega arith) in
    let a : x.after ≡ [] = none_between ops ls n n refl x.after x.spells in
    let y : d.symbols ≡ h.symbols = x.are ∙ ap (λ z. h.symbols ++ z) a ∙ append-nil h.symbols in
    let g = read_of_term d.symbols t d.is in
    let k : Unfinished ≡ Given t = sym (ap (λ r. outcome (run (st [] Wants) r)) y ∙ ap outcome h.runs ∙ ap outcome_at e) ∙ g in
    cc

-- an annotation that was begun goes on to a term
pub note_goes_on : (ops : Operators) (ls : List Lexeme) (from n p : ℕ) (s r : State) (q : TypeState) → n < p → p ≤ length ls → HasRead ops ls from n s → class_at ls n ≡ Colon → step s (Binds (Some n)) ≡ Goes r → Runs ls (ts [] NeedsType) (suc n) q p → CanGoOn ops ls from p
note_goes_on ops ls from n p s r q u l h c e d =
    let g = going_on p ls (type_completion q.waits q.need (completing r)) l in
    let a = agree_less n p ls g.text (omega (arith, u)) g.agrees in
    let k = completes_type g.text q.waits q.need p (completing r) (length g.text) g.stand g.long in
    let y : ComesTo g.text (suc n) k.end Ends = record { state = k.last; runs = runs_on g.text _ q k.last (suc n) p k.end (runs_same p ls g.text g.agrees (ts [] NeedsType) q (suc n) p (omega arith) d) k.runs; moves = k.ends } in
    let w = read_note ops g.text from n k.end s r (same_read ops n ls g.text a from s h) (class_same p n ls g.text g.agrees u ∙ c) y k.mark e in
    let z = marks_spell ops g.text (suc k.end) (length g.text) (completion (suc k.end) r) (completing r) (completion_marks (suc k.end) r) k.stand k.long in
    let t = go_on_in ops g.text from (suc k.end) r w z in
    record { text = g.text; agrees = g.agrees; tree = t.0; term = t.1 }

-- the same term in a text that begins so
pub same_term : (ops : Operators) (n : ℕ) (ls ms : List Lexeme) → Agree n ls ms → (from to : ℕ) (t : Tree) → to ≤ n → TermAt ops ls from to t → TermAt ops ms from to t
same_term ops n ls ms a from to t l d = record { symbols = d.symbols; spells = spells_same ops n ls ms a from to d.symbols l d.spells; is = d.is }

pub agree_back : (n : ℕ) (ls ms : List Lexeme) → n ≤ length ls → Agree n ls ms → Agree n ms ls
agree_back n ls ms l a = record { long = l; same = λ i h. sym (a.same i h) }

-- a term is read to its end
pub term_read : (ops : Operators) (ls : List Lexeme) (from to : ℕ) (t : Tree) → TermAt ops ls from to t → (s : State) × HasRead ops ls from to s
unfolding read
term_read ops ls from to t d = go (run (st [] Wants) d.symbols) refl (read_of_term d.symbols t d.is)
  where
    go : (r : Run) → run (st [] Wants) d.symbols ≡ r → outcome (run (st [] Wants) d.symbols) ≡ Given t → (s : State) × HasRead ops ls from to s
    go (Reached s) e g = (s, record { symbols = d.symbols; spells = d.spells; runs = e })
    go (Failed f cs) e g = let k : Faulty f cs ≡ Given t = sym (ap outcome e) ∙ g in absurd (cc)

-- a term has one tree
pub one_term : (ops : Operators) (ls : List Lexeme) (from to : ℕ) (t u : Tree) → TermAt ops ls from to t → TermAt ops ls from to u → t ≡ u
one_term ops ls from to t u d e =
    let x = spells_further ops ls from to to d.symbols e.symbols d.spells e.spells (omega arith) in
    let a : x.after ≡ [] = none_between ops ls to to refl x.after x.spells in
    let y : d.symbols ≡ e.symbols = sym (x.are ∙ ap (λ z. d.symbols ++ z) a ∙ append-nil d.symbols) in
    one_tree e.symbols t u (subst (λ z. IsTerm z t) y d.is) e.is
