-- Which faults are ambiguities.
use Rattle.std.proofs.Common.{◌≡◌, ◌≢◌, ℕ, suc, ◌<◌, Bool, true, false, inl, inr, List, [], ◌∷◌, ◌++◌, length, refl, sym, ap, ◌∙◌, subst, arith, append-nil, length-append}
use Rattle.std.specs.Prelude.{Option, Some, None, if◌then◌else◌}
use Rattle.lp_syntax.specs.declared.symbol.Oper.{Oper}
use Rattle.lp_syntax.specs.declared.symbol.Sym.{Sym}
use Rattle.lp_syntax.specs.declared.symbol.Sym.TheVariants.{Word, Atom, Op, Opens, Closes, OpensList, ClosesList, Bar, Binds, Other}
use Rattle.lp_syntax.specs.declared.symbol.Fault.{Fault}
use Rattle.lp_syntax.specs.declared.symbol.Fault.TheVariants.{Unexpected, Ambiguous}
use Rattle.lp_syntax.specs.Symbols.{Tree, is_prefix, apply}
use Rattle.lp_syntax.specs.Machine.{Frame, Waits, Under, Inside, Item, Tail, Mode, Wants, Fresh, FreshList, Named, Has, Formed, State, st, Move, Goes, Stops, close, wants, fresh_list, is_named, binds, step, step_in, Run, Reached, Failed, go_on, run, Faulty, outcome, read}
use Rattle.lp_base.specs.declared.place.Spot.{Spot}
use Rattle.lp_syntax.specs.declared.class.Class.TheVariants.{Colon}
use Rattle.lp_syntax.specs.declared.fault.SyntaxFault.{SyntaxFault}
use Rattle.lp_syntax.specs.declared.fault.SyntaxFault.TheVariants as fault
use Rattle.lp_syntax.specs.Opened.{AmbiguousAt}
use Rattle.lp_syntax.specs.Tokens.{Lexeme, Operators, class_at, symbol_at, open_brackets}
use Rattle.lp_syntax.specs.Faults.{refused, innermost}
use Rattle.lp_syntax.specs.TypeMachine.{TypeState, Runs, ts, Wants as NeedsType}
use Rattle.lp_syntax.specs.Terms.{Spells, IsAmbiguous, IsKind}
use Rattle.lp_syntax.specs.TermViews.{HasRead, IsNoNote}
use Rattle.lp_syntax.proofs.TypeFaults.{type_end}
use Rattle.lp_syntax.proofs.Spelling.{spells_further, first_plain, first_note}
use Rattle.lp_syntax.proofs.TermFaults.{none_between}
use Rattle.lp_syntax.proofs.Complete.{run_step}
use Rattle.lp_syntax.proofs.Reading.{run_append, failing}
use Rattle.lp_syntax.proofs.Ambiguity.{ambiguous_if, ambiguous_only, ambiguous_reached, prefixed_other, named_other}

-- the stop is no ambiguity
abbrev IsPlain : Move → Type 0
IsPlain (Goes s) = Unit {0}
IsPlain (Stops Unexpected) = Unit {0}
IsPlain (Stops Ambiguous) = ⊥

plain_close : (fs : List Frame) (t : Tree) (c : Sym) → IsPlain (close fs t c)
plain_close [] t c = tt
plain_close (Waits o l ∷ fs) t c = plain_close fs _ c
plain_close (Under v y fn ∷ fs) t c = plain_close fs _ c
plain_close (Inside fn ∷ fs) t (Word v) = tt
plain_close (Item w fn is ∷ fs) t (Word v) = tt
plain_close (Tail fn is ∷ fs) t (Word v) = tt
plain_close (Inside fn ∷ fs) t (Atom v) = tt
plain_close (Item w fn is ∷ fs) t (Atom v) = tt
plain_close (Tail fn is ∷ fs) t (Atom v) = tt
plain_close (Inside fn ∷ fs) t (Op o) = tt
plain_close (Item w fn is ∷ fs) t (Op o) = tt
plain_close (Tail fn is ∷ fs) t (Op o) = tt
plain_close (Inside fn ∷ fs) t Opens = tt
plain_close (Item w fn is ∷ fs) t Opens = tt
plain_close (Tail fn is ∷ fs) t Opens = tt
plain_close (Inside fn ∷ fs) t Closes = tt
plain_close (Item w fn is ∷ fs) t Closes = tt
plain_close (Tail fn is ∷ fs) t Closes = tt
plain_close (Inside fn ∷ fs) t (OpensList v) = tt
plain_close (Item w fn is ∷ fs) t (OpensList v) = tt
plain_close (Tail fn is ∷ fs) t (OpensList v) = tt
plain_close (Inside fn ∷ fs) t (ClosesList v) = tt
plain_close (Item w fn is ∷ fs) t (ClosesList v) = tt
plain_close (Tail fn is ∷ fs) t (ClosesList v) = tt
plain_close (Inside fn ∷ fs) t Bar = tt
plain_close (Item w fn is ∷ fs) t Bar = tt
plain_close (Tail fn is ∷ fs) t Bar = tt
plain_close (Inside fn ∷ fs) t (Binds y) = tt
plain_close (Item w fn is ∷ fs) t (Binds y) = tt
plain_close (Tail fn is ∷ fs) t (Binds y) = tt
plain_close (Inside fn ∷ fs) t Other = tt
plain_close (Item w fn is ∷ fs) t Other = tt
plain_close (Tail fn is ∷ fs) t Other = tt

-- an operator
abbrev IsOper : Sym → Type 0
IsOper (Op o) = Unit {0}
IsOper _ = ⊥

plain_list : (fs : List Frame) (c : Sym) → (IsOper c → ⊥) → IsPlain (fresh_list fs c)
plain_list [] (Word v) n = tt
plain_list (Waits o l ∷ fs) (Word v) n = tt
plain_list (Under w z fn ∷ fs) (Word v) n = tt
plain_list (Inside fn ∷ fs) (Word v) n = tt
plain_list (Item w fn is ∷ fs) (Word v) n = tt
plain_list (Tail fn is ∷ fs) (Word v) n = tt
plain_list [] (Atom v) n = tt
plain_list (Waits o l ∷ fs) (Atom v) n = tt
plain_list (Under w z fn ∷ fs) (Atom v) n = tt
plain_list (Inside fn ∷ fs) (Atom v) n = tt
plain_list (Item w fn is ∷ fs) (Atom v) n = tt
plain_list (Tail fn is ∷ fs) (Atom v) n = tt
plain_list [] Opens n = tt
plain_list (Waits o l ∷ fs) Opens n = tt
plain_list (Under w z fn ∷ fs) Opens n = tt
plain_list (Inside fn ∷ fs) Opens n = tt
plain_list (Item w fn is ∷ fs) Opens n = tt
plain_list (Tail fn is ∷ fs) Opens n = tt
plain_list [] Closes n = tt
plain_list (Waits o l ∷ fs) Closes n = tt
plain_list (Under w z fn ∷ fs) Closes n = tt
plain_list (Inside fn ∷ fs) Closes n = tt
plain_list (Item w fn is ∷ fs) Closes n = tt
plain_list (Tail fn is ∷ fs) Closes n = tt
plain_list [] (OpensList v) n = tt
plain_list (Waits o l ∷ fs) (OpensList v) n = tt
plain_list (Under w z fn ∷ fs) (OpensList v) n = tt
plain_list (Inside fn ∷ fs) (OpensList v) n = tt
plain_list (Item w fn is ∷ fs) (OpensList v) n = tt
plain_list (Tail fn is ∷ fs) (OpensList v) n = tt
plain_list [] (ClosesList v) n = tt
plain_list (Waits o l ∷ fs) (ClosesList v) n = tt
plain_list (Under w z fn ∷ fs) (ClosesList v) n = tt
plain_list (Inside fn ∷ fs) (ClosesList v) n = tt
plain_list (Item w fn is ∷ fs) (ClosesList v) n = tt
plain_list (Tail fn is ∷ fs) (ClosesList v) n = tt
plain_list [] Bar n = tt
plain_list (Waits o l ∷ fs) Bar n = tt
plain_list (Under w z fn ∷ fs) Bar n = tt
plain_list (Inside fn ∷ fs) Bar n = tt
plain_list (Item w fn is ∷ fs) Bar n = tt
plain_list (Tail fn is ∷ fs) Bar n = tt
plain_list [] (Binds y) n = tt
plain_list (Waits o l ∷ fs) (Binds y) n = tt
plain_list (Under w z fn ∷ fs) (Binds y) n = tt
plain_list (Inside fn ∷ fs) (Binds y) n = tt
plain_list (Item w fn is ∷ fs) (Binds y) n = tt
plain_list (Tail fn is ∷ fs) (Binds y) n = tt
plain_list [] Other n = tt
plain_list (Waits o l ∷ fs) Other n = tt
plain_list (Under w z fn ∷ fs) Other n = tt
plain_list (Inside fn ∷ fs) Other n = tt
plain_list (Item w fn is ∷ fs) Other n = tt
plain_list (Tail fn is ∷ fs) Other n = tt
plain_list fs (Op o) n = absurd (n tt)

plain_wants : (fs : List Frame) (c : Sym) → (IsOper c → ⊥) → IsPlain (wants fs c)
plain_wants fs (Word v) n = tt
plain_wants fs (Atom v) n = tt
plain_wants fs Opens n = tt
plain_wants fs Closes n = tt
plain_wants fs (OpensList v) n = tt
plain_wants fs (ClosesList v) n = tt
plain_wants fs Bar n = tt
plain_wants fs (Binds y) n = tt
plain_wants fs Other n = tt
plain_wants fs (Op o) n = absurd (n tt)

plain_if : (b : Bool) (m : Move) → IsPlain m → IsPlain (if b then m else Stops Unexpected)
plain_if true m h = h
plain_if false m h = tt

plain_name : (fs : List Frame) (o : Oper) → IsPlain (is_named fs o Closes)
plain_name [] o = tt
plain_name (Waits p l ∷ fs) o = tt
plain_name (Under v y fn ∷ fs) o = tt
plain_name (Inside fn ∷ fs) o = tt
plain_name (Item v fn is ∷ fs) o = tt
plain_name (Tail fn is ∷ fs) o = tt

plain_binds : (fs : List Frame) (fn : Option Tree) (w y : Option ℕ) → IsPlain (binds fs fn w y)
plain_binds fs fn None y = tt
plain_binds fs fn (Some v) y = tt

-- what is no operator is never ambiguous
plain_step : (fs : List Frame) (m : Mode) (c : Sym) → (IsOper c → ⊥) → IsPlain (step_in fs m c)
plain_step fs Wants c n = plain_wants fs c n
plain_step fs FreshList c n = plain_list fs c n
plain_step fs Fresh (Word v) n = tt
plain_step fs Fresh (Atom v) n = tt
plain_step fs Fresh Opens n = tt
plain_step fs Fresh Closes n = tt
plain_step fs Fresh (OpensList v) n = tt
plain_step fs Fresh (ClosesList v) n = tt
plain_step fs Fresh Bar n = tt
plain_step fs Fresh (Binds y) n = tt
plain_step fs Fresh Other n = tt
plain_step fs Fresh (Op o) n = absurd (n tt)
plain_step fs (Named o) (Word v) n = plain_if (is_prefix o.fixity) (wants (Waits o None ∷ fs) (Word v)) (plain_wants (Waits o None ∷ fs) (Word v) n)
plain_step fs (Named o) (Atom v) n = plain_if (is_prefix o.fixity) (wants (Waits o None ∷ fs) (Atom v)) (plain_wants (Waits o None ∷ fs) (Atom v) n)
plain_step fs (Named o) Opens n = plain_if (is_prefix o.fixity) (wants (Waits o None ∷ fs) Opens) (plain_wants (Waits o None ∷ fs) Opens n)
plain_step fs (Named o) Closes n = plain_name fs o
plain_step fs (Named o) (OpensList v) n = plain_if (is_prefix o.fixity) (wants (Waits o None ∷ fs) (OpensList v)) (plain_wants (Waits o None ∷ fs) (OpensList v) n)
plain_step fs (Named o) (ClosesList v) n = plain_if (is_prefix o.fixity) (wants (Waits o None ∷ fs) (ClosesList v)) (plain_wants (Waits o None ∷ fs) (ClosesList v) n)
plain_step fs (Named o) Bar n = plain_if (is_prefix o.fixity) (wants (Waits o None ∷ fs) Bar) (plain_wants (Waits o None ∷ fs) Bar n)
plain_step fs (Named o) (Binds y) n = plain_if (is_prefix o.fixity) (wants (Waits o None ∷ fs) (Binds y)) (plain_wants (Waits o None ∷ fs) (Binds y) n)
plain_step fs (Named o) Other n = plain_if (is_prefix o.fixity) (wants (Waits o None ∷ fs) Other) (plain_wants (Waits o None ∷ fs) Other n)
plain_step fs (Named o) (Op q) n = absurd (n tt)
plain_step fs (Has fn x w) (Word v) n = tt
plain_step fs (Has fn x w) (Atom v) n = tt
plain_step fs (Has fn x w) Opens n = tt
plain_step fs (Has fn x w) Closes n = plain_close fs (apply fn x) Closes
plain_step fs (Has fn x w) (OpensList v) n = tt
plain_step fs (Has fn x w) (ClosesList v) n = plain_close fs (apply fn x) (ClosesList v)
plain_step fs (Has fn x w) Bar n = plain_close fs (apply fn x) Bar
plain_step fs (Has fn x w) (Binds y) n = plain_binds fs fn w y
plain_step fs (Has fn x w) Other n = tt
plain_step fs (Has fn x w) (Op q) n = absurd (n tt)
plain_step fs (Formed f k t) (Word v) n = tt
plain_step fs (Formed f k t) (Atom v) n = tt
plain_step fs (Formed f k t) Opens n = tt
plain_step fs (Formed f k t) Closes n = plain_close fs t Closes
plain_step fs (Formed f k t) (OpensList v) n = tt
plain_step fs (Formed f k t) (ClosesList v) n = plain_close fs t (ClosesList v)
plain_step fs (Formed f k t) Bar n = plain_close fs t Bar
plain_step fs (Formed f k t) (Binds y) n = tt
plain_step fs (Formed f k t) Other n = tt
plain_step fs (Formed f k t) (Op q) n = absurd (n tt)

plain_no : (m : Move) → IsPlain m → m ≡ Stops Ambiguous → ⊥
plain_no m h e = subst IsPlain e h

-- an ambiguity is at an operator
pub ambiguous_operator : (s : State) (c : Sym) → step s c ≡ Stops Ambiguous → (o : Oper) × (c ≡ Op o)
ambiguous_operator s (Op o) e = (o, refl)
ambiguous_operator s (Word v) e = absurd (plain_no (step s (Word v)) (plain_step s.frames s.mode (Word v) (λ z. z)) e)
ambiguous_operator s (Atom v) e = absurd (plain_no (step s (Atom v)) (plain_step s.frames s.mode (Atom v) (λ z. z)) e)
ambiguous_operator s Opens e = absurd (plain_no (step s Opens) (plain_step s.frames s.mode Opens (λ z. z)) e)
ambiguous_operator s Closes e = absurd (plain_no (step s Closes) (plain_step s.frames s.mode Closes (λ z. z)) e)
ambiguous_operator s (OpensList v) e = absurd (plain_no (step s (OpensList v)) (plain_step s.frames s.mode (OpensList v) (λ z. z)) e)
ambiguous_operator s (ClosesList v) e = absurd (plain_no (step s (ClosesList v)) (plain_step s.frames s.mode (ClosesList v) (λ z. z)) e)
ambiguous_operator s Bar e = absurd (plain_no (step s Bar) (plain_step s.frames s.mode Bar (λ z. z)) e)
ambiguous_operator s (Binds y) e = absurd (plain_no (step s (Binds y)) (plain_step s.frames s.mode (Binds y) (λ z. z)) e)
ambiguous_operator s Other e = absurd (plain_no (step s Other) (plain_step s.frames s.mode Other (λ z. z)) e)

no_prefix_if : (b : Bool) (m : Move) → (if b then Stops Unexpected else m) ≡ Stops Ambiguous → b ≡ false
no_prefix_if true m e = cc
no_prefix_if false m e = refl

-- and it is no prefix operator
pub ambiguous_infix : (fs : List Frame) (m : Mode) (o : Oper) → step_in fs m (Op o) ≡ Stops Ambiguous → is_prefix o.fixity ≡ false
ambiguous_infix fs Wants o e = absurd (prefixed_other fs o e)
ambiguous_infix fs Fresh o e = cc
ambiguous_infix [] FreshList o e = absurd (prefixed_other [] o e)
ambiguous_infix (Waits p l ∷ fs) FreshList o e = absurd (prefixed_other (Waits p l ∷ fs) o e)
ambiguous_infix (Under v y fn ∷ fs) FreshList o e = absurd (prefixed_other (Under v y fn ∷ fs) o e)
ambiguous_infix (Inside fn ∷ fs) FreshList o e = absurd (prefixed_other (Inside fn ∷ fs) o e)
ambiguous_infix (Item v fn is ∷ fs) FreshList o e = absurd (prefixed_other (Item v fn is ∷ fs) o e)
ambiguous_infix (Tail fn is ∷ fs) FreshList o e = absurd (prefixed_other (Tail fn is ∷ fs) o e)
ambiguous_infix fs (Named q) o e = absurd (named_other fs q o e)
ambiguous_infix fs (Has fn x w) o e = no_prefix_if (is_prefix o.fixity) _ e
ambiguous_infix fs (Formed f k t) o e = no_prefix_if (is_prefix o.fixity) _ e

-- the reader at an operator that stops it
pub read_stops : (cs : List Sym) (s : State) (c : Sym) (x : Fault) → run (st [] Wants) cs ≡ Reached s → step s c ≡ Stops x → read (cs ++ c ∷ []) ≡ Faulty x (c ∷ [])
unfolding read
read_stops cs s c x r e = ap outcome (run_append (st [] Wants) s cs (c ∷ []) r) ∙ ap (λ m. outcome (go_on (λ u. run u []) c [] m)) e

failed_append : (s : State) (ds es : List Sym) (f : Fault) (left : List Sym) → run s ds ≡ Failed f left → run s (ds ++ es) ≡ Failed f (left ++ es)
failed_append s [] es f left e = cc
failed_append s (d ∷ ds) es f left e = go (λ q h. failed_append q ds es f left h) (step s d) refl
  where
    go : ((q : State) → run q ds ≡ Failed f left → run q (ds ++ es) ≡ Failed f (left ++ es)) → (m : Move) → step s d ≡ m → run s (d ∷ ds ++ es) ≡ Failed f (left ++ es)
    go on (Goes q) h = run_step s d (ds ++ es) q h ∙ on q (sym (run_step s d ds q h) ∙ e)
    go on (Stops g) h =
        let i : Failed g (d ∷ ds) ≡ Failed f left = sym (ap (go_on (λ u. run u ds) d ds) h) ∙ e in
        let j : d ∷ ds ≡ left = cc in
        let k : g ≡ f = cc in
        ap (go_on (λ u. run u (ds ++ es)) d (ds ++ es)) h ∙ (λ z. Failed (k z) (j z ++ es))

-- a run that fails before its last symbol goes nowhere at it
fails_before : (o : Oper) (f : Fault) (c : Sym) (cs : List Sym) (l : State) → run l (Op o ∷ []) ≡ Failed f ((c ∷ cs) ++ Op o ∷ []) → ⊥
fails_before o f c cs l e = go (step l (Op o)) refl
  where
    same_rest : (g h : Fault) (as' bs : List Sym) → Failed g as' ≡ Failed h bs → as' ≡ bs
    same_rest g h as' bs k = cc

    go : (m : Move) → step l (Op o) ≡ m → ⊥
    go (Goes q) h = let k : Reached q ≡ Failed f ((c ∷ cs) ++ Op o ∷ []) = sym (run_step l (Op o) [] q h) ∙ e in cc
    go (Stops g) h =
        let k = same_rest g f (Op o ∷ []) ((c ∷ cs) ++ Op o ∷ []) (sym (ap (go_on (λ u. run u []) (Op o) []) h) ∙ e) in
        let n = ap length k in
        let m = length-append cs (Op o ∷ []) in
        omega (arith, n, m)

-- the reader comes to an ambiguous operator
pub reached_before : (cs : List Sym) (o : Oper) → AmbiguousAt (cs ++ Op o ∷ []) [] o → (s : State) × (run (st [] Wants) cs ≡ Reached s)
reached_before cs o a = let r = ambiguous_reached (cs ++ Op o ∷ []) [] o a in go (run (st [] Wants) cs) refl r.0 r.1
  where
    go : (q : Run) → run (st [] Wants) cs ≡ q → (l : State) → run (st [] Wants) (cs ++ Op o ∷ []) ≡ run l (Op o ∷ []) → (s : State) × (run (st [] Wants) cs ≡ Reached s)
    go (Reached s) e l h = (s, e)
    go (Failed f es) e l h =
        let r = failing (st [] Wants) cs f es e in
        absurd (fails_before o f r.token r.after l (sym h ∙ failed_append (st [] Wants) cs (Op o ∷ []) f es e ∙ ap (λ z. Failed f (z ++ Op o ∷ [])) r.there))

-- which fault a symbol is that stops the reader
same_symbols : (ops : Operators) (ls : List Lexeme) (from n : ℕ) (s : State) (h : HasRead ops ls from n s) (cs : List Sym) → Spells ops ls from n cs → cs ≡ h.symbols
same_symbols ops ls from n s h cs d =
    let x = spells_further ops ls from n n h.symbols cs h.spells d (omega arith) in
    x.are ∙ ap (λ z. h.symbols ++ z) (none_between ops ls n n refl x.after x.spells) ∙ append-nil h.symbols

not_ambiguous : (ops : Operators) (ls : List Lexeme) (from n : ℕ) (s : State) → HasRead ops ls from n s → step s (symbol_at ops ls n) ≡ Stops Unexpected → IsAmbiguous ops ls from n → ⊥
not_ambiguous ops ls from n s h e a =
    let z = same_symbols ops ls from n s h a.symbols a.spells in
    let r = read_stops a.symbols s (Op a.operator) Unexpected (ap (run (st [] Wants)) z ∙ h.runs) (ap (step s) (sym a.is) ∙ e) in
    let x : Unexpected ≡ Ambiguous = ambiguous_if (a.symbols ++ Op a.operator ∷ []) [] a.operator Unexpected a.there a.behind r in
    cc

is_ambiguous : (ops : Operators) (ls : List Lexeme) (from n : ℕ) (s : State) → HasRead ops ls from n s → step s (symbol_at ops ls n) ≡ Stops Ambiguous → IsAmbiguous ops ls from n
is_ambiguous ops ls from n s h e =
    let o = ambiguous_operator s (symbol_at ops ls n) e in
    let k = ap (step s) (sym o.1) ∙ e in
    record {
      symbols = h.symbols;
      spells = h.spells;
      operator = o.0;
      is = o.1;
      behind = ambiguous_infix s.frames s.mode o.0 k;
      there = ambiguous_only (h.symbols ++ Op o.0 ∷ []) [] o.0 (read_stops h.symbols s (Op o.0) Ambiguous h.runs k);
    }

pub kind_unexpected : (spot : ℕ → Spot) (ops : Operators) (ls : List Lexeme) (from n : ℕ) (s : State) (f : SyntaxFault) → HasRead ops ls from n s → step s (symbol_at ops ls n) ≡ Stops Unexpected → f ≡ refused spot n (innermost (open_brackets ls from n)) (class_at ls n) → IsKind spot ops ls from n f
kind_unexpected spot ops ls from n s f h e g = inr (not_ambiguous ops ls from n s h e, g)

pub kind_ambiguous : (spot : ℕ → Spot) (ops : Operators) (ls : List Lexeme) (from n : ℕ) (s : State) (f : SyntaxFault) → HasRead ops ls from n s → step s (symbol_at ops ls n) ≡ Stops Ambiguous → f ≡ fault.Ambiguous (spot n) → IsKind spot ops ls from n f
kind_ambiguous spot ops ls from n s f h e g = inl (is_ambiguous ops ls from n s h e, g)

-- what is nothing to a term is no operator
pub kind_other : (spot : ℕ → Spot) (ops : Operators) (ls : List Lexeme) (from n : ℕ) (f : SyntaxFault) → symbol_at ops ls n ≡ Other → f ≡ refused spot n (innermost (open_brackets ls from n)) (class_at ls n) → IsKind spot ops ls from n f
kind_other spot ops ls from n f e g = inr ((λ a. let k : Other ≡ Op a.operator = sym e ∙ a.is in cc), g)

-- nor is a token in an annotation
pub kind_note : (spot : ℕ → Spot) (ops : Operators) (ls : List Lexeme) (from n p : ℕ) (s : State) (q : TypeState) (f : SyntaxFault) → n < p → HasRead
    ops ls from n s → class_at ls n ≡ Colon → Runs ls (ts [] NeedsType) (suc n) q p → IsNoNote ls p q → f ≡ refused spot p
    (innermost (open_brackets ls from p)) (class_at ls p) → IsKind spot ops ls from p f
kind_note spot ops ls from n p s q f u h c r i g = inr (no, g)
  where
    no : IsAmbiguous ops ls from p → ⊥
    no a =
        let x = spells_further ops ls from n p h.symbols a.symbols h.spells a.spells (omega (arith, u)) in
        let y = first_note ops ls n p x.after x.spells u c in
        let z = type_end ls (suc n) p y.end q y.tree r i.0 y.type_is y.mark in
        i.1 z.1 (ap (class_at ls) z.0 ∙ y.mark)

-- nor is one behind a full stop
pub kind_behind : (spot : ℕ → Spot) (ops : Operators) (ls : List Lexeme) (from n : ℕ) (s : State) (f : SyntaxFault) → HasRead ops ls from n s →
    class_at ls n ≢ Colon → step s (symbol_at ops ls n) ≡ Stops Unexpected → f ≡ refused spot (suc n) (innermost (open_brackets ls from (suc n)))
    (class_at ls (suc n)) → IsKind spot ops ls from (suc n) f
kind_behind spot ops ls from n s f h c e g = inr (no, g)
  where
    no : IsAmbiguous ops ls from (suc n) → ⊥
    no a =
        let x = spells_further ops ls from n (suc n) h.symbols a.symbols h.spells a.spells (omega arith) in
        let y = first_plain ops ls n (suc n) x.after x.spells (omega arith) c in
        let r = reached_before a.symbols a.operator a.there in
        let k = ap (run (st [] Wants)) (x.are ∙ ap (λ z. h.symbols ++ z) y.are) ∙ run_append (st [] Wants) s h.symbols (symbol_at ops ls n ∷ y.after) h.runs ∙ ap (go_on (λ u. run u y.after) (symbol_at ops ls n) y.after) e in
        let z : Reached r.0 ≡ Failed Unexpected (symbol_at ops ls n ∷ y.after) = sym r.1 ∙ k in
        cc
