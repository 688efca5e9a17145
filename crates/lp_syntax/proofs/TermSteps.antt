-- The code of the reader of terms against the grammar: what it has read, and the fault where it stops.
use Rattle.std.proofs.Common.{Vec, Global}
use Rattle.std.proofs.Common.{◌≡◌, ◌≢◌, ℕ, suc, ◌+◌, ◌<◌, ◌≤◌, Bool, true, false, ◌⊎◌, inl, inr, List, [], ◌∷◌, ◌++◌, length, append-nil, refl, sym, ap, ◌∙◌, subst, arith}
use Rattle.std.specs.Prelude.{Option, Some, None, if◌then◌else◌, Result, Ok, Err, IfErr, IsErrAnd}
use Rattle.std.proofs.lemmas.Option.{slice_get_past, slice_get-get_or}
use Rattle.std.proofs.Common.{get_or}
use Rattle.std.proofs.Math.Numerals.{suc-eq-add-one}
use Rattle.lp_base.specs.declared.place.Spot.{Spot}
use Rattle.lp_syntax.specs.declared.class.Class.{Class}
use Rattle.lp_syntax.specs.declared.class.Class.TheVariants.{Colon, Backslash, Dot, End}
use Rattle.lp_syntax.proofs.FaultKinds.{kind_other, kind_note}
use Rattle.lp_syntax.specs.declared.fault.SyntaxFault.{SyntaxFault}
use Rattle.lp_syntax.specs.declared.held.Held.{Held}
use Rattle.lp_syntax.specs.declared.held.Doing.{Doing}
use Rattle.lp_syntax.specs.declared.held.Doing.TheVariants as doing
use Rattle.lp_syntax.specs.declared.held.Step.{Step}
use Rattle.lp_syntax.specs.declared.held.Step.TheVariants as taken
use Rattle.lp_syntax.specs.declared.node.Node.{Node}
use Rattle.lp_syntax.specs.declared.symbol.Oper.{Oper}
use Rattle.lp_syntax.specs.declared.symbol.Sym.{Sym}
use Rattle.lp_syntax.specs.declared.symbol.Sym.TheVariants.{Binds, Other}
use Rattle.lp_syntax.specs.declared.symbol.Fault.{Fault}
use Rattle.lp_syntax.specs.declared.symbol.Fault.TheVariants.{Unexpected}
use Rattle.lp_syntax.specs.declared.term.Reader.{Reader}
use Rattle.lp_syntax.specs.declared.term.TermText.{TermText}
use Rattle.lp_syntax.specs.declared.types.TypeEnd.TheVariants.{Stopped}
use Rattle.lp_syntax.specs.Symbols.{Tree, is_prefix}
use Rattle.lp_syntax.specs.Machine.{Frame, Waits, Under, Inside, Item, Tail, Mode, Wants, Fresh, FreshList, Named, Has, Formed, State, st, Goes, Stops, wants, fresh_list, step, step_in, ended}
use Rattle.lp_syntax.specs.Nodes.{trees, at, maybe, IsMaybeBelow, IsOrdered}
use Rattle.lp_syntax.specs.Raw.{Shows, AreRaw}
use Rattle.lp_syntax.proofs.RawTrees.{shows, term_notes}
use Rattle.lp_syntax.specs.Views.{frames_of, move_of, EachBelow, IsDoingBelow, IsStepBelow, Steps, Finishes}
use Rattle.lp_syntax.specs.Tokens.{Lexeme, Operators, class_at, symbol_of, symbol_at, bytes_at, open_behind, open_brackets, Agree}
use Rattle.lp_syntax.specs.TypeMachine.{TypeState, Ends, Runs, ts, type_step, IsHalt, Wants as NeedsType, Stops as TypeStops}
use Rattle.lp_syntax.specs.TypeViews.{ComesTo, IsTypeEnd}
use Rattle.lp_syntax.specs.Faults.{refused, innermost}
use Rattle.lp_syntax.specs.Terms.{TermAt, NoneOver, IsKind, TermFault, MemoryOr}
use Rattle.lp_syntax.specs.Depth.{IsDepth}
use Rattle.lp_syntax.specs.TermViews.{HasRead, IsNoNote, NoteFault, state_of, IsReading, IsNew, MayBind, IsOver, IsTermText}
use Rattle.lp_syntax.proofs.Tokens.{class_same, symbol_same, agree_less, past_end}
use Rattle.lp_syntax.proofs.TypeFaults.{runs_same, closing}
use Rattle.lp_syntax.proofs.TermFaults.{nothing_read, read_token, read_note, same_read, can_go_on, note_goes_on, token_stops, colon_stops, note_stops, read_ends, read_is_open}
use Rattle.lp_syntax.proofs.OpenBrackets.{brackets_none, brackets_more, note_brackets, note_closed, type_closed, innermost_outer, innermost_inner}

abbrev pub reader : ℕ → Vec Node Global → Vec Held Global → Vec ℕ Global → Reader
reader f ns hs os = record { from = f; nodes = ns; frames = hs; opens = os }

-- a step that goes on, and one that stops
pub went : (r : Reader) (d next : Doing) (ns : Vec Node Global) (hs : Vec Held Global) (os : Vec ℕ Global) (c : Sym) (m : Step) → m ≡ taken.Goes next → Steps r.nodes.items ns.items hs.items m (step (state_of r d) c) → step (state_of r d) c ≡ Goes (state_of (reader r.from ns hs os) next)
went r d next ns hs os c m e s = sym s.is ∙ ap (move_of (trees ns.items) hs.items) e

pub stopped : (r : Reader) (d : Doing) (ns : List Node) (hs : List Held) (c : Sym) (m : Step) (x : Fault) → m ≡ taken.Stops x → Steps r.nodes.items ns hs m (step (state_of r d) c) → step (state_of r d) c ≡ Stops x
stopped r d ns hs c m x e s = sym s.is ∙ ap (move_of (trees ns) hs) e

below_went : (n : ℕ) (hs : List Held) (next : Doing) (m : Step) → m ≡ taken.Goes next → IsStepBelow n hs m → EachBelow n hs × IsDoingBelow n next
below_went n hs next m e b = subst (IsStepBelow n hs) e b

pub token_reads : (ops : Operators) (ls : List Lexeme) (r : Reader) (d next : Doing) (i : ℕ) (ns : Vec Node Global) (hs : Vec Held Global)
    (os : Vec ℕ Global) (c : Sym) (m : Step) → IsReading ops ls r d i → i < length ls → class_at ls i ≢ Colon → c ≡ symbol_at ops ls i → m ≡
    taken.Goes next → Steps r.nodes.items ns.items hs.items m (step (state_of r d) c) → os.items ≡ open_behind i (class_at ls i) r.opens.items →
    IsReading ops ls (reader r.from ns hs os) next (i + 1)
token_reads ops ls r d next i ns hs os c m v l n e g s b =
    let w = below_went (length ns.items) hs.items next m g s.below in
    record {
      ordered = s.grows.ordered v.ordered;
      frames = w.0;
      due = w.1;
      low = let h = v.low in omega (arith, h);
      high = omega (arith, l);
      read = subst (λ k. HasRead ops ls r.from k (state_of (reader r.from ns hs os) next)) (suc-eq-add-one i) (read_token ops ls r.from i (state_of r d) _ v.read n (sym (ap (step (state_of r d)) e) ∙ went r d next ns hs os c m g s));
      inner = b ∙ brackets_more ls r.from i r.opens.items v.low v.inner;
    }

pub token_faults : (spot : ℕ → Spot) (ops : Operators) (ls : List Lexeme) (r : Reader) (d : Doing) (i : ℕ) (x : Fault) (f : SyntaxFault) → IsReading
    ops ls r d i → i < length ls → class_at ls i ≢ Colon → class_at ls i ≢ Dot → step (state_of r d) (symbol_at ops ls i) ≡ Stops x → IsKind spot ops
    ls r.from i f → TermFault spot ops ls r.from f
token_faults spot ops ls r d i x f v l n m e k = record {
  number = i;
  stops = record {
    low = v.low;
    high = v.high;
    viable = can_go_on ops ls r.from i (state_of r d) v.high v.read;
    first = λ text a.
        token_stops ops text r.from i (state_of r d) x (same_read ops i ls text (agree_less i (suc i) ls text (omega arith) a) r.from (state_of r d)
        v.read) (λ z. n (sym (class_same (suc i) i ls text a (omega arith)) ∙ z))
        (ap (step (state_of r d)) (symbol_same ops (suc i) i ls text a (omega arith)) ∙ e);
    none = λ h. go h;
  };
  kind = k;
}
  where
    go : (i ≡ length ls) ⊎ (class_at ls i ≡ Dot) → (t : Tree) → TermAt ops ls r.from i t → ⊥
    go (inl h) t z = omega (arith, h, l)
    go (inr h) t z = m h

class_symbol : (ops : Operators) (ls : List Lexeme) (i : ℕ) (c : Class) → class_at ls i ≡ c → {s : Sym} → symbol_of i c (ops (bytes_at ls i)) ≡ s → symbol_at ops ls i ≡ s
unfolding symbol_at
class_symbol ops ls i c e k = ap (λ c'. symbol_of i c' (ops (bytes_at ls i))) e ∙ k

colon_no_dot : (ls : List Lexeme) (i : ℕ) → class_at ls i ≡ Colon → class_at ls i ≡ Dot → ⊥
colon_no_dot ls i e f = let g : Colon ≡ Dot = sym e ∙ f in cc

pub colon_faults : (spot : ℕ → Spot) (ops : Operators) (ls : List Lexeme) (r : Reader) (d : Doing) (i : ℕ) (x : Fault) (f : SyntaxFault) → IsReading
    ops ls r d i → i < length ls → class_at ls i ≡ Colon → step (state_of r d) (Binds (Some i)) ≡ Stops x → f ≡ refused spot i
    (innermost (open_brackets ls r.from i)) (class_at ls i) → TermFault spot ops ls r.from f
colon_faults spot ops ls r d i x f v l n e k = record {
  number = i;
  stops = record {
    low = v.low;
    high = v.high;
    viable = can_go_on ops ls r.from i (state_of r d) v.high v.read;
    first = λ text a. colon_stops ops text r.from i (state_of r d) x (same_read ops i ls text (agree_less i (suc i) ls text (omega arith) a) r.from (state_of r d) v.read) (class_same (suc i) i ls text a (omega arith) ∙ n) e;
    none = λ h. go h;
  };
  kind = kind_other spot ops ls r.from i f (class_symbol ops ls i Colon n refl) k;
}
  where
    go : (i ≡ length ls) ⊎ (class_at ls i ≡ Dot) → (t : Tree) → TermAt ops ls r.from i t → ⊥
    go (inl h) t z = omega (arith, h, l)
    go (inr h) t z = colon_no_dot ls i n h

-- a binder goes on behind a word that may be bound, and nowhere else
refused_wants : (fs : List Frame) (y : Option ℕ) → wants fs (Binds y) ≡ Stops Unexpected
refused_wants fs y = refl

refused_list : (fs : List Frame) (y : Option ℕ) → fresh_list fs (Binds y) ≡ Stops Unexpected
refused_list [] y = refl
refused_list (Waits o l ∷ fs) y = refl
refused_list (Under v w fn ∷ fs) y = refl
refused_list (Inside fn ∷ fs) y = refl
refused_list (Item v fn is ∷ fs) y = refl
refused_list (Tail fn is ∷ fs) y = refl

refused_named : (fs : List Frame) (o : Oper) (y : Option ℕ) → step_in fs (Named o) (Binds y) ≡ Stops Unexpected
refused_named fs o y = go (is_prefix o.fixity)
  where
    go : (b : Bool) → (if b then wants (Waits o None ∷ fs) (Binds y) else Stops Unexpected) ≡ Stops Unexpected
    go true = refl
    go false = refl

pub no_binder : (r : Reader) (d : Doing) (y : Option ℕ) → (MayBind d → ⊥) → step (state_of r d) (Binds y) ≡ Stops Unexpected
no_binder r doing.Wants y n = refl
no_binder r doing.Fresh y n = refl
no_binder r doing.FreshList y n = refused_list (frames_of (trees r.nodes.items) r.frames.items) y
no_binder r (doing.Named o) y n = refused_named (frames_of (trees r.nodes.items) r.frames.items) o y
no_binder r (doing.Has fn x None) y n = refl
no_binder r (doing.Has fn x (Some w)) y n = absurd (n tt)
no_binder r (doing.Formed f k x) y n = refl

pub a_binder : (r : Reader) (d : Doing) (y : Option ℕ) → MayBind d → (s : State) × (step (state_of r d) (Binds y) ≡ Goes s)
a_binder r doing.Wants y n = absurd n
a_binder r doing.Fresh y n = absurd n
a_binder r doing.FreshList y n = absurd n
a_binder r (doing.Named o) y n = absurd n
a_binder r (doing.Has fn x None) y n = absurd n
a_binder r (doing.Has fn x (Some w)) y n = (_, refl)
a_binder r (doing.Formed f k x) y n = absurd n

-- behind an annotation
pub note_reads : (ops : Operators) (ls : List Lexeme) (r : Reader) (d next : Doing) (i k : ℕ) (ns : Vec Node Global) (hs : Vec Held Global) (m : Step)
    → IsReading ops ls r d i → i < k → k < length ls → class_at ls i ≡ Colon → ComesTo ls (i + 1) k Ends → class_at ls k ≡ Backslash → m ≡ taken.Goes
    next → Steps r.nodes.items ns.items hs.items m (step (state_of r d) (Binds (Some i))) → IsReading ops ls (reader r.from ns hs r.opens) next
    (k + 1)
note_reads ops ls r d next i k ns hs m v u l c y b g s =
    let w = below_went (length ns.items) hs.items next m g s.below in
    let z = subst (λ j. ComesTo ls j k Ends) (sym (suc-eq-add-one i)) y in
    let o = note_closed ls r.from i k r.opens.items y.state v.low c v.inner y.runs y.moves in
    let h = v.low in
    record {
      ordered = s.grows.ordered v.ordered;
      frames = w.0;
      due = w.1;
      low = omega (arith, h, u);
      high = omega (arith, l);
      read = subst (λ j. HasRead ops ls r.from j (state_of (reader r.from ns hs r.opens) next)) (suc-eq-add-one k) (read_note ops ls r.from i k (state_of r d) _ v.read c z b (went r d next ns hs r.opens (Binds (Some i)) m g s));
      inner = ap (λ q. open_behind k q r.opens.items) (sym b) ∙ brackets_more ls r.from k r.opens.items (omega (arith, h, u)) (sym o);
    }

note_over : (ops : Operators) (ls : List Lexeme) (r : Reader) (d : Doing) (i p : ℕ) (q : TypeState) → IsReading ops ls r d i → i < p → class_at ls i ≡ Colon → Runs ls (ts [] NeedsType) (suc i) q p → IsNoNote ls p q → (text : List Lexeme) → Agree (suc p) ls text → NoneOver ops text r.from p
note_over ops ls r d i p q v u c e k text a = λ m t l z.
    let b = class_same (suc p) p ls text a (omega arith) in
    note_stops ops text r.from i p (state_of r d) q
    (same_read ops i ls text (agree_less i (suc p) ls text (omega (arith, u)) a) r.from (state_of r d) v.read)
    (class_same (suc p) i ls text a (omega (arith, u)) ∙ c)
    (runs_same (suc p) ls text a (ts [] NeedsType) q (suc i) p (omega arith) e)
    (subst (λ y. IsHalt (type_step q y)) (sym b) k.0, (λ x y. k.1 (ap (type_step q) (sym b) ∙ x) (sym b ∙ y)))
    m t (omega (arith, u, l)) z

pub note_faults : (spot : ℕ → Spot) (ops : Operators) (ls : List Lexeme) (r : Reader) (d : Doing) (i : ℕ) (f : SyntaxFault) → IsReading ops ls r d i → class_at ls i ≡ Colon → MayBind d → NoteFault spot ls r.opens.items i f → TermFault spot ops ls r.from f
note_faults spot ops ls r d i f v c n h =
    let s = a_binder r d (Some i) n in
    let e = subst (λ j. Runs ls (ts [] NeedsType) j h.state h.number) (sym (suc-eq-add-one i)) h.runs in
    let low = v.low in
    let u = h.low in
    record {
      number = h.number;
      stops = record {
        low = omega (arith, low, u);
        high = h.high;
        viable = note_goes_on ops ls r.from i h.number (state_of r d) s.0 h.state h.low h.high v.read c s.1 e;
        first = note_over ops ls r d i h.number h.state v h.low c e h.none;
        none = λ z t w. note_stops ops ls r.from i h.number (state_of r d) h.state v.read c e h.none h.number t h.low w;
      };
      kind = kind_note spot ops ls r.from i h.number (state_of r d) h.state f h.low v.read c e h.none (h.kind ∙ ap (λ b. refused spot h.number (innermost b) (class_at ls h.number)) (sym (note_brackets ls r.from i h.number r.opens.items h.state v.low c v.inner h.runs)));
    }

-- a type that stops, and one that ends elsewhere than at a backslash
pub type_stopped : (spot : ℕ → Spot) (ls : List Lexeme) (bs : List ℕ) (i p : ℕ) (b : Option ℕ) (f : SyntaxFault) → i + 1 ≤ p → p ≤ length ls → IsTypeEnd ls (i + 1) (Stopped p b) → innermost (bs ++ open_brackets ls (i + 1) p) ≡ b → f ≡ refused spot p b (class_at ls p) → NoteFault spot ls bs i f
type_stopped spot ls bs i p b f u l e k g = record {
  number = p;
  state = e.0.state;
  low = omega (arith, u);
  high = l;
  runs = e.0.runs;
  none = (subst IsHalt (sym e.0.moves) tt, (λ x. let y : TypeStops ≡ Ends = sym e.0.moves ∙ x in absurd (cc)));
  kind = g ∙ ap (λ o. refused spot p o (class_at ls p)) (sym k);
}

pub type_stopped_outer : (spot : ℕ → Spot) (ls : List Lexeme) (bs : List ℕ) (i p : ℕ) (f : SyntaxFault) → i + 1 ≤ p → p ≤ length ls → IsTypeEnd ls (i + 1) (Stopped p None) → f ≡ refused spot p (innermost bs) (class_at ls p) → NoteFault spot ls bs i f
type_stopped_outer spot ls bs i p f u l e g = record {
  number = p;
  state = e.0.state;
  low = omega (arith, u);
  high = l;
  runs = e.0.runs;
  none = (subst IsHalt (sym e.0.moves) tt, (λ x. let y : TypeStops ≡ Ends = sym e.0.moves ∙ x in absurd (cc)));
  kind = g ∙ ap (λ o. refused spot p o (class_at ls p)) (sym (innermost_outer bs (open_brackets ls (i + 1) p) (sym e.1)));
}

pub type_stopped_inner : (spot : ℕ → Spot) (ls : List Lexeme) (bs : List ℕ) (i p b : ℕ) (f : SyntaxFault) → i + 1 ≤ p → p ≤ length ls → IsTypeEnd ls (i + 1) (Stopped p (Some b)) → f ≡ refused spot p (Some b) (class_at ls p) → NoteFault spot ls bs i f
type_stopped_inner spot ls bs i p b f u l e g = type_stopped spot ls bs i p (Some b) f u l e (innermost_inner bs (open_brackets ls (i + 1) p) b (sym e.1)) g

pub type_ended : (spot : ℕ → Spot) (ls : List Lexeme) (bs : List ℕ) (i p : ℕ) (f : SyntaxFault) → i + 1 ≤ p → p ≤ length ls → ComesTo ls (i + 1) p Ends → class_at ls p ≢ Backslash → f ≡ refused spot p (innermost bs) (class_at ls p) → NoteFault spot ls bs i f
type_ended spot ls bs i p f u l e n g = record {
  number = p;
  state = e.state;
  low = omega (arith, u);
  high = l;
  runs = e.runs;
  none = (subst IsHalt (sym e.moves) tt, (λ x. n));
  kind = g ∙ ap (λ o. refused spot p (innermost o) (class_at ls p)) (sym (ap (λ os. bs ++ os) (type_closed ls (i + 1) p e.state e.runs e.moves) ∙ append-nil bs));
}

-- behind the last token there is no backslash
pub no_backslash_past : (ls : List Lexeme) (p : ℕ) → length ls ≤ p → class_at ls p ≢ Backslash
no_backslash_past ls p l = λ e. let g = sym (past_end ls p l) ∙ e in cc

-- no state takes what is nothing to a term
other_list : (fs : List Frame) → fresh_list fs Other ≡ Stops Unexpected
other_list [] = refl
other_list (Waits o l ∷ fs) = refl
other_list (Under v w fn ∷ fs) = refl
other_list (Inside fn ∷ fs) = refl
other_list (Item v fn is ∷ fs) = refl
other_list (Tail fn is ∷ fs) = refl

other_named : (fs : List Frame) (o : Oper) → step_in fs (Named o) Other ≡ Stops Unexpected
other_named fs o = go (is_prefix o.fixity)
  where
    go : (b : Bool) → (if b then wants (Waits o None ∷ fs) Other else Stops Unexpected) ≡ Stops Unexpected
    go true = refl
    go false = refl

pub other_stops : (fs : List Frame) (m : Mode) → step (st fs m) Other ≡ Stops Unexpected
other_stops fs Wants = refl
other_stops fs Fresh = refl
other_stops fs FreshList = other_list fs
other_stops fs (Named o) = other_named fs o
other_stops fs (Has fn x w) = refl
other_stops fs (Formed f k t) = refl

pub dot_symbol : (ops : Operators) (ls : List Lexeme) (i : ℕ) → class_at ls i ≡ Dot → symbol_at ops ls i ≡ Other
unfolding symbol_at
dot_symbol ops ls i e = ap (λ c. symbol_of i c (ops (bytes_at ls i))) e

pub dot_no_colon : (ls : List Lexeme) (i : ℕ) → class_at ls i ≡ Dot → class_at ls i ≢ Colon
dot_no_colon ls i e = λ f. let g : Dot ≡ Colon = sym e ∙ f in cc

-- no term goes over a full stop
pub dot_over : (ops : Operators) (ls : List Lexeme) (from i : ℕ) (s : State) → HasRead ops ls from i s → class_at ls i ≡ Dot → NoneOver ops ls from i
dot_over ops ls from i s h e = token_stops ops ls from i s Unexpected h (dot_no_colon ls i e) (ap (step s) (dot_symbol ops ls i e) ∙ other_stops s.frames s.mode)

agree_past : (ls text : List Lexeme) → Agree (suc (length ls)) ls text → ⊥
agree_past ls text a =
    let h = a.long in
    let e : None ≡ Some (get_or text (length ls) closing) = sym (slice_get_past ls (length ls) (omega arith)) ∙ sym (a.same (length ls) (omega arith)) ∙ slice_get-get_or text (length ls) closing (omega (arith, h)) in
    cc

-- a term that may not end here
pub end_faults : (spot : ℕ → Spot) (ops : Operators) (ls : List Lexeme) (r : Reader) (d : Doing) (i : ℕ) (f : SyntaxFault) → IsReading ops ls r d i →
    IsOver ls i → ended (state_of r d) ≡ None → f ≡ refused spot i (innermost (open_brackets ls r.from i)) (class_at ls i) → TermFault spot ops ls
    r.from f
end_faults spot ops ls r d i f v o e k = record {
  number = i;
  stops = record {
    low = v.low;
    high = v.high;
    viable = can_go_on ops ls r.from i (state_of r d) v.high v.read;
    first = λ text a. go o text a;
    none = λ h. read_is_open ops ls r.from i (state_of r d) v.read e;
  };
  kind = kind_other spot ops ls r.from i f (over_symbol o) k;
}
  where
    over_symbol : (i ≡ length ls) ⊎ (class_at ls i ≡ Dot) → symbol_at ops ls i ≡ Other
    over_symbol (inl h) = class_symbol ops ls i End (past_end ls i (omega (arith, h))) refl
    over_symbol (inr h) = class_symbol ops ls i Dot h refl

    go : (i ≡ length ls) ⊎ (class_at ls i ≡ Dot) → (text : List Lexeme) → Agree (suc i) ls text → NoneOver ops text r.from i
    go (inl h) text a = absurd (agree_past ls text (subst (λ j. Agree (suc j) ls text) h a))
    go (inr h) text a = dot_over ops text r.from i (state_of r d) (same_read ops i ls text (agree_less i (suc i) ls text (omega arith) a) r.from (state_of r d) v.read) (class_same (suc i) i ls text a (omega arith) ∙ h)

-- a term that ends here, whose nodes are handed out
pub end_term : (spot : ℕ → Spot) (ops : Operators) (ls : List Lexeme) (r : Reader) (d : Doing) (i root : ℕ) (ns : List Node) (o : Option ℕ)
    (text : TermText) → IsReading ops ls r d i → o ≡ Some root → Finishes r.nodes.items ns o (ended (state_of r d)) → i ≡ text.end → AreRaw spot ls ns
    text.term.nodes.items → root ≡ text.term.root → text.term.first ≡ spot r.from →
    ((t : Tree) → Shows spot ls text.term.nodes.items root t → IsDepth ls t text.depth) → IsTermText spot ops ls r.from text
end_term spot ops ls r d i root ns o text v e f g a h k w =
    let t = at (trees ns) root in
    let z : ended (state_of r d) ≡ Some t = sym f.is ∙ ap (maybe (trees ns)) e in
    let x = subst (λ j. TermAt ops ls r.from j t) g (read_ends ops ls r.from i (state_of r d) t v.read z) in
    let y = shows spot ls ns text.term.nodes.items root t a (f.grows.ordered v.ordered) (subst (IsMaybeBelow (length ns)) e f.below) refl (term_notes ops ls r.from text.end t x) in
    record { tree = t; term = x; nodes = subst (λ j. Shows spot ls text.term.nodes.items j t) h y; first = k; depth = w t y }

pub refused_is : (spot : ℕ → Spot) (ops : Operators) (ls : List Lexeme) (r : Reader) (d : Doing) (i : ℕ) (b : Option ℕ) (f : SyntaxFault) → IsReading
    ops ls r d i → f ≡ refused spot i b (class_at ls i) → b ≡ innermost r.opens.items → f ≡ refused spot i (innermost (open_brackets ls r.from i))
    (class_at ls i)
refused_is spot ops ls r d i b f v e g = e ∙ ap (λ o. refused spot i o (class_at ls i)) (g ∙ ap innermost v.inner)

pub memory_or : (Q R : SyntaxFault → Type 0) (f : SyntaxFault) → (Q f → R f) → MemoryOr f (Q f) → MemoryOr f (R f)
memory_or Q R f h (inl e) = inl e
memory_or Q R f h (inr q) = inr (h q)

-- `?` passes a fault up, which is then one of the whole
pub passed_on : {T : Type 0} (r : Result T SyntaxFault) (e : SyntaxFault) (Q R : SyntaxFault → Type 0) → IsErrAnd r (λ y. y ≡ e) → ((f : SyntaxFault) → Q f → R f) → MemoryOr e (Q e) → IfErr r (λ f. MemoryOr f (R f))
passed_on (Ok x) e Q R is h m = tt
passed_on (Err y) e Q R is h m = subst (λ f. MemoryOr f (R f)) (sym is) (memory_or Q R e (h e) m)

pub starts : (ops : Operators) (ls : List Lexeme) (r : Reader) (i : ℕ) → r.from ≡ i → i ≤ length ls → IsNew r → IsReading ops ls r doing.Wants i
starts ops ls r i e l n = record {
  ordered = subst IsOrdered (sym n.0) (λ k m z. cc);
  frames = subst (EachBelow (length r.nodes.items)) (sym n.1) tt;
  due = tt;
  low = omega (arith, e);
  high = l;
  read = subst (λ f. HasRead ops ls f i (state_of r doing.Wants)) (sym e) (subst (λ hs. HasRead ops ls i i (st (frames_of (trees r.nodes.items) hs) Wants)) (sym n.1) (nothing_read ops ls i));
  inner = n.2 ∙ brackets_none ls i ∙ ap (λ f. open_brackets ls f i) (sym e);
}
