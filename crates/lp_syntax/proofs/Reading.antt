-- A text has at most one tree, which is read, and a fault is where it is due.
use Rattle.std.proofs.Common.{◌≡◌, ℕ, suc, Bool, true, false, List, [], ◌∷◌, ◌++◌, Option, Some, None, refl, sym, ap, ◌∙◌, subst, append_assoc, append-nil}
use Rattle.lp_syntax.specs.declared.symbol.Sym.{Sym}
use Rattle.lp_syntax.specs.declared.symbol.Sym.TheVariants.{Atom, Op, Closes, ClosesList}
use Rattle.lp_syntax.specs.declared.symbol.Fault.{Fault}
use Rattle.lp_syntax.specs.Symbols.{Tree, Leaf, Nil, App, Lam, Form, Whole, By, apply, binary}
use Rattle.lp_syntax.specs.Grammar.{Part, Derives}
use Rattle.lp_syntax.specs.Machine.{Frame, Waits, Under, Inside, Item, Tail, Wants, Fresh, FreshList, Named, Has, Formed, Mode, State, st, Goes, Stops, Move, admits, step, wrap, Run, Reached, Failed, go_on, run, finish, ended, Given, Faulty, outcome_at, outcome, read}
use Rattle.lp_syntax.specs.Text.{IsTerm, Begins, FaultAt}
use Rattle.lp_syntax.proofs.Settled.{Settled, has_term, has_form, waiting, under, step_close, EndBracket, EndList, admits_whole}
use Rattle.lp_syntax.proofs.Complete.{run_step, complete}
use Rattle.lp_syntax.specs.Opened.{Spans, Stack, bottom, waits_left, waits_first, binder, bracket, item, rest}
use Rattle.lp_syntax.proofs.Spans.{span_between, span_before}
use Rattle.lp_syntax.proofs.Sound.{Reads, at_operand, at_bracket, at_list, at_name, behind_term, behind_form, Keeps, keeps_step, with_before, with_binder}

settled_end : (fs : List Frame) (b : Bool) (f : Form) (t : Tree) (s : State) → Settled fs b f t s → ended s ≡ finish fs t
settled_end fs b f t s (has_term _ fn x w) = refl
settled_end fs b f t s (has_form _ q n _ post) = refl
settled_end fs b f t s (waiting _ o l _ g r _ k d) = settled_end (Waits o l ∷ fs) b g r s d
settled_end fs b f t s (under _ v y fn b' g u _ d) = settled_end (Under v y fn ∷ fs) b' g u s d

-- what the grammar gives is what is read
pub read_of_term : (ts : List Sym) (t : Tree) → IsTerm ts t → read ts ≡ Given t
unfolding read
read_of_term ts t d =
    let r = complete _ ts t d.derives [] [] refl in
    ap (λ l. outcome (run (st [] Wants) l)) (sym (append-nil ts)) ∙ ap outcome r.2 ∙ ap outcome_at (settled_end [] _ _ t r.0 r.1)

given_same : (t u : Tree) → Given t ≡ Given u → t ≡ u
given_same t u e = cc

-- a text has at most one tree
pub one_tree : (ts : List Sym) (t u : Tree) → IsTerm ts t → IsTerm ts u → t ≡ u
one_tree ts t u d e = given_same t u (sym (read_of_term ts t d) ∙ read_of_term ts u e)

-- a run that goes to its end keeps the reading
sound_run : (all ts : List Sym) (s s' : State) → Reads all s ts → run s ts ≡ Reached s' → Reads all s' []
sound_run all [] s s' r e = let f : s ≡ s' = cc in subst (λ q. Reads all q []) f r
sound_run all (c ∷ cs) s s' r e = go (λ q k h. sound_run all cs q s' k h) (step s c) refl (keeps_step all cs s c r)
  where
    go : ((q : State) → Reads all q cs → run q cs ≡ Reached s' → Reads all s' []) → (m : Move) → step s c ≡ m → Keeps all cs m → Reads all s' []
    go on (Goes q) h k = on q k (sym (run_step s c cs q h) ∙ e)
    go on (Stops f) h k = let g : Failed f (c ∷ cs) ≡ Reached s' = sym (ap (go_on (λ u. run u cs) c cs) h) ∙ e in cc

record Ended (all : List Sym) (u : Tree) : Type 0 where
  open_end : Bool
  form : Form
  spans : Spans (Part open_end form) all [] u

sound_finish : (all ks : List Sym) (fs : List Frame) (b : Bool) (f : Form) (t u : Tree) → Stack all fs ks → Spans (Part b f) ks [] t → admits fs f ≡ true → finish fs t ≡ Some u → Ended all u
sound_finish all ks fs b f t u bottom d a e = let g : t ≡ u = cc in record { open_end = b; form = f; spans = subst (Spans (Part b f) ks []) g d }
sound_finish all ks fs b f t u (waits_left gs o g x js _ s e p q l a') d a h = sound_finish all js gs b (By o.fixity o.number) (binary o.spot x t) u s (span_between o p q l a e d) a' h
sound_finish all ks fs b f t u (waits_first gs o _ s p a') d a h = sound_finish all (Op o ∷ ks) gs b (By o.fixity o.number) (App (Leaf o.spot) t) u s (span_before o p a d) a' h
sound_finish all ks fs b f t u (binder gs v y fn js _ s e) d a h = sound_finish all js gs true Whole (apply fn (Lam v y t)) u s (with_binder fn v y b f js ks _ t e d) (admits_whole gs) h
sound_finish all ks fs b f t u (bracket gs fn js _ s e) d a h = cc
sound_finish all ks fs b f t u (item gs v fn done js bs _ s e i) d a h = cc
sound_finish all ks fs b f t u (rest gs fn done js bs _ s e i) d a h = cc

sound_end : (all : List Sym) (s : State) (u : Tree) → Reads all s [] → ended s ≡ Some u → Ended all u
sound_end all s u (at_operand fs _ k) h = cc
sound_end all s u (at_bracket fs fn ks _ k e) h = cc
sound_end all s u (at_list fs v fn ks _ k e) h = cc
sound_end all s u (at_name fs fn o ks _ k e) h = cc
sound_end all s u (behind_term fs fn x w ks bs _ k e d i) h = sound_finish all ks fs false Whole (apply fn x) u k (with_before fn ks bs _ x e d) (admits_whole fs) h
sound_end all s u (behind_form fs f n t ks _ k d a z) h = sound_finish all ks fs false (By f n) t u k d a h

term_of_end : (all : List Sym) (u : Tree) → Ended all u → IsTerm all u
term_of_end all u e = record { open_end = e.open_end; form = e.form; derives = subst (λ l. Derives (Part e.open_end e.form) l u) (sym (append-nil e.spans.tokens) ∙ sym e.spans.are) e.spans.derives }

pub reads_first : (all : List Sym) → Reads all (st [] Wants) all
reads_first all = at_operand [] all bottom

pub term_of_run : (ts : List Sym) (s : State) (t : Tree) → run (st [] Wants) ts ≡ Reached s → ended s ≡ Some t → IsTerm ts t
term_of_run ts s t e h = term_of_end ts t (sound_end ts s t (sound_run ts ts (st [] Wants) s (reads_first ts) e) h)

-- what is read is in the grammar
pub term_of_read : (ts : List Sym) (t : Tree) → read ts ≡ Given t → IsTerm ts t
unfolding read
term_of_read ts t e = go (run (st [] Wants) ts) refl e
  where
    end : (s : State) → run (st [] Wants) ts ≡ Reached s → (o : Option Tree) → ended s ≡ o → outcome_at o ≡ Given t → IsTerm ts t
    end s h None i k = cc
    end s h (Some u) i k = let g : u ≡ t = cc in term_of_run ts s t h (i ∙ ap Some g)

    go : (r : Run) → run (st [] Wants) ts ≡ r → outcome r ≡ Given t → IsTerm ts t
    go (Reached s) h k = end s h (ended s) refl k
    go (Failed f cs) h k = cc

-- the marks that close what is open, from this number on
abbrev pub closers : ℕ → List Frame → List Sym
closers n [] = []
closers n (Waits o l ∷ fs) = closers n fs
closers n (Under v y fn ∷ fs) = closers n fs
closers n (Inside fn ∷ fs) = Closes ∷ closers (suc n) fs
closers n (Item v fn done ∷ fs) = ClosesList n ∷ closers (suc n) fs
closers n (Tail fn done ∷ fs) = ClosesList n ∷ closers (suc n) fs

record Finishes (s : State) (ws : List Sym) : Type 0 where
  last : State
  tree : Tree
  ends : ended last ≡ Some tree
  reaches : run s ws ≡ Reached last

finishes_on : (s t : State) (c : Sym) (ws : List Sym) → step s c ≡ Goes t → Finishes t ws → Finishes s (c ∷ ws)
finishes_on s t c ws e f = record { last = f.last; tree = f.tree; ends = f.ends; reaches = run_step s c ws t e ∙ f.reaches }

closes_all : (all : List Sym) (n : ℕ) (ks : List Sym) (fs : List Frame) (b : Bool) (f : Form) (t : Tree) (s : State) → Stack all fs ks → Settled fs b f t s → admits fs f ≡ true → Finishes s (closers n fs)
closes_all all n ks fs b f t s bottom d a = record { last = s; tree = t; ends = settled_end [] b f t s d; reaches = refl }
closes_all all n ks fs b f t s (waits_left gs o g x js _ k e p q l a') d a = closes_all all n js gs b (By o.fixity o.number) (binary o.spot x t) s k (waiting gs o (Some x) b f t s a d) a'
closes_all all n ks fs b f t s (waits_first gs o _ k p a') d a = closes_all all n (Op o ∷ ks) gs b (By o.fixity o.number) (App (Leaf o.spot) t) s k (waiting gs o None b f t s a d) a'
closes_all all n ks fs b f t s (binder gs v y fn js _ k e) d a = closes_all all n js gs true Whole (apply fn (Lam v y t)) s k (under gs v y fn b f t s d) (admits_whole gs)
closes_all all n ks fs b f t s (bracket gs fn js _ k e) d a = finishes_on s _ Closes (closers (suc n) gs) (step_close (Inside fn ∷ gs) b f t s EndBracket d) (closes_all all (suc n) js gs false Whole (apply fn t) (st gs (Has fn t None)) k (has_term gs fn t None) (admits_whole gs))
closes_all all n ks fs b f t s (item gs v fn done js bs _ k e i) d a = finishes_on s _ (ClosesList n) (closers (suc n) gs)
    (step_close (Item v fn done ∷ gs) b f t s (EndList n) d) (closes_all all (suc n) js gs false Whole _
    (st gs (Has fn (wrap ((v, t) ∷ done) (Nil n)) None)) k (has_term gs fn _ None) (admits_whole gs))
closes_all all n ks fs b f t s (rest gs fn done js bs _ k e i) d a = finishes_on s _ (ClosesList n) (closers (suc n) gs) (step_close (Tail fn done ∷ gs) b f t s (EndList n) d) (closes_all all (suc n) js gs false Whole _ (st gs (Has fn (wrap done t) None)) k (has_term gs fn _ None) (admits_whole gs))

-- what completes a term
abbrev completion_in : ℕ → List Frame → Mode → List Sym
completion_in n fs Wants = Atom n ∷ closers (suc n) fs
completion_in n fs Fresh = Atom n ∷ closers (suc n) fs
completion_in n fs FreshList = closers n fs
completion_in n fs (Named o) = closers n fs
completion_in n fs (Has fn x w) = closers n fs
completion_in n fs (Formed f k t) = closers n fs

abbrev pub completion : ℕ → State → List Sym
completion n s = completion_in n s.frames s.mode

completes : (n : ℕ) (all cs : List Sym) (s : State) → Reads all s cs → Finishes s (completion n s)
completes n all cs s (at_operand fs _ k) = finishes_on s _ (Atom n) (closers (suc n) fs) refl (closes_all all (suc n) cs fs false Whole (Leaf n) (st fs (Has None (Leaf n) None)) k (has_term fs None (Leaf n) None) (admits_whole fs))
completes n all cs s (at_bracket fs fn ks _ k e) = finishes_on s _ (Atom n) (closers (suc n) (Inside fn ∷ fs)) refl
    (closes_all all (suc n) cs (Inside fn ∷ fs) false Whole (Leaf n) (st (Inside fn ∷ fs) (Has None (Leaf n) None)) (bracket fs fn ks cs k e)
    (has_term (Inside fn ∷ fs) None (Leaf n) None) refl)
completes n all cs s (at_list fs v fn ks _ k e) = finishes_on s _ (ClosesList n) (closers (suc n) fs) refl (closes_all all (suc n) ks fs false Whole (apply fn (Nil n)) (st fs (Has fn (Nil n) None)) k (has_term fs fn (Nil n) None) (admits_whole fs))
completes n all cs s (at_name fs fn o ks _ k e) = finishes_on s _ Closes (closers (suc n) fs) refl (closes_all all (suc n) ks fs false Whole (apply fn (Leaf o.spot)) (st fs (Has fn (Leaf o.spot) None)) k (has_term fs fn (Leaf o.spot) None) (admits_whole fs))
completes n all cs s (behind_term fs fn x w ks bs _ k e d i) = closes_all all n ks fs false Whole (apply fn x) s k (has_term fs fn x w) (admits_whole fs)
completes n all cs s (behind_form fs f m t ks _ k d a z) = closes_all all n ks fs false (By f m) t s k (has_form fs f m t z) a

pub run_append : (s t : State) (us ws : List Sym) → run s us ≡ Reached t → run s (us ++ ws) ≡ run t ws
run_append s t [] ws e = let f : s ≡ t = cc in ap (λ q. run q ws) f
run_append s t (c ∷ cs) ws e = go (λ q h. run_append q t cs ws h) (step s c) refl
  where
    go : ((q : State) → run q cs ≡ Reached t → run q (cs ++ ws) ≡ run t ws) → (m : Move) → step s c ≡ m → run s (c ∷ cs ++ ws) ≡ run t ws
    go on (Goes q) h = run_step s c (cs ++ ws) q h ∙ on q (sym (run_step s c cs q h) ∙ e)
    go on (Stops f) h = let g : Failed f (c ∷ cs) ≡ Reached t = sym (ap (go_on (λ u. run u cs) c cs) h) ∙ e in cc

-- what was read goes on to a term, the next token having this number
pub record CompletesTo (ts : List Sym) (ws : List Sym) : Type 0 where
  pub tree : Tree
  pub whole : IsTerm (ts ++ ws) tree

pub completed_run : (n : ℕ) (ts : List Sym) (s : State) → run (st [] Wants) ts ≡ Reached s → CompletesTo ts (completion n s)
completed_run n ts s e =
    let c = completes n ts [] s (sound_run ts ts (st [] Wants) s (reads_first ts) e) in
    record { tree = c.tree; whole = term_of_run (ts ++ completion n s) c.last c.tree (run_append (st [] Wants) s ts (completion n s) e ∙ c.reaches) c.ends }

-- some text in the grammar begins with what was read
pub begins_of_run : (ts : List Sym) (s : State) → run (st [] Wants) ts ≡ Reached s → Begins ts
begins_of_run ts s e = let c = completed_run 0 ts s e in record { after = completion 0 s; tree = c.tree; whole = c.whole }

pub record Failing (s : State) (ts : List Sym) (f : Fault) (rest' : List Sym) : Type 0 where
  pub front : List Sym
  pub token : Sym
  pub after : List Sym
  pub there : rest' ≡ token ∷ after
  pub text : ts ≡ front ++ rest'
  pub last : State
  pub reaches : run s front ≡ Reached last
  pub stops : step last token ≡ Stops f

pub failing : (s : State) (ts : List Sym) (f : Fault) (rest' : List Sym) → run s ts ≡ Failed f rest' → Failing s ts f rest'
failing s [] f rest' e = cc
failing s (c ∷ cs) f rest' e = go (λ q h. failing q cs f rest' h) (step s c) refl
  where
    go : ((q : State) → run q cs ≡ Failed f rest' → Failing q cs f rest') → (m : Move) → step s c ≡ m → Failing s (c ∷ cs) f rest'
    go on (Goes q) h = let r = on q (sym (run_step s c cs q h) ∙ e) in record { front = c ∷ r.front; token = r.token; after = r.after; there = r.there; text = ap (λ l. c ∷ l) r.text; last = r.last; reaches = run_step s c r.front q h ∙ r.reaches; stops = r.stops }
    go on (Stops g) h =
        let i : Failed g (c ∷ cs) ≡ Failed f rest' = sym (ap (go_on (λ u. run u cs) c cs) h) ∙ e in
        let j : c ∷ cs ≡ rest' = cc in
        let k : g ≡ f = cc in
        record { front = []; token = c; after = cs; there = sym j; text = j; last = s; reaches = refl; stops = h ∙ ap Stops k }

-- a fault is at the first token such that no text in the grammar begins with the tokens up to it
pub fault_is_first : (ts : List Sym) (f : Fault) (rest' : List Sym) → read ts ≡ Faulty f rest' → FaultAt ts rest'
unfolding read
fault_is_first ts f rest' e = go (run (st [] Wants) ts) refl e
  where
    by : Failing (st [] Wants) ts f rest' → FaultAt ts rest'
    by r = record {
      before = r.front;
      token = r.token;
      after = r.after;
      there = r.there;
      text = r.text;
      viable = begins_of_run r.front r.last r.reaches;
      first = λ b.
          let g = read_of_term _ b.tree b.whole in
          let h = ap (λ l. outcome (run (st [] Wants) l)) (append_assoc r.front (r.token ∷ []) b.after) in
          let i = ap outcome (run_append (st [] Wants) r.last r.front (r.token ∷ b.after) r.reaches) in
          let j = ap (λ m. outcome (go_on (λ u. run u b.after) r.token b.after m)) r.stops in
          let k : Faulty f (r.token ∷ b.after) ≡ Given b.tree = sym (h ∙ i ∙ j) ∙ g in
          cc;
    }

    at_end : (s : State) (o : Option Tree) → ended s ≡ o → outcome_at o ≡ Faulty f rest' → FaultAt ts rest'
    at_end s None h k = cc
    at_end s (Some u) h k = cc

    go : (r : Run) → run (st [] Wants) ts ≡ r → outcome r ≡ Faulty f rest' → FaultAt ts rest'
    go (Reached s) h k = at_end s (ended s) refl k
    go (Failed g cs) h k =
        let i : g ≡ f = cc in
        let j : cs ≡ rest' = cc in
        by (failing (st [] Wants) ts f rest' (h ∙ (λ x. Failed (i x) (j x))))
