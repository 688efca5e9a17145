-- When a fault is one of operators of the same number.
use Rattle.std.proofs.Common.{◌≡◌, ℕ, Bool, true, false, List, [], ◌∷◌, ◌++◌, Option, Some, None, refl, sym, ap, ◌∙◌, subst, arith, length, suc, ◌≤◌}
use Rattle.std.proofs.lemmas.Bool.{true≢false}
use Rattle.std.specs.Prelude.{if◌then◌else◌}
use Rattle.lp_syntax.specs.declared.symbol.Oper.{Oper}
use Rattle.lp_syntax.specs.declared.symbol.Sym.{Sym}
use Rattle.lp_syntax.specs.declared.symbol.Sym.TheVariants.{Word, Op, Opens, OpensList, Bar, Binds}
use Rattle.lp_syntax.specs.declared.symbol.Fault.{Fault}
use Rattle.lp_syntax.specs.declared.symbol.Fault.TheVariants.{Ambiguous, Unexpected}
use Rattle.lp_syntax.specs.Symbols.{Tree, Leaf, App, Form, Whole, By, is_prefix, is_postfix, fits_left, fits_right, is_item, apply, binary, separates}
use Rattle.lp_syntax.specs.Grammar.{Kind, Part}
use Rattle.lp_syntax.specs.Machine.{Frame, Waits, Under, Inside, Item, Tail, Wants, Formed, State, st, at, Goes, Stops, Move, admits, operated, takes, attach, operator, prefixed, named_else, step, Run, Reached, Failed, go_on, run, ended, outcome_at, outcome, Faulty, read}
use Rattle.lp_syntax.proofs.Fitting.{level_of, right_level, item_level, same_number, postfix_no_right, whole_left}
use Rattle.lp_syntax.proofs.Settled.{Settled, has_term, has_form, waiting, step_operator, step_close, EndBar, Starts, starts_wants, starts_term, admits_whole, admits_left, attach_admitted}
use Rattle.lp_syntax.proofs.Complete.{run_step, complete, derives_begins, begins_more, begins_op, begins_well, fresh_same, fresh_list_same, takes_infix, wants_op, attach_comma, comma_left, comma_infix}
use Rattle.lp_syntax.specs.Opened.{AmbiguousAt, Spans, Before, ItemsBefore, items_first, items_next, tail_first, Stack, bottom, waits_left, waits_first, binder, bracket, item, rest}
use Rattle.lp_syntax.proofs.Spans.{span_between, span_before}
use Rattle.lp_syntax.proofs.Sound.{Reads, at_operand, at_bracket, at_list, at_name, behind_term, behind_form, Keeps, keeps_step, with_before}
use Rattle.lp_syntax.proofs.Reading.{failing, reads_first}

span_begins : (k : Kind) (ks bs : List Sym) (t : Tree) → Spans k ks bs t → begins_well ks ≡ true
span_begins k ks bs t d = ap begins_well d.are ∙ begins_more d.tokens bs (derives_begins k d.tokens t d.derives)

-- reading what spans, above these frames
record Ends (fs : List Frame) (b : Bool) (f : Form) (t : Tree) (ks bs : List Sym) : Type 0 where
  last : State
  settled : Settled fs b f t last
  reaches : run (st fs Wants) ks ≡ run last bs

span_ends : (fs : List Frame) (b : Bool) (f : Form) (t : Tree) (ks bs : List Sym) → admits fs f ≡ true → Spans (Part b f) ks bs t → Ends fs b f t ks bs
span_ends fs b f t ks bs a d = let r = complete _ d.tokens t d.derives fs bs a in record { last = r.0; settled = r.1; reaches = ap (run (st fs Wants)) d.are ∙ r.2 }

-- the state before an atom
record Comes (fs : List Frame) (fn : Option Tree) (ks bs : List Sym) : Type 0 where
  last : State
  starts : Starts last fs fn
  reaches : run (st fs Wants) ks ≡ run last bs

comes : (fs : List Frame) (fn : Option Tree) (ks bs : List Sym) → Before fn ks bs → Comes fs fn ks bs
comes fs None ks bs e = record { last = st fs Wants; starts = starts_wants fs; reaches = ap (run (st fs Wants)) e }
comes fs (Some f) ks bs d = let r = span_ends fs false Whole f ks bs (admits_whole fs) d in record { last = r.last; starts = starts_term fs f r.last r.settled; reaches = r.reaches }

before_begins : (fn : Option Tree) (ks bs : List Sym) → Before fn ks bs → begins_well bs ≡ true → begins_well ks ≡ true
before_begins None ks bs e h = ap begins_well e ∙ h
before_begins (Some f) ks bs d h = span_begins (Part false Whole) ks bs f d

items_begin : (v : ℕ) (done : List (ℕ × Tree)) (bs cs : List Sym) → ItemsBefore v done bs cs → begins_well bs ≡ true
items_begin v done bs cs (items_first _ _) = refl
items_begin v done bs cs (items_next w o is f _ ks _ t q i h d) = items_begin w is bs ks h

items_read : (fs : List Frame) (fn : Option Tree) (v : ℕ) (done : List (ℕ × Tree)) (js bs cs : List Sym) → Before fn js bs → ItemsBefore v done bs cs → begins_well cs ≡ true → run (st fs Wants) js ≡ run (st (Item v fn done ∷ fs) Wants) cs
items_read fs fn v done js bs cs e (items_first _ _) h =
    let r = comes fs fn js _ e in
    r.reaches ∙ run_step r.last (OpensList v) cs _ (r.starts.list v) ∙ fresh_list_same v fn [] fs cs h
items_read fs fn v done js bs cs e (items_next w o is f _ ks _ t q i b d) h =
    let z = span_ends (Item w fn is ∷ fs) false f t ks (Op o ∷ cs) i d in
    items_read fs fn w is js bs ks e b (span_begins (Part false f) ks (Op o ∷ cs) t d)
    ∙ z.reaches
    ∙ run_step z.last (Op o) cs _ (step_operator (Item w fn is ∷ fs) f t z.last o z.settled (comma_infix o q) (comma_left f o q i) ∙ attach_comma w o fn is fs t q)

-- the machine comes to these frames, where a term follows
pub stack_read : (all ks : List Sym) (fs : List Frame) → Stack all fs ks → begins_well ks ≡ true → run (st [] Wants) all ≡ run (st fs Wants) ks
stack_read all ks fs bottom h = refl
stack_read all ks fs (waits_left gs o f l js _ s d p q k a) h =
    let z = span_ends gs false f l js (Op o ∷ ks) (admits_left gs f o a k) d in
    stack_read all js gs s (span_begins (Part false f) js (Op o ∷ ks) l d)
    ∙ z.reaches
    ∙ run_step z.last (Op o) ks _ (step_operator gs f l z.last o z.settled p k ∙ attach_admitted gs l o a ∙ takes_infix gs l o q)
stack_read all ks fs (waits_first gs o _ s p a) h = stack_read all (Op o ∷ ks) gs s (begins_op o ks p h) ∙ run_step (st gs Wants) (Op o) ks _ (wants_op gs o p a)
stack_read all ks fs (binder gs v y fn js _ s e) h =
    let r = comes gs fn js (Word v ∷ Binds y ∷ ks) e in
    stack_read all js gs s (before_begins fn js (Word v ∷ Binds y ∷ ks) e refl) ∙ r.reaches ∙ run_step r.last (Word v) (Binds y ∷ ks) _ (r.starts.word v)
stack_read all ks fs (bracket gs fn js _ s e) h =
    let r = comes gs fn js (Opens ∷ ks) e in
    stack_read all js gs s (before_begins fn js (Opens ∷ ks) e refl) ∙ r.reaches ∙ run_step r.last Opens ks _ r.starts.opens ∙ fresh_same fn gs ks h
stack_read all ks fs (item gs v fn done js bs _ s e i) h = stack_read all js gs s (before_begins fn js bs e (items_begin v done bs ks i)) ∙ items_read gs fn v done js bs ks e i h
stack_read all ks fs (rest gs fn done js bs _ s e (tail_first v is b f _ ms _ t i x d)) h =
    let z = span_ends (Item v fn is ∷ gs) b f t ms (Bar ∷ ks) i d in
    stack_read all js gs s (before_begins fn js bs e (items_begin v is bs ms x))
    ∙ items_read gs fn v is js bs ms e x (span_begins (Part b f) ms (Bar ∷ ks) t d)
    ∙ z.reaches
    ∙ run_step z.last Bar ks _ (step_close (Item v fn is ∷ gs) b f t z.last EndBar z.settled)

takes_goes : (fs : List Frame) (t : Tree) (o : Oper) (x : Fault) → takes fs t o ≡ Stops x → ⊥
takes_goes fs t o x e = go (is_postfix o.fixity) e
  where
    go : (b : Bool) → (if b then at fs (Formed o.fixity o.number (App (Leaf o.spot) t)) else at (Waits o (Some t) ∷ fs) Wants) ≡ Stops x → ⊥
    go true h = cc
    go false h = cc

admits_level : (fs : List Frame) (p o : Oper) → p.number ≡ o.number → fits_left (By p.fixity p.number) o.fixity o.number ≡ true → admits fs (By p.fixity p.number) ≡ true → admits fs (By o.fixity o.number) ≡ true
admits_level [] p o e l a = refl
admits_level (Waits r x ∷ fs) p o e l a = right_level p.fixity o.fixity r.fixity p.number o.number r.number e a l
admits_level (Under v y fn ∷ fs) p o e l a = refl
admits_level (Inside fn ∷ fs) p o e l a = refl
admits_level (Item v fn is ∷ fs) p o e l a = item_level p.fixity o.fixity p.number o.number e a
admits_level (Tail fn is ∷ fs) p o e l a = refl

-- what comes of an operator directly above one of its number
attach_level : (fs : List Frame) (p : Oper) (l : Option Tree) (t : Tree) (o : Oper) (x : Fault) → p.number ≡ o.number → admits fs (By p.fixity p.number) ≡ true → attach (Waits p l ∷ fs) t o ≡ Stops x → x ≡ Ambiguous
attach_level fs p l t o x e a h = go (fits_right (By o.fixity o.number) p.fixity p.number) (fits_left (By p.fixity p.number) o.fixity o.number) refl h
  where
    go : (b c : Bool) → fits_left (By p.fixity p.number) o.fixity o.number ≡ c → (if b then takes (Waits p l ∷ fs) t o else (if c then attach fs (operated p l t) o else Stops Ambiguous)) ≡ Stops x → x ≡ Ambiguous
    go true c k i = absurd (takes_goes (Waits p l ∷ fs) t o x i)
    go false true k i = absurd (takes_goes fs (operated p l t) o x (sym (attach_admitted fs (operated p l t) o (admits_level fs p o e k a)) ∙ i))
    go false false k i = cc

above_level : (fs : List Frame) (p : Oper) (l : Option Tree) (f : Form) (t : Tree) (s : State) (o : Oper) (x : Fault) → Settled (Waits p l ∷ fs) false
    f t s → p.number ≡ o.number → admits fs (By p.fixity p.number) ≡ true → is_prefix o.fixity ≡ false → step s (Op o) ≡ Stops x → (b : Bool) →
    fits_left f o.fixity o.number ≡ b → (b ≡ false → x ≡ Ambiguous) → x ≡ Ambiguous
above_level fs p l f t s o x d e a n k true i other = attach_level fs p l t o x e a (sym (step_operator (Waits p l ∷ fs) f t s o d n i) ∙ k)
above_level fs p l f t s o x d e a n k false i other = other refl

-- an operator behind an operand with one of its number before it fails, if it does, as ambiguous
pub settled_level : (fs : List Frame) (p : Oper) (l : Option Tree) (f : Form) (t : Tree) (s : State) (o : Oper) (x : Fault) → Settled (Waits p l ∷ fs)
    false f t s → fits_right f p.fixity p.number ≡ true → p.number ≡ o.number → admits fs (By p.fixity p.number) ≡ true → is_prefix o.fixity ≡ false →
    step s (Op o) ≡ Stops x → x ≡ Ambiguous
settled_level fs p l f t s o x (has_term _ fn y w) h e a n k =
    above_level fs p l f t s o x (has_term (Waits p l ∷ fs) fn y w) e a n k (fits_left Whole o.fixity o.number) refl (λ i. absurd (true≢false (sym (whole_left o.fixity o.number) ∙ i)))
settled_level fs p l f t s o x (has_form _ q j _ post) h e a n k =
    above_level fs p l f t s o x (has_form (Waits p l ∷ fs) q j t post) e a n k (fits_left (By q j) o.fixity o.number) refl (λ i. absurd (postfix_no_right q post (level_of q p.fixity o.fixity j p.number o.number e h i).1))
settled_level fs p l f t s o x (waiting _ q l' _ g r _ m d) h e a n k =
    above_level fs p l f t s o x (waiting (Waits p l ∷ fs) q l' false g r s m d) e a n k (fits_left (By q.fixity q.number) o.fixity o.number) refl
    (λ i. settled_level (Waits p l ∷ fs) q l' g r s o x d m (level_of q.fixity p.fixity o.fixity q.number p.number o.number e h i).0 h n k)

stack_admits : (all ks : List Sym) (fs : List Frame) (p : Oper) (l : Option Tree) → Stack all (Waits p l ∷ fs) ks → admits fs (By p.fixity p.number) ≡ true
stack_admits all ks fs p l (waits_left _ _ f x js _ s d pre q k a) = a
stack_admits all ks fs p l (waits_first _ _ _ s pre a) = a

-- a run fails at tokens that are left
failed_length : (s : State) (cs : List Sym) (x : Fault) (es : List Sym) → run s cs ≡ Failed x es → length es ≤ length cs
failed_length s [] x es h = cc
failed_length s (c ∷ cs) x es h = go (λ q k. failed_length q cs x es k) (step s c) refl
  where
    go : ((q : State) → run q cs ≡ Failed x es → length es ≤ length cs) → (m : Move) → step s c ≡ m → length es ≤ suc (length cs)
    go on (Goes q) k = let r = on q (sym (run_step s c cs q k) ∙ h) in omega (arith, r)
    go on (Stops y) k =
        let g : Failed y (c ∷ cs) ≡ Failed x es = sym (ap (go_on (λ u. run u cs) c cs) k) ∙ h in
        let j : c ∷ cs ≡ es = cc in
        let z = ap length j in omega (arith, z)

failed_first : (s : State) (c : Sym) (cs : List Sym) (x : Fault) → run s (c ∷ cs) ≡ Failed x (c ∷ cs) → step s c ≡ Stops x
failed_first s c cs x h = go (step s c) refl
  where
    go : (m : Move) → step s c ≡ m → step s c ≡ Stops x
    go (Goes q) k = let r = failed_length q cs x (c ∷ cs) (sym (run_step s c cs q k) ∙ h) in absurd (omega (arith, r))
    go (Stops y) k =
        let g : Failed y (c ∷ cs) ≡ Failed x (c ∷ cs) = sym (ap (go_on (λ u. run u cs) c cs) k) ∙ h in
        let j : y ≡ x = cc in
        k ∙ ap Stops j

run_failed : (all : List Sym) (x : Fault) (es : List Sym) → read all ≡ Faulty x es → run (st [] Wants) all ≡ Failed x es
unfolding read
run_failed all x es h = go (run (st [] Wants) all) refl h
  where
    at_end : (o : Option Tree) → outcome_at o ≡ Faulty x es → run (st [] Wants) all ≡ Failed x es
    at_end None k = cc
    at_end (Some u) k = cc

    go : (r : Run) → run (st [] Wants) all ≡ r → outcome r ≡ Faulty x es → run (st [] Wants) all ≡ Failed x es
    go (Reached s) e k = at_end (ended s) k
    go (Failed y ds) e k = let i : y ≡ x = cc in let j : ds ≡ es = cc in e ∙ (λ z. Failed (i z) (j z))

-- where such an operator stands, a fault is Ambiguous
pub ambiguous_if : (all cs : List Sym) (o : Oper) (x : Fault) → AmbiguousAt all cs o → is_prefix o.fixity ≡ false → read all ≡ Faulty x (Op o ∷ cs) → x ≡ Ambiguous
ambiguous_if all cs o x m n h =
    let r = stack_read all m.from (Waits m.earlier m.left ∷ m.frames) m.stack (span_begins (Part false m.form) m.from (Op o ∷ cs) m.operand m.spans) in
    let z = span_ends (Waits m.earlier m.left ∷ m.frames) false m.form m.operand m.from (Op o ∷ cs) m.fits m.spans in
    settled_level m.frames m.earlier m.left m.form m.operand z.last o x z.settled m.fits m.same (stack_admits all m.from m.frames m.earlier m.left m.stack) n
    (failed_first z.last (Op o) cs x (sym (r ∙ z.reaches) ∙ run_failed all x (Op o ∷ cs) h))

-- an ambiguous operator has such an operator before it
attach_ambiguous : (all ks cs : List Sym) (fs : List Frame) (f : Form) (t : Tree) (o : Oper) → Stack all fs ks → Spans (Part false f) ks (Op o ∷ cs) t → admits fs f ≡ true → attach fs t o ≡ Stops Ambiguous → AmbiguousAt all cs o
attach_ambiguous all ks cs fs f t o bottom d a h = absurd (takes_goes [] t o Ambiguous h)
attach_ambiguous all ks cs fs f t o (waits_left gs q g y js _ s e p' q' l' a') d a h = go (fits_right (By o.fixity o.number) q.fixity q.number)
    (fits_left (By q.fixity q.number) o.fixity o.number) refl refl h (λ i. attach_ambiguous all js cs gs (By q.fixity q.number) (binary q.spot y t) o
    s (span_between q p' q' l' a e d) a' i)
  where
    go : (b c : Bool) → fits_right (By o.fixity o.number) q.fixity q.number ≡ b → fits_left (By q.fixity q.number) o.fixity o.number ≡ c →
        (if b then takes (Waits q (Some y) ∷ gs) t o else (if c then attach gs (binary q.spot y t) o else Stops Ambiguous)) ≡ Stops Ambiguous →
        (attach gs (binary q.spot y t) o ≡ Stops Ambiguous → AmbiguousAt all cs o) → AmbiguousAt all cs o
    go true c i j k on = absurd (takes_goes (Waits q (Some y) ∷ gs) t o Ambiguous k)
    go false true i j k on = on k
    go false false i j k on = record { frames = gs; earlier = q; left = Some y; from = ks; form = f; operand = t; stack = waits_left gs q g y js ks s e p' q' l' a'; spans = d; fits = a; same = same_number q.fixity o.fixity q.number o.number i j }
attach_ambiguous all ks cs fs f t o (waits_first gs q _ s p' a') d a h = go (fits_right (By o.fixity o.number) q.fixity q.number)
    (fits_left (By q.fixity q.number) o.fixity o.number) refl refl h (λ i. attach_ambiguous all (Op q ∷ ks) cs gs (By q.fixity q.number)
    (App (Leaf q.spot) t) o s (span_before q p' a d) a' i)
  where
    go : (b c : Bool) → fits_right (By o.fixity o.number) q.fixity q.number ≡ b → fits_left (By q.fixity q.number) o.fixity o.number ≡ c →
        (if b then takes (Waits q None ∷ gs) t o else (if c then attach gs (App (Leaf q.spot) t) o else Stops Ambiguous)) ≡ Stops Ambiguous →
        (attach gs (App (Leaf q.spot) t) o ≡ Stops Ambiguous → AmbiguousAt all cs o) → AmbiguousAt all cs o
    go true c i j k on = absurd (takes_goes (Waits q None ∷ gs) t o Ambiguous k)
    go false true i j k on = on k
    go false false i j k on = record { frames = gs; earlier = q; left = None; from = ks; form = f; operand = t; stack = waits_first gs q ks s p' a'; spans = d; fits = a; same = same_number q.fixity o.fixity q.number o.number i j }
attach_ambiguous all ks cs fs f t o (binder gs v y fn js _ s e) d a h = absurd (takes_goes (Under v y fn ∷ gs) t o Ambiguous h)
attach_ambiguous all ks cs fs f t o (bracket gs fn js _ s e) d a h = absurd (takes_goes (Inside fn ∷ gs) t o Ambiguous h)
attach_ambiguous all ks cs fs f t o (item gs v fn done js bs _ s e i) d a h = go (is_item (By o.fixity o.number)) (separates o) h
  where
    go : (b c : Bool) → (if b then takes (Item v fn done ∷ gs) t o else (if c then at (Item o.spot fn ((v, t) ∷ done) ∷ gs) Wants else Stops Unexpected)) ≡ Stops Ambiguous → AmbiguousAt all cs o
    go true c k = absurd (takes_goes (Item v fn done ∷ gs) t o Ambiguous k)
    go false true k = cc
    go false false k = cc
attach_ambiguous all ks cs fs f t o (rest gs fn done js bs _ s e i) d a h = absurd (takes_goes (Tail fn done ∷ gs) t o Ambiguous h)

operator_ambiguous : (all ks cs : List Sym) (fs : List Frame) (f : Form) (t : Tree) (o : Oper) → Stack all fs ks → Spans (Part false f) ks (Op o ∷ cs) t → admits fs f ≡ true → operator fs f t o ≡ Stops Ambiguous → AmbiguousAt all cs o
operator_ambiguous all ks cs fs f t o s d a h = go (is_prefix o.fixity) (fits_left f o.fixity o.number) h
  where
    go : (b c : Bool) → (if b then Stops Unexpected else (if c then attach fs t o else Stops Unexpected)) ≡ Stops Ambiguous → AmbiguousAt all cs o
    go true c k = cc
    go false true k = attach_ambiguous all ks cs fs f t o s d a k
    go false false k = cc

pub prefixed_other : (fs : List Frame) (o : Oper) → prefixed fs o ≡ Stops Ambiguous → ⊥
prefixed_other fs o h = go (is_prefix o.fixity) (admits fs (By o.fixity o.number)) h
  where
    go : (b c : Bool) → (if b then (if c then at (Waits o None ∷ fs) Wants else Stops Unexpected) else Stops Unexpected) ≡ Stops Ambiguous → ⊥
    go true true k = cc
    go true false k = cc
    go false c k = cc

pub named_other : (fs : List Frame) (o q : Oper) → named_else fs o (Op q) ≡ Stops Ambiguous → ⊥
named_other fs o q h = go (is_prefix o.fixity) h
  where
    go : (b : Bool) → (if b then prefixed (Waits o None ∷ fs) q else Stops Unexpected) ≡ Stops Ambiguous → ⊥
    go true k = prefixed_other (Waits o None ∷ fs) q k
    go false k = cc

reads_ambiguous : (all cs : List Sym) (s : State) (o : Oper) → Reads all s (Op o ∷ cs) → step s (Op o) ≡ Stops Ambiguous → AmbiguousAt all cs o
reads_ambiguous all cs s o (at_operand fs _ k) h = absurd (prefixed_other fs o h)
reads_ambiguous all cs s o (at_bracket fs fn ks _ k e) h = cc
reads_ambiguous all cs s o (at_list fs v fn ks _ k e) h = absurd (prefixed_other (Item v fn [] ∷ fs) o h)
reads_ambiguous all cs s o (at_name fs fn q ks _ k e) h = absurd (named_other (Inside fn ∷ fs) q o h)
reads_ambiguous all cs s o (behind_term fs fn x w ks bs _ k e d i) h = operator_ambiguous all ks cs fs Whole (apply fn x) o k (with_before fn ks bs _ x e d) (admits_whole fs) h
reads_ambiguous all cs s o (behind_form fs f n t ks _ k d a z) h = operator_ambiguous all ks cs fs (By f n) t o k d a h

-- the reading of a text up to where a run of its front comes
sound_front : (all us cs : List Sym) (s q : State) → Reads all s (us ++ cs) → run s us ≡ Reached q → Reads all q cs
sound_front all [] cs s q r e = let f : s ≡ q = cc in subst (λ z. Reads all z cs) f r
sound_front all (c ∷ us) cs s q r e = go (λ z k h. sound_front all us cs z q k h) (step s c) refl (keeps_step all (us ++ cs) s c r)
  where
    go : ((z : State) → Reads all z (us ++ cs) → run z us ≡ Reached q → Reads all q cs) → (m : Move) → step s c ≡ m → Keeps all (us ++ cs) m → Reads all q cs
    go on (Goes z) h k = on z k (sym (run_step s c us z h) ∙ e)
    go on (Stops f) h k = let g : Failed f (c ∷ us) ≡ Reached q = sym (ap (go_on (λ u. run u us) c us) h) ∙ e in cc

-- an Ambiguous fault at an operator has one of its number before its operand
pub ambiguous_only : (all cs : List Sym) (o : Oper) → read all ≡ Faulty Ambiguous (Op o ∷ cs) → AmbiguousAt all cs o
ambiguous_only all cs o h =
    let r = failing (st [] Wants) all Ambiguous (Op o ∷ cs) (run_failed all Ambiguous (Op o ∷ cs) h) in
    let c : r.token ≡ Op o = same_head r.token (Op o) r.after cs (sym r.there) in
    reads_ambiguous all cs r.last o
    (sound_front all r.front (Op o ∷ cs) (st [] Wants) r.last (subst (Reads all (st [] Wants)) r.text (reads_first all)) r.reaches)
    (ap (step r.last) (sym c) ∙ r.stops)
  where
    same_head : (a b : Sym) (as' bs : List Sym) → a ∷ as' ≡ b ∷ bs → a ≡ b
    same_head a b as' bs e = cc

-- the reader comes to the operator
pub ambiguous_reached : (all cs : List Sym) (o : Oper) → AmbiguousAt all cs o → (s : State) × (run (st [] Wants) all ≡ run s (Op o ∷ cs))
ambiguous_reached all cs o m =
    let r = stack_read all m.from (Waits m.earlier m.left ∷ m.frames) m.stack (span_begins (Part false m.form) m.from (Op o ∷ cs) m.operand m.spans) in
    let z = span_ends (Waits m.earlier m.left ∷ m.frames) false m.form m.operand m.from (Op o ∷ cs) m.fits m.spans in
    (z.last, r ∙ z.reaches)
