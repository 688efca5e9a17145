-- What is read is in the grammar.
use Rattle.std.proofs.Common.{◌≡◌, ℕ, Bool, true, false, List, [], ◌∷◌, Option, Some, None, refl, sym, subst}
use Rattle.std.specs.Prelude.{if◌then◌else◌}
use Rattle.lp_standard.specs.declared.fixity.Fixity.{Fixity}
use Rattle.lp_syntax.specs.declared.symbol.Oper.{Oper}
use Rattle.lp_syntax.specs.declared.symbol.Sym.{Sym}
use Rattle.lp_syntax.specs.declared.symbol.Sym.TheVariants.{Word, Atom, Op, Opens, Closes, OpensList, ClosesList, Bar, Binds, Other}
use Rattle.lp_syntax.specs.Symbols.{Tree, Leaf, Nil, App, Lam, Form, Whole, By, is_prefix, is_postfix, fits_left, fits_right, is_item, apply, binary, cons, separates}
use Rattle.lp_syntax.specs.Grammar.{Single, Part, Items}
use Rattle.lp_syntax.specs.Machine.{Frame, Waits, Under, Inside, Item, Tail, Wants, Fresh, FreshList, Named, Has, Formed, State, st, Goes, Stops, Move, admits, takes, attach, close, begins, prefixed, wants, fresh, fresh_list, named_else, is_named, binds, operator, has, formed, step, wrap}
use Rattle.lp_syntax.proofs.Settled.{admits_whole}
use Rattle.lp_syntax.specs.Opened.{Spans, Before, ItemsBefore, items_first, items_next, TailBefore, tail_first, Stack, bottom, waits_left, waits_first, binder, bracket, item, rest}
use Rattle.lp_syntax.proofs.Spans.{span_word, span_atom, span_named, span_empty, span_parens, span_listed, span_last, span_tail, span_more, span_single, span_applied, span_abstracted, span_bound, span_between, span_before, span_behind}

items_on : (v : ℕ) (done : List (ℕ × Tree)) (bs cs ds : List Sym) (u : Tree) → ItemsBefore v done bs cs → Spans (Items v) cs ds u → Spans Single bs ds (wrap done u)
items_on v done bs cs ds u (items_first _ _) e = span_listed e
items_on v done bs cs ds u (items_next w o is f _ ks _ t q i h d) e = items_on w is bs ks ds (cons w t u) h (span_more w o q i d e)

tail_on : (done : List (ℕ × Tree)) (bs cs : List Sym) (c : ℕ) (ds : List Sym) (b : Bool) (f : Form) (u : Tree) → TailBefore done bs cs → Spans (Part b f) cs (ClosesList c ∷ ds) u → Spans Single bs ds (wrap done u)
tail_on done bs cs c ds b f u (tail_first v is b' f' _ ks _ t i h d) e = items_on v is bs ks ds (cons v t u) h (span_tail v c i d e)

abbrev pub IsBare : Option ℕ → List Sym → List Sym → Type 0
IsBare None bs cs = Unit {0}
IsBare (Some v) bs cs = bs ≡ Word v ∷ cs

-- a state has read a text up to a place
pub data Reads (all : List Sym) : State → List Sym → Type 0 where
  at_operand : (fs : List Frame) (cs : List Sym) → Stack all fs cs → Reads all (st fs Wants) cs
  at_bracket : (fs : List Frame) (fn : Option Tree) (ks cs : List Sym) → Stack all fs ks → Before fn ks (Opens ∷ cs) → Reads all (st (Inside fn ∷ fs) Fresh) cs
  at_list : (fs : List Frame) (v : ℕ) (fn : Option Tree) (ks cs : List Sym) → Stack all fs ks → Before fn ks (OpensList v ∷ cs) → Reads all (st (Item v fn [] ∷ fs) FreshList) cs
  at_name : (fs : List Frame) (fn : Option Tree) (o : Oper) (ks cs : List Sym) → Stack all fs ks → Before fn ks (Opens ∷ Op o ∷ cs) → Reads all (st (Inside fn ∷ fs) (Named o)) cs
  behind_term : (fs : List Frame) (fn : Option Tree) (x : Tree) (w : Option ℕ) (ks bs cs : List Sym) → Stack all fs ks → Before fn ks bs → Spans Single bs cs x → IsBare w bs cs → Reads all (st fs (Has fn x w)) cs
  behind_form : (fs : List Frame) (f : Fixity) (n : ℕ) (t : Tree) (ks cs : List Sym) → Stack all fs ks → Spans (Part false (By f n)) ks cs t → admits fs (By f n) ≡ true → is_postfix f ≡ true → Reads all (st fs (Formed f n t)) cs

abbrev pub Keeps : List Sym → List Sym → Move → Type 0
Keeps all cs (Goes s) = Reads all s cs
Keeps all cs (Stops f) = Unit {0}

pub with_before : (fn : Option Tree) (ks bs cs : List Sym) (x : Tree) → Before fn ks bs → Spans Single bs cs x → Spans (Part false Whole) ks cs (apply fn x)
with_before None ks bs cs x e d = span_single (subst (λ l. Spans Single l cs x) (sym e) d)
with_before (Some f) ks bs cs x e d = span_applied e d

pub with_binder : (fn : Option Tree) (v : ℕ) (y : Option ℕ) (b : Bool) (f : Form) (ks bs cs : List Sym) (t : Tree) → Before fn ks (Word v ∷ Binds y ∷ bs) → Spans (Part b f) bs cs t → Spans (Part true Whole) ks cs (apply fn (Lam v y t))
with_binder None v y b f ks bs cs t e d = subst (λ l. Spans (Part true Whole) l cs (Lam v y t)) (sym e) (span_abstracted v y d)
with_binder (Some g) v y b f ks bs cs t e d = span_bound v y e d

keeps_if : (all cs : List Sym) (t : Bool) (a b : Move) → (t ≡ true → Keeps all cs a) → (t ≡ false → Keeps all cs b) → Keeps all cs (if t then a else b)
keeps_if all cs true a b h k = h refl
keeps_if all cs false a b h k = k refl

keeps_takes : (all ks cs : List Sym) (fs : List Frame) (f : Form) (t : Tree) (o : Oper) → Stack all fs ks → Spans (Part false f) ks (Op o ∷ cs) t → is_prefix o.fixity ≡ false → fits_left f o.fixity o.number ≡ true → admits fs (By o.fixity o.number) ≡ true → Keeps all cs (takes fs t o)
keeps_takes all ks cs fs f t o s d p l a =
    keeps_if all cs (is_postfix o.fixity) _ _
    (λ q. behind_form fs o.fixity o.number (App (Leaf o.spot) t) ks cs s (span_behind o q l d) a q)
    (λ q. at_operand (Waits o (Some t) ∷ fs) cs (waits_left fs o f t ks cs s d p q l a))

keeps_attach : (all ks cs : List Sym) (fs : List Frame) (f : Form) (t : Tree) (o : Oper) → Stack all fs ks → Spans (Part false f) ks (Op o ∷ cs) t → is_prefix o.fixity ≡ false → fits_left f o.fixity o.number ≡ true → admits fs f ≡ true → Keeps all cs (attach fs t o)
keeps_attach all ks cs fs f t o bottom d p l a = keeps_takes all ks cs [] f t o bottom d p l refl
keeps_attach all ks cs fs f t o (waits_left gs q g x js _ s e p' q' l' a') d p l a =
    keeps_if all cs (fits_right (By o.fixity o.number) q.fixity q.number) _ _
    (λ h. keeps_takes all ks cs (Waits q (Some x) ∷ gs) f t o (waits_left gs q g x js ks s e p' q' l' a') d p l h)
    (λ h. keeps_if all cs (fits_left (By q.fixity q.number) o.fixity o.number) _ _
    (λ k. keeps_attach all js cs gs (By q.fixity q.number) (binary q.spot x t) o s (span_between q p' q' l' a e d) p k a')
    (λ k. tt))
keeps_attach all ks cs fs f t o (waits_first gs q _ s p' a') d p l a =
    keeps_if all cs (fits_right (By o.fixity o.number) q.fixity q.number) _ _
    (λ h. keeps_takes all ks cs (Waits q None ∷ gs) f t o (waits_first gs q ks s p' a') d p l h)
    (λ h. keeps_if all cs (fits_left (By q.fixity q.number) o.fixity o.number) _ _
    (λ k. keeps_attach all (Op q ∷ ks) cs gs (By q.fixity q.number) (App (Leaf q.spot) t) o s (span_before q p' a d) p k a')
    (λ k. tt))
keeps_attach all ks cs fs f t o (binder gs v y fn js _ s e) d p l a = keeps_takes all ks cs (Under v y fn ∷ gs) f t o (binder gs v y fn js ks s e) d p l refl
keeps_attach all ks cs fs f t o (bracket gs fn js _ s e) d p l a = keeps_takes all ks cs (Inside fn ∷ gs) f t o (bracket gs fn js ks s e) d p l refl
keeps_attach all ks cs fs f t o (item gs v fn done js bs _ s e h) d p l a =
    keeps_if all cs (is_item (By o.fixity o.number)) _ _
    (λ i. keeps_takes all ks cs (Item v fn done ∷ gs) f t o (item gs v fn done js bs ks s e h) d p l i)
    (λ i. keeps_if all cs (separates o) _ _
    (λ q. at_operand (Item o.spot fn ((v, t) ∷ done) ∷ gs) cs (item gs o.spot fn ((v, t) ∷ done) js bs cs s e (items_next v o done f bs ks cs t q a h d)))
    (λ q. tt))
keeps_attach all ks cs fs f t o (rest gs fn done js bs _ s e h) d p l a = keeps_takes all ks cs (Tail fn done ∷ gs) f t o (rest gs fn done js bs ks s e h) d p l refl

keeps_close : (all ks cs : List Sym) (fs : List Frame) (b : Bool) (f : Form) (t : Tree) (c : Sym) → Stack all fs ks → Spans (Part b f) ks (c ∷ cs) t → admits fs f ≡ true → Keeps all cs (close fs t c)
keeps_close all ks cs fs b f t c bottom d a = tt
keeps_close all ks cs fs b f t c (waits_left gs q g x js _ s e p' q' l' a') d a = keeps_close all js cs gs b (By q.fixity q.number) (binary q.spot x t) c s (span_between q p' q' l' a e d) a'
keeps_close all ks cs fs b f t c (waits_first gs q _ s p' a') d a = keeps_close all (Op q ∷ ks) cs gs b (By q.fixity q.number) (App (Leaf q.spot) t) c s (span_before q p' a d) a'
keeps_close all ks cs fs b f t c (binder gs v y fn js _ s e) d a = keeps_close all js cs gs true Whole (apply fn (Lam v y t)) c s (with_binder fn v y b f js ks _ t e d) (admits_whole gs)
keeps_close all ks cs fs b f t Closes (bracket gs fn js _ s e) d a = behind_term gs fn t None js (Opens ∷ ks) cs s e (span_parens d) tt
keeps_close all ks cs fs b f t (ClosesList c) (item gs v fn done js bs _ s e h) d a = behind_term gs fn (wrap ((v, t) ∷ done) (Nil c)) None js bs cs s e (items_on v done bs ks cs _ h (span_last v c a d)) tt
keeps_close all ks cs fs b f t Bar (item gs v fn done js bs _ s e h) d a = at_operand (Tail fn ((v, t) ∷ done) ∷ gs) cs (rest gs fn ((v, t) ∷ done) js bs cs s e (tail_first v done b f bs ks cs t a h d))
keeps_close all ks cs fs b f t (ClosesList c) (rest gs fn done js bs _ s e h) d a = behind_term gs fn (wrap done t) None js bs cs s e (tail_on done bs ks c cs b f t h d) tt
keeps_close all ks cs fs b f t c (bracket gs fn js _ s e) d a = tt
keeps_close all ks cs fs b f t c (item gs v fn done js bs _ s e h) d a = tt
keeps_close all ks cs fs b f t c (rest gs fn done js bs _ s e h) d a = tt

keeps_begins : (all ks cs : List Sym) (fs : List Frame) (fn : Option Tree) (c : Sym) → Stack all fs ks → Before fn ks (c ∷ cs) → Keeps all cs (begins fs fn c)
keeps_begins all ks cs fs fn (Word v) s e = behind_term fs fn (Leaf v) (Some v) ks (Word v ∷ cs) cs s e (span_word v cs) refl
keeps_begins all ks cs fs fn (Atom v) s e = behind_term fs fn (Leaf v) None ks (Atom v ∷ cs) cs s e (span_atom v cs) tt
keeps_begins all ks cs fs fn Opens s e = at_bracket fs fn ks cs s e
keeps_begins all ks cs fs fn (OpensList v) s e = at_list fs v fn ks cs s e
keeps_begins all ks cs fs fn (Op o) s e = tt
keeps_begins all ks cs fs fn Closes s e = tt
keeps_begins all ks cs fs fn (ClosesList v) s e = tt
keeps_begins all ks cs fs fn Bar s e = tt
keeps_begins all ks cs fs fn (Binds y) s e = tt
keeps_begins all ks cs fs fn Other s e = tt

keeps_prefixed : (all cs : List Sym) (fs : List Frame) (o : Oper) → Stack all fs (Op o ∷ cs) → Keeps all cs (prefixed fs o)
keeps_prefixed all cs fs o s =
    keeps_if all cs (is_prefix o.fixity) _ _
    (λ p. keeps_if all cs (admits fs (By o.fixity o.number)) _ _ (λ a. at_operand (Waits o None ∷ fs) cs (waits_first fs o cs s p a)) (λ a. tt))
    (λ p. tt)

keeps_wants : (all cs : List Sym) (fs : List Frame) (c : Sym) → Stack all fs (c ∷ cs) → Keeps all cs (wants fs c)
keeps_wants all cs fs (Op o) s = keeps_prefixed all cs fs o s
keeps_wants all cs fs (Word v) s = keeps_begins all _ cs fs None (Word v) s refl
keeps_wants all cs fs (Atom v) s = keeps_begins all _ cs fs None (Atom v) s refl
keeps_wants all cs fs Opens s = keeps_begins all _ cs fs None Opens s refl
keeps_wants all cs fs (OpensList v) s = keeps_begins all _ cs fs None (OpensList v) s refl
keeps_wants all cs fs Closes s = tt
keeps_wants all cs fs (ClosesList v) s = tt
keeps_wants all cs fs Bar s = tt
keeps_wants all cs fs (Binds y) s = tt
keeps_wants all cs fs Other s = tt

keeps_fresh : (all ks cs : List Sym) (fs : List Frame) (fn : Option Tree) (c : Sym) → Stack all fs ks → Before fn ks (Opens ∷ c ∷ cs) → Keeps all cs (fresh (Inside fn ∷ fs) c)
keeps_fresh all ks cs fs fn (Op o) s e = at_name fs fn o ks cs s e
keeps_fresh all ks cs fs fn (Word v) s e = keeps_begins all _ cs (Inside fn ∷ fs) None (Word v) (bracket fs fn ks _ s e) refl
keeps_fresh all ks cs fs fn (Atom v) s e = keeps_begins all _ cs (Inside fn ∷ fs) None (Atom v) (bracket fs fn ks _ s e) refl
keeps_fresh all ks cs fs fn Opens s e = keeps_begins all _ cs (Inside fn ∷ fs) None Opens (bracket fs fn ks _ s e) refl
keeps_fresh all ks cs fs fn (OpensList v) s e = keeps_begins all _ cs (Inside fn ∷ fs) None (OpensList v) (bracket fs fn ks _ s e) refl
keeps_fresh all ks cs fs fn Closes s e = tt
keeps_fresh all ks cs fs fn (ClosesList v) s e = tt
keeps_fresh all ks cs fs fn Bar s e = tt
keeps_fresh all ks cs fs fn (Binds y) s e = tt
keeps_fresh all ks cs fs fn Other s e = tt

keeps_fresh_list : (all ks cs : List Sym) (fs : List Frame) (v : ℕ) (fn : Option Tree) (c : Sym) → Stack all fs ks → Before fn ks (OpensList v ∷ c ∷ cs) → Keeps all cs (fresh_list (Item v fn [] ∷ fs) c)
keeps_fresh_list all ks cs fs v fn (ClosesList d) s e = behind_term fs fn (Nil d) None ks (OpensList v ∷ ClosesList d ∷ cs) cs s e (span_empty v d cs) tt
keeps_fresh_list all ks cs fs v fn (Op o) s e = keeps_wants all cs (Item v fn [] ∷ fs) (Op o) (item fs v fn [] ks _ _ s e (items_first v _))
keeps_fresh_list all ks cs fs v fn (Word w) s e = keeps_wants all cs (Item v fn [] ∷ fs) (Word w) (item fs v fn [] ks _ _ s e (items_first v _))
keeps_fresh_list all ks cs fs v fn (Atom w) s e = keeps_wants all cs (Item v fn [] ∷ fs) (Atom w) (item fs v fn [] ks _ _ s e (items_first v _))
keeps_fresh_list all ks cs fs v fn Opens s e = keeps_wants all cs (Item v fn [] ∷ fs) Opens (item fs v fn [] ks _ _ s e (items_first v _))
keeps_fresh_list all ks cs fs v fn (OpensList w) s e = keeps_wants all cs (Item v fn [] ∷ fs) (OpensList w) (item fs v fn [] ks _ _ s e (items_first v _))
keeps_fresh_list all ks cs fs v fn Closes s e = tt
keeps_fresh_list all ks cs fs v fn Bar s e = tt
keeps_fresh_list all ks cs fs v fn (Binds y) s e = tt
keeps_fresh_list all ks cs fs v fn Other s e = tt

keeps_named : (all ks cs : List Sym) (fs : List Frame) (fn : Option Tree) (o : Oper) (c : Sym) → Stack all fs ks → Before fn ks (Opens ∷ Op o ∷ c ∷ cs) → Keeps all cs (named_else (Inside fn ∷ fs) o c)
keeps_named all ks cs fs fn o c s e =
    keeps_if all cs (is_prefix o.fixity) _ _
    (λ p. keeps_wants all cs (Waits o None ∷ Inside fn ∷ fs) c (waits_first (Inside fn ∷ fs) o (c ∷ cs) (bracket fs fn ks _ s e) p refl))
    (λ p. tt)

keeps_is_named : (all ks cs : List Sym) (fs : List Frame) (fn : Option Tree) (o : Oper) (c : Sym) → Stack all fs ks → Before fn ks (Opens ∷ Op o ∷ c ∷ cs) → Keeps all cs (is_named (Inside fn ∷ fs) o c)
keeps_is_named all ks cs fs fn o Closes s e = behind_term fs fn (Leaf o.spot) None ks (Opens ∷ Op o ∷ Closes ∷ cs) cs s e (span_named o cs) tt
keeps_is_named all ks cs fs fn o (Op q) s e = keeps_named all ks cs fs fn o (Op q) s e
keeps_is_named all ks cs fs fn o (Word v) s e = keeps_named all ks cs fs fn o (Word v) s e
keeps_is_named all ks cs fs fn o (Atom v) s e = keeps_named all ks cs fs fn o (Atom v) s e
keeps_is_named all ks cs fs fn o Opens s e = keeps_named all ks cs fs fn o Opens s e
keeps_is_named all ks cs fs fn o (OpensList v) s e = keeps_named all ks cs fs fn o (OpensList v) s e
keeps_is_named all ks cs fs fn o (ClosesList v) s e = keeps_named all ks cs fs fn o (ClosesList v) s e
keeps_is_named all ks cs fs fn o Bar s e = keeps_named all ks cs fs fn o Bar s e
keeps_is_named all ks cs fs fn o (Binds y) s e = keeps_named all ks cs fs fn o (Binds y) s e
keeps_is_named all ks cs fs fn o Other s e = keeps_named all ks cs fs fn o Other s e

keeps_operator : (all ks cs : List Sym) (fs : List Frame) (f : Form) (t : Tree) (o : Oper) → Stack all fs ks → Spans (Part false f) ks (Op o ∷ cs) t → admits fs f ≡ true → Keeps all cs (operator fs f t o)
keeps_operator all ks cs fs f t o s d a =
    keeps_if all cs (is_prefix o.fixity) _ _ (λ p. tt)
    (λ p. keeps_if all cs (fits_left f o.fixity o.number) _ _ (λ l. keeps_attach all ks cs fs f t o s d p l a) (λ l. tt))

keeps_binds : (all ks bs cs : List Sym) (fs : List Frame) (fn : Option Tree) (w y : Option ℕ) → Stack all fs ks → Before fn ks bs → IsBare w bs (Binds y ∷ cs) → Keeps all cs (binds fs fn w y)
keeps_binds all ks bs cs fs fn None y s e h = tt
keeps_binds all ks bs cs fs fn (Some v) y s e h = at_operand (Under v y fn ∷ fs) cs (binder fs v y fn ks cs s (subst (Before fn ks) h e))

keeps_has : (all ks bs cs : List Sym) (fs : List Frame) (fn : Option Tree) (x : Tree) (w : Option ℕ) (c : Sym) → Stack all fs ks → Before fn ks bs → Spans Single bs (c ∷ cs) x → IsBare w bs (c ∷ cs) → Keeps all cs (has fs fn x w c)
keeps_has all ks bs cs fs fn x w (Op o) s e d h = keeps_operator all ks cs fs Whole (apply fn x) o s (with_before fn ks bs _ x e d) (admits_whole fs)
keeps_has all ks bs cs fs fn x w (Binds y) s e d h = keeps_binds all ks bs cs fs fn w y s e h
keeps_has all ks bs cs fs fn x w Closes s e d h = keeps_close all ks cs fs false Whole (apply fn x) Closes s (with_before fn ks bs _ x e d) (admits_whole fs)
keeps_has all ks bs cs fs fn x w (ClosesList v) s e d h = keeps_close all ks cs fs false Whole (apply fn x) (ClosesList v) s (with_before fn ks bs _ x e d) (admits_whole fs)
keeps_has all ks bs cs fs fn x w Bar s e d h = keeps_close all ks cs fs false Whole (apply fn x) Bar s (with_before fn ks bs _ x e d) (admits_whole fs)
keeps_has all ks bs cs fs fn x w (Word v) s e d h = keeps_begins all ks cs fs (Some (apply fn x)) (Word v) s (with_before fn ks bs _ x e d)
keeps_has all ks bs cs fs fn x w (Atom v) s e d h = keeps_begins all ks cs fs (Some (apply fn x)) (Atom v) s (with_before fn ks bs _ x e d)
keeps_has all ks bs cs fs fn x w Opens s e d h = keeps_begins all ks cs fs (Some (apply fn x)) Opens s (with_before fn ks bs _ x e d)
keeps_has all ks bs cs fs fn x w (OpensList v) s e d h = keeps_begins all ks cs fs (Some (apply fn x)) (OpensList v) s (with_before fn ks bs _ x e d)
keeps_has all ks bs cs fs fn x w Other s e d h = tt

keeps_formed : (all ks cs : List Sym) (fs : List Frame) (f : Fixity) (n : ℕ) (t : Tree) (c : Sym) → Stack all fs ks → Spans (Part false (By f n)) ks (c ∷ cs) t → admits fs (By f n) ≡ true → Keeps all cs (formed fs f n t c)
keeps_formed all ks cs fs f n t (Op o) s d a = keeps_operator all ks cs fs (By f n) t o s d a
keeps_formed all ks cs fs f n t Closes s d a = keeps_close all ks cs fs false (By f n) t Closes s d a
keeps_formed all ks cs fs f n t (ClosesList v) s d a = keeps_close all ks cs fs false (By f n) t (ClosesList v) s d a
keeps_formed all ks cs fs f n t Bar s d a = keeps_close all ks cs fs false (By f n) t Bar s d a
keeps_formed all ks cs fs f n t (Word v) s d a = tt
keeps_formed all ks cs fs f n t (Atom v) s d a = tt
keeps_formed all ks cs fs f n t Opens s d a = tt
keeps_formed all ks cs fs f n t (OpensList v) s d a = tt
keeps_formed all ks cs fs f n t (Binds y) s d a = tt
keeps_formed all ks cs fs f n t Other s d a = tt

-- each step keeps it
pub keeps_step : (all cs : List Sym) (s : State) (c : Sym) → Reads all s (c ∷ cs) → Keeps all cs (step s c)
keeps_step all cs s c (at_operand fs _ k) = keeps_wants all cs fs c k
keeps_step all cs s c (at_bracket fs fn ks _ k e) = keeps_fresh all ks cs fs fn c k e
keeps_step all cs s c (at_list fs v fn ks _ k e) = keeps_fresh_list all ks cs fs v fn c k e
keeps_step all cs s c (at_name fs fn o ks _ k e) = keeps_is_named all ks cs fs fn o c k e
keeps_step all cs s c (behind_term fs fn x w ks bs _ k e d h) = keeps_has all ks bs cs fs fn x w c k e d h
keeps_step all cs s c (behind_form fs f n t ks _ k d a z) = keeps_formed all ks cs fs f n t c k d a
