-- The rules of the grammar, for what stands between two places of a text.
use Rattle.std.proofs.Common.{◌≡◌, ℕ, Bool, true, false, List, [], ◌∷◌, ◌++◌, refl, sym, ap, ◌∙◌, append_assoc, Option}
use Rattle.lp_syntax.specs.declared.symbol.Oper.{Oper}
use Rattle.lp_syntax.specs.declared.symbol.Sym.{Sym}
use Rattle.lp_syntax.specs.declared.symbol.Sym.TheVariants.{Word, Atom, Op, Opens, Closes, OpensList, ClosesList, Bar, Binds}
use Rattle.lp_syntax.specs.Symbols.{Tree, Leaf, Nil, App, Lam, Form, Whole, By, is_prefix, is_postfix, fits_left, fits_right, is_item, binary, cons, separates}
use Rattle.lp_syntax.specs.Opened.{Spans}
use Rattle.lp_syntax.specs.Grammar.{Kind, Single, Part, Items, Derives, word, atom, parens, named, empty, listed, last, tail, more, single, applied, abstracted, bound, between, before, behind}

span : (k : Kind) (ks bs : List Sym) (t : Tree) (ts : List Sym) → ks ≡ ts ++ bs → Derives k ts t → Spans k ks bs t
span k ks bs t ts e d = record { tokens = ts; are = e; derives = d }

-- tokens in a row
joined : {ks bs : List Sym} (cs ts us : List Sym) → ks ≡ ts ++ bs → bs ≡ us ++ cs → ks ≡ (ts ++ us) ++ cs
joined cs ts us e f = e ∙ ap (λ l. ts ++ l) f ∙ sym (append_assoc ts us cs)

pub span_word : (v : ℕ) (cs : List Sym) → Spans Single (Word v ∷ cs) cs (Leaf v)
span_word v cs = span _ _ _ _ (Word v ∷ []) refl (word v)

pub span_atom : (v : ℕ) (cs : List Sym) → Spans Single (Atom v ∷ cs) cs (Leaf v)
span_atom v cs = span _ _ _ _ (Atom v ∷ []) refl (atom v)

pub span_named : (o : Oper) (cs : List Sym) → Spans Single (Opens ∷ Op o ∷ Closes ∷ cs) cs (Leaf o.spot)
span_named o cs = span _ _ _ _ (Opens ∷ Op o ∷ Closes ∷ []) refl (named o)

pub span_empty : (v c : ℕ) (cs : List Sym) → Spans Single (OpensList v ∷ ClosesList c ∷ cs) cs (Nil c)
span_empty v c cs = span _ _ _ _ (OpensList v ∷ ClosesList c ∷ []) refl (empty v c)

pub span_parens : {b : Bool} {f : Form} {ks cs : List Sym} {t : Tree} → Spans (Part b f) ks (Closes ∷ cs) t → Spans Single (Opens ∷ ks) cs t
span_parens d = span _ _ _ _ (Opens ∷ d.tokens ++ Closes ∷ []) (ap (λ l. Opens ∷ l) (joined _ d.tokens (Closes ∷ []) d.are refl)) (parens _ _ _ _ d.derives)

pub span_listed : {v : ℕ} {ks cs : List Sym} {t : Tree} → Spans (Items v) ks cs t → Spans Single (OpensList v ∷ ks) cs t
span_listed {v = v} d = span _ _ _ _ (OpensList v ∷ d.tokens) (ap (λ l. OpensList v ∷ l) d.are) (listed _ _ _ d.derives)

pub span_last : {b : Bool} {f : Form} {ks cs : List Sym} {t : Tree} (v c : ℕ) → is_item f ≡ true → Spans (Part b f) ks (ClosesList c ∷ cs) t → Spans (Items v) ks cs (cons v t (Nil c))
span_last v c i d = span _ _ _ _ (d.tokens ++ ClosesList c ∷ []) (joined _ d.tokens (ClosesList c ∷ []) d.are refl) (last v c _ _ _ _ i d.derives)

pub span_tail : {b b' : Bool} {f f' : Form} {ks bs cs : List Sym} {t u : Tree} (v c : ℕ) → is_item f ≡ true → Spans (Part b f) ks (Bar ∷ bs) t → Spans (Part b' f') bs (ClosesList c ∷ cs) u → Spans (Items v) ks cs (cons v t u)
span_tail v c i d e = span _ _ _ _ (d.tokens ++ Bar ∷ (e.tokens ++ ClosesList c ∷ [])) (joined _ d.tokens (Bar ∷ (e.tokens ++ ClosesList c ∷ [])) d.are (ap (λ l. Bar ∷ l) (joined _ e.tokens (ClosesList c ∷ []) e.are refl))) (tail v c _ _ _ _ _ _ _ _ i d.derives e.derives)

pub span_more : {f : Form} {ks bs cs : List Sym} {t u : Tree} (v : ℕ) (o : Oper) → separates o ≡ true → is_item f ≡ true → Spans (Part false f) ks (Op o ∷ bs) t → Spans (Items o.spot) bs cs u → Spans (Items v) ks cs (cons v t u)
span_more v o q i d e = span _ _ _ _ (d.tokens ++ Op o ∷ e.tokens) (joined _ d.tokens (Op o ∷ e.tokens) d.are (ap (λ l. Op o ∷ l) e.are)) (more v o _ _ _ _ _ q i d.derives e.derives)

pub span_single : {ks cs : List Sym} {t : Tree} → Spans Single ks cs t → Spans (Part false Whole) ks cs t
span_single d = span _ _ _ _ d.tokens d.are (single _ _ d.derives)

pub span_applied : {ks bs cs : List Sym} {t u : Tree} → Spans (Part false Whole) ks bs t → Spans Single bs cs u → Spans (Part false Whole) ks cs (App t u)
span_applied d e = span _ _ _ _ (d.tokens ++ e.tokens) (joined _ d.tokens e.tokens d.are e.are) (applied _ _ _ _ d.derives e.derives)

pub span_abstracted : {b : Bool} {f : Form} {ks cs : List Sym} {t : Tree} (v : ℕ) (y : Option ℕ) → Spans (Part b f) ks cs t → Spans (Part true Whole) (Word v ∷ Binds y ∷ ks) cs (Lam v y t)
span_abstracted v y d = span _ _ _ _ (Word v ∷ Binds y ∷ d.tokens) (ap (λ l. Word v ∷ Binds y ∷ l) d.are) (abstracted v y _ _ _ _ d.derives)

pub span_bound : {b : Bool} {f : Form} {ks bs cs : List Sym} {t u : Tree} (v : ℕ) (y : Option ℕ) → Spans (Part false Whole) ks (Word v ∷ Binds y ∷ bs) t → Spans (Part b f) bs cs u → Spans (Part true Whole) ks cs (App t (Lam v y u))
span_bound v y d e = span _ _ _ _ (d.tokens ++ Word v ∷ Binds y ∷ e.tokens) (joined _ d.tokens (Word v ∷ Binds y ∷ e.tokens) d.are (ap (λ l. Word v ∷ Binds y ∷ l) e.are)) (bound v y _ _ _ _ _ _ d.derives e.derives)

pub span_between : {b : Bool} {f g : Form} {ks bs cs : List Sym} {t u : Tree} (o : Oper) → is_prefix o.fixity ≡ false → is_postfix o.fixity ≡ false →
    fits_left f o.fixity o.number ≡ true → fits_right g o.fixity o.number ≡ true → Spans (Part false f) ks (Op o ∷ bs) t → Spans (Part b g) bs cs u →
    Spans (Part b (By o.fixity o.number)) ks cs (binary o.spot t u)
span_between o p q l m d e = span _ _ _ _ (d.tokens ++ Op o ∷ e.tokens) (joined _ d.tokens (Op o ∷ e.tokens) d.are (ap (λ l. Op o ∷ l) e.are)) (between o _ _ _ _ _ _ _ p q l m d.derives e.derives)

pub span_before : {b : Bool} {f : Form} {ks cs : List Sym} {t : Tree} (o : Oper) → is_prefix o.fixity ≡ true → fits_right f o.fixity o.number ≡ true → Spans (Part b f) ks cs t → Spans (Part b (By o.fixity o.number)) (Op o ∷ ks) cs (App (Leaf o.spot) t)
span_before o p m d = span _ _ _ _ (Op o ∷ d.tokens) (ap (λ l. Op o ∷ l) d.are) (before o _ _ _ _ p m d.derives)

pub span_behind : {f : Form} {ks cs : List Sym} {t : Tree} (o : Oper) → is_postfix o.fixity ≡ true → fits_left f o.fixity o.number ≡ true → Spans (Part false f) ks (Op o ∷ cs) t → Spans (Part false (By o.fixity o.number)) ks cs (App (Leaf o.spot) t)
span_behind o q l d = span _ _ _ _ (d.tokens ++ Op o ∷ []) (joined _ d.tokens (Op o ∷ []) d.are refl) (behind o _ _ _ q l d.derives)
