-- What the grammar gives is read.
use Rattle.std.proofs.Common.{◌≡◌, ℕ, Bool, true, false, ◌&&◌, List, [], ◌∷◌, ◌++◌, Option, Some, None, refl, sym, ap, ◌∙◌, append_assoc}
use Rattle.std.proofs.lemmas.Bool.{and_parts, false≢true}
use Rattle.lp_standard.specs.declared.fixity.Fixity.{Fixity}
use Rattle.lp_standard.specs.declared.fixity.Fixity.TheVariants.{Infix, Infixl, Infixr, Prefix, Prefixr, Postfix, Postfixl}
use Rattle.lp_syntax.specs.declared.symbol.Oper.{Oper}
use Rattle.lp_syntax.specs.declared.symbol.Sym.{Sym}
use Rattle.lp_syntax.specs.declared.symbol.Sym.TheVariants.{Word, Atom, Op, Opens, Closes, OpensList, ClosesList, Bar, Binds, Other}
use Rattle.lp_syntax.specs.Symbols.{Tree, Leaf, Nil, App, Lam, Form, Whole, By, is_prefix, is_postfix, fits_left, fits_right, is_item, binary, cons, separates}
use Rattle.lp_syntax.specs.Grammar.{Kind, Single, Part, Items, Derives, word, atom, parens, named, empty, listed, last, tail, more, single, applied, abstracted, bound, between, before, behind}
use Rattle.lp_syntax.specs.Machine.{Frame, Waits, Under, Inside, Item, Tail, Wants, Fresh, FreshList, Named, Has, Formed, State, st, at, Goes, admits, takes, attach, step, go_on, run, wrap}
use Rattle.lp_syntax.proofs.Fitting.{item_comma, comma_no_item, separates_is}
use Rattle.lp_syntax.proofs.Settled.{Settled, has_term, has_form, waiting, under, step_operator, step_close, EndBracket, EndList, EndBar, Starts, starts_wants, starts_term, admits_left, attach_admitted}

-- one step of a run
pub run_step : (s : State) (c : Sym) (cs : List Sym) (t : State) → step s c ≡ Goes t → run s (c ∷ cs) ≡ run t cs
run_step s c cs t h = ap (go_on (λ u. run u cs) c cs) h

-- what a term may begin with
abbrev starts : Sym → Bool
starts (Word s) = true
starts (Atom s) = true
starts (Op o) = true
starts Opens = true
starts (OpensList s) = true
starts _ = false

abbrev pub begins_well : List Sym → Bool
begins_well [] = false
begins_well (Op o ∷ []) = false
begins_well (Op o ∷ d ∷ ds) = is_prefix o.fixity && starts d
begins_well (c ∷ cs) = starts c

pub begins_more : (ts us : List Sym) → begins_well ts ≡ true → begins_well (ts ++ us) ≡ true
begins_more [] us h = absurd (false≢true h)
begins_more (Op o ∷ []) us h = absurd (false≢true h)
begins_more (Op o ∷ d ∷ ds) us h = h
begins_more (Word s ∷ cs) us h = h
begins_more (Atom s ∷ cs) us h = h
begins_more (Opens ∷ cs) us h = h
begins_more (OpensList s ∷ cs) us h = h
begins_more (Closes ∷ cs) us h = h
begins_more (ClosesList s ∷ cs) us h = h
begins_more (Bar ∷ cs) us h = h
begins_more (Binds y ∷ cs) us h = h
begins_more (Other ∷ cs) us h = h

pub begins_op : (o : Oper) (ts : List Sym) → is_prefix o.fixity ≡ true → begins_well ts ≡ true → begins_well (Op o ∷ ts) ≡ true
begins_op o [] p h = absurd (false≢true h)
begins_op o (Op q ∷ []) p h = absurd (false≢true h)
begins_op o (Op q ∷ d ∷ ds) p h = rw p refl
begins_op o (Word s ∷ cs) p h = rw p refl
begins_op o (Atom s ∷ cs) p h = rw p refl
begins_op o (Opens ∷ cs) p h = rw p refl
begins_op o (OpensList s ∷ cs) p h = rw p refl
begins_op o (Closes ∷ cs) p h = absurd (false≢true h)
begins_op o (ClosesList s ∷ cs) p h = absurd (false≢true h)
begins_op o (Bar ∷ cs) p h = absurd (false≢true h)
begins_op o (Binds y ∷ cs) p h = absurd (false≢true h)
begins_op o (Other ∷ cs) p h = absurd (false≢true h)

pub derives_begins : (k : Kind) (ts : List Sym) (t : Tree) → Derives k ts t → begins_well ts ≡ true
derives_begins k ts t (word s) = refl
derives_begins k ts t (atom s) = refl
derives_begins k ts t (parens b f us u d) = refl
derives_begins k ts t (named o) = refl
derives_begins k ts t (empty s c) = refl
derives_begins k ts t (listed s us u d) = refl
derives_begins k ts t (last s c b f us u i d) = begins_more us _ (derives_begins _ us u d)
derives_begins k ts t (tail s c b f us u b' f' vs v i d e) = begins_more us (Bar ∷ vs ++ ClosesList c ∷ []) (derives_begins _ us u d)
derives_begins k ts t (more s o f us u vs v q i d e) = begins_more us _ (derives_begins _ us u d)
derives_begins k ts t (single us u d) = derives_begins _ us u d
derives_begins k ts t (applied us u vs v d e) = begins_more us _ (derives_begins _ us u d)
derives_begins k ts t (abstracted s y b f us u d) = refl
derives_begins k ts t (bound s y b f us u vs v d e) = begins_more us _ (derives_begins _ us u d)
derives_begins k ts t (between o b f g us u vs v p q l r d e) = begins_more us _ (derives_begins _ us u d)
derives_begins k ts t (before o b f us u p r d) = begins_op o us p (derives_begins _ us u d)
derives_begins k ts t (behind o f us u p l d) = begins_more us _ (derives_begins _ us u d)

named_same : (fn : Option Tree) (fs : List Frame) (o : Oper) (d : Sym) (ds : List Sym) → is_prefix o.fixity ≡ true → starts d ≡ true → run (st (Inside fn ∷ fs) (Named o)) (d ∷ ds) ≡ run (st (Waits o None ∷ Inside fn ∷ fs) Wants) (d ∷ ds)
named_same fn fs o (Word s) ds p h = rw p refl
named_same fn fs o (Atom s) ds p h = rw p refl
named_same fn fs o (Op q) ds p h = rw p refl
named_same fn fs o Opens ds p h = rw p refl
named_same fn fs o (OpensList s) ds p h = rw p refl
named_same fn fs o Closes ds p h = absurd (false≢true h)
named_same fn fs o (ClosesList s) ds p h = absurd (false≢true h)
named_same fn fs o Bar ds p h = absurd (false≢true h)
named_same fn fs o (Binds y) ds p h = absurd (false≢true h)
named_same fn fs o Other ds p h = absurd (false≢true h)

wants_prefix : (fn : Option Tree) (fs : List Frame) (o : Oper) → is_prefix o.fixity ≡ true → step (st (Inside fn ∷ fs) Wants) (Op o) ≡ at (Waits o None ∷ Inside fn ∷ fs) Wants
wants_prefix fn fs o p = rw p refl

-- directly behind ( a term is read as elsewhere
pub fresh_same : (fn : Option Tree) (fs : List Frame) (ts : List Sym) → begins_well ts ≡ true → run (st (Inside fn ∷ fs) Fresh) ts ≡ run (st (Inside fn ∷ fs) Wants) ts
fresh_same fn fs [] h = absurd (false≢true h)
fresh_same fn fs (Op o ∷ []) h = absurd (false≢true h)
fresh_same fn fs (Op o ∷ d ∷ ds) h =
    let p = and_parts (is_prefix o.fixity) (starts d) h in
    named_same fn fs o d ds p.0 p.1 ∙ sym (run_step (st (Inside fn ∷ fs) Wants) (Op o) (d ∷ ds) (st (Waits o None ∷ Inside fn ∷ fs) Wants) (wants_prefix fn fs o p.0))
fresh_same fn fs (Word s ∷ cs) h = refl
fresh_same fn fs (Atom s ∷ cs) h = refl
fresh_same fn fs (Opens ∷ cs) h = refl
fresh_same fn fs (OpensList s ∷ cs) h = refl
fresh_same fn fs (Closes ∷ cs) h = refl
fresh_same fn fs (ClosesList s ∷ cs) h = refl
fresh_same fn fs (Bar ∷ cs) h = refl
fresh_same fn fs (Binds y ∷ cs) h = refl
fresh_same fn fs (Other ∷ cs) h = refl

pub fresh_list_same : (s : ℕ) (fn : Option Tree) (done : List (ℕ × Tree)) (fs : List Frame) (ts : List Sym) → begins_well ts ≡ true → run (st (Item s fn done ∷ fs) FreshList) ts ≡ run (st (Item s fn done ∷ fs) Wants) ts
fresh_list_same s fn done fs [] h = absurd (false≢true h)
fresh_list_same s fn done fs (Op o ∷ cs) h = refl
fresh_list_same s fn done fs (Word v ∷ cs) h = refl
fresh_list_same s fn done fs (Atom v ∷ cs) h = refl
fresh_list_same s fn done fs (Opens ∷ cs) h = refl
fresh_list_same s fn done fs (OpensList v ∷ cs) h = refl
fresh_list_same s fn done fs (Closes ∷ cs) h = refl
fresh_list_same s fn done fs (ClosesList v ∷ cs) h = absurd (false≢true h)
fresh_list_same s fn done fs (Bar ∷ cs) h = refl
fresh_list_same s fn done fs (Binds y ∷ cs) h = refl
fresh_list_same s fn done fs (Other ∷ cs) h = refl

-- what reading the tokens of a kind comes to, whatever follows
abbrev pub IsRead : Kind → List Sym → Tree → Type 0
IsRead Single ts t = (s : State) (fs : List Frame) (fn : Option Tree) (rest : List Sym) → Starts s fs fn → (w : Option ℕ) × (run s (ts ++ rest) ≡ run (st fs (Has fn t w)) rest)
IsRead (Part b f) ts t = (fs : List Frame) (rest : List Sym) → admits fs f ≡ true → (s : State) × Settled fs b f t s × (run (st fs Wants) (ts ++ rest) ≡ run s rest)
IsRead (Items v) ts t = (fs : List Frame) (fn : Option Tree) (done : List (ℕ × Tree)) (rest : List Sym) → run (st (Item v fn done ∷ fs) Wants) (ts ++ rest) ≡ run (st fs (Has fn (wrap done t) None)) rest

read_parens : (b : Bool) (f : Form) (ts : List Sym) (t : Tree) → Derives (Part b f) ts t → IsRead (Part b f) ts t → IsRead Single (Opens ∷ ts ++ Closes ∷ []) t
read_parens b f ts t d h s fs fn rest start =
    let r = h (Inside fn ∷ fs) (Closes ∷ rest) refl in (
      None,
      run_step s Opens ((ts ++ Closes ∷ []) ++ rest) _ start.opens
          ∙ ap (run (st (Inside fn ∷ fs) Fresh)) (append_assoc ts (Closes ∷ []) rest)
          ∙ fresh_same fn fs (ts ++ Closes ∷ rest) (begins_more ts (Closes ∷ rest) (derives_begins _ ts t d))
          ∙ r.2
          ∙ run_step r.0 Closes rest _ (step_close (Inside fn ∷ fs) b f t r.0 EndBracket r.1),
    )

read_listed : (v : ℕ) (ts : List Sym) (t : Tree) → Derives (Items v) ts t → IsRead (Items v) ts t → IsRead Single (OpensList v ∷ ts) t
read_listed v ts t d h s fs fn rest start = (
  None,
  run_step s (OpensList v) (ts ++ rest) _ (start.list v)
      ∙ fresh_list_same v fn [] fs (ts ++ rest) (begins_more ts rest (derives_begins _ ts t d))
      ∙ h fs fn [] rest,
)

read_last : (v c : ℕ) (b : Bool) (f : Form) (ts : List Sym) (t : Tree) → is_item f ≡ true → IsRead (Part b f) ts t → IsRead (Items v) (ts ++ ClosesList c ∷ []) (cons v t (Nil c))
read_last v c b f ts t i h fs fn done rest =
    let r = h (Item v fn done ∷ fs) (ClosesList c ∷ rest) i in
    ap (run (st (Item v fn done ∷ fs) Wants)) (append_assoc ts (ClosesList c ∷ []) rest)
    ∙ r.2
    ∙ run_step r.0 (ClosesList c) rest _ (step_close (Item v fn done ∷ fs) b f t r.0 (EndList c) r.1)

read_tail : (v c : ℕ) (b : Bool) (f : Form) (ts : List Sym) (t : Tree) (b' : Bool) (f' : Form) (us : List Sym) (u : Tree) → is_item f ≡ true → IsRead (Part b f) ts t → IsRead (Part b' f') us u → IsRead (Items v) (ts ++ Bar ∷ (us ++ ClosesList c ∷ [])) (cons v t u)
read_tail v c b f ts t b' f' us u i h k fs fn done rest =
    let r = h (Item v fn done ∷ fs) (Bar ∷ us ++ ClosesList c ∷ rest) i in
    let q = k (Tail fn ((v, t) ∷ done) ∷ fs) (ClosesList c ∷ rest) refl in
    ap (run (st (Item v fn done ∷ fs) Wants)) (append_assoc ts (Bar ∷ (us ++ ClosesList c ∷ [])) rest ∙ ap (λ l. ts ++ Bar ∷ l) (append_assoc us (ClosesList c ∷ []) rest))
    ∙ r.2
    ∙ run_step r.0 Bar (us ++ ClosesList c ∷ rest) _ (step_close (Item v fn done ∷ fs) b f t r.0 EndBar r.1)
    ∙ q.2
    ∙ run_step q.0 (ClosesList c) rest _ (step_close (Tail fn ((v, t) ∷ done) ∷ fs) b' f' u q.0 (EndList c) q.1)

pub comma_out : (o : Oper) → separates o ≡ true → is_item (By o.fixity o.number) ≡ false
comma_out o q = let e = separates_is o q in ap (λ f. is_item (By f o.number)) e.0 ∙ ap (λ n. is_item (By Infixr n)) e.1 ∙ comma_no_item

pub attach_comma : (v : ℕ) (o : Oper) (fn : Option Tree) (done : List (ℕ × Tree)) (fs : List Frame) (t : Tree) → separates o ≡ true → attach (Item v fn done ∷ fs) t o ≡ at (Item o.spot fn ((v, t) ∷ done) ∷ fs) Wants
attach_comma v o fn done fs t q = rw (comma_out o q, q) refl

pub comma_left : (f : Form) (o : Oper) → separates o ≡ true → is_item f ≡ true → fits_left f o.fixity o.number ≡ true
comma_left f o q i = let e = separates_is o q in ap (λ g. fits_left f g o.number) e.0 ∙ ap (λ n. fits_left f Infixr n) e.1 ∙ item_comma f i

pub comma_infix : (o : Oper) → separates o ≡ true → is_prefix o.fixity ≡ false
comma_infix o q = ap is_prefix (separates_is o q).0

read_more : (v : ℕ) (o : Oper) (f : Form) (ts : List Sym) (t : Tree) (us : List Sym) (u : Tree) → separates o ≡ true → is_item f ≡ true → IsRead (Part false f) ts t → IsRead (Items o.spot) us u → IsRead (Items v) (ts ++ Op o ∷ us) (cons v t u)
read_more v o f ts t us u q i h k fs fn done rest =
    let r = h (Item v fn done ∷ fs) (Op o ∷ us ++ rest) i in
    ap (run (st (Item v fn done ∷ fs) Wants)) (append_assoc ts (Op o ∷ us) rest)
    ∙ r.2
    ∙ run_step r.0 (Op o) (us ++ rest) _ (step_operator (Item v fn done ∷ fs) f t r.0 o r.1 (comma_infix o q) (comma_left f o q i) ∙ attach_comma v o fn done fs t q)
    ∙ k fs fn ((v, t) ∷ done) rest

read_single : (ts : List Sym) (t : Tree) → IsRead Single ts t → IsRead (Part false Whole) ts t
read_single ts t h fs rest a =
    let r = h (st fs Wants) fs None rest (starts_wants fs) in
    (st fs (Has None t r.0), has_term fs None t r.0, r.1)

read_applied : (ts : List Sym) (t : Tree) (us : List Sym) (u : Tree) → IsRead (Part false Whole) ts t → IsRead Single us u → IsRead (Part false Whole) (ts ++ us) (App t u)
read_applied ts t us u h k fs rest a =
    let r = h fs (us ++ rest) a in
    let q = k r.0 fs (Some t) rest (starts_term fs t r.0 r.1) in
    (st fs (Has (Some t) u q.0), has_term fs (Some t) u q.0, ap (run (st fs Wants)) (append_assoc ts us rest) ∙ r.2 ∙ q.1)

read_abstracted : (v : ℕ) (y : Option ℕ) (b : Bool) (f : Form) (ts : List Sym) (t : Tree) → IsRead (Part b f) ts t → IsRead (Part true Whole) (Word v ∷ Binds y ∷ ts) (Lam v y t)
read_abstracted v y b f ts t h fs rest a =
    let r = h (Under v y None ∷ fs) rest refl in
    (r.0, under fs v y None b f t r.0 r.1, r.2)

read_bound : (v : ℕ) (y : Option ℕ) (b : Bool) (f : Form) (ts : List Sym) (t : Tree) (us : List Sym) (u : Tree) → IsRead (Part false Whole) ts t → IsRead (Part b f) us u → IsRead (Part true Whole) (ts ++ Word v ∷ Binds y ∷ us) (App t (Lam v y u))
read_bound v y b f ts t us u h k fs rest a =
    let r = h fs (Word v ∷ Binds y ∷ us ++ rest) a in
    let q = k (Under v y (Some t) ∷ fs) rest refl in (
      q.0,
      under fs v y (Some t) b f u q.0 q.1,
      ap (run (st fs Wants)) (append_assoc ts (Word v ∷ Binds y ∷ us) rest)
          ∙ r.2
          ∙ run_step r.0 (Word v) (Binds y ∷ us ++ rest) _ ((starts_term fs t r.0 r.1).word v)
          ∙ q.2,
    )

pub takes_infix : (fs : List Frame) (t : Tree) (o : Oper) → is_postfix o.fixity ≡ false → takes fs t o ≡ at (Waits o (Some t) ∷ fs) Wants
takes_infix fs t o q = rw q refl

takes_postfix : (fs : List Frame) (t : Tree) (o : Oper) → is_postfix o.fixity ≡ true → takes fs t o ≡ at fs (Formed o.fixity o.number (App (Leaf o.spot) t))
takes_postfix fs t o q = rw q refl

read_between : (o : Oper) (b : Bool) (f g : Form) (ts : List Sym) (t : Tree) (us : List Sym) (u : Tree) → is_prefix o.fixity ≡ false → is_postfix
    o.fixity ≡ false → fits_left f o.fixity o.number ≡ true → fits_right g o.fixity o.number ≡ true → IsRead (Part false f) ts t → IsRead (Part b g)
    us u → IsRead (Part b (By o.fixity o.number)) (ts ++ Op o ∷ us) (binary o.spot t u)
read_between o b f g ts t us u p q l m h k fs rest a =
    let r = h fs (Op o ∷ us ++ rest) (admits_left fs f o a l) in
    let z = k (Waits o (Some t) ∷ fs) rest m in (
      z.0,
      waiting fs o (Some t) b g u z.0 m z.1,
      ap (run (st fs Wants)) (append_assoc ts (Op o ∷ us) rest)
          ∙ r.2
          ∙ run_step r.0 (Op o) (us ++ rest) _ (step_operator fs f t r.0 o r.1 p l ∙ attach_admitted fs t o a ∙ takes_infix fs t o q)
          ∙ z.2,
    )

pub wants_op : (fs : List Frame) (o : Oper) → is_prefix o.fixity ≡ true → admits fs (By o.fixity o.number) ≡ true → step (st fs Wants) (Op o) ≡ at (Waits o None ∷ fs) Wants
wants_op fs o p a = rw (p, a) refl

read_before : (o : Oper) (b : Bool) (f : Form) (ts : List Sym) (t : Tree) → is_prefix o.fixity ≡ true → fits_right f o.fixity o.number ≡ true → IsRead (Part b f) ts t → IsRead (Part b (By o.fixity o.number)) (Op o ∷ ts) (App (Leaf o.spot) t)
read_before o b f ts t p m h fs rest a =
    let z = h (Waits o None ∷ fs) rest m in
    (z.0, waiting fs o None b f t z.0 m z.1, run_step (st fs Wants) (Op o) (ts ++ rest) _ (wants_op fs o p a) ∙ z.2)

pub no_prefix : (f : Fixity) → is_postfix f ≡ true → is_prefix f ≡ false
no_prefix Infix h = refl
no_prefix Infixl h = refl
no_prefix Infixr h = refl
no_prefix Prefix h = absurd (false≢true h)
no_prefix Prefixr h = absurd (false≢true h)
no_prefix Postfix h = refl
no_prefix Postfixl h = refl

read_behind : (o : Oper) (f : Form) (ts : List Sym) (t : Tree) → is_postfix o.fixity ≡ true → fits_left f o.fixity o.number ≡ true → IsRead (Part false f) ts t → IsRead (Part false (By o.fixity o.number)) (ts ++ Op o ∷ []) (App (Leaf o.spot) t)
read_behind o f ts t q l h fs rest a =
    let r = h fs (Op o ∷ rest) (admits_left fs f o a l) in (
      st fs (Formed o.fixity o.number (App (Leaf o.spot) t)),
      has_form fs o.fixity o.number (App (Leaf o.spot) t) q,
      ap (run (st fs Wants)) (append_assoc ts (Op o ∷ []) rest)
          ∙ r.2
          ∙ run_step r.0 (Op o) rest _ (step_operator fs f t r.0 o r.1 (no_prefix o.fixity q) l ∙ attach_admitted fs t o a ∙ takes_postfix fs t o q),
    )

pub complete : (k : Kind) (ts : List Sym) (t : Tree) → Derives k ts t → IsRead k ts t
complete k ts t (word v) = λ s fs fn rest start. (Some v, run_step s (Word v) rest _ (start.word v))
complete k ts t (atom v) = λ s fs fn rest start. (None, run_step s (Atom v) rest _ (start.atom v))
complete k ts t (parens b f us u d) = read_parens b f us u d (complete _ us u d)
complete k ts t (named o) = λ s fs fn rest start. (None, run_step s Opens (Op o ∷ Closes ∷ rest) _ start.opens)
complete k ts t (empty v c) = λ s fs fn rest start. (None, run_step s (OpensList v) (ClosesList c ∷ rest) _ (start.list v))
complete k ts t (listed v us u d) = read_listed v us u d (complete _ us u d)
complete k ts t (last v c b f us u i d) = read_last v c b f us u i (complete _ us u d)
complete k ts t (tail v c b f us u b' f' vs w i d e) = read_tail v c b f us u b' f' vs w i (complete _ us u d) (complete _ vs w e)
complete k ts t (more v o f us u vs w q i d e) = read_more v o f us u vs w q i (complete _ us u d) (complete _ vs w e)
complete k ts t (single us u d) = read_single us u (complete _ us u d)
complete k ts t (applied us u vs w d e) = read_applied us u vs w (complete _ us u d) (complete _ vs w e)
complete k ts t (abstracted v y b f us u d) = read_abstracted v y b f us u (complete _ us u d)
complete k ts t (bound v y b f us u vs w d e) = read_bound v y b f us u vs w (complete _ us u d) (complete _ vs w e)
complete k ts t (between o b f g us u vs w p q l m d e) = read_between o b f g us u vs w p q l m (complete _ us u d) (complete _ vs w e)
complete k ts t (before o b f us u p m d) = read_before o b f us u p m (complete _ us u d)
complete k ts t (behind o f us u q l d) = read_behind o f us u q l (complete _ us u d)
