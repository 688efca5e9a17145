-- The grammar of terms, over the symbols of a text: a symbol is a token as a table of operators shows it. A derivation says what a
-- piece of text is: a single atom; a term, closed or with an abstraction at its right end, with the operator at its top; or the items
-- of a list from behind its opening bracket or a comma on.
use Rattle.std.specs.Prelude.{◌≡◌, ℕ, Bool, true, false, List, [], ◌∷◌, ◌++◌, Option}
use Rattle.lp_syntax.specs.declared.symbol.Oper.{Oper}
use Rattle.lp_syntax.specs.declared.symbol.Sym.{Sym}
use Rattle.lp_syntax.specs.declared.symbol.Sym.TheVariants.{Word, Atom, Op, Opens, Closes, OpensList, ClosesList, Bar, Binds}
use Rattle.lp_syntax.specs.Symbols.{Tree, Leaf, Nil, App, Lam, Form, Whole, By, is_prefix, is_postfix, fits_left, fits_right, is_item, binary, cons, separates}

pub data Kind : Type 0 where
  -- an atom
  Single : Kind
  -- a term of this form, open or not
  Part : Bool → Form → Kind
  -- what stands in a list behind its [ or a comma, which has this spot
  Items : ℕ → Kind

pub data Derives : Kind → List Sym → Tree → Type 0 where
  -- a name that may be bound, and an atom that may not
  word : (s : ℕ) → Derives Single (Word s ∷ []) (Leaf s)
  atom : (s : ℕ) → Derives Single (Atom s ∷ []) (Leaf s)
  -- a term in brackets, and an operator as a name
  parens : (b : Bool) (f : Form) (ts : List Sym) (t : Tree) → Derives (Part b f) ts t → Derives Single (Opens ∷ ts ++ Closes ∷ []) t
  named : (o : Oper) → Derives Single (Opens ∷ Op o ∷ Closes ∷ []) (Leaf o.spot)
  -- lists
  empty : (s c : ℕ) → Derives Single (OpensList s ∷ ClosesList c ∷ []) (Nil c)
  listed : (s : ℕ) (ts : List Sym) (t : Tree) → Derives (Items s) ts t → Derives Single (OpensList s ∷ ts) t
  -- the last item, the last item with a tail, and an item with a comma behind it, which is closed
  last : (s c : ℕ) (b : Bool) (f : Form) (ts : List Sym) (t : Tree) → is_item f ≡ true → Derives (Part b f) ts t → Derives (Items s) (ts ++ ClosesList c ∷ []) (cons s t (Nil c))
  tail : (s c : ℕ) (b : Bool) (f : Form) (ts : List Sym) (t : Tree) (b' : Bool) (f' : Form) (us : List Sym) (u : Tree) → is_item f ≡ true → Derives (Part b f) ts t → Derives (Part b' f') us u → Derives (Items s) (ts ++ Bar ∷ (us ++ ClosesList c ∷ [])) (cons s t u)
  more : (s : ℕ) (o : Oper) (f : Form) (ts : List Sym) (t : Tree) (us : List Sym) (u : Tree) → separates o ≡ true → is_item f ≡ true → Derives (Part false f) ts t → Derives (Items o.spot) us u → Derives (Items s) (ts ++ Op o ∷ us) (cons s t u)
  -- application groups to the left
  single : (ts : List Sym) (t : Tree) → Derives Single ts t → Derives (Part false Whole) ts t
  applied : (ts : List Sym) (t : Tree) (us : List Sym) (u : Tree) → Derives (Part false Whole) ts t → Derives Single us u → Derives (Part false Whole) (ts ++ us) (App t u)
  -- an abstraction reaches as far right as it can, alone or as the last argument
  abstracted : (s : ℕ) (y : Option ℕ) (b : Bool) (f : Form) (ts : List Sym) (t : Tree) → Derives (Part b f) ts t → Derives (Part true Whole) (Word s ∷ Binds y ∷ ts) (Lam s y t)
  bound : (s : ℕ) (y : Option ℕ) (b : Bool) (f : Form) (ts : List Sym) (t : Tree) (us : List Sym) (u : Tree) → Derives (Part false Whole) ts t → Derives (Part b f) us u → Derives (Part true Whole) (ts ++ Word s ∷ Binds y ∷ us) (App t (Lam s y u))
  -- operators: the operands are those that fit
  between : (o : Oper) (b : Bool) (f g : Form) (ts : List Sym) (t : Tree) (us : List Sym) (u : Tree) → is_prefix o.fixity ≡ false → is_postfix
      o.fixity ≡ false → fits_left f o.fixity o.number ≡ true → fits_right g o.fixity o.number ≡ true → Derives (Part false f) ts t → Derives
      (Part b g) us u → Derives (Part b (By o.fixity o.number)) (ts ++ Op o ∷ us) (binary o.spot t u)
  before : (o : Oper) (b : Bool) (f : Form) (ts : List Sym) (t : Tree) → is_prefix o.fixity ≡ true → fits_right f o.fixity o.number ≡ true → Derives (Part b f) ts t → Derives (Part b (By o.fixity o.number)) (Op o ∷ ts) (App (Leaf o.spot) t)
  behind : (o : Oper) (f : Form) (ts : List Sym) (t : Tree) → is_postfix o.fixity ≡ true → fits_left f o.fixity o.number ≡ true → Derives (Part false f) ts t → Derives (Part false (By o.fixity o.number)) (ts ++ Op o ∷ []) (App (Leaf o.spot) t)
