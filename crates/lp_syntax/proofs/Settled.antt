-- A state in which a term has been read, its operators not yet put together.
use Rattle.std.proofs.Common.{◌≡◌, ℕ, Bool, true, false, List, [], ◌∷◌, Option, Some, None, refl, ◌∙◌}
use Rattle.lp_standard.specs.declared.fixity.Fixity.{Fixity}
use Rattle.lp_syntax.specs.declared.symbol.Oper.{Oper}
use Rattle.lp_syntax.specs.declared.symbol.Sym.{Sym}
use Rattle.lp_syntax.specs.declared.symbol.Sym.TheVariants.{Word, Atom, Op, Opens, Closes, OpensList, ClosesList, Bar}
use Rattle.lp_syntax.specs.Symbols.{Tree, Lam, Form, Whole, By, is_prefix, is_postfix, fits_left, fits_right, is_item, apply}
use Rattle.lp_syntax.specs.Machine.{Frame, Waits, Under, Inside, Item, Tail, Wants, Has, Formed, State, st, admits, operated, takes, attach, close, begins, step}
use Rattle.lp_syntax.proofs.Fitting.{left_within, not_within, right_within, item_within}

pub data Settled : List Frame → Bool → Form → Tree → State → Type 0 where
  has_term : (fs : List Frame) (fn : Option Tree) (x : Tree) (w : Option ℕ) → Settled fs false Whole (apply fn x) (st fs (Has fn x w))
  has_form : (fs : List Frame) (f : Fixity) (n : ℕ) (t : Tree) → is_postfix f ≡ true → Settled fs false (By f n) t (st fs (Formed f n t))
  waiting : (fs : List Frame) (o : Oper) (l : Option Tree) (b : Bool) (g : Form) (r : Tree) (s : State) → fits_right g o.fixity o.number ≡ true → Settled (Waits o l ∷ fs) b g r s → Settled fs b (By o.fixity o.number) (operated o l r) s
  under : (fs : List Frame) (v : ℕ) (y : Option ℕ) (fn : Option Tree) (b : Bool) (g : Form) (t : Tree) (s : State) → Settled (Under v y fn ∷ fs) b g t s → Settled fs true Whole (apply fn (Lam v y t)) s

-- an operator behind a closed term
pub step_operator : (fs : List Frame) (f : Form) (t : Tree) (s : State) (o : Oper) → Settled fs false f t s → is_prefix o.fixity ≡ false → fits_left f o.fixity o.number ≡ true → step s (Op o) ≡ attach fs t o
step_operator fs f t s o (has_term _ fn x w) p h = rw (p, h) refl
step_operator fs f t s o (has_form _ q n _ post) p h = rw (p, h) refl
step_operator fs f t s o (waiting _ q l _ g r _ k d) p h =
    step_operator (Waits q l ∷ fs) g r s o d p (left_within g q.fixity o.fixity q.number o.number h k) ∙ rw (not_within q.fixity o.fixity q.number o.number h, h) refl

pub data End : Type 0 where
  EndBracket : End
  EndList : ℕ → End
  EndBar : End

abbrev pub sym_of : End → Sym
sym_of EndBracket = Closes
sym_of (EndList c) = ClosesList c
sym_of EndBar = Bar

-- a closing mark behind a term
pub step_close : (fs : List Frame) (b : Bool) (f : Form) (t : Tree) (s : State) (c : End) → Settled fs b f t s → step s (sym_of c) ≡ close fs t (sym_of c)
step_close fs b f t s EndBracket (has_term _ fn x w) = refl
step_close fs b f t s (EndList c) (has_term _ fn x w) = refl
step_close fs b f t s EndBar (has_term _ fn x w) = refl
step_close fs b f t s EndBracket (has_form _ q n _ post) = refl
step_close fs b f t s (EndList c) (has_form _ q n _ post) = refl
step_close fs b f t s EndBar (has_form _ q n _ post) = refl
step_close fs b f t s c (waiting _ q l _ g r _ k d) = step_close (Waits q l ∷ fs) b g r s c d
step_close fs b f t s c (under _ v y fn b' g r _ d) = step_close (Under v y fn ∷ fs) b' g r s c d

-- a state in which an atom may follow this function
pub record Starts (s : State) (fs : List Frame) (fn : Option Tree) : Type 0 where
  pub word : (v : ℕ) → step s (Word v) ≡ begins fs fn (Word v)
  pub atom : (v : ℕ) → step s (Atom v) ≡ begins fs fn (Atom v)
  pub opens : step s Opens ≡ begins fs fn Opens
  pub list : (v : ℕ) → step s (OpensList v) ≡ begins fs fn (OpensList v)

pub starts_wants : (fs : List Frame) → Starts (st fs Wants) fs None
starts_wants fs = record { word = λ v. refl; atom = λ v. refl; opens = refl; list = λ v. refl }

pub starts_term : (fs : List Frame) (t : Tree) (s : State) → Settled fs false Whole t s → Starts s fs (Some t)
starts_term fs t s (has_term _ fn x w) = record { word = λ v. refl; atom = λ v. refl; opens = refl; list = λ v. refl }

pub admits_whole : (fs : List Frame) → admits fs Whole ≡ true
unfolding fits_right is_item
admits_whole [] = refl
admits_whole (Waits o l ∷ fs) = refl
admits_whole (Under s y fn ∷ fs) = refl
admits_whole (Inside fn ∷ fs) = refl
admits_whole (Item s fn done ∷ fs) = refl
admits_whole (Tail fn done ∷ fs) = refl

-- the left operand is admitted where the operator is
pub admits_left : (fs : List Frame) (f : Form) (o : Oper) → admits fs (By o.fixity o.number) ≡ true → fits_left f o.fixity o.number ≡ true → admits fs f ≡ true
admits_left [] f o h k = refl
admits_left (Waits p l ∷ fs) f o h k = right_within f p.fixity o.fixity p.number o.number h k
admits_left (Under s y fn ∷ fs) f o h k = refl
admits_left (Inside fn ∷ fs) f o h k = refl
admits_left (Item s fn done ∷ fs) f o h k = item_within f o.fixity o.number h k
admits_left (Tail fn done ∷ fs) f o h k = refl

pub attach_admitted : (fs : List Frame) (t : Tree) (o : Oper) → admits fs (By o.fixity o.number) ≡ true → attach fs t o ≡ takes fs t o
attach_admitted [] t o h = refl
attach_admitted (Waits p l ∷ fs) t o h = rw h refl
attach_admitted (Under s y fn ∷ fs) t o h = refl
attach_admitted (Inside fn ∷ fs) t o h = refl
attach_admitted (Item s fn done ∷ fs) t o h = rw h refl
attach_admitted (Tail fn done ∷ fs) t o h = refl
