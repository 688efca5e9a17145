-- The reader: what it holds, what is due, and what one symbol does to it. The laws say that it reads the grammar.
use Rattle.std.specs.Prelude.{ℕ, Bool, true, List, [], ◌∷◌, Option, Some, None, if◌then◌else◌}
use Rattle.lp_standard.specs.declared.fixity.Fixity.{Fixity}
use Rattle.lp_syntax.specs.declared.symbol.Oper.{Oper}
use Rattle.lp_syntax.specs.declared.symbol.Sym.{Sym}
use Rattle.lp_syntax.specs.declared.symbol.Sym.TheVariants.{Word, Atom, Op, Opens, Closes, OpensList, ClosesList, Bar, Binds}
use Rattle.lp_syntax.specs.declared.symbol.Fault.{Fault}
use Rattle.lp_syntax.specs.declared.symbol.Fault.TheVariants.{Unexpected, Ambiguous}
use Rattle.lp_syntax.specs.Symbols.{Tree, Leaf, Nil, App, Lam, Form, Whole, By, is_prefix, is_postfix, fits_left, fits_right, is_item, apply, binary, cons, separates}

-- what waits, newest first
pub data Frame : Type 0 where
  -- an operator for its right operand, with its left one
  Waits : Oper → Option Tree → Frame
  -- a binder, with its annotation, for its body, with the function before it
  Under : ℕ → Option ℕ → Option Tree → Frame
  -- a bracket, with the function before it
  Inside : Option Tree → Frame
  -- a list: the spot of the [ or comma before this item, the function before, the items before, newest first
  Item : ℕ → Option Tree → List (ℕ × Tree) → Frame
  -- a list behind its bar
  Tail : Option Tree → List (ℕ × Tree) → Frame

pub data Mode : Type 0 where
  -- an operand is due
  Wants : Mode
  -- so too, directly behind ( or [
  Fresh : Mode
  FreshList : Mode
  -- directly behind ( and an operator
  Named : Oper → Mode
  -- behind an application: the function, the last atom, and whether it is a bare word
  Has : Option Tree → Tree → Option ℕ → Mode
  -- behind a form by a postfix operator
  Formed : Fixity → ℕ → Tree → Mode

pub record State : Type 0 where
  pub frames : List Frame
  pub mode : Mode

pub data Move : Type 0 where
  Goes : State → Move
  Stops : Fault → Move

abbrev pub st : List Frame → Mode → State
st fs m = record { frames = fs; mode = m }

abbrev pub at : List Frame → Mode → Move
at fs m = Goes (st fs m)

-- an operand of this form may begin here
abbrev pub admits : List Frame → Form → Bool
admits [] f = true
admits (Waits o l ∷ fs) f = fits_right f o.fixity o.number
admits (Item s fn done ∷ fs) f = is_item f
admits (_ ∷ fs) f = true

abbrev pub operated : Oper → Option Tree → Tree → Tree
operated o None r = App (Leaf o.spot) r
operated o (Some l) r = binary o.spot l r

-- an operator that has its left operand
abbrev pub takes : List Frame → Tree → Oper → Move
takes fs t o = if is_postfix o.fixity then at fs (Formed o.fixity o.number (App (Leaf o.spot) t)) else at (Waits o (Some t) ∷ fs) Wants

-- an operator behind an operand that fits it
abbrev pub attach : List Frame → Tree → Oper → Move
attach [] t o = takes [] t o
attach (Waits p l ∷ fs) t o =
    if fits_right (By o.fixity o.number) p.fixity p.number then takes (Waits p l ∷ fs) t o
    else (if fits_left (By p.fixity p.number) o.fixity o.number then attach fs (operated p l t) o else Stops Ambiguous)
attach (Item s fn done ∷ fs) t o =
    if is_item (By o.fixity o.number) then takes (Item s fn done ∷ fs) t o
    else (if separates o then at (Item o.spot fn ((s, t) ∷ done) ∷ fs) Wants else Stops Unexpected)
attach (Under s y fn ∷ fs) t o = takes (Under s y fn ∷ fs) t o
attach (Inside fn ∷ fs) t o = takes (Inside fn ∷ fs) t o
attach (Tail fn done ∷ fs) t o = takes (Tail fn done ∷ fs) t o

abbrev pub wrap : List (ℕ × Tree) → Tree → Tree
wrap [] t = t
wrap (i ∷ is) t = wrap is (cons i.0 i.1 t)

-- a closing mark, behind a whole term of the innermost bracket
abbrev pub close : List Frame → Tree → Sym → Move
close (Waits o l ∷ fs) t c = close fs (operated o l t) c
close (Under s y fn ∷ fs) t c = close fs (apply fn (Lam s y t)) c
close (Inside fn ∷ fs) t Closes = at fs (Has fn t None)
close (Item s fn done ∷ fs) t (ClosesList c) = at fs (Has fn (wrap ((s, t) ∷ done) (Nil c)) None)
close (Item s fn done ∷ fs) t Bar = at (Tail fn ((s, t) ∷ done) ∷ fs) Wants
close (Tail fn done ∷ fs) t (ClosesList c) = at fs (Has fn (wrap done t) None)
close fs t c = Stops Unexpected

-- where an operand is due, behind this function
abbrev pub begins : List Frame → Option Tree → Sym → Move
begins fs fn (Word s) = at fs (Has fn (Leaf s) (Some s))
begins fs fn (Atom s) = at fs (Has fn (Leaf s) None)
begins fs fn Opens = at (Inside fn ∷ fs) Fresh
begins fs fn (OpensList s) = at (Item s fn [] ∷ fs) FreshList
begins fs fn _ = Stops Unexpected

abbrev pub prefixed : List Frame → Oper → Move
prefixed fs o =
    if is_prefix o.fixity
    then (if admits fs (By o.fixity o.number) then at (Waits o None ∷ fs) Wants else Stops Unexpected)
    else Stops Unexpected

abbrev pub wants : List Frame → Sym → Move
wants fs (Op o) = prefixed fs o
wants fs c = begins fs None c

abbrev pub fresh : List Frame → Sym → Move
fresh fs (Op o) = at fs (Named o)
fresh fs c = begins fs None c

abbrev pub fresh_list : List Frame → Sym → Move
fresh_list (Item s fn done ∷ fs) (ClosesList c) = at fs (Has fn (Nil c) None)
fresh_list fs c = wants fs c

abbrev pub closes_name : List Frame → Oper → Move
closes_name (Inside fn ∷ fs) o = at fs (Has fn (Leaf o.spot) None)
closes_name fs o = Stops Unexpected

abbrev pub named_else : List Frame → Oper → Sym → Move
named_else fs o c = if is_prefix o.fixity then wants (Waits o None ∷ fs) c else Stops Unexpected

abbrev pub is_named : List Frame → Oper → Sym → Move
is_named fs o Closes = closes_name fs o
is_named fs o c = named_else fs o c

abbrev pub binds : List Frame → Option Tree → Option ℕ → Option ℕ → Move
binds fs fn None y = Stops Unexpected
binds fs fn (Some s) y = at (Under s y fn ∷ fs) Wants

abbrev pub operator : List Frame → Form → Tree → Oper → Move
operator fs f t o =
    if is_prefix o.fixity then Stops Unexpected
    else (if fits_left f o.fixity o.number then attach fs t o else Stops Unexpected)

abbrev pub has : List Frame → Option Tree → Tree → Option ℕ → Sym → Move
has fs fn x w (Op o) = operator fs Whole (apply fn x) o
has fs fn x w (Binds y) = binds fs fn w y
has fs fn x w Closes = close fs (apply fn x) Closes
has fs fn x w (ClosesList c) = close fs (apply fn x) (ClosesList c)
has fs fn x w Bar = close fs (apply fn x) Bar
has fs fn x w c = begins fs (Some (apply fn x)) c

abbrev pub formed : List Frame → Fixity → ℕ → Tree → Sym → Move
formed fs f n t (Op o) = operator fs (By f n) t o
formed fs f n t Closes = close fs t Closes
formed fs f n t (ClosesList c) = close fs t (ClosesList c)
formed fs f n t Bar = close fs t Bar
formed fs f n t c = Stops Unexpected

abbrev pub step_in : List Frame → Mode → Sym → Move
step_in fs Wants c = wants fs c
step_in fs Fresh c = fresh fs c
step_in fs FreshList c = fresh_list fs c
step_in fs (Named o) c = is_named fs o c
step_in fs (Has fn x w) c = has fs fn x w c
step_in fs (Formed f n t) c = formed fs f n t c

abbrev pub step : State → Sym → Move
step s c = step_in s.frames s.mode c

-- how far a text is read
pub data Run : Type 0 where
  Reached : State → Run
  -- a fault, at the first of these tokens
  Failed : Fault → List Sym → Run

abbrev pub go_on : (State → Run) → Sym → List Sym → Move → Run
go_on next c cs (Goes s) = next s
go_on next c cs (Stops f) = Failed f (c ∷ cs)

abbrev pub run : State → List Sym → Run
run s [] = Reached s
run s (c ∷ cs) = go_on (λ t. run t cs) c cs (step s c)

-- the term of a text that ends here, if no bracket is open
abbrev pub finish : List Frame → Tree → Option Tree
finish [] t = Some t
finish (Waits o l ∷ fs) t = finish fs (operated o l t)
finish (Under v y fn ∷ fs) t = finish fs (apply fn (Lam v y t))
finish (Inside fn ∷ fs) t = None
finish (Item v fn done ∷ fs) t = None
finish (Tail fn done ∷ fs) t = None

abbrev pub ended_in : List Frame → Mode → Option Tree
ended_in fs (Has fn x w) = finish fs (apply fn x)
ended_in fs (Formed f n t) = finish fs t
ended_in fs _ = None

abbrev pub ended : State → Option Tree
ended s = ended_in s.frames s.mode

pub data Outcome : Type 0 where
  Given : Tree → Outcome
  -- a fault at the first of these tokens
  Faulty : Fault → List Sym → Outcome
  -- the text ends too early
  Unfinished : Outcome

abbrev pub outcome_at : Option Tree → Outcome
outcome_at None = Unfinished
outcome_at (Some t) = Given t

abbrev pub outcome : Run → Outcome
outcome (Reached s) = outcome_at (ended s)
outcome (Failed f cs) = Faulty f cs

unfoldable pub read : List Sym → Outcome
read ts = outcome (run (st [] Wants) ts)
