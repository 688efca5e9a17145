-- What is open at a place of a text, by the rules of the grammar: the operators, binders, brackets and lists that still wait there.
-- An operator is ambiguous where one of its number waits before its operand.
use Rattle.std.specs.Prelude.{◌≡◌, ℕ, Bool, true, false, List, [], ◌∷◌, ◌++◌, Option, Some, None}
use Rattle.lp_syntax.specs.declared.symbol.Oper.{Oper}
use Rattle.lp_syntax.specs.declared.symbol.Sym.{Sym}
use Rattle.lp_syntax.specs.declared.symbol.Sym.TheVariants.{Word, Op, Opens, OpensList, Bar, Binds}
use Rattle.lp_syntax.specs.Symbols.{Tree, Form, Whole, By, is_prefix, is_postfix, fits_left, fits_right, is_item, separates}
use Rattle.lp_syntax.specs.Grammar.{Kind, Part, Derives}
use Rattle.lp_syntax.specs.Machine.{Frame, Waits, Under, Inside, Item, Tail, admits}

-- from here to there stands this
pub record Spans (k : Kind) (ks bs : List Sym) (t : Tree) : Type 0 where
  pub tokens : List Sym
  pub are : ks ≡ tokens ++ bs
  pub derives : Derives k tokens t

-- the function before an atom, if there is one
abbrev pub Before : Option Tree → List Sym → List Sym → Type 0
Before None ks bs = ks ≡ bs
Before (Some f) ks bs = Spans (Part false Whole) ks bs f

-- the items of a list, up to a place
pub data ItemsBefore : ℕ → List (ℕ × Tree) → List Sym → List Sym → Type 0 where
  items_first : (v : ℕ) (cs : List Sym) → ItemsBefore v [] (OpensList v ∷ cs) cs
  items_next : (v : ℕ) (o : Oper) (done : List (ℕ × Tree)) (f : Form) (bs ks cs : List Sym) (t : Tree) → separates o ≡ true → is_item f ≡ true → ItemsBefore v done bs ks → Spans (Part false f) ks (Op o ∷ cs) t → ItemsBefore o.spot ((v, t) ∷ done) bs cs

-- a list, up to a place behind its bar
pub data TailBefore : List (ℕ × Tree) → List Sym → List Sym → Type 0 where
  tail_first : (v : ℕ) (done : List (ℕ × Tree)) (b : Bool) (f : Form) (bs ks cs : List Sym) (t : Tree) → is_item f ≡ true → ItemsBefore v done bs ks → Spans (Part b f) ks (Bar ∷ cs) t → TailBefore ((v, t) ∷ done) bs cs

-- the tokens of a text up to a place are these frames
pub data Stack (all : List Sym) : List Frame → List Sym → Type 0 where
  bottom : Stack all [] all
  waits_left : (fs : List Frame) (o : Oper) (f : Form) (l : Tree) (ks bs : List Sym) → Stack all fs ks → Spans (Part false f) ks (Op o ∷ bs) l →
      is_prefix o.fixity ≡ false → is_postfix o.fixity ≡ false → fits_left f o.fixity o.number ≡ true → admits fs (By o.fixity o.number) ≡ true →
      Stack all (Waits o (Some l) ∷ fs) bs
  waits_first : (fs : List Frame) (o : Oper) (bs : List Sym) → Stack all fs (Op o ∷ bs) → is_prefix o.fixity ≡ true → admits fs (By o.fixity o.number) ≡ true → Stack all (Waits o None ∷ fs) bs
  binder : (fs : List Frame) (v : ℕ) (y : Option ℕ) (fn : Option Tree) (ks bs : List Sym) → Stack all fs ks → Before fn ks (Word v ∷ Binds y ∷ bs) → Stack all (Under v y fn ∷ fs) bs
  bracket : (fs : List Frame) (fn : Option Tree) (ks bs : List Sym) → Stack all fs ks → Before fn ks (Opens ∷ bs) → Stack all (Inside fn ∷ fs) bs
  item : (fs : List Frame) (v : ℕ) (fn : Option Tree) (done : List (ℕ × Tree)) (ks bs cs : List Sym) → Stack all fs ks → Before fn ks bs → ItemsBefore v done bs cs → Stack all (Item v fn done ∷ fs) cs
  rest : (fs : List Frame) (fn : Option Tree) (done : List (ℕ × Tree)) (ks bs cs : List Sym) → Stack all fs ks → Before fn ks bs → TailBefore done bs cs → Stack all (Tail fn done ∷ fs) cs

-- an operator of the same number waits before the operand that the next operator stands behind
pub record AmbiguousAt (all cs : List Sym) (o : Oper) : Type 0 where
  pub frames : List Frame
  pub earlier : Oper
  pub left : Option Tree
  pub from : List Sym
  pub form : Form
  pub operand : Tree
  pub stack : Stack all (Waits earlier left ∷ frames) from
  pub spans : Spans (Part false form) from (Op o ∷ cs) operand
  pub fits : fits_right form earlier.fixity earlier.number ≡ true
  pub same : earlier.number ≡ o.number
