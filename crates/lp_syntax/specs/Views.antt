-- The reader's state, as the machine's.
use Rattle.std.specs.Prelude.{◌≡◌, ℕ, Bool, ◌<◌, List, [], ◌∷◌, ◌++◌, length, Option}
use Rattle.lp_syntax.specs.declared.held.Held.{Held}
use Rattle.lp_syntax.specs.declared.held.Held.TheVariants as held
use Rattle.lp_syntax.specs.declared.held.Doing.{Doing}
use Rattle.lp_syntax.specs.declared.held.Doing.TheVariants as doing
use Rattle.lp_syntax.specs.declared.held.Step.{Step}
use Rattle.lp_syntax.specs.declared.held.Step.TheVariants as step
use Rattle.lp_syntax.specs.declared.node.Node.{Node}
use Rattle.lp_standard.specs.declared.fixity.Fixity.{Fixity}
use Rattle.lp_syntax.specs.Symbols.{Tree, By}
use Rattle.lp_syntax.specs.Machine.{Frame, Waits, Under, Inside, Item, Tail, Mode, Wants, Fresh, FreshList, Named, Has, Formed, st, Move, Goes, Stops, admits}
use Rattle.lp_syntax.specs.Nodes.{trees, at, maybe, IsMaybeBelow, Grows}

abbrev pub done_of : List Tree → List (ℕ × ℕ) → List (ℕ × Tree)
done_of ts [] = []
done_of ts (i ∷ is) = done_of ts is ++ (i.0, at ts i.1) ∷ []

abbrev pub frame_of : List Tree → Held → Frame
frame_of ts (held.Waits o l) = Waits o (maybe ts l)
frame_of ts (held.Under v y fn) = Under v y (maybe ts fn)
frame_of ts (held.Inside fn) = Inside (maybe ts fn)
frame_of ts (held.Item v fn done) = Item v (maybe ts fn) (done_of ts done.items)
frame_of ts (held.Tail fn done) = Tail (maybe ts fn) (done_of ts done.items)

-- newest first
abbrev pub frames_of : List Tree → List Held → List Frame
frames_of ts [] = []
frames_of ts (h ∷ hs) = frames_of ts hs ++ frame_of ts h ∷ []

abbrev pub mode_of : List Tree → Doing → Mode
mode_of ts doing.Wants = Wants
mode_of ts doing.Fresh = Fresh
mode_of ts doing.FreshList = FreshList
mode_of ts (doing.Named o) = Named o
mode_of ts (doing.Has fn x w) = Has (maybe ts fn) (at ts x) w
mode_of ts (doing.Formed f n x) = Formed f n (at ts x)

abbrev pub move_of : List Tree → List Held → Step → Move
move_of ts hs (step.Goes m) = Goes (st (frames_of ts hs) (mode_of ts m))
move_of ts hs (step.Stops f) = Stops f

abbrev pub AreItemsBelow : ℕ → List (ℕ × ℕ) → Type 0
AreItemsBelow n [] = Unit {0}
AreItemsBelow n (i ∷ is) = (i.1 < n) × AreItemsBelow n is

abbrev pub IsHeldBelow : ℕ → Held → Type 0
IsHeldBelow n (held.Waits o l) = IsMaybeBelow n l
IsHeldBelow n (held.Under v y fn) = IsMaybeBelow n fn
IsHeldBelow n (held.Inside fn) = IsMaybeBelow n fn
IsHeldBelow n (held.Item v fn done) = IsMaybeBelow n fn × AreItemsBelow n done.items
IsHeldBelow n (held.Tail fn done) = IsMaybeBelow n fn × AreItemsBelow n done.items

abbrev pub EachBelow : ℕ → List Held → Type 0
EachBelow n [] = Unit {0}
EachBelow n (h ∷ hs) = IsHeldBelow n h × EachBelow n hs

abbrev pub IsDoingBelow : ℕ → Doing → Type 0
IsDoingBelow n (doing.Has fn x w) = IsMaybeBelow n fn × (x < n)
IsDoingBelow n (doing.Formed f k x) = x < n
IsDoingBelow n _ = Unit {0}

abbrev pub IsStepBelow : ℕ → List Held → Step → Type 0
IsStepBelow n hs (step.Goes m) = EachBelow n hs × IsDoingBelow n m
IsStepBelow n hs (step.Stops f) = Unit {0}

-- a step of the code is this move of the machine
pub record Steps (old new : List Node) (hs : List Held) (r : Step) (m : Move) : Type 0 where
  pub is : move_of (trees new) hs r ≡ m
  pub grows : Grows old new
  pub below : IsStepBelow (length new) hs r

-- whether an operand by this operator may begin above these frames, whatever the trees
pub record AdmitsAs (hs : List Held) (g : Fixity) (k : ℕ) (b : Bool) : Type 0 where
  pub is : (ts : List Tree) → admits (frames_of ts hs) (By g k) ≡ b

-- the root of a whole term, or none, as the machine ends
pub record Finishes (old new : List Node) (r : Option ℕ) (m : Option Tree) : Type 0 where
  pub is : maybe (trees new) r ≡ m
  pub grows : Grows old new
  pub below : IsMaybeBelow (length new) r
