-- What stands in a record's registers now and stood there before each open block: as it is kept, in a trail of those that are set, and in the definition.
use Rattle.std.specs.Prelude.{◌≡◌, ◌≤◌, ℕ, ◌||◌, true, false, if◌then◌else◌, List, [], ◌∷◌, ◌++◌, map, length, take, drop, Option, Some, None, is_some, slice_get, slice_set}
use Rattle.lp_calculus.specs.Types.{Ty}
use Rattle.lp_code.specs.declared.instruction.Instr.{Instr}
use Rattle.lp_code.specs.declared.instruction.Instr.TheVariants as on
use Rattle.lp_code.specs.Symbolic.{Built, Registers, held}
use Rattle.lp_code.specs.States.{Block, under_sigma, under_all, under_assumption, under_not, left_side, right_side, Frame, State, member}
use Rattle.lp_code.specs.Denote.{from_zero}
use Rattle.lp_verify.specs.declared.registers.Registers as kept_registers
use Rattle.lp_verify.specs.declared.blocks.Block as kept
use Rattle.lp_verify.specs.declared.blocks.Block.TheVariants as open_block
use Rattle.lp_verify.specs.declared.blocks.Frame as kept_frame
use Rattle.lp_verify.specs.Held.{was_set, value_in}
use Rattle.lp_verify.specs.inner.Sides.{ends_at}

-- registers as they are kept

-- no number stands twice in the list
abbrev pub AreOnce : List ℕ → Type 0
AreOnce [] = Unit {0}
AreOnce (r ∷ rs) = (member r rs ≡ false) × AreOnce rs

-- those that are set stand in the trail, each once, and each was set
pub record IsKept {T : Type 0} (rs : kept_registers.Registers T) : Type 0 where
  pub trail_is : (r : ℕ) → is_some (value_in rs r) ≡ member r rs.trail.items
  pub once : AreOnce rs.trail.items
  pub ever : (r : ℕ) → member r rs.trail.items ≡ true → was_set rs r ≡ true

-- what stood in a register when so many were set
abbrev pub value_at : {T : Type 0} → (height : ℕ) → kept_registers.Registers T → ℕ → Option T
value_at h rs r = if member r (take h rs.trail.items) then value_in rs r else None

-- what is kept of a value agrees with the value of the definition
abbrev pub Agree : {T B : Type 0} → (T → B → Type 0) → Option T → Option B → Type 0
Agree R None None = Unit {0}
Agree R (Some t) (Some b) = R t b
Agree R t b = ⊥

-- lists of the definition, each with a place for each of so many registers, against those that were set at descending heights of the trail
abbrev pub AreHeld : {T B : Type 0} → (T → B → Type 0) → (count : ℕ) → kept_registers.Registers T → (top : ℕ) → (heights : List ℕ) → List (List (Option B)) → Type 0
AreHeld R n rs top [] [] = Unit {0}
AreHeld R n rs top (h ∷ hs) (xs ∷ xss) = (h ≤ top) × (n ≤ length xs) × ((r : ℕ) → Agree R (value_at h rs r) (held xs r)) × AreHeld R n rs h hs xss
AreHeld R n rs top hs xss = ⊥

-- the registers now, and before the open blocks from the innermost on
abbrev pub IsStack : {T B : Type 0} → (T → B → Type 0) → (count : ℕ) → kept_registers.Registers T → (heights : List ℕ) → List (List (Option B)) → Type 0
IsStack R n rs hs xss = IsKept rs × AreHeld R n rs (length rs.trail.items) (length rs.trail.items ∷ hs) xss

-- how many were set before the open blocks, of frames from the innermost on
abbrev pub type_heights : List kept_frame.Frame → List ℕ
type_heights fs = map (λ (f : kept_frame.Frame). f.types) fs

abbrev pub term_heights : List kept_frame.Frame → List ℕ
term_heights fs = map (λ (f : kept_frame.Frame). f.terms) fs

-- registers before a record begins: the first ones hold these values
abbrev pub IsFilled : {T : Type 0} → List T → kept_registers.Registers T → Type 0
IsFilled ts rs = (rs.trail.items ≡ from_zero (length ts)) × ((r : ℕ) → value_in rs r ≡ slice_get ts r)

-- the first of these values so far
abbrev pub IsFilledSoFar : {T : Type 0} → ℕ → List T → kept_registers.Registers T → Type 0
IsFilledSoFar n ts rs = (rs.trail.items ≡ from_zero n) × ((r : ℕ) → value_in rs r ≡ slice_get (take n ts) r)

-- these registers were set, at most one
abbrev pub IsMade : {T : Type 0} → List ℕ → T → (old new : kept_registers.Registers T) → Type 0
IsMade ds v old new =
    (new.trail.items ≡ old.trail.items ++ ds) × ((r : ℕ) → value_in new r ≡ (if member r ds then Some v else value_in old r)) × ((r : ℕ) → was_set new r ≡ (was_set old r || member r ds))

-- all but the first ones were unset
abbrev pub IsCut : {T : Type 0} → (height : ℕ) → (old new : kept_registers.Registers T) → Type 0
IsCut h old new =
    (new.trail.items ≡ take h old.trail.items)
    × ((r : ℕ) → value_in new r ≡ (if member r (drop h old.trail.items) then None else value_in old r))
    × ((r : ℕ) → was_set new r ≡ was_set old r)

abbrev pub heights_around : List ℕ → List ℕ
heights_around [] = []
heights_around (h ∷ hs) = hs

-- the innermost block was left
abbrev pub IsLeft : {T : Type 0} → (heights : List ℕ) → (old new : kept_registers.Registers T) → Type 0
IsLeft [] old new = new ≡ old
IsLeft (h ∷ hs) old new = IsCut h old new

-- what an instruction does to the blocks: it opens one, leaves one, leaves one and opens another, or nothing
pub data Turning : Type 0 where
  stays : Turning
  opens : Turning
  leaves : Turning
  turns_over : Turning

abbrev pub turning : Instr → Turning
turning (on.All d t) = opens
turning on.Not = opens
turning (on.Assume ns ts rs) = opens
turning (on.Either n) = opens
turning (on.Jump n) = turns_over
turning on.EndAll = leaves
turning on.EndAssume = leaves
turning on.EndNot = leaves
turning i = stays

abbrev pub IsTurned : {T : Type 0} → Turning → (before : List ℕ) → (old : kept_registers.Registers T) → (behind : List ℕ) → (new : kept_registers.Registers T) → Type 0
IsTurned stays hs old ks new = (ks ≡ hs) × (new ≡ old)
IsTurned opens hs old ks new = (ks ≡ length old.trail.items ∷ hs) × (new ≡ old)
IsTurned leaves hs old ks new = (ks ≡ heights_around hs) × IsLeft hs old new
IsTurned turns_over hs old ks new = (ks ≡ length new.trail.items ∷ heights_around hs) × IsLeft hs old new

-- at most one register
abbrev pub IsOne : List ℕ → Type 0
IsOne [] = Unit {0}
IsOne (d ∷ []) = Unit {0}
IsOne (d ∷ e ∷ ds) = ⊥

-- an instruction was acted on, which puts this value into these registers
pub record IsStacked {T : Type 0} (i : Instr) (ds : List ℕ) (value : T) (before : List ℕ) (old : kept_registers.Registers T) (behind : List ℕ) (new : kept_registers.Registers T) : Type 0 where
  pub one : IsOne ds
  pub turned : kept_registers.Registers T
  pub turns : IsTurned (turning i) before old behind turned
  pub makes : IsMade ds value turned new

-- right sides that end here were left, of these sides
abbrev pub IsSettled : {T : Type 0} → (place : ℕ) → List kept.Block → (before : List ℕ) → (old : kept_registers.Registers T) → (behind : List ℕ) → (new : kept_registers.Registers T) → Type 0
IsSettled p [] hs old ks new = (ks ≡ hs) × (new ≡ old)
IsSettled {T} p (s ∷ ss) hs old ks new =
    (ends_at p s ≡ true → (mid : kept_registers.Registers T) × IsLeft hs old mid × IsSettled p ss (heights_around hs) mid ks new)
    × (ends_at p s ≡ false → (ks ≡ hs) × (new ≡ old))

-- the same behind the right sides that end there
pub record IsStackRun {T : Type 0} (i : Instr) (ds : List ℕ) (value : T) (place : ℕ) (sides : List kept.Block) (before : List ℕ) (old : kept_registers.Registers T) (behind : List ℕ) (new : kept_registers.Registers T) : Type 0 where
  pub heights : List ℕ
  pub made : kept_registers.Registers T
  pub stacked : IsStacked i ds value before old heights made
  pub settled : IsSettled place sides heights made behind new

-- registers of the definition

abbrev pub with_saved : Block → Registers → List Registers → List Registers
with_saved (under_sigma r T) g gs = gs
with_saved (under_all r T) g gs = g ∷ gs
with_saved (under_assumption cs) g gs = g ∷ gs
with_saved under_not g gs = g ∷ gs
with_saved (left_side n) g gs = g ∷ gs
with_saved (right_side n l) g gs = g ∷ gs

-- those before each open block, blocks of variables left out
abbrev pub saved_of : List Frame → List Registers
saved_of [] = []
saved_of (f ∷ fs) = with_saved f.block f.registers (saved_of fs)

abbrev pub stack_of : State → List Registers
stack_of s = s.now ∷ saved_of s.frames

abbrev pub types_in_stack : List Registers → List (List (Option Ty))
types_in_stack gs = map (λ (g : Registers). g.types) gs

abbrev pub terms_in_stack : List Registers → List (List (Option Built))
terms_in_stack gs = map (λ (g : Registers). g.terms) gs

-- a block is opened or left
abbrev pub doubled : {A : Type 0} → List A → List A
doubled [] = []
doubled (x ∷ xs) = x ∷ x ∷ xs

abbrev pub without_inner : {A : Type 0} → List A → List A
without_inner [] = []
without_inner (x ∷ []) = x ∷ []
without_inner (x ∷ y ∷ ys) = y ∷ ys

-- what an instruction makes of the stack where blocks nest
abbrev pub stack_turned : {A : Type 0} → Turning → List A → List A
stack_turned stays xs = xs
stack_turned opens xs = doubled xs
stack_turned leaves xs = without_inner xs
stack_turned turns_over xs = doubled (without_inner xs)

abbrev pub stack_settled : {A : Type 0} → (place : ℕ) → List kept.Block → List A → List A
stack_settled p [] xs = xs
stack_settled p (s ∷ ss) xs = if ends_at p s then stack_settled p ss (without_inner xs) else xs

-- the same as the definition has it, whatever rule is broken
abbrev pub stack_left : {A : Type 0} → List kept.Block → List A → List A
stack_left (open_block.Left n ∷ ss) xs = xs
stack_left ss xs = without_inner xs

abbrev pub stack_given : {A : Type 0} → List A → List A
stack_given [] = []
stack_given (x ∷ []) = x ∷ []
stack_given (x ∷ y ∷ ys) = y ∷ y ∷ ys

-- registers are set in what stands now
abbrev pub set_all : {B : Type 0} → List (Option B) → List ℕ → B → List (Option B)
set_all xs [] b = xs
set_all xs (d ∷ ds) b = set_all (slice_set xs d (Some b)) ds b

abbrev pub with_first : {B : Type 0} → List ℕ → B → List (List (Option B)) → List (List (Option B))
with_first ds b [] = []
with_first ds b (xs ∷ xss) = set_all xs ds b ∷ xss

abbrev pub with_made : (types : List ℕ) → Ty → (terms : List ℕ) → Built → List Registers → List Registers
with_made ts T rs b [] = []
with_made ts T rs b (g ∷ gs) = record { types = set_all g.types ts T; terms = set_all g.terms rs b } ∷ gs
