-- The blocks that are open, innermost first, without those of variables: as they are kept at work, and as the definition has them.
use Rattle.std.specs.Prelude.{◌≡◌, ℕ, ◌+◌, ◌-◌, ◌^◌, ◌<◌, ◌≤◌, nat_eq, nat_le, min, Bool, true, false, not, ◌||◌, if◌then◌else◌, List, [], ◌∷◌, map, length, reverse, Option, Some, None, is_some, unwrap_or}
use Rattle.std.specs.List.{list_any}
use Rattle.std.specs.Ordering.{nat_cmp}
use Rattle.std.specs.BTreeMap.{BTreeMap, get}
use Rattle.lp_code.specs.declared.instruction.Instr.{Instr}
use Rattle.lp_code.specs.declared.instruction.Instr.TheVariants as on
use Rattle.lp_code.specs.Length.{length_of}
use Rattle.lp_code.specs.States.{Block, under_sigma, under_all, under_assumption, under_not, left_side, right_side, Frame}
use Rattle.lp_code.specs.Rules.{has_none, nesting_limit}
use Rattle.lp_verify.specs.Judged.{bytes_of}
use Rattle.lp_verify.specs.declared.blocks.Block as kept
use Rattle.lp_verify.specs.declared.blocks.Block.TheVariants as open_block
use Rattle.lp_verify.specs.declared.blocks.Frame as kept_frame

abbrev pub with_side : Block → List kept.Block → List kept.Block
with_side (under_sigma r T) ss = ss
with_side (under_all r T) ss = open_block.All ∷ ss
with_side (under_assumption cs) ss = open_block.Assumption ∷ ss
with_side under_not ss = open_block.Negation ∷ ss
with_side (left_side n) ss = open_block.Left n ∷ ss
with_side (right_side n l) ss = open_block.Right n ∷ ss

abbrev pub sides_of : List Frame → List kept.Block
sides_of [] = []
sides_of (f ∷ fs) = with_side f.block (sides_of fs)

-- frames are kept innermost last
abbrev pub sides_in : List kept_frame.Frame → List kept.Block
sides_in fs = map (λ (f : kept_frame.Frame). f.block) (reverse fs)

abbrev pub innermost_side : List kept.Block → Option kept.Block
innermost_side [] = None
innermost_side (s ∷ ss) = Some s

abbrev pub innermost_frame : List kept_frame.Frame → Option kept_frame.Frame
innermost_frame [] = None
innermost_frame (f ∷ fs) = Some f

abbrev pub frames_around : List kept_frame.Frame → List kept_frame.Frame
frames_around [] = []
frames_around (f ∷ fs) = fs

abbrev pub around : List kept.Block → List kept.Block
around [] = []
around (s ∷ ss) = ss

-- where a side ends, if it does by its bytes
abbrev pub ends_at : ℕ → kept.Block → Bool
ends_at p (open_block.Left n) = false
ends_at p (open_block.Right n) = nat_eq n p
ends_at p s = false

abbrev pub ends_there : ℕ → Option kept.Block → Bool
ends_there p None = false
ends_there p (Some s) = ends_at p s

abbrev pub is_past : ℕ → kept.Block → Bool
is_past p (open_block.Left n) = nat_le n p
is_past p (open_block.Right n) = nat_le n p
is_past p s = false

-- right sides that end here are left
abbrev pub sides_settled : ℕ → List kept.Block → List kept.Block
sides_settled p [] = []
sides_settled p (s ∷ ss) = if ends_at p s then sides_settled p ss else s ∷ ss

-- what an instruction that stands here makes of the blocks, where it may
abbrev pub sides_run : Instr → (place : ℕ) → List kept.Block → List kept.Block
sides_run (on.All d t) p ss = open_block.All ∷ ss
sides_run on.Not p ss = open_block.Negation ∷ ss
sides_run (on.Assume ns ts rs) p ss = open_block.Assumption ∷ ss
sides_run (on.Either n) p ss = open_block.Left (p + 5 + n) ∷ ss
sides_run (on.Jump n) p ss = open_block.Right (p + 5 + n) ∷ around ss
sides_run on.EndAll p ss = around ss
sides_run on.EndAssume p ss = around ss
sides_run on.EndNot p ss = around ss
sides_run i p ss = ss

-- the same as the definition has it, whatever rule is broken: a left side is not left so
abbrev pub sides_left : List kept.Block → List kept.Block
sides_left [] = []
sides_left (open_block.Left n ∷ ss) = open_block.Left n ∷ ss
sides_left (s ∷ ss) = ss

abbrev pub sides_turned : ℕ → List kept.Block → List kept.Block
sides_turned n [] = []
sides_turned n (s ∷ ss) = open_block.Right n ∷ ss

abbrev pub sides_acted : Instr → (place : ℕ) → List kept.Block → List kept.Block
sides_acted (on.All d t) p ss = open_block.All ∷ ss
sides_acted on.Not p ss = open_block.Negation ∷ ss
sides_acted (on.Assume ns ts rs) p ss = open_block.Assumption ∷ ss
sides_acted (on.Either n) p ss = open_block.Left (p + 5 + n) ∷ ss
sides_acted (on.Jump n) p ss = sides_turned (p + 5 + n) ss
sides_acted on.EndAll p ss = sides_left ss
sides_acted on.EndAssume p ss = sides_left ss
sides_acted on.EndNot p ss = sides_left ss
sides_acted i p ss = ss

-- the offset at which the first of the sides ends
abbrev pub last_place : ℕ
last_place = 2 ^ 64 - 1

abbrev pub end_of : kept.Block → ℕ
end_of (open_block.Left n) = n
end_of (open_block.Right n) = n
end_of s = last_place

abbrev pub first_end_of : List kept_frame.Frame → ℕ
first_end_of [] = last_place
first_end_of (f ∷ fs) = f.first_end

abbrev pub AreEnds : List kept_frame.Frame → Type 0
AreEnds [] = Unit {0}
AreEnds (f ∷ fs) = (f.first_end ≡ min (end_of f.block) (first_end_of fs)) × AreEnds fs

-- the instruction that begins at an offset, of those that begin at another one: whether it is a JUMP
abbrev pub is_jump : Instr → Bool
is_jump (on.Jump n) = true
is_jump i = false

abbrev pub starts_from : ℕ → List Instr → ℕ → Option Bool
starts_from p [] q = None
starts_from p (i ∷ is) q = if nat_eq q p then Some (is_jump i) else starts_from (p + length_of i) is q

abbrev pub is_proceed : Option Instr → Bool
is_proceed (Some on.Proceed) = true
is_proceed o = false

-- whether the code has sides
abbrev pub is_turn : Instr → Bool
is_turn (on.Either n) = true
is_turn (on.Jump n) = true
is_turn i = false

-- the instructions by their offsets, where the code has sides
abbrev pub HasPlaces : List Instr → BTreeMap ℕ Bool → Type 0
HasPlaces all m = bytes_of all < 2 ^ 32 → list_any is_turn all ≡ true → (q : ℕ) → get nat_cmp m q ≡ starts_from 0 all q

-- those that were passed so far, and those from this offset on
abbrev pub before_those : Option Bool → Option Bool → Option Bool
before_those (Some b) o = Some b
before_those None o = o

abbrev pub PlacesSoFar : (all left : List Instr) → (place : ℕ) → BTreeMap ℕ Bool → Type 0
PlacesSoFar all left p m =
    (p + bytes_of left ≡ bytes_of all) × ((q : ℕ) → starts_from 0 all q ≡ before_those (get nat_cmp m q) (starts_from p left q)) × ((q : ℕ) → p ≤ q → get nat_cmp m q ≡ None)

-- the rule on blocks as it is judged at work
abbrev pub is_left_to : ℕ → Option kept.Block → Bool
is_left_to p (Some (open_block.Left n)) = nat_eq n p
is_left_to p o = false

abbrev pub is_all : Option kept.Block → Bool
is_all (Some open_block.All) = true
is_all o = false

abbrev pub is_assumption : Option kept.Block → Bool
is_assumption (Some open_block.Assumption) = true
is_assumption o = false

abbrev pub is_negation : Option kept.Block → Bool
is_negation (Some open_block.Negation) = true
is_negation o = false

abbrev pub nests_badly : (place : ℕ) → (starts : ℕ → Option Bool) → (last : Bool) → List kept.Block → Instr → Bool
nests_badly p starts last ss (on.Either n) = nat_le nesting_limit (length ss) || not (unwrap_or (starts (p + n)) false)
nests_badly p starts last ss (on.Jump n) = not (is_left_to (p + 5) (innermost_side ss)) || not (is_some (starts (p + 5 + n)))
nests_badly p starts last ss (on.All d t) = nat_le nesting_limit (length ss)
nests_badly p starts last ss (on.Assume ns ts rs) = nat_le nesting_limit (length ss)
nests_badly p starts last ss on.Not = nat_le nesting_limit (length ss)
nests_badly p starts last ss on.EndAll = not (is_all (innermost_side ss))
nests_badly p starts last ss on.EndAssume = not (is_assumption (innermost_side ss))
nests_badly p starts last ss on.EndNot = not (is_negation (innermost_side ss))
nests_badly p starts last ss on.Proceed = not (has_none ss) || not last
nests_badly p starts last ss i = false
