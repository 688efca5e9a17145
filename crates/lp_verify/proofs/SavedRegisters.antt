-- What the instructions do to the registers of a state, and to those that stood before each open block.
use Rattle.std.proofs.Common.{◌≡◌, ◌∙◌, ◌≤◌, ℕ, zero, suc, List, [], ◌∷◌, map, length, Bool, true, false, ap, refl, sym, arith}
use Rattle.std.specs.Prelude.{if◌then◌else◌}
use Rattle.lp_calculus.specs.Types.{Ty}
use Rattle.lp_model.specs.Flat.{Goals}
use Rattle.lp_code.specs.Symbolic.{Built, Registers}
use Rattle.lp_code.specs.States.{Block, under_sigma, under_all, under_assumption, under_not, left_side, right_side, Frame, State, end_variables}
use Rattle.lp_code.specs.Steps.{leave_from, leave, turn_from, turn, settled}
use Rattle.lp_verify.specs.declared.blocks.Block as kept
use Rattle.lp_verify.specs.declared.blocks.Block.TheVariants as open_block
use Rattle.lp_verify.specs.inner.Sides.{sides_of, with_side, innermost_side, ends_at, ends_there, sides_left, sides_turned, around}
use Rattle.lp_verify.specs.inner.Stack.{with_saved, saved_of, stack_of, types_in_stack, terms_in_stack, doubled, without_inner, Turning, stays, opens, leaves, turns_over, stack_turned, stack_settled, stack_left, stack_given, with_first, with_made}
use Rattle.lp_verify.proofs.Sides.{framed, same_right, sides_behind, ended_is}

-- the variables of a block end with it
ended_block : (home : ℕ) (gs : Goals) (fs : List Frame) (b : Block) (n : ℕ) (before : Goals) (rs : Registers) → ((gs : Goals) → saved_of (end_variables home gs fs).frames ≡ saved_of fs)
    → saved_of (end_variables home gs (framed b n before rs ∷ fs)).frames ≡ with_saved b rs (saved_of fs)
ended_block home gs fs (under_sigma r T) n before rs h = h _
ended_block home gs fs (under_all r T) n before rs h = refl
ended_block home gs fs (under_assumption cs) n before rs h = refl
ended_block home gs fs under_not n before rs h = refl
ended_block home gs fs (left_side e) n before rs h = refl
ended_block home gs fs (right_side e l) n before rs h = refl

pub saved_ended : (home : ℕ) (gs : Goals) (fs : List Frame) → saved_of (end_variables home gs fs).frames ≡ saved_of fs
saved_ended home gs [] = refl
saved_ended home gs (f ∷ fs) = ended_block home gs fs f.block f.from f.before f.registers (λ gs. saved_ended home gs fs)

-- behind a block
abbrev left_of : (home : ℕ) → State → Goals → List Frame → State
left_of home s gs fs = leave_from home s (end_variables home gs fs).goals (end_variables home gs fs).frames

block_left : (home : ℕ) (s : State) (gs : Goals) (fs : List Frame) (b : Block) (n : ℕ) (before : Goals) (rs : Registers) → saved_of s.frames ≡ with_saved b rs (saved_of fs)
    → (saved_of s.frames ≡ saved_of fs → (gs : Goals) → stack_of (left_of home s gs fs) ≡ stack_left (sides_of fs) (s.now ∷ saved_of fs))
    → stack_of (left_of home s gs (framed b n before rs ∷ fs)) ≡ stack_left (with_side b (sides_of fs)) (s.now ∷ with_saved b rs (saved_of fs))
block_left home s gs fs (under_sigma r T) n before rs e h = h e _
block_left home s gs fs (under_all r T) n before rs e h = refl
block_left home s gs fs (under_assumption cs) n before rs e h = refl
block_left home s gs fs under_not n before rs e h = refl
block_left home s gs fs (left_side m) n before rs e h = ap (λ l. s.now ∷ l) e
block_left home s gs fs (right_side m l) n before rs e h = refl

from_left : (home : ℕ) (s : State) (gs : Goals) (fs : List Frame) → saved_of s.frames ≡ saved_of fs → stack_of (left_of home s gs fs) ≡ stack_left (sides_of fs) (s.now ∷ saved_of fs)
from_left home s gs [] e = ap (λ l. s.now ∷ l) e
from_left home s gs (f ∷ fs) e = block_left home s gs fs f.block f.from f.before f.registers e (λ e gs. from_left home s gs fs e)

stack_behind : (home : ℕ) (s : State) → stack_of (leave home s) ≡ stack_left (sides_of s.frames) (stack_of s)
stack_behind home s = from_left home s s.goals s.frames refl

-- a left side gives way: the same registers stand before the right one
abbrev turned_of : (home : ℕ) → State → ℕ → Goals → List Frame → State
turned_of home s n gs fs = turn_from s n (end_variables home gs fs).goals (end_variables home gs fs).frames

block_turned : (home : ℕ) (s : State) (m : ℕ) (gs : Goals) (fs : List Frame) (b : Block) (n : ℕ) (before : Goals) (rs : Registers) → saved_of s.frames ≡ with_saved b rs (saved_of fs)
    → (saved_of s.frames ≡ saved_of fs → (gs : Goals) → stack_of (turned_of home s m gs fs) ≡ stack_given (s.now ∷ saved_of fs)) → stack_of (turned_of home s m gs (framed b n before rs ∷ fs)) ≡ stack_given (s.now ∷ with_saved b rs (saved_of fs))
block_turned home s m gs fs (under_sigma r T) n before rs e h = h e _
block_turned home s m gs fs (under_all r T) n before rs e h = refl
block_turned home s m gs fs (under_assumption cs) n before rs e h = refl
block_turned home s m gs fs under_not n before rs e h = refl
block_turned home s m gs fs (left_side k) n before rs e h = refl
block_turned home s m gs fs (right_side k l) n before rs e h = refl

from_turned : (home : ℕ) (s : State) (m : ℕ) (gs : Goals) (fs : List Frame) → saved_of s.frames ≡ saved_of fs → stack_of (turned_of home s m gs fs) ≡ stack_given (s.now ∷ saved_of fs)
from_turned home s m gs [] e = ap (λ l. s.now ∷ l) e
from_turned home s m gs (f ∷ fs) e = block_turned home s m gs fs f.block f.from f.before f.registers e (λ e gs. from_turned home s m gs fs e)

-- there are as many registers as blocks
side_block : (b : Block) (rs : Registers) (ss : List kept.Block) (gs : List Registers) → length gs ≡ length ss → length (with_saved b rs gs) ≡ length (with_side b ss)
side_block (under_sigma r T) rs ss gs e = e
side_block (under_all r T) rs ss gs e = ap (λ n. suc n) e
side_block (under_assumption cs) rs ss gs e = ap (λ n. suc n) e
side_block under_not rs ss gs e = ap (λ n. suc n) e
side_block (left_side m) rs ss gs e = ap (λ n. suc n) e
side_block (right_side m l) rs ss gs e = ap (λ n. suc n) e

as_many : (fs : List Frame) → length (saved_of fs) ≡ length (sides_of fs)
as_many [] = refl
as_many (f ∷ fs) = side_block f.block f.registers (sides_of fs) (saved_of fs) (as_many fs)

-- an end, where the innermost block is no left side
with_none : (T : Ty) (b : Built) (gs : List Registers) → with_made [] T [] b gs ≡ gs
with_none T b [] = refl
with_none T b (g ∷ gs) = refl

no_left : {A : Type 0} (ss : List kept.Block) (xs : List A) → around ss ≡ sides_left ss → stack_left ss xs ≡ without_inner xs
no_left [] xs e = refl
no_left (open_block.All ∷ ss) xs e = refl
no_left (open_block.Assumption ∷ ss) xs e = refl
no_left (open_block.Negation ∷ ss) xs e = refl
no_left (open_block.Left n ∷ ss) xs e = let l : length ss ≡ suc (length ss) = ap length e in absurd (omega (arith, l))
no_left (open_block.Right n ∷ ss) xs e = refl

pub stack_leaves : (home : ℕ) (s : State) (T : Ty) (b : Built) → around (sides_of s.frames) ≡ sides_left (sides_of s.frames) → stack_of (leave home s) ≡ with_made [] T [] b (without_inner (stack_of s))
stack_leaves home s T b e = stack_behind home s ∙ no_left (sides_of s.frames) (stack_of s) e ∙ sym (with_none T b (without_inner (stack_of s)))

-- a left side that gives way, where there is one
given_over : (now : Registers) (gs : List Registers) (n : ℕ) → length gs ≡ suc n → stack_given (now ∷ gs) ≡ doubled (without_inner (now ∷ gs))
given_over now [] n e = absurd (omega (arith, e))
given_over now (g ∷ gs) n e = refl

pub over_there : (m : ℕ) (ss : List kept.Block) → open_block.Right m ∷ around ss ≡ sides_turned m ss → (n : ℕ) × (length ss ≡ suc n)
over_there m [] e = absurd (cc)
over_there m (s ∷ ss) e = (length ss, refl)

pub stack_turns_over : (home : ℕ) (s : State) (m n : ℕ) (T : Ty) (b : Built) → length (sides_of s.frames) ≡ suc n → stack_of (turn home s m) ≡ with_made [] T [] b (doubled (without_inner (stack_of s)))
stack_turns_over home s m n T b e =
    from_turned home s m s.goals s.frames refl ∙ given_over s.now (saved_of s.frames) n (as_many s.frames ∙ e) ∙ sym (with_none T b (doubled (without_inner (stack_of s))))

-- right sides that end are left
settle_one : (home n : ℕ) (s : State) (x : kept.Block) (ss : List kept.Block) (b : Bool) → ends_at s.place x ≡ b → sides_of s.frames ≡ x ∷ ss
    → (stack_of (leave home s) ≡ without_inner (stack_of s) → sides_of (leave home s).frames ≡ ss → stack_of (settled home n (leave home s)) ≡ stack_settled s.place ss (without_inner (stack_of s)))
    → stack_of (if b then settled home n (leave home s) else s) ≡ (if b then stack_settled s.place ss (without_inner (stack_of s)) else stack_of s)
settle_one home n s x ss true h e go = go (stack_behind home s ∙ ap (λ l. stack_left l (stack_of s)) e ∙ ended_stack s.place x ss (stack_of s) h) (sides_behind home s ∙ ap sides_left e ∙ ended_is s.place x ss h)
  where
    ended_stack : {A : Type 0} (p : ℕ) (x : kept.Block) (ss : List kept.Block) (xs : List A) → ends_at p x ≡ true → stack_left (x ∷ ss) xs ≡ without_inner xs
    ended_stack p open_block.All ss xs h = refl
    ended_stack p open_block.Assumption ss xs h = refl
    ended_stack p open_block.Negation ss xs h = refl
    ended_stack p (open_block.Left n) ss xs h = absurd (cc)
    ended_stack p (open_block.Right n) ss xs h = refl
settle_one home n s x ss false h e go = refl

abbrev unended : (b : Bool) → (home n : ℕ) → State → State
unended b home n s = if b then settled home n (leave home s) else s

pub stack_settle : (home n : ℕ) (s : State) (ss : List kept.Block) → sides_of s.frames ≡ ss → length ss ≤ n → ((home : ℕ) (s : State) → (leave home s).place ≡ s.place) → stack_of (settled home n s) ≡ stack_settled s.place ss (stack_of s)
stack_settle home zero s [] e l still = refl
stack_settle home zero s (x ∷ ss) e l still = absurd (omega (arith, l))
stack_settle home (suc n) s [] e l still = ap (λ b. stack_of (unended b home n s)) (same_right s.place s.frames ∙ ap (λ l. ends_there s.place (innermost_side l)) e)
stack_settle home (suc n) s (x ∷ ss) e l still =
    ap (λ b. stack_of (unended b home n s)) (same_right s.place s.frames ∙ ap (λ l. ends_there s.place (innermost_side l)) e)
    ∙ settle_one home n s x ss (ends_at s.place x) refl e (λ st f. stack_settle home n (leave home s) ss f (omega (arith, l)) still ∙ (λ j. stack_settled (still home s j) ss (st j)))

-- the types, and the terms, of a stack
pub types_made : (ts : List ℕ) (T : Ty) (rs : List ℕ) (b : Built) (gs : List Registers) → types_in_stack (with_made ts T rs b gs) ≡ with_first ts T (types_in_stack gs)
types_made ts T rs b [] = refl
types_made ts T rs b (g ∷ gs) = refl

pub terms_made : (ts : List ℕ) (T : Ty) (rs : List ℕ) (b : Built) (gs : List Registers) → terms_in_stack (with_made ts T rs b gs) ≡ with_first rs b (terms_in_stack gs)
terms_made ts T rs b [] = refl
terms_made ts T rs b (g ∷ gs) = refl

map_doubled : {A B : Type 0} (f : A → B) (xs : List A) → map f (doubled xs) ≡ doubled (map f xs)
map_doubled f [] = refl
map_doubled f (x ∷ xs) = refl

map_without : {A B : Type 0} (f : A → B) (xs : List A) → map f (without_inner xs) ≡ without_inner (map f xs)
map_without f [] = refl
map_without f (x ∷ []) = refl
map_without f (x ∷ y ∷ ys) = refl

pub map_turned : {A B : Type 0} (f : A → B) (t : Turning) (xs : List A) → map f (stack_turned t xs) ≡ stack_turned t (map f xs)
map_turned f stays xs = refl
map_turned f opens xs = map_doubled f xs
map_turned f leaves xs = map_without f xs
map_turned f turns_over xs = map_doubled f (without_inner xs) ∙ ap doubled (map_without f xs)

pub map_settled : {A B : Type 0} (f : A → B) (p : ℕ) (ss : List kept.Block) (xs : List A) → map f (stack_settled p ss xs) ≡ stack_settled p ss (map f xs)
map_settled f p [] xs = refl
map_settled f p (s ∷ ss) xs = by_end (ends_at p s) (map_settled f p ss (without_inner xs) ∙ ap (stack_settled p ss) (map_without f xs))
  where
    by_end : (b : Bool) → map f (stack_settled p ss (without_inner xs)) ≡ stack_settled p ss (without_inner (map f xs)) → map f (if b then stack_settled p ss (without_inner xs) else xs) ≡ (if b then stack_settled p ss (without_inner (map f xs)) else map f xs)
    by_end true h = h
    by_end false h = refl
