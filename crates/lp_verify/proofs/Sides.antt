-- What the instructions do to the open blocks of a state, those of variables left out.
use Rattle.std.proofs.Common.{◌≡◌, ◌∙◌, ◌≤◌, ℕ, zero, suc, ◌+◌, List, [], ◌∷◌, length, Bool, true, false, Option, Some, None, ap, refl, sym, arith}
use Rattle.std.specs.Prelude.{nat_le, not, ◌||◌, if◌then◌else◌, is_some}
use Rattle.std.specs.List.{list_any}
use Rattle.lp_model.specs.Flat.{Goals}
use Rattle.lp_code.specs.declared.instruction.Instr.TheVariants as on
use Rattle.lp_code.specs.Symbolic.{Registers}
use Rattle.lp_code.specs.States.{Block, under_sigma, under_all, under_assumption, under_not, left_side, right_side, Frame, State, end_variables, innermost_block, depth}
use Rattle.lp_code.specs.Steps.{leave_from, leave, turn_from, turn, is_right_end, settled}
use Rattle.lp_code.specs.Rules.{has_none, is_left_end, ends_block, is_passed}
use Rattle.lp_verify.specs.declared.blocks.Block as kept
use Rattle.lp_verify.specs.declared.blocks.Block.TheVariants as open_block
use Rattle.lp_verify.specs.inner.Sides.{sides_of, with_side, innermost_side, ends_at, ends_there, is_past, sides_settled, sides_left, sides_turned, is_left_to, is_all, is_assumption, is_negation}

abbrev pub framed : Block → ℕ → Goals → Registers → Frame
framed b n gs rs = record { block = b; from = n; before = gs; registers = rs }

-- the variables of a block end with it
ended_block : (home : ℕ) (gs : Goals) (fs : List Frame) (b : Block) (n : ℕ) (before : Goals) (rs : Registers) → ((gs : Goals) → sides_of (end_variables home gs fs).frames ≡ sides_of fs)
    → sides_of (end_variables home gs (framed b n before rs ∷ fs)).frames ≡ with_side b (sides_of fs)
ended_block home gs fs (under_sigma r T) n before rs h = h _
ended_block home gs fs (under_all r T) n before rs h = refl
ended_block home gs fs (under_assumption cs) n before rs h = refl
ended_block home gs fs under_not n before rs h = refl
ended_block home gs fs (left_side e) n before rs h = refl
ended_block home gs fs (right_side e l) n before rs h = refl

pub sides_ended : (home : ℕ) (gs : Goals) (fs : List Frame) → sides_of (end_variables home gs fs).frames ≡ sides_of fs
sides_ended home gs [] = refl
sides_ended home gs (f ∷ fs) = ended_block home gs fs f.block f.from f.before f.registers (λ gs. sides_ended home gs fs)

-- what is left behind a block, of frames
abbrev frames_left : (home : ℕ) → State → Goals → List Frame → List Frame
frames_left home s gs fs = (leave_from home s (end_variables home gs fs).goals (end_variables home gs fs).frames).frames

block_left : (home : ℕ) (s : State) (gs : Goals) (fs : List Frame) (b : Block) (n : ℕ) (before : Goals) (rs : Registers) → sides_of s.frames ≡ with_side b (sides_of fs)
    → (sides_of s.frames ≡ sides_of fs → (gs : Goals) → sides_of (frames_left home s gs fs) ≡ sides_left (sides_of fs)) → sides_of (frames_left home s gs (framed b n before rs ∷ fs)) ≡ sides_left (with_side b (sides_of fs))
block_left home s gs fs (under_sigma r T) n before rs e h = h e _
block_left home s gs fs (under_all r T) n before rs e h = refl
block_left home s gs fs (under_assumption cs) n before rs e h = refl
block_left home s gs fs under_not n before rs e h = refl
block_left home s gs fs (left_side m) n before rs e h = e
block_left home s gs fs (right_side m l) n before rs e h = refl

from_left : (home : ℕ) (s : State) (gs : Goals) (fs : List Frame) → sides_of s.frames ≡ sides_of fs → sides_of (frames_left home s gs fs) ≡ sides_left (sides_of fs)
from_left home s gs [] e = e
from_left home s gs (f ∷ fs) e = block_left home s gs fs f.block f.from f.before f.registers e (λ e gs. from_left home s gs fs e)

pub sides_behind : (home : ℕ) (s : State) → sides_of (leave home s).frames ≡ sides_left (sides_of s.frames)
sides_behind home s = from_left home s s.goals s.frames refl

-- a left side gives way to its right side
abbrev frames_turned : (home : ℕ) → State → ℕ → Goals → List Frame → List Frame
frames_turned home s n gs fs = (turn_from s n (end_variables home gs fs).goals (end_variables home gs fs).frames).frames

block_turned : (home : ℕ) (s : State) (m : ℕ) (gs : Goals) (fs : List Frame) (b : Block) (n : ℕ) (before : Goals) (rs : Registers) → sides_of s.frames ≡ with_side b (sides_of fs)
    → (sides_of s.frames ≡ sides_of fs → (gs : Goals) → sides_of (frames_turned home s m gs fs) ≡ sides_turned (s.place + 5 + m) (sides_of fs)) → sides_of (frames_turned home s m gs (framed b n before rs ∷ fs)) ≡ sides_turned (s.place + 5 + m) (with_side b (sides_of fs))
block_turned home s m gs fs (under_sigma r T) n before rs e h = h e _
block_turned home s m gs fs (under_all r T) n before rs e h = refl
block_turned home s m gs fs (under_assumption cs) n before rs e h = refl
block_turned home s m gs fs under_not n before rs e h = refl
block_turned home s m gs fs (left_side k) n before rs e h = refl
block_turned home s m gs fs (right_side k l) n before rs e h = refl

from_turned : (home : ℕ) (s : State) (m : ℕ) (gs : Goals) (fs : List Frame) → sides_of s.frames ≡ sides_of fs → sides_of (frames_turned home s m gs fs) ≡ sides_turned (s.place + 5 + m) (sides_of fs)
from_turned home s m gs [] e = e
from_turned home s m gs (f ∷ fs) e = block_turned home s m gs fs f.block f.from f.before f.registers e (λ e gs. from_turned home s m gs fs e)

pub sides_given : (home : ℕ) (s : State) (m : ℕ) → sides_of (turn home s m).frames ≡ sides_turned (s.place + 5 + m) (sides_of s.frames)
sides_given home s m = from_turned home s m s.goals s.frames refl

-- how deep they nest
deep_block : (fs : List Frame) (b : Block) (n : ℕ) (before : Goals) (rs : Registers) → depth fs ≡ length (sides_of fs) → depth (framed b n before rs ∷ fs) ≡ length (with_side b (sides_of fs))
deep_block fs (under_sigma r T) n before rs h = h
deep_block fs (under_all r T) n before rs h = ap (λ n. suc n) h
deep_block fs (under_assumption cs) n before rs h = ap (λ n. suc n) h
deep_block fs under_not n before rs h = ap (λ n. suc n) h
deep_block fs (left_side m) n before rs h = ap (λ n. suc n) h
deep_block fs (right_side m l) n before rs h = ap (λ n. suc n) h

pub sides_deep : (fs : List Frame) → depth fs ≡ length (sides_of fs)
sides_deep [] = refl
sides_deep (f ∷ fs) = deep_block fs f.block f.from f.before f.registers (sides_deep fs)

-- the innermost one
abbrev seen : Block → Option kept.Block
seen b = innermost_side (with_side b [])

abbrev seen_of : Option Block → Option kept.Block
seen_of None = None
seen_of (Some b) = seen b

inner_block : (fs : List Frame) (b : Block) (n : ℕ) (before : Goals) (rs : Registers) → seen_of (innermost_block fs) ≡ innermost_side (sides_of fs) → seen_of (innermost_block (framed b n before rs ∷ fs)) ≡ innermost_side (with_side b (sides_of fs))
inner_block fs (under_sigma r T) n before rs h = h
inner_block fs (under_all r T) n before rs h = refl
inner_block fs (under_assumption cs) n before rs h = refl
inner_block fs under_not n before rs h = refl
inner_block fs (left_side m) n before rs h = refl
inner_block fs (right_side m l) n before rs h = refl

seen_innermost : (fs : List Frame) → seen_of (innermost_block fs) ≡ innermost_side (sides_of fs)
seen_innermost [] = refl
seen_innermost (f ∷ fs) = inner_block fs f.block f.from f.before f.registers (seen_innermost fs)

-- it is never one of a variable
abbrev IsNoVariable : Option Block → Type 0
IsNoVariable (Some (under_sigma r T)) = ⊥
IsNoVariable o = Unit {0}

plain_block : (fs : List Frame) (b : Block) (n : ℕ) (before : Goals) (rs : Registers) → IsNoVariable (innermost_block fs) → IsNoVariable (innermost_block (framed b n before rs ∷ fs))
plain_block fs (under_sigma r T) n before rs h = h
plain_block fs (under_all r T) n before rs h = tt
plain_block fs (under_assumption cs) n before rs h = tt
plain_block fs under_not n before rs h = tt
plain_block fs (left_side m) n before rs h = tt
plain_block fs (right_side m l) n before rs h = tt

plain_innermost : (fs : List Frame) → IsNoVariable (innermost_block fs)
plain_innermost [] = tt
plain_innermost (f ∷ fs) = plain_block fs f.block f.from f.before f.registers (plain_innermost fs)

right_seen : (p : ℕ) (o : Option Block) → is_right_end p o ≡ ends_there p (seen_of o)
right_seen p None = refl
right_seen p (Some (under_sigma r T)) = refl
right_seen p (Some (under_all r T)) = refl
right_seen p (Some (under_assumption cs)) = refl
right_seen p (Some under_not) = refl
right_seen p (Some (left_side n)) = refl
right_seen p (Some (right_side n l)) = refl

left_seen : (p : ℕ) (o : Option Block) → is_left_end p o ≡ is_left_to p (seen_of o)
left_seen p None = refl
left_seen p (Some (under_sigma r T)) = refl
left_seen p (Some (under_all r T)) = refl
left_seen p (Some (under_assumption cs)) = refl
left_seen p (Some under_not) = refl
left_seen p (Some (left_side n)) = refl
left_seen p (Some (right_side n l)) = refl

all_seen : (o : Option Block) → ends_block on.EndAll o ≡ is_all (seen_of o)
all_seen None = refl
all_seen (Some (under_sigma r T)) = refl
all_seen (Some (under_all r T)) = refl
all_seen (Some (under_assumption cs)) = refl
all_seen (Some under_not) = refl
all_seen (Some (left_side n)) = refl
all_seen (Some (right_side n l)) = refl

assumption_seen : (o : Option Block) → ends_block on.EndAssume o ≡ is_assumption (seen_of o)
assumption_seen None = refl
assumption_seen (Some (under_sigma r T)) = refl
assumption_seen (Some (under_all r T)) = refl
assumption_seen (Some (under_assumption cs)) = refl
assumption_seen (Some under_not) = refl
assumption_seen (Some (left_side n)) = refl
assumption_seen (Some (right_side n l)) = refl

negation_seen : (o : Option Block) → ends_block on.EndNot o ≡ is_negation (seen_of o)
negation_seen None = refl
negation_seen (Some (under_sigma r T)) = refl
negation_seen (Some (under_all r T)) = refl
negation_seen (Some (under_assumption cs)) = refl
negation_seen (Some under_not) = refl
negation_seen (Some (left_side n)) = refl
negation_seen (Some (right_side n l)) = refl

some_seen : (o : Option Block) → IsNoVariable o → is_some o ≡ is_some (seen_of o)
some_seen None h = refl
some_seen (Some (under_sigma r T)) h = absurd h
some_seen (Some (under_all r T)) h = refl
some_seen (Some (under_assumption cs)) h = refl
some_seen (Some under_not) h = refl
some_seen (Some (left_side n)) h = refl
some_seen (Some (right_side n l)) h = refl

is_innermost : (ss : List kept.Block) → is_some (innermost_side ss) ≡ not (has_none ss)
is_innermost [] = refl
is_innermost (s ∷ ss) = refl

pub same_right : (p : ℕ) (fs : List Frame) → is_right_end p (innermost_block fs) ≡ ends_there p (innermost_side (sides_of fs))
same_right p fs = right_seen p (innermost_block fs) ∙ ap (ends_there p) (seen_innermost fs)

pub same_left : (p : ℕ) (fs : List Frame) → is_left_to p (innermost_side (sides_of fs)) ≡ is_left_end p (innermost_block fs)
same_left p fs = sym (left_seen p (innermost_block fs) ∙ ap (is_left_to p) (seen_innermost fs))

pub same_all : (fs : List Frame) → is_all (innermost_side (sides_of fs)) ≡ ends_block on.EndAll (innermost_block fs)
same_all fs = sym (all_seen (innermost_block fs) ∙ ap is_all (seen_innermost fs))

pub same_assumption : (fs : List Frame) → is_assumption (innermost_side (sides_of fs)) ≡ ends_block on.EndAssume (innermost_block fs)
same_assumption fs = sym (assumption_seen (innermost_block fs) ∙ ap is_assumption (seen_innermost fs))

pub same_negation : (fs : List Frame) → is_negation (innermost_side (sides_of fs)) ≡ ends_block on.EndNot (innermost_block fs)
same_negation fs = sym (negation_seen (innermost_block fs) ∙ ap is_negation (seen_innermost fs))

pub same_none : (fs : List Frame) → not (has_none (sides_of fs)) ≡ is_some (innermost_block fs)
same_none fs = sym (some_seen (innermost_block fs) (plain_innermost fs) ∙ ap is_some (seen_innermost fs) ∙ is_innermost (sides_of fs))

-- a side that should have ended
past_block : (p : ℕ) (fs : List Frame) (b : Block) (n : ℕ) (before : Goals) (rs : Registers) → list_any (is_past p) (sides_of fs) ≡ list_any (is_passed p) fs → list_any (is_past p) (with_side b (sides_of fs)) ≡ list_any (is_passed p) (framed b n before rs ∷ fs)
past_block p fs (under_sigma r T) n before rs h = h
past_block p fs (under_all r T) n before rs h = h
past_block p fs (under_assumption cs) n before rs h = h
past_block p fs under_not n before rs h = h
past_block p fs (left_side m) n before rs h = ap (λ b. nat_le m p || b) h
past_block p fs (right_side m l) n before rs h = ap (λ b. nat_le m p || b) h

pub same_past : (p : ℕ) (fs : List Frame) → list_any (is_past p) (sides_of fs) ≡ list_any (is_passed p) fs
same_past p [] = refl
same_past p (f ∷ fs) = past_block p fs f.block f.from f.before f.registers (same_past p fs)

-- right sides that end are left
pub ended_is : (p : ℕ) (s : kept.Block) (ss : List kept.Block) → ends_at p s ≡ true → sides_left (s ∷ ss) ≡ ss
ended_is p open_block.All ss h = absurd (cc)
ended_is p open_block.Assumption ss h = absurd (cc)
ended_is p open_block.Negation ss h = absurd (cc)
ended_is p (open_block.Left n) ss h = absurd (cc)
ended_is p (open_block.Right n) ss h = refl

settle_one : (home n : ℕ) (s : State) (x : kept.Block) (ss : List kept.Block) (b : Bool) → ends_at s.place x ≡ b → sides_of s.frames ≡ x ∷ ss
    → (sides_of (leave home s).frames ≡ ss → sides_of (settled home n (leave home s)).frames ≡ sides_settled s.place ss)
    → sides_of (if b then settled home n (leave home s) else s).frames ≡ (if b then sides_settled s.place ss else x ∷ ss)
settle_one home n s x ss true h e go = go (sides_behind home s ∙ ap sides_left e ∙ ended_is s.place x ss h)
settle_one home n s x ss false h e go = e

abbrev unended : (b : Bool) → (home n : ℕ) → State → State
unended b home n s = if b then settled home n (leave home s) else s

pub sides_settle : (home n : ℕ) (s : State) (ss : List kept.Block) → sides_of s.frames ≡ ss → length ss ≤ n → ((home : ℕ) (s : State) → (leave home s).place ≡ s.place) → sides_of (settled home n s).frames ≡ sides_settled s.place ss
sides_settle home zero s [] e l stays = e
sides_settle home zero s (x ∷ ss) e l stays = absurd (omega (arith, l))
sides_settle home (suc n) s [] e l stays = ap (λ b. sides_of (unended b home n s).frames) (same_right s.place s.frames ∙ ap (λ l. ends_there s.place (innermost_side l)) e) ∙ e
sides_settle home (suc n) s (x ∷ ss) e l stays =
    ap (λ b. sides_of (unended b home n s).frames) (same_right s.place s.frames ∙ ap (λ l. ends_there s.place (innermost_side l)) e)
    ∙ settle_one home n s x ss (ends_at s.place x) refl e (λ f. sides_settle home n (leave home s) ss f (omega (arith, l)) stays ∙ ap (λ p. sides_settled p ss) (stays home s))
