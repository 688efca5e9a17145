-- A record at work: where its instructions stand, what they have built, and the blocks that are open.
use Rattle.std.specs.Prelude.{ℕ, zero, suc, nat_eq, Bool, true, false, ◌||◌, if◌then◌else◌, List, [], ◌∷◌, ◌++◌, Option, Some, None}
use Rattle.lp_calculus.specs.Types.{Ty}
use Rattle.lp_calculus.specs.Term.{Term, index, atom, logic}
use Rattle.lp_calculus.specs.Fill.{close}
use Rattle.lp_model.specs.Flat.{Goal, Goals, Clauses, Exists, no_goals, goals, add_goals, map_goals, same_type}
use Rattle.lp_code.specs.declared.record.Record.{Record}
use Rattle.lp_code.specs.Symbolic.{Tables, Built, Registers}

-- an open block: one of each kind that an instruction opens, and that of a variable, which goes to the end of the block around it
pub data Block : Type 0 where
  under_sigma : (register : ℕ) → Ty → Block
  under_all : (register : ℕ) → Ty → Block
  under_assumption : Clauses → Block
  under_not : Block
  -- the offset at which the side ends
  left_side : (end : ℕ) → Block
  right_side : (end : ℕ) → (left : Goals) → Block

-- a block, with the offset of the instruction that opened it, the goals before it and what was set there
pub record Frame : Type 0 where
  pub block : Block
  pub from : ℕ
  pub before : Goals
  pub registers : Registers

-- what an assumed record starts with
pub record Captured : Type 0 where
  pub types : List Ty
  pub terms : List Built

pub record State : Type 0 where
  -- the offset of the next instruction
  pub place : ℕ
  pub now : Registers
  -- what was set so far, on any path
  pub types_set : List ℕ
  pub terms_set : List ℕ
  -- behind the head
  pub in_body : Bool
  pub head_types : List Ty
  pub head_arguments : List Built
  -- the goals of the innermost block so far, and the open blocks, innermost first
  pub goals : Goals
  pub frames : List Frame
  -- the records that were assumed so far, with what they start with
  pub assumed : List (ℕ × Captured)

-- the record, its number, and all records
pub record Home : Type 0 where
  pub tables : Tables
  pub records : List Record
  pub number : ℕ
  pub self : Record

abbrev pub member : ℕ → List ℕ → Bool
member r [] = false
member r (s ∷ ss) = nat_eq r s || member r ss

-- the numbers below n that pass a test, ascending
abbrev pub passing : (n : ℕ) → (ℕ → Bool) → List ℕ
passing zero test = []
passing (suc n) test = passing n test ++ (if test n then n ∷ [] else [])

-- variables of a record get indices: each the place of its register in a list, below d binders
abbrev pub placed : (registers : List ℕ) → (d : ℕ) → (r : ℕ) → Option ℕ
placed [] d r = None
placed (s ∷ ss) d r = if nat_eq r s then Some d else placed ss (suc d) r

abbrev pub index_or : Option ℕ → Term → Term
index_or None t = t
index_or (Some i) t = index i

abbrev pub bound_at : (registers : List ℕ) → (home d r h : ℕ) → Term
bound_at registers home d r h = index_or (if nat_eq h home then placed registers d r else None) (atom (logic r h))

abbrev pub bind_term : (registers : List ℕ) → (home d : ℕ) → Term → Term
bind_term registers home d t = close (bound_at registers home d) t

abbrev pub bind_goals : (registers : List ℕ) → (home : ℕ) → Goals → Goals
bind_goals registers home gs = map_goals suc (bind_term registers home) same_type 0 gs

-- one goal more
abbrev pub one_goal : Goal → Goals
one_goal g = goals g no_goals

abbrev pub with_goal : Goals → Goal → Goals
with_goal gs g = add_goals gs (one_goal g)

-- the goals of a block, with its variables ended, and the blocks around it
pub record Ended : Type 0 where
  pub goals : Goals
  pub frames : List Frame

abbrev pub end_variables : (home : ℕ) → Goals → List Frame → Ended
end_variables home gs [] = record { goals = gs; frames = [] }
end_variables home gs (f ∷ fs) = elim f.block [
  | under_sigma r T ↦ end_variables home (with_goal f.before (Exists T (bind_goals (r ∷ []) home gs))) fs
  | under_all r T ↦ record { goals = gs; frames = f ∷ fs }
  | under_assumption cs ↦ record { goals = gs; frames = f ∷ fs }
  | under_not ↦ record { goals = gs; frames = f ∷ fs }
  | left_side n ↦ record { goals = gs; frames = f ∷ fs }
  | right_side n l ↦ record { goals = gs; frames = f ∷ fs }
]

abbrev pub is_sigma : Block → Bool
is_sigma (under_sigma r T) = true
is_sigma b = false

-- the innermost block that an instruction ends
abbrev pub innermost_block : List Frame → Option Block
innermost_block [] = None
innermost_block (f ∷ fs) = if is_sigma f.block then innermost_block fs else Some f.block

-- how deep blocks nest, those of variables not counted
abbrev pub depth : List Frame → ℕ
depth [] = 0
depth (f ∷ fs) = if is_sigma f.block then depth fs else suc (depth fs)
