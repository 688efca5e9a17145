-- A run without the goals that it collects: no rule looks at them, nor at the clauses of an assumption.
use Rattle.std.proofs.Common.{◌≡◌, ◌∙◌, ℕ, zero, suc, ◌+◌, List, [], ◌∷◌, Bool, true, false, Option, Some, None, ap, refl, sym}
use Rattle.std.specs.Prelude.{nat_eq, nat_le, not, ◌||◌, if◌then◌else◌, option_map, is_some}
use Rattle.std.specs.List.{list_any}
use Rattle.lp_model.specs.Flat.{Goals, no_goals, no_clauses}
use Rattle.lp_code.specs.declared.instruction.Instr.{Instr}
use Rattle.lp_code.specs.declared.instruction.Instr.TheVariants as on
use Rattle.lp_code.specs.declared.record.RecordHead.{RecordHead}
use Rattle.lp_code.specs.declared.record.RecordHead.TheVariants.{Const, Register}
use Rattle.lp_code.specs.declared.rule.Rule.{Rule}
use Rattle.lp_code.specs.declared.rule.Rule.TheVariants as rule
use Rattle.lp_code.specs.Symbolic.{Registers}
use Rattle.lp_code.specs.States.{Block, under_sigma, under_all, under_assumption, under_not, left_side, right_side, Frame, State, Home, end_variables, is_sigma, innermost_block, depth}
use Rattle.lp_code.specs.Steps.{leave_from, leave, turn_from, turn, settled, is_right_end}
use Rattle.lp_code.specs.Rules.{nesting_limit, breaks_type, breaks_order, breaks_head, breaks_clause, breaks_nesting, has_none, is_passed, side_is_passed, is_left_end, ends_block, ends_with_jump, begins_behind, is_too_deep}
use Rattle.lp_code.specs.Denote.{broken_by_record, broken_by, broken_of, first_broken, rules, heads, head_passes}

-- a state without its goals

abbrev pub bare : Block → Block
bare (under_sigma r T) = under_sigma r T
bare (under_all r T) = under_all r T
bare (under_assumption cs) = under_assumption no_clauses
bare under_not = under_not
bare (left_side n) = left_side n
bare (right_side n l) = right_side n no_goals

abbrev pub bare_frame : Frame → Frame
bare_frame f = record { block = bare f.block; from = f.from; before = no_goals; registers = f.registers }

abbrev pub bare_frames : List Frame → List Frame
bare_frames [] = []
bare_frames (f ∷ fs) = bare_frame f ∷ bare_frames fs

abbrev pub goalless : State → State
goalless s = record s { goals = no_goals; frames = bare_frames s.frames }

-- what the rules see of blocks

sigma_same : (b : Block) → is_sigma (bare b) ≡ is_sigma b
sigma_same (under_sigma r T) = refl
sigma_same (under_all r T) = refl
sigma_same (under_assumption cs) = refl
sigma_same under_not = refl
sigma_same (left_side n) = refl
sigma_same (right_side n l) = refl

passed_side : (p : ℕ) (b : Block) → side_is_passed p (bare b) ≡ side_is_passed p b
passed_side p (under_sigma r T) = refl
passed_side p (under_all r T) = refl
passed_side p (under_assumption cs) = refl
passed_side p under_not = refl
passed_side p (left_side n) = refl
passed_side p (right_side n l) = refl

passed_same : (p : ℕ) (fs : List Frame) → list_any (is_passed p) (bare_frames fs) ≡ list_any (is_passed p) fs
passed_same p [] = refl
passed_same p (f ∷ fs) = λ j. passed_side p f.block j || passed_same p fs j

innermost_same : (fs : List Frame) → innermost_block (bare_frames fs) ≡ option_map bare (innermost_block fs)
innermost_same [] = refl
innermost_same (f ∷ fs) = by_block f.block (innermost_same fs)
  where
    by_block : (b : Block) → innermost_block (bare_frames fs) ≡ option_map bare (innermost_block fs)
        → (if is_sigma (bare b) then innermost_block (bare_frames fs) else Some (bare b)) ≡ option_map bare (if is_sigma b then innermost_block fs else Some b)
    by_block (under_sigma r T) h = h
    by_block (under_all r T) h = refl
    by_block (under_assumption cs) h = refl
    by_block under_not h = refl
    by_block (left_side n) h = refl
    by_block (right_side n l) h = refl

pub depth_same : (fs : List Frame) → depth (bare_frames fs) ≡ depth fs
depth_same [] = refl
depth_same (f ∷ fs) = λ j. if sigma_same f.block j then depth_same fs j else suc (depth_same fs j)

left_same : (p : ℕ) (o : Option Block) → is_left_end p (option_map bare o) ≡ is_left_end p o
left_same p None = refl
left_same p (Some (under_sigma r T)) = refl
left_same p (Some (under_all r T)) = refl
left_same p (Some (under_assumption cs)) = refl
left_same p (Some under_not) = refl
left_same p (Some (left_side n)) = refl
left_same p (Some (right_side n l)) = refl

right_same : (p : ℕ) (o : Option Block) → is_right_end p (option_map bare o) ≡ is_right_end p o
right_same p None = refl
right_same p (Some (under_sigma r T)) = refl
right_same p (Some (under_all r T)) = refl
right_same p (Some (under_assumption cs)) = refl
right_same p (Some under_not) = refl
right_same p (Some (left_side n)) = refl
right_same p (Some (right_side n l)) = refl

some_same : (o : Option Block) → is_some (option_map bare o) ≡ is_some o
some_same None = refl
some_same (Some b) = refl

abbrev EndAlike : Option Block → Option Block → Type 0
EndAlike o p = (ends_block on.EndAll o ≡ ends_block on.EndAll p) × (ends_block on.EndAssume o ≡ ends_block on.EndAssume p) × (ends_block on.EndNot o ≡ ends_block on.EndNot p)

ends_same : (o : Option Block) → EndAlike (option_map bare o) o
ends_same None = (refl, refl, refl)
ends_same (Some (under_sigma r T)) = (refl, refl, refl)
ends_same (Some (under_all r T)) = (refl, refl, refl)
ends_same (Some (under_assumption cs)) = (refl, refl, refl)
ends_same (Some under_not) = (refl, refl, refl)
ends_same (Some (left_side n)) = (refl, refl, refl)
ends_same (Some (right_side n l)) = (refl, refl, refl)

ends_alike : (fs : List Frame) → EndAlike (innermost_block (bare_frames fs)) (innermost_block fs)
ends_alike fs =
    let e = innermost_same fs in
    let h = ends_same (innermost_block fs) in
    (ap (ends_block on.EndAll) e ∙ h.0, ap (ends_block on.EndAssume) e ∙ h.1, ap (ends_block on.EndNot) e ∙ h.2)

at_left : (p : ℕ) (fs : List Frame) → is_left_end p (innermost_block (bare_frames fs)) ≡ is_left_end p (innermost_block fs)
at_left p fs = ap (is_left_end p) (innermost_same fs) ∙ left_same p (innermost_block fs)

at_right : (p : ℕ) (fs : List Frame) → is_right_end p (innermost_block (bare_frames fs)) ≡ is_right_end p (innermost_block fs)
at_right p fs = ap (is_right_end p) (innermost_same fs) ∙ right_same p (innermost_block fs)

some_open : (fs : List Frame) → is_some (innermost_block (bare_frames fs)) ≡ is_some (innermost_block fs)
some_open fs = ap is_some (innermost_same fs) ∙ some_same (innermost_block fs)

too_deep : (s : State) → is_too_deep (goalless s) ≡ is_too_deep s
too_deep s = ap (nat_le nesting_limit) (depth_same s.frames)

-- what the rules see of a state

abbrev SeenAlike : Home → (s u : State) → (rest : List Instr) → Instr → Type 0
SeenAlike h s u rest i =
    (breaks_type h s i ≡ breaks_type h u i) × (breaks_order s i ≡ breaks_order u i) × (breaks_head h s i ≡ breaks_head h u i) × (breaks_clause h s i ≡ breaks_clause h u i) × (breaks_nesting s rest i ≡ breaks_nesting u rest i)

instr_same : (h : Home) (s : State) (rest : List Instr) (i : Instr) → SeenAlike h (goalless s) s rest i
instr_same h s rest (on.TyCon d k ts) = (refl, refl, refl, refl, refl)
instr_same h s rest (on.TyArr d a b) = (refl, refl, refl, refl, refl)
instr_same h s rest (on.TyNew d) = (refl, refl, refl, refl, refl)
instr_same h s rest (on.New d t) = (refl, refl, refl, refl, refl)
instr_same h s rest (on.PutConst d c ts) = (refl, refl, refl, refl, refl)
instr_same h s rest (on.PutInt d z) = (refl, refl, refl, refl, refl)
instr_same h s rest (on.PutStr d b) = (refl, refl, refl, refl, refl)
instr_same h s rest (on.PutIndex d x t) = (refl, refl, refl, refl, refl)
instr_same h s rest (on.PutAbs d b t) = (refl, refl, refl, refl, refl)
instr_same h s rest (on.PutApp d g rs) = (refl, refl, refl, refl, refl)
instr_same h s rest (on.GetType j t) = (refl, refl, refl, refl, refl)
instr_same h s rest (on.GetVar x d) = (refl, refl, refl, refl, refl)
instr_same h s rest (on.Get x r) = (refl, refl, refl, refl, refl)
instr_same h s rest (on.GetConst x c ts) = (refl, refl, refl, refl, refl)
instr_same h s rest (on.GetInt x z) = (refl, refl, refl, refl, refl)
instr_same h s rest (on.GetStr x b) = (refl, refl, refl, refl, refl)
instr_same h s rest on.Neck = (refl, refl, refl, refl, refl)
instr_same h s rest (on.Call c ts rs) = (refl, refl, refl, refl, refl)
instr_same h s rest (on.CallTerm r) = (refl, refl, refl, refl, refl)
instr_same h s rest (on.Equal t l r) = (refl, refl, refl, refl, refl)
instr_same h s rest (on.Is t l r) = (refl, refl, refl, refl, refl)
instr_same h s rest (on.Less l r) = (refl, refl, refl, refl, refl)
instr_same h s rest (on.Greater l r) = (refl, refl, refl, refl, refl)
instr_same h s rest (on.AtMost l r) = (refl, refl, refl, refl, refl)
instr_same h s rest (on.AtLeast l r) = (refl, refl, refl, refl, refl)
instr_same h s rest on.Cut = (refl, refl, refl, refl, refl)
instr_same h s rest (on.Sigma d t) = (refl, refl, refl, refl, refl)
instr_same h s rest (on.All d t) = (refl, refl, refl, refl, too_deep s)
instr_same h s rest on.EndAll = (refl, refl, refl, refl, ap (λ b. not b) (ends_alike s.frames).0)
instr_same h s rest (on.Assume ns ts rs) = (refl, refl, refl, refl, too_deep s)
instr_same h s rest on.EndAssume = (refl, refl, refl, refl, ap (λ b. not b) (ends_alike s.frames).1)
instr_same h s rest (on.Either n) = (refl, refl, refl, refl, ap (λ d. nat_le nesting_limit d || not (ends_with_jump n rest)) (depth_same s.frames))
instr_same h s rest (on.Jump n) = (refl, refl, refl, refl, ap (λ b. not b || not (begins_behind n rest)) (at_left (s.place + 5) s.frames))
instr_same h s rest on.Proceed = (refl, refl, refl, refl, ap (λ b. b || not (has_none rest)) (some_open s.frames))
instr_same h s rest on.Not = (refl, refl, refl, refl, too_deep s)
instr_same h s rest on.EndNot = (refl, refl, refl, refl, ap (λ b. not b) (ends_alike s.frames).2)

rule_same : (h : Home) (s : State) (rest : List Instr) (i : Instr) (r : Rule) → broken_by h (goalless s) rest i r ≡ broken_by h s rest i r
rule_same h s rest i rule.Register = refl
rule_same h s rest i rule.Unset = refl
rule_same h s rest i rule.Set = refl
rule_same h s rest i rule.Constant = refl
rule_same h s rest i rule.Typing = (instr_same h s rest i).0
rule_same h s rest i rule.Index = refl
rule_same h s rest i rule.Term = refl
rule_same h s rest i rule.Order = (instr_same h s rest i).1
rule_same h s rest i rule.Head = (instr_same h s rest i).2
rule_same h s rest i rule.Block = λ j. passed_same s.place s.frames j || (instr_same h s rest i).4 j
rule_same h s rest i rule.Clause = (instr_same h s rest i).3
rule_same h s rest i rule.Key = refl

head_same : (h : Home) (s : State) (o : Option RecordHead) → head_passes (heads h (goalless s)) o ≡ head_passes (heads h s) o
head_same h s None = refl
head_same h s (Some (Const c)) = refl
head_same h s (Some (Register r)) = refl

whole_same : (h : Home) (s : State) (r : Rule) → broken_by_record h (goalless s) r ≡ broken_by_record h s r
whole_same h s rule.Register = refl
whole_same h s rule.Unset = refl
whole_same h s rule.Set = refl
whole_same h s rule.Constant = refl
whole_same h s rule.Typing = refl
whole_same h s rule.Index = refl
whole_same h s rule.Term = refl
whole_same h s rule.Order = refl
whole_same h s rule.Head = ap (λ b. not b) (head_same h s h.self.head)
whole_same h s rule.Block = refl
whole_same h s rule.Clause = refl
whole_same h s rule.Key = refl

broken_bare : (h : Home) (s : State) (is : List Instr) → broken_of rules h (goalless s) is ≡ broken_of rules h s is
broken_bare h s [] = λ j. if nat_eq s.place 0 then first_broken (λ r. whole_same h s r j) rules else None
broken_bare h s (i ∷ is) =
    λ j. if nat_eq s.place 0 then first_broken (λ r. whole_same h s r j || rule_same h s is i r j) rules else first_broken (λ r. rule_same h s is i r j) rules

-- states that agree but for their goals break the same rules
pub broken_same : (h : Home) (s u : State) (is : List Instr) → goalless s ≡ goalless u → broken_of rules h s is ≡ broken_of rules h u is
broken_same h s u is e = sym (broken_bare h s is) ∙ ap (λ x. broken_of rules h x is) e ∙ broken_bare h u is

-- what instructions do to blocks

bare_twice : (b : Block) → bare (bare b) ≡ bare b
bare_twice (under_sigma r T) = refl
bare_twice (under_all r T) = refl
bare_twice (under_assumption cs) = refl
bare_twice under_not = refl
bare_twice (left_side n) = refl
bare_twice (right_side n l) = refl

frames_twice : (fs : List Frame) → bare_frames (bare_frames fs) ≡ bare_frames fs
frames_twice [] = refl
frames_twice (f ∷ fs) = λ j. record { block = bare_twice f.block j; from = f.from; before = no_goals; registers = f.registers } ∷ frames_twice fs j

abbrev framed : Block → ℕ → Goals → Registers → Frame
framed b n before rs = record { block = b; from = n; before = before; registers = rs }

ended_same : (home : ℕ) (gs hs : Goals) (fs : List Frame) → (end_variables home gs (bare_frames fs)).frames ≡ bare_frames (end_variables home hs fs).frames
ended_same home gs hs [] = refl
ended_same home gs hs (f ∷ fs) = by_block f.block f.from f.before f.registers (λ gs hs. ended_same home gs hs fs)
  where
    by_block : (b : Block) (n : ℕ) (before : Goals) (rs : Registers) → ((gs hs : Goals) → (end_variables home gs (bare_frames fs)).frames ≡ bare_frames (end_variables home hs fs).frames)
        → (end_variables home gs (bare_frame (framed b n before rs) ∷ bare_frames fs)).frames ≡ bare_frames (end_variables home hs (framed b n before rs ∷ fs)).frames
    by_block (under_sigma r T) n before rs h = h _ _
    by_block (under_all r T) n before rs h = refl
    by_block (under_assumption cs) n before rs h = refl
    by_block under_not n before rs h = refl
    by_block (left_side e) n before rs h = refl
    by_block (right_side e l) n before rs h = refl

-- a block is left, of frames whose variables have ended
from_left : (home : ℕ) (s : State) (gs hs : Goals) (fs : List Frame) → goalless (leave_from home (goalless s) gs (bare_frames fs)) ≡ goalless (leave_from home s hs fs)
from_left home s gs hs [] = λ j. record s { goals = no_goals; frames = frames_twice s.frames j }
from_left home s gs hs (f ∷ fs) = by_block f.block f.from f.before f.registers
  where
    by_block : (b : Block) (n : ℕ) (before : Goals) (rs : Registers) → goalless (leave_from home (goalless s) gs (bare_frame (framed b n before rs) ∷ bare_frames fs)) ≡ goalless (leave_from home s hs (framed b n before rs ∷ fs))
    by_block (under_sigma r T) n before rs = λ j. record s { goals = no_goals; frames = frames_twice s.frames j }
    by_block (under_all r T) n before rs = λ j. record s { now = rs; goals = no_goals; frames = frames_twice fs j }
    by_block (under_assumption cs) n before rs = λ j. record s { now = rs; goals = no_goals; frames = frames_twice fs j }
    by_block under_not n before rs = λ j. record s { now = rs; goals = no_goals; frames = frames_twice fs j }
    by_block (left_side e) n before rs = λ j. record s { goals = no_goals; frames = frames_twice s.frames j }
    by_block (right_side e l) n before rs = λ j. record s { now = rs; goals = no_goals; frames = frames_twice fs j }

left_bare : (home : ℕ) (s : State) → goalless (leave home (goalless s)) ≡ goalless (leave home s)
left_bare home s =
    let gs = (end_variables home no_goals (bare_frames s.frames)).goals in
    let hs = (end_variables home s.goals s.frames).goals in
    ap (λ fs. goalless (leave_from home (goalless s) gs fs)) (ended_same home no_goals s.goals s.frames) ∙ from_left home s gs hs (end_variables home s.goals s.frames).frames

pub left_same_way : (home : ℕ) (s u : State) → goalless s ≡ goalless u → goalless (leave home s) ≡ goalless (leave home u)
left_same_way home s u e = sym (left_bare home s) ∙ ap (λ x. goalless (leave home x)) e ∙ left_bare home u

from_turned : (s : State) (n : ℕ) (gs hs : Goals) (fs : List Frame) → goalless (turn_from (goalless s) n gs (bare_frames fs)) ≡ goalless (turn_from s n hs fs)
from_turned s n gs hs [] = λ j. record s { goals = no_goals; frames = frames_twice s.frames j }
from_turned s n gs hs (f ∷ fs) = λ j. record s { now = f.registers; goals = no_goals; frames = framed (right_side (s.place + 5 + n) no_goals) s.place no_goals f.registers ∷ frames_twice fs j }

turned_bare : (home : ℕ) (s : State) (n : ℕ) → goalless (turn home (goalless s) n) ≡ goalless (turn home s n)
turned_bare home s n =
    let gs = (end_variables home no_goals (bare_frames s.frames)).goals in
    let hs = (end_variables home s.goals s.frames).goals in
    ap (λ fs. goalless (turn_from (goalless s) n gs fs)) (ended_same home no_goals s.goals s.frames) ∙ from_turned s n gs hs (end_variables home s.goals s.frames).frames

pub turned_same_way : (home : ℕ) (s u : State) (n : ℕ) → goalless s ≡ goalless u → goalless (turn home s n) ≡ goalless (turn home u n)
turned_same_way home s u n e = sym (turned_bare home s n) ∙ ap (λ x. goalless (turn home x n)) e ∙ turned_bare home u n

-- the variables of the record end
abbrev pub ended : (home : ℕ) → State → State
ended home s = record s { goals = (end_variables home s.goals s.frames).goals; frames = (end_variables home s.goals s.frames).frames }

ended_bare : (home : ℕ) (s : State) → goalless (ended home (goalless s)) ≡ goalless (ended home s)
ended_bare home s = (λ j. record s { goals = no_goals; frames = bare_frames (ended_same home no_goals s.goals s.frames j) }) ∙ (λ j. record s { goals = no_goals; frames = frames_twice (end_variables home s.goals s.frames).frames j })

pub ended_same_way : (home : ℕ) (s u : State) → goalless s ≡ goalless u → goalless (ended home s) ≡ goalless (ended home u)
ended_same_way home s u e = sym (ended_bare home s) ∙ ap (λ x. goalless (ended home x)) e ∙ ended_bare home u

-- right sides that end are left
right_end_same : (s u : State) → goalless s ≡ goalless u → is_right_end s.place (innermost_block s.frames) ≡ is_right_end u.place (innermost_block u.frames)
right_end_same s u e = sym (at_right s.place s.frames) ∙ ap (λ (x : State). is_right_end x.place (innermost_block x.frames)) e ∙ at_right u.place u.frames

either_way : (a b : Bool) (s u x y : State) → a ≡ b → goalless s ≡ goalless u → goalless x ≡ goalless y → goalless (if a then s else x) ≡ goalless (if b then u else y)
either_way true true s u x y t e f = e
either_way false false s u x y t e f = f
either_way true false s u x y t e f = absurd (cc)
either_way false true s u x y t e f = absurd (cc)

pub settled_same_way : (home n : ℕ) (s u : State) → goalless s ≡ goalless u → goalless (settled home n s) ≡ goalless (settled home n u)
settled_same_way home zero s u e = e
settled_same_way home (suc n) s u e =
    either_way (is_right_end s.place (innermost_block s.frames)) (is_right_end u.place (innermost_block u.frames)) (settled home n (leave home s)) (settled home n (leave home u)) s u (right_end_same s u e)
    (settled_same_way home n (leave home s) (leave home u) (left_same_way home s u e)) e
