-- A record at work with other numbers: registers, goals and blocks go along.
use Rattle.std.proofs.Common.{◌≡◌, ◌∙◌, ◌+◌, ℕ, zero, suc, List, [], ◌∷◌, map, Bool, true, false, Option, Some, None, ap, refl, sym}
use Rattle.std.specs.Prelude.{if◌then◌else◌, option_map, slice_set, unwrap_or}
use Rattle.lp_calculus.specs.Types.{Ty, no_types, con}
use Rattle.lp_calculus.specs.Term.{index}
use Rattle.lp_calculus.specs.Typing.{o_type}
use Rattle.lp_term.specs.Mapped.{Map, mapped, mapped_type}
use Rattle.lp_model.specs.Flat.{Goal, Goals, Exists, Forall, no_goals, goals, add_goals, map_goal}
use Rattle.lp_code.specs.Symbolic.{Built, Registers, held, type_in, types_in, term_in, terms_in, set_type, set_term, plain_terms}
use Rattle.lp_code.specs.States.{Block, under_sigma, under_all, under_assumption, under_not, left_side, right_side, Frame, State, bind_goals, one_goal, with_goal, Ended, end_variables, is_sigma, innermost_block, depth}
use Rattle.lp_code.specs.Steps.{goal_of_block, leave_block, leave_from, leave, is_right_end, settled}
use Rattle.lp_link.specs.Renumbering.{moving}
use Rattle.lp_link.specs.inner.Renumbering.{moved_built, moved_registers, moved_term, same_depth, moved_goals, moved_block, moved_frame, moved_state}
use Rattle.lp_link.proofs.MovedGoals.{goals_bound}

-- what stands in registers
pub held_moved : {A B : Type 0} (f : A → B) (xs : List (Option A)) (r : ℕ) → held (map (option_map f) xs) r ≡ option_map f (held xs r)
held_moved f [] r = refl
held_moved f (None ∷ xs) zero = refl
held_moved f (Some x ∷ xs) zero = refl
held_moved f (x ∷ xs) (suc r) = held_moved f xs r

pub set_moved : {A B : Type 0} (f : A → B) (xs : List A) (d : ℕ) (x : A) → slice_set (map f xs) d (f x) ≡ map f (slice_set xs d x)
set_moved f [] d x = refl
set_moved f (y ∷ ys) zero x = refl
set_moved f (y ∷ ys) (suc d) x = ap (λ l. f y ∷ l) (set_moved f ys d x)

unwrapped : {A B : Type 0} (f : A → B) (o : Option A) (x : A) (y : B) → f x ≡ y → unwrap_or (option_map f o) y ≡ f (unwrap_or o x)
unwrapped f None x y e = sym e
unwrapped f (Some z) x y e = refl

module _ (f g : ℕ → ℕ) (n : ℕ) (proposition : f 0 ≡ 0) where
  abbrev m : Map
  m = moving f g n

  same_o : mapped_type m o_type ≡ o_type
  same_o = ap (λ k. con k no_types) proposition

  pub type_in_moved : (s : Registers) (t : ℕ) → type_in (moved_registers m s) t ≡ mapped_type m (type_in s t)
  type_in_moved s t = ap (λ o. unwrap_or o o_type) (held_moved (mapped_type m) s.types t) ∙ unwrapped (mapped_type m) (held s.types t) o_type o_type same_o

  pub types_in_moved : (s : Registers) (ts : List ℕ) → types_in (moved_registers m s) ts ≡ map (mapped_type m) (types_in s ts)
  types_in_moved s [] = refl
  types_in_moved s (t ∷ ts) = λ j. type_in_moved s t j ∷ types_in_moved s ts j

  abbrev nothing : Built
  nothing = record { term = index 0; type = o_type; loose = [] }

  same_nothing : moved_built m nothing ≡ nothing
  same_nothing = λ j. record { term = index 0; type = same_o j; loose = [] }

  pub term_in_moved : (s : Registers) (r : ℕ) → term_in (moved_registers m s) r ≡ moved_built m (term_in s r)
  term_in_moved s r = ap (λ o. unwrap_or o nothing) (held_moved (moved_built m) s.terms r) ∙ unwrapped (moved_built m) (held s.terms r) nothing nothing same_nothing

  pub terms_in_moved : (s : Registers) (rs : List ℕ) → terms_in (moved_registers m s) rs ≡ map (moved_built m) (terms_in s rs)
  terms_in_moved s [] = refl
  terms_in_moved s (r ∷ rs) = λ j. term_in_moved s r j ∷ terms_in_moved s rs j

  pub plain_moved : (bs : List Built) → plain_terms (map (moved_built m) bs) ≡ map (mapped m) (plain_terms bs)
  plain_moved [] = refl
  plain_moved (b ∷ bs) = ap (λ l. mapped m b.term ∷ l) (plain_moved bs)

  pub set_type_moved : (s : Registers) (d : ℕ) (T : Ty) → set_type (moved_registers m s) d (mapped_type m T) ≡ moved_registers m (set_type s d T)
  set_type_moved s d T = ap (λ ts. record { types = ts; terms = map (option_map (moved_built m)) s.terms }) (set_moved (option_map (mapped_type m)) s.types d (Some T))

  pub set_term_moved : (s : Registers) (d : ℕ) (b : Built) → set_term (moved_registers m s) d (moved_built m b) ≡ moved_registers m (set_term s d b)
  set_term_moved s d b = ap (λ ts. record { types = map (option_map (mapped_type m)) s.types; terms = ts }) (set_moved (option_map (moved_built m)) s.terms d (Some b))

  -- goals, one behind the other
  abbrev moved_goal : Goal → Goal
  moved_goal x = map_goal same_depth (moved_term m) (mapped_type m) 0 x

  added_moved : (gs hs : Goals) → add_goals (moved_goals m 0 gs) (moved_goals m 0 hs) ≡ moved_goals m 0 (add_goals gs hs)
  added_moved no_goals hs = refl
  added_moved (goals x gs) hs = ap (goals (moved_goal x)) (added_moved gs hs)

  pub with_goal_moved : (gs : Goals) (x : Goal) → with_goal (moved_goals m 0 gs) (moved_goal x) ≡ moved_goals m 0 (with_goal gs x)
  with_goal_moved gs x = added_moved gs (one_goal x)

  -- blocks of variables that end
  abbrev moved_ended : Ended → Ended
  moved_ended e = record { goals = moved_goals m 0 e.goals; frames = map (moved_frame m) e.frames }

  abbrev frame : Block → ℕ → Goals → Registers → Frame
  frame b k before regs = record { block = b; from = k; before = before; registers = regs }

  abbrev Ends : (home : ℕ) → Goals → List Frame → Type 0
  Ends home gs fs = end_variables (home + n) (moved_goals m 0 gs) (map (moved_frame m) fs) ≡ moved_ended (end_variables home gs fs)

  one_ended : (home : ℕ) (gs : Goals) (b : Block) (k : ℕ) (before : Goals) (regs : Registers) (fs : List Frame) → ((hs : Goals) → Ends home hs fs) → Ends home gs (frame b k before regs ∷ fs)
  one_ended home gs (under_sigma r T) k before regs fs go =
      let bound = bind_goals (r ∷ []) home gs in
      ap (λ hs. end_variables (home + n) (with_goal (moved_goals m 0 before) (Exists (mapped_type m T) hs)) (map (moved_frame m) fs)) (sym (goals_bound f g n (r ∷ []) home 0 0 gs))
      ∙ ap (λ hs. end_variables (home + n) hs (map (moved_frame m) fs)) (with_goal_moved before (Exists T bound)) ∙ go (with_goal before (Exists T bound))
  one_ended home gs (under_all r T) k before regs fs go = refl
  one_ended home gs (under_assumption cs) k before regs fs go = refl
  one_ended home gs under_not k before regs fs go = refl
  one_ended home gs (left_side e) k before regs fs go = refl
  one_ended home gs (right_side e l) k before regs fs go = refl

  pub ended_moved : (home : ℕ) (gs : Goals) (fs : List Frame) → Ends home gs fs
  ended_moved home gs [] = refl
  ended_moved home gs (x ∷ fs) = one_ended home gs x.block x.from x.before x.registers fs (λ hs. ended_moved home hs fs)

  -- how deep blocks nest
  pub depth_moved : (fs : List Frame) → depth (map (moved_frame m) fs) ≡ depth fs
  depth_moved [] = refl
  depth_moved (x ∷ fs) = by x.block (depth_moved fs)
    where
      by : (b : Block) → depth (map (moved_frame m) fs) ≡ depth fs → (if is_sigma (moved_block m b) then depth (map (moved_frame m) fs) else suc
          (depth (map (moved_frame m) fs))) ≡ (if is_sigma b then depth fs else suc (depth fs))
      by (under_sigma r T) e = e
      by (under_all r T) e = ap (λ k. suc k) e
      by (under_assumption cs) e = ap (λ k. suc k) e
      by under_not e = ap (λ k. suc k) e
      by (left_side k) e = ap (λ k. suc k) e
      by (right_side k l) e = ap (λ k. suc k) e

  -- a block that an instruction ends
  block_moved : (home : ℕ) (b : Block) (gs : Goals) → goal_of_block (home + n) (moved_block m b) (moved_goals m 0 gs) ≡ option_map moved_goal (goal_of_block home b gs)
  block_moved home (under_sigma r T) gs = refl
  block_moved home (under_all r T) gs = ap (λ hs. Some (Forall (mapped_type m T) hs)) (sym (goals_bound f g n (r ∷ []) home 0 0 gs))
  block_moved home (under_assumption cs) gs = refl
  block_moved home under_not gs = refl
  block_moved home (left_side e) gs = refl
  block_moved home (right_side e l) gs = refl

  abbrev at_rest : State → State
  at_rest s = moved_state m n s

  left_block : (s : State) (x : Frame) (fs : List Frame) (o : Option Goal) → leave_block (at_rest s) (moved_frame m x) (map (moved_frame m) fs)
      (option_map moved_goal o) ≡ at_rest (leave_block s x fs o)
  left_block s x fs None = refl
  left_block s x fs (Some y) = ap (λ gs. record (at_rest s) { now = moved_registers m x.registers; goals = gs; frames = map (moved_frame m) fs }) (with_goal_moved x.before y)

  left_from : (home : ℕ) (s : State) (gs : Goals) (fs : List Frame) → leave_from (home + n) (at_rest s) (moved_goals m 0 gs) (map (moved_frame m) fs) ≡ at_rest (leave_from home s gs fs)
  left_from home s gs [] = refl
  left_from home s gs (x ∷ fs) = ap (leave_block (at_rest s) (moved_frame m x) (map (moved_frame m) fs)) (block_moved home x.block gs) ∙ left_block s x fs (goal_of_block home x.block gs)

  pub leave_moved : (home : ℕ) (s : State) → leave (home + n) (at_rest s) ≡ at_rest (leave home s)
  leave_moved home s =
      let e = ended_moved home s.goals s.frames in
      ap (λ (x : Ended). leave_from (home + n) (at_rest s) x.goals x.frames) e ∙ left_from home s (end_variables home s.goals s.frames).goals (end_variables home s.goals s.frames).frames

  -- right sides that end at a place
  pub innermost_moved : (fs : List Frame) → innermost_block (map (moved_frame m) fs) ≡ option_map (moved_block m) (innermost_block fs)
  innermost_moved [] = refl
  innermost_moved (x ∷ fs) = by x.block (innermost_moved fs)
    where
      by : (b : Block) → innermost_block (map (moved_frame m) fs) ≡ option_map (moved_block m) (innermost_block fs)
          → (if is_sigma (moved_block m b) then innermost_block (map (moved_frame m) fs) else Some (moved_block m b)) ≡ option_map (moved_block m) (if is_sigma b then innermost_block fs else Some b)
      by (under_sigma r T) e = e
      by (under_all r T) e = refl
      by (under_assumption cs) e = refl
      by under_not e = refl
      by (left_side k) e = refl
      by (right_side k l) e = refl

  right_end : (p : ℕ) (o : Option Block) → is_right_end p (option_map (moved_block m) o) ≡ is_right_end p o
  right_end p None = refl
  right_end p (Some (under_sigma r T)) = refl
  right_end p (Some (under_all r T)) = refl
  right_end p (Some (under_assumption cs)) = refl
  right_end p (Some under_not) = refl
  right_end p (Some (left_side k)) = refl
  right_end p (Some (right_side k l)) = refl

  pub settled_moved : (home k : ℕ) (s : State) → settled (home + n) k (at_rest s) ≡ at_rest (settled home k s)
  settled_moved home zero s = refl
  settled_moved home (suc k) s =
      ap (λ b. if b then settled (home + n) k (leave (home + n) (at_rest s)) else at_rest s) (ap (is_right_end s.place) (innermost_moved s.frames) ∙ right_end s.place (innermost_block s.frames))
      ∙ ap (λ t. if is_right_end s.place (innermost_block s.frames) then settled (home + n) k t else at_rest s) (leave_moved home s) ∙ by
      (is_right_end s.place (innermost_block s.frames)) (settled_moved home k (leave home s))
    where
      by : (b : Bool) → settled (home + n) k (at_rest (leave home s)) ≡ at_rest (settled home k (leave home s)) →
          (if b then settled (home + n) k (at_rest (leave home s)) else at_rest s) ≡ at_rest (if b then settled home k (leave home s) else s)
      by true e = e
      by false e = refl
