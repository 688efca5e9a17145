-- What an instruction does to the outline of a state.
use Rattle.std.proofs.Common.{◌≡◌, ◌∙◌, ℕ, zero, suc, ◌+◌, List, [], ◌∷◌, ◌++◌, map, length, Bool, true, false, Option, Some, None, ap, refl, sym, subst, arith}
use Rattle.std.specs.Prelude.{option_map, not, ◌||◌, if◌then◌else◌}
use Rattle.lp_lemmas.proofs.Booleans.{or_false_left}
use Rattle.lp_lemmas.proofs.Lists.{length_push_suc, append_nil_sym}
use Rattle.lp_model.specs.Flat.{Goal, Goals, no_goals, Clauses, no_clauses, clauses, clause}
use Rattle.lp_calculus.specs.Term.{index, atom, integer, text}
use Rattle.lp_calculus.specs.Typing.{o_type, int_type, string_type}
use Rattle.lp_calculus.specs.Types.{Ty}
use Rattle.lp_code.specs.Symbolic.{Built, Registers, whole, variable, term_in, types_in}
use Rattle.lp_code.specs.declared.instruction.Instr.{Instr}
use Rattle.lp_code.specs.declared.instruction.Instr.TheVariants as on
use Rattle.lp_code.specs.Length.{length_of}
use Rattle.lp_code.specs.Operands.{type_set, term_set}
use Rattle.lp_code.specs.States.{Frame, Captured, State, Home, end_variables, innermost_block, depth, under_assumption}
use Rattle.lp_code.specs.Steps.{put_term, argument_at, constant_of, with_argument, opens, leave_block, leave_from, leave, turn_from, turn, goal_of_block, effect, clauses_of_records, captured_by, handed, is_right_end, settled, passed, after}
use Rattle.lp_code.specs.Denote.{any_clause}
use Rattle.lp_verify.specs.inner.Sides.{sides_of, sides_run, sides_acted, sides_settled}
use Rattle.lp_verify.specs.inner.Stack.{stack_of, types_in_stack, terms_in_stack, turning, stack_turned, stack_settled, set_all, with_first, with_made}
use Rattle.lp_verify.specs.inner.Made.{nothing_built, type_made, term_made}
use Rattle.lp_verify.specs.inner.Handed.{assumption_of, handed_on}
use Rattle.lp_verify.proofs.SavedRegisters.{saved_ended, stack_leaves, over_there, stack_turns_over, stack_settle, types_made, terms_made, map_turned, map_settled}
use Rattle.lp_verify.proofs.Sides.{sides_ended, sides_behind, sides_given, sides_deep, sides_settle}
use Rattle.lp_verify.specs.inner.Outline.{Outline, outline, body_behind, types_behind, arguments_behind, with_more, taken_by, outline_behind}
use Rattle.lp_code.specs.Rules.{names_of, breaks_order, breaks_nesting, ends_block, is_left_end, begins_behind}
use Rattle.lp_verify.specs.inner.Taken.{argument_made}

block_left : (s : State) (f : Frame) (fs : List Frame) (o : Option Goal) → outline (leave_block s f fs o) ≡ outline s
block_left s f fs None = refl
block_left s f fs (Some g) = refl

from_left : (home : ℕ) (s : State) (gs : Goals) (fs : List Frame) → outline (leave_from home s gs fs) ≡ outline s
from_left home s gs [] = refl
from_left home s gs (f ∷ fs) = block_left s f fs (goal_of_block home f.block gs)

left : (home : ℕ) (s : State) → outline (leave home s) ≡ outline s
left home s = from_left home s (end_variables home s.goals s.frames).goals (end_variables home s.goals s.frames).frames

from_turned : (s : State) (n : ℕ) (gs : Goals) (fs : List Frame) → outline (turn_from s n gs fs) ≡ outline s
from_turned s n gs [] = refl
from_turned s n gs (f ∷ fs) = refl

turned : (home : ℕ) (s : State) (n : ℕ) → outline (turn home s n) ≡ outline s
turned home s n = from_turned s n (end_variables home s.goals s.frames).goals (end_variables home s.goals s.frames).frames

settled_if : (home n : ℕ) (s : State) (b : Bool) → outline (settled home n (leave home s)) ≡ outline (leave home s) → outline (if b then settled home n (leave home s) else s) ≡ outline s
settled_if home n s true h = h ∙ left home s
settled_if home n s false h = refl

settles : (home n : ℕ) (s : State) → outline (settled home n s) ≡ outline s
settles home zero s = refl
settles home (suc n) s = settled_if home n s (is_right_end s.place (innermost_block s.frames)) (settles home n (leave home s))

-- what an instruction does before it is passed
abbrev pub acted : Instr → (handed : List (ℕ × Captured)) → (taken : List Ty) → Outline → Outline
acted i cs us o = record {
  place = o.place;
  types_set = o.types_set;
  terms_set = o.terms_set;
  in_body = body_behind i o.in_body;
  types = types_behind i o.types;
  taken = with_more o.taken us;
  arguments = arguments_behind i o.arguments;
  named = with_more o.named (names_of i);
  assumed = with_more o.assumed cs;
}

abbrev stack_made : Home → State → Instr → List Registers
stack_made h s i = with_made (type_set i) (type_made h s i) (term_set i) (term_made h s i) (stack_turned (turning i) (stack_of s))

-- blocks nest
abbrev pub Nests : Instr → State → Type 0
Nests i s = sides_run i s.place (sides_of s.frames) ≡ sides_acted i s.place (sides_of s.frames)

-- an instruction comes to a state
pub record Comes (h : Home) (s : State) (i : Instr) : Type 0 where
  pub to : State
  pub comes : effect h any_clause s i ≡ Some to
  pub outlined : outline to ≡ acted i (handed_on s (assumption_of i)) (taken_by s i) (outline s)
  pub sided : sides_of to.frames ≡ sides_acted i s.place (sides_of s.frames)
  pub stacked : Nests i s → stack_of to ≡ stack_made h s i

pub any_clauses : (c : Captured) (ns : List ℕ) → (cs : Clauses) × (clauses_of_records any_clause ns c ≡ Some cs)
any_clauses c [] = (no_clauses, refl)
any_clauses c (n ∷ ns) =
    let more = any_clauses c ns in
    (clauses (clause 0 [] (index 0) no_goals) more.0, ap (option_map (clauses (clause 0 [] (index 0) no_goals))) more.1)

came : (h : Home) (s : State) (i : Instr) (t : State) → effect h any_clause s i ≡ Some t → outline t ≡ acted i (handed_on s (assumption_of i)) (taken_by s i) (outline s) → sides_of t.frames ≡ sides_acted i s.place (sides_of s.frames) → (Nests i s → stack_of t ≡ stack_made h s i)
    → Comes h s i
came h s i t e o b st = record { to = t; comes = e; outlined = o; sided = b; stacked = st }

took : (s : State) (b : Built) → outline (with_argument s b) ≡ record (outline s) { arguments = suc (length s.head_arguments) }
took s b = ap (λ n. record (outline s) { arguments = n }) (length_push_suc s.head_arguments b)

took_type : (s : State) (T : Ty) → outline (record s { head_types = s.head_types ++ T ∷ [] }) ≡ record (outline s) { types = suc (length s.head_types); taken = s.head_types ++ T ∷ [] }
took_type s T = ap (λ n. record (outline s) { types = n; taken = s.head_types ++ T ∷ [] }) (length_push_suc s.head_types T)

abbrev assuming : Home → State → (ns ts rs : List ℕ) → Clauses → State
assuming h s ns ts rs cs = record (opens s (under_assumption cs)) { assumed = s.assumed ++ handed ns (captured_by s ts rs) }

pub with_more_is : {A : Type 0} (ns ms : List A) → with_more ns ms ≡ ns ++ ms
with_more_is ns [] = append_nil_sym ns
with_more_is ns (m ∷ ms) = refl

names_handed : (ns : List ℕ) (c : Captured) → map (λ a. a.0) (handed ns c) ≡ ns
names_handed [] c = refl
names_handed (n ∷ ns) c = ap (λ ms. n ∷ ms) (names_handed ns c)

names_added : (xs : List (ℕ × Captured)) (ns : List ℕ) (c : Captured) → map (λ a. a.0) (xs ++ handed ns c) ≡ map (λ a. a.0) xs ++ ns
names_added [] ns c = names_handed ns c
names_added (x ∷ xs) ns c = ap (λ ms. x.0 ∷ ms) (names_added xs ns c)

assumed_named : (h : Home) (s : State) (ns ts rs : List ℕ) (cs : Clauses) → outline (assuming h s ns ts rs cs) ≡ record (outline s) { named = with_more (map (λ a. a.0) s.assumed) ns; assumed = with_more s.assumed (handed ns (captured_by s ts rs)) }
assumed_named h s ns ts rs cs =
    let named = names_added s.assumed ns (captured_by s ts rs) ∙ sym (with_more_is (map (λ a. a.0) s.assumed) ns) in
    let more = sym (with_more_is s.assumed (handed ns (captured_by s ts rs))) in
    λ j. record (outline s) { named = named j; assumed = more j }

pub comes : (h : Home) (s : State) (i : Instr) → Comes h s i
comes h s (on.TyCon d k ts) = came h s (on.TyCon d k ts) _ refl refl refl (λ e. refl)
comes h s (on.TyArr d a b) = came h s (on.TyArr d a b) _ refl refl refl (λ e. refl)
comes h s (on.TyNew d) = came h s (on.TyNew d) _ refl refl refl (λ e. refl)
comes h s (on.New d t) = came h s (on.New d t) _ refl refl refl (λ e. refl)
comes h s (on.PutConst d c ts) = came h s (on.PutConst d c ts) _ refl refl refl (λ e. refl)
comes h s (on.PutInt d z) = came h s (on.PutInt d z) _ refl refl refl (λ e. refl)
comes h s (on.PutStr d b) = came h s (on.PutStr d b) _ refl refl refl (λ e. refl)
comes h s (on.PutIndex d i t) = came h s (on.PutIndex d i t) _ refl refl refl (λ e. refl)
comes h s (on.PutAbs d b t) = came h s (on.PutAbs d b t) _ refl refl refl (λ e. refl)
comes h s (on.PutApp d f rs) = came h s (on.PutApp d f rs) _ refl refl refl (λ e. refl)
comes h s (on.GetType j t) = came h s (on.GetType j t) _ refl (took_type s _) refl (λ e. refl)
comes h s (on.GetVar i d) = came h s (on.GetVar i d) (with_argument (put_term s d (whole (variable d h.number) (argument_at h s i)))
    (whole (variable d h.number) (argument_at h s i))) refl (took (put_term s d (whole (variable d h.number) (argument_at h s i)))
    (whole (variable d h.number) (argument_at h s i))) refl (λ e. refl)
comes h s (on.Get i r) = came h s (on.Get i r) (with_argument s (term_in s.now r)) refl (took s (term_in s.now r)) refl (λ e. refl)
comes h s (on.GetConst i c ts) = came h s (on.GetConst i c ts) (with_argument s (constant_of h.tables c (types_in s.now ts.items))) refl (took s (constant_of h.tables c (types_in s.now ts.items))) refl (λ e. refl)
comes h s (on.GetInt i z) = came h s (on.GetInt i z) (with_argument s (whole (atom (integer z)) int_type)) refl (took s (whole (atom (integer z)) int_type)) refl (λ e. refl)
comes h s (on.GetStr i b) = came h s (on.GetStr i b) (with_argument s (whole (atom (text b.items)) string_type)) refl (took s (whole (atom (text b.items)) string_type)) refl (λ e. refl)
comes h s on.Neck = came h s on.Neck _ refl refl refl (λ e. refl)
comes h s (on.Call c ts rs) = came h s (on.Call c ts rs) _ refl refl refl (λ e. refl)
comes h s (on.CallTerm r) = came h s (on.CallTerm r) _ refl refl refl (λ e. refl)
comes h s (on.Equal t l r) = came h s (on.Equal t l r) _ refl refl refl (λ e. refl)
comes h s (on.Is t l r) = came h s (on.Is t l r) _ refl refl refl (λ e. refl)
comes h s (on.Less l r) = came h s (on.Less l r) _ refl refl refl (λ e. refl)
comes h s (on.Greater l r) = came h s (on.Greater l r) _ refl refl refl (λ e. refl)
comes h s (on.AtMost l r) = came h s (on.AtMost l r) _ refl refl refl (λ e. refl)
comes h s (on.AtLeast l r) = came h s (on.AtLeast l r) _ refl refl refl (λ e. refl)
comes h s on.Cut = came h s on.Cut _ refl refl refl (λ e. refl)
comes h s (on.Sigma d t) = came h s (on.Sigma d t) _ refl refl refl (λ e. refl)
comes h s (on.All d t) = came h s (on.All d t) _ refl refl refl (λ e. refl)
comes h s on.EndAll = came h s on.EndAll _ refl (left h.number s) (sides_behind h.number s) (λ e. stack_leaves h.number s o_type nothing_built e)
comes h s (on.Assume ns ts rs) = let cs = any_clauses (captured_by s ts.items rs.items) ns.items in came h s (on.Assume ns ts rs)
    (assuming h s ns.items ts.items rs.items cs.0) (ap (option_map (assuming h s ns.items ts.items rs.items)) cs.1)
    (assumed_named h s ns.items ts.items rs.items cs.0) refl (λ e. refl)
comes h s on.EndAssume = came h s on.EndAssume _ refl (left h.number s) (sides_behind h.number s) (λ e. stack_leaves h.number s o_type nothing_built e)
comes h s (on.Either n) = came h s (on.Either n) _ refl refl refl (λ e. refl)
comes h s (on.Jump n) = came h s (on.Jump n) _ refl (turned h.number s n) (sides_given h.number s n) (λ e. let m = over_there (s.place + 5 + n) (sides_of s.frames) e in stack_turns_over h.number s n m.0 o_type nothing_built m.1)
comes h s on.Proceed = came h s on.Proceed _ refl refl (sides_ended h.number s.goals s.frames) (λ e. ap (λ l. s.now ∷ l) (saved_ended h.number s.goals s.frames))
comes h s on.Not = came h s on.Not _ refl refl refl (λ e. refl)
comes h s on.EndNot = came h s on.EndNot _ refl (left h.number s) (sides_behind h.number s) (λ e. stack_leaves h.number s o_type nothing_built e)

abbrev pub behind : (h : Home) (s : State) (i : Instr) → State
behind h s i = settled h.number (depth (comes h s i).to.frames) (passed i (comes h s i).to)

pub comes_behind : (h : Home) (s : State) (i : Instr) → after h any_clause s i ≡ Some (behind h s i)
comes_behind h s i = ap (option_map (λ t. settled h.number (depth t.frames) (passed i t))) (comes h s i).comes

-- what is passed has the outline of what was acted, and more
abbrev pub past : Instr → Outline → Outline
past i o = record o { place = o.place + length_of i; types_set = o.types_set ++ type_set i; terms_set = o.terms_set ++ term_set i }

pub outline_is : (h : Home) (s : State) (i : Instr) → outline (behind h s i) ≡ outline_behind i (handed_on s (assumption_of i)) (taken_by s i) (outline s)
outline_is h s i = settles h.number (depth (comes h s i).to.frames) (passed i (comes h s i).to) ∙ ap (past i) (comes h s i).outlined

pub sides_are : (h : Home) (s : State) (i : Instr) → sides_of (behind h s i).frames ≡ sides_settled (s.place + length_of i) (sides_acted i s.place (sides_of s.frames))
sides_are h s i =
    let t = (comes h s i).to in
    let deep = sides_deep t.frames in
    sides_settle h.number (depth t.frames) (passed i t) (sides_of t.frames) refl (omega (arith, deep)) (λ home s. ap (λ (o : Outline). o.place) (left home s))
    ∙ (λ j. sides_settled (ap (λ (o : Outline). o.place + length_of i) (comes h s i).outlined j) ((comes h s i).sided j))

pub stack_is : (h : Home) (s : State) (i : Instr) → Nests i s → stack_of (behind h s i) ≡ stack_settled (s.place + length_of i) (sides_run i s.place (sides_of s.frames)) (stack_made h s i)
stack_is h s i e =
    let t = (comes h s i).to in
    let deep = sides_deep t.frames in
    stack_settle h.number (depth t.frames) (passed i t) (sides_of t.frames) refl (omega (arith, deep)) (λ home s. ap (λ (o : Outline). o.place) (left home s))
    ∙ (λ j. stack_settled (ap (λ (o : Outline). o.place + length_of i) (comes h s i).outlined j) (((comes h s i).sided ∙ sym e) j) ((comes h s i).stacked e j))

-- the types, and the terms, that stand there
pub types_stack_is : (h : Home) (s : State) (i : Instr) → Nests i s
    → types_in_stack (stack_of (behind h s i)) ≡ stack_settled (s.place + length_of i) (sides_run i s.place (sides_of s.frames)) (with_first (type_set i) (type_made h s i) (stack_turned (turning i) (types_in_stack (stack_of s))))
types_stack_is h s i e =
    let p = s.place + length_of i in
    let ss = sides_run i s.place (sides_of s.frames) in
    ap types_in_stack (stack_is h s i e) ∙ map_settled (λ (g : Registers). g.types) p ss (stack_made h s i)
    ∙ ap (stack_settled p ss) (types_made (type_set i) (type_made h s i) (term_set i) (term_made h s i) (stack_turned (turning i) (stack_of s)) ∙ ap (with_first (type_set i) (type_made h s i)) (map_turned (λ (g : Registers). g.types) (turning i) (stack_of s)))

pub terms_stack_is : (h : Home) (s : State) (i : Instr) → Nests i s
    → terms_in_stack (stack_of (behind h s i)) ≡ stack_settled (s.place + length_of i) (sides_run i s.place (sides_of s.frames)) (with_first (term_set i) (term_made h s i) (stack_turned (turning i) (terms_in_stack (stack_of s))))
terms_stack_is h s i e =
    let p = s.place + length_of i in
    let ss = sides_run i s.place (sides_of s.frames) in
    ap terms_in_stack (stack_is h s i e) ∙ map_settled (λ (g : Registers). g.terms) p ss (stack_made h s i)
    ∙ ap (stack_settled p ss) (terms_made (type_set i) (type_made h s i) (term_set i) (term_made h s i) (stack_turned (turning i) (stack_of s)) ∙ ap (with_first (term_set i) (term_made h s i)) (map_turned (λ (g : Registers). g.terms) (turning i) (stack_of s)))

-- what stands behind an instruction where no block is open
pub record HeadStep (h : Home) (s : State) (i : Instr) : Type 0 where
  pub terms : (behind h s i).now.terms ≡ set_all s.now.terms (term_set i) (term_made h s i)
  pub arguments : (behind h s i).head_arguments ≡ with_more s.head_arguments (argument_made h s i)
  pub frames : (behind h s i).frames ≡ []

no_goal : (b : Bool) → b ≡ false → not b ≡ false → ⊥
no_goal true e f = let z : true ≡ false = e in cc
no_goal false e f = let z : true ≡ false = f in cc

abbrev without_frames : State → State
without_frames s = record s { frames = [] }

no_end : (s : State) (is : List Instr) (i : Instr) → s.frames ≡ [] → not (ends_block i (innermost_block [])) ≡ true → not (ends_block i (innermost_block s.frames)) ≡ false → ⊥
no_end s is i e f g = let z : true ≡ false = sym f ∙ sym (ap (λ fs. not (ends_block i (innermost_block fs))) e) ∙ g in cc

flat : (h : Home) (s : State) (i : Instr) (is : List Instr) → s.frames ≡ [] → s.in_body ≡ false → breaks_order s i ≡ false → breaks_nesting s is i ≡ false → HeadStep h (without_frames s) i
unfolding comes came
flat h s (on.TyCon d k ts) is e b o n = record { terms = refl; arguments = refl; frames = refl }
flat h s (on.TyArr d x y) is e b o n = record { terms = refl; arguments = refl; frames = refl }
flat h s (on.TyNew d) is e b o n = record { terms = refl; arguments = refl; frames = refl }
flat h s (on.New d t) is e b o n = record { terms = refl; arguments = refl; frames = refl }
flat h s (on.PutConst d c ts) is e b o n = record { terms = refl; arguments = refl; frames = refl }
flat h s (on.PutInt d z) is e b o n = record { terms = refl; arguments = refl; frames = refl }
flat h s (on.PutStr d z) is e b o n = record { terms = refl; arguments = refl; frames = refl }
flat h s (on.PutIndex d x t) is e b o n = record { terms = refl; arguments = refl; frames = refl }
flat h s (on.PutAbs d x t) is e b o n = record { terms = refl; arguments = refl; frames = refl }
flat h s (on.PutApp d f rs) is e b o n = record { terms = refl; arguments = refl; frames = refl }
flat h s (on.GetType j t) is e b o n = record { terms = refl; arguments = refl; frames = refl }
flat h s (on.GetVar x d) is e b o n = record { terms = refl; arguments = refl; frames = refl }
flat h s (on.Get x r) is e b o n = record { terms = refl; arguments = refl; frames = refl }
flat h s (on.GetConst x c ts) is e b o n = record { terms = refl; arguments = refl; frames = refl }
flat h s (on.GetInt x z) is e b o n = record { terms = refl; arguments = refl; frames = refl }
flat h s (on.GetStr x z) is e b o n = record { terms = refl; arguments = refl; frames = refl }
flat h s on.Neck is e b o n = record { terms = refl; arguments = refl; frames = refl }
flat h s (on.Call c ts rs) is e b o n = absurd (no_goal s.in_body b o)
flat h s (on.CallTerm r) is e b o n = absurd (no_goal s.in_body b o)
flat h s (on.Equal t l r) is e b o n = absurd (no_goal s.in_body b o)
flat h s (on.Is t l r) is e b o n = absurd (no_goal s.in_body b o)
flat h s (on.Less l r) is e b o n = absurd (no_goal s.in_body b o)
flat h s (on.Greater l r) is e b o n = absurd (no_goal s.in_body b o)
flat h s (on.AtMost l r) is e b o n = absurd (no_goal s.in_body b o)
flat h s (on.AtLeast l r) is e b o n = absurd (no_goal s.in_body b o)
flat h s on.Cut is e b o n = absurd (no_goal s.in_body b o)
flat h s (on.Sigma d t) is e b o n = absurd (no_goal s.in_body b o)
flat h s (on.All d t) is e b o n = absurd (no_goal s.in_body b o)
flat h s on.EndAll is e b o n = absurd (no_end s is on.EndAll e refl n)
flat h s (on.Assume ns ts rs) is e b o n = absurd (no_goal s.in_body b o)
flat h s on.EndAssume is e b o n = absurd (no_end s is on.EndAssume e refl n)
flat h s (on.Either m) is e b o n = absurd (no_goal s.in_body b o)
flat h s (on.Jump m) is e b o n =
    absurd (let z : true ≡ false = sym (ap (λ fs. not (is_left_end (s.place + 5) (innermost_block fs))) e) ∙ or_false_left (not (is_left_end (s.place + 5) (innermost_block s.frames))) (not (begins_behind m is)) n in cc)
flat h s on.Proceed is e b o n = record { terms = refl; arguments = refl; frames = refl }
flat h s on.Not is e b o n = absurd (no_goal s.in_body b o)
flat h s on.EndNot is e b o n = absurd (no_end s is on.EndNot e refl n)

pub head_step : (h : Home) (s : State) (i : Instr) (is : List Instr) → s.frames ≡ [] → s.in_body ≡ false → breaks_order s i ≡ false → breaks_nesting s is i ≡ false → HeadStep h s i
head_step h s i is e b o n = subst (λ (t : State). HeadStep h t i) (sym same) (flat h s i is e b o n)
  where
    same : s ≡ without_frames s
    same = λ j. record s { frames = e j }
