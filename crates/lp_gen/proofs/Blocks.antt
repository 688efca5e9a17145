-- Blocks of goals: what is said in one, and its end.
use Rattle.std.proofs.Common.{◌≡◌, ◌∙◌, ◌≤◌, ◌<◌, ℕ, ◌+◌, List, [], ◌∷◌, ◌++◌, append_assoc, false, ap, refl, sym, subst, arith, true≢false}
use Rattle.std.specs.Prelude.{sum_by}
use Rattle.std.specs.List.{list_any}
use Rattle.std.proofs.lemmas.List.{append-nil}
use Rattle.std.proofs.lemmas.List.Sums.{sum_by-append}
use Rattle.lp_model.specs.Flat.{Goal, Goals, Exists, no_goals, goals, add_goals}
use Rattle.lp_code.specs.declared.instruction.Instr.{Instr}
use Rattle.lp_code.specs.Length.{length_of}
use Rattle.lp_code.specs.States.{Block, under_sigma, under_all, under_assumption, under_not, left_side, right_side, Frame, Captured, State, Home, with_goal, is_sigma, depth, innermost_block, Ended, end_variables, bind_goals}
use Rattle.lp_code.specs.Steps.{Later, settled}
use Rattle.lp_code.specs.Rules.{is_passed}
use Rattle.lp_code.specs.Denote.{run}
use Rattle.lp_gen.specs.inner.Running.{TypesStand, TermsStand, HasRoom, MayEnd}
use Rattle.lp_gen.specs.inner.Doing.{Says}
use Rattle.lp_gen.specs.inner.Bodies.{behind_code, GoalsSaid}
use Rattle.lp_gen.proofs.Denoting.{settled_same, may_strict}

-- goals that are added

pub add_behind : (xs ys zs : Goals) → add_goals (add_goals xs ys) zs ≡ add_goals xs (add_goals ys zs)
add_behind no_goals ys zs = refl
add_behind (goals x xs) ys zs = ap (goals x) (add_behind xs ys zs)

pub add_nothing : (xs : Goals) → add_goals xs no_goals ≡ xs
add_nothing no_goals = refl
add_nothing (goals x xs) = ap (goals x) (add_nothing xs)

-- no goals at all
pub nothing_said : (h : Home) (later : Later) (vars n k : ℕ) (s : State) → TypesStand h vars n s → TermsStand h k s → GoalsSaid h later vars n n k k s [] no_goals [] s
nothing_said h later vars n k s st te = record {
  runs = λ i rest. refl;
  place_is = let z : sum_by length_of [] ≡ 0 = refl in omega (arith, z);
  closes = record { same = ap (λ gs. end_variables h.number gs s.frames) (sym (add_nothing s.goals)); innermost = refl; deep = refl; sides = λ f x. refl };
  head_types_stay = refl;
  arguments_stay = refl;
  in_body_stays = refl;
  assumed_are = sym (append-nil s.assumed);
  types_kept = λ r l. refl;
  terms_keep = λ r b l e. e;
  types_stand = st;
  terms_stand = te;
}

pub some_code : (h : Home) (is : List Instr) (u : State) → 0 < sum_by length_of is → behind_code h is u ≡ settled h.number (depth u.frames) u
some_code h [] u l = let z : sum_by length_of [] ≡ 0 = refl in absurd (omega (arith, l, z))
some_code h (i ∷ is) u l = refl

-- one goal alone
pub one_said : (h : Home) (later : Later) (vars n m k l : ℕ) (s u : State) (is : List Instr) (g : Goal) (more : List (ℕ × Captured)) → 0 < sum_by length_of is →
    Says h later vars n m k l s is (with_goal s.goals g) more u → GoalsSaid h later vars n m k l s is (goals g no_goals) more u
one_said h later vars n m k l s u is g more some x = record {
  runs = λ i rest. x.runs i rest ∙ ap (λ (t : State). run h later t (i ∷ rest)) (sym (some_code h is u some));
  place_is = x.place_is;
  closes = record {
    same = λ i. end_variables h.number (x.goals_are i) (x.frames_stay i);
    innermost = ap innermost_block x.frames_stay;
    deep = ap depth x.frames_stay;
    sides = λ f e. ap (list_any f) x.frames_stay;
  };
  head_types_stay = x.head_types_stay;
  arguments_stay = x.arguments_stay;
  in_body_stays = x.in_body_stays;
  assumed_are = x.assumed_are;
  types_kept = x.types_kept;
  terms_keep = x.terms_keep;
  types_stand = x.types_stand;
  terms_stand = x.terms_stand;
}

-- a goal before others
pub then_said : (h : Home) (later : Later) (vars n m o k l p : ℕ) (s t u : State) (is js : List Instr) (g : Goal) (gs : Goals) (a b : List (ℕ × Captured)) → 0 < sum_by length_of js →
    Says h later vars n m k l s is (with_goal s.goals g) a t → GoalsSaid h later vars m o l p t js gs b u → n ≤ m → k ≤ l → MayEnd s (s.place + sum_by length_of (is ++ js)) →
    GoalsSaid h later vars n o k p s (is ++ js) (goals g gs) (a ++ b) u
then_said h later vars n m o k l p s t u is js g gs a b some x y nm kl room =
    let size = sum_by-append length_of is js in
    let i = x.place_is in
    let j = y.place_is in
    let strict : HasRoom t t.place = subst (λ fs. list_any (is_passed t.place) fs ≡ false) (sym x.frames_stay)
    (may_strict t.place (s.place + sum_by length_of (is ++ js)) s.frames (omega (arith, i, size, some)) room) in
    let whole : 0 < sum_by length_of (is ++ js) = omega (arith, size, some) in
    record {
      runs = λ e rest. ap (run h later s) (append_assoc is js (e ∷ rest)) ∙ head_runs js e rest some ∙ ap
          (λ (z : State). run h later z (js ++ e ∷ rest)) (settled_same h.number (depth t.frames) t strict)
          ∙ y.runs e rest ∙ ap (λ (z : State). run h later z (e ∷ rest)) (some_code h js u some ∙ sym (some_code h (is ++ js) u whole));
      place_is = omega (arith, i, j, size);
      closes = record {
        same = y.closes.same ∙ (λ z. end_variables h.number (add_goals (x.goals_are z) gs) (x.frames_stay z)) ∙ ap (λ q. end_variables h.number q s.frames) (add_behind s.goals (goals g no_goals) gs);
        innermost = y.closes.innermost ∙ ap innermost_block x.frames_stay;
        deep = y.closes.deep ∙ ap depth x.frames_stay;
        sides = λ f e. y.closes.sides f e ∙ ap (list_any f) x.frames_stay;
      };
      head_types_stay = y.head_types_stay ∙ x.head_types_stay;
      arguments_stay = y.arguments_stay ∙ x.arguments_stay;
      in_body_stays = y.in_body_stays ∙ x.in_body_stays;
      assumed_are = y.assumed_are ∙ ap (λ l. l ++ b) x.assumed_are ∙ append_assoc s.assumed a b;
      types_kept = λ r q. y.types_kept r (omega (arith, q, nm)) ∙ x.types_kept r q;
      terms_keep = λ r d q e. y.terms_keep r d (omega (arith, q, kl)) (x.terms_keep r d q e);
      types_stand = y.types_stand;
      terms_stand = y.terms_stand;
    }
  where
    head_runs : (js : List Instr) (e : Instr) (rest : List Instr) → 0 < sum_by length_of js → run h later s (is ++ (js ++ e ∷ rest)) ≡ run h later
        (settled h.number (depth t.frames) t) (js ++ e ∷ rest)
    head_runs [] e rest l = let z : sum_by length_of [] ≡ 0 = refl in absurd (omega (arith, l, z))
    head_runs (j ∷ js) e rest l = x.runs j (js ++ e ∷ rest)

-- a block that an instruction ends

pub kept_frame : (home : ℕ) (gs : Goals) (f : Frame) (fs : List Frame) → is_sigma f.block ≡ false → (◌≡◌ {A = Ended} (end_variables home gs (f ∷ fs)) (record { goals = gs; frames = f ∷ fs }))
kept_frame home gs f fs e = go f.block e
  where
    go : (b : Block) → is_sigma b ≡ false → (◌≡◌ {A = Ended} (elim b [
      | under_sigma r T ↦ end_variables home (with_goal f.before (Exists T (bind_goals (r ∷ []) home gs))) fs
      | under_all r T ↦ record { goals = gs; frames = f ∷ fs }
      | under_assumption cs ↦ record { goals = gs; frames = f ∷ fs }
      | under_not ↦ record { goals = gs; frames = f ∷ fs }
      | left_side n ↦ record { goals = gs; frames = f ∷ fs }
      | right_side n l ↦ record { goals = gs; frames = f ∷ fs }
    ]) (record { goals = gs; frames = f ∷ fs }))
    go (under_sigma r T) e = absurd (true≢false e)
    go (under_all r T) e = refl
    go (under_assumption cs) e = refl
    go under_not e = refl
    go (left_side n) e = refl
    go (right_side n l) e = refl
