-- A block that an instruction opens and another one ends.
use Rattle.std.proofs.Common.{◌≡◌, ◌∙◌, ◌<◌, ℕ, ◌+◌, List, [], ◌∷◌, ◌++◌, append_assoc, true, false, Some, ap, refl, sym, arith, true≢false}
use Rattle.std.specs.Prelude.{if◌then◌else◌, sum_by, option_map}
use Rattle.std.specs.List.{list_any}
use Rattle.std.proofs.lemmas.Bool.{eqb-true}
use Rattle.std.proofs.lemmas.List.{append-nil}
use Rattle.std.proofs.lemmas.List.Sums.{sum_by-append}
use Rattle.lp_model.specs.Flat.{Goal, Goals, no_goals, add_goals}
use Rattle.lp_code.specs.declared.instruction.Instr.{Instr}
use Rattle.lp_code.specs.declared.rule.Rule.{Rule}
use Rattle.lp_code.specs.Length.{length_of}
use Rattle.lp_code.specs.Operands.{type_set, term_set}
use Rattle.lp_code.specs.States.{Block, under_sigma, under_all, under_assumption, under_not, left_side, right_side, Frame, Captured, State, Home, member, with_goal, is_sigma, depth, innermost_block, Ended, end_variables}
use Rattle.lp_code.specs.Steps.{Later, goal_of_block, leave_block, leave_from, leave, settled, passed, effect}
use Rattle.lp_code.specs.Rules.{side_is_passed, is_passed}
use Rattle.lp_code.specs.Denote.{broken_by, run}
use Rattle.lp_gen.specs.inner.Running.{TypesStand, TermsStand, HasRoom, MayEnd}
use Rattle.lp_gen.specs.inner.Doing.{Says}
use Rattle.lp_gen.specs.inner.Bodies.{behind_code, Closes, GoalsSaid, Opened, frame_of, opened_state}
use Rattle.lp_gen.proofs.Denoting.{or_none, steps, settled_same, may_strict}
use Rattle.lp_gen.proofs.Blocks.{kept_frame}

pub sigma_passes : (q : ℕ) (x : Frame) → is_sigma x.block ≡ true → is_passed q x ≡ false
sigma_passes q x e = go x.block e
  where
    go : (b : Block) → is_sigma b ≡ true → side_is_passed q b ≡ false
    go (under_sigma r T) e = refl
    go (under_all r T) e = absurd (true≢false (sym e))
    go (under_assumption cs) e = absurd (true≢false (sym e))
    go under_not e = absurd (true≢false (sym e))
    go (left_side n) e = absurd (true≢false (sym e))
    go (right_side n l) e = absurd (true≢false (sym e))

pub code_same : (h : Home) (is : List Instr) (u : State) → HasRoom u u.place → behind_code h is u ≡ u
code_same h [] u room = refl
code_same h (i ∷ is) u room = settled_same h.number (depth u.frames) u room

innermost_kept : (F : Frame) (fs : List Frame) → is_sigma F.block ≡ false → innermost_block (F ∷ fs) ≡ Some F.block
innermost_kept F fs e = ap (λ t. if t then innermost_block fs else Some F.block) e

-- the state behind the end of a block
abbrev pub left_state : State → State → Goal → State
left_state s u g = record {
  place = u.place;
  now = s.now;
  types_set = u.types_set;
  terms_set = u.terms_set;
  in_body = u.in_body;
  head_types = u.head_types;
  head_arguments = u.head_arguments;
  goals = with_goal s.goals g;
  frames = s.frames;
  assumed = u.assumed;
}

pub left_is : (home : ℕ) (s t u : State) (F : Frame) (gs : Goals) (g : Goal) → Closes home t gs u → t.goals ≡ no_goals → t.frames ≡ F ∷ s.frames →
    is_sigma F.block ≡ false → F.before ≡ s.goals → F.registers ≡ s.now →
    goal_of_block home F.block gs ≡ Some g → leave home u ≡ left_state s u g
left_is home s t u F gs g x none frames kept before registers is =
    let ends : (◌≡◌ {A = Ended} (end_variables home u.goals u.frames) (record { goals = gs; frames = F ∷ s.frames })) =
    x.same ∙ (λ i. end_variables home (add_goals (none i) gs) (frames i)) ∙ kept_frame home gs F s.frames kept in
    (λ i. leave_from home u (ends i).goals (ends i).frames) ∙ ap (leave_block u F s.frames) is
    ∙ (λ i. record {
      place = u.place;
      now = registers i;
      types_set = u.types_set;
      terms_set = u.terms_set;
      in_body = u.in_body;
      head_types = u.head_types;
      head_arguments = u.head_arguments;
      goals = with_goal (before i) g;
      frames = s.frames;
      assumed = u.assumed;
    })

pub block_ends : (h : Home) (later : Later) (vars n m o k l p : ℕ) (s t u : State) (F : Frame) (is js : List Instr) (e : Instr) (gs : Goals) (g : Goal) (a b : List (ℕ × Captured)) →
    Opened h later vars n m k l s is F a t → GoalsSaid h later vars m o l p t js gs b u → F.before ≡ s.goals → F.registers ≡ s.now → is_sigma F.block
    ≡ false → ((q : ℕ) → side_is_passed q F.block ≡ false) →
    effect h later u e ≡ Some (leave h.number u) → type_set e ≡ [] → term_set e ≡ [] → 0 < length_of e → goal_of_block h.number F.block gs ≡ Some g →
    (HasRoom u u.place → innermost_block u.frames ≡ Some F.block → (rest : List Instr) (r : Rule) → broken_by h u rest e r ≡ false) → s.in_body ≡ true → TypesStand h vars n s → TermsStand h k s →
    MayEnd s (s.place + sum_by length_of (is ++ (js ++ e ∷ []))) → (v : State) × Says h later vars n o k p s (is ++ (js ++ e ∷ [])) (with_goal s.goals g) (a ++ b) v
block_ends h later vars n m o k l p s t u F is js e gs g a b x y before registers kept no_side eff ts rs long is_goal fine body st te room =
    let first = x.place_is in
    let second = y.place_is in
    let size = sum_by-append length_of is (js ++ e ∷ []) in
    let inner = sum_by-append length_of js (e ∷ []) in
    let one : sum_by length_of (e ∷ []) ≡ 0 + length_of e = refl in
    let strict : HasRoom u u.place = y.closes.sides (is_passed u.place) (sigma_passes u.place) ∙ ap (list_any (is_passed u.place)) x.frames_are
    ∙ or_none (side_is_passed u.place F.block) (list_any (is_passed u.place) s.frames) (no_side u.place)
    (may_strict u.place (s.place + sum_by length_of (is ++ (js ++ e ∷ []))) s.frames (omega (arith, first, second, size, inner, one, long)) room) in
    let innermost = y.closes.innermost ∙ ap innermost_block x.frames_are ∙ innermost_kept F s.frames kept in
    let w = left_state s u g in
    let v = passed e w in
    let step : (rest : List Instr) → run h later u (e ∷ rest) ≡ run h later (settled h.number (depth v.frames) v) rest = λ rest. steps h later u (settled h.number (depth v.frames) v) e rest
    y.types_stand.sound (fine strict innermost rest) (ap (option_map (λ (z : State). settled h.number (depth z.frames) (passed e z))) (eff ∙ ap (λ (z : State). Some z) (left_is h.number s t u F gs g
    y.closes x.goals_are x.frames_are kept before registers is_goal))) in
    let stays : u.in_body ≡ true = y.in_body_stays ∙ x.in_body_stays ∙ body in (
      v,
      record {
        runs = λ i rest. ap (run h later s) (append_assoc is (js ++ e ∷ []) (i ∷ rest) ∙ ap (λ l. is ++ l) (append_assoc js (e ∷ []) (i ∷ rest))) ∙ x.runs (js ++ e ∷ i ∷ rest) ∙ y.runs e (i ∷ rest)
            ∙ ap (λ (z : State). run h later z (e ∷ i ∷ rest)) (code_same h js u strict) ∙ step (i ∷ rest);
        place_is = omega (arith, first, second, size, inner, one);
        goals_are = refl;
        head_types_stay = y.head_types_stay ∙ x.head_types_stay;
        arguments_stay = y.arguments_stay ∙ x.arguments_stay;
        in_body_stays = stays ∙ sym body;
        frames_stay = refl;
        assumed_are = y.assumed_are ∙ ap (λ l. l ++ b) x.assumed_are ∙ append_assoc s.assumed a b;
        types_kept = λ r q. refl;
        terms_keep = λ r d q z. z;
        types_stand = record {
          few = st.few;
          own = y.types_stand.own;
          as_many = st.as_many;
          stand = st.stand;
          unset = λ r q. ap (λ ds. member r (u.types_set ++ ds)) ts ∙ ap (member r) (append-nil u.types_set) ∙ y.types_stand.unset r q;
          sound = λ z r. let q = eqb-true (u.place + length_of e) 0 z in absurd (omega (arith, q, long));
        };
        terms_stand = record {
          as_many = te.as_many;
          unset = λ r q. ap (λ ds. member r (u.terms_set ++ ds)) rs ∙ ap (member r) (append-nil u.terms_set) ∙ y.terms_stand.unset r q;
          fresh = λ z r q. absurd (true≢false (sym stays ∙ z));
        };
      },
    )

-- an instruction that opens a block
pub opened_by : (h : Home) (later : Later) (vars n k : ℕ) (s : State) (i : Instr) (B : Block) (a : List (ℕ × Captured)) → effect h later s i ≡ Some
    (opened_state s B (s.assumed ++ a)) → type_set i ≡ [] → term_set i ≡ [] →
    0 < length_of i → ((rest : List Instr) (r : Rule) → broken_by h s rest i r ≡ false) → s.in_body ≡ true → side_is_passed (s.place + length_of i) B
    ≡ false → TypesStand h vars n s → TermsStand h k s →
    HasRoom s (s.place + length_of i) → (t : State) × Opened h later vars n n k k s (i ∷ []) (frame_of s B) a t
opened_by h later vars n k s i B a eff ts rs long fine body side st te room =
    let t = passed i (opened_state s B (s.assumed ++ a)) in
    let one : sum_by length_of (i ∷ []) ≡ 0 + length_of i = refl in
    let open_room : list_any (is_passed t.place) t.frames ≡ false = or_none (side_is_passed t.place B) (list_any (is_passed t.place) s.frames) side room in (
      t,
      record {
        runs = λ rest. steps h later s t i rest st.sound (fine rest) (ap (option_map (λ (u : State). settled h.number (depth u.frames) (passed i u))) eff
            ∙ ap (λ (u : State). Some u) (settled_same h.number (depth t.frames) t open_room));
        place_is = omega (arith, one);
        goals_are = refl;
        frames_are = refl;
        head_types_stay = refl;
        arguments_stay = refl;
        in_body_stays = refl;
        assumed_are = refl;
        types_kept = λ r q. refl;
        terms_keep = λ r d q z. z;
        types_stand = record {
          few = st.few;
          own = st.own;
          as_many = st.as_many;
          stand = st.stand;
          unset = λ r q. ap (λ ds. member r (s.types_set ++ ds)) ts ∙ ap (member r) (append-nil s.types_set) ∙ st.unset r q;
          sound = λ z r. let q = eqb-true (s.place + length_of i) 0 z in absurd (omega (arith, q, long));
        };
        terms_stand = record {
          as_many = te.as_many;
          unset = λ r q. ap (λ ds. member r (s.terms_set ++ ds)) rs ∙ ap (member r) (append-nil s.terms_set) ∙ te.unset r q;
          fresh = λ z r q. absurd (true≢false (sym body ∙ z));
        };
      },
    )
