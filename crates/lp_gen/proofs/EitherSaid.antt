-- Goals with two sides.
use Rattle.std.proofs.Common.{◌≡◌, ◌∙◌, ◌≤◌, ◌<◌, ℕ, suc, ◌+◌, List, [], ◌∷◌, ◌++◌, append_assoc, true, false, Some, ap, refl, sym, arith, true≢false}
use Rattle.std.specs.Prelude.{nat_le, not, ◌||◌, if◌then◌else◌, sum_by}
use Rattle.std.specs.List.{list_any}
use Rattle.std.proofs.lemmas.Bool.{eqb-true, eq-eqb, lt-leb}
use Rattle.std.proofs.lemmas.List.Sums.{sum_by-append}
use Rattle.lp_model.specs.Flat.{Goals, Either, no_goals}
use Rattle.lp_code.specs.declared.instruction.Instr.{Instr}
use Rattle.lp_code.specs.declared.instruction.Instr.TheVariants as on
use Rattle.lp_code.specs.declared.rule.Rule.{Rule}
use Rattle.lp_code.specs.declared.rule.Rule.TheVariants as rule
use Rattle.lp_code.specs.Length.{length_of}
use Rattle.lp_code.specs.States.{left_side, right_side, Frame, Captured, State, Home, with_goal, depth, innermost_block, Ended, end_variables}
use Rattle.lp_code.specs.Steps.{Later, leave, turn, turn_from, is_right_end, settled, passed}
use Rattle.lp_code.specs.Rules.{is_passed, is_left_end, ends_with_jump, begins_behind, nesting_limit}
use Rattle.lp_code.specs.Denote.{broken_by, run}
use Rattle.lp_gen.specs.inner.Running.{TypesStand, TermsStand, HasRoom, MayEnd}
use Rattle.lp_gen.specs.inner.Doing.{Says}
use Rattle.lp_gen.specs.inner.Bodies.{Closes, GoalsSaid, frame_of, opened_state}
use Rattle.lp_gen.proofs.Denoting.{or_none, steps, settled_same, may_strict}
use Rattle.lp_gen.proofs.TermPut.{no_sides}
use Rattle.lp_gen.proofs.Blocks.{kept_frame, some_code}
use Rattle.lp_gen.proofs.BlockEnds.{sigma_passes, code_same, left_state, left_is}
use Rattle.lp_gen.proofs.Quantified.{not_deep}
use Rattle.lp_gen.proofs.Bytes.{some_length}
use Rattle.lp_gen.proofs.Sides.{begins, ends, first_bytes}

either_rules : (h : Home) (s : State) (n : ℕ) (rest : List Instr) → s.in_body ≡ true → depth s.frames < nesting_limit → ends_with_jump n rest ≡ true → HasRoom s s.place → (r : Rule) →
    broken_by h s rest (on.Either n) r ≡ false
either_rules h s n rest body shallow jump room rule.Register = refl
either_rules h s n rest body shallow jump room rule.Unset = refl
either_rules h s n rest body shallow jump room rule.Set = refl
either_rules h s n rest body shallow jump room rule.Constant = refl
either_rules h s n rest body shallow jump room rule.Typing = refl
either_rules h s n rest body shallow jump room rule.Index = refl
either_rules h s n rest body shallow jump room rule.Term = refl
either_rules h s n rest body shallow jump room rule.Order = ap not body
either_rules h s n rest body shallow jump room rule.Head = refl
either_rules h s n rest body shallow jump room rule.Block =
    (λ i. list_any (is_passed s.place) s.frames || (not_deep s shallow i || not (jump i))) ∙ no_sides s room
either_rules h s n rest body shallow jump room rule.Clause = refl
either_rules h s n rest body shallow jump room rule.Key = refl

jump_rules : (h : Home) (u : State) (m e : ℕ) (rest : List Instr) → innermost_block u.frames ≡ Some (left_side e) → e ≡ u.place + 5 → begins_behind m rest ≡ true → HasRoom u u.place → (r : Rule) →
    broken_by h u rest (on.Jump m) r ≡ false
jump_rules h u m e rest inner at behind room rule.Register = refl
jump_rules h u m e rest inner at behind room rule.Unset = refl
jump_rules h u m e rest inner at behind room rule.Set = refl
jump_rules h u m e rest inner at behind room rule.Constant = refl
jump_rules h u m e rest inner at behind room rule.Typing = refl
jump_rules h u m e rest inner at behind room rule.Index = refl
jump_rules h u m e rest inner at behind room rule.Term = refl
jump_rules h u m e rest inner at behind room rule.Order = refl
jump_rules h u m e rest inner at behind room rule.Head = refl
jump_rules h u m e rest inner at behind room rule.Block =
    (λ i. list_any (is_passed u.place) u.frames || (not (is_left_end (u.place + 5) (inner i)) || not (behind i)))
    ∙ ap (λ t. list_any (is_passed u.place) u.frames || (not t || false)) (eq-eqb e (u.place + 5) at) ∙ no_sides u room
jump_rules h u m e rest inner at behind room rule.Clause = refl
jump_rules h u m e rest inner at behind room rule.Key = refl

-- the states at the beginning of both sides
abbrev pub left_begins : State → (bytes : ℕ) → State
left_begins s n = passed (on.Either n) (opened_state s (left_side (s.place + 5 + n)) s.assumed)

abbrev pub right_frame : State → State → (bytes : ℕ) → Goals → Frame
right_frame s u m gl = record { block = right_side (u.place + 5 + m) gl; from = u.place; before = s.goals; registers = s.now }

abbrev pub turned_state : State → State → (bytes : ℕ) → Goals → State
turned_state s u m gl = record {
  place = u.place;
  now = s.now;
  types_set = u.types_set;
  terms_set = u.terms_set;
  in_body = u.in_body;
  head_types = u.head_types;
  head_arguments = u.head_arguments;
  goals = no_goals;
  frames = right_frame s u m gl ∷ s.frames;
  assumed = u.assumed;
}

abbrev pub right_begins : State → State → (bytes : ℕ) → Goals → State
right_begins s u m gl = passed (on.Jump m) (turned_state s u m gl)

turn_is : (home : ℕ) (s u : State) (n m : ℕ) (gl : Goals) → Closes home (left_begins s n) gl u → turn home u m ≡ turned_state s u m gl
turn_is home s u n m gl x =
    let F = frame_of s (left_side (s.place + 5 + n)) in
    let ends : (◌≡◌ {A = Ended} (end_variables home u.goals u.frames) (record { goals = gl; frames = F ∷ s.frames })) = x.same ∙ kept_frame home gl F s.frames refl in
    λ i. turn_from u m (ends i).goals (ends i).frames

right_ends : (home : ℕ) (w : State) (d e : ℕ) (gl : Goals) → depth w.frames ≡ suc d → innermost_block w.frames ≡ Some (right_side e gl) → e ≡ w.place
    → settled home (depth w.frames) w ≡ settled home d (leave home w)
right_ends home w d e gl deep inner at =
    ap (λ n. settled home n w) deep ∙ ap (λ o. if is_right_end w.place o then settled home d (leave home w) else w) inner
    ∙ ap (λ t. if t then settled home d (leave home w) else w) (eq-eqb e w.place at)

pub either_said : (h : Home) (later : Later) (vars n m o k l p : ℕ) (s u w : State) (ls rs : List Instr) (gl gr : Goals) (a b : List (ℕ × Captured)) (nl mr : ℕ) → nl ≡ sum_by length_of ls + 5 →
    mr ≡ sum_by length_of rs → s.in_body ≡ true → depth s.frames < nesting_limit → TypesStand h vars n s → TermsStand h k s →
    MayEnd s (s.place + sum_by length_of (on.Either nl ∷ (ls ++ on.Jump mr ∷ rs))) → GoalsSaid h later vars n m k l (left_begins s nl) ls gl a u →
    GoalsSaid h later vars m o l p (right_begins s u mr gl) rs gr b w → (rs ≡ [] → w ≡ right_begins s u mr gl) → n ≤ m → k ≤ l →
    (v : State) × Says h later vars n o k p s (on.Either nl ∷ (ls ++ on.Jump mr ∷ rs)) (with_goal s.goals (Either gl gr)) (a ++ b) v
either_said h later vars n m o k l p s u w ls rs gl gr a b nl mr en em body shallow st te room x y none_right nm kl =
    let t = left_begins s nl in
    let r = right_begins s u mr gl in
    let behind = on.Jump mr ∷ rs in
    let whole = on.Either nl ∷ (ls ++ behind) in
    let z1 = first_bytes (on.Either nl) (ls ++ behind) in
    let z2 = sum_by-append length_of ls behind in
    let z3 = first_bytes (on.Jump mr) rs in
    let i = x.place_is in
    let j = y.place_is in
    let here : HasRoom s s.place = may_strict s.place (s.place + sum_by length_of whole) s.frames (omega (arith, z1)) room in
    let after : HasRoom s (s.place + 5) = may_strict (s.place + 5) (s.place + sum_by length_of whole) s.frames (omega (arith, z1, z2, z3)) room in
    let left_room : HasRoom t t.place = or_none (nat_le (s.place + 5 + nl) t.place) (list_any (is_passed t.place) s.frames) (lt-leb (s.place + 5 + nl) t.place (omega (arith, en))) after in
    let outer : HasRoom s u.place = may_strict u.place (s.place + sum_by length_of whole) s.frames (omega (arith, z1, z2, z3, i)) room in
    let strict : HasRoom u u.place = x.closes.sides (is_passed u.place) (sigma_passes u.place)
    ∙ or_none (nat_le (s.place + 5 + nl) u.place) (list_any (is_passed u.place) s.frames) (lt-leb (s.place + 5 + nl) u.place (omega (arith, en, i))) outer in
    let v = left_state s w (Either gl gr) in
    let depth_is : depth w.frames ≡ suc (depth s.frames) = y.closes.deep in
    let ends_at : settled h.number (depth w.frames) w ≡ settled h.number (depth s.frames) v = right_ends h.number w (depth s.frames)
    (u.place + 5 + mr) gl depth_is y.closes.innermost (omega (arith, j, em))
    ∙ ap (settled h.number (depth s.frames)) (left_is h.number s r w (right_frame s u mr gl) gr (Either gl gr) y.closes refl refl refl refl refl refl) in
    let turned : (e : Instr) (rest : List Instr) → run h later u (on.Jump mr ∷ (rs ++ e ∷ rest)) ≡ run h later (settled h.number (depth r.frames) r) (rs ++ e ∷ rest) = λ e rest.
    steps h later u (settled h.number (depth r.frames) r) (on.Jump mr) (rs ++ e ∷ rest) x.types_stand.sound
    (jump_rules h u mr (s.place + 5 + nl) (rs ++ e ∷ rest) x.closes.innermost (omega (arith, en, i)) (begins rs e rest mr em) strict)
    (ap (λ q. Some (settled h.number (depth q.frames) (passed (on.Jump mr) q))) (turn_is h.number s u nl mr gl x.closes)) in
    let opened : (rest : List Instr) → ends_with_jump nl rest ≡ true → run h later s (on.Either nl ∷ rest) ≡ run h later t rest = λ rest q.
    steps h later s t (on.Either nl) rest st.sound (either_rules h s nl rest body shallow q here) (ap (λ (z : State). Some z) (settled_same h.number (depth t.frames) t left_room)) in
    let stays : w.in_body ≡ true = y.in_body_stays ∙ x.in_body_stays ∙ body in (
      v,
      record {
        runs = λ e rest. ap (λ q. run h later s (on.Either nl ∷ q)) (append_assoc ls behind (e ∷ rest)) ∙ opened (ls ++ (behind ++ e ∷ rest))
            (ends ls mr (rs ++ e ∷ rest) nl en) ∙ x.runs (on.Jump mr) (rs ++ e ∷ rest)
            ∙ ap (λ (z : State). run h later z (on.Jump mr ∷ (rs ++ e ∷ rest))) (code_same h ls u strict) ∙ turned e rest ∙ last rs refl e rest
            ∙ ap (λ (z : State). run h later z (e ∷ rest)) ends_at;
        place_is = omega (arith, z1, z2, z3, i, j);
        goals_are = refl;
        head_types_stay = y.head_types_stay ∙ x.head_types_stay;
        arguments_stay = y.arguments_stay ∙ x.arguments_stay;
        in_body_stays = stays ∙ sym body;
        frames_stay = refl;
        assumed_are = y.assumed_are ∙ ap (λ l. l ++ b) x.assumed_are ∙ append_assoc s.assumed a b;
        types_kept = λ r q. refl;
        terms_keep = λ r d q z. z;
        types_stand = record {
          few = st.few;
          own = y.types_stand.own;
          as_many = st.as_many;
          stand = st.stand;
          unset = y.types_stand.unset;
          sound = λ z r. let q = eqb-true w.place 0 z in absurd (omega (arith, q, i, j));
        };
        terms_stand = record { as_many = te.as_many; unset = y.terms_stand.unset; fresh = λ z r q. absurd (true≢false (sym stays ∙ z)) };
      },
    )
  where
    last : (qs : List Instr) → rs ≡ qs → (e : Instr) (rest : List Instr) →
        run h later (settled h.number (depth (right_begins s u mr gl).frames) (right_begins s u mr gl)) (rs ++ e ∷ rest) ≡ run h later (settled h.number (depth w.frames) w) (e ∷ rest)
    last [] q e rest =
        ap (λ l. run h later (settled h.number (depth (right_begins s u mr gl).frames) (right_begins s u mr gl)) (l ++ e ∷ rest)) q
        ∙ ap (λ (z : State). run h later (settled h.number (depth z.frames) z) (e ∷ rest)) (sym (none_right q))
    last (c ∷ cs) q e rest =
        let r = right_begins s u mr gl in
        let i = x.place_is in
        let behind = on.Jump mr ∷ rs in
        let z1 = first_bytes (on.Either nl) (ls ++ behind) in
        let z2 = sum_by-append length_of ls behind in
        let z3 = first_bytes (on.Jump mr) rs in
        let some : 0 < sum_by length_of rs = let all = ap (sum_by length_of) q in let one = first_bytes c cs in let more = some_length c in omega (arith, all, one, more) in
        let strict : HasRoom r r.place = or_none (nat_le (u.place + 5 + mr) r.place) (list_any (is_passed r.place) s.frames) (lt-leb (u.place + 5 + mr) r.place (omega (arith, em, some)))
        (may_strict r.place (s.place + sum_by length_of (on.Either nl ∷ (ls ++ behind))) s.frames (omega (arith, z1, z2, z3, i, some)) room) in
        ap (λ (z : State). run h later z (rs ++ e ∷ rest)) (settled_same h.number (depth r.frames) r strict) ∙ y.runs e rest ∙ ap (λ (z : State). run h later z (e ∷ rest)) (some_code h rs w some)
