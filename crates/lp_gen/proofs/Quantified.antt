-- Goals with a block: those that are denied, and those below a quantifier.
use Rattle.std.proofs.Common.{◌≡◌, ◌∙◌, ◌≤◌, ◌<◌, ℕ, ◌+◌, List, [], ◌∷◌, ◌++◌, append_assoc, length, Bool, true, false, Some, ap, refl, sym, subst, arith, true≢false}
use Rattle.std.specs.Prelude.{nat_le, not, ◌||◌, is_none, sum_by, option_map, unwrap_or}
use Rattle.std.specs.List.{list_any}
use Rattle.std.proofs.lemmas.Bool.{eqb-true, lt-leb}
use Rattle.std.proofs.lemmas.List.{append-nil}
use Rattle.std.proofs.lemmas.List.Sums.{sum_by-append}
use Rattle.lp_calculus.specs.Types.{Ty, no_types, types}
use Rattle.lp_calculus.specs.Typing.{o_type}
use Rattle.lp_model.specs.Flat.{Goals, Cut, Exists, Forall, Not, no_goals, goals, add_goals}
use Rattle.lp_code.specs.declared.instruction.Instr.{Instr}
use Rattle.lp_code.specs.declared.instruction.Instr.TheVariants as on
use Rattle.lp_code.specs.declared.rule.Rule.{Rule}
use Rattle.lp_code.specs.declared.rule.Rule.TheVariants as rule
use Rattle.lp_code.specs.Length.{length_of}
use Rattle.lp_code.specs.Operands.{types_read, terms_read, type_set, term_set}
use Rattle.lp_code.specs.Symbolic.{Built, Registers, variable, held, whole}
use Rattle.lp_code.specs.States.{Block, under_sigma, under_all, under_not, Frame, Captured, State, Home, member, with_goal, depth, innermost_block, end_variables, bind_goals}
use Rattle.lp_code.specs.Steps.{Later, put_term, settled, passed, effect}
use Rattle.lp_code.specs.Rules.{side_is_passed, is_passed, is_too_deep, ends_block, nesting_limit, breaks_constant, breaks_type, breaks_index, breaks_term, breaks_order, breaks_head, breaks_nesting, breaks_clause}
use Rattle.lp_code.specs.Denote.{broken_by, run}
use Rattle.lp_code.specs.Written.{nothing_written}
use Rattle.lp_gen.specs.inner.Running.{TypesStand, TermsStand, HasRoom, ends_before, MayEnd, Hold, Leads}
use Rattle.lp_gen.specs.inner.Saying.{Turns}
use Rattle.lp_gen.specs.inner.Doing.{Says}
use Rattle.lp_gen.specs.inner.Bodies.{GoalsSaid, Opened, frame_of, opened_state}
use Rattle.lp_gen.proofs.Denoting.{or_none, steps, settled_same, room_less, may_strict, none_unset, held_set, held_below, many_set, many_within, member_more}
use Rattle.lp_gen.proofs.TermPut.{moved, types_within, one_within, one_unset, no_sides}
use Rattle.lp_gen.proofs.GoalPut.{plain_rules, turns_one}
use Rattle.lp_gen.proofs.Blocks.{some_code}
use Rattle.lp_gen.proofs.BlockEnds.{block_ends, opened_by}

or_skip : (c d : Bool) → c ≡ false → (c || d) ≡ d
or_skip true d e = absurd (true≢false e)
or_skip false d e = refl

pub not_deep : (s : State) → depth s.frames < nesting_limit → is_too_deep s ≡ false
not_deep s l = lt-leb nesting_limit (depth s.frames) l

-- a cut
turns_says : (h : Home) (later : Later) (vars n k : ℕ) (s t : State) (is : List Instr) (gs : Goals) → Turns h later vars n k s is gs s.head_types
    s.head_arguments t → Says h later vars n n k k s is gs [] t
turns_says h later vars n k s t is gs x = record {
  runs = λ i rest. x.runs (i ∷ rest);
  place_is = x.place_is;
  goals_are = x.goals_are;
  head_types_stay = x.head_types_are;
  arguments_stay = x.arguments_are;
  in_body_stays = x.in_body_stays;
  frames_stay = x.frames_stay;
  assumed_are = x.assumed_stay ∙ sym (append-nil s.assumed);
  types_kept = λ r q. ap (λ (z : Registers). held z.types r) x.now_stays;
  terms_keep = λ r d q e. ap (λ (z : Registers). held z.terms r) x.now_stays ∙ e;
  types_stand = x.types_stand;
  terms_stand = x.terms_stand;
}

pub cut_said : (h : Home) (later : Later) (vars n k : ℕ) (s : State) → s.in_body ≡ true → TypesStand h vars n s → TermsStand h k s → MayEnd s (s.place + 1) →
    (v : State) × Says h later vars n n k k s (on.Cut ∷ []) (with_goal s.goals Cut) [] v
cut_said h later vars n k s body st te room =
    let here : HasRoom s s.place = may_strict s.place (s.place + 1) s.frames (omega arith) room in
    let w = turns_one h later vars n k s on.Cut (with_goal s.goals Cut) s.head_types s.head_arguments refl refl refl (omega arith) st te
    (plain_rules h vars n k s on.Cut st te refl refl refl refl refl refl refl refl (ap not body) refl (λ rest. refl) refl here) in
    (w.0, turns_says h later vars n k s w.0 (on.Cut ∷ []) (with_goal s.goals Cut) w.1)

-- what is said in a block, of which something is known
abbrev pub Inner : Home → Later → (vars m o k p : ℕ) → State → List Instr → (Goals → List (ℕ × Captured) → Type 0) → Type 0
Inner h later vars m o k p t js X = (gs : Goals) × (b : List (ℕ × Captured)) × X gs b × (u : State) × GoalsSaid h later vars m o k p t js gs b u

-- goals that are denied
pub not_said : (h : Home) (later : Later) (vars n o k p : ℕ) (s : State) (js : List Instr) (X : Goals → List (ℕ × Captured) → Type 0) → s.in_body ≡
    true → depth s.frames < nesting_limit → TypesStand h vars n s → TermsStand h k s →
    MayEnd s (s.place + sum_by length_of (on.Not ∷ [] ++ (js ++ on.EndNot ∷ []))) →
    ((t : State) → Opened h later vars n n k k s (on.Not ∷ []) (frame_of s under_not) [] t → Inner h later vars n o k p t js X) → n ≤ o →
    (gs : Goals) × (b : List (ℕ × Captured)) × X gs b × (v : State) × Says h later vars n o k p s (on.Not ∷ [] ++ (js ++ on.EndNot ∷ [])) (with_goal s.goals (Not nothing_written gs)) b v
not_said h later vars n o k p s js X body shallow st te room inner le =
    let size = sum_by-append length_of (on.Not ∷ []) (js ++ on.EndNot ∷ []) in
    let more = sum_by-append length_of js (on.EndNot ∷ []) in
    let one : sum_by length_of (on.Not ∷ []) ≡ 1 = refl in
    let last : sum_by length_of (on.EndNot ∷ []) ≡ 1 = refl in
    let after : HasRoom s (s.place + 1) = may_strict (s.place + 1) (s.place + sum_by length_of (on.Not ∷ [] ++ (js ++ on.EndNot ∷ []))) s.frames (omega (arith, size, more, one, last)) room in
    let here : HasRoom s s.place = room_less s.place (s.place + 1) s.frames (omega arith) after in
    let opened = opened_by h later vars n k s on.Not under_not [] (ap (λ l. Some (opened_state s under_not l)) (sym (append-nil s.assumed))) refl refl (omega arith)
    (plain_rules h vars n k s on.Not st te refl refl refl refl refl refl refl refl (ap not body) refl (λ rest. not_deep s shallow) refl here) body refl st te after in
    let w = inner opened.0 opened.1 in
    let gs = w.0 in
    let b = w.1 in
    let u = w.3 in
    let y = w.4 in
    let z = block_ends h later vars n n o k k p s opened.0 u (frame_of s under_not) (on.Not ∷ []) js on.EndNot gs (Not nothing_written gs) [] b
    opened.1 y refl refl refl (λ q. refl) refl refl refl (omega arith) refl
    (λ strict innermost. plain_rules h vars o p u on.EndNot y.types_stand y.terms_stand refl refl refl refl refl refl refl refl refl refl
    (λ rest. ap (λ k. not (ends_block on.EndNot k)) innermost) refl strict)
    body st te room in
    (gs, b, w.2, z.0, z.1)

-- a variable is made, and a block opened under it
variable_rules : (h : Home) (vars n : ℕ) (s : State) (i : Instr) (d q : ℕ) (T : Ty) → types_read i ≡ q ∷ [] → terms_read i ≡ [] → type_set i ≡ [] →
    term_set i ≡ d ∷ [] → breaks_constant h i ≡ false → breaks_type h s i ≡ false → breaks_index s i ≡ false →
    breaks_term i ≡ false → breaks_order s i ≡ false → breaks_head h s i ≡ false →
    ((rest : List Instr) → breaks_nesting s rest i ≡ false) → breaks_clause h s i ≡ false → TypesStand h vars n s → TermsStand h d s →
    d < h.self.registers → Hold s q T → HasRoom s s.place → (rest : List Instr) (r : Rule) → broken_by h s rest i r ≡ false
variable_rules h vars n s i d q T a b c e f g j k l m o p st te low held_q room rest rule.Register =
    (λ z. list_any (λ t. nat_le h.self.types t) (a z ++ c z) || list_any (λ r. nat_le h.self.registers r) (b z ++ e z))
    ∙ or_none (list_any (λ t. nat_le h.self.types t) (q ∷ [] ++ [])) (list_any (λ r. nat_le h.self.registers r) (d ∷ [])) (types_within s h.self.types (q ∷ []) (types T no_types) st.as_many
    (held_q, tt)) (one_within h.self.registers d low)
variable_rules h vars n s i d q T a b c e f g j k l m o p st te low held_q room rest rule.Unset =
    (λ z. list_any (λ t. is_none (held s.now.types t)) (a z) || list_any (λ r. is_none (held s.now.terms r)) (b z))
    ∙ or_none (list_any (λ t. is_none (held s.now.types t)) (q ∷ [])) false (none_unset s (q ∷ []) (types T no_types) (held_q, tt)) refl
variable_rules h vars n s i d q T a b c e f g j k l m o p st te low held_q room rest rule.Set =
    (λ z. list_any (λ t. member t s.types_set) (c z) || list_any (λ r. member r s.terms_set) (e z)) ∙ one_unset h d s te
variable_rules h vars n s i d q T a b c e f g j k l m o p st te low held_q room rest rule.Constant = f
variable_rules h vars n s i d q T a b c e f g j k l m o p st te low held_q room rest rule.Typing = g
variable_rules h vars n s i d q T a b c e f g j k l m o p st te low held_q room rest rule.Index = j
variable_rules h vars n s i d q T a b c e f g j k l m o p st te low held_q room rest rule.Term = k
variable_rules h vars n s i d q T a b c e f g j k l m o p st te low held_q room rest rule.Order = l
variable_rules h vars n s i d q T a b c e f g j k l m o p st te low held_q room rest rule.Head = m
variable_rules h vars n s i d q T a b c e f g j k l m o p st te low held_q room rest rule.Block = ap (λ x. list_any (is_passed s.place) s.frames || x) (o rest) ∙ no_sides s room
variable_rules h vars n s i d q T a b c e f g j k l m o p st te low held_q room rest rule.Clause = p
variable_rules h vars n s i d q T a b c e f g j k l m o p st te low held_q room rest rule.Key = refl

-- the state in a block under a variable
abbrev variable_state : State → Block → (register : ℕ) → Built → State
variable_state s b d x = put_term (opened_state s b s.assumed) d x

-- what stands in it
variable_stands : (h : Home) (vars n : ℕ) (s : State) (i : Instr) (d : ℕ) (B : Block) (x : Built) → type_set i ≡ [] → term_set i ≡ d ∷ [] → 0 <
    length_of i → s.in_body ≡ true → TypesStand h vars n s → TermsStand h d s → d < h.self.registers →
    TypesStand h vars n (passed i (variable_state s B d x)) × TermsStand h (d + 1) (passed i (variable_state s B d x))
variable_stands h vars n s i d B x ts rs long body st te low = (
  record {
    few = st.few;
    own = st.own;
    as_many = st.as_many;
    stand = st.stand;
    unset = λ r q. ap (λ ds. member r (s.types_set ++ ds)) ts ∙ ap (member r) (append-nil s.types_set) ∙ st.unset r q;
    sound = λ z r. let q = eqb-true (s.place + length_of i) 0 z in absurd (omega (arith, q, long));
  },
  record {
    as_many = many_set s.now.terms h.self.registers d x te.as_many low;
    unset = λ r q. ap (λ ds. member r (s.terms_set ++ ds)) rs ∙ member_more r d s.terms_set (te.unset r (omega (arith, q))) (omega (arith, q));
    fresh = λ z r q. absurd (true≢false (sym body ∙ z));
  },
)

variable_opened : (h : Home) (later : Later) (vars n : ℕ) (s : State) (i : Instr) (d : ℕ) (B : Block) (x : Built) → effect h later s i ≡ Some
    (variable_state s B d x) → type_set i ≡ [] → term_set i ≡ d ∷ [] →
    0 < length_of i → ((rest : List Instr) (r : Rule) → broken_by h s rest i r ≡ false) → s.in_body ≡ true → ((q : ℕ) → side_is_passed q B ≡ false) →
    TypesStand h vars n s → TermsStand h d s → d < h.self.registers →
    HasRoom s (s.place + length_of i) → (t : State) × Opened h later vars n n d (d + 1) s (i ∷ []) (frame_of s B) [] t × (held t.now.terms d ≡ Some x)
variable_opened h later vars n s i d B x eff ts rs long fine body side st te low room =
    let t = passed i (variable_state s B d x) in
    let one : sum_by length_of (i ∷ []) ≡ 0 + length_of i = refl in
    let open_room : list_any (is_passed t.place) t.frames ≡ false = or_none (side_is_passed t.place B) (list_any (is_passed t.place) s.frames) (side t.place) room in
    let within : d < length s.now.terms = many_within s.now.terms h.self.registers d te.as_many low in
    let stands = variable_stands h vars n s i d B x ts rs long body st te low in (
      t,
      record {
        runs = λ rest. steps h later s t i rest st.sound (fine rest) (ap (option_map (λ (u : State). settled h.number (depth u.frames) (passed i u))) eff
            ∙ ap (λ (u : State). Some u) (settled_same h.number (depth t.frames) t open_room));
        place_is = omega (arith, one);
        goals_are = refl;
        frames_are = refl;
        head_types_stay = refl;
        arguments_stay = refl;
        in_body_stays = refl;
        assumed_are = sym (append-nil s.assumed);
        types_kept = λ r q. refl;
        terms_keep = λ r c q z. held_below s.now.terms d r (Some x) q ∙ z;
        types_stand = stands.0;
        terms_stand = stands.1;
      },
      held_set s.now.terms d x within,
    )

-- what is behind instructions that make a type
leads_says : (h : Home) (later : Later) (vars n m o k l : ℕ) (s t v : State) (is js : List Instr) (gs hs : Goals) (a : List (ℕ × Captured)) → Leads h
    later vars n m s is t → Says h later vars m o k l t js gs a v →
    gs ≡ hs → n ≤ m → Says h later vars n o k l s (is ++ js) hs a v
leads_says h later vars n m o k l s t v is js gs hs a x y e le = record {
  runs = λ i rest. ap (run h later s) (append_assoc is js (i ∷ rest)) ∙ x.runs (js ++ i ∷ rest) ∙ y.runs i rest;
  place_is = let i = x.place_is in let j = y.place_is in let r = sum_by-append length_of is js in omega (arith, i, j, r);
  goals_are = y.goals_are ∙ e;
  head_types_stay = y.head_types_stay ∙ x.same.head_types;
  arguments_stay = y.arguments_stay ∙ x.same.head_arguments;
  in_body_stays = y.in_body_stays ∙ x.same.in_body;
  frames_stay = y.frames_stay ∙ x.same.frames;
  assumed_are = y.assumed_are ∙ ap (λ l. l ++ a) x.same.assumed;
  types_kept = λ r q. y.types_kept r (omega (arith, q, le)) ∙ x.kept r q;
  terms_keep = λ r d q z. y.terms_keep r d q (ap (λ xs. held xs r) x.same.terms ∙ z);
  types_stand = y.types_stand;
  terms_stand = y.terms_stand;
}

-- goals below `pi`, behind the instructions that make its type
pub all_said : (h : Home) (later : Later) (vars n m o k p q : ℕ) (s r : State) (is js : List Instr) (T : Ty)
    (X : Goals → List (ℕ × Captured) → Type 0) → s.in_body ≡ true → depth s.frames < nesting_limit →
    TermsStand h k s → k < h.self.registers → Leads h later vars n m s is r → Hold r q T → n ≤ m → m ≤ o →
    MayEnd s (s.place + sum_by length_of (is ++ (on.All k q ∷ [] ++ (js ++ on.EndAll ∷ [])))) →
    ((t : State) → Opened h later vars m m k (k + 1) r (on.All k q ∷ []) (frame_of r (under_all k T)) [] t → held t.now.terms k ≡ Some (whole (variable k h.number) T) →
    Inner h later vars m o (k + 1) p t js X) →
    (gs : Goals) × (b : List (ℕ × Captured)) × X gs b × (v : State)
    × Says h later vars n o k p s (is ++ (on.All k q ∷ [] ++ (js ++ on.EndAll ∷ []))) (with_goal s.goals (Forall T (bind_goals (k ∷ []) h.number gs))) b v
all_said h later vars n m o k p q s r is js T X body shallow te low x held_q le mo room inner =
    let tail = on.All k q ∷ [] ++ (js ++ on.EndAll ∷ []) in
    let size = sum_by-append length_of is tail in
    let place = x.place_is in
    let room_r : MayEnd r (r.place + sum_by length_of tail) = subst (λ n. MayEnd r n)
    (let z : s.place + sum_by length_of (is ++ tail) ≡ r.place + sum_by length_of tail = omega (arith, place, size) in z)
    (subst (λ fs. list_any (λ (f : Frame). ends_before (s.place + sum_by length_of (is ++ tail)) f.block) fs ≡ false) (sym x.same.frames) room) in
    let body_r : r.in_body ≡ true = x.same.in_body ∙ body in
    let te_r : TermsStand h k r = (moved h later vars n m k s r is x te).terms_stand in
    let first = sum_by-append length_of (on.All k q ∷ []) (js ++ on.EndAll ∷ []) in
    let second = sum_by-append length_of js (on.EndAll ∷ []) in
    let five : sum_by length_of (on.All k q ∷ []) ≡ 5 = refl in
    let one : sum_by length_of (on.EndAll ∷ []) ≡ 1 = refl in
    let after : HasRoom r (r.place + 5) = may_strict (r.place + 5) (r.place + sum_by length_of tail) r.frames (omega (arith, first, second, five, one)) room_r in
    let here : HasRoom r r.place = room_less r.place (r.place + 5) r.frames (omega arith) after in
    let deep : depth r.frames < nesting_limit = subst (λ fs. depth fs < nesting_limit) (sym x.same.frames) shallow in
    let y = variable_opened h later vars m r (on.All k q) k (under_all k T) (whole (variable k h.number) T)
    (ap (λ o. Some (variable_state r (under_all k (unwrap_or o o_type)) k (whole (variable k h.number) (unwrap_or o o_type)))) held_q) refl refl (omega arith)
    (variable_rules h vars m r (on.All k q) k q T refl refl refl refl refl refl refl refl (ap not body_r) refl (λ rest. not_deep r deep) refl x.stands
    te_r low held_q here) body_r (λ q. refl) x.stands te_r low after in
    let w = inner y.0 y.1 y.2 in
    let gs = w.0 in
    let b = w.1 in
    let u = w.3 in
    let g = w.4 in
    let z = block_ends h later vars m m o k (k + 1) p r y.0 u (frame_of r (under_all k T)) (on.All k q ∷ []) js on.EndAll gs
    (Forall T (bind_goals (k ∷ []) h.number gs)) [] b y.1 g refl refl refl (λ q. refl) refl refl refl
    (omega arith) refl (λ strict innermost. plain_rules h vars o p u on.EndAll g.types_stand g.terms_stand refl refl refl refl refl refl refl refl refl refl
    (λ rest. ap (λ k. not (ends_block on.EndAll k)) innermost) refl strict) body_r x.stands te_r room_r in (
      gs,
      b,
      w.2,
      z.0,
      leads_says h later vars n m o k p s r z.0 is tail _ (with_goal s.goals (Forall T (bind_goals (k ∷ []) h.number gs))) b x z.1
          (ap (λ l. with_goal l (Forall T (bind_goals (k ∷ []) h.number gs))) x.same.goals) le,
    )

-- goals below `sigma`, which is open up to the end of the block around it
pub sigma_said : (h : Home) (later : Later) (vars n m o k p q : ℕ) (s r : State) (is js : List Instr) (T : Ty)
    (X : Goals → List (ℕ × Captured) → Type 0) → s.in_body ≡ true → TermsStand h k s → k < h.self.registers →
    Leads h later vars n m s is r → Hold r q T → n ≤ m → m ≤ o → MayEnd s (s.place + sum_by length_of (is ++ (on.Sigma k q ∷ [] ++ js))) → 0 < sum_by length_of js →
    ((t : State) → Opened h later vars m m k (k + 1) r (on.Sigma k q ∷ []) (frame_of r (under_sigma k T)) [] t → held t.now.terms k ≡ Some (whole (variable k h.number) T) →
    Inner h later vars m o (k + 1) p t js X) →
    (gs : Goals) × (b : List (ℕ × Captured)) × X gs b × (u : State) × GoalsSaid h later vars n o k p s (is ++ (on.Sigma k q ∷ [] ++ js))
    (goals (Exists T (bind_goals (k ∷ []) h.number gs)) no_goals) b u
sigma_said h later vars n m o k p q s r is js T X body te low x held_q le mo room some inner =
    let tail = on.Sigma k q ∷ [] ++ js in
    let size = sum_by-append length_of is tail in
    let place = x.place_is in
    let room_r : MayEnd r (r.place + sum_by length_of tail) = subst (λ n. MayEnd r n)
    (let z : s.place + sum_by length_of (is ++ tail) ≡ r.place + sum_by length_of tail = omega (arith, place, size) in z)
    (subst (λ fs. list_any (λ (f : Frame). ends_before (s.place + sum_by length_of (is ++ tail)) f.block) fs ≡ false) (sym x.same.frames) room) in
    let body_r : r.in_body ≡ true = x.same.in_body ∙ body in
    let te_r : TermsStand h k r = (moved h later vars n m k s r is x te).terms_stand in
    let first = sum_by-append length_of (on.Sigma k q ∷ []) js in
    let five : sum_by length_of (on.Sigma k q ∷ []) ≡ 5 = refl in
    let after : HasRoom r (r.place + 5) = may_strict (r.place + 5) (r.place + sum_by length_of tail) r.frames (omega (arith, first, five, some)) room_r in
    let here : HasRoom r r.place = room_less r.place (r.place + 5) r.frames (omega arith) after in
    let y = variable_opened h later vars m r (on.Sigma k q) k (under_sigma k T) (whole (variable k h.number) T)
    (ap (λ o. Some (variable_state r (under_sigma k (unwrap_or o o_type)) k (whole (variable k h.number) (unwrap_or o o_type)))) held_q) refl refl (omega arith)
    (variable_rules h vars m r (on.Sigma k q) k q T refl refl refl refl refl refl refl refl (ap not body_r) refl (λ rest. refl) refl x.stands te_r low
    held_q here) body_r (λ q. refl) x.stands te_r low after in
    let w = inner y.0 y.1 y.2 in
    let gs = w.0 in
    let b = w.1 in
    let u = w.3 in
    let g = w.4 in
    let bound = Exists T (bind_goals (k ∷ []) h.number gs) in
    let i = y.1.place_is in
    let j = g.place_is in (
      gs,
      b,
      w.2,
      u,
      record {
        runs = λ e rest. ap (run h later s) (append_assoc is tail (e ∷ rest)) ∙ x.runs (tail ++ e ∷ rest) ∙ y.1.runs (js ++ e ∷ rest) ∙ g.runs e rest
            ∙ ap (λ (z : State). run h later z (e ∷ rest)) (some_code h js u some ∙ sym (some_code h (is ++ tail) u (omega (arith, size, first, five))));
        place_is = omega (arith, place, size, i, j, first);
        closes = record {
          same = g.closes.same ∙ (λ z. end_variables h.number (add_goals (y.1.goals_are z) gs) (y.1.frames_are z)) ∙ (λ z. end_variables h.number (with_goal (x.same.goals z) bound) (x.same.frames z));
          innermost = g.closes.innermost ∙ ap innermost_block y.1.frames_are ∙ ap innermost_block x.same.frames;
          deep = g.closes.deep ∙ ap depth y.1.frames_are ∙ ap depth x.same.frames;
          sides = λ f e. g.closes.sides f e ∙ ap (list_any f) y.1.frames_are ∙ or_skip (f (frame_of r (under_sigma k T))) (list_any f r.frames)
              (e (frame_of r (under_sigma k T)) refl) ∙ ap (list_any f) x.same.frames;
        };
        head_types_stay = g.head_types_stay ∙ y.1.head_types_stay ∙ x.same.head_types;
        arguments_stay = g.arguments_stay ∙ y.1.arguments_stay ∙ x.same.head_arguments;
        in_body_stays = g.in_body_stays ∙ y.1.in_body_stays ∙ x.same.in_body;
        assumed_are = g.assumed_are ∙ ap (λ l. l ++ b) (y.1.assumed_are ∙ append-nil r.assumed ∙ x.same.assumed);
        types_kept = λ a z. g.types_kept a (omega (arith, z, le)) ∙ y.1.types_kept a (omega (arith, z, le)) ∙ x.kept a z;
        terms_keep = λ a d z e. g.terms_keep a d (omega (arith, z)) (y.1.terms_keep a d z (ap (λ xs. held xs a) x.same.terms ∙ e));
        types_stand = g.types_stand;
        terms_stand = g.terms_stand;
      },
    )

-- `sigma` with no goals behind it: its block may end with it
pub sigma_alone : (h : Home) (later : Later) (vars n m k q : ℕ) (s r : State) (is : List Instr) (T : Ty) → s.in_body ≡ true → TermsStand h k s → k <
    h.self.registers → Leads h later vars n m s is r → Hold r q T →
    MayEnd s (s.place + sum_by length_of (is ++ on.Sigma k q ∷ [])) → (u : State) × GoalsSaid h later vars n m k (k + 1) s (is ++ on.Sigma k q ∷ []) (goals (Exists T no_goals) no_goals) [] u
sigma_alone h later vars n m k q s r is T body te low x held_q room =
    let sigma = on.Sigma k q in
    let v = whole (variable k h.number) T in
    let B = under_sigma k T in
    let u = passed sigma (variable_state r B k v) in
    let size = sum_by-append length_of is (sigma ∷ []) in
    let five : sum_by length_of (sigma ∷ []) ≡ 5 = refl in
    let place = x.place_is in
    let body_r : r.in_body ≡ true = x.same.in_body ∙ body in
    let te_r : TermsStand h k r = (moved h later vars n m k s r is x te).terms_stand in
    let room_r : MayEnd r (r.place + 5) = subst (λ n. MayEnd r n) (let z : s.place + sum_by length_of (is ++ sigma ∷ []) ≡ r.place + 5 = omega (arith, place, size, five) in z)
    (subst (λ fs. list_any (λ (f : Frame). ends_before (s.place + sum_by length_of (is ++ sigma ∷ [])) f.block) fs ≡ false) (sym x.same.frames) room) in
    let here : HasRoom r r.place = may_strict r.place (r.place + 5) r.frames (omega arith) room_r in
    let eff : effect h later r sigma ≡ Some (variable_state r B k v) =
    ap (λ o. Some (variable_state r (under_sigma k (unwrap_or o o_type)) k (whole (variable k h.number) (unwrap_or o o_type)))) held_q in
    let fine = variable_rules h vars m r sigma k q T refl refl refl refl refl refl refl refl (ap not body_r) refl (λ rest. refl) refl x.stands te_r low held_q here in
    let stands = variable_stands h vars m r sigma k B v refl refl (omega arith) body_r x.stands te_r low in (
      u,
      record {
        runs = λ e rest. ap (run h later s) (append_assoc is (sigma ∷ []) (e ∷ rest)) ∙ x.runs (sigma ∷ e ∷ rest)
            ∙ steps h later r (settled h.number (depth u.frames) u) sigma (e ∷ rest) x.stands.sound (fine (e ∷ rest))
            (ap (option_map (λ (z : State). settled h.number (depth z.frames) (passed sigma z))) eff)
            ∙ ap (λ (z : State). run h later z (e ∷ rest)) (sym (some_code h (is ++ sigma ∷ []) u (omega (arith, size, five))));
        place_is = omega (arith, place, size, five);
        closes = record {
          same = (λ z. end_variables h.number (with_goal (x.same.goals z) (Exists T no_goals)) (x.same.frames z));
          innermost = ap innermost_block x.same.frames;
          deep = ap depth x.same.frames;
          sides = λ f e. or_skip (f (frame_of r B)) (list_any f r.frames) (e (frame_of r B) refl) ∙ ap (list_any f) x.same.frames;
        };
        head_types_stay = x.same.head_types;
        arguments_stay = x.same.head_arguments;
        in_body_stays = x.same.in_body;
        assumed_are = x.same.assumed ∙ sym (append-nil s.assumed);
        types_kept = x.kept;
        terms_keep = λ a d z e. held_below r.now.terms k a (Some v) z ∙ ap (λ xs. held xs a) x.same.terms ∙ e;
        types_stand = stands.0;
        terms_stand = stands.1;
      },
    )
