-- Two runs of the same instructions: one with what the later records denote, and one in which that does not matter. The first one comes to its end where the
-- second one does and each record that is assumed on the way denotes a clause.
use Rattle.std.proofs.Common.{◌≡◌, ◌∙◌, ◌<◌, ℕ, zero, suc, ◌+◌, List, [], ◌∷◌, ◌++◌, append_assoc, map, length, Bool, true, false, Option, Some, None, ap, refl, sym, subst}
use Rattle.std.specs.Prelude.{nat_eq, nat_lt, not, ◌||◌, ◌&&◌, if◌then◌else◌, option_map, option_and_then, slice_get, unwrap_or, Vec}
use Rattle.std.specs.Global.{Global}
use Rattle.std.proofs.lemmas.Bool.{ltb-true}
use Rattle.lp_lemmas.proofs.Lists.{append_nil_sym}
use Rattle.lp_lemmas.proofs.Booleans.{or_false_left, or_false_right}
use Rattle.lp_calculus.specs.Types.{con, arrow, tys}
use Rattle.lp_calculus.specs.Term.{atom, integer, text}
use Rattle.lp_calculus.specs.Typing.{int_type, string_type}
use Rattle.lp_model.specs.Flat.{Goal, Goals, Clause, Clauses, no_clauses, clauses}
use Rattle.lp_code.specs.declared.instruction.Instr.{Instr}
use Rattle.lp_code.specs.declared.instruction.Instr.TheVariants as on
use Rattle.lp_code.specs.declared.record.Record.{Record}
use Rattle.lp_code.specs.declared.rule.Rule.{Rule}
use Rattle.lp_code.specs.declared.rule.Rule.TheVariants as rule
use Rattle.lp_code.specs.Symbolic.{variable, type_in, types_in, term_in, terms_in, whole, bound_index, abstraction_of, application_of}
use Rattle.lp_code.specs.States.{under_sigma, under_all, under_assumption, under_not, left_side, Frame, State, Home, Captured, depth, member, end_variables, innermost_block}
use Rattle.lp_code.specs.Steps.{Later, own_type, constant_of, argument_at, put_type, put_term, with_argument, opens, clauses_of_records, captured_by, handed, effect, goal_of_block, leave_block, leave_from, leave, turn_from, is_right_end, settled, passed, after}
use Rattle.lp_code.specs.Rules.{breaks_clause, are_fine_names, is_assumed_record, named_before, names_of, names_in}
use Rattle.lp_code.specs.Denote.{rules, first_broken, broken_of, broken_by, broken_by_record, Ran, Done, Broken, Void, unless_broken, run_on, run, any_clause, first_state}
use Rattle.lp_verify.proofs.Members.{member_append}
use Rattle.lp_verify.proofs.Joined.{or_false}
use Rattle.lp_verify.proofs.HandedOn.{names_handed}
use Rattle.lp_verify.proofs.Outlines.{any_clauses}
use Rattle.lp_verify.proofs.Goalless.{goalless, depth_same, broken_same, left_same_way, turned_same_way, ended_same_way, settled_same_way}

abbrev pub numbers : List (ℕ × Captured) → List ℕ
numbers xs = map (λ (a : ℕ × Captured). a.0) xs

pub numbers_both : (xs ys : List (ℕ × Captured)) → numbers (xs ++ ys) ≡ numbers xs ++ numbers ys
numbers_both [] ys = refl
numbers_both (x ∷ xs) ys = ap (λ l. x.0 ∷ l) (numbers_both xs ys)

-- the records, with what they start with, denote clauses
abbrev pub AreDenoted : Later → List (ℕ × Captured) → Type 0
AreDenoted later [] = Unit {0}
AreDenoted later (a ∷ more) = ((c : Clause) × (later a.0 a.1 ≡ Some c)) × AreDenoted later more

pub denoted_front : (later : Later) (xs ys : List (ℕ × Captured)) → AreDenoted later (xs ++ ys) → AreDenoted later xs
denoted_front later [] ys h = tt
denoted_front later (x ∷ xs) ys h = (h.0, denoted_front later xs ys h.1)

pub denoted_back : (later : Later) (xs ys : List (ℕ × Captured)) → AreDenoted later (xs ++ ys) → AreDenoted later ys
denoted_back later [] ys h = h
denoted_back later (x ∷ xs) ys h = denoted_back later xs ys h.1

pub denoted_both : (later : Later) (xs ys : List (ℕ × Captured)) → AreDenoted later xs → AreDenoted later ys → AreDenoted later (xs ++ ys)
denoted_both later [] ys g h = h
denoted_both later (x ∷ xs) ys g h = (g.0, denoted_both later xs ys g.1 h)

-- records that are assumed

clauses_there : (later : Later) (ns : List ℕ) (c : Captured) → AreDenoted later (handed ns c) → (cs : Clauses) × (clauses_of_records later ns c ≡ Some cs)
clauses_there later [] c h = (no_clauses, refl)
clauses_there later (n ∷ ns) c h =
    let more = clauses_there later ns c h.1 in
    (clauses h.0.0 more.0, (λ j. option_and_then (λ d. option_map (clauses d) (more.1 j)) (h.0.1 j)))

clauses_from : (later : Later) (ns : List ℕ) (c : Captured) (cs : Clauses) → clauses_of_records later ns c ≡ Some cs → AreDenoted later (handed ns c)
clauses_from later [] c cs h = tt
clauses_from later (n ∷ ns) c cs h = by_first (λ ds e. clauses_from later ns c ds e) (later n c) refl h
  where
    by_rest : ((ds : Clauses) → clauses_of_records later ns c ≡ Some ds → AreDenoted later (handed ns c)) → (d : Clause) (o : Option Clauses) → clauses_of_records later ns c ≡ o → option_map (clauses d) o ≡ Some cs → AreDenoted later (handed ns c)
    by_rest go d None e h = absurd (cc)
    by_rest go d (Some ds) e h = go ds e

    by_first : ((ds : Clauses) → clauses_of_records later ns c ≡ Some ds → AreDenoted later (handed ns c)) → (o : Option Clause) → later n c ≡ o → option_and_then (λ d. option_map (clauses d) (clauses_of_records later ns c)) o ≡ Some cs → AreDenoted later (handed (n ∷ ns) c)
    by_first go None e h = absurd (cc)
    by_first go (Some d) e h = ((d, e), by_rest go d (clauses_of_records later ns c) refl h)

-- records that are assumed: each is a later one and an assumed one, and was not named before

abbrev pub IsAssumed : List Record → ℕ → Type 0
IsAssumed all n = (r : Record) × (slice_get all n ≡ Some r) × (r.program ≡ false)

abbrev pub AreFresh : List Record → (number : ℕ) → (named : ℕ → Bool) → List (ℕ × Captured) → Type 0
AreFresh all k f [] = Unit {0}
AreFresh all k f (a ∷ more) = (k < a.0) × (f a.0 ≡ false) × IsAssumed all a.0 × AreFresh all k (λ m. nat_eq m a.0 || f m) more

fresh_same : (all : List Record) (k : ℕ) (f g : ℕ → Bool) (xs : List (ℕ × Captured)) → ((m : ℕ) → f m ≡ g m) → AreFresh all k f xs → AreFresh all k g xs
fresh_same all k f g xs e h = subst (λ f. AreFresh all k f xs) (λ j m. e m j) h

or_turned : (a b c : Bool) → (b || (a || c)) ≡ ((a || b) || c)
or_turned true true c = refl
or_turned true false c = refl
or_turned false true c = refl
or_turned false false c = refl

fresh_both : (all : List Record) (k : ℕ) (f : ℕ → Bool) (xs ys : List (ℕ × Captured)) → AreFresh all k f xs → AreFresh all k (λ m. f m || member m (numbers xs)) ys → AreFresh all k f (xs ++ ys)
fresh_both all k f [] ys g h = fresh_same all k (λ m. f m || false) f ys (λ m. or_false (f m)) h
fresh_both all k f (a ∷ xs) ys g h =
    (g.0, g.1, g.2, fresh_both all k (λ m. nat_eq m a.0 || f m) xs ys g.3 (fresh_same all k (λ m. f m || (nat_eq m a.0 || member m (numbers xs))) (λ m. (nat_eq m a.0 || f m) || member m (numbers xs)) ys (λ m. or_turned (nat_eq m a.0) (f m) (member m (numbers xs))) h))

negated : (b : Bool) → not b ≡ true → b ≡ false
negated true e = absurd (cc)
negated false e = refl

not_false : (b : Bool) → not b ≡ false → b ≡ true
not_false true e = refl
not_false false e = absurd (cc)

four_true : (a b c d : Bool) → (a && b && c && d) ≡ true → (a ≡ true) × (b ≡ true) × (c ≡ true) × (d ≡ true)
four_true true true true true e = (refl, refl, refl, refl)
four_true true true true false e = absurd (cc)
four_true true true false d e = absurd (cc)
four_true true false c d e = absurd (cc)
four_true false b c d e = absurd (cc)

three_true : (a b c : Bool) → (a && b && c) ≡ true → a ≡ true
three_true true b c e = refl
three_true false b c e = absurd (cc)

is_assumed : (all : List Record) (n ts rs : ℕ) (o : Option Record) → slice_get all n ≡ o → is_assumed_record o ts rs ≡ true → IsAssumed all n
is_assumed all n ts rs None e h = absurd (cc)
is_assumed all n ts rs (Some r) e h = (r, e, negated r.program (three_true (not r.program) (nat_eq r.captured_types ts) (nat_eq r.captured rs) h))

fine_fresh : (h : Home) (named : List ℕ) (f : ℕ → Bool) (ts rs : ℕ) (ns : List ℕ) (c : Captured) → ((m : ℕ) → f m ≡ member m named) → are_fine_names h named ts rs ns ≡ true → AreFresh h.records h.number f (handed ns c)
fine_fresh h named f ts rs [] c e fine = tt
fine_fresh h named f ts rs (n ∷ ns) c e fine =
    let t = four_true (nat_lt h.number n) (is_assumed_record (slice_get h.records n) ts rs) (not (member n named)) (are_fine_names h (n ∷ named) ts rs ns) fine in (
      ltb-true h.number n t.0,
      e n ∙ negated (member n named) t.2,
      is_assumed h.records n ts rs (slice_get h.records n) refl t.1,
      fine_fresh h (n ∷ named) (λ m. nat_eq m n || f m) ts rs ns c (λ m. ap (λ b. nat_eq m n || b) (e m)) t.3,
    )

-- those that were named at a state
abbrev pub named_at : Home → State → ℕ → Bool
named_at h s m = member m (named_before h.number h.records ++ numbers s.assumed)

-- what is assumed stays where blocks are left
left_assumed : (home : ℕ) (s : State) (gs : Goals) (fs : List Frame) → (leave_from home s gs fs).assumed ≡ s.assumed
left_assumed home s gs [] = refl
left_assumed home s gs (f ∷ fs) = by_goal (goal_of_block home f.block gs)
  where
    by_goal : (o : Option Goal) → (leave_block s f fs o).assumed ≡ s.assumed
    by_goal None = refl
    by_goal (Some g) = refl

left_with : (home : ℕ) (s : State) → (leave home s).assumed ≡ s.assumed
left_with home s = left_assumed home s (end_variables home s.goals s.frames).goals (end_variables home s.goals s.frames).frames

turned_assumed : (s : State) (n : ℕ) (gs : Goals) (fs : List Frame) → (turn_from s n gs fs).assumed ≡ s.assumed
turned_assumed s n gs [] = refl
turned_assumed s n gs (f ∷ fs) = refl

-- what one instruction does in both runs

abbrev does : Home → Later → State → Instr → State
does h later s i = unwrap_or (effect h later s i) s

pub record Acts (h : Home) (later : Later) (u : State) (i : Instr) : Type 0 where
  pub to : State
  pub comes : effect h any_clause u i ≡ Some to
  pub more : List (ℕ × Captured)
  pub names : numbers more ≡ names_of i
  pub assumed : to.assumed ≡ u.assumed ++ more
  pub fresh : breaks_clause h u i ≡ false → AreFresh h.records h.number (named_at h u) more
  pub forth : (s : State) → goalless s ≡ goalless u → AreDenoted later more → (t : State) × (effect h later s i ≡ Some t) × (goalless t ≡ goalless to)
  pub back : (s : State) → goalless s ≡ goalless u → (t : State) → effect h later s i ≡ Some t → AreDenoted later more

plainly : (h : Home) (later : Later) (u : State) (i : Instr) → ((s : State) → effect h later s i ≡ Some (does h later s i)) → effect h any_clause u i ≡ Some (does h any_clause u i) → names_of i ≡ [] → (does h any_clause u i).assumed ≡ u.assumed
    → ((s : State) → goalless s ≡ goalless u → goalless (does h later s i) ≡ goalless (does h any_clause u i)) → Acts h later u i
plainly h later u i e f n k g = record {
  to = does h any_clause u i;
  comes = f;
  more = [];
  names = sym n;
  assumed = k ∙ append_nil_sym u.assumed;
  fresh = λ fine. tt;
  forth = λ s same d. (does h later s i, e s, g s same);
  back = λ s same t e. tt;
}

-- an argument that is a variable at its first place
abbrev take_variable : Home → (i d : ℕ) → State → State
take_variable h i d x = with_argument (put_term x d (whole (variable d h.number) (argument_at h x i))) (whole (variable d h.number) (argument_at h x i))

abbrev assumes : State → (ns ts rs : List ℕ) → Clauses → State
assumes s ns ts rs cs = record (opens s (under_assumption cs)) { assumed = s.assumed ++ handed ns (captured_by s ts rs) }

same_captured : (s u : State) (ts rs : List ℕ) → goalless s ≡ goalless u → captured_by s ts rs ≡ captured_by u ts rs
same_captured s u ts rs e = ap (λ (x : State). captured_by x ts rs) e

assuming_back : (later : Later) (s : State) (ns ts rs : List ℕ) (t : State) (o : Option Clauses) → clauses_of_records later ns (captured_by s ts rs) ≡ o → option_map (assumes s ns ts rs) o ≡ Some t → AreDenoted later (handed ns (captured_by s ts rs))
assuming_back later s ns ts rs t None e f = absurd (cc)
assuming_back later s ns ts rs t (Some cs) e f = clauses_from later ns (captured_by s ts rs) cs e

assuming : (h : Home) (later : Later) (u : State) (ns ts rs : Vec ℕ Global) → Acts h later u (on.Assume ns ts rs)
assuming h later u ns ts rs =
    let any = any_clauses (captured_by u ts.items rs.items) ns.items in record {
      to = assumes u ns.items ts.items rs.items any.0;
      comes = ap (option_map (assumes u ns.items ts.items rs.items)) any.1;
      more = handed ns.items (captured_by u ts.items rs.items);
      names = names_handed ns.items (captured_by u ts.items rs.items);
      assumed = refl;
      fresh = λ fine. fine_fresh h (named_before h.number h.records ++ numbers u.assumed) (named_at h u) (length ts.items) (length rs.items) ns.items (captured_by u ts.items rs.items) (λ m. refl) (not_false _ fine);
      forth = λ s e d.
          let cs = clauses_there later ns.items (captured_by s ts.items rs.items) (subst (λ c. AreDenoted later (handed ns.items c)) (sym (same_captured s u ts.items rs.items e)) d) in
          (assumes s ns.items ts.items rs.items cs.0, ap (option_map (assumes s ns.items ts.items rs.items)) cs.1, ap (λ (x : State). assumes x ns.items ts.items rs.items no_clauses) e);
      back = λ s e t f. subst (λ c. AreDenoted later (handed ns.items c)) (same_captured s u ts.items rs.items e) (assuming_back later s ns.items ts.items rs.items t (clauses_of_records later ns.items (captured_by s ts.items rs.items)) refl f);
    }

step : (h : Home) (later : Later) (u : State) (i : Instr) → Acts h later u i
step h later u (on.TyCon d k ts) = plainly h later u (on.TyCon d k ts) (λ s. refl) refl refl refl (λ s e. ap (λ (x : State). put_type x d (con k (tys (types_in x.now ts.items)))) e)
step h later u (on.TyArr d a b) = plainly h later u (on.TyArr d a b) (λ s. refl) refl refl refl (λ s e. ap (λ (x : State). put_type x d (arrow (type_in x.now a) (type_in x.now b))) e)
step h later u (on.TyNew d) = plainly h later u (on.TyNew d) (λ s. refl) refl refl refl (λ s e. ap (λ (x : State). put_type x d (own_type h.self d)) e)
step h later u (on.New d t) = plainly h later u (on.New d t) (λ s. refl) refl refl refl (λ s e. ap (λ (x : State). put_term x d (whole (variable d h.number) (type_in x.now t))) e)
step h later u (on.PutConst d c ts) = plainly h later u (on.PutConst d c ts) (λ s. refl) refl refl refl (λ s e. ap (λ (x : State). put_term x d (constant_of h.tables c (types_in x.now ts.items))) e)
step h later u (on.PutInt d z) = plainly h later u (on.PutInt d z) (λ s. refl) refl refl refl (λ s e. ap (λ (x : State). put_term x d (whole (atom (integer z)) int_type)) e)
step h later u (on.PutStr d b) = plainly h later u (on.PutStr d b) (λ s. refl) refl refl refl (λ s e. ap (λ (x : State). put_term x d (whole (atom (text b.items)) string_type)) e)
step h later u (on.PutIndex d i t) = plainly h later u (on.PutIndex d i t) (λ s. refl) refl refl refl (λ s e. ap (λ (x : State). put_term x d (bound_index i (type_in x.now t))) e)
step h later u (on.PutAbs d b t) = plainly h later u (on.PutAbs d b t) (λ s. refl) refl refl refl (λ s e. ap (λ (x : State). put_term x d (abstraction_of (term_in x.now b) (type_in x.now t))) e)
step h later u (on.PutApp d f rs) = plainly h later u (on.PutApp d f rs) (λ s. refl) refl refl refl (λ s e. ap (λ (x : State). put_term x d (application_of (term_in x.now f) (terms_in x.now rs.items))) e)
step h later u (on.GetType j t) = plainly h later u (on.GetType j t) (λ s. refl) refl refl refl (λ s e. ap (λ (x : State). record x { head_types = x.head_types ++ type_in x.now t ∷ [] }) e)
step h later u (on.GetVar i d) = plainly h later u (on.GetVar i d) (λ s. refl) refl refl refl (λ s e. ap (λ (x : State). take_variable h i d x) e)
step h later u (on.Get i r) = plainly h later u (on.Get i r) (λ s. refl) refl refl refl (λ s e. ap (λ (x : State). with_argument x (term_in x.now r)) e)
step h later u (on.GetConst i c ts) = plainly h later u (on.GetConst i c ts) (λ s. refl) refl refl refl (λ s e. ap (λ (x : State). with_argument x (constant_of h.tables c (types_in x.now ts.items))) e)
step h later u (on.GetInt i z) = plainly h later u (on.GetInt i z) (λ s. refl) refl refl refl (λ s e. ap (λ (x : State). with_argument x (whole (atom (integer z)) int_type)) e)
step h later u (on.GetStr i b) = plainly h later u (on.GetStr i b) (λ s. refl) refl refl refl (λ s e. ap (λ (x : State). with_argument x (whole (atom (text b.items)) string_type)) e)
step h later u on.Neck = plainly h later u on.Neck (λ s. refl) refl refl refl (λ s e. ap (λ (x : State). record x { in_body = true }) e)
step h later u (on.Call c ts rs) = plainly h later u (on.Call c ts rs) (λ s. refl) refl refl refl (λ s e. e)
step h later u (on.CallTerm r) = plainly h later u (on.CallTerm r) (λ s. refl) refl refl refl (λ s e. e)
step h later u (on.Equal t l r) = plainly h later u (on.Equal t l r) (λ s. refl) refl refl refl (λ s e. e)
step h later u (on.Is t l r) = plainly h later u (on.Is t l r) (λ s. refl) refl refl refl (λ s e. e)
step h later u (on.Less l r) = plainly h later u (on.Less l r) (λ s. refl) refl refl refl (λ s e. e)
step h later u (on.Greater l r) = plainly h later u (on.Greater l r) (λ s. refl) refl refl refl (λ s e. e)
step h later u (on.AtMost l r) = plainly h later u (on.AtMost l r) (λ s. refl) refl refl refl (λ s e. e)
step h later u (on.AtLeast l r) = plainly h later u (on.AtLeast l r) (λ s. refl) refl refl refl (λ s e. e)
step h later u on.Cut = plainly h later u on.Cut (λ s. refl) refl refl refl (λ s e. e)
step h later u (on.Sigma d t) = plainly h later u (on.Sigma d t) (λ s. refl) refl refl refl (λ s e. ap (λ (x : State). put_term (opens x (under_sigma d (type_in x.now t))) d (whole (variable d h.number) (type_in x.now t))) e)
step h later u (on.All d t) = plainly h later u (on.All d t) (λ s. refl) refl refl refl (λ s e. ap (λ (x : State). put_term (opens x (under_all d (type_in x.now t))) d (whole (variable d h.number) (type_in x.now t))) e)
step h later u on.EndAll = plainly h later u on.EndAll (λ s. refl) refl refl (left_with h.number u) (λ s e. left_same_way h.number s u e)
step h later u on.EndAssume = plainly h later u on.EndAssume (λ s. refl) refl refl (left_with h.number u) (λ s e. left_same_way h.number s u e)
step h later u (on.Either n) = plainly h later u (on.Either n) (λ s. refl) refl refl refl (λ s e. ap (λ (x : State). opens x (left_side (x.place + 5 + n))) e)
step h later u (on.Jump n) = plainly h later u (on.Jump n) (λ s. refl) refl refl (turned_assumed u n (end_variables h.number u.goals u.frames).goals (end_variables h.number u.goals u.frames).frames) (λ s e. turned_same_way h.number s u n e)
step h later u on.Proceed = plainly h later u on.Proceed (λ s. refl) refl refl refl (λ s e. ended_same_way h.number s u e)
step h later u on.Not = plainly h later u on.Not (λ s. refl) refl refl refl (λ s e. ap (λ (x : State). opens x under_not) e)
step h later u on.EndNot = plainly h later u on.EndNot (λ s. refl) refl refl (left_with h.number u) (λ s e. left_same_way h.number s u e)
step h later u (on.Assume ns ts rs) = assuming h later u ns ts rs

-- the same behind the instruction
abbrev settles : Home → Instr → State → State
settles h i t = settled h.number (depth t.frames) (passed i t)

settles_same : (h : Home) (i : Instr) (t v : State) → goalless t ≡ goalless v → goalless (settles h i t) ≡ goalless (settles h i v)
settles_same h i t v e =
    ap (λ n. goalless (settled h.number n (passed i t))) (sym (depth_same t.frames) ∙ ap (λ (x : State). depth x.frames) e ∙ depth_same v.frames)
    ∙ settled_same_way h.number (depth v.frames) (passed i t) (passed i v) (ap (passed i) e)

settled_assumed : (home n : ℕ) (s : State) → (settled home n s).assumed ≡ s.assumed
settled_assumed home zero s = refl
settled_assumed home (suc n) s = by_test (is_right_end s.place (innermost_block s.frames)) (settled_assumed home n (leave home s))
  where
    by_test : (b : Bool) → (settled home n (leave home s)).assumed ≡ (leave home s).assumed → (if b then settled home n (leave home s) else s).assumed ≡ s.assumed
    by_test true h = h ∙ left_with home s
    by_test false h = refl

pub record Steps (h : Home) (later : Later) (u : State) (i : Instr) : Type 0 where
  pub to : State
  pub comes : after h any_clause u i ≡ Some to
  pub more : List (ℕ × Captured)
  pub names : numbers more ≡ names_of i
  pub assumed : to.assumed ≡ u.assumed ++ more
  pub fresh : breaks_clause h u i ≡ false → AreFresh h.records h.number (named_at h u) more
  pub forth : (s : State) → goalless s ≡ goalless u → AreDenoted later more → (t : State) × (after h later s i ≡ Some t) × (goalless t ≡ goalless to)
  pub back : (s : State) → goalless s ≡ goalless u → (t : State) → after h later s i ≡ Some t → AreDenoted later more

step_back : (h : Home) (later : Later) (u : State) (i : Instr) (a : Acts h later u i) (s : State) → goalless s ≡ goalless u → (t : State) (o : Option State) → effect h later s i ≡ o → option_map (settles h i) o ≡ Some t → AreDenoted later a.more
step_back h later u i a s e t None k f = absurd (cc)
step_back h later u i a s e t (Some v) k f = a.back s e v k

pub steps : (h : Home) (later : Later) (u : State) (i : Instr) → Steps h later u i
steps h later u i =
    let a = step h later u i in record {
      to = settles h i a.to;
      comes = ap (option_map (settles h i)) a.comes;
      more = a.more;
      names = a.names;
      assumed = settled_assumed h.number (depth a.to.frames) (passed i a.to) ∙ a.assumed;
      fresh = a.fresh;
      forth = λ s e d.
          let f = a.forth s e d in
          (settles h i f.0, ap (option_map (settles h i)) f.1, settles_same h i f.0 a.to f.2);
      back = λ s e t f. step_back h later u i a s e t (effect h later s i) refl f;
    }

-- rules that are not broken

abbrev pub NoneBroken : (Rule → Bool) → List Rule → Type 0
NoneBroken f [] = Unit {0}
NoneBroken f (r ∷ rs) = (f r ≡ false) × NoneBroken f rs

pub none_broken : (f : Rule → Bool) (rs : List Rule) → first_broken f rs ≡ None → NoneBroken f rs
none_broken f [] h = tt
none_broken f (r ∷ rs) h = by_test (f r) refl (none_broken f rs) h
  where
    by_test : (b : Bool) → f r ≡ b → (first_broken f rs ≡ None → NoneBroken f rs) → (if b then Some r else first_broken f rs) ≡ None → (f r ≡ false) × NoneBroken f rs
    by_test true e go h = absurd (cc)
    by_test false e go h = (e, go h)

clause_kept : (f : Rule → Bool) → first_broken f rules ≡ None → f rule.Clause ≡ false
clause_kept f h = (none_broken f rules h).1.1.1.1.1.1.1.1.1.1.0

clause_passed : (h : Home) (u : State) (is : List Instr) (i : Instr) → broken_of rules h u (i ∷ is) ≡ None → breaks_clause h u i ≡ false
clause_passed h u is i e = by_place (nat_eq u.place 0) e
  where
    by_place : (b : Bool) → (if b then first_broken (λ r. broken_by_record h u r || broken_by h u is i r) rules else first_broken (broken_by h u is i) rules) ≡ None → breaks_clause h u i ≡ false
    by_place true e = or_false_right (broken_by_record h u rule.Clause) (breaks_clause h u i) (clause_kept (λ r. broken_by_record h u r || broken_by h u is i r) e)
    by_place false e = clause_kept (broken_by h u is i) e

pub not_broken : (o : Option Rule) (at : ℕ) (ran : Ran) (v : State) → unless_broken o at ran ≡ Done v → o ≡ None
not_broken None at ran v e = refl
not_broken (Some r) at ran v e = absurd (cc)

-- a record that is run to its end is no clause that was not named
pub record_kept : (h : Home) (c : Captured) (is : List Instr) (v : State) → run h any_clause (first_state h.self c) is ≡ Done v → broken_by_record h (first_state h.self c) rule.Clause ≡ false
record_kept h c [] v e = clause_kept (broken_by_record h (first_state h.self c)) (not_broken (broken_of rules h (first_state h.self c) []) 0 (Done (first_state h.self c)) v e)
record_kept h c (i ∷ is) v e =
    let s = first_state h.self c in
    or_false_left (broken_by_record h s rule.Clause) (broken_by h s is i rule.Clause) (clause_kept (λ r. broken_by_record h s r || broken_by h s is i r) (not_broken (broken_of rules h s (i ∷ is)) 0 (run_on (λ t. run h any_clause t is) (after h any_clause s i)) v e))

-- both runs

-- the other run, from a state that agrees, comes to its end where this one does and the records denote clauses
pub record RunsOn (h : Home) (later : Later) (u : State) (is : List Instr) (v : State) : Type 0 where
  pub more : List (ℕ × Captured)
  pub names : numbers more ≡ names_in is
  pub assumed : v.assumed ≡ u.assumed ++ more
  pub fresh : AreFresh h.records h.number (named_at h u) more
  pub forth : (s : State) → goalless s ≡ goalless u → AreDenoted later more → (t : State) × (run h later s is ≡ Done t)
  pub back : (s : State) → goalless s ≡ goalless u → (t : State) → run h later s is ≡ Done t → AreDenoted later more

abbrev pub NeverEnds : Home → Later → State → List Instr → Type 0
NeverEnds h later u is = (s : State) → goalless s ≡ goalless u → (t : State) → run h later s is ≡ Done t → ⊥

abbrev pub Compared : Home → Later → State → List Instr → Ran → Type 0
Compared h later u is (Done v) = RunsOn h later u is v
Compared h later u is (Broken at r) = NeverEnds h later u is
Compared h later u is Void = ⊥

broken_never : (h : Home) (later : Later) (u : State) (is : List Instr) (r : Rule) (go : State → Ran) → ((s : State) → run h later s is ≡ unless_broken (broken_of rules h s is) s.place (go s)) → broken_of rules h u is ≡ Some r → NeverEnds h later u is
broken_never h later u is r go form e s g t f = absurd (let b : Broken s.place r ≡ Done t = ap (λ o. unless_broken o s.place (go s)) (sym (broken_same h s u is g ∙ e)) ∙ sym (form s) ∙ f in cc)

by_end : (h : Home) (later : Later) (u : State) (p : Option Rule) → broken_of rules h u [] ≡ p → Compared h later u [] (unless_broken p u.place (Done u))
by_end h later u None e = record {
  more = [];
  names = refl;
  assumed = append_nil_sym u.assumed;
  fresh = tt;
  forth = λ s g d. (s, ap (λ o. unless_broken o s.place (Done s)) (broken_same h s u [] g ∙ e));
  back = λ s g t f. tt;
}
by_end h later u (Some r) e = broken_never h later u [] r (λ s. Done s) (λ s. refl) e

some_equal : (x y : State) → Some x ≡ Some y → x ≡ y
some_equal x y e = cc

module _ (h : Home) (later : Later) (u : State) (i : Instr) (is : List Instr) (kept : broken_of rules h u (i ∷ is) ≡ None) (st : Steps h later u i) where
  runs_from : (s : State) → goalless s ≡ goalless u → run h later s (i ∷ is) ≡ run_on (λ t. run h later t is) (after h later s i)
  runs_from s g = ap (λ o. unless_broken o s.place (run_on (λ t. run h later t is) (after h later s i))) (broken_same h s u (i ∷ is) g ∙ kept)

  -- where the other run ends, its next state agrees
  pub record Next (s t : State) : Type 0 where
    pub denoted : AreDenoted later st.more
    pub to : State
    pub agrees : goalless to ≡ goalless st.to
    pub ends : run h later to is ≡ Done t

  next : (s : State) → goalless s ≡ goalless u → (t : State) → run h later s (i ∷ is) ≡ Done t → Next s t
  next s g t f = by_state (after h later s i) refl (sym (runs_from s g) ∙ f)
    where
      by_state : (o : Option State) → after h later s i ≡ o → run_on (λ t. run h later t is) o ≡ Done t → Next s t
      by_state None e f = absurd (cc)
      by_state (Some x) e f =
          let d = st.back s g x e in
          let a = st.forth s g d in
          record { denoted = d; to = x; agrees = ap (λ y. goalless y) (some_equal x a.0 (sym e ∙ a.1)) ∙ a.2; ends = f }

  named_next : (m : ℕ) → named_at h st.to m ≡ (named_at h u m || member m (numbers st.more))
  named_next m =
      let before = named_before h.number h.records in
      ap (λ l. member m (before ++ l)) (ap numbers st.assumed ∙ numbers_both u.assumed st.more) ∙ ap (member m) (sym (append_assoc before (numbers u.assumed) (numbers st.more))) ∙ member_append m (before ++ numbers u.assumed) (numbers st.more)

  pub goes_on : (ran : Ran) → Compared h later st.to is ran → Compared h later u (i ∷ is) ran
  goes_on (Done v) r = record {
    more = st.more ++ r.more;
    names = numbers_both st.more r.more ∙ (λ j. st.names j ++ r.names j);
    assumed = r.assumed ∙ ap (λ l. l ++ r.more) st.assumed ∙ append_assoc u.assumed st.more r.more;
    fresh = fresh_both h.records h.number (named_at h u) st.more r.more (st.fresh (clause_passed h u is i kept)) (fresh_same h.records h.number (named_at h st.to) (λ m. named_at h u m || member m (numbers st.more)) r.more named_next r.fresh);
    forth = λ s g d.
        let a = st.forth s g (denoted_front later st.more r.more d) in
        let b = r.forth a.0 a.2 (denoted_back later st.more r.more d) in
        (b.0, runs_from s g ∙ ap (run_on (λ t. run h later t is)) a.1 ∙ b.1);
    back = λ s g t f.
        let n = next s g t f in
        denoted_both later st.more r.more n.denoted (r.back n.to n.agrees t n.ends);
  }
  goes_on (Broken at q) r = λ s g t f. let n = next s g t f in r n.to n.agrees t n.ends
  goes_on Void r = absurd r

by_step : (h : Home) (later : Later) (u : State) (i : Instr) (is : List Instr) → ((v : State) → Compared h later v is (run h any_clause v is)) → (p : Option Rule) → broken_of rules h u (i ∷ is) ≡ p
    → Compared h later u (i ∷ is) (unless_broken p u.place (run_on (λ t. run h any_clause t is) (after h any_clause u i)))
by_step h later u i is go None e =
    let st = steps h later u i in
    subst (λ o. Compared h later u (i ∷ is) (run_on (λ t. run h any_clause t is) o)) (sym st.comes) (goes_on h later u i is e st (run h any_clause st.to is) (go st.to))
by_step h later u i is go (Some r) e = broken_never h later u (i ∷ is) r (λ s. run_on (λ t. run h later t is) (after h later s i)) (λ s. refl) e

pub compare : (h : Home) (later : Later) (is : List Instr) (u : State) → Compared h later u is (run h any_clause u is)
compare h later [] u = by_end h later u (broken_of rules h u []) refl
compare h later (i ∷ is) u = by_step h later u i is (compare h later is) (broken_of rules h u (i ∷ is)) refl
