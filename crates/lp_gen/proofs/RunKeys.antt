-- The key of the head's first argument, as it stands in the code, is that of the argument that the code makes.
use Rattle.std.proofs.Common.{◌≡◌, ◌∙◌, ℕ, zero, suc, List, [], ◌∷◌, ◌++◌, append_assoc, Bool, true, false, Option, Some, None, ap, refl, sym, subst, true≢false}
use Rattle.std.specs.Prelude.{nat_eq, ◌||◌, if◌then◌else◌, is_none, option_map, slice_set, unwrap_or}
use Rattle.std.specs.List.{list_any}
use Rattle.std.proofs.lemmas.Bool.{eqb-true, eq-eqb}
use Rattle.std.proofs.lemmas.List.{append-nil}
use Rattle.lp_calculus.specs.Types.{Ty}
use Rattle.lp_calculus.specs.Term.{Atom, index, apply, constant, integer, text}
use Rattle.lp_calculus.specs.Typing.{o_type}
use Rattle.lp_model.specs.Flat.{Goals}
use Rattle.lp_model.specs.Flat as flat
use Rattle.lp_code.specs.declared.instruction.Instr.{Instr}
use Rattle.lp_code.specs.declared.instruction.Instr.TheVariants as on
use Rattle.lp_code.specs.declared.rule.Rule.{Rule}
use Rattle.lp_code.specs.declared.rule.Rule.TheVariants as rule
use Rattle.lp_code.specs.Symbolic.{Built, Registers, held, term_in, terms_in, plain_terms}
use Rattle.lp_code.specs.States.{Frame, Captured, State, Home, innermost_block, depth, end_variables}
use Rattle.lp_code.specs.Steps.{Later, effect, after, settled, passed, leave, leave_from, leave_block, goal_of_block, turn, turn_from, is_right_end, clauses_of_records, captured_by}
use Rattle.lp_code.specs.Denote.{Ran, Done, Broken, rules, first_broken, broken_by_record, broken_by, broken_of, unless_broken, run_on, run, with_key, first_key}
use Rattle.lp_gen.specs.inner.Recorded.{head_key, key_in}
use Rattle.lp_gen.proofs.Registers.{held_elsewhere}
use Rattle.lp_gen.proofs.AtomWritten.{head_apply}

abbrev pub arguments_key : List Built → Option Atom
arguments_key [] = None
arguments_key (b ∷ bs) = key_in b.term

abbrev KeysAre : (ℕ → Option Atom) → List (Option Built) → Type 0
KeysAre keys xs = (r : ℕ) (b : Built) → held xs r ≡ Some b → keys r ≡ key_in b.term

some_built : (b c : Built) → ◌≡◌ {A = Option Built} (Some b) (Some c) → b ≡ c
some_built b c e = cc

no_built : (b : Built) → ◌≡◌ {A = Option Built} None (Some b) → ⊥
no_built b e = cc

some_state : (s t : State) → ◌≡◌ {A = Option State} (Some s) (Some t) → s ≡ t
some_state s t e = cc

no_state : (t : State) → ◌≡◌ {A = Option State} None (Some t) → ⊥
no_state t e = cc

held_here : (xs : List (Option Built)) (d : ℕ) (b c : Built) → held (slice_set xs d (Some b)) d ≡ Some c → b ≡ c
held_here [] d b c e = absurd (no_built c e)
held_here (x ∷ xs) zero b c e = some_built b c e
held_here (x ∷ xs) (suc d) b c e = held_here xs d b c e

keys_set : (keys : ℕ → Option Atom) (xs : List (Option Built)) (d : ℕ) (k : Option Atom) (b : Built) → KeysAre keys xs → k ≡ key_in b.term → KeysAre (with_key d k keys) (slice_set xs d (Some b))
keys_set keys xs d k b are is r c e = go (nat_eq r d) refl
  where
    go : (t : Bool) → nat_eq r d ≡ t → with_key d k keys r ≡ key_in c.term
    go true q =
        ap (λ t. if t then k else keys r) q ∙ is
        ∙ ap (λ (y : Built). key_in y.term) (held_here xs d b c (ap (held (slice_set xs d (Some b))) (sym (eqb-true r d q)) ∙ e))
    go false q =
        ap (λ t. if t then k else keys r) q ∙ are r c (sym (held_elsewhere xs d r (Some b) (λ z. true≢false (sym (eq-eqb r d z) ∙ q))) ∙ e)

-- a register that is set
set_is : (xs : List (Option Built)) (r : ℕ) → is_none (held xs r) ≡ false → (b : Built) × (held xs r ≡ Some b)
set_is xs r e = go (held xs r) refl e
  where
    go : (o : Option Built) → held xs r ≡ o → is_none o ≡ false → (b : Built) × (held xs r ≡ Some b)
    go None q f = absurd (true≢false f)
    go (Some b) q f = (b, q)

key_at : (keys : ℕ → Option Atom) (s : Registers) (r : ℕ) → KeysAre keys s.terms → is_none (held s.terms r) ≡ false → keys r ≡ key_in (term_in s r).term
key_at keys s r are set =
    let b = set_is s.terms r set in
    are r b.0 b.1 ∙ ap (λ o. key_in (unwrap_or {T = Built} o (record { term = index 0; type = o_type; loose = [] })).term) (sym b.1)

-- one step of a run

or_left : (a b : Bool) → (a || b) ≡ false → a ≡ false
or_left true b e = e
or_left false b e = refl

or_right : (a b : Bool) → (a || b) ≡ false → b ≡ false
or_right true b e = absurd (true≢false e)
or_right false b e = e

broken_done : (at : ℕ) (r : Rule) (u : State) → Broken at r ≡ Done u → ⊥
broken_done at r u e = cc

void_done : (u : State) → Rattle.lp_code.specs.Denote.Void ≡ Done u → ⊥
void_done u e = cc

done_state : (s u : State) → Done s ≡ Done u → s ≡ u
done_state s u e = cc

done_only : (o : Option Rule) (at : ℕ) (ran : Ran) (u : State) → unless_broken o at ran ≡ Done u → (o ≡ None) × (ran ≡ Done u)
done_only None at ran u e = (refl, e)
done_only (Some r) at ran u e = absurd (broken_done at r u e)

next_only : (go : State → Ran) (o : Option State) (u : State) → run_on go o ≡ Done u → (t : State) × (o ≡ Some t) × (go t ≡ Done u)
next_only go None u e = absurd (void_done u e)
next_only go (Some t) u e = (t, refl, e)

no_rule : (r : Rule) → ◌≡◌ {A = Option Rule} (Some r) None → ⊥
no_rule r e = cc

none_first : (test : Rule → Bool) (r : Rule) (rs : List Rule) → first_broken test (r ∷ rs) ≡ None → (test r ≡ false) × (first_broken test rs ≡ None)
none_first test r rs e = go (test r) refl
  where
    go : (t : Bool) → test r ≡ t → (test r ≡ false) × (first_broken test rs ≡ None)
    go true q = absurd (no_rule r (sym (ap (λ t. if t then Some r else first_broken test rs) q) ∙ e))
    go false q = (q, sym (ap (λ t. if t then Some r else first_broken test rs) q) ∙ e)

pub record Fine (test : Rule → Bool) : Type 0 where
  pub unset : test rule.Unset ≡ false
  pub order : test rule.Order ≡ false
  pub sides : test rule.Block ≡ false

all_fine : (test : Rule → Bool) → first_broken test rules ≡ None → Fine test
all_fine test e0 =
    let a1 = none_first test rule.Register (rule.Unset ∷ rule.Set ∷ rule.Constant ∷ rule.Typing ∷ rule.Index ∷ rule.Term ∷ rule.Order ∷ rule.Head ∷ rule.Block ∷ rule.Clause ∷ rule.Key ∷ []) e0 in
    let a2 = none_first test rule.Unset (rule.Set ∷ rule.Constant ∷ rule.Typing ∷ rule.Index ∷ rule.Term ∷ rule.Order ∷ rule.Head ∷ rule.Block ∷ rule.Clause ∷ rule.Key ∷ []) a1.1 in
    let a3 = none_first test rule.Set (rule.Constant ∷ rule.Typing ∷ rule.Index ∷ rule.Term ∷ rule.Order ∷ rule.Head ∷ rule.Block ∷ rule.Clause ∷ rule.Key ∷ []) a2.1 in
    let a4 = none_first test rule.Constant (rule.Typing ∷ rule.Index ∷ rule.Term ∷ rule.Order ∷ rule.Head ∷ rule.Block ∷ rule.Clause ∷ rule.Key ∷ []) a3.1 in
    let a5 = none_first test rule.Typing (rule.Index ∷ rule.Term ∷ rule.Order ∷ rule.Head ∷ rule.Block ∷ rule.Clause ∷ rule.Key ∷ []) a4.1 in
    let a6 = none_first test rule.Index (rule.Term ∷ rule.Order ∷ rule.Head ∷ rule.Block ∷ rule.Clause ∷ rule.Key ∷ []) a5.1 in
    let a7 = none_first test rule.Term (rule.Order ∷ rule.Head ∷ rule.Block ∷ rule.Clause ∷ rule.Key ∷ []) a6.1 in
    let a8 = none_first test rule.Order (rule.Head ∷ rule.Block ∷ rule.Clause ∷ rule.Key ∷ []) a7.1 in
    let a9 = none_first test rule.Head (rule.Block ∷ rule.Clause ∷ rule.Key ∷ []) a8.1 in
    let a10 = none_first test rule.Block (rule.Clause ∷ rule.Key ∷ []) a9.1 in
    record { unset = a2.0; order = a8.0; sides = a10.0 }

fine_step : (h : Home) (s : State) (i : Instr) (is : List Instr) → broken_of rules h s (i ∷ is) ≡ None → Fine (broken_by h s is i)
fine_step h s i is e = go (nat_eq s.place 0) refl
  where
    go : (t : Bool) → nat_eq s.place 0 ≡ t → Fine (broken_by h s is i)
    go true q =
        let f = all_fine (λ r. broken_by_record h s r || broken_by h s is i r) (sym
        (ap (λ t. if t then first_broken (λ r. broken_by_record h s r || broken_by h s is i r) rules else first_broken (broken_by h s is i) rules)
        q) ∙ e) in
        record {
          unset = or_right (broken_by_record h s rule.Unset) (broken_by h s is i rule.Unset) f.unset;
          order = or_right (broken_by_record h s rule.Order) (broken_by h s is i rule.Order) f.order;
          sides = or_right (broken_by_record h s rule.Block) (broken_by h s is i rule.Block) f.sides;
        }
    go false q =
        all_fine (broken_by h s is i) (sym (ap (λ t. if t then first_broken (λ r. broken_by_record h s r || broken_by h s is i r) rules else first_broken (broken_by h s is i) rules) q) ∙ e)

pub record Stepped (h : Home) (later : Later) (s u : State) (i : Instr) (is : List Instr) : Type 0 where
  pub fine : Fine (broken_by h s is i)
  pub next : State
  pub is_next : after h later s i ≡ Some next
  pub runs : run h later next is ≡ Done u

stepped : (h : Home) (later : Later) (s u : State) (i : Instr) (is : List Instr) → run h later s (i ∷ is) ≡ Done u → Stepped h later s u i is
stepped h later s u i is e =
    let a = done_only (broken_of rules h s (i ∷ is)) s.place (run_on (λ t. run h later t is) (after h later s i)) u e in
    let b = next_only (λ t. run h later t is) (after h later s i) u a.1 in
    record { fine = fine_step h s i is a.0; next = b.0; is_next = b.1; runs = b.2 }

-- arguments of the head only get more, and NECK stays passed

pub record Keeps (s t : State) : Type 0 where
  pub more : List Built
  pub arguments : t.head_arguments ≡ s.head_arguments ++ more
  pub body : s.in_body ≡ true → t.in_body ≡ true

same_keeps : (s t : State) → t.head_arguments ≡ s.head_arguments → t.in_body ≡ s.in_body → Keeps s t
same_keeps s t e f = record { more = []; arguments = e ∙ sym (append-nil s.head_arguments); body = λ b. f ∙ b }

then_keeps : (s t u : State) → Keeps s t → Keeps t u → Keeps s u
then_keeps s t u x y = record {
  more = x.more ++ y.more;
  arguments = y.arguments ∙ ap (λ l. l ++ y.more) x.arguments ∙ append_assoc s.head_arguments x.more y.more;
  body = λ b. y.body (x.body b);
}

left_keeps : (home : ℕ) (s : State) (gs : Goals) (fs : List Frame) → Keeps s (leave_from home s gs fs)
left_keeps home s gs [] = same_keeps s s refl refl
left_keeps home s gs (f ∷ fs) = go (goal_of_block home f.block gs)
  where
    go : (o : Option flat.Goal) → Keeps s (leave_block s f fs o)
    go None = same_keeps s s refl refl
    go (Some g) = same_keeps s (leave_block s f fs (Some g)) refl refl

leave_keeps : (home : ℕ) (s : State) → Keeps s (leave home s)
leave_keeps home s = left_keeps home s (end_variables home s.goals s.frames).goals (end_variables home s.goals s.frames).frames

turned_keeps : (s : State) (n : ℕ) (gs : Goals) (fs : List Frame) → Keeps s (turn_from s n gs fs)
turned_keeps s n gs [] = same_keeps s s refl refl
turned_keeps s n gs (f ∷ fs) = same_keeps s (turn_from s n gs (f ∷ fs)) refl refl

settled_keeps : (home n : ℕ) (s : State) → Keeps s (settled home n s)
settled_keeps home zero s = same_keeps s s refl refl
settled_keeps home (suc n) s = go (is_right_end s.place (innermost_block s.frames)) (settled_keeps home n (leave home s))
  where
    go : (t : Bool) → Keeps (leave home s) (settled home n (leave home s)) → Keeps s (if t then settled home n (leave home s) else s)
    go true x = then_keeps s (leave home s) (settled home n (leave home s)) (leave_keeps home s) x
    go false x = same_keeps s s refl refl

passed_keeps : (h : Home) (s t u : State) (i : Instr) → Keeps s t → settled h.number (depth t.frames) (passed i t) ≡ u → Keeps s u
passed_keeps h s t u i x e = subst (Keeps s) e (then_keeps s (passed i t) (settled h.number (depth t.frames) (passed i t))
    (then_keeps s t (passed i t) x (same_keeps t (passed i t) refl refl)) (settled_keeps h.number (depth t.frames) (passed i t)))

-- where the step is this one
kept : (h : Home) (later : Later) (s u : State) (i : Instr) (t : State) → effect h later s i ≡ Some t → Keeps s t → after h later s i ≡ Some u → Keeps s u
kept h later s u i t is x e =
    passed_keeps h s t u i x (some_state (settled h.number (depth t.frames) (passed i t)) u (sym (ap (λ o. option_map (λ (z : State). settled h.number (depth z.frames) (passed i z)) o) is) ∙ e))

step_keeps : (h : Home) (later : Later) (s u : State) (i : Instr) → after h later s i ≡ Some u → Keeps s u
step_keeps h later s u (on.TyCon d k ts) e = kept h later s u (on.TyCon d k ts) _ refl (same_keeps s _ refl refl) e
step_keeps h later s u (on.TyArr d a b) e = kept h later s u (on.TyArr d a b) _ refl (same_keeps s _ refl refl) e
step_keeps h later s u (on.TyNew d) e = kept h later s u (on.TyNew d) _ refl (same_keeps s _ refl refl) e
step_keeps h later s u (on.New d t) e = kept h later s u (on.New d t) _ refl (same_keeps s _ refl refl) e
step_keeps h later s u (on.PutConst d c ts) e = kept h later s u (on.PutConst d c ts) _ refl (same_keeps s _ refl refl) e
step_keeps h later s u (on.PutInt d z) e = kept h later s u (on.PutInt d z) _ refl (same_keeps s _ refl refl) e
step_keeps h later s u (on.PutStr d b) e = kept h later s u (on.PutStr d b) _ refl (same_keeps s _ refl refl) e
step_keeps h later s u (on.PutIndex d i t) e = kept h later s u (on.PutIndex d i t) _ refl (same_keeps s _ refl refl) e
step_keeps h later s u (on.PutAbs d b t) e = kept h later s u (on.PutAbs d b t) _ refl (same_keeps s _ refl refl) e
step_keeps h later s u (on.PutApp d f rs) e = kept h later s u (on.PutApp d f rs) _ refl (same_keeps s _ refl refl) e
step_keeps h later s u (on.GetType j t) e = kept h later s u (on.GetType j t) _ refl (same_keeps s _ refl refl) e
step_keeps h later s u (on.Call c ts rs) e = kept h later s u (on.Call c ts rs) _ refl (same_keeps s _ refl refl) e
step_keeps h later s u (on.CallTerm r) e = kept h later s u (on.CallTerm r) _ refl (same_keeps s _ refl refl) e
step_keeps h later s u (on.Equal t l r) e = kept h later s u (on.Equal t l r) _ refl (same_keeps s _ refl refl) e
step_keeps h later s u (on.Is t l r) e = kept h later s u (on.Is t l r) _ refl (same_keeps s _ refl refl) e
step_keeps h later s u (on.Less l r) e = kept h later s u (on.Less l r) _ refl (same_keeps s _ refl refl) e
step_keeps h later s u (on.Greater l r) e = kept h later s u (on.Greater l r) _ refl (same_keeps s _ refl refl) e
step_keeps h later s u (on.AtMost l r) e = kept h later s u (on.AtMost l r) _ refl (same_keeps s _ refl refl) e
step_keeps h later s u (on.AtLeast l r) e = kept h later s u (on.AtLeast l r) _ refl (same_keeps s _ refl refl) e
step_keeps h later s u on.Cut e = kept h later s u on.Cut _ refl (same_keeps s _ refl refl) e
step_keeps h later s u (on.Sigma d t) e = kept h later s u (on.Sigma d t) _ refl (same_keeps s _ refl refl) e
step_keeps h later s u (on.All d t) e = kept h later s u (on.All d t) _ refl (same_keeps s _ refl refl) e
step_keeps h later s u (on.Either n) e = kept h later s u (on.Either n) _ refl (same_keeps s _ refl refl) e
step_keeps h later s u on.Proceed e = kept h later s u on.Proceed _ refl (same_keeps s _ refl refl) e
step_keeps h later s u on.Not e = kept h later s u on.Not _ refl (same_keeps s _ refl refl) e
step_keeps h later s u (on.GetVar i d) e = kept h later s u (on.GetVar i d) _ refl (record { more = _; arguments = refl; body = λ b. b }) e
step_keeps h later s u (on.Get i r) e = kept h later s u (on.Get i r) _ refl (record { more = _; arguments = refl; body = λ b. b }) e
step_keeps h later s u (on.GetConst i c ts) e = kept h later s u (on.GetConst i c ts) _ refl (record { more = _; arguments = refl; body = λ b. b }) e
step_keeps h later s u (on.GetInt i z) e = kept h later s u (on.GetInt i z) _ refl (record { more = _; arguments = refl; body = λ b. b }) e
step_keeps h later s u (on.GetStr i b) e = kept h later s u (on.GetStr i b) _ refl (record { more = _; arguments = refl; body = λ b. b }) e
step_keeps h later s u on.EndAll e = kept h later s u on.EndAll (leave h.number s) refl (leave_keeps h.number s) e
step_keeps h later s u on.EndAssume e = kept h later s u on.EndAssume (leave h.number s) refl (leave_keeps h.number s) e
step_keeps h later s u on.EndNot e = kept h later s u on.EndNot (leave h.number s) refl (leave_keeps h.number s) e
step_keeps h later s u (on.Jump n) e = kept h later s u (on.Jump n) (turn h.number s n) refl
    (turned_keeps s n (end_variables h.number s.goals s.frames).goals (end_variables h.number s.goals s.frames).frames) e
step_keeps h later s u on.Neck e = kept h later s u on.Neck _ refl (record { more = []; arguments = sym (append-nil s.head_arguments); body = λ b. refl }) e
step_keeps h later s u (on.Assume ns ts rs) e = go (clauses_of_records later ns.items (captured_by s ts.items rs.items)) refl
  where
    go : (o : Option flat.Clauses) → clauses_of_records later ns.items (captured_by s ts.items rs.items) ≡ o → Keeps s u
    go None q = absurd (no_state u (sym (ap (λ o. option_map (λ (z : State). settled h.number (depth z.frames) (passed (on.Assume ns ts rs) z))
        (option_map (λ cs. record (Rattle.lp_code.specs.Steps.opens s (Rattle.lp_code.specs.States.under_assumption cs))
        { assumed = s.assumed ++ Rattle.lp_code.specs.Steps.handed ns.items (captured_by s ts.items rs.items) }) o)) q) ∙ e))
    go (Some cs) q = kept h later s u (on.Assume ns ts rs) _ (ap (option_map (λ cs. record
        (Rattle.lp_code.specs.Steps.opens s (Rattle.lp_code.specs.States.under_assumption cs))
        { assumed = s.assumed ++ Rattle.lp_code.specs.Steps.handed ns.items (captured_by s ts.items rs.items) })) q) (same_keeps s _ refl refl) e

run_keeps : (h : Home) (later : Later) (is : List Instr) (s u : State) → run h later s is ≡ Done u → Keeps s u
run_keeps h later [] s u e = let a = done_only (broken_of rules h s []) s.place (Done s) u e in subst (Keeps s) (done_state s u a.1) (same_keeps s s refl refl)
run_keeps h later (i ∷ is) s u e =
    let x = stepped h later s u i is e in
    then_keeps s x.next u (step_keeps h later s x.next i x.is_next) (run_keeps h later is x.next u x.runs)

-- a state before NECK that has matched no argument
abbrev before_neck : (place : ℕ) → Registers → (types_set terms_set : List ℕ) → List Ty → Goals → List (ℕ × Captured) → State
before_neck place now ts us Ts gs hs = record {
  place = place;
  now = now;
  types_set = ts;
  terms_set = us;
  in_body = false;
  head_types = Ts;
  head_arguments = [];
  goals = gs;
  frames = [];
  assumed = hs;
}

-- the first argument is that of the state behind it
first_is : (h : Home) (later : Later) (is : List Instr) (t u : State) (b : Built) → run h later t is ≡ Done u → t.head_arguments ≡ b ∷ [] → arguments_key u.head_arguments ≡ key_in b.term
first_is h later is t u b e f = let x = run_keeps h later is t u e in ap arguments_key (x.arguments ∙ ap (λ l. l ++ x.more) f)

never_back : (h : Home) (later : Later) (is : List Instr) (t u : State) → run h later t is ≡ Done u → t.in_body ≡ true → u.in_body ≡ false → ⊥
never_back h later is t u e body before = true≢false (sym ((run_keeps h later is t u e).body body) ∙ before)

module _ (h : Home) (later : Later) (u : State) (before : u.in_body ≡ false) (rest : List Instr) where
  abbrev Law : List Instr → Type 0
  Law is =
      (place : ℕ) (now : Registers) (ts us : List ℕ) (Ts : List Ty) (gs : Goals) (hs : List (ℕ × Captured)) (keys : ℕ → Option Atom) → KeysAre keys
      now.terms → run h later (before_neck place now ts us Ts gs hs) is ≡ Done u →
      first_key keys (is ++ on.Neck ∷ rest) ≡ arguments_key u.head_arguments

  law_on : (i : Instr) (is : List Instr) → Law is → Law (i ∷ is)
  law_on (on.TyCon d k vs) is go place now ts us Ts gs hs keys are e =
      let x = stepped h later (before_neck place now ts us Ts gs hs) u (on.TyCon d k vs) is e in
      let same = some_state _ x.next x.is_next in
      go _ _ _ _ _ _ _ keys are (subst (λ z. run h later z is ≡ Done u) (sym same) x.runs)
  law_on (on.TyArr d a b) is go place now ts us Ts gs hs keys are e =
      let x = stepped h later (before_neck place now ts us Ts gs hs) u (on.TyArr d a b) is e in
      let same = some_state _ x.next x.is_next in
      go _ _ _ _ _ _ _ keys are (subst (λ z. run h later z is ≡ Done u) (sym same) x.runs)
  law_on (on.TyNew d) is go place now ts us Ts gs hs keys are e =
      let x = stepped h later (before_neck place now ts us Ts gs hs) u (on.TyNew d) is e in
      let same = some_state _ x.next x.is_next in
      go _ _ _ _ _ _ _ keys are (subst (λ z. run h later z is ≡ Done u) (sym same) x.runs)
  law_on (on.New d t) is go place now ts us Ts gs hs keys are e =
      let x = stepped h later (before_neck place now ts us Ts gs hs) u (on.New d t) is e in
      let same = some_state _ x.next x.is_next in
      go _ _ _ _ _ _ _ (with_key d None keys) (keys_set keys now.terms d None _ are refl) (subst (λ z. run h later z is ≡ Done u) (sym same) x.runs)
  law_on (on.PutConst d c vs) is go place now ts us Ts gs hs keys are e =
      let x = stepped h later (before_neck place now ts us Ts gs hs) u (on.PutConst d c vs) is e in
      let same = some_state _ x.next x.is_next in
      go _ _ _ _ _ _ _ (with_key d (Some (constant c [])) keys) (keys_set keys now.terms d (Some (constant c [])) _ are refl) (subst (λ z. run h later z is ≡ Done u) (sym same) x.runs)
  law_on (on.PutInt d z) is go place now ts us Ts gs hs keys are e =
      let x = stepped h later (before_neck place now ts us Ts gs hs) u (on.PutInt d z) is e in
      let same = some_state _ x.next x.is_next in
      go _ _ _ _ _ _ _ (with_key d (Some (integer z)) keys) (keys_set keys now.terms d (Some (integer z)) _ are refl) (subst (λ z. run h later z is ≡ Done u) (sym same) x.runs)
  law_on (on.PutStr d b) is go place now ts us Ts gs hs keys are e =
      let x = stepped h later (before_neck place now ts us Ts gs hs) u (on.PutStr d b) is e in
      let same = some_state _ x.next x.is_next in
      go _ _ _ _ _ _ _ (with_key d (Some (text b.items)) keys) (keys_set keys now.terms d (Some (text b.items)) _ are refl) (subst (λ z. run h later z is ≡ Done u) (sym same) x.runs)
  law_on (on.PutIndex d j t) is go place now ts us Ts gs hs keys are e =
      let x = stepped h later (before_neck place now ts us Ts gs hs) u (on.PutIndex d j t) is e in
      let same = some_state _ x.next x.is_next in
      go _ _ _ _ _ _ _ (with_key d None keys) (keys_set keys now.terms d None _ are refl) (subst (λ z. run h later z is ≡ Done u) (sym same) x.runs)
  law_on (on.PutAbs d b t) is go place now ts us Ts gs hs keys are e =
      let x = stepped h later (before_neck place now ts us Ts gs hs) u (on.PutAbs d b t) is e in
      let same = some_state _ x.next x.is_next in
      go _ _ _ _ _ _ _ (with_key d None keys) (keys_set keys now.terms d None _ are refl) (subst (λ z. run h later z is ≡ Done u) (sym same) x.runs)
  law_on (on.PutApp d f vs) is go place now ts us Ts gs hs keys are e =
      let x = stepped h later (before_neck place now ts us Ts gs hs) u (on.PutApp d f vs) is e in
      let same = some_state _ x.next x.is_next in
      let set = or_left (is_none (held now.terms f)) (list_any (λ r. is_none (held now.terms r)) vs.items) x.fine.unset in
      let key : keys f ≡ key_in (apply (term_in now f).term (plain_terms (terms_in now vs.items))) = key_at keys now f are set ∙ ap head_key
      (sym (head_apply (term_in now f).term (plain_terms (terms_in now vs.items)))) in
      go _ _ _ _ _ _ _ (with_key d (keys f) keys) (keys_set keys now.terms d (keys f) _ are key) (subst (λ z. run h later z is ≡ Done u) (sym same) x.runs)
  law_on (on.GetType j t) is go place now ts us Ts gs hs keys are e =
      let x = stepped h later (before_neck place now ts us Ts gs hs) u (on.GetType j t) is e in
      let same = some_state _ x.next x.is_next in
      go _ _ _ _ _ _ _ keys are (subst (λ z. run h later z is ≡ Done u) (sym same) x.runs)
  law_on (on.GetVar j d) is go place now ts us Ts gs hs keys are e =
      let x = stepped h later (before_neck place now ts us Ts gs hs) u (on.GetVar j d) is e in
      let same = some_state _ x.next x.is_next in
      sym (first_is h later is x.next u _ x.runs (ap (λ (z : State). z.head_arguments) (sym same)))
  law_on (on.Get j r) is go place now ts us Ts gs hs keys are e =
      let x = stepped h later (before_neck place now ts us Ts gs hs) u (on.Get j r) is e in
      let same = some_state _ x.next x.is_next in
      key_at keys now r are (or_left (is_none (held now.terms r)) false x.fine.unset) ∙ sym (first_is h later is x.next u _ x.runs (ap (λ (z : State). z.head_arguments) (sym same)))
  law_on (on.GetConst j c vs) is go place now ts us Ts gs hs keys are e =
      let x = stepped h later (before_neck place now ts us Ts gs hs) u (on.GetConst j c vs) is e in
      let same = some_state _ x.next x.is_next in
      sym (first_is h later is x.next u _ x.runs (ap (λ (z : State). z.head_arguments) (sym same)))
  law_on (on.GetInt j z) is go place now ts us Ts gs hs keys are e =
      let x = stepped h later (before_neck place now ts us Ts gs hs) u (on.GetInt j z) is e in
      let same = some_state _ x.next x.is_next in
      sym (first_is h later is x.next u _ x.runs (ap (λ (z : State). z.head_arguments) (sym same)))
  law_on (on.GetStr j b) is go place now ts us Ts gs hs keys are e =
      let x = stepped h later (before_neck place now ts us Ts gs hs) u (on.GetStr j b) is e in
      let same = some_state _ x.next x.is_next in
      sym (first_is h later is x.next u _ x.runs (ap (λ (z : State). z.head_arguments) (sym same)))
  law_on on.Neck is go place now ts us Ts gs hs keys are e =
      let x = stepped h later (before_neck place now ts us Ts gs hs) u on.Neck is e in
      absurd (never_back h later is x.next u x.runs (ap (λ (z : State). z.in_body) (sym (some_state _ x.next x.is_next))) before)
  law_on (on.Call c vs rs) is go place now ts us Ts gs hs keys are e =
      absurd (true≢false (stepped h later (before_neck place now ts us Ts gs hs) u (on.Call c vs rs) is e).fine.order)
  law_on (on.CallTerm r) is go place now ts us Ts gs hs keys are e =
      absurd (true≢false (stepped h later (before_neck place now ts us Ts gs hs) u (on.CallTerm r) is e).fine.order)
  law_on (on.Equal t l r) is go place now ts us Ts gs hs keys are e =
      absurd (true≢false (stepped h later (before_neck place now ts us Ts gs hs) u (on.Equal t l r) is e).fine.order)
  law_on (on.Is t l r) is go place now ts us Ts gs hs keys are e =
      absurd (true≢false (stepped h later (before_neck place now ts us Ts gs hs) u (on.Is t l r) is e).fine.order)
  law_on (on.Less l r) is go place now ts us Ts gs hs keys are e =
      absurd (true≢false (stepped h later (before_neck place now ts us Ts gs hs) u (on.Less l r) is e).fine.order)
  law_on (on.Greater l r) is go place now ts us Ts gs hs keys are e =
      absurd (true≢false (stepped h later (before_neck place now ts us Ts gs hs) u (on.Greater l r) is e).fine.order)
  law_on (on.AtMost l r) is go place now ts us Ts gs hs keys are e =
      absurd (true≢false (stepped h later (before_neck place now ts us Ts gs hs) u (on.AtMost l r) is e).fine.order)
  law_on (on.AtLeast l r) is go place now ts us Ts gs hs keys are e =
      absurd (true≢false (stepped h later (before_neck place now ts us Ts gs hs) u (on.AtLeast l r) is e).fine.order)
  law_on on.Cut is go place now ts us Ts gs hs keys are e =
      absurd (true≢false (stepped h later (before_neck place now ts us Ts gs hs) u on.Cut is e).fine.order)
  law_on (on.Sigma d t) is go place now ts us Ts gs hs keys are e =
      absurd (true≢false (stepped h later (before_neck place now ts us Ts gs hs) u (on.Sigma d t) is e).fine.order)
  law_on (on.All d t) is go place now ts us Ts gs hs keys are e =
      absurd (true≢false (stepped h later (before_neck place now ts us Ts gs hs) u (on.All d t) is e).fine.order)
  law_on (on.Assume ns vs rs) is go place now ts us Ts gs hs keys are e =
      absurd (true≢false (stepped h later (before_neck place now ts us Ts gs hs) u (on.Assume ns vs rs) is e).fine.order)
  law_on (on.Either n) is go place now ts us Ts gs hs keys are e =
      absurd (true≢false (stepped h later (before_neck place now ts us Ts gs hs) u (on.Either n) is e).fine.order)
  law_on on.Not is go place now ts us Ts gs hs keys are e =
      absurd (true≢false (stepped h later (before_neck place now ts us Ts gs hs) u on.Not is e).fine.order)
  law_on on.EndAll is go place now ts us Ts gs hs keys are e =
      absurd (true≢false (stepped h later (before_neck place now ts us Ts gs hs) u on.EndAll is e).fine.sides)
  law_on on.EndAssume is go place now ts us Ts gs hs keys are e =
      absurd (true≢false (stepped h later (before_neck place now ts us Ts gs hs) u on.EndAssume is e).fine.sides)
  law_on on.EndNot is go place now ts us Ts gs hs keys are e =
      absurd (true≢false (stepped h later (before_neck place now ts us Ts gs hs) u on.EndNot is e).fine.sides)
  law_on (on.Jump n) is go place now ts us Ts gs hs keys are e =
      absurd (true≢false (stepped h later (before_neck place now ts us Ts gs hs) u (on.Jump n) is e).fine.sides)
  law_on on.Proceed is go place now ts us Ts gs hs keys are e =
      let x = stepped h later (before_neck place now ts us Ts gs hs) u on.Proceed is e in
      let same = some_state _ x.next x.is_next in
      go _ _ _ _ _ _ _ keys are (subst (λ z. run h later z is ≡ Done u) (sym same) x.runs)

  all_laws : (is : List Instr) → Law is
  all_laws [] place now ts us Ts gs hs keys are e =
      let a = done_only (broken_of rules h (before_neck place now ts us Ts gs hs) []) place (Done (before_neck place now ts us Ts gs hs)) u e in
      ap (λ (z : State). arguments_key z.head_arguments) (done_state (before_neck place now ts us Ts gs hs) u a.1)
  all_laws (i ∷ is) place now ts us Ts gs hs keys are e = law_on i is (all_laws is) place now ts us Ts gs hs keys are e

-- from any state before NECK in which nothing is matched or set
pub key_law : (h : Home) (later : Later) (is rest : List Instr) (s u : State) → run h later s is ≡ Done u → s.in_body ≡ false → s.head_arguments ≡ [] → s.frames ≡ [] → u.in_body ≡ false →
    ((r : ℕ) → held s.now.terms r ≡ None) → first_key (λ r. None) (is ++ on.Neck ∷ rest) ≡ arguments_key u.head_arguments
key_law h later is rest s u e before none closed after unset =
    all_laws h later u after rest is s.place s.now s.types_set s.terms_set s.head_types s.goals s.assumed (λ r. None) (λ r b f. absurd (no_built b (sym (unset r) ∙ f)))
    (subst (λ z. run h later z is ≡ Done u) (λ i. record {
      place = s.place;
      now = s.now;
      types_set = s.types_set;
      terms_set = s.terms_set;
      in_body = before i;
      head_types = s.head_types;
      head_arguments = none i;
      goals = s.goals;
      frames = closed i;
      assumed = s.assumed;
    }) e)
