-- What the records of a clause denote among all records.
use Rattle.std.proofs.Common.{◌≡◌, ◌∙◌, ◌⊎◌, inl, inr, ⊎_elim, ◌≤◌, ◌<◌, ℕ, zero, suc, ◌+◌, ◌-◌, ◌^◌, List, [], ◌∷◌, ◌++◌, append_assoc, length, map, drop, reverse, Bor, Bool, true, false, Option, Some, None, ap, refl, sym, subst, arith}
use Rattle.std.specs.Prelude.{nat_eq, nat_lt, All, is_none, slice_get, option_map}
use Rattle.std.proofs.lemmas.Bool.{ltb-true, ltb-false}
use Rattle.std.proofs.lemmas.List.{append-nil, length-append}
use Rattle.std.proofs.lemmas.List.Elements.{All-nil, All-append, All-get_or}
use Rattle.std.proofs.lemmas.Option.{slice_get_within, get_or_from_slice_get}
use Rattle.lp_lemmas.proofs.Lists.{get_append}
use Rattle.indexmap.specs.IndexMap.{IndexMap, index_map_len}
use Rattle.lp_calculus.specs.Types.{Ty}
use Rattle.lp_standard.specs.Schemes.{IsStandard}
use Rattle.lp_term.specs.Nodes.{Nodes, tree}
use Rattle.lp_model.specs.Flat.{Goal, Goals, Clause, Clauses, Atomic, Cut, Either, Exists, Forall, Assume, Not, no_goals, goals, clause, no_clauses, clauses}
use Rattle.lp_model.specs.Flattened.{goals_of, clause_of, clauses_of}
use Rattle.lp_model.specs.declared.clause.Clause as code
use Rattle.lp_model.specs.declared.clause.Goal as code_goal
use Rattle.lp_model.specs.declared.program.Typed as query
use Rattle.lp_code.specs.declared.record.RecordHead.{RecordHead}
use Rattle.lp_gen.specs.declared.emitter.Emitter.{Emitter}
use Rattle.lp_gen.specs.declared.environment.Environment.{Environment}
use Rattle.lp_gen.specs.declared.plan.Origin.{Origin}
use Rattle.lp_code.specs.declared.record.Record.{Record}
use Rattle.lp_code.specs.Symbolic.{Tables as CodeTables}
use Rattle.lp_code.specs.States.{member}
use Rattle.lp_code.specs.Rules.{named_before, names_in}
use Rattle.lp_code.specs.Denote.{home_of, nothing_captured, later_from, first_state, run, query_ran}
use Rattle.lp_gen.specs.Sources.{IsClause, IsQuery}
use Rattle.lp_gen.specs.Limits.{goals_strings, clauses_strings}
use Rattle.lp_gen.specs.declared.environment.Variable.{Variable}
use Rattle.lp_gen.specs.declared.plan.Assumption.{Assumption}
use Rattle.lp_gen.specs.declared.plan.Due.{Due}
use Rattle.lp_gen.specs.declared.plan.Part.{Part}
use Rattle.lp_gen.specs.declared.plan.Origin.TheVariants as origin
use Rattle.lp_gen.specs.declared.tables.Tables.{Tables}
use Rattle.lp_gen.specs.Steps.{Seen, constant_function}
use Rattle.lp_gen.specs.inner.Listing.{seen, around_of}
use Rattle.lp_gen.specs.inner.Written.{AreAsked}
use Rattle.lp_gen.specs.inner.GoalCode.{numbers}
use Rattle.lp_gen.specs.inner.Entering.{types_at}
use Rattle.lp_gen.specs.inner.OpenGoals.{EndsGoal, EndsGoals}
use Rattle.lp_gen.specs.inner.BodyCode.{Suppositions, started_at, AreAllSet, HoldStarts, starts_all}
use Rattle.lp_gen.specs.inner.Recorded.{RecordWritten, own_count, FrontWritten, HeadWritten, head_in}
use Rattle.lp_gen.specs.inner.Planned.{clauses_length, goal_records, goals_records, level_behind, GoalHas, GoalsHave, DeepGoal, DeepGoals, DeepClauses, IsAssumption, IsAtLevel, AreCaptured}
use Rattle.lp_gen.specs.inner.Planning.{AllCaptured, Extends, HoldClauses, AssumptionAt, PartPlanned, AllPlanned, ArePlanned, body_of}
use Rattle.lp_gen.specs.inner.Groups.{IsStartOf, AllWritten}
use Rattle.lp_gen.proofs.PlanWalked.{extends_same, extends_at, get_behind}
use Rattle.lp_gen.proofs.Tops.{clause_is, clauses_many}
use Rattle.lp_gen.proofs.PartsDone.{clause_at, told_at, PartDone, IsMember, flat_of}
use Rattle.lp_gen.proofs.PartsTell.{program_told, query_told}
use Rattle.lp_gen.proofs.RecordNamed.{names}
use Rattle.lp_gen.proofs.NamedNumbers.{member_left, member_right, member_cases, member_numbers, numbers_member, named_one_more}

pub from_none : {X : Type 0} (xs : List X) (j : ℕ) → slice_get xs (0 + j) ≡ slice_get xs j
from_none xs j = let z : 0 + j ≡ j = omega arith in ap (slice_get xs) z

pub no_start : {X : Type 0} (x : X) → ◌≡◌ {A = Option X} None (Some x) → ⊥
no_start x e = cc

-- a query has no head
query_no_head : (b : Nodes) (K : ℕ → List Ty → Ty) (e e' : Emitter) (env env' : Environment) (o : Origin) (p : Option RecordHead) (q : Bor query.Typed) (gs : Bor (List code_goal.Goal)) →
    FrontWritten b K e e' env env' o p →
    o ≡ origin.Query q gs → p ≡ None
query_no_head b K e e' env env' o None q gs f is = refl
query_no_head b K e e' env env' o (Some p) q gs f is =
    absurd (subst (λ u. HeadWritten K f.begun f.matched (around_of b f.begun_env) (around_of b f.matched_env) (Some p) (head_in b u)) is f.head)

-- what is at a place of parts and records that are written
pub record At (S : Type 0) (t : Tables) (us : List Due) (xs : List Assumption) (starts : List (IndexMap ℕ Variable S)) (i : ℕ) (p : Part) (r : Record) : Type 0 where
  pub before : List (IndexMap ℕ Variable S)
  pub captured : IndexMap ℕ Variable S
  pub more : List (IndexMap ℕ Variable S)
  pub m : ℕ
  pub q : ℕ
  pub s : ℕ
  pub written : RecordWritten t (constant_function t.bank.now t.constants.now) p captured [] more r
  pub starts_with : IsStartOf before p.within captured
  pub planned : PartPlanned us xs i (length before) m q s p
  pub extends : Extends (before ++ more) starts
  pub are_set : All (AreAllSet t.bank.now) before

written_extends : {S : Type 0} (t : Tables) (xs ys : List (IndexMap ℕ Variable S)) (ps : List Part) (rs : List Record) → AllWritten t xs ys ps rs → Extends xs ys
written_extends t xs ys [] rs w = ([], w.1 ∙ sym (append-nil xs))
written_extends t xs ys (p ∷ ps) [] w = absurd w
written_extends t xs ys (p ∷ ps) (r ∷ rs) (m, more, a, b, c) = let e = written_extends t (xs ++ more) ys ps rs c in (more ++ e.0, e.1 ∙ append_assoc xs more e.0)

pub written_length : {S : Type 0} (t : Tables) (xs ys : List (IndexMap ℕ Variable S)) (ps : List Part) (rs : List Record) → AllWritten t xs ys ps rs → length rs ≡ length ps
written_length t xs ys [] rs w = ap length w.0
written_length t xs ys (p ∷ ps) [] w = absurd w
written_length t xs ys (p ∷ ps) (r ∷ rs) (m, more, a, b, c) = ap suc (written_length t (xs ++ more) ys ps rs c)

-- what is at a place, and what holds there step by step
module _ (S : Type 0) (t : Tables) (us : List Due) (xs : List Assumption) (starts : List (IndexMap ℕ Variable S)) (parts : List Part) (g : List Record) (e : Extends xs t.assumptions.now)
    (low : t.first + length us < 2 ^ 32)
    (I : ℕ → ℕ → Type 0) (step : (i : ℕ) (p : Part) (r : Record) (z : At S t us xs starts i p r) → slice_get parts i ≡ Some p → slice_get g i ≡ Some r → I i z.q → I (suc i) z.s) where
  -- the next place
  placed : (before : List (IndexMap ℕ Variable S)) (i n k q l : ℕ) (y : Part) (x : Record) (ps : List Part) (rs : List Record) (c : IndexMap ℕ Variable S)
      (more : List (IndexMap ℕ Variable S)) → PartPlanned us xs i n k q l y →
      RecordWritten t (constant_function t.bank.now t.constants.now) y c [] more x → IsStartOf before y.within c → AllWritten t (before ++ more) starts ps rs → length before ≡ n → All
      (AreAllSet t.bank.now) before →
      (z : At S t us xs starts i y x) × (z.q ≡ q) × (z.s ≡ l) × (length (before ++ more) ≡ k) × All (AreAllSet t.bank.now) (before ++ more)
  placed before i n k q l y x ps rs c more a w b ws many set = (
    record {
      before = before;
      captured = c;
      more = more;
      m = k;
      q = q;
      s = l;
      written = w;
      starts_with = b;
      planned = subst (λ v. PartPlanned us xs i v k q l y) (sym many) a;
      extends = written_extends t (before ++ more) starts ps rs ws;
      are_set = set;
    },
    refl,
    refl,
    (let count = size.2 in let same_more = ap length size.1 in let next = (a.are_next t e low).2 in let sum = length-append before more in omega (arith, many, count, same_more, next, sum)),
    All-append (AreAllSet t.bank.now) before more set (subst (All (AreAllSet t.bank.now)) (sym size.1) size.3),
  )
    where
      size : (more2 : List (IndexMap ℕ Variable S)) × (more ≡ [] ++ more2) × (length more2 ≡ starts_all t y.steps.items) × All (AreAllSet t.bank.now) more2
      size = w.body.written.1

  next_known : (i q s : ℕ) (y : Part) (x : Record) (z : At S t us xs starts i y x) → slice_get parts i ≡ Some y → slice_get g i ≡ Some x → z.q ≡ q → z.s ≡ s → I i q → I (suc i) s
  next_known i q s y x z at at_g same_q same_s known = subst (I (suc i)) same_s (step i y x z at at_g (subst (I i) (sym same_q) known))

  pub all_at : (before : List (IndexMap ℕ Variable S)) (i n m q s : ℕ) (ps : List Part) (rs : List Record) → AllPlanned us xs i n m q s ps → AllWritten t before starts ps rs → length before
      ≡ n → All (AreAllSet t.bank.now) before → I i q →
      ((j : ℕ) → slice_get parts (i + j) ≡ slice_get ps j) → ((j : ℕ) → slice_get g (i + j) ≡ slice_get rs j) → (j : ℕ) (p : Part) (r : Record) → slice_get ps j ≡ Some p → slice_get rs j ≡
      Some r → (z : At S t us xs starts (i + j) p r) × I (i + j) z.q
  all_at before i n m q s [] rs a w many set known same same_g j p r at at_r = absurd (no_start p at)
  all_at before i n m q s (y ∷ ps) [] a w many set known same same_g j p r at at_r = absurd w
  all_at before i n m q s (y ∷ ps) (x ∷ rs) (k, l, a, ahead) (c, more, w, b, ws) many set known same same_g zero p r at at_r =
      let z = placed before i n k q l y x ps rs c more a w b ws many set in
      let part : y ≡ p = cc in
      let written : x ≡ r = cc in
      let zero_more : i ≡ i + 0 = omega arith in
      subst (λ v. (z : At S t us xs starts v p r) × I v z.q) zero_more (subst (λ v. (z : At S t us xs starts i v r) × I i z.q) part
      (subst (λ v. (z : At S t us xs starts i y v) × I i z.q) written (z.0, subst (I i) (sym z.1) known)))
  all_at before i n m q s (y ∷ ps) (x ∷ rs) (k, l, a, ahead) (c, more, w, b, ws) many set known same same_g (suc j) p r at at_r =
      let z = placed before i n k q l y x ps rs c more a w b ws many set in
      let zero_more : i ≡ i + 0 = omega arith in
      let later : suc i + j ≡ i + suc j = omega arith in
      let next = next_known i q l y x z.0 (ap (slice_get parts) zero_more ∙ same 0) (ap (slice_get g) zero_more ∙ same_g 0) z.1 z.2 known in
      subst (λ v. (z : At S t us xs starts v p r) × I v z.q) later (all_at (before ++ more) (suc i) k m l s ps rs ahead ws z.3 z.4 next
      (λ v. let u : suc i + v ≡ i + suc v = omega arith in ap (slice_get parts) u ∙ same (suc v))
      (λ v. let u : suc i + v ≡ i + suc v = omega arith in ap (slice_get g) u ∙ same_g (suc v)) j p r at at_r)

  pub all_end : (before : List (IndexMap ℕ Variable S)) (i n m q s : ℕ) (ps : List Part) (rs : List Record) → AllPlanned us xs i n m q s ps → AllWritten t before starts ps rs → length before
      ≡ n → All (AreAllSet t.bank.now) before → I i q →
      ((j : ℕ) → slice_get parts (i + j) ≡ slice_get ps j) → ((j : ℕ) → slice_get g (i + j) ≡ slice_get rs j) → I (i + length ps) s
  all_end before i n m q s [] rs a w many set known same same_g = let zero_more : i ≡ i + 0 = omega arith in subst (λ v. I v s) zero_more (subst (I i) a.1 known)
  all_end before i n m q s (y ∷ ps) [] a w many set known same same_g = absurd w
  all_end before i n m q s (y ∷ ps) (x ∷ rs) (k, l, a, ahead) (c, more, w, b, ws) many set known same same_g =
      let z = placed before i n k q l y x ps rs c more a w b ws many set in
      let zero_more : i ≡ i + 0 = omega arith in
      let later : suc i + length ps ≡ i + suc (length ps) = omega arith in
      let next = next_known i q l y x z.0 (ap (slice_get parts) zero_more ∙ same 0) (ap (slice_get g) zero_more ∙ same_g 0) z.1 z.2 known in
      subst (λ v. I v s) later (all_end (before ++ more) (suc i) k m l s ps rs ahead ws z.3 z.4 next (λ v. let u : suc i + v ≡ i + suc v = omega arith in ap (slice_get parts) u ∙ same (suc v))
      (λ v. let u : suc i + v ≡ i + suc v = omega arith in ap (slice_get g) u ∙ same_g (suc v)))

-- goals of which more is known

mutual
  goal_have_map : (D E : ℕ → ℕ → Clauses → Type 0) → ((q d : ℕ) (cs : Clauses) → D q d cs → E q d cs) → (q d : ℕ) (g : Goal) → GoalHas D q d g → GoalHas E q d g
  goal_have_map D E f q d (Atomic t) x = tt
  goal_have_map D E f q d Cut x = tt
  goal_have_map D E f q d (Either gs hs) x = (have_map D E f q d gs x.0, have_map D E f (q + goals_records gs) d hs x.1)
  goal_have_map D E f q d (Exists T gs) x = have_map D E f q (suc d) gs x
  goal_have_map D E f q d (Forall T gs) x = have_map D E f q (suc d) gs x
  goal_have_map D E f q d (Assume w cs gs) x = (f q d cs x.0, have_map D E f (q + clauses_length cs) d gs x.1)
  goal_have_map D E f q d (Not w gs) x = have_map D E f q d gs x

  pub have_map : (D E : ℕ → ℕ → Clauses → Type 0) → ((q d : ℕ) (cs : Clauses) → D q d cs → E q d cs) → (q d : ℕ) (gs : Goals) → GoalsHave D q d gs → GoalsHave E q d gs
  have_map D E f q d no_goals x = tt
  have_map D E f q d (goals g gs) x = (goal_have_map D E f q d g x.0, have_map D E f (q + goal_records g) (level_behind d g) gs x.1)

-- clauses by their places
pub clause_found : (b : Nodes) (cs : List code.Clause) (j : ℕ) (c : Clause) → clause_at (clauses_of b cs) j ≡ Some c → (d : code.Clause) × (slice_get cs j ≡ Some d) × (clause_of b d ≡ c)
clause_found b [] j c e = absurd (no_start c e)
clause_found b (d ∷ ds) zero c e = (d, refl, cc)
clause_found b (d ∷ ds) (suc j) c e = clause_found b ds j c e

pub there_is : {X : Type 0} (xs : List X) (i : ℕ) → i < length xs → (x : X) × (slice_get xs i ≡ Some x)
there_is [] i lt = absurd (omega (arith, lt))
there_is (x ∷ xs) zero lt = (x, refl)
there_is (x ∷ xs) (suc i) lt = there_is xs i (omega (arith, lt))

pub one_only : {X : Type 0} (o : Option X) (x y : X) → o ≡ Some x → o ≡ Some y → x ≡ y
one_only o x y e f = cc

pub three : (n m : ℕ) → (n < m → ⊥) → (m < n → ⊥) → n ≡ m
three n m f g = go (nat_lt n m) refl (nat_lt m n) refl
  where
    go : (a : Bool) → nat_lt n m ≡ a → (c : Bool) → nat_lt m n ≡ c → n ≡ m
    go true e c d = absurd (f (ltb-true n m e))
    go false e true d = absurd (g (ltb-true m n d))
    go false e false d = let x = ltb-false n m e in let y = ltb-false m n d in omega (arith, x, y)

low_or_high : (v q : ℕ) → (v < q) ⊎ (q ≤ v)
low_or_high v q = go (nat_lt v q) refl
  where
    go : (a : Bool) → nat_lt v q ≡ a → (v < q) ⊎ (q ≤ v)
    go true e = inl (ltb-true v q e)
    go false e = inr (ltb-false v q e)

mutual
  deep_end : (g : Goal) → DeepGoal g → EndsGoal g
  deep_end (Atomic t) x = tt
  deep_end Cut x = tt
  deep_end (Either gs hs) x = (deep_ends gs x.0, deep_ends hs x.1)
  deep_end (Exists T gs) x = deep_ends gs x
  deep_end (Forall T gs) x = deep_ends gs x
  deep_end (Assume w cs gs) x = deep_ends gs x.1
  deep_end (Not w gs) x = deep_ends gs x

  deep_ends : (gs : Goals) → DeepGoals gs → EndsGoals gs
  deep_ends no_goals x = tt
  deep_ends (goals g gs) x = (deep_end g x.0, x.1, deep_ends gs x.2)

pub All-at : {X : Type 0} (P : X → Type 0) (ls : List X) (n : ℕ) (x : X) → All P ls → slice_get ls n ≡ Some x → P x
All-at P ls n x a at = subst P (get_or_from_slice_get ls n x x at) (All-get_or P ls n x (slice_get_within ls n x at) a)

-- the starts of assumptions
abbrev pub start_at : {S : Type 0} → Nodes → Option (IndexMap ℕ Variable S) → ℕ → Option Seen
start_at b None l = None
start_at b (Some m) l = started_at b m l

abbrev pub count_at : {S : Type 0} → Option (IndexMap ℕ Variable S) → ℕ
count_at None = 0
count_at (Some m) = index_map_len m

abbrev pub clauses_in_place : Nodes → Option Assumption → Clauses
clauses_in_place b None = no_clauses
clauses_in_place b (Some x) = clauses_of b x.clauses.now

abbrev pub supposed : {S : Type 0} → Nodes → List Assumption → List (IndexMap ℕ Variable S) → Suppositions
supposed b xs starts = record { clauses = λ n. clauses_in_place b (slice_get xs n); starts = λ n l. start_at b (slice_get starts n) l; counts = λ n. count_at (slice_get starts n) }

module _ (S : Type 0) (t : Tables) (o1 : Origin) (us : List Due) (parts : List Part) (g : List Record) (starts : List (IndexMap ℕ Variable S))
    (plan : ArePlanned o1 us parts t.assumptions.now)
    (w : AllWritten t [] starts parts g) (low : t.first + length parts < 2 ^ 32) (deep : DeepGoals (goals_of t.bank.now (body_of o1))) (standing : AllCaptured t.bank.now t.assumptions.now) where
  abbrev b : Nodes
  b = t.bank.now

  abbrev xs : List Assumption
  xs = t.assumptions.now

  abbrev pub cl : Suppositions
  cl = supposed b xs starts

  hold : HoldClauses b xs cl
  hold n x at = ap (clauses_in_place b) at

  -- an assumed one is a member
  member_of : (i n : ℕ) (p : Part) → slice_get parts i ≡ Some p → p.within ≡ Some n → (x : Assumption) × (j : ℕ) × (c : code.Clause) × (e : Bor code.Clause) × (slice_get xs n ≡ Some x) ×
      (x.first + j ≡ i) × (slice_get x.clauses.now j ≡ Some c) × (e.now ≡ c) × (p.origin ≡ origin.Clause e) × (p.base ≡ x.base)
  member_of i n p at within =
      let u = plan.stands.are i p at in
      let is = u.2 in
      let k = plan.stands.assumed.known i n u.0 u.1 (sym is.1 ∙ within) in
      let x = k.0 in
      let s = plan.stands.assumed.each n x k.1 in
      let le = k.2 in
      let lt = k.3 in
      let c = there_is x.clauses.now (i - x.first) (let z = s.count in omega (arith, le, lt, z)) in
      let m = s.members (i - x.first) c.0 c.1 in
      let back : x.first + (i - x.first) ≡ i = omega (arith, le) in
      let same : m.0 ≡ u.0 = one_only (slice_get us i) m.0 u.0 (ap (slice_get us) (sym back) ∙ m.1) u.1 in
      (x, i - x.first, c.0, m.2.0, k.1, back, c.1, m.2.1, is.0 ∙ ap (λ y. y.origin) (sym same) ∙ m.2.2, is.2 ∙ k.4)

  deep_member : (cs : List code.Clause) (j : ℕ) (c : code.Clause) → slice_get cs j ≡ Some c → DeepClauses (clauses_of b cs) → DeepGoals (goals_of b c.body.items)
  deep_member [] j c at x = absurd (no_start c at)
  deep_member (d ∷ ds) zero c at x =
      let same : d ≡ c = cc in
      subst (λ e. DeepGoals (goals_of b e.body.items)) same (subst (λ e. DeepClauses (clauses e (clauses_of b ds))) (clause_is b d) x).0
  deep_member (d ∷ ds) (suc j) c at x = deep_member ds j c at (subst (λ e. DeepClauses (clauses e (clauses_of b ds))) (clause_is b d) x).1

  deep_from : (i n m q s : ℕ) (ps : List Part) → AllPlanned us xs i n m q s ps → ((j : ℕ) → slice_get parts (i + j) ≡ slice_get ps j) →
      ((k : ℕ) (x : Assumption) → k < n → slice_get xs k ≡ Some x → DeepClauses (clauses_of b x.clauses.now)) →
      (j : ℕ) (p : Part) → slice_get ps j ≡ Some p → DeepGoals (goals_of b (body_of p.origin))
  deep_from i n m q s [] a same known j p at = absurd (no_start p at)
  deep_from i n m q s (y ∷ ps) (k, l, a, ahead) same known j p at =
      by_place (λ j2 at2. deep_from (suc i) k m l s ps ahead (λ r. let z : suc i + r ≡ i + suc r = omega arith in ap (slice_get parts) z ∙ same (suc r)) next j2 p at2) j at
    where
      here : slice_get parts i ≡ Some y
      here = let z : i ≡ i + 0 = omega arith in ap (slice_get parts) z ∙ same 0

      first : (o : Option ℕ) → y.within ≡ o → DeepGoals (goals_of b (body_of y.origin))
      first None e =
          let u = plan.stands.are i y here in
          let z = plan.stands.assumed.outer i u.0 u.1 (sym u.2.1 ∙ e) in
          let f = plan.stands.begin in
          let root : u.0 ≡ f.0 = one_only (slice_get us 0) u.0 f.0 (ap (slice_get us) (sym z) ∙ u.1) f.1 in
          subst (λ v. DeepGoals (goals_of b (body_of v))) (sym (u.2.0 ∙ ap (λ v. v.origin) root ∙ f.2)) deep
      first (Some r) e =
          let v = member_of i r y here e in
          let d = deep_member v.0.clauses.now v.1 v.2 v.6 (known r v.0 (a.around r e) v.4) in
          subst (λ o. DeepGoals (goals_of b (body_of o))) (sym v.8) (subst (λ c. DeepGoals (goals_of b c.body.items)) (sym v.7) d)

      next : (r : ℕ) (x : Assumption) → r < k → slice_get xs r ≡ Some x → DeepClauses (clauses_of b x.clauses.now)
      next r x lt at = go (nat_lt r n) refl
        where
          go : (c : Bool) → nat_lt r n ≡ c → DeepClauses (clauses_of b x.clauses.now)
          go true e = known r x (ltb-true r n e) at
          go false e = a.deep b (first y.within refl) r x (ltb-false r n e) lt at

      by_place : ((j : ℕ) → slice_get ps j ≡ Some p → DeepGoals (goals_of b (body_of p.origin))) → (j : ℕ) → slice_get (y ∷ ps) j ≡ Some p → DeepGoals (goals_of b (body_of p.origin))
      by_place f zero at = let is : y ≡ p = cc in subst (λ v. DeepGoals (goals_of b (body_of v.origin))) is (first y.within refl)
      by_place f (suc j) at = f j at

  pub deep_at : (i : ℕ) (p : Part) → slice_get parts i ≡ Some p → DeepGoals (goals_of b (body_of p.origin))
  deep_at i p at = deep_from 0 0 (length xs) 1 (length us) parts plan.stands.planned (from_none parts) (λ k x lt. absurd (omega (arith, lt))) i p at

  ends_at : (i : ℕ) (p : Part) → slice_get parts i ≡ Some p → EndsGoals (goals_of b (body_of p.origin))
  ends_at i p at = deep_ends (goals_of b (body_of p.origin)) (deep_at i p at)

  -- what each record starts with
  kept_at : (i : ℕ) (p : Part) (r : Record) (z : At S t us xs starts i p r) → HoldStarts b z.more (length z.before) cl
  kept_at i p r z k m at =
      let there = extends_at (z.before ++ z.more) starts (length z.before + k) m z.extends (get_behind z.before z.more k m at) in
      (λ l. ap (λ o. start_at b o l) there, ap count_at there)

  set_at : (i : ℕ) (p : Part) (r : Record) (z : At S t us xs starts i p r) → AreAllSet b z.captured
  set_at i p r z = go p.within refl z.starts_with
    where
      none : (l : ℕ) → z.captured.entries ≡ [] → started_at b z.captured l ≡ None
      none l e = ap (λ es. option_map (seen b) (Rattle.std.specs.Map.lookup (nat_eq l) es)) e

      go : (o : Option ℕ) → p.within ≡ o → IsStartOf z.before o z.captured → AreAllSet b z.captured
      go None e x = λ l v at. absurd (no_start v (sym (none l x) ∙ at))
      go (Some n) e x = All-at (AreAllSet b) z.before n z.captured z.are_set (x (z.planned.around n e))

  bound : length us ≡ length parts
  bound = sym plan.all

  few_due : t.first + length us < 2 ^ 32
  few_due = let z = bound in omega (arith, low, z)

  -- the records that it names
  names_at : (T : CodeTables) (i : ℕ) (p : Part) (r : Record) (z : At S t us xs starts i p r) → slice_get parts i ≡ Some p → (n : ℕ) × (names_in r.code.items ≡ numbers (t.first + z.q) n) ×
      (t.first + z.s ≡ t.first + z.q + n)
  names_at T i p r z at =
      let next = z.planned.are_next t (extends_same xs) few_due in
      let few = z.planned.few in
      let short = z.planned.short in
      let w = names t p z.captured z.more p.origin (home_of T [] i r) z.written refl (set_at i p r z) cl (t.first + z.q) (length z.before) (goals_of b (body_of p.origin)) (kept_at i p r z)
      (z.planned.says b cl hold) (ends_at i p at) next.0 (omega (arith, few, short)) in
      (w.0, w.1, sym next.1 ∙ w.2)

  module _ (T : CodeTables) (all : List Record) (placed : (i : ℕ) (r : Record) → slice_get g i ≡ Some r → slice_get all (t.first + i) ≡ Some r)
      (before : (v : ℕ) → member v (named_before t.first all) ≡ true → v < t.first) where
    -- records before name numbers below that of the next one that is named, and all of them
    abbrev Early : ℕ → ℕ → Type 0
    Early i q =
        ((v : ℕ) → member v (named_before (t.first + i) all) ≡ true → v < t.first + q) × ((v : ℕ) → 1 ≤ v → v < q → member (t.first + v) (named_before (t.first + i) all) ≡ true)

    early_step : (i : ℕ) (p : Part) (r : Record) (z : At S t us xs starts i p r) → slice_get parts i ≡ Some p → slice_get g i ≡ Some r → Early i z.q → Early (suc i) z.s
    early_step i p r z at at_r known =
        let ns = names_at T i p r z at in
        let here : named_before (t.first + suc i) all ≡ named_before (t.first + i) all ++ names_in r.code.items =
        (let y : t.first + suc i ≡ suc (t.first + i) = omega arith in ap (λ k. named_before k all) y) ∙ named_one_more all (t.first + i) r (placed i r at_r) in
        let grow = ns.2 in (
          λ v is.
              member_cases v (named_before (t.first + i) all) (names_in r.code.items) (v < t.first + z.s) (sym (ap (member v) here) ∙ is) (λ e. let l = known.0 v e in omega (arith, l, grow))
              (λ e. let l = member_numbers v (t.first + z.q) ns.0 (sym (ap (member v) ns.1) ∙ e) in omega (arith, l, grow)),
          λ v some lt.
              ap (member (t.first + v)) here ∙ ⊎_elim (λ e. member_left (t.first + v) (named_before (t.first + i) all) (names_in r.code.items) (known.1 v some e))
              (λ e. member_right (t.first + v) (named_before (t.first + i) all) (names_in r.code.items) (ap (member (t.first + v)) ns.1 ∙ numbers_member (t.first + v) (t.first + z.q) ns.0
              (omega (arith, e)) (omega (arith, lt, grow)))) (low_or_high v z.q),
        )

    pub at_place : (i : ℕ) (p : Part) (r : Record) → slice_get parts i ≡ Some p → slice_get g i ≡ Some r → (z : At S t us xs starts i p r) × Early i z.q
    at_place i p r at at_r =
        let zero_more : 0 + i ≡ i = omega arith in
        subst (λ v. (z : At S t us xs starts v p r) × Early v z.q) zero_more (all_at S t us xs starts parts g (extends_same xs) few_due Early early_step [] 0 0 (length xs) 1 (length us)
        parts g plan.stands.planned w refl (All-nil (AreAllSet b)) (
          λ v e. let z : t.first + 0 ≡ t.first = omega arith in let l = before v (sym (ap (λ k. member v (named_before k all)) z) ∙ e) in omega (arith, l),
          λ v some lt. absurd
              (omega (arith, some, lt)),
        ) (from_none parts) (from_none g) i p r at at_r)

    pub early_end : Early (length parts) (length us)
    early_end =
        let zero_more : 0 + length parts ≡ length parts = omega arith in
        subst (λ v. Early v (length us)) zero_more (all_end S t us xs starts parts g (extends_same xs) few_due Early early_step [] 0 0 (length xs) 1 (length us) parts g plan.stands.planned w
        refl (All-nil (AreAllSet b)) (
          λ v e. let z : t.first + 0 ≡ t.first = omega arith in let l = before v (sym (ap (λ k. member v (named_before k all)) z) ∙ e) in omega (arith, l),
          λ v some lt. absurd
              (omega (arith, some, lt)),
        ) (from_none parts) (from_none g))

    -- a part with its record
    pub part_done : (i : ℕ) (p : Part) (r : Record) → slice_get parts i ≡ Some p → slice_get g i ≡ Some r → PartDone S t cl p (t.first + i) r
    part_done i p r at at_r = record {
      captured = z.captured;
      starts = z.more;
      written = z.written;
      first = length z.before;
      kept = kept_at i p r z;
      next = t.first + z.q;
      later = let l = z.planned.later in omega (arith, l);
      steps = z.planned.says b cl hold;
      are_next = (z.planned.are_next t (extends_same xs) few_due).0;
      has = have_map (IsAssumption t cl) (IsAtLevel t) level (t.first + z.q) (p.base + own_count p.origin) (goals_of b (body_of p.origin)) has_clauses;
      well = z.planned.written b;
      has_clauses = has_clauses;
      few = let f = z.planned.few in let h = z.planned.short in omega (arith, f, h);
      short = let f = z.planned.few in omega (arith, f);
      starts_are = λ n within.
          let there = extends_at (z.before ++ z.more) starts n z.captured z.extends (get_append z.before z.more n z.captured
          (subst (λ v. IsStartOf z.before v z.captured) within z.starts_with (z.planned.around n within))) in
          (λ l. ap (λ v. start_at b v l) there, ap count_at there);
    }
      where
        placed_one : (z : At S t us xs starts i p r) × Early i z.q
        placed_one = at_place i p r at at_r

        z : At S t us xs starts i p r
        z = placed_one.0

        as_assumption : (q d : ℕ) (cs : Clauses) → AssumptionAt b xs t.first q d cs → IsAssumption t cl q d cs
        as_assumption q d cs (n, x, found, is, first, base) = (n, x, found, is ∙ sym (hold n x found), first, base)

        has_clauses : GoalsHave (IsAssumption t cl) (t.first + z.q) (p.base + own_count p.origin) (goals_of b (body_of p.origin))
        has_clauses = have_map (AssumptionAt b xs t.first) (IsAssumption t cl) as_assumption (t.first + z.q) (p.base + own_count p.origin) (goals_of b (body_of p.origin))
            (z.planned.has b t.first xs (extends_same xs))

        level : (q d : ℕ) (cs : Clauses) → IsAssumption t cl q d cs → IsAtLevel t q d cs
        level q d cs (n, x, found, is, first, base) m y found_y first_y some some_cs =
            let s = plan.stands.assumed.each n x found in
            let count_x : clauses_length cs ≡ x.count = ap clauses_length (is ∙ hold n x found) ∙ clauses_many b x.clauses.now ∙ sym s.count in
            let same_place : n ≡ m = three n m (λ lt. let a = plan.stands.assumed.ordered n m x y lt found found_y in absurd (omega (arith, a, first, first_y, some_cs, count_x)))
            (λ lt. let a = plan.stands.assumed.ordered m n y x lt found_y found in absurd (omega (arith, a, first, first_y, some))) in
            ap (λ (v : Assumption). v.base) (one_only (slice_get xs m) y x found_y (ap (slice_get xs) (sym same_place) ∙ found)) ∙ base

    pub members : (n : ℕ) (x : Assumption) → slice_get xs n ≡ Some x → (j : ℕ) (c : Clause) → clause_at (cl.clauses n) j ≡ Some c → IsMember t parts g n x j c
    members n x found j c at =
        let s = plan.stands.assumed.each n x found in
        let d = clause_found b x.clauses.now j c (ap (λ l. clause_at l j) (sym (hold n x found)) ∙ at) in
        let m = s.members j d.0 d.1 in
        let lt = slice_get_within us (x.first + j) m.0 m.1 in
        let p = there_is parts (x.first + j) (let z = bound in omega (arith, lt, z)) in
        let r = there_is g (x.first + j) (let z = bound in let y = written_length t [] starts parts g w in omega (arith, lt, z, y)) in
        let u = plan.stands.are (x.first + j) p.0 p.1 in
        let same : u.0 ≡ m.0 = one_only (slice_get us (x.first + j)) u.0 m.0 u.1 m.1 in
        record {
          part = p.0;
          record_is = r.0;
          part_at = p.1;
          record_at = r.1;
          within = u.2.1 ∙ ap (λ v. v.within) same ∙ m.2.3;
          base = u.2.2 ∙ ap (λ v. v.base) same ∙ m.2.4;
          flat = ap (flat_of b) (u.2.0 ∙ ap (λ v. v.origin) same ∙ m.2.2) ∙ ap (λ v. Some v) (sym (clause_is b m.2.0.now) ∙ ap (clause_of b) m.2.1 ∙ d.2);
        }

    pub counts : (n : ℕ) (x : Assumption) → slice_get xs n ≡ Some x → clauses_length (cl.clauses n) ≡ x.count
    counts n x found = ap clauses_length (hold n x found) ∙ clauses_many b x.clauses.now ∙ sym (plan.stands.assumed.each n x found).count

    pub captured : (n : ℕ) (x : Assumption) → slice_get xs n ≡ Some x → AreCaptured x (cl.clauses n)
    captured n x found = subst (AreCaptured x) (sym (hold n x found)) (standing n x found).0

    pub names_below : (i : ℕ) (p : Part) (r : Record) (a : slice_get parts i ≡ Some p) (c : slice_get g i ≡ Some r) (m : ℕ) → member m (named_before (t.first + i) all) ≡ true → m <
        (part_done i p r a c).next
    unfolding part_done
    names_below i p r a c m e = (at_place i p r a c).1.0 m e

    pub named : (i : ℕ) (p : Part) (n : ℕ) → slice_get parts i ≡ Some p → p.within ≡ Some n → member (t.first + i) (named_before (t.first + i) all) ≡ true
    named i p n at within =
        let r = there_is g i (let z = slice_get_within parts i p at in let y = written_length t [] starts parts g w in omega (arith, z, y)) in
        let k = at_place i p r.0 at r.1 in
        let v = member_of i n p at within in
        let later = k.0.planned.later in
        k.1.1 i (some_first v.0 v.1 v.4 v.5) (omega (arith, later))
      where
        some_first : (x : Assumption) (j : ℕ) → slice_get xs n ≡ Some x → x.first + j ≡ i → 1 ≤ i
        some_first x j found is = let f = (plan.stands.assumed.each n x found).behind in omega (arith, f, is)

    -- the first record is one of the program
    pub first_program : (r : Record) → slice_get g 0 ≡ Some r → r.program ≡ true
    first_program r at_r =
        let p = there_is parts 0 (let z = slice_get_within g 0 r at_r in let y = written_length t [] starts parts g w in omega (arith, z, y)) in
        let u = plan.stands.are 0 p.0 p.1 in
        let f = plan.stands.begin in
        let same : u.0 ≡ f.0 = one_only (slice_get us 0) u.0 f.0 u.1 f.1 in
        let within : p.0.within ≡ None = u.2.1 ∙ ap (λ v. v.within) same ∙ f.3 in
        (at_place 0 p.0 r p.1 at_r).0.written.is_program ∙ ap is_none within

    -- each other one is assumed
    pub other_assumed : (i : ℕ) (r : Record) → slice_get g (suc i) ≡ Some r → (r.program ≡ false) × (member (t.first + suc i) (named_before (t.first + suc i) all) ≡ true)
    other_assumed i r at_r = by_within p.0.within refl
      where
        p : (p : Part) × (slice_get parts (suc i) ≡ Some p)
        p = there_is parts (suc i) (let z = slice_get_within g (suc i) r at_r in let y = written_length t [] starts parts g w in omega (arith, z, y))

        by_within : (o : Option ℕ) → p.0.within ≡ o → (r.program ≡ false) × (member (t.first + suc i) (named_before (t.first + suc i) all) ≡ true)
        by_within None e =
            let u = plan.stands.are (suc i) p.0 p.1 in
            let z = plan.stands.assumed.outer (suc i) u.0 u.1 (sym u.2.1 ∙ e) in
            absurd (omega (arith, z))
        by_within (Some n) e = ((at_place (suc i) p.0 r p.1 at_r).0.written.is_program ∙ ap is_none e, named (suc i) p.0 n p.1 e)

    module _ (std : IsStandard T.constants) (asked : (m : ℕ) (r : Record) → AreAsked (home_of T all m r) (constant_function b t.constants.now)) (few_types : t.type_vars ≤ 65535) where
      -- the first part is the clause or query itself
      first_part : (r : Record) → slice_get g 0 ≡ Some r → (p : Part) × (slice_get parts 0 ≡ Some p) × (p.origin ≡ o1) × (p.within ≡ None) × (p.base ≡ 0)
      first_part r at_r =
          let p = there_is parts 0 (let z = slice_get_within g 0 r at_r in let y = written_length t [] starts parts g w in omega (arith, z, y)) in
          let u = plan.stands.are 0 p.0 p.1 in
          let f = plan.stands.begin in
          let same : u.0 ≡ f.0 = one_only (slice_get us 0) u.0 f.0 u.1 f.1 in
          (p.0, p.1, u.2.0 ∙ ap (λ v. v.origin) same ∙ f.2, u.2.1 ∙ ap (λ v. v.within) same ∙ f.3, u.2.2 ∙ ap (λ v. v.base) same ∙ f.4)

      starts_none : (p : Part) (r : Record) (at : slice_get parts 0 ≡ Some p) (at_r : slice_get g 0 ≡ Some r) → p.within ≡ None → (at_place 0 p r at at_r).0.captured.entries ≡ []
      starts_none p r at at_r within = subst (λ v. IsStartOf (at_place 0 p r at at_r).0.before v (at_place 0 p r at at_r).0.captured) within (at_place 0 p r at at_r).0.starts_with

      -- the first record denotes the clause
      pub first_told : (of : Bor code.Clause) → o1 ≡ origin.Clause of → t.type_vars ≡ of.now.type_vars → IsClause T (clause_of b of.now) → clauses_strings (clauses (clause_of b of.now) no_clauses) ≡ 0 → (r : Record) → slice_get g 0 ≡ Some r →
          told_at T all (t.first + 0) r nothing_captured ≡ Some (clause_of b of.now)
      unfolding part_done
      first_told of o_is vars_are is_clause short r at_r =
          let p = first_part r at_r in
          let shape : clause t.type_vars (types_at b of.now.vars.items) (tree b of.now.head.0) (goals_of b of.now.body.items) ≡ clause_of b of.now =
          (λ i. clause (vars_are i) (types_at b of.now.vars.items) (tree b of.now.head.0) (goals_of b of.now.body.items)) ∙ sym (clause_is b of.now) in
          program_told t cl T all parts g std asked few_types part_done placed members captured counts names_below named p.0 r p.1 at_r p.3 p.4 (starts_none p.0 r p.1 at_r p.3) of (p.2 ∙ o_is)
          (subst (IsClause T) (sym shape) is_clause) (subst (λ F. clauses_strings (clauses F no_clauses) ≡ 0) (sym shape) short) ∙ ap (λ v. Some v) shape

      -- or the query
      pub first_query : (q1 : Bor query.Typed) (gs1 : Bor (List code_goal.Goal)) → o1 ≡ origin.Query q1 gs1 → IsQuery T t.type_vars (reverse (types_at b (map (λ v. v.1) q1.now.vars.items)))
          (goals_of b gs1.now) → goals_strings (goals_of b gs1.now) ≡ 0 →
          (r : Record) → slice_get g 0 ≡ Some r →
          query_ran (home_of T all (t.first + 0) r)
          (run (home_of T all (t.first + 0) r) (λ k e. later_from T all (suc (t.first + 0)) (drop (suc (t.first + 0)) all) k e) (first_state r nothing_captured) r.code.items)
          ≡ Some (record { type_vars = t.type_vars; vars = types_at b (map (λ v. v.1) q1.now.vars.items); body = goals_of b gs1.now })
      unfolding part_done
      first_query q1 gs1 o_is is_query short r at_r =
          let p = first_part r at_r in
          query_told t cl T all parts g std asked few_types part_done placed members captured counts names_below named p.0 r p.1 at_r p.3 p.4 (starts_none p.0 r p.1 at_r p.3) q1 gs1
          (p.2 ∙ o_is) is_query short

      pub query_head : (q1 : Bor query.Typed) (gs1 : Bor (List code_goal.Goal)) → o1 ≡ origin.Query q1 gs1 → (r : Record) → slice_get g 0 ≡ Some r → r.head ≡ None
      query_head q1 gs1 o_is r at_r =
          let p = first_part r at_r in
          let w = (at_place 0 p.0 r p.1 at_r).0.written in
          query_no_head b (constant_function b t.constants.now) w.typed w.fronted w.begun_env w.fronted_env p.0.origin r.head q1 gs1 w.front (p.2 ∙ o_is)
