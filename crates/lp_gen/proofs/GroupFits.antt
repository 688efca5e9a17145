-- A record of a group passes what it may have just where the clause or query says so.
use Rattle.std.proofs.Common.{◌≡◌, ◌∙◌, ◌⊎◌, inl, inr, ⊎_elim, ◌≤◌, ◌<◌, ℕ, zero, suc, ◌+◌, ◌-◌, ◌^◌, List, [], ◌++◌, take, reverse, length, map, false, Option, Some, None, ap, refl, sym, subst, arith}
use Rattle.std.specs.Prelude.{All, is_none, if◌then◌else◌, slice_get, nat_eq, option_map}
use Rattle.std.proofs.lemmas.List.{length-reverse, take_all}
use Rattle.std.proofs.lemmas.List.Elements.{All-nil}
use Rattle.std.proofs.lemmas.Option.{slice_get_within}
use Rattle.lp_lemmas.proofs.Lists.{get_append}
use Rattle.indexmap.specs.IndexMap.{IndexMap, index_map_len}
use Rattle.lp_calculus.specs.Types.{Ty}
use Rattle.lp_term.specs.Nodes.{Nodes, tree, type_tree}
use Rattle.lp_model.specs.Flat.{Goals, Clause, Clauses, clause}
use Rattle.lp_model.specs.Flattened.{goals_of, clause_of}
use Rattle.lp_code.specs.declared.record.Record.{Record}
use Rattle.lp_code.specs.declared.instruction.Instr.{Instr}
use Rattle.lp_code.specs.Symbolic.{Tables as CodeTables}
use Rattle.lp_code.specs.Denote.{home_of}
use Rattle.lp_gen.specs.Steps.{Seen, Around, constant_function}
use Rattle.lp_gen.specs.Registers.{Amount, both, plain_code, nothing, started, Passes, own_types_take, variables_take, head_takes, behind_head, unset_take, with_unset, in_body, start_of, count_given, count_standing, count_variables, goals_take, nothing_around, SomeOfGoals, SomeAssumed}
use Rattle.lp_gen.specs.declared.environment.Variable.{Variable}
use Rattle.lp_gen.specs.declared.plan.Assumption.{Assumption}
use Rattle.lp_gen.specs.declared.plan.Due.{Due}
use Rattle.lp_gen.specs.declared.plan.Part.{Part}
use Rattle.lp_gen.specs.declared.plan.Origin.{Origin}
use Rattle.lp_gen.specs.declared.plan.Origin.TheVariants as origin
use Rattle.lp_gen.specs.declared.tables.Tables.{Tables}
use Rattle.lp_gen.specs.inner.Alike.{SameSeen, IsAlike}
use Rattle.lp_gen.specs.inner.Listing.{around_of, seen}
use Rattle.lp_gen.specs.inner.TermLaw.{AreSet}
use Rattle.lp_gen.specs.inner.Bodies.{new_level}
use Rattle.lp_gen.specs.inner.GoalCode.{numbers, GoalsCode}
use Rattle.lp_gen.specs.inner.Entering.{types_at}
use Rattle.lp_gen.specs.inner.OpenGoals.{goals_steps, plain_goals}
use Rattle.lp_gen.specs.inner.BodyCode.{Suppositions, AreStarts, started_at, AreAllSet, HoldStarts, AssumedBy, records_named, steps_of, next_all, AreNext}
use Rattle.lp_gen.specs.inner.BodyUsing.{block_steps_take}
use Rattle.lp_gen.specs.inner.Recorded.{RecordWritten, own_count, index_types, head_in, front_behind, types_taken, front_takes, start_around, own_around, body_around, record_takes, RecordTakes}
use Rattle.lp_gen.specs.inner.Planned.{clauses_length, GoalsHave, IsAtLevel, AreCaptured, AreOnly}
use Rattle.lp_gen.specs.inner.Planning.{AllCaptured, HoldClauses, AssumptionAt, PartPlanned, AllPlanned, ArePlanned, body_of}
use Rattle.lp_gen.specs.inner.Groups.{IsStartOf, AllWritten, OriginFull}
use Rattle.lp_gen.proofs.Alike.{alike_then, seen_itself, count_same, in_body_same, start_same, standing_same, with_unset_same, goals_same}
use Rattle.lp_gen.proofs.Using.{same_amount}
use Rattle.lp_gen.proofs.BodySteps.{numbers_length}
use Rattle.lp_gen.proofs.CodeMapped.{goals_mapped}
use Rattle.lp_gen.proofs.Filling.{front_takes_same, starts_well, fronted_alike, fronted_level}
use Rattle.lp_gen.proofs.GoalsUsed.{assumption_standing, steps_take_goals}
use Rattle.lp_gen.proofs.GroupParts.{numbers_from, clause_low, written_ends, planned_at, take_at, take_low, clause_amount, SomeInClause, assumed_put, assumed_found}
use Rattle.lp_gen.proofs.GroupTold.{At, written_length, all_at, all_end, supposed, start_at, count_at, clauses_in_place, three, one_only, have_map, there_is, clause_found, no_start, All-at, from_none}
use Rattle.lp_gen.proofs.Keeping.{front_in_body, unset_count}
use Rattle.lp_gen.proofs.OwnPlaces.{index_types_count}
use Rattle.lp_gen.proofs.PartsDone.{clause_at, clause_there, flat_of, same_clause}
use Rattle.lp_gen.proofs.PlanWalked.{extends_same, extends_at, get_behind}
use Rattle.lp_gen.proofs.Reaching.{either_way, Found, goals_found, goals_none}
use Rattle.lp_gen.proofs.RecordNamed as record_of
use Rattle.lp_gen.proofs.Regrouped.{regrouped, regrouped_steps, regrouped_ends, regrouped_plain, regrouped_have, regrouped_pass, pass_regrouped}
use Rattle.lp_gen.proofs.StartsAlike.{started_alike}
use Rattle.lp_gen.proofs.Tops.{clause_is, clauses_many}
use Rattle.lp_gen.proofs.TypeWorks.{map_length}

module _ (S : Type 0) (t : Tables) (o1 : Origin) (us : List Due) (parts : List Part) (k : ℕ) (g : List Record) (starts : List (IndexMap ℕ Variable S)) (plan : ArePlanned o1 us parts t.assumptions.now)
    (w : AllWritten t [] starts (take k parts) g) (low : t.first + length parts < 2 ^ 32) (standing : AllCaptured t.bank.now t.assumptions.now) where
  abbrev b : Nodes
  b = t.bank.now

  abbrev xs : List Assumption
  xs = t.assumptions.now

  abbrev K : ℕ → List Ty → Ty
  K = constant_function t.bank.now t.constants.now

  abbrev v : ℕ
  v = t.type_vars

  abbrev cl : Suppositions
  cl = supposed b xs starts

  abbrev body : Part → Goals
  body p = goals_of b (body_of p.origin)

  hold : HoldClauses b xs cl
  hold n x at = ap (clauses_in_place b) at

  few_due : t.first + length us < 2 ^ 32
  few_due = let z = plan.all in omega (arith, low, z)

  counts : (n : ℕ) (x : Assumption) → slice_get xs n ≡ Some x → clauses_length (cl.clauses n) ≡ x.count
  counts n x found = ap clauses_length (hold n x found) ∙ clauses_many b x.clauses.now ∙ sym (plan.stands.assumed.each n x found).count

  -- as many variables are around assumptions as around their goals
  level : (q d : ℕ) (cs : Clauses) → AssumptionAt b xs t.first q d cs → IsAtLevel t q d cs
  level q d cs (n, x, found, is, first, base) m y found_y first_y some some_cs =
      let s = plan.stands.assumed.each n x found in
      let count_x : clauses_length cs ≡ x.count = ap clauses_length is ∙ clauses_many b x.clauses.now ∙ sym s.count in
      let same_place : n ≡ m = three n m (λ lt. let a = plan.stands.assumed.ordered n m x y lt found found_y in absurd (omega (arith, a, first, first_y, some_cs, count_x)))
      (λ lt. let a = plan.stands.assumed.ordered m n y x lt found_y found in absurd (omega (arith, a, first, first_y, some))) in
      ap (λ (z : Assumption). z.base) (one_only (slice_get xs m) y x found_y (ap (slice_get xs) (sym same_place) ∙ found)) ∙ base

  has_level : (i n m q s : ℕ) (p : Part) → PartPlanned us xs i n m q s p → GoalsHave (IsAtLevel t) (t.first + q) (p.base + own_count p.origin) (body p)
  has_level i n m q s p a =
      have_map (AssumptionAt b xs t.first) (IsAtLevel t) level (t.first + q) (p.base + own_count p.origin) (body p) (a.has b t.first xs (extends_same xs))

  -- what a part starts with, and what its record takes by its goals

  abbrev start_for : Option ℕ → ℕ → Option Seen
  start_for None l = None
  start_for (Some n) l = cl.starts n l

  abbrev count_for : Option ℕ → ℕ
  count_for None = 0
  count_for (Some n) = cl.counts n

  abbrev pub part_start : Part → Around
  part_start p = record { own = []; base = p.base; captured = start_for p.within }

  abbrev pub part_takes : Part → Around → Amount
  part_takes p s =
      both (started (if is_none p.within then 0 else v) (count_given s.captured s.base)) (both (types_taken (is_none p.within) v) (both (front_takes K (own_around b s p.origin) (own_count p.origin) (head_in b p.origin))
      (both (plain_code 1 0) (both (goals_take K v (body_around K b s p.origin) (body p)) (plain_code 1 0)))))

  abbrev pub SomeInBody : Part → Around → Type 0
  SomeInBody p s = SomeOfGoals K v (body_around K b s p.origin) (body p)

  pub record StandsFor (p : Part) (s : Around) : Type 0 where
    pub alike : IsAlike (part_start p) s
    pub count : count_for p.within ≡ count_given s.captured s.base

  -- a map of variables with which a part starts
  abbrev IsMapOf : Part → IndexMap ℕ Variable S → Type 0
  IsMapOf p m = ((l : ℕ) → started_at b m l ≡ start_for p.within l) × (index_map_len m ≡ count_for p.within)

  body_level : (s : Around) (o : Origin) → count_variables (body_around K b s o) ≡ s.base + own_count o
  body_level s o =
      let i = front_in_body K (own_around b s o) (head_in b o) in
      let n = unset_count s (index_types b o) in
      let c = index_types_count b o in
      ap count_variables i ∙ (let z : s.base + length (in_body (with_unset s (index_types b o))).own ≡ s.base + own_count o = omega (arith, n, c) in z)

  taken_as : (P : Amount → Type 0) (i n1 n2 q1 q2 : ℕ) (p : Part) (m : IndexMap ℕ Variable S) (s : Around) → PartPlanned us xs i n1 n2 q1 q2 p → IsMapOf p m → StandsFor p s →
      RecordTakes P t K p (start_around b m p.base) (index_map_len m) → P (part_takes p s)
  taken_as P i n1 n2 q1 q2 p m s planned is x (a, alike, y) = subst P same y
    where
      start : Around
      start = start_around b m p.base

      start_like : IsAlike start s
      start_like = alike_then (record { base = refl; own = tt; captured = λ l. subst (SameSeen (started_at b m l)) (is.0 l) (seen_itself (started_at b m l)) }) x.alike

      own_like : IsAlike (own_around b start p.origin) (own_around b s p.origin)
      own_like = with_unset_same start s (index_types b p.origin) start_like

      front_like : (front_takes K (own_around b start p.origin) (own_count p.origin) (head_in b p.origin) ≡ front_takes K (own_around b s p.origin) (own_count p.origin) (head_in b p.origin)) ×
          IsAlike (front_behind K (own_around b start p.origin) (head_in b p.origin)) (front_behind K (own_around b s p.origin) (head_in b p.origin))
      front_like = front_takes_same K (own_around b start p.origin) (own_around b s p.origin) (own_count p.origin) (head_in b p.origin) own_like

      at_level : count_variables a ≡ p.base + own_count p.origin
      at_level = count_same a (body_around K b start p.origin) alike ∙ body_level start p.origin

      goals_are : block_steps_take b v xs K a [] p.steps.items ≡ goals_take K v (body_around K b s p.origin) (body p)
      goals_are =
          steps_take_goals t K cl (t.first + q1) n1 a (body p) p.steps.items (planned.says b cl hold) (planned.are_next t (extends_same xs) few_due).0
          (subst (λ d. GoalsHave (IsAtLevel t) (t.first + q1) d (body p)) (sym at_level) (has_level i n1 n2 q1 q2 p planned)) hold standing
          (λ n y found. (plan.stands.assumed.each n y found).count)
          ∙ goals_same K v a (body_around K b s p.origin) (body p) (alike_then alike (in_body_same _ _ front_like.1))

      same : both (started (if is_none p.within then 0 else v) (index_map_len m)) (record_takes t K p start a) ≡ part_takes p s
      same =
          (λ j. both (started (if is_none p.within then 0 else v) ((is.1 ∙ x.count) j)) (both (types_taken (is_none p.within) v) (both (front_like.0 j) (both (plain_code 1 0) (both (goals_are j) (plain_code 1 0))))))

  -- a part that is a clause

  part_clause : (p : Part) (s : Around) (c : Clause) → is_none p.within ≡ false → flat_of b p.origin ≡ Some c → (part_takes p s ≡ clause_amount K v s c) × (SomeInBody p s ≡ SomeInClause K v s c)
  part_clause p s c within is = go p.origin is
    where
      go : (o : Origin) → flat_of b o ≡ Some c →
          (both (started (if is_none p.within then 0 else v) (count_given s.captured s.base)) (both (types_taken (is_none p.within) v) (both (front_takes K (own_around b s o) (own_count o) (head_in b o)) (both (plain_code 1 0)
          (both (goals_take K v (body_around K b s o) (goals_of b (body_of o))) (plain_code 1 0))))) ≡ clause_amount K v s c)
          × (SomeOfGoals K v (body_around K b s o) (goals_of b (body_of o)) ≡ SomeInClause K v s c)
      go (origin.Query q gs) e = absurd (no_start c e)
      go (origin.Clause of) e =
          let d : Clause = clause of.now.type_vars (types_at b of.now.vars.items) (tree b of.now.head.0) (goals_of b of.now.body.items) in
          let a = with_unset s (types_at b of.now.vars.items) in
          let h = tree b of.now.head.0 in
          let gs = goals_of b of.now.body.items in
          let n = sym (map_length (λ T. type_tree b T.0) of.now.vars.items) in
          subst (λ c. (both (started (if is_none p.within then 0 else v) (count_given s.captured s.base)) (both (types_taken (is_none p.within) v) (both (front_takes K a (length of.now.vars.items) (Some h))
          (both (plain_code 1 0) (both (goals_take K v (in_body (behind_head K a h)) gs) (plain_code 1 0))))) ≡ clause_amount K v s c) × (SomeOfGoals K v (in_body (behind_head K a h)) gs ≡ SomeInClause K v s c))
          (sym (same_clause d c e)) (
            (λ i. both (started (if within i then 0 else v) (count_given s.captured s.base)) (both (types_taken (within i) v) (both (front_takes K a (n i) (Some h)) (both (plain_code 1 0)
                (both (goals_take K v (in_body (behind_head K a h)) gs) (plain_code 1 0)))))) ∙ grouped (started v (count_given s.captured s.base)) (variables_take (length (types_at b of.now.vars.items))) (head_takes K a h)
                (unset_take (behind_head K a h).own) (both (plain_code 1 0) (both (goals_take K v (in_body (behind_head K a h)) gs) (plain_code 1 0))),
            ap (λ x. SomeOfGoals K v x gs) (front_in_body K a (Some h)),
          )
        where
          grouped : (u x y z r : Amount) → both u (both nothing (both (both x (both y z)) r)) ≡ both u (both x (both y (both z r)))
          grouped u x y z r = same_amount _ _ (omega arith) (omega arith) (omega arith) (omega arith)

  -- assumptions in the code of a part that is written: what their records start with

  Meets : (first : ℕ) → Around → (records levels : List ℕ) → Clauses → Type 0
  Meets first a ns ls cs =
      (n : ℕ) × (x : Assumption) × (slice_get xs n ≡ Some x) × (cs ≡ cl.clauses n) × (ns ≡ records_named t x) ×
      (0 < x.count → (first ≤ t.first + x.first) × (AreSet a → IsAlike (record { own = []; base = x.base; captured = cl.starts n }) (start_of a cs) × (cl.counts n ≡ count_standing a cs)))

  long : (a : Around) (ns ls : List ℕ) (cs : Clauses) → AssumedBy t cl a ns ls cs → length ns ≡ clauses_length cs
  long a ns ls cs (n, x, found, is, names, levels, kept) = ap length names ∙ numbers_length (t.first + x.first) x.count ∙ sym (ap clauses_length is ∙ counts n x found)

  change : (first : ℕ) (a : Around) (q : ℕ) (ns ls : List ℕ) (cs : Clauses) → first ≤ q → ns ≡ numbers q (length ns) → IsAtLevel t q (new_level a) cs → AssumedBy t cl a ns ls cs → Meets first a ns ls cs
  unfolding Meets
  change first a q ns ls cs le numbered at_level (n, x, found, is, names, levels, kept) = (n, x, found, is, names, more)
    where
      more : 0 < x.count → (first ≤ t.first + x.first) × (AreSet a → IsAlike (record { own = []; base = x.base; captured = cl.starts n }) (start_of a cs) × (cl.counts n ≡ count_standing a cs))
      more some =
          let at : t.first + x.first ≡ q = numbers_from (t.first + x.first) q x.count (length ns) (sym names ∙ numbered) some in
          let many : clauses_length cs ≡ x.count = ap clauses_length is ∙ counts n x found in
          let base : x.base ≡ new_level a = at_level n x found at some (omega (arith, many, some)) in
          let so = standing n x found in
          let caught = subst (AreCaptured x) (sym (is ∙ hold n x found)) so.0 in
          let only = subst (AreOnly x) (sym (is ∙ hold n x found)) so.1 in
          let starts2 = subst (λ l. AreStarts a l (cl.starts n) (cl.counts n)) levels kept in (
            omega (arith, at, le),
            λ set. (
              started_alike x cs a (cl.starts n) (cl.counts n) caught only (sym base) set starts2,
              starts2.count_is ∙ assumption_standing a x cs caught only so.2 (λ z. base),
            ),
          )

  module _ (i : ℕ) (p : Part) (r : Record) (z : At S t us xs starts i p r) where
    abbrev w1 : RecordWritten t K p z.captured [] z.more r
    w1 = z.written

    kept_at : HoldStarts b z.more (length z.before) cl
    kept_at j m at =
        let there = extends_at (z.before ++ z.more) starts (length z.before + j) m z.extends (get_behind z.before z.more j m at) in
        (λ l. ap (λ o. start_at b o l) there, ap count_at there)

    none_started : z.captured.entries ≡ [] → (l : ℕ) → started_at b z.captured l ≡ None
    none_started e l = ap (λ es. option_map (seen b) (Rattle.std.specs.Map.lookup (nat_eq l) es)) e

    set_at : AreAllSet b z.captured
    set_at = go p.within refl z.starts_with
      where
        go : (o : Option ℕ) → p.within ≡ o → IsStartOf z.before o z.captured → AreAllSet b z.captured
        go None e x = λ l u at. absurd (no_start u (sym (none_started x l) ∙ at))
        go (Some n) e x = All-at (AreAllSet b) z.before n z.captured z.are_set (x (z.planned.around n e))

    map_at : IsMapOf p z.captured
    map_at = go p.within refl z.starts_with
      where
        go : (o : Option ℕ) → p.within ≡ o → IsStartOf z.before o z.captured → ((l : ℕ) → started_at b z.captured l ≡ start_for o l) × (index_map_len z.captured ≡ count_for o)
        go None e x = (none_started x, ap length x)
        go (Some n) e x =
            let there = extends_at (z.before ++ z.more) starts n z.captured z.extends (get_append z.before z.more n z.captured (x (z.planned.around n e))) in
            (λ l. sym (ap (λ o. start_at b o l) there), sym (ap count_at there))

    pub fits_at : (s : Around) → StandsFor p s → Passes (part_takes p s) → ⊥
    fits_at s x = taken_as (λ m. Passes m → ⊥) i (length z.before) z.m z.q z.s p z.captured s z.planned map_at x (w1.fits set_at z.planned.few)

    abbrev tables : CodeTables
    tables = record { kinds = λ n. None; constants = λ n. None }

    -- the code of the goals
    says : steps_of b cl p.steps.items ≡ goals_steps (regrouped (body p))
    says = z.planned.says b cl hold ∙ sym (regrouped_steps (body p))

    next : AreNext t (t.first + z.q) (length z.before) p.steps.items
    next = (z.planned.are_next t (extends_same xs) few_due).0

    few_steps : p.base + own_count p.origin + length p.steps.items < 2 ^ 64 - 1
    few_steps = let f = z.planned.few in let h = z.planned.short in omega (arith, f, h)

    abbrev around : Around
    around = around_of b w1.fronted_env

    body_set : AreSet around
    body_set =
        record_of.all_set t p z.captured z.more p.origin (home_of tables [] i r) w1 refl set_at cl (t.first + z.q) (length z.before) (regrouped (body p)) kept_at says (regrouped_ends (body p)) next few_steps

    coded : (last : List Instr)
        × GoalsCode (AssumedBy t cl) K v around w1.body.begun.types w1.body.said.types w1.body.begun.registers w1.body.said.registers (t.first + z.q) (next_all t (t.first + z.q) p.steps.items)
        (plain_goals (regrouped (body p))) last
        × (w1.body.said.code.items ≡ w1.body.begun.code.items ++ last)
    coded =
        record_of.coded t p z.captured z.more p.origin (home_of tables [] i r) w1 refl set_at cl (t.first + z.q) (length z.before) (regrouped (body p)) kept_at says (regrouped_ends (body p)) next few_steps

    level_is : new_level around ≡ p.base + own_count p.origin
    level_is =
        fronted_level b K w1.begun_env z.captured p.origin w1.no_own (w1.starts_are b) w1.typed w1.fronted w1.fronted_env r.head w1.front
        (starts_well b K w1.begun_env z.captured p.origin w1.no_own (w1.starts_are b) set_at (let e = w1.base in let f = z.planned.few in omega (arith, e, f)))
        ∙ ap (λ n. n + own_count p.origin) w1.base

    body_alike : (s : Around) → StandsFor p s → IsAlike around (body_around K b s p.origin)
    body_alike s x =
        let first = fronted_alike b K w1.begun_env z.captured p.origin w1.no_own (w1.starts_are b) w1.typed w1.fronted w1.fronted_env r.head w1.front
        (starts_well b K w1.begun_env z.captured p.origin w1.no_own (w1.starts_are b) set_at (let e = w1.base in let f = z.planned.few in omega (arith, e, f))) in
        let is = map_at in
        let start_like : IsAlike (start_around b z.captured w1.begun_env.base) s =
        alike_then (record { base = w1.base; own = tt; captured = λ l. subst (SameSeen (started_at b z.captured l)) (is.0 l) (seen_itself (started_at b z.captured l)) }) x.alike in
        alike_then first (in_body_same _ _ (front_takes_same K _ _ (own_count p.origin) (head_in b p.origin) (with_unset_same (start_around b z.captured w1.begun_env.base) s (index_types b p.origin) start_like)).1)

    goals_met : GoalsCode (Meets (t.first + z.q)) K v around w1.body.begun.types w1.body.said.types w1.body.begun.registers w1.body.said.registers (t.first + z.q) (t.first + z.s) (regrouped (body p)) coded.0
    goals_met =
        subst (λ n. GoalsCode (Meets (t.first + z.q)) K v around w1.body.begun.types w1.body.said.types w1.body.begun.registers w1.body.said.registers (t.first + z.q) n (regrouped (body p)) coded.0)
        (z.planned.are_next t (extends_same xs) few_due).1
        (goals_mapped (AssumedBy t cl) K v long (Meets (t.first + z.q)) (IsAtLevel t) (t.first + z.q) (change (t.first + z.q)) around w1.body.begun.types w1.body.said.types w1.body.begun.registers w1.body.said.registers
        (t.first + z.q) (next_all t (t.first + z.q) p.steps.items) (regrouped (body p)) coded.0 (omega arith)
        (subst (λ d. GoalsHave (IsAtLevel t) (t.first + z.q) d (regrouped (body p))) (sym level_is)
        (regrouped_have (IsAtLevel t) (t.first + z.q) (p.base + own_count p.origin) (body p) (has_level i (length z.before) z.m z.q z.s p z.planned)))
        (subst (λ h. GoalsCode (AssumedBy t cl) K v around w1.body.begun.types w1.body.said.types w1.body.begun.registers w1.body.said.registers (t.first + z.q) (next_all t (t.first + z.q) p.steps.items) h coded.0)
        (regrouped_plain (body p)) coded.1))

  -- the part that is a clause of an assumption
  member : (n : ℕ) (x : Assumption) → slice_get xs n ≡ Some x → (j : ℕ) (c : Clause) → clause_at (cl.clauses n) j ≡ Some c →
      (p : Part) × (slice_get parts (x.first + j) ≡ Some p) × (p.within ≡ Some n) × (p.base ≡ x.base) × (flat_of b p.origin ≡ Some c)
  member n x found j c at =
      let s = plan.stands.assumed.each n x found in
      let d = clause_found b x.clauses.now j c (ap (λ l. clause_at l j) (sym (hold n x found)) ∙ at) in
      let m = s.members j d.0 d.1 in
      let lt = slice_get_within us (x.first + j) m.0 m.1 in
      let p = there_is parts (x.first + j) (let z = plan.all in omega (arith, lt, z)) in
      let u = plan.stands.are (x.first + j) p.0 p.1 in
      let same : u.0 ≡ m.0 = one_only (slice_get us (x.first + j)) u.0 m.0 u.1 m.1 in (
        p.0,
        p.1,
        u.2.1 ∙ ap (λ (y : Due). y.within) same ∙ m.2.3,
        u.2.2 ∙ ap (λ (y : Due). y.base) same ∙ m.2.4,
        ap (flat_of b) (u.2.0 ∙ ap (λ (y : Due). y.origin) same ∙ m.2.2) ∙ ap (λ y. Some y) (sym (clause_is b m.2.0.now) ∙ ap (clause_of b) m.2.1 ∙ d.2),
      )

  member_stands : (n : ℕ) (x : Assumption) (a s : Around) (cs : Clauses) (p : Part) → p.within ≡ Some n → p.base ≡ x.base → IsAlike a s →
      IsAlike (record { own = []; base = x.base; captured = cl.starts n }) (start_of a cs) × (cl.counts n ≡ count_standing a cs) → StandsFor p (start_of s cs)
  member_stands n x a s cs p within base alike is = record {
    alike = alike_then (record { base = base; own = tt; captured = λ l. subst (λ o. SameSeen (start_for o l) (cl.starts n l)) (sym within) (seen_itself (cl.starts n l)) }) (alike_then is.0 (start_same a s cs alike));
    count = ap count_for within ∙ is.1 ∙ standing_same a s cs alike;
  }

  -- the clause or query itself

  abbrev root_amount : Origin → Amount
  root_amount o =
      both (started 0 0) (both (own_types_take v) (both (front_takes K (own_around b nothing_around o) (own_count o) (head_in b o)) (both (plain_code 1 0)
      (both (goals_take K v (body_around K b nothing_around o) (goals_of b (body_of o))) (plain_code 1 0)))))

  abbrev RootFull : Origin → Type 0
  RootFull o = Passes (root_amount o) ⊎ SomeOfGoals K v (body_around K b nothing_around o) (goals_of b (body_of o))

  root_grouped : (u x y z r : Amount) → both (started 0 0) (both u (both (both x (both y z)) r)) ≡ both u (both x (both y (both z r)))
  root_grouped u x y z r = same_amount _ _ (omega arith) (omega arith) (omega arith) (omega arith)

  root_same : (o : Origin) → RootFull o ≡ OriginFull b t.constants.now v o
  root_same (origin.Clause of) =
      let a = with_unset nothing_around (types_at b of.now.vars.items) in
      let h = tree b of.now.head.0 in
      let gs = goals_of b of.now.body.items in
      let n = sym (map_length (λ T. type_tree b T.0) of.now.vars.items) in
      let r = both (plain_code 1 0) (both (goals_take K v (in_body (behind_head K a h)) gs) (plain_code 1 0)) in
      let e = (λ i. both (started 0 0) (both (own_types_take v) (both (front_takes K a (n i) (Some h)) r)))
      ∙ root_grouped (own_types_take v) (variables_take (length (types_at b of.now.vars.items))) (head_takes K a h) (unset_take (behind_head K a h).own) r in
      let f = front_in_body K a (Some h) in
      (λ i. Passes (e i) ⊎ SomeOfGoals K v (f i) gs)
  root_same (origin.Query q body) =
      let us = types_at b (map (λ v. v.1) q.now.vars.items) in
      let a = with_unset nothing_around (reverse us) in
      let gs = goals_of b body.now in
      let n = sym (length-reverse us ∙ map_length (λ T. type_tree b T.0) (map (λ v. v.1) q.now.vars.items) ∙ map_length (λ v. v.1) q.now.vars.items) in
      let r = both (plain_code 1 0) (both (goals_take K v (in_body a) gs) (plain_code 1 0)) in
      let e = (λ i. both (started 0 0) (both (own_types_take v) (both (front_takes K a (n i) None) r)))
      ∙ root_grouped (own_types_take v) (variables_take (length (reverse us))) nothing (unset_take a.own) r
      ∙ same_amount (both (own_types_take v) (both (variables_take (length (reverse us))) (both nothing (both (unset_take a.own) r))))
      (both (own_types_take v) (both (variables_take (length (reverse us))) (both (unset_take a.own) r))) (omega arith) (omega arith) (omega arith) (omega arith) in
      (λ i. Passes (e i) ⊎ SomeOfGoals K v (in_body a) gs)

  root_part : (p : Part) → slice_get parts 0 ≡ Some p → (p.origin ≡ o1) × (p.within ≡ None) × (p.base ≡ 0)
  root_part p at =
      let u = plan.stands.are 0 p at in
      let f = plan.stands.begin in
      let same : u.0 ≡ f.0 = one_only (slice_get us 0) u.0 f.0 u.1 f.1 in
      (u.2.0 ∙ ap (λ (y : Due). y.origin) same ∙ f.2, u.2.1 ∙ ap (λ (y : Due). y.within) same ∙ f.3, u.2.2 ∙ ap (λ (y : Due). y.base) same ∙ f.4)

  root_stands : (p : Part) → slice_get parts 0 ≡ Some p → StandsFor p nothing_around
  root_stands p at =
      let r = root_part p at in
      record {
        alike = record { base = r.2; own = tt; captured = λ l. subst (λ o. SameSeen (start_for o l) None) (sym r.1) tt };
        count = ap count_for r.1;
      }

  root_takes : (p : Part) → slice_get parts 0 ≡ Some p → part_takes p nothing_around ≡ root_amount o1
  root_takes p at =
      let r = root_part p at in
      (λ i. both (started (if is_none (r.1 i) then 0 else v) 0) (both (types_taken (is_none (r.1 i)) v) (both (front_takes K (own_around b nothing_around (r.0 i)) (own_count (r.0 i)) (head_in b (r.0 i))) (both (plain_code 1 0)
      (both (goals_take K v (body_around K b nothing_around (r.0 i)) (goals_of b (body_of (r.0 i)))) (plain_code 1 0))))))

  module _ (Root : Type 0) where
    pub record Reached (p : Part) : Type 0 where
      pub like : Around
      pub stands : StandsFor p like
      pub takes : Passes (part_takes p like) → Root
      pub holds : SomeInBody p like → Root

    reach_next : (i : ℕ) (p : Part) (r : Record) (z : At S t us xs starts i p r) → Reached p → (n : ℕ) → z.q ≤ n → n < z.s → (p2 : Part) → slice_get parts n ≡ Some p2 → Reached p2
    unfolding Meets
    reach_next i p r z x n le lt p2 at = record {
      like = start_of f.like f.clauses_are;
      stands = subst (λ y. StandsFor y (start_of f.like f.clauses_are)) (sym same) (member_stands m.0 m.1 f.around f.like f.clauses_are p3.0 p3.2 p3.3 f.alike ((m.5 some).1 f.set));
      takes = λ y. gives (inl (subst Passes (ap (λ u. part_takes u (start_of f.like f.clauses_are)) same ∙ clause_is2.0) y));
      holds = λ y. gives (inr (subst (λ T. T) (ap (λ u. SomeInBody u (start_of f.like f.clauses_are)) same ∙ clause_is2.1) y));
    }
      where
        f : Found K v (Meets (t.first + z.q)) (t.first + n) (SomeOfGoals K v (body_around K b x.like p.origin) (regrouped (body p)))
        f = goals_found K v (Meets (t.first + z.q)) (t.first + n) (around i p r z) (body_around K b x.like p.origin) (w1 i p r z).body.begun.types (w1 i p r z).body.said.types (w1 i p r z).body.begun.registers
            (w1 i p r z).body.said.registers (t.first + z.q) (t.first + z.s) (regrouped (body p)) (coded i p r z).0 (goals_met i p r z) (body_set i p r z) (body_alike i p r z x.like x.stands) (omega (arith, le)) (omega (arith, lt))

        m : Meets (t.first + z.q) f.around f.names f.levels f.clauses_are
        m = f.holds

        size : length f.names ≡ m.1.count
        size = ap length m.4 ∙ numbers_length (t.first + m.1.first) m.1.count

        some : 0 < m.1.count
        some = let y = f.from in let u = f.below in let l = size in omega (arith, y, u, l)

        first_is : f.next ≡ t.first + m.1.first
        first_is = sym (numbers_from (t.first + m.1.first) f.next m.1.count (length f.names) (sym m.4 ∙ f.numbered) some)

        j : ℕ
        j = n - m.1.first

        back : m.1.first + j ≡ n
        back = let y = f.from in let u = first_is in omega (arith, y, u)

        c : (c : Clause) × (clause_at (cl.clauses m.0) j ≡ Some c)
        c = clause_there (cl.clauses m.0) j (let y = f.from in let u = f.below in let l = size in let h = first_is in let d = counts m.0 m.1 m.2 in omega (arith, y, u, l, h, d))

        p3 : (p : Part) × (slice_get parts (m.1.first + j) ≡ Some p) × (p.within ≡ Some m.0) × (p.base ≡ m.1.base) × (flat_of b p.origin ≡ Some c.0)
        p3 = member m.0 m.1 m.2 j c.0 c.1

        same : p2 ≡ p3.0
        same = one_only (slice_get parts n) p2 p3.0 at (ap (slice_get parts) (sym back) ∙ p3.1)

        clause_is2 : (part_takes p3.0 (start_of f.like f.clauses_are) ≡ clause_amount K v (start_of f.like f.clauses_are) c.0) × (SomeInBody p3.0 (start_of f.like f.clauses_are) ≡ SomeInClause K v (start_of f.like f.clauses_are) c.0)
        clause_is2 = part_clause p3.0 (start_of f.like f.clauses_are) c.0 (ap is_none p3.2) p3.4

        gives : Passes (clause_amount K v (start_of f.like f.clauses_are) c.0) ⊎ SomeInClause K v (start_of f.like f.clauses_are) c.0 → Root
        gives y =
            x.holds (regrouped_pass K v (body_around K b x.like p.origin) (body p) (f.gives (assumed_put K v (start_of f.like f.clauses_are) f.clauses_are j c.0 (ap (λ l. clause_at l j) m.3 ∙ c.1) y)))

    module _ (root : (p : Part) → slice_get parts 0 ≡ Some p → Reached p) where
      abbrev AllReached : ℕ → ℕ → Type 0
      AllReached i q = (n : ℕ) → n < q → (p : Part) → slice_get parts n ≡ Some p → Reached p

      reach_step : (i : ℕ) (p : Part) (r : Record) (z : At S t us xs starts i p r) → slice_get (take k parts) i ≡ Some p → slice_get g i ≡ Some r → AllReached i z.q → AllReached (suc i) z.s
      reach_step i p r z at at_r known n lt p2 at2 =
          either_way n z.q (λ f. known n f p2 at2)
          (λ f. reach_next i p r z (known i z.planned.later p (sym (take_at parts k i (take_low parts k i (slice_get_within (take k parts) i p at))) ∙ at)) n f lt p2 at2)

      pub reached : (n q : ℕ) → AllPlanned us xs 0 0 n 1 q (take k parts) → AllReached (0 + length (take k parts)) q
      reached n q a =
          all_end S t us xs starts (take k parts) g (extends_same xs) few_due AllReached reach_step [] 0 0 n 1 q (take k parts) g a w refl (All-nil (AreAllSet b))
          (λ m lt p at. let none : m ≡ 0 = omega (arith, lt) in root p (sym (ap (slice_get parts) none) ∙ at)) (from_none (take k parts)) (from_none g)

      -- where the next part passes what it may have, so it is
      pub next_passes : (p : Part) (m : IndexMap ℕ Variable S) → slice_get parts k ≡ Some p → IsStartOf starts p.within m →
          (AreAllSet b m → p.base + own_count p.origin ≤ 4294967295 → RecordTakes Passes t K p (start_around b m p.base) (index_map_len m)) → Root
      next_passes p m at start takes = x.takes (taken_as Passes (0 + k) split.0 y.0 split.1 y.1 p m x.like y.2 is x.stands (takes set y.2.few))
        where
          split : (n1 : ℕ) × (q1 : ℕ) × AllPlanned us xs 0 0 n1 1 q1 (take k parts) × ((p : Part) → slice_get parts k ≡ Some p → (n2 : ℕ) × (q2 : ℕ) × PartPlanned us xs (0 + k) n1 n2 q1 q2 p)
          split = planned_at us xs 0 0 (length xs) 1 (length us) parts k plan.stands.planned

          y : (n2 : ℕ) × (q2 : ℕ) × PartPlanned us xs (0 + k) split.0 n2 split.1 q2 p
          y = split.3 p at

          x : Reached p
          x = reached split.0 split.1 split.2 k (let l = y.2.later in omega (arith, l)) p at

          ends : (length starts ≡ split.0) × All (AreAllSet b) starts
          ends = written_ends t us xs (extends_same xs) few_due [] starts 0 0 split.0 1 split.1 (take k parts) g split.2 w refl (All-nil (AreAllSet b))

          none_started2 : m.entries ≡ [] → (l : ℕ) → started_at b m l ≡ None
          none_started2 e l = ap (λ es. option_map (seen b) (Rattle.std.specs.Map.lookup (nat_eq l) es)) e

          there : (n : ℕ) → p.within ≡ Some n → slice_get starts n ≡ Some m
          there n e = let z = y.2.around n e in let u = ends.0 in subst (λ o. IsStartOf starts o m) e start (omega (arith, z, u))

          set : AreAllSet b m
          set = go p.within refl start
            where
              go : (o : Option ℕ) → p.within ≡ o → IsStartOf starts o m → AreAllSet b m
              go None e z = λ l u at. absurd (no_start u (sym (none_started2 z l) ∙ at))
              go (Some n) e z = All-at (AreAllSet b) starts n m ends.1 (there n e)

          is : IsMapOf p m
          is = go p.within refl start
            where
              go : (o : Option ℕ) → p.within ≡ o → IsStartOf starts o m → ((l : ℕ) → started_at b m l ≡ start_for o l) × (index_map_len m ≡ count_for o)
              go None e z = (none_started2 z, ap length z)
              go (Some n) e z = (λ l. sym (ap (λ o. start_at b o l) (there n e)), sym (ap count_at (there n e)))

  pub group_full : (p : Part) (m : IndexMap ℕ Variable S) → slice_get parts k ≡ Some p → IsStartOf starts p.within m →
      (AreAllSet b m → p.base + own_count p.origin ≤ 4294967295 → RecordTakes Passes t K p (start_around b m p.base) (index_map_len m)) → OriginFull b t.constants.now v o1
  group_full p m at start takes = next_passes (OriginFull b t.constants.now v o1) root p m at start takes
    where
      root : (p : Part) → slice_get parts 0 ≡ Some p → Reached (OriginFull b t.constants.now v o1) p
      root p at = record {
        like = nothing_around;
        stands = root_stands p at;
        takes = λ y. subst (λ T. T) (root_same o1) (inl (subst Passes (root_takes p at) y));
        holds = λ y. subst (λ T. T) (root_same o1) (inr (subst (λ o. SomeOfGoals K v (body_around K b nothing_around o) (goals_of b (body_of o))) (root_part p at).0 y));
      }

  -- where all parts are written, none passes

  module _ (all : k ≡ length parts) where
    whole : take k parts ≡ parts
    whole = take_all k parts (omega (arith, all))

    at_part : (i : ℕ) (p : Part) → slice_get parts i ≡ Some p → (r : Record) × At S t us xs starts i p r
    at_part i p at =
        let ps_w = subst (λ l. AllWritten t [] starts l g) whole w in
        let r = there_is g i (let z = slice_get_within parts i p at in let y = written_length t [] starts parts g ps_w in omega (arith, z, y)) in
        let zero_more : 0 + i ≡ i = omega arith in (
          r.0,
          subst (λ j. At S t us xs starts j p r.0) zero_more (all_at S t us xs starts parts g (extends_same xs) few_due (λ j q. Unit {0}) (λ j y u z e f known. tt) [] 0 0 (length xs) 1 (length us) parts g
              plan.stands.planned ps_w refl (All-nil (AreAllSet b)) tt (from_none parts) (from_none g) i p r.0 at r.1).0,
        )

    pub none_passes : (d i : ℕ) → length parts ≤ i + d → (p : Part) → slice_get parts i ≡ Some p → (s : Around) → StandsFor p s → (Passes (part_takes p s) → ⊥) × (SomeInBody p s → ⊥)
    unfolding Meets
    none_passes zero i past p at s x = let z = slice_get_within parts i p at in absurd (omega (arith, z, past))
    none_passes (suc d) i past p at s x = (
      fits_at i p r z s x,
      λ y. goals_none K v (Meets (t.first + z.q)) ⊥ (each (λ j le p2 at2. none_passes d j (omega (arith, past, le)) p2 at2)) (around i p r z)
          (body_around K b s p.origin) (w1 i p r z).body.begun.types (w1 i p r z).body.said.types
          (w1 i p r z).body.begun.registers (w1 i p r z).body.said.registers (t.first + z.q) (t.first + z.s) (regrouped (body p)) (coded i p r z).0 (goals_met i p r z) (body_set i p r z) (body_alike i p r z s x)
          (pass_regrouped K v (body_around K b s p.origin) (body p) y),
    )
      where
        r : Record
        r = (at_part i p at).0

        z : At S t us xs starts i p r
        z = (at_part i p at).1

        each : ((j : ℕ) → suc i ≤ j → (p2 : Part) → slice_get parts j ≡ Some p2 → (s2 : Around) → StandsFor p2 s2 → (Passes (part_takes p2 s2) → ⊥) × (SomeInBody p2 s2 → ⊥)) →
            (a s2 : Around) (ns ls : List ℕ) (cs : Clauses) → Meets (t.first + z.q) a ns ls cs → AreSet a → IsAlike a s2 → SomeAssumed K v (start_of s2 cs) cs → ⊥
        each rest a s2 ns ls cs (n, y, found, is, names, more) set alike u =
            let h = assumed_found K v (start_of s2 cs) cs u in
            let c = member n y found h.0 h.1 (ap (λ l. clause_at l h.0) (sym is) ∙ h.2) in
            let some : 0 < y.count = (let lt = clause_low cs h.0 h.1 h.2 in let many = ap clauses_length is ∙ counts n y found in omega (arith, lt, many)) in
            let more2 = more some in
            let low2 = more2.0 in
            let later = z.planned.later in
            let q = part_clause c.0 (start_of s2 cs) h.1 (ap is_none c.2) c.4 in
            let o = rest (y.first + h.0) (omega (arith, low2, later)) c.0 c.1 (start_of s2 cs) (member_stands n y a s2 cs c.0 c.2 c.3 alike (more2.1 set)) in
            ⊎_elim (λ e. o.0 (subst Passes (sym q.0) e)) (λ e. o.1 (subst (λ T. T) (sym q.1) e)) h.3

    pub group_fits : OriginFull b t.constants.now v o1 → ⊥
    group_fits x = go (subst (λ T. T) (sym (root_same o1)) x)
      where
        p : (p : Part) × (slice_get parts 0 ≡ Some p)
        p = there_is parts 0 (let z = slice_get_within us 0 plan.stands.begin.0 plan.stands.begin.1 in let y = plan.all in omega (arith, z, y))

        none : (Passes (part_takes p.0 nothing_around) → ⊥) × (SomeInBody p.0 nothing_around → ⊥)
        none = none_passes (length parts) 0 (omega arith) p.0 p.1 nothing_around (root_stands p.0 p.1)

        go : RootFull o1 → ⊥
        go (inl y) = none.0 (subst Passes (sym (root_takes p.0 p.1)) y)
        go (inr y) = none.1 (subst (λ o. SomeOfGoals K v (body_around K b nothing_around o) (goals_of b (body_of o))) (sym (root_part p.0 p.1).0) y)
