-- The records of assumptions denote their clauses, each by those behind it.
use Rattle.std.proofs.Common.{◌≡◌, ◌∙◌, ⊎_elim, ◌≤◌, ◌<◌, ℕ, zero, suc, ◌+◌, ◌-◌, ◌^◌, List, [], ◌∷◌, ◌++◌, length, map, drop, reverse, Bor, Bool, true, false, Option, Some, None, ap, refl, sym, subst, arith, true≢false}
use Rattle.std.specs.Prelude.{nat_le, if◌then◌else◌, not, ◌&&◌, All, is_none, slice_get, option_map, option_and_then}
use Rattle.std.proofs.lemmas.Bool.{eq-eqb, le-ltb}
use Rattle.indexmap.specs.IndexMap.{index_map_len}
use Rattle.lp_calculus.specs.Types.{Ty, var}
use Rattle.lp_calculus.specs.Term.{Term}
use Rattle.lp_standard.specs.Schemes.{IsStandard}
use Rattle.lp_term.specs.Nodes.{tree, type_tree}
use Rattle.std.proofs.lemmas.List.{append-nil}
use Rattle.std.proofs.lemmas.List.Elements.{All-nil}
use Rattle.lp_model.specs.Flat.{Goal, Goals, Clause, Clauses, Atomic, Cut, Either, Exists, Forall, Assume, Not, no_goals, goals, clause, no_clauses, clauses, add_clauses, assuming, denied}
use Rattle.lp_code.specs.Written.{written_goal, written_goals, written_clauses}
use Rattle.lp_model.specs.Flattened.{goals_of}
use Rattle.lp_model.specs.declared.clause.Clause as code
use Rattle.lp_model.specs.declared.clause.Goal as code_goal
use Rattle.lp_model.specs.declared.program.Typed as query
use Rattle.lp_code.specs.declared.record.Record.{Record}
use Rattle.lp_code.specs.Symbolic.{Tables as CodeTables, variable}
use Rattle.lp_code.specs.States.{Captured, Home, member}
use Rattle.lp_code.specs.Steps.{Later, clauses_of_records}
use Rattle.lp_code.specs.Rules.{nesting_limit, named_before, is_assumed_record}
use Rattle.lp_code.specs.Denote.{from_zero, first_state, home_of, later_from, nothing_captured, run, query_ran}
use Rattle.lp_gen.specs.Limits.{goals_strings, clauses_strings}
use Rattle.lp_gen.specs.Sources.{IsClause, IsQuery, Under, AreGoals, IsKnownType, goals_depth, clauses_depth}
use Rattle.lp_gen.specs.declared.plan.Assumption.{Assumption}
use Rattle.lp_gen.specs.declared.plan.Part.{Part}
use Rattle.lp_gen.specs.declared.plan.Origin.TheVariants as origin
use Rattle.lp_gen.specs.declared.tables.Tables.{Tables}
use Rattle.lp_gen.specs.Steps.{Seen, Around, at_level, level_in, constant_function}
use Rattle.lp_gen.specs.inner.TermLaw.{IsSeen, AllLoose}
use Rattle.lp_gen.specs.inner.Written.{AreAsked}
use Rattle.lp_gen.specs.inner.Bodies.{new_level, IsShort, bare_clauses, said_clauses, AreThrough}
use Rattle.lp_gen.specs.inner.GoalCode.{numbers}
use Rattle.lp_gen.specs.inner.Entering.{types_at}
use Rattle.lp_gen.specs.inner.OpenGoals.{goals_steps, EndsGoals}
use Rattle.lp_gen.specs.inner.BodyCode.{Suppositions, AreStarts, started_at, levels_found, steps_of}
use Rattle.lp_gen.specs.inner.BodyLaw.{more_of, ClausesFit, GoalsFit, AreBelow, AreAlls, AreLater, StartWith}
use Rattle.lp_gen.specs.inner.Planned.{clauses_length, goal_records, goals_records, level_behind, GoalHas, GoalsHave, IsWritten, AreWritten, IsAtLevel, IsAssumption, NamedBy, AreNamed, IsCaptured, AreCaptured}
use Rattle.lp_gen.specs.inner.Recorded.{own_count}
use Rattle.lp_gen.specs.inner.Planning.{body_of}
use Rattle.lp_gen.proofs.BodySaid.{TellClauses}
use Rattle.lp_gen.proofs.FitsOf.{clauses_joined, clauses_home, clauses_fit, goals_fit, goals_end, goals_loose, all_hold}
use Rattle.lp_gen.proofs.TypeWorks.{map_length}
use Rattle.lp_gen.proofs.OwnPlaces.{index_types_count}
use Rattle.lp_gen.proofs.StartsPut.{starts_begin}
use Rattle.lp_gen.proofs.RecordDenoted.{NoIndex}
use Rattle.lp_gen.proofs.BodyParts.{goals_through, loose_at}
use Rattle.lp_gen.proofs.RecordBegins.{Outside, level_from, more_at}
use Rattle.lp_gen.proofs.ClauseRecords as record_of
use Rattle.lp_gen.proofs.WrittenTypes.{starts_as}
use Rattle.lp_gen.proofs.PartsDone.{no_record, told_at, later_told, clause_at, PartDone, flat_of, IsMember, clause_origin, same_clause, clause_there, all_numbers, bare_split, said_split, fit_first, through_first, depth_first}

module _ {S : Type 0} (t : Tables) (cl : Suppositions) (T : CodeTables) (all : List Record) (parts : List Part) (records : List Record) (std : IsStandard T.constants)
    (asked : (m : ℕ) (r : Record) → AreAsked (home_of T all m r) (constant_function t.bank.now t.constants.now)) (few_types : t.type_vars ≤ 65535)
    (done : (i : ℕ) (p : Part) (r : Record) → slice_get parts i ≡ Some p → slice_get records i ≡ Some r → PartDone S t cl p (t.first + i) r)
    (placed : (i : ℕ) (r : Record) → slice_get records i ≡ Some r → slice_get all (t.first + i) ≡ Some r)
    (members : (n : ℕ) (x : Assumption) → slice_get t.assumptions.now n ≡ Some x → (j : ℕ) (c : Clause) → clause_at (cl.clauses n) j ≡ Some c → IsMember t parts records n x j c)
    (captured : (n : ℕ) (x : Assumption) → slice_get t.assumptions.now n ≡ Some x → AreCaptured x (cl.clauses n))
    (counts : (n : ℕ) (x : Assumption) → slice_get t.assumptions.now n ≡ Some x → clauses_length (cl.clauses n) ≡ x.count)
    (names_below : (i : ℕ) (p : Part) (r : Record) (a : slice_get parts i ≡ Some p) (b : slice_get records i ≡ Some r) (m : ℕ) → member m
    (named_before (t.first + i) all) ≡ true → m < (done i p r a b).next)
    (named : (i : ℕ) (p : Part) (n : ℕ) → slice_get parts i ≡ Some p → p.within ≡ Some n → member (t.first + i) (named_before (t.first + i) all) ≡ true) where
  abbrev Told : ℕ → Type 1
  Told i =
      (p : Part) (r : Record) → slice_get parts i ≡ Some p → slice_get records i ≡ Some r → (n : ℕ) (x : Assumption) → p.within ≡ Some n → slice_get t.assumptions.now n ≡ Some x → p.base ≡ x.base →
      (c : Clause) → flat_of t.bank.now p.origin ≡ Some c → (A : Around) (σ : ℕ → Term) (Γ : List Ty) (B : List Bool) (Q : ℕ → Type 0) (c0 : Captured) → IsShort A → new_level A ≡ x.base →
      AreStarts A (levels_found A x.captured.keys) (cl.starts n) (cl.counts n) → ClausesFit (home_of T all (t.first + i) r) t.type_vars Γ B Q
      (clauses c no_clauses) → AreCaptured x (clauses c no_clauses) →
      ((j : ℕ) → Q j → IsSeen A Γ j) → ((j : ℕ) (U : Ty) → slice_get Γ j ≡ Some U → IsKnownType T.kinds t.type_vars U) →
      ((l : ℕ) (v : Seen) → at_level A l ≡ Some v → IsKnownType T.kinds t.type_vars v.of) →
      clauses_depth (clauses c no_clauses) ≤ nesting_limit → AreAlls (home_of T all (t.first + i) r) σ A B →
      ((j l : ℕ) → level_in A j ≡ Some l → (y : ℕ) × (k : ℕ) × (σ l ≡ variable y k) × (k < t.first + i)) → c0.types ≡ map var (from_zero t.type_vars)
      → StartWith σ A (levels_found A x.captured.keys) c0.terms →
      (d : Clause) × (told_at T all (t.first + i) r c0 ≡ Some d) × (bare_clauses (clauses d no_clauses) ≡ said_clauses σ A 0 (clauses c no_clauses))

  -- what a record may assume
  tells : (i : ℕ) (r : Record) → ((j : ℕ) → i < j → Told j) →
      TellClauses (home_of T all (t.first + i) r) (λ k e. later_from T all (suc (t.first + i)) (drop (suc (t.first + i)) all) k e) t.type_vars (AreNamed t cl (suc (t.first + i)))
  tells i r told a ns ls cs are σ Γ B Q c short fit seen known levels depth alls outer types start = ⊎_elim empty some are
    where
      h : Home
      h = home_of T all (t.first + i) r

      later : Later
      later = λ k e. later_from T all (suc (t.first + i)) (drop (suc (t.first + i)) all) k e

      Result : Type 0
      Result = (ds : Clauses) × (clauses_of_records later ns c ≡ Some ds) × (bare_clauses ds ≡ said_clauses σ a 0 cs)

      empty : (ns ≡ []) × (cs ≡ no_clauses) → Result
      empty (e, f) = (no_clauses, ap (λ l. clauses_of_records later l c) e, ap (said_clauses σ a 0) (sym f))

      each : (n : ℕ) (x : Assumption) (y : NamedBy t cl (suc (t.first + i)) a ns ls cs n x) (j : ℕ) (ds : Clauses) →
          ((k : ℕ) (d : Clause) → clause_at ds k ≡ Some d → clause_at (cl.clauses n) (j + k) ≡ Some d) → ClausesFit h t.type_vars Γ B Q ds →
          AreCaptured x ds → clauses_depth ds ≤ nesting_limit →
          (es : Clauses) × (clauses_of_records later (numbers (t.first + (x.first + j)) (clauses_length ds)) c ≡ Some es) × (bare_clauses es ≡ said_clauses σ a 0 ds)
      each n x y j no_clauses at fits within deep = (no_clauses, refl, refl)
      each n x y j (clauses d ds) at fits within deep =
          let here = at 0 d refl in
          let m = members n x y.found j d (let z : j + 0 ≡ j = omega arith in ap (clause_at (cl.clauses n)) (sym z) ∙ here) in
          let low = y.later in
          let f = fit_first h t.type_vars Γ B Q d ds fits in
          let g = through_first (AllLoose (IsCaptured x)) 0 d ds within in
          let e = depth_first d ds nesting_limit deep in
          let number = t.first + (x.first + j) in
          let one = told (x.first + j) (omega (arith, low)) m.part m.record_is m.part_at m.record_at n x m.within y.found m.base d m.flat a σ Γ B Q c
          short y.base (subst (λ l. AreStarts a l (cl.starts n) (cl.counts n)) y.levels y.starts)
          (clauses_home T all (t.first + i) (t.first + (x.first + j)) r m.record_is t.type_vars Γ B Q (clauses d no_clauses) f.0) g.0 seen known levels e.0 alls
          (λ k l q. let w = outer k l q in let less = w.3 in (w.0, w.1, w.2, omega (arith, less, low))) types (subst (λ l. StartWith σ a l c.terms) y.levels start) in
          let rest = each n x y (suc j) ds (λ k b q. let z : j + suc k ≡ suc j + k = omega arith in ap (clause_at (cl.clauses n)) (sym z) ∙ at (suc k) b q) f.1 g.1 e.1 in
          let next : suc number ≡ t.first + (x.first + suc j) = omega arith in
          let told_here : later number c ≡ Some one.0 = later_told T all (suc (t.first + i)) number m.record_is c (omega (arith, low)) (placed (x.first + j) m.record_is m.record_at) ∙ one.1 in (
            clauses one.0 rest.0,
            ap (option_and_then (λ d. option_map (clauses d) (clauses_of_records later (numbers (suc number) (clauses_length ds)) c))) told_here
                ∙ ap (option_map (clauses one.0)) (ap (λ k. clauses_of_records later (numbers k (clauses_length ds)) c) next ∙ rest.1),
            bare_split one.0 rest.0 ∙ (λ k. add_clauses (one.2 k) (rest.2 k)) ∙ sym (said_split σ a d ds),
          )

      some : (n : ℕ) × (x : Assumption) × NamedBy t cl (suc (t.first + i)) a ns ls cs n x → Result
      some (n, x, y) =
          let all_captured : AreCaptured x cs = subst (AreCaptured x) (sym y.clauses_are) (captured n x y.found) in
          let w = each n x y 0 cs (λ k d q. let z : k ≡ 0 + k = omega arith in ap (clause_at (cl.clauses n)) (sym z) ∙ ap (λ l. clause_at l k) (sym y.clauses_are) ∙ q) fit all_captured depth in
          let many = y.count in
          let names : ns ≡ numbers (t.first + (x.first + 0)) (clauses_length cs) = y.names ∙ (let z : t.first + x.first ≡ t.first + (x.first + 0) = omega arith in (λ k. numbers (z k) (sym many k))) in
          (w.0, ap (λ l. clauses_of_records later l c) names ∙ w.1, w.2)

  -- records that an assumption may name
  are_later : (i : ℕ) (r : Record) (a : Around) (ns ls : List ℕ) (cs : Clauses) → AreNamed t cl (suc (t.first + i)) a ns ls cs → AreLater (home_of T all (t.first + i) r) t.type_vars (length ls) ns
  are_later i r a ns ls cs are = ⊎_elim empty some are
    where
      h : Home
      h = home_of T all (t.first + i) r

      Later_one : ℕ → Type 0
      Later_one m = (t.first + i < m) × (is_assumed_record (slice_get all m) t.type_vars (length ls) ≡ true)

      empty : (ns ≡ []) × (cs ≡ no_clauses) → All Later_one ns
      empty (e, f) = subst (All Later_one) (sym e) (All-nil Later_one)

      some : (n : ℕ) × (x : Assumption) × NamedBy t cl (suc (t.first + i)) a ns ls cs n x → All Later_one ns
      some (n, x, y) = subst (All Later_one) (sym y.names) (all_numbers Later_one (t.first + x.first) x.count one)
        where
          one : (j : ℕ) → j < x.count → Later_one (t.first + x.first + j)
          one j low =
              let many = counts n x y.found in
              let c = clause_there (cl.clauses n) j (omega (arith, low, many)) in
              let m = members n x y.found j c.0 c.1 in
              let d = done (x.first + j) m.part m.record_is m.part_at m.record_at in
              let later = y.later in
              let same : t.first + x.first + j ≡ t.first + (x.first + j) = omega arith in
              let no_program : m.record_is.program ≡ false = d.written.is_program ∙ ap is_none m.within in
              let types : m.record_is.captured_types ≡ t.type_vars = d.written.captured_types ∙ ap (λ o. if is_none o then 0 else t.type_vars) m.within in
              let terms : m.record_is.captured ≡ length ls = d.written.captured_are ∙ sym (d.starts_are n m.within).1 ∙ y.starts.count_is in (
                omega (arith, later),
                ap (λ o. is_assumed_record o t.type_vars (length ls)) (ap (slice_get all) same ∙ placed (x.first + j) m.record_is m.record_at)
                    ∙ (λ k. (not (no_program k) && eq-eqb m.record_is.captured_types t.type_vars types k) && eq-eqb m.record_is.captured (length ls) terms k),
              )

  -- an assumed record denotes its clause, if those behind it do
  told_one : (i : ℕ) → ((j : ℕ) → i < j → Told j) → Told i
  told_one i told p r at at_r n x within found base c flat A σ Γ B Q c0 short level starts fit within_x seen known levels depth alls earlier types
      start = (result.0, result.1, result.2 ∙ ap (λ e. said_clauses σ A 0 (clauses e no_clauses)) (none_own ∙ sym c_is))
    where
      d : PartDone S t cl p (t.first + i) r
      d = done i p r at at_r

      h : Home
      h = home_of T all (t.first + i) r

      later : Later
      later = λ k e. later_from T all (suc (t.first + i)) (drop (suc (t.first + i)) all) k e

      root : (of : Bor code.Clause) × (p.origin ≡ origin.Clause of)
      root = clause_origin t.bank.now p.origin c flat

      of : code.Clause
      of = root.0.now

      Ts : List Ty
      Ts = types_at t.bank.now of.vars.items

      gs : Goals
      gs = goals_of t.bank.now of.body.items

      body : goals_of t.bank.now (body_of p.origin) ≡ gs
      body = ap (λ o. goals_of t.bank.now (body_of o)) root.1

      count : own_count p.origin ≡ length Ts
      count = ap own_count root.1 ∙ sym (map_length (λ i. type_tree t.bank.now i.0) of.vars.items)

      whole_clause : Clause
      whole_clause = clause of.type_vars Ts (tree t.bank.now of.head.0) gs

      c_is : c ≡ whole_clause
      c_is = same_clause whole_clause c (sym (ap (flat_of t.bank.now) root.1) ∙ flat)

      Q' : ℕ → Type 0
      Q' j = Q j × IsCaptured x j

      fits : ClausesFit h t.type_vars Γ B Q' (clauses whole_clause no_clauses)
      fits =
          clauses_joined h t.type_vars (IsCaptured x) Q Q' Γ B 0 (clauses whole_clause no_clauses) (λ j q k. (q, let z : j - 0 ≡ j = omega arith in subst (IsCaptured x) z (k (omega arith))))
          (subst (λ e. ClausesFit h t.type_vars Γ B Q (clauses e no_clauses)) c_is fit) (subst (λ e. AreCaptured x (clauses e no_clauses)) c_is within_x)

      -- it has no type variables of its own
      none_own : clause 0 Ts (tree t.bank.now of.head.0) gs ≡ whole_clause
      none_own = ap (λ k. clause k Ts (tree t.bank.now of.head.0) gs) (sym fits.0)

      program : is_none p.within ≡ false
      program = ap is_none within

      out : Outside h t.type_vars σ Γ B A Q' x.captured.keys
      out = record {
        short = short;
        seen = λ j q. seen j q.0;
        captured = λ j l q e.
            let w = level_from A j l short e in
            let low = w.0 in
            let is = w.1 in
            let z : x.base - j - 1 ≡ l = omega (arith, low, is, level) in
            ap (λ k. member k x.captured.keys) (sym z) ∙ q.1 (omega (arith, low, level));
        known = known;
        levels = levels;
        alls = alls;
        earlier = earlier;
      }

      part_base : p.base ≡ new_level A
      part_base = base ∙ sym level

      given : AreStarts A (levels_found A x.captured.keys) (started_at t.bank.now d.captured) (index_map_len d.captured)
      given =
          let s = d.starts_are n within in
          starts_as A (levels_found A x.captured.keys) (cl.starts n) (started_at t.bank.now d.captured) (cl.counts n) (index_map_len d.captured) (λ l. sym (s.0 l)) (sym s.1) starts

      low : new_level A + length Ts < 2 ^ 64 - 1
      low = let e = part_base in let f = d.short in let n = count in omega (arith, e, f, n)

      few : new_level A + length Ts + length p.steps.items < 2 ^ 64 - 1
      few = let e = part_base in let f = d.few in let n = count in omega (arith, e, f, n)

      has : GoalsHave (IsAtLevel t) d.next (new_level A + length Ts) gs
      has = subst (λ g. GoalsHave (IsAtLevel t) d.next (new_level A + length Ts) g) body (subst (λ n. GoalsHave (IsAtLevel t) d.next (new_level A + n) (goals_of t.bank.now (body_of p.origin))) count
          (subst (λ k. GoalsHave (IsAtLevel t) d.next (k + own_count p.origin) (goals_of t.bank.now (body_of p.origin))) part_base d.has))

      steps : steps_of t.bank.now cl p.steps.items ≡ goals_steps gs
      steps = subst (λ g. steps_of t.bank.now cl p.steps.items ≡ goals_steps g) body d.steps

      le : suc (t.first + i) ≤ d.next
      le = let e = d.later in omega (arith, e)

      nest : goals_depth gs ≤ nesting_limit
      nest = let e = subst (λ e. clauses_depth (clauses e no_clauses) ≤ nesting_limit) c_is depth in omega (arith, e)

      below : AreBelow d.next h []
      below m e = names_below i p r at at_r m (sym (ap (member m) (append-nil (named_before (t.first + i) all))) ∙ e)

      self : slice_get h.records h.number ≡ Some h.self
      self = placed i r at_r

      result : (e : Clause) × (told_at T all (t.first + i) r c0 ≡ Some e) × (bare_clauses (clauses e no_clauses) ≡ said_clauses σ A 0
          (clauses (clause 0 Ts (tree t.bank.now of.head.0) gs) no_clauses))
      result =
          record_of.assumed_denoted t p d.captured d.starts (origin.Clause root.0) h d.written root.1 σ Γ B A Q' x.captured.keys out part_base given low cl d.next
          d.first gs d.kept steps fits.4 d.are_next few (suc (t.first + i)) le has counts std
          (asked (t.first + i) r) fits.1 below fits.3 nest c0.terms start root.0 refl fits.2 program (named i p n at within) few_types later c0 types refl self (are_later i r) (tells i r told)

  -- all of them
  within_records : (i : ℕ) (r : Record) → slice_get records i ≡ Some r → i < length records
  within_records i r = go records i
    where
      go : (rs : List Record) (i : ℕ) → slice_get rs i ≡ Some r → i < length rs
      go [] i e = absurd (no_record r e)
      go (s ∷ ss) zero e = omega arith
      go (s ∷ ss) (suc i) e = let z = go ss i e in omega (arith, z)

  all_told : (k i : ℕ) → length records ≤ i + k → Told i
  all_told zero i le = λ p r at at_r. let z = within_records i r at_r in absurd (omega (arith, z, le))
  all_told (suc k) i le = told_one i (λ j lt. all_told k j (omega (arith, le, lt)))

  pub tell_all : (i : ℕ) (r : Record) → TellClauses (home_of T all (t.first + i) r)
      (λ k e. later_from T all (suc (t.first + i)) (drop (suc (t.first + i)) all) k e) t.type_vars (AreNamed t cl (suc (t.first + i)))
  tell_all i r = tells i r (λ j lt. all_told (length records) j (omega arith))

  -- what is written in goals is what stands there

  abbrev pub WrittenFrom : ℕ → Type 0
  WrittenFrom i = (n : ℕ) (x : Assumption) → slice_get t.assumptions.now n ≡ Some x → i < x.first → written_clauses (cl.clauses n) ≡ cl.clauses n

  mutual
    goal_written : (i q d : ℕ) (g : Goal) → suc (t.first + i) ≤ q → IsWritten g → GoalHas (IsAssumption t cl) q d g → WrittenFrom i → written_goal g ≡ g
    goal_written i q d (Atomic u) le x y f = refl
    goal_written i q d Cut le x y f = refl
    goal_written i q d (Either gs hs) le x y f = λ k. Either (goals_written i q d gs le x.0 y.0 f k) (goals_written i (q + goals_records gs) d hs (omega (arith, le)) x.1 y.1 f k)
    goal_written i q d (Exists U gs) le x y f = ap (Exists U) (goals_written i q (suc d) gs le x y f)
    goal_written i q d (Forall U gs) le x y f = ap (Forall U) (goals_written i q (suc d) gs le x y f)
    goal_written i q d (Assume w cs gs) le x y f =
        let a = y.0 in
        let at = a.4 in
        let same : written_clauses cs ≡ cs = ap written_clauses a.3 ∙ f a.0 a.1 a.2 (omega (arith, at, le)) ∙ sym a.3 in
        (λ k. assuming (same k) (goals_written i (q + clauses_length cs) d gs (omega (arith, le)) x.1 y.1 f k)) ∙ sym x.0
    goal_written i q d (Not w gs) le x y f = ap denied (goals_written i q d gs le x.1 y f) ∙ sym x.0

    goals_written : (i q d : ℕ) (gs : Goals) → suc (t.first + i) ≤ q → AreWritten gs → GoalsHave (IsAssumption t cl) q d gs → WrittenFrom i → written_goals gs ≡ gs
    goals_written i q d no_goals le x y f = refl
    goals_written i q d (goals g gs) le x y f = λ k. goals (goal_written i q d g le x.0 y.0 f k) (goals_written i (q + goal_records g) (level_behind d g) gs (omega (arith, le)) x.1 y.1 f k)

  clauses_written : (n : ℕ) (x : Assumption) → slice_get t.assumptions.now n ≡ Some x →
      ((j : ℕ) (c : Clause) → clause_at (cl.clauses n) j ≡ Some c → written_clauses (clauses c no_clauses) ≡ clauses c no_clauses) →
      written_clauses (cl.clauses n) ≡ cl.clauses n
  clauses_written n x found f = go (cl.clauses n) f
    where
      go : (cs : Clauses) → ((j : ℕ) (c : Clause) → clause_at cs j ≡ Some c → written_clauses (clauses c no_clauses) ≡ clauses c no_clauses) → written_clauses cs ≡ cs
      go no_clauses f = refl
      go (clauses (clause m vs h b) cs) f = λ k. add_clauses (f 0 (clause m vs h b) refl k) (go cs (λ j c e. f (suc j) c e) k)

  all_written : (k i : ℕ) → length records ≤ i + k → WrittenFrom i
  all_written zero i le n x found low =
      clauses_written n x found (λ j c e.
      let m = members n x found j c e in
      let z = within_records (x.first + j) m.record_is m.record_at in
      absurd (omega (arith, z, le, low)))
  all_written (suc k) i le n x found low =
      clauses_written n x found (λ j c e.
      let m = members n x found j c e in
      let d = done (x.first + j) m.part m.record_is m.part_at m.record_at in
      let later = d.later in
      let root = clause_origin t.bank.now m.part.origin c m.flat in
      let of : code.Clause = root.0.now in
      let is = same_clause (clause of.type_vars (types_at t.bank.now of.vars.items) (tree t.bank.now of.head.0) (goals_of t.bank.now of.body.items)) c
      (sym (ap (flat_of t.bank.now) root.1) ∙ m.flat) in
      let body = subst (λ g. written_goals g ≡ g) (ap (λ o. goals_of t.bank.now (body_of o)) root.1)
      (goals_written (x.first + j) d.next (m.part.base + own_count m.part.origin) (goals_of t.bank.now (body_of m.part.origin)) (omega (arith, later)) d.well d.has_clauses
      (all_written k (x.first + j) (omega (arith, le, low)))) in
      subst (λ e. written_clauses (clauses e no_clauses) ≡ clauses e no_clauses) (sym is)
      (λ k. clauses (clause of.type_vars (types_at t.bank.now of.vars.items) (tree t.bank.now of.head.0) (body k)) no_clauses))

  pub body_written : (i : ℕ) (p : Part) (r : Record) (at : slice_get parts i ≡ Some p) (at_r : slice_get records i ≡ Some r) →
      written_goals (goals_of t.bank.now (body_of p.origin)) ≡ goals_of t.bank.now (body_of p.origin)
  body_written i p r at at_r =
      let d = done i p r at at_r in
      let later = d.later in
      goals_written i d.next (p.base + own_count p.origin) (goals_of t.bank.now (body_of p.origin)) (omega (arith, later)) d.well d.has_clauses (all_written (length records) i (omega arith))

  -- the first record is that of the clause itself

  -- nothing is around it
  abbrev pub nobody : Around
  nobody = record { own = []; base = 0; captured = λ l. None }

  abbrev no_terms : ℕ → Term
  no_terms l = Rattle.lp_calculus.specs.Term.index 0

  no_seen_there : (l : ℕ) (v : Seen) → at_level nobody l ≡ Some v → ⊥
  no_seen_there l v e = go (nat_le 0 l) e
    where
      no_seen : ◌≡◌ {A = Option Seen} None (Some v) → ⊥
      no_seen f = cc

      nowhere : List Seen
      nowhere = []

      go : (c : Bool) → (if c then slice_get nowhere (l - 0) else None) ≡ Some v → ⊥
      go true f = no_seen f
      go false f = no_seen f

  no_index_there : (i l : ℕ) → level_in nobody i ≡ Some l → ⊥
  no_index_there i l e = no_number l (sym (ap (λ c. if c then Some (0 - i - 1) else None) (le-ltb i 0 (omega arith))) ∙ e)
    where
      no_number : (l : ℕ) → ◌≡◌ {A = Option ℕ} None (Some l) → ⊥
      no_number l f = cc

  outside : (h : Home) → Outside h t.type_vars no_terms [] [] nobody NoIndex []
  outside h = record {
    short = omega arith;
    seen = λ i q. absurd q;
    captured = λ i l q e. absurd q;
    known = λ i U e. absurd (no_type U e);
    levels = λ l v e. absurd (no_seen_there l v e);
    alls = λ i l is e. absurd (true≢false (sym is));
    earlier = λ i l e. absurd (no_index_there i l e);
  }
    where
      no_type : (U : Ty) → ◌≡◌ {A = Option Ty} None (Some U) → ⊥
      no_type U e = cc

  pub program_told : (p : Part) (r : Record) (at : slice_get parts 0 ≡ Some p) (at_r : slice_get records 0 ≡ Some r) → p.within ≡ None → p.base ≡ 0 → (done 0 p r at at_r).captured.entries ≡ [] →
      (of : Bor code.Clause) → p.origin ≡ origin.Clause of →
      IsClause T (clause t.type_vars (types_at t.bank.now of.now.vars.items) (tree t.bank.now of.now.head.0) (goals_of t.bank.now of.now.body.items)) →
      clauses_strings (clauses (clause t.type_vars (types_at t.bank.now of.now.vars.items) (tree t.bank.now of.now.head.0) (goals_of t.bank.now of.now.body.items)) no_clauses) ≡ 0 →
      told_at T all (t.first + 0) r nothing_captured ≡ Some (clause t.type_vars (types_at t.bank.now of.now.vars.items) (tree t.bank.now of.now.head.0) (goals_of t.bank.now of.now.body.items))
  program_told p r at at_r within base none of root is_clause short =
      record_of.program_denoted t p d.captured d.starts (origin.Clause of) h d.written root no_terms [] [] nobody NoIndex [] (outside h) base given low cl
      d.next d.first gs d.kept steps fits.4 d.are_next few (suc (t.first + 0)) le has counts std
      (asked (t.first + 0) r) fits.1 below fits.3 is_clause.1 [] tt of refl fits.2 (ap is_none within) few_types (ap length none) refl no_index no_indices
      (subst (λ g. written_goals g ≡ g) body (body_written 0 p r at at_r))
      (λ k e. later_from T all (suc (t.first + 0)) (drop (suc (t.first + 0)) all) k e) (placed 0 r at_r) (are_later 0 r) (tell_all 0 r)
    where
      d : PartDone S t cl p (t.first + 0) r
      d = done 0 p r at at_r

      h : Home
      h = home_of T all (t.first + 0) r

      Ts : List Ty
      Ts = types_at t.bank.now of.now.vars.items

      head : Term
      head = tree t.bank.now of.now.head.0

      gs : Goals
      gs = goals_of t.bank.now of.now.body.items

      body : goals_of t.bank.now (body_of p.origin) ≡ gs
      body = ap (λ o. goals_of t.bank.now (body_of o)) root

      count : own_count p.origin ≡ length Ts
      count = ap own_count root ∙ sym (map_length (λ i. type_tree t.bank.now i.0) of.now.vars.items)

      fits : ClausesFit h t.type_vars [] [] NoIndex (clauses (clause 0 Ts head gs) no_clauses)
      fits = clauses_fit h (record { type_vars = t.type_vars; indices = []; binders = [] }) NoIndex (clauses (clause 0 Ts head gs) no_clauses) is_clause.0 short (λ i U e. absurd (cc))

      given : AreStarts nobody (levels_found nobody []) (started_at t.bank.now d.captured) (index_map_len d.captured)
      given = starts_begin t.bank.now nobody d.captured none

      low : new_level nobody + length Ts < 2 ^ 64 - 1
      low = let f = d.short in let n = count in omega (arith, base, f, n)

      few : new_level nobody + length Ts + length p.steps.items < 2 ^ 64 - 1
      few = let f = d.few in let n = count in omega (arith, base, f, n)

      has : GoalsHave (IsAtLevel t) d.next (new_level nobody + length Ts) gs
      has = subst (λ g. GoalsHave (IsAtLevel t) d.next (new_level nobody + length Ts) g) body (subst (λ n. GoalsHave (IsAtLevel t) d.next (new_level nobody + n)
          (goals_of t.bank.now (body_of p.origin))) count
          (subst (λ k. GoalsHave (IsAtLevel t) d.next (k + own_count p.origin) (goals_of t.bank.now (body_of p.origin))) base d.has))

      steps : steps_of t.bank.now cl p.steps.items ≡ goals_steps gs
      steps = subst (λ g. steps_of t.bank.now cl p.steps.items ≡ goals_steps g) body d.steps

      le : suc (t.first + 0) ≤ d.next
      le = let e = d.later in omega (arith, e)

      below : AreBelow d.next h []
      below m e = names_below 0 p r at at_r m (sym (ap (member m) (append-nil (named_before (t.first + 0) all))) ∙ e)

      behind : (i : ℕ) → more_of Ts NoIndex i → length Ts ≤ i → NoIndex (i - length Ts)
      behind i q le2 = ⊎_elim (λ l. absurd (omega (arith, l, le2))) (λ w. w.1) (more_at Ts NoIndex i q)

      no_index : AllLoose NoIndex (length Ts) head
      no_index = loose_at NoIndex (more_of Ts NoIndex) (length Ts) 0 (length Ts) head (omega arith) behind fits.2.loose

      no_indices : AreThrough (AllLoose NoIndex) (length Ts) gs
      no_indices = goals_loose h.tables.kinds t.type_vars NoIndex (length Ts) gs (goals_through h t.type_vars NoIndex (more_of Ts NoIndex) (Ts ++ [])
          (map (λ T. false) Ts ++ []) (length Ts) gs behind fits.3)

  -- or that of the query
  pub query_told : (p : Part) (r : Record) (at : slice_get parts 0 ≡ Some p) (at_r : slice_get records 0 ≡ Some r) → p.within ≡ None → p.base ≡ 0 → (done 0 p r at at_r).captured.entries ≡ [] →
      (q1 : Bor query.Typed) (gs1 : Bor (List code_goal.Goal)) → p.origin ≡ origin.Query q1 gs1 →
      IsQuery T t.type_vars (reverse (types_at t.bank.now (map (λ v. v.1) q1.now.vars.items))) (goals_of t.bank.now gs1.now) → goals_strings (goals_of t.bank.now gs1.now) ≡ 0 →
      query_ran (home_of T all (t.first + 0) r)
      (run (home_of T all (t.first + 0) r) (λ k e. later_from T all (suc (t.first + 0)) (drop (suc (t.first + 0)) all) k e) (first_state r nothing_captured) r.code.items)
      ≡ Some (record { type_vars = t.type_vars; vars = types_at t.bank.now (map (λ v. v.1) q1.now.vars.items); body = goals_of t.bank.now gs1.now })
  query_told p r at at_r within base none q1 gs1 root is_query short =
      record_of.query_denoted t p d.captured d.starts (origin.Query q1 gs1) h d.written root no_terms [] [] nobody NoIndex [] (outside h) base given low cl
      d.next d.first gs d.kept steps ends d.are_next few (suc (t.first + 0)) le has counts std
      (asked (t.first + 0) r) is_query.0 below fits is_query.2 [] tt q1 gs1 refl (ap is_none within) few_types (ap length none) refl no_indices
      (subst (λ g. written_goals g ≡ g) body (body_written 0 p r at at_r))
      (λ k e. later_from T all (suc (t.first + 0)) (drop (suc (t.first + 0)) all) k e) (placed 0 r at_r) (are_later 0 r) (tell_all 0 r)
    where
      d : PartDone S t cl p (t.first + 0) r
      d = done 0 p r at at_r

      h : Home
      h = home_of T all (t.first + 0) r

      Ts : List Ty
      Ts = reverse (types_at t.bank.now (map (λ v. v.1) q1.now.vars.items))

      gs : Goals
      gs = goals_of t.bank.now gs1.now

      body : goals_of t.bank.now (body_of p.origin) ≡ gs
      body = ap (λ o. goals_of t.bank.now (body_of o)) root

      count : own_count p.origin ≡ length Ts
      count = ap own_count root ∙ sym (index_types_count t.bank.now (origin.Query q1 gs1))

      u : Under
      u = record { type_vars = t.type_vars; indices = Ts ++ []; binders = map (λ T. false) Ts ++ [] }

      are : AreGoals T u gs
      are =
          subst (λ l. AreGoals T (record { type_vars = t.type_vars; indices = l; binders = map (λ T. false) Ts ++ [] }) gs) (sym (append-nil Ts))
          (subst (λ l. AreGoals T (record { type_vars = t.type_vars; indices = Ts; binders = l }) gs) (sym (append-nil (map (λ (T : Ty). false) Ts))) is_query.1)

      fits : GoalsFit h t.type_vars (Ts ++ []) (map (λ T. false) Ts ++ []) (more_of Ts NoIndex) gs
      fits = goals_fit h u (more_of Ts NoIndex) gs are short (all_hold Ts [] NoIndex (λ i U e. absurd (cc)))

      ends : EndsGoals gs
      ends = goals_end h u gs are

      given : AreStarts nobody (levels_found nobody []) (started_at t.bank.now d.captured) (index_map_len d.captured)
      given = starts_begin t.bank.now nobody d.captured none

      low : new_level nobody + length Ts < 2 ^ 64 - 1
      low = let f = d.short in let n = count in omega (arith, base, f, n)

      few : new_level nobody + length Ts + length p.steps.items < 2 ^ 64 - 1
      few = let f = d.few in let n = count in omega (arith, base, f, n)

      has : GoalsHave (IsAtLevel t) d.next (new_level nobody + length Ts) gs
      has = subst (λ g. GoalsHave (IsAtLevel t) d.next (new_level nobody + length Ts) g) body (subst (λ n. GoalsHave (IsAtLevel t) d.next (new_level nobody + n)
          (goals_of t.bank.now (body_of p.origin))) count
          (subst (λ k. GoalsHave (IsAtLevel t) d.next (k + own_count p.origin) (goals_of t.bank.now (body_of p.origin))) base d.has))

      steps : steps_of t.bank.now cl p.steps.items ≡ goals_steps gs
      steps = subst (λ g. steps_of t.bank.now cl p.steps.items ≡ goals_steps g) body d.steps

      le : suc (t.first + 0) ≤ d.next
      le = let e = d.later in omega (arith, e)

      below : AreBelow d.next h []
      below m e = names_below 0 p r at at_r m (sym (ap (member m) (append-nil (named_before (t.first + 0) all))) ∙ e)

      behind : (i : ℕ) → more_of Ts NoIndex i → length Ts ≤ i → NoIndex (i - length Ts)
      behind i q le2 = ⊎_elim (λ l. absurd (omega (arith, l, le2))) (λ w. w.1) (more_at Ts NoIndex i q)

      no_indices : AreThrough (AllLoose NoIndex) (length Ts) gs
      no_indices = goals_loose h.tables.kinds t.type_vars NoIndex (length Ts) gs (goals_through h t.type_vars NoIndex (more_of Ts NoIndex) (Ts ++ [])
          (map (λ T. false) Ts ++ []) (length Ts) gs behind fits)
