-- The record of a clause or query: its code part by part, and what comes of it where it is run.
use Rattle.std.proofs.Common.{◌≡◌, ◌∙◌, ◌≤◌, ◌<◌, ℕ, zero, suc, ◌+◌, ◌-◌, ◌^◌, List, [], ◌∷◌, ◌++◌, append_assoc, length, map, Bool, true, false, inl, inr, Option, Some, None, ap, refl, sym, subst, arith}
use Rattle.std.specs.Prelude.{nat_lt, if◌then◌else◌, All, is_none, slice_get, slice_index_or}
use mathlib.Core.Path.{fun_ext}
use Rattle.indexmap.specs.IndexMap.{IndexMap, index_map_len}
use Rattle.lp_calculus.specs.Types.{Ty}
use Rattle.lp_calculus.specs.Term.{Term}
use Rattle.lp_standard.specs.Schemes.{IsStandard}
use Rattle.std.proofs.lemmas.List.{append-nil}
use Rattle.lp_model.specs.Flat.{Goals, Clauses, no_clauses, clauses, no_goals}
use Rattle.lp_code.specs.declared.instruction.Instr.{Instr}
use Rattle.lp_code.specs.declared.instruction.Instr.TheVariants as on
use Rattle.lp_code.specs.Operands.{own_set}
use Rattle.lp_code.specs.States.{State, Home, member, passing, placed, bind_goals}
use Rattle.lp_code.specs.Steps.{Later, is_made, own_variables}
use Rattle.lp_code.specs.Rules.{nesting_limit}
use Rattle.lp_gen.specs.Sources.{IsKnownType, goals_depth}
use Rattle.lp_gen.specs.declared.environment.Variable.{Variable}
use Rattle.lp_gen.specs.declared.plan.Part.{Part}
use Rattle.lp_gen.specs.declared.plan.Origin.{Origin}
use Rattle.lp_gen.specs.declared.tables.Tables.{Tables}
use Rattle.lp_gen.specs.Steps.{Seen, Around, at_level, constant_function, level_in}
use Rattle.lp_gen.specs.inner.Listing.{around_of}
use Rattle.lp_gen.specs.inner.TermLaw.{AreSet, Standing}
use Rattle.lp_gen.specs.inner.Owned.{makes, AreStarted}
use Rattle.lp_gen.specs.inner.Written.{CodeOwns, AreAsked}
use Rattle.lp_gen.specs.inner.Bodies.{new_level, IsShort, HasLevel, bare_goals, said_goals}
use Rattle.lp_gen.specs.inner.Entering.{news}
use Rattle.lp_gen.specs.inner.GoalCode.{numbers, GoalsCode}
use Rattle.lp_gen.specs.inner.OpenGoals.{goals_steps, plain_goals, EndsGoals}
use Rattle.lp_gen.specs.inner.BodyCode.{Suppositions, AreStarts, started_at, HoldStarts, levels_found, AssumedBy, steps_of, AreNext, next_all}
use Rattle.lp_gen.specs.inner.BodyLaw.{more_of, GoalsFit, AreLater, AreBelow, StartWith}
use Rattle.lp_code.specs.Denote.{is_set_by_all, sets_by_all, Done, run, from_zero, started as started_with, has_neck, ends_with_proceed, is_all_variable, variable_types, first_state, nothing_captured}
use Rattle.lp_gen.specs.declared.plan.Assumption.{Assumption}
use Rattle.lp_gen.specs.inner.Planned.{clauses_length, goals_records, GoalsHave, IsAtLevel, AreNamed}
use Rattle.lp_gen.specs.inner.Recorded.{index_types, MayRun, HeadWritten, FrontWritten, TypesWritten, RecordWritten, key_in, first_key_of, HasKey, head_in, own_of}
use Rattle.lp_gen.proofs.OwnSet.{makes_both, made_is}
use Rattle.lp_gen.proofs.OwnMadeBy.{started_on}
use Rattle.lp_gen.proofs.CodeOwned.{owns_then}
use Rattle.lp_gen.proofs.GoalsGrow.{goals_grow}
use Rattle.lp_gen.proofs.BodySaid.{TellClauses}
use Rattle.lp_gen.proofs.BodyParts.{set_left, set_right, goals_through}
use Rattle.lp_gen.proofs.CodeMapped.{plain_records, plain_have, goals_next, goals_mapped}
use Rattle.lp_gen.proofs.BodySteps.{numbers_length}
use Rattle.lp_gen.proofs.BodyPlain.{goals_plain}
use Rattle.lp_gen.proofs.BodyCoded.{body_coded}
use Rattle.lp_gen.proofs.OwnPlaces.{OwnAre, own_numbers, own_register, own_are, index_types_count}
use Rattle.lp_gen.proofs.RecordBegins.{built_at, no_built, Outside, Inside, own_terms, own_term, old_term, binder_behind, front_held, started_registers, not_zero, start_length, are_own, are_started, own_unmade, old_variable, by_index, old_register, all_seen, all_known, all_free, all_alls, all_outer, stands_first, behind_held}
use Rattle.std.proofs.lemmas.Bool.{ltb-true, ltb-false}
use Rattle.lp_code.specs.Symbolic.{Built, held, whole}
use Rattle.lp_gen.specs.inner.Running.{HasRegisters, TypesStand}
use Rattle.lp_gen.proofs.RecordDenoted.{types_are, body_bound}
use Rattle.lp_gen.proofs.RecordSound.{neck_inside, proceed_last, Whole, whole_sound}
use Rattle.lp_gen.proofs.RecordNames.{tynews, none_both, no_tynews, goals_none}
use Rattle.lp_gen.proofs.WrittenTypes.{starts_as, written_registers, first_same, types_code, written_code, more_types, types_make}
use Rattle.lp_gen.proofs.RecordRuns.{head_more_types, HeadFits, HeadMore, head_more, head_owns, own_all_set, FrontRan, front_ran, RecordRan, record_ran}
use Rattle.lp_gen.proofs.ProgramTypes.{Typed, typed}

module _ {S : Type 0} (t : Tables) (part : Part) (captured : IndexMap ℕ Variable S) (xs' : List (IndexMap ℕ Variable S)) (o1 : Origin) (h : Home)
    (w : RecordWritten t (constant_function t.bank.now t.constants.now) part captured [] xs' h.self) (o : part.origin ≡ o1) where
  abbrev pub K : ℕ → List Ty → Ty
  K = constant_function t.bank.now t.constants.now

  abbrev pub Ts : List Ty
  Ts = index_types t.bank.now o1

  abbrev pub front_of : FrontWritten t.bank.now K w.typed w.fronted w.begun_env w.fronted_env o1 h.self.head
  front_of = subst (λ z. FrontWritten t.bank.now K w.typed w.fronted w.begun_env w.fronted_env z h.self.head) o w.front

  abbrev pub around : Around
  around = around_of t.bank.now front_of.begun_env

  abbrev pub k : ℕ
  k = index_map_len captured

  abbrev pub reg : ℕ → ℕ
  reg = own_register t.bank.now o1 k

  abbrev pub hd : Option Term
  hd = head_in t.bank.now o1

  first_registers : w.typed.registers ≡ k
  first_registers = written_registers (is_none part.within) w.begun w.typed t.type_vars w.made ∙ w.first_registers

  own_is : around.own ≡ own_of t.bank.now o1 k
  own_is =
      ap (λ (a : Around). a.own) (front_of.entered.around t.bank.now) ∙ ap (λ l. map (Rattle.lp_gen.specs.inner.Listing.seen t.bank.now) l ++ own_of t.bank.now o1 w.typed.registers) w.no_own
      ∙ ap (own_of t.bank.now o1) first_registers

  pub own_stands : OwnAre k Ts around.own reg
  own_stands = subst (λ l. OwnAre k Ts l reg) (sym own_is) (own_are t.bank.now o1 k)

  types_count : length Ts ≡ Rattle.lp_gen.specs.inner.Recorded.own_count o1
  types_count = index_types_count t.bank.now o1

  pub begun_registers : front_of.begun.registers ≡ k + length Ts
  begun_registers = let a = front_of.entered.registers_are in let b = first_registers in let d = types_count in omega (arith, a, b, d)

  abbrev pub hm : HeadMore front_of.begun front_of.matched
  hm = head_more K front_of.begun front_of.matched around (around_of t.bank.now front_of.matched_env) h.self.head hd front_of.head

  -- all up to NECK
  abbrev pub front : List Instr
  front = hm.more ++ (front_of.made.some.made.more ++ w.body.neck.more)

  abbrev pub own_types_code : List Instr
  own_types_code = types_code (is_none part.within) w.begun.types t.type_vars

  pub front_code : w.body.begun.code.items ≡ own_types_code ++ front
  front_code =
      w.body.neck.code_is ∙ ap (λ l. l ++ w.body.neck.more) (front_of.made.some.made.code_is
      ∙ ap (λ l. l ++ front_of.made.some.made.more) (hm.code_is ∙ ap (λ l. l ++ hm.more) (front_of.entered.code_stays ∙ written_code (is_none part.within) w.begun w.typed t.type_vars w.made w.empty)))
      ∙ grouped own_types_code hm.more front_of.made.some.made.more w.body.neck.more
    where
      grouped : (us vs ys zs : List Instr) → ((us ++ vs) ++ ys) ++ zs ≡ us ++ (vs ++ (ys ++ zs))
      grouped us vs ys zs = append_assoc (us ++ vs) ys zs ∙ append_assoc us vs (ys ++ zs)

  module _ (σ : ℕ → Term) (Γ : List Ty) (B : List Bool) (A : Around) (Q : ℕ → Type 0) (keys : List ℕ) (out : Outside h t.type_vars σ Γ B A Q keys) (base : part.base ≡ new_level A)
      (starts : AreStarts A (levels_found A keys) (started_at t.bank.now captured) k) (low : new_level A + length Ts < 2 ^ 64 - 1) where
    pub inside : Inside around A k Ts reg keys
    inside = record {
      own = own_stands;
      base = ap (λ (a : Around). a.base) (front_of.entered.around t.bank.now) ∙ w.base ∙ base;
      starts = starts_as A (levels_found A keys) (started_at t.bank.now captured) around.captured k k (λ l. ap (λ (a : Around). a.captured l) (front_of.entered.around t.bank.now) ∙ w.starts_are
          t.bank.now l) refl starts;
      short =
          let e = ap (λ (a : Around). a.base) (front_of.entered.around t.bank.now) ∙ w.base ∙ base in
          let n = own_stands.count in
          omega (arith, low, e, n);
    }

    abbrev pub terms : ℕ → Term
    terms = own_terms h.number around σ

    -- where all is made

    started : AreStarted around
    started = Rattle.lp_gen.proofs.RecordBegins.are_started h K t.type_vars σ Γ B A around Q keys k Ts reg out inside

    owned : CodeOwns around (around_of t.bank.now front_of.matched_env) hm.more
    owned = head_owns K front_of.begun front_of.matched around (around_of t.bank.now front_of.matched_env) h.self.head hd front_of.head started

    started_2 : AreStarted (around_of t.bank.now front_of.matched_env)
    started_2 = started_on around (around_of t.bank.now front_of.matched_env) owned.same owned.stays started

    short_2 : IsShort (around_of t.bank.now front_of.matched_env)
    short_2 = let i = owned.same.base in let j = owned.same.count in let n = inside.short in omega (arith, i, j, n)

    pub all_set : AreSet (around_of t.bank.now w.fronted_env)
    all_set = own_all_set front_of.matched w.fronted (around_of t.bank.now front_of.matched_env) (around_of t.bank.now w.fronted_env) front_of.made short_2 started_2

    pub all_owned : CodeOwns around (around_of t.bank.now w.fronted_env) (hm.more ++ front_of.made.some.made.more)
    all_owned = owns_then around (around_of t.bank.now front_of.matched_env) (around_of t.bank.now w.fronted_env) hm.more front_of.made.some.made.more
        (λ s. head_owns K front_of.begun front_of.matched around (around_of t.bank.now front_of.matched_env) h.self.head hd front_of.head s) front_of.made.some.made.owns started

    -- the body

    module _ (cl : Suppositions) (q f : ℕ) (gs : Goals) (kept : HoldStarts t.bank.now xs' f cl) (steps : steps_of t.bank.now cl part.steps.items ≡ goals_steps gs) (ends : EndsGoals gs)
        (next : AreNext t q f part.steps.items)
        (few : new_level A + length Ts + length part.steps.items < 2 ^ 64 - 1) where
      abbrev pub coded : (last : List Instr)
          × GoalsCode (AssumedBy t cl) K t.type_vars (around_of t.bank.now w.fronted_env) w.body.begun.types w.body.said.types w.body.begun.registers w.body.said.registers q
          (next_all t q part.steps.items) (plain_goals gs) last
          × (w.body.said.code.items ≡ w.body.begun.code.items ++ last)
      coded =
          body_coded t K w.body.begun w.body.said w.fronted_env w.ended_env [] xs' part.steps.items cl q f gs w.body.written.0 kept steps ends
          (subst (λ n. AreNext t q n part.steps.items) (let z : f ≡ f + length {A = IndexMap ℕ Variable S}
          [] = (let y : length {A = IndexMap ℕ Variable S} [] ≡ 0 = refl in omega (arith, y)) in z) next) all_set
          (let i = all_owned.same.base in let j = all_owned.same.count in let e = inside.base in let n = own_stands.count in omega (arith, i, j, e, n, few))

      pub code_is : h.self.code.items ≡ own_types_code ++ (front ++ (coded.0 ++ on.Proceed ∷ []))
      code_is =
          w.code_is ∙ w.body.code_is ∙ ap (λ l. l ++ on.Proceed ∷ []) (coded.2 ∙ ap (λ l. l ++ coded.0) front_code) ∙ append_assoc (own_types_code ++ front) coded.0 (on.Proceed ∷ [])
          ∙ append_assoc own_types_code front (coded.0 ++ on.Proceed ∷ [])

      -- what is built has registers
      room : (w.body.begun.types ≤ h.self.types) × (w.body.begun.registers ≤ h.self.registers) × (w.body.said.types ≤ h.self.types) × (w.body.said.registers ≤ h.self.registers)
      room =
          let grow = goals_grow (AssumedBy t cl) K t.type_vars (around_of t.bank.now w.fronted_env) w.body.begun.types w.body.said.types w.body.begun.registers w.body.said.registers q
          (next_all t q part.steps.items) (plain_goals gs) coded.0 coded.1 in
          let a = grow.0 in let b = grow.1 in let d = w.body.types_stay in let e = w.body.registers_stay in let g = w.types_are in let i = w.registers_are in
          (omega (arith, a, d, g), omega (arith, b, e, i), omega (arith, d, g), omega (arith, e, i))

      -- the own variables are those of the clause
      pub own_registers : own_variables h.self ≡ numbers k (length Ts)
      own_registers =
          ap (passing h.self.registers) (fun_ext (λ r. ap (λ l. is_made own_set l r) code_is ∙ made_is (own_types_code ++ (front ++ (coded.0 ++ on.Proceed ∷ []))) r ∙ ap (member r) made))
          ∙ own_numbers around (around_of t.bank.now w.fronted_env) k Ts reg (makes (hm.more ++ front_of.made.some.made.more)) h.self.registers own_stands started all_owned.made all_owned.same all_set
          (let a = begun_registers in
          let b = hm.terms_grow in
          let d = front_of.made.some.made.registers_stay in
          let e = w.body.neck.registers_stay in
          let g = room.1 in
          omega (arith, a, b, d, e, g))
        where
          none : makes coded.0 ≡ []
          none = goals_plain (AssumedBy t cl) K t.type_vars (around_of t.bank.now w.fronted_env) w.body.begun.types w.body.said.types w.body.begun.registers w.body.said.registers q
              (next_all t q part.steps.items) (plain_goals gs) coded.0 all_set coded.1

          made : makes (own_types_code ++ (front ++ (coded.0 ++ on.Proceed ∷ []))) ≡ makes (hm.more ++ front_of.made.some.made.more)
          made =
              makes_both own_types_code (front ++ (coded.0 ++ on.Proceed ∷ [])) ∙ ap (λ l. l ++ makes (front ++ (coded.0 ++ on.Proceed ∷ [])))
              (types_make (is_none part.within) w.begun.types t.type_vars)
              ∙ makes_both front (coded.0 ++ on.Proceed ∷ []) ∙ ap (λ l. makes front ++ l) (makes_both coded.0 (on.Proceed ∷ []) ∙ ap (λ l. l ++ []) none) ∙ append-nil (makes front)
              ∙ ap makes (sym (append_assoc hm.more front_of.made.some.made.more w.body.neck.more)) ∙ makes_both (hm.more ++ front_of.made.some.made.more) w.body.neck.more
              ∙ ap (λ l. makes (hm.more ++ front_of.made.some.made.more) ++ l) w.body.neck.plain.no_own ∙ append-nil (makes (hm.more ++ front_of.made.some.made.more))

      -- the records that the body names are known
      module _ (first : ℕ) (le : first ≤ q) (has : GoalsHave (IsAtLevel t) q (new_level A + length Ts) gs) (counts : (n : ℕ) (x : Assumption) → slice_get t.assumptions.now n ≡ Some x →
          clauses_length (cl.clauses n) ≡ x.count) where
        long : (a : Around) (ns ls : List ℕ) (cs : Clauses) → AssumedBy t cl a ns ls cs → length ns ≡ clauses_length cs
        long a ns ls cs (n, x, found, clauses_are, names, levels, kept) = ap length names ∙ numbers_length (t.first + x.first) x.count ∙ sym (ap clauses_length clauses_are ∙ counts n x found)

        change : (a : Around) (q : ℕ) (ns ls : List ℕ) (cs : Clauses) → first ≤ q → ns ≡ numbers q (length ns) → IsAtLevel t q (new_level a) cs → AssumedBy t cl a ns ls cs → AreNamed t cl first a ns
            ls cs
        change a q ns ls cs le numbered level (n, x, found, clauses_are, names, levels, kept) = by_count x.count refl
          where
            many : clauses_length cs ≡ x.count
            many = ap clauses_length clauses_are ∙ counts n x found

            nothing : (ds : Clauses) → clauses_length ds ≡ 0 → ds ≡ no_clauses
            nothing no_clauses e = refl
            nothing (clauses d ds) e = absurd (omega (arith, e))

            by_count : (m : ℕ) → x.count ≡ m → AreNamed t cl first a ns ls cs
            by_count zero e = inl (names ∙ ap (numbers (t.first + x.first)) e, nothing cs (many ∙ e))
            by_count (suc m) e =
                let is : ns ≡ (t.first + x.first) ∷ numbers (suc (t.first + x.first)) m = names ∙ ap (numbers (t.first + x.first)) e in
                let size : length ns ≡ suc m = ap length is ∙ ap suc (numbers_length (suc (t.first + x.first)) m) in
                let at : t.first + x.first ≡ q = first_same (t.first + x.first) q (numbers (suc (t.first + x.first)) m) (numbers (suc q) m) (sym is ∙ numbered ∙ ap (numbers q) size) in
                inr (
                  n,
                  x,
                  record {
                    found = found;
                    clauses_are = clauses_are;
                    names = names;
                    levels = levels;
                    starts = kept;
                    base = sym (level n x found at (omega (arith, e)) (omega (arith, many, e)));
                    later = omega (arith, le, at);
                    count = many;
                  },
                )

        level_count : new_level (around_of t.bank.now w.fronted_env) ≡ new_level A + length Ts
        level_count = let i = all_owned.same.base in let j = all_owned.same.count in let e = inside.base in let n = own_stands.count in omega (arith, i, j, e, n)

        pub named : GoalsCode (AreNamed t cl first) K t.type_vars (around_of t.bank.now w.fronted_env) w.body.begun.types w.body.said.types w.body.begun.registers w.body.said.registers q
            (next_all t q part.steps.items) (plain_goals gs) coded.0
        named =
            goals_mapped (AssumedBy t cl) K t.type_vars long (AreNamed t cl first) (IsAtLevel t) first change (around_of t.bank.now w.fronted_env) w.body.begun.types w.body.said.types
            w.body.begun.registers w.body.said.registers q
            (next_all t q part.steps.items) (plain_goals gs) coded.0 le (subst (λ d. GoalsHave (IsAtLevel t) q d (plain_goals gs)) (sym level_count)
            (plain_have (IsAtLevel t) q (new_level A + length Ts) gs has)) coded.1

        pub next_is : next_all t q part.steps.items ≡ q + goals_records gs
        next_is =
            goals_next (AssumedBy t cl) K t.type_vars long (around_of t.bank.now w.fronted_env) w.body.begun.types w.body.said.types w.body.begun.registers w.body.said.registers q
            (next_all t q part.steps.items) (plain_goals gs)
            coded.0 coded.1 ∙ ap (λ n. q + n) (plain_records gs)

        abbrev pub Fits : State → Type 0
        Fits s = HeadFits h t.type_vars front_of.begun.registers (Ts ++ Γ) around s hd

        -- all is run
        pub all_ran : (later : Later) (s : State) → slice_get h.records h.number ≡ Some h.self →
            ((a : Around) (ns ls : List ℕ) (cs : Clauses) → AreNamed t cl first a ns ls cs → AreLater h t.type_vars (length ls) ns) → TellClauses h later t.type_vars (AreNamed t cl first) →
            MayRun h K t.type_vars front_of.begun.types front_of.begun.registers q terms (Ts ++ Γ) (map (λ T. false) Ts ++ B) around (more_of Ts Q) s → Fits s →
            GoalsFit h t.type_vars (Ts ++ Γ) (map (λ T. false) Ts ++ B) (more_of Ts Q) gs → goals_depth gs ≤ nesting_limit → RecordRan h later terms around s
            (front ++ (coded.0 ++ on.Proceed ∷ [])) hd gs
        all_ran later s self records told may fits fit nest =
            record_ran (AreNamed t cl first) h later K t.type_vars q (next_all t q part.steps.items) terms (Ts ++ Γ) (map (λ T. false) Ts ++ B) around (around_of t.bank.now w.fronted_env)
            (more_of Ts Q) w.body.begun.types w.body.said.types w.body.begun.registers w.body.said.registers s front coded.0 hd gs
            (front_ran h later K t.type_vars q terms (Ts ++ Γ) (map (λ T. false) Ts ++ B) around (around_of t.bank.now front_of.matched_env) (around_of t.bank.now w.fronted_env)
            (more_of Ts Q) s front_of.begun front_of.matched w.fronted w.body.begun h.self.head hd front_of.head front_of.made w.body.neck may fits refl room.0 room.1) named records told self
            (λ r set. ap (λ p. sets_by_all p r) self ∙ ap (λ l. is_set_by_all l r) code_is
            ∙ set_right own_types_code (front ++ (coded.0 ++ on.Proceed ∷ [])) r (set_right front (coded.0 ++ on.Proceed ∷ []) r (set_left coded.0 (on.Proceed ∷ []) r set))) fit room.2 room.3 nest

        -- and its head alone
        pub head_front : (later : Later) (s : State) → MayRun h K t.type_vars front_of.begun.types front_of.begun.registers q terms (Ts ++ Γ) (map (λ T. false) Ts ++ B) around (more_of Ts Q) s →
            Fits s → FrontRan h later K t.type_vars w.body.begun.types w.body.begun.registers q terms (Ts ++ Γ) (map (λ T. false) Ts ++ B) around (around_of t.bank.now w.fronted_env)
            (more_of Ts Q) s front hd
        head_front later s may fits =
            front_ran h later K t.type_vars q terms (Ts ++ Γ) (map (λ T. false) Ts ++ B) around (around_of t.bank.now front_of.matched_env) (around_of t.bank.now w.fronted_env) (more_of Ts Q) s
            front_of.begun front_of.matched w.fronted w.body.begun h.self.head hd front_of.head front_of.made w.body.neck may fits refl room.0 room.1

        -- a state before the head, with what the record starts with
        pub enough : (k + length Ts ≤ h.self.registers) × (front_of.begun.types ≤ h.self.types)
        enough =
            let j = begun_registers in
            let l = hm.terms_grow in
            let m = hm.types_grow in
            let n = front_of.made.some.made.registers_stay in
            let u = front_of.made.some.made.types_grow in
            let x = w.body.neck.registers_stay in
            let y = w.body.neck.types_stay in
            (let p = room.1 in omega (arith, p, j, l, n, x), let p = room.0 in omega (arith, p, m, u, y))

        module _ (std : IsStandard h.tables.constants) (asked : AreAsked h K) (known : All (IsKnownType h.tables.kinds t.type_vars) Ts) (below : AreBelow q h [])
            (body_fits : GoalsFit h t.type_vars (Ts ++ Γ) (map (λ T. false) Ts ++ B) (more_of Ts Q) gs) (nest : goals_depth gs ≤ nesting_limit) (bs : List Built)
            (with : StartWith σ A (levels_found A keys) bs) where
          pub many : length bs ≡ k
          many = start_length σ A (levels_found A keys) bs with ∙ sym inside.starts.count_is

          stands_at : Standing h t.type_vars (k + length Ts) false terms around (started_with bs h.self.registers)
          stands_at = stands_first h K t.type_vars σ Γ B A around Q keys k Ts reg out inside bs h.self.registers with known enough.0

          abbrev pub IsFirst : State → Type 0
          IsFirst s =
              (s.now.terms ≡ started_with bs h.self.registers) × (s.terms_set ≡ from_zero k) × (s.in_body ≡ false) × (s.head_types ≡ []) × (s.head_arguments ≡ []) × (s.goals ≡ no_goals) ×
              (s.frames ≡ []) × (s.assumed ≡ [])

          pub may : (s : State) → IsFirst s → TypesStand h t.type_vars front_of.begun.types s →
              MayRun h K t.type_vars front_of.begun.types front_of.begun.registers q terms (Ts ++ Γ) (map (λ T. false) Ts ++ B) around (more_of Ts Q) s
          may s (now_is, set_is, before, no_types, no_args, said, closed, assumed) st = record {
            std = std;
            asked = asked;
            types_stand = st;
            terms_stand = record {
              as_many = subst (λ xs. HasRegisters xs h.self.registers) (sym now_is) (started_registers bs h.self.registers (let e = enough.0 in let m = many in omega (arith, e, m)));
              unset = λ r le. ap (member r) set_is ∙ not_zero k r (let e = begun_registers in omega (arith, le, e));
              fresh = λ e r none. ap (member r) set_is ∙ by_low r (nat_lt r k) refl (ap (λ xs. held xs r) (sym now_is) ∙ none);
            };
            before = before;
            no_types = no_types;
            no_arguments = no_args;
            nothing_said = said;
            closed = closed;
            standing = subst (λ n. Standing h t.type_vars n false terms around s.now.terms) (sym begun_registers)
                (subst (Standing h t.type_vars (k + length Ts) false terms around) (sym now_is) stands_at);
            started = started_around;
            unmade = own_unmade h K t.type_vars σ Γ B A around Q keys k Ts reg out inside;
            own = are_own h K t.type_vars σ Γ B A around Q keys k Ts reg out inside;
            short = inside.short;
            known = all_known h K t.type_vars σ Γ B A around Q keys k Ts reg out inside known;
            seen = all_seen h K t.type_vars σ Γ B A around Q keys k Ts reg out inside;
            free = λ i l x d le e. all_free h K t.type_vars σ Γ B A around Q keys k Ts reg out inside i l x d (let z = begun_registers in omega (arith, le, z)) e;
            below = subst (AreBelow q h) (sym assumed) below;
            alls = all_alls h K t.type_vars σ Γ B A around Q keys k Ts reg out inside;
            outer = all_outer h K t.type_vars σ Γ B A around Q keys k Ts reg out inside;
          }
            where
              started_around : AreStarted around
              started_around = started

              by_low : (r : ℕ) (c : Bool) → nat_lt r k ≡ c → held (started_with bs h.self.registers) r ≡ None → member r (from_zero k) ≡ false
              by_low r true e none =
                  let b = built_at bs r (let z = ltb-true r k e in let m = many in omega (arith, z, m)) in
                  absurd (no_built b.0 (sym (front_held bs h.self.registers r b.0 b.1) ∙ none))
              by_low r false e none = not_zero k r (ltb-false r k e)

          -- variables of a `pi` are set, and stand in the first registers

          old_level : (j l : ℕ) → slice_index_or (map (λ (T : Ty). false) Ts ++ B) j false ≡ true → level_in around j ≡ Some l → l < around.base
          old_level j l is e =
              let le = (binder_behind Ts B j is).0 in
              by_index h K t.type_vars σ Γ B A around Q keys k Ts reg out inside (l < around.base) j l e (λ low at. absurd (omega (arith, low, le))) (λ high low at. low)

          pub set_first : (j l : ℕ) (v : Seen) → slice_index_or (map (λ (T : Ty). false) Ts ++ B) j false ≡ true → level_in around j ≡ Some l → at_level around l ≡ Some v → v.is_set ≡ true
          set_first j l v is e at = started l v (old_level j l is e) at

          pub captured_is : h.self.captured ≡ k
          captured_is = w.captured_are

          pub first_stands : (s : State) → s.now.terms ≡ started_with bs h.self.registers → (j l : ℕ) (v : Seen) → slice_index_or (map (λ (T : Ty). false) Ts ++ B) j false ≡ true → level_in around j ≡
              Some l → at_level around l ≡ Some v →
              (v.register < h.self.captured) × (held s.now.terms v.register ≡ Some (whole (terms l) v.of)) × (is_all_variable h.records (terms l) ≡ true)
          first_stands s now_is j l v is e at =
              let set = set_first j l v is e at in
              let low : v.register < k = old_register h K t.type_vars σ Γ B A around Q keys k Ts reg out inside l v (old_level j l is e) at in
              let c = captured_is in
              (omega (arith, low, c), ap (λ xs. held xs v.register) now_is ∙ stands_at.set l v at set, all_alls h K t.type_vars σ Γ B A around Q keys k Ts reg out inside j l is e)

          -- code up to NECK, and up to PROCEED

          pub neck_code : h.self.code.items ≡ (own_types_code ++ (hm.more ++ front_of.made.some.made.more)) ++ on.Neck ∷ (coded.0 ++ on.Proceed ∷ [])
          neck_code =
              code_is
              ∙ ap (λ l. own_types_code ++ l) (ap (λ l. l ++ (coded.0 ++ on.Proceed ∷ [])) (sym (append_assoc hm.more front_of.made.some.made.more w.body.neck.more) ∙ ap
              (λ l. (hm.more ++ front_of.made.some.made.more) ++ l) w.body.neck.is_neck)
              ∙ append_assoc (hm.more ++ front_of.made.some.made.more) (on.Neck ∷ []) (coded.0 ++ on.Proceed ∷ []))
              ∙ sym (append_assoc own_types_code (hm.more ++ front_of.made.some.made.more) (on.Neck ∷ (coded.0 ++ on.Proceed ∷ [])))

          pub has_neck_is : has_neck h.self.code.items ≡ true
          has_neck_is = ap has_neck neck_code ∙ neck_inside (own_types_code ++ (hm.more ++ front_of.made.some.made.more)) (coded.0 ++ on.Proceed ∷ [])

          pub ends_is : ends_with_proceed h.self.code.items ≡ true
          ends_is =
              ap ends_with_proceed (code_is ∙ sym (append_assoc own_types_code front (coded.0 ++ on.Proceed ∷ [])) ∙ sym (append_assoc (own_types_code ++ front) coded.0 (on.Proceed ∷ [])))
              ∙ proceed_last ((own_types_code ++ front) ++ coded.0)

          -- the record of a clause of a program, or of a query
          pub program_code : is_none part.within ≡ true → h.self.code.items ≡ news 0 t.type_vars ++ (front ++ (coded.0 ++ on.Proceed ∷ []))
          program_code outer = code_is ∙ (λ i. types_code (outer i) ((w.first_types ∙ ap (λ b. if b then 0 else t.type_vars) outer) i) t.type_vars ++ (front ++ (coded.0 ++ on.Proceed ∷ [])))

          pub no_new_types : tynews (front ++ (coded.0 ++ on.Proceed ∷ [])) ≡ []
          no_new_types =
              none_both front (coded.0 ++ on.Proceed ∷ [])
              (none_both hm.more (front_of.made.some.made.more ++ w.body.neck.more)
              (no_tynews hm.more (head_more_types K front_of.begun front_of.matched around (around_of t.bank.now front_of.matched_env) h.self.head hd front_of.head))
              (none_both front_of.made.some.made.more w.body.neck.more (no_tynews front_of.made.some.made.more front_of.made.some.made.no_types)
              (no_tynews w.body.neck.more w.body.neck.plain.no_types)))
              (none_both coded.0 (on.Proceed ∷ [])
              (goals_none (AssumedBy t cl) K t.type_vars (around_of t.bank.now w.fronted_env) w.body.begun.types w.body.said.types w.body.begun.registers w.body.said.registers q
              (next_all t q part.steps.items) (plain_goals gs)
              coded.0 coded.1) refl)

          -- what comes of the run

          pub types_said : (z : State) → ((l : ℕ) (v : Seen) → at_level around l ≡ Some v → held z.now.terms v.register ≡ Some (whole (terms l) v.of)) → (Us : List Ty) → length Us ≡ length Ts →
              ((i : ℕ) (U : Ty) → slice_get Us i ≡ Some U → (j : ℕ) × (slice_get Ts j ≡ Some U) × (reg j ≡ k + i)) → variable_types z (own_variables h.self) ≡ Us
          types_said z own Us many there =
              ap (variable_types z) (own_registers ∙ ap (numbers k) (sym many)) ∙ types_are h K t.type_vars σ Γ B A around Q keys k Ts reg out inside Us there z own

          pub has_level : (i : ℕ) → more_of Ts Q i → HasLevel around i
          has_level i p = let x = all_seen h K t.type_vars σ Γ B A around Q keys k Ts reg out inside i p in (x.0, x.2)

          pub body_said : (rs : List ℕ) → ((d j : ℕ) → j < length Ts → placed rs d (reg j) ≡ Some (d + j)) → (said : Goals) → bare_goals said ≡ said_goals terms around 0 gs →
              bare_goals (bind_goals rs h.number said) ≡ said_goals σ A (length Ts) gs
          body_said rs places said e =
              body_bound h K t.type_vars σ Γ B A around Q keys k Ts reg out inside rs places said gs e
              (goals_through h t.type_vars (HasLevel around) (more_of Ts Q) (Ts ++ Γ) (map (λ T. false) Ts ++ B) 0 gs
              (λ i p le. let z : i ≡ i - 0 = omega arith in subst (HasLevel around) z (has_level i p)) body_fits)

          -- run from the first state, behind the type variables that the record makes
          pub ran_all : (later : Later) (s0 s : State) → ((rest : List Instr) → run h later s0 (own_types_code ++ rest) ≡ run h later s rest) → IsFirst s → TypesStand h t.type_vars
              front_of.begun.types s →
              slice_get h.records h.number ≡ Some h.self → ((a : Around) (ns ls : List ℕ) (cs : Clauses) → AreNamed t cl first a ns ls cs → AreLater h t.type_vars (length ls) ns) →
              TellClauses h later t.type_vars (AreNamed t cl first) → Fits s →
              (r : RecordRan h later terms around s (front ++ (coded.0 ++ on.Proceed ∷ [])) hd gs) × (run h later s0 h.self.code.items ≡ Done r.state)
          ran_all later s0 s runs is_first st self records told fits =
              let r = all_ran later s self records told (may s is_first st) fits body_fits nest in
              (r, ap (run h later s0) code_is ∙ runs (front ++ (coded.0 ++ on.Proceed ∷ [])) ∙ r.runs)

          -- a record of a program, which makes its type variables itself
          module _ (outer : is_none part.within ≡ true) (few_types : t.type_vars ≤ 65535) (none_captured : k ≡ 0) (nothing : bs ≡ []) where
            pub is_program : h.self.program ≡ true
            is_program = w.is_program ∙ outer

            pub no_kinds : h.self.captured_types ≡ 0
            no_kinds = w.captured_types ∙ ap (λ b. if b then 0 else t.type_vars) outer

            zero_types : w.begun.types ≡ 0
            zero_types = w.first_types ∙ ap (λ b. if b then 0 else t.type_vars) outer

            pub begun_types : front_of.begun.types ≡ t.type_vars
            begun_types =
                front_of.entered.types_stay ∙ more_types (is_none part.within) w.begun w.typed t.type_vars w.made outer
                ∙ (let e = zero_types in let z : w.begun.types + t.type_vars ≡ t.type_vars = omega (arith, e) in z)

            pub enough_types : t.type_vars ≤ h.self.types
            enough_types = let e = enough.1 in let b = begun_types in omega (arith, b, e)

            pub own_code : (rest : List Instr) → own_types_code ++ rest ≡ news 0 t.type_vars ++ rest
            own_code rest = λ i. types_code (outer i) (zero_types i) t.type_vars ++ rest

            pub first_of : (s0 : State) → s0.now.terms ≡ started_with [] h.self.registers → s0.terms_set ≡ from_zero h.self.captured → s0.in_body ≡ false → s0.head_types ≡ [] →
                s0.head_arguments ≡ [] →
                s0.goals ≡ no_goals → s0.frames ≡ [] → s0.assumed ≡ [] → (later : Later) →
                (x : Typed h t.type_vars (front ++ (coded.0 ++ on.Proceed ∷ [])) (program_code outer) no_new_types enough_types later s0) → IsFirst x.state
            first_of s0 now_is set_is before no_types no_args said closed assumed later x = (
              x.terms ∙ now_is ∙ ap (λ l. started_with l h.self.registers) (sym nothing),
              x.terms_set ∙ set_is ∙ ap from_zero w.captured_are,
              x.in_body ∙ before,
              x.head_types ∙ no_types,
              x.arguments ∙ no_args,
              x.goals ∙ said,
              x.frames ∙ closed,
              x.assumed ∙ assumed,
            )

            pub program_ran : (later : Later) → slice_get h.records h.number ≡ Some h.self → ((a : Around) (ns ls : List ℕ) (cs : Clauses) → AreNamed t cl first a ns ls cs → AreLater h
                t.type_vars (length ls) ns) →
                TellClauses h later t.type_vars (AreNamed t cl first) → Whole h (first_state h.self nothing_captured) → ((s : State) → s.now.terms ≡ started_with bs h.self.registers → Fits s) →
                (s : State) × (r : RecordRan h later terms around s (front ++ (coded.0 ++ on.Proceed ∷ [])) hd gs) ×
                (run h later (first_state h.self nothing_captured) h.self.code.items ≡ Done r.state)
            program_ran later self records told whole fits =
                let s0 = first_state h.self nothing_captured in
                let code = program_code outer in
                let y0 = typed h t.type_vars (front ++ (coded.0 ++ on.Proceed ∷ [])) code no_new_types enough_types later s0 refl (ap from_zero no_kinds) refl refl is_program few_types
                (λ e r. whole_sound h s0 whole r) in
                let is_first = first_of s0 refl refl refl refl refl refl refl refl later y0 in
                let r = ran_all later s0 y0.state (λ rest. ap (run h later s0) (own_code rest) ∙ y0.runs rest) is_first
                (subst (λ n. TypesStand h t.type_vars n y0.state) (sym begun_types) y0.stand) self
                records told (fits y0.state is_first.0) in
                (y0.state, r.0, r.1)
