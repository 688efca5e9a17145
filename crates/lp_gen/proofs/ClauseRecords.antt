-- The records of clauses and queries: what they denote.
use Rattle.std.proofs.Common.{◌≡◌, ◌∙◌, ◌≤◌, ◌<◌, ℕ, ◌+◌, ◌-◌, ◌^◌, List, [], ◌∷◌, ◌++◌, append_assoc, length, map, reverse, Bor, Bool, true, false, Option, Some, None, ap, refl, sym, subst, arith}
use Rattle.std.specs.Prelude.{nat_eq, nat_lt, ◌||◌, if◌then◌else◌, All, is_none, slice_get, slice_index_or}
use Rattle.indexmap.specs.IndexMap.{IndexMap}
use Rattle.lp_calculus.specs.Types.{Ty, var}
use Rattle.lp_calculus.specs.Term.{Term}
use Rattle.lp_standard.specs.Schemes.{IsStandard}
use Rattle.std.proofs.lemmas.List.{append-nil, length-reverse}
use Rattle.std.proofs.lemmas.Option.{slice_get_within}
use Rattle.lp_term.specs.Nodes.{tree}
use Rattle.lp_model.specs.Flat.{Goals, Clauses, no_clauses, clauses, no_goals, Clause as FlatClause, clause}
use Rattle.lp_model.specs.declared.clause.Clause.{Clause}
use Rattle.lp_model.specs.declared.clause.Goal as code_goal
use Rattle.lp_model.specs.declared.program.Typed as query
use Rattle.lp_code.specs.declared.instruction.Instr.{Instr}
use Rattle.lp_code.specs.declared.instruction.Instr.TheVariants as on
use Rattle.lp_code.specs.declared.record.RecordHead.{RecordHead}
use Rattle.lp_code.specs.States.{State, Home, placed, Captured, bind_term, bind_goals}
use Rattle.lp_code.specs.Steps.{Later, own_variables}
use Rattle.lp_code.specs.Rules.{nesting_limit}
use Rattle.lp_gen.specs.Sources.{IsKnownType, goals_depth}
use Rattle.lp_gen.specs.declared.environment.Variable.{Variable}
use Rattle.lp_gen.specs.declared.plan.Part.{Part}
use Rattle.lp_gen.specs.declared.plan.Origin.{Origin}
use Rattle.lp_gen.specs.declared.plan.Origin.TheVariants as origin
use Rattle.lp_gen.specs.declared.tables.Tables.{Tables}
use Rattle.lp_gen.specs.Steps.{Seen, Around, at_level, constant_function, level_in}
use Rattle.lp_gen.specs.inner.Listing.{around_of}
use Rattle.lp_gen.specs.inner.TermLaw.{with_variables, AllLoose}
use Rattle.lp_gen.specs.inner.Written.{AreAsked}
use Rattle.lp_gen.specs.inner.Bodies.{new_level, HasLevel, bare_goals, bare_clauses, said_goals, said_clauses, AreThrough}
use Rattle.lp_gen.specs.inner.Entering.{types_at, news}
use Rattle.lp_gen.specs.inner.GoalCode.{numbers, GoalsCode}
use Rattle.lp_gen.specs.inner.OpenGoals.{goals_steps, plain_goals, EndsGoals}
use Rattle.lp_gen.specs.inner.BodyCode.{Suppositions, AreStarts, started_at, HoldStarts, levels_found, AssumedBy, steps_of, AreNext, next_all}
use Rattle.lp_gen.specs.inner.BodyLaw.{more_of, GoalsFit, AreLater, AreBelow, StartWith}
use Rattle.lp_gen.specs.inner.Heading.{PredicateStands, IsHeadAtom}
use Rattle.lp_code.specs.Denote.{Done, run, from_zero, started as started_with, has_neck, ends_with_proceed, heads, is_known_head, head_passes, is_all_variable, first_key, head_term, variable_types, first_state, is_named, denoted, key_is, nothing_captured, query_ran}
use Rattle.lp_gen.specs.declared.plan.Assumption.{Assumption}
use Rattle.lp_gen.specs.inner.Planned.{clauses_length, GoalsHave, IsAtLevel, AreNamed}
use Rattle.lp_gen.specs.inner.Recorded.{index_types, MayRun, HeadWritten, FrontWritten, RecordWritten, key_in, first_key_of, HasKey, head_in}
use Rattle.lp_gen.proofs.BodySaid.{TellClauses}
use Rattle.lp_gen.proofs.BodyParts.{loose_at}
use Rattle.lp_gen.proofs.OwnPlaces.{own_register, placed_at, placed_back, at_reverse}
use Rattle.lp_gen.proofs.RecordBegins.{Outside, Inside, own_term, old_term, old_variable, all_seen, all_known, behind_held}
use Rattle.std.proofs.lemmas.Bool.{ltb-true, eqb-true, eq-eqb}
use Rattle.lp_calculus.specs.Spine.{arguments}
use Rattle.lp_code.specs.Symbolic.{Built, held, whole, plain_terms}
use Rattle.lp_code.specs.declared.record.Key.TheVariants as key
use Rattle.lp_gen.specs.inner.Running.{TypesStand}
use Rattle.lp_gen.proofs.BodyEnds.{ran_out}
use Rattle.lp_gen.proofs.RunKeys.{arguments_key, key_law}
use Rattle.lp_gen.proofs.RecordDenoted.{head_bound, NoIndex, goals_stay}
use Rattle.lp_gen.proofs.Bares.{written_same}
use Rattle.lp_gen.proofs.RecordSound.{Whole}
use Rattle.lp_code.specs.Written.{written_goals}
use Rattle.lp_gen.proofs.RecordNames.{tynews}
use Rattle.lp_gen.proofs.WrittenTypes.{types_code, same_types}
use Rattle.lp_gen.proofs.RecordRuns.{HeadFits, HeadIs, FrontRan, RecordRan}
use Rattle.lp_gen.proofs.ProgramTypes.{Typed, typed, own_count}
use Rattle.lp_gen.proofs.ClauseDenoted.{assumed_clause, assumed_types, assumed_key, program_clause, program_key}
use Rattle.lp_gen.proofs.ClauseHeads.{head_predicate, head_atom, predicate_fine, first_key_with}
use Rattle.lp_gen.proofs.RecordCode as record_of

module _ {S : Type 0} (t : Tables) (part : Part) (captured : IndexMap ℕ Variable S) (xs' : List (IndexMap ℕ Variable S)) (o1 : Origin) (h : Home)
    (w : RecordWritten t (constant_function t.bank.now t.constants.now) part captured [] xs' h.self) (o : part.origin ≡ o1) where
  abbrev K : ℕ → List Ty → Ty
  K = record_of.K t part captured xs' o1 h w o

  abbrev Ts : List Ty
  Ts = record_of.Ts t part captured xs' o1 h w o

  abbrev front_of : FrontWritten t.bank.now K w.typed w.fronted w.begun_env w.fronted_env o1 h.self.head
  front_of = record_of.front_of t part captured xs' o1 h w o

  abbrev around : Around
  around = record_of.around t part captured xs' o1 h w o

  abbrev k : ℕ
  k = record_of.k t part captured xs' o1 h w o

  abbrev reg : ℕ → ℕ
  reg = record_of.reg t part captured xs' o1 h w o

  abbrev hd : Option Term
  hd = record_of.hd t part captured xs' o1 h w o

  begun_registers : front_of.begun.registers ≡ k + length Ts
  begun_registers = record_of.begun_registers t part captured xs' o1 h w o

  abbrev front : List Instr
  front = record_of.front t part captured xs' o1 h w o

  abbrev own_types_code : List Instr
  own_types_code = record_of.own_types_code t part captured xs' o1 h w o

  module _ (σ : ℕ → Term) (Γ : List Ty) (B : List Bool) (A : Around) (Q : ℕ → Type 0) (keys : List ℕ) (out : Outside h t.type_vars σ Γ B A Q keys) (base : part.base ≡ new_level A)
      (starts : AreStarts A (levels_found A keys) (started_at t.bank.now captured) k) (low : new_level A + length Ts < 2 ^ 64 - 1) where
    inside : Inside around A k Ts reg keys
    inside = record_of.inside t part captured xs' o1 h w o σ Γ B A Q keys out base starts low

    abbrev terms : ℕ → Term
    terms = record_of.terms t part captured xs' o1 h w o σ Γ B A Q keys out base starts low

    module _ (cl : Suppositions) (q f : ℕ) (gs : Goals) (kept : HoldStarts t.bank.now xs' f cl) (steps : steps_of t.bank.now cl part.steps.items ≡ goals_steps gs) (ends : EndsGoals gs)
        (next : AreNext t q f part.steps.items)
        (few : new_level A + length Ts + length part.steps.items < 2 ^ 64 - 1) where
      abbrev coded : (last : List Instr)
          × GoalsCode (AssumedBy t cl) K t.type_vars (around_of t.bank.now w.fronted_env) w.body.begun.types w.body.said.types w.body.begun.registers w.body.said.registers q
          (next_all t q part.steps.items) (plain_goals gs) last
          × (w.body.said.code.items ≡ w.body.begun.code.items ++ last)
      coded = record_of.coded t part captured xs' o1 h w o σ Γ B A Q keys out base starts low cl q f gs kept steps ends next few

      code_is : h.self.code.items ≡ own_types_code ++ (front ++ (coded.0 ++ on.Proceed ∷ []))
      code_is = record_of.code_is t part captured xs' o1 h w o σ Γ B A Q keys out base starts low cl q f gs kept steps ends next few

      own_registers : own_variables h.self ≡ numbers k (length Ts)
      own_registers = record_of.own_registers t part captured xs' o1 h w o σ Γ B A Q keys out base starts low cl q f gs kept steps ends next few

      module _ (first : ℕ) (le : first ≤ q) (has : GoalsHave (IsAtLevel t) q (new_level A + length Ts) gs) (counts : (n : ℕ) (x : Assumption) → slice_get t.assumptions.now n ≡ Some x →
          clauses_length (cl.clauses n) ≡ x.count) where
        named : GoalsCode (AreNamed t cl first) K t.type_vars (around_of t.bank.now w.fronted_env) w.body.begun.types w.body.said.types w.body.begun.registers w.body.said.registers q
            (next_all t q part.steps.items) (plain_goals gs) coded.0
        named = record_of.named t part captured xs' o1 h w o σ Γ B A Q keys out base starts low cl q f gs kept steps ends next few first le has counts

        abbrev Fits : State → Type 0
        Fits = record_of.Fits t part captured xs' o1 h w o σ Γ B A Q keys out base starts low cl q f gs kept steps ends next few first le has counts

        head_front : (later : Later) (s : State) → MayRun h K t.type_vars front_of.begun.types front_of.begun.registers q terms (Ts ++ Γ) (map (λ T. false) Ts ++ B) around (more_of Ts Q) s →
            Fits s → FrontRan h later K t.type_vars w.body.begun.types w.body.begun.registers q terms (Ts ++ Γ) (map (λ T. false) Ts ++ B) around (around_of t.bank.now w.fronted_env)
            (more_of Ts Q) s front hd
        head_front = record_of.head_front t part captured xs' o1 h w o σ Γ B A Q keys out base starts low cl q f gs kept steps ends next few first le has counts

        enough : (k + length Ts ≤ h.self.registers) × (front_of.begun.types ≤ h.self.types)
        enough = record_of.enough t part captured xs' o1 h w o σ Γ B A Q keys out base starts low cl q f gs kept steps ends next few first le has counts

        module _ (std : IsStandard h.tables.constants) (asked : AreAsked h K) (known : All (IsKnownType h.tables.kinds t.type_vars) Ts) (below : AreBelow q h [])
            (body_fits : GoalsFit h t.type_vars (Ts ++ Γ) (map (λ T. false) Ts ++ B) (more_of Ts Q) gs) (nest : goals_depth gs ≤ nesting_limit) (bs : List Built)
            (with : StartWith σ A (levels_found A keys) bs) where
          many : length bs ≡ k
          many = record_of.many t part captured xs' o1 h w o σ Γ B A Q keys out base starts low cl q f gs kept steps ends next few first le has counts std asked known below body_fits nest bs with

          abbrev IsFirst : State → Type 0
          IsFirst = record_of.IsFirst t part captured xs' o1 h w o σ Γ B A Q keys out base starts low cl q f gs kept steps ends next few first le has counts std asked known below body_fits
              nest bs with

          may : (s : State) → IsFirst s → TypesStand h t.type_vars front_of.begun.types s →
              MayRun h K t.type_vars front_of.begun.types front_of.begun.registers q terms (Ts ++ Γ) (map (λ T. false) Ts ++ B) around (more_of Ts Q) s
          may = record_of.may t part captured xs' o1 h w o σ Γ B A Q keys out base starts low cl q f gs kept steps ends next few first le has counts std asked known below body_fits nest bs with

          set_first : (j l : ℕ) (v : Seen) → slice_index_or (map (λ (T : Ty). false) Ts ++ B) j false ≡ true → level_in around j ≡ Some l → at_level around l ≡ Some v → v.is_set ≡ true
          set_first = record_of.set_first t part captured xs' o1 h w o σ Γ B A Q keys out base starts low cl q f gs kept steps ends next few first le has counts std asked known below
              body_fits nest bs with

          captured_is : h.self.captured ≡ k
          captured_is = record_of.captured_is t part captured xs' o1 h w o σ Γ B A Q keys out base starts low cl q f gs kept steps ends next few first le has counts std asked known below
              body_fits nest bs with

          first_stands : (s : State) → s.now.terms ≡ started_with bs h.self.registers → (j l : ℕ) (v : Seen) → slice_index_or (map (λ (T : Ty). false) Ts ++ B) j false ≡ true → level_in around j ≡
              Some l → at_level around l ≡ Some v →
              (v.register < h.self.captured) × (held s.now.terms v.register ≡ Some (whole (terms l) v.of)) × (is_all_variable h.records (terms l) ≡ true)
          first_stands = record_of.first_stands t part captured xs' o1 h w o σ Γ B A Q keys out base starts low cl q f gs kept steps ends next few first le has counts std asked known below
              body_fits nest bs with

          has_neck_is : has_neck h.self.code.items ≡ true
          has_neck_is = record_of.has_neck_is t part captured xs' o1 h w o σ Γ B A Q keys out base starts low cl q f gs kept steps ends next few first le has counts std asked known below
              body_fits nest bs with

          ends_is : ends_with_proceed h.self.code.items ≡ true
          ends_is = record_of.ends_is t part captured xs' o1 h w o σ Γ B A Q keys out base starts low cl q f gs kept steps ends next few first le has counts std asked known below body_fits
              nest bs with

          program_code : is_none part.within ≡ true → h.self.code.items ≡ news 0 t.type_vars ++ (front ++ (coded.0 ++ on.Proceed ∷ []))
          program_code = record_of.program_code t part captured xs' o1 h w o σ Γ B A Q keys out base starts low cl q f gs kept steps ends next few first le has counts std asked known below
              body_fits nest bs with

          no_new_types : tynews (front ++ (coded.0 ++ on.Proceed ∷ [])) ≡ []
          no_new_types = record_of.no_new_types t part captured xs' o1 h w o σ Γ B A Q keys out base starts low cl q f gs kept steps ends next few first le has counts std asked known below
              body_fits nest bs with

          types_said : (z : State) → ((l : ℕ) (v : Seen) → at_level around l ≡ Some v → held z.now.terms v.register ≡ Some (whole (terms l) v.of)) → (Us : List Ty) → length Us ≡ length Ts →
              ((i : ℕ) (U : Ty) → slice_get Us i ≡ Some U → (j : ℕ) × (slice_get Ts j ≡ Some U) × (reg j ≡ k + i)) → variable_types z (own_variables h.self) ≡ Us
          types_said = record_of.types_said t part captured xs' o1 h w o σ Γ B A Q keys out base starts low cl q f gs kept steps ends next few first le has counts std asked known below
              body_fits nest bs with

          has_level : (i : ℕ) → more_of Ts Q i → HasLevel around i
          has_level = record_of.has_level t part captured xs' o1 h w o σ Γ B A Q keys out base starts low cl q f gs kept steps ends next few first le has counts std asked known below
              body_fits nest bs with

          body_said : (rs : List ℕ) → ((d j : ℕ) → j < length Ts → placed rs d (reg j) ≡ Some (d + j)) → (said : Goals) → bare_goals said ≡ said_goals terms around 0 gs →
              bare_goals (bind_goals rs h.number said) ≡ said_goals σ A (length Ts) gs
          body_said = record_of.body_said t part captured xs' o1 h w o σ Γ B A Q keys out base starts low cl q f gs kept steps ends next few first le has counts std asked known below
              body_fits nest bs with

          ran_all : (later : Later) (s0 s : State) → ((rest : List Instr) → run h later s0 (own_types_code ++ rest) ≡ run h later s rest) → IsFirst s → TypesStand h t.type_vars
              front_of.begun.types s →
              slice_get h.records h.number ≡ Some h.self → ((a : Around) (ns ls : List ℕ) (cs : Clauses) → AreNamed t cl first a ns ls cs → AreLater h t.type_vars (length ls) ns) →
              TellClauses h later t.type_vars (AreNamed t cl first) → Fits s →
              (r : RecordRan h later terms around s (front ++ (coded.0 ++ on.Proceed ∷ [])) hd gs) × (run h later s0 h.self.code.items ≡ Done r.state)
          ran_all = record_of.ran_all t part captured xs' o1 h w o σ Γ B A Q keys out base starts low cl q f gs kept steps ends next few first le has counts std asked known below body_fits
              nest bs with

          module _ (outer : is_none part.within ≡ true) (few_types : t.type_vars ≤ 65535) (none_captured : k ≡ 0) (nothing : bs ≡ []) where
            is_program : h.self.program ≡ true
            is_program = record_of.is_program t part captured xs' o1 h w o σ Γ B A Q keys out base starts low cl q f gs kept steps ends next few first le has counts std asked known below
                body_fits nest bs with outer few_types none_captured nothing

            no_kinds : h.self.captured_types ≡ 0
            no_kinds = record_of.no_kinds t part captured xs' o1 h w o σ Γ B A Q keys out base starts low cl q f gs kept steps ends next few first le has counts std asked known below
                body_fits nest bs with outer few_types none_captured nothing

            begun_types : front_of.begun.types ≡ t.type_vars
            begun_types = record_of.begun_types t part captured xs' o1 h w o σ Γ B A Q keys out base starts low cl q f gs kept steps ends next few first le has counts std asked known below
                body_fits nest bs with outer few_types none_captured nothing

            enough_types : t.type_vars ≤ h.self.types
            enough_types = record_of.enough_types t part captured xs' o1 h w o σ Γ B A Q keys out base starts low cl q f gs kept steps ends next few first le has counts std asked known below
                body_fits nest bs with outer few_types none_captured nothing

            own_code : (rest : List Instr) → own_types_code ++ rest ≡ news 0 t.type_vars ++ rest
            own_code = record_of.own_code t part captured xs' o1 h w o σ Γ B A Q keys out base starts low cl q f gs kept steps ends next few first le has counts std asked known below
                body_fits nest bs with outer few_types none_captured nothing

            first_of : (s0 : State) → s0.now.terms ≡ started_with [] h.self.registers → s0.terms_set ≡ from_zero h.self.captured → s0.in_body ≡ false → s0.head_types ≡ [] → s0.head_arguments ≡ [] →
                s0.goals ≡ no_goals → s0.frames ≡ [] → s0.assumed ≡ [] → (later : Later) →
                (x : Typed h t.type_vars (front ++ (coded.0 ++ on.Proceed ∷ [])) (program_code outer) no_new_types enough_types later s0) → IsFirst x.state
            unfolding program_code no_new_types enough_types
            first_of = record_of.first_of t part captured xs' o1 h w o σ Γ B A Q keys out base starts low cl q f gs kept steps ends next few first le has counts std asked known below
                body_fits nest bs with outer few_types none_captured nothing

            program_ran : (later : Later) → slice_get h.records h.number ≡ Some h.self → ((a : Around) (ns ls : List ℕ) (cs : Clauses) → AreNamed t cl first a ns ls cs → AreLater h
                t.type_vars (length ls) ns) →
                TellClauses h later t.type_vars (AreNamed t cl first) → Whole h (first_state h.self nothing_captured) → ((s : State) → s.now.terms ≡ started_with bs h.self.registers → Fits s) →
                (s : State) × (r : RecordRan h later terms around s (front ++ (coded.0 ++ on.Proceed ∷ [])) hd gs) ×
                (run h later (first_state h.self nothing_captured) h.self.code.items ≡ Done r.state)
            program_ran = record_of.program_ran t part captured xs' o1 h w o σ Γ B A Q keys out base starts low cl q f gs kept steps ends next few first le has counts std asked known below
                body_fits nest bs with outer few_types none_captured nothing

          -- a clause
          module _ (c : Bor Clause) (c_is : o1 ≡ origin.Clause c) where
            abbrev pub head : Term
            head = tree t.bank.now c.now.head.0

            hd_is : hd ≡ Some head
            hd_is = ap (head_in t.bank.now) c_is

            reg_is : (i : ℕ) → reg i ≡ k + i
            reg_is i = ap (λ u. own_register t.bank.now u k i) c_is

            places : (d j : ℕ) → j < length Ts → placed (own_variables h.self) d (reg j) ≡ Some (d + j)
            places d j l = (λ i. placed (own_registers i) d (reg_is j i)) ∙ placed_at (length Ts) k d j l

            types_of : (z : State) → ((l : ℕ) (v : Seen) → at_level around l ≡ Some v → held z.now.terms v.register ≡ Some (whole (terms l) v.of)) → variable_types z (own_variables h.self) ≡ Ts
            types_of z own = types_said z own Ts refl (λ i U e. (i, e, reg_is i))

            module _ (heads_fit : Rattle.lp_gen.specs.inner.BodyLaw.HeadFits h t.type_vars (Ts ++ Γ) (map (λ T. false) Ts ++ B) (more_of Ts Q) head) where
              pub atom_fits : IsHeadAtom h t.type_vars (Ts ++ Γ) around head
              atom_fits = head_atom h t.type_vars (Ts ++ Γ) (map (λ T. false) Ts ++ B) around (more_of Ts Q) head heads_fit
                  (all_seen h K t.type_vars σ Γ B A around Q keys k Ts reg out inside) set_first
                  (all_known h K t.type_vars σ Γ B A around Q keys k Ts reg out inside known)

              pub predicate_is : (s : State) → s.now.terms ≡ started_with bs h.self.registers →
                  PredicateStands h.self.head front_of.begun.registers s × (head_passes (heads h s) h.self.head ≡ true) × (head_passes (is_known_head h) h.self.head ≡ true)
              predicate_is s now_is = predicate_fine h t.type_vars (Ts ++ Γ) (map (λ T. false) Ts ++ B) around (more_of Ts Q) head heads_fit
                  (all_seen h K t.type_vars σ Γ B A around Q keys k Ts reg out inside) set_first
                  front_of.begun.registers terms s (first_stands s now_is) (let c = captured_is in let e = begun_registers in omega (arith, c, e)) h.self.head
                  (head_predicate K front_of.begun front_of.matched around (around_of t.bank.now front_of.matched_env) h.self.head head
                  (subst (HeadWritten K front_of.begun front_of.matched around (around_of t.bank.now front_of.matched_env) h.self.head) hd_is front_of.head))

              fits_at : (s : State) → s.now.terms ≡ started_with bs h.self.registers → Fits s
              fits_at s e = subst (HeadFits h t.type_vars front_of.begun.registers (Ts ++ Γ) around s) (sym hd_is) (atom_fits, (predicate_is s e).0)

              head_said : (z : State) → HeadIs h terms around z (Some head) → bind_term (own_variables h.self) h.number 0 (head_term h z) ≡ with_variables σ A (length Ts) head
              head_said z is =
                  head_bound h K t.type_vars σ Γ B A around Q keys k Ts reg out inside (own_variables h.self) places z head is.0 heads_fit.known
                  (loose_at (HasLevel around) (more_of Ts Q) 0 0 0 head refl (λ i p le. let z : i ≡ i - 0 = omega arith in subst (HasLevel around) z (has_level i p)) heads_fit.loose)

              -- the key of the first argument, where the types and the head are run alone
              pub key_found : (later : Later) (s0 s : State) → ((rest : List Instr) → run h later s0 (own_types_code ++ rest) ≡ run h later s rest) → IsFirst s → TypesStand h t.type_vars
                  front_of.begun.types s → 0 < s.place →
                  s0.in_body ≡ false → s0.head_arguments ≡ [] → s0.frames ≡ [] → ((r : ℕ) → held s0.now.terms r ≡ None) → first_key (λ r. None) h.self.code.items ≡ first_key_of (arguments head)
              key_found later s0 s runs is_first st low before none closed unset =
                  let f0 = head_front later s (may s is_first st) (fits_at s is_first.0) in
                  let f = subst (FrontRan h later K t.type_vars w.body.begun.types w.body.begun.registers q terms (Ts ++ Γ) (map (λ T. false) Ts ++ B) around
                  (around_of t.bank.now w.fronted_env) (more_of Ts Q) s front) hd_is f0 in
                  let grow = f.place_grows in
                  let end = f.runs_before [] ∙ ran_out h later f.before (omega (arith, low, grow)) in
                  let rest = coded.0 ++ on.Proceed ∷ [] in
                  ap (first_key (λ r. None)) (code_is ∙ ap (λ l. own_types_code ++ l) (ap (λ l. l ++ rest) f.front_is ∙ append_assoc f.front (on.Neck ∷ []) rest) ∙ sym
                  (append_assoc own_types_code f.front (on.Neck ∷ rest)))
                  ∙ key_law h later (own_types_code ++ f.front) (coded.0 ++ on.Proceed ∷ []) s0 f.before (ap (run h later s0)
                  (sym (append-nil (own_types_code ++ f.front)) ∙ append_assoc own_types_code f.front []) ∙ runs (f.front ++ []) ∙ end) before none closed f.in_head unset
                  ∙ ap arguments_key (sym f.same_arguments) ∙ first_built f.state.head_arguments ∙ ap first_key_of f.head_is.1 ∙ first_key_with terms around (arguments head) no_keys
                where
                  first_built : (xs : List Built) → arguments_key xs ≡ first_key_of (plain_terms xs)
                  first_built [] = refl
                  first_built (x ∷ xs) = refl

                  no_keys : (l : ℕ) → key_in (terms l) ≡ None
                  no_keys l = go (nat_lt l around.base) refl
                    where
                      own_key : (x : Option Seen) → key_in (own_term h.number x) ≡ None
                      own_key None = refl
                      own_key (Some x) = refl

                      go : (c : Bool) → nat_lt l around.base ≡ c → key_in (terms l) ≡ None
                      go true e =
                          let low = ltb-true l around.base e in
                          let v = old_variable h K t.type_vars σ Γ B A around Q keys k Ts reg out inside l low in
                          ap key_in (old_term h.number around σ l low ∙ v.2)
                      go false e = ap (λ c. key_in (if c then σ l else own_term h.number (slice_get around.own (l - around.base)))) e ∙ own_key (slice_get around.own (l - around.base))

              -- an assumed record
              pub assumed_denoted : is_none part.within ≡ false → is_named h ≡ true → t.type_vars ≤ 65535 → (later : Later) (c0 : Captured) → c0.types ≡ map var (from_zero t.type_vars) →
                  c0.terms ≡ bs →
                  slice_get h.records h.number ≡ Some h.self → ((a : Around) (ns ls : List ℕ) (cs : Clauses) → AreNamed t cl first a ns ls cs → AreLater h t.type_vars (length ls) ns) → TellClauses h
                  later t.type_vars (AreNamed t cl first) →
                  (d : FlatClause) × (denoted h later c0 ≡ Some d) × (bare_clauses (clauses d no_clauses) ≡ said_clauses σ A 0 (clauses (clause 0 Ts head gs) no_clauses))
              assumed_denoted outer named few_types later c0 types terms_are self records told =
                  let s0 = first_state h.self c0 in
                  let p = predicate_is s0 (ap (λ l. started_with l h.self.registers) terms_are) in
                  let program : h.self.program ≡ false = w.is_program ∙ outer in
                  let kinds : h.self.captured_types ≡ t.type_vars = w.captured_types ∙ ap (λ b. if b then 0 else t.type_vars) outer in
                  let no_key : h.self.key ≡ key.None = subst (λ b. HasKey t.bank.now (origin.Clause c) b h.self.key) outer
                  (subst (λ z. HasKey t.bank.now z (is_none part.within) h.self.key) (o ∙ c_is) w.key_is) in
                  let begun : front_of.begun.types ≡ t.type_vars = front_of.entered.types_stay ∙ same_types (is_none part.within) w.begun w.typed t.type_vars w.made outer ∙ w.first_types ∙ ap
                  (λ b. if b then 0 else t.type_vars) outer in
                  let e0 = enough.0 in
                  let e1 = enough.1 in
                  let cap = captured_is in
                  let whole : Whole h s0 = record {
                    types = omega (arith, kinds, begun, e1);
                    terms = omega (arith, cap, e0);
                    known = p.2;
                    neck = has_neck_is;
                    headed = p.1;
                    ends = ends_is;
                    named = ap (λ b. if b then nat_eq (h.self.captured_types + h.self.captured) 0 else is_named h) program ∙ named;
                    key = assumed_key h program no_key;
                  } in
                  let st = subst (λ n. TypesStand h t.type_vars n s0) (sym begun) (assumed_types h c0 t.type_vars few_types types kinds (omega (arith, begun, e1)) whole) in
                  let r0 = ran_all later s0 s0 (λ rest. ap (λ b. run h later s0 (types_code b w.begun.types t.type_vars ++ rest)) outer)
                  (ap (λ l. started_with l h.self.registers) terms_are, ap from_zero w.captured_are, refl, refl, refl, refl, refl, refl) st self records told
                  (fits_at s0 (ap (λ l. started_with l h.self.registers) terms_are)) in
                  let r = subst (λ d. (x : RecordRan h later terms around s0 (front ++ (coded.0 ++ on.Proceed ∷ [])) d gs) × (run h later s0 h.self.code.items ≡ Done x.state)) hd_is r0 in
                  assumed_clause h later c0 σ A Ts head gs r.0.state r.1 program (types_of r.0.state r.0.own) (head_said r.0.state r.0.head_is)
                  (body_said (own_variables h.self) places r.0.state.goals r.0.said)

              pub program_denoted : is_none part.within ≡ true → t.type_vars ≤ 65535 → k ≡ 0 → bs ≡ [] → AllLoose NoIndex (length Ts) head → AreThrough (AllLoose NoIndex) (length Ts) gs →
                  written_goals
                  gs ≡ gs → (later : Later) →
                  slice_get h.records h.number ≡ Some h.self → ((a : Around) (ns ls : List ℕ) (cs : Clauses) → AreNamed t cl first a ns ls cs → AreLater h t.type_vars (length ls) ns) → TellClauses h
                  later t.type_vars (AreNamed t cl first) →
                  denoted h later nothing_captured ≡ Some (clause t.type_vars Ts head gs)
              program_denoted outer few_types none_captured nothing no_index no_indices written later self records told =
                  let s0 = first_state h.self nothing_captured in
                  let s1 : State = record {
                    place = 1;
                    now = s0.now;
                    types_set = s0.types_set;
                    terms_set = s0.terms_set;
                    in_body = s0.in_body;
                    head_types = s0.head_types;
                    head_arguments = s0.head_arguments;
                    goals = s0.goals;
                    frames = s0.frames;
                    assumed = s0.assumed;
                  } in
                  let program = is_program outer few_types none_captured nothing in
                  let kinds = no_kinds outer few_types none_captured nothing in
                  let begun = begun_types outer few_types none_captured nothing in
                  let low = enough_types outer few_types none_captured nothing in
                  let code = program_code outer in
                  let now_is : s0.now.terms ≡ started_with bs h.self.registers = ap (λ l. started_with l h.self.registers) (sym nothing) in
                  let p = predicate_is s0 now_is in
                  let cap = captured_is in
                  let y1 = typed h t.type_vars (front ++ (coded.0 ++ on.Proceed ∷ [])) code no_new_types low later s1 refl (ap from_zero kinds) refl refl program few_types
                  (λ e r. absurd (one_is_not (eqb-true 1 0 e))) in
                  let grow = y1.place_grows in
                  let key = key_found later s1 y1.state (λ rest. ap (run h later s1) (own_code outer few_types none_captured nothing rest) ∙ y1.runs rest)
                  (first_of outer few_types none_captured nothing s1 refl refl refl refl refl refl refl refl later y1)
                  (subst (λ n. TypesStand h t.type_vars n y1.state) (sym begun) y1.stand) (omega (arith, grow)) refl refl refl (λ r. none_started r) in
                  let has_key : key_is h.self.key (first_key_of (arguments head)) ≡ true =
                  subst (λ b. HasKey t.bank.now (origin.Clause c) b h.self.key) outer (subst (λ z. HasKey t.bank.now z (is_none part.within) h.self.key) (o ∙ c_is) w.key_is) in
                  let e0 = enough.0 in
                  let whole : Whole h s0 = record {
                    types = omega (arith, kinds);
                    terms = omega (arith, cap, e0);
                    known = p.2;
                    neck = has_neck_is;
                    headed = p.1;
                    ends = ends_is;
                    named = ap (λ b. if b then nat_eq (h.self.captured_types + h.self.captured) 0 else is_named h) program ∙ eq-eqb (h.self.captured_types + h.self.captured) 0
                        (omega (arith, kinds, cap, none_captured));
                    key = program_key h (first_key_of (arguments head)) program key has_key;
                  } in
                  let x = program_ran outer few_types none_captured nothing later self records told whole fits_at in
                  let r = subst (λ d. (y : RecordRan h later terms around x.0 (front ++ (coded.0 ++ on.Proceed ∷ [])) d gs) × (run h later s0 h.self.code.items ≡ Done y.state)) hd_is (x.1, x.2) in
                  program_clause h later nothing_captured σ A t.type_vars Ts head gs r.0.state r.1 program (own_count h t.type_vars (front ++ (coded.0 ++ on.Proceed ∷ [])) code no_new_types low)
                  (types_of r.0.state r.0.own) (head_said r.0.state r.0.head_is) (body_said (own_variables h.self) places r.0.state.goals r.0.said) no_index no_indices written
                where
                  one_is_not : ◌≡◌ {A = ℕ} 1 0 → ⊥
                  one_is_not e = absurd (omega (arith, e))

                  none_started : (r : ℕ) → held (started_with {A = Built} [] h.self.registers) r ≡ None
                  none_started r = behind_held [] h.self.registers r (omega arith)

          -- a query
          module _ (q1 : Bor query.Typed) (gs1 : Bor (List code_goal.Goal)) (q_is : o1 ≡ origin.Query q1 gs1) where
            abbrev pub Us : List Ty
            Us = types_at t.bank.now (map (λ v. v.1) q1.now.vars.items)

            ts_are : Ts ≡ reverse Us
            ts_are = ap (index_types t.bank.now) q_is

            no_hd : hd ≡ None
            no_hd = ap (head_in t.bank.now) q_is

            back_is : (i : ℕ) → reg i ≡ k + (length Us - 1 - i)
            back_is i = ap (λ u. own_register t.bank.now u k i) q_is

            many_us : length Us ≡ length Ts
            many_us = sym (ap length ts_are ∙ length-reverse Us)

            pub no_head : h.self.head ≡ None
            no_head = go h.self.head (subst (HeadWritten K front_of.begun front_of.matched around (around_of t.bank.now front_of.matched_env) h.self.head) no_hd front_of.head)
              where
                go : (p : Option RecordHead) → HeadWritten K front_of.begun front_of.matched around (around_of t.bank.now front_of.matched_env) p None → p ≡ None
                go None x = refl
                go (Some p) x = absurd x

            there : (i : ℕ) (U : Ty) → slice_get Us i ≡ Some U → (j : ℕ) × (slice_get Ts j ≡ Some U) × (reg j ≡ k + i)
            there i U e =
                let low = slice_get_within Us i U e in
                let j : ℕ = length Us - 1 - i in
                (j, ap (λ l. slice_get l j) ts_are ∙ at_reverse Us i j U e refl, back_is j ∙ (let z : length Us - 1 - j ≡ i = omega (arith, low) in ap (λ n. k + n) z))

            back_places : (d j : ℕ) → j < length Ts → placed (reverse (own_variables h.self)) d (reg j) ≡ Some (d + j)
            back_places d j l =
                let many = many_us in
                (λ i. placed (reverse (own_registers i)) d (back_is j i)) ∙ ap (λ n. placed (reverse (numbers k (length Ts))) d (k + (n - 1 - j))) many ∙ placed_back (length Ts) k d j l

            pub query_denoted : is_none part.within ≡ true → t.type_vars ≤ 65535 → k ≡ 0 → bs ≡ [] → AreThrough (AllLoose NoIndex) (length Ts) gs → written_goals gs ≡ gs → (later : Later) →
                slice_get h.records h.number ≡ Some h.self → ((a : Around) (ns ls : List ℕ) (cs : Clauses) → AreNamed t cl first a ns ls cs → AreLater h t.type_vars (length ls) ns) →
                TellClauses h later t.type_vars (AreNamed t cl first) →
                query_ran h (run h later (first_state h.self nothing_captured) h.self.code.items) ≡ Some (record { type_vars = t.type_vars; vars = Us; body = gs })
            query_denoted outer few_types none_captured nothing no_indices written later self records told =
                let s0 = first_state h.self nothing_captured in
                let program = is_program outer few_types none_captured nothing in
                let kinds = no_kinds outer few_types none_captured nothing in
                let low = enough_types outer few_types none_captured nothing in
                let cap = captured_is in
                let e0 = enough.0 in
                let none = no_head in
                let whole : Whole h s0 = record {
                  types = omega (arith, kinds);
                  terms = omega (arith, cap, e0);
                  known = ap (head_passes (is_known_head h)) none;
                  neck = has_neck_is;
                  headed = ap (head_passes (heads h s0)) none;
                  ends = ends_is;
                  named = ap (λ b. if b then nat_eq (h.self.captured_types + h.self.captured) 0 else is_named h) program ∙ eq-eqb (h.self.captured_types + h.self.captured) 0
                      (omega (arith, kinds, cap, none_captured));
                  key = ap (λ p. is_none p || (if h.self.program then key_is h.self.key (first_key (λ r. None) h.self.code.items) else key_is h.self.key None)) none;
                } in
                let x = program_ran outer few_types none_captured nothing later self records told whole (λ s e. subst (HeadFits h t.type_vars front_of.begun.registers (Ts ++ Γ) around s)
                (sym no_hd) none) in
                let z = x.1.state in
                let rs = reverse (own_variables h.self) in
                ap (query_ran h) x.2
                ∙ (λ i. Some (record {
                  type_vars = own_count h t.type_vars (front ++ (coded.0 ++ on.Proceed ∷ [])) (program_code outer) no_new_types low i;
                  vars = types_said z x.1.own Us many_us there i;
                  body = (written_same (bind_goals rs h.number z.goals) gs (body_said rs back_places z.goals x.1.said ∙ goals_stay σ A (length Ts) gs no_indices) ∙ written) i;
                }))
