-- No goal has both a search that holds and a failing search. The first gives, for each types of the type variables that its branch began with, a closing with which its
-- goals have a proof whose leaves have fewer steps than it. What is written in the goals is the same under each closing, so they are provable under that of the second
-- one; and this says that there is no such proof. By induction on the steps of both.
use Rattle.std.proofs.Common.{◌≡◌, ◌≤◌, ◌<◌, ◌+◌, ℕ, zero, suc, List, [], ◌∷◌, ◌++◌, map, length, Some, refl, sym, ap, ◌∙◌, subst as transport, inl, inr, arith}
use Rattle.std.specs.Prelude.{Bool, true, false}
use Rattle.std.proofs.lemmas.List.{length-map}
use Rattle.lp_calculus.specs.Types.{Ty, instance}
use Rattle.lp_calculus.specs.Closed.{IsClosedType}
use Rattle.lp_calculus.specs.Term.{Term}
use Rattle.lp_calculus.specs.Convert.{Converts}
use Rattle.lp_calculus.specs.Fill.{close}
use Rattle.lp_calculus.specs.Typing.{o_type, type_at}
use Rattle.lp_calculus.proofs.Steps.{converts_on, converts_sym}
use Rattle.lp_lemmas.specs.Each.{AnyOf, EachOf}
use Rattle.lp_standard.specs.Schemes.{IsStandard}
use Rattle.lp_model.specs.Unify.{unit_limit}
use Rattle.lp_model.specs.Skeleton.{Told, Note, Held, starts_within, inner, run}
use Rattle.lp_model.specs.Flat.{Goal, Goals, Written, Clause, goal_list, formula_of_goal, formula_of_goals, formula_of_clause}
use Rattle.lp_model.specs.Flatten.{ClauseFormula}
use Rattle.lp_model.specs.Pair.{Closing, closed, SolvesAll}
use Rattle.lp_model.specs.Branch.{Answer, Task, Go, Entry, entries, both_written}
use Rattle.lp_model.specs.Search.{look, has_no_pairs, has_variables, types_from}
use Rattle.lp_model.specs.Answers.{Query, Variable, Closes, Instance, IsInstance, IsWellFormed, TypedAnswer, ConvertEach}
use Rattle.lp_model.specs.Proofs.{Declared, Failure, IsFormula, IsWitness, Leaves, ProvableBy, newest_first}
use Rattle.lp_standard.specs.Connectives.{not_of}
use Rattle.lp_proof_laws.proofs.Uniform.Heads.{denial_root_by}
use Rattle.lp_proof_laws.proofs.Uniform.Settings.{IsSetting}
use Rattle.lp_proof_laws.proofs.Uniform.Uniforms.{by_conversion}
use Rattle.lp_search_laws.specs.Holds.{Holds, IsTyped}
use Rattle.lp_search_laws.specs.Denials.{denied_branch, denied_task}
use Rattle.lp_search_laws.specs.Clauses.{sentence_of, clauses_at}
use Rattle.lp_search_laws.specs.Failed.{InAny, IsFailedSearch, failed_run, failing_branch, failing_typing}
use Rattle.lp_search_laws.specs.Written.{IsOrigin, IsWrittenPlace, HasOrigin}
use Rattle.lp_search_laws.specs.Branches.{no_query, denied_typing, ArePlainEntries, AreTypedEntries, IsPlainVariable, AreProved, IsTypedBranch, IsProgramTyped, IsQueryInstance, SolvesBranch, TypedTask, going, task_of, Sol, IsOk}
use Rattle.lp_search_laws.specs.Views.{DeniesTyped}
use Rattle.lp_search_laws.proofs.Entries.{formulas, each_assumed, assumed_formulas, converted_all}
use Rattle.lp_search_laws.proofs.FailedSearches.{KeepsSame, setting_of, failed_same, more_same}
use Rattle.lp_search_laws.proofs.ClosedTerms.{all_closed}
use Rattle.lp_search_laws.proofs.FlatViews.{goals_proved}
use Rattle.lp_search_laws.proofs.Formed.{formula_at}
use Rattle.lp_search_laws.proofs.Fronts.{each_at}
use Rattle.lp_search_laws.proofs.HeldRuns.{typed_query, carrying, carrying_typed, held_run, held_types}
use Rattle.lp_search_laws.proofs.Judged.{no_values, query, no_answers, closing_with, closing_closes, none, no_pairs, no_typed_values}
use Rattle.lp_search_laws.proofs.KeptStarts.{program_comes}
use Rattle.lp_search_laws.proofs.LooksRight.{each_look}
use Rattle.lp_search_laws.proofs.Queries.{types_given, types_count}
use Rattle.lp_search_laws.proofs.PlainTypes.{agree_list, agree_type, agree_term, IsBelow}
use Rattle.lp_search_laws.proofs.RefutedLeaves.{denied_leaf}
use Rattle.lp_search_laws.proofs.Resumed.{IsSame, same_proved, entries_agree, plain_closes}
use Rattle.lp_search_laws.proofs.Runs.{AnyTask, Proves, Excludes, RightRun, all_stay, run_right}
use Rattle.lp_search_laws.proofs.SameProofs.{same_provable}
use Rattle.lp_search_laws.proofs.Stack.Ends.{leaves_any}
use Rattle.lp_search_laws.proofs.Tested.{tested_stays}
use Rattle.lp_search_laws.proofs.TypedParts.{goals_together}
use Rattle.lp_search_laws.proofs.WrittenAlone.{each_parts, goals_alike, clause_alike}

-- closings that agree on the type variables below k
module _ (d : Declared) (k : ℕ) (V : List Variable) (plain : EachOf (IsPlainVariable k) V) (c z : Closing) (agree : (i : ℕ) → i < k → c.types i ≡ z.types i) where
  abbrev pub retyped : Closing
  retyped = record { types = z.types; terms = c.terms }

  pub retyped_closes : Closes d V c → Closes d V z → Closes d V retyped
  retyped_closes h l = record {
    types = l.types;
    terms = λ x v e.
        let w = plain_closes d k V plain x v e in
        transport (λ X. IsWitness d X (c.terms x (length v.scope)) (instance z.types v.type)) (agree_list k c.types z.types agree v.scope w.scope)
        (transport (IsWitness d (map (instance c.types) v.scope) (c.terms x (length v.scope))) (agree_type k c.types z.types agree v.type w.type) (h.terms x v e));
  }

  retyped_same : (t : Term) → IsBelow k t → IsSame c retyped t
  retyped_same t w = ap (close c.terms) (agree_term k c.types z.types agree t w)

  pub retyped_proved : (L : Leaves) (P : List Clause) (Es : List (List Ty)) (es : List Entry) → ArePlainEntries k Es es → AreProved L d P c Es es → AreProved L d P retyped Es es
  retyped_proved L P Es es w p = same_proved L d P c retyped Es es (entries_agree k c retyped agree retyped_same Es es w) p

-- types for m type variables
abbrev types_alone : (m : ℕ) → (ℕ → Ty) → Instance
types_alone m θ = record { types = map (instance θ) (types_from m 0); values = [] }

module _ (d : Declared) (m : ℕ) (θ : ℕ → Ty) (h : (i : ℕ) → IsClosedType (θ i)) where
  alone_query : IsQueryInstance d (typed_query m) (types_alone m θ)
  alone_query = record { types = types_count θ m 0; types_closed = all_closed θ h (types_from m 0); values = tt }

  alone_instance : (x : TypedAnswer) → IsWellFormed d (typed_query m) x.typing x.answer → has_no_pairs x.answer ≡ true → x.answer.types ≡ types_from m 0 → IsInstance d x.typing x.answer (types_alone m θ)
  alone_instance x w f e =
      let c = closing_with θ x.typing.variables in
      let ps = none x.answer.pairs (no_pairs (length x.answer.pairs) f) in
      let vs = no_typed_values d x.typing.variables x.answer.values w.values in
      record {
        closing = c;
        closes = closing_closes θ h d x.typing.variables;
        solves = transport (SolvesAll c) (sym ps) tt;
        types = ap (map (instance θ)) e;
        values = transport (λ us. ConvertEach (map (closed c) us) []) (sym vs) tt;
      }

  -- what holds of each instance of the first answer, where that leaves no pairs and has its type variables still
  first_alone : (S : Instance → Type 0) (a : Answer) (more : List Answer) (xs : List TypedAnswer) → map (λ x. x.answer) xs ≡ a ∷ more → has_no_pairs a ≡ true → a.types ≡ types_from m 0 → EachOf (λ x. IsWellFormed d (typed_query m) x.typing x.answer) xs →
      EachOf (λ x. (i : Instance) → IsQueryInstance d (typed_query m) i → IsInstance d x.typing x.answer i → S i) xs → S (types_alone m θ)
  first_alone S a more [] e f t w s = absurd (cc)
  first_alone S a more (x ∷ xs) e f t w s = let q : x.answer ≡ a = cc in s.0 (types_alone m θ) alone_query (alone_instance x w.0 (ap has_no_pairs q ∙ f) (ap (λ (b : Answer). b.types) q ∙ t))

-- a negated goal at which a search holds: what is written there is tested
pub record IsHeldAt (d : Declared) (P : List Clause) (n j : ℕ) (V : List Variable) (m : ℕ) (E : List Ty) (gs : Goals) (A : List Clause) (c : ℕ) : Type 0 where
  pub own : Written
  pub written : Written
  pub origin : IsOrigin own gs
  pub place : IsWrittenPlace A written
  pub tested : has_variables n (both_written own written) ≡ Some false
  pub begins : IsTypedBranch n d no_query (denied_typing V E gs) (denied_branch (length V) m gs A written (length E))
  pub typed : IsTyped d E V (formula_of_goals gs) o_type
  pub assumed_typed : EachOf (λ k. IsTyped d E V (formula_of_clause k) o_type) A
  pub steps : ℕ
  pub rows : ℕ
  pub row : ℕ
  pub notes : List Note
  pub holds : inner (look unit_limit n P) j has_no_pairs (starts_within rows (denied_task (length V) m gs A written (length E)) steps 1) ≡ Held c notes row

-- its goals are the same under each closing, and so are the clauses that are assumed there
module _ (d : Declared) (P : List Clause) (n j : ℕ) (V : List Variable) (m : ℕ) (E : List Ty) (gs : Goals) (A : List Clause) (k : ℕ) (h : IsHeldAt d P n j V m E gs A k) (c z : Closing) (types : z.types ≡ c.types) where
  abbrev Same : Term → Type 0
  Same t = Converts (closed c t) (closed z t)

  terms_same : (ts : List Term) → EachOf (λ t. Converts (closed c t) t) ts → EachOf (λ t. Converts (closed z t) t) ts → EachOf Same ts
  terms_same [] x y = tt
  terms_same (t ∷ ts) x y = (converts_on x.0 (converts_sym y.0), terms_same ts x.1 y.1)

  written_same : EachOf Same h.own.terms × EachOf Same h.written.terms
  written_same = each_parts Same h.own.terms h.written.terms (terms_same (both_written h.own h.written).terms (tested_stays n (both_written h.own h.written) h.tested c).0 (tested_stays n (both_written h.own h.written) h.tested z).0)

  pub goals_same : Same (formula_of_goals gs)
  goals_same = goals_alike c z types h.own gs h.origin written_same.0

  clauses_same : (A : List Clause) → EachOf (λ k. HasOrigin k h.written) A → EachOf (λ k. IsTyped d E V (formula_of_clause k) o_type) A → Closes d V c → Closes d V z → (F : List Ty) → map (instance c.types) E ≡ F → map (instance z.types) E ≡ F →
      EachOf (λ t. IsFormula d F (closed c t) × IsFormula d F (closed z t) × Converts (closed c t) (closed z t)) (formulas A)
  clauses_same [] o w cl zl F e f = tt
  clauses_same (x ∷ A) o w cl zl F e f = (
    (transport (λ X. IsFormula d X (closed c (formula_of_clause x))) e (formula_at d V c cl E (formula_of_clause x) w.0), transport (λ X. IsFormula d X (closed z (formula_of_clause x))) f (formula_at d V z zl E (formula_of_clause x) w.0), clause_alike c z types x h.written o.0 written_same.1),
    clauses_same A o.1 w.1 cl zl F e f,
  )

  -- so what is provable under the one is provable under the other
  pub provable_under : {L : Leaves} → IsSetting L d → Closes d V c → Closes d V z → Holds L d (map (instance c.types) E) (clauses_at P A c) c (formula_of_goals gs) → Holds L d (map (instance z.types) E) (clauses_at P A z) z (formula_of_goals gs)
  provable_under {L} std cl zl p =
      let F = map (instance z.types) E in
      let e : map (instance c.types) E ≡ F = ap (λ θ. map (instance θ) E) (sym types) in
      let S = map sentence_of P in
      let G = closed c (formula_of_goals gs) in
      let p1 : ProvableBy L d F (S ++ each_assumed (closed c) (formulas A)) G = transport (λ X. ProvableBy L d X (S ++ each_assumed (closed c) (formulas A)) G) e (transport (λ X. ProvableBy L d (map (instance c.types) E) (S ++ X) G) (assumed_formulas c A) p) in
      let p2 = converted_all d std.converting F (closed c) (closed z) G (formulas A) (clauses_same A h.place.origins h.assumed_typed cl zl F e refl) S p1 in
      let p3 : ProvableBy L d F (clauses_at P A z) G = transport (λ X. ProvableBy L d F (S ++ X) G) (sym (assumed_formulas z A)) p2 in
      by_conversion d F (clauses_at P A z) (closed z (formula_of_goals gs)) G (transport (λ X. IsFormula d X G) e (formula_at d V c cl E (formula_of_goals gs) h.typed)) goals_same p3

module _ (d : Declared) (std : IsStandard d) (P : List Clause) (program : EachOf (IsProgramTyped d) P) where
  -- failing searches of fewer than k steps
  abbrev pub Below : ℕ → Leaves
  Below k E R G f = IsFailedSearch InAny d P E R G f × ((failed_run (length E) f).steps < k)

  below_same : (k : ℕ) → KeepsSame InAny P (Below k) d
  below_same k = more_same d (failed_same InAny d P) (λ E f. (failed_run (length E) f).steps < k)

  -- a run of one typed task
  module _ (L : Leaves) (same : KeepsSame InAny P L d) (n j : ℕ) (q : Query) (Few Fewer : ℕ → Type 0) (few : (x y : ℕ) → x ≤ y → Few y → Few x)
      (fewer : (x y : ℕ) → x ≤ y → Fewer y → Fewer x) (proves : Proves n d P q L j AnyTask AnyTask Few Fewer)
      (excludes : Excludes n d P q L j AnyTask AnyTask Few Fewer) where
    pub typed_run : (m rows steps answers : ℕ) (T : TypedTask) → IsOk n d P q T → RightRun n d P q L j AnyTask AnyTask Few Fewer false (T ∷ []) (run (look unit_limit n P) j m (starts_within rows (task_of T) steps answers))
    typed_run m rows steps answers T k =
        run_right n d P q L j AnyTask AnyTask Few Fewer (λ height U w. each_look n d (setting_of d same std) P program q height U w)
        (λ height U w v. all_stay AnyTask (look unit_limit n P height (task_of U)) (leaves_any (look unit_limit n P height (task_of U)))) few fewer proves excludes m
        (starts_within rows (task_of T) steps answers) (T ∷ []) refl ((k, tt), tt)

  shorter : (b x y : ℕ) → x ≤ y → y ≤ b → x ≤ b
  shorter b x y l h = omega (arith, l, h)

  -- the search of a negated goal that holds in c steps, and a failing search of t steps for its goals
  abbrev pub Clash : (c t : ℕ) → Type 0
  Clash c t = (n j : ℕ) (V : List Variable) (m : ℕ) (E : List Ty) (gs : Goals) (A : List Clause) → IsHeldAt d P n j V m E gs A c → (z : Closing) →
      Closes d V z → (f : Failure) → IsFailedSearch InAny d P (map (instance z.types) E) (clauses_at P A z) (closed z (formula_of_goals gs)) f →
      (failed_run (length (map (instance z.types) E)) f).steps ≡ t → ⊥

  -- where its search is held
  pub held_at : {L : Leaves} (n j : ℕ) (q : Query) (T : TypedTask) (u : Task) (g : Answer → Bool) (ts : List Task)
      (r : DeniesTyped L n d P q T u g ts) → (steps rows k p : ℕ) (ns : List Note) → inner (look unit_limit n P) j g (starts_within rows u steps 1) ≡
      Held k ns p → IsHeldAt d P n j r.variables r.next_type r.eigens r.goals r.assumed k
  held_at n j q T u g ts r steps rows k p ns e =
      record {
        own = r.own;
        written = r.written;
        origin = r.origin;
        place = r.place;
        tested = r.tested;
        begins = r.begins;
        typed = r.typed;
        assumed_typed = r.assumed_typed;
        steps = steps;
        rows = rows;
        row = p;
        notes = ns;
        holds = transport (λ v. inner (look unit_limit n P) j has_no_pairs (starts_within rows v steps 1) ≡ Held k ns p) r.is (transport (λ f. inner (look unit_limit n P) j f (starts_within rows u steps 1) ≡ Held k ns p) r.final e);
      }

  -- what a refuted search proves
  pub proves_failing : (n j : ℕ) (q : Query) → (Fewer : ℕ → Type 0) → Proves n d P q (IsFailedSearch InAny d P) j AnyTask AnyTask (λ x. Unit {0}) Fewer
  proves_failing n j q Fewer T u g ts r m steps rows k p ns e l c cl =
      let y = denied_leaf InAny n d P q j T u g ts r steps rows k p ns e c cl in
      (y.leaf, y.fails)

  proves_below : (b n j : ℕ) (q : Query) → (Fewer : ℕ → Type 0) → Proves n d P q (Below b) j AnyTask AnyTask (λ x. x ≤ b) Fewer
  proves_below b n j q Fewer T u g ts r m steps rows k p ns e l c cl =
      let y = denied_leaf InAny n d P q j T u g ts r steps rows k p ns e c cl in
      let s : (failed_run (length (map (instance c.types) r.eigens)) y.leaf).steps ≡ k = ap (λ h. (failed_run h y.leaf).steps) (length-map r.eigens (instance c.types)) ∙ y.steps in
      (y.leaf, (y.fails, omega (arith, s, l)))

  -- a search that holds makes its goals provable under each closing, with leaves of fewer steps
  module _ (L : Leaves) (same : KeepsSame InAny P L d) (n j : ℕ) (Few : ℕ → Type 0) (few : (x y : ℕ) → x ≤ y → Few y → Few x) (V : List Variable)
      (m : ℕ) (E : List Ty) (gs : Goals) (A : List Clause) (c : ℕ) (h : IsHeldAt d P n j V m E gs A c)
      (proves : Proves n d P (typed_query m) L j AnyTask AnyTask Few (λ x. ⊥)) (enough : Few c) where
    abbrev first : TypedTask
    first = going (denied_typing V E gs) (carrying (length V) m gs A h.written (length E))

    -- with any types for the type variables of the branch
    held_solves : (z : Closing) → Closes d V z → SolvesBranch L d P (typed_query m) (types_alone m z.types) (denied_typing V E gs) (carrying (length V) m gs A h.written (length E))
    held_solves z zl =
        let r = typed_run L same n j (typed_query m) Few (λ x. ⊥) few (λ x y l f. f) proves (λ T u g ts r o st rows k p ns e x. absurd x) j h.rows h.steps 1 first (carrying_typed n d V m E gs A h.written h.begins) in
        let a = held_run n j P (length V) m gs A h.written (length E) h.steps h.rows c h.row h.notes h.holds in
        let t = held_types n j P (program_comes d P program) (length V) m E gs A h.own h.written (length E) h.steps h.rows h.origin h.place h.tested h.begins.goals in
        let t1 = (transport (EachOf (λ b. b.types ≡ types_from m 0)) a.answers t).0 in
        elim (first_alone d m z.types zl.types (λ i. AnyOf (Sol L d P (typed_query m) i) (first ∷ [])) a.first a.more r.typed (r.is ∙ a.answers) a.final t1 r.well_formed (r.sound (transport Few (sym a.taken) enough))) [ inl x ↦ x | inr x ↦ absurd x ]

    pub held_provable : (z : Closing) → Closes d V z → Holds L d (map (instance z.types) E) (clauses_at P A z) z (formula_of_goals gs)
    held_provable z zl =
        let s = held_solves z zl in
        let y = s.answer.closing in
        let agree : (i : ℕ) → i < m → y.types i ≡ z.types i = λ i l. let e : 0 + i ≡ i = omega arith in transport (λ k. y.types k ≡ z.types k) e (sym (types_given y.types m 0 i l) ∙ ap (λ ts. type_at ts i) s.answer.types ∙ types_given z.types m 0 i l) in
        let x = retyped d m V h.begins.variables y z agree in
        let xl = retyped_closes d m V h.begins.variables y z agree s.answer.closes zl in
        let set = setting_of d same std in
        let p = retyped_proved d m V h.begins.variables y z agree L P (each_at E (goal_list gs)) (entries (goal_list gs) A h.written (length E) 0) h.begins.goals s.proved in
        provable_under d P n j V m E gs A c h x z refl set xl zl ((goals_proved d set P V x xl E A h.written (length E) 0 gs h.typed).1 p)

  -- the goals of a failing search are typed
  typed_entries : (V : List Variable) (E : List Ty) (A : List Clause) (w : Written) (l m : ℕ) (gs : List Goal) → AreTypedEntries d V (each_at E gs) (entries gs A w l m) → EachOf (λ g. IsTyped d E V (formula_of_goal g) o_type) gs
  typed_entries V E A w l m [] h = tt
  typed_entries V E A w l m (g ∷ gs) h = (h.0.goal, typed_entries V E A w l m gs h.1)

  -- a failing search refutes what has a proof, where no leaf of the proof is for goals at which a search holds in few steps
  module _ (L : Leaves) (same : KeepsSame InAny P L d) (Fewer : ℕ → Type 0) (fewer : (x y : ℕ) → x ≤ y → Fewer y → Fewer x) (excludes : (n j : ℕ) → Excludes n d P no_query L j AnyTask AnyTask (λ x. ⊥) Fewer) where
    failing_refutes : (E : List Ty) (R : List ClauseFormula) (G : Term) (f : Failure) → IsFailedSearch InAny d P E R G f → Fewer (failed_run (length E) f).steps → ProvableBy L d E R G → ⊥
    failing_refutes E R G f h few p =
        let F = h.eigens in
        let c = h.closing in
        let A = newest_first f.assumed in
        let typed = goals_together d std F f.variables f.goals (typed_entries f.variables F A f.written (length F) 0 (goal_list f.goals) h.begins.entries) in
        let p1 = (same_provable d std InAny P same E (clauses_at P A c) R (closed c (formula_of_goals f.goals)) G h.clauses h.goal).1 p in
        let p2 = transport (λ X. ProvableBy L d X (clauses_at P A c) (closed c (formula_of_goals f.goals))) (sym h.is_closed) p1 in
        let y : SolvesBranch L d P no_query no_values (failing_typing F f) (failing_branch (length F) f) = record {
          query = query d;
          answer = record { closing = c; closes = h.closes; solves = tt; types = refl; values = tt };
          proved = (goals_proved d (setting_of d same std) P f.variables c h.closes F A f.written (length F) 0 f.goals typed).0 p2;
        } in
        let told : failed_run (length F) f ≡ run (look unit_limit f.looks P) f.moves f.moves
        (starts_within f.limit (Go (failing_branch (length F) f)) f.limit 1) = ap
        (λ Q. run (look unit_limit f.looks Q) f.moves f.moves (starts_within f.limit (Go (failing_branch (length F) f)) f.limit 1)) h.program in
        let level : length E ≡ length F = ap length (sym h.is_closed) ∙ length-map F (instance c.types) in
        let r = typed_run L same f.looks f.moves no_query (λ x. ⊥) Fewer (λ x z l e. e) fewer (λ T u g ts r m st rows k q ns e w. absurd w) (excludes f.looks f.moves) f.moves f.limit f.limit 1 (going (failing_typing F f) (failing_branch (length F) f)) h.begins in
        let ends = ap (λ (w : Told Answer). w.ending) (sym told) ∙ h.ends in
        let none = ap (λ (w : Told Answer). w.answers) (sym told) ∙ h.gives_none in
        no_answers d r.typed (r.is ∙ none) (r.exhausts ends (transport (λ (w : Told Answer). Fewer w.steps) told (transport (λ l. Fewer (failed_run l f).steps) level few)) no_values (inl y))

  -- where failing searches of fewer than b steps clash with none that holds in fewer than t
  excludes_below : (b t : ℕ) → ((c' t' : ℕ) → suc c' ≤ t → t' < b → Clash c' t') → (n j : ℕ) (q : Query) (Few : ℕ → Type 0) → Excludes n d P q (Below b) j AnyTask AnyTask Few (λ x. x ≤ t)
  excludes_below b t clash n j q Few T u g ts r m steps rows k p ns e l c cl x =
      clash k (failed_run (length (map (instance c.types) r.eigens)) x.0).steps l x.1.1 n j r.variables r.next_type r.eigens r.goals r.assumed (held_at n j q T u g ts r steps rows k p ns e) c cl x.0 x.1.0 refl

  clash_within : (k c t : ℕ) → c + t < k → Clash c t
  clash_within zero c t l n j V m E gs A h z zl f x e = absurd (omega (arith, l))
  clash_within (suc k) c t l n j V m E gs A h z zl f x e =
      failing_refutes (Below c) (below_same c) (λ y. y ≤ t) (shorter t) (λ n' j'. excludes_below c t (λ c' t' i i'. clash_within k c' t' (omega (arith, l, i, i'))) n' j' no_query (λ y. ⊥))
      (map (instance z.types) E) (clauses_at P A z) (closed z (formula_of_goals gs)) f x (omega (arith, e)) (held_provable (Below c) (below_same c) n j (λ x. x ≤ c) (shorter c) V m E gs A c h (proves_below c n j (typed_query m) (λ x. ⊥)) (omega arith) z zl)

  pub consistent : (c t : ℕ) → Clash c t
  consistent c t = clash_within (suc (c + t)) c t (omega arith)

  pub excludes_failing : (n j : ℕ) (q : Query) (Few : ℕ → Type 0) → Excludes n d P q (IsFailedSearch InAny d P) j AnyTask AnyTask Few (λ x. Unit {0})
  excludes_failing n j q Few T u g ts r m steps rows k p ns e l c cl x =
      consistent k (failed_run (length (map (instance c.types) r.eigens)) x.0).steps n j r.variables r.next_type r.eigens r.goals r.assumed (held_at n j q T u g ts r steps rows k p ns e) c cl x.0 x.1 refl

  -- no formula and its negation are provable
  pub never_both : (E : List Ty) (R : List ClauseFormula) (G : Term) → IsFormula d E (not_of G) → ProvableBy (IsFailedSearch InAny d P) d E R G → ProvableBy (IsFailedSearch InAny d P) d E R (not_of G) → ⊥
  never_both E R G f p p' =
      let x = denial_root_by (IsFailedSearch InAny d P) d std E R G f ((setting_of d (failed_same InAny d P) std).converting R) p' in
      failing_refutes (IsFailedSearch InAny d P) (failed_same InAny d P) (λ y. Unit {0}) (λ y z l e. e) (λ n j. excludes_failing n j no_query (λ y. ⊥)) E R G x.0 x.1 tt p
