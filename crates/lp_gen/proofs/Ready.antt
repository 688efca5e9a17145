-- Clauses of which there is code pass no limit but those of code: strings, records and registers.
use Rattle.std.proofs.Common.{◌≡◌, ◌≤◌, ℕ, zero, suc, ◌+◌, List, [], ◌∷◌, length, map, Bool, true, false, Option, Some, None, refl, arith}
use Rattle.std.specs.Prelude.{All, nat_eq, if◌then◌else◌}
use Rattle.std.proofs.lemmas.Bool.{eqb-true}
use Rattle.std.proofs.lemmas.List.Elements.{All-head, All-tail}
use Rattle.lp_base.specs.declared.limit.Limit.TheVariants as limit
use Rattle.lp_calculus.specs.Types.{Ty, arrow}
use Rattle.lp_calculus.specs.Term.{Term, index, atom, abs, app, constant, integer, text, eigen, logic, param}
use Rattle.lp_calculus.specs.Typing.{Scheme, o_type, type_at, scheme_type, HasType}
use Rattle.lp_calculus.specs.Types.{instance}
use Rattle.lp_term.specs.Nodes.{Nodes}
use Rattle.lp_model.specs.declared.program.Declared.{Declared}
use Rattle.lp_model.specs.declared.program.Typed as program
use Rattle.lp_model.specs.declared.clause.Goal as code_goal
use Rattle.lp_model.specs.declared.clause.Clause as code_clause
use Rattle.lp_model.specs.Flattened.{clause_of, goals_of, clauses_of}
use Rattle.lp_model.specs.Flat.{Goal, Goals, Clause, Clauses, Atomic, Cut, Either, Exists, Forall, Assume, Not, no_goals, goals, clause, no_clauses, clauses}
use Rattle.lp_code.specs.Symbolic.{Tables}
use Rattle.lp_gen.specs.declared.fault.GenRefusal.{GenRefusal}
use Rattle.lp_gen.specs.declared.fault.GenRefusal.TheVariants as refusal
use Rattle.lp_gen.specs.declared.limits.Look.TheVariants as look
use Rattle.lp_gen.specs.Contract.{tables_of}
use Rattle.lp_gen.specs.Sources.{types_by, IsKnownTerm, Under, bound, all_bound, IsAtom, IsGoal, AreGoals, AreAssumed, goal_depth, goals_depth, clauses_depth, IsClause, IsQuery}
use Rattle.lp_gen.specs.Limits.{term_counts, goal_counts, goals_counts, clauses_counts, in_arguments, in_nesting, of_arguments, of_nesting, Counts, counts_of_clauses, counts_of_goals}
use Rattle.lp_gen.specs.Limits.{IsTold, ClausesFull, QueryFull, ClausesPass, QueryPasses, IsOfCode, HaveFewTypes}
use Rattle.lp_gen.proofs.LimitsLeft.{past_within, clauses_split}

no_type : (T : Ty) → ◌≡◌ {A = Option Ty} None (Some T) → ⊥
no_type T e = cc

-- sums of nothing

both_fine : (a b c d : ℕ) → (a ≡ 0) × (c ≡ 0) → (b ≡ 0) × (d ≡ 0) → (a + b ≡ 0) × (c + d ≡ 0)
both_fine a b c d x y = let p = x.0 in let q = x.1 in let r = y.0 in let s = y.1 in (omega (arith, p, r), omega (arith, q, s))

three_fine : (a b c p q r : ℕ) → (a ≡ 0) × (p ≡ 0) → (b ≡ 0) × (q ≡ 0) → (c ≡ 0) × (r ≡ 0) → (0 + a + b + c ≡ 0) × (0 + p + q + r ≡ 0)
three_fine a b c p q r x y z =
    let i = x.0 in let j = x.1 in let k = y.0 in let l = y.1 in let m = z.0 in let n = z.1 in (omega (arith, i, k, m), omega (arith, j, l, n))

module _ (t : Tables) (few : HaveFewTypes t.constants) where
  few_types : (c : ℕ) (Ts : List Ty) (T : Ty) → scheme_type Ts (t.constants c) ≡ Some T → length Ts ≤ 255
  few_types c Ts T e = go (t.constants c) refl e
    where
      by_test : (s : Scheme) → t.constants c ≡ Some s → (q : Bool) → nat_eq (length Ts) s.count ≡ q → (if q then Some (instance (type_at Ts) s.body) else None) ≡ Some T → length Ts ≤ 255
      by_test s f true x g = let same = eqb-true (length Ts) s.count x in let m = few c s f in omega (arith, same, m)
      by_test s f false x g = absurd (no_type T g)

      go : (o : Option Scheme) → t.constants c ≡ o → scheme_type Ts o ≡ Some T → length Ts ≤ 255
      go None f g = absurd (no_type T g)
      go (Some s) f g = by_test s f (nat_eq (length Ts) s.count) refl g

  abbrev Fine : (m e : ℕ) → Term → Type 0
  Fine m e u = (term_counts in_arguments m u ≡ 0) × (term_counts in_nesting e u ≡ 0)

  term_fine : (C : List Ty) (κ : ℕ → Option ℕ) (n d m e : ℕ) (u : Term) (T : Ty) → HasType (types_by t) C u T → IsKnownTerm κ n d m u → m ≤ 255 → e + d ≤ 2000 → Fine m e u
  term_fine C κ n d m e (index i) T ty k lm le = (past_within 255 m lm, past_within 2000 e (omega (arith, le)))
  term_fine C κ n d m e (atom (constant c Ts)) T ty k lm le =
      let p = past_within 255 m lm in
      let q = past_within 255 (length Ts) (few_types c Ts T ty) in
      let r = past_within 2000 e (omega (arith, le)) in
      (omega (arith, p, q), omega (arith, r))
  term_fine C κ n d m e (atom (integer z)) T ty k lm le =
      let p = past_within 255 m lm in let r = past_within 2000 e (omega (arith, le)) in (omega (arith, p), omega (arith, r))
  term_fine C κ n d m e (atom (text s)) T ty k lm le =
      let p = past_within 255 m lm in let r = past_within 2000 e (omega (arith, le)) in (omega (arith, p), omega (arith, r))
  term_fine C κ n d m e (atom (eigen j)) T ty k lm le = absurd k
  term_fine C κ n d m e (atom (logic x l)) T ty k lm le = absurd k
  term_fine C κ n d m e (atom (param j U)) T ty k lm le = absurd k
  term_fine C κ n zero m e (abs b) T ty k lm le = absurd k
  term_fine C κ n (suc d) m e (abs b) T ty k lm le =
      let w = term_fine (ty.0 ∷ C) κ n d 0 (suc e) b ty.1 ty.3 k (omega arith) (omega (arith, le)) in
      let p = past_within 255 m lm in
      let r = past_within 2000 e (omega (arith, le)) in
      let x = w.0 in
      let y = w.1 in
      (omega (arith, p, x), omega (arith, r, y))
  term_fine C κ n zero m e (app f u) T ty k lm le = absurd k
  term_fine C κ n (suc d) m e (app f u) T ty k lm le =
      let low = k.0 in
      let w = term_fine C κ n (suc d) (suc m) e f (arrow ty.0 T) ty.1 k.1 (omega (arith, low)) le in
      let v = term_fine C κ n d 0 (suc e) u ty.0 ty.2 k.2 (omega arith) (omega (arith, le)) in
      let x = w.0 in
      let y = w.1 in
      let z = v.0 in
      let q = v.1 in
      (omega (arith, x, z), omega (arith, y, q))

  atom_fine : (u : Under) (a : Term) → IsAtom t u a → Fine 0 0 a
  atom_fine u a x = term_fine u.indices t.kinds u.type_vars 2000 0 0 a o_type x.typed x.known (omega arith) (omega arith)

  mutual
    goal_fine : (u : Under) (e : ℕ) (g : Goal) → IsGoal t u g → e + goal_depth g ≤ 2000 → (goal_counts of_arguments 0 g ≡ 0) × (goal_counts of_nesting e g ≡ 0)
    goal_fine u e (Atomic a) x le = atom_fine u a x.0
    goal_fine u e Cut x le = (refl, refl)
    goal_fine u e (Either gs hs) x le =
        let w = goals_fine u (suc e) gs x.0 (omega (arith, le)) in
        let v = goals_fine u (suc e) hs x.1 (omega (arith, le)) in
        both_fine (goals_counts of_arguments 0 gs) (goals_counts of_arguments 0 hs) (goals_counts of_nesting (suc e) gs) (goals_counts of_nesting (suc e) hs) w v
    goal_fine u e (Exists T gs) x le = goals_fine (bound u T false) e gs x.1 le
    goal_fine u e (Forall T gs) x le = goals_fine (bound u T true) (suc e) gs x.1 (omega (arith, le))
    goal_fine u e (Assume w cs gs) x le =
        let y = clauses_fine u (suc e) cs x.0 (omega (arith, le)) in
        let v = goals_fine u (suc e) gs x.1 (omega (arith, le)) in
        both_fine (clauses_counts of_arguments 0 cs) (goals_counts of_arguments 0 gs) (clauses_counts of_nesting (suc e) cs) (goals_counts of_nesting (suc e) gs) y v
    goal_fine u e (Not w gs) x le = goals_fine u (suc e) gs x (omega (arith, le))

    goals_fine : (u : Under) (e : ℕ) (gs : Goals) → AreGoals t u gs → e + goals_depth gs ≤ 2000 → (goals_counts of_arguments 0 gs ≡ 0) × (goals_counts of_nesting e gs ≡ 0)
    goals_fine u e no_goals x le = (refl, past_within 2000 e (omega (arith, le)))
    goals_fine u e (goals g gs) x le =
        let w = goal_fine u e g x.0 (omega (arith, le)) in
        let v = goals_fine u e gs x.2 (omega (arith, le)) in
        both_fine (goal_counts of_arguments 0 g) (goals_counts of_arguments 0 gs) (goal_counts of_nesting e g) (goals_counts of_nesting e gs) w v

    clauses_fine : (u : Under) (e : ℕ) (cs : Clauses) → AreAssumed t u cs → e + clauses_depth cs ≤ 2000 → (clauses_counts of_arguments 0 cs ≡ 0) × (clauses_counts of_nesting e cs ≡ 0)
    clauses_fine u e no_clauses x le = (refl, refl)
    clauses_fine u e (clauses (clause n vs h b) cs) (none, known, head, headed, body, others) le =
        let w = atom_fine (all_bound u vs) h head in
        let v = goals_fine (all_bound u vs) e b body (omega (arith, le)) in
        let y = clauses_fine u e cs others (omega (arith, le)) in
        three_fine (term_counts in_arguments 0 h) (goals_counts of_arguments 0 b) (clauses_counts of_arguments 0 cs) (term_counts in_nesting 0 h) (goals_counts of_nesting e b) (clauses_counts of_nesting e cs) w v y

  clause_fine : (F : Clause) → IsClause t F → (clauses_counts of_arguments 0 (clauses F no_clauses) ≡ 0) × (clauses_counts of_nesting 0 (clauses F no_clauses) ≡ 0)
  clause_fine (clause n vs h b) x = clauses_fine (record { type_vars = n; indices = []; binders = [] }) 0 (clauses (clause 0 vs h b) no_clauses) x.0 (let d = x.1 in omega (arith, d))

told_of_code : (n : Counts) (P : Type 0) (e : GenRefusal) → n.arguments ≡ 0 → n.nesting ≡ 0 → IsTold n P e → IsOfCode e
told_of_code n P (refusal.Limit limit.Text) a d p = tt
told_of_code n P (refusal.Limit limit.Clauses) a d p = tt
told_of_code n P (refusal.Limit limit.Registers) a d p = tt
told_of_code n P (refusal.Limit limit.Arguments) a d p = let q = p.1 in absurd (omega (arith, a, q))
told_of_code n P (refusal.Limit limit.Nesting) a d p = let q = p.2 in absurd (omega (arith, d, q))
told_of_code n P (refusal.Limit limit.File) a d p = absurd p
told_of_code n P (refusal.Limit limit.Image) a d p = absurd p
told_of_code n P (refusal.Limit limit.Modules) a d p = absurd p
told_of_code n P (refusal.Limit limit.Copies) a d p = absurd p
told_of_code n P (refusal.Limit limit.Names) a d p = absurd p
told_of_code n P (refusal.Limit limit.NameLength) a d p = absurd p
told_of_code n P (refusal.Limit limit.NormalForm) a d p = absurd p
told_of_code n P refusal.Memory a d p = tt

clauses_all_fine : (t : Tables) → HaveFewTypes t.constants → (b : Nodes) (cs : List code_clause.Clause) → All (IsClause t) (map (clause_of b) cs) →
    (clauses_counts of_arguments 0 (clauses_of b cs) ≡ 0) × (clauses_counts of_nesting 0 (clauses_of b cs) ≡ 0)
clauses_all_fine t few b [] all = (refl, refl)
clauses_all_fine t few b (c ∷ cs) all =
    let w = clause_fine t few (clause_of b c) (All-head (IsClause t) (clause_of b c) (map (clause_of b) cs) all) in
    let v = clauses_all_fine t few b cs (All-tail (IsClause t) (clause_of b c) (map (clause_of b) cs) all) in
    let x = w.0 in
    let y = w.1 in
    let z = v.0 in
    let q = v.1 in
    let s = clauses_split look.Arguments 0 (clause_of b c) (clauses_of b cs) in
    let r = clauses_split look.Nesting 0 (clause_of b c) (clauses_of b cs) in
    (omega (arith, x, z, s), omega (arith, y, q, r))

pub ready_clauses_told : (κ : ℕ → Option ℕ) (b : Nodes) (ds : List Declared) (cs : List code_clause.Clause) (e : GenRefusal) → HaveFewTypes (tables_of b ds κ).constants →
    All (IsClause (tables_of b ds κ)) (map (clause_of b) cs) → ClausesPass b ds cs e → IsOfCode e
ready_clauses_told κ b ds cs e few all p = let w = clauses_all_fine (tables_of b ds κ) few b cs all in told_of_code (counts_of_clauses (clauses_of b cs)) (ClausesFull b ds cs) e w.0 w.1 p

pub ready_query_told : (κ : ℕ → Option ℕ) (b : Nodes) (ds : List Declared) (q : program.Typed) (gs : List code_goal.Goal) (vs : List Ty) (e : GenRefusal) →
    HaveFewTypes (tables_of b ds κ).constants → IsQuery (tables_of b ds κ) q.type_vars vs (goals_of b gs) → QueryPasses b ds q gs e → IsOfCode e
ready_query_told κ b ds q gs vs e few is p =
    let w = goals_fine (tables_of b ds κ) few (record { type_vars = q.type_vars; indices = vs; binders = map (λ T. false) vs }) 0 (goals_of b gs) is.1 (let d = is.2 in omega (arith, d)) in
    told_of_code (counts_of_goals (goals_of b gs)) (QueryFull b ds q gs) e w.0 w.1 p
