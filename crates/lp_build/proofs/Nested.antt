-- The flattened clauses of a module that has code are within the limits of instructions.
use Rattle.std.proofs.Common.{◌≡◌, ℕ, zero, suc, ◌+◌, ◌≤◌, max, List, [], ◌∷◌, map, Option, Bool, true, false, refl, sym, ap, subst, arith}
use Rattle.std.specs.Prelude.{if◌then◌else◌, nat_lt}
use Rattle.std.proofs.lemmas.Bool.{ltb-false}
use Rattle.lp_lemmas.specs.Each.{EachOf}
use Rattle.lp_calculus.specs.Closed.{AllAtoms}
use Rattle.lp_calculus.specs.Term.{Term, index, atom, abs, app}
use Rattle.lp_model.specs.Flat.{Goal, Atomic, Cut, Either, Exists, Forall, Assume, Not, Goals, no_goals, goals, Clause, clause, Clauses, no_clauses, clauses}
use Rattle.lp_model.specs.Flattened.{clause_of, clauses_in}
use Rattle.lp_gen.specs.Limits.{atom_types, clauses_counts, goal_counts, goals_counts, in_arguments, in_nesting, of_arguments, of_nesting, term_counts}
use Rattle.lp_gen.specs.Registers.{past}
use Rattle.lp_gen.specs.Sources.{IsKnownAtom, IsKnownTerm, clauses_depth, goal_depth, goals_depth}
use Rattle.lp_module.specs.declared.module.Module.{Module}
use Rattle.lp_build.specs.Nested.{ClausesHave, FlattensWithin, GoalHas, GoalsHave, IsClauseWithin, IsKnownWithin}
use Rattle.lp_build.specs.Uncoded.{IsWithinCode}

abbrev one_if : Bool → ℕ
one_if b = if b then 1 else 0

past_none : (n m : ℕ) → past n m ≡ 0 → m ≤ n
past_none n m e = by (nat_lt n m) refl e
  where
    by : (b : Bool) → nat_lt n m ≡ b → one_if b ≡ 0 → m ≤ n
    by true f g = absurd (cc)
    by false f g = ltb-false n m f

left : (x y : ℕ) → x + y ≡ 0 → x ≡ 0
left x y e = omega (arith, e)

right : (x y : ℕ) → x + y ≡ 0 → y ≡ 0
right x y e = omega (arith, e)

-- where nothing is counted, all that stands in a term stands in its place
low_depth : (t : Term) (k : ℕ) → term_counts in_nesting k t ≡ 0 → k ≤ 2000
low_depth (index i) k e = past_none 2000 k e
low_depth (atom a) k e = past_none 2000 k (left (past 2000 k) 0 e)
low_depth (abs b) k e = past_none 2000 k (left (past 2000 k) (term_counts in_nesting (suc k) b) e)
low_depth (app t u) k e = low_depth t k (left (term_counts in_nesting k t) (term_counts in_nesting (suc k) u) e)

few_arguments : (t : Term) (m : ℕ) → term_counts in_arguments m t ≡ 0 → m ≤ 255
few_arguments (index i) m e = past_none 255 m e
few_arguments (atom a) m e = past_none 255 m (left (past 255 m) (atom_types a) e)
few_arguments (abs b) m e = past_none 255 m (left (past 255 m) (term_counts in_arguments 0 b) e)
few_arguments (app t u) m e = let l = few_arguments t (suc m) (left (term_counts in_arguments (suc m) t) (term_counts in_arguments 0 u) e) in omega (arith, l)

module _ (κ : ℕ → Option ℕ) (vars : ℕ) where
  term_within : (t : Term) (d m k : ℕ) → k + d ≡ 2000 → AllAtoms (IsKnownAtom κ vars) t → term_counts in_nesting k t ≡ 0 → term_counts in_arguments m t ≡ 0 → IsKnownTerm κ vars d m t
  term_within (index i) d m k s h e f = tt
  term_within (atom a) d m k s h e f = h
  term_within (abs b) zero m k s h e f =
      let l = low_depth b (suc k) (right (past 2000 k) (term_counts in_nesting (suc k) b) e) in
      absurd (omega (arith, l, s))
  term_within (abs b) (suc d) m k s h e f =
      term_within b d 0 (suc k) (omega (arith, s)) h (right (past 2000 k) (term_counts in_nesting (suc k) b) e) (right (past 255 m) (term_counts in_arguments 0 b) f)
  term_within (app t u) zero m k s h e f =
      let l = low_depth u (suc k) (right (term_counts in_nesting k t) (term_counts in_nesting (suc k) u) e) in
      absurd (omega (arith, l, s))
  term_within (app t u) (suc d) m k s (h, i) e f =
      let a = left (term_counts in_arguments (suc m) t) (term_counts in_arguments 0 u) f in
      let l = few_arguments t (suc m) a in (
        omega (arith, l),
        term_within t (suc d) (suc m) k s h (left (term_counts in_nesting k t) (term_counts in_nesting (suc k) u) e) a,
        term_within u d 0 (suc k) (omega (arith, s)) i (right (term_counts in_nesting k t) (term_counts in_nesting (suc k) u) e) (right (term_counts in_arguments (suc m) t) (term_counts in_arguments 0 u) f),
      )

atom_within : (t : Term) → term_counts in_nesting 0 t ≡ 0 → term_counts in_arguments 0 t ≡ 0 → IsKnownWithin t
atom_within t e f κ vars h = term_within κ vars t 2000 0 0 (omega arith) h e f

-- a clause of a list: its head, its body and the others
three : (x y z : ℕ) → 0 + x + y + z ≡ 0 → (x ≡ 0) × (y ≡ 0) × (z ≡ 0)
three x y z e = (omega (arith, e), omega (arith, e), omega (arith, e))

mutual
  goal_within : (g : Goal) (n : ℕ) → goal_counts of_nesting n g ≡ 0 → goal_counts of_arguments 0 g ≡ 0 → GoalHas IsKnownWithin g
  goal_within (Atomic t) n e f = atom_within t e f
  goal_within Cut n e f = tt
  goal_within (Either gs hs) n e f = (
    goals_within gs (suc n) (left (goals_counts of_nesting (suc n) gs) (goals_counts of_nesting (suc n) hs) e) (left (goals_counts of_arguments 0 gs) (goals_counts of_arguments 0 hs) f),
    goals_within hs (suc n) (right (goals_counts of_nesting (suc n) gs) (goals_counts of_nesting (suc n) hs) e) (right (goals_counts of_arguments 0 gs) (goals_counts of_arguments 0 hs) f),
  )
  goal_within (Exists T gs) n e f = goals_within gs n e f
  goal_within (Forall T gs) n e f = goals_within gs (suc n) e f
  goal_within (Assume w cs gs) n e f = (
    clauses_within cs (suc n) (left (clauses_counts of_nesting (suc n) cs) (goals_counts of_nesting (suc n) gs) e) (left (clauses_counts of_arguments 0 cs) (goals_counts of_arguments 0 gs) f),
    goals_within gs (suc n) (right (clauses_counts of_nesting (suc n) cs) (goals_counts of_nesting (suc n) gs) e) (right (clauses_counts of_arguments 0 cs) (goals_counts of_arguments 0 gs) f),
  )
  goal_within (Not w gs) n e f = goals_within gs (suc n) e f

  goals_within : (gs : Goals) (n : ℕ) → goals_counts of_nesting n gs ≡ 0 → goals_counts of_arguments 0 gs ≡ 0 → GoalsHave IsKnownWithin gs
  goals_within no_goals n e f = tt
  goals_within (goals g gs) n e f = (
    goal_within g n (left (goal_counts of_nesting n g) (goals_counts of_nesting n gs) e) (left (goal_counts of_arguments 0 g) (goals_counts of_arguments 0 gs) f),
    goals_within gs n (right (goal_counts of_nesting n g) (goals_counts of_nesting n gs) e) (right (goal_counts of_arguments 0 g) (goals_counts of_arguments 0 gs) f),
  )

  clauses_within : (cs : Clauses) (n : ℕ) → clauses_counts of_nesting n cs ≡ 0 → clauses_counts of_arguments 0 cs ≡ 0 → ClausesHave IsKnownWithin cs
  clauses_within no_clauses n e f = tt
  clauses_within (clauses (clause k vs h b) cs) n e f =
      let (x, y, z) = three (term_counts in_nesting 0 h) (goals_counts of_nesting n b) (clauses_counts of_nesting n cs) e in
      let (u, v, w) = three (term_counts in_arguments 0 h) (goals_counts of_arguments 0 b) (clauses_counts of_arguments 0 cs) f in
      ((atom_within h x u, goals_within b n y v), clauses_within cs n z w)

-- blocks
mutual
  goal_fits : (g : Goal) (n : ℕ) → n ≤ 2000 → goal_counts of_nesting n g ≡ 0 → n + goal_depth g ≤ 2000
  goal_fits (Atomic t) n l e = omega (arith, l)
  goal_fits Cut n l e = omega (arith, l)
  goal_fits (Either gs hs) n l e =
      let a = goals_fit gs (suc n) (left (goals_counts of_nesting (suc n) gs) (goals_counts of_nesting (suc n) hs) e) in
      let b = goals_fit hs (suc n) (right (goals_counts of_nesting (suc n) gs) (goals_counts of_nesting (suc n) hs) e) in
      omega (arith, a, b)
  goal_fits (Exists T gs) n l e = goals_fit gs n e
  goal_fits (Forall T gs) n l e = let a = goals_fit gs (suc n) e in omega (arith, a)
  goal_fits (Assume w cs gs) n l e =
      let b = goals_fit gs (suc n) (right (clauses_counts of_nesting (suc n) cs) (goals_counts of_nesting (suc n) gs) e) in
      let a = clauses_fit cs (suc n) (omega (arith, b)) (left (clauses_counts of_nesting (suc n) cs) (goals_counts of_nesting (suc n) gs) e) in
      omega (arith, a, b)
  goal_fits (Not w gs) n l e = let a = goals_fit gs (suc n) e in omega (arith, a)

  goals_fit : (gs : Goals) (n : ℕ) → goals_counts of_nesting n gs ≡ 0 → n + goals_depth gs ≤ 2000
  goals_fit no_goals n e = let l = past_none 2000 n e in omega (arith, l)
  goals_fit (goals g gs) n e =
      let b = goals_fit gs n (right (goal_counts of_nesting n g) (goals_counts of_nesting n gs) e) in
      let a = goal_fits g n (omega (arith, b)) (left (goal_counts of_nesting n g) (goals_counts of_nesting n gs) e) in
      omega (arith, a, b)

  clauses_fit : (cs : Clauses) (n : ℕ) → n ≤ 2000 → clauses_counts of_nesting n cs ≡ 0 → n + clauses_depth cs ≤ 2000
  clauses_fit no_clauses n l e = omega (arith, l)
  clauses_fit (clauses (clause k vs h b) cs) n l e =
      let (x, y, z) = three (term_counts in_nesting 0 h) (goals_counts of_nesting n b) (clauses_counts of_nesting n cs) e in
      let a = goals_fit b n y in
      let c = clauses_fit cs n l z in
      omega (arith, a, c)

each_within : (cs : List Clause) → clauses_counts of_nesting 0 (clauses_in cs) ≡ 0 → clauses_counts of_arguments 0 (clauses_in cs) ≡ 0 → EachOf IsClauseWithin cs
each_within [] e f = tt
each_within (clause k vs h b ∷ cs) e f =
    let (x, y, z) = three (term_counts in_nesting 0 h) (goals_counts of_nesting 0 b) (clauses_counts of_nesting 0 (clauses_in cs)) e in
    let (u, v, w) = three (term_counts in_arguments 0 h) (goals_counts of_arguments 0 b) (clauses_counts of_arguments 0 (clauses_in cs)) f in
    let d = goals_fit b 0 y in
    ((atom_within h x u, goals_within b 0 y v, omega (arith, d)), each_within cs z w)

pub flattens_within : (m : Module) → IsWithinCode m → FlattensWithin m
flattens_within m c d cs flat =
    let few = c.within.0 in
    subst (EachOf IsClauseWithin) (c.are.clauses d cs flat) (each_within (map (clause_of c.bank) c.flat) few.2 few.1)
