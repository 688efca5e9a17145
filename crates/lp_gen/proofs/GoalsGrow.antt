-- How much code of goals there is: registers and records only get more, and a goal has some code.
use Rattle.std.proofs.Common.{◌≤◌, ◌<◌, ℕ, ◌+◌, List, [], ◌∷◌, ◌++◌, length, ap, sym, subst, arith}
use Rattle.std.specs.Prelude.{sum_by}
use Rattle.std.proofs.lemmas.List.Sums.{sum_by-append}
use Rattle.lp_calculus.specs.Types.{Ty}
use Rattle.lp_model.specs.Flat.{Goal, Goals, Clauses, Atomic, Cut, Either, Exists, Forall, Assume, Not, no_goals, goals}
use Rattle.lp_code.specs.declared.instruction.Instr.{Instr}
use Rattle.lp_code.specs.declared.instruction.Instr.TheVariants as on
use Rattle.lp_code.specs.Length.{length_of}
use Rattle.lp_gen.specs.Steps.{Around}
use Rattle.lp_gen.specs.inner.Bodies.{pushed}
use Rattle.lp_gen.specs.inner.GoalCode.{quantified, KindCode, GoalCode, GoalsCode}
use Rattle.lp_gen.proofs.Bytes.{some_length}
use Rattle.lp_gen.proofs.Sides.{first_bytes}

pub kind_grows : (n m q : ℕ) (T : Ty) (is : List Instr) → KindCode n m q T is → n ≤ m
kind_grows n m q T is x = let g = x.put.types_grow in let a = x.before in let b = x.after in omega (arith, g, a, b)

some_bytes : (i : Instr) (ts is : List Instr) → 0 < sum_by length_of (ts ++ i ∷ is)
some_bytes i ts is =
    let a = sum_by-append length_of ts (i ∷ is) in
    let b = first_bytes i is in
    let c = some_length i in
    omega (arith, a, b, c)

module _ (P : Around → (records levels : List ℕ) → Clauses → Type 0) (K : ℕ → List Ty → Ty) (v : ℕ) where
  mutual
    pub goal_grows : (a : Around) (n n' k k' q q' : ℕ) (g : Goal) (is : List Instr) → GoalCode P K v a n n' k k' q q' g is → (n ≤ n') × (k ≤ k') × (q ≤ q')
    goal_grows a n n' k k' q q' (Atomic t) is (c, same) =
        let b0 = c.before.types_are in
        let b1 = c.before.registers_are in
        let a0 = c.after.types_are in
        let a1 = c.after.registers_are in
        let g0 = c.written.types_grow in
        let g1 = c.written.terms_grow in
        (omega (arith, b0, a0, g0), omega (arith, b1, a1, g1), omega (arith, same))
    goal_grows a n n' k k' q q' Cut is (x, y, z, e) = (omega (arith, x), omega (arith, y), omega (arith, z))
    goal_grows a n n' k k' q q' (Either gs hs) is (m, l, o, nl, mr, ls, rs, x, y, el, er, e) =
        let i = goals_grow a n m k l q o gs ls x in
        let j = goals_grow a m n' l k' o q' hs rs y in
        let i0 = i.0 in
        let i1 = i.1 in
        let i2 = i.2 in
        let j0 = j.0 in
        let j1 = j.1 in
        let j2 = j.2 in
        (omega (arith, i0, j0), omega (arith, i1, j1), omega (arith, i2, j2))
    goal_grows a n n' k k' q q' (Exists T gs) is (m, r, ts, js, x, short, y, e) =
        let i = kind_grows n m r T ts x in
        let j = goals_grow (pushed a (quantified k T)) m n' (k + 1) k' q q' gs js y in
        let j0 = j.0 in
        let j1 = j.1 in
        (omega (arith, i, j0), omega (arith, j1), j.2)
    goal_grows a n n' k k' q q' (Forall T gs) is (m, r, ts, js, x, short, y, e) =
        let i = kind_grows n m r T ts x in
        let j = goals_grow (pushed a (quantified k T)) m n' (k + 1) k' q q' gs js y in
        let j0 = j.0 in
        let j1 = j.1 in
        (omega (arith, i, j0), omega (arith, j1), j.2)
    goal_grows a n n' k k' q q' (Assume w cs gs) is (ns, ts, rs, ls, js, coded, captured, types, names, x, e) =
        let j = goals_grow a n n' k k' (q + length ns.items) q' gs js x in
        let j2 = j.2 in
        (j.0, j.1, omega (arith, j2))
    goal_grows a n n' k k' q q' (Not w gs) is (js, x, e) = goals_grow a n n' k k' q q' gs js x

    pub goals_grow : (a : Around) (n n' k k' q q' : ℕ) (gs : Goals) (is : List Instr) → GoalsCode P K v a n n' k k' q q' gs is → (n ≤ n') × (k ≤ k') × (q ≤ q')
    goals_grow a n n' k k' q q' no_goals is (x, y, z, e) = (omega (arith, x), omega (arith, y), omega (arith, z))
    goals_grow a n n' k k' q q' (goals g gs) is (m, l, o, js, ks, x, y, last, e) =
        let i = goal_grows a n m k l q o g js x in
        let j = goals_grow a m n' l k' o q' gs ks y in
        let i0 = i.0 in
        let i1 = i.1 in
        let i2 = i.2 in
        let j0 = j.0 in
        let j1 = j.1 in
        let j2 = j.2 in
        (omega (arith, i0, j0), omega (arith, i1, j1), omega (arith, i2, j2))

  pub goal_some : (a : Around) (n n' k k' q q' : ℕ) (g : Goal) (is : List Instr) → GoalCode P K v a n n' k k' q q' g is → 0 < sum_by length_of is
  goal_some a n n' k k' q q' (Atomic t) is (c, same) = c.some
  goal_some a n n' k k' q q' Cut is (x, y, z, e) = subst (λ l. 0 < sum_by length_of l) (sym e) (some_bytes on.Cut [] [])
  goal_some a n n' k k' q q' (Either gs hs) is (m, l, o, nl, mr, ls, rs, x, y, el, er, e) = subst (λ l. 0 < sum_by length_of l) (sym e) (some_bytes (on.Either nl) [] (ls ++ on.Jump mr ∷ rs))
  goal_some a n n' k k' q q' (Exists T gs) is (m, r, ts, js, x, short, y, e) = subst (λ l. 0 < sum_by length_of l) (sym e) (some_bytes (on.Sigma k r) ts js)
  goal_some a n n' k k' q q' (Forall T gs) is (m, r, ts, js, x, short, y, e) = subst (λ l. 0 < sum_by length_of l) (sym e) (some_bytes (on.All k r) ts (js ++ on.EndAll ∷ []))
  goal_some a n n' k k' q q' (Assume w cs gs) is (ns, ts, rs, ls, js, coded, captured, types, names, x, e) =
      subst (λ l. 0 < sum_by length_of l) (sym e) (some_bytes (on.Assume ns ts rs) [] (js ++ on.EndAssume ∷ []))
  goal_some a n n' k k' q q' (Not w gs) is (js, x, e) = subst (λ l. 0 < sum_by length_of l) (sym e) (some_bytes on.Not [] (js ++ on.EndNot ∷ []))

  pub goals_some : (a : Around) (n n' k k' q q' : ℕ) (g : Goal) (gs : Goals) (is : List Instr) → GoalsCode P K v a n n' k k' q q' (goals g gs) is → 0 < sum_by length_of is
  goals_some a n n' k k' q q' g gs is (m, l, o, js, ks, x, y, last, e) =
      let z = goal_some a n m k l q o g js x in
      let w = sum_by-append length_of js ks in
      let b = ap (sum_by length_of) e in
      omega (arith, z, w, b)
