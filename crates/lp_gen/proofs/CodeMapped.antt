-- What is said of the records of assumptions in code may be changed, where more is known of the goals.
use Rattle.std.proofs.Common.{◌≡◌, ◌∙◌, ◌≤◌, ℕ, suc, ◌+◌, List, [], ◌∷◌, ◌++◌, length, ap, refl, sym, subst, arith, add-one}
use Rattle.lp_calculus.specs.Types.{Ty}
use Rattle.lp_model.specs.Flat.{Goal, Goals, Clauses, Atomic, Cut, Either, Exists, Forall, Assume, Not, no_goals, goals}
use Rattle.lp_code.specs.declared.instruction.Instr.{Instr}
use Rattle.lp_code.specs.Rules.{names_of, names_in}
use Rattle.lp_gen.specs.Sources.{ends_list}
use Rattle.lp_gen.specs.Steps.{Around}
use Rattle.lp_gen.specs.inner.Bodies.{pushed, new_level}
use Rattle.lp_gen.specs.inner.GoalCode.{quantified, numbers, GoalCode, GoalsCode}
use Rattle.lp_gen.specs.inner.OpenGoals.{plain_goal, plain_goals}
use Rattle.lp_gen.specs.inner.Planned.{clauses_length, goal_records, goals_records, level_behind, levels_behind, GoalHas, GoalsHave}
use Rattle.lp_gen.proofs.BodySteps.{push_level}

-- what is written in goals matters to none of this

mutual
  pub plain_goal_records : (g : Goal) → goal_records (plain_goal g) ≡ goal_records g
  plain_goal_records (Atomic t) = refl
  plain_goal_records Cut = refl
  plain_goal_records (Either gs hs) = λ i. plain_records gs i + plain_records hs i
  plain_goal_records (Exists T gs) = plain_records gs
  plain_goal_records (Forall T gs) = plain_records gs
  plain_goal_records (Assume w cs gs) = ap (λ n. clauses_length cs + n) (plain_records gs)
  plain_goal_records (Not w gs) = plain_records gs

  pub plain_records : (gs : Goals) → goals_records (plain_goals gs) ≡ goals_records gs
  plain_records no_goals = refl
  plain_records (goals g gs) = λ i. plain_goal_records g i + plain_records gs i

mutual
  plain_after : (d : ℕ) (g : Goal) → level_behind d (plain_goal g) ≡ level_behind d g
  plain_after d (Atomic t) = refl
  plain_after d Cut = refl
  plain_after d (Either gs hs) = refl
  plain_after d (Exists T gs) = plain_behind (suc d) gs
  plain_after d (Forall T gs) = refl
  plain_after d (Assume w cs gs) = refl
  plain_after d (Not w gs) = refl

  plain_behind : (d : ℕ) (gs : Goals) → levels_behind d (plain_goals gs) ≡ levels_behind d gs
  plain_behind d no_goals = refl
  plain_behind d (goals g gs) = plain_behind (level_behind d (plain_goal g)) gs ∙ ap (λ n. levels_behind n gs) (plain_after d g)

mutual
  plain_goal_has : (D : ℕ → ℕ → Clauses → Type 0) (q d : ℕ) (g : Goal) → GoalHas D q d g → GoalHas D q d (plain_goal g)
  plain_goal_has D q d (Atomic t) x = tt
  plain_goal_has D q d Cut x = tt
  plain_goal_has D q d (Either gs hs) x = (plain_have D q d gs x.0, subst (λ n. GoalsHave D (q + n) d (plain_goals hs)) (sym (plain_records gs)) (plain_have D (q + goals_records gs) d hs x.1))
  plain_goal_has D q d (Exists T gs) x = plain_have D q (suc d) gs x
  plain_goal_has D q d (Forall T gs) x = plain_have D q (suc d) gs x
  plain_goal_has D q d (Assume w cs gs) x = (x.0, plain_have D (q + clauses_length cs) d gs x.1)
  plain_goal_has D q d (Not w gs) x = plain_have D q d gs x

  pub plain_have : (D : ℕ → ℕ → Clauses → Type 0) (q d : ℕ) (gs : Goals) → GoalsHave D q d gs → GoalsHave D q d (plain_goals gs)
  plain_have D q d no_goals x = tt
  plain_have D q d (goals g gs) x = (
    plain_goal_has D q d g x.0,
    subst (λ m. GoalsHave D (q + goal_records (plain_goal g)) m (plain_goals gs)) (sym (plain_after d g))
        (subst (λ n. GoalsHave D (q + n) (level_behind d g) (plain_goals gs)) (sym (plain_goal_records g)) (plain_have D (q + goal_records g) (level_behind d g) gs x.1)),
  )

-- numbers one after the other
pub numbers_both : (q n m : ℕ) → numbers q n ++ numbers (q + n) m ≡ numbers q (n + m)
numbers_both q ℕ.zero m = (let z : q + 0 ≡ q = omega arith in let y : m ≡ 0 + m = omega arith in ap (λ k. numbers k m) z ∙ ap (numbers q) y)
numbers_both q (ℕ.suc n) m =
    let z : q + suc n ≡ suc q + n = omega arith in
    let y : suc (n + m) ≡ suc n + m = omega arith in
    ap (λ l. q ∷ l) (ap (λ k. numbers (suc q) n ++ numbers k m) z ∙ numbers_both (suc q) n m) ∙ ap (numbers q) y

pub names_both : (xs ys : List Instr) → names_in (xs ++ ys) ≡ names_in xs ++ names_in ys
names_both [] ys = refl
names_both (i ∷ is) ys = ap (λ l. names_of i ++ l) (names_both is ys) ∙ sym (Rattle.std.proofs.Common.append_assoc (names_of i) (names_in is) (names_in ys))

-- where a `sigma` ends its list, as many variables are around what follows a goal
same_depth : (D : ℕ → ℕ → Clauses → Type 0) (q d : ℕ) (g : Goal) (gs : Goals) → ends_list g gs → GoalsHave D q (level_behind d g) gs → GoalsHave D q d gs
same_depth D q d (Atomic t) gs last x = x
same_depth D q d Cut gs last x = x
same_depth D q d (Either hs ks) gs last x = x
same_depth D q d (Exists T hs) gs last x = subst (GoalsHave D q d) (sym last) tt
same_depth D q d (Forall T hs) gs last x = x
same_depth D q d (Assume w cs hs) gs last x = x
same_depth D q d (Not w hs) gs last x = x

module _ (P : Around → (records levels : List ℕ) → Clauses → Type 0) (K : ℕ → List Ty → Ty) (v : ℕ)
    (long : (a : Around) (ns ls : List ℕ) (cs : Clauses) → P a ns ls cs → length ns ≡ clauses_length cs) where
  mutual
    goal_next : (a : Around) (n n' k k' q q' : ℕ) (g : Goal) (is : List Instr) → GoalCode P K v a n n' k k' q q' g is → q' ≡ q + goal_records g
    goal_next a n n' k k' q q' (Atomic t) is (c, same) = omega (arith, same)
    goal_next a n n' k k' q q' Cut is (x, y, z, e) = omega (arith, z)
    goal_next a n n' k k' q q' (Either gs hs) is (m, l, o, nl, mr, ls, rs, x, y, el, er, e) =
        let i = goals_next a n m k l q o gs ls x in
        let j = goals_next a m n' l k' o q' hs rs y in
        omega (arith, i, j)
    goal_next a n n' k k' q q' (Exists T gs) is (m, r, ts, js, x, short, y, e) = goals_next (pushed a (quantified k T)) m n' (k + 1) k' q q' gs js y
    goal_next a n n' k k' q q' (Forall T gs) is (m, r, ts, js, x, short, y, e) = goals_next (pushed a (quantified k T)) m n' (k + 1) k' q q' gs js y
    goal_next a n n' k k' q q' (Assume w cs gs) is (ns, ts, rs, ls, js, coded, captured, types, names, x, e) =
        let i = goals_next a n n' k k' (q + length ns.items) q' gs js x in
        let j = long a ns.items ls cs coded in
        omega (arith, i, j)
    goal_next a n n' k k' q q' (Not w gs) is (js, x, e) = goals_next a n n' k k' q q' gs js x

    pub goals_next : (a : Around) (n n' k k' q q' : ℕ) (gs : Goals) (is : List Instr) → GoalsCode P K v a n n' k k' q q' gs is → q' ≡ q + goals_records gs
    goals_next a n n' k k' q q' no_goals is (x, y, z, e) = omega (arith, z)
    goals_next a n n' k k' q q' (goals g gs) is (m, l, o, js, ks, x, y, last, e) =
        let i = goal_next a n m k l q o g js x in
        let j = goals_next a m n' l k' o q' gs ks y in
        omega (arith, i, j)

  module _ (R : Around → (records levels : List ℕ) → Clauses → Type 0) (D : ℕ → ℕ → Clauses → Type 0) (first : ℕ)
      (change : (a : Around) (q : ℕ) (ns ls : List ℕ) (cs : Clauses) → first ≤ q → ns ≡ numbers q (length ns) → D q (new_level a) cs → P a ns ls cs → R a ns ls cs) where
    below_pushed : (a : Around) (k : ℕ) (T : Ty) (q : ℕ) (gs : Goals) → GoalsHave D q (suc (new_level a)) gs → GoalsHave D q (new_level (pushed a (quantified k T))) gs
    below_pushed a k T q gs x = subst (λ d. GoalsHave D q d gs) (let z = push_level a (quantified k T) in let y : suc (new_level a) ≡ new_level (pushed a (quantified k T)) = omega (arith, z) in y) x

    mutual
      goal_mapped : (a : Around) (n n' k k' q q' : ℕ) (g : Goal) (is : List Instr) → first ≤ q → GoalHas D q (new_level a) g → GoalCode P K v a n n' k
          k' q q' g is → GoalCode R K v a n n' k k' q q' g is
      goal_mapped a n n' k k' q q' (Atomic t) is le has x = x
      goal_mapped a n n' k k' q q' Cut is le has x = x
      goal_mapped a n n' k k' q q' (Either gs hs) is le has (m, l, o, nl, mr, ls, rs, x, y, el, er, e) =
          let at : o ≡ q + goals_records gs = goals_next a n m k l q o gs ls x in (
            m,
            l,
            o,
            nl,
            mr,
            ls,
            rs,
            goals_mapped a n m k l q o gs ls le has.0 x,
            goals_mapped a m n' l k' o q' hs rs (omega (arith, le, at))
                (subst (λ z. GoalsHave D z (new_level a) hs) (sym at) has.1) y,
            el,
            er,
            e,
          )
      goal_mapped a n n' k k' q q' (Exists T gs) is le has (m, r, ts, js, x, short, y, e) =
          (m, r, ts, js, x, short, goals_mapped (pushed a (quantified k T)) m n' (k + 1) k' q q' gs js le (below_pushed a k T q gs has) y, e)
      goal_mapped a n n' k k' q q' (Forall T gs) is le has (m, r, ts, js, x, short, y, e) =
          (m, r, ts, js, x, short, goals_mapped (pushed a (quantified k T)) m n' (k + 1) k' q q' gs js le (below_pushed a k T q gs has) y, e)
      goal_mapped a n n' k k' q q' (Assume w cs gs) is le has (ns, ts, rs, ls, js, coded, captured, types, names, x, e) =
          let many = long a ns.items ls cs coded in (
            ns,
            ts,
            rs,
            ls,
            js,
            change a q ns.items ls cs le names has.0 coded,
            captured,
            types,
            names,
            goals_mapped a n n' k k' (q + length ns.items) q' gs js (omega (arith, le)) (subst (λ z. GoalsHave D (q + z) (new_level a) gs) (sym many) has.1) x,
            e,
          )
      goal_mapped a n n' k k' q q' (Not w gs) is le has (js, x, e) = (js, goals_mapped a n n' k k' q q' gs js le has x, e)

      pub goals_mapped : (a : Around) (n n' k k' q q' : ℕ) (gs : Goals) (is : List Instr) → first ≤ q → GoalsHave D q (new_level a) gs → GoalsCode P K
          v a n n' k k' q q' gs is → GoalsCode R K v a n n' k k' q q' gs is
      goals_mapped a n n' k k' q q' no_goals is le has x = x
      goals_mapped a n n' k k' q q' (goals g gs) is le has (m, l, o, js, ks, x, y, last, e) =
          let at : o ≡ q + goal_records g = goal_next a n m k l q o g js x in (
            m,
            l,
            o,
            js,
            ks,
            goal_mapped a n m k l q o g js le has.0 x,
            goals_mapped a m n' l k' o q' gs ks (omega (arith, le, at))
                (subst (λ z. GoalsHave D z (new_level a) gs) (sym at) (same_depth D (q + goal_records g) (new_level a) g gs last has.1)) y,
            last,
            e,
          )
