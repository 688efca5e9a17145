-- Goals of which there is code: the assumption that a record is of, and all of them.
use Rattle.std.proofs.Common.{◌≡◌, inl, inr, ◌≤◌, ◌<◌, ℕ, ◌+◌, List, [], ◌∷◌, length, Bool, true, false, refl, subst, arith}
use Rattle.std.specs.Prelude.{nat_lt}
use Rattle.std.proofs.lemmas.Bool.{ltb-true, ltb-false}
use Rattle.lp_calculus.specs.Types.{Ty}
use Rattle.lp_model.specs.Flat.{Goal, Goals, Clauses, Atomic, Cut, Either, Exists, Forall, Assume, Not, no_goals, goals}
use Rattle.lp_code.specs.declared.instruction.Instr.{Instr}
use Rattle.lp_gen.specs.Sources.{ends_list}
use Rattle.lp_gen.specs.Steps.{Around}
use Rattle.lp_gen.specs.Registers.{with_variable, behind_goal, start_of, SomeOfGoal, SomeOfGoals, SomeAssumed}
use Rattle.lp_gen.specs.inner.Alike.{IsAlike}
use Rattle.lp_gen.specs.inner.TermLaw.{AreSet}
use Rattle.lp_gen.specs.inner.Bodies.{pushed}
use Rattle.lp_gen.specs.inner.GoalCode.{quantified, numbers, GoalCode, GoalsCode}
use Rattle.lp_gen.proofs.Alike.{same_joined}
use Rattle.lp_gen.proofs.BodySteps.{push_set}

pub either_way : {X : Type 0} (r o : ℕ) → (r < o → X) → (o ≤ r → X) → X
either_way {X} r o f g = go (nat_lt r o) refl
  where
    go : (t : Bool) → nat_lt r o ≡ t → X
    go true e = f (ltb-true r o e)
    go false e = g (ltb-false r o e)

pushed_alike : (a s : Around) (k : ℕ) (T : Ty) → IsAlike a s → IsAlike (pushed a (quantified k T)) (with_variable s T)
pushed_alike a s k T x = record {
  base = x.base;
  own = same_joined a.own s.own (quantified k T ∷ []) (record { register = 0; of = T; is_set = true } ∷ []) x.own ((refl, refl), tt);
  captured = x.captured;
}

module _ (K : ℕ → List Ty → Ty) (v : ℕ) where
  behind_ended : (s : Around) (g : Goal) (gs : Goals) → ends_list g gs → SomeOfGoals K v (behind_goal s g) gs → SomeOfGoals K v s gs
  behind_ended s (Atomic t) gs e x = x
  behind_ended s Cut gs e x = x
  behind_ended s (Either hs ks) gs e x = x
  behind_ended s (Exists T hs) gs e x = absurd (subst (SomeOfGoals K v (behind_goal s (Exists T hs))) e x)
  behind_ended s (Forall T hs) gs e x = x
  behind_ended s (Assume w cs hs) gs e x = x
  behind_ended s (Not w hs) gs e x = x

  ended_behind : (s : Around) (g : Goal) (gs : Goals) → ends_list g gs → SomeOfGoals K v s gs → SomeOfGoals K v (behind_goal s g) gs
  ended_behind s (Atomic t) gs e x = x
  ended_behind s Cut gs e x = x
  ended_behind s (Either hs ks) gs e x = x
  ended_behind s (Exists T hs) gs e x = absurd (subst (SomeOfGoals K v s) e x)
  ended_behind s (Forall T hs) gs e x = x
  ended_behind s (Assume w cs hs) gs e x = x
  ended_behind s (Not w hs) gs e x = x

  module _ (P : Around → (records levels : List ℕ) → Clauses → Type 0) where
    -- an assumption that names a record
    pub record Found (r : ℕ) (C : Type 0) : Type 0 where
      pub around : Around
      pub like : Around
      pub names : List ℕ
      pub levels : List ℕ
      pub clauses_are : Clauses
      pub next : ℕ
      pub holds : P around names levels clauses_are
      pub set : AreSet around
      pub alike : IsAlike around like
      pub numbered : names ≡ numbers next (length names)
      pub from : next ≤ r
      pub below : r < next + length names
      pub gives : SomeAssumed K v (start_of like clauses_are) clauses_are → C

    found_in : {C D : Type 0} (r : ℕ) → (C → D) → Found r C → Found r D
    found_in r f x = record {
      around = x.around;
      like = x.like;
      names = x.names;
      levels = x.levels;
      clauses_are = x.clauses_are;
      next = x.next;
      holds = x.holds;
      set = x.set;
      alike = x.alike;
      numbered = x.numbered;
      from = x.from;
      below = x.below;
      gives = λ y. f (x.gives y);
    }

    mutual
      goal_found : (r : ℕ) (a s : Around) (n n' k k' q q' : ℕ) (g : Goal) (is : List Instr) → GoalCode P K v a n n' k k' q q' g is → AreSet a → IsAlike a s → q ≤ r → r < q' → Found r (SomeOfGoal K v s g)
      goal_found r a s n n' k k' q q' (Atomic t) is (c, same) set x le lt = absurd (omega (arith, same, le, lt))
      goal_found r a s n n' k k' q q' Cut is (c, d, same, e) set x le lt = absurd (omega (arith, same, le, lt))
      goal_found r a s n n' k k' q q' (Either gs hs) is (m, l, o, nl, mr, ls, rs, y, z, el, er, e) set x le lt =
          either_way r o (λ f. found_in r inl (goals_found r a s n m k l q o gs ls y set x le f)) (λ f. found_in r inr (goals_found r a s m n' l k' o q' hs rs z set x f lt))
      goal_found r a s n n' k k' q q' (Exists T gs) is (m, d, ts, js, y, short, z, e) set x le lt =
          goals_found r (pushed a (quantified k T)) (with_variable s T) m n' (k + 1) k' q q' gs js z (push_set a k T set) (pushed_alike a s k T x) le lt
      goal_found r a s n n' k k' q q' (Forall T gs) is (m, d, ts, js, y, short, z, e) set x le lt =
          goals_found r (pushed a (quantified k T)) (with_variable s T) m n' (k + 1) k' q q' gs js z (push_set a k T set) (pushed_alike a s k T x) le lt
      goal_found r a s n n' k k' q q' (Assume w cs gs) is (ns, ts, rs, ls, js, coded, captured, types, names, z, e) set x le lt =
          either_way r (q + length ns.items) (λ f. record {
            around = a;
            like = s;
            names = ns.items;
            levels = ls;
            clauses_are = cs;
            next = q;
            holds = coded;
            set = set;
            alike = x;
            numbered = names;
            from = le;
            below = f;
            gives = inl;
          }) (λ f. found_in r inr (goals_found r a s n n' k k' (q + length ns.items) q' gs js z set x f lt))
      goal_found r a s n n' k k' q q' (Not w gs) is (js, z, e) set x le lt = goals_found r a s n n' k k' q q' gs js z set x le lt

      pub goals_found : (r : ℕ) (a s : Around) (n n' k k' q q' : ℕ) (gs : Goals) (is : List Instr) → GoalsCode P K v a n n' k k' q q' gs is → AreSet a → IsAlike a s → q ≤ r → r < q' →
          Found r (SomeOfGoals K v s gs)
      goals_found r a s n n' k k' q q' no_goals is (c, d, same, e) set x le lt = absurd (omega (arith, same, le, lt))
      goals_found r a s n n' k k' q q' (goals g gs) is (m, l, o, js, ks, y, z, last, e) set x le lt =
          either_way r o (λ f. found_in r inl (goal_found r a s n m k l q o g js y set x le f))
          (λ f. found_in r (λ p. inr (ended_behind s g gs last p)) (goals_found r a s m n' l k' o q' gs ks z set x f lt))

    -- what follows of the clauses of each assumption
    module _ (C : Type 0) (each : (a s : Around) (ns ls : List ℕ) (cs : Clauses) → P a ns ls cs → AreSet a → IsAlike a s → SomeAssumed K v (start_of s cs) cs → C) where
      mutual
        goal_none : (a s : Around) (n n' k k' q q' : ℕ) (g : Goal) (is : List Instr) → GoalCode P K v a n n' k k' q q' g is → AreSet a → IsAlike a s → SomeOfGoal K v s g → C
        goal_none a s n n' k k' q q' (Atomic t) is y set x p = absurd p
        goal_none a s n n' k k' q q' Cut is y set x p = absurd p
        goal_none a s n n' k k' q q' (Either gs hs) is (m, l, o, nl, mr, ls, rs, y, z, el, er, e) set x (inl p) = goals_none a s n m k l q o gs ls y set x p
        goal_none a s n n' k k' q q' (Either gs hs) is (m, l, o, nl, mr, ls, rs, y, z, el, er, e) set x (inr p) = goals_none a s m n' l k' o q' hs rs z set x p
        goal_none a s n n' k k' q q' (Exists T gs) is (m, d, ts, js, y, short, z, e) set x p =
            goals_none (pushed a (quantified k T)) (with_variable s T) m n' (k + 1) k' q q' gs js z (push_set a k T set) (pushed_alike a s k T x) p
        goal_none a s n n' k k' q q' (Forall T gs) is (m, d, ts, js, y, short, z, e) set x p =
            goals_none (pushed a (quantified k T)) (with_variable s T) m n' (k + 1) k' q q' gs js z (push_set a k T set) (pushed_alike a s k T x) p
        goal_none a s n n' k k' q q' (Assume w cs gs) is (ns, ts, rs, ls, js, coded, captured, types, names, z, e) set x (inl p) = each a s ns.items ls cs coded set x p
        goal_none a s n n' k k' q q' (Assume w cs gs) is (ns, ts, rs, ls, js, coded, captured, types, names, z, e) set x (inr p) =
            goals_none a s n n' k k' (q + length ns.items) q' gs js z set x p
        goal_none a s n n' k k' q q' (Not w gs) is (js, z, e) set x p = goals_none a s n n' k k' q q' gs js z set x p

        pub goals_none : (a s : Around) (n n' k k' q q' : ℕ) (gs : Goals) (is : List Instr) → GoalsCode P K v a n n' k k' q q' gs is → AreSet a → IsAlike a s → SomeOfGoals K v s gs → C
        goals_none a s n n' k k' q q' no_goals is y set x p = absurd p
        goals_none a s n n' k k' q q' (goals g gs) is (m, l, o, js, ks, y, z, last, e) set x (inl p) = goal_none a s n m k l q o g js y set x p
        goals_none a s n n' k k' q q' (goals g gs) is (m, l, o, js, ks, y, z, last, e) set x (inr p) = goals_none a s m n' l k' o q' gs ks z set x (behind_ended s g gs last p)
