-- The code of goals makes no variable of the record: where all are set.
use Rattle.std.proofs.Common.{◌≡◌, ◌∙◌, ℕ, ◌+◌, List, [], ◌∷◌, ◌++◌, length, true, ap, refl, sym, true≢false}
use Rattle.std.specs.Prelude.{◌||◌}
use Rattle.std.proofs.lemmas.Bool.{eq-eqb}
use Rattle.lp_calculus.specs.Types.{Ty}
use Rattle.lp_calculus.specs.Term.{Term}
use Rattle.lp_model.specs.Flat.{Goal, Goals, Clauses, Atomic, Cut, Either, Exists, Forall, Assume, Not, no_goals, goals}
use Rattle.lp_code.specs.declared.instruction.Instr.{Instr}
use Rattle.lp_code.specs.declared.instruction.Instr.TheVariants as on
use Rattle.lp_code.specs.States.{member}
use Rattle.lp_gen.specs.Steps.{Around}
use Rattle.lp_gen.specs.inner.TermLaw.{AreSet}
use Rattle.lp_gen.specs.inner.Owned.{makes, AreStarted}
use Rattle.lp_gen.specs.inner.Bodies.{pushed}
use Rattle.lp_gen.specs.inner.GoalCode.{quantified, AtomCode, GoalCode, GoalsCode}
use Rattle.lp_gen.proofs.OwnSet.{makes_both}
use Rattle.lp_gen.proofs.BodySteps.{push_set}

none_both : (xs ys : List Instr) → makes xs ≡ [] → makes ys ≡ [] → makes (xs ++ ys) ≡ []
none_both xs ys x y = makes_both xs ys ∙ (λ i. x i ++ y i)

-- a list without members
no_members : (xs : List ℕ) → ((r : ℕ) → member r xs ≡ true → ⊥) → xs ≡ []
no_members [] f = refl
no_members (x ∷ xs) f = absurd (f x (ap (λ t. t || member x xs) (eq-eqb x x refl)))

set_started : (a : Around) → AreSet a → AreStarted a
set_started a set l v low e = set l v e

plain_as : (is js : List Instr) → is ≡ js → makes js ≡ [] → makes is ≡ []
plain_as is js e x = ap makes e ∙ x

atom_plain : (K : ℕ → List Ty → Ty) (a : Around) (n n' k k' : ℕ) (t : Term) (is : List Instr) → AreSet a → AtomCode K a n n' k k' t is → makes is ≡ []
atom_plain K a n n' k k' t is set c =
    let own = c.written.owns (set_started a set) in
    plain_as is c.written.more c.code_is (no_members (makes c.written.more) (λ r e. let w = own.made.sound r e in true≢false (sym (set w.0 w.1 w.2) ∙ w.3)))

one_plain : (i : Instr) (is : List Instr) → makes (i ∷ []) ≡ [] → makes is ≡ [] → makes (i ∷ is) ≡ []
one_plain i is x y = none_both (i ∷ []) is x y

module _ (P : Around → (records levels : List ℕ) → Clauses → Type 0) (K : ℕ → List Ty → Ty) (v : ℕ) where
  mutual
    goal_plain : (a : Around) (n n' k k' q q' : ℕ) (g : Goal) (is : List Instr) → AreSet a → GoalCode P K v a n n' k k' q q' g is → makes is ≡ []
    goal_plain a n n' k k' q q' (Atomic t) is set (c, same) = atom_plain K a n n' k k' t is set c
    goal_plain a n n' k k' q q' Cut is set (x, y, z, e) = plain_as is (on.Cut ∷ []) e refl
    goal_plain a n n' k k' q q' (Either gs hs) is set (m, l, o, nl, mr, ls, rs, x, y, el, er, e) =
        plain_as is (on.Either nl ∷ (ls ++ on.Jump mr ∷ rs)) e (one_plain (on.Either nl) (ls ++ on.Jump mr ∷ rs) refl
        (none_both ls (on.Jump mr ∷ rs) (goals_plain a n m k l q o gs ls set x) (one_plain (on.Jump mr) rs refl (goals_plain a m n' l k' o q' hs rs set y))))
    goal_plain a n n' k k' q q' (Exists T gs) is set (m, r, ts, js, x, short, y, e) =
        plain_as is (ts ++ (on.Sigma k r ∷ [] ++ js)) e (none_both ts (on.Sigma k r ∷ [] ++ js) (plain_as ts x.put.more x.code_is x.put.plain.no_own) (one_plain (on.Sigma k r) js refl
        (goals_plain (pushed a (quantified k T)) m n' (k + 1) k' q q' gs js (push_set a k T set) y)))
    goal_plain a n n' k k' q q' (Forall T gs) is set (m, r, ts, js, x, short, y, e) =
        plain_as is (ts ++ (on.All k r ∷ [] ++ (js ++ on.EndAll ∷ []))) e (none_both ts (on.All k r ∷ [] ++ (js ++ on.EndAll ∷ [])) (plain_as ts x.put.more x.code_is x.put.plain.no_own)
        (one_plain (on.All k r) (js ++ on.EndAll ∷ []) refl (none_both js (on.EndAll ∷ [])
        (goals_plain (pushed a (quantified k T)) m n' (k + 1) k' q q' gs js (push_set a k T set) y) refl)))
    goal_plain a n n' k k' q q' (Assume w cs gs) is set (ns, ts, rs, ls, js, coded, captured, types, names, x, e) =
        plain_as is (on.Assume ns ts rs ∷ [] ++ (js ++ on.EndAssume ∷ [])) e (one_plain (on.Assume ns ts rs) (js ++ on.EndAssume ∷ []) refl
        (none_both js (on.EndAssume ∷ []) (goals_plain a n n' k k' (q + length ns.items) q' gs js set x) refl))
    goal_plain a n n' k k' q q' (Not w gs) is set (js, x, e) =
        plain_as is (on.Not ∷ [] ++ (js ++ on.EndNot ∷ [])) e (one_plain on.Not (js ++ on.EndNot ∷ []) refl
        (none_both js (on.EndNot ∷ []) (goals_plain a n n' k k' q q' gs js set x) refl))

    pub goals_plain : (a : Around) (n n' k k' q q' : ℕ) (gs : Goals) (is : List Instr) → AreSet a → GoalsCode P K v a n n' k k' q q' gs is → makes is ≡ []
    goals_plain a n n' k k' q q' no_goals is set (x, y, z, e) = plain_as is [] e refl
    goals_plain a n n' k k' q q' (goals g gs) is set (m, l, o, js, ks, x, y, last, e) =
        plain_as is (js ++ ks) e (none_both js ks (goal_plain a n m k l q o g js set x) (goals_plain a m n' l k' o q' gs ks set y))
