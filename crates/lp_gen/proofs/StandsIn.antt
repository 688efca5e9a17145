-- The variables with which assumed records start are those around that stand in their clauses.
use Rattle.std.proofs.Common.{◌≡◌, ◌∙◌, ◌<◌, ℕ, suc, ◌+◌, ◌-◌, List, [], ◌∷◌, length, Bool, true, false, true≢false, ap, refl, sym, subst, arith}
use Rattle.std.specs.Prelude.{◌||◌}
use Rattle.std.proofs.lemmas.Bool.{eqb-true, eq-eqb}
use Rattle.lp_calculus.specs.Types.{Ty}
use Rattle.lp_calculus.specs.Term.{Term, index, atom, abs, app}
use Rattle.lp_model.specs.Flat.{Goal, Goals, Clauses, Atomic, Cut, Either, Exists, Forall, Assume, Not, no_goals, goals, clause, no_clauses, clauses, under_all}
use Rattle.lp_code.specs.States.{member}
use Rattle.lp_gen.specs.Registers.{in_term, in_goal, in_goals, in_clauses}
use Rattle.lp_gen.specs.declared.plan.Assumption.{Assumption}
use Rattle.lp_gen.specs.inner.TermLaw.{AllLoose}
use Rattle.lp_gen.specs.inner.Bodies.{IsThrough, AreThrough, AllThrough}
use Rattle.lp_gen.specs.inner.Capturing.{IsSo}
use Rattle.lp_gen.specs.inner.Planned.{IsCaptured, AreCaptured, AreOnly}

or_split : (X : Type 0) (a b : Bool) → (a || b) ≡ true → (a ≡ true → X) → (b ≡ true → X) → X
or_split X true b e f g = f refl
or_split X false b e f g = g e

or_first : (a b : Bool) → a ≡ true → (a || b) ≡ true
or_first true b e = refl
or_first false b e = absurd (true≢false (sym e))

or_second : (a b : Bool) → b ≡ true → (a || b) ≡ true
or_second true b e = refl
or_second false b e = e

all_under : (vs : List Ty) (d : ℕ) → under_all suc vs d ≡ d + length vs
all_under [] d = omega arith
all_under (v ∷ vs) d = let z = all_under vs d in omega (arith, z)

-- what holds of each loose index holds of one that stands there
module _ (Q : ℕ → Type 0) where
  term_in : (d i : ℕ) (t : Term) → AllLoose Q d t → in_term (d + i) t ≡ true → Q i
  term_in d i (index j) x e = let same = eqb-true (d + i) j e in let z : j - d ≡ i = omega (arith, same) in subst Q z (x (omega (arith, same)))
  term_in d i (atom s) x e = absurd (true≢false (sym e))
  term_in d i (abs b) x e = term_in (suc d) i b x (let z : suc d + i ≡ suc (d + i) = omega arith in ap (λ n. in_term n b) z ∙ e)
  term_in d i (app t u) x e = or_split (Q i) (in_term (d + i) t) (in_term (d + i) u) e (term_in d i t x.0) (term_in d i u x.1)

  mutual
    goal_in : (d i : ℕ) (g : Goal) → IsThrough (AllLoose Q) d g → in_goal (d + i) g ≡ true → Q i
    goal_in d i (Atomic t) x e = term_in d i t x e
    goal_in d i Cut x e = absurd (true≢false (sym e))
    goal_in d i (Either gs hs) x e = or_split (Q i) (in_goals (d + i) gs) (in_goals (d + i) hs) e (goals_in d i gs x.0) (goals_in d i hs x.1)
    goal_in d i (Exists T gs) x e = goals_in (suc d) i gs x (let z : suc d + i ≡ suc (d + i) = omega arith in ap (λ n. in_goals n gs) z ∙ e)
    goal_in d i (Forall T gs) x e = goals_in (suc d) i gs x (let z : suc d + i ≡ suc (d + i) = omega arith in ap (λ n. in_goals n gs) z ∙ e)
    goal_in d i (Assume w cs gs) x e = or_split (Q i) (in_clauses (d + i) cs) (in_goals (d + i) gs) e (clauses_in d i cs x.0) (goals_in d i gs x.1)
    goal_in d i (Not w gs) x e = goals_in d i gs x e

    goals_in : (d i : ℕ) (gs : Goals) → AreThrough (AllLoose Q) d gs → in_goals (d + i) gs ≡ true → Q i
    goals_in d i no_goals x e = absurd (true≢false (sym e))
    goals_in d i (goals g gs) x e = or_split (Q i) (in_goal (d + i) g) (in_goals (d + i) gs) e (goal_in d i g x.0) (goals_in d i gs x.1)

    pub clauses_in : (d i : ℕ) (cs : Clauses) → AllThrough (AllLoose Q) d cs → in_clauses (d + i) cs ≡ true → Q i
    clauses_in d i no_clauses x e = absurd (true≢false (sym e))
    clauses_in d i (clauses (clause n vs h b) cs) x e =
        let u = all_under vs d in
        let z : under_all suc vs d + i ≡ d + i + length vs = omega (arith, u) in
        or_split (Q i) (in_term (d + i + length vs) h) (in_goals (d + i + length vs) b || in_clauses (d + i) cs) e (λ f. term_in (under_all suc vs d) i h x.0 (ap (λ m. in_term m h) z ∙ f))
        (λ f. or_split (Q i) (in_goals (d + i + length vs) b) (in_clauses (d + i) cs) f (λ k. goals_in (under_all suc vs d) i b x.1 (ap (λ m. in_goals m b) z ∙ k)) (clauses_in d i cs x.2))

-- what holds of all that stand there holds of each loose index
module _ (p : ℕ → Bool) where
  each_term : (d : ℕ) (t : Term) → ((i : ℕ) → in_term (d + i) t ≡ true → p i ≡ true) → AllLoose (IsSo p) d t
  each_term d (index j) f = λ le. f (j - d) (eq-eqb (d + (j - d)) j (omega (arith, le)))
  each_term d (atom s) f = tt
  each_term d (abs b) f = each_term (suc d) b (λ i e. f i (let z : suc (d + i) ≡ suc d + i = omega arith in ap (λ n. in_term n b) z ∙ e))
  each_term d (app t u) f =
      (each_term d t (λ i e. f i (or_first (in_term (d + i) t) (in_term (d + i) u) e)), each_term d u (λ i e. f i (or_second (in_term (d + i) t) (in_term (d + i) u) e)))

  mutual
    each_goal : (d : ℕ) (g : Goal) → ((i : ℕ) → in_goal (d + i) g ≡ true → p i ≡ true) → IsThrough (AllLoose (IsSo p)) d g
    each_goal d (Atomic t) f = each_term d t f
    each_goal d Cut f = tt
    each_goal d (Either gs hs) f =
        (each_goals d gs (λ i e. f i (or_first (in_goals (d + i) gs) (in_goals (d + i) hs) e)), each_goals d hs (λ i e. f i (or_second (in_goals (d + i) gs) (in_goals (d + i) hs) e)))
    each_goal d (Exists T gs) f = each_goals (suc d) gs (λ i e. f i (let z : suc (d + i) ≡ suc d + i = omega arith in ap (λ n. in_goals n gs) z ∙ e))
    each_goal d (Forall T gs) f = each_goals (suc d) gs (λ i e. f i (let z : suc (d + i) ≡ suc d + i = omega arith in ap (λ n. in_goals n gs) z ∙ e))
    each_goal d (Assume w cs gs) f =
        (each_clauses d cs (λ i e. f i (or_first (in_clauses (d + i) cs) (in_goals (d + i) gs) e)), each_goals d gs (λ i e. f i (or_second (in_clauses (d + i) cs) (in_goals (d + i) gs) e)))
    each_goal d (Not w gs) f = each_goals d gs f

    each_goals : (d : ℕ) (gs : Goals) → ((i : ℕ) → in_goals (d + i) gs ≡ true → p i ≡ true) → AreThrough (AllLoose (IsSo p)) d gs
    each_goals d no_goals f = tt
    each_goals d (goals g gs) f =
        (each_goal d g (λ i e. f i (or_first (in_goal (d + i) g) (in_goals (d + i) gs) e)), each_goals d gs (λ i e. f i (or_second (in_goal (d + i) g) (in_goals (d + i) gs) e)))

    pub each_clauses : (d : ℕ) (cs : Clauses) → ((i : ℕ) → in_clauses (d + i) cs ≡ true → p i ≡ true) → AllThrough (AllLoose (IsSo p)) d cs
    each_clauses d no_clauses f = tt
    each_clauses d (clauses (clause n vs h b) cs) f =
        let u = all_under vs d in (
          each_term (under_all suc vs d) h (λ i e. f i (or_first (in_term (d + i + length vs) h) (in_goals (d + i + length vs) b || in_clauses (d + i) cs)
              (let z : d + i + length vs ≡ under_all suc vs d + i = omega (arith, u) in ap (λ m. in_term m h) z ∙ e))),
          each_goals (under_all suc vs d) b (λ i e. f i (or_second (in_term (d + i + length vs) h) (in_goals (d + i + length vs) b || in_clauses (d + i) cs)
              (or_first (in_goals (d + i + length vs) b) (in_clauses (d + i) cs) (let z : d + i + length vs ≡ under_all suc vs d + i = omega (arith, u) in ap (λ m. in_goals m b) z ∙ e)))),
          each_clauses d cs (λ i e. f i (or_second (in_term (d + i + length vs) h) (in_goals (d + i + length vs) b || in_clauses (d + i) cs)
              (or_second (in_goals (d + i + length vs) b) (in_clauses (d + i) cs) e))),
        )

-- the levels that an assumption keeps

from_none : (i : ℕ) (cs : Clauses) → in_clauses (0 + i) cs ≡ in_clauses i cs
from_none i cs = let z : 0 + i ≡ i = omega arith in ap (λ n. in_clauses n cs) z

pub key_low : (x : Assumption) (cs : Clauses) → AreOnly x cs → (l : ℕ) → member l x.captured.keys ≡ true → l < x.base
key_low x cs only l e = let w = only (λ i. in_clauses i cs) (each_clauses (λ i. in_clauses i cs) 0 cs (λ i f. sym (from_none i cs) ∙ f)) l e in let low = w.1 in let is = w.2 in omega (arith, low, is)

pub key_stands : (x : Assumption) (cs : Clauses) → AreCaptured x cs → AreOnly x cs → (l : ℕ) → l < x.base → member l x.captured.keys ≡ in_clauses (x.base - l - 1) cs
key_stands x cs all only l low = go (member l x.captured.keys) refl (in_clauses (x.base - l - 1) cs) refl
  where
    stands : member l x.captured.keys ≡ true → in_clauses (x.base - l - 1) cs ≡ true
    stands e =
        let w = only (λ i. in_clauses i cs) (each_clauses (λ i. in_clauses i cs) 0 cs (λ i f. sym (from_none i cs) ∙ f)) l e in
        let lt = w.1 in
        let is = w.2 in
        let z : x.base - l - 1 ≡ w.0 = omega (arith, lt, is, low) in
        ap (λ n. in_clauses n cs) z ∙ w.3

    kept : in_clauses (x.base - l - 1) cs ≡ true → member l x.captured.keys ≡ true
    kept e =
        let k = clauses_in (IsCaptured x) 0 (x.base - l - 1) cs all (from_none (x.base - l - 1) cs ∙ e) (omega (arith, low)) in
        let z : l ≡ x.base - (x.base - l - 1) - 1 = omega (arith, low) in
        ap (λ n. member n x.captured.keys) z ∙ k

    go : (a : Bool) → member l x.captured.keys ≡ a → (b : Bool) → in_clauses (x.base - l - 1) cs ≡ b → member l x.captured.keys ≡ in_clauses (x.base - l - 1) cs
    go true e b f = e ∙ sym (stands e)
    go false e true f = absurd (true≢false (sym (kept f) ∙ e))
    go false e false f = e ∙ sym f
