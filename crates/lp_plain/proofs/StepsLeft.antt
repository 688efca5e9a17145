-- A move of a search leaves as many steps fewer as it takes.
use Rattle.std.proofs.Common.{◌≡◌, ℕ, zero, suc, ◌+◌, ◌≤◌, List, [], ◌∷◌, length, arith}
use Rattle.std.specs.Prelude.{Bool, true, false, if◌then◌else◌}
use Rattle.lp_model.specs.declared.ending.Ending.{Ending}
use Rattle.lp_model.specs.declared.ending.Ending.TheVariants.{NoMore, NoMoreCut, Enough, Steps, Flexible, Arithmetic, OpenNot, Deep}
use Rattle.lp_model.specs.Skeleton.{View, Gives, Opens, Parts, Takes, Cuts, Denies, Halts, Lacks, State, Note, Move, Goes, Tells, Stops, Breaks, Waits, Inner, Refuted, Held, Broke, Lasts, starts_within, move_denied, move_view, move_at, move, later, inner_end, inner_after, inner}

-- at most so many steps are taken until it is decided
abbrev pub TakesAtMost : ℕ → Inner → Type 0
TakesAtMost n (Refuted k ns p) = k ≤ n
TakesAtMost n (Held k ns p) = k ≤ n
TakesAtMost n (Broke k ns e) = Unit {0}
TakesAtMost n (Lasts k ns) = Unit {0}

-- of so many steps those that are not taken are left
abbrev pub LeavesSteps : {T A : Type 0} → ℕ → Move T A → Type 0
LeavesSteps n (Goes k ns t) = n ≡ k + t.steps
LeavesSteps n (Tells a ns t) = Unit {0}
LeavesSteps n (Stops e) = Unit {0}
LeavesSteps n (Breaks k ns e) = Unit {0}
LeavesSteps n (Waits k ns) = Unit {0}

later_most : (n m j : ℕ) (ns : List Note) (r : Inner) → n ≡ j + m → TakesAtMost m r → TakesAtMost n (later j ns r)
later_most n m j ns (Refuted k ms p) e h = omega (arith, e, h)
later_most n m j ns (Held k ms p) e h = omega (arith, e, h)
later_most n m j ns (Broke k ms x) e h = tt
later_most n m j ns (Lasts k ms) e h = tt

end_most : (n p : ℕ) (e : Ending) → TakesAtMost n (inner_end p e)
end_most n p NoMore = omega arith
end_most n p NoMoreCut = tt
end_most n p Enough = tt
end_most n p Steps = tt
end_most n p Flexible = tt
end_most n p (Arithmetic f) = tt
end_most n p OpenNot = tt
end_most n p Deep = tt

final_most : (n p : ℕ) (b : Bool) → TakesAtMost n (if b then Held 0 [] p else Broke 0 [] OpenNot)
final_most n p true = omega arith
final_most n p false = tt

denied_leaves : {T : Type 0} (A : Type 0) (n k g u : ℕ) (lost : Bool) (ts rest : List T) (r : Inner) → TakesAtMost n r → LeavesSteps {T = T} {A = A} (suc n) (move_denied n k g u lost ts rest r)
denied_leaves A n k g u lost ts rest (Refuted j ns p) h = omega (arith, h)
denied_leaves A n k g u lost ts rest (Held j ns p) h = omega (arith, h)
denied_leaves A n k g u lost ts rest (Broke j ns e) h = tt
denied_leaves A n k g u lost ts rest (Lasts j ns) h = tt

module _ {T A : Type 0} where
  module _ (go : (A → Bool) → State T → Inner) (most : (f : A → Bool) (s : State T) → TakesAtMost s.steps (go f s)) where
    view_leaves : (n k g u p : ℕ) (lost : Bool) (rest : List T) (v : View T A) → LeavesSteps n (move_view go n k g u p lost rest v)
    view_leaves n k g u p lost rest (Gives a) = tt
    view_leaves n k g u p lost rest (Opens ts) = omega arith
    view_leaves n k g u zero lost rest (Parts ts) = tt
    view_leaves n k g u (suc p) lost rest (Parts ts) = omega arith
    view_leaves zero k g u p lost rest (Takes name ts) = tt
    view_leaves (suc n) k g u p lost rest (Takes name ts) = omega arith
    view_leaves zero k g u p lost rest (Cuts m ts) = tt
    view_leaves (suc n) k g u p lost rest (Cuts m ts) = omega arith
    view_leaves zero k g u p lost rest (Denies t f ts) = tt
    view_leaves (suc n) k g u p lost rest (Denies t f ts) = denied_leaves A n k g u lost ts rest (go f (starts_within u t n 1)) (most f (starts_within u t n 1))
    view_leaves n k g u p lost rest (Halts e) = tt
    view_leaves n k g u p lost rest Lacks = tt

    at_leaves : (look : ℕ → T → View T A) (n k g u p : ℕ) (lost : Bool) (ts : List T) → LeavesSteps n (move_at go look n k g u p lost ts)
    at_leaves look n zero g u p lost ts = tt
    at_leaves look n (suc k) g u p true [] = tt
    at_leaves look n (suc k) g u p false [] = tt
    at_leaves look n (suc k) g u p true (t ∷ ts) = view_leaves n k g u p true ts (look (length ts) t)
    at_leaves look n (suc k) g u p false (t ∷ ts) = view_leaves n k g u p false ts (look (length ts) t)

  after_most : (go : State T → Inner) (f : A → Bool) (n p : ℕ) → ((s : State T) → TakesAtMost s.steps (go s)) → (v : Move T A) → LeavesSteps n v → TakesAtMost n (inner_after go f p v)
  after_most go f n p most (Goes k ns t) h = later_most n t.steps k ns (go t) h (most t)
  after_most go f n p most (Tells a ns t) h = final_most n p (f a)
  after_most go f n p most (Stops e) h = end_most n p e
  after_most go f n p most (Breaks k ns e) h = tt
  after_most go f n p most (Waits k ns) h = tt

  module _ (look : ℕ → T → View T A) where
    pub inner_most : (j : ℕ) (f : A → Bool) (s : State T) → TakesAtMost s.steps (inner look j f s)
    inner_most zero f s = tt
    inner_most (suc j) f s =
        after_most (inner look j f) f s.steps s.row (λ t. inner_most j f t) (move (inner look j) look s)
        (at_leaves (inner look j) (λ g t. inner_most j g t) look s.steps s.answers s.given s.rows s.row s.lost s.stack)

    pub move_leaves : (j : ℕ) (s : State T) → LeavesSteps s.steps (move (inner look j) look s)
    move_leaves j s = at_leaves (inner look j) (λ g t. inner_most j g t) look s.steps s.answers s.given s.rows s.row s.lost s.stack
