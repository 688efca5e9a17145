-- The search of a negated goal: more moves change nothing once it is over, and so the move that it is part of stays.
use Rattle.std.proofs.Common.{◌≡◌, ℕ, zero, suc, ◌≤◌, List, [], ◌∷◌, length, refl, ap, ◌∙◌, arith}
use Rattle.std.specs.Prelude.{◌≢◌, Bool, true, false, if◌then◌else◌}
use Rattle.lp_model.specs.declared.ending.Ending.{Ending}
use Rattle.lp_model.specs.declared.ending.Ending.TheVariants.{NoMore, NoMoreCut, Enough, Steps, Flexible, Arithmetic, OpenNot, Deep}
use Rattle.lp_model.specs.Skeleton.{View, Gives, Opens, Parts, Takes, Cuts, Denies, Halts, Lacks, State, Note, Move, Goes, Tells, Stops, Breaks, Waits, Inner, Refuted, Held, Broke, Lasts, starts_within, move_denied, move_view, move_at, move, later, inner_end, inner_after, inner}

-- a search that is over
unfoldable pub IsOver : Inner → Type 0
IsOver (Refuted k ns p) = Unit {0}
IsOver (Held k ns p) = Unit {0}
IsOver (Broke k ns e) = Unit {0}
IsOver (Lasts k ns) = ⊥

-- a move that is made
unfoldable pub IsMade : {T A : Type 0} → Move T A → Type 0
IsMade (Goes k ns s) = Unit {0}
IsMade (Tells a ns s) = Unit {0}
IsMade (Stops e) = Unit {0}
IsMade (Breaks k ns e) = Unit {0}
IsMade (Waits k ns) = ⊥

-- the second is the first, where that is over
abbrev pub Follows : (r r' : Inner) → Type 0
Follows r r' = IsOver r → r' ≡ r

pub later_over : (j : ℕ) (ns : List Note) (r : Inner) → IsOver (later j ns r) → IsOver r
unfolding IsOver
later_over j ns (Refuted k ms p) h = tt
later_over j ns (Held k ms p) h = tt
later_over j ns (Broke k ms e) h = tt
later_over j ns (Lasts k ms) h = h

module _ {T A : Type 0} where
  denied_follows : (n k g u : ℕ) (lost : Bool) (ts rest : List T) (r r' : Inner) → Follows r r' → IsMade (move_denied {Task = T} {Answer = A} n k g u lost ts rest r) → move_denied {Task = T} {Answer = A} n k g u lost ts rest r' ≡ move_denied n k g u lost ts rest r
  unfolding IsOver IsMade
  denied_follows n k g u lost ts rest (Refuted j ns p) r' f h = ap (move_denied n k g u lost ts rest) (f tt)
  denied_follows n k g u lost ts rest (Held j ns p) r' f h = ap (move_denied n k g u lost ts rest) (f tt)
  denied_follows n k g u lost ts rest (Broke j ns e) r' f h = ap (move_denied n k g u lost ts rest) (f tt)
  denied_follows n k g u lost ts rest (Lasts j ns) r' f h = absurd h

  module _ (go go' : (A → Bool) → State T → Inner) (follows : (f : A → Bool) (s : State T) → Follows (go f s) (go' f s)) where
    pub view_follows : (n k g u p : ℕ) (lost : Bool) (rest : List T) (w : View T A) → IsMade (move_view go n k g u p lost rest w) → move_view go' n k g u p lost rest w ≡ move_view go n k g u p lost rest w
    view_follows n k g u p lost rest (Gives a) h = refl
    view_follows n k g u p lost rest (Opens ts) h = refl
    view_follows n k g u zero lost rest (Parts ts) h = refl
    view_follows n k g u (suc p) lost rest (Parts ts) h = refl
    view_follows zero k g u p lost rest (Takes name ts) h = refl
    view_follows (suc n) k g u p lost rest (Takes name ts) h = refl
    view_follows zero k g u p lost rest (Cuts m ts) h = refl
    view_follows (suc n) k g u p lost rest (Cuts m ts) h = refl
    view_follows zero k g u p lost rest (Denies t f ts) h = refl
    view_follows (suc n) k g u p lost rest (Denies t f ts) h = denied_follows n k g u lost ts rest (go f (starts_within u t n 1)) (go' f (starts_within u t n 1)) (follows f (starts_within u t n 1)) h
    view_follows n k g u p lost rest (Halts e) h = refl
    view_follows n k g u p lost rest Lacks h = refl

    at_follows : (look : ℕ → T → View T A) (n k g u p : ℕ) (lost : Bool) (ts : List T) → IsMade (move_at go look n k g u p lost ts) → move_at go' look n k g u p lost ts ≡ move_at go look n k g u p lost ts
    at_follows look n zero g u p lost ts h = refl
    at_follows look n (suc k) g u p true [] h = refl
    at_follows look n (suc k) g u p false [] h = refl
    at_follows look n (suc k) g u p true (t ∷ ts) h = view_follows n k g u p true ts (look (length ts) t) h
    at_follows look n (suc k) g u p false (t ∷ ts) h = view_follows n k g u p false ts (look (length ts) t) h

    pub move_follows : (look : ℕ → T → View T A) (s : State T) → IsMade (move go look s) → move go' look s ≡ move go look s
    move_follows look s h = at_follows look s.steps s.answers s.given s.rows s.row s.lost s.stack h

  pub made_where_over : (go : State T → Inner) (f : A → Bool) (p : ℕ) (m : Move T A) → IsOver (inner_after go f p m) → IsMade m
  unfolding IsOver IsMade
  made_where_over go f p (Goes k ns s) h = tt
  made_where_over go f p (Tells a ns s) h = tt
  made_where_over go f p (Stops e) h = tt
  made_where_over go f p (Breaks k ns e) h = tt
  made_where_over go f p (Waits k ns) h = h

  pub after_follows : (go go' : State T → Inner) (f : A → Bool) (p : ℕ) → ((s : State T) → Follows (go s) (go' s)) → (m : Move T A) → IsOver (inner_after go f p m) → inner_after go' f p m ≡ inner_after go f p m
  after_follows go go' f p follows (Goes k ns s) h = ap (later k ns) (follows s (later_over k ns (go s) h))
  after_follows go go' f p follows (Tells a ns s) h = refl
  after_follows go go' f p follows (Stops e) h = refl
  after_follows go go' f p follows (Breaks k ns e) h = refl
  after_follows go go' f p follows (Waits k ns) h = refl

  pub inner_more : (look : ℕ → T → View T A) (n m : ℕ) → n ≤ m → (f : A → Bool) (s : State T) → Follows (inner look n f s) (inner look m f s)
  unfolding IsOver
  inner_more look zero m l f s h = absurd h
  inner_more look (suc n) zero l f s h = absurd (omega arith)
  inner_more look (suc n) (suc m) l f s h =
      let l' : n ≤ m = omega arith in
      let made = made_where_over (inner look n f) f s.row (move (inner look n) look s) h in
      let same = move_follows (inner look n) (inner look m) (λ f' s'. inner_more look n m l' f' s') look s made in
      ap (inner_after (inner look m f) f s.row) same ∙ after_follows (inner look n f) (inner look m f) f s.row (λ s'. inner_more look n m l' f s') (move (inner look n) look s) h

  -- a move that is made stays the same with more moves of the searches in it
  pub move_more : (look : ℕ → T → View T A) (n m : ℕ) → n ≤ m → (s : State T) → IsMade (move (inner look n) look s) → move (inner look m) look s ≡ move (inner look n) look s
  move_more look n m l s h = move_follows (inner look n) (inner look m) (λ f s'. inner_more look n m l f s') look s h

-- no search of a negated goal breaks the whole search off as one that has no more
abbrev pub BreaksRightly : Inner → Type 0
BreaksRightly (Broke k ns e) = e ≢ NoMore
BreaksRightly r = Unit {0}

abbrev pub StopsRightly : {T A : Type 0} → Move T A → Type 0
StopsRightly (Breaks k ns e) = e ≢ NoMore
StopsRightly m = Unit {0}

later_rightly : (j : ℕ) (ns : List Note) (r : Inner) → BreaksRightly r → BreaksRightly (later j ns r)
later_rightly j ns (Refuted k ms p) h = tt
later_rightly j ns (Held k ms p) h = tt
later_rightly j ns (Broke k ms e) h = h
later_rightly j ns (Lasts k ms) h = tt

end_rightly : (p : ℕ) (e : Ending) → BreaksRightly (inner_end p e)
end_rightly p NoMore = tt
end_rightly p NoMoreCut = λ h. cc
end_rightly p Enough = λ h. cc
end_rightly p Steps = λ h. cc
end_rightly p Flexible = λ h. cc
end_rightly p (Arithmetic f) = λ h. cc
end_rightly p OpenNot = λ h. cc
end_rightly p Deep = λ h. cc

final_rightly : (b : Bool) (p : ℕ) → BreaksRightly (if b then Held 0 [] p else Broke 0 [] OpenNot)
final_rightly true p = tt
final_rightly false p = λ h. cc

module _ {T A : Type 0} (look : ℕ → T → View T A) where
  denied_rightly : (n k g u : ℕ) (lost : Bool) (ts rest : List T) (r : Inner) → BreaksRightly r → StopsRightly (move_denied {Task = T} {Answer = A} n k g u lost ts rest r)
  denied_rightly n k g u lost ts rest (Refuted j ns p) h = tt
  denied_rightly n k g u lost ts rest (Held j ns p) h = tt
  denied_rightly n k g u lost ts rest (Broke j ns e) h = h
  denied_rightly n k g u lost ts rest (Lasts j ns) h = tt

  module _ (go : (A → Bool) → State T → Inner) (rightly : (f : A → Bool) (s : State T) → BreaksRightly (go f s)) where
    view_rightly : (n k g u p : ℕ) (lost : Bool) (rest : List T) (w : View T A) → StopsRightly (move_view go n k g u p lost rest w)
    view_rightly n k g u p lost rest (Gives a) = tt
    view_rightly n k g u p lost rest (Opens ts) = tt
    view_rightly n k g u zero lost rest (Parts ts) = tt
    view_rightly n k g u (suc p) lost rest (Parts ts) = tt
    view_rightly zero k g u p lost rest (Takes name ts) = tt
    view_rightly (suc n) k g u p lost rest (Takes name ts) = tt
    view_rightly zero k g u p lost rest (Cuts m ts) = tt
    view_rightly (suc n) k g u p lost rest (Cuts m ts) = tt
    view_rightly zero k g u p lost rest (Denies t f ts) = tt
    view_rightly (suc n) k g u p lost rest (Denies t f ts) = denied_rightly n k g u lost ts rest (go f (starts_within u t n 1)) (rightly f (starts_within u t n 1))
    view_rightly n k g u p lost rest (Halts e) = tt
    view_rightly n k g u p lost rest Lacks = tt

    pub at_rightly : (n k g u p : ℕ) (lost : Bool) (ts : List T) → StopsRightly (move_at go look n k g u p lost ts)
    at_rightly n zero g u p lost ts = tt
    at_rightly n (suc k) g u p true [] = tt
    at_rightly n (suc k) g u p false [] = tt
    at_rightly n (suc k) g u p true (t ∷ ts) = view_rightly n k g u p true ts (look (length ts) t)
    at_rightly n (suc k) g u p false (t ∷ ts) = view_rightly n k g u p false ts (look (length ts) t)

  after_rightly : (go : State T → Inner) (f : A → Bool) (p : ℕ) → ((s : State T) → BreaksRightly (go s)) → (m : Move T A) → StopsRightly m → BreaksRightly (inner_after go f p m)
  after_rightly go f p ih (Goes j ns s) h = later_rightly j ns (go s) (ih s)
  after_rightly go f p ih (Tells a ns s) h = final_rightly (f a) p
  after_rightly go f p ih (Stops e) h = end_rightly p e
  after_rightly go f p ih (Breaks j ns e) h = h
  after_rightly go f p ih (Waits j ns) h = tt

  pub inner_rightly : (n : ℕ) (f : A → Bool) (s : State T) → BreaksRightly (inner look n f s)
  inner_rightly zero f s = tt
  inner_rightly (suc n) f s = after_rightly (inner look n f) f s.row (inner_rightly n f) (move (inner look n) look s) (at_rightly (inner look n) (inner_rightly n) s.steps s.answers s.given s.rows s.row s.lost s.stack)
