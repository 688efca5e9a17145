-- What a search must owe at each task, so that its answers are right: the solutions of a task are those of what it turns out to be.
use Rattle.std.specs.Prelude.{◌≡◌, ℕ, ◌+◌, ◌<◌, ◌≤◌, Bool, List, [], ◌∷◌, ◌⊎◌, ◌≢◌}
use Rattle.lp_model.specs.declared.ending.Ending.TheVariants.{NoMore}
use Rattle.lp_lemmas.specs.Each.{AnyOf, EachOf}
use Rattle.lp_model.specs.Skeleton.{View, Gives, Opens, Parts, Takes, Cuts, Denies, Halts, Lacks, Note, Refuted, Held, starts_within, inner}

-- the instance i is among what a view leaves; H says what is left where the search cannot go on
abbrev pub Covers : {Task Answer Inst : Type 0} → (H : Type 0) → (Inst → Task → Type 0) → (Inst → Answer → Type 0) → Inst → View Task Answer → Type 0
Covers H Sol Is i (Gives a) = Is i a
Covers H Sol Is i (Opens ts) = AnyOf (Sol i) ts
Covers H Sol Is i (Parts ts) = AnyOf (Sol i) ts
Covers H Sol Is i (Takes name ts) = AnyOf (Sol i) ts
Covers H Sol Is i (Cuts m ts) = AnyOf (Sol i) ts
-- by what comes of the search of the negated goal (Faithful)
Covers H Sol Is i (Denies t is_final ts) = H
Covers H Sol Is i (Halts e) = H
Covers H Sol Is i Lacks = H

-- what is left is as it should be, and what cannot go on does not say that there is no more
abbrev pub AreFine : {Task Answer : Type 0} → (Task → Type 0) → (Answer → Type 0) → View Task Answer → Type 0
AreFine Ok Fine (Gives a) = Fine a
AreFine Ok Fine (Opens ts) = EachOf Ok ts
AreFine Ok Fine (Parts ts) = EachOf Ok ts
AreFine Ok Fine (Takes name ts) = EachOf Ok ts
AreFine Ok Fine (Cuts m ts) = EachOf Ok ts
AreFine Ok Fine (Denies t is_final ts) = EachOf Ok ts
AreFine Ok Fine (Halts e) = e ≢ NoMore
AreFine Ok Fine Lacks = Unit {0}

-- a search of a negated goal with fewer steps than b that fails says that the task has the solutions of what is put in its place, and one that has a final answer
-- that the task has none
pub record Denied {Task Answer Inst : Type 0} (look : ℕ → Task → View Task Answer) (b : ℕ) (Sol : Inst → Task → Type 0) (t : Task) (u : Task) (is_final : Answer → Bool) (ts : List Task) : Type 0 where
  pub refuted : (j n rows k p : ℕ) (ns : List Note) → n < b → inner look j is_final (starts_within rows u n 1) ≡ Refuted k ns p → (i : Inst) → (Sol i t → AnyOf (Sol i) ts) × (AnyOf (Sol i) ts → Sol i t)
  pub held : (j n rows k p : ℕ) (ns : List Note) → n < b → inner look j is_final (starts_within rows u n 1) ≡ Held k ns p → (i : Inst) → Sol i t → ⊥

-- Ok and Fine are what is kept of tasks and answers; Sol and Is say which instances a task can still give, and which an answer gives; b bounds the steps
pub record Faithful {Task Answer Inst : Type 0} (look : ℕ → Task → View Task Answer) (b : ℕ) (Ok : Task → Type 0) (Fine : Answer → Type 0) (Sol : Inst → Task → Type 0) (Is : Inst → Answer → Type 0) : Type 0 where
  pub stays : (height : ℕ) (t : Task) → Ok t → AreFine Ok Fine (look height t)
  -- no solution is lost, but where the search cannot go on
  pub keeps : (height : ℕ) (t : Task) → Ok t → (i : Inst) → Sol i t → Covers (Unit {0}) Sol Is i (look height t)
  -- none is added
  pub gives : (height : ℕ) (t : Task) → Ok t → (i : Inst) → Covers ⊥ Sol Is i (look height t) → Sol i t
  -- negated goals are judged rightly
  pub denies : (height : ℕ) (t : Task) → Ok t → (u : Task) (is_final : Answer → Bool) (ts : List Task) → look height t ≡ Denies u is_final ts → Denied look b Sol t u is_final ts

abbrev pub total : {A : Type 0} → (A → ℕ) → List A → ℕ
total w [] = 0
total w (x ∷ xs) = w x + total w xs

-- what a task opens at no step, uncounted, is together lighter than the task
abbrev pub OpensLighter : {Task Answer : Type 0} → (Task → ℕ) → ℕ → View Task Answer → Type 0
OpensLighter w n (Gives a) = Unit {0}
OpensLighter w n (Opens ts) = total w ts < n
OpensLighter w n (Parts ts) = Unit {0}
OpensLighter w n (Takes name ts) = Unit {0}
OpensLighter w n (Cuts m ts) = Unit {0}
OpensLighter w n (Denies t is_final ts) = Unit {0}
OpensLighter w n (Halts e) = Unit {0}
OpensLighter w n Lacks = Unit {0}

-- a weight of tasks that falls wherever nothing else bounds the search
abbrev pub Falls : {Task Answer : Type 0} → (ℕ → Task → View Task Answer) → (Task → ℕ) → Type 0
Falls look w = (height : ℕ) (t : _) → OpensLighter w (w t) (look height t)

abbrev pub IsLack : {Task Answer : Type 0} → View Task Answer → Type 0
IsLack Lacks = Unit {0}
IsLack v = ⊥

-- the tasks that a view leaves, those of a negated goal's search among them
abbrev pub Leaves : {Task Answer : Type 0} → (Task → Type 0) → View Task Answer → Type 0
Leaves Ok (Gives a) = Unit {0}
Leaves Ok (Opens ts) = EachOf Ok ts
Leaves Ok (Parts ts) = EachOf Ok ts
Leaves Ok (Takes name ts) = EachOf Ok ts
Leaves Ok (Cuts m ts) = EachOf Ok ts
Leaves Ok (Denies t is_final ts) = Ok t × EachOf Ok ts
Leaves Ok (Halts e) = Unit {0}
Leaves Ok Lacks = Unit {0}

-- looks with more and more steps: what is looked at with enough of them stays so, each task that is kept has enough, and what it leaves is kept
pub record Suffices {Task Answer : Type 0} (looks : ℕ → ℕ → Task → View Task Answer) (Ok : Task → Type 0) : Type 0 where
  pub more : (n m : ℕ) → n ≤ m → (height : ℕ) (t : Task) → (IsLack (looks n height t) → ⊥) → looks m height t ≡ looks n height t
  pub enough : (height : ℕ) (t : Task) → Ok t → (n : ℕ) × (IsLack (looks n height t) → ⊥)
  pub leaves : (n height : ℕ) (t : Task) → Ok t → Leaves Ok (looks n height t)
