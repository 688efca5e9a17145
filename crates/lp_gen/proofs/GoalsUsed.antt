-- What the code of a body takes, step by step, is what its goals take.
use Rattle.std.proofs.Common.{◌≡◌, ◌∙◌, ℕ, zero, suc, ◌+◌, ◌-◌, ◌<◌, List, [], ◌∷◌, ◌++◌, append_assoc, take, length, Bool, true, false, true≢false, Option, Some, None, if◌then◌else◌, ap, refl, sym, subst, arith}
use Rattle.std.specs.Prelude.{nat_eq, nat_lt, ◌||◌, slice_get}
use Rattle.std.specs.List.{IsDistinct, AllByRecursion}
use Rattle.std.proofs.lemmas.Bool.{eq-eqb, ne_eqb, ltb-true, ltb-false}
use Rattle.std.proofs.lemmas.List.{append-nil}
use Rattle.lp_calculus.specs.Types.{Ty}
use Rattle.lp_model.specs.Flat.{Goal, Goals, Clauses, Atomic, Cut, Either, Exists, Forall, Assume, Not, no_goals, goals, no_clauses, clauses}
use Rattle.lp_code.specs.States.{member}
use Rattle.lp_gen.specs.Steps.{Seen, Around, at_level}
use Rattle.lp_gen.specs.Registers.{Amount, nothing, both, plain_code, atom_takes, variable_takes, assume_takes, with_variable, behind_goal, behind_goals, count_variables, in_clauses, start_of, one_given, count_given, count_standing, count_clauses, goal_takes, goals_take}
use Rattle.lp_gen.specs.declared.plan.Assumption.{Assumption}
use Rattle.lp_gen.specs.declared.plan.Step.{Step}
use Rattle.lp_gen.specs.declared.plan.Step.TheVariants as on
use Rattle.lp_gen.specs.declared.tables.Tables.{Tables}
use Rattle.lp_gen.specs.inner.Bodies.{new_level}
use Rattle.lp_gen.specs.inner.GoalCode.{quantified}
use Rattle.lp_gen.specs.inner.OpenGoals.{BodyStep, say, cut, either, turn, end_either, some, all, end_all, assume, end_assume, deny, end_deny, goal_steps, goals_steps, cut_to}
use Rattle.lp_gen.specs.inner.BodyCode.{Suppositions, step_of, steps_of, AreNext, count_starts, count_named, level_found, levels_found}
use Rattle.lp_gen.specs.inner.Planned.{clauses_length, goal_records, goals_records, level_behind, levels_behind, GoalHas, GoalsHave, AreCaptured, AreOnly, IsAtLevel}
use Rattle.lp_gen.specs.inner.Planning.{AllCaptured, HoldClauses}
use Rattle.lp_gen.specs.inner.BodyUsing.{assumption_takes, block_steps_take, around_left, blocks_left}
use Rattle.lp_gen.proofs.Using.{same_amount}
use Rattle.lp_gen.proofs.Tops.{clauses_many}
use Rattle.lp_gen.proofs.BodySteps.{push_level}
use Rattle.lp_gen.proofs.StandsIn.{key_low, key_stands}

-- levels that are found

-- those of some levels
abbrev among : List ℕ → (ℕ → Option Seen) → ℕ → Option Seen
among ks f l = if member l ks then f l else None

given_same : (f g : ℕ → Option Seen) (n : ℕ) → ((l : ℕ) → l < n → one_given (f l) ≡ one_given (g l)) → count_given f n ≡ count_given g n
given_same f g zero e = refl
given_same f g (suc l) e = let a = e l (omega arith) in let b = given_same f g l (λ k lt. e k (omega (arith, lt))) in omega (arith, a, b)

none_given : (f : ℕ → Option Seen) (n : ℕ) → ((l : ℕ) → one_given (f l) ≡ 0) → count_given f n ≡ 0
none_given f zero e = refl
none_given f (suc l) e = let a = e l in let b = none_given f l e in omega (arith, a, b)

among_here : (k : ℕ) (ks : List ℕ) (f : ℕ → Option Seen) → among (k ∷ ks) f k ≡ f k
among_here k ks f = ap (λ t. if (t || member k ks) then f k else None) (eq-eqb k k refl)

among_others : (k l : ℕ) (ks : List ℕ) (f : ℕ → Option Seen) → nat_eq l k ≡ false → among (k ∷ ks) f l ≡ among ks f l
among_others k l ks f e = ap (λ t. if (t || member l ks) then f l else None) e

among_none : (l : ℕ) (ks : List ℕ) (f : ℕ → Option Seen) → member l ks ≡ false → among ks f l ≡ None
among_none l ks f e = ap (λ t. if t then f l else None) e

-- one level more
given_more : (k : ℕ) (ks : List ℕ) (f : ℕ → Option Seen) (n : ℕ) → k < n → member k ks ≡ false → count_given (among (k ∷ ks) f) n ≡ one_given (f k) + count_given (among ks f) n
given_more k ks f zero lt new = absurd (omega (arith, lt))
given_more k ks f (suc m) lt new = go (λ low. given_more k ks f m low new) (nat_lt k m) refl
  where
    go : (k < m → count_given (among (k ∷ ks) f) m ≡ one_given (f k) + count_given (among ks f) m) → (t : Bool) → nat_lt k m ≡ t → count_given (among (k ∷ ks) f) (suc m) ≡ one_given (f k) + count_given (among ks f) (suc m)
    go below true e =
        let low = ltb-true k m e in
        let here = ap one_given (among_others k m ks f (ne_eqb m k (λ q. omega (arith, q, low)))) in
        let more = below low in
        omega (arith, here, more)
    go below false e =
        let high = ltb-false k m e in
        let same : m ≡ k = omega (arith, high, lt) in
        let here = ap one_given (ap (among (k ∷ ks) f) same ∙ among_here k ks f) in
        let none = ap one_given (ap (among ks f) same ∙ among_none k ks f new) in
        let others = given_same (among (k ∷ ks) f) (among ks f) m (λ l low. ap one_given (among_others k l ks f (ne_eqb l k (λ q. omega (arith, q, same, low))))) in
        omega (arith, here, none, others)

distinct_first : (k : ℕ) (ks : List ℕ) → IsDistinct nat_eq (k ∷ ks) → (member k ks ≡ false) × IsDistinct nat_eq ks
unfolding IsDistinct
distinct_first k ks d = (apart ks d.0, d.1)
  where
    apart : (zs : List ℕ) → AllByRecursion (λ z. nat_eq k z ≡ false) zs → member k zs ≡ false
    apart [] x = refl
    apart (z ∷ zs) x = (λ i. x.0 i || member k zs) ∙ apart zs x.1

or_right : (a b : Bool) → b ≡ true → (a || b) ≡ true
or_right true b e = refl
or_right false b e = e

one_length : (o : Option Seen) (k : ℕ) (ls : List ℕ) → length (level_found o k ++ ls) ≡ one_given o + length ls
one_length None k ls = omega arith
one_length (Some v) k ls = omega arith

found_given : (a : Around) (ks : List ℕ) (n : ℕ) → IsDistinct nat_eq ks → ((l : ℕ) → member l ks ≡ true → l < n) → length (levels_found a ks) ≡ count_given (among ks (at_level a)) n
found_given a [] n d low = sym (none_given (among [] (at_level a)) n (λ l. refl))
found_given a (k ∷ ks) n d low =
    let x = distinct_first k ks d in
    let here = one_length (at_level a k) k (levels_found a ks) in
    let rest = found_given a ks n x.1 (λ l e. low l (or_right (nat_eq l k) (member l ks) e)) in
    let more = given_more k ks (at_level a) n (low k (ap (λ t. t || member k ks) (eq-eqb k k refl))) x.0 in
    omega (arith, here, rest, more)

module _ (a : Around) (x : Assumption) where
  found_standing : (cs : Clauses) → AreCaptured x cs → AreOnly x cs → IsDistinct nat_eq x.captured.keys → x.base ≡ count_variables a → length (levels_found a x.captured.keys) ≡ count_standing a cs
  found_standing cs kept only distinct base =
      found_given a x.captured.keys x.base distinct (key_low x cs only)
      ∙ given_same (among x.captured.keys (at_level a)) (start_of a cs).captured x.base
      (λ l lt. ap (λ t. one_given (if t then at_level a l else None)) (key_stands x cs kept only l lt)
      ∙ ap (λ n. one_given (if in_clauses (n - l - 1) cs then at_level a l else None)) base)
      ∙ ap (count_given (start_of a cs).captured) base

  none_standing : AreOnly x no_clauses → length (levels_found a x.captured.keys) ≡ count_standing a no_clauses
  none_standing only = go x.captured.keys refl ∙ sym (none_given (start_of a no_clauses).captured (count_variables a) (λ l. refl))
    where
      go : (ks : List ℕ) → x.captured.keys ≡ ks → length (levels_found a ks) ≡ 0
      go [] e = refl
      go (k ∷ ks) e =
          let w = only (λ i. false) tt k (ap (member k) e ∙ ap (λ t. t || member k ks) (eq-eqb k k refl)) in
          absurd (true≢false (sym w.3))

  pub assumption_standing : (cs : Clauses) → AreCaptured x cs → AreOnly x cs → IsDistinct nat_eq x.captured.keys → (0 < clauses_length cs → x.base ≡ new_level a) →
      length (levels_found a x.captured.keys) ≡ count_standing a cs
  assumption_standing no_clauses kept only distinct base = none_standing only
  assumption_standing (clauses c cs) kept only distinct base = found_standing (clauses c cs) kept only distinct (base (omega arith))

pub counts_alike : (cs : Clauses) → count_clauses cs ≡ clauses_length cs
counts_alike no_clauses = refl
counts_alike (clauses c cs) = ap suc (counts_alike cs)

-- what stands around goals

take_front : {X : Type 0} (xs ys : List X) → take (length xs) (xs ++ ys) ≡ xs
take_front [] ys = refl
take_front (x ∷ xs) ys = ap (λ l. x ∷ l) (take_front xs ys)

abbrev with_more : Around → List Seen → Around
with_more a vs = record { own = a.own ++ vs; base = a.base; captured = a.captured }

none_more : (a : Around) → a ≡ with_more a []
none_more a = ap (λ l. record { own = l; base = a.base; captured = a.captured }) (sym (append-nil a.own))

mutual
  goal_more : (a : Around) (g : Goal) → (vs : List Seen) × (behind_goal a g ≡ with_more a vs)
  goal_more a (Atomic t) = ([], none_more a)
  goal_more a Cut = ([], none_more a)
  goal_more a (Either gs hs) = ([], none_more a)
  goal_more a (Exists T gs) =
      let v : Seen = record { register = 0; of = T; is_set = true } in
      let r = goals_more (with_variable a T) gs in
      (v ∷ r.0, r.1 ∙ ap (λ l. record { own = l; base = a.base; captured = a.captured }) (append_assoc a.own (v ∷ []) r.0))
  goal_more a (Forall T gs) = ([], none_more a)
  goal_more a (Assume w cs gs) = ([], none_more a)
  goal_more a (Not w gs) = ([], none_more a)

  goals_more : (a : Around) (gs : Goals) → (vs : List Seen) × (behind_goals a gs ≡ with_more a vs)
  goals_more a no_goals = ([], none_more a)
  goals_more a (goals g gs) =
      let x = goal_more a g in
      let y = goals_more (behind_goal a g) gs in
      (x.0 ++ y.0, y.1 ∙ ap (λ b. with_more b y.0) x.1 ∙ ap (λ l. record { own = l; base = a.base; captured = a.captured }) (append_assoc a.own x.0 y.0))

cut_behind : (a : Around) (gs : Goals) → cut_to (length a.own) (behind_goals a gs) ≡ a
cut_behind a gs =
    let x = goals_more a gs in
    ap (cut_to (length a.own)) x.1 ∙ ap (λ l. record { own = l; base = a.base; captured = a.captured }) (take_front a.own x.0)

cut_variable : (a : Around) (T : Ty) (gs : Goals) → cut_to (length a.own) (behind_goals (with_variable a T) gs) ≡ a
cut_variable a T gs =
    let v : Seen = record { register = 0; of = T; is_set = true } in
    let x = goals_more (with_variable a T) gs in
    ap (cut_to (length a.own)) (x.1 ∙ ap (λ l. record { own = l; base = a.base; captured = a.captured }) (append_assoc a.own (v ∷ []) x.0))
    ∙ ap (λ l. record { own = l; base = a.base; captured = a.captured }) (take_front a.own (v ∷ x.0))

variable_level : (a : Around) (T : Ty) → new_level (with_variable a T) ≡ suc (new_level a)
variable_level a T = let z = push_level a (quantified 0 T) in omega (arith, z)

mutual
  goal_level : (a : Around) (g : Goal) → new_level (behind_goal a g) ≡ level_behind (new_level a) g
  goal_level a (Atomic t) = refl
  goal_level a Cut = refl
  goal_level a (Either gs hs) = refl
  goal_level a (Exists T gs) = goals_level (with_variable a T) gs ∙ ap (λ n. levels_behind n gs) (variable_level a T)
  goal_level a (Forall T gs) = refl
  goal_level a (Assume w cs gs) = refl
  goal_level a (Not w gs) = refl

  goals_level : (a : Around) (gs : Goals) → new_level (behind_goals a gs) ≡ levels_behind (new_level a) gs
  goals_level a no_goals = refl
  goals_level a (goals g gs) = goals_level (behind_goal a g) gs ∙ ap (λ n. levels_behind n gs) (goal_level a g)

no_steps : (s : BodyStep) (rest : List BodyStep) → ◌≡◌ {A = List BodyStep} [] (s ∷ rest) → ⊥
no_steps s rest e = cc

some_steps : (s : BodyStep) (rest : List BodyStep) → ◌≡◌ {A = List BodyStep} (s ∷ rest) [] → ⊥
some_steps s rest e = cc

first_step : (x y : BodyStep) (xs ys : List BodyStep) → ◌≡◌ {A = List BodyStep} (x ∷ xs) (y ∷ ys) → x ≡ y
first_step x y xs ys e = cc

rest_steps : (x y : BodyStep) (xs ys : List BodyStep) → ◌≡◌ {A = List BodyStep} (x ∷ xs) (y ∷ ys) → xs ≡ ys
rest_steps x y xs ys e = cc

both_assoc : (a b c : Amount) → both a (both b c) ≡ both (both a b) c
both_assoc a b c = same_amount _ _ (omega arith) (omega arith) (omega arith) (omega arith)

-- steps of goals take what the goals do

module _ (t : Tables) (K : ℕ → List Ty → Ty) (cl : Suppositions) (hold : HoldClauses t.bank.now t.assumptions.now cl) (captured : AllCaptured t.bank.now t.assumptions.now)
    (counts : (n : ℕ) (x : Assumption) → slice_get t.assumptions.now n ≡ Some x → x.count ≡ length x.clauses.now) where
  abbrev steps_take : Around → List ℕ → List Step → Amount
  steps_take a ms ss = block_steps_take t.bank.now t.type_vars t.assumptions.now K a ms ss

  abbrev takes_of : Around → BodyStep → Amount
  takes_of a (say u) = atom_takes K a u
  takes_of a cut = plain_code 1 0
  takes_of a either = plain_code 5 0
  takes_of a turn = plain_code 5 0
  takes_of a end_either = nothing
  takes_of a (some T) = variable_takes T
  takes_of a (all T) = variable_takes T
  takes_of a end_all = plain_code 1 0
  takes_of a (assume cs) = assume_takes t.type_vars (count_standing a cs) (count_clauses cs)
  takes_of a end_assume = plain_code 1 0
  takes_of a deny = plain_code 1 0
  takes_of a end_deny = plain_code 1 0

  abbrev around_by : List ℕ → Around → BodyStep → Around
  around_by ms a (say u) = a
  around_by ms a cut = a
  around_by ms a either = a
  around_by ms a turn = around_left ms a
  around_by ms a end_either = around_left ms a
  around_by ms a (some T) = with_variable a T
  around_by ms a (all T) = with_variable a T
  around_by ms a end_all = around_left ms a
  around_by ms a (assume cs) = a
  around_by ms a end_assume = around_left ms a
  around_by ms a deny = a
  around_by ms a end_deny = around_left ms a

  abbrev blocks_by : List ℕ → Around → BodyStep → List ℕ
  blocks_by ms a (say u) = ms
  blocks_by ms a cut = ms
  blocks_by ms a either = length a.own ∷ ms
  blocks_by ms a turn = length (around_left ms a).own ∷ blocks_left ms
  blocks_by ms a end_either = blocks_left ms
  blocks_by ms a (some T) = ms
  blocks_by ms a (all T) = length a.own ∷ ms
  blocks_by ms a end_all = blocks_left ms
  blocks_by ms a (assume cs) = length a.own ∷ ms
  blocks_by ms a end_assume = blocks_left ms
  blocks_by ms a deny = length a.own ∷ ms
  blocks_by ms a end_deny = blocks_left ms

  abbrev records_by : BodyStep → ℕ
  records_by (say u) = 0
  records_by cut = 0
  records_by either = 0
  records_by turn = 0
  records_by end_either = 0
  records_by (some T) = 0
  records_by (all T) = 0
  records_by end_all = 0
  records_by (assume cs) = clauses_length cs
  records_by end_assume = 0
  records_by deny = 0
  records_by end_deny = 0

  abbrev Level : ℕ → Around → BodyStep → Type 0
  Level q a (say u) = Unit {0}
  Level q a cut = Unit {0}
  Level q a either = Unit {0}
  Level q a turn = Unit {0}
  Level q a end_either = Unit {0}
  Level q a (some T) = Unit {0}
  Level q a (all T) = Unit {0}
  Level q a end_all = Unit {0}
  Level q a (assume cs) = IsAtLevel t q (new_level a) cs
  Level q a end_assume = Unit {0}
  Level q a deny = Unit {0}
  Level q a end_deny = Unit {0}

  -- steps of which so many are gone, before these
  abbrev Goes : Around → List ℕ → List Step → Amount → Around → List ℕ → ℕ → List BodyStep → Type 0
  Goes a ms ss m a' ms' q' rest =
      (left : List Step) × (number : ℕ) × (steps_of t.bank.now cl left ≡ rest) × (steps_take a ms ss ≡ both m (steps_take a' ms' left)) × AreNext t q' number left

  goes_as : (a : Around) (ms : List ℕ) (ss : List Step) (m m1 : Amount) (a' a1 : Around) (ms' ms1 : List ℕ) (q' q1 : ℕ) (rest : List BodyStep) → m ≡ m1 → a' ≡ a1 → ms' ≡ ms1 → q' ≡ q1 →
      Goes a ms ss m a' ms' q' rest → Goes a ms ss m1 a1 ms1 q1 rest
  goes_as a ms ss m m1 a' a1 ms' ms1 q' q1 rest em ea es eq x =
      subst (λ k. Goes a ms ss k a1 ms1 q1 rest) em (subst (λ k. Goes a ms ss m k ms1 q1 rest) ea (subst (λ k. Goes a ms ss m a' k q1 rest) es (subst (λ k. Goes a ms ss m a' ms' k rest) eq x)))

  goes_on : (a : Around) (ms : List ℕ) (ss : List Step) (m1 m2 : Amount) (a1 a2 : Around) (ms1 ms2 : List ℕ) (q1 q2 : ℕ) (rest1 rest2 : List BodyStep) → Goes a ms ss m1 a1 ms1 q1 rest1 →
      ((us : List Step) (k : ℕ) → steps_of t.bank.now cl us ≡ rest1 → AreNext t q1 k us → Goes a1 ms1 us m2 a2 ms2 q2 rest2) → Goes a ms ss (both m1 m2) a2 ms2 q2 rest2
  goes_on a ms ss m1 m2 a1 a2 ms1 ms2 q1 q2 rest1 rest2 x f =
      let y = f x.0 x.1 x.2 x.4 in
      (y.0, y.1, y.2, x.3 ∙ ap (both m1) y.3 ∙ both_assoc m1 m2 (steps_take a2 ms2 y.0), y.4)

  one_assumed : (a : Around) (q n : ℕ) (x : Assumption) → slice_get t.assumptions.now n ≡ Some x → t.first + x.first ≡ q → IsAtLevel t q (new_level a) (cl.clauses n) →
      (assumption_takes t.type_vars a (slice_get t.assumptions.now n) ≡ assume_takes t.type_vars (count_standing a (cl.clauses n)) (count_clauses (cl.clauses n))) × (x.count ≡ clauses_length (cl.clauses n))
  one_assumed a q n x found first level =
      let is = hold n x found in
      let caught = captured n x found in
      let many = clauses_many t.bank.now x.clauses.now in
      let count = counts n x found in
      let size : x.count ≡ clauses_length (cl.clauses n) = count ∙ sym many ∙ ap clauses_length (sym is) in
      let standing = assumption_standing a x (cl.clauses n) (subst (AreCaptured x) (sym is) caught.0) (subst (AreOnly x) (sym is) caught.1) caught.2
      (λ there. level n x found first (omega (arith, size, there)) there) in
      let same : x.count ≡ count_clauses (cl.clauses n) = size ∙ sym (counts_alike (cl.clauses n)) in
      (ap (assumption_takes t.type_vars a) found ∙ (λ i. assume_takes t.type_vars (standing i) (same i)), size)

  next_same : (q k : ℕ) (us : List Step) → AreNext t q k us → AreNext t (q + 0) k us
  next_same q k us x = let z : q ≡ q + 0 = omega arith in subst (λ n. AreNext t n k us) z x

  one_step : (a : Around) (ms : List ℕ) (q k : ℕ) (ss : List Step) (s : BodyStep) (rest : List BodyStep) → steps_of t.bank.now cl ss ≡ s ∷ rest → AreNext t q k ss → Level q a s →
      Goes a ms ss (takes_of a s) (around_by ms a s) (blocks_by ms a s) (q + records_by s) rest
  one_step a ms q k [] s rest e next level = absurd (no_steps s rest e)
  one_step a ms q k (u ∷ us) s rest e next level =
      subst (λ z. Goes a ms (u ∷ us) (takes_of a z) (around_by ms a z) (blocks_by ms a z) (q + records_by z) rest) same (at u next (subst (Level q a) (sym same) level))
    where
      same : step_of t.bank.now cl u ≡ s
      same = first_step (step_of t.bank.now cl u) s (steps_of t.bank.now cl us) rest e

      more : steps_of t.bank.now cl us ≡ rest
      more = rest_steps (step_of t.bank.now cl u) s (steps_of t.bank.now cl us) rest e

      at : (u : Step) → AreNext t q k (u ∷ us) → Level q a (step_of t.bank.now cl u) →
          Goes a ms (u ∷ us) (takes_of a (step_of t.bank.now cl u)) (around_by ms a (step_of t.bank.now cl u)) (blocks_by ms a (step_of t.bank.now cl u)) (q + records_by (step_of t.bank.now cl u)) rest
      at (on.Atom i) n l = (us, k + count_starts t (on.Atom i), more, refl, next_same q (k + count_starts t (on.Atom i)) us n.1)
      at on.Cut n l = (us, k + count_starts t on.Cut, more, refl, next_same q (k + count_starts t on.Cut) us n.1)
      at on.Either n l = (us, k + count_starts t on.Either, more, refl, next_same q (k + count_starts t on.Either) us n.1)
      at on.Turn n l = (us, k + count_starts t on.Turn, more, refl, next_same q (k + count_starts t on.Turn) us n.1)
      at on.EndEither n l = (us, k + count_starts t on.EndEither, more, refl, next_same q (k + count_starts t on.EndEither) us n.1)
      at (on.Some T) n l = (us, k + count_starts t (on.Some T), more, refl, next_same q (k + count_starts t (on.Some T)) us n.1)
      at (on.All T) n l = (us, k + count_starts t (on.All T), more, refl, next_same q (k + count_starts t (on.All T)) us n.1)
      at on.EndAll n l = (us, k + count_starts t on.EndAll, more, refl, next_same q (k + count_starts t on.EndAll) us n.1)
      at (on.Assume j) n l =
          let x = n.0.0 in
          let found = n.0.1 in
          let w = one_assumed a q j x found n.0.2 l in
          let named : count_named (slice_get t.assumptions.now j) ≡ clauses_length (cl.clauses j) = ap count_named found ∙ w.1 in (
            us,
            k + count_starts t (on.Assume j),
            more,
            ap (λ m. both m (steps_take a (length a.own ∷ ms) us)) w.0,
            subst (λ z. AreNext t z (k + count_starts t (on.Assume j)) us) (ap (λ z. q + z) named) n.1,
          )
      at on.EndAssume n l = (us, k + count_starts t on.EndAssume, more, refl, next_same q (k + count_starts t on.EndAssume) us n.1)
      at on.Not n l = (us, k + count_starts t on.Not, more, refl, next_same q (k + count_starts t on.Not) us n.1)
      at on.EndNot n l = (us, k + count_starts t on.EndNot, more, refl, next_same q (k + count_starts t on.EndNot) us n.1)

  -- a block with an end of one byte
  block_goes : (a b : Around) (ms : List ℕ) (q r k : ℕ) (ss : List Step) (o e : BodyStep) (gs : Goals) (m g : Amount) (rest : List BodyStep) → steps_of t.bank.now cl ss ≡ (o ∷ (goals_steps gs ++ e ∷ [])) ++ rest →
      AreNext t q k ss → Level q a o → takes_of a o ≡ m → around_by ms a o ≡ b → blocks_by ms a o ≡ length a.own ∷ ms → ((us : List Step) (j : ℕ) → steps_of t.bank.now cl us ≡ goals_steps gs ++ e ∷ rest →
      AreNext t (q + records_by o) j us → Goes b (length a.own ∷ ms) us g (behind_goals b gs) (length a.own ∷ ms) r (e ∷ rest)) → Level r (behind_goals b gs) e → takes_of (behind_goals b gs) e ≡ plain_code 1 0 →
      around_by (length a.own ∷ ms) (behind_goals b gs) e ≡ a → blocks_by (length a.own ∷ ms) (behind_goals b gs) e ≡ ms → records_by e ≡ 0 → Goes a ms ss (both m (both g (plain_code 1 0))) a ms r rest
  block_goes a b ms q r k ss o e gs m g rest is next here em eb es inside there ee back out none =
      goes_on a ms ss m (both g (plain_code 1 0)) b a (length a.own ∷ ms) ms (q + records_by o) r (goals_steps gs ++ e ∷ rest) rest
      (goes_as a ms ss (takes_of a o) m (around_by ms a o) b (blocks_by ms a o) (length a.own ∷ ms) (q + records_by o) (q + records_by o) (goals_steps gs ++ e ∷ rest) em eb es refl
      (one_step a ms q k ss o (goals_steps gs ++ e ∷ rest) (is ∙ ap (λ l. o ∷ l) (append_assoc (goals_steps gs) (e ∷ []) rest)) next here))
      (λ us j f n. goes_on b (length a.own ∷ ms) us g (plain_code 1 0) (behind_goals b gs) a (length a.own ∷ ms) ms r r (e ∷ rest) rest (inside us j f n)
      (λ vs i h w. goes_as (behind_goals b gs) (length a.own ∷ ms) vs (takes_of (behind_goals b gs) e) (plain_code 1 0) (around_by (length a.own ∷ ms) (behind_goals b gs) e) a
      (blocks_by (length a.own ∷ ms) (behind_goals b gs) e) ms (r + records_by e) r rest ee back out (omega (arith, none)) (one_step (behind_goals b gs) (length a.own ∷ ms) r i vs e rest h w there)))

  under : (a : Around) (q : ℕ) (T : Ty) (gs : Goals) → GoalsHave (IsAtLevel t) q (suc (new_level a)) gs → GoalsHave (IsAtLevel t) (q + 0) (new_level (with_variable a T)) gs
  under a q T gs has =
      let z : q ≡ q + 0 = omega arith in
      subst (λ d. GoalsHave (IsAtLevel t) (q + 0) d gs) (sym (variable_level a T)) (subst (λ i. GoalsHave (IsAtLevel t) i (suc (new_level a)) gs) z has)

  mutual
    goal_goes : (g : Goal) (a : Around) (ms : List ℕ) (q k : ℕ) (ss : List Step) (rest : List BodyStep) → steps_of t.bank.now cl ss ≡ goal_steps g ++ rest → AreNext t q k ss →
        GoalHas (IsAtLevel t) q (new_level a) g → Goes a ms ss (goal_takes K t.type_vars a g) (behind_goal a g) ms (q + goal_records g) rest
    goal_goes (Atomic u) a ms q k ss rest e next has = one_step a ms q k ss (say u) rest e next tt
    goal_goes Cut a ms q k ss rest e next has = one_step a ms q k ss cut rest e next tt
    goal_goes (Either gs hs) a ms q k ss rest e next has =
        let G = goals_take K t.type_vars a gs in
        let H = goals_take K t.type_vars a hs in
        let X = goals_steps gs in
        let Y = goals_steps hs in
        let is = e ∙ ap (λ l. either ∷ l) (append_assoc X (turn ∷ (Y ++ end_either ∷ [])) rest ∙ ap (λ l. X ++ turn ∷ l) (append_assoc Y (end_either ∷ []) rest)) in
        let bs : List ℕ = length a.own ∷ ms in
        let first = cut_behind a gs in
        let second = cut_behind a hs in
        goes_as a ms ss (both (plain_code 5 0) (both G (both (plain_code 5 0) (both H nothing)))) (goal_takes K t.type_vars a (Either gs hs)) a a ms ms (q + 0 + goals_records gs + 0 + goals_records hs + 0)
        (q + goal_records (Either gs hs)) rest (same_amount _ _ (omega arith) (omega arith) (omega arith) (omega arith)) refl refl (omega arith)
        (goes_on a ms ss (plain_code 5 0) (both G (both (plain_code 5 0) (both H nothing))) a a bs ms (q + 0) (q + 0 + goals_records gs + 0 + goals_records hs + 0) (X ++ turn ∷ (Y ++ end_either ∷ rest)) rest
        (one_step a ms q k ss either (X ++ turn ∷ (Y ++ end_either ∷ rest)) is next tt)
        (λ us j f n. goes_on a bs us G (both (plain_code 5 0) (both H nothing)) (behind_goals a gs) a bs ms (q + 0 + goals_records gs) (q + 0 + goals_records gs + 0 + goals_records hs + 0)
        (turn ∷ (Y ++ end_either ∷ rest)) rest
        (goals_goes gs a bs (q + 0) j us (turn ∷ (Y ++ end_either ∷ rest)) f n (let z : q ≡ q + 0 = omega arith in subst (λ i. GoalsHave (IsAtLevel t) i (new_level a) gs) z has.0))
        (λ us j f n. goes_on (behind_goals a gs) bs us (plain_code 5 0) (both H nothing) a a bs ms (q + 0 + goals_records gs + 0) (q + 0 + goals_records gs + 0 + goals_records hs + 0)
        (Y ++ end_either ∷ rest) rest
        (goes_as (behind_goals a gs) bs us (plain_code 5 0) (plain_code 5 0) (cut_to (length a.own) (behind_goals a gs)) a (length (cut_to (length a.own) (behind_goals a gs)).own ∷ ms) bs
        (q + 0 + goals_records gs + 0) (q + 0 + goals_records gs + 0) (Y ++ end_either ∷ rest) refl first (ap (λ (b : Around). length b.own ∷ ms) first) refl
        (one_step (behind_goals a gs) bs (q + 0 + goals_records gs) j us turn (Y ++ end_either ∷ rest) f n tt))
        (λ us j f n. goes_on a bs us H nothing (behind_goals a hs) a bs ms (q + 0 + goals_records gs + 0 + goals_records hs) (q + 0 + goals_records gs + 0 + goals_records hs + 0) (end_either ∷ rest) rest
        (goals_goes hs a bs (q + 0 + goals_records gs + 0) j us (end_either ∷ rest) f n
        (let z : q + goals_records gs ≡ q + 0 + goals_records gs + 0 = omega arith in subst (λ i. GoalsHave (IsAtLevel t) i (new_level a) hs) z has.1))
        (λ us j f n. goes_as (behind_goals a hs) bs us nothing nothing (cut_to (length a.own) (behind_goals a hs)) a ms ms (q + 0 + goals_records gs + 0 + goals_records hs + 0)
        (q + 0 + goals_records gs + 0 + goals_records hs + 0) rest refl second refl refl
        (one_step (behind_goals a hs) bs (q + 0 + goals_records gs + 0 + goals_records hs) j us end_either rest f n tt))))))
    goal_goes (Exists T gs) a ms q k ss rest e next has =
        goes_as a ms ss (both (variable_takes T) (goals_take K t.type_vars (with_variable a T) gs)) (goal_takes K t.type_vars a (Exists T gs)) (behind_goals (with_variable a T) gs) (behind_goal a (Exists T gs)) ms ms
        (q + 0 + goals_records gs) (q + goal_records (Exists T gs)) rest refl refl refl (omega arith)
        (goes_on a ms ss (variable_takes T) (goals_take K t.type_vars (with_variable a T) gs) (with_variable a T) (behind_goals (with_variable a T) gs) ms ms (q + 0) (q + 0 + goals_records gs)
        (goals_steps gs ++ rest) rest (one_step a ms q k ss (some T) (goals_steps gs ++ rest) e next tt)
        (λ us j f n. goals_goes gs (with_variable a T) ms (q + 0) j us rest f n (under a q T gs has)))
    goal_goes (Forall T gs) a ms q k ss rest e next has =
        goes_as a ms ss (both (variable_takes T) (both (goals_take K t.type_vars (with_variable a T) gs) (plain_code 1 0))) (goal_takes K t.type_vars a (Forall T gs)) a a ms ms
        (q + 0 + goals_records gs) (q + goal_records (Forall T gs)) rest refl refl refl (omega arith)
        (block_goes a (with_variable a T) ms q (q + 0 + goals_records gs) k ss (all T) end_all gs (variable_takes T) (goals_take K t.type_vars (with_variable a T) gs) rest e next tt refl refl refl
        (λ us j f n. goals_goes gs (with_variable a T) (length a.own ∷ ms) (q + 0) j us (end_all ∷ rest) f n (under a q T gs has)) tt refl (cut_variable a T gs) refl refl)
    goal_goes (Assume w cs gs) a ms q k ss rest e next has =
        goes_as a ms ss (both (assume_takes t.type_vars (count_standing a cs) (count_clauses cs)) (both (goals_take K t.type_vars a gs) (plain_code 1 0))) (goal_takes K t.type_vars a (Assume w cs gs)) a a ms ms
        (q + clauses_length cs + goals_records gs) (q + goal_records (Assume w cs gs)) rest refl refl refl (omega arith)
        (block_goes a a ms q (q + clauses_length cs + goals_records gs) k ss (assume cs) end_assume gs (assume_takes t.type_vars (count_standing a cs) (count_clauses cs)) (goals_take K t.type_vars a gs) rest e next
        has.0 refl refl refl (λ us j f n. goals_goes gs a (length a.own ∷ ms) (q + clauses_length cs) j us (end_assume ∷ rest) f n has.1) tt refl (cut_behind a gs) refl refl)
    goal_goes (Not w gs) a ms q k ss rest e next has =
        goes_as a ms ss (both (plain_code 1 0) (both (goals_take K t.type_vars a gs) (plain_code 1 0))) (goal_takes K t.type_vars a (Not w gs)) a a ms ms
        (q + 0 + goals_records gs) (q + goal_records (Not w gs)) rest refl refl refl (omega arith)
        (block_goes a a ms q (q + 0 + goals_records gs) k ss deny end_deny gs (plain_code 1 0) (goals_take K t.type_vars a gs) rest e next tt refl refl refl
        (λ us j f n. goals_goes gs a (length a.own ∷ ms) (q + 0) j us (end_deny ∷ rest) f n (let z : q ≡ q + 0 = omega arith in subst (λ i. GoalsHave (IsAtLevel t) i (new_level a) gs) z has)) tt refl
        (cut_behind a gs) refl refl)

    goals_goes : (gs : Goals) (a : Around) (ms : List ℕ) (q k : ℕ) (ss : List Step) (rest : List BodyStep) → steps_of t.bank.now cl ss ≡ goals_steps gs ++ rest → AreNext t q k ss →
        GoalsHave (IsAtLevel t) q (new_level a) gs → Goes a ms ss (goals_take K t.type_vars a gs) (behind_goals a gs) ms (q + goals_records gs) rest
    goals_goes no_goals a ms q k ss rest e next has =
        (ss, k, e, same_amount _ _ (omega arith) (omega arith) (omega arith) (omega arith), next_same q k ss next)
    goals_goes (goals g gs) a ms q k ss rest e next has =
        goes_as a ms ss (goals_take K t.type_vars a (goals g gs)) (goals_take K t.type_vars a (goals g gs)) (behind_goals (behind_goal a g) gs) (behind_goals a (goals g gs)) ms ms
        (q + goal_records g + goals_records gs) (q + goals_records (goals g gs)) rest refl refl refl (omega arith)
        (goes_on a ms ss (goal_takes K t.type_vars a g) (goals_take K t.type_vars (behind_goal a g) gs) (behind_goal a g) (behind_goals (behind_goal a g) gs) ms ms (q + goal_records g)
        (q + goal_records g + goals_records gs) (goals_steps gs ++ rest) rest
        (goal_goes g a ms q k ss (goals_steps gs ++ rest) (e ∙ append_assoc (goal_steps g) (goals_steps gs) rest) next has.0)
        (λ us j f n. goals_goes gs (behind_goal a g) ms (q + goal_records g) j us rest f n (subst (λ d. GoalsHave (IsAtLevel t) (q + goal_records g) d gs) (sym (goal_level a g)) has.1)))

  pub goals_used : (q k : ℕ) (a : Around) (gs : Goals) (ss : List Step) → steps_of t.bank.now cl ss ≡ goals_steps gs → AreNext t q k ss → GoalsHave (IsAtLevel t) q (new_level a) gs →
      block_steps_take t.bank.now t.type_vars t.assumptions.now K a [] ss ≡ goals_take K t.type_vars a gs
  goals_used q k a gs ss e next has =
      let x = goals_goes gs a [] q k ss [] (e ∙ sym (append-nil (goals_steps gs))) next has in
      x.3 ∙ none x.0 x.2
    where
      none : (us : List Step) → steps_of t.bank.now cl us ≡ [] → both (goals_take K t.type_vars a gs) (steps_take (behind_goals a gs) [] us) ≡ goals_take K t.type_vars a gs
      none [] f = same_amount _ _ (omega arith) (omega arith) (omega arith) (omega arith)
      none (u ∷ us) f = absurd (some_steps (step_of t.bank.now cl u) (steps_of t.bank.now cl us) f)

pub steps_take_goals : (t : Tables) (K : ℕ → List Ty → Ty) (cl : Suppositions) (q m : ℕ) (a : Around) (gs : Goals) (ss : List Step) → steps_of t.bank.now cl ss ≡ goals_steps gs → AreNext t q m ss →
    GoalsHave (IsAtLevel t) q (count_variables a) gs → HoldClauses t.bank.now t.assumptions.now cl → AllCaptured t.bank.now t.assumptions.now →
    ((n : ℕ) (x : Assumption) → slice_get t.assumptions.now n ≡ Some x → x.count ≡ length x.clauses.now) → block_steps_take t.bank.now t.type_vars t.assumptions.now K a [] ss ≡ goals_take K t.type_vars a gs
steps_take_goals t K cl q m a gs ss says next has hold captured counts = goals_used t K cl hold captured counts q m a gs ss says next has
