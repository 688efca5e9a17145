-- The search of a typed query without negation comes to a value: with enough steps no look lacks them, and the run ends.
use Rattle.std.proofs.Common.{◌≡◌, ℕ, ◌+◌, List, [], ◌∷◌, ◌++◌, map, length, Option, Some, None, Bool, true, false, if◌then◌else◌, refl, sym, subst as transport, arith, nat_eq}
use Rattle.std.specs.Prelude.{nat_le, ◌&&◌}
use Rattle.std.proofs.lemmas.Bool.{eqb-true}
use Rattle.lp_calculus.specs.Term.{Term, index, atom, abs, app, constant, integer, text, eigen, logic, param}
use Rattle.lp_calculus.specs.Spine.{head_of, arguments}
use Rattle.lp_standard.specs.Connectives.{Connective, connective_of}
use Rattle.lp_standard.specs.Connectives as connective
use Rattle.lp_model.specs.Unify.{Unified, Fail, Solution, Spent, solve, unit_limit}
use Rattle.lp_model.specs.Values.{Outcome, Is, Faults, Number, Bytes, evaluate, term_of, ordered}
use Rattle.lp_calculus.specs.Types.{Ty}
use Rattle.lp_calculus.specs.Instance.{instance_term}
use Rattle.lp_model.specs.Rule.{type_pairs}
use Rattle.lp_model.specs.Skeleton.{View, Gives, Opens, Parts, Takes, Cuts, Denies, Halts, Lacks}
use Rattle.lp_model.specs.Faithful.{IsLack}
use Rattle.lp_model.specs.Flat.{Goal, Atomic, Cut, Either, Exists, Forall, Assume, Not, Written, Goals, Clause, clause, goal_list, instantiate_goals, type_goals}
use Rattle.lp_model.specs.Branch.{Entry, Branch, Answer, Task, Go, Try, Stop, Lack, both_written, entries}
use Rattle.lp_model.specs.Search.{with_goals, tried, renewed, slotted, slots_of, pairs_of, follow, assigned, compared, tries, candidates, goal_looked, look_constant, look_atom, look_form, look_normal, look_not, look_goal, look_branch, look, has_variables}
use Rattle.lp_search_laws.specs.Enough.{IsFound, CanEquate, CanAssign, CallHasEnough, HeadHasEnough, AtomHasEnough, TermHasEnough, HasEnough}
use Rattle.lp_search_laws.proofs.SameViews.{and_is, and_also, at_least, term_with}

-- tasks among which none lacks steps
abbrev pub have_lack : List Task → Bool
have_lack [] = false
have_lack (Go b ∷ ts) = have_lack ts
have_lack (Try c t e b mark ∷ ts) = have_lack ts
have_lack (Stop e ∷ ts) = have_lack ts
have_lack (Lack ∷ ts) = true

-- a view that lacks steps where one of its tasks does
abbrev pub strict : View Task Answer → View Task Answer
strict (Gives a) = Gives a
strict (Opens ts) = if have_lack ts then Lacks else Opens ts
strict (Parts ts) = if have_lack ts then Lacks else Parts ts
strict (Takes name ts) = if have_lack ts then Lacks else Takes name ts
strict (Cuts m ts) = if have_lack ts then Lacks else Cuts m ts
strict (Denies t is_final ts) = Denies t is_final ts
strict (Halts e) = Halts e
strict Lacks = Lacks

Full : List Task → Type 0
Full ts = have_lack ts ≡ false

-- what is found lacks nothing
followed : (b : Branch) (o : Option Unified) → IsFound o → Full (follow b o)
unfolding Full
followed b None f = let e = f.1 in absurd (cc)
followed b (Some Spent) f = refl
followed b (Some Fail) f = refl
followed b (Some (Solution s)) f = refl

tried_all : (c : List Clause) (t : Term) (e : Entry) (b : Branch) (mark : ℕ) → Full (map (λ x. Try x t e b mark) c)
unfolding Full
tried_all [] t e b mark = refl
tried_all (x ∷ c) t e b mark = tried_all c t e b mark

all_tries : (P : List Clause) (e : Entry) (b : Branch) (mark : ℕ) (o : Option Term) → IsFound o → Full (tries P e b mark o)
unfolding Full
all_tries P e b mark None f = let e' = f.1 in absurd (cc)
all_tries P e b mark (Some t) f = tried_all (candidates P e.assumed t) t e b mark

if_full : (p : Bool) (x y : List Task) → (p ≡ true → Full x) → (p ≡ false → Full y) → Full (if p then x else y)
if_full true x y f g = f refl
if_full false x y f g = g refl

compared_full : (c : ℕ) (b : Branch) (o r : Option Outcome) → IsFound o → IsFound r → Full (compared c b o r)
unfolding Full
compared_full c b None r f g = let e = f.1 in absurd (cc)
compared_full c b (Some (Faults x)) r f g = refl
compared_full c b (Some (Is (Bytes s))) r f g = refl
compared_full c b (Some (Is (Number x))) None f g = let e = g.1 in absurd (cc)
compared_full c b (Some (Is (Number x))) (Some (Faults y)) f g = refl
compared_full c b (Some (Is (Number x))) (Some (Is (Bytes s))) f g = refl
compared_full c b (Some (Is (Number x))) (Some (Is (Number y))) f g = if_full (ordered c x y) (Go b ∷ []) [] (λ e. refl) (λ e. refl)

module _ (n : ℕ) where
  assigned_full : (level : ℕ) (b : Branch) (l r : Term) → CanAssign n level b l r → Full (assigned unit_limit n level l b (evaluate n r))
  unfolding Full
  assigned_full v b l r f = transport (λ o. Full (assigned unit_limit n v l b o)) (sym f.1) (go f.0 f.2)
    where
      go : (o : Outcome) → ((w : _) → o ≡ Is w → CanEquate n v b l (term_of w)) → Full (assigned unit_limit n v l b (Some o))
      go (Faults x) h = refl
      go (Is w) h = followed b _ (h w refl)

  module _ (P : List Clause) (height : ℕ) (e : Entry) (b : Branch) (t : Term) where
    constant_full : (c : ℕ) (us : List Term) → IsFound (goal_looked n t) → ((l r : Term) → us ≡ l ∷ r ∷ [] → CallHasEnough n e.level b c l r) → Full (look_constant unit_limit n P height e b t c us)
    constant_full c [] k f = all_tries P e b height _ k
    constant_full c (x ∷ []) k f = all_tries P e b height _ k
    constant_full c (l ∷ r ∷ []) k f =
        let g = f l r refl in
        if_full (nat_eq c 8) _ _ (λ x. followed b _ (g.equality (eqb-true c 8 x)))
        (λ x. if_full (nat_eq c 9) _ _ (λ w. assigned_full e.level b l r (g.assignment (eqb-true c 9 w)))
        (λ w. if_full (nat_le 10 c && nat_le c 13) _ _ (λ v. let o = g.orders (at_least 10 c (and_is _ _ v)) (at_least c 13 (and_also _ _ v)) in compared_full c b _ _ o.0 o.1) (λ v. all_tries P e b height _ k)))
    constant_full c (x ∷ y ∷ z ∷ us) k f = all_tries P e b height _ k

    taken : (name : _) (ts : List Task) → Full ts → IsLack (strict (Takes name ts)) → ⊥
    unfolding Full
    taken name ts f h = transport (λ p. IsLack {Task = Task} {Answer = Answer} (if p then Lacks else Takes name ts)) f h

    atom_full : (h : Term) → IsFound (goal_looked n t) → HeadHasEnough n e.level b h (arguments t) → IsLack (strict (look_atom unit_limit n P height e b t h)) → ⊥
    atom_full (atom (constant c ts)) k f = taken _ _ (constant_full c (arguments t) k f)
    atom_full (atom (eigen j)) k f = taken _ _ (all_tries P e b height _ k)
    atom_full (atom (logic x l)) k f = λ h. h
    atom_full (atom (integer z)) k f = λ h. h
    atom_full (atom (text s)) k f = λ h. h
    atom_full (atom (param j T)) k f = λ h. h
    atom_full (index i) k f = λ h. h
    atom_full (abs u) k f = λ h. h
    atom_full (app u v) k f = λ h. h

    form_full : (f : Connective) → (f ≡ connective.Atomic → AtomHasEnough n e.level b t) → IsLack (strict (look_form unit_limit n P height e b t f)) → ⊥
    form_full connective.True h x = x
    form_full connective.Cut h x = x
    form_full (connective.And l r) h x = x
    form_full (connective.Or l r) h x = x
    form_full (connective.Implies c g) h x = x
    form_full (connective.ForAll T s) h x = x
    form_full (connective.Exists T s) h x = x
    form_full (connective.Not g) h x = x
    form_full connective.Atomic h x = let a = h refl in atom_full (head_of t) a.looked a.head x

  goal_full : (P : List Clause) (height : ℕ) (e : Entry) (b : Branch) (g : Goal) → e.goal ≡ g →
      ((t : Term) → e.goal ≡ Atomic t → TermHasEnough n e.level b t) → ((w : Written) (gs : Goals) → e.goal ≡ Not w gs → IsFound
      (has_variables n (both_written w e.written))) → IsLack (strict (look_goal unit_limit n P height e b g)) → ⊥
  goal_full P height e b (Atomic t) i f v x = let z = f t i in form_full P height e b z.form (connective_of z.form) z.call (transport (λ o. IsLack (strict (look_normal unit_limit n P height e b o))) z.comes x)
  goal_full P height e b Cut i f v x = x
  goal_full P height e b (Either l r) i f v x = x
  goal_full P height e b (Exists T gs) i f v x = x
  goal_full P height e b (Forall T gs) i f v x = x
  goal_full P height e b (Assume w cs gs) i f v x = x
  goal_full P height e b (Not w gs) i f v x = go (has_variables n (both_written w e.written)) (v w gs i) x
    where
      go : (o : Option Bool) → IsFound o → IsLack (strict (look_not e b gs o)) → ⊥
      go None y z = let q = y.1 in absurd (cc)
      go (Some true) y z = z
      go (Some false) y z = z

  branch_full : (P : List Clause) (height : ℕ) (b : Branch) (gs : List Entry) → b.goals ≡ gs → HasEnough n (Go b) → IsLack (strict (look_branch unit_limit n P height b gs)) → ⊥
  branch_full P height b [] i f x = x
  branch_full P height b (e ∷ es) i f x = goal_full P height e (with_goals b es) e.goal refl (λ t j. term_with n n (omega arith) e.level b es t (f.0 e es t i j)) (λ w gs j. f.1 e es w gs i j) x

  followed_full : (b : Branch) (o : Option Unified) → IsFound o → IsLack (strict (Opens (follow b o))) → ⊥
  followed_full b None f x = let e = f.1 in cc
  followed_full b (Some Spent) f x = x
  followed_full b (Some Fail) f x = x
  followed_full b (Some (Solution s)) f x = x

  tried_full : (k : ℕ) (vs : List Ty) (h : Term) (body : Goals) (t : Term) (e : Entry) (b : Branch) (mark : ℕ) (σ : ℕ → Term) → IsFound
      (solve n unit_limit (type_pairs (head_of t) (head_of h)) (pairs_of σ e.level [] (arguments h) (arguments t)) b.pairs (b.next + length vs)) →
      IsLack (strict (Opens (tried unit_limit n k vs h body t e b mark σ))) → ⊥
  tried_full k vs h body t e b mark σ f = followed_full (record {
    next = b.next + length vs;
    next_type = b.next_type + k;
    goals = entries (goal_list (instantiate_goals σ body)) e.assumed e.written e.level mark ++ b.goals;
    types = b.types;
    values = b.values;
    pairs = b.pairs;
  }) (solve n unit_limit (type_pairs (head_of t) (head_of h)) (pairs_of σ e.level [] (arguments h) (arguments t)) b.pairs (b.next + length vs)) f

  -- with enough steps a look lacks none
  pub full : (P : List Clause) (height : ℕ) (t : Task) → (t ≡ Lack → ⊥) → HasEnough n t → IsLack (strict (look unit_limit n P height t)) → ⊥
  full P height (Go b) o f x = branch_full P height b b.goals refl f x
  full P height (Try (clause k vs h body) t e b mark) o f x =
      let h' = instance_term (renewed k b.next_type) h in
      tried_full k vs h' (type_goals (renewed k b.next_type) body) t e b mark (slotted (slots_of [] (arguments h') (arguments t)) b.next e.level) f x
  full P height (Stop e) o f x = x
  full P height Lack o f x = o refl
