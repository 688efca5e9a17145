-- Where n steps are enough more steps see the same.
use Rattle.std.proofs.Common.{◌≡◌, ℕ, ◌≤◌, List, [], ◌∷◌, ◌++◌, length, Option, Some, ◌∙◌, refl, sym, ap, arith, Bool, true, false, nat_eq, if◌then◌else◌}
use Rattle.std.specs.Prelude.{nat_le, ◌&&◌, ◌+◌}
use Rattle.std.proofs.lemmas.Bool.{eqb-true}
use Rattle.std.proofs.lemmas.Bool.Decides.{nat_tests}
use Rattle.lp_calculus.specs.Term.{Term, index, atom, abs, app, constant, integer, text, eigen, logic, param}
use Rattle.lp_model.specs.Look.{head_normal}
use Rattle.lp_calculus.specs.Spine.{head_of, arguments}
use Rattle.lp_standard.specs.Connectives.{Connective, connective_of}
use Rattle.lp_standard.specs.Connectives as connective
use Rattle.lp_model.specs.Skeleton.{Opens, Takes, named, eigenconstant}
use Rattle.lp_model.specs.Unify.{solve, unit_limit}
use Rattle.lp_model.specs.Values.{Outcome, Is, Faults, evaluate, term_of}
use Rattle.lp_model.specs.Flat.{Goal, Atomic, Cut, Either, Exists, Forall, Assume, Not, Clause, clause, Goals, goal_list, instantiate_goals, type_goals, Written}
use Rattle.lp_model.specs.Branch.{Entry, Branch, Task, Go, Try, Stop, entries, Lack, both_written}
use Rattle.lp_model.specs.Rule.{type_pairs}
use Rattle.lp_calculus.specs.Types.{Ty}
use Rattle.lp_calculus.specs.Instance.{instance_term}
use Rattle.lp_model.specs.Search.{with_goals, follow, equated, assigned, compared, tries, goal_looked, look_constant, look_atom, look_form, look_normal, look_goal, look_branch, look, renewed, slotted, slots_of, pairs_of, has_variables, look_not}
use Rattle.lp_unify_laws.proofs.MoreSteps.Scans.{Below, head_normal_more}
use Rattle.lp_unify_laws.proofs.MoreSteps.Solving.{solve_more}
use Rattle.lp_search_laws.specs.Holds.{equation}
use Rattle.lp_search_laws.proofs.LookedGoals.{looked_more}
use Rattle.lp_search_laws.proofs.MoreSteps.{variables_more}
use Rattle.lp_search_laws.specs.Enough.{IsFound, CanEquate, CanAssign, CallHasEnough, HeadHasEnough, AtomHasEnough, TermHasEnough, HasEnough}
use Rattle.lp_search_laws.proofs.EnoughSteps.{evaluate_more}

found_same : {A : Type 0} (o o' : Option A) → Below o o' → IsFound o → o' ≡ o
found_same o o' h f = h f.0 f.1 ∙ sym f.1

if_same : {A : Type 0} (p : Bool) (x x' y y' : A) → (p ≡ true → x ≡ x') → (p ≡ false → y ≡ y') → (if p then x else y) ≡ (if p then x' else y')
if_same true x x' y y' f g = f refl
if_same false x x' y y' f g = g refl

pub and_is : (a b : Bool) → (a && b) ≡ true → a ≡ true
and_is true b e = refl
and_is false b e = e

pub and_also : (a b : Bool) → (a && b) ≡ true → b ≡ true
and_also true b e = e
and_also false b e = absurd (cc)

pub at_least : (m n : ℕ) → nat_le m n ≡ true → m ≤ n
at_least m n e = grind (arith, nat_tests)

module _ (n m : ℕ) (more : n ≤ m) where
  equated_same : (level : ℕ) (b : Branch) (l r : Term) → CanEquate n level b l r → equated unit_limit m level l r b ≡ equated unit_limit n level l r b
  equated_same v b l r f = ap (follow b) (found_same _ _ (solve_more n m more unit_limit [] (equation l r v) b.pairs b.next) f)

  value_same : (level : ℕ) (b : Branch) (l : Term) (o : Outcome) → ((w : _) → o ≡ Is w → CanEquate n level b l (term_of w)) → assigned unit_limit m level l b (Some o) ≡ assigned unit_limit n level l b (Some o)
  value_same v b l (Faults x) f = refl
  value_same v b l (Is w) f = equated_same v b l (term_of w) (f w refl)

  assigned_same : (level : ℕ) (b : Branch) (l r : Term) → CanAssign n level b l r → assigned unit_limit m level l b (evaluate m r) ≡ assigned unit_limit n level l b (evaluate n r)
  assigned_same v b l r f =
      ap (assigned unit_limit m v l b) (evaluate_more n m more r f.0 f.1) ∙ value_same v b l f.0 f.2 ∙ ap (assigned unit_limit n v l b) (sym f.1)

  compared_same : (c : ℕ) (b : Branch) (l r : Term) → IsFound (evaluate n l) → IsFound (evaluate n r) → compared c b (evaluate m l) (evaluate m r) ≡ compared c b (evaluate n l) (evaluate n r)
  compared_same c b l r f g = ap (λ o. compared c b o (evaluate m r)) (found_same _ _ (evaluate_more n m more l) f) ∙ ap (compared c b (evaluate n l)) (found_same _ _ (evaluate_more n m more r) g)

  module _ (P : List Clause) (height : ℕ) (e : Entry) (b : Branch) (t : Term) where
    tries_same : IsFound (goal_looked n t) → tries P e b height (goal_looked m t) ≡ tries P e b height (goal_looked n t)
    tries_same f = ap (tries P e b height) (found_same _ _ (looked_more n m more t) f)

    constant_same : (c : ℕ) (us : List Term) → IsFound (goal_looked n t) → ((l r : Term) → us ≡ l ∷ r ∷ [] → CallHasEnough n e.level b c l r) → look_constant unit_limit m P height e b t c us ≡ look_constant unit_limit n P height e b t c us
    constant_same c [] k f = tries_same k
    constant_same c (x ∷ []) k f = tries_same k
    constant_same c (l ∷ r ∷ []) k f =
        let g = f l r refl in
        if_same (nat_eq c 8) _ _ _ _ (λ x. equated_same e.level b l r (g.equality (eqb-true c 8 x)))
        (λ x. if_same (nat_eq c 9) _ _ _ _ (λ w. assigned_same e.level b l r (g.assignment (eqb-true c 9 w)))
        (λ w. if_same (nat_le 10 c && nat_le c 13) _ _ _ _ (λ v. let o = g.orders (at_least 10 c (and_is _ _ v)) (at_least c 13 (and_also _ _ v)) in compared_same c b l r o.0 o.1) (λ v. tries_same k)))
    constant_same c (x ∷ y ∷ z ∷ us) k f = tries_same k

    atom_same : (h : Term) → IsFound (goal_looked n t) → HeadHasEnough n e.level b h (arguments t) → look_atom unit_limit m P height e b t h ≡ look_atom unit_limit n P height e b t h
    atom_same (atom (constant c ts)) k f = ap (Takes (named c)) (constant_same c (arguments t) k f)
    atom_same (atom (eigen j)) k f = ap (Takes (eigenconstant j)) (tries_same k)
    atom_same (atom (logic x l)) k f = refl
    atom_same (atom (integer z)) k f = refl
    atom_same (atom (text s)) k f = refl
    atom_same (atom (param j T)) k f = refl
    atom_same (index i) k f = refl
    atom_same (abs u) k f = refl
    atom_same (app u v) k f = refl

    form_same : (f : Connective) → (f ≡ connective.Atomic → AtomHasEnough n e.level b t) → look_form unit_limit m P height e b t f ≡ look_form unit_limit n P height e b t f
    form_same connective.True h = refl
    form_same connective.Cut h = refl
    form_same (connective.And l r) h = refl
    form_same (connective.Or l r) h = refl
    form_same (connective.Implies c g) h = refl
    form_same (connective.ForAll T s) h = refl
    form_same (connective.Exists T s) h = refl
    form_same (connective.Not g) h = refl
    form_same connective.Atomic h = let a = h refl in atom_same (head_of t) a.looked a.head

  term_same : (P : List Clause) (height : ℕ) (e : Entry) (b : Branch) (t : Term) → TermHasEnough n e.level b t → look_normal unit_limit m P height e b (head_normal m t) ≡ look_normal unit_limit n P height e b (head_normal n t)
  term_same P height e b t f =
      ap (look_normal unit_limit m P height e b) (head_normal_more n m more t f.form f.comes) ∙ form_same P height e b f.form (connective_of f.form) f.call ∙ ap (look_normal unit_limit n P height e b) (sym f.comes)

  goal_same : (P : List Clause) (height : ℕ) (e : Entry) (b : Branch) (g : Goal) → e.goal ≡ g →
      ((t : Term) → e.goal ≡ Atomic t → TermHasEnough n e.level b t) → ((w : Written) (gs : Goals) → e.goal ≡ Not w gs → IsFound
      (has_variables n (both_written w e.written))) → look_goal unit_limit m P height e b g ≡ look_goal unit_limit n P height e b g
  goal_same P height e b (Atomic t) i f v = term_same P height e b t (f t i)
  goal_same P height e b Cut i f v = refl
  goal_same P height e b (Either l r) i f v = refl
  goal_same P height e b (Exists T gs) i f v = refl
  goal_same P height e b (Forall T gs) i f v = refl
  goal_same P height e b (Assume ws cs gs) i f v = refl
  goal_same P height e b (Not ws gs) i f v = let x = v ws gs i in ap (look_not e b gs) (variables_more n m more (both_written ws e.written) x.0 x.1 ∙ sym x.1)

  pub term_with : (level : ℕ) (b : Branch) (es : List Entry) (t : Term) → TermHasEnough n level b t → TermHasEnough n level (with_goals b es) t
  term_with v b es t f = record { form = f.form; comes = f.comes; call = λ p. let a = f.call p in record { looked = a.looked; head = head_with v b es (head_of f.form) (arguments f.form) a.head } }
    where
      call_with : (level : ℕ) (b : Branch) (es : List Entry) (c : ℕ) (l r : Term) → CallHasEnough n level b c l r → CallHasEnough n level (with_goals b es) c l r
      call_with v b es c l r f = record { equality = f.equality; assignment = f.assignment; orders = f.orders }

      head_with : (level : ℕ) (b : Branch) (es : List Entry) (h : Term) (us : List Term) → HeadHasEnough n level b h us → HeadHasEnough n level (with_goals b es) h us
      head_with v b es (atom (constant c ts)) us f = λ l r i. call_with v b es c l r (f l r i)
      head_with v b es (atom (eigen j)) us f = tt
      head_with v b es (atom (logic x l)) us f = tt
      head_with v b es (atom (integer z)) us f = tt
      head_with v b es (atom (text s)) us f = tt
      head_with v b es (atom (param j T)) us f = tt
      head_with v b es (index i) us f = tt
      head_with v b es (abs u) us f = tt
      head_with v b es (app u w) us f = tt

  branch_same : (P : List Clause) (height : ℕ) (b : Branch) (gs : List Entry) → b.goals ≡ gs → HasEnough n (Go b) → look_branch unit_limit m P height b gs ≡ look_branch unit_limit n P height b gs
  branch_same P height b [] i f = refl
  branch_same P height b (e ∷ es) i f = goal_same P height e (with_goals b es) e.goal refl (λ t j. term_with e.level b es t (f.0 e es t i j)) (λ w gs j. f.1 e es w gs i j)

  -- the branch that a try goes on with
  abbrev Goes : ℕ → List Ty → Goals → Entry → Branch → ℕ → (ℕ → Term) → Branch
  Goes k vs body e b mark σ = record {
    next = b.next + length vs;
    next_type = b.next_type + k;
    goals = entries (goal_list (instantiate_goals σ body)) e.assumed e.written e.level mark ++ b.goals;
    types = b.types;
    values = b.values;
    pairs = b.pairs;
  }

  opens_same : (P : List Clause) (height k : ℕ) (vs : List Ty) (h : Term) (body : Goals) (t : Term) (e : Entry) (b : Branch) (mark : ℕ) →
      solve m unit_limit (type_pairs (head_of t) (head_of (instance_term (renewed k b.next_type) h)))
      (pairs_of (slotted (slots_of [] (arguments (instance_term (renewed k b.next_type) h)) (arguments t)) b.next e.level) e.level []
      (arguments (instance_term (renewed k b.next_type) h)) (arguments t)) b.pairs (b.next + length vs) ≡
      solve n unit_limit (type_pairs (head_of t) (head_of (instance_term (renewed k b.next_type) h)))
      (pairs_of (slotted (slots_of [] (arguments (instance_term (renewed k b.next_type) h)) (arguments t)) b.next e.level) e.level []
      (arguments (instance_term (renewed k b.next_type) h)) (arguments t)) b.pairs (b.next + length vs) →
      look unit_limit m P height (Try (clause k vs h body) t e b mark) ≡ look unit_limit n P height (Try (clause k vs h body) t e b mark)
  opens_same P height k vs h body t e b mark x =
      ap (λ o. Opens (follow (Goes k vs (type_goals (renewed k b.next_type) body) e b mark (slotted (slots_of [] (arguments (instance_term (renewed k b.next_type) h)) (arguments t)) b.next e.level)) o)) x

  pub view_same : (P : List Clause) (height : ℕ) (t : Task) → HasEnough n t → look unit_limit m P height t ≡ look unit_limit n P height t
  view_same P height (Go b) f = branch_same P height b b.goals refl f
  view_same P height (Try (clause k vs h body) t e b mark) f = opens_same P height k vs h body t e b mark
      (found_same (solve n unit_limit (type_pairs (head_of t) (head_of (instance_term (renewed k b.next_type) h)))
      (pairs_of (slotted (slots_of [] (arguments (instance_term (renewed k b.next_type) h)) (arguments t)) b.next e.level) e.level []
      (arguments (instance_term (renewed k b.next_type) h)) (arguments t)) b.pairs (b.next + length vs)) _ (solve_more n m more unit_limit _ _ _ _) f)
  view_same P height (Stop e) f = refl
  view_same P height Lack f = refl
