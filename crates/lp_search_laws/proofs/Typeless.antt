-- The types of a query are carried along, and nothing else: a search without them is in step with it.
use Rattle.std.proofs.Common.{◌≡◌, ℕ, ◌+◌, List, [], ◌∷◌, ◌++◌, map, length, Option, Some, None, Bool, true, false, refl, ap}
use Rattle.std.specs.Prelude.{nat_eq, nat_le, ◌&&◌, if◌then◌else◌}
use Rattle.lp_calculus.specs.Term.{Term, index, atom, abs, app, constant, integer, text, eigen, logic, param}
use Rattle.lp_calculus.specs.Spine.{head_of, arguments}
use Rattle.lp_calculus.specs.Instance.{instance_term}
use Rattle.lp_model.specs.Look.{head_normal}
use Rattle.lp_model.specs.Rule.{type_pairs}
use Rattle.lp_model.specs.Unify.{Unified, Fail, Solution, Spent, solve}
use Rattle.lp_model.specs.Values.{Outcome, Is, Faults, Number, Bytes, evaluate, ordered}
use Rattle.lp_model.specs.Skeleton.{View, Gives, Opens, Parts, Takes, Cuts, Denies, Halts, Lacks, named, eigenconstant, State, Inner, inner, run}
use Rattle.lp_standard.specs.Connectives.{Connective, connective_of}
use Rattle.lp_standard.specs.Connectives as connective
use Rattle.lp_model.specs.Flat.{Goal, Atomic, Cut, Either, Exists, Forall, Assume, Not, Goals, goal_list, Clause, clause, instantiate_goals, type_goals}
use Rattle.lp_model.specs.Branch.{Entry, Branch, Answer, Task, Go, Try, Stop, Lack, both_written, entries}
use Rattle.lp_model.specs.Search.{with_goals, follow, assigned, compared, candidates, goal_looked, has_variables, tries, slots_of, slotted, pairs_of, renewed, try_clause, look_constant, look_atom, look_form, look_normal, look_not, look_goal, look_branch, look}
use Rattle.lp_search_laws.proofs.Stack.Alongside.{images, state_map, told_map, Agree, alongside}

abbrev pub typeless : Branch → Branch
typeless b = record { next = b.next; next_type = b.next_type; goals = b.goals; types = []; values = b.values; pairs = b.pairs }

abbrev pub typeless_answer : Answer → Answer
typeless_answer a = record { next = a.next; next_type = a.next_type; types = []; values = a.values; pairs = a.pairs }

abbrev pub typeless_task : Task → Task
typeless_task (Go b) = Go (typeless b)
typeless_task (Try c t e b mark) = Try c t e (typeless b) mark
typeless_task (Stop e) = Stop e
typeless_task Lack = Lack

-- the search of a negated goal has none
abbrev typeless_view : View Task Answer → View Task Answer
typeless_view v = images typeless_task typeless_answer (λ t. t) (λ f. f) v

follow_same : (b : Branch) (o : Option Unified) → follow (typeless b) o ≡ map typeless_task (follow b o)
follow_same b None = refl
follow_same b (Some Spent) = refl
follow_same b (Some Fail) = refl
follow_same b (Some (Solution s)) = refl

if_same : (p : Bool) (x y x' y' : List Task) → x' ≡ map typeless_task x → y' ≡ map typeless_task y → (if p then x' else y') ≡ map typeless_task (if p then x else y)
if_same true x y x' y' e g = e
if_same false x y x' y' e g = g

assigned_same : (u n level : ℕ) (t : Term) (b : Branch) (o : Option Outcome) → assigned u n level t (typeless b) o ≡ map typeless_task (assigned u n level t b o)
assigned_same u n level t b None = refl
assigned_same u n level t b (Some (Faults f)) = refl
assigned_same u n level t b (Some (Is v)) = follow_same b _

compared_same : (c : ℕ) (b : Branch) (o r : Option Outcome) → compared c (typeless b) o r ≡ map typeless_task (compared c b o r)
compared_same c b None r = refl
compared_same c b (Some (Faults f)) r = refl
compared_same c b (Some (Is (Bytes s))) r = refl
compared_same c b (Some (Is (Number x))) None = refl
compared_same c b (Some (Is (Number x))) (Some (Faults f)) = refl
compared_same c b (Some (Is (Number x))) (Some (Is (Bytes s))) = refl
compared_same c b (Some (Is (Number x))) (Some (Is (Number y))) = if_same (ordered c x y) (Go b ∷ []) [] (Go (typeless b) ∷ []) [] refl refl

each_same : (cs : List Clause) (t : Term) (e : Entry) (b : Branch) (mark : ℕ) → map (λ c. Try c t e (typeless b) mark) cs ≡ map typeless_task (map (λ c. Try c t e b mark) cs)
each_same [] t e b mark = refl
each_same (c ∷ cs) t e b mark = ap (λ ts. Try c t e (typeless b) mark ∷ ts) (each_same cs t e b mark)

module _ (u n : ℕ) (P : List Clause) where
  tries_same : (e : Entry) (b : Branch) (mark : ℕ) (o : Option Term) → tries P e (typeless b) mark o ≡ map typeless_task (tries P e b mark o)
  tries_same e b mark None = refl
  tries_same e b mark (Some t) = each_same (candidates P e.assumed t) t e b mark

  module _ (height : ℕ) (e : Entry) (b : Branch) where
    constant_same : (t : Term) (c : ℕ) (us : List Term) → look_constant u n P height e (typeless b) t c us ≡ map typeless_task (look_constant u n P height e b t c us)
    constant_same t c [] = tries_same e b height (goal_looked n t)
    constant_same t c (x ∷ []) = tries_same e b height (goal_looked n t)
    constant_same t c (x ∷ y ∷ z ∷ us) = tries_same e b height (goal_looked n t)
    constant_same t c (l ∷ r ∷ []) =
        if_same (nat_eq c 8) _ _ _ _ (follow_same b _)
        (if_same (nat_eq c 9) _ _ _ _ (assigned_same u n e.level l b (evaluate n r))
        (if_same (nat_le 10 c && nat_le c 13) _ _ _ _ (compared_same c b (evaluate n l) (evaluate n r)) (tries_same e b height (goal_looked n t))))

    atom_same : (t x : Term) → look_atom u n P height e (typeless b) t x ≡ typeless_view (look_atom u n P height e b t x)
    atom_same t (atom (constant c ts)) = ap (λ ts. Takes (named c) ts) (constant_same t c (arguments t))
    atom_same t (atom (eigen j)) = ap (λ ts. Takes (eigenconstant j) ts) (tries_same e b height (goal_looked n t))
    atom_same t (atom (logic x l)) = refl
    atom_same t (atom (integer z)) = refl
    atom_same t (atom (text s)) = refl
    atom_same t (atom (param j T)) = refl
    atom_same t (index i) = refl
    atom_same t (abs s) = refl
    atom_same t (app f s) = refl

    form_same : (t : Term) (f : Connective) → look_form u n P height e (typeless b) t f ≡ typeless_view (look_form u n P height e b t f)
    form_same t connective.True = refl
    form_same t connective.Cut = refl
    form_same t (connective.And l r) = refl
    form_same t (connective.Or l r) = refl
    form_same t (connective.ForAll T s) = refl
    form_same t (connective.Exists T s) = refl
    form_same t (connective.Implies c g) = refl
    form_same t (connective.Not g) = refl
    form_same t connective.Atomic = atom_same t (head_of t)

    normal_same : (o : Option Term) → look_normal u n P height e (typeless b) o ≡ typeless_view (look_normal u n P height e b o)
    normal_same None = refl
    normal_same (Some t) = form_same t (connective_of t)

    not_same : (gs : Goals) (o : Option Bool) → look_not e (typeless b) gs o ≡ typeless_view (look_not e b gs o)
    not_same gs None = refl
    not_same gs (Some true) = refl
    not_same gs (Some false) = refl

    goal_same : (g : Goal) → look_goal u n P height e (typeless b) g ≡ typeless_view (look_goal u n P height e b g)
    goal_same (Atomic t) = normal_same (head_normal n t)
    goal_same Cut = refl
    goal_same (Either l r) = refl
    goal_same (Exists T gs) = refl
    goal_same (Forall T gs) = refl
    goal_same (Assume w cs gs) = refl
    goal_same (Not w gs) = not_same gs (has_variables n (both_written w e.written))

  branch_same : (height : ℕ) (b : Branch) (es : List Entry) → look_branch u n P height (typeless b) es ≡ typeless_view (look_branch u n P height b es)
  branch_same height b [] = refl
  branch_same height b (e ∷ es) = goal_same height e (with_goals b es) e.goal

  try_same : (c : Clause) (t : Term) (e : Entry) (b : Branch) (mark : ℕ) → try_clause u n c t e (typeless b) mark ≡ map typeless_task (try_clause u n c t e b mark)
  try_same (clause k vs h body) t e b mark =
      let y = instance_term (renewed k b.next_type) h in
      let σ = slotted (slots_of [] (arguments y) (arguments t)) b.next e.level in
      follow_same (record {
        next = b.next + length vs;
        next_type = b.next_type + k;
        goals = entries (goal_list (instantiate_goals σ (type_goals (renewed k b.next_type) body))) e.assumed e.written e.level mark ++ b.goals;
        types = b.types;
        values = b.values;
        pairs = b.pairs;
      }) (solve n u (type_pairs (head_of t) (head_of y)) (pairs_of σ e.level [] (arguments y) (arguments t)) b.pairs (b.next + length vs))

  look_same : (height : ℕ) (t : Task) → look u n P height (typeless_task t) ≡ typeless_view (look u n P height t)
  look_same height (Go b) = branch_same height b b.goals
  look_same height (Try c t e b mark) = ap Opens (try_same c t e b mark)
  look_same height (Stop e) = refl
  look_same height Lack = refl

  same_denials : (go : (Answer → Bool) → State Task → Inner) (w : View Task Answer) → Agree typeless_task typeless_answer (λ t. t) (λ f. f) go go w
  same_denials go (Gives a) = tt
  same_denials go (Opens ts) = tt
  same_denials go (Parts ts) = tt
  same_denials go (Takes name ts) = tt
  same_denials go (Cuts m ts) = tt
  same_denials go (Denies t f ts) = λ rows steps. refl
  same_denials go (Halts e) = tt
  same_denials go Lacks = tt

  pub run_same : (j m : ℕ) (s : State Task) → run (look u n P) j m (state_map typeless_task typeless_answer s) ≡ told_map typeless_task typeless_answer (run (look u n P) j m s)
  run_same j m s = alongside typeless_task typeless_answer (λ t. t) (λ f. f) (look u n P) (look u n P) look_same (λ i height t. same_denials (inner (look u n P) i) (look u n P height t)) j m s
