-- What the functions that make a plan do, by the values before and behind.
use Rattle.std.proofs.Common.{◌≡◌, ◌∙◌, ℕ, suc, ◌+◌, List, [], ◌∷◌, ◌++◌, append_assoc, map, reverse, Bor, Vec, Global, Bool, true, false, Some, ap, refl, sym, subst, arith}
use Rattle.std.specs.Prelude.{nat_eq, ◌||◌, if◌then◌else◌, slice_get, take}
use Rattle.std.specs.List.{list_any}
use Rattle.std.proofs.lemmas.List.{reverse-append}
use Rattle.std.proofs.lemmas.Bool.{eq-eqb}
use Rattle.lp_lemmas.proofs.Lists.{take_suc}
use Rattle.indexmap.specs.IndexSet.{insert_key}
use Rattle.lp_model.specs.declared.clause.Goal as code
use Rattle.lp_model.specs.declared.clause.Goal.{Goal}
use Rattle.lp_model.specs.declared.clause.Clause.{Clause}
use Rattle.lp_term.specs.declared.node.TermId.{TermId}
use Rattle.lp_term.specs.declared.node.TypeId.{TypeId}
use Rattle.lp_code.specs.States.{member}
use Rattle.lp_gen.specs.declared.plan.Assumption.{Assumption}
use Rattle.lp_gen.specs.declared.plan.Due.{Due}
use Rattle.lp_gen.specs.declared.plan.Step.{Step}
use Rattle.lp_gen.specs.declared.plan.Step.TheVariants as on
use Rattle.lp_gen.specs.declared.plan.Task.{Task}
use Rattle.lp_gen.specs.declared.plan.Task.TheVariants as task
use Rattle.lp_gen.specs.declared.plan.Origin.TheVariants as origin
use Rattle.lp_gen.specs.inner.Planning.{AreDue, IsAssumed, Todo, due_goals, due_end, todo_of, todos, WalkStands, WalkKept}
use Rattle.lp_gen.proofs.PlanWalked.{due_more}
use Rattle.lp_gen.proofs.PlanGoals.{first_goal, no_more, atom_put, cut_put, either_put, some_put, all_put, not_put, assumed_put, end_put}
use Rattle.lp_gen.proofs.PlanParts.{walk_begins}

pub todos_push : (xs ys : List Task) (t : Task) → ys ≡ xs ++ t ∷ [] → todos ys ≡ todo_of t ∷ todos xs
todos_push xs ys t e = ap (λ l. map todo_of (reverse l)) e ∙ ap (map todo_of) (reverse-append xs (t ∷ []))

-- one after the other
pub kept_on : (us1 us2 us3 : List Due) (xs1 xs2 xs3 : List Assumption) (d1 d2 d3 : ℕ) (s1 s2 s3 : List Step) (t1 t2 t3 : List Todo) → WalkKept us1 us2
    xs1 xs2 d1 d2 s1 s2 t1 t2 → WalkKept us2 us3 xs2 xs3 d2 d3 s2 s3 t2 t3 →
    WalkKept us1 us3 xs1 xs3 d1 d3 s1 s3 t1 t3
kept_on us1 us2 us3 xs1 xs2 xs3 d1 d2 d3 s1 s2 s3 t1 t2 t3 v w us0 xs0 d0 gs x = w us0 xs0 d0 gs (v us0 xs0 d0 gs x)

-- a goal by what it is equal to

pub goal_done : (us us' : List Due) (xs xs' : List Assumption) (d d1 d' : ℕ) (ss s1 ss' : List Step) (ts t1 ts' : List Todo) (g1 g : Goal) → WalkKept
    us us' xs xs' d d1 ss s1 (due_goals (g1 ∷ []) ∷ ts) t1 → d' ≡ d1 → ss' ≡ s1 → ts' ≡ t1 → g ≡ g1 →
    WalkKept us us' xs xs' d d' ss ss' (due_goals (g ∷ []) ∷ ts) ts'
goal_done us us' xs xs' d d1 d' ss s1 ss' ts t1 ts' g1 g w l e f h =
    subst (λ u. WalkKept us us' xs xs' d d' ss ss' (due_goals (u ∷ []) ∷ ts) ts') (sym h) (subst (λ u. WalkKept us us' xs xs' d d' ss ss' (due_goals (g1 ∷ []) ∷ ts) u) (sym f)
    (subst (λ u. WalkKept us us' xs xs' d d' ss u (due_goals (g1 ∷ []) ∷ ts) t1) (sym e) (subst (λ u. WalkKept us us' xs xs' d u ss s1 (due_goals (g1 ∷ []) ∷ ts) t1) (sym l) w)))

module _ (us : List Due) (xs : List Assumption) (d d' : ℕ) (ss ss' : List Step) (ts ts' : List Todo) (g : Goal) where
  pub atom_done : (t : TermId) → g ≡ code.Atom t → d' ≡ d → ss' ≡ ss ++ on.Atom t ∷ [] → ts' ≡ ts → WalkKept us us xs xs d d' ss ss' (due_goals (g ∷ []) ∷ ts) ts'
  atom_done t h l e f = goal_done us us xs xs d d d' ss (ss ++ on.Atom t ∷ []) ss' ts ts ts' (code.Atom t) g (atom_put us xs d ss ts t) l e f h

  pub cut_done : g ≡ code.Cut → d' ≡ d → ss' ≡ ss ++ on.Cut ∷ [] → ts' ≡ ts → WalkKept us us xs xs d d' ss ss' (due_goals (g ∷ []) ∷ ts) ts'
  cut_done h l e f = goal_done us us xs xs d d d' ss (ss ++ on.Cut ∷ []) ss' ts ts ts' code.Cut g (cut_put us xs d ss ts) l e f h

  pub either_done : (l r : Vec Goal Global) (ls rs : List Goal) → g ≡ code.Either l r → ls ≡ l.items → rs ≡ r.items → d' ≡ d → ss' ≡ ss ++ on.Either ∷ [] →
      ts' ≡ due_goals ls ∷ due_end on.Turn d ∷ due_goals rs ∷ due_end on.EndEither d ∷ ts → WalkKept us us xs xs d d' ss ss' (due_goals (g ∷ []) ∷ ts) ts'
  either_done l r ls rs h left right v e f =
      goal_done us us xs xs d d d' ss (ss ++ on.Either ∷ []) ss' ts (due_goals l.items ∷ due_end on.Turn d ∷ due_goals r.items ∷ due_end on.EndEither
      d ∷ ts) ts' (code.Either l r) g (either_put us xs d ss ts l r) v e
      (f ∙ (λ i. due_goals (left i) ∷ due_end on.Turn d ∷ due_goals (right i) ∷ due_end on.EndEither d ∷ ts)) h

  pub some_done : (T : TypeId) (l : Vec Goal Global) (ls : List Goal) → g ≡ code.Some T l → ls ≡ l.items → d' ≡ suc d → ss' ≡ ss ++ on.Some T ∷ [] →
      ts' ≡ due_goals ls ∷ ts → WalkKept us us xs xs d d' ss ss' (due_goals (g ∷ []) ∷ ts) ts'
  some_done T l ls h is v e f =
      goal_done us us xs xs d d' d' ss (ss ++ on.Some T ∷ []) ss' ts (due_goals l.items ∷ ts) ts' (code.Some T l) g (some_put us xs d ss ts d' T l v) refl e (f ∙ (λ i. due_goals (is i) ∷ ts)) h

  pub all_done : (T : TypeId) (l : Vec Goal Global) (ls : List Goal) → g ≡ code.All T l → ls ≡ l.items → d' ≡ suc d → ss' ≡ ss ++ on.All T ∷ [] → ts'
      ≡ due_goals ls ∷ due_end on.EndAll d ∷ ts → WalkKept us us xs xs d d' ss ss' (due_goals (g ∷ []) ∷ ts) ts'
  all_done T l ls h is v e f =
      goal_done us us xs xs d d' d' ss (ss ++ on.All T ∷ []) ss' ts (due_goals l.items ∷ due_end on.EndAll d ∷ ts) ts' (code.All T l) g
      (all_put us xs d ss ts d' T l v) refl e (f ∙ (λ i. due_goals (is i) ∷ due_end on.EndAll d ∷ ts)) h

  pub not_done : (l : Vec Goal Global) (ls : List Goal) → g ≡ code.Not l → ls ≡ l.items → d' ≡ d → ss' ≡ ss ++ on.Not ∷ [] → ts' ≡ due_goals ls ∷
      due_end on.EndNot d ∷ ts → WalkKept us us xs xs d d' ss ss' (due_goals (g ∷ []) ∷ ts) ts'
  not_done l ls h is v e f =
      goal_done us us xs xs d d d' ss (ss ++ on.Not ∷ []) ss' ts (due_goals l.items ∷ due_end on.EndNot d ∷ ts) ts' (code.Not l) g
      (not_put us xs d ss ts l) v e (f ∙ (λ i. due_goals (is i) ∷ due_end on.EndNot d ∷ ts)) h

  pub assume_done : (us' : List Due) (xs' : List Assumption) (n : ℕ) (cs : Vec Clause Global) (l : Vec Goal Global) (ds : List Clause)
      (ls : List Goal) → g ≡ code.Assume cs l → ds ≡ cs.items → ls ≡ l.items → IsAssumed us us' xs xs' ds d n → d' ≡ d →
      ss' ≡ ss ++ on.Assume n ∷ [] → ts' ≡ due_goals ls ∷ due_end on.EndAssume d ∷ ts → WalkKept us us' xs xs' d d' ss ss' (due_goals (g ∷ []) ∷ ts) ts'
  assume_done us' xs' n cs l ds ls h are is made v e f =
      goal_done us us' xs xs' d d d' ss (ss ++ on.Assume n ∷ []) ss' ts (due_goals l.items ∷ due_end on.EndAssume d ∷ ts) ts' (code.Assume cs l) g
      (assumed_put us xs d ss ts us' xs' n cs l (subst (λ k. IsAssumed us us' xs xs' k d n) are made)) v e (f ∙ (λ i. due_goals (is i) ∷ due_end on.EndAssume d ∷ ts)) h

-- a task by what it is equal to

pub task_none : (us : List Due) (xs : List Assumption) (d : ℕ) (ss : List Step) (ts : List Todo) (t : Task) (gs : Bor (List Goal)) → t ≡ task.Goals gs
    → gs.now ≡ [] → WalkKept us us xs xs d d ss ss (todo_of t ∷ ts) ts
task_none us xs d ss ts t gs e f = subst (λ (u : Task). WalkKept us us xs xs d d ss ss (todo_of u ∷ ts) ts) (sym e)
    (subst (λ l. WalkKept us us xs xs d d ss ss (due_goals l ∷ ts) ts) (sym f) (no_more us xs d ss ts))

pub task_first : (us us' : List Due) (xs xs' : List Assumption) (d d' : ℕ) (ss ss' : List Step) (old mid : List Task) (ts' : List Todo) (t : Task)
    (gs rest : Bor (List Goal)) (g : Goal) → t ≡ task.Goals gs → gs.now ≡ g ∷ rest.now → mid ≡ old ++ task.Goals rest ∷ [] →
    WalkKept us us' xs xs' d d' ss ss' (due_goals (g ∷ []) ∷ todos mid) ts' → WalkKept us us' xs xs' d d' ss ss' (todo_of t ∷ todos old) ts'
task_first us us' xs xs' d d' ss ss' old mid ts' t gs rest g e f m w =
    subst (λ (u : Task). WalkKept us us' xs xs' d d' ss ss' (todo_of u ∷ todos old) ts') (sym e) (subst (λ l. WalkKept us us' xs xs' d d' ss ss' (due_goals l ∷ todos old) ts') (sym f)
    (kept_on us us us' xs xs xs' d d d' ss ss ss' (due_goals (g ∷ rest.now) ∷ todos old) (due_goals (g ∷ []) ∷ due_goals rest.now ∷ todos old) ts' (first_goal us xs d ss (todos old) g rest.now)
    (subst (λ l. WalkKept us us' xs xs' d d' ss ss' (due_goals (g ∷ []) ∷ l) ts') (todos_push old mid (task.Goals rest) m) w)))

pub task_end : (us : List Due) (xs : List Assumption) (d : ℕ) (ss ss' : List Step) (ts : List Todo) (t : Task) (s : Step) (l : ℕ) → t ≡ task.End s l →
    ss' ≡ ss ++ s ∷ [] → WalkKept us us xs xs d l ss ss' (todo_of t ∷ ts) ts
task_end us xs d ss ss' ts t s l e f =
    subst (λ (u : Task). WalkKept us us xs xs d l ss ss' (todo_of u ∷ ts) ts) (sym e) (subst (λ k. WalkKept us us xs xs d l ss k (due_end s l ∷ ts) ts) (sym f) (end_put us xs d ss ts s l))

-- before the first task
pub walk_ready : (us : List Due) (xs : List Assumption) (d d' : ℕ) (ss : List Step) (none all : List Task) (gs : Bor (List Goal)) (body : List Goal) →
    d' ≡ d → ss ≡ [] → none ≡ [] → all ≡ none ++ task.Goals gs ∷ [] → gs.now ≡ body →
    WalkStands us us xs xs d d' body ss (todos all)
walk_ready us xs d d' ss none all gs body l e f g h =
    subst (λ k. WalkStands us us xs xs d k body ss (todos all)) (sym l) (subst (λ k. WalkStands us us xs xs d d body k (todos all)) (sym e)
    (subst (λ k. WalkStands us us xs xs d d k [] (todos all)) h
    (subst (λ k. WalkStands us us xs xs d d gs.now [] k) (sym (todos_push none all (task.Goals gs) g ∙ ap (λ k. due_goals gs.now ∷ todos k) f)) (walk_begins us xs d gs.now))))

-- a task that is taken up
pub walk_on : (us us' : List Due) (xs xs' : List Assumption) (us0 : List Due) (xs0 : List Assumption) (d0 d d' : ℕ) (gs : List Goal)
    (ss ss' : List Step) (old all : List Task) (t : Task) (ts' : List Todo) → all ≡ old ++ t ∷ [] →
    WalkStands us0 us xs0 xs d0 d gs ss (todos all) → WalkKept us us' xs xs' d d' ss ss' (todo_of t ∷ todos old) ts' → WalkStands us0 us' xs0 xs' d0 d' gs ss' ts'
walk_on us us' xs xs' us0 xs0 d0 d d' gs ss ss' old all t ts' e w k = k us0 xs0 d0 gs (subst (λ l. WalkStands us0 us xs0 xs d0 d gs ss l) (todos_push old all t e) w)

-- behind the last task
pub walk_done : (us us' : List Due) (xs xs' : List Assumption) (d0 d d1 : ℕ) (gs : List Goal) (ss : List Step) (all : List Task) → all ≡ [] → d0 ≡ d1
    → WalkStands us us' xs xs' d0 d gs ss (todos all) → WalkStands us us' xs xs' d1 d gs ss []
walk_done us us' xs xs' d0 d d1 gs ss all e f w = subst (λ k. WalkStands us us' xs xs' k d gs ss []) f (subst (λ k. WalkStands us us' xs xs' d0 d gs ss (todos k)) e w)

-- parts that are due for more clauses

pub take_next : {X : Type 0} (i : ℕ) (xs : List X) (x : X) → slice_get xs i ≡ Some x → take (i + 1) xs ≡ take i xs ++ x ∷ []
take_next i xs x e = let z : i + 1 ≡ suc i = omega arith in ap (λ k. take k xs) z ∙ take_suc xs i x e

pub due_put : (n d i : ℕ) (cs : List Clause) (all old new more : List Due) (c : Bor Clause) → new ≡ old ++ record
    { origin = origin.Clause c; within = Some n; base = d } ∷ [] → slice_get cs i ≡ Some c.now → old ≡ all ++ more → AreDue n d (take i cs) more →
    (more2 : List Due) × (new ≡ all ++ more2) × AreDue n d (take (i + 1) cs) more2
due_put n d i cs all old new more c e at same are =
    let u : Due = record { origin = origin.Clause c; within = Some n; base = d } in (
      more ++ u ∷ [],
      e ∙ ap (λ l. l ++ u ∷ []) same ∙ append_assoc all more (u ∷ []),
      subst (λ l. AreDue n d l (more ++ u ∷ [])) (sym (take_next i cs c.now at)) (due_more n d (take i cs) more c.now u are (c, refl, refl, refl, refl)),
    )

-- levels that are inserted

or_right : (b : Bool) → (b || true) ≡ true
or_right true = refl
or_right false = refl

or_left : (b c : Bool) → b ≡ true → (b || c) ≡ true
or_left b c e = ap (λ t. t || c) e

in_front : (k : ℕ) (xs ys : List ℕ) → member k xs ≡ true → member k (xs ++ ys) ≡ true
in_front k [] ys e = absurd (cc)
in_front k (x ∷ xs) ys e = go (nat_eq k x) (λ f. in_front k xs ys f) e
  where
    go : (b : Bool) → (member k xs ≡ true → member k (xs ++ ys) ≡ true) → (b || member k xs) ≡ true → (b || member k (xs ++ ys)) ≡ true
    go true f e = refl
    go false f e = f e

at_end : (k : ℕ) (xs : List ℕ) → member k (xs ++ k ∷ []) ≡ true
at_end k [] = ap (λ t. t || false) (eq-eqb k k refl)
at_end k (x ∷ xs) = ap (λ t. nat_eq k x || t) (at_end k xs) ∙ or_right (nat_eq k x)

any_member : (k : ℕ) (xs : List ℕ) → list_any (nat_eq k) xs ≡ member k xs
any_member k [] = refl
any_member k (x ∷ xs) = ap (λ t. nat_eq k x || t) (any_member k xs)

pub inserted_old : (k l : ℕ) (xs : List ℕ) → member k xs ≡ true → member k (insert_key nat_eq xs l) ≡ true
inserted_old k l xs e = go (list_any (nat_eq l) xs)
  where
    go : (b : Bool) → member k (if b then xs else xs ++ l ∷ []) ≡ true
    go true = e
    go false = in_front k xs (l ∷ []) e

pub inserted_new : (k : ℕ) (xs : List ℕ) → member k (insert_key nat_eq xs k) ≡ true
inserted_new k xs = go (list_any (nat_eq k) xs) (any_member k xs)
  where
    go : (b : Bool) → b ≡ member k xs → member k (if b then xs else xs ++ k ∷ []) ≡ true
    go true e = sym e
    go false e = at_end k xs
