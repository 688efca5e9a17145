-- More steps for the looks change nothing of a run that is over: a look with more steps is the same, or the one with fewer steps lacks them.
use Rattle.std.proofs.Common.{◌≡◌, ℕ, ◌+◌, ◌≤◌, List, [], ◌∷◌, ◌++◌, length, refl, sym, ap, ◌∙◌, subst, Bool, true, false, Option, Some, None, inl, inr}
use Rattle.std.specs.Prelude.{◌⊎◌, ◌&&◌, ◌||◌, option_map, nat_eq, nat_le, if◌then◌else◌}
use Rattle.lp_calculus.specs.Types.{Ty}
use Rattle.lp_calculus.specs.Term.{Term, index, atom, abs, app, constant, integer, text, eigen, logic, param}
use Rattle.lp_calculus.specs.Instance.{instance_term}
use Rattle.lp_calculus.specs.Normal.{eta_normal}
use Rattle.lp_model.specs.declared.ending.Ending.{Ending}
use Rattle.lp_model.specs.Skeleton.{GoalName, View, Opens, Takes, State, Told, run}
use Rattle.lp_calculus.specs.Spine.{head_of, arguments}
use Rattle.lp_model.specs.Eigens.{beta_normal}
use Rattle.lp_model.specs.Look.{head_normal, ◌>>=◌}
use Rattle.lp_model.specs.Pair.{Pair}
use Rattle.lp_model.specs.Rule.{type_pairs}
use Rattle.lp_model.specs.Unify.{Unified, solve}
use Rattle.lp_standard.specs.Connectives.{Connective, connective_of}
use Rattle.lp_standard.specs.Connectives as connective
use Rattle.lp_model.specs.Flat.{Goal, Atomic, Cut, Either, Exists, Forall, Assume, Not, Written, Goals, Clause, clause, goal_list, instantiate_goals, type_goals}
use Rattle.lp_model.specs.Values.{Outcome, Is, Faults, Number, Bytes, value, evaluate, term_of}
use Rattle.lp_model.specs.Branch.{Entry, Branch, Answer, Task, Go, Try, Stop, Lack, entries, both_written}
use Rattle.lp_model.specs.Search.{beta_normals, has_variable, has_type_variable, has_variables, look_not, with_goals, follow, equated, assigned, compared, goal_looked, tries, slots_of, slotted, pairs_of, renewed, tried, try_clause, look_constant, look_atom, look_form, look_normal, look_goal, look_branch, look}
use Rattle.lp_unify_laws.proofs.MoreSteps.Scans.{Below, below_same, below_map, head_normal_more, beta_normal_more}
use Rattle.lp_unify_laws.proofs.MoreSteps.Solving.{solve_more}
use Rattle.std.specs.List.{list_any}
use Rattle.lp_lemmas.proofs.Options.{and_then_some, option_map_some}
use Rattle.lp_search_laws.proofs.LookedGoals.{looked_more}
use Rattle.lp_search_laws.proofs.Stack.MoreLooks.{Fewer, same_look, lacks, opens_dead, takes_dead, run_same}
use Rattle.lp_search_laws.proofs.Stack.Ends.{stays_over}

evaluate_more : (n m : ℕ) → n ≤ m → (t : Term) → Below (evaluate n t) (evaluate m t)
evaluate_more n m l t = below_map (beta_normal n t) (beta_normal m t) (λ s. value (eta_normal s)) (beta_normal_more n m l t)

-- tasks: the same, or the lack of steps

Shorter : List Task → List Task → Type 0
Shorter ts us = (ts ≡ Lack ∷ []) ⊎ (ts ≡ us)

follow_more : (b : Branch) (o o' : Option Unified) → Below o o' → Shorter (follow b o) (follow b o')
unfolding Shorter
follow_more b None o' h = inl refl
follow_more b (Some u) o' h = inr (ap (follow b) (sym (h u refl)))

-- the first one lacks steps
abbrev pub IsLacking : Task → Type 0
IsLacking t = t ≡ Lack

abbrev Looks : View Task Answer → View Task Answer → Type 0
Looks v w = Fewer IsLacking v w

pub normals_more : (n m : ℕ) → n ≤ m → (ts : List Term) → Below (beta_normals n ts) (beta_normals m ts)
normals_more n m l [] = below_same _
normals_more n m l (t ∷ ts) = λ us e.
    let x = and_then_some (beta_normal n t) (λ s. option_map (λ ss. s ∷ ss) (beta_normals n ts)) us e in
    let r = option_map_some (beta_normals n ts) (λ ss. x.0 ∷ ss) us x.2 in
    ap (λ o. o >>= λ s. option_map (λ ss. s ∷ ss) (beta_normals m ts)) (beta_normal_more n m l t x.0 x.1) ∙ ap (option_map (λ ss. x.0 ∷ ss)) (normals_more n m l ts r.0 r.1) ∙ ap Some r.2

pub variables_more : (n m : ℕ) → n ≤ m → (w : Written) → Below (has_variables n w) (has_variables m w)
variables_more n m l w = below_map (beta_normals n w.terms) (beta_normals m w.terms) (λ ts. list_any has_variable ts || list_any has_type_variable w.types) (normals_more n m l w.terms)

not_more : (n m : ℕ) → n ≤ m → (P : List Clause) (height : ℕ) (e : Entry) (b : Branch) (gs : Goals) (o o' : Option Bool) → Below o o' → Looks (look_not e b gs o) (look_not e b gs o')
not_more n m l P height e b gs None o' h = lacks refl
not_more n m l P height e b gs (Some t) o' h = same_look (ap (look_not e b gs) (sym (h t refl)))

module _ (units : ℕ) where
  equated_more : (n m : ℕ) → n ≤ m → (level : ℕ) (t u : Term) (b : Branch) → Shorter (equated units n level t u b) (equated units m level t u b)
  equated_more n m l level t u b =
      let ps : List Pair = record { left = t; right = u; level = level } ∷ [] in
      follow_more b (solve n units [] ps b.pairs b.next) (solve m units [] ps b.pairs b.next) (solve_more n m l units [] ps b.pairs b.next)

  assigned_more : (n m : ℕ) → n ≤ m → (level : ℕ) (t : Term) (b : Branch) (o o' : Option Outcome) → Below o o' → Shorter (assigned units n level t b o) (assigned units m level t b o')
  unfolding Shorter
  assigned_more n m l level t b None o' h = inl refl
  assigned_more n m l level t b (Some (Faults f)) o' h = inr (ap (assigned units m level t b) (sym (h (Faults f) refl)))
  assigned_more n m l level t b (Some (Is v)) o' h = elim (equated_more n m l level t (term_of v) b) [
    | inl e ↦ inl e
    | inr e ↦ inr (e ∙ ap (assigned units m level t b) (sym (h (Is v) refl)))
  ]

  compared_more : (c : ℕ) (b : Branch) (o o' r r' : Option Outcome) → Below o o' → Below r r' → Shorter (compared c b o r) (compared c b o' r')
  unfolding Shorter
  compared_more c b None o' r r' h k = inl refl
  compared_more c b (Some (Faults f)) o' r r' h k = inr (ap (λ z. compared c b z r') (sym (h (Faults f) refl)))
  compared_more c b (Some (Is (Bytes s))) o' r r' h k = inr (ap (λ z. compared c b z r') (sym (h (Is (Bytes s)) refl)))
  compared_more c b (Some (Is (Number x))) o' None r' h k = inl refl
  compared_more c b (Some (Is (Number x))) o' (Some y) r' h k = inr (ap (compared c b (Some (Is (Number x)))) (sym (k y refl)) ∙ ap (λ z. compared c b z r') (sym (h (Is (Number x)) refl)))

  tries_more : (P : List Clause) (e : Entry) (b : Branch) (mark : ℕ) (o o' : Option Term) → Below o o' → Shorter (tries P e b mark o) (tries P e b mark o')
  unfolding Shorter
  tries_more P e b mark None o' h = inl refl
  tries_more P e b mark (Some t) o' h = inr (ap (tries P e b mark) (sym (h t refl)))

  candidates_more : (n m : ℕ) → n ≤ m → (P : List Clause) (t : Term) (e : Entry) (b : Branch) (mark : ℕ) → Shorter (tries P e b mark (goal_looked n t)) (tries P e b mark (goal_looked m t))
  candidates_more n m l P t e b mark = tries_more P e b mark (goal_looked n t) (goal_looked m t) (looked_more n m l t)

  tried_more : (n m : ℕ) → n ≤ m → (k : ℕ) (vs : List Ty) (h : Term) (body : Goals) (t : Term) (e : Entry) (b : Branch) (mark : ℕ) (σ : ℕ → Term) → Shorter (tried units n k vs h body t e b mark σ) (tried units m k vs h body t e b mark σ)
  tried_more n m l k vs h body t e b mark σ =
      let ps = pairs_of σ e.level [] (arguments h) (arguments t) in
      let types = type_pairs (head_of t) (head_of h) in
      follow_more (record {
        next = b.next + length vs;
        next_type = b.next_type + k;
        goals = entries (goal_list (instantiate_goals σ body)) e.assumed e.written e.level mark ++ b.goals;
        types = b.types;
        values = b.values;
        pairs = b.pairs;
      }) (solve n units types ps b.pairs (b.next + length vs)) (solve m units types ps b.pairs (b.next + length vs)) (solve_more n m l units types ps b.pairs (b.next + length vs))

  try_more : (n m : ℕ) → n ≤ m → (c : Clause) (t : Term) (e : Entry) (b : Branch) (mark : ℕ) → Shorter (try_clause units n c t e b mark) (try_clause units m c t e b mark)
  try_more n m l (clause k vs h body) t e b mark =
      let h' = instance_term (renewed k b.next_type) h in
      tried_more n m l k vs h' (type_goals (renewed k b.next_type) body) t e b mark (slotted (slots_of [] (arguments h') (arguments t)) b.next e.level)

  shorter_if : (c : Bool) (x x' y y' : List Task) → Shorter x x' → Shorter y y' → Shorter (if c then x else y) (if c then x' else y')
  shorter_if true x x' y y' p q = p
  shorter_if false x x' y y' p q = q

  constant_more : (n m : ℕ) → n ≤ m → (P : List Clause) (height : ℕ) (e : Entry) (b : Branch) (t : Term) (c : ℕ) (ts : List Term) → Shorter (look_constant units n P height e b t c ts) (look_constant units m P height e b t c ts)
  constant_more n m l P height e b t c [] = candidates_more n m l P t e b height
  constant_more n m l P height e b t c (x ∷ []) = candidates_more n m l P t e b height
  constant_more n m l P height e b t c (x ∷ y ∷ z ∷ ts) = candidates_more n m l P t e b height
  constant_more n m l P height e b t c (x ∷ y ∷ []) =
      shorter_if (nat_eq c 8) _ _ _ _ (equated_more n m l e.level x y b) (shorter_if (nat_eq c 9) _ _ _ _
      (assigned_more n m l e.level x b (evaluate n y) (evaluate m y) (evaluate_more n m l y))
      (shorter_if (nat_le 10 c && nat_le c 13) _ _ _ _ (compared_more c b (evaluate n x) (evaluate m x) (evaluate n y) (evaluate m y)
      (evaluate_more n m l x) (evaluate_more n m l y)) (candidates_more n m l P t e b height)))

  -- looks: the same, or the lack of steps, at once or behind the step of an atomic goal

  takes_more : (name : GoalName) (ts us : List Task) → Shorter ts us → Looks (Takes name ts) (Takes name us)
  unfolding Shorter
  takes_more name ts us (inl e) = takes_dead name Lack [] us refl (ap (Takes name) e) refl
  takes_more name ts us (inr e) = same_look (ap (Takes name) e)

  opens_more : (ts us : List Task) → Shorter ts us → Looks (Opens ts) (Opens us)
  unfolding Shorter
  opens_more ts us (inl e) = opens_dead Lack [] refl (ap Opens e)
  opens_more ts us (inr e) = same_look (ap Opens e)

  atom_more : (n m : ℕ) → n ≤ m → (P : List Clause) (height : ℕ) (e : Entry) (b : Branch) (t h : Term) → Looks (look_atom units n P height e b t h) (look_atom units m P height e b t h)
  atom_more n m l P height e b t (atom (constant c ts)) = takes_more _ _ _ (constant_more n m l P height e b t c (arguments t))
  atom_more n m l P height e b t (atom (eigen k)) = takes_more _ _ _ (candidates_more n m l P t e b height)
  atom_more n m l P height e b t (atom (logic x j)) = same_look refl
  atom_more n m l P height e b t (atom (integer z)) = same_look refl
  atom_more n m l P height e b t (atom (text s)) = same_look refl
  atom_more n m l P height e b t (atom (param k u)) = same_look refl
  atom_more n m l P height e b t (index i) = same_look refl
  atom_more n m l P height e b t (abs u) = same_look refl
  atom_more n m l P height e b t (app f u) = same_look refl

  form_more : (n m : ℕ) → n ≤ m → (P : List Clause) (height : ℕ) (e : Entry) (b : Branch) (t : Term) (f : Connective) → Looks (look_form units n P height e b t f) (look_form units m P height e b t f)
  form_more n m l P height e b t connective.True = same_look refl
  form_more n m l P height e b t connective.Cut = same_look refl
  form_more n m l P height e b t (connective.And x y) = same_look refl
  form_more n m l P height e b t (connective.Or x y) = same_look refl
  form_more n m l P height e b t (connective.Implies x y) = same_look refl
  form_more n m l P height e b t (connective.ForAll T x) = same_look refl
  form_more n m l P height e b t (connective.Exists T x) = same_look refl
  form_more n m l P height e b t (connective.Not g) = same_look refl
  form_more n m l P height e b t connective.Atomic = atom_more n m l P height e b t (head_of t)

  normal_more : (n m : ℕ) → n ≤ m → (P : List Clause) (height : ℕ) (e : Entry) (b : Branch) (o o' : Option Term) → Below o o' → Looks (look_normal units n P height e b o) (look_normal units m P height e b o')
  normal_more n m l P height e b None o' h = lacks refl
  normal_more n m l P height e b (Some t) o' h = subst (λ z. Looks (look_normal units n P height e b (Some t)) (look_normal units m P height e b z)) (sym (h t refl)) (form_more n m l P height e b t (connective_of t))

  goal_more : (n m : ℕ) → n ≤ m → (P : List Clause) (height : ℕ) (e : Entry) (b : Branch) (g : Goal) → Looks (look_goal units n P height e b g) (look_goal units m P height e b g)
  goal_more n m l P height e b (Atomic t) = normal_more n m l P height e b (head_normal n t) (head_normal m t) (head_normal_more n m l t)
  goal_more n m l P height e b Cut = same_look refl
  goal_more n m l P height e b (Either x y) = same_look refl
  goal_more n m l P height e b (Exists T x) = same_look refl
  goal_more n m l P height e b (Forall T x) = same_look refl
  goal_more n m l P height e b (Assume ws cs x) = same_look refl
  goal_more n m l P height e b (Not ws x) = not_more n m l P height e b x (has_variables n (both_written ws e.written)) (has_variables m (both_written ws e.written)) (variables_more n m l (both_written ws e.written))

  branch_more : (n m : ℕ) → n ≤ m → (P : List Clause) (height : ℕ) (b : Branch) (es : List Entry) → Looks (look_branch units n P height b es) (look_branch units m P height b es)
  branch_more n m l P height b [] = same_look refl
  branch_more n m l P height b (e ∷ es) = goal_more n m l P height e (with_goals b es) e.goal

  pub look_more : (n m : ℕ) → n ≤ m → (P : List Clause) (height : ℕ) (t : Task) → Looks (look units n P height t) (look units m P height t)
  look_more n m l P height (Go b) = branch_more n m l P height b b.goals
  look_more n m l P height (Try c t e b mark) = opens_more _ _ (try_more n m l c t e b mark)
  look_more n m l P height (Stop x) = same_look refl
  look_more n m l P height Lack = same_look refl

  -- a run that is over is the same with more steps for each look, more moves in each search of a negated goal, and more moves
  pub more_steps_same : (n m : ℕ) → n ≤ m → (P : List Clause) (j k i l : ℕ) → j ≤ k → i ≤ l → (s : State Task) (e : Ending) → (run (look units n P) j i s).ending ≡ Some e → run (look units m P) k l s ≡ run (look units n P) j i s
  more_steps_same n m h P j k i l jk il s e r =
      let q = run_same (look units n P) (look units m P) IsLacking (λ height t d. ap (look units n P height) d) (λ height t. look_more n m h P height t) j i s e r in
      stays_over (look units m P) j k i l jk il s e (ap (λ (t : Told Answer). t.ending) q ∙ r) ∙ q
