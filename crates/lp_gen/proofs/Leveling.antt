-- How many variables are around the goals of a plan, and that a record that fits is not refused.
use Rattle.std.proofs.Common.{◌≡◌, ◌∙◌, ◌≤◌, ◌<◌, ℕ, zero, suc, ◌+◌, ◌-◌, ◌*◌, List, [], ◌∷◌, ◌++◌, All, append_assoc, length, Bor, Vec, Global, Some, ap, refl, sym, subst, arith, ⊎_elim}
use Rattle.std.specs.Prelude.{slice_get}
use Rattle.std.proofs.lemmas.List.Elements.{All-nil, All-cons, All-append, All-head, All-tail}
use Rattle.lp_term.specs.Nodes.{Nodes, tree, type_tree}
use Rattle.lp_term.specs.declared.node.TermId.{TermId}
use Rattle.lp_term.specs.declared.node.TypeId.{TypeId}
use Rattle.lp_model.specs.declared.clause.Goal as code
use Rattle.lp_model.specs.declared.clause.Goal.{Goal}
use Rattle.lp_model.specs.declared.clause.Clause.{Clause}
use Rattle.lp_model.specs.Flat.{Goal as FlatGoal, Atomic, Cut, Either, Exists, Forall, clauses}
use Rattle.lp_model.specs.Flattened.{goal_of, goals_of, clauses_of}
use Rattle.lp_base.specs.declared.limit.Limit.TheVariants as limit
use Rattle.lp_gen.specs.declared.fault.GenRefusal.TheVariants as told
use Rattle.lp_gen.specs.inner.Limiting.{IsOfPlan}
use Rattle.lp_gen.specs.declared.fault.RecordRefusal.{RecordRefusal}
use Rattle.lp_gen.specs.declared.fault.RecordRefusal.TheVariants as refusal
use Rattle.lp_gen.specs.declared.plan.Assumption.{Assumption}
use Rattle.lp_gen.specs.declared.plan.Due.{Due}
use Rattle.lp_gen.specs.declared.plan.Step.{Step}
use Rattle.lp_gen.specs.declared.plan.Task.{Task}
use Rattle.lp_gen.specs.declared.plan.Task.TheVariants as task
use Rattle.lp_gen.specs.declared.plan.Origin.{Origin}
use Rattle.lp_gen.specs.declared.plan.Origin.TheVariants as origin
use Rattle.lp_gen.specs.inner.Planning.{AreDue, IsAssumed, Todo, due_goals, due_end, todo_of, todos, body_of}
use Rattle.lp_gen.specs.inner.Recorded.{own_count}
use Rattle.lp_gen.specs.inner.Variables.{goal_binds, goals_bind, GoalFits, GoalsFit, ClausesFit, OriginFits, DueFits, todo_binds, TodoFits, AllLow, IsLeveled, StaysLeveled, Spreads, HasSpread, AreLow, IsFull, of_record}
use Rattle.lp_lemmas.proofs.Options.{one_value}
use Rattle.lp_gen.proofs.PlanWalked.{get_both}
use Rattle.lp_gen.proofs.PlanDone.{todos_push}
use Rattle.lp_gen.proofs.TypeWorks.{map_length}
use Rattle.lp_gen.proofs.Tops.{atom_is, cut_is, either_is, some_is, all_is, assume_is, not_is, clause_is}

-- an element of a list of which this holds
at_element : {A : Type 0} (P : A → Type 0) (xs : List A) (i : ℕ) (x : A) → slice_get xs i ≡ Some x → All P xs → P x
at_element P [] i x e h = absurd (cc)
at_element P (y ∷ xs) zero x e h = subst P (one_value (Some y) y x refl e) (All-head P y xs h)
at_element P (y ∷ xs) (suc i) x e h = at_element P xs i x e (All-tail P y xs h)

pub low_more : (m n : ℕ) (ts : List Todo) → m ≤ n → AllLow m ts → AllLow n ts
low_more m n [] le h = tt
low_more m n (due_goals gs ∷ ts) le h = low_more m n ts le h
low_more m n (due_end s l ∷ ts) le h = let x = h.0 in (omega (arith, x, le), low_more m n ts le h.1)

module _ (b : Nodes) where
  -- a goal gives way to what is to do for it, under `k` variables more
  gives_way : (n l l' k : ℕ) (F : FlatGoal) (g : Goal) (ts ts' : List Todo) → goal_of b g ≡ F → l' ≤ n + 65535 → l' ≡ l + k → ((m : ℕ) → AllLow m ts → l ≤ m → AllLow m ts') →
      k + todo_binds b ts' ≡ goal_binds F + todo_binds b ts → StaysLeveled b n l l' (due_goals (g ∷ []) ∷ ts) ts'
  gives_way n l l' k F g ts ts' is le more low binds top total s =
      let x = s.near in
      let y = s.level_met in
      let z = s.rest in
      let e : goal_binds (goal_of b g) ≡ goal_binds F = ap goal_binds is in record {
        near = le;
        ends_near = low (n + 65535) s.ends_near x;
        met = s.met + k;
        level_met = omega (arith, more, y);
        ends_met = low_more (top + s.met) (top + (s.met + k)) ts' (omega arith) (low (top + s.met) s.ends_met y);
        rest = omega (arith, binds, z, e);
      }

  -- a record that fits has room for a variable that stands in it
  pub full_under : (n l : ℕ) (g : Goal) (ts : List Todo) (r : RecordRefusal) → 1 ≤ goal_binds (goal_of b g) → (n ≤ 4294836225 → l + 1 ≤ n + 65535 → r ≡ refusal.Memory) →
      IsFull b n l (due_goals (g ∷ []) ∷ ts) r
  full_under n l g ts r one f top total s few low =
      let x = s.level_met in
      let y = s.rest in
      f low (omega (arith, one, x, y, few))

  pub some_one : (T : TypeId) (list : Vec Goal Global) (g : Goal) → g ≡ code.Some T list → 1 ≤ goal_binds (goal_of b g)
  some_one T list g is = let e = ap goal_binds (ap (goal_of b) is ∙ some_is b T list) in omega (arith, e)

  pub all_one : (T : TypeId) (list : Vec Goal Global) (g : Goal) → g ≡ code.All T list → 1 ≤ goal_binds (goal_of b g)
  all_one T list g is = let e = ap goal_binds (ap (goal_of b) is ∙ all_is b T list) in omega (arith, e)

  -- goals by their tops

  pub atom_leveled : (n l l' : ℕ) (g : Goal) (t : TermId) (ts ts' : List Todo) → g ≡ code.Atom t → l' ≡ l → ts' ≡ ts → StaysLeveled b n l l' (due_goals (g ∷ []) ∷ ts) ts'
  atom_leveled n l l' g t ts ts' is v e top total s =
      let x = s.near in
      subst (λ k. IsLeveled b n top total l' k) (sym e)
      (gives_way n l l' 0 (Atomic (tree b t.0)) g ts ts (ap (goal_of b) is ∙ atom_is b t) (omega (arith, x, v)) (omega (arith, v)) (λ m h le. h) refl top total s)

  pub cut_leveled : (n l l' : ℕ) (g : Goal) (ts ts' : List Todo) → g ≡ code.Cut → l' ≡ l → ts' ≡ ts → StaysLeveled b n l l' (due_goals (g ∷ []) ∷ ts) ts'
  cut_leveled n l l' g ts ts' is v e top total s =
      let x = s.near in
      subst (λ k. IsLeveled b n top total l' k) (sym e) (gives_way n l l' 0 Cut g ts ts (ap (goal_of b) is ∙ cut_is b) (omega (arith, x, v)) (omega (arith, v)) (λ m h le. h) refl top total s)

  pub either_leveled : (n l l' : ℕ) (g : Goal) (left right : Vec Goal Global) (ls rs : List Goal) (s1 s2 : Step) (ts ts' : List Todo) → g ≡ code.Either left right → ls ≡ left.items → rs ≡ right.items →
      l' ≡ l → ts' ≡ due_goals ls ∷ due_end s1 l ∷ due_goals rs ∷ due_end s2 l ∷ ts → StaysLeveled b n l l' (due_goals (g ∷ []) ∷ ts) ts'
  either_leveled n l l' g left right ls rs s1 s2 ts ts' is a c v e top total s =
      let x = s.near in
      let p = ap (λ k. goals_bind (goals_of b k)) a in
      let q = ap (λ k. goals_bind (goals_of b k)) c in
      subst (λ k. IsLeveled b n top total l' k) (sym e)
      (gives_way n l l' 0 (Either (goals_of b left.items) (goals_of b right.items)) g ts (due_goals ls ∷ due_end s1 l ∷ due_goals rs ∷ due_end s2 l ∷ ts) (ap (goal_of b) is ∙ either_is b left right)
      (omega (arith, x, v)) (omega (arith, v)) (λ m h le. (le, (le, h))) (omega (arith, p, q)) top total s)

  pub some_leveled : (n l l' : ℕ) (g : Goal) (T : TypeId) (list : Vec Goal Global) (ls : List Goal) (ts ts' : List Todo) → g ≡ code.Some T list → ls ≡ list.items → l' ≤ n + 65535 → l' ≡ l + 1 →
      ts' ≡ due_goals ls ∷ ts → StaysLeveled b n l l' (due_goals (g ∷ []) ∷ ts) ts'
  some_leveled n l l' g T list ls ts ts' is a near v e top total s =
      let p = ap (λ k. goals_bind (goals_of b k)) a in
      subst (λ k. IsLeveled b n top total l' k) (sym e)
      (gives_way n l l' 1 (Exists (type_tree b T.0) (goals_of b list.items)) g ts (due_goals ls ∷ ts) (ap (goal_of b) is ∙ some_is b T list) near v (λ m h le. h)
      (omega (arith, p)) top total s)

  pub all_leveled : (n l l' : ℕ) (g : Goal) (T : TypeId) (list : Vec Goal Global) (ls : List Goal) (s1 : Step) (ts ts' : List Todo) → g ≡ code.All T list → ls ≡ list.items → l' ≤ n + 65535 → l' ≡ l + 1 →
      ts' ≡ due_goals ls ∷ due_end s1 l ∷ ts → StaysLeveled b n l l' (due_goals (g ∷ []) ∷ ts) ts'
  all_leveled n l l' g T list ls s1 ts ts' is a near v e top total s =
      let p = ap (λ k. goals_bind (goals_of b k)) a in
      subst (λ k. IsLeveled b n top total l' k) (sym e)
      (gives_way n l l' 1 (Forall (type_tree b T.0) (goals_of b list.items)) g ts (due_goals ls ∷ due_end s1 l ∷ ts) (ap (goal_of b) is ∙ all_is b T list) near v (λ m h le. (le, h))
      (omega (arith, p)) top total s)

  pub assume_leveled : (n l l' : ℕ) (g : Goal) (cs : Vec Clause Global) (list : Vec Goal Global) (ls : List Goal) (s1 : Step) (ts ts' : List Todo) → g ≡ code.Assume cs list → ls ≡ list.items →
      l' ≡ l → ts' ≡ due_goals ls ∷ due_end s1 l ∷ ts → StaysLeveled b n l l' (due_goals (g ∷ []) ∷ ts) ts'
  assume_leveled n l l' g cs list ls s1 ts ts' is a v e top total s =
      let x = s.near in
      let p = ap (λ k. goals_bind (goals_of b k)) a in
      let r = ap goal_binds (assume_is b cs list) in
      subst (λ k. IsLeveled b n top total l' k) (sym e)
      (gives_way n l l' 0 (goal_of b (code.Assume cs list)) g ts (due_goals ls ∷ due_end s1 l ∷ ts) (ap (goal_of b) is) (omega (arith, x, v)) (omega (arith, v)) (λ m h le. (le, h))
      (omega (arith, p, r)) top total s)

  pub not_leveled : (n l l' : ℕ) (g : Goal) (list : Vec Goal Global) (ls : List Goal) (s1 : Step) (ts ts' : List Todo) → g ≡ code.Not list → ls ≡ list.items →
      l' ≡ l → ts' ≡ due_goals ls ∷ due_end s1 l ∷ ts → StaysLeveled b n l l' (due_goals (g ∷ []) ∷ ts) ts'
  not_leveled n l l' g list ls s1 ts ts' is a v e top total s =
      let x = s.near in
      let p = ap (λ k. goals_bind (goals_of b k)) a in
      let r = ap goal_binds (not_is b list) in
      subst (λ k. IsLeveled b n top total l' k) (sym e)
      (gives_way n l l' 0 (goal_of b (code.Not list)) g ts (due_goals ls ∷ due_end s1 l ∷ ts) (ap (goal_of b) is) (omega (arith, x, v)) (omega (arith, v)) (λ m h le. (le, h))
      (omega (arith, p, r)) top total s)

  -- and what fits

  none_due : (l : ℕ) (us us' : List Due) (ts ts' : List Todo) → us' ≡ us → (TodoFits b ts → TodoFits b ts') → Spreads b l us us' ts ts'
  none_due l us us' ts ts' e f = record { more = []; due_are = e ∙ sym (append_nil us); low = All-nil (λ u. u.base ≤ l); fit = λ h. (f h, All-nil (DueFits b)) }
    where
      append_nil : (xs : List Due) → xs ++ [] ≡ xs
      append_nil [] = refl
      append_nil (x ∷ xs) = ap (λ l. x ∷ l) (append_nil xs)

  goal_fits : (g : Goal) (F : FlatGoal) (ts : List Todo) → goal_of b g ≡ F → TodoFits b (due_goals (g ∷ []) ∷ ts) → GoalFits F × TodoFits b ts
  goal_fits g F ts is h = (subst GoalFits is h.0.0, h.1)

  pub atom_spreads : (l : ℕ) (us us' : List Due) (g : Goal) (ts ts' : List Todo) → us' ≡ us → ts' ≡ ts → Spreads b l us us' (due_goals (g ∷ []) ∷ ts) ts'
  atom_spreads l us us' g ts ts' u e = none_due l us us' (due_goals (g ∷ []) ∷ ts) ts' u (λ h. subst (TodoFits b) (sym e) h.1)

  pub either_spreads : (l : ℕ) (us us' : List Due) (g : Goal) (left right : Vec Goal Global) (ls rs : List Goal) (s1 s2 : Step) (ts ts' : List Todo) → us' ≡ us → g ≡ code.Either left right →
      ls ≡ left.items → rs ≡ right.items → ts' ≡ due_goals ls ∷ due_end s1 l ∷ due_goals rs ∷ due_end s2 l ∷ ts → Spreads b l us us' (due_goals (g ∷ []) ∷ ts) ts'
  either_spreads l us us' g left right ls rs s1 s2 ts ts' u is a c e =
      none_due l us us' (due_goals (g ∷ []) ∷ ts) ts' u (λ h.
      let x = goal_fits g (Either (goals_of b left.items) (goals_of b right.items)) ts (ap (goal_of b) is ∙ either_is b left right) h in
      subst (TodoFits b) (sym e) (subst (λ k. GoalsFit (goals_of b k)) (sym a) x.0.0, (subst (λ k. GoalsFit (goals_of b k)) (sym c) x.0.1, x.1)))

  pub some_spreads : (l : ℕ) (us us' : List Due) (g : Goal) (T : TypeId) (list : Vec Goal Global) (ls : List Goal) (ts ts' : List Todo) → us' ≡ us → g ≡ code.Some T list → ls ≡ list.items →
      ts' ≡ due_goals ls ∷ ts → Spreads b l us us' (due_goals (g ∷ []) ∷ ts) ts'
  some_spreads l us us' g T list ls ts ts' u is a e =
      none_due l us us' (due_goals (g ∷ []) ∷ ts) ts' u (λ h.
      let x = goal_fits g (Exists (type_tree b T.0) (goals_of b list.items)) ts (ap (goal_of b) is ∙ some_is b T list) h in
      subst (TodoFits b) (sym e) (subst (λ k. GoalsFit (goals_of b k)) (sym a) x.0, x.1))

  pub all_spreads : (l : ℕ) (us us' : List Due) (g : Goal) (T : TypeId) (list : Vec Goal Global) (ls : List Goal) (s1 : Step) (ts ts' : List Todo) → us' ≡ us → g ≡ code.All T list → ls ≡ list.items →
      ts' ≡ due_goals ls ∷ due_end s1 l ∷ ts → Spreads b l us us' (due_goals (g ∷ []) ∷ ts) ts'
  all_spreads l us us' g T list ls s1 ts ts' u is a e =
      none_due l us us' (due_goals (g ∷ []) ∷ ts) ts' u (λ h.
      let x = goal_fits g (Forall (type_tree b T.0) (goals_of b list.items)) ts (ap (goal_of b) is ∙ all_is b T list) h in
      subst (TodoFits b) (sym e) (subst (λ k. GoalsFit (goals_of b k)) (sym a) x.0, x.1))

  pub not_spreads : (l : ℕ) (us us' : List Due) (g : Goal) (list : Vec Goal Global) (ls : List Goal) (s1 : Step) (ts ts' : List Todo) → us' ≡ us → g ≡ code.Not list → ls ≡ list.items →
      ts' ≡ due_goals ls ∷ due_end s1 l ∷ ts → Spreads b l us us' (due_goals (g ∷ []) ∷ ts) ts'
  not_spreads l us us' g list ls s1 ts ts' u is a e =
      none_due l us us' (due_goals (g ∷ []) ∷ ts) ts' u (λ h.
      let x = subst GoalFits (not_is b list) (goal_fits g (goal_of b (code.Not list)) ts (ap (goal_of b) is) h).0 in
      subst (TodoFits b) (sym e) (subst (λ k. GoalsFit (goals_of b k)) (sym a) x, h.1))

  -- the clauses of an assumption

  due_low : (n d : ℕ) (cs : List Clause) (us : List Due) → AreDue n d cs us → All (λ u. u.base ≤ d) us
  due_low n d [] us h = subst (λ l. All (λ u. u.base ≤ d) l) (sym h) (All-nil (λ u. u.base ≤ d))
  due_low n d (c ∷ cs) [] h = absurd h
  due_low n d (c ∷ cs) (u ∷ us) h = let x = h.0.4 in All-cons (λ (u : Due). u.base ≤ d) u us (omega (arith, x)) (due_low n d cs us h.1)

  due_fit : (n d : ℕ) (cs : List Clause) (us : List Due) → AreDue n d cs us → ClausesFit (clauses_of b cs) → All (DueFits b) us
  due_fit n d [] us h f = subst (λ l. All (DueFits b) l) (sym h) (All-nil (DueFits b))
  due_fit n d (c ∷ cs) [] h f = absurd h
  due_fit n d (c ∷ cs) (u ∷ us) h f =
      let many = map_length (λ (T : TypeId). type_tree b T.0) c.vars.items in
      let x = subst (λ F. ClausesFit (clauses F (clauses_of b cs))) (clause_is b c) f in
      let le = x.0 in
      let here : OriginFits b (origin.Clause h.0.0) =
      subst (λ (k : Clause). (length k.vars.items + goals_bind (goals_of b k.body.items) ≤ 65535) × GoalsFit (goals_of b k.body.items)) (sym h.0.1) (omega (arith, le, many), x.1) in
      All-cons (DueFits b) u us (subst (OriginFits b) (sym h.0.2) here) (due_fit n d cs us h.1 x.2)

  pub assume_spreads : (l : ℕ) (us us' us2 : List Due) (xs xs' : List Assumption) (n : ℕ) (g : Goal) (cs : Vec Clause Global) (list : Vec Goal Global) (ds : List Clause) (ls : List Goal) (s1 : Step)
      (ts ts' : List Todo) → us2 ≡ us' → g ≡ code.Assume cs list → ds ≡ cs.items → ls ≡ list.items → IsAssumed us us' xs xs' ds l n → ts' ≡ due_goals ls ∷ due_end s1 l ∷ ts →
      Spreads b l us us2 (due_goals (g ∷ []) ∷ ts) ts'
  assume_spreads l us us' us2 xs xs' n g cs list ds ls s1 ts ts' v is are a made e =
      let m = made.3 in record {
        more = m.more;
        due_are = v ∙ m.due_are;
        low = due_low (length xs) l ds m.more m.members;
        fit = λ h.
            let x = subst GoalFits (assume_is b cs list) (goal_fits g (goal_of b (code.Assume cs list)) ts (ap (goal_of b) is) h).0 in (
              subst (TodoFits b) (sym e) (subst (λ k. GoalsFit (goals_of b k)) (sym a) x.1, h.1),
              due_fit (length xs) l ds m.more m.members (subst (λ k. ClausesFit (clauses_of b k)) (sym are) x.0),
            );
      }

  -- tasks

  first_binds : (g : Goal) (gs : List Goal) → goals_bind (goals_of b (g ∷ gs)) ≡ goals_bind (goals_of b (g ∷ [])) + goals_bind (goals_of b gs)
  first_binds g gs = omega arith

  pub no_goal_leveled : (n l : ℕ) (t : Task) (gs : Bor (List Goal)) (ts : List Todo) → t ≡ task.Goals gs → gs.now ≡ [] → StaysLeveled b n l l (todo_of t ∷ ts) ts
  no_goal_leveled n l t gs ts e f top total s =
      let z : IsLeveled b n top total l (due_goals [] ∷ ts) = subst (λ k. IsLeveled b n top total l (due_goals k ∷ ts)) f (subst (λ (u : Task). IsLeveled b n top total l (todo_of u ∷ ts)) e s) in
      let r = z.rest in
      record { near = z.near; ends_near = z.ends_near; met = z.met; level_met = z.level_met; ends_met = z.ends_met; rest = omega (arith, r) }

  split_level : (n l : ℕ) (t : Task) (gs rest : Bor (List Goal)) (g : Goal) (old mid : List Task) → t ≡ task.Goals gs → gs.now ≡ g ∷ rest.now → mid ≡ old ++ task.Goals rest ∷ [] →
      StaysLeveled b n l l (todo_of t ∷ todos old) (due_goals (g ∷ []) ∷ todos mid)
  split_level n l t gs rest g old mid e f m top total s =
      let z : IsLeveled b n top total l (due_goals (g ∷ rest.now) ∷ todos old) =
      subst (λ k. IsLeveled b n top total l (due_goals k ∷ todos old)) f (subst (λ (u : Task). IsLeveled b n top total l (todo_of u ∷ todos old)) e s) in
      let r = z.rest in
      subst (λ k. IsLeveled b n top total l (due_goals (g ∷ []) ∷ k)) (sym (todos_push old mid (task.Goals rest) m))
      (record { near = z.near; ends_near = z.ends_near; met = z.met; level_met = z.level_met; ends_met = z.ends_met; rest = omega (arith, r) })

  pub first_leveled : (n n' l l' : ℕ) (t : Task) (gs rest : Bor (List Goal)) (g : Goal) (old mid : List Task) (ts' : List Todo) → t ≡ task.Goals gs → gs.now ≡ g ∷ rest.now →
      mid ≡ old ++ task.Goals rest ∷ [] → StaysLeveled b n l l' (due_goals (g ∷ []) ∷ todos mid) ts' → StaysLeveled b n l l' (todo_of t ∷ todos old) ts'
  first_leveled n n' l l' t gs rest g old mid ts' e f m w top total s = w top total (split_level n l t gs rest g old mid e f m top total s)

  pub first_full : (n l : ℕ) (t : Task) (gs rest : Bor (List Goal)) (g : Goal) (old mid : List Task) (r : RecordRefusal) → t ≡ task.Goals gs → gs.now ≡ g ∷ rest.now →
      mid ≡ old ++ task.Goals rest ∷ [] → IsFull b n l (due_goals (g ∷ []) ∷ todos mid) r → IsFull b n l (todo_of t ∷ todos old) r
  first_full n l t gs rest g old mid r e f m w top total s = w top total (split_level n l t gs rest g old mid e f m top total s)

  pub first_spreads : (l : ℕ) (us us' : List Due) (t : Task) (gs rest : Bor (List Goal)) (g : Goal) (old mid : List Task) (ts' : List Todo) → t ≡ task.Goals gs → gs.now ≡ g ∷ rest.now →
      mid ≡ old ++ task.Goals rest ∷ [] → Spreads b l us us' (due_goals (g ∷ []) ∷ todos mid) ts' → Spreads b l us us' (todo_of t ∷ todos old) ts'
  first_spreads l us us' t gs rest g old mid ts' e f m w = record {
    more = w.more;
    due_are = w.due_are;
    low = w.low;
    fit = λ h.
        let z : TodoFits b (due_goals (g ∷ rest.now) ∷ todos old) = subst (λ k. TodoFits b (due_goals k ∷ todos old)) f (subst (λ (u : Task). TodoFits b (todo_of u ∷ todos old)) e h) in
        w.fit ((z.0.0, tt), subst (TodoFits b) (sym (todos_push old mid (task.Goals rest) m)) (z.0.1, z.1));
  }

  pub no_goal_spreads : (l : ℕ) (us : List Due) (t : Task) (gs : Bor (List Goal)) (ts : List Todo) → t ≡ task.Goals gs → Spreads b l us us (todo_of t ∷ ts) ts
  no_goal_spreads l us t gs ts e = none_due l us us (todo_of t ∷ ts) ts refl (λ h. (subst (λ (u : Task). TodoFits b (todo_of u ∷ ts)) e h).1)

  pub end_leveled : (n l k : ℕ) (t : Task) (s1 : Step) (ts : List Todo) → t ≡ task.End s1 k → StaysLeveled b n l k (todo_of t ∷ ts) ts
  end_leveled n l k t s1 ts e top total s =
      let z : IsLeveled b n top total l (due_end s1 k ∷ ts) = subst (λ (u : Task). IsLeveled b n top total l (todo_of u ∷ ts)) e s in
      record { near = z.ends_near.0; ends_near = z.ends_near.1; met = z.met; level_met = z.ends_met.0; ends_met = z.ends_met.1; rest = z.rest }

  pub end_spreads : (l k : ℕ) (us : List Due) (t : Task) (s1 : Step) (ts : List Todo) → t ≡ task.End s1 k → Spreads b l us us (todo_of t ∷ ts) ts
  end_spreads l k us t s1 ts e = none_due l us us (todo_of t ∷ ts) ts refl (λ h. subst (λ (u : Task). TodoFits b (todo_of u ∷ ts)) e h)

  -- the walk over the goals of a part

  pub walk_leveled : (n d : ℕ) (o : Origin) (none all : List Task) (gs : Bor (List Goal)) → d ≡ n + own_count o → d ≤ n + 65535 → none ≡ [] → all ≡ none ++ task.Goals gs ∷ [] → gs.now ≡ body_of o →
      IsLeveled b n (n + own_count o) (goals_bind (goals_of b (body_of o))) d (todos all)
  walk_leveled n d o none all gs v near f g h =
      let z : todos all ≡ due_goals (body_of o) ∷ [] = todos_push none all (task.Goals gs) g ∙ (λ i. due_goals (h i) ∷ todos (f i)) in
      subst (λ k. IsLeveled b n (n + own_count o) (goals_bind (goals_of b (body_of o))) d k) (sym z) (record { near = near; ends_near = tt; met = 0; level_met = omega (arith, v); ends_met = tt; rest = omega arith })

  pub walk_fits : (o : Origin) (none all : List Task) (gs : Bor (List Goal)) → none ≡ [] → all ≡ none ++ task.Goals gs ∷ [] → gs.now ≡ body_of o → OriginFits b o → TodoFits b (todos all)
  walk_fits o none all gs f g h x =
      let z : todos all ≡ due_goals (body_of o) ∷ [] = todos_push none all (task.Goals gs) g ∙ (λ i. due_goals (h i) ∷ todos (f i)) in
      subst (TodoFits b) (sym z) (x.1, tt)

  -- parts that become due on the way
  pub spread_on : (u : Due) (us0 us us' : List Due) (l : ℕ) (ts ts' : List Todo) → HasSpread b u us0 us ts → Spreads b l us us' ts ts' → l ≤ u.base + 65535 → HasSpread b u us0 us' ts'
  spread_on u us0 us us' l ts ts' s w le = record {
    more = s.more ++ w.more;
    due_are = w.due_are ∙ ap (λ k. k ++ w.more) s.due_are ∙ append_assoc us0 s.more w.more;
    low = All-append (λ (v : Due). v.base ≤ u.base + 65535) s.more w.more s.low (lower l (u.base + 65535) w.more le w.low);
    fit = λ h. let x = s.fit h in let y = w.fit x.0 in (y.0, All-append (DueFits b) s.more w.more x.1 y.1);
  }
    where
      lower : (m n : ℕ) (us : List Due) → m ≤ n → All (λ (v : Due). v.base ≤ m) us → All (λ (v : Due). v.base ≤ n) us
      lower m n us le a k v lt = let x = a k v lt in omega (arith, x, le)

  pub spread_begins : (u : Due) (us : List Due) (ts : List Todo) → (DueFits b u → TodoFits b ts) → HasSpread b u us us ts
  spread_begins u us ts f = record { more = []; due_are = sym (append_nil us); low = All-nil (λ (v : Due). v.base ≤ u.base + 65535); fit = λ h. (f h, All-nil (DueFits b)) }
    where
      append_nil : (xs : List Due) → xs ++ [] ≡ xs
      append_nil [] = refl
      append_nil (x ∷ xs) = ap (λ l. x ∷ l) (append_nil xs)

  pub leveled_on : (n n0 top total l l' : ℕ) (old all : List Task) (t : Task) (ts' : List Todo) → all ≡ old ++ t ∷ [] → n ≡ n0 → IsLeveled b n0 top total l (todos all) →
      StaysLeveled b n l l' (todo_of t ∷ todos old) ts' → IsLeveled b n0 top total l' ts'
  leveled_on n n0 top total l l' old all t ts' e v s w =
      subst (λ k. IsLeveled b k top total l' ts') v (w top total (subst (λ k. IsLeveled b k top total l (todo_of t ∷ todos old)) (sym v) (subst (λ k. IsLeveled b n0 top total l k) (todos_push old all t e) s)))

  pub spread_task : (u : Due) (us0 us us' : List Due) (top total l : ℕ) (old all : List Task) (t : Task) (ts' : List Todo) → all ≡ old ++ t ∷ [] → IsLeveled b u.base top total l (todos all) →
      HasSpread b u us0 us (todos all) → Spreads b l us us' (todo_of t ∷ todos old) ts' → HasSpread b u us0 us' ts'
  spread_task u us0 us us' top total l old all t ts' e v s w =
      spread_on u us0 us us' l (todo_of t ∷ todos old) ts' (subst (λ k. HasSpread b u us0 us k) (todos_push old all t e) s) w v.near

  pub full_task : (n : ℕ) (u : Due) (l : ℕ) (old all : List Task) (t : Task) (r : RecordRefusal) → all ≡ old ++ t ∷ [] → n ≡ u.base → u.base ≤ 4294836225 →
      IsLeveled b u.base (u.base + own_count u.origin) (goals_bind (goals_of b (body_of u.origin))) l (todos all) → IsFull b n l (todo_of t ∷ todos old) r → DueFits b u → r ≡ refusal.Memory
  full_task n u l old all t r e v low s w fits =
      let top = u.base + own_count u.origin in
      let total = goals_bind (goals_of b (body_of u.origin)) in
      let f = fits.0 in
      w top total (subst (λ k. IsLeveled b k top total l (todo_of t ∷ todos old)) (sym v) (subst (λ k. IsLeveled b u.base top total l k) (todos_push old all t e) s)) (omega (arith, f, v)) (omega (arith, v, low))

-- the parts of a plan

pub first_low : (us : List Due) (u : Due) → us ≡ u ∷ [] → u.base ≡ 0 → AreLow us
first_low us u e z i v at = go i (ap (λ l. slice_get l i) (sym e) ∙ at)
  where
    go : (i : ℕ) → slice_get (u ∷ []) i ≡ Some v → v.base ≤ 65535 * i
    go zero s = let x = ap (λ (w : Due). w.base) (one_value (Some u) u v refl s) in omega (arith, x, z)
    go (suc i) s = absurd (cc)

pub low_behind : (us us' more : List Due) (u : Due) (i : ℕ) → AreLow us → slice_get us i ≡ Some u → i < length us → us' ≡ us ++ more → All (λ (v : Due). v.base ≤ u.base + 65535) more → AreLow us'
low_behind us us' more u i low at inside e behind j v there =
    ⊎_elim (λ f. low j v f) (λ f. late f) (get_both us more j v (ap (λ l. slice_get l j) (sym e) ∙ there))
  where
    late : (length us ≤ j) × (slice_get more (j - length us) ≡ Some v) → v.base ≤ 65535 * j
    late f =
        let x = at_element (λ (v : Due). v.base ≤ u.base + 65535) more (j - length us) v f.1 behind in
        let y = low i u at in
        let z = f.0 in
        omega (arith, x, y, z, inside)

pub first_fits : (b : Nodes) (us : List Due) (u : Due) → us ≡ u ∷ [] → OriginFits b u.origin → All (DueFits b) us
first_fits b us u e h = subst (All (DueFits b)) (sym e) (All-cons (DueFits b) u [] h (All-nil (DueFits b)))

pub more_fits : (b : Nodes) (us us' more : List Due) (u : Due) (i : ℕ) → slice_get us i ≡ Some u → us' ≡ us ++ more → (DueFits b u → All (DueFits b) more) → All (DueFits b) us → All (DueFits b) us'
more_fits b us us' more u i at e f h = subst (All (DueFits b)) (sym e) (All-append (DueFits b) us more h (f (at_element (DueFits b) us i u at h)))

-- a refusal of a record
pub of_plan : (r : RecordRefusal) (n m : ℕ) → IsOfPlan n m (of_record r)
of_plan refusal.Registers n m = tt
of_plan refusal.Memory n m = tt

no_registers : told.Memory ≡ told.Limit limit.Registers → ⊥
no_registers e = absurd (cc)

pub memory_alone : (r : RecordRefusal) (P : Type 0) → (P → r ≡ refusal.Memory) → of_record r ≡ told.Limit limit.Registers → P → ⊥
memory_alone r P f e h = no_registers (sym (ap of_record (f h)) ∙ e)
