-- What is found of a formula, part by part.
use Rattle.std.proofs.Common.{◌≡◌, ℕ, ◌+◌, ◌<◌, ◌≤◌, List, [], ◌∷◌, ◌++◌, length, Bool, true, false, true≢false, Option, refl, sym, ap, subst, ◌∙◌, arith, inl, inr}
use Rattle.std.specs.Prelude.{◌⊎◌, ◌||◌, not, nat_lt, Contains}
use Rattle.std.proofs.lemmas.List.Elements.{Contains-append_left, Contains-append_right, Contains-append_cases}
use Rattle.std.proofs.lemmas.Bool.{cases_lt}
use Rattle.lp_lemmas.proofs.Booleans.{or_false_left, or_false_right}
use Rattle.lp_lemmas.proofs.Elements.{Contains_head, Contains_single}
use Rattle.lp_calculus.specs.Typing.{Scheme}
use Rattle.lp_standard.specs.Connectives.{Connective, connective_of}
use Rattle.lp_standard.specs.Connectives as connective
use Rattle.lp_term.specs.Nodes.{Nodes, Extends, tree}
use Rattle.lp_model.specs.Connected.{connective_in}
use Rattle.lp_model.specs.declared.connective.Connective.{Connective as Code}
use Rattle.lp_module.specs.Form.{Part, below, inside, in_goal, parts_by, parts_of, IsPart, itself, deeper, is_deep, is_wide, is_in_term, is_other, HasPart}
use Rattle.lp_module.specs.declared.heads.Heads.{Heads}
use Rattle.lp_module.specs.declared.judge.Binder.{Binder}
use Rattle.lp_module.specs.declared.judge.Parts.{Parts}
use Rattle.lp_module.specs.declared.judge.Task.{Task}
use Rattle.lp_module.specs.declared.judge.Verdict.{Verdict}
use Rattle.lp_module.proofs.Owning.{is_below}
use Rattle.lp_module.specs.inner.Judging.{AreHeads, IsAround, IsTask, AreTasks, Pushes, IsOwn, AreJoined, IsCovered, IsFound, IsVerdict, Judging}

-- parts of parts
pub part_in : (p r q : Part) → IsPart p r → IsPart r q → IsPart p q
part_in p r q (itself x) h = h
part_in p r q (deeper x s y c rest) h = deeper p s q c (part_in s r q rest h)

-- a part is the whole, or stands in one of its parts
pub part_apart : (p q : Part) → IsPart p q → (p ≡ q) ⊎ ((r : Part) × Contains (parts_of p) r × IsPart r q)
part_apart p q (itself x) = inl refl
part_apart p q (deeper x r y c i) = inr (r, c, i)

-- Booleans
either : (x y : Bool) → (x || y) ≡ true → (x ≡ true) ⊎ (y ≡ true)
either true y e = inl refl
either false y e = inr e

left_true : (x y : Bool) → x ≡ true → (x || y) ≡ true
left_true true y e = refl
left_true false y e = absurd (true≢false (sym e))

right_true : (x y : Bool) → y ≡ true → (x || y) ≡ true
right_true true y e = refl
right_true false y e = e

-- what was found of the parts before, and of one part
module _ (d : ℕ → Option Scheme) (heads : Heads) (h : AreHeads d heads) (w : Part) (u v x : Verdict) (j : AreJoined u v x) where
  one_found : (p : Part) (test : Part → Bool) (a b c : Bool) → IsPart w p → (a ≡ true → HasPart test w) → b ≡ test p → c ≡ (a || b) → c ≡ true → HasPart test w
  one_found p test a b c i f is joined e = elim (either a b (sym joined ∙ e)) [ inl l ↦ f l | inr r ↦ (p, i, sym is ∙ r) ]

  pub found_more : (p : Part) → IsPart w p → IsFound d w u → IsOwn heads p v → IsFound d w x
  found_more p i f o = record {
    deep = one_found p is_deep u.deep v.deep x.deep i f.deep o.deep j.deep;
    wide = one_found p is_wide u.wide v.wide x.wide i f.wide o.wide j.wide;
    in_term = one_found p is_in_term u.in_term v.in_term x.in_term i f.in_term o.in_term j.in_term;
    other = one_found p (is_other d) u.other v.other x.other i f.other (o.other d h) j.other;
  }

  pub covered_more : (q : Part) → IsCovered d u q → IsCovered d x q
  covered_more q c = record {
    deep = λ e. j.deep ∙ left_true u.deep v.deep (c.deep e);
    wide = λ e. j.wide ∙ left_true u.wide v.wide (c.wide e);
    in_term = λ e. j.in_term ∙ left_true u.in_term v.in_term (c.in_term e);
    other = λ e. j.other ∙ left_true u.other v.other (c.other e);
  }

  pub own_covered : (p : Part) → IsOwn heads p v → IsCovered d x p
  own_covered p o = record {
    deep = λ e. j.deep ∙ right_true u.deep v.deep (o.deep ∙ e);
    wide = λ e. j.wide ∙ right_true u.wide v.wide (o.wide ∙ e);
    in_term = λ e. j.in_term ∙ right_true u.in_term v.in_term (o.in_term ∙ e);
    other = λ e. j.other ∙ right_true u.other v.other (o.other d h ∙ e);
  }

-- tasks and their parts
pub tasks_both : (b : Nodes) (bs : List Binder) (ts us : List Task) (ps qs : List Part) → AreTasks b bs ts ps → AreTasks b bs us qs → AreTasks b bs (ts ++ us) (ps ++ qs)
tasks_both b bs [] us [] qs a c = c
tasks_both b bs [] us (p ∷ ps) qs a c = absurd a
tasks_both b bs (t ∷ ts) us [] qs a c = absurd a
tasks_both b bs (t ∷ ts) us (p ∷ ps) qs a c = (a.0, tasks_both b bs ts us ps qs a.1 c)

pub task_later : (b c : Nodes) (bs cs : List Binder) (t : Task) (p : Part) → Extends b c → ((n : ℕ) (l : List Bool) → IsAround bs n l → IsAround cs n l) → IsTask b bs t p → IsTask c cs t p
task_later b c bs cs t p e more i = record {
  within = omega (arith, i.within, e.more_terms);
  goal = i.goal;
  around = more t.binder p.binders i.around;
  depth = i.depth;
  formula = e.same_terms t.formula.0 i.within ∙ i.formula;
}

pub tasks_later : (b c : Nodes) (bs cs : List Binder) (ts : List Task) (ps : List Part) → Extends b c → ((n : ℕ) (l : List Bool) → IsAround bs n l → IsAround cs n l) → AreTasks b bs ts ps → AreTasks c cs ts ps
tasks_later b c bs cs [] [] e more a = a
tasks_later b c bs cs [] (p ∷ ps) e more a = absurd a
tasks_later b c bs cs (t ∷ ts) [] e more a = absurd a
tasks_later b c bs cs (t ∷ ts) (p ∷ ps) e more a = (task_later b c bs cs t p e more a.0, tasks_later b c bs cs ts ps e more a.1)

-- the last task is one part, those before it are the others
abbrev pub Popped : Nodes → List Binder → List Task → Task → List Part → Type 0
Popped b bs ts t ps = (front : List Part) × (p : Part) × (ps ≡ front ++ p ∷ []) × AreTasks b bs ts front × IsTask b bs t p

pub popped : (b : Nodes) (bs : List Binder) (ts : List Task) (t : Task) (ps : List Part) → AreTasks b bs (ts ++ t ∷ []) ps → Popped b bs ts t ps
popped b bs [] t [] a = absurd a
popped b bs [] t (p ∷ []) a = ([], p, refl, tt, a.0)
popped b bs [] t (p ∷ q ∷ qs) a = absurd a.1
popped b bs (s ∷ ts) t [] a = absurd a
popped b bs (s ∷ ts) t (p ∷ ps) a =
    let (front, q, is, before, last) = popped b bs ts t ps a.1 in
    (p ∷ front, q, ap (λ l. p ∷ l) is, (a.0, before), last)

-- no part of a part is more than two levels below it
goal_deeper : (g : Bool) (p q : Part) (ps : List Part) → ((q : Part) → Contains ps q → q.depth ≤ p.depth + 2) → Contains (in_goal g ps) q → q.depth ≤ p.depth + 2
goal_deeper true p q ps h c = h q c
goal_deeper false p q ps h (k, l, e) = absurd (omega (arith, l))

one_deeper : (p q r : Part) → r.depth ≤ p.depth + 2 → Contains (r ∷ []) q → q.depth ≤ p.depth + 2
one_deeper p q r h c = subst (λ s. s.depth ≤ p.depth + 2) (Contains_single r q c) h

two_deeper : (p q r s : Part) → r.depth ≤ p.depth + 2 → s.depth ≤ p.depth + 2 → Contains (r ∷ s ∷ []) q → q.depth ≤ p.depth + 2
two_deeper p q r s h k c = elim (Contains-append_cases (r ∷ []) (s ∷ []) q c) [ inl x ↦ one_deeper p q r h x | inr y ↦ one_deeper p q s k y ]

parts_deeper : (p q : Part) (f : Connective) → Contains (parts_by p f) q → q.depth ≤ p.depth + 2
parts_deeper p q connective.True (k, l, e) = absurd (omega (arith, l))
parts_deeper p q connective.Cut (k, l, e) = absurd (omega (arith, l))
parts_deeper p q (connective.And a b) c = two_deeper p q (below p p.goal a) (below p p.goal b) (omega arith) (omega arith) c
parts_deeper p q (connective.Or a b) c = goal_deeper p.goal p q (below p p.goal a ∷ below p p.goal b ∷ []) (λ r. two_deeper p r (below p p.goal a) (below p p.goal b) (omega arith) (omega arith)) c
parts_deeper p q (connective.Implies a b) c = two_deeper p q (below p (not p.goal) a) (below p p.goal b) (omega arith) (omega arith) c
parts_deeper p q (connective.ForAll T b) c = one_deeper p q (inside p p.goal b) (omega arith) c
parts_deeper p q (connective.Exists T b) c = goal_deeper p.goal p q (inside p false b ∷ []) (λ r. one_deeper p r (inside p false b) (omega arith)) c
parts_deeper p q (connective.Not g) c = goal_deeper p.goal p q (below p true g ∷ []) (λ r. one_deeper p r (below p true g) (omega arith)) c
parts_deeper p q connective.Atomic (k, l, e) = absurd (omega (arith, l))

-- a part that is not too deep
shallow : (p : Part) → is_deep p ≡ false → p.depth ≤ 2000
shallow p e = by (cases_lt 2000 p.depth)
  where
    by : (2000 < p.depth) ⊎ (p.depth ≤ 2000) → p.depth ≤ 2000
    by (inl h) = absurd (true≢false (sym (is_below 2000 p.depth h) ∙ or_false_left (nat_lt 2000 p.depth) _ e))
    by (inr h) = h

-- the start: the whole formula is left to be judged
pub judging_begun : (b : Nodes) (heads : Heads) (w : Part) (parts : Parts) (t : Task) (v : Verdict) → parts.tasks.items ≡ t ∷ [] → IsTask b parts.binders.items t w → w.depth ≤ 2002 → v ≡ record { deep = false; wide = false; in_term = false; other = false } → Judging b heads w parts v
judging_begun b heads w parts t v tasks is few none = record {
  left = w ∷ [];
  tasks = subst (λ ts. AreTasks b parts.binders.items ts (w ∷ [])) (sym tasks) (is, tt);
  few = λ e p c. subst (λ q. q.depth ≤ 2002) (Contains_single w p c) few;
  inside = λ p c. subst (IsPart w) (Contains_single w p c) (itself w);
  each = λ d h. record {
    found = record {
      deep = λ e. absurd (true≢false (sym e ∙ ap (λ v. v.deep) none));
      wide = λ e. absurd (true≢false (sym e ∙ ap (λ v. v.wide) none));
      in_term = λ e. absurd (true≢false (sym e ∙ ap (λ v. v.in_term) none));
      other = λ e. absurd (true≢false (sym e ∙ ap (λ v. v.other) none));
    };
    all = λ q i. inr (w, Contains_head w [], i);
  };
}

-- the end: nothing is left, or what was found is too deep
pub judging_ended : (b : Nodes) (heads : Heads) (w : Part) (parts : Parts) (v : Verdict) → Judging b heads w parts v → parts.tasks.items ≡ [] → (d : ℕ → Option Scheme) → AreHeads d heads → IsVerdict d w v
judging_ended b heads w parts v j none d h = record {
  found = (j.each d h).found;
  all = λ e q i. by q ((j.each d h).all q i) (left_none j.left (subst (λ ts. AreTasks b parts.binders.items ts j.left) none j.tasks));
}
  where
    left_none : (ps : List Part) → AreTasks b parts.binders.items [] ps → ps ≡ []
    left_none [] a = refl
    left_none (p ∷ ps) a = absurd a

    by : (q : Part) → IsCovered d v q ⊎ ((p : Part) × Contains j.left p × IsPart p q) → j.left ≡ [] → IsCovered d v q
    by q (inl c) e = c
    by q (inr (p, (k, l, is), i)) e = let n = ap length e in absurd (omega (arith, l, n))

pub judging_deep : (b : Nodes) (heads : Heads) (w : Part) (parts : Parts) (v : Verdict) → Judging b heads w parts v → v.deep ≡ true → (d : ℕ → Option Scheme) → AreHeads d heads → IsVerdict d w v
judging_deep b heads w parts v j deep d h = record { found = (j.each d h).found; all = λ e. absurd (true≢false (sym deep ∙ e)) }

-- the part of a task that was taken
pub part_taken : (b : Nodes) (heads : Heads) (w : Part) (old : Parts) (ts : List Task) (t : Task) (v : Verdict) → (j : Judging b heads w old v) → old.tasks.items ≡ ts ++ t ∷ [] → Popped b old.binders.items ts t j.left
part_taken b heads w old ts t v j is = popped b old.binders.items ts t j.left (subst (λ l. AreTasks b old.binders.items l j.left) is j.tasks)

-- one part was judged, and its own parts are left in its place
pub judged : (b c : Nodes) (heads : Heads) (w : Part) (old mid new : Parts) (ts : List Task) (t : Task) (f : Code) (v own x : Verdict) → Judging b heads w old v → old.tasks.items ≡ ts ++ t ∷ [] → mid.binders ≡ old.binders → mid.tasks.items ≡ ts → v.deep ≡ false →
    connective_of (tree b t.formula.0) ≡ connective_in b f → ((p : Part) → IsTask b mid.binders.items t p → IsOwn heads p own) → AreJoined v own x → Extends b c → ((p : Part) → IsTask b mid.binders.items t p → Pushes c mid new (parts_by p (connective_in b f))) → Judging c heads w new x
judged b c heads w old mid new ts t f v own x j is binders tasks shallow_yet at owns joined grows pushes =
    let (front, p, whole, before, task) = part_taken b heads w old ts t v j is in
    by front p whole before (subst (λ bs. IsTask b bs.items t p) (sym binders) task)
  where
    by : (front : List Part) (p : Part) → j.left ≡ front ++ p ∷ [] → AreTasks b old.binders.items ts front → IsTask b mid.binders.items t p → Judging c heads w new x
    by front p whole before task = record {
      left = front ++ parts_of p;
      tasks = subst (λ l. AreTasks c new.binders.items l (front ++ parts_of p)) (sym (put.more ∙ ap (λ l. l ++ put.tasks) tasks))
          (tasks_both c new.binders.items ts put.tasks front (parts_of p) (tasks_later b c mid.binders.items new.binders.items ts front grows put.around (subst (λ bs. AreTasks b bs.items ts front) (sym binders) before))
          (subst (AreTasks c new.binders.items put.tasks) same put.are));
      few = λ e q k. elim (Contains-append_cases front (parts_of p) q k) [
        | inl i ↦ j.few shallow_yet q (subst (λ l. Contains l q) (sym whole) (Contains-append_left front (p ∷ []) q i))
        | inr i ↦
            let h = parts_deeper p q (connective_of p.formula) i in
            let l = shallow p (sym (owns p task).deep ∙ or_false_right v.deep own.deep (sym joined.deep ∙ e)) in
            omega (arith, h, l)
      ];
      inside = λ q k. elim (Contains-append_cases front (parts_of p) q k) [
        | inl i ↦ j.inside q (subst (λ l. Contains l q) (sym whole) (Contains-append_left front (p ∷ []) q i))
        | inr i ↦ part_in w p q here (deeper p q q i (itself q))
      ];
      each = λ d h. record {
        found = found_more d heads h w v own x joined p here (j.each d h).found (owns p task);
        all = λ q i. next d h q ((j.each d h).all q i);
      };
    }
      where
        put : Pushes c mid new (parts_by p (connective_in b f))
        put = pushes p task

        same : parts_by p (connective_in b f) ≡ parts_of p
        same = ap (parts_by p) (sym at ∙ ap connective_of task.formula)

        here : IsPart w p
        here = j.inside p (subst (λ l. Contains l p) (sym whole) (Contains-append_right front (p ∷ []) p (Contains_head p [])))

        within : (d : ℕ → Option Scheme) → AreHeads d heads → (q : Part) → IsPart p q → IsCovered d x q ⊎ ((r : Part) × Contains (front ++ parts_of p) r × IsPart r q)
        within d h q i = elim (part_apart p q i) [
          | inl e ↦ inl (subst (IsCovered d x) e (own_covered d heads h w v own x joined p (owns p task)))
          | inr (r, k, m) ↦ inr (r, Contains-append_right front (parts_of p) r k, m)
        ]

        next : (d : ℕ → Option Scheme) → AreHeads d heads → (q : Part) → IsCovered d v q ⊎ ((r : Part) × Contains j.left r × IsPart r q) → IsCovered d x q ⊎ ((r : Part) × Contains (front ++ parts_of p) r × IsPart r q)
        next d h q (inl k) = inl (covered_more d heads h w v own x joined q k)
        next d h q (inr (r, k, i)) = elim (Contains-append_cases front (p ∷ []) r (subst (λ l. Contains l r) whole k)) [
          | inl m ↦ inr (r, Contains-append_left front (parts_of p) r m, i)
          | inr m ↦ within d h q (subst (λ y. IsPart y q) (sym (Contains_single p r m)) i)
        ]

-- the next task stands in the bank, and is not deep yet
pub task_within : (b : Nodes) (heads : Heads) (w : Part) (old : Parts) (ts : List Task) (t : Task) (v : Verdict) → Judging b heads w old v → old.tasks.items ≡ ts ++ t ∷ [] → t.formula.0 < length b.terms
task_within b heads w old ts t v j is = let (front, p, whole, before, task) = part_taken b heads w old ts t v j is in task.within

pub task_shallow : (b : Nodes) (heads : Heads) (w : Part) (old : Parts) (ts : List Task) (t : Task) (v : Verdict) → Judging b heads w old v → old.tasks.items ≡ ts ++ t ∷ [] → v.deep ≡ false → t.depth ≤ 2002
task_shallow b heads w old ts t v j is yet =
    let (front, p, whole, before, task) = part_taken b heads w old ts t v j is in
    let h = j.few yet p (subst (λ l. Contains l p) (sym whole) (Contains-append_right front (p ∷ []) p (Contains_head p []))) in
    omega (arith, task.depth, h)
