-- The judging of a formula ends: a part that was judged leaves deeper ones.
use Rattle.std.proofs.Common.{◌≡◌, ℕ, ◌+◌, ◌-◌, ◌<◌, ◌≤◌, List, [], ◌∷◌, ◌++◌, Bool, true, false, refl, sym, ap, subst, ◌∙◌, arith}
use Rattle.std.specs.Prelude.{Contains, not}
use Rattle.lp_standard.specs.Connectives.{Connective}
use Rattle.lp_standard.specs.Connectives as connective
use Rattle.lp_term.specs.Nodes.{Nodes}
use Rattle.lp_model.specs.Connected.{connective_in}
use Rattle.lp_model.specs.declared.connective.Connective.{Connective as Code}
use Rattle.lp_infer.specs.inner.Turns.{turns_of}
use Rattle.lp_infer.proofs.Turns.{some, two_older}
use Rattle.lp_module.specs.Form.{Part, below, inside, in_goal, parts_by}
use Rattle.lp_module.specs.declared.heads.Heads.{Heads}
use Rattle.lp_module.specs.declared.judge.Binder.{Binder}
use Rattle.lp_module.specs.declared.judge.Parts.{Parts}
use Rattle.lp_module.specs.declared.judge.Task.{Task}
use Rattle.lp_module.specs.declared.judge.Verdict.{Verdict}
use Rattle.lp_module.specs.inner.Judging.{IsTask, AreTasks, Pushes, Judging, turns_left}
use Rattle.lp_module.proofs.Judging.{part_taken, task_shallow}

turns_both : (xs ys : List Task) → turns_left (xs ++ ys) ≡ turns_left xs + turns_left ys
turns_both [] ys = omega arith
turns_both (x ∷ xs) ys = let e = turns_both xs ys in omega (arith, e)

module _ (c : Nodes) (bs : List Binder) where
  none_few : (ts : List Task) (n : ℕ) → AreTasks c bs ts [] → turns_left ts < turns_of n
  none_few [] n h = some n
  none_few (t ∷ ts) n h = absurd h

  one_few : (ts : List Task) (q : Part) (k : ℕ) → k < q.depth → k ≤ 2002 → AreTasks c bs ts (q ∷ []) → turns_left ts < turns_of (2003 - k)
  one_few [] q k l m h = absurd h
  one_few (t ∷ []) q k l m h =
      let a : 2003 - t.depth < 2003 - k = omega (arith, h.0.depth, l, m) in
      let z = two_older (2003 - k) (2003 - t.depth) (2003 - t.depth) a a in
      omega (arith, z)
  one_few (t ∷ u ∷ ts) q k l m h = absurd h.1

  two_few : (ts : List Task) (q r : Part) (k : ℕ) → k < q.depth → k < r.depth → k ≤ 2002 → AreTasks c bs ts (q ∷ r ∷ []) → turns_left ts < turns_of (2003 - k)
  two_few [] q r k l j m h = absurd h
  two_few (t ∷ []) q r k l j m h = absurd h.1
  two_few (t ∷ u ∷ []) q r k l j m h =
      let a : 2003 - t.depth < 2003 - k = omega (arith, h.0.depth, l, m) in
      let b : 2003 - u.depth < 2003 - k = omega (arith, h.1.0.depth, j, m) in
      let z = two_older (2003 - k) (2003 - t.depth) (2003 - u.depth) a b in
      omega (arith, z)
  two_few (t ∷ u ∷ v ∷ ts) q r k l j m h = absurd h.1.1

  goal_few : (g : Bool) (ts : List Task) (ps : List Part) (n : ℕ) → (AreTasks c bs ts ps → turns_left ts < turns_of n) → AreTasks c bs ts (in_goal g ps) → turns_left ts < turns_of n
  goal_few true ts ps n f h = f h
  goal_few false ts ps n f h = none_few ts n h

  one_deeper : (n : ℕ) → n < n + 1
  one_deeper n = omega arith

  two_deeper : (n : ℕ) → n < n + 2
  two_deeper n = omega arith

  parts_few : (ts : List Task) (p : Part) (f : Connective) → p.depth ≤ 2002 → AreTasks c bs ts (parts_by p f) → turns_left ts < turns_of (2003 - p.depth)
  parts_few ts p connective.True m h = none_few ts (2003 - p.depth) h
  parts_few ts p connective.Cut m h = none_few ts (2003 - p.depth) h
  parts_few ts p (connective.And a b) m h = two_few ts (below p p.goal a) (below p p.goal b) p.depth (one_deeper p.depth) (one_deeper p.depth) m h
  parts_few ts p (connective.Or a b) m h =
      goal_few p.goal ts (below p p.goal a ∷ below p p.goal b ∷ []) (2003 - p.depth) (two_few ts (below p p.goal a) (below p p.goal b) p.depth (one_deeper p.depth) (one_deeper p.depth) m) h
  parts_few ts p (connective.Implies a g) m h = two_few ts (below p (not p.goal) a) (below p p.goal g) p.depth (one_deeper p.depth) (one_deeper p.depth) m h
  parts_few ts p (connective.ForAll T b) m h = one_few ts (inside p p.goal b) p.depth (two_deeper p.depth) m h
  parts_few ts p (connective.Exists T b) m h = goal_few p.goal ts (inside p false b ∷ []) (2003 - p.depth) (one_few ts (inside p false b) p.depth (two_deeper p.depth) m) h
  parts_few ts p (connective.Not g) m h = goal_few p.goal ts (below p true g ∷ []) (2003 - p.depth) (one_few ts (below p true g) p.depth (one_deeper p.depth) m) h
  parts_few ts p connective.Atomic m h = none_few ts (2003 - p.depth) h

pub fewer_turns : (b c : Nodes) (heads : Heads) (w : Part) (old mid new : Parts) (ts : List Task) (t : Task) (f : Code) (v : Verdict) → Judging b heads w old v → old.tasks.items ≡ ts ++ t ∷ [] → mid.binders ≡ old.binders → mid.tasks.items ≡ ts → v.deep ≡ false →
    ((p : Part) → IsTask b mid.binders.items t p → Pushes c mid new (parts_by p (connective_in b f))) → turns_left new.tasks.items < turns_left old.tasks.items
fewer_turns b c heads w old mid new ts t f v j is binders tasks yet pushes =
    let (front, p, whole, before, task) = part_taken b heads w old ts t v j is in
    let m = task_shallow b heads w old ts t v j is yet in
    let put = pushes p (subst (λ l. IsTask b l.items t p) (sym binders) task) in
    let few = parts_few c new.binders.items put.tasks p (connective_in b f) (omega (arith, task.depth, m)) put.are in
    let first = ap turns_left (put.more ∙ ap (λ l. l ++ put.tasks) tasks) ∙ turns_both ts put.tasks in
    let last = ap turns_left is ∙ turns_both ts (t ∷ []) in
    let same = ap (λ n. turns_of (2003 - n)) task.depth in
    omega (arith, few, first, last, same)
