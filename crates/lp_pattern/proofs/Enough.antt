-- The tasks that are left always find as many terms made as they take.
use Rattle.std.proofs.Common.{◌≡◌, ℕ, suc, ◌+◌, ◌-◌, ◌<◌, List, [], ◌∷◌, ◌++◌, reverse, length, sym, ap, ◌∙◌, subst as transport, arith}
use Rattle.std.proofs.lemmas.List.{length-append, reverse-append, reverse-reverse}
use Rattle.lp_term.specs.declared.node.TermId.{TermId}
use Rattle.lp_pattern.specs.Settling.{AreEnough, IsPushed, visit_tasks}
use Rattle.lp_pattern.specs.declared.look.Looked.{Looked}
use Rattle.lp_pattern.specs.declared.opened.Opened.{Opened}
use Rattle.lp_pattern.specs.declared.settle.Task.{Task}

-- one term more
pub made_enough : (ts : List Task) (made now : List TermId) (x : TermId) → now ≡ made ++ x ∷ [] → AreEnough ts (suc (length made)) → AreEnough ts (length now)
made_enough ts made now x e h =
    let n : suc (length made) ≡ length now = omega (arith, ap length e, length-append made (x ∷ [])) in
    transport (AreEnough ts) n h

reverse_pushed : (all ts : List Task) (t : Task) → all ≡ ts ++ t ∷ [] → reverse all ≡ t ∷ reverse ts
reverse_pushed all ts t e = ap reverse e ∙ reverse-append ts (t ∷ [])

-- a body, and then its abstraction
pub body_enough : (ts us vs : List Task) (old body next : TermId) (o : Opened) (n : ℕ) → us ≡ ts ++ Task.Abstract old body ∷ [] → vs ≡ us ++ Task.Visit next o ∷ [] → AreEnough (reverse ts) (suc n) → AreEnough (reverse vs) n
body_enough ts us vs old body next o n e f h =
    let g : reverse vs ≡ Task.Visit next o ∷ Task.Abstract old body ∷ reverse ts = reverse_pushed vs us (Task.Visit next o) f ∙ ap (λ z. Task.Visit next o ∷ z) (reverse_pushed us ts (Task.Abstract old body) e) in
    transport (λ z. AreEnough z n) (sym g) (omega arith, h)

-- parts, and then the head on them

visits_enough : (o : Opened) (ids : List TermId) (ts : List Task) (n : ℕ) → AreEnough ts (n + length ids) → AreEnough (visit_tasks o ids ++ ts) n
visits_enough o [] ts n h = let e : n + 0 ≡ n = omega arith in transport (AreEnough ts) e h
visits_enough o (i ∷ ids) ts n h = let e : n + suc (length ids) ≡ suc n + length ids = omega arith in visits_enough o ids ts (suc n) (transport (AreEnough ts) e h)

pub pushed_enough : (r : Looked) (head : TermId) (o : Opened) (old new : List Task) (n : ℕ) → IsPushed r head o old new → AreEnough (reverse old) (suc n) → AreEnough (reverse new) n
pushed_enough r head o old new n p h =
    let a = p.0 in
    let ids = r.arguments.items in
    let many : length a.arguments.items ≡ length ids = ap length p.4 in
    let g : reverse new ≡ visit_tasks o ids ++ Task.Apply a ∷ reverse old =
    ap reverse p.5 ∙ reverse-append (old ++ Task.Apply a ∷ []) (reverse (visit_tasks o ids)) ∙ ap (λ z. z ++ reverse (old ++ Task.Apply a ∷ [])) (reverse-reverse (visit_tasks o ids)) ∙
    ap (λ z. visit_tasks o ids ++ z) (reverse-append old (Task.Apply a ∷ [])) in
    let m : suc n ≡ suc (n + length ids - length a.arguments.items) = omega (arith, many) in
    transport (λ z. AreEnough z n) (sym g) (visits_enough o ids (Task.Apply a ∷ reverse old) n (omega (arith, many), transport (AreEnough (reverse old)) m h))

-- what a task takes, and what it leaves

pub popped_enough : (all ts : List Task) (t : Task) (n : ℕ) → all ≡ ts ++ t ∷ [] → AreEnough (reverse all) n → AreEnough (t ∷ reverse ts) n
popped_enough all ts t n e h = transport (λ z. AreEnough z n) (reverse_pushed all ts t e) h

pub last_enough : (ts : List Task) (n : ℕ) → ts ≡ [] → AreEnough (reverse ts) n → 0 < n
last_enough ts n e h = transport (λ z. AreEnough (reverse z) n) e h

pub first_enough : (ts : List Task) (t : TermId) (o : Opened) → ts ≡ Task.Visit t o ∷ [] → AreEnough (reverse ts) 0
first_enough ts t o e = transport (λ z. AreEnough (reverse z) 0) (sym e) (omega arith)
