-- The parts of a formula, put behind the others; and the quantifiers around them.
use Rattle.std.proofs.Common.{◌≡◌, ◌≢◌, ℕ, zero, suc, ◌+◌, ◌-◌, ◌<◌, ◌≤◌, List, [], ◌∷◌, ◌++◌, length, map, drop, get_or, Bool, true, false, Some, refl, sym, ap, subst, ◌∙◌, arith, inl, inr, append_assoc}
use Rattle.std.specs.Prelude.{not, slice_get, ◌⊎◌}
use Rattle.std.proofs.lemmas.Bool.{cases_lt}
use Rattle.std.proofs.lemmas.List.{drop_more, drop_all, get_or_past, append-nil}
use Rattle.std.proofs.lemmas.Option.{slice_get_within, slice_get_read}
use Rattle.lp_calculus.specs.Term.{Term, index, atom, abs, app, apply, shift}
use Rattle.lp_standard.specs.Connectives.{Connective, body_of}
use Rattle.lp_standard.specs.Connectives as connective
use Rattle.lp_term.specs.Facts.{IsNoAbstraction}
use Rattle.lp_term.specs.Nodes.{Nodes, tree}
use Rattle.lp_term.specs.declared.node.TermId.{TermId}
use Rattle.lp_module.specs.Form.{Part, below, inside, in_goal, parts_by, is_term_by}
use Rattle.lp_module.specs.declared.judge.Binder.{Binder}
use Rattle.lp_module.specs.declared.judge.Parts.{Parts}
use Rattle.lp_module.specs.declared.judge.Task.{Task}
use Rattle.lp_module.specs.inner.Judging.{IsAround, none_around, one_around, IsTask, PushesTask, PushesBody, Pushes}

-- what holds of each application holds of a head on arguments
pub applied : (P : Term → Type 0) → ((t u : Term) → P (app t u)) → (h : Term) (ts : List Term) → ts ≢ [] → P (apply h ts)
applied P f h [] some = absurd (some refl)
applied P f h (t ∷ ts) some = by ts (app h t) (f h t)
  where
    by : (us : List Term) (g : Term) → P g → P (apply g us)
    by [] g p = p
    by (u ∷ us) g p = by us (app g u) (f g u)

pub some_of : {A B : Type 0} (f : A → B) (xs : List A) → xs ≢ [] → map f xs ≢ []
some_of f [] some = λ e. some refl
some_of f (x ∷ xs) some = λ e. absurd (cc)

-- a quantifier on no abstraction
pub body_applied : (t : Term) → IsNoAbstraction t → body_of t ≡ app (shift 0 1 t) (index 0)
body_applied (index i) n = refl
body_applied (atom a) n = refl
body_applied (abs b) n = absurd n
body_applied (app t u) n = refl

-- quantifiers

pub at_drop : (xs : List Bool) (k : ℕ) (y : Bool) (ys : List Bool) → drop k xs ≡ y ∷ ys → (get_or xs k false ≡ y) × (drop (k + 1) xs ≡ ys)
at_drop xs k y ys e = by (cases_lt k (length xs))
  where
    by : (k < length xs) ⊎ (length xs ≤ k) → (get_or xs k false ≡ y) × (drop (k + 1) xs ≡ ys)
    by (inl h) = let q : get_or xs k false ∷ drop (k + 1) xs ≡ y ∷ ys = sym (drop_more xs k false h) ∙ e in (cc, cc)
    by (inr h) = let q : [] ≡ y ∷ ys = sym (drop_all k xs h) ∙ e in absurd (cc)

pub none_at_drop : (xs : List Bool) (k n : ℕ) → drop k xs ≡ [] → k ≤ n → get_or xs n false ≡ false
none_at_drop xs k n e l = by (cases_lt k (length xs))
  where
    by : (k < length xs) ⊎ (length xs ≤ k) → get_or xs n false ≡ false
    by (inl h) = let q : get_or xs k false ∷ drop (k + 1) xs ≡ [] = sym (drop_more xs k false h) ∙ e in absurd (cc)
    by (inr h) = get_or_past xs n false (omega (arith, h, l))

pub none_around_zero : (bs : List Binder) (n : ℕ) (around : List Bool) → n ≡ 0 → IsAround bs n around → around ≡ []
none_around_zero bs zero around e none_around = refl
none_around_zero bs (suc n) around e a = absurd (omega (arith, e))

-- the innermost quantifier
abbrev pub Outer : List Binder → ℕ → List Bool → Type 0
Outer bs n around = (b : Binder) × (outer : List Bool) × (slice_get bs (n - 1) ≡ Some b) × (around ≡ b.goal_variable ∷ outer) × IsAround bs b.outer outer

outer_of : (bs : List Binder) (n : ℕ) (around : List Bool) → IsAround bs n around → (n ≡ 0 → ⊥) → Outer bs n around
outer_of bs zero around none_around some = absurd (some refl)
outer_of bs (suc n) around (one_around m b rest is r) some = let z : suc m - 1 ≡ m = omega arith in (b, rest, ap (slice_get bs) z ∙ is, refl, r)

pub none_past : (bs xs : List Binder) (n : ℕ) (around : List Bool) → (n ≡ 0 → ⊥) → xs ≡ bs → length xs ≤ n - 1 → IsAround bs n around → around ≡ []
none_past bs xs n around some same past a =
    let (b, rest, is, w, r) = outer_of bs n around a some in
    let l = slice_get_within bs (n - 1) b is in
    let e = ap length same in
    absurd (omega (arith, l, past, e))

pub outer_at : (bs xs : List Binder) (n : ℕ) (x : Binder) (around : List Bool) → (n ≡ 0 → ⊥) → xs ≡ bs → n - 1 < length xs → x ≡ get_or xs (n - 1) x → IsAround bs n around → (outer : List Bool) × (around ≡ x.goal_variable ∷ outer) × IsAround bs x.outer outer
outer_at bs xs n x around some same h at a =
    let (b, rest, is, w, r) = outer_of bs n around a some in
    let q : Some b ≡ Some x = sym is ∙ ap (λ l. slice_get l (n - 1)) (sym same) ∙ slice_get_read xs (length xs) (n - 1) x refl h at in
    let e : b ≡ x = cc in
    (rest, subst (λ z. around ≡ z.goal_variable ∷ rest) e w, subst (λ z. IsAround bs z.outer rest) e r)

-- one more quantifier
around_more : (bs cs : List Binder) (b : Binder) → cs ≡ bs ++ b ∷ [] → (n : ℕ) (around : List Bool) → IsAround bs n around → IsAround cs n around
around_more bs cs b more n around none_around = none_around
around_more bs cs b more n around (one_around m x rest is r) =
    let l = slice_get_within bs m x is in
    one_around m x rest (ap (λ l. slice_get l m) more ∙ left bs m l ∙ is) (around_more bs cs b more x.outer rest r)
  where
    left : (xs : List Binder) (i : ℕ) → i < length xs → slice_get (xs ++ b ∷ []) i ≡ slice_get xs i
    left [] i h = absurd (omega (arith, h))
    left (y ∷ ys) zero h = refl
    left (y ∷ ys) (suc i) h = left ys i (omega (arith, h))

last_at : (xs : List Binder) (b : Binder) → slice_get (xs ++ b ∷ []) (length xs) ≡ Some b
last_at [] b = refl
last_at (x ∷ xs) b = last_at xs b

-- parts

pub pushes_none : (b : Nodes) (s : Parts) → Pushes b s s []
pushes_none b s = record { around = λ n bs a. a; tasks = []; more = sym (append-nil s.tasks.items); are = tt }

pub pushes_one : (b : Nodes) (old new : Parts) (t : Task) (goal : Bool) (part : TermId) (p : Part) (l : Term) → PushesTask old new
    (record { goal = goal; formula = part; binder = t.binder; depth = t.depth + 1 }) → IsTask b old.binders.items t p → part.0 < length b.terms → tree
    b part.0 ≡ l → Pushes b old new (below p goal l ∷ [])
pushes_one b old new t goal part p l put i h is = record {
  around = λ n bs a. subst (λ x. IsAround x.items n bs) (sym put.0) a;
  tasks = (record { goal = goal; formula = part; binder = t.binder; depth = t.depth + 1 }) ∷ [];
  more = put.1;
  are = (record { within = h; goal = refl; around = subst (λ x. IsAround x.items t.binder p.binders) (sym put.0) i.around; depth = ap (λ n. n + 1) i.depth; formula = is }, tt);
}

pub pushes_two : (b : Nodes) (old mid new : Parts) (t : Task) (goal : Bool) (left right : TermId) (p : Part) (l r : Term) → PushesTask old mid
    (record { goal = goal; formula = left; binder = t.binder; depth = t.depth + 1 }) → PushesTask mid new
    (record { goal = t.goal; formula = right; binder = t.binder; depth = t.depth + 1 }) →
    IsTask b old.binders.items t p → left.0 < length b.terms → right.0 < length b.terms → tree b left.0 ≡ l → tree b right.0 ≡ r → Pushes b old new (below p goal l ∷ below p p.goal r ∷ [])
pushes_two b old mid new t goal left right p l r one two i h k is same_right = record {
  around = λ n bs a. subst (λ x. IsAround x.items n bs) (sym same) a;
  tasks = (record { goal = goal; formula = left; binder = t.binder; depth = t.depth + 1 }) ∷ (record { goal = t.goal; formula = right; binder = t.binder; depth = t.depth + 1 }) ∷ [];
  more = two.1 ∙ ap (λ l. l ++ (record { goal = t.goal; formula = right; binder = t.binder; depth = t.depth + 1 }) ∷ []) one.1 ∙ append_assoc
      old.tasks.items ((record { goal = goal; formula = left; binder = t.binder; depth = t.depth + 1 }) ∷ [])
      ((record { goal = t.goal; formula = right; binder = t.binder; depth = t.depth + 1 }) ∷ []);
  are = (
    record { within = h; goal = refl; around = around; depth = ap (λ n. n + 1) i.depth; formula = is },
    (record { within = k; goal = i.goal; around = around; depth = ap (λ n. n + 1) i.depth; formula = same_right }, tt),
  );
}
  where
    same : new.binders ≡ old.binders
    same = two.0 ∙ one.0

    around : IsAround new.binders.items t.binder p.binders
    around = subst (λ x. IsAround x.items t.binder p.binders) (sym same) i.around

pub pushes_body : (b c : Nodes) (old new : Parts) (t : Task) (goal_variable : Bool) (part : TermId) (p : Part) → PushesBody b c old new t goal_variable part → IsTask b old.binders.items t p → Pushes c old new (inside p goal_variable (body_of (tree b part.0)) ∷ [])
pushes_body b c old new t goal_variable part p put i = record {
  around = more;
  tasks = (record { goal = t.goal; formula = put.body; binder = length old.binders.items + 1; depth = t.depth + 2 }) ∷ [];
  more = put.tasks;
  are = (record { within = put.within; goal = i.goal; around = around; depth = ap (λ n. n + 2) i.depth; formula = put.tree }, tt);
}
  where
    binder : Binder
    binder = record { goal_variable = goal_variable; outer = t.binder }

    more : (n : ℕ) (bs : List Bool) → IsAround old.binders.items n bs → IsAround new.binders.items n bs
    more n bs a = around_more old.binders.items new.binders.items binder put.binders n bs a

    around : IsAround new.binders.items (length old.binders.items + 1) (goal_variable ∷ p.binders)
    around =
        let z : suc (length old.binders.items) ≡ length old.binders.items + 1 = omega arith in
        subst (λ n. IsAround new.binders.items n (goal_variable ∷ p.binders)) z
        (one_around (length old.binders.items) binder p.binders (ap (λ l. slice_get l (length old.binders.items)) put.binders ∙ last_at old.binders.items binder) (more t.binder p.binders i.around))

-- a part that is a term has no parts
in_goal_none : (g : Bool) (ps : List Part) → not g ≡ true → in_goal g ps ≡ []
in_goal_none true ps e = absurd (cc)
in_goal_none false ps e = refl

pub no_parts : (p : Part) (f : Connective) → is_term_by p.goal f ≡ true → parts_by p f ≡ []
no_parts p connective.Atomic e = refl
no_parts p (connective.And a b) e = absurd (cc)
no_parts p (connective.Implies c g) e = absurd (cc)
no_parts p (connective.ForAll T b) e = absurd (cc)
no_parts p connective.True e = refl
no_parts p connective.Cut e = refl
no_parts p (connective.Or a b) e = in_goal_none p.goal (below p p.goal a ∷ below p p.goal b ∷ []) e
no_parts p (connective.Exists T b) e = in_goal_none p.goal (inside p false b ∷ []) e
no_parts p (connective.Not g) e = in_goal_none p.goal (below p true g ∷ []) e

-- any other connective's are there
pub all_parts : (g : Bool) (ps : List Part) → not g ≡ false → in_goal g ps ≡ ps
all_parts true ps e = refl
all_parts false ps e = absurd (cc)
