-- Each task of a typing takes the step at the top to those that are left.
use Rattle.std.proofs.Common.{◌≡◌, ℕ, zero, suc, ◌+◌, ◌-◌, ◌<◌, ◌≤◌, List, [], ◌∷◌, ◌++◌, map, reverse, length, refl, sym, ap, subst, ◌∙◌, arith, Option, Some, get_or}
use Rattle.std.proofs.Math.Path.{transport}
use Rattle.std.specs.Prelude.{slice_get, drop, All, Result, Ok, Err, IfOk, IfSome, Bool, true}
use Rattle.std.proofs.lemmas.List.{get_or-reverse, get_or-map, length-map, length-reverse}
use Rattle.std.proofs.lemmas.Option.{slice_get-get_or}
use Rattle.lp_lemmas.proofs.Lists.{get_map, drop_read, map_pushed, reverse_pushed, cons_head, cons_tail}
use Rattle.lp_lemmas.proofs.Elements.{All_unmap}
use Rattle.lp_calculus.specs.Types.{Ty, var, arrow, instance}
use Rattle.lp_calculus.specs.Term.{Term, Atom, index, atom, abs, app, apply, constant, eigen}
use Rattle.lp_calculus.specs.Closed.{IsClosedType}
use Rattle.lp_calculus.specs.Typing.{HasType, atom_type, scheme_type, eigen_type}
use Rattle.lp_model.specs.Proofs.{under}
use Rattle.lp_model.specs.Readings.{declared_by}
use Rattle.lp_term.specs.Nodes.{Nodes, Extends, tree, type_tree}
use Rattle.lp_term.specs.declared.node.TypeId.{TypeId}
use Rattle.lp_term.specs.declared.node.TermId.{TermId}
use Rattle.lp_type_unify.specs.declared.bindings.Pair.{Pair}
use Rattle.lp_type_unify.specs.Reading.{IsPair, read_pair, read_pairs}
use Rattle.lp_type_laws.specs.Equations.{AllHold}
use Rattle.lp_type_laws.proofs.Types.{instance-var}
use Rattle.lp_cert.proofs.Comparisons.{hold_reversed, twice}
use Rattle.lp_term.specs.Node.{const_node}
use Rattle.std.proofs.lemmas.List.Elements.{All-nil, All-cons, All-head, All-tail}
use Rattle.lp_base.specs.declared.memory.Memory.{Memory}
use Rattle.lp_term.proofs.Trees.{extends-trans}
use Rattle.lp_cert.specs.Facts.{AreInside, is_closed_type}
use Rattle.lp_cert.proofs.Later.{closed_type_inside, seen_inside}
use Rattle.lp_cert.specs.Same.{types_in}
use Rattle.lp_cert.specs.inner.Derives.{Step, visiting, closing, applying, Comes, argument_steps, step_of, steps_of, filled_types, types_of, Solves, IsGrown, Derives, DerivesBy, Moves, Pushes, IsPushed}
use Rattle.lp_cert.specs.declared.typing.Task.{Task}
use Rattle.lp_cert.specs.declared.typing.Task.TheVariants as task
use Rattle.lp_cert.specs.declared.typing.Typing.{Typing}
use Rattle.lp_cert.proofs.Closing.{type_is_closed, closed_stays}

-- one more task is one more step before the others
pub step_pushed : (b : Nodes) (all ts : List Task) (t : Task) → all ≡ ts ++ t ∷ [] → steps_of b all ≡ step_of b t ∷ steps_of b ts
step_pushed b all ts t e = reverse_pushed (map (step_of b) all) (map (step_of b) ts) (step_of b t) (map_pushed (step_of b) ts all t e)

pub type_pushed : (b : Nodes) (θ : ℕ → Ty) (all ids : List TypeId) (t : TypeId) → all ≡ ids ++ t ∷ [] → filled_types b θ all ≡ instance θ (type_tree b t.0) ∷ filled_types b θ ids
type_pushed b θ all ids t e =
    let f : TypeId → Ty = λ t. instance θ (type_tree b t.0) in
    reverse_pushed (map f all) (map f ids) (f t) (map_pushed f ids all t e)

pub applied_comes : (τ : Atom → Option Ty) (C S : List Ty) (h : Term) (us : List Term) (js : List Step) (T : Ty) → Comes τ C S (visiting h ∷ argument_steps us ++ js) T → Comes τ C S (visiting (apply h us) ∷ js) T
applied_comes τ C S h [] js T c = c
applied_comes τ C S h (u ∷ us) js T c =
    -- c : the head has type A, the argument U, and U ∷ A ∷ S is U ∷ arrow U B ∷ R
    let head_is : c.0 ≡ arrow c.2.2.0 c.2.2.1 = cons_head _ _ _ _ (cons_tail _ _ _ _ c.2.2.3) in
    let argument_is : c.2.0 ≡ c.2.2.0 = cons_head _ _ _ _ c.2.2.3 in
    let rest_is : S ≡ c.2.2.2 = cons_tail _ _ _ _ (cons_tail _ _ _ _ c.2.2.3) in
    applied_comes τ C S (app h u) us js T (
      c.2.2.1,
      (c.2.2.0, subst (λ A. HasType τ C h A) head_is c.1, subst (λ A. HasType τ C u A) argument_is c.2.1),
      subst (λ R. Comes τ C (c.2.2.1 ∷ R) (argument_steps us ++ js) T) (sym rest_is) c.2.2.4,
    )

-- a term whose type was put on the stack
pub pushed_moves : (now : Nodes) (old new : Typing) (T : Nodes → Ty) (t : Nodes → Term) → Pushes now old new T → ((b : Nodes) → Extends now b → (C : List Ty) → HasType (types_of b old) C (t b) (T b)) → Moves now old new (λ b. visiting (t b))
pushed_moves now old new T t p typed = λ b e θ A s d.
    let D : Comes (types_of b old) (filled_types b θ old.context.items) (T b ∷ filled_types b θ old.stack.items) (steps_of b old.tasks.items) A =
    subst (λ S. Comes (types_of b old) (filled_types b θ old.context.items) S (steps_of b old.tasks.items) A) (p.stack b e θ)
    (subst (λ x. Comes (types_of b old) (filled_types b θ old.context.items) (filled_types b θ new.stack.items) (steps_of b x.items) A) p.rest.tasks
    (subst (λ x. Comes (types_of b old) (filled_types b θ x.items) (filled_types b θ new.stack.items) (steps_of b new.tasks.items) A) p.rest.context
    (subst (λ x. Comes (atom_type (under (declared_by b old.constants.now) (types_in b x.now))) (filled_types b θ new.context.items) (filled_types b θ new.stack.items) (steps_of b new.tasks.items) A) p.rest.eigens
    (subst (λ x. Comes (atom_type (under (declared_by b x.now) (types_in b new.eigens.now))) (filled_types b θ new.context.items) (filled_types b θ new.stack.items) (steps_of b new.tasks.items) A) p.rest.constants d)))) in
    (subst (λ x. Solves b θ x.items) p.rest.pairs s, (T b, typed b e (filled_types b θ old.context.items), D))

-- the type of an index
pub context_get : (b : Nodes) (θ : ℕ → Ty) (ids : List TypeId) (at i : ℕ) (of : TypeId) → at < length ids → i ≡ length ids - 1 - at → of ≡ get_or ids i of → slice_get (filled_types b θ ids) at ≡ Some (instance θ (type_tree b of.0))
context_get b θ ids at i of l e g =
    let f : TypeId → Ty = λ t. instance θ (type_tree b t.0) in
    let n = length-map ids f in
    let r = length-reverse (map f ids) in
    slice_get-get_or (reverse (map f ids)) at (f of) (omega (arith, l, n, r)) ∙
    ap Some (get_or-reverse (map f ids) at (f of) (omega (arith, l, n)) ∙ (λ j. get_or (map f ids) ((ap (λ k. k - 1 - at) n ∙ sym e) j) (f of)) ∙ get_or-map f ids i of (f of) (let z : i < length ids = omega (arith, l, e) in z) ∙ ap f (sym g))

-- a type on top of the stack
pub stack_pushed : (b : Nodes) (θ : ℕ → Ty) (y : Typing) (all : List TypeId) (of : TypeId) (T : Ty) → all ≡ y.stack.items ++ of ∷ [] → Comes (types_of b y) (filled_types b θ y.context.items) (filled_types b θ all) (steps_of b y.tasks.items) T →
    Comes (types_of b y) (filled_types b θ y.context.items) (instance θ (type_tree b of.0) ∷ filled_types b θ y.stack.items) (steps_of b y.tasks.items) T
stack_pushed b θ y all of T e d = subst (λ S. Comes (types_of b y) (filled_types b θ y.context.items) S (steps_of b y.tasks.items) T) (type_pushed b θ all y.stack.items of e) d

pub index_comes : (b : Nodes) (θ : ℕ → Ty) (y : Typing) (all : List TypeId) (at i : ℕ) (of : TypeId) (T : Ty) → at < length y.context.items → i ≡ length y.context.items - 1 - at → of ≡ get_or y.context.items i of → all ≡ y.stack.items ++ of ∷ [] →
    Comes (types_of b y) (filled_types b θ y.context.items) (filled_types b θ all) (steps_of b y.tasks.items) T → DerivesBy b θ y (visiting (index at) ∷ []) T
index_comes b θ y all at i of T l e g p d = (instance θ (type_tree b of.0), context_get b θ y.context.items at i of l e g, stack_pushed b θ y all of T p d)

-- a type without type variables on top of the stack
pub closed_pushes : (now : Nodes) (ids all : List TypeId) (of : TypeId) → is_closed_type (type_tree now of.0) ≡ true → all ≡ ids ++ of ∷ [] → (b : Nodes) → Extends now b → (θ : ℕ → Ty) → filled_types b θ all ≡ type_tree b of.0 ∷ filled_types b θ ids
closed_pushes now ids all of c e b g θ =
    let same = g.same_types of.0 (closed_type_inside now of.0 (type_is_closed (type_tree now of.0) c)) in
    type_pushed b θ all ids of e ∙ ap (λ T. T ∷ filled_types b θ ids) (closed_stays θ (type_tree b of.0) (type_is_closed (type_tree b of.0) (ap is_closed_type same ∙ c)))

pub constant_moves : (now : Nodes) (old new : Typing) (r : Result Bool Memory) (k n : ℕ) (ids : List TypeId) (of : TypeId) →
    (AreInside k ids → (b : Nodes) → Extends now b → scheme_type (types_in b ids) (declared_by b old.constants.now n) ≡ Some (type_tree b of.0)) → IfOk r (λ yes. yes ≡ true → Pushes now old new (λ b. type_tree b of.0)) →
    IfOk r (λ yes. yes ≡ true → AreInside k ids → Moves now old new (λ b. visiting (atom (constant n (types_in b ids)))))
constant_moves now old new (Err x) k n ids of s p = tt
constant_moves now old new (Ok y) k n ids of s p = λ e a. pushed_moves now old new (λ b. type_tree b of.0) (λ b. atom (constant n (types_in b ids))) (p e) (λ b g C. s a b g)

pub eigen_moves : (now : Nodes) (old new : Typing) (r : Result Bool Memory) (level place : ℕ) (of : TypeId) → level ≡ suc place → slice_get old.eigens.now place ≡ Some of → IfOk r (λ yes. yes ≡ true → Pushes now old new (λ b. type_tree b of.0)) →
    IfOk r (λ yes. yes ≡ true → Moves now old new (λ b. visiting (atom (eigen level))))
eigen_moves now old new (Err x) level place of e g p = tt
eigen_moves now old new (Ok y) level place of e g p = λ t. pushed_moves now old new (λ b. type_tree b of.0) (λ b. atom (eigen level)) (p t)
    (λ b h C. ap (eigen_type (types_in b old.eigens.now)) e ∙ get_map (λ t. type_tree b t.0) old.eigens.now place of g)

pub kind_pushes : (now : Nodes) (old new : Typing) (r : Result Bool Memory) (of : TypeId) (T : Ty) → of.0 < length now.types → type_tree now of.0 ≡ T → IfOk r (λ yes. yes ≡ true → Pushes now old new (λ b. type_tree b of.0)) → IfOk r (λ yes. yes ≡ true → Pushes now old new (λ b. T))
kind_pushes now old new (Err x) of T l e p = tt
kind_pushes now old new (Ok y) of T l e p = λ t. record { rest = (p t).rest; stack = λ b g θ. (p t).stack b g θ ∙ ap (λ U. U ∷ filled_types b θ old.stack.items) (g.same_types of.0 l ∙ e) }

pub types_same : (old new : Typing) → IsPushed old new → (b : Nodes) → types_of b new ≡ types_of b old
types_same old new p b = λ j. atom_type (under (declared_by b (p.constants j).now) (types_in b (p.eigens j).now))

abstraction_comes : (τ : Atom → Option Ty) (C S : List Ty) (V : Ty) (t : Term) (js : List Step) (T : Ty) → Comes τ (V ∷ C) S (visiting t ∷ closing ∷ js) T → Comes τ C S (visiting (abs t) ∷ js) T
abstraction_comes τ C S V t js T c =
    -- the body has type c.0, and closing takes the two tops
    let ec = c.2.4 in
    let es = c.2.5 in
    let v : c.2.0 ≡ V = sym (cons_head _ _ _ _ ec) in
    let bb : c.2.1 ≡ c.0 = sym (cons_head _ _ _ _ es) in
    let d : c.2.2 ≡ C = sym (cons_tail _ _ _ _ ec) in
    let r : c.2.3 ≡ S = sym (cons_tail _ _ _ _ es) in
    (arrow V c.0, (V, c.0, refl, c.1), transport (λ j. Comes τ (d j) (arrow (v j) (bb j) ∷ r j) js T) c.2.6)

-- x is the typing behind the new variable
pub abstraction_moves : (b : Nodes) (θ : ℕ → Ty) (old x : Typing) (context : List TypeId) (mid tasks : List Task) (from : TypeId) (body : TermId) (T : Ty) → IsGrown old x → context ≡ x.context.items ++ from ∷ [] → mid ≡ x.tasks.items ++ task.Close ∷ [] → tasks ≡ mid ++ task.Visit body ∷ [] →
    Solves b θ x.pairs.items → Comes (types_of b x) (filled_types b θ context) (filled_types b θ x.stack.items) (steps_of b tasks) T → Solves b θ old.pairs.items × DerivesBy b θ old (visiting (abs (tree b body.0)) ∷ []) T
abstraction_moves b θ old x context mid tasks from body T g ec em et s d =
    let y : Comes (types_of b x) (instance θ (type_tree b from.0) ∷ filled_types b θ x.context.items) (filled_types b θ x.stack.items) (visiting (tree b body.0) ∷ closing ∷ steps_of b x.tasks.items) T =
    subst (λ C. Comes (types_of b x) C (filled_types b θ x.stack.items) (visiting (tree b body.0) ∷ closing ∷ steps_of b x.tasks.items) T) (type_pushed b θ context x.context.items from ec)
    (subst (λ js. Comes (types_of b x) (filled_types b θ context) (filled_types b θ x.stack.items) js T) (step_pushed b tasks mid (task.Visit body) et ∙ ap (λ js. visiting (tree b body.0) ∷ js) (step_pushed b mid x.tasks.items task.Close em)) d) in (
      subst (λ z. Solves b θ z.items) g.rest.pairs s,
      transport (λ j. Comes (types_same old x g.rest b j) (filled_types b θ (g.rest.context j).items) (filled_types b θ (g.stack j).items) (visiting (abs (tree b body.0)) ∷ steps_of b (g.rest.tasks j).items) T)
          (abstraction_comes (types_of b x) (filled_types b θ x.context.items) (filled_types b θ x.stack.items) (instance θ (type_tree b from.0)) (tree b body.0) (steps_of b x.tasks.items) T y),
    )

-- an abstraction ends: the typing y without the two types that were taken off, and the bank where they were put together
pub close_moves : (a now b : Nodes) (θ : ℕ → Ty) (τ : Atom → Option Ty) (contexts context stacks stack made : List TypeId) (js : List Step) (from to of : TypeId) (T : Ty) → Extends a now → Extends now b → contexts ≡ context ++ from ∷ [] → stacks ≡ stack ++ to ∷ [] → made ≡ stack ++ of ∷ [] →
    from.0 < length a.types → to.0 < length a.types → of.0 < length now.types → type_tree now of.0 ≡ arrow (type_tree a from.0) (type_tree a to.0) → Comes τ (filled_types b θ context) (filled_types b θ made) js T → Comes τ (filled_types b θ contexts) (filled_types b θ stacks) (closing ∷ js) T
close_moves a now b θ τ contexts context stacks stack made js from to of T g h ec es em lf lt lo e d =
    let long = extends-trans a now b g h in
    let is : type_tree b of.0 ≡ arrow (type_tree b from.0) (type_tree b to.0) = h.same_types of.0 lo ∙ e ∙ (λ j. arrow (sym (long.same_types from.0 lf) j) (sym (long.same_types to.0 lt) j)) in (
      instance θ (type_tree b from.0),
      instance θ (type_tree b to.0),
      filled_types b θ context,
      filled_types b θ stack,
      type_pushed b θ contexts context from ec,
      type_pushed b θ stacks stack to es,
      subst (λ S. Comes τ (filled_types b θ context) S js T) (type_pushed b θ made stack of em ∙ ap (λ U. instance θ U ∷ filled_types b θ stack) is) d,
    )

-- a head of an arrow type: from and to are its parts, argument the type of what it is applied to
pub apply_moves : (now b : Nodes) (θ : ℕ → Ty) (τ : Atom → Option Ty) (C : List Ty) (stacks mid stack made : List TypeId) (js : List Step) (head argument : TypeId) (T : Ty) → stacks ≡ mid ++ argument ∷ [] → mid ≡ stack ++ head ∷ [] → (B : Ty) → filled_types b θ made ≡ B ∷ filled_types b θ stack →
    instance θ (type_tree b head.0) ≡ arrow (instance θ (type_tree b argument.0)) B → Comes τ C (filled_types b θ made) js T → Comes τ C (filled_types b θ stacks) (applying ∷ js) T
apply_moves now b θ τ C stacks mid stack made js head argument T es em B p e d = (
  instance θ (type_tree b argument.0),
  B,
  filled_types b θ stack,
  type_pushed b θ stacks mid argument es ∙ ap (λ S. instance θ (type_tree b argument.0) ∷ S) (type_pushed b θ mid stack head em ∙ ap (λ U. U ∷ filled_types b θ stack) e),
  subst (λ S. Comes τ C S js T) p d,
)

-- the task that was taken off is the first step
pub task_back : (b : Nodes) (θ : ℕ → Ty) (y : Typing) (ts : List Task) (t : Task) (T : Ty) → y.tasks.items ≡ ts ++ t ∷ [] → Comes (types_of b y) (filled_types b θ y.context.items) (filled_types b θ y.stack.items) (step_of b t ∷ steps_of b ts) T → Derives b θ y T
task_back b θ y ts t T e d = subst (λ js. Comes (types_of b y) (filled_types b θ y.context.items) (filled_types b θ y.stack.items) js T) (sym (step_pushed b y.tasks.items ts t e)) d

pub nothing_left : (b : Nodes) (θ : ℕ → Ty) (y : Typing) (T : Ty) (R : List Ty) → y.tasks.items ≡ [] → filled_types b θ y.stack.items ≡ T ∷ R → Derives b θ y T
nothing_left b θ y T R e k = subst (λ ts. Comes (types_of b y) (filled_types b θ y.context.items) (filled_types b θ y.stack.items) (steps_of b ts) T) (sym e) (R, k)

-- the last argument that is not on the stack of tasks yet
pub argument_next : (b : Nodes) (ids : List TermId) (all mid ts : List Task) (js : List Step) (i k n : ℕ) (t : TermId) → mid ≡ ts ++ task.Apply ∷ [] →
    all ≡ mid ++ task.Visit t ∷ [] → i < length ids → t ≡ get_or ids i t → k ≡ i → n ≡ i + 1 → steps_of b ts ≡ argument_steps
    (map (λ t. tree b t.0) (drop n ids)) ++ js →
    steps_of b all ≡ argument_steps (map (λ t. tree b t.0) (drop k ids)) ++ js
argument_next b ids all mid ts js i k n t em ea l g ek en h =
    step_pushed b all mid (task.Visit t) ea ∙ ap (λ s. visiting (tree b t.0) ∷ s) (step_pushed b mid ts task.Apply em ∙ ap (λ s. applying ∷ s) h) ∙
    ap (λ us. argument_steps us ++ js) (ap (λ m. tree b t.0 ∷ map (λ t. tree b t.0) (drop m ids)) en ∙ ap (map (λ t. tree b t.0)) (sym (drop_read ids i t l g)) ∙ ap (λ m. map (λ t. tree b t.0) (drop m ids)) (sym ek))

drop_past : {A : Type 0} (xs : List A) (n : ℕ) → length xs ≤ n → drop n xs ≡ []
drop_past [] zero l = refl
drop_past [] (suc n) l = refl
drop_past (x ∷ xs) zero l = absurd (omega (arith, l))
drop_past (x ∷ xs) (suc n) l = drop_past xs n (omega (arith, l))

pub arguments_none : (b : Nodes) (ids : List TermId) (js : List Step) (n : ℕ) → length ids ≤ n → js ≡ argument_steps (map (λ t. tree b t.0) (drop n ids)) ++ js
arguments_none b ids js n l = ap (λ us. argument_steps (map (λ t. tree b t.0) us) ++ js) (sym (drop_past ids n l))

pub application_moves : (b : Nodes) (θ : ℕ → Ty) (old x : Typing) (ids : List TermId) (all : List Task) (head : TermId) (n : ℕ) (T : Ty) → x.constants ≡ old.constants → x.eigens ≡ old.eigens → x.context ≡ old.context → x.stack ≡ old.stack → x.pairs ≡ old.pairs → n ≡ 0 →
    steps_of b x.tasks.items ≡ argument_steps (map (λ t. tree b t.0) (drop n ids)) ++ steps_of b old.tasks.items → all ≡ x.tasks.items ++ task.Visit head ∷ [] → Solves b θ x.pairs.items → Comes (types_of b x) (filled_types b θ x.context.items) (filled_types b θ x.stack.items) (steps_of b all) T →
    Solves b θ old.pairs.items × DerivesBy b θ old (visiting (apply (tree b head.0) (map (λ t. tree b t.0) ids)) ∷ []) T
application_moves b θ old x ids all head n T ec ee ex es ep z h ea s d = (
  subst (λ y. Solves b θ y.items) ep s,
  applied_comes (types_of b old) (filled_types b θ old.context.items) (filled_types b θ old.stack.items) (tree b head.0) (map (λ t. tree b t.0) ids) (steps_of b old.tasks.items) T
      (transport (λ j. Comes (atom_type (under (declared_by b (ec j).now) (types_in b (ee j).now))) (filled_types b θ (ex j).items) (filled_types b θ (es j).items)
      ((step_pushed b all x.tasks.items (task.Visit head) ea ∙ ap (λ js. visiting (tree b head.0) ∷ js) (h ∙ ap (λ m. argument_steps (map (λ t. tree b t.0) (drop m ids)) ++ steps_of b old.tasks.items) z)) j) T) d),
)

-- one step in other words
pub step_as : (now : Nodes) (old new : Typing) (r : Result Bool Memory) (j k : Nodes → Term) → ((b : Nodes) → Extends now b → j b ≡ k b) → IfOk r (λ yes. yes ≡ true → Moves now old new (λ b. visiting (j b))) → IfOk r (λ yes. yes ≡ true → Moves now old new (λ b. visiting (k b)))
step_as now old new (Err x) j k e m = tt
step_as now old new (Ok y) j k e m = λ t b g θ T s d. let q = m t b g θ T s d in (q.0, subst (λ u. DerivesBy b θ old (visiting u ∷ []) T) (e b g) q.1)

pub step_any : (now : Nodes) (old new : Typing) (r : Result Bool Memory) (j : Nodes → Step) → IfOk r (λ yes. yes ≡ true → (b : Nodes) → Moves b old new j) → IfOk r (λ yes. yes ≡ true → Moves now old new j)
step_any now old new (Err x) j m = tt
step_any now old new (Ok y) j m = λ t. m t now

pub step_inside : (now : Nodes) (old new : Typing) (r : Result Bool Memory) (j : Nodes → Step) (P : Type 0) → P → IfOk r (λ yes. yes ≡ true → P → Moves now old new j) → IfOk r (λ yes. yes ≡ true → Moves now old new j)
step_inside now old new (Err x) j P p m = tt
step_inside now old new (Ok y) j P p m = λ t. m t p

pub step_pushes : (now : Nodes) (old new : Typing) (r : Result Bool Memory) (T : Nodes → Ty) (t : Nodes → Term) →
    ((b : Nodes) → Extends now b → (C : List Ty) → HasType (types_of b old) C (t b) (T b)) → IfOk r (λ yes. yes ≡ true → Pushes now old new T) → IfOk
    r (λ yes. yes ≡ true → Moves now old new (λ b. visiting (t b)))
step_pushes now old new (Err x) T t typed p = tt
step_pushes now old new (Ok y) T t typed p = λ e. pushed_moves now old new T t (p e) typed

-- a solution of the pairs, read in a later bank
solves_here : (now b : Nodes) (θ : ℕ → Ty) (ps : List Pair) → Extends now b → All (IsPair (length now.types)) ps → AllHold θ (map (read_pair (type_tree now) var) ps) → Solves b θ ps
solves_here now b θ [] g i h = All-nil (λ (p : Pair). instance θ (type_tree b p.left.0) ≡ instance θ (type_tree b p.right.0))
solves_here now b θ (p ∷ ps) g i h =
    let inside = All-head (IsPair (length now.types)) p ps i in
    let plain : (T : Ty) → instance θ (instance var T) ≡ instance θ T = λ T. ap (instance θ) (instance-var T) in
    All-cons (λ (p : Pair). instance θ (type_tree b p.left.0) ≡ instance θ (type_tree b p.right.0)) p ps
    (ap (instance θ) (g.same_types p.left.0 inside.0) ∙ sym (plain (type_tree now p.left.0)) ∙ h.0 ∙ plain (type_tree now p.right.0) ∙ ap (instance θ) (sym (g.same_types p.right.0 inside.1)))
    (solves_here now b θ ps g (All-tail (IsPair (length now.types)) p ps i) h.1)

-- the end: y is the typing at its beginning, x when nothing was left to do, with the type that was found on top of its stack, and the pairs with the last equation
pub typed_at_end : (a now : Nodes) (y x : Typing) (last : Typing) (pairs : List Pair) (rest : List TypeId) (term : TermId) (found of : TypeId)
    (r : Result Bool Memory) → Extends a now → y.context.items ≡ [] → y.stack.items ≡ [] → y.tasks.items ≡ task.Visit term ∷ [] → x.stack.items ≡ rest
    ++ found ∷ [] → pairs ≡ last.pairs.items →
    ((b : Nodes) → (θ : ℕ → Ty) → Solves b θ last.pairs.items → Solves b θ x.pairs.items × (instance θ (type_tree b found.0) ≡ instance θ (type_tree b of.0))) →
    ((b : Nodes) → Extends now b → (θ : ℕ → Ty) → (T : Ty) → (R : List Ty) → Solves b θ x.pairs.items → filled_types b θ x.stack.items ≡ T ∷ R → Derives b θ y T) →
    IfOk r (λ yes. yes ≡ true → All (IsPair (length now.types)) pairs) → IfOk r (λ yes. yes ≡ true → (θ : ℕ → Ty) × AllHold θ (read_pairs (type_tree now) var pairs)) →
    IfOk r (λ yes. yes ≡ true → IsClosedType (type_tree a of.0) → (b : Nodes) → Extends now b → HasType (types_of b y) [] (tree b term.0) (type_tree b of.0))
typed_at_end a now y x last pairs rest term found of (Err z) g ec es et ex ep taken finish i h = tt
typed_at_end a now y x last pairs rest term found of (Ok z) g ec es et ex ep taken finish i h = λ e closed b k.
    let sol = h e in
    let θ = sol.0 in
    let s = taken b θ (subst (Solves b θ) ep (solves_here now b θ pairs k (i e) (hold_reversed θ (map (read_pair (type_tree now) var) pairs) sol.1))) in
    let long = extends-trans a now b g k in
    let same = long.same_types of.0 (closed_type_inside a of.0 closed) in
    let plain : instance θ (type_tree b of.0) ≡ type_tree b of.0 = closed_stays θ (type_tree b of.0) (subst IsClosedType (sym same) closed) in
    let d = finish b k θ (instance θ (type_tree b found.0)) (filled_types b θ rest) s.0 (type_pushed b θ x.stack.items rest found ex) in
    let c : Comes (types_of b y) [] [] (visiting (tree b term.0) ∷ []) (instance θ (type_tree b found.0)) =
    subst (λ js. Comes (types_of b y) [] [] js (instance θ (type_tree b found.0))) (ap (steps_of b) et)
    (subst (λ C. Comes (types_of b y) C [] (steps_of b y.tasks.items) (instance θ (type_tree b found.0))) (ap (filled_types b θ) ec)
    (subst (λ S. Comes (types_of b y) (filled_types b θ y.context.items) S (steps_of b y.tasks.items) (instance θ (type_tree b found.0))) (ap (filled_types b θ) es) d)) in
    subst (λ T. HasType (types_of b y) [] (tree b term.0) T) (cons_head _ _ _ _ c.2.1 ∙ s.1 ∙ plain) c.1

pub twice_terms : (f : ℕ → Term) (ids : List TermId) → map (λ t. f t.0) ids ≡ map f (map (λ t. t.0) ids)
twice_terms f [] = refl
twice_terms f (x ∷ xs) = ap (λ l. f x.0 ∷ l) (twice_terms f xs)

-- a constant at the top
pub constant_step : (a now : Nodes) (old new : Typing) (r : Result Bool Memory) (term : TermId) (n : ℕ) (ids copy : List TypeId) → copy ≡ ids →
    Extends a now → term.0 < length a.terms → All (λ i. i < length a.types) (map (λ t. t.0) ids) → atom
    (constant n (map (type_tree a) (map (λ t. t.0) ids))) ≡ tree a term.0 →
    IfOk r (λ yes. yes ≡ true → AreInside (length a.types) copy → Moves now old new (λ b. visiting (atom (constant n (types_in b copy))))) → IfOk r (λ yes. yes ≡ true → Moves now old new (λ b. visiting (tree b term.0)))
constant_step a now old new r term n ids copy e g l i t m =
    step_as now old new r (λ b. atom (constant n (types_in b copy))) (λ b. tree b term.0)
    (λ b h. ap (λ us. atom (constant n us)) (ap (types_in b) e ∙ sym (twice (type_tree b) ids)) ∙ seen_inside a b term.0 (const_node n (map (λ t. t.0) ids)) (extends-trans a now b g h) l i t)
    (step_inside now old new r (λ b. visiting (atom (constant n (types_in b copy)))) (AreInside (length a.types) copy) (subst (AreInside (length a.types)) (sym e) (All_unmap (λ i. i < length a.types) (λ (t : TypeId). t.0) ids i)) m)

pub some_is : {A : Type 0} (P : A → Type 0) (o : Option A) (x : A) → o ≡ Some x → IfSome o P → P x
some_is P o x e h = subst (λ o. IfSome o P) e h

pub task_is : (now : Nodes) (old new : Typing) (r : Result Bool Memory) (t u : Task) → t ≡ u → IfOk r (λ yes. yes ≡ true → Moves now old new (λ b. step_of b u)) → IfOk r (λ yes. yes ≡ true → Moves now old new (λ b. step_of b t))
task_is now old new r t u e m = subst (λ x. IfOk r (λ yes. yes ≡ true → Moves now old new (λ b. step_of b x))) (sym e) m

-- what stands at a number of a list does not depend on the default
pub read_again : {A : Type 0} (xs : List A) (i : ℕ) (d : A) → i < length xs → get_or xs i d ≡ get_or xs i (get_or xs i d)
read_again [] i d l = absurd (omega (arith, l))
read_again (x ∷ xs) zero d l = refl
read_again (x ∷ xs) (suc i) d l = read_again xs i d (omega (arith, l))
