-- Each task of a typing that can be ended is taken, and then what is left can be ended.
use Rattle.std.proofs.Common.{◌≡◌, ℕ, suc, ◌-◌, ◌<◌, ◌≤◌, List, [], ◌∷◌, ◌++◌, map, length, refl, sym, ap, subst, ◌∙◌, arith, Option, Some, None, get_or, Bool, true, false}
use Rattle.std.proofs.Math.Path.{transport}
use Rattle.std.specs.Prelude.{slice_get, All}
use Rattle.std.proofs.lemmas.List.{length-map, length-reverse}
use Rattle.std.proofs.lemmas.List.Elements.{All-get_or}
use Rattle.std.proofs.lemmas.Option.{slice_get_past}
use Rattle.lp_lemmas.proofs.Elements.{All_pushed}
use Rattle.lp_lemmas.proofs.Options.{one_value}
use Rattle.lp_calculus.specs.Types.{Ty, var, arrow, instance}
use Rattle.lp_calculus.specs.Term.{Term, Atom, index, atom, abs, app, apply, constant, eigen}
use Rattle.lp_calculus.specs.Closed.{IsClosedType}
use Rattle.lp_calculus.specs.Typing.{HasType, atom_type, scheme_type, eigen_type}
use Rattle.lp_type_laws.specs.Equations.{Below}
use Rattle.lp_type_unify.specs.declared.bindings.Pair.{Pair}
use Rattle.lp_model.specs.Proofs.{under}
use Rattle.lp_model.specs.Readings.{declared_by}
use Rattle.lp_term.specs.Nodes.{Nodes, Extends, tree, type_tree}
use Rattle.lp_term.specs.declared.node.TypeId.{TypeId}
use Rattle.lp_term.specs.declared.node.TermId.{TermId}
use Rattle.lp_term.proofs.Trees.{extends-trans}
use Rattle.lp_cert.specs.Same.{types_in}
use Rattle.lp_cert.specs.inner.Derives.{Step, visiting, closing, Comes, argument_steps, steps_of, filled_types, types_of, Solves, Can, Keeps, IsTypeBelow, IsPairBelow, IsTaskIn, IsTidy, IsHeld, IsEquated}
use Rattle.lp_cert.specs.declared.typing.Task.{Task}
use Rattle.lp_cert.specs.declared.typing.Task.TheVariants as task
use Rattle.lp_cert.specs.declared.typing.Typing.{Typing}
use Rattle.lp_cert.proofs.Closing.{closed_stays}
use Rattle.lp_cert.proofs.ClosedTypes.{closed_below}
use Rattle.lp_cert.proofs.Deriving.{step_pushed, type_pushed, context_get}
use Rattle.lp_cert.proofs.Later.{closed_type_inside}
use Rattle.lp_cert.proofs.Tidy.{also, also_here, also_agrees, filled_agree, solves_agree, types_later, pairs_later, task_later, tasks_later, types_more, tidy_on, held_tidy}

-- what is left now, from its parts
pub can_of : (b : Nodes) (θ : ℕ → Ty) (old new : Typing) (C S : List Ty) (js : List Step) (T : Ty) → new.constants ≡ old.constants → new.eigens ≡ old.eigens → Solves b θ new.pairs.items → filled_types b θ new.context.items ≡ C → filled_types b θ new.stack.items ≡ S →
    steps_of b new.tasks.items ≡ js → Comes (types_of b old) C S js T → Can b new [] T
can_of b θ old new C S js T ec ee s eC eS ej d = record {
  types = θ;
  solves = s;
  derives = transport (λ j. Comes (atom_type (under (declared_by b (sym ec j).now) (types_in b (sym ee j).now))) (sym eC j) (sym eS j) (sym ej j) T) d;
}

-- a step that nothing could follow
pub refused : (now : Nodes) (old new : Typing) (js : Nodes → List Step) → ((b : Nodes) → Extends now b → (T : Ty) → Can b old (js b) T → ⊥) → Keeps now old new js false
refused now old new js h = record { tidy = λ e. absurd (cc); can = λ b g T c. absurd (h b g T c) }

-- a term whose type is put on the stack
pub held_can : (b : Nodes) (old new : Typing) (of : TypeId) (t : Term) (T : Ty) → IsHeld old new of → (c : Can b old (visiting t ∷ []) T) → instance c.types (type_tree b of.0) ≡ c.derives.0 → Can b new [] T
held_can b old new of t T h c one =
    let θ = c.types in
    can_of b θ old new (filled_types b θ old.context.items) (c.derives.0 ∷ filled_types b θ old.stack.items) (steps_of b old.tasks.items) T h.rest.constants h.rest.eigens (subst (λ z. Solves b θ z.items) (sym h.rest.pairs) c.solves) (ap (λ z. filled_types b θ z.items) h.rest.context)
    (type_pushed b θ new.stack.items old.stack.items of h.stack ∙ ap (λ A. A ∷ filled_types b θ old.stack.items) one) (ap (λ z. steps_of b z.items) h.rest.tasks) c.derives.2

-- the type has no type variable
pub held_keeps : (a now : Nodes) (old new : Typing) (of : TypeId) (t : Nodes → Term) (done : Bool) → Extends a now → IsTidy a old → IsClosedType (type_tree now of.0) → done ≡ true → IsHeld old new of →
    ((b : Nodes) → Extends now b → (C : List Ty) → (A : Ty) → HasType (types_of b old) C (t b) A → A ≡ type_tree b of.0) → Keeps now old new (λ b. visiting (t b) ∷ []) done
held_keeps a now old new of t done g y c e h one =
    let l = closed_type_inside now of.0 c in
    record {
      tidy = λ q. held_tidy a now old new of g y h (l, closed_below new.next (type_tree now of.0) c);
      can = λ b k T s. (
        e,
        held_can b old new of (t b) T h s
            (closed_stays s.types (type_tree b of.0) (subst IsClosedType (sym (k.same_types of.0 l)) c) ∙ sym (one b k (filled_types b s.types old.context.items) s.derives.0 s.derives.1)),
      );
    }

-- an index
pub index_keeps : (now : Nodes) (old new : Typing) (at i : ℕ) (of : TypeId) → at < length old.context.items → i ≡ length old.context.items - 1 - at → of ≡ get_or old.context.items i of → IsHeld old new of → IsTidy now old → Extends now now → Keeps now old new (λ b. visiting (index at) ∷ []) true
index_keeps now old new at i of l e p h y g = record {
  tidy = λ q. held_tidy now now old new of g y h (subst (λ n. IsTypeBelow now n of) (sym h.next) (subst (IsTypeBelow now old.next) (sym p) (All-get_or (IsTypeBelow now old.next) old.context.items i of (omega (arith, l, e)) y.context)));
  can = λ b k T s. (refl, held_can b old new of (index at) T h s (one_value _ _ _ (context_get b s.types old.context.items at i of l e p) s.derives.1));
}

pub index_past : (now : Nodes) (old new : Typing) (at : ℕ) → length old.context.items ≤ at → Keeps now old new (λ b. visiting (index at) ∷ []) false
index_past now old new at l = refused now old new (λ b. visiting (index at) ∷ []) (λ b g T c.
    let f : TypeId → Ty = λ t. instance c.types (type_tree b t.0) in
    let n = length-map old.context.items f in
    let r = length-reverse (map f old.context.items) in
    let none = slice_get_past (filled_types b c.types old.context.items) at (omega (arith, l, n, r)) in
    let some = c.derives.1 in
    absurd (cc))

-- a constant
pub constant_keeps : (a now : Nodes) (old new : Typing) (n : ℕ) (ids : List TypeId) (of : TypeId) (done : Bool) → Extends a now → IsTidy a old → IsClosedType (type_tree now of.0) → done ≡ true → IsHeld old new of →
    ((b : Nodes) → Extends now b → scheme_type (types_in b ids) (declared_by b old.constants.now n) ≡ Some (type_tree b of.0)) → Keeps now old new (λ b. visiting (atom (constant n (types_in b ids))) ∷ []) done
constant_keeps a now old new n ids of done g y c e h s = held_keeps a now old new of (λ b. atom (constant n (types_in b ids))) done g y c e h (λ b k C A q. one_value _ _ _ q (s b k))

pub constant_none : (now : Nodes) (old new : Typing) (n : ℕ) (ids : List TypeId) → ((b : Nodes) → scheme_type (types_in b ids) (declared_by b old.constants.now n) ≡ None) → Keeps now old new (λ b. visiting (atom (constant n (types_in b ids))) ∷ []) false
constant_none now old new n ids s = refused now old new (λ b. visiting (atom (constant n (types_in b ids))) ∷ []) (λ b g T c. let none = s b in let some = c.derives.1 in absurd (cc))

-- an eigenconstant
pub eigen_keeps : (now : Nodes) (old new : Typing) (level place : ℕ) (of : TypeId) (done : Bool) → Extends now now → IsTidy now old → level ≡ suc place → slice_get old.eigens.now place ≡ Some of → IsClosedType (type_tree now of.0) → done ≡ true → IsHeld old new of →
    ((b : Nodes) → eigen_type (types_in b old.eigens.now) level ≡ Some (type_tree b of.0)) → Keeps now old new (λ b. visiting (atom (eigen level)) ∷ []) done
eigen_keeps now old new level place of done g y l p c e h s = held_keeps now now old new of (λ b. atom (eigen level)) done g y c e h (λ b k C A q. one_value _ _ _ q (s b))

pub eigen_none : (now : Nodes) (old new : Typing) (level : ℕ) → ((b : Nodes) → eigen_type (types_in b old.eigens.now) level ≡ None) → Keeps now old new (λ b. visiting (atom (eigen level)) ∷ []) false
eigen_none now old new level s = refused now old new (λ b. visiting (atom (eigen level)) ∷ []) (λ b g T c. let none = s b in let some = c.derives.1 in absurd (cc))

-- the steps in other words
pub keeps_as : (now : Nodes) (old new : Typing) (done : Bool) (j k : Nodes → Term) → ((b : Nodes) → Extends now b → j b ≡ k b) → Keeps now old new (λ b. visiting (j b) ∷ []) done → Keeps now old new (λ b. visiting (k b) ∷ []) done
keeps_as now old new done j k e h = record { tidy = h.tidy; can = λ b g T c. h.can b g T (subst (λ t. Can b old (visiting t ∷ []) T) (sym (e b g)) c) }

-- an abstraction: its variable has the type `from`
module _ (a now : Nodes) (old new : Typing) (mid : List Task) (from : TypeId) (body : TermId) (g : Extends a now) (y : IsTidy a old) (ec : new.constants ≡ old.constants) (ee : new.eigens ≡ old.eigens) (es : new.stack ≡ old.stack) (ep : new.pairs ≡ old.pairs) (en : new.next ≡ suc old.next)
    (ex : new.context.items ≡ old.context.items ++ from ∷ []) (em : mid ≡ old.tasks.items ++ task.Close ∷ []) (et : new.tasks.items ≡ mid ++ task.Visit body ∷ []) (l : from.0 < length now.types) (fresh : type_tree now from.0 ≡ var old.next) (h : IsTaskIn a (task.Visit body)) where
  more : old.next ≤ new.next
  more = omega (arith, en)

  next_below : Below new.next (var old.next)
  next_below = omega (arith, en)

  abstraction_tidy : IsTidy now new
  abstraction_tidy =
      tidy_on a now old new g y ec ee
      (types_more a now old.next new.next new.context.items old.context.items from g more ex y.context (l, subst (Below new.next) (sym fresh) next_below))
      (types_later a now old.next new.next new.stack.items old.stack.items g more (ap (λ z. z.items) es) y.stack)
      (pairs_later a now old.next new.next new.pairs.items old.pairs.items g more (ap (λ z. z.items) ep) y.pairs)
      (All_pushed (IsTaskIn now) new.tasks.items mid (task.Visit body) et (All_pushed (IsTaskIn now) mid old.tasks.items task.Close em (tasks_later a now old.tasks.items old.tasks.items g refl y.tasks) tt) (task_later a now (task.Visit body) g h))

  abstraction_can : (b : Nodes) → Extends now b → (T : Ty) → Can b old (visiting (abs (tree b body.0)) ∷ []) T → Can b new [] T
  abstraction_can b k T c =
      let θ = c.types in
      let long = extends-trans a now b g k in
      let d = c.derives.1 in
      let κ = also θ old.next d.0 in
      let C = filled_types b θ old.context.items in
      let S = filled_types b θ old.stack.items in
      let js = steps_of b old.tasks.items in
      let agrees = also_agrees θ old.next d.0 in
      let still : (ids : List TypeId) → All (IsTypeBelow a old.next) ids → filled_types b κ ids ≡ filled_types b θ ids = λ ids i. sym (filled_agree b old.next θ κ agrees ids (types_later a b old.next old.next ids ids long (omega arith) refl i)) in
      let first : instance κ (type_tree b from.0) ≡ d.0 = ap (instance κ) (k.same_types from.0 l ∙ fresh) ∙ also_here θ old.next d.0 in
      can_of b κ old new (d.0 ∷ C) S (visiting (tree b body.0) ∷ closing ∷ js) T ec ee
      (subst (λ z. Solves b κ z.items) (sym ep) (solves_agree b old.next θ κ agrees old.pairs.items (pairs_later a b old.next old.next old.pairs.items old.pairs.items long (omega arith) refl y.pairs) c.solves))
      (type_pushed b κ new.context.items old.context.items from ex ∙ (λ j. first j ∷ still old.context.items y.context j))
      (ap (λ z. filled_types b κ z.items) es ∙ still old.stack.items y.stack)
      (step_pushed b new.tasks.items mid (task.Visit body) et ∙ ap (λ s. visiting (tree b body.0) ∷ s) (step_pushed b mid old.tasks.items task.Close em))
      (d.1, d.3, (d.0, d.1, C, S, refl, refl, subst (λ A. Comes (types_of b old) C (A ∷ S) js T) d.2 c.derives.2))

  pub abstraction_keeps : Keeps now old new (λ b. visiting (abs (tree b body.0)) ∷ []) true
  abstraction_keeps = record { tidy = λ q. abstraction_tidy; can = λ b k T c. (refl, abstraction_can b k T c) }

-- an application: its head and then its arguments
applied_back : (τ : Atom → Option Ty) (C S : List Ty) (h : Term) (us : List Term) (js : List Step) (T : Ty) → Comes τ C S (visiting (apply h us) ∷ js) T → Comes τ C S (visiting h ∷ argument_steps us ++ js) T
applied_back τ C S h [] js T c = c
applied_back τ C S h (u ∷ us) js T c =
    let d = applied_back τ C S (app h u) us js T c in
    (arrow d.1.0 d.0, d.1.1, (d.1.0, d.1.2, (d.1.0, d.0, S, refl, d.2)))

pub application_keeps : (now : Nodes) (old new : Typing) (head : TermId) (ids : List TermId) → IsTidy now old → Extends now now → new.constants ≡
    old.constants → new.eigens ≡ old.eigens → new.context ≡ old.context → new.stack ≡ old.stack → new.pairs ≡ old.pairs → new.next ≡ old.next → All
    (IsTaskIn now) new.tasks.items →
    ((b : Nodes) → steps_of b new.tasks.items ≡ visiting (tree b head.0) ∷ argument_steps (map (λ t. tree b t.0) ids) ++ steps_of b old.tasks.items) → Keeps now old new (λ b. visiting (apply (tree b head.0) (map (λ t. tree b t.0) ids)) ∷ []) true
application_keeps now old new head ids y g ec ee ex es ep en ts h =
    let more : old.next ≤ new.next = omega (arith, en) in
    record {
      tidy = λ q.
          tidy_on now now old new g y ec ee (types_later now now old.next new.next new.context.items old.context.items g more (ap (λ z. z.items) ex) y.context) (types_later now now old.next new.next new.stack.items old.stack.items g more (ap (λ z. z.items) es) y.stack)
          (pairs_later now now old.next new.next new.pairs.items old.pairs.items g more (ap (λ z. z.items) ep) y.pairs) ts;
      can = λ b k T c.
          let θ = c.types in (
            refl,
            can_of b θ old new (filled_types b θ old.context.items) (filled_types b θ old.stack.items) (visiting (tree b head.0) ∷ argument_steps (map (λ t. tree b t.0) ids) ++ steps_of b old.tasks.items) T ec ee (subst (λ z. Solves b θ z.items) (sym ep) c.solves)
                (ap (λ z. filled_types b θ z.items) ex) (ap (λ z. filled_types b θ z.items) es) (h b)
                (applied_back (types_of b old) (filled_types b θ old.context.items) (filled_types b θ old.stack.items) (tree b head.0) (map (λ t. tree b t.0) ids) (steps_of b old.tasks.items) T c.derives),
          );
    }

-- an equation: of types of one number, or a pair more
pub equated_same : (old new : Typing) (left right : TypeId) → new.next ≡ old.next → new.pairs ≡ old.pairs → IsEquated old new left right
equated_same old new left right en ep = record {
  next = en;
  solved = λ b θ s e. subst (λ z. Solves b θ z.items) (sym ep) s;
  below = λ b n h l r. subst (λ z. All (IsPairBelow b n) z.items) (sym ep) h;
}

pub equated_push : (old new : Typing) (left right : TypeId) → new.next ≡ old.next → new.pairs.items ≡ old.pairs.items ++ record { left = left; right = right } ∷ [] → IsEquated old new left right
equated_push old new left right en ep = record {
  next = en;
  solved = λ b θ s e. All_pushed (λ (p : Pair). instance θ (type_tree b p.left.0) ≡ instance θ (type_tree b p.right.0)) new.pairs.items old.pairs.items (record { left = left; right = right }) ep s e;
  below = λ b n h l r. All_pushed (IsPairBelow b n) new.pairs.items old.pairs.items (record { left = left; right = right }) ep h (l, r);
}
