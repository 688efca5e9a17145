-- The ends of abstractions and applications keep what can be typed, and so a term that has the type is found to have it.
use Rattle.std.proofs.Common.{◌≡◌, ℕ, suc, ◌<◌, ◌≤◌, List, [], ◌∷◌, ◌++◌, map, reverse, length, refl, sym, ap, subst, ◌∙◌, arith, Bool, true, false}
use Rattle.std.proofs.Math.Path.{transport}
use Rattle.std.specs.Prelude.{All, Result, Ok, Err, IfOk}
use Rattle.lp_base.specs.declared.memory.Memory.{Memory}
use Rattle.std.proofs.lemmas.List.{reverse-reverse}
use Rattle.std.proofs.lemmas.List.Elements.{All-nil, All-cons, All-head, All-tail, All-weaker}
use Rattle.lp_lemmas.proofs.Lists.{cons_head, cons_tail}
use Rattle.lp_lemmas.proofs.Elements.{All_popped}
use Rattle.lp_calculus.specs.Types.{Ty, var, arrow, instance}
use Rattle.lp_calculus.specs.Closed.{IsClosedType, AreClosed, AllAtoms}
use Rattle.lp_calculus.specs.Typing.{HasType, atom_type}
use Rattle.lp_type_laws.specs.Equations.{Below, AllHold, HaveNoSolution}
use Rattle.lp_type_laws.proofs.Types.{instance_agree, instance-var}
use Rattle.lp_type_unify.specs.declared.bindings.Pair.{Pair}
use Rattle.lp_type_unify.specs.Reading.{IsPair, read_pair, read_pairs}
use Rattle.lp_model.specs.Proofs.{under}
use Rattle.lp_model.specs.Readings.{declared_by}
use Rattle.lp_term.specs.Nodes.{Nodes, Extends, tree, type_tree}
use Rattle.lp_term.specs.declared.node.TypeId.{TypeId}
use Rattle.lp_term.specs.declared.node.TermId.{TermId}
use Rattle.lp_term.proofs.Trees.{extends-trans, extends_same}
use Rattle.lp_cert.specs.Inside.{AreDeclaredInside}
use Rattle.lp_cert.specs.Same.{types_in}
use Rattle.lp_cert.specs.inner.Derives.{closing, applying, Comes, step_of, steps_of, filled_types, types_of, Solves, Can, Keeps, KeepsApplied, IsTypeBelow, IsPairBelow, IsTaskIn, IsTidy, IsGrown, IsEquated}
use Rattle.lp_cert.specs.inner.Named.{HasClosedTypes}
use Rattle.lp_cert.specs.declared.typing.Task.{Task}
use Rattle.lp_cert.specs.declared.typing.Task.TheVariants as task
use Rattle.lp_cert.specs.declared.typing.Typing.{Typing}
use Rattle.lp_cert.proofs.Applying.{arrow_seen}
use Rattle.lp_cert.proofs.Closing.{closed_stays}
use Rattle.lp_cert.proofs.ClosedTypes.{closed_below}
use Rattle.lp_cert.proofs.Comparisons.{hold_reversed}
use Rattle.lp_cert.proofs.Deriving.{step_pushed, type_pushed}
use Rattle.lp_cert.proofs.Keeping.{can_of, refused}
use Rattle.lp_cert.proofs.Later.{closed_type_inside}
use Rattle.lp_cert.proofs.Tidy.{also, also_here, also_agrees, filled_agree, solves_agree, type_later, types_later, pairs_later, tasks_later, types_more, tidy_on}

-- an arrow of types below n
arrow_below : (b : Nodes) (n : ℕ) (from to of : TypeId) → of.0 < length b.types → type_tree b of.0 ≡ arrow (type_tree b from.0) (type_tree b to.0) → IsTypeBelow b n from → IsTypeBelow b n to → IsTypeBelow b n of
arrow_below b n from to of l e f t = (l, subst (Below n) (sym e) (f.1, t.1))

-- an abstraction ends
module _ (a now : Nodes) (old new : Typing) (context stack : List TypeId) (from to of : TypeId) (g : Extends a now) (y : IsTidy a old) (ec : new.constants ≡ old.constants) (ee : new.eigens ≡ old.eigens) (ep : new.pairs ≡ old.pairs) (et : new.tasks ≡ old.tasks) (en : new.next ≡ old.next)
    (px : old.context.items ≡ context ++ from ∷ []) (ps : old.stack.items ≡ stack ++ to ∷ []) (ex : new.context.items ≡ context) (es : new.stack.items ≡ stack ++ of ∷ []) (l : of.0 < length now.types) (e : type_tree now of.0 ≡ arrow (type_tree a from.0) (type_tree a to.0)) where
  closed_context : All (IsTypeBelow a old.next) context × IsTypeBelow a old.next from
  closed_context = All_popped (IsTypeBelow a old.next) old.context.items context from px y.context

  closed_stack : All (IsTypeBelow a old.next) stack × IsTypeBelow a old.next to
  closed_stack = All_popped (IsTypeBelow a old.next) old.stack.items stack to ps y.stack

  is_arrow : (b : Nodes) → Extends now b → type_tree b of.0 ≡ arrow (type_tree b from.0) (type_tree b to.0)
  is_arrow b k = arrow_seen a now b from to of g k closed_context.1.0 closed_stack.1.0 l e

  more : old.next ≤ new.next
  more = omega (arith, en)

  closing_tidy : IsTidy now new
  closing_tidy =
      tidy_on a now old new g y ec ee (types_later a now old.next new.next new.context.items context g more ex closed_context.0)
      (types_more a now old.next new.next new.stack.items stack of g more es closed_stack.0
      (arrow_below now new.next from to of l (is_arrow now (extends_same now)) (type_later a now old.next new.next from g more closed_context.1) (type_later a now old.next new.next to g more closed_stack.1)))
      (pairs_later a now old.next new.next new.pairs.items old.pairs.items g more (ap (λ z. z.items) ep) y.pairs) (tasks_later a now new.tasks.items old.tasks.items g (ap (λ z. z.items) et) y.tasks)

  closing_can : (b : Nodes) → Extends now b → (T : Ty) → Can b old (closing ∷ []) T → Can b new [] T
  closing_can b k T c =
      let θ = c.types in
      let d = c.derives in
      let cs = sym (type_pushed b θ old.context.items context from px) ∙ d.4 in
      let ss = sym (type_pushed b θ old.stack.items stack to ps) ∙ d.5 in
      let first = cons_head _ _ _ _ cs in
      let second = cons_head _ _ _ _ ss in
      let below = cons_tail _ _ _ _ ss in
      let made : instance θ (type_tree b of.0) ≡ arrow d.0 d.1 = ap (instance θ) (is_arrow b k) ∙ (λ j. arrow (first j) (second j)) in
      can_of b θ old new d.2 (arrow d.0 d.1 ∷ d.3) (steps_of b old.tasks.items) T ec ee (subst (λ z. Solves b θ z.items) (sym ep) c.solves) (ap (filled_types b θ) ex ∙ cons_tail _ _ _ _ cs)
      (type_pushed b θ new.stack.items stack of es ∙ (λ j. made j ∷ below j)) (ap (λ z. steps_of b z.items) et) d.6

  pub closing_keeps : Keeps now old new (λ b. closing ∷ []) true
  closing_keeps = record { tidy = λ q. closing_tidy; can = λ b k T c. (refl, closing_can b k T c) }

pub closing_no_type : (now : Nodes) (old new : Typing) → old.stack.items ≡ [] → Keeps now old new (λ b. closing ∷ []) false
closing_no_type now old new e = refused now old new (λ b. closing ∷ []) (λ b g T c. let none = ap (filled_types b c.types) e in let some = c.derives.5 in absurd (cc))

pub closing_no_variable : (now : Nodes) (old new : Typing) → old.context.items ≡ [] → Keeps now old new (λ b. closing ∷ []) false
closing_no_variable now old new e = refused now old new (λ b. closing ∷ []) (λ b g T c. let none = ap (filled_types b c.types) e in let some = c.derives.4 in absurd (cc))

-- the last of the types stands in the bank
pub last_inside : (b : Nodes) (n : ℕ) (all ids : List TypeId) (t : TypeId) (P : Type 0) → all ≡ ids ++ t ∷ [] → All (IsTypeBelow b n) all → length b.types ≤ t.0 → P
last_inside b n all ids t P e h l = let k = (All_popped (IsTypeBelow b n) all ids t e h).1.0 in absurd (omega (arith, k, l))

-- the two types on top, where an application can be ended
module _ (b : Nodes) (old : Typing) (mid stack : List TypeId) (head argument : TypeId) (es : old.stack.items ≡ mid ++ argument ∷ []) (em : mid ≡ stack ++ head ∷ []) (T : Ty) (c : Can b old (applying ∷ []) T) where
  tops : instance c.types (type_tree b argument.0) ∷ instance c.types (type_tree b head.0) ∷ filled_types b c.types stack ≡ c.derives.0 ∷ arrow c.derives.0 c.derives.1 ∷ c.derives.2
  tops = sym (type_pushed b c.types old.stack.items mid argument es ∙ ap (λ S. instance c.types (type_tree b argument.0) ∷ S) (type_pushed b c.types mid stack head em)) ∙ c.derives.3

  argument_is : instance c.types (type_tree b argument.0) ≡ c.derives.0
  argument_is = cons_head _ _ _ _ tops

  head_is : instance c.types (type_tree b head.0) ≡ arrow c.derives.0 c.derives.1
  head_is = cons_head _ _ _ _ (cons_tail _ _ _ _ tops)

  rest_is : filled_types b c.types stack ≡ c.derives.2
  rest_is = cons_tail _ _ _ _ (cons_tail _ _ _ _ tops)

arrow_parts : (A B C D : Ty) → arrow A B ≡ arrow C D → (A ≡ C) × (B ≡ D)
arrow_parts A B C D e = (cc, cc)

-- a head that is a function: x is the typing behind the equation
module _ (now : Nodes) (old x new : Typing) (mid stack : List TypeId) (head argument from to : TypeId) (y : IsTidy now old) (g : Extends now now)
    (es : old.stack.items ≡ mid ++ argument ∷ []) (em : mid ≡ stack ++ head ∷ []) (ec : new.constants ≡ old.constants) (ee : new.eigens ≡ old.eigens)
    (ex : new.context ≡ old.context)
    (et : new.tasks ≡ old.tasks) (en : new.next ≡ old.next) (ep : new.pairs ≡ x.pairs) (solved : (b : Nodes) (θ : ℕ → Ty) → Solves b θ old.pairs.items → instance θ (type_tree b from.0) ≡ instance θ (type_tree b argument.0) → Solves b θ x.pairs.items)
    (below : (b : Nodes) (n : ℕ) → All (IsPairBelow b n) old.pairs.items → IsTypeBelow b n from → IsTypeBelow b n argument → All (IsPairBelow b n) x.pairs.items) (made : new.stack.items ≡ stack ++ to ∷ []) (lf : from.0 < length now.types) (lt : to.0 < length now.types)
    (is : (b : Nodes) → Extends now b → type_tree b head.0 ≡ arrow (type_tree b from.0) (type_tree b to.0)) where
  two : All (IsTypeBelow now old.next) mid × IsTypeBelow now old.next argument
  two = All_popped (IsTypeBelow now old.next) old.stack.items mid argument es y.stack

  one : All (IsTypeBelow now old.next) stack × IsTypeBelow now old.next head
  one = All_popped (IsTypeBelow now old.next) mid stack head em two.0

  parts : Below old.next (type_tree now from.0) × Below old.next (type_tree now to.0)
  parts = subst (Below old.next) (is now g) one.1.1

  arrow_tidy : IsTidy now new
  arrow_tidy =
      let more : old.next ≤ new.next = omega (arith, en) in
      tidy_on now now old new g y ec ee (types_later now now old.next new.next new.context.items old.context.items g more (ap (λ z. z.items) ex) y.context) (types_more now now old.next new.next new.stack.items stack to g more made one.0 (type_later now now old.next new.next to g more (lt, parts.1)))
      (pairs_later now now old.next new.next new.pairs.items x.pairs.items g more (ap (λ z. z.items) ep) (below now old.next y.pairs (lf, parts.0) two.1)) (tasks_later now now new.tasks.items old.tasks.items g (ap (λ z. z.items) et) y.tasks)

  arrow_can : (b : Nodes) → Extends now b → (T : Ty) → Can b old (applying ∷ []) T → Can b new [] T
  arrow_can b k T c =
      let θ = c.types in
      let d = c.derives in
      let p = arrow_parts _ _ _ _ (sym (ap (instance θ) (is b k)) ∙ head_is b old mid stack head argument es em T c) in
      can_of b θ old new (filled_types b θ old.context.items) (d.1 ∷ d.2) (steps_of b old.tasks.items) T ec ee (subst (λ z. Solves b θ z.items) (sym ep) (solved b θ c.solves (p.0 ∙ sym (argument_is b old mid stack head argument es em T c))))
      (ap (λ z. filled_types b θ z.items) ex) (type_pushed b θ new.stack.items stack to made ∙ (λ j. p.1 j ∷ rest_is b old mid stack head argument es em T c j)) (ap (λ z. steps_of b z.items) et) d.4

  pub arrow_keeps : Keeps now old new (λ b. applying ∷ []) true
  arrow_keeps = record { tidy = λ q. arrow_tidy; can = λ b k T c. (refl, arrow_can b k T c) }

pub applying_none : (now : Nodes) (old new : Typing) → old.stack.items ≡ [] → Keeps now old new (λ b. applying ∷ []) false
applying_none now old new e = refused now old new (λ b. applying ∷ []) (λ b g T c. let none = ap (filled_types b c.types) e in let some = c.derives.3 in absurd (cc))

pub applying_one : (now : Nodes) (old new : Typing) (mid : List TypeId) (argument : TypeId) → old.stack.items ≡ mid ++ argument ∷ [] → mid ≡ [] → Keeps now old new (λ b. applying ∷ []) false
applying_one now old new mid argument e f = refused now old new (λ b. applying ∷ []) (λ b g T c.
    let none = sym (type_pushed b c.types old.stack.items mid argument e ∙ ap (λ ids. instance c.types (type_tree b argument.0) ∷ filled_types b c.types ids) f) ∙ c.derives.3 in
    let tail = cons_tail _ _ _ _ none in
    absurd (cc))

-- a head that may be a function of any type: x has one more variable, and z the equation; m is the bank with the variable
module _ (a m now : Nodes) (old x z new : Typing) (head argument to of : TypeId) (g : Extends a m) (h : Extends m now) (y : IsTidy a old) (lh : IsTypeBelow a old.next head) (la : IsTypeBelow a old.next argument) (grown : IsGrown old x) (nx : x.next ≡ suc old.next) (eq : IsEquated x z head of)
    (ec : new.constants ≡ x.constants) (ee : new.eigens ≡ x.eigens) (ex : new.context ≡ x.context) (et : new.tasks ≡ x.tasks) (es : new.stack.items ≡ old.stack.items ++ to ∷ []) (en : new.next ≡ z.next) (ep : new.pairs ≡ z.pairs) (lt : to.0 < length m.types) (fresh : type_tree m to.0 ≡ var old.next)
    (lo : of.0 < length now.types) (is : type_tree now of.0 ≡ arrow (type_tree m argument.0) (type_tree m to.0)) where
  long : Extends a now
  long = extends-trans a m now g h

  next_is : new.next ≡ suc old.next
  next_is = en ∙ eq.next ∙ nx

  any_more : old.next ≤ new.next
  any_more = omega (arith, next_is)

  argument_there : argument.0 < length m.types
  argument_there = let k = la.0 in let n = g.more_types in omega (arith, k, n)

  any_arrow : (b : Nodes) → Extends now b → type_tree b of.0 ≡ arrow (type_tree b argument.0) (type_tree b to.0)
  any_arrow b k = arrow_seen m now b argument to of h k argument_there lt lo is

  to_fresh : (b : Nodes) → Extends now b → type_tree b to.0 ≡ var old.next
  to_fresh b k = (extends-trans m now b h k).same_types to.0 lt ∙ fresh

  to_below : IsTypeBelow now new.next to
  to_below = (let n = h.more_types in omega (arith, n, lt), subst (Below new.next) (sym (to_fresh now (extends_same now))) (let q : old.next < new.next = omega (arith, next_is) in q))

  any_tidy : IsTidy now new
  any_tidy =
      tidy_on a now old new long y (ec ∙ grown.rest.constants) (ee ∙ grown.rest.eigens) (types_later a now old.next new.next new.context.items old.context.items long any_more (ap (λ c. c.items) (ex ∙ grown.rest.context)) y.context)
      (types_more a now old.next new.next new.stack.items old.stack.items to long any_more es y.stack to_below)
      (subst (λ ps. All (IsPairBelow now new.next) ps.items) (sym ep)
      (eq.below now new.next (pairs_later a now old.next new.next x.pairs.items old.pairs.items long any_more (ap (λ c. c.items) grown.rest.pairs) y.pairs) (type_later a now old.next new.next head long any_more lh)
      (arrow_below now new.next argument to of lo (any_arrow now (extends_same now)) (type_later a now old.next new.next argument long any_more la) to_below)))
      (tasks_later a now new.tasks.items old.tasks.items long (ap (λ c. c.items) (et ∙ grown.rest.tasks)) y.tasks)

  any_can : (b : Nodes) → Extends now b → (θ : ℕ → Ty) → (T B : Ty) → Solves b θ old.pairs.items → instance θ (type_tree b head.0) ≡ arrow (instance θ (type_tree b argument.0)) B →
      Comes (types_of b old) (filled_types b θ old.context.items) (B ∷ filled_types b θ old.stack.items) (steps_of b old.tasks.items) T → Can b new [] T
  any_can b k θ T B s e d =
      let κ = also θ old.next B in
      let agrees = also_agrees θ old.next B in
      let far = extends-trans a now b long k in
      let still : (ids : List TypeId) → All (IsTypeBelow a old.next) ids → filled_types b κ ids ≡ filled_types b θ ids = λ ids i. sym (filled_agree b old.next θ κ agrees ids (types_later a b old.next old.next ids ids far (omega arith) refl i)) in
      let same : (t : TypeId) → IsTypeBelow a old.next t → instance θ (type_tree b t.0) ≡ instance κ (type_tree b t.0) = λ t i. instance_agree old.next θ κ agrees (type_tree b t.0) (type_later a b old.next old.next t far (omega arith) i).1 in
      let new_is : instance κ (type_tree b to.0) ≡ B = ap (instance κ) (to_fresh b k) ∙ also_here θ old.next B in
      let equal : instance κ (type_tree b head.0) ≡ instance κ (type_tree b of.0) = sym (same head lh) ∙ e ∙ (λ j. arrow (same argument la j) (sym new_is j)) ∙ sym (ap (instance κ) (any_arrow b k)) in
      can_of b κ old new (filled_types b θ old.context.items) (B ∷ filled_types b θ old.stack.items) (steps_of b old.tasks.items) T (ec ∙ grown.rest.constants) (ee ∙ grown.rest.eigens)
      (subst (λ ps. Solves b κ ps.items) (sym ep)
      (eq.solved b κ (subst (λ ps. Solves b κ ps.items) (sym grown.rest.pairs) (solves_agree b old.next θ κ agrees old.pairs.items (pairs_later a b old.next old.next old.pairs.items old.pairs.items far (omega arith) refl y.pairs) s)) equal))
      (ap (λ c. filled_types b κ c.items) (ex ∙ grown.rest.context) ∙ still old.context.items y.context) (type_pushed b κ new.stack.items old.stack.items to es ∙ (λ j. new_is j ∷ still old.stack.items y.stack j)) (ap (λ c. steps_of b c.items) (et ∙ grown.rest.tasks)) d

  pub any_keeps : KeepsApplied now old new head argument
  any_keeps = record { tidy = any_tidy; can = any_can }

-- p is the typing without the two types that were taken off
pub applied_keeps : (now : Nodes) (old p new : Typing) (mid : List TypeId) (head argument : TypeId) (done : Bool) → old.stack.items ≡ mid ++ argument
    ∷ [] → mid ≡ p.stack.items ++ head ∷ [] → p.constants ≡ old.constants → p.eigens ≡ old.eigens → p.context ≡ old.context → p.pairs ≡ old.pairs →
    p.tasks ≡ old.tasks →
    (done ≡ true) × KeepsApplied now p new head argument → Keeps now old new (λ b. applying ∷ []) done
applied_keeps now old p new mid head argument done es em ec ee ex ep et h = record {
  tidy = λ q. h.1.tidy;
  can = λ b k T c.
      let θ = c.types in
      let d = c.derives in (
        h.0,
        h.1.can b k θ T d.1 (subst (λ z. Solves b θ z.items) (sym ep) c.solves) (head_is b old mid p.stack.items head argument es em T c ∙ ap (λ A. arrow A d.1) (sym (argument_is b old mid p.stack.items head argument es em T c)))
            (transport (λ j. Comes (atom_type (under (declared_by b (sym ec j).now) (types_in b (sym ee j).now))) (filled_types b θ (sym ex j).items) (d.1 ∷ sym (rest_is b old mid p.stack.items head argument es em T c) j) (steps_of b (sym et j).items) T) d.4),
      );
}

pub any_kept : (a now : Nodes) (old p new : Typing) (mid : List TypeId) (head argument : TypeId) (r : Result Bool Memory) → old.stack.items ≡ mid ++
    argument ∷ [] → mid ≡ p.stack.items ++ head ∷ [] → p.constants ≡ old.constants → p.eigens ≡ old.eigens → p.context ≡ old.context → p.pairs ≡
    old.pairs → p.tasks ≡ old.tasks → p.next ≡ old.next →
    IfOk r (λ done. IsTidy a p → IsTypeBelow a p.next head → IsTypeBelow a p.next argument → (done ≡ true) × KeepsApplied now p new head argument) → IfOk r (λ done. IsTidy a old → Keeps now old new (λ b. applying ∷ []) done)
any_kept a now old p new mid head argument (Err x) es em ec ee ex ep et en h = tt
any_kept a now old p new mid head argument (Ok done) es em ec ee ex ep et en h = λ y.
    let g = extends_same a in
    let more : old.next ≤ p.next = omega (arith, en) in
    let two = All_popped (IsTypeBelow a old.next) old.stack.items mid argument es y.stack in
    let one = All_popped (IsTypeBelow a old.next) mid p.stack.items head em two.0 in
    let tidy = tidy_on a a old p g y ec ee (types_later a a old.next p.next p.context.items old.context.items g more (ap (λ z. z.items) ex) y.context) (types_later a a old.next p.next p.stack.items p.stack.items g more refl one.0)
    (pairs_later a a old.next p.next p.pairs.items old.pairs.items g more (ap (λ z. z.items) ep) y.pairs) (tasks_later a a p.tasks.items old.tasks.items g (ap (λ z. z.items) et) y.tasks) in
    applied_keeps now old p new mid head argument done es em ec ee ex ep et (h tidy (type_later a a old.next p.next head g more one.1) (type_later a a old.next p.next argument g more two.1))

-- p is y without the task that was taken off
pub task_taken : (b : Nodes) (y p : Typing) (t : Task) (T : Ty) → y.tasks.items ≡ p.tasks.items ++ t ∷ [] → p.constants ≡ y.constants → p.eigens ≡ y.eigens → p.context ≡ y.context → p.stack ≡ y.stack → p.pairs ≡ y.pairs → Can b y [] T → Can b p (step_of b t ∷ []) T
task_taken b y p t T e ec ee ex es ep c = record {
  types = c.types;
  solves = subst (λ z. Solves b c.types z.items) (sym ep) c.solves;
  derives = transport (λ j. Comes (atom_type (under (declared_by b (sym ec j).now) (types_in b (sym ee j).now))) (filled_types b c.types (sym ex j).items) (filled_types b c.types (sym es j).items) (step_pushed b y.tasks.items p.tasks.items t e j) T) c.derives;
}

pub taken_tidy : (b : Nodes) (y p : Typing) (t : Task) → y.tasks.items ≡ p.tasks.items ++ t ∷ [] → p.constants ≡ y.constants → p.eigens ≡ y.eigens → p.context ≡ y.context → p.stack ≡ y.stack → p.pairs ≡ y.pairs → p.next ≡ y.next → IsTidy b y → IsTidy b p × IsTaskIn b t
taken_tidy b y p t e ec ee ex es ep en h =
    let g = extends_same b in
    let l : y.next ≤ p.next = omega (arith, en) in
    let ts = All_popped (IsTaskIn b) y.tasks.items p.tasks.items t e h.tasks in (
      tidy_on b b y p g h ec ee (types_later b b y.next p.next p.context.items y.context.items g l (ap (λ z. z.items) ex) h.context) (types_later b b y.next p.next p.stack.items y.stack.items g l (ap (λ z. z.items) es) h.stack)
          (pairs_later b b y.next p.next p.pairs.items y.pairs.items g l (ap (λ z. z.items) ep) h.pairs) ts.0,
      ts.1,
    )

-- the term with its type, before anything is done
pub typed_can : (b : Nodes) (y : Typing) (term : TermId) (T : Ty) → y.context.items ≡ [] → y.stack.items ≡ [] → y.pairs.items ≡ [] → y.tasks.items ≡ task.Visit term ∷ [] → HasType (types_of b y) [] (tree b term.0) T → Can b y [] T
typed_can b y term T ex es ep et h = record {
  types = var;
  solves = subst (Solves b var) (sym ep) (All-nil (λ (p : Pair). instance var (type_tree b p.left.0) ≡ instance var (type_tree b p.right.0)));
  derives = transport (λ j. Comes (types_of b y) (filled_types b var (sym ex j)) (filled_types b var (sym es j)) (steps_of b (sym et j)) T) (T, h, ([], refl));
}

pub first_tidy : (b : Nodes) (y : Typing) (term : TermId) → y.context.items ≡ [] → y.stack.items ≡ [] → y.pairs.items ≡ [] → y.tasks.items ≡
    task.Visit term ∷ [] → AreClosed (types_in b y.eigens.now) → AreDeclaredInside (length b.types) y.constants.now → AllAtoms HasClosedTypes
    (tree b term.0) → term.0 < length b.terms → IsTidy b y
first_tidy b y term ex es ep et eigens constants h l = record {
  context = subst (All (IsTypeBelow b y.next)) (sym ex) (All-nil (IsTypeBelow b y.next));
  stack = subst (All (IsTypeBelow b y.next)) (sym es) (All-nil (IsTypeBelow b y.next));
  pairs = subst (All (IsPairBelow b y.next)) (sym ep) (All-nil (IsPairBelow b y.next));
  tasks = subst (All (IsTaskIn b)) (sym et) (All-cons (IsTaskIn b) (task.Visit term) [] (l, h) (All-nil (IsTaskIn b)));
  eigens = eigens;
  constants = constants;
}

-- a solution in a later bank is one of the equations that were read
hold_here : (now b : Nodes) (θ : ℕ → Ty) (ps : List Pair) → Extends now b → All (IsPair (length now.types)) ps → Solves b θ ps → AllHold θ (map (read_pair (type_tree now) var) ps)
hold_here now b θ [] g i s = tt
hold_here now b θ (p ∷ ps) g i s =
    let inside = All-head (IsPair (length now.types)) p ps i in
    let plain : (T : Ty) → instance θ (instance var T) ≡ instance θ T = λ T. ap (instance θ) (instance-var T) in (
      plain (type_tree now p.left.0) ∙ sym (ap (instance θ) (g.same_types p.left.0 inside.0)) ∙ All-head (λ (q : Pair). instance θ (type_tree b q.left.0) ≡ instance θ (type_tree b q.right.0)) p ps s ∙ ap (instance θ) (g.same_types p.right.0 inside.1) ∙ sym (plain (type_tree now p.right.0)),
      hold_here now b θ ps g (All-tail (IsPair (length now.types)) p ps i) (All-tail (λ (q : Pair). instance θ (type_tree b q.left.0) ≡ instance θ (type_tree b q.right.0)) p ps s),
    )

pub no_solution : (now b : Nodes) (θ : ℕ → Ty) (ps : List Pair) → Extends now b → All (IsPair (length now.types)) ps → Solves b θ ps → HaveNoSolution (read_pairs (type_tree now) var ps) → ⊥
no_solution now b θ ps g i s none =
    let es = map (read_pair (type_tree now) var) ps in
    none θ (hold_reversed θ (reverse es) (subst (AllHold θ) (sym (reverse-reverse es)) (hold_here now b θ ps g i s)))

-- the end: x is the typing when nothing was left to do, last the one with the equation of the type that was found with the one that was asked for
pub untyped_at_end : (a now b : Nodes) (x last : Typing) (pairs : List Pair) (rest : List TypeId) (found of : TypeId) → Extends a now → Extends now b
    → x.tasks.items ≡ [] → x.stack.items ≡ rest ++ found ∷ [] → pairs ≡ last.pairs.items → IsClosedType (type_tree a of.0) → IsTidy now x → IsEquated
    x last found of →
    (All (IsPair (length now.types)) pairs → HaveNoSolution (read_pairs (type_tree now) var pairs)) → Can b x [] (type_tree b of.0) → ⊥
untyped_at_end a now b x last pairs rest found of g k et ex ep closed y eq none c =
    let θ = c.types in
    let long = extends-trans a now b g k in
    let l = closed_type_inside a of.0 closed in
    let in_now : IsTypeBelow now x.next of = (let m = g.more_types in omega (arith, m, l), subst (Below x.next) (sym (g.same_types of.0 l)) (closed_below x.next (type_tree a of.0) closed)) in
    let below = eq.below now x.next y.pairs (All_popped (IsTypeBelow now x.next) x.stack.items rest found ex y.stack).1 in_now in
    let inside : All (IsPair (length now.types)) pairs = subst (All (IsPair (length now.types))) (sym ep) (All-weaker (IsPairBelow now x.next) (IsPair (length now.types)) (λ p i. (i.0.0, i.1.0)) last.pairs.items below) in
    let at_end : Comes (types_of b x) (filled_types b θ x.context.items) (filled_types b θ x.stack.items) [] (type_tree b of.0) = subst (λ ts. Comes (types_of b x) (filled_types b θ x.context.items) (filled_types b θ x.stack.items) (steps_of b ts) (type_tree b of.0)) et c.derives in
    let found_is : instance θ (type_tree b found.0) ≡ type_tree b of.0 = cons_head _ _ _ _ (sym (type_pushed b θ x.stack.items rest found ex) ∙ at_end.1) in
    let stays = closed_stays θ (type_tree b of.0) (subst IsClosedType (sym (long.same_types of.0 l)) closed) in
    no_solution now b θ pairs k inside (subst (Solves b θ) (sym ep) (eq.solved b θ c.solves (found_is ∙ sym stays))) (none inside)

-- nothing is on the stack
pub nothing_found : (b : Nodes) (x : Typing) (T : Ty) → x.tasks.items ≡ [] → x.stack.items ≡ [] → Can b x [] T → ⊥
nothing_found b x T et ex c =
    let θ = c.types in
    let at_end : Comes (types_of b x) (filled_types b θ x.context.items) [] [] T = transport (λ j. Comes (types_of b x) (filled_types b θ x.context.items) (filled_types b θ (ex j)) (steps_of b (et j)) T) c.derives in
    let e = at_end.1 in
    absurd (cc)

-- x is the typing when nothing was left to do, new the same behind the look for one more task
pub ended_keeps : (now : Nodes) (old x new : Typing) → x.tasks.items ≡ [] → new.tasks.items ≡ [] → new.constants ≡ x.constants → new.eigens ≡ x.eigens
    → new.context ≡ x.context → new.stack ≡ x.stack → new.pairs ≡ x.pairs → new.next ≡ x.next → IsTidy now x →
    ((b : Nodes) → Extends now b → (T : Ty) → Can b old [] T → Can b x [] T) →
    Keeps now old new (λ b. []) true
ended_keeps now old x new et en ec ee ex es ep nx y h =
    let g = extends_same now in
    let more : x.next ≤ new.next = omega (arith, nx) in
    record {
      tidy = λ q.
          tidy_on now now x new g y ec ee (types_later now now x.next new.next new.context.items x.context.items g more (ap (λ z. z.items) ex) y.context) (types_later now now x.next new.next new.stack.items x.stack.items g more (ap (λ z. z.items) es) y.stack)
          (pairs_later now now x.next new.next new.pairs.items x.pairs.items g more (ap (λ z. z.items) ep) y.pairs) (tasks_later now now new.tasks.items x.tasks.items g (en ∙ sym et) y.tasks);
      can = λ b k T c.
          let d = h b k T c in (
            refl,
            can_of b d.types x new (filled_types b d.types x.context.items) (filled_types b d.types x.stack.items) (steps_of b x.tasks.items) T ec ee (subst (λ z. Solves b d.types z.items) (sym ep) d.solves) (ap (λ z. filled_types b d.types z.items) ex)
                (ap (λ z. filled_types b d.types z.items) es) (ap (steps_of b) (en ∙ sym et)) d.derives,
          );
    }

-- the beginning of a typing: y has the term to visit and nothing else
module _ (a now : Nodes) (y x : Typing) (term : TermId) (done : Bool) (g : Extends a now) (ex : y.context.items ≡ []) (es : y.stack.items ≡ [])
    (ep : y.pairs.items ≡ []) (et : y.tasks.items ≡ task.Visit term ∷ []) (keeps : IsTidy a y → Keeps now y x (λ b. []) done)
    (h : AllAtoms HasClosedTypes (tree a term.0)) (l : term.0 < length a.terms)
    (eigens : AreClosed (types_in a y.eigens.now)) (constants : AreDeclaredInside (length a.types) y.constants.now) where
  kept_on : Keeps now y x (λ b. []) done
  kept_on = keeps (first_tidy a y term ex es ep et eigens constants h l)

  pub reached : (b : Nodes) → Extends now b → (T : Ty) → HasType (types_of b y) [] (tree b term.0) T → (done ≡ true) × Can b x [] T
  reached b k T d = kept_on.can b k T (typed_can b y term T ex es ep et d)

  pub reached_tidy : done ≡ true → IsTidy now x
  reached_tidy = kept_on.tidy

pub untyped_result : (a now : Nodes) (y x last : Typing) (pairs : List Pair) (rest : List TypeId) (term : TermId) (found of : TypeId) (done : Bool) (r : Result Bool Memory) → Extends a now → y.context.items ≡ [] → y.stack.items ≡ [] → y.pairs.items ≡ [] → y.tasks.items ≡ task.Visit term ∷ [] →
    (IsTidy a y → Keeps now y x (λ b. []) done) → done ≡ true → x.tasks.items ≡ [] → x.stack.items ≡ rest ++ found ∷ [] → pairs ≡ last.pairs.items → IsEquated x last found of →
    IfOk r (λ ok. ok ≡ false → All (IsPair (length now.types)) pairs → HaveNoSolution (read_pairs (type_tree now) var pairs)) →
    IfOk r (λ ok. ok ≡ false → AllAtoms HasClosedTypes (tree a term.0) → term.0 < length a.terms → IsClosedType (type_tree a of.0) → AreClosed (types_in a y.eigens.now) → AreDeclaredInside (length a.types) y.constants.now →
    (b : Nodes) → Extends now b → HasType (types_of b y) [] (tree b term.0) (type_tree b of.0) → ⊥)
untyped_result a now y x last pairs rest term found of done (Err z) g ex es ep et keeps e xt xs lp eq none = tt
untyped_result a now y x last pairs rest term found of done (Ok z) g ex es ep et keeps e xt xs lp eq none = λ q h l closed eigens constants b k d.
    untyped_at_end a now b x last pairs rest found of g k xt xs lp closed (reached_tidy a now y x term done g ex es ep et keeps h l eigens constants e) eq (none q) (reached a now y x term done g ex es ep et keeps h l eigens constants b k (type_tree b of.0) d).1
