-- A head on an argument: its type is an arrow, or becomes one.
use Rattle.std.proofs.Common.{◌≡◌, ℕ, ◌<◌, List, [], ◌∷◌, ◌++◌, length, sym, ap, subst, ◌∙◌}
use Rattle.std.proofs.Math.Path.{transport}
use Rattle.std.specs.Prelude.{Result, Ok, Err, IfOk, Bool, true}
use Rattle.lp_base.specs.declared.memory.Memory.{Memory}
use Rattle.lp_calculus.specs.Types.{Ty, arrow, instance}
use Rattle.lp_calculus.specs.Typing.{atom_type}
use Rattle.lp_term.specs.Nodes.{Nodes, Extends, type_tree}
use Rattle.lp_term.specs.declared.node.TypeId.{TypeId}
use Rattle.lp_term.proofs.Trees.{extends-trans}
use Rattle.lp_model.specs.Proofs.{under}
use Rattle.lp_model.specs.Readings.{declared_by}
use Rattle.lp_cert.specs.Same.{types_in}
use Rattle.lp_cert.specs.inner.Derives.{applying, Comes, steps_of, filled_types, types_of, Solves, IsGrown, Taken, Applies}
use Rattle.lp_cert.specs.declared.typing.Typing.{Typing}
use Rattle.lp_cert.proofs.Deriving.{type_pushed, apply_moves}

-- an arrow that was put
pub arrow_seen : (a n b : Nodes) (from to made : TypeId) → Extends a n → Extends n b → from.0 < length a.types → to.0 < length a.types → made.0 < length n.types → type_tree n made.0 ≡ arrow (type_tree a from.0) (type_tree a to.0) → type_tree b made.0 ≡ arrow (type_tree b from.0) (type_tree b to.0)
arrow_seen a n b from to made g h l m k e =
    let long = extends-trans a n b g h in
    h.same_types made.0 k ∙ e ∙ (λ j. arrow (sym (long.same_types from.0 l) j) (sym (long.same_types to.0 m) j))

pub any_solves : (b : Nodes) (θ : ℕ → Ty) (old x y : Typing) (made : List TypeId) (head argument to of : TypeId) → IsGrown old x → Taken x y head of → made ≡ y.stack.items ++ to ∷ [] → type_tree b of.0 ≡ arrow (type_tree b argument.0) (type_tree b to.0) → Solves b θ y.pairs.items →
    Solves b θ old.pairs.items × ((B : Ty) × (instance θ (type_tree b head.0) ≡ arrow (instance θ (type_tree b argument.0)) B) × (filled_types b θ made ≡ B ∷ filled_types b θ old.stack.items))
any_solves b θ old x y made head argument to of g t e a s =
    let q = t.solves b θ s in (
      subst (λ z. Solves b θ z.items) g.rest.pairs q.0,
      (instance θ (type_tree b to.0), q.1 ∙ ap (instance θ) a, type_pushed b θ made y.stack.items to e ∙ ap (λ z. instance θ (type_tree b to.0) ∷ filled_types b θ z.items) (t.stack ∙ g.stack)),
    )

-- y is the typing without the two types that were taken off, x behind the equation
pub arrow_moves : (b : Nodes) (θ : ℕ → Ty) (y x : Typing) (stacks mid made : List TypeId) (head argument from to : TypeId) (T : Ty) → stacks ≡ mid ++
    argument ∷ [] → mid ≡ y.stack.items ++ head ∷ [] → Taken y x from argument → type_tree b head.0 ≡ arrow (type_tree b from.0) (type_tree b to.0) →
    made ≡ x.stack.items ++ to ∷ [] →
    Solves b θ x.pairs.items → Comes (types_of b x) (filled_types b θ x.context.items) (filled_types b θ made) (steps_of b x.tasks.items) T → Solves b θ y.pairs.items × Comes (types_of b y) (filled_types b θ y.context.items) (filled_types b θ stacks) (applying ∷ steps_of b y.tasks.items) T
arrow_moves b θ y x stacks mid made head argument from to T es em t eh ed s d =
    let q = t.solves b θ s in (
      q.0,
      apply_moves b b θ (types_of b y) (filled_types b θ y.context.items) stacks mid y.stack.items made (steps_of b y.tasks.items) head argument T es em (instance θ (type_tree b to.0))
          (type_pushed b θ made x.stack.items to ed ∙ ap (λ z. instance θ (type_tree b to.0) ∷ filled_types b θ z.items) t.stack) (ap (instance θ) eh ∙ ap (λ A. arrow A (instance θ (type_tree b to.0))) q.1)
          (transport (λ j. Comes (atom_type (under (declared_by b (t.constants j).now) (types_in b (t.eigens j).now))) (filled_types b θ (t.context j).items) (filled_types b θ made) (steps_of b (t.tasks j).items) T) d),
    )

pub any_moves : (now : Nodes) (y x : Typing) (stacks mid : List TypeId) (head argument : TypeId) (r : Result Bool Memory) → stacks ≡ mid ++ argument ∷ [] → mid ≡ y.stack.items ++ head ∷ [] → IfOk r (λ yes. yes ≡ true → Applies now y x head argument) →
    IfOk r (λ yes. yes ≡ true → (b : Nodes) → Extends now b → (θ : ℕ → Ty) → (T : Ty) → Solves b θ x.pairs.items → Comes (types_of b x) (filled_types b θ x.context.items) (filled_types b θ x.stack.items) (steps_of b x.tasks.items) T →
    Solves b θ y.pairs.items × Comes (types_of b y) (filled_types b θ y.context.items) (filled_types b θ stacks) (applying ∷ steps_of b y.tasks.items) T)
any_moves now y x stacks mid head argument (Err z) es em a = tt
any_moves now y x stacks mid head argument (Ok z) es em a = λ e b g θ T s d.
    let t = a e in
    let q = t.solves b g θ s in (
      q.0,
      apply_moves b b θ (types_of b y) (filled_types b θ y.context.items) stacks mid y.stack.items x.stack.items (steps_of b y.tasks.items) head argument T es em q.1.0 q.1.2 q.1.1
          (transport (λ j. Comes (atom_type (under (declared_by b (t.constants j).now) (types_in b (t.eigens j).now))) (filled_types b θ (t.context j).items) (filled_types b θ x.stack.items) (steps_of b (t.tasks j).items) T) d),
    )
