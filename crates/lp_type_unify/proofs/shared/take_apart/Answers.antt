use Rattle.std.proofs.Common.{◌≡◌, ◌∙◌, ◌++◌, ◌∷◌, [], inl, inr, refl, sym, ap, subst, length, map}
use Rattle.lp_calculus.specs.Types.{instance}
use Rattle.lp_term.specs.Nodes.{type_tree}
use Rattle.lp_type_laws.specs.Equations.{equation}
use Rattle.lp_type_laws.specs.Solving.{turn, clashes, goes}
use Rattle.lp_type_unify.specs.declared.shared.Task.{Task}
use Rattle.lp_type_unify.specs.Reading.{read_pairs}
use Rattle.lp_type_unify.proofs.Binds.{made_instance}
use Rattle.lp_type_unify.proofs.Roots.{made_goes, made_clashes, takes_known}
use Rattle.lp_type_unify.proofs.shared.take_apart.Goals as goal

pub returns-then-left-right-clause-apart : goal.returns-then-left-right-clause-apart
returns-then-left-right-clause-apart c = λ θ h.
    let τ = type_tree c.args.bank.now in
    let n = length c.args.bank.now.types in
    let l = c.root-left.ensures τ θ n h in
    let r = c.root-right.ensures τ θ n h in
    inl (refl, sym l.same ∙ ap (λ i. instance θ (τ i)) c.if-left-right.true ∙ r.same)

pub split-requires-clause-left : goal.split-requires-clause-left
split-requires-clause-left c = (c.root-left.ensures (type_tree c.args.bank.now) c.requires.joined.0 (length c.args.bank.now.types) c.requires.joined.1).known c.requires.one

pub split-requires-clause-right : goal.split-requires-clause-right
split-requires-clause-right c = (c.root-right.ensures (type_tree c.args.bank.now) c.requires.joined.0 (length c.args.bank.now.types) c.requires.joined.1).known c.requires.other

pub split-requires-clause-made_left : goal.split-requires-clause-made_left
split-requires-clause-made_left c = (c.root-left.ensures (type_tree c.args.bank.now) c.requires.joined.0 (length c.args.bank.now.types) c.requires.joined.1).made c.requires.made_one

pub split-requires-clause-made_right : goal.split-requires-clause-made_right
split-requires-clause-made_right c = (c.root-right.ensures (type_tree c.args.bank.now) c.requires.joined.0 (length c.args.bank.now.types) c.requires.joined.1).made c.requires.made_other

pub returns-then-not-branch-clause-apart : goal.returns-then-not-branch-clause-apart
returns-then-not-branch-clause-apart c = λ θ h es.
    let τ = type_tree c.args.bank.now in
    let n = length c.args.bank.now.types in
    let l = c.root-left.ensures τ θ n h in
    let r = c.root-right.ensures τ θ n h in
    let t = rw c.if-not-branch.true at (c.in_ok-split.ensures.turned θ) in
    let u = subst (λ ps. turn (equation (instance θ (τ c.root-left.result.0)) (instance θ (τ c.root-right.result.0))) (read_pairs τ θ ps) θ ≡ clashes) c.new-parts.ensures.items t in
    ap (λ a. turn (equation a (instance θ (τ c.args.other.0))) es θ) (sym l.same) ∙ ap (λ b. turn (equation (instance θ (τ c.root-left.result.0)) b) es θ) (sym r.same) ∙
    made_clashes (instance θ (τ c.root-left.result.0)) (instance θ (τ c.root-right.result.0)) θ u es

pub returns-clause-apart : goal.returns-clause-apart
returns-clause-apart c = λ θ h.
    let τ = type_tree c.args.bank.now in
    let n = length c.args.bank.now.types in
    let l = c.root-left.ensures τ θ n h in
    let r = c.root-right.ensures τ θ n h in
    let A = instance θ (τ c.root-left.result.0) in
    let B = instance θ (τ c.root-right.result.0) in
    let t = rw c.if-not-branch.false at (c.in_ok-split.ensures.turned θ) in
    let u = subst (λ ps. turn (equation A B) (read_pairs τ θ ps) θ ≡ goes (read_pairs τ θ c.split.new.todo.items) θ) c.new-parts.ensures.items t in
    let g = made_goes A B (read_pairs τ θ c.split.new.todo.items) θ (made_instance θ _ (l.made c.requires.made_one)) (made_instance θ _ (r.made c.requires.made_other)) u in
    inr (record {
      pair = record { left = c.root-left.result; right = c.root-right.result };
      parts = c.split.new.todo.items;
      tasks = c.in_ok-push_takes.ensures ∙ ap (λ ts. ts ++ map Task.Take c.as_slice.result.now) c.in_ok-push.ensures.items ∙
          ap (λ ps. (c.args.todo.now.items ++ Task.Join (record { left = c.root-left.result; right = c.root-right.result }) ∷ []) ++ map Task.Take ps) c.as_slice.ensures.value;
      left = l.same;
      right = r.same;
      turns = λ es. ap (λ a. turn (equation a (instance θ (τ c.args.other.0))) es θ) (sym l.same) ∙ ap (λ b. turn (equation A b) es θ) (sym r.same) ∙ g.0 es;
      whole = λ ρ k. ap (instance ρ) (sym l.same) ∙ g.1 ρ k ∙ ap (instance ρ) r.same;
    })

pub returns-clause-todos : goal.returns-clause-todos
returns-clause-todos c =
    let τ = type_tree c.args.bank.now in
    let n = length c.args.bank.now.types in
    let l = c.root-left.ensures τ c.requires.joined.0 n c.requires.joined.1 in
    let r = c.root-right.ensures τ c.requires.joined.0 n c.requires.joined.1 in
    takes_known τ n c.args.todo.now.items c.push_takes.new.todo.items (record { left = c.root-left.result; right = c.root-right.result }) c.split.new.todo.items
    (c.in_ok-push_takes.ensures ∙ ap (λ ts. ts ++ map Task.Take c.as_slice.result.now) c.in_ok-push.ensures.items ∙
    ap (λ ps. (c.args.todo.now.items ++ Task.Join (record { left = c.root-left.result; right = c.root-right.result }) ∷ []) ++ map Task.Take ps) c.as_slice.ensures.value)
    c.requires.todos ((l.known c.requires.one, r.known c.requires.other), l.made c.requires.made_one, r.made c.requires.made_other) c.in_ok-split.ensures.todos
