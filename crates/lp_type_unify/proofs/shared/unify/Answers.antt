use Rattle.std.proofs.Common.{◌≡◌, ◌∙◌, ◌++◌, ◌∷◌, [], ap, length, nat_eq, map, reverse, arith}
use Rattle.std.proofs.lemmas.Grind.{common_steps}
use Rattle.indexmap.specs.IndexMap.{get}
use Rattle.lp_term.specs.Nodes.{type_tree}
use Rattle.lp_type_unify.specs.declared.shared.Task.{Task}
use Rattle.lp_lemmas.proofs.Elements.{All_reverse}
use Rattle.lp_type_unify.specs.Reading.{reads, read_pair, IsPair}
use Rattle.lp_type_unify.specs.Sharing.{read_tasks, joins}
use Rattle.lp_type_unify.proofs.Roots.{read_take, read_join, joins_off, joins_kept}
use Rattle.lp_type_unify.proofs.States.{start_state, start_runs, state_joined, runs_on, runs_same, runs_fail, runs_end, fewer_left, fewer_joins}
use Rattle.lp_type_unify.proofs.Turned.{general_turned, unsolved_turned}
use Rattle.lp_type_unify.proofs.shared.unify.Goals as goal

pub tasks-init : goal.tasks-init
tasks-init c =
    let τ = type_tree c.args.bank.now in
    let ps = reverse c.args.pairs.now in
    let todo : c.push_all.new.todo.items ≡ map Task.Take ps = c.in_ok-push_all.ensures ∙ ap (λ l. l ++ map Task.Take ps) c.new-todo.ensures.items in
    record {
      state = start_state c.args.bank.now c.new-bindings.result.made c.new-joined.result.older c.push_all.new.todo.items ps c.new-bindings.ensures c.new-joined.ensures todo (All_reverse (IsPair (length c.args.bank.now.types)) c.args.pairs.now c.requires);
      reaches = start_runs c.args.bank.now c.new-bindings.result.made c.push_all.new.todo.items ps c.new-bindings.ensures todo;
    }

pub returns-then-not-branch-clause-solved : goal.returns-then-not-branch-clause-solved
returns-then-not-branch-clause-solved c =
    let τ = type_tree c.args.bank.now in
    let θ = reads c.args.bank.now c.tasks.bindings.made in
    let all : c.tasks.todo.items ≡ c.pop.new.self.items ++ Task.Take c.in-Take.pair ∷ [] = c.in-Some.ensures.items ∙ ap (λ t. c.pop.new.self.items ++ t ∷ []) c.in-Take.is in
    let f = rw c.if-not-branch.true at c.in_ok-take-in-Take.ensures in
    unsolved_turned τ c.args.pairs.now (runs_fail _ (read_tasks τ θ c.tasks.todo.items) (read_pair τ θ c.in-Take.pair ∷ read_tasks τ θ c.pop.new.self.items) θ c.tasks.invariant.reaches
    (read_take τ θ c.pop.new.self.items c.tasks.todo.items c.in-Take.pair all) f)

pub tasks-smaller-else-not-branch : goal.tasks-smaller-else-not-branch
tasks-smaller-else-not-branch c =
    let τ = type_tree c.args.bank.now in
    let θ = reads c.args.bank.now c.tasks.bindings.made in
    let ι = reads c.args.bank.now c.take.new.bindings.made in
    let all : c.tasks.todo.items ≡ c.pop.new.self.items ++ Task.Take c.in-Take.pair ∷ [] = c.in-Some.ensures.items ∙ ap (λ t. c.pop.new.self.items ++ t ∷ []) c.in-Take.is in
    let f = rw c.if-not-branch.false at c.in_ok-take-in-Take.ensures in
    let kept = joins_kept c.pop.new.self.items c.tasks.todo.items c.in-Take.pair all in
    let few = f.1 in
    fewer_left (read_tasks τ θ c.tasks.todo.items) (read_pair τ θ c.in-Take.pair ∷ read_tasks τ θ c.pop.new.self.items) (read_tasks τ ι c.take.new.todo.items) θ ι
    (joins c.tasks.todo.items) (joins c.take.new.todo.items) (read_take τ θ c.pop.new.self.items c.tasks.todo.items c.in-Take.pair all) f.2 (omega (arith, few, kept))

pub tasks-preserved-else-not-branch : goal.tasks-preserved-else-not-branch
tasks-preserved-else-not-branch c =
    let τ = type_tree c.args.bank.now in
    let θ = reads c.args.bank.now c.tasks.bindings.made in
    let ι = reads c.args.bank.now c.take.new.bindings.made in
    let all : c.tasks.todo.items ≡ c.pop.new.self.items ++ Task.Take c.in-Take.pair ∷ [] = c.in-Some.ensures.items ∙ ap (λ t. c.pop.new.self.items ++ t ∷ []) c.in-Take.is in
    let f = rw c.if-not-branch.false at c.in_ok-take-in-Take.ensures in
    record {
      state = f.0;
      reaches = runs_on _ (read_tasks τ θ c.tasks.todo.items) (read_pair τ θ c.in-Take.pair ∷ read_tasks τ θ c.pop.new.self.items) (read_tasks τ ι c.take.new.todo.items) θ ι
          c.tasks.invariant.reaches (read_take τ θ c.pop.new.self.items c.tasks.todo.items c.in-Take.pair all) f.2;
    }

pub tasks-smaller : goal.tasks-smaller
tasks-smaller c =
    let τ = type_tree c.args.bank.now in
    let θ = reads c.args.bank.now c.tasks.bindings.made in
    let all : c.tasks.todo.items ≡ c.pop.new.self.items ++ Task.Join c.in-Join.pair ∷ [] = c.in-Some.ensures.items ∙ ap (λ t. c.pop.new.self.items ++ t ∷ []) c.in-Join.is in
    fewer_joins (read_tasks τ θ c.tasks.todo.items) (read_tasks τ θ c.pop.new.self.items) θ (joins c.tasks.todo.items) (joins c.pop.new.self.items)
    (read_join τ θ c.pop.new.self.items c.tasks.todo.items c.in-Join.pair all) (joins_off c.pop.new.self.items c.tasks.todo.items c.in-Join.pair all)

pub tasks-preserved : goal.tasks-preserved
tasks-preserved c =
    let τ = type_tree c.args.bank.now in
    let θ = reads c.args.bank.now c.tasks.bindings.made in
    let all : c.tasks.todo.items ≡ c.pop.new.self.items ++ Task.Join c.in-Join.pair ∷ [] = c.in-Some.ensures.items ∙ ap (λ t. c.pop.new.self.items ++ t ∷ []) c.in-Join.is in
    record {
      state = state_joined c.args.bank.now c.tasks.bindings.made (get nat_eq c.tasks.joined.older) (get nat_eq c.join.new.self.older) c.in-Join.pair c.pop.new.self.items c.tasks.todo.items all c.tasks.invariant.state c.in_ok-join-in-Join.ensures;
      reaches = runs_same _ (read_tasks τ θ c.tasks.todo.items) (read_tasks τ θ c.pop.new.self.items) θ c.tasks.invariant.reaches (read_join τ θ c.pop.new.self.items c.tasks.todo.items c.in-Join.pair all);
    }

pub returns-clause-solved : goal.returns-clause-solved
returns-clause-solved c =
    let τ = type_tree c.args.bank.now in
    let θ = reads c.args.bank.now c.tasks.bindings.made in
    let empty : c.tasks.todo.items ≡ [] = grind (arith, common_steps) in
    general_turned τ c.args.pairs.now θ (runs_end _ (read_tasks τ θ c.tasks.todo.items) θ c.tasks.invariant.reaches (ap (read_tasks τ θ) empty))
