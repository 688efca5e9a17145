use Rattle.std.proofs.Common.{◌≡◌, [], ap, arith}
use Rattle.std.proofs.lemmas.Grind.{common_steps}
use Rattle.lp_term.specs.Nodes.{type_tree}
use Rattle.lp_type_unify.specs.Reading.{reads, read_pair, read_pairs}
use Rattle.lp_type_unify.proofs.Costs.{last_pair, within_next, within_fails, within_end, end_general, end_none}
use Rattle.lp_type_unify.proofs.counted.unify_within.Goals as goal

pub pairs-preserved : goal.pairs-preserved
pairs-preserved c =
    let τ = type_tree c.args.bank.now in
    let θ = reads c.args.bank.now c.pairs.bindings.made in
    let ι = reads c.args.bank.now c.step.new.bindings.made in
    let s = rw c.in-Goes.is at c.in_ok-rest.ensures.stepped in
    record {
      kept = s.2;
      todos = c.in_ok-rest.ensures.todos;
      reaches = within_next c.args.limit c.pairs.left c.in-Goes.rest c.pairs.invariant.reaches.0 _ (read_pairs τ θ c.pairs.todo.items) (read_pairs τ θ c.pop.new.self.items) (read_pairs τ ι c.step.new.todo.items)
          (read_pair τ θ c.in-Some.pair) θ ι c.pairs.invariant.reaches.1 c.pairs.invariant.reaches.2 (last_pair τ θ c.pairs.todo.items c.pop.new.self.items c.in-Some.pair c.in-Some.ensures.items) s.0 s.1;
    }

pub returns-in-Clashes-clause-refused : goal.returns-in-Clashes-clause-refused
returns-in-Clashes-clause-refused c =
    let τ = type_tree c.args.bank.now in
    let θ = reads c.args.bank.now c.pairs.bindings.made in
    let s = rw c.in-Clashes.is at c.in_ok-rest.ensures.stepped in
    within_fails c.pairs.left c.pairs.invariant.reaches.0 _ (read_pairs τ θ c.pairs.todo.items) (read_pairs τ θ c.pop.new.self.items) (read_pair τ θ c.in-Some.pair) θ
    c.pairs.invariant.reaches.2 (last_pair τ θ c.pairs.todo.items c.pop.new.self.items c.in-Some.pair c.in-Some.ensures.items) s.0 s.1

pub returns-in-Clashes-clause-none : goal.returns-in-Clashes-clause-none
returns-in-Clashes-clause-none c =
    let τ = type_tree c.args.bank.now in
    let θ = reads c.args.bank.now c.pairs.bindings.made in
    let s = rw c.in-Clashes.is at c.in_ok-rest.ensures.stepped in
    let f = within_fails c.pairs.left c.pairs.invariant.reaches.0 _ (read_pairs τ θ c.pairs.todo.items) (read_pairs τ θ c.pop.new.self.items) (read_pair τ θ c.in-Some.pair) θ
    c.pairs.invariant.reaches.2 (last_pair τ θ c.pairs.todo.items c.pop.new.self.items c.in-Some.pair c.in-Some.ensures.items) s.0 s.1 in
    end_none c.args.limit f.0 τ (reads c.args.bank.now c.args.bindings.now.made) c.args.pairs.now f.1

pub returns-clause-general : goal.returns-clause-general
returns-clause-general c =
    let τ = type_tree c.args.bank.now in
    let θ = reads c.args.bank.now c.pairs.bindings.made in
    let empty : c.pairs.todo.items ≡ [] = grind (arith, common_steps) in
    end_general c.args.limit c.pairs.left τ (reads c.args.bank.now c.args.bindings.now.made) θ c.args.pairs.now
    (within_end c.args.limit c.pairs.left c.pairs.invariant.reaches.0 _ (read_pairs τ θ c.pairs.todo.items) θ c.pairs.invariant.reaches.1 c.pairs.invariant.reaches.2 (ap (read_pairs τ θ) empty))
