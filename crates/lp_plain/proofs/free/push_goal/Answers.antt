use Rattle.std.proofs.Common.{ap, sym, ◌∙◌}
use Rattle.lp_model.specs.Flat.{Either, Exists, Forall, assuming, denied, written_in_goals, written_in_clauses}
use Rattle.lp_model.specs.Flattened.{goal_of, goals_of, clauses_of}
use Rattle.lp_term.specs.Nodes.{type_tree}
use Rattle.lp_normal.proofs.Meanings.{atom_is, cut_is, either_is, some_is, all_is, assume_is, not_is}
use Rattle.lp_plain.proofs.Collects.{atom_split, cut_split, either_split, some_split, all_split, assume_split, not_split}
use Rattle.lp_plain.proofs.free.push_goal.Goals as goal

pub returns-in_ok-push-in-Atom : goal.returns-in_ok-push-in-Atom
returns-in_ok-push-in-Atom c = λ b.
    atom_split b c.args.depth (goal_of b c.args.goal.now) c.args.left.now.items c.push.new.self.items c.in-Atom.term (ap (goal_of b) c.in-Atom.is ∙ atom_is b c.in-Atom.term) c.in_ok-push-in-Atom.ensures.items

pub returns-in-Cut : goal.returns-in-Cut
returns-in-Cut c = λ b. cut_split b c.args.depth (goal_of b c.args.goal.now) c.args.left.now.items (ap (goal_of b) c.in-Cut.is ∙ cut_is b)

pub returns-in_ok-push-in-Either-2 : goal.returns-in_ok-push-in-Either-2
returns-in_ok-push-in-Either-2 c = λ b.
    either_split b c.args.depth (goal_of b c.args.goal.now) c.args.left.now.items c.push-in-Either.new.self.items c.push-in-Either-2.new.self.items c.as_slice.result c.as_slice-in-Either.result
    (ap (goal_of b) c.in-Either.is ∙ either_is b c.in-Either.one c.in-Either.other ∙ (λ i. Either (goals_of b (sym c.as_slice.ensures.value i)) (goals_of b (sym c.as_slice-in-Either.ensures.value i))))
    c.in_ok-push-in-Either.ensures.items c.in_ok-push-in-Either-2.ensures.items

pub returns-in_ok-push-in-Some : goal.returns-in_ok-push-in-Some
returns-in_ok-push-in-Some c = λ b.
    let T = c.in-Some.field-0 in
    some_split b c.args.depth (goal_of b c.args.goal.now) c.args.left.now.items c.push-in-Some.new.self.items (type_tree b T.0) c.as_slice-in-Some.result c.in_ok-inner-in-Some.inner
    (ap (goal_of b) c.in-Some.is ∙ some_is b T c.in-Some.goals ∙ (λ i. Exists (type_tree b T.0) (goals_of b (sym c.as_slice-in-Some.ensures.value i))))
    c.in_ok-inner-in-Some.ensures c.in_ok-push-in-Some.ensures.items

pub returns-in_ok-push-in-All : goal.returns-in_ok-push-in-All
returns-in_ok-push-in-All c = λ b.
    let T = c.in-All.field-0 in
    all_split b c.args.depth (goal_of b c.args.goal.now) c.args.left.now.items c.push-in-All.new.self.items (type_tree b T.0) c.as_slice-in-All.result c.in_ok-inner-in-All.inner
    (ap (goal_of b) c.in-All.is ∙ all_is b T c.in-All.goals ∙ (λ i. Forall (type_tree b T.0) (goals_of b (sym c.as_slice-in-All.ensures.value i))))
    c.in_ok-inner-in-All.ensures c.in_ok-push-in-All.ensures.items

pub returns-in_ok-push-in-Assume-2 : goal.returns-in_ok-push-in-Assume-2
returns-in_ok-push-in-Assume-2 c = λ b.
    let cs = c.as_slice-in-Assume.result in
    assume_split b c.args.depth (goal_of b c.args.goal.now) c.args.left.now.items c.push-in-Assume.new.self.items c.push-in-Assume-2.new.self.items (written_in_clauses (clauses_of b cs.now)) cs c.as_slice-in-Assume-2.result
    (ap (goal_of b) c.in-Assume.is ∙ assume_is b c.in-Assume.clauses c.in-Assume.goals ∙ (λ i. assuming (clauses_of b (sym c.as_slice-in-Assume.ensures.value i)) (goals_of b (sym c.as_slice-in-Assume-2.ensures.value i))))
    c.in_ok-push-in-Assume.ensures.items c.in_ok-push-in-Assume-2.ensures.items

pub returns-in_ok-push-in-Not : goal.returns-in_ok-push-in-Not
returns-in_ok-push-in-Not c = λ b.
    let gs = c.as_slice-in-Not.result in
    not_split b c.args.depth (goal_of b c.args.goal.now) c.args.left.now.items c.push-in-Not.new.self.items (written_in_goals (goals_of b gs.now)) gs
    (ap (goal_of b) c.in-Not.is ∙ not_is b c.in-Not.goals ∙ (λ i. denied (goals_of b (sym c.as_slice-in-Not.ensures.value i))))
    c.in_ok-push-in-Not.ensures.items
