use Rattle.std.proofs.Common.{◌≡◌, ◌<◌, ◌∙◌, length, map, subst}
use Rattle.std.specs.Prelude.{All}
use Rattle.lp_calculus.specs.Types.{instance}
use Rattle.lp_term.specs.Nodes.{tree, type_tree}
use Rattle.lp_pattern.specs.Reading.{paired}
use Rattle.lp_plain.specs.Renewal.{renewing}
use Rattle.lp_plain.proofs.HeadPairs.{types_met}
use Rattle.lp_plain.proofs.attempt.type_pairs.Goals as goal

pub returns-clause-pairs : goal.returns-clause-pairs
returns-clause-pairs c = λ e F θ a g n.
    let b = c.args.bank.now in
    let d = c.all_renewed.new.bank in
    let rs = c.in_ok-rights.rights.items in
    types_met b d e θ c.args.types (tree b c.args.goal.0) (tree b c.args.clause.0) a c.in_ok-lefts.lefts.items c.in_ok-old.old.items rs
    c.in_ok-pairs.pairs.items c.in_ok-rights.ensures.kept F c.in_ok-lefts.ensures.within c.in_ok-lefts.ensures.types
    c.in_ok-old.ensures.types c.in_ok-rights.ensures.within
    (subst (λ ids. All (λ t. t.0 < length b.types) ids → map (λ t. type_tree d t.0) rs ≡ map (λ t. instance (renewing c.args.types) (type_tree b t.0))
    ids) c.as_slice.ensures.value c.in_ok-rights.ensures.trees c.in_ok-old.ensures.within)
    (c.in_ok-pairs.ensures ∙ (λ i. paired (c.as_slice-2.ensures.value i) (c.as_slice-3.ensures.value i))) g n
