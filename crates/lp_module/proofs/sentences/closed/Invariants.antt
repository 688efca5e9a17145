use Rattle.std.proofs.Common.{◌≡◌, ◌<◌, ◌-◌, length, map, take, reverse}
use Rattle.lp_term.specs.Nodes.{Extends, tree, type_tree}
use Rattle.lp_model.specs.Flat.{all_of}
use Rattle.lp_module.proofs.sentences.closed.Given as goal

abbrev pub invariant-loop-at : goal.invariant-loop-at
invariant-loop-at l =
    Extends l.fn.bank l.bank × (l.formula.0 < length l.bank.terms) ×
    (all_of (reverse (take (l.count - l.at) (map (λ v. type_tree l.fn.bank v.1.0) l.typed.vars.items))) (tree l.bank l.formula.0) ≡ all_of (reverse (map (λ v. type_tree l.fn.bank v.1.0) l.typed.vars.items)) (tree l.fn.bank l.typed.formula.0))
