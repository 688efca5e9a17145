use Rattle.std.proofs.Common.{◌≡◌, map}
use Rattle.lp_term.specs.Nodes.{Extends, type_tree}
use Rattle.lp_calculus.specs.Types.{instance}
use Rattle.lp_model.specs.Pair.{Closing}
use Rattle.lp_pattern.specs.Under.{IsReading}
use Rattle.lp_term.specs.Within.{AreTypesOf}
use Rattle.lp_pattern.specs.FillingTerms.{AreAllFilled}
use Rattle.lp_pattern.proofs.fill.typed.Given as goal

abbrev pub invariant-loop-of : goal.invariant-loop-of
invariant-loop-of l =
    Extends l.fn.bank l.bank ×
    ((c : Closing) → IsReading l.fn.bank l.bindings c → AreTypesOf l.fn.bank l.yielded → AreAllFilled l.fn.bank c l.fn.done →
    AreAllFilled l.bank c l.done × AreTypesOf l.bank l.made.items × (map (λ t. type_tree l.bank t.0) l.made.items ≡ map (λ t. instance c.types (type_tree l.fn.bank t.0)) l.yielded)) ×
    (l.done.terms ≡ l.fn.done.terms)
