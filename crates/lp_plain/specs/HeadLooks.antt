-- What a look at the head of a term in the branch at work comes to.
use Rattle.std.specs.Prelude.{◌≡◌, ◌<◌, suc, length, Option, Some, None, IsSome}
use Rattle.lp_calculus.specs.Convert.{steps}
use Rattle.lp_term.specs.Nodes.{Nodes, Extends, tree}
use Rattle.lp_term.specs.declared.node.TermId.{TermId}
use Rattle.lp_model.specs.Look.{weak_step}
use Rattle.lp_model.specs.Pair.{Closing, closed}
use Rattle.lp_pattern.specs.Seen.{IsEnded, IsReachedWithin}
use Rattle.lp_pattern.specs.Under.{IsReading}
use Rattle.lp_plain.specs.declared.machine.Machine.{Machine}

abbrev pub with_bank : Machine → Nodes → Machine
with_bank m b = record m { bank = b }

-- the bank may grow, and nothing else changes
pub record OnlyBank (old new : Machine) : Type 0 where
  pub bank : Extends old.bank new.bank
  pub same : new ≡ with_bank old new.bank

-- at most a million contractions lead to a term that is an abstraction, or has a head that is neither bound nor to be contracted; or more lead on
abbrev pub LooksAt : (old new : Machine) → TermId → Option TermId → Type 0
LooksAt m n t None = (z : Closing) → IsReading m.bank m.bindings z → IsSome (steps weak_step (suc 1000000) (closed z (tree m.bank t.0)))
LooksAt m n t (Some u) =
    (t.0 < length m.bank.terms → u.0 < length n.bank.terms) × IsEnded m.bindings (tree n.bank u.0) ×
    ((z : Closing) → IsReading m.bank m.bindings z → IsReachedWithin 1000000 (closed z (tree m.bank t.0)) (closed z (tree n.bank u.0)))
