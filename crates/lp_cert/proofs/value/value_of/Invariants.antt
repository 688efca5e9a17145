use Rattle.std.proofs.Common.{ℕ, reverse}
use Rattle.std.specs.Prelude.{List}
use Rattle.lp_term.specs.Nodes.{tree}
use Rattle.lp_model.specs.Values.{value}
use Rattle.lp_cert.specs.inner.Evaluated.{Begins, Leads}
use Rattle.lp_cert.proofs.value.value_of.Given as goal

abbrev pub invariant-parts : goal.invariant-parts
invariant-parts l = (end : List ℕ) → Begins l.texts.bytes.items end → Leads l.bank end l.state (reverse l.around.items) (value (tree l.bank l.fn.term.0))
