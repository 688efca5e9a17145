use Rattle.std.proofs.Common.{◌<◌, length, reverse, take}
use Rattle.lp_term.specs.Nodes.{Nodes, Extends, tree}
use Rattle.lp_cert.specs.Facts.{IsKnown}
use Rattle.lp_cert.specs.Same.{terms_in}
use Rattle.lp_cert.specs.inner.Put.{ArePut}
use Rattle.lp_cert.proofs.instance.put_values.Given as goal

abbrev pub invariant-loop-done : goal.invariant-loop-done
invariant-loop-done l = record {
  kept : Extends l.fn.bank l.bank;
  known : IsKnown l.bank l.known;
  within : l.fn.term.0 < length l.fn.bank.terms → l.made.0 < length l.bank.terms;
  put : (b : Nodes) → Extends l.bank b → ArePut (take l.done (reverse (terms_in b l.fn.values))) (tree b l.fn.term.0) (tree b l.made.0);
}
