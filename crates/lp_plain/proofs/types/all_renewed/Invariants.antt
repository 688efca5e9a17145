use Rattle.std.proofs.Common.{◌≡◌, ◌<◌, length, map}
use Rattle.std.specs.Prelude.{All}
use Rattle.lp_calculus.specs.Types.{instance}
use Rattle.lp_term.specs.Nodes.{Extends, type_tree}
use Rattle.lp_plain.specs.Renewal.{renewing}
use Rattle.lp_plain.proofs.types.all_renewed.Given as goal

abbrev pub invariant-ids : goal.invariant-ids
invariant-ids l = record {
  kept : Extends l.fn.bank l.bank;
  within : All (λ t. t.0 < length l.bank.types) l.new.items;
  trees : All (λ t. t.0 < length l.fn.bank.types) l.yielded → map (λ t. type_tree l.bank t.0) l.new.items ≡ map (λ t. instance (renewing l.fn.by) (type_tree l.fn.bank t.0)) l.yielded;
}
