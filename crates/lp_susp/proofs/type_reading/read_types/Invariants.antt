use Rattle.std.proofs.Common.{◌≡◌, ◌<◌, List, length, map}
use Rattle.std.specs.Prelude.{All}
use Rattle.lp_calculus.specs.Types.{Ty}
use Rattle.lp_store.specs.Contents.{span}
use Rattle.lp_store.specs.Reading.{ReadTypes}
use Rattle.lp_term.specs.Nodes.{type_tree, Extends}
use Rattle.lp_susp.specs.TypeWork.{Ran, IsThere}
use Rattle.lp_susp.proofs.type_reading.read_types.Given as goal

abbrev pub invariant-loop-task : goal.invariant-loop-task
invariant-loop-task l = record {
  kept : Extends l.fn.bank l.bank;
  terms : l.bank.terms ≡ l.fn.bank.terms;
  outs : All (λ t. t.0 < length l.bank.types) l.out.items;
  tasks : All (IsThere l.store) l.work.items;
  ran : (Ts : List Ty) → ReadTypes l.store (map (λ t. t.0) (span l.store.items l.fn.list.from l.fn.list.count)) Ts → Ran l.store l.work.items (map (λ t. type_tree l.bank t.0) l.out.items) Ts;
}
