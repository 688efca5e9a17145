use Rattle.std.proofs.Common.{◌≡◌, ℕ, List, length, Some}
use Rattle.std.specs.Prelude.{nat_eq}
use Rattle.indexmap.specs.IndexMap.{get}
use Rattle.lp_term.specs.Nodes.{Extends}
use Rattle.lp_sig.specs.Named.{kind_name}
use Rattle.lp_sig.specs.Sighted.{AreSeenTypes}
use Rattle.lp_sig.specs.Rows.{Row}
use Rattle.lp_sig.specs.Said.{Said}
use Rattle.lp_sig.specs.inner.Telling.{AreNumberedHere, AreTypesHere}
use Rattle.lp_sig.proofs.store.Types.see_types.Given as goal

abbrev pub invariant-loop-number : goal.invariant-loop-number
invariant-loop-number l = record {
  kept : Extends l.fn.self.bank l.self.bank;
  count : length l.made.items ≡ l.number;
  seen : (names here : List (List ℕ)) → ((k n : ℕ) → get nat_eq l.kinds k ≡ Some n → kind_name here n ≡ kind_name names k) → AreSeenTypes l.bank l.self.bank names here l.made.items;
  told : (said : List (Row Said)) (names : List (List ℕ)) → AreNumberedHere said names l.kinds → AreTypesHere l.bank l.self.bank names said l.made.items;
}
