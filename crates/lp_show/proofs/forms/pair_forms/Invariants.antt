use Rattle.std.proofs.Common.{◌≡◌, ◌<◌, ◌≤◌, ◌-◌, ◌++◌, List, drop, length}
use Rattle.std.specs.Prelude.{All}
use Rattle.lp_calculus.specs.Term.{Term}
use Rattle.lp_term.specs.Nodes.{Extends}
use Rattle.lp_term.specs.declared.reduce.TermRefusal.{TermRefusal}
use Rattle.lp_show.specs.Forms.{AreSides, IsFirstDeep, pair_trees, sides_of}
use Rattle.lp_show.specs.Sides.{IsSidesIn, side_trees}
use Rattle.lp_show.proofs.forms.pair_forms.Given as goal

abbrev pub invariant-pairs : goal.invariant-pairs
invariant-pairs l = record {
  within : l.at ≤ length l.pairs.items;
  kept : Extends l.fn.bank l.bank;
  held : All (IsSidesIn l.bank) l.forms.items;
  forms : (fs : List (Term × Term)) → AreSides (pair_trees l.fn.bank (drop l.at l.pairs.items)) fs → AreSides (pair_trees l.fn.bank l.pairs.items) (side_trees l.bank l.forms.items ++ fs);
  deep : (e : TermRefusal) → IsFirstDeep (sides_of (pair_trees l.fn.bank (drop l.at l.pairs.items))) e → IsFirstDeep (sides_of (pair_trees l.fn.bank l.pairs.items)) e;
}

abbrev pub decreases-pairs : goal.decreases-pairs
decreases-pairs l = length l.pairs.items - l.at
