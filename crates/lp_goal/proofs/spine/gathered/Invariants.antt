use Rattle.std.proofs.Common.{◌<◌, length, All}
use Rattle.lp_calculus.specs.Term.{Term}
use Rattle.lp_store.specs.Reading.{Reads}
use Rattle.lp_store.specs.Change.{KeepsMarks}
use Rattle.lp_susp.specs.Kept.{Keeps}
use Rattle.lp_goal.proofs.Tops.{Gathered}
use Rattle.lp_goal.proofs.spine.gathered.Given as goal

abbrev pub invariant-applications : goal.invariant-applications
invariant-applications l = record {
  within : l.at.0 < length l.store.cells;
  stack : All (λ t. t.0 < length l.store.cells) l.stack.items;
  kept : Keeps l.fn.store l.store;
  marks : KeepsMarks l.fn.store l.store;
  route : (t : Term) → Reads l.fn.store l.fn.normal.0 t → Gathered l.store l.at.0 l.stack.items t;
}
