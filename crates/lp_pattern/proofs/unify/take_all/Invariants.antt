use Rattle.std.proofs.Common.{◌≡◌, ◌≤◌, ◌<◌, ◌⊎◌, ℕ, Bool, reverse, length}
use Rattle.std.specs.Prelude.{All}
use Rattle.lp_term.specs.Nodes.{Extends}
use Rattle.lp_model.specs.Unify.{Unified}
use Rattle.lp_pattern.specs.Growing.{Grows, IsPairOf}
use Rattle.lp_pattern.specs.Turns.{Began, LeadsTo, ComesTo}
use Rattle.lp_pattern.proofs.unify.take_all.Given as goal

abbrev pub invariant-pairs : goal.invariant-pairs
invariant-pairs l = record {
  fewer : l.units ≤ l.fn.units;
  still : (l.units < l.fn.units) ⊎ (l.bindings ≡ l.fn.bindings);
  kept : Extends l.fn.bank l.bank;
  more : l.fn.next ≤ l.next;
  grown : Grows l.fn.bindings l.bindings;
  todo : All (IsPairOf (length l.bank.terms)) l.todo.items;
  waiting : All (IsPairOf (length l.bank.terms)) l.waiting.items;
  comes : (limit : ℕ) (o : Began) (n : ℕ) (u : Unified) (bound : Bool) → LeadsTo limit o n u l.fn.bank l.fn.bindings l.fn.next l.fn.units (reverse l.fn.todo.items) l.fn.waiting.items bound →
      ComesTo limit o n u bound l.fn.bindings l.bank l.bindings l.next l.units (reverse l.todo.items) l.waiting.items;
}

abbrev pub decreases-pairs : goal.decreases-pairs
decreases-pairs l = l.units
