-- A step that was counted, and the goals behind the atom.
use Rattle.std.proofs.Common.{◌≡◌, ℕ, refl, ap, Option}
use Rattle.lp_plain.specs.declared.machine.Machine.{Machine}
use Rattle.lp_plain.specs.Assuming.{KeepsAssumed}
use Rattle.lp_plain.specs.Entries.{KeepsGoals}
use Rattle.lp_plain.specs.Moving.{KeepsSearch}

-- the search that goes on with the goals from a frame on
abbrev pub going_behind : Machine → Option ℕ → Machine
going_behind m o = record m { branch = record m.branch { goals = o } }

pub step_kept : (m k : Machine) (o : Option ℕ) → KeepsGoals m k → KeepsAssumed m k → k.frames ≡ m.frames → k.denied ≡ m.denied → k.branch ≡ m.branch → KeepsSearch m (going_behind k o) o
step_kept m k o g a f d b = record {
  goals = record { known = record { bank = g.known.bank; bindings = g.known.bindings; scopes = g.known.scopes; table = g.known.table; standings = g.known.standings; index = g.known.index }; frames = g.frames };
  assumed = record { assumptions = a.assumptions; newest = a.newest };
  frames = f;
  denied = d;
  front = refl;
  next = ap (λ z. z.next) b;
  next_type = ap (λ z. z.next_type) b;
  pairs = ap (λ z. z.pairs) b;
}
