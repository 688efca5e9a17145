-- The program stays in the table.
use Rattle.std.proofs.Common.{◌≡◌, ℕ, List, refl, ap, ◌∙◌, sym, subst}
use Rattle.lp_term.specs.Nodes.{Extends}
use Rattle.lp_term.proofs.Trees.{extends_same, extends-trans}
use Rattle.lp_model.specs.Flat.{Clause}
use Rattle.lp_plain.specs.declared.choice.Choice.{Choice}
use Rattle.lp_plain.specs.declared.machine.Machine.{Machine}
use Rattle.lp_plain.specs.declared.frame.Place.{Place}
use Rattle.lp_plain.specs.declared.unified.Unified.{Unified}
use Rattle.lp_plain.specs.Apart.{apart}
use Rattle.lp_plain.specs.Assuming.{GrowsAt, GrowsOn}
use Rattle.lp_plain.specs.Between.{HasClauses}
use Rattle.lp_plain.specs.Entries.{KeepsGoals}
use Rattle.lp_plain.specs.HeadLooks.{OnlyBank}
use Rattle.lp_plain.specs.Moving.{turn_for}
use Rattle.lp_plain.specs.Restoring.{IsTaken}
use Rattle.lp_plain.specs.Turns.{IsGoalTurn, KeepsProgram}
use Rattle.lp_plain.specs.Unifying.{IsBoundIn}
use Rattle.lp_plain.specs.WrittenSearch.{IsWrittenSearch}
use Rattle.lp_plain.proofs.CallArm.{program_later}

pub program_same : (m n : Machine) → n ≡ m → KeepsProgram m n
program_same m n e = record { bank = subst (λ (y : Machine). Extends m.bank y.bank) (sym e) (extends_same m.bank); table = ap (λ (y : Machine). y.table) e; index = ap (λ (y : Machine). y.index) e }

pub program_then : (m n o : Machine) → KeepsProgram m n → KeepsProgram n o → KeepsProgram m o
program_then m n o g h = record { bank = extends-trans m.bank n.bank o.bank g.bank h.bank; table = h.table ∙ g.table; index = h.index ∙ g.index }

pub only_keeps : (m n : Machine) → OnlyBank m n → KeepsProgram m n
only_keeps m n o = record { bank = o.bank; table = ap (λ (y : Machine). y.table) o.same; index = ap (λ (y : Machine). y.index) o.same }

pub goals_keep : (m n : Machine) → KeepsGoals m n → KeepsProgram m n
goals_keep m n g = record { bank = subst (Extends m.bank) (sym g.known.bank) (extends_same m.bank); table = g.known.table; index = g.known.index }

pub program_stood : (m n : Machine) → n.bank ≡ m.bank → n.table ≡ m.table → n.index ≡ m.index → KeepsProgram m n
program_stood m n e t i = record { bank = subst (Extends m.bank) (sym e) (extends_same m.bank); table = t; index = i }

pub bound_keeps : (m n : Machine) → IsBoundIn m n → KeepsProgram m n
bound_keeps m n b = record { bank = b.bank; table = b.table; index = b.index }

pub at_keeps : (m n : Machine) (p : Place) → GrowsAt m n p → KeepsProgram m n
at_keeps m n p g = record { bank = g.lists.bank; table = g.lists.table; index = g.index }

pub on_keeps : (m n : Machine) → GrowsOn m n → KeepsProgram m n
on_keeps m n g = record { bank = g.lists.bank; table = g.lists.table; index = g.index }

-- the search goes back to an alternative
pub taken_keeps : (m n : Machine) (c : Choice) (rest : List Choice) → IsTaken m n c rest → KeepsProgram m n
taken_keeps m n c rest t = record { bank = subst (Extends m.bank) (sym t.bank) (extends_same m.bank); table = t.table; index = t.index }

-- one more goal is taken apart
pub apart_keeps : (m k : Machine) → k ≡ apart m → KeepsProgram m k
apart_keeps m k e = subst (KeepsProgram m) (sym e) (record { bank = extends_same m.bank; table = refl; index = refl })

pub apart_at : (m k n : Machine) (p : Place) → k ≡ apart m → GrowsAt k n p → KeepsProgram m n
apart_at m k n p e g = program_then m k n (apart_keeps m k e) (at_keeps k n p g)

pub apart_on : (m k n : Machine) → k ≡ apart m → GrowsOn k n → KeepsProgram m n
apart_on m k n e g = program_then m k n (apart_keeps m k e) (on_keeps k n g)

pub apart_goals : (m k n : Machine) → k ≡ apart m → KeepsGoals k n → KeepsProgram m n
apart_goals m k n e g = program_then m k n (apart_keeps m k e) (goals_keep k n g)

-- the turn of a unification ends in no other way
pub unified_ends : (u : Unified) → IsGoalTurn (turn_for u)
unified_ends Unified.Fits = tt
unified_ends Unified.Fails = tt
unified_ends Unified.Deep = tt

-- so its clauses stand there, and all is written
pub clauses_on : (P : List Clause) (ar : ℕ → ℕ) (m n : Machine) → KeepsProgram m n → IsWrittenSearch n ar → HasClauses P ar m → HasClauses P ar n
clauses_on P ar m n k w cl = record { clauses = cl.clauses; are = cl.are; program = program_later m n k.bank k.table k.index ar cl.clauses cl.program; written = w }
