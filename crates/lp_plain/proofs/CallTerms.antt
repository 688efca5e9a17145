-- What is written, and the program, on the way to an atom at hand.
use Rattle.std.proofs.Common.{◌≡◌, ℕ, suc, ◌+◌, ◌<◌, List, sym, ap, subst, arith}
use Rattle.lp_term.specs.Nodes.{Extends}
use Rattle.lp_term.proofs.Trees.{extends_same}
use Rattle.lp_model.specs.Flat.{Clauses}
use Rattle.lp_plain.specs.declared.frame.Place.{Place}
use Rattle.lp_plain.specs.declared.machine.Machine.{Machine}
use Rattle.lp_plain.specs.declared.table.Span.{Span}
use Rattle.lp_plain.specs.AtRunTime.{AreWrittenGoals}
use Rattle.lp_plain.specs.Calling.{IsProgramIn}
use Rattle.lp_plain.specs.Entries.{KeepsGoals}
use Rattle.lp_plain.specs.HeadLooks.{OnlyBank}
use Rattle.lp_plain.specs.Tables.{shown}
use Rattle.lp_plain.specs.Within.{StandsIn}
use Rattle.lp_plain.specs.WrittenSearch.{IsWrittenSearch}
use Rattle.lp_plain.specs.WrittenTable.{WrittenGoals, a_goal, no_goal}
use Rattle.lp_plain.proofs.CallArm.{program_later}
use Rattle.lp_plain.proofs.WrittenTurns.{bound_written, only_bound}

-- the bank alone grew
pub only_written : (m n : Machine) → OnlyBank m n → StandsIn m → (ar : ℕ → ℕ) → IsWrittenSearch m ar → IsWrittenSearch n ar
only_written m n o st ar w = bound_written m n (only_bound m n o) st ar w

pub only_program : (m n : Machine) → OnlyBank m n → (ar : ℕ → ℕ) (css : List Clauses) → IsProgramIn m ar css → IsProgramIn n ar css
only_program m n o ar css r = program_later m n o.bank (ap (λ (y : Machine). y.table) o.same) (ap (λ (y : Machine). y.index) o.same) ar css r

-- a frame was put
pub framed_program : (m q : Machine) → KeepsGoals m q → (ar : ℕ → ℕ) (css : List Clauses) → IsProgramIn m ar css → IsProgramIn q ar css
framed_program m q g ar css r = program_later m q (subst (Extends m.bank) (sym g.known.bank) (extends_same m.bank)) g.known.table g.known.index ar css r

-- the goals behind the first are written where all are
pub rest_written : (m : Machine) (ar : ℕ → ℕ) (p : Place) (s : Span) (second : ℕ) → second ≡ s.from + 1 → s.from < s.to → AreWrittenGoals m ar p s →
    AreWrittenGoals m ar p (record { from = second; to = s.to })
rest_written m ar p s second e l w = record { type_vars = w.type_vars; binders = w.binders; values = w.values; scope_holds = w.scope_holds; have = w.have; is = go w.is }
  where
    go : WrittenGoals m.bank (shown m.table) ar w.type_vars w.binders s.from s.to → WrittenGoals m.bank (shown m.table) ar w.type_vars w.binders second s.to
    go (no_goal q) = absurd (omega (arith, l, q))
    go (a_goal f g i h) = let same : suc s.from ≡ second = omega (arith, e) in subst (λ j. WrittenGoals m.bank (shown m.table) ar w.type_vars w.binders j s.to) same h
