-- A unification with nothing to solve, and what changes with one.
use Rattle.std.proofs.Common.{◌≡◌, ℕ, zero, suc, List, [], refl, sym, subst, arith, append-nil, ◌∷◌, Some}
use Rattle.lp_term.specs.Nodes.{Nodes, Extends}
use Rattle.lp_term.proofs.Trees.{extends_same, extends-trans}
use Rattle.lp_model.specs.Pair.{Closing, Pair as Equation}
use Rattle.lp_model.specs.Types.{solved}
use Rattle.lp_model.specs.Unify.{Unified as Outcome, Solution, begun, solve}
use Rattle.lp_pattern.specs.Growing.{Grows}
use Rattle.lp_pattern.specs.Turning.{IsOpenReading, AreKnownPairs, ArePairsFor}
use Rattle.lp_pattern.specs.declared.bindings.Bindings.{Bindings}
use Rattle.lp_plain.specs.declared.machine.Machine.{Machine}
use Rattle.lp_plain.specs.declared.unified.Unified.{Unified}
use Rattle.lp_plain.specs.Unifying.{IsBoundIn, IsUnifiedAs}

nothing_solved : (n : ℕ) (ds : List Equation) (next : ℕ) (u : Outcome) → solve n 1000000 [] [] ds next ≡ Some u → Solution (begun [] ds next (solved [] 0)) ≡ u
nothing_solved zero ds next u e = absurd (cc)
nothing_solved (suc n) ds next u e = cc

pub nothing_unified : (m : Machine) (c : Closing) → IsOpenReading m.bank m.bindings m.branch.next c → (levels : ℕ → ℕ) (ds : List Equation) →
    ArePairsFor m.bank c m.branch.pairs.items ds → AreKnownPairs levels m.branch.next ds → (n : ℕ) (u : Outcome) →
    solve n 1000000 [] [] ds m.branch.next ≡ Some u → IsUnifiedAs Unified.Fits levels m.branch.next c m n u
nothing_unified m c r levels ds p k n u e = subst (IsUnifiedAs Unified.Fits levels m.branch.next c m n) (nothing_solved n ds m.branch.next u e) (
  c,
  r,
  record { puts = λ d t w. refl; last = refl; left = p; levels' = levels; older = λ x l. refl; known = k; knows = λ d t w. w },
)

-- no equations and no pairs
pub no_pairs : (m : Machine) (c : Closing) (ps : List Equation) → ArePairsFor m.bank c [] ps → ps ≡ []
no_pairs m c [] h = refl
no_pairs m c (p ∷ ps) h = absurd h

pub grows_same : (s : Bindings) → Grows s s
grows_same s = record { terms = ([], sym (append-nil s.terms.entries)); types = ([], sym (append-nil s.types.entries)) }

pub bound_same : (m : Machine) → IsBoundIn m m
bound_same m = record {
  bank = extends_same m.bank;
  bindings = grows_same m.bindings;
  more = omega arith;
  table = refl;
  index = refl;
  scopes = refl;
  frames = refl;
  assumptions = refl;
  newest = refl;
  standings = refl;
  choices = refl;
  denied = refl;
  counts = refl;
  goals = refl;
  next_type = refl;
}

-- the bank had grown before
pub bound_from : (m n : Machine) (b : Nodes) → Extends m.bank b → IsBoundIn (record m { bank = b }) n → IsBoundIn m n
bound_from m n b E h = record {
  bank = extends-trans m.bank b n.bank E h.bank;
  bindings = h.bindings;
  more = h.more;
  table = h.table;
  index = h.index;
  scopes = h.scopes;
  frames = h.frames;
  assumptions = h.assumptions;
  newest = h.newest;
  standings = h.standings;
  choices = h.choices;
  denied = h.denied;
  counts = h.counts;
  goals = h.goals;
  next_type = h.next_type;
}
