-- All in a search stays written where its bank and its bindings grow, and where a step is taken.
use Rattle.std.proofs.Common.{◌≡◌, ℕ, ap, ◌∙◌, arith, subst, sym, Option}
use Rattle.lp_term.proofs.Trees.{extends-trans}
use Rattle.lp_pattern.specs.Growing.{Grows}
use Rattle.lp_pattern.proofs.Keeps.{grows_same, grows_then}
use Rattle.lp_plain.specs.declared.machine.Machine.{Machine}
use Rattle.lp_plain.specs.Entries.{GrowsGoals}
use Rattle.lp_plain.specs.HeadLooks.{OnlyBank}
use Rattle.lp_plain.specs.Moving.{KeepsSearch}
use Rattle.lp_plain.specs.Unifying.{IsBoundIn}
use Rattle.lp_plain.specs.Within.{StandsIn}
use Rattle.lp_plain.specs.WrittenSearch.{IsWrittenSearch}
use Rattle.lp_plain.proofs.Growing.{grows_kept}
use Rattle.lp_plain.proofs.Opening.{bank_grows, bank_stands, same_stands}
use Rattle.lp_plain.proofs.WrittenSearches.{search_same}

-- what binds
pub bound_grows : (m n : Machine) → IsBoundIn m n → GrowsGoals m n
bound_grows m n b = bank_grows m n b.bank b.table b.frames b.scopes

pub bound_written : (m n : Machine) → IsBoundIn m n → StandsIn m → (ar : ℕ → ℕ) → IsWrittenSearch m ar → IsWrittenSearch n ar
bound_written m n b st ar w = search_same m n st (bound_grows m n b) b.frames (record { assumptions = b.assumptions; newest = b.newest }) (ap (λ v. v.items) b.choices) ar w

pub bound_stands : (m n : Machine) → IsBoundIn m n → StandsIn m → StandsIn n
bound_stands m n b st = bank_stands m n b.bank b.table b.frames b.scopes st

pub only_bound : (m n : Machine) → OnlyBank m n → IsBoundIn m n
only_bound m n o = record {
  bank = o.bank;
  bindings = subst (Grows m.bindings) (sym (ap (λ (y : Machine). y.bindings) o.same)) (grows_same m.bindings);
  more = (let e = ap (λ (y : Machine). y.branch.next) o.same in omega (arith, e));
  table = ap (λ (y : Machine). y.table) o.same;
  index = ap (λ (y : Machine). y.index) o.same;
  scopes = ap (λ (y : Machine). y.scopes) o.same;
  frames = ap (λ (y : Machine). y.frames) o.same;
  assumptions = ap (λ (y : Machine). y.assumptions) o.same;
  newest = ap (λ (y : Machine). y.newest) o.same;
  standings = ap (λ (y : Machine). y.standings) o.same;
  choices = ap (λ (y : Machine). y.choices) o.same;
  denied = ap (λ (y : Machine). y.denied) o.same;
  counts = ap (λ (y : Machine). y.counts) o.same;
  goals = ap (λ (y : Machine). y.branch.goals) o.same;
  next_type = ap (λ (y : Machine). y.branch.next_type) o.same;
}

pub bound_then : (m n o : Machine) → IsBoundIn m n → IsBoundIn n o → IsBoundIn m o
bound_then m n o g h = record {
  bank = extends-trans m.bank n.bank o.bank g.bank h.bank;
  bindings = grows_then m.bindings n.bindings o.bindings g.bindings h.bindings;
  more = (let a = g.more in let b = h.more in omega (arith, a, b));
  table = h.table ∙ g.table;
  index = h.index ∙ g.index;
  scopes = h.scopes ∙ g.scopes;
  frames = h.frames ∙ g.frames;
  assumptions = h.assumptions ∙ g.assumptions;
  newest = h.newest ∙ g.newest;
  standings = h.standings ∙ g.standings;
  choices = h.choices ∙ g.choices;
  denied = h.denied ∙ g.denied;
  counts = h.counts ∙ g.counts;
  goals = h.goals ∙ g.goals;
  next_type = h.next_type ∙ g.next_type;
}

-- a step is taken, and the branch goes on behind the goal
pub step_written : (m c : Machine) (o : Option ℕ) → KeepsSearch m c o → c.choices ≡ m.choices → StandsIn m → (ar : ℕ → ℕ) → IsWrittenSearch m ar → IsWrittenSearch c ar
step_written m c o k ch st ar w = search_same m c st (grows_kept m c k.goals) k.frames k.assumed (ap (λ v. v.items) ch) ar w

pub step_stands : (m c : Machine) (o : Option ℕ) → KeepsSearch m c o → StandsIn m → StandsIn c
step_stands m c o k st = same_stands m c k.goals k.frames st
