-- A goal and the head of a clause made one, as the definition makes them one.
use Rattle.std.specs.Prelude.{◌≡◌, ℕ, ◌<◌, nat_lt, if◌then◌else◌, List, [], ◌∷◌, ◌++◌, map, length, get_or, All, Some}
use Rattle.lp_calculus.specs.Term.{Term, Atom, index, atom}
use Rattle.lp_calculus.specs.Instance.{instance_term}
use Rattle.lp_term.specs.Nodes.{Nodes, tree}
use Rattle.lp_term.specs.declared.node.TermId.{TermId}
use Rattle.lp_model.specs.Pair.{Pair, Closing, closed}
use Rattle.lp_model.specs.Rule.{type_pairs}
use Rattle.lp_model.specs.Unify.{Unified as Outcome, solve}
use Rattle.lp_pattern.specs.Growing.{IsPairOf}
use Rattle.lp_pattern.specs.Turning.{IsOpenReading, AreKnownPairs, IsReachedAs, ArePairsFor}
use Rattle.lp_plain.specs.declared.instance.Values.{Values}
use Rattle.lp_plain.specs.declared.machine.Machine.{Machine}
use Rattle.lp_plain.specs.declared.table.Rule.{Rule}
use Rattle.lp_plain.specs.declared.unified.Unified.{Unified}
use Rattle.lp_plain.specs.Heads.{pair_in}
use Rattle.lp_plain.specs.Instances.{AreValues, IsNoParameter}
use Rattle.lp_plain.specs.Renewal.{renewing}
use Rattle.lp_plain.specs.Scopes.{IsScope}
use Rattle.lp_plain.specs.Attempted.{AreWrittenIn, becomes}
use Rattle.lp_plain.specs.Unifying.{IsUnifiedAs}

-- steps at the top lead from these terms to those at the numbers, as the bindings read them
abbrev pub AreReached : Nodes → Closing → List TermId → List Term → Type 0
AreReached b z [] [] = Unit {0}
AreReached b z [] (u ∷ us) = ⊥
AreReached b z (t ∷ ts) [] = ⊥
AreReached b z (t ∷ ts) (u ∷ us) = IsReachedAs b z t u × AreReached b z ts us

-- the pairs of a head's arguments, at these places, with the goal's, as the bindings read them
abbrev pub met_pairs : Closing → (becomes : Term → Term) → (level : ℕ) → (goals : List Term) → List (ℕ × Term) → List Pair
met_pairs z f level us [] = []
met_pairs z f level us (p ∷ ps) = (if nat_lt p.0 (length us) then record { left = get_or us p.0 (index 0); right = closed z (f p.1); level = level } ∷ [] else []) ++ met_pairs z f level us ps

-- a goal's head and its arguments meet a clause at these values: whatever the definition makes of the equations of their types and the pairs of their arguments, behind
-- the residual pairs of the branch, it comes to that. The first argument may have been reduced
abbrev pub IsMet : (old new : Machine) → Rule → (goal : TermId) → (args : List TermId) → Values → (level : ℕ) → Unified → Type 0
IsMet old new r goal args values level u =
    (a : Atom) → tree old.bank goal.0 ≡ atom a → IsNoParameter a → All (λ t. t.0 < length old.bank.terms) args → All (IsPairOf (length old.bank.terms)) old.branch.pairs.items →
    (nb nv : ℕ) → (vs : List TermId) → IsScope old.scopes nb nv values.scope vs → AreValues old.bank vs → (ar : ℕ → ℕ) → (k : ℕ) → AreWrittenIn old.bank ar k (length vs) r.pairs.items →
    (z : Closing) → IsOpenReading old.bank old.bindings old.branch.next z → (us : List Term) → AreReached old.bank z args us → (ds : List Pair) → ArePairsFor old.bank z old.branch.pairs.items ds →
    (levels : ℕ → ℕ) → AreKnownPairs levels old.branch.next (met_pairs z (becomes old.bank vs values.types) level us
    (map (pair_in old.bank) r.pairs.items)) → AreKnownPairs levels old.branch.next ds → (n : ℕ) → (o : Outcome) →
    solve n 1000000 (type_pairs (instance_term z.types (tree old.bank goal.0)) (instance_term z.types (instance_term (renewing values.types) (tree old.bank r.head.0))))
    (met_pairs z (becomes old.bank vs values.types) level us (map (pair_in old.bank) r.pairs.items)) ds old.branch.next ≡ Some o → IsUnifiedAs u levels old.branch.next z new n o
