-- Uniform proofs of lists of closed atoms from Horn clauses, as a test on proof trees
-- (Miller, Nadathur, Pfenning and Scedrov 1991, cut down to backward chaining).
use Rattle.std.specs.Prelude.{◌≡◌, ℕ, List, [], ◌∷◌, map, Some, slice_get}
use Rattle.lp_calculus.specs.Term.{Term}
use Rattle.lp_model.specs.Index.{instantiate, at}
use Rattle.lp_model.specs.Horn.{Declared, Clause, Query, AreValues}

-- a proof of a list of goals: of the first by a clause, with terms for its variables and a proof of its body, and of the rest
pub data Proof : Type 0 where
  Done : Proof
  Back : (clause : ℕ) → (terms : List Term) → (body rest : Proof) → Proof

-- clause i of P, with these terms for its variables, has the head g
pub record Fits (d : Declared) (P : List Clause) (i : ℕ) (ts : List Term) (g : Term) (c : Clause) : Type 0 where
  pub stands : slice_get P i ≡ Some c
  pub values : AreValues d ts c.vars
  pub hits : instantiate (at ts) c.head ≡ g

abbrev pub proves : Declared → List Clause → List Term → Proof → Type 0
proves d P [] Done = Unit {0}
proves d P (g ∷ gs) (Back i ts p q) =
    (c : Clause) × Fits d P i ts g c × proves d P (map (instantiate (at ts)) c.body) p × proves d P gs q
proves d P [] (Back i ts p q) = ⊥
proves d P (g ∷ gs) Done = ⊥

pub record Provable (d : Declared) (P : List Clause) (gs : List Term) : Type 0 where
  pub proof : Proof
  pub holds : proves d P gs proof

-- a provable instance of a query: values for its variables with which all its goals have a proof
pub record IsProvable (d : Declared) (P : List Clause) (q : Query) (i : List Term) : Type 0 where
  pub values : AreValues d i q.vars
  pub proved : Provable d P (map (instantiate (at i)) q.goals)
