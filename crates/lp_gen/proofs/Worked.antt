-- The worked clause and query are within the limits.
use Rattle.std.proofs.Common.{◌<◌, inl, inr, ℕ, List, [], arith}
use Rattle.lp_calculus.specs.Types.{Ty}
use Rattle.lp_model.specs.Flat.{Atomic, clause, goals, no_goals}
use Rattle.lp_gen.specs.Registers.{Amount, Passes, SomeOfClause, SomeOfQuery}
use Rattle.lp_gen.specs.Worked.{worked_atom}

-- numbers as small as these pass nothing
never : (a : Amount) → a.types < 65536 → a.terms < 65536 → a.bytes < 4294967296 → a.misfits < 1 → Passes a → ⊥
never a t r p f (inl x) = absurd (omega (arith, t, x))
never a t r p f (inr (inl x)) = absurd (omega (arith, r, x))
never a t r p f (inr (inr (inl x))) = absurd (omega (arith, p, x))
never a t r p f (inr (inr (inr x))) = absurd (omega (arith, f, x))

pub fact_is_within : (K : ℕ → List Ty → Ty) → SomeOfClause K (clause 0 [] worked_atom no_goals) → ⊥
fact_is_within K (inl x) = never _ (omega arith) (omega arith) (omega arith) (omega arith) x
fact_is_within K (inr x) = x

pub query_is_within : (K : ℕ → List Ty → Ty) → SomeOfQuery K 0 [] (goals (Atomic worked_atom) no_goals) → ⊥
query_is_within K (inl x) = never _ (omega arith) (omega arith) (omega arith) (omega arith) x
query_is_within K (inr (inl x)) = x
query_is_within K (inr (inr x)) = x
