-- Clauses that are assumed, one by one, and a plan with its records up to a place.
use Rattle.std.proofs.Common.{◌≡◌, ◌∙◌, ◌⊎◌, inl, inr, ◌<◌, ℕ, zero, suc, ◌+◌, ◌^◌, List, [], ◌∷◌, ◌++◌, take, length, Some, ap, refl, sym, subst, arith}
use Rattle.std.specs.Prelude.{All, slice_get}
use Rattle.std.proofs.lemmas.List.{length-append}
use Rattle.std.proofs.lemmas.List.Elements.{All-append}
use Rattle.indexmap.specs.IndexMap.{IndexMap}
use Rattle.lp_calculus.specs.Types.{Ty}
use Rattle.lp_model.specs.Flat.{Clause, Clauses, clause, no_clauses, clauses}
use Rattle.lp_code.specs.declared.record.Record.{Record}
use Rattle.lp_gen.specs.Steps.{Around}
use Rattle.lp_gen.specs.Registers.{Amount, both, started, Passes, with_unset, in_body, count_given, clause_takes, SomeOfGoals, SomeAssumed}
use Rattle.lp_gen.specs.declared.environment.Variable.{Variable}
use Rattle.lp_gen.specs.declared.plan.Assumption.{Assumption}
use Rattle.lp_gen.specs.declared.plan.Due.{Due}
use Rattle.lp_gen.specs.declared.plan.Part.{Part}
use Rattle.lp_gen.specs.declared.tables.Tables.{Tables}
use Rattle.lp_gen.specs.inner.GoalCode.{numbers}
use Rattle.lp_gen.specs.inner.BodyCode.{AreAllSet, starts_all}
use Rattle.lp_gen.specs.inner.Planned.{clauses_length}
use Rattle.lp_gen.specs.inner.Planning.{Extends, PartPlanned, AllPlanned}
use Rattle.lp_gen.specs.inner.Groups.{AllWritten}
use Rattle.lp_gen.proofs.BodySteps.{numbers_length}
use Rattle.lp_gen.proofs.GroupTold.{no_start}
use Rattle.lp_gen.proofs.PartsDone.{clause_at, same_clause}
use Rattle.lp_gen.proofs.WrittenTypes.{first_same}

-- numbers one after the other

pub numbers_from : (q m n k : ℕ) → numbers q n ≡ numbers m k → 0 < n → q ≡ m
numbers_from q m zero k e lt = absurd (omega (arith, lt))
numbers_from q m (suc n) zero e lt = let z = ap length e in let y = numbers_length (suc q) n in absurd (omega (arith, z, y))
numbers_from q m (suc n) (suc k) e lt = first_same q m (numbers (suc q) n) (numbers (suc m) k) e

-- some of the clauses that are assumed

module _ (K : ℕ → List Ty → Ty) (v : ℕ) where
  abbrev pub clause_amount : Around → Clause → Amount
  clause_amount s (clause n vs h gs) = both (started v (count_given s.captured s.base)) (clause_takes K v s vs h gs)

  abbrev pub SomeInClause : Around → Clause → Type 0
  SomeInClause s (clause n vs h gs) = SomeOfGoals K v (in_body (with_unset s vs)) gs

  pub assumed_put : (s : Around) (cs : Clauses) (j : ℕ) (c : Clause) → clause_at cs j ≡ Some c → Passes (clause_amount s c) ⊎ SomeInClause s c → SomeAssumed K v s cs
  assumed_put s no_clauses j c at x = absurd (no_start c at)
  assumed_put s (clauses (clause n vs h gs) cs) zero c at x = go (subst (λ d. Passes (clause_amount s d) ⊎ SomeInClause s d) (same_clause (clause n vs h gs) c at) x)
    where
      go : Passes (clause_amount s (clause n vs h gs)) ⊎ SomeInClause s (clause n vs h gs) → SomeAssumed K v s (clauses (clause n vs h gs) cs)
      go (inl p) = inl p
      go (inr p) = inr (inl p)
  assumed_put s (clauses (clause n vs h gs) cs) (suc j) c at x = inr (inr (assumed_put s cs j c at x))

  pub assumed_found : (s : Around) (cs : Clauses) → SomeAssumed K v s cs → (j : ℕ) × (c : Clause) × (clause_at cs j ≡ Some c) × (Passes (clause_amount s c) ⊎ SomeInClause s c)
  assumed_found s no_clauses x = absurd x
  assumed_found s (clauses (clause n vs h gs) cs) (inl p) = (0, clause n vs h gs, refl, inl p)
  assumed_found s (clauses (clause n vs h gs) cs) (inr (inl p)) = (0, clause n vs h gs, refl, inr p)
  assumed_found s (clauses (clause n vs h gs) cs) (inr (inr p)) = let x = assumed_found s cs p in (suc x.0, x.1, x.2, x.3)

pub clause_low : (cs : Clauses) (j : ℕ) (c : Clause) → clause_at cs j ≡ Some c → j < clauses_length cs
clause_low no_clauses j c at = absurd (no_start c at)
clause_low (clauses d cs) zero c at = omega arith
clause_low (clauses d cs) (suc j) c at = let z = clause_low cs j c at in omega (arith, z)

-- parts and records up to a place

pub written_ends : {S : Type 0} (t : Tables) (us : List Due) (xs : List Assumption) (e : Extends xs t.assumptions.now) (low : t.first + length us < 2 ^ 32) (before starts : List (IndexMap ℕ Variable S))
    (i n m q s : ℕ) (ps : List Part) (rs : List Record) → AllPlanned us xs i n m q s ps → AllWritten t before starts ps rs → length before ≡ n → All (AreAllSet t.bank.now) before →
    (length starts ≡ m) × All (AreAllSet t.bank.now) starts
written_ends t us xs e low before starts i n m q s [] rs a w many set = (ap length w.1 ∙ many ∙ a.0, subst (All (AreAllSet t.bank.now)) (sym w.1) set)
written_ends t us xs e low before starts i n m q s (p ∷ ps) [] a w many set = absurd w
written_ends {S} t us xs e low before starts i n m q s (p ∷ ps) (r ∷ rs) (k, l, a, ahead) (c, more, w, b, ws) many set =
    let size : (more2 : List (IndexMap ℕ Variable S)) × (more ≡ [] ++ more2) × (length more2 ≡ starts_all t p.steps.items) × All (AreAllSet t.bank.now) more2 = w.body.written.1 in
    let count = size.2 in
    let same_more = ap length size.1 in
    let next = (a.are_next t e low).2 in
    let sum = length-append before more in
    written_ends t us xs e low (before ++ more) starts (suc i) k m l s ps rs ahead ws (omega (arith, many, count, same_more, next, sum))
    (All-append (AreAllSet t.bank.now) before more set (subst (All (AreAllSet t.bank.now)) (sym size.1) size.3))

-- a plan up to a part, and from there
pub planned_at : (us : List Due) (xs : List Assumption) (i n m q s : ℕ) (ps : List Part) (k : ℕ) → AllPlanned us xs i n m q s ps → (n1 : ℕ) × (q1 : ℕ) × AllPlanned us xs i n n1 q q1 (take k ps) ×
    ((p : Part) → slice_get ps k ≡ Some p → (n2 : ℕ) × (q2 : ℕ) × PartPlanned us xs (i + k) n1 n2 q1 q2 p)
planned_at us xs i n m q s ps zero a = (n, q, (refl, refl), first ps a)
  where
    first : (ps : List Part) → AllPlanned us xs i n m q s ps → (p : Part) → slice_get ps 0 ≡ Some p → (n2 : ℕ) × (q2 : ℕ) × PartPlanned us xs (i + 0) n n2 q q2 p
    first [] a p at = absurd (no_start p at)
    first (y ∷ ps) (n2, q2, a, ahead) p at =
        let same : y ≡ p = cc in
        let z : i ≡ i + 0 = omega arith in
        (n2, q2, subst (λ j. PartPlanned us xs j n n2 q q2 p) z (subst (PartPlanned us xs i n n2 q q2) same a))
planned_at us xs i n m q s [] (suc k) a = (n, q, (refl, refl), λ p at. absurd (no_start p at))
planned_at us xs i n m q s (y ∷ ps) (suc k) (n1, q1, a, ahead) =
    let x = planned_at us xs (suc i) n1 m q1 s ps k ahead in (
      x.0,
      x.1,
      (n1, q1, a, x.2),
      λ p at. let y = x.3 p at in let z : suc i + k ≡ i + suc k = omega arith in (y.0, y.1, subst (λ j. PartPlanned us xs j x.0 y.0 x.1 y.1 p) z y.2),
    )

pub take_at : {X : Type 0} (xs : List X) (k i : ℕ) → i < k → slice_get (take k xs) i ≡ slice_get xs i
take_at xs zero i lt = absurd (omega (arith, lt))
take_at [] (suc k) i lt = refl
take_at (x ∷ xs) (suc k) zero lt = refl
take_at (x ∷ xs) (suc k) (suc i) lt = take_at xs k i (omega (arith, lt))

pub take_low : {X : Type 0} (xs : List X) (k i : ℕ) → i < length (take k xs) → i < k
take_low xs zero i lt = absurd (omega (arith, lt))
take_low [] (suc k) i lt = absurd (omega (arith, lt))
take_low (x ∷ xs) (suc k) zero lt = omega arith
take_low (x ∷ xs) (suc k) (suc i) lt = let z = take_low xs k i (omega (arith, lt)) in omega (arith, z)
