-- Parts with their records, and clauses by their places.
use Rattle.std.proofs.Common.{◌≡◌, ◌∙◌, ◌≤◌, ◌<◌, ℕ, zero, suc, ◌+◌, ◌-◌, ◌^◌, List, [], ◌∷◌, length, drop, Bor, Bool, Option, Some, None, ap, refl, sym, subst, arith}
use Rattle.std.specs.Prelude.{if◌then◌else◌, All, slice_get}
use Rattle.std.proofs.lemmas.Bool.{eq-eqb, ne_eqb}
use Rattle.indexmap.specs.IndexMap.{IndexMap, index_map_len}
use Rattle.lp_calculus.specs.Types.{Ty}
use Rattle.lp_calculus.specs.Term.{Term}
use Rattle.lp_term.specs.Nodes.{Nodes, tree}
use Rattle.std.proofs.lemmas.List.Elements.{All-nil, All-cons}
use Rattle.lp_model.specs.Flat.{Clause, Clauses, clause, no_clauses, clauses, add_clauses}
use Rattle.lp_model.specs.Flattened.{goals_of}
use Rattle.lp_model.specs.declared.clause.Clause as code
use Rattle.lp_code.specs.declared.record.Record.{Record}
use Rattle.lp_code.specs.Symbolic.{Tables as CodeTables}
use Rattle.lp_code.specs.States.{Captured, Home}
use Rattle.lp_code.specs.Denote.{denoted, home_of, later_from}
use Rattle.lp_gen.specs.Sources.{clauses_depth}
use Rattle.lp_gen.specs.declared.environment.Variable.{Variable}
use Rattle.lp_gen.specs.declared.plan.Assumption.{Assumption}
use Rattle.lp_gen.specs.declared.plan.Part.{Part}
use Rattle.lp_gen.specs.declared.plan.Origin.{Origin}
use Rattle.lp_gen.specs.declared.plan.Origin.TheVariants as origin
use Rattle.lp_gen.specs.declared.tables.Tables.{Tables}
use Rattle.lp_gen.specs.Steps.{Around, constant_function}
use Rattle.lp_gen.specs.inner.Bodies.{bare_clauses, said_clauses, AllThrough}
use Rattle.lp_gen.specs.inner.GoalCode.{numbers}
use Rattle.lp_gen.specs.inner.Entering.{types_at}
use Rattle.lp_gen.specs.inner.OpenGoals.{goals_steps}
use Rattle.lp_gen.specs.inner.BodyCode.{Suppositions, started_at, HoldStarts, steps_of, AreNext}
use Rattle.lp_gen.specs.inner.BodyLaw.{ClausesFit}
use Rattle.lp_gen.specs.inner.Planned.{clauses_length, GoalsHave, AreWritten, IsAtLevel, IsAssumption}
use Rattle.lp_gen.specs.inner.Recorded.{RecordWritten, own_count}
use Rattle.lp_gen.specs.inner.Planning.{body_of}

-- what the later records denote, by their numbers

pub drop_none : {X : Type 0} (k : ℕ) → drop {A = X} k [] ≡ []
drop_none zero = refl
drop_none (suc k) = refl

pub drop_more : {X : Type 0} (xs : List X) (n i : ℕ) → drop i (drop n xs) ≡ drop (n + i) xs
drop_more xs zero i = let z : i ≡ 0 + i = omega arith in ap (λ k. drop k xs) z
drop_more [] (suc n) i = drop_none i ∙ sym (drop_none (suc n + i))
drop_more (x ∷ xs) (suc n) i = drop_more xs n i ∙ (let z : suc (n + i) ≡ suc n + i = omega arith in ap (λ k. drop k (x ∷ xs)) z)

pub no_record : (r : Record) → ◌≡◌ {A = Option Record} None (Some r) → ⊥
no_record r e = cc

pub same_record : (r s : Record) → ◌≡◌ {A = Option Record} (Some r) (Some s) → r ≡ s
same_record r s e = cc

-- what the record of a number denotes
abbrev pub told_at : CodeTables → List Record → ℕ → Record → Captured → Option Clause
told_at T all m r c = denoted (home_of T all m r) (λ k e. later_from T all (suc m) (drop (suc m) all) k e) c

pub later_in : (T : CodeTables) (all : List Record) (n i m : ℕ) (rs : List Record) (r : Record) (c : Captured) → m ≡ n + i → rs ≡ drop n all → slice_get
    rs i ≡ Some r → later_from T all n rs m c ≡ told_at T all m r c
later_in T all n i m [] r c e from at = absurd (no_record r at)
later_in T all n zero m (s ∷ ss) r c e from at =
    let same : m ≡ n = omega (arith, e) in
    let rest : ss ≡ drop (suc m) all = ap (drop 1) from ∙ drop_more all n 1 ∙ (let z : n + 1 ≡ suc m = omega (arith, same) in ap (λ k. drop k all) z) in
    ap (λ t. if t then denoted (home_of T all n s) (λ k e. later_from T all (suc n) ss k e) c else later_from T all (suc n) ss m c) (eq-eqb m n same)
    ∙ (λ i. denoted (home_of T all (sym same i) (same_record s r at i)) (λ k e. later_from T all (suc (sym same i)) (rest i) k e) c)
later_in T all n (suc i) m (s ∷ ss) r c e from at =
    let rest : ss ≡ drop (suc n) all = ap (drop 1) from ∙ drop_more all n 1 ∙ (let z : n + 1 ≡ suc n = omega arith in ap (λ k. drop k all) z) in
    ap (λ t. if t then denoted (home_of T all n s) (λ k e. later_from T all (suc n) ss k e) c else later_from T all (suc n) ss m c) (ne_eqb m n (λ z. absurd (omega (arith, z, e))))
    ∙ later_in T all (suc n) i m ss r c (let z : m ≡ suc n + i = omega (arith, e) in z) rest at

pub dropped_at : {X : Type 0} (xs : List X) (n i : ℕ) → slice_get (drop n xs) i ≡ slice_get xs (n + i)
dropped_at xs zero i = let z : i ≡ 0 + i = omega arith in ap (slice_get xs) z
dropped_at [] (suc n) i = refl
dropped_at (x ∷ xs) (suc n) i = dropped_at xs n i ∙ (let z : suc (n + i) ≡ suc n + i = omega arith in ap (slice_get (x ∷ xs)) z)

pub later_told : (T : CodeTables) (all : List Record) (n m : ℕ) (r : Record) (c : Captured) → n ≤ m → slice_get all m ≡ Some r → later_from T all n (drop n all) m c ≡ told_at T all m r c
later_told T all n m r c le at =
    let i : ℕ = m - n in
    let z : m ≡ n + i = omega (arith, le) in
    later_in T all n i m (drop n all) r c z refl (dropped_at all n i ∙ ap (slice_get all) (sym z) ∙ at)

-- clauses one by one

abbrev pub clause_at : Clauses → ℕ → Option Clause
clause_at no_clauses i = None
clause_at (clauses c cs) zero = Some c
clause_at (clauses c cs) (suc i) = clause_at cs i

-- a part of a plan with its record
pub record PartDone (S : Type 0) (t : Tables) (cl : Suppositions) (part : Part) (number : ℕ) (r : Record) : Type 0 where
  pub captured : IndexMap ℕ Variable S
  pub starts : List (IndexMap ℕ Variable S)
  pub written : RecordWritten t (constant_function t.bank.now t.constants.now) part captured [] starts r
  pub first : ℕ
  pub kept : HoldStarts t.bank.now starts first cl
  pub next : ℕ
  pub later : number < next
  pub steps : steps_of t.bank.now cl part.steps.items ≡ goals_steps (goals_of t.bank.now (body_of part.origin))
  pub are_next : AreNext t next first part.steps.items
  pub has : GoalsHave (IsAtLevel t) next (part.base + own_count part.origin) (goals_of t.bank.now (body_of part.origin))
  pub well : AreWritten (goals_of t.bank.now (body_of part.origin))
  pub has_clauses : GoalsHave (IsAssumption t cl) next (part.base + own_count part.origin) (goals_of t.bank.now (body_of part.origin))
  pub few : part.base + own_count part.origin + length part.steps.items < 2 ^ 64 - 1
  pub short : part.base + own_count part.origin < 2 ^ 64 - 1
  -- what it starts with is what the assumption around it gave
  pub starts_are : (n : ℕ) → part.within ≡ Some n → ((l : ℕ) → cl.starts n l ≡ started_at t.bank.now captured l) × (cl.counts n ≡ index_map_len captured)

abbrev pub flat_of : Nodes → Origin → Option Clause
flat_of b (origin.Clause c) = Some (clause c.now.type_vars (types_at b c.now.vars.items) (tree b c.now.head.0) (goals_of b c.now.body.items))
flat_of b (origin.Query q gs) = None

-- a part that is one of the clauses of an assumption
pub record IsMember (t : Tables) (parts : List Part) (records : List Record) (n : ℕ) (x : Assumption) (j : ℕ) (c : Clause) : Type 0 where
  pub part : Part
  pub record_is : Record
  pub part_at : slice_get parts (x.first + j) ≡ Some part
  pub record_at : slice_get records (x.first + j) ≡ Some record_is
  pub within : part.within ≡ Some n
  pub base : part.base ≡ x.base
  pub flat : flat_of t.bank.now part.origin ≡ Some c

pub no_clause : (c : Clause) → ◌≡◌ {A = Option Clause} None (Some c) → ⊥
no_clause c e = cc

-- a part that is a clause
pub clause_origin : (b : Nodes) (o : Origin) (c : Clause) → flat_of b o ≡ Some c → (of : Bor code.Clause) × (o ≡ origin.Clause of)
clause_origin b (origin.Clause of) c e = (of, refl)
clause_origin b (origin.Query q gs) c e = absurd (no_clause c e)

pub same_clause : (c d : Clause) → ◌≡◌ {A = Option Clause} (Some c) (Some d) → d ≡ c
same_clause c d e = cc

pub clause_there : (cs : Clauses) (j : ℕ) → j < clauses_length cs → (c : Clause) × (clause_at cs j ≡ Some c)
clause_there no_clauses j l = absurd (omega (arith, l))
clause_there (clauses c cs) zero l = (c, refl)
clause_there (clauses c cs) (suc j) l = clause_there cs j (omega (arith, l))

pub all_numbers : (P : ℕ → Type 0) (q n : ℕ) → ((j : ℕ) → j < n → P (q + j)) → All P (numbers q n)
all_numbers P q zero f = All-nil P
all_numbers P q (suc n) f = All-cons P q (numbers (suc q) n) (let z : q + 0 ≡ q = omega arith in subst P z (f 0 (omega arith)))
    (all_numbers P (suc q) n (λ j l. let z : q + suc j ≡ suc q + j = omega arith in subst P z (f (suc j) (omega (arith, l)))))

-- the first clause and the others
pub bare_split : (c : Clause) (cs : Clauses) → bare_clauses (clauses c cs) ≡ add_clauses (bare_clauses (clauses c no_clauses)) (bare_clauses cs)
bare_split (clause n vs h b) cs = refl

pub said_split : (σ : ℕ → Term) (A : Around) (c : Clause) (cs : Clauses) → said_clauses σ A 0 (clauses c cs) ≡ add_clauses (said_clauses σ A 0 (clauses c no_clauses)) (said_clauses σ A 0 cs)
said_split σ A (clause n vs h b) cs = refl

pub fit_first : (h : Home) (v : ℕ) (Γ : List Ty) (B : List Bool) (Q : ℕ → Type 0) (c : Clause) (cs : Clauses) → ClausesFit h v Γ B Q (clauses c cs) →
    ClausesFit h v Γ B Q (clauses c no_clauses) × ClausesFit h v Γ B Q cs
fit_first h v Γ B Q (clause n vs t b) cs (none, known, head, body, ends, others) = ((none, known, head, body, ends, tt), others)

pub through_first : (P : ℕ → Term → Type 0) (d : ℕ) (c : Clause) (cs : Clauses) → AllThrough P d (clauses c cs) → AllThrough P d (clauses c no_clauses) × AllThrough P d cs
through_first P d (clause n vs t b) cs (head, body, others) = ((head, body, tt), others)

pub depth_first : (c : Clause) (cs : Clauses) (n : ℕ) → clauses_depth (clauses c cs) ≤ n → (clauses_depth (clauses c no_clauses) ≤ n) × (clauses_depth cs ≤ n)
depth_first (clause m vs t b) cs n le = (omega (arith, le), omega (arith, le))
