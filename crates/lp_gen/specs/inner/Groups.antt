-- The records of one clause or query, those that it assumes behind it, and of clauses one after the other.
use Rattle.std.specs.Prelude.{◌≡◌, ℕ, ◌+◌, ◌-◌, ◌<◌, ◌≤◌, ◌^◌, List, [], ◌∷◌, ◌++◌, take, map, length, Option, Some, None, slice_get}
use Rattle.std.specs.Borrow.{Bor}
use Rattle.std.specs.declared.hash.BuildHasherDefault.{BuildHasherDefault}
use Rattle.std.specs.declared.hash.FoldHasher.{FoldHasher}
use Rattle.indexmap.specs.IndexMap.{IndexMap, index_map_len}
use Rattle.lp_term.specs.Nodes.{Nodes, tree}
use Rattle.lp_model.specs.Flat.{clause}
use Rattle.lp_model.specs.Flattened.{goals_of}
use Rattle.lp_model.specs.declared.clause.Clause.{Clause}
use Rattle.lp_model.specs.declared.program.Declared.{Declared}
use Rattle.lp_code.specs.declared.record.Record.{Record}
use Rattle.lp_gen.specs.declared.environment.Variable.{Variable}
use Rattle.lp_gen.specs.declared.plan.Due.{Due}
use Rattle.lp_gen.specs.declared.plan.Part.{Part}
use Rattle.lp_gen.specs.declared.plan.Origin.{Origin}
use Rattle.lp_gen.specs.declared.plan.Origin.TheVariants as origin
use Rattle.lp_gen.specs.declared.tables.Tables.{Tables}
use Rattle.lp_gen.specs.Steps.{constant_function}
use Rattle.lp_gen.specs.Registers.{Passes, SomeOfClause, SomeOfQuery}
use Rattle.lp_gen.specs.inner.Entering.{types_at}
use Rattle.lp_gen.specs.inner.BodyCode.{AreAllSet}
use Rattle.lp_gen.specs.inner.Recorded.{own_count, start_around, RecordTakes, RecordWritten}
use Rattle.lp_gen.specs.inner.Planning.{ArePlanned, AllCaptured}

abbrev pub Hasher : Type 0
Hasher = BuildHasherDefault FoldHasher

-- what an assumption keeps
abbrev pub Kept : Type 0
Kept = IndexMap ℕ Variable Hasher

-- the variables with which a record starts: those that its assumption keeps
abbrev pub IsStartOf : {S : Type 0} → List (IndexMap ℕ Variable S) → Option ℕ → IndexMap ℕ Variable S → Type 0
IsStartOf xs None m = m.entries ≡ []
IsStartOf xs (Some n) m = n < length xs → slice_get xs n ≡ Some m

-- the records of parts; `xs` and `ys` are what assumptions keep before and behind them
abbrev pub AllWritten : {S : Type 0} → Tables → (xs ys : List (IndexMap ℕ Variable S)) → List Part → List Record → Type 0
AllWritten t xs ys [] rs = (rs ≡ []) × (ys ≡ xs)
AllWritten t xs ys (p ∷ ps) [] = ⊥
AllWritten {S} t xs ys (p ∷ ps) (r ∷ rs) =
    (m : IndexMap ℕ Variable S) × (more : List (IndexMap ℕ Variable S)) × RecordWritten t (constant_function t.bank.now t.constants.now) p m [] more r
    × IsStartOf xs p.within m × AllWritten t (xs ++ more) ys ps rs

-- the record of a part passes what it may have, where those before it are written
abbrev pub PartFull : Tables → List Part → Type 0
PartFull t ps =
    (k : ℕ) × (p : Part) × (m : Kept) × (starts : List Kept) × (g : List Record) × (slice_get ps k ≡ Some p) × AllWritten t [] starts (take k ps) g × IsStartOf starts p.within m
    × (AreAllSet t.bank.now m → p.base + own_count p.origin ≤ 4294967295 → RecordTakes Passes t (constant_function t.bank.now t.constants.now) p (start_around t.bank.now m p.base) (index_map_len m))

-- some record of a clause or query passes what it may have
abbrev pub OriginFull : Nodes → List Declared → (type_vars : ℕ) → Origin → Type 0
OriginFull b ds v (origin.Clause c) = SomeOfClause (constant_function b ds) (clause v (types_at b c.now.vars.items) (tree b c.now.head.0) (goals_of b c.now.body.items))
OriginFull b ds v (origin.Query q gs) = SomeOfQuery (constant_function b ds) v (types_at b (map (λ v. v.1) q.now.vars.items)) (goals_of b gs.now)

-- the records of one of them, from number `n` on
pub record IsGroup (b : Nodes) (ds : List Declared) (n vars : ℕ) (o : Origin) (g : List Record) : Type 0 where
  pub tables : Tables
  pub bank_is : tables.bank.now ≡ b
  pub constants_are : tables.constants.now ≡ ds
  pub vars_are : tables.type_vars ≡ vars
  pub few_vars : vars ≤ 65535
  pub first : n < 2 ^ 32 - 1 → tables.first ≡ n
  pub due : List Due
  pub parts : List Part
  pub planned : ArePlanned o due parts tables.assumptions.now
  pub captured : AllCaptured tables.bank.now tables.assumptions.now
  pub few : length parts ≤ 65536
  pub starts : List Kept
  pub written : AllWritten tables [] starts parts g

-- those of clauses
abbrev pub AreGroups : Nodes → List Declared → (n : ℕ) → List Clause → List Record → Type 0
AreGroups b ds n [] rs = rs ≡ []
AreGroups b ds n (c ∷ cs) rs =
    (of : Bor Clause) × (of.now ≡ c) × (g : List Record) × (more : List Record) × (rs ≡ g ++ more) × IsGroup b ds n c.type_vars (origin.Clause of) g × AreGroups b ds (n + length g) cs more
