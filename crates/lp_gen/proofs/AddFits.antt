-- Records of a clause or query, and of clauses one after the other: whether one passes what it may have.
use Rattle.std.proofs.Common.{◌≡◌, ◌∙◌, ◌⊎◌, inl, inr, ⊎_elim, ◌≤◌, ◌<◌, ℕ, zero, suc, ◌+◌, ◌^◌, List, [], ◌∷◌, ◌++◌, take, map, length, Bor, Option, Some, None, ap, refl, sym, subst, arith}
use Rattle.std.specs.Prelude.{slice_get}
use Rattle.std.proofs.lemmas.List.{map-append, take_all}
use Rattle.indexmap.specs.IndexMap.{index_map_len}
use Rattle.lp_base.specs.declared.limit.Limit.TheVariants as limit
use Rattle.lp_term.specs.Nodes.{Nodes, tree, type_tree}
use Rattle.lp_term.proofs.Walks.{map_map}
use Rattle.lp_model.specs.Flat.{Clause, clause}
use Rattle.lp_model.specs.Flattened.{clause_of, goals_of}
use Rattle.lp_model.specs.declared.clause.Clause as code
use Rattle.lp_model.specs.declared.clause.Goal as code_goal
use Rattle.lp_model.specs.declared.program.Declared.{Declared}
use Rattle.lp_model.specs.declared.program.Typed as program
use Rattle.lp_code.specs.declared.record.Record.{Record}
use Rattle.lp_gen.specs.Steps.{constant_function}
use Rattle.lp_gen.specs.Registers.{Passes, SomeOfClause, SomeOfClauses, SomeOfQuery}
use Rattle.lp_gen.specs.Limits.{ClausesFull, QueryFull}
use Rattle.lp_gen.specs.declared.fault.GenRefusal.{GenRefusal}
use Rattle.lp_gen.specs.declared.fault.GenRefusal.TheVariants as told
use Rattle.lp_gen.specs.declared.fault.RecordRefusal.{RecordRefusal}
use Rattle.lp_gen.specs.declared.fault.RecordRefusal.TheVariants as refusal
use Rattle.lp_gen.specs.declared.plan.Due.{Due}
use Rattle.lp_gen.specs.declared.plan.Origin.{Origin}
use Rattle.lp_gen.specs.declared.plan.Origin.TheVariants as origin
use Rattle.lp_gen.specs.declared.plan.Part.{Part}
use Rattle.lp_gen.specs.declared.tables.Tables.{Tables}
use Rattle.lp_gen.specs.inner.Entering.{types_at}
use Rattle.lp_gen.specs.inner.BodyCode.{AreAllSet}
use Rattle.lp_gen.specs.inner.Fitting.{IsRefused}
use Rattle.lp_gen.specs.inner.Groups.{Hasher, Kept, IsStartOf, AllWritten, PartFull, OriginFull}
use Rattle.lp_gen.specs.inner.Planning.{AllCaptured, ArePlanned}
use Rattle.lp_gen.specs.inner.Recorded.{own_count, start_around, RecordTakes}
use Rattle.lp_gen.specs.inner.Variables.{OriginFits, of_record}
use Rattle.lp_gen.proofs.FitsOrPasses.{origin_fits}
use Rattle.lp_gen.proofs.GroupFits.{group_full, group_fits}
use Rattle.lp_gen.proofs.Tops.{clause_is}

-- the next part

pub refused_part : (t : Tables) (ps : List Part) (k : ℕ) (p : Part) (m : Kept) (starts : List Kept) (g : List Record) (e : RecordRefusal) → slice_get ps k ≡ Some p → AllWritten t [] starts (take k ps) g →
    IsStartOf starts p.within m →
    (AreAllSet t.bank.now m → p.base + own_count p.origin ≤ 4294967295 → IsRefused (RecordTakes Passes t (constant_function t.bank.now t.constants.now) p (start_around t.bank.now m p.base) (index_map_len m)) e) →
    IsRefused (PartFull t ps) e
refused_part t ps k p m starts g refusal.Registers at w start x = (k, p, m, starts, g, at, w, start, x)
refused_part t ps k p m starts g refusal.Memory at w start x = tt

-- a group

module _ (b : Nodes) (ds : List Declared) (vars : ℕ) (o : Origin) (us : List Due) (ps : List Part) (t : Tables) (bank : t.bank.now ≡ b) (constants : t.constants.now ≡ ds) (same : t.type_vars ≡ vars)
    (planned : ArePlanned o us ps t.assumptions.now) (standing : AllCaptured t.bank.now t.assumptions.now) (low : t.first + length ps < 2 ^ 32) where
  as_given : OriginFull t.bank.now t.constants.now t.type_vars o ≡ OriginFull b ds vars o
  as_given = λ i. OriginFull (bank i) (constants i) (same i) o

  pub all_fit : (starts : List Kept) (g : List Record) (parts : List Part) → parts ≡ ps → AllWritten t [] starts parts g → OriginFull b ds vars o → ⊥
  all_fit starts g parts is w x =
      group_fits Hasher t o us ps (length ps) g starts planned (subst (λ l. AllWritten t [] starts l g) (is ∙ sym (take_all (length ps) ps (omega arith))) w) low standing refl (subst (λ T. T) (sym as_given) x)

  pub one_full : (parts : List Part) → parts ≡ ps → PartFull t parts → OriginFull b ds vars o
  one_full parts is x = subst (λ T. T) as_given (go (subst (PartFull t) is x))
    where
      go : PartFull t ps → OriginFull t.bank.now t.constants.now t.type_vars o
      go (k, p, m, starts, g, at, w, start, takes) = group_full Hasher t o us ps k g starts planned w low standing p m at start takes

-- refusals

no_memory : told.Memory ≡ told.Limit limit.Registers → ⊥
no_memory e = cc

pub full_record : (F : Type 0) (r : RecordRefusal) (e : GenRefusal) → e ≡ of_record r → (IsRefused F r) → e ≡ told.Limit limit.Registers → F
full_record F refusal.Registers e is x y = x
full_record F refusal.Memory e is x y = absurd (no_memory (sym is ∙ y))

pub refused_map : (F G : Type 0) (r : RecordRefusal) → (F → G) → IsRefused F r → IsRefused G r
refused_map F G refusal.Registers f x = f x
refused_map F G refusal.Memory f x = tt

pub full_plan : (b : Nodes) (ds : List Declared) (v : ℕ) (o : Origin) → (OriginFits b o → ⊥) → OriginFull b ds v o
full_plan b ds v o f = go (origin_fits b ds v o)
  where
    go : OriginFull b ds v o ⊎ OriginFits b o → OriginFull b ds v o
    go (inl x) = x
    go (inr x) = absurd (f x)

-- too many type variables
pub full_types : (b : Nodes) (ds : List Declared) (v : ℕ) (o : Origin) → 65535 < v → OriginFull b ds v o
full_types b ds v (origin.Clause c) lt = inl (inl (omega (arith, lt)))
full_types b ds v (origin.Query q gs) lt = inl (inl (omega (arith, lt)))

-- clauses one after the other

abbrev pub ClauseFull : Nodes → List Declared → code.Clause → Type 0
ClauseFull b ds c = SomeOfClause (constant_function b ds) (clause c.type_vars (types_at b c.vars.items) (tree b c.head.0) (goals_of b c.body.items))

clause_same : (b : Nodes) (ds : List Declared) (c : code.Clause) → ClauseFull b ds c ≡ SomeOfClause (constant_function b ds) (clause_of b c)
clause_same b ds c = ap (SomeOfClause (constant_function b ds)) (sym (clause_is b c))

module _ (b : Nodes) (ds : List Declared) where
  some_split : (cs : List Clause) (c : Clause) → SomeOfClauses (constant_function b ds) (cs ++ c ∷ []) → SomeOfClauses (constant_function b ds) cs ⊎ SomeOfClause (constant_function b ds) c
  some_split [] c (inl x) = inr x
  some_split [] c (inr x) = absurd x
  some_split (d ∷ cs) c (inl x) = inl (inl x)
  some_split (d ∷ cs) c (inr x) = go (some_split cs c x)
    where
      go : SomeOfClauses (constant_function b ds) cs ⊎ SomeOfClause (constant_function b ds) c → SomeOfClauses (constant_function b ds) (d ∷ cs) ⊎ SomeOfClause (constant_function b ds) c
      go (inl y) = inl (inr y)
      go (inr y) = inr y

  pub one_fits_more : (cs : List code.Clause) (i : ℕ) (c : code.Clause) → take (i + 1) cs ≡ take i cs ++ c ∷ [] → (ClausesFull b ds (take i cs) → ⊥) →
      (ClauseFull b ds c → ⊥) → ClausesFull b ds (take (i + 1) cs) → ⊥
  one_fits_more cs i c next before f x =
      ⊎_elim before (λ y. f (subst (λ T. T) (sym (clause_same b ds c)) y))
      (some_split (map (clause_of b) (take i cs)) (clause_of b c) (subst (SomeOfClauses (constant_function b ds)) (ap (map (clause_of b)) next ∙ map-append (clause_of b) (take i cs) (c ∷ [])) x))

  some_there : (cs : List code.Clause) (i : ℕ) (c : code.Clause) → slice_get cs i ≡ Some c → SomeOfClause (constant_function b ds) (clause_of b c) → ClausesFull b ds cs
  some_there [] i c at x = absurd (no_clause at)
    where
      no_clause : ◌≡◌ {A = Option code.Clause} None (Some c) → ⊥
      no_clause e = cc
  some_there (d ∷ cs) zero c at x = inl (subst (λ e. SomeOfClause (constant_function b ds) (clause_of b e)) (one d c at) x)
    where
      one : (d c : code.Clause) → ◌≡◌ {A = Option code.Clause} (Some d) (Some c) → c ≡ d
      one d c e = cc
  some_there (d ∷ cs) (suc i) c at x = inr (some_there cs i c at x)

  pub one_full_clause : (cs : List code.Clause) (i : ℕ) (c : code.Clause) → slice_get cs i ≡ Some c → ClauseFull b ds c → ClausesFull b ds cs
  one_full_clause cs i c at x = some_there cs i c at (subst (λ T. T) (clause_same b ds c) x)

  pub query_same : (q : Bor program.Typed) (gs : Bor (List code_goal.Goal)) → OriginFull b ds q.now.type_vars (origin.Query q gs) ≡ QueryFull b ds q.now gs.now
  query_same q gs =
      ap (λ l. SomeOfQuery (constant_function b ds) q.now.type_vars l (goals_of b gs.now)) (map_map (λ t. type_tree b t.0) (λ v. v.1) q.now.vars.items)
