-- The records of a query denote it.
use Rattle.std.proofs.Common.{◌≡◌, ◌∙◌, ◌≤◌, ◌<◌, ℕ, suc, ◌+◌, ◌^◌, List, [], ◌∷◌, ◌++◌, length, map, drop, reverse, Bor, true, false, Option, Some, None, ap, refl, sym, subst, arith, true≢false}
use Rattle.std.specs.Prelude.{if◌then◌else◌, ◌&&◌, is_none, slice_get}
use Rattle.std.proofs.lemmas.List.{append-nil}
use Rattle.lp_term.specs.Nodes.{Nodes, type_tree}
use Rattle.lp_term.specs.declared.node.TypeId.{TypeId}
use Rattle.lp_model.specs.Flat.{Clause}
use Rattle.lp_model.specs.Flattened.{goals_of}
use Rattle.lp_model.specs.declared.clause.Goal as code_goal
use Rattle.lp_model.specs.declared.program.Declared.{Declared}
use Rattle.lp_model.specs.declared.program.Typed as query
use Rattle.lp_code.specs.declared.record.Record.{Record}
use Rattle.lp_code.specs.States.{member}
use Rattle.lp_code.specs.Rules.{named_before, has_none}
use Rattle.lp_code.specs.Denote.{DenotedQuery, denote_query, denote_from, later_from, home_of, first_state, nothing_captured, run, query_ran}
use Rattle.lp_gen.specs.Sources.{AreKnownSchemes, Under, IsQuery}
use Rattle.lp_gen.specs.Contract.{tables_of}
use Rattle.lp_gen.specs.Limits.{goals_strings}
use Rattle.lp_gen.specs.declared.plan.Due.{Due}
use Rattle.lp_gen.specs.declared.plan.Part.{Part}
use Rattle.lp_gen.specs.declared.plan.Origin.TheVariants as origin
use Rattle.lp_gen.specs.declared.tables.Tables.{Tables}
use Rattle.lp_gen.specs.Steps.{constant_function}
use Rattle.lp_gen.specs.inner.Written.{AreAsked}
use Rattle.lp_gen.specs.inner.Entering.{types_at}
use Rattle.lp_gen.specs.inner.Planned.{DeepGoals}
use Rattle.lp_gen.specs.inner.Planning.{ArePlanned, AllCaptured}
use Rattle.lp_gen.specs.inner.Groups.{Hasher, Kept, AllWritten, IsGroup}
use Rattle.lp_gen.proofs.ConstantTypes.{constants_asked}
use Rattle.lp_gen.proofs.GroupTold.{written_length, other_assumed, first_query, query_head}
use Rattle.lp_gen.proofs.GroupDenotes.{rest_assumed}
use Rattle.lp_gen.proofs.GroupsDenote.{goals_deep, standard_of}

-- what a query is
abbrev pub query_is : Nodes → query.Typed → List code_goal.Goal → DenotedQuery
query_is b q gs = record { type_vars = q.type_vars; vars = types_at b (map (λ v. v.1) q.vars.items); body = goals_of b gs }

module _ (κ : ℕ → Option ℕ) where
  abbrev IsAsked : Nodes → List Declared → query.Typed → List code_goal.Goal → Type 0
  IsAsked b ds q gs = IsQuery (tables_of b ds κ) q.type_vars (reverse (types_at b (map (λ v. v.1) q.vars.items))) (goals_of b gs)

  one_query : (t : Tables) (q1 : Bor query.Typed) (gs1 : Bor (List code_goal.Goal)) (us : List Due) (parts : List Part) (r : Record) (rs : List Record) (starts : List Kept) →
      ArePlanned (origin.Query q1 gs1) us parts t.assumptions.now → AllCaptured t.bank.now t.assumptions.now → AllWritten t [] starts parts (r ∷ rs) → t.first ≡ 0 → length (r ∷ rs) ≤ 65536 →
      t.type_vars ≤ 65535 → t.type_vars ≡ q1.now.type_vars → AreKnownSchemes (tables_of t.bank.now t.constants.now κ) → IsAsked t.bank.now t.constants.now q1.now gs1.now → goals_strings (goals_of t.bank.now gs1.now) ≡ 0 →
      denote_query (tables_of t.bank.now t.constants.now κ) (r ∷ rs) ≡ Some (query_is t.bank.now q1.now gs1.now)
  one_query t q1 gs1 us parts r rs starts plan standing w first few few_types vars known is short =
      ap (λ o. elim o [
        | None ↦ None
        | Some cs ↦ if has_none cs && is_none r.head then query_ran (home_of (tables_of t.bank.now t.constants.now κ) (r ∷ rs) 0 r)
            (run (home_of (tables_of t.bank.now t.constants.now κ) (r ∷ rs) 0 r) (later_from (tables_of t.bank.now t.constants.now κ) (r ∷ rs) 1 rs) (first_state r nothing_captured)
            r.code.items) else None
      ]) others
      ∙ ap (λ h. if has_none {A = Clause} [] && is_none h then query_ran (home_of (tables_of t.bank.now t.constants.now κ) (r ∷ rs) 0 r)
      (run (home_of (tables_of t.bank.now t.constants.now κ) (r ∷ rs) 0 r) (later_from (tables_of t.bank.now t.constants.now κ) (r ∷ rs) 1 rs) (first_state r nothing_captured) r.code.items)
      else None) no_head
      ∙ at_zero ∙ told ∙ (λ i. Some (record { type_vars = vars i; vars = types_at t.bank.now (map (λ v. v.1) q1.now.vars.items); body = goals_of t.bank.now gs1.now }))
    where
      many : length (r ∷ rs) ≡ length parts
      many = written_length t [] starts parts (r ∷ rs) w

      low : t.first + length parts < 2 ^ 32
      low = let m = many in omega (arith, first, few, m)

      placed : (i : ℕ) (s : Record) → slice_get (r ∷ rs) i ≡ Some s → slice_get (r ∷ rs) (t.first + i) ≡ Some s
      placed i s at = (let z : t.first + i ≡ i = omega (arith, first) in ap (slice_get (r ∷ rs)) z) ∙ at

      early : (v : ℕ) → member v (named_before t.first (r ∷ rs)) ≡ true → v < t.first
      early v e = absurd (true≢false (sym (ap (λ k. member v (named_before k (r ∷ rs))) (sym first) ∙ e)))

      asked : (m : ℕ) (s : Record) → AreAsked (home_of (tables_of t.bank.now t.constants.now κ) (r ∷ rs) m s) (constant_function t.bank.now t.constants.now)
      asked m s = record { asks = constants_asked t.bank.now t.constants.now κ; known = known }

      u : Under
      u = record {
        type_vars = q1.now.type_vars;
        indices = reverse (types_at t.bank.now (map (λ v. v.1) q1.now.vars.items));
        binders = map (λ T. false)
            (reverse (types_at t.bank.now (map (λ v. v.1) q1.now.vars.items)));
      }

      deep : DeepGoals (goals_of t.bank.now gs1.now)
      deep = goals_deep (tables_of t.bank.now t.constants.now κ) u (goals_of t.bank.now gs1.now) is.1

      no_head : r.head ≡ None
      no_head = query_head Hasher t (origin.Query q1 gs1) us parts (r ∷ rs) starts plan w low deep standing (tables_of t.bank.now t.constants.now κ) (r ∷ rs) placed early
          (standard_of t.bank.now t.constants.now) asked few_types q1 gs1 refl r refl

      told : query_ran (home_of (tables_of t.bank.now t.constants.now κ) (r ∷ rs) (t.first + 0) r)
          (run (home_of (tables_of t.bank.now t.constants.now κ) (r ∷ rs) (t.first + 0) r)
          (λ k e. later_from (tables_of t.bank.now t.constants.now κ) (r ∷ rs) (suc (t.first + 0)) (drop (suc (t.first + 0)) (r ∷ rs)) k e) (first_state r nothing_captured) r.code.items)
          ≡ Some (record { type_vars = t.type_vars; vars = types_at t.bank.now (map (λ v. v.1) q1.now.vars.items); body = goals_of t.bank.now gs1.now })
      told = first_query Hasher t (origin.Query q1 gs1) us parts (r ∷ rs) starts plan w low deep standing (tables_of t.bank.now t.constants.now κ) (r ∷ rs) placed early
          (standard_of t.bank.now t.constants.now) asked few_types q1 gs1 refl
          (subst (λ n. IsQuery (tables_of t.bank.now t.constants.now κ) n (reverse (types_at t.bank.now (map (λ v. v.1) q1.now.vars.items))) (goals_of t.bank.now gs1.now)) (sym vars) is) short r refl

      at_zero : query_ran (home_of (tables_of t.bank.now t.constants.now κ) (r ∷ rs) 0 r)
          (run (home_of (tables_of t.bank.now t.constants.now κ) (r ∷ rs) 0 r) (later_from (tables_of t.bank.now t.constants.now κ) (r ∷ rs) 1 rs) (first_state r nothing_captured) r.code.items)
          ≡ query_ran (home_of (tables_of t.bank.now t.constants.now κ) (r ∷ rs) (t.first + 0) r)
          (run (home_of (tables_of t.bank.now t.constants.now κ) (r ∷ rs) (t.first + 0) r)
          (λ k e. later_from (tables_of t.bank.now t.constants.now κ) (r ∷ rs) (suc (t.first + 0)) (drop (suc (t.first + 0)) (r ∷ rs)) k e) (first_state r nothing_captured) r.code.items)
      at_zero =
          let z : 0 ≡ t.first + 0 = omega (arith, first) in
          ap (λ n. query_ran (home_of (tables_of t.bank.now t.constants.now κ) (r ∷ rs) n r)
          (run (home_of (tables_of t.bank.now t.constants.now κ) (r ∷ rs) n r)
          (λ k e. later_from (tables_of t.bank.now t.constants.now κ) (r ∷ rs) (suc n) (drop (suc n) (r ∷ rs)) k e) (first_state r nothing_captured) r.code.items)) z

      each : (i : ℕ) (s : Record) → slice_get rs i ≡ Some s → (s.program ≡ false) × (member (1 + i) (named_before (1 + i) (r ∷ rs)) ≡ true)
      each i s at =
          let o = other_assumed Hasher t (origin.Query q1 gs1) us parts (r ∷ rs) starts plan w low deep standing (tables_of t.bank.now t.constants.now κ) (r ∷ rs) placed early i s at in
          let z : 1 + i ≡ t.first + suc i = omega (arith, first) in
          (o.0, ap (λ k. member k (named_before k (r ∷ rs))) z ∙ o.1)

      others : denote_from (tables_of t.bank.now t.constants.now κ) (r ∷ rs) 1 rs ≡ Some []
      others = ap (denote_from (tables_of t.bank.now t.constants.now κ) (r ∷ rs) 1) (sym (append-nil rs)) ∙ rest_assumed (tables_of t.bank.now t.constants.now κ) (r ∷ rs) 1 rs [] each

  pub query_denotes : (b : Nodes) (ds : List Declared) (q : query.Typed) (gs : List code_goal.Goal) (q1 : Bor query.Typed) (gs1 : Bor (List code_goal.Goal)) (g : List Record) → q1.now ≡ q →
      gs1.now ≡ gs →
      IsGroup b ds 0 q.type_vars (origin.Query q1 gs1) g → length g ≤ 65536 → AreKnownSchemes (tables_of b ds κ) → IsAsked b ds q gs → goals_strings (goals_of b gs) ≡ 0 →
      denote_query (tables_of b ds κ) g ≡ Some (query_is b q gs)
  query_denotes b ds q gs q1 gs1 [] q_is gs_is G few =
      let m = written_length G.tables [] G.starts G.parts [] G.written in
      let s = G.planned.all in
      let u = G.planned.stands.assumed.some in
      absurd (omega (arith, m, s, u))
  query_denotes b ds q gs q1 gs1 (r ∷ rs) q_is gs_is G few =
      subst (λ v. AreKnownSchemes (tables_of b ds κ) → IsAsked b ds q v → goals_strings (goals_of b v) ≡ 0 → denote_query (tables_of b ds κ) (r ∷ rs) ≡ Some (query_is b q v)) gs_is
      (subst (λ v. AreKnownSchemes (tables_of b ds κ) → IsAsked b ds v gs1.now → goals_strings (goals_of b gs1.now) ≡ 0 → denote_query (tables_of b ds κ) (r ∷ rs) ≡ Some (query_is b v gs1.now)) q_is
      (subst (λ u. AreKnownSchemes (tables_of u ds κ) → IsAsked u ds q1.now gs1.now → goals_strings (goals_of u gs1.now) ≡ 0 → denote_query (tables_of u ds κ) (r ∷ rs) ≡ Some (query_is u q1.now gs1.now)) G.bank_is
      (subst (λ v. AreKnownSchemes (tables_of G.tables.bank.now v κ) → IsAsked G.tables.bank.now v q1.now gs1.now → goals_strings (goals_of G.tables.bank.now gs1.now) ≡ 0 → denote_query (tables_of G.tables.bank.now v κ) (r ∷ rs) ≡ Some
      (query_is G.tables.bank.now q1.now gs1.now)) G.constants_are
      (one_query G.tables q1 gs1 G.due G.parts r rs G.starts G.planned G.captured G.written (G.first (omega arith)) few (let v = G.vars_are in let f = G.few_vars in omega (arith, v, f))
      (G.vars_are ∙ ap (λ (e : query.Typed). e.type_vars) (sym q_is))))))

two_maps : {A B C : Type 0} (f : A → B) (g : B → C) (xs : List A) → map g (map f xs) ≡ map (λ x. g (f x)) xs
two_maps f g [] = refl
two_maps f g (x ∷ xs) = ap (λ l. g (f x) ∷ l) (two_maps f g xs)

-- the same by what the functions give
pub query_law : (κ : ℕ → Option ℕ) (b : Nodes) (ds : List Declared) (q : query.Typed) (gs : List code_goal.Goal) (none all g : List Record) (vars : ℕ) (q1 : Bor query.Typed)
    (gs1 : Bor (List code_goal.Goal)) →
    none ≡ [] → all ≡ none ++ g → vars ≡ q.type_vars → q1.now ≡ q → gs1.now ≡ gs → IsGroup b ds (length none) vars (origin.Query q1 gs1) g → length all ≤ 65536 → AreKnownSchemes (tables_of b ds κ) →
    IsQuery (tables_of b ds κ) q.type_vars (reverse (map (λ v. type_tree b v.1.0) q.vars.items)) (goals_of b gs) → goals_strings (goals_of b gs) ≡ 0 →
    denote_query (tables_of b ds κ) all ≡ Some (record { type_vars = q.type_vars; vars = map (λ v. type_tree b v.1.0) q.vars.items; body = goals_of b gs })
query_law κ b ds q gs none all g vars q1 gs1 empty grown same q_is gs_is G few known is short =
    let e : all ≡ g = grown ∙ ap (λ l. l ++ g) empty in
    let types = two_maps (λ v. v.1) (λ (T : TypeId). type_tree b T.0) q.vars.items in
    ap (denote_query (tables_of b ds κ)) e
    ∙ query_denotes κ b ds q gs q1 gs1 g q_is gs_is (subst (λ v. IsGroup b ds 0 v (origin.Query q1 gs1) g) same (subst (λ l. IsGroup b ds (length l) vars (origin.Query q1 gs1) g) empty G))
    (let z = ap length e in omega (arith, few, z)) known (subst (λ l. IsQuery (tables_of b ds κ) q.type_vars (reverse l) (goals_of b gs)) (sym types) is) short
    ∙ (λ i. Some (record { type_vars = q.type_vars; vars = types i; body = goals_of b gs }))
