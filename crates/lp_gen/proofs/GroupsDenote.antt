-- The records of clauses, one clause after the other, denote the clauses.
use Rattle.std.proofs.Common.{◌≡◌, ◌∙◌, ◌≤◌, ◌<◌, ℕ, zero, suc, ◌+◌, ◌-◌, ◌^◌, List, [], ◌∷◌, ◌++◌, length, map, drop, Bor, true, false, Option, Some, ap, refl, sym, subst, arith}
use Rattle.std.specs.Prelude.{All, if◌then◌else◌, slice_get, option_map}
use Rattle.std.proofs.lemmas.Bool.{lt-ltb}
use Rattle.std.proofs.lemmas.List.{length-append}
use Rattle.std.proofs.lemmas.List.Elements.{All-head, All-tail}
use Rattle.lp_standard.specs.Schemes.{IsStandard, entry, standard_schemes}
use Rattle.lp_standard.specs.Constants.{first_declared}
use Rattle.lp_lemmas.proofs.Lists.{get_append}
use Rattle.lp_term.specs.Nodes.{Nodes, tree, type_tree}
use Rattle.lp_model.specs.Flat.{Goal, Goals, Clauses, Atomic, Cut, Either, Exists, Forall, Assume, Not, no_goals, goals, clause, no_clauses, clauses}
use Rattle.lp_model.specs.Flattened.{clause_of, clauses_of, goals_of}
use Rattle.lp_gen.specs.Limits.{clauses_strings}
use Rattle.lp_gen.specs.declared.limits.Look.TheVariants as look
use Rattle.lp_gen.proofs.LimitsLeft.{clauses_split}
use Rattle.lp_model.specs.Readings.{declared_by, scheme_of}
use Rattle.lp_model.specs.declared.clause.Clause as code
use Rattle.lp_model.specs.declared.program.Declared.{Declared}
use Rattle.lp_code.specs.declared.record.Record.{Record}
use Rattle.lp_code.specs.Symbolic.{Tables as CodeTables}
use Rattle.lp_code.specs.States.{member}
use Rattle.lp_code.specs.Rules.{named_before}
use Rattle.lp_code.specs.Denote.{denote_from, nothing_captured, home_of}
use Rattle.lp_gen.specs.Sources.{AreKnownSchemes, Under, bound, all_bound, IsClause, IsGoal, AreGoals, AreAssumed}
use Rattle.lp_gen.specs.Contract.{tables_of}
use Rattle.lp_gen.specs.declared.plan.Due.{Due}
use Rattle.lp_gen.specs.declared.plan.Part.{Part}
use Rattle.lp_gen.specs.declared.plan.Origin.TheVariants as origin
use Rattle.lp_gen.specs.declared.tables.Tables.{Tables}
use Rattle.lp_gen.specs.Steps.{constant_function}
use Rattle.lp_gen.specs.inner.Written.{AreAsked}
use Rattle.lp_gen.specs.inner.Planned.{DeepGoal, DeepGoals, DeepClauses}
use Rattle.lp_gen.specs.inner.Planning.{ArePlanned, AllCaptured}
use Rattle.lp_gen.specs.inner.Groups.{Hasher, Kept, AllWritten, IsGroup, AreGroups}
use Rattle.lp_gen.proofs.ConstantTypes.{constants_asked}
use Rattle.lp_gen.proofs.PartsDone.{told_at}
use Rattle.lp_gen.proofs.Tops.{clause_is}
use Rattle.lp_gen.proofs.GroupTold.{written_length, early_end, first_program, other_assumed, first_told}
use Rattle.lp_gen.proofs.GroupDenotes.{group_denotes}

-- goals of which there is code have each `sigma` at the end of its list
mutual
  goal_deep : (t : CodeTables) (u : Under) (g : Goal) → IsGoal t u g → DeepGoal g
  goal_deep t u (Atomic a) x = tt
  goal_deep t u Cut x = tt
  goal_deep t u (Either gs hs) x = (goals_deep t u gs x.0, goals_deep t u hs x.1)
  goal_deep t u (Exists T gs) x = goals_deep t (bound u T false) gs x.1
  goal_deep t u (Forall T gs) x = goals_deep t (bound u T true) gs x.1
  goal_deep t u (Assume w cs gs) x = (clauses_deep t u cs x.0, goals_deep t u gs x.1)
  goal_deep t u (Not w gs) x = goals_deep t u gs x

  pub goals_deep : (t : CodeTables) (u : Under) (gs : Goals) → AreGoals t u gs → DeepGoals gs
  goals_deep t u no_goals x = tt
  goals_deep t u (goals g gs) x = (goal_deep t u g x.0, x.1, goals_deep t u gs x.2)

  clauses_deep : (t : CodeTables) (u : Under) (cs : Clauses) → AreAssumed t u cs → DeepClauses cs
  clauses_deep t u no_clauses x = tt
  clauses_deep t u (clauses (clause n vs h b) cs) x = (goals_deep t (all_bound u vs) b x.4, clauses_deep t u cs x.5)

deep_body : (t : CodeTables) (b : Nodes) (c : code.Clause) → IsClause t (clause_of b c) → DeepGoals (goals_of b c.body.items)
deep_body t b c x =
    let y : IsClause t (clause c.type_vars (map (λ T. type_tree b T.0) c.vars.items) (tree b c.head.0) (goals_of b c.body.items)) = subst (IsClause t) (clause_is b c) x in
    goals_deep t (all_bound (record { type_vars = c.type_vars; indices = []; binders = [] }) (map (λ T. type_tree b T.0) c.vars.items)) (goals_of b c.body.items) y.0.4

pub standard_of : (b : Nodes) (ds : List Declared) → IsStandard (declared_by b ds)
standard_of b ds = record {
  at = λ c lt. ap (λ t. if t then entry standard_schemes c else entry (map (λ x. Some (scheme_of b x)) ds) (c - first_declared)) (lt-ltb c first_declared lt);
}

drop_more : {X : Type 0} (n : ℕ) (all xs ys : List X) → drop n all ≡ xs ++ ys → drop (n + length xs) all ≡ ys
drop_more n all [] ys e = let z : n + 0 ≡ n = omega arith in ap (λ k. drop k all) z ∙ e
drop_more n all (x ∷ xs) ys e =
    let z : n + suc (length xs) ≡ suc n + length xs = omega arith in
    ap (λ k. drop k all) z ∙ drop_more (suc n) all xs ys (one_less n all x (xs ++ ys) e)
  where
    one_less : {X : Type 0} (n : ℕ) (all : List X) (x : X) (xs : List X) → drop n all ≡ x ∷ xs → drop (suc n) all ≡ xs
    one_less zero [] x xs e = absurd (cc)
    one_less (suc n) [] x xs e = absurd (cc)
    one_less zero (y ∷ ys) x xs e = cc
    one_less (suc n) (y ∷ ys) x xs e = one_less n ys x xs e

pub drop_at : {X : Type 0} (n : ℕ) (all : List X) (i : ℕ) → slice_get all (n + i) ≡ slice_get (drop n all) i
drop_at zero all i = let z : 0 + i ≡ i = omega arith in ap (slice_get all) z
drop_at (suc n) [] i = let z : suc n + i ≡ suc (n + i) = omega arith in ap (slice_get []) z
drop_at (suc n) (x ∷ xs) i = let z : suc n + i ≡ suc (n + i) = omega arith in ap (slice_get (x ∷ xs)) z ∙ drop_at n xs i

module _ (κ : ℕ → Option ℕ) (all : List Record) where
  -- records from a number on tell a clause, and name none behind them
  abbrev Told : Nodes → List Declared → (n : ℕ) → code.Clause → (g rest : List Record) → Type 0
  Told b ds n c g rest =
      (denote_from (tables_of b ds κ) all n (g ++ rest) ≡ option_map (λ cs. clause_of b c ∷ cs) (denote_from (tables_of b ds κ) all (n + length g) rest))
      × ((v : ℕ) → member v (named_before (n + length g) all) ≡ true → v < n + length g)

  one_group : (n : ℕ) (t : Tables) (of : Bor code.Clause) (us : List Due) (parts : List Part) (g rest : List Record) (starts : List Kept) → ArePlanned (origin.Clause of) us parts
      t.assumptions.now → AllCaptured t.bank.now t.assumptions.now →
      AllWritten t [] starts parts g → t.first ≡ n → n + length g ≤ 65535 → t.type_vars ≤ 65535 → t.type_vars ≡ of.now.type_vars → drop n all ≡ g ++
      rest → ((v : ℕ) → member v (named_before n all) ≡ true → v < n) →
      AreKnownSchemes (tables_of t.bank.now t.constants.now κ) → IsClause (tables_of t.bank.now t.constants.now κ) (clause_of t.bank.now of.now) → clauses_strings (clauses (clause_of t.bank.now of.now) no_clauses) ≡ 0 →
      Told t.bank.now t.constants.now n of.now g rest
  one_group n t of us parts g rest starts plan standing w first few few_types vars from before known is short =
      (group_denotes (tables_of t.bank.now t.constants.now κ) all n g rest (clause_of t.bank.now of.now) from some first_one other, last)
    where
      many : length g ≡ length parts
      many = written_length t [] starts parts g w

      low : t.first + length parts < 2 ^ 32
      low = let m = many in omega (arith, first, few, m)

      deep : DeepGoals (goals_of t.bank.now of.now.body.items)
      deep = deep_body (tables_of t.bank.now t.constants.now κ) t.bank.now of.now is

      placed : (i : ℕ) (r : Record) → slice_get g i ≡ Some r → slice_get all (t.first + i) ≡ Some r
      placed i r at = ap (λ k. slice_get all (k + i)) first ∙ drop_at n all i ∙ ap (λ l. slice_get l i) from ∙ get_append g rest i r at

      early : (v : ℕ) → member v (named_before t.first all) ≡ true → v < t.first
      early v e = let l = before v (ap (λ k. member v (named_before k all)) (sym first) ∙ e) in omega (arith, l, first)

      some : 1 ≤ length g
      some = let m = many in let s = plan.all in let u = plan.stands.assumed.some in omega (arith, m, s, u)

      asked : (m : ℕ) (r : Record) → AreAsked (home_of (tables_of t.bank.now t.constants.now κ) all m r) (constant_function t.bank.now t.constants.now)
      asked m r = record { asks = constants_asked t.bank.now t.constants.now κ; known = known }

      first_one : (r : Record) → slice_get g 0 ≡ Some r → (r.program ≡ true) × (told_at
          (tables_of t.bank.now t.constants.now κ) all n r nothing_captured ≡ Some (clause_of t.bank.now of.now))
      first_one r at = (
        first_program Hasher t (origin.Clause of) us parts g starts plan w low deep standing (tables_of t.bank.now t.constants.now κ) all placed early r at,
        (let z : t.first + 0 ≡ n = omega (arith, first) in ap (λ k. told_at (tables_of t.bank.now t.constants.now κ) all k r nothing_captured) (sym z))
            ∙ first_told Hasher t (origin.Clause of) us parts g starts plan w low deep standing (tables_of t.bank.now t.constants.now κ) all placed early (standard_of t.bank.now t.constants.now) asked
            few_types of refl vars is short r at,
      )

      other : (i : ℕ) (r : Record) → slice_get g (suc i) ≡ Some r → (r.program ≡ false) × (member (n + suc i) (named_before (n + suc i) all) ≡ true)
      other i r at = let o = other_assumed Hasher t (origin.Clause of) us parts g starts plan w low deep standing (tables_of t.bank.now t.constants.now κ) all placed early i r
          at in (o.0, ap (λ k. member (k + suc i) (named_before (k + suc i) all)) (sym first) ∙ o.1)

      last : (v : ℕ) → member v (named_before (n + length g) all) ≡ true → v < n + length g
      last v e =
          let m = many in
          let s = plan.all in
          let z : n + length g ≡ t.first + length parts = omega (arith, first, m) in
          let l = (early_end Hasher t (origin.Clause of) us parts g starts plan w low deep standing (tables_of t.bank.now t.constants.now κ) all placed early).0 v
          (ap (λ k. member v (named_before k all)) (sym z) ∙ e) in
          omega (arith, l, z, s)

  group_of : (b : Nodes) (ds : List Declared) (n : ℕ) (of : Bor code.Clause) (c : code.Clause) (g rest : List Record) → of.now ≡ c → IsGroup b ds n
      c.type_vars (origin.Clause of) g → n + length g ≤ 65535 → drop n all ≡ g ++ rest →
      ((v : ℕ) → member v (named_before n all) ≡ true → v < n) → AreKnownSchemes (tables_of b ds κ) → IsClause (tables_of b ds κ) (clause_of b c) → clauses_strings (clauses (clause_of b c) no_clauses) ≡ 0 → Told b ds n c g rest
  group_of b ds n of c g rest is G few from before =
      subst (λ e. AreKnownSchemes (tables_of b ds κ) → IsClause (tables_of b ds κ) (clause_of b e) → clauses_strings (clauses (clause_of b e) no_clauses) ≡ 0 → Told b ds n e g rest) is
      (subst (λ u. AreKnownSchemes (tables_of u ds κ) → IsClause (tables_of u ds κ) (clause_of u of.now) → clauses_strings (clauses (clause_of u of.now) no_clauses) ≡ 0 → Told u ds n of.now g rest) G.bank_is
      (subst (λ u. AreKnownSchemes (tables_of G.tables.bank.now u κ) → IsClause (tables_of G.tables.bank.now u κ) (clause_of G.tables.bank.now of.now)
      → clauses_strings (clauses (clause_of G.tables.bank.now of.now) no_clauses) ≡ 0 → Told G.tables.bank.now u n of.now g rest) G.constants_are
      (one_group n G.tables of G.due G.parts g rest G.starts G.planned G.captured G.written (G.first (omega (arith, few))) few (let v = G.vars_are in let f = G.few_vars in omega (arith, v, f))
      (G.vars_are ∙ ap (λ (e : code.Clause). e.type_vars) (sym is)) from before)))

  pub groups_denote : (b : Nodes) (ds : List Declared) (n : ℕ) (cs : List code.Clause) (rs : List Record) → AreGroups b ds n cs rs → drop n all ≡ rs →
      ((v : ℕ) → member v (named_before n all) ≡ true → v < n) → n + length rs ≤ 65535 →
      AreKnownSchemes (tables_of b ds κ) → All (IsClause (tables_of b ds κ)) (map (clause_of b) cs) → clauses_strings (clauses_of b cs) ≡ 0 →
      denote_from (tables_of b ds κ) all n rs ≡ Some (map (clause_of b) cs)
  groups_denote b ds n [] rs none from before few known each short = ap (denote_from (tables_of b ds κ) all n) none
  groups_denote b ds n (c ∷ cs) rs (of, is, g, more, e, G, gs) from before few known each short =
      let T = tables_of b ds κ in
      let split = clauses_split look.Strings 0 (clause_of b c) (clauses_of b cs) in
      let sum = ap length e ∙ length-append g more in
      let one = group_of b ds n of c g more is G (omega (arith, few, sum)) (from ∙ e) before known (All-head (IsClause T) (clause_of b c) (map (clause_of b) cs) each) (omega (arith, split, short)) in
      ap (denote_from T all n) e ∙ one.0
      ∙ ap (option_map (λ cs. clause_of b c ∷ cs)) (groups_denote b ds (n + length g) cs more gs (drop_more n all g more (from ∙ e)) one.1 (omega (arith, few, sum)) known
      (All-tail (IsClause T) (clause_of b c) (map (clause_of b) cs) each) (omega (arith, split, short)))
