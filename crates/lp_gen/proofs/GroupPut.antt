-- Records with one more, and groups of records with one more.
use Rattle.std.proofs.Common.{◌≡◌, ◌∙◌, ◌≤◌, ◌<◌, ℕ, ◌+◌, ◌-◌, ◌^◌, List, [], ◌∷◌, ◌++◌, append_assoc, length, Bor, Option, Some, None, ap, refl, sym, subst, arith}
use Rattle.std.specs.Prelude.{slice_get, take}
use Rattle.std.proofs.lemmas.List.{append-nil, length-append}
use Rattle.indexmap.specs.IndexMap.{IndexMap}
use Rattle.lp_term.specs.Nodes.{Nodes}
use Rattle.lp_model.specs.declared.clause.Clause as code
use Rattle.lp_model.specs.declared.program.Declared.{Declared}
use Rattle.lp_code.specs.declared.record.Record.{Record}
use Rattle.lp_gen.specs.declared.environment.Variable.{Variable}
use Rattle.lp_gen.specs.declared.plan.Assumption.{Assumption}
use Rattle.lp_gen.specs.declared.plan.Due.{Due}
use Rattle.lp_gen.specs.declared.plan.Origin.{Origin}
use Rattle.lp_gen.specs.declared.plan.Part.{Part}
use Rattle.lp_gen.specs.declared.plan.Origin.TheVariants as origin
use Rattle.lp_gen.specs.declared.tables.Tables.{Tables}
use Rattle.lp_gen.specs.Steps.{constant_function}
use Rattle.lp_gen.specs.inner.Recorded.{RecordWritten}
use Rattle.lp_gen.specs.inner.Planning.{ArePlanned, AllCaptured}
use Rattle.lp_gen.specs.inner.Groups.{Kept, IsStartOf, AllWritten, IsGroup, AreGroups}
use Rattle.lp_gen.proofs.PlanDone.{take_next}

-- what an assumption keeps

pub start_outer : {S : Type 0} (xs : List (IndexMap ℕ Variable S)) (o : Option ℕ) (m : IndexMap ℕ Variable S) → o ≡ None → m.entries ≡ [] → IsStartOf xs o m
start_outer xs o m e none = subst (λ u. IsStartOf xs u m) (sym e) none

pub start_past : {S : Type 0} (xs : List (IndexMap ℕ Variable S)) (o : Option ℕ) (n : ℕ) (m : IndexMap ℕ Variable S) → o ≡ Some n → length xs ≤ n → IsStartOf xs o m
start_past xs o n m e past = subst (λ u. IsStartOf xs u m) (sym e) (λ lt. absurd (omega (arith, lt, past)))

pub start_there : {S : Type 0} (xs : List (IndexMap ℕ Variable S)) (o : Option ℕ) (n : ℕ) (m : IndexMap ℕ Variable S) → o ≡ Some n → slice_get xs n ≡ Some m → IsStartOf xs o m
start_there xs o n m e at = subst (λ u. IsStartOf xs u m) (sym e) (λ lt. at)

written_more : {S : Type 0} (t : Tables) (xs ys : List (IndexMap ℕ Variable S)) (ps : List Part) (rs : List Record) (p : Part) (r : Record)
    (m : IndexMap ℕ Variable S) (more : List (IndexMap ℕ Variable S)) → AllWritten t xs ys ps rs →
    RecordWritten t (constant_function t.bank.now t.constants.now) p m [] more r → IsStartOf ys p.within m → AllWritten t xs (ys ++ more) (ps ++ p ∷ []) (rs ++ r ∷ [])
written_more t xs ys [] rs p r m more w a b =
    subst (λ l. AllWritten t xs (ys ++ more) (p ∷ []) (l ++ r ∷ [])) (sym w.0) (m, more, a, subst (λ l. IsStartOf l p.within m) w.1 b, (refl, ap (λ l. l ++ more) w.1))
written_more t xs ys (y ∷ ps) [] p r m more w a b = absurd w
written_more t xs ys (y ∷ ps) (z ∷ rs) p r m more (k, ks, c, d, e) a b = (k, ks, c, d, written_more t (xs ++ ks) ys ps rs p r m more e a b)

-- the record of the next part
pub part_written : {S : Type 0} (t : Tables) (parts : List Part) (i : ℕ) (ys ys' more none given : List (IndexMap ℕ Variable S)) (rs : List Record)
    (p : Part) (r : Record) (m : IndexMap ℕ Variable S) → AllWritten t [] ys (take i parts) rs →
    slice_get parts i ≡ Some p → none ≡ [] → RecordWritten t (constant_function t.bank.now t.constants.now) p m none more r → given ≡ ys → IsStartOf
    given p.within m → ys' ≡ ys ++ more → AllWritten t [] ys' (take (i + 1) parts) (rs ++ r ∷ [])
part_written t parts i ys ys' more none given rs p r m w at empty written same start grown =
    subst (λ l. AllWritten t [] ys' l (rs ++ r ∷ [])) (sym (take_next i parts p at)) (subst (λ l. AllWritten t [] l (take i parts ++ p ∷ []) (rs ++ r ∷ [])) (sym grown)
    (written_more t [] ys (take i parts) rs p r m more w (subst (λ l. RecordWritten t (constant_function t.bank.now t.constants.now) p m l more r)
    empty written) (subst (λ l. IsStartOf l p.within m) same start)))

-- the records of one clause or query
pub group_made : (b : Nodes) (ds : List Declared) (n vars : ℕ) (o : Origin) (us : List Due) (ps parts : List Part) (g : List Record) (starts : List Kept) (xs : List Assumption) (t : Tables) →
    AllWritten t [] starts parts g → t.bank.now ≡ b → t.constants.now ≡ ds → t.type_vars ≡ vars → vars ≤ 65535 → (n < 2 ^ 32 - 1 → t.first ≡ n) → t.assumptions.now ≡ xs →
    ArePlanned o us ps xs → AllCaptured b xs → length ps ≤ 65536 → parts ≡ ps → IsGroup b ds n vars o g
group_made b ds n vars o us ps parts g starts xs t w bank constants same few_vars first assumptions planned captured few are = record {
  tables = t;
  bank_is = bank;
  constants_are = constants;
  vars_are = same;
  few_vars = few_vars;
  first = first;
  due = us;
  parts = ps;
  planned = subst (ArePlanned o us ps) (sym assumptions) planned;
  captured = subst (λ u. AllCaptured u t.assumptions.now) (sym bank) (subst (AllCaptured b) (sym assumptions) captured);
  few = few;
  starts = starts;
  written = subst (λ l. AllWritten t [] starts l g) are w;
}

-- the records of one clause more
pub groups_more : (b : Nodes) (ds : List Declared) (n : ℕ) (cs : List code.Clause) (rs g : List Record) (c : code.Clause) (of : Bor code.Clause) → AreGroups b ds n cs rs → of.now ≡ c →
    IsGroup b ds (n + length rs) c.type_vars (origin.Clause of) g → AreGroups b ds n (cs ++ c ∷ []) (rs ++ g)
groups_more b ds n [] rs g c of none is G = (
  of,
  is,
  g,
  [],
  ap (λ l. l ++ g) none ∙ sym (append-nil g),
  subst (λ k. IsGroup b ds k c.type_vars (origin.Clause of) g)
      (let z = ap length none in let y : n + length rs ≡ n = omega (arith, z) in y) G,
  refl,
)
groups_more b ds n (d ∷ cs) rs g c of (of1, is1, g1, more, e, G1, gs) is G =
    let sum = ap length e ∙ length-append g1 more in
    let z : n + length rs ≡ n + length g1 + length more = omega (arith, sum) in
    (of1, is1, g1, more ++ g, ap (λ l. l ++ g) e ∙ append_assoc g1 more g, G1, groups_more b ds (n + length g1) cs more g c of gs is (subst (λ k. IsGroup b ds k c.type_vars (origin.Clause of) g) z G))

-- the next clause
pub clause_written : (b : Nodes) (ds : List Declared) (clauses : List code.Clause) (i : ℕ) (rs rs' g : List Record) (vars : ℕ) (of : Bor code.Clause)
    → AreGroups b ds 0 (take i clauses) rs → slice_get clauses i ≡ Some of.now → vars ≡ of.now.type_vars →
    rs' ≡ rs ++ g → IsGroup b ds (length rs) vars (origin.Clause of) g → AreGroups b ds 0 (take (i + 1) clauses) rs'
clause_written b ds clauses i rs rs' g vars of gs at same grown G =
    let z : length rs ≡ 0 + length rs = omega arith in
    subst (λ l. AreGroups b ds 0 l rs') (sym (take_next i clauses of.now at)) (subst (λ l. AreGroups b ds 0 (take i clauses ++ of.now ∷ []) l) (sym grown)
    (groups_more b ds 0 (take i clauses) rs g of.now of gs refl (subst (λ k. IsGroup b ds k of.now.type_vars (origin.Clause of) g) z
    (subst (λ v. IsGroup b ds (length rs) v (origin.Clause of) g) same G))))
