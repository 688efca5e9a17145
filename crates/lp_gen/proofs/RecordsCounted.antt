-- How many records a plan has.
use Rattle.std.proofs.Common.{◌≡◌, ◌∙◌, ◌≤◌, ◌<◌, ℕ, zero, suc, ◌+◌, List, [], ◌∷◌, ◌++◌, length, get_or, Option, Some, ap, refl, sym, arith, take}
use Rattle.std.specs.Prelude.{All, slice_get}
use Rattle.std.proofs.lemmas.List.{length-append}
use Rattle.std.proofs.lemmas.List.Sums.{sum_by-cons, sum_by-append, sum_by_push}
use Rattle.lp_term.specs.Nodes.{Nodes}
use Rattle.lp_model.specs.declared.clause.Clause.{Clause}
use Rattle.lp_model.specs.Flat.{Clauses, no_clauses, clauses}
use Rattle.lp_model.specs.Flattened.{goals_of, clause_of, clauses_of}
use Rattle.lp_gen.specs.declared.plan.Assumption.{Assumption}
use Rattle.lp_gen.specs.declared.plan.Due.{Due}
use Rattle.lp_gen.specs.declared.plan.Part.{Part}
use Rattle.lp_gen.specs.declared.plan.Origin.{Origin}
use Rattle.lp_gen.specs.declared.plan.Origin.TheVariants as origin
use Rattle.lp_gen.specs.declared.plan.Step.{Step}
use Rattle.lp_gen.specs.Limits.{goals_assume, clauses_records}
use Rattle.lp_gen.specs.inner.Planning.{origin_records, most_of, due_records, part_records, AreDue, IsMade, IsPartOf, PartWalked, PlanStands, ArePlanned}
use Rattle.lp_gen.proofs.Tops.{clause_is}

-- those of one clause and of more

pub records_of_clause : (b : Nodes) (c : Clause) (Fs : Clauses) → clauses_records (clauses (clause_of b c) Fs) ≡ suc (goals_assume (goals_of b c.body.items)) + clauses_records Fs
records_of_clause b c Fs = let s = ap (λ F. clauses_records (clauses F Fs)) (clause_is b c) in omega (arith, s)

due_counted : (b : Nodes) (n d : ℕ) (cs : List Clause) (us : List Due) → AreDue n d cs us → due_records b us ≡ clauses_records (clauses_of b cs)
due_counted b n d [] us a = ap (due_records b) a
due_counted b n d (c ∷ cs) [] a = absurd a
due_counted b n d (c ∷ cs) (u ∷ us) a =
    let z = due_counted b n d cs us a.1 in
    let first = sum_by-cons (λ (v : Due). origin_records b v.origin) u us in
    let one : origin_records b u.origin ≡ suc (goals_assume (goals_of b c.body.items)) = ap (origin_records b) a.0.2 ∙ ap (λ (x : Clause). suc (goals_assume (goals_of b x.body.items))) a.0.1 in
    let f = records_of_clause b c (clauses_of b cs) in
    omega (arith, z, first, one, f)

pub due_grown : (b : Nodes) (us us' : List Due) (xs : List Assumption) (cs : List Clause) (d : ℕ) (x : Assumption) → IsMade xs us us' cs d x →
    due_records b us' ≡ due_records b us + clauses_records (clauses_of b cs)
due_grown b us us' xs cs d x made =
    let z = ap (due_records b) made.due_are in
    let y = sum_by-append (λ (v : Due). origin_records b v.origin) us made.more in
    let w = due_counted b (length xs) d cs made.more made.members in
    omega (arith, z, y, w)

-- parts are those that are due

abbrev pub AreOfDue : List Part → List Due → Type 0
AreOfDue ps us = (i : ℕ) (p : Part) → slice_get ps i ≡ Some p → (u : Due) × (slice_get us i ≡ Some u) × IsPartOf u p

no_part : (i : ℕ) (p : Part) → slice_get [] i ≡ Some p → ⊥
no_part i p e = cc

no_due : (i : ℕ) (u : Due) → slice_get [] i ≡ Some u → ⊥
no_due i u e = cc

same_due : (u v : Due) → ◌≡◌ {A = Option Due} (Some u) (Some v) → u ≡ v
same_due u v e = cc

parts_due : (b : Nodes) (ps : List Part) (us : List Due) → AreOfDue ps us → part_records b ps + length us ≤ due_records b us + length ps
parts_due b [] [] are = omega arith
parts_due b [] (u ∷ us) are =
    let z = parts_due b [] us (λ i p e. absurd (no_part i p e)) in
    let first = sum_by-cons (λ (v : Due). origin_records b v.origin) u us in
    omega (arith, z, first)
parts_due b (p ∷ ps) [] are = let w = are 0 p refl in absurd (no_due 0 w.0 w.1)
parts_due b (p ∷ ps) (u ∷ us) are =
    let z = parts_due b ps us (λ i q e. are (suc i) q e) in
    let w = are 0 p refl in
    let same = same_due u w.0 w.1 in
    let first = sum_by-cons (λ (v : Due). origin_records b v.origin) u us in
    let part = sum_by-cons (λ (q : Part). origin_records b q.origin) p ps in
    let one : origin_records b p.origin ≡ origin_records b u.origin = ap (origin_records b) (w.2.0 ∙ ap (λ (v : Due). v.origin) (sym same)) in
    omega (arith, z, first, part, one)

parts_all : (b : Nodes) (ps : List Part) (us : List Due) → AreOfDue ps us → length ps ≡ length us → part_records b ps ≡ due_records b us
parts_all b [] [] are e = refl
parts_all b [] (u ∷ us) are e = absurd (omega (arith, e))
parts_all b (p ∷ ps) [] are e = absurd (omega (arith, e))
parts_all b (p ∷ ps) (u ∷ us) are e =
    let z = parts_all b ps us (λ i q f. are (suc i) q f) (omega (arith, e)) in
    let w = are 0 p refl in
    let same = same_due u w.0 w.1 in
    let first = sum_by-cons (λ (v : Due). origin_records b v.origin) u us in
    let part = sum_by-cons (λ (q : Part). origin_records b q.origin) p ps in
    let one : origin_records b p.origin ≡ origin_records b u.origin = ap (origin_records b) (w.2.0 ∙ ap (λ (v : Due). v.origin) (sym same)) in
    omega (arith, z, first, part, one)

-- what is counted while a plan is made

abbrev pub Counted : Nodes → Origin → List Due → List Part → Type 0
Counted b o us ps = due_records b us + length ps ≡ origin_records b o + part_records b ps

pub begins_counted : (b : Nodes) (o : Origin) (us : List Due) (ps : List Part) (u : Due) → us ≡ u ∷ [] → u.origin ≡ o → ps ≡ [] → Counted b o us ps
begins_counted b o us ps u e f g =
    let x = ap (due_records b) e in
    let y : due_records b (u ∷ []) ≡ 0 + origin_records b u.origin = refl in
    let z = ap (origin_records b) f in
    let v = ap (part_records b) g in
    let w = ap length g in
    let none : part_records b [] ≡ 0 = refl in
    omega (arith, x, y, z, v, w, none)

pub part_counted : (b : Nodes) (o : Origin) (us us' : List Due) (xs xs' : List Assumption) (ps ps' : List Part) (u : Due) (p : Part) (steps : List Step) → PartWalked u us us' xs xs' steps →
    ps' ≡ ps ++ p ∷ [] → p.origin ≡ u.origin → Counted b o us ps → Counted b o us' ps'
part_counted b o us us' xs xs' ps ps' u p steps (few, short, d, walked) e f count =
    let t = walked.total b in
    let x = ap (part_records b) e ∙ sum_by_push (λ (q : Part). origin_records b q.origin) ps p in
    let y = ap length e ∙ length-append ps (p ∷ []) in
    let z = ap (origin_records b) f in
    omega (arith, t, x, y, z, count)

pub all_counted : (b : Nodes) (o : Origin) (us : List Due) (ps : List Part) (xs : List Assumption) → PlanStands o us ps xs → Counted b o us ps → length us ≤ length ps → length ps ≡ origin_records b o
all_counted b o us ps xs plan count all =
    let some = plan.some in
    let same : length ps ≡ length us = omega (arith, some, all) in
    let e = parts_all b ps us plan.are same in
    omega (arith, same, e, count)

-- one part is due, where there are as many as are allowed
pub over_counted : (b : Nodes) (o : Origin) (us : List Due) (ps : List Part) (xs : List Assumption) → PlanStands o us ps xs → Counted b o us ps → length ps < length us →
    most_of o ≤ length ps → most_of o < origin_records b o
over_counted b o us ps xs plan count more most = let e = parts_due b ps us plan.are in omega (arith, e, count, more, most)

pub most_few : (o : Origin) → most_of o ≤ 65536
most_few (origin.Clause c) = omega arith
most_few (origin.Query q gs) = omega arith

-- no assumption has more clauses than there are records

got : {X : Type 0} (xs : List X) (i : ℕ) (d : X) → i < length xs → slice_get xs i ≡ Some (get_or xs i d)
got [] i d l = absurd (omega (arith, l))
got (x ∷ xs) zero d l = refl
got (x ∷ xs) (suc i) d l = got xs i d (omega (arith, l))

pub few_assumed : (o : Origin) (us : List Due) (ps : List Part) (xs : List Assumption) → ArePlanned o us ps xs → length ps ≤ 65536 → All (λ (x : Assumption). x.count ≤ 65535) xs
few_assumed o us ps xs plan few i d l =
    let s = plan.stands.assumed.each i (get_or xs i d) (got xs i d l) in
    let w = s.within in
    let f = s.behind in
    let a = plan.all in
    omega (arith, w, f, a, few)

-- clauses one by one

pub one_clause_more : (b : Nodes) (cs : List Clause) (c : Clause) → clauses_records (clauses_of b (cs ++ c ∷ [])) ≡ clauses_records (clauses_of b cs) + suc (goals_assume (goals_of b c.body.items))
one_clause_more b [] c = records_of_clause b c no_clauses ∙ omega arith
one_clause_more b (d ∷ cs) c =
    let z = one_clause_more b cs c in
    let x = records_of_clause b d (clauses_of b (cs ++ c ∷ [])) in
    let y = records_of_clause b d (clauses_of b cs) in
    omega (arith, z, x, y)

no_clause : (i : ℕ) (c : Clause) → slice_get [] i ≡ Some c → ⊥
no_clause i c e = cc

same_clause : (c d : Clause) → ◌≡◌ {A = Option Clause} (Some c) (Some d) → c ≡ d
same_clause c d e = cc

pub clause_counted : (b : Nodes) (cs : List Clause) (i : ℕ) (c : Clause) → slice_get cs i ≡ Some c → suc (goals_assume (goals_of b c.body.items)) ≤ clauses_records (clauses_of b cs)
clause_counted b [] i c e = absurd (no_clause i c e)
clause_counted b (d ∷ cs) zero c e =
    let same = same_clause d c e in
    let x = records_of_clause b d (clauses_of b cs) in
    let y = ap (λ (k : Clause). goals_assume (goals_of b k.body.items)) same in
    omega (arith, x, y)
clause_counted b (d ∷ cs) (suc i) c e = let z = clause_counted b cs i c e in let x = records_of_clause b d (clauses_of b cs) in omega (arith, z, x)

pub clauses_before : (b : Nodes) (cs : List Clause) (i : ℕ) (c : Clause) → slice_get cs i ≡ Some c →
    clauses_records (clauses_of b (take i cs)) + suc (goals_assume (goals_of b c.body.items)) ≤ clauses_records (clauses_of b cs)
clauses_before b [] i c e = absurd (no_clause i c e)
clauses_before b (d ∷ cs) zero c e = let z = clause_counted b (d ∷ cs) zero c e in omega (arith, z)
clauses_before b (d ∷ cs) (suc i) c e =
    let z = clauses_before b cs i c e in let x = records_of_clause b d (clauses_of b cs) in let y = records_of_clause b d (clauses_of b (take i cs)) in omega (arith, z, x, y)
