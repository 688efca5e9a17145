-- The parts of a plan, one after the other.
use Rattle.std.proofs.Common.{◌≡◌, ◌∙◌, ⊎_elim, ◌<◌, ℕ, zero, suc, ◌+◌, List, [], ◌∷◌, ◌++◌, length, Vec, Global, Option, Some, None, ap, refl, sym, subst, arith}
use Rattle.std.specs.Prelude.{slice_get}
use Rattle.std.proofs.lemmas.List.{append-nil, length-append}
use Rattle.std.proofs.lemmas.Option.{slice_get_within}
use Rattle.lp_model.specs.declared.clause.Goal.{Goal}
use Rattle.lp_model.specs.Flattened.{goals_of}
use Rattle.lp_gen.specs.declared.plan.Assumption.{Assumption}
use Rattle.lp_gen.specs.declared.plan.Due.{Due}
use Rattle.lp_gen.specs.declared.plan.Part.{Part}
use Rattle.lp_gen.specs.declared.plan.Origin.{Origin}
use Rattle.lp_gen.specs.declared.plan.Step.{Step}
use Rattle.lp_gen.specs.inner.OpenGoals.{goals_steps}
use Rattle.lp_gen.specs.inner.BodyCode.{steps_of}
use Rattle.lp_gen.specs.inner.Planning.{Extends, due_goals, WalkStands, PartWalked, PartPlanned, AllPlanned, IsPartOf, PlanStands}
use Rattle.lp_gen.proofs.PlanWalked.{extends_same, extends_on, extends_at, extends_length, hold_less, get_more, get_both}

no_due : (v : Due) → ◌≡◌ {A = Option Due} None (Some v) → ⊥
no_due v e = cc

no_part : (p : Part) → ◌≡◌ {A = Option Part} None (Some p) → ⊥
no_part p e = cc

no_assumption : (x : Assumption) → ◌≡◌ {A = Option Assumption} None (Some x) → ⊥
no_assumption x e = cc

no_within : (n : ℕ) → ◌≡◌ {A = Option ℕ} None (Some n) → ⊥
no_within n e = cc

-- before the goals of a part
pub walk_begins : (us : List Due) (xs : List Assumption) (d : ℕ) (gs : List Goal) → WalkStands us us xs xs d d gs [] (due_goals gs ∷ [])
walk_begins us xs d gs = record {
  kept = λ a. a;
  due_grow = extends_same us;
  grow = extends_same xs;
  says = λ b cl h. append-nil (goals_steps (goals_of b gs));
  next = λ t e few. (tt, refl, omega arith);
  has = λ b f all e x. x.0;
  deep = λ b x. ((x, tt), λ n y le at. let w = slice_get_within xs n y at in absurd (omega (arith, w, le)));
  written = λ b x. x.0;
  ends = tt;
  total = λ b. omega arith;
}

part_on : (us us' : List Due) (xs xs' : List Assumption) (i n m q r : ℕ) (p : Part) → Extends us us' → Extends xs xs' → PartPlanned us xs i n m q r p → PartPlanned us' xs' i n m q r p
part_on us us' xs xs' i n m q r p u x w = record {
  later = w.later;
  around = w.around;
  within = let a = w.within in let l = extends_length xs xs' x in omega (arith, a, l);
  few = w.few;
  short = w.short;
  says = λ b cl h. w.says b cl (hold_less b xs xs' cl x h);
  are_next = λ t e few. w.are_next t (extends_on xs xs' t.assumptions.now x e) (let l = extends_length us us' u in omega (arith, l, few));
  has = λ b f all e. w.has b f all (extends_on xs xs' all x e);
  deep = λ b y k z le lt at. w.deep b y k z le lt (there k z lt at);
  written = w.written;
}
  where
    there : (k : ℕ) (z : Assumption) → k < m → slice_get xs' k ≡ Some z → slice_get xs k ≡ Some z
    there k z lt at = ⊎_elim (λ e. e) (λ e. let a = e.0 in let less = w.within in absurd (omega (arith, a, lt, less))) (get_both xs x.0 k z (sym (ap (λ l. slice_get l k) x.1) ∙ at))

all_on : (us us' : List Due) (xs xs' : List Assumption) (i n m q r : ℕ) (ps : List Part) → Extends us us' → Extends xs xs' → AllPlanned us xs i n m q r ps → AllPlanned us' xs' i n m q r ps
all_on us us' xs xs' i n m q r [] u x w = w
all_on us us' xs xs' i n m q r (p ∷ ps) u x (k, s, w, ws) = (k, s, part_on us us' xs xs' i n k q s p u x w, all_on us us' xs xs' (suc i) k m s r ps u x ws)

all_then : (us : List Due) (xs : List Assumption) (i n m k q r s : ℕ) (ps : List Part) (p : Part) → AllPlanned us xs i n m q r ps → PartPlanned us xs
    (i + length ps) m k r s p → AllPlanned us xs i n k q s (ps ++ p ∷ [])
all_then us xs i n m k q r s [] p w x =
    let z : i + 0 ≡ i = omega arith in
    (k, s, subst (λ j. PartPlanned us xs j n k q s p) z (subst (λ j. PartPlanned us xs (i + 0) j k q s p) (sym w.0) (subst (λ j. PartPlanned us xs (i + 0) m k j s p) (sym w.1) x)), (refl, refl))
all_then us xs i n m k q r s (y ∷ ys) p (j, l, w, ws) x =
    (j, l, w, all_then us xs (suc i) j m k l r s ys p ws (let z : i + suc (length ys) ≡ suc i + length ys = omega arith in subst (λ a. PartPlanned us xs a m k r s p) z x))

-- a part with the steps that were found
pub plan_grows : (o : Origin) (us us' : List Due) (ps : List Part) (xs xs' : List Assumption) (u : Due) (steps : Vec Step Global) → PlanStands o us ps
    xs → slice_get us (length ps) ≡ Some u → length ps < length us →
    PartWalked u us us' xs xs' steps.items → PlanStands o us' (ps ++ record { origin = u.origin; within = u.within; base = u.base; steps = steps } ∷ []) xs'
plan_grows o us us' ps xs xs' u steps w at lt (few, short, d, walked) = record {
  begin = let f = w.begin in (f.0, extends_at us us' 0 f.0 walked.due_grow f.1, f.2, f.3, f.4);
  assumed = walked.kept w.assumed;
  are = λ i q e. ⊎_elim (λ f. let r = w.are i q f in (r.0, extends_at us us' i r.0 walked.due_grow r.1, r.2)) (λ f. last i q f.0 f.1) (get_more ps part i q e);
  planned = all_then us' xs' 0 0 (length xs) (length xs') 1 (length us) (length us') ps part (all_on us us' xs xs' 0 0 (length xs) 1 (length us) ps walked.due_grow walked.grow w.planned) new;
  some = let l = extends_length us us' walked.due_grow in let z = length-append ps (part ∷ []) in omega (arith, l, lt, z);
}
  where
    part : Part
    part = record { origin = u.origin; within = u.within; base = u.base; steps = steps }

    last : (i : ℕ) (q : Part) → i ≡ length ps → q ≡ part → (v : Due) × (slice_get us' i ≡ Some v) × IsPartOf v q
    last i q e f = (u, ap (slice_get us') e ∙ extends_at us us' (length ps) u walked.due_grow at, (ap (λ y. y.origin) f, ap (λ y. y.within) f, ap (λ y. y.base) f))

    new : PartPlanned us' xs' (0 + length ps) (length xs) (length xs') (length us) (length us') part
    new = record {
      later = omega (arith, lt);
      around = λ k e. let f = w.assumed.known (length ps) k u at e in slice_get_within xs k f.0 f.1;
      within = omega arith;
      few = few;
      short = short;
      says = λ b cl h. sym (append-nil (steps_of b cl steps.items)) ∙ walked.says b cl h;
      are_next = λ t e low. walked.next t e low;
      has = λ b f all e. walked.has b f all e tt;
      deep = λ b y k z le lt at. (walked.deep b y).1 k z le at;
      written = λ b. walked.written b tt;
    }

one_due : (u v : Due) (i : ℕ) → slice_get (u ∷ []) i ≡ Some v → (i ≡ 0) × (v ≡ u)
one_due u v zero e = (refl, same_due u v e)
  where
    same_due : (u v : Due) → ◌≡◌ {A = Option Due} (Some u) (Some v) → v ≡ u
    same_due u v e = cc
one_due u v (suc i) e = absurd (no_due v e)

-- before the first part
pub plan_begins : (o : Origin) (us : List Due) (ps : List Part) (xs : List Assumption) → us ≡ record { origin = o; within = None; base = 0 } ∷ [] → ps ≡ [] → xs ≡ [] → PlanStands o us ps xs
plan_begins o us ps xs e f g = subst (λ l. PlanStands o l ps xs) (sym e) (subst (λ l. PlanStands o (u ∷ []) l xs) (sym f) (subst (λ l. PlanStands o (u ∷ []) [] l) (sym g) begun))
  where
    u : Due
    u = record { origin = o; within = None; base = 0 }

    begun : PlanStands o (u ∷ []) [] []
    begun = record {
      begin = (u, refl, refl, refl, refl);
      assumed = record {
        some = omega arith;
        each = λ n x at. absurd (no_assumption x at);
        ordered = λ n m x y lt at at2. absurd (no_assumption x at);
        outer = λ i v at within. (one_due u v i at).0;
        known = λ i n v at within. absurd (no_within n (sym (ap (λ (d : Due). d.within) (one_due u v i at).1) ∙ within));
      };
      are = λ i p at. absurd (no_part p at);
      planned = (refl, refl);
      some = omega arith;
    }
