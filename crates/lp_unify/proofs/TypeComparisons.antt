-- The comparison of types, pair by pair.
use Rattle.std.proofs.Common.{◌≡◌, ℕ, zero, suc, ◌+◌, ◌<◌, ◌≤◌, List, [], ◌∷◌, ◌++◌, reverse, refl, sym, ap, ◌∙◌, subst, arith, Bool, true, false, Option, Some, None}
use Rattle.std.specs.Prelude.{option_map}
use Rattle.lp_lemmas.proofs.Lists.{reverse_pushed}
use Rattle.lp_lemmas.proofs.Options.{option_map_some}
use Rattle.lp_store.specs.declared.cell.CellId.{CellId}
use Rattle.lp_store.specs.Contents.{Contents, cell_at}
use Rattle.lp_store.specs.Reading.{ReadsType}
use Rattle.lp_susp.specs.Route.{RefsTo}
use Rattle.lp_susp.proofs.Routes.{refs_type}
use Rattle.lp_calculus.specs.Types.{Ty}
use Rattle.lp_model.specs.Types.{TypePair, same_top}
use Rattle.lp_model.specs.Rule.{Compared, dearer, compare_types}
use Rattle.lp_unify.specs.declared.types.Choice.{Choice}
use Rattle.lp_unify.specs.TypeEquations.{ReadsPair, ReadPairs, AreCompared, IsComparedOver}
use Rattle.lp_unify.specs.TypeTurns.{IsResolved, IsChosen, IsSplit}
use Rattle.lp_unify.proofs.TypeCells.{dropped, bound_by}
use Rattle.lp_unify.proofs.TypeRuns.{Firsts, firsts}

-- the tops, by what is chosen
pub top_dropped : (s : Contents) (one other : CellId) (A B : Ty) (todo : List (CellId × CellId)) → IsChosen s one other Choice.Drop → ReadsType s one.0 A → ReadsType s other.0 B → IsSplit true s A B todo todo
top_dropped s one other A B todo h r q = ([], (dropped s one other A B h r q).1, λ qs w. w)

pub top_bound : (s : Contents) (one other x to : CellId) (A B : Ty) → IsChosen s one other (Choice.Bind x to) → IsResolved (cell_at s one.0) → IsResolved (cell_at s other.0) → ReadsType s one.0 A → ReadsType s other.0 B → same_top A B ≡ None
top_bound s one other x to A B h m n r q = (bound_by s one other x to A B h m n r q).3

-- one pair
abbrev next : ℕ → List TypePair → Option (List TypePair) → Option Compared
next n ps o = elim o [
  | None ↦ Some (record { same = false; units = 1 })
  | Some qs ↦ option_map (dearer 1) (compare_types n (qs ++ ps))
]

next_is : (n : ℕ) (p : TypePair) (ps : List TypePair) (o : Option (List TypePair)) → same_top p.left p.right ≡ o → compare_types (suc n) (p ∷ ps) ≡ next n ps o
next_is n p ps o e = ap (next n ps) e

dearer_twice : (m n : ℕ) (c : Compared) → dearer m (dearer n c) ≡ dearer (m + n) c
dearer_twice m n c = let e : m + (n + c.units) ≡ (m + n) + c.units = omega arith in λ i. record { same = c.same; units = e i }

dearer_none : (c : Compared) → dearer 0 c ≡ c
dearer_none c = let e : 0 + c.units ≡ c.units = omega arith in λ i. record { same = c.same; units = e i }

some_is : (a b : Compared) → Some a ≡ Some b → a ≡ b
some_is a b e = cc

-- pairs that are partly compared
pub record IsPartlyCompared (s : Contents) (before after : ℕ) (all : List TypePair) (todo : List (CellId × CellId)) : Type 0 where
  pub left : List TypePair
  pub reads : ReadPairs s todo left
  pub used : ℕ
  pub reaches : (n : ℕ) (c : Compared) → compare_types n left ≡ Some c → (m : ℕ) × (compare_types m all ≡ Some (dearer used c))
  pub passes : (m : ℕ) (c : Compared) → compare_types m all ≡ Some c → (n : ℕ) × (d : Compared) × (compare_types n left ≡ Some d) × (c ≡ dearer used d)
  pub units : before ≡ used + after

pub compared_first : (s : Contents) (before : ℕ) (all : List TypePair) (todo : List (CellId × CellId)) → ReadPairs s todo all → IsPartlyCompared s before before all todo
compared_first s before all todo r = record {
  left = all;
  reads = r;
  used = 0;
  reaches = λ n c e. (n, e ∙ ap Some (sym (dearer_none c)));
  passes = λ m c e. (m, c, e, sym (dearer_none c));
  units = omega arith;
}

passes_first : (n : ℕ) (p : TypePair) (ps qs : List TypePair) (c : Compared) → same_top p.left p.right ≡ Some qs → compare_types n (p ∷ ps) ≡ Some c → (k : ℕ) × (d : Compared) × (compare_types k (qs ++ ps) ≡ Some d) × (c ≡ dearer 1 d)
passes_first zero p ps qs c e h = absurd (cc)
passes_first (suc k) p ps qs c e h =
    let w = option_map_some (compare_types k (qs ++ ps)) (dearer 1) c (sym (next_is k p ps (Some qs) e) ∙ h) in
    (k, w.0, w.1, sym w.2)

passes_next : (n : ℕ) (left : List TypePair) (p : TypePair) (ps qs : List TypePair) (c : Compared) → left ≡ p ∷ ps → same_top p.left p.right ≡ Some qs → compare_types n left ≡ Some c → (k : ℕ) × (d : Compared) × (compare_types k (qs ++ ps) ≡ Some d) × (c ≡ dearer 1 d)
passes_next n left p ps qs c f e h = passes_first n p ps qs c e (ap (compare_types n) (sym f) ∙ h)

reaches_next : (n : ℕ) (left : List TypePair) (p : TypePair) (ps qs : List TypePair) (c : Compared) → left ≡ p ∷ ps → same_top p.left p.right ≡ Some qs → compare_types n (qs ++ ps) ≡ Some c → compare_types (suc n) left ≡ Some (dearer 1 c)
reaches_next n left p ps qs c f e h = ap (compare_types (suc n)) f ∙ next_is n p ps (Some qs) e ∙ ap (option_map (dearer 1)) h

dearer_on : (used : ℕ) (c d e : Compared) → c ≡ dearer used d → d ≡ dearer 1 e → c ≡ dearer (used + 1) e
dearer_on used c d e p q = p ∙ ap (dearer used) q ∙ dearer_twice used 1 e

pub compared_on : (s : Contents) (before between after : ℕ) (all : List TypePair) (all_todo todo new : List (CellId × CellId)) (pair : CellId × CellId) (one other : CellId) → all_todo ≡ todo ++ pair ∷ [] → between ≡ suc after →
    IsPartlyCompared s before between all (reverse all_todo) → RefsTo s pair.0.0 one.0 → RefsTo s pair.1.0 other.0 → ((A B : Ty) → ReadsType s one.0 A → ReadsType s other.0 B → IsSplit true s A B (reverse todo) new) → IsPartlyCompared s before after all new
compared_on s before between after all all_todo todo new pair one other e u k f g h =
    let t = firsts s pair (reverse todo) k.left (subst (λ l. ReadPairs s l k.left) (reverse_pushed all_todo todo pair e) k.reads) in
    let w = h t.first.left t.first.right (refs_type f t.top.left) (refs_type g t.top.right) in
    let v = k.units in
    record {
      left = w.0 ++ t.others;
      reads = w.2 t.others t.below;
      used = k.used + 1;
      reaches = λ n c q. (
          let r = k.reaches (suc n) (dearer 1 c) (reaches_next n k.left t.first t.others w.0 c t.is w.1 q) in
          (r.0, r.1 ∙ ap Some (dearer_twice k.used 1 c))
          );
      passes = λ m c q. (
          let r = k.passes m c q in
          let y = passes_next r.0 k.left t.first t.others w.0 r.1 t.is w.1 r.2 in
          (y.0, y.1, y.2, dearer_on k.used c r.1 y.1 r.3 y.3)
          );
      units = omega (arith, v, u);
    }

pub compared_apart : (s : Contents) (before between after : ℕ) (all : List TypePair) (all_todo todo : List (CellId × CellId)) (pair : CellId × CellId) (one other : CellId) → all_todo ≡ todo ++ pair ∷ [] → between ≡ suc after →
    IsPartlyCompared s before between all (reverse all_todo) → RefsTo s pair.0.0 one.0 → RefsTo s pair.1.0 other.0 → ((A B : Ty) → ReadsType s one.0 A → ReadsType s other.0 B → same_top A B ≡ None) → AreCompared false before after all
compared_apart s before between after all all_todo todo pair one other e u k f g h =
    let t = firsts s pair (reverse todo) k.left (subst (λ l. ReadPairs s l k.left) (reverse_pushed all_todo todo pair e) k.reads) in
    let r = k.reaches 1 (record { same = false; units = 1 }) (ap (compare_types 1) t.is ∙ next_is 0 t.first t.others None (h t.first.left t.first.right (refs_type f t.top.left) (refs_type g t.top.right))) in
    let v = k.units in
    record { used = k.used + 1; steps = r.0; comes = r.1; units = omega (arith, v, u) }

pub compared_all : (s : Contents) (before after : ℕ) (all : List TypePair) (todo : List (CellId × CellId)) → todo ≡ [] → IsPartlyCompared s before after all (reverse todo) → AreCompared true before after all
compared_all s before after all todo e k =
    let h = empty k.left (subst (λ l. ReadPairs s (reverse l) k.left) e k.reads) in
    let r = k.reaches 1 (record { same = true; units = 0 }) (ap (compare_types 1) h) in
    let v = k.units in
    record { used = k.used + 0; steps = r.0; comes = r.1; units = omega (arith, v) }
  where
    empty : (ps : List TypePair) → ReadPairs s [] ps → ps ≡ []
    empty [] r = refl
    empty (p ∷ ps) r = absurd r

one_unit : (n : ℕ) (p : TypePair) (ps : List TypePair) (c : Compared) → compare_types n (p ∷ ps) ≡ Some c → 0 < c.units
one_unit zero p ps c h = absurd (cc)
one_unit (suc n) p ps c h = go (same_top p.left p.right) refl
  where
    go : (o : Option (List TypePair)) → same_top p.left p.right ≡ o → 0 < c.units
    go None e = let k : 1 ≡ c.units = ap (λ y. y.units) (some_is (record { same = false; units = 1 }) c (sym (next_is n p ps None e) ∙ h)) in omega (arith, k)
    go (Some qs) e =
        let w = option_map_some (compare_types n (qs ++ ps)) (dearer 1) c (sym (next_is n p ps (Some qs) e) ∙ h) in
        let k : 1 + w.0.units ≡ c.units = ap (λ y. y.units) w.2 in omega (arith, k)

pub compared_over : (s : Contents) (before between : ℕ) (all : List TypePair) (all_todo todo : List (CellId × CellId)) (pair : CellId × CellId) → all_todo ≡ todo ++ pair ∷ [] → between ≡ 0 → IsPartlyCompared s before between all (reverse all_todo) → IsComparedOver before all
compared_over s before between all all_todo todo pair e z k = λ steps c q.
    let t = firsts s pair (reverse todo) k.left (subst (λ l. ReadPairs s l k.left) (reverse_pushed all_todo todo pair e) k.reads) in
    let r = k.passes steps c q in
    let f = one_unit r.0 t.first t.others r.1 (ap (compare_types r.0) (sym t.is) ∙ r.2) in
    let g : c.units ≡ k.used + r.1.units = ap (λ y. y.units) r.3 in
    let v = k.units in
    omega (arith, f, g, v, z)
