-- How long a chain of references is: no cell stands in it twice, so the chain behind a reference is shorter.
use Rattle.std.proofs.Common.{◌≡◌, ℕ, zero, suc, ◌<◌, ◌≤◌, ◌⊎◌, inl, inr, List, [], ◌∷◌, length, refl, sym, ap, ◌∙◌, subst, arith, Option, Some, None, Bool, true, false}
use Rattle.std.specs.List.{IsDistinct, AllByRecursion, list_any}
use Rattle.std.proofs.Math.Dec.{eqb}
use Rattle.std.proofs.lemmas.Bool.{eqb-true, cases_Bool}
use Rattle.std.proofs.lemmas.Map.Steps.{length-le_from_distinct_below}
use Rattle.lp_store.specs.declared.cell.Cell.{Cell}
use Rattle.lp_store.specs.declared.cell.Cell.TheVariants.{Ref}
use Rattle.lp_store.specs.declared.cell.CellId.{CellId}
use Rattle.lp_store.specs.Contents.{Contents, cell_at}
use Rattle.lp_store.specs.Reading.{IsAmong, parts, Leads, here, through}
use Rattle.lp_store.specs.Sound.{IsSound, Stands}
use Rattle.lp_store.proofs.Readings.{no_circle}

-- the cell that a cell refers to
abbrev refers : Cell → Option ℕ
refers (Ref to) = Some to.0
refers _ = None

-- the cells of a chain, at most so many
abbrev mutual
  pub chain : Contents → ℕ → ℕ → List ℕ
  chain s zero i = []
  chain s (suc n) i = i ∷ (elim (refers (cell_at s i)) [ None ↦ [] | Some j ↦ chain s n j ])

abbrev pub chain_length : Contents → ℕ → ℕ
chain_length s i = length (chain s (length s.cells) i)

refers_is : (c : Cell) (j : ℕ) → refers c ≡ Some j → (to : CellId) × (c ≡ Ref to) × (to.0 ≡ j)
refers_is (Ref to) j e = (to, refl, cc)
refers_is _ j e = absurd (cc)

refers_among : (s : Contents) (i j : ℕ) → refers (cell_at s i) ≡ Some j → IsAmong j (parts s (cell_at s i))
refers_among s i j e =
    let r = refers_is (cell_at s i) j e in
    subst (λ c. IsAmong j (parts s c)) (sym r.1) (inl r.2)

refers_within : (s : Contents) → IsSound s → (i j : ℕ) → i < length s.cells → refers (cell_at s i) ≡ Some j → j < length s.cells
refers_within s w i j h e =
    let r = refers_is (cell_at s i) j e in
    let k : Stands s (Ref r.0) = subst (Stands s) r.1 (w.stand i h) in
    subst (λ y. y < length s.cells) r.2 k

step : (s : Contents) (n i j : ℕ) → refers (cell_at s i) ≡ Some j → chain s (suc n) i ≡ i ∷ chain s n j
step s n i j e = ap (λ o. i ∷ (elim o [ None ↦ [] | Some k ↦ chain s n k ])) e

chain_long : (s : Contents) (n i : ℕ) → length (chain s n i) ≤ n
chain_long s zero i = omega arith
chain_long s (suc n) i = go (refers (cell_at s i)) (λ j. chain_long s n j)
  where
    go : (o : Option ℕ) → ((j : ℕ) → length (chain s n j) ≤ n) → length (i ∷ (elim o [ None ↦ [] | Some j ↦ chain s n j ])) ≤ suc n
    go None h = omega arith
    go (Some j) h = let k = h j in omega arith

-- a chain that ended is the same with one more allowed
chain_ended : (s : Contents) (n i : ℕ) → length (chain s (suc n) i) ≤ n → chain s n i ≡ chain s (suc n) i
chain_ended s zero i h = absurd (omega arith)
chain_ended s (suc n) i h = go (refers (cell_at s i)) (λ j. chain_ended s n j) h
  where
    go : (o : Option ℕ) → ((j : ℕ) → length (chain s (suc n) j) ≤ n → chain s n j ≡ chain s (suc n) j) → length (i ∷ (elim o [ None ↦ [] | Some j ↦ chain s (suc n) j ])) ≤ suc n →
        i ∷ (elim o [ None ↦ [] | Some j ↦ chain s n j ]) ≡ i ∷ (elim o [ None ↦ [] | Some j ↦ chain s (suc n) j ])
    go None f k = refl
    go (Some j) f k = ap (λ l. i ∷ l) (f j (omega arith))

-- one comes from the first to each
chain_leads : (s : Contents) (n i q : ℕ) → list_any (eqb q) (chain s n i) ≡ true → Leads s i q
chain_leads s zero i q h = absurd (cc)
chain_leads s (suc n) i q h = first (λ j k. chain_leads s n j q k) (eqb q i) refl
  where
    later : ((j : ℕ) → list_any (eqb q) (chain s n j) ≡ true → Leads s j q) → (o : Option ℕ) → refers (cell_at s i) ≡ o → list_any (eqb q) (elim o [ None ↦ [] | Some j ↦ chain s n j ]) ≡ true → Leads s i q
    later f None e k = absurd (cc)
    later f (Some j) e k = through (refers_among s i j e) (f j k)

    first : ((j : ℕ) → list_any (eqb q) (chain s n j) ≡ true → Leads s j q) → (b : Bool) → eqb q i ≡ b → Leads s i q
    first f true e = subst (Leads s i) (sym (eqb-true q i e)) (here i)
    first f false e = later f (refers (cell_at s i)) refl (rw e at h)

chain_within : (s : Contents) → IsSound s → (n i q : ℕ) → i < length s.cells → list_any (eqb q) (chain s n i) ≡ true → q < length s.cells
chain_within s w zero i q l h = absurd (cc)
chain_within s w (suc n) i q l h = first (λ j m k. chain_within s w n j q m k) (eqb q i) refl
  where
    later : ((j : ℕ) → j < length s.cells → list_any (eqb q) (chain s n j) ≡ true → q < length s.cells) → (o : Option ℕ) → refers (cell_at s i) ≡ o → list_any (eqb q) (elim o [ None ↦ [] | Some j ↦ chain s n j ]) ≡ true → q < length s.cells
    later f None e k = absurd (cc)
    later f (Some j) e k = f j (refers_within s w i j l e) k

    first : ((j : ℕ) → j < length s.cells → list_any (eqb q) (chain s n j) ≡ true → q < length s.cells) → (b : Bool) → eqb q i ≡ b → q < length s.cells
    first f true e = subst (λ y. y < length s.cells) (sym (eqb-true q i e)) l
    first f false e = later f (refers (cell_at s i)) refl (rw e at h)

-- a number that a chain does not lead to is none of its cells
apart : (s : Contents) (k n i : ℕ) → (Leads s i k → ⊥) → AllByRecursion (λ y. eqb k y ≡ false) (chain s n i)
apart s k zero i f = tt
apart s k (suc n) i f = (other (eqb k i) refl, later (λ j g. apart s k n j g) (refers (cell_at s i)) refl)
  where
    other : (b : Bool) → eqb k i ≡ b → eqb k i ≡ false
    other true e = absurd (f (subst (Leads s i) (sym (eqb-true k i e)) (here i)))
    other false e = e

    later : ((j : ℕ) → (Leads s j k → ⊥) → AllByRecursion (λ y. eqb k y ≡ false) (chain s n j)) → (o : Option ℕ) → refers (cell_at s i) ≡ o → AllByRecursion (λ y. eqb k y ≡ false) (elim o [ None ↦ [] | Some j ↦ chain s n j ])
    later g None e = tt
    later g (Some j) e = g j (λ l. f (through (refers_among s i j e) l))

none_distinct : IsDistinct eqb []
unfolding IsDistinct
none_distinct = tt

distinct : (s : Contents) → IsSound s → (n i : ℕ) → i < length s.cells → IsDistinct eqb (chain s n i)
unfolding IsDistinct
distinct s w zero i l = tt
distinct s w (suc n) i l = later (λ j h. distinct s w n j h) (refers (cell_at s i)) refl
  where
    later : ((j : ℕ) → j < length s.cells → IsDistinct eqb (chain s n j)) → (o : Option ℕ) → refers (cell_at s i) ≡ o → AllByRecursion (λ y. eqb i y ≡ false) (elim o [ None ↦ [] | Some j ↦ chain s n j ]) × IsDistinct eqb (elim o [ None ↦ [] | Some j ↦ chain s n j ])
    later f None e = (tt, none_distinct)
    later f (Some j) e = (apart s i n j (no_circle (w.ending i l) j (refers_among s i j e)), f j (refers_within s w i j l e))

ended : (s : Contents) → IsSound s → (n i j : ℕ) → suc n ≡ length s.cells → i < length s.cells → refers (cell_at s i) ≡ Some j → length (chain s (suc n) j) ≤ n
ended s w n i j m l e =
    let d = length-le_from_distinct_below (chain s (suc (suc n)) i) (length s.cells) (distinct s w (suc (suc n)) i l) (λ q h. chain_within s w (suc (suc n)) i q l h) in
    let k : length (chain s (suc (suc n)) i) ≡ suc (length (chain s (suc n) j)) = ap length (step s (suc n) i j e) in
    omega (arith, d, k, m)

falls_at : (s : Contents) → IsSound s → (n i j : ℕ) → n ≡ length s.cells → i < length s.cells → refers (cell_at s i) ≡ Some j → length (chain s n j) < length (chain s n i)
falls_at s w zero i j m l e = absurd (omega (arith, m, l))
falls_at s w (suc n) i j m l e =
    let k : length (chain s (suc n) i) ≡ suc (length (chain s n j)) = ap length (step s n i j e) in
    let c : length (chain s n j) ≡ length (chain s (suc n) j) = ap length (chain_ended s n j (ended s w n i j m l e)) in
    omega (arith, k, c)

pub chain_falls : (s : Contents) → IsSound s → (i : ℕ) (to : CellId) → i < length s.cells → cell_at s i ≡ Ref to → chain_length s to.0 < chain_length s i
chain_falls s w i to l e = falls_at s w (length s.cells) i to.0 refl l (ap refers e)
