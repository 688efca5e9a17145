-- Abbreviations are settled one after the other, each behind what it uses, until all that are good are. What it means that a place
-- is settled is a property that is handed on from one step to the next.
use Rattle.std.proofs.Common.{◌≡◌, ℕ, zero, suc, ◌+◌, ◌<◌, ◌≤◌, List, [], ◌∷◌, ◌++◌, Bool, true, false, length, map, drop, get_or, set, Option, Some, None, refl, sym, ap, subst, ◌∙◌, arith, inl, inr, ⊎_elim, true≢false}
use Rattle.std.specs.Prelude.{Contains, ◌⊎◌, is_some, if◌then◌else◌, slice_set, slice_index_or}
use Rattle.std.proofs.lemmas.List.{drop_more, drop_all, get_or_append_left, length-map, map-append}
use Rattle.lp_term.specs.declared.node.TypeId.{TypeId}
use Rattle.lp_sig.specs.Loading.{Way, ways_out, Loads, onward, HasNoCircle}
use Rattle.lp_sig.specs.Abbreviations.{Seen, abbreviation_names, all_uses}
use Rattle.lp_sig.specs.Standing.{BodyStands}
use Rattle.lp_sig.specs.Announced.{HasUsesInside}
use Rattle.lp_sig.specs.UseOrder.{Behind, UsesComeFirst}
use Rattle.lp_sig.specs.Holding.{body_of, line_at}
use Rattle.lp_sig.specs.Constants.{IsSettledAt}
use Rattle.lp_sig.specs.declared.bodies.Body.{Body}
use Rattle.lp_sig.specs.declared.walk.Step.{Step}
use Rattle.lp_sig.specs.declared.walk.Step.TheVariants.{Declare}
use Rattle.lp_sig.proofs.Circles.{still, before, here}
use Rattle.lp_sig.proofs.UsesFirst.{AreGood, IsLoaded, stays_behind, behind_more, first_more, one_behind, one_first, loads_first}

-- a body that is put makes its place settled, and no other one open
set_some : {A : Type 0} (xs : List (Option A)) (i : ℕ) (x : Option A) (k : ℕ) → (k ≡ i → (is_some x ≡ true) × (i < length xs)) → (is_some (get_or xs k None) ≡ true) ⊎ (k ≡ i) → is_some (get_or (set xs i x) k None) ≡ true
set_some [] i x k f (inl e) = e
set_some [] i x k f (inr e) = let l = (f e).1 in absurd (omega (arith, l))
set_some (y ∷ ys) zero x zero f h = (f refl).0
set_some (y ∷ ys) zero x (suc k) f (inl e) = e
set_some (y ∷ ys) zero x (suc k) f (inr e) = absurd (omega (arith, e))
set_some (y ∷ ys) (suc i) x zero f (inl e) = e
set_some (y ∷ ys) (suc i) x zero f (inr e) = absurd (omega (arith, e))
set_some (y ∷ ys) (suc i) x (suc k) f (inl e) = set_some ys i x k (λ q. let r = f (ap (λ n. suc n) q) in let l = r.1 in (r.0, omega (arith, l))) (inl e)
set_some (y ∷ ys) (suc i) x (suc k) f (inr e) = set_some ys i x k (λ q. let r = f (ap (λ n. suc n) q) in let l = r.1 in (r.0, omega (arith, l))) (inr (omega (arith, e)))

some_inside : {A : Type 0} (xs : List (Option A)) (i : ℕ) (x : A) → get_or xs i None ≡ Some x → i < length xs
some_inside [] i x e = absurd (cc)
some_inside (y ∷ ys) zero x e = omega arith
some_inside (y ∷ ys) (suc i) x e = let l = some_inside ys i x e in omega (arith, l)

pub put_settled : (bodies new : List Body) (place : ℕ) (o : Option TypeId) → map (λ b. b.body) new ≡ slice_set (map (λ b. b.body) bodies) place o → (k : ℕ) → (k ≡ place → (is_some o ≡ true) × ((line : ℕ) × (line_at bodies place ≡ Some line))) → IsSettledAt bodies k ⊎ (k ≡ place) → IsSettledAt new k
put_settled bodies new place o put k f h =
    let a = length-map bodies (λ b. b.line) in
    let c = length-map bodies (λ b. b.body) in
    ap (λ bs. is_some (slice_index_or bs k None)) put ∙ set_some (map (λ b. b.body) bodies) place o k (λ e. let r = f e in let l = some_inside (map (λ b. b.line) bodies) place r.1.0 r.1.1 in (r.0, omega (arith, l, a, c))) h

-- one more abbreviation leaves the others as they are
pub settled_front : (bodies new : List Body) (b : Body) → new ≡ bodies ++ b ∷ [] → (k : ℕ) → IsSettledAt bodies k → IsSettledAt new k
settled_front bodies new b one k h = by (body_of bodies k) refl h
  where
    by : (o : Option TypeId) → body_of bodies k ≡ o → is_some o ≡ true → IsSettledAt new k
    by None e s = absurd (true≢false (sym s))
    by (Some x) e s =
        ap is_some
        (ap (λ bs. body_of bs k) one ∙ ap (λ l. slice_index_or l k None) (map-append (λ b. b.body) bodies (b ∷ [])) ∙ get_or_append_left (map (λ b. b.body) bodies) (b.body ∷ []) None k (some_inside (map (λ b. b.body) bodies) k x e) ∙ e)

-- what a body uses that stands with all to which it leads does so too
pub use_stands : (from : ℕ) (z : Seen) (k : ℕ) → BodyStands from z k → (w : Way) → Contains (ways_out (all_uses z) k) w → BodyStands from z w.1
use_stands from z k stands w c = λ i l h. stands i (onward w c l) h

pub are_good : (from : ℕ) (z : Seen) (n : ℕ) → n ≡ length (abbreviation_names z.said) → ((k : ℕ) → from ≤ k → k < n → HasUsesInside z k × (BodyStands from z k → HasNoCircle (all_uses z) k)) → AreGood (all_uses z) n from (BodyStands from z)
are_good from z n count can = record { closed = use_stands from z; free = λ k a b g. (can k a b).1 g; inside = λ k a b w c. subst (λ m. w.1 < m) (sym count) ((can k a b).0 w c) }

-- behind so many steps
abbrev pub AreOnWay : List (List Way) → (ℕ → Type 0) → List Step → ℕ → (ℕ → Type 0) → (ℕ → Type 0) → Type 0
AreOnWay uses G steps i Old Now = UsesComeFirst uses G Now (drop i steps) × ((k : ℕ) → Behind Old steps k → Behind Now (drop i steps) k)

module _ (uses : List (List Way)) (G : ℕ → Type 0) (steps : List Step) (i : ℕ) (Old Now : ℕ → Type 0) where
  pub next_first : (d : Step) → i < length steps → AreOnWay uses G steps i Old Now → UsesComeFirst uses G Now (get_or steps i d ∷ [])
  next_first d h a = (one_first uses G Now (get_or steps i d) (drop (i + 1) steps) (subst (UsesComeFirst uses G Now) (drop_more steps i d h) a.0)).0

  pub step_settled : (d : Step) (New : ℕ → Type 0) → i < length steps → AreOnWay uses G steps i Old Now → ((k : ℕ) → Behind Now (get_or steps i d ∷ []) k → New k) → AreOnWay uses G steps (i + 1) Old New
  step_settled d New h a f =
      let x = get_or steps i d in
      let rest = drop (i + 1) steps in
      let parts = one_first uses G Now x rest (subst (UsesComeFirst uses G Now) (drop_more steps i d h) a.0) in (
        first_more uses G (λ j. Behind Now (x ∷ []) j) New rest f parts.1,
        λ k b. behind_more (λ j. Behind Now (x ∷ []) j) New rest f k (one_behind Now x rest k (subst (λ z. Behind Now z k) (drop_more steps i d h) (a.1 k b))),
      )

  pub steps_settled : length steps ≤ i → AreOnWay uses G steps i Old Now → (k : ℕ) → Behind Old steps k → Now k
  steps_settled h a k b = subst (λ z. Behind Now z k) (drop_all i steps h) (a.1 k b)

-- marks on the places before one
before_or_same : (i j : ℕ) → i ≤ j → (i < j) ⊎ (j ≡ i)
before_or_same zero zero h = inr refl
before_or_same zero (suc j) h = inl (omega arith)
before_or_same (suc i) zero h = absurd (omega (arith, h))
before_or_same (suc i) (suc j) h = ⊎_elim (λ l. inl (omega (arith, l))) (λ e. inr (ap (λ n. suc n) e)) (before_or_same i j (omega (arith, h)))

module _ (old new : List Bool) (place : ℕ) (is : new ≡ (if get_or old place true then old else set old place true)) where
  either_way : ((get_or old place true ≡ true) × (new ≡ old)) ⊎ (new ≡ set old place true)
  either_way = by (get_or old place true) refl is
    where
      by : (b : Bool) → get_or old place true ≡ b → new ≡ (if b then old else set old place true) → ((get_or old place true ≡ true) × (new ≡ old)) ⊎ (new ≡ set old place true)
      by true e f = inl (e, f)
      by false e f = inr f

  pub marked_more : (count : ℕ) → ((k : ℕ) → k < count → get_or old k true ≡ true → k < place) → (k : ℕ) → k < count → get_or new k true ≡ true → k < place + 1
  marked_more count h k lt e = ⊎_elim (λ p. let l = h k lt (ap (λ m. get_or m k true) (sym p.1) ∙ e) in omega (arith, l))
      (λ p. ⊎_elim (λ q. omega (arith, q)) (λ q. let l = h k lt q in omega (arith, l)) (before old k place (ap (λ m. get_or m k true) (sym p) ∙ e))) either_way

  pub clear_more : ((k : ℕ) → get_or old k true ≡ false → place ≤ k) → (k : ℕ) → get_or new k true ≡ false → place + 1 ≤ k
  clear_more h k e = ⊎_elim (λ l. omega (arith, l)) (λ q. absurd (true≢false (sym at ∙ subst (λ j. get_or new j true ≡ false) q e))) (before_or_same place k (h k was))
    where
      at : get_or new place true ≡ true
      at = ⊎_elim (λ p. ap (λ m. get_or m place true) p.1 ∙ p.0) (λ p. ap (λ m. get_or m place true) p ∙ here old place) either_way

      was : get_or old k true ≡ false
      was = by (get_or old k true) refl
        where
          by : (b : Bool) → get_or old k true ≡ b → b ≡ false
          by true g = let t : get_or new k true ≡ true = ⊎_elim (λ p. ap (λ m. get_or m k true) p.1 ∙ g) (λ p. ap (λ m. get_or m k true) p ∙ still old k place g) either_way in absurd (true≢false (sym t ∙ e))
          by false g = refl

-- the places before one are settled, and so are those that are marked
pub record IsUnderWay (n from place : ℕ) (G Now : ℕ → Type 0) (marks : List Bool) : Type 0 where
  pub marked : (k : ℕ) → k < n → get_or marks k true ≡ true → G k → Now k
  pub clear : (k : ℕ) → get_or marks k true ≡ false → from ≤ k
  pub done : (k : ℕ) → k < n → k < place → G k → Now k

pub starts : (n from : ℕ) (G Now : ℕ → Type 0) (marks : List Bool) → ((k : ℕ) → k < n → get_or marks k true ≡ true → k < from) → ((k : ℕ) → get_or marks k true ≡ false → from ≤ k) → ((k : ℕ) → k < from → G k → Now k) → IsUnderWay n from from G Now marks
starts n from G Now marks m c old = record { marked = λ k lt e. old k (m k lt e); clear = c; done = λ k lt l. old k l }

module _ (uses : List (List Way)) (n from place : ℕ) (G Now : ℕ → Type 0) (marks after : List Bool) (steps : List Step) (good : AreGood uses n from G) (loads : Loads uses marks place steps after) (below : place < n) (u : IsUnderWay n from place G Now marks) where
  loaded : IsLoaded uses n from G Now marks after steps × (G place → Behind Now steps place)
  loaded = loads_first uses n from G good Now marks after place steps loads below (λ k lt g. u.clear k g) (λ k lt g x. inl (u.marked k lt g x))

  pub place_order : UsesComeFirst uses G Now steps
  place_order = loaded.0.order

  pub place_new : (k : ℕ) → Contains steps (Declare k) → (from ≤ k) × (k < n)
  place_new k c = let f = loaded.0.fresh k c in (u.clear k f.1, f.0)

  pub place_settled : (New : ℕ → Type 0) → ((k : ℕ) → Behind Now steps k → New k) → IsUnderWay n from (place + 1) G New after
  place_settled New f = record {
    marked = λ k lt g x. ⊎_elim (λ b. f k b) (λ h. f k (stays_behind Now steps k (u.marked k lt h x))) (loaded.0.marked k lt g x);
    clear = λ k g. u.clear k (loaded.0.clear k g);
    done = λ k lt l x. ⊎_elim (λ h. f k (stays_behind Now steps k (u.done k lt h x))) (λ e. f k (subst (λ j. Behind Now steps j) (sym e) (loaded.1 (subst G e x)))) (earlier_or_this k l);
  }
    where
      earlier_or_this : (k : ℕ) → k < place + 1 → (k < place) ⊎ (k ≡ place)
      earlier_or_this k l = ⊎_elim (λ h. inl h) (λ e. inr (sym e)) (before_or_same k place (omega (arith, l)))
