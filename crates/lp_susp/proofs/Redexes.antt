-- An application whose head is an abstraction, contracted in its own cell.
use Rattle.std.proofs.Common.{◌≡◌, ℕ, zero, suc, ◌+◌, ◌<◌, ◌≤◌, inl, inr, List, [], ◌∷◌, length, map, take, drop, refl, sym, ap, ◌∙◌, subst, arith, Some, slice_index_or}
use Rattle.lp_calculus.specs.Types.{Ty}
use Rattle.lp_calculus.specs.Term.{Term, abs, app, apply, replace, substitute}
use Rattle.lp_calculus.specs.Convert.{head_step, Reduces, Converts}
use Rattle.lp_store.specs.declared.cell.Cell.TheVariants.{Ref, App}
use Rattle.lp_store.specs.declared.cell.CellId.{CellId}
use Rattle.lp_store.specs.declared.cell.Span.{Span}
use Rattle.lp_store.specs.Contents.{Contents, cell_at, span, env_list}
use Rattle.lp_store.specs.Reading.{ReadsType, no_types, Reads, ReadAll, none, more, Leads, through, IsAmong, parts, Avoids, AvoidsAll, carried}
use Rattle.lp_store.specs.Sound.{IsSound, Stands}
use Rattle.lp_store.specs.Change.{Extends, changed}
use Rattle.lp_store.proofs.Readings.{leads_join, no_circle}
use Rattle.lp_store.proofs.Changes.{reads_at, type_parts_read}
use Rattle.lp_susp.specs.Kept.{Reduced}
use Rattle.lp_susp.specs.declared.exposing.Closure.{Closure}
use Rattle.lp_susp.specs.Pending.{Carries}
use Rattle.lp_susp.specs.Route.{IsRedex, closure_parts}
use Rattle.lp_susp.specs.Counted.{IsApplication}
use Rattle.lp_susp.proofs.Chains.{app_parts}
use Rattle.lp_susp.proofs.Keeping.{grows_of, grows_on, grows_changed, changed_there}
use Rattle.lp_susp.proofs.Heads.{redex_step, step_reduces, reduces_converts, application_apply}

-- a list that is not empty, as its first and the others
cons_at : {A : Type 0} (xs : List A) (from c : ℕ) → from + suc c ≤ length xs → (x : A) × (take (suc c) (drop from xs) ≡ x ∷ take c (drop (suc from) xs))
cons_at [] from c h = absurd (omega arith)
cons_at (x ∷ xs) zero c h = (x, refl)
cons_at (x ∷ xs) (suc from) c h = cons_at xs from c (omega arith)

pub span_cons : {A : Type 0} (xs : List A) (from count f c : ℕ) → from + count ≤ length xs → f ≡ from + 1 → c + 1 ≡ count → (x : A) × (span xs from count ≡ x ∷ span xs f c)
span_cons xs from count f c h p q =
    let a : count ≡ suc c = omega arith in
    let b : suc from ≡ f = omega arith in
    let k = cons_at xs from c (omega arith) in
    (k.0, ap (λ n. span xs from n) a ∙ k.1 ∙ ap (λ n. k.0 ∷ span xs n c) b)

pub tail_read : (s : Contents) (xs : List CellId) (from count f c : ℕ) → from + count ≤ length xs → f ≡ from + 1 → c + 1 ≡ count → (u : Term) (us : List Term) →
    ReadAll s (map (λ t. t.0) (span xs from count)) (u ∷ us) → ReadAll s (map (λ t. t.0) (span xs f c)) us
tail_read s xs from count f c h p q u us r =
    let k = span_cons xs from count f c h p q in
    tail (subst (λ l. ReadAll s (map (λ t. t.0) l) (u ∷ us)) k.1 r)
  where
    tail : {i : ℕ} {is : List ℕ} → ReadAll s (i ∷ is) (u ∷ us) → ReadAll s is us
    tail (more a b) = b

pub tail_avoids : (s : Contents) (x : ℕ) (xs : List CellId) (from count f c : ℕ) → from + count ≤ length xs → f ≡ from + 1 → c + 1 ≡ count →
    AvoidsAll s x (map (λ t. t.0) (span xs from count)) → AvoidsAll s x (map (λ t. t.0) (span xs f c))
tail_avoids s x xs from count f c h p q a =
    let k = span_cons xs from count f c h p q in
    λ j m. subst (λ l. AvoidsAll s x (map (λ t. t.0) l)) k.1 a j (inr m)

pub no_tail : (s : Contents) (i : ℕ) (h : Term) (is : List CellId) (us : List Term) → is ≡ [] → ReadAll s (map (λ t. t.0) is) us → Reads s i h → Reads s i (apply h us)
no_tail s i h is us e r q = subst (λ l. Reads s i (apply h l)) (sym (empty (subst (λ l. ReadAll s (map (λ t. t.0) l) us) e r))) q
  where
    empty : {vs : List Term} → ReadAll s [] vs → vs ≡ []
    empty none = refl

-- the readings of a list that is not empty
pub some_read : (s : Contents) (xs : List CellId) (from count : ℕ) → from + count ≤ length xs → 0 < count → (ws : List Term) → ReadAll s (map (λ t. t.0) (span xs from count)) ws →
    (u : Term) × (us : List Term) × (ws ≡ u ∷ us)
some_read s xs from zero h l ws r = absurd (omega arith)
some_read s xs from (suc c) h l ws r =
    let k = span_cons xs from (suc c) (suc from) c h (omega arith) (omega arith) in
    split (subst (λ l. ReadAll s (map (λ t. t.0) l) ws) k.1 r)
  where
    split : {i : ℕ} {is : List ℕ} {vs : List Term} → ReadAll s (i ∷ is) vs → (u : Term) × (us : List Term) × (vs ≡ u ∷ us)
    split (more {t = t} {ts = ts} a b) = (t, ts, refl)

pub first_read : (s : Contents) (xs : List CellId) (d : CellId) (u : Term) (us : List Term) → ReadAll s (map (λ t. t.0) xs) (u ∷ us) → Reads s (slice_index_or xs 0 d).0 u
first_read s [] d u us x = elim x [ ]
first_read s (x ∷ xs) d u us (more r p) = r

pub first_among : (xs : List CellId) (d : CellId) → 0 < length xs → IsAmong (slice_index_or xs 0 d).0 (map (λ t. t.0) xs)
first_among [] d h = absurd (omega arith)
first_among (x ∷ xs) d h = inl refl

pub some_length : {A : Type 0} (xs : List A) (from count : ℕ) → from + count ≤ length xs → 0 < count → 0 < length (span xs from count)
some_length xs from zero h l = absurd (omega arith)
some_length xs from (suc c) h l = let k = span_cons xs from (suc c) (suc from) c h (omega arith) (omega arith) in omega (arith, ap length k.1)

-- an application of a closure can be contracted
pub redex_steps : (s : Contents) (p : ℕ) (x : Closure) (l : Span) → IsSound s → IsRedex s p x l → (t : Term) → Reads s p t → (r : Term) × (head_step t ≡ Some r) × IsApplication t
redex_steps s p x l v q t o =
    let st : Stands s (App q.0 l) = subst (Stands s) q.2 (v.stand p q.1) in
    let k = app_parts s p q.0 l t q.2 o in
    let b = q.3.reads k.0 k.2 in
    let n = replace (carried x.pending.nl (env_list s.envs x.pending.env.0) b.2.terms) 1 b.0 in
    let w = some_read s s.items l.from l.count st.1 st.2 k.1 k.3 in
    let g : t ≡ apply (abs n) (w.0 ∷ w.1) = k.4 ∙ (λ i. apply (b.2.is i) (w.2 i)) in (
      apply (substitute w.0 n) w.1,
      ap head_step g ∙ redex_step n w.0 w.1,
      subst IsApplication (sym g) (application_apply (app (abs n) w.0) w.1 (abs n, w.0, refl)),
    )

module _ (s y : Contents) (p : ℕ) (x : Closure) (result : CellId) (l : Span) (v : IsSound s) (e : Extends s y) (q : IsRedex s p x l)
    (av : (c : ℕ) → c < length s.cells → AvoidsAll s c (closure_parts s x) → AvoidsAll s c (map (λ t. t.0) (span s.items l.from l.count)) → Avoids y c result.0)
    (rd : (m n u : Term) (us : List Term) → Reads s x.body.0 m → Carries s x.pending (abs m) (abs n) → ReadAll s (map (λ t. t.0) (span s.items l.from l.count)) (u ∷ us) → Reads y result.0 (apply (substitute u n) us)) where
  stands : Stands s (App q.0 l)
  stands = subst (Stands s) q.2 (v.stand p q.1)

  head_among : IsAmong q.0.0 (parts s (cell_at s p))
  head_among = subst (λ c. IsAmong q.0.0 (parts s c)) (sym q.2) (inl refl)

  argument_among : (j : ℕ) → IsAmong j (map (λ t. t.0) (span s.items l.from l.count)) → IsAmong j (parts s (cell_at s p))
  argument_among j m = subst (λ c. IsAmong j (parts s c)) (sym q.2) (inr m)

  below : (c : ℕ) → c < length s.cells → ((j : ℕ) → IsAmong j (parts s (cell_at s p)) → Avoids s c j) → Avoids y c result.0
  below c h n = av c h (λ j m k. n q.0.0 head_among (leads_join (q.3.leads j m) k)) (λ j m. n j (argument_among j m))

  pub contracted_no_circle : Leads y result.0 p → ⊥
  contracted_no_circle = below p q.1 (λ j m. no_circle (v.ending p q.1) j m)

  pub contracted_no_type : (T : Ty) → ReadsType y p T → ReadsType y result.0 T
  contracted_no_type T r = absurd (type_parts_read y p (App q.0 l) (e.cells p q.1 ∙ q.2) r).3

  pub stepping : (t : Term) → Reads s p t → (r : Term) × (head_step t ≡ Some r) × IsApplication t × Reads y result.0 r
  stepping t o =
      let k = app_parts s p q.0 l t q.2 o in
      let b = q.3.reads k.0 k.2 in
      let n = replace (carried x.pending.nl (env_list s.envs x.pending.env.0) b.2.terms) 1 b.0 in
      let w = some_read s s.items l.from l.count stands.1 stands.2 k.1 k.3 in
      let g : t ≡ apply (abs n) (w.0 ∷ w.1) = k.4 ∙ (λ i. apply (b.2.is i) (w.2 i)) in (
        apply (substitute w.0 n) w.1,
        ap head_step g ∙ redex_step n w.0 w.1,
        subst IsApplication (sym g) (application_apply (app (abs n) w.0) w.1 (abs n, w.0, refl)),
        rd b.0 n w.0 w.1 b.1 (record { terms = b.2.terms; read = b.2.read; is = refl }) (subst (ReadAll s (map (λ t. t.0) (span s.items l.from l.count))) w.2 k.3),
      )

  pub reducing : (t : Term) → Reads y p t → (u : Term) × Reads y result.0 u × Reduces t u
  reducing t o = let k = stepping t (e.reads_back p t q.1 o) in (k.0, k.3, step_reduces t k.0 k.1)

  pub converting : (t : Term) → Reads y p t → (u : Term) × Reads y result.0 u × Converts t u
  converting t o = let k = reducing t o in (k.0, k.1, reduces_converts k.2)

  pub contracted_reduced : (z : Contents) → z ≡ changed y p result → ((i : ℕ) (T : Ty) → ReadsType y i T → ReadsType z i T) → ((i : ℕ) (t : Term) → Reads y i t → (u : Term) × Reads z i u × Reduces t u) →
      ((c : ℕ) → (Avoids y c p → Avoids y c result.0) → (i : ℕ) → Avoids y c i → Avoids z c i) → Reduced s z
  contracted_reduced z d f g a = record {
    grows = grows_on s y z (grows_of s y e) (grows_changed y z p result d);
    types = λ i T r. f i T (e.types i T r);
    terms = λ i t r. g i t (e.reads i t r);
    avoids = λ c i hc hi n. a c (λ w. below c hc (λ j m k. w (e.leads_on p c q.1 (through m k)))) i (λ k. n (e.leads i c hi k));
  }

  pub contracted_steps : (z : Contents) → z ≡ changed y p result → ((t : Term) → Reads y result.0 t → Reads z result.0 t) → (t : Term) → Reads s p t →
      (r : Term) × (head_step t ≡ Some r) × IsApplication t × Reads z p r
  contracted_steps z d f t o =
      let k = stepping t o in
      let h : p < length y.cells = omega (arith, q.1, e.more_cells) in
      (k.0, k.1, k.2, reads_at z p (Ref result) (omega (arith, h, (grows_changed y z p result d).more_cells)) (changed_there y z p result d h) tt no_types (more (f k.0 k.3) none))
