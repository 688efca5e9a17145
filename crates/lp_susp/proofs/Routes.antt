-- Ways along references and through suspensions that wait.
use Rattle.std.proofs.Common.{◌≡◌, ℕ, ◌<◌, ◌≤◌, inl, inr, List, [], ◌∷◌, ◌++◌, length, refl, sym, ap, ◌∙◌, subst, arith}
use Rattle.lp_calculus.specs.Types.{Ty}
use Rattle.lp_calculus.specs.Term.{Term}
use Rattle.lp_store.specs.declared.cell.Cell.{Cell}
use Rattle.lp_store.specs.declared.cell.Cell.TheVariants.{TypeVar, TypeCon, TypeArrow, Ref, Const, Int, Text, Eigen, Logic, Index, Abs, App, Susp}
use Rattle.lp_store.specs.declared.cell.CellId.{CellId}
use Rattle.lp_store.specs.declared.cell.Env.{Env}
use Rattle.lp_store.specs.Contents.{Contents, cell_at, env_list}
use Rattle.lp_store.specs.Reading.{Reads, ReadsType, ReadTypes, no_types, more_types, none, more, Leads, here, through, IsAmong, parts, values, Avoids, AvoidsAll, first_type}
use Rattle.lp_store.specs.Sound.{IsSound, Stands}
use Rattle.lp_store.specs.Change.{Extends, changed}
use Rattle.lp_store.proofs.Readings.{leads_join, no_circle}
use Rattle.lp_store.proofs.Changes.{reads_at, type_parts_read}
use Rattle.lp_susp.specs.declared.carrying.Pending.{Pending}
use Rattle.lp_susp.specs.declared.exposing.Waiting.{Waiting}
use Rattle.lp_susp.specs.Pending.{IsPending, Carries}
use Rattle.lp_susp.specs.Kept.{IsSettled, IsExposed, Keeps}
use Rattle.lp_susp.specs.Route.{RefsTo, arrived, onward, IsWaiting, Waits}
use Rattle.lp_susp.proofs.Chains.{ref_parts, susp_parts}
use Rattle.lp_susp.proofs.Keeping.{grows_of, grows_on, grows_changed, changed_elsewhere}

pub refs_on : {s : Contents} {i j k : ℕ} → RefsTo s i j → RefsTo s j k → RefsTo s i k
refs_on (arrived i) r = r
refs_on (onward j h e q) r = onward j h e (refs_on q r)

pub refs_read : {s : Contents} {i k : ℕ} → RefsTo s i k → {t : Term} → Reads s i t → Reads s k t
refs_read (arrived i) r = r
refs_read {s} {i} (onward j h e q) {t} r = refs_read q (ref_parts s i j t e r)

pub refs_back : {s : Contents} {i k : ℕ} → RefsTo s i k → {t : Term} → Reads s k t → Reads s i t
refs_back (arrived i) r = r
refs_back {s} {i} (onward j h e q) r = reads_at s i (Ref j) h e tt no_types (more (refs_back q r) none)

type_ref_parts : (s : Contents) (i : ℕ) (to : CellId) (T : Ty) → cell_at s i ≡ Ref to → ReadsType s i T → ReadsType s to.0 T
type_ref_parts s i to T e q = made (type_parts_read s i (Ref to) e q)
  where
    made : (Ts : List Ty) × ReadTypes s (to.0 ∷ []) Ts × (T ≡ first_type Ts) × Unit {0} → ReadsType s to.0 T
    made (Ts, more_types r no_types, h, u) = subst (ReadsType s to.0) (sym h) r

pub refs_type : {s : Contents} {i k : ℕ} → RefsTo s i k → {T : Ty} → ReadsType s i T → ReadsType s k T
refs_type (arrived i) r = r
refs_type {s} {i} (onward j h e q) {T} r = refs_type q (type_ref_parts s i j T e r)

ref_among : (s : Contents) (i : ℕ) (j : CellId) → cell_at s i ≡ Ref j → IsAmong j.0 (parts s (cell_at s i))
ref_among s i j e = subst (λ c. IsAmong j.0 (parts s c)) (sym e) (inl refl)

pub refs_lead : {s : Contents} {i k : ℕ} → RefsTo s i k → Leads s i k
refs_lead (arrived i) = here i
refs_lead {s} {i} (onward j h e q) = through (ref_among s i j e) (refs_lead q)

-- references stay where what is no suspension stays
pub refs_stay : {s z : Contents} → ((i : ℕ) → i < length s.cells → IsSettled (cell_at s i) → cell_at z i ≡ cell_at s i) → length s.cells ≤ length z.cells → {i k : ℕ} → RefsTo s i k → RefsTo z i k
refs_stay f m (arrived i) = arrived i
refs_stay {s} {z} f m (onward {i = i} j h e q) = onward j (omega (arith, h, m)) (f i h (subst IsSettled (sym e) tt) ∙ e) (refs_stay f m q)

pub refs_kept : {s z : Contents} → Keeps s z → {i k : ℕ} → RefsTo s i k → RefsTo z i k
refs_kept k r = refs_stay k.settled k.grows.more_cells r

-- one more suspension, or one less
pub waits_push : (s : Contents) (i : ℕ) (ws : List Waiting) (w : Waiting) (b : CellId) → Waits s i ws w.cell.0 → w.cell.0 < length s.cells → cell_at s w.cell.0 ≡ Susp b w.pending.ol w.pending.nl w.pending.env → Waits s i (ws ++ w ∷ []) b.0
waits_push s i [] w b r h e = (r, h, b, e, arrived b.0)
waits_push s i (x ∷ xs) w b r h e = (r.0, r.1, r.2, r.3, waits_push s r.2.0 xs w b r.4 h e)

pub waits_ref : (s : Contents) (i : ℕ) (ws : List Waiting) (k : ℕ) (to : CellId) → Waits s i ws k → k < length s.cells → cell_at s k ≡ Ref to → Waits s i ws to.0
waits_ref s i [] k to r h e = refs_on r (onward to h e (arrived to.0))
waits_ref s i (x ∷ xs) k to r h e = (r.0, r.1, r.2, r.3, waits_ref s r.2.0 xs k to r.4 h e)

pub waits_pop : (s : Contents) (i : ℕ) (ws : List Waiting) (w : Waiting) (k : ℕ) → Waits s i (ws ++ w ∷ []) k → Waits s i ws w.cell.0 × IsWaiting s w k
waits_pop s i [] w k r = (r.0, (r.1, r.2, r.3, r.4))
waits_pop s i (x ∷ xs) w k r = let q = waits_pop s r.2.0 xs w k r.4 in ((r.0, r.1, r.2, r.3, q.0), q.1)

body_among : (s : Contents) (i : ℕ) (b : CellId) (x : Pending) → cell_at s i ≡ Susp b x.ol x.nl x.env → IsAmong b.0 (parts s (cell_at s i))
body_among s i b x e = subst (λ c. IsAmong b.0 (parts s c)) (sym e) (inl refl)

pub waits_lead : (s : Contents) (i : ℕ) (ws : List Waiting) (k : ℕ) → Waits s i ws k → Leads s i k
waits_lead s i [] k r = refs_lead r
waits_lead s i (x ∷ xs) k r = leads_join (refs_lead r.0) (through (body_among s x.cell.0 r.2 x.pending r.3) (waits_lead s r.2.0 xs k r.4))

-- a suspension gives way to a reference: the ways to it go on there
module _ (s z : Contents) (a : ℕ) (b to : CellId) (x : Pending) (v : IsSound s) (e : cell_at s a ≡ Susp b x.ol x.nl x.env) (h : a < length s.cells) (m : length s.cells ≤ length z.cells)
    (t : cell_at z a ≡ Ref to) (f : (i : ℕ) → i < length s.cells → (i ≡ a → ⊥) → cell_at z i ≡ cell_at s i) where
  settled_there : (i : ℕ) → i < length s.cells → IsSettled (cell_at s i) → cell_at z i ≡ cell_at s i
  settled_there i p q = f i p (λ y. subst IsSettled (ap (cell_at s) y ∙ e) q)

  refs_turn : {i : ℕ} → RefsTo s i a → RefsTo z i to.0
  refs_turn r = refs_on (refs_stay settled_there m r) (onward to (omega (arith, h, m)) t (arrived to.0))

  pub waits_turn : (i : ℕ) (ws : List Waiting) → Waits s i ws a → Waits z i ws to.0
  waits_turn i [] r = refs_turn r
  waits_turn i (y ∷ ys) r = (
    refs_stay settled_there m r.0,
    omega (arith, r.1, m),
    r.2,
    f y.cell.0 r.1 (λ q. no_circle (v.ending y.cell.0 r.1) r.2.0 (body_among s y.cell.0 r.2 y.pending r.3) (subst (Leads s r.2.0) (sym q) (waits_lead s r.2.0 ys a r.4))) ∙ r.3,
    waits_turn r.2.0 ys r.4,
  )

pub waiting_of : (s : Contents) (w : Waiting) (at : CellId) → IsSound s → IsWaiting s w at.0 → IsPending s w.pending
waiting_of s w at v q = let k = subst (Stands s) q.2 (v.stand w.cell.0 q.0) in record { within = k.1; entries = k.2; fits = k.3 }

-- a suspension is carried out
module _ (s y : Contents) (w : Waiting) (at carried : CellId) (v : IsSound s) (e : Extends s y) (q : IsWaiting s w at.0)
    (ca : (c : ℕ) → c < length s.cells → Avoids s c at.0 → AvoidsAll s c (values (env_list s.envs w.pending.env.0)) → Avoids y c carried.0) where
  value_among : (j : ℕ) → IsAmong j (values (env_list s.envs w.pending.env.0)) → IsAmong j (parts s (cell_at s w.cell.0))
  value_among j m = subst (λ c. IsAmong j (parts s c)) (sym q.2) (inr m)

  -- what the suspension does not lead to is not led to by what came
  below : (c : ℕ) → c < length s.cells → ((j : ℕ) → IsAmong j (parts s (cell_at s w.cell.0)) → Avoids s c j) → Avoids y c carried.0
  below c h n = ca c h (λ l. n q.1.0 (body_among s w.cell.0 q.1 w.pending q.2) (leads_join (refs_lead q.3) l)) (λ j m. n j (value_among j m))

  pub carried_no_circle : Leads y carried.0 w.cell.0 → ⊥
  carried_no_circle = below w.cell.0 q.0 (λ j m. no_circle (v.ending w.cell.0 q.0) j m)

  pub there_still : cell_at y w.cell.0 ≡ Susp q.1 w.pending.ol w.pending.nl w.pending.env
  there_still = e.cells w.cell.0 q.0 ∙ q.2

  pub no_type : (T : Ty) → ReadsType y w.cell.0 T → ReadsType y carried.0 T
  no_type T r = absurd (type_parts_read y w.cell.0 (Susp q.1 w.pending.ol w.pending.nl w.pending.env) there_still r).3

  pub reads_alike : ((m r : Term) → Reads s at.0 m → Carries s w.pending m r → Reads y carried.0 r) → (t : Term) → Reads y w.cell.0 t → Reads y carried.0 t
  reads_alike f t r =
      let k = susp_parts s w.cell.0 q.1 w.pending.ol w.pending.nl w.pending.env t q.2 (e.reads_back w.cell.0 t q.0 r) in
      f k.0 t (refs_read q.3 k.1) k.2

  pub carried_keeps : (z : Contents) → z ≡ changed y w.cell.0 carried → ((i : ℕ) (T : Ty) → ReadsType y i T → ReadsType z i T) → ((i : ℕ) (t : Term) → Reads y i t → Reads z i t) →
      ((c : ℕ) → (Avoids y c w.cell.0 → Avoids y c carried.0) → (i : ℕ) → Avoids y c i → Avoids z c i) → Keeps s z
  carried_keeps z p f g av = record {
    grows = grows_on s y z (grows_of s y e) (grows_changed y z w.cell.0 carried p);
    types = λ i T r. f i T (e.types i T r);
    terms = λ i t r. g i t (e.reads i t r);
    avoids = λ c i hc hi n. av c (λ a. below c hc (λ j m l. a (e.leads_on w.cell.0 c q.0 (through m l)))) i (λ l. n (e.leads i c hi l));
    settled = λ i h x. changed_elsewhere y z w.cell.0 carried p i (λ k. subst IsSettled (ap (cell_at s) k ∙ q.2) x) ∙ e.cells i h;
  }

pub is_exposed : (c d : Cell) → c ≡ d → ((j : CellId) → c ≡ Ref j → ⊥) → ((b : CellId) (ol nl : ℕ) (v : Env) → c ≡ Susp b ol nl v → ⊥) → IsExposed d
is_exposed c (Ref j) e f g = f j e
is_exposed c (Susp b ol nl v) e f g = g b ol nl v e
is_exposed c TypeVar e f g = tt
is_exposed c (TypeCon k l) e f g = tt
is_exposed c (TypeArrow k l) e f g = tt
is_exposed c (Const k l) e f g = tt
is_exposed c (Int k) e f g = tt
is_exposed c (Text k) e f g = tt
is_exposed c (Eigen k) e f g = tt
is_exposed c (Logic k) e f g = tt
is_exposed c (Index k) e f g = tt
is_exposed c (Abs k) e f g = tt
is_exposed c (App k l) e f g = tt
