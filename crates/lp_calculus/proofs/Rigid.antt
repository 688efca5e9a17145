-- Rigid heads are kept, and where terms with rigid heads convert, the heads are one and the arguments convert.
use Rattle.std.proofs.Common.{◌≡◌, ℕ, suc, ◌+◌, List, [], ◌∷◌, length, refl, ap, arith}
use Rattle.lp_calculus.specs.Term.{Term, index, atom, abs, app, apply, Atom, constant, integer, text, eigen, logic, param}
use Rattle.lp_calculus.specs.Convert.{here, in_head, in_argument, Converts, ReducesTo, done, then_step, ConvertAll, convert_none, convert_more}
pub use Rattle.lp_calculus.specs.Normal.{IsHead}
use Rattle.lp_calculus.proofs.BetaEta.{conversion_meets}
use Rattle.lp_calculus.specs.Fill.{Within}
use Rattle.lp_calculus.proofs.Steps.{Step, converts_on, converts_sym, converts_reduces, within_reduces}

pub reduces_on : {t s r : Term} → ReducesTo t s → ReducesTo s r → ReducesTo t r
reduces_on (done t) q = q
reduces_on (then_step p ps) q = then_step p (reduces_on ps q)

-- the second has the first one's head, and reducts of its arguments
pub data Alike : Term → Term → Type 0 where
  alike_index : (i : ℕ) → Alike (index i) (index i)
  alike_atom : (a : Atom) → Alike (atom a) (atom a)
  alike_app : {t s u v : Term} → Alike t s → ReducesTo u v → Alike (app t u) (app s v)

no_step_index : {i : ℕ} {r : Term} → Step (index i) r → ⊥
no_step_index (here x) = elim x [ ]

no_step_atom : {a : Atom} {r : Term} → Step (atom a) r → ⊥
no_step_atom (here x) = elim x [ ]

alike_step : {t s r : Term} → Alike t s → Step s r → Alike t r
alike_step (alike_index i) p = absurd (no_step_index p)
alike_step (alike_atom a) p = absurd (no_step_atom p)
alike_step (alike_app h d) (in_argument t p) = alike_app h (reduces_on d (then_step p (done _)))
alike_step (alike_app h d) (in_head u p) = alike_app (alike_step h p) d
alike_step (alike_app (alike_index i) d) (here x) = elim x [ ]
alike_step (alike_app (alike_atom a) d) (here x) = elim x [ ]
alike_step (alike_app (alike_app h e) d) (here x) = elim x [ ]

alike_reduces : {t s r : Term} → Alike t s → ReducesTo s r → Alike t r
alike_reduces h (done t) = h
alike_reduces h (then_step p ps) = alike_reduces (alike_step h p) ps

-- one head, and arguments that convert
pub data Joint : Term → Term → Type 0 where
  joint_index : (i : ℕ) → Joint (index i) (index i)
  joint_atom : (a : Atom) → Joint (atom a) (atom a)
  joint_app : {t s u v : Term} → Joint t s → Converts u v → Joint (app t u) (app s v)

joint_of : {t s w : Term} → Alike t w → Alike s w → Joint t s
joint_of (alike_index i) (alike_index j) = joint_index i
joint_of (alike_atom a) (alike_atom b) = joint_atom a
joint_of (alike_app h d) (alike_app g e) = joint_app (joint_of h g) (converts_on (converts_reduces d) (converts_sym (converts_reduces e)))

-- an index or an atom that is no variable
abbrev pub IsRigid : Term → Type 0
IsRigid (index i) = Unit {0}
IsRigid (atom (logic x l)) = ⊥
IsRigid (atom (constant c ts)) = Unit {0}
IsRigid (atom (integer z)) = Unit {0}
IsRigid (atom (text s)) = Unit {0}
IsRigid (atom (eigen k)) = Unit {0}
IsRigid (atom (param k t)) = Unit {0}
IsRigid (abs b) = ⊥
IsRigid (app t u) = ⊥

rigid_alike : (h : Term) → IsRigid h → Alike h h
rigid_alike (index i) r = alike_index i
rigid_alike (atom a) r = alike_atom a
rigid_alike (abs b) r = absurd r
rigid_alike (app t u) r = absurd r

alike_apply : (ts : List Term) {h : Term} → Alike h h → Alike (apply h ts) (apply h ts)
alike_apply [] r = r
alike_apply (t ∷ ts) r = alike_apply ts (alike_app r (done t))

joint_apply : (ts us : List Term) (h g : Term) → length ts ≡ length us → Joint (apply h ts) (apply g us) → Joint h g × ConvertAll ts us
joint_apply [] [] h g e j = (j, convert_none)
joint_apply [] (u ∷ us) h g e j = absurd (omega arith)
joint_apply (t ∷ ts) [] h g e j = absurd (omega arith)
joint_apply (t ∷ ts) (u ∷ us) h g e j =
    let q : length ts ≡ length us = omega arith in
    let r = joint_apply ts us (app h t) (app g u) q j in
    split r.0 r.1
  where
    split : Joint (app h t) (app g u) → ConvertAll ts us → Joint h g × ConvertAll (t ∷ ts) (u ∷ us)
    split (joint_app k c) all = (k, convert_more c all)

abbrev deep : Term → ℕ
deep (app t u) = suc (deep t)
deep (index i) = 0
deep (atom a) = 0
deep (abs b) = 0

joint_deep : {t s : Term} → Joint t s → deep t ≡ deep s
joint_deep (joint_index i) = refl
joint_deep (joint_atom a) = refl
joint_deep (joint_app j c) = ap suc (joint_deep j)

deep_apply : (ts : List Term) (h : Term) → deep (apply h ts) ≡ length ts + deep h
deep_apply [] h = omega arith
deep_apply (t ∷ ts) h = let r = deep_apply ts (app h t) in omega arith

rigid_deep : (h : Term) → IsRigid h → deep h ≡ 0
rigid_deep (index i) r = refl
rigid_deep (atom a) r = refl
rigid_deep (abs b) r = refl
rigid_deep (app t u) r = absurd r

joint_rigid : (h g : Term) → IsRigid h → Joint h g → h ≡ g
joint_rigid _ _ r (joint_index i) = refl
joint_rigid _ _ r (joint_atom a) = refl
joint_rigid _ _ r (joint_app j c) = absurd r

pub record AreJoint (h g : Term) (ts us : List Term) : Type 0 where
  pub heads : h ≡ g
  pub lengths : length ts ≡ length us
  pub arguments : ConvertAll ts us

pub rigid_joint : (h g : Term) (ts us : List Term) → IsRigid h → IsRigid g → Converts (apply h ts) (apply g us) → AreJoint h g ts us
rigid_joint h g ts us r q c =
    let m = conversion_meets c in
    let j = joint_of (alike_reduces (alike_apply ts (rigid_alike h r)) m.1) (alike_reduces (alike_apply us (rigid_alike g q)) m.2) in
    let d = joint_deep j in
    let e₁ = deep_apply ts h in
    let e₂ = deep_apply us g in
    let e₃ = rigid_deep h r in
    let e₄ = rigid_deep g q in
    let e : length ts ≡ length us = omega arith in
    let k = joint_apply ts us h g e j in
    record { heads = joint_rigid h g r k.0; lengths = e; arguments = k.1 }

-- where a rigid head on arguments converts to a term with these atoms, each argument reduces to one
pub data EachReaches (P : Atom → Type 0) : List Term → Type 0 where
  reaches_none : EachReaches P []
  reaches_more : {t : Term} {ts : List Term} → (u : Term) → ReducesTo t u → Within P 0 u → EachReaches P ts → EachReaches P (t ∷ ts)

alike_back : (P : Atom → Type 0) (ts : List Term) (f w : Term) → Alike (apply f ts) w → Within P 0 w → ((v : Term) × Alike f v × Within P 0 v) × EachReaches P ts
alike_back P [] f w h k = ((w, h, k), reaches_none)
alike_back P (t ∷ ts) f w h k = let r = alike_back P ts (app f t) w h k in split r.0.1 r.0.2 r.1
  where
    split : {v : Term} → Alike (app f t) v → Within P 0 v → EachReaches P ts → ((z : Term) × Alike f z × Within P 0 z) × EachReaches P (t ∷ ts)
    split (alike_app {s = s} {v = v} i d) q all = ((s, i, q.0), reaches_more v d q.1 all)

pub rigid_reaches : (P : Atom → Type 0) (h : Term) (ts : List Term) (r : Term) → IsRigid h → Converts (apply h ts) r → Within P 0 r → Within P 0 h × EachReaches P ts
rigid_reaches P h ts r q c w =
    let m = conversion_meets c in
    let z = alike_back P ts h m.0 (alike_reduces (alike_apply ts (rigid_alike h q)) m.1) (within_reduces P 0 m.2 w) in
    (head_is h z.0.0 q z.0.1 z.0.2, z.1)
  where
    head_is : (g v : Term) → IsRigid g → Alike g v → Within P 0 v → Within P 0 g
    head_is _ _ i (alike_index j) k = k
    head_is _ _ i (alike_atom a) k = k
    head_is _ _ i (alike_app j d) k = absurd i

pub rigid_head : (h : Term) → IsRigid h → IsHead h
rigid_head (index i) r = tt
rigid_head (atom a) r = tt
rigid_head (abs b) r = r
rigid_head (app t u) r = r

head_alike : (h : Term) → IsHead h → Alike h h
head_alike (index i) r = alike_index i
head_alike (atom a) r = alike_atom a
head_alike (abs b) r = absurd r
head_alike (app t u) r = absurd r

head_deep : (h : Term) → IsHead h → deep h ≡ 0
head_deep (index i) r = refl
head_deep (atom a) r = refl
head_deep (abs b) r = refl
head_deep (app t u) r = absurd r

joint_head : (h g : Term) → IsHead h → Joint h g → h ≡ g
joint_head _ _ r (joint_index i) = refl
joint_head _ _ r (joint_atom a) = refl
joint_head _ _ r (joint_app j c) = absurd r

pub heads_joint : (h g : Term) (ts us : List Term) → IsHead h → IsHead g → Converts (apply h ts) (apply g us) → AreJoint h g ts us
heads_joint h g ts us r q c =
    let m = conversion_meets c in
    let j = joint_of (alike_reduces (alike_apply ts (head_alike h r)) m.1) (alike_reduces (alike_apply us (head_alike g q)) m.2) in
    let d = joint_deep j in
    let e₁ = deep_apply ts h in
    let e₂ = deep_apply us g in
    let e₃ = head_deep h r in
    let e₄ = head_deep g q in
    let e : length ts ≡ length us = omega arith in
    let k = joint_apply ts us h g e j in
    record { heads = joint_head h g r k.0; lengths = e; arguments = k.1 }

pub head_reaches : (P : Atom → Type 0) (h : Term) (ts : List Term) (r : Term) → IsHead h → Converts (apply h ts) r → Within P 0 r → Within P 0 h × EachReaches P ts
head_reaches P h ts r q c w =
    let m = conversion_meets c in
    let z = alike_back P ts h m.0 (alike_reduces (alike_apply ts (head_alike h q)) m.1) (within_reduces P 0 m.2 w) in
    (head_is h z.0.0 q z.0.1 z.0.2, z.1)
  where
    head_is : (g v : Term) → IsHead g → Alike g v → Within P 0 v → Within P 0 g
    head_is _ _ i (alike_index j) k = k
    head_is _ _ i (alike_atom a) k = k
    head_is _ _ i (alike_app j d) k = absurd i
