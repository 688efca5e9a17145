-- The nodes that are built stay: what a term in frames reduces to has at least those of the frames, and one more.
use Rattle.std.proofs.Common.{◌≡◌, ℕ, suc, ◌+◌, ◌-◌, ◌<◌, ◌≤◌, inr, List, [], ◌∷◌, ◌++◌, refl, ap, ◌∙◌, subst, arith, None}
use Rattle.std.specs.Prelude.{All}
use Rattle.lp_calculus.specs.Term.{Term, index, atom, abs, app, apply}
use Rattle.lp_calculus.specs.Convert.{leftmost_step, Reduces, done, then_step, BetaStep, here, beta, in_abs, in_head, in_argument}
use Rattle.lp_calculus.specs.Normal.{nodes}
use Rattle.lp_calculus.proofs.Confluent.{beta_par, confluent, reduces_on}
use Rattle.lp_calculus.proofs.Leftmost.{normal_stays}
use Rattle.lp_store.specs.declared.cell.CellId.{CellId}
use Rattle.lp_store.specs.declared.cell.Span.{Span}
use Rattle.lp_store.specs.Contents.{Contents}
use Rattle.lp_term.specs.declared.node.TermId.{TermId}
use Rattle.lp_term.specs.Nodes.{Nodes, tree, Extends}
use Rattle.lp_term.specs.declared.reduce.TermRefusal.{TermRefusal}
use Rattle.lp_term.specs.declared.reduce.TermRefusal.TheVariants.{Deep, Memory}
use Rattle.lp_susp.specs.declared.reading.Frame.{Frame}
use Rattle.lp_susp.specs.declared.reading.Frame.TheVariants.{Under, Head, Argument}
use Rattle.lp_susp.specs.declared.reading.State.{State}
use Rattle.lp_susp.specs.declared.reading.State.TheVariants.{Fresh}
use Rattle.lp_susp.specs.Counted.{Counts, IsDeepBeta, StaysLarge}
use Rattle.lp_susp.specs.Frames.{IsNeutral, Framed, Plugged, FrameStands, nodes_of_frame, nodes_around, nodes_built}
use Rattle.lp_susp.proofs.Plugs.{neutral_beta, counts_reduce}

-- parts under reduction
app_beta : {t u s : Term} → IsNeutral t → BetaStep (app t u) s → (p : Term) × (q : Term) × (s ≡ app p q) × Reduces t p × Reduces u q × IsNeutral p
app_beta h (here (beta b u)) = absurd h
app_beta h (in_head {s = p} u b) = (p, u, refl, then_step b (done p), done u, neutral_beta h b)
app_beta h (in_argument t {v = q} b) = (t, q, refl, done t, then_step b (done q), h)

app_reduces : {x s : Term} → Reduces x s → (t u : Term) → x ≡ app t u → IsNeutral t → (p : Term) × (q : Term) × (s ≡ app p q) × Reduces t p × Reduces u q
app_reduces (done x) t u e h = (t, u, e, done t, done u)
app_reduces (then_step {s = y} b bs) t u e h =
    let k = app_beta h (subst (λ z. BetaStep z y) e b) in
    let m = app_reduces bs k.0 k.1 k.2 k.5 in
    (m.0, m.1, m.2, reduces_on k.3 m.3, reduces_on k.4 m.4)

abs_beta : {b s : Term} → BetaStep (abs b) s → (c : Term) × (s ≡ abs c) × Reduces b c
abs_beta (here x) = elim x [ ]
abs_beta (in_abs {c = c} p) = (c, refl, then_step p (done c))

abs_reduces : {x s : Term} → Reduces x s → (b : Term) → x ≡ abs b → (c : Term) × (s ≡ abs c) × Reduces b c
abs_reduces (done x) b e = (b, e, done b)
abs_reduces (then_step {s = y} p ps) b e =
    let k = abs_beta (subst (λ z. BetaStep z y) e p) in
    let m = abs_reduces ps k.0 k.1 in
    (m.0, m.1, reduces_on k.2 m.2)

one_node : (t : Term) → 1 ≤ nodes t
one_node (index i) = omega arith
one_node (atom a) = omega arith
one_node (abs b) = omega arith
one_node (app t u) = let k = one_node t in omega arith

-- a neutral head stays below its arguments
head_part : (t : Term) (us : List Term) (v : Term) → IsNeutral t → Reduces (apply t us) v → (y : Term) × Reduces t y × (nodes y ≤ nodes v)
head_part t [] v h r = (v, r, omega arith)
head_part t (u ∷ us) v h r =
    let k = head_part (app t u) us v h r in
    let m = app_reduces k.1 t u refl h in
    let e : nodes k.0 ≡ nodes m.0 + nodes m.1 = ap nodes m.2 in
    (m.0, m.3, omega (arith, e, k.2))

pub normal_only : {s r : Term} → Reduces s r → leftmost_step s ≡ None → r ≡ s
normal_only (done t) n = refl
normal_only (then_step p ps) n =
    let q = normal_stays (beta_par p) n in
    normal_only ps (ap leftmost_step q ∙ n) ∙ q

frame_part : (s : Contents) (b : Nodes) (f : Frame) (x w v : Term) → Framed s b f x w → Reduces w v → (y : Term) × Reduces x y × (nodes_of_frame b f + nodes y ≤ nodes v)
frame_part s b Under x w v p r =
    let k = abs_reduces r x p in
    let e : nodes v ≡ 1 + nodes k.0 = ap nodes k.1 in
    (k.0, k.2, omega (arith, e))
frame_part s b (Head l) x w v p r =
    let k = head_part x p.0 v p.3 (subst (λ z. Reduces z v) p.2 r) in
    (k.0, k.1, omega (arith, k.2))
frame_part s b (Argument d l) x w v p r =
    let t = tree b d.0 in
    let k = head_part (app t x) p.0 v p.3 (subst (λ z. Reduces z v) p.2 r) in
    let m = app_reduces k.1 t x refl p.3 in
    let e : nodes k.0 ≡ nodes m.0 + nodes m.1 = ap nodes m.2 in
    let g : nodes m.0 ≡ nodes t = ap nodes (normal_only m.3 p.4) in
    (m.1, m.4, omega (arith, e, g, k.2))

pub plug_part : (s : Contents) (b : Nodes) (fs : List Frame) (x w v : Term) → Plugged s b fs x w → Reduces w v → nodes_around b fs < nodes v
plug_part s b [] x w v p r = let k = one_node v in omega arith
plug_part s b (f ∷ fs) x w v p r =
    let k = frame_part s b f p.0 w v p.2 r in
    let m = plug_part s b fs x p.0 k.0 p.1 k.1 in
    omega (arith, m, k.2)

-- one more frame, and more in the bank
pub around_push : (b : Nodes) (fs : List Frame) (f : Frame) → nodes_around b (fs ++ f ∷ []) ≡ nodes_around b fs + nodes_of_frame b f
around_push b [] f = omega arith
around_push b (g ∷ gs) f = let k = around_push b gs f in omega (arith, k)

frame_bank : (s : Contents) (b d : Nodes) → Extends b d → (f : Frame) → FrameStands s b f → nodes_of_frame d f ≡ nodes_of_frame b f
frame_bank s b d e Under h = refl
frame_bank s b d e (Head l) h = refl
frame_bank s b d e (Argument t l) h = ap nodes (e.same_terms t.0 h.1)

pub around_bank : (s : Contents) (b d : Nodes) → Extends b d → (fs : List Frame) → All (FrameStands s b) fs → nodes_around d fs ≡ nodes_around b fs
around_bank s b d e [] a = refl
around_bank s b d e (f ∷ fs) a =
    let k = around_bank s b d e fs (λ i c h. a (suc i) c (omega arith)) in
    let m = frame_bank s b d e f (a 0 f (omega arith)) in
    omega (arith, k, m)

-- what was refused
pub full : (s : Contents) (b : Nodes) (fs : List Frame) (limit left : ℕ) → nodes_around b fs + left ≡ limit → left ≡ 0 → (x w : Term) → Plugged s b fs x w → StaysLarge limit w (Deep limit)
full s b fs limit left e z x w p = (refl, λ v r. (let k = plug_part s b fs x w v p r in omega (arith, k, e, z)))

pub large_beta : (limit : ℕ) {n : ℕ} (t w : Term) (e : TermRefusal) → Counts leftmost_step n t w → StaysLarge limit w e → IsDeepBeta limit t e
large_beta limit t w Memory c k = tt
large_beta limit t w (Deep n) c k = (
  k.0,
  inr (λ s r z.
      (let m = confluent (counts_reduce c) r in
      subst (λ y. limit < nodes y) (normal_only m.2 z) (k.1 m.0 m.1))),
)

-- downwards: what is built grows by a node for an abstraction and for a leaf
pub down_abs_counted : (b : Nodes) (front new : List Frame) (limit left : ℕ) → new ≡ front ++ Under ∷ [] → nodes_around b front + left ≡ limit → 0 < left → 0 + nodes_around b new + (left - 1) ≡ limit
down_abs_counted b front new limit left q e h =
    let g : nodes_around b new ≡ nodes_around b (front ++ Under ∷ []) = ap (nodes_around b) q in
    let k = around_push b front Under in
    omega (arith, g, k, e, h)

pub down_app_counted : (b : Nodes) (front new : List Frame) (l : Span) (limit left : ℕ) → new ≡ front ++ Head l ∷ [] → nodes_around b front + left ≡ limit → 0 + nodes_around b new + left ≡ limit
down_app_counted b front new l limit left q e =
    let g : nodes_around b new ≡ nodes_around b (front ++ Head l ∷ []) = ap (nodes_around b) q in
    let k = around_push b front (Head l) in
    omega (arith, g, k, e)

pub down_leaf_counted : (s : Contents) (b d : Nodes) (front : List Frame) (id : TermId) (limit left : ℕ) → Extends b d → All (FrameStands s b) front → nodes (tree d id.0) ≡ 1 → nodes_around b front + left ≡ limit → 0 < left → nodes (tree d id.0) + nodes_around d front + (left - 1) ≡ limit
down_leaf_counted s b d front id limit left x a o e h =
    let k = around_bank s b d x front a in
    omega (arith, k, o, e, h)

-- upwards: what is built is what was built
count_last : (s : Contents) (b d : Nodes) (front old : List Frame) (f : Frame) → Extends b d → All (FrameStands s b) front → old ≡ front ++ f ∷ [] → nodes_around b old ≡ nodes_around d front + nodes_of_frame b f
count_last s b d front old f e a q =
    let g : nodes_around b old ≡ nodes_around b (front ++ f ∷ []) = ap (nodes_around b) q in
    let k = around_push b front f in
    let m = around_bank s b d e front a in
    omega (arith, g, k, m)

pub up_abs_counted : (s : Contents) (b d : Nodes) (front old : List Frame) (built id : TermId) → Extends b d → All (FrameStands s b) front → old ≡ front ++ Under ∷ [] → tree d id.0 ≡ abs (tree b built.0) →
    nodes (tree d id.0) + nodes_around d front ≡ nodes (tree b built.0) + nodes_around b old
up_abs_counted s b d front old built id e a q t =
    let k = count_last s b d front old Under e a q in
    let g : nodes (tree d id.0) ≡ 1 + nodes (tree b built.0) = ap nodes t in
    omega (arith, k, g)

pub up_last_counted : (s : Contents) (b d : Nodes) (front old : List Frame) (built id head : TermId) (l : Span) → Extends b d → All (FrameStands s b) front → old ≡ front ++ Argument head l ∷ [] → tree d id.0 ≡ app (tree b head.0) (tree b built.0) →
    nodes (tree d id.0) + nodes_around d front ≡ nodes (tree b built.0) + nodes_around b old
up_last_counted s b d front old built id head l e a q t =
    let k = count_last s b d front old (Argument head l) e a q in
    let g : nodes (tree d id.0) ≡ nodes (tree b head.0) + nodes (tree b built.0) = ap nodes t in
    omega (arith, k, g)

pub up_head_counted : (b : Nodes) (front old new : List Frame) (built : TermId) (l rest : Span) (c : CellId) (state : State) → old ≡ front ++ Head l ∷ [] → new ≡ front ++ Argument built rest ∷ [] → state ≡ Fresh c →
    nodes_built b state + nodes_around b new ≡ nodes (tree b built.0) + nodes_around b old
up_head_counted b front old new built l rest c state q r z =
    let g : nodes_around b old ≡ nodes_around b (front ++ Head l ∷ []) = ap (nodes_around b) q in
    let k = around_push b front (Head l) in
    let m : nodes_around b new ≡ nodes_around b (front ++ Argument built rest ∷ []) = ap (nodes_around b) r in
    let n = around_push b front (Argument built rest) in
    let y : nodes_built b state ≡ 0 = ap (nodes_built b) z in
    omega (arith, g, k, m, n, y)

pub up_next_counted : (s : Contents) (b d : Nodes) (front old new : List Frame) (built id head : TermId) (l rest : Span) (c : CellId) (state : State) → Extends b d → All (FrameStands s b) front → old ≡ front ++ Argument head l ∷ [] → tree d id.0 ≡ app (tree b head.0) (tree b built.0) →
    new ≡ front ++ Argument id rest ∷ [] → state ≡ Fresh c → nodes_built d state + nodes_around d new ≡ nodes (tree b built.0) + nodes_around b old
up_next_counted s b d front old new built id head l rest c state e a q t r z =
    let k = count_last s b d front old (Argument head l) e a q in
    let m : nodes_around d new ≡ nodes_around d (front ++ Argument id rest ∷ []) = ap (nodes_around d) r in
    let n = around_push d front (Argument id rest) in
    let g : nodes (tree d id.0) ≡ nodes (tree b head.0) + nodes (tree b built.0) = ap nodes t in
    let y : nodes_built d state ≡ 0 = ap (nodes_built d) z in
    omega (arith, k, m, n, g, y)
