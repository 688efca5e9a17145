-- The whole of an expression, by the part at work and the frames around it.
use Rattle.std.proofs.Common.{◌≡◌, ℕ, zero, suc, ◌+◌, ◌<◌, ◌≤◌, inl, inr, List, [], ◌∷◌, refl, sym, ap, ◌∙◌, subst, arith, if◌then◌else◌, Option, Some, None, IsSome}
use Rattle.lp_lemmas.proofs.Options.{IsSome_from}
use Rattle.lp_calculus.specs.Term.{Term, index, atom, abs, app, constant, text}
use Rattle.lp_calculus.specs.Convert.{Reduces, done, then_step, option_term, or_else, head_step, leftmost_step, steps}
use Rattle.lp_calculus.specs.Normal.{IsBetaNormal, IsLarge, nodes}
use Rattle.lp_calculus.proofs.Confluent.{reduces_argument, reduces_app, reduces_pars, confluent}
use Rattle.lp_calculus.proofs.Leftmost.{leftmost_strategy}
use Rattle.lp_standard.specs.Constants.{number}
use Rattle.lp_model.specs.declared.ending.Fault.{Fault}
use Rattle.lp_model.specs.declared.ending.Fault.TheVariants as fault
use Rattle.lp_model.specs.Values.{Value, Is, Faults, both, single, value}
use Rattle.lp_store.specs.Contents.{Contents}
use Rattle.lp_store.specs.Reading.{Reads}
use Rattle.lp_susp.specs.Kept.{Reduced}
use Rattle.lp_susp.proofs.Heads.{all_longer}
use Rattle.lp_susp.proofs.Plugs.{leftmost_beta, head_leftmost}
use Rattle.lp_susp.proofs.Sizes.{normal_only}
use Rattle.lp_arith.specs.declared.value.Value.TheVariants.{Int, Text}
use Rattle.lp_arith.specs.declared.value.Value as heap
use Rattle.lp_arith.specs.declared.evaluation.Around.{Around}
use Rattle.lp_arith.specs.declared.evaluation.Around.TheVariants as around
use Rattle.lp_arith.specs.Meaning.{IsValueIn, HasFault}
use Rattle.lp_arith.specs.inner.Frames.{Framed, Plugged}
use Rattle.lp_arith.proofs.Trees.{value_of, valued_settled, one_reduces, two_reduces, one_normal, left_normal, right_normal, tree_only}

-- a step of the part is one of the whole

frame_step : (s : Contents) (f : Around) (x r w : Term) (n : ℕ) → Framed s f x w n → leftmost_step x ≡ Some r → (v : Term) × (leftmost_step w ≡ Some v) × Framed s f r v n
frame_step s (around.One c) x r w n p e =
    let k = atom (constant (number c) p.0) in
    (app k r, ap leftmost_step p.1 ∙ ap (option_term (app k)) e, (p.0, refl, p.2, p.3))
frame_step s (around.Left c i) x r w n p e =
    let k = atom (constant (number c) p.0) in (
      app (app k r) p.1,
      ap leftmost_step p.3 ∙ ap (λ o. or_else (option_term (λ y. app y p.1) (option_term (app k) o)) (option_term (app (app k x)) (leftmost_step p.1))) e,
      (p.0, p.1, p.2, refl, p.4, p.5),
    )
frame_step s (around.Right c v) x r w n p e =
    let k = atom (constant (number c) p.0) in (
      app (app k p.1) r,
      ap leftmost_step p.5 ∙ ap (λ o. or_else (option_term (λ y. app y x) (option_term (app k) o)) (option_term (app (app k p.1)) (leftmost_step x))) (valued_settled p.4) ∙ ap (option_term (app (app k p.1))) e,
      (p.0, p.1, p.2, p.3, p.4, refl, p.6, p.7),
    )

plugged_step : (s : Contents) (fs : List Around) (x r w : Term) (n : ℕ) → Plugged s fs x w n → leftmost_step x ≡ Some r → (v : Term) × (leftmost_step w ≡ Some v) × Plugged s fs r v n
plugged_step s [] x r w n p e = (r, ap leftmost_step (sym p.0) ∙ e, (refl, p.1))
plugged_step s (f ∷ fs) x r w n p e =
    let a = frame_step s f x r p.0 p.1 p.3 e in
    let b = plugged_step s fs p.0 a.0 w p.2 p.4 a.1 in
    (b.0, b.1, (a.0, p.1, p.2, a.2, b.2, p.5))

first_some : (m : ℕ) (o : Option Term) → IsSome (elim o as (λ y. Option Term) [ None ↦ None | Some y ↦ steps leftmost_step m y ]) → (r : Term) × (o ≡ Some r) × IsSome (steps leftmost_step m r)
first_some m None h = absurd (cc)
first_some m (Some r) h = (r, refl, h)

plugged_steps : (s : Contents) (fs : List Around) (m : ℕ) (x w : Term) (n : ℕ) → Plugged s fs x w n → IsSome (steps leftmost_step m x) → IsSome (steps leftmost_step m w)
plugged_steps s fs zero x w n p h = IsSome_from (Some w) w refl
plugged_steps s fs (suc m) x w n p h =
    let a = first_some m (leftmost_step x) h in
    let b = plugged_step s fs x a.0 w n p a.1 in
    subst IsSome (sym (ap (λ o. elim o as (λ y. Option Term) [ None ↦ None | Some y ↦ steps leftmost_step m y ]) b.1)) (plugged_steps s fs m a.0 b.0 n b.2 a.2)

heads_first : (m : ℕ) (o : Option Term) → IsSome (elim o as (λ y. Option Term) [ None ↦ None | Some y ↦ steps head_step m y ]) → (r : Term) × (o ≡ Some r) × IsSome (steps head_step m r)
heads_first m None h = absurd (cc)
heads_first m (Some r) h = (r, refl, h)

head_steps : (m : ℕ) (x : Term) → IsSome (steps head_step m x) → IsSome (steps leftmost_step m x)
head_steps zero x h = h
head_steps (suc m) x h =
    let a = heads_first m (head_step x) h in
    subst IsSome (sym (ap (λ o. elim o as (λ y. Option Term) [ None ↦ None | Some y ↦ steps leftmost_step m y ]) (head_leftmost x a.0 a.1))) (head_steps m a.0 a.2)

-- too many steps of the part are too many of the whole
pub deep_part : (s : Contents) (fs : List Around) (x w t : Term) (n : ℕ) → Plugged s fs x w n → Reduces t w → IsSome (steps head_step 1000001 x) → IsLarge t
deep_part s fs x w t n p r h = inl (all_longer leftmost_step leftmost_strategy 1000001 (reduces_pars r) (plugged_steps s fs 1000001 x w n p (head_steps 1000001 x h)))

-- while parts are reduced, so is the whole

pub value_kept : (s z : Contents) (v : heap.Value) (m : Value) → Reduced s z → IsValueIn s v m → IsValueIn z v m
value_kept s z (Int i) m d p = p
value_kept s z (Text t) m d p =
    let k = d.terms t.0 (atom (text p.0)) p.2 in
    (p.0, p.1, subst (Reads z t.0) (normal_only k.2 refl) k.1)

frame_kept : (s z : Contents) (f : Around) (x y w : Term) (n : ℕ) → Reduced s z → Reduces x y → Framed s f x w n → (v : Term) × Framed z f y v n × Reduces w v
frame_kept s z (around.One c) x y w n d r p =
    let k = atom (constant (number c) p.0) in
    (app k y, (p.0, refl, p.2, p.3), subst (λ q. Reduces q (app k y)) (sym p.1) (reduces_argument k r))
frame_kept s z (around.Left c i) x y w n d r p =
    let k = atom (constant (number c) p.0) in
    let b = d.terms i.0 p.1 p.2 in
    (app (app k y) b.0, (p.0, b.0, b.1, refl, p.4, p.5), subst (λ q. Reduces q (app (app k y) b.0)) (sym p.3) (reduces_app (reduces_argument k r) b.2))
frame_kept s z (around.Right c v) x y w n d r p =
    let k = atom (constant (number c) p.0) in
    (app (app k p.1) y, (p.0, p.1, p.2, value_kept s z v p.2 d p.3, p.4, refl, p.6, p.7), subst (λ q. Reduces q (app (app k p.1) y)) (sym p.5) (reduces_argument (app k p.1) r))

pub plugged_kept : (s z : Contents) (fs : List Around) (x y w : Term) (n : ℕ) → Reduced s z → Reduces x y → Plugged s fs x w n → (v : Term) × Plugged z fs y v n × Reduces w v
plugged_kept s z [] x y w n d r p = (y, (refl, p.1), subst (λ q. Reduces q y) p.0 r)
plugged_kept s z (f ∷ fs) x y w n d r p =
    let a = frame_kept s z f x y p.0 p.1 d r p.3 in
    let b = plugged_kept s z fs p.0 a.0 w p.2 d a.2 p.4 in
    (b.0, (a.0, p.1, p.2, a.1, b.1, p.5), b.2)

-- a fault of the part is one of the whole

frame_fault : (s : Contents) (f : Around) (x w : Term) (n : ℕ) (q : Fault) → Framed s f x w n → HasFault x q → HasFault w q
frame_fault s (around.One c) x w n q p h = λ v r k.
    let m = one_reduces r (number c) p.0 x p.1 in
    let g = h m.0 m.2 (one_normal (number c) p.0 m.0 (subst IsBetaNormal m.1 k)) in
    ap value m.1 ∙ ap (λ o. if o then single (number c) (value m.0) else Faults fault.NotClosed) p.2 ∙ ap (single (number c)) g
frame_fault s (around.Left c i) x w n q p h = λ v r k.
    let m = two_reduces r (number c) p.0 x p.1 p.3 in
    let g = h m.0 m.3 (left_normal (number c) p.0 m.0 m.1 (subst IsBetaNormal m.2 k)) in
    ap value m.2 ∙ ap (λ o. if o then both (number c) (value m.0) (value m.1) else Faults fault.NotClosed) p.4 ∙ ap (λ o. both (number c) o (value m.1)) g
frame_fault s (around.Right c u) x w n q p h = λ v r k.
    let m = two_reduces r (number c) p.0 p.1 x p.5 in
    let g = h m.1 m.4 (right_normal (number c) p.0 m.0 m.1 (subst IsBetaNormal m.2 k)) in
    let a : value m.0 ≡ Is p.2 = ap value (tree_only p.4 m.3) ∙ value_of p.4 in
    ap value m.2 ∙ ap (λ o. if o then both (number c) (value m.0) (value m.1) else Faults fault.NotClosed) p.6 ∙ ap (λ o. both (number c) o (value m.1)) a ∙ ap (both (number c) (Is p.2)) g

pub plugged_fault : (s : Contents) (fs : List Around) (x w : Term) (n : ℕ) (q : Fault) → Plugged s fs x w n → HasFault x q → HasFault w q
plugged_fault s [] x w n q p h = subst (λ y. HasFault y q) p.0 h
plugged_fault s (f ∷ fs) x w n q p h = plugged_fault s fs p.0 w p.2 q p.4 (frame_fault s f x p.0 p.1 q p.3 h)

-- what a term reduces to has its normal form
normal_on : {t w v : Term} → Reduces t w → Reduces t v → IsBetaNormal v → Reduces w v
normal_on {w = w} r p k = let m = confluent r p in subst (Reduces w) (normal_only m.2 k) m.1

pub fault_above : (t w : Term) (q : Fault) → Reduces t w → HasFault w q → HasFault t q
fault_above t w q r h = λ s p k. h s (normal_on r p k) k

-- the nodes that were visited stay

frame_nodes : (s : Contents) (f : Around) (x w v : Term) (n : ℕ) → Framed s f x w n → Reduces w v → (y : Term) × Reduces x y × (n + nodes y ≤ nodes v)
frame_nodes s (around.One c) x w v n p r =
    let m = one_reduces r (number c) p.0 x p.1 in
    let e : nodes v ≡ 1 + nodes m.0 = ap nodes m.1 in
    (m.0, m.2, omega (arith, e, p.3))
frame_nodes s (around.Left c i) x w v n p r =
    let m = two_reduces r (number c) p.0 x p.1 p.3 in
    let e : nodes v ≡ 1 + nodes m.0 + nodes m.1 = ap nodes m.2 in
    (m.0, m.3, omega (arith, e, p.5))
frame_nodes s (around.Right c u) x w v n p r =
    let m = two_reduces r (number c) p.0 p.1 x p.5 in
    let e : nodes v ≡ 1 + nodes m.0 + nodes m.1 = ap nodes m.2 in
    let a : nodes m.0 ≡ nodes p.1 = ap nodes (tree_only p.4 m.3) in
    (m.1, m.4, omega (arith, e, a, p.7))

plugged_nodes : (s : Contents) (fs : List Around) (x w v : Term) (n : ℕ) → Plugged s fs x w n → Reduces w v → (y : Term) × Reduces x y × (n + nodes y ≤ nodes v)
plugged_nodes s [] x w v n p r = (v, subst (λ q. Reduces q v) (sym p.0) r, omega (arith, p.1))
plugged_nodes s (f ∷ fs) x w v n p r =
    let a = plugged_nodes s fs p.0 w v p.2 p.4 r in
    let b = frame_nodes s f x p.0 a.0 p.1 p.3 a.1 in
    (b.0, b.1, omega (arith, a.2, b.2, p.5))

nodes_some : (t : Term) → 0 < nodes t
nodes_some (index i) = omega arith
nodes_some (atom a) = omega arith
nodes_some (abs b) = omega arith
nodes_some (app t u) = omega (arith, nodes_some t)

steps_reduce : (m : ℕ) (t v : Term) → steps leftmost_step m t ≡ Some v → Reduces t v
steps_reduce zero t v e = (let q : t ≡ v = cc in subst (Reduces t) q (done t))
steps_reduce (suc m) t v e = elim (leftmost_step t) as (λ o. leftmost_step t ≡ o → (elim o as (λ y. Option Term) [ None ↦ None | Some y ↦ steps leftmost_step m y ]) ≡ Some v → Reduces t v) [
  | None ↦ λ p q. absurd (cc)
  | Some r ↦ λ p q. then_step (leftmost_beta t r p) (steps_reduce m r v q)
] refl e

pub full_part : (s : Contents) (fs : List Around) (x w t : Term) (n : ℕ) → Plugged s fs x w n → Reduces t w → n ≡ 1000000 → IsLarge t
full_part s fs x w t n p r e = inr (λ k v h.
    (let m = plugged_nodes s fs x w v n p (normal_on r (steps_reduce k t v h.0) h.1) in
    omega (arith, m.2, nodes_some m.0, e)))
