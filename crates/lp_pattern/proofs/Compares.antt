-- Comparisons of terms, pair by pair: what the definition gives for pairs it gives where their sides are some steps further.
use Rattle.std.proofs.Common.{◌≡◌, ℕ, zero, suc, ◌+◌, ◌≤◌, List, [], ◌∷◌, ◌++◌, length, ◌∙◌, refl, sym, ap, subst as transport, arith, Bool, true, false, Option, Some, None, nat_eq}
use Rattle.std.specs.Prelude.{option_map, option_and_then, ◌&&◌}
use Rattle.lp_calculus.specs.Term.{Term, abs}
use Rattle.lp_calculus.specs.Convert.{steps}
use Rattle.lp_model.specs.Same.{same_name}
use Rattle.lp_model.specs.Look.{Look, an_abs, rigid, flexible, head_normal, look, weak_step}
use Rattle.lp_model.specs.Pair.{Pair}
use Rattle.lp_model.specs.Rule.{Compared, dearer, open_with, type_pairs, argument_pairs, compare_types, compare, compare_looks, compare_all}
use Rattle.lp_pattern.specs.Comparing.{compare_pairs, IsComparedTo, IsRest}
use Rattle.lp_pattern.proofs.Looking.{weak_look, steps_on, look_abs}
use Rattle.lp_unify_laws.proofs.MoreSteps.Scans.{Below, below_none, below_same, below_then, look_more}
use Rattle.lp_unify_laws.proofs.MoreSteps.Rules.{compare_more}
use Rattle.lp_pattern.proofs.PairsCompared.{pairs_more, all_pairs}

-- sides that are some steps further
pub reached_look : (j n : ℕ) (t s : Term) → steps weak_step j t ≡ Some s → Below (look n t) (look n s)
reached_look zero n t s e = (let q : t ≡ s = cc in λ v h. ap (look n) (sym q) ∙ h)
reached_look (suc j) zero t s e = below_none (look zero s)
reached_look (suc j) (suc n) t s e =
    elim (weak_step t) as (λ o. weak_step t ≡ o → (elim o [ None ↦ None | Some u ↦ steps weak_step j u ]) ≡ Some s → Below (look (suc n) t) (look (suc n) s)) [
      | None ↦ λ w p. absurd (cc)
      | Some u ↦ λ w p v h. look_more n (suc n) (omega arith) s v (reached_look j n u s p v (sym (weak_look n t u w) ∙ h))
    ] refl e

mutual
  pub reached_compare : (n k : ℕ) (t t' u u' : Term) (i j : ℕ) → steps weak_step i t ≡ Some t' → steps weak_step j u ≡ Some u' → Below (compare n k t u) (compare n k t' u')
  reached_compare zero k t t' u u' i j e f = below_none (compare zero k t' u')
  reached_compare (suc n) k t t' u u' i j e f =
      below_then (look n t) (look n t') _ _ (reached_look i n t t' e) λ v. below_then (look n u) (look n u') _ _ (reached_look j n u u' f) λ w. reached_looks n k t t' u u' i j e f v w

  reached_looks : (n k : ℕ) (t t' u u' : Term) (i j : ℕ) → steps weak_step i t ≡ Some t' → steps weak_step j u ≡ Some u' → (v w : Look) → Below (compare_looks n k t u v w) (compare_looks n k t' u' v w)
  reached_looks zero k t t' u u' i j e f v w = below_none (compare_looks zero k t' u' v w)
  reached_looks (suc n) k t t' u u' i j e f (an_abs b) w =
      reached_compare n (suc k) (open_with (suc k) t) (open_with (suc k) t') (open_with (suc k) u) (open_with (suc k) u') i j (steps_on i t t' _ e) (steps_on j u u' _ f)
  reached_looks (suc n) k t t' u u' i j e f (rigid g ts) (an_abs c) =
      reached_compare n (suc k) (open_with (suc k) t) (open_with (suc k) t') (open_with (suc k) u) (open_with (suc k) u') i j (steps_on i t t' _ e) (steps_on j u u' _ f)
  reached_looks (suc n) k t t' u u' i j e f (flexible x l ts) (an_abs c) =
      reached_compare n (suc k) (open_with (suc k) t) (open_with (suc k) t') (open_with (suc k) u) (open_with (suc k) u') i j (steps_on i t t' _ e) (steps_on j u u' _ f)
  reached_looks (suc n) k t t' u u' i j e f (rigid g ts) (rigid h us) = below_same _
  reached_looks (suc n) k t t' u u' i j e f (flexible x l ts) (flexible y m us) = below_same _
  reached_looks (suc n) k t t' u u' i j e f (rigid g ts) (flexible y m us) = below_same _
  reached_looks (suc n) k t t' u u' i j e f (flexible x l ts) (rigid g us) = below_same _

-- what is behind an answer
pub from_bind : {A B : Type 0} (f : A → Option B) (o : Option A) (d : B) → option_and_then f o ≡ Some d → (x : A) × (o ≡ Some x) × (f x ≡ Some d)
from_bind f None d e = absurd (cc)
from_bind f (Some x) d e = (x, refl, e)

pub from_map : {A B : Type 0} (f : A → B) (o : Option A) (d : B) → option_map f o ≡ Some d → (x : A) × (o ≡ Some x) × (d ≡ f x)
from_map f None d e = absurd (cc)
from_map f (Some x) d e = (x, refl, (cc))

seen_abs : (n : ℕ) (b : Term) (v : Look) → look n (abs b) ≡ Some v → (c : Term) × (v ≡ an_abs c)
seen_abs n b v e = let m = from_map an_abs (head_normal n b) v (sym (look_abs n b) ∙ e) in (m.0, m.2)

-- an abstraction on one side
left_opened : (n k : ℕ) (b u : Term) → Below (compare n k (abs b) u) (compare n (suc k) (open_with (suc k) (abs b)) (open_with (suc k) u))
left_opened zero k b u = below_none (compare zero (suc k) (open_with (suc k) (abs b)) (open_with (suc k) u))
left_opened (suc n) k b u = λ d e.
    let v = from_bind _ (look n (abs b)) d e in
    let w = from_bind _ (look n u) d v.2 in
    let c = seen_abs n b v.0 v.1 in
    go n d c.0 w.0 (transport (λ x. compare_looks n k (abs b) u x w.0 ≡ Some d) c.1 w.2)
  where
    go : (n : ℕ) (d : Compared) (c : Term) (w : Look) → compare_looks n k (abs b) u (an_abs c) w ≡ Some d → compare (suc n) (suc k) (open_with (suc k) (abs b)) (open_with (suc k) u) ≡ Some d
    go zero d c w e = absurd (cc)
    go (suc m) d c w e = compare_more m (suc (suc m)) (omega arith) (suc k) (open_with (suc k) (abs b)) (open_with (suc k) u) d e

right_opened : (n k : ℕ) (t b : Term) → Below (compare n k t (abs b)) (compare n (suc k) (open_with (suc k) t) (open_with (suc k) (abs b)))
right_opened zero k t b = below_none (compare zero (suc k) (open_with (suc k) t) (open_with (suc k) (abs b)))
right_opened (suc n) k t b = λ d e.
    let v = from_bind _ (look n t) d e in
    let w = from_bind _ (look n (abs b)) d v.2 in
    let c = seen_abs n b w.0 w.1 in
    go n d v.0 c.0 (transport (λ x. compare_looks n k t (abs b) v.0 x ≡ Some d) c.1 w.2)
  where
    go : (n : ℕ) (d : Compared) (v : Look) (c : Term) → compare_looks n k t (abs b) v (an_abs c) ≡ Some d → compare (suc n) (suc k) (open_with (suc k) t) (open_with (suc k) (abs b)) ≡ Some d
    go zero d v c e = absurd (cc)
    go (suc m) d (an_abs a) c e = compare_more m (suc (suc m)) (omega arith) (suc k) (open_with (suc k) t) (open_with (suc k) (abs b)) d e
    go (suc m) d (rigid h ts) c e = compare_more m (suc (suc m)) (omega arith) (suc k) (open_with (suc k) t) (open_with (suc k) (abs b)) d e
    go (suc m) d (flexible x l ts) c e = compare_more m (suc (suc m)) (omega arith) (suc k) (open_with (suc k) t) (open_with (suc k) (abs b)) d e

-- a pair that gives way to one that comes to the same
pub pairs_same : (n : ℕ) (p q : Pair) (ps : List Pair) → Below (compare n p.level p.left p.right) (compare n q.level q.left q.right) → Below (compare_pairs n (p ∷ ps)) (compare_pairs n (q ∷ ps))
pairs_same n p q ps h = below_then (compare n p.level p.left p.right) (compare n q.level q.left q.right) _ _ h (λ c. below_same _)

rest_same : (old : ℕ) (o o' : Option Compared) → Below o o' → IsRest old old o o'
rest_same old o o' h = λ r e. (r, h r e, refl, refl)

-- the first pair and those behind it
pub data First (n : ℕ) (p : Pair) (ps : List Pair) (d : Compared) : Type 0 where
  goes_on : (c s : Compared) → compare n p.level p.left p.right ≡ Some c → c.same ≡ true → compare_pairs n ps ≡ Some s → d ≡ dearer c.units s → First n p ps d
  ends : (c : Compared) → compare n p.level p.left p.right ≡ Some c → c.same ≡ false → d ≡ c → First n p ps d

abbrev behind : ℕ → List Pair → Compared → Bool → Option Compared
behind n ps c b = elim b [ true ↦ option_map (dearer c.units) (compare_pairs n ps) | false ↦ Some c ]

pub first : (n : ℕ) (p : Pair) (ps : List Pair) (d : Compared) → compare_pairs n (p ∷ ps) ≡ Some d → First n p ps d
first n p ps d e = let c = from_bind _ (compare n p.level p.left p.right) d e in go c.0 c.1 c.0.same refl c.2
  where
    go : (c : Compared) → compare n p.level p.left p.right ≡ Some c → (b : Bool) → c.same ≡ b → behind n ps c c.same ≡ Some d → First n p ps d
    go c q true h f = let s = from_map (dearer c.units) (compare_pairs n ps) d (ap (behind n ps c) (sym h) ∙ f) in goes_on c s.0 q h s.1 s.2
    go c q false h f = let r : Some c ≡ Some d = ap (behind n ps c) (sym h) ∙ f in ends c q h (cc)

with_first : (n : ℕ) (p : Pair) (ps : List Pair) (c : Compared) → compare n p.level p.left p.right ≡ Some c → compare_pairs n (p ∷ ps) ≡ behind n ps c c.same
with_first n p ps c e = ap (option_and_then (λ c. behind n ps c c.same)) e

-- what pairs in the place of the first come to
replaced_on : (n : ℕ) (qs ps : List Pair) (a s : Compared) → compare_pairs n qs ≡ Some a → a.same ≡ true → compare_pairs n ps ≡ Some s →
    (r : Compared) × (compare_pairs n (qs ++ ps) ≡ Some r) × (r.same ≡ s.same) × (r.units ≡ a.units + s.units)
replaced_on n [] ps a s e h f =
    let q : record { same = true; units = 0 } ≡ a = cc in
    let z : 0 ≡ a.units = ap (λ c. c.units) q in
    (s, f, refl, omega (arith, z))
replaced_on n (q ∷ qs) ps a s e h f = go (first n q qs a e) (λ t j i. replaced_on n qs ps t s j i f)
  where
    go : First n q qs a → ((t : Compared) → compare_pairs n qs ≡ Some t → t.same ≡ true → (r : Compared) × (compare_pairs n (qs ++ ps) ≡ Some r) ×
        (r.same ≡ s.same) × (r.units ≡ t.units + s.units)) → (r : Compared) × (compare_pairs n (q ∷ (qs ++ ps)) ≡ Some r) × (r.same ≡ s.same) ×
        (r.units ≡ a.units + s.units)
    go (goes_on c t g i j k) ih =
        let same : t.same ≡ true = sym (ap (λ x. x.same) k) ∙ h in
        let w = ih t j same in (
          dearer c.units w.0,
          with_first n q (qs ++ ps) c g ∙ ap (behind n (qs ++ ps) c) i ∙ ap (option_map (dearer c.units)) w.1,
          w.2,
          omega (arith, w.3, ap (λ x. x.units) k),
        )
    go (ends c g i k) ih = absurd (let x : false ≡ true = sym i ∙ sym (ap (λ x. x.same) k) ∙ h in cc)

replaced_ends : (n : ℕ) (qs ps : List Pair) (a : Compared) → compare_pairs n qs ≡ Some a → a.same ≡ false → compare_pairs n (qs ++ ps) ≡ Some a
replaced_ends n [] ps a e h = absurd (let q : record { same = true; units = 0 } ≡ a = cc in let x : true ≡ false = ap (λ c. c.same) q ∙ h in cc)
replaced_ends n (q ∷ qs) ps a e h = go (first n q qs a e) (λ t j i. replaced_ends n qs ps t j i)
  where
    go : First n q qs a → ((t : Compared) → compare_pairs n qs ≡ Some t → t.same ≡ false → compare_pairs n (qs ++ ps) ≡ Some t) → compare_pairs n (q ∷ (qs ++ ps)) ≡ Some a
    go (goes_on c t g i j k) ih =
        with_first n q (qs ++ ps) c g ∙ ap (behind n (qs ++ ps) c) i ∙
        ap (option_map (dearer c.units)) (ih t j (sym (ap (λ x. x.same) k) ∙ h)) ∙ ap (λ x. Some x) (sym k)
    go (ends c g i k) ih = with_first n q (qs ++ ps) c g ∙ ap (behind n (qs ++ ps) c) i ∙ ap (λ x. Some x) (sym k)

pub rest_in_front : (old now n : ℕ) (p : Pair) (qs ps : List Pair) → IsRest old now (compare n p.level p.left p.right) (compare_pairs n qs) → IsRest old now (compare_pairs n (p ∷ ps)) (compare_pairs n (qs ++ ps))
rest_in_front old now n p qs ps h = λ d e. go d (first n p ps d e)
  where
    go : (d : Compared) → First n p ps d → (s : Compared) × (compare_pairs n (qs ++ ps) ≡ Some s) × (d.same ≡ s.same) × (d.units + now ≡ s.units + old)
    go d (goes_on c s g i j k) =
        let a = h c g in
        let w = replaced_on n qs ps a.0 s a.1 (sym a.2 ∙ i) j in
        (w.0, w.1, ap (λ x. x.same) k ∙ sym w.2, omega (arith, w.3, a.3, ap (λ x. x.units) k))
    go d (ends c g i k) =
        let a = h c g in
        (a.0, replaced_ends n qs ps a.0 a.1 (sym a.2 ∙ i), ap (λ x. x.same) k ∙ a.2, omega (arith, a.3, ap (λ x. x.units) k))

pub first_differs : (old now n : ℕ) (p : Pair) (ps : List Pair) → IsComparedTo false old now (compare n p.level p.left p.right) → IsComparedTo false old now (compare_pairs n (p ∷ ps))
first_differs old now n p ps h = λ d e. go d (first n p ps d e)
  where
    go : (d : Compared) → First n p ps d → (false ≡ d.same) × (old ≡ d.units + now)
    go d (goes_on c s g i j k) = absurd (let x : false ≡ true = (h c g).0 ∙ i in cc)
    go d (ends c g i k) = let a = h c g in (sym i ∙ sym (ap (λ x. x.same) k), omega (arith, a.1, ap (λ x. x.units) k))

-- the looks at both sides are known
pub by_looks : (n k : ℕ) (t u t' u' : Term) (i j : ℕ) (v w : Look) → steps weak_step i t ≡ Some t' → steps weak_step j u ≡ Some u' →
    ((m : ℕ) → look (suc m) t' ≡ Some v) → ((m : ℕ) → look (suc m) u' ≡ Some w) → (c : Compared) → compare n k t u ≡ Some c →
    (m : ℕ) × (m ≤ n) × (compare_looks (suc m) k t' u' v w ≡ Some c)
by_looks zero k t u t' u' i j v w e f a b c q = absurd (cc)
by_looks (suc zero) k t u t' u' i j v w e f a b c q =
    let x : None ≡ Some c = reached_compare (suc zero) k t t' u u' i j e f c q in absurd (cc)
by_looks (suc (suc m)) k t u t' u' i j v w e f a b c q =
    let x = from_bind (λ v. option_and_then (λ w. compare_looks (suc m) k t' u' v w) (look (suc m) u')) (look (suc m) t') c (reached_compare (suc (suc m)) k t t' u u' i j e f c q) in
    let y = from_bind (λ w. compare_looks (suc m) k t' u' x.0 w) (look (suc m) u') c x.2 in
    let p : Some v ≡ Some x.0 = sym (a m) ∙ x.1 in
    let r : Some w ≡ Some y.0 = sym (b m) ∙ y.1 in
    let vx : x.0 ≡ v = cc in
    let wy : y.0 ≡ w = cc in
    (m, omega arith, transport (λ z. compare_looks (suc m) k t' u' z w ≡ Some c) vx (transport (λ z. compare_looks (suc m) k t' u' x.0 z ≡ Some c) wy y.2))

abbrev differing : Option Compared
differing = Some (record { same = false; units = 1 })

-- tops that differ take a unit
one_unit : (old now : ℕ) (c : Compared) → old ≡ suc now → differing ≡ Some c → (false ≡ c.same) × (old ≡ c.units + now)
one_unit old now c u e =
    let q : record { same = false; units = 1 } ≡ c = cc in
    (ap (λ x. x.same) q, let z : 1 ≡ c.units = ap (λ x. x.units) q in omega (arith, u, z))

abbrev after_types : ℕ → ℕ → List Term → List Term → Compared → Bool → Option Compared
after_types n k ts us c b = elim b [ true ↦ option_map (dearer (suc c.units)) (compare_all n k ts us) | false ↦ Some (dearer 1 c) ]

abbrev after_names : ℕ → ℕ → Term → List Term → Term → List Term → Bool → Option Compared
after_names n k h ts g us b = elim b [ true ↦ option_and_then (λ c. after_types n k ts us c c.same) (compare_types n (type_pairs h g)) | false ↦ differing ]

abbrev after_variables : ℕ → ℕ → List Term → List Term → Bool → Option Compared
after_variables n k ts us b = elim b [ true ↦ option_map (dearer 1) (compare_all n k ts us) | false ↦ differing ]

-- two rigid heads: they are the same, or their types differ, or they do
pub rigid_same : (u0 u1 u2 n k : ℕ) (t u t' u' h g : Term) (ts us : List Term) (i j : ℕ) → steps weak_step i t ≡ Some t' → steps weak_step j u ≡ Some u' →
    ((m : ℕ) → look (suc m) t' ≡ Some (rigid h ts)) → ((m : ℕ) → look (suc m) u' ≡ Some (rigid g us)) → u0 ≡ suc u1 →
    (same_name h g && nat_eq (length ts) (length us)) ≡ true → ((m : ℕ) → IsComparedTo true u1 u2 (compare_types m (type_pairs h g))) →
    IsRest u0 u2 (compare n k t u) (compare_pairs n (argument_pairs k ts us))
rigid_same u0 u1 u2 n k t u t' u' h g ts us i j e f a b z same types = λ c q.
    let w = by_looks n k t u t' u' i j (rigid h ts) (rigid g us) e f a b c q in
    let x = from_bind (λ c. after_types w.0 k ts us c c.same) (compare_types w.0 (type_pairs h g)) c (ap (after_names w.0 k h ts g us) (sym same) ∙ w.2) in
    let y = types w.0 x.0 x.1 in
    let m = from_map (dearer (suc x.0.units)) (compare_all w.0 k ts us) c (ap (after_types w.0 k ts us x.0) y.0 ∙ x.2) in
    (m.0, pairs_more w.0 n w.1 (argument_pairs k ts us) m.0 (all_pairs w.0 k ts us m.0 m.1), ap (λ r. r.same) m.2, omega (arith, ap (λ r. r.units) m.2, y.1, z))

pub rigid_types_differ : (u0 u1 u2 n k : ℕ) (t u t' u' h g : Term) (ts us : List Term) (i j : ℕ) → steps weak_step i t ≡ Some t' → steps weak_step j u ≡ Some u' →
    ((m : ℕ) → look (suc m) t' ≡ Some (rigid h ts)) → ((m : ℕ) → look (suc m) u' ≡ Some (rigid g us)) → u0 ≡ suc u1 →
    (same_name h g && nat_eq (length ts) (length us)) ≡ true → ((m : ℕ) → IsComparedTo false u1 u2 (compare_types m (type_pairs h g))) →
    IsComparedTo false u0 u2 (compare n k t u)
rigid_types_differ u0 u1 u2 n k t u t' u' h g ts us i j e f a b z same types = λ c q.
    let w = by_looks n k t u t' u' i j (rigid h ts) (rigid g us) e f a b c q in
    let x = from_bind (λ c. after_types w.0 k ts us c c.same) (compare_types w.0 (type_pairs h g)) c (ap (after_names w.0 k h ts g us) (sym same) ∙ w.2) in
    let y = types w.0 x.0 x.1 in
    let m : Some (dearer 1 x.0) ≡ Some c = ap (after_types w.0 k ts us x.0) y.0 ∙ x.2 in
    let r : dearer 1 x.0 ≡ c = cc in
    (y.0 ∙ ap (λ d. d.same) r, omega (arith, ap (λ d. d.units) r, y.1, z))

pub rigid_apart : (u0 u1 n k : ℕ) (t u t' u' h g : Term) (ts us : List Term) (i j : ℕ) → steps weak_step i t ≡ Some t' → steps weak_step j u ≡ Some u' →
    ((m : ℕ) → look (suc m) t' ≡ Some (rigid h ts)) → ((m : ℕ) → look (suc m) u' ≡ Some (rigid g us)) → u0 ≡ suc u1 →
    (same_name h g && nat_eq (length ts) (length us)) ≡ false → IsComparedTo false u0 u1 (compare n k t u)
rigid_apart u0 u1 n k t u t' u' h g ts us i j e f a b z apart = λ c q.
    let w = by_looks n k t u t' u' i j (rigid h ts) (rigid g us) e f a b c q in
    one_unit u0 u1 c z (ap (after_names w.0 k h ts g us) (sym apart) ∙ w.2)

-- two variables
pub flexible_same : (u0 u1 n k : ℕ) (t u t' u' : Term) (x l y m : ℕ) (ts us : List Term) (i j : ℕ) → steps weak_step i t ≡ Some t' → steps weak_step j u ≡ Some u' →
    ((m : ℕ) → look (suc m) t' ≡ Some (flexible x l ts)) → ((o : ℕ) → look (suc o) u' ≡ Some (flexible y m us)) → u0 ≡ suc u1 →
    (nat_eq x y && nat_eq l m && nat_eq (length ts) (length us)) ≡ true → IsRest u0 u1 (compare n k t u) (compare_pairs n (argument_pairs k ts us))
flexible_same u0 u1 n k t u t' u' x l y m ts us i j e f a b z same = λ c q.
    let w = by_looks n k t u t' u' i j (flexible x l ts) (flexible y m us) e f a b c q in
    let r = from_map (dearer 1) (compare_all w.0 k ts us) c (ap (after_variables w.0 k ts us) (sym same) ∙ w.2) in
    (r.0, pairs_more w.0 n w.1 (argument_pairs k ts us) r.0 (all_pairs w.0 k ts us r.0 r.1), ap (λ d. d.same) r.2, omega (arith, ap (λ d. d.units) r.2, z))

pub flexible_apart : (u0 u1 n k : ℕ) (t u t' u' : Term) (x l y m : ℕ) (ts us : List Term) (i j : ℕ) → steps weak_step i t ≡ Some t' → steps weak_step j u ≡ Some u' →
    ((m : ℕ) → look (suc m) t' ≡ Some (flexible x l ts)) → ((o : ℕ) → look (suc o) u' ≡ Some (flexible y m us)) → u0 ≡ suc u1 →
    (nat_eq x y && nat_eq l m && nat_eq (length ts) (length us)) ≡ false → IsComparedTo false u0 u1 (compare n k t u)
flexible_apart u0 u1 n k t u t' u' x l y m ts us i j e f a b z apart = λ c q.
    let w = by_looks n k t u t' u' i j (flexible x l ts) (flexible y m us) e f a b c q in
    one_unit u0 u1 c z (ap (after_variables w.0 k ts us) (sym apart) ∙ w.2)

-- a variable beside a rigid head
pub mixed_left : (u0 u1 n k : ℕ) (t u t' u' g : Term) (x l : ℕ) (ts us : List Term) (i j : ℕ) → steps weak_step i t ≡ Some t' → steps weak_step j u ≡ Some u' →
    ((m : ℕ) → look (suc m) t' ≡ Some (flexible x l ts)) → ((o : ℕ) → look (suc o) u' ≡ Some (rigid g us)) → u0 ≡ suc u1 → IsComparedTo false u0 u1 (compare n k t u)
mixed_left u0 u1 n k t u t' u' g x l ts us i j e f a b z = λ c q. let w = by_looks n k t u t' u' i j (flexible x l ts) (rigid g us) e f a b c q in one_unit u0 u1 c z w.2

pub mixed_right : (u0 u1 n k : ℕ) (t u t' u' h : Term) (y m : ℕ) (ts us : List Term) (i j : ℕ) → steps weak_step i t ≡ Some t' → steps weak_step j u ≡ Some u' →
    ((m : ℕ) → look (suc m) t' ≡ Some (rigid h ts)) → ((o : ℕ) → look (suc o) u' ≡ Some (flexible y m us)) → u0 ≡ suc u1 → IsComparedTo false u0 u1 (compare n k t u)
mixed_right u0 u1 n k t u t' u' h y m ts us i j e f a b z = λ c q. let w = by_looks n k t u t' u' i j (rigid h ts) (flexible y m us) e f a b c q in one_unit u0 u1 c z w.2

-- an abstraction on either side
pub opened_left : (old n k : ℕ) (t u b u' : Term) (i j : ℕ) (ps : List Pair) → steps weak_step i t ≡ Some (abs b) → steps weak_step j u ≡ Some u' →
    IsRest old old (compare_pairs n (record { left = t; right = u; level = k } ∷ ps)) (compare_pairs n (record { left = open_with (suc k) (abs b); right = open_with (suc k) u'; level = suc k } ∷ ps))
opened_left old n k t u b u' i j ps e f =
    rest_same old _ _
    (pairs_same n (record { left = t; right = u; level = k }) (record { left = open_with (suc k) (abs b); right = open_with (suc k) u'; level = suc k }) ps
    (λ c q. left_opened n k b u' c (reached_compare n k t (abs b) u u' i j e f c q)))

pub opened_right : (old n k : ℕ) (t u t' b : Term) (i j : ℕ) (ps : List Pair) → steps weak_step i t ≡ Some t' → steps weak_step j u ≡ Some (abs b) →
    IsRest old old (compare_pairs n (record { left = t; right = u; level = k } ∷ ps)) (compare_pairs n (record { left = open_with (suc k) t'; right = open_with (suc k) (abs b); level = suc k } ∷ ps))
opened_right old n k t u t' b i j ps e f =
    rest_same old _ _
    (pairs_same n (record { left = t; right = u; level = k }) (record { left = open_with (suc k) t'; right = open_with (suc k) (abs b); level = suc k }) ps
    (λ c q. right_opened n k t' b c (reached_compare n k t t' u (abs b) i j e f c q)))

-- what is left of what is left
pub rest_then : (a b c : ℕ) (o p q : Option Compared) → IsRest a b o p → IsRest b c p q → IsRest a c o q
rest_then a b c o p q h k = λ r e. let s = h r e in let w = k s.0 s.1 in (w.0, w.1, s.2 ∙ w.2, omega (arith, s.3, w.3))

pub rest_compared : (a b c : ℕ) (same : Bool) (o p : Option Compared) → IsRest a b o p → IsComparedTo same b c p → IsComparedTo same a c o
rest_compared a b c same o p h k = λ r e. let s = h r e in let w = k s.0 s.1 in (w.0 ∙ sym s.2, omega (arith, s.3, w.1))
