-- More steps change no answer of the rules of unification.
use Rattle.std.proofs.Common.{ℕ, zero, suc, ◌+◌, ◌≤◌, List, [], ◌∷◌, ◌++◌, map, length, arith, Bool, true, false, Option, Some, None}
use Rattle.std.specs.Prelude.{option_map, option_and_then, nat_eq, ◌&&◌}
use Rattle.lp_calculus.specs.Term.{Term, atom, app, apply, substitute, eigen, logic}
use Rattle.lp_calculus.specs.Fill.{abstraction, put}
use Rattle.lp_model.specs.Patterns.{eigens}
use Rattle.lp_model.specs.Same.{same_name}
use Rattle.lp_model.specs.Look.{Look, an_abs, rigid, flexible, look, pattern_of}
use Rattle.lp_model.specs.Types.{TypePair, TypeBinding, TypeVerdict, differ, parts, bound, TypeOutcome, none as no_types_solve, type_rule, same_top, put_in_pair, solve_types}
use Rattle.lp_model.specs.Pair.{Pair}
use Rattle.lp_model.specs.Scan.{Side, Scanned, broken, whole, scan, Pattern, first_misfit, renewal, Pruned, led_by, prune, settle, settle_all}
use Rattle.lp_model.specs.Rule.{Compared, dearer, open_with, type_pairs, compare_types, compare, compare_looks, compare_all, Ruled, ruled, decompose, with_types, joined, has_head, solve_for, by_pattern, pattern_side, by_rule_5, by_rule_4, dear, by_looks, rule, fails, gives, delays, binds, bound as made_by}
use Rattle.lp_unify_laws.proofs.MoreSteps.Scans.{Below, below_none, below_same, below_then, below_map, look_more, pattern_more, scan_more}

pub below_if : {A : Type 0} (b : Bool) (x x' y y' : Option A) → Below x x' → Below y y' → Below (elim b [ true ↦ x | false ↦ y ]) (elim b [ true ↦ x' | false ↦ y' ])
below_if true x x' y y' p q = p
below_if false x x' y y' p q = q

pub types_more : (n m : ℕ) → n ≤ m → (ps : List TypePair) (made : List TypeBinding) (u : ℕ) → Below (solve_types n ps made u) (solve_types m ps made u)
types_more zero m h ps made u = below_none (solve_types m ps made u)
types_more (suc n) zero h ps made u = absurd (omega arith)
types_more (suc n) (suc m) h [] made u = below_same _
types_more (suc n) (suc m) h (p ∷ ps) made u = go (type_rule p.left p.right).verdict (type_rule p.left p.right).units (λ qs b v. types_more n m (omega arith) qs b v)
  where
    go : (w : TypeVerdict) (k : ℕ) → ((qs : List TypePair) (b : List TypeBinding) (v : ℕ) → Below (solve_types n qs b v) (solve_types m qs b v)) →
        Below {A = TypeOutcome} (elim w [
          | differ ↦ Some (no_types_solve (suc u + k))
          | parts qs ↦ solve_types n (qs ++ ps) made (suc u + k)
          | bound b
              ↦ solve_types n (map (put_in_pair b) ps) (made ++ b ∷ []) (suc u + k)
        ]) (elim w [
          | differ ↦ Some (no_types_solve (suc u + k))
          | parts qs ↦ solve_types m (qs ++ ps) made (suc u + k)
          | bound b ↦ solve_types m
              (map (put_in_pair b) ps) (made ++ b ∷ []) (suc u + k)
        ])
    go differ k ih = below_same _
    go (parts qs) k ih = ih (qs ++ ps) made (suc u + k)
    go (bound b) k ih = ih (map (put_in_pair b) ps) (made ++ b ∷ []) (suc u + k)

pub compare_types_more : (n m : ℕ) → n ≤ m → (ps : List TypePair) → Below (compare_types n ps) (compare_types m ps)
compare_types_more zero m h ps = below_none (compare_types m ps)
compare_types_more (suc n) zero h ps = absurd (omega arith)
compare_types_more (suc n) (suc m) h [] = below_same _
compare_types_more (suc n) (suc m) h (p ∷ ps) = go (same_top p.left p.right) (λ qs. compare_types_more n m (omega arith) qs)
  where
    go : (o : Option (List TypePair)) → ((qs : List TypePair) → Below (compare_types n qs) (compare_types m qs)) → Below {A = Compared}
        (elim o [ None ↦ Some (record { same = false; units = 1 }) | Some qs ↦ option_map (dearer 1) (compare_types n (qs ++ ps)) ])
        (elim o [ None ↦ Some (record { same = false; units = 1 }) | Some qs ↦ option_map (dearer 1) (compare_types m (qs ++ ps)) ])
    go None ih = below_same _
    go (Some qs) ih = below_map (compare_types n (qs ++ ps)) (compare_types m (qs ++ ps)) (dearer 1) (ih (qs ++ ps))

differing : Option Compared
differing = Some (record { same = false; units = 1 })

mutual
  unfolding differing

  pub compare_more : (n m : ℕ) → n ≤ m → (k : ℕ) (t u : Term) → Below (compare n k t u) (compare m k t u)
  compare_more zero m h k t u = below_none (compare m k t u)
  compare_more (suc n) zero h k t u = absurd (omega arith)
  compare_more (suc n) (suc m) h k t u = below_then (look n t) (look m t) _ _ (look_more n m (omega arith) t) λ v. below_then (look n u) (look m u) _ _ (look_more n m (omega arith) u) λ w. compare_looks_more n m (omega arith) k t u v w

  pub compare_looks_more : (n m : ℕ) → n ≤ m → (k : ℕ) (t u : Term) (v w : Look) → Below (compare_looks n k t u v w) (compare_looks m k t u v w)
  compare_looks_more zero m h k t u v w = below_none (compare_looks m k t u v w)
  compare_looks_more (suc n) zero h k t u v w = absurd (omega arith)
  compare_looks_more (suc n) (suc m) h k t u (an_abs b) w = compare_more n m (omega arith) (suc k) (open_with (suc k) t) (open_with (suc k) u)
  compare_looks_more (suc n) (suc m) h k t u (rigid g ts) (an_abs c) = compare_more n m (omega arith) (suc k) (open_with (suc k) t) (open_with (suc k) u)
  compare_looks_more (suc n) (suc m) h k t u (flexible x l ts) (an_abs c) = compare_more n m (omega arith) (suc k) (open_with (suc k) t) (open_with (suc k) u)
  compare_looks_more (suc n) (suc m) h k t u (rigid g ts) (rigid f us) = below_if (same_name g f && nat_eq (length ts) (length us)) _ _ _ _
      (below_then (compare_types n (type_pairs g f)) (compare_types m (type_pairs g f)) _ _ (compare_types_more n m (omega arith) (type_pairs g f))
      (λ c. below_if c.same _ _ _ _ (below_map (compare_all n k ts us) (compare_all m k ts us) (dearer (suc c.units))
      (compare_all_more n m (omega arith) k ts us)) (below_same (Some (dearer 1 c))))) (below_same differing)
  compare_looks_more (suc n) (suc m) h k t u (flexible x l ts) (flexible y j us) = below_if (nat_eq x y && nat_eq l j && nat_eq (length ts) (length us)) _ _ _ _ (below_map (compare_all n k ts us) (compare_all m k ts us) (dearer 1) (compare_all_more n m (omega arith) k ts us)) (below_same differing)
  compare_looks_more (suc n) (suc m) h k t u (rigid g ts) (flexible y j us) = below_same differing
  compare_looks_more (suc n) (suc m) h k t u (flexible x l ts) (rigid g us) = below_same differing

  pub compare_all_more : (n m : ℕ) → n ≤ m → (k : ℕ) (ts us : List Term) → Below (compare_all n k ts us) (compare_all m k ts us)
  compare_all_more zero m h k ts us = below_none (compare_all m k ts us)
  compare_all_more (suc n) zero h k ts us = absurd (omega arith)
  compare_all_more (suc n) (suc m) h k [] us = below_same _
  compare_all_more (suc n) (suc m) h k (t ∷ ts) [] = below_same _
  compare_all_more (suc n) (suc m) h k (t ∷ ts) (u ∷ us) = below_then (compare n k t u) (compare m k t u) _ _ (compare_more n m (omega arith) k t u)
      (λ c. below_if c.same _ _ _ _ (below_map (compare_all n k ts us) (compare_all m k ts us) (dearer c.units)
      (compare_all_more n m (omega arith) k ts us)) (below_same (Some c)))

below_misfit : {A : Type 0} (o : Option Pattern) (x x' : Option A) (f f' : Pattern → Option A) → Below x x' → ((p : Pattern) → Below (f p) (f' p)) → Below (elim o [ None ↦ x | Some p ↦ f p ]) (elim o [ None ↦ x' | Some p ↦ f' p ])
below_misfit None x x' f f' p q = p
below_misfit (Some a) x x' f f' p q = q a

pub prune_more : (n m : ℕ) → n ≤ m → (s : Side) (next : ℕ) (t : Term) → Below (prune n s next t) (prune m s next t)
prune_more zero m h s next t = below_none (prune m s next t)
prune_more (suc n) zero h s next t = absurd (omega arith)
prune_more (suc n) (suc m) h s next t = below_then (scan n s false s.pair t) (scan m s false s.pair t) _ _ (scan_more n m (omega arith) s false s.pair t) λ r. go r (λ p. prune_more n m (omega arith) s (suc next) (put (renewal s next p) t))
  where
    go : (r : Scanned) → ((p : Pattern) → Below (prune n s (suc next) (put (renewal s next p) t)) (prune m s (suc next) (put (renewal s next p) t))) →
        Below {A = Pruned} (elim r [
          | broken u ↦ None
          | whole u true ps ↦ None
          | whole u false ps ↦ elim (first_misfit s ps) [
            | None ↦ Some (record { bindings = []; next = next; term = t })
            | Some p ↦ option_map (led_by (renewal s next p))
                (prune n s (suc next) (put (renewal s next p) t))
          ]
        ]) (elim r [
          | broken u ↦ None
          | whole u true ps ↦ None
          | whole u false ps ↦ elim
              (first_misfit s ps) [
                | None ↦ Some (record { bindings = []; next = next; term = t })
                | Some p ↦ option_map (led_by (renewal s next p))
                    (prune m s (suc next) (put (renewal s next p) t))
              ]
        ])
    go (broken u) ih = below_same None
    go (whole u true ps) ih = below_same None
    go (whole u false ps) ih = below_misfit (first_misfit s ps) _ _ _ _ (below_same _) (λ p. below_map (prune n s (suc next) (put (renewal s next p) t)) (prune m s (suc next) (put (renewal s next p) t)) (led_by (renewal s next p)) (ih p))

below_pattern : {A : Type 0} (o : Option (List ℕ)) (x x' : List ℕ → Option A) (y y' : Option A) → ((b : List ℕ) → Below (x b) (x' b)) → Below y y' → Below (elim o [ Some b ↦ x b | None ↦ y ]) (elim o [ Some b ↦ x' b | None ↦ y' ])
below_pattern None x x' y y' p q = q
below_pattern (Some b) x x' y y' p q = p b

pub settle_look : (n m : ℕ) → n ≤ m → (k : ℕ) (v : Look) → ((u : Term) → Below (settle n (suc k) u) (settle m (suc k) u)) →
    ((g : Term) (ts : List Term) → Below (settle_all n k g ts) (settle_all m k g ts)) → Below {A = Term}
    (elim v [
      | an_abs b ↦ option_map (abstraction (suc k)) (settle n (suc k) (substitute (atom (eigen (suc k))) b))
      | rigid h ts ↦ settle_all n k h ts
      | flexible y l ts ↦ option_and_then (λ o. elim o [
        | Some b ↦ Some (apply (atom (logic y l)) (eigens b))
        | None ↦ settle_all n k (atom (logic y l))
            ts
      ]) (pattern_of n l ts)
    ]) (elim v [
      | an_abs b ↦ option_map (abstraction (suc k)) (settle m (suc k) (substitute (atom (eigen (suc k))) b))
      | rigid h ts ↦ settle_all m k h ts
      | flexible y l ts ↦ option_and_then (λ o. elim o
          [ Some b ↦ Some (apply (atom (logic y l)) (eigens b)) | None ↦ settle_all m k (atom (logic y l)) ts ]) (pattern_of m l ts)
    ])
settle_look n m l k (an_abs b) p q = below_map (settle n (suc k) (substitute (atom (eigen (suc k))) b)) (settle m (suc k) (substitute (atom (eigen (suc k))) b)) (abstraction (suc k)) (p (substitute (atom (eigen (suc k))) b))
settle_look n m l k (rigid h ts) p q = q h ts
settle_look n m l k (flexible y j ts) p q = below_then (pattern_of n j ts) (pattern_of m j ts) _ _ (pattern_more n m l j ts) (λ o. below_pattern o _ _ _ _ (λ b. below_same _) (q (atom (logic y j)) ts))

mutual
  pub settle_more : (n m : ℕ) → n ≤ m → (k : ℕ) (t : Term) → Below (settle n k t) (settle m k t)
  settle_more zero m h k t = below_none (settle m k t)
  settle_more (suc n) zero h k t = absurd (omega arith)
  settle_more (suc n) (suc m) h k t = below_then (look n t) (look m t) _ _ (look_more n m (omega arith) t) λ v. settle_look n m (omega arith) k v (λ u. settle_more n m (omega arith) (suc k) u) (λ g ts. settle_all_more n m (omega arith) k g ts)

  pub settle_all_more : (n m : ℕ) → n ≤ m → (k : ℕ) (h : Term) (ts : List Term) → Below (settle_all n k h ts) (settle_all m k h ts)
  settle_all_more zero m l k h ts = below_none (settle_all m k h ts)
  settle_all_more (suc n) zero l k h ts = absurd (omega arith)
  settle_all_more (suc n) (suc m) l k h [] = below_same _
  settle_all_more (suc n) (suc m) l k h (t ∷ ts) = below_then (settle n k t) (settle m k t) _ _ (settle_more n m (omega arith) k t) (λ u. settle_all_more n m (omega arith) k (app h u) ts)

-- the rules

decompose_more : (n m : ℕ) → n ≤ m → (level : ℕ) (h : Term) (ts : List Term) (g : Term) (us : List Term) → Below (decompose n level h ts g us) (decompose m level h ts g us)
decompose_more n m l level h ts g us = below_if (same_name h g && nat_eq (length ts) (length us)) _ _ _ _ (below_map (solve_types n (type_pairs h g) [] 0) (solve_types m (type_pairs h g) [] 0) (with_types level ts us) (types_more n m l (type_pairs h g) [] 0)) (below_same (Some (ruled 0 fails)))

abbrev binding : Side → ℕ → Pruned → Term → Ruled
binding s u r t' = ruled u (binds (made_by s r.bindings t') r.next)

solve_for_more : (n m : ℕ) → n ≤ m → (next : ℕ) (s : Side) (t : Term) (v : Look) → Below (solve_for n next s t v) (solve_for m next s t v)
solve_for_more n m l next s t v = below_if (has_head s v) _ _ _ _ (below_same (Some (ruled 0 delays))) (below_then (scan n s false s.pair t) (scan m s false s.pair t) _ _ (scan_more n m l s false s.pair t) λ r. scanned r)
  where
    scanned : (r : Scanned) → Below {A = Ruled} (elim r [
      | broken u ↦ Some (ruled u fails)
      | whole u true ps ↦ Some (ruled u delays)
      | whole u false ps
          ↦ option_and_then (λ r. option_map (binding s u r) (settle n s.pair r.term)) (prune n s next t)
    ])
        (elim r [
          | broken u ↦ Some (ruled u fails)
          | whole u true ps ↦ Some (ruled u delays)
          | whole u false ps ↦ option_and_then
              (λ r. option_map (binding s u r) (settle m s.pair r.term)) (prune m s next t)
        ])
    scanned (broken u) = below_same _
    scanned (whole u true ps) = below_same _
    scanned (whole u false ps) = below_then (prune n s next t) (prune m s next t) _ _ (prune_more n m l s next t) (λ r. below_map (settle n s.pair r.term) (settle m s.pair r.term) (binding s u r) (settle_more n m l s.pair r.term))

pub by_pattern_more : (n m : ℕ) → n ≤ m → (next : ℕ) (p : Pair) (v w : Look) (a b : Option Side) → Below (by_pattern n next p v w a b) (by_pattern m next p v w a b)
by_pattern_more n m l next p v w (Some s) r = solve_for_more n m l next s p.right w
by_pattern_more n m l next p v w None (Some s) = solve_for_more n m l next s p.left v
by_pattern_more n m l next p v w None None = below_same _

pub pattern_side_more : (n m : ℕ) → n ≤ m → (p : Pair) (v : Look) → Below (pattern_side n p v) (pattern_side m p v)
pattern_side_more n m l p (flexible x j ts) = below_map (pattern_of n j ts) (pattern_of m j ts) _ (pattern_more n m l j ts)
pattern_side_more n m l p (an_abs b) = below_same (Some None)
pattern_side_more n m l p (rigid h ts) = below_same (Some None)

pub by_rule_5_more : (n m : ℕ) → n ≤ m → (next : ℕ) (p : Pair) (v w : Look) → Below (by_rule_5 n next p v w) (by_rule_5 m next p v w)
by_rule_5_more n m l next p v w = below_then (pattern_side n p v) (pattern_side m p v) _ _ (pattern_side_more n m l p v) (λ a. below_then (pattern_side n p w) (pattern_side m p w) _ _ (pattern_side_more n m l p w) (λ b. by_pattern_more n m l next p v w a b))

pub by_rule_4_more : (n m : ℕ) → n ≤ m → (next : ℕ) (p : Pair) (x l' : ℕ) (ts us : List Term) → Below (by_rule_4 n next p x l' ts us) (by_rule_4 m next p x l' ts us)
by_rule_4_more n m l next p x l' ts us = below_then (pattern_of n l' ts) (pattern_of m l' ts) _ _ (pattern_more n m l l' ts) (λ a. below_then (pattern_of n l' us) (pattern_of m l' us) _ _ (pattern_more n m l l' us) (λ b. both a b))
  where
    both : (a b : Option (List ℕ)) → Below {A = Ruled} (elim a [
      | None ↦ by_rule_5 n next p (flexible x l' ts) (flexible x l' us)
      | Some a ↦ elim b
          [ None ↦ by_rule_5 n next p (flexible x l' ts) (flexible x l' us) | Some b ↦ Some (ruled 0 (joined next x l' a b)) ]
    ])
        (elim a [
          | None ↦ by_rule_5 m next p (flexible x l' ts) (flexible x l' us)
          | Some a ↦ elim b
              [ None ↦ by_rule_5 m next p (flexible x l' ts) (flexible x l' us) | Some b ↦ Some (ruled 0 (joined next x l' a b)) ]
        ])
    both None b = by_rule_5_more n m l next p (flexible x l' ts) (flexible x l' us)
    both (Some a) None = by_rule_5_more n m l next p (flexible x l' ts) (flexible x l' us)
    both (Some a) (Some b) = below_same _

pub by_looks_more : (n m : ℕ) → n ≤ m → (next : ℕ) (p : Pair) (v w : Look) → Below (by_looks n next p v w) (by_looks m next p v w)
by_looks_more n m l next p (an_abs b) w = below_same _
by_looks_more n m l next p (rigid h ts) (an_abs c) = below_same _
by_looks_more n m l next p (flexible x j ts) (an_abs c) = below_same _
by_looks_more n m l next p (rigid h ts) (rigid g us) = decompose_more n m l p.level h ts g us
by_looks_more n m l next p (rigid h ts) (flexible y j us) = by_rule_5_more n m l next p (rigid h ts) (flexible y j us)
by_looks_more n m l next p (flexible x j ts) (rigid g us) = by_rule_5_more n m l next p (flexible x j ts) (rigid g us)
by_looks_more n m l next p (flexible x j ts) (flexible y i us) = below_if (nat_eq x y && nat_eq j i && nat_eq (length ts) (length us)) _ _ _ _
    (below_then (compare_all n p.level ts us) (compare_all m p.level ts us) _ _ (compare_all_more n m l p.level ts us)
    (λ c. below_if c.same _ _ _ _ (below_same (Some (ruled c.units (gives [] []))))
    (below_map (by_rule_4 n next p x j ts us) (by_rule_4 m next p x j ts us) (dear c.units) (by_rule_4_more n m l next p x j ts us))))
    (by_rule_5_more n m l next p (flexible x j ts) (flexible y i us))

pub rule_more : (n m : ℕ) → n ≤ m → (next : ℕ) (p : Pair) → Below (rule n next p) (rule m next p)
rule_more n m l next p = below_then (look n p.left) (look m p.left) _ _ (look_more n m l p.left) (λ v. below_then (look n p.right) (look m p.right) _ _ (look_more n m l p.right) (λ w. by_looks_more n m l next p v w))
