-- Rules 4, 5 and 6 do the same with types put for type variables before or after.
use Rattle.std.proofs.Common.{◌≡◌, ℕ, suc, List, [], ◌∷◌, ◌++◌, map, ◌∙◌, refl, sym, ap, Bool, true, false, Option, Some, None}
use Rattle.std.specs.Prelude.{option_map, option_and_then}
use Rattle.lp_calculus.specs.Types.{Ty}
use Rattle.lp_calculus.specs.Term.{Term}
use Rattle.lp_calculus.specs.Fill.{Binding, abstracted}
use Rattle.lp_calculus.specs.Instance.{instance_term}
use Rattle.lp_model.specs.Patterns.{agreeing}
use Rattle.lp_model.specs.Look.{Look, an_abs, rigid, flexible, pattern_of}
use Rattle.lp_model.specs.Pair.{Pair}
use Rattle.lp_model.specs.Scan.{Side, Scanned, broken, whole, scan, Pruned, prune, settle}
use Rattle.lp_model.specs.Rule.{Verdict, fails, gives, binds, delays, Ruled, ruled, joined, bound, has_head, solve_for, side, by_pattern, pattern_side, by_rule_5, by_rule_4}
pub use Rattle.lp_unify_laws.specs.Solutions.{instance_pair}
use Rattle.lp_unify_laws.proofs.Instances.{map_map, bind_map, bind_equal, instance_all, instance_look, instance_binding, instance_pruned, pattern_instance, scan_instance, prune_instance, settle_instance, abstracted_instance, renewed_instance}

abbrev pub instance_verdict : (ℕ → Ty) → Verdict → Verdict
instance_verdict θ fails = fails
instance_verdict θ (gives ts ps) = gives ts (map (instance_pair θ) ps)
instance_verdict θ (binds bs next) = binds (map (instance_binding θ) bs) next
instance_verdict θ delays = delays

abbrev pub instance_ruled : (ℕ → Ty) → Ruled → Ruled
instance_ruled θ r = record { verdict = instance_verdict θ r.verdict; units = r.units }

map_last : {A B : Type 0} (f : A → B) (xs : List A) (x : A) → map f (xs ++ x ∷ []) ≡ map f xs ++ f x ∷ []
map_last f [] x = refl
map_last f (y ∷ xs) x = ap (λ z. f y ∷ z) (map_last f xs x)

pub bound_instance : (θ : ℕ → Ty) (s : Side) (bs : List Binding) (t : Term) → bound s (map (instance_binding θ) bs) (instance_term θ t) ≡ map (instance_binding θ) (bound s bs t)
bound_instance θ s bs t =
    ap (λ z. map (instance_binding θ) bs ++ record { id = s.id; level = s.level; value = z } ∷ []) (abstracted_instance θ s.arguments t) ∙
    sym (map_last (instance_binding θ) bs (record { id = s.id; level = s.level; value = abstracted s.arguments t }))

head_same : (θ : ℕ → Ty) (s : Side) (v : Look) → has_head s (instance_look θ v) ≡ has_head s v
head_same θ s (an_abs b) = refl
head_same θ s (rigid h ts) = refl
head_same θ s (flexible y m ts) = refl

abbrev settled : ℕ → Side → ℕ → Pruned → Option Ruled
settled n s u q = option_map (λ t. ruled u (binds (bound s q.bindings t) q.next)) (settle n s.pair q.term)

abbrev scanned : ℕ → (next : ℕ) → Side → Term → Scanned → Option Ruled
scanned n next s t r = elim r [
  | broken u ↦ Some (ruled u fails)
  | whole u true ps ↦ Some (ruled u delays)
  | whole u false ps ↦ option_and_then (settled n s u) (prune n s next t)
]

settled_same : (θ : ℕ → Ty) (n : ℕ) (s : Side) (u : ℕ) (q : Pruned) → settled n s u (instance_pruned θ q) ≡ option_map (instance_ruled θ) (settled n s u q)
settled_same θ n s u q = map_map (instance_term θ) (λ t. ruled u (binds (bound s (map (instance_binding θ) q.bindings) t) q.next))
    (λ t. ruled u (binds (bound s q.bindings t) q.next)) (instance_ruled θ) (settle n s.pair q.term) (settle n s.pair (instance_term θ q.term))
    (settle_instance θ n s.pair q.term)
    (λ t. ap (λ z. ruled u (binds z q.next)) (bound_instance θ s q.bindings t))

scanned_same : (θ : ℕ → Ty) (n next : ℕ) (s : Side) (t : Term) (r : Scanned) → scanned n next s (instance_term θ t) r ≡ option_map (instance_ruled θ) (scanned n next s t r)
scanned_same θ n next s t (broken u) = refl
scanned_same θ n next s t (whole u true ps) = refl
scanned_same θ n next s t (whole u false ps) = bind_map (instance_pruned θ) (settled n s u) (settled n s u) (instance_ruled θ) (prune n s next t) (prune n s next (instance_term θ t)) (prune_instance θ n s next t) (settled_same θ n s u)

abbrev by_head : ℕ → (next : ℕ) → Side → Term → Bool → Option Ruled
by_head n next s t b = elim b [
  | true ↦ Some (ruled 0 delays)
  | false ↦ option_and_then (scanned n next s t) (scan n s false s.pair t)
]

by_head_same : (θ : ℕ → Ty) (n next : ℕ) (s : Side) (t : Term) (b : Bool) → by_head n next s (instance_term θ t) b ≡ option_map (instance_ruled θ) (by_head n next s t b)
by_head_same θ n next s t true = refl
by_head_same θ n next s t false = bind_equal (scanned n next s (instance_term θ t)) (scanned n next s t) (instance_ruled θ) (scan n s false s.pair t) (scan n s false s.pair (instance_term θ t)) (scan_instance θ n s false s.pair t) (scanned_same θ n next s t)

solve_for_instance : (θ : ℕ → Ty) (n next : ℕ) (s : Side) (t : Term) (v : Look) → solve_for n next s (instance_term θ t) (instance_look θ v) ≡ option_map (instance_ruled θ) (solve_for n next s t v)
solve_for_instance θ n next s t v = ap (by_head n next s (instance_term θ t)) (head_same θ s v) ∙ by_head_same θ n next s t (has_head s v)

pattern_side_instance : (θ : ℕ → Ty) (n : ℕ) (p : Pair) (v : Look) → pattern_side n (instance_pair θ p) (instance_look θ v) ≡ pattern_side n p v
pattern_side_instance θ n p (an_abs b) = refl
pattern_side_instance θ n p (rigid h ts) = refl
pattern_side_instance θ n p (flexible x l ts) = ap (option_map (option_map (λ a. side x l a p))) (pattern_instance θ n l ts)

by_pattern_instance : (θ : ℕ → Ty) (n next : ℕ) (p : Pair) (v w : Look) (a b : Option Side) → by_pattern n next (instance_pair θ p) (instance_look θ v) (instance_look θ w) a b ≡ option_map (instance_ruled θ) (by_pattern n next p v w a b)
by_pattern_instance θ n next p v w (Some s) b = solve_for_instance θ n next s p.right w
by_pattern_instance θ n next p v w None (Some s) = solve_for_instance θ n next s p.left v
by_pattern_instance θ n next p v w None None = refl

pub rule_5_instance : (θ : ℕ → Ty) (n next : ℕ) (p : Pair) (v w : Look) → by_rule_5 n next (instance_pair θ p) (instance_look θ v) (instance_look θ w) ≡ option_map (instance_ruled θ) (by_rule_5 n next p v w)
rule_5_instance θ n next p v w =
    bind_equal (λ a. option_and_then (λ b. by_pattern n next (instance_pair θ p) (instance_look θ v) (instance_look θ w) a b) (pattern_side n (instance_pair θ p) (instance_look θ w)))
    (λ a. option_and_then (λ b. by_pattern n next p v w a b) (pattern_side n p w)) (instance_ruled θ) (pattern_side n p v) (pattern_side n (instance_pair θ p) (instance_look θ v)) (pattern_side_instance θ n p v)
    (λ a. bind_equal (λ b. by_pattern n next (instance_pair θ p) (instance_look θ v) (instance_look θ w) a b) (λ b. by_pattern n next p v w a b) (instance_ruled θ) (pattern_side n p w) (pattern_side n (instance_pair θ p) (instance_look θ w)) (pattern_side_instance θ n p w)
    (λ b. by_pattern_instance θ n next p v w a b))

abbrev both_patterns : ℕ → (next : ℕ) → Pair → (x l : ℕ) → (ts us : List Term) → Option (List ℕ) → Option (List ℕ) → Option Ruled
both_patterns n next p x l ts us a b = elim a [
  | None ↦ by_rule_5 n next p (flexible x l ts) (flexible x l us)
  | Some a ↦ elim b [
    | None ↦ by_rule_5 n next p (flexible x l ts) (flexible x l us)
    | Some b ↦ Some (ruled 0 (joined next x l a b))
  ]
]

both_same : (θ : ℕ → Ty) (n next : ℕ) (p : Pair) (x l : ℕ) (ts us : List Term) (a b : Option (List ℕ)) → both_patterns n next (instance_pair θ p) x l (instance_all θ ts) (instance_all θ us) a b ≡ option_map (instance_ruled θ) (both_patterns n next p x l ts us a b)
both_same θ n next p x l ts us None b = rule_5_instance θ n next p (flexible x l ts) (flexible x l us)
both_same θ n next p x l ts us (Some a) None = rule_5_instance θ n next p (flexible x l ts) (flexible x l us)
both_same θ n next p x l ts us (Some a) (Some b) = ap (λ z. Some (ruled 0 (binds (z ∷ []) (suc next)))) (sym (renewed_instance θ next x l l a (agreeing a b)))

pub rule_4_instance : (θ : ℕ → Ty) (n next : ℕ) (p : Pair) (x l : ℕ) (ts us : List Term) → by_rule_4 n next (instance_pair θ p) x l (instance_all θ ts) (instance_all θ us) ≡ option_map (instance_ruled θ) (by_rule_4 n next p x l ts us)
rule_4_instance θ n next p x l ts us =
    bind_equal (λ a. option_and_then (λ b. both_patterns n next (instance_pair θ p) x l (instance_all θ ts) (instance_all θ us) a b) (pattern_of n l (instance_all θ us)))
    (λ a. option_and_then (λ b. both_patterns n next p x l ts us a b) (pattern_of n l us)) (instance_ruled θ) (pattern_of n l ts) (pattern_of n l (instance_all θ ts)) (pattern_instance θ n l ts)
    (λ a. bind_equal (λ b. both_patterns n next (instance_pair θ p) x l (instance_all θ ts) (instance_all θ us) a b) (λ b. both_patterns n next p x l ts us a b) (instance_ruled θ) (pattern_of n l us) (pattern_of n l (instance_all θ us)) (pattern_instance θ n l us)
    (λ b. both_same θ n next p x l ts us a b))
