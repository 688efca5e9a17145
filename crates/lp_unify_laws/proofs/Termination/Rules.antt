-- The first rule that applies to a pair comes, where both sides weigh something and pruning comes to a term that weighs something.
use Rattle.std.proofs.Common.{◌≡◌, ℕ, ◌+◌, List, [], ◌∷◌, length, ◌∙◌, refl, sym, ap, subst as transport, arith, true, false, Option, Some, None}
use Rattle.std.specs.Prelude.{option_map, option_and_then, nat_eq, ◌&&◌}
use Rattle.lp_calculus.specs.Term.{Term}
use Rattle.lp_model.specs.Same.{same_name}
use Rattle.lp_model.specs.Look.{Look, an_abs, rigid, flexible, look, pattern_of}
use Rattle.lp_model.specs.Types.{solve_types}
use Rattle.lp_model.specs.Pair.{Pair}
use Rattle.lp_model.specs.Scan.{Side, Scanned, broken, whole, scan, Pattern, Pruned, prune, settle}
use Rattle.lp_model.specs.Rule.{Compared, compare_all, fails, gives, binds, delays, Ruled, ruled, opened, type_pairs, with_types, joined, bound, has_head, solve_for, side, by_pattern, pattern_side, by_rule_5, by_rule_4, dear, by_looks, rule}
use Rattle.lp_unify_laws.proofs.NormalForms.Weights.{Weighs}
use Rattle.lp_unify_laws.proofs.Termination.Looks.{LookWeighs, look_comes, pattern_comes}
use Rattle.lp_unify_laws.proofs.Termination.Comparisons.{compare_all_comes}
use Rattle.lp_unify_laws.proofs.Termination.Scans.{scan_comes, settle_comes}
use Rattle.lp_unify_laws.proofs.Termination.Types.{types_come}
use Rattle.lp_unify_laws.proofs.MoreSteps.Scans.{below_same, below_map, below_then, look_more, pattern_more, scan_more}
use Rattle.lp_unify_laws.proofs.MoreSteps.Rules.{below_if, compare_all_more, prune_more, settle_more, pattern_side_more, by_pattern_more, by_rule_5_more, by_rule_4_more, by_looks_more}
use Rattle.lp_unify_laws.proofs.Sames.{both, same_number}
use Rattle.lp_unify_laws.proofs.Termination.Comes.{Comes, Grows, comes_map, comes_then, comes_if}

-- a term is seen as a variable on distinct eigenconstants
pub record IsSideOf (s : Side) (level : ℕ) (own : Term) : Type 0 where
  pub steps : ℕ
  pub tests : ℕ
  pub terms : List Term
  pub seen : look steps own ≡ Some (flexible s.id s.level terms)
  pub is_pattern : pattern_of tests s.level terms ≡ Some (Some s.arguments)
  pub pair : s.pair ≡ level

pub record HasPruned (s : Side) (next : ℕ) (t : Term) : Type 0 where
  pub steps : ℕ
  pub result : Pruned
  pub weight : ℕ
  pub is : prune steps s next t ≡ Some result
  pub weighs_so : Weighs result.term weight

-- where the scan neither fails nor delays pruning comes to something
abbrev pub Prunes : (next level : ℕ) → (own other : Term) → Type 0
Prunes next level own other = (s : Side) → IsSideOf s level own → (n u : ℕ) (ps : List Pattern) → scan n s false s.pair other ≡ Some (whole u false ps) → HasPruned s next other

abbrev pub PrunesBoth : ℕ → Pair → Type 0
PrunesBoth next p = Prunes next p.level p.left p.right × Prunes next p.level p.right p.left

-- rule 5, behind the scan
abbrev settling : Side → ℕ → ℕ → Pruned → Option Ruled
settling s u n q = option_map (λ t. ruled u (binds (bound s q.bindings t) q.next)) (settle n s.pair q.term)

abbrev scanned : ℕ → Side → Term → ℕ → Scanned → Option Ruled
scanned next s t n r = elim r [
  | broken u ↦ Some (ruled u fails)
  | whole u true ps ↦ Some (ruled u delays)
  | whole u false ps ↦ option_and_then (settling s u n) (prune n s next t)
]

scanned_grows : (next : ℕ) (s : Side) (t : Term) (r : Scanned) → Grows (λ n. scanned next s t n r)
scanned_grows next s t (broken u) n m l = below_same (Some (ruled u fails))
scanned_grows next s t (whole u true ps) n m l = below_same (Some (ruled u delays))
scanned_grows next s t (whole u false ps) n m l = below_then (prune n s next t) (prune m s next t) (settling s u n) (settling s u m) (prune_more n m l s next t)
    (λ q. below_map (settle n s.pair q.term) (settle m s.pair q.term) (λ t. ruled u (binds (bound s q.bindings t) q.next)) (settle_more n m l s.pair q.term))

pruned_comes : (next : ℕ) (s : Side) (t : Term) (u : ℕ) → HasPruned s next t → Comes (λ n. option_and_then (settling s u n) (prune n s next t))
pruned_comes next s t u h =
    let q = h.result in
    let c = settle_comes s.pair q.term h.weight h.weighs_so in
    let m = h.steps + c.0 in
    let e = prune_more h.steps m (omega arith) s next t q h.is in
    let i = settle_more c.0 m (omega arith) s.pair q.term c.1 c.2 in
    (m, ruled u (binds (bound s q.bindings c.1) q.next), ap (option_and_then (settling s u m)) e ∙ ap (option_map (λ t. ruled u (binds (bound s q.bindings t) q.next))) i)

scanned_comes : (next : ℕ) (s : Side) (t : Term) → ((n u : ℕ) (ps : List Pattern) → scan n s false s.pair t ≡ Some (whole u false ps) → HasPruned s next t) → (r : Scanned) (n : ℕ) → scan n s false s.pair t ≡ Some r → Comes (λ n. scanned next s t n r)
scanned_comes next s t h (broken u) n e = (0, ruled u fails, refl)
scanned_comes next s t h (whole u true ps) n e = (0, ruled u delays, refl)
scanned_comes next s t h (whole u false ps) n e = pruned_comes next s t u (h n u ps e)

solving_comes : (next : ℕ) (s : Side) (t : Term) (v : Look) (w : ℕ) → Weighs t w → ((n u : ℕ) (ps : List Pattern) → scan n s false s.pair t ≡ Some (whole u false ps) → HasPruned s next t) → Comes (λ n. solve_for n next s t v)
solving_comes next s t v w k h = comes_if (has_head s v) (λ n. Some (ruled 0 delays)) (λ n. option_and_then (scanned next s t n) (scan n s false s.pair t))
    (λ e. (0, ruled 0 delays, refl))
    (λ e. comes_then (λ n. scan n s false s.pair t) (scanned next s t) (λ n m l. scan_more n m l s false s.pair t) (scanned_grows next s t) (scan_comes s false s.pair t w k) (scanned_comes next s t h))

-- a side is one of the term that was seen
abbrev SideIs : Pair → Term → Option Side → Type 0
SideIs p own None = Unit {0}
SideIs p own (Some s) = IsSideOf s p.level own

some_same : {A : Type 0} (x y : A) → Some x ≡ Some y → x ≡ y
some_same x y e = cc

side_is : (n j : ℕ) (p : Pair) (own : Term) (v : Look) → look j own ≡ Some v → (a : Option Side) → pattern_side n p v ≡ Some a → SideIs p own a
side_is n j p own v e None i = tt
side_is n j p own (an_abs b) e (Some s) i = absurd (let q : None ≡ Some s = some_same None (Some s) i in cc)
side_is n j p own (rigid h ts) e (Some s) i = absurd (let q : None ≡ Some s = some_same None (Some s) i in cc)
side_is n j p own (flexible x l ts) e (Some s) i = go (pattern_of n l ts) refl i
  where
    go : (o : Option (Option (List ℕ))) → pattern_of n l ts ≡ o → option_map (option_map (λ a. side x l a p)) o ≡ Some (Some s) → IsSideOf s p.level own
    go None k q = absurd (cc)
    go (Some None) k q = absurd (let z : None ≡ Some s = some_same None (Some s) q in cc)
    go (Some (Some a)) k q =
        let z : side x l a p ≡ s = some_same (side x l a p) s (some_same (Some (side x l a p)) (Some s) q) in
        transport (λ z. IsSideOf z p.level own) z (record { steps = j; tests = n; terms = ts; seen = e; is_pattern = k; pair = refl })

pattern_comes_to : (next : ℕ) (p : Pair) (w v : ℕ) → Weighs p.left w → Weighs p.right v → PrunesBoth next p → (x y : Look) (a b : Option Side) → SideIs p p.left a → SideIs p p.right b → Comes (λ n. by_pattern n next p x y a b)
pattern_comes_to next p w v h g k x y (Some s) b i j = solving_comes next s p.right y v g (k.0 s i)
pattern_comes_to next p w v h g k x y None (Some s) i j = solving_comes next s p.left x w h (k.1 s j)
pattern_comes_to next p w v h g k x y None None i j = (0, ruled 0 delays, refl)

side_comes : (p : Pair) (v : Look) (w : ℕ) → LookWeighs v w → Comes (λ n. pattern_side n p v)
side_comes p (an_abs b) w h = (0, None, refl)
side_comes p (rigid f ts) w h = (0, None, refl)
side_comes p (flexible x l ts) w h = comes_map (λ n. pattern_of n l ts) (option_map (λ a. side x l a p)) (pattern_comes l ts w h)

-- both sides as they are seen
pub record Seen (p : Pair) (v w : Look) : Type 0 where
  pub left_weight : ℕ
  pub right_weight : ℕ
  pub left_weighs : Weighs p.left left_weight
  pub right_weighs : Weighs p.right right_weight
  pub left_steps : ℕ
  pub right_steps : ℕ
  pub left : look left_steps p.left ≡ Some v
  pub right : look right_steps p.right ≡ Some w
  pub left_parts : LookWeighs v left_weight
  pub right_parts : LookWeighs w right_weight

rule_5_comes : (next : ℕ) (p : Pair) → PrunesBoth next p → (v w : Look) → Seen p v w → Comes (λ n. by_rule_5 n next p v w)
rule_5_comes next p k v w h = comes_then (λ n. pattern_side n p v) (λ n a. option_and_then (by_pattern n next p v w a) (pattern_side n p w))
    (λ n m l. pattern_side_more n m l p v)
    (λ a n m l. below_then (pattern_side n p w) (pattern_side m p w) (by_pattern n next p v w a) (by_pattern m next p v w a) (pattern_side_more n m l p w) (λ b. by_pattern_more n m l next p v w a b))
    (side_comes p v h.left_weight h.left_parts)
    (λ a n e. comes_then (λ n. pattern_side n p w) (λ n b. by_pattern n next p v w a b) (λ n m l. pattern_side_more n m l p w) (λ b n m l. by_pattern_more n m l next p v w a b)
    (side_comes p w h.right_weight h.right_parts)
    (λ b m i. pattern_comes_to next p h.left_weight h.right_weight h.left_weighs h.right_weighs k v w a b (side_is n h.left_steps p p.left v h.left a e) (side_is m h.right_steps p p.right w h.right b i)))

-- rule 4
abbrev both_patterns : ℕ → Pair → (x l : ℕ) → (ts us : List Term) → ℕ → Option (List ℕ) → Option (List ℕ) → Option Ruled
both_patterns next p x l ts us n a b = elim a [
  | None ↦ by_rule_5 n next p (flexible x l ts) (flexible x l us)
  | Some a ↦ elim b [
    | None ↦ by_rule_5 n next p (flexible x l ts) (flexible x l us)
    | Some b ↦ Some (ruled 0 (joined next x l a b))
  ]
]

both_grow : (next : ℕ) (p : Pair) (x l : ℕ) (ts us : List Term) (a b : Option (List ℕ)) → Grows (λ n. both_patterns next p x l ts us n a b)
both_grow next p x d ts us None b n m l = by_rule_5_more n m l next p (flexible x d ts) (flexible x d us)
both_grow next p x d ts us (Some a) None n m l = by_rule_5_more n m l next p (flexible x d ts) (flexible x d us)
both_grow next p x d ts us (Some a) (Some b) n m l = below_same (Some (ruled 0 (joined next x d a b)))

both_come : (next : ℕ) (p : Pair) (x l : ℕ) (ts us : List Term) → Comes (λ n. by_rule_5 n next p (flexible x l ts) (flexible x l us)) → (a b : Option (List ℕ)) → Comes (λ n. both_patterns next p x l ts us n a b)
both_come next p x l ts us c None b = c
both_come next p x l ts us c (Some a) None = c
both_come next p x l ts us c (Some a) (Some b) = (0, ruled 0 (joined next x l a b), refl)

rule_4_comes : (next : ℕ) (p : Pair) → PrunesBoth next p → (x l : ℕ) (ts us : List Term) → Seen p (flexible x l ts) (flexible x l us) → Comes (λ n. by_rule_4 n next p x l ts us)
rule_4_comes next p k x d ts us h = comes_then (λ n. pattern_of n d ts) (λ n a. option_and_then (both_patterns next p x d ts us n a) (pattern_of n d us))
    (λ n m l. pattern_more n m l d ts)
    (λ a n m l. below_then (pattern_of n d us) (pattern_of m d us) (both_patterns next p x d ts us n a) (both_patterns next p x d ts us m a) (pattern_more n m l d us) (λ b. both_grow next p x d ts us a b n m l))
    (pattern_comes d ts h.left_weight h.left_parts)
    (λ a n e. comes_then (λ n. pattern_of n d us) (λ n b. both_patterns next p x d ts us n a b) (λ n m l. pattern_more n m l d us) (both_grow next p x d ts us a) (pattern_comes d us h.right_weight h.right_parts)
    (λ b m i. both_come next p x d ts us (rule_5_comes next p k (flexible x d ts) (flexible x d us) h) a b))

-- one variable on both sides
one_variable : (x l y m : ℕ) (ts us : List Term) → (nat_eq x y && nat_eq l m && nat_eq (length ts) (length us)) ≡ true → (x ≡ y) × (l ≡ m)
one_variable x l y m ts us e =
    let a = both (nat_eq x y && nat_eq l m) (nat_eq (length ts) (length us)) e in
    let b = both (nat_eq x y) (nat_eq l m) a.0 in
    (same_number x y b.0, same_number l m b.1)

abbrev compared : ℕ → Pair → (x l : ℕ) → (ts us : List Term) → ℕ → Compared → Option Ruled
compared next p x l ts us n c = elim c.same [
  | true ↦ Some (ruled c.units (gives [] []))
  | false ↦ option_map (dear c.units) (by_rule_4 n next p x l ts us)
]

compared_grows : (next : ℕ) (p : Pair) (x l : ℕ) (ts us : List Term) (c : Compared) → Grows (λ n. compared next p x l ts us n c)
compared_grows next p x d ts us c n m l = below_if c.same _ _ _ _ (below_same (Some (ruled c.units (gives [] [])))) (below_map (by_rule_4 n next p x d ts us) (by_rule_4 m next p x d ts us) (dear c.units) (by_rule_4_more n m l next p x d ts us))

looks_come : (next : ℕ) (p : Pair) → PrunesBoth next p → (v w : Look) → Seen p v w → Comes (λ n. by_looks n next p v w)
looks_come next p k (an_abs b) w h = (0, ruled 0 (gives [] (opened p ∷ [])), refl)
looks_come next p k (rigid f ts) (an_abs b) h = (0, ruled 0 (gives [] (opened p ∷ [])), refl)
looks_come next p k (flexible x l ts) (an_abs b) h = (0, ruled 0 (gives [] (opened p ∷ [])), refl)
looks_come next p k (rigid f ts) (rigid g us) h = comes_if (same_name f g && nat_eq (length ts) (length us)) (λ n. option_map (with_types p.level ts us) (solve_types n (type_pairs f g) [] 0)) (λ n. Some (ruled 0 fails))
    (λ e. comes_map (λ n. solve_types n (type_pairs f g) [] 0) (with_types p.level ts us) (types_come (type_pairs f g)))
    (λ e. (0, ruled 0 fails, refl))
looks_come next p k (rigid f ts) (flexible y m us) h = rule_5_comes next p k (rigid f ts) (flexible y m us) h
looks_come next p k (flexible x l ts) (rigid g us) h = rule_5_comes next p k (flexible x l ts) (rigid g us) h
looks_come next p k (flexible x l ts) (flexible y m us) h = comes_if (nat_eq x y && nat_eq l m && nat_eq (length ts) (length us)) (λ n. option_and_then (compared next p x l ts us n) (compare_all n p.level ts us)) (λ n. by_rule_5 n next p (flexible x l ts) (flexible y m us))
    (λ e. let q = one_variable x l y m ts us e in
    let i : Seen p (flexible x l ts) (flexible x l us) = transport (λ z. Seen p (flexible x l ts) (flexible z l us)) (sym q.0) (transport (λ z. Seen p (flexible x l ts) (flexible y z us)) (sym q.1) h) in
    comes_then (λ n. compare_all n p.level ts us) (compared next p x l ts us) (λ n m l. compare_all_more n m l p.level ts us) (compared_grows next p x l ts us) (compare_all_comes p.level ts us h.left_weight h.right_weight h.left_parts h.right_parts)
    (λ c n j. comes_if c.same (λ n. Some (ruled c.units (gives [] []))) (λ n. option_map (dear c.units) (by_rule_4 n next p x l ts us)) (λ s. (0, ruled c.units (gives [] []), refl)) (λ s. comes_map (λ n. by_rule_4 n next p x l ts us) (dear c.units) (rule_4_comes next p k x l ts us i))))
    (λ e. rule_5_comes next p k (flexible x l ts) (flexible y m us) h)

pub rule_comes : (next : ℕ) (p : Pair) (w v : ℕ) → Weighs p.left w → Weighs p.right v → PrunesBoth next p → Comes (λ n. rule n next p)
rule_comes next p w v h g k =
    let a = look_comes h in
    let b = look_comes g in
    let c = looks_come next p k a.view b.view (record { left_weight = w; right_weight = v; left_weighs = h; right_weighs = g; left_steps = a.steps; right_steps = b.steps; left = a.is; right = b.is; left_parts = a.parts; right_parts = b.parts }) in
    let m = a.steps + b.steps + c.0 in
    let e = look_more a.steps m (omega arith) p.left a.view a.is in
    let i = look_more b.steps m (omega arith) p.right b.view b.is in
    let j = by_looks_more c.0 m (omega arith) next p a.view b.view c.1 c.2 in
    (m, c.1, ap (option_and_then (λ x. option_and_then (by_looks m next p x) (look m p.right))) e ∙ ap (option_and_then (by_looks m next p a.view)) i ∙ j)
