-- Comparing, and the rules for one pair, go through with other eigenconstants and other levels.
use Rattle.std.proofs.Common.{◌≡◌, ℕ, zero, suc, ◌≤◌, List, [], ◌∷◌, ◌++◌, map, length, ◌∙◌, refl, sym, ap, Bool, true, false, nat_eq, if◌then◌else◌, Option, Some, None}
use Rattle.std.specs.Prelude.{◌&&◌, option_map, option_and_then}
use Rattle.std.proofs.lemmas.List.{map-append}
use Rattle.lp_calculus.specs.Term.{Term, atom, apply, logic}
use Rattle.lp_calculus.specs.Fill.{Binding, abstracted}
use Rattle.lp_model.specs.Patterns.{agreeing, eigens}
use Rattle.lp_model.specs.Same.{same_name}
use Rattle.lp_model.specs.Types.{TypeBinding, TypePair, TypeOutcome, none, solved, solve_types, one_type}
use Rattle.lp_model.specs.Look.{Look, an_abs, rigid, flexible, look, pattern_of}
use Rattle.lp_model.specs.Pair.{Pair, put_type_in, put_types_in, type_pair}
use Rattle.lp_model.specs.Scan.{Side, Scanned, broken, whole, scan, Pruned, prune, settle}
use Rattle.lp_model.specs.Rule.{Compared, dearer, open_with, type_pairs, compare_types, compare, compare_looks, compare_all, Verdict, fails, gives, binds, delays, Ruled, ruled, argument_pairs, opened, with_types, decompose, joined, bound, has_head, solve_for, by_pattern, pattern_side, by_rule_5, by_rule_4, dear, by_looks, rule}
use Rattle.lp_unify_laws.proofs.Instances.{map_map, bind_map, bind_same_as}
use Rattle.lp_search_laws.proofs.Moved.Terms.{Moving, moved, moved_all, moved_look, look_moved, pattern_moved, moved_binding, abstracted_moved, length_moved, instance_moved}
use Rattle.lp_search_laws.proofs.Moved.Heads.{name_moved, types_moved}
use Rattle.lp_search_laws.proofs.Moved.Scans.{moved_side, moved_scanned, moved_pruned, up_one, side_moved, scan_moved, prune_moved, settle_moved, renewed_moved}

-- comparing
abbrev Compares : Moving → ℕ → Type 0
Compares m n = (k : ℕ) (t u : Term) → m.from ≤ k → compare n (m.level k) (moved m t) (moved m u) ≡ compare n k t u

abbrev ComparesLooks : Moving → ℕ → Type 0
ComparesLooks m n = (k : ℕ) (t u : Term) (v w : Look) → m.from ≤ k → compare_looks n (m.level k) (moved m t) (moved m u) (moved_look m v) (moved_look m w) ≡ compare_looks n k t u v w

abbrev ComparesAll : Moving → ℕ → Type 0
ComparesAll m n = (k : ℕ) (ts us : List Term) → m.from ≤ k → compare_all n (m.level k) (moved_all m ts) (moved_all m us) ≡ compare_all n k ts us

abbrev at_heads : ℕ → Option Compared → List TypePair → Bool → Option Compared
at_heads n o ps b = elim b [
  | true ↦ option_and_then (λ c. elim c.same [ true ↦ option_map (dearer (suc c.units)) o | false ↦ Some (dearer 1 c) ]) (compare_types n ps)
  | false ↦ Some (record { same = false; units = 1 })
]

abbrev at_variable : Option Compared → Bool → Option Compared
at_variable o b = elim b [
  | true ↦ option_map (dearer 1) o
  | false ↦ Some (record { same = false; units = 1 })
]

abbrev at_first : Option Compared → Compared → Option Compared
at_first o c = elim c.same [
  | true ↦ option_map (dearer c.units) o
  | false ↦ Some c
]

both_opened : (m : Moving) (n : ℕ) → Compares m n → (k : ℕ) (t u : Term) → m.from ≤ k → compare n (suc (m.level k)) (open_with (suc (m.level k)) (moved m t)) (open_with (suc (m.level k)) (moved m u)) ≡ compare n (suc k) (open_with (suc k) t) (open_with (suc k) u)
both_opened m n here k t u h =
    (λ i. compare n (sym (m.next_level k h) i) (open_with (sym (m.next k h) i) (moved m t)) (open_with (sym (m.next k h) i) (moved m u))) ∙ here (suc k) (open_with (suc k) t) (open_with (suc k) u) (up_one m.from k h)

mutual
  pub compare_moved : (m : Moving) (n : ℕ) → Compares m n
  compare_moved m zero k t u h = refl
  compare_moved m (suc n) k t u h =
      bind_same_as (moved_look m) (λ v. option_and_then (λ w. compare_looks n (m.level k) (moved m t) (moved m u) v w) (look n (moved m u))) (λ v. option_and_then (λ w. compare_looks n k t u v w) (look n u)) (look n t) (look n (moved m t)) (look_moved m n t)
      (λ v. bind_same_as (moved_look m) (λ w. compare_looks n (m.level k) (moved m t) (moved m u) (moved_look m v) w) (λ w. compare_looks n k t u v w) (look n u) (look n (moved m u)) (look_moved m n u) (λ w. compare_looks_moved m n k t u v w h))

  pub compare_looks_moved : (m : Moving) (n : ℕ) → ComparesLooks m n
  compare_looks_moved m zero k t u v w h = refl
  compare_looks_moved m (suc n) k t u (an_abs b) w h = both_opened m n (compare_moved m n) k t u h
  compare_looks_moved m (suc n) k t u (rigid g ts) (an_abs c) h = both_opened m n (compare_moved m n) k t u h
  compare_looks_moved m (suc n) k t u (flexible x l ts) (an_abs c) h = both_opened m n (compare_moved m n) k t u h
  compare_looks_moved m (suc n) k t u (rigid f ts) (rigid g us) h =
      λ i. at_heads n (compare_all_moved m n k ts us h i) (types_moved m f g i) (name_moved m f g i && nat_eq (length_moved m ts i) (length_moved m us i))
  compare_looks_moved m (suc n) k t u (flexible x l ts) (flexible y j us) h =
      λ i. at_variable (compare_all_moved m n k ts us h i) (nat_eq x y && m.same_levels l j i && nat_eq (length_moved m ts i) (length_moved m us i))
  compare_looks_moved m (suc n) k t u (rigid f ts) (flexible y j us) h = refl
  compare_looks_moved m (suc n) k t u (flexible x l ts) (rigid g us) h = refl

  pub compare_all_moved : (m : Moving) (n : ℕ) → ComparesAll m n
  compare_all_moved m zero k ts us h = refl
  compare_all_moved m (suc n) k [] us h = refl
  compare_all_moved m (suc n) k (t ∷ ts) [] h = refl
  compare_all_moved m (suc n) k (t ∷ ts) (u ∷ us) h = λ i. option_and_then (at_first (compare_all_moved m n k ts us h i)) (compare_moved m n k t u h i)

-- pairs
abbrev pub moved_pair : Moving → Pair → Pair
moved_pair m p = record { left = moved m p.left; right = moved m p.right; level = m.level p.level }

abbrev pub moved_verdict : Moving → Verdict → Verdict
moved_verdict m fails = fails
moved_verdict m (gives ts ps) = gives ts (map (moved_pair m) ps)
moved_verdict m (binds bs next) = binds (map (moved_binding m) bs) next
moved_verdict m delays = delays

abbrev pub moved_ruled : Moving → Ruled → Ruled
moved_ruled m r = record { verdict = moved_verdict m r.verdict; units = r.units }

pub put_types_moved : (m : Moving) (bs : List TypeBinding) (t : Term) → put_types_in bs (moved m t) ≡ moved m (put_types_in bs t)
put_types_moved m [] t = refl
put_types_moved m (b ∷ bs) t = ap (put_types_in bs) (instance_moved m (one_type b) t) ∙ put_types_moved m bs (put_type_in b t)

pub type_pair_moved : (m : Moving) (b : TypeBinding) (p : Pair) → type_pair b (moved_pair m p) ≡ moved_pair m (type_pair b p)
type_pair_moved m b p = λ i. record { left = instance_moved m (one_type b) p.left i; right = instance_moved m (one_type b) p.right i; level = m.level p.level }

all_typed_moved : (m : Moving) (bs : List TypeBinding) (ts : List Term) → map (put_types_in bs) (moved_all m ts) ≡ moved_all m (map (put_types_in bs) ts)
all_typed_moved m bs [] = refl
all_typed_moved m bs (t ∷ ts) = λ i. put_types_moved m bs t i ∷ all_typed_moved m bs ts i

argument_pairs_moved : (m : Moving) (l : ℕ) (ts us : List Term) → argument_pairs (m.level l) (moved_all m ts) (moved_all m us) ≡ map (moved_pair m) (argument_pairs l ts us)
argument_pairs_moved m l [] us = refl
argument_pairs_moved m l (t ∷ ts) [] = refl
argument_pairs_moved m l (t ∷ ts) (u ∷ us) = ap (λ z. record { left = moved m t; right = moved m u; level = m.level l } ∷ z) (argument_pairs_moved m l ts us)

with_types_moved : (m : Moving) (l : ℕ) (ts us : List Term) (o : TypeOutcome) → with_types (m.level l) (moved_all m ts) (moved_all m us) o ≡ moved_ruled m (with_types l ts us o)
with_types_moved m l ts us (none u) = refl
with_types_moved m l ts us (solved made u) = ap (λ z. ruled u (gives made z)) ((λ i. argument_pairs (m.level l) (all_typed_moved m made ts i) (all_typed_moved m made us i)) ∙ argument_pairs_moved m l (map (put_types_in made) ts) (map (put_types_in made) us))

maps : {A B C : Type 0} (g : A → C) (h : A → B) (k : B → C) (o : Option A) → ((a : A) → g a ≡ k (h a)) → option_map g o ≡ option_map k (option_map h o)
maps g h k None e = refl
maps g h k (Some a) e = ap (λ z. Some z) (e a)

abbrev pub at_names : ℕ → (level : ℕ) → List Term → List Term → List TypePair → Bool → Option Ruled
at_names n l ts us ps b = elim b [
  | true ↦ option_map (with_types l ts us) (solve_types n ps [] 0)
  | false ↦ Some (ruled 0 fails)
]

at_names_moved : (m : Moving) (n l : ℕ) (ts us : List Term) (ps : List TypePair) (b : Bool) → at_names n (m.level l) (moved_all m ts) (moved_all m us) ps b ≡ option_map (moved_ruled m) (at_names n l ts us ps b)
at_names_moved m n l ts us ps true = maps (with_types (m.level l) (moved_all m ts) (moved_all m us)) (with_types l ts us) (moved_ruled m) (solve_types n ps [] 0) (with_types_moved m l ts us)
at_names_moved m n l ts us ps false = refl

decompose_moved : (m : Moving) (n l : ℕ) (h : Term) (ts : List Term) (g : Term) (us : List Term) → decompose n (m.level l) (moved m h) (moved_all m ts) (moved m g) (moved_all m us) ≡ option_map (moved_ruled m) (decompose n l h ts g us)
decompose_moved m n l h ts g us =
    (λ i. at_names n (m.level l) (moved_all m ts) (moved_all m us) (types_moved m h g i) (name_moved m h g i && nat_eq (length_moved m ts i) (length_moved m us i))) ∙ at_names_moved m n l ts us (type_pairs h g) (same_name h g && nat_eq (length ts) (length us))

-- rules 4, 5 and 6
bound_moved : (m : Moving) (s : Side) (bs : List Binding) (t : Term) → bound (moved_side m s) (map (moved_binding m) bs) (moved m t) ≡ map (moved_binding m) (bound s bs t)
bound_moved m s bs t =
    ap (λ z. map (moved_binding m) bs ++ record { id = s.id; level = m.level s.level; value = z } ∷ []) (abstracted_moved m s.arguments t) ∙
    sym (map-append (moved_binding m) bs (record { id = s.id; level = s.level; value = abstracted s.arguments t } ∷ []))

has_head_moved : (m : Moving) (s : Side) (v : Look) → has_head (moved_side m s) (moved_look m v) ≡ has_head s v
has_head_moved m s (an_abs b) = refl
has_head_moved m s (rigid h ts) = refl
has_head_moved m s (flexible y l ts) = side_moved m s y l

abbrev pub settled : ℕ → Side → ℕ → Pruned → Option Ruled
settled n s u q = option_map (λ t. ruled u (binds (bound s q.bindings t) q.next)) (settle n s.pair q.term)

abbrev pub scanned : ℕ → (next : ℕ) → Side → Term → Scanned → Option Ruled
scanned n next s t r = elim r [
  | broken u ↦ Some (ruled u fails)
  | whole u true ps ↦ Some (ruled u delays)
  | whole u false ps ↦ option_and_then (settled n s u) (prune n s next t)
]

settled_moved : (m : Moving) (n : ℕ) (s : Side) (u : ℕ) → m.from ≤ s.pair → (q : Pruned) → settled n (moved_side m s) u (moved_pruned m q) ≡ option_map (moved_ruled m) (settled n s u q)
settled_moved m n s u l q = map_map (moved m) (λ t. ruled u (binds (bound (moved_side m s) (map (moved_binding m) q.bindings) t) q.next))
    (λ t. ruled u (binds (bound s q.bindings t) q.next)) (moved_ruled m) (settle n s.pair q.term) (settle n (m.level s.pair) (moved m q.term))
    (settle_moved m n s.pair q.term l)
    (λ t. ap (λ z. ruled u (binds z q.next)) (bound_moved m s q.bindings t))

scanned_moved : (m : Moving) (n next : ℕ) (s : Side) (t : Term) → m.from ≤ s.pair → (r : Scanned) → scanned n next (moved_side m s) (moved m t) (moved_scanned m r) ≡ option_map (moved_ruled m) (scanned n next s t r)
scanned_moved m n next s t l (broken u) = refl
scanned_moved m n next s t l (whole u true ps) = refl
scanned_moved m n next s t l (whole u false ps) = bind_map (moved_pruned m) (settled n (moved_side m s) u) (settled n s u) (moved_ruled m) (prune n s next t) (prune n (moved_side m s) next (moved m t)) (prune_moved m n s next t l) (settled_moved m n s u l)

abbrev pub by_head : ℕ → (next : ℕ) → Side → Term → Bool → Option Ruled
by_head n next s t b = elim b [
  | true ↦ Some (ruled 0 delays)
  | false ↦ option_and_then (scanned n next s t) (scan n s false s.pair t)
]

by_head_moved : (m : Moving) (n next : ℕ) (s : Side) (t : Term) → m.from ≤ s.pair → (b : Bool) → by_head n next (moved_side m s) (moved m t) b ≡ option_map (moved_ruled m) (by_head n next s t b)
by_head_moved m n next s t l true = refl
by_head_moved m n next s t l false = bind_map (moved_scanned m) (scanned n next (moved_side m s) (moved m t)) (scanned n next s t) (moved_ruled m) (scan n s false s.pair t) (scan n (moved_side m s) false (m.level s.pair) (moved m t)) (scan_moved m n s false s.pair t l) (scanned_moved m n next s t l)

solve_for_moved : (m : Moving) (n next : ℕ) (s : Side) (t : Term) (v : Look) → m.from ≤ s.pair → solve_for n next (moved_side m s) (moved m t) (moved_look m v) ≡ option_map (moved_ruled m) (solve_for n next s t v)
solve_for_moved m n next s t v l = ap (by_head n next (moved_side m s) (moved m t)) (has_head_moved m s v) ∙ by_head_moved m n next s t l (has_head s v)

-- a side of the pair p
abbrev sides : (level : ℕ) → (x l : ℕ) → List ℕ → Side
sides k x l a = record { id = x; level = l; arguments = a; pair = k }

side_of : (m : Moving) (p : Pair) (x l : ℕ) (o : Option (List ℕ)) → option_map (sides (m.level p.level) x (m.level l)) (option_map (map m.eigen) o) ≡ option_map (moved_side m) (option_map (sides p.level x l) o)
side_of m p x l None = refl
side_of m p x l (Some a) = refl

pattern_side_moved : (m : Moving) (n : ℕ) (p : Pair) (v : Look) → pattern_side n (moved_pair m p) (moved_look m v) ≡ option_map (option_map (moved_side m)) (pattern_side n p v)
pattern_side_moved m n p (an_abs b) = refl
pattern_side_moved m n p (rigid h ts) = refl
pattern_side_moved m n p (flexible x l ts) =
    map_map (option_map (map m.eigen)) (option_map (sides (m.level p.level) x (m.level l))) (option_map (sides p.level x l)) (option_map (moved_side m)) (pattern_of n l ts) (pattern_of n (m.level l) (moved_all m ts)) (pattern_moved m n l ts) (side_of m p x l)

-- a side that is found has the level of its pair
abbrev IsSideOf : Pair → Option Side → Type 0
IsSideOf p None = Unit {0}
IsSideOf p (Some s) = s.pair ≡ p.level

abbrev AreSidesOf : Pair → Option (Option Side) → Type 0
AreSidesOf p None = Unit {0}
AreSidesOf p (Some o) = IsSideOf p o

pattern_sides : (n : ℕ) (p : Pair) (v : Look) → AreSidesOf p (pattern_side n p v)
pattern_sides n p (an_abs b) = tt
pattern_sides n p (rigid h ts) = tt
pattern_sides n p (flexible x l ts) = go (pattern_of n l ts)
  where
    go : (o : Option (Option (List ℕ))) → AreSidesOf p (option_map (option_map (sides p.level x l)) o)
    go None = tt
    go (Some None) = tt
    go (Some (Some a)) = refl

side_level : (m : Moving) (p : Pair) (s : Side) → m.from ≤ p.level → s.pair ≡ p.level → m.from ≤ s.pair
side_level m p s l e = rw e l

by_pattern_moved : (m : Moving) (n next : ℕ) (p : Pair) (v w : Look) → m.from ≤ p.level → (a b : Option Side) → IsSideOf p a → IsSideOf p b →
    by_pattern n next (moved_pair m p) (moved_look m v) (moved_look m w) (option_map (moved_side m) a) (option_map (moved_side m) b) ≡ option_map
    (moved_ruled m) (by_pattern n next p v w a b)
by_pattern_moved m n next p v w l (Some s) b h g = solve_for_moved m n next s p.right w (side_level m p s l h)
by_pattern_moved m n next p v w l None (Some s) h g = solve_for_moved m n next s p.left v (side_level m p s l g)
by_pattern_moved m n next p v w l None None h g = refl

-- a bind over what has a property
bind_with : {A B C D : Type 0} (P : A → Type 0) (f : A → B) (g : B → Option D) (h : A → Option C) (k : C → D) (o : Option A) (o' : Option B) → o' ≡
    option_map f o → (elim o as (λ x. Type 0) [ None ↦ Unit {0} | Some a ↦ P a ]) → ((a : A) → P a → g (f a) ≡ option_map k (h a)) → option_and_then g
    o' ≡ option_map k (option_and_then h o)
bind_with P f g h k None o' e w q = ap (option_and_then g) e
bind_with P f g h k (Some a) o' e w q = ap (option_and_then g) e ∙ q a w

found_sides : (p : Pair) (o : Option (Option Side)) → AreSidesOf p o → (elim o as (λ x. Type 0) [ None ↦ Unit {0} | Some a ↦ IsSideOf p a ])
found_sides p None w = tt
found_sides p (Some o) w = w

rule_5_moved : (m : Moving) (n next : ℕ) (p : Pair) (v w : Look) → m.from ≤ p.level → by_rule_5 n next (moved_pair m p) (moved_look m v) (moved_look m w) ≡ option_map (moved_ruled m) (by_rule_5 n next p v w)
rule_5_moved m n next p v w l =
    bind_with (IsSideOf p) (option_map (moved_side m)) (λ a. option_and_then (λ b. by_pattern n next (moved_pair m p) (moved_look m v) (moved_look m w) a b) (pattern_side n (moved_pair m p) (moved_look m w)))
    (λ a. option_and_then (λ b. by_pattern n next p v w a b) (pattern_side n p w)) (moved_ruled m) (pattern_side n p v) (pattern_side n (moved_pair m p) (moved_look m v)) (pattern_side_moved m n p v) (found_sides p (pattern_side n p v) (pattern_sides n p v))
    (λ a h. bind_with (IsSideOf p) (option_map (moved_side m)) (λ b. by_pattern n next (moved_pair m p) (moved_look m v) (moved_look m w)
    (option_map (moved_side m) a) b) (λ b. by_pattern n next p v w a b) (moved_ruled m) (pattern_side n p w)
    (pattern_side n (moved_pair m p) (moved_look m w)) (pattern_side_moved m n p w) (found_sides p (pattern_side n p w) (pattern_sides n p w))
    (λ b g. by_pattern_moved m n next p v w l a b h g))

if_agreeing : (m : Moving) (b : Bool) (c : ℕ) (cs : List ℕ) → (if b then m.eigen c ∷ map m.eigen cs else map m.eigen cs) ≡ map m.eigen (if b then c ∷ cs else cs)
if_agreeing m true c cs = refl
if_agreeing m false c cs = refl

agreeing_moved : (m : Moving) (cs ds : List ℕ) → agreeing (map m.eigen cs) (map m.eigen ds) ≡ map m.eigen (agreeing cs ds)
agreeing_moved m [] ds = refl
agreeing_moved m (c ∷ cs) [] = refl
agreeing_moved m (c ∷ cs) (d ∷ ds) = (λ i. if m.same_eigens c d i then m.eigen c ∷ agreeing_moved m cs ds i else agreeing_moved m cs ds i) ∙ if_agreeing m (nat_eq c d) c (agreeing cs ds)

abbrev pub both_patterns : ℕ → (next : ℕ) → Pair → (x l : ℕ) → (ts us : List Term) → Option (List ℕ) → Option (List ℕ) → Option Ruled
both_patterns n next p x l ts us a b = elim a [
  | None ↦ by_rule_5 n next p (flexible x l ts) (flexible x l us)
  | Some a ↦ elim b [
    | None ↦ by_rule_5 n next p (flexible x l ts) (flexible x l us)
    | Some b ↦ Some (ruled 0 (joined next x l a b))
  ]
]

both_moved : (m : Moving) (n next : ℕ) (p : Pair) (x l : ℕ) (ts us : List Term) → m.from ≤ p.level → (a b : Option (List ℕ)) → both_patterns n next
    (moved_pair m p) x (m.level l) (moved_all m ts) (moved_all m us) (option_map (map m.eigen) a) (option_map (map m.eigen) b) ≡ option_map
    (moved_ruled m) (both_patterns n next p x l ts us a b)
both_moved m n next p x l ts us h None b = rule_5_moved m n next p (flexible x l ts) (flexible x l us) h
both_moved m n next p x l ts us h (Some a) None = rule_5_moved m n next p (flexible x l ts) (flexible x l us) h
both_moved m n next p x l ts us h (Some a) (Some b) =
    ap (λ z. Some (ruled 0 (binds (z ∷ []) (suc next)))) (ap (λ c. made (map m.eigen a) c) (agreeing_moved m a b) ∙ renewed_moved m next x l l a (agreeing a b))
  where
    made : List ℕ → List ℕ → Binding
    made q c = record { id = x; level = m.level l; value = abstracted q (apply (atom (logic next (m.level l))) (eigens c)) }

rule_4_moved : (m : Moving) (n next : ℕ) (p : Pair) (x l : ℕ) (ts us : List Term) → m.from ≤ p.level → by_rule_4 n next (moved_pair m p) x (m.level l) (moved_all m ts) (moved_all m us) ≡ option_map (moved_ruled m) (by_rule_4 n next p x l ts us)
rule_4_moved m n next p x l ts us h =
    bind_map (option_map (map m.eigen)) (λ a. option_and_then (λ b. both_patterns n next (moved_pair m p) x (m.level l) (moved_all m ts) (moved_all m us) a b) (pattern_of n (m.level l) (moved_all m us)))
    (λ a. option_and_then (λ b. both_patterns n next p x l ts us a b) (pattern_of n l us)) (moved_ruled m) (pattern_of n l ts) (pattern_of n (m.level l) (moved_all m ts)) (pattern_moved m n l ts)
    (λ a. bind_map (option_map (map m.eigen)) (λ b. both_patterns n next (moved_pair m p) x (m.level l) (moved_all m ts) (moved_all m us)
    (option_map (map m.eigen) a) b) (λ b. both_patterns n next p x l ts us a b) (moved_ruled m) (pattern_of n l us)
    (pattern_of n (m.level l) (moved_all m us)) (pattern_moved m n l us)
    (λ b. both_moved m n next p x l ts us h a b))

-- all rules
opened_moved : (m : Moving) (p : Pair) → m.from ≤ p.level → opened (moved_pair m p) ≡ moved_pair m (opened p)
opened_moved m p h = λ i. record { left = open_with (sym (m.next p.level h) i) (moved m p.left); right = open_with (sym (m.next p.level h) i) (moved m p.right); level = sym (m.next_level p.level h) i }

by_opened : (m : Moving) (p : Pair) → m.from ≤ p.level → ◌≡◌ {A = Option Ruled} (Some (ruled 0 (gives [] (opened (moved_pair m p) ∷ [])))) (option_map (moved_ruled m) (Some (ruled 0 (gives [] (opened p ∷ [])))))
by_opened m p h = ap (λ z. Some (ruled 0 (gives [] (z ∷ [])))) (opened_moved m p h)

abbrev pub at_compared : Option Ruled → Compared → Option Ruled
at_compared o c = elim c.same [
  | true ↦ Some (ruled c.units (gives [] []))
  | false ↦ option_map (dear c.units) o
]

abbrev pub at_variables : (compared : Option Compared) → (four five : Option Ruled) → Bool → Option Ruled
at_variables c o q b = elim b [
  | true ↦ option_and_then (at_compared o) c
  | false ↦ q
]

dear_moved : (m : Moving) (u : ℕ) (o : Option Ruled) → option_map (dear u) (option_map (moved_ruled m) o) ≡ option_map (moved_ruled m) (option_map (dear u) o)
dear_moved m u None = refl
dear_moved m u (Some r) = refl

compared_moved : (m : Moving) (o : Option Ruled) (c : Compared) (b : Bool) → (elim b as (λ x. Option Ruled)
    [ true ↦ Some (ruled c.units (gives [] [])) | false ↦ option_map (dear c.units) (option_map (moved_ruled m) o) ]) ≡ option_map (moved_ruled m)
    (elim b as (λ x. Option Ruled) [ true ↦ Some (ruled c.units (gives [] [])) | false ↦ option_map (dear c.units) o ])
compared_moved m o c true = refl
compared_moved m o c false = dear_moved m c.units o

at_variables_moved : (m : Moving) (c : Option Compared) (o q : Option Ruled) (b : Bool) → at_variables c (option_map (moved_ruled m) o) (option_map (moved_ruled m) q) b ≡ option_map (moved_ruled m) (at_variables c o q b)
at_variables_moved m None o q true = refl
at_variables_moved m (Some c) o q true = compared_moved m o c c.same
at_variables_moved m c o q false = refl

by_looks_moved : (m : Moving) (n next : ℕ) (p : Pair) → m.from ≤ p.level → (v w : Look) → by_looks n next (moved_pair m p) (moved_look m v) (moved_look m w) ≡ option_map (moved_ruled m) (by_looks n next p v w)
by_looks_moved m n next p h (an_abs b) w = by_opened m p h
by_looks_moved m n next p h (rigid g ts) (an_abs c) = by_opened m p h
by_looks_moved m n next p h (flexible x l ts) (an_abs c) = by_opened m p h
by_looks_moved m n next p h (rigid f ts) (rigid g us) = decompose_moved m n p.level f ts g us
by_looks_moved m n next p h (rigid f ts) (flexible y j us) = rule_5_moved m n next p (rigid f ts) (flexible y j us) h
by_looks_moved m n next p h (flexible x l ts) (rigid g us) = rule_5_moved m n next p (flexible x l ts) (rigid g us) h
by_looks_moved m n next p h (flexible x l ts) (flexible y j us) =
    (λ i. at_variables (compare_all_moved m n p.level ts us h i) (rule_4_moved m n next p x l ts us h i) (rule_5_moved m n next p (flexible x l ts) (flexible y j us) h i) (nat_eq x y && m.same_levels l j i && nat_eq (length_moved m ts i) (length_moved m us i))) ∙
    at_variables_moved m (compare_all n p.level ts us) (by_rule_4 n next p x l ts us) (by_rule_5 n next p (flexible x l ts) (flexible y j us)) (nat_eq x y && nat_eq l j && nat_eq (length ts) (length us))

pub rule_moved : (m : Moving) (n next : ℕ) (p : Pair) → m.from ≤ p.level → rule n next (moved_pair m p) ≡ option_map (moved_ruled m) (rule n next p)
rule_moved m n next p h =
    bind_map (moved_look m) (λ v. option_and_then (λ w. by_looks n next (moved_pair m p) v w) (look n (moved m p.right))) (λ v. option_and_then (λ w. by_looks n next p v w) (look n p.right)) (moved_ruled m) (look n p.left) (look n (moved m p.left)) (look_moved m n p.left)
    (λ v. bind_map (moved_look m) (λ w. by_looks n next (moved_pair m p) (moved_look m v) w) (λ w. by_looks n next p v w) (moved_ruled m) (look n p.right) (look n (moved m p.right)) (look_moved m n p.right) (λ w. by_looks_moved m n next p h v w))
