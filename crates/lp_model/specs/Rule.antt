-- The six rules for one pair.
use Rattle.std.specs.Prelude.{ℕ, zero, suc, ◌+◌, nat_eq, Bool, true, false, ◌&&◌, List, [], ◌∷◌, ◌++◌, length, map, Option, Some, None, option_map}
use Rattle.lp_calculus.specs.Term.{Term, atom, app, apply, constant, eigen, logic, param}
use Rattle.lp_calculus.specs.Fill.{Binding, abstracted}
use Rattle.lp_model.specs.Patterns.{eigens, agreeing}
use Rattle.lp_model.specs.Same.{same_name}
use Rattle.lp_model.specs.Types.{TypeBinding, TypePair, TypeOutcome, none, solved, solve_types, zipped, same_top}
use Rattle.lp_model.specs.Look.{◌>>=◌, Look, an_abs, rigid, flexible, look, pattern_of}
use Rattle.lp_model.specs.Pair.{Pair, put_types_in}
use Rattle.lp_model.specs.Scan.{Side, is_side, broken, whole, scan, prune, settle}

pub record Compared : Type 0 where
  pub same : Bool
  pub units : ℕ

abbrev pub dearer : ℕ → Compared → Compared
dearer n c = record { same = c.same; units = n + c.units }

abbrev pub open_with : ℕ → Term → Term
open_with k t = app t (atom (eigen k))

-- the type arguments of two heads
abbrev pub type_pairs : Term → Term → List TypePair
type_pairs (atom (constant c ts)) (atom (constant d us)) = zipped ts us
type_pairs (atom (param k t)) (atom (param l u)) = record { left = t; right = u } ∷ []
type_pairs h g = []

-- types are the same, depth first, left to right, until two differ; a pair of types is a unit
abbrev pub compare_types : ℕ → List TypePair → Option Compared
compare_types zero ps = None
compare_types (suc n) [] = Some (record { same = true; units = 0 })
compare_types (suc n) (p ∷ ps) = elim (same_top p.left p.right) [
  | None ↦ Some (record { same = false; units = 1 })
  | Some qs ↦ option_map (dearer 1) (compare_types n (qs ++ ps))
]

-- up to conversion, left to right, until one differs; a pair of heads is a unit
abbrev mutual
  pub compare : ℕ → (k : ℕ) → Term → Term → Option Compared
  compare zero k t u = None
  compare (suc n) k t u = look n t >>= λ v. look n u >>= λ w. compare_looks n k t u v w

  pub compare_looks : ℕ → (k : ℕ) → Term → Term → Look → Look → Option Compared
  compare_looks zero k t u v w = None
  compare_looks (suc n) k t u (an_abs b) w = compare n (suc k) (open_with (suc k) t) (open_with (suc k) u)
  compare_looks (suc n) k t u v (an_abs c) = compare n (suc k) (open_with (suc k) t) (open_with (suc k) u)
  compare_looks (suc n) k t u (rigid h ts) (rigid g us) = elim (same_name h g && nat_eq (length ts) (length us)) [
    | true ↦ compare_types n (type_pairs h g) >>= λ c. elim c.same [
      | true ↦ option_map (dearer (suc c.units)) (compare_all n k ts us)
      | false ↦ Some (dearer 1 c)
    ]
    | false ↦ Some (record { same = false; units = 1 })
  ]
  compare_looks (suc n) k t u (flexible x l ts) (flexible y m us) = elim (nat_eq x y && nat_eq l m && nat_eq (length ts) (length us)) [
    | true ↦ option_map (dearer 1) (compare_all n k ts us)
    | false ↦ Some (record { same = false; units = 1 })
  ]
  compare_looks (suc n) k t u (rigid h ts) (flexible y m us) = Some (record { same = false; units = 1 })
  compare_looks (suc n) k t u (flexible x l ts) (rigid g us) = Some (record { same = false; units = 1 })

  pub compare_all : ℕ → (k : ℕ) → List Term → List Term → Option Compared
  compare_all zero k ts us = None
  compare_all (suc n) k [] us = Some (record { same = true; units = 0 })
  compare_all (suc n) k (t ∷ ts) [] = Some (record { same = true; units = 0 })
  compare_all (suc n) k (t ∷ ts) (u ∷ us) = compare n k t u >>= λ c. elim c.same [
    | true ↦ option_map (dearer c.units) (compare_all n k ts us)
    | false ↦ Some c
  ]

pub data Verdict : Type 0 where
  fails : Verdict
  -- these types for type variables, and these pairs in its place, in front
  gives : List TypeBinding → List Pair → Verdict
  binds : List Binding → (next : ℕ) → Verdict
  delays : Verdict

pub record Ruled : Type 0 where
  pub verdict : Verdict
  pub units : ℕ

abbrev pub ruled : ℕ → Verdict → Ruled
ruled n v = record { verdict = v; units = n }

-- a list of arguments against another of the same length
abbrev pub argument_pairs : ℕ → List Term → List Term → List Pair
argument_pairs level (t ∷ ts) (u ∷ us) = record { left = t; right = u; level = level } ∷ argument_pairs level ts us
argument_pairs level ts us = []

-- rule 2
abbrev pub opened : Pair → Pair
opened p = record { left = open_with (suc p.level) p.left; right = open_with (suc p.level) p.right; level = suc p.level }

abbrev pub with_types : (level : ℕ) → (ts us : List Term) → TypeOutcome → Ruled
with_types level ts us (none u) = ruled u fails
with_types level ts us (solved made u) = ruled u (gives made (argument_pairs level (map (put_types_in made) ts) (map (put_types_in made) us)))

-- rule 3: the type equations of the type arguments, solved at once, and the pairs of the arguments
abbrev pub decompose : ℕ → (level : ℕ) → Term → List Term → Term → List Term → Option Ruled
decompose n level h ts g us = elim (same_name h g && nat_eq (length ts) (length us)) [
  | true ↦ option_map (with_types level ts us) (solve_types n (type_pairs h g) [] 0)
  | false ↦ Some (ruled 0 fails)
]

-- rule 4
abbrev pub joined : (next x l : ℕ) → List ℕ → List ℕ → Verdict
joined next x l a b = binds (record {
  id = x;
  level = l;
  value = abstracted a (apply (atom (logic next l)) (eigens (agreeing a b)));
} ∷ []) (suc next)

-- rule 5, behind the scan
abbrev pub bound : Side → List Binding → Term → List Binding
bound s bs t = bs ++ record { id = s.id; level = s.level; value = abstracted s.arguments t } ∷ []

abbrev pub has_head : Side → Look → Bool
has_head s (flexible y m ts) = is_side s y m
has_head s v = false

-- rule 5
abbrev pub solve_for : ℕ → (next : ℕ) → Side → Term → Look → Option Ruled
solve_for n next s t v = elim (has_head s v) [
  | true ↦ Some (ruled 0 delays)
  | false ↦ scan n s false s.pair t >>= λ r. elim r [
    | broken u ↦ Some (ruled u fails)
    | whole u true ps ↦ Some (ruled u delays)
    | whole u false ps ↦ prune n s next t >>= λ r. option_map (λ t'. ruled u (binds (bound s r.bindings t') r.next)) (settle n s.pair r.term)
  ]
]

abbrev pub side : (id level : ℕ) → List ℕ → Pair → Side
side x l a p = record { id = x; level = l; arguments = a; pair = p.level }

-- rules 5 and 6, the left side a variable
abbrev pub by_pattern : ℕ → (next : ℕ) → Pair → (v w : Look) → (left right : Option Side) → Option Ruled
by_pattern n next p v w (Some s) r = solve_for n next s p.right w
by_pattern n next p v w None (Some s) = solve_for n next s p.left v
by_pattern n next p v w None None = Some (ruled 0 delays)

abbrev pub pattern_side : ℕ → Pair → Look → Option (Option Side)
pattern_side n p (flexible x l ts) = option_map (option_map (λ a. side x l a p)) (pattern_of n l ts)
pattern_side n p v = Some None

abbrev pub by_rule_5 : ℕ → (next : ℕ) → Pair → (v w : Look) → Option Ruled
by_rule_5 n next p v w = pattern_side n p v >>= λ a. pattern_side n p w >>= λ b. by_pattern n next p v w a b

-- rules 4, 5 and 6, on one variable
abbrev pub by_rule_4 : ℕ → (next : ℕ) → Pair → (x l : ℕ) → (ts us : List Term) → Option Ruled
by_rule_4 n next p x l ts us = pattern_of n l ts >>= λ a. pattern_of n l us >>= λ b. elim a [
  | None ↦ by_rule_5 n next p (flexible x l ts) (flexible x l us)
  | Some a ↦ elim b [
    | None ↦ by_rule_5 n next p (flexible x l ts) (flexible x l us)
    | Some b ↦ Some (ruled 0 (joined next x l a b))
  ]
]

abbrev pub dear : ℕ → Ruled → Ruled
dear n r = record { verdict = r.verdict; units = n + r.units }

abbrev pub by_looks : ℕ → (next : ℕ) → Pair → (v w : Look) → Option Ruled
by_looks n next p (an_abs b) w = Some (ruled 0 (gives [] (opened p ∷ [])))
by_looks n next p v (an_abs c) = Some (ruled 0 (gives [] (opened p ∷ [])))
by_looks n next p (rigid h ts) (rigid g us) = decompose n p.level h ts g us
by_looks n next p (rigid h ts) (flexible y m us) = by_rule_5 n next p (rigid h ts) (flexible y m us)
by_looks n next p (flexible x l ts) (rigid g us) = by_rule_5 n next p (flexible x l ts) (rigid g us)
by_looks n next p (flexible x l ts) (flexible y m us) = elim (nat_eq x y && nat_eq l m && nat_eq (length ts) (length us)) [
  | true ↦ compare_all n p.level ts us >>= λ c. elim c.same [
    | true ↦ Some (ruled c.units (gives [] []))
    | false ↦ option_map (dear c.units) (by_rule_4 n next p x l ts us)
  ]
  | false ↦ by_rule_5 n next p (flexible x l ts) (flexible y m us)
]

-- the first rule that applies to a pair, if n steps of each kind are enough
abbrev pub rule : ℕ → (next : ℕ) → Pair → Option Ruled
rule n next p = look n p.left >>= λ v. look n p.right >>= λ w. by_looks n next p v w
