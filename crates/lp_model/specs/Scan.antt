-- The scan of the other side, pruning and lowering, and the term that the variable becomes.
use Rattle.std.specs.Prelude.{ℕ, zero, suc, ◌+◌, min, nat_lt, nat_le, nat_eq, not, Bool, true, false, ◌&&◌, ◌||◌, if◌then◌else◌, List, [], ◌∷◌, ◌++◌, Option, Some, None, option_map}
use Rattle.lp_calculus.specs.Term.{Term, atom, app, apply, substitute, eigen, logic}
use Rattle.lp_calculus.specs.Fill.{Binding, put, abstraction, abstracted}
use Rattle.lp_model.specs.Patterns.{eigens, member, chosen}
use Rattle.lp_model.specs.Look.{◌>>=◌, an_abs, rigid, flexible, look, pattern_of}

-- a variable of a level on distinct eigenconstants, in a pair of a level
pub record Side : Type 0 where
  pub id : ℕ
  pub level : ℕ
  pub arguments : List ℕ
  pub pair : ℕ

abbrev pub is_side : Side → (id level : ℕ) → Bool
is_side s y m = nat_eq y s.id && nat_eq m s.level

-- eigenconstants above the pair's level are local
abbrev pub allows : Side → ℕ → Bool
allows s k = nat_le k s.level || member k s.arguments || nat_lt s.pair k

abbrev pub allow : Side → List ℕ → Bool
allow s [] = true
allow s (k ∷ ks) = allows s k && allow s ks

abbrev pub allows_head : Side → Term → Bool
allows_head s (atom (eigen k)) = allows s k
allows_head s h = true

-- a variable on eigenconstants
pub record Pattern : Type 0 where
  pub id : ℕ
  pub level : ℕ
  pub arguments : List ℕ

abbrev pub pattern : (id level : ℕ) → List ℕ → Pattern
pattern y m b = record { id = y; level = m; arguments = b }

abbrev pub pattern_term : Pattern → Term
pattern_term p = apply (atom (logic p.id p.level)) (eigens p.arguments)

pub data Scanned : Type 0 where
  broken : (units : ℕ) → Scanned
  whole : (units : ℕ) → (delayed : Bool) → (patterns : List Pattern) → Scanned

-- a node whose parts were scanned
abbrev pub above : Bool → Scanned → Scanned
above d (broken n) = broken (suc n)
above d (whole n e ps) = whole (suc n) (d || e) ps

abbrev pub beside : ℕ → Bool → List Pattern → Scanned → Scanned
beside n d ps (broken m) = broken (n + m)
beside n d ps (whole m e qs) = whole (n + m) (d || e) (ps ++ qs)

-- a pattern
abbrev pub scanned_pattern : Side → (inside : Bool) → (id level : ℕ) → List ℕ → Scanned
scanned_pattern s true y m b =
    whole 1 (is_side s y m || nat_lt s.level m || not (allow s b)) (pattern y m b ∷ [])
scanned_pattern s false y m b =
    if is_side s y m then broken 1 else whole 1 false (pattern y m b ∷ [])

-- depth first, left to right; `inside` a flexible term that is no pattern nothing fails; k is the last eigenconstant
abbrev mutual
  pub scan : ℕ → Side → (inside : Bool) → (k : ℕ) → Term → Option Scanned
  scan zero s inside k t = None
  scan (suc n) s inside k t = look n t >>= λ v. elim v [
    | an_abs b ↦ scan n s inside (suc k) (substitute (atom (eigen (suc k))) b)
    | rigid h ts ↦ elim (allows_head s h || inside) [
      | true ↦ option_map (above (not (allows_head s h))) (scan_all n s inside k ts)
      | false ↦ Some (broken 1)
    ]
    | flexible y m ts ↦ pattern_of n m ts >>= λ o. elim o [
      | Some b ↦ Some (scanned_pattern s inside y m b)
      | None ↦ option_map (above (is_side s y m || nat_lt s.level m)) (scan_all n s true k ts)
    ]
  ]

  pub scan_all : ℕ → Side → (inside : Bool) → (k : ℕ) → List Term → Option Scanned
  scan_all zero s inside k ts = None
  scan_all (suc n) s inside k [] = Some (whole 0 false [])
  scan_all (suc n) s inside k (t ∷ ts) = scan n s inside k t >>= λ r. elim r [
    | broken u ↦ Some (broken u)
    | whole u d ps ↦ option_map (beside u d ps) (scan_all n s inside k ts)
  ]

abbrev pub fits : Side → Pattern → Bool
fits s p = nat_le p.level s.level && allow s p.arguments

abbrev pub first_misfit : Side → List Pattern → Option Pattern
first_misfit s [] = None
first_misfit s (p ∷ ps) = if fits s p then first_misfit s ps else Some p

-- y of level m, on b, gives way to a new variable of level l, on cs
abbrev pub renewed : (next y m l : ℕ) → (b cs : List ℕ) → Binding
renewed next y m l b cs = record { id = y; level = m; value = abstracted b (pattern_term (pattern next l cs)) }

-- lowering and pruning
abbrev pub renewal : Side → (next : ℕ) → Pattern → Binding
renewal s next p = renewed next p.id p.level (min s.level p.level) p.arguments (chosen (λ k. nat_le k p.level) s.arguments ++ chosen (allows s) p.arguments)

pub record Pruned : Type 0 where
  pub bindings : List Binding
  pub next : ℕ
  pub term : Term

abbrev pub led_by : Binding → Pruned → Pruned
led_by b r = record { bindings = b ∷ r.bindings; next = r.next; term = r.term }

-- as long as a pattern in the term, left to right, does not fit it is changed. The scan is the one before: it neither fails nor delays
abbrev pub prune : ℕ → Side → (next : ℕ) → Term → Option Pruned
prune zero s next t = None
prune (suc n) s next t = scan n s false s.pair t >>= λ r. elim r [
  | broken u ↦ None
  | whole u true ps ↦ None
  | whole u false ps ↦ elim (first_misfit s ps) [
    | None ↦ Some (record { bindings = []; next = next; term = t })
    | Some p ↦ option_map (led_by (renewal s next p)) (prune n s (suc next) (put (renewal s next p) t))
  ]
]

-- the beta-normal form, patterns standing on the eigenconstants themselves
abbrev mutual
  pub settle : ℕ → (k : ℕ) → Term → Option Term
  settle zero k t = None
  settle (suc n) k t = look n t >>= λ v. elim v [
    | an_abs b ↦ option_map (abstraction (suc k)) (settle n (suc k) (substitute (atom (eigen (suc k))) b))
    | rigid h ts ↦ settle_all n k h ts
    | flexible y m ts ↦ pattern_of n m ts >>= λ o. elim o [
      | Some b ↦ Some (apply (atom (logic y m)) (eigens b))
      | None ↦ settle_all n k (atom (logic y m)) ts
    ]
  ]

  pub settle_all : ℕ → (k : ℕ) → Term → List Term → Option Term
  settle_all zero k h ts = None
  settle_all (suc n) k h [] = Some h
  settle_all (suc n) k h (t ∷ ts) = settle n k t >>= λ u. settle_all n k (app h u) ts
