-- Looks that leave an abstraction as it is, and the definition's scan by them. Each look takes fewer than `limit` steps.
use Rattle.std.specs.Prelude.{ℕ, zero, suc, not, Bool, true, false, ◌||◌, List, [], ◌∷◌, Option, Some, None, option_map, nat_lt}
use Rattle.lp_calculus.specs.Term.{Term, atom, eigen, substitute}
use Rattle.lp_model.specs.Look.{◌>>=◌, Look, an_abs, rigid, flexible, looked, pattern_of, top_normal}
use Rattle.lp_model.specs.Scan.{Side, is_side, allows_head, Scanned, broken, whole, above, beside, scanned_pattern}

abbrev pub top_look : ℕ → Term → Option Look
top_look n t = option_map (λ s. looked s []) (top_normal n t)

abbrev mutual
  pub scan_top : (limit n : ℕ) → Side → (inside : Bool) → (k : ℕ) → Term → Option Scanned
  scan_top limit zero s inside k t = None
  scan_top limit (suc n) s inside k t = top_look limit t >>= λ v. elim v [
    | an_abs b ↦ scan_top limit n s inside (suc k) (substitute (atom (eigen (suc k))) b)
    | rigid h ts ↦ elim (allows_head s h || inside) [
      | true ↦ option_map (above (not (allows_head s h))) (scan_tops limit n s inside k ts)
      | false ↦ Some (broken 1)
    ]
    | flexible y m ts ↦ pattern_of limit m ts >>= λ o. elim o [
      | Some b ↦ Some (scanned_pattern s inside y m b)
      | None ↦ option_map (above (is_side s y m || nat_lt s.level m)) (scan_tops limit n s true k ts)
    ]
  ]

  pub scan_tops : (limit n : ℕ) → Side → (inside : Bool) → (k : ℕ) → List Term → Option Scanned
  scan_tops limit zero s inside k ts = None
  scan_tops limit (suc n) s inside k [] = Some (whole 0 false [])
  scan_tops limit (suc n) s inside k (t ∷ ts) = scan_top limit n s inside k t >>= λ r. elim r [
    | broken u ↦ Some (broken u)
    | whole u d ps ↦ option_map (beside u d ps) (scan_tops limit n s inside k ts)
  ]

-- the scan behind the look
abbrev pub scan_seen : (limit n : ℕ) → Side → (inside : Bool) → (k : ℕ) → Look → Option Scanned
scan_seen limit n s inside k (an_abs b) = scan_top limit n s inside (suc k) (substitute (atom (eigen (suc k))) b)
scan_seen limit n s inside k (rigid h ts) = elim (allows_head s h || inside) [
  | true ↦ option_map (above (not (allows_head s h))) (scan_tops limit n s inside k ts)
  | false ↦ Some (broken 1)
]
scan_seen limit n s inside k (flexible y m ts) = pattern_of limit m ts >>= λ o. elim o [
  | Some b ↦ Some (scanned_pattern s inside y m b)
  | None ↦ option_map (above (is_side s y m || nat_lt s.level m)) (scan_tops limit n s true k ts)
]
