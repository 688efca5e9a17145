-- Steps of a scan: a part gives way to its parts, with what is noted and the units between.
use Rattle.std.proofs.Common.{ℕ, zero, suc, ◌≤◌, List, [], ◌∷◌, map, ◌∙◌, sym, arith, Bool, true, Option, Some, None, ◌||◌}
use Rattle.std.specs.Prelude.{option_map, not, nat_lt}
use Rattle.lp_calculus.specs.Term.{Term, atom, eigen, substitute}
use Rattle.lp_model.specs.Look.{Look, an_abs, rigid, flexible, pattern_of}
use Rattle.lp_model.specs.Scan.{Side, is_side, allows_head, Scanned, broken, whole, above, beside, scanned_pattern}
use Rattle.lp_pattern.specs.TopLooks.{top_look, scan_top, scan_seen, scan_tops}
use Rattle.lp_pattern.specs.Visiting.{Part, scan_parts}
use Rattle.lp_unify_laws.proofs.MoreSteps.Scans.{Below, below_none, below_same, below_then, below_map}
use Rattle.lp_pattern.proofs.TopScans.{top_is, below_elim}

-- more turns change no answer
seen_more : (limit n m : ℕ) (s : Side) (inside : Bool) (k : ℕ) (v : Look) → ((k : ℕ) (t : Term) → Below (scan_top limit n s inside k t) (scan_top limit m s inside k t)) →
    ((inside : Bool) (ts : List Term) → Below (scan_tops limit n s inside k ts) (scan_tops limit m s inside k ts)) → Below (scan_seen limit n s inside k v) (scan_seen limit m s inside k v)
seen_more limit n m s inside k (an_abs b) f g = f (suc k) (substitute (atom (eigen (suc k))) b)
seen_more limit n m s inside k (rigid h ts) f g = below_elim (allows_head s h || inside) _ _ _ (below_map (scan_tops limit n s inside k ts) (scan_tops limit m s inside k ts) (above (not (allows_head s h))) (g inside ts))
seen_more limit n m s inside k (flexible y l ts) f g = below_then (pattern_of limit l ts) (pattern_of limit l ts) _ _ (below_same _) λ o. go o
  where
    go : (o : Option (List ℕ)) → Below (elim o as (λ z. Option Scanned) [ None ↦ option_map (above (is_side s y l || nat_lt s.level l)) (scan_tops limit n s true k ts) | Some b ↦ Some (scanned_pattern s inside y l b) ])
        (elim o as (λ z. Option Scanned) [ None ↦ option_map (above (is_side s y l || nat_lt s.level l)) (scan_tops limit m s true k ts) | Some b ↦ Some (scanned_pattern s inside y l b) ])
    go None = below_map (scan_tops limit n s true k ts) (scan_tops limit m s true k ts) _ (g true ts)
    go (Some b) = below_same _

behind_more : (limit n m : ℕ) (s : Side) (inside : Bool) (k : ℕ) (ts : List Term) (r : Scanned) → Below (scan_tops limit n s inside k ts) (scan_tops limit m s inside k ts) →
    Below (elim r as (λ z. Option Scanned) [ broken u ↦ Some (broken u) | whole u d ps ↦ option_map (beside u d ps) (scan_tops limit n s inside k ts) ])
    (elim r as (λ z. Option Scanned) [ broken u ↦ Some (broken u) | whole u d ps ↦ option_map (beside u d ps) (scan_tops limit m s inside k ts) ])
behind_more limit n m s inside k ts (broken u) h = below_same _
behind_more limit n m s inside k ts (whole u d ps) h = below_map (scan_tops limit n s inside k ts) (scan_tops limit m s inside k ts) (beside u d ps) h

mutual
  pub top_more : (limit n m : ℕ) → n ≤ m → (s : Side) (inside : Bool) (k : ℕ) (t : Term) → Below (scan_top limit n s inside k t) (scan_top limit m s inside k t)
  top_more limit zero m l s inside k t = below_none (scan_top limit m s inside k t)
  top_more limit (suc n) zero l s inside k t = absurd (omega (arith, l))
  top_more limit (suc n) (suc m) l s inside k t = λ r e.
      top_is limit m s inside k t ∙
      below_then (top_look limit t) (top_look limit t) (scan_seen limit n s inside k) (scan_seen limit m s inside k) (below_same _)
      (λ v. seen_more limit n m s inside k v (λ j u. top_more limit n m (omega (arith, l)) s inside j u) (λ d us. tops_more limit n m (omega (arith, l)) s d k us)) r (sym (top_is limit n s inside k t) ∙ e)

  pub tops_more : (limit n m : ℕ) → n ≤ m → (s : Side) (inside : Bool) (k : ℕ) (ts : List Term) → Below (scan_tops limit n s inside k ts) (scan_tops limit m s inside k ts)
  tops_more limit zero m l s inside k ts = below_none (scan_tops limit m s inside k ts)
  tops_more limit (suc n) zero l s inside k ts = absurd (omega (arith, l))
  tops_more limit (suc n) (suc m) l s inside k [] = below_same _
  tops_more limit (suc n) (suc m) l s inside k (t ∷ ts) =
      below_then (scan_top limit n s inside k t) (scan_top limit m s inside k t) _ _ (top_more limit n m (omega (arith, l)) s inside k t)
      (λ r. behind_more limit n m s inside k ts r (tops_more limit n m (omega (arith, l)) s inside k ts))

-- parts
abbrev behind : ℕ → ℕ → Side → List Part → Scanned → Option Scanned
behind limit n s ps r = elim r [ broken u ↦ Some (broken u) | whole u d qs ↦ option_map (beside u d qs) (scan_parts limit n s ps) ]

behind_below : (limit n m : ℕ) (s : Side) (ps qs : List Part) (r : Scanned) → Below (scan_parts limit n s ps) (scan_parts limit m s qs) → Below (behind limit n s ps r) (behind limit m s qs r)
behind_below limit n m s ps qs (broken u) h = below_same _
behind_below limit n m s ps qs (whole u d os) h = below_map (scan_parts limit n s ps) (scan_parts limit m s qs) (beside u d os) h

pub parts_more : (limit n m : ℕ) → n ≤ m → (s : Side) (ps : List Part) → Below (scan_parts limit n s ps) (scan_parts limit m s ps)
parts_more limit n m l s [] = below_same _
parts_more limit n m l s (p ∷ ps) =
    below_then (scan_top limit n s p.inside p.last p.term) (scan_top limit m s p.inside p.last p.term) _ _ (top_more limit n m l s p.inside p.last p.term)
    (λ r. behind_below limit n m s ps ps r (parts_more limit n m l s ps))

abbrev pub args_of : (inside : Bool) → (k : ℕ) → List Term → List Part
args_of inside k ts = map (λ t. record { inside = inside; last = k; term = t }) ts

pub tops_parts : (limit n : ℕ) (s : Side) (inside : Bool) (k : ℕ) (ts : List Term) → Below (scan_tops limit n s inside k ts) (scan_parts limit n s (args_of inside k ts))
tops_parts limit zero s inside k ts = below_none (scan_parts limit zero s (args_of inside k ts))
tops_parts limit (suc n) s inside k [] = below_same _
tops_parts limit (suc n) s inside k (t ∷ ts) =
    below_then (scan_top limit n s inside k t) (scan_top limit (suc n) s inside k t) _ _ (top_more limit n (suc n) (omega arith) s inside k t)
    (λ r. go r (λ x e. parts_more limit n (suc n) (omega arith) s (args_of inside k ts) x (tops_parts limit n s inside k ts x e)))
  where
    go : (r : Scanned) → Below (scan_tops limit n s inside k ts) (scan_parts limit (suc n) s (args_of inside k ts)) →
        Below (elim r as (λ z. Option Scanned) [ broken u ↦ Some (broken u) | whole u d ps ↦ option_map (beside u d ps) (scan_tops limit n s inside k ts) ]) (behind limit (suc n) s (args_of inside k ts) r)
    go (broken u) h = below_same _
    go (whole u d ps) h = below_map (scan_tops limit n s inside k ts) (scan_parts limit (suc n) s (args_of inside k ts)) (beside u d ps) h
