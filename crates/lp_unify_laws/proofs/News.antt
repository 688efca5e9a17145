-- A new variable in the place of a pattern: a closing goes over to it.
use Rattle.std.proofs.Common.{◌≡◌, ℕ, suc, ◌<◌, ◌≤◌, List, [], ◌∷◌, ◌∙◌, refl, sym, ap, subst as transport, arith, Bool, true, false, nat_eq, if◌then◌else◌, ◌||◌}
use Rattle.std.specs.Prelude.{◌&&◌, nat_le}
use Rattle.std.proofs.lemmas.Bool.Decides.{nat_tests}
use Rattle.lp_calculus.specs.Term.{Term, atom, apply, Atom, constant, integer, text, eigen, logic, param}
use Rattle.lp_calculus.specs.Convert.{Converts}
use Rattle.lp_calculus.specs.Fill.{Within, close, abstracted}
use Rattle.lp_model.specs.Patterns.{eigens, member}
use Rattle.lp_model.specs.Look.{are_distinct, are_above}
use Rattle.lp_unify_laws.specs.Levels.{IsPairAtom, IsLevelAtom, IsClosing}
use Rattle.lp_unify_laws.specs.Right.{through}
use Rattle.lp_model.specs.Scan.{renewed}
use Rattle.lp_calculus.proofs.Fills.{within_more}
use Rattle.lp_calculus.proofs.Steps.{converts_on, converts_sym, converts_is}
use Rattle.lp_unify_laws.proofs.Abstractions.{Avoids, And, distinct_tells, closed_avoids, within_abstracted, abstracted_beta, abstracted_eta, converts_abstracted, close_abstracted, close_pattern}
use Rattle.lp_unify_laws.proofs.Sames.{both, same_number}
use Rattle.lp_unify_laws.proofs.Closings.{WithinAll, apply_within}

-- closed but for the eigenconstants of a list
abbrev pub Among : ℕ → List ℕ → Atom → Type 0
Among l cs (eigen k) = (nat_le k l || member k cs) ≡ true
Among l cs (logic x m) = ⊥
Among l cs (constant c ts) = Unit {0}
Among l cs (integer z) = Unit {0}
Among l cs (text s) = Unit {0}
Among l cs (param k t) = Unit {0}

pub avoids_member : (k : ℕ) (cs : List ℕ) → Avoids cs (eigen k) → member k cs ≡ false
avoids_member k [] h = refl
avoids_member k (c ∷ cs) h =
    let n : k ≡ c → ⊥ = h.0 in
    let p : nat_eq k c ≡ false = grind (arith, nat_tests) in
    let q = avoids_member k cs h.1 in
    rw (p, q)

or_left : (a b : Bool) → (a || b) ≡ true → b ≡ false → a ≡ true
or_left true b h e = refl
or_left false b h e = absurd (cc)

among_closed : (l : ℕ) (cs : List ℕ) (a : Atom) → Among l cs a × Avoids cs a → IsLevelAtom l a
among_closed l cs (eigen k) p = let q = or_left (nat_le k l) (member k cs) p.0 (avoids_member k cs p.1) in let r : k ≤ l = grind (arith, nat_tests) in r
among_closed l cs (logic x m) p = p.0
among_closed l cs (constant c ts) p = tt
among_closed l cs (integer z) p = tt
among_closed l cs (text s) p = tt
among_closed l cs (param k t) p = tt

pub abstracted_closed : (l : ℕ) (cs : List ℕ) (w : Term) → Within (Among l cs) 0 w → Within (IsLevelAtom l) 0 (abstracted cs w)
abstracted_closed l cs w h = within_more (And (Among l cs) (Avoids cs)) (IsLevelAtom l) 0 0 (among_closed l cs) (omega arith) (abstracted cs w) (within_abstracted (Among l cs) cs w h)

-- the closing with one more variable
abbrev pub extended : (ℕ → ℕ → Term) → ℕ → ℕ → Term → ℕ → ℕ → Term
extended σ n m t x l = if nat_eq x n && nat_eq l m then t else σ x l

pub extended_at : (σ : ℕ → ℕ → Term) (n m : ℕ) (t : Term) → extended σ n m t n m ≡ t
extended_at σ n m t =
    let p : nat_eq n n ≡ true = grind (arith, nat_tests) in
    let q : nat_eq m m ≡ true = grind (arith, nat_tests) in
    rw (p, q)

pub extended_old : (σ : ℕ → ℕ → Term) (n m : ℕ) (t : Term) (x l : ℕ) → x < n → extended σ n m t x l ≡ σ x l
extended_old σ n m t x l h = let p : nat_eq x n ≡ false = grind (arith, nat_tests) in rw p

if_closed : (P : Term → Type 0) (b : Bool) (t u : Term) → (b ≡ true → P t) → P u → P (if b then t else u)
if_closed P true t u h k = h refl
if_closed P false t u h k = k

pub extended_closing : (σ : ℕ → ℕ → Term) (n m : ℕ) (t : Term) → IsClosing σ → Within (IsLevelAtom m) 0 t → IsClosing (extended σ n m t)
extended_closing σ n m t c w = record {
  closed = λ x l. if_closed (Within (IsLevelAtom l) 0) (nat_eq x n && nat_eq l m) t (σ x l)
      (λ e. let r = both (nat_eq x n) (nat_eq l m) e in transport (λ j. Within (IsLevelAtom j) 0 t) (sym (same_number l m r.1)) w) (c.closed x l);
}

-- what stands in the value
abbrev pub Inside : ℕ → ℕ → ℕ → List ℕ → Atom → Type 0
Inside next m l b (eigen k) = (nat_le k m || member k b) ≡ true
Inside next m l b (logic x j) = (x ≡ next) × (j ≡ l)
Inside next m l b (constant c ts) = Unit {0}
Inside next m l b (integer z) = Unit {0}
Inside next m l b (text s) = Unit {0}
Inside next m l b (param k t) = Unit {0}

-- each member is up to m or in b
abbrev pub Reach : ℕ → List ℕ → List ℕ → Type 0
Reach m b [] = Unit {0}
Reach m b (c ∷ cs) = ((nat_le c m || member c b) ≡ true) × Reach m b cs

reach_within : (next m l : ℕ) (b cs : List ℕ) → Reach m b cs → WithinAll (Inside next m l b) (eigens cs)
reach_within next m l b [] r = tt
reach_within next m l b (c ∷ cs) r = (r.0, reach_within next m l b cs r.1)

pub inside_value : (next m l : ℕ) (b cs : List ℕ) → Reach m b cs → Within (Inside next m l b) 0 (apply (atom (logic next l)) (eigens cs))
inside_value next m l b cs r = apply_within (Inside next m l b) (eigens cs) (atom (logic next l)) (refl, refl) (reach_within next m l b cs r)

inside_pair : (next m l : ℕ) (b : List ℕ) → l ≤ m → (a : Atom) → Inside next m l b a × Avoids b a → IsPairAtom (suc next) m a
inside_pair next m l b h (eigen k) p = let q = or_left (nat_le k m) (member k b) p.0 (avoids_member k b p.1) in let r : k ≤ m = grind (arith, nat_tests) in r
inside_pair next m l b h (logic x j) p = let q : x < suc next = (let i : x ≡ next = p.0.0 in omega arith) in let r : j ≤ m = (let i : j ≡ l = p.0.1 in omega arith) in (q, r)
inside_pair next m l b h (constant c ts) p = tt
inside_pair next m l b h (integer z) p = tt
inside_pair next m l b h (text s) p = tt
inside_pair next m l b h (param k t) p = tt

pub renewed_scoped : (next y m l : ℕ) (b cs : List ℕ) → l ≤ m → Reach m b cs → Within (IsPairAtom (suc next) m) 0 (renewed next y m l b cs).value
renewed_scoped next y m l b cs h r =
    let v = apply (atom (logic next l)) (eigens cs) in
    within_more (And (Inside next m l b) (Avoids b)) (IsPairAtom (suc next) m) 0 0 (inside_pair next m l b h) (omega arith) (abstracted b v)
    (within_abstracted (Inside next m l b) b v (inside_value next m l b cs r))

pub closed_level : (l m : ℕ) → l ≤ m → (a : Atom) → IsLevelAtom l a → IsLevelAtom m a
closed_level l m h (eigen k) p = let q : k ≤ l = p in let r : k ≤ m = omega arith in r
closed_level l m h (logic x j) p = p
closed_level l m h (constant c ts) p = tt
closed_level l m h (integer z) p = tt
closed_level l m h (text s) p = tt
closed_level l m h (param k t) p = tt

-- what a closing gives through the binding
pub renewed_gives : (σ : ℕ → ℕ → Term) (next y m l : ℕ) (b cs : List ℕ) (w : Term) → IsClosing σ → l ≤ m → are_distinct b ≡ true → are_above m b ≡ true → Reach m b cs →
    Within (Among l cs) 0 w → Converts (apply (σ y m) (eigens b)) w →
    Converts (σ y m) (close (extended σ next l (abstracted cs w)) (renewed next y m l b cs).value)
renewed_gives σ next y m l b cs w c h d a r q e =
    let σ' = extended σ next l (abstracted cs w) in
    let v = apply (atom (logic next l)) (eigens cs) in
    let new : σ' next l ≡ abstracted cs w = extended_at σ next l (abstracted cs w) in
    let closed : Within (Avoids b) 0 (abstracted cs w) = within_more (IsLevelAtom l) (Avoids b) 0 0 (λ z p. closed_avoids m b a z (closed_level l m h z p)) (omega arith) (abstracted cs w) (abstracted_closed l cs w q) in
    let fresh : (x j : ℕ) → Inside next m l b (logic x j) → Within (Avoids b) 0 (σ' x j) =
    (λ x j p. let s : σ' x j ≡ abstracted cs w = (λ i. σ' (p.0 i) (p.1 i)) ∙ new in transport (λ z. Within (Avoids b) 0 z) (sym s) closed) in
    let out : close σ' (abstracted b v) ≡ abstracted b (apply (abstracted cs w) (eigens cs)) =
    close_abstracted (Inside next m l b) σ' b fresh v (inside_value next m l b cs r) ∙ ap (abstracted b) (close_pattern σ' (atom (logic next l)) cs ∙ ap (λ z. apply z (eigens cs)) new) in
    converts_on (converts_sym (abstracted_eta b (σ y m) (distinct_tells b d) (within_more (IsLevelAtom m) (Avoids b) 0 0 (closed_avoids m b a) (omega arith) (σ y m) (c.closed y m))))
    (converts_on (converts_abstracted b e)
    (converts_on (converts_abstracted b (converts_sym (abstracted_beta (Among l cs) cs w q)))
    (converts_is (sym out))))

if_through : (b : Bool) (σ' : ℕ → ℕ → Term) (s t u : Term) → (b ≡ true → Converts s (close σ' t)) → Converts s (close σ' u) → Converts s (close σ' (if b then t else u))
if_through true σ' s t u h k = h refl
if_through false σ' s t u h k = k

pub renewed_through : (σ : ℕ → ℕ → Term) (next y m l : ℕ) (b cs : List ℕ) (w : Term) → IsClosing σ → l ≤ m → are_distinct b ≡ true → are_above m b ≡ true → Reach m b cs →
    Within (Among l cs) 0 w → Converts (apply (σ y m) (eigens b)) w → (x j : ℕ) → x < next →
    Converts (σ x j) (through (renewed next y m l b cs ∷ []) (extended σ next l (abstracted cs w)) x j)
renewed_through σ next y m l b cs w c h d a r q e x j old =
    let σ' = extended σ next l (abstracted cs w) in
    let β = renewed next y m l b cs in
    if_through (nat_eq x y && nat_eq j m) σ' (σ x j) β.value (atom (logic x j))
    (λ i. let z = both (nat_eq x y) (nat_eq j m) i in
    let e₁ = same_number x y z.0 in
    let e₂ = same_number j m z.1 in
    converts_on (converts_is (λ i. σ (e₁ i) (e₂ i))) (renewed_gives σ next y m l b cs w c h d a r q e))
    (converts_is (sym (extended_old σ next l (abstracted cs w) x j old)))
