-- A stack of tasks, of which the last is done next.
use Rattle.std.proofs.Common.{◌≡◌, ℕ, suc, zero, ◌+◌, ◌<◌, ◌≤◌, List, [], ◌∷◌, ◌++◌, refl, sym, ap, ◌∙◌, subst as transport, arith, ◌⊎◌, inl, inr, Bool, true, false}
use Rattle.std.specs.Prelude.{All, if◌then◌else◌, nat_eq}
use Rattle.std.proofs.lemmas.List.Elements.{All-nil, All-cons, All-head, All-tail, All-weaker, All-append}
use Rattle.std.proofs.lemmas.Bool.{eqb-true}
use Rattle.std.proofs.lemmas.Bool.Decides.{nat_tests}
use Rattle.lp_term.specs.inner.Walking.{node_of, visits, IsVisited, IsOpen, Stacked, waiting}
use Rattle.lp_term.specs.declared.walked.Node.{Node}
use Rattle.lp_term.specs.declared.walked.Task.{Task}
use Rattle.lp_term.proofs.Walks.{All-front, All-back}

pub visited_last : (n q : Node) (ts : List Task) → IsVisited n (ts ++ Task.Visit q ∷ []) → (q ≡ n) ⊎ IsVisited n ts
visited_last n q [] (inl e) = inl e
visited_last n q [] (inr v) = absurd v
visited_last n q (Task.Visit r ∷ ts) (inl e) = inr (inl e)
visited_last n q (Task.Visit r ∷ ts) (inr v) = elim (visited_last n q ts v) [ inl e ↦ inl e | inr w ↦ inr (inr w) ]
visited_last n q (Task.Build r ∷ ts) v = visited_last n q ts v

pub visited_before : (n q : Node) (ts : List Task) → IsVisited n (ts ++ Task.Build q ∷ []) → IsVisited n ts
visited_before n q [] v = v
visited_before n q (Task.Visit r ∷ ts) (inl e) = inl e
visited_before n q (Task.Visit r ∷ ts) (inr v) = inr (visited_before n q ts v)
visited_before n q (Task.Build r ∷ ts) v = visited_before n q ts v

pub visited_more : (n : Node) (ts us : List Task) → IsVisited n ts → IsVisited n (ts ++ us)
visited_more n [] us v = absurd v
visited_more n (Task.Visit r ∷ ts) us (inl e) = inl e
visited_more n (Task.Visit r ∷ ts) us (inr v) = inr (visited_more n ts us v)
visited_more n (Task.Build r ∷ ts) us v = visited_more n ts us v

pub open_before : (n q : Node) (ts : List Task) → IsOpen n (ts ++ Task.Visit q ∷ []) → IsOpen n ts
open_before n q [] o = o
open_before n q (Task.Visit r ∷ ts) o = open_before n q ts o
open_before n q (Task.Build r ∷ ts) (inl e) = inl e
open_before n q (Task.Build r ∷ ts) (inr o) = inr (open_before n q ts o)

pub open_last : (n q : Node) (ts : List Task) → IsOpen n (ts ++ Task.Build q ∷ []) → (q ≡ n) ⊎ IsOpen n ts
open_last n q [] (inl e) = inl e
open_last n q [] (inr o) = absurd o
open_last n q (Task.Visit r ∷ ts) o = open_last n q ts o
open_last n q (Task.Build r ∷ ts) (inl e) = inr (inl e)
open_last n q (Task.Build r ∷ ts) (inr o) = elim (open_last n q ts o) [ inl e ↦ inl e | inr w ↦ inr (inr w) ]

pub open_more : (n : Node) (ts us : List Task) → IsOpen n ts → IsOpen n (ts ++ us)
open_more n [] us o = absurd o
open_more n (Task.Visit r ∷ ts) us o = open_more n ts us o
open_more n (Task.Build r ∷ ts) us (inl e) = inl e
open_more n (Task.Build r ∷ ts) us (inr o) = inr (open_more n ts us o)

pub open_here : (q : Node) (ts us : List Task) → IsOpen q (ts ++ Task.Build q ∷ us)
open_here q [] us = inl refl
open_here q (Task.Visit r ∷ ts) us = open_here q ts us
open_here q (Task.Build r ∷ ts) us = inr (open_here q ts us)

module _ (ps : Node → List Node) (w : Node → ℕ) where
  -- the last task is a visit of what is begun
  pub stacked_skipped : (K : Node → Type 0) (q : Node) (ts : List Task) → K q → Stacked ps w K (ts ++ Task.Visit q ∷ []) → Stacked ps w K ts
  stacked_skipped K q [] k s = tt
  stacked_skipped K q (Task.Visit r ∷ ts) k s = stacked_skipped K q ts k s
  stacked_skipped K q (Task.Build r ∷ ts) k s = (
    All-front (λ t. w (node_of t) < w r) ts (Task.Visit q ∷ []) s.0,
    All-weaker (λ p. K p ⊎ IsVisited p (ts ++ Task.Visit q ∷ [])) (λ p. K p ⊎ IsVisited p ts) (λ p h. seen p h) (ps r) s.1,
    stacked_skipped K q ts k s.2,
  )
    where
      seen : (p : Node) → K p ⊎ IsVisited p (ts ++ Task.Visit q ∷ []) → K p ⊎ IsVisited p ts
      seen p (inl h) = inl h
      seen p (inr v) = elim (visited_last p q ts v) [ inl e ↦ inl (transport K e k) | inr x ↦ inr x ]

  -- the last task builds
  pub stacked_built : (K L : Node → Type 0) (q : Node) (ts : List Task) → ((p : Node) → K p → L p) → Stacked ps w K (ts ++ Task.Build q ∷ []) → Stacked ps w L ts
  stacked_built K L q [] f s = tt
  stacked_built K L q (Task.Visit r ∷ ts) f s = stacked_built K L q ts f s
  stacked_built K L q (Task.Build r ∷ ts) f s = (
    All-front (λ t. w (node_of t) < w r) ts (Task.Build q ∷ []) s.0,
    All-weaker (λ p. K p ⊎ IsVisited p (ts ++ Task.Build q ∷ [])) (λ p. L p ⊎ IsVisited p ts) (λ p h. seen p h) (ps r) s.1,
    stacked_built K L q ts f s.2,
  )
    where
      seen : (p : Node) → K p ⊎ IsVisited p (ts ++ Task.Build q ∷ []) → L p ⊎ IsVisited p ts
      seen p (inl h) = inl (f p h)
      seen p (inr v) = inr (visited_before p q ts v)

  -- the last task is a visit that gives way to lighter tasks
  pub stacked_opened : (K L : Node → Type 0) (q : Node) (ts us : List Task) → L q → ((p : Node) → K p → L p) → All (λ t. w (node_of t) ≤ w q) us → Stacked ps w L us → Stacked ps w K (ts ++ Task.Visit q ∷ []) → Stacked ps w L (ts ++ us)
  stacked_opened K L q [] us l f a u s = u
  stacked_opened K L q (Task.Visit r ∷ ts) us l f a u s = stacked_opened K L q ts us l f a u s
  stacked_opened K L q (Task.Build r ∷ ts) us l f a u s =
      let h : w q < w r = All-head (λ t. w (node_of t) < w r) (Task.Visit q) [] (All-back (λ t. w (node_of t) < w r) ts (Task.Visit q ∷ []) s.0) in (
        All-append (λ t. w (node_of t) < w r) ts us (All-front (λ t. w (node_of t) < w r) ts (Task.Visit q ∷ []) s.0)
            (All-weaker (λ t. w (node_of t) ≤ w q) (λ t. w (node_of t) < w r) (λ t g. omega arith) us a),
        All-weaker (λ p. K p ⊎ IsVisited p (ts ++ Task.Visit q ∷ [])) (λ p. L p ⊎ IsVisited p (ts ++ us)) (λ p g. seen p g) (ps r) s.1,
        stacked_opened K L q ts us l f a u s.2,
      )
    where
      seen : (p : Node) → K p ⊎ IsVisited p (ts ++ Task.Visit q ∷ []) → L p ⊎ IsVisited p (ts ++ us)
      seen p (inl h) = inl (f p h)
      seen p (inr v) = elim (visited_last p q ts v) [ inl e ↦ inl (transport L e l) | inr x ↦ inr (visited_more p ts us x) ]

  stacked_visits : (K : Node → Type 0) (ns : List Node) → Stacked ps w K (visits ns)
  stacked_visits K [] = tt
  stacked_visits K (n ∷ ns) = stacked_visits K ns

  all_visits : (v : ℕ) (ns : List Node) → All (λ p. w p < v) ns → All (λ t. w (node_of t) < v) (visits ns)
  all_visits v [] a = All-nil (λ t. w (node_of t) < v)
  all_visits v (n ∷ ns) a = All-cons (λ t. w (node_of t) < v) (Task.Visit n) (visits ns) (All-head (λ p. w p < v) n ns a) (all_visits v ns (All-tail (λ p. w p < v) n ns a))

  all_visited : (K : Node → Type 0) (ns : List Node) → All (λ p. K p ⊎ IsVisited p (visits ns)) ns
  all_visited K [] = All-nil (λ p. K p ⊎ IsVisited p [])
  all_visited K (n ∷ ns) =
      All-cons (λ p. K p ⊎ IsVisited p (visits (n ∷ ns))) n ns (inr (inl refl))
      (All-weaker (λ p. K p ⊎ IsVisited p (visits ns)) (λ p. K p ⊎ IsVisited p (visits (n ∷ ns))) (λ p h. elim h [ inl k ↦ inl k | inr v ↦ inr (inr v) ]) ns (all_visited K ns))

  -- a node above its parts
  pub stacked_begun : (K L : Node → Type 0) (q : Node) (ts : List Task) → L q → ((p : Node) → K p → L p) → All (λ p. w p < w q) (ps q) → Stacked ps w K (ts ++ Task.Visit q ∷ []) →
      Stacked ps w L (ts ++ Task.Build q ∷ visits (ps q))
  stacked_begun K L q ts l f a s =
      let us = Task.Build q ∷ visits (ps q) in
      let k = all_visits (w q) (ps q) a in
      stacked_opened K L q ts us l f
      (All-cons (λ t. w (node_of t) ≤ w q) (Task.Build q) (visits (ps q)) (omega arith) (All-weaker (λ t. w (node_of t) < w q) (λ t. w (node_of t) ≤ w q) (λ t g. omega arith) (visits (ps q)) k))
      (k, all_visited L (ps q), stacked_visits L (ps q)) s

  -- the parts of the node that is built next are begun, and what is open below is heavier
  pub last_parts : (K : Node → Type 0) (q : Node) (ts : List Task) → Stacked ps w K (ts ++ Task.Build q ∷ []) → All K (ps q)
  last_parts K q [] s = All-weaker (λ p. K p ⊎ IsVisited p []) K (λ p h. elim h [ inl k ↦ k | inr v ↦ absurd v ]) (ps q) s.1
  last_parts K q (Task.Visit r ∷ ts) s = last_parts K q ts s
  last_parts K q (Task.Build r ∷ ts) s = last_parts K q ts s.2

  pub heavier : (K : Node → Type 0) (n q : Node) (ts : List Task) → Stacked ps w K (ts ++ Task.Build q ∷ []) → IsOpen n ts → w q < w n
  heavier K n q [] s o = absurd o
  heavier K n q (Task.Visit r ∷ ts) s o = heavier K n q ts s o
  heavier K n q (Task.Build r ∷ ts) s (inl e) =
      transport (λ x. w q < w x) e (All-head (λ t. w (node_of t) < w r) (Task.Build q) [] (All-back (λ t. w (node_of t) < w r) ts (Task.Build q ∷ []) s.0))
  heavier K n q (Task.Build r ∷ ts) s (inr o) = heavier K n q ts s.2 o

-- one more number that is begun
less_step : (g h : ℕ → Bool) (v : ℕ → ℕ) (i n : ℕ) → ((k : ℕ) → h k ≡ (if nat_eq i k then true else g k)) → waiting h v n ≤ waiting g v n → (t : Bool) → nat_eq i n ≡ t →
    (if h n then 0 else v n) + waiting h v n ≤ (if g n then 0 else v n) + waiting g v n
less_step g h v i n e r true p =
    let a : h n ≡ true = e n ∙ ap (λ b. if b then true else g n) p in
    let b : (if h n then 0 else v n) ≡ 0 = ap (λ x. if x then 0 else v n) a in
    omega (arith, b, r)
less_step g h v i n e r false p =
    let a : h n ≡ g n = e n ∙ ap (λ b. if b then true else g n) p in
    let b : (if h n then 0 else v n) ≡ (if g n then 0 else v n) = ap (λ x. if x then 0 else v n) a in
    omega (arith, b, r)

pub waiting_less : (g h : ℕ → Bool) (v : ℕ → ℕ) (i n : ℕ) → ((k : ℕ) → h k ≡ (if nat_eq i k then true else g k)) → waiting h v n ≤ waiting g v n
waiting_less g h v i zero e = omega arith
waiting_less g h v i (suc n) e = less_step g h v i n e (waiting_less g h v i n e) (nat_eq i n) refl

falls_step : (g h : ℕ → Bool) (v : ℕ → ℕ) (i n : ℕ) → ((k : ℕ) → h k ≡ (if nat_eq i k then true else g k)) → g i ≡ false → i < suc n → waiting h v n ≤ waiting g v n →
    (i < n → waiting h v n + v i ≤ waiting g v n) → (t : Bool) → nat_eq i n ≡ t → (if h n then 0 else v n) + waiting h v n + v i ≤ (if g n then 0 else v n) + waiting g v n
falls_step g h v i n e f l r s true p =
    let z : i ≡ n = eqb-true i n p in
    let a : h n ≡ true = e n ∙ ap (λ b. if b then true else g n) p in
    let b : (if h n then 0 else v n) ≡ 0 = ap (λ x. if x then 0 else v n) a in
    let c : (if g n then 0 else v n) ≡ v n = ap (λ x. if x then 0 else v n) (ap g (sym z) ∙ f) in
    let d : v i ≡ v n = ap v z in
    omega (arith, b, c, d, r)
falls_step g h v i n e f l r s false p =
    let a : h n ≡ g n = e n ∙ ap (λ b. if b then true else g n) p in
    let b : (if h n then 0 else v n) ≡ (if g n then 0 else v n) = ap (λ x. if x then 0 else v n) a in
    let y : i < n = grind (arith, nat_tests, p, l) in
    omega (arith, b, s y)

pub waiting_falls : (g h : ℕ → Bool) (v : ℕ → ℕ) (i n : ℕ) → ((k : ℕ) → h k ≡ (if nat_eq i k then true else g k)) → i < n → g i ≡ false → waiting h v n + v i ≤ waiting g v n
waiting_falls g h v i zero e l f = absurd (omega arith)
waiting_falls g h v i (suc n) e l f = falls_step g h v i n e f l (waiting_less g h v i n e) (λ y. waiting_falls g h v i n e y f) (nat_eq i n) refl
