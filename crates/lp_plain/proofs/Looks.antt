-- A look that marks nodes misses none: where a marked node passes, a lighter one that is left does.
use Rattle.std.proofs.Common.{◌≡◌, ℕ, ◌+◌, ◌<◌, ◌≤◌, List, [], ◌∷◌, ◌++◌, map, inl, inr, refl, sym, ap, ◌∙◌, subst, arith, append_assoc, Bool, true, false, not, true≢false}
use Rattle.std.specs.Prelude.{◌⊎◌, ◌||◌, nat_eq, if◌then◌else◌}
use Rattle.std.specs.List.{list_any}
use Rattle.std.proofs.lemmas.List.{map-append}
use Rattle.std.proofs.lemmas.Bool.{or_left, or_right, false_from_ne_true, cases_eq, ne_eqb}
use Rattle.lp_lemmas.specs.Each.{AnyOf}
use Rattle.lp_lemmas.proofs.Each.{any_append, any_front, any_back}
use Rattle.lp_plain.specs.inner.Looking.{weight_of_all, AreParts, SomeOf, SomeBelow, IsClean, Leads}

pub some_true : {N : Type 0} (P : N → Bool) (ns : List N) → SomeOf P ns → list_any P ns ≡ true
some_true P [] h = absurd h
some_true P (n ∷ ns) (inl h) = or_left (P n) (list_any P ns) h
some_true P (n ∷ ns) (inr h) = or_right (P n) (list_any P ns) (some_true P ns h)

pub true_some : {N : Type 0} (P : N → Bool) (ns : List N) → list_any P ns ≡ true → SomeOf P ns
true_some P [] e = absurd (true≢false (sym e))
true_some {N} P (n ∷ ns) e = go (P n) refl e (true_some P ns)
  where
    go : (b : Bool) → P n ≡ b → (b || list_any P ns) ≡ true → (list_any P ns ≡ true → SomeOf P ns) → SomeOf P (n ∷ ns)
    go true q e h = inl q
    go false q e h = inr (h e)

pub none_false : {N : Type 0} (P : N → Bool) (ns : List N) → (SomeOf P ns → ⊥) → list_any P ns ≡ false
none_false P ns h = false_from_ne_true (list_any P ns) (λ e. h (true_some P ns e))

more_below : {N : Type 0} (P : N → Bool) (w : N → ℕ) (m k : ℕ) (ns : List N) → m ≤ k → SomeBelow P w m ns → SomeBelow P w k ns
more_below P w m k [] l h = h
more_below P w m k (n ∷ ns) l (inl h) = inl (let s = h.0 in omega (arith, s, l), h.1)
more_below P w m k (n ∷ ns) l (inr h) = inr (more_below P w m k ns l h)

without_bound : {N : Type 0} (P : N → Bool) (w : N → ℕ) (m : ℕ) (ns : List N) → SomeBelow P w m ns → SomeOf P ns
without_bound P w m [] h = h
without_bound P w m (n ∷ ns) (inl h) = inl h.1
without_bound P w m (n ∷ ns) (inr h) = inr (without_bound P w m ns h)

parts_below : {N : Type 0} (P : N → Bool) (w : N → ℕ) (m : ℕ) (ns : List N) → weight_of_all w ns < m → SomeOf P ns → SomeBelow P w m ns
parts_below P w m [] l h = h
parts_below P w m (n ∷ ns) l (inl h) = inl (omega (arith, l), h)
parts_below P w m (n ∷ ns) l (inr h) = inr (parts_below P w m ns (omega (arith, l)) h)

pub weight_append : {N : Type 0} (w : N → ℕ) (ns ms : List N) → weight_of_all w (ns ++ ms) ≡ weight_of_all w ns + weight_of_all w ms
weight_append w [] ms = omega arith
weight_append w (n ∷ ns) ms = let e = weight_append w ns ms in omega (arith, e)

pub marked : (node : ℕ) (seen now : ℕ → Bool) → ((i : ℕ) → now i ≡ (if nat_eq node i then true else seen i)) → (i : ℕ) → now i ≡ true → (i ≡ node) ⊎ (seen i ≡ true)
marked node seen now e i h = elim (cases_eq node i) [
  | inl q ↦ inl (sym q)
  | inr ne ↦ inr (sym (ap (λ b. if b then true else seen i) (ne_eqb node i ne)) ∙ sym (e i) ∙ h)
]

-- the nodes of a stack
pub numbers_off : {T N : Type 0} (f : T → N) (all ts : List T) (t : T) → all ≡ ts ++ t ∷ [] → map f all ≡ map f ts ++ f t ∷ []
numbers_off f all ts t e = ap (map f) e ∙ map-append f ts (t ∷ [])

pub lighter_off : {T N : Type 0} (f : T → N) (w : N → ℕ) (all ts : List T) (t : T) → ((n : N) → 0 < w n) → all ≡ ts ++ t ∷ [] → weight_of_all w (map f ts) < weight_of_all w (map f all)
lighter_off f w all ts t p e =
    let q = ap (weight_of_all w) (numbers_off f all ts t e) ∙ weight_append w (map f ts) (f t ∷ []) in
    let s = p (f t) in
    let z : weight_of_all w (f t ∷ []) ≡ w (f t) + 0 = refl in
    omega (arith, q, s, z)

pub lighter_parts : {T N : Type 0} (f : T → N) (w : N → ℕ) (all ts new ps : List T) (t : T) → all ≡ ts ++ t ∷ [] → new ≡ ts ++ ps → weight_of_all w (map f ps) < w (f t) →
    weight_of_all w (map f new) < weight_of_all w (map f all)
lighter_parts f w all ts new ps t e d s =
    let q = ap (weight_of_all w) (numbers_off f all ts t e) ∙ weight_append w (map f ts) (f t ∷ []) in
    let r = ap (weight_of_all w) (ap (map f) d ∙ map-append f ts ps) ∙ weight_append w (map f ts) (map f ps) in
    let z : weight_of_all w (f t ∷ []) ≡ w (f t) + 0 = refl in
    omega (arith, q, r, s, z)

pub begun : {N : Type 0} (P : N → Bool) (w : N → ℕ) (given left : List N) (seen : N → Bool) → left ≡ given → IsClean P seen → Leads P w given left seen
begun P w given left seen e c = record {
  honest = λ h. subst (SomeOf P) e h;
  wanted = λ h. subst (SomeOf P) (sym e) h;
  met = λ n s h. absurd (c n s h);
}

module _ {N : Type 0} (P : N → Bool) (w : N → ℕ) (given all ts : List N) (t : N) (seen : N → Bool) (off : all ≡ ts ++ t ∷ []) (leads : Leads P w given all seen) where
  off_of : (Q : N → Type 0) → AnyOf Q all → AnyOf Q ts ⊎ Q t
  off_of Q h = elim (any_append Q ts (t ∷ []) (subst (AnyOf Q) off h)) [ inl a ↦ inl a | inr b ↦ elim b [ inl c ↦ inr c | inr n ↦ absurd n ] ]

  back : (Q : N → Type 0) → AnyOf Q ts → AnyOf Q all
  back Q h = subst (AnyOf Q) (sym off) (any_front Q ts (t ∷ []) h)

  last : (Q : N → Type 0) → Q t → AnyOf Q all
  last Q h = subst (AnyOf Q) (sym off) (any_back Q ts (t ∷ []) (inl h))

  -- a marked node that passes lets a lighter one pass that is left
  below_marked : seen t ≡ true → P t ≡ true → SomeBelow P w (w t) ts
  below_marked s h = elim (off_of (λ n. (w n < w t) × (P n ≡ true)) (leads.met t s h)) [ inl a ↦ a | inr l ↦ (let q = l.0 in absurd (omega (arith, q))) ]

  pub passed : (now : N → Bool) → ((n : N) → now n ≡ true → (n ≡ t) ⊎ (seen n ≡ true)) → seen t ≡ true → Leads P w given ts now
  passed now marks s = record {
    honest = λ h. leads.honest (back (λ n. P n ≡ true) h);
    wanted = λ h. elim (off_of (λ n. P n ≡ true) (leads.wanted h)) [ inl a ↦ a | inr p ↦ without_bound P w (w t) ts (below_marked s p) ];
    met = λ n m h. elim (off_of (λ k. (w k < w n) × (P k ≡ true)) (leads.met n (again n m) h)) [ inl a ↦ a | inr p ↦ more_below P w (w t) (w n) ts (let q = p.0 in omega (arith, q)) (below_marked s p.1) ];
  }
    where
      again : (n : N) → now n ≡ true → seen n ≡ true
      again n m = elim (marks n m) [ inl q ↦ subst (λ k. seen k ≡ true) (sym q) s | inr r ↦ r ]

  pub opened : (ps new : List N) (now : N → Bool) → new ≡ ts ++ ps → AreParts P w t ps → ((n : N) → now n ≡ true → (n ≡ t) ⊎ (seen n ≡ true)) → Leads P w given new now
  opened ps new now d k marks = record {
    honest = λ h. elim (any_append (λ n. P n ≡ true) ts ps (subst (SomeOf P) d h)) [ inl a ↦ leads.honest (back (λ n. P n ≡ true) a) | inr b ↦ leads.honest (last (λ n. P n ≡ true) (k.passes ∙ some_true P ps b)) ];
    wanted = λ h. subst (SomeOf P) (sym d) (elim (off_of (λ n. P n ≡ true) (leads.wanted h)) [ inl a ↦ any_front (λ n. P n ≡ true) ts ps a | inr p ↦ any_back (λ n. P n ≡ true) ts ps (true_some P ps (sym k.passes ∙ p)) ]);
    met = λ n m h. elim (marks n m) [ inl q ↦ subst (λ j. SomeBelow P w (w j) new) (sym q) (of_it (subst (λ j. P j ≡ true) q h)) | inr s ↦ of_others n s h ];
  }
    where
      of_it : P t ≡ true → SomeBelow P w (w t) new
      of_it p = subst (SomeBelow P w (w t)) (sym d) (any_back (λ n. (w n < w t) × (P n ≡ true)) ts ps (parts_below P w (w t) ps k.lighter (true_some P ps (sym k.passes ∙ p))))

      of_others : (n : N) → seen n ≡ true → P n ≡ true → SomeBelow P w (w n) new
      of_others n s h = elim (off_of (λ j. (w j < w n) × (P j ≡ true)) (leads.met n s h)) [
        | inl a ↦ subst (SomeBelow P w (w n)) (sym d) (any_front (λ j. (w j < w n) × (P j ≡ true)) ts ps a)
        | inr p ↦ more_below P w (w t) (w n) new (let q = p.0 in omega (arith, q)) (of_it p.1)
      ]

  pub given_passes : P t ≡ true → SomeOf P given
  given_passes h = leads.honest (last (λ n. P n ≡ true) h)

  pub found : P t ≡ true → true ≡ list_any P given
  found h = sym (some_true P given (given_passes h))

pub ended : {N : Type 0} (P : N → Bool) (w : N → ℕ) (given left : List N) (seen : N → Bool) → left ≡ [] → Leads P w given left seen → false ≡ list_any P given
ended P w given left seen e k = sym (none_false P given (λ h. subst (SomeOf P) e (k.wanted h)))

pub ended_clean : {N : Type 0} (P : N → Bool) (w : N → ℕ) (given left : List N) (seen : N → Bool) → left ≡ [] → Leads P w given left seen → IsClean P seen
ended_clean P w given left seen e k = λ n s h. subst (SomeBelow P w (w n)) e (k.met n s h)

pub was_marked : (seen added : Bool) → added ≡ not seen → added ≡ false → seen ≡ true
was_marked true added e f = refl
was_marked false added e f = cc

pub not_false : (b : Bool) → not b ≡ false → b ≡ true
not_false true e = refl
not_false false e = cc

pub put_all : {T : Type 0} (left one all : List T) (t : T) (ts : List T) → one ≡ left ++ t ∷ [] → all ≡ one ++ ts → all ≡ left ++ t ∷ ts
put_all left one all t ts e d = d ∙ ap (λ l. l ++ ts) e ∙ append_assoc left (t ∷ []) ts

pub nothing_marked : (P : ℕ → Bool) (keys : List ℕ) → keys ≡ [] → IsClean P (λ i. list_any (nat_eq i) keys)
nothing_marked P keys e i m h = true≢false (sym m ∙ ap (list_any (nat_eq i)) e)
