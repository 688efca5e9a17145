-- Closed values put for index 0, one after the other, are values put for all indices at once.
use Rattle.std.proofs.Common.{◌≡◌, ℕ, zero, suc, ◌+◌, ◌-◌, ◌<◌, ◌≤◌, List, [], ◌∷◌, ◌++◌, length, reverse, take, refl, sym, ap, subst, ◌∙◌, arith, true, false, get_or}
use Rattle.std.specs.Prelude.{nat_lt, nat_eq}
use Rattle.std.proofs.lemmas.List.{get_or-map, get_or-reverse, length-map, length-reverse}
use Rattle.std.proofs.lemmas.Option.{slice_get_read}
use Rattle.std.proofs.lemmas.Bool.Decides.{nat_tests}
use Rattle.lp_lemmas.proofs.Lists.{take_suc}
use Rattle.lp_calculus.specs.Term.{Term, index, atom, abs, app, shift, replace, put_for, substitute}
use Rattle.lp_calculus.proofs.BetaEta.{shift_one}
use Rattle.lp_term.specs.Spine.{LooseBelow}
use Rattle.lp_term.specs.Nodes.{Nodes, Extends, tree}
use Rattle.lp_term.proofs.Trees.{extends-trans}
use Rattle.lp_term.specs.declared.node.TermId.{TermId}
use Rattle.lp_term.proofs.Knowing.{take_whole}
use Rattle.lp_cert.specs.Same.{terms_in}
use Rattle.lp_term.proofs.Ways.{shift_unchanged}
use Rattle.lp_model.specs.Index.{at, lifted, instantiate}
use Rattle.lp_cert.specs.inner.Put.{IsPut, ArePut}

-- one more value
pub put_next : (vs : List Term) (v t s r : Term) → ArePut vs t s → IsPut v s r → ArePut (vs ++ v ∷ []) t r
put_next [] v t s r a p = (p.closed, p.is ∙ ap (substitute v) a)
put_next (w ∷ vs) v t s r a p = (a.0, put_next vs v (substitute w t) s r a.1 p)

-- which of two ways leads to the index
data Place (i d : ℕ) : Type 0 where
  before : i < d → Place i d
  here : i ≡ d → Place i d
  behind : (j : ℕ) → i ≡ suc j → d ≤ j → Place i d

place : (i d : ℕ) → Place i d
place zero zero = here refl
place zero (suc d) = before (omega arith)
place (suc i) zero = behind i refl (omega arith)
place (suc i) (suc d) = elim (place i d) [ before l ↦ before (omega (arith, l)) | here e ↦ here (ap suc e) | behind j e l ↦ behind i refl (omega (arith, e, l)) ]

put_before : (v : Term) (d i : ℕ) → i < d → put_for v d i ≡ index i
put_before v d i l = let t : nat_lt i d ≡ true = grind (arith, nat_tests, l) in rw t refl

put_here : (v : Term) (d i : ℕ) → i ≡ d → put_for v d i ≡ shift 0 d v
put_here v d i e =
    let t : nat_lt i d ≡ false = grind (arith, nat_tests, e) in
    let q : nat_eq i d ≡ true = grind (arith, nat_tests, e) in
    rw t (rw q refl)

put_behind : (v : Term) (d i j : ℕ) → i ≡ suc j → d ≤ j → put_for v d i ≡ index j
put_behind v d i j e l =
    let t : nat_lt i d ≡ false = grind (arith, nat_tests, e, l) in
    let q : nat_eq i d ≡ false = grind (arith, nat_tests, e, l) in
    let z : i - 1 ≡ j = omega (arith, e) in
    rw t (rw q (ap index z))

-- terms for indices change nothing of a closed term
closed_stays : (d : ℕ) (h : ℕ → Term) (t : Term) → ((i : ℕ) → i < d → h i ≡ index i) → LooseBelow 0 d t → instantiate h t ≡ t
closed_stays d h (index i) k l = k i (omega (arith, l))
closed_stays d h (atom a) k l = refl
closed_stays d h (abs b) k l = ap abs (closed_stays (suc d) (lifted h) b (kept_lifted d h k) l)
  where
    kept_lifted : (d : ℕ) (h : ℕ → Term) → ((i : ℕ) → i < d → h i ≡ index i) → (i : ℕ) → i < suc d → lifted h i ≡ index i
    kept_lifted d h k zero m = refl
    kept_lifted d h k (suc i) m = ap (shift 0 1) (k i (omega (arith, m))) ∙ shift_one (index i)
closed_stays d h (app t u) k l = λ j. app (closed_stays d h t k l.0 j) (closed_stays d h u k l.1 j)

-- h is g without its entry at d, which is v
record Lacks (v : Term) (d : ℕ) (h g : ℕ → Term) : Type 0 where
  same : (i : ℕ) → i < d → h i ≡ g i
  at_d : g d ≡ v
  past : (i : ℕ) → d ≤ i → h i ≡ g (suc i)

lacks_lifted : (v : Term) (d : ℕ) (h g : ℕ → Term) → LooseBelow 0 0 v → Lacks v d h g → Lacks v (suc d) (lifted h) (lifted g)
lacks_lifted v d h g c k = record { same = same; at_d = ap (shift 0 1) k.at_d ∙ sym (shift_unchanged 1 v c); past = past }
  where
    same : (i : ℕ) → i < suc d → lifted h i ≡ lifted g i
    same zero l = refl
    same (suc i) l = ap (shift 0 1) (k.same i (omega (arith, l)))

    past : (i : ℕ) → suc d ≤ i → lifted h i ≡ lifted g (suc i)
    past zero l = absurd (omega (arith, l))
    past (suc i) l = ap (shift 0 1) (k.past i (omega (arith, l)))

put_one : (v : Term) (d : ℕ) (h g : ℕ → Term) (t : Term) → LooseBelow 0 0 v → Lacks v d h g → instantiate h (replace (put_for v) d t) ≡ instantiate g t
put_one v d h g (index i) c k = go (place i d)
  where
    go : Place i d → instantiate h (put_for v d i) ≡ g i
    go (before l) = ap (instantiate h) (put_before v d i l) ∙ k.same i l
    go (here e) = ap (instantiate h) (put_here v d i e ∙ sym (shift_unchanged d v c)) ∙ closed_stays 0 h v (λ j l. absurd (omega (arith, l))) c ∙ sym k.at_d ∙ ap g (sym e)
    go (behind j e l) = ap (instantiate h) (put_behind v d i j e l) ∙ k.past j l ∙ ap g (sym e)
put_one v d h g (atom a) c k = refl
put_one v d h g (abs b) c k = ap abs (put_one v (suc d) (lifted h) (lifted g) b c (lacks_lifted v d h g c k))
put_one v d h g (app t u) c k = λ j. app (put_one v d h g t c k j) (put_one v d h g u c k j)

loose_deeper : (n d m e : ℕ) (t : Term) → d + n ≤ e + m → LooseBelow n d t → LooseBelow m e t
loose_deeper n d m e (index i) l b = omega (arith, l, b)
loose_deeper n d m e (atom a) l b = tt
loose_deeper n d m e (abs t) l b = loose_deeper n (suc d) m (suc e) t (omega (arith, l)) b
loose_deeper n d m e (app t u) l b = (loose_deeper n d m e t l b.0, loose_deeper n d m e u l b.1)

loose_put : (v : Term) (n m d : ℕ) (t : Term) → m ≡ suc n → LooseBelow 0 0 v → LooseBelow m d t → LooseBelow n d (replace (put_for v) d t)
loose_put v n m d (index i) f c b = go (place i d)
  where
    go : Place i d → LooseBelow n d (put_for v d i)
    go (before l) = subst (LooseBelow n d) (sym (put_before v d i l)) (omega (arith, l))
    go (here e) = subst (LooseBelow n d) (shift_unchanged d v c ∙ sym (put_here v d i e)) (loose_deeper 0 0 n d v (omega arith) c)
    go (behind j e l) = subst (LooseBelow n d) (sym (put_behind v d i j e l)) (omega (arith, e, l, f, b))
loose_put v n m d (atom a) f c b = tt
loose_put v n m d (abs t) f c b = loose_put v n m (suc d) t f c b
loose_put v n m d (app t u) f c b = (loose_put v n m d t f c b.0, loose_put v n m d u f c b.1)

lacks_first : (v : Term) (vs : List Term) → Lacks v 0 (at vs) (at (v ∷ vs))
lacks_first v vs = record { same = λ i l. absurd (omega (arith, l)); at_d = refl; past = λ i l. refl }

put_all : (vs : List Term) (t s : Term) → LooseBelow (length vs) 0 t → ArePut vs t s → s ≡ instantiate (at vs) t
put_all [] t s l p = p ∙ sym (closed_stays 0 (at []) t (λ i m. absurd (omega (arith, m))) l)
put_all (v ∷ vs) t s l p = put_all vs (substitute v t) s (loose_put v (length vs) (suc (length vs)) 0 t refl p.0 l) p.1 ∙ put_one v 0 (at vs) (at (v ∷ vs)) t p.0 (lacks_first v vs)

agree_lifted : (n : ℕ) (h g : ℕ → Term) → ((i : ℕ) → i < n → h i ≡ g i) → (i : ℕ) → i < suc n → lifted h i ≡ lifted g i
agree_lifted n h g k zero l = refl
agree_lifted n h g k (suc i) l = ap (shift 0 1) (k i (omega (arith, l)))

agree : (n d m : ℕ) (h g : ℕ → Term) (t : Term) → m ≡ d + n → ((i : ℕ) → i < m → h i ≡ g i) → LooseBelow n d t → instantiate h t ≡ instantiate g t
agree n d m h g (index i) e k l = k i (omega (arith, e, l))
agree n d m h g (atom a) e k l = refl
agree n d m h g (abs b) e k l = ap abs (agree n (suc d) (suc m) (lifted h) (lifted g) b (omega (arith, e)) (agree_lifted m h g k) l)
agree n d m h g (app t u) e k l = λ j. app (agree n d m h g t e k l.0 j) (agree n d m h g u e k l.1 j)

-- the last value is put first
pub put_reversed : (vs : List Term) (t s : Term) → LooseBelow (length vs) 0 t → ArePut (reverse vs) t s → s ≡ instantiate (λ k. at vs (length vs - suc k)) t
put_reversed vs t s l p =
    let long = length-reverse vs in
    put_all (reverse vs) t s (subst (λ n. LooseBelow n 0 t) (sym long) l) p ∙
    agree (length vs) 0 (length vs) (at (reverse vs)) (λ k. at vs (length vs - suc k)) t (omega arith)
    (λ i m. get_or-reverse vs i (index 0) m ∙ ap (λ k. get_or vs k (index 0)) (let z : length vs - 1 - i ≡ length vs - suc i = omega arith in z)) l

-- one more of the values, the last one first
pub put_step : (b : Nodes) (vs : List TermId) (i n j : ℕ) (v : TermId) (t s r : Term) → n ≡ suc i → j + suc i ≡ length vs → v ≡ get_or vs j v → ArePut (take i (reverse (terms_in b vs))) t s → IsPut (tree b v.0) s r →
    ArePut (take n (reverse (terms_in b vs))) t r
put_step b vs i n j v t s r m l e a p =
    let ts = terms_in b vs in
    let long : length ts ≡ length vs = length-map vs (λ x. tree b x.0) in
    let turned = length-reverse ts in
    let there : length ts - 1 - i ≡ j = omega (arith, l, long) in
    let at_j : get_or ts j (tree b v.0) ≡ tree b v.0 = get_or-map (λ x. tree b x.0) vs j v (tree b v.0) (omega (arith, l)) ∙ ap (λ x. tree b x.0) (sym e) in
    let at_i : tree b v.0 ≡ get_or (reverse ts) i (tree b v.0) = sym (get_or-reverse ts i (tree b v.0) (omega (arith, l, long)) ∙ ap (λ k. get_or ts k (tree b v.0)) there ∙ at_j) in
    subst (λ xs. ArePut xs t r) (sym (ap (λ k. take k (reverse ts)) m ∙ take_suc (reverse ts) i (tree b v.0) (slice_get_read (reverse ts) (length (reverse ts)) i (tree b v.0) refl (omega (arith, l, long, turned)) at_i))) (put_next (take i (reverse ts)) (tree b v.0) t s r a p)

pub put_whole : (b : Nodes) (vs : List TermId) (i : ℕ) (t s : Term) → length vs ≤ i → ArePut (take i (reverse (terms_in b vs))) t s → LooseBelow (length vs) 0 t → s ≡ instantiate (λ k. at (terms_in b vs) (length (terms_in b vs) - suc k)) t
put_whole b vs i t s l a w =
    let ts = terms_in b vs in
    let long : length ts ≡ length vs = length-map vs (λ x. tree b x.0) in
    let turned = length-reverse ts in
    put_reversed ts t s (subst (λ n. LooseBelow n 0 t) (sym long) w) (subst (λ xs. ArePut xs t s) (take_whole (reverse ts) i (omega (arith, l, long, turned))) a)

pub put_later : (a now b : Nodes) (t v made : ℕ) → Extends a now → Extends now b → t < length a.terms → v < length a.terms → made < length now.terms → LooseBelow 0 0 (tree a v) → tree now made ≡ substitute (tree a v) (tree a t) → IsPut (tree b v) (tree b t) (tree b made)
put_later a now b t v made g h l m n c e =
    let long = extends-trans a now b g h in
    record {
      closed = subst (LooseBelow 0 0) (sym (long.same_terms v m)) c;
      is = h.same_terms made n ∙ e ∙ (λ j. substitute (sym (long.same_terms v m) j) (sym (long.same_terms t l) j));
    }
