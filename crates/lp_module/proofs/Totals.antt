-- How many hidden names stand in all copies of a module and below them.
use Rattle.std.proofs.Common.{◌≡◌, ◌≢◌, ℕ, ◌+◌, ◌<◌, ◌≤◌, List, [], ◌∷◌, ◌++◌, length, drop, take, get_or, refl, sym, ap, subst, ◌∙◌, arith, append_assoc, inl, inr}
use Rattle.std.specs.Prelude.{◌⊎◌, sum_by, Contains}
use Rattle.std.proofs.lemmas.List.{append-nil, drop_more, take_more}
use Rattle.std.proofs.lemmas.List.Elements.{Contains-append_left, Contains-append_right, Contains-append_cases}
use Rattle.std.proofs.lemmas.List.Sums.{sum_by-append, sum_by-cons, sum_by_push}
use Rattle.lp_lemmas.proofs.Numbers.{equal_or_not}
use Rattle.lp_lemmas.proofs.Elements.{Contains_head, Contains_tail, Contains_single}
use Rattle.lp_copies.specs.Copies.{Copies, no_copy, copy, RestOfCopies}
use Rattle.lp_module.specs.declared.tree.Hidden.{Hidden}
use Rattle.lp_module.specs.inner.Assembling.{counted, in_all, IsTotal, AreTotals, AreBehind, SetsTotal}

behind_both : (uses : List (List ℕ)) (before xs ys : List ℕ) → AreBehind uses before xs → AreBehind uses (before ++ xs) ys → AreBehind uses before (xs ++ ys)
behind_both uses before [] ys a b = subst (λ l. AreBehind uses l ys) (append-nil before) b
behind_both uses before (x ∷ xs) ys a b = (a.0, behind_both uses (before ++ x ∷ []) xs ys a.1 (subst (λ l. AreBehind uses l ys) (sym (append_assoc before (x ∷ []) xs)) b))

pub todo_in : (uses : List (List ℕ)) (todo all : List ℕ) → Copies uses todo all → (u : ℕ) → Contains todo u → Contains all u
todo_in uses todo all no_copy u c = c
todo_in uses todo all (copy m rest below others x b o is) u c = subst (λ l. Contains l u) (sym is) (by (λ h. todo_in uses rest others o u h) (Contains-append_cases (m ∷ []) rest u c))
  where
    by : (Contains rest u → Contains others u) → Contains (m ∷ []) u ⊎ Contains rest u → Contains (below ++ m ∷ others) u
    by f (inl h) = Contains-append_right below (m ∷ others) u (Contains-append_left (m ∷ []) others u h)
    by f (inr h) = Contains-append_right below (m ∷ others) u (Contains_tail m u others (f h))

pub copies_behind : (uses : List (List ℕ)) (todo all : List ℕ) → Copies uses todo all → (before : List ℕ) → AreBehind uses before all
copies_behind uses todo all no_copy before = tt
copies_behind uses todo all (copy m rest below others x b o is) before =
    subst (AreBehind uses before) (sym is)
    (behind_both uses before below (m ∷ others) (copies_behind uses (get_or uses m []) below b before)
    (λ u c. Contains-append_right before below u (todo_in uses (get_or uses m []) below b u c), copies_behind uses rest others o ((before ++ below) ++ m ∷ [])))

pub decide : (xs : List ℕ) (x : ℕ) → Contains xs x ⊎ (Contains xs x → ⊥)
decide [] x = inr (λ c. let l = c.1 in absurd (omega (arith, l)))
decide (y ∷ ys) x = by (equal_or_not y x) (decide ys x)
  where
    by : (y ≡ x) ⊎ (y ≢ x) → Contains ys x ⊎ (Contains ys x → ⊥) → Contains (y ∷ ys) x ⊎ (Contains (y ∷ ys) x → ⊥)
    by (inl e) d = inl (subst (Contains (y ∷ ys)) e (Contains_head y ys))
    by (inr n) (inl c) = inl (Contains_tail y x ys c)
    by (inr n) (inr d) = inr (λ c. elim (Contains-append_cases (y ∷ []) ys x c) [ inl h ↦ n (Contains_single y x h) | inr h ↦ d h ])

pub sum_same : (T U : ℕ → ℕ) (ms : List ℕ) → ((u : ℕ) → Contains ms u → U u ≡ T u) → sum_by U ms ≡ sum_by T ms
sum_same T U [] f = refl
sum_same T U (m ∷ ms) f =
    let a = f m (Contains_head m ms) in
    let b = sum_same T U ms (λ u c. f u (Contains_tail m u ms c)) in
    let c = sum_by-cons U m ms in
    let d = sum_by-cons T m ms in
    omega (arith, a, b, c, d)

-- one more module has its total
module _ (uses : List (List ℕ)) (own : ℕ → ℕ) (T U : ℕ → ℕ) (before : List ℕ) (m : ℕ) (new : U m ≡ counted (own m + counted (sum_by T (get_or uses m [])))) (others : (k : ℕ) → k ≢ m → U k ≡ T k) (inside : (u : ℕ) → Contains (get_or uses m []) u → Contains before u)
    (closed : (k : ℕ) → Contains before k → (u : ℕ) → Contains (get_or uses k []) u → Contains before u) (old : (k : ℕ) → Contains before k → IsTotal uses own T k) where
  -- a module that has it already
  again : Contains before m → (k : ℕ) → U k ≡ T k
  again c k = elim (equal_or_not k m) [
    | inl e ↦ subst (λ j. U j ≡ T j) (sym e) (new ∙ sym (old m c))
    | inr n ↦ others k n
  ]

  first : (Contains before m → ⊥) → (k : ℕ) → Contains before k → U k ≡ T k
  first d k c = others k (λ e. d (subst (Contains before) e c))

  of_total : (k : ℕ) → IsTotal uses own T k → U k ≡ T k → sum_by U (get_or uses k []) ≡ sum_by T (get_or uses k []) → IsTotal uses own U k
  of_total k t e s = e ∙ t ∙ ap (λ n. counted (own k + counted n)) (sym s)

  pub totals_more : (k : ℕ) → Contains (before ++ m ∷ []) k → IsTotal uses own U k
  totals_more k c = by (decide before m) (Contains-append_cases before (m ∷ []) k c)
    where
      by : Contains before m ⊎ (Contains before m → ⊥) → Contains before k ⊎ Contains (m ∷ []) k → IsTotal uses own U k
      by (inl h) (inl i) = of_total k (old k i) (again h k) (sum_same T U (get_or uses k []) (λ u x. again h u))
      by (inl h) (inr i) = let j = subst (Contains before) (Contains_single m k i) h in of_total k (old k j) (again h k) (sum_same T U (get_or uses k []) (λ u x. again h u))
      by (inr d) (inl i) = of_total k (old k i) (first d k i) (sum_same T U (get_or uses k []) (λ u x. first d u (closed k i u x)))
      by (inr d) (inr i) =
          subst (IsTotal uses own U) (Contains_single m k i) (new ∙ ap (λ n. counted (own m + counted n)) (sym (sum_same T U (get_or uses m []) (λ u x. first d u (inside u x)))))

-- totals are the sums over the copies
pub total_is : (uses : List (List ℕ)) (own T : ℕ → ℕ) (todo all : List ℕ) → Copies uses todo all → ((m : ℕ) → Contains all m → IsTotal uses own T m) → sum_by own all ≤ 1048576 → sum_by T todo ≡ sum_by own all
total_is uses own T todo all no_copy t h = refl
total_is uses own T todo all (copy m rest below others x b o is) t h =
    let s = ap (sum_by own) is ∙ sum_by-append own below (m ∷ others) in
    let a = sum_by-cons own m others in
    let c = sum_by-cons T m rest in
    let p = total_is uses own T (get_or uses m []) below b (λ k i. t k (subst (λ l. Contains l k) (sym is) (Contains-append_left below (m ∷ others) k i))) (omega (arith, h, s, a)) in
    let q = total_is uses own T rest others o (λ k i. t k (subst (λ l. Contains l k) (sym is) (Contains-append_right below (m ∷ others) k (Contains_tail m k others i)))) (omega (arith, h, s, a)) in
    let e = t m (subst (λ l. Contains l m) (sym is) (Contains-append_right below (m ∷ others) m (Contains_head m others))) in
    omega (arith, h, s, a, c, p, q, e)

pub rest_more : (uses : List (List ℕ)) (left : List ℕ) (fs : List (ℕ × ℕ)) (all : List ℕ) → RestOfCopies uses left fs all → (more : List ℕ) × (all ≡ left ++ more)
rest_more uses left [] all e = ([], sym e ∙ sym (append-nil left))
rest_more uses left (f ∷ fs) all (below, c, r) =
    let (more, e) = rest_more uses (left ++ (below ++ f.0 ∷ [])) fs all r in
    ((below ++ f.0 ∷ []) ++ more, e ∙ append_assoc left (below ++ f.0 ∷ []) more)

-- the numbers of a copy that is entered end below the end of all
pub entered_fits : (uses : List (List ℕ)) (own T : ℕ → ℕ) (left : List ℕ) (m : ℕ) (fs : List (ℕ × ℕ)) (order : List ℕ) → RestOfCopies uses left ((m, 0) ∷ fs) order → ((k : ℕ) → Contains order k → IsTotal uses own T k) → sum_by own order ≤ 1048576 →
    (sum_by own left + sum_by T (get_or uses m []) + own m ≤ sum_by own order) × (T m ≡ own m + sum_by T (get_or uses m []))
entered_fits uses own T left m fs order (below, c, r) t h =
    let (more, e) = rest_more uses (left ++ (below ++ m ∷ [])) fs order r in
    let s = ap (sum_by own) e ∙ sum_by-append own (left ++ (below ++ m ∷ [])) more in
    let s1 = sum_by-append own left (below ++ m ∷ []) in
    let s2 = sum_by_push own below m in
    let p = total_is uses own T (get_or uses m []) below c (λ k i. t k (subst (λ l. Contains l k) (sym e) (Contains-append_left (left ++ (below ++ m ∷ [])) more k (Contains-append_right left (below ++ m ∷ []) k (Contains-append_left below (m ∷ []) k i))))) (omega (arith, h, s, s1, s2)) in
    let q = t m (subst (λ l. Contains l m) (sym e) (Contains-append_left (left ++ (below ++ m ∷ [])) more m (Contains-append_right left (below ++ m ∷ []) m (Contains-append_right below (m ∷ []) m (Contains_head m []))))) in
    (omega (arith, h, s, s1, s2, p), omega (arith, h, s, s1, s2, p, q))

-- one more module of the order
module _ (uses : List (List ℕ)) (order : List ℕ) (at place : ℕ) (h : at < length order) (is : place ≡ get_or order at place) where
  now : take (at + 1) order ≡ take at order ++ place ∷ []
  now = take_more order at place h ∙ ap (λ x. take at order ++ x ∷ []) (sym is)

  next : drop at order ≡ place ∷ drop (at + 1) order
  next = drop_more order at place h ∙ ap (λ x. x ∷ drop (at + 1) order) (sym is)

  module _ (b : AreBehind uses (take at order) (drop at order)) where
    inside : (u : ℕ) → Contains (get_or uses place []) u → Contains (take at order) u
    inside = (subst (AreBehind uses (take at order)) next b).0

    pub behind_more : AreBehind uses (take (at + 1) order) (drop (at + 1) order)
    behind_more = subst (λ l. AreBehind uses l (drop (at + 1) order)) (sym now) (subst (AreBehind uses (take at order)) next b).1

    module _ (closed : (k : ℕ) → Contains (take at order) k → (u : ℕ) → Contains (get_or uses k []) u → Contains (take at order) u) where
      pub closed_more : (k : ℕ) → Contains (take (at + 1) order) k → (u : ℕ) → Contains (get_or uses k []) u → Contains (take (at + 1) order) u
      closed_more k c u i = subst (λ l. Contains l u) (sym now) (Contains-append_left (take at order) (place ∷ []) u (by (Contains-append_cases (take at order) (place ∷ []) k (subst (λ l. Contains l k) now c))))
        where
          by : Contains (take at order) k ⊎ Contains (place ∷ []) k → Contains (take at order) u
          by (inl j) = closed k j u i
          by (inr j) = inside u (subst (λ m. Contains (get_or uses m []) u) (sym (Contains_single place k j)) i)

      pub totals_step : (own : ℕ → ℕ) (f : Hidden → ℕ) (old new : List Hidden) (total : Hidden) → SetsTotal old new place total → f total ≡ counted
          (own place + counted (sum_by (in_all f old) (get_or uses place []))) → AreTotals uses own (in_all f old) (take at order) → AreTotals uses
          own (in_all f new) (take (at + 1) order)
      totals_step own f old new total sets e t k c =
          totals_more uses own (in_all f old) (in_all f new) (take at order) place (sets.there f ∙ e) (λ k n. sets.elsewhere f k n) inside closed t k (subst (λ l. Contains l k) now c)

-- what is known of a copy that is entered: its hidden names have numbers below the limit, and its total is the sum of its own ones and those below it
pub record Fits (own T : ℕ → ℕ) (first : ℕ) (left : List ℕ) (m : ℕ) (inside : List ℕ) : Type 0 where
  pub below : counted (sum_by T inside) ≡ sum_by T inside
  pub total : T m ≡ own m + sum_by T inside
  pub limit : first + sum_by own left + sum_by T inside + own m ≤ 1048576

pub fits : (uses : List (List ℕ)) (own T : ℕ → ℕ) (first : ℕ) (left : List ℕ) (m : ℕ) (fs : List (ℕ × ℕ)) (order : List ℕ) → RestOfCopies uses left ((m, 0) ∷ fs) order → AreTotals uses own T order → first + sum_by own order ≤ 1048576 → Fits own T first left m (get_or uses m [])
fits uses own T first left m fs order r t h =
    let (limit, total) = entered_fits uses own T left m fs order r t (omega (arith, h)) in
    record { below = omega (arith, limit, h); total = total; limit = omega (arith, limit, h) }
