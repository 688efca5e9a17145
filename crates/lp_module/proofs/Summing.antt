-- What each step of counting the hidden names of all copies gives.
use Rattle.std.specs.Global.{Global}
use Rattle.std.proofs.Common.{◌≡◌, ◌≢◌, ℕ, zero, suc, ◌+◌, ◌<◌, ◌≤◌, List, [], ◌∷◌, length, map, take, get_or, refl, sym, ap, subst, ◌∙◌, arith}
use Rattle.std.specs.Prelude.{sum_by, set, Contains, All, Vec}
use Rattle.std.proofs.lemmas.List.{get_or-set_same, get_or-map, length-set, length-map, take_all}
use Rattle.std.proofs.lemmas.List.Sums.{sum_by_more}
use Rattle.lp_copies.specs.Trees.{lists_in}
use Rattle.lp_copies.proofs.Copied.{row_is}
use Rattle.lp_module.specs.declared.tree.Hidden.{Hidden}
use Rattle.lp_module.specs.inner.Assembling.{counted, in_all, SetsTotal}

-- the sum over a list
pub below_more : (T : ℕ → ℕ) (out : List ℕ) (at place all more new : ℕ) → at < length out → place ≡ get_or out at place → more ≡ T place → all ≡ counted (sum_by T (take at out)) → new ≡ counted (all + more) → new ≡ counted (sum_by T (take (at + 1) out))
below_more T out at place all more new h is m a n = let s = sum_by_more T out at place h in let p = ap T is in omega (arith, s, p, m, a, n)

pub below_done : (T : ℕ → ℕ) (out : List ℕ) (at all : ℕ) → length out ≤ at → all ≡ counted (sum_by T (take at out)) → all ≡ counted (sum_by T out)
below_done T out at all h a = a ∙ ap (λ l. counted (sum_by T l)) (take_all at out h)

pub in_all_at : (f : Hidden → ℕ) (ts : List Hidden) (m : ℕ) (h : Hidden) → m < length ts → h ≡ get_or ts m h → f h ≡ in_all f ts m
in_all_at f ts m h lt is = sym (get_or-map f ts m h 0 lt ∙ ap f (sym is))

-- one total is kept
elsewhere_same : (f : Hidden → ℕ) (ts : List Hidden) (at m : ℕ) (total : Hidden) → m ≢ at → get_or (map f (set ts at total)) m 0 ≡ get_or (map f ts) m 0
elsewhere_same f [] at m total n = refl
elsewhere_same f (t ∷ ts) zero zero total n = absurd (n refl)
elsewhere_same f (t ∷ ts) zero (suc m) total n = refl
elsewhere_same f (t ∷ ts) (suc at) zero total n = refl
elsewhere_same f (t ∷ ts) (suc at) (suc m) total n = elsewhere_same f ts at m total (λ e. n (ap suc e))

pub total_set : (old new : List Hidden) (at : ℕ) (total : Hidden) → at < length old → new ≡ set old at total → SetsTotal old new at total
total_set old new at total h is =
    let l = length-set old at total in
    record {
      count = ap length is ∙ l;
      there = λ f. ap (λ ts. in_all f ts at) is ∙ get_or-map f (set old at total) at total 0 (omega (arith, h, l)) ∙ ap f (get_or-set_same old at total total h);
      elsewhere = λ f m n. ap (λ ts. in_all f ts m) is ∙ elsewhere_same f old at m total n;
    }

pub none_in : {P : Type 0} (k : ℕ) → Contains [] k → P
none_in k c = let l = c.1 in absurd (omega (arith, l))

-- the list of a module
pub within_totals : (uses : List (Vec ℕ Global)) (place : ℕ) (out : Vec ℕ Global) (n : ℕ) → place < length uses → out ≡ get_or uses place out → n ≡ length uses → All (λ out. All (λ m. m < length uses) out) (lists_in uses) → All (λ m. m < n) out.items
within_totals uses place out n h is e w =
    let l = length-map uses (λ o. o.items) in
    subst (λ k. All (λ m. m < k) out.items) (sym e) (subst (All (λ m. m < length uses)) (sym (row_is uses place out h is)) (w place [] (omega (arith, h, l))))

pub total_of : (own T : ℕ → ℕ) (uses : List (List ℕ)) (place k l total : ℕ) (out : List ℕ) → k ≡ own place → out ≡ get_or uses place [] → l ≡ counted (sum_by T out) → total ≡ counted (k + l) → total ≡ counted (own place + counted (sum_by T (get_or uses place [])))
total_of own T uses place k l total out a o b t = t ∙ ap (λ n. counted (n + l)) a ∙ ap (λ n. counted (own place + n)) (b ∙ ap (λ x. counted (sum_by T x)) o)
