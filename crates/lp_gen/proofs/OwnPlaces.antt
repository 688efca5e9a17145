-- The own variables of a clause: where they stand, and the indices that they get.
use Rattle.std.proofs.Common.{◌≡◌, ◌∙◌, ◌<◌, ◌≤◌, ℕ, zero, suc, ◌+◌, ◌-◌, List, [], ◌∷◌, ◌++◌, length, map, reverse, get_or, Bool, true, false, Option, Some, None, ap, refl, sym, arith, true≢false, add-one}
use Rattle.std.specs.Prelude.{nat_eq, nat_le, nat_lt, if◌then◌else◌, slice_get}
use Rattle.std.proofs.lemmas.Bool.{eq-eqb, ne_eqb, leb-true, leb-false, le-leb}
use Rattle.std.proofs.lemmas.List.{append-nil, length-append, length-reverse, get_or-reverse, reverse-append}
use Rattle.std.proofs.lemmas.Option.{slice_get_within, slice_get-get_or, get_or_from_slice_get}
use Rattle.lp_calculus.specs.Types.{Ty}
use Rattle.lp_term.specs.Nodes.{Nodes, type_tree}
use Rattle.lp_code.specs.States.{member, passing, placed}
use Rattle.lp_gen.specs.Steps.{Seen, Around, at_level}
use Rattle.lp_gen.specs.inner.TermLaw.{as_set, SameAround}
use Rattle.lp_gen.specs.inner.Owned.{AreStarted, MakesOwn}
use Rattle.lp_gen.specs.inner.GoalCode.{numbers}
use Rattle.lp_gen.specs.declared.plan.Origin.{Origin}
use Rattle.lp_gen.specs.declared.plan.Origin.TheVariants as origin
use Rattle.lp_gen.specs.inner.Entering.{unmade, clause_own, query_own, types_at}
use Rattle.lp_gen.specs.inner.Recorded.{own_of, own_count, index_types}
use Rattle.lp_gen.proofs.TypeWorks.{map_length}
use Rattle.lp_gen.proofs.AssumptionPut.{numbers_last}
use Rattle.lp_gen.proofs.AroundSet.{seen_of}

no_seen : (v : Seen) → ◌≡◌ {A = Option Seen} None (Some v) → ⊥
no_seen v e = cc

same_seen : (v w : Seen) → ◌≡◌ {A = Option Seen} (Some v) (Some w) → w ≡ v
same_seen v w e = cc

no_type : (T : Ty) → ◌≡◌ {A = Option Ty} None (Some T) → ⊥
no_type T e = cc

same_type : (T U : Ty) → ◌≡◌ {A = Option Ty} (Some T) (Some U) → U ≡ T
same_type T U e = cc

-- numbers that pass a test

passing_none : (m : ℕ) (test : ℕ → Bool) → ((r : ℕ) → r < m → test r ≡ false) → passing m test ≡ []
passing_none zero test f = refl
passing_none (suc m) test f = λ i. passing_none m test (λ r l. f r (omega (arith, l))) i ++ (if f m (omega arith) i then m ∷ [] else [])

passing_some : (j k m : ℕ) (test : ℕ → Bool) → m ≡ k + j → ((r : ℕ) → r < k → test r ≡ false) → ((r : ℕ) → k ≤ r → r < m → test r ≡ true) → passing m test ≡ numbers k j
passing_some zero k m test e low up = let z : m ≡ k = omega (arith, e) in passing_none m test (λ r l. low r (omega (arith, l, z)))
passing_some (suc j) k m test e low up =
    let z : m ≡ suc (k + j) = omega (arith, e) in
    ap (λ n. passing n test) z ∙ (λ i. passing_some j k (k + j) test refl low (λ r l q. up r l (omega (arith, q, z))) i ++ (if up (k + j) (omega arith) (omega (arith, z)) i then (k + j) ∷ [] else []))
    ∙ sym (numbers_last k j) ∙ ap (numbers k) (add-one j)

pub passing_range : (i k n m : ℕ) (test : ℕ → Bool) → m ≡ k + n + i → ((r : ℕ) → r < k → test r ≡ false) → ((r : ℕ) → k ≤ r → r < k + n → test r ≡ true) → ((r : ℕ) → k + n ≤ r → test r ≡ false) →
    passing m test ≡ numbers k n
passing_range zero k n m test e low up high = let z : m ≡ k + n = omega (arith, e) in passing_some n k m test z low (λ r l q. up r l (omega (arith, q, z)))
passing_range (suc i) k n m test e low up high =
    let z : m ≡ suc (k + n + i) = omega (arith, e) in
    ap (λ j. passing j test) z ∙ (λ j. passing_range i k n (k + n + i) test refl low up high j ++ (if high (k + n + i) (omega arith) j then (k + n + i) ∷ [] else [])) ∙ append-nil (numbers k n)

-- where the own variables stand

at_last : (vs : List Seen) (v : Seen) (i : ℕ) → i ≡ length vs → slice_get (vs ++ v ∷ []) i ≡ Some v
at_last [] v i e = ap (slice_get (v ∷ [])) e
at_last (u ∷ us) v i e = ap (slice_get (u ∷ (us ++ v ∷ []))) e ∙ at_last us v (length us) refl

before_last : (vs : List Seen) (v w : Seen) (i : ℕ) → slice_get vs i ≡ Some w → slice_get (vs ++ v ∷ []) i ≡ Some w
before_last [] v w i e = absurd (no_seen w e)
before_last (u ∷ us) v w zero e = e
before_last (u ∷ us) v w (suc i) e = before_last us v w i e

pub clause_count : (k : ℕ) (Ts : List Ty) → length (clause_own k Ts) ≡ length Ts
clause_count k [] = refl
clause_count k (T ∷ Ts) =
    let z = length-append (clause_own (k + 1) Ts) (unmade k T ∷ []) in
    let y = clause_count (k + 1) Ts in
    let one : length (unmade k T ∷ []) ≡ 1 = refl in
    omega (arith, z, y, one)

-- the variable of an index is in its register
pub clause_at : (k : ℕ) (Ts : List Ty) (i p : ℕ) (T : Ty) → slice_get Ts i ≡ Some T → p ≡ length Ts - 1 - i → slice_get (clause_own k Ts) p ≡ Some (unmade (k + i) T)
clause_at k [] i p T e q = absurd (no_type T e)
clause_at k (U ∷ Us) zero p T e q =
    let many = clause_count (k + 1) Us in
    let z : p ≡ length (clause_own (k + 1) Us) = omega (arith, q, many) in
    at_last (clause_own (k + 1) Us) (unmade k U) p z ∙ (let y : k ≡ k + 0 = omega arith in λ j. Some (unmade (y j) (sym (same_type U T e) j)))
clause_at k (U ∷ Us) (suc i) p T e q =
    let z : p ≡ length Us - 1 - i = omega (arith, q) in
    let y : k + 1 + i ≡ k + suc i = omega arith in
    before_last (clause_own (k + 1) Us) (unmade k U) (unmade (k + suc i) T) p (clause_at (k + 1) Us i p T e z ∙ ap (λ r. Some (unmade r T)) y)

pub type_at : (Ts : List Ty) (i : ℕ) → i < length Ts → (T : Ty) × (slice_get Ts i ≡ Some T)
type_at [] i l = absurd (omega (arith, l))
type_at (T ∷ Ts) zero l = (T, refl)
type_at (T ∷ Ts) (suc i) l = type_at Ts i (omega (arith, l))

within : (vs : List Seen) (p : ℕ) (v : Seen) → slice_get vs p ≡ Some v → p < length vs
within [] p v e = absurd (no_seen v e)
within (w ∷ vs) zero v e = omega arith
within (w ∷ vs) (suc p) v e = let z = within vs p v e in omega (arith, z)

-- own variables that stand for indices of these types: the register of each
pub record OwnAre (k : ℕ) (Ts : List Ty) (own : List Seen) (reg : ℕ → ℕ) : Type 0 where
  pub count : length own ≡ length Ts
  pub at : (i p : ℕ) (T : Ty) → slice_get Ts i ≡ Some T → p ≡ length Ts - 1 - i → slice_get own p ≡ Some (unmade (reg i) T)
  pub low : (i : ℕ) → i < length Ts → (k ≤ reg i) × (reg i < k + length Ts)
  pub onto : (r : ℕ) → k ≤ r → r < k + length Ts → (i : ℕ) × (i < length Ts) × (reg i ≡ r)
  pub apart : (i j : ℕ) → i < length Ts → j < length Ts → reg i ≡ reg j → i ≡ j

-- and no other one stands there
pub own_from : (k : ℕ) (Ts : List Ty) (own : List Seen) (reg : ℕ → ℕ) → OwnAre k Ts own reg → (p : ℕ) (v : Seen) → slice_get own p ≡ Some v →
    (i : ℕ) × (T : Ty) × (slice_get Ts i ≡ Some T) × (p ≡ length Ts - 1 - i) × (v ≡ unmade (reg i) T) × (i < length Ts)
own_from k Ts own reg x p v e =
    let low = within own p v e in
    let many = x.count in
    let i : ℕ = length Ts - 1 - p in
    let l : i < length Ts = omega (arith, low, many) in
    let t = type_at Ts i l in
    let back : p ≡ length Ts - 1 - i = omega (arith, low, many) in
    (i, t.0, t.1, back, same_seen (unmade (reg i) t.0) v (sym (x.at i p t.0 t.1 back) ∙ e), l)

-- those of a clause
pub clause_are : (k : ℕ) (Ts : List Ty) → OwnAre k Ts (clause_own k Ts) (λ i. k + i)
clause_are k Ts = record {
  count = clause_count k Ts;
  at = clause_at k Ts;
  low = λ i l. (omega arith, omega (arith, l));
  onto = λ r l q. (r - k, omega (arith, l, q), omega (arith, l));
  apart = λ i j l q e. omega (arith, e);
}

-- those of a query, of which the last one is the innermost

query_count : (k : ℕ) (Us : List Ty) → length (query_own k Us) ≡ length Us
query_count k [] = refl
query_count k (U ∷ Us) = ap suc (query_count (k + 1) Us)

query_at : (k : ℕ) (Us : List Ty) (p : ℕ) (T : Ty) → slice_get Us p ≡ Some T → slice_get (query_own k Us) p ≡ Some (unmade (k + p) T)
query_at k [] p T e = absurd (no_type T e)
query_at k (U ∷ Us) zero T e = let y : k ≡ k + 0 = omega arith in λ j. Some (unmade (y j) (sym (same_type U T e) j))
query_at k (U ∷ Us) (suc p) T e = let y : k + 1 + p ≡ k + suc p = omega arith in query_at (k + 1) Us p T e ∙ ap (λ r. Some (unmade r T)) y

pub reverse_at : (Us : List Ty) (i p : ℕ) (T : Ty) → slice_get (reverse Us) i ≡ Some T → p ≡ length Us - 1 - i → slice_get Us p ≡ Some T
reverse_at Us i p T e q =
    let many = length-reverse Us in
    let low = slice_get_within (reverse Us) i T e in
    let l : i < length Us = omega (arith, low, many) in
    ap (slice_get Us) q ∙ slice_get-get_or Us (length Us - 1 - i) T (omega (arith, l)) ∙ ap (λ x. Some x) (sym (get_or-reverse Us i T l) ∙ get_or_from_slice_get (reverse Us) i T T e)

pub at_reverse : (Us : List Ty) (i j : ℕ) (U : Ty) → slice_get Us i ≡ Some U → j ≡ length Us - 1 - i → slice_get (reverse Us) j ≡ Some U
at_reverse Us i j U e q =
    let low = slice_get_within Us i U e in
    let many = length-reverse Us in
    let z : length Us - 1 - j ≡ i = omega (arith, low, q) in
    slice_get-get_or (reverse Us) j U (omega (arith, low, q, many))
    ∙ ap (λ x. Some x) (get_or-reverse Us j U (omega (arith, low, q)) ∙ ap (λ n. get_or Us n U) z ∙ get_or_from_slice_get Us i U U e)

pub query_are : (k : ℕ) (Us : List Ty) → OwnAre k (reverse Us) (query_own k Us) (λ i. k + (length Us - 1 - i))
query_are k Us = record {
  count = query_count k Us ∙ sym many;
  at = λ i p T e q. let z : p ≡ length Us - 1 - i = omega (arith, q, many) in query_at k Us p T (reverse_at Us i p T e z) ∙ ap (λ r. Some (unmade (k + r) T)) z;
  low = λ i l. (omega arith, omega (arith, l, many));
  onto = λ r l q. (length Us - 1 - (r - k), omega (arith, l, q, many), omega (arith, l, q, many));
  apart = λ i j l q e. omega (arith, e, l, q, many);
}
  where
    many : length (reverse Us) ≡ length Us
    many = length-reverse Us

-- the own variables of code

at_own : (a : Around) (l : ℕ) → a.base ≤ l → at_level a l ≡ slice_get a.own (l - a.base)
at_own a l le = ap (λ t. if t then slice_get a.own (l - a.base) else a.captured l) (le-leb a.base l le)

pub own_numbers : (a b : Around) (k : ℕ) (Ts : List Ty) (reg : ℕ → ℕ) (rs : List ℕ) (m : ℕ) → OwnAre k Ts a.own reg → AreStarted a → MakesOwn a b rs → SameAround
    a b → ((l : ℕ) (v : Seen) → at_level b l ≡ Some v → v.is_set ≡ true) →
    k + length Ts ≤ m → passing m (λ r. member r rs) ≡ numbers k (length Ts)
own_numbers a b k Ts reg rs m own start x same set le =
    passing_range (m - (k + length Ts)) k (length Ts) m (λ r. member r rs) (omega (arith, le))
    (λ r l. not_made r (λ i q z. let w = (own.low i q).0 in absurd (omega (arith, l, z, w)))) made (λ r l. not_made r (λ i q z. let w = (own.low i q).1 in absurd (omega (arith, l, w, z))))
  where
    -- a register that is made is that of an own variable
    from : (r : ℕ) → member r rs ≡ true → (i : ℕ) × (i < length Ts) × (r ≡ reg i)
    from r e =
        let w = x.sound r e in
        go w.0 w.1 w.2 w.3 w.4 (nat_le a.base w.0) refl
      where
        go : (l : ℕ) (v : Seen) → at_level a l ≡ Some v → v.is_set ≡ false → v.register ≡ r → (t : Bool) → nat_le a.base l ≡ t → (i : ℕ) × (i < length Ts) × (r ≡ reg i)
        go l v f none at true q =
            let y = own_from k Ts a.own reg own (l - a.base) v (sym (at_own a l (leb-true a.base l q)) ∙ f) in
            (y.0, y.5, sym at ∙ ap (λ (u : Seen). u.register) y.4)
        go l v f none at false q = absurd (true≢false (sym (start l v (leb-false a.base l q) f) ∙ none))

    not_made : (r : ℕ) → ((i : ℕ) → i < length Ts → r ≡ reg i → ⊥) → member r rs ≡ false
    not_made r f = go (member r rs) refl
      where
        go : (t : Bool) → member r rs ≡ t → member r rs ≡ false
        go true e = let y = from r e in absurd (f y.0 y.1 y.2)
        go false e = e

    made : (r : ℕ) → k ≤ r → r < k + length Ts → member r rs ≡ true
    made r l q =
        let o = own.onto r l q in
        let i : ℕ = o.0 in
        let t = type_at Ts i o.1 in
        let p : ℕ = length Ts - 1 - i in
        let y : (a.base + p) - a.base ≡ p = omega arith in
        let here : at_level a (a.base + p) ≡ Some (unmade (reg i) t.0) = at_own a (a.base + p) (omega arith) ∙ ap (slice_get a.own) y ∙ own.at i p t.0 t.1 refl in
        let w = seen_of (at_level b (a.base + p)) (as_set (unmade (reg i) t.0)) (same.variables (a.base + p) ∙ ap (Rattle.std.specs.Prelude.option_map as_set) here) in
        ap (λ n. member n rs) (sym o.2) ∙ x.complete (a.base + p) (unmade (reg i) t.0) w.0 here refl w.1 (set (a.base + p) w.0 w.1)

-- the indices of registers

pub placed_at : (n k d i : ℕ) → i < n → placed (numbers k n) d (k + i) ≡ Some (d + i)
placed_at zero k d i l = absurd (omega (arith, l))
placed_at (suc n) k d zero l =
    let z : k + 0 ≡ k = omega arith in
    let y : d ≡ d + 0 = omega arith in
    ap (λ t. if t then Some d else placed (numbers (suc k) n) (suc d) (k + 0)) (eq-eqb (k + 0) k z) ∙ ap (λ j. Some j) y
placed_at (suc n) k d (suc i) l =
    let z : k + suc i ≡ suc k + i = omega arith in
    let y : suc d + i ≡ d + suc i = omega arith in
    ap (λ t. if t then Some d else placed (numbers (suc k) n) (suc d) (k + suc i)) (ne_eqb (k + suc i) k (λ e. absurd (omega (arith, e)))) ∙ ap (placed (numbers (suc k) n) (suc d)) z
    ∙ placed_at n (suc k) (suc d) i (omega (arith, l)) ∙ ap (λ j. Some j) y

pub placed_low : (n k d r : ℕ) → r < k → placed (numbers k n) d r ≡ None
placed_low zero k d r l = refl
placed_low (suc n) k d r l =
    ap (λ t. if t then Some d else placed (numbers (suc k) n) (suc d) r) (ne_eqb r k (λ e. absurd (omega (arith, e, l)))) ∙ placed_low n (suc k) (suc d) r (omega (arith, l))

-- and of registers the other way round
numbers_back : (k n : ℕ) → reverse (numbers k (suc n)) ≡ (k + n) ∷ reverse (numbers k n)
numbers_back k n = ap reverse (sym (ap (numbers k) (add-one n)) ∙ numbers_last k n) ∙ reverse-append (numbers k n) ((k + n) ∷ [])

pub placed_back : (n k d i : ℕ) → i < n → placed (reverse (numbers k n)) d (k + (n - 1 - i)) ≡ Some (d + i)
placed_back zero k d i l = absurd (omega (arith, l))
placed_back (suc n) k d zero l =
    let r : ℕ = k + (suc n - 1 - 0) in
    let y : d ≡ d + 0 = omega arith in
    ap (λ ls. placed ls d r) (numbers_back k n) ∙ ap (λ t. if t then Some d else placed (reverse (numbers k n)) (suc d) r) (eq-eqb r (k + n) (omega arith)) ∙ ap (λ j. Some j) y
placed_back (suc n) k d (suc i) l =
    let r : ℕ = k + (suc n - 1 - suc i) in
    let z : r ≡ k + (n - 1 - i) = omega (arith, l) in
    let y : suc d + i ≡ d + suc i = omega arith in
    ap (λ ls. placed ls d r) (numbers_back k n) ∙ ap (λ t. if t then Some d else placed (reverse (numbers k n)) (suc d) r) (ne_eqb r (k + n) (λ e. absurd (omega (arith, e, l))))
    ∙ ap (placed (reverse (numbers k n)) (suc d)) z ∙ placed_back n k (suc d) i (omega (arith, l)) ∙ ap (λ j. Some j) y

-- what a record is the code of: the types of its own variables by their indices, and the register of each

abbrev pub own_register : Nodes → Origin → (first : ℕ) → ℕ → ℕ
own_register b (origin.Clause c) k i = k + i
own_register b (origin.Query q gs) k i = k + (length (types_at b (map (λ v. v.1) q.now.vars.items)) - 1 - i)

pub own_are : (b : Nodes) (o : Origin) (k : ℕ) → OwnAre k (index_types b o) (own_of b o k) (own_register b o k)
own_are b (origin.Clause c) k = clause_are k (types_at b c.now.vars.items)
own_are b (origin.Query q gs) k = query_are k (types_at b (map (λ v. v.1) q.now.vars.items))

pub index_types_count : (b : Nodes) (o : Origin) → length (index_types b o) ≡ own_count o
index_types_count b (origin.Clause c) = map_length (λ i. type_tree b i.0) c.now.vars.items
index_types_count b (origin.Query q gs) =
    let ids = map (λ v. v.1) q.now.vars.items in
    length-reverse (types_at b ids) ∙ map_length (λ i. type_tree b i.0) ids ∙ map_length (λ v. v.1) q.now.vars.items
