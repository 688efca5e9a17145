-- Where records denote clauses, each is run: a program's for itself, an assumed one where it is named. So all names stay below their number.
use Rattle.std.proofs.Common.{◌≡◌, ◌∙◌, ◌+◌, ◌<◌, ℕ, zero, suc, List, [], ◌∷◌, ◌++◌, length, Bool, true, false, Option, Some, None, ap, refl, sym, arith, subst, inl, inr}
use Rattle.std.specs.Prelude.{◌⊎◌, option_map, option_and_then, if◌then◌else◌, nat_eq, ◌||◌, slice_get, drop}
use Rattle.std.proofs.lemmas.Bool.{eqb-true, or_cases}
use Rattle.lp_lemmas.specs.Each.{EachOf}
use Rattle.lp_lemmas.proofs.Booleans.{or_assoc}
use Rattle.lp_lemmas.proofs.Each.{each_append}
use Rattle.lp_model.specs.Flat.{Clause}
use Rattle.lp_code.specs.declared.record.Record.{Record}
use Rattle.lp_code.specs.Symbolic.{Tables}
use Rattle.lp_code.specs.States.{Captured, Home, member}
use Rattle.lp_code.specs.Steps.{Later}
use Rattle.lp_code.specs.Rules.{names_in, named_before}
use Rattle.lp_code.specs.Denote.{is_named, home_of, denoted, later_from, nothing_captured, denote_from, denote}
use Rattle.lp_link.proofs.NamedRecords.{IsAnswered, denoted_answered}

-- the names in all records
abbrev pub all_names : List Record → List ℕ
all_names [] = []
all_names (r ∷ rs) = names_in r.code.items ++ all_names rs

module _ (t : Tables) (all : List Record) where
  -- what later records denote, each with those behind it
  abbrev behind : ℕ → List Record → Later
  behind k rs = later_from t all k rs

  -- the record that stands at place i, and has number k, denotes a clause from some start
  pub record Reached (k : ℕ) (rs : List Record) (i : ℕ) : Type 0 where
    pub one : Record
    pub stands : slice_get rs i ≡ Some one
    pub start : Captured
    pub clause : Clause
    pub denotes : denoted (home_of t all k one) (behind (suc k) (drop (suc i) rs)) start ≡ Some clause

  one_further : (k : ℕ) (q : Record) (rs : List Record) (i : ℕ) → Reached k rs i → Reached k (q ∷ rs) (suc i)
  one_further k q rs i there = record { one = there.one; stands = there.stands; start = there.start; clause = there.clause; denotes = there.denotes }

  -- what is answered under a number is denoted by the record that has it
  pub later_reached : (k : ℕ) (rs : List Record) (j : ℕ) (c : Captured) (d : Clause) → behind k rs j c ≡ Some d → (i : ℕ) × (j ≡ k + i) × Reached j rs i
  later_reached k [] j c d e = absurd (let z : None ≡ Some d = e in cc)
  later_reached k (r ∷ rs) j c d e = by (later_reached (suc k) rs j c d) (nat_eq j k) refl e
    where
      by : (behind (suc k) rs j c ≡ Some d → (i : ℕ) × (j ≡ suc k + i) × Reached j rs i) → (b : Bool) → nat_eq j k ≡ b →
          (if b then denoted (home_of t all k r) (behind (suc k) rs) c else behind (suc k) rs j c) ≡ Some d → (i : ℕ) × (j ≡ k + i) × Reached j
          (r ∷ rs) i
      by go true h e =
          let q = eqb-true j k h in
          (0, omega (arith, q), record { one = r; stands = refl; start = c; clause = d; denotes = subst (λ x. denoted (home_of t all x r) (behind (suc x) rs) c ≡ Some d) (sym q) e })
      by go false h e =
          let more = go e in
          let q = more.1 in
          (suc more.0, omega (arith, q), one_further j r rs more.0 more.2)

  -- each record of a code that denotes: it is run for itself, or it is named
  pub own_reached : (k : ℕ) (rs : List Record) (ds : List Clause) → denote_from t all k rs ≡ Some ds → (i : ℕ) (r : Record) → slice_get rs i ≡ Some r
      → (j : ℕ) → j ≡ k + i → Reached j rs i ⊎ (is_named (home_of t all j r) ≡ true)
  own_reached k [] ds e i r s j at = absurd (let z : None ≡ Some r = s in cc)
  own_reached k (q ∷ rs) ds e i r s j at = by (λ es h i s at. own_reached (suc k) rs es h i r s j at) q.program e
    where
      Goes : Type 0
      Goes = (es : List Clause) → denote_from t all (suc k) rs ≡ Some es → (i : ℕ) → slice_get rs i ≡ Some r → j ≡ suc k + i → Reached j rs i ⊎ (is_named (home_of t all j r) ≡ true)

      rest : Goes → (es : List Clause) → denote_from t all (suc k) rs ≡ Some es → (i : ℕ) → slice_get rs i ≡ Some r → j ≡ k + suc i → Reached j (q ∷ rs) (suc i) ⊎ (is_named (home_of t all j r) ≡ true)
      rest go es h i s at = elim (go es h i s (omega (arith, at))) [ inl there ↦ inl (one_further j q rs i there) | inr named ↦ inr named ]

      same_record : slice_get (q ∷ rs) 0 ≡ Some r → q ≡ r
      same_record s = cc

      first : (c : Clause) → denoted (home_of t all k q) (behind (suc k) rs) nothing_captured ≡ Some c → j ≡ k → Reached j (q ∷ rs) 0
      first c h at = record {
        one = q;
        stands = refl;
        start = nothing_captured;
        clause = c;
        denotes = subst
            (λ x. denoted (home_of t all x q) (behind (suc x) rs) nothing_captured ≡ Some c) (sym at) h;
      }

      program : Goes → (i : ℕ) → slice_get (q ∷ rs) i ≡ Some r → j ≡ k + i → (o : Option Clause) → denoted (home_of t all k q) (behind (suc k) rs)
          nothing_captured ≡ o → (p : Option (List Clause)) → denote_from t all (suc k) rs ≡ p
          → option_and_then (λ c. option_map (λ cs. c ∷ cs) p) o ≡ Some ds → Reached j (q ∷ rs) i ⊎ (is_named (home_of t all j r) ≡ true)
      program go i s at None h p g e = absurd (let z : None ≡ Some ds = e in cc)
      program go i s at (Some c) h None g e = absurd (let z : None ≡ Some ds = e in cc)
      program go zero s at (Some c) h (Some es) g e = inl (first c h (omega (arith, at)))
      program go (suc i) s at (Some c) h (Some es) g e = rest go es g i s at

      assumed : Goes → (i : ℕ) → slice_get (q ∷ rs) i ≡ Some r → j ≡ k + i → (b : Bool) → is_named (home_of t all k q) ≡ b →
          (if b then denote_from t all (suc k) rs else None) ≡ Some ds → Reached j (q ∷ rs) i ⊎ (is_named (home_of t all j r) ≡ true)
      assumed go i s at false h e = absurd (let z : None ≡ Some ds = e in cc)
      assumed go zero s at true h e =
          let here : j ≡ k = omega (arith, at) in
          inr ((λ z. is_named (home_of t all (here z) (sym (same_record s) z))) ∙ h)
      assumed go (suc i) s at true h e = rest go ds e i s at

      by : Goes → (b : Bool)
          → (if b then option_and_then (λ c. option_map (λ cs. c ∷ cs) (denote_from t all (suc k) rs))
          (denoted (home_of t all k q) (behind (suc k) rs) nothing_captured) else
          (if is_named (home_of t all k q) then denote_from t all (suc k) rs else None)) ≡ Some ds
          → Reached j (q ∷ rs) i ⊎ (is_named (home_of t all j r) ≡ true)
      by go true e = program go i s at (denoted (home_of t all k q) (behind (suc k) rs) nothing_captured) refl (denote_from t all (suc k) rs) refl e
      by go false e = assumed go i s at (is_named (home_of t all k q)) refl e

split : (k : ℕ) (xs ys : List ℕ) → member k (xs ++ ys) ≡ (member k xs || member k ys)
split k [] ys = refl
split k (x ∷ xs) ys = ap (λ b. nat_eq k x || b) (split k xs ys) ∙ sym (or_assoc (nat_eq k x) (member k xs) (member k ys))

-- a name among those of the first records is that of one of them
named_by : (k : ℕ) (n : ℕ) (rs : List Record) → member k (named_before n rs) ≡ true → (j : ℕ) × (r : Record) × (j < n) × (slice_get rs j ≡ Some r) × (member k (names_in r.code.items) ≡ true)
named_by k zero rs e = absurd (let z : false ≡ true = e in cc)
named_by k (suc n) [] e = absurd (let z : false ≡ true = e in cc)
named_by k (suc n) (r ∷ rs) e =
    elim (or_cases (member k (names_in r.code.items)) (member k (named_before n rs)) (sym (split k (names_in r.code.items) (named_before n rs)) ∙ e)) [
      | inl here ↦ (0, r, omega arith, refl, here)
      | inr more ↦ (let x = named_by k n rs more in (suc x.0, x.1, (let l = x.2 in omega (arith, l)), x.3, x.4))
    ]

of_member : (P : ℕ → Type 0) (xs : List ℕ) → EachOf P xs → (k : ℕ) → member k xs ≡ true → P k
of_member P [] h k e = absurd (let z : false ≡ true = e in cc)
of_member P (x ∷ xs) h k e = by (of_member P xs h.1 k) (nat_eq k x) refl e
  where
    by : (member k xs ≡ true → P k) → (b : Bool) → nat_eq k x ≡ b → (b || member k xs) ≡ true → P k
    by go true q e = subst P (sym (eqb-true k x q)) h.0
    by go false q e = go e

dropped : {A : Type 0} (xs : List A) (i k : ℕ) → slice_get (drop i xs) k ≡ slice_get xs (i + k)
dropped xs zero k = ap (slice_get xs) (let z : k ≡ 0 + k = omega arith in z)
dropped [] (suc i) k = refl
dropped (x ∷ xs) (suc i) k = dropped xs i k ∙ ap (slice_get (x ∷ xs)) (let z : suc (i + k) ≡ suc i + k = omega arith in z)

drop_nothing : {A : Type 0} (xs : List A) (n : ℕ) → xs ≡ [] → drop n xs ≡ []
drop_nothing xs zero e = e
drop_nothing [] (suc n) e = refl
drop_nothing (x ∷ xs) (suc n) e = absurd (cc)

dropped_twice : {A : Type 0} (xs : List A) (i k : ℕ) → drop k (drop i xs) ≡ drop (i + k) xs
dropped_twice xs zero k = ap (λ n. drop n xs) (let z : k ≡ 0 + k = omega arith in z)
dropped_twice [] (suc i) k = drop_nothing [] k refl ∙ sym (drop_nothing [] (suc i + k) refl)
dropped_twice (x ∷ xs) (suc i) k = dropped_twice xs i k ∙ ap (λ n. drop n (x ∷ xs)) (let z : suc (i + k) ≡ suc i + k = omega arith in z)

module _ (t : Tables) (all : List Record) (ds : List Clause) (denotes : denote t all ≡ Some ds) where
  one_record : (o : Option Record) (a b : Record) → o ≡ Some a → o ≡ Some b → a ≡ b
  one_record o a b e h = cc

  -- what a record that is run names is answered by the records behind it
  answered : (k : ℕ) → Reached t all k all k → (r : Record) → slice_get all k ≡ Some r → EachOf (IsAnswered (home_of t all k r) (later_from t all (suc k) (drop (suc k) all))) (names_in r.code.items)
  answered k there r s =
      let same : there.one ≡ r = one_record (slice_get all k) there.one r there.stands s in
      subst (λ q. EachOf (IsAnswered (home_of t all k q) (later_from t all (suc k) (drop (suc k) all))) (names_in q.code.items)) same
      (denoted_answered (home_of t all k there.one) (later_from t all (suc k) (drop (suc k) all)) there.start there.clause there.denotes)

  from_behind : (j k i : ℕ) → k ≡ suc j + i → Reached t all k (drop (suc j) all) i → Reached t all k all k
  from_behind j k i at there = record {
    one = there.one;
    stands = ap (slice_get all) at ∙ sym (dropped all (suc j) i) ∙ there.stands;
    start = there.start;
    clause = there.clause;
    denotes = subst (λ rs. denoted (home_of t all k there.one) (later_from t all (suc k) rs) there.start ≡ Some there.clause)
        (dropped_twice all (suc j) (suc i) ∙ ap (λ n. drop n all) (let z : suc j + suc i ≡ suc k = omega (arith, at) in z)) there.denotes;
  }

  pub reached : (bound k : ℕ) → k < bound → (r : Record) → slice_get all k ≡ Some r → Reached t all k all k
  reached zero k l r s = absurd (omega (arith, l))
  reached (suc bound) k l r s = elim (own_reached t all 0 all ds denotes k r s k (omega arith)) [ inl there ↦ there | inr named ↦ by_name (reached bound) named ]
    where
      by_name : ((j : ℕ) → j < bound → (q : Record) → slice_get all j ≡ Some q → Reached t all j all j) → is_named (home_of t all k r) ≡ true → Reached t all k all k
      by_name go named =
          let namer = named_by k k all named in
          let j = namer.0 in
          let q = namer.1 in
          let before = namer.2 in
          let told = of_member (IsAnswered (home_of t all j q) (later_from t all (suc j) (drop (suc j) all))) (names_in q.code.items)
          (answered j (go j (omega (arith, l, before)) q namer.3) q namer.3) k namer.4 in
          let behind = later_reached t all (suc j) (drop (suc j) all) k told.1 told.2 told.3 in
          from_behind j k behind.0 behind.1 behind.2

  below_of_answered : (h : Home) (later : Later) (ns : List ℕ) → EachOf (IsAnswered h later) ns → EachOf (λ n. n < length h.records) ns
  below_of_answered h later [] e = tt
  below_of_answered h later (n ∷ ns) e = (e.0.0, below_of_answered h later ns e.1)

  names_below : (k : ℕ) (rs : List Record) → ((i : ℕ) (r : Record) → slice_get rs i ≡ Some r → slice_get all (k + i) ≡ Some r) → EachOf (λ n. n < length all) (all_names rs)
  names_below k [] h = tt
  names_below k (r ∷ rs) h =
      let s = h 0 r refl in
      each_append (λ n. n < length all) (names_in r.code.items) (all_names rs)
      (below_of_answered (home_of t all (k + 0) r) (later_from t all (suc (k + 0)) (drop (suc (k + 0)) all)) (names_in r.code.items)
      (answered (k + 0) (reached (suc (k + 0)) (k + 0) (omega arith) r s) r s))
      (names_below (suc k) rs (λ i q e. ap (slice_get all) (let z : suc k + i ≡ k + suc i = omega arith in z) ∙ h (suc i) q e))

  -- all names are below the number of records
  pub all_below : EachOf (λ n. n < length all) (all_names all)
  all_below = names_below 0 all (λ i r e. ap (slice_get all) (let z : 0 + i ≡ i = omega arith in z) ∙ e)
