-- Records that are moved behind others: where they denoted clauses, the code as a whole denotes these clauses moved, behind those of the records before.
use Rattle.std.proofs.Common.{◌≡◌, ◌∙◌, ◌+◌, ◌<◌, ◌≤◌, ℕ, zero, suc, List, [], ◌∷◌, ◌++◌, map, length, Bool, true, false, Option, Some, None, ap, refl, sym, arith, subst}
use Rattle.std.specs.Prelude.{option_map, option_and_then, if◌then◌else◌, nat_eq, ◌||◌, slice_get}
use Rattle.std.proofs.lemmas.Bool.{ne_eqb}
use Rattle.lp_lemmas.specs.Each.{EachOf}
use Rattle.lp_lemmas.proofs.Booleans.{or_assoc}
use Rattle.lp_lemmas.proofs.Lists.{get_append}
use Rattle.lp_term.specs.Mapped.{Map}
use Rattle.lp_model.specs.Flat.{Clause}
use Rattle.lp_code.specs.declared.instruction.Instr.{Instr}
use Rattle.lp_code.specs.declared.record.Record.{Record}
use Rattle.lp_code.specs.Symbolic.{Tables}
use Rattle.lp_code.specs.States.{Captured, member}
use Rattle.lp_code.specs.Rules.{names_of, names_in, named_before}
use Rattle.lp_code.specs.Denote.{is_named, home_of, denoted, later_from, nothing_captured, denote_from}
use Rattle.lp_link.specs.Renumbering.{moving, AreMoved, AllMoved, IsMovedRecord, AllRecordsMoved, KeepsStandard}
use Rattle.lp_link.specs.inner.Renumbering.{moved_captured, IsMovedHome}
use Rattle.lp_link.proofs.MovedGoals.{same_home}
use Rattle.lp_link.proofs.MovedOperands.{operands_same}
use Rattle.lp_link.proofs.MovedEffects.{moved_clause, IsMovedLater}
use Rattle.lp_link.proofs.MovedRecords.{named_same}
use Rattle.lp_link.proofs.MovedRuns.{denoted_moved}
use Rattle.lp_link.proofs.ReachedRecords.{all_names}

-- numbers
same_moved : (n k l : ℕ) → nat_eq (n + k) (n + l) ≡ nat_eq k l
same_moved n k l = (λ z. nat_eq (swapped n k z) (swapped n l z)) ∙ same_home (λ x. x) (λ x. x) n k l
  where
    swapped : (a b : ℕ) → a + b ≡ b + a
    swapped a b = omega arith

member_behind : (k : ℕ) (xs ys : List ℕ) → member k (xs ++ ys) ≡ (member k xs || member k ys)
member_behind k [] ys = refl
member_behind k (y ∷ xs) ys = ap (λ b. nat_eq k y || b) (member_behind k xs ys) ∙ sym (or_assoc (nat_eq k y) (member k xs) (member k ys))

member_moved : (n k : ℕ) (xs : List ℕ) → member (n + k) (map (λ r. n + r) xs) ≡ member k xs
member_moved n k [] = refl
member_moved n k (x ∷ xs) = λ z. same_moved n k x z || member_moved n k xs z

-- lower numbers are none of them
not_among : (n k : ℕ) (xs : List ℕ) → EachOf (λ x. x < n) xs → member (n + k) xs ≡ false
not_among n k [] e = refl
not_among n k (x ∷ xs) e = λ z. ne_eqb (n + k) x (λ q. let l = e.0 in omega (arith, q, l)) z || not_among n k xs e.1 z

-- records behind others
get_behind : {A : Type 0} (front xs : List A) (n k : ℕ) → n ≡ length front → slice_get (front ++ xs) (n + k) ≡ slice_get xs k
get_behind [] xs n k e = ap (slice_get xs) (let z : n + k ≡ k = omega (arith, e) in z)
get_behind (y ∷ front) xs n k e = ap (slice_get (y ∷ (front ++ xs))) (let z : n + k ≡ suc (length front + k) = omega (arith, e) in z) ∙ get_behind front xs (length front) k refl

names_behind : (front rs : List Record) (n k : ℕ) → n ≡ k + length front → named_before n (front ++ rs) ≡ all_names front ++ named_before k rs
names_behind [] rs n k e = ap (λ j. named_before j rs) (let z : n ≡ k = omega (arith, e) in z)
names_behind (r ∷ front) rs n k e =
    ap (λ j. named_before j (r ∷ (front ++ rs))) (let z : n ≡ suc (k + length front) = omega (arith, e) in z)
    ∙ ap (λ l. names_in r.code.items ++ l) (names_behind front rs (k + length front) k refl) ∙ sym (appended (names_in r.code.items) (all_names front) (named_before k rs))
  where
    appended : (xs ys zs : List ℕ) → (xs ++ ys) ++ zs ≡ xs ++ (ys ++ zs)
    appended [] ys zs = refl
    appended (x ∷ xs) ys zs = ap (λ l. x ∷ l) (appended xs ys zs)

module _ (m : Map) (n : ℕ) where
  map_behind : (xs ys : List ℕ) → map (λ r. n + r) (xs ++ ys) ≡ map (λ r. n + r) xs ++ map (λ r. n + r) ys
  map_behind [] ys = refl
  map_behind (x ∷ xs) ys = ap (λ l. (n + x) ∷ l) (map_behind xs ys)

  names_moved : (is js : List Instr) → AllMoved m n is js → names_in js ≡ map (λ r. n + r) (names_in is)
  names_moved [] [] a = refl
  names_moved (i ∷ is) (j ∷ js) (x, a) = (λ z. (operands_same m n i j x).names z ++ names_moved is js a z) ∙ sym (map_behind (names_of i) (names_in is))
  names_moved [] (j ∷ js) a = absurd a
  names_moved (i ∷ is) [] a = absurd a

  record_there : (rs qs : List Record) → AllRecordsMoved m n rs qs → (k : ℕ) (r : Record) → slice_get rs k ≡ Some r → (q : Record) × (slice_get qs k ≡ Some q) × IsMovedRecord m n r q
  record_there (r ∷ rs) (q ∷ qs) (x, a) zero p e = (q, refl, subst (λ s. IsMovedRecord m n s q) (let z : r ≡ p = cc in z) x)
  record_there (r ∷ rs) (q ∷ qs) (x, a) (suc k) p e = record_there rs qs a k p e
  record_there [] [] a k p e = absurd (let z : None ≡ Some p = e in cc)
  record_there [] (q ∷ qs) a k p e = absurd a
  record_there (r ∷ rs) [] a k p e = absurd a

  -- the names of the first k records
  before_moved : (rs qs back : List Record) → AllRecordsMoved m n rs qs → (k j : ℕ) → k ≤ length rs → member (n + j) (named_before k (qs ++ back)) ≡ member j (named_before k rs)
  before_moved rs qs back a zero j l = refl
  before_moved (r ∷ rs) (q ∷ qs) back a (suc k) j l =
      member_behind (n + j) (names_in q.code.items) (named_before k (qs ++ back))
      ∙ (λ z. (ap (member (n + j)) (names_moved r.code.items q.code.items a.0.code) ∙ member_moved n j (names_in r.code.items)) z || before_moved rs qs back a.1 k j (omega (arith, l)) z)
      ∙ sym (member_behind j (names_in r.code.items) (named_before k rs))
  before_moved [] [] back a (suc k) j l = absurd (omega (arith, l))
  before_moved [] (q ∷ qs) back a (suc k) j l = absurd a
  before_moved (r ∷ rs) [] back a (suc k) j l = absurd a

  pub all_names_moved : (rs qs : List Record) → AllRecordsMoved m n rs qs → all_names qs ≡ map (λ r. n + r) (all_names rs)
  all_names_moved [] [] a = refl
  all_names_moved (r ∷ rs) (q ∷ qs) (x, a) = (λ z. names_moved r.code.items q.code.items x.code z ++ all_names_moved rs qs a z) ∙ sym (map_behind (names_in r.code.items) (all_names rs))
  all_names_moved [] (q ∷ qs) a = absurd a
  all_names_moved (r ∷ rs) [] a = absurd a

module _ (f g : ℕ → ℕ) (n : ℕ) (keeps : KeepsStandard f g) (t u : Tables) (tables : AreMoved (moving f g n) t u) (front rs qs back : List Record) (long : n ≡ length front)
    (below : EachOf (λ k. k < n) (all_names front)) (are : AllRecordsMoved (moving f g n) n rs qs) where
  abbrev m : Map
  m = moving f g n

  abbrev whole : List Record
  whole = front ++ (qs ++ back)

  swapped : (a b : ℕ) → a + b ≡ b + a
  swapped a b = omega arith

  home_moved : (k : ℕ) → k ≤ length rs → (r q : Record) → IsMovedRecord m n r q → IsMovedHome m n (home_of t rs k r) (home_of u whole (n + k) q)
  home_moved k l r q x = record {
    tables = tables;
    number = swapped n k;
    self = x;
    others = λ j p e. (let there = record_there m n rs qs are j p e in (there.0, get_behind front (qs ++ back) n j long ∙ get_append qs back j there.0 there.1, there.2));
    named = λ j. ap (member (n + j)) (names_behind front (qs ++ back) (n + k) k (let z : n + k ≡ k + length front = omega (arith, long) in z))
        ∙ member_behind (n + j) (all_names front) (named_before k (qs ++ back))
        ∙ (λ z. not_among n j (all_names front) below z || before_moved m n rs qs back are k j l z);
  }

  abbrev LaterMoved : ℕ → List Record → List Record → Type 0
  LaterMoved k ps ss = IsMovedLater f g n keeps (later_from t rs k ps) (later_from u whole (n + k) (ss ++ back))

  pub later_moved : (k : ℕ) (ps ss : List Record) → AllRecordsMoved m n ps ss → k + length ps ≤ length rs → IsMovedLater f g n keeps (later_from t rs k ps) (later_from u whole (n + k) (ss ++ back))
  later_moved k [] [] a l j c d e = absurd (let z : None ≡ Some d = e in cc)
  later_moved k (p ∷ ps) (s ∷ ss) (x, a) l j c d e =
      ap (λ w. if w then denoted (home_of u whole (n + k) s) (later_from u whole (suc (n + k)) (ss ++ back)) moved_back else later_from u whole
      (suc (n + k)) (ss ++ back) (n + j) moved_back) (same_moved n j k)
      ∙ by (subst (λ i. IsMovedLater f g n keeps (later_from t rs (suc k) ps) (later_from u whole i (ss ++ back)))
      (let z : n + suc k ≡ suc (n + k) = omega arith in z) (later_moved (suc k) ps ss a (omega (arith, l)))) (nat_eq j k) e
    where
      moved_back : Captured
      moved_back = moved_captured m c

      by : IsMovedLater f g n keeps (later_from t rs (suc k) ps) (later_from u whole (suc (n + k)) (ss ++ back)) → (b : Bool) →
          (if b then denoted (home_of t rs k p) (later_from t rs (suc k) ps) c else later_from t rs (suc k) ps j c) ≡ Some d
          → (if b then denoted (home_of u whole (n + k) s) (later_from u whole (suc (n + k)) (ss ++ back)) moved_back else later_from u whole
          (suc (n + k)) (ss ++ back) (n + j) moved_back) ≡ Some (moved_clause f g n keeps d)
      by more true e = denoted_moved f g n keeps (home_of t rs k p) (home_of u whole (n + k) s) (home_moved k (omega (arith, l)) p s x)
          (later_from t rs (suc k) ps) (later_from u whole (suc (n + k)) (ss ++ back)) more c d e
      by more false e = more j c d e
  later_moved k [] (s ∷ ss) a l j c d e = absurd a
  later_moved k (p ∷ ps) [] a l j c d e = absurd a

  -- the records from one on
  pub denote_moved : (k : ℕ) (ps ss : List Record) → AllRecordsMoved m n ps ss → k + length ps ≤ length rs → (own others : List Clause) → denote_from t rs k ps ≡ Some own
      → (j : ℕ) → j ≡ n + (k + length ps) → denote_from u whole j back ≡ Some others → denote_from u whole (n + k) (ss ++ back) ≡ Some (map (moved_clause f g n keeps) own ++ others)
  denote_moved k [] [] a l own others e j at h = ap (λ i. denote_from u whole i back) (let z : n + k ≡ j = omega (arith, at) in z) ∙ h ∙ ap
      (option_map (λ ds. map (moved_clause f g n keeps) ds ++ others)) e
  denote_moved k (p ∷ ps) (s ∷ ss) (x, a) l own others e j at h =
      ap (λ b. if b then option_and_then (λ c. option_map (λ cs. c ∷ cs) behind) mine else
      (if is_named (home_of u whole (n + k) s) then behind else None)) x.program ∙ by
      (λ es q. denote_moved (suc k) ps ss a (omega (arith, l)) es others q j (omega (arith, at)) h) p.program e
    where
      behind : Option (List Clause)
      behind = denote_from u whole (suc (n + k)) (ss ++ back)

      mine : Option Clause
      mine = denoted (home_of u whole (n + k) s) (later_from u whole (suc (n + k)) (ss ++ back)) nothing_captured

      Goes : Type 0
      Goes = (es : List Clause) → denote_from t rs (suc k) ps ≡ Some es → denote_from u whole (n + suc k) (ss ++ back) ≡ Some (map (moved_clause f g n keeps) es ++ others)

      rest : Goes → (es : List Clause) → denote_from t rs (suc k) ps ≡ Some es → behind ≡ Some (map (moved_clause f g n keeps) es ++ others)
      rest go es q = ap (λ i. denote_from u whole i (ss ++ back)) (let z : suc (n + k) ≡ n + suc k = omega arith in z) ∙ go es q

      more : IsMovedLater f g n keeps (later_from t rs (suc k) ps) (later_from u whole (suc (n + k)) (ss ++ back))
      more = subst (λ i. IsMovedLater f g n keeps (later_from t rs (suc k) ps) (later_from u whole i (ss ++ back)))
          (let z : n + suc k ≡ suc (n + k) = omega arith in z) (later_moved (suc k) ps ss a (omega (arith, l)))

      home : IsMovedHome m n (home_of t rs k p) (home_of u whole (n + k) s)
      home = home_moved k (omega (arith, l)) p s x

      program : Goes → (o : Option Clause) → denoted (home_of t rs k p) (later_from t rs (suc k) ps) nothing_captured ≡ o → (es : Option (List Clause)) → denote_from t rs (suc k) ps ≡ es
          → option_and_then (λ c. option_map (λ cs. c ∷ cs) es) o ≡ Some own → option_and_then (λ c. option_map (λ cs. c ∷ cs) behind) mine ≡ Some (map (moved_clause f g n keeps) own ++ others)
      program go None q es r e = absurd (let z : None ≡ Some own = e in cc)
      program go (Some c) q None r e = absurd (let z : None ≡ Some own = e in cc)
      program go (Some c) q (Some es) r e =
          ap (option_and_then (λ c. option_map (λ cs. c ∷ cs) behind)) (denoted_moved f g n keeps (home_of t rs k p) (home_of u whole (n + k) s) home
          (later_from t rs (suc k) ps) (later_from u whole (suc (n + k)) (ss ++ back)) more nothing_captured c q)
          ∙ ap (option_map (λ cs. moved_clause f g n keeps c ∷ cs)) (rest go es r) ∙ ap (option_map (λ ds. map (moved_clause f g n keeps) ds ++ others)) e

      by : Goes → (b : Bool) → (if b then option_and_then (λ c. option_map (λ cs. c ∷ cs) (denote_from t rs (suc k) ps))
          (denoted (home_of t rs k p) (later_from t rs (suc k) ps) nothing_captured) else
          (if is_named (home_of t rs k p) then denote_from t rs (suc k) ps else None)) ≡ Some own
          → (if b then option_and_then (λ c. option_map (λ cs. c ∷ cs) behind) mine else
          (if is_named (home_of u whole (n + k) s) then behind else None)) ≡ Some (map (moved_clause f g n keeps) own ++ others)
      by go true e = program go (denoted (home_of t rs k p) (later_from t rs (suc k) ps) nothing_captured) refl (denote_from t rs (suc k) ps) refl e
      by go false e = ap (λ b. if b then behind else None) (named_same f g n keeps (home_of t rs k p) (home_of u whole (n + k) s) home) ∙ assumed (is_named (home_of t rs k p)) e
        where
          assumed : (b : Bool) → (if b then denote_from t rs (suc k) ps else None) ≡ Some own → (if b then behind else None) ≡ Some (map (moved_clause f g n keeps) own ++ others)
          assumed true e = rest go own e
          assumed false e = absurd (let z : None ≡ Some own = e in cc)
  denote_moved k [] (s ∷ ss) a l own others e j at h = absurd a
  denote_moved k (p ∷ ps) [] a l own others e j at h = absurd a
