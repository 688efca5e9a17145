-- Code denotes clauses exactly where no rule is broken.
use Rattle.std.proofs.Common.{◌≡◌, ◌∙◌, ◌≤◌, ◌<◌, ℕ, suc, ◌+◌, ◌-◌, List, [], ◌∷◌, ◌++◌, append_assoc, Bool, true, false, Option, Some, None, ap, refl, sym, subst, arith, inl, inr}
use Rattle.std.specs.Prelude.{◌⊎◌, nat_eq, not, ◌||◌, if◌then◌else◌, option_map, option_and_then, slice_get, is_some, is_none}
use Rattle.std.proofs.lemmas.Bool.{ne_eqb, eqb-true}
use Rattle.lp_lemmas.proofs.Lists.{append_nil_sym}
use Rattle.lp_lemmas.proofs.Numbers.{nat_eq_self, nat_eq_comm, equal_or_above}
use Rattle.lp_model.specs.Flat.{Clause}
use Rattle.lp_code.specs.declared.record.Record.{Record}
use Rattle.lp_code.specs.Symbolic.{Tables}
use Rattle.lp_code.specs.States.{State, Home, Captured, member}
use Rattle.lp_code.specs.Steps.{Later}
use Rattle.lp_code.specs.Rules.{named_before}
use Rattle.lp_code.specs.Denote.{rules, is_named, Ran, Done, Broken, Void, run, any_clause, first_state, home_of, denoted, clause_ran, later_from, nothing_captured, denote_from, denote, CodeFault, captured_of, fault_of_run, fault_from, first_fault}
use Rattle.lp_verify.proofs.Members.{member_append}
use Rattle.lp_verify.proofs.Names.{next_named}
use Rattle.lp_verify.proofs.HandedOn.{captured_nothing, captured_front, captured_new}
use Rattle.lp_verify.proofs.AlikeRuns.{numbers, numbers_both, AreDenoted, IsAssumed, AreFresh, RunsOn, Compared, compare, record_kept}

-- records that were handed something

abbrev handed_list : Type 0
handed_list = List (ℕ × Captured)

captured_there : (xs ys : handed_list) (n : ℕ) → member n (numbers xs) ≡ true → captured_of (xs ++ ys) n ≡ captured_of xs n
captured_there [] ys n h = absurd (cc)
captured_there (x ∷ xs) ys n h = by_first (nat_eq n x.0) (nat_eq_comm n x.0) h (captured_there xs ys n)
  where
    by_first : (b : Bool) → b ≡ nat_eq x.0 n → (b || member n (numbers xs)) ≡ true → (member n (numbers xs) ≡ true → captured_of (xs ++ ys) n ≡ captured_of xs n) → (if nat_eq x.0 n then x.1 else captured_of (xs ++ ys) n) ≡ (if nat_eq x.0 n then x.1 else captured_of xs n)
    by_first true e h go = ap (λ b. if b then x.1 else captured_of (xs ++ ys) n) (sym e) ∙ ap (λ b. if b then x.1 else captured_of xs n) e
    by_first false e h go = ap (λ c. if nat_eq x.0 n then x.1 else c) (go h)

-- each is found with what it was handed
abbrev AreThere : (final xs : handed_list) → Type 0
AreThere final [] = Unit {0}
AreThere final (a ∷ more) = (captured_of final a.0 ≡ a.1) × AreThere final more

or_swapped : (a b : Bool) → (a || b) ≡ (b || (a || false))
or_swapped true true = refl
or_swapped true false = refl
or_swapped false true = refl
or_swapped false false = refl

each_found : (all : List Record) (k : ℕ) (f : ℕ → Bool) (before more : handed_list) → ((m : ℕ) → f m ≡ member m (numbers before)) → AreFresh all k f more → AreThere (before ++ more) more
each_found all k f before [] e h = tt
each_found all k f before (a ∷ more) e h = (
  captured_new before (a ∷ more) a.0 (sym (e a.0) ∙ h.1) ∙ ap (λ b. if b then a.1 else captured_of more a.0) (nat_eq_self a.0),
  subst (λ l. AreThere l more) (append_assoc before (a ∷ []) more)
      (each_found all k (λ m. nat_eq m a.0 || f m) (before ++ a ∷ []) more
      (λ m. ap (λ b. nat_eq m a.0 || b) (e m) ∙ or_swapped (nat_eq m a.0) (member m (numbers before)) ∙ sym (ap (member m) (numbers_both before (a ∷ [])) ∙ member_append m (numbers before) (a.0 ∷ []))) h.3),
)

-- those that an instruction names come later, and are assumed ones
fresh_one : (all : List Record) (k : ℕ) (f : ℕ → Bool) (xs : handed_list) → AreFresh all k f xs → (m : ℕ) → member m (numbers xs) ≡ true → (k < m) × IsAssumed all m
fresh_one all k f [] h m e = absurd (cc)
fresh_one all k f (a ∷ xs) h m e = by_first (nat_eq m a.0) refl e (fresh_one all k (λ n. nat_eq n a.0 || f n) xs h.3 m)
  where
    by_first : (b : Bool) → nat_eq m a.0 ≡ b → (b || member m (numbers xs)) ≡ true → (member m (numbers xs) ≡ true → (k < m) × IsAssumed all m) → (k < m) × IsAssumed all m
    by_first true t e go = subst (λ n. (k < n) × IsAssumed all n) (sym (eqb-true m a.0 t)) (h.0, h.2)
    by_first false t e go = go e

not_among : (all : List Record) (k : ℕ) (f : ℕ → Bool) (xs : handed_list) → AreFresh all k f xs → (m : ℕ) → m ≤ k → member m (numbers xs) ≡ false
not_among all k f xs h m l = by_test (member m (numbers xs)) refl
  where
    by_test : (b : Bool) → member m (numbers xs) ≡ b → b ≡ false
    by_test true e = let o = (fresh_one all k f xs h m e).0 in absurd (omega (arith, o, l))
    by_test false e = refl

-- the records from a number on
abbrev IsRest : (all : List Record) → (n : ℕ) → (rest : List Record) → Type 0
IsRest all n rs = (j : ℕ) → slice_get all (n + j) ≡ slice_get rs j

rest_first : (all : List Record) (n : ℕ) (r : Record) (rs : List Record) → IsRest all n (r ∷ rs) → slice_get all n ≡ Some r
rest_first all n r rs h = let z : n ≡ n + 0 = omega arith in ap (slice_get all) z ∙ h 0

rest_next : (all : List Record) (n : ℕ) (r : Record) (rs : List Record) → IsRest all n (r ∷ rs) → IsRest all (suc n) rs
rest_next all n r rs h j = let z : suc n + j ≡ n + suc j = omega arith in ap (slice_get all) z ∙ h (suc j)

none_behind : (all : List Record) (n m : ℕ) → IsRest all n [] → n ≤ m → slice_get all m ≡ None
none_behind all n m h l = let z : m ≡ n + (m - n) = omega (arith, l) in ap (slice_get all) z ∙ h (m - n)

record_same : (x y : Record) → Some x ≡ Some y → x ≡ y
record_same x y e = cc

-- what was handed on before a record: to those that were named, which are assumed ones
record AreNamed (all : List Record) (n : ℕ) (before : handed_list) : Type 0 where
  pub named : (m : ℕ) → member m (numbers before) ≡ member m (named_before n all)
  pub assumed : (m : ℕ) → member m (numbers before) ≡ true → IsAssumed all m

module _ (t : Tables) (all : List Record) where
  abbrev at : ℕ → Record → Home
  at n r = home_of t all n r

  abbrev later : ℕ → List Record → Later
  later n rs = later_from t all n rs

  -- a record that was run, and what it named
  module _ (n : ℕ) (r : Record) (rs : List Record) (before : handed_list) (rest : IsRest all n (r ∷ rs)) (named : AreNamed all n before) (v : State)
      (ran : RunsOn (at n r) (later (suc n) rs) (first_state r (captured_of before n)) r.code.items v) where
    fresh : AreFresh all n (λ m. member m (numbers before)) ran.more
    fresh = subst (λ f. AreFresh all n f ran.more) (λ j m. (ap (member m) (sym (append_nil_sym (named_before n all))) ∙ sym (named.named m)) j) ran.fresh

    assumed_is : before ++ v.assumed ≡ before ++ ran.more
    assumed_is = ap (λ l. before ++ l) ran.assumed

    named_on : AreNamed all (suc n) (before ++ v.assumed)
    named_on = subst (AreNamed all (suc n)) (sym assumed_is) (record {
      named = λ m. ap (member m) (numbers_both before ran.more) ∙ member_append m (numbers before) (numbers ran.more) ∙ (λ j. named.named m j || member m (ran.names j)) ∙ sym (next_named all n r m (rest_first all n r rs rest));
      assumed = λ m e. by_first m (member m (numbers before)) refl (sym (ap (member m) (numbers_both before ran.more) ∙ member_append m (numbers before) (numbers ran.more)) ∙ e);
    })
      where
        by_first : (m : ℕ) (b : Bool) → member m (numbers before) ≡ b → (member m (numbers before) || member m (numbers ran.more)) ≡ true → IsAssumed all m
        by_first m true h e = named.assumed m h
        by_first m false h e = (fresh_one all n (λ m. member m (numbers before)) ran.more fresh m (sym (ap (λ b. b || member m (numbers ran.more)) h) ∙ e)).1

    -- what it was handed itself is not changed by what it hands on
    same_start : (m : ℕ) → m ≤ n → captured_of (before ++ v.assumed) m ≡ captured_of before m
    same_start m l = ap (λ l. captured_of l m) assumed_is ∙ captured_front before ran.more m (not_among all n (λ m. member m (numbers before)) ran.more fresh m l)

  -- a record of the program was handed nothing
  nothing_handed : (n : ℕ) (r : Record) (before : handed_list) → slice_get all n ≡ Some r → r.program ≡ true → AreNamed all n before → captured_of before n ≡ nothing_captured
  nothing_handed n r before e p named = captured_nothing before n (by_test (member n (numbers before)) refl)
    where
      by_test : (b : Bool) → member n (numbers before) ≡ b → b ≡ false
      by_test true h = let a = named.assumed n h in absurd (let q : true ≡ false = sym p ∙ ap (λ (r : Record). r.program) (record_same r a.0 (sym e ∙ a.1)) ∙ a.2 in cc)
      by_test false h = refl

  -- the clause of a record, by number
  later_here : (n : ℕ) (r : Record) (rs : List Record) (c : Captured) → later n (r ∷ rs) n c ≡ denoted (at n r) (later (suc n) rs) c
  later_here n r rs c = ap (λ b. if b then denoted (at n r) (later (suc n) rs) c else later (suc n) rs n c) (nat_eq_self n)

  later_behind : (n : ℕ) (r : Record) (rs : List Record) (m : ℕ) (c : Captured) → suc n ≤ m → later n (r ∷ rs) m c ≡ later (suc n) rs m c
  later_behind n r rs m c l = ap (λ b. if b then denoted (at n r) (later (suc n) rs) c else later (suc n) rs m c) (ne_eqb m n (λ e. omega (arith, e, l)))

  -- where no rule is broken

  record AllDenote (n : ℕ) (rs : List Record) (before : handed_list) : Type 0 where
    pub final : handed_list
    pub same : (m : ℕ) → (m < n) ⊎ (member m (numbers before) ≡ true) → captured_of final m ≡ captured_of before m
    pub each : (m : ℕ) (r : Record) → n ≤ m → slice_get all m ≡ Some r → (c : Clause) × (later n rs m (captured_of final m) ≡ Some c)
    pub clauses : (cs : List Clause) × (denote_from t all n rs ≡ Some cs)

  module _ (n : ℕ) (r : Record) (rs : List Record) (before : handed_list) (rest : IsRest all n (r ∷ rs)) (named : AreNamed all n before) (v : State)
      (ran : RunsOn (at n r) (later (suc n) rs) (first_state r (captured_of before n)) r.code.items v) (kept : run (at n r) any_clause (first_state r (captured_of before n)) r.code.items ≡ Done v)
      (behind : AllDenote (suc n) rs (before ++ v.assumed)) where
    abbrev start : State
    start = first_state r (captured_of before n)

    -- the records that it assumes denote clauses
    denoted_each : (xs : handed_list) (f : ℕ → Bool) → AreFresh all n f xs → AreThere (before ++ ran.more) xs → ((m : ℕ) → member m (numbers xs) ≡ true → member m (numbers (before ++ v.assumed)) ≡ true) → AreDenoted (later (suc n) rs) xs
    denoted_each [] f h e g = tt
    denoted_each (a ∷ xs) f h e g =
        let d = behind.each a.0 h.2.0 h.0 h.2.1 in
        let same = behind.same a.0 (inr (g a.0 (ap (λ b. b || member a.0 (numbers xs)) (nat_eq_self a.0)))) ∙ ap (λ l. captured_of l a.0) (assumed_is n r rs before rest named v ran) ∙ e.0 in (
          (d.0, sym (ap (later (suc n) rs a.0) same) ∙ d.1),
          denoted_each xs (λ m. nat_eq m a.0 || f m) h.3 e.1 (λ m k. g m (or_true_right (nat_eq m a.0) (member m (numbers xs)) k)),
        )
      where
        or_true_right : (a b : Bool) → b ≡ true → (a || b) ≡ true
        or_true_right true b e = refl
        or_true_right false b e = e

    among : (m : ℕ) → member m (numbers ran.more) ≡ true → member m (numbers (before ++ v.assumed)) ≡ true
    among m e = ap (λ l. member m (numbers l)) (assumed_is n r rs before rest named v ran) ∙ ap (member m) (numbers_both before ran.more) ∙ member_append m (numbers before) (numbers ran.more) ∙ or_last (member m (numbers before)) (member m (numbers ran.more)) e
      where
        or_last : (a b : Bool) → b ≡ true → (a || b) ≡ true
        or_last true b e = refl
        or_last false b e = e

    ends : (x : State) × (run (at n r) (later (suc n) rs) start r.code.items ≡ Done x)
    ends =
        let f = fresh n r rs before rest named v ran in
        ran.forth start refl (denoted_each ran.more (λ m. member m (numbers before)) f (each_found all n (λ m. member m (numbers before)) before ran.more (λ m. refl) f) among)

    here : (c : Clause) × (denoted (at n r) (later (suc n) rs) (captured_of before n) ≡ Some c)
    here = (Rattle.lp_code.specs.Denote.clause_of (at n r) ends.0, ap (clause_ran (at n r)) ends.1)

    denotes_here : (c : Clause) × (later n (r ∷ rs) n (captured_of behind.final n) ≡ Some c)
    denotes_here =
        let l : n < suc n = omega arith in
        let k : n ≤ n = omega arith in
        (here.0, later_here n r rs (captured_of behind.final n) ∙ ap (denoted (at n r) (later (suc n) rs)) (behind.same n (inl l) ∙ same_start n r rs before rest named v ran n k) ∙ here.1)

    each_here : (m : ℕ) (q : Record) → n ≤ m → slice_get all m ≡ Some q → (c : Clause) × (later n (r ∷ rs) m (captured_of behind.final m) ≡ Some c)
    each_here m q l e = elim (equal_or_above n m l) [
      | inl k ↦ subst (λ m. (c : Clause) × (later n (r ∷ rs) m (captured_of behind.final m) ≡ Some c)) (sym k) denotes_here
      | inr k ↦ let d = behind.each m q k e in (d.0, later_behind n r rs m (captured_of behind.final m) k ∙ d.1)
    ]

    clauses_here : (p : Bool) → r.program ≡ p → (cs : List Clause) × (denote_from t all n (r ∷ rs) ≡ Some cs)
    clauses_here true p =
        let none = nothing_handed n r before (rest_first all n r rs rest) p named in
        let more = behind.clauses in
        let first : denoted (at n r) (later (suc n) rs) nothing_captured ≡ Some here.0 = ap (denoted (at n r) (later (suc n) rs)) (sym none) ∙ here.1 in (
          here.0 ∷ more.0,
          ap (λ b. if b then option_and_then (λ c. option_map (λ cs. c ∷ cs) (denote_from t all (suc n) rs)) (denoted (at n r) (later (suc n) rs) nothing_captured) else (if is_named (at n r) then denote_from t all (suc n) rs else None)) p
              ∙ (λ j. option_and_then (λ c. option_map (λ cs. c ∷ cs) (more.1 j)) (first j)),
        )
    clauses_here false p =
        let more = behind.clauses in
        let is : is_named (at n r) ≡ true = not_false (is_named (at n r)) (sym (ap (λ b. if b then not (nat_eq (r.captured_types + r.captured) 0) else not (is_named (at n r))) p) ∙ record_kept (at n r) (captured_of before n) r.code.items v kept) in (
          more.0,
          ap (λ b. if b then option_and_then (λ c. option_map (λ cs. c ∷ cs) (denote_from t all (suc n) rs)) (denoted (at n r) (later (suc n) rs) nothing_captured) else (if is_named (at n r) then denote_from t all (suc n) rs else None)) p
              ∙ ap (λ b. if b then denote_from t all (suc n) rs else None) is ∙ more.1,
        )
      where
        not_false : (b : Bool) → not b ≡ false → b ≡ true
        not_false true e = refl
        not_false false e = absurd (cc)

    all_here : AllDenote n (r ∷ rs) before
    all_here = record {
      final = behind.final;
      same = λ m o. elim o [
        | inl l ↦ let k : m < suc n = omega (arith, l) in let j : m ≤ n = omega (arith, l) in behind.same m (inl k) ∙ same_start n r rs before rest named v ran m j
        | inr e ↦ behind.same m (inr (ap (λ l. member m (numbers l)) (assumed_is n r rs before rest named v ran) ∙ ap (member m)
            (numbers_both before ran.more) ∙ member_append m (numbers before) (numbers ran.more) ∙ ap (λ b. b || member m (numbers ran.more)) e)) ∙ ap
            (λ l. captured_of l m) (assumed_is n r rs before rest named v ran) ∙ captured_there before ran.more m e
      ];
      each = each_here;
      clauses = clauses_here r.program refl;
    }

  fault_there : (n : ℕ) (go : State → Option CodeFault) (at : ℕ) (r : _) → fault_of_run n go (Broken at r) ≡ None → ⊥
  fault_there n go at r e = absurd (cc)

  all_denote : (n : ℕ) (rs : List Record) (before : handed_list) → IsRest all n rs → AreNamed all n before → fault_from rules t all before n rs ≡ None → AllDenote n rs before
  all_denote n [] before rest named h = record {
    final = before;
    same = λ m o. refl;
    each = λ m r l e. absurd (let z : None ≡ Some r = sym (none_behind all n m rest l) ∙ e in cc);
    clauses = ([], refl);
  }
  all_denote n (r ∷ rs) before rest named h = by_ran (λ v. all_denote (suc n) rs (before ++ v.assumed) (rest_next all n r rs rest))
      (run (at n r) any_clause (first_state r (captured_of before n)) r.code.items) refl
      (compare (at n r) (later (suc n) rs) r.code.items (first_state r (captured_of before n))) h
    where
      by_ran : ((v : State) → AreNamed all (suc n) (before ++ v.assumed) → fault_from rules t all (before ++ v.assumed) (suc n) rs ≡ None → AllDenote (suc n) rs (before ++ v.assumed)) → (ran : Ran) → run (at n r) any_clause (first_state r (captured_of before n)) r.code.items ≡ ran
          → Compared (at n r) (later (suc n) rs) (first_state r (captured_of before n)) r.code.items ran → fault_of_run n (λ s. fault_from rules t all (before ++ s.assumed) (suc n) rs) ran ≡ None → AllDenote n (r ∷ rs) before
      by_ran go (Done v) e c h = all_here n r rs before rest named v c e (go v (named_on n r rs before rest named v c) h)
      by_ran go (Broken p q) e c h = absurd (fault_there n (λ s. fault_from rules t all (before ++ s.assumed) (suc n) rs) p q h)
      by_ran go Void e c h = absurd c

  -- where clauses are denoted

  abbrev AreGood : ℕ → List Record → handed_list → Type 0
  AreGood n rs before = (m : ℕ) → n ≤ m → member m (numbers before) ≡ true → (c : Clause) × (later n rs m (captured_of before m) ≡ Some c)

  denoted_at : (l : Later) (xs : handed_list) → AreDenoted l xs → (m : ℕ) → member m (numbers xs) ≡ true → (c : Clause) × (l m (captured_of xs m) ≡ Some c)
  denoted_at l [] d m e = absurd (cc)
  denoted_at l (a ∷ xs) d m e = by_first (nat_eq m a.0) refl e (denoted_at l xs d.1 m)
    where
      by_first : (b : Bool) → nat_eq m a.0 ≡ b → (b || member m (numbers xs)) ≡ true → (member m (numbers xs) ≡ true → (c : Clause) × (l m (captured_of xs m) ≡ Some c)) → (c : Clause) × (l m (if nat_eq a.0 m then a.1 else captured_of xs m) ≡ Some c)
      by_first true h e go = (d.0.0, ap (λ b. l m (if b then a.1 else captured_of xs m)) (nat_eq_comm a.0 m ∙ h) ∙ ap (λ k. l k a.1) (eqb-true m a.0 h) ∙ d.0.1)
      by_first false h e go = let g = go e in (g.0, ap (λ b. l m (if b then a.1 else captured_of xs m)) (nat_eq_comm a.0 m ∙ h) ∙ g.1)

  good_on : (n : ℕ) (r : Record) (rs : List Record) (before : handed_list) (rest : IsRest all n (r ∷ rs)) (named : AreNamed all n before) (v : State) (ran : RunsOn (at n r) (later (suc n) rs) (first_state r (captured_of before n)) r.code.items v) → AreGood n (r ∷ rs) before
      → AreDenoted (later (suc n) rs) ran.more → AreGood (suc n) rs (before ++ v.assumed)
  good_on n r rs before rest named v ran good d = subst (AreGood (suc n) rs) (sym (assumed_is n r rs before rest named v ran)) (λ m l e. by_first m l (member m (numbers before)) refl (sym (ap (member m) (numbers_both before ran.more) ∙ member_append m (numbers before) (numbers ran.more)) ∙ e))
    where
      by_first : (m : ℕ) → suc n ≤ m → (b : Bool) → member m (numbers before) ≡ b → (member m (numbers before) || member m (numbers ran.more)) ≡ true → (c : Clause) × (later (suc n) rs m (captured_of (before ++ ran.more) m) ≡ Some c)
      by_first m l true h e =
          let k : n ≤ m = omega (arith, l) in
          let g = good m k h in
          (g.0, ap (later (suc n) rs m) (captured_there before ran.more m h) ∙ sym (later_behind n r rs m (captured_of before m) l) ∙ g.1)
      by_first m l false h e =
          let g = denoted_at (later (suc n) rs) ran.more d m (sym (ap (λ b. b || member m (numbers ran.more)) h) ∙ e) in
          (g.0, ap (later (suc n) rs m) (captured_new before ran.more m h) ∙ g.1)

  -- the first record denotes a clause with what it was handed, and the others denote theirs
  record FirstDenotes (n : ℕ) (r : Record) (rs : List Record) (before : handed_list) : Type 0 where
    pub first : Clause
    pub denotes : denoted (at n r) (later (suc n) rs) (captured_of before n) ≡ Some first
    pub others : List Clause
    pub denote : denote_from t all (suc n) rs ≡ Some others

  first_denotes : (n : ℕ) (r : Record) (rs : List Record) (before : handed_list) → IsRest all n (r ∷ rs) → AreNamed all n before → AreGood n (r ∷ rs) before → (cs : List Clause) → denote_from t all n (r ∷ rs) ≡ Some cs → FirstDenotes n r rs before
  first_denotes n r rs before rest named good cs h = by_program r.program refl h
    where
      by_others : (c : Clause) → denoted (at n r) (later (suc n) rs) (captured_of before n) ≡ Some c → (o : Option (List Clause)) → denote_from t all (suc n) rs ≡ o → option_map (λ cs. c ∷ cs) o ≡ Some cs → FirstDenotes n r rs before
      by_others c e None k h = absurd (cc)
      by_others c e (Some ds) k h = record { first = c; denotes = e; others = ds; denote = k }

      by_first : r.program ≡ true → (o : Option Clause) → denoted (at n r) (later (suc n) rs) nothing_captured ≡ o → option_and_then (λ c. option_map (λ cs. c ∷ cs) (denote_from t all (suc n) rs)) o ≡ Some cs → FirstDenotes n r rs before
      by_first p None e h = absurd (cc)
      by_first p (Some c) e h = by_others c (ap (denoted (at n r) (later (suc n) rs)) (nothing_handed n r before (rest_first all n r rs rest) p named) ∙ e) (denote_from t all (suc n) rs) refl h

      by_named : (b : Bool) → is_named (at n r) ≡ b → (if b then denote_from t all (suc n) rs else None) ≡ Some cs → FirstDenotes n r rs before
      by_named true e h =
          let k : n ≤ n = omega arith in
          let g = good n k (named.named n ∙ e) in
          record { first = g.0; denotes = sym (later_here n r rs (captured_of before n)) ∙ g.1; others = cs; denote = h }
      by_named false e h = absurd (cc)

      by_program : (p : Bool) → r.program ≡ p → (if p then option_and_then (λ c. option_map (λ cs. c ∷ cs) (denote_from t all (suc n) rs))
          (denoted (at n r) (later (suc n) rs) nothing_captured) else (if is_named (at n r) then denote_from t all (suc n) rs else None)) ≡ Some cs →
          FirstDenotes n r rs before
      by_program true p h = by_first p (denoted (at n r) (later (suc n) rs) nothing_captured) refl h
      by_program false p h = by_named (is_named (at n r)) refl h

  has_ended : (h : Home) (ran : Ran) (c : Clause) → clause_ran h ran ≡ Some c → (x : State) × (ran ≡ Done x)
  has_ended h (Done x) c e = (x, refl)
  has_ended h (Broken p q) c e = absurd (cc)
  has_ended h Void c e = absurd (cc)

  no_fault : (n : ℕ) (rs : List Record) (before : handed_list) → IsRest all n rs → AreNamed all n before → AreGood n rs before → (cs : List Clause) → denote_from t all n rs ≡ Some cs → fault_from rules t all before n rs ≡ None
  no_fault n [] before rest named good cs h = refl
  no_fault n (r ∷ rs) before rest named good cs h =
      let f = first_denotes n r rs before rest named good cs h in
      by_ran (λ v k g. no_fault (suc n) rs (before ++ v.assumed) (rest_next all n r rs rest) k g f.others f.denote) (has_ended (at n r) (run (at n r) (later (suc n) rs) (first_state r (captured_of before n)) r.code.items) f.first f.denotes)
      (run (at n r) any_clause (first_state r (captured_of before n)) r.code.items) (compare (at n r) (later (suc n) rs) r.code.items (first_state r (captured_of before n)))
    where
      by_ran : ((v : State) → AreNamed all (suc n) (before ++ v.assumed) → AreGood (suc n) rs (before ++ v.assumed) → fault_from rules t all (before ++ v.assumed) (suc n) rs ≡ None) → (x : State) × (run (at n r) (later (suc n) rs) (first_state r (captured_of before n)) r.code.items ≡ Done x)
          → (ran : Ran) → Compared (at n r) (later (suc n) rs) (first_state r (captured_of before n)) r.code.items ran → fault_of_run n (λ s. fault_from rules t all (before ++ s.assumed) (suc n) rs) ran ≡ None
      by_ran go x (Done v) c = go v (named_on n r rs before rest named v c) (good_on n r rs before rest named v c good (c.back (first_state r (captured_of before n)) refl x.0 x.1))
      by_ran go x (Broken p q) c = absurd (c (first_state r (captured_of before n)) refl x.0 x.1)
      by_ran go x Void c = absurd c

  nothing_named : AreNamed all 0 []
  nothing_named = record { named = λ m. refl; assumed = λ m e. absurd (cc) }

  from_start : IsRest all 0 all
  from_start j = let z : 0 + j ≡ j = omega arith in ap (slice_get all) z

pub denotes_exactly : (t : Tables) (rs : List Record) → is_some (denote t rs) ≡ is_none (first_fault t rs)
denotes_exactly t rs = by_cases (denote t rs) refl (first_fault t rs) refl
  where
    by_cases : (o : Option (List Clause)) → denote t rs ≡ o → (p : Option CodeFault) → first_fault t rs ≡ p → is_some o ≡ is_none p
    by_cases None e None f = let d = (all_denote t rs 0 rs [] (from_start t rs) (nothing_named t rs) f).clauses in absurd (let z : None ≡ Some d.0 = sym e ∙ d.1 in cc)
    by_cases None e (Some x) f = refl
    by_cases (Some cs) e None f = refl
    by_cases (Some cs) e (Some x) f = absurd (let z : Some x ≡ None = sym f ∙ no_fault t rs 0 rs [] (from_start t rs) (nothing_named t rs) (λ m l e. absurd (cc)) cs e in cc)
