-- Pruning, lowering and settling lead from pattern terms to pattern terms, and bind variables to such.
use Rattle.std.proofs.Common.{◌≡◌, ℕ, zero, suc, ◌≤◌, List, [], ◌∷◌, ◌++◌, Bool, true, false, Option, Some, None, refl, ap, ◌∙◌, subst as transport, arith}
use Rattle.std.specs.Prelude.{◌||◌, not, min, nat_eq, nat_lt, nat_le, if◌then◌else◌, option_map}
use Rattle.std.proofs.lemmas.Option.{same_Some, option_and_then_some}
use Rattle.std.proofs.lemmas.Bool.Decides.{nat_tests}
use Rattle.lp_lemmas.proofs.Booleans.{and_true_left, and_true_right, or_false_left, or_false_right}
use Rattle.lp_calculus.specs.Term.{Term, atom, apply, Atom, logic}
use Rattle.lp_calculus.specs.Fill.{Within, Binding, put, abstracted}
use Rattle.lp_model.specs.Patterns.{eigens, member, chosen, agreeing}
use Rattle.lp_model.specs.Look.{are_distinct, are_above}
use Rattle.lp_model.specs.Scan.{Side, allows, Pattern, Scanned, broken, whole, scan, fits, first_misfit, renewal, Pruned, led_by, prune}
use Rattle.lp_calculus.proofs.Fills.{within_more}
use Rattle.lp_unify_laws.specs.Levels.{IsPairAtom}
use Rattle.lp_unify_laws.proofs.Closings.{WithinAll, apply_within}
use Rattle.lp_unify_laws.proofs.Prunings.{pair_seen, renewal_scoped}
use Rattle.lp_unify_laws.proofs.Sames.{both_on}
use Rattle.lp_unify_laws.proofs.Scans.{Seen}
use Rattle.lp_unify_laws.proofs.Throughs.{put_within, pair_next_term}
use Rattle.lp_pattern_laws.specs.Patterns.{IsPattern}
use Rattle.lp_pattern_laws.proofs.Comes.{of_term}
use Rattle.lp_pattern_laws.proofs.Looked.{not_true, variable_pattern}
use Rattle.lp_pattern_laws.proofs.PutForms.{HavePatterns, pattern_put, pattern_abstracted}
use Rattle.lp_pattern_laws.proofs.Scanned.{IsGood, AreGood, IsWell, scan_well, mapped}

-- lists of eigenconstants out of others

false_or : (a b : Bool) → a ≡ false → b ≡ false → (a || b) ≡ false
false_or a b p q = ap (λ x. x || b) p ∙ q

no_chosen : (k : ℕ) (f : ℕ → Bool) (cs : List ℕ) → member k cs ≡ false → member k (chosen f cs) ≡ false
no_chosen k f [] e = refl
no_chosen k f (c ∷ cs) e = by (no_chosen k f cs (or_false_right (nat_eq k c) (member k cs) e)) (f c)
  where
    by : member k (chosen f cs) ≡ false → (t : Bool) → member k (if t then c ∷ chosen f cs else chosen f cs) ≡ false
    by rest true = false_or (nat_eq k c) (member k (chosen f cs)) (or_false_left (nat_eq k c) (member k cs) e) rest
    by rest false = rest

distinct_chosen : (f : ℕ → Bool) (cs : List ℕ) → are_distinct cs ≡ true → are_distinct (chosen f cs) ≡ true
distinct_chosen f [] d = refl
distinct_chosen f (c ∷ cs) d = by (distinct_chosen f cs (and_true_right (not (member c cs)) (are_distinct cs) d)) (f c)
  where
    by : are_distinct (chosen f cs) ≡ true → (t : Bool) → are_distinct (if t then c ∷ chosen f cs else chosen f cs) ≡ true
    by rest true = both_on (not (member c (chosen f cs))) (are_distinct (chosen f cs)) (ap not (no_chosen c f cs (not_true (member c cs) (and_true_left (not (member c cs)) (are_distinct cs) d)))) rest
    by rest false = rest

above_chosen : (l m : ℕ) (f : ℕ → Bool) (cs : List ℕ) → m ≤ l → are_above l cs ≡ true → are_above m (chosen f cs) ≡ true
above_chosen l m f [] h a = refl
above_chosen l m f (c ∷ cs) h a = by (above_chosen l m f cs h (and_true_right (nat_lt l c) (are_above l cs) a)) (f c)
  where
    test : nat_lt m c ≡ true
    test = let q = and_true_left (nat_lt l c) (are_above l cs) a in grind (arith, nat_tests)

    by : are_above m (chosen f cs) ≡ true → (t : Bool) → are_above m (if t then c ∷ chosen f cs else chosen f cs) ≡ true
    by rest true = both_on (nat_lt m c) (are_above m (chosen f cs)) test rest
    by rest false = rest

no_append : (k : ℕ) (ks js : List ℕ) → member k ks ≡ false → member k js ≡ false → member k (ks ++ js) ≡ false
no_append k [] js e f = f
no_append k (a ∷ ks) js e f = false_or (nat_eq k a) (member k (ks ++ js)) (or_false_left (nat_eq k a) (member k ks) e) (no_append k ks js (or_false_right (nat_eq k a) (member k ks) e) f)

above_append : (l : ℕ) (ks js : List ℕ) → are_above l ks ≡ true → are_above l js ≡ true → are_above l (ks ++ js) ≡ true
above_append l [] js p q = q
above_append l (a ∷ ks) js p q = both_on (nat_lt l a) (are_above l (ks ++ js)) (and_true_left (nat_lt l a) (are_above l ks) p) (above_append l ks js (and_true_right (nat_lt l a) (are_above l ks) p) q)

-- one that is not above a level is none of those that are
no_above : (m k : ℕ) (js : List ℕ) → k ≤ m → are_above m js ≡ true → member k js ≡ false
no_above m k [] h a = refl
no_above m k (b ∷ js) h a =
    let q = and_true_left (nat_lt m b) (are_above m js) a in
    let t : nat_eq k b ≡ false = grind (arith, nat_tests) in
    false_or (nat_eq k b) (member k js) t (no_above m k js h (and_true_right (nat_lt m b) (are_above m js) a))

-- those up to a level, then some above it
distinct_given : (m : ℕ) (cs js : List ℕ) → are_distinct cs ≡ true → are_distinct js ≡ true → are_above m js ≡ true → are_distinct (chosen (λ k. nat_le k m) cs ++ js) ≡ true
distinct_given m [] js d e a = e
distinct_given m (c ∷ cs) js d e a = by (distinct_given m cs js (and_true_right (not (member c cs)) (are_distinct cs) d) e a) (nat_le c m) refl
  where
    by : are_distinct (chosen (λ k. nat_le k m) cs ++ js) ≡ true → (t : Bool) → nat_le c m ≡ t → are_distinct
        ((if t then c ∷ chosen (λ k. nat_le k m) cs else chosen (λ k. nat_le k m) cs) ++ js) ≡ true
    by rest true q =
        let low : c ≤ m = grind (arith, nat_tests) in
        both_on (not (member c (chosen (λ k. nat_le k m) cs ++ js))) (are_distinct (chosen (λ k. nat_le k m) cs ++ js))
        (ap not (no_append c (chosen (λ k. nat_le k m) cs) js (no_chosen c (λ k. nat_le k m) cs
        (not_true (member c cs) (and_true_left (not (member c cs)) (are_distinct cs) d))) (no_above m c js low a))) rest
    by rest false q = rest

no_agreeing : (k : ℕ) (ks js : List ℕ) → member k ks ≡ false → member k (agreeing ks js) ≡ false
no_agreeing k [] js e = refl
no_agreeing k (a ∷ ks) [] e = refl
no_agreeing k (a ∷ ks) (b ∷ js) e = by (no_agreeing k ks js (or_false_right (nat_eq k a) (member k ks) e)) (nat_eq a b)
  where
    by : member k (agreeing ks js) ≡ false → (t : Bool) → member k (if t then a ∷ agreeing ks js else agreeing ks js) ≡ false
    by rest true = false_or (nat_eq k a) (member k (agreeing ks js)) (or_false_left (nat_eq k a) (member k ks) e) rest
    by rest false = rest

distinct_agreeing : (ks js : List ℕ) → are_distinct ks ≡ true → are_distinct (agreeing ks js) ≡ true
distinct_agreeing [] js d = refl
distinct_agreeing (a ∷ ks) [] d = refl
distinct_agreeing (a ∷ ks) (b ∷ js) d = by (distinct_agreeing ks js (and_true_right (not (member a ks)) (are_distinct ks) d)) (nat_eq a b)
  where
    by : are_distinct (agreeing ks js) ≡ true → (t : Bool) → are_distinct (if t then a ∷ agreeing ks js else agreeing ks js) ≡ true
    by rest true = both_on (not (member a (agreeing ks js))) (are_distinct (agreeing ks js))
        (ap not (no_agreeing a ks js (not_true (member a ks) (and_true_left (not (member a ks)) (are_distinct ks) d)))) rest
    by rest false = rest

above_agreeing : (l : ℕ) (ks js : List ℕ) → are_above l ks ≡ true → are_above l (agreeing ks js) ≡ true
above_agreeing l [] js d = refl
above_agreeing l (a ∷ ks) [] d = refl
above_agreeing l (a ∷ ks) (b ∷ js) d = by (above_agreeing l ks js (and_true_right (nat_lt l a) (are_above l ks) d)) (nat_eq a b)
  where
    by : are_above l (agreeing ks js) ≡ true → (t : Bool) → are_above l (if t then a ∷ agreeing ks js else agreeing ks js) ≡ true
    by rest true = both_on (nat_lt l a) (are_above l (agreeing ks js)) (and_true_left (nat_lt l a) (are_above l ks) d) rest
    by rest false = rest

-- a variable on eigenconstants, abstracted over eigenconstants
abbrev Any : Atom → Type 0
Any a = Unit {0}

any_eigens : (cs : List ℕ) → WithinAll Any (eigens cs)
any_eigens [] = tt
any_eigens (c ∷ cs) = (tt, any_eigens cs)

pub abstracted_variable : (js cs : List ℕ) (x l : ℕ) → are_distinct cs ≡ true → are_above l cs ≡ true → IsPattern (abstracted js (apply (atom (logic x l)) (eigens cs)))
abstracted_variable js cs x l d a =
    pattern_abstracted Any js (apply (atom (logic x l)) (eigens cs)) (of_term (variable_pattern x l cs d a)) (apply_within Any (eigens cs) (atom (logic x l)) tt (any_eigens cs))

pub joined_pattern : (ks js : List ℕ) (x l : ℕ) → are_distinct ks ≡ true → are_above l ks ≡ true → IsPattern (abstracted ks (apply (atom (logic x l)) (eigens (agreeing ks js))))
joined_pattern ks js x l d a = abstracted_variable ks (agreeing ks js) x l (distinct_agreeing ks js d) (above_agreeing l ks js a)

pub patterns_last : (js : List Binding) (b : Binding) → HavePatterns js → IsPattern b.value → HavePatterns (js ++ b ∷ [])
patterns_last [] b h p = (p, tt)
patterns_last (c ∷ cs) b h p = (h.0, patterns_last cs b h.1 p)

least_left : (a b : ℕ) → min a b ≤ a
least_left a b = omega arith

least_right : (a b : ℕ) → min a b ≤ b
least_right a b = omega arith

renewal_pattern : (s : Side) (next : ℕ) (p : Pattern) → are_distinct s.arguments ≡ true → are_above s.level s.arguments ≡ true → IsGood p → IsPattern (renewal s next p).value
renewal_pattern s next p d a g =
    abstracted_variable p.arguments (chosen (λ k. nat_le k p.level) s.arguments ++ chosen (allows s) p.arguments) next (min s.level p.level)
    (distinct_given p.level s.arguments (chosen (allows s) p.arguments) d (distinct_chosen (allows s) p.arguments g.0) (above_chosen p.level p.level (allows s) p.arguments (omega arith) g.1))
    (above_append (min s.level p.level) (chosen (λ k. nat_le k p.level) s.arguments) (chosen (allows s) p.arguments)
    (above_chosen s.level (min s.level p.level) (λ k. nat_le k p.level) s.arguments (least_left s.level p.level) a)
    (above_chosen p.level (min s.level p.level) (allows s) p.arguments (least_right s.level p.level) g.1))

misfit_good : (s : Side) (ps : List Pattern) → AreGood ps → (p : Pattern) → first_misfit s ps ≡ Some p → IsGood p
misfit_good s [] g p e = absurd (cc)
misfit_good s (q ∷ qs) g p e = by (λ x. misfit_good s qs g.1 p x) (fits s q) e
  where
    by : (first_misfit s qs ≡ Some p → IsGood p) → (t : Bool) → (if t then first_misfit s qs else Some q) ≡ Some p → IsGood p
    by rest true e = rest e
    by rest false e = transport IsGood (same_Some q p e) g.0

-- what pruning leads to
pub record IsPrunedWell (s : Side) (r : Pruned) : Type 0 where
  pub bindings : HavePatterns r.bindings
  pub term : IsPattern r.term
  pub within : Within (IsPairAtom r.next s.pair) 0 r.term

module _ (s : Side) (d : are_distinct s.arguments ≡ true) (a : are_above s.level s.arguments ≡ true) where
  pub prune_well : (n next : ℕ) (t : Term) (r : Pruned) → IsPattern t → Within (IsPairAtom next s.pair) 0 t → prune n s next t ≡ Some r → IsPrunedWell s r
  prune_well zero next t r p w e = absurd (cc)
  prune_well (suc n) next t r p w e = option_and_then_some _ (scan n s false s.pair t) r e λ x i q.
      by_scan (λ u x. prune_well n (suc next) u x) x (scan_well n s next s.pair t x (omega arith) p
      (within_more (IsPairAtom next s.pair) (Seen next s.pair s.pair) 0 0 (pair_seen next s.pair) (omega arith) t w) i) q
    where
      by_misfit : ((u : Term) (x : Pruned) → IsPattern u → Within (IsPairAtom (suc next) s.pair) 0 u → prune n s (suc next) u ≡ Some x → IsPrunedWell
          s x) → (ps : List Pattern) → AreGood ps → (o : Option Pattern) → first_misfit s ps ≡ o → (elim o [
            | None ↦ Some (record { bindings = []; next = next; term = t })
            | Some p ↦ option_map (led_by (renewal s next p)) (prune n s (suc next) (put (renewal s next p) t))
          ]) ≡ Some r → IsPrunedWell s r
      by_misfit ih ps g None i q = transport (IsPrunedWell s) (same_Some (record { bindings = []; next = next; term = t }) r q) (record { bindings = tt; term = p; within = w })
      by_misfit ih ps g (Some o) i q =
          let b = renewal s next o in
          let value = renewal_pattern s next o d a (misfit_good s ps g o i) in
          let scoped = renewal_scoped s next o in
          mapped (led_by b) (prune n s (suc next) (put b t)) r q (IsPrunedWell s) (λ x j.
          let h = ih (put b t) x (pattern_put (suc next) b (record { pattern = value; scoped = scoped }) t p)
          (put_within (suc next) s.pair b scoped t (pair_next_term next (suc next) s.pair (omega arith) t w)) j in
          record { bindings = (value, h.bindings); term = h.term; within = h.within })

      by_scan : ((u : Term) (x : Pruned) → IsPattern u → Within (IsPairAtom (suc next) s.pair) 0 u → prune n s (suc next) u ≡ Some x → IsPrunedWell s x) → (x : Scanned) → IsWell x → (elim x [
        | broken u ↦ None
        | whole u true ps ↦ None
        | whole u false ps ↦ elim (first_misfit s ps) [
          | None ↦ Some (record { bindings = []; next = next; term = t })
          | Some p ↦ option_map (led_by (renewal s next p)) (prune n s (suc next) (put (renewal s next p) t))
        ]
      ]) ≡ Some r → IsPrunedWell s r
      by_scan ih (broken u) h q = absurd (cc)
      by_scan ih (whole u true ps) h q = absurd (cc)
      by_scan ih (whole u false ps) h q = by_misfit ih ps h.1 (first_misfit s ps) refl q
