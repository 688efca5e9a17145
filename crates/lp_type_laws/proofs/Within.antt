-- Solving within a limit goes equation by equation: each takes its cost off what is left.
use Rattle.std.proofs.Common.{◌≡◌, ◌≢◌, ℕ, zero, suc, ◌+◌, ◌<◌, ◌≤◌, List, [], ◌∷◌, inl, inr, refl, sym, ap, ◌∙◌, arith}
use Rattle.std.specs.Prelude.{nat_lt, if◌then◌else◌, Bool, true, false, ◌⊎◌}
use Rattle.std.proofs.lemmas.Bool.{lt-ltb, le-ltb, ltb-true, ltb-false}
use Rattle.lp_calculus.specs.Types.{Ty}
use Rattle.lp_type_laws.specs.Equations.{Equation, equation}
use Rattle.lp_type_laws.specs.Solving.{Turn, clashes, goes, turn, Outcome, unfinished, fails, solved, solve}
use Rattle.lp_type_laws.specs.Units.{cost, units, End, spent, ended, solve_within}
use Rattle.lp_type_laws.proofs.Counts.{solve_turn, after_turn}

-- so many more units
abbrev pub add_used : ℕ → End → End
add_used k spent = spent
add_used k (ended u o) = ended (k + u) o

pub add_twice : (k c : ℕ) (E : End) → add_used k (add_used c E) ≡ add_used (k + c) E
add_twice k c spent = refl
add_twice k c (ended u o) = let e : k + (c + u) ≡ (k + c) + u = omega arith in ap (λ n. ended n o) e

pub add_none : (E : End) → add_used 0 E ≡ E
add_none spent = refl
add_none (ended u o) = let e : 0 + u ≡ u = omega arith in ap (λ n. ended n o) e

abbrev rest_units : ℕ → Turn → ℕ
rest_units n t = elim t [ clashes ↦ 0 | goes fs ι ↦ units n fs ι ]

some_cost : (e : Equation) → 0 < cost e
some_cost (equation a b) = omega arith

-- each turn costs a unit, so that where as many turns as units do not end it, the units are used up
done_or_used : (n : ℕ) (es : List Equation) (θ : ℕ → Ty) → (solve n es θ ≢ unfinished) ⊎ (n ≤ units n es θ)
done_or_used zero es θ = inr (omega arith)
done_or_used (suc n) [] θ = inl (λ f. cc)
done_or_used (suc n) (e ∷ es) θ = go (λ fs ι. done_or_used n fs ι) (turn e es θ) refl
  where
    go : ((fs : List Equation) (ι : ℕ → Ty) → (solve n fs ι ≢ unfinished) ⊎ (n ≤ units n fs ι)) → (t : Turn) → turn e es θ ≡ t → (solve (suc n) (e ∷ es) θ ≢ unfinished) ⊎ (suc n ≤ units (suc n) (e ∷ es) θ)
    go ih clashes q = inl (λ f. let g : fails ≡ unfinished = sym (solve_turn n e es θ ∙ ap (after_turn n) q) ∙ f in cc)
    go ih (goes fs ι) q = elim (ih fs ι) [
      | inl d ↦ inl (λ f. d (sym (solve_turn n e es θ ∙ ap (after_turn n) q) ∙ f))
      | inr l ↦ inr (let p = some_cost e in let u : units (suc n) (e ∷ es) θ ≡ cost e + units n fs ι = ap (λ t. cost e + rest_units n t) q in omega arith)
    ]

-- once it has ended, more turns change nothing
solve_more : (n m : ℕ) → n ≤ m → (es : List Equation) (θ : ℕ → Ty) → solve n es θ ≢ unfinished → solve m es θ ≡ solve n es θ
solve_more zero zero l es θ d = refl
solve_more zero (suc m) l [] θ d = refl
solve_more zero (suc m) l (e ∷ es) θ d = absurd (d refl)
solve_more (suc n) zero l es θ d = absurd (omega (arith, l))
solve_more (suc n) (suc m) l [] θ d = refl
solve_more (suc n) (suc m) l (e ∷ es) θ d = go (solve_more n m (omega (arith, l))) (turn e es θ) refl
  where
    go : ((fs : List Equation) (ι : ℕ → Ty) → solve n fs ι ≢ unfinished → solve m fs ι ≡ solve n fs ι) →
        (t : Turn) → turn e es θ ≡ t → solve (suc m) (e ∷ es) θ ≡ solve (suc n) (e ∷ es) θ
    go ih clashes q = solve_turn m e es θ ∙ ap (after_turn m) q ∙ sym (solve_turn n e es θ ∙ ap (after_turn n) q)
    go ih (goes fs ι) q =
        let s = solve_turn n e es θ ∙ ap (after_turn n) q in
        solve_turn m e es θ ∙ ap (after_turn m) q ∙ ih fs ι (λ f. d (s ∙ f)) ∙ sym s

units_more : (n m : ℕ) → n ≤ m → (es : List Equation) (θ : ℕ → Ty) → solve n es θ ≢ unfinished → units m es θ ≡ units n es θ
units_more zero zero l es θ d = refl
units_more zero (suc m) l [] θ d = refl
units_more zero (suc m) l (e ∷ es) θ d = absurd (d refl)
units_more (suc n) zero l es θ d = absurd (omega (arith, l))
units_more (suc n) (suc m) l [] θ d = refl
units_more (suc n) (suc m) l (e ∷ es) θ d = go (units_more n m (omega (arith, l))) (turn e es θ) refl
  where
    go : ((fs : List Equation) (ι : ℕ → Ty) → solve n fs ι ≢ unfinished → units m fs ι ≡ units n fs ι) →
        (t : Turn) → turn e es θ ≡ t → units (suc m) (e ∷ es) θ ≡ units (suc n) (e ∷ es) θ
    go ih clashes q = ap (λ t. cost e + rest_units m t) q ∙ sym (ap (λ t. cost e + rest_units n t) q)
    go ih (goes fs ι) q =
        let s = solve_turn n e es θ ∙ ap (after_turn n) q in
        ap (λ t. cost e + rest_units m t) q ∙ ap (λ u. cost e + u) (ih fs ι (λ f. d (s ∙ f))) ∙ sym (ap (λ t. cost e + rest_units n t) q)

-- more turns cost no less
units_rise : (n m : ℕ) → n ≤ m → (es : List Equation) (θ : ℕ → Ty) → units n es θ ≤ units m es θ
units_rise zero m l es θ = omega arith
units_rise (suc n) zero l es θ = absurd (omega (arith, l))
units_rise (suc n) (suc m) l [] θ = omega arith
units_rise (suc n) (suc m) l (e ∷ es) θ = go (units_rise n m (omega (arith, l))) (turn e es θ) refl
  where
    go : ((fs : List Equation) (ι : ℕ → Ty) → units n fs ι ≤ units m fs ι) → (t : Turn) → turn e es θ ≡ t → units (suc n) (e ∷ es) θ ≤ units (suc m) (e ∷ es) θ
    go ih clashes q =
        let a : units (suc n) (e ∷ es) θ ≡ cost e + 0 = ap (λ t. cost e + rest_units n t) q in
        let b : units (suc m) (e ∷ es) θ ≡ cost e + 0 = ap (λ t. cost e + rest_units m t) q in
        omega arith
    go ih (goes fs ι) q =
        let a : units (suc n) (e ∷ es) θ ≡ cost e + units n fs ι = ap (λ t. cost e + rest_units n t) q in
        let b : units (suc m) (e ∷ es) θ ≡ cost e + units m fs ι = ap (λ t. cost e + rest_units m t) q in
        let l = ih fs ι in
        omega arith

within_spent : (limit : ℕ) (es : List Equation) (θ : ℕ → Ty) → limit < units (suc limit) es θ → solve_within limit es θ ≡ spent
within_spent limit es θ l = ap (λ b. if b then spent else ended (units (suc limit) es θ) (solve (suc limit) es θ)) (lt-ltb limit (units (suc limit) es θ) l)

within_ended : (limit u : ℕ) (o : Outcome) (es : List Equation) (θ : ℕ → Ty) → units (suc limit) es θ ≡ u → u ≤ limit → solve (suc limit) es θ ≡ o → solve_within limit es θ ≡ ended u o
within_ended limit u o es θ e l s =
    ap (λ b. if b then spent else ended (units (suc limit) es θ) (solve (suc limit) es θ)) (le-ltb limit (units (suc limit) es θ) (omega (arith, e, l))) ∙
    ap (λ n. ended n (solve (suc limit) es θ)) e ∙ ap (ended u) s

pub within_none : (limit : ℕ) (θ : ℕ → Ty) → solve_within limit [] θ ≡ ended 0 (solved θ)
within_none limit θ = within_ended limit 0 (solved θ) [] θ refl (omega arith) refl

-- an equation that is taken
pub within_goes : (c left : ℕ) (e : Equation) (es fs : List Equation) (θ ι : ℕ → Ty) → c ≡ cost e → turn e es θ ≡ goes fs ι →
    solve_within (c + left) (e ∷ es) θ ≡ add_used c (solve_within left fs ι)
within_goes c left e es fs ι' ι cost_is q = go (done_or_used (suc left) fs ι)
  where
    all : units (suc (c + left)) (e ∷ es) ι' ≡ c + units (c + left) fs ι
    all = ap (λ t. cost e + rest_units (c + left) t) q ∙ ap (λ k. k + units (c + left) fs ι) (sym cost_is)

    runs : solve (suc (c + left)) (e ∷ es) ι' ≡ solve (c + left) fs ι
    runs = solve_turn (c + left) e es ι' ∙ ap (after_turn (c + left)) q

    more : suc left ≤ c + left
    more = let p = some_cost e in omega arith

    spent_both : suc left ≤ units (suc left) fs ι → solve_within (c + left) (e ∷ es) ι' ≡ add_used c (solve_within left fs ι)
    spent_both l =
        let r = units_rise (suc left) (c + left) more fs ι in
        within_spent (c + left) (e ∷ es) ι' (omega (arith, all, r, l)) ∙ sym (ap (add_used c) (within_spent left fs ι (omega (arith, l))))

    go : (solve (suc left) fs ι ≢ unfinished) ⊎ (suc left ≤ units (suc left) fs ι) → solve_within (c + left) (e ∷ es) ι' ≡ add_used c (solve_within left fs ι)
    go (inr l) = spent_both l
    go (inl d) = two (nat_lt left (units (suc left) fs ι)) refl
      where
        same : units (c + left) fs ι ≡ units (suc left) fs ι
        same = units_more (suc left) (c + left) more fs ι d

        ran : solve (c + left) fs ι ≡ solve (suc left) fs ι
        ran = solve_more (suc left) (c + left) more fs ι d

        two : (b : Bool) → nat_lt left (units (suc left) fs ι) ≡ b → solve_within (c + left) (e ∷ es) ι' ≡ add_used c (solve_within left fs ι)
        two true f = spent_both (let l = ltb-true left (units (suc left) fs ι) f in omega (arith, l))
        two false f =
            let l : units (suc left) fs ι ≤ left = ltb-false left (units (suc left) fs ι) f in
            within_ended (c + left) (c + units (suc left) fs ι) (solve (suc left) fs ι) (e ∷ es) ι' (all ∙ ap (λ u. c + u) same) (omega (arith, l)) (runs ∙ ran) ∙
            sym (ap (add_used c) (within_ended left (units (suc left) fs ι) (solve (suc left) fs ι) fs ι refl l refl))

-- an equation that costs more than what is left
pub within_over : (left : ℕ) (e : Equation) (es : List Equation) (θ : ℕ → Ty) → left < cost e → solve_within left (e ∷ es) θ ≡ spent
within_over left e es θ l = within_spent left (e ∷ es) θ (omega (arith, l))

-- an equation without a solution
pub within_clash : (left : ℕ) (e : Equation) (es : List Equation) (θ : ℕ → Ty) → cost e ≤ left → turn e es θ ≡ clashes → solve_within left (e ∷ es) θ ≡ ended (cost e) fails
within_clash left e es θ l q =
    within_ended left (cost e) fails (e ∷ es) θ (ap (λ t. cost e + rest_units left t) q ∙ omega arith) l (solve_turn left e es θ ∙ ap (after_turn left) q)

-- where some number of equations costs more than the limit
pub more_than_spent : (limit n : ℕ) (es : List Equation) (θ : ℕ → Ty) → limit < units n es θ → solve_within limit es θ ≡ spent
more_than_spent limit n es θ l = within_spent limit es θ (go (done_or_used (suc limit) es θ))
  where
    go : (solve (suc limit) es θ ≢ unfinished) ⊎ (suc limit ≤ units (suc limit) es θ) → limit < units (suc limit) es θ
    go (inr u) = omega (arith, u)
    go (inl d) = two (nat_lt n (suc limit)) refl
      where
        two : (b : Bool) → nat_lt n (suc limit) ≡ b → limit < units (suc limit) es θ
        two true q = let w = ltb-true n (suc limit) q in let r = units_rise n (suc limit) (omega (arith, w)) es θ in omega (arith, r, l)
        two false q = let w = ltb-false n (suc limit) q in let r = units_more (suc limit) n w es θ d in omega (arith, r, l)
