-- Where a typed term agrees on two lists of eigenconstants, a reduct has only the agreeing ones.
use Rattle.std.proofs.Common.{◌≡◌, ℕ, ◌≤◌, List, [], ◌∷◌, length, ◌∙◌, refl, sym, ap, subst as transport, arith, Bool, true, false, if◌then◌else◌, nat_eq, ◌||◌}
use Rattle.std.specs.Prelude.{nat_le}
use Rattle.std.proofs.lemmas.Bool.Decides.{nat_tests}
use Rattle.lp_calculus.specs.Types.{Ty}
use Rattle.lp_calculus.specs.Term.{Term, atom, app, apply, Atom, constant, integer, text, eigen, logic, param}
use Rattle.lp_calculus.specs.Convert.{Converts, same, ReducesTo}
use Rattle.lp_calculus.proofs.BetaEta.{conversion_meets}
use Rattle.lp_calculus.specs.Fill.{Within}
use Rattle.lp_model.specs.Patterns.{eigens, member, agreeing}
use Rattle.lp_model.specs.Look.{are_distinct, are_above}
use Rattle.lp_unify_laws.specs.Levels.{IsLevelAtom}
use Rattle.lp_calculus.proofs.Fills.{fill_none, within_more, within_both}
use Rattle.lp_calculus.proofs.Steps.{converts_on, converts_sym, converts_is, within_reduces}
use Rattle.lp_unify_laws.proofs.Abstractions.{Avoids, Distinct, distinct_tells, closed_avoids}
use Rattle.lp_unify_laws.proofs.Sames.{same_number}
use Rattle.lp_unify_laws.proofs.Closings.{WithinAll, apply_within}
use Rattle.lp_unify_laws.proofs.News.{Among, avoids_member}
use Rattle.lp_unify_laws.proofs.Typed.{Long, renamed}
use Rattle.lp_unify_laws.proofs.Fixed.{Stays, stays_to}

-- each member of the first list goes to the one at its place in the second
abbrev goes : List ℕ → List ℕ → ℕ → ℕ
goes [] ds k = k
goes (c ∷ cs) [] k = k
goes (c ∷ cs) (d ∷ ds) k = if nat_eq k c then d else goes cs ds k

abbrev sent : List ℕ → List ℕ → Atom → Atom
sent cs ds (eigen k) = eigen (goes cs ds k)
sent cs ds (logic x l) = logic x l
sent cs ds (constant c ts) = constant c ts
sent cs ds (integer z) = integer z
sent cs ds (text s) = text s
sent cs ds (param k t) = param k t

goes_other : (cs ds : List ℕ) (k : ℕ) → member k cs ≡ false → goes cs ds k ≡ k
goes_other [] ds k h = refl
goes_other (c ∷ cs) [] k h = refl
goes_other (c ∷ cs) (d ∷ ds) k h = elim (nat_eq k c) as (λ b. (b || member k cs) ≡ false → (if b then d else goes cs ds k) ≡ k) [
  | true ↦ λ z. absurd (cc)
  | false ↦ λ z. goes_other cs ds k z
] h

sent_other : (cs ds : List ℕ) (a : Atom) → Avoids cs a → atom (sent cs ds a) ≡ atom a
sent_other cs ds (eigen k) h = ap (λ z. atom (eigen z)) (goes_other cs ds k (avoids_member k cs h))
sent_other cs ds (logic x l) h = refl
sent_other cs ds (constant c ts) h = refl
sent_other cs ds (integer z) h = refl
sent_other cs ds (text s) h = refl
sent_other cs ds (param k t) h = refl

-- a renaming on a head on eigenconstants
abbrev sent_all : (ℕ → ℕ) → List ℕ → List ℕ
sent_all f [] = []
sent_all f (k ∷ ks) = f k ∷ sent_all f ks

renamed_eigens : (cs ds : List ℕ) (h : Term) (ks : List ℕ) → renamed (sent cs ds) (apply h (eigens ks)) ≡ apply (renamed (sent cs ds) h) (eigens (sent_all (goes cs ds) ks))
renamed_eigens cs ds h [] = refl
renamed_eigens cs ds h (k ∷ ks) = renamed_eigens cs ds (app h (atom (eigen k))) ks

-- past a member that is not there
sent_skip : (c d : ℕ) (cs ds ks : List ℕ) → Avoids ks (eigen c) → sent_all (goes (c ∷ cs) (d ∷ ds)) ks ≡ sent_all (goes cs ds) ks
sent_skip c d cs ds [] h = refl
sent_skip c d cs ds (k ∷ ks) h =
    let n : c ≡ k → ⊥ = h.0 in
    let e : nat_eq k c ≡ false = grind (arith, nat_tests) in
    let r = sent_skip c d cs ds ks h.1 in
    let q : goes (c ∷ cs) (d ∷ ds) k ≡ goes cs ds k = (ap (λ b. if b then d else goes cs ds k) e) in
    λ i. q i ∷ r i

sent_self : (cs ds : List ℕ) → length cs ≡ length ds → Distinct cs → sent_all (goes cs ds) cs ≡ ds
sent_self [] [] e h = refl
sent_self [] (d ∷ ds) e h = absurd (omega arith)
sent_self (c ∷ cs) [] e h = absurd (omega arith)
sent_self (c ∷ cs) (d ∷ ds) e h =
    let l : length cs ≡ length ds = omega arith in
    let s : nat_eq c c ≡ true = grind (arith, nat_tests) in
    let first : goes (c ∷ cs) (d ∷ ds) c ≡ d = ap (λ b. if b then d else goes cs ds c) s in
    let rest = sent_skip c d cs ds cs h.0 ∙ sent_self cs ds l h.1 in
    λ i. first i ∷ rest i

-- what stays, of the first list, is at the same place in the second
stays_agrees : (cs ds : List ℕ) (k : ℕ) → length cs ≡ length ds → member k cs ≡ true → goes cs ds k ≡ k → member k (agreeing cs ds) ≡ true
stays_agrees [] ds k l h e = absurd (cc)
stays_agrees (c ∷ cs) [] k l h e = absurd (omega arith)
stays_agrees (c ∷ cs) (d ∷ ds) k l h e = elim (nat_eq k c) as (λ b. nat_eq k c ≡ b → (b || member k cs) ≡ true → (if b then d else goes cs ds k) ≡ k → member k (if nat_eq c d then c ∷ agreeing cs ds else agreeing cs ds) ≡ true) [
  | true ↦ λ p q r.
      let i = same_number k c p in
      let j : nat_eq c d ≡ true = grind (arith, nat_tests) in
      transport (λ b. member k (if b then c ∷ agreeing cs ds else agreeing cs ds) ≡ true) (sym j) (left_true (nat_eq k c) (member k (agreeing cs ds)) p)
  | false ↦ λ p q r.
      let n : length cs ≡ length ds = omega arith in
      let i = stays_agrees cs ds k n q r in either (nat_eq c d) i
] refl h e
  where
    left_true : (a b : Bool) → a ≡ true → (a || b) ≡ true
    left_true true b z = refl
    left_true false b z = absurd (cc)

    right_true : (a b : Bool) → b ≡ true → (a || b) ≡ true
    right_true true b z = refl
    right_true false b z = z

    either : (b : Bool) → member k (agreeing cs ds) ≡ true → member k (if b then c ∷ agreeing cs ds else agreeing cs ds) ≡ true
    either true i = right_true (nat_eq k c) (member k (agreeing cs ds)) i
    either false i = i

among_agreeing : (l : ℕ) (cs ds : List ℕ) → length cs ≡ length ds → (a : Atom) → Among l cs a → Stays (sent cs ds) a → Among l (agreeing cs ds) a
among_agreeing l cs ds e (eigen k) m s = elim (nat_le k l) as (λ b. (b || member k cs) ≡ true → (b || member k (agreeing cs ds)) ≡ true) [
  | true ↦ λ z. refl
  | false ↦ λ z. let q : goes cs ds k ≡ k = cc in stays_agrees cs ds k e z q
] m
among_agreeing l cs ds e (logic x j) m s = m
among_agreeing l cs ds e (constant c ts) m s = tt
among_agreeing l cs ds e (integer z) m s = tt
among_agreeing l cs ds e (text t) m s = tt
among_agreeing l cs ds e (param k t) m s = tt

eigens_among : (l : ℕ) (b xs : List ℕ) → ((k : ℕ) → member k xs ≡ true → member k b ≡ true) → WithinAll (Among l b) (eigens xs)
eigens_among l b [] f = tt
eigens_among l b (x ∷ xs) f =
    let e : nat_eq x x ≡ true = grind (arith, nat_tests) in
    (right_true (nat_le x l) (member x b) (f x (left_true (nat_eq x x) (member x xs) e)), eigens_among l b xs (λ k h. f k (right_true (nat_eq k x) (member k xs) h)))
  where
    left_true : (a b : Bool) → a ≡ true → (a || b) ≡ true
    left_true true b z = refl
    left_true false b z = absurd (cc)

    right_true : (a b : Bool) → b ≡ true → (a || b) ≡ true
    right_true true b z = refl
    right_true false b z = z

closed_among : (l : ℕ) (b : List ℕ) (a : Atom) → IsLevelAtom l a → Among l b a
closed_among l b (eigen k) p = let i : k ≤ l = p in let q : nat_le k l ≡ true = grind (arith, nat_tests) in ap (λ z. z || member k b) q
closed_among l b (logic x m) p = p
closed_among l b (constant c ts) p = tt
closed_among l b (integer z) p = tt
closed_among l b (text s) p = tt
closed_among l b (param k t) p = tt

pub typed_agrees : (τ : Atom → Ty) (T : Ty) (u : Term) (l : ℕ) (a b : List ℕ) → Within (IsLevelAtom l) 0 u → Long τ T (apply u (eigens a)) → length a ≡ length b → are_distinct a ≡ true → are_above l a ≡ true →
    Converts (apply u (eigens a)) (apply u (eigens b)) → (w : Term) × ReducesTo (apply u (eigens a)) w × Within (Among l (agreeing a b)) 0 w
typed_agrees τ T u l a b c long e d h k =
    let own : Within (Among l a) 0 (apply u (eigens a)) = apply_within (Among l a) (eigens a) u (within_more (IsLevelAtom l) (Among l a) 0 0 (closed_among l a) (omega arith) u c) (eigens_among l a a (λ j z. z)) in
    let here : renamed (sent a b) u ≡ u = fill_none (Avoids a) (λ x. atom (sent a b x)) (sent_other a b) 0 u (within_more (IsLevelAtom l) (Avoids a) 0 0 (closed_avoids l a h) (omega arith) u c) in
    let there : renamed (sent a b) (apply u (eigens a)) ≡ apply u (eigens b) = renamed_eigens a b u a ∙ (λ i. apply (here i) (eigens (sent_self a b e (distinct_tells a d) i))) in
    let s = stays_to τ (sent a b) (λ j A. refl) long (apply u (eigens a)) (same (apply u (eigens a))) (within_more (Among l a) (λ x. Unit {0}) 0 0 (λ x z. tt) (omega arith) (apply u (eigens a)) own) (converts_on (converts_is there) (converts_sym k)) in
    let m = conversion_meets s.converts in
    (m.0, m.1, within_both (Among l a) (Stays (sent a b)) (Among l (agreeing a b)) 0 (among_agreeing l a b e) m.0 (within_reduces (Among l a) 0 m.1 own) (within_reduces (Stays (sent a b)) 0 m.2 s.within))
