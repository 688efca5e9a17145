-- Terms of a table stay among those of a bank while goals and clauses are put there.
use Rattle.std.proofs.Common.{◌≡◌, ℕ, zero, suc, ◌<◌, ◌≤◌, List, [], ◌∷◌, ◌++◌, length, map, refl, sym, ap, ◌∙◌, subst, arith, Bor}
use Rattle.std.specs.Prelude.{All, slice_get, Some}
use Rattle.std.proofs.lemmas.List.Elements.{All-head, All-tail}
use Rattle.lp_lemmas.proofs.Elements.{All_empty, All_pushed}
use Rattle.lp_lemmas.proofs.Lists.{length_front}
use Rattle.lp_model.specs.declared.clause.Goal.{Goal as CodeGoal}
use Rattle.lp_model.specs.declared.clause.Clause.{Clause as CodeClause}
use Rattle.lp_normal.specs.Within.{highest, term_bound, clause_term_bound}
use Rattle.lp_normal.proofs.Meanings.{clause_terms}
use Rattle.lp_pattern.specs.Growing.{GoesOn}
use Rattle.lp_plain.specs.declared.table.Flat.{Flat}
use Rattle.lp_plain.specs.declared.table.Rule.{Rule}
use Rattle.lp_plain.specs.declared.table.Table.{Table}
use Rattle.lp_plain.specs.Within.{IsFlatIn, IsRuleIn, IsTableIn}
use Rattle.lp_plain.specs.inner.Tabling.{Late, AreTermsIn, Stays}

pub all_at : {X : Type 0} (P : X → Type 0) (xs : List X) (i : ℕ) (x : X) → slice_get xs i ≡ Some x → All P xs → P x
all_at P [] i x e a = absurd (cc)
all_at P (y ∷ ys) zero x e a = let q : y ≡ x = cc in subst P q (All-head P y ys a)
all_at P (y ∷ ys) (suc i) x e a = all_at P ys i x e (All-tail P y ys a)

-- the bounds of a list and of one more
highest_parts : {X : Type 0} (f : X → ℕ) (n : ℕ) (xs : List X) (x : X) → highest (map f (xs ++ x ∷ [])) ≤ n → (highest (map f xs) ≤ n) × (f x ≤ n)
highest_parts f n [] x h = (omega arith, omega (arith, h))
highest_parts f n (y ∷ ys) x h =
    let r = highest_parts f n ys x (omega (arith, h)) in
    let l = r.0 in
    (omega (arith, h, l), r.1)

pub table_same : (n : ℕ) (t u : Table) → u.goals ≡ t.goals → u.rules ≡ t.rules → IsTableIn n t → IsTableIn n u
table_same n t u eg er h = record { goals = subst (λ v. All (IsFlatIn n) v.items) (sym eg) h.goals; rules = subst (λ v. All (IsRuleIn n) v.items) (sym er) h.rules }

pub longer_list : {X : Type 0} (xs ys : List X) → GoesOn xs ys → length xs ≤ length ys
longer_list xs ys g = subst (λ l. length xs ≤ length l) (sym g.1) (length_front xs g.0)

-- nothing is put
pub stays_same : (n : ℕ) (t : Table) (l : Late) (k : ℕ) → Stays n k t t l l
stays_same n t l k = λ h s. s

-- one behind the other
pub stays_then : (n i j k : ℕ) (t u v : Table) (l m o : Late) → (k ≤ n → i ≤ n) → (k ≤ n → j ≤ n) → Stays n i t u l m → Stays n j u v m o → Stays n k t v l o
stays_then n i j k t u v l m o a b p q = λ h s. q (b h) (p (a h) s)

-- by another bound
pub stays_by : (n i k : ℕ) (t u : Table) (l m : Late) → (k ≤ n → i ≤ n) → Stays n i t u l m → Stays n k t u l m
stays_by n i k t u l m a p = λ h s. p (a h) s

-- a list that is to come
pub list_stays : (n : ℕ) (t u : Table) (l m : Late) (g : Bor (List CodeGoal)) → u.goals ≡ t.goals → u.rules ≡ t.rules → m ≡ l ++ g ∷ [] → Stays n (highest (map term_bound g.now)) t u l m
list_stays n t u l m g eg er em = λ h s. record { table = table_same n t u eg er s.table; late = All_pushed (λ (w : Bor (List CodeGoal)). highest (map term_bound w.now) ≤ n) m l g em s.late h }

-- and what is written behind it
pub stays_behind : (n k : ℕ) (t u v : Table) (l m : Late) → Stays n k t u l m → v.goals ≡ u.goals → v.rules ≡ u.rules → Stays n k t v l m
stays_behind n k t u v l m p eg er = λ h s. let r = p h s in record { table = table_same n u v eg er r.table; late = r.late }

-- a clause
pub clause_stays : (n : ℕ) (t u v : Table) (l m : Late) (x : CodeClause) (r : Rule) → Stays n (highest (map term_bound x.body.items)) t u l m → v.goals ≡ u.goals → v.rules.items ≡ u.rules.items ++ r ∷ [] → (x.head.0 < n → IsRuleIn n r) →
    Stays n (clause_term_bound x) t v l m
clause_stays n t u v l m x r p eg er f = λ h s.
    let e = clause_terms x in
    let w = p (omega (arith, h, e)) s in
    record {
      table = record { goals = subst (λ g. All (IsFlatIn n) g.items) (sym eg) w.table.goals; rules = All_pushed (IsRuleIn n) v.rules.items u.rules.items r er w.table.rules (f (omega (arith, h, e))) };
      late = w.late;
    }

-- one clause more
pub clauses_stay : (n : ℕ) (t u v : Table) (l m o : Late) (cs : List CodeClause) (c : CodeClause) → Stays n (highest (map clause_term_bound cs)) t u l m → Stays n (clause_term_bound c) u v m o → Stays n (highest (map clause_term_bound (cs ++ c ∷ []))) t v l o
clauses_stay n t u v l m o cs c p q = λ h s. let r = highest_parts clause_term_bound n cs c h in q r.1 (p r.0 s)

-- one goal more
pub goals_stay : (n : ℕ) (t u v w : Table) (l m o : Late) (gs : List CodeGoal) (g : CodeGoal) (f : Flat) → Stays n (highest (map term_bound gs)) t u l m → Stays n (term_bound g) u v m o → (term_bound g ≤ n → IsFlatIn n f) →
    w.rules ≡ v.rules → w.goals.items ≡ v.goals.items ++ f ∷ [] → Stays n (highest (map term_bound (gs ++ g ∷ []))) t w l o
goals_stay n t u v w l m o gs g f p q i er eg = λ h s.
    let r = highest_parts term_bound n gs g h in
    let k = q r.1 (p r.0 s) in
    record {
      table = record { goals = All_pushed (IsFlatIn n) w.goals.items v.goals.items f eg k.table.goals (i r.1); rules = subst (λ x. All (IsRuleIn n) x.items) (sym er) k.table.rules };
      late = k.late;
    }

-- all of them
pub stays_all : {X : Type 0} (f : X → ℕ) (n : ℕ) (t u : Table) (l m : Late) (all done rest : List X) → Stays n (highest (map f done)) t u l m → all ≡ done ++ rest → rest ≡ [] → Stays n (highest (map f all)) t u l m
stays_all f n t u l m all done rest p e z = subst (λ x. Stays n (highest (map f x)) t u l m) (none done ∙ sym (e ∙ ap (λ r. done ++ r) z)) p
  where
    none : {X : Type 0} (xs : List X) → xs ≡ xs ++ []
    none [] = refl
    none (x ∷ xs) = ap (λ l. x ∷ l) (none xs)

-- the next of the lists that are to come
pub late_stays : (n : ℕ) (t u v w : Table) (l m o : Late) (g : Bor (List CodeGoal)) → (AreTermsIn n t l → AreTermsIn n u m) → (AreTermsIn n u m → highest (map term_bound g.now) ≤ n) → Stays n (highest (map term_bound g.now)) u v m o →
    w.goals ≡ v.goals → w.rules ≡ v.rules → AreTermsIn n t l → AreTermsIn n w o
late_stays n t u v w l m o g p q r eg er = λ s.
    let k = r (q (p s)) (p s) in
    record { table = table_same n v w eg er k.table; late = k.late }

-- a list among those that are to come
pub late_at : (n i : ℕ) (t : Table) (l : Late) (g : Bor (List CodeGoal)) → slice_get l i ≡ Some g → AreTermsIn n t l → highest (map term_bound g.now) ≤ n
late_at n i t l g e s = all_at (λ (w : Bor (List CodeGoal)). highest (map term_bound w.now) ≤ n) l i g e s.late

-- with nothing to come before
pub table_stays : (n k : ℕ) (t u v : Table) (l m : Late) → l ≡ [] → Stays n k t u l m → (AreTermsIn n u m → IsTableIn n v) → k ≤ n → IsTableIn n t → IsTableIn n v
table_stays n k t u v l m e p q h s = q (p h (record { table = s; late = All_empty (λ (w : Bor (List CodeGoal)). highest (map term_bound w.now) ≤ n) l e }))
