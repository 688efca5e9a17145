-- Back at an alternative its branch is at work.
use Rattle.std.proofs.Common.{◌≡◌, ℕ, List, [], ◌∷◌, ◌++◌, length, take, refl, sym, ap, ◌∙◌, subst, arith, Option}
use Rattle.lp_model.specs.Branch.{Entry}
use Rattle.lp_plain.specs.declared.choice.Choice.{Choice}
use Rattle.lp_plain.specs.declared.choice.Untried.{Untried}
use Rattle.lp_plain.specs.declared.machine.Machine.{Machine}
use Rattle.lp_plain.specs.Entries.{Around, AreEntries, KeepsGoals, Reads}
use Rattle.lp_plain.specs.Restoring.{IsTaken, GoesBack}
use Rattle.lp_plain.specs.Scopes.{blocks_of, blocks_at}
use Rattle.lp_plain.specs.Tables.{shown}
use Rattle.lp_plain.proofs.Frames.{reads_on}

pub reads_restored : (m n : Machine) (c : Choice) (rest : List Choice) (a : Around) (o : Option ℕ) (es : List Entry) → IsTaken m n c rest → AreEntries
    m.bank (shown m.table) (blocks_at c.lengths.scopes m.scopes) a (take c.lengths.frames m.frames.items) o es → Reads n a o es
reads_restored m n c rest a o es t r =
    let z : blocks_at c.lengths.scopes m.scopes ≡ blocks_of n.scopes = (λ i. record { blocks = sym t.blocks i; values = sym t.values i }) in
    subst (λ b. AreEntries b (shown n.table) (blocks_of n.scopes) a n.frames.items o es) (sym t.bank)
    (subst (λ x. AreEntries m.bank (shown x) (blocks_of n.scopes) a n.frames.items o es) (sym t.table)
    (subst (λ s. AreEntries m.bank (shown m.table) s a n.frames.items o es) z (subst (λ fs. AreEntries m.bank (shown m.table) (blocks_at c.lengths.scopes m.scopes) a fs o es) (sym t.frames) r)))

pub last_same : {X : Type 0} (xs ys : List X) (x y : X) → xs ++ x ∷ [] ≡ ys ++ y ∷ [] → (xs ≡ ys) × (x ≡ y)
last_same [] [] x y e = let q : x ≡ y = cc in (refl, q)
last_same [] (b ∷ []) x y e = absurd (let q = ap length e in omega (arith, q))
last_same [] (b ∷ c ∷ ys) x y e = absurd (let q = ap length e in omega (arith, q))
last_same (a ∷ []) [] x y e = absurd (let q = ap length e in omega (arith, q))
last_same (a ∷ c ∷ xs) [] x y e = absurd (let q = ap length e in omega (arith, q))
last_same (a ∷ xs) (b ∷ ys) x y e =
    let h : a ≡ b = cc in
    let t : xs ++ x ∷ [] ≡ ys ++ y ∷ [] = cc in
    let r = last_same xs ys x y t in
    ((λ i. h i ∷ r.0 i), r.1)

goals_same : (x y : Option ℕ) → Untried.Goals x ≡ Untried.Goals y → x ≡ y
goals_same x y e = cc

pub goes_back : (m n q : Machine) (c : Choice) (rest : List Choice) (from : Option ℕ) → c.untried ≡ Untried.Goals from → IsTaken m n c rest →
    KeepsGoals n q → q.branch.goals ≡ from → q.branch.next ≡ n.branch.next → q.branch.next_type ≡ n.branch.next_type →
    q.choices.items ≡ n.choices.items → q.counts ≡ n.counts → q.denied ≡ n.denied → GoesBack m q c rest
goes_back m n q c rest from u t k eg en et ec eq ed = record {
  choices = ec ∙ t.choices;
  counts = eq ∙ t.counts;
  denied = ed ∙ t.denied;
  branch = λ a b i. record {
    goals = subst (λ o. Reads q a o b.goals) (goals_same i.from from (sym i.left ∙ u) ∙ sym eg) (reads_on n q a i.from b.goals k (reads_restored m n c rest a i.from b.goals t i.goals));
    next = en ∙ t.next ∙ i.next;
    next_type = et ∙ t.next_type ∙ i.next_type;
  };
}

pub no_push : {X : Type 0} (xs : List X) (x : X) → xs ++ x ∷ [] ≡ [] → ⊥
no_push [] x e = cc
no_push (y ∷ xs) x e = cc
