-- The newest alternative and the others, and what becomes of the others where the search goes back to it.
use Rattle.std.proofs.Common.{◌≡◌, ℕ, zero, suc, ◌+◌, ◌≤◌, List, [], ◌∷◌, ◌++◌, length, take, refl, sym, ap, ◌∙◌, subst, arith}
use Rattle.std.specs.Prelude.{All}
use Rattle.std.proofs.lemmas.List.{length-append}
use Rattle.lp_model.specs.Branch.{Task}
use Rattle.lp_pattern.specs.Growing.{IsPairOf}
use Rattle.lp_pattern.specs.Turning.{IsOpenReading}
use Rattle.lp_plain.specs.declared.choice.Choice.{Choice}
use Rattle.lp_plain.specs.declared.machine.Machine.{Machine}
use Rattle.lp_plain.specs.Entries.{Around}
use Rattle.lp_plain.specs.Moving.{Query, AreAlternatives, AreBoundInTurn, IsAlternative}
use Rattle.lp_plain.specs.Restoring.{IsTaken}
use Rattle.lp_plain.specs.Searching.{IsWithin, StandForAll, StandsFor}
use Rattle.lp_plain.specs.Stacks.{stack_of}
use Rattle.lp_plain.specs.Taking.{IsKept}
use Rattle.lp_plain.proofs.Backwards.{AllWithin, lists_same, take_within}
use Rattle.lp_plain.proofs.CallsUnder.{tasks_back}

-- the newest alternative and the others
pub record IsSplit (qv : Query) (m : Machine) (a : Around) (f : ℕ → ℕ) (l k : ℕ) (xs : List Choice) (c : Choice) (below : ℕ) (rss tss : List (List Task)) : Type 0 where
  pub raws : List (List Task)
  pub others : List (List Task)
  pub raw : List Task
  pub tasks : List Task
  pub under : ℕ
  pub count : under ≡ below + length (stack_of raws)
  pub whole_raw : rss ≡ raws ++ raw ∷ []
  pub whole : tss ≡ others ++ tasks ∷ []
  pub stand : StandForAll m a xs below raws
  pub last : StandsFor m a c under raw
  pub are : AreAlternatives qv m f l k xs raws others
  pub is : IsAlternative qv m f l (k + length xs) c raw tasks

pub split_newest : (qv : Query) (m : Machine) (a : Around) (f : ℕ → ℕ) (l k : ℕ) (xs : List Choice) (c : Choice) (below : ℕ) (rss tss : List (List Task)) → StandForAll m a (xs ++ c ∷ []) below rss →
    AreAlternatives qv m f l k (xs ++ c ∷ []) rss tss → IsSplit qv m a f l k xs c below rss tss
split_newest qv m a f l k [] c below [] tss s h = absurd s
split_newest qv m a f l k [] c below (rs ∷ []) [] s h = absurd h
split_newest qv m a f l k [] c below (rs ∷ []) (ts ∷ []) s h = record {
  raws = [];
  others = [];
  raw = rs;
  tasks = ts;
  under = below;
  count = (let e : below ≡ below + 0 = omega arith in e);
  whole_raw = refl;
  whole = refl;
  stand = tt;
  last = s.0;
  are = tt;
  is = (let e : k ≡ k + 0 = omega arith in subst (λ i. IsAlternative qv m f l i c rs ts) e h.0);
}
split_newest qv m a f l k [] c below (rs ∷ []) (ts ∷ us ∷ tss) s h = absurd h.1
split_newest qv m a f l k [] c below (rs ∷ us ∷ rss) tss s h = absurd s.1
split_newest qv m a f l k (x ∷ xs) c below [] tss s h = absurd s
split_newest qv m a f l k (x ∷ xs) c below (rs ∷ rss) [] s h = absurd h
split_newest qv m a f l k (x ∷ xs) c below (rs ∷ rss) (ts ∷ tss) s h =
    let r = split_newest qv m a f l (suc k) xs c (below + length rs) rss tss s.1 h.1 in
    record {
      raws = rs ∷ r.raws;
      others = ts ∷ r.others;
      raw = r.raw;
      tasks = r.tasks;
      under = r.under;
      count = (let w = r.count in let l = length-append (stack_of r.raws) rs in omega (arith, w, l));
      whole_raw = ap (λ z. rs ∷ z) r.whole_raw;
      whole = ap (λ z. ts ∷ z) r.whole;
      stand = (s.0, r.stand);
      last = r.last;
      are = (h.0, r.are);
      is = (let e : suc k + length xs ≡ k + suc (length xs) = omega arith in subst (λ i. IsAlternative qv m f l i c r.raw r.tasks) e r.is);
    }

-- what is bound at each of the older ones is bound at the newest one
abbrev pub AllBound : Choice → List Choice → Type 0
AllBound c [] = Unit {0}
AllBound c (x ∷ xs) = (x.bindings.terms ≤ c.bindings.terms) × (x.bindings.types ≤ c.bindings.types) × AllBound c xs

pub bound_last : (xs : List Choice) (c : Choice) → AreBoundInTurn (xs ++ c ∷ []) → AllBound c xs × AreBoundInTurn xs
bound_last [] c n = (tt, tt)
bound_last (x ∷ []) c n = ((n.0, n.1, tt), tt)
bound_last (x ∷ y ∷ xs) c n =
    let r = bound_last (y ∷ xs) c n.2 in
    let i = n.0 in
    let j = n.1 in
    let p = r.0.0 in
    let q = r.0.1 in
    ((omega (arith, i, p), omega (arith, j, q), r.0), (n.0, n.1, r.1))

-- the older ones are as they were
module _ (qv : Query) (m n : Machine) (a : Around) (c : Choice) (rest : List Choice) (t : IsTaken m n c rest) (kc : IsKept m a c) (ct : c.bindings.terms ≤ length m.bindings.terms.entries)
    (cy : c.bindings.types ≤ length m.bindings.types.entries) where
  long : {X : Type 0} (i : ℕ) (xs : List X) → i ≤ length xs → length (take i xs) ≡ i
  long zero xs l = refl
  long (suc i) [] l = absurd (omega (arith, l))
  long (suc i) (x ∷ xs) l = ap suc (long i xs (omega (arith, l)))

  older_back : (f : ℕ → ℕ) (l k : ℕ) (x : Choice) (rs ts : List Task) → IsWithin x c → x.bindings.terms ≤ c.bindings.terms → x.bindings.types ≤ c.bindings.types → IsAlternative qv m f l k x rs ts → IsAlternative qv n f l k x rs ts
  older_back f l k x rs ts w wt wy h =
      let lt = ap length t.bound_terms ∙ long c.bindings.terms m.bindings.terms.entries ct in
      let ly = ap length t.bound_types ∙ long c.bindings.types m.bindings.types.entries cy in
      record {
        closing = h.closing;
        reading = λ s q. subst (λ b. IsOpenReading b s x.next h.closing) (sym t.bank) (h.reading s (record {
          terms = q.terms ∙ ap (take x.bindings.terms) t.bound_terms ∙ take_within x.bindings.terms c.bindings.terms m.bindings.terms.entries wt;
          types = q.types ∙ ap (take x.bindings.types) t.bound_types ∙ take_within x.bindings.types c.bindings.types m.bindings.types.entries wy;
        }));
        bound_terms = omega (arith, lt, wt);
        bound_types = omega (arith, ly, wy);
        left = subst (λ b. All (IsPairOf (length b.terms)) x.pairs.items) (sym t.bank) h.left;
        tasks = tasks_back qv m n t.bank t.table t.index x (lists_same m n a c rest t kc x w) h.closing f l k rs ts h.tasks;
      }

  pub all_older_back : (f : ℕ → ℕ) (l k : ℕ) (xs : List Choice) (rss tss : List (List Task)) → AllWithin c xs → AllBound c xs → AreAlternatives qv m f l k xs rss tss → AreAlternatives qv n f l k xs rss tss
  all_older_back f l k [] [] [] v w h = tt
  all_older_back f l k [] [] (ts ∷ tss) v w h = absurd h
  all_older_back f l k [] (rs ∷ rss) tss v w h = absurd h
  all_older_back f l k (x ∷ xs) [] tss v w h = absurd h
  all_older_back f l k (x ∷ xs) (rs ∷ rss) [] v w h = absurd h
  all_older_back f l k (x ∷ xs) (rs ∷ rss) (ts ∷ tss) v w h = (older_back f l k x rs ts v.0 w.0 w.1 h.0, all_older_back f l (suc k) xs rss tss v.1 w.2 h.1)
