-- What is left to do stays sure when a pair is dropped, bound, taken apart or joined.
use Rattle.std.proofs.Common.{◌≡◌, ℕ, suc, ◌+◌, ◌*◌, ◌<◌, ◌≤◌, inl, inr, List, [], ◌∷◌, ◌++◌, map, length, Option, Some, None, refl, sym, ap, ◌∙◌, subst, arith}
use Rattle.std.specs.Prelude.{if◌then◌else◌, Bool, true, false, ◌⊎◌, All, nat_eq}
use Rattle.std.proofs.lemmas.List.Elements.{All-head, All-tail}
use Rattle.indexmap.specs.IndexMap.{IndexMap, get}
use Rattle.std.specs.Map.{lookup}
use Rattle.lp_term.proofs.Walks.{All-front}
use Rattle.lp_calculus.specs.Types.{Ty, var, instance}
use Rattle.lp_term.specs.declared.node.TypeId.{TypeId}
use Rattle.lp_term.specs.Nodes.{Nodes, type_tree}
use Rattle.lp_type_laws.specs.Equations.{Equation, one, IsMostGeneral, HaveNoSolution}
use Rattle.lp_type_laws.specs.Solving.{Look, binds, clash, look, solve, fails}
use Rattle.lp_type_laws.proofs.Counts.{turns}
use Rattle.lp_type_laws.proofs.Solves.{solves, fails_rightly}
use Rattle.lp_type_laws.proofs.Follows.{followed_before, follows_bound, binds_hold}
use Rattle.lp_type_unify.specs.declared.bindings.Pair.{Pair}
use Rattle.lp_type_unify.specs.declared.shared.Task.{Task}
use Rattle.lp_type_unify.specs.Reading.{reading, reads, Slot, AreKept, IsPair, read_pair, read_pairs}
use Rattle.lp_type_unify.specs.Looking.{IsUnbound, Binds}
use Rattle.lp_type_unify.specs.Sharing.{IsOne, IsLower, AreJoined, IsJoined, takes, read_tasks, IsTask, State, Apart, BoundApart, Advances, Taken}
use Rattle.lp_type_unify.proofs.Binds.{turned_bound, turned_clash}
use Rattle.lp_type_unify.proofs.Costs.{turn_tops}
use Rattle.lp_type_unify.proofs.Roots.{joined_bound, joined_more, joins_more, read_opened, sure_taken, sure_joined, sure_opened, one_under, start_takes, start_sure, start_reads, advances_turn, advances_equal, clash_fails}

pub joined_lower : (τ : ℕ → Ty) (n : ℕ) (θ : ℕ → Ty) (joined : ℕ → Option ℕ) → AreJoined τ n θ joined → (i : ℕ) → IsLower i (joined i)
joined_lower τ n θ joined h i = go (joined i) (h i)
  where
    go : (o : Option ℕ) → IsOne τ n θ i o → IsLower i o
    go None k = tt
    go (Some j) k = k.0

-- a variable that stands on one of two sides past their bindings is not bound
pub unbound_side : (bound : ℕ → Option TypeId) (a b : Ty) (x : ℕ) → (a ≡ var x) ⊎ (b ≡ var x) → IsUnbound bound a → IsUnbound bound b → bound x ≡ None
unbound_side bound a b x (inl e) u v = subst (λ t. IsUnbound bound t) e u
unbound_side bound a b x (inr e) u v = subst (λ t. IsUnbound bound t) e v

module _ {S : Type 0} (bank : Nodes) (made : IndexMap ℕ TypeId S) (joined : ℕ → Option ℕ) where
  abbrev τ : ℕ → Ty
  τ = type_tree bank

  abbrev n : ℕ
  n = length bank.types

  abbrev θ : ℕ → Ty
  θ = reads bank made

  -- both sides read as one type already
  pub state_dropped : (p : Pair) (old : List Task) → State bank made joined (old ++ Task.Take p ∷ []) →
      instance θ (τ p.left.0) ≡ instance θ (τ p.right.0) → State bank made joined old
  state_dropped p old s e = record {
    kept = s.kept;
    todos = All-front (IsTask τ n) old (Task.Take p ∷ []) s.todos;
    follows = s.follows;
    sure = λ ρ f. sure_taken τ ρ old p (s.sure ρ f) (one_under τ θ ρ p f (ap (instance ρ) e));
    one = s.one;
  }

  pub taken_dropped : (p : Pair) (old : List Task) → State bank made joined (old ++ Task.Take p ∷ []) →
      instance θ (τ p.left.0) ≡ instance θ (τ p.right.0) → Taken true bank made made joined p old old
  taken_dropped p old s e =
      (state_dropped p old s e, omega arith, advances_equal (instance θ (τ p.left.0)) (instance θ (τ p.right.0)) (read_tasks τ θ old) θ e)

  -- a variable is bound
  pub taken_bound : (ok : Bool) (now : IndexMap ℕ TypeId S) (p : Pair) (old : List Task) (l r to : TypeId) (x : ℕ) → State bank made joined (old ++ Task.Take p ∷ []) →
      instance θ (τ l.0) ≡ instance θ (τ p.left.0) → instance θ (τ r.0) ≡ instance θ (τ p.right.0) → Binds τ n θ l r x to → θ x ≡ var x →
      BoundApart ok x (instance θ (τ to.0)) θ (reads bank now) (AreKept bank now) → Taken ok bank made now joined p old old
  taken_bound true now p old l r to x s a b B loose h =
      let ι = reads bank now in
      let t = instance θ (τ to.0) in
      let is : look (instance θ (τ l.0)) (instance θ (τ r.0)) ≡ binds x t = B.looks ∙ ap (λ o. if_bound o) h.0 in (
        record {
          kept = h.2;
          todos = All-front (IsTask τ n) old (Task.Take p ∷ []) s.todos;
          follows = follows_bound θ ι x (τ to.0) h.1 loose h.0 s.follows;
          sure = λ ρ f.
              let q = followed_before ρ θ ι x t h.1 loose f in
              sure_taken τ ρ old p (s.sure ρ q.1)
              (one_under τ θ ρ p q.1 (ap (instance ρ) (sym a) ∙ binds_hold ρ (instance θ (τ l.0)) (instance θ (τ r.0)) x t is q.0 ∙ ap (instance ρ) b));
          one = joined_bound τ n θ ι (one x t) joined h.1 s.one;
        },
        omega arith,
        advances_turn (read_pair τ θ p) (read_tasks τ θ old) (read_tasks τ ι old) θ ι
            (turn_tops τ θ p l r (read_tasks τ θ old) a b ∙ turned_bound τ x t θ ι (takes old) (look (instance θ (τ l.0)) (instance θ (τ r.0))) B.looks h.0 h.1),
      )
    where
      if_bound : Bool → Look
      if_bound o = if o then clash else binds x (instance θ (τ to.0))
  taken_bound false now p old l r to x s a b B loose h =
      clash_fails (read_pair τ θ p) (read_tasks τ θ old) θ
      (turn_tops τ θ p l r (read_tasks τ θ old) a b ∙ turned_clash x (instance θ (τ to.0)) θ (read_tasks τ θ old) (look (instance θ (τ l.0)) (instance θ (τ r.0))) B.looks h)

  -- two types are taken apart
  pub taken_apart : (ok : Bool) (p : Pair) (old new : List Task) (l r : TypeId) → State bank made joined (old ++ Task.Take p ∷ []) →
      instance θ (τ l.0) ≡ instance θ (τ p.left.0) → instance θ (τ r.0) ≡ instance θ (τ p.right.0) → Apart ok τ θ l r old new →
      All (IsTask τ n) new → Taken ok bank made made joined p old new
  taken_apart true p old new l r s a b (inl h) k =
      subst (λ ts. Taken true bank made made joined p old ts) (sym h.0) (taken_dropped p old s (sym a ∙ h.1 ∙ b))
  taken_apart true p old new l r s a b (inr o) k = (
    record {
      kept = s.kept;
      todos = k;
      follows = s.follows;
      sure = λ ρ f. sure_opened τ θ ρ old new p o.pair o.parts l r f o.tasks o.left o.right a b (o.whole ρ) (s.sure ρ f);
      one = s.one;
    },
    joins_more old new o.pair o.parts o.tasks,
    subst (λ fs. Advances (read_pair τ θ p ∷ read_tasks τ θ old) θ fs θ) (sym (read_opened τ θ old new o.pair o.parts o.tasks))
        (advances_turn (read_pair τ θ p) (read_tasks τ θ old) (read_pairs τ θ o.parts ++ read_tasks τ θ old) θ θ
        (turn_tops τ θ p l r (read_tasks τ θ old) a b ∙ o.turns (read_tasks τ θ old))),
  )
  taken_apart false p old new l r s a b h k =
      clash_fails (read_pair τ θ p) (read_tasks τ θ old) θ (turn_tops τ θ p l r (read_tasks τ θ old) a b ∙ h (read_tasks τ θ old))

  -- a pair is joined
  pub state_joined : (now : ℕ → Option ℕ) (p : Pair) (old all : List Task) → all ≡ old ++ Task.Join p ∷ [] → State bank made joined all →
      ((i : ℕ) → IsJoined p i (joined i) (now i)) → State bank made now old
  state_joined now p old all e s j =
      let h : State bank made joined (old ++ Task.Join p ∷ []) = subst (λ ts. State bank made joined ts) e s in
      let k : IsTask τ n (Task.Join p) = All-last (IsTask τ n) old (Task.Join p) h.todos in
      let same = (sure_joined τ θ old p (h.sure θ h.follows)).0 in
      record {
        kept = h.kept;
        todos = All-front (IsTask τ n) old (Task.Join p ∷ []) h.todos;
        follows = h.follows;
        sure = λ ρ f. (sure_joined τ ρ old p (h.sure ρ f)).1;
        one = joined_more τ n θ p joined now j k.0 k.1 k.2 same h.one;
      }
    where
      All-last : {X : Type 0} (P : X → Type 0) (xs : List X) (x : X) → All P (xs ++ x ∷ []) → P x
      All-last P [] x a = All-head P x [] a
      All-last P (y ∷ xs) x a = All-last P xs x (All-tail P y (xs ++ x ∷ []) a)

-- runs

abbrev pub Runs : List Equation → List Equation → (ℕ → Ty) → Type 0
Runs start all θ = (n : ℕ) → (m : ℕ) × (solve m start var ≡ solve n all θ)

pub runs_on : (start all mid fs : List Equation) (θ ι : ℕ → Ty) → Runs start all θ → all ≡ mid → Advances mid θ fs ι → Runs start fs ι
runs_on start all mid fs θ ι r q a k =
    let m = a.reaches k in
    let s = r m.0 in
    (s.0, s.1 ∙ ap (λ es. solve m.0 es θ) q ∙ m.1)

pub runs_same : (start all fs : List Equation) (θ : ℕ → Ty) → Runs start all θ → all ≡ fs → Runs start fs θ
runs_same start all fs θ r q = subst (λ es. Runs start es θ) q r

pub runs_fail : (start all mid : List Equation) (θ : ℕ → Ty) → Runs start all θ → all ≡ mid → (m : ℕ) × (solve m mid θ ≡ fails) → HaveNoSolution start
runs_fail start all mid θ r q f = let s = r f.0 in fails_rightly s.0 start var (s.1 ∙ ap (λ es. solve f.0 es θ) q ∙ f.1)

pub runs_end : (start all : List Equation) (θ : ℕ → Ty) → Runs start all θ → all ≡ [] → IsMostGeneral start θ
runs_end start all θ r q = let s = r 0 in solves s.0 start θ (s.1 ∙ ap (λ es. solve 0 es θ) q)

pub fewer_left : (all mid fs : List Equation) (θ ι : ℕ → Ty) (j k : ℕ) → all ≡ mid → Advances mid θ fs ι → k ≤ suc j → 2 * turns fs ι + k < 2 * turns all θ + j
fewer_left all mid fs θ ι j k q a l = let f = a.fewer in let g : turns all θ ≡ turns mid θ = ap (λ es. turns es θ) q in omega (arith, f, g, l)

pub fewer_joins : (all fs : List Equation) (θ : ℕ → Ty) (j k : ℕ) → all ≡ fs → j ≡ suc k → 2 * turns fs θ + k < 2 * turns all θ + j
fewer_joins all fs θ j k q e = let g : turns all θ ≡ turns fs θ = ap (λ es. turns es θ) q in omega (arith, g, e)

-- at the start

none_found : {X : Type 0} (S : Type 0) (m : IndexMap ℕ X S) → m.entries ≡ [] → (x : ℕ) → get nat_eq m x ≡ None
none_found S m e x = ap (λ es. lookup (nat_eq x) es) e

pub start_state : {S R : Type 0} (bank : Nodes) (made : IndexMap ℕ TypeId S) (older : IndexMap ℕ ℕ R) (todo : List Task) (ps : List Pair) →
    made.entries ≡ [] → older.entries ≡ [] → todo ≡ map Task.Take ps → All (IsPair (length bank.types)) ps → State bank made (get nat_eq older) todo
start_state {S} {R} bank made older todo ps e f t k =
    let nothing_yet : reads bank made ≡ var = ap (reading (type_tree bank)) e in
    record {
      kept = λ x. subst (λ o. Slot (type_tree bank) (length bank.types) (reads bank made) x o) (sym (none_found S made e x)) (ap (λ θ. θ x) nothing_yet);
      todos = start_takes (type_tree bank) (length bank.types) todo ps t k;
      follows = λ x. subst (λ θ. instance θ (θ x) ≡ θ x) (sym nothing_yet) refl;
      sure = λ ρ f. start_sure (type_tree bank) ρ todo ps t;
      one = λ i. subst (λ o. IsOne (type_tree bank) (length bank.types) (reads bank made) i o) (sym (none_found R older f i)) tt;
    }

pub start_runs : {S : Type 0} (bank : Nodes) (made : IndexMap ℕ TypeId S) (todo : List Task) (ps : List Pair) → made.entries ≡ [] → todo ≡ map Task.Take ps →
    Runs (read_pairs (type_tree bank) var ps) (read_tasks (type_tree bank) (reads bank made) todo) (reads bank made)
start_runs bank made todo ps e t =
    let nothing_yet : reads bank made ≡ var = ap (reading (type_tree bank)) e in
    subst (λ θ. Runs (read_pairs (type_tree bank) var ps) (read_tasks (type_tree bank) θ todo) θ) (sym nothing_yet)
    (subst (λ es. Runs (read_pairs (type_tree bank) var ps) es var) (sym (start_reads (type_tree bank) var todo ps t)) (λ n. (n, refl)))
