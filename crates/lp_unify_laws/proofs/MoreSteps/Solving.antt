-- More steps change no answer of unification.
use Rattle.std.proofs.Common.{ℕ, zero, suc, ◌≤◌, List, [], ◌∷◌, arith, Bool, true, false, Option, Some}
use Rattle.std.specs.Prelude.{nat_lt}
use Rattle.lp_model.specs.Types.{TypePair, TypeOutcome, none, solved, solve_types}
use Rattle.lp_model.specs.Pair.{Pair}
use Rattle.lp_model.specs.Rule.{rule}
use Rattle.lp_model.specs.Unify.{Turn, Goes as UGoes, Fails, Solved, judged, turn_on, turn, Unified, Spent, Fail, Solution, limited, unify, begun, go_on, solve}
use Rattle.lp_model.specs.Unify as unification
use Rattle.lp_unify_laws.proofs.MoreSteps.Scans.{Below, below_none, below_same, below_then, below_map}
use Rattle.lp_unify_laws.proofs.MoreSteps.Rules.{types_more, rule_more}

pub turn_more : (n m : ℕ) → n ≤ m → (s : unification.State) (ps : List Pair) → Below (turn_on n s ps) (turn_on m s ps)
turn_more n m l s [] = below_same _
turn_more n m l s (p ∷ rest) = below_map (rule n s.next p) (rule m s.next p) _ (rule_more n m l s.next p)

pub unify_more : (a b n m : ℕ) → a ≤ b → n ≤ m → (limit : ℕ) (s : unification.State) → Below (unify a n limit s) (unify b m limit s)
unify_more zero b n m h l limit s = below_none (unify b m limit s)
unify_more (suc a) zero n m h l limit s = absurd (omega arith)
unify_more (suc a) (suc b) n m h l limit s = below_then (turn n s) (turn m s) _ _ (turn_more n m l s s.pairs) (λ t. go t (λ u. unify_more a b n m (omega arith) l limit u))
  where
    limit_case : (c : Bool) (x y : Option Unified) → Below x y → Below {A = Unified} (elim c [ true ↦ Some Spent | false ↦ x ]) (elim c [ true ↦ Some Spent | false ↦ y ])
    limit_case true x y p = below_same _
    limit_case false x y p = p

    go : (t : Turn) → ((u : unification.State) → Below (unify a n limit u) (unify b m limit u)) → Below {A = Unified}
        (elim t [
          | UGoes s' ↦ elim (nat_lt limit s'.units) [ true ↦ Some Spent | false ↦ unify a n limit s' ]
          | Fails u ↦ Some (limited limit u Fail)
          | Solved s' ↦ Some (Solution s')
        ]) (elim t [
          | UGoes s' ↦ elim (nat_lt limit s'.units) [ true ↦ Some Spent | false ↦ unify b m limit s' ]
          | Fails
              u ↦ Some (limited limit u Fail)
          | Solved s' ↦ Some (Solution s')
        ])
    go (UGoes s') ih = limit_case (nat_lt limit s'.units) _ _ (ih s')
    go (Fails u) ih = below_same _
    go (Solved s') ih = below_same _

pub go_on_more : (n m : ℕ) → n ≤ m → (limit : ℕ) (ps ds : List Pair) (next : ℕ) (o : TypeOutcome) → Below (go_on n limit ps ds next o) (go_on m limit ps ds next o)
go_on_more n m l limit ps ds next (none u) = below_same _
go_on_more n m l limit ps ds next (solved ts u) = go (nat_lt limit u)
  where
    go : (c : Bool) → Below {A = Unified} (elim c [ true ↦ Some Spent | false ↦ unify n n limit (begun ps ds next (solved ts u)) ]) (elim c [ true ↦ Some Spent | false ↦ unify m m limit (begun ps ds next (solved ts u)) ])
    go true = below_same _
    go false = unify_more n m n m l l limit (begun ps ds next (solved ts u))

pub solve_more : (n m : ℕ) → n ≤ m → (limit : ℕ) (types : List TypePair) (ps ds : List Pair) (next : ℕ) → Below (solve n limit types ps ds next) (solve m limit types ps ds next)
solve_more n m l limit types ps ds next = below_then (solve_types n types [] 0) (solve_types m types [] 0) _ _ (types_more n m l types [] 0) (λ o. go_on_more n m l limit ps ds next o)
