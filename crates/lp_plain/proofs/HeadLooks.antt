-- A look at a head: where it ends at once, and what it is for the definition.
use Rattle.std.proofs.Common.{◌≡◌, ℕ, List, [], ◌∷◌, map, refl, sym, ap, ◌∙◌, subst, Some, None}
use Rattle.lp_calculus.specs.Convert.{option_term}
use Rattle.lp_calculus.specs.Term.{Term, index, atom, abs, app, apply, constant, integer, text, eigen, logic, param}
use Rattle.lp_calculus.specs.Spine.{arguments, head_of}
use Rattle.lp_term.specs.Nodes.{Nodes, tree}
use Rattle.lp_model.specs.Look.{weak_step}
use Rattle.lp_model.specs.Pair.{Closing, closed}
use Rattle.lp_model.specs.Search.{first_looked, goal_looked, key_of}
use Rattle.lp_pattern.specs.Seen.{IsEnded, IsEndedHead}
use Rattle.lp_pattern.specs.Turning.{IsOpenReading}
use Rattle.lp_pattern.specs.Under.{ValueIs}
use Rattle.lp_pattern.specs.declared.bindings.Bindings.{Bindings}
use Rattle.lp_plain.specs.declared.choice.Call.{Call}
use Rattle.lp_plain.specs.declared.machine.Machine.{Machine}
use Rattle.lp_plain.specs.Trials.{IsCallHead, goal_of, term_at, with_first_term}
use Rattle.lp_plain.proofs.Trials.{arguments_closed}

-- a head on arguments
pub head_applied : (s : Bindings) (h : Term) (ts : List Term) → IsEndedHead s h → IsEndedHead s (apply h ts)
head_applied s h [] e = e
head_applied s h (t ∷ ts) e = head_applied s (app h t) ts e

pub head_ended : (s : Bindings) (t : Term) → IsEndedHead s t → IsEnded s t
head_ended s (index i) e = tt
head_ended s (atom a) e = e
head_ended s (abs b) e = tt
head_ended s (app t u) e = e

-- no step leads on, as the bindings read it

module _ (b : Nodes) (s : Bindings) (next : ℕ) (z : Closing) (y : IsOpenReading b s next z) where
  free_reads : (x l : ℕ) → IsEndedHead s (atom (logic x l)) → closed z (atom (logic x l)) ≡ atom (logic x l)
  free_reads x l e = subst (λ o. ValueIs b z x o) e (y.reading.terms x) l

  no_step : (t u : Term) → IsEndedHead s t → weak_step (closed z (app t u)) ≡ None
  no_step (index i) u e = refl
  no_step (atom (constant c ts)) u e = refl
  no_step (atom (integer j)) u e = refl
  no_step (atom (text bs)) u e = refl
  no_step (atom (eigen k)) u e = refl
  no_step (atom (logic x l)) u e = ap (λ h. weak_step (app h (closed z u))) (free_reads x l e)
  no_step (atom (param k t)) u e = refl
  no_step (abs c) u e = absurd e
  no_step (app f a) u e = ap (option_term (λ h. app h (closed z u))) (no_step f a e)

  pub ended_stays : (t : Term) → IsEnded s t → weak_step (closed z t) ≡ None
  ended_stays (index i) e = refl
  ended_stays (atom (constant c ts)) e = refl
  ended_stays (atom (integer j)) e = refl
  ended_stays (atom (text bs)) e = refl
  ended_stays (atom (eigen k)) e = refl
  ended_stays (atom (logic x l)) e = ap weak_step (free_reads x l e)
  ended_stays (atom (param k t)) e = refl
  ended_stays (abs c) e = refl
  ended_stays (app t u) e = no_step t u e

  -- what names its head names it as it is read
  head_key : (t : Term) → IsEndedHead s t → key_of (closed z t) ≡ key_of t
  head_key (index i) e = refl
  head_key (atom (constant c ts)) e = refl
  head_key (atom (integer j)) e = refl
  head_key (atom (text bs)) e = refl
  head_key (atom (eigen k)) e = refl
  head_key (atom (logic x l)) e = ap key_of (free_reads x l e)
  head_key (atom (param k t)) e = refl
  head_key (abs c) e = absurd e
  head_key (app t u) e = head_key t e

  pub ended_key : (t : Term) → IsEnded s t → key_of (closed z t) ≡ key_of t
  ended_key (index i) e = refl
  ended_key (atom a) e = head_key (atom a) e
  ended_key (abs c) e = refl
  ended_key (app t u) e = head_key t e

pub closed_apply : (z : Closing) (ts : List Term) (h : Term) → closed z (apply h ts) ≡ apply (closed z h) (map (closed z) ts)
closed_apply z [] h = refl
closed_apply z (t ∷ ts) h = closed_apply z ts (app h t)

pub head_closes : (z : Closing) (x : Term) → IsCallHead (head_of x) → head_of (closed z x) ≡ closed z (head_of x)
head_closes z (index i) h = absurd h
head_closes z (atom (constant c ts)) h = refl
head_closes z (atom (integer j)) h = absurd h
head_closes z (atom (text s)) h = absurd h
head_closes z (atom (eigen k)) h = refl
head_closes z (atom (logic x l)) h = absurd h
head_closes z (atom (param k t)) h = absurd h
head_closes z (abs b) h = absurd h
head_closes z (app f a) h = head_closes z f h

-- the goal of a call is the definition's goal as it was looked at
module _ (m n : Machine) (call : Call) (z : Closing) (k : ℕ) (goal : Term) (same : tree m.bank call.goal.0 ≡ goal) (same' : tree n.bank call.goal.0 ≡ goal) (head : IsCallHead (head_of goal)) where
  pub alone_looked : call.first ≡ None → arguments goal ≡ [] → goal_looked k (closed z goal) ≡ Some (closed z (goal_of n call))
  alone_looked none empty =
      let made : goal_of n call ≡ head_of goal = (λ i. apply (head_of (same' i)) (with_first_term (term_at n.bank (none i)) (arguments (same' i)))) ∙ ap (apply (head_of goal)) empty in
      (λ i. first_looked k (head_closes z goal head i) ((arguments_closed z goal [] head ∙ ap (map (closed z)) empty) i)) ∙ ap (λ t. Some (closed z t)) (sym made)
