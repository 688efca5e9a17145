-- What a call comes to behind its step.
use Rattle.std.proofs.Common.{◌≡◌, ℕ, List, ◌++◌, length, refl, sym, ap, inl, inr, ◌∙◌, subst, arith, Option, None, Some, []}
use Rattle.std.specs.Prelude.{filter}
use Rattle.lp_calculus.specs.Term.{Term}
use Rattle.lp_term.specs.Nodes.{Nodes, Extends}
use Rattle.lp_term.specs.declared.node.TermId.{TermId}
use Rattle.lp_model.specs.Branch.{Branch, Entry, Lack, Task}
use Rattle.lp_model.specs.Flat.{Clause, Clauses}
use Rattle.lp_model.specs.Search.{has_head, look, passes, tries}
use Rattle.lp_model.specs.Skeleton.{State}
use Rattle.lp_model.specs.declared.ending.Ending.TheVariants.{Deep}
use Rattle.lp_model.specs.Unify.{unit_limit}
use Rattle.lp_plain.specs.declared.candidates.Candidate.{Candidate}
use Rattle.lp_plain.specs.declared.choice.Call.{Call}
use Rattle.lp_plain.specs.declared.frame.Place.{Place}
use Rattle.lp_plain.specs.declared.head.Head.{Head}
use Rattle.lp_plain.specs.declared.head.Key.{Key}
use Rattle.lp_plain.specs.declared.machine.Machine.{Machine}
use Rattle.lp_plain.specs.declared.outcome.Turn.{Turn}
use Rattle.lp_plain.specs.Assuming.{HasAssumed, lists_of}
use Rattle.lp_plain.specs.Calling.{CallLeads, IsAtCall, IsLookedAs, IsProgramIn, WrittenBehind, no_tries, some_tries}
use Rattle.lp_plain.specs.Entries.{Around}
use Rattle.lp_plain.specs.HeadLooks.{OnlyBank, with_bank}
use Rattle.lp_plain.specs.Moving.{IsGoingOn, IsTrying, LeadsTo, Query, quiet}
use Rattle.lp_plain.specs.Trying.{AreApplied, AreOfProgram, AreTriesApart, HasProgram, IsCallOf, all_clauses, first_in}
use Rattle.lp_plain.specs.Within.{StandsIn}
use Rattle.lp_plain.specs.WrittenSearch.{IsWrittenSearch}
use Rattle.lp_plain.specs.WrittenTable.{StandsWritten}
use Rattle.lp_plain.proofs.CallArm.{leads_with, written_behind}
use Rattle.lp_plain.proofs.CallMoves.{IsSeen, bank_goals, deep_looked, seen_alone, seen_first}
use Rattle.lp_plain.proofs.CallTurns.{found_by, lacks_on, none_back, none_left, some_left, some_trying}
use Rattle.lp_plain.proofs.WrittenSearches.{search_same}

abbrev pub plain_call : Place → TermId → Head → Option ℕ → Call
plain_call p goal hd behind = record { goal = goal; head = hd; first = None; key = None; place = p; behind = behind }

-- what the first candidate of a call is found by, apart
abbrev pub IsApart : Machine → Call → Option Candidate → Type 0
IsApart n call found =
    (ar : ℕ → ℕ) (css : List Clauses) (before : List Clause) (t : Term) → HasProgram n css → HasAssumed (lists_of n) call.place.assumed before →
    IsCallOf ar n.bank call t → AreOfProgram ar (all_clauses css) → AreApplied ar before →
    AreTriesApart (lists_of n) (first_in n call.head) call.key found (filter (has_head t) before) (filter (passes t) (all_clauses css))

-- the bank alone grew
bank_written : (m : Machine) (b : Nodes) → Extends m.bank b → StandsIn m → (ar : ℕ → ℕ) → IsWrittenSearch m ar → IsWrittenSearch (with_bank m b) ar
bank_written m b x st ar w = search_same m (with_bank m b) st (bank_goals m b x) refl (record { assumptions = refl; newest = refl }) refl ar w

-- its first argument is too deep
pub deep_leads : (m n : Machine) (b : Nodes) → Extends m.bank b → (p : Place) (goal : TermId) (hd : Head) (first : Option TermId) (behind : Option ℕ)
    → IsLookedAs m n (plain_call p goal hd behind) first None → CallLeads m n p goal hd first behind (Turn.Ended Deep)
deep_leads m n b x p goal hd None behind h = absurd h
deep_leads m n b x p goal hd (Some u) behind h = λ eb qv a rest work below g e c css pr sw s k ea ct go enough few ty ts et es.
    let l = few refl in
    let q = deep_looked qv m b x a rest work below g p goal hd (Some u) e c css pr None None u refl enough (omega (arith, l)) h in
    let lack = et ∙ ap (tries (all_clauses css) e work (length below)) q in
    some_tries Lack [] lack (lacks_on qv (Turn.Ended Deep) n go enough (all_clauses css) s k below ea (es ∙ ap (λ l. l ++ below) lack))

-- it was looked at
module _ (m : Machine) (b : Nodes) (x : Extends m.bank b) (p : Place) (goal : TermId) (hd : Head) (first : Option TermId) (behind : Option ℕ) (call : Call) where
  abbrev n : Machine
  n = with_bank m b

  -- as what was looked at, with its key
  pub record IsMade : Type 0 where
    pub looked : Option TermId
    pub key : Option Key
    pub is : call ≡ record { goal = goal; head = hd; first = looked; key = key; place = p; behind = behind }
    pub seen : (qv : Query) (a : Around) (rest work : Branch) (below : List Task) (g : IsGoingOn qv m a rest work below) (e : Entry)
        (c : IsAtCall qv m a p goal hd first g.closing g.levels rest.next e) (css : List Clauses) (pr : IsProgramIn m qv.arity css) →
        IsSeen qv m b x a rest work below g p goal hd first e c css pr looked key

  made_by : (o : Option TermId) → first ≡ o → IsLookedAs m n (plain_call p goal hd behind) o (Some call) → IsMade
  made_by None f h = record { looked = None; key = None; is = h; seen = λ qv a rest work below g e c css pr. seen_alone qv m b x a rest work below g p goal hd first e c css pr None None f refl refl }
  made_by (Some u) f h = record {
    looked = Some h.0;
    key = h.1;
    is = h.2;
    seen = λ qv a rest work below g e c css pr. seen_first qv m b x a rest work
        below g p goal hd first e c css pr (Some h.0) h.1 u f h.0 refl h.3 h.4 h.5;
  }

  pub made : IsLookedAs m n (plain_call p goal hd behind) first (Some call) → IsMade
  made h = made_by first refl h

  module _ (lk : IsLookedAs m n (plain_call p goal hd behind) first (Some call)) (found : Option Candidate) (apart : IsApart n call found) where
    abbrev d : IsMade
    d = made lk

    pub none_leads : found ≡ None → CallLeads m n p goal hd first behind Turn.Back
    none_leads none eb qv a rest work below g e c css pr sw s k ea ct go enough few ty ts et es =
        let seen = d.seen qv a rest work below g e c css pr in
        let same : call ≡ record { goal = goal; head = hd; first = d.looked; key = d.key; place = p; behind = m.branch.goals } = d.is ∙ ap
        (λ o. record { goal = goal; head = hd; first = d.looked; key = d.key; place = p; behind = o }) (sym eb) in
        let f = found_by qv m b x a rest work below g p goal hd first e c css pr d.looked d.key seen found (subst (λ y. IsApart n y found) same apart) in
        elim (seen.goal_is enough) [
          | inl q ↦ some_tries Lack [] (et ∙ ap (tries (all_clauses css) e work (length below)) q)
              (lacks_on qv Turn.Back n go enough (all_clauses css) s k below ea (es ∙ ap (λ l. l ++ below)
              (et ∙ ap (tries (all_clauses css) e work (length below)) q)))
          | inr q ↦
              no_tries
              (et ∙ ap (tries (all_clauses css) e work (length below)) q ∙ none_left qv m b x a rest work below g p goal hd first e c css pr d.looked d.key seen found f none)
              refl
              (none_back qv m b x a rest work below g p goal hd first e c css pr d.looked d.key seen found f s
              (es ∙ ap (λ l. l ++ below) (et ∙ ap (tries (all_clauses css) e work (length below)) q)) ct none)
              (bank_written m b x g.above.done.stands qv.arity sw)
        ]

    pub some_leads : (one : Candidate) → found ≡ Some one → (r : Machine) (turn : Turn) →
        ((qv : Query) (a : Around) (s : State Task) → IsTrying qv n a call one s → StandsWritten n qv.arity → LeadsTo 1 quiet qv turn r s) →
        ((qv : Query) (a : Around) (s : State Task) → IsTrying qv n a call one s → IsWrittenSearch n qv.arity → IsWrittenSearch r qv.arity) → CallLeads m r p goal hd first behind turn
    some_leads one some r turn leads writes eb qv a rest work below g e c css pr sw s k ea ct go enough few ty ts et es =
        let seen = d.seen qv a rest work below g e c css pr in
        let same : call ≡ record { goal = goal; head = hd; first = d.looked; key = d.key; place = p; behind = m.branch.goals } = d.is ∙ ap
        (λ o. record { goal = goal; head = hd; first = d.looked; key = d.key; place = p; behind = o }) (sym eb) in
        let f = found_by qv m b x a rest work below g p goal hd first e c css pr d.looked d.key seen found (subst (λ y. IsApart n y found) same apart) in
        elim (seen.goal_is enough) [
          | inl q ↦ some_tries Lack [] (et ∙ ap (tries (all_clauses css) e work (length below)) q)
              (lacks_on qv turn r go enough (all_clauses css) s k below ea (es ∙ ap (λ l. l ++ below)
              (et ∙ ap (tries (all_clauses css) e work (length below)) q)))
          | inr q ↦
              (let trying = some_trying qv m b x a rest work below g p goal hd first e c css pr d.looked d.key seen found f s
              (es ∙ ap (λ l. l ++ below) (et ∙ ap (tries (all_clauses css) e work (length below)) q)) ct one some in
              let now = subst (λ y. IsTrying qv n a y one s) (sym same) trying in
              let wn = bank_written m b x g.above.done.stands qv.arity sw in
              let some_task = some_left qv m b x a rest work below g p goal hd first e c css pr d.looked d.key seen found f one some in
              some_tries some_task.0 some_task.1 (et ∙ ap (tries (all_clauses css) e work (length below)) q ∙ some_task.2)
              (leads_with (WrittenBehind turn r qv.arity) (written_behind turn r qv.arity (writes qv a s now wn)) quiet qv turn r go
              (look unit_limit enough (all_clauses css)) s (leads qv a s now wn.at_work k ea go enough few (all_clauses css) ty)))
        ]

-- the same where the machine is known to have grown in its bank alone
module _ (m n : Machine) (o : OnlyBank m n) (p : Place) (goal : TermId) (hd : Head) (first : Option TermId) (behind : Option ℕ) (call : Call)
    (lk : IsLookedAs m n (plain_call p goal hd behind) first (Some call)) (found : Option Candidate) (apart : IsApart n call found) where
  looked_on : IsLookedAs m (with_bank m n.bank) (plain_call p goal hd behind) first (Some call)
  looked_on = subst (λ y. IsLookedAs m y (plain_call p goal hd behind) first (Some call)) o.same lk

  apart_on : IsApart (with_bank m n.bank) call found
  apart_on = subst (λ y. IsApart y call found) o.same apart

  pub none_on : found ≡ None → CallLeads m n p goal hd first behind Turn.Back
  none_on none = subst (λ y. CallLeads m y p goal hd first behind Turn.Back) (sym o.same) (none_leads m n.bank o.bank p goal hd first behind call looked_on found apart_on none)

  pub some_on : (one : Candidate) → found ≡ Some one → (r : Machine) (turn : Turn) →
      ((qv : Query) (a : Around) (s : State Task) → IsTrying qv n a call one s → StandsWritten n qv.arity → LeadsTo 1 quiet qv turn r s) →
      ((qv : Query) (a : Around) (s : State Task) → IsTrying qv n a call one s → IsWrittenSearch n qv.arity → IsWrittenSearch r qv.arity) → CallLeads m r p goal hd first behind turn
  some_on one some r turn leads writes =
      some_leads m n.bank o.bank p goal hd first behind call looked_on found apart_on one some r turn
      (subst (λ y. (qv : Query) (a : Around) (s : State Task) → IsTrying qv y a call one s → StandsWritten y qv.arity → LeadsTo 1 quiet qv turn r s) o.same leads)
      (subst (λ y. (qv : Query) (a : Around) (s : State Task) → IsTrying qv y a call one s → IsWrittenSearch y qv.arity → IsWrittenSearch r qv.arity) o.same writes)
