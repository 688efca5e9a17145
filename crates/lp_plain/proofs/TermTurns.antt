-- A turn on a goal that is known at run time: looked at, and then as what it is.
use Rattle.std.proofs.Common.{◌≡◌, ℕ, List, sym, subst, Option, Some}
use Rattle.lp_standard.specs.Connectives.{connective_of}
use Rattle.lp_term.specs.Nodes.{tree}
use Rattle.lp_term.specs.declared.node.TermId.{TermId}
use Rattle.lp_model.specs.Branch.{Branch, Task}
use Rattle.lp_model.specs.Flat.{Clause}
use Rattle.lp_model.specs.Connected.{IsConnectiveIn, connective_in}
use Rattle.lp_model.specs.declared.connective.Connective.{Connective}
use Rattle.lp_model.specs.Skeleton.{State}
use Rattle.lp_plain.specs.declared.frame.Place.{Place}
use Rattle.lp_plain.specs.declared.machine.Machine.{Machine}
use Rattle.lp_plain.specs.declared.outcome.Turn.{Turn}
use Rattle.lp_plain.specs.Apart.{IsApart}
use Rattle.lp_plain.specs.AtRunTime.{IsAtLooked, IsAtTerm}
use Rattle.lp_plain.specs.Calling.{LeadsOver}
use Rattle.lp_plain.specs.Entries.{Around}
use Rattle.lp_plain.specs.HeadLooks.{LooksAt, OnlyBank}
use Rattle.lp_plain.specs.Moving.{BindsNone, IsRunning, PutsWith, Query, quiet}
use Rattle.lp_plain.specs.Taking.{IsApartForm, TakesKnown}
use Rattle.lp_plain.specs.WrittenSearch.{IsShutIn, IsWrittenSearch}
use Rattle.lp_plain.proofs.FormMoves.{form_leads}
use Rattle.lp_plain.proofs.LookedOn.{closing_on, looked_on, running_on}

module _ (qv : Query) (m n : Machine) (b : OnlyBank m n) (a : Around) (raw : Branch) (s : State Task) (h : IsRunning qv m a raw s) (p : Place)
    (t u : TermId) (o : Option ℕ) (at : IsAtTerm m a p t o raw) (l : LooksAt m n t (Some u)) where
  abbrev now : IsRunning qv n a raw s
  now = running_on m n b qv a raw s h p at.place

  looked : IsAtLooked n now.closing a p u o raw
  looked = subst (λ z. IsAtLooked n z a p u o raw) (sym (closing_on m n b qv a raw s h p at.place)) (looked_on m n b qv a raw s h p at.place t u o l at)

  pub connective_turn : (q : Machine) (k : Connective) → connective_of (tree n.bank u.0) ≡ connective_in n.bank k → IsConnectiveIn n.bank k →
      IsApartForm k → (turn : Turn) → IsApart turn n.counts q.counts →
      (turn ≡ Turn.On → TakesKnown n q p k o) → (turn ≡ Turn.On → BindsNone n q) → (turn ≡ Turn.On → PutsWith n q) →
      (turn ≡ Turn.On → IsShutIn n.bank k → IsWrittenSearch q qv.arity) → (P : List Clause) → LeadsOver 2 quiet qv turn q s P
  connective_turn q = form_leads qv n q a raw s now p u o looked

  -- any other goal, by what the turn says of it
  pub atom_turn : (X : Type 0) → ((h : IsRunning qv n a raw s) → IsAtLooked n h.closing a p u o raw → X) → X
  atom_turn X f = f now looked
