-- A call that is at hand: its step is taken, and its clauses are to be tried.
use Rattle.std.specs.Prelude.{◌≡◌, ◌⊎◌, Bool, ◌<◌, ◌++◌, ℕ, zero, suc, List, length, Option, None, Some, ◌∷◌, []}
use Rattle.lp_calculus.specs.Fill.{Within}
use Rattle.lp_calculus.specs.Spine.{arguments, head_of}
use Rattle.lp_lemmas.specs.Each.{EachOf}
use Rattle.lp_term.specs.Nodes.{Nodes, Extends, tree}
use Rattle.lp_term.specs.declared.node.TermId.{TermId}
use Rattle.lp_model.specs.Branch.{Answer, Branch, Entry, Task}
use Rattle.lp_model.specs.Flat.{Atomic, Clause, Clauses}
use Rattle.lp_model.specs.Pair.{Closing, closed}
use Rattle.lp_model.specs.Search.{goal_looked, key_of, look, tries}
use Rattle.lp_model.specs.Skeleton.{Goes, Inner, State, View, move}
use Rattle.lp_model.specs.Unify.{unit_limit}
use Rattle.lp_model.specs.declared.ending.Ending.TheVariants.{Deep}
use Rattle.lp_pattern.specs.Putting.{Known}
use Rattle.lp_plain.specs.declared.choice.Call.{Call}
use Rattle.lp_plain.specs.declared.form.Form.{Form}
use Rattle.lp_plain.specs.declared.form.Form.TheVariants as form
use Rattle.lp_plain.specs.declared.frame.Place.{Place}
use Rattle.lp_plain.specs.declared.head.Head.{Head}
use Rattle.lp_plain.specs.declared.head.Key.{Key}
use Rattle.lp_plain.specs.declared.machine.Machine.{Machine}
use Rattle.lp_plain.specs.declared.outcome.Turn.{Turn}
use Rattle.lp_plain.specs.Assuming.{IsPlaceAt, head_term, lists_of}
use Rattle.lp_plain.specs.AtRunTime.{IsAtLooked, IsAtTerm, IsAtomForm}
use Rattle.lp_plain.specs.Entries.{Around, entry_at}
use Rattle.lp_plain.specs.Forms.{IsFirst, StandsForm}
use Rattle.lp_plain.specs.HeadLooks.{LooksAt, with_bank}
use Rattle.lp_plain.specs.Heads.{IsKey}
use Rattle.lp_plain.specs.Moving.{AreFew, HasNoVariable, IsBack, IsCounted, IsGoingOn, IsMoved, IsPlaceUnder, IsRunning, IsWaiting, Query, Tally, both, quiet}
use Rattle.lp_plain.specs.Reached.{HasSmallGoal}
use Rattle.lp_plain.specs.Resuming.{AllOfAssumed, AllOfClause, AllTerms}
use Rattle.lp_plain.specs.Trials.{IsCallHead}
use Rattle.lp_plain.specs.TypedStates.{IsTypedOver}
use Rattle.lp_plain.specs.Trying.{AreApplied, AreOfProgram, HasArity, HasProgram, all_clauses, head_in}
use Rattle.lp_plain.specs.Within.{IsKeyIn}
use Rattle.lp_plain.specs.WrittenGoals.{IsProgramClause}
use Rattle.lp_plain.specs.WrittenSearch.{IsWrittenSearch}

-- clauses with heads that name their clauses
abbrev pub HaveHeads : List Clause → Type 0
HaveHeads cs = EachOf (λ c. IsCallHead (head_in c)) cs

-- the atom at hand: its head and its first argument; its entry in the definition's branch; and what is known of it
pub record IsAtCall (qv : Query) (m : Machine) (a : Around) (p : Place) (goal : TermId) (head : Head) (first : Option TermId) (z : Closing) (levels : ℕ → ℕ) (next : ℕ) (e : Entry) : Type 0 where
  pub place : IsPlaceAt (lists_of m) a p
  pub at_place : IsPlaceUnder z (entry_at a p (Atomic (tree m.bank goal.0))) e
  pub within : goal.0 < length m.bank.terms
  pub head_is : head_term (head_of (tree m.bank goal.0)) ≡ Some head
  pub called : IsCallHead (head_of (tree m.bank goal.0))
  pub arity : HasArity qv.arity (head_of (tree m.bank goal.0))
  pub first_is : IsFirst m.bank (arguments (tree m.bank goal.0)) first
  pub first_within : (u : TermId) → first ≡ Some u → u.0 < length m.bank.terms
  pub known : Within (Known levels next) 0 (closed z (tree m.bank goal.0))
  pub assumed_known : AllOfAssumed (λ i t. Within (Known levels next) i (closed z t)) (a.assumed p.assumed)
  pub written_known : AllTerms (λ i t. Within (Known levels next) i (closed z t)) 0 (a.written p.standing).terms
  pub heads : HaveHeads (a.assumed p.assumed)
  pub applied : AreApplied qv.arity (a.assumed p.assumed)

-- the program's clauses stand in the table, however much the bank grows, and are written; no logic variable stands in them
pub record IsProgramIn (m : Machine) (arity : ℕ → ℕ) (css : List Clauses) : Type 0 where
  pub has : (b : Nodes) → Extends m.bank b → HasProgram (with_bank m b) css
  pub heads : AreOfProgram arity (all_clauses css)
  pub written : EachOf (IsProgramClause arity) (all_clauses css)
  pub known : EachOf (AllOfClause HasNoVariable 0) (all_clauses css)

-- the call with its first argument as it was looked at, if it has one, or none where it is too deep
abbrev pub IsLookedAs : (old new : Machine) → Call → (first : Option TermId) → Option Call → Type 0
IsLookedAs m n call None None = ⊥
IsLookedAs m n call None (Some made) = made ≡ call
IsLookedAs m n call (Some u) None = LooksAt m n u None
IsLookedAs m n call (Some u) (Some made) =
    (v : TermId) × (key : Option Key) × (made ≡ record call { first = Some v; key = key }) × LooksAt m n u (Some v) × IsKey n.bank key
    (key_of (tree n.bank v.0)) × (v.0 < length n.bank.terms → IsKeyIn (length n.bank.terms) key)

-- where the turn is too deep, fewer than a million steps are allowed for each look, and the expressions of the goal in front are small
abbrev pub AreFewAt : Turn → (enough : ℕ) → List Task → Type 0
AreFewAt turn enough ts = turn ≡ Turn.Ended Deep → (enough < 1000000) × HasSmallGoal ts

-- a turn is at most so many moves of the definition more, the last of which is this turn's, and W holds behind it; or it waits
abbrev pub LeadsWith : (W : Type 0) → ℕ → Tally → Query → Turn → (new : Machine) → (go : (Answer → Bool) → State Task → Inner) → (ℕ → Task → View Task Answer) → (before : State Task) → Type 0
LeadsWith W zero x qv turn n go see s = (IsMoved x qv turn n (move go see s) s × W) ⊎ IsWaiting (move go see s)
LeadsWith W (suc j) x qv turn n go see s =
    (IsMoved x qv turn n (move go see s) s × W) ⊎ (IsWaiting (move go see s) ⊎ ((y : Tally) × (z : Tally) × (t : State Task) × (x ≡ both y z) ×
    (move go see s ≡ Goes y.steps y.notes t) × (t.answers ≡ s.answers) × (t.given ≡ s.given) × LeadsWith W j z qv turn n go see t))

-- all in the search is written behind a turn that does not end it
abbrev pub WrittenBehind : Turn → (new : Machine) → (arity : ℕ → ℕ) → Type 0
WrittenBehind Turn.On n ar = IsWrittenSearch n ar
WrittenBehind Turn.Back n ar = IsWrittenSearch n ar
WrittenBehind Turn.Answered n ar = IsWrittenSearch n ar
WrittenBehind (Turn.Ended e) n ar = Unit {0}

-- behind its step the call leads there: the tries that the definition leaves of it come to this turn, in at most two moves; or there is none
pub data LeavesTries (qv : Query) (turn : Turn) (n : Machine) (go : (Answer → Bool) → State Task → Inner) (see : ℕ → Task → View Task Answer) (s : State Task) (ts : List Task) : Type 0 where
  some_tries : (t : Task) (rest : List Task) → ts ≡ t ∷ rest → LeadsWith (WrittenBehind turn n qv.arity) 1 quiet qv turn n go see s → LeavesTries qv turn n go see s ts
  no_tries : ts ≡ [] → turn ≡ Turn.Back → IsBack qv n s → IsWrittenSearch n qv.arity → LeavesTries qv turn n go see s ts

abbrev pub CallLeads : (old new : Machine) → Place → (goal : TermId) → Head → (first : Option TermId) → (behind : Option ℕ) → Turn → Type 0
CallLeads m n p goal head first behind turn =
    m.branch.goals ≡ behind → (qv : Query) (a : Around) (rest work : Branch) (below : List Task) (g : IsGoingOn qv m a rest work below) (e : Entry) →
    IsAtCall qv m a p goal head first g.closing g.levels rest.next e → (css : List Clauses) → IsProgramIn m qv.arity css →
    IsWrittenSearch m qv.arity → (s : State Task) (k : ℕ) → s.answers ≡ suc k → IsCounted m s → (go : (Answer → Bool) → State Task → Inner)
    (enough : ℕ) → AreFew turn enough → IsTypedOver qv.arity enough (all_clauses css) s →
    (ts : List Task) → ts ≡ tries (all_clauses css) e work (length below) (goal_looked enough (closed g.closing (tree m.bank goal.0))) → s.stack ≡ ts ++ below → LeavesTries qv turn n go (look unit_limit enough (all_clauses css)) s ts

-- so over one program, for a turn that may be too deep
abbrev pub LeadsOver : ℕ → Tally → Query → Turn → (new : Machine) → (before : State Task) → List Clause → Type 0
LeadsOver j x qv turn n s P = (k : ℕ) → s.answers ≡ suc k → (go : (Answer → Bool) → State Task → Inner) (enough : ℕ) → AreFewAt turn enough s.stack →
    IsTypedOver qv.arity enough P s → LeadsWith (WrittenBehind turn n qv.arity) j x qv turn n go (look unit_limit enough P) s

-- the first argument of a call is in the bank
abbrev pub IsFirstIn : (terms : ℕ) → Form → Type 0
IsFirstIn k (form.Call hd (Some u)) = u.0 < k
IsFirstIn k f = Unit {0}

-- over the clauses of the search's program, where all in it is written, this leads to the turn in three moves of the definition's search at most
abbrev pub LeadsOf : Tally → (old new : Machine) → Query → Turn → (before : State Task) → Type 0
LeadsOf x m n qv turn s = (css : List Clauses) → IsProgramIn m qv.arity css → IsWrittenSearch m qv.arity → LeadsOver 2 x qv turn n s (all_clauses css)

-- so much was heard, and with it this was told
abbrev pub TellsOn : (Heard Told : Tally → Type 0) → Type 0
TellsOn Heard Told = (x : Tally) × Heard x × Told x

-- the turn of an atom, as it was looked at
abbrev pub AtomTurns : (Heard : Tally → Type 0) → (old new : Machine) → Place → (goal : TermId) → Form → (behind : Option ℕ) → Turn → Type 0
AtomTurns Heard m n p goal f behind turn =
    (qv : Query) (a : Around) (raw : Branch) (s : State Task) (h : IsRunning qv m a raw s) → IsAtLooked m h.closing a p goal behind raw → IsAtomForm
    m.bank (tree m.bank goal.0) f → StandsForm (length m.bank.terms) f → IsFirstIn (length m.bank.terms) f →
    TellsOn Heard (λ x. LeadsOf x m n qv turn s)

-- that of a goal that is known at run time
abbrev pub TermTurns : (Heard : Tally → Type 0) → (old new : Machine) → Place → (term : TermId) → (behind : Option ℕ) → Turn → Type 0
TermTurns Heard m n p term behind turn = (qv : Query) (a : Around) (raw : Branch) (s : State Task) → IsRunning qv m a raw s → IsAtTerm m a p term behind raw → TellsOn Heard (λ x. LeadsOf x m n qv turn s)
