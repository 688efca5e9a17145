-- The turn of a call, over the program of the search.
use Rattle.std.proofs.Common.{◌≡◌, ℕ, ◌<◌, length, subst, Option, None, Some}
use Rattle.lp_term.specs.Nodes.{tree}
use Rattle.lp_term.specs.declared.node.TermId.{TermId}
use Rattle.lp_model.specs.Branch.{Branch, Task}
use Rattle.lp_model.specs.Skeleton.{GoalNote, State}
use Rattle.lp_plain.specs.declared.form.Form.TheVariants as form
use Rattle.lp_plain.specs.declared.frame.Place.{Place}
use Rattle.lp_plain.specs.declared.head.Head.{Head}
use Rattle.lp_plain.specs.declared.machine.Machine.{Machine}
use Rattle.lp_plain.specs.declared.outcome.Turn.{Turn}
use Rattle.lp_plain.specs.AtRunTime.{IsAtLooked, IsAtomForm}
use Rattle.lp_plain.specs.Calling.{CallLeads, IsFirstIn, LeadsOf}
use Rattle.lp_plain.specs.Cuts.{one_step}
use Rattle.lp_plain.specs.Entries.{Around}
use Rattle.lp_plain.specs.Moving.{IsRunning, KeepsSearch, Query, taking}
use Rattle.lp_plain.specs.Hearing.{form_name}
use Rattle.lp_plain.proofs.CallArm.{call_leads}

first_inside : (k : ℕ) (hd : Head) (first : Option TermId) → IsFirstIn k (form.Call hd first) → (v : TermId) → first ≡ Some v → v.0 < k
first_inside k hd None h v e = absurd (cc)
first_inside k hd (Some u) h v e = let z : u ≡ v = cc in subst (λ (x : TermId). x.0 < k) z h

module _ (qv : Query) (m : Machine) (a : Around) (raw : Branch) (s : State Task) (h : IsRunning qv m a raw s) (p : Place) (u : TermId) (o : Option ℕ)
    (at : IsAtLooked m h.closing a p u o raw) (n : Machine) (turn : Turn) where
  pub call_turn : (c : Machine) (k : KeepsSearch m c o) (ch : c.choices ≡ m.choices) (ct : c.counts ≡ one_step m.counts)
      (there : m.counts.steps < m.counts.limit) (hd : Head) (first : Option TermId) → IsAtomForm m.bank (tree m.bank u.0) (form.Call hd first) →
      IsFirstIn (length m.bank.terms) (form.Call hd first) → CallLeads c n p u hd first o turn → c.branch.goals ≡ o → LeadsOf (taking (GoalNote (form_name (form.Call hd first)))) m n qv turn s
  call_turn c k ch ct there hd first i inside leads front = call_leads qv m c a raw s h p u o at k ch ct there hd first i (first_inside (length m.bank.terms) hd first inside) n turn leads front
