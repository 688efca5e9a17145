-- The note of an atom is what the definition's next move tells first.
use Rattle.std.proofs.Common.{◌≡◌, ℕ, suc, ◌<◌, List, length, refl, sym, ap, inl, inr, ◌∙◌, subst, arith, Bool, Option, Some}
use Rattle.lp_calculus.specs.Term.{Term}
use Rattle.lp_standard.specs.Numbers as number
use Rattle.lp_term.specs.Nodes.{tree}
use Rattle.lp_term.specs.declared.node.TermId.{TermId}
use Rattle.lp_model.specs.Branch.{Answer, Branch, Go, Task}
use Rattle.lp_model.specs.Flat.{Clause}
use Rattle.lp_model.specs.Look.{head_normal}
use Rattle.lp_model.specs.Search.{look}
use Rattle.lp_model.specs.Skeleton.{GoalName, GoalNote, Inner, Move, Note, State, Takes, View, back, move, move_at, move_view, named}
use Rattle.lp_model.specs.Unify.{unit_limit}
use Rattle.lp_plain.specs.declared.form.Form.{Form}
use Rattle.lp_plain.specs.declared.form.Form.TheVariants as form
use Rattle.lp_plain.specs.declared.machine.Machine.{Machine}
use Rattle.lp_plain.specs.declared.frame.Place.{Place}
use Rattle.lp_plain.specs.AtRunTime.{IsAtLooked, IsAtomForm}
use Rattle.lp_plain.specs.Cuts.{one_step}
use Rattle.lp_plain.specs.Entries.{Around}
use Rattle.lp_plain.specs.Forms.{order_number}
use Rattle.lp_plain.specs.Hearing.{form_name}
use Rattle.lp_plain.specs.Moving.{IsRunning, IsWaiting, KeepsSearch, Query}
use Rattle.lp_plain.specs.inner.Beginning.{IsToldFirst, TellsFirst}
use Rattle.lp_plain.proofs.AtomMoves.{by_seen, f, flexible_view, named_view, other_view}
use Rattle.lp_plain.proofs.AtomTurns.{left, steps_are}
use Rattle.lp_plain.proofs.CallArm.{call_seen}
use Rattle.lp_plain.proofs.FrontGoals.{front_waits}
use Rattle.lp_plain.proofs.QuietMoves.{by_lost}

waiting_tells : (n : Note) (v : Move Task Answer) → IsWaiting v → TellsFirst n v
waiting_tells n v h = subst (TellsFirst n) (sym h.2) tt

module _ (qv : Query) (m c : Machine) (a : Around) (raw : Branch) (s : State Task) (h : IsRunning qv m a raw s) (p : Place) (u : TermId)
    (o : Option ℕ) (at : IsAtLooked m h.closing a p u o raw) (k : KeepsSearch m c o) (ch : c.choices ≡ m.choices)
    (ct : c.counts ≡ one_step m.counts) (there : m.counts.steps < m.counts.limit) where
  module _ (w : ℕ) (ea : s.answers ≡ suc w) (go : (Answer → Bool) → State Task → Inner) (enough : ℕ) (P : List Clause) where
    abbrev see : ℕ → Task → View Task Answer
    see = look unit_limit enough P

    -- a step is left
    taken : (name : GoalName) (ts : List Task) → see (length h.rest) (Go h.at_work) ≡ Takes name ts → TellsFirst (GoalNote name) (move go see s)
    taken name ts e =
        let l = left qv m c a raw s h p u o at k ch ct there in
        let moved : move go see s ≡ move_view go (suc l) w s.given s.rows s.row s.lost h.rest (Takes name ts) =
        (λ i. move_at go see (steps_are qv m c a raw s h p u o at k ch ct there i) (ea i) s.given s.rows s.row s.lost (h.stack i)) ∙ by_lost go see
        (suc l) w s.given s.rows s.row s.lost (Go h.at_work) h.rest ∙
        ap (move_view go (suc l) w s.given s.rows s.row s.lost h.rest) e in
        subst (TellsFirst (GoalNote name)) (sym moved) (omega arith, back ts h.rest, refl)

    -- by what the definition sees
    seen_tells : (v : Form) → IsAtomForm m.bank (tree m.bank u.0) v → (t : Term) → head_normal enough (f qv m a raw s h p u o at).goal ≡ Some t →
        TellsFirst (GoalNote (form_name v)) (move go see s)
    seen_tells (form.Equal l r) (inl i) t q = taken (named number.Equal) _ (named_view qv m a raw s h p u o at enough P t q number.Equal l r i.0 i.1)
    seen_tells (form.Equal l r) (inr i) t q = absurd (let z = i.1 in cc)
    seen_tells (form.Is l r) (inl i) t q = taken (named number.Is) _ (named_view qv m a raw s h p u o at enough P t q number.Is l r i.0 i.1)
    seen_tells (form.Is l r) (inr i) t q = absurd (let z = i.1 in cc)
    seen_tells (form.Order v l r) (inl i) t q = taken (named (order_number v)) _ (named_view qv m a raw s h p u o at enough P t q (order_number v) l r i.0 i.1)
    seen_tells (form.Order v l r) (inr i) t q = absurd (let z = i.1 in cc)
    seen_tells (form.Call hd first) i t q =
        let r = call_seen qv m c a raw s h p u o at k ch ct there hd first i enough P t q in
        subst (λ n. TellsFirst (GoalNote n) (move go see s)) r.named (taken r.name _ r.view)
    seen_tells form.Flexible (inl i) t q = taken _ _ (flexible_view qv m a raw s h p u o at enough P t q i.1.0 i.1.1 i.0 i.1.2)
    seen_tells form.Flexible (inr i) t q = absurd (let z = i.1 in cc)
    seen_tells form.Other i t q = taken _ _ (other_view qv m a raw s h p u o at enough P t q i)

  pub atom_tells : (v : Form) → IsAtomForm m.bank (tree m.bank u.0) v → IsToldFirst s (GoalNote (form_name v))
  atom_tells v i w ea go enough P =
      by_seen qv m a raw s h p u o at enough P (TellsFirst (GoalNote (form_name v)) (move go (look unit_limit enough P) s))
      (λ e. waiting_tells (GoalNote (form_name v)) (move go (look unit_limit enough P) s) (front_waits qv m a raw s h p at.value at.rest (f qv m a raw s h p u o at) enough P w ea go e))
      (λ t q. seen_tells w ea go enough P v i t q)
