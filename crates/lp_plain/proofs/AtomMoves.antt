-- An atomic goal that is known at run time: what the definition's look tells of it, and the turns that unify nothing.
use Rattle.std.proofs.Common.{◌≡◌, ◌⊎◌, ℕ, suc, ◌≤◌, List, [], ◌∷◌, length, map, refl, sym, ap, inl, inr, ◌∙◌, subst, arith, Bool, Option, None, Some}
use Rattle.lp_calculus.specs.Fill.{Within}
use Rattle.lp_calculus.specs.Types.{Ty, instance}
use Rattle.lp_calculus.specs.Term.{Term, atom, abs, constant, logic}
use Rattle.lp_calculus.specs.Spine.{arguments, head_of}
use Rattle.lp_standard.specs.Connectives.{connective_of}
use Rattle.lp_standard.specs.Connectives as connective
use Rattle.lp_term.specs.Nodes.{tree}
use Rattle.lp_term.specs.declared.node.TermId.{TermId}
use Rattle.lp_model.specs.Branch.{Answer, Branch, Go, Stop, Task}
use Rattle.lp_model.specs.Flat.{Clause}
use Rattle.lp_model.specs.Look.{head_normal}
use Rattle.lp_model.specs.Pair.{closed}
use Rattle.lp_model.specs.Search.{look, look_atom, look_constant, look_form, look_normal, with_goals}
use Rattle.lp_model.specs.Skeleton.{GoalName, Inner, State, Takes, View, move, move_at, move_view, named, variable}
use Rattle.lp_model.specs.Unify.{unit_limit}
use Rattle.lp_model.specs.declared.ending.Ending.TheVariants.{Flexible, Steps}
use Rattle.lp_pattern.specs.Putting.{Known}
use Rattle.lp_pattern.specs.Seen.{IsEndedHead}
use Rattle.lp_plain.specs.declared.form.Form.{Form}
use Rattle.lp_plain.specs.declared.form.Form.TheVariants as form
use Rattle.lp_plain.specs.declared.frame.Place.{Place}
use Rattle.lp_plain.specs.declared.machine.Machine.{Machine}
use Rattle.lp_plain.specs.declared.outcome.Turn.{Turn}
use Rattle.lp_plain.specs.AtRunTime.{IsAtLooked, IsAtomForm, IsNoForm}
use Rattle.lp_plain.specs.Entries.{Around}
use Rattle.lp_plain.specs.Forms.{IsRelation, is_named}
use Rattle.lp_plain.specs.Moving.{IsMoved, IsRunning, Leads, Query, Tally, quiet}
use Rattle.lp_plain.specs.Trials.{IsCallHead}
use Rattle.lp_plain.proofs.AtomViews.{atom_stays, atom_taken, constant_closed, free_closed, no_form_stays, no_form_taken, two_closed, unnamed_closed, unnamed_taken}
use Rattle.lp_plain.proofs.ClosedForms.{form_under}
use Rattle.lp_plain.proofs.FrontGoals.{IsFront, front_look, front_of, front_waits}
use Rattle.lp_plain.proofs.HeadLooks.{head_closes}
use Rattle.lp_plain.proofs.KnownForms.{normal_within}
use Rattle.lp_plain.proofs.QuietMoves.{by_lost}
use Rattle.lp_plain.proofs.SeenGoals.{IsAbs, seen_goal}
use Rattle.lp_plain.proofs.TrialParts.{AllAre, arguments_written}
use Rattle.lp_plain.proofs.Trials.{arguments_closed}

module _ (qv : Query) (m : Machine) (a : Around) (raw : Branch) (s : State Task) (h : IsRunning qv m a raw s) (p : Place) (u : TermId) (o : Option ℕ) (at : IsAtLooked m h.closing a p u o raw) where
  abbrev pub x : Term
  x = tree m.bank u.0

  abbrev pub f : IsFront qv m a raw s h p at.value at.rest
  f = front_of qv m a raw s h p at.value at.rest at.goals

  abbrev pub behind : Branch
  behind = with_goals h.at_work f.rest

  module _ (enough : ℕ) (P : List Clause) where
    abbrev pub see : ℕ → Task → View Task Answer
    see = look unit_limit enough P

    abbrev pub seen : View Task Answer
    seen = see (length h.rest) (Go h.at_work)

    -- the term that the definition sees
    module _ (t : Term) (q : head_normal enough f.goal ≡ Some t) where
      pub looked : seen ≡ look_form unit_limit enough P (length h.rest) f.first behind t (connective_of t)
      looked = front_look qv m a raw s h p at.value at.rest f enough P ∙ ap (look_normal unit_limit enough P (length h.rest) f.first behind) q

      pub same_or_abs : ((t ≡ closed h.closing x) × IsEndedHead m.bindings x) ⊎ (IsAbs x × IsAbs t)
      same_or_abs = seen_goal h.closing at.before at.value f.goal at.heads f.heads m.bank m.bindings h.reading.reading 1000000 enough t q x at.ended at.looked

      -- an abstraction has no head
      no_abs : (c : Term) → head_of x ≡ c → IsCallHead c → IsAbs x → ⊥
      no_abs c e k i = subst IsCallHead (sym e ∙ ap head_of i.1) k

      no_abs_variable : (i l : ℕ) → head_of x ≡ atom (logic i l) → IsAbs x → ⊥
      no_abs_variable i l e k = let z : atom (logic i l) ≡ abs k.0 = sym e ∙ ap head_of k.1 in cc

      atomic : t ≡ closed h.closing x → IsEndedHead m.bindings x → connective_of x ≡ connective.Atomic → connective_of t ≡ connective.Atomic
      atomic y i e = ap connective_of y ∙ atom_stays h.closing (form_under m.bank m.bindings h.closing h.reading.reading x i) e

      -- a call
      pub called_same : (c : Term) → connective_of x ≡ connective.Atomic → head_of x ≡ c → IsCallHead c →
          (connective_of t ≡ connective.Atomic) × (head_of t ≡ closed h.closing c) × (arguments t ≡ map (closed h.closing) (arguments x))
      called_same c e i k =
          elim same_or_abs [
            | inl y ↦ (
              atomic y.0 y.1 e,
              ap head_of y.0 ∙ head_closes h.closing x (subst IsCallHead (sym i) k) ∙ ap (closed h.closing) i,
              ap arguments y.0 ∙ arguments_closed h.closing x [] (subst IsCallHead (sym i) k),
            )
            | inr y ↦ absurd (no_abs c i k y.0)
          ]

      -- a constant on two terms
      pub named_same : (c : ℕ) (l r : TermId) → connective_of x ≡ connective.Atomic → IsRelation m.bank x c l r →
          (connective_of t ≡ connective.Atomic) × ((ts : List Ty) × (head_of t ≡ atom (constant c ts))) × (arguments t ≡ closed h.closing (tree m.bank l.0) ∷ closed h.closing (tree m.bank r.0) ∷ [])
      named_same c l r e i =
          elim same_or_abs [
            | inl y ↦ (
              atomic y.0 y.1 e,
              (map (instance h.closing.types) i.0, ap head_of y.0 ∙ constant_closed h.closing x c i.0 i.1),
              ap arguments y.0 ∙ two_closed h.closing x (tree m.bank l.0) (tree m.bank r.0) (subst IsCallHead (sym i.1) tt) i.2,
            )
            | inr y ↦ absurd (no_abs (atom (constant c i.0)) i.1 tt y.0)
          ]

      pub named_view : (c : ℕ) (l r : TermId) → connective_of x ≡ connective.Atomic → IsRelation m.bank x c l r →
          seen ≡ Takes (named c) (look_constant unit_limit enough P (length h.rest) f.first behind t c (closed h.closing (tree m.bank l.0) ∷ closed h.closing (tree m.bank r.0) ∷ []))
      named_view c l r e i =
          let g = named_same c l r e i in
          looked ∙ ap (look_form unit_limit enough P (length h.rest) f.first behind t) g.0 ∙ ap (look_atom unit_limit enough P (length h.rest) f.first behind t) g.1.1 ∙
          ap (λ us. Takes (named c) (look_constant unit_limit enough P (length h.rest) f.first behind t c us)) g.2

      -- its arguments are known
      pub named_known : (c : ℕ) (l r : TermId) → connective_of x ≡ connective.Atomic → IsRelation m.bank x c l r →
          Within (Known h.levels raw.next) 0 (closed h.closing (tree m.bank l.0)) × Within (Known h.levels raw.next) 0 (closed h.closing (tree m.bank r.0))
      named_known c l r e i =
          let w = normal_within (Known h.levels raw.next) 0 enough f.goal t q f.goal_known in
          let k = subst (AllAre (Within (Known h.levels raw.next) 0)) (named_same c l r e i).2 (arguments_written (Known h.levels raw.next) 0 t [] w tt) in
          (k.0, k.1.0)

      pub flexible_view : (i l : ℕ) → connective_of x ≡ connective.Atomic → head_of x ≡ atom (logic i l) → seen ≡ Takes variable (Stop Flexible ∷ [])
      flexible_view i l e q =
          elim same_or_abs [
            | inl y ↦
                looked ∙ ap (look_form unit_limit enough P (length h.rest) f.first behind t) (atomic y.0 y.1 e) ∙
                ap (look_atom unit_limit enough P (length h.rest) f.first behind t) (ap head_of y.0 ∙ free_closed m.bank m.bindings h.closing h.reading.reading x i l q y.1)
            | inr y ↦ absurd (no_abs_variable i l q y.0)
          ]

      abs_view : IsAbs t → seen ≡ Takes variable []
      abs_view i = looked ∙ ap (λ y. look_form unit_limit enough P (length h.rest) f.first behind y (connective_of y)) i.1

      pub other_view : IsAtomForm m.bank x form.Other → seen ≡ Takes variable []
      other_view e =
          elim same_or_abs [
            | inl y ↦ elim e [
              | inl k ↦
                  looked ∙ ap (look_form unit_limit enough P (length h.rest) f.first behind t) (atomic y.0 y.1 k.0) ∙
                  unnamed_taken unit_limit enough P (length h.rest) f.first behind t (head_of t)
                  (ap (λ z. is_named (head_of z)) y.0 ∙ unnamed_closed m.bank m.bindings h.closing h.reading.reading x k.1 y.1)
              | inr k ↦
                  looked ∙ no_form_taken unit_limit enough P (length h.rest) f.first behind t (connective_of t)
                  (subst (λ z. IsNoForm (connective_of z)) (sym y.0) (no_form_stays h.closing (form_under m.bank m.bindings h.closing h.reading.reading x y.1) k.0))
            ]
            | inr y ↦ abs_view y.1
          ]

      some_view : (c : Form) → IsAtomForm m.bank x c → (name : GoalName) × (ts : List Task) × (seen ≡ Takes name ts)
      some_view c e =
          elim same_or_abs [
            | inl y ↦ elim e [
              | inl k ↦
                  let z = atom_taken unit_limit enough P (length h.rest) f.first behind t (head_of t) in
                  (z.0, z.1, looked ∙ ap (look_form unit_limit enough P (length h.rest) f.first behind t) (atomic y.0 y.1 k.0) ∙ z.2)
              | inr k ↦ (
                variable,
                [],
                looked ∙ no_form_taken unit_limit enough P (length h.rest) f.first behind t (connective_of t)
                    (subst (λ z. IsNoForm (connective_of z)) (sym y.0) (no_form_stays h.closing (form_under m.bank m.bindings h.closing h.reading.reading x y.1) k.0)),
              )
            ]
            | inr y ↦ (variable, [], abs_view y.1)
          ]

    -- by what the definition sees
    pub by_seen : (X : Type 0) → (head_normal enough f.goal ≡ None → X) → ((t : Term) → head_normal enough f.goal ≡ Some t → X) → X
    by_seen X k l = go (head_normal enough f.goal) refl
      where
        go : (y : Option Term) → head_normal enough f.goal ≡ y → X
        go None e = k e
        go (Some t) e = l t e

    module _ (n : Machine) (w : ℕ) (ea : s.answers ≡ suc w) (go : (Answer → Bool) → State Task → Inner) where
      pub waits : (turn : Turn) (y : Tally) → head_normal enough f.goal ≡ None → Leads 1 y qv turn n go see s
      waits turn y e = inr (inl (front_waits qv m a raw s h p at.value at.rest f enough P w ea go e))

      -- no step is left
      no_step : (name : GoalName) (ts : List Task) → m.counts.limit ≤ m.counts.steps → seen ≡ Takes name ts → IsMoved quiet qv (Turn.Ended Steps) n (move go see s) s
      no_step name ts l e =
          let none : s.steps ≡ 0 = (let q = h.counted.steps in omega (arith, q, l)) in (
            refl,
            (λ i. move_at go see (none i) (ea i) s.given s.rows s.row s.lost (h.stack i)) ∙ by_lost go see 0 w s.given s.rows s.row s.lost (Go h.at_work) h.rest ∙
                ap (move_view go 0 w s.given s.rows s.row s.lost h.rest) e,
          )

      pub spent_leads : (c : Form) → IsAtomForm m.bank x c → m.counts.limit ≤ m.counts.steps → Leads 1 quiet qv (Turn.Ended Steps) n go see s
      spent_leads c e l = by_seen (Leads 1 quiet qv (Turn.Ended Steps) n go see s) (waits (Turn.Ended Steps) quiet) (λ t q. let v = some_view t q c e in inl (no_step v.0 v.1 l v.2))
