-- A quantified goal that is known at run time, on its value: head reduction leads to the definition's goal.
use Rattle.std.proofs.Common.{◌≡◌, ℕ, suc, ◌<◌, List, [], ◌∷◌, ◌++◌, length, refl, sym, ap, ◌∙◌, subst, arith, Option, Some, add-one}
use Rattle.lp_calculus.specs.Term.{Term, index, atom, abs, app, shift, substitute, eigen, logic}
use Rattle.lp_calculus.specs.Types.{Ty}
use Rattle.lp_calculus.proofs.Commutations.{substitute_shift}
use Rattle.lp_calculus.proofs.Plain.{shift-none}
use Rattle.lp_standard.specs.Connectives.{body_of}
use Rattle.lp_standard.specs.Connectives as connective
use Rattle.lp_term.specs.Nodes.{tree}
use Rattle.lp_term.specs.declared.node.TermId.{TermId}
use Rattle.lp_model.specs.Branch.{Branch, Entry}
use Rattle.lp_model.specs.Flat.{Goal, Atomic, Clause, Written}
use Rattle.lp_model.specs.Search.{look_form}
use Rattle.lp_plain.specs.declared.frame.Place.{Place}
use Rattle.lp_plain.specs.declared.machine.Machine.{Machine}
use Rattle.lp_plain.specs.Apart.{apart}
use Rattle.lp_plain.specs.Entries.{Around, ArePartsOf, GoesOnWith, HeadsTo, IsBehind, IsBranchAt, KeepsGoals, Reads, entry_at, placed}
use Rattle.lp_plain.specs.Opening.{IsNewVariable, IsRaised}
use Rattle.lp_plain.specs.Within.{StandsIn}
use Rattle.lp_pattern.proofs.Keeps.{goes_on_same}
use Rattle.lp_plain.proofs.Frames.{keeps_then, reads_on}
use Rattle.lp_plain.proofs.Growing.{reads_later}

pub shifted_back : (t u : Term) → app t u ≡ substitute u (app (shift 0 1 t) (index 0))
shifted_back t u = λ i. app (sym (substitute_shift u t) i) (sym (shift-none u) i)

-- by one step where the term is an abstraction, else by none
pub applied_body : (t u : Term) → HeadsTo (app t u) (substitute u (body_of t))
applied_body (abs b) u = (1, omega arith, refl)
applied_body (index i) u = (0, omega arith, ap Some (shifted_back (index i) u))
applied_body (atom a) u = (0, omega arith, ap (λ x. Some (app (atom a) x)) (sym (shift-none u)))
applied_body (app t v) u = (0, omega arith, ap Some (shifted_back (app t v) u))

-- in front of the goals behind it
abbrev pub FrontOf : Machine → Machine → Place → (behind : Option ℕ) → (term value : TermId) → Type 0
FrontOf n q p behind s t = (a : Around) (es : List Entry) (v : Term) → StandsIn n → HeadsTo (app (tree n.bank s.0) (tree n.bank t.0)) v → Reads n a
    behind es → GoesOnWith n q a (placed a p (Atomic v ∷ []) ++ es)

one_entry : (v : Term) (A B : List Clause) (w x : Written) (l m j k : ℕ) → A ≡ B → w ≡ x → l ≡ m → j ≡ k → (es : List Entry) →
    record { goal = Atomic v; assumed = A; written = w; level = l; mark = j } ∷ es ≡ record { goal = Atomic v; assumed = B; written = x; level = m; mark = k } ∷ es
one_entry v A B w x l m j k p q r s es i = record { goal = Atomic v; assumed = p i; written = q i; level = r i; mark = s i } ∷ es

module _ (m n q : Machine) (p : Place) (behind : Option ℕ) (s t : TermId) (a : Around) (b : Branch) (st : StandsIn m → StandsIn n) (i : StandsIn m)
    (l : s.0 < length m.bank.terms) (r : IsBehind m a behind b) where
  leads_to : (u : Term) → tree n.bank s.0 ≡ tree m.bank s.0 → tree n.bank t.0 ≡ u → HeadsTo (app (tree n.bank s.0) (tree n.bank t.0)) (substitute u (body_of (tree m.bank s.0)))
  leads_to u e f = subst (λ z. HeadsTo (app z (tree n.bank t.0)) (substitute u (body_of (tree m.bank s.0)))) (sym e)
      (subst (λ z. HeadsTo (app (tree m.bank s.0) z) (substitute u (body_of (tree m.bank s.0)))) (sym f) (applied_body (tree m.bank s.0) u))

  pub for_all_form : (above : Place) → IsRaised m n p above t → FrontOf n q above behind s t → (u k height : ℕ) (P : List Clause) (w : Term) (g : Goal) (T : Ty) →
      ArePartsOf m q a (look_form u k P height (entry_at a p g) b w (connective.ForAll T (body_of (tree m.bank s.0))))
  for_all_form above v f u k height P w g T =
      let z = f a b.goals (substitute (atom (eigen (suc p.level))) (body_of (tree m.bank s.0))) (st i)
      (leads_to (atom (eigen (suc p.level))) (v.grows.bank.same_terms s.0 l) v.eigen_is) (reads_later m n i v.grows a behind b.goals r.goals) in (
        record {
          goals = subst (Reads q a q.branch.goals) (one_entry (substitute (atom (eigen (suc p.level))) (body_of (tree m.bank s.0))) _ _ _ _ _ _ _ _
              (ap a.assumed v.assumed) (ap a.written v.standing) v.level (ap a.mark v.mark) b.goals) z.goals;
          next = z.next ∙ ap (λ y. y.next) v.branch ∙ r.next;
          next_type = z.next_type ∙ ap (λ y. y.next_type) v.branch ∙ r.next_type;
        },
        z.choices ∙ v.choices,
      )

  pub exists_form : IsNewVariable m n p.level t → FrontOf n q p behind s t → (u k height : ℕ) (P : List Clause) (w : Term) (g : Goal) (T : Ty) →
      ArePartsOf m q a (look_form u k P height (entry_at a p g) b w (connective.Exists T (body_of (tree m.bank s.0))))
  exists_form v f u k height P w g T =
      let x = atom (logic b.next p.level) in
      let z = f a b.goals (substitute x (body_of (tree m.bank s.0))) (st i) (leads_to x (v.grows.bank.same_terms s.0 l)
      (v.variable ∙ ap (λ y. atom (logic y p.level)) r.next)) (reads_later m n i v.grows a behind b.goals r.goals) in (
        record {
          goals = z.goals;
          next = z.next ∙ v.next ∙ add-one m.branch.next ∙ ap suc r.next;
          next_type = z.next_type ∙ v.next_type ∙ r.next_type;
        },
        z.choices ∙ v.choices,
      )

-- once it was counted
abbrev pub TakesTerm : (Term → connective.Connective) → (old new : Machine) → Place → (term : TermId) → (behind : Option ℕ) → Type 0
TakesTerm F m n p s o = (a : Around) (b : Branch) → StandsIn m → s.0 < length m.bank.terms → IsBehind m a o b → (u k height : ℕ) (P : List Clause) (t : Term) (g : Goal) →
    ArePartsOf m n a (look_form u k P height (entry_at a p g) b t (F (tree m.bank s.0)))

pub term_apart : (F : Term → connective.Connective) (m c n : Machine) (p : Place) (s : TermId) (o : Option ℕ) → c ≡ apart m → TakesTerm F c n p s o → TakesTerm F m n p s o
term_apart F m c n p s o e t = λ a b i l w u k height P v g.
    let z : TakesTerm F (apart m) n p s o = subst (λ z. TakesTerm F z n p s o) e t in
    z a b (record { table = i.table; values = i.values; frames = i.frames }) l (record { goals = w.goals; next = w.next; next_type = w.next_type }) u k height P v g

-- nothing is put in its place
pub true_apart : (m c q : Machine) (o : Option ℕ) → c ≡ apart m → KeepsGoals c q → q.branch.goals ≡ o → q.branch.next ≡ c.branch.next →
    q.branch.next_type ≡ c.branch.next_type → q.choices ≡ c.choices → (a : Around) (b : Branch) → IsBehind m a o b →
    IsBranchAt q a b × (q.choices.items ≡ m.choices.items)
true_apart m c q o e k g n t h a b w =
    let all : KeepsGoals m q =
    keeps_then m c q (subst (KeepsGoals m) (sym e) (record {
      known = record {
        bank = refl;
        bindings = refl;
        scopes = refl;
        table = refl;
        standings = refl;
        index = refl;
      };
      frames = goes_on_same m.frames.items;
    })) k in (
      record {
        goals = subst (λ x. Reads q a x b.goals) (sym g) (reads_on m q a o b.goals all w.goals);
        next = n ∙ ap (λ z. z.branch.next) e ∙ w.next;
        next_type = t ∙ ap (λ z. z.branch.next_type) e ∙ w.next_type;
      },
      ap (λ v. v.items) h ∙ ap (λ z. z.choices.items) e,
    )
