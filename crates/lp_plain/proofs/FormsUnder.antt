-- What the definition makes of a goal that is known at run time, by its form, is the same as the bindings read it.
use Rattle.std.proofs.Common.{◌≡◌, ℕ, suc, ◌≤◌, List, refl, sym, ap, ◌∙◌, subst, arith, Some}
use Rattle.lp_calculus.specs.Term.{Term, Atom, index, atom, abs, app, substitute, eigen, logic}
use Rattle.lp_calculus.specs.Fill.{Within}
use Rattle.lp_calculus.proofs.Plain.{shift-none}
use Rattle.lp_standard.specs.Connectives.{Connective, body_of}
use Rattle.lp_standard.specs.Connectives as connective
use Rattle.lp_term.specs.Nodes.{Nodes}
use Rattle.lp_model.specs.Branch.{Branch, Entry}
use Rattle.lp_model.specs.Flat.{Atomic, Clause}
use Rattle.lp_model.specs.Pair.{Closing, closed}
use Rattle.lp_model.specs.Search.{at_next_level, look_form, vars_from, with_goals}
use Rattle.lp_model.specs.declared.answer.Pair.{Pair as Numbers}
use Rattle.lp_pattern.specs.Putting.{Known}
use Rattle.lp_pattern.proofs.Looking.{closed_substitute}
use Rattle.lp_plain.specs.Entries.{HeadsTo}
use Rattle.lp_plain.specs.Followed.{levels_with}
use Rattle.lp_plain.specs.Resuming.{AllOfAssumed, AllOfEntries, AllTerms}
use Rattle.lp_plain.specs.Moving.{Query, AreEntriesUnder, IsBranchUnder, IsEntryUnder, IsPlaceUnder}
use Rattle.lp_plain.proofs.AppliedGoals.{applied_body, shifted_back}
use Rattle.lp_plain.proofs.ClosedForms.{IsFormUnder, a_truth, a_cut, an_and, an_or, an_implies, a_pi, a_sigma, a_not, an_atom}
use Rattle.lp_plain.proofs.KnownForms.{IsKnownForm, from_body, put_known}
use Rattle.lp_plain.proofs.KnownGoals.{assumed_weaker, entries_weaker, terms_weaker}
use Rattle.lp_plain.proofs.KnownUnder.{next_known, one_more, pairs_more_known}
use Rattle.lp_plain.proofs.LooksUnder.{IsViewUnder, one_part, two_parts}
use Rattle.lp_plain.proofs.Under.{entries_wider}

-- a form that is taken apart
abbrev pub IsApartConnective : Connective → Type 0
IsApartConnective connective.True = Unit {0}
IsApartConnective connective.Cut = ⊥
IsApartConnective (connective.And l r) = Unit {0}
IsApartConnective (connective.Or l r) = Unit {0}
IsApartConnective (connective.Implies l r) = ⊥
IsApartConnective (connective.ForAll T s) = Unit {0}
IsApartConnective (connective.Exists T s) = Unit {0}
IsApartConnective (connective.Not g) = ⊥
IsApartConnective connective.Atomic = ⊥

-- a quantifier's body on a term that the bindings read as it is
pub body_heads : (z : Closing) (u : Term) → closed z u ≡ u → (t : Term) → HeadsTo (closed z (substitute u (body_of t))) (substitute u (body_of (closed z t)))
body_heads z u e (abs b) =
    let q : closed z (substitute u b) ≡ substitute u (body_of (closed z (abs b))) =
    closed_substitute z u b ∙ (λ i. substitute (e i) (body_of (closed z (abs b)))) in
    (0, omega arith, ap Some q)
body_heads z u e (index i) = subst (λ x. HeadsTo x (substitute u (body_of (index i)))) (sym (ap (closed z) (sym (shifted_back (index i) u)) ∙ ap (app (index i)) e)) (applied_body (index i) u)
body_heads z u e (atom a) =
    subst (λ x. HeadsTo x (substitute u (body_of (closed z (atom a))))) (sym (ap (closed z) (atom_body a) ∙ ap (app (closed z (atom a))) e)) (applied_body (closed z (atom a)) u)
  where
    atom_body : (a : Atom) → substitute u (body_of (atom a)) ≡ app (atom a) u
    atom_body a = ap (app (atom a)) (shift-none u)
body_heads z u e (app t v) =
    subst (λ x. HeadsTo x (substitute u (body_of (closed z (app t v))))) (sym (ap (closed z) (sym (shifted_back (app t v) u)) ∙ ap (app (closed z (app t v))) e)) (applied_body (closed z (app t v)) u)

module _ (qv : Query) (lv : ℕ → ℕ) (k : Nodes) (z : Closing) (f : ℕ → ℕ) (l u : ℕ) (left : List Numbers) (e d : Entry) (b c : Branch) (p : IsPlaceUnder z e d) (m : d.mark ≡ f e.mark) (lo : l ≤ e.mark) (hi : e.mark ≤ u)
    (h : IsBranchUnder qv lv k z f l e.mark left b c) (ka : AllOfAssumed (λ i t. Within (Known lv b.next) i (closed z t)) e.assumed) (kw : AllTerms (λ i t. Within (Known lv b.next) i (closed z t)) 0 e.written.terms) where
  abbrev P : ℕ → Term → Type 0
  P i t = Within (Known lv b.next) i (closed z t)

  -- once the next variable is there
  abbrev Q : ℕ → Term → Type 0
  Q i t = Within (Known (levels_with lv b.next e.level) (suc b.next)) i (closed z t)

  more : (i : ℕ) (t : Term) → P i t → Q i t
  more i t w = one_more lv b.next e.level i (closed z t) w

  -- an atom in the place of the entry, at this level
  one : (t v : Term) (i : ℕ) → HeadsTo (closed z t) v →
      IsEntryUnder z f l u (record { goal = Atomic t; assumed = e.assumed; written = e.written; level = i; mark = e.mark }) (record { goal = Atomic v; assumed = d.assumed; written = d.written; level = i; mark = d.mark })
  one t v i w = record { goal = (v, w, refl); place = record { assumed = p.assumed; written = p.written; level = refl }; mark = m; low = lo; high = hi }

  one_here : (t v : Term) → HeadsTo (closed z t) v →
      IsEntryUnder z f l u (record { goal = Atomic t; assumed = e.assumed; written = e.written; level = e.level; mark = e.mark }) (record { goal = Atomic v; assumed = d.assumed; written = d.written; level = d.level; mark = d.mark })
  one_here t v w = record { goal = (v, w, refl); place = record { assumed = p.assumed; written = p.written; level = p.level }; mark = m; low = lo; high = hi }

  tight : (t v : Term) → HeadsTo (closed z t) v →
      IsEntryUnder z f l e.mark (record { goal = Atomic t; assumed = e.assumed; written = e.written; level = e.level; mark = e.mark }) (record { goal = Atomic v; assumed = d.assumed; written = d.written; level = d.level; mark = d.mark })
  tight t v w = record { goal = (v, w, refl); place = record { assumed = p.assumed; written = p.written; level = p.level }; mark = m; low = lo; high = omega arith }

  branch : (es ds : List Entry) → AreEntriesUnder z f l u es ds → AllOfEntries P es → IsBranchUnder qv lv k z f l u left (with_goals b es) (with_goals c ds)
  branch es ds g w = record {
    goals = g;
    next = h.next;
    next_type = h.next_type;
    types = h.types;
    values = h.values;
    pairs = h.pairs;
    known = record { goals = w; values = h.known.values; pairs = h.known.pairs; free = h.known.free };
  }

  wide : AreEntriesUnder z f l u b.goals c.goals
  wide = entries_wider z f l e.mark u b.goals c.goals hi h.goals

  module _ (i j x y r t : ℕ) (C D : List Clause) (v w : Term) where
    pub form_parts : ((n : ℕ) → closed z (atom (logic b.next n)) ≡ atom (logic b.next n)) → {g g' : Connective} → IsApartConnective g → IsFormUnder z g g' → IsKnownForm (Known lv b.next) g' →
        IsViewUnder qv k z f l u left b (look_form i j C x e b v g) (look_form y r D t d c w g')
    form_parts nv q a_truth kn =
        one_part lv b c refl refl (omega arith) (record { goals = wide; next = h.next; next_type = h.next_type; types = h.types; values = h.values; pairs = h.pairs; known = h.known })
    form_parts nv q a_cut kn = absurd q
    form_parts nv q (an_and g g') kn =
        one_part lv _ _ refl refl (omega arith) (branch _ _ (one_here g (closed z g) (0, omega arith, refl), (tight g' (closed z g') (0, omega arith, refl), h.goals)) ((kn.0, ka, kw), ((kn.1, ka, kw), h.known.goals)))
    form_parts nv q (an_or g g') kn =
        two_parts lv _ _ _ _ refl refl refl refl (branch _ _ (one_here g (closed z g) (0, omega arith, refl), h.goals) ((kn.0, ka, kw), h.known.goals)) (branch _ _ (one_here g' (closed z g') (0, omega arith, refl), h.goals) ((kn.1, ka, kw), h.known.goals))
    form_parts nv q (an_implies g g') kn = absurd q
    form_parts nv q (a_pi T g) kn =
        let v = atom (eigen (suc e.level)) in
        one_part lv _ _ refl refl (omega arith) (branch _ _ (
          subst (λ n. IsEntryUnder z f l u (at_next_level e (substitute (atom (eigen (suc e.level))) (body_of g)))
              (record { goal = Atomic (substitute (atom (eigen (suc n))) (body_of (closed z g))); assumed = d.assumed; written = d.written; level = suc n; mark = d.mark })) (sym p.level)
              (one (substitute (atom (eigen (suc e.level))) (body_of g)) (substitute (atom (eigen (suc e.level))) (body_of (closed z g))) (suc e.level) (body_heads z (atom (eigen (suc e.level))) refl g)),
          h.goals,
        )
        ((put_known (Known lv b.next) z v refl tt g (from_body (Known lv b.next) (closed z g) kn), ka, kw), h.known.goals))
    form_parts nv q (a_sigma T g) kn =
        let K = Known (levels_with lv b.next e.level) (suc b.next) in
        one_part (levels_with lv b.next e.level) _ _ refl refl (omega arith) (record {
          goals = (
            subst (λ n. IsEntryUnder z f l u (record { goal = Atomic (substitute (atom (logic b.next e.level)) (body_of g)); assumed = e.assumed; written = e.written; level = e.level; mark = e.mark })
                (record { goal = Atomic (substitute (atom (logic n d.level)) (body_of (closed z g))); assumed = d.assumed; written = d.written; level = d.level; mark = d.mark })) (sym h.next)
                (one_here (substitute (atom (logic b.next e.level)) (body_of g)) (substitute (atom (logic b.next d.level)) (body_of (closed z g)))
                (subst (λ n. HeadsTo (closed z (substitute (atom (logic b.next e.level)) (body_of g))) (substitute (atom (logic b.next n)) (body_of (closed z g)))) (sym p.level)
                (body_heads z (atom (logic b.next e.level)) (nv e.level) g))),
            h.goals,
          );
          next = ap suc h.next;
          next_type = h.next_type;
          types = h.types;
          values = h.values;
          pairs = h.pairs;
          known = record {
            goals = (
              (put_known K z (atom (logic b.next e.level)) (nv e.level) (next_known lv b.next e.level) g (more 0 g (from_body (Known lv b.next) (closed z g) kn)), assumed_weaker P Q more e.assumed ka, terms_weaker P Q more 0 e.written.terms kw),
              entries_weaker P Q more b.goals h.known.goals,
            );
            values = terms_weaker P Q more 0 (vars_from qv.vars 0) h.known.values;
            pairs = pairs_more_known lv b.next e.level c.pairs h.known.pairs;
            free = h.known.free;
          };
        })
    form_parts nv q (a_not g) kn = absurd q
    form_parts nv q an_atom kn = absurd q
