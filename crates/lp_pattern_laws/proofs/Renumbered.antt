-- Formulas of pattern text with other numbers for their declared constants.
use Rattle.std.proofs.Common.{◌≡◌, ℕ, zero, suc, ◌≤◌, List, [], ◌∷◌, map, Bool, true, false, refl, sym, ap, ◌∙◌, subst as transport, inl, inr, arith}
use Rattle.std.specs.Prelude.{nat_eq, if◌then◌else◌}
use Rattle.std.proofs.lemmas.Bool.{cases_lt}
use Rattle.std.proofs.lemmas.Bool.Decides.{nat_tests}
use Rattle.lp_calculus.specs.Types.{Ty, Tys, var, con, arrow, no_types, types}
use Rattle.lp_calculus.specs.Types as calculus_types
use Rattle.lp_calculus.specs.Term.{Term, index, atom, abs, app, shift, Atom, constant, integer, text, eigen, logic, param}
use Rattle.lp_calculus.specs.Closed.{AllAtoms}
use Rattle.lp_calculus.specs.Convert.{here, in_abs, in_head, in_argument, by_beta, by_eta}
use Rattle.lp_calculus.specs.Fill.{fill, Within}
use Rattle.lp_calculus.specs.Normal.{IsNormal}
use Rattle.lp_calculus.specs.Spine.{head_of, arguments, arguments_and}
use Rattle.lp_calculus.proofs.BetaEta.{shift_one}
use Rattle.lp_calculus.proofs.Commutations.{fill_shift}
use Rattle.lp_calculus.proofs.Eta.{app_same}
use Rattle.lp_calculus.proofs.Sigma.{lift, rename}
use Rattle.lp_calculus.proofs.Steps.{Step}
use Rattle.lp_standard.specs.Connectives.{Connective, body_of, connective_of, connective_at, connective_of_constant}
use Rattle.lp_standard.specs.Connectives as connective
use Rattle.lp_term.specs.Mapped.{Map, mapped, mapped_type, mapped_types}
use Rattle.lp_model.specs.Flatten.{ClauseFormula}
use Rattle.lp_search_laws.specs.Started.{IsQueryAtom}
use Rattle.lp_unify_laws.specs.TypesBelow.{IsTypeBelow, AreTysBelow, AreTypesBelow}
use Rattle.lp_pattern_laws.specs.Patterns.{Name, bound, free, under, IsNewToAtom, Names, an_index, an_eigen, expanded, IsRigidAtom}
use Rattle.lp_pattern_laws.specs.Binders.{Binder, universal, existential, IsNewIn, IsRigidIn, atom_head, name_head, more_on, IsPatternIn, index_in, atom_in, abs_in, rigid_in, name_in}
use Rattle.lp_pattern_laws.specs.Goals.{IsTextAtom}
use Rattle.lp_pattern_laws.specs.Formulas.{IsTermAsClause, IsGoalText, goal_true, goal_cut, goal_both, goal_either, goal_assumes, goal_all, goal_some, goal_not, goal_atom, IsClauseText, clause_both, clause_when, clause_all, clause_term, IsPatternSentence, IsRenumbering}
use Rattle.lp_pattern_laws.proofs.Comes.{reduces_fill}

-- atoms for atoms: a term that is a raised one was one before, and a step of the term a step of the one before
module _ (g : Atom → Atom) where
  was_raised : (ρ : ℕ → ℕ) (y x : Term) → fill (λ a. atom (g a)) y ≡ rename ρ x → (z : Term) × (y ≡ rename ρ z)
  was_raised ρ (index i) (index j) e = (index j, (let q : index i ≡ index (ρ j) = e in q))
  was_raised ρ (index i) (atom a) e = absurd (cc)
  was_raised ρ (index i) (abs b) e = absurd (cc)
  was_raised ρ (index i) (app t u) e = absurd (cc)
  was_raised ρ (atom a) x e = (atom a, refl)
  was_raised ρ (abs b) (abs c) e =
      let q : fill (λ a. atom (g a)) b ≡ rename (lift ρ) c = cc in
      let z = was_raised (lift ρ) b c q in
      (abs z.0, ap abs z.1)
  was_raised ρ (abs b) (index i) e = absurd (cc)
  was_raised ρ (abs b) (atom a) e = absurd (cc)
  was_raised ρ (abs b) (app t u) e = absurd (cc)
  was_raised ρ (app t u) (app x y) e =
      let q : fill (λ a. atom (g a)) t ≡ rename ρ x = cc in
      let r : fill (λ a. atom (g a)) u ≡ rename ρ y = cc in
      let z = was_raised ρ t x q in
      let w = was_raised ρ u y r in
      (app z.0 w.0, app_same z.1 w.1)
  was_raised ρ (app t u) (index i) e = absurd (cc)
  was_raised ρ (app t u) (atom a) e = absurd (cc)
  was_raised ρ (app t u) (abs b) e = absurd (cc)

  step_back : {u r : Term} → Step u r → (t : Term) → u ≡ fill (λ a. atom (g a)) t → (s : Term) × Step t s
  step_back (here (by_beta b v)) (app (abs c) w) e = (_, here (by_beta c w))
  step_back (here (by_beta b v)) (app (index i) w) e = absurd (cc)
  step_back (here (by_beta b v)) (app (atom a) w) e = absurd (cc)
  step_back (here (by_beta b v)) (app (app t u) w) e = absurd (cc)
  step_back (here (by_beta b v)) (index i) e = absurd (cc)
  step_back (here (by_beta b v)) (atom a) e = absurd (cc)
  step_back (here (by_beta b v)) (abs c) e = absurd (cc)
  step_back (here (by_eta x)) (abs (app y (index zero))) e =
      let q : shift 0 1 x ≡ fill (λ a. atom (g a)) y = cc in
      let z = was_raised suc y x (sym q ∙ shift_one x) in
      (z.0, transport (λ w. Step (abs (app w (index 0))) z.0) (shift_one z.0 ∙ sym z.1) (here (by_eta z.0)))
  step_back (here (by_eta x)) (abs (app y (index (suc j)))) e = absurd (cc)
  step_back (here (by_eta x)) (abs (app y (atom a))) e = absurd (cc)
  step_back (here (by_eta x)) (abs (app y (abs c))) e = absurd (cc)
  step_back (here (by_eta x)) (abs (app y (app v w))) e = absurd (cc)
  step_back (here (by_eta x)) (abs (index i)) e = absurd (cc)
  step_back (here (by_eta x)) (abs (atom a)) e = absurd (cc)
  step_back (here (by_eta x)) (abs (abs c)) e = absurd (cc)
  step_back (here (by_eta x)) (index i) e = absurd (cc)
  step_back (here (by_eta x)) (atom a) e = absurd (cc)
  step_back (here (by_eta x)) (app v w) e = absurd (cc)
  step_back (in_abs {b = b} p) (abs c) e = let q : b ≡ fill (λ a. atom (g a)) c = cc in let z = step_back p c q in (abs z.0, in_abs z.1)
  step_back (in_abs p) (index i) e = absurd (cc)
  step_back (in_abs p) (atom a) e = absurd (cc)
  step_back (in_abs p) (app v w) e = absurd (cc)
  step_back (in_head {t = f} u p) (app v w) e = let q : f ≡ fill (λ a. atom (g a)) v = cc in let z = step_back p v q in (app z.0 w, in_head w z.1)
  step_back (in_head u p) (index i) e = absurd (cc)
  step_back (in_head u p) (atom a) e = absurd (cc)
  step_back (in_head u p) (abs c) e = absurd (cc)
  step_back (in_argument f {u = x} p) (app v w) e = let q : x ≡ fill (λ a. atom (g a)) w = cc in let z = step_back p w q in (app v z.0, in_argument v z.1)
  step_back (in_argument f p) (index i) e = absurd (cc)
  step_back (in_argument f p) (atom a) e = absurd (cc)
  step_back (in_argument f p) (abs c) e = absurd (cc)

  pub normal_over : (t : Term) → IsNormal t → IsNormal (fill (λ a. atom (g a)) t)
  normal_over t n s p = let z = step_back p t refl in n z.0 z.1

  body_over : (t : Term) → body_of (fill (λ a. atom (g a)) t) ≡ fill (λ a. atom (g a)) (body_of t)
  body_over (index i) = ap (λ z. app z (index 0)) (sym (fill_shift (λ a. atom (g a)) 0 1 (index i)))
  body_over (atom a) = refl
  body_over (abs b) = refl
  body_over (app t u) = ap (λ z. app z (index 0)) (sym (fill_shift (λ a. atom (g a)) 0 1 (app t u)))

  arguments_over : (t : Term) (more : List Term) → arguments_and (fill (λ a. atom (g a)) t) (map (λ u. fill (λ a. atom (g a)) u) more) ≡ map (λ u. fill (λ a. atom (g a)) u) (arguments_and t more)
  arguments_over (index i) more = refl
  arguments_over (atom a) more = refl
  arguments_over (abs b) more = refl
  arguments_over (app t u) more = arguments_over t (u ∷ more)

  head_over : (t : Term) → head_of (fill (λ a. atom (g a)) t) ≡ fill (λ a. atom (g a)) (head_of t)
  head_over (index i) = refl
  head_over (atom a) = refl
  head_over (abs b) = refl
  head_over (app t u) = head_over t

module _ (m : Map) (h : IsRenumbering m) where
  abbrev new_atom : Atom → Atom
  new_atom (constant c ts) = constant (m.constants c) (map (mapped_type m) ts)
  new_atom (integer z) = integer z
  new_atom (text s) = text s
  new_atom (eigen k) = eigen k
  new_atom (logic x l) = logic x l
  new_atom (param k T) = param k (mapped_type m T)

  mapped_is : (t : Term) → mapped m t ≡ fill (λ a. atom (new_atom a)) t
  mapped_is (index i) = refl
  mapped_is (atom (constant c ts)) = refl
  mapped_is (atom (integer z)) = refl
  mapped_is (atom (text s)) = refl
  mapped_is (atom (eigen k)) = refl
  mapped_is (atom (logic x l)) = h.terms x l
  mapped_is (atom (param k T)) = refl
  mapped_is (abs b) = ap abs (mapped_is b)
  mapped_is (app t u) = app_same (mapped_is t) (mapped_is u)

  -- connectives
  abbrev form_new : Connective → Connective
  form_new connective.True = connective.True
  form_new connective.Cut = connective.Cut
  form_new (connective.And a b) = connective.And (fill (λ x. atom (new_atom x)) a) (fill (λ x. atom (new_atom x)) b)
  form_new (connective.Or a b) = connective.Or (fill (λ x. atom (new_atom x)) a) (fill (λ x. atom (new_atom x)) b)
  form_new (connective.Implies a b) = connective.Implies (fill (λ x. atom (new_atom x)) a) (fill (λ x. atom (new_atom x)) b)
  form_new (connective.ForAll T b) = connective.ForAll (mapped_type m T) (fill (λ x. atom (new_atom x)) b)
  form_new (connective.Exists T b) = connective.Exists (mapped_type m T) (fill (λ x. atom (new_atom x)) b)
  form_new (connective.Not b) = connective.Not (fill (λ x. atom (new_atom x)) b)
  form_new connective.Atomic = connective.Atomic

  if_same : (b : Bool) (x y p q : Connective) → p ≡ form_new x → q ≡ form_new y → (if b then p else q) ≡ form_new (if b then x else y)
  if_same true x y p q e f = e
  if_same false x y p q e f = f

  abbrev all_new : List Term → List Term
  all_new us = map (λ u. fill (λ a. atom (new_atom a)) u) us

  standard_same : (c : ℕ) (ts : List Ty) (us : List Term) → connective_of_constant c (map (mapped_type m) ts) (all_new us) ≡ form_new (connective_of_constant c ts us)
  standard_same c ts [] = if_same (nat_eq c 6) _ _ _ _ refl (if_same (nat_eq c 7) _ _ _ _ refl refl)
  standard_same c (T ∷ []) (a ∷ []) =
      if_same (nat_eq c 4) _ _ _ _ (ap (connective.ForAll (mapped_type m T)) (body_over new_atom a))
      (if_same (nat_eq c 5) _ _ _ _ (ap (connective.Exists (mapped_type m T)) (body_over new_atom a)) refl)
  standard_same c [] (a ∷ []) = if_same (nat_eq c 24) _ _ _ _ refl refl
  standard_same c [] (a ∷ b ∷ []) =
      if_same (nat_eq c 0) _ _ _ _ refl (if_same (nat_eq c 1) _ _ _ _ refl (if_same (nat_eq c 2) _ _ _ _ refl (if_same (nat_eq c 3) _ _ _ _ refl refl)))
  standard_same c [] (a ∷ b ∷ x ∷ us) = refl
  standard_same c (T ∷ []) (a ∷ b ∷ us) = refl
  standard_same c (T ∷ U ∷ ts) (a ∷ []) = refl
  standard_same c (T ∷ U ∷ ts) (a ∷ b ∷ us) = refl

  pick : (b : Bool) (x y z : Connective) → b ≡ false → y ≡ z → (if b then x else y) ≡ z
  pick true x y z e f = absurd (cc)
  pick false x y z e f = f

  declared_atomic : (c : ℕ) → 32 ≤ c → (ts : List Ty) (us : List Term) → connective_of_constant c ts us ≡ connective.Atomic
  declared_atomic c l ts [] =
      let e6 : nat_eq c 6 ≡ false = grind (arith, nat_tests) in
      let e7 : nat_eq c 7 ≡ false = grind (arith, nat_tests) in
      pick (nat_eq c 6) _ _ _ e6 (pick (nat_eq c 7) _ _ _ e7 refl)
  declared_atomic c l (T ∷ []) (a ∷ []) =
      let e4 : nat_eq c 4 ≡ false = grind (arith, nat_tests) in
      let e5 : nat_eq c 5 ≡ false = grind (arith, nat_tests) in
      pick (nat_eq c 4) _ _ _ e4 (pick (nat_eq c 5) _ _ _ e5 refl)
  declared_atomic c l [] (a ∷ []) = let e : nat_eq c 24 ≡ false = grind (arith, nat_tests) in pick (nat_eq c 24) _ _ _ e refl
  declared_atomic c l [] (a ∷ b ∷ []) =
      let e0 : nat_eq c 0 ≡ false = grind (arith, nat_tests) in
      let e1 : nat_eq c 1 ≡ false = grind (arith, nat_tests) in
      let e2 : nat_eq c 2 ≡ false = grind (arith, nat_tests) in
      let e3 : nat_eq c 3 ≡ false = grind (arith, nat_tests) in
      pick (nat_eq c 0) _ _ _ e0 (pick (nat_eq c 1) _ _ _ e1 (pick (nat_eq c 2) _ _ _ e2 (pick (nat_eq c 3) _ _ _ e3 refl)))
  declared_atomic c l [] (a ∷ b ∷ x ∷ us) = refl
  declared_atomic c l (T ∷ []) (a ∷ b ∷ us) = refl
  declared_atomic c l (T ∷ U ∷ ts) (a ∷ []) = refl
  declared_atomic c l (T ∷ U ∷ ts) (a ∷ b ∷ us) = refl

  constant_new : (c : ℕ) (ts : List Ty) (us : List Term) → connective_of_constant (m.constants c) (map (mapped_type m) ts) (all_new us) ≡ form_new (connective_of_constant c ts us)
  constant_new c ts us = elim (cases_lt c 32) [
    | inl l ↦ ap (λ z. connective_of_constant z (map (mapped_type m) ts) (all_new us)) (h.standard c l) ∙ standard_same c ts us
    | inr l ↦ declared_atomic (m.constants c) (h.declared c l) (map (mapped_type m) ts) (all_new us) ∙ ap form_new (sym (declared_atomic c l ts us))
  ]

  at_new : (x : Term) (us : List Term) → connective_at (fill (λ a. atom (new_atom a)) x) (all_new us) ≡ form_new (connective_at x us)
  at_new (atom (constant c ts)) us = constant_new c ts us
  at_new (atom (integer z)) us = refl
  at_new (atom (text s)) us = refl
  at_new (atom (eigen k)) us = refl
  at_new (atom (logic x l)) us = refl
  at_new (atom (param k T)) us = refl
  at_new (index i) us = refl
  at_new (abs b) us = refl
  at_new (app t u) us = refl

  form_is : (t : Term) (f : Connective) → connective_of t ≡ f → connective_of (fill (λ a. atom (new_atom a)) t) ≡ form_new f
  form_is t f e =
      ap (λ x. connective_at x (arguments (fill (λ a. atom (new_atom a)) t))) (head_over new_atom t) ∙ ap (connective_at (fill (λ a. atom (new_atom a)) (head_of t))) (arguments_over new_atom t []) ∙
      at_new (head_of t) (arguments t) ∙ ap form_new e

  -- pattern text
  names_new : {n : Name} {t : Term} → Names n t → Names n (fill (λ a. atom (new_atom a)) t)
  names_new (an_index i) = an_index i
  names_new (an_eigen k) = an_eigen k
  names_new (expanded p q) = expanded (names_new p) (names_new q)

  new_to : (n : Name) (a : Atom) → IsNewToAtom n a → IsNewToAtom n (new_atom a)
  new_to (bound j) a k = tt
  new_to (free j) (constant c ts) k = tt
  new_to (free j) (integer z) k = tt
  new_to (free j) (text s) k = tt
  new_to (free j) (eigen i) k = k
  new_to (free j) (logic x l) k = k
  new_to (free j) (param i T) k = tt

  new_in : (Γ : List Binder) (n : Name) (t : Term) → IsNewIn Γ n t → IsNewIn Γ n (fill (λ a. atom (new_atom a)) t)
  new_in Γ n (index i) k = k
  new_in Γ n (atom a) k = new_to n a k
  new_in Γ n (abs b) k = new_in (universal ∷ Γ) (under n) b k
  new_in Γ n (app t u) k = (new_in Γ n t k.0, new_in Γ n u k.1)

  rigid_new : (a : Atom) → IsRigidAtom a → IsRigidAtom (new_atom a)
  rigid_new (constant c ts) r = tt
  rigid_new (integer z) r = tt
  rigid_new (text s) r = tt
  rigid_new (eigen k) r = tt
  rigid_new (logic x l) r = r
  rigid_new (param k T) r = tt

  head_new : (Γ : List Binder) {t : Term} → IsRigidIn Γ t → IsRigidIn Γ (fill (λ a. atom (new_atom a)) t)
  head_new Γ (atom_head a r) = atom_head (new_atom a) (rigid_new a r)
  head_new Γ (name_head u p) = name_head u (names_new p)
  head_new Γ (more_on r) = more_on (head_new Γ r)

  text_new : (Γ : List Binder) {t : Term} → IsPatternIn Γ t → IsPatternIn Γ (fill (λ a. atom (new_atom a)) t)
  text_new Γ (index_in i e) = index_in i e
  text_new Γ (atom_in a) = atom_in (new_atom a)
  text_new Γ (abs_in p) = abs_in (text_new (universal ∷ Γ) p)
  text_new Γ (rigid_in r p q) = rigid_in (head_new Γ r) (text_new Γ p) (text_new Γ q)
  text_new Γ (name_in {n = n} {t = t} u p q k) = name_in u (text_new Γ p) (names_new q) (new_in Γ n t k)

  other_constant : (c : ℕ) → (c ≡ 5 → ⊥) → m.constants c ≡ 5 → ⊥
  other_constant c k e = elim (cases_lt c 32) [
    | inl l ↦ k (sym (h.standard c l) ∙ e)
    | inr l ↦ let q = h.declared c l in (let r : 32 ≤ m.constants c = q in omega (arith, r, e))
  ]

  atom_text : (a : Atom) → IsTextAtom a → IsTextAtom (new_atom a)
  atom_text (constant c ts) k = other_constant c k
  atom_text (integer z) k = tt
  atom_text (text s) k = tt
  atom_text (eigen j) k = k
  atom_text (logic x l) k = k
  atom_text (param j T) k = tt

  atoms_text : (t : Term) → AllAtoms IsTextAtom t → AllAtoms IsTextAtom (fill (λ a. atom (new_atom a)) t)
  atoms_text (index i) w = tt
  atoms_text (atom a) w = atom_text a w
  atoms_text (abs b) w = atoms_text b w
  atoms_text (app t u) w = (atoms_text t w.0, atoms_text u w.1)

  term_new : (f : Connective) → IsTermAsClause f → IsTermAsClause (form_new f)
  term_new connective.Atomic k = tt
  term_new connective.True k = tt
  term_new connective.Cut k = tt
  term_new (connective.Or a b) k = tt
  term_new (connective.Exists T b) k = tt
  term_new (connective.Not b) k = tt
  term_new (connective.And a b) k = k
  term_new (connective.Implies a b) k = k
  term_new (connective.ForAll T b) k = k

  mutual
    goal_new : (Γ : List Binder) {t : Term} → IsGoalText Γ t → IsGoalText Γ (fill (λ a. atom (new_atom a)) t)
    goal_new Γ {t} (goal_true e) = goal_true (form_is t _ e)
    goal_new Γ {t} (goal_cut e) = goal_cut (form_is t _ e)
    goal_new Γ {t} (goal_both e p q) = goal_both (form_is t _ e) (goal_new Γ p) (goal_new Γ q)
    goal_new Γ {t} (goal_either e p q) = goal_either (form_is t _ e) (goal_new Γ p) (goal_new Γ q)
    goal_new Γ {t} (goal_assumes e p q) = goal_assumes (form_is t _ e) (clause_new Γ p) (goal_new Γ q)
    goal_new Γ {t} (goal_all e p) = goal_all (form_is t _ e) (goal_new (universal ∷ Γ) p)
    goal_new Γ {t} (goal_some e p) = goal_some (form_is t _ e) (goal_new (existential ∷ Γ) p)
    goal_new Γ {t} (goal_not e p) = goal_not (form_is t _ e) (goal_new Γ p)
    goal_new Γ {t} (goal_atom e p w) = goal_atom (form_is t _ e) (text_new Γ p) (atoms_text t w)

    clause_new : (Γ : List Binder) {t : Term} → IsClauseText Γ t → IsClauseText Γ (fill (λ a. atom (new_atom a)) t)
    clause_new Γ {t} (clause_both e p q) = clause_both (form_is t _ e) (clause_new Γ p) (clause_new Γ q)
    clause_new Γ {t} (clause_when e p q) = clause_when (form_is t _ e) (goal_new Γ p) (clause_new Γ q)
    clause_new Γ {t} (clause_all e p) = clause_all (form_is t _ e) (clause_new (existential ∷ Γ) p)
    clause_new Γ {t} (clause_term i p w) = clause_term (transport IsTermAsClause (sym (form_is t _ refl)) (term_new (connective_of t) i)) (text_new Γ p) (atoms_text t w)

  pub sentence_renumbered : (D : ClauseFormula) → IsPatternSentence D → IsPatternSentence (record { type_vars = D.type_vars; formula = mapped m D.formula })
  sentence_renumbered D p = transport (λ z. IsPatternSentence (record { type_vars = D.type_vars; formula = z })) (sym (mapped_is D.formula)) (
    fill (λ a. atom (new_atom a)) p.0,
    (reduces_fill (λ a. atom (new_atom a)) p.1.0, normal_over new_atom p.0 p.1.1),
    clause_new [] p.2,
  )

  -- where type variables stay, what stands in it stood in it before
  module _ (stay : (x : ℕ) → m.types x ≡ var x) where
    mutual
      type_back : (k : ℕ) (T : Ty) → IsTypeBelow k (mapped_type m T) → IsTypeBelow k T
      type_back k (var x) b = transport (IsTypeBelow k) (stay x) b
      type_back k (calculus_types.param j) b = tt
      type_back k (con c ts) b = types_back k ts b
      type_back k (arrow a b) h = (type_back k a h.0, type_back k b h.1)

      types_back : (k : ℕ) (ts : Tys) → AreTysBelow k (mapped_types m ts) → AreTysBelow k ts
      types_back k no_types b = tt
      types_back k (types t ts) b = (type_back k t b.0, types_back k ts b.1)

    list_back : (k : ℕ) (ts : List Ty) → AreTypesBelow k (map (mapped_type m) ts) → AreTypesBelow k ts
    list_back k [] b = tt
    list_back k (t ∷ ts) b = (type_back k t b.0, list_back k ts b.1)

    atom_back : (k : ℕ) (a : Atom) → IsQueryAtom k (new_atom a) → IsQueryAtom k a
    atom_back k (constant c ts) w = list_back k ts w
    atom_back k (integer z) w = tt
    atom_back k (text s) w = tt
    atom_back k (eigen j) w = w
    atom_back k (logic x l) w = w
    atom_back k (param j T) w = type_back k T w

    within_back : (k d : ℕ) (t : Term) → Within (IsQueryAtom k) d (fill (λ a. atom (new_atom a)) t) → Within (IsQueryAtom k) d t
    within_back k d (index i) w = w
    within_back k d (atom a) w = atom_back k a w
    within_back k d (abs b) w = within_back k (suc d) b w
    within_back k d (app t u) w = (within_back k d t w.0, within_back k d u w.1)

    pub sentence_within : (D : ClauseFormula) → Within (IsQueryAtom D.type_vars) 0 (mapped m D.formula) → Within (IsQueryAtom D.type_vars) 0 D.formula
    sentence_within D w = within_back D.type_vars 0 D.formula (transport (Within (IsQueryAtom D.type_vars) 0) (mapped_is D.formula) w)
