-- Flattened goals and clauses of typed formulas are typed over the same type variables, and plain.
use Rattle.std.proofs.Common.{◌≡◌, ℕ, zero, suc, List, [], ◌∷◌, ◌++◌, map, length, Option, Some, refl, sym, ap, ◌∙◌, subst as transport, arith, inl, inr, Bool, true, false}
use Rattle.std.specs.Prelude.{option_map, ◌&&◌}
use Rattle.lp_unify_laws.specs.TypesBelow.{IsTypeBelow, AreTypesBelow}
use Rattle.lp_calculus.specs.Types.{Ty, arrow}
use Rattle.lp_calculus.specs.Term.{Term, Atom, index, atom, abs, app, apply, shift, constant, integer, text, eigen, logic, param}
use Rattle.lp_calculus.specs.Fill.{Within}
use Rattle.lp_calculus.specs.Typing.{HaveTypes, Typed, atom_type, scheme_type, o_type}
use Rattle.lp_calculus.proofs.Fills.{within_shift}
use Rattle.lp_calculus.proofs.Subject.{typed_shift}
use Rattle.lp_calculus.proofs.Typings.{typed_parts}
use Rattle.lp_lemmas.specs.Each.{EachOf}
use Rattle.lp_calculus.specs.Spine.{head_of, arguments}
use Rattle.lp_standard.specs.Positive.{IsPositiveConstant}
use Rattle.lp_standard.proofs.Positives.{others_are_positive}
use Rattle.lp_standard.specs.Connectives.{truth, cut, not_of, two, pi_of, sigma_of, body_of, Connective, connective_of, connective_at, connective_of_constant}
use Rattle.lp_standard.specs.Connectives as connective
use Rattle.lp_standard.specs.Positive.{are_positive}
use Rattle.lp_model.specs.Flat.{Goal, Atomic, Cut, Either, Exists, Forall, assuming, denied, Goals, no_goals, goals, Clause, clause, Clauses, no_clauses, clauses, add_clauses, raise_goals, all_of, formula_of_goal, formula_of_goals, formula_of_clause, formula_of_clauses}
use Rattle.lp_model.specs.Flatten.{only, is_goal_head, is_clause_head, flat_goal, flat_goal_form, flat_list, flat_clause, flat_clause_form}
use Rattle.lp_standard.specs.Schemes.{IsStandard, on_two}
use Rattle.lp_model.specs.Proofs.{Declared, under}
use Rattle.lp_lemmas.proofs.Each.{each_append}
use Rattle.lp_proof_laws.proofs.Uniform.Forms.{Shape, form_shape, apply_arguments}
use Rattle.lp_proof_laws.proofs.Flattened.FlatGoals.{formula_raise}
use Rattle.lp_proof_laws.proofs.Uniform.Roots.{connective, sigma_type, pi_type}
use Rattle.lp_search_laws.specs.Started.{IsQueryAtom}
use Rattle.lp_search_laws.specs.Branches.{IsPlainTerm, IsClauseHead, IsGoal, AreGoals, AreClauses}
use Rattle.lp_lemmas.proofs.Options.{and_then_some, option_map_some}
use Rattle.lp_search_laws.proofs.Computed.{plain_type, both_true}
use Rattle.lp_search_laws.proofs.PlainFlat.{raise_first, goals_raise, head_within, plain_spine, clause_head, plain_clause_head}

pub only_some : {A : Type 0} (b : Bool) (a x : A) → only b a ≡ Some x → (b ≡ true) × (a ≡ x)
only_some true a x e = let g : a ≡ x = cc in (refl, g)
only_some false a x e = absurd (cc)

pub some_is : {A : Type 0} (a x : A) → Some a ≡ Some x → a ≡ x
some_is a x e = let g : a ≡ x = cc in g

-- a formula over indices of these types, without logic variables and eigenconstants, over the type variables below k
pub record IsOver (d : Declared) (k : ℕ) (Γ : List Ty) (t : Term) : Type 0 where
  pub typed : Typed (under d []) Γ t o_type
  pub within : Within (IsQueryAtom k) (length Γ) t

pub record AreFine (d : Declared) (k : ℕ) (Γ : List Ty) (B : List Bool) (gs : Goals) : Type 0 where
  pub over : IsOver d k Γ (formula_of_goals gs)
  pub form : AreGoals k B gs

pub record ClausesFine (d : Declared) (k : ℕ) (Γ : List Ty) (B : List Bool) (cs : Clauses) : Type 0 where
  pub over : IsOver d k Γ (formula_of_clauses cs)
  pub form : AreClauses k B cs

abbrev falses : List Ty → List Bool
falses vs = map (λ v. false) vs

two_is : (o : Option Ty) (X Y : Ty) → o ≡ Some (arrow o_type (arrow o_type o_type)) → o ≡ Some (arrow Y (arrow X o_type)) → (Y ≡ o_type) × (X ≡ o_type)
two_is o X Y e f =
    let g : Some (arrow o_type (arrow o_type o_type)) ≡ Some (arrow Y (arrow X o_type)) = sym e ∙ f in
    let h : Y ≡ o_type = cc in
    let k : X ≡ o_type = cc in
    (h, k)

quantifier_is : (o : Option Ty) (T X : Ty) → o ≡ Some (arrow (arrow T o_type) o_type) → o ≡ Some (arrow X o_type) → X ≡ arrow T o_type
quantifier_is o T X e f = let g : Some (arrow (arrow T o_type) o_type) ≡ Some (arrow X o_type) = sym e ∙ f in cc

denied_is : (o : Option Ty) (X : Ty) → o ≡ Some (arrow o_type o_type) → o ≡ Some (arrow X o_type) → X ≡ o_type
denied_is o X e f = let g : Some (arrow o_type o_type) ≡ Some (arrow X o_type) = sym e ∙ f in cc

-- no goal without a connective at its top has the head of `=>`, `:-`, `not` or `!`
no_arrow : (τ : Atom → Option Ty) (C : List Ty) (us : List Term) → HaveTypes τ C (on_two o_type o_type) us o_type → (a : Term) × (b : Term) × (us ≡ a ∷ b ∷ [])
no_arrow τ C [] h = let g : arrow o_type (arrow o_type o_type) ≡ o_type = h in absurd (cc)
no_arrow τ C (a ∷ []) h = let g = h.2 in let f = h.4 in absurd (cc)
no_arrow τ C (a ∷ b ∷ []) h = (a, b, refl)
no_arrow τ C (a ∷ b ∷ x ∷ us) h = let g = h.2 in let f = h.4.2 in let e = h.4.4.2 in absurd (cc)

no_denial : (τ : Atom → Option Ty) (C : List Ty) (us : List Term) → HaveTypes τ C (arrow o_type o_type) us o_type → (a : Term) × (us ≡ a ∷ [])
no_denial τ C [] h = let g : arrow o_type o_type ≡ o_type = h in absurd (cc)
no_denial τ C (a ∷ []) h = (a, refl)
no_denial τ C (a ∷ b ∷ us) h = let g = h.2 in let f = h.4.2 in absurd (cc)

no_cut : (τ : Atom → Option Ty) (C : List Ty) (us : List Term) → HaveTypes τ C o_type us o_type → us ≡ []
no_cut τ C [] h = refl
no_cut τ C (a ∷ us) h = let g = h.2 in absurd (cc)

module _ (d : Declared) (std : IsStandard d) (k : ℕ) where
  abbrev Over : List Ty → Term → Type 0
  Over Γ t = IsOver d k Γ t

  plain_constant : (Γ : List Ty) (c : ℕ) (ts : List Ty) (us : List Term) → Typed (under d []) Γ (apply (atom (constant c ts)) us) o_type → connective_of_constant c ts us ≡ connective.Atomic → IsPositiveConstant c
  plain_constant Γ c ts us h e =
      others_are_positive c
      (λ q. not_two (transport (λ z. Typed (under d []) Γ (apply (atom (constant z ts)) us) o_type) q h) (transport (λ z. connective_of_constant z ts us ≡ connective.Atomic) q e))
      (λ q. not_three (transport (λ z. Typed (under d []) Γ (apply (atom (constant z ts)) us) o_type) q h) (transport (λ z. connective_of_constant z ts us ≡ connective.Atomic) q e))
      (λ q. not_seven (transport (λ z. Typed (under d []) Γ (apply (atom (constant z ts)) us) o_type) q h) (transport (λ z. connective_of_constant z ts us ≡ connective.Atomic) q e))
      (λ q. not_negation (transport (λ z. Typed (under d []) Γ (apply (atom (constant z ts)) us) o_type) q h) (transport (λ z. connective_of_constant z ts us ≡ connective.Atomic) q e))
    where
      not_two : Typed (under d []) Γ (apply (atom (constant 2 ts)) us) o_type → connective_of_constant 2 ts us ≡ connective.Atomic → ⊥
      not_two w f =
          let p = typed_parts (atom_type (under d [])) Γ (atom (constant 2 ts)) us o_type w in
          let s = plain_type ts (on_two o_type o_type) p.0 (sym (ap (scheme_type ts) (std.at 2 (omega arith))) ∙ p.1) in
          let a = no_arrow (atom_type (under d [])) Γ us (transport (λ z. HaveTypes (atom_type (under d [])) Γ z us o_type) s.1 p.2) in
          let g : connective_of_constant 2 [] (a.0 ∷ a.1 ∷ []) ≡ connective.Atomic = ap (connective_of_constant 2 []) (sym a.2) ∙ ap (λ z. connective_of_constant 2 z us) (sym s.0) ∙ f in
          absurd (cc)

      not_three : Typed (under d []) Γ (apply (atom (constant 3 ts)) us) o_type → connective_of_constant 3 ts us ≡ connective.Atomic → ⊥
      not_three w f =
          let p = typed_parts (atom_type (under d [])) Γ (atom (constant 3 ts)) us o_type w in
          let s = plain_type ts (on_two o_type o_type) p.0 (sym (ap (scheme_type ts) (std.at 3 (omega arith))) ∙ p.1) in
          let a = no_arrow (atom_type (under d [])) Γ us (transport (λ z. HaveTypes (atom_type (under d [])) Γ z us o_type) s.1 p.2) in
          let g : connective_of_constant 3 [] (a.0 ∷ a.1 ∷ []) ≡ connective.Atomic = ap (connective_of_constant 3 []) (sym a.2) ∙ ap (λ z. connective_of_constant 3 z us) (sym s.0) ∙ f in
          absurd (cc)

      not_negation : Typed (under d []) Γ (apply (atom (constant 24 ts)) us) o_type → connective_of_constant 24 ts us ≡ connective.Atomic → ⊥
      not_negation w f =
          let p = typed_parts (atom_type (under d [])) Γ (atom (constant 24 ts)) us o_type w in
          let s = plain_type ts (arrow o_type o_type) p.0 (sym (ap (scheme_type ts) (std.at 24 (omega arith))) ∙ p.1) in
          let a = no_denial (atom_type (under d [])) Γ us (transport (λ z. HaveTypes (atom_type (under d [])) Γ z us o_type) s.1 p.2) in
          let g : connective_of_constant 24 [] (a.0 ∷ []) ≡ connective.Atomic = ap (connective_of_constant 24 []) (sym a.1) ∙ ap (λ z. connective_of_constant 24 z us) (sym s.0) ∙ f in
          absurd (cc)

      not_seven : Typed (under d []) Γ (apply (atom (constant 7 ts)) us) o_type → connective_of_constant 7 ts us ≡ connective.Atomic → ⊥
      not_seven w f =
          let p = typed_parts (atom_type (under d [])) Γ (atom (constant 7 ts)) us o_type w in
          let s = plain_type ts o_type p.0 (sym (ap (scheme_type ts) (std.at 7 (omega arith))) ∙ p.1) in
          let a = no_cut (atom_type (under d [])) Γ us (transport (λ z. HaveTypes (atom_type (under d [])) Γ z us o_type) s.1 p.2) in
          let g : connective_of_constant 7 [] [] ≡ connective.Atomic = ap (connective_of_constant 7 []) (sym a) ∙ ap (λ z. connective_of_constant 7 z us) (sym s.0) ∙ f in
          absurd (cc)

  goal_head : (Γ : List Ty) (t : Term) → Over Γ t → connective_of t ≡ connective.Atomic → is_goal_head (head_of t) ≡ true → IsPlainTerm k (head_of t)
  goal_head Γ t o f g = go (head_of t) refl
    where
      at_head : (h : Term) → head_of t ≡ h → Within (IsQueryAtom k) (length Γ) h
      at_head h e = transport (Within (IsQueryAtom k) (length Γ)) e (head_within (IsQueryAtom k) (length Γ) t o.within)

      go : (h : Term) → head_of t ≡ h → IsPlainTerm k (head_of t)
      go (index i) e = transport (IsPlainTerm k) (sym e) tt
      go (atom (constant c ts)) e =
          let w = transport (λ z. Typed (under d []) Γ z o_type) (sym (apply_arguments t []) ∙ ap (λ z. apply z (arguments t)) e) o.typed in
          let r : connective_of_constant c ts (arguments t) ≡ connective.Atomic = ap (λ z. connective_at z (arguments t)) (sym e) ∙ f in
          transport (IsPlainTerm k) (sym e) (plain_constant Γ c ts (arguments t) w r, at_head (atom (constant c ts)) e)
      go (atom (integer z)) e = transport (IsPlainTerm k) (sym e) tt
      go (atom (text s)) e = transport (IsPlainTerm k) (sym e) tt
      go (atom (eigen j)) e = transport (IsPlainTerm k) (sym e) tt
      go (atom (logic x l)) e = transport (IsPlainTerm k) (sym e) tt
      go (atom (param j T)) e = transport (IsPlainTerm k) (sym e) (at_head (atom (param j T)) e)
      go (abs b) e = let r : is_goal_head (abs b) ≡ true = ap is_goal_head (sym e) ∙ g in absurd (cc)
      go (app u v) e = let r : is_goal_head (app u v) ≡ true = ap is_goal_head (sym e) ∙ g in absurd (cc)

  -- parts of formulas
  over_equal : (Γ : List Ty) (t u : Term) → t ≡ u → Over Γ t → Over Γ u
  over_equal Γ t u e o = transport (Over Γ) e o

  over_parts : (Γ : List Ty) (c : ℕ) (A B : Term) → scheme_type [] (d c) ≡ Some (arrow o_type (arrow o_type o_type)) → Over Γ (two c [] A B) → Over Γ A × Over Γ B
  over_parts Γ c A B s h =
      let t = h.typed in
      let e = two_is (scheme_type [] (d c)) t.0 t.1.0 s t.1.1 in
      (record { typed = transport (Typed (under d []) Γ A) e.0 t.1.2; within = h.within.0.1 }, record { typed = transport (Typed (under d []) Γ B) e.1 t.2; within = h.within.1 })

  over_two : (Γ : List Ty) (c : ℕ) (A B : Term) → scheme_type [] (d c) ≡ Some (arrow o_type (arrow o_type o_type)) → Over Γ A → Over Γ B → Over Γ (two c [] A B)
  over_two Γ c A B s a b = record { typed = (o_type, (o_type, s, a.typed), b.typed); within = ((tt, a.within), b.within) }

  over_argument : (Γ : List Ty) (g : Term) → Over Γ (not_of g) → Over Γ g
  over_argument Γ g h = record { typed = transport (Typed (under d []) Γ g) (denied_is (scheme_type [] (d 24)) h.typed.0 (ap (scheme_type []) (std.at 24 (omega arith))) h.typed.1) h.typed.2; within = h.within.1 }

  over_not : (Γ : List Ty) (g : Term) → Over Γ g → Over Γ (not_of g)
  over_not Γ g h = record { typed = (o_type, ap (scheme_type []) (std.at 24 (omega arith)), h.typed); within = (tt, h.within) }

  over_shift : (Γ : List Ty) (T : Ty) (t : Term) → Over Γ t → Over (T ∷ Γ) (shift 0 1 t)
  over_shift Γ T t h = record { typed = typed_shift (atom_type (under d [])) Γ T t o_type h.typed; within = within_shift (IsQueryAtom k) (length Γ) t h.within }

  over_body : (Γ : List Ty) (c : ℕ) (T : Ty) (s : Term) → scheme_type (T ∷ []) (d c) ≡ Some (arrow (arrow T o_type) o_type) → Over Γ (app (atom (constant c (T ∷ []))) s) → IsTypeBelow k T × Over (T ∷ Γ) (body_of s)
  over_body Γ c T s e h = (h.within.0.0, body s (transport (Typed (under d []) Γ s) (quantifier_is (scheme_type (T ∷ []) (d c)) T h.typed.0 e h.typed.1) h.typed.2) h.within.1)
    where
      raised : (s : Term) → Typed (under d []) Γ s (arrow T o_type) → Within (IsQueryAtom k) (length Γ) s → Over (T ∷ Γ) (app (shift 0 1 s) (index 0))
      raised s t w = record { typed = (T, typed_shift (atom_type (under d [])) Γ T s (arrow T o_type) t, refl); within = (within_shift (IsQueryAtom k) (length Γ) s w, omega arith) }

      body : (s : Term) → Typed (under d []) Γ s (arrow T o_type) → Within (IsQueryAtom k) (length Γ) s → Over (T ∷ Γ) (body_of s)
      body (abs b) t w =
          let p : T ≡ t.0 = (let g = t.2 in cc) in
          let q : o_type ≡ t.1 = (let g = t.2 in cc) in
          record { typed = transport (λ A. Typed (under d []) (A ∷ Γ) b o_type) (sym p) (transport (Typed (under d []) (t.0 ∷ Γ) b) (sym q) t.3); within = w }
      body (index i) t w = raised (index i) t w
      body (atom a) t w = raised (atom a) t w
      body (app u v) t w = raised (app u v) t w

  over_quantified : (Γ : List Ty) (c : ℕ) (T : Ty) (b : Term) → scheme_type (T ∷ []) (d c) ≡ Some (arrow (arrow T o_type) o_type) → IsTypeBelow k T → Over (T ∷ Γ) b → Over Γ (app (atom (constant c (T ∷ []))) (abs b))
  over_quantified Γ c T b e m h = record { typed = (arrow T o_type, e, (T, o_type, refl, h.typed)); within = ((m, tt), h.within) }

  over_all : (vs Γ : List Ty) (t : Term) → AreTypesBelow k vs → Over (vs ++ Γ) t → Over Γ (all_of vs t)
  over_all [] Γ t m o = o
  over_all (T ∷ vs) Γ t m o = over_all vs Γ (pi_of T (abs t)) m.1 (over_quantified (vs ++ Γ) 4 T t (pi_type d std T) m.0 o)

  over_truth : (Γ : List Ty) → Over Γ truth
  over_truth Γ = record { typed = ap (scheme_type []) (std.at 6 (omega arith)); within = tt }

  over_cut : (Γ : List Ty) → Over Γ cut
  over_cut Γ = record { typed = ap (scheme_type []) (std.at 7 (omega arith)); within = tt }

  -- goals and clauses put together
  none_fine : (Γ : List Ty) (B : List Bool) → AreFine d k Γ B no_goals
  none_fine Γ B = record { over = over_truth Γ; form = tt }

  in_front : (Γ : List Ty) (B : List Bool) (g : Goal) (rest : Goals) → Over Γ (formula_of_goal g) → IsGoal k B g → AreFine d k Γ B rest → AreFine d k Γ B (goals g rest)
  in_front Γ B g no_goals o h r = record { over = o; form = (h, tt) }
  in_front Γ B g (goals x xs) o h r = record { over = over_two Γ 0 (formula_of_goal g) (formula_of_goals (goals x xs)) (connective d std 0 (omega arith)) o r.over; form = (h, r.form) }

  raised_fine : (Γ : List Ty) (B : List Bool) (T : Ty) (gs : Goals) → AreFine d k Γ B gs → AreFine d k (T ∷ Γ) (false ∷ B) (raise_goals 0 gs)
  raised_fine Γ B T gs h = record { over = over_equal (T ∷ Γ) (shift 0 1 (formula_of_goals gs)) (formula_of_goals (raise_goals 0 gs)) (sym (formula_raise gs)) (over_shift Γ T (formula_of_goals gs) h.over); form = goals_raise k 0 B (false ∷ B) (raise_first B) gs h.form }

  first_over : (Γ : List Ty) (c : Clause) (cs : Clauses) → Over Γ (formula_of_clauses (clauses c cs)) → Over Γ (formula_of_clause c) × Over Γ (formula_of_clauses cs)
  first_over Γ c no_clauses o = (o, over_truth Γ)
  first_over Γ c (clauses e cs) o = over_parts Γ 0 (formula_of_clause c) (formula_of_clauses (clauses e cs)) (connective d std 0 (omega arith)) o

  cons_over : (Γ : List Ty) (c : Clause) (cs : Clauses) → Over Γ (formula_of_clause c) → Over Γ (formula_of_clauses cs) → Over Γ (formula_of_clauses (clauses c cs))
  cons_over Γ c no_clauses o p = o
  cons_over Γ c (clauses e cs) o p = over_two Γ 0 (formula_of_clause c) (formula_of_clauses (clauses e cs)) (connective d std 0 (omega arith)) o p

  add_fine : (Γ : List Ty) (B : List Bool) (l r : Clauses) → ClausesFine d k Γ B l → ClausesFine d k Γ B r → ClausesFine d k Γ B (add_clauses l r)
  add_fine Γ B no_clauses r x y = y
  add_fine Γ B (clauses c cs) r x y =
      let p = first_over Γ c cs x.over in
      let z = add_fine Γ B cs r (record { over = p.1; form = x.form.2 }) y in
      record { over = cons_over Γ c (add_clauses cs r) p.0 z.over; form = (x.form.0, x.form.1, z.form) }

  shifts_over : (Γ : List Ty) (T : Ty) (ts : List Term) → EachOf (Over Γ) ts → EachOf (Over (T ∷ Γ)) (map (shift 0 1) ts)
  shifts_over Γ T [] h = tt
  shifts_over Γ T (t ∷ ts) h = (over_shift Γ T t h.0, shifts_over Γ T ts h.1)

  one_fine : (Γ : List Ty) (B : List Bool) (vs : List Ty) (h : Term) (gs : Goals) → AreTypesBelow k vs → Over (vs ++ Γ) h → IsClauseHead (falses vs ++ B) (head_of h) → IsPlainTerm k h → AreFine d k (vs ++ Γ) (falses vs ++ B) gs → ClausesFine d k Γ B (clauses (clause 0 vs h gs) no_clauses)
  one_fine Γ B vs h no_goals m o i p g = record { over = over_all vs Γ h m o; form = (refl, (m, i, p, g.form), tt) }
  one_fine Γ B vs h (goals x xs) m o i p g = record { over = over_all vs Γ (two 2 [] (formula_of_goals (goals x xs)) h) m (over_two (vs ++ Γ) 2 (formula_of_goals (goals x xs)) h (connective d std 2 (omega arith)) g.over o); form = (refl, (m, i, p, g.form), tt) }

  mutual
    goal_fine : (n : ℕ) (B : List Bool) (t : Term) (rest gs : Goals) (Γ : List Ty) → flat_goal n d B t rest ≡ Some gs → Over Γ t → AreFine d k Γ B rest → AreFine d k Γ B gs
    goal_fine zero B t rest gs Γ e o r = absurd (cc)
    goal_fine (suc n) B t rest gs Γ e o r = form_fine n B t (connective_of t) refl (form_shape t) rest gs Γ e o r

    form_fine : (n : ℕ) (B : List Bool) (t : Term) (f : Connective) → connective_of t ≡ f → Shape f t → (rest gs : Goals) (Γ : List Ty) → flat_goal_form n d B t f rest ≡ Some gs → Over Γ t → AreFine d k Γ B rest → AreFine d k Γ B gs
    form_fine zero B t f is s rest gs Γ e o r = absurd (cc)
    form_fine (suc n) B t connective.True is s rest gs Γ e o r = transport (AreFine d k Γ B) (some_is rest gs e) r
    form_fine (suc n) B t connective.Cut is s rest gs Γ e o r = transport (AreFine d k Γ B) (some_is (goals Cut rest) gs e) (in_front Γ B Cut rest (over_cut Γ) tt r)
    form_fine (suc n) B t (connective.And a b) is s rest gs Γ e o r =
        let p = over_parts Γ 0 a b (connective d std 0 (omega arith)) (over_equal Γ t (two 0 [] a b) s o) in
        let q = and_then_some (flat_goal n d B b rest) (flat_goal n d B a) gs e in
        goal_fine n B a q.0 gs Γ q.2 p.0 (goal_fine n B b rest q.0 Γ q.1 p.1 r)
    form_fine (suc n) B t (connective.Or a b) is s rest gs Γ e o r =
        let p = over_parts Γ 1 a b (connective d std 1 (omega arith)) (over_equal Γ t (two 1 [] a b) s o) in
        let q = and_then_some (flat_goal n d B a no_goals) (λ l. option_map (λ m. goals (Either l m) rest) (flat_goal n d B b no_goals)) gs e in
        let z = option_map_some (flat_goal n d B b no_goals) (λ m. goals (Either q.0 m) rest) gs q.2 in
        let x = goal_fine n B a no_goals q.0 Γ q.1 p.0 (none_fine Γ B) in
        let y = goal_fine n B b no_goals z.0 Γ z.1 p.1 (none_fine Γ B) in
        transport (AreFine d k Γ B) z.2 (in_front Γ B (Either q.0 z.0) rest (over_two Γ 1 (formula_of_goals q.0) (formula_of_goals z.0) (connective d std 1 (omega arith)) x.over y.over) (x.form, y.form) r)
    form_fine (suc n) B t (connective.Implies c g) is (inl s) rest gs Γ e o r =
        let p = over_parts Γ 2 c g (connective d std 2 (omega arith)) (over_equal Γ t (two 2 [] c g) s o) in
        let q = and_then_some (flat_clause n d B c [] []) (λ cs. option_map (λ hs. goals (assuming cs hs) rest) (flat_goal n d B g no_goals)) gs e in
        let z = option_map_some (flat_goal n d B g no_goals) (λ hs. goals (assuming q.0 hs) rest) gs q.2 in
        let x = clause_fine n B c [] [] q.0 Γ q.1 tt p.0 tt in
        let y = goal_fine n B g no_goals z.0 Γ z.1 p.1 (none_fine Γ B) in
        transport (AreFine d k Γ B) z.2 (in_front Γ B (assuming q.0 z.0) rest (over_two Γ 2 (formula_of_clauses q.0) (formula_of_goals z.0) (connective d std 2 (omega arith)) x.over y.over) (x.form, y.form) r)
    form_fine (suc n) B t (connective.Implies c g) is (inr s) rest gs Γ e o r =
        let p = over_parts Γ 3 g c (connective d std 3 (omega arith)) (over_equal Γ t (two 3 [] g c) s o) in
        let q = and_then_some (flat_clause n d B c [] []) (λ cs. option_map (λ hs. goals (assuming cs hs) rest) (flat_goal n d B g no_goals)) gs e in
        let z = option_map_some (flat_goal n d B g no_goals) (λ hs. goals (assuming q.0 hs) rest) gs q.2 in
        let x = clause_fine n B c [] [] q.0 Γ q.1 tt p.1 tt in
        let y = goal_fine n B g no_goals z.0 Γ z.1 p.0 (none_fine Γ B) in
        transport (AreFine d k Γ B) z.2 (in_front Γ B (assuming q.0 z.0) rest (over_two Γ 2 (formula_of_clauses q.0) (formula_of_goals z.0) (connective d std 2 (omega arith)) x.over y.over) (x.form, y.form) r)
    form_fine (suc n) B t (connective.ForAll T b) is s rest gs Γ e o r =
        let p = over_body Γ 4 T s.0 (pi_type d std T) (over_equal Γ t (pi_of T s.0) s.1 o) in
        let z = option_map_some (flat_goal n d (true ∷ B) b no_goals) (λ hs. goals (Forall T hs) rest) gs e in
        let x = goal_fine n (true ∷ B) b no_goals z.0 (T ∷ Γ) z.1 (over_equal (T ∷ Γ) (body_of s.0) b (sym s.2) p.1) (none_fine (T ∷ Γ) (true ∷ B)) in
        transport (AreFine d k Γ B) z.2 (in_front Γ B (Forall T z.0) rest (over_quantified Γ 4 T (formula_of_goals z.0) (pi_type d std T) p.0 x.over) (p.0, x.form) r)
    form_fine (suc n) B t (connective.Exists T b) is s rest gs Γ e o r =
        let p = over_body Γ 5 T s.0 (sigma_type d std T) (over_equal Γ t (sigma_of T s.0) s.1 o) in
        let z = option_map_some (flat_goal n d (false ∷ B) b (raise_goals 0 rest)) (λ hs. goals (Exists T hs) no_goals) gs e in
        let x = goal_fine n (false ∷ B) b (raise_goals 0 rest) z.0 (T ∷ Γ) z.1 (over_equal (T ∷ Γ) (body_of s.0) b (sym s.2) p.1) (raised_fine Γ B T rest r) in
        transport (AreFine d k Γ B) z.2 (in_front Γ B (Exists T z.0) no_goals (over_quantified Γ 5 T (formula_of_goals z.0) (sigma_type d std T) p.0 x.over) (p.0, x.form) (none_fine Γ B))
    form_fine (suc n) B t (connective.Not g) is s rest gs Γ e o r =
        let p = over_argument Γ g (over_equal Γ t (not_of g) s o) in
        let z = option_map_some (flat_goal n d B g no_goals) (λ hs. goals (denied hs) rest) gs e in
        let x = goal_fine n B g no_goals z.0 Γ z.1 p (none_fine Γ B) in
        transport (AreFine d k Γ B) z.2 (in_front Γ B (denied z.0) rest (over_not Γ (formula_of_goals z.0) x.over) x.form r)
    form_fine (suc n) B t connective.Atomic is s rest gs Γ e o r =
        let q = only_some (is_goal_head (head_of t) && are_positive (arguments t)) (goals (Atomic t) rest) gs e in
        let h = both_true (is_goal_head (head_of t)) (are_positive (arguments t)) q.0 in
        transport (AreFine d k Γ B) q.1 (in_front Γ B (Atomic t) rest o (plain_spine k (length Γ) t [] h.1 o.within (goal_head Γ t o is h.0)).0 r)

    list_fine : (n : ℕ) (B : List Bool) (ts : List Term) (gs : Goals) (Γ : List Ty) → flat_list n d B ts ≡ Some gs → EachOf (Over Γ) ts → AreFine d k Γ B gs
    list_fine zero B ts gs Γ e h = absurd (cc)
    list_fine (suc n) B [] gs Γ e h = transport (AreFine d k Γ B) (some_is no_goals gs e) (none_fine Γ B)
    list_fine (suc n) B (t ∷ ts) gs Γ e h =
        let q = and_then_some (flat_list n d B ts) (flat_goal n d B t) gs e in
        goal_fine n B t q.0 gs Γ q.2 h.0 (list_fine n B ts q.0 Γ q.1 h.1)

    clause_fine : (n : ℕ) (B : List Bool) (c : Term) (vs : List Ty) (body : List Term) (cs : Clauses) (Γ : List Ty) → flat_clause n d (falses vs ++ B) c vs body ≡ Some cs → AreTypesBelow k vs → Over (vs ++ Γ) c → EachOf (Over (vs ++ Γ)) body → ClausesFine d k Γ B cs
    clause_fine zero B c vs body cs Γ e m o h = absurd (cc)
    clause_fine (suc n) B c vs body cs Γ e m o h = clause_form_fine n B c (connective_of c) (form_shape c) vs body cs Γ e m o h

    clause_form_fine : (n : ℕ) (B : List Bool) (c : Term) (f : Connective) → Shape f c → (vs : List Ty) (body : List Term) (cs : Clauses)
        (Γ : List Ty) → flat_clause_form n d (falses vs ++ B) c f vs body ≡ Some cs → AreTypesBelow k vs → Over (vs ++ Γ) c → EachOf (Over (vs ++ Γ))
        body → ClausesFine d k Γ B cs
    clause_form_fine zero B c f s vs body cs Γ e m o h = absurd (cc)
    clause_form_fine (suc n) B c connective.True s vs body cs Γ e m o h = absurd (cc)
    clause_form_fine (suc n) B c connective.Cut s vs body cs Γ e m o h = absurd (cc)
    clause_form_fine (suc n) B c (connective.Or a b) s vs body cs Γ e m o h = absurd (cc)
    clause_form_fine (suc n) B c (connective.Not g) s vs body cs Γ e m o h = absurd (cc)
    clause_form_fine (suc n) B c (connective.Exists T b) s vs body cs Γ e m o h = absurd (cc)
    clause_form_fine (suc n) B c (connective.And a b) s vs body cs Γ e m o h =
        let p = over_parts (vs ++ Γ) 0 a b (connective d std 0 (omega arith)) (over_equal (vs ++ Γ) c (two 0 [] a b) s o) in
        let q = and_then_some (flat_clause n d (falses vs ++ B) a vs body) (λ l. option_map (add_clauses l) (flat_clause n d (falses vs ++ B) b vs body)) cs e in
        let z = option_map_some (flat_clause n d (falses vs ++ B) b vs body) (add_clauses q.0) cs q.2 in
        transport (ClausesFine d k Γ B) z.2 (add_fine Γ B q.0 z.0 (clause_fine n B a vs body q.0 Γ q.1 m p.0 h) (clause_fine n B b vs body z.0 Γ z.1 m p.1 h))
    clause_form_fine (suc n) B c (connective.Implies g b) (inl s) vs body cs Γ e m o h =
        let p = over_parts (vs ++ Γ) 2 g b (connective d std 2 (omega arith)) (over_equal (vs ++ Γ) c (two 2 [] g b) s o) in
        clause_fine n B b vs (body ++ g ∷ []) cs Γ e m p.1 (each_append (Over (vs ++ Γ)) body (g ∷ []) h (p.0, tt))
    clause_form_fine (suc n) B c (connective.Implies g b) (inr s) vs body cs Γ e m o h =
        let p = over_parts (vs ++ Γ) 3 b g (connective d std 3 (omega arith)) (over_equal (vs ++ Γ) c (two 3 [] b g) s o) in
        clause_fine n B b vs (body ++ g ∷ []) cs Γ e m p.0 (each_append (Over (vs ++ Γ)) body (g ∷ []) h (p.1, tt))
    clause_form_fine (suc n) B c (connective.ForAll T b) s vs body cs Γ e m o h =
        let p = over_body (vs ++ Γ) 4 T s.0 (pi_type d std T) (over_equal (vs ++ Γ) c (pi_of T s.0) s.1 o) in
        clause_fine n B b (T ∷ vs) (map (shift 0 1) body) cs Γ e (p.0, m) (over_equal (T ∷ (vs ++ Γ)) (body_of s.0) b (sym s.2) p.1) (shifts_over (vs ++ Γ) T body h)
    clause_form_fine (suc n) B c connective.Atomic s vs body cs Γ e m o h =
        let q = and_then_some (only (is_clause_head d (falses vs ++ B) (head_of c) && are_positive (arguments c)) c) (λ u. option_map (λ gs. clauses (clause 0 vs u gs) no_clauses) (flat_list n d (falses vs ++ B) body)) cs e in
        let z = option_map_some (flat_list n d (falses vs ++ B) body) (λ gs. clauses (clause 0 vs q.0 gs) no_clauses) cs q.2 in
        let u = only_some (is_clause_head d (falses vs ++ B) (head_of c) && are_positive (arguments c)) c q.0 q.1 in
        let w = both_true (is_clause_head d (falses vs ++ B) (head_of c)) (are_positive (arguments c)) u.0 in
        let i = clause_head d (falses vs ++ B) (head_of c) w.0 in
        let l = list_fine n (falses vs ++ B) body z.0 (vs ++ Γ) z.1 h in
        let t = (plain_spine k (length (vs ++ Γ)) c [] w.1 o.within (plain_clause_head k (length (vs ++ Γ)) (falses vs ++ B) (head_of c) i (head_within (IsQueryAtom k) (length (vs ++ Γ)) c o.within))).0 in
        transport (ClausesFine d k Γ B) (ap (λ x. clauses (clause 0 vs x z.0) no_clauses) u.1 ∙ z.2) (one_fine Γ B vs c z.0 m o i t l)

  pub goals_fine : (n : ℕ) (B : List Bool) (t : Term) (gs : Goals) (Γ : List Ty) → flat_goal n d B t no_goals ≡ Some gs → IsOver d k Γ t → AreFine d k Γ B gs
  goals_fine n B t gs Γ e o = goal_fine n B t no_goals gs Γ e o (none_fine Γ B)

  pub clauses_fine : (n : ℕ) (c : Term) (cs : Clauses) (Γ : List Ty) → flat_clause n d [] c [] [] ≡ Some cs → IsOver d k Γ c → ClausesFine d k Γ [] cs
  clauses_fine n c cs Γ e o = clause_fine n [] c [] [] cs Γ e tt o tt

  pub first_of : (Γ : List Ty) (c : Clause) (cs : Clauses) → IsOver d k Γ (formula_of_clauses (clauses c cs)) → IsOver d k Γ (formula_of_clause c) × IsOver d k Γ (formula_of_clauses cs)
  first_of Γ c cs o = first_over Γ c cs o
