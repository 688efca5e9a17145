-- Formulas that reduce to formulas of pattern text flatten to pattern text.
use Rattle.std.proofs.Common.{◌≡◌, ℕ, zero, suc, List, [], ◌∷◌, ◌++◌, map, length, Some, Bool, true, false, refl, sym, ◌∙◌, subst as transport, inl, inr}
use Rattle.std.specs.Prelude.{◌&&◌, option_map}
use Rattle.lp_lemmas.proofs.Booleans.{and_true_left}
use Rattle.lp_calculus.specs.Types.{Ty}
use Rattle.lp_calculus.specs.Term.{Term, Atom, index, atom, abs, app, shift, constant}
use Rattle.lp_calculus.specs.Closed.{AllAtoms}
use Rattle.lp_calculus.specs.Convert.{ReducesTo}
use Rattle.lp_calculus.specs.Fill.{Within}
use Rattle.lp_calculus.specs.Normal.{IsHead}
use Rattle.lp_calculus.specs.Spine.{head_of, arguments}
use Rattle.lp_calculus.proofs.BetaEta.{shift_one}
use Rattle.lp_calculus.proofs.Fills.{within_shift}
use Rattle.lp_lemmas.specs.Each.{EachOf}
use Rattle.lp_lemmas.proofs.Each.{each_append, each_map}
use Rattle.lp_lemmas.proofs.Options.{and_then_some, option_map_some}
use Rattle.lp_standard.specs.Connectives.{two, body_of, Connective, connective_of}
use Rattle.lp_standard.specs.Connectives as connective
use Rattle.lp_standard.specs.Positive.{are_positive}
use Rattle.lp_model.specs.Flat.{Atomic, Cut, Either, Exists, Forall, assuming, denied, Goals, no_goals, goals, clause, Clauses, no_clauses, clauses, add_clauses, raise_goals}
use Rattle.lp_model.specs.Flatten.{only, is_goal_head, is_clause_head, flat_goal, flat_goal_form, flat_list, flat_clause, flat_clause_form}
use Rattle.lp_model.specs.Proofs.{Declared}
use Rattle.lp_proof_laws.proofs.Uniform.Forms.{Shape, form_shape}
use Rattle.lp_search_laws.specs.Started.{IsQueryAtom}
use Rattle.lp_search_laws.proofs.TypedFlats.{only_some, some_is}
use Rattle.lp_pattern_laws.specs.Binders.{Binder, universal, existential, IsPatternIn}
use Rattle.lp_pattern_laws.specs.Parts.{existentials}
use Rattle.lp_pattern_laws.specs.Goals.{IsTextAtom, IsWrittenText, AreClausesOf, AreTextGoals}
use Rattle.lp_pattern_laws.specs.Formulas.{IsTermAsClause, IsGoalText, goal_true, goal_cut, goal_both, goal_either, goal_assumes, goal_all, goal_some, goal_not, goal_atom, IsClauseText, clause_both, clause_when, clause_all, clause_term}
use Rattle.lp_pattern_laws.proofs.Comes.{reduces_raise}
use Rattle.lp_pattern_laws.proofs.FormulaReduced.{two_reduces, one_reduces, atomic_reduces}
use Rattle.lp_pattern_laws.proofs.FormulaRenamed.{goal_renamed}
use Rattle.lp_pattern_laws.proofs.PlainTerms.{IsPlain, plain_raised, plain_body, within_body, body_reduces, atoms_back}
use Rattle.lp_pattern_laws.proofs.TextsRaised.{moves_suc, texts_raised}

-- what a formula of pattern text is, by its connective
abbrev IsGoalForm : List Binder → Term → Connective → Type 0
IsGoalForm Γ t connective.True = Unit {0}
IsGoalForm Γ t connective.Cut = Unit {0}
IsGoalForm Γ t (connective.And a b) = IsGoalText Γ a × IsGoalText Γ b
IsGoalForm Γ t (connective.Or a b) = IsGoalText Γ a × IsGoalText Γ b
IsGoalForm Γ t (connective.Implies c g) = IsClauseText Γ c × IsGoalText Γ g
IsGoalForm Γ t (connective.ForAll T b) = IsGoalText (universal ∷ Γ) b
IsGoalForm Γ t (connective.Exists T b) = IsGoalText (existential ∷ Γ) b
IsGoalForm Γ t (connective.Not g) = IsGoalText Γ g
IsGoalForm Γ t connective.Atomic = IsPatternIn Γ t × AllAtoms IsTextAtom t

goal_form : (Γ : List Binder) {t : Term} → IsGoalText Γ t → (f : Connective) → connective_of t ≡ f → IsGoalForm Γ t f
goal_form Γ {t} (goal_true e) f i = transport (IsGoalForm Γ t) (sym e ∙ i) tt
goal_form Γ {t} (goal_cut e) f i = transport (IsGoalForm Γ t) (sym e ∙ i) tt
goal_form Γ {t} (goal_both e p q) f i = transport (IsGoalForm Γ t) (sym e ∙ i) (p, q)
goal_form Γ {t} (goal_either e p q) f i = transport (IsGoalForm Γ t) (sym e ∙ i) (p, q)
goal_form Γ {t} (goal_assumes e p q) f i = transport (IsGoalForm Γ t) (sym e ∙ i) (p, q)
goal_form Γ {t} (goal_all e p) f i = transport (IsGoalForm Γ t) (sym e ∙ i) p
goal_form Γ {t} (goal_some e p) f i = transport (IsGoalForm Γ t) (sym e ∙ i) p
goal_form Γ {t} (goal_not e p) f i = transport (IsGoalForm Γ t) (sym e ∙ i) p
goal_form Γ {t} (goal_atom e p w) f i = transport (IsGoalForm Γ t) (sym e ∙ i) (p, w)

abbrev IsClauseForm : List Binder → Term → Connective → Type 0
IsClauseForm Γ t (connective.And a b) = IsClauseText Γ a × IsClauseText Γ b
IsClauseForm Γ t (connective.Implies g c) = IsGoalText Γ g × IsClauseText Γ c
IsClauseForm Γ t (connective.ForAll T b) = IsClauseText (existential ∷ Γ) b
IsClauseForm Γ t connective.Atomic = IsPatternIn Γ t × AllAtoms IsTextAtom t
IsClauseForm Γ t connective.True = Unit {0}
IsClauseForm Γ t connective.Cut = Unit {0}
IsClauseForm Γ t (connective.Or a b) = Unit {0}
IsClauseForm Γ t (connective.Exists T b) = Unit {0}
IsClauseForm Γ t (connective.Not g) = Unit {0}

term_form : (Γ : List Binder) (t : Term) (f : Connective) → IsTermAsClause f → IsPatternIn Γ t × AllAtoms IsTextAtom t → IsClauseForm Γ t f
term_form Γ t connective.Atomic h p = p
term_form Γ t connective.True h p = tt
term_form Γ t connective.Cut h p = tt
term_form Γ t (connective.Or a b) h p = tt
term_form Γ t (connective.Exists T b) h p = tt
term_form Γ t (connective.Not g) h p = tt
term_form Γ t (connective.And a b) h p = absurd h
term_form Γ t (connective.Implies a b) h p = absurd h
term_form Γ t (connective.ForAll T b) h p = absurd h

clause_form : (Γ : List Binder) {t : Term} → IsClauseText Γ t → (f : Connective) → connective_of t ≡ f → IsClauseForm Γ t f
clause_form Γ {t} (clause_both e p q) f i = transport (IsClauseForm Γ t) (sym e ∙ i) (p, q)
clause_form Γ {t} (clause_when e p q) f i = transport (IsClauseForm Γ t) (sym e ∙ i) (p, q)
clause_form Γ {t} (clause_all e p) f i = transport (IsClauseForm Γ t) (sym e ∙ i) p
clause_form Γ {t} (clause_term h p w) f i = term_form Γ t f (transport IsTermAsClause i h) (p, w)

goal_head : (h : Term) → is_goal_head h ≡ true → IsHead h
goal_head (index i) e = tt
goal_head (atom a) e = tt
goal_head (abs b) e = absurd (cc)
goal_head (app t u) e = absurd (cc)

clause_head : (d : Declared) (B : List Bool) (h : Term) → is_clause_head d B h ≡ true → IsHead h
clause_head d B (index i) e = tt
clause_head d B (atom a) e = tt
clause_head d B (abs b) e = absurd (cc)
clause_head d B (app t u) e = absurd (cc)

with_atoms : (P Q : Atom → Type 0) (n : ℕ) (t : Term) → Within P n t → AllAtoms Q t → Within Q n t
with_atoms P Q n (index i) w h = w
with_atoms P Q n (atom a) w h = h
with_atoms P Q n (abs b) w h = with_atoms P Q (suc n) b w h
with_atoms P Q n (app t u) w h = (with_atoms P Q n t w.0 h.0, with_atoms P Q n u w.1 h.1)

added : (Γ : List Binder) (cs ds : Clauses) → AreClausesOf IsWrittenText Γ cs → AreClausesOf IsWrittenText Γ ds → AreClausesOf IsWrittenText Γ (add_clauses cs ds)
added Γ no_clauses ds h k = k
added Γ (clauses c cs) ds h k = (h.0, added Γ cs ds h.1 k)

module _ (k : ℕ) where
  -- beta-normal formulas over the indices, that reduce to formulas of pattern text
  pub record LeadsGoal (Γ : List Binder) (t : Term) : Type 0 where
    pub plain : IsPlain t
    pub within : Within (IsQueryAtom k) (length Γ) t
    pub form : Term
    pub reduces : ReducesTo t form
    pub text : IsGoalText Γ form

  pub record LeadsClause (Γ : List Binder) (t : Term) : Type 0 where
    pub plain : IsPlain t
    pub within : Within (IsQueryAtom k) (length Γ) t
    pub form : Term
    pub reduces : ReducesTo t form
    pub text : IsClauseText Γ form

  written : (Γ : List Binder) (t form : Term) → IsPlain t → Within (IsQueryAtom k) (length Γ) t → ReducesTo t form → IsPatternIn Γ form × AllAtoms IsTextAtom form → IsWrittenText Γ t
  written Γ t form p w r h = record { within = with_atoms (IsQueryAtom k) IsTextAtom (length Γ) t w (atoms_back IsTextAtom r p h.1); form = form; reduces = r; pattern = h.0 }

  leads_raised : (Γ : List Binder) (x : Binder) (t : Term) → LeadsGoal Γ t → LeadsGoal (x ∷ Γ) (shift 0 1 t)
  leads_raised Γ x t h = record {
    plain = plain_raised t h.plain;
    within = within_shift (IsQueryAtom k) (length Γ) t h.within;
    form = shift 0 1 h.form;
    reduces = reduces_raise h.reduces;
    text = transport (IsGoalText (x ∷ Γ)) (sym (shift_one h.form)) (goal_renamed suc Γ (x ∷ Γ) (moves_suc Γ x) h.text);
  }

  module _ (d : Declared) where
    assumed : (n : ℕ) (B : List Bool) (Γ : List Binder) (c g : Term) (rest gs : Goals) → flat_goal_form (suc n) d B c (connective.Implies c g) rest ≡
        Some gs → ((cs : Clauses) → flat_clause n d B c [] [] ≡ Some cs → AreClausesOf IsWrittenText Γ cs) →
        ((hs : Goals) → flat_goal n d B g no_goals ≡ Some hs → AreTextGoals Γ hs) → AreTextGoals Γ rest → AreTextGoals Γ gs
    assumed n B Γ c g rest gs e o p r =
        let q = and_then_some (flat_clause n d B c [] []) (λ cs. option_map (λ hs. goals (assuming cs hs) rest) (flat_goal n d B g no_goals)) gs e in
        let z = option_map_some (flat_goal n d B g no_goals) (λ hs. goals (assuming q.0 hs) rest) gs q.2 in
        transport (AreTextGoals Γ) z.2 ((o q.0 q.1, p z.0 z.1), r)

    mutual
      goal_flat : (n : ℕ) (B : List Bool) (Γ : List Binder) (t : Term) (rest gs : Goals) → flat_goal n d B t rest ≡ Some gs → LeadsGoal Γ t → AreTextGoals Γ rest → AreTextGoals Γ gs
      goal_flat zero B Γ t rest gs e o r = absurd (cc)
      goal_flat (suc n) B Γ t rest gs e o r = form_flat n B Γ t (connective_of t) refl (form_shape t) rest gs e o r

      form_flat : (n : ℕ) (B : List Bool) (Γ : List Binder) (t : Term) (f : Connective) → connective_of t ≡ f → Shape f t → (rest gs : Goals) →
          flat_goal_form n d B t f rest ≡ Some gs → LeadsGoal Γ t → AreTextGoals Γ rest → AreTextGoals Γ gs
      form_flat zero B Γ t f i s rest gs e o r = absurd (cc)
      form_flat (suc n) B Γ t connective.True i s rest gs e o r = transport (AreTextGoals Γ) (some_is rest gs e) r
      form_flat (suc n) B Γ t connective.Cut i s rest gs e o r = transport (AreTextGoals Γ) (some_is (goals Cut rest) gs e) (tt, r)
      form_flat (suc n) B Γ t (connective.And a b) i s rest gs e o r =
          let p = transport (LeadsGoal Γ) s o in
          let z = two_reduces 0 [] a b p.form p.reduces in
          let w = goal_form Γ (transport (IsGoalText Γ) z.is p.text) (connective.And z.left z.right) refl in
          let q = and_then_some (flat_goal n d B b rest) (flat_goal n d B a) gs e in
          goal_flat n B Γ a q.0 gs q.2 (record { plain = p.plain.1.2; within = p.within.0.1; form = z.left; reduces = z.left_reduces; text = w.0 })
          (goal_flat n B Γ b rest q.0 q.1 (record { plain = p.plain.2; within = p.within.1; form = z.right; reduces = z.right_reduces; text = w.1 }) r)
      form_flat (suc n) B Γ t (connective.Or a b) i s rest gs e o r =
          let p = transport (LeadsGoal Γ) s o in
          let z = two_reduces 1 [] a b p.form p.reduces in
          let w = goal_form Γ (transport (IsGoalText Γ) z.is p.text) (connective.Or z.left z.right) refl in
          let q = and_then_some (flat_goal n d B a no_goals) (λ l. option_map (λ m. goals (Either l m) rest) (flat_goal n d B b no_goals)) gs e in
          let y = option_map_some (flat_goal n d B b no_goals) (λ m. goals (Either q.0 m) rest) gs q.2 in
          transport (AreTextGoals Γ) y.2 (
            (
              goal_flat n B Γ a no_goals q.0 q.1 (record { plain = p.plain.1.2; within = p.within.0.1; form = z.left; reduces = z.left_reduces; text = w.0 }) tt,
              goal_flat n B Γ b no_goals y.0 y.1 (record { plain = p.plain.2; within = p.within.1; form = z.right; reduces = z.right_reduces; text = w.1 }) tt,
            ),
            r,
          )
      form_flat (suc n) B Γ t (connective.Implies c g) i (inl s) rest gs e o r =
          let p = transport (LeadsGoal Γ) s o in
          let z = two_reduces 2 [] c g p.form p.reduces in
          let w = goal_form Γ (transport (IsGoalText Γ) z.is p.text) (connective.Implies z.left z.right) refl in
          assumed n B Γ c g rest gs e
          (λ cs y. clause_flat n B Γ [] c [] cs y (record { plain = p.plain.1.2; within = p.within.0.1; form = z.left; reduces = z.left_reduces; text = w.0 }) tt)
          (λ hs y. goal_flat n B Γ g no_goals hs y (record { plain = p.plain.2; within = p.within.1; form = z.right; reduces = z.right_reduces; text = w.1 }) tt) r
      form_flat (suc n) B Γ t (connective.Implies c g) i (inr s) rest gs e o r =
          let p = transport (LeadsGoal Γ) s o in
          let z = two_reduces 3 [] g c p.form p.reduces in
          let w = goal_form Γ (transport (IsGoalText Γ) z.is p.text) (connective.Implies z.right z.left) refl in
          assumed n B Γ c g rest gs e
          (λ cs y. clause_flat n B Γ [] c [] cs y (record { plain = p.plain.2; within = p.within.1; form = z.right; reduces = z.right_reduces; text = w.0 }) tt)
          (λ hs y. goal_flat n B Γ g no_goals hs y (record { plain = p.plain.1.2; within = p.within.0.1; form = z.left; reduces = z.left_reduces; text = w.1 }) tt) r
      form_flat (suc n) B Γ t (connective.ForAll T b) i s rest gs e o r =
          let p = transport (LeadsGoal Γ) s.1 o in
          let z = one_reduces (constant 4 (T ∷ [])) s.0 p.form p.reduces in
          let w = goal_form Γ (transport (IsGoalText Γ) z.is p.text) (connective.ForAll T (body_of z.argument)) refl in
          let y = option_map_some (flat_goal n d (true ∷ B) b no_goals) (λ hs. goals (Forall T hs) rest) gs e in
          transport (AreTextGoals Γ) y.2 (
            goal_flat n (true ∷ B) (universal ∷ Γ) b no_goals y.0 y.1 (transport (LeadsGoal (universal ∷ Γ)) (sym s.2) (record {
              plain = plain_body s.0 p.plain.2;
              within = within_body (IsQueryAtom k) (length Γ) s.0 p.within.1;
              form = body_of z.argument;
              reduces = body_reduces z.reduces;
              text = w;
            })) tt,
            r,
          )
      form_flat (suc n) B Γ t (connective.Exists T b) i s rest gs e o r =
          let p = transport (LeadsGoal Γ) s.1 o in
          let z = one_reduces (constant 5 (T ∷ [])) s.0 p.form p.reduces in
          let w = goal_form Γ (transport (IsGoalText Γ) z.is p.text) (connective.Exists T (body_of z.argument)) refl in
          let y = option_map_some (flat_goal n d (false ∷ B) b (raise_goals 0 rest)) (λ hs. goals (Exists T hs) no_goals) gs e in
          transport (AreTextGoals Γ) y.2 (
            goal_flat n (false ∷ B) (existential ∷ Γ) b (raise_goals 0 rest) y.0 y.1 (transport (LeadsGoal (existential ∷ Γ)) (sym s.2) (record {
              plain = plain_body s.0 p.plain.2;
              within = within_body (IsQueryAtom k) (length Γ) s.0 p.within.1;
              form = body_of z.argument;
              reduces = body_reduces z.reduces;
              text = w;
            })) (texts_raised Γ existential rest r),
            tt,
          )
      form_flat (suc n) B Γ t (connective.Not g) i s rest gs e o r =
          let p = transport (LeadsGoal Γ) s o in
          let z = one_reduces (constant 24 []) g p.form p.reduces in
          let w = goal_form Γ (transport (IsGoalText Γ) z.is p.text) (connective.Not z.argument) refl in
          let y = option_map_some (flat_goal n d B g no_goals) (λ hs. goals (denied hs) rest) gs e in
          transport (AreTextGoals Γ) y.2 (goal_flat n B Γ g no_goals y.0 y.1 (record { plain = p.plain.2; within = p.within.1; form = z.argument; reduces = z.reduces; text = w }) tt, r)
      form_flat (suc n) B Γ t connective.Atomic i s rest gs e o r =
          let q = only_some (is_goal_head (head_of t) && are_positive (arguments t)) (goals (Atomic t) rest) gs e in
          let h = goal_head (head_of t) (and_true_left (is_goal_head (head_of t)) (are_positive (arguments t)) q.0) in
          transport (AreTextGoals Γ) q.1 (written Γ t o.form o.plain o.within o.reduces (goal_form Γ o.text connective.Atomic (atomic_reduces t o.form h o.reduces i)), r)

      list_flat : (n : ℕ) (B : List Bool) (Γ : List Binder) (ts : List Term) (gs : Goals) → flat_list n d B ts ≡ Some gs → EachOf (LeadsGoal Γ) ts → AreTextGoals Γ gs
      list_flat zero B Γ ts gs e h = absurd (cc)
      list_flat (suc n) B Γ [] gs e h = transport (AreTextGoals Γ) (some_is no_goals gs e) tt
      list_flat (suc n) B Γ (t ∷ ts) gs e h =
          let q = and_then_some (flat_list n d B ts) (flat_goal n d B t) gs e in
          goal_flat n B Γ t q.0 gs q.2 h.0 (list_flat n B Γ ts q.0 q.1 h.1)

      clause_flat : (n : ℕ) (B : List Bool) (Γ : List Binder) (vs : List Ty) (c : Term) (ts : List Term) (cs : Clauses) → flat_clause n d B c vs ts ≡
          Some cs → LeadsClause (existentials vs ++ Γ) c → EachOf (LeadsGoal (existentials vs ++ Γ)) ts → AreClausesOf IsWrittenText Γ cs
      clause_flat zero B Γ vs c ts cs e o h = absurd (cc)
      clause_flat (suc n) B Γ vs c ts cs e o h = clause_form_flat n B Γ vs c (connective_of c) refl (form_shape c) ts cs e o h

      clause_form_flat : (n : ℕ) (B : List Bool) (Γ : List Binder) (vs : List Ty) (c : Term) (f : Connective) → connective_of c ≡ f → Shape f c →
          (ts : List Term) (cs : Clauses) → flat_clause_form n d B c f vs ts ≡ Some cs →
          LeadsClause (existentials vs ++ Γ) c → EachOf (LeadsGoal (existentials vs ++ Γ)) ts → AreClausesOf IsWrittenText Γ cs
      clause_form_flat zero B Γ vs c f i s ts cs e o h = absurd (cc)
      clause_form_flat (suc n) B Γ vs c connective.True i s ts cs e o h = absurd (cc)
      clause_form_flat (suc n) B Γ vs c connective.Cut i s ts cs e o h = absurd (cc)
      clause_form_flat (suc n) B Γ vs c (connective.Or a b) i s ts cs e o h = absurd (cc)
      clause_form_flat (suc n) B Γ vs c (connective.Not g) i s ts cs e o h = absurd (cc)
      clause_form_flat (suc n) B Γ vs c (connective.Exists T b) i s ts cs e o h = absurd (cc)
      clause_form_flat (suc n) B Γ vs c (connective.And a b) i s ts cs e o h =
          let p = transport (LeadsClause (existentials vs ++ Γ)) s o in
          let z = two_reduces 0 [] a b p.form p.reduces in
          let w = clause_form (existentials vs ++ Γ) (transport (IsClauseText (existentials vs ++ Γ)) z.is p.text) (connective.And z.left z.right) refl in
          let q = and_then_some (flat_clause n d B a vs ts) (λ l. option_map (add_clauses l) (flat_clause n d B b vs ts)) cs e in
          let y = option_map_some (flat_clause n d B b vs ts) (add_clauses q.0) cs q.2 in
          transport (AreClausesOf IsWrittenText Γ) y.2 (added Γ q.0 y.0
          (clause_flat n B Γ vs a ts q.0 q.1 (record { plain = p.plain.1.2; within = p.within.0.1; form = z.left; reduces = z.left_reduces; text = w.0 }) h)
          (clause_flat n B Γ vs b ts y.0 y.1 (record { plain = p.plain.2; within = p.within.1; form = z.right; reduces = z.right_reduces; text = w.1 }) h))
      clause_form_flat (suc n) B Γ vs c (connective.Implies g b) i (inl s) ts cs e o h =
          let p = transport (LeadsClause (existentials vs ++ Γ)) s o in
          let z = two_reduces 2 [] g b p.form p.reduces in
          let w = clause_form (existentials vs ++ Γ) (transport (IsClauseText (existentials vs ++ Γ)) z.is p.text) (connective.Implies z.left z.right) refl in
          clause_flat n B Γ vs b (ts ++ g ∷ []) cs e (record { plain = p.plain.2; within = p.within.1; form = z.right; reduces = z.right_reduces; text = w.1 })
          (each_append (LeadsGoal (existentials vs ++ Γ)) ts (g ∷ []) h (record { plain = p.plain.1.2; within = p.within.0.1; form = z.left; reduces = z.left_reduces; text = w.0 }, tt))
      clause_form_flat (suc n) B Γ vs c (connective.Implies g b) i (inr s) ts cs e o h =
          let p = transport (LeadsClause (existentials vs ++ Γ)) s o in
          let z = two_reduces 3 [] b g p.form p.reduces in
          let w = clause_form (existentials vs ++ Γ) (transport (IsClauseText (existentials vs ++ Γ)) z.is p.text) (connective.Implies z.right z.left) refl in
          clause_flat n B Γ vs b (ts ++ g ∷ []) cs e (record { plain = p.plain.1.2; within = p.within.0.1; form = z.left; reduces = z.left_reduces; text = w.1 })
          (each_append (LeadsGoal (existentials vs ++ Γ)) ts (g ∷ []) h (record { plain = p.plain.2; within = p.within.1; form = z.right; reduces = z.right_reduces; text = w.0 }, tt))
      clause_form_flat (suc n) B Γ vs c (connective.ForAll T b) i s ts cs e o h =
          let p = transport (LeadsClause (existentials vs ++ Γ)) s.1 o in
          let z = one_reduces (constant 4 (T ∷ [])) s.0 p.form p.reduces in
          let w = clause_form (existentials vs ++ Γ) (transport (IsClauseText (existentials vs ++ Γ)) z.is p.text) (connective.ForAll T (body_of z.argument)) refl in
          clause_flat n (false ∷ B) Γ (T ∷ vs) b (map (shift 0 1) ts) cs e (transport (LeadsClause (existential ∷ (existentials vs ++ Γ))) (sym s.2) (record {
            plain = plain_body s.0 p.plain.2;
            within = within_body (IsQueryAtom k) (length (existentials vs ++ Γ)) s.0 p.within.1;
            form = body_of z.argument;
            reduces = body_reduces z.reduces;
            text = w;
          })) (each_map (LeadsGoal (existentials vs ++ Γ)) (LeadsGoal (existential ∷ (existentials vs ++ Γ))) (shift 0 1) (leads_raised (existentials vs ++ Γ) existential) ts h)
      clause_form_flat (suc n) B Γ vs c connective.Atomic i s ts cs e o h =
          let q = and_then_some (only (is_clause_head d B (head_of c) && are_positive (arguments c)) c) (λ u. option_map (λ gs. clauses (clause 0 vs u gs) no_clauses) (flat_list n d B ts)) cs e in
          let z = option_map_some (flat_list n d B ts) (λ gs. clauses (clause 0 vs q.0 gs) no_clauses) cs q.2 in
          let y = only_some (is_clause_head d B (head_of c) && are_positive (arguments c)) c q.0 q.1 in
          let l = clause_head d B (head_of c) (and_true_left (is_clause_head d B (head_of c)) (are_positive (arguments c)) y.0) in
          let w : IsWrittenText (existentials vs ++ Γ) c = written (existentials vs ++ Γ) c o.form o.plain o.within o.reduces
          (clause_form (existentials vs ++ Γ) o.text connective.Atomic (atomic_reduces c o.form l o.reduces i)) in
          transport (AreClausesOf IsWrittenText Γ) z.2 ((transport (IsWrittenText (existentials vs ++ Γ)) y.1 w, list_flat n B (existentials vs ++ Γ) ts z.0 z.1 h), tt)

    pub goals_text : (n : ℕ) (B : List Bool) (Γ : List Binder) (t : Term) (gs : Goals) → flat_goal n d B t no_goals ≡ Some gs → LeadsGoal Γ t → AreTextGoals Γ gs
    goals_text n B Γ t gs e o = goal_flat n B Γ t no_goals gs e o tt

    pub clauses_text : (n : ℕ) (B : List Bool) (c : Term) (cs : Clauses) → flat_clause n d B c [] [] ≡ Some cs → LeadsClause [] c → AreClausesOf IsWrittenText [] cs
    clauses_text n B c cs e o = clause_flat n B [] [] c [] cs e o tt
