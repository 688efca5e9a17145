-- What flattened clauses stand for: one can focus on them, for an atom, exactly where one can focus on the clause.
use Rattle.std.proofs.Common.{◌≡◌, ℕ, List, [], ◌∷◌, ◌++◌, map, length, refl, sym, ap, subst, arith, inl, inr}
use Rattle.std.specs.Prelude.{◌⊎◌, true, false}
use Rattle.lp_calculus.specs.Types.{Ty}
use Rattle.lp_calculus.specs.Term.{Term, app, abs, shift}
use Rattle.lp_calculus.specs.Typing.{o_type, atom_type}
use Rattle.lp_calculus.specs.Closed.{AreClosed, IsClosedType, IsClosedAtom}
use Rattle.lp_calculus.proofs.Steps.{converts_sym}
use Rattle.lp_calculus.proofs.Subject.{typed_shift}
use Rattle.lp_calculus.proofs.Fills.{within_shift}
use Rattle.lp_model.specs.Index.{instantiate}
use Rattle.lp_calculus.specs.Spine.{head_of}
use Rattle.lp_lemmas.specs.Each.{EachOf}
use Rattle.lp_standard.specs.Connectives.{truth, two, pi_of, body_of}
use Rattle.lp_model.specs.Flat.{Goals, no_goals, goals, Clause, clause, Clauses, no_clauses, clauses, add_clauses, all_of, formula_of_goals, formula_of_clause, formula_of_clauses}
use Rattle.lp_model.specs.Flatten.{ClauseFormula}
use Rattle.lp_proof_laws.proofs.Uniform.Settings.{IsSetting}
use Rattle.lp_model.specs.Proofs.{Declared, under, IsWitness, IsAtomHead, FAll, FTake, FNeed, Leaves, ProvableBy, FocusableBy}
use Rattle.lp_proof_laws.proofs.Uniform.Formulas.{quantified, at_witness}
use Rattle.lp_proof_laws.proofs.Uniform.Openings.{cons, IsOpen, Fits, open_formula, fits_cons, abs_at, body_at, past_shift, open_two, open_parts, open_function, open_body, open_quantified}
use Rattle.lp_proof_laws.proofs.Uniform.Roots.{connective, pi_type}
use Rattle.lp_proof_laws.proofs.Uniform.FocusRoots.{fconv, truth_focus, both_focus, pi_focus, implied_focus, if_focus}
use Rattle.lp_proof_laws.proofs.Flattened.FlatGoals.{open_truth, truth_proved, ClauseLaw}

-- a formula under goals, the outermost first
abbrev pub imps : List Term → Term → Term
imps [] c = c
imps (g ∷ gs) c = two 2 [] g (imps gs c)

pub imps_append : (gs : List Term) (g c : Term) → imps (gs ++ g ∷ []) c ≡ imps gs (two 2 [] g c)
imps_append [] g c = refl
imps_append (h ∷ gs) g c = ap (two 2 [] h) (imps_append gs g c)

module _ {L : Leaves} (d : Declared) (std : IsSetting L d) where
  EachOpen : List Ty → List Term → Type 0
  EachOpen Γ ts = EachOf (λ t. IsOpen d Γ t o_type) ts

  EachProvable : (E : List Ty) (P : List ClauseFormula) (θ : ℕ → Term) → List Term → Type 0
  EachProvable E P θ ts = EachOf (λ t. ProvableBy L d E P (instantiate θ t)) ts

  pub open_imps : (Γ : List Ty) (gs : List Term) (c : Term) → EachOf (λ t. IsOpen d Γ t o_type) gs → IsOpen d Γ c o_type → IsOpen d Γ (imps gs c) o_type
  open_imps Γ [] c h o = o
  open_imps Γ (g ∷ gs) c h o = open_two d Γ 2 g (imps gs c) (connective d std.standard 2 (omega arith)) h.0 (open_imps Γ gs c h.1 o)

  pub open_all : (vs Γ : List Ty) (c : Term) → AreClosed vs → IsOpen d (vs ++ Γ) c o_type → IsOpen d Γ (all_of vs c) o_type
  open_all [] Γ c k o = o
  open_all (T ∷ vs) Γ c k o = open_all vs Γ (pi_of T (abs c)) k.1 (open_quantified d (vs ++ Γ) 4 T c (pi_type d std.standard T) k.0 o)

  pub open_shift : (Γ : List Ty) (T : Ty) (t : Term) → IsOpen d Γ t o_type → IsOpen d (T ∷ Γ) (shift 0 1 t) o_type
  open_shift Γ T t o = record { typed = typed_shift (atom_type (under d [])) Γ T t o_type o.typed; within = within_shift (IsClosedAtom 0) (length Γ) t o.within }

  pub open_shifts : (Γ : List Ty) (T : Ty) (ts : List Term) → EachOf (λ t. IsOpen d Γ t o_type) ts → EachOf (λ t. IsOpen d (T ∷ Γ) t o_type) (map (shift 0 1) ts)
  open_shifts Γ T [] h = tt
  open_shifts Γ T (t ∷ ts) h = (open_shift Γ T t h.0, open_shifts Γ T ts h.1)

  -- one can focus on Y or on Z where one can focus on X
  unfoldable pub Chooses : List Ty → (X Y Z : Term) → Type 0
  Chooses Γ X Y Z = (E : List Ty) (P : List ClauseFormula) (θ : ℕ → Term) (A : Term) → Fits d E Γ θ → IsAtomHead (head_of A) → FocusableBy L d E P (instantiate θ X) A → FocusableBy L d E P (instantiate θ Y) A ⊎ FocusableBy L d E P (instantiate θ Z) A

  into_pi : (Γ : List Ty) (T : Ty) (Y : Term) (E : List Ty) (P : List ClauseFormula) (θ : ℕ → Term) (A w : Term) → IsOpen d (T ∷ Γ) Y o_type → Fits d E (T ∷ Γ) (cons w θ) → IsWitness d E w T → FocusableBy L d E P (instantiate (cons w θ) Y) A → FocusableBy L d E P (instantiate θ (pi_of T (abs Y))) A
  into_pi Γ T Y E P θ A w o g i r =
      let z = fconv d E P (instantiate (cons w θ) Y) (app (instantiate θ (abs Y)) w) A (open_formula d E (T ∷ Γ) (cons w θ) Y g o) (converts_sym (abs_at w θ Y)) r in
      record { focus = FAll w z.focus; holds = (T, _, refl, i, z.holds) }

  pi_chooses : (Γ : List Ty) (T : Ty) (X Y Z : Term) → IsClosedType T → IsOpen d (T ∷ Γ) X o_type → IsOpen d (T ∷ Γ) Y o_type → IsOpen d (T ∷ Γ) Z o_type → Chooses (T ∷ Γ) X Y Z → Chooses Γ (pi_of T (abs X)) (pi_of T (abs Y)) (pi_of T (abs Z))
  unfolding Chooses
  pi_chooses Γ T X Y Z k ox oy oz c E P θ A f at r =
      let fine = open_formula d E Γ θ (pi_of T (abs X)) f (open_quantified d Γ 4 T X (pi_type d std.standard T) k ox) in
      let q = pi_focus d std.standard E P A at T (instantiate θ (abs X)) fine r in
      let w = q.0 in
      let g = fits_cons d E Γ θ w T f (q.1.typed, q.1.closed) in
      let fs = at_witness d E T (instantiate θ (abs X)) w (quantified d E 4 T (instantiate θ (abs X)) (pi_type d std.standard T) fine) q.1 in
      let x = fconv d E P (app (instantiate θ (abs X)) w) (instantiate (cons w θ) X) A fs (abs_at w θ X) q.2 in
      elim (c E P (cons w θ) A g at x) [
        | inl y ↦ inl (into_pi Γ T Y E P θ A w oy g q.1 y)
        | inr z ↦ inr (into_pi Γ T Z E P θ A w oz g q.1 z)
      ]

  pub all_chooses : (vs Γ : List Ty) (X Y Z : Term) → AreClosed vs → IsOpen d (vs ++ Γ) X o_type → IsOpen d (vs ++ Γ) Y o_type → IsOpen d (vs ++ Γ) Z o_type → Chooses (vs ++ Γ) X Y Z → Chooses Γ (all_of vs X) (all_of vs Y) (all_of vs Z)
  all_chooses [] Γ X Y Z k ox oy oz c = c
  all_chooses (T ∷ vs) Γ X Y Z k ox oy oz c =
      let q : (t : Term) → IsOpen d (T ∷ (vs ++ Γ)) t o_type → IsOpen d (vs ++ Γ) (pi_of T (abs t)) o_type = λ t o. open_quantified d (vs ++ Γ) 4 T t (pi_type d std.standard T) k.0 o in
      all_chooses vs Γ (pi_of T (abs X)) (pi_of T (abs Y)) (pi_of T (abs Z)) k.1 (q X ox) (q Y oy) (q Z oz) (pi_chooses (vs ++ Γ) T X Y Z k.0 ox oy oz c)

  -- a formula under goals is focused on where the goals are provable and the formula is focused on
  pub imps_split : (Γ : List Ty) (gs : List Term) (X : Term) → EachOf (λ t. IsOpen d Γ t o_type) gs → IsOpen d Γ X o_type → (E : List Ty)
      (P : List ClauseFormula) (θ : ℕ → Term) (A : Term) → Fits d E Γ θ → IsAtomHead (head_of A) → FocusableBy L d E P (instantiate θ (imps gs X)) A →
      EachOf (λ t. ProvableBy L d E P (instantiate θ t)) gs × FocusableBy L d E P (instantiate θ X) A
  imps_split Γ [] X h o E P θ A f at r = (tt, r)
  imps_split Γ (g ∷ gs) X h o E P θ A f at r =
      let q = implied_focus d std.standard E P A at (instantiate θ g) (instantiate θ (imps gs X)) (open_formula d E Γ θ (imps (g ∷ gs) X) f (open_imps Γ (g ∷ gs) X h o)) r in
      let s = imps_split Γ gs X h.1 o E P θ A f at q.1 in
      ((q.0, s.0), s.1)

  pub imps_join : (gs : List Term) (X : Term) (E : List Ty) (P : List ClauseFormula) (θ : ℕ → Term) (A : Term) → EachOf (λ t. ProvableBy L d E P (instantiate θ t)) gs → FocusableBy L d E P (instantiate θ X) A → FocusableBy L d E P (instantiate θ (imps gs X)) A
  imps_join [] X E P θ A p r = r
  imps_join (g ∷ gs) X E P θ A p r = let s = imps_join gs X E P θ A p.1 r in record { focus = FNeed p.0.proof s.focus; holds = (_, _, inl refl, p.0.holds, s.holds) }

  pub imps_chooses : (Γ : List Ty) (gs : List Term) (X Y Z : Term) → EachOf (λ t. IsOpen d Γ t o_type) gs → IsOpen d Γ X o_type → Chooses Γ X Y Z → Chooses Γ (imps gs X) (imps gs Y) (imps gs Z)
  unfolding Chooses
  imps_chooses Γ gs X Y Z h o c E P θ A f at r =
      let s = imps_split Γ gs X h o E P θ A f at r in
      elim (c E P θ A f at s.1) [
        | inl y ↦ inl (imps_join gs Y E P θ A s.0 y)
        | inr z ↦ inr (imps_join gs Z E P θ A s.0 z)
      ]

  -- a clause that one can focus on instead has the same flattened clauses
  pub law_via : (Γ : List Ty) (D D' : Term) (cs : Clauses) → ClauseLaw d std Γ D cs → Chooses Γ D' D D → Chooses Γ D D' D' → ClauseLaw d std Γ D' cs
  unfolding Chooses
  law_via Γ D D' cs l to from = record {
    opens = l.opens;
    to = λ E P θ A f at r. elim (to E P θ A f at r) [ inl x ↦ l.to E P θ A f at x | inr x ↦ l.to E P θ A f at x ];
    from = λ E P θ A f at r. elim (from E P θ A f at (l.from E P θ A f at r)) [ inl x ↦ x | inr x ↦ x ];
  }

  -- lists of clauses

  open_first : (Γ : List Ty) (c : Clause) (cs : Clauses) → IsOpen d Γ (formula_of_clauses (clauses c cs)) o_type → IsOpen d Γ (formula_of_clause c) o_type × IsOpen d Γ (formula_of_clauses cs) o_type
  open_first Γ c no_clauses o = (o, open_truth d std Γ)
  open_first Γ c (clauses e cs) o = open_parts d Γ 0 (formula_of_clause c) (formula_of_clauses (clauses e cs)) (connective d std.standard 0 (omega arith)) o

  open_cons : (Γ : List Ty) (c : Clause) (cs : Clauses) → IsOpen d Γ (formula_of_clause c) o_type → IsOpen d Γ (formula_of_clauses cs) o_type → IsOpen d Γ (formula_of_clauses (clauses c cs)) o_type
  open_cons Γ c no_clauses o p = o
  open_cons Γ c (clauses e cs) o p = open_two d Γ 0 (formula_of_clause c) (formula_of_clauses (clauses e cs)) (connective d std.standard 0 (omega arith)) o p

  module _ (Γ : List Ty) (E : List Ty) (P : List ClauseFormula) (θ : ℕ → Term) (A : Term) (f : Fits d E Γ θ) (at : IsAtomHead (head_of A)) where
    On : Clauses → Type 0
    On cs = FocusableBy L d E P (instantiate θ (formula_of_clauses cs)) A

    OnOne : Clause → Type 0
    OnOne c = FocusableBy L d E P (instantiate θ (formula_of_clause c)) A

    cons_split : (c : Clause) (cs : Clauses) → IsOpen d Γ (formula_of_clauses (clauses c cs)) o_type → On (clauses c cs) → OnOne c ⊎ On cs
    unfolding On OnOne
    cons_split c no_clauses o r = inl r
    cons_split c (clauses e cs) o r = both_focus d std.standard E P A at (instantiate θ (formula_of_clause c)) (instantiate θ (formula_of_clauses (clauses e cs))) (open_formula d E Γ θ (formula_of_clauses (clauses c (clauses e cs))) f o) r

    cons_first : (c : Clause) (cs : Clauses) → OnOne c → On (clauses c cs)
    unfolding On OnOne
    cons_first c no_clauses r = r
    cons_first c (clauses e cs) r = record { focus = FTake false r.focus; holds = (_, _, refl, r.holds) }

    cons_rest : (c : Clause) (cs : Clauses) → On cs → On (clauses c cs)
    unfolding On
    cons_rest c no_clauses r = absurd (truth_focus d std.standard E P A at (open_formula d E Γ θ truth f (open_truth d std Γ)) r)
    cons_rest c (clauses e cs) r = record { focus = FTake true r.focus; holds = (_, _, refl, r.holds) }

    add_split : (cs es : Clauses) → IsOpen d Γ (formula_of_clauses (add_clauses cs es)) o_type → On (add_clauses cs es) → On cs ⊎ On es
    add_split no_clauses es o r = inr r
    add_split (clauses c cs) es o r = elim (cons_split c (add_clauses cs es) o r) [
      | inl x ↦ inl (cons_first c cs x)
      | inr x ↦ elim (add_split cs es (open_first Γ c (add_clauses cs es) o).1 x) [ inl y ↦ inl (cons_rest c cs y) | inr y ↦ inr y ]
    ]

    add_left : (cs es : Clauses) → IsOpen d Γ (formula_of_clauses cs) o_type → On cs → On (add_clauses cs es)
    unfolding On
    add_left no_clauses es o r = absurd (truth_focus d std.standard E P A at (open_formula d E Γ θ truth f (open_truth d std Γ)) r)
    add_left (clauses c cs) es o r = elim (cons_split c cs o r) [
      | inl x ↦ cons_first c (add_clauses cs es) x
      | inr x ↦ cons_rest c (add_clauses cs es) (add_left cs es (open_first Γ c cs o).1 x)
    ]

    add_right : (cs es : Clauses) → On es → On (add_clauses cs es)
    add_right no_clauses es r = r
    add_right (clauses c cs) es r = cons_rest c (add_clauses cs es) (add_right cs es r)

  open_add : (Γ : List Ty) (cs es : Clauses) → IsOpen d Γ (formula_of_clauses cs) o_type → IsOpen d Γ (formula_of_clauses es) o_type → IsOpen d Γ (formula_of_clauses (add_clauses cs es)) o_type
  open_add Γ no_clauses es o p = p
  open_add Γ (clauses c cs) es o p = let q = open_first Γ c cs o in open_cons Γ c (add_clauses cs es) q.0 (open_add Γ cs es q.1 p)

  -- the forms of clauses; vs are the variables and body the goals around them

  module _ (vs Γ : List Ty) (body : List Term) (k : AreClosed vs) (hb : EachOf (λ t. IsOpen d (vs ++ Γ) t o_type) body) where
    abbrev around : Term → Term
    around c = all_of vs (imps body c)

    around_chooses : (X Y Z : Term) → IsOpen d (vs ++ Γ) X o_type → IsOpen d (vs ++ Γ) Y o_type → IsOpen d (vs ++ Γ) Z o_type → Chooses (vs ++ Γ) X Y Z → Chooses Γ (around X) (around Y) (around Z)
    around_chooses X Y Z ox oy oz c =
        all_chooses vs Γ (imps body X) (imps body Y) (imps body Z) k (open_imps (vs ++ Γ) body X hb ox) (open_imps (vs ++ Γ) body Y hb oy) (open_imps (vs ++ Γ) body Z hb oz) (imps_chooses (vs ++ Γ) body X Y Z hb ox c)

    both_chooses : (a b : Term) → IsOpen d (vs ++ Γ) (two 0 [] a b) o_type → Chooses (vs ++ Γ) (two 0 [] a b) a b
    unfolding Chooses
    both_chooses a b o E P θ A f at r = both_focus d std.standard E P A at (instantiate θ a) (instantiate θ b) (open_formula d E (vs ++ Γ) θ (two 0 [] a b) f o) r

    take_left : (a b : Term) → Chooses (vs ++ Γ) a (two 0 [] a b) (two 0 [] a b)
    unfolding Chooses
    take_left a b E P θ A f at r = inl (record { focus = FTake false r.focus; holds = (_, _, refl, r.holds) })

    take_right : (a b : Term) → Chooses (vs ++ Γ) b (two 0 [] a b) (two 0 [] a b)
    unfolding Chooses
    take_right a b E P θ A f at r = inl (record { focus = FTake true r.focus; holds = (_, _, refl, r.holds) })

    one_of : (X Y : Term) → Chooses Γ X Y Y → (E : List Ty) (P : List ClauseFormula) (θ : ℕ → Term) (A : Term) → Fits d E Γ θ → IsAtomHead (head_of A) → FocusableBy L d E P (instantiate θ X) A → FocusableBy L d E P (instantiate θ Y) A
    unfolding Chooses
    one_of X Y c E P θ A f at r = elim (c E P θ A f at r) [ inl x ↦ x | inr x ↦ x ]

    pub both_clauses : (a b : Term) (l r : Clauses) → IsOpen d (vs ++ Γ) (two 0 [] a b) o_type → ClauseLaw d std Γ (around a) l → ClauseLaw d std Γ (around b) r → ClauseLaw d std Γ (around (two 0 [] a b)) (add_clauses l r)
    unfolding Chooses On
    both_clauses a b l r o x y =
        let ab = open_parts d (vs ++ Γ) 0 a b (connective d std.standard 0 (omega arith)) o in
        let opens = open_add Γ l r x.opens y.opens in
        let apart = around_chooses (two 0 [] a b) a b o ab.0 ab.1 (both_chooses a b o) in
        let left = around_chooses a (two 0 [] a b) (two 0 [] a b) ab.0 o o (take_left a b) in
        let right = around_chooses b (two 0 [] a b) (two 0 [] a b) ab.1 o o (take_right a b) in
        record {
          opens = opens;
          to = λ E P θ A f at q. elim (apart E P θ A f at q) [
            | inl z ↦ add_left Γ E P θ A f at l r x.opens (x.to E P θ A f at z)
            | inr z ↦ add_right Γ E P θ A f at l r (y.to E P θ A f at z)
          ];
          from = λ E P θ A f at q. elim (add_split Γ E P θ A f at l r opens q) [
            | inl z ↦ one_of (around a) (around (two 0 [] a b)) left E P θ A f at (x.from E P θ A f at z)
            | inr z ↦ one_of (around b) (around (two 0 [] a b)) right E P θ A f at (y.from E P θ A f at z)
          ];
        }

    pub implied_clauses : (g c : Term) (cs : Clauses) → ClauseLaw d std Γ (all_of vs (imps (body ++ g ∷ []) c)) cs → ClauseLaw d std Γ (around (two 2 [] g c)) cs
    implied_clauses g c cs l = subst (λ z. ClauseLaw d std Γ (all_of vs z) cs) (imps_append body g c) l

    if_chooses : (g c : Term) → IsOpen d (vs ++ Γ) (two 3 [] c g) o_type → Chooses (vs ++ Γ) (two 3 [] c g) (two 2 [] g c) (two 2 [] g c)
    unfolding Chooses
    if_chooses g c o E P θ A f at r =
        let q = if_focus d std.standard E P A at (instantiate θ c) (instantiate θ g) (open_formula d E (vs ++ Γ) θ (two 3 [] c g) f o) r in
        inl (record { focus = FNeed q.0.proof q.1.focus; holds = (_, _, inl refl, q.0.holds, q.1.holds) })

    then_chooses : (g c : Term) → IsOpen d (vs ++ Γ) (two 2 [] g c) o_type → Chooses (vs ++ Γ) (two 2 [] g c) (two 3 [] c g) (two 3 [] c g)
    unfolding Chooses
    then_chooses g c o E P θ A f at r =
        let q = implied_focus d std.standard E P A at (instantiate θ g) (instantiate θ c) (open_formula d E (vs ++ Γ) θ (two 2 [] g c) f o) r in
        inl (record { focus = FNeed q.0.proof q.1.focus; holds = (_, _, inr refl, q.0.holds, q.1.holds) })

    pub if_clauses : (g c : Term) (cs : Clauses) → IsOpen d (vs ++ Γ) (two 3 [] c g) o_type → ClauseLaw d std Γ (all_of vs (imps (body ++ g ∷ []) c)) cs → ClauseLaw d std Γ (around (two 3 [] c g)) cs
    if_clauses g c cs o l =
        let p = open_parts d (vs ++ Γ) 3 c g (connective d std.standard 3 (omega arith)) o in
        let o' = open_two d (vs ++ Γ) 2 g c (connective d std.standard 2 (omega arith)) p.1 p.0 in
        law_via Γ (around (two 2 [] g c)) (around (two 3 [] c g)) cs (implied_clauses g c cs l) (around_chooses (two 3 [] c g) (two 2 [] g c) (two 2 [] g c) o o' o' (if_chooses g c o)) (around_chooses (two 2 [] g c) (two 3 [] c g) (two 3 [] c g) o' o o (then_chooses g c o'))

    -- a quantifier moves out of the goals
    module _ (T : Ty) (s : Term) (kt : IsClosedType T) (o : IsOpen d (vs ++ Γ) (pi_of T s) o_type) where
      abbrev inner : Term
      inner = imps (map (shift 0 1) body) (body_of s)

      open_inner : IsOpen d (T ∷ (vs ++ Γ)) inner o_type
      open_inner = open_imps (T ∷ (vs ++ Γ)) (map (shift 0 1) body) (body_of s) (open_shifts (vs ++ Γ) T body hb) (open_body d (vs ++ Γ) T s (open_function d (vs ++ Γ) 4 T s (pi_type d std.standard T) o))

      shifted_up : (E : List Ty) (P : List ClauseFormula) (θ : ℕ → Term) (w : Term) (gs : List Term) → EachOf (λ t. ProvableBy L d E P (instantiate θ t)) gs → EachOf (λ t. ProvableBy L d E P (instantiate (cons w θ) t)) (map (shift 0 1) gs)
      shifted_up E P θ w [] h = tt
      shifted_up E P θ w (g ∷ gs) h = (subst (ProvableBy L d E P) (sym (past_shift w θ g)) h.0, shifted_up E P θ w gs h.1)

      shifted_down : (E : List Ty) (P : List ClauseFormula) (θ : ℕ → Term) (w : Term) (gs : List Term) → EachOf (λ t. ProvableBy L d E P (instantiate (cons w θ) t)) (map (shift 0 1) gs) → EachOf (λ t. ProvableBy L d E P (instantiate θ t)) gs
      shifted_down E P θ w [] h = tt
      shifted_down E P θ w (g ∷ gs) h = (subst (ProvableBy L d E P) (past_shift w θ g) h.0, shifted_down E P θ w gs h.1)

      moves_out : Chooses (vs ++ Γ) (imps body (pi_of T s)) (pi_of T (abs inner)) (pi_of T (abs inner))
      unfolding Chooses
      moves_out E P θ A f at r =
          let q = imps_split (vs ++ Γ) body (pi_of T s) hb o E P θ A f at r in
          let fine = open_formula d E (vs ++ Γ) θ (pi_of T s) f o in
          let p = pi_focus d std.standard E P A at T (instantiate θ s) fine q.1 in
          let w = p.0 in
          let g = fits_cons d E (vs ++ Γ) θ w T f (p.1.typed, p.1.closed) in
          let fs = at_witness d E T (instantiate θ s) w (quantified d E 4 T (instantiate θ s) (pi_type d std.standard T) fine) p.1 in
          let b = fconv d E P (app (instantiate θ s) w) (instantiate (cons w θ) (body_of s)) A fs (body_at s θ w) p.2 in
          let x = imps_join (map (shift 0 1) body) (body_of s) E P (cons w θ) A (shifted_up E P θ w body q.0) b in
          inl (into_pi (vs ++ Γ) T inner E P θ A w open_inner g p.1 x)

      moves_in : Chooses (vs ++ Γ) (pi_of T (abs inner)) (imps body (pi_of T s)) (imps body (pi_of T s))
      unfolding Chooses
      moves_in E P θ A f at r =
          let fine = open_formula d E (vs ++ Γ) θ (pi_of T (abs inner)) f (open_quantified d (vs ++ Γ) 4 T inner (pi_type d std.standard T) kt open_inner) in
          let p = pi_focus d std.standard E P A at T (instantiate θ (abs inner)) fine r in
          let w = p.0 in
          let g = fits_cons d E (vs ++ Γ) θ w T f (p.1.typed, p.1.closed) in
          let fs = at_witness d E T (instantiate θ (abs inner)) w (quantified d E 4 T (instantiate θ (abs inner)) (pi_type d std.standard T) fine) p.1 in
          let x = fconv d E P (app (instantiate θ (abs inner)) w) (instantiate (cons w θ) inner) A fs (abs_at w θ inner) p.2 in
          let ob = open_body d (vs ++ Γ) T s (open_function d (vs ++ Γ) 4 T s (pi_type d std.standard T) o) in
          let q = imps_split (T ∷ (vs ++ Γ)) (map (shift 0 1) body) (body_of s) (open_shifts (vs ++ Γ) T body hb) ob E P (cons w θ) A g at x in
          let b = fconv d E P (instantiate (cons w θ) (body_of s)) (app (instantiate θ s) w) A (open_formula d E (T ∷ (vs ++ Γ)) (cons w θ) (body_of s) g ob) (converts_sym (body_at s θ w)) q.1 in
          inl (imps_join body (pi_of T s) E P θ A (shifted_down E P θ w body q.0) (record { focus = FAll w b.focus; holds = (T, _, refl, p.1, b.holds) }))

      pub every_clauses : (cs : Clauses) → ClauseLaw d std Γ (all_of (T ∷ vs) inner) cs → ClauseLaw d std Γ (around (pi_of T s)) cs
      every_clauses cs l =
          let oi = open_quantified d (vs ++ Γ) 4 T inner (pi_type d std.standard T) kt open_inner in
          let ob = open_imps (vs ++ Γ) body (pi_of T s) hb o in
          law_via Γ (all_of vs (pi_of T (abs inner))) (around (pi_of T s)) cs l (all_chooses vs Γ (imps body (pi_of T s)) (pi_of T (abs inner)) (pi_of T (abs inner)) k ob oi oi moves_out) (all_chooses vs Γ (pi_of T (abs inner)) (imps body (pi_of T s)) (imps body (pi_of T s)) k oi ob ob moves_in)

    -- an atom, whose goals are flattened as a list
    abbrev headed : Goals → Term → Term
    headed no_goals h = h
    headed (goals g gs) h = two 2 [] (formula_of_goals (goals g gs)) h

    headed_clause : (n : ℕ) (gs : Goals) (h : Term) → formula_of_clause (clause n vs h gs) ≡ all_of vs (headed gs h)
    headed_clause n no_goals h = refl
    headed_clause n (goals g gs) h = refl

    pub record ListLaw (gs : Goals) : Type 0 where
      pub opens : IsOpen d (vs ++ Γ) (formula_of_goals gs) o_type
      pub to : (E : List Ty) (P : List ClauseFormula) (θ : ℕ → Term) → Fits d E (vs ++ Γ) θ → EachOf (λ t. ProvableBy L d E P (instantiate θ t)) body → ProvableBy L d E P (instantiate θ (formula_of_goals gs))
      pub from : (E : List Ty) (P : List ClauseFormula) (θ : ℕ → Term) → Fits d E (vs ++ Γ) θ → ProvableBy L d E P (instantiate θ (formula_of_goals gs)) → EachOf (λ t. ProvableBy L d E P (instantiate θ t)) body

    open_headed : (gs : Goals) (h : Term) → ListLaw gs → IsOpen d (vs ++ Γ) h o_type → IsOpen d (vs ++ Γ) (headed gs h) o_type
    open_headed no_goals h l o = o
    open_headed (goals g gs) h l o = open_two d (vs ++ Γ) 2 (formula_of_goals (goals g gs)) h (connective d std.standard 2 (omega arith)) l.opens o

    into_headed : (gs : Goals) (h : Term) → ListLaw gs → IsOpen d (vs ++ Γ) h o_type → Chooses (vs ++ Γ) (imps body h) (headed gs h) (headed gs h)
    unfolding Chooses
    into_headed no_goals h l o E P θ A f at r = inl (imps_split (vs ++ Γ) body h hb o E P θ A f at r).1
    into_headed (goals g gs) h l o E P θ A f at r =
        let q = imps_split (vs ++ Γ) body h hb o E P θ A f at r in
        let p = l.to E P θ f q.0 in
        inl (record { focus = FNeed p.proof q.1.focus; holds = (_, _, inl refl, p.holds, q.1.holds) })

    out_of_headed : (gs : Goals) (h : Term) → ListLaw gs → IsOpen d (vs ++ Γ) h o_type → Chooses (vs ++ Γ) (headed gs h) (imps body h) (imps body h)
    unfolding Chooses
    out_of_headed no_goals h l o E P θ A f at r = inl (imps_join body h E P θ A (l.from E P θ f (truth_proved d std E P)) r)
    out_of_headed (goals g gs) h l o E P θ A f at r =
        let q = implied_focus d std.standard E P A at (instantiate θ (formula_of_goals (goals g gs))) (instantiate θ h) (open_formula d E (vs ++ Γ) θ (headed (goals g gs) h) f (open_headed (goals g gs) h l o)) r in
        inl (imps_join body h E P θ A (l.from E P θ f q.0) q.1)

    pub one_clause : (n : ℕ) (gs : Goals) (h : Term) → ListLaw gs → IsOpen d (vs ++ Γ) h o_type → ClauseLaw d std Γ (around h) (clauses (clause n vs h gs) no_clauses)
    unfolding Chooses
    one_clause n gs h l o =
        let oh = open_headed gs h l o in
        let ob = open_imps (vs ++ Γ) body h hb o in
        let e = headed_clause n gs h in
        record {
          opens = subst (λ z. IsOpen d Γ z o_type) (sym e) (open_all vs Γ (headed gs h) k oh);
          to = λ E P θ A f at r. subst (λ z. FocusableBy L d E P (instantiate θ z) A) (sym e) (one_of (around h) (all_of vs (headed gs h)) (all_chooses vs Γ (imps body h) (headed gs h) (headed gs h) k ob oh oh (into_headed gs h l o)) E P θ A f at r);
          from = λ E P θ A f at r. one_of (all_of vs (headed gs h)) (around h) (all_chooses vs Γ (headed gs h) (imps body h) (imps body h) k oh ob ob (out_of_headed gs h l o)) E P θ A f at (subst (λ z. FocusableBy L d E P (instantiate θ z) A) e r);
        }
