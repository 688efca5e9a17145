-- A proof of a goal without negation from clauses without negation has no failing search: the heads of connectives are kept under conversion, so no goal on the
-- way is a negated one.
use Rattle.std.proofs.Common.{◌≡◌, ℕ, zero, suc, List, [], ◌∷◌, ◌++◌, length, Some, refl, subst, inl, inr}
use Rattle.std.specs.Prelude.{◌≢◌, true, false, slice_get}
use Rattle.lp_calculus.specs.Types.{Ty}
use Rattle.lp_calculus.specs.Term.{Term, Atom, index, atom, abs, app, constant, integer, text, eigen, logic, param}
use Rattle.lp_calculus.specs.Fill.{Within}
use Rattle.lp_calculus.specs.Convert.{Converts, same}
use Rattle.lp_calculus.specs.Typing.{type_at}
use Rattle.lp_calculus.specs.Instance.{instance_atom, instance_term}
use Rattle.lp_calculus.specs.Closed.{AllAtoms, IsClosedAtom}
use Rattle.lp_calculus.proofs.Steps.{converts_on, converts_app, converts_reduces}
use Rattle.lp_calculus.proofs.Rigid.{EachReaches, reaches_more, head_reaches}
use Rattle.lp_calculus.proofs.Commutations.{instance_converts}
use Rattle.lp_standard.specs.Connectives.{two}
use Rattle.lp_standard.specs.Positive.{IsPositiveAtom}
use Rattle.lp_model.specs.Flatten.{ClauseFormula}
use Rattle.lp_lemmas.specs.Each.{EachOf}
use Rattle.lp_model.specs.Proofs.{Declared, IsWitness, IsImplication, Leaves, no_leaf, IsFailure, Provable, PlainlyProvable, Proof, Conv, True, And, Left, Right, Witness, All, Assume, Equal, Arith, Back, Fails, Focus, FConv, FAll, FTake, FNeed, FHit, assumed, proves_by, focuses_by}
use Rattle.lp_proof_laws.specs.Unnegated.{IsUnnegatedAtom, IsUnnegated}
use Rattle.lp_proof_laws.proofs.Uniform.Contexts.{get_split}

-- what converts to a term without negation
record Reaches (t : Term) : Type 0 where
  form : Term
  converts : Converts t form
  plain : IsUnnegated form

reaches : (t : Term) → IsUnnegated t → Reaches t
reaches t w = record { form = t; converts = same t; plain = w }

reaches_by : (t s : Term) → Converts t s → Reaches s → Reaches t
reaches_by t s c r = record { form = r.form; converts = converts_on c r.converts; plain = r.plain }

reaches_app : (s t : Term) → Reaches s → Reaches t → Reaches (app s t)
reaches_app s t r q = record { form = app r.form q.form; converts = converts_app r.converts q.converts; plain = (r.plain, q.plain) }

one_part : (c : ℕ) (ts : List Ty) (s G : Term) → G ≡ app (atom (constant c ts)) s → Reaches G → (c ≢ 24) × Reaches s
one_part c ts s G e r =
    let z = head_reaches IsUnnegatedAtom (atom (constant c ts)) (s ∷ []) r.form tt (subst (λ K. Converts K r.form) e r.converts) r.plain in
    (z.0, go z.1)
  where
    go : EachReaches IsUnnegatedAtom (s ∷ []) → Reaches s
    go (reaches_more u d w more) = record { form = u; converts = converts_reduces d; plain = w }

two_parts : (c : ℕ) (ts : List Ty) (s t G : Term) → G ≡ two c ts s t → Reaches G → Reaches s × Reaches t
two_parts c ts s t G e r = go (head_reaches IsUnnegatedAtom (atom (constant c ts)) (s ∷ t ∷ []) r.form tt (subst (λ K. Converts K r.form) e r.converts) r.plain).1
  where
    go : EachReaches IsUnnegatedAtom (s ∷ t ∷ []) → Reaches s × Reaches t
    go (reaches_more u d w (reaches_more u' d' w' more)) = (record { form = u; converts = converts_reduces d; plain = w }, record { form = u'; converts = converts_reduces d'; plain = w' })

-- types put for type variables
atom_instance : (θ : ℕ → Ty) (a : Atom) → IsUnnegatedAtom a → IsUnnegatedAtom (instance_atom θ a)
atom_instance θ (constant c ts) w = w
atom_instance θ (integer z) w = tt
atom_instance θ (text s) w = tt
atom_instance θ (eigen k) w = tt
atom_instance θ (logic x l) w = tt
atom_instance θ (param k T) w = tt

pub instance_unnegated : (θ : ℕ → Ty) (n : ℕ) (t : Term) → Within IsUnnegatedAtom n t → Within IsUnnegatedAtom n (instance_term θ t)
instance_unnegated θ n (index i) w = w
instance_unnegated θ n (atom a) w = atom_instance θ a w
instance_unnegated θ n (abs b) w = instance_unnegated θ (suc n) b w
instance_unnegated θ n (app t u) w = (instance_unnegated θ n t w.0, instance_unnegated θ n u w.1)

reaches_instance : (θ : ℕ → Ty) (t : Term) → Reaches t → Reaches (instance_term θ t)
reaches_instance θ t r = record { form = instance_term θ r.form; converts = instance_converts θ t r.form r.converts; plain = instance_unnegated θ 0 r.form r.plain }

-- positive terms
positive_atom : (n : ℕ) (a : Atom) → IsClosedAtom n a → IsPositiveAtom a → IsUnnegatedAtom a
positive_atom n (constant c ts) w p = λ e. let q : IsPositiveAtom (constant 24 ts) = subst (λ k. IsPositiveAtom (constant k ts)) e p in cc
positive_atom n (integer z) w p = tt
positive_atom n (text s) w p = tt
positive_atom n (eigen k) w p = tt
positive_atom n (logic x l) w p = tt
positive_atom n (param k T) w p = tt

pub positive_unnegated : (n d : ℕ) (t : Term) → Within (IsClosedAtom n) d t → AllAtoms IsPositiveAtom t → Within IsUnnegatedAtom d t
positive_unnegated n d (index i) w p = w
positive_unnegated n d (atom a) w p = positive_atom n a w p
positive_unnegated n d (abs b) w p = positive_unnegated n (suc d) b w p
positive_unnegated n d (app t u) w p = (positive_unnegated n d t w.0 p.0, positive_unnegated n d u w.1 p.1)

witness_reaches : (d : Declared) (E : List Ty) (t : Term) (T : Ty) → IsWitness d E t T → Reaches t
witness_reaches d E t T w = reaches t (positive_unnegated (length E) 0 t w.closed w.positive)

-- clauses
record AllReach (P : List ClauseFormula) : Type 0 where
  at : (i : ℕ) (D : ClauseFormula) → slice_get P i ≡ Some D → Reaches D.formula

all_reach : (P : List ClauseFormula) → EachOf (λ D. IsUnnegated D.formula) P → AllReach P
all_reach P h = record { at = λ i D e. go P h i D e }
  where
    go : (P : List ClauseFormula) → EachOf (λ D. IsUnnegated D.formula) P → (i : ℕ) (D : ClauseFormula) → slice_get P i ≡ Some D → Reaches D.formula
    go [] h i D e = absurd (cc)
    go (K ∷ P) h zero D e = let q : K ≡ D = cc in subst (λ z. Reaches z.formula) q (reaches K.formula h.0)
    go (K ∷ P) h (suc i) D e = go P h.1 i D e

one_more : (P : List ClauseFormula) (D : Term) → AllReach P → Reaches D → AllReach (P ++ assumed D ∷ [])
one_more P D h r = record {
  at = λ i K e. elim (get_split P (assumed D ∷ []) i K e) [
    | inl a ↦ h.at i K a
    | inr b ↦ last b.0 K b.2
  ];
}
  where
    last : (i : ℕ) (K : ClauseFormula) → slice_get (assumed D ∷ []) i ≡ Some K → Reaches K.formula
    last zero K e = let q : assumed D ≡ K = cc in subst (λ z. Reaches z.formula) q r
    last (suc i) K e = absurd (cc)

implied_parts : (G D A : Term) → IsImplication G D A → Reaches G → Reaches D × Reaches A
implied_parts G D A (inl e) r = two_parts 2 [] D A G e r
implied_parts G D A (inr e) r = let p = two_parts 3 [] A D G e r in (p.1, p.0)

mutual
  proof_plain : (L : Leaves) (d : Declared) (E : List Ty) (P : List ClauseFormula) (G : Term) (p : Proof) → AllReach P → Reaches G → proves_by L d E P G p → proves_by no_leaf d E P G p
  proof_plain L d E P G (Conv H p) s r h = (h.0, h.1, proof_plain L d E P H p s (reaches_by H G h.1 r) h.2)
  proof_plain L d E P G True s r h = h
  proof_plain L d E P G (And p q) s r h = let x = two_parts 0 [] h.0 h.1 G h.2 r in (h.0, h.1, h.2, proof_plain L d E P h.0 p s x.0 h.3, proof_plain L d E P h.1 q s x.1 h.4)
  proof_plain L d E P G (Left p) s r h = let x = two_parts 1 [] h.0 h.1 G h.2 r in (h.0, h.1, h.2, proof_plain L d E P h.0 p s x.0 h.3)
  proof_plain L d E P G (Right p) s r h = let x = two_parts 1 [] h.0 h.1 G h.2 r in (h.0, h.1, h.2, proof_plain L d E P h.1 p s x.1 h.3)
  proof_plain L d E P G (Witness t p) s r h =
      let x = one_part 5 (h.0 ∷ []) h.1 G h.2 r in
      (h.0, h.1, h.2, h.3, proof_plain L d E P (app h.1 t) p s (reaches_app h.1 t x.1 (witness_reaches d E t h.0 h.3)) h.4)
  proof_plain L d E P G (All p) s r h =
      let x = one_part 4 (h.0 ∷ []) h.1 G h.2 r in
      let c : Term = atom (eigen (suc (length E))) in
      (h.0, h.1, h.2, proof_plain L d (E ++ h.0 ∷ []) P (app h.1 c) p s (reaches_app h.1 c x.1 (reaches c tt)) h.3)
  proof_plain L d E P G (Assume p) s r h = let x = implied_parts G h.0 h.1 h.2 r in (h.0, h.1, h.2, proof_plain L d E (P ++ assumed h.0 ∷ []) h.1 p (one_more P h.0 s x.0) x.1 h.3)
  proof_plain L d E P G Equal s r h = h
  proof_plain L d E P G Arith s r h = h
  proof_plain L d E P G (Back i ts f) s r h = (h.0, h.1, h.2, h.3, h.4, focus_plain L d E P (instance_term (type_at ts) h.0.formula) G f s (reaches_instance (type_at ts) h.0.formula (s.at i h.0 h.1)) h.5)
  proof_plain L d E P G (Fails f) s r h = absurd ((one_part 24 [] h.0 G h.1 r).0 refl)

  focus_plain : (L : Leaves) (d : Declared) (E : List Ty) (P : List ClauseFormula) (D A : Term) (f : Focus) → AllReach P → Reaches D → focuses_by L d E P D A f → focuses_by no_leaf d E P D A f
  focus_plain L d E P D A (FConv H f) s r h = (h.0, h.1, focus_plain L d E P H A f s (reaches_by H D h.1 r) h.2)
  focus_plain L d E P D A (FAll t f) s r h =
      let x = one_part 4 (h.0 ∷ []) h.1 D h.2 r in
      (h.0, h.1, h.2, h.3, focus_plain L d E P (app h.1 t) A f s (reaches_app h.1 t x.1 (witness_reaches d E t h.0 h.3)) h.4)
  focus_plain L d E P D A (FTake true f) s r h = let x = two_parts 0 [] h.0 h.1 D h.2 r in (h.0, h.1, h.2, focus_plain L d E P h.1 A f s x.1 h.3)
  focus_plain L d E P D A (FTake false f) s r h = let x = two_parts 0 [] h.0 h.1 D h.2 r in (h.0, h.1, h.2, focus_plain L d E P h.0 A f s x.0 h.3)
  focus_plain L d E P D A (FNeed p f) s r h = let x = implied_parts D h.0 h.1 h.2 r in (h.0, h.1, h.2, proof_plain L d E P h.0 p s x.0 h.3, focus_plain L d E P h.1 A f s x.1 h.4)
  focus_plain L d E P D A FHit s r h = h

pub unnegated_plain : (d : Declared) (k : ℕ) (E : List Ty) (P : List ClauseFormula) (G : Term) → EachOf (λ D. IsUnnegated D.formula) P → IsUnnegated G → Provable d k E P G → PlainlyProvable d E P G
unnegated_plain d k E P G s w h = record { proof = h.proof; holds = proof_plain (IsFailure d k) d E P G h.proof (all_reach P s) (reaches G w) h.holds }
