-- Inversion of the connectives: a provable formula that is an atom of the calculus on arguments has a proof that begins with the rule of its head. Conversions are
-- stripped off, and what remains has the same head, since rigid heads are kept, and arguments that convert one by one.
use Rattle.std.proofs.Common.{◌≡◌, ℕ, zero, suc, ◌<◌, List, [], ◌∷◌, ◌++◌, length, Option, Some, refl, sym, ap, ◌∙◌, subst, arith, inl, inr}
use Rattle.std.specs.Prelude.{true, false}
use Rattle.lp_calculus.specs.Types.{Ty, arrow}
use Rattle.lp_calculus.specs.Term.{Term, index, atom, abs, app, apply, Atom, constant, eigen}
use Rattle.lp_calculus.specs.Convert.{Converts, same, ReducesTo, done, then_step, ConvertAll, convert_none, convert_more}
use Rattle.lp_calculus.specs.Normal.{IsNormal}
use Rattle.lp_calculus.specs.Typing.{Typed, o_type, scheme_type}
use Rattle.lp_calculus.proofs.BetaEta.{conversion_meets}
use Rattle.lp_calculus.proofs.Steps.{converts_on, converts_sym, converts_app, converts_reduces}
use Rattle.lp_calculus.proofs.Rigid.{heads_joint}
use Rattle.lp_calculus.specs.Spine.{head_of, arguments}
use Rattle.lp_standard.specs.Connectives.{two, not_of}
use Rattle.lp_model.specs.Flatten.{ClauseFormula}
use Rattle.lp_model.specs.Values.{Value, HasValue}
use Rattle.lp_standard.specs.Schemes.{IsStandard}
use Rattle.lp_model.specs.Proofs.{Declared, under, IsFormula, Leaves, Failure, no_leaf, Proof, Conv, True, And, Left, Right, Witness, All, Assume, Equal, Arith, Back, Fails, Focus, FConv, FAll, FTake, FNeed, FHit, IsAtomHead, IsArith, assumed, proves_by, focuses_by, ProvableBy, FocusableBy, RootedBy, trivially, both_sides, left_side, right_side, at_witness, for_all, under_assumption, equally, by_arithmetic, by_clause, by_failure}
use Rattle.lp_proof_laws.proofs.Uniform.Formulas.{parts, quantified, at_eigen}
use Rattle.lp_proof_laws.proofs.Uniform.Formulas as formulas
use Rattle.lp_proof_laws.proofs.Uniform.Forms.{apply_arguments}
use Rattle.lp_proof_laws.proofs.Uniform.Assumptions.{AreKept, converted_assumption}

-- what converts to an atom of the calculus on arguments has the atom, and arguments that convert

pub none_joint : (c : ℕ) (ts : List Ty) (a : Atom) (us : List Term) → Converts (atom (constant c ts)) (apply (atom a) us) → apply (atom a) us ≡ atom (constant c ts)
none_joint c ts a us v = let j = heads_joint (atom (constant c ts)) (atom a) [] us tt tt v in go us j.arguments j.heads
  where
    go : (vs : List Term) → ConvertAll [] vs → atom (constant c ts) ≡ atom a → apply (atom a) vs ≡ atom (constant c ts)
    go _ convert_none e = sym e

unfoldable pub OneJoint : (c : ℕ) (ts : List Ty) (s : Term) (G : Term) → Type 0
OneJoint c ts s G = (r : Term) × (G ≡ app (atom (constant c ts)) r) × Converts s r

pub one_joint : (c : ℕ) (ts : List Ty) (s : Term) (a : Atom) (us : List Term) → Converts (app (atom (constant c ts)) s) (apply (atom a) us) → OneJoint c ts s (apply (atom a) us)
unfolding OneJoint
one_joint c ts s a us v = let j = heads_joint (atom (constant c ts)) (atom a) (s ∷ []) us tt tt v in go us j.arguments j.heads
  where
    go : (vs : List Term) → ConvertAll (s ∷ []) vs → atom (constant c ts) ≡ atom a → (r : Term) × (apply (atom a) vs ≡ app (atom (constant c ts)) r) × Converts s r
    go _ (convert_more {u = r} p convert_none) e = (r, ap (λ h. app h r) (sym e), p)

unfoldable pub TwoJoint : (c : ℕ) (ts : List Ty) (s t : Term) (G : Term) → Type 0
TwoJoint c ts s t G = (A : Term) × (B : Term) × (G ≡ two c ts A B) × Converts s A × Converts t B

pub two_joint : (c : ℕ) (ts : List Ty) (s t : Term) (a : Atom) (us : List Term) → Converts (two c ts s t) (apply (atom a) us) → TwoJoint c ts s t (apply (atom a) us)
unfolding TwoJoint
two_joint c ts s t a us v = let j = heads_joint (atom (constant c ts)) (atom a) (s ∷ t ∷ []) us tt tt v in go us j.arguments j.heads
  where
    go : (vs : List Term) → ConvertAll (s ∷ t ∷ []) vs → atom (constant c ts) ≡ atom a → (A : Term) × (B : Term) × (apply (atom a) vs ≡ two c ts A B) × Converts s A × Converts t B
    go _ (convert_more {u = A} p (convert_more {u = B} q convert_none)) e = (A, B, ap (λ h. app (app h A) B) (sym e), p, q)

pub head_apply : (h : Term) (ts : List Term) → head_of (apply h ts) ≡ head_of h
head_apply h [] = refl
head_apply h (t ∷ ts) = head_apply (app h t) ts

-- a value is kept under conversion

normal_stays : {t s : Term} → ReducesTo t s → IsNormal t → s ≡ t
normal_stays (done t) n = refl
normal_stays (then_step {s = s} p ps) n = absurd (n s p)

value_converts : (e f : Term) (v : Value) → HasValue e v → Converts e f → HasValue f v
value_converts e f v h c =
    let m = conversion_meets (converts_on (converts_sym c) (converts_reduces h.is_form.0)) in
    let q = normal_stays m.2 h.is_form.1 in
    record { form = h.form; is_form = (subst (ReducesTo f) q m.1, h.is_form.1); is = h.is }

-- a focus is kept where the atom converts
focus_converts : {L : Leaves} (d : Declared) (E : List Ty) (P : List ClauseFormula) (D A B : Term) (f : Focus) → Converts A B → focuses_by L d E P D A f → FocusableBy L d E P D B
focus_converts d E P D A B (FConv H f) c h = let r = focus_converts d E P H A B f c h.2 in record { focus = FConv H r.focus; holds = (h.0, h.1, r.holds) }
focus_converts d E P D A B (FAll t f) c h = let r = focus_converts d E P (app h.1 t) A B f c h.4 in record { focus = FAll t r.focus; holds = (h.0, h.1, h.2, h.3, r.holds) }
focus_converts d E P D A B (FTake true f) c h = let r = focus_converts d E P h.1 A B f c h.3 in record { focus = FTake true r.focus; holds = (h.0, h.1, h.2, r.holds) }
focus_converts d E P D A B (FTake false f) c h = let r = focus_converts d E P h.0 A B f c h.3 in record { focus = FTake false r.focus; holds = (h.0, h.1, h.2, r.holds) }
focus_converts d E P D A B (FNeed p f) c h = let r = focus_converts d E P h.1 A B f c h.4 in record { focus = FNeed p r.focus; holds = (h.0, h.1, h.2, h.3, r.holds) }
focus_converts d E P D A B FHit c h = record { focus = FHit; holds = converts_on h c }

module _ (d : Declared) (std : IsStandard d) where
  pub connective : (c : ℕ) → c < 4 → scheme_type [] (d c) ≡ Some (arrow o_type (arrow o_type o_type))
  connective zero l = ap (scheme_type []) (std.at 0 (omega arith))
  connective (suc zero) l = ap (scheme_type []) (std.at 1 (omega arith))
  connective (suc (suc zero)) l = ap (scheme_type []) (std.at 2 (omega arith))
  connective (suc (suc (suc zero))) l = ap (scheme_type []) (std.at 3 (omega arith))
  connective (suc (suc (suc (suc n)))) l = absurd (omega arith)

  pub sigma_type : (T : Ty) → scheme_type (T ∷ []) (d 5) ≡ Some (arrow (arrow T o_type) o_type)
  sigma_type T = ap (scheme_type (T ∷ [])) (std.at 5 (omega arith))

  pub pi_type : (T : Ty) → scheme_type (T ∷ []) (d 4) ≡ Some (arrow (arrow T o_type) o_type)
  pi_type T = ap (scheme_type (T ∷ [])) (std.at 4 (omega arith))

denied_type : (o : Option Ty) (X : Ty) → o ≡ Some (arrow o_type o_type) → o ≡ Some (arrow X o_type) → X ≡ o_type
denied_type o X e f = let g : Some (arrow o_type o_type) ≡ Some (arrow X o_type) = sym e ∙ f in cc

-- what is negated in a formula is one
pub denied_formula : (d : Declared) → IsStandard d → (E : List Ty) (K : Term) → IsFormula d E (not_of K) → IsFormula d E K
denied_formula d std E K h = record {
  typed = subst (Typed (under d E) [] K) (denied_type (scheme_type [] (d 24)) h.typed.0 (ap (scheme_type []) (std.at 24 (omega arith))) h.typed.1) h.typed.2;
  closed = h.closed.1;
}

-- leaves that stand where the goal or an assumption behind these clauses converts
pub record Converting (L : Leaves) (d : Declared) (P : List ClauseFormula) : Type 0 where
  pub goals : (n : List Ty) (Q : List ClauseFormula) (H H' : Term) (f : Failure) → IsFormula d n H → IsFormula d n H' → Converts H H' → L n Q H f → L n Q H' f
  pub assumptions : (E : List Ty) (D D' : Term) → IsFormula d E D → IsFormula d E D' → Converts D D' → AreKept L E (P ++ assumed D ∷ []) (P ++ assumed D' ∷ [])

module _ (L : Leaves) (d : Declared) (std : IsStandard d) where
  -- without the conversions at the root
  Stripped : (E : List Ty) (P : List ClauseFormula) (G : Term) → Type 0
  Stripped E P G = (H : Term) × Converts H G × IsFormula d E H × RootedBy L d E P H

  here_is : (E : List Ty) (P : List ClauseFormula) (G : Term) → IsFormula d E G → RootedBy L d E P G → Stripped E P G
  unfolding Stripped
  here_is E P G f r = (G, same G, f, r)

  strip : (E : List Ty) (P : List ClauseFormula) (G : Term) (p : Proof) → IsFormula d E G → proves_by L d E P G p → Stripped E P G
  unfolding Stripped
  strip E P G (Conv H p) f h = let r = strip E P H p h.0 h.2 in (r.0, converts_on r.1 h.1, r.2, r.3)
  strip E P G True f h = here_is E P G f (trivially h)
  strip E P G (And p q) f h = here_is E P G f (both_sides h.0 h.1 h.2 (record { proof = p; holds = h.3 }) (record { proof = q; holds = h.4 }))
  strip E P G (Left p) f h = here_is E P G f (left_side h.0 h.1 h.2 (record { proof = p; holds = h.3 }))
  strip E P G (Right p) f h = here_is E P G f (right_side h.0 h.1 h.2 (record { proof = p; holds = h.3 }))
  strip E P G (Witness t p) f h = here_is E P G f (at_witness h.0 h.1 t h.2 h.3 (record { proof = p; holds = h.4 }))
  strip E P G (All p) f h = here_is E P G f (for_all h.0 h.1 h.2 (record { proof = p; holds = h.3 }))
  strip E P G (Assume p) f h = here_is E P G f (under_assumption h.0 h.1 h.2 (record { proof = p; holds = h.3 }))
  strip E P G Equal f h = here_is E P G f (equally h.0 h.1 h.2 h.3 h.4)
  strip E P G Arith f h = here_is E P G f (by_arithmetic h)
  strip E P G (Back i ts f) g h = here_is E P G g (by_clause i h.0 ts h.1 h.2 h.3 h.4 (record { focus = f; holds = h.5 }))
  strip E P G (Fails x) f h = here_is E P G f (by_failure h.0 h.1 x h.2)

  conv : (E : List Ty) (P : List ClauseFormula) (G H : Term) → IsFormula d E H → Converts H G → ProvableBy L d E P H → ProvableBy L d E P G
  conv E P G H f c h = record { proof = Conv H h.proof; holds = (f, c, h.holds) }

  module _ (E : List Ty) (P : List ClauseFormula) (a : Atom) (us : List Term) (fine : IsFormula d E (apply (atom a) us)) (kept : Converting L d P) where
    abbrev G : Term
    G = apply (atom a) us

    implied : (c : ℕ) → (D A D' A' : Term) → IsFormula d E D × IsFormula d E A → IsFormula d E D' → Converts D D' → Converts A A' → ProvableBy L d E (P ++ assumed D ∷ []) A → ProvableBy L d E (P ++ assumed D' ∷ []) A'
    implied c D A D' A' f f' p q h = conv E (P ++ assumed D' ∷ []) A' A f.1 q (converted_assumption L d E P D D' A f.0 f' (kept.assumptions E D D' f.0 f' p) p h)

    arith_moves : (H : Term) → Converts H G → IsArith H → IsArith G
    unfolding TwoJoint
    arith_moves H c (inl h) =
        let j = two_joint 9 (h.0 ∷ []) h.1 h.2 a us (subst (λ K. Converts K G) h.4 c) in
        inl (h.0, j.0, j.1, h.3, j.2, value_converts h.2 j.1 h.3 h.5 j.4, converts_on (converts_sym j.3) h.6)
    arith_moves H c (inr h) =
        let j = two_joint h.0 [] h.1 h.2 a us (subst (λ K. Converts K G) h.7 c) in
        inr (h.0, j.0, j.1, h.3, h.4, h.5, h.6, j.2, value_converts h.1 j.0 _ h.8 j.3, value_converts h.2 j.1 _ h.9 j.4, h.10)

    atom_head : (H : Term) → Converts H G → IsAtomHead (head_of H) → IsAtomHead (head_of G)
    atom_head H c h = go (head_of H) refl h
      where
        go : (k : Term) → head_of H ≡ k → IsAtomHead k → IsAtomHead (head_of G)
        go (atom b) e i =
            let v : Converts (apply (atom b) (arguments H)) G = subst (λ K. Converts K G) (sym (apply_arguments H []) ∙ ap (λ k. apply k (arguments H)) e) c in
            let j = heads_joint (atom b) (atom a) (arguments H) us tt tt v in
            subst IsAtomHead (j.heads ∙ sym (head_apply (atom a) us)) i
        go (index n) e i = absurd i
        go (abs t) e i = absurd i
        go (app t u) e i = absurd i

    moves : (H : Term) → Converts H G → IsFormula d E H → RootedBy L d E P H → RootedBy L d E P G
    unfolding OneJoint TwoJoint
    moves H c f (trivially (inl e)) = trivially (inl (none_joint 6 [] a us (subst (λ K. Converts K G) e c)))
    moves H c f (trivially (inr e)) = trivially (inr (none_joint 7 [] a us (subst (λ K. Converts K G) e c)))
    moves H c f (both_sides A B e p q) =
        let j = two_joint 0 [] A B a us (subst (λ K. Converts K G) e c) in
        let fs = parts d E 0 A B (connective d std 0 (omega arith)) (subst (IsFormula d E) e f) in
        both_sides j.0 j.1 j.2 (conv E P j.0 A fs.0 j.3 p) (conv E P j.1 B fs.1 j.4 q)
    moves H c f (left_side A B e p) =
        let j = two_joint 1 [] A B a us (subst (λ K. Converts K G) e c) in
        let fs = parts d E 1 A B (connective d std 1 (omega arith)) (subst (IsFormula d E) e f) in
        left_side j.0 j.1 j.2 (conv E P j.0 A fs.0 j.3 p)
    moves H c f (right_side A B e p) =
        let j = two_joint 1 [] A B a us (subst (λ K. Converts K G) e c) in
        let fs = parts d E 1 A B (connective d std 1 (omega arith)) (subst (IsFormula d E) e f) in
        right_side j.0 j.1 j.2 (conv E P j.1 B fs.1 j.4 p)
    moves H c f (at_witness T s t e w p) =
        let j = one_joint 5 (T ∷ []) s a us (subst (λ K. Converts K G) e c) in
        let fs = quantified d E 5 T s (sigma_type d std T) (subst (IsFormula d E) e f) in
        at_witness T j.0 t j.1 w (conv E P (app j.0 t) (app s t) (formulas.at_witness d E T s t fs w) (converts_app j.2 (same t)) p)
    moves H c f (for_all T s e p) =
        let j = one_joint 4 (T ∷ []) s a us (subst (λ K. Converts K G) e c) in
        let fs = quantified d E 4 T s (pi_type d std T) (subst (IsFormula d E) e f) in
        for_all T j.0 j.1 (conv (E ++ T ∷ []) P (app j.0 (atom (eigen (suc (length E))))) (app s (atom (eigen (suc (length E))))) (at_eigen d E T s fs) (converts_app j.2 (same (atom (eigen (suc (length E)))))) p)
    moves H c f (under_assumption D A (inl e) p) =
        let j = two_joint 2 [] D A a us (subst (λ K. Converts K G) e c) in
        let fs = parts d E 2 D A (connective d std 2 (omega arith)) (subst (IsFormula d E) e f) in
        let gs = parts d E 2 j.0 j.1 (connective d std 2 (omega arith)) (subst (IsFormula d E) j.2 fine) in
        under_assumption j.0 j.1 (inl j.2) (implied 2 D A j.0 j.1 fs gs.0 j.3 j.4 p)
    moves H c f (under_assumption D A (inr e) p) =
        let j = two_joint 3 [] A D a us (subst (λ K. Converts K G) e c) in
        let fs = parts d E 3 A D (connective d std 3 (omega arith)) (subst (IsFormula d E) e f) in
        let gs = parts d E 3 j.0 j.1 (connective d std 3 (omega arith)) (subst (IsFormula d E) j.2 fine) in
        under_assumption j.1 j.0 (inr j.2) (implied 3 D A j.1 j.0 (fs.1, fs.0) gs.1 j.4 j.3 p)
    moves H c f (equally T t u e v) =
        let j = two_joint 8 (T ∷ []) t u a us (subst (λ K. Converts K G) e c) in
        equally T j.0 j.1 j.2 (converts_on (converts_sym j.3) (converts_on v j.4))
    moves H c f (by_arithmetic h) = by_arithmetic (arith_moves H c h)
    moves H c f (by_clause i D ts e l k h r) = by_clause i D ts e l k (atom_head H c h) (focus_converts d E P _ H G r.focus c r.holds)
    moves H c f (by_failure K e x h) =
        let j = one_joint 24 [] K a us (subst (λ M. Converts M G) e c) in
        by_failure j.0 j.1 x (kept.goals E P K j.0 x (denied_formula d std E K (subst (IsFormula d E) e f)) (denied_formula d std E j.0 (subst (IsFormula d E) j.1 fine)) j.2 h)

    pub rooted_by : ProvableBy L d E P (apply (atom a) us) → RootedBy L d E P (apply (atom a) us)
    unfolding Stripped
    rooted_by p = let s = strip E P G p.proof fine p.holds in moves s.0 s.1 s.2 s.3

pub nothing_kept : (d : Declared) (P : List ClauseFormula) → Converting no_leaf d P
nothing_kept d P = record { goals = λ n Q H H' f g g' c h. h; assumptions = λ E D D' g g' c S n x H f h. h }
