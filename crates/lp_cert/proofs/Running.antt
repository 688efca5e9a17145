-- A run over nodes leaves one thing, and a proof that is written by nodes runs over them.
use Rattle.std.proofs.Common.{◌≡◌, ℕ, suc, List, [], ◌∷◌, ◌++◌, map, length, refl, sym, ap, subst, ◌∙◌, arith, Bool, true, false, inl, inr, ◌⊎◌}
use Rattle.std.specs.Prelude.{slice_get, Some}
use Rattle.std.proofs.Math.Path.{transport}
use Rattle.lp_calculus.specs.Types.{Ty}
use Rattle.lp_calculus.specs.Term.{Term, atom, app, eigen, constant}
use Rattle.lp_calculus.specs.Typing.{type_at}
use Rattle.lp_calculus.specs.Instance.{instance_term}
use Rattle.lp_standard.specs.Connectives.{two, pi_of, sigma_of}
use Rattle.lp_standard.specs.Numbers as number
use Rattle.lp_model.specs.Flatten.{ClauseFormula}
use Rattle.lp_model.specs.Proofs.{Proof, Focus, Conv, True, And, Left, Right, Witness, All, Assume, Equal, Arith, Back, Fails, FConv, FAll, FTake, FNeed, FHit, IsImplication, assumed, proves_by, focuses_by, no_leaf}
use Rattle.lp_cert.specs.Certified.{Ground}
use Rattle.lp_cert.specs.Written.{Node, converted, trivial, pair, left_side, right_side, witness, general, assuming, equated, counted, back_to, focus_converted, focus_witness, side, premise, hit, IsWritten, IsFocusWritten}
use Rattle.lp_cert.specs.Run.{Claim, FocusesOn, Job, Needs, ProvesOn, RunsTo, StepsOn, focusing, leaving_assumed, leaving_eigen, proving, without_last}
use Rattle.lp_cert.specs.inner.Left.{Ends}
use Rattle.lp_cert.specs.inner.Turned.{Always}
use Rattle.lp_cert.proofs.Stepping.{without_pushed, assumed_pushed}

-- whatever is claimed of what is left

module _ (g : Ground) (K L : Claim) (f : (E : List Ty) → (As : List Term) → (js : List Job) → K E As js → L E As js) where
  proves_map : (E : List Ty) (As : List Term) (js : List Job) (G : Term) (n : Node) → ProvesOn g K E As js G n → ProvesOn g L E As js G n
  proves_map E As js G (converted H) h = (h.0, h.1, f E As (proving H ∷ js) h.2)
  proves_map E As js G trivial h = (h.0, f E As js h.1)
  proves_map E As js G pair h = (h.0, h.1, h.2, f E As (proving h.0 ∷ proving h.1 ∷ js) h.3)
  proves_map E As js G left_side h = (h.0, h.1, h.2, f E As (proving h.0 ∷ js) h.3)
  proves_map E As js G right_side h = (h.0, h.1, h.2, f E As (proving h.1 ∷ js) h.3)
  proves_map E As js G (witness t) h = (h.0, h.1, h.2, h.3, f E As (proving (app h.1 t) ∷ js) h.4)
  proves_map E As js G general h = (h.0, h.1, h.2, f (E ++ h.0 ∷ []) As (proving (app h.1 (atom (eigen (suc (length E))))) ∷ leaving_eigen ∷ js) h.3)
  proves_map E As js G assuming h = (h.0, h.1, h.2, f E (As ++ h.0 ∷ []) (proving h.1 ∷ leaving_assumed ∷ js) h.3)
  proves_map E As js G equated h = (h.0, f E As js h.1)
  proves_map E As js G counted h = (h.0, f E As js h.1)
  proves_map E As js G (back_to i ts) h = (h.0, h.1, h.2, h.3, h.4, f E As (focusing (instance_term (type_at ts) h.0.formula) G ∷ js) h.5)
  proves_map E As js G (focus_converted H) h = absurd h
  proves_map E As js G (focus_witness t) h = absurd h
  proves_map E As js G (side k) h = absurd h
  proves_map E As js G premise h = absurd h
  proves_map E As js G hit h = absurd h

  focuses_map : (E : List Ty) (As : List Term) (js : List Job) (D G : Term) (n : Node) → FocusesOn g K E As js D G n → FocusesOn g L E As js D G n
  focuses_map E As js D G (focus_converted H) h = (h.0, h.1, f E As (focusing H G ∷ js) h.2)
  focuses_map E As js D G (focus_witness t) h = (h.0, h.1, h.2, h.3, f E As (focusing (app h.1 t) G ∷ js) h.4)
  focuses_map E As js D G (side k) h = (h.0, h.1, h.2, elim h.3 [ inl q ↦ inl (q.0, f E As (focusing h.0 G ∷ js) q.1) | inr q ↦ inr (q.0, f E As (focusing h.1 G ∷ js) q.1) ])
  focuses_map E As js D G premise h = (h.0, h.1, h.2, f E As (proving h.0 ∷ focusing h.1 G ∷ js) h.3)
  focuses_map E As js D G hit h = (h.0, f E As js h.1)
  focuses_map E As js D G (converted H) h = absurd h
  focuses_map E As js D G trivial h = absurd h
  focuses_map E As js D G pair h = absurd h
  focuses_map E As js D G left_side h = absurd h
  focuses_map E As js D G right_side h = absurd h
  focuses_map E As js D G (witness t) h = absurd h
  focuses_map E As js D G general h = absurd h
  focuses_map E As js D G assuming h = absurd h
  focuses_map E As js D G equated h = absurd h
  focuses_map E As js D G counted h = absurd h
  focuses_map E As js D G (back_to i ts) h = absurd h

  pub step_map : (E : List Ty) (As : List Term) (js : List Job) (n : Node) → StepsOn g K E As js n → StepsOn g L E As js n
  step_map E As [] n h = absurd h
  step_map E As (proving G ∷ js) n h = proves_map E As js G n h
  step_map E As (focusing D G ∷ js) n h = focuses_map E As js D G n h
  step_map E As (leaving_eigen ∷ js) n h = step_map (without_last E) As js n h
  step_map E As (leaving_assumed ∷ js) n h = step_map E (without_last As) js n h

-- what a node leaves is one thing

pub two_once : (c : ℕ) (ts us : List Ty) (A B C D : Term) → two c ts A B ≡ two c us C D → (A ≡ C) × (B ≡ D)
two_once c ts us A B C D e = (cc, cc)

pub binder_once : (c : ℕ) (T U : Ty) (s t : Term) → app (atom (constant c (T ∷ []))) s ≡ app (atom (constant c (U ∷ []))) t → (T ≡ U) × (s ≡ t)
binder_once c T U s t e = (cc, cc)

pub implied_once : (G D A B C : Term) → IsImplication G D A → IsImplication G B C → (D ≡ B) × (A ≡ C)
implied_once G D A B C (inl e) (inl f) = two_once number.Implies [] [] D A B C (sym e ∙ f)
implied_once G D A B C (inr e) (inr f) = let q = two_once number.If [] [] A D C B (sym e ∙ f) in (q.1, q.0)
implied_once G D A B C (inl e) (inr f) = absurd (cc)
implied_once G D A B C (inr e) (inl f) = absurd (cc)

clause_once : (P : List ClauseFormula) (i : ℕ) (C D : ClauseFormula) → slice_get P i ≡ Some C → slice_get P i ≡ Some D → C ≡ D
clause_once P i C D e f = cc

module _ (g : Ground) (K L : Claim) where
  abbrev pub Both : Claim
  Both E As js = K E As js × L E As js

  proves_both : (E : List Ty) (As : List Term) (js : List Job) (G : Term) (n : Node) → ProvesOn g K E As js G n → ProvesOn g L E As js G n → ProvesOn g Both E As js G n
  proves_both E As js G (converted H) h l = (h.0, h.1, (h.2, l.2))
  proves_both E As js G trivial h l = (h.0, (h.1, l.1))
  proves_both E As js G pair h l = let q = two_once number.And [] [] l.0 l.1 h.0 h.1 (sym l.2 ∙ h.2) in (h.0, h.1, h.2, (h.3, transport (λ j. L E As (proving (q.0 j) ∷ proving (q.1 j) ∷ js)) l.3))
  proves_both E As js G left_side h l = let q = two_once number.Or [] [] l.0 l.1 h.0 h.1 (sym l.2 ∙ h.2) in (h.0, h.1, h.2, (h.3, transport (λ j. L E As (proving (q.0 j) ∷ js)) l.3))
  proves_both E As js G right_side h l = let q = two_once number.Or [] [] l.0 l.1 h.0 h.1 (sym l.2 ∙ h.2) in (h.0, h.1, h.2, (h.3, transport (λ j. L E As (proving (q.1 j) ∷ js)) l.3))
  proves_both E As js G (witness t) h l = let q = binder_once number.Exists l.0 h.0 l.1 h.1 (sym l.2 ∙ h.2) in (h.0, h.1, h.2, h.3, (h.4, transport (λ j. L E As (proving (app (q.1 j) t) ∷ js)) l.4))
  proves_both E As js G general h l =
      let q = binder_once number.ForAll l.0 h.0 l.1 h.1 (sym l.2 ∙ h.2) in
      (h.0, h.1, h.2, (h.3, transport (λ j. L (E ++ q.0 j ∷ []) As (proving (app (q.1 j) (atom (eigen (suc (length E))))) ∷ leaving_eigen ∷ js)) l.3))
  proves_both E As js G assuming h l = let q = implied_once G l.0 l.1 h.0 h.1 l.2 h.2 in (h.0, h.1, h.2, (h.3, transport (λ j. L E (As ++ q.0 j ∷ []) (proving (q.1 j) ∷ leaving_assumed ∷ js)) l.3))
  proves_both E As js G equated h l = (h.0, (h.1, l.1))
  proves_both E As js G counted h l = (h.0, (h.1, l.1))
  proves_both E As js G (back_to i ts) h l =
      let q = clause_once (g.clauses ++ map assumed As) i l.0 h.0 l.1 h.1 in
      (h.0, h.1, h.2, h.3, h.4, (h.5, transport (λ j. L E As (focusing (instance_term (type_at ts) (q j).formula) G ∷ js)) l.5))
  proves_both E As js G (focus_converted H) h l = absurd h
  proves_both E As js G (focus_witness t) h l = absurd h
  proves_both E As js G (side k) h l = absurd h
  proves_both E As js G premise h l = absurd h
  proves_both E As js G hit h l = absurd h

  sides_both : (k : ℕ) (E : List Ty) (As : List Term) (js : List Job) (G B C : Term) → ((k ≡ 0) × K E As (focusing B G ∷ js)) ⊎ ((k ≡ 1) × K E As (focusing C G ∷ js)) → ((k ≡ 0) × L E As (focusing B G ∷ js)) ⊎ ((k ≡ 1) × L E As (focusing C G ∷ js)) →
      ((k ≡ 0) × Both E As (focusing B G ∷ js)) ⊎ ((k ≡ 1) × Both E As (focusing C G ∷ js))
  sides_both k E As js G B C (inl a) (inl b) = inl (a.0, (a.1, b.1))
  sides_both k E As js G B C (inr a) (inr b) = inr (a.0, (a.1, b.1))
  sides_both k E As js G B C (inl a) (inr b) = absurd (let e = a.0 in let f = b.0 in omega (arith, e, f))
  sides_both k E As js G B C (inr a) (inl b) = absurd (let e = a.0 in let f = b.0 in omega (arith, e, f))

  focuses_both : (E : List Ty) (As : List Term) (js : List Job) (D G : Term) (n : Node) → FocusesOn g K E As js D G n → FocusesOn g L E As js D G n → FocusesOn g Both E As js D G n
  focuses_both E As js D G (focus_converted H) h l = (h.0, h.1, (h.2, l.2))
  focuses_both E As js D G (focus_witness t) h l = let q = binder_once number.ForAll l.0 h.0 l.1 h.1 (sym l.2 ∙ h.2) in (h.0, h.1, h.2, h.3, (h.4, transport (λ j. L E As (focusing (app (q.1 j) t) G ∷ js)) l.4))
  focuses_both E As js D G (side k) h l =
      let q = two_once number.And [] [] l.0 l.1 h.0 h.1 (sym l.2 ∙ h.2) in
      (h.0, h.1, h.2, sides_both k E As js G h.0 h.1 h.3 (transport (λ j. ((k ≡ 0) × L E As (focusing (q.0 j) G ∷ js)) ⊎ ((k ≡ 1) × L E As (focusing (q.1 j) G ∷ js))) l.3))
  focuses_both E As js D G premise h l = let q = implied_once D l.0 l.1 h.0 h.1 l.2 h.2 in (h.0, h.1, h.2, (h.3, transport (λ j. L E As (proving (q.0 j) ∷ focusing (q.1 j) G ∷ js)) l.3))
  focuses_both E As js D G hit h l = (h.0, (h.1, l.1))
  focuses_both E As js D G (converted H) h l = absurd h
  focuses_both E As js D G trivial h l = absurd h
  focuses_both E As js D G pair h l = absurd h
  focuses_both E As js D G left_side h l = absurd h
  focuses_both E As js D G right_side h l = absurd h
  focuses_both E As js D G (witness t) h l = absurd h
  focuses_both E As js D G general h l = absurd h
  focuses_both E As js D G assuming h l = absurd h
  focuses_both E As js D G equated h l = absurd h
  focuses_both E As js D G counted h l = absurd h
  focuses_both E As js D G (back_to i ts) h l = absurd h

  pub step_both : (E : List Ty) (As : List Term) (js : List Job) (n : Node) → StepsOn g K E As js n → StepsOn g L E As js n → StepsOn g Both E As js n
  step_both E As [] n h l = absurd h
  step_both E As (proving G ∷ js) n h l = proves_both E As js G n h l
  step_both E As (focusing D G ∷ js) n h l = focuses_both E As js D G n h l
  step_both E As (leaving_eigen ∷ js) n h l = step_both (without_last E) As js n h l
  step_both E As (leaving_assumed ∷ js) n h l = step_both E (without_last As) js n h l

-- a claim that says nothing of what is left

module _ (g : Ground) (C : Type 0) where
  proves_gives : (E : List Ty) (As : List Term) (js : List Job) (G : Term) (n : Node) → ProvesOn g (Always C) E As js G n → C
  proves_gives E As js G (converted H) h = h.2
  proves_gives E As js G trivial h = h.1
  proves_gives E As js G pair h = h.3
  proves_gives E As js G left_side h = h.3
  proves_gives E As js G right_side h = h.3
  proves_gives E As js G (witness t) h = h.4
  proves_gives E As js G general h = h.3
  proves_gives E As js G assuming h = h.3
  proves_gives E As js G equated h = h.1
  proves_gives E As js G counted h = h.1
  proves_gives E As js G (back_to i ts) h = h.5
  proves_gives E As js G (focus_converted H) h = absurd h
  proves_gives E As js G (focus_witness t) h = absurd h
  proves_gives E As js G (side k) h = absurd h
  proves_gives E As js G premise h = absurd h
  proves_gives E As js G hit h = absurd h

  focuses_gives : (E : List Ty) (As : List Term) (js : List Job) (D G : Term) (n : Node) → FocusesOn g (Always C) E As js D G n → C
  focuses_gives E As js D G (focus_converted H) h = h.2
  focuses_gives E As js D G (focus_witness t) h = h.4
  focuses_gives E As js D G (side k) h = elim h.3 [ inl q ↦ q.1 | inr q ↦ q.1 ]
  focuses_gives E As js D G premise h = h.3
  focuses_gives E As js D G hit h = h.1
  focuses_gives E As js D G (converted H) h = absurd h
  focuses_gives E As js D G trivial h = absurd h
  focuses_gives E As js D G pair h = absurd h
  focuses_gives E As js D G left_side h = absurd h
  focuses_gives E As js D G right_side h = absurd h
  focuses_gives E As js D G (witness t) h = absurd h
  focuses_gives E As js D G general h = absurd h
  focuses_gives E As js D G assuming h = absurd h
  focuses_gives E As js D G equated h = absurd h
  focuses_gives E As js D G counted h = absurd h
  focuses_gives E As js D G (back_to i ts) h = absurd h

  pub step_gives : (E : List Ty) (As : List Term) (js : List Job) (n : Node) → StepsOn g (Always C) E As js n → C
  step_gives E As [] n h = absurd h
  step_gives E As (proving G ∷ js) n h = proves_gives E As js G n h
  step_gives E As (focusing D G ∷ js) n h = focuses_gives E As js D G n h
  step_gives E As (leaving_eigen ∷ js) n h = step_gives (without_last E) As js n h
  step_gives E As (leaving_assumed ∷ js) n h = step_gives E (without_last As) js n h

-- a proof that is written by nodes runs over the first one

module _ (g : Ground) (E : List Ty) (As : List Term) (js : List Job) (n : Node) (ns more : List Node) where
  abbrev pub Behind : List Node → Claim
  Behind ms F Bs ks = Ends g F Bs ks ms

  proof_as : (G : Term) (m : Node) (ms : List Node) → n ∷ ns ≡ m ∷ ms → ProvesOn g (Behind ms) E As js G m → ProvesOn g (Behind ns) E As js G n
  proof_as G m ms e h = let a : m ≡ n = cc in let b : ms ≡ ns = cc in transport (λ j. ProvesOn g (Behind (b j)) E As js G (a j)) h

  focus_as : (D G : Term) (m : Node) (ms : List Node) → n ∷ ns ≡ m ∷ ms → FocusesOn g (Behind ms) E As js D G m → FocusesOn g (Behind ns) E As js D G n
  focus_as D G m ms e h = let a : m ≡ n = cc in let b : ms ≡ ns = cc in transport (λ j. FocusesOn g (Behind (b j)) E As js D G (a j)) h

  pub proof_step : (G : Term) (p : Proof) → IsWritten p (n ∷ ns) more → proves_by no_leaf g.declared E (g.clauses ++ map assumed As) G p → Ends g E As js more → ProvesOn g (Behind ns) E As js G n
  proof_step G (Conv H p) w q h = proof_as G (converted H) w.0 w.1 (q.0, q.1, (p, more, w.2, q.2, h))
  proof_step G True w q h = proof_as G trivial more w (q, h)
  proof_step G (And p r) w q h = proof_as G pair w.0 w.2 (q.0, q.1, q.2, (p, w.1, w.3, q.3, (r, more, w.4, q.4, h)))
  proof_step G (Left p) w q h = proof_as G left_side w.0 w.1 (q.0, q.1, q.2, (p, more, w.2, q.3, h))
  proof_step G (Right p) w q h = proof_as G right_side w.0 w.1 (q.0, q.1, q.2, (p, more, w.2, q.3, h))
  proof_step G (Witness t p) w q h = proof_as G (witness t) w.0 w.1 (q.0, q.1, q.2, q.3, (p, more, w.2, q.4, h))
  proof_step G (All p) w q h = proof_as G general w.0 w.1 (q.0, q.1, q.2, (p, more, w.2, q.3, subst (λ F. Ends g F As js more) (sym (without_pushed E q.0)) h))
  proof_step G (Assume p) w q h =
      proof_as G assuming w.0 w.1 (q.0, q.1, q.2, (p, more, w.2, subst (λ P. proves_by no_leaf g.declared E P q.1 p) (sym (assumed_pushed g.clauses As q.0)) q.3, subst (λ Bs. Ends g E Bs js more) (sym (without_pushed As q.0)) h))
  proof_step G Equal w q h = proof_as G equated more w (q, h)
  proof_step G Arith w q h = proof_as G counted more w (q, h)
  proof_step G (Back i ts f) w q h = proof_as G (back_to i ts) w.0 w.1 (q.0, q.1, q.2, q.3, q.4, (f, more, w.2, q.5, h))
  proof_step G (Fails s) w q h = absurd w

  pub focus_step : (D G : Term) (f : Focus) → IsFocusWritten f (n ∷ ns) more → focuses_by no_leaf g.declared E (g.clauses ++ map assumed As) D G f → Ends g E As js more → FocusesOn g (Behind ns) E As js D G n
  focus_step D G (FConv H f) w q h = focus_as D G (focus_converted H) w.0 w.1 (q.0, q.1, (f, more, w.2, q.2, h))
  focus_step D G (FAll t f) w q h = focus_as D G (focus_witness t) w.0 w.1 (q.0, q.1, q.2, q.3, (f, more, w.2, q.4, h))
  focus_step D G (FTake true f) w q h = focus_as D G (side 1) w.0 w.1 (q.0, q.1, q.2, inr (refl, (f, more, w.2, q.3, h)))
  focus_step D G (FTake false f) w q h = focus_as D G (side 0) w.0 w.1 (q.0, q.1, q.2, inl (refl, (f, more, w.2, q.3, h)))
  focus_step D G (FNeed p f) w q h = focus_as D G premise w.0 w.2 (q.0, q.1, q.2, (p, w.1, w.3, q.3, (f, more, w.4, q.4, h)))
  focus_step D G FHit w q h = focus_as D G hit more w (q, h)

abbrev pub EndsBy : Ground → List Node → Claim
EndsBy g ns E As js = Ends g E As js ns

pub ends_step : (g : Ground) (E : List Ty) (As : List Term) (js : List Job) (n : Node) (ns : List Node) → Ends g E As js (n ∷ ns) → StepsOn g (EndsBy g ns) E As js n
ends_step g E As [] n ns h = absurd (cc)
ends_step g E As (proving G ∷ js) n ns h = proof_step g E As js n ns h.1 G h.0 h.2 h.3 h.4
ends_step g E As (focusing D G ∷ js) n ns h = focus_step g E As js n ns h.1 D G h.0 h.2 h.3 h.4
ends_step g E As (leaving_eigen ∷ js) n ns h = ends_step g (without_last E) As js n ns h
ends_step g E As (leaving_assumed ∷ js) n ns h = ends_step g E (without_last As) js n ns h

-- runs

pub run_map : (g : Ground) (K L : Claim) → ((E : List Ty) → (As : List Term) → (js : List Job) → K E As js → L E As js) → (E : List Ty) (As : List Term) (js : List Job) (ms : List Node) → RunsTo g K E As js ms → RunsTo g L E As js ms
run_map g K L f E As js [] h = f E As js h
run_map g K L f E As js (m ∷ ms) h = step_map g (λ F Bs ks. RunsTo g K F Bs ks ms) (λ F Bs ks. RunsTo g L F Bs ks ms) (λ F Bs ks r. run_map g K L f F Bs ks ms r) E As js m h

pub run_then : (g : Ground) (K L : Claim) (n : Node) → ((E : List Ty) → (As : List Term) → (js : List Job) → K E As js → StepsOn g L E As js n) →
    (E : List Ty) (As : List Term) (js : List Job) (ms : List Node) → RunsTo g K E As js ms → RunsTo g L E As js (ms ++ n ∷ [])
run_then g K L n f E As js [] h = f E As js h
run_then g K L n f E As js (m ∷ ms) h = step_map g (λ F Bs ks. RunsTo g K F Bs ks ms) (λ F Bs ks. RunsTo g L F Bs ks (ms ++ n ∷ [])) (λ F Bs ks r. run_then g K L n f F Bs ks ms r) E As js m h

-- what a run claims of what is left, where more nodes end it
pub run_ends : (g : Ground) (K : Claim) (C : Type 0) (ns : List Node) → ((E : List Ty) → (As : List Term) → (js : List Job) → K E As js → Ends g E As js ns → C) →
    (E : List Ty) (As : List Term) (js : List Job) (ms : List Node) → RunsTo g K E As js ms → Ends g E As js (ms ++ ns) → C
run_ends g K C ns f E As js [] h e = f E As js h e
run_ends g K C ns f E As js (m ∷ ms) h e =
    let M : Claim = λ F Bs ks. RunsTo g K F Bs ks ms in
    let N : Claim = EndsBy g (ms ++ ns) in
    step_gives g C E As js m (step_map g (Both g M N) (Always C) (λ F Bs ks q. run_ends g K C ns f F Bs ks ms q.0 q.1) E As js m (step_both g M N E As js m h (ends_step g E As js m (ms ++ ns) e)))
