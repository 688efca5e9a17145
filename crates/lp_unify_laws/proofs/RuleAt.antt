-- What the rule for a pair does, under types for the type variables at which the pair is typed: it keeps each solution and the types, and adds none.
use Rattle.std.proofs.Common.{◌≡◌, ℕ, suc, List, [], ◌∷◌, map, length, ◌∙◌, refl, sym, ap, subst as transport, arith, true, false, nat_eq, Some}
use Rattle.std.specs.Prelude.{◌&&◌, option_map, option_and_then}
use Rattle.std.proofs.lemmas.Option.{option_and_then_some}
use Rattle.lp_calculus.specs.Types.{Ty}
use Rattle.lp_calculus.specs.Term.{Term, index, atom, abs, app, apply, Atom, constant, integer, text, eigen, logic, param}
use Rattle.lp_calculus.specs.Convert.{Converts, ReducesTo}
use Rattle.lp_calculus.specs.Fill.{Within, at_variables}
use Rattle.lp_calculus.specs.Instance.{instance_atom, instance_term}
use Rattle.lp_calculus.proofs.Steps.{converts_on, converts_sym, converts_is, converts_reduces, converts_fill, within_reduces}
use Rattle.lp_calculus.proofs.Fills.{within_more}
use Rattle.lp_calculus.proofs.Commutations.{instance_converts}
use Rattle.lp_calculus.proofs.Rigid.{IsRigid}
use Rattle.lp_model.specs.Same.{same_name}
use Rattle.lp_model.specs.Types.{TypeBinding, TypeOutcome, none, solved, solve_types}
use Rattle.lp_model.specs.Look.{Look, an_abs, rigid, flexible, look}
use Rattle.lp_model.specs.Pair.{Pair}
use Rattle.lp_model.specs.Rule.{Compared, type_pairs, compare_all, opened, with_types, decompose, Verdict, fails, gives, binds, delays, Ruled, ruled, by_rule_5, by_rule_4, dear, by_looks, rule}
use Rattle.lp_model.specs.Proofs.{Declared}
use Rattle.lp_model.specs.Answers.{Variable, PairTyping, AreTypedPairs, IsScopedAtom}
use Rattle.lp_unify_laws.specs.Levels.{IsPair, IsPairAtom, IsClosing, UpTo, SolvedBy, AllSolvedBy}
use Rattle.lp_unify_laws.specs.TypeSolutions.{Satisfies}
use Rattle.lp_unify_laws.proofs.Sames.{both, both_on, same_number, number_same}
use Rattle.lp_unify_laws.proofs.Looks.{seen, look_reduces, converts_spine}
use Rattle.lp_unify_laws.proofs.Firm.{IsFirm, look_firm}
use Rattle.lp_unify_laws.proofs.Closings.{within_apply, length_close}
use Rattle.lp_unify_laws.proofs.Compares.{compare_all_is}
use Rattle.lp_unify_laws.proofs.Plainly.{pair_up, opened_right, joint_of, decomposed_right}
use Rattle.lp_unify_laws.proofs.NewVariables.{IsTypedClosing}
use Rattle.lp_unify_laws.proofs.TypedBindings.{IsTypedTerm, term_pair, term_reduces}
use Rattle.lp_unify_laws.proofs.Rules.{IsBinding, NoAbs, IsSolved, IsTypedAt, Looked, map_ruled, rule_5_right, rule_4_right}
use Rattle.lp_unify_laws.proofs.TypeSolving.{AreSolved, types_right}
use Rattle.lp_unify_laws.proofs.Instances.{instance_all, instance_look, instance_binding, instance_apply, length_instance, look_instance}
use Rattle.lp_unify_laws.proofs.RuleInstances.{instance_pair, instance_verdict, instance_ruled, rule_5_instance, rule_4_instance}
use Rattle.lp_unify_laws.proofs.Decomposing.{arguments_instance, heads_unify, unify_heads, instance_rigid, heads_typed}
use Rattle.lp_unify_laws.proofs.Opening.{IsArrow, abs_arrow, opened_pair}

pub record IsGivenAt (θ : ℕ → Ty) (d : Declared) (V : List Variable) (p : Pair) (ts : List TypeBinding) (ps : List Pair) : Type 0 where
  pub typed : (E : List Ty) (T : Ty) (next : ℕ) → IsTypedAt d E V next (instance_pair θ p) T → Satisfies θ ts → (qs : List PairTyping) × AreTypedPairs d V qs (map (instance_pair θ) ps)
  pub keeps : (σ : ℕ → ℕ → Term) → IsClosing σ → SolvedBy σ (instance_pair θ p) → Satisfies θ ts × AllSolvedBy σ (map (instance_pair θ) ps)
  pub solves : (σ : ℕ → ℕ → Term) → IsClosing σ → Satisfies θ ts → AllSolvedBy σ (map (instance_pair θ) ps) → SolvedBy σ (instance_pair θ p)

abbrev pub IsRightAt : (ℕ → Ty) → Declared → List Variable → ℕ → Pair → Verdict → Type 0
IsRightAt θ d V next p fails = (σ : ℕ → ℕ → Term) → IsClosing σ → IsTypedClosing d V σ → SolvedBy σ (instance_pair θ p) → ⊥
IsRightAt θ d V next p (gives ts ps) = IsGivenAt θ d V p ts ps
IsRightAt θ d V next p (binds bs next') = IsBinding d V next (instance_pair θ p) (map (instance_binding θ) bs) next'
IsRightAt θ d V next p delays = Unit {0}

-- rules 4, 5 and 6
solved_at : (θ : ℕ → Ty) (d : Declared) (V : List Variable) (next : ℕ) (p : Pair) (v : Verdict) → IsSolved d V next (instance_pair θ p) (instance_verdict θ v) → IsRightAt θ d V next p v
solved_at θ d V next p fails h = h
solved_at θ d V next p (gives ts ps) h = absurd h
solved_at θ d V next p (binds bs next') h = h
solved_at θ d V next p delays h = tt

rule_5_at : (θ : ℕ → Ty) (d : Declared) (E : List Ty) (V : List Variable) (T : Ty) (n next : ℕ) (p : Pair) (v w : Look) (r : Ruled) → IsTypedAt d E V
    next (instance_pair θ p) T → Looked next (instance_pair θ p) (instance_look θ v) (instance_look θ w) → NoAbs v → NoAbs w → by_rule_5 n next p v w
    ≡ Some r → IsRightAt θ d V next p r.verdict
rule_5_at θ d E V T n next p v w r ty k a b e =
    solved_at θ d V next p r.verdict (rule_5_right d E V T n next (instance_pair θ p) (instance_look θ v) (instance_look θ w) (instance_ruled θ r) ty k (no_abs v a) (no_abs w b) (rule_5_instance θ n next p v w ∙ ap (option_map (instance_ruled θ)) e))
  where
    no_abs : (v : Look) → NoAbs v → NoAbs (instance_look θ v)
    no_abs (an_abs b) h = h
    no_abs (rigid h ts) k = tt
    no_abs (flexible x l ts) k = tt

rule_4_at : (θ : ℕ → Ty) (d : Declared) (E : List Ty) (V : List Variable) (T : Ty) (n next : ℕ) (p : Pair) (x l : ℕ) (ts us : List Term) (r : Ruled) →
    IsTypedAt d E V next (instance_pair θ p) T → Looked next (instance_pair θ p) (instance_look θ (flexible x l ts))
    (instance_look θ (flexible x l us)) → length ts ≡ length us → by_rule_4 n next p x l ts us ≡ Some r → IsRightAt θ d V next p r.verdict
rule_4_at θ d E V T n next p x l ts us r ty k e h =
    solved_at θ d V next p r.verdict (rule_4_right d E V T n next (instance_pair θ p) x l (instance_all θ ts) (instance_all θ us) (instance_ruled θ r) ty k (length_instance θ ts ∙ e ∙ sym (length_instance θ us)) (rule_4_instance θ n next p x l ts us ∙ ap (option_map (instance_ruled θ)) h))

-- rule 2
pub opened_at : (θ : ℕ → Ty) (d : Declared) (V : List Variable) (next : ℕ) (p : Pair) → IsPair next (instance_pair θ p) → ((E : List Ty) (T : Ty) (next : ℕ) → IsTypedAt d E V next (instance_pair θ p) T → IsArrow T) → IsGivenAt θ d V p [] (opened p ∷ [])
opened_at θ d V next p w a =
    let g = opened_right next (instance_pair θ p) w in
    record {
      typed = λ E T next' ty s. let q = opened_pair d E V (instance_pair θ p) T ty.level (a E T next' ty) ty.left ty.right in (q.0 ∷ [], (q.1, tt));
      keeps = λ σ c s. (tt, g.keeps σ c s);
      solves = λ σ c x s. g.solves σ c s;
    }

-- rule 3
pub decomposed_at : (θ : ℕ → Ty) (d : Declared) (V : List Variable) (n next : ℕ) (p : Pair) (h g : Term) (ts us : List Term) (r : Ruled) → IsPair next (instance_pair θ p) → IsRigid h → IsRigid g →
    ReducesTo (instance_term θ p.left) (apply (instance_term θ h) (instance_all θ ts)) → ReducesTo (instance_term θ p.right) (apply (instance_term θ g) (instance_all θ us)) → decompose n p.level h ts g us ≡ Some r → IsRightAt θ d V next p r.verdict
decomposed_at θ d V n next p h g ts us r w i j f k e =
    elim (same_name h g && nat_eq (length ts) (length us)) as (λ b. (same_name h g && nat_eq (length ts) (length us)) ≡ b → (elim b [
      | true ↦ option_map (with_types p.level ts us) (solve_types n (type_pairs h g) [] 0)
      | false ↦ Some (ruled 0 fails)
    ]) ≡ Some r → IsRightAt θ d V next p r.verdict) [
      | true ↦ λ a z.
          let m = map_ruled (with_types p.level ts us) (solve_types n (type_pairs h g) [] 0) r z in
          let s = both (same_name h g) (nat_eq (length ts) (length us)) a in
          transport (λ x. IsRightAt θ d V next p x.verdict) m.2 (by_types s.0 (same_number (length ts) (length us) s.1) m.0 (types_right n (type_pairs h g) [] 0 m.0 m.1))
      | false ↦ λ a z. let x : ruled 0 fails ≡ r = cc in transport (λ y. IsRightAt θ d V next p y.verdict) x (differ a)
    ] refl e
  where
    q : Pair
    q = instance_pair θ p

    h' : Term
    h' = instance_term θ h

    g' : Term
    g' = instance_term θ g

    ts' : List Term
    ts' = instance_all θ ts

    us' : List Term
    us' = instance_all θ us

    differ : (same_name h g && nat_eq (length ts) (length us)) ≡ false → (σ : ℕ → ℕ → Term) → IsClosing σ → IsTypedClosing d V σ → SolvedBy σ q → ⊥
    differ a σ c x s =
        let o = joint_of σ q h' g' ts' us' (instance_rigid θ h i) (instance_rigid θ g j) (converts_reduces f) (converts_reduces k) s in
        let u = heads_unify θ h g i o.heads in
        let l : length ts ≡ length us = sym (length_instance θ ts) ∙ sym (length_close σ ts') ∙ o.lengths ∙ length_close σ us' ∙ length_instance θ us in
        let m : nat_eq (length ts) (length us) ≡ true = transport (λ z. nat_eq (length ts) z ≡ true) l (number_same (length ts)) in
        let z = both_on (same_name h g) (nat_eq (length ts) (length us)) u.0 m in
        absurd (cc)

    left_within : Within (IsPairAtom next p.level) 0 (apply h' ts')
    left_within = within_reduces (IsPairAtom next p.level) 0 f w.0

    right_within : Within (IsPairAtom next p.level) 0 (apply g' us')
    right_within = within_reduces (IsPairAtom next p.level) 0 k w.1

    by_types : same_name h g ≡ true → length ts ≡ length us → (o : TypeOutcome) → AreSolved (type_pairs h g) [] o → IsRightAt θ d V next p (with_types p.level ts us o).verdict
    by_types a l (none u) t = λ σ c x s. t θ (heads_unify θ h g i (joint_of σ q h' g' ts' us' (instance_rigid θ h i) (instance_rigid θ g j) (converts_reduces f) (converts_reduces k) s).heads).1
    by_types a l (solved made u) t =
        let new_made : t.new ≡ made = sym t.is in
        let l' : length ts' ≡ length us' = length_instance θ ts ∙ l ∙ sym (length_instance θ us) in
        let given = (λ (s : Satisfies θ made). decomposed_right next q h' g' ts' us' (instance_rigid θ h i) (instance_rigid θ g j) (unify_heads θ h g a (t.solves θ (transport (Satisfies θ) (sym new_made) s))) l' (converts_reduces f) (converts_reduces k)
        (within_apply (IsPairAtom next p.level) ts' h' left_within).1 (within_apply (IsPairAtom next p.level) us' g' right_within).1) in
        record {
          typed = λ E T next' ty s.
              let x = term_reduces d E V T f ty.left in
              let y = term_reduces d E V T k ty.right in
              transport (λ z. (qs : List PairTyping) × AreTypedPairs d V qs z) (sym (arguments_instance θ made s p.level ts us))
              (heads_typed d E V p.level ty.level h' g' T T ts' us' (instance_rigid θ h i) (unify_heads θ h g a (t.solves θ (transport (Satisfies θ) (sym new_made) s))) x.typed y.typed
              (within_apply (IsScopedAtom V E) ts' h' x.scoped).1 (within_apply (IsScopedAtom V E) us' g' y.scoped).1);
          keeps = λ σ c s.
              let o = joint_of σ q h' g' ts' us' (instance_rigid θ h i) (instance_rigid θ g j) (converts_reduces f) (converts_reduces k) s in
              let m : Satisfies θ made = transport (Satisfies θ) new_made (t.keeps θ (heads_unify θ h g i o.heads).1) in
              (m, transport (AllSolvedBy σ) (sym (arguments_instance θ made m p.level ts us)) ((given m).keeps σ c s));
          solves = λ σ c m s. (given m).solves σ c (transport (AllSolvedBy σ) (arguments_instance θ made m p.level ts us) s);
        }

-- rule 1
up_back : (k : ℕ) (θ : ℕ → Ty) (a : Atom) → UpTo k (instance_atom θ a) → UpTo k a
up_back k θ (constant c us) h = tt
up_back k θ (integer z) h = tt
up_back k θ (text s) h = tt
up_back k θ (eigen j) h = h
up_back k θ (logic x l) h = tt
up_back k θ (param j u) h = tt

within_back : (k n : ℕ) (θ : ℕ → Ty) (t : Term) → Within (UpTo k) n (instance_term θ t) → Within (UpTo k) n t
within_back k n θ (index i) h = h
within_back k n θ (atom a) h = up_back k θ a h
within_back k n θ (abs b) h = within_back k (suc n) θ b h
within_back k n θ (app t u) h = (within_back k n θ t h.0, within_back k n θ u h.1)

within_pairs : (next n : ℕ) (t : Term) → Within (IsPairAtom next n) 0 t → Within (UpTo n) 0 t
within_pairs next n t w = within_more (IsPairAtom next n) (UpTo n) 0 0 (pair_up next n) (omega arith) t w

same_at : (θ : ℕ → Ty) (d : Declared) (V : List Variable) (p : Pair) → Converts p.left p.right → IsGivenAt θ d V p [] []
same_at θ d V p h = record {
  typed = λ E T next ty s. ([], tt);
  keeps = λ σ c s. (tt, tt);
  solves = λ σ c x s. converts_fill (at_variables σ) (instance_converts θ p.left p.right h);
}

looks_at : (θ : ℕ → Ty) (d : Declared) (E : List Ty) (V : List Variable) (T : Ty) (n next : ℕ) (p : Pair) (v w : Look) (r : Ruled) → IsTypedAt d E V
    next (instance_pair θ p) T → ReducesTo p.left (seen v) → ReducesTo p.right (seen w) → IsFirm v → IsFirm w → Looked next (instance_pair θ p)
    (instance_look θ v) (instance_look θ w) → by_looks n next p v w ≡ Some r → IsRightAt θ d V next p r.verdict
looks_at θ d E V T n next p (an_abs b) w r ty f g i j k h = let z : ruled 0 (gives [] (opened p ∷ [])) ≡ r = cc in transport (λ q. IsRightAt θ d V next p q.verdict) z (opened_at θ d V next p k.pair (λ E T next' ty. abs_arrow d E V (instance_term θ p.left) (instance_term θ b) T ty.left k.left))
looks_at θ d E V T n next p (rigid e ts) (an_abs c) r ty f g i j k h = let z : ruled 0 (gives [] (opened p ∷ [])) ≡ r = cc in transport
    (λ q. IsRightAt θ d V next p q.verdict) z (opened_at θ d V next p k.pair (λ E T next' ty. abs_arrow d E V (instance_term θ p.right)
    (instance_term θ c) T ty.right k.right))
looks_at θ d E V T n next p (flexible x l ts) (an_abs c) r ty f g i j k h = let z : ruled 0 (gives [] (opened p ∷ [])) ≡ r = cc in transport
    (λ q. IsRightAt θ d V next p q.verdict) z (opened_at θ d V next p k.pair (λ E T next' ty. abs_arrow d E V (instance_term θ p.right)
    (instance_term θ c) T ty.right k.right))
looks_at θ d E V T n next p (rigid e ts) (rigid m us) r ty f g i j k h = decomposed_at θ d V n next p e m ts us r k.pair i j k.left k.right h
looks_at θ d E V T n next p (rigid e ts) (flexible y m us) r ty f g i j k h = rule_5_at θ d E V T n next p (rigid e ts) (flexible y m us) r ty k tt tt h
looks_at θ d E V T n next p (flexible x l ts) (rigid e us) r ty f g i j k h = rule_5_at θ d E V T n next p (flexible x l ts) (rigid e us) r ty k tt tt h
looks_at θ d E V T n next p (flexible x l ts) (flexible y m us) r ty f g i j k h =
    elim (nat_eq x y && nat_eq l m && nat_eq (length ts) (length us)) as (λ b. (nat_eq x y && nat_eq l m && nat_eq (length ts) (length us)) ≡ b → (elim b [
      | true ↦ option_and_then (λ c. elim c.same [
        | true ↦ Some (ruled c.units (gives [] []))
        | false ↦ option_map (dear c.units) (by_rule_4 n next p x l ts us)
      ]) (compare_all n p.level ts us)
      | false ↦ by_rule_5 n next p (flexible x l ts) (flexible y m us)
    ]) ≡ Some r → IsRightAt θ d V next p r.verdict) [
      | true ↦ λ e q.
          let b = both (nat_eq x y && nat_eq l m) (nat_eq (length ts) (length us)) e in
          let b' = both (nat_eq x y) (nat_eq l m) b.0 in
          same_variable (same_number x y b'.0) (same_number l m b'.1) (same_number (length ts) (length us) b.1) q
      | false ↦ λ e q. rule_5_at θ d E V T n next p (flexible x l ts) (flexible y m us) r ty k tt tt q
    ] refl h
  where
    left_up : Within (UpTo p.level) 0 (instance_term θ (apply (atom (logic x l)) ts))
    left_up = transport (Within (UpTo p.level) 0) (sym (instance_apply θ ts (atom (logic x l)))) (within_reduces (UpTo p.level) 0 k.left (within_pairs next p.level (instance_term θ p.left) k.pair.0))

    right_up : Within (UpTo p.level) 0 (instance_term θ (apply (atom (logic y m)) us))
    right_up = transport (Within (UpTo p.level) 0) (sym (instance_apply θ us (atom (logic y m)))) (within_reduces (UpTo p.level) 0 k.right (within_pairs next p.level (instance_term θ p.right) k.pair.1))

    compared : x ≡ y → l ≡ m → length ts ≡ length us → (c : Compared) → compare_all n p.level ts us ≡ Some c → c.same ≡ true → Converts p.left p.right
    compared e₁ e₂ e c hc s =
        let a = within_apply (UpTo p.level) ts (atom (logic x l)) (within_back p.level 0 θ (apply (atom (logic x l)) ts) left_up) in
        let b = within_apply (UpTo p.level) us (atom (logic y m)) (within_back p.level 0 θ (apply (atom (logic y m)) us) right_up) in
        let all = compare_all_is n p.level ts us c hc s e a.1 b.1 in
        converts_on (converts_reduces f) (converts_on (converts_spine all (converts_is (λ i. atom (logic (e₁ i) (e₂ i))))) (converts_sym (converts_reduces g)))

    same_variable : x ≡ y → l ≡ m → length ts ≡ length us → option_and_then (λ c. elim c.same [
      | true ↦ Some (ruled c.units (gives [] []))
      | false ↦ option_map (dear c.units) (by_rule_4 n next p x l ts us)
    ]) (compare_all n p.level ts us) ≡ Some r → IsRightAt θ d V next p r.verdict
    same_variable e₁ e₂ e q = option_and_then_some _ (compare_all n p.level ts us) r q λ c hc hq.
        elim c.same as (λ b. c.same ≡ b → (elim b [
          | true ↦ Some (ruled c.units (gives [] []))
          | false ↦ option_map (dear c.units) (by_rule_4 n next p x l ts us)
        ]) ≡ Some r → IsRightAt θ d V next p r.verdict) [
          | true ↦ λ s o. let z : ruled c.units (gives [] []) ≡ r = cc in transport (λ j. IsRightAt θ d V next p j.verdict) z (same_at θ d V p (compared e₁ e₂ e c hc s))
          | false ↦ λ s o.
              let z = map_ruled (dear c.units) (by_rule_4 n next p x l ts us) r o in
              let k' : Looked next (instance_pair θ p) (instance_look θ (flexible x l ts)) (instance_look θ (flexible x l us)) = transport (λ v. Looked next (instance_pair θ p) (instance_look θ (flexible x l ts)) v) (λ i. flexible (sym e₁ i) (sym e₂ i) (instance_all θ us)) k in
              transport (λ j. IsRightAt θ d V next p j.verdict) z.2 (rule_4_at θ d E V T n next p x l ts us z.0 ty k' e z.1)
        ] refl hq

-- what is typed is a pair
typed_pair : (d : Declared) (E : List Ty) (V : List Variable) (next : ℕ) (q : Pair) (T : Ty) → IsTypedAt d E V next q T → IsPair next q
typed_pair d E V next q T ty = (one_side q.left ty.left, one_side q.right ty.right)
  where
    one_side : (t : Term) → IsTypedTerm d E V t T → Within (IsPairAtom next q.level) 0 t
    one_side t h = transport (λ z. Within (IsPairAtom next z) 0 t) ty.level (transport (λ z. Within (IsPairAtom z (length E)) 0 t) ty.count (term_pair d E V t T h))

pub rule_at : (θ : ℕ → Ty) (d : Declared) (E : List Ty) (V : List Variable) (T : Ty) (n next : ℕ) (p : Pair) (r : Ruled) → IsTypedAt d E V next (instance_pair θ p) T → rule n next p ≡ Some r → IsRightAt θ d V next p r.verdict
rule_at θ d E V T n next p r ty h = option_and_then_some _ (look n p.left) r h λ v hv h'. option_and_then_some _ (look n p.right) r h' λ w hw h''.
    let iv : look n (instance_term θ p.left) ≡ Some (instance_look θ v) = look_instance θ n p.left ∙ ap (option_map (instance_look θ)) hv in
    let iw : look n (instance_term θ p.right) ≡ Some (instance_look θ w) = look_instance θ n p.right ∙ ap (option_map (instance_look θ)) hw in
    looks_at θ d E V T n next p v w r ty (look_reduces n p.left v hv) (look_reduces n p.right w hw) (look_firm n p.left v hv) (look_firm n p.right w hw) (record {
      pair = typed_pair d E V next (instance_pair θ p) T ty;
      left = look_reduces n (instance_term θ p.left) (instance_look θ v) iv;
      right = look_reduces n (instance_term θ p.right) (instance_look θ w) iw;
      left_firm = look_firm n (instance_term θ p.left) (instance_look θ v) iv;
      right_firm = look_firm n (instance_term θ p.right) (instance_look θ w) iw;
    }) h''
