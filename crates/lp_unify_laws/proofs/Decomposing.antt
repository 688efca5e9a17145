-- Rule 3: heads that may be one are one exactly where the types solve the equations of their type arguments.
use Rattle.std.proofs.Common.{◌≡◌, ℕ, suc, List, [], ◌∷◌, map, length, ◌∙◌, refl, sym, ap, subst as transport, arith, true, nat_eq, Some}
use Rattle.std.proofs.lemmas.Bool.Decides.{nat_tests, Decides-int_eq}
use Rattle.lp_calculus.specs.Types.{Ty, arrow, instance}
use Rattle.lp_calculus.specs.Term.{Term, index, atom, abs, app, apply, Atom, constant, integer, text, eigen, logic, param}
use Rattle.lp_calculus.specs.Instance.{instance_atom, instance_term}
use Rattle.lp_calculus.specs.Typing.{HasType, HaveTypes}
use Rattle.lp_calculus.proofs.Rigid.{IsRigid}
use Rattle.lp_calculus.proofs.Typings.{typed_parts}
use Rattle.lp_model.specs.Same.{same_numbers, same_atom, same_name}
use Rattle.lp_model.specs.Types.{TypeBinding, one_type, zipped}
use Rattle.lp_model.specs.Pair.{put_type_in, put_types_in}
use Rattle.lp_model.specs.Rule.{type_pairs, argument_pairs}
use Rattle.lp_model.specs.Proofs.{Declared}
use Rattle.lp_model.specs.Answers.{Variable, PairTyping, AreTypedPairs, IsScopedAtom}
use Rattle.lp_unify_laws.specs.TypeSolutions.{Unifies, Satisfies}
use Rattle.lp_unify_laws.proofs.Sames.{both, both_on, same_number, same_numbers_is, numbers_same}
use Rattle.lp_unify_laws.proofs.Closings.{WithinAll}
use Rattle.lp_unify_laws.proofs.TypeSolving.{put_satisfied}
use Rattle.lp_unify_laws.proofs.Instances.{instance_all}
use Rattle.lp_unify_laws.proofs.RuleInstances.{instance_pair}
use Rattle.lp_unify_laws.proofs.Scopes.{in_scope}

-- types in terms
types_satisfied : (θ : ℕ → Ty) (b : TypeBinding) → θ b.id ≡ instance θ b.value → (ts : List Ty) → map (instance θ) (map (instance (one_type b)) ts) ≡ map (instance θ) ts
types_satisfied θ b h [] = refl
types_satisfied θ b h (t ∷ ts) = λ i. put_satisfied θ b h t i ∷ types_satisfied θ b h ts i

atom_satisfied : (θ : ℕ → Ty) (b : TypeBinding) → θ b.id ≡ instance θ b.value → (a : Atom) → instance_atom θ (instance_atom (one_type b) a) ≡ instance_atom θ a
atom_satisfied θ b h (constant c ts) = ap (constant c) (types_satisfied θ b h ts)
atom_satisfied θ b h (integer z) = refl
atom_satisfied θ b h (text s) = refl
atom_satisfied θ b h (eigen k) = refl
atom_satisfied θ b h (logic x l) = refl
atom_satisfied θ b h (param k T) = ap (param k) (put_satisfied θ b h T)

pub term_satisfied : (θ : ℕ → Ty) (b : TypeBinding) → θ b.id ≡ instance θ b.value → (t : Term) → instance_term θ (put_type_in b t) ≡ instance_term θ t
term_satisfied θ b h (index i) = refl
term_satisfied θ b h (atom a) = ap atom (atom_satisfied θ b h a)
term_satisfied θ b h (abs c) = ap abs (term_satisfied θ b h c)
term_satisfied θ b h (app t u) = λ i. app (term_satisfied θ b h t i) (term_satisfied θ b h u i)

pub put_types_satisfied : (θ : ℕ → Ty) (bs : List TypeBinding) → Satisfies θ bs → (t : Term) → instance_term θ (put_types_in bs t) ≡ instance_term θ t
put_types_satisfied θ [] h t = refl
put_types_satisfied θ (b ∷ bs) h t = put_types_satisfied θ bs h.1 (put_type_in b t) ∙ term_satisfied θ b h.0 t

-- the pairs of arguments, with the types in them
pub arguments_instance : (θ : ℕ → Ty) (bs : List TypeBinding) → Satisfies θ bs → (n : ℕ) (ts us : List Term) → map (instance_pair θ) (argument_pairs n (map (put_types_in bs) ts) (map (put_types_in bs) us)) ≡ argument_pairs n (instance_all θ ts) (instance_all θ us)
arguments_instance θ bs h n [] us = refl
arguments_instance θ bs h n (t ∷ ts) [] = refl
arguments_instance θ bs h n (t ∷ ts) (u ∷ us) = λ i. record { left = put_types_satisfied θ bs h t i; right = put_types_satisfied θ bs h u i; level = n } ∷ arguments_instance θ bs h n ts us i

-- heads
zipped_unify : (θ : ℕ → Ty) (ts us : List Ty) → map (instance θ) ts ≡ map (instance θ) us → Unifies θ (zipped ts us)
zipped_unify θ [] us e = tt
zipped_unify θ (t ∷ ts) [] e = tt
zipped_unify θ (t ∷ ts) (u ∷ us) e = let i : instance θ t ≡ instance θ u = cc in let j : map (instance θ) ts ≡ map (instance θ) us = cc in (i, zipped_unify θ ts us j)

unify_zipped : (θ : ℕ → Ty) (ts us : List Ty) → length ts ≡ length us → Unifies θ (zipped ts us) → map (instance θ) ts ≡ map (instance θ) us
unify_zipped θ [] [] l h = refl
unify_zipped θ [] (u ∷ us) l h = absurd (omega arith)
unify_zipped θ (t ∷ ts) [] l h = absurd (omega arith)
unify_zipped θ (t ∷ ts) (u ∷ us) l h = let k : length ts ≡ length us = omega arith in let r = unify_zipped θ ts us k h.1 in λ i. h.0 i ∷ r i

length_types : (θ : ℕ → Ty) (ts : List Ty) → length (map (instance θ) ts) ≡ length ts
length_types θ [] = refl
length_types θ (t ∷ ts) = ap suc (length_types θ ts)

atoms_unify : (θ : ℕ → Ty) (a b : Atom) → instance_atom θ a ≡ instance_atom θ b → (same_atom a b ≡ true) × Unifies θ (type_pairs (atom a) (atom b))
atoms_unify θ (constant c ts) (constant k us) e =
    let i : c ≡ k = cc in
    let j : map (instance θ) ts ≡ map (instance θ) us = cc in
    let l : length ts ≡ length us = sym (length_types θ ts) ∙ ap length j ∙ length_types θ us in
    let p : nat_eq c k ≡ true = grind (arith, nat_tests) in
    let q : nat_eq (length ts) (length us) ≡ true = grind (arith, nat_tests) in
    (both_on (nat_eq c k) (nat_eq (length ts) (length us)) p q, zipped_unify θ ts us j)
atoms_unify θ (integer i) (integer j) e = let z : i ≡ j = cc in ((Decides-int_eq i j).1 z, tt)
atoms_unify θ (text s) (text r) e = let z : s ≡ r = cc in (transport (λ x. same_numbers s x ≡ true) z (numbers_same s), tt)
atoms_unify θ (eigen i) (eigen j) e = let z : i ≡ j = cc in let p : nat_eq i j ≡ true = grind (arith, nat_tests) in (p, tt)
atoms_unify θ (logic x l) (logic y m) e =
    let i : x ≡ y = cc in
    let j : l ≡ m = cc in
    let p : nat_eq x y ≡ true = grind (arith, nat_tests) in
    let q : nat_eq l m ≡ true = grind (arith, nat_tests) in
    (both_on (nat_eq x y) (nat_eq l m) p q, tt)
atoms_unify θ (param i t) (param j u) e =
    let z : i ≡ j = cc in
    let k : instance θ t ≡ instance θ u = cc in
    let p : nat_eq i j ≡ true = grind (arith, nat_tests) in (p, (k, tt))
atoms_unify θ _ _ e = absurd (cc)

pub heads_unify : (θ : ℕ → Ty) (h g : Term) → IsRigid h → instance_term θ h ≡ instance_term θ g → (same_name h g ≡ true) × Unifies θ (type_pairs h g)
heads_unify θ (index i) (index j) r e = let z : i ≡ j = cc in let p : nat_eq i j ≡ true = grind (arith, nat_tests) in (p, tt)
heads_unify θ (atom a) (atom b) r e = let z : instance_atom θ a ≡ instance_atom θ b = cc in atoms_unify θ a b z
heads_unify θ (abs b) g r e = absurd r
heads_unify θ (app t u) g r e = absurd r
heads_unify θ _ _ r e = absurd (cc)

atoms_same : (θ : ℕ → Ty) (a b : Atom) → same_atom a b ≡ true → Unifies θ (type_pairs (atom a) (atom b)) → instance_atom θ a ≡ instance_atom θ b
atoms_same θ (constant c ts) (constant k us) h u =
    let r = both (nat_eq c k) (nat_eq (length ts) (length us)) h in
    let i = same_number c k r.0 in
    let j = unify_zipped θ ts us (same_number (length ts) (length us) r.1) u in
    λ z. constant (i z) (j z)
atoms_same θ (integer i) (integer j) h u = ap integer ((Decides-int_eq i j).0 h)
atoms_same θ (text s) (text r) h u = ap text (same_numbers_is s r h)
atoms_same θ (eigen i) (eigen j) h u = ap eigen (same_number i j h)
atoms_same θ (logic x l) (logic y m) h u =
    let r = both (nat_eq x y) (nat_eq l m) h in
    let p = same_number x y r.0 in
    let q = same_number l m r.1 in
    λ i. logic (p i) (q i)
atoms_same θ (param i t) (param j w) h u = let p = same_number i j h in λ z. param (p z) (u.0 z)
atoms_same θ _ _ h u = absurd (cc)

pub unify_heads : (θ : ℕ → Ty) (h g : Term) → same_name h g ≡ true → Unifies θ (type_pairs h g) → instance_term θ h ≡ instance_term θ g
unify_heads θ (index i) (index j) e u = ap index (same_number i j e)
unify_heads θ (atom a) (atom b) e u = ap atom (atoms_same θ a b e u)
unify_heads θ _ _ e u = absurd (cc)

pub instance_rigid : (θ : ℕ → Ty) (h : Term) → IsRigid h → IsRigid (instance_term θ h)
instance_rigid θ (index i) r = tt
instance_rigid θ (atom (logic x l)) r = absurd r
instance_rigid θ (atom (constant c us)) r = tt
instance_rigid θ (atom (integer z)) r = tt
instance_rigid θ (atom (text s)) r = tt
instance_rigid θ (atom (eigen k)) r = tt
instance_rigid θ (atom (param k u)) r = tt
instance_rigid θ (abs b) r = absurd r
instance_rigid θ (app t u) r = absurd r

-- the arguments of one head have the same types
pub arguments_typed : (d : Declared) (E : List Ty) (V : List Variable) (n : ℕ) → length E ≡ n → (A T S : Ty) (ts us : List Term) → HaveTypes
    (in_scope d E V) [] A ts T → HaveTypes (in_scope d E V) [] A us S → WithinAll (IsScopedAtom V E) ts → WithinAll (IsScopedAtom V E) us →
    (qs : List PairTyping) × AreTypedPairs d V qs (argument_pairs n ts us)
arguments_typed d E V n e A T S [] us h k w v = ([], tt)
arguments_typed d E V n e A T S (t ∷ ts) [] h k w v = ([], tt)
arguments_typed d E V n e A T S (t ∷ ts) (u ∷ us) h k w v =
    let i : arrow h.0 h.1 ≡ arrow k.0 k.1 = sym h.2 ∙ k.2 in
    let p : k.0 ≡ h.0 = cc in
    let q : k.1 ≡ h.1 = cc in
    let r = arguments_typed d E V n e h.1 T S ts us h.4 (transport (λ z. HaveTypes (in_scope d E V) [] z us S) q k.4) w.1 v.1 in
    (record { eigens = E; type = h.0 } ∷ r.0, (record { level = e; left = h.3; right = transport (HasType (in_scope d E V) [] u) p k.3; left_scoped = w.0; right_scoped = v.0 }, r.1))

pub heads_typed : (d : Declared) (E : List Ty) (V : List Variable) (n : ℕ) → length E ≡ n → (h g : Term) (T S : Ty) (ts us : List Term) → IsRigid h →
    h ≡ g → HasType (in_scope d E V) [] (apply h ts) T → HasType (in_scope d E V) [] (apply g us) S → WithinAll (IsScopedAtom V E) ts → WithinAll
    (IsScopedAtom V E) us → (qs : List PairTyping) × AreTypedPairs d V qs (argument_pairs n ts us)
heads_typed d E V n e h g T S ts us r i a b w v =
    let x = typed_parts (in_scope d E V) [] h ts T a in
    let y = typed_parts (in_scope d E V) [] g us S b in
    let z = one_type_of h x.0 y.0 r x.1 (transport (λ c. HasType (in_scope d E V) [] c y.0) (sym i) y.1) in
    arguments_typed d E V n e x.0 T S ts us x.2 (transport (λ A. HaveTypes (in_scope d E V) [] A us S) z y.2) w v
  where
    one_type_of : (c : Term) (A B : Ty) → IsRigid c → HasType (in_scope d E V) [] c A → HasType (in_scope d E V) [] c B → B ≡ A
    one_type_of (index i) A B r p q = absurd (cc)
    one_type_of (atom a) A B r p q = let z : Some B ≡ Some A = sym q ∙ p in cc
    one_type_of (abs b) A B r p q = absurd r
    one_type_of (app t u) A B r p q = absurd r
