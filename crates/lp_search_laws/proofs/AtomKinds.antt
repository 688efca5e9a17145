-- Which typed atoms there are: by the declared types of the standard constants.
use Rattle.std.proofs.Common.{◌≡◌, ℕ, zero, suc, ◌≤◌, List, [], ◌∷◌, length, Option, Some, None, ◌∙◌, refl, sym, ap, subst as transport, arith, inl, inr, Bool, true, false, nat_eq, if◌then◌else◌}
use Rattle.std.specs.Prelude.{◌+◌}
use Rattle.std.proofs.lemmas.Bool.{eqb-true, cases_lt}
use Rattle.lp_calculus.specs.Types.{Ty, var, arrow, instance}
use Rattle.lp_calculus.specs.Term.{Term, Atom}
use Rattle.lp_calculus.specs.Typing.{HaveTypes, Scheme, scheme_type, type_at, o_type, int_type, string_type, list_type}
use Rattle.lp_standard.specs.Schemes.{IsStandard, entry, standard_schemes}
use Rattle.lp_standard.specs.Connectives.{connective_of_constant}
use Rattle.lp_standard.specs.Connectives as connective
use Rattle.lp_model.specs.Proofs.{Declared}

-- a constant c at types ts on arguments us, of type `o` and without a connective
pub data AtomKind (c : ℕ) (ts : List Ty) (us : List Term) : Type 0 where
  declared : 32 ≤ c → AtomKind c ts us
  equality : (T : Ty) → (l r : Term) → c ≡ 8 → ts ≡ T ∷ [] → us ≡ l ∷ r ∷ [] → AtomKind c ts us
  assignment : (T : Ty) → (l r : Term) → c ≡ 9 → ts ≡ T ∷ [] → us ≡ l ∷ r ∷ [] → AtomKind c ts us
  order : (l r : Term) → 10 ≤ c → c ≤ 13 → ts ≡ [] → us ≡ l ∷ r ∷ [] → AtomKind c ts us

if_is : (b : Bool) (B A : Ty) → (if b then Some B else None) ≡ Some A → (b ≡ true) × (A ≡ B)
if_is true B A e = let h : A ≡ B = cc in (refl, h)
if_is false B A e = absurd (cc)

count_is : (ts : List Ty) (k : ℕ) (B A : Ty) → (if nat_eq (length ts) k then Some B else None) ≡ Some A → (length ts ≡ k) × (A ≡ B)
count_is ts k B A e = let r = if_is (nat_eq (length ts) k) B A e in (eqb-true (length ts) k r.0, r.1)

none_is : (ts : List Ty) → length ts ≡ 0 → ts ≡ []
none_is [] e = refl
none_is (t ∷ ts) e = absurd (omega arith)

one_is : (ts : List Ty) → length ts ≡ 1 → (T : Ty) × (ts ≡ T ∷ [])
one_is [] e = absurd (omega arith)
one_is (t ∷ []) e = (t, refl)
one_is (t ∷ u ∷ ts) e = absurd (omega arith)

abbrev IsNoArrow : Ty → Type 0
IsNoArrow Z = (B D : Ty) → Z ≡ arrow B D → ⊥

module _ (τ : Atom → Option Ty) where
  takes_none : (Z A : Ty) → IsNoArrow Z → A ≡ Z → (us : List Term) → HaveTypes τ [] A us o_type → (us ≡ []) × (Z ≡ o_type)
  takes_none Z A n e [] h = (refl, sym e ∙ h)
  takes_none Z A n e (u ∷ us) h = absurd (n h.0 h.1 (sym e ∙ h.2))

  takes_one : (X Z A : Ty) → IsNoArrow Z → A ≡ arrow X Z → (us : List Term) → HaveTypes τ [] A us o_type → (l : Term) × (us ≡ l ∷ []) × (Z ≡ o_type)
  takes_one X Z A n e [] h = let g : arrow X Z ≡ o_type = sym e ∙ h in absurd (cc)
  takes_one X Z A n e (u ∷ us) h =
      let g : arrow X Z ≡ arrow h.0 h.1 = sym e ∙ h.2 in
      let z : h.1 ≡ Z = cc in
      let r = takes_none Z h.1 n z us h.4 in
      (u, ap (λ v. u ∷ v) r.0, r.1)

  takes_two : (X Y Z A : Ty) → IsNoArrow Z → A ≡ arrow X (arrow Y Z) → (us : List Term) → HaveTypes τ [] A us o_type → (l : Term) × (r : Term) × (us ≡ l ∷ r ∷ []) × (Z ≡ o_type)
  takes_two X Y Z A n e [] h = let g : arrow X (arrow Y Z) ≡ o_type = sym e ∙ h in absurd (cc)
  takes_two X Y Z A n e (u ∷ us) h =
      let g : arrow X (arrow Y Z) ≡ arrow h.0 h.1 = sym e ∙ h.2 in
      let z : h.1 ≡ arrow Y Z = cc in
      let r = takes_one Y Z h.1 n z us h.4 in
      (u, r.0, ap (λ v. u ∷ v) r.1, r.2)

  abbrev Kind : ℕ → Option Scheme → Type 0
  Kind c o = (ts : List Ty) (us : List Term) (A : Ty) → scheme_type ts o ≡ Some A → HaveTypes τ [] A us o_type → connective_of_constant c ts us ≡ connective.Atomic → AtomKind c ts us

  junctor : (c : ℕ) → ((a b : Term) → connective_of_constant c [] (a ∷ b ∷ []) ≡ connective.Atomic → ⊥) → Kind c (Some (record { count = 0; body = arrow o_type (arrow o_type o_type) }))
  junctor c n ts us A e h p =
      let r = count_is ts 0 _ A e in
      let g = takes_two o_type o_type o_type A (λ B D x. absurd (cc)) r.1 us h in
      let q = transport (λ z. connective_of_constant c z us ≡ connective.Atomic) (none_is ts r.0) p in
      absurd (n g.0 g.1 (transport (λ z. connective_of_constant c [] z ≡ connective.Atomic) g.2 q))

  denial : (c : ℕ) → ((a : Term) → connective_of_constant c [] (a ∷ []) ≡ connective.Atomic → ⊥) → Kind c (Some (record { count = 0; body = arrow o_type o_type }))
  denial c n ts us A e h p =
      let r = count_is ts 0 _ A e in
      let g = takes_one o_type o_type A (λ B D x. absurd (cc)) r.1 us h in
      let q = transport (λ z. connective_of_constant c z us ≡ connective.Atomic) (none_is ts r.0) p in
      absurd (n g.0 (transport (λ z. connective_of_constant c [] z ≡ connective.Atomic) g.1 q))

  quantifier : (c : ℕ) → ((T : Ty) (a : Term) → connective_of_constant c (T ∷ []) (a ∷ []) ≡ connective.Atomic → ⊥) → Kind c (Some (record { count = 1; body = arrow (arrow (var 0) o_type) o_type }))
  quantifier c n ts us A e h p =
      let r = count_is ts 1 _ A e in
      let g = takes_one (arrow (type_at ts 0) o_type) o_type A (λ B D x. absurd (cc)) r.1 us h in
      let o = one_is ts r.0 in
      let q = transport (λ z. connective_of_constant c z us ≡ connective.Atomic) o.1 p in
      absurd (n o.0 g.0 (transport (λ z. connective_of_constant c (o.0 ∷ []) z ≡ connective.Atomic) g.1 q))

  nullary : (c : ℕ) → (connective_of_constant c [] [] ≡ connective.Atomic → ⊥) → Kind c (Some (record { count = 0; body = o_type }))
  nullary c n ts us A e h p =
      let r = count_is ts 0 _ A e in
      let g = takes_none o_type A (λ B D x. absurd (cc)) r.1 us h in
      absurd (n (transport (λ z. connective_of_constant c [] z ≡ connective.Atomic) g.0 (transport (λ z. connective_of_constant c z us ≡ connective.Atomic) (none_is ts r.0) p)))

  two_values : (c : ℕ) → ((T : Ty) (l r : Term) (ts : List Ty) (us : List Term) → ts ≡ T ∷ [] → us ≡ l ∷ r ∷ [] → AtomKind c ts us) → Kind c (Some (record { count = 1; body = arrow (var 0) (arrow (var 0) o_type) }))
  two_values c n ts us A e h p =
      let r = count_is ts 1 _ A e in
      let g = takes_two (type_at ts 0) (type_at ts 0) o_type A (λ B D x. absurd (cc)) r.1 us h in
      let o = one_is ts r.0 in
      n o.0 g.0 g.1 ts us o.1 g.2

  two_numbers : (c : ℕ) → 10 ≤ c → c ≤ 13 → Kind c (Some (record { count = 0; body = arrow int_type (arrow int_type o_type) }))
  two_numbers c x y ts us A e h p =
      let r = count_is ts 0 _ A e in
      let g = takes_two int_type int_type o_type A (λ B D z. absurd (cc)) r.1 us h in
      order g.0 g.1 x y (none_is ts r.0) g.2

  -- no atom: what its type ends in is another kind
  ends_none : (c k : ℕ) (Z : Ty) → ((θ : ℕ → Ty) → IsNoArrow (instance θ Z)) → ((θ : ℕ → Ty) → instance θ Z ≡ o_type → ⊥) → Kind c (Some (record { count = k; body = Z }))
  ends_none c k Z n m ts us A e h p = let r = count_is ts k _ A e in absurd (m (type_at ts) (takes_none (instance (type_at ts) Z) A (n (type_at ts)) r.1 us h).1)

  ends_one : (c k : ℕ) (X Z : Ty) → ((θ : ℕ → Ty) → IsNoArrow (instance θ Z)) → ((θ : ℕ → Ty) → instance θ Z ≡ o_type → ⊥) → Kind c (Some (record { count = k; body = arrow X Z }))
  ends_one c k X Z n m ts us A e h p = let r = count_is ts k _ A e in absurd (m (type_at ts) (takes_one (instance (type_at ts) X) (instance (type_at ts) Z) A (n (type_at ts)) r.1 us h).2)

  ends_two : (c k : ℕ) (X Y Z : Ty) → ((θ : ℕ → Ty) → IsNoArrow (instance θ Z)) → ((θ : ℕ → Ty) → instance θ Z ≡ o_type → ⊥) → Kind c (Some (record { count = k; body = arrow X (arrow Y Z) }))
  ends_two c k X Y Z n m ts us A e h p = let r = count_is ts k _ A e in absurd (m (type_at ts) (takes_two (instance (type_at ts) X) (instance (type_at ts) Y) (instance (type_at ts) Z) A (n (type_at ts)) r.1 us h).3)

  abbrev AllFrom : ℕ → List (Option Scheme) → Type 0
  AllFrom k [] = Unit {0}
  AllFrom k (s ∷ ss) = Kind k s × AllFrom (suc k) ss

  at_entry : (ss : List (Option Scheme)) (k j : ℕ) → AllFrom k ss → Kind (k + j) (entry ss j)
  at_entry [] k j h = λ ts us A e t p. absurd (cc)
  at_entry (s ∷ ss) k zero h = let e : k + 0 ≡ k = omega arith in transport (λ z. Kind z s) (sym e) h.0
  at_entry (s ∷ ss) k (suc j) h = let e : k + suc j ≡ suc k + j = omega arith in transport (λ z. Kind z (entry ss j)) (sym e) (at_entry ss (suc k) j h.1)

  all_kinds : AllFrom 0 standard_schemes
  all_kinds = (
    junctor 0 (λ a b x. absurd (cc)),
    (
      junctor 1 (λ a b x. absurd (cc)),
      (
        junctor 2 (λ a b x. absurd (cc)),
        (
          junctor 3 (λ a b x. absurd (cc)),
          (
            quantifier 4 (λ T a x. absurd (cc)),
            (
              quantifier 5 (λ T a x. absurd (cc)),
              (
                nullary 6 (λ x. absurd (cc)),
                (
                  nullary 7 (λ x. absurd (cc)),
                  (
                    two_values 8 (λ T l r ts us x y. equality T l r refl x y),
                    (
                      two_values 9 (λ T l r ts us x y. assignment T l r refl x y),
                      (
                        two_numbers 10 (omega arith) (omega arith),
                        (
                          two_numbers 11 (omega arith) (omega arith),
                          (
                            two_numbers 12 (omega arith) (omega arith),
                            (
                              two_numbers 13 (omega arith) (omega arith),
                              (
                                ends_two 14 1 (var 0) (list_type (var 0)) (list_type (var 0)) (λ θ B D x. absurd (cc)) (λ θ x. absurd (cc)),
                                (
                                  ends_none 15 1 (list_type (var 0)) (λ θ B D x. absurd (cc)) (λ θ x. absurd (cc)),
                                  (
                                    ends_two 16 0 int_type int_type int_type (λ θ B D x. absurd (cc)) (λ θ x. absurd (cc)),
                                    (
                                      ends_two 17 0 int_type int_type int_type (λ θ B D x. absurd (cc)) (λ θ x. absurd (cc)),
                                      (
                                        ends_two 18 0 int_type int_type int_type (λ θ B D x. absurd (cc)) (λ θ x. absurd (cc)),
                                        (
                                          ends_two 19 0 int_type int_type int_type (λ θ B D x. absurd (cc)) (λ θ x. absurd (cc)),
                                          (
                                            ends_two 20 0 int_type int_type int_type (λ θ B D x. absurd (cc)) (λ θ x. absurd (cc)),
                                            (
                                              ends_one 21 0 int_type int_type (λ θ B D x. absurd (cc)) (λ θ x. absurd (cc)),
                                              (
                                                ends_two 22 0 string_type string_type string_type (λ θ B D x. absurd (cc)) (λ θ x. absurd (cc)),
                                                (
                                                  ends_one 23 0 string_type int_type (λ θ B D x. absurd (cc)) (λ θ x. absurd (cc)),
                                                  (
                                                    denial 24 (λ a x. absurd (cc)),
                                                    tt,
                                                  ),
                                                ),
                                              ),
                                            ),
                                          ),
                                        ),
                                      ),
                                    ),
                                  ),
                                ),
                              ),
                            ),
                          ),
                        ),
                      ),
                    ),
                  ),
                ),
              ),
            ),
          ),
        ),
      ),
    ),
  )

  pub atom_kind : (d : Declared) → IsStandard d → (c : ℕ) → Kind c (d c)
  atom_kind d std c ts us A e h p = elim (cases_lt c 32) [
    | inl l ↦ (let k = at_entry standard_schemes 0 c all_kinds in let z : 0 + c ≡ c = omega arith in transport (λ m. Kind m (entry standard_schemes c)) z k ts us A (ap (scheme_type ts) (sym (std.at c l)) ∙ e) h p)
    | inr l ↦ declared l
  ]
