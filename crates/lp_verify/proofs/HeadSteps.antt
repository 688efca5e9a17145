-- Which variables stand in what an instruction of a head makes, and in what it takes.
use Rattle.std.proofs.Common.{◌≡◌, ◌∙◌, ℕ, List, [], ◌∷◌, ◌++◌, map, Bool, true, false, ap, refl, sym, subst, inl, inr}
use Rattle.std.specs.Prelude.{◌⊎◌, nat_eq, not, ◌||◌, ◌&&◌}
use Rattle.std.specs.List.{list_any}
use Rattle.std.proofs.lemmas.Bool.{eqb-true}
use Rattle.lp_lemmas.proofs.Booleans.{and_true_left}
use Rattle.lp_lemmas.proofs.Numbers.{nat_eq_self}
use Rattle.lp_calculus.specs.Term.{Term, atom, app, apply, logic}
use Rattle.lp_code.specs.declared.instruction.Instr.{Instr}
use Rattle.lp_code.specs.declared.instruction.Instr.TheVariants as on
use Rattle.lp_code.specs.Operands.{terms_read, term_set, own_set}
use Rattle.lp_code.specs.Symbolic.{Built, variable, term_in, terms_in, plain_terms}
use Rattle.lp_code.specs.States.{State, Home, member}
use Rattle.lp_code.specs.Rules.{breaks_order, stands_in}
use Rattle.lp_verify.specs.inner.Made.{term_made}
use Rattle.lp_verify.specs.inner.Taken.{parts, takes, argument_made, stands_in_some}

no_goal : (b : Bool) → b ≡ false → not b ≡ false → ⊥
no_goal true e f = let z : true ≡ false = e in cc
no_goal false e f = let z : true ≡ false = f in cc

-- which variables stand in a term that an instruction makes, and in an argument that it takes
pub record Spreads (h : Home) (s : State) (i : Instr) : Type 0 where
  pub made_from : (v : ℕ) → stands_in v h.number (term_made h s i).term ≡ true
      → (member v (own_set i) ≡ true) ⊎ ((x : ℕ) × (member x (parts i) ≡ true) × (stands_in v h.number (term_in s.now x).term ≡ true))
  pub made_with : (v x : ℕ) → member x (parts i) ≡ true → stands_in v h.number (term_in s.now x).term ≡ true → stands_in v h.number (term_made h s i).term ≡ true
  pub argument_from : (v : ℕ) → stands_in_some v h.number (argument_made h s i) ≡ true
      → ((x : ℕ) × (member x (takes i) ≡ true) × (member x (term_set i) ≡ false) × (stands_in v h.number (term_in s.now x).term ≡ true)) ⊎ ((member v (own_set i) ≡ true) × (member v (takes i) ≡ true))
  pub argument_with : (v x : ℕ) → member x (takes i) ≡ true → member x (term_set i) ≡ false → stands_in v h.number (term_in s.now x).term ≡ true
      → stands_in_some v h.number (argument_made h s i) ≡ true
  pub argument_own : (v : ℕ) → member v (term_set i) ≡ true → member v (takes i) ≡ true → stands_in_some v h.number (argument_made h s i) ≡ true
  pub own_made : (v : ℕ) → member v (own_set i) ≡ true → (member v (term_set i) ≡ true) × ((term_made h s i).term ≡ variable v h.number)
  pub parts_read : (x : ℕ) → member x (parts i) ≡ true → member x (terms_read i) ≡ true
  pub takes_read : (x : ℕ) → member x (takes i) ≡ true → member x (term_set i) ≡ false → member x (terms_read i) ≡ true

nothing_there : {P : Type 0} (v : ℕ) (xs : List ℕ) → xs ≡ [] → member v xs ≡ true → P
nothing_there v xs e m = absurd (let z : false ≡ true = sym (ap (member v) e) ∙ m in cc)

-- an instruction that makes no variable and takes no register
silent : (h : Home) (s : State) (i : Instr) → parts i ≡ [] → takes i ≡ [] → own_set i ≡ [] → ((v : ℕ) → stands_in v h.number (term_made h s i).term ≡ false)
    → ((v : ℕ) → stands_in_some v h.number (argument_made h s i) ≡ false) → Spreads h s i
silent h s i p t o made argued = record {
  made_from = λ v e. absurd (let z : false ≡ true = sym (made v) ∙ e in cc);
  made_with = λ v x m e. nothing_there x (parts i) p m;
  argument_from = λ v e. absurd (let z : false ≡ true = sym (argued v) ∙ e in cc);
  argument_with = λ v x m k e. nothing_there x (takes i) t m;
  argument_own = λ v m k. nothing_there v (takes i) t k;
  own_made = λ v m. nothing_there v (own_set i) o m;
  parts_read = λ x m. nothing_there x (parts i) p m;
  takes_read = λ x m k. nothing_there x (takes i) t m;
}

-- one register
only : (v d : ℕ) → member v (d ∷ []) ≡ true → v ≡ d
only v d e = eqb-true v d (by (nat_eq v d) e)
  where
    by : (b : Bool) → (b || false) ≡ true → b ≡ true
    by true e = refl
    by false e = e

one_there : (d : ℕ) → member d (d ∷ []) ≡ true
one_there d = ap (λ b. b || false) (nat_eq_self d)

-- a variable stands in itself alone
stands_alone : (v d n : ℕ) → stands_in v n (variable d n) ≡ true → v ≡ d
stands_alone v d n e = sym (eqb-true d v (and_true_left (nat_eq d v) (nat_eq n n) e))

pub stands_itself : (v n : ℕ) → stands_in v n (variable v n) ≡ true
stands_itself v n = λ j. nat_eq_self v j && nat_eq_self n j

-- of two one holds, or the other
pub one_of : (a b : Bool) → (a || b) ≡ true → (a ≡ true) ⊎ (b ≡ true)
one_of true b e = inl refl
one_of false b e = inr e

pub or_right : (a b : Bool) → b ≡ true → (a || b) ≡ true
or_right true b e = refl
or_right false b e = e

pub or_left : (a b : Bool) → a ≡ true → (a || b) ≡ true
or_left true b e = refl
or_left false b e = absurd (let z : false ≡ true = e in cc)

-- a term on arguments
applied_from : (v n : ℕ) (t : Term) (us : List Term) → stands_in v n (apply t us) ≡ true → (stands_in v n t ≡ true) ⊎ (list_any (stands_in v n) us ≡ true)
applied_from v n t [] e = inl e
applied_from v n t (u ∷ us) e = elim (applied_from v n (app t u) us e) [
  | inl f ↦ elim (one_of (stands_in v n t) (stands_in v n u) f) [ inl g ↦ inl g | inr g ↦ inr (or_left (stands_in v n u) (list_any (stands_in v n) us) g) ]
  | inr f ↦ inr (or_right (stands_in v n u) (list_any (stands_in v n) us) f)
]

applied_head : (v n : ℕ) (t : Term) (us : List Term) → stands_in v n t ≡ true → stands_in v n (apply t us) ≡ true
applied_head v n t [] e = e
applied_head v n t (u ∷ us) e = applied_head v n (app t u) us (or_left (stands_in v n t) (stands_in v n u) e)

applied_with : (v n : ℕ) (t : Term) (us : List Term) → list_any (stands_in v n) us ≡ true → stands_in v n (apply t us) ≡ true
applied_with v n t [] e = absurd (let z : false ≡ true = e in cc)
applied_with v n t (u ∷ us) e = elim (one_of (stands_in v n u) (list_any (stands_in v n) us) e) [
  | inl f ↦ applied_head v n (app t u) us (or_right (stands_in v n t) (stands_in v n u) f)
  | inr f ↦ applied_with v n (app t u) us f
]

-- terms of registers
read_from : (s : State) (v n : ℕ) (rs : List ℕ) → list_any (stands_in v n) (plain_terms (terms_in s.now rs)) ≡ true → (x : ℕ) × (member x rs ≡ true) × (stands_in v n (term_in s.now x).term ≡ true)
read_from s v n [] e = absurd (let z : false ≡ true = e in cc)
read_from s v n (r ∷ rs) e = elim (one_of (stands_in v n (term_in s.now r).term) (list_any (stands_in v n) (plain_terms (terms_in s.now rs))) e) [
  | inl f ↦ (r, or_left (nat_eq r r) (member r rs) (nat_eq_self r), f)
  | inr f ↦ (let q = read_from s v n rs f in (q.0, or_right (nat_eq q.0 r) (member q.0 rs) q.1, q.2))
]

read_with : (s : State) (v n x : ℕ) (rs : List ℕ) → member x rs ≡ true → stands_in v n (term_in s.now x).term ≡ true → list_any (stands_in v n) (plain_terms (terms_in s.now rs)) ≡ true
read_with s v n x [] m e = absurd (let z : false ≡ true = m in cc)
read_with s v n x (r ∷ rs) m e = elim (one_of (nat_eq x r) (member x rs) m) [
  | inl f ↦ or_left (stands_in v n (term_in s.now r).term) (list_any (stands_in v n) (plain_terms (terms_in s.now rs))) (subst (λ y. stands_in v n (term_in s.now y).term ≡ true) (eqb-true x r f) e)
  | inr f ↦ or_right (stands_in v n (term_in s.now r).term) (list_any (stands_in v n) (plain_terms (terms_in s.now rs))) (read_with s v n x rs f e)
]

pub spreads : (h : Home) (s : State) (i : Instr) → s.in_body ≡ false → breaks_order s i ≡ false → Spreads h s i
spreads h s (on.TyCon d k ts) b o = silent h s (on.TyCon d k ts) refl refl refl (λ v. refl) (λ v. refl)
spreads h s (on.TyArr d x y) b o = silent h s (on.TyArr d x y) refl refl refl (λ v. refl) (λ v. refl)
spreads h s (on.TyNew d) b o = silent h s (on.TyNew d) refl refl refl (λ v. refl) (λ v. refl)
spreads h s (on.New d t) b o = record {
  made_from = λ v e. inl (subst (λ v. member v (d ∷ []) ≡ true) (sym (stands_alone v d h.number e)) (one_there d));
  made_with = λ v x m e. absurd (let z : false ≡ true = m in cc);
  argument_from = λ v e. absurd (let z : false ≡ true = e in cc);
  argument_with = λ v x m k e. absurd (let z : false ≡ true = m in cc);
  argument_own = λ v m k. absurd (let z : false ≡ true = k in cc);
  own_made = λ v m. (m, ap (λ v. variable v h.number) (sym (only v d m)));
  parts_read = λ x m. absurd (let z : false ≡ true = m in cc);
  takes_read = λ x m k. absurd (let z : false ≡ true = m in cc);
}
spreads h s (on.PutConst d c ts) b o = silent h s (on.PutConst d c ts) refl refl refl (λ v. refl) (λ v. refl)
spreads h s (on.PutInt d z) b o = silent h s (on.PutInt d z) refl refl refl (λ v. refl) (λ v. refl)
spreads h s (on.PutStr d z) b o = silent h s (on.PutStr d z) refl refl refl (λ v. refl) (λ v. refl)
spreads h s (on.PutIndex d x t) b o = silent h s (on.PutIndex d x t) refl refl refl (λ v. refl) (λ v. refl)
spreads h s (on.PutAbs d x t) b o = record {
  made_from = λ v e. inr (x, one_there x, e);
  made_with = λ v y m e. subst (λ y. stands_in v h.number (term_in s.now y).term ≡ true) (only y x m) e;
  argument_from = λ v e. absurd (let z : false ≡ true = e in cc);
  argument_with = λ v y m k e. absurd (let z : false ≡ true = m in cc);
  argument_own = λ v m k. absurd (let z : false ≡ true = k in cc);
  own_made = λ v m. absurd (let z : false ≡ true = m in cc);
  parts_read = λ y m. m;
  takes_read = λ y m k. absurd (let z : false ≡ true = m in cc);
}
spreads h s (on.PutApp d f rs) b o = record {
  made_from = λ v e. inr (made v e);
  made_with = λ v x m e. elim (one_of (nat_eq x f) (member x rs.items) m) [
    | inl g ↦ applied_head v h.number (term_in s.now f).term (plain_terms (terms_in s.now rs.items)) (subst (λ y. stands_in v h.number (term_in s.now y).term ≡ true) (eqb-true x f g) e)
    | inr g ↦ applied_with v h.number (term_in s.now f).term (plain_terms (terms_in s.now rs.items)) (read_with s v h.number x rs.items g e)
  ];
  argument_from = λ v e. absurd (let z : false ≡ true = e in cc);
  argument_with = λ v x m k e. absurd (let z : false ≡ true = m in cc);
  argument_own = λ v m k. absurd (let z : false ≡ true = k in cc);
  own_made = λ v m. absurd (let z : false ≡ true = m in cc);
  parts_read = λ x m. m;
  takes_read = λ x m k. absurd (let z : false ≡ true = m in cc);
}
  where
    made : (v : ℕ) → stands_in v h.number (apply (term_in s.now f).term (plain_terms (terms_in s.now rs.items))) ≡ true
        → (x : ℕ) × (member x (f ∷ rs.items) ≡ true) × (stands_in v h.number (term_in s.now x).term ≡ true)
    made v e = elim (applied_from v h.number (term_in s.now f).term (plain_terms (terms_in s.now rs.items)) e) [
      | inl g ↦ (f, or_left (nat_eq f f) (member f rs.items) (nat_eq_self f), g)
      | inr g ↦ (let q = read_from s v h.number rs.items g in (q.0, or_right (nat_eq q.0 f) (member q.0 rs.items) q.1, q.2))
    ]
spreads h s (on.GetType j t) b o = silent h s (on.GetType j t) refl refl refl (λ v. refl) (λ v. refl)
spreads h s (on.GetVar x d) b o = record {
  made_from = λ v e. inl (here v e);
  made_with = λ v y m e. absurd (let z : false ≡ true = m in cc);
  argument_from = λ v e. (let k = here v (first (stands_in v h.number (variable d h.number)) e) in inr (k, k));
  argument_with = λ v y m k e. absurd (let z : true ≡ false = sym m ∙ k in cc);
  argument_own = λ v m k. or_left (stands_in v h.number (variable d h.number)) false (subst (λ d. stands_in v h.number (variable d h.number) ≡ true) (only v d k) (stands_itself v h.number));
  own_made = λ v m. (m, ap (λ v. variable v h.number) (sym (only v d m)));
  parts_read = λ y m. absurd (let z : false ≡ true = m in cc);
  takes_read = λ y m k. absurd (let z : true ≡ false = sym m ∙ k in cc);
}
  where
    here : (v : ℕ) → stands_in v h.number (variable d h.number) ≡ true → member v (d ∷ []) ≡ true
    here v e = subst (λ v. member v (d ∷ []) ≡ true) (sym (stands_alone v d h.number e)) (one_there d)

    first : (b : Bool) → (b || false) ≡ true → b ≡ true
    first true e = refl
    first false e = e
spreads h s (on.Get x r) b o = record {
  made_from = λ v e. absurd (let z : false ≡ true = e in cc);
  made_with = λ v y m e. absurd (let z : false ≡ true = m in cc);
  argument_from = λ v e. inl (r, one_there r, refl, first (stands_in v h.number (term_in s.now r).term) e);
  argument_with = λ v y m k e. or_left (stands_in v h.number (term_in s.now r).term) false (subst (λ y. stands_in v h.number (term_in s.now y).term ≡ true) (only y r m) e);
  argument_own = λ v m k. absurd (let z : false ≡ true = m in cc);
  own_made = λ v m. absurd (let z : false ≡ true = m in cc);
  parts_read = λ y m. absurd (let z : false ≡ true = m in cc);
  takes_read = λ y m k. m;
}
  where
    first : (b : Bool) → (b || false) ≡ true → b ≡ true
    first true e = refl
    first false e = e
spreads h s (on.GetConst x c ts) b o = silent h s (on.GetConst x c ts) refl refl refl (λ v. refl) (λ v. refl)
spreads h s (on.GetInt x z) b o = silent h s (on.GetInt x z) refl refl refl (λ v. refl) (λ v. refl)
spreads h s (on.GetStr x z) b o = silent h s (on.GetStr x z) refl refl refl (λ v. refl) (λ v. refl)
spreads h s on.Neck b o = silent h s on.Neck refl refl refl (λ v. refl) (λ v. refl)
spreads h s (on.Call c ts rs) b o = silent h s (on.Call c ts rs) refl refl refl (λ v. refl) (λ v. refl)
spreads h s (on.CallTerm r) b o = silent h s (on.CallTerm r) refl refl refl (λ v. refl) (λ v. refl)
spreads h s (on.Equal t l r) b o = silent h s (on.Equal t l r) refl refl refl (λ v. refl) (λ v. refl)
spreads h s (on.Is t l r) b o = silent h s (on.Is t l r) refl refl refl (λ v. refl) (λ v. refl)
spreads h s (on.Less l r) b o = silent h s (on.Less l r) refl refl refl (λ v. refl) (λ v. refl)
spreads h s (on.Greater l r) b o = silent h s (on.Greater l r) refl refl refl (λ v. refl) (λ v. refl)
spreads h s (on.AtMost l r) b o = silent h s (on.AtMost l r) refl refl refl (λ v. refl) (λ v. refl)
spreads h s (on.AtLeast l r) b o = silent h s (on.AtLeast l r) refl refl refl (λ v. refl) (λ v. refl)
spreads h s on.Cut b o = silent h s on.Cut refl refl refl (λ v. refl) (λ v. refl)
spreads h s (on.Sigma d t) b o = absurd (no_goal s.in_body b o)
spreads h s (on.All d t) b o = absurd (no_goal s.in_body b o)
spreads h s on.EndAll b o = silent h s on.EndAll refl refl refl (λ v. refl) (λ v. refl)
spreads h s (on.Assume ns ts rs) b o = silent h s (on.Assume ns ts rs) refl refl refl (λ v. refl) (λ v. refl)
spreads h s on.EndAssume b o = silent h s on.EndAssume refl refl refl (λ v. refl) (λ v. refl)
spreads h s (on.Either n) b o = silent h s (on.Either n) refl refl refl (λ v. refl) (λ v. refl)
spreads h s (on.Jump n) b o = silent h s (on.Jump n) refl refl refl (λ v. refl) (λ v. refl)
spreads h s on.Proceed b o = silent h s on.Proceed refl refl refl (λ v. refl) (λ v. refl)
spreads h s on.Not b o = silent h s on.Not refl refl refl (λ v. refl) (λ v. refl)
spreads h s on.EndNot b o = silent h s on.EndNot refl refl refl (λ v. refl) (λ v. refl)
