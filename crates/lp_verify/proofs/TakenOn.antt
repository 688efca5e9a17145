-- The variables that stand in arguments of a head are told by the registers that were taken.
use Rattle.std.proofs.Common.{◌≡◌, ◌∙◌, ◌≤◌, ◌<◌, ◌+◌, ℕ, zero, suc, List, [], ◌∷◌, ◌++◌, length, Bool, true, false, Option, Some, None, ap, refl, sym, subst, arith, inl, inr}
use Rattle.std.specs.Prelude.{◌⊎◌, nat_eq, nat_lt, nat_le, not, ◌||◌, ◌&&◌, if◌then◌else◌, is_none, slice_set, unwrap_or}
use Rattle.std.specs.List.{list_any}
use Rattle.std.proofs.lemmas.Bool.{eqb-true, ne_eqb, lt-ltb, le-ltb, leb-false}
use Rattle.std.proofs.lemmas.List.{length-set}
use Rattle.std.proofs.lemmas.List.Folds.{list_any-append}
use Rattle.lp_lemmas.proofs.Booleans.{or_false_left, or_false_right, and_true_left, and_true_right}
use Rattle.lp_lemmas.proofs.Numbers.{nat_eq_self, below_suc}
use Rattle.lp_calculus.specs.Term.{Term, index, atom, abs, app, logic, constant, integer, text, eigen, param}
use Rattle.lp_code.specs.declared.instruction.Instr.{Instr}
use Rattle.lp_code.specs.declared.instruction.Instr.TheVariants as on
use Rattle.lp_code.specs.declared.record.Record.{Record}
use Rattle.lp_code.specs.Operands.{types_read, terms_read, type_set, term_set, own_set}
use Rattle.lp_code.specs.Symbolic.{Built, held, variable, term_in}
use Rattle.lp_code.specs.States.{State, Home, Captured, member, passing}
use Rattle.lp_code.specs.Steps.{is_made, own_variables}
use Rattle.lp_code.specs.Rules.{breaks_unset, breaks_set, breaks_order, breaks_nesting, stands_in}
use Rattle.lp_code.specs.Denote.{first_state}
use Rattle.lp_verify.specs.inner.Stack.{IsOne, set_all}
use Rattle.lp_verify.specs.inner.Outline.{Outline, body_behind}
use Rattle.lp_verify.specs.inner.Made.{nothing_built, term_made}
use Rattle.lp_verify.specs.inner.Taken.{parts, takes, passed_by, taken_from, before_neck, argument_made, stands_in_some, TakenIn}
use Rattle.lp_verify.specs.inner.Low.{IsLow, HoldsLow}
use Rattle.lp_verify.proofs.Members.{member_append}
use Rattle.lp_verify.proofs.KeptRegisters.{set_value}
use Rattle.lp_verify.proofs.StillHead.{set_elsewhere, made_there}
use Rattle.lp_verify.proofs.Outlines.{behind, outline_is, with_more_is, HeadStep, head_step}
use Rattle.lp_verify.proofs.HeadSteps.{Spreads, spreads, stands_itself, one_of, or_left, or_right}

-- lists of numbers
any_false : (f : ℕ → Bool) (xs : List ℕ) (x : ℕ) → list_any f xs ≡ false → member x xs ≡ true → f x ≡ false
any_false f [] x e m = absurd (let z : false ≡ true = m in cc)
any_false f (y ∷ ys) x e m = elim (one_of (nat_eq x y) (member x ys) m) [
  | inl g ↦ ap f (eqb-true x y g) ∙ or_false_left (f y) (list_any f ys) e
  | inr g ↦ any_false f ys x (or_false_right (f y) (list_any f ys) e) g
]

any_there : (f : ℕ → Bool) (xs : List ℕ) (x : ℕ) → member x xs ≡ true → f x ≡ true → list_any f xs ≡ true
any_there f [] x m e = absurd (let z : false ≡ true = m in cc)
any_there f (y ∷ ys) x m e = elim (one_of (nat_eq x y) (member x ys) m) [
  | inl g ↦ or_left (f y) (list_any f ys) (ap f (sym (eqb-true x y g)) ∙ e)
  | inr g ↦ or_right (f y) (list_any f ys) (any_there f ys x g e)
]

any_from : (f : ℕ → Bool) (xs : List ℕ) → list_any f xs ≡ true → (x : ℕ) × (member x xs ≡ true) × (f x ≡ true)
any_from f [] e = absurd (let z : false ≡ true = e in cc)
any_from f (y ∷ ys) e = elim (one_of (f y) (list_any f ys) e) [
  | inl g ↦ (y, or_left (nat_eq y y) (member y ys) (nat_eq_self y), g)
  | inr g ↦ (let q = any_from f ys g in (q.0, or_right (nat_eq q.0 y) (member q.0 ys) q.1, q.2))
]

-- an instruction sets one register at most
one_set : (i : Instr) → IsOne (term_set i)
one_set (on.TyCon d k ts) = tt
one_set (on.TyArr d x y) = tt
one_set (on.TyNew d) = tt
one_set (on.New d t) = tt
one_set (on.PutConst d c ts) = tt
one_set (on.PutInt d z) = tt
one_set (on.PutStr d z) = tt
one_set (on.PutIndex d x t) = tt
one_set (on.PutAbs d x t) = tt
one_set (on.PutApp d f rs) = tt
one_set (on.GetType j t) = tt
one_set (on.GetVar x d) = tt
one_set (on.Get x r) = tt
one_set (on.GetConst x c ts) = tt
one_set (on.GetInt x z) = tt
one_set (on.GetStr x z) = tt
one_set on.Neck = tt
one_set (on.Call c ts rs) = tt
one_set (on.CallTerm r) = tt
one_set (on.Equal t l r) = tt
one_set (on.Is t l r) = tt
one_set (on.Less l r) = tt
one_set (on.Greater l r) = tt
one_set (on.AtMost l r) = tt
one_set (on.AtLeast l r) = tt
one_set on.Cut = tt
one_set (on.Sigma d t) = tt
one_set (on.All d t) = tt
one_set on.EndAll = tt
one_set (on.Assume ns ts rs) = tt
one_set on.EndAssume = tt
one_set (on.Either n) = tt
one_set (on.Jump n) = tt
one_set on.Proceed = tt
one_set on.Not = tt
one_set on.EndNot = tt

alone : (xs : List ℕ) (v x : ℕ) → IsOne xs → member v xs ≡ true → member x xs ≡ true → x ≡ v
alone [] v x o m k = absurd (let z : false ≡ true = m in cc)
alone (d ∷ []) v x o m k = eqb-true x d (first (nat_eq x d) k) ∙ sym (eqb-true v d (first (nat_eq v d) m))
  where
    first : (b : Bool) → (b || false) ≡ true → b ≡ true
    first true e = refl
    first false e = e
alone (d ∷ e ∷ ds) v x o m k = absurd o

-- registers that are set
set_there : (ds : List ℕ) (b : Built) (xs : List (Option Built)) (x : ℕ) → list_any (nat_le (length xs)) ds ≡ false → member x ds ≡ true → held (set_all xs ds b) x ≡ Some b
set_there [] b xs x low m = absurd (let z : false ≡ true = m in cc)
set_there (d ∷ ds) b xs x low m = by_rest (member x ds) refl (set_there ds b (slice_set xs d (Some b)) x (ap (λ n. list_any (nat_le n) ds) (length-set xs d (Some b)) ∙ or_false_right (nat_le (length xs) d) (list_any (nat_le (length xs)) ds) low))
  where
    here : (b : Bool) → nat_eq x d ≡ b → (b || member x ds) ≡ true → member x ds ≡ false → nat_eq x d ≡ true
    here true e m f = e
    here false e m f = absurd (let z : true ≡ false = sym m ∙ f in cc)

    by_rest : (c : Bool) → member x ds ≡ c → (member x ds ≡ true → held (set_all (slice_set xs d (Some b)) ds b) x ≡ Some b) → held (set_all (slice_set xs d (Some b)) ds b) x ≡ Some b
    by_rest true e go = go e
    by_rest false e go =
        let l : d < length xs = leb-false (length xs) d (or_false_left (nat_le (length xs) d) (list_any (nat_le (length xs)) ds) low) in
        set_elsewhere x None ds b (slice_set xs d (Some b)) e ∙ set_value xs d b l x ∙ ap (λ c. if c then Some b else held xs x) (here (nat_eq x d) refl m e)

-- nothing is taken before the first of instructions
pub not_yet : (k n : ℕ) (is : List Instr) (x : ℕ) → n ≤ k → taken_from k n is x ≡ false
not_yet k n [] x l = refl
not_yet k n (i ∷ is) x l =
    let behind : (x : ℕ) → taken_from (suc k) n is x ≡ false = λ x. not_yet (suc k) n is x (omega (arith, l)) in
    (λ j. (member x (takes i) && le-ltb k n l j) || ((member x (parts i) && list_any (λ x. behind x j) (term_set i)) || behind x j)) ∙ none (member x (takes i)) (member x (parts i)) (term_set i)
  where
    no_one : (ds : List ℕ) → list_any (λ x. false) ds ≡ false
    no_one [] = refl
    no_one (d ∷ ds) = no_one ds

    none : (a b : Bool) (ds : List ℕ) → ((a && false) || ((b && list_any (λ x. false) ds) || false)) ≡ false
    none true true ds = ap (λ c. c || false) (no_one ds)
    none true false ds = refl
    none false true ds = ap (λ c. c || false) (no_one ds)
    none false false ds = refl

-- what holds of a register that is passed by an instruction, and what makes it so
module _ (i : Instr) (k n : ℕ) (f : ℕ → Bool) (x : ℕ) where
  passed_from : passed_by i k n f x ≡ true → (member x (takes i) ≡ true) ⊎ (((member x (parts i) ≡ true) × (d : ℕ) × (member d (term_set i) ≡ true) × (f d ≡ true)) ⊎ (f x ≡ true))
  passed_from e = elim (one_of (member x (takes i) && nat_lt k n) ((member x (parts i) && list_any f (term_set i)) || f x) e) [
    | inl g ↦ inl (and_true_left (member x (takes i)) (nat_lt k n) g)
    | inr g ↦ inr (elim (one_of (member x (parts i) && list_any f (term_set i)) (f x) g) [
      | inl p ↦ (let q = any_from f (term_set i) (and_true_right (member x (parts i)) (list_any f (term_set i)) p) in inl (and_true_left (member x (parts i)) (list_any f (term_set i)) p, q.0, q.1, q.2))
      | inr p ↦ inr p
    ])
  ]

  passed_taken : k < n → member x (takes i) ≡ true → passed_by i k n f x ≡ true
  passed_taken l m = or_left (member x (takes i) && nat_lt k n) ((member x (parts i) && list_any f (term_set i)) || f x) (λ j. both m (lt-ltb k n l) j)
    where
      both : {a b : Bool} → a ≡ true → b ≡ true → (a && b) ≡ true
      both p q = λ j. p j && q j

  passed_part : (d : ℕ) → member x (parts i) ≡ true → member d (term_set i) ≡ true → f d ≡ true → passed_by i k n f x ≡ true
  passed_part d m s e =
      or_right (member x (takes i) && nat_lt k n) ((member x (parts i) && list_any f (term_set i)) || f x)
      (or_left (member x (parts i) && list_any f (term_set i)) (f x) (λ j. m j && any_there f (term_set i) d s e j))

  passed_behind : f x ≡ true → passed_by i k n f x ≡ true
  passed_behind e = or_right (member x (takes i) && nat_lt k n) ((member x (parts i) && list_any f (term_set i)) || f x) (or_right (member x (parts i) && list_any f (term_set i)) (f x) e)

  passed_elsewhere : member x (takes i) ≡ false → member x (parts i) ≡ false → passed_by i k n f x ≡ f x
  passed_elsewhere t p = λ j. (t j && nat_lt k n) || ((p j && list_any f (term_set i)) || f x)

-- a variable stands in the terms that it is seen to stand in
no_variable : (v n x : ℕ) (t : Term) → t ≡ index x → stands_in v n t ≡ true → ⊥
no_variable v n x t e m = let z : false ≡ true = sym (ap (stands_in v n) e) ∙ m in cc

pub is_variable : (v n : ℕ) (t : Term) → t ≡ variable v n → stands_in v n t ≡ true
is_variable v n t e = ap (stands_in v n) e ∙ stands_itself v n

-- one instruction more of a head
module _ (h : Home) (s : State) (i : Instr) (is all : List Instr) (k : ℕ) (a : TakenIn h all (i ∷ is) k s) (body : s.in_body ≡ false) (order : breaks_order s i ≡ false) (nest : breaks_nesting s is i ≡ false) (read : breaks_unset s i ≡ false) (once : breaks_set s i ≡ false)
    (low : list_any (nat_le (length s.now.terms)) (term_set i) ≡ false) (fresh : (x : ℕ) → member x s.terms_set ≡ false → held s.now.terms x ≡ None) (own : (v : ℕ) → member v (own_set i) ≡ true → member v (own_variables h.self) ≡ true) (in_head : body_behind i false ≡ false) where
  abbrev t : State
  t = behind h s i

  step : HeadStep h s i
  step = head_step h s i is a.closed body order nest

  sp : Spreads h s i
  sp = spreads h s i body order

  abbrev after_it : ℕ → ℕ → Bool
  after_it n = taken_from (suc k) n (before_neck is)

  now_is : (n x : ℕ) → taken_from k n (before_neck (i ∷ is)) x ≡ passed_by i k n (after_it n) x
  now_is n x = ap (λ b. taken_from k n (if b then [] else i ∷ before_neck is) x) in_head

  elsewhere : (x : ℕ) → member x (term_set i) ≡ false → term_in t.now x ≡ term_in s.now x
  elsewhere x e = ap (λ xs. unwrap_or (held xs x) nothing_built) step.terms ∙ ap (λ o. unwrap_or o nothing_built) (set_elsewhere x None (term_set i) (term_made h s i) s.now.terms e)

  there : (x : ℕ) → member x (term_set i) ≡ true → term_in t.now x ≡ term_made h s i
  there x e = ap (λ xs. unwrap_or (held xs x) nothing_built) step.terms ∙ ap (λ o. unwrap_or o nothing_built) (set_there (term_set i) (term_made h s i) s.now.terms x low e)

  new_here : (x : ℕ) → member x (term_set i) ≡ true → member x s.terms_set ≡ false
  new_here x e = any_false (λ r. member r s.terms_set) (term_set i) x (or_false_right (list_any (λ t. member t s.types_set) (type_set i)) (list_any (λ r. member r s.terms_set) (term_set i)) once) e

  unset_term : (x : ℕ) → member x s.terms_set ≡ false → (term_in s.now x).term ≡ index 0
  unset_term x e = ap (λ o. (unwrap_or o nothing_built).term) (fresh x e)

  is_set : (x : ℕ) → member x (terms_read i) ≡ true → member x s.terms_set ≡ false → ⊥
  is_set x m e =
      let some : is_none (held s.now.terms x) ≡ false = any_false (λ r. is_none (held s.now.terms r)) (terms_read i) x (or_false_right (list_any (λ t. is_none (held s.now.types t)) (types_read i)) (list_any (λ r. is_none (held s.now.terms r)) (terms_read i)) read) m in
      let z : true ≡ false = sym (ap is_none (fresh x e)) ∙ some in
      cc

  old_there : (v x : ℕ) → stands_in v h.number (term_in s.now x).term ≡ true → member x (term_set i) ≡ false
  old_there v x e = by (member x (term_set i)) refl
    where
      by : (b : Bool) → member x (term_set i) ≡ b → member x (term_set i) ≡ false
      by true m = absurd (no_variable v h.number 0 (term_in s.now x).term (unset_term x (new_here x m)) e)
      by false m = m

  stays : (v x : ℕ) → stands_in v h.number (term_in s.now x).term ≡ true → stands_in v h.number (term_in t.now x).term ≡ true
  stays v x e = ap (λ (b : Built). stands_in v h.number b.term) (elsewhere x (old_there v x e)) ∙ e

  old_variable : (v : ℕ) → (term_in s.now v).term ≡ variable v h.number → (term_in t.now v).term ≡ variable v h.number
  old_variable v e = ap (λ (b : Built). b.term) (elsewhere v (old_there v v (is_variable v h.number (term_in s.now v).term e))) ∙ e

  argued_is : (v : ℕ) → stands_in_some v h.number t.head_arguments ≡ (stands_in_some v h.number s.head_arguments || stands_in_some v h.number (argument_made h s i))
  argued_is v = ap (stands_in_some v h.number) (step.arguments ∙ with_more_is s.head_arguments (argument_made h s i))
      ∙ list_any-append (λ (b : Built). stands_in v h.number b.term) s.head_arguments (argument_made h s i)

  argued_old : (v : ℕ) → stands_in_some v h.number s.head_arguments ≡ true → stands_in_some v h.number t.head_arguments ≡ true
  argued_old v e = argued_is v ∙ or_left (stands_in_some v h.number s.head_arguments) (stands_in_some v h.number (argument_made h s i)) e

  argued_new : (v : ℕ) → stands_in_some v h.number (argument_made h s i) ≡ true → stands_in_some v h.number t.head_arguments ≡ true
  argued_new v e = argued_is v ∙ or_right (stands_in_some v h.number s.head_arguments) (stands_in_some v h.number (argument_made h s i)) e

  -- a variable that the instruction makes
  own_here : (v : ℕ) → member v (own_set i) ≡ true → (term_in t.now v).term ≡ variable v h.number
  own_here v o = let q = sp.own_made v o in ap (λ (b : Built). b.term) (there v q.0) ∙ q.1

  from_new : (v n : ℕ) → member v (term_set i) ≡ true → taken_from 0 n (before_neck all) v ≡ passed_by i k n (after_it n) v
  from_new v n m = a.unset v n (new_here v m) ∙ now_is n v

  own_on : (v x : ℕ) → stands_in v h.number (term_in t.now x).term ≡ true → ((term_in t.now v).term ≡ variable v h.number) × (member v (own_variables h.self) ≡ true)
  own_on v x e = by (member x (term_set i)) refl
    where
      old : (y : ℕ) → stands_in v h.number (term_in s.now y).term ≡ true → ((term_in t.now v).term ≡ variable v h.number) × (member v (own_variables h.self) ≡ true)
      old y f = let q = a.own v y f in (old_variable v q.0, q.1)

      by : (b : Bool) → member x (term_set i) ≡ b → ((term_in t.now v).term ≡ variable v h.number) × (member v (own_variables h.self) ≡ true)
      by true m = elim (sp.made_from v (sym (ap (λ (b : Built). stands_in v h.number b.term) (there x m)) ∙ e)) [
        | inl o ↦ (own_here v o, own v o)
        | inr q ↦ old q.0 q.2
      ]
      by false m = old x (sym (ap (λ (b : Built). stands_in v h.number b.term) (elsewhere x m)) ∙ e)

  argued_on : (v : ℕ) → stands_in_some v h.number t.head_arguments ≡ true → (term_in t.now v).term ≡ variable v h.number
  argued_on v e = elim (one_of (stands_in_some v h.number s.head_arguments) (stands_in_some v h.number (argument_made h s i)) (sym (argued_is v) ∙ e)) [
    | inl f ↦ old_variable v (a.argued v f)
    | inr f ↦ elim (sp.argument_from v f) [ inl q ↦ old_variable v (a.own v q.0 q.3).0 | inr q ↦ own_here v q.0 ]
  ]

  unset_on : (x n : ℕ) → member x t.terms_set ≡ false → taken_from 0 n (before_neck all) x ≡ after_it n x
  unset_on x n e =
      let sets : t.terms_set ≡ s.terms_set ++ term_set i = ap (λ (o : Outline). o.terms_set) (outline_is h s i) in
      let f : (member x s.terms_set || member x (term_set i)) ≡ false = sym (member_append x s.terms_set (term_set i)) ∙ sym (ap (member x) sets) ∙ e in
      let before = or_false_left (member x s.terms_set) (member x (term_set i)) f in
      let now = or_false_right (member x s.terms_set) (member x (term_set i)) f in
      a.unset x n before ∙ now_is n x ∙ passed_elsewhere i k n (after_it n) x (not_read (member x (takes i)) (λ m. is_set x (sp.takes_read x m now) before)) (not_read (member x (parts i)) (λ m. is_set x (sp.parts_read x m) before))
    where
      not_read : (b : Bool) → (b ≡ true → ⊥) → b ≡ false
      not_read true never = absurd (never refl)
      not_read false never = refl

  abbrev Flows : (v n : ℕ) → Type 0
  Flows v n = (stands_in_some v h.number t.head_arguments ≡ true) ⊎ ((x : ℕ) × (stands_in v h.number (term_in t.now x).term ≡ true) × (after_it n x ≡ true))

  flows_on : (v n : ℕ) → (term_in t.now v).term ≡ variable v h.number → suc k ≤ n → taken_from 0 n (before_neck all) v ≡ true → Flows v n
  flows_on v n e l f = by (member v (term_set i)) refl
    where
      old : (x : ℕ) → stands_in v h.number (term_in s.now x).term ≡ true → passed_by i k n (after_it n) x ≡ true → Flows v n
      old x g p = elim (passed_from i k n (after_it n) x p) [
        | inl m ↦ inl (argued_new v (sp.argument_with v x m (old_there v x g) g))
        | inr (inl q) ↦ inr (q.1, ap (λ (b : Built). stands_in v h.number b.term) (there q.1 q.2) ∙ sp.made_with v x q.0 g, q.3)
        | inr (inr q) ↦ inr (x, stays v x g, q)
      ]

      by : (b : Bool) → member v (term_set i) ≡ b → Flows v n
      by true m = elim (passed_from i k n (after_it n) v (sym (from_new v n m) ∙ f)) [
        | inl q ↦ inl (argued_new v (sp.argument_own v m q))
        | inr (inl q) ↦ absurd (is_set v (sp.parts_read v q.0) (new_here v m))
        | inr (inr q) ↦ inr (v, is_variable v h.number (term_in t.now v).term e, q)
      ]
      by false m = elim (a.flows v n (sym (ap (λ (b : Built). b.term) (elsewhere v m)) ∙ e) (omega (arith, l)) f) [
        | inl g ↦ inl (argued_old v g)
        | inr q ↦ old q.0 q.1 (sym (now_is n q.0) ∙ q.2)
      ]

  argument_flows_on : (v n : ℕ) → suc k ≤ n → stands_in_some v h.number t.head_arguments ≡ true → taken_from 0 n (before_neck all) v ≡ true
  argument_flows_on v n l e = elim (one_of (stands_in_some v h.number s.head_arguments) (stands_in_some v h.number (argument_made h s i)) (sym (argued_is v) ∙ e)) [
    | inl f ↦ a.argument_flows v n (omega (arith, l)) f
    | inr f ↦ elim (sp.argument_from v f) [
      | inl q ↦ a.term_flows v q.0 n (omega (arith, l)) q.3 (now_is n q.0 ∙ passed_taken i k n (after_it n) q.0 (omega (arith, l)) q.1)
      | inr q ↦ from_new v n (sp.own_made v q.0).0 ∙ passed_taken i k n (after_it n) v (omega (arith, l)) q.1
    ]
  ]

  term_flows_on : (v x n : ℕ) → suc k ≤ n → stands_in v h.number (term_in t.now x).term ≡ true → after_it n x ≡ true → taken_from 0 n (before_neck all) v ≡ true
  term_flows_on v x n l g f = by (member x (term_set i)) refl
    where
      old : (y : ℕ) → stands_in v h.number (term_in s.now y).term ≡ true → passed_by i k n (after_it n) y ≡ true → taken_from 0 n (before_neck all) v ≡ true
      old y g p = a.term_flows v y n (omega (arith, l)) g (now_is n y ∙ p)

      by : (b : Bool) → member x (term_set i) ≡ b → taken_from 0 n (before_neck all) v ≡ true
      by true m = elim (sp.made_from v (sym (ap (λ (b : Built). stands_in v h.number b.term) (there x m)) ∙ g)) [
        | inl o ↦ (let w = (sp.own_made v o).0 in from_new v n w ∙ passed_behind i k n (after_it n) v (ap (after_it n) (sym (alone (term_set i) v x (one_set i) w m)) ∙ f))
        | inr q ↦ old q.0 q.2 (passed_part i k n (after_it n) q.0 x q.1 m f)
      ]
      by false m = old x (sym (ap (λ (b : Built). stands_in v h.number b.term) (elsewhere x m)) ∙ g) (passed_behind i k n (after_it n) x f)

  pub taken_on : TakenIn h all is (suc k) (behind h s i)
  taken_on = record { closed = step.frames; own = own_on; argued = argued_on; unset = unset_on; flows = flows_on; argument_flows = argument_flows_on; term_flows = term_flows_on }

-- before the first instruction, where the record starts with terms of earlier ones
pub low_stands : (v n : ℕ) (t : Term) → IsLow n t → stands_in v n t ≡ false
low_stands v n (index i) l = refl
low_stands v n (atom (logic r k)) l = ap (λ b. nat_eq r v && b) (ne_eqb k n (λ e. omega (arith, l, e))) ∙ none (nat_eq r v)
  where
    none : (b : Bool) → (b && false) ≡ false
    none true = refl
    none false = refl
low_stands v n (atom (constant c ts)) l = refl
low_stands v n (atom (integer z)) l = refl
low_stands v n (atom (text s)) l = refl
low_stands v n (atom (eigen k)) l = refl
low_stands v n (atom (param k T)) l = refl
low_stands v n (abs b) l = low_stands v n b l
low_stands v n (app t u) l = (λ j. low_stands v n t l.0 j || low_stands v n u l.1 j)

pub taken_first : (h : Home) (r : Record) (c : Captured) (all : List Instr) → HoldsLow h.number (first_state r c).now.terms → TakenIn h all all 0 (first_state r c)
taken_first h r c all low = record {
  closed = refl;
  own = λ v x e. absurd (none v x e);
  argued = λ v e. absurd (let z : false ≡ true = e in cc);
  unset = λ x n e. refl;
  flows = λ v n e l f. absurd (none v v (is_variable v h.number (term_in (first_state r c).now v).term e));
  argument_flows = λ v n l e. absurd (let z : false ≡ true = e in cc);
  term_flows = λ v x n l e f. absurd (none v x e);
}
  where
    none : (v x : ℕ) → stands_in v h.number (term_in (first_state r c).now x).term ≡ true → ⊥
    none v x e = let z : false ≡ true = sym (low_stands v h.number (term_in (first_state r c).now x).term (low x)) ∙ e in cc

-- an own variable stands in an argument so far where an instruction so far took it
pub taken_is : (h : Home) (all left : List Instr) (k : ℕ) (s : State) (v : ℕ) → TakenIn h all left k s → (term_in s.now v).term ≡ variable v h.number
    → taken_from 0 k (before_neck all) v ≡ stands_in_some v h.number s.head_arguments
taken_is h all left k s v a e = by (taken_from 0 k (before_neck all) v) (stands_in_some v h.number s.head_arguments) (λ f. taken (a.flows v k e (omega arith) f)) (a.argument_flows v k (omega arith))
  where
    taken : (stands_in_some v h.number s.head_arguments ≡ true) ⊎ ((x : ℕ) × (stands_in v h.number (term_in s.now x).term ≡ true) × (taken_from k k (before_neck left) x ≡ true))
        → stands_in_some v h.number s.head_arguments ≡ true
    taken (inl f) = f
    taken (inr q) = absurd (let z : false ≡ true = sym (not_yet k k (before_neck left) q.0 (omega arith)) ∙ q.2 in cc)

    by : (x y : Bool) → (x ≡ true → y ≡ true) → (y ≡ true → x ≡ true) → x ≡ y
    by true y f g = sym (f refl)
    by false true f g = g refl
    by false false f g = refl

-- a record that is in its head behind an instruction was there before it
body_stays : (i : Instr) → body_behind i true ≡ true
body_stays (on.TyCon d k ts) = refl
body_stays (on.TyArr d x y) = refl
body_stays (on.TyNew d) = refl
body_stays (on.New d t) = refl
body_stays (on.PutConst d c ts) = refl
body_stays (on.PutInt d z) = refl
body_stays (on.PutStr d z) = refl
body_stays (on.PutIndex d x t) = refl
body_stays (on.PutAbs d x t) = refl
body_stays (on.PutApp d f rs) = refl
body_stays (on.GetType j t) = refl
body_stays (on.GetVar x d) = refl
body_stays (on.Get x r) = refl
body_stays (on.GetConst x c ts) = refl
body_stays (on.GetInt x z) = refl
body_stays (on.GetStr x z) = refl
body_stays on.Neck = refl
body_stays (on.Call c ts rs) = refl
body_stays (on.CallTerm r) = refl
body_stays (on.Equal t l r) = refl
body_stays (on.Is t l r) = refl
body_stays (on.Less l r) = refl
body_stays (on.Greater l r) = refl
body_stays (on.AtMost l r) = refl
body_stays (on.AtLeast l r) = refl
body_stays on.Cut = refl
body_stays (on.Sigma d t) = refl
body_stays (on.All d t) = refl
body_stays on.EndAll = refl
body_stays (on.Assume ns ts rs) = refl
body_stays on.EndAssume = refl
body_stays (on.Either n) = refl
body_stays (on.Jump n) = refl
body_stays on.Proceed = refl
body_stays on.Not = refl
body_stays on.EndNot = refl

pub body_from : (i : Instr) (b : Bool) → body_behind i b ≡ false → (b ≡ false) × (body_behind i false ≡ false)
body_from i true e = absurd (let z : true ≡ false = sym (body_stays i) ∙ e in cc)
body_from i false e = (refl, e)

-- a variable that an instruction makes is the record's own
passing_has : (n : ℕ) (f : ℕ → Bool) (v : ℕ) → v < n → f v ≡ true → member v (passing n f) ≡ true
passing_has zero f v l e = absurd (omega (arith, l))
passing_has (suc n) f v l e = member_append v (passing n f) (if f n then n ∷ [] else []) ∙ elim (below_suc n v l) [
  | inl k ↦ or_left (member v (passing n f)) (member v (if f n then n ∷ [] else [])) (passing_has n f v k e)
  | inr k ↦ or_right (member v (passing n f)) (member v (if f n then n ∷ [] else [])) (ap (λ b. member v (if b then n ∷ [] else [])) (ap f (sym k) ∙ e) ∙ ap (λ b. b || false) (ap (nat_eq v) (sym k) ∙ nat_eq_self v))
]

pub own_has : (h : Home) (s : State) (i : Instr) (run is : List Instr) (v : ℕ) → s.in_body ≡ false → breaks_order s i ≡ false → h.self.code.items ≡ run ++ i ∷ is
    → list_any (nat_le h.self.registers) (term_set i) ≡ false → member v (own_set i) ≡ true → member v (own_variables h.self) ≡ true
own_has h s i run is v body order parts low m =
    let l : v < h.self.registers = leb-false h.self.registers v (any_false (nat_le h.self.registers) (term_set i) v low ((spreads h s i body order).own_made v m).0) in
    passing_has h.self.registers (is_made own_set h.self.code.items) v l (rw parts (made_there own_set run i is v m))
