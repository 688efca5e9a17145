-- The rule on the head, for an instruction and for the record as a whole.
use Rattle.std.proofs.Common.{◌≡◌, ◌∙◌, ◌≤◌, ◌<◌, ℕ, ℤ, List, [], ◌∷◌, length, Bool, true, false, Option, Some, None, ap, refl, sym, subst, arith, inl, inr}
use Rattle.std.specs.Prelude.{nat_eq, nat_lt, nat_le, not, ◌||◌, ◌&&◌, is_some, option_map, slice_get, unwrap_or, Vec}
use Rattle.std.specs.Global.{Global}
use Rattle.std.specs.List.{list_any}
use Rattle.std.specs.Ordering.{nat_cmp}
use Rattle.std.specs.BTreeMap.{get}
use Rattle.std.proofs.lemmas.Bool.{eqb-true, eqb-false, ne_eqb, ltb-true, ltb-false, le-leb, lt-leb}
use Rattle.lp_lemmas.proofs.Numbers.{nat_eq_self}
use Rattle.lp_lemmas.proofs.Booleans.{and_true_left}
use Rattle.lp_lemmas.proofs.Options.{one_value}
use Rattle.lp_code.specs.declared.record.RecordHead.{RecordHead}
use Rattle.lp_code.specs.declared.record.RecordHead.TheVariants.{Register}
use Rattle.lp_calculus.specs.Term.{Term, index, atom, abs, app, logic, constant, integer, text, eigen, param}
use Rattle.lp_calculus.specs.Typing.{Scheme}
use Rattle.lp_model.specs.Flatten.{ends_in_o, heads_clauses}
use Rattle.lp_standard.specs.Constants.{is_declared}
use Rattle.lp_term.specs.Nodes.{Nodes, type_tree}
use Rattle.lp_code.specs.declared.instruction.Instr.{Instr}
use Rattle.lp_code.specs.declared.instruction.Instr.TheVariants as on
use Rattle.lp_code.specs.Rules.{is_variable_of, stands_in, is_new_variable, breaks_head}
use Rattle.lp_code.specs.Symbolic.{Built, variable, term_in}
use Rattle.lp_code.specs.States.{State, Home, member}
use Rattle.lp_code.specs.Steps.{own_variables}
use Rattle.lp_verify.specs.declared.built.Built as kept_built
use Rattle.lp_verify.specs.declared.built.Head.{Head}
use Rattle.lp_verify.specs.declared.built.Head.TheVariants as head
use Rattle.lp_verify.specs.declared.record.Work.{Work}
use Rattle.lp_verify.specs.inner.Outline.{body_behind}
use Rattle.lp_verify.specs.inner.Handed.{variable_of, variable_in}
use Rattle.lp_verify.specs.inner.Known.{KnowsTaken}
use Rattle.lp_verify.specs.inner.Taken.{is_before, stands_in_some}
use Rattle.lp_verify.specs.inner.Told.{is_off, is_out_of_order}
use Rattle.lp_verify.proofs.HeadSteps.{one_of, or_left, or_right}

-- of a list, one number passes a test that looks for it
any_one : (q : ℕ) (b : Bool) (f : ℕ → Bool) (xs : List ℕ) → b ≡ true → member q xs ≡ true → list_any (λ v. (nat_eq q v && b) && f v) xs ≡ f q
any_one q b f xs e m = by (f q) refl
  where
    found : f q ≡ true → (ys : List ℕ) → member q ys ≡ true → list_any (λ v. (nat_eq q v && b) && f v) ys ≡ true
    found g [] k = absurd (let z : false ≡ true = k in cc)
    found g (y ∷ ys) k = elim (one_of (nat_eq q y) (member q ys) k) [
      | inl p ↦ or_left ((nat_eq q y && b) && f y) (list_any (λ v. (nat_eq q v && b) && f v) ys) (λ j. (p j && e j) && (ap f (sym (eqb-true q y p)) ∙ g) j)
      | inr p ↦ or_right ((nat_eq q y && b) && f y) (list_any (λ v. (nat_eq q v && b) && f v) ys) (found g ys p)
    ]

    passed : (t : Bool) (y : ℕ) → nat_eq q y ≡ t → f q ≡ false → ((t && b) && f y) ≡ false
    passed true y p g = ap (λ b. b && f y) e ∙ ap f (sym (eqb-true q y p)) ∙ g
    passed false y p g = refl

    none : f q ≡ false → (ys : List ℕ) → list_any (λ v. (nat_eq q v && b) && f v) ys ≡ false
    none g [] = refl
    none g (y ∷ ys) = λ j. passed (nat_eq q y) y refl g j || none g ys j

    by : (t : Bool) → f q ≡ t → list_any (λ v. (nat_eq q v && b) && f v) xs ≡ f q
    by true g = found g xs m ∙ sym g
    by false g = none g xs ∙ sym g

any_none : (f g : ℕ → Bool) (xs : List ℕ) → ((v : ℕ) → f v ≡ false) → list_any (λ v. f v && g v) xs ≡ false
any_none f g [] h = refl
any_none f g (x ∷ xs) h = λ j. (h x j && g x) || any_none f g xs h j

-- a variable of the clause that is new
module _ (w : Work) (h : Home) (s : State) (r : ℕ) (taken : KnowsTaken w h s) (number : w.home.number ≡ h.number) (body : w.in_body ≡ false) where
  there : (q k : ℕ) → (term_in s.now r).term ≡ atom (logic q k) → (nat_eq k w.home.number && not (is_before w.number (get nat_cmp w.takings.first q))) ≡ is_new_variable h s r
  there q k e = ap (λ n. nat_eq k n && not (is_before w.number (get nat_cmp w.takings.first q))) number ∙ by (nat_eq k h.number) refl
      ∙ sym (ap (λ t. list_any (λ v. is_variable_of t v h.number && not (stands_in_some v h.number s.head_arguments)) (own_variables h.self)) e)
    where
      other : (b : Bool) → (b && false) ≡ false
      other true = refl
      other false = refl

      by : (b : Bool) → nat_eq k h.number ≡ b → (nat_eq k h.number && not (is_before w.number (get nat_cmp w.takings.first q))) ≡ list_any (λ v. (nat_eq q v && nat_eq k h.number) && not (stands_in_some v h.number s.head_arguments)) (own_variables h.self)
      by true f =
          let own = taken q r body (e ∙ ap (variable q) (eqb-true k h.number f)) in
          ap (λ b. b && not (is_before w.number (get nat_cmp w.takings.first q))) f ∙ ap not own.1
          ∙ sym (any_one q (nat_eq k h.number) (λ v. not (stands_in_some v h.number s.head_arguments)) (own_variables h.self) f own.0)
      by false f = ap (λ b. b && not (is_before w.number (get nat_cmp w.takings.first q))) f ∙ sym (any_none (λ v. nat_eq q v && nat_eq k h.number) (λ v. not (stands_in_some v h.number s.head_arguments)) (own_variables h.self) (λ v. ap (λ b. nat_eq q v && b) f ∙ other (nat_eq q v)))

  pub new_is : (q k : ℕ) (t : Head) → t ≡ head.Variable q k → variable_in t ≡ variable_of (term_in s.now r).term
      → (nat_eq k w.home.number && not (is_before w.number (get nat_cmp w.takings.first q))) ≡ is_new_variable h s r
  new_is q k t is same = by (term_in s.now r).term refl (sym (ap variable_in is) ∙ same)
    where
      same_pair : (x y : ℕ × ℕ) → Some x ≡ Some y → x ≡ y
      same_pair x y e = cc

      by : (u : Term) → (term_in s.now r).term ≡ u → Some (q, k) ≡ variable_of u → (nat_eq k w.home.number && not (is_before w.number (get nat_cmp w.takings.first q))) ≡ is_new_variable h s r
      by (atom (logic x n)) e f = let p = same_pair (q, k) (x, n) f in there q k (e ∙ ap (λ p. atom (logic p.0 p.1)) (sym p))
      by (atom (constant c ts)) e f = absurd (cc)
      by (atom (integer z)) e f = absurd (cc)
      by (atom (text z)) e f = absurd (cc)
      by (atom (eigen n)) e f = absurd (cc)
      by (atom (param n T)) e f = absurd (cc)
      by (index x) e f = absurd (cc)
      by (abs b) e f = absurd (cc)
      by (app a b) e f = absurd (cc)

-- another term is none
no_variable_of : (u : Term) (v n : ℕ) → None ≡ variable_of u → is_variable_of u v n ≡ false
no_variable_of (atom (logic x k)) v n f = absurd (cc)
no_variable_of (atom (constant c ts)) v n f = refl
no_variable_of (atom (integer z)) v n f = refl
no_variable_of (atom (text z)) v n f = refl
no_variable_of (atom (eigen k)) v n f = refl
no_variable_of (atom (param k T)) v n f = refl
no_variable_of (index x) v n f = refl
no_variable_of (abs b) v n f = refl
no_variable_of (app a b) v n f = refl

pub not_new : (h : Home) (s : State) (r : ℕ) (t : Head) → t ≡ head.Other → variable_in t ≡ variable_of (term_in s.now r).term → false ≡ is_new_variable h s r
not_new h s r t is same = sym (any_none (λ v. is_variable_of (term_in s.now r).term v h.number) (λ v. not (stands_in_some v h.number s.head_arguments)) (own_variables h.self) (λ v. no_variable_of (term_in s.now r).term v h.number (sym (ap variable_in is) ∙ same)))

-- before NECK
pub in_head_at : (b : Bool) (n m i r : ℕ) (j : Instr) → j ≡ on.Get i r → is_out_of_order b n m j ≡ false → b ≡ false
in_head_at b n m i r j e f = first b (not (nat_eq i m)) (ap (is_out_of_order b n m) (sym e) ∙ f)
  where
    first : (b c : Bool) → (b || c) ≡ false → b ≡ false
    first true c e = absurd (let z : true ≡ false = e in cc)
    first false c e = refl

-- the instructions that the rule is on
pub not_both : (p a b : Bool) → (p && not (a && b)) ≡ (p && (not a || not b))
not_both true true b = refl
not_both true false b = refl
not_both false a b = refl

pub not_below : (p : Bool) (j n : ℕ) → (p && not (nat_lt j n)) ≡ (p && nat_le n j)
not_below p j n = ap (λ b. p && b) (by (nat_lt j n) refl)
  where
    by : (b : Bool) → nat_lt j n ≡ b → not (nat_lt j n) ≡ nat_le n j
    by true e = ap not e ∙ sym (lt-leb n j (ltb-true j n e))
    by false e = ap not e ∙ sym (le-leb n j (ltb-false j n e))

none_of : (p : Bool) → (p && false) ≡ false
none_of true = refl
none_of false = refl

pub head_kept : (h : Home) (s : State) (i : Instr) → ((j t : ℕ) → i ≡ on.GetType j t → ⊥) → ((j r : ℕ) → i ≡ on.Get j r → ⊥) → (i ≡ on.Neck → ⊥) → (is_some h.self.head && false) ≡ breaks_head h s i
head_kept h s i n0 n1 n2 = none_of (is_some h.self.head) ∙ by i n0 n1 n2
  where
    by : (i : Instr) → ((j t : ℕ) → i ≡ on.GetType j t → ⊥) → ((j r : ℕ) → i ≡ on.Get j r → ⊥) → (i ≡ on.Neck → ⊥) → false ≡ breaks_head h s i
    by (on.TyCon d k ts) n0 n1 n2 = refl
    by (on.TyArr d x y) n0 n1 n2 = refl
    by (on.TyNew d) n0 n1 n2 = refl
    by (on.New d t) n0 n1 n2 = refl
    by (on.PutConst d c ts) n0 n1 n2 = refl
    by (on.PutInt d z) n0 n1 n2 = refl
    by (on.PutStr d z) n0 n1 n2 = refl
    by (on.PutIndex d x t) n0 n1 n2 = refl
    by (on.PutAbs d x t) n0 n1 n2 = refl
    by (on.PutApp d f rs) n0 n1 n2 = refl
    by (on.GetType j t) n0 n1 n2 = absurd (n0 j t refl)
    by (on.GetVar x d) n0 n1 n2 = refl
    by (on.Get x r) n0 n1 n2 = absurd (n1 x r refl)
    by (on.GetConst x c ts) n0 n1 n2 = refl
    by (on.GetInt x z) n0 n1 n2 = refl
    by (on.GetStr x z) n0 n1 n2 = refl
    by on.Neck n0 n1 n2 = absurd (n2 refl)
    by (on.Call c ts rs) n0 n1 n2 = refl
    by (on.CallTerm r) n0 n1 n2 = refl
    by (on.Equal t l r) n0 n1 n2 = refl
    by (on.Is t l r) n0 n1 n2 = refl
    by (on.Less l r) n0 n1 n2 = refl
    by (on.Greater l r) n0 n1 n2 = refl
    by (on.AtMost l r) n0 n1 n2 = refl
    by (on.AtLeast l r) n0 n1 n2 = refl
    by on.Cut n0 n1 n2 = refl
    by (on.Sigma d t) n0 n1 n2 = refl
    by (on.All d t) n0 n1 n2 = refl
    by on.EndAll n0 n1 n2 = refl
    by (on.Assume ns ts rs) n0 n1 n2 = refl
    by on.EndAssume n0 n1 n2 = refl
    by (on.Either n) n0 n1 n2 = refl
    by (on.Jump n) n0 n1 n2 = refl
    by on.Proceed n0 n1 n2 = refl
    by on.Not n0 n1 n2 = refl
    by on.EndNot n0 n1 n2 = refl

-- the scheme of a constant
pub scheme_heads : (c : ℕ) (o : Option Scheme) (T : Scheme) (b e : Bool) → Some T ≡ o → b ≡ is_declared c → e ≡ ends_in_o T.body → (b && e) ≡ (is_declared c && heads_clauses o)
scheme_heads c o T b e is declared ends = (λ j. declared j && ends j) ∙ ap (λ o. is_declared c && heads_clauses o) is

pub none_heads : (c : ℕ) (o : Option Scheme) → None ≡ o → false ≡ (is_declared c && heads_clauses o)
none_heads c o is = sym (none_of (is_declared c)) ∙ ap (λ o. is_declared c && heads_clauses o) is

pub all_three : (a b c : Bool) → (a && (b && c)) ≡ (a && b && c)
all_three true b c = refl
all_three false b c = refl

-- a head that is a register
pub low_register : (q r n : ℕ) (b : Bool) → Register q ≡ Register r → (nat_lt q n && b) ≡ true → nat_lt r n ≡ true
low_register q r n b e f = ap (λ r. nat_lt r n) (sym (same q r e)) ∙ and_true_left (nat_lt q n) b f
  where
    same : (q r : ℕ) → Register q ≡ Register r → q ≡ r
    same q r e = cc

pub no_head : {P : Type 0} (o : Option RecordHead) (r : ℕ) → o ≡ None → o ≡ Some (Register r) → P
no_head o r e f = absurd (let z : None ≡ Some (Register r) = sym e ∙ f in cc)
