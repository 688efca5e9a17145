-- The steps of an evaluation.
use Rattle.std.proofs.Common.{◌≡◌, ℕ, suc, ◌+◌, ◌<◌, ◌≤◌, List, [], ◌∷◌, ◌++◌, length, reverse, refl, sym, ap, ◌∙◌, subst, arith, true, Option, Some, None}
use Rattle.lp_lemmas.proofs.Lists.{reverse_pushed}
use Rattle.lp_calculus.specs.Normal.{eta_normal, nodes}
use Rattle.lp_calculus.specs.Types.{Ty}
use Rattle.lp_calculus.specs.Term.{Term, index, atom, abs, app, constant, integer, text}
use Rattle.lp_standard.specs.Constants.{number}
use Rattle.lp_standard.specs.declared.constant.Constant.{Constant}
use Rattle.lp_term.specs.Nodes.{Extends, Nodes, tree}
use Rattle.lp_term.specs.declared.node.TermId.{TermId}
use Rattle.lp_model.specs.Eigens.{beta_normal}
use Rattle.lp_model.specs.Pair.{Closing, closed}
use Rattle.lp_model.specs.Values as model
use Rattle.lp_model.specs.Values.{Bytes, Faults, Is, Number, binary, both, single, unary}
use Rattle.lp_model.specs.declared.ending.Fault.TheVariants.{NotClosed}
use Rattle.lp_pattern.specs.Seen.{IsEnded}
use Rattle.lp_pattern.specs.Turning.{IsOpenReading}
use Rattle.lp_pattern.proofs.BetaForms.{beta_behind, leaf_form}
use Rattle.lp_pattern.proofs.Walking.{open_kept}
use Rattle.lp_plain.specs.declared.arithmetic.Expression.{Expression}
use Rattle.lp_plain.specs.declared.arithmetic.Expression.TheVariants as expression
use Rattle.lp_plain.specs.declared.arithmetic.Outcome.{Outcome}
use Rattle.lp_plain.specs.declared.arithmetic.Outcome.TheVariants as code
use Rattle.lp_plain.specs.declared.arithmetic.Step.{Step}
use Rattle.lp_plain.specs.declared.arithmetic.Step.TheVariants as step
use Rattle.lp_plain.specs.declared.arithmetic.Task.{Task}
use Rattle.lp_plain.specs.declared.arithmetic.Task.TheVariants as task
use Rattle.lp_plain.specs.declared.arithmetic.Value.{Value}
use Rattle.lp_plain.specs.declared.arithmetic.Value.TheVariants as kept
use Rattle.lp_plain.specs.declared.machine.Machine.{Machine}
use Rattle.lp_plain.specs.Evaluated.{EvaluatesTo, GivesValue, IsNoFunction, IsValueIn}
use Rattle.lp_plain.specs.HeadLooks.{LooksAt, OnlyBank}
use Rattle.lp_plain.specs.inner.Evaluating.{After, AreValuesIn, Comes, GoesFrom, IsCounted, IsEnd, IsExpression, IsKept, IsLast, IsOnWay, IsPut, IsStep, IsStepOn, StandsExpression, TakesTask}
use Rattle.lp_plain.proofs.NormalValues.{HasOperand, HasOperands, one_operand, other_value, two_operands, weak_long}

some_nodes : (t : Term) → 1 ≤ nodes t
some_nodes (index i) = omega arith
some_nodes (atom a) = omega arith
some_nodes (abs b) = let l = some_nodes b in omega (arith, l)
some_nodes (app t u) = let l = some_nodes t in omega (arith, l)

-- in a bank that has grown
pub value_later : (b d : Nodes) → Extends b d → (v : Value) (m : model.Value) → IsValueIn b v m → IsValueIn d v m
value_later b d x (kept.Number z) m h = h
value_later b d x (kept.Text t) m h = let l = h.3 in let k = x.more_terms in (h.0, h.1, x.same_terms t.0 l ∙ h.2, omega (arith, l, k))

pub values_later : (b d : Nodes) → Extends b d → (vs : List Value) (ms : List model.Value) → AreValuesIn b vs ms → AreValuesIn d vs ms
values_later b d x [] [] h = tt
values_later b d x [] (m ∷ ms) h = absurd h
values_later b d x (v ∷ vs) [] h = absurd h
values_later b d x (v ∷ vs) (m ∷ ms) h = (value_later b d x v m h.0, values_later b d x vs ms h.1)

module _ (b d : Nodes) (x : Extends b d) (z : Closing) (n : ℕ) where
  after_value : (o r : model.Outcome) (F G : model.Value → Type 0) → ((m : model.Value) → F m → G m) →
      (elim o as (λ o. Type 0) [ Is m ↦ F m | Faults f ↦ r ≡ Faults f ]) → (elim o as (λ o. Type 0) [ Is m ↦ G m | Faults f ↦ r ≡ Faults f ])
  after_value (Is m) r F G g h = g m h
  after_value (Faults f) r F G g h = h

  pub comes_later : (ts : List Task) (ms : List model.Value) (r : model.Outcome) (k : ℕ) → Comes b z n ts ms r k → Comes d z n ts ms r k
  comes_later [] ms r k h = h
  comes_later (task.Visit t ∷ ts) ms r k h =
      let l = h.2 in
      let w = x.more_terms in (
        h.0,
        h.1,
        omega (arith, l, w),
        subst (λ y. beta_normal n (closed z y) ≡ Some h.0) (sym (x.same_terms t.0 l)) h.3,
        h.4,
        h.5,
        after_value (model.value (eta_normal h.0)) r (λ m. Comes b z n ts (m ∷ ms) r h.1) (λ m. Comes d z n ts (m ∷ ms) r h.1) (λ m. comes_later ts (m ∷ ms) r h.1) h.6,
      )
  comes_later (task.Two c ∷ ts) [] r k h = absurd h
  comes_later (task.Two c ∷ ts) (y ∷ []) r k h = absurd h
  comes_later (task.Two c ∷ ts) (y ∷ w ∷ ms) r k h = after_value (binary (number c) w y) r (λ m. Comes b z n ts (m ∷ ms) r k) (λ m. Comes d z n ts (m ∷ ms) r k) (λ m. comes_later ts (m ∷ ms) r k) h
  comes_later (task.One c ∷ ts) [] r k h = absurd h
  comes_later (task.One c ∷ ts) (w ∷ ms) r k h = after_value (unary (number c) w) r (λ m. Comes b z n ts (m ∷ ms) r k) (λ m. Comes d z n ts (m ∷ ms) r k) (λ m. comes_later ts (m ∷ ms) r k) h

-- a look at a part
module _ (m q : Machine) (ob : OnlyBank m q) (t u : TermId) (looks : LooksAt m q t (Some u)) (z : Closing)
    (y : IsOpenReading m.bank m.bindings m.branch.next z) (n : ℕ) (ts : List Task) (vs : List Value) (ms : List model.Value) (r : model.Outcome)
    (k : ℕ)
    (av : AreValuesIn m.bank vs ms) (h : Comes m.bank z n (task.Visit t ∷ ts) ms r k) where
  abbrev form : Term
  form = h.0

  abbrev x : Term
  x = tree q.bank u.0

  formed : beta_normal n (closed z x) ≡ Some form
  formed = let w = looks.2 z y.reading in beta_behind w.0 n (closed z (tree m.bank t.0)) (closed z x) w.2 form h.3

  -- the value is there
  leaf_taken : (v : Value) (w : model.Value) → model.value (eta_normal form) ≡ Is w → nodes form ≡ 1 → IsValueIn q.bank v w → After q.bank z n 1 None ts (v ∷ vs) r k
  leaf_taken v w e c i =
      let l = h.5 in (
        w ∷ ms,
        h.1,
        (i, values_later m.bank q.bank ob.bank vs ms av),
        omega (arith, l, c),
        comes_later m.bank q.bank ob.bank z n ts (w ∷ ms) r h.1 (subst (λ o. elim o as (λ o. Type 0) [ Is m' ↦ Comes m.bank z n ts (m' ∷ ms) r h.1 | Faults f ↦ r ≡ Faults f ]) e h.6),
      )

  number_taken : (i : _) → x ≡ atom (integer i) → After q.bank z n 1 None ts (kept.Number i ∷ vs) r k
  number_taken i e =
      let s : form ≡ atom (integer i) = leaf_form n (atom (integer i)) form tt (subst (λ w. beta_normal n (closed z w) ≡ Some form) e formed) in
      leaf_taken (kept.Number i) (Number i) (ap (λ w. model.value (eta_normal w)) s) (ap nodes s) refl

  text_taken : (s : List ℕ) (v : TermId) → x ≡ atom (text s) → tree q.bank v.0 ≡ x → v.0 < length q.bank.terms → After q.bank z n 1 None ts (kept.Text v ∷ vs) r k
  text_taken s v e i l =
      let w : form ≡ atom (text s) = leaf_form n (atom (text s)) form tt (subst (λ w. beta_normal n (closed z w) ≡ Some form) e formed) in
      leaf_taken (kept.Text v) (Bytes s) (ap (λ w. model.value (eta_normal w)) w) (ap nodes w) (s, refl, i ∙ e, l)

  -- what comes behind it, in the bank of then
  behind : elim (model.value (eta_normal form)) as (λ o. Type 0) [ Is w ↦ Comes q.bank z n ts (w ∷ ms) r h.1 | Faults f ↦ r ≡ Faults f ]
  behind = after_value m.bank q.bank ob.bank z n (model.value (eta_normal form)) r (λ w. Comes m.bank z n ts (w ∷ ms) r h.1)
      (λ w. Comes q.bank z n ts (w ∷ ms) r h.1) (λ w. comes_later m.bank q.bank ob.bank z n ts (w ∷ ms) r h.1) h.6

  -- the operands first
  module _ (c : Constant) (a b : TermId) (ss : List Ty) (e : x ≡ app (app (atom (constant (number c) ss)) (tree q.bank a.0)) (tree q.bank b.0))
      (two : model.is_two_place (number c) ≡ true) (la : a.0 < length q.bank.terms) (lb : b.0 < length q.bank.terms) where
    operands : HasOperands n (number c) (closed z (tree q.bank a.0)) (closed z (tree q.bank b.0)) form
    operands = two_operands n (number c) _ (closed z (tree q.bank a.0)) (closed z (tree q.bank b.0)) form two (subst (λ w. beta_normal n (closed z w) ≡ Some form) e formed)

    by_right : (left : model.Value) (o : model.Outcome) → (elim (both (number c) (Is left) o) as (λ o. Type 0) [ Is w ↦ Comes q.bank z n ts (w ∷ ms) r h.1 | Faults f ↦ r ≡ Faults f ]) →
        (elim o as (λ o. Type 0) [ Is right ↦ Comes q.bank z n (task.Two c ∷ ts) (right ∷ left ∷ ms) r h.1 | Faults f ↦ r ≡ Faults f ])
    by_right left (Is right) w = w
    by_right left (Faults f) w = w

    by_left : (o : model.Outcome) → (elim (both (number c) o (model.value (eta_normal operands.right))) as (λ o. Type 0) [ Is w ↦ Comes q.bank z n ts (w ∷ ms) r h.1 | Faults f ↦ r ≡ Faults f ]) →
        (elim o as (λ o. Type 0) [ Is left ↦ Comes q.bank z n (task.Visit b ∷ task.Two c ∷ ts) (left ∷ ms) r (nodes operands.right + h.1) | Faults f ↦ r ≡ Faults f ])
    by_left (Is left) w = (operands.right, h.1, lb, operands.right_form, (operands.functions h.4).1, omega arith, by_right left (model.value (eta_normal operands.right)) w)
    by_left (Faults f) w = w

    two_taken : After q.bank z n 1 None (task.Visit a ∷ task.Visit b ∷ task.Two c ∷ ts) vs r k
    two_taken =
        let l = h.5 in
        let p = operands.parts in (
          ms,
          nodes operands.left + (nodes operands.right + h.1),
          values_later m.bank q.bank ob.bank vs ms av,
          omega (arith, l, p),
          (
            operands.left,
            nodes operands.right + h.1,
            la,
            operands.left_form,
            (operands.functions h.4).0,
            omega arith,
            by_left (model.value (eta_normal operands.left)) (subst (λ o. elim o as (λ o. Type 0) [ Is w ↦ Comes q.bank z n ts (w ∷ ms) r h.1 | Faults f ↦ r ≡ Faults f ]) operands.is behind),
          ),
        )

  module _ (c : Constant) (a : TermId) (ss : List Ty) (e : x ≡ app (atom (constant (number c) ss)) (tree q.bank a.0))
      (one : model.is_one_place (number c) ≡ true) (la : a.0 < length q.bank.terms) where
    operand : HasOperand n (number c) (closed z (tree q.bank a.0)) form
    operand = one_operand n (number c) _ (closed z (tree q.bank a.0)) form one (subst (λ w. beta_normal n (closed z w) ≡ Some form) e formed)

    by_operand : (o : model.Outcome) → (elim (single (number c) o) as (λ o. Type 0) [ Is w ↦ Comes q.bank z n ts (w ∷ ms) r h.1 | Faults f ↦ r ≡ Faults f ]) →
        (elim o as (λ o. Type 0) [ Is w ↦ Comes q.bank z n (task.One c ∷ ts) (w ∷ ms) r h.1 | Faults f ↦ r ≡ Faults f ])
    by_operand (Is w) i = i
    by_operand (Faults f) i = i

    one_taken : After q.bank z n 1 None (task.Visit a ∷ task.One c ∷ ts) vs r k
    one_taken =
        let l = h.5 in
        let p = operand.parts in (
          ms,
          nodes operand.operand + h.1,
          values_later m.bank q.bank ob.bank vs ms av,
          omega (arith, l, p),
          (
            operand.operand,
            h.1,
            la,
            operand.form,
            operand.functions h.4,
            omega arith,
            by_operand (model.value (eta_normal operand.operand)) (subst (λ o. elim o as (λ o. Type 0) [ Is w ↦ Comes q.bank z n ts (w ∷ ms) r h.1 | Faults f ↦ r ≡ Faults f ]) operand.is behind),
          ),
        )

  -- no expression
  other_taken : IsExpression q.bank expression.Other x → r ≡ Faults NotClosed
  other_taken i =
      let q' = ob.same in
      let v = other_value m.bank m.bindings z y.reading i.0 i.1 i.3 i.4 (subst (IsEnded m.bindings) i.2 looks.1) n form (subst (λ w. beta_normal n (closed z w) ≡ Some form) i.2 formed) h.4 in
      subst (λ o. elim o as (λ o. Type 0) [ Is w ↦ Comes q.bank z n ts (w ∷ ms) r h.1 | Faults f ↦ r ≡ Faults f ]) v behind

-- a look at a part, and what is put of it
module _ (m q : Machine) (ob : OnlyBank m q) (t u : TermId) (looks : LooksAt m q t (Some u)) where
  pub visit_taken : (e : Expression) → IsExpression q.bank e (tree q.bank u.0) → (u.0 < length q.bank.terms → StandsExpression (length q.bank.terms)
      e) → (o : Option Outcome) (ts us : List Task) (vs ws : List Value) → IsPut e o ts us vs ws →
      TakesTask m q o (task.Visit t) ts us vs ws
  visit_taken (expression.Leaf (kept.Number i)) is st o ts us vs ws put z y n ms r k av h =
      subst (λ o. After q.bank z n 1 o (reverse us) (reverse ws) r k) (sym put.0)
      (subst (λ l. After q.bank z n 1 None l (reverse ws) r k) (sym (ap reverse put.1))
      (subst (λ l. After q.bank z n 1 None (reverse ts) l r k) (sym (reverse_pushed ws vs (kept.Number i) put.2))
      (number_taken m q ob t u looks z y n (reverse ts) (reverse vs) ms r k av h i is)))
  visit_taken (expression.Leaf (kept.Text v)) is st o ts us vs ws put z y n ms r k av h =
      subst (λ o. After q.bank z n 1 o (reverse us) (reverse ws) r k) (sym put.0)
      (subst (λ l. After q.bank z n 1 None l (reverse ws) r k) (sym (ap reverse put.1))
      (subst (λ l. After q.bank z n 1 None (reverse ts) l r k) (sym (reverse_pushed ws vs (kept.Text v) put.2))
      (text_taken m q ob t u looks z y n (reverse ts) (reverse vs) ms r k av h is.0 v is.1 is.2 (st (looks.0 h.2)))))
  visit_taken (expression.Two c a b) is st o ts us vs ws put z y n ms r k av h =
      let s = st (looks.0 h.2) in
      subst (λ o. After q.bank z n 1 o (reverse us) (reverse ws) r k) (sym put.0)
      (subst (λ l. After q.bank z n 1 None (reverse us) l r k) (sym (ap reverse put.2))
      (subst (λ l. After q.bank z n 1 None l (reverse vs) r k)
      (sym (reverse_pushed us ((ts ++ task.Two c ∷ []) ++ task.Visit b ∷ []) (task.Visit a) put.1 ∙
      ap (λ l. task.Visit a ∷ l) (reverse_pushed ((ts ++ task.Two c ∷ []) ++ task.Visit b ∷ []) (ts ++ task.Two c ∷ []) (task.Visit b) refl ∙
      ap (λ l. task.Visit b ∷ l) (reverse_pushed (ts ++ task.Two c ∷ []) ts (task.Two c) refl))))
      (two_taken m q ob t u looks z y n (reverse ts) (reverse vs) ms r k av h c a b is.0 is.1 is.2 s.0 s.1)))
  visit_taken (expression.One c a) is st o ts us vs ws put z y n ms r k av h =
      subst (λ o. After q.bank z n 1 o (reverse us) (reverse ws) r k) (sym put.0)
      (subst (λ l. After q.bank z n 1 None (reverse us) l r k) (sym (ap reverse put.2))
      (subst (λ l. After q.bank z n 1 None l (reverse vs) r k)
      (sym (reverse_pushed us (ts ++ task.One c ∷ []) (task.Visit a) put.1 ∙ ap (λ l. task.Visit a ∷ l) (reverse_pushed (ts ++ task.One c ∷ []) ts (task.One c) refl)))
      (one_taken m q ob t u looks z y n (reverse ts) (reverse vs) ms r k av h c a is.0 is.1 is.2 (st (looks.0 h.2)))))
  visit_taken expression.Other is st o ts us vs ws put z y n ms r k av h =
      subst (λ o. After q.bank z n 1 o (reverse us) (reverse ws) r k) (sym put) (other_taken m q ob t u looks z y n (reverse ts) (reverse vs) ms r k av h is)

-- a look that is too deep
pub deep_taken : (m q : Machine) (t : TermId) → LooksAt m q t None → (ts us : List Task) (vs ws : List Value) → TakesTask m q (Some code.Deep) (task.Visit t) ts us vs ws
deep_taken m q t looks ts us vs ws z y n ms r k av h l =
    let e : None ≡ Some h.0 = sym (weak_long n (suc 1000000) (closed z (tree m.bank t.0)) (omega (arith, l)) (looks z y.reading)) ∙ h.3 in cc

-- an operation on two values, the right one on top
module _ (m q : Machine) (ob : OnlyBank m q) (c : Constant) (o : Outcome) (end : Option Outcome) (ts : List Task) where
  value_taken : (w : model.Outcome) → GivesValue q.bank o w → (z : Closing) (n : ℕ) (us : List Task) (ys ws : List Value) (ms : List model.Value)
      (r : model.Outcome) (k : ℕ) → AreValuesIn m.bank (reverse ys) ms → IsKept o end ys ws →
      (elim w as (λ o. Type 0) [ Is v ↦ Comes m.bank z n us (v ∷ ms) r k | Faults f ↦ r ≡ Faults f ]) → After q.bank z n 0 end us (reverse ws) r k
  value_taken w g z n us ys ws ms r k av kp h = go o g kp
    where
      go : (o : Outcome) → GivesValue q.bank o w → IsKept o end ys ws → After q.bank z n 0 end us (reverse ws) r k
      go (code.Is v) g kp =
          subst (λ e. After q.bank z n 0 e us (reverse ws) r k) (sym kp.0)
          (subst (λ l. After q.bank z n 0 None us l r k) (sym (reverse_pushed ws ys v kp.1)) (
            g.0 ∷ ms,
            k,
            (g.2, values_later m.bank q.bank ob.bank (reverse ys) ms av),
            omega arith,
            comes_later m.bank q.bank ob.bank z n us (g.0 ∷ ms) r k (subst (λ o. elim o as (λ o. Type 0) [ Is v ↦ Comes m.bank z n us (v ∷ ms) r k | Faults f ↦ r ≡ Faults f ]) g.1 h),
          ))
      go (code.Faults f) g kp =
          subst (λ e. After q.bank z n 0 e us (reverse ws) r k) (sym kp) (subst (λ o. elim o as (λ o. Type 0) [ Is v ↦ Comes m.bank z n us (v ∷ ms) r k | Faults f ↦ r ≡ Faults f ]) g h)
      go code.Deep g kp = absurd g

  pub two_done : (left right : Value) (xs ys vs ws : List Value) → vs ≡ xs ++ right ∷ [] → xs ≡ ys ++ left ∷ [] →
      ((x y : model.Value) → IsValueIn m.bank left x → IsValueIn m.bank right y → GivesValue q.bank o (binary (number c) x y)) →
      IsKept o end ys ws → TakesTask m q end (task.Two c) ts ts vs ws
  two_done left right xs ys vs ws e f g kp z y n ms r k av h =
      go ms (subst (λ l. AreValuesIn m.bank l ms) (reverse_pushed vs xs right e ∙ ap (λ l. right ∷ l) (reverse_pushed xs ys left f)) av) h
    where
      go : (ms : List model.Value) → AreValuesIn m.bank (right ∷ left ∷ reverse ys) ms → Comes m.bank z n (task.Two c ∷ reverse ts) ms r k → After q.bank z n 0 end (reverse ts) (reverse ws) r k
      go [] av h = absurd h
      go (b ∷ []) av h = absurd h
      go (b ∷ a ∷ ms) av h = value_taken (binary (number c) a b) (g a b av.1.0 av.0) z n (reverse ts) ys ws ms r k av.1.1 kp h

  pub one_done : (value : Value) (ys vs ws : List Value) → vs ≡ ys ++ value ∷ [] → ((x : model.Value) → IsValueIn m.bank value x → GivesValue q.bank o
      (unary (number c) x)) → IsKept o end ys ws → TakesTask m q end (task.One c) ts ts vs ws
  one_done value ys vs ws e g kp z y n ms r k av h = go ms (subst (λ l. AreValuesIn m.bank l ms) (reverse_pushed vs ys value e) av) h
    where
      go : (ms : List model.Value) → AreValuesIn m.bank (value ∷ reverse ys) ms → Comes m.bank z n (task.One c ∷ reverse ts) ms r k → After q.bank z n 0 end (reverse ts) (reverse ws) r k
      go [] av h = absurd h
      go (a ∷ ms) av h = value_taken (unary (number c) a) (g a av.0) z n (reverse ts) ys ws ms r k av.1 kp h

-- the reading of before
pub reading_later : (m q : Machine) → OnlyBank m q → (z : Closing) → IsOpenReading m.bank m.bindings m.branch.next z → IsOpenReading q.bank q.bindings q.branch.next z
reading_later m q b z y =
    subst (λ x. IsOpenReading q.bank q.bindings x z) (sym (ap (λ x. x.branch.next) b.same))
    (subst (λ x. IsOpenReading q.bank x m.branch.next z) (sym (ap (λ x. x.bindings) b.same)) (open_kept m.bank q.bank m.bindings m.branch.next z b.bank y))

-- the term itself
root_value : (b : Nodes) (z : Closing) (n : ℕ) (o : model.Outcome) → elim o as (λ x. Type 0) [ Is m ↦ Comes b z n [] (m ∷ []) o 0 | Faults f ↦ o ≡ Faults f ]
root_value b z n (Is m) = (m, refl, refl)
root_value b z n (Faults f) = refl

pub on_way : (m : Machine) (t : TermId) (ts : List Task) (vs : List Value) → ts ≡ task.Visit t ∷ [] → vs ≡ [] → IsOnWay m m t ts vs 0
on_way m t ts vs et ev l z y n s e f = (
  [],
  nodes s,
  subst (λ x. AreValuesIn m.bank (reverse x) []) (sym ev) tt,
  omega arith,
  subst (λ x. Comes m.bank z n (reverse x) [] (model.value (eta_normal s)) (nodes s)) (sym et) (s, 0, l, e, f, omega arith, root_value m.bank z n (model.value (eta_normal s))),
)

module _ (m q : Machine) (ob : OnlyBank m q) (t : TermId) (all ts : List Task) (vs : List Value) (i : ℕ) (x : Task) (top : all ≡ ts ++ x ∷ []) (way : IsOnWay m q t all vs i) where
  -- a task more was taken
  pub way_on : (r : Machine) (us : List Task) (ws : List Value) (k : ℕ) → IsCounted x i (Some k) → TakesTask q r None x ts us vs ws → IsOnWay m r t us ws k
  way_on r us ws k c g l z y n s e f =
      let w = way l z y n s e f in
      let a = g z (reading_later m q ob z y) n w.0 (model.value (eta_normal s)) w.1 w.2 (subst (λ l. Comes q.bank z n l w.0 (model.value (eta_normal s)) w.1) (reverse_pushed all ts x top) w.4) in
      let p = w.3 in
      let o = a.3 in
      let e = c.0 in
      (a.0, a.1, a.2, omega (arith, e, p, o), a.4)

  -- the evaluation ends
  pub way_ends : (r : Machine) (us : List Task) (ws : List Value) (o : Outcome) → TakesTask q r (Some o) x ts us vs ws → t.0 < length m.bank.terms →
      (z : Closing) → IsOpenReading m.bank m.bindings m.branch.next z → EvaluatesTo r.bank o (closed z (tree m.bank t.0))
  way_ends r us ws o g l z y = go o g
    where
      at : (o : Outcome) → TakesTask q r (Some o) x ts us vs ws → (n : ℕ) (s : Term) → beta_normal n (closed z (tree m.bank t.0)) ≡ Some s → IsNoFunction s → IsEnd o (model.value (eta_normal s)) n
      at o g n s e f =
          let w = way l z y n s e f in
          g z (reading_later m q ob z y) n w.0 (model.value (eta_normal s)) w.1 w.2 (subst (λ l. Comes q.bank z n l w.0 (model.value (eta_normal s)) w.1) (reverse_pushed all ts x top) w.4)

      go : (o : Outcome) → TakesTask q r (Some o) x ts us vs ws → EvaluatesTo r.bank o (closed z (tree m.bank t.0))
      go (code.Is v) g = λ n s e f. absurd (at (code.Is v) g n s e f)
      go (code.Faults i) g = λ n s e f. at (code.Faults i) g n s e f
      go code.Deep g = λ n s e f j k. at code.Deep g n s e f j

  -- too many parts
  pub way_deep : IsCounted x i None → t.0 < length m.bank.terms → (z : Closing) → IsOpenReading m.bank m.bindings m.branch.next z → EvaluatesTo q.bank code.Deep (closed z (tree m.bank t.0))
  way_deep c l z y n s e f j k =
      let w = way l z y n s e f in
      let h = subst (λ l. Comes q.bank z n l w.0 (model.value (eta_normal s)) w.1) (reverse_pushed all ts x top) w.4 in
      by x c w.0 w.1 h w.3
    where
      by : (x : Task) → IsCounted x i None → (ms : List model.Value) (d : ℕ) → Comes q.bank z n (x ∷ reverse ts) ms (model.value (eta_normal s)) d → i + d ≤ nodes s → ⊥
      by (task.Visit u) c ms d h p =
          let a = h.5 in
          let b = some_nodes h.0 in
          let g = c.1 in
          omega (arith, a, b, g, p, k)
      by (task.Two u) c ms d h p = let g = c.0 in omega (arith, g)
      by (task.One u) c ms d h p = let g = c.0 in omega (arith, g)

-- no task is left
pub way_done : (m q : Machine) (t : TermId) (ts : List Task) (vs us : List Value) (i : ℕ) (v : Value) → ts ≡ [] → vs ≡ us ++ v ∷ [] → IsOnWay m q t ts
    vs i → t.0 < length m.bank.terms → (z : Closing) → IsOpenReading m.bank m.bindings m.branch.next z →
    EvaluatesTo q.bank (code.Is v) (closed z (tree m.bank t.0))
way_done m q t ts vs us i v et ev way l z y n s e f =
    let w = way l z y n s e f in
    let h = subst (λ x. Comes q.bank z n (reverse x) w.0 (model.value (eta_normal s)) w.1) et w.4 in
    let a = subst (λ x. AreValuesIn q.bank x w.0) (reverse_pushed vs us v ev) w.2 in
    (h.0, h.2, (subst (AreValuesIn q.bank (v ∷ reverse us)) h.1 a).0)

-- a step, by what a task came to
pub step_taken : (q r : Machine) (x : Task) (ts us : List Task) (vs ws : List Value) (i k : ℕ) (end : Option Outcome) (s : Step) → IsStep end k s →
    IsCounted x i (Some k) → TakesTask q r end x ts us vs ws → GoesFrom q r x ts us vs ws i s
step_taken q r x ts us vs ws i k None s e c g m t all top ob way = subst (λ s. IsStepOn s m r t us ws) (sym e) (way_on m q ob t all ts vs i x top way r us ws k c g)
step_taken q r x ts us vs ws i k (Some o) s e c g m t all top ob way = subst (λ s. IsStepOn s m r t us ws) (sym e) (way_ends m q ob t all ts vs i x top way r us ws o g)

pub deep_step : (q : Machine) (x : Task) (ts us : List Task) (vs ws : List Value) (i : ℕ) → IsCounted x i None → GoesFrom q q x ts us vs ws i (step.End code.Deep)
deep_step q x ts us vs ws i c m t all top ob way = way_deep m q ob t all ts vs i x top way c

pub last_step : (m q : Machine) (t : TermId) (ts us : List Task) (vs ws : List Value) (i : ℕ) (o : Outcome) → ts ≡ [] → IsLast vs o → IsOnWay m q t ts vs i → IsStepOn (step.End o) m q t us ws
last_step m q t ts us vs ws i o e l way = subst (λ o. IsStepOn (step.End o) m q t us ws) (sym l.3) (way_done m q t ts vs l.1 i l.0 e l.2 way)
