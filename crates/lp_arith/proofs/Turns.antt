-- What each turn of an evaluation makes of the whole.
use Rattle.std.proofs.Common.{◌≡◌, ℕ, suc, ◌+◌, ◌≤◌, List, [], ◌∷◌, ◌++◌, length, reverse, refl, sym, ap, ◌∙◌, subst, arith, true, if◌then◌else◌, Ok, All}
use Rattle.std.specs.Prelude.{get_or}
use Rattle.std.proofs.lemmas.List.{reverse-append}
use Rattle.lp_lemmas.proofs.Elements.{All_pushed}
use Rattle.lp_calculus.specs.Types.{Ty}
use Rattle.lp_calculus.specs.Term.{Term, atom, app, constant}
use Rattle.lp_calculus.specs.Convert.{Reduces, done}
use Rattle.lp_calculus.specs.Normal.{nodes}
use Rattle.lp_calculus.proofs.Confluent.{reduces_on}
use Rattle.lp_standard.specs.Constants.{number}
use Rattle.lp_standard.specs.Connectives.{two}
use Rattle.lp_standard.specs.declared.constant.Constant.{Constant}
use Rattle.lp_model.specs.declared.ending.Fault.{Fault}
use Rattle.lp_model.specs.declared.ending.Fault.TheVariants as fault
use Rattle.lp_model.specs.Values.{Outcome, Is, Faults, both, single, binary, unary, is_two_place, is_one_place, value, HasValue}
use Rattle.lp_model.specs.Values as model
use Rattle.lp_store.specs.declared.cell.CellId.{CellId}
use Rattle.lp_store.specs.Contents.{Contents}
use Rattle.lp_store.specs.Reading.{Reads}
use Rattle.lp_susp.specs.Kept.{Reduced}
use Rattle.lp_arith.specs.declared.value.Value.{Value}
use Rattle.lp_arith.specs.declared.value.Value.TheVariants.{Int, Text}
use Rattle.lp_arith.specs.Stands.{StandsValue, StandsAround}
use Rattle.lp_arith.specs.declared.value.ArithRefusal.{ArithRefusal}
use Rattle.lp_arith.specs.declared.value.ArithRefusal.TheVariants.{Overflow, ZeroDivisor, NotClosed, Deep, Memory}
use Rattle.lp_arith.specs.declared.expression.Expression.TheVariants as expression
use Rattle.lp_arith.specs.declared.evaluation.Around.{Around}
use Rattle.lp_arith.specs.declared.evaluation.Around.TheVariants as around
use Rattle.lp_arith.specs.declared.evaluation.State.TheVariants as state
use Rattle.lp_arith.specs.Meaning.{IsValueIn, IsFault, GivesValue, HasFault, IsRefused}
use Rattle.lp_arith.specs.inner.Frames.{Valued, of_one, of_two, IsExpression, Plugged, IsAt, weight, weights}
use Rattle.lp_arith.specs.inner.Refusals.{IsUnseen}
use Rattle.lp_arith.proofs.Trees.{value_of, has_value, one_reduces, two_reduces, tree_only}
use Rattle.lp_arith.proofs.Wholes.{plugged_kept, plugged_fault, fault_above, deep_part, full_part}

-- a frame more is the innermost one
pub reverse_pushed : (old new : List Around) (x : Around) → new ≡ old ++ x ∷ [] → reverse new ≡ x ∷ reverse old
reverse_pushed old new x e = ap reverse e ∙ reverse-append old (x ∷ [])

pub weights_pushed : (old new : List Around) (x : Around) → new ≡ old ++ x ∷ [] → weights (reverse new) ≡ weight x + weights (reverse old)
weights_pushed old new x e = ap weights (reverse_pushed old new x e)

-- frames stay in a store that grows

value_stays : (s z : Contents) (v : Value) → length s.cells ≤ length z.cells → StandsValue s v → StandsValue z v
value_stays s z (Int i) l h = tt
value_stays s z (Text t) l h = omega (arith, l, h)

around_stays : (s z : Contents) (f : Around) → length s.cells ≤ length z.cells → StandsAround s f → StandsAround z f
around_stays s z (around.One c) l h = tt
around_stays s z (around.Left c r) l h = omega (arith, l, h)
around_stays s z (around.Right c v) l h = value_stays s z v l h

pub all_stay : (s z : Contents) (fs : List Around) → length s.cells ≤ length z.cells → All (StandsAround s) fs → All (StandsAround z) fs
all_stay s z fs l a = λ k d h. around_stays s z (get_or fs k d) l (a k d h)

pub pushed_stay : (s z : Contents) (old new : List Around) (x : Around) → new ≡ old ++ x ∷ [] → length s.cells ≤ length z.cells → All (StandsAround s) old → StandsAround z x → All (StandsAround z) new
pushed_stay s z old new x e l a h = All_pushed (StandsAround z) new old x e (all_stay s z old l a) h

pub at_start : (s : Contents) (cell : CellId) (t : Term) → Reads s cell.0 t → IsAt s [] (state.Visit cell) 0 t
at_start s cell t p = record { part = t; whole = t; around = 0; inside = 0; plugged = (refl, refl); state = (p, refl); counted = refl; reduces = done t }

pub at_end : (s : Contents) (v : Value) (n : ℕ) (t : Term) → IsAt s [] (state.Known v) n t → (m : model.Value) × IsValueIn s v m × HasValue t m
at_end s v n t k = (k.state.0, k.state.1, has_value (subst (Reduces t) (sym k.plugged.0) k.reduces) k.state.2)

pub at_limit : (s : Contents) (fs : List Around) (cell : CellId) (n : ℕ) (t : Term) → n ≡ 1000000 → IsAt s fs (state.Visit cell) n t → IsRefused t Deep
at_limit s fs cell n t e k = full_part s fs k.part k.whole t k.around k.plugged k.reduces (omega (arith, e, k.counted, k.state.1))

-- a fault of the part is that of the expression
fault_of : (s : Contents) (fs : List Around) (y w t : Term) (n : ℕ) (q : Fault) → Plugged s fs y w n → Reduces t w → HasFault y q → HasFault t q
fault_of s fs y w t n q p r h = fault_above t w q r (plugged_fault s fs y w n q p h)

-- a part is looked at

module _ (s z : Contents) (fs : List Around) (cell : CellId) (n : ℕ) (t : Term) (d : Reduced s z) (k : IsAt s fs (state.Visit cell) n t) where
  pub entered_leaf : (v : Value) → ((x : Term) → Reads s cell.0 x → (y : Term) × Reduces x y × IsExpression z (expression.Leaf v) y) → IsAt z fs (state.Known v) (suc n) t
  entered_leaf v f =
      let a = f k.part k.state.0 in
      let b = plugged_kept s z fs k.part a.0 k.whole k.around d a.1 k.plugged in
      record {
        part = a.0;
        whole = b.0;
        around = k.around;
        inside = nodes a.0;
        plugged = b.1;
        state = (a.2.0, a.2.1, a.2.2, refl);
        counted = omega (arith, k.counted, k.state.1, a.2.3);
        reduces = reduces_on k.reduces b.2;
      }

  pub entered_one : (c : Constant) (i : CellId) → ((x : Term) → Reads s cell.0 x → (y : Term) × Reduces x y × IsExpression z (expression.One c i) y) → IsAt z (around.One c ∷ fs) (state.Visit i) (suc n) t
  entered_one c i f =
      let a = f k.part k.state.0 in
      let b = plugged_kept s z fs k.part a.0 k.whole k.around d a.1 k.plugged in
      record {
        part = a.2.1;
        whole = b.0;
        around = 1 + k.around;
        inside = 0;
        plugged = (a.0, 1, k.around, (a.2.0, a.2.2, a.2.4, refl), b.1, refl);
        state = (a.2.3, refl);
        counted = omega (arith, k.counted, k.state.1);
        reduces = reduces_on k.reduces b.2;
      }

  pub entered_two : (c : Constant) (i j : CellId) → ((x : Term) → Reads s cell.0 x → (y : Term) × Reduces x y × IsExpression z (expression.Two c i j) y) → IsAt z (around.Left c j ∷ fs) (state.Visit i) (suc n) t
  entered_two c i j f =
      let a = f k.part k.state.0 in
      let b = plugged_kept s z fs k.part a.0 k.whole k.around d a.1 k.plugged in
      record {
        part = a.2.1;
        whole = b.0;
        around = 1 + k.around;
        inside = 0;
        plugged = (a.0, 1, k.around, (a.2.0, a.2.2, a.2.5, a.2.3, a.2.6, refl), b.1, refl);
        state = (a.2.4, refl);
        counted = omega (arith, k.counted, k.state.1);
        reduces = reduces_on k.reduces b.2;
      }

  pub entered_other : ((x : Term) → Reads s cell.0 x → (y : Term) × Reduces x y × IsExpression z expression.Other y) → IsRefused t NotClosed
  entered_other f =
      let a = f k.part k.state.0 in
      let b = plugged_kept s z fs k.part a.0 k.whole k.around d a.1 k.plugged in
      fault_of z fs a.0 b.0 t k.around fault.NotClosed b.1 (reduces_on k.reduces b.2) a.2

  pub entered_unseen : (e : ArithRefusal) → ((x : Term) → Reads s cell.0 x → IsUnseen x e) → IsRefused t e
  entered_unseen Overflow f = absurd (f k.part k.state.0)
  entered_unseen ZeroDivisor f = absurd (f k.part k.state.0)
  entered_unseen NotClosed f = absurd (f k.part k.state.0)
  entered_unseen Deep f = deep_part s fs k.part k.whole t k.around k.plugged k.reduces (f k.part k.state.0)
  entered_unseen Memory f = tt

-- a part has its value

-- an operation on trees, where it has a fault
one_faulty : (c : ℕ) (ts : List Ty) (a : Term) (m : model.Value) (q : Fault) → is_one_place c ≡ true → Valued a m → unary c m ≡ Faults q → HasFault (app (atom (constant c ts)) a) q
one_faulty c ts a m q o p e = λ s r k.
    (let x = one_reduces r c ts a refl in
    ap value x.1 ∙ ap (λ b. if b then single c (value x.0) else Faults fault.NotClosed) o ∙ ap (λ y. single c (value y)) (tree_only p x.2) ∙ ap (single c) (value_of p) ∙ e)

two_faulty : (c : ℕ) (ts : List Ty) (a b : Term) (m n : model.Value) (q : Fault) → is_two_place c ≡ true → Valued a m → Valued b n → binary c m n ≡ Faults q → HasFault (two c ts a b) q
two_faulty c ts a b m n q o p v e = λ s r k.
    (let x = two_reduces r c ts a b refl in
    ap value x.2 ∙ ap (λ y. if y then both c (value x.0) (value x.1) else Faults fault.NotClosed) o ∙ ap (λ y. both c (value y) (value x.1)) (tree_only p x.3) ∙ ap (λ y. both c (value a) (value y)) (tree_only v x.4) ∙
    ap (λ y. both c y (value b)) (value_of p) ∙ ap (both c (Is m)) (value_of v) ∙ e)

-- what an operation is refused by
refused_by : (s : Contents) (fs : List Around) (y w t : Term) (n : ℕ) (o : Outcome) → Plugged s fs y w n → Reduces t w → ((q : Fault) → o ≡ Faults q → HasFault y q) → (e : ArithRefusal) → IsFault e o → IsRefused t e
refused_by s fs y w t n o p r h Overflow e = fault_of s fs y w t n fault.Overflow p r (h fault.Overflow e)
refused_by s fs y w t n o p r h ZeroDivisor e = fault_of s fs y w t n fault.ZeroDivisor p r (h fault.ZeroDivisor e)
refused_by s fs y w t n o p r h NotClosed e = fault_of s fs y w t n fault.NotClosed p r (h fault.NotClosed e)
refused_by s fs y w t n o p r h Deep e = absurd e
refused_by s fs y w t n o p r h Memory e = tt

module _ (s z : Contents) (fs : List Around) (c : Constant) (v : Value) (n : ℕ) (t : Term) (d : Reduced s z) (k : IsAt s (around.One c ∷ fs) (state.Known v) n t) where
  pub left_one : (u : Value) → ((m : model.Value) → IsValueIn s v m → GivesValue z (Ok u) (unary (number c) m)) → IsAt z fs (state.Known u) n t
  left_one u f =
      let p = k.plugged in
      let g = f k.state.0 k.state.1 in
      let y : Valued p.0 g.0 = subst (λ x. Valued x g.0) (sym p.3.1) (of_one (number c) p.3.0 p.3.2 k.state.2 g.1) in
      let b = plugged_kept s z fs p.0 p.0 k.whole p.2 d (done p.0) p.4 in
      let e : nodes p.0 ≡ 1 + nodes k.part = ap nodes p.3.1 in
      record {
        part = p.0;
        whole = b.0;
        around = p.2;
        inside = nodes p.0;
        plugged = b.1;
        state = (g.0, g.2, y, refl);
        counted = omega (arith, k.counted, p.5, p.3.3, k.state.3, e);
        reduces = reduces_on k.reduces b.2;
      }

  pub refused_one : (e : ArithRefusal) → ((m : model.Value) → IsValueIn s v m → IsFault e (unary (number c) m)) → IsRefused t e
  refused_one e f =
      let p = k.plugged in
      refused_by s fs p.0 k.whole t p.2 (unary (number c) k.state.0) p.4 k.reduces
      (λ q g. subst (λ x. HasFault x q) (sym p.3.1) (one_faulty (number c) p.3.0 k.part k.state.0 q p.3.2 k.state.2 g)) e (f k.state.0 k.state.1)

pub left_left : (s : Contents) (fs : List Around) (c : Constant) (i : CellId) (v : Value) (n : ℕ) (t : Term) → IsAt s (around.Left c i ∷ fs) (state.Known v) n t → IsAt s (around.Right c v ∷ fs) (state.Visit i) n t
left_left s fs c i v n t k =
    let p = k.plugged in
    record {
      part = p.3.1;
      whole = k.whole;
      around = suc (nodes k.part) + p.2;
      inside = 0;
      plugged = (p.0, suc (nodes k.part), p.2, (p.3.0, k.part, k.state.0, k.state.1, k.state.2, p.3.3, p.3.4, refl), p.4, refl);
      state = (p.3.2, refl);
      counted = omega (arith, k.counted, p.5, p.3.5, k.state.3);
      reduces = k.reduces;
    }

module _ (s z : Contents) (fs : List Around) (c : Constant) (l v : Value) (n : ℕ) (t : Term) (d : Reduced s z) (k : IsAt s (around.Right c l ∷ fs) (state.Known v) n t) where
  pub left_right : (u : Value) → ((m w : model.Value) → IsValueIn s l m → IsValueIn s v w → GivesValue z (Ok u) (binary (number c) m w)) → IsAt z fs (state.Known u) n t
  left_right u f =
      let p = k.plugged in
      let g = f p.3.2 k.state.0 p.3.3 k.state.1 in
      let y : Valued p.0 g.0 = subst (λ x. Valued x g.0) (sym p.3.5) (of_two (number c) p.3.0 p.3.6 p.3.4 k.state.2 g.1) in
      let b = plugged_kept s z fs p.0 p.0 k.whole p.2 d (done p.0) p.4 in
      let e : nodes p.0 ≡ 1 + nodes p.3.1 + nodes k.part = ap nodes p.3.5 in
      record {
        part = p.0;
        whole = b.0;
        around = p.2;
        inside = nodes p.0;
        plugged = b.1;
        state = (g.0, g.2, y, refl);
        counted = omega (arith, k.counted, p.5, p.3.7, k.state.3, e);
        reduces = reduces_on k.reduces b.2;
      }

  pub refused_right : (e : ArithRefusal) → ((m w : model.Value) → IsValueIn s l m → IsValueIn s v w → IsFault e (binary (number c) m w)) → IsRefused t e
  refused_right e f =
      let p = k.plugged in
      refused_by s fs p.0 k.whole t p.2 (binary (number c) p.3.2 k.state.0) p.4 k.reduces
      (λ q g. subst (λ x. HasFault x q) (sym p.3.5) (two_faulty (number c) p.3.0 p.3.1 k.part p.3.2 k.state.0 q p.3.6 p.3.4 k.state.2 g)) e (f p.3.2 k.state.0 p.3.3 k.state.1)
