-- What an operation gives on values, by what it gives on numbers and texts.
use Rattle.std.proofs.Common.{◌≡◌, ◌<◌, ℕ, List, ◌++◌, length, refl, sym, ap, ◌∙◌, subst, Ok, Err}
use Rattle.std.specs.Prelude.{ℤ, Result}
use Rattle.lp_calculus.specs.Term.{Term, atom, integer, text}
use Rattle.lp_standard.specs.Constants.{number}
use Rattle.lp_standard.specs.declared.constant.Constant.{Constant}
use Rattle.lp_standard.specs.declared.constant.Constant.TheVariants as fixed
use Rattle.lp_term.specs.Node.{TermBelow}
use Rattle.lp_term.specs.Nodes.{Nodes, node_tree, tree}
use Rattle.lp_term.specs.Shapes.{term_shape}
use Rattle.lp_term.specs.declared.node.TermId.{TermId}
use Rattle.lp_term.specs.declared.node.TermNode.{TermNode}
use Rattle.lp_model.specs.Values as model
use Rattle.lp_model.specs.Values.{Bytes, Faults, Is, Number, binary, term_of, unary}
use Rattle.lp_model.specs.declared.ending.Fault.{Fault}
use Rattle.lp_model.specs.declared.ending.Fault.TheVariants.{NotClosed}
use Rattle.lp_pattern.proofs.Names.{kind, kind_of, node_kind}
use Rattle.lp_plain.specs.declared.arithmetic.Outcome.{Outcome}
use Rattle.lp_plain.specs.declared.arithmetic.Outcome.TheVariants as code
use Rattle.lp_plain.specs.declared.arithmetic.Value.{Value}
use Rattle.lp_plain.specs.declared.arithmetic.Value.TheVariants as kept
use Rattle.lp_plain.specs.Assigned.{IsNumberOr}
use Rattle.lp_plain.specs.Evaluated.{GivesNumber, GivesValue, IsValueIn}

-- a number, read again from its bits, and a fault
pub number_given : (r : Result ℤ Fault) (v w : ℤ) → r ≡ Ok v → w ≡ v → (b : Nodes) (o : model.Outcome) → GivesNumber r o → GivesValue b (code.Is (kept.Number w)) o
number_given r v w e q b o h = (Number w, subst (λ x. GivesNumber x o) e h ∙ ap (λ x. Is (Number x)) (sym q), refl)

pub fault_given : (r : Result ℤ Fault) (f : Fault) → r ≡ Err f → (b : Nodes) (o : model.Outcome) → GivesNumber r o → GivesValue b (code.Faults f) o
fault_given r f e b o h = subst (λ x. GivesNumber x o) e h

-- two numbers
pub two_numbers : (d : Nodes) (c : ℕ) (o : Outcome) (r : Result ℤ Fault) (p q v w : ℤ) → v ≡ p → w ≡ q → ((b : Nodes) (x : model.Outcome) → GivesNumber r x → GivesValue b o x) → GivesNumber r (binary c (Number v) (Number w)) →
    (right : Value) → right ≡ kept.Number q → (y : model.Value) → IsValueIn d right y → GivesValue d o (binary c (Number p) y)
two_numbers d c o r p q v w ep eq f g right e y i =
    let ey : y ≡ Number q = subst (λ u. IsValueIn d u y) e i in
    subst (λ u. GivesValue d o (binary c (Number p) u)) (sym ey)
    (f d (binary c (Number p) (Number q)) (subst (λ u. GivesNumber r (binary c (Number u) (Number q))) ep (subst (λ u. GivesNumber r (binary c (Number v) (Number u))) eq g)))

pub number_text : (d : Nodes) (c : ℕ) (p : ℤ) (t : TermId) (right : Value) → right ≡ kept.Text t → (y : model.Value) → IsValueIn d right y → binary c (Number p) y ≡ Faults NotClosed
number_text d c p t right e y i = let ey = subst (λ u. IsValueIn d u y) e i in ap (binary c (Number p)) ey.1

pub text_number : (d : Nodes) (c : ℕ) (s : List ℕ) (q : ℤ) (right : Value) → right ≡ kept.Number q → (y : model.Value) → IsValueIn d right y → binary c (Bytes s) y ≡ Faults NotClosed
text_number d c s q right e y i = let ey : y ≡ Number q = subst (λ u. IsValueIn d u y) e i in ap (binary c (Bytes s)) ey

pub two_texts : (b d : Nodes) (c : ℕ) (o : Outcome) (s : List ℕ) (t : TermId) (right : Value) → right ≡ kept.Text t → ((q : List ℕ) → tree b t.0 ≡ atom (text q) → GivesValue d o (binary c (Bytes s) (Bytes q))) → (y : model.Value) → IsValueIn b right y → GivesValue d o (binary c (Bytes s) y)
two_texts b d c o s t right e g y i = let ey = subst (λ u. IsValueIn b u y) e i in subst (λ u. GivesValue d o (binary c (Bytes s) u)) (sym ey.1) (g ey.0 ey.2)

-- a value in front
pub number_first : (b d : Nodes) (c : ℕ) (o : Outcome) (p v : ℤ) → v ≡ p → (left : Value) → left ≡ kept.Number p → (x y : model.Value) → IsValueIn b left x → GivesValue d o (binary c (Number v) y) → GivesValue d o (binary c x y)
number_first b d c o p v q left e x y i g =
    let ex : x ≡ Number p = subst (λ u. IsValueIn b u x) e i in
    subst (λ u. GivesValue d o (binary c u y)) (sym ex) (subst (λ u. GivesValue d o (binary c (Number u) y)) q g)

pub text_first : (b d : Nodes) (c : ℕ) (o : Outcome) (t : TermId) (left : Value) → left ≡ kept.Text t → (x y : model.Value) → IsValueIn b left x → ((s : List ℕ) → tree b t.0 ≡ atom (text s) → GivesValue d o (binary c (Bytes s) y)) → GivesValue d o (binary c x y)
text_first b d c o t left e x y i g = let ex = subst (λ u. IsValueIn b u x) e i in subst (λ u. GivesValue d o (binary c u y)) (sym ex.1) (g ex.0 ex.2)

-- one value
pub one_number : (b : Nodes) (c : ℕ) (o : Outcome) (r : Result ℤ Fault) (p v : ℤ) → v ≡ p → ((b : Nodes) (x : model.Outcome) → GivesNumber r x → GivesValue b o x) → GivesNumber r (unary c (Number v)) → (value : Value) → value ≡ kept.Number p →
    (x : model.Value) → IsValueIn b value x → GivesValue b o (unary c x)
one_number b c o r p v q f g value e x i =
    let ex : x ≡ Number p = subst (λ u. IsValueIn b u x) e i in
    subst (λ u. GivesValue b o (unary c u)) (sym ex) (f b (unary c (Number p)) (subst (λ u. GivesNumber r (unary c (Number u))) q g))

pub one_text : (b : Nodes) (c : ℕ) (o : Outcome) (t : TermId) (value : Value) → value ≡ kept.Text t → ((s : List ℕ) → tree b t.0 ≡ atom (text s) → GivesValue b o (unary c (Bytes s))) → (x : model.Value) → IsValueIn b value x → GivesValue b o (unary c x)
one_text b c o t value e g x i = let ex = subst (λ u. IsValueIn b u x) e i in subst (λ u. GivesValue b o (unary c u)) (sym ex.1) (g ex.0 ex.2)

-- a text is its bytes
pub same_text : (s t : List ℕ) (u : Term) → atom (text s) ≡ u → u ≡ atom (text t) → t ≡ s
same_text s t u e q = let z : atom (text s) ≡ atom (text t) = e ∙ q in cc

-- two texts joined
pub texts_joined : (d : Nodes) (c : Constant) (id : TermId) (s t : List ℕ) → c ≡ fixed.Concatenate → tree d id.0 ≡ atom (text (s ++ t)) → id.0 < length d.terms → GivesValue d (code.Is (kept.Text id)) (binary (number c) (Bytes s) (Bytes t))
texts_joined d c id s t e q l = (Bytes (s ++ t), ap (λ k. binary (number k) (Bytes s) (Bytes t)) e, (s ++ t, refl, q, l))

-- no text
pub no_text_there : (b : Nodes) (n m : ℕ) (x : TermNode) (u : Term) (s : List ℕ) → TermBelow n m (term_shape x) → node_tree b (term_shape x) ≡ u → (node_kind x ≡ 3 → ⊥) → u ≡ atom (text s) → ⊥
no_text_there b n m x u s l e f q = f (sym (kind_of b n m x l) ∙ ap kind (e ∙ q))

-- the term of a value
pub number_term : (b d : Nodes) (id : TermId) (p v : ℤ) → v ≡ p → (value : Value) → value ≡ kept.Number p → tree d id.0 ≡ atom (integer v) → (m : model.Value) → IsValueIn b value m → tree d id.0 ≡ term_of m
number_term b d id p v q value e h m i =
    let em : m ≡ Number p = subst (λ u. IsValueIn b u m) e i in
    h ∙ ap (λ x. atom (integer x)) q ∙ ap term_of (sym em)

pub text_term : (b : Nodes) (t : TermId) (value : Value) → value ≡ kept.Text t → (m : model.Value) → IsValueIn b value m → (tree b t.0 ≡ term_of m) × (t.0 < length b.terms)
text_term b t value e m i = let w = subst (λ u. IsValueIn b u m) e i in (w.2 ∙ ap term_of (sym w.1), w.3)

-- the number of a value
pub number_told : (value : Value) (p w : ℤ) → w ≡ p → value ≡ kept.Number p → IsNumberOr (code.Is value) (Ok w)
number_told value p w q e = subst (λ v. IsNumberOr (code.Is v) (Ok w)) (sym e) (ap Ok q)
