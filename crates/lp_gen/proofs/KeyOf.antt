-- The key of a clause is that of its first argument.
use Rattle.std.proofs.Common.{◌≡◌, ◌≢◌, ◌∙◌, ℕ, ℤ, pos, negsuc, List, [], ◌∷◌, map, Bor, Vec, Global, true, None, ap, refl, sym, arith}
use Rattle.std.specs.Prelude.{int_le, ◌&&◌}
use Rattle.std.specs.Str.{bytes_eq}
use Rattle.std.proofs.lemmas.Bool.{eq-eqb, le-leb}
use Rattle.std.proofs.lemmas.Slice.Eq.{bytes_eq-Decides}
use Rattle.lp_calculus.specs.Types.{Ty}
use Rattle.lp_calculus.specs.Term.{Term, index, atom, abs, app, apply, constant, integer, text}
use Rattle.lp_calculus.specs.Spine.{head_of, arguments}
use Rattle.lp_term.specs.Nodes.{Nodes, tree, node_tree}
use Rattle.lp_term.specs.Node.{TermBelow}
use Rattle.lp_term.specs.Shapes.{term_shape}
use Rattle.lp_term.specs.Spine.{IsNoApplication, head as head_at}
use Rattle.lp_term.specs.declared.node.TypeId.{TypeId}
use Rattle.lp_term.specs.declared.node.TermNode.{TermNode}
use Rattle.lp_term.specs.declared.node.TermNode.TheVariants as node
use Rattle.lp_code.specs.declared.record.Key.{Key}
use Rattle.lp_code.specs.declared.record.Key.TheVariants as key
use Rattle.lp_code.specs.Denote.{key_is}
use Rattle.lp_gen.specs.inner.Recorded.{head_key, key_in, first_key_of}
use Rattle.lp_gen.proofs.AtomWritten.{arguments_is}

head_is : (t : Term) → head_at t ≡ head_of t
head_is (index i) = refl
head_is (atom a) = refl
head_is (abs b) = refl
head_is (app t u) = head_is t

int_same : (z : ℤ) → int_le z z ≡ true
int_same (pos n) = le-leb n n (omega arith)
int_same (negsuc n) = le-leb n n (omega arith)

bytes_same : (xs : List ℕ) → bytes_eq xs xs ≡ true
bytes_same xs = (bytes_eq-Decides xs xs).1 refl

-- the key of a head by its node

pub constant_key : (x t : Term) (c : ℕ) (Ts : List Ty) → atom (constant c Ts) ≡ t → t ≡ head_at x → key_is (key.Const c) (key_in x) ≡ true
constant_key x t c Ts e f = ap (λ u. key_is (key.Const c) (head_key u)) (sym (e ∙ f ∙ head_is x)) ∙ eq-eqb c c refl

pub integer_key : (x t : Term) (y z : ℤ) → atom (integer z) ≡ t → y ≡ z → t ≡ head_at x → key_is (key.Int y) (key_in x) ≡ true
integer_key x t y z e same f = ap (λ u. key_is (key.Int y) (head_key u)) (sym (e ∙ f ∙ head_is x)) ∙ (λ i. int_le (same i) z && int_le z (same i)) ∙ (λ i. int_same z i && int_same z i)

pub text_key : (x t : Term) (s : Vec ℕ Global) (b : List ℕ) → atom (text b) ≡ t → s.items ≡ b → t ≡ head_at x → key_is (key.Text s) (key_in x) ≡ true
text_key x t s b e same f = ap (λ u. key_is (key.Text s) (head_key u)) (sym (e ∙ f ∙ head_is x)) ∙ ap (λ l. bytes_eq l b) same ∙ bytes_same b

applied_key : (t u : Term) (ts : List Term) → head_key (apply (app t u) ts) ≡ None
applied_key t u [] = refl
applied_key t u (v ∷ vs) = applied_key (app t u) v vs

list_key : (b : Nodes) (f : ℕ) (is : List ℕ) → is ≢ [] → head_key (apply (tree b f) (map (tree b) is)) ≡ None
list_key b f [] some = absurd (some refl)
list_key b f (i ∷ is) some = applied_key (tree b f) (tree b i) (map (tree b) is)

other_node : (b : Nodes) (m k : ℕ) (n : TermNode) → ((c : ℕ) (ids : Bor (List TypeId)) → n ≡ node.Const c ids → ⊥) → ((z : _) → n ≡ node.Int z → ⊥) →
    ((s : Bor (List ℕ)) → n ≡ node.Text s → ⊥) → TermBelow m k (term_shape n) →
    head_key (node_tree b (term_shape n)) ≡ None
other_node b m k (node.Index i) x y z low = refl
other_node b m k (node.Const c ids) x y z low = absurd (x c ids refl)
other_node b m k (node.Int i) x y z low = absurd (y i refl)
other_node b m k (node.Text s) x y z low = absurd (z s refl)
other_node b m k (node.Eigen j) x y z low = refl
other_node b m k (node.Logic i l) x y z low = refl
other_node b m k (node.Param j t) x y z low = refl
other_node b m k (node.Abs body) x y z low = refl
other_node b m k (node.App f ids) x y z low = list_key b f.0 (map (λ t. t.0) ids.now) low.2

pub other_key : (b : Nodes) (m k : ℕ) (n : TermNode) (x t : Term) → ((c : ℕ) (ids : Bor (List TypeId)) → n ≡ node.Const c ids → ⊥) →
    ((z : _) → n ≡ node.Int z → ⊥) → ((s : Bor (List ℕ)) → n ≡ node.Text s → ⊥) →
    TermBelow m k (term_shape n) → node_tree b (term_shape n) ≡ t → t ≡ head_at x → key_is key.None (key_in x) ≡ true
other_key b m k n x t no_const no_int no_text low e f = ap (λ u. key_is key.None (head_key u)) (sym (e ∙ f ∙ head_is x)) ∙ ap (key_is key.None) (other_node b m k n no_const no_int no_text low)

-- the first argument of a term by its spine
pub first_none : (t h : Term) (ts : List Term) → IsNoApplication h → apply h ts ≡ t → ts ≡ [] → key_is key.None (first_key_of (arguments t)) ≡ true
first_none t h ts none e empty = ap (λ u. key_is key.None (first_key_of (arguments u))) (sym e) ∙ ap (λ l. key_is key.None (first_key_of l)) (arguments_is h ts none ∙ empty)

pub first_some : (k : Key) (t h x : Term) (ts us : List Term) → IsNoApplication h → apply h ts ≡ t → ts ≡ x ∷ us → key_is k (key_in x) ≡ true → key_is k (first_key_of (arguments t)) ≡ true
first_some k t h x ts us none e first is = ap (λ u. key_is k (first_key_of (arguments u))) (sym e) ∙ ap (λ l. key_is k (first_key_of l)) (arguments_is h ts none ∙ first) ∙ is
