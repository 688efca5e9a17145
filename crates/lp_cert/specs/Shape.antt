-- How a formula begins: a constant with types, on one or two terms.
use Rattle.std.specs.Prelude.{◌≡◌, ℕ, ℤ, [], ◌∷◌, true}
use Rattle.lp_calculus.specs.Types.{Ty}
use Rattle.lp_calculus.specs.Convert.{Converts}
use Rattle.lp_standard.specs.Connectives.{two}
use Rattle.lp_standard.specs.Numbers as number
use Rattle.lp_calculus.specs.Term.{Term, atom, app, constant}
use Rattle.lp_term.specs.Nodes.{Nodes, tree}
use Rattle.lp_term.specs.declared.node.TermId.{TermId}
use Rattle.lp_model.specs.Values.{Value, Number, HasValue, term_of, ordered}
use Rattle.lp_cert.specs.Same.{types_in}
use Rattle.lp_cert.specs.declared.shape.One.{One}
use Rattle.lp_cert.specs.declared.shape.Two.{Two}

-- the term is the constant with its types on the term
abbrev pub IsOne : Nodes → Term → One → Type 0
IsOne b t o = t ≡ app (atom (constant o.constant (types_in b o.types.now))) (tree b o.on.0)

-- the head is the constant, and this is what it stands on
abbrev pub IsOneOn : Nodes → Term → TermId → One → Type 0
IsOneOn b h on o = (h ≡ atom (constant o.constant (types_in b o.types.now))) × (o.on ≡ on)

-- the term is the constant with its types on the two terms
abbrev pub IsTwo : Nodes → Term → Two → Type 0
IsTwo b t o = t ≡ app (app (atom (constant o.constant (types_in b o.types.now))) (tree b o.left.0)) (tree b o.right.0)

-- the head is the constant, and these are what it stands on
abbrev pub IsTwoOn : Nodes → Term → (left right : TermId) → Two → Type 0
IsTwoOn b h left right o = (h ≡ atom (constant o.constant (types_in b o.types.now))) × (o.left ≡ left) × (o.right ≡ right)

-- the head is the constant on the left one, and this is the right one
abbrev pub IsTwoWith : Nodes → Term → TermId → Two → Type 0
IsTwoWith b h right o = (h ≡ app (atom (constant o.constant (types_in b o.types.now))) (tree b o.left.0)) × (o.right ≡ right)

-- an equation whose sides convert
abbrev pub IsEquation : Term → Type 0
IsEquation G = (of : Ty) × (t : Term) × (u : Term) × (G ≡ two number.Equal (of ∷ []) t u) × Converts t u

-- the term converts to the value of the expression
abbrev pub IsValued : (expression term : Term) → Type 0
IsValued e t = (v : Value) × HasValue e v × Converts t (term_of v)

-- the expressions have integer values in the order of the constant
abbrev pub AreOrdered : ℕ → (left right : Term) → Type 0
AreOrdered c e f = (a : ℤ) × (b : ℤ) × HasValue e (Number a) × HasValue f (Number b) × (ordered c a b ≡ true)
