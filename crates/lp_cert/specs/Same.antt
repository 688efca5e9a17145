-- Two terms are compared up to pairs that are left to compare.
use Rattle.std.specs.Prelude.{◌≡◌, ℕ, ◌<◌, List, length, map, All, Bool, true, false}
use Rattle.lp_calculus.specs.Types.{Ty}
use Rattle.lp_calculus.specs.Term.{Term}
use Rattle.lp_calculus.specs.Normal.{IsFormOf}
use Rattle.lp_base.specs.declared.limits.TheConstants.{RUN_LIMIT}
use Rattle.lp_term.specs.Nodes.{Nodes, tree, type_tree}
use Rattle.lp_term.specs.Opened.{IsDeepForm}
use Rattle.lp_term.specs.declared.node.TermId.{TermId}
use Rattle.lp_term.specs.declared.node.TypeId.{TypeId}
use Rattle.lp_term.specs.declared.reduce.TermRefusal.TheVariants as refusal
use Rattle.lp_type_unify.specs.declared.bindings.Pair.{Pair}
use Rattle.lp_cert.specs.Facts.{is_closed_type}
use Rattle.lp_cert.specs.declared.form.Formed.{Formed}
use Rattle.lp_cert.specs.declared.form.Formed.TheVariants as formed
use Rattle.lp_cert.specs.declared.form.Comparing.{Comparing}

-- the trees of terms, and of types
abbrev pub terms_in : Nodes → List TermId → List Term
terms_in b ids = map (λ t. tree b t.0) ids

abbrev pub types_in : Nodes → List TypeId → List Ty
types_in b ids = map (λ t. type_tree b t.0) ids

-- the terms of each pair are equal
abbrev pub AreEqual : Nodes → List (TermId × TermId) → Type 0
AreEqual b ps = All (λ p. tree b p.0.0 ≡ tree b p.1.0) ps

-- the types of each pair are equal
abbrev pub AreOne : Nodes → List Pair → Type 0
AreOne b ps = All (λ p. type_tree b p.left.0 ≡ type_tree b p.right.0) ps

-- no type of a pair has a type variable
abbrev pub AreClosedPairs : Nodes → List Pair → Type 0
AreClosedPairs b ps = All (λ p. (is_closed_type (type_tree b p.left.0) ≡ true) × (is_closed_type (type_tree b p.right.0) ≡ true)) ps

-- where what is left now is equal, what was left before is equal, and so are the two terms
abbrev pub Leads : Nodes → (old new : Comparing) → Term → Term → Type 0
Leads b old new t u = AreEqual b new.terms.items → AreOne b new.types.items → AreEqual b old.terms.items × AreOne b old.types.items × (t ≡ u)

-- where what was left before is equal, and so are the two terms, what is left now is equal; or they are not
abbrev pub Follows : Nodes → (old new : Comparing) → Term → Term → Bool → Type 0
Follows b old new t u true = AreEqual b old.terms.items → AreOne b old.types.items → t ≡ u → AreEqual b new.terms.items × AreOne b new.types.items
Follows b old new t u false = t ≡ u → ⊥

-- the same of lists of types, and of terms
abbrev pub TypesFollow : Nodes → (old new : Comparing) → List Ty → List Ty → Bool → Type 0
TypesFollow b old new ts us true = AreOne b old.types.items → ts ≡ us → AreOne b new.types.items
TypesFollow b old new ts us false = ts ≡ us → ⊥

abbrev pub TermsFollow : Nodes → (old new : Comparing) → List Term → List Term → Bool → Type 0
TermsFollow b old new ts us true = AreEqual b old.terms.items → ts ≡ us → AreEqual b new.terms.items
TermsFollow b old new ts us false = ts ≡ us → ⊥

-- what the normal form of a term comes to
abbrev pub IsFormed : Term → Nodes → Formed → Type 0
IsFormed t b (formed.Is made) = (made.0 < length b.terms) × IsFormOf t (tree b made.0)
IsFormed t b formed.Deep = (k : ℕ) × IsDeepForm RUN_LIMIT RUN_LIMIT t (refusal.Deep k)
IsFormed t b formed.Open = Unit {0}
