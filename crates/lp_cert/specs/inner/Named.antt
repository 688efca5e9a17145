-- What is found of an instance, and holds in each bank that this one grows to.
use Rattle.std.specs.Prelude.{◌≡◌, List, [], length, map}
use Rattle.lp_calculus.specs.Types.{instance}
use Rattle.lp_calculus.specs.Closed.{AreClosed, IsClosedAt, IsClosedType}
use Rattle.lp_calculus.specs.Term.{Atom, constant, integer, text, eigen, logic, param}
use Rattle.lp_calculus.specs.Typing.{type_at}
use Rattle.lp_calculus.specs.Typing as typing
use Rattle.lp_term.specs.Nodes.{Nodes, Extends, tree, type_tree}
use Rattle.lp_term.specs.declared.node.TermId.{TermId}
use Rattle.lp_term.specs.declared.node.TypeId.{TypeId}
use Rattle.lp_model.specs.Answers.{AreWitnesses}
use Rattle.lp_model.specs.Proofs.{IsWitness, under}
use Rattle.lp_model.specs.Readings.{declared_by}
use Rattle.lp_model.specs.declared.certificate.Certificate.{Certificate}
use Rattle.lp_model.specs.declared.program.Declared.{Declared}
use Rattle.lp_model.specs.declared.program.Typed.{Typed}
use Rattle.lp_cert.specs.Certified.{Names, certificate_of, query_of}
use Rattle.lp_cert.specs.Inside.{AreDeclaredInside}
use Rattle.lp_cert.specs.Same.{terms_in, types_in}
use Rattle.lp_cert.specs.Written.{Node}
use Rattle.lp_cert.specs.declared.work.Work.{Work}

-- the types that an atom names have no type variable
abbrev pub HasClosedTypes : Atom → Type 0
HasClosedTypes (constant c ts) = AreClosed ts
HasClosedTypes (integer z) = Unit {0}
HasClosedTypes (text s) = Unit {0}
HasClosedTypes (eigen k) = Unit {0}
HasClosedTypes (logic x l) = Unit {0}
HasClosedTypes (param k t) = IsClosedType t

-- the types of the eigenconstants have no type variable, and the declared types stand in the bank
pub record IsSettled (b : Nodes) (w : Work) : Type 0 where
  pub eigens : AreClosed (types_in b w.eigens.items)
  pub constants : AreDeclaredInside (length b.types) w.theory.constants.now

-- closed where these eigenconstants are there, and of the type
pub record IsOf (b : Nodes) (w : Work) (t : TermId) (T : TypeId) : Type 0 where
  pub typed : typing.Typed (under (declared_by b w.theory.constants.now) (types_in b w.eigens.items)) [] (tree b t.0) (type_tree b T.0)
  pub closed : IsClosedAt (length (types_in b w.eigens.items)) (tree b t.0)
  pub type_closed : IsClosedType (type_tree b T.0)

abbrev pub IsWitnessIn : Nodes → Work → TermId → TypeId → Type 0
IsWitnessIn b w t T = IsWitness (declared_by b w.theory.constants.now) (types_in b w.eigens.items) (tree b t.0) (type_tree b T.0)

-- the types of a query's variables
abbrev pub variable_types : Typed → List TypeId
variable_types q = map (λ v. v.1) q.vars.items

-- the terms may stand for variables of these types, with the types for their type variables
abbrev pub AreWitnessesIn : Nodes → List Declared → (types : List TypeId) → List TermId → List TypeId → Type 0
AreWitnessesIn now cs types ts ofs = (b : Nodes) → Extends now b → AreWitnesses (declared_by b cs) (terms_in b ts) (map (instance (type_at (types_in b types))) (types_in b ofs))

-- the terms may not stand for them
abbrev pub HaveNoWitnesses : Nodes → List Declared → (types : List TypeId) → List TermId → List TypeId → Type 0
HaveNoWitnesses now cs types ts ofs = (b : Nodes) → Extends now b → AreWitnesses (declared_by b cs) (terms_in b ts) (map (instance (type_at (types_in b types))) (types_in b ofs)) → ⊥

-- the types and terms are no instance of the query
abbrev pub AreUnnamed : Nodes → List Declared → Typed → (types : List TypeId) → List TermId → Type 0
AreUnnamed now cs q types ts = (b : Nodes) → Extends now b → (ns : List Node) → Names (declared_by b cs) (query_of b q) (record { instance = record { types = types_in b types; values = terms_in b ts }; nodes = ns }) → ⊥

pub record IsNamedIn (now : Nodes) (cs : List Declared) (q : Typed) (types : List TypeId) (terms : List TermId) : Type 0 where
  pub count : length types ≡ q.type_vars
  pub closed : (b : Nodes) → Extends now b → AreClosed (types_in b types)
  pub witnesses : AreWitnessesIn now cs types terms (variable_types q)

abbrev pub NamesIn : Nodes → List Declared → Typed → Certificate → Type 0
NamesIn now cs q c = (b : Nodes) → Extends now b → Names (declared_by b cs) (query_of b q) (certificate_of b c)
