-- The closings behind new bindings: with types for type variables, and with a term for a variable.
use Rattle.std.specs.Prelude.{◌≡◌, ℕ, ◌+◌, nat_eq, true, if◌then◌else◌, List, ◌++◌, map, length}
use Rattle.lp_calculus.specs.Term.{Term, Atom, atom, constant, integer, text, eigen, logic, param}
use Rattle.lp_calculus.specs.Fill.{close}
use Rattle.lp_term.specs.Nodes.{Nodes}
use Rattle.lp_model.specs.Types.{TypeBinding, put_types, TypeOutcome, solved}
use Rattle.lp_model.specs.Pair.{Closing, closed, put_types_in}
use Rattle.lp_model.specs.Rule.{Verdict, gives, argument_pairs}
use Rattle.lp_pattern.specs.declared.bindings.Bindings.{Bindings}
use Rattle.lp_pattern.specs.Filling.{IsStill}
use Rattle.lp_pattern.specs.Putting.{IsFirm}
use Rattle.lp_pattern.specs.Stripping.{IsShut}
use Rattle.lp_pattern.specs.Under.{IsReading}

-- types are put for type variables in all that the closing has
abbrev pub with_types : List TypeBinding → Closing → Closing
with_types bs c = record { types = λ x. put_types bs (c.types x); terms = λ x l. put_types_in bs (c.terms x l) }

-- a term for a variable of a number, at each level
abbrev pub at_number : ℕ → Term → ℕ → ℕ → Term
at_number x v y l = if nat_eq y x then v else atom (logic y l)

-- a term is put for a variable in all that the closing has
abbrev pub with_value : ℕ → Term → Closing → Closing
with_value x v c = record { types = c.types; terms = λ y l. close (at_number x v) (c.terms y l) }

-- the variable of a number has this level
abbrev pub HasLevel : (x l : ℕ) → Atom → Type 0
HasLevel x l (constant c ts) = Unit {0}
HasLevel x l (integer z) = Unit {0}
HasLevel x l (text s) = Unit {0}
HasLevel x l (eigen k) = Unit {0}
HasLevel x l (logic y m) = nat_eq y x ≡ true → nat_eq m l ≡ true
HasLevel x l (param k t) = Unit {0}

-- type equations were solved: the reading behind them is the one before with these types put in
pub record IsReadBehind (old : Bindings) (b : Nodes) (s : Bindings) (c : Closing) (r : TypeOutcome) : Type 0 where
  pub bindings : List TypeBinding
  pub used : ℕ
  pub is : r ≡ solved bindings used
  pub reading : IsReading b s (with_types bindings c)
  pub shut : IsShut (with_types bindings c)
  pub still : IsStill (with_types bindings c).types
  pub terms : (t : Term) → closed (with_types bindings c) t ≡ put_types_in bindings (closed c t)
  pub firm : (us : List TypeBinding) → IsFirm us c → IsFirm (us ++ bindings) (with_types bindings c)
  pub count : length s.types.entries ≡ length old.types.entries + length bindings

-- a pair of rigid heads gave way to those of the arguments: the reading behind it is the one before with the types put in
pub record IsGiven (old : Bindings) (b : Nodes) (s : Bindings) (c : Closing) (level : ℕ) (ts us : List Term) (v : Verdict) : Type 0 where
  pub bindings : List TypeBinding
  pub is : v ≡ gives bindings (argument_pairs level (map (put_types_in bindings) ts) (map (put_types_in bindings) us))
  pub reading : IsReading b s (with_types bindings c)
  pub shut : IsShut (with_types bindings c)
  pub still : IsStill (with_types bindings c).types
  pub terms : (t : Term) → closed (with_types bindings c) t ≡ put_types_in bindings (closed c t)
  pub firm : (us : List TypeBinding) → IsFirm us c → IsFirm (us ++ bindings) (with_types bindings c)
  pub count : length s.types.entries ≡ length old.types.entries + length bindings
