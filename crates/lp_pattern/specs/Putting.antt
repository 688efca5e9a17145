-- Terms put for variables: what is read behind bindings is what was read before, with the terms put in.
use Rattle.std.specs.Prelude.{◌≡◌, ℕ, ◌<◌, ◌≤◌, List, length, Some}
use Rattle.lp_calculus.specs.Term.{Term, Atom, constant, integer, text, eigen, logic, param}
use Rattle.lp_calculus.specs.Convert.{steps}
use Rattle.lp_calculus.specs.Fill.{Within, Binding, put_all}
use Rattle.lp_model.specs.Types.{TypeBinding}
use Rattle.lp_model.specs.Pair.{Closing, closed, put_types_in}
use Rattle.lp_model.specs.Look.{weak_step}
use Rattle.lp_pattern.specs.declared.bindings.Bindings.{Bindings}

-- each variable has its level, and a number below the next one
abbrev pub Known : (levels : ℕ → ℕ) → (next : ℕ) → Atom → Type 0
Known lv n (constant c ts) = Unit {0}
Known lv n (integer z) = Unit {0}
Known lv n (text b) = Unit {0}
Known lv n (eigen k) = Unit {0}
Known lv n (logic x l) = (x < n) × (l ≡ lv x)
Known lv n (param k t) = Unit {0}

-- these types for type variables leave all that a closing gives as it is
abbrev pub IsFirm : List TypeBinding → Closing → Type 0
IsFirm ts c = (t : Term) → put_types_in ts (closed c t) ≡ closed c t

-- terms were put for some variables, or for none
pub record IsPutBehind (levels levels' : ℕ → ℕ) (next next' : ℕ) (c c' : Closing) (s s' : Bindings) (bs : List Binding) : Type 0 where
  pub older : (x : ℕ) → x < next → levels' x ≡ levels x
  pub more : next ≤ next'
  pub puts : (depth : ℕ) (t : Term) → Within (Known levels next) depth (closed c t) → closed c' t ≡ put_all bs (closed c t)
  pub knows : (depth : ℕ) (t : Term) → Within (Known levels next) depth t → Within (Known levels' next') depth (put_all bs t)
  pub reaches : (t u : Term) → (j : ℕ) → Within (Known levels next) 0 t → steps weak_step j t ≡ Some u → steps weak_step j (put_all bs t) ≡ Some (put_all bs u)
  pub firm : (ts : List TypeBinding) → IsFirm ts c → IsFirm ts c'
  pub values : (ts : List TypeBinding) → IsFirm ts c → (t : Term) → put_all bs (put_types_in ts t) ≡ put_types_in ts (put_all bs t)
  pub terms : length s.terms.entries ≤ length s'.terms.entries
  pub types : length s'.types.entries ≡ length s.types.entries
