-- Unification of arguments that are constants and logic variables of level 0 (Robinson 1965, cut down to terms without parts).
-- Pairs are taken from the front; the bindings are a list in the order made, and stand applied to what is looked at.
use Rattle.std.specs.Prelude.{ℕ, nat_eq, ◌&&◌, if◌then◌else◌, List, [], ◌∷◌, ◌++◌, Option, Some, None}
use Rattle.lp_calculus.specs.Types.{Ty}
use Rattle.lp_calculus.specs.Term.{Term, index, atom, abs, app, constant, integer, text, eigen, logic, param}
use Rattle.lp_calculus.specs.Fill.{Binding, put_all}

-- the bindings that make the two sides one, if there are any: the same variable is none, else the left side is bound if it is a
-- variable, else the right side; constants are the same or do not unify
abbrev pub bind : (x l : ℕ) → Term → Option (List Binding)
bind x l t = Some (record { id = x; level = l; value = t } ∷ [])

abbrev pub unify_constant : ℕ → List Ty → Term → Option (List Binding)
unify_constant c ts (atom (logic y m)) = bind y m (atom (constant c ts))
unify_constant c ts (atom (constant e us)) = if nat_eq c e then Some [] else None
unify_constant c ts (atom (integer z)) = None
unify_constant c ts (atom (text s)) = None
unify_constant c ts (atom (eigen k)) = None
unify_constant c ts (atom (param k t)) = None
unify_constant c ts (index i) = None
unify_constant c ts (abs b) = None
unify_constant c ts (app t u) = None

abbrev pub unify_variable : (x l : ℕ) → Term → Option (List Binding)
unify_variable x l (atom (logic y m)) = if nat_eq x y && nat_eq l m then Some [] else bind x l (atom (logic y m))
unify_variable x l (atom (constant c ts)) = bind x l (atom (constant c ts))
unify_variable x l (atom (integer z)) = None
unify_variable x l (atom (text s)) = None
unify_variable x l (atom (eigen k)) = None
unify_variable x l (atom (param k t)) = None
unify_variable x l (index i) = None
unify_variable x l (abs b) = None
unify_variable x l (app t u) = None

abbrev pub unify_two : (left right : Term) → Option (List Binding)
unify_two (atom (logic x l)) t = unify_variable x l t
unify_two (atom (constant c ts)) t = unify_constant c ts t
unify_two (atom (integer z)) t = None
unify_two (atom (text s)) t = None
unify_two (atom (eigen k)) t = None
unify_two (atom (param k ty)) t = None
unify_two (index i) t = None
unify_two (abs b) t = None
unify_two (app f a) t = None

abbrev pub unify_on : List Binding → Option (List Binding) → (List Binding → Option (List Binding)) → Option (List Binding)
unify_on made None go = None
unify_on made (Some new) go = go (made ++ new)

-- two lists of arguments, under the bindings made so far
abbrev pub unify : (lefts rights : List Term) → (made : List Binding) → Option (List Binding)
unify [] [] made = Some made
unify (l ∷ ls) (r ∷ rs) made = unify_on made (unify_two (put_all made l) (put_all made r)) (unify ls rs)
unify [] (r ∷ rs) made = None
unify (l ∷ ls) [] made = None
