-- The names of objects and of their kinds and constants, and what objects use.
use Rattle.std.specs.Prelude.{ℕ, List, map}
use Rattle.lp_code.specs.declared.object.Object.{Object}
use Rattle.lp_code.specs.declared.object.ObjectKind.{ObjectKind}
use Rattle.lp_code.specs.declared.object.ObjectConstant.{ObjectConstant}
use Rattle.lp_places.specs.Places.{places_in}

abbrev pub kind_names : List ObjectKind → List (List ℕ)
kind_names ks = map (λ k. k.name.items) ks

abbrev pub constant_names : List ObjectConstant → List (List ℕ)
constant_names cs = map (λ c. c.name.items) cs

abbrev pub names_of : List Object → List (List ℕ)
names_of os = map (λ o. o.name.items) os

-- for each object the numbers of those that it uses, in order
abbrev pub uses_of : List Object → List (List ℕ)
uses_of os = map (λ o. places_in (names_of os) (map (λ u. u.items) o.uses.items)) os
