-- Constants that have no type at these types.
use Rattle.std.proofs.Common.{◌≡◌, ℕ, zero, suc, ◌<◌, ◌≤◌, ◌-◌, List, [], ◌∷◌, ◌++◌, map, length, refl, ap, ◌∙◌, arith, Bool, true, false}
use Rattle.std.specs.Prelude.{Option, Some, None, slice_get, nat_lt, nat_eq, if◌then◌else◌, Result, Ok, Err, IfOk}
use Rattle.std.proofs.lemmas.Bool.Decides.{nat_tests}
use Rattle.std.proofs.lemmas.List.{length-map}
use Rattle.std.proofs.lemmas.List.Elements.{All-head, All-tail}
use Rattle.lp_base.specs.declared.memory.Memory.{Memory}
use Rattle.lp_calculus.specs.Types.{instance}
use Rattle.lp_calculus.specs.Typing.{Scheme, type_at, scheme_type}
use Rattle.lp_standard.specs.declared.constant.Constant.{Constant}
use Rattle.lp_standard.specs.Constants.{numbered, language, reserved, first_declared}
use Rattle.lp_standard.specs.Schemes.{scheme, entry}
use Rattle.lp_model.specs.Readings.{declared_by, scheme_of}
use Rattle.lp_model.specs.declared.program.Declared.{Declared}
use Rattle.lp_term.specs.Nodes.{Nodes, type_tree}
use Rattle.lp_term.specs.declared.node.TypeId.{TypeId}
use Rattle.lp_cert.specs.Inside.{AreDeclaredInside}
use Rattle.lp_cert.specs.Same.{types_in}

entry_none : (cs : List Constant) (c : ℕ) → slice_get cs c ≡ None → entry (map scheme cs) c ≡ None
entry_none [] c e = refl
entry_none (x ∷ xs) zero e = absurd (cc)
entry_none (x ∷ xs) (suc c) e = entry_none xs c e

entry_front : (ss : List (Option Scheme)) (s : Option Scheme) (c : ℕ) → entry (ss ++ s ∷ []) c ≡ None → entry ss c ≡ None
entry_front [] s c e = refl
entry_front (x ∷ ss) s zero e = e
entry_front (x ∷ ss) s (suc c) e = entry_front ss s c e

entry_past : (ss : List (Option Scheme)) (c : ℕ) → length ss ≤ c → entry ss c ≡ None
entry_past [] c l = refl
entry_past (x ∷ ss) zero l = absurd (omega (arith, l))
entry_past (x ∷ ss) (suc c) l = entry_past ss c (omega (arith, l))

-- no constant of the language has this number
pub number_missing : (b : Nodes) (cs : List Declared) (c : ℕ) → c < first_declared → numbered c ≡ None → declared_by b cs c ≡ None
number_missing b cs c l e = let t : nat_lt c first_declared ≡ true = grind (arith, nat_tests, l) in rw t (entry_front (map scheme language) None c (entry_none (language ++ reserved) c e))

-- nor a declared one
pub past_missing : (b : Nodes) (cs : List Declared) (c : ℕ) → first_declared ≤ c → length cs ≤ c - first_declared → declared_by b cs c ≡ None
past_missing b cs c l m =
    let t : nat_lt c first_declared ≡ false = grind (arith, nat_tests, l) in
    let n = length-map cs (λ x. Some (scheme_of b x)) in
    rw t (entry_past (map (λ x. Some (scheme_of b x)) cs) (c - first_declared) (omega (arith, n, m)))

pub none_type : (b : Nodes) (ids : List TypeId) (o : Option Scheme) → o ≡ None → scheme_type (types_in b ids) o ≡ None
none_type b ids o e = ap (scheme_type (types_in b ids)) e

-- not as many types as it has type variables
pub count_differs : (b : Nodes) (ids : List TypeId) (s : Scheme) → (length ids ≡ s.count → ⊥) → scheme_type (types_in b ids) (Some s) ≡ None
count_differs b ids s h = go (nat_eq (length (types_in b ids)) s.count) refl
  where
    go : (t : Bool) → nat_eq (length (types_in b ids)) s.count ≡ t → (if t then Some (instance (type_at (types_in b ids)) s.body) else None) ≡ None
    go true q = absurd (h (let n = length-map ids (λ x. type_tree b x.0) in let z : length (types_in b ids) ≡ s.count = grind (arith, nat_tests, q) in omega (arith, n, z)))
    go false q = refl

pub found_inside : (n : ℕ) (cs : List Declared) (i : ℕ) (x : Declared) → slice_get cs i ≡ Some x → AreDeclaredInside n cs → x.scheme.0 < n
found_inside n [] i x e h = absurd (cc)
found_inside n (y ∷ ys) zero x e h = let z : y ≡ x = cc in omega (arith, All-head (λ (c : Declared). c.scheme.0 < n) y ys h, ap (λ c. c.scheme.0) z)
found_inside n (y ∷ ys) (suc i) x e h = found_inside n ys i x e (All-tail (λ (c : Declared). c.scheme.0 < n) y ys h)

-- no type by one scheme is none by the constant's
pub none_of_constant : (ids : List TypeId) (r : Result (Option TypeId) Memory) (P Q : Type 0) (s t : Nodes → Option Scheme) → ((b : Nodes) → t b ≡ s b) → (Q → P) → IfOk r (λ found. found ≡ None → P → (b : Nodes) → scheme_type (types_in b ids) (s b) ≡ None) →
    IfOk r (λ found. found ≡ None → Q → (b : Nodes) → scheme_type (types_in b ids) (t b) ≡ None)
none_of_constant ids (Err x) P Q s t e f h = tt
none_of_constant ids (Ok o) P Q s t e f h = λ n q b. ap (scheme_type (types_in b ids)) (e b) ∙ h n (f q) b

pub none_always : (ids : List TypeId) (r : Result (Option TypeId) Memory) (Q : Type 0) (s t : Nodes → Option Scheme) → ((b : Nodes) → t b ≡ s b) → IfOk r (λ found. found ≡ None → (b : Nodes) → scheme_type (types_in b ids) (s b) ≡ None) →
    IfOk r (λ found. found ≡ None → Q → (b : Nodes) → scheme_type (types_in b ids) (t b) ≡ None)
none_always ids (Err x) Q s t e h = tt
none_always ids (Ok o) Q s t e h = λ n q b. ap (scheme_type (types_in b ids)) (e b) ∙ h n b
