-- Types put for type variables, and the declared types of constants.
use Rattle.std.proofs.Common.{◌≡◌, ℕ, zero, suc, ◌<◌, ◌≤◌, ◌-◌, List, [], ◌∷◌, ◌++◌, map, length, refl, sym, ap, ◌∙◌, arith, true, false}
use Rattle.std.specs.Prelude.{Option, Some, None, slice_get, slice_index_or, nat_lt, Result, Ok, Err, IfOk, IfSome}
use Rattle.std.proofs.lemmas.Bool.Decides.{nat_tests}
use Rattle.std.proofs.lemmas.List.Elements.{All-head, All-tail}
use Rattle.lp_base.specs.declared.memory.Memory.{Memory}
use Rattle.lp_calculus.specs.Types.{instance}
use Rattle.lp_calculus.specs.Term.{atom, logic}
use Rattle.lp_calculus.specs.Typing.{Scheme, o_type, type_at, scheme_type}
use Rattle.lp_calculus.specs.Instance.{instance_term}
use Rattle.lp_term.specs.Nodes.{Nodes, Extends, tree, type_tree}
use Rattle.lp_term.specs.Mapped.{Map, IsMap, mapped, mapped_type}
use Rattle.lp_term.proofs.MapLaws.{putting, instance_put, type_put}
use Rattle.lp_term.proofs.Trees.{extends-trans}
use Rattle.lp_term.specs.declared.node.TypeId.{TypeId}
use Rattle.lp_standard.specs.declared.constant.Constant.{Constant}
use Rattle.lp_standard.specs.Constants.{numbered, language, reserved, first_declared}
use Rattle.lp_standard.specs.Schemes.{scheme, entry, standard_schemes}
use Rattle.lp_model.specs.Readings.{declared_by, scheme_of}
use Rattle.lp_model.specs.declared.program.Declared.{Declared}
use Rattle.lp_cert.specs.Facts.{AreInside}
use Rattle.lp_cert.specs.Same.{types_in}
use Rattle.lp_cert.specs.Filling.{told_by}
use Rattle.lp_cert.specs.declared.instance.Filling.{Filling}
use Rattle.lp_cert.proofs.Later.{inside_later, inside_more}

-- the type for a variable, or the other one where there is none
variable_type : (b : Nodes) (ids : List TypeId) (other : TypeId) (n x : ℕ) → AreInside n ids → other.0 < n → type_tree b other.0 ≡ o_type → ((slice_index_or ids x other).0 < n) × (type_at (types_in b ids) x ≡ type_tree b (slice_index_or ids x other).0)
variable_type b [] other n x a l e = (l, sym e)
variable_type b (i ∷ ids) other n zero a l e = (All-head (λ (t : TypeId). t.0 < n) i ids a, refl)
variable_type b (i ∷ ids) other n (suc x) a l e = variable_type b ids other n x (All-tail (λ (t : TypeId). t.0 < n) i ids a) l e

filling_is_map : (b : Nodes) (f : Filling) → AreInside (length b.types) f.types.now → f.other.0 < length b.types → type_tree b f.other.0 ≡ o_type → IsMap (told_by f) (putting (type_at (types_in b f.types.now)) (λ x l. atom (logic x l))) b b
filling_is_map b f a l e = record { kinds = λ k. refl; constants = λ c. refl; types = λ x. variable_type b f.types.now f.other (length b.types) x a l e; terms = λ x l. refl }

inside_on : (b c : Nodes) (ids : List TypeId) → Extends b c → AreInside (length b.types) ids → AreInside (length c.types) ids
inside_on b c ids g a = inside_more b c ids g a

-- a, b and d are the bank before the other type, behind it, and behind what was made
pub term_filled : (a b d : Nodes) (f : Filling) (term made : ℕ) → Extends a b → Extends b d → AreInside (length a.types) f.types.now → f.other.0 < length b.types → type_tree b f.other.0 ≡ o_type → term < length a.terms → made < length d.terms →
    ((m : Map) → IsMap (told_by f) m b b → tree d made ≡ mapped m (tree b term)) → (e : Nodes) → Extends d e → tree e made ≡ instance_term (type_at (types_in e f.types.now)) (tree e term)
term_filled a b d f term made g h s l o t m makes e k =
    let inside = inside_on a b f.types.now g s in
    let long = extends-trans b d e h k in
    k.same_terms made m ∙ makes (putting (type_at (types_in b f.types.now)) (λ x l. atom (logic x l))) (filling_is_map b f inside l o) ∙ instance_put (type_at (types_in b f.types.now)) (tree b term) ∙
    (λ j. instance_term (type_at (sym (inside_later b e f.types.now long inside) j)) (sym (long.same_terms term (let more = g.more_terms in omega (arith, t, more))) j))

pub type_filled : (a b d : Nodes) (f : Filling) (of made : ℕ) → Extends a b → Extends b d → AreInside (length a.types) f.types.now → f.other.0 < length b.types → type_tree b f.other.0 ≡ o_type → of < length a.types → made < length d.types →
    ((m : Map) → IsMap (told_by f) m b b → type_tree d made ≡ mapped_type m (type_tree b of)) → (e : Nodes) → Extends d e → type_tree e made ≡ instance (type_at (types_in e f.types.now)) (type_tree e of)
type_filled a b d f of made g h s l o t m makes e k =
    let inside = inside_on a b f.types.now g s in
    let long = extends-trans b d e h k in
    k.same_types made m ∙ makes (putting (type_at (types_in b f.types.now)) (λ x l. atom (logic x l))) (filling_is_map b f inside l o) ∙ type_put (type_at (types_in b f.types.now)) (λ x l. atom (logic x l)) (type_tree b of) ∙
    (λ j. instance (type_at (sym (inside_later b e f.types.now long inside) j)) (sym (long.same_types of (let more = g.more_types in omega (arith, t, more))) j))

-- the scheme of a fixed constant stands at its number
entry_at : (cs : List Constant) (c : ℕ) (k : Constant) → slice_get cs c ≡ Some k → entry (map scheme cs) c ≡ scheme k
entry_at [] c k e = absurd (cc)
entry_at (x ∷ xs) zero k e = ap (λ o. elim o [ None ↦ None | Some y ↦ scheme y ]) e
entry_at (x ∷ xs) (suc c) k e = entry_at xs c k e

pub standard_entry : (c : ℕ) (k : Constant) → numbered c ≡ Some k → entry standard_schemes c ≡ scheme k
standard_entry c k e = last_none (map scheme language) c ∙ entry_at (language ++ reserved) c k e
  where
    last_none : (ss : List (Option Scheme)) (c : ℕ) → entry ss c ≡ entry (ss ++ None ∷ []) c
    last_none [] zero = refl
    last_none [] (suc c) = refl
    last_none (s ∷ ss) zero = refl
    last_none (s ∷ ss) (suc c) = last_none ss c

pub standard_declared : (b : Nodes) (cs : List Declared) (c : ℕ) (k : Constant) → c < first_declared → numbered c ≡ Some k → declared_by b cs c ≡ scheme k
standard_declared b cs c k l e = let t : nat_lt c first_declared ≡ true = grind (arith, nat_tests, l) in rw t (standard_entry c k e)

declared_entry : (b : Nodes) (cs : List Declared) (i : ℕ) (x : Declared) → slice_get cs i ≡ Some x → entry (map (λ y. Some (scheme_of b y)) cs) i ≡ Some (scheme_of b x)
declared_entry b [] i x e = absurd (cc)
declared_entry b (y ∷ ys) zero x e = ap (λ o. elim o [ None ↦ None | Some z ↦ Some (scheme_of b z) ]) e
declared_entry b (y ∷ ys) (suc i) x e = declared_entry b ys i x e

pub program_declared : (b : Nodes) (cs : List Declared) (c : ℕ) (x : Declared) → first_declared ≤ c → slice_get cs (c - first_declared) ≡ Some x → declared_by b cs c ≡ Some (scheme_of b x)
program_declared b cs c x l e = let t : nat_lt c first_declared ≡ false = grind (arith, nat_tests, l) in rw t (declared_entry b cs (c - first_declared) x e)

-- what is found by one scheme is found by the constant's
pub type_of_constant : (now : Nodes) (n : ℕ) (ids : List TypeId) (o : Result (Option TypeId) Memory) (s t : Nodes → Option Scheme) → ((b : Nodes) → t b ≡ s b) →
    IfOk o (λ found. IfSome found (λ made. AreInside n ids → (b : Nodes) → Extends now b → scheme_type (types_in b ids) (s b) ≡ Some (type_tree b made.0))) →
    IfOk o (λ found. IfSome found (λ made. AreInside n ids → (b : Nodes) → Extends now b → scheme_type (types_in b ids) (t b) ≡ Some (type_tree b made.0)))
type_of_constant now n ids (Err x) s t e h = tt
type_of_constant now n ids (Ok None) s t e h = tt
type_of_constant now n ids (Ok (Some made)) s t e h = λ a b g. ap (scheme_type (types_in b ids)) (e b) ∙ h a b g
