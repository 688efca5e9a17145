-- Walks that keep what terms and types have become end.
use Rattle.std.proofs.Common.{◌≡◌, ◌≢◌, ℕ, suc, ◌+◌, ◌<◌, ◌≤◌, List, [], ◌∷◌, ◌++◌, length, refl, ap, sym, ◌∙◌, arith, subst as transport, nat_eq, Option, Some, None, Bool, true, false}
use Rattle.std.specs.Prelude.{All, if◌then◌else◌}
use Rattle.std.proofs.lemmas.List.{length-append}
use Rattle.std.proofs.lemmas.List.Elements.{All-weaker}
use Rattle.indexmap.specs.IndexMap.{get}
use Rattle.lp_term.specs.Nodes.{Nodes, Extends}
use Rattle.lp_term.specs.declared.node.TermId.{TermId}
use Rattle.lp_term.specs.declared.node.TypeId.{TypeId}
use Rattle.lp_pattern.specs.declared.fill.TermsFilled.{TermsFilled}
use Rattle.lp_pattern.specs.declared.fill_types.TypesFilled.{TypesFilled}
use Rattle.lp_pattern.specs.inner.Making.{one_unless, unmade, IsFurther, making, term_made, terms_left, type_made, types_left}

one_at_most : {V : Type 0} (o : Option V) → one_unless o ≤ 1
one_at_most None = omega arith
one_at_most (Some v) = omega arith

none_less : {V : Type 0} (o : Option V) → o ≢ None → one_unless o ≡ 0
none_less None h = absurd (h refl)
none_less (Some v) h = refl

pub unmade_append : {T V : Type 0} (f : T → Option V) (xs ys : List T) → unmade f (xs ++ ys) ≡ unmade f xs + unmade f ys
unmade_append f [] ys = omega arith
unmade_append f (x ∷ xs) ys = let h = unmade_append f xs ys in omega (arith, h)

pub unmade_few : {T V : Type 0} (f : T → Option V) (xs : List T) → unmade f xs ≤ length xs
unmade_few f [] = omega arith
unmade_few f (x ∷ xs) = let h = unmade_few f xs in let k = one_at_most (f x) in omega (arith, h, k)

-- one more on the stack that has become nothing
pub unmade_pushed : {T V : Type 0} (f : T → Option V) (old new : List T) (x : T) (o : Option V) → new ≡ old ++ x ∷ [] → o ≡ f x → o ≡ None → unmade f new ≡ suc (unmade f old)
unmade_pushed f old new x o e g h =
    let a : unmade f new ≡ unmade f old + (one_unless (f x) + 0) = ap (unmade f) e ∙ unmade_append f old (x ∷ []) in
    let k : one_unless (f x) ≡ 1 = ap one_unless (sym g ∙ h) in
    omega (arith, a, k)

-- one more on the stack, which may have become something
pub unmade_more : {T V : Type 0} (f : T → Option V) (old new : List T) (x : T) → new ≡ old ++ x ∷ [] → unmade f old ≤ unmade f new
unmade_more f old new x e =
    let a : unmade f new ≡ unmade f old + (one_unless (f x) + 0) = ap (unmade f) e ∙ unmade_append f old (x ∷ []) in
    omega (arith, a)

-- a part that is put on the stack, in a walk over parts
pub part_pushed : {T V : Type 0} (f : T → Option V) (u : ℕ) (is_whole : Bool) (old new : List T) (x : T) (o : Option V) → new ≡ old ++ x ∷ [] → o ≡ f x → o ≡ None → u + (if is_whole then 0 else 1) ≤ unmade f old → u + (if false then 0 else 1) ≤ unmade f new
part_pushed f u true old new x o e g h l = let a = unmade_pushed f old new x o e g h in omega (arith, a, l)
part_pushed f u false old new x o e g h l = let a = unmade_pushed f old new x o e g h in omega (arith, a, l)

pub parts_whole : {T V : Type 0} (f : T → Option V) (u : ℕ) (is_whole : Bool) (left : List T) → is_whole ≡ true → u + (if is_whole then 0 else 1) ≤ unmade f left → u ≤ unmade f left
parts_whole f u true left e l = omega (arith, l)
parts_whole f u false left e l = absurd (let x : false ≡ true = e in cc)

pub parts_missing : {T V : Type 0} (f : T → Option V) (u : ℕ) (is_whole : Bool) (left : List T) → is_whole ≡ false → u + (if is_whole then 0 else 1) ≤ unmade f left → u < unmade f left
parts_missing f u true left e l = absurd (let x : true ≡ false = e in cc)
parts_missing f u false left e l = omega (arith, l)

-- further, as long as one of two is missing
pub first_missing : {V : Type 0} (o : Option V) (u v w : ℕ) → o ≡ None → IsFurther o u v → v ≤ w → u < w
first_missing None u v w e h l = omega (arith, h, l)
first_missing (Some x) u v w e h l = absurd (let z : Some x ≡ None = e in cc)

pub further_more : {V : Type 0} (o : Option V) (u v : ℕ) → IsFurther o u v → u ≤ v
further_more None u v h = omega (arith, h)
further_more (Some x) u v h = h

-- a turn: the stack is shorter, more on it have become nothing, or one more has become something

shorter : {T V : Type 0} (m : ℕ) (f : T → Option V) (ts all : List T) (t : T) → all ≡ ts ++ t ∷ [] → f t ≢ None → making m (unmade f ts) (length ts) < making m (unmade f all) (length all)
shorter m f ts all t e g =
    let a : unmade f all ≡ unmade f ts + (one_unless (f t) + 0) = ap (unmade f) e ∙ unmade_append f ts (t ∷ []) in
    let k : one_unless (f t) ≡ 0 = none_less (f t) g in
    let u : unmade f all ≡ unmade f ts = omega (arith, a, k) in
    let n : length all ≡ suc (length ts) = omega (arith, ap length e, length-append ts (t ∷ [])) in
    transport (λ z. making m (unmade f ts) (length ts) < making m (unmade f all) z) (sym n)
    (transport (λ z. making m (unmade f ts) (length ts) < making m z (suc (length ts))) (sym u) (omega arith))

making_further : (m u v n k : ℕ) → u < v → v < 18446744073709551616 → k < 18446744073709551616 → making m v k < making m u n
making_further m u v n k h l s = omega (arith, h, l, s)

making_made : (m u v n k : ℕ) → m < 18446744073709551616 → u < 18446744073709551616 → k < 18446744073709551616 → making (suc m) v k < making m u n
making_made m u v n k h l s = omega (arith, h, l, s)

further : {T V W : Type 0} (m : ℕ) (f : T → Option V) (old new : List T) (o : Option W) → o ≡ None → IsFurther o (unmade f old) (unmade f new) → length new < 18446744073709551616 →
    making m (unmade f new) (length new) < making m (unmade f old) (length old)
further m f old new o h k s =
    let p = first_missing o (unmade f old) (unmade f new) (unmade f new) h k (omega arith) in
    let l = unmade_few f new in
    making_further m (unmade f old) (unmade f new) (length old) (length new) p (omega (arith, l, s)) s

noted : {T V : Type 0} (m k : ℕ) (f g : T → Option V) (old new : List T) → k ≡ suc m → m < 18446744073709551616 → length old < 18446744073709551616 → length new < 18446744073709551616 →
    making k (unmade g new) (length new) < making m (unmade f old) (length old)
noted m k f g old new e h n s =
    let l = unmade_few f old in
    transport (λ z. making z (unmade g new) (length new) < making m (unmade f old) (length old)) (sym e)
    (making_made m (unmade f old) (unmade g new) (length old) (length new) h (omega (arith, l, n)) s)

-- terms

pub shorter_falls : (d : TermsFilled) (ts all : List TermId) (t : TermId) → all ≡ ts ++ t ∷ [] → term_made d t ≢ None → terms_left d ts < terms_left d all
shorter_falls d ts all t e g = shorter (length d.terms.entries) (term_made d) ts all t e g

pub further_falls : (d e : TermsFilled) (old new : List TermId) (o : Option TermId) → e.terms ≡ d.terms → o ≡ None → IsFurther o (unmade (term_made d) old) (unmade (term_made d) new) → length new < 18446744073709551616 →
    terms_left e new < terms_left d old
further_falls d e old new o q h k s =
    transport (λ m. terms_left (record d { terms = m }) new < terms_left d old) (sym q) (further (length d.terms.entries) (term_made d) old new o h k s)

pub noted_falls : (d e : TermsFilled) (old new : List TermId) (t v : TermId) → term_made d t ≡ None → (get nat_eq d.terms t.0 ≡ None → e.terms.entries ≡ d.terms.entries ++ (t.0, v) ∷ []) →
    length d.terms.entries < 18446744073709551616 → length old < 18446744073709551616 → length new < 18446744073709551616 → terms_left e new < terms_left d old
noted_falls d e old new t v g a m n s =
    noted (length d.terms.entries) (length e.terms.entries) (term_made d) (term_made e) old new (omega (arith, ap length (a g), length-append d.terms.entries ((t.0, v) ∷ []))) m n s

-- types

pub type_shorter_falls : (d : TypesFilled) (ts all : List TypeId) (t : TypeId) → all ≡ ts ++ t ∷ [] → type_made d t ≢ None → types_left d ts < types_left d all
type_shorter_falls d ts all t e g = shorter (length d.made.entries) (type_made d) ts all t e g

pub type_further_falls : (d : TypesFilled) (old new : List TypeId) (o : Option TypeId) → o ≡ None → IsFurther o (unmade (type_made d) old) (unmade (type_made d) new) → length new < 18446744073709551616 →
    types_left d new < types_left d old
type_further_falls d old new o h k s = further (length d.made.entries) (type_made d) old new o h k s

pub type_noted_falls : (d e : TypesFilled) (old new : List TypeId) (t v : TypeId) → type_made d t ≡ None → (get nat_eq d.made t.0 ≡ None → e.made.entries ≡ d.made.entries ++ (t.0, v) ∷ []) →
    length d.made.entries < 18446744073709551616 → length old < 18446744073709551616 → length new < 18446744073709551616 → types_left e new < types_left d old
type_noted_falls d e old new t v g a m n s =
    noted (length d.made.entries) (length e.made.entries) (type_made d) (type_made e) old new (omega (arith, ap length (a g), length-append d.made.entries ((t.0, v) ∷ []))) m n s

pub same_left : (d e : TermsFilled) (ts : List TermId) → e.terms ≡ d.terms → terms_left e ts ≡ terms_left d ts
same_left d e ts q = ap (λ m. terms_left (record d { terms = m }) ts) q

-- terms of a bank are terms of each later one
pub below_later : (b d : Nodes) (ts : List TermId) → Extends b d → All (λ t. t.0 < length b.terms) ts → All (λ t. t.0 < length d.terms) ts
below_later b d ts e h = All-weaker (λ t. t.0 < length b.terms) (λ t. t.0 < length d.terms) (λ t k. omega (arith, k, e.more_terms)) ts h

pub types_below_later : (b d : Nodes) (ts : List TypeId) → Extends b d → All (λ t. t.0 < length b.types) ts → All (λ t. t.0 < length d.types) ts
types_below_later b d ts e h = All-weaker (λ t. t.0 < length b.types) (λ t. t.0 < length d.types) (λ t k. omega (arith, k, e.more_types)) ts h
