-- The own variables of a record are made one after the other.
use Rattle.std.proofs.Common.{◌≡◌, ◌∙◌, ◌≤◌, ◌<◌, ℕ, zero, suc, ◌+◌, ◌-◌, ◌^◌, List, [], ◌∷◌, ◌++◌, append_assoc, length, Bool, true, false, Option, Some, None, ap, refl, sym, subst, arith}
use Rattle.std.specs.Prelude.{nat_le, if◌then◌else◌, min, slice_get, option_map}
use Rattle.std.proofs.lemmas.Bool.{leb-true, le-leb}
use Rattle.lp_gen.specs.declared.emitter.Emitter.{Emitter}
use Rattle.lp_gen.specs.inner.Running.{TermsStand}
use Rattle.lp_gen.specs.Steps.{Seen, Around, at_level, marked, set_level}
use Rattle.lp_gen.specs.inner.TermLaw.{Standing, as_set}
use Rattle.lp_gen.specs.inner.Written.{Goes}
use Rattle.lp_gen.specs.inner.Bodies.{IsShort}
use Rattle.lp_gen.specs.inner.Beginning.{VariableMade, VariablesMade, IsSetAt, SomeMade, PlaceMade, IsPassed, PlacesMade, OwnMade}
use Rattle.lp_gen.proofs.CodeOwned.{owns_then}
use Rattle.lp_gen.proofs.StepsOwn.{no_types_more}
use Rattle.lp_gen.proofs.Denoting.{room_front}
use Rattle.lp_gen.proofs.Registers.{by_same}
use Rattle.lp_gen.proofs.AroundSet.{around_then, marked_length, marked_here, marked_there, set_own}
use Rattle.lp_gen.proofs.TermWritten.{then_goes, room_goes}
use Rattle.lp_gen.proofs.Beginning.{no_variables, variable_then}

none_some : (v : Seen) → None ≡ Some v → ⊥
none_some v e = cc

same_seen : (v w : Seen) → ◌≡◌ {A = Option Seen} (Some v) (Some w) → v ≡ w
same_seen v w e = cc

within : (vs : List Seen) (p : ℕ) (v : Seen) → slice_get vs p ≡ Some v → p < length vs
within [] p v e = absurd (none_some v e)
within (w ∷ vs) zero v e = omega arith
within (w ∷ vs) (suc p) v e = let z = within vs p v e in omega (arith, z)

-- a variable that is set

set_base : (a : Around) (l : ℕ) → (set_level a l).base ≡ a.base
set_base a l = go (nat_le a.base l)
  where
    go : (t : Bool) → (if t then set_own a l else a).base ≡ a.base
    go true = refl
    go false = refl

set_count : (a : Around) (l : ℕ) → length (set_level a l).own ≡ length a.own
set_count a l = go (nat_le a.base l)
  where
    go : (t : Bool) → length (if t then set_own a l else a).own ≡ length a.own
    go true = marked_length a.own (l - a.base)
    go false = refl

set_captured : (a : Around) (l m : ℕ) → (set_level a l).captured m ≡ a.captured m
set_captured a l m = go (nat_le a.base l)
  where
    go : (t : Bool) → (if t then set_own a l else a).captured m ≡ a.captured m
    go true = refl
    go false = refl

marked_kept : (vs : List Seen) (i p : ℕ) → ((v : Seen) → slice_get vs p ≡ Some v → v.is_set ≡ true) → (v : Seen) → slice_get (marked vs i) p ≡ Some v → v.is_set ≡ true
marked_kept vs i p set v e =
    by_same (v.is_set ≡ true) p i (λ q. is_marked (slice_get vs i) (sym (ap (slice_get (marked vs i)) q ∙ marked_here vs i) ∙ e)) (λ n. set v (sym (marked_there vs i p n) ∙ e))
  where
    is_marked : (o : Option Seen) → option_map as_set o ≡ Some v → v.is_set ≡ true
    is_marked None q = absurd (none_some v q)
    is_marked (Some w) q = ap (λ (y : Seen). y.is_set) (sym (same_seen (as_set w) v q))

set_kept : (a : Around) (l p : ℕ) → IsSetAt a p → IsSetAt (set_level a l) p
set_kept a l p set = go (nat_le a.base l)
  where
    go : (t : Bool) → IsSetAt (if t then set_own a l else a) p
    go true = marked_kept a.own (l - a.base) p set
    go false = set

set_here : (a : Around) (l p : ℕ) → l ≡ a.base + p → IsSetAt (set_level a l) p
set_here a l p e =
    subst (λ b. IsSetAt b p) (sym (ap (λ t. if t then set_own a l else a) (le-leb a.base l (omega (arith, e)))))
    (λ v q. let z : l - a.base ≡ p = omega (arith, e) in is_marked v (slice_get a.own p) (sym (marked_here a.own p) ∙ sym (ap (λ i. slice_get (marked a.own i) p) z) ∙ q))
  where
    is_marked : (v : Seen) (o : Option Seen) → option_map as_set o ≡ Some v → v.is_set ≡ true
    is_marked v None q = absurd (none_some v q)
    is_marked v (Some w) q = ap (λ (y : Seen). y.is_set) (sym (same_seen (as_set w) v q))

-- the place of a level
at_place : (a : Around) (l p : ℕ) → l ≡ a.base + p → at_level a l ≡ slice_get a.own p
at_place a l p e = ap (λ t. if t then slice_get a.own (l - a.base) else a.captured l) (le-leb a.base l (omega (arith, e))) ∙ (let z : l - a.base ≡ p = omega (arith, e) in ap (slice_get a.own) z)

level_of : (a : Around) (l p : ℕ) (v : Seen) → l ≡ min (a.base + p) (2 ^ 64 - 1) → IsShort a → slice_get a.own p ≡ Some v → l ≡ a.base + p
level_of a l p v e short found = let z = within a.own p v found in omega (arith, e, short, z)

nothing_made : (e : Emitter) (a : Around) → SomeMade e e a a
nothing_made e a = record { made = no_variables e a; base = refl; count = refl; captured = λ l. refl; kept = λ p s. s }

pub place_empty : (e : Emitter) (a : Around) (p l : ℕ) → l ≡ min (a.base + p) (2 ^ 64 - 1) → at_level a l ≡ None → PlaceMade e e a a p
place_empty e a p l is none = record {
  some = nothing_made e a;
  set = λ short v found. absurd (none_some v (sym none ∙ at_place a l p (level_of a l p v is short found) ∙ found));
}

pub place_was_set : (e : Emitter) (a : Around) (p l : ℕ) (v : Seen) → l ≡ min (a.base + p) (2 ^ 64 - 1) → at_level a l ≡ Some v → v.is_set ≡ true → PlaceMade e e a a p
place_was_set e a p l v is there set = record {
  some = nothing_made e a;
  set = λ short w found. ap (λ (y : Seen). y.is_set) (same_seen w v (sym found ∙ sym (at_place a l p (level_of a l p w is short found)) ∙ there)) ∙ set;
}

pub place_made : (old new : Emitter) (a b : Around) (p l : ℕ) (v : Seen) → l ≡ min (a.base + p) (2 ^ 64 - 1) → at_level a l ≡ Some v → v.is_set ≡
    false → VariableMade old new a l v → b ≡ set_level a l →
    PlaceMade old new a b p
place_made old new a b p l v is there unset x e = subst (λ c. PlaceMade old new a c p) (sym e) (record {
  some = record {
    made = variable_then old old new a a l v (no_variables old a) x there unset;
    base = set_base a l;
    count = set_count a l;
    captured = set_captured a l;
    kept = set_kept a l;
  };
  set = λ short w found. let z = within (set_level a l).own p w found in let c = set_count a l in set_here a l p (omega (arith, is, short, z, c)) w found;
})

-- one after the other

variables_then : (old mid new : Emitter) (a b c : Around) → VariablesMade old mid a b → VariablesMade mid new b c → VariablesMade old new a c
variables_then old mid new a b c x p = record {
  more = x.more ++ p.more;
  code_is = p.code_is ∙ ap (λ l. l ++ p.more) x.code_is ∙ append_assoc old.code.items x.more p.more;
  types_grow = let i = x.types_grow in let j = p.types_grow in omega (arith, i, j);
  registers_stay = p.registers_stay ∙ x.registers_stay;
  owns = owns_then a b c x.more p.more x.owns p.owns;
  no_types = no_types_more x.more p.more x.no_types p.no_types;
  denotes = λ h later vars s σ st te low few stands room.
      let j = p.types_grow in
      let stay = x.registers_stay in
      let w = x.denotes h later vars s σ st te (omega (arith, low, j)) few stands (room_front s (x.more ++ p.more) x.more p.more refl room) in
      let body = w.1.same.in_body in
      let te_w : TermsStand h mid.registers w.0 = subst (λ n. TermsStand h n w.0) (sym stay) w.1.terms_stand in
      let here : Standing h vars mid.registers w.0.in_body σ b w.0.now.terms =
      subst (λ n. Standing h vars n w.0.in_body σ b w.0.now.terms) (sym stay) (subst (λ z. Standing h vars old.registers z σ b w.0.now.terms) (sym body) w.2) in
      let y = p.denotes h later vars w.0 σ w.1.types_stand te_w low (omega (arith, few, stay)) here
      (room_goes h later vars old.types mid.types old.registers old.registers s w.0 (x.more ++ p.more) x.more p.more w.1 refl room) in (
        y.0,
        then_goes h later vars old.types mid.types new.types old.registers old.registers old.registers s w.0 y.0 x.more p.more w.1
            (subst (λ n. Goes h later vars mid.types new.types n n w.0 p.more y.0)
            stay y.1) x.types_grow (omega arith),
        subst (λ n. Standing h vars n s.in_body σ c y.0.now.terms) stay (subst (λ z. Standing h vars mid.registers z σ c y.0.now.terms) body y.2),
        around_then a b c w.3 y.3,
      );
}

some_then : (old mid new : Emitter) (a b c : Around) → SomeMade old mid a b → SomeMade mid new b c → SomeMade old new a c
some_then old mid new a b c x y = record {
  made = variables_then old mid new a b c x.made y.made;
  base = y.base ∙ x.base;
  count = y.count ∙ x.count;
  captured = λ l. y.captured l ∙ x.captured l;
  kept = λ p s. y.kept p (x.kept p s);
}

-- the next place
abbrev pub place_at : Bool → (count n : ℕ) → ℕ
place_at t count n = if t then count - 1 - n else n

passed_more : (t : Bool) (count n p : ℕ) → n < count → IsPassed t count (n + 1) p → (p ≡ place_at t count n → ⊥) → IsPassed t count n p
passed_more true count n p low is other = not_less count (p + n) (λ q. other (omega (arith, q, is, low)))
  where
    not_less : (x y : ℕ) → (y < x → ⊥) → x ≤ y
    not_less x y q = go (nat_le x y) refl
      where
        go : (b : Bool) → nat_le x y ≡ b → x ≤ y
        go true e = leb-true x y e
        go false e = absurd (q (Rattle.std.proofs.lemmas.Bool.leb-false x y e))
passed_more false count n p low is other = go (nat_le n p) refl
  where
    go : (b : Bool) → nat_le n p ≡ b → p < n
    go true e = let z = leb-true n p e in absurd (other (omega (arith, z, is)))
    go false e = Rattle.std.proofs.lemmas.Bool.leb-false n p e

pub no_places : (t : Bool) (e : Emitter) (a : Around) (count : ℕ) → count ≡ length a.own → PlacesMade e e a a t count 0
no_places true e a count many = record { some = nothing_made e a; set = λ short p is v found. let z = within a.own p v found in absurd (omega (arith, z, is, many)) }
no_places false e a count many = record { some = nothing_made e a; set = λ short p is v found. absurd (omega (arith, is)) }

pub places_then : (t : Bool) (old mid new : Emitter) (a b c : Around) (count n p : ℕ) → PlacesMade old mid a b t count n → PlaceMade mid new b c p → n < count → p ≡ place_at t count n →
    PlacesMade old new a c t count (n + 1)
places_then t old mid new a b c count n p x y low at = record {
  some = some_then old mid new a b c x.some y.some;
  set = λ short q is. by_same (IsSetAt c q) q p
      (λ e. subst (IsSetAt c) (sym e) (y.set (let i = x.some.base in let j = x.some.count in omega (arith, short, i, j))))
      (λ n_. y.some.kept q (x.set short q (passed_more t count n q low is (λ e. n_ (e ∙ sym at)))));
}

pub all_places : (t : Bool) (old new : Emitter) (a b : Around) (count n : ℕ) → PlacesMade old new a b t count n → count ≤ n → count ≡ length a.own → OwnMade old new a b
all_places t old new a b count n x le many = record {
  some = x.some;
  set = λ short p v found. let z = within b.own p v found in let c = x.some.count in x.set short p (all_passed t (omega (arith, z, c, many, le))) v found;
}
  where
    all_passed : (t : Bool) {p : ℕ} → p < count → IsPassed t count n p
    all_passed true low = omega (arith, le)
    all_passed false low = omega (arith, low, le)
