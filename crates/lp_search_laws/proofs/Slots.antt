-- Slots and pairs of a head against a goal: solving the pairs is making each argument of the head, with the slots put in, the goal's argument.
use Rattle.std.proofs.Common.{◌≡◌, ℕ, ◌+◌, List, [], ◌∷◌, map, length, ◌∙◌, refl, sym, ap, subst as transport, Bool, true, false, nat_eq, if◌then◌else◌}
use Rattle.std.specs.Prelude.{◌&&◌, not}
use Rattle.lp_calculus.specs.Term.{Term, index, atom, abs, app, logic}
use Rattle.lp_calculus.specs.Convert.{Converts, ConvertAll, convert_none, convert_more}
use Rattle.lp_calculus.specs.Normal.{is_absent}
use Rattle.lp_calculus.proofs.Steps.{converts_is, converts_sym}
use Rattle.lp_model.specs.Index.{instantiate}
use Rattle.lp_model.specs.Pair.{Pair, Closing, closed, SolvesAll}
use Rattle.lp_model.specs.Search.{Slot, slot_of, is_new, are_absent, slots_of, slotted, pairs_of}
use Rattle.lp_unify_laws.proofs.Sames.{both, same_number, number_same}

-- a relation of the arguments of two lists, one by one, as far as both go
abbrev pub EachTwo : (Term → Term → Type 0) → (hs ts : List Term) → Type 0
EachTwo Q (h ∷ hs) (t ∷ ts) = Q h t × EachTwo Q hs ts
EachTwo Q [] ts = Unit {0}
EachTwo Q (h ∷ hs) [] = Unit {0}

abbrev pub EachSlot : (Term → Term → Type 0) → List Slot → Type 0
EachSlot Q [] = Unit {0}
EachSlot Q (s ∷ ss) = Q (index s.variable) s.term × EachSlot Q ss

-- by the test whether a head's argument is a new variable
is_index : (Q : Term → Term → Type 0) (earlier : List Term) (h t : Term) → is_new h earlier ≡ true → Q h t → Q (index (slot_of h t).variable) (slot_of h t).term
is_index Q earlier (index k) t e q = q
is_index Q earlier (atom a) t e q = absurd (cc)
is_index Q earlier (abs b) t e q = absurd (cc)
is_index Q earlier (app f a) t e q = absurd (cc)

slot_step : (Q : Term → Term → Type 0) (earlier : List Term) (h t : Term) (rest : List Slot) → Q h t → EachSlot Q rest → (b : Bool) → is_new h earlier ≡ b → EachSlot Q (if b then slot_of h t ∷ rest else rest)
slot_step Q earlier h t rest q w true e = (is_index Q earlier h t e q, w)
slot_step Q earlier h t rest q w false e = w

pub slots_are : (Q : Term → Term → Type 0) (earlier hs ts : List Term) → EachTwo Q hs ts → EachSlot Q (slots_of earlier hs ts)
slots_are Q earlier [] ts w = tt
slots_are Q earlier (h ∷ hs) [] w = tt
slots_are Q earlier (h ∷ hs) (t ∷ ts) w = slot_step Q earlier h t (slots_of (h ∷ earlier) hs ts) w.0 (slots_are Q (h ∷ earlier) hs ts w.1) (is_new h earlier) refl

-- what a variable of the clause becomes: a new variable, or the goal's argument at a place where it stands in the head
slotted_step : (R : ℕ → Term → Type 0) (k i : ℕ) (t u : Term) → R i t → R k u → (b : Bool) → nat_eq k i ≡ b → R k (if b then t else u)
slotted_step R k i t u p q true e = transport (λ z. R z t) (sym (same_number k i e)) p
slotted_step R k i t u p q false e = q

pub slotted_is : (Q : Term → Term → Type 0) (R : ℕ → Term → Type 0) (next level : ℕ) → ((k : ℕ) → R k (atom (logic (next + k) level))) → ((k : ℕ) (t : Term) → Q (index k) t → R k t) → (ss : List Slot) → EachSlot Q ss → (k : ℕ) → R k (slotted ss next level k)
slotted_is Q R next level f g [] w k = f k
slotted_is Q R next level f g (s ∷ ss) w k =
    slotted_step R k s.variable s.term (slotted ss next level k) (g s.variable s.term w.0) (slotted_is Q R next level f g ss w.1 k) (nat_eq k s.variable) refl

-- the values that the slots give, where a variable does not stand in an earlier argument
abbrev pub Agrees : (ℕ → Term) → (next level : ℕ) → (earlier hs ts : List Term) → Type 0
Agrees σ next level earlier hs ts = (k : ℕ) → are_absent k earlier ≡ true → σ k ≡ slotted (slots_of earlier hs ts) next level k

other_number : (j k : ℕ) → not (nat_eq k j) ≡ true → nat_eq j k ≡ false
other_number j k h = go (nat_eq j k) refl
  where
    go : (b : Bool) → nat_eq j k ≡ b → nat_eq j k ≡ false
    go true e =
        let q : nat_eq k j ≡ true = transport (λ z. nat_eq k z ≡ true) (sym (same_number j k e)) (number_same k) in
        let r : not true ≡ true = sym (ap not q) ∙ h in
        absurd (cc)
    go false e = e

index_pairs : (c : Closing) (σ : ℕ → Term) (next level : ℕ) (earlier : List Term) (k : ℕ) (t : Term) (S : List Slot) (ps : List Pair) (W : Type 0) → (((j : ℕ) → (not (nat_eq k j) && are_absent j earlier) ≡ true → σ j ≡ slotted S next level j) → (SolvesAll c ps → W) × (W → SolvesAll c ps)) →
    (b : Bool) → are_absent k earlier ≡ b → ((j : ℕ) → are_absent j earlier ≡ true → σ j ≡ slotted (if b then record { variable = k; term = t } ∷ S else S) next level j) →
    (SolvesAll c (if b then ps else record { left = t; right = σ k; level = level } ∷ ps) → Converts (closed c t) (closed c (σ k)) × W) × (Converts (closed c t) (closed c (σ k)) × W → SolvesAll c (if b then ps else record { left = t; right = σ k; level = level } ∷ ps))
index_pairs c σ next level earlier k t S ps W ι true e f =
    let r = ι (λ j h. let p = both (not (nat_eq k j)) (are_absent j earlier) h in f j p.1 ∙ ap (λ z. if z then t else slotted S next level j) (other_number j k p.0)) in
    let q : σ k ≡ t = f k e ∙ ap (λ z. if z then t else slotted S next level k) (number_same k) in
    ((λ s. (converts_is (ap (closed c) (sym q)), r.0 s)), (λ w. r.1 w.1))
index_pairs c σ next level earlier k t S ps W ι false e f =
    let r = ι (λ j h. let p = both (not (nat_eq k j)) (are_absent j earlier) h in f j p.1) in
    ((λ s. (s.0, r.0 s.1)), (λ w. (w.0, r.1 w.1)))

pub pairs_are : (c : Closing) (σ : ℕ → Term) (next level : ℕ) (earlier hs ts : List Term) → Agrees σ next level earlier hs ts →
    (SolvesAll c (pairs_of σ level earlier hs ts) → EachTwo (λ h t. Converts (closed c t) (closed c (instantiate σ h))) hs ts) × (EachTwo (λ h t. Converts (closed c t) (closed c (instantiate σ h))) hs ts → SolvesAll c (pairs_of σ level earlier hs ts))
pairs_are c σ next level earlier [] ts f = ((λ s. tt), (λ s. tt))
pairs_are c σ next level earlier (h ∷ hs) [] f = ((λ s. tt), (λ s. tt))
pairs_are c σ next level earlier (index k ∷ hs) (t ∷ ts) f =
    index_pairs c σ next level earlier k t (slots_of (index k ∷ earlier) hs ts) (pairs_of σ level (index k ∷ earlier) hs ts) (EachTwo (λ h t. Converts (closed c t) (closed c (instantiate σ h))) hs ts)
    (λ g. pairs_are c σ next level (index k ∷ earlier) hs ts g) (are_absent k earlier) refl f
pairs_are c σ next level earlier (atom a ∷ hs) (t ∷ ts) f =
    let r = pairs_are c σ next level (atom a ∷ earlier) hs ts (λ j h. f j (both (is_absent j (atom a)) (are_absent j earlier) h).1) in
    ((λ s. (s.0, r.0 s.1)), (λ w. (w.0, r.1 w.1)))
pairs_are c σ next level earlier (abs b ∷ hs) (t ∷ ts) f =
    let r = pairs_are c σ next level (abs b ∷ earlier) hs ts (λ j h. f j (both (is_absent j (abs b)) (are_absent j earlier) h).1) in
    ((λ s. (s.0, r.0 s.1)), (λ w. (w.0, r.1 w.1)))
pairs_are c σ next level earlier (app g a ∷ hs) (t ∷ ts) f =
    let r = pairs_are c σ next level (app g a ∷ earlier) hs ts (λ j h. f j (both (is_absent j (app g a)) (are_absent j earlier) h).1) in
    ((λ s. (s.0, r.0 s.1)), (λ w. (w.0, r.1 w.1)))

-- lists that convert one by one
pub converts_each : (f g : Term → Term) (hs ts : List Term) → length hs ≡ length ts → EachTwo (λ h t. Converts (g t) (f h)) hs ts → ConvertAll (map f hs) (map g ts)
converts_each f g [] [] l w = convert_none
converts_each f g [] (t ∷ ts) l w = absurd (cc)
converts_each f g (h ∷ hs) [] l w = absurd (cc)
converts_each f g (h ∷ hs) (t ∷ ts) l w = let m : length hs ≡ length ts = cc in convert_more (converts_sym w.0) (converts_each f g hs ts m w.1)

each_converts : (f g : Term → Term) (hs ts : List Term) {us vs : List Term} → ConvertAll us vs → us ≡ map f hs → vs ≡ map g ts → EachTwo (λ h t. Converts (g t) (f h)) hs ts
each_converts f g [] ts w e k = tt
each_converts f g (h ∷ hs) [] w e k = tt
each_converts f g (h ∷ hs) (t ∷ ts) convert_none e k = absurd (cc)
each_converts f g (h ∷ hs) (t ∷ ts) (convert_more {t = u} {u = v} {ts = us} {us = vs} p q) e k =
    let a : u ≡ f h = cc in
    let b : v ≡ g t = cc in
    let m : us ≡ map f hs = cc in
    let n : vs ≡ map g ts = cc in
    (converts_sym (transport (λ z. Converts z (g t)) a (transport (λ z. Converts u z) b p)), each_converts f g hs ts q m n)

pub each_of_all : (f g : Term → Term) (hs ts : List Term) → ConvertAll (map f hs) (map g ts) → EachTwo (λ h t. Converts (g t) (f h)) hs ts
each_of_all f g hs ts w = each_converts f g hs ts w refl refl
