-- Which variables of a record the steps of a term make.
use Rattle.std.proofs.Common.{◌≡◌, ◌∙◌, ◌<◌, ◌≤◌, ℕ, ◌+◌, ◌-◌, List, [], ◌∷◌, ◌++◌, length, Bool, true, false, Option, Some, None, ap, refl, sym, subst, true≢false, ⊎_elim}
use Rattle.std.specs.Prelude.{nat_eq, nat_le, ◌||◌, if◌then◌else◌, option_map, slice_get}
use Rattle.std.proofs.lemmas.Bool.{eqb-true, eq-eqb, leb-true, leb-false}
use Rattle.lp_calculus.specs.Types.{Ty}
use Rattle.lp_calculus.specs.Term.{Term, Atom, index, atom, abs, app, constant, integer, text, eigen, logic, param}
use Rattle.lp_calculus.specs.Typing.{o_type}
use Rattle.lp_code.specs.States.{member}
use Rattle.lp_gen.specs.Steps.{from_of, to_of, Step, make_constant, make_integer, make_text, make_index, make_variable, from_register, apply_last, abstract_last, Seen, Around, at_level, level_in, set_level, Listed, one_step, seen_listed, found_listed, level_listed, bound_listed, atom_listed, listed, headed}
use Rattle.lp_gen.specs.inner.TermLaw.{as_set, SameAround}
use Rattle.lp_gen.specs.inner.Owned.{made_by, AreStarted, MakesOwn, StaysSet}
use Rattle.lp_gen.proofs.AroundSet.{set_own, around_same, around_then, around_set, found_set, seen_of}

some_seen : (v w : Seen) → ◌≡◌ {A = Option Seen} (Some v) (Some w) → v ≡ w
some_seen v w e = cc

pub made_both : (xs ys : List Step) → made_by (xs ++ ys) ≡ made_by xs ++ made_by ys
made_both [] ys = refl
made_both (make_constant c Ts ∷ os) ys = made_both os ys
made_both (make_integer z ∷ os) ys = made_both os ys
made_both (make_text b ∷ os) ys = made_both os ys
made_both (make_index i T ∷ os) ys = made_both os ys
made_both (make_variable r T ∷ os) ys = ap (λ l. r ∷ l) (made_both os ys)
made_both (from_register r ∷ os) ys = made_both os ys
made_both (apply_last n ∷ os) ys = made_both os ys
made_both (abstract_last T ∷ os) ys = made_both os ys

or_cases : (X : Type 0) (c d : Bool) → (c || d) ≡ true → (c ≡ true → X) → (d ≡ true → X) → X
or_cases X true d e f g = f refl
or_cases X false d e f g = g e

or_left : (c d : Bool) → c ≡ true → (c || d) ≡ true
or_left true d e = refl
or_left false d e = absurd (true≢false (sym e))

or_right : (c d : Bool) → d ≡ true → (c || d) ≡ true
or_right true d e = refl
or_right false d e = e

member_in : (X : Type 0) (m : ℕ) (xs ys : List ℕ) → member m (xs ++ ys) ≡ true → (member m xs ≡ true → X) → (member m ys ≡ true → X) → X
member_in X m [] ys e f g = g e
member_in X m (x ∷ xs) ys e f g =
    or_cases X (nat_eq m x) (member m (xs ++ ys)) e (λ q. f (or_left (nat_eq m x) (member m xs) q)) (λ q. member_in X m xs ys q (λ p. f (or_right (nat_eq m x) (member m xs) p)) g)

member_first : (m : ℕ) (xs ys : List ℕ) → member m xs ≡ true → member m (xs ++ ys) ≡ true
member_first m [] ys e = absurd (true≢false (sym e))
member_first m (x ∷ xs) ys e =
    or_cases (member m ((x ∷ xs) ++ ys) ≡ true) (nat_eq m x) (member m xs) e (λ q. or_left (nat_eq m x) (member m (xs ++ ys)) q)
    (λ q. or_right (nat_eq m x) (member m (xs ++ ys)) (member_first m xs ys q))

member_second : (m : ℕ) (xs ys : List ℕ) → member m ys ≡ true → member m (xs ++ ys) ≡ true
member_second m [] ys e = e
member_second m (x ∷ xs) ys e = or_right (nat_eq m x) (member m (xs ++ ys)) (member_second m xs ys e)

-- one after the other

pub makes_none : (a : Around) → MakesOwn a a []
makes_none a = record {
  sound = λ r e. absurd (true≢false (sym e));
  complete = λ l v w e f g s. absurd (true≢false (sym s ∙ ap (λ (y : Seen). y.is_set) (some_seen w v (sym g ∙ e)) ∙ f));
}

-- a variable of the later around was one of the earlier
before : (a b : Around) (l : ℕ) (w : Seen) → SameAround a b → at_level b l ≡ Some w → (v : Seen) × (at_level a l ≡ Some v) × (v.register ≡ w.register)
before a b l w s e =
    let x = seen_of (at_level a l) (as_set w) (sym (s.variables l) ∙ ap (option_map as_set) e) in
    (x.0, x.1, ap (λ (y : Seen). y.register) x.2)

after : (a b : Around) (l : ℕ) (v : Seen) → SameAround a b → at_level a l ≡ Some v → (w : Seen) × (at_level b l ≡ Some w) × (w.register ≡ v.register)
after a b l v s e =
    let x = seen_of (at_level b l) (as_set v) (s.variables l ∙ ap (option_map as_set) e) in
    (x.0, x.1, ap (λ (y : Seen). y.register) x.2)

-- what is set stays set
pub makes_then : (a b c : Around) (rs ss : List ℕ) → SameAround a b → StaysSet a b → MakesOwn a b rs → MakesOwn b c ss → MakesOwn a c (rs ++ ss)
makes_then a b c rs ss same stays x y = record {
  sound = λ r e. member_in ((l : ℕ) × (v : Seen) × (at_level a l ≡ Some v) × (v.is_set ≡ false) × (v.register ≡ r)) r rs ss e (x.sound r) (λ q.
      let w = y.sound r q in
      let v = before a b w.0 w.1 same w.2 in
      (w.0, v.0, v.1, unset v.0 w.0 w.1 v.1 w.2 w.3 (v.0).is_set refl, v.2 ∙ w.4));
  complete = λ l v w e f g s.
      let m = after a b l v same e in
      by_set l v w (m.0) e f m.1 m.2 g s (m.0).is_set refl;
}
  where
    unset : (v : Seen) (l : ℕ) (w : Seen) → at_level a l ≡ Some v → at_level b l ≡ Some w → w.is_set ≡ false → (t : Bool) → v.is_set ≡ t → v.is_set ≡ false
    unset v l w e f none true q = absurd (true≢false (sym (stays l v w e q f) ∙ none))
    unset v l w e f none false q = q

    by_set : (l : ℕ) (v w m : Seen) → at_level a l ≡ Some v → v.is_set ≡ false → at_level b l ≡ Some m → m.register ≡ v.register → at_level c l ≡ Some w → w.is_set ≡ true → (t : Bool) → m.is_set ≡ t →
        member v.register (rs ++ ss) ≡ true
    by_set l v w m e f g k h s true q = member_first v.register rs ss (x.complete l v m e f g q)
    by_set l v w m e f g k h s false q = member_second v.register rs ss (ap (λ r. member r ss) (sym k) ∙ y.complete l m w g q h s)

-- a variable is made

pub same_set : (a : Around) (l : ℕ) → SameAround a (set_level a l)
same_set a l = go (nat_le a.base l) refl
  where
    go : (t : Bool) → nat_le a.base l ≡ t → SameAround a (set_level a l)
    go true e = around_set a l (leb-true a.base l e)
    go false e = subst (SameAround a) (sym (ap (λ t. if t then set_own a l else a) e)) (around_same a)

pub stays_set : (a : Around) (l : ℕ) (v : Seen) → a.base ≤ l → at_level a l ≡ Some v → StaysSet a (set_level a l)
stays_set a l v le found m u w e s f =
    ⊎_elim (λ q. ap (λ (y : Seen). y.is_set) q.1) (λ q. ap (λ (y : Seen). y.is_set) (some_seen w u (sym q.1 ∙ e)) ∙ s) (found_set a l m v w le found f)

pub makes_one : (a : Around) (l : ℕ) (v : Seen) → a.base ≤ l → at_level a l ≡ Some v → v.is_set ≡ false → MakesOwn a (set_level a l) (v.register ∷ [])
makes_one a l v le found none = record {
  sound = λ r e. or_cases ((l : ℕ) × (v : Seen) × (at_level a l ≡ Some v) × (v.is_set ≡ false) × (v.register ≡ r)) (nat_eq r v.register) false e
      (λ q. (l, v, found, none, sym (eqb-true r v.register q)))
      (λ q. absurd (true≢false (sym q)));
  complete = λ m u w e f g s. ⊎_elim
      (λ q. let same = some_seen u v (sym e ∙ ap (at_level a) q.0 ∙ found) in or_left (nat_eq u.register v.register) false (eq-eqb u.register v.register (ap (λ (y : Seen). y.register) same)))
      (λ q. absurd (true≢false (sym s ∙ ap (λ (y : Seen). y.is_set) (some_seen w u (sym q.1 ∙ e)) ∙ f))) (found_set a l m v w le found g);
}

-- the steps of a term

abbrev around_by : Listed → Around
around_by l = l.around

abbrev steps_by : Listed → List Step
steps_by l = l.steps

-- what is made, and that nothing else changes
pub record OwnsTo (a b : Around) (os : List Step) : Type 0 where
  pub makes : MakesOwn a b (made_by os)
  pub same : SameAround a b
  pub stays : StaysSet a b

abbrev pub Owns : Around → Listed → Type 0
Owns a l = OwnsTo a l.around l.steps

pub same_stays : (a : Around) → StaysSet a a
same_stays a l v w e s f = ap (λ (y : Seen). y.is_set) (some_seen w v (sym f ∙ e)) ∙ s

plain_owns : (a : Around) (o : Step) → made_by (o ∷ []) ≡ [] → Owns a (one_step a o)
plain_owns a o e = record { makes = subst (MakesOwn a a) (sym e) (makes_none a); same = around_same a; stays = same_stays a }

pub stays_then : (a b c : Around) → SameAround a b → StaysSet a b → StaysSet b c → StaysSet a c
stays_then a b c same x y l v w e s f = let m = after a b l v same e in y l m.0 w m.1 (x l v m.0 e s m.1) f

pub started_on : (a b : Around) → SameAround a b → StaysSet a b → AreStarted a → AreStarted b
started_on a b same stays start l w low e =
    let v = before a b l w same e in
    stays l v.0 w v.1 (start l v.0 (subst (λ n. l < n) same.base low) v.1) e

found_owns : (a : Around) (l : ℕ) (o : Option Seen) → at_level a l ≡ o → AreStarted a → Owns a (found_listed a l o)
found_owns a l None e start = plain_owns a (from_register 0) refl
found_owns a l (Some v) e start = go v.is_set refl
  where
    made : Listed
    made = record { steps = make_variable v.register v.of ∷ from_register v.register ∷ []; around = set_level a l }

    own : v.is_set ≡ false → (t : Bool) → nat_le a.base l ≡ t → a.base ≤ l
    own none true q = leb-true a.base l q
    own none false q = absurd (true≢false (sym (start l v (leb-false a.base l q) e) ∙ none))

    go : (t : Bool) → v.is_set ≡ t → Owns a (seen_listed a l v)
    go true s = subst (Owns a) (sym (ap (λ t. if t then one_step a (from_register v.register) else made) s)) (plain_owns a (from_register v.register) refl)
    go false s =
        let le = own s (nat_le a.base l) refl in
        subst (Owns a) (sym (ap (λ t. if t then one_step a (from_register v.register) else made) s))
        (record { makes = makes_one a l v le e s; same = same_set a l; stays = stays_set a l v le e })

level_owns : (a : Around) (o : Option ℕ) → AreStarted a → Owns a (level_listed a o)
level_owns a None start = plain_owns a (from_register 0) refl
level_owns a (Some l) start = found_owns a l (at_level a l) refl start

pub index_owns : (C : List Ty) (a : Around) (i : ℕ) (o : Option Ty) → AreStarted a → Owns a (bound_listed C a i o)
index_owns C a i (Some T) start = plain_owns a (make_index i T) refl
index_owns C a i None start = level_owns a (level_in a (i - length C)) start

pub atom_owns : (C : List Ty) (a : Around) (c : Atom) → AreStarted a → Owns a (atom_listed C a c)
atom_owns C a (constant c Ts) start = plain_owns a (make_constant c Ts) refl
atom_owns C a (integer z) start = plain_owns a (make_integer z) refl
atom_owns C a (text b) start = plain_owns a (make_text b) refl
atom_owns C a (eigen k) start = index_owns C a 0 (slice_get C 0) start
atom_owns C a (logic x l) start = index_owns C a 0 (slice_get C 0) start
atom_owns C a (param k T) start = index_owns C a 0 (slice_get C 0) start

owns_then : (a b c : Around) (os ps : List Step) → OwnsTo a b os → OwnsTo b c ps → OwnsTo a c (os ++ ps)
owns_then a b c os ps x y = record {
  makes = subst (MakesOwn a c) (sym (made_both os ps)) (makes_then a b c (made_by os) (made_by ps) x.same x.stays x.makes y.makes);
  same = around_then a b c x.same y.same;
  stays = stays_then a b c x.same x.stays y.stays;
}

owns_more : (a b : Around) (os : List Step) (o : Step) → made_by (o ∷ []) ≡ [] → OwnsTo a b os → OwnsTo a b (os ++ o ∷ [])
owns_more a b os o e x = owns_then a b b os (o ∷ []) x (plain_owns b o e)

module _ (K : ℕ → List Ty → Ty) where
  mutual
    pub listed_owns : (C : List Ty) (a : Around) (T : Ty) (t : Term) → AreStarted a → Owns a (listed K C a T t)
    listed_owns C a T (index i) s = index_owns C a i (slice_get C i) s
    listed_owns C a T (atom c) s = atom_owns C a c s
    listed_owns C a T (abs b) s =
        let l = listed K (from_of T ∷ C) a (to_of T) b in
        owns_more a l.around l.steps (abstract_last (from_of T)) refl (listed_owns (from_of T ∷ C) a (to_of T) b s)
    listed_owns C a T (app t u) s =
        let h = headed K C a t in
        let x = headed_owns C a t s in
        let l = listed K C h.around (from_of h.function) u in
        let y = listed_owns C h.around (from_of h.function) u (started_on a h.around x.same x.stays s) in
        owns_more a l.around (h.steps ++ l.steps) (apply_last (h.count + 1)) refl (owns_then a h.around l.around h.steps l.steps x y)

    pub headed_owns : (C : List Ty) (a : Around) (t : Term) → AreStarted a → OwnsTo a (headed K C a t).around (headed K C a t).steps
    headed_owns C a (index i) s = index_owns C a i (slice_get C i) s
    headed_owns C a (atom c) s = atom_owns C a c s
    headed_owns C a (abs b) s =
        let l = listed K (o_type ∷ C) a o_type b in
        owns_more a l.around l.steps (abstract_last o_type) refl (listed_owns (o_type ∷ C) a o_type b s)
    headed_owns C a (app t u) s =
        let h = headed K C a t in
        let x = headed_owns C a t s in
        let l = listed K C h.around (from_of h.function) u in
        let y = listed_owns C h.around (from_of h.function) u (started_on a h.around x.same x.stays s) in
        owns_then a h.around l.around h.steps l.steps x y
