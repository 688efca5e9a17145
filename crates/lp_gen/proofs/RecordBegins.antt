-- Where a record begins: its own variables are to be made, and those that it starts with stand in the first registers.
use Rattle.std.proofs.Common.{◌≡◌, ◌∙◌, ◌⊎◌, inl, inr, ⊎_elim, ◌<◌, ◌≤◌, ℕ, zero, suc, ◌+◌, ◌-◌, List, [], ◌∷◌, ◌++◌, length, map, Bool, true, false, Option, Some, None, get_or, ap, refl, sym, subst, arith, true≢false}
use Rattle.std.specs.Prelude.{nat_eq, nat_le, nat_lt, ◌&&◌, ◌||◌, if◌then◌else◌, All, replicate, slice_get, slice_index_or}
use Rattle.std.proofs.lemmas.Bool.{eqb-true, ne_eqb, leb-true, leb-false, le-leb, lt-leb, lt-ltb, le-ltb, ltb-true, ltb-false}
use Rattle.lp_calculus.specs.Types.{Ty}
use Rattle.lp_calculus.specs.Term.{Term, index, atom, logic}
use Rattle.lp_code.specs.Symbolic.{Built, variable, held, whole}
use Rattle.lp_code.specs.States.{Home, member, placed, index_or, bind_term}
use Rattle.lp_code.specs.Rules.{is_variable_of}
use Rattle.lp_code.specs.Denote.{from_zero, started, is_all_variable}
use Rattle.lp_gen.specs.Sources.{IsKnownType}
use Rattle.lp_gen.specs.inner.Running.{HasRegisters}
use Rattle.lp_gen.specs.Steps.{Seen, Around, count_around, level_below, at_level, level_in}
use Rattle.lp_gen.specs.inner.TermLaw.{Standing, IsSeen}
use Rattle.lp_gen.specs.inner.Bodies.{new_level, IsShort}
use Rattle.lp_gen.specs.inner.Heading.{AreOwn}
use Rattle.lp_gen.specs.inner.Entering.{unmade}
use Rattle.lp_gen.specs.inner.BodyLaw.{more_of, AreAlls, AreOuter, StartWith}
use Rattle.lp_gen.specs.inner.BodyCode.{levels_found, level_found, AreStarts}
use Rattle.lp_gen.proofs.Denoting.{or_none}
use Rattle.lp_gen.proofs.Binding.{bind_another}
use Rattle.lp_gen.proofs.OwnPlaces.{OwnAre, own_from, type_at}

pub built_at : (xs : List Built) (r : ℕ) → r < length xs → (b : Built) × (slice_get xs r ≡ Some b)
built_at [] r l = absurd (omega (arith, l))
built_at (x ∷ xs) zero l = (x, refl)
built_at (x ∷ xs) (suc r) l = built_at xs r (omega (arith, l))

pub no_built : (b : Built) → ◌≡◌ {A = Option Built} (Some b) None → ⊥
no_built b e = cc

-- terms for levels: the own variables are made by the record

abbrev pub own_term : (home : ℕ) → Option Seen → Term
own_term n None = index 0
own_term n (Some v) = variable v.register n

abbrev pub own_terms : (home : ℕ) → Around → (ℕ → Term) → ℕ → Term
own_terms n a σ l = if nat_lt l a.base then σ l else own_term n (slice_get a.own (l - a.base))

no_seen : (v : Seen) → ◌≡◌ {A = Option Seen} None (Some v) → ⊥
no_seen v e = cc

same_seen : (v w : Seen) → ◌≡◌ {A = Option Seen} (Some v) (Some w) → w ≡ v
same_seen v w e = cc

no_level : (l : ℕ) → ◌≡◌ {A = Option ℕ} None (Some l) → ⊥
no_level l e = cc

same_level : (k l : ℕ) → ◌≡◌ {A = Option ℕ} (Some k) (Some l) → l ≡ k
same_level k l e = cc

same_type : (T U : Ty) → ◌≡◌ {A = Option Ty} (Some T) (Some U) → U ≡ T
same_type T U e = cc

no_type : (T : Ty) → ◌≡◌ {A = Option Ty} None (Some T) → ⊥
no_type T e = cc

no_held : (b : Built) → ◌≡◌ {A = Option Built} None (Some b) → ⊥
no_held b e = cc

same_built : (b c : Built) → ◌≡◌ {A = Option Built} (Some b) (Some c) → c ≡ b
same_built b c e = cc

pub old_term : (n : ℕ) (a : Around) (σ : ℕ → Term) (l : ℕ) → l < a.base → own_terms n a σ l ≡ σ l
old_term n a σ l low = ap (λ t. if t then σ l else own_term n (slice_get a.own (l - a.base))) (lt-ltb l a.base low)

pub new_term : (n : ℕ) (a : Around) (σ : ℕ → Term) (l : ℕ) (v : Seen) → a.base ≤ l → slice_get a.own (l - a.base) ≡ Some v → own_terms n a σ l ≡ variable v.register n
new_term n a σ l v le e = ap (λ t. if t then σ l else own_term n (slice_get a.own (l - a.base))) (le-ltb l a.base le) ∙ ap (own_term n) e

-- levels and indices

pub level_is : (a : Around) (i : ℕ) → IsShort a → i < new_level a → level_in a i ≡ Some (new_level a - i - 1)
level_is a i short low =
    let c : count_around a ≡ new_level a = omega (arith, short) in
    ap (λ n. level_below n i) c ∙ ap (λ t. if t then Some (new_level a - i - 1) else None) (lt-ltb i (new_level a) low)

pub level_from : (a : Around) (i l : ℕ) → IsShort a → level_in a i ≡ Some l → (i < new_level a) × (l ≡ new_level a - i - 1)
level_from a i l short e = go (nat_lt i (new_level a)) refl
  where
    c : count_around a ≡ new_level a
    c = omega (arith, short)

    here : (if nat_lt i (new_level a) then Some (new_level a - i - 1) else None) ≡ Some l
    here = ap (λ n. level_below n i) (sym c) ∙ e

    go : (t : Bool) → nat_lt i (new_level a) ≡ t → (i < new_level a) × (l ≡ new_level a - i - 1)
    go true q = (ltb-true i (new_level a) q, same_level (new_level a - i - 1) l (sym (ap (λ t. if t then Some (new_level a - i - 1) else None) q) ∙ here))
    go false q = absurd (no_level l (sym (ap (λ t. if t then Some (new_level a - i - 1) else None) q) ∙ here))

-- types before others

pub type_front : (Ts Γ : List Ty) (i : ℕ) (T : Ty) → slice_get Ts i ≡ Some T → slice_get (Ts ++ Γ) i ≡ Some T
type_front [] Γ i T e = absurd (no_type T e)
type_front (U ∷ Us) Γ zero T e = e
type_front (U ∷ Us) Γ (suc i) T e = type_front Us Γ i T e

pub type_behind : (Ts Γ : List Ty) (i : ℕ) → length Ts ≤ i → slice_get (Ts ++ Γ) i ≡ slice_get Γ (i - length Ts)
type_behind [] Γ i le = let z : i ≡ i - 0 = omega arith in ap (slice_get Γ) z
type_behind (U ∷ Us) Γ zero le = absurd (omega (arith, le))
type_behind (U ∷ Us) Γ (suc i) le = type_behind Us Γ i (omega (arith, le)) ∙ (let z : i - length Us ≡ suc i - length (U ∷ Us) = omega arith in ap (slice_get Γ) z)

pub binder_behind : (Ts : List Ty) (B : List Bool) (i : ℕ) → slice_index_or (map (λ (T : Ty). false) Ts ++ B) i false ≡ true → (length Ts ≤ i) × (slice_index_or B (i - length Ts) false ≡ true)
binder_behind [] B i e = (omega arith, let z : i ≡ i - 0 = omega arith in subst (λ k. slice_index_or B k false ≡ true) z e)
binder_behind (T ∷ Ts) B zero e = absurd (true≢false (sym e))
binder_behind (T ∷ Ts) B (suc i) e =
    let y = binder_behind Ts B i e in
    let le = y.0 in
    (omega (arith, le), let z : i - length Ts ≡ suc i - length (T ∷ Ts) = omega arith in subst (λ k. slice_index_or B k false ≡ true) z y.1)

known_at : (P : Ty → Type 0) (Ts : List Ty) (i : ℕ) (T : Ty) → All P Ts → slice_get Ts i ≡ Some T → P T
known_at P Ts i T all e = let v = value_at Ts i T e in subst P v.0 (all i T v.1)
  where
    value_at : (xs : List Ty) (i : ℕ) (x : Ty) → slice_get xs i ≡ Some x → (get_or xs i x ≡ x) × (i < length xs)
    value_at [] i x f = absurd (no_type x f)
    value_at (y ∷ ys) zero x f = (sym (same_type y x f), omega arith)
    value_at (y ∷ ys) (suc i) x f = let w = value_at ys i x f in let l = w.1 in (w.0, omega (arith, l))

pub more_at : (Ts : List Ty) (Q : ℕ → Type 0) (i : ℕ) → more_of Ts Q i → (i < length Ts) ⊎ ((length Ts ≤ i) × Q (i - length Ts))
more_at [] Q i q = inr (omega arith, let z : i ≡ i - 0 = omega arith in subst Q z q)
more_at (T ∷ Ts) Q zero q = inl (omega arith)
more_at (T ∷ Ts) Q (suc i) q =
    ⊎_elim (λ l. inl (let z : suc i < length (T ∷ Ts) = omega (arith, l) in z))
    (λ w. let le = w.0 in inr (let z : length (T ∷ Ts) ≤ suc i = omega (arith, le) in z, let z : i - length Ts ≡ suc i - length (T ∷ Ts) = omega arith in subst Q z w.1)) (more_at Ts Q i q)

-- the first registers

no_item : {X : Type 0} (x : X) → ◌≡◌ {A = Option X} None (Some x) → ⊥
no_item x e = cc

pub front_held : {X : Type 0} (bs : List X) (n i : ℕ) (b : X) → slice_get bs i ≡ Some b → held (started bs n) i ≡ Some b
front_held [] n i b e = absurd (no_item b e)
front_held (c ∷ cs) n zero b e = e
front_held (c ∷ cs) n (suc i) b e = front_held cs n i b e

none_held : {X : Type 0} (n i : ℕ) → held {A = X} (replicate n None) i ≡ None
none_held zero i = refl
none_held (suc n) zero = refl
none_held (suc n) (suc i) = none_held n i

pub behind_held : {X : Type 0} (bs : List X) (n i : ℕ) → length bs ≤ i → held (started bs n) i ≡ None
behind_held [] n i le = none_held n i
behind_held (c ∷ cs) n zero le = absurd (omega (arith, le))
behind_held (c ∷ cs) n (suc i) le = behind_held cs n i (omega (arith, le))

none_length : (X : Type 0) (n : ℕ) → length {A = Option X} (replicate n None) ≡ n
none_length X zero = refl
none_length X (suc n) = ap suc (none_length X n)

started_length : {X : Type 0} (bs : List X) (n : ℕ) → length (started bs n) ≡ length bs + n
started_length {X} [] n = let z = none_length X n in let y : length {A = X} [] ≡ 0 = refl in omega (arith, z, y)
started_length (c ∷ cs) n = let z = started_length cs n in omega (arith, z)

pub started_registers : {X : Type 0} (bs : List X) (n : ℕ) → length bs ≤ n → HasRegisters (started bs n) n
started_registers {X} bs n le = record {
  enough = let z = started_length bs n in omega (arith, z);
  inside = λ r b e. go r b e (nat_lt r (length bs)) refl;
}
  where
    go : (r : ℕ) (b : X) → held (started bs n) r ≡ Some b → (t : Bool) → nat_lt r (length bs) ≡ t → r < n
    go r b e true q = let z = ltb-true r (length bs) q in omega (arith, z, le)
    go r b e false q = absurd (no_item b (sym (behind_held bs n r (ltb-false r (length bs) q)) ∙ e))

pub not_zero : (k r : ℕ) → k ≤ r → member r (from_zero k) ≡ false
not_zero zero r le = refl
not_zero (suc k) r le = push (from_zero k) (not_zero k r (omega (arith, le)))
  where
    push : (xs : List ℕ) → member r xs ≡ false → member r (xs ++ k ∷ []) ≡ false
    push [] e = or_none (nat_eq r k) false (ne_eqb r k (λ z. absurd (omega (arith, z, le)))) refl
    push (x ∷ xs) e = or_none (nat_eq r x) (member r (xs ++ k ∷ [])) (left (nat_eq r x) (member r xs) e) (push xs (right (nat_eq r x) (member r xs) e))
      where
        left : (c d : Bool) → (c || d) ≡ false → c ≡ false
        left true d e = e
        left false d e = refl

        right : (c d : Bool) → (c || d) ≡ false → d ≡ false
        right true d e = absurd (true≢false e)
        right false d e = e

-- what a record starts with, in its registers
start_at : (σ : ℕ → Term) (A : Around) (ls : List ℕ) (bs : List Built) (i l : ℕ) (v : Seen) → StartWith σ A ls bs → slice_get ls i ≡ Some l → at_level
    A l ≡ Some v → slice_get bs i ≡ Some (whole (σ l) v.of)
start_at σ A [] [] i l v x e f = absurd (no_level l e)
start_at σ A [] (b ∷ bs) i l v x e f = absurd x
start_at σ A (k ∷ ks) [] i l v x e f = absurd x
start_at σ A (k ∷ ks) (b ∷ bs) zero l v (w, at, is, more) e f =
    let same : l ≡ k = same_level k l e in
    let seen : w ≡ v = same_seen v w (sym f ∙ ap (at_level A) same ∙ at) in
    ap (λ c. Some c) is ∙ (λ j. Some (whole (σ (sym same j)) (seen j).of))
start_at σ A (k ∷ ks) (b ∷ bs) (suc i) l v (w, at, is, more) e f = start_at σ A ks bs i l v more e f

pub start_length : (σ : ℕ → Term) (A : Around) (ls : List ℕ) (bs : List Built) → StartWith σ A ls bs → length bs ≡ length ls
start_length σ A [] [] x = refl
start_length σ A [] (b ∷ bs) x = absurd x
start_length σ A (k ∷ ks) [] x = absurd x
start_length σ A (k ∷ ks) (b ∷ bs) (w, at, is, more) = ap suc (start_length σ A ks bs more)

or_right : (c d : Bool) → d ≡ true → (c || d) ≡ true
or_right true d e = refl
or_right false d e = e

-- a level that is looked for and found
pub found_at : (A : Around) (ks : List ℕ) (l : ℕ) (v : Seen) → member l ks ≡ true → at_level A l ≡ Some v → (i : ℕ) × (slice_get (levels_found A ks) i ≡ Some l)
found_at A [] l v e f = absurd (true≢false (sym e))
found_at A (k ∷ ks) l v e f = go (nat_eq l k) refl (λ q. found_at A ks l v q f)
  where
    skip : (o : Option Seen) → (i : ℕ) × (slice_get (levels_found A ks) i ≡ Some l) → (i : ℕ) × (slice_get (level_found o k ++ levels_found A ks) i ≡ Some l)
    skip None w = w
    skip (Some u) w = (suc w.0, w.1)

    go : (t : Bool) → nat_eq l k ≡ t → (member l ks ≡ true → (i : ℕ) × (slice_get (levels_found A ks) i ≡ Some l)) → (i : ℕ) × (slice_get (levels_found A (k ∷ ks)) i ≡ Some l)
    go true q rest = (0, ap (λ o. slice_get (level_found o k ++ levels_found A ks) 0) (ap (at_level A) (sym (eqb-true l k q)) ∙ f) ∙ ap (λ j. Some j) (sym (eqb-true l k q)))
    go false q rest = skip (at_level A k) (rest (sym (ap (λ t. t || member l ks) q) ∙ e))

not_variable : (t : Term) (r j n x : ℕ) → t ≡ variable r j → j < n → is_variable_of t x n ≡ false
not_variable t r j n x e low =
    ap (λ u. is_variable_of u x n) e ∙ ap (λ c. nat_eq r x && c) (ne_eqb j n (λ z. absurd (omega (arith, z, low)))) ∙ and_false (nat_eq r x)
  where
    and_false : (c : Bool) → (c && false) ≡ false
    and_false true = refl
    and_false false = refl

not_bound : (t : Term) (r j n x d : ℕ) → t ≡ variable r j → j < n → bind_term (x ∷ []) n d t ≡ t
not_bound t r j n x d e low =
    ap (bind_term (x ∷ []) n d) e ∙ ap (λ c. index_or (if c then placed (x ∷ []) d r else None) (atom (logic r j))) (ne_eqb j n (λ z. absurd (omega (arith, z, low)))) ∙ sym e

-- what is known around a record that is assumed; a clause of a program has nothing around it
pub record Outside (h : Home) (vars : ℕ) (σ : ℕ → Term) (Γ : List Ty) (B : List Bool) (A : Around) (Q : ℕ → Type 0) (keys : List ℕ) : Type 0 where
  pub short : IsShort A
  pub seen : (i : ℕ) → Q i → IsSeen A Γ i
  pub captured : (i l : ℕ) → Q i → level_in A i ≡ Some l → member l keys ≡ true
  pub known : (i : ℕ) (U : Ty) → slice_get Γ i ≡ Some U → IsKnownType h.tables.kinds vars U
  pub levels : (l : ℕ) (v : Seen) → at_level A l ≡ Some v → IsKnownType h.tables.kinds vars v.of
  pub alls : AreAlls h σ A B
  pub earlier : (i l : ℕ) → level_in A i ≡ Some l → (r : ℕ) × (j : ℕ) × (σ l ≡ variable r j) × (j < h.number)

-- the own variables, and those that the record starts with
pub record Inside (a A : Around) (k : ℕ) (Ts : List Ty) (reg : ℕ → ℕ) (keys : List ℕ) : Type 0 where
  pub own : OwnAre k Ts a.own reg
  pub base : a.base ≡ new_level A
  pub starts : AreStarts A (levels_found A keys) a.captured k
  pub short : IsShort a

module _ (h : Home) (K : ℕ → List Ty → Ty) (vars : ℕ) (σ : ℕ → Term) (Γ : List Ty) (B : List Bool) (A a : Around) (Q : ℕ → Type 0) (keys : List ℕ)
    (k : ℕ) (Ts : List Ty) (reg : ℕ → ℕ) (out : Outside h vars σ Γ B A Q keys) (ins : Inside a A k Ts reg keys) where
  pub level_count : new_level a ≡ new_level A + length Ts
  level_count = let b = ins.base in let o = ins.own.count in omega (arith, b, o)

  at_own : (l : ℕ) → a.base ≤ l → at_level a l ≡ slice_get a.own (l - a.base)
  at_own l le = ap (λ t. if t then slice_get a.own (l - a.base) else a.captured l) (le-leb a.base l le)

  at_old : (l : ℕ) → l < a.base → at_level a l ≡ a.captured l
  at_old l low = ap (λ t. if t then slice_get a.own (l - a.base) else a.captured l) (lt-leb a.base l low)

  -- a variable is one of its own, or one that it starts with
  by_level : (X : Type 0) (l : ℕ) (v : Seen) → at_level a l ≡ Some v → ((i : ℕ) (T : Ty) → a.base ≤ l → i < length Ts → slice_get Ts i ≡ Some T → l ≡
      a.base + (length Ts - 1 - i) → v ≡ unmade (reg i) T → X) →
      ((i : ℕ) (w : Seen) → l < a.base → slice_get (levels_found A keys) i ≡ Some l → at_level A l ≡ Some w → v ≡ record { register = i; of = w.of; is_set = true } → X) → X
  by_level X l v e f g = go (nat_le a.base l) refl
    where
      go : (t : Bool) → nat_le a.base l ≡ t → X
      go true q =
          let le = leb-true a.base l q in
          let w = own_from k Ts a.own reg ins.own (l - a.base) v (sym (at_own l le) ∙ e) in
          let p = w.3 in
          let i_low = w.5 in
          let i : ℕ = w.0 in
          f i w.1 le i_low w.2 (let z : l ≡ a.base + (length Ts - 1 - i) = omega (arith, le, p) in z) w.4
      go false q =
          let low = leb-false a.base l q in
          let here = sym (at_old l low) ∙ e in
          let x = ins.starts.only l v here in
          let y = ins.starts.given x.0 l x.1 in
          g x.0 y.0 low x.1 y.1 (same_seen (record { register = x.0; of = (y.0).of; is_set = true }) v (sym y.2 ∙ here))

  abbrev pub σ' : ℕ → Term
  σ' = own_terms h.number a σ

  pub own_is : (l : ℕ) (v : Seen) → at_level a l ≡ Some v → a.base ≤ l → σ' l ≡ variable v.register h.number
  own_is l v e le = new_term h.number a σ l v le (sym (ap (λ t. if t then slice_get a.own (l - a.base) else a.captured l) (le-leb a.base l le)) ∙ e)

  -- the index of a level that was there before
  old_index : (l : ℕ) → l < a.base → (i : ℕ) × (level_in A i ≡ Some l)
  old_index l low =
      let b = ins.base in
      let i : ℕ = new_level A - l - 1 in
      (i, level_is A i out.short (omega (arith, low, b)) ∙ (let z : new_level A - i - 1 ≡ l = omega (arith, low, b) in ap (λ j. Some j) z))

  pub old_variable : (l : ℕ) → l < a.base → (r : ℕ) × (j : ℕ) × (σ l ≡ variable r j) × (j < h.number)
  old_variable l low = let i = old_index l low in out.earlier i.0 l i.1

  pub are_own : AreOwn h σ' a
  are_own = record {
    own = own_is;
    others = λ l r v e low. let w = old_variable l low in ap (λ t. is_variable_of t r h.number) (old_term h.number a σ l low) ∙ not_variable (σ l) w.0 w.1 h.number r w.2 w.3;
  }

  pub are_started : Rattle.lp_gen.specs.inner.Owned.AreStarted a
  are_started l v low e = by_level (v.is_set ≡ true) l v e (λ i T le ilow at is same. absurd (omega (arith, le, low))) (λ i w lt at f same. ap (λ (y : Seen). y.is_set) same)

  pub own_unmade : (l : ℕ) (v : Seen) → at_level a l ≡ Some v → a.base ≤ l → v.is_set ≡ false
  own_unmade l v e le = by_level (v.is_set ≡ false) l v e (λ i T le2 ilow at is same. ap (λ (y : Seen). y.is_set) same) (λ i w lt at f same. absurd (omega (arith, le, lt)))

  -- an index of an own variable, and one of another
  pub by_index : (X : Type 0) (i l : ℕ) → level_in a i ≡ Some l → (i < length Ts → l ≡ a.base + (length Ts - 1 - i) → X) → (length Ts ≤ i → l < a.base → level_in A (i - length Ts) ≡ Some l → X) → X
  by_index X i l e f g = go (nat_lt i (length Ts)) refl
    where
      from : (i < new_level a) × (l ≡ new_level a - i - 1)
      from = level_from a i l ins.short e

      go : (t : Bool) → nat_lt i (length Ts) ≡ t → X
      go true q =
          let low = ltb-true i (length Ts) q in
          let c = level_count in
          let b = ins.base in
          let is = from.1 in
          f low (let z : l ≡ a.base + (length Ts - 1 - i) = omega (arith, low, c, b, is) in z)
      go false q =
          let le = ltb-false i (length Ts) q in
          let c = level_count in
          let b = ins.base in
          let is = from.1 in
          let high = from.0 in
          g le (let z : l < a.base = omega (arith, le, c, b, is, high) in z) (level_is A (i - length Ts) out.short (omega (arith, le, c, high)) ∙
          (let z : new_level A - (i - length Ts) - 1 ≡ l = omega (arith, le, c, b, is, high) in ap (λ j. Some j) z))

  pub own_level : (i : ℕ) (T : Ty) → slice_get Ts i ≡ Some T → i < length Ts → at_level a (a.base + (length Ts - 1 - i)) ≡ Some (unmade (reg i) T)
  own_level i T e low =
      let p : ℕ = length Ts - 1 - i in
      let z : (a.base + p) - a.base ≡ p = omega arith in
      at_own (a.base + p) (omega arith) ∙ ap (slice_get a.own) z ∙ ins.own.at i p T e refl

  pub all_seen : (i : ℕ) → more_of Ts Q i → IsSeen a (Ts ++ Γ) i
  all_seen i q = ⊎_elim own_seen old_seen (more_at Ts Q i q)
    where
      own_seen : i < length Ts → IsSeen a (Ts ++ Γ) i
      own_seen low =
          let t = type_at Ts i low in
          let c = level_count in
          let b = ins.base in (
            a.base + (length Ts - 1 - i),
            unmade (reg i) t.0,
            level_is a i ins.short (omega (arith, low, c)) ∙ (let z : new_level a - i - 1 ≡ a.base + (length Ts - 1 - i) = omega (arith, low, c, b) in ap (λ j. Some j) z),
            own_level i t.0 t.1 low,
            type_front Ts Γ i t.0 t.1,
          )

      old_seen : (length Ts ≤ i) × Q (i - length Ts) → IsSeen a (Ts ++ Γ) i
      old_seen (le, q) =
          let s = out.seen (i - length Ts) q in
          let l = s.0 in
          let v = s.1 in
          let from = level_from A (i - length Ts) l out.short s.2 in
          let is = from.1 in
          let high = from.0 in
          let c = level_count in
          let b = ins.base in
          let low : l < a.base = omega (arith, is, high, b) in
          let place = found_at A keys l v (out.captured (i - length Ts) l q s.2) s.3 in
          let y = ins.starts.given place.0 l place.1 in
          let same : (y.0).of ≡ v.of = ap (λ (u : Seen). u.of) (same_seen v y.0 (sym s.3 ∙ y.1)) in (
            l,
            record { register = place.0; of = (y.0).of; is_set = true },
            level_is a i ins.short (omega (arith, high, c, le)) ∙ (let z : new_level a - i - 1 ≡ l = omega (arith, is, high, c, le) in ap (λ j. Some j) z),
            at_old l low ∙ y.2,
            type_behind Ts Γ i le ∙ s.4 ∙ ap (λ T. Some T) (sym same),
          )

  pub all_known : All (IsKnownType h.tables.kinds vars) Ts → (i : ℕ) (U : Ty) → slice_get (Ts ++ Γ) i ≡ Some U → IsKnownType h.tables.kinds vars U
  all_known all i U e = go (nat_lt i (length Ts)) refl
    where
      go : (t : Bool) → nat_lt i (length Ts) ≡ t → IsKnownType h.tables.kinds vars U
      go true q =
          let t = type_at Ts i (ltb-true i (length Ts) q) in
          subst (IsKnownType h.tables.kinds vars) (same_type U t.0 (sym e ∙ type_front Ts Γ i t.0 t.1)) (known_at (IsKnownType h.tables.kinds vars) Ts i t.0 all t.1)
      go false q = out.known (i - length Ts) U (sym (type_behind Ts Γ i (ltb-false i (length Ts) q)) ∙ e)

  pub all_free : (i l x d : ℕ) → k + length Ts ≤ x → level_in a i ≡ Some l → bind_term (x ∷ []) h.number d (σ' l) ≡ σ' l
  all_free i l x d le e = by_index (bind_term (x ∷ []) h.number d (σ' l) ≡ σ' l) i l e
      (λ low is.
      let t = type_at Ts i low in
      let here = own_is l (unmade (reg i) t.0) (ap (at_level a) is ∙ own_level i t.0 t.1 low) (omega (arith, is)) in
      ap (bind_term (x ∷ []) h.number d) here ∙ bind_another x (reg i) h.number d (λ z. let w = (ins.own.low i low).1 in absurd (omega (arith, z, w, le))) ∙ sym here)
      (λ high low at.
      let w = old_variable l low in
      let here = old_term h.number a σ l low in
      ap (bind_term (x ∷ []) h.number d) here ∙ not_bound (σ l) w.0 w.1 h.number x d w.2 w.3 ∙ sym here)

  pub all_alls : AreAlls h σ' a (map (λ (T : Ty). false) Ts ++ B)
  all_alls i l is e =
      let b = binder_behind Ts B i is in
      let le = b.0 in
      by_index (is_all_variable h.records (σ' l) ≡ true) i l e (λ low at. absurd (omega (arith, low, le)))
      (λ high low at. ap (is_all_variable h.records) (old_term h.number a σ l low) ∙ out.alls (i - length Ts) l b.1 at)

  pub all_outer : AreOuter h σ' a
  all_outer i l e = by_index ((r : ℕ) × (j : ℕ) × (σ' l ≡ variable r j) × (j ≤ h.number)) i l e
      (λ low is.
      let t = type_at Ts i low in
      (reg i, h.number, own_is l (unmade (reg i) t.0) (ap (at_level a) is ∙ own_level i t.0 t.1 low) (omega (arith, is)), omega arith))
      (λ high low at.
      let w = old_variable l low in
      let less = w.3 in
      (w.0, w.1, old_term h.number a σ l low ∙ w.2, omega (arith, less)))

  place_low : (xs : List ℕ) (i l : ℕ) → slice_get xs i ≡ Some l → i < length xs
  place_low [] i l e = absurd (no_level l e)
  place_low (x ∷ xs) zero l e = omega arith
  place_low (x ∷ xs) (suc i) l e = let z = place_low xs i l e in omega (arith, z)

  -- a variable that the record starts with is in one of the first registers
  pub old_register : (l : ℕ) (v : Seen) → l < a.base → at_level a l ≡ Some v → v.register < k
  old_register l v low e = by_level (v.register < k) l v e (λ i T le ilow at is same. absurd (omega (arith, le, low)))
      (λ i w lt at f same. let z = ap (λ (y : Seen). y.register) same in let q = place_low (levels_found A keys) i l at in let c = ins.starts.count_is in omega (arith, z, q, c))

  pub stands_first : (bs : List Built) (n : ℕ) → StartWith σ A (levels_found A keys) bs → All (IsKnownType h.tables.kinds vars) Ts → k + length Ts ≤ n
      → Standing h vars (k + length Ts) false σ' a (started bs n)
  stands_first bs n with all le = record {
    low = λ l v e. by_level (v.register < k + length Ts) l v e (λ i T le ilow at is same. let z = ap (λ (y : Seen). y.register) same in let u = (ins.own.low i ilow).1 in omega (arith, z, u))
        (λ i w lt at f same. let z = ap (λ (y : Seen). y.register) same in let q = place_low (levels_found A keys) i l at in let c = ins.starts.count_is in omega (arith, z, q, c));
    set = λ l v e set. by_level (held (started bs n) v.register ≡ Some (whole (σ' l) v.of)) l v e (λ i T le ilow at is same. absurd (true≢false (sym set ∙ ap (λ (y : Seen). y.is_set) same)))
        (λ i w lt at f same. ap (λ (y : Seen). held (started bs n) y.register) same ∙ front_held bs n i (whole (σ l) w.of) (start_at σ A (levels_found A keys) bs i l w with at f)
        ∙ (λ j. Some (whole (sym (old_term h.number a σ l lt) j) (sym same j).of)));
    unset = λ l v e none. by_level (held (started bs n) v.register ≡ None) l v e
        (λ i T le ilow at is same. ap (λ (y : Seen). held (started bs n) y.register) same ∙ behind_held bs n (reg i) (let c = many in let u = (ins.own.low i ilow).0 in omega (arith, c, u)))
        (λ i w lt at f same. absurd (true≢false (sym (ap (λ (y : Seen). y.is_set) same) ∙ none)));
    unmade = λ l v e none. by_level ((false ≡ false) × (σ' l ≡ variable v.register h.number) × (a.base ≤ l)) l v e (λ i T le ilow at is same. (refl, own_is l v e le, le))
        (λ i w lt at f same. absurd (true≢false (sym (ap (λ (y : Seen). y.is_set) same) ∙ none)));
    apart = λ l m v w e f none also z. by_level (l ≡ m) l v e
        (λ i T le ilow at is same. by_level (l ≡ m) m w f
        (λ j U le2 jlow at2 is2 same2.
        let p = ap (λ (y : Seen). y.register) same in
        let q = ap (λ (y : Seen). y.register) same2 in
        let one : i ≡ j = ins.own.apart i j ilow jlow (omega (arith, p, q, z)) in
        omega (arith, one, is, is2))
        (λ j u lt at2 g same2. absurd (true≢false (sym (ap (λ (y : Seen). y.is_set) same2) ∙ also))))
        (λ i u lt at g same. absurd (true≢false (sym (ap (λ (y : Seen). y.is_set) same) ∙ none)));
    known = λ l v e. by_level (IsKnownType h.tables.kinds vars v.of) l v e
        (λ i T le ilow at is same. subst (λ (y : Seen). IsKnownType h.tables.kinds vars y.of) (sym same) (known_at (IsKnownType h.tables.kinds vars) Ts i T all at))
        (λ i w lt at f same. subst (λ (y : Seen). IsKnownType h.tables.kinds vars y.of) (sym same) (out.levels l w f));
    long = let z = started_length bs n in let c = many in omega (arith, z, le, c);
  }
    where
      many : length bs ≡ k
      many = start_length σ A (levels_found A keys) bs with ∙ sym ins.starts.count_is
