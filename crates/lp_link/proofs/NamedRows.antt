-- Names that are put behind the tables so far, and the counts of the hidden ones.
use Rattle.std.proofs.Common.{◌≡◌, ◌∙◌, ◌+◌, ◌≤◌, ℕ, Bool, true, false, List, [], ◌∷◌, ◌++◌, length, map, Option, Some, ap, refl, sym, subst, arith, append_assoc}
use Rattle.std.specs.Prelude.{min, if◌then◌else◌}
use Rattle.std.specs.Str.{bytes_eq}
use Rattle.std.proofs.lemmas.List.{append-nil, map-append}
use Rattle.std.proofs.lemmas.Slice.Eq.{bytes_eq-Decides}
use Rattle.lp_lemmas.specs.Each.{EachOf}
use Rattle.lp_link.specs.Linked.{Copy}
use Rattle.lp_link.specs.Names.{times, fitted, numbered, hidden_of, of_copies}
use Rattle.lp_link.specs.inner.Named.{or_none, AreCounted, name_of, names_in, PutsHidden, SoFar}

pub times_append : (w : List ℕ) (xs ys : List (List ℕ)) → times w (xs ++ ys) ≡ times w xs + times w ys
times_append w [] ys = omega arith
times_append w (x ∷ xs) ys = let e = times_append w xs ys in omega (arith, e)

pub numbered_append : {A : Type 0} (before : List (List ℕ)) (xs ys : List (List ℕ × A)) → numbered before (xs ++ ys) ≡ numbered before xs ++ numbered (before ++ names_in xs) ys
numbered_append before [] ys = ap (λ b. numbered b ys) (sym (append-nil before))
numbered_append before ((w, v) ∷ xs) ys =
    ap (λ l. (w, (fitted (times w before + 1), v)) ∷ l) (numbered_append (before ++ w ∷ []) xs ys ∙ ap (λ b. numbered (before ++ w ∷ []) xs ++ numbered b ys) (append_assoc before (w ∷ []) (names_in xs)))

pub of_copies_push : {A : Type 0} (f : Copy → List A) (cs : List Copy) (c : Copy) → of_copies f (cs ++ c ∷ []) ≡ of_copies f cs ++ f c
of_copies_push f [] c = append-nil (f c)
of_copies_push f (d ∷ cs) c = ap (λ l. f d ++ l) (of_copies_push f cs c) ∙ sym (append_assoc (f d) (of_copies f cs) (f c))

-- no name, one, and two lists one after the other
pub puts_none : {A : Type 0} (old new : List ℕ → ℕ) (rows now : List (List ℕ × (ℕ × A))) → new ≡ old → now ≡ rows → PutsHidden old new rows now []
puts_none old new rows now e f = λ before h. (f ∙ sym (append-nil rows), λ w. ap (λ n. n w) e ∙ h w ∙ ap (λ l. fitted (times w l)) (sym (append-nil before)))

pub puts_one : {A : Type 0} (old new : List ℕ → ℕ) (rows now : List (List ℕ × (ℕ × A))) (w : List ℕ) (v : A) (n : ℕ) → n ≡ min (old w + 1) 65535
    → ((other : List ℕ) → new other ≡ (if bytes_eq other w then n else old other)) → now ≡ rows ++ (w, (n, v)) ∷ [] → PutsHidden old new rows now ((w, v) ∷ [])
puts_one old new rows now w v n is put e = λ before h. (
  e ∙ ap (λ k. rows ++ (w, (k, v)) ∷ []) (let c = h w in omega (arith, is, c)),
  λ other. put other ∙ by before h other (bytes_eq other w) refl,
)
  where
    by : (before : List (List ℕ)) → AreCounted old before → (other : List ℕ) (t : Bool) → bytes_eq other w ≡ t → (if t then n else old other) ≡ fitted (times other (before ++ w ∷ []))
    by before h other true t =
        let same = ap old ((bytes_eq-Decides other w).0 t) in
        let c = h other in
        let one : ◌≡◌ {A = ℕ} (if bytes_eq other w then 1 else 0) 1 = ap (λ b. if b then 1 else 0) t in
        let all = times_append other before (w ∷ []) in
        omega (arith, is, same, c, one, all)
    by before h other false t =
        let c = h other in
        let none : ◌≡◌ {A = ℕ} (if bytes_eq other w then 1 else 0) 0 = ap (λ b. if b then 1 else 0) t in
        let all = times_append other before (w ∷ []) in
        omega (arith, c, none, all)

pub puts_then : {A : Type 0} (n1 n2 n3 : List ℕ → ℕ) (r1 r2 r3 : List (List ℕ × (ℕ × A))) (xs ys : List (List ℕ × A)) → PutsHidden n1 n2 r1 r2 xs → PutsHidden n2 n3 r2 r3 ys
    → PutsHidden n1 n3 r1 r3 (xs ++ ys)
puts_then n1 n2 n3 r1 r2 r3 xs ys p q = λ before h.
    let (e, k) = p before h in
    let (f, m) = q (before ++ names_in xs) k in (
      f ∙ ap (λ l. l ++ numbered (before ++ names_in xs) ys) e ∙ append_assoc r1 (numbered before xs) (numbered (before ++ names_in xs) ys)
          ∙ ap (λ l. r1 ++ l) (sym (numbered_append before xs ys)),
      subst (AreCounted n3) (append_assoc before (names_in xs) (names_in ys) ∙ ap (λ l. before ++ l) (sym (map-append name_of xs ys))) m,
    )

pub put_count : (t : Bool) (n : ℕ) (o : Option ℕ) → or_none (if t then Some n else o) ≡ (if t then n else or_none o)
put_count true n o = refl
put_count false n o = refl

-- a list that is gone through
pub so_far_next : {A : Type 0} (P Q : List A → Type 0) (v : A) (rest rest' all : List A) → rest ≡ v ∷ rest' → ((vs : List A) → P vs → Q (vs ++ v ∷ [])) → SoFar P rest all → SoFar Q rest' all
so_far_next P Q v rest rest' all e next (vs, p, is) = (vs ++ v ∷ [], next vs p, append_assoc vs (v ∷ []) rest' ∙ ap (λ l. vs ++ l) (sym e) ∙ is)

pub so_far_done : {A : Type 0} (P : List A → Type 0) (rest all : List A) → rest ≡ [] → SoFar P rest all → P all
so_far_done P rest all e (vs, p, is) = subst P (sym (append-nil vs) ∙ ap (λ l. vs ++ l) (sym e) ∙ is) p

-- where each list has each name once, no name stands more often than there are lists
fewer_hidden : {A : Type 0} (w : List ℕ) (es : List (List ℕ × Bool)) (vs : List (List ℕ × A)) → times w (names_in (hidden_of es vs)) ≤ times w (names_in vs)
fewer_hidden w [] vs = omega arith
fewer_hidden w (e ∷ es) [] = omega arith
fewer_hidden w ((name, false) ∷ es) (v ∷ vs) = let l = fewer_hidden w es vs in omega (arith, l)
fewer_hidden w ((name, true) ∷ es) (v ∷ vs) = let l = fewer_hidden w es vs in omega (arith, l)

pub names_are : {A X : Type 0} (name : X → List ℕ) (value : X → A) (xs : List X) → names_in (map (λ x. (name x, value x)) xs) ≡ map name xs
names_are name value [] = refl
names_are name value (x ∷ xs) = ap (λ l. name x ∷ l) (names_are name value xs)

pub hidden_once : {A X : Type 0} (name : X → List ℕ) (value : X → A) (es : List (List ℕ × Bool)) (xs : List X) → ((w : List ℕ) → times w (map name xs) ≤ 1)
    → (w : List ℕ) → times w (names_in (hidden_of es (map (λ x. (name x, value x)) xs))) ≤ 1
hidden_once name value es xs once w =
    let l = fewer_hidden w es (map (λ x. (name x, value x)) xs) in
    let e = ap (times w) (names_are name value xs) in
    let o = once w in
    omega (arith, l, e, o)

as_often : {A : Type 0} (f : Copy → List (List ℕ × A)) (cs : List Copy) → EachOf (λ c. (w : List ℕ) → times w (names_in (f c)) ≤ 1) cs
    → (w : List ℕ) → times w (names_in (of_copies f cs)) ≤ length cs
as_often f [] once w = omega arith
as_often f (c ∷ cs) once w =
    let e = ap (times w) (map-append name_of (f c) (of_copies f cs)) in
    let s = times_append w (names_in (f c)) (names_in (of_copies f cs)) in
    let o = once.0 w in
    let l = as_often f cs once.1 w in
    omega (arith, e, s, o, l)

numbers_below : {A : Type 0} (most : ℕ) (before : List (List ℕ)) (rows : List (List ℕ × A)) → ((w : List ℕ) → times w (before ++ names_in rows) ≤ most)
    → EachOf (λ row. row.1.0 ≤ most) (numbered before rows)
numbers_below most before [] few = tt
numbers_below most before ((w, v) ∷ rows) few = (
  let l = few w in
      let s = times_append w before (w ∷ names_in rows) in
      let one : ◌≡◌ {A = ℕ} (if bytes_eq w w then 1 else 0) 1 = ap (λ b. if b then 1 else 0) ((bytes_eq-Decides w w).1 refl) in
      omega (arith, l, s, one),
  numbers_below most (before ++ w ∷ []) rows (λ u. subst (λ l. times u l ≤ most) (sym (append_assoc before (w ∷ []) (names_in rows))) (few u)),
)

pub numbers_fit : {A : Type 0} (f : Copy → List (List ℕ × A)) (cs : List Copy) → EachOf (λ c. (w : List ℕ) → times w (names_in (f c)) ≤ 1) cs
    → EachOf (λ row. row.1.0 ≤ length cs) (numbered [] (of_copies f cs))
numbers_fit f cs once = numbers_below (length cs) [] (of_copies f cs) (as_often f cs once)
