-- Looking for a type variable in the types of a stack.
use Rattle.std.proofs.Common.{◌≡◌, ℕ, zero, suc, ◌+◌, ◌<◌, ◌≤◌, ◌⊎◌, inl, inr, List, [], ◌∷◌, ◌++◌, length, map, reverse, refl, sym, ap, ◌∙◌, subst, arith, Bool, true, false, nat_eq, if◌then◌else◌}
use Rattle.std.proofs.lemmas.List.{reverse-append, reverse-reverse}
use Rattle.lp_lemmas.proofs.Lists.{reverse_pushed}
use Rattle.lp_lemmas.proofs.Numbers.{nat_eq_self}
use Rattle.lp_calculus.specs.Types.{Ty, Tys, var, param, con, arrow, tys, no_types, types}
use Rattle.lp_store.specs.declared.cell.Cell.{Cell}
use Rattle.lp_store.specs.declared.cell.Cell.TheVariants.{TypeVar, TypeCon, TypeArrow}
use Rattle.lp_store.specs.declared.cell.CellId.{CellId}
use Rattle.lp_store.specs.declared.cell.Span.{Span}
use Rattle.lp_store.specs.Contents.{Contents, cell_at, span}
use Rattle.lp_store.specs.Reading.{ReadsType, ReadTypes, no_types as none_read, more_types}
use Rattle.lp_susp.specs.Route.{RefsTo, arrived, onward}
use Rattle.lp_susp.proofs.Routes.{refs_type}
use Rattle.lp_model.specs.Types.{Visited, and_then, one_more, visit, visit_all}
use Rattle.lp_unify.specs.TypeTurns.{ReadStack, IsVisited}
use Rattle.lp_unify.proofs.TypeCells.{var_read, con_read, arrow_read, read_front}

pub stacked : {A : Type 0} (cells old new : List A) → new ≡ old ++ reverse cells → reverse new ≡ cells ++ reverse old
stacked cells old new e = ap reverse e ∙ reverse-append old (reverse cells) ∙ ap (λ l. l ++ reverse old) (reverse-reverse cells)

-- a look that finds nothing, and what comes behind it
abbrev behind : Visited → Visited → Visited
behind v w = record { found = w.found; units = v.units + w.units }

found_first : (v w : Visited) → v.found ≡ true → and_then v w ≡ v
found_first v w e = ap (λ b. if b then v else behind v w) e

found_later : (v w : Visited) → v.found ≡ false → and_then v w ≡ behind v w
found_later v w e = ap (λ b. if b then v else behind v w) e

same_look : (v w : Visited) → v.found ≡ w.found → v.units ≡ w.units → v ≡ w
same_look v w e f = λ i. record { found = e i; units = f i }

and_nothing : (v : Visited) → and_then v (record { found = false; units = 0 }) ≡ v
and_nothing v = go v.found refl
  where
    go : (b : Bool) → v.found ≡ b → and_then v (record { found = false; units = 0 }) ≡ v
    go true e = found_first v (record { found = false; units = 0 }) e
    go false e = found_later v (record { found = false; units = 0 }) e ∙ same_look (record { found = false; units = v.units + 0 }) v (sym e) (omega arith)

-- one look behind another
and_twice : (u v w : Visited) → and_then (and_then u v) w ≡ and_then u (and_then v w)
and_twice u v w = go u.found v.found refl refl
  where
    go : (a b : Bool) → u.found ≡ a → v.found ≡ b → and_then (and_then u v) w ≡ and_then u (and_then v w)
    go true b e f = ap (λ y. and_then y w) (found_first u v e) ∙ found_first u w e ∙ sym (found_first u (and_then v w) e)
    go false true e f =
        ap (λ y. and_then y w) (found_later u v e) ∙ found_first (behind u v) w f ∙ sym (ap (and_then u) (found_first v w f) ∙ found_later u v e)
    go false false e f =
        ap (λ y. and_then y w) (found_later u v e) ∙ found_later (behind u v) w f ∙ same_look (behind (behind u v) w) (behind u (behind v w)) refl (omega arith) ∙
        sym (ap (and_then u) (found_later v w f) ∙ found_later u (behind v w) e)

pub visit_front : (x : ℕ) (Ts Us : List Ty) → visit_all x (tys (Ts ++ Us)) ≡ and_then (visit_all x (tys Ts)) (visit_all x (tys Us))
visit_front x [] Us = let n : (visit_all x (tys Us)).units ≡ 0 + (visit_all x (tys Us)).units = omega arith in λ i. record { found = (visit_all x (tys Us)).found; units = n i }
visit_front x (T ∷ Ts) Us = ap (and_then (visit x T)) (visit_front x Ts Us) ∙ sym (and_twice (visit x T) (visit_all x (tys Ts)) (visit_all x (tys Us)))

one_more_then : (v w : Visited) → and_then (one_more v) w ≡ one_more (and_then v w)
one_more_then v w = go v.found refl
  where
    go : (b : Bool) → v.found ≡ b → and_then (one_more v) w ≡ one_more (and_then v w)
    go true e = found_first (one_more v) w e ∙ ap one_more (sym (found_first v w e))
    go false e = found_later (one_more v) w e ∙ same_look (behind (one_more v) w) (one_more (behind v w)) refl (omega arith) ∙ ap one_more (sym (found_later v w e))

-- what is found and how many nodes are visited, once the first type gave way to its parts
pub record Opens (x : ℕ) (all rest : List Ty) : Type 0 where
  pub found : (visit_all x (tys all)).found ≡ (visit_all x (tys rest)).found
  pub units : (visit_all x (tys all)).units ≡ suc (visit_all x (tys rest)).units

opened : (x : ℕ) (T : Ty) (Us Ts : List Ty) → visit x T ≡ one_more (visit_all x (tys Us)) → Opens x (T ∷ Ts) (Us ++ Ts)
opened x T Us Ts e =
    let q : visit_all x (tys (T ∷ Ts)) ≡ one_more (visit_all x (tys (Us ++ Ts))) =
    ap (λ v. and_then v (visit_all x (tys Ts))) e ∙ one_more_then (visit_all x (tys Us)) (visit_all x (tys Ts)) ∙ ap one_more (sym (visit_front x Us Ts)) in
    record { found = ap (λ v. v.found) q; units = ap (λ v. v.units) q }

visited_one : (x : ℕ) (T : Ty) → visit_all x (tys (T ∷ [])) ≡ visit x T
visited_one x T = and_nothing (visit x T)

-- the state of a look: the types that are left, and what they come to
pub record IsLooking (s : Contents) (x : ℕ) (T : Ty) (stack : List CellId) (before left : ℕ) : Type 0 where
  pub types : List Ty
  pub reads : ReadStack s stack types
  pub found : (visit x T).found ≡ (visit_all x (tys types)).found
  pub units : (visit x T).units + left ≡ before + (visit_all x (tys types)).units

pub looking_first : (s : Contents) (x : ℕ) (T : Ty) (c : CellId) (stack : List CellId) (before : ℕ) → stack ≡ c ∷ [] → ReadsType s c.0 T → IsLooking s x T stack before before
looking_first s x T c stack before e r =
    let q = ap (λ v. v.units) (visited_one x T) in
    record {
      types = T ∷ [];
      reads = subst (λ l. ReadStack s l (T ∷ [])) (sym e) (more_types r none_read);
      found = ap (λ v. v.found) (sym (visited_one x T));
      units = omega (arith, q);
    }

-- the top of the stack is resolved and visited
record Tops (s : Contents) (stack : List CellId) (i : ℕ) (Ts : List Ty) : Type 0 where
  first : Ty
  rest : List Ty
  is : Ts ≡ first ∷ rest
  top : ReadsType s i first
  below : ReadStack s stack rest

tops : (s : Contents) (c : CellId) (stack : List CellId) (i : ℕ) (Ts : List Ty) → RefsTo s c.0 i → ReadStack s (c ∷ stack) Ts → Tops s stack i Ts
tops s c stack i Ts f r = go r
  where
    go : {Us : List Ty} → ReadTypes s (c.0 ∷ map (λ d. d.0) stack) Us → Tops s stack i Us
    go (more_types {T = T} {Ts = Us} r p) = record { first = T; rest = Us; is = refl; top = refs_type f r; below = p }

some_units : (x : ℕ) (T : Ty) → 0 < (visit x T).units
some_units x (var i) = omega arith
some_units x (param k) = omega arith
some_units x (con c ts) = omega arith
some_units x (arrow a b) = omega arith

first_units : (x : ℕ) (T : Ty) (Ts : List Ty) → 0 < (visit_all x (tys (T ∷ Ts))).units
first_units x T Ts =
    let p = some_units x T in
    elim (visit x T).found as (λ b. 0 < (if b then visit x T else record { found = (visit_all x (tys Ts)).found; units = (visit x T).units + (visit_all x (tys Ts)).units }).units) [
      | true ↦ p
      | false ↦ omega (arith, p)
    ]

pub looking_spent : (s : Contents) (x : ℕ) (T : Ty) (all stack : List CellId) (c : CellId) (before left : ℕ) → all ≡ stack ++ c ∷ [] → left ≡ 0 → IsLooking s x T (reverse all) before left → before < (visit x T).units
looking_spent s x T all stack c before left e z k = go k.types k.reads k.units
  where
    go : (Ts : List Ty) → ReadStack s (reverse all) Ts → (visit x T).units + left ≡ before + (visit_all x (tys Ts)).units → before < (visit x T).units
    go Ts r u =
        let t = tops s c (reverse stack) c.0 Ts (arrived c.0) (subst (λ l. ReadStack s l Ts) (reverse_pushed all stack c e) r) in
        let f = first_units x t.first t.rest in
        let g : (visit_all x (tys Ts)).units ≡ (visit_all x (tys (t.first ∷ t.rest))).units = ap (λ l. (visit_all x (tys l)).units) t.is in
        omega (arith, f, g, u, z)

-- the variable itself
found_var : (x : ℕ) (T : Ty) (Ts : List Ty) → T ≡ var x → visit_all x (tys (T ∷ Ts)) ≡ record { found = true; units = 1 }
found_var x T Ts e = ap (λ t. visit_all x (tys (t ∷ Ts))) e ∙
    ap (λ b. if b then record { found = b; units = 1 } else record { found = (visit_all x (tys Ts)).found; units = 1 + (visit_all x (tys Ts)).units }) (nat_eq_self x)

pub looking_found : (s : Contents) (x : ℕ) (T : Ty) (all stack new : List CellId) (c top : CellId) (before left after : ℕ) → all ≡ stack ++ c ∷ [] → RefsTo s c.0 top.0 → left ≡ suc after → IsLooking s x T (reverse all) before left →
    ((A : Ty) → ReadsType s top.0 A → IsVisited true s x A (reverse stack) new) → ((visit x T).found ≡ true) × (before ≡ (visit x T).units + after)
looking_found s x T all stack new c top before left after e f z k v =
    let t = tops s c (reverse stack) top.0 k.types f (subst (λ l. ReadStack s l k.types) (reverse_pushed all stack c e) k.reads) in
    let q : visit_all x (tys k.types) ≡ record { found = true; units = 1 } = ap (λ l. visit_all x (tys l)) t.is ∙ found_var x t.first t.rest (v t.first t.top) in
    let u = k.units in
    let n : (visit_all x (tys k.types)).units ≡ 1 = ap (λ w. w.units) q in
    (k.found ∙ ap (λ w. w.found) q, omega (arith, u, n, z))

pub looking_on : (s : Contents) (x : ℕ) (T : Ty) (all stack new : List CellId) (c top : CellId) (before left after : ℕ) → all ≡ stack ++ c ∷ [] → RefsTo s c.0 top.0 → left ≡ suc after → IsLooking s x T (reverse all) before left →
    ((A : Ty) → ReadsType s top.0 A → IsVisited false s x A (reverse stack) new) → IsLooking s x T new before after
looking_on s x T all stack new c top before left after e f z k v =
    let t = tops s c (reverse stack) top.0 k.types f (subst (λ l. ReadStack s l k.types) (reverse_pushed all stack c e) k.reads) in
    let w = v t.first t.top in
    let o = opened x t.first w.0 t.rest w.1 in
    let g : visit_all x (tys k.types) ≡ visit_all x (tys (t.first ∷ t.rest)) = ap (λ l. visit_all x (tys l)) t.is in
    let u = k.units in
    let n = ap (λ y. y.units) g in
    let m = o.units in
    record {
      types = w.0 ++ t.rest;
      reads = w.2 t.rest t.below;
      found = k.found ∙ ap (λ y. y.found) g ∙ o.found;
      units = omega (arith, u, n, m, z);
    }

pub looking_none : (s : Contents) (x : ℕ) (T : Ty) (stack : List CellId) (before left : ℕ) → stack ≡ [] → IsLooking s x T (reverse stack) before left → ((visit x T).found ≡ false) × (before ≡ (visit x T).units + left)
looking_none s x T stack before left e k =
    let h = empty (subst (λ l. ReadStack s (reverse l) k.types) e k.reads) in
    let u = k.units in
    let n : (visit_all x (tys k.types)).units ≡ 0 = ap (λ l. (visit_all x (tys l)).units) h in
    (k.found ∙ ap (λ l. (visit_all x (tys l)).found) h, omega (arith, u, n))
  where
    empty : {Us : List Ty} → ReadTypes s [] Us → Us ≡ []
    empty none_read = refl

-- what a visit says of a cell
pub visited_con : (s : Contents) (x i c : ℕ) (l : Span) (cells old new : List CellId) (T : Ty) → TypeCon c l ≡ cell_at s i → cells ≡ span s.items l.from l.count → new ≡ old ++ reverse cells → ReadsType s i T → IsVisited false s x T (reverse old) (reverse new)
visited_con s x i c l cells old new T e q p r =
    let k = con_read s i c l T (sym e) r in (
      k.0,
      ap (visit x) k.2,
      λ Ts w. subst (λ y. ReadStack s y (k.0 ++ Ts)) (sym (stacked cells old new p)) (read_front s cells (reverse old) k.0 Ts (subst (λ y. ReadStack s y k.0) (sym q) k.1) w),
    )

pub visited_arrow : (s : Contents) (x i : ℕ) (a b : CellId) (old mid new : List CellId) (T : Ty) → TypeArrow a b ≡ cell_at s i → mid ≡ old ++ b ∷ [] → new ≡ mid ++ a ∷ [] → ReadsType s i T → IsVisited false s x T (reverse old) (reverse new)
visited_arrow s x i a b old mid new T e p q r =
    let k = arrow_read s i a b T (sym e) r in
    let n : reverse new ≡ a ∷ b ∷ reverse old = reverse_pushed new mid a q ∙ ap (λ l. a ∷ l) (reverse_pushed mid old b p) in (
      k.0 ∷ k.1 ∷ [],
      ap (visit x) k.4 ∙ ap one_more (ap (and_then (visit x k.0)) (sym (and_nothing (visit x k.1)))),
      λ Ts w. subst (λ y. ReadStack s y (k.0 ∷ k.1 ∷ Ts)) (sym n) (more_types k.2 (more_types k.3 w)),
    )

pub visited_same : (s : Contents) (x i : ℕ) (T : Ty) (old new : List CellId) → TypeVar ≡ cell_at s i → i ≡ x → ReadsType s i T → IsVisited true s x T old new
visited_same s x i T old new e p r = var_read s i T (sym e) r ∙ ap var p

pub visited_other : (s : Contents) (x i : ℕ) (T : Ty) (old : List CellId) → TypeVar ≡ cell_at s i → nat_eq i x ≡ false → ReadsType s i T → IsVisited false s x T old old
visited_other s x i T old e p r = ([], ap (visit x) (var_read s i T (sym e) r) ∙ (λ k. record { found = p k; units = 1 }), λ Ts w. w)

-- what references lead to is in the store, and so is the cell
refs_within : {s : Contents} {i k : ℕ} → RefsTo s i k → k < length s.cells → i < length s.cells
refs_within (arrived i) h = h
refs_within (onward j l e q) h = l

last_one : {A : Type 0} (xs : List A) (x y : A) → xs ++ x ∷ [] ≡ y ∷ [] → x ≡ y
last_one {A = A} [] x y e = cc
last_one {A = A} (z ∷ xs) x y e = absurd (none xs (ap rest_of e))
  where
    rest_of : List A → List A
    rest_of [] = []
    rest_of (w ∷ ws) = ws

    none : (ws : List A) → ws ++ x ∷ [] ≡ [] → ⊥
    none [] f = absurd (cc)
    none (w ∷ ws) f = absurd (cc)

pub first_within : (s : Contents) (stack rest : List CellId) (of next top : CellId) → (stack ≡ of ∷ []) ⊎ (of.0 < length s.cells) → stack ≡ rest ++ next ∷ [] → RefsTo s next.0 top.0 → top.0 < length s.cells → of.0 < length s.cells
first_within s stack rest of next top (inr h) e r l = h
first_within s stack rest of next top (inl f) e r l = subst (λ c. c.0 < length s.cells) (last_one rest next of (sym e ∙ f)) (refs_within r l)
