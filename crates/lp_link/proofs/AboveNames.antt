-- The exported names of a copy are those that the copy above has, with the same counts and types.
use Rattle.std.proofs.Common.{◌≡◌, ◌≢◌, ◌∙◌, ◌+◌, ◌-◌, ◌≤◌, ℕ, zero, suc, Bool, true, false, ◌&&◌, if◌then◌else◌, List, [], ◌∷◌, Option, None, Some, inl, inr, ap, refl, sym, subst, arith}
use Rattle.std.specs.Prelude.{◌⊎◌, nat_lt, slice_get, slice_index_or, option_map, option_and_then}
use Rattle.std.proofs.lemmas.Bool.{eqb-true, le-ltb}
use Rattle.lp_lemmas.proofs.Numbers.{equal_or_not}
use Rattle.lp_lemmas.proofs.Lists.{get_map, get_from_map}
use Rattle.lp_lemmas.proofs.Options.{option_map_some, and_then_some, one_value}
use Rattle.lp_calculus.specs.Types.{Ty, Tys, var, param as type_param, con, arrow, no_types, types}
use Rattle.lp_term.specs.Mapped.{Map, mapped_type, mapped_types}
use Rattle.lp_term.specs.Nodes.{type_tree}
use Rattle.lp_places.specs.Places.{first_place}
use Rattle.lp_code.specs.declared.object.Object.{Object}
use Rattle.lp_code.specs.declared.object.ObjectKind.{ObjectKind}
use Rattle.lp_code.specs.declared.object.ObjectConstant.{ObjectConstant}
use Rattle.lp_code.specs.Naming.{object_arity, scheme_in}
use Rattle.lp_code.specs.Symbolic.{Tables}
use Rattle.lp_link.specs.Uses.{kind_names, constant_names}
use Rattle.lp_link.specs.Numbers.{renumbered}
use Rattle.lp_link.specs.Renumbering.{moved_scheme}
use Rattle.lp_link.specs.Differences.{kind_above as number_above, is_number, same_type, same_types, arity_of, constant_of, IsOtherAbove, IsSameAbove}
use Rattle.lp_link.specs.Linked.{Copy, next_of, Ends, numbers_of, kinds_of, constants_of, kind_above, constant_above, copy_of, map_of}
use Rattle.lp_link.specs.Names.{schemes_of, moved_schemes}
use Rattle.lp_link.specs.inner.Tabled.{arities_of}
use Rattle.lp_link.specs.inner.ToldNames.{AreAbove, IsTold}
use Rattle.lp_link.proofs.ToldNames.{number_at_place}

pub above_all : {A : Type 0} (f : ℕ) (T : ℕ → Option A) (told : List ℕ → Option ℕ) (es : List (List ℕ × Bool)) (vs : List A)
    → ((j : ℕ) (e : List ℕ × Bool) (v : A) → slice_get es j ≡ Some e → slice_get vs j ≡ Some v → e.1 ≡ true → (n : ℕ) × (told e.0 ≡ Some n) × (f ≤ n) × (T n ≡ Some v)) → AreAbove f T told es vs
above_all f T told [] vs h = tt
above_all f T told (e ∷ es) [] h = tt
above_all f T told ((name, false) ∷ es) (v ∷ vs) h = above_all f T told es vs (λ j. h (suc j))
above_all f T told ((name, true) ∷ es) (v ∷ vs) h = (h 0 (name, true) v refl refl refl, above_all f T told es vs (λ j. h (suc j)))

-- an exported name that the copy above has keeps its number
number_there : (told : List ℕ → Option ℕ) (es : List (List ℕ × Bool)) (i : ℕ) (name : List ℕ) (m d : ℕ) → slice_get es i ≡ Some (name, true) → told
    name ≡ Some m → (g h : ℕ) → slice_index_or (numbers_of told g h es) i d ≡ m
number_there told [] i name m d e t g h = absurd (cc)
number_there told ((other, b) ∷ es) zero name m d e t g h = let q : ◌≡◌ {A = List ℕ × Bool} (other, b) (name, true) = cc in here b (ap (λ p. p.1) q) (ap (λ p. p.0) q)
  where
    here : (b : Bool) → b ≡ true → other ≡ name → slice_index_or (numbers_of told g h ((other, b) ∷ es)) zero d ≡ m
    here false p q = absurd (let z : false ≡ true = p in cc)
    here true p q = ap (λ o. slice_index_or (next_of o g (numbers_of told (suc g) h es) (numbers_of told g h es)) zero d) (ap told q ∙ t)
number_there told ((other, false) ∷ es) (suc i) name m d e t g h = number_there told es i name m d e t g (suc h)
number_there told ((other, true) ∷ es) (suc i) name m d e t g h = by (number_there told es i name m d e t (suc g) h) (number_there told es i name m d e t g h) (told other)
  where
    by : slice_index_or (numbers_of told (suc g) h es) i d ≡ m → slice_index_or (numbers_of told g h es) i d ≡ m → (o : Option ℕ) → slice_index_or
        (next_of o g (numbers_of told (suc g) h es) (numbers_of told g h es)) (suc i) d ≡ m
    by x y None = x
    by x y (Some n) = y

renumbered_at : (first : ℕ) (ns : List ℕ) (n p : ℕ) → n ≡ first + p → renumbered first ns n ≡ slice_index_or ns p 4294967295
renumbered_at first ns n p e =
    ap (λ b. if b then n else slice_index_or ns (n - first) 4294967295) (le-ltb n first (omega (arith, e)))
    ∙ ap (λ k. slice_index_or ns k 4294967295) (let z : n - first ≡ p = omega (arith, e) in z)

-- types that are one, kinds by their names, become one
module _ (K : ℕ → Option ℕ) (m p : Map) (kinds : (k n : ℕ) → K k ≡ Some n → m.kinds k ≡ p.kinds n) (vars : (i : ℕ) → m.types i ≡ p.types i) where
  named : (o : Option ℕ) (l : ℕ) → is_number o l ≡ true → o ≡ Some l
  named None l e = absurd (let z : false ≡ true = e in cc)
  named (Some n) l e = ap Some (eqb-true n l e)

  both : (a b : Bool) → (a && b) ≡ true → (a ≡ true) × (b ≡ true)
  both false b e = absurd (let z : false ≡ true = e in cc)
  both true b e = (refl, e)

  mutual
    pub types_same : (T U : Ty) → same_type K T U ≡ true → mapped_type m T ≡ mapped_type p U
    types_same (var i) (var j) e = vars i ∙ ap (mapped_type p) (ap var (eqb-true i j e))
    types_same (var i) (type_param k) e = absurd (let z : false ≡ true = e in cc)
    types_same (var i) (con l us) e = absurd (let z : false ≡ true = e in cc)
    types_same (var i) (arrow c d) e = absurd (let z : false ≡ true = e in cc)
    types_same (type_param k) U e = absurd (let z : false ≡ true = e in cc)
    types_same (con k ts) (var j) e = absurd (let z : false ≡ true = e in cc)
    types_same (con k ts) (type_param j) e = absurd (let z : false ≡ true = e in cc)
    types_same (con k ts) (con l us) e =
        let h = both (is_number (K k) l) (same_types K ts us) e in
        let n = kinds k l (named (K k) l h.0) in
        let r = lists_same ts us h.1 in
        λ i. con (n i) (r i)
    types_same (con k ts) (arrow c d) e = absurd (let z : false ≡ true = e in cc)
    types_same (arrow a b) (var j) e = absurd (let z : false ≡ true = e in cc)
    types_same (arrow a b) (type_param j) e = absurd (let z : false ≡ true = e in cc)
    types_same (arrow a b) (con l us) e = absurd (let z : false ≡ true = e in cc)
    types_same (arrow a b) (arrow c d) e =
        let h = both (same_type K a c) (same_type K b d) e in
        let x = types_same a c h.0 in
        let y = types_same b d h.1 in
        λ i. arrow (x i) (y i)

    lists_same : (ts us : Tys) → same_types K ts us ≡ true → mapped_types m ts ≡ mapped_types p us
    lists_same no_types no_types e = refl
    lists_same no_types (types u us) e = absurd (let z : false ≡ true = e in cc)
    lists_same (types t ts) no_types e = absurd (let z : false ≡ true = e in cc)
    lists_same (types t ts) (types u us) e =
        let h = both (same_type K t u) (same_types K ts us) e in
        let x = types_same t u h.0 in
        let y = lists_same ts us h.1 in
        λ i. types (x i) (y i)

one_arity : (o : Option ℕ) (n : ℕ) → (o ≢ Some n → ⊥) → o ≡ Some n
one_arity None n h = absurd (h (λ e. let z : None ≡ Some n = e in cc))
one_arity (Some m) n h = elim (equal_or_not m n) [ inl e ↦ ap Some e | inr d ↦ absurd (h (λ e. d (let q : m ≡ n = cc in q))) ]

the_same : {A : Type 0} (x y : A) → Some x ≡ Some y → x ≡ y
the_same x y e = cc

module _ (u : Tables) (o : Object) (a : Copy) (same : IsSameAbove o a.object) (told : IsTold u a) where
  -- an exported kind
  kind_there : (j : ℕ) (k : ObjectKind) → slice_get o.kinds.items j ≡ Some k → k.exported ≡ true
      → (p : ℕ) × (n : ℕ) × (first_place k.name.items (kind_names a.object.kinds.items) ≡ Some p) × (slice_get a.kinds p ≡ Some n) × (8 ≤ n) × (u.kinds n ≡ Some k.arity)
  kind_there j k there ex =
      let is = one_arity (arity_of a.object.kinds.items k.name.items) k.arity (λ d. same.kinds j (record { kind = k; there = there; exported = ex; other = d })) in
      let (p, place, at) = and_then_some (first_place k.name.items (kind_names a.object.kinds.items)) (λ i. option_map (λ (k : ObjectKind). k.arity) (slice_get a.object.kinds.items i)) k.arity is in
      let (l, here, arity) = option_map_some (slice_get a.object.kinds.items p) (λ (k : ObjectKind). k.arity) k.arity at in
      let (n, number, big, tells) = number_at_place 8 u.kinds a.kinds (arities_of a.object) told.kinds p l.arity (get_map object_arity a.object.kinds.items p l here) in
      (p, n, place, number, big, tells ∙ ap Some arity)

  told_kind : (name : List ℕ) (p n : ℕ) → first_place name (kind_names a.object.kinds.items) ≡ Some p → slice_get a.kinds p ≡ Some n → kind_above (Some a) name ≡ Some n
  told_kind name p n e f = ap (option_and_then (slice_get a.kinds)) e ∙ f

  pub kinds_above : AreAbove 8 u.kinds (kind_above (Some a)) (kinds_of o) (arities_of o)
  kinds_above = above_all 8 u.kinds (kind_above (Some a)) (kinds_of o) (arities_of o) (λ j e v he hv ex.
      let (k, there, is) = get_from_map (λ (k : ObjectKind). (k.name.items, k.exported)) o.kinds.items j e he in
      let (l, here, value) = get_from_map object_arity o.kinds.items j v hv in
      let one = one_value (slice_get o.kinds.items j) l k here there in
      let (p, n, place, number, big, tells) = kind_there j k there (sym (ap (λ (x : List ℕ × Bool). x.1) is) ∙ ex) in
      (n, ap (kind_above (Some a)) (ap (λ (x : List ℕ × Bool). x.0) is) ∙ told_kind k.name.items p n place number, big, tells ∙ ap Some (sym (value ∙ ap (λ (x : ObjectKind). x.arity) one))))

  -- kinds by their names have one number
  pub kinds_agree : (h k n : ℕ) → number_above o.kinds.items a.object.kinds.items k ≡ Some n → renumbered 8 (numbers_of (kind_above (Some a)) 8 h (kinds_of o)) k ≡ renumbered 8 a.kinds n
  kinds_agree h k n e = by (nat_lt k 8) refl e
    where
      ns : List ℕ
      ns = numbers_of (kind_above (Some a)) 8 h (kinds_of o)

      inside : (kind : ObjectKind) → slice_get o.kinds.items (k - 8) ≡ Some kind → (b : Bool) → kind.exported ≡ b
          → (if b then option_map (λ i. 8 + i) (first_place kind.name.items (kind_names a.object.kinds.items)) else None) ≡ Some n → slice_index_or ns (k - 8) 4294967295 ≡ renumbered 8 a.kinds n
      inside kind there false x q = absurd (let z : None ≡ Some n = q in cc)
      inside kind there true x q =
          let (p, m, place, number, big, tells) = kind_there (k - 8) kind there x in
          let (r, first, is) = option_map_some (first_place kind.name.items (kind_names a.object.kinds.items)) (λ i. 8 + i) n q in
          let one = one_value (first_place kind.name.items (kind_names a.object.kinds.items)) r p first place in
          number_there (kind_above (Some a)) (kinds_of o) (k - 8) kind.name.items m 4294967295
          (get_map (λ (k : ObjectKind). (k.name.items, k.exported)) o.kinds.items (k - 8) kind there ∙ ap (λ b. Some (kind.name.items, b)) x) (told_kind kind.name.items p m place number) 8 h
          ∙ sym (renumbered_at 8 a.kinds n p (sym is ∙ ap (λ i. 8 + i) one) ∙ at_there a.kinds p m number)
        where
          at_there : (xs : List ℕ) (i x : ℕ) → slice_get xs i ≡ Some x → slice_index_or xs i 4294967295 ≡ x
          at_there [] i x e = absurd (cc)
          at_there (y ∷ ys) zero x e = the_same y x e
          at_there (y ∷ ys) (suc i) x e = at_there ys i x e

      by : (b : Bool) → nat_lt k 8 ≡ b → (if b then Some k else option_and_then (λ (kind : ObjectKind). if kind.exported then option_map (λ i. 8 + i)
          (first_place kind.name.items (kind_names a.object.kinds.items)) else None) (slice_get o.kinds.items (k - 8))) ≡ Some n
          → (if b then k else slice_index_or ns (k - 8) 4294967295) ≡ renumbered 8 a.kinds n
      by true t q = subst (λ x. k ≡ renumbered 8 a.kinds x) (the_same k n q) (sym (ap (λ b. if b then k else slice_index_or a.kinds (k - 8) 4294967295) t))
      by false t q =
          let (kind, there, is) = and_then_some (slice_get o.kinds.items (k - 8)) (λ (kind : ObjectKind). if kind.exported then option_map
          (λ i. 8 + i) (first_place kind.name.items (kind_names a.object.kinds.items)) else None) n q in
          inside kind there kind.exported refl is

  -- an exported constant
  one_constant : (c : ObjectConstant) (x : Option ObjectConstant) → (IsOtherAbove o a.object c x → ⊥) → (d : ObjectConstant) × (x ≡ Some d) × (d.type_vars ≡ c.type_vars)
      × (same_type (number_above o.kinds.items a.object.kinds.items) (type_tree o.bank c.scheme.0) (type_tree a.object.bank d.scheme.0) ≡ true)
  one_constant c None h = absurd (h tt)
  one_constant c (Some d) h = (
    d,
    refl,
    count (equal_or_not d.type_vars c.type_vars),
    alike (same_type (number_above o.kinds.items a.object.kinds.items)
        (type_tree o.bank c.scheme.0) (type_tree a.object.bank d.scheme.0)) refl,
  )
    where
      count : (d.type_vars ≡ c.type_vars) ⊎ (d.type_vars ≢ c.type_vars) → d.type_vars ≡ c.type_vars
      count (inl e) = e
      count (inr n) = absurd (h (inl n))

      alike : (b : Bool) → same_type (number_above o.kinds.items a.object.kinds.items) (type_tree o.bank c.scheme.0) (type_tree a.object.bank d.scheme.0) ≡ b
          → same_type (number_above o.kinds.items a.object.kinds.items) (type_tree o.bank c.scheme.0) (type_tree a.object.bank d.scheme.0) ≡ true
      alike true e = e
      alike false e = absurd (h (inr e))

  constant_there : (mid : Ends) (j : ℕ) (c : ObjectConstant) → slice_get o.constants.items j ≡ Some c → c.exported ≡ true
      → (n : ℕ) × (constant_above (Some a) c.name.items ≡ Some n) × (32 ≤ n) × (u.constants n ≡ Some (moved_scheme (map_of 0 (copy_of (Some a) o mid)) (scheme_in o.bank c.type_vars c.scheme.0)))
  constant_there mid j c there ex =
      let (d, is, count, alike) = one_constant c (constant_of a.object.constants.items c.name.items) (λ x. same.constants j (record { constant = c; there = there; exported = ex; other = x })) in
      let (p, place, at) = and_then_some (first_place c.name.items (constant_names a.object.constants.items)) (λ i. slice_get a.object.constants.items i) d is in
      let s = get_map (moved_scheme (map_of 0 a)) (schemes_of a.object) p (scheme_in a.object.bank d.type_vars d.scheme.0)
      (get_map (λ (c : ObjectConstant). scheme_in a.object.bank c.type_vars c.scheme.0) a.object.constants.items p d at) in
      let (n, number, big, tells) = number_at_place 32 u.constants a.constants (moved_schemes a) told.constants p (moved_scheme (map_of 0 a) (scheme_in a.object.bank d.type_vars d.scheme.0)) s in
      let body = types_same (number_above o.kinds.items a.object.kinds.items) (map_of 0 (copy_of (Some a) o mid)) (map_of 0 a) (kinds_agree mid.kinds)
      (λ i. refl) (type_tree o.bank c.scheme.0) (type_tree a.object.bank d.scheme.0) alike in
      (n, ap (option_and_then (slice_get a.constants)) place ∙ number, big, tells ∙ (λ i. Some (record { count = count i; body = sym body i })))

  pub constants_above : (mid : Ends) → AreAbove 32 u.constants (constant_above (Some a)) (constants_of o) (moved_schemes (copy_of (Some a) o mid))
  constants_above mid = above_all 32 u.constants (constant_above (Some a)) (constants_of o) (moved_schemes (copy_of (Some a) o mid)) (λ j e v he hv ex.
      let (c, there, is) = get_from_map (λ (c : ObjectConstant). (c.name.items, c.exported)) o.constants.items j e he in
      let (s, scheme, value) = get_from_map (moved_scheme (map_of 0 (copy_of (Some a) o mid))) (schemes_of o) j v hv in
      let (d, here, is_scheme) = get_from_map (λ (c : ObjectConstant). scheme_in o.bank c.type_vars c.scheme.0) o.constants.items j s scheme in
      let one = one_value (slice_get o.constants.items j) d c here there in
      let (n, number, big, tells) = constant_there mid j c there (sym (ap (λ (x : List ℕ × Bool). x.1) is) ∙ ex) in (
        n,
        ap (constant_above (Some a)) (ap (λ (x : List ℕ × Bool). x.0) is) ∙ number,
        big,
        tells ∙ ap (λ (x : ObjectConstant). Some (moved_scheme (map_of 0 (copy_of (Some a) o mid)) (scheme_in o.bank x.type_vars x.scheme.0))) (sym one)
            ∙ ap (λ x. Some (moved_scheme (map_of 0 (copy_of (Some a) o mid)) x)) (sym is_scheme) ∙ ap Some (sym value),
      ))
