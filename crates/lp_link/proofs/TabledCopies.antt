-- The tables of a root's copies tell of each copy's names what its object tells of them.
use Rattle.std.proofs.Common.{◌≡◌, ◌∙◌, ◌+◌, ◌-◌, ◌≤◌, ℕ, zero, suc, Bool, true, false, if◌then◌else◌, List, [], ◌∷◌, ◌++◌, length, map, get_or, Option, Some, ap, refl, sym, subst, arith, append_assoc}
use Rattle.std.specs.Prelude.{slice_get, sum_by, option_map, All}
use Rattle.std.proofs.lemmas.Bool.{le-ltb}
use Rattle.std.proofs.lemmas.List.{length-append, length-map}
use Rattle.std.proofs.lemmas.List.Sums.{sum_by-append, sum_by-cons}
use Rattle.std.proofs.lemmas.List.Elements.{All-head, All-tail}
use Rattle.lp_lemmas.specs.Each.{EachOf}
use Rattle.lp_lemmas.proofs.Each.{each_append}
use Rattle.lp_lemmas.proofs.Elements.{All_front, All_back}
use Rattle.lp_calculus.specs.Typing.{Scheme}
use Rattle.lp_copies.specs.Copies.{Copies, no_copy, copy}
use Rattle.lp_code.specs.declared.object.Object.{Object}
use Rattle.lp_code.specs.declared.object.ObjectKind.{ObjectKind}
use Rattle.lp_code.specs.declared.object.ObjectConstant.{ObjectConstant}
use Rattle.lp_code.specs.Symbolic.{Tables}
use Rattle.lp_standard.specs.Kinds.{arity, numbered}
use Rattle.lp_standard.specs.Schemes.{standard_schemes, entry}
use Rattle.lp_code.specs.Naming.{tables_of, object_arity, scheme_in}
use Rattle.lp_link.specs.Uses.{uses_of}
use Rattle.lp_link.specs.Ends.{hidden_kinds, hidden_constants, kind_counts, constant_counts}
use Rattle.lp_link.specs.Edges.{Edges, edge}
use Rattle.lp_link.specs.Refusals.{AreSame}
use Rattle.lp_link.specs.Differences.{IsSameAbove}
use Rattle.lp_link.specs.Renumbering.{moved_scheme}
use Rattle.lp_link.specs.Linked.{Copy, Ends, kinds_of, constants_of, kind_above, constant_above, copy_of, behind, Linked, none_linked, one_linked, map_of}
use Rattle.lp_link.specs.Names.{hidden_of, exported_of, schemes_of, moved_schemes}
use Rattle.lp_link.specs.inner.Tabled.{arities_of, hidden_arities, hidden_schemes}
use Rattle.lp_link.specs.inner.ToldNames.{IsTold}
use Rattle.lp_link.proofs.ToldNames.{below_told, at_table}
use Rattle.lp_link.proofs.AboveNames.{kinds_above, constants_above}

-- how many names are hidden, and how many exported

as_many_hidden : {A X : Type 0} (name : X → List ℕ) (exported : X → Bool) (value : X → A) (xs : List X) → length
    (hidden_of (map (λ x. (name x, exported x)) xs) (map value xs)) ≡ sum_by (λ x. if exported x then 0 else 1) xs
as_many_hidden name exported value [] = refl
as_many_hidden name exported value (x ∷ xs) =
    let s = sum_by-cons (λ x. if exported x then 0 else 1) x xs in
    let more = as_many_hidden name exported value xs in
    let here = by (exported x) in
    omega (arith, s, more, here)
  where
    by : (b : Bool) → length (hidden_of ((name x, b) ∷ map (λ x. (name x, exported x)) xs) (value x ∷ map value xs)) ≡ (if b then 0 else 1) + length
        (hidden_of (map (λ x. (name x, exported x)) xs) (map value xs))
    by false = omega arith
    by true = omega arith

pub both_kinds : {A : Type 0} (es : List (List ℕ × Bool)) (vs : List A) → length es ≡ length vs → length (exported_of es vs) + length (hidden_of es vs) ≡ length vs
both_kinds [] [] l = refl
both_kinds [] (v ∷ vs) l = absurd (omega (arith, l))
both_kinds (e ∷ es) [] l = absurd (omega (arith, l))
both_kinds ((name, false) ∷ es) (v ∷ vs) l = let m = both_kinds es vs (omega (arith, l)) in omega (arith, m)
both_kinds ((name, true) ∷ es) (v ∷ vs) l = let m = both_kinds es vs (omega (arith, l)) in omega (arith, m)

pub kind_entries : (o : Object) → length (kinds_of o) ≡ length (arities_of o)
kind_entries o = length-map o.kinds.items (λ (k : ObjectKind). (k.name.items, k.exported)) ∙ sym (length-map o.kinds.items object_arity)

pub constant_entries : (c : Copy) → length (constants_of c.object) ≡ length (moved_schemes c)
constant_entries c =
    length-map c.object.constants.items (λ (c : ObjectConstant). (c.name.items, c.exported))
    ∙ sym (length-map (schemes_of c.object) (moved_scheme (map_of 0 c)) ∙ length-map c.object.constants.items (λ (d : ObjectConstant). scheme_in c.object.bank d.type_vars d.scheme.0))

pub kinds_hidden : (o : Object) → length (hidden_of (kinds_of o) (arities_of o)) ≡ hidden_kinds o.kinds.items
kinds_hidden o = as_many_hidden (λ (k : ObjectKind). k.name.items) (λ (k : ObjectKind). k.exported) object_arity o.kinds.items

map_twice : {A B C : Type 0} (f : A → B) (g : B → C) (xs : List A) → map g (map f xs) ≡ map (λ x. g (f x)) xs
map_twice f g [] = refl
map_twice f g (x ∷ xs) = ap (λ l. g (f x) ∷ l) (map_twice f g xs)

pub constants_hidden : (c : Copy) → length (hidden_of (constants_of c.object) (moved_schemes c)) ≡ hidden_constants c.object.constants.items
constants_hidden c =
    ap (λ l. length (hidden_of (constants_of c.object) l)) (map_twice (λ (d : ObjectConstant). scheme_in c.object.bank d.type_vars d.scheme.0) (moved_scheme (map_of 0 c)) c.object.constants.items)
    ∙ as_many_hidden (λ (d : ObjectConstant). d.name.items) (λ (d : ObjectConstant). d.exported)
    (λ (d : ObjectConstant). moved_scheme (map_of 0 c) (scheme_in c.object.bank d.type_vars d.scheme.0)) c.object.constants.items

first_part : {A : Type 0} (f x y z b : List A) → f ++ ((x ++ (y ++ z)) ++ b) ≡ f ++ (x ++ (y ++ (z ++ b)))
first_part f x y z b = simp append_assoc

second_part : {A : Type 0} (f x y z b : List A) → f ++ ((x ++ (y ++ z)) ++ b) ≡ (f ++ x) ++ (y ++ (z ++ b))
second_part f x y z b = simp append_assoc

third_part : {A : Type 0} (f x y z b : List A) → f ++ ((x ++ (y ++ z)) ++ b) ≡ ((f ++ x) ++ y) ++ (z ++ b)
third_part f x y z b = simp append_assoc

-- copies one behind the other
pub arities_behind : (xs ys : List Copy) → hidden_arities (xs ++ ys) ≡ hidden_arities xs ++ hidden_arities ys
arities_behind [] ys = refl
arities_behind (c ∷ xs) ys = ap (λ l. hidden_of (kinds_of c.object) (arities_of c.object) ++ l) (arities_behind xs ys) ∙ sym
    (append_assoc (hidden_of (kinds_of c.object) (arities_of c.object)) (hidden_arities xs) (hidden_arities ys))

pub schemes_behind : (xs ys : List Copy) → hidden_schemes (xs ++ ys) ≡ hidden_schemes xs ++ hidden_schemes ys
schemes_behind [] ys = refl
schemes_behind (c ∷ xs) ys = ap (λ l. hidden_of (constants_of c.object) (moved_schemes c) ++ l) (schemes_behind xs ys) ∙ sym
    (append_assoc (hidden_of (constants_of c.object) (moved_schemes c)) (hidden_schemes xs) (hidden_schemes ys))

module _ (ks : List ℕ) (cs : List Scheme) where
  pub read_kind : (n : ℕ) → 8 ≤ n → (tables_of ks cs).kinds n ≡ slice_get ks (n - 8)
  read_kind n l = ap (λ b. if b then option_map arity (numbered n) else slice_get ks (n - 8)) (le-ltb n 8 l)

  pub read_constant : (n : ℕ) → 32 ≤ n → (tables_of ks cs).constants n ≡ slice_get cs (n - 32)
  read_constant n l = ap (λ b. if b then entry standard_schemes n else slice_get cs (n - 32)) (le-ltb n 32 l)

module _ (os : List Object) where
  -- the numbers of hidden names go on copy by copy
  pub ends_behind : (above : Option Copy) (entries : List ℕ) (begin end : Ends) (all : List Copy) → Linked os above entries begin all end
      → (end.kinds ≡ begin.kinds + length (hidden_arities all)) × (end.constants ≡ begin.constants + length (hidden_schemes all))
  ends_behind above entries begin end all (none_linked a e) = (omega arith, omega arith)
  ends_behind above entries begin end all (one_linked a m rest o b mid e below others l there inner more is) =
      let x = ends_behind (Some (copy_of above o mid)) (get_or (uses_of os) m []) begin mid below inner in
      let y = ends_behind above rest (behind o mid) end others more in
      let c = copy_of above o mid in
      let k = ap length (ap hidden_arities is ∙ arities_behind below (c ∷ others)) ∙ length-append (hidden_arities below) (hidden_arities (c ∷ others)) in
      let kc = length-append (hidden_of (kinds_of o) (arities_of o)) (hidden_arities others) in
      let kh = kinds_hidden o in
      let s = ap length (ap hidden_schemes is ∙ schemes_behind below (c ∷ others)) ∙ length-append (hidden_schemes below) (hidden_schemes (c ∷ others)) in
      let sc = length-append (hidden_of (constants_of o) (moved_schemes c)) (hidden_schemes others) in
      let sh = constants_hidden c in
      let xk = x.0 in
      let xs = x.1 in
      let yk = y.0 in
      let ys = y.1 in
      (omega (arith, k, kc, kh, xk, yk), omega (arith, s, sc, sh, xs, ys))

  pub own_count : (f : Object → ℕ) (xs : List Object) (m : ℕ) (o : Object) → slice_get xs m ≡ Some o → get_or (map f xs) m 0 ≡ f o
  own_count f [] m o e = absurd (cc)
  own_count f (x ∷ xs) zero o e = let z : x ≡ o = cc in ap f z
  own_count f (x ∷ xs) (suc m) o e = own_count f xs m o e

  -- their modules are those of copies, which have as many hidden names
  pub copies_linked : (above : Option Copy) (entries : List ℕ) (begin end : Ends) (all : List Copy) → Linked os above entries begin all end
      → (ms : List ℕ) × Copies (uses_of os) entries ms × (end.kinds ≡ begin.kinds + sum_by (λ m. get_or (kind_counts os) m 0) ms) ×
      (end.constants ≡ begin.constants + sum_by (λ m. get_or (constant_counts os) m 0) ms)
  copies_linked above entries begin end all (none_linked a e) = ([], no_copy, omega arith, omega arith)
  copies_linked above entries begin end all (one_linked a m rest o b mid e below others l there inner more is) =
      let (xs, x, xk, xc) = copies_linked (Some (copy_of above o mid)) (get_or (uses_of os) m []) begin mid below inner in
      let (ys, y, yk, yc) = copies_linked above rest (behind o mid) end others more in
      let k = sum_by-append (λ m. get_or (kind_counts os) m 0) xs (m ∷ ys) in
      let k1 = sum_by-cons (λ m. get_or (kind_counts os) m 0) m ys in
      let k2 = own_count (λ o. hidden_kinds o.kinds.items) os m o there in
      let c = sum_by-append (λ m. get_or (constant_counts os) m 0) xs (m ∷ ys) in
      let c1 = sum_by-cons (λ m. get_or (constant_counts os) m 0) m ys in
      let c2 = own_count (λ o. hidden_constants o.constants.items) os m o there in
      (xs ++ m ∷ ys, copy m rest xs ys (xs ++ m ∷ ys) x y refl, omega (arith, xk, yk, k, k1, k2), omega (arith, xc, yc, c, c1, c2))

  module _ (ks : List ℕ) (cs : List Scheme) where
    abbrev u : Tables
    u = tables_of ks cs

    -- a copy whose hidden names stand in the tables, below one of whose names all is told
    told_here : (a : Copy) (o : Object) (mid : Ends) → IsTold u a → IsSameAbove o a.object → (fk bk : List ℕ) → ks ≡ fk ++ (hidden_of (kinds_of o) (arities_of o) ++ bk) → mid.kinds ≡ 8 + length fk
        → (fc bc : List Scheme) → cs ≡ fc ++ (hidden_of (constants_of o) (moved_schemes (copy_of (Some a) o mid)) ++ bc) → mid.constants ≡ 32 + length fc → IsTold u (copy_of (Some a) o mid)
    told_here a o mid told same fk bk ek nk fc bc ec nc =
        let c = copy_of (Some a) o mid in
        record {
          kinds = below_told 8 u.kinds (kind_above (Some a)) 8 mid.kinds (kinds_of o) (arities_of o) (kind_entries o) (omega (arith, nk)) (kinds_above u o a same told)
              (at_table 8 u.kinds ks (read_kind ks cs) fk (hidden_of (kinds_of o) (arities_of o)) bk ek mid.kinds nk);
          constants = below_told 32 u.constants (constant_above (Some a)) 32 mid.constants (constants_of o) (moved_schemes c) (constant_entries c)
              (omega (arith, nc)) (constants_above u o a same told mid)
              (at_table 32 u.constants cs (read_constant ks cs) fc (hidden_of (constants_of o) (moved_schemes c)) bc ec mid.constants nc);
        }

    pub told_below : (m : ℕ) (a : Copy) → slice_get os m ≡ Some a.object → IsTold u a → (entries : List ℕ) (begin end : Ends) (all : List Copy)
        (edges : List (ℕ × ℕ)) → Linked os (Some a) entries begin all end
        → Edges (uses_of os) m entries edges → All (AreSame os) edges → (fk bk : List ℕ) → ks ≡ fk ++ (hidden_arities all ++ bk) → begin.kinds ≡ 8 + length fk
        → (fc bc : List Scheme) → cs ≡ fc ++ (hidden_schemes all ++ bc) → begin.constants ≡ 32 + length fc → EachOf (IsTold u) all
    told_below m a at told entries begin end all edges (none_linked x e) es same fk bk ek nk fc bc ec nc = tt
    told_below m a at told entries begin end all edges (one_linked x k rest o b mid e below others l there inner more is)
        (edge v k2 rest2 inside behind_them each first second whole) same fk bk ek nk fc bc ec nc =
        let c = copy_of (Some a) o mid in
        let hk = hidden_of (kinds_of o) (arities_of o) in
        let hc = hidden_of (constants_of o) (moved_schemes c) in
        let all_same = subst (All (AreSame os)) whole same in
        let tail_same = All_back (AreSame os) inside ((k, m) ∷ behind_them) all_same in
        let one_same = All-head (AreSame os) (k, m) behind_them tail_same o a.object there at in
        let lk = ends_behind (Some c) (get_or (uses_of os) k []) begin mid below inner in
        let lk0 = lk.0 in
        let lc0 = lk.1 in
        let ak = length-append fk (hidden_arities below) in
        let ac = length-append fc (hidden_schemes below) in
        let bk1 = length-append (fk ++ hidden_arities below) hk in
        let bc1 = length-append (fc ++ hidden_schemes below) hc in
        let hk1 = kinds_hidden o in
        let hc1 = constants_hidden c in
        let pk = ek ∙ ap (λ x. fk ++ (x ++ bk)) (ap hidden_arities is ∙ arities_behind below (c ∷ others)) in
        let pc = ec ∙ ap (λ x. fc ++ (x ++ bc)) (ap hidden_schemes is ∙ schemes_behind below (c ∷ others)) in
        let told_c = told_here a o mid told one_same (fk ++ hidden_arities below) (hidden_arities others ++ bk)
        (pk ∙ second_part fk (hidden_arities below) hk (hidden_arities others) bk) (omega (arith, nk, lk0, ak))
        (fc ++ hidden_schemes below) (hidden_schemes others ++ bc) (pc ∙ second_part fc (hidden_schemes below) hc (hidden_schemes others) bc) (omega (arith, nc, lc0, ac)) in
        subst (EachOf (IsTold u)) (sym is) (each_append (IsTold u) below (c ∷ others)
        (told_below k c there told_c (get_or (uses_of os) k []) begin mid below inside inner first (All_front (AreSame os) inside ((k, m) ∷ behind_them) all_same)
        fk (hk ++ (hidden_arities others ++ bk)) (pk ∙ first_part fk (hidden_arities below) hk (hidden_arities others) bk) nk fc
        (hc ++ (hidden_schemes others ++ bc)) (pc ∙ first_part fc (hidden_schemes below) hc (hidden_schemes others) bc) nc) (
          told_c,
          told_below m a at told rest (behind o mid) end others behind_them more second (All-tail (AreSame os) (k, m) behind_them tail_same)
              ((fk ++ hidden_arities below) ++ hk) bk (pk ∙ third_part fk (hidden_arities below) hk (hidden_arities others) bk) (omega (arith, nk, lk0, ak, bk1, hk1))
              ((fc ++ hidden_schemes below) ++ hc) bc (pc ∙ third_part fc (hidden_schemes below) hc (hidden_schemes others) bc) (omega (arith, nc, lc0, ac, bc1, hc1)),
        ))
