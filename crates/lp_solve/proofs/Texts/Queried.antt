-- The names that queries see have, in the table of the program, the types that their signature gives.
use Rattle.std.proofs.Common.{◌≡◌, ℕ, zero, suc, ◌+◌, ◌-◌, ◌<◌, ◌≤◌, List, [], ◌∷◌, ◌++◌, length, map, take, option_map, Bool, true, false, Option, Some, None, refl, sym, ap, subst, ◌∙◌, arith}
use Rattle.std.specs.Prelude.{◌&&◌, if◌then◌else◌, slice_get, All, fold, unwrap_or}
use Rattle.std.specs.List.{AllZip, range_with_len}
use Rattle.std.specs.Str.{bytes_eq}
use Rattle.std.proofs.lemmas.Bool.{ne_eqb, eq-eqb}
use Rattle.std.proofs.lemmas.List.{take-map, length-map, length-take}
use Rattle.std.proofs.lemmas.Option.{same_Some, slice_get_within, get_or_from_slice_get, slice_get_read}
use Rattle.lp_lemmas.proofs.Lists.{get_below}
use Rattle.lp_calculus.specs.Types.{Ty, Tys, var, param, con, arrow, no_types, types}
use Rattle.lp_term.specs.Mapped.{Map, mapped_type, mapped_types}
use Rattle.lp_term.specs.Nodes.{type_tree}
use Rattle.lp_model.specs.Readings.{declared_by}
use Rattle.lp_sig.specs.Modules.{kind_said, abbreviation_said, said_of, constants_of, first_names, IsApart, HasOwnFirst}
use Rattle.lp_sig.specs.Named.{named, all_named, named_in, kind_name, kind_names, IsWhole, AreWhole, IsOrdered, SeesAlike}
use Rattle.lp_sig.specs.Places.{first_place}
use Rattle.lp_sig.specs.Rows.{Row, found, kind_row, constant_row}
use Rattle.lp_sig.specs.Said.{names_in}
use Rattle.lp_sig.specs.Standard.{standard_kinds, standard_constants}
use Rattle.lp_sig.specs.declared.entries.ConstantEntry.{ConstantEntry}
use Rattle.lp_sig.specs.declared.entries.KindEntry.{KindEntry}
use Rattle.lp_sig.specs.declared.signature.Signature.{Signature}
use Rattle.lp_sig.proofs.Apart.{AreNew, firsts_new, names_again}
use Rattle.lp_sig.proofs.Sights.{place_first}
use Rattle.lp_sig.proofs.Viewing.{names_are}
use Rattle.lp_module.specs.Joined.{IsNumberedSignature, AreJoined}
use Rattle.lp_module.specs.Numbering.{hidden_one}
use Rattle.lp_module.specs.Orderly.{IsOrderly}
use Rattle.lp_module.specs.Program.{place_in, hidden_or, one_if_none, exported_before, exported_among, row_of, kind_as, constant_as, map_of, IsProgram}
use Rattle.lp_module.specs.declared.copies.Assembled.{Assembled}
use Rattle.lp_module.specs.declared.copies.GlobalName.{GlobalName}
use Rattle.lp_module.specs.declared.module.Module.{Module}
use Rattle.lp_module.proofs.Joining.{standard_number, IsNamedKind, of_language, of_signature, named_kind, con_name, arrow_parts, list_parts}
use Rattle.lp_module.proofs.Joins.{first_name, first_within, own_entry}
use Rattle.lp_module.proofs.Lookups.{exported_first, place_none, exported_have_types}
use Rattle.lp_build.specs.Queried.{is_global_of, global_of, number_among, IsConstantOf, as_row, kind_numbers, with_kinds, IsSeenByQueries}
use Rattle.lp_solve.specs.Schemes.{DeclaresSeen}

-- global names in front of a table
front_global : (n : List ℕ) (gs : List GlobalName) (front back : List (Row (ℕ × ℕ))) (q : ℕ) → map row_of gs ≡ front ++ back → All (λ r. r.1.0 ≡ 0)
    front → first_place n (names_in front) ≡ Some q → global_of gs n ≡ Some q
front_global n gs [] back q e none at = absurd (cc)
front_global n [] (r ∷ rs) back q e none at = absurd (cc)
front_global n (g ∷ gs) (r ∷ rs) back q e none at = here (λ i m k. front_global n gs rs back i m k) ∙ at
  where
    row : row_of g ≡ r
    row = cc

    more : map row_of gs ≡ rs ++ back
    more = cc

    zero_is : (h : ℕ) → hidden_one h ≡ 0 → h ≡ 0
    zero_is zero e = refl
    zero_is (suc h) e = absurd (cc)

    global : g.hidden ≡ 0
    global = zero_is g.hidden (ap (λ r. r.1.0) row ∙ none 0 r (omega arith))

    test : is_global_of n g ≡ bytes_eq n r.0
    test = ap (λ t. t && bytes_eq n g.name.items) (eq-eqb g.hidden 0 global) ∙ ap (λ r. bytes_eq n r.0) row

    here : ((i : ℕ) → map row_of gs ≡ rs ++ back → All (λ r. r.1.0 ≡ 0) rs → first_place n (names_in rs) ≡ Some i → global_of gs n ≡ Some i) → global_of (g ∷ gs) n ≡ first_place n (r.0 ∷ names_in rs)
    here h = ap (λ t. if t then Some 0 else option_map (λ i. suc i) (global_of gs n)) test ∙ by (bytes_eq n r.0) refl
      where
        rest : (o : Option ℕ) → first_place n (names_in rs) ≡ o → bytes_eq n r.0 ≡ false → option_map (λ i. suc i) (global_of gs n) ≡ option_map (λ i. suc i) (first_place n (names_in rs))
        rest None f s = absurd (let z = sym (ap (λ t. if t then Some 0 else option_map (λ i. suc i) (first_place n (names_in rs))) s ∙ ap (option_map (λ i. suc i)) f) ∙ at in cc)
        rest (Some i) f s = ap (option_map (λ i. suc i)) (h i more (λ k d l. none (suc k) d (omega (arith, l))) f ∙ sym f)

        by : (t : Bool) → bytes_eq n r.0 ≡ t → (if t then Some 0 else option_map (λ i. suc i) (global_of gs n)) ≡ (if t then Some 0 else option_map (λ i. suc i) (first_place n (names_in rs)))
        by true s = refl
        by false s = rest (first_place n (names_in rs)) refl s

-- numbers before hidden ones
before_hidden : (first b n i : ℕ) (hidden : List ℕ) → hidden ≡ range_with_len (first + b) n → i ≤ b → exported_before first hidden i ≡ i
before_hidden first b n zero hidden e l = refl
before_hidden first b n (suc i) hidden e l =
    let p : place_in hidden (first + i) ≡ None = ap (λ h. place_in h (first + i)) e ∙ place_none (first + b) n (first + i) (omega (arith, l)) in
    let q : i + 1 ≡ suc i = omega arith in
    (λ j. before_hidden first b n i hidden e (omega (arith, l)) j + ap one_if_none p j) ∙ q

-- what becomes of the numbers of kinds
module _ (kinds : List GlobalName) where
  fold_low : (es : List KindEntry) (n : ℕ) (f : ℕ → ℕ) (k : ℕ) → map (λ e. e.number) es ≡ range_with_len n (length es) → k < n → fold (as_row kinds) f (map kind_row es) k ≡ f k
  fold_low [] n f k e l = refl
  fold_low (x ∷ xs) n f k e l =
      let h : x.number ≡ n = cc in
      let t : map (λ e. e.number) xs ≡ range_with_len (n + 1) (length xs) = cc in
      fold_low xs (n + 1) (as_row kinds f (kind_row x)) k t (omega (arith, l)) ∙
      ap (λ b. if b then unwrap_or (number_among 8 kinds x.name.items) k else f k) (ne_eqb x.number k (λ z. omega (arith, z, h, l)))

  fold_at : (es : List KindEntry) (n q : ℕ) (f : ℕ → ℕ) (k : ℕ) (x : KindEntry) → map (λ e. e.number) es ≡ range_with_len n (length es) → slice_get es
      q ≡ Some x → k ≡ n + q → fold (as_row kinds) f (map kind_row es) k ≡ unwrap_or (number_among 8 kinds x.name.items) k
  fold_at [] n q f k x e at z = absurd (cc)
  fold_at (y ∷ ys) n zero f k x e at z =
      let h : y.number ≡ n = cc in
      let t : map (λ e. e.number) ys ≡ range_with_len (n + 1) (length ys) = cc in
      fold_low ys (n + 1) (as_row kinds f (kind_row y)) k t (omega (arith, z)) ∙
      ap (λ b. if b then unwrap_or (number_among 8 kinds y.name.items) k else f k) (eq-eqb y.number k (omega (arith, h, z))) ∙
      ap (λ y. unwrap_or (number_among 8 kinds y.name.items) k) (same_Some y x at)
  fold_at (y ∷ ys) n (suc q) f k x e at z =
      let t : map (λ e. e.number) ys ≡ range_with_len (n + 1) (length ys) = cc in
      fold_at ys (n + 1) q (as_row kinds f (kind_row y)) k x t at (omega (arith, z))

-- types that are one by the names of kinds, whose numbers become one
module _ (f g : Map) (κ μ : ℕ → Option (List ℕ)) (vars : (x : ℕ) → f.types x ≡ g.types x) (agree : (n : List ℕ) (k j : ℕ) → κ k ≡ Some n → μ j ≡ Some n → f.kinds k ≡ g.kinds j) where
  mutual
    same_mapped : (T U : Ty) → named κ T ≡ named μ U → IsWhole (named μ U) → mapped_type f T ≡ mapped_type g U
    same_mapped (var x) (var y) e w = let z : x ≡ y = cc in vars x ∙ ap g.types z
    same_mapped (var x) (param k) e w = absurd (cc)
    same_mapped (var x) (con k us) e w = absurd (cc)
    same_mapped (var x) (arrow c d) e w = absurd (cc)
    same_mapped (param k) (var y) e w = absurd (cc)
    same_mapped (param k) (param j) e w = let z : k ≡ j = cc in ap param z
    same_mapped (param k) (con j us) e w = absurd (cc)
    same_mapped (param k) (arrow c d) e w = absurd (cc)
    same_mapped (con k ts) (var y) e w = absurd (cc)
    same_mapped (con k ts) (param j) e w = absurd (cc)
    same_mapped (con k ts) (con j us) e ((n, h), w) =
        let p = con_name (κ k) (μ j) (all_named κ ts) (all_named μ us) e in
        let a = agree n k j (p.0 ∙ h) h in
        let b = all_mapped ts us p.1 w in
        cc
    same_mapped (con k ts) (arrow c d) e w = absurd (cc)
    same_mapped (arrow a b) (var y) e w = absurd (cc)
    same_mapped (arrow a b) (param j) e w = absurd (cc)
    same_mapped (arrow a b) (con j us) e w = absurd (cc)
    same_mapped (arrow a b) (arrow c d) e (v, w) =
        let p = arrow_parts (named κ a) (named κ b) (named μ c) (named μ d) e in
        let x = same_mapped a c p.0 v in
        let y = same_mapped b d p.1 w in
        cc

    all_mapped : (ts us : Tys) → all_named κ ts ≡ all_named μ us → AreWhole (all_named μ us) → mapped_types f ts ≡ mapped_types g us
    all_mapped no_types no_types e w = refl
    all_mapped no_types (types u us) e w = absurd (cc)
    all_mapped (types t ts) no_types e w = absurd (cc)
    all_mapped (types t ts) (types u us) e (v, w) =
        let p = list_parts (named κ t) (named μ u) (all_named κ ts) (all_named μ us) e in
        let x = same_mapped t u p.0 v in
        let y = all_mapped ts us p.1 w in
        cc

-- names of kinds that are apart
new_front : {A : Type 0} (known : List (List ℕ)) (xs ys : List (Row A)) → AreNew known (xs ++ ys) → AreNew known xs
new_front known [] ys n = tt
new_front known (x ∷ xs) ys (e, n) = (e, new_front (x.0 ∷ known) xs ys n)

apart_kinds : (own : Signature) → IsApart own → first_names (names_in standard_kinds) (kind_names own) ≡ kind_names own
apart_kinds own apart =
    let rows = map kind_said own.kinds.items in
    let new = new_front (names_in standard_kinds) rows (map abbreviation_said own.abbreviations.items)
    (subst (AreNew (names_in standard_kinds)) apart.kinds (firsts_new (names_in standard_kinds) (said_of own))) in
    subst (λ ns. first_names (names_in standard_kinds) ns ≡ ns) (names_are own.kinds.items) (names_again (names_in standard_kinds) rows new)

-- names of the rows in front
kind_rows : (es : List KindEntry) → names_in (map (kind_as 0) es) ≡ map (λ e. e.name.items) es
kind_rows [] = refl
kind_rows (e ∷ es) = ap (λ l. e.name.items ∷ l) (kind_rows es)

constant_rows : (es : List ConstantEntry) → names_in (map (constant_as 0) es) ≡ map (λ e. e.name.items) es
constant_rows [] = refl
constant_rows (e ∷ es) = ap (λ l. e.name.items ∷ l) (constant_rows es)

all_global : {E : Type 0} (f : E → Row (ℕ × ℕ)) → ((e : E) → (f e).1.0 ≡ 0) → (es : List E) → All (λ r. r.1.0 ≡ 0) (map f es)
all_global f zero_is [] k d l = absurd (omega (arith, l))
all_global f zero_is (e ∷ es) zero d l = zero_is e
all_global f zero_is (e ∷ es) (suc k) d l = all_global f zero_is es k d (omega (arith, l))

zip_at : {A B C D : Type 0} (R : C → D → Type 0) (f : A → C) (g : B → D) (xs : List A) (ys : List B) → AllZip R (map f xs) (map g ys) → (i : ℕ)
    (y : B) → slice_get ys i ≡ Some y → (x : A) × (slice_get xs i ≡ Some x) × R (f x) (g y)
zip_at R f g [] [] z i y e = absurd (cc)
zip_at R f g [] (b ∷ bs) z i y e = absurd z
zip_at R f g (a ∷ more) [] z i y e = absurd z
zip_at R f g (a ∷ more) (b ∷ bs) (r, z) zero y e = (a, refl, subst (λ b. R (f a) (g b)) (same_Some b y e) r)
zip_at R f g (a ∷ more) (b ∷ bs) (r, z) (suc i) y e = zip_at R f g more bs z i y e

module _ (modules : List Module) (root : ℕ) (a : Assembled) (p : IsProgram modules root a) (j : AreJoined modules) (own s : Signature)
    (seen : IsSeenByQueries own a.kinds.items a.constants.items s) (apart : IsApart own) (ordered : IsOrdered own)
    (first : HasOwnFirst own p.are.top.signature) (theirs : SeesAlike own p.are.top.signature) (o : IsOrderly p.are.top)
    (kinds_are : o.exported_kinds ≡ length own.kinds.items) (constants_are : o.exported_constants ≡ length own.constants.items) where
  abbrev top : Module
  top = p.are.top

  sm : IsNumberedSignature p.are.top.signature
  sm = j.numbered root p.are.top p.are.at

  -- the exported names are the first ones
  kinds_front : exported_among 8 top.hidden_kinds.items top.signature.kinds.items ≡ take (length own.kinds.items) top.signature.kinds.items
  kinds_front =
      ap (λ h. exported_among 8 h top.signature.kinds.items) o.kinds ∙ exported_first (8 + o.exported_kinds)
      (length top.signature.kinds.items - o.exported_kinds) 8 o.exported_kinds top.signature.kinds.items refl (omega arith) ∙
      ap (λ n. take n top.signature.kinds.items) kinds_are

  constants_front : exported_among 32 top.hidden_constants.items top.signature.constants.items ≡ take (length own.constants.items) top.signature.constants.items
  constants_front =
      ap (λ h. exported_among 32 h top.signature.constants.items) o.constants ∙
      exported_first (32 + o.exported_constants) (length top.signature.constants.items - o.exported_constants) 32 o.exported_constants top.signature.constants.items refl (omega arith) ∙
      ap (λ n. take n top.signature.constants.items) constants_are

  global_kind : (q : ℕ) (x : KindEntry) → slice_get own.kinds.items q ≡ Some x → global_of a.kinds.items x.name.items ≡ Some q
  global_kind q x at =
      let es = exported_among 8 top.hidden_kinds.items top.signature.kinds.items in
      let names : names_in (map (kind_as 0) es) ≡ kind_names own =
      kind_rows es ∙ ap (map (λ e. e.name.items)) kinds_front ∙ sym (take-map (λ (e : KindEntry). e.name.items) (length own.kinds.items) top.signature.kinds.items) ∙ first.kinds in
      let known = names_in standard_kinds in
      front_global x.name.items a.kinds.items (map (kind_as 0) es) _ q p.tables.kinds (all_global (kind_as 0) (λ e. refl) es)
      (ap (first_place x.name.items) (names ∙ sym (apart_kinds own apart)) ∙ place_first known (kind_names own) q x.name.items
      (ap (λ l. slice_get l q) (apart_kinds own apart) ∙ name_at own.kinds.items q at))
    where
      name_at : (es : List KindEntry) (q : ℕ) → slice_get es q ≡ Some x → slice_get (map (λ e. e.name.items) es) q ≡ Some x.name.items
      name_at [] q e = absurd (cc)
      name_at (y ∷ ys) zero e = ap (option_map (λ (e : KindEntry). e.name.items)) e
      name_at (y ∷ ys) (suc q) e = name_at ys q e

  global_constant : (q : ℕ) (x : ConstantEntry) → slice_get own.constants.items q ≡ Some x → global_of a.constants.items x.name.items ≡ Some q
  global_constant q x at =
      let es = exported_among 32 top.hidden_constants.items top.signature.constants.items in
      let names : names_in (map (constant_as 0) es) ≡ constants_of own =
      constant_rows es ∙ ap (map (λ e. e.name.items)) constants_front ∙ sym (take-map (λ (e : ConstantEntry). e.name.items)
      (length own.constants.items) top.signature.constants.items) ∙ first.constants in
      let known = names_in standard_constants in
      front_global x.name.items a.constants.items (map (constant_as 0) es) _ q p.tables.constants (all_global (constant_as 0) (λ e. refl) es)
      (ap (first_place x.name.items) (names ∙ sym apart.constants) ∙ place_first known (constants_of own) q x.name.items (ap (λ l. slice_get l q) apart.constants ∙ name_at own.constants.items q at))
    where
      name_at : (es : List ConstantEntry) (q : ℕ) → slice_get es q ≡ Some x → slice_get (map (λ e. e.name.items) es) q ≡ Some x.name.items
      name_at [] q e = absurd (cc)
      name_at (y ∷ ys) zero e = ap (option_map (λ (e : ConstantEntry). e.name.items)) e
      name_at (y ∷ ys) (suc q) e = name_at ys q e

  -- kinds of one name have one number in the program
  abbrev new_kinds : ℕ → ℕ
  new_kinds = kind_numbers a.kinds.items (map kind_row own.kinds.items)

  kinds_agree : (n : List ℕ) (k l : ℕ) → kind_name (kind_names top.signature) k ≡ Some n → kind_name (kind_names own) l ≡ Some n → p.are.copy.kinds k ≡ new_kinds l
  kinds_agree n k l e f = by (named_kind top.signature n k e) (named_kind own n l f)
    where
      by : IsNamedKind top.signature n k → IsNamedKind own n l → p.are.copy.kinds k ≡ new_kinds l
      by (of_language h at_k) (of_language g at_l) =
          let (r, found_r, is_r, small) = standard_number k n [] at_k in
          let (q, found_q, is_q, little) = standard_number l n [] at_l in
          let same = ap (λ p. p.0) (same_Some r q (sym found_r ∙ found_q)) in
          p.are.is_root.kinds.standard k h ∙ sym is_r ∙ same ∙ is_q ∙ sym (fold_low a.kinds.items own.kinds.items 8 (λ k. k) l ordered.kinds g)
      by (of_language h at_k) (of_signature q x z at name) =
          let (v, at_v) = get_below top.signature.kinds.items q (first_within top own o kinds_are sm first q (slice_get_within own.kinds.items q x at)) in
          let name_v : v.name.items ≡ n = first_name (λ (e : KindEntry). e.name.items) (λ (e : KindEntry). e.name.items) top.signature.kinds.items own.kinds.items q v x first.kinds at_v at ∙ name in
          let (r, found_r, is_r, small) = standard_number k n (map kind_row top.signature.kinds.items) at_k in
          let g = ap (λ p. p.0) (same_Some r (8 + q, v.arity) (sym found_r ∙ ap (λ w. found w (standard_kinds ++ map kind_row top.signature.kinds.items)) (sym name_v) ∙ sm.kinds q v at_v)) in
          absurd (omega (arith, g, is_r, small))
      by (of_signature i y w at_i name) (of_language g at_l) =
          let (r, found_r, is_r, small) = standard_number l n (map kind_row top.signature.kinds.items) at_l in
          let g = ap (λ p. p.0) (same_Some r (8 + i, y.arity) (sym found_r ∙ ap (λ w. found w (standard_kinds ++ map kind_row top.signature.kinds.items)) (sym name) ∙ sm.kinds i y at_i)) in
          absurd (omega (arith, g, is_r, small))
      by (of_signature i y w at_i name_y) (of_signature q x z at name) =
          let low = slice_get_within own.kinds.items q x at in
          let (v, at_v) = get_below top.signature.kinds.items q (first_within top own o kinds_are sm first q low) in
          let name_v : v.name.items ≡ n = first_name (λ (e : KindEntry). e.name.items) (λ (e : KindEntry). e.name.items) top.signature.kinds.items own.kinds.items q v x first.kinds at_v at ∙ name in
          let one = ap (λ r. r.0) (same_Some (8 + i, y.arity) (8 + q, v.arity) (sym (sm.kinds i y at_i) ∙ ap
          (λ w. found w (standard_kinds ++ map kind_row top.signature.kinds.items)) (name_y ∙ sym name_v) ∙ sm.kinds q v at_v)) in
          let k_is : k ≡ 8 + q = omega (arith, w, one) in
          let free : place_in top.hidden_kinds.items (8 + q) ≡ None = ap (λ h. place_in h (8 + q)) o.kinds ∙ place_none (8 + o.exported_kinds)
          (length top.signature.kinds.items - o.exported_kinds) (8 + q) (omega (arith, low, kinds_are)) in
          let there : p.are.copy.kinds k ≡ 8 + q =
          ap p.are.copy.kinds k_is ∙ p.are.is_root.kinds.named q (slice_get_within top.signature.kinds.items q v at_v) ∙ ap
          (λ w. hidden_or p.are.middle.kinds w (8 + exported_before 8 top.hidden_kinds.items q)) free ∙
          ap (λ n. 8 + n) (before_hidden 8 o.exported_kinds (length top.signature.kinds.items - o.exported_kinds) q top.hidden_kinds.items o.kinds (omega (arith, low, kinds_are))) in
          there ∙ sym (fold_at a.kinds.items own.kinds.items 8 q (λ k. k) l x ordered.kinds at z ∙ ap (λ w. unwrap_or (option_map (λ i. 8 + i) w) l) (global_kind q x at))

  -- what queries see: the numbers of constants are those of their places
  pub queries_placed : (i : ℕ) (e : ConstantEntry) → slice_get s.constants.items i ≡ Some e → e.number ≡ 32 + i
  queries_placed i e at_e =
      let (x, at, same) = zip_at (IsConstantOf a.constants.items) constant_row constant_row own.constants.items s.constants.items seen.constants_are i e at_e in
      same_Some e.number (32 + i) (sym same.number ∙ ap (option_map (λ i. 32 + i)) (global_constant i x at))

  pub queries_declared : DeclaresSeen (declared_by a.program.bank a.program.constants.items) s
  queries_declared e (i, l, is) =
      let at_e = slice_get_read s.constants.items (length s.constants.items) i e refl l (sym is) in
      let (x, at, same) = zip_at (IsConstantOf a.constants.items) constant_row constant_row own.constants.items s.constants.items seen.constants_are i e at_e in
      let low = slice_get_within own.constants.items i x at in
      let (t, at_t) = get_below top.signature.constants.items i (within i low) in
      let name : t.name.items ≡ x.name.items = first_name (λ (e : ConstantEntry). e.name.items) (λ (e : ConstantEntry). e.name.items)
      top.signature.constants.items own.constants.items i t x first.constants at_t at in
      let entry = own_entry top own sm apart i t at_t x at name (theirs x (i, low, get_or_from_slice_get own.constants.items i x x at)) in
      let free : place_in top.hidden_constants.items (32 + i) ≡ None = ap (λ h. place_in h (32 + i)) o.constants ∙ place_none
      (32 + o.exported_constants) (length top.signature.constants.items - o.exported_constants) (32 + i) (omega (arith, low, constants_are)) in
      let number : p.are.copy.constants (32 + i) ≡ 32 + i =
      p.are.is_root.constants.named i (slice_get_within top.signature.constants.items i t at_t) ∙ ap
      (λ w. hidden_or p.are.middle.constants w (32 + exported_before 32 top.hidden_constants.items i)) free ∙
      ap (λ n. 32 + n) (before_hidden 32 o.exported_constants (length top.signature.constants.items - o.exported_constants) i
      top.hidden_constants.items o.constants (omega (arith, low, constants_are))) in
      let e_number = queries_placed i e at_e in
      let whole = subst (λ x. IsWhole (named_in own x.scheme)) (get_or_from_slice_get own.constants.items i x x at) (ordered.whole i x low) in
      let inside = subst (λ x. x.scheme.0 < length own.bank.types) (get_or_from_slice_get own.constants.items i x x at) (ordered.inside i x low) in
      let body : mapped_type (map_of p.are.copy) (type_tree top.signature.bank t.scheme.0) ≡ type_tree s.bank e.scheme.0 =
      same_mapped (map_of p.are.copy) (with_kinds new_kinds) (kind_name (kind_names top.signature)) (kind_name (kind_names own)) (λ x. refl)
      kinds_agree (type_tree top.signature.bank t.scheme.0) (type_tree own.bank x.scheme.0) entry.1 whole ∙
      sym (seen.types_are x.scheme.0 inside) ∙ ap (type_tree s.bank) (sym same.scheme) in
      let count : t.type_vars ≡ e.type_vars = entry.0 ∙ sym same.variables in
      ap (declared_by a.program.bank a.program.constants.items) (e_number ∙ sym number) ∙ exported_have_types modules root a p j.orderly i t at_t free
      ∙ (λ k. Some (record { count = count k; body = body k }))
    where
      within : (i : ℕ) → i < length own.constants.items → i < length top.signature.constants.items
      within i l =
          let e = ap length first.constants ∙ length-map own.constants.items (λ e. e.name.items) in
          let t = length-take (length own.constants.items) (map (λ e. e.name.items) top.signature.constants.items) in
          let n = length-map top.signature.constants.items (λ e. e.name.items) in
          omega (arith, e, t, n, l)
