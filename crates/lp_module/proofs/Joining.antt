-- The table of a program has the types of all copies, where modules see what others export with the same types.
use Rattle.std.proofs.Common.{◌≡◌, ℕ, zero, suc, ◌+◌, ◌-◌, ◌<◌, ◌≤◌, List, [], ◌∷◌, ◌++◌, length, map, get_or, refl, sym, ap, subst, ◌∙◌, arith, Option, Some, None, inl, inr}
use Rattle.std.specs.Prelude.{◌⊎◌, if◌then◌else◌, option_map, slice_get, Contains}
use Rattle.std.proofs.lemmas.Bool.{cases_lt, le-ltb, lt-ltb}
use Rattle.std.proofs.lemmas.Option.{same_Some, slice_get_within, slice_get_read}
use Rattle.lp_lemmas.specs.Each.{EachOf}
use Rattle.lp_lemmas.proofs.Each.{each_append}
use Rattle.lp_lemmas.proofs.Elements.{Contains_head, Contains_tail}
use Rattle.lp_lemmas.proofs.Lists.{get_below}
use Rattle.lp_calculus.specs.Types.{Ty, Tys, var, param, con, arrow, no_types, types}
use Rattle.lp_term.specs.Mapped.{mapped_type, mapped_types}
use Rattle.lp_term.specs.Nodes.{type_tree}
use Rattle.lp_model.specs.Proofs.{Declared}
use Rattle.lp_model.specs.Readings.{declared_by}
use Rattle.lp_sig.specs.Named.{NamedTy, NamedTys, named_con, named_arrow, more_named, named, all_named, kind_name, kind_names, IsWhole, AreWhole}
use Rattle.lp_sig.specs.Rows.{Row, found, kind_row}
use Rattle.lp_sig.specs.Said.{names_in}
use Rattle.lp_sig.specs.Standard.{standard_kinds}
use Rattle.lp_sig.specs.declared.entries.ConstantEntry.{ConstantEntry}
use Rattle.lp_sig.specs.declared.entries.KindEntry.{KindEntry}
use Rattle.lp_sig.specs.declared.signature.Signature.{Signature}
use Rattle.lp_infer.specs.Texts.{entry_scheme}
use Rattle.lp_module.specs.Copies.{uses_of}
use Rattle.lp_module.specs.Joined.{IsNumberedSignature, IsExportedKind, IsExportedType, AreExportedTypes, SeesExported, IsJoined, AreJoined, DeclaresCopy}
use Rattle.lp_module.specs.Numbering.{or_none}
use Rattle.lp_module.specs.Program.{Copy, Next, place_in, hidden_or, map_of, scheme_in, kind_at, constant_at, kind_in, constant_in, IsBelow, CopiesBelow, none_below, one_below, IsProgram}
use Rattle.lp_module.specs.declared.copies.Assembled.{Assembled}
use Rattle.lp_module.specs.declared.module.Module.{Module}
use Rattle.lp_module.proofs.Lookups.{hidden_have_types, exported_have_types}

-- names of kinds of the language

low : (names : List (List ℕ)) (k : ℕ) → k < 8 → kind_name names k ≡ slice_get (names_in standard_kinds) k
low names k l = ap (λ b. if b then slice_get (names_in standard_kinds) k else slice_get names (k - 8)) (lt-ltb k 8 l)

high : (names : List (List ℕ)) (i : ℕ) → kind_name names (8 + i) ≡ slice_get names i
high names i =
    let z : (8 + i) - 8 ≡ i = omega arith in
    ap (λ b. if b then slice_get (names_in standard_kinds) (8 + i) else slice_get names ((8 + i) - 8)) (le-ltb (8 + i) 8 (omega arith)) ∙ ap (slice_get names) z

-- a name of the language is found at its number
pub standard_number : (k : ℕ) (n : List ℕ) (rows : List (Row (ℕ × ℕ))) → slice_get (names_in standard_kinds) k ≡ Some n → (r : ℕ × ℕ) ×
    (found n (standard_kinds ++ rows) ≡ Some r) × (r.0 ≡ k) × (k < 4)
standard_number zero n rows e = subst (λ n. (r : ℕ × ℕ) × (found n (standard_kinds ++ rows) ≡ Some r) × (r.0 ≡ 0) × (0 < 4)) (same_Some _ n e) ((0, 0), refl, refl, omega arith)
standard_number (suc zero) n rows e = subst (λ n. (r : ℕ × ℕ) × (found n (standard_kinds ++ rows) ≡ Some r) × (r.0 ≡ 1) × (1 < 4)) (same_Some _ n e) ((1, 0), refl, refl, omega arith)
standard_number (suc (suc zero)) n rows e = subst (λ n. (r : ℕ × ℕ) × (found n (standard_kinds ++ rows) ≡ Some r) × (r.0 ≡ 2) × (2 < 4)) (same_Some _ n e) ((2, 0), refl, refl, omega arith)
standard_number (suc (suc (suc zero))) n rows e = subst (λ n. (r : ℕ × ℕ) × (found n (standard_kinds ++ rows) ≡ Some r) × (r.0 ≡ 3) × (3 < 4)) (same_Some _ n e) ((3, 1), refl, refl, omega arith)
standard_number (suc (suc (suc (suc k)))) n rows e = absurd (cc)

-- a kind that has a name in a signature: one of the language, or one of its own
pub data IsNamedKind (s : Signature) (n : List ℕ) (k : ℕ) : Type 0 where
  of_language : k < 8 → slice_get (names_in standard_kinds) k ≡ Some n → IsNamedKind s n k
  of_signature : (i : ℕ) (e : KindEntry) → k ≡ 8 + i → slice_get s.kinds.items i ≡ Some e → e.name.items ≡ n → IsNamedKind s n k

pub named_kind : (s : Signature) (n : List ℕ) (k : ℕ) → kind_name (kind_names s) k ≡ Some n → IsNamedKind s n k
named_kind s n k e = by (cases_lt k 8)
  where
    entry_of : (es : List KindEntry) (i : ℕ) → slice_get (map (λ e. e.name.items) es) i ≡ Some n → (e : KindEntry) × (slice_get es i ≡ Some e) × (e.name.items ≡ n)
    entry_of [] i f = absurd (cc)
    entry_of (x ∷ xs) zero f = (x, refl, same_Some x.name.items n f)
    entry_of (x ∷ xs) (suc i) f = entry_of xs i f

    by : (k < 8) ⊎ (8 ≤ k) → IsNamedKind s n k
    by (inl l) = of_language l (sym (low (kind_names s) k l) ∙ e)
    by (inr l) =
        let z : k ≡ 8 + (k - 8) = omega (arith, l) in
        let (x, at, is) = entry_of s.kinds.items (k - 8) (sym (high (kind_names s) (k - 8)) ∙ ap (kind_name (kind_names s)) (sym z) ∙ e) in
        of_signature (k - 8) x z at is

pub con_name : (k j : Option (List ℕ)) (ts us : NamedTys) → named_con k ts ≡ named_con j us → (k ≡ j) × (ts ≡ us)
con_name k j ts us e = (cc, cc)

pub arrow_parts : (a b c d : NamedTy) → named_arrow a b ≡ named_arrow c d → (a ≡ c) × (b ≡ d)
arrow_parts a b c d e = (cc, cc)

pub list_parts : (t u : NamedTy) (ts us : NamedTys) → more_named t ts ≡ more_named u us → (t ≡ u) × (ts ≡ us)
list_parts t u ts us e = (cc, cc)

-- the numbers of one name in a copy and in the copy above
module _ (above m : Module) (a c : Copy) (from : Next) (sa : IsNumberedSignature above.signature) (sm : IsNumberedSignature m.signature)
    (is : IsBelow above a m from c) (ka : (k : ℕ) → k < 8 → a.kinds k ≡ k) where
  kinds_agree : (n : List ℕ) (k j : ℕ) → kind_name (kind_names above.signature) k ≡ Some n → kind_name (kind_names m.signature) j ≡ Some n → IsExportedKind m j → a.kinds k ≡ c.kinds j
  kinds_agree n k j e f (inl l) = by (named_kind above.signature n k e)
    where
      at : slice_get (names_in standard_kinds) j ≡ Some n
      at = sym (low (kind_names m.signature) j l) ∙ f

      by : IsNamedKind above.signature n k → a.kinds k ≡ c.kinds j
      by (of_language h at_k) =
          let (r, found_r, is_r, small) = standard_number j n [] at in
          let (q, found_q, is_q, little) = standard_number k n [] at_k in
          let same = ap (λ p. p.0) (same_Some r q (sym found_r ∙ found_q)) in
          ka k h ∙ sym is_q ∙ sym same ∙ is_r ∙ sym (is.kinds.standard j l)
      by (of_signature i x z at_i name) =
          let (r, found_r, is_r, small) = standard_number j n (map kind_row above.signature.kinds.items) at in
          let g = ap (λ p. p.0) (same_Some r (8 + i, x.arity) (sym found_r ∙ ap (λ w. found w (standard_kinds ++ map kind_row above.signature.kinds.items)) (sym name) ∙ sa.kinds i x at_i)) in
          absurd (omega (arith, g, is_r, small))
  kinds_agree n k j e f (inr (i, z, l, free)) = by (named_kind above.signature n k e)
    where
      own : (x : KindEntry) × (slice_get m.signature.kinds.items i ≡ Some x)
      own = get_below m.signature.kinds.items i l

      name_own : (names : List (List ℕ)) (es : List KindEntry) (x : KindEntry) (i : ℕ) → names ≡ map (λ e. e.name.items) es → slice_get es i ≡ Some x
          → (slice_get names i ≡ Some x.name.items) × (get_or names i [] ≡ x.name.items)
      name_own names es x i e at = (ap (λ l. slice_get l i) e ∙ there es i at, ap (λ l. get_or l i []) e ∙ got es i at)
        where
          there : (es : List KindEntry) (i : ℕ) → slice_get es i ≡ Some x → slice_get (map (λ e. e.name.items) es) i ≡ Some x.name.items
          there [] i at = absurd (cc)
          there (y ∷ ys) zero at = ap (λ o. option_map (λ (e : KindEntry). e.name.items) o) at
          there (y ∷ ys) (suc i) at = there ys i at

          got : (es : List KindEntry) (i : ℕ) → slice_get es i ≡ Some x → get_or (map (λ e. e.name.items) es) i [] ≡ x.name.items
          got [] i at = absurd (cc)
          got (y ∷ ys) zero at = ap (λ (e : KindEntry). e.name.items) (same_Some y x at)
          got (y ∷ ys) (suc i) at = got ys i at

      names : (slice_get (kind_names m.signature) i ≡ Some own.0.name.items) × (get_or (kind_names m.signature) i [] ≡ own.0.name.items)
      names = name_own (kind_names m.signature) m.signature.kinds.items own.0 i refl own.1

      is_n : own.0.name.items ≡ n
      is_n = same_Some own.0.name.items n (sym names.0 ∙ sym (high (kind_names m.signature) i) ∙ ap (kind_name (kind_names m.signature)) (sym z) ∙ f)

      number : c.kinds j ≡ or_none (option_map (λ r. a.kinds r.0) (found n (standard_kinds ++ map kind_row above.signature.kinds.items)))
      number =
          ap c.kinds z ∙ is.kinds.named i l ∙ ap (λ o. hidden_or from.kinds o (kind_in above a.kinds (kind_at m i))) (ap (place_in m.hidden_kinds.items) (sym z) ∙ free) ∙
          ap (λ w. kind_in above a.kinds w) (names.1 ∙ is_n)

      by : IsNamedKind above.signature n k → a.kinds k ≡ c.kinds j
      by (of_language h at_k) =
          let (r, found_r, is_r, small) = standard_number k n (map kind_row m.signature.kinds.items) at_k in
          let g = ap (λ p. p.0) (same_Some r (8 + i, own.0.arity) (sym found_r ∙ ap (λ w. found w (standard_kinds ++ map kind_row m.signature.kinds.items)) (sym is_n) ∙ sm.kinds i own.0 own.1)) in
          absurd (omega (arith, g, is_r, small))
      by (of_signature q x y at_q name) =
          ap a.kinds y ∙ sym (number ∙ ap (λ o. or_none (option_map (λ r. a.kinds r.0) o))
          (ap (λ w. found w (standard_kinds ++ map kind_row above.signature.kinds.items)) (sym name) ∙ sa.kinds q x at_q))

  mutual
    types_agree : (T U : Ty) → named (kind_name (kind_names above.signature)) T ≡ named (kind_name (kind_names m.signature)) U → IsWhole
        (named (kind_name (kind_names m.signature)) U) → IsExportedType m U → mapped_type (map_of a) T ≡ mapped_type (map_of c) U
    types_agree (var x) (var y) e w o = let z : x ≡ y = cc in ap var z
    types_agree (var x) (param k) e w o = absurd (cc)
    types_agree (var x) (con k us) e w o = absurd (cc)
    types_agree (var x) (arrow d f) e w o = absurd (cc)
    types_agree (param k) (var y) e w o = absurd (cc)
    types_agree (param k) (param j) e w o = let z : k ≡ j = cc in ap param z
    types_agree (param k) (con j us) e w o = absurd (cc)
    types_agree (param k) (arrow d f) e w o = absurd (cc)
    types_agree (con k ts) (var y) e w o = absurd (cc)
    types_agree (con k ts) (param j) e w o = absurd (cc)
    types_agree (con k ts) (con j us) e ((n, h), w) (o, os) =
        let names = con_name (kind_name (kind_names above.signature) k) (kind_name (kind_names m.signature) j)
        (all_named (kind_name (kind_names above.signature)) ts) (all_named (kind_name (kind_names m.signature)) us) e in
        let f = kinds_agree n k j (names.0 ∙ h) h o in
        let g = all_agree ts us names.1 w os in
        cc
    types_agree (con k ts) (arrow d f) e w o = absurd (cc)
    types_agree (arrow b d) (var y) e w o = absurd (cc)
    types_agree (arrow b d) (param j) e w o = absurd (cc)
    types_agree (arrow b d) (con j us) e w o = absurd (cc)
    types_agree (arrow b d) (arrow f g) e (v, w) (o, p) =
        let parts = arrow_parts (named (kind_name (kind_names above.signature)) b) (named (kind_name (kind_names above.signature)) d)
        (named (kind_name (kind_names m.signature)) f) (named (kind_name (kind_names m.signature)) g) e in
        let x = types_agree b f parts.0 v o in
        let y = types_agree d g parts.1 w p in
        cc

    all_agree : (ts us : Tys) → all_named (kind_name (kind_names above.signature)) ts ≡ all_named (kind_name (kind_names m.signature)) us → AreWhole
        (all_named (kind_name (kind_names m.signature)) us) → AreExportedTypes m us → mapped_types (map_of a) ts ≡ mapped_types (map_of c) us
    all_agree no_types no_types e w o = refl
    all_agree no_types (types u us) e w o = absurd (cc)
    all_agree (types t ts) no_types e w o = absurd (cc)
    all_agree (types t ts) (types u us) e (v, w) (o, p) =
        let parts = list_parts (named (kind_name (kind_names above.signature)) t) (named (kind_name (kind_names m.signature)) u)
        (all_named (kind_name (kind_names above.signature)) ts) (all_named (kind_name (kind_names m.signature)) us) e in
        let x = types_agree t u parts.0 v o in
        let y = all_agree ts us parts.1 w p in
        cc

-- the number of an exported constant in a copy is that of the constant in the copy above
pub joined_number : (above m : Module) (a c : Copy) (from : Next) → IsNumberedSignature above.signature → IsBelow above a m from c → (i : ℕ) (e : ConstantEntry) →
    slice_get m.signature.constants.items i ≡ Some e → place_in m.hidden_constants.items (32 + i) ≡ None → (s : SeesExported above m e) → c.constants (32 + i) ≡ a.constants (32 + s.place)
joined_number above m a c from sa is i e at p s =
    is.constants.named i (slice_get_within m.signature.constants.items i e at) ∙ ap (λ o. hidden_or from.constants o (constant_in above a.constants (constant_at m i))) p ∙
    ap (constant_in above a.constants) (got m.signature.constants.items i at ∙ sym s.name) ∙ ap (λ o. or_none (option_map a.constants o)) (sa.constants s.place s.seen s.at).1
  where
    got : (es : List ConstantEntry) (i : ℕ) → slice_get es i ≡ Some e → get_or (map (λ e. e.name.items) es) i [] ≡ e.name.items
    got [] i at = absurd (cc)
    got (y ∷ ys) zero at = ap (λ (e : ConstantEntry). e.name.items) (same_Some y e at)
    got (y ∷ ys) (suc i) at = got ys i at

-- a copy below another one, of whose constants the table has the types
abbrev IsFull : Declared → Copy → Module → Type 0
IsFull d c m = (i : ℕ) (e : ConstantEntry) → slice_get m.signature.constants.items i ≡ Some e → d (c.constants (32 + i)) ≡ Some (scheme_in c (entry_scheme m.signature.bank e))

module _ (d : Declared) (above m : Module) (a c : Copy) (from : Next) (sa : IsNumberedSignature above.signature)
    (sm : IsNumberedSignature m.signature) (is : IsBelow above a m from c) (ka : (k : ℕ) → k < 8 → a.kinds k ≡ k) (joined : IsJoined above m)
    (full : IsFull d a above)
    (hidden : (i : ℕ) (e : ConstantEntry) → slice_get m.signature.constants.items i ≡ Some e → (j : ℕ) → place_in m.hidden_constants.items (32 + i) ≡
    Some j → d (c.constants (32 + i)) ≡ Some (scheme_in c (entry_scheme m.signature.bank e))) where
  full_below : IsFull d c m
  full_below i e at = by (place_in m.hidden_constants.items (32 + i)) refl
    where
      by : (o : Option ℕ) → place_in m.hidden_constants.items (32 + i) ≡ o → d (c.constants (32 + i)) ≡ Some (scheme_in c (entry_scheme m.signature.bank e))
      by (Some j) p = hidden i e at j p
      by None p =
          let s = joined i e at p in
          let number = joined_number above m a c from sa is i e at p s in
          let same = types_agree above m a c from sa sm is ka (type_tree above.signature.bank s.seen.scheme.0) (type_tree m.signature.bank e.scheme.0) s.same s.whole s.exported in
          ap d number ∙ full s.place s.seen s.at ∙ (λ t. Some (record { count = s.count t; body = same t }))

-- all copies
each_left : {A : Type 0} (P : A → Type 0) (xs ys : List A) → EachOf P (xs ++ ys) → EachOf P xs
each_left P [] ys h = tt
each_left P (x ∷ xs) ys (h, more) = (h, each_left P xs ys more)

each_right : {A : Type 0} (P : A → Type 0) (xs ys : List A) → EachOf P (xs ++ ys) → EachOf P ys
each_right P [] ys h = h
each_right P (x ∷ xs) ys (h, more) = each_right P xs ys more

abbrev HasHidden : List Module → Declared → Copy → Type 0
HasHidden modules d c =
    (m : Module) → slice_get modules c.member ≡ Some m → (i : ℕ) (e : ConstantEntry) → slice_get m.signature.constants.items i ≡ Some e → (j : ℕ) →
    place_in m.hidden_constants.items (32 + i) ≡ Some j → d (c.constants (32 + i)) ≡ Some (scheme_in c (entry_scheme m.signature.bank e))

abbrev HasAll : List Module → Declared → Copy → Type 0
HasAll modules d c = (m : Module) → slice_get modules c.member ≡ Some m → IsFull d c m

module _ (modules : List Module) (j : AreJoined modules) (d : Declared) where
  all_full : {above : Module} {a : Copy} {before after : Next} {ks : List ℕ} {cs : List Copy} → CopiesBelow modules above a before ks cs after →
      (k : ℕ) → slice_get modules k ≡ Some above → ((u : ℕ) → Contains ks u → Contains (get_or (uses_of modules) k []) u) →
      IsFull d a above → ((k : ℕ) → k < 8 → a.kinds k ≡ k) → EachOf (HasHidden modules d) cs → EachOf (HasAll modules d) cs
  all_full (none_below above a n) k at uses full ka hidden = tt
  all_full (one_below above a before middle after m c ks below others cs at_m b is more e) k at uses full ka hidden =
      let split = subst (EachOf (HasHidden modules d)) e hidden in
      let own = each_right (HasHidden modules d) below (c ∷ others) split in
      let full_c = full_below d above m a c middle (j.numbered k above at) (j.numbered c.member m at_m) is ka
      (j.joined k c.member above m at (uses c.member (Contains_head c.member ks)) at_m) full (own.0 m at_m) in
      let lower = all_full b c.member at_m (λ u h. h) full_c is.kinds.standard (each_left (HasHidden modules d) below (c ∷ others) split) in
      let upper = all_full more k at (λ u h. uses u (Contains_tail c.member u ks h)) full ka own.1 in
      subst (EachOf (HasAll modules d)) (sym e) (each_append (HasAll modules d) below (c ∷ others) lower ((λ q at_q. subst (IsFull d c) (same_Some m q (sym at_m ∙ at_q)) full_c), upper))

-- of a program
module _ (modules : List Module) (root : ℕ) (a : Assembled) (p : IsProgram modules root a) (j : AreJoined modules) where
  abbrev d : Declared
  d = declared_by a.program.bank a.program.constants.items

  hidden : EachOf (HasHidden modules d) p.copied
  hidden = hidden_have_types modules root a p j.orderly

  split : EachOf (HasHidden modules d) (p.are.below ++ p.are.copy ∷ [])
  split = subst (EachOf (HasHidden modules d)) p.are.whole hidden

  at_root : slice_get modules p.are.copy.member ≡ Some p.are.top
  at_root = ap (slice_get modules) p.are.of_root ∙ p.are.at

  root_full : IsFull d p.are.copy p.are.top
  root_full i e at = by (place_in p.are.top.hidden_constants.items (32 + i)) refl
    where
      by : (o : Option ℕ) → place_in p.are.top.hidden_constants.items (32 + i) ≡ o → d (p.are.copy.constants (32 + i)) ≡ Some (scheme_in p.are.copy (entry_scheme p.are.top.signature.bank e))
      by None q = exported_have_types modules root a p j.orderly i e at q
      by (Some k) q = (each_right (HasHidden modules d) p.are.below (p.are.copy ∷ []) split).0 p.are.top at_root i e at k q

  copies_full : EachOf (HasAll modules d) p.copied
  copies_full =
      subst (EachOf (HasAll modules d)) (sym p.are.whole) (each_append (HasAll modules d) p.are.below (p.are.copy ∷ [])
      (all_full modules j d p.are.copies root p.are.at (λ u h. h) root_full p.are.is_root.kinds.standard (each_left (HasHidden modules d) p.are.below (p.are.copy ∷ []) split))
      ((λ q at_q. subst (IsFull d p.are.copy) (same_Some p.are.top q (sym at_root ∙ at_q)) root_full), tt))

  pub program_declares : EachOf (λ c. (m : Module) → slice_get modules c.member ≡ Some m → DeclaresCopy d c m.signature) p.copied
  program_declares = told p.copied copies_full
    where
      entries : (c : Copy) → HasAll modules d c → (m : Module) → slice_get modules c.member ≡ Some m → DeclaresCopy d c m.signature
      entries c h m at e (i, l, is) =
          let there = slice_get_read m.signature.constants.items (length m.signature.constants.items) i e refl l (sym is) in
          ap (λ k. d (c.constants k)) ((j.numbered c.member m at).constants i e there).0 ∙ h m at i e there

      told : (cs : List Copy) → EachOf (HasAll modules d) cs → EachOf (λ c. (m : Module) → slice_get modules c.member ≡ Some m → DeclaresCopy d c m.signature) cs
      told [] h = tt
      told (c ∷ cs) (h, more) = (entries c h, told cs more)
