-- Types here with the numbers of their names: they stay while more is said, and where all kinds have numbers, types are the same as their names are.
use Rattle.std.proofs.Common.{◌≡◌, ℕ, zero, suc, ◌-◌, ◌<◌, List, [], ◌∷◌, ◌++◌, length, map, Bool, true, false, Option, Some, None, refl, sym, ap, subst, ◌∙◌, arith, inl, inr}
use Rattle.std.specs.Prelude.{◌⊎◌, codes, if◌then◌else◌, nat_lt, slice_get}
use Rattle.std.proofs.lemmas.Bool.{ltb-true}
use Rattle.std.proofs.lemmas.List.Elements.{All-head, All-tail}
use Rattle.std.proofs.lemmas.Option.{same_Some}
use Rattle.lp_calculus.specs.Types.{Ty, Tys, var, param, con, arrow, no_types, types, tys}
use Rattle.lp_term.specs.Node.{TypeShape, var_node, param_node, con_node, arrow_node}
use Rattle.lp_term.specs.Nodes.{Nodes, Extends, type_tree, type_node_tree}
use Rattle.lp_term.specs.declared.node.TypeId.{TypeId}
use Rattle.lp_sig.specs.Rows.{Row}
use Rattle.lp_sig.specs.Said.{Said, a_kind, names_in}
use Rattle.lp_sig.specs.Standard.{standard_kinds}
use Rattle.lp_sig.specs.Words.{meaning_of}
use Rattle.lp_sig.specs.Types.{kind_number_of}
use Rattle.lp_sig.specs.Named.{NamedTy, NamedTys, named_var, named_param, named_con, named_arrow, no_named, more_named, named, all_named, kind_name, IsWhole, AreWhole}
use Rattle.lp_sig.specs.GoingTogether.{KindsGo, IsSameKind, IsNumbered}
use Rattle.lp_sig.specs.Differing.{number_for, number_here, numbered_by, all_numbered}
use Rattle.lp_sig.specs.inner.Telling.{IsNumberHere, of_kind, of_no_kind, HasNumberHere, EachKind, AllKinds, IsTypeHere, AreTypesHere, FitsHere}
use Rattle.lp_sig.specs.declared.entries.KindEntry.{KindEntry}
use Rattle.lp_sig.proofs.Growing.{meaning_more, kind_number_more}
use Rattle.lp_sig.proofs.Sighting.{kind_numbered}
use Rattle.lp_sig.proofs.ToldKinds.{number_stays}

-- the number of a name
pub number_is : (said : List (Row Said)) (name : List ℕ) (n : ℕ) → IsNumberHere said name n → number_here said (Some name) ≡ n
number_is said name n (of_kind c m e) = λ i. number_for (m i) (e i)
number_is said name n (of_no_kind p m e) = ap (λ m. number_for m (kind_number_of name said)) m ∙ sym e

pub has_number : (said : List (Row Said)) (name : List ℕ) (n : ℕ) → IsNumberHere said name n → HasNumberHere said (Some name)
has_number said name n h = subst (IsNumberHere said name) (sym (number_is said name n h)) h

-- more is said
module _ (said more : List (Row Said)) where
  number_same : (o : Option (List ℕ)) → HasNumberHere said o → number_here (said ++ more) o ≡ number_here said o
  number_same None h = absurd h
  number_same (Some name) h = number_is (said ++ more) name (number_here said (Some name)) (number_stays said more name (number_here said (Some name)) h)

  has_later : (o : Option (List ℕ)) → HasNumberHere said o → HasNumberHere (said ++ more) o
  has_later None h = absurd h
  has_later (Some name) h = has_number (said ++ more) name (number_here said (Some name)) (number_stays said more name (number_here said (Some name)) h)

  mutual
    numbered_later : (N : NamedTy) → EachKind (HasNumberHere said) N → numbered_by (number_here (said ++ more)) N ≡ numbered_by (number_here said) N
    numbered_later (named_var x) h = refl
    numbered_later (named_param k) h = refl
    numbered_later (named_con o ts) h = let f = number_same o h.0 in let g = all_later ts h.1 in λ i. con (f i) (g i)
    numbered_later (named_arrow a b) h = let f = numbered_later a h.0 in let g = numbered_later b h.1 in λ i. arrow (f i) (g i)

    all_later : (ts : NamedTys) → AllKinds (HasNumberHere said) ts → all_numbered (number_here (said ++ more)) ts ≡ all_numbered (number_here said) ts
    all_later no_named h = refl
    all_later (more_named t ts) h = let f = numbered_later t h.0 in let g = all_later ts h.1 in λ i. types (f i) (g i)

  mutual
    known_later : (N : NamedTy) → EachKind (HasNumberHere said) N → EachKind (HasNumberHere (said ++ more)) N
    known_later (named_var x) h = tt
    known_later (named_param k) h = tt
    known_later (named_con o ts) h = (has_later o h.0, all_known_later ts h.1)
    known_later (named_arrow a b) h = (known_later a h.0, known_later b h.1)

    all_known_later : (ts : NamedTys) → AllKinds (HasNumberHere said) ts → AllKinds (HasNumberHere (said ++ more)) ts
    all_known_later no_named h = tt
    all_known_later (more_named t ts) h = (known_later t h.0, all_known_later ts h.1)

  pub type_later : (T : Ty) (N : NamedTy) → IsTypeHere said T N → IsTypeHere (said ++ more) T N
  type_later T N h = record { tree = h.tree ∙ sym (numbered_later N h.known); known = known_later N h.known }

  pub types_later : (there b : Nodes) (names : List (List ℕ)) (made : List TypeId) → AreTypesHere there b names said made → AreTypesHere there b names (said ++ more) made
  types_later there b names made h i t at = let r = h i t at in (r.0, λ whole. type_later (type_tree b t.0) (named (kind_name names) (type_tree there i)) (r.1 whole))

  pub fits_later : (o : Option (List ℕ)) → FitsHere said o → FitsHere (said ++ more) o
  fits_later None h = absurd h
  fits_later (Some name) h = record { number = h.number; has = kind_number_more said more name h.number h.has; low = h.low; arity = h.arity; means = meaning_more said more name (a_kind h.arity) h.means }

-- kinds of the language have their numbers
pub low_here : (said : List (Row Said)) (names : List (List ℕ)) (name : List ℕ) (k : ℕ) → k < 8 → kind_name names k ≡ Some name → IsNumberHere said name k
unfolding meaning_of kind_number_of
low_here said names name zero l e = subst (λ m. IsNumberHere said m 0) (same_Some (codes "o") name e) (of_kind 0 refl refl)
low_here said names name (suc zero) l e = subst (λ m. IsNumberHere said m 1) (same_Some (codes "int") name e) (of_kind 0 refl refl)
low_here said names name (suc (suc zero)) l e = subst (λ m. IsNumberHere said m 2) (same_Some (codes "string") name e) (of_kind 0 refl refl)
low_here said names name (suc (suc (suc zero))) l e = subst (λ m. IsNumberHere said m 3) (same_Some (codes "list") name e) (of_kind 1 refl refl)
low_here said names name (suc (suc (suc (suc zero)))) l e = absurd (cc)
low_here said names name (suc (suc (suc (suc (suc zero))))) l e = absurd (cc)
low_here said names name (suc (suc (suc (suc (suc (suc zero)))))) l e = absurd (cc)
low_here said names name (suc (suc (suc (suc (suc (suc (suc zero))))))) l e = absurd (cc)
low_here said names name (suc (suc (suc (suc (suc (suc (suc (suc k)))))))) l e = absurd (omega (arith, l))

-- types that are made of parts that were made
first_is : (o p : Option TypeId) (os ps : List (Option TypeId)) → o ∷ os ≡ p ∷ ps → (o ≡ p) × (os ≡ ps)
first_is o p os ps e = (cc, cc)

module _ (there here : Nodes) (names : List (List ℕ)) (said : List (Row Said)) (made : List TypeId) (seen : AreTypesHere there here names said made) where
  parts_here : (ids parts : List TypeId) → map (λ t. slice_get made t.0) ids ≡ map (λ t. Some t) parts → AreWhole (all_named (kind_name names) (tys (map (type_tree there) (map (λ t. t.0) ids)))) →
      (tys (map (type_tree here) (map (λ t. t.0) parts)) ≡ all_numbered (number_here said) (all_named (kind_name names) (tys (map (type_tree there) (map (λ t. t.0) ids))))) ×
      AllKinds (HasNumberHere said) (all_named (kind_name names) (tys (map (type_tree there) (map (λ t. t.0) ids))))
  parts_here [] [] e w = (refl, tt)
  parts_here [] (p ∷ ps) e w = absurd (cc)
  parts_here (t ∷ ts) [] e w = absurd (cc)
  parts_here (t ∷ ts) (p ∷ ps) e w =
      let q = first_is (slice_get made t.0) (Some p) (map (λ t. slice_get made t.0) ts) (map (λ t. Some t) ps) e in
      let h = (seen t.0 p q.0).1 w.0 in
      let r = parts_here ts ps q.1 w.1 in
      let f = h.tree in
      let g = r.0 in
      ((λ i. types (f i) (g i)), (h.known, r.1))

  module _ (new : Nodes) (id : ℕ) (shape : TypeShape) (tree : type_node_tree there shape ≡ type_tree there id) (t : TypeId) where
    abbrev result : Ty → Type 0
    result T = (t.0 < length new.types) × (IsWhole (named (kind_name names) T) → IsTypeHere said (type_tree new t.0) (named (kind_name names) T))

    pub var_here : (n : ℕ) → shape ≡ var_node n → (t.0 < length new.types) × (type_tree new t.0 ≡ var n) → (t.0 < length new.types) ×
        (IsWhole (named (kind_name names) (type_tree there id)) → IsTypeHere said (type_tree new t.0) (named (kind_name names) (type_tree there id)))
    var_here n is h = subst result (sym (ap (type_node_tree there) is) ∙ tree) (h.0, λ whole. record { tree = h.1; known = tt })

    pub param_here : (n : ℕ) → shape ≡ param_node n → (t.0 < length new.types) × (type_tree new t.0 ≡ param n) → (t.0 < length new.types) ×
        (IsWhole (named (kind_name names) (type_tree there id)) → IsTypeHere said (type_tree new t.0) (named (kind_name names) (type_tree there id)))
    param_here n is h = subst result (sym (ap (type_node_tree there) is) ∙ tree) (h.0, λ whole. record { tree = h.1; known = tt })

    pub arrow_here : (f g l r : TypeId) → shape ≡ arrow_node f.0 g.0 → slice_get made f.0 ≡ Some l → slice_get made g.0 ≡ Some r → (t.0 < length new.types) × (type_tree new t.0 ≡ arrow (type_tree here l.0) (type_tree here r.0)) →
        (t.0 < length new.types) × (IsWhole (named (kind_name names) (type_tree there id)) → IsTypeHere said (type_tree new t.0) (named (kind_name names) (type_tree there id)))
    arrow_here f g l r is a b h = subst result (sym (ap (type_node_tree there) is) ∙ tree) (
      h.0,
      λ whole.
          let x = (seen f.0 l a).1 whole.0 in
          let y = (seen g.0 r b).1 whole.1 in
          let u = x.tree in
          let v = y.tree in
          record { tree = h.1 ∙ (λ i. arrow (u i) (v i)); known = (x.known, y.known) },
    )

    pub con_here : (kinds : ℕ → Option ℕ) → ((k n : ℕ) → kinds k ≡ Some n → (name : List ℕ) × (kind_name names k ≡ Some name) × IsNumberHere said name n) →
        (k n : ℕ) (ids parts : List TypeId) → shape ≡ con_node k (map (λ t. t.0) ids) → map (λ t. slice_get made t.0) ids ≡ map (λ t. Some t) parts → ((k < 8) × (n ≡ k)) ⊎ (kinds k ≡ Some n) →
        (t.0 < length new.types) × (type_tree new t.0 ≡ con n (tys (map (type_tree here) (map (λ t. t.0) parts)))) →
        (t.0 < length new.types) × (IsWhole (named (kind_name names) (type_tree there id)) → IsTypeHere said (type_tree new t.0) (named (kind_name names) (type_tree there id)))
    con_here kinds all k n ids parts is e from h = subst result (sym (ap (type_node_tree there) is) ∙ tree) (
      h.0,
      λ whole.
          let name = whole.0.0 in
          let named_so : kind_name names k ≡ Some name = whole.0.1 in
          let number = its_number name named_so from in
          let f : n ≡ number_here said (kind_name names k) = sym (number_is said name n number) ∙ ap (number_here said) (sym named_so) in
          let r = parts_here ids parts e whole.1 in
          let g = r.0 in
          record { tree = h.1 ∙ (λ i. con (f i) (g i)); known = (subst (HasNumberHere said) (sym named_so) (has_number said name n number), r.1) },
    )
      where
        its_number : (name : List ℕ) → kind_name names k ≡ Some name → ((k < 8) × (n ≡ k)) ⊎ (kinds k ≡ Some n) → IsNumberHere said name n
        its_number name e (inl (l, same)) = subst (IsNumberHere said name) (sym same) (low_here said names name k l e)
        its_number name e (inr at) = let (other, f, h) = all k n at in subst (λ m. IsNumberHere said m n) (same_Some other name (sym f ∙ e)) h

-- one more type was made
pub types_in_bank : (there here now : Nodes) (names : List (List ℕ)) (said : List (Row Said)) (made : List TypeId) → Extends here now → AreTypesHere there here names said made → AreTypesHere there now names said made
types_in_bank there here now names said made x s i t e =
    let h = s i t e in
    let l = h.0 in
    let m = x.more_types in
    (omega (arith, l, m), λ whole. subst (λ T. IsTypeHere said T (named (kind_name names) (type_tree there i))) (sym (x.same_types t.0 h.0)) (h.1 whole))

pub types_push : (there here : Nodes) (names : List (List ℕ)) (said : List (Row Said)) (made made_then : List TypeId) (i : ℕ) (t : TypeId) → made_then ≡ made ++ t ∷ [] → length made ≡ i →
    (t.0 < length here.types) × (IsWhole (named (kind_name names) (type_tree there i)) → IsTypeHere said (type_tree here t.0) (named (kind_name names) (type_tree there i))) →
    AreTypesHere there here names said made → AreTypesHere there here names said made_then
types_push there here names said made made_then i t e n h s j u at = by (last_or made j (ap (λ l. slice_get l j) (sym e) ∙ at))
  where
    last_or : (xs : List TypeId) (j : ℕ) → slice_get (xs ++ t ∷ []) j ≡ Some u → (slice_get xs j ≡ Some u) ⊎ ((j ≡ length xs) × (t ≡ u))
    last_or [] zero e = inr (refl, same_Some t u e)
    last_or [] (suc j) e = absurd (cc)
    last_or (x ∷ xs) zero e = inl e
    last_or (x ∷ xs) (suc j) e = next (last_or xs j e)
      where
        next : (slice_get xs j ≡ Some u) ⊎ ((j ≡ length xs) × (t ≡ u)) → (slice_get xs j ≡ Some u) ⊎ ((suc j ≡ suc (length xs)) × (t ≡ u))
        next (inl a) = inl a
        next (inr b) = inr (ap (λ n. suc n) b.0, b.1)

    by : (slice_get made j ≡ Some u) ⊎ ((j ≡ length made) × (t ≡ u)) → (u.0 < length here.types) × (IsWhole (named (kind_name names) (type_tree there j)) → IsTypeHere said (type_tree here u.0) (named (kind_name names) (type_tree there j)))
    by (inl a) = s j u a
    by (inr b) = subst (λ u. (u.0 < length here.types) × (IsWhole (named (kind_name names) (type_tree there j)) → IsTypeHere said (type_tree here u.0) (named (kind_name names) (type_tree there j))))
        b.1 (subst (λ k. (t.0 < length here.types) × (IsWhole (named (kind_name names) (type_tree there k)) → IsTypeHere said (type_tree here t.0) (named (kind_name names) (type_tree there k))))
        (sym (b.0 ∙ n)) h)

-- a type whose kinds all have numbers is the same as another one, where their names are
con_same : (k j : ℕ) (ts us : Tys) → con k ts ≡ con j us → (k ≡ j) × (ts ≡ us)
con_same k j ts us e = (cc, cc)

arrow_same : (a b c d : Ty) → arrow a b ≡ arrow c d → (a ≡ c) × (b ≡ d)
arrow_same a b c d e = (cc, cc)

list_same : (t u : Ty) (ts us : Tys) → types t ts ≡ types u us → (t ≡ u) × (ts ≡ us)
list_same t u ts us e = (cc, cc)

module _ (said : List (Row Said)) where
  name_same : (o p : Option (List ℕ)) → HasNumberHere said o → FitsHere said p → number_here said o ≡ number_here said p → o ≡ p
  name_same None p h f e = absurd h
  name_same (Some m) None h f e = absurd f
  name_same (Some m) (Some p) h f e = by h
    where
      there : number_here said (Some m) ≡ f.number
      there = e ∙ number_is said p f.number (of_kind f.arity f.means f.has)

      by : IsNumberHere said m (number_here said (Some m)) → Some m ≡ Some p
      by (of_kind d is has) = sym (kind_numbered m said f.number (has ∙ ap (λ n. Some n) there) (inl f.low)) ∙ kind_numbered p said f.number f.has (inl f.low)
      by (of_no_kind q is none) = let z : f.number ≡ 4294967295 = sym there ∙ none in let l = f.low in absurd (omega (arith, z, l))

  mutual
    pub same_names : (N M : NamedTy) → EachKind (HasNumberHere said) N → EachKind (FitsHere said) M → numbered_by (number_here said) N ≡ numbered_by (number_here said) M → N ≡ M
    same_names (named_var x) (named_var y) h f e = let z : x ≡ y = cc in ap (λ x. named_var x) z
    same_names (named_var x) (named_param y) h f e = absurd (cc)
    same_names (named_var x) (named_con o us) h f e = absurd (cc)
    same_names (named_var x) (named_arrow c d) h f e = absurd (cc)
    same_names (named_param x) (named_var y) h f e = absurd (cc)
    same_names (named_param x) (named_param y) h f e = let z : x ≡ y = cc in ap (λ x. named_param x) z
    same_names (named_param x) (named_con o us) h f e = absurd (cc)
    same_names (named_param x) (named_arrow c d) h f e = absurd (cc)
    same_names (named_con o ts) (named_var y) h f e = absurd (cc)
    same_names (named_con o ts) (named_param y) h f e = absurd (cc)
    same_names (named_con o ts) (named_con p us) h f e =
        let q = con_same (number_here said o) (number_here said p) (all_numbered (number_here said) ts) (all_numbered (number_here said) us) e in
        let a = name_same o p h.0 f.0 q.0 in
        let b = same_lists ts us h.1 f.1 q.1 in
        λ i. named_con (a i) (b i)
    same_names (named_con o ts) (named_arrow c d) h f e = absurd (cc)
    same_names (named_arrow a b) (named_var y) h f e = absurd (cc)
    same_names (named_arrow a b) (named_param y) h f e = absurd (cc)
    same_names (named_arrow a b) (named_con p us) h f e = absurd (cc)
    same_names (named_arrow a b) (named_arrow c d) h f e =
        let q = arrow_same (numbered_by (number_here said) a) (numbered_by (number_here said) b) (numbered_by (number_here said) c) (numbered_by (number_here said) d) e in
        let x = same_names a c h.0 f.0 q.0 in
        let y = same_names b d h.1 f.1 q.1 in
        λ i. named_arrow (x i) (y i)

    same_lists : (ts us : NamedTys) → AllKinds (HasNumberHere said) ts → AllKinds (FitsHere said) us → all_numbered (number_here said) ts ≡ all_numbered (number_here said) us → ts ≡ us
    same_lists no_named no_named h f e = refl
    same_lists no_named (more_named u us) h f e = absurd (cc)
    same_lists (more_named t ts) no_named h f e = absurd (cc)
    same_lists (more_named t ts) (more_named u us) h f e =
        let q = list_same (numbered_by (number_here said) t) (numbered_by (number_here said) u) (all_numbered (number_here said) ts) (all_numbered (number_here said) us) e in
        let x = same_names t u h.0 f.0 q.0 in
        let y = same_lists ts us h.1 f.1 q.1 in
        λ i. more_named (x i) (y i)

  -- types here are the same where their names are
  pub types_same : (T U : Ty) (N M : NamedTy) → IsTypeHere said T N → IsTypeHere said U M → N ≡ M → T ≡ U
  types_same T U N M t u e = t.tree ∙ ap (numbered_by (number_here said)) e ∙ sym u.tree

  pub names_same : (T U : Ty) (N M : NamedTy) → IsTypeHere said T N → IsTypeHere said U M → EachKind (FitsHere said) M → T ≡ U → N ≡ M
  names_same T U N M t u fits e = same_names N M t.known fits (sym t.tree ∙ e ∙ u.tree)

-- each name of a type whose kinds all have names
module _ (κ : ℕ → Option (List ℕ)) (P : Option (List ℕ) → Type 0) (each : (k : ℕ) (name : List ℕ) → κ k ≡ Some name → P (Some name)) where
  mutual
    pub whole_each : (T : Ty) → IsWhole (named κ T) → EachKind P (named κ T)
    whole_each (var x) w = tt
    whole_each (param k) w = tt
    whole_each (con k ts) w = (subst P (sym w.0.1) (each k w.0.0 w.0.1), all_each ts w.1)
    whole_each (arrow a b) w = (whole_each a w.0, whole_each b w.1)

    all_each : (ts : Tys) → AreWhole (all_named κ ts) → AllKinds P (all_named κ ts)
    all_each no_types w = tt
    all_each (types t ts) w = (whole_each t w.0, all_each ts w.1)

-- the names of kinds that go fit
module _ (said : List (Row Said)) where
  entries_fit : (es : List KindEntry) (i : ℕ) (name : List ℕ) → KindsGo said es → slice_get (map (λ e. e.name.items) es) i ≡ Some name → FitsHere said (Some name)
  entries_fit [] i name go at = absurd (cc)
  entries_fit (x ∷ xs) zero name go at =
      let h = All-head (λ e. IsSameKind said e × IsNumbered said e.name.items) x xs go in
      subst (λ n. FitsHere said (Some n)) (same_Some x.name.items name at) (record { number = h.1.0; has = h.1.1; low = h.1.2; arity = x.arity; means = h.0 })
  entries_fit (x ∷ xs) (suc i) name go at = entries_fit xs i name (All-tail (λ e. IsSameKind said e × IsNumbered said e.name.items) x xs go) at

  low_fits : (k : ℕ) (name : List ℕ) → k < 8 → IsNumberHere said name k → FitsHere said (Some name)
  low_fits k name l (of_kind c m e) = record { number = k; has = e; low = omega (arith, l); arity = c; means = m }
  low_fits k name l (of_no_kind p m e) = absurd (omega (arith, l, e))

  pub kinds_fit : (es : List KindEntry) (k : ℕ) (name : List ℕ) → KindsGo said es → kind_name (map (λ e. e.name.items) es) k ≡ Some name → FitsHere said (Some name)
  kinds_fit es k name go e = by (nat_lt k 8) refl e
    where
      by : (t : Bool) → nat_lt k 8 ≡ t → (if t then slice_get (names_in standard_kinds) k else slice_get (map (λ e. e.name.items) es) (k - 8)) ≡ Some name → FitsHere said (Some name)
      by true s f = let l = ltb-true k 8 s in low_fits k name l (low_here said (map (λ e. e.name.items) es) name k l e)
      by false s f = entries_fit es (k - 8) name go f

-- what holds of each name
mutual
  pub each_weaker : (P Q : Option (List ℕ) → Type 0) → ((o : Option (List ℕ)) → P o → Q o) → (N : NamedTy) → EachKind P N → EachKind Q N
  each_weaker P Q f (named_var x) h = tt
  each_weaker P Q f (named_param k) h = tt
  each_weaker P Q f (named_con o ts) h = (f o h.0, all_weaker P Q f ts h.1)
  each_weaker P Q f (named_arrow a b) h = (each_weaker P Q f a h.0, each_weaker P Q f b h.1)

  all_weaker : (P Q : Option (List ℕ) → Type 0) → ((o : Option (List ℕ)) → P o → Q o) → (ts : NamedTys) → AllKinds P ts → AllKinds Q ts
  all_weaker P Q f no_named h = tt
  all_weaker P Q f (more_named t ts) h = (each_weaker P Q f t h.0, all_weaker P Q f ts h.1)
