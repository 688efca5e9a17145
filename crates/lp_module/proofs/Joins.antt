-- A module that sees the signature of another one is joined with it.
use Rattle.std.proofs.Common.{◌≡◌, ℕ, zero, suc, ◌+◌, ◌-◌, ◌<◌, List, [], ◌∷◌, ◌++◌, length, map, take, refl, sym, ap, subst, ◌∙◌, arith, Bool, true, false, true≢false, Option, Some, None, inl, inr, cond}
use Rattle.std.specs.Prelude.{◌||◌, option_map, slice_get, Contains}
use Rattle.std.specs.Str.{bytes_eq}
use Rattle.std.proofs.lemmas.List.{length-map, length-take}
use Rattle.std.proofs.lemmas.Option.{same_Some, slice_get-map, slice_get_within, slice_get_read, get_or_from_slice_get}
use Rattle.lp_lemmas.proofs.Lists.{get_below}
use Rattle.lp_calculus.specs.Types.{Ty, Tys, var, param, con, arrow, no_types, types}
use Rattle.lp_term.specs.Nodes.{type_tree}
use Rattle.lp_sig.specs.Modules.{constants_of, IsApart, HasOwnFirst}
use Rattle.lp_sig.specs.Named.{named, all_named, kind_name, kind_names, named_in, IsWhole, AreWhole, HasNamed, standard_one, declared_one, SeesAlike, IsOrdered}
use Rattle.lp_sig.specs.Rows.{Row, found, kind_row, number_row}
use Rattle.lp_sig.specs.Said.{is_among, names_in}
use Rattle.lp_sig.specs.Same.{typed_row, AreSameSignatures}
use Rattle.lp_sig.specs.Standard.{standard_kinds, standard_constants}
use Rattle.lp_sig.specs.declared.entries.ConstantEntry.{ConstantEntry}
use Rattle.lp_sig.specs.declared.entries.KindEntry.{KindEntry}
use Rattle.lp_sig.specs.declared.signature.Signature.{Signature}
use Rattle.lp_module.specs.Joined.{IsNumberedSignature, IsExportedKind, IsExportedType, AreExportedTypes, SeesExported, IsJoined}
use Rattle.lp_module.specs.Orderly.{IsOrderly}
use Rattle.lp_module.specs.Program.{place_in}
use Rattle.lp_module.specs.declared.module.Module.{Module}
use Rattle.lp_module.proofs.Joining.{IsNamedKind, of_language, of_signature, named_kind, standard_number, con_name, arrow_parts, list_parts}
use Rattle.lp_module.proofs.Lookups.{exported_below, place_none}
use Rattle.lp_module.proofs.NumberedSignatures.{Apart, unknown, names_apart}

-- names at places
pub named_at : {E : Type 0} (name : E → List ℕ) (es : List E) (i : ℕ) (e : E) → slice_get es i ≡ Some e → slice_get (map name es) i ≡ Some (name e)
named_at name es i e at = slice_get-map name es i ∙ ap (option_map name) at

taken_at : {A : Type 0} (n : ℕ) (xs : List A) (i : ℕ) (x : A) → i < n → slice_get xs i ≡ Some x → slice_get (take n xs) i ≡ Some x
taken_at zero xs i x l e = absurd (omega (arith, l))
taken_at (suc n) [] i x l e = e
taken_at (suc n) (y ∷ ys) zero x l e = e
taken_at (suc n) (y ∷ ys) (suc i) x l e = taken_at n ys i x (omega (arith, l)) e

-- the name at a place of the first names
pub first_name : {E F : Type 0} (name : E → List ℕ) (other : F → List ℕ) (es : List E) (fs : List F) (i : ℕ) (e : E) (f : F) → take (length fs)
    (map name es) ≡ map other fs → slice_get es i ≡ Some e → slice_get fs i ≡ Some f → name e ≡ other f
first_name name other es fs i e f same at there =
    same_Some (name e) (other f)
    (sym (taken_at (length fs) (map name es) i (name e) (slice_get_within fs i f there) (named_at name es i e at)) ∙ ap (λ l. slice_get l i) same ∙ named_at other fs i f there)

-- a name that is found is among the names
found_among : {A : Type 0} (n : List ℕ) (rows : List (Row A)) (a : A) → found n rows ≡ Some a → is_among n (names_in rows) ≡ true
found_among n [] a e = absurd (cc)
found_among n (r ∷ rs) a e = by (bytes_eq n r.0) (found_among n rs a) e
  where
    by : (t : Bool) → (found n rs ≡ Some a → is_among n (names_in rs) ≡ true) → cond t (Some r.1) (found n rs) ≡ Some a → (t || is_among n (names_in rs)) ≡ true
    by true h e = refl
    by false h e = h e

pub not_standard : (own : Signature) → IsApart own → (i : ℕ) (x : ConstantEntry) → slice_get own.constants.items i ≡ Some x → (n : ℕ) → found x.name.items standard_constants ≡ Some n → ⊥
not_standard own apart i x at n e =
    true≢false (sym (found_among x.name.items standard_constants n e) ∙
    unknown (names_in standard_constants) (constants_of own) (subst (Apart (names_in standard_constants)) apart.constants
    (names_apart (names_in standard_constants) (constants_of own))) i x.name.items (named_at (λ e. e.name.items) own.constants.items i x at))

-- where an element stands
pub place_of : {E : Type 0} (es : List E) (e : E) → Contains es e → (i : ℕ) × (slice_get es i ≡ Some e)
place_of es e (i, l, is) = (i, slice_get_read es (length es) i e refl l (sym is))

pub stands : {E : Type 0} (es : List E) (i : ℕ) (e : E) → slice_get es i ≡ Some e → Contains es e
stands es i e at = (i, slice_get_within es i e at, get_or_from_slice_get es i e e at)

-- the kinds of an exported type
module _ (m : Module) (own : Signature) (o : IsOrderly m) (kinds_are : o.exported_kinds ≡ length own.kinds.items) (sm : IsNumberedSignature m.signature) (first : HasOwnFirst own m.signature) where
  pub first_within : (p : ℕ) → p < length own.kinds.items → p < length m.signature.kinds.items
  first_within p l =
      let e = ap length first.kinds ∙ length-map own.kinds.items (λ e. e.name.items) in
      let t = length-take (length own.kinds.items) (map (λ e. e.name.items) m.signature.kinds.items) in
      let n = length-map m.signature.kinds.items (λ e. e.name.items) in
      omega (arith, e, t, n, l)

  kind_exported : (n : List ℕ) (k j : ℕ) → kind_name (kind_names m.signature) k ≡ Some n → kind_name (kind_names own) j ≡ Some n → IsExportedKind m k
  kind_exported n k j e f = by (named_kind m.signature n k e) (named_kind own n j f)
    where
      by : IsNamedKind m.signature n k → IsNamedKind own n j → IsExportedKind m k
      by (of_language l at) b = inl l
      by (of_signature q z y at name) (of_language l at_j) =
          let (r, found_r, is_r, small) = standard_number j n (map kind_row m.signature.kinds.items) at_j in
          let g = ap (λ p. p.0) (same_Some r (8 + q, z.arity) (sym found_r ∙ ap (λ w. found w (standard_kinds ++ map kind_row m.signature.kinds.items)) (sym name) ∙ sm.kinds q z at)) in
          absurd (omega (arith, g, is_r, small))
      by (of_signature q z y at name) (of_signature p x w at_x name_x) =
          let lp = slice_get_within own.kinds.items p x at_x in
          let (v, at_v) = get_below m.signature.kinds.items p (first_within p lp) in
          let name_v : v.name.items ≡ n = first_name (λ (e : KindEntry). e.name.items) (λ (e : KindEntry). e.name.items) m.signature.kinds.items own.kinds.items p v x first.kinds at_v at_x ∙ name_x in
          let one : (8 + q, z.arity) ≡ (8 + p, v.arity) =
          same_Some (8 + q, z.arity) (8 + p, v.arity) (sym (sm.kinds q z at) ∙ ap (λ w. found w (standard_kinds ++ map kind_row m.signature.kinds.items)) (name ∙ sym name_v) ∙ sm.kinds p v at_v) in
          let qp = ap (λ r. r.0) one in
          let lq = slice_get_within m.signature.kinds.items q z at in
          inr (
            q,
            y,
            lq,
            ap (λ h. place_in h k) o.kinds ∙ place_none (8 + o.exported_kinds) (length m.signature.kinds.items - o.exported_kinds) k (omega (arith, y, qp, lp, kinds_are)),
          )

  mutual
    type_exported : (T U : Ty) → named (kind_name (kind_names m.signature)) T ≡ named (kind_name (kind_names own)) U → IsWhole (named (kind_name (kind_names own)) U) → IsExportedType m T
    type_exported (var x) U e w = tt
    type_exported (param k) U e w = tt
    type_exported (con k ts) (var y) e w = absurd (cc)
    type_exported (con k ts) (param j) e w = absurd (cc)
    type_exported (con k ts) (con j us) e ((n, h), w) =
        let p = con_name (kind_name (kind_names m.signature) k) (kind_name (kind_names own) j) (all_named (kind_name (kind_names m.signature)) ts) (all_named (kind_name (kind_names own)) us) e in
        (kind_exported n k j (p.0 ∙ h) h, all_exported ts us p.1 w)
    type_exported (con k ts) (arrow c d) e w = absurd (cc)
    type_exported (arrow a b) (var y) e w = absurd (cc)
    type_exported (arrow a b) (param j) e w = absurd (cc)
    type_exported (arrow a b) (con j us) e w = absurd (cc)
    type_exported (arrow a b) (arrow c d) e (v, w) =
        let p = arrow_parts (named (kind_name (kind_names m.signature)) a) (named (kind_name (kind_names m.signature)) b)
        (named (kind_name (kind_names own)) c) (named (kind_name (kind_names own)) d) e in
        (type_exported a c p.0 v, type_exported b d p.1 w)

    all_exported : (ts us : Tys) → all_named (kind_name (kind_names m.signature)) ts ≡ all_named (kind_name (kind_names own)) us → AreWhole
        (all_named (kind_name (kind_names own)) us) → AreExportedTypes m ts
    all_exported no_types us e w = tt
    all_exported (types t ts) no_types e w = absurd (cc)
    all_exported (types t ts) (types u us) e (v, w) =
        let p = list_parts (named (kind_name (kind_names m.signature)) t) (named (kind_name (kind_names own)) u)
        (all_named (kind_name (kind_names m.signature)) ts) (all_named (kind_name (kind_names own)) us) e in
        (type_exported t u p.0 v, all_exported ts us p.1 w)

-- the same entries of two signatures that say the same
pub same_entry : (u own : Signature) → AreSameSignatures u own → (i : ℕ) (x : ConstantEntry) → slice_get own.constants.items i ≡ Some x →
    (y : ConstantEntry) × (slice_get u.constants.items i ≡ Some y) × (y.name.items ≡ x.name.items) × (y.type_vars ≡ x.type_vars) × (named_in u y.scheme ≡ named_in own x.scheme)
same_entry u own same i x at =
    let row : slice_get (map (typed_row u.bank) u.constants.items) i ≡ Some (typed_row own.bank x) = ap (λ l. slice_get l i) same.constants ∙
    slice_get-map (typed_row own.bank) own.constants.items i ∙ ap (option_map (typed_row own.bank)) at in
    by (slice_get u.constants.items i) refl (sym (slice_get-map (typed_row u.bank) u.constants.items i) ∙ row)
  where
    names : (es fs : List KindEntry) → map kind_row es ≡ map kind_row fs → map (λ e. e.name.items) es ≡ map (λ e. e.name.items) fs
    names [] [] e = refl
    names [] (f ∷ fs) e = absurd (cc)
    names (x ∷ xs) [] e = absurd (cc)
    names (x ∷ xs) (f ∷ fs) e =
        let row : kind_row x ≡ kind_row f = cc in
        let h = ap (λ z. z.0) row in
        let t : map kind_row xs ≡ map kind_row fs = cc in
        let rest = names xs fs t in
        λ i. h i ∷ rest i

    by : (o : Option ConstantEntry) → slice_get u.constants.items i ≡ o → option_map (typed_row u.bank) o ≡ Some (typed_row own.bank x) →
        (y : ConstantEntry) × (slice_get u.constants.items i ≡ Some y) × (y.name.items ≡ x.name.items) × (y.type_vars ≡ x.type_vars) × (named_in u y.scheme ≡ named_in own x.scheme)
    by None e f = absurd (cc)
    by (Some y) e f =
        let r = same_Some (typed_row u.bank y) (typed_row own.bank x) f in
        let ns = names u.kinds.items own.kinds.items same.kinds in
        (y, e, ap (λ r. r.0) r, ap (λ r. r.1.1) r, (λ i. named (kind_name (ns i)) (r i).1.2))

-- the entry of a module for a constant of its own signature
pub own_entry : (m : Module) (own : Signature) → IsNumberedSignature m.signature → IsApart own → (i : ℕ) (e : ConstantEntry) → slice_get
    m.signature.constants.items i ≡ Some e → (x : ConstantEntry) → slice_get own.constants.items i ≡ Some x → e.name.items ≡ x.name.items →
    HasNamed m.signature x.name.items x.type_vars (named_in own x.scheme) → (e.type_vars ≡ x.type_vars) × (named_in m.signature e.scheme ≡ named_in own x.scheme)
own_entry m own sm apart i e at x at_x name (standard_one n f t) = absurd (not_standard own apart i x at_x n f)
own_entry m own sm apart i e at x at_x name (declared_one f has name_f count named_f) =
    let (j, at_f) = place_of m.signature.constants.items f has in
    let g = same_Some (32 + j) (32 + i) (sym (sm.constants j f at_f).1 ∙ ap (λ w. found w
    (standard_constants ++ map number_row m.signature.constants.items)) (name_f ∙ sym name) ∙ (sm.constants i e at).1) in
    let z : j ≡ i = omega (arith, g) in
    let is : f ≡ e = same_Some f e (sym at_f ∙ ap (slice_get m.signature.constants.items) z ∙ at) in
    (ap (λ (e : ConstantEntry). e.type_vars) (sym is) ∙ count, ap (λ (e : ConstantEntry). named_in m.signature e.scheme) (sym is) ∙ named_f)

-- joined
pub joined_by : (above m : Module) (own u : Signature) (o : IsOrderly m) → o.exported_kinds ≡ length own.kinds.items → o.exported_constants ≡ length
    own.constants.items → IsNumberedSignature m.signature → HasOwnFirst own m.signature → IsApart own → IsOrdered own →
    SeesAlike own m.signature → AreSameSignatures u own → SeesAlike u above.signature → IsJoined above m
joined_by above m own u o kinds_are constants_are sm first apart ordered own_seen same seen i e at free =
    let l = exported_below m o i e at free in
    let (x, at_x) = get_below own.constants.items i (omega (arith, l, constants_are)) in
    let name : e.name.items ≡ x.name.items = first_name (λ (e : ConstantEntry). e.name.items) (λ (e : ConstantEntry). e.name.items)
    m.signature.constants.items own.constants.items i e x first.constants at at_x in
    let (y, at_y, name_y, count_y, named_y) = same_entry u own same i x at_x in
    made x y at_x name name_y count_y named_y (of_own x at_x name (own_seen x (stands own.constants.items i x at_x))) (of_above x y at_x name_y (seen y (stands u.constants.items i y at_y)))
  where
    whole_at : (x : ConstantEntry) → slice_get own.constants.items i ≡ Some x → IsWhole (named_in own x.scheme)
    whole_at x at_x = subst (λ x. IsWhole (named_in own x.scheme)) (get_or_from_slice_get own.constants.items i x x at_x) (ordered.whole i x (slice_get_within own.constants.items i x at_x))

    of_own : (x : ConstantEntry) → slice_get own.constants.items i ≡ Some x → e.name.items ≡ x.name.items → HasNamed m.signature x.name.items
        x.type_vars (named_in own x.scheme) → (e.type_vars ≡ x.type_vars) × (named_in m.signature e.scheme ≡ named_in own x.scheme)
    of_own x at_x name h = own_entry m own sm apart i e at x at_x name h

    of_above : (x y : ConstantEntry) → slice_get own.constants.items i ≡ Some x → y.name.items ≡ x.name.items → HasNamed above.signature y.name.items y.type_vars (named_in u y.scheme) →
        (z : ℕ × ConstantEntry) × (slice_get above.signature.constants.items z.0 ≡ Some z.1) × (z.1.name.items ≡ y.name.items) ×
        (z.1.type_vars ≡ y.type_vars) × (named_in above.signature z.1.scheme ≡ named_in u y.scheme)
    of_above x y at_x name_y (standard_one n f t) = absurd (not_standard own apart i x at_x n (ap (λ w. found w standard_constants) (sym name_y) ∙ f))
    of_above x y at_x name_y (declared_one f has name_f count named_f) =
        let (j, at_f) = place_of above.signature.constants.items f has in
        ((j, f), at_f, name_f, count, named_f)

    made : (x y : ConstantEntry) → slice_get own.constants.items i ≡ Some x → e.name.items ≡ x.name.items → y.name.items ≡ x.name.items → y.type_vars ≡ x.type_vars →
        named_in u y.scheme ≡ named_in own x.scheme → (e.type_vars ≡ x.type_vars) × (named_in m.signature e.scheme ≡ named_in own x.scheme) →
        (z : ℕ × ConstantEntry) × (slice_get above.signature.constants.items z.0 ≡ Some z.1) × (z.1.name.items ≡ y.name.items) × (z.1.type_vars ≡ y.type_vars) ×
        (named_in above.signature z.1.scheme ≡ named_in u y.scheme) → SeesExported above m e
    made x y at_x name name_y count_y named_y here (z, at_z, name_z, count_z, named_z) = record {
      whole = subst IsWhole (sym here.1) (whole_at x at_x);
      exported = type_exported m own o kinds_are sm first (type_tree m.signature.bank e.scheme.0) (type_tree own.bank x.scheme.0) here.1 (whole_at x at_x);
      place = z.0;
      seen = z.1;
      at = at_z;
      name = name_z ∙ name_y ∙ sym name;
      count = count_z ∙ count_y ∙ sym here.0;
      same = named_z ∙ named_y ∙ sym here.1;
    }
