-- The objects of modules, each of which sees what those export that it accumulates, differ in no name.
use Rattle.std.proofs.Common.{◌≡◌, ◌∙◌, ℕ, zero, suc, ◌+◌, ◌-◌, ◌<◌, ◌≤◌, List, [], ◌∷◌, ◌++◌, length, map, get_or, Bool, true, false, Option, None, Some, ap, refl, sym, subst, arith, inl, inr, true≢false}
use Rattle.std.specs.Prelude.{◌⊎◌, ◌&&◌, All, Contains, if◌then◌else◌, nat_eq, nat_lt, option_and_then, option_map, slice_get}
use Rattle.std.specs.List.{range_with_len}
use Rattle.std.specs.Str.{bytes_eq}
use Rattle.std.proofs.lemmas.Bool.{cases_lt, eq-eqb, le-ltb, lt-ltb, ltb-true}
use Rattle.std.proofs.lemmas.List.Elements.{All-append, All-cons, All-nil}
use Rattle.std.proofs.lemmas.Option.{get_or_from_slice_get, same_Some, slice_get_within}
use Rattle.std.proofs.lemmas.Slice.Eq.{bytes_eq-Decides}
use Rattle.lp_lemmas.proofs.Elements.{All_back, Contains_head, Contains_tail}
use Rattle.lp_calculus.specs.Types.{Ty, Tys, var, param as type_param, con, arrow, no_types, types}
use Rattle.lp_code.specs.declared.object.Object.{Object}
use Rattle.lp_code.specs.declared.object.ObjectConstant.{ObjectConstant}
use Rattle.lp_code.specs.declared.object.ObjectKind.{ObjectKind}
use Rattle.lp_link.specs.Differences.{HasOtherType, IsOtherAbove, IsOtherConstant, IsOtherKind, IsOtherPart, IsSameAbove, arity_of, constant_of, is_number, kind_above, same_type, same_types}
use Rattle.lp_link.specs.Edges.{Edges, edge, no_edge}
use Rattle.lp_link.specs.Refusals.{AreAllSame, AreSame, IsLinkRefusal}
use Rattle.lp_link.specs.Uses as linked_uses
use Rattle.lp_link.specs.declared.fault.LinkRefusal.TheVariants as link
use Rattle.lp_link.specs.declared.fault.Part.{Part}
use Rattle.lp_link.specs.declared.fault.Part.TheVariants as part
use Rattle.lp_places.specs.Places as places
use Rattle.lp_places.proofs.Finding.{stands_there}
use Rattle.lp_sig.specs.Named.{AreWhole, HasNoParam, HaveNoParams, IsWhole, all_named, kind_name, kind_names, named, named_in}
use Rattle.lp_sig.specs.Rows.{found, kind_row, number_row}
use Rattle.lp_sig.specs.Standard.{standard_constants, standard_kinds}
use Rattle.lp_sig.specs.declared.entries.ConstantEntry.{ConstantEntry}
use Rattle.lp_sig.specs.declared.entries.KindEntry.{KindEntry}
use Rattle.lp_sig.specs.declared.signature.Signature.{Signature}
use Rattle.lp_term.specs.Nodes.{type_tree}
use Rattle.lp_module.specs.Copies as module_copies
use Rattle.lp_module.specs.Joined.{AreExportedTypes, IsExportedKind, IsExportedType, IsJoined, IsNumberedSignature, SeesExported}
use Rattle.lp_module.specs.Program.{place_in}
use Rattle.lp_module.specs.declared.module.Module.{Module}
use Rattle.lp_module.proofs.Joining.{IsNamedKind, arrow_parts, con_name, list_parts, named_kind, of_language, of_signature, standard_number}
use Rattle.lp_module.proofs.Lookups.{place_at, place_none}
use Rattle.lp_build.specs.Compiled.{ArePaired, HasNamesOf, IsObjectConstant, IsObjectKind}
use Rattle.lp_build.proofs.Compiling.{paired_weaker}
use Rattle.lp_build.proofs.SameCopies.{IsShaped, constant_names_same, exported_constants, exported_kinds, kind_names_same, paired_at, range_length, same_uses}
use Rattle.lp_build.proofs.SameNames.{paired_back}
use Rattle.lp_build.proofs.Joined.{get_at}

-- a module below another one, which sees its kinds and constants
pub record IsUnder (above m : Module) : Type 0 where
  pub joined : IsJoined above m
  pub numbered : IsNumberedSignature m.signature
  pub above_numbered : IsNumberedSignature above.signature
  pub kinds : (i : ℕ) (e : KindEntry) → slice_get m.signature.kinds.items i ≡ Some e → place_in m.hidden_kinds.items (8 + i) ≡ None →
      (p : ℕ) × (x : KindEntry) × (slice_get above.signature.kinds.items p ≡ Some x) × (x.name.items ≡ e.name.items) × (x.arity ≡ e.arity)
  pub free : (i : ℕ) (e : ConstantEntry) → slice_get m.signature.constants.items i ≡ Some e → place_in m.hidden_constants.items (32 + i) ≡ None → HasNoParam (type_tree m.signature.bank e.scheme.0)

-- where a name stands that stands there alone
first_exists : (w : List ℕ) (ns : List (List ℕ)) (p : ℕ) → slice_get ns p ≡ Some w → (q : ℕ) × (places.first_place w ns ≡ Some q)
first_exists w [] p e = absurd (cc)
first_exists w (n ∷ ns) p e = by (bytes_eq w n) refl (first_exists w ns) p e
  where
    by : (t : Bool) → bytes_eq w n ≡ t → ((p : ℕ) → slice_get ns p ≡ Some w → (q : ℕ) × (places.first_place w ns ≡ Some q)) → (p : ℕ) → slice_get (n ∷ ns) p ≡ Some w → (q : ℕ) × (places.first_place w (n ∷ ns) ≡ Some q)
    by true s go p e = (0, ap (λ t. if t then Some 0 else option_map (λ i. suc i) (places.first_place w ns)) s)
    by false s go zero e = absurd (true≢false (sym ((bytes_eq-Decides w n).1 (sym (same_Some n w e))) ∙ s))
    by false s go (suc p) e = let (q, f) = go p e in (suc q, ap (λ t. if t then Some 0 else option_map (λ i. suc i) (places.first_place w ns)) s ∙ ap (option_map (λ i. suc i)) f)

first_at : (w : List ℕ) (ns : List (List ℕ)) (p : ℕ) → slice_get ns p ≡ Some w → ((q : ℕ) → slice_get ns q ≡ Some w → q ≡ p) → places.first_place w ns ≡ Some p
first_at w ns p e one = let (q, f) = first_exists w ns p e in f ∙ ap (λ i. Some i) (one q (stands_there w ns q f))

named_at : {E : Type 0} (name : E → List ℕ) (es : List E) (p : ℕ) (x : E) → slice_get es p ≡ Some x → slice_get (map name es) p ≡ Some (name x)
named_at name [] p x e = absurd (cc)
named_at name (y ∷ es) zero x e = ap (option_map name) e
named_at name (y ∷ es) (suc p) x e = named_at name es p x e

entry_at : {E : Type 0} (name : E → List ℕ) (es : List E) (p : ℕ) (w : List ℕ) → slice_get (map name es) p ≡ Some w → (x : E) × (slice_get es p ≡ Some x) × (name x ≡ w)
entry_at name [] p w e = absurd (cc)
entry_at name (y ∷ es) zero w e = (y, refl, same_Some (name y) w e)
entry_at name (y ∷ es) (suc p) w e = entry_at name es p w e

kind_place : (s : Signature) → IsNumberedSignature s → (p : ℕ) (x : KindEntry) → slice_get s.kinds.items p ≡ Some x → places.first_place x.name.items (map (λ (e : KindEntry). e.name.items) s.kinds.items) ≡ Some p
kind_place s numbers p x at = first_at x.name.items (map (λ (e : KindEntry). e.name.items) s.kinds.items) p (named_at (λ (e : KindEntry). e.name.items) s.kinds.items p x at) one
  where
    one : (q : ℕ) → slice_get (map (λ (e : KindEntry). e.name.items) s.kinds.items) q ≡ Some x.name.items → q ≡ p
    one q e =
        let (y, there, name) = entry_at (λ (e : KindEntry). e.name.items) s.kinds.items q x.name.items e in
        let same : (8 + q, y.arity) ≡ (8 + p, x.arity) =
        same_Some (8 + q, y.arity) (8 + p, x.arity) (sym (numbers.kinds q y there) ∙ ap (λ w. found w (standard_kinds ++ map kind_row s.kinds.items)) name ∙ numbers.kinds p x at) in
        let n = ap (λ (r : ℕ × ℕ). r.0) same in
        omega (arith, n)

constant_place : (s : Signature) → IsNumberedSignature s → (p : ℕ) (x : ConstantEntry) → slice_get s.constants.items p ≡ Some x → places.first_place x.name.items (map (λ (e : ConstantEntry). e.name.items) s.constants.items) ≡ Some p
constant_place s numbers p x at = first_at x.name.items (map (λ (e : ConstantEntry). e.name.items) s.constants.items) p (named_at (λ (e : ConstantEntry). e.name.items) s.constants.items p x at) one
  where
    one : (q : ℕ) → slice_get (map (λ (e : ConstantEntry). e.name.items) s.constants.items) q ≡ Some x.name.items → q ≡ p
    one q e =
        let (y, there, name) = entry_at (λ (e : ConstantEntry). e.name.items) s.constants.items q x.name.items e in
        let same = same_Some (32 + q) (32 + p)
        (sym (numbers.constants q y there).1 ∙ ap (λ w. found w (standard_constants ++ map number_row s.constants.items)) name ∙ (numbers.constants p x at).1) in
        omega (arith, same)

-- hidden numbers are those behind the own ones
pub shown : (first own count i : ℕ) (hidden : List ℕ) → hidden ≡ range_with_len (first + own) (count - own) → i < count → place_in hidden (first + i) ≡ None → i < own
shown first own count i hidden is l none = by (cases_lt i own)
  where
    by : (i < own) ⊎ (own ≤ i) → i < own
    by (inl below) = below
    by (inr above) =
        let at = place_at (first + own) (count - own) (i - own) (first + i) (omega (arith, l, above)) (omega (arith, above)) in
        let z : Some (i - own) ≡ None = sym at ∙ ap (λ h. place_in h (first + i)) (sym is) ∙ none in
        absurd (cc)

not_hidden : (first own count i : ℕ) (hidden : List ℕ) → hidden ≡ range_with_len (first + own) (count - own) → i < own → place_in hidden (first + i) ≡ None
not_hidden first own count i hidden is l = ap (λ h. place_in h (first + i)) is ∙ place_none (first + own) (count - own) (first + i) (omega (arith, l))

both_true : (a b : Bool) → a ≡ true → b ≡ true → (a && b) ≡ true
both_true a b e f = (λ i. e i && f i)

module _ (m above : Module) (o oa : Object) (s : IsShaped m o) (t : IsShaped above oa) (u : IsUnder above m) where
  abbrev K : ℕ → Option ℕ
  K = kind_above o.kinds.items oa.kinds.items

  -- the number above of a kind of the module's signature
  number_above : (i : ℕ) (e : KindEntry) → slice_get m.signature.kinds.items i ≡ Some e → place_in m.hidden_kinds.items (8 + i) ≡ None → (j : ℕ) (f : KindEntry) → slice_get above.signature.kinds.items j ≡ Some f
      → f.name.items ≡ e.name.items → (k : ℕ) → k ≡ 8 + i → K k ≡ Some (8 + j)
  number_above i e at none j f there name k is =
      let (kind, here, pair) = paired_at IsObjectKind m.signature.kinds.items o.kinds.items s.names.kinds i e at in
      let l = slice_get_within m.signature.kinds.items i e at in
      let below = shown 8 s.own.kinds (length m.signature.kinds.items) i m.hidden_kinds.items s.hidden_kinds l none in
      let exported : kind.exported ≡ true =
      exported_kinds m o s i kind (slice_get_within o.kinds.items i kind here, get_or_from_slice_get o.kinds.items i kind kind here) ∙ lt-ltb i s.own.kinds below in
      let place : places.first_place kind.name.items (linked_uses.kind_names oa.kinds.items) ≡ Some j =
      (λ x. places.first_place ((pair.name ∙ sym name) x) (kind_names_same above oa t x)) ∙ kind_place above.signature u.above_numbered j f there in
      let z : k - 8 ≡ i = omega (arith, is) in
      ap (λ b. if b then Some k else option_and_then (λ (kind : ObjectKind). if kind.exported then option_map (λ i. 8 + i) (places.first_place kind.name.items (linked_uses.kind_names oa.kinds.items)) else None)
      (slice_get o.kinds.items (k - 8))) (le-ltb k 8 (omega (arith, is)))
      ∙ ap (option_and_then (λ (kind : ObjectKind). if kind.exported then option_map (λ i. 8 + i) (places.first_place kind.name.items (linked_uses.kind_names oa.kinds.items)) else None)) (ap (slice_get o.kinds.items) z ∙ here)
      ∙ (λ x. if exported x then option_map (λ i. 8 + i) (place x) else None)

  kind_same : (k l : ℕ) (w : List ℕ) → kind_name (kind_names m.signature) k ≡ Some w → kind_name (kind_names above.signature) l ≡ Some w → IsExportedKind m k → K k ≡ Some l
  kind_same k l w e f exported = by (named_kind m.signature w k e) (named_kind above.signature w l f)
    where
      hidden_no : (i : ℕ) → k ≡ 8 + i → IsExportedKind m k → place_in m.hidden_kinds.items (8 + i) ≡ None
      hidden_no i is (inl low) = absurd (omega (arith, low, is))
      hidden_no i is (inr (j, at, within, none)) = ap (place_in m.hidden_kinds.items) (sym is) ∙ none

      by : IsNamedKind m.signature w k → IsNamedKind above.signature w l → K k ≡ Some l
      by (of_language low at) (of_language low' at') =
          let (r, g, is, four) = standard_number k w [] at in
          let (r', g', is', four') = standard_number l w [] at' in
          let one = ap (λ (p : ℕ × ℕ). p.0) (same_Some r r' (sym g ∙ g')) in
          let z : k ≡ l = omega (arith, one, is, is') in
          ap (λ b. if b then Some k else option_and_then (λ (kind : ObjectKind). if kind.exported then option_map (λ i. 8 + i) (places.first_place kind.name.items (linked_uses.kind_names oa.kinds.items)) else None)
          (slice_get o.kinds.items (k - 8))) (lt-ltb k 8 low) ∙ ap (λ i. Some i) z
      by (of_language low at) (of_signature j x is' there name) =
          let (r, g, is, four) = standard_number k w (map kind_row above.signature.kinds.items) at in
          let one = ap (λ (p : ℕ × ℕ). p.0) (same_Some r (8 + j, x.arity) (sym g ∙ ap (λ w. found w (standard_kinds ++ map kind_row above.signature.kinds.items)) (sym name) ∙ u.above_numbered.kinds j x there)) in
          absurd (omega (arith, one, is, four))
      by (of_signature i y is at name) (of_language low at') =
          let (r, g, is', four) = standard_number l w (map kind_row m.signature.kinds.items) at' in
          let one = ap (λ (p : ℕ × ℕ). p.0) (same_Some r (8 + i, y.arity) (sym g ∙ ap (λ w. found w (standard_kinds ++ map kind_row m.signature.kinds.items)) (sym name) ∙ u.numbered.kinds i y at)) in
          absurd (omega (arith, one, is', four))
      by (of_signature i y is at name) (of_signature j x is' there name') =
          number_above i y at (hidden_no i is exported) j x there (name' ∙ sym name) k is ∙ ap (λ i. Some i) (sym is')

  mutual
    type_is : (T U : Ty) → HasNoParam T → IsExportedType m T → IsWhole (named (kind_name (kind_names m.signature)) T)
        → named (kind_name (kind_names above.signature)) U ≡ named (kind_name (kind_names m.signature)) T → same_type K T U ≡ true
    type_is (var x) (var y) free exported whole e = let z : x ≡ y = cc in eq-eqb x y z
    type_is (var x) (type_param j) free exported whole e = absurd (cc)
    type_is (var x) (con l us) free exported whole e = absurd (cc)
    type_is (var x) (arrow c d) free exported whole e = absurd (cc)
    type_is (type_param k) U free exported whole e = absurd free
    type_is (con k ts) (var y) free exported whole e = absurd (cc)
    type_is (con k ts) (type_param j) free exported whole e = absurd (cc)
    type_is (con k ts) (con l us) free exported ((w, is), whole) e =
        let p = con_name (kind_name (kind_names above.signature) l) (kind_name (kind_names m.signature) k) (all_named (kind_name (kind_names above.signature)) us) (all_named (kind_name (kind_names m.signature)) ts) e in
        let number : is_number (K k) l ≡ true = ap (λ n. is_number n l) (kind_same k l w is (p.0 ∙ is) exported.0) ∙ eq-eqb l l refl in
        both_true (is_number (K k) l) (same_types K ts us) number (types_are ts us free exported.1 whole p.1)
    type_is (con k ts) (arrow c d) free exported whole e = absurd (cc)
    type_is (arrow a b) (var y) free exported whole e = absurd (cc)
    type_is (arrow a b) (type_param j) free exported whole e = absurd (cc)
    type_is (arrow a b) (con l us) free exported whole e = absurd (cc)
    type_is (arrow a b) (arrow c d) (f, g) (x, y) (v, w) e =
        let p = arrow_parts (named (kind_name (kind_names above.signature)) c) (named (kind_name (kind_names above.signature)) d)
        (named (kind_name (kind_names m.signature)) a) (named (kind_name (kind_names m.signature)) b) e in
        both_true (same_type K a c) (same_type K b d) (type_is a c f x v p.0) (type_is b d g y w p.1)

    types_are : (ts us : Tys) → HaveNoParams ts → AreExportedTypes m ts → AreWhole (all_named (kind_name (kind_names m.signature)) ts)
        → all_named (kind_name (kind_names above.signature)) us ≡ all_named (kind_name (kind_names m.signature)) ts → same_types K ts us ≡ true
    types_are no_types no_types free exported whole e = refl
    types_are no_types (types u us) free exported whole e = absurd (cc)
    types_are (types t ts) no_types free exported whole e = absurd (cc)
    types_are (types t ts) (types u us) (f, g) (x, y) (v, w) e =
        let p = list_parts (named (kind_name (kind_names above.signature)) u) (named (kind_name (kind_names m.signature)) t)
        (all_named (kind_name (kind_names above.signature)) us) (all_named (kind_name (kind_names m.signature)) ts) e in
        both_true (same_type K t u) (same_types K ts us) (type_is t u f x v p.0) (types_are ts us g y w p.1)

  no_kind : (i : ℕ) → IsOtherKind o oa i → ⊥
  no_kind i d =
      let (e, at, pair) = paired_back IsObjectKind m.signature.kinds.items o.kinds.items s.names.kinds i d.kind d.there in
      let below = ltb-true i s.own.kinds (sym (exported_kinds m o s i d.kind (slice_get_within o.kinds.items i d.kind d.there, get_or_from_slice_get o.kinds.items i d.kind d.kind d.there)) ∙ d.exported) in
      let (p, x, there, name, arity) = u.kinds i e at (not_hidden 8 s.own.kinds (length m.signature.kinds.items) i m.hidden_kinds.items s.hidden_kinds below) in
      let (kind, here, same) = paired_at IsObjectKind above.signature.kinds.items oa.kinds.items t.names.kinds p x there in
      let place : places.first_place d.kind.name.items (linked_uses.kind_names oa.kinds.items) ≡ Some p =
      (λ j. places.first_place ((pair.name ∙ sym name) j) (kind_names_same above oa t j)) ∙ kind_place above.signature u.above_numbered p x there in
      d.other (ap (option_and_then (λ i. option_map (λ (k : ObjectKind). k.arity) (slice_get oa.kinds.items i))) place ∙ ap (option_map (λ (k : ObjectKind). k.arity)) here
      ∙ ap (λ n. Some n) (same.arity ∙ arity ∙ sym pair.arity))

  no_constant : (i : ℕ) → IsOtherConstant o oa i → ⊥
  no_constant i d =
      let (e, at, pair) = paired_back (IsObjectConstant m.signature o.bank) m.signature.constants.items o.constants.items s.names.constants i d.constant d.there in
      let below = ltb-true i s.own.constants (sym (exported_constants m o s i d.constant (slice_get_within o.constants.items i d.constant d.there, get_or_from_slice_get o.constants.items i d.constant d.constant d.there)) ∙ d.exported) in
      let none = not_hidden 32 s.own.constants (length m.signature.constants.items) i m.hidden_constants.items s.hidden_constants below in
      let j = u.joined i e at none in
      let (c, here, same) = paired_at (IsObjectConstant above.signature oa.bank) above.signature.constants.items oa.constants.items t.names.constants j.place j.seen j.at in
      let place : places.first_place d.constant.name.items (linked_uses.constant_names oa.constants.items) ≡ Some j.place =
      (λ k. places.first_place ((pair.name ∙ sym j.name) k) (constant_names_same above oa t k)) ∙ constant_place above.signature u.above_numbered j.place j.seen j.at in
      let found_one : constant_of oa.constants.items d.constant.name.items ≡ Some c = ap (option_and_then (λ i. slice_get oa.constants.items i)) place ∙ here in
      let type : same_type K (type_tree o.bank d.constant.scheme.0) (type_tree oa.bank c.scheme.0) ≡ true =
      (λ k. same_type K (pair.scheme k) (same.scheme k)) ∙ type_is (type_tree m.signature.bank e.scheme.0) (type_tree above.signature.bank j.seen.scheme.0) (u.free i e at none) j.exported j.whole j.same in
      by d.constant c (subst (IsOtherAbove o oa d.constant) found_one d.other) (same.variables ∙ j.count ∙ sym pair.variables) type
    where
      by : (c d : ObjectConstant) → HasOtherType o oa c d → d.type_vars ≡ c.type_vars → same_type K (type_tree o.bank c.scheme.0) (type_tree oa.bank d.scheme.0) ≡ true → ⊥
      by c d (inl other) count type = other count
      by c d (inr other) count type = true≢false (sym type ∙ other)

  pub nothing_differs : IsSameAbove o oa
  nothing_differs = record { kinds = no_kind; constants = no_constant }

-- on each edge
edges_used : (uses : List (List ℕ)) {above : ℕ} {entries : List ℕ} {edges : List (ℕ × ℕ)} → Edges uses above entries edges → ((k : ℕ) → Contains entries k → Contains (get_or uses above []) k)
    → All (λ e. Contains (get_or uses e.1 []) e.0) edges
edges_used uses (no_edge above) h = All-nil (λ (e : ℕ × ℕ). Contains (get_or uses e.1 []) e.0)
edges_used uses (edge above m rest inner others all low more e) h =
    let P : ℕ × ℕ → Type 0 = λ (e : ℕ × ℕ). Contains (get_or uses e.1 []) e.0 in
    subst (All P) (sym e)
    (All-append P inner ((m, above) ∷ others) (edges_used uses low (λ k c. c))
    (All-cons P (m, above) others (h m (Contains_head m rest)) (edges_used uses more (λ k c. h k (Contains_tail m k rest c)))))

module _ (ms : List Module) (os : List Object) (paired : ArePaired IsShaped ms (length ms) os)
    (under : (k j : ℕ) (above m : Module) → slice_get ms k ≡ Some above → Contains (get_or (module_copies.uses_of ms) k []) j → slice_get ms j ≡ Some m → IsUnder above m) where
  pub all_same : (root : ℕ) → AreAllSame os root
  all_same root edges are k d l =
      let uses : linked_uses.uses_of os ≡ module_copies.uses_of ms = same_uses ms os (paired_weaker IsShaped HasNamesOf ms (length ms) os (λ m o s. s.names) paired) in
      let used = edges_used (module_copies.uses_of ms) (subst (λ u. Edges u root (get_or u root []) edges) uses are) (λ k c. c) in
      each (get_or edges k d) (used k d l)
    where
      each : (e : ℕ × ℕ) → Contains (get_or (module_copies.uses_of ms) e.1 []) e.0 → AreSame os e
      each e has one other at there =
          let (m, below, s) = paired_back IsShaped ms os paired e.0 one at in
          let (above, over, t) = paired_back IsShaped ms os paired e.1 other there in
          nothing_differs m above one other s t (under e.1 e.0 above m over has below)

  -- so linking is never refused for a name
  pub never_differ : (root number : ℕ) (p : Part) → IsLinkRefusal os root (link.Differ number p) → ⊥
  never_differ root number p (few, d) = by p d.part_is
    where
      same : IsSameAbove d.one d.other
      same =
          let all = subst (All (AreSame os)) d.place (all_same root d.edges d.are) in
          All_back (AreSame os) d.before ((d.below, d.above) ∷ d.after) all 0 (d.below, d.above) (omega arith) d.one d.other d.one_there d.other_there

      by : (p : Part) → IsOtherPart d.one d.other p → ⊥
      by (part.Kind n) (i, (is, (other, first))) = same.kinds i other
      by (part.Constant n) (i, (is, (kinds, (other, first)))) = same.constants i other
