-- The copies of objects are those of their modules, with the same numbers.
use Rattle.std.proofs.Common.{◌≡◌, ◌∙◌, ◌++◌, ◌∷◌, [], ◌+◌, ◌-◌, ◌<◌, ◌≤◌, ℕ, zero, suc, Bool, true, false, if◌then◌else◌, List, Option, None, Some, length, map, get_or, take, drop, ap, refl, sym, subst, arith}
use Rattle.std.specs.Prelude.{All, slice_get, option_map, option_and_then, nat_lt, sum_by}
use Rattle.std.specs.Str.{bytes_eq}
use Rattle.std.specs.List.{range_with_len}
use Rattle.std.proofs.lemmas.Bool.Decides.{nat_tests}
use Rattle.std.proofs.lemmas.List.{get_or-take, length-drop, length-map, length-take-le}
use Rattle.std.proofs.lemmas.List.Sums.{sum_by-cons}
use Rattle.std.proofs.lemmas.List.Elements.{All-head, All-tail}
use Rattle.lp_lemmas.proofs.Elements.{All_back, All_front}
use Rattle.lp_lemmas.proofs.Options.{one_value, option_map_some}
use Rattle.lp_places.specs.Places as places
use Rattle.lp_code.specs.declared.object.Object.{Object}
use Rattle.lp_code.specs.declared.object.ObjectKind.{ObjectKind}
use Rattle.lp_code.specs.declared.object.ObjectConstant.{ObjectConstant}
use Rattle.lp_link.specs.Edges.{Edges, edge, no_edge}
use Rattle.lp_link.specs.Ends.{hidden_kinds, hidden_constants}
use Rattle.lp_link.specs.Linked as linked
use Rattle.lp_link.specs.Linked.{Linked, one_linked, none_linked, copy_of, kind_above, constant_above, kinds_of, constants_of, numbers_of}
use Rattle.lp_link.specs.Uses as linked_uses
use Rattle.lp_sig.specs.Places as sig
use Rattle.lp_sig.specs.Rows.{found, kind_row, number_row}
use Rattle.lp_sig.specs.Standard.{standard_kinds, standard_constants}
use Rattle.lp_module.specs.Copies as module_copies
use Rattle.lp_module.specs.Numbering.{or_none}
use Rattle.lp_module.specs.Program as program
use Rattle.lp_module.specs.Program.{CopiesBelow, none_below, one_below, IsBelow, kind_at, kind_in, constant_at, constant_in}
use Rattle.lp_module.specs.declared.module.Module.{Module}
use Rattle.lp_build.specs.Copied.{AreSame, HasCopies, IsSame}
use Rattle.lp_build.specs.Compiled.{AreExported, ArePaired, HasNamesOf, IsObjectConstant, IsObjectKind}
use Rattle.lp_build.proofs.Coding.{paired_head, paired_map, paired_tail}
use Rattle.lp_build.proofs.CopyNumbers.{with_hidden, numbers_below, numbers_of_root}
use Rattle.lp_build.proofs.Compiling.{paired_weaker}

-- what objects use
same_first : (w : List ℕ) (ns : List (List ℕ)) → places.first_place w ns ≡ sig.first_place w ns
same_first w [] = refl
same_first w (n ∷ ns) = ap (λ o. if bytes_eq w n then Some 0 else option_map (λ i. suc i) o) (same_first w ns)

same_list : (o : Option ℕ) → places.place_list o ≡ module_copies.number_list o
same_list None = refl
same_list (Some i) = refl

same_places : (names us : List (List ℕ)) → places.places_in names us ≡ module_copies.numbers_of names us
same_places names [] = refl
same_places names (u ∷ us) = λ j. (ap places.place_list (same_first u names) ∙ same_list (sig.first_place u names)) j ++ same_places names us j

pub same_uses : (ms : List Module) (os : List Object) → ArePaired HasNamesOf ms (length ms) os → linked_uses.uses_of os ≡ module_copies.uses_of ms
same_uses ms os paired =
    let names = paired_map HasNamesOf (λ (m : Module). m.name.items) (λ (o : Object). o.name.items) ms os (λ m o p. p.name) paired in
    ap (λ ns. map (λ (o : Object). places.places_in ns (map (λ u. u.items) o.uses.items)) os) names
    ∙ paired_map HasNamesOf (λ (m : Module). module_copies.numbers_of (module_copies.names_of ms) (map (λ u. u.items) m.uses.items))
    (λ (o : Object). places.places_in (module_copies.names_of ms) (map (λ u. u.items) o.uses.items)) ms os
    (λ m o p. ap (places.places_in (module_copies.names_of ms)) p.uses ∙ same_places (module_copies.names_of ms) (map (λ u. u.items) m.uses.items)) paired

pub paired_at : {A B : Type 0} (P : A → B → Type 0) (xs : List A) (ys : List B) → ArePaired P xs (length xs) ys → (i : ℕ) (x : A) → slice_get xs i ≡
    Some x → (y : B) × (slice_get ys i ≡ Some y) × P x y
paired_at P [] ys h i x e = absurd (cc)
paired_at P (a ∷ xs) [] h i x e = absurd (let m = h.many in omega (arith, m))
paired_at P (a ∷ xs) (b ∷ ys) h zero x e = (b, refl, subst (λ z. P z b) (one_value (Some a) a x refl e) (paired_head P a xs (length (a ∷ xs)) b ys h))
paired_at P (a ∷ xs) (b ∷ ys) h (suc i) x e = paired_at P xs ys (paired_tail P a xs b ys h) i x e

-- names of which the first ones are exported
lt_suc : (i e : ℕ) → nat_lt (suc i) (suc e) ≡ nat_lt i e
lt_suc i e = grind (arith, nat_tests)

pub exported_rest : {A : Type 0} (flag : A → Bool) (e : ℕ) (x : A) (xs : List A) → AreExported flag (suc e) (x ∷ xs) → AreExported flag e xs
exported_rest flag e x xs h i y at = h (suc i) y (let l = at.0 in omega (arith, l), at.1) ∙ lt_suc i e

pub hidden_rest : {A : Type 0} (flag : A → Bool) (x : A) (xs : List A) → AreExported flag 0 (x ∷ xs) → AreExported flag 0 xs
hidden_rest flag x xs h i y at = h (suc i) y (let l = at.0 in omega (arith, l), at.1) ∙ grind (arith, nat_tests)

pub first_flag : {A : Type 0} (flag : A → Bool) (e : ℕ) (x : A) (xs : List A) → AreExported flag e (x ∷ xs) → flag x ≡ nat_lt 0 e
first_flag flag e x xs h = h 0 x (omega arith, refl)

flags_split : {A : Type 0} (name : A → List ℕ) (flag : A → Bool) (e : ℕ) (xs : List A) → AreExported flag e xs
    → map (λ x. (name x, flag x)) xs ≡ with_hidden (take e (map name xs)) (drop e (map name xs))
flags_split name flag zero [] h = refl
flags_split name flag (suc e) [] h = refl
flags_split name flag zero (x ∷ xs) h =
    let f : flag x ≡ false = first_flag flag 0 x xs h ∙ grind (arith, nat_tests) in
    λ i. (name x, f i) ∷ flags_split name flag zero xs (hidden_rest flag x xs h) i
flags_split name flag (suc e) (x ∷ xs) h =
    let f : flag x ≡ true = first_flag flag (suc e) x xs h ∙ grind (arith, nat_tests) in
    λ i. (name x, f i) ∷ flags_split name flag e xs (exported_rest flag e x xs h) i

hidden_count : {A : Type 0} (flag : A → Bool) (e : ℕ) (xs : List A) → AreExported flag e xs → e ≤ length xs → sum_by (λ x. if flag x then 0 else 1) xs ≡ length xs - e
hidden_count flag zero [] h l = refl
hidden_count flag (suc e) [] h l = absurd (omega (arith, l))
hidden_count flag zero (x ∷ xs) h l =
    let f : flag x ≡ false = first_flag flag 0 x xs h ∙ grind (arith, nat_tests) in
    let r = hidden_count flag zero xs (hidden_rest flag x xs h) (omega arith) in
    sum_by-cons (λ x. if flag x then 0 else 1) x xs ∙ ap (λ b. (if b then 0 else 1) + sum_by (λ x. if flag x then 0 else 1) xs) f ∙
    (let z : 1 + sum_by (λ x. if flag x then 0 else 1) xs ≡ length (x ∷ xs) - 0 = omega (arith, r) in z)
hidden_count flag (suc e) (x ∷ xs) h l =
    let f : flag x ≡ true = first_flag flag (suc e) x xs h ∙ grind (arith, nat_tests) in
    let r = hidden_count flag e xs (exported_rest flag e x xs h) (omega (arith, l)) in
    sum_by-cons (λ x. if flag x then 0 else 1) x xs ∙ ap (λ b. (if b then 0 else 1) + sum_by (λ x. if flag x then 0 else 1) xs) f ∙
    (let z : 0 + sum_by (λ x. if flag x then 0 else 1) xs ≡ length (x ∷ xs) - suc e = omega (arith, r) in z)

-- a module whose hidden names stand behind its own ones, and its object
pub record IsShaped (m : Module) (o : Object) : Type 0 where
  pub own : program.Next
  pub kinds_fit : own.kinds ≤ length m.signature.kinds.items
  pub constants_fit : own.constants ≤ length m.signature.constants.items
  pub hidden_kinds : m.hidden_kinds.items ≡ range_with_len (8 + own.kinds) (length m.signature.kinds.items - own.kinds)
  pub hidden_constants : m.hidden_constants.items ≡ range_with_len (32 + own.constants) (length m.signature.constants.items - own.constants)
  pub names : HasNamesOf m o

pub range_length : (a n : ℕ) → length (range_with_len a n) ≡ n
range_length a zero = refl
range_length a (suc n) = let r = range_length (a + 1) n in omega (arith, r)

abbrev pub kind_list : Module → List (List ℕ)
kind_list m = map (λ e. e.name.items) m.signature.kinds.items

abbrev pub constant_list : Module → List (List ℕ)
constant_list m = map (λ e. e.name.items) m.signature.constants.items

module _ (m : Module) (o : Object) (s : IsShaped m o) where
  pub exported_kinds : AreExported (λ k. k.exported) s.own.kinds o.kinds.items
  exported_kinds =
      let fits = s.kinds_fit in
      let r = ap length s.hidden_kinds ∙ range_length (8 + s.own.kinds) (length m.signature.kinds.items - s.own.kinds) in
      let e : length m.signature.kinds.items - length m.hidden_kinds.items ≡ s.own.kinds = omega (arith, r, fits) in
      subst (λ n. AreExported (λ k. k.exported) n o.kinds.items) e s.names.exported_kinds

  pub exported_constants : AreExported (λ c. c.exported) s.own.constants o.constants.items
  exported_constants =
      let fits = s.constants_fit in
      let r = ap length s.hidden_constants ∙ range_length (32 + s.own.constants) (length m.signature.constants.items - s.own.constants) in
      let e : length m.signature.constants.items - length m.hidden_constants.items ≡ s.own.constants = omega (arith, r, fits) in
      subst (λ n. AreExported (λ c. c.exported) n o.constants.items) e s.names.exported_constants

  pub kind_names_same : map (λ (k : ObjectKind). k.name.items) o.kinds.items ≡ kind_list m
  kind_names_same = paired_map IsObjectKind (λ e. e.name.items) (λ (k : ObjectKind). k.name.items) m.signature.kinds.items o.kinds.items (λ e k p. p.name) s.names.kinds

  pub constant_names_same : map (λ (c : ObjectConstant). c.name.items) o.constants.items ≡ constant_list m
  constant_names_same =
      paired_map (IsObjectConstant m.signature o.bank) (λ e. e.name.items) (λ (c : ObjectConstant). c.name.items) m.signature.constants.items o.constants.items (λ e c p. p.name) s.names.constants

  kinds_split : kinds_of o ≡ with_hidden (take s.own.kinds (kind_list m)) (drop s.own.kinds (kind_list m))
  kinds_split = flags_split (λ (k : ObjectKind). k.name.items) (λ k. k.exported) s.own.kinds o.kinds.items exported_kinds
      ∙ ap (λ ns. with_hidden (take s.own.kinds ns) (drop s.own.kinds ns)) kind_names_same

  constants_split : constants_of o ≡ with_hidden (take s.own.constants (constant_list m)) (drop s.own.constants (constant_list m))
  constants_split = flags_split (λ (c : ObjectConstant). c.name.items) (λ c. c.exported) s.own.constants o.constants.items exported_constants
      ∙ ap (λ ns. with_hidden (take s.own.constants ns) (drop s.own.constants ns)) constant_names_same

  hidden_kinds_same : hidden_kinds o.kinds.items ≡ length m.hidden_kinds.items
  hidden_kinds_same =
      let many = s.names.kinds.many in
      let fits = s.kinds_fit in
      let h = hidden_count (λ (k : ObjectKind). k.exported) s.own.kinds o.kinds.items exported_kinds (omega (arith, many, fits)) in
      let r = ap length s.hidden_kinds ∙ range_length (8 + s.own.kinds) (length m.signature.kinds.items - s.own.kinds) in
      omega (arith, h, r, many)

  hidden_constants_same : hidden_constants o.constants.items ≡ length m.hidden_constants.items
  hidden_constants_same =
      let many = s.names.constants.many in
      let fits = s.constants_fit in
      let h = hidden_count (λ (c : ObjectConstant). c.exported) s.own.constants o.constants.items exported_constants (omega (arith, many, fits)) in
      let r = ap length s.hidden_constants ∙ range_length (32 + s.own.constants) (length m.signature.constants.items - s.own.constants) in
      omega (arith, h, r, many)

abbrev pub as_ends : program.Next → linked.Ends
as_ends n = record { kinds = n.kinds; constants = n.constants }

-- the exported names of a module are names of the one above it, at which it finds them
abbrev pub IsKindSeen : (above : Module) → List ℕ → Type 0
IsKindSeen a w = (p : ℕ) × (places.first_place w (kind_list a) ≡ Some p) × (option_map (λ r. r.0) (found w (standard_kinds ++ map kind_row a.signature.kinds.items)) ≡ Some (8 + p))

abbrev pub IsConstantSeen : (above : Module) → List ℕ → Type 0
IsConstantSeen a w = (p : ℕ) × (places.first_place w (constant_list a) ≡ Some p) × (found w (standard_constants ++ map number_row a.signature.constants.items) ≡ Some (32 + p))

pub record IsSeenIn (above m : Module) : Type 0 where
  pub kinds : (i : ℕ) → i < length m.signature.kinds.items - length m.hidden_kinds.items → IsKindSeen above (kind_at m i)
  pub constants : (i : ℕ) → i < length m.signature.constants.items - length m.hidden_constants.items → IsConstantSeen above (constant_at m i)

place_within : (w : List ℕ) (ns : List (List ℕ)) (p : ℕ) → places.first_place w ns ≡ Some p → p < length ns
place_within w [] p e = absurd (cc)
place_within w (n ∷ ns) p e = by (bytes_eq w n) (place_within w ns) e
  where
    by : (b : Bool) → ((q : ℕ) → places.first_place w ns ≡ Some q → q < length ns) → (if b then Some 0 else option_map (λ i. suc i) (places.first_place w ns)) ≡ Some p → p < length (n ∷ ns)
    by true go h = let z = one_value (Some 0) 0 p refl h in omega (arith, z)
    by false go h =
        let (q, at, is) = option_map_some (places.first_place w ns) (λ i. suc i) p h in
        let l = go q at in
        omega (arith, l, is)

-- a copy below another one
module _ (a : Module) (oa : Object) (ca : program.Copy) (da : linked.Copy) (shape : IsShaped a oa) (same : IsSame oa ca da) where
  told_kind : (w : List ℕ) → IsKindSeen a w → kind_above (Some da) w ≡ Some (kind_in a ca.kinds w)
  told_kind w (p, first, number) =
      let (r, at, is) = option_map_some (found w (standard_kinds ++ map kind_row a.signature.kinds.items)) (λ r. r.0) (8 + p) number in
      let names : linked_uses.kind_names da.object.kinds.items ≡ kind_list a = ap (λ (o : Object). linked_uses.kind_names o.kinds.items) same.object ∙ kind_names_same a oa shape in
      let many = shape.names.kinds.many in
      let n = length-map a.signature.kinds.items (λ e. e.name.items) in
      let l = place_within w (kind_list a) p first in
      ap (λ ns. option_and_then (slice_get da.kinds) (places.first_place w ns)) names
      ∙ ap (option_and_then (slice_get da.kinds)) first
      ∙ same.kinds p (omega (arith, l, n, many))
      ∙ ap (λ z. Some z) (sym (ap (λ o. or_none (option_map (λ r. ca.kinds r.0) o)) at ∙ ap ca.kinds is))

  told_constant : (w : List ℕ) → IsConstantSeen a w → constant_above (Some da) w ≡ Some (constant_in a ca.constants w)
  told_constant w (p, first, number) =
      let names : linked_uses.constant_names da.object.constants.items ≡ constant_list a =
      ap (λ (o : Object). linked_uses.constant_names o.constants.items) same.object ∙ constant_names_same a oa shape in
      let many = shape.names.constants.many in
      let n = length-map a.signature.constants.items (λ e. e.name.items) in
      let l = place_within w (constant_list a) p first in
      ap (λ ns. option_and_then (slice_get da.constants) (places.first_place w ns)) names
      ∙ ap (option_and_then (slice_get da.constants)) first
      ∙ same.constants p (omega (arith, l, n, many))
      ∙ ap (λ z. Some z) (sym (ap (λ o. or_none (option_map ca.constants o)) number))

  pub same_below : (m : Module) (o : Object) (mid : program.Next) (c : program.Copy) → IsShaped m o → IsSeenIn a m → IsBelow a ca m mid c → IsSame o c (copy_of (Some da) o (as_ends mid))
  same_below m o mid c s seen below = record { object = refl; kinds = kinds; constants = constants; standard_kinds = below.kinds.standard; standard_constants = below.constants.standard }
    where
      kinds : (i : ℕ) → i < length o.kinds.items → slice_get (numbers_of (kind_above (Some da)) 8 mid.kinds (kinds_of o)) i ≡ Some (c.kinds (8 + i))
      kinds i l =
          let e = s.own.kinds in
          let fits = s.kinds_fit in
          let many = s.names.kinds.many in
          let n = length-map m.signature.kinds.items (λ e. e.name.items) in
          let r = ap length s.hidden_kinds ∙ range_length (8 + e) (length m.signature.kinds.items - e) in
          let w = length-take-le e (kind_list m) (omega (arith, n, fits)) in
          let v = length-drop e (kind_list m) in
          ap (λ names. slice_get (numbers_of (kind_above (Some da)) 8 mid.kinds names) i) (kinds_split m o s)
          ∙ numbers_below 8 e (length m.signature.kinds.items) mid.kinds m.hidden_kinds.items (λ i. kind_in a ca.kinds (kind_at m i)) c.kinds s.hidden_kinds below.kinds
          (kind_above (Some da)) (take e (kind_list m)) (drop e (kind_list m)) w (omega (arith, v, n)) fits 8
          (λ j k. ap (kind_above (Some da)) (get_or-take e (kind_list m) j [] (omega (arith, k, w))) ∙ told_kind (kind_at m j) (seen.kinds j (omega (arith, k, w, r, fits))))
          i (omega (arith, l, many))

      constants : (i : ℕ) → i < length o.constants.items → slice_get (numbers_of (constant_above (Some da)) 32 mid.constants (constants_of o)) i ≡ Some (c.constants (32 + i))
      constants i l =
          let e = s.own.constants in
          let fits = s.constants_fit in
          let many = s.names.constants.many in
          let n = length-map m.signature.constants.items (λ e. e.name.items) in
          let r = ap length s.hidden_constants ∙ range_length (32 + e) (length m.signature.constants.items - e) in
          let w = length-take-le e (constant_list m) (omega (arith, n, fits)) in
          let v = length-drop e (constant_list m) in
          ap (λ names. slice_get (numbers_of (constant_above (Some da)) 32 mid.constants names) i) (constants_split m o s)
          ∙ numbers_below 32 e (length m.signature.constants.items) mid.constants m.hidden_constants.items (λ i. constant_in a ca.constants (constant_at m i)) c.constants s.hidden_constants
          below.constants (constant_above (Some da)) (take e (constant_list m)) (drop e (constant_list m)) w (omega (arith, v, n)) fits 32
          (λ j k. ap (constant_above (Some da)) (get_or-take e (constant_list m) j [] (omega (arith, k, w)))
          ∙ told_constant (constant_at m j) (seen.constants j (omega (arith, k, w, r, fits))))
          i (omega (arith, l, many))

-- the root
pub same_root : (m : Module) (o : Object) (mid : program.Next) (c : program.Copy) → IsShaped m o → program.IsRoot m mid c → IsSame o c (copy_of None o (as_ends mid))
same_root m o mid c s root = record { object = refl; kinds = kinds; constants = constants; standard_kinds = root.kinds.standard; standard_constants = root.constants.standard }
  where
    kinds : (i : ℕ) → i < length o.kinds.items → slice_get (numbers_of (kind_above None) 8 mid.kinds (kinds_of o)) i ≡ Some (c.kinds (8 + i))
    kinds i l =
        let e = s.own.kinds in
        let fits = s.kinds_fit in
        let many = s.names.kinds.many in
        let n = length-map m.signature.kinds.items (λ e. e.name.items) in
        let v = length-drop e (kind_list m) in
        ap (λ names. slice_get (numbers_of (kind_above None) 8 mid.kinds names) i) (kinds_split m o s)
        ∙ numbers_of_root 8 e (length m.signature.kinds.items) mid.kinds m.hidden_kinds.items (λ i. 8 + program.exported_before 8 m.hidden_kinds.items i) c.kinds s.hidden_kinds root.kinds
        (kind_above None) (take e (kind_list m)) (drop e (kind_list m)) (length-take-le e (kind_list m) (omega (arith, n, fits)))
        (omega (arith, v, n)) fits (λ w. refl) (λ i. refl) i (omega (arith, l, many))

    constants : (i : ℕ) → i < length o.constants.items → slice_get (numbers_of (constant_above None) 32 mid.constants (constants_of o)) i ≡ Some (c.constants (32 + i))
    constants i l =
        let e = s.own.constants in
        let fits = s.constants_fit in
        let many = s.names.constants.many in
        let n = length-map m.signature.constants.items (λ e. e.name.items) in
        let v = length-drop e (constant_list m) in
        ap (λ names. slice_get (numbers_of (constant_above None) 32 mid.constants names) i) (constants_split m o s)
        ∙ numbers_of_root 32 e (length m.signature.constants.items) mid.constants m.hidden_constants.items (λ i. 32 + program.exported_before 32 m.hidden_constants.items i) c.constants
        s.hidden_constants root.constants (constant_above None) (take e (constant_list m)) (drop e (constant_list m)) (length-take-le e (constant_list m) (omega (arith, n, fits)))
        (omega (arith, v, n)) fits (λ w. refl) (λ i. refl) i (omega (arith, l, many))

-- all copies
same_append : (os : List Object) (cs es : List program.Copy) (ds fs : List linked.Copy) → AreSame os cs ds → AreSame os es fs → AreSame os (cs ++ es) (ds ++ fs)
same_append os [] es [] fs h k = k
same_append os [] es (d ∷ ds) fs h k = absurd h
same_append os (c ∷ cs) es [] fs h k = absurd h
same_append os (c ∷ cs) es (d ∷ ds) fs (x, h) k = (x, same_append os cs es ds fs h k)

record AreLinked (os : List Object) (above : Option linked.Copy) (entries : List ℕ) (begin end : linked.Ends) (cs : List program.Copy) : Type 0 where
  copies : List linked.Copy
  are : Linked os above entries begin copies end
  same : AreSame os cs copies

-- an exported name of the module below is one of the module above, on each edge of the tree of copies
abbrev pub IsSeenEdge : List Module → ℕ × ℕ → Type 0
IsSeenEdge ms pair = (m a : Module) → slice_get ms pair.0 ≡ Some m → slice_get ms pair.1 ≡ Some a → IsSeenIn a m

-- the edges below a copy
pub edges_below : (ms : List Module) {above : Module} {a : program.Copy} {before after : program.Next} {entries : List ℕ} {cs : List program.Copy} → CopiesBelow ms above a before entries cs after
    → (k : ℕ) → (edges : List (ℕ × ℕ)) × Edges (module_copies.uses_of ms) k entries edges
edges_below ms (none_below above a n) k = ([], no_edge k)
edges_below ms (one_below above a before middle after m c rest below others all at inner is more e) k =
    let (low, lows) = edges_below ms inner c.member in
    let (high, highs) = edges_below ms more k in
    (low ++ (c.member, k) ∷ high, edge k c.member rest low high (low ++ (c.member, k) ∷ high) lows highs refl)

module _ (ms : List Module) (os : List Object) (paired : ArePaired IsShaped ms (length ms) os) where
  uses_are : (k : ℕ) → get_or (module_copies.uses_of ms) k [] ≡ get_or (linked_uses.uses_of os) k []
  uses_are k = ap (λ u. get_or u k []) (sym (same_uses ms os (paired_weaker IsShaped HasNamesOf ms (length ms) os (λ m o s. s.names) paired)))

  behind_same : (m : Module) (o : Object) (n : program.Next) → IsShaped m o → as_ends (program.behind m n) ≡ linked.behind o (as_ends n)
  behind_same m o n s = λ i. record { kinds = n.kinds + sym (hidden_kinds_same m o s) i; constants = n.constants + sym (hidden_constants_same m o s) i }

  linked_below : {above : Module} {a : program.Copy} {before after : program.Next} {entries : List ℕ} {cs : List program.Copy} → CopiesBelow ms above a before entries cs after
      → (oa : Object) (da : linked.Copy) → IsShaped above oa → IsSame oa a da → (k : ℕ) → slice_get ms k ≡ Some above
      → (edges : List (ℕ × ℕ)) → Edges (module_copies.uses_of ms) k entries edges → All (IsSeenEdge ms) edges → AreLinked os (Some da) entries (as_ends before) (as_ends after) cs
  linked_below (none_below above a n) oa da shape same k here edges es seen = record { copies = []; are = none_linked (Some da) (as_ends n); same = tt }
  linked_below (one_below above a before middle after m c rest below others all at inner is more e) oa da shape same k here edges
      (edge k' i rest' low_edges high_edges all_edges lows highs parts) seen =
      let (o, there, shaped) = paired_at IsShaped ms os paired c.member m at in
      let d = copy_of (Some da) o (as_ends middle) in
      let every = subst (All (IsSeenEdge ms)) parts seen in
      let back = All_back (IsSeenEdge ms) low_edges ((c.member, k) ∷ high_edges) every in
      let now = All-head (IsSeenEdge ms) (c.member, k) high_edges back m above at here in
      let this = same_below above oa a da shape same m o middle c shaped now is in
      let low = linked_below inner o d shaped this c.member at low_edges lows (All_front (IsSeenEdge ms) low_edges ((c.member, k) ∷ high_edges) every) in
      let high = linked_below more oa da shape same k here high_edges highs (All-tail (IsSeenEdge ms) (c.member, k) high_edges back) in
      record {
        copies = low.copies ++ d ∷ high.copies;
        are = one_linked (Some da) c.member rest o (as_ends before) (as_ends middle) (as_ends after) low.copies high.copies (low.copies ++ d ∷ high.copies) there
            (subst (λ es. Linked os (Some d) es (as_ends before) low.copies (as_ends middle)) (uses_are c.member) low.are)
            (subst (λ n. Linked os (Some da) rest n high.copies (as_ends after)) (behind_same m o middle shaped) high.are) refl;
        same = subst (λ l. AreSame os l (low.copies ++ d ∷ high.copies)) (sym e) (same_append os below (c ∷ others) low.copies (d ∷ high.copies) low.same ((o, there, this), high.same));
      }

  -- the copies of a program, where each edge is seen
  pub linked_root : (root : ℕ) (all : List program.Copy) → program.AreCopies ms root all
      → ((edges : List (ℕ × ℕ)) → Edges (module_copies.uses_of ms) root (get_or (module_copies.uses_of ms) root []) edges → All (IsSeenEdge ms) edges)
      → HasCopies os root all
  linked_root root all are sees =
      let (o, there, shaped) = paired_at IsShaped ms os paired root are.top are.at in
      let d = copy_of None o (as_ends are.middle) in
      let this = same_root are.top o are.middle are.copy shaped are.is_root in
      let (edges, es) = edges_below ms are.copies root in
      let low = linked_below are.copies o d shaped this root are.at edges es (sees edges es) in
      let first : as_ends (program.first_of are.top) ≡ linked.first_ends o = λ i. record {
        kinds = 8 + (sym shaped.names.kinds.many i - sym (hidden_kinds_same are.top o shaped) i);
        constants = 32 + (sym shaped.names.constants.many i - sym (hidden_constants_same are.top o shaped) i);
      } in
      record {
        top = o;
        there = there;
        end = linked.behind o (as_ends are.middle);
        copies = low.copies ++ d ∷ [];
        are = one_linked None root [] o (linked.first_ends o) (as_ends are.middle) (linked.behind o (as_ends are.middle)) low.copies [] (low.copies ++ d ∷ []) there
            (subst (λ n. Linked os (Some d) (get_or (linked_uses.uses_of os) root []) n low.copies (as_ends are.middle)) first
            (subst (λ es. Linked os (Some d) es (as_ends (program.first_of are.top)) low.copies (as_ends are.middle)) (uses_are root) low.are))
            (none_linked None (linked.behind o (as_ends are.middle))) refl;
        same = subst (λ l. AreSame os l (low.copies ++ d ∷ [])) (sym are.whole)
            (same_append os are.below (are.copy ∷ []) low.copies (d ∷ []) low.same ((o, ap (slice_get os) are.of_root ∙ there, this), tt));
      }
