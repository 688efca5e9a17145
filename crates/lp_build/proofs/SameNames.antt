-- The names of an image of modules are those of the program of these modules, and so are the types of its constants.
use Rattle.std.proofs.Common.{◌≡◌, ◌∙◌, ◌++◌, ◌∷◌, [], ◌+◌, ◌-◌, ◌≤◌, ℕ, zero, suc, Bool, true, false, List, Some, length, map, take, drop, ap, refl, sym, subst, arith}
use Rattle.std.specs.Prelude.{slice_get}
use Rattle.std.specs.List.{range_with_len}
use Rattle.std.proofs.lemmas.List.{map-append, take-map, drop-map}
use Rattle.lp_lemmas.proofs.Options.{one_value}
use Rattle.lp_calculus.specs.Types.{Ty, Tys, var, param as type_param, con, arrow, no_types, types}
use Rattle.lp_calculus.specs.Typing.{Scheme}
use Rattle.lp_term.specs.Mapped.{mapped_type, mapped_types}
use Rattle.lp_term.specs.Nodes.{type_tree}
use Rattle.lp_code.specs.Naming.{scheme_in}
use Rattle.lp_code.specs.declared.image.Image.{Image}
use Rattle.lp_code.specs.declared.object.Object.{Object}
use Rattle.lp_code.specs.declared.object.ObjectConstant.{ObjectConstant}
use Rattle.lp_code.specs.declared.object.ObjectKind.{ObjectKind}
use Rattle.lp_link.specs.Linked as linked
use Rattle.lp_link.specs.Linked.{constants_of}
use Rattle.lp_link.specs.Names as named
use Rattle.lp_link.specs.Names.{HasNames, as_global, exported_kind_rows, exported_of, hidden_constant_rows, hidden_kind_rows, hidden_of, hidden_types, numbered}
use Rattle.lp_link.specs.Renumbering.{moved_scheme}
use Rattle.lp_sig.specs.declared.entries.ConstantEntry.{ConstantEntry}
use Rattle.lp_sig.specs.declared.entries.KindEntry.{KindEntry}
use Rattle.lp_infer.specs.Texts.{entry_scheme}
use Rattle.lp_module.specs.Program as program
use Rattle.lp_module.specs.Program.{IsProgram, exported_among, hidden_among, of_copies, of_module}
use Rattle.lp_module.specs.declared.copies.Assembled.{Assembled}
use Rattle.lp_module.specs.declared.module.Module.{Module}
use Rattle.lp_module.proofs.Lookups.{exported_first}
use Rattle.lp_build.specs.Compiled.{AreExported, ArePaired, IsObjectConstant, IsObjectKind}
use Rattle.lp_build.specs.Copied.{AreSame, IsSame}
use Rattle.lp_build.specs.Ready.{AreTypesOver, IsTypeOver}
use Rattle.lp_build.specs.SameNames.{HasOwnTypes, HasSameNames, HasSameTypes, HaveOwnTypes, full_row, short_row}
use Rattle.lp_build.proofs.Coding.{paired_head, paired_map, paired_tail}
use Rattle.lp_build.proofs.CopyNumbering.{kinds_same}
use Rattle.lp_build.proofs.NumberedRows.{exported_front, hidden_back, hidden_last, numbered_rows, with_mark}
use Rattle.lp_build.proofs.SameCopies.{IsShaped, exported_constants, exported_kinds}

-- lists that are mapped twice
twice : {A B C : Type 0} (f : A → B) (g : B → C) (xs : List A) → map g (map f xs) ≡ map (λ x. g (f x)) xs
twice f g [] = refl
twice f g (x ∷ xs) = ap (λ l. g (f x) ∷ l) (twice f g xs)

-- the entries of a module's table and those of its object's, of which the first ones are exported
module _ {E K A : Type 0} (P : E → K → Type 0) (of_entry : E → A) (name : K → List ℕ) (flag : K → Bool) (value : K → A) (first own : ℕ) (hidden : List ℕ) (es : List E) (ks : List K)
    (paired : ArePaired P es (length es) ks) (same : (e : E) (k : K) → P e k → value k ≡ of_entry e) (range : hidden ≡ range_with_len (first + own) (length es - own)) (fits : own ≤ length es)
    (exported : AreExported flag own ks) where
  values : map value ks ≡ map of_entry es
  values = paired_map P of_entry value es ks same paired

  front_same : map of_entry (exported_among first hidden es) ≡ exported_of (map (λ k. (name k, flag k)) ks) (map value ks)
  front_same =
      ap (λ h. map of_entry (exported_among first h es)) range
      ∙ ap (map of_entry) (exported_first (first + own) (length es - own) first own es refl (omega (arith, fits)))
      ∙ sym (exported_front name flag value own ks exported ∙ ap (take own) values ∙ take-map of_entry own es)

  back_same : map of_entry (hidden_among first hidden es) ≡ hidden_of (map (λ k. (name k, flag k)) ks) (map value ks)
  back_same =
      ap (λ h. map of_entry (hidden_among first h es)) range ∙ ap (map of_entry) (hidden_last (first + own) (length es - own) first own es refl refl)
      ∙ sym (hidden_back name flag value own ks exported ∙ ap (drop own) values ∙ drop-map of_entry own es)

-- constants with the counts of their type variables
abbrev counted_rows : Object → List (List ℕ × ℕ)
counted_rows o = map (λ (c : ObjectConstant). (c.name.items, c.type_vars)) o.constants.items

abbrev kind_pair : KindEntry → List ℕ × ℕ
kind_pair e = (e.name.items, e.arity)

abbrev constant_pair : ConstantEntry → List ℕ × ℕ
constant_pair e = (e.name.items, e.type_vars)

module _ (m : Module) (o : Object) (s : IsShaped m o) where
  kind_is : (e : KindEntry) (k : ObjectKind) → IsObjectKind e k → (k.name.items, k.arity) ≡ kind_pair e
  kind_is e k p = λ i. (p.name i, p.arity i)

  constant_is : (e : ConstantEntry) (k : ObjectConstant) → IsObjectConstant m.signature o.bank e k → (k.name.items, k.type_vars) ≡ constant_pair e
  constant_is e k p = λ i. (p.name i, p.variables i)

  exported_kinds_are : program.exported_kinds m ≡ map (with_mark 0) (exported_kind_rows o)
  exported_kinds_are =
      sym (twice kind_pair (with_mark 0) (exported_among 8 m.hidden_kinds.items m.signature.kinds.items))
      ∙ ap (map (with_mark 0)) (front_same IsObjectKind kind_pair (λ (k : ObjectKind). k.name.items) (λ (k : ObjectKind). k.exported) (λ (k : ObjectKind). (k.name.items, k.arity)) 8 s.own.kinds
      m.hidden_kinds.items m.signature.kinds.items o.kinds.items s.names.kinds kind_is s.hidden_kinds s.kinds_fit (exported_kinds m o s))

  hidden_kinds_are : program.hidden_kinds m ≡ map (with_mark 1) (hidden_kind_rows o)
  hidden_kinds_are =
      sym (twice kind_pair (with_mark 1) (hidden_among 8 m.hidden_kinds.items m.signature.kinds.items))
      ∙ ap (map (with_mark 1)) (back_same IsObjectKind kind_pair (λ (k : ObjectKind). k.name.items) (λ (k : ObjectKind). k.exported) (λ (k : ObjectKind). (k.name.items, k.arity)) 8 s.own.kinds
      m.hidden_kinds.items m.signature.kinds.items o.kinds.items s.names.kinds kind_is s.hidden_kinds s.kinds_fit (exported_kinds m o s))

  exported_constants_are : program.exported_constants m ≡ map (with_mark 0) (exported_of (constants_of o) (counted_rows o))
  exported_constants_are =
      sym (twice constant_pair (with_mark 0) (exported_among 32 m.hidden_constants.items m.signature.constants.items))
      ∙ ap (map (with_mark 0)) (front_same (IsObjectConstant m.signature o.bank) constant_pair (λ (k : ObjectConstant). k.name.items) (λ (k : ObjectConstant). k.exported)
      (λ (k : ObjectConstant). (k.name.items, k.type_vars)) 32 s.own.constants m.hidden_constants.items m.signature.constants.items o.constants.items s.names.constants constant_is s.hidden_constants
      s.constants_fit (exported_constants m o s))

  hidden_constants_are : program.hidden_constants m ≡ map (with_mark 1) (hidden_of (constants_of o) (counted_rows o))
  hidden_constants_are =
      sym (twice constant_pair (with_mark 1) (hidden_among 32 m.hidden_constants.items m.signature.constants.items))
      ∙ ap (map (with_mark 1)) (back_same (IsObjectConstant m.signature o.bank) constant_pair (λ (k : ObjectConstant). k.name.items) (λ (k : ObjectConstant). k.exported)
      (λ (k : ObjectConstant). (k.name.items, k.type_vars)) 32 s.own.constants m.hidden_constants.items m.signature.constants.items o.constants.items s.names.constants constant_is s.hidden_constants
      s.constants_fit (exported_constants m o s))

-- types in a copy
module _ (o : Object) (c : program.Copy) (d : linked.Copy) (same : IsSame o c d) where
  mutual
    type_moved : (T : Ty) → IsTypeOver (8 + length o.kinds.items) T → mapped_type (linked.map_of 0 d) T ≡ mapped_type (program.map_of c) T
    type_moved (var x) h = refl
    type_moved (type_param k) h = refl
    type_moved (con k ts) h = let e = kinds_same o c d same k h.0 in let es = types_moved ts h.1 in λ i. con (e i) (es i)
    type_moved (arrow a b) h = let x = type_moved a h.0 in let y = type_moved b h.1 in λ i. arrow (x i) (y i)

    types_moved : (ts : Tys) → AreTypesOver (8 + length o.kinds.items) ts → mapped_types (linked.map_of 0 d) ts ≡ mapped_types (program.map_of c) ts
    types_moved no_types h = refl
    types_moved (types t ts) h = let x = type_moved t h.0 in let y = types_moved ts h.1 in λ i. types (x i) (y i)

module _ (m : Module) (o : Object) (s : IsShaped m o) (c : program.Copy) (d : linked.Copy) (same : IsSame o c d) (own : HasOwnTypes m) where
  abbrev IsOwn : ConstantEntry → ObjectConstant → Type 0
  IsOwn e k = IsObjectConstant m.signature o.bank e k × IsTypeOver (8 + length o.kinds.items) (type_tree m.signature.bank e.scheme.0)

  abbrev in_image : ObjectConstant → Scheme
  in_image k = moved_scheme (linked.map_of 0 d) (scheme_in o.bank k.type_vars k.scheme.0)

  abbrev in_program : ConstantEntry → Scheme
  in_program e = program.scheme_in c (entry_scheme m.signature.bank e)

  owned : ArePaired IsOwn m.signature.constants.items (length m.signature.constants.items) o.constants.items
  owned = record {
    many = s.names.constants.many;
    each = λ i e k a b. (s.names.constants.each i e k a b, subst (λ n. IsTypeOver (8 + n) (type_tree m.signature.bank e.scheme.0)) (sym s.names.kinds.many) (own i e a));
  }

  type_is : (e : ConstantEntry) (k : ObjectConstant) → IsOwn e k → in_image k ≡ in_program e
  type_is e k (p, over) =
      let body = ap (mapped_type (linked.map_of 0 d)) p.scheme ∙ type_moved o c d same (type_tree m.signature.bank e.scheme.0) over in
      λ i. record { count = p.variables i; body = body i }

  exported_types_are : program.exported_schemes c m ≡ exported_of (constants_of o) (map (moved_scheme (linked.map_of 0 d)) (named.schemes_of o))
  exported_types_are =
      front_same IsOwn in_program (λ (k : ObjectConstant). k.name.items) (λ (k : ObjectConstant). k.exported) in_image 32 s.own.constants m.hidden_constants.items m.signature.constants.items
      o.constants.items owned type_is s.hidden_constants s.constants_fit (exported_constants m o s)
      ∙ ap (exported_of (constants_of o)) (sym (twice (λ (k : ObjectConstant). scheme_in o.bank k.type_vars k.scheme.0) (moved_scheme (linked.map_of 0 d)) o.constants.items))

  hidden_types_are : program.hidden_schemes c m ≡ hidden_of (constants_of o) (map (moved_scheme (linked.map_of 0 d)) (named.schemes_of o))
  hidden_types_are =
      back_same IsOwn in_program (λ (k : ObjectConstant). k.name.items) (λ (k : ObjectConstant). k.exported) in_image 32 s.own.constants m.hidden_constants.items m.signature.constants.items
      o.constants.items owned type_is s.hidden_constants s.constants_fit (exported_constants m o s)
      ∙ ap (hidden_of (constants_of o)) (sym (twice (λ (k : ObjectConstant). scheme_in o.bank k.type_vars k.scheme.0) (moved_scheme (linked.map_of 0 d)) o.constants.items))

-- copies
pub paired_back : {A B : Type 0} (P : A → B → Type 0) (xs : List A) (ys : List B) → ArePaired P xs (length xs) ys → (i : ℕ) (y : B) → slice_get ys i ≡ Some y → (x : A) × (slice_get xs i ≡ Some x) × P x y
paired_back P xs [] h i y e = absurd (cc)
paired_back P [] (b ∷ ys) h i y e = absurd (let m = h.many in omega (arith, m))
paired_back P (a ∷ xs) (b ∷ ys) h zero y e = (a, refl, subst (P a) (one_value (Some b) b y refl e) (paired_head P a xs (length (a ∷ xs)) b ys h))
paired_back P (a ∷ xs) (b ∷ ys) h (suc i) y e = paired_back P xs ys (paired_tail P a xs b ys h) i y e

module _ (ms : List Module) (os : List Object) (paired : ArePaired IsShaped ms (length ms) os) where
  -- what a list of the program has copy by copy, the image has so too
  copies_same : {A B : Type 0} (of_program : program.Copy → Module → List A) (of_image : linked.Copy → List B) (mark : B → A)
      → ((m : Module) (c : program.Copy) (d : linked.Copy) (k : ℕ) → slice_get ms k ≡ Some m → IsShaped m d.object → IsSame d.object c d → of_program c m ≡ map mark (of_image d))
      → (cs : List program.Copy) (ds : List linked.Copy) → AreSame os cs ds → of_copies of_program ms cs ≡ map mark (named.of_copies of_image ds)
  copies_same of_program of_image mark each [] [] same = refl
  copies_same of_program of_image mark each [] (d ∷ ds) same = absurd same
  copies_same of_program of_image mark each (c ∷ cs) [] same = absurd same
  copies_same of_program of_image mark each (c ∷ cs) (d ∷ ds) ((o, there, is), same) =
      let (m, at, shaped) = paired_back IsShaped ms os paired c.member o there in
      let shape = subst (IsShaped m) (sym is.object) shaped in
      let here = subst (λ (x : Object). IsSame x c d) (sym is.object) is in
      let rest = copies_same of_program of_image mark each cs ds same in
      (λ i. of_module (of_program c) (at i) ++ rest i) ∙ ap (λ l. l ++ map mark (named.of_copies of_image ds)) (each m c d c.member at shape here)
      ∙ sym (map-append mark (of_image d) (named.of_copies of_image ds))

-- the last copies are the root's
last_same : (os : List Object) (cs : List program.Copy) (ds : List linked.Copy) (c : program.Copy) (d : linked.Copy) → AreSame os (cs ++ c ∷ []) (ds ++ d ∷ []) → (o : Object) × (slice_get os c.member ≡ Some o) × IsSame o c d
last_same os [] [] c d same = same.0
last_same os [] (e ∷ []) c d same = absurd same.1
last_same os [] (e ∷ f ∷ ds) c d same = absurd same.1
last_same os (b ∷ []) [] c d same = absurd same.1
last_same os (b ∷ a ∷ cs) [] c d same = absurd same.1
last_same os (b ∷ cs) (e ∷ ds) c d same = last_same os cs ds c d same.1

-- names with other values beside them
abbrev name_of : {A : Type 0} → List ℕ × A → List ℕ
name_of row = row.0

abbrev names_of : {A : Type 0} → List (List ℕ × A) → List (List ℕ)
names_of rows = map name_of rows

short_globals : {A B : Type 0} (xs : List (List ℕ × A)) (ys : List (List ℕ × B)) → names_of xs ≡ names_of ys → map short_row (map as_global xs) ≡ map short_row (map as_global ys)
short_globals [] [] e = refl
short_globals [] (y ∷ ys) e = absurd (let l = ap length e in omega (arith, l))
short_globals (x ∷ xs) [] e = absurd (let l = ap length e in omega (arith, l))
short_globals (x ∷ xs) (y ∷ ys) e =
    let w : x.0 ≡ y.0 = cc in
    let rest : names_of xs ≡ names_of ys = cc in
    let more = short_globals xs ys rest in
    λ i. (w i, 0) ∷ more i

short_numbered : {A B : Type 0} (met : List (List ℕ)) (xs : List (List ℕ × A)) (ys : List (List ℕ × B)) → names_of xs ≡ names_of ys → map short_row (numbered met xs) ≡ map short_row (numbered met ys)
short_numbered met [] [] e = refl
short_numbered met [] (y ∷ ys) e = absurd (let l = ap length e in omega (arith, l))
short_numbered met (x ∷ xs) [] e = absurd (let l = ap length e in omega (arith, l))
short_numbered met (x ∷ xs) (y ∷ ys) e =
    let w : x.0 ≡ y.0 = cc in
    let rest : names_of xs ≡ names_of ys = cc in
    let more = short_numbered (met ++ x.0 ∷ []) xs ys rest ∙ ap (λ v. map short_row (numbered (met ++ v ∷ []) ys)) w in
    λ i. (w i, named.fitted (named.times (w i) met + 1)) ∷ more i

-- the names among rows do not depend on what stands beside them
module _ {A B X : Type 0} (name : X → List ℕ) (value : X → A) (other : X → B) where
  exported_names : (es : List (List ℕ × Bool)) (xs : List X) → names_of (exported_of es (map (λ x. (name x, value x)) xs)) ≡ names_of (exported_of es (map (λ x. (name x, other x)) xs))
  exported_names [] xs = refl
  exported_names (e ∷ es) [] = refl
  exported_names ((w, false) ∷ es) (x ∷ xs) = exported_names es xs
  exported_names ((w, true) ∷ es) (x ∷ xs) = ap (λ l. name x ∷ l) (exported_names es xs)

  hidden_names : (es : List (List ℕ × Bool)) (xs : List X) → names_of (hidden_of es (map (λ x. (name x, value x)) xs)) ≡ names_of (hidden_of es (map (λ x. (name x, other x)) xs))
  hidden_names [] xs = refl
  hidden_names (e ∷ es) [] = refl
  hidden_names ((w, false) ∷ es) (x ∷ xs) = ap (λ l. name x ∷ l) (hidden_names es xs)
  hidden_names ((w, true) ∷ es) (x ∷ xs) = hidden_names es xs

counted_names : (ds : List linked.Copy) → names_of (named.of_copies (λ d. hidden_constant_rows d.object) ds) ≡ names_of (named.of_copies (λ d. hidden_of (constants_of d.object) (counted_rows d.object)) ds)
counted_names [] = refl
counted_names (d ∷ ds) =
    let here = hidden_names (λ (c : ObjectConstant). c.name.items) (λ (c : ObjectConstant). c.fixity) (λ (c : ObjectConstant). c.type_vars) (constants_of d.object) d.object.constants.items in
    let rest = counted_names ds in
    map-append name_of (hidden_constant_rows d.object) (named.of_copies (λ d. hidden_constant_rows d.object) ds) ∙ (λ i. here i ++ rest i)
    ∙ sym (map-append name_of (hidden_of (constants_of d.object) (counted_rows d.object)) (named.of_copies (λ d. hidden_of (constants_of d.object) (counted_rows d.object)) ds))

-- the tables of a program and of an image with its copies
module _ (ms : List Module) (os : List Object) (paired : ArePaired IsShaped ms (length ms) os) (root : ℕ) (a : Assembled) (p : IsProgram ms root a) (ds : List linked.Copy) (same : AreSame os p.copied ds)
    (i : Image) (n : HasNames ds i) where
  -- the module and the object of the root
  roots : IsShaped p.are.top n.root.object × IsSame n.root.object p.are.copy n.root
  roots =
      let ends : AreSame os (p.are.below ++ p.are.copy ∷ []) (n.below ++ n.root ∷ []) = subst (AreSame os (p.are.below ++ p.are.copy ∷ [])) n.last (subst (λ l. AreSame os l ds) p.are.whole same) in
      let (o, there, is) = last_same os p.are.below n.below p.are.copy n.root ends in
      let (m, at, shaped) = paired_back IsShaped ms os paired p.are.copy.member o there in
      let one : m ≡ p.are.top = one_value (slice_get ms root) m p.are.top (ap (slice_get ms) (sym p.are.of_root) ∙ at) p.are.at in
      (subst (λ x. IsShaped x n.root.object) one (subst (IsShaped m) (sym is.object) shaped), subst (λ (x : Object). IsSame x p.are.copy n.root) (sym is.object) is)

  same_kinds : map named.kind_row i.kinds.items ≡ map full_row a.kinds.items
  same_kinds =
      let exported = exported_kinds_are p.are.top n.root.object roots.0 in
      let hidden = copies_same ms os paired (λ c m. program.hidden_kinds m) (λ d. hidden_kind_rows d.object) (with_mark 1) (λ m c d k at s is. hidden_kinds_are m d.object s) p.copied ds same in
      n.kinds ∙ sym (numbered_rows [] a.kinds.items [] (exported_kind_rows n.root.object) (named.of_copies (λ d. hidden_kind_rows d.object) ds) p.hidden_kinds (λ w. refl)
      (p.tables.kinds ∙ (λ j. exported j ++ hidden j)))

  same_constants : map short_row (map named.constant_row i.constants.items) ≡ map short_row (map full_row a.constants.items)
  same_constants =
      let exported = exported_constants_are p.are.top n.root.object roots.0 in
      let hidden = copies_same ms os paired (λ c m. program.hidden_constants m) (λ d. hidden_of (constants_of d.object) (counted_rows d.object)) (with_mark 1)
      (λ m c d k at s is. hidden_constants_are m d.object s) p.copied ds same in
      let globals = exported_of (constants_of n.root.object) (counted_rows n.root.object) in
      let behind = named.of_copies (λ d. hidden_of (constants_of d.object) (counted_rows d.object)) ds in
      let rows = numbered_rows [] a.constants.items [] globals behind p.hidden_constants (λ w. refl) (p.tables.constants ∙ (λ j. exported j ++ hidden j)) in
      let front = short_globals (named.exported_constant_rows n.root.object) globals (exported_names (λ (c : ObjectConstant). c.name.items) (λ (c : ObjectConstant). c.fixity)
      (λ (c : ObjectConstant). c.type_vars) (constants_of n.root.object) n.root.object.constants.items) in
      let back = short_numbered [] (named.of_copies (λ d. hidden_constant_rows d.object) ds) behind (counted_names ds) in
      ap (map short_row) n.constants ∙ map-append short_row (map as_global (named.exported_constant_rows n.root.object)) (numbered [] (named.of_copies (λ d. hidden_constant_rows d.object) ds))
      ∙ (λ j. front j ++ back j) ∙ sym (map-append short_row (map as_global globals) (numbered [] behind)) ∙ ap (map short_row) (sym rows)

  same_types : HaveOwnTypes ms → HasSameTypes a i
  same_types own =
      let exported = exported_types_are p.are.top n.root.object roots.0 p.are.copy n.root roots.1 (own root p.are.top p.are.at) in
      let hidden = copies_same ms os paired program.hidden_schemes hidden_types (λ s. s) (λ m c d k at s is. hidden_types_are m d.object s c d is (own k m at) ∙ sym (plain (hidden_types d))) p.copied ds same in
      n.types ∙ sym (p.tables.schemes ∙ (λ j. exported j ++ (hidden ∙ plain (named.of_copies hidden_types ds)) j))
    where
      plain : (ss : List Scheme) → map (λ s. s) ss ≡ ss
      plain [] = refl
      plain (s ∷ ss) = ap (λ l. s ∷ l) (plain ss)

  pub names_same : HasSameNames a i
  names_same = record { kinds = same_kinds; constants = same_constants }

  pub types_same : HaveOwnTypes ms → HasSameTypes a i
  types_same = same_types
