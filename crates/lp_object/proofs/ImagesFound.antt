-- What is read as an image is spelled so.
use Rattle.std.proofs.Common.{◌≡◌, ℕ, ◌≤◌, cond, eqb, List, [], ◌∷◌, ◌++◌, length, map, Option, Ok, Err, refl, sym, ap, subst, ◌∙◌, append_assoc, arith, inl, inr, ◌⊎◌}
use Rattle.std.specs.Str.{bytes_eq}
use Rattle.std.specs.List.{flat_map}
use Rattle.std.proofs.lemmas.Bool.{eqb-true}
use Rattle.std.proofs.lemmas.Grind.{flat_map-append}
use Rattle.lp_lemmas.proofs.Booleans.{bytes_eq_true}
use Rattle.lp_calculus.specs.Types.{Ty}
use Rattle.lp_standard.specs.declared.fixity.Fixity.{Fixity}
use Rattle.lp_code.specs.Groups.{PlainKey, no_key, constant}
use Rattle.lp_code.specs.Groups as key
use Rattle.lp_bytes.specs.declared.fault.Fault.TheVariants.{BadVersion, BadField}
use Rattle.lp_bytes.specs.Numbers.{spelled_two, spelled_four}
use Rattle.lp_bytes.specs.Reading.{Left, ◌>>=◌, field, byte_at, two_at, each_at, file_of, magic_at, all_read}
use Rattle.lp_bytes.proofs.Taking.{IsBytes, bind_ok, ok_is, held, chosen, Takes, takes_none, takes_then, takes_as, field_takes, byte_takes, two_takes, magic_takes, all_is_read, file_is}
use Rattle.lp_object.specs.declared.width.Width.{Width}
use Rattle.lp_object.specs.declared.width.Width.TheVariants.{Two, Four}
use Rattle.lp_object.specs.Numbers.{spelled_number, spelled_text}
use Rattle.lp_object.specs.Plain.{PlainImageKind, PlainImageConstant, PlainImage, PlainRecord}
use Rattle.lp_object.specs.Spelling.{spelled_type, spelled_fixity, spelled_key, spelled_records}
use Rattle.lp_object.specs.Tables.{spelled_group, spelled_groups, spelled_tables, key_fields, group_fields, groups_fields, table_fields, heads_of, keys_of, group_of}
use Rattle.lp_object.specs.Files.{spelled_image_kind, spelled_image_constant, spelled_image_kinds, spelled_image_constants, spelled_parts, spelled_image_1, spelled_image}
use Rattle.lp_object.specs.Spellable.{IsNumber, Each, IsImageKind, IsImageConstant, IsImage, SpellsImage}
use Rattle.lp_object.specs.Reading.{name_at, count_at, records_at, new_global_at, fixity_at, scope, type_at, image_kind_name, image_kind_at, image_constant_name, image_constant_at, image_kinds_at, image_constants_at, image_at, expected_at, all_expected_at, tables_at, tabled_at, version_at, image_of}
use Rattle.lp_object.proofs.Grouping.{four_lists}
use Rattle.lp_object.proofs.FieldsFound.{behind_that, name_takes, count_takes, each_takes}
use Rattle.lp_object.proofs.RecordsFound.{records_take, new_global_takes, fixity_takes}
use Rattle.lp_object.proofs.TypesFound.{type_takes}
use Rattle.lp_object.proofs.ObjectsFound.{whole}

abbrev pub image_kind_made : (name : List ℕ) → (hidden arity : ℕ) → PlainImageKind
image_kind_made n h a = record { name = n; hidden = h; arity = a }

abbrev pub image_constant_made : (name : List ℕ) → (hidden type_vars : ℕ) → Ty → Option (Fixity × ℕ) → PlainImageConstant
image_constant_made n h v t f = record { name = n; hidden = h; type_vars = v; scheme = t; fixity = f }

abbrev pub image_made : (name : List ℕ) → List PlainImageKind → List PlainImageConstant → List PlainRecord → PlainImage
image_made n ks cs rs = record { name = n; kinds = ks; constants = cs; records = rs }

kind_takes : (before : List PlainImageKind) (s : Left) (k : PlainImageKind) (t : Left) → IsBytes s.rest → image_kind_at before s ≡ Ok (k, t) → Takes s (spelled_image_kind k) t × IsImageKind before k
unfolding image_kind_at spelled_image_kind
kind_takes before s k t h e =
    let a = bind_ok (new_global_at (map image_kind_name before) s) (λ n. byte_at n.1 >>= λ m. Ok (image_kind_made n.0.0 n.0.1 m.0, m.1)) (k, t) e in
    let b = bind_ok (byte_at a.0.1) (λ m. Ok (image_kind_made a.0.0.0 a.0.0.1 m.0, m.1)) (k, t) a.2 in
    let pa = new_global_takes (map image_kind_name before) s a.0.0 a.0.1 h a.1 in
    let pb = byte_takes a.0.1 b.0.0 b.0.1 pa.0.bytes b.1 in
    let N = spelled_text a.0.0.0 in
    let H = spelled_two a.0.0.1 in
    subst (λ (p : PlainImageKind × Left). Takes s (spelled_image_kind p.0) p.1 × IsImageKind before p.0) (ok_is (image_kind_made a.0.0.0 a.0.0.1 b.0.0, b.0.1) (k, t) b.2) (
      takes_then s (N ++ H) a.0.1 (b.0.0 ∷ []) b.0.1 pa.0 pb.0,
      record { name_fits = pa.1; hidden_fits = pa.2; is_new = pa.3; arity_fits = pb.1 },
    )

-- the parts of a constant, one behind the other
abbrev pub image_constant_parts : Width → PlainImageConstant → List ℕ
image_constant_parts w c = (spelled_text c.name ++ spelled_two c.hidden) ++ (c.type_vars ∷ (spelled_type w c.scheme ++ spelled_fixity c.fixity))

pub image_constant_spelled : (w : Width) (c : PlainImageConstant) → spelled_image_constant w c ≡ image_constant_parts w c
unfolding spelled_image_constant
image_constant_spelled w c = append_assoc (spelled_text c.name ++ spelled_two c.hidden) (c.type_vars ∷ spelled_type w c.scheme) (spelled_fixity c.fixity)

abbrev ConstantTaken : Width → List ℕ → List PlainImageConstant → Left → PlainImageConstant → Left → Type 0
ConstantTaken w arities before s k t = Takes s (image_constant_parts w k) t × IsImageConstant w arities before k

constant_parts_take : (w : Width) (arities : List ℕ) (before : List PlainImageConstant) (s : Left) (k : PlainImageConstant) (t : Left) → IsBytes s.rest → image_constant_at w arities before s ≡ Ok (k, t) → ConstantTaken w arities before s k t
unfolding image_constant_at
constant_parts_take w arities before s k t h e =
    behind_that (ConstantTaken w arities before s k t) (new_global_at (map image_constant_name before) s) (λ n. byte_at n.1 >>= λ v. type_at (scope w arities v.0) v.1 >>= λ y. fixity_at y.1 >>= λ f. Ok (image_constant_made n.0.0 n.0.1 v.0 y.0 f.0, f.1)) (k, t) e
    (λ n i1 e1. behind_that (ConstantTaken w arities before s k t) (byte_at n.1) (λ v. type_at (scope w arities v.0) v.1 >>= λ y. fixity_at y.1 >>= λ f. Ok (image_constant_made n.0.0 n.0.1 v.0 y.0 f.0, f.1)) (k, t) e1
    (λ v i2 e2. behind_that (ConstantTaken w arities before s k t) (type_at (scope w arities v.0) v.1) (λ y. fixity_at y.1 >>= λ f. Ok (image_constant_made n.0.0 n.0.1 v.0 y.0 f.0, f.1)) (k, t) e2
    (λ y i3 e3. behind_that (ConstantTaken w arities before s k t) (fixity_at y.1) (λ f. Ok (image_constant_made n.0.0 n.0.1 v.0 y.0 f.0, f.1)) (k, t) e3
    (λ f i4 e4.
    let tn = new_global_takes (map image_constant_name before) s n.0 n.1 h i1 in
    let tv = byte_takes n.1 v.0 v.1 tn.0.bytes i2 in
    let ty = type_takes (scope w arities v.0) v.1 y.0 y.1 tv.0.bytes i3 in
    let tf = fixity_takes y.1 f.0 f.1 ty.0.bytes i4 in
    let T = spelled_type w y.0 ++ spelled_fixity f.0 in
    let q = takes_then n.1 (v.0 ∷ []) v.1 T f.1 tv.0 (takes_then v.1 (spelled_type w y.0) y.1 (spelled_fixity f.0) f.1 ty.0 tf.0) in
    subst (λ (z : PlainImageConstant × Left). ConstantTaken w arities before s z.0 z.1) (ok_is (image_constant_made n.0.0 n.0.1 v.0 y.0 f.0, f.1) (k, t) e4)
    (takes_then s (spelled_text n.0.0 ++ spelled_two n.0.1) n.1 (v.0 ∷ T) f.1 tn.0 q, record { name_fits = tn.1; hidden_fits = tn.2; is_new = tn.3; type_vars_fit = tv.1; scheme_fits = ty.1; fixity_fits = tf.1 })))))

constant_takes : (w : Width) (arities : List ℕ) (before : List PlainImageConstant) (s : Left) (k : PlainImageConstant) (t : Left) → IsBytes s.rest → image_constant_at w arities before s ≡ Ok (k, t)
    → Takes s (spelled_image_constant w k) t × IsImageConstant w arities before k
constant_takes w arities before s k t h e =
    let p = constant_parts_take w arities before s k t h e in
    (takes_as s (image_constant_parts w k) (spelled_image_constant w k) t (sym (image_constant_spelled w k)) p.0, p.1)

-- the count of a list of kinds or constants fits
counts_fit : (w : Width) (m n most : ℕ) → m ≡ n → IsNumber w n → n ≤ most → IsNumber w m × (m ≤ most)
counts_fit w m n most e h le = (subst (IsNumber w) (sym e) h, omega (arith, e, le))

kinds_take : (w : Width) (s : Left) (ks : List PlainImageKind) (t : Left) → IsBytes s.rest → image_kinds_at w s ≡ Ok (ks, t) → Takes s (spelled_image_kinds w ks) t × IsNumber w (length ks) × (length ks ≤ 1048568) × Each IsImageKind [] ks
unfolding image_kinds_at spelled_image_kinds
kinds_take w s ks t h e =
    let a = bind_ok (count_at w 1048568 s) (λ n. each_at image_kind_at [] n.0 n.1) (ks, t) e in
    let p = count_takes w 1048568 s a.0.0 a.0.1 h a.1 in
    let q = each_takes image_kind_at spelled_image_kind IsImageKind kind_takes a.0.0 [] a.0.1 ks t p.0.bytes a.2 in
    let c = counts_fit w (length q.0) a.0.0 1048568 q.3 p.1 p.2 in
    let text : Takes s (spelled_number w (length q.0) ++ flat_map spelled_image_kind q.0) t = takes_then s (spelled_number w (length q.0)) a.0.1
    (flat_map spelled_image_kind q.0) t (takes_as s (spelled_number w a.0.0) (spelled_number w (length q.0)) a.0.1
    (ap (λ m. spelled_number w m) (sym q.3)) p.0) q.2 in
    subst (λ ks. Takes s (spelled_number w (length ks) ++ flat_map spelled_image_kind ks) t × IsNumber w (length ks) × (length ks ≤ 1048568) × Each IsImageKind [] ks) (sym q.1) (text, c.0, c.1, q.4)

constants_take : (w : Width) (arities : List ℕ) (s : Left) (ks : List PlainImageConstant) (t : Left) → IsBytes s.rest → image_constants_at w arities s ≡ Ok (ks, t)
    → Takes s (spelled_image_constants w ks) t × IsNumber w (length ks) × (length ks ≤ 1048544) × Each (IsImageConstant w arities) [] ks
unfolding image_constants_at spelled_image_constants
constants_take w arities s ks t h e =
    let a = bind_ok (count_at w 1048544 s) (λ n. each_at (image_constant_at w arities) [] n.0 n.1) (ks, t) e in
    let p = count_takes w 1048544 s a.0.0 a.0.1 h a.1 in
    let q = each_takes (image_constant_at w arities) (spelled_image_constant w) (IsImageConstant w arities) (constant_takes w arities) a.0.0 [] a.0.1 ks t p.0.bytes a.2 in
    let c = counts_fit w (length q.0) a.0.0 1048544 q.3 p.1 p.2 in
    let text : Takes s (spelled_number w (length q.0) ++ flat_map (spelled_image_constant w) q.0) t = takes_then s (spelled_number w (length q.0))
    a.0.1 (flat_map (spelled_image_constant w) q.0) t (takes_as s (spelled_number w a.0.0) (spelled_number w (length q.0)) a.0.1
    (ap (λ m. spelled_number w m) (sym q.3)) p.0) q.2 in
    subst (λ ks. Takes s (spelled_number w (length ks) ++ flat_map (spelled_image_constant w) ks) t × IsNumber w (length ks) × (length ks ≤ 1048544) × Each (IsImageConstant w arities) [] ks) (sym q.1) (text, c.0, c.1, q.4)

-- the parts of an image, one behind the other
abbrev pub image_parts : Width → PlainImage → List ℕ
image_parts w i = spelled_text i.name ++ (spelled_image_kinds w i.kinds ++ (spelled_image_constants w i.constants ++ spelled_records w i.records))

pub image_spelled : (w : Width) (i : PlainImage) → spelled_parts w i ≡ image_parts w i
unfolding spelled_parts
image_spelled w i = four_lists (spelled_text i.name) (spelled_image_kinds w i.kinds) (spelled_image_constants w i.constants) (spelled_records w i.records)

abbrev ImageTaken : Width → Left → PlainImage → Left → Type 0
ImageTaken w s i t = Takes s (image_parts w i) t × IsImage w i

image_parts_take : (w : Width) (s : Left) (i : PlainImage) (t : Left) → IsBytes s.rest → image_at w s ≡ Ok (i, t) → ImageTaken w s i t
unfolding image_at
image_parts_take w s i t h e =
    behind_that (ImageTaken w s i t) (name_at s) (λ n. image_kinds_at w n.1 >>= λ ks. image_constants_at w (map (λ k. k.arity) ks.0) ks.1 >>= λ cs. records_at w 4294967295 cs.1 >>= λ rs. Ok (image_made n.0 ks.0 cs.0 rs.0, rs.1)) (i, t) e
    (λ n i1 e1. behind_that (ImageTaken w s i t) (image_kinds_at w n.1) (λ ks. image_constants_at w (map (λ k. k.arity) ks.0) ks.1 >>= λ cs. records_at w 4294967295 cs.1 >>= λ rs. Ok (image_made n.0 ks.0 cs.0 rs.0, rs.1)) (i, t) e1
    (λ ks i2 e2. behind_that (ImageTaken w s i t) (image_constants_at w (map (λ k. k.arity) ks.0) ks.1) (λ cs. records_at w 4294967295 cs.1 >>= λ rs. Ok (image_made n.0 ks.0 cs.0 rs.0, rs.1)) (i, t) e2
    (λ cs i3 e3. behind_that (ImageTaken w s i t) (records_at w 4294967295 cs.1) (λ rs. Ok (image_made n.0 ks.0 cs.0 rs.0, rs.1)) (i, t) e3
    (λ rs i4 e4.
    let tn = name_takes s n.0 n.1 h i1 in
    let tk = kinds_take w n.1 ks.0 ks.1 tn.0.bytes i2 in
    let tc = constants_take w (map (λ k. k.arity) ks.0) ks.1 cs.0 cs.1 tk.0.bytes i3 in
    let tr = records_take w 4294967295 cs.1 rs.0 rs.1 tc.0.bytes i4 in
    let C = spelled_image_constants w cs.0 ++ spelled_records w rs.0 in
    let q = takes_then n.1 (spelled_image_kinds w ks.0) ks.1 C rs.1 tk.0 (takes_then ks.1 (spelled_image_constants w cs.0) cs.1 (spelled_records w rs.0) rs.1 tc.0 tr.0) in
    subst (λ (z : PlainImage × Left). ImageTaken w s z.0 z.1) (ok_is (image_made n.0 ks.0 cs.0 rs.0, rs.1) (i, t) e4) (
      takes_then s (spelled_text n.0) n.1 (spelled_image_kinds w ks.0 ++ C) rs.1 tn.0 q,
      record { name_fits = tn.1; kinds_fit_count = tk.1; few_kinds = tk.2; kinds_fit = tk.3; constants_fit_count = tc.1; few_constants = tc.2; constants_fit = tc.3; records_fit = tr.1 },
    )))))

image_takes : (w : Width) (s : Left) (i : PlainImage) (t : Left) → IsBytes s.rest → image_at w s ≡ Ok (i, t) → Takes s (spelled_parts w i) t × IsImage w i
image_takes w s i t h e = let p = image_parts_take w s i t h e in (takes_as s (image_parts w i) (spelled_parts w i) t (sym (image_spelled w i)) p.0, p.1)

-- ---- tables

expected_takes : (fs : List (List ℕ)) (s t : Left) → IsBytes s.rest → all_expected_at fs s ≡ Ok t → Takes s (flat_map (λ f. f) fs) t
unfolding all_expected_at expected_at
expected_takes [] s t h e = subst (λ u. Takes s [] u) (ok_is s t e) (takes_none s h)
expected_takes (f ∷ fs) s t h e =
    let a = bind_ok (expected_at f s) (all_expected_at fs) t e in
    let b = bind_ok (field (length f) s) (λ x. cond (bytes_eq x.0 f) (Ok x.1) (Err (BadField s.at))) a.0 a.1 in
    let k = held (bytes_eq b.0.0 f) (Ok b.0.1) (BadField s.at) a.0 b.2 in
    let p = (field_takes (length f) s b.0.0 b.0.1 h b.1).0 in
    let q = subst (λ u. Takes s f u) (ok_is b.0.1 a.0 k.1) (takes_as s b.0.0 f b.0.1 (bytes_eq_true b.0.0 f k.0) p) in
    takes_then s f a.0 (flat_map (λ f. f) fs) t q (expected_takes fs a.0 t q.bytes a.2)

-- the fields of a table are its bytes
module _ {A : Type 0} (g : A → List (List ℕ)) (spell : A → List ℕ) (same : (x : A) → flat_map (λ f. f) (g x) ≡ spell x) where
  fields_are : (xs : List A) → flat_map (λ f. f) (flat_map g xs) ≡ flat_map spell xs
  fields_are [] = refl
  fields_are (x ∷ xs) = flat_map-append (λ f. f) (g x) (flat_map g xs) ∙ (λ i. same x i ++ fields_are xs i)

fours_are : (ns : List ℕ) → flat_map (λ f. f) (map spelled_four ns) ≡ flat_map spelled_four ns
fours_are [] = refl
fours_are (n ∷ ns) = ap (λ x. spelled_four n ++ x) (fours_are ns)

key_fields_are : (ns : List (List ℕ)) (k : PlainKey) → flat_map (λ f. f) (key_fields k ++ ns) ≡ spelled_key Four k ++ flat_map (λ f. f) ns
unfolding spelled_text
key_fields_are ns no_key = refl
key_fields_are ns (constant c) = refl
key_fields_are ns (key.integer z) = refl
key_fields_are ns (key.text s) = ap (λ x. 3 ∷ x) (sym (append_assoc (spelled_two (length s)) s (flat_map (λ f. f) ns)))

group_fields_are : (ns : List ℕ) (k : PlainKey) → flat_map (λ f. f) (group_fields ns k) ≡ spelled_group ns k
unfolding spelled_group
group_fields_are ns k =
    key_fields_are (spelled_four (length ns) ∷ map spelled_four ns) k ∙ ap (λ x. spelled_key Four k ++ (spelled_four (length ns) ++ x)) (fours_are ns)
    ∙ sym (append_assoc (spelled_key Four k) (spelled_four (length ns)) (flat_map spelled_four ns))

groups_fields_are : (rs : List PlainRecord) (c : ℕ) → flat_map (λ f. f) (groups_fields rs c) ≡ spelled_groups rs c
unfolding spelled_groups
groups_fields_are rs c =
    ap (λ x. spelled_four c ++ spelled_four (length (keys_of rs c)) ++ x)
    (fields_are (λ k. group_fields (group_of rs c k) k) (λ k. spelled_group (group_of rs c k) k) (λ k. group_fields_are (group_of rs c k) k) (keys_of rs c))

pub table_fields_are : (rs : List PlainRecord) → flat_map (λ f. f) (table_fields rs) ≡ spelled_tables rs
unfolding spelled_tables
table_fields_are rs = ap (λ x. spelled_four (length (heads_of rs)) ++ x) (fields_are (groups_fields rs) (spelled_groups rs) (groups_fields_are rs) (heads_of rs))

-- ---- versions

-- behind the version
abbrev Spells : ℕ → PlainImage → List ℕ → Type 0
Spells v i text = ((v ≡ 1) × IsImage Two i × (text ≡ spelled_parts Two i)) ⊎ ((v ≡ 2) × IsImage Four i × (text ≡ spelled_parts Four i ++ spelled_tables i.records))

version_takes : (v : ℕ) (s : Left) (i : PlainImage) (t : Left) → IsBytes s.rest → version_at v s ≡ Ok (i, t) → (text : List ℕ) × Takes s text t × Spells v i text
version_takes v s i t h e =
    elim (chosen (eqb v 1) (image_at Two s) (cond (eqb v 2) (tabled_at s) (Err (BadVersion v))) (Ok (i, t)) e) [
      | inl y ↦ let p = image_takes Two s i t h y.1 in (spelled_parts Two i, p.0, inl (eqb-true _ _ y.0, p.1, refl))
      | inr n ↦
          let k = held (eqb v 2) (tabled_at s) (BadVersion v) (i, t) n.1 in
          let a = bind_ok (image_at Four s) (λ j. tables_at j.0 j.1) (i, t) k.1 in
          let b = bind_ok (all_expected_at (table_fields a.0.0.records) a.0.1) (λ u. Ok (a.0.0, u)) (i, t) a.2 in
          let p = image_takes Four s a.0.0 a.0.1 h a.1 in
          let q = takes_as a.0.1 (flat_map (λ f. f) (table_fields a.0.0.records)) (spelled_tables a.0.0.records) b.0 (table_fields_are a.0.0.records) (expected_takes (table_fields a.0.0.records) a.0.1 b.0 p.0.bytes b.1) in
          let r = takes_then s (spelled_parts Four a.0.0) a.0.1 (spelled_tables a.0.0.records) b.0 p.0 q in
          subst (λ (x : PlainImage × Left). (text : List ℕ) × Takes s text x.1 × Spells v x.0 text) (ok_is (a.0.0, b.0) (i, t) b.2) (spelled_parts Four a.0.0 ++ spelled_tables a.0.0.records, r, inr (eqb-true _ _ k.0, p.1, refl))
    ]

spells_so : (bs : List ℕ) (v : ℕ) (i : PlainImage) (text : List ℕ) → bs ≡ (76 ∷ 80 ∷ 73 ∷ 77 ∷ []) ++ (spelled_two v ++ text) → Spells v i text → SpellsImage i bs
unfolding spelled_image_1 spelled_image
spells_so bs v i text e (inl y) = inl (y.1, e ∙ (λ j. (76 ∷ 80 ∷ 73 ∷ 77 ∷ []) ++ (spelled_two (y.0 j) ++ y.2 j)))
spells_so bs v i text e (inr y) = inr (y.1, e ∙ (λ j. (76 ∷ 80 ∷ 73 ∷ 77 ∷ []) ++ (spelled_two (y.0 j) ++ y.2 j)))

abbrev pub image_magic : List ℕ
image_magic = 76 ∷ 80 ∷ 73 ∷ 77 ∷ []

abbrev ImageFound : List ℕ → PlainImage → Type 0
ImageFound bs i = (length bs ≤ 16777216) × SpellsImage i bs

pub image_found : (bs : List ℕ) (i : PlainImage) → IsBytes bs → image_of bs ≡ Ok i → (length bs ≤ 16777216) × SpellsImage i bs
unfolding image_of
image_found bs i h e =
    behind_that (ImageFound bs i) (file_of bs) (λ f. magic_at image_magic f >>= λ m. two_at m >>= λ v. version_at v.0 v.1 >>= λ i. all_read i.1 >>= λ over. Ok i.0) i e
    (λ f i1 e1. behind_that (ImageFound bs i) (magic_at image_magic f) (λ m. two_at m >>= λ v. version_at v.0 v.1 >>= λ i. all_read i.1 >>= λ over. Ok i.0) i e1
    (λ m i2 e2. behind_that (ImageFound bs i) (two_at m) (λ v. version_at v.0 v.1 >>= λ i. all_read i.1 >>= λ over. Ok i.0) i e2
    (λ v i3 e3. behind_that (ImageFound bs i) (version_at v.0 v.1) (λ i. all_read i.1 >>= λ over. Ok i.0) i e3
    (λ x i4 e4. behind_that (ImageFound bs i) (all_read x.1) (λ over. Ok x.0) i e4
    (λ over i5 e5.
    let start = file_is bs f i1 in
    let hf : IsBytes f.rest = subst (λ (s : Left). IsBytes s.rest) (sym start.0) h in
    let tm = magic_takes image_magic f m hf i2 in
    let tv = (two_takes m v.0 v.1 tm.bytes i3).0 in
    let tx = version_takes v.0 v.1 x.0 x.1 tv.bytes i4 in
    let all : bs ≡ image_magic ++ (spelled_two v.0 ++ tx.0) = ap (λ (s : Left). s.rest) (sym start.0) ∙ whole f m x.1 image_magic (spelled_two v.0 ++ tx.0) tm (takes_then m (spelled_two v.0) v.1 tx.0 x.1 tv tx.1) (all_is_read x.1 i5) in
    subst (ImageFound bs) (ok_is x.0 i e5) (start.1, spells_so bs v.0 x.0 tx.0 all tx.2))))))
