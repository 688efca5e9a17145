-- What is read as an object is spelled so.
use Rattle.std.proofs.Common.{◌≡◌, ℕ, ◌^◌, ◌<◌, ◌≤◌, Bool, cond, eqb, List, [], ◌∷◌, ◌++◌, length, map, Option, Ok, Err, sym, ap, subst, ◌∙◌, arith}
use Rattle.std.specs.List.{flat_map, AllByRecursion}
use Rattle.std.proofs.lemmas.Bool.{eqb-true}
use Rattle.std.proofs.lemmas.List.{append-nil}
use Rattle.lp_calculus.specs.Types.{Ty}
use Rattle.lp_standard.specs.declared.fixity.Fixity.{Fixity}
use Rattle.lp_bytes.specs.declared.fault.Fault.TheVariants.{BadVersion}
use Rattle.lp_bytes.specs.Numbers.{spelled_two}
use Rattle.lp_bytes.specs.Reading.{Left, ◌>>=◌, byte_at, two_at, each_at, file_of, magic_at, all_read}
use Rattle.lp_bytes.proofs.Taking.{IsBytes, bind_ok, ok_is, held, Takes, takes_then, takes_as, byte_takes, two_takes, magic_takes, all_is_read, file_is}
use Rattle.lp_object.specs.declared.width.Width.TheVariants.{Two}
use Rattle.lp_object.specs.Numbers.{spelled_text}
use Rattle.lp_object.specs.Plain.{PlainObjectKind, PlainObjectConstant, PlainObject, PlainRecord}
use Rattle.lp_object.specs.Spelling.{spelled_type, spelled_fixity, spelled_records}
use Rattle.lp_object.specs.Files.{spelled_class, spelled_object_kind, spelled_object_constant, spelled_object_kinds, spelled_object_constants, spelled_uses, spelled_object}
use Rattle.lp_object.specs.Spellable.{Each, IsName, IsObjectKind, IsObjectConstant, IsObject}
use Rattle.lp_object.specs.Reading.{name_at, choice_at, count_at, records_at, new_name_at, fixity_at, scope, type_at, object_kind_name, object_kind_at, object_constant_name, object_constant_at, object_kinds_at, object_constants_at, uses_at, object_at, object_of}
use Rattle.lp_object.proofs.Grouping.{four_lists, seven_lists}
use Rattle.lp_object.proofs.FieldsFound.{behind_that, name_takes, choice_takes, count_takes, all_take, each_takes}
use Rattle.lp_object.proofs.RecordsFound.{records_take, new_name_takes, fixity_takes}
use Rattle.lp_object.proofs.TypesFound.{type_takes}

abbrev pub kind_made : (exported : Bool) → (name : List ℕ) → (arity : ℕ) → PlainObjectKind
kind_made x n a = record { exported = x; name = n; arity = a }

abbrev pub constant_made : (exported : Bool) → (name : List ℕ) → (type_vars : ℕ) → Ty → Option (Fixity × ℕ) → PlainObjectConstant
constant_made x n v t f = record { exported = x; name = n; type_vars = v; scheme = t; fixity = f }

abbrev pub object_made : (name : List ℕ) → List PlainObjectKind → List PlainObjectConstant → (uses : List (List ℕ)) → List PlainRecord → PlainObject
object_made n ks cs us rs = record { name = n; kinds = ks; constants = cs; uses = us; records = rs }

kind_takes : (before : List PlainObjectKind) (s : Left) (k : PlainObjectKind) (t : Left) → IsBytes s.rest → object_kind_at before s ≡ Ok (k, t) → Takes s (spelled_object_kind k) t × IsObjectKind before k
unfolding object_kind_at spelled_object_kind
kind_takes before s k t h e =
    let a = bind_ok (choice_at 1 2 s) (λ x. new_name_at (map object_kind_name before) x.1 >>= λ n. byte_at n.1 >>= λ m. Ok (kind_made x.0 n.0 m.0, m.1)) (k, t) e in
    let b = bind_ok (new_name_at (map object_kind_name before) a.0.1) (λ n. byte_at n.1 >>= λ m. Ok (kind_made a.0.0 n.0 m.0, m.1)) (k, t) a.2 in
    let c = bind_ok (byte_at b.0.1) (λ m. Ok (kind_made a.0.0 b.0.0 m.0, m.1)) (k, t) b.2 in
    let pa = choice_takes 1 2 s a.0.0 a.0.1 h a.1 in
    let pb = new_name_takes (map object_kind_name before) a.0.1 b.0.0 b.0.1 pa.bytes b.1 in
    let pc = byte_takes b.0.1 c.0.0 c.0.1 pb.0.bytes c.1 in
    subst (λ (p : PlainObjectKind × Left). Takes s (spelled_object_kind p.0) p.1 × IsObjectKind before p.0) (ok_is (kind_made a.0.0 b.0.0 c.0.0, c.0.1) (k, t) c.2)
    (takes_then s (cond a.0.0 1 2 ∷ []) a.0.1 (spelled_text b.0.0 ++ c.0.0 ∷ []) c.0.1 pa (takes_then a.0.1 (spelled_text b.0.0) b.0.1 (c.0.0 ∷ []) c.0.1 pb.0 pc.0), record { name_fits = pb.1; is_new = pb.2; arity_fits = pc.1 })

-- the parts of a constant, one behind the other
abbrev pub constant_parts : PlainObjectConstant → List ℕ
constant_parts c = spelled_class c.exported ++ (spelled_text c.name ++ (c.type_vars ∷ (spelled_type Two c.scheme ++ spelled_fixity c.fixity)))

pub constant_spelled : (c : PlainObjectConstant) → spelled_object_constant c ≡ constant_parts c
unfolding spelled_object_constant
constant_spelled c = four_lists (spelled_class c.exported) (spelled_text c.name) (c.type_vars ∷ spelled_type Two c.scheme) (spelled_fixity c.fixity)

abbrev ConstantTaken : List ℕ → List PlainObjectConstant → Left → PlainObjectConstant → Left → Type 0
ConstantTaken arities before s k t = Takes s (constant_parts k) t × IsObjectConstant arities before k

constant_parts_take : (arities : List ℕ) (before : List PlainObjectConstant) (s : Left) (k : PlainObjectConstant) (t : Left) → IsBytes s.rest → object_constant_at arities before s ≡ Ok (k, t) → ConstantTaken arities before s k t
unfolding object_constant_at
constant_parts_take arities before s k t h e =
    behind_that (ConstantTaken arities before s k t) (choice_at 1 2 s) (λ x. new_name_at (map object_constant_name before) x.1 >>= λ n. byte_at n.1 >>= λ v. type_at (scope Two arities v.0) v.1 >>= λ y. fixity_at y.1 >>= λ f. Ok (constant_made x.0 n.0 v.0 y.0 f.0, f.1)) (k, t) e
    (λ x i1 e1. behind_that (ConstantTaken arities before s k t) (new_name_at (map object_constant_name before) x.1) (λ n. byte_at n.1 >>= λ v. type_at (scope Two arities v.0) v.1 >>= λ y. fixity_at y.1 >>= λ f. Ok (constant_made x.0 n.0 v.0 y.0 f.0, f.1)) (k, t) e1
    (λ n i2 e2. behind_that (ConstantTaken arities before s k t) (byte_at n.1) (λ v. type_at (scope Two arities v.0) v.1 >>= λ y. fixity_at y.1 >>= λ f. Ok (constant_made x.0 n.0 v.0 y.0 f.0, f.1)) (k, t) e2
    (λ v i3 e3. behind_that (ConstantTaken arities before s k t) (type_at (scope Two arities v.0) v.1) (λ y. fixity_at y.1 >>= λ f. Ok (constant_made x.0 n.0 v.0 y.0 f.0, f.1)) (k, t) e3
    (λ y i4 e4. behind_that (ConstantTaken arities before s k t) (fixity_at y.1) (λ f. Ok (constant_made x.0 n.0 v.0 y.0 f.0, f.1)) (k, t) e4
    (λ f i5 e5.
    let tx = choice_takes 1 2 s x.0 x.1 h i1 in
    let tn = new_name_takes (map object_constant_name before) x.1 n.0 n.1 tx.bytes i2 in
    let tv = byte_takes n.1 v.0 v.1 tn.0.bytes i3 in
    let ty = type_takes (scope Two arities v.0) v.1 y.0 y.1 tv.0.bytes i4 in
    let tf = fixity_takes y.1 f.0 f.1 ty.0.bytes i5 in
    let T = spelled_type Two y.0 ++ spelled_fixity f.0 in
    let q = takes_then n.1 (v.0 ∷ []) v.1 T f.1 tv.0 (takes_then v.1 (spelled_type Two y.0) y.1 (spelled_fixity f.0) f.1 ty.0 tf.0) in
    subst (λ (z : PlainObjectConstant × Left). ConstantTaken arities before s z.0 z.1) (ok_is (constant_made x.0 n.0 v.0 y.0 f.0, f.1) (k, t) e5) (
      takes_then s (cond x.0 1 2 ∷ []) x.1 (spelled_text n.0 ++ (v.0 ∷ T)) f.1 tx (takes_then x.1 (spelled_text n.0) n.1 (v.0 ∷ T) f.1 tn.0 q),
      record { name_fits = tn.1; is_new = tn.2; type_vars_fit = tv.1; scheme_fits = ty.1; fixity_fits = tf.1 },
    ))))))

constant_takes : (arities : List ℕ) (before : List PlainObjectConstant) (s : Left) (k : PlainObjectConstant) (t : Left) → IsBytes s.rest → object_constant_at arities before s ≡ Ok (k, t) → Takes s (spelled_object_constant k) t × IsObjectConstant arities before k
constant_takes arities before s k t h e = let p = constant_parts_take arities before s k t h e in (takes_as s (constant_parts k) (spelled_object_constant k) t (sym (constant_spelled k)) p.0, p.1)

kinds_take : (s : Left) (ks : List PlainObjectKind) (t : Left) → IsBytes s.rest → object_kinds_at s ≡ Ok (ks, t) → Takes s (spelled_object_kinds ks) t × (length ks ≤ 65527) × Each IsObjectKind [] ks
unfolding object_kinds_at spelled_object_kinds
kinds_take s ks t h e =
    let a = bind_ok (count_at Two 65527 s) (λ n. each_at object_kind_at [] n.0 n.1) (ks, t) e in
    let p = count_takes Two 65527 s a.0.0 a.0.1 h a.1 in
    let q = each_takes object_kind_at spelled_object_kind IsObjectKind kind_takes a.0.0 [] a.0.1 ks t p.0.bytes a.2 in
    let text : Takes s (spelled_two (length q.0) ++ flat_map spelled_object_kind q.0) t = takes_then s (spelled_two (length q.0)) a.0.1 (flat_map spelled_object_kind q.0) t (takes_as s (spelled_two a.0.0) (spelled_two (length q.0)) a.0.1 (ap (λ m. spelled_two m) (sym q.3)) p.0) q.2 in
    subst (λ ks. Takes s (spelled_two (length ks) ++ flat_map spelled_object_kind ks) t × (length ks ≤ 65527) × Each IsObjectKind [] ks) (sym q.1) (text, omega (arith, q.3, p.2), q.4)

constants_take : (arities : List ℕ) (s : Left) (ks : List PlainObjectConstant) (t : Left) → IsBytes s.rest → object_constants_at arities s ≡ Ok (ks, t) → Takes s (spelled_object_constants ks) t × (length ks ≤ 65503) × Each (IsObjectConstant arities) [] ks
unfolding object_constants_at spelled_object_constants
constants_take arities s ks t h e =
    let a = bind_ok (count_at Two 65503 s) (λ n. each_at (object_constant_at arities) [] n.0 n.1) (ks, t) e in
    let p = count_takes Two 65503 s a.0.0 a.0.1 h a.1 in
    let q = each_takes (object_constant_at arities) spelled_object_constant (IsObjectConstant arities) (constant_takes arities) a.0.0 [] a.0.1 ks t p.0.bytes a.2 in
    let text : Takes s (spelled_two (length q.0) ++ flat_map spelled_object_constant q.0) t = takes_then s (spelled_two (length q.0)) a.0.1 (flat_map spelled_object_constant q.0) t (takes_as s (spelled_two a.0.0) (spelled_two (length q.0)) a.0.1 (ap (λ m. spelled_two m) (sym q.3)) p.0) q.2 in
    subst (λ ks. Takes s (spelled_two (length ks) ++ flat_map spelled_object_constant ks) t × (length ks ≤ 65503) × Each (IsObjectConstant arities) [] ks) (sym q.1) (text, omega (arith, q.3, p.2), q.4)

uses_take : (s : Left) (us : List (List ℕ)) (t : Left) → IsBytes s.rest → uses_at s ≡ Ok (us, t) → Takes s (spelled_uses us) t × (length us < 2 ^ 16) × AllByRecursion IsName us
unfolding uses_at spelled_uses
uses_take s us t h e =
    let a = bind_ok (two_at s) (λ n. each_at (λ before. name_at) [] n.0 n.1) (us, t) e in
    let p = two_takes s a.0.0 a.0.1 h a.1 in
    let q = all_take name_at spelled_text IsName name_takes a.0.0 a.0.1 us t p.0.bytes a.2 in
    (takes_then s (spelled_two (length us)) a.0.1 (flat_map spelled_text us) t (takes_as s (spelled_two a.0.0) (spelled_two (length us)) a.0.1 (ap (λ m. spelled_two m) (sym q.1)) p.0) q.0, omega (arith, q.1, p.1), q.2)

-- what stands behind the version of an object
abbrev pub object_parts : PlainObject → List ℕ
object_parts o = spelled_text o.name ++ (spelled_object_kinds o.kinds ++ (spelled_object_constants o.constants ++ (spelled_uses o.uses ++ spelled_records Two o.records)))

abbrev pub object_magic : List ℕ
object_magic = 76 ∷ 80 ∷ 79 ∷ 66 ∷ []

pub object_spelled : (o : PlainObject) → spelled_object o ≡ object_magic ++ (spelled_two 1 ++ object_parts o)
unfolding spelled_object
object_spelled o = seven_lists object_magic (spelled_two 1) (spelled_text o.name) (spelled_object_kinds o.kinds) (spelled_object_constants o.constants) (spelled_uses o.uses) (spelled_records Two o.records)

abbrev ObjectTaken : Left → PlainObject → Left → Type 0
ObjectTaken s o t = Takes s (object_parts o) t × IsObject o

object_takes : (s : Left) (o : PlainObject) (t : Left) → IsBytes s.rest → object_at s ≡ Ok (o, t) → ObjectTaken s o t
unfolding object_at
object_takes s o t h e =
    behind_that (ObjectTaken s o t) (name_at s) (λ n. object_kinds_at n.1 >>= λ ks. object_constants_at (map (λ k. k.arity) ks.0) ks.1 >>= λ cs. uses_at cs.1 >>= λ us. records_at Two 65535 us.1 >>= λ rs. Ok (object_made n.0 ks.0 cs.0 us.0 rs.0, rs.1)) (o, t) e
    (λ n i1 e1. behind_that (ObjectTaken s o t) (object_kinds_at n.1) (λ ks. object_constants_at (map (λ k. k.arity) ks.0) ks.1 >>= λ cs. uses_at cs.1 >>= λ us. records_at Two 65535 us.1 >>= λ rs. Ok (object_made n.0 ks.0 cs.0 us.0 rs.0, rs.1)) (o, t) e1
    (λ ks i2 e2. behind_that (ObjectTaken s o t) (object_constants_at (map (λ k. k.arity) ks.0) ks.1) (λ cs. uses_at cs.1 >>= λ us. records_at Two 65535 us.1 >>= λ rs. Ok (object_made n.0 ks.0 cs.0 us.0 rs.0, rs.1)) (o, t) e2
    (λ cs i3 e3. behind_that (ObjectTaken s o t) (uses_at cs.1) (λ us. records_at Two 65535 us.1 >>= λ rs. Ok (object_made n.0 ks.0 cs.0 us.0 rs.0, rs.1)) (o, t) e3
    (λ us i4 e4. behind_that (ObjectTaken s o t) (records_at Two 65535 us.1) (λ rs. Ok (object_made n.0 ks.0 cs.0 us.0 rs.0, rs.1)) (o, t) e4
    (λ rs i5 e5.
    let tn = name_takes s n.0 n.1 h i1 in
    let tk = kinds_take n.1 ks.0 ks.1 tn.0.bytes i2 in
    let tc = constants_take (map (λ k. k.arity) ks.0) ks.1 cs.0 cs.1 tk.0.bytes i3 in
    let tu = uses_take cs.1 us.0 us.1 tc.0.bytes i4 in
    let tr = records_take Two 65535 us.1 rs.0 rs.1 tu.0.bytes i5 in
    let U = spelled_uses us.0 ++ spelled_records Two rs.0 in
    let C = spelled_object_constants cs.0 ++ U in
    let q = takes_then ks.1 (spelled_object_constants cs.0) cs.1 U rs.1 tc.0 (takes_then cs.1 (spelled_uses us.0) us.1 (spelled_records Two rs.0) rs.1 tu.0 tr.0) in
    subst (λ (z : PlainObject × Left). ObjectTaken s z.0 z.1) (ok_is (object_made n.0 ks.0 cs.0 us.0 rs.0, rs.1) (o, t) e5) (
      takes_then s (spelled_text n.0) n.1 (spelled_object_kinds ks.0 ++ C) rs.1 tn.0 (takes_then n.1 (spelled_object_kinds ks.0) ks.1 C rs.1 tk.0 q),
      record { name_fits = tn.1; few_kinds = tk.1; kinds_fit = tk.2; few_constants = tc.1; constants_fit = tc.2; few_uses = tu.1; uses_fit = tu.2; records_fit = tr.1 },
    ))))))

-- a part, what is read behind it, and nothing else
pub whole : (s t u : Left) (x y : List ℕ) → Takes s x t → Takes t y u → u.rest ≡ [] → s.rest ≡ x ++ y
whole s t u x y p q e = (takes_then s x t y u p q).parts ∙ ap (λ r. (x ++ y) ++ r) e ∙ append-nil (x ++ y)

abbrev ObjectFound : List ℕ → PlainObject → Type 0
ObjectFound bs o = (length bs ≤ 16777216) × IsObject o × (bs ≡ object_magic ++ (spelled_two 1 ++ object_parts o))

object_parts_found : (bs : List ℕ) (o : PlainObject) → IsBytes bs → object_of bs ≡ Ok o → ObjectFound bs o
unfolding object_of
object_parts_found bs o h e =
    behind_that (ObjectFound bs o) (file_of bs) (λ f. magic_at object_magic f >>= λ m. two_at m >>= λ v. cond (eqb v.0 1) (object_at v.1) (Err (BadVersion v.0)) >>= λ o. all_read o.1 >>= λ over. Ok o.0) o e
    (λ f i1 e1. behind_that (ObjectFound bs o) (magic_at object_magic f) (λ m. two_at m >>= λ v. cond (eqb v.0 1) (object_at v.1) (Err (BadVersion v.0)) >>= λ o. all_read o.1 >>= λ over. Ok o.0) o e1
    (λ m i2 e2. behind_that (ObjectFound bs o) (two_at m) (λ v. cond (eqb v.0 1) (object_at v.1) (Err (BadVersion v.0)) >>= λ o. all_read o.1 >>= λ over. Ok o.0) o e2
    (λ v i3 e3. behind_that (ObjectFound bs o) (cond (eqb v.0 1) (object_at v.1) (Err (BadVersion v.0))) (λ o. all_read o.1 >>= λ over. Ok o.0) o e3
    (λ x i4 e4. behind_that (ObjectFound bs o) (all_read x.1) (λ over. Ok x.0) o e4
    (λ over i5 e5.
    let k = held (eqb v.0 1) (object_at v.1) (BadVersion v.0) x i4 in
    let start = file_is bs f i1 in
    let hf : IsBytes f.rest = subst (λ (s : Left). IsBytes s.rest) (sym start.0) h in
    let tm = magic_takes object_magic f m hf i2 in
    let tv = takes_as m (spelled_two v.0) (spelled_two 1) v.1 (ap (λ n. spelled_two n) (eqb-true _ _ k.0)) (two_takes m v.0 v.1 tm.bytes i3).0 in
    let tx = object_takes v.1 x.0 x.1 tv.bytes k.1 in
    let all = whole f m x.1 object_magic (spelled_two 1 ++ object_parts x.0) tm (takes_then m (spelled_two 1) v.1 (object_parts x.0) x.1 tv tx.0) (all_is_read x.1 i5) in
    subst (ObjectFound bs) (ok_is x.0 o e5) (start.1, tx.1, ap (λ (s : Left). s.rest) (sym start.0) ∙ all))))))

pub object_found : (bs : List ℕ) (o : PlainObject) → IsBytes bs → object_of bs ≡ Ok o → (length bs ≤ 16777216) × IsObject o × (bs ≡ spelled_object o)
object_found bs o h e = let p = object_parts_found bs o h e in (p.0, p.1, p.2 ∙ sym (object_spelled o))
