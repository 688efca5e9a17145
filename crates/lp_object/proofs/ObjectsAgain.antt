-- What is spelled as an object is read again.
use Rattle.std.proofs.Common.{◌≡◌, ℕ, ◌^◌, ◌<◌, ◌≤◌, cond, eqb, List, [], ◌∷◌, ◌++◌, length, map, Ok, Err, refl, sym, ap, ◌∙◌, arith}
use Rattle.std.specs.List.{flat_map, AllByRecursion}
use Rattle.std.proofs.lemmas.List.{append-nil}
use Rattle.lp_bytes.specs.declared.fault.Fault.TheVariants.{BadVersion}
use Rattle.lp_bytes.specs.Numbers.{spelled_two}
use Rattle.lp_bytes.specs.Reading.{Left, left, ◌>>=◌, byte_at, two_at, each_at, magic_at, all_read}
use Rattle.lp_bytes.proofs.Again.{Runs, bind_runs, next, byte_again, two_again, magic_again, is_over, file_again}
use Rattle.lp_object.specs.declared.width.Width.TheVariants.{Two}
use Rattle.lp_object.specs.Numbers.{spelled_text}
use Rattle.lp_object.specs.Plain.{PlainObjectKind, PlainObjectConstant, PlainObject}
use Rattle.lp_object.specs.Spelling.{spelled_type, spelled_fixity, spelled_records}
use Rattle.lp_object.specs.Files.{spelled_object_kind, spelled_object_constant, spelled_object_kinds, spelled_object_constants, spelled_uses, spelled_object}
use Rattle.lp_object.specs.Spellable.{Each, IsName, IsObjectKind, IsObjectConstant, IsObject}
use Rattle.lp_object.specs.Reading.{name_at, choice_at, count_at, records_at, new_name_at, fixity_at, scope, type_at, object_kind_name, object_kind_at, object_constant_name, object_constant_at, object_kinds_at, object_constants_at, uses_at, object_at, object_of}
use Rattle.lp_object.proofs.ObjectsFound.{kind_made, constant_made, constant_spelled, object_made, object_parts, object_magic, object_spelled}
use Rattle.lp_object.proofs.FieldsAgain.{name_again, choice_again, count_again, each_again, all_again}
use Rattle.lp_object.proofs.RecordsAgain.{records_again, new_name_again, fixity_again}
use Rattle.lp_object.proofs.TypesAgain.{type_again}

kind_again : (before : List PlainObjectKind) (k : PlainObjectKind) (s : Left) (rest : List ℕ) → IsObjectKind before k → s.rest ≡ spelled_object_kind k ++ rest → Runs (object_kind_at before s) k rest
unfolding object_kind_at spelled_object_kind
kind_again before k s rest h e =
    let A = k.arity ∷ [] in
    let names = map object_kind_name before in
    bind_runs (choice_at 1 2 s) (λ x. new_name_at names x.1 >>= λ n. byte_at n.1 >>= λ m. Ok (kind_made x.0 n.0 m.0, m.1)) k.exported ((spelled_text k.name ++ A) ++ rest) k rest (choice_again 1 2 k.exported s ((spelled_text k.name ++ A) ++ rest) refl e)
    (λ a i. bind_runs (new_name_at names a) (λ n. byte_at n.1 >>= λ m. Ok (kind_made k.exported n.0 m.0, m.1)) k.name (A ++ rest) k rest (new_name_again names k.name a (A ++ rest) h.name_fits h.is_new (next a (spelled_text k.name) A rest i))
    (λ b j. bind_runs (byte_at b) (λ m. Ok (kind_made k.exported k.name m.0, m.1)) k.arity rest k rest (byte_again k.arity b rest j) (λ c l. (c, refl, l))))

constant_again : (arities : List ℕ) (before : List PlainObjectConstant) (k : PlainObjectConstant) (s : Left) (rest : List ℕ) → IsObjectConstant arities before k → s.rest ≡ spelled_object_constant k ++ rest → Runs (object_constant_at arities before s) k rest
unfolding object_constant_at
constant_again arities before k s rest h e =
    let F = spelled_fixity k.fixity in
    let T = spelled_type Two k.scheme in
    let C = k.type_vars ∷ (T ++ F) in
    let names = map object_constant_name before in
    bind_runs (choice_at 1 2 s) (λ x. new_name_at names x.1 >>= λ n. byte_at n.1 >>= λ v. type_at (scope Two arities v.0) v.1 >>= λ y. fixity_at y.1 >>= λ f. Ok (constant_made x.0 n.0 v.0 y.0 f.0, f.1))
    k.exported ((spelled_text k.name ++ C) ++ rest) k rest (choice_again 1 2 k.exported s ((spelled_text k.name ++ C) ++ rest) refl (e ∙ ap (λ x. x ++ rest) (constant_spelled k)))
    (λ a i. bind_runs (new_name_at names a) (λ n. byte_at n.1 >>= λ v. type_at (scope Two arities v.0) v.1 >>= λ y. fixity_at y.1 >>= λ f. Ok (constant_made k.exported n.0 v.0 y.0 f.0, f.1))
    k.name (C ++ rest) k rest (new_name_again names k.name a (C ++ rest) h.name_fits h.is_new (next a (spelled_text k.name) C rest i))
    (λ b j. bind_runs (byte_at b) (λ v. type_at (scope Two arities v.0) v.1 >>= λ y. fixity_at y.1 >>= λ f. Ok (constant_made k.exported k.name v.0 y.0 f.0, f.1)) k.type_vars ((T ++ F) ++ rest) k rest (byte_again k.type_vars b ((T ++ F) ++ rest) j)
    (λ c l. bind_runs (type_at (scope Two arities k.type_vars) c) (λ y. fixity_at y.1 >>= λ f. Ok (constant_made k.exported k.name k.type_vars y.0 f.0, f.1))
    k.scheme (F ++ rest) k rest (type_again (scope Two arities k.type_vars) k.scheme c (F ++ rest) h.scheme_fits (next c T F rest l))
    (λ d m. bind_runs (fixity_at d) (λ f. Ok (constant_made k.exported k.name k.type_vars k.scheme f.0, f.1)) k.fixity rest k rest (fixity_again k.fixity d rest h.fixity_fits m) (λ f n. (f, refl, n))))))

kinds_again : (ks : List PlainObjectKind) (s : Left) (rest : List ℕ) → length ks ≤ 65527 → Each IsObjectKind [] ks → s.rest ≡ spelled_object_kinds ks ++ rest → Runs (object_kinds_at s) ks rest
unfolding object_kinds_at spelled_object_kinds
kinds_again ks s rest le h e =
    let R = flat_map spelled_object_kind ks in
    bind_runs (count_at Two 65527 s) (λ n. each_at object_kind_at [] n.0 n.1) (length ks) (R ++ rest) ks rest (count_again Two 65527 (length ks) s (R ++ rest) le (omega (arith, le)) (next s (spelled_two (length ks)) R rest e))
    (λ t i. each_again object_kind_at spelled_object_kind IsObjectKind kind_again ks [] t rest h i)

constants_again : (arities : List ℕ) (ks : List PlainObjectConstant) (s : Left) (rest : List ℕ) → length ks ≤ 65503 → Each (IsObjectConstant arities) [] ks → s.rest ≡ spelled_object_constants ks ++ rest → Runs (object_constants_at arities s) ks rest
unfolding object_constants_at spelled_object_constants
constants_again arities ks s rest le h e =
    let R = flat_map spelled_object_constant ks in
    bind_runs (count_at Two 65503 s) (λ n. each_at (object_constant_at arities) [] n.0 n.1) (length ks) (R ++ rest) ks rest (count_again Two 65503 (length ks) s (R ++ rest) le (omega (arith, le)) (next s (spelled_two (length ks)) R rest e))
    (λ t i. each_again (object_constant_at arities) spelled_object_constant (IsObjectConstant arities) (constant_again arities) ks [] t rest h i)

uses_again : (us : List (List ℕ)) (s : Left) (rest : List ℕ) → length us < 2 ^ 16 → AllByRecursion IsName us → s.rest ≡ spelled_uses us ++ rest → Runs (uses_at s) us rest
unfolding uses_at spelled_uses
uses_again us s rest lt h e =
    let R = flat_map spelled_text us in
    bind_runs (two_at s) (λ n. each_at (λ before. name_at) [] n.0 n.1) (length us) (R ++ rest) us rest (two_again (length us) s (R ++ rest) lt (next s (spelled_two (length us)) R rest e))
    (λ t i. all_again name_at spelled_text IsName (λ x u v f j. name_again x u v f.0 f.1 j) us t rest h i)

object_again : (o : PlainObject) (s : Left) (rest : List ℕ) → IsObject o → s.rest ≡ object_parts o ++ rest → Runs (object_at s) o rest
unfolding object_at
object_again o s rest h e =
    let R = spelled_records Two o.records in
    let U = spelled_uses o.uses ++ R in
    let C = spelled_object_constants o.constants ++ U in
    let K = spelled_object_kinds o.kinds ++ C in
    let arities = map (λ k. k.arity) o.kinds in
    bind_runs (name_at s) (λ n. object_kinds_at n.1 >>= λ ks. object_constants_at (map (λ k. k.arity) ks.0) ks.1 >>= λ cs. uses_at cs.1 >>= λ us. records_at Two 65535 us.1 >>= λ rs. Ok (object_made n.0 ks.0 cs.0 us.0 rs.0, rs.1))
    o.name (K ++ rest) o rest (name_again o.name s (K ++ rest) h.name_fits.0 h.name_fits.1 (next s (spelled_text o.name) K rest e))
    (λ a i. bind_runs (object_kinds_at a) (λ ks. object_constants_at (map (λ k. k.arity) ks.0) ks.1 >>= λ cs. uses_at cs.1 >>= λ us. records_at Two 65535 us.1 >>= λ rs. Ok (object_made o.name ks.0 cs.0 us.0 rs.0, rs.1))
    o.kinds (C ++ rest) o rest (kinds_again o.kinds a (C ++ rest) h.few_kinds h.kinds_fit (next a (spelled_object_kinds o.kinds) C rest i))
    (λ b j. bind_runs (object_constants_at arities b) (λ cs. uses_at cs.1 >>= λ us. records_at Two 65535 us.1 >>= λ rs. Ok (object_made o.name o.kinds cs.0 us.0 rs.0, rs.1))
    o.constants (U ++ rest) o rest (constants_again arities o.constants b (U ++ rest) h.few_constants h.constants_fit (next b (spelled_object_constants o.constants) U rest j))
    (λ c k. bind_runs (uses_at c) (λ us. records_at Two 65535 us.1 >>= λ rs. Ok (object_made o.name o.kinds o.constants us.0 rs.0, rs.1)) o.uses (R ++ rest) o rest (uses_again o.uses c (R ++ rest) h.few_uses h.uses_fit (next c (spelled_uses o.uses) R rest k))
    (λ d l. bind_runs (records_at Two 65535 d) (λ rs. Ok (object_made o.name o.kinds o.constants o.uses rs.0, rs.1)) o.records rest o rest (records_again Two 65535 o.records d rest (omega arith) h.records_fit l) (λ f m. (f, refl, m))))))

pub object_only : (bs : List ℕ) (o : PlainObject) → length bs ≤ 16777216 → IsObject o → bs ≡ spelled_object o → object_of bs ≡ Ok o
unfolding object_of
object_only bs o le h e =
    let P = object_parts o in
    let M = object_magic in
    let m = magic_again M (left 0 bs) (spelled_two 1 ++ P) refl (e ∙ object_spelled o) in
    let v = two_again 1 m.0 P (omega arith) m.2 in
    let b = object_again o v.0 [] h (v.2 ∙ sym (append-nil P)) in
    ap (λ r. r >>= λ f. magic_at M f >>= λ m. two_at m >>= λ v. cond (eqb v.0 1) (object_at v.1) (Err (BadVersion v.0)) >>= λ o. all_read o.1 >>= λ over. Ok o.0) (file_again bs le)
    ∙ ap (λ r. r >>= λ m. two_at m >>= λ v. cond (eqb v.0 1) (object_at v.1) (Err (BadVersion v.0)) >>= λ o. all_read o.1 >>= λ over. Ok o.0) m.1
    ∙ ap (λ r. r >>= λ v. cond (eqb v.0 1) (object_at v.1) (Err (BadVersion v.0)) >>= λ o. all_read o.1 >>= λ over. Ok o.0) v.1
    ∙ ap (λ r. r >>= λ o. all_read o.1 >>= λ over. Ok o.0) b.1 ∙ ap (λ r. r >>= λ over. Ok o) (is_over b.0 b.2)
