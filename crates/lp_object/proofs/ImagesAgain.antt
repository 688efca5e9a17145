-- What is spelled as an image is read again.
use Rattle.std.proofs.Common.{◌≡◌, ℕ, ◌≤◌, cond, List, [], ◌∷◌, ◌++◌, length, map, Ok, Err, refl, sym, ap, ◌∙◌, arith, inl, inr}
use Rattle.std.specs.Str.{bytes_eq}
use Rattle.std.specs.List.{flat_map}
use Rattle.std.proofs.lemmas.List.{append-nil}
use Rattle.lp_lemmas.proofs.Booleans.{bytes_eq_self}
use Rattle.lp_bytes.specs.declared.fault.Fault.TheVariants.{BadField}
use Rattle.lp_bytes.specs.Numbers.{spelled_two}
use Rattle.lp_bytes.specs.Reading.{Left, left, ◌>>=◌, byte_at, two_at, each_at, magic_at, all_read}
use Rattle.lp_bytes.proofs.Again.{Runs, bind_runs, next, field_again, byte_again, two_again, magic_again, is_over, file_again}
use Rattle.lp_object.specs.declared.width.Width.{Width}
use Rattle.lp_object.specs.declared.width.Width.TheVariants.{Two, Four}
use Rattle.lp_object.specs.Numbers.{spelled_number, spelled_text}
use Rattle.lp_object.specs.Plain.{PlainImageKind, PlainImageConstant, PlainImage}
use Rattle.lp_object.specs.Spelling.{spelled_type, spelled_fixity, spelled_records}
use Rattle.lp_object.specs.Tables.{spelled_tables, table_fields}
use Rattle.lp_object.specs.Files.{spelled_image_kind, spelled_image_constant, spelled_image_kinds, spelled_image_constants, spelled_parts, spelled_image_1, spelled_image}
use Rattle.lp_object.specs.Spellable.{IsNumber, Each, IsImageKind, IsImageConstant, IsImage, SpellsImage}
use Rattle.lp_object.specs.Reading.{name_at, count_at, records_at, new_global_at, fixity_at, scope, type_at, image_kind_name, image_kind_at, image_constant_name, image_constant_at, image_kinds_at, image_constants_at, image_at, expected_at, all_expected_at, tables_at, version_at, image_of}
use Rattle.lp_object.proofs.ImagesFound.{image_kind_made, image_constant_made, image_constant_spelled, image_made, image_spelled, image_magic, table_fields_are}
use Rattle.lp_object.proofs.FieldsAgain.{name_again, count_again, each_again}
use Rattle.lp_object.proofs.RecordsAgain.{records_again, new_global_again, fixity_again}
use Rattle.lp_object.proofs.TypesAgain.{type_again}

kind_again : (before : List PlainImageKind) (k : PlainImageKind) (s : Left) (rest : List ℕ) → IsImageKind before k → s.rest ≡ spelled_image_kind k ++ rest → Runs (image_kind_at before s) k rest
unfolding image_kind_at spelled_image_kind
kind_again before k s rest h e =
    let A = k.arity ∷ [] in
    let N = spelled_text k.name ++ spelled_two k.hidden in
    let names = map image_kind_name before in
    let front : s.rest ≡ N ++ (A ++ rest) = next s N A rest e in
    bind_runs (new_global_at names s) (λ n. byte_at n.1 >>= λ m. Ok (image_kind_made n.0.0 n.0.1 m.0, m.1)) (k.name, k.hidden) (A ++ rest) k rest (new_global_again names (k.name, k.hidden) s (A ++ rest) h.name_fits h.hidden_fits h.is_new front)
    (λ b j. bind_runs (byte_at b) (λ m. Ok (image_kind_made k.name k.hidden m.0, m.1)) k.arity rest k rest (byte_again k.arity b rest j) (λ c l. (c, refl, l)))

constant_again : (w : Width) (arities : List ℕ) (before : List PlainImageConstant) (k : PlainImageConstant) (s : Left) (rest : List ℕ) → IsImageConstant w arities before k → s.rest ≡ spelled_image_constant w k ++ rest → Runs (image_constant_at w arities before s) k rest
unfolding image_constant_at
constant_again w arities before k s rest h e =
    let F = spelled_fixity k.fixity in
    let T = spelled_type w k.scheme in
    let C = k.type_vars ∷ (T ++ F) in
    let N = spelled_text k.name ++ spelled_two k.hidden in
    let names = map image_constant_name before in
    let front : s.rest ≡ N ++ (C ++ rest) = next s N C rest (e ∙ ap (λ x. x ++ rest) (image_constant_spelled w k)) in
    bind_runs (new_global_at names s) (λ n. byte_at n.1 >>= λ v. type_at (scope w arities v.0) v.1 >>= λ y. fixity_at y.1 >>= λ f. Ok (image_constant_made n.0.0 n.0.1 v.0 y.0 f.0, f.1))
    (k.name, k.hidden) (C ++ rest) k rest (new_global_again names (k.name, k.hidden) s (C ++ rest) h.name_fits h.hidden_fits h.is_new front)
    (λ b j. bind_runs (byte_at b) (λ v. type_at (scope w arities v.0) v.1 >>= λ y. fixity_at y.1 >>= λ f. Ok (image_constant_made k.name k.hidden v.0 y.0 f.0, f.1)) k.type_vars ((T ++ F) ++ rest) k rest (byte_again k.type_vars b ((T ++ F) ++ rest) j)
    (λ c l. bind_runs (type_at (scope w arities k.type_vars) c) (λ y. fixity_at y.1 >>= λ f. Ok (image_constant_made k.name k.hidden k.type_vars y.0 f.0, f.1))
    k.scheme (F ++ rest) k rest (type_again (scope w arities k.type_vars) k.scheme c (F ++ rest) h.scheme_fits (next c T F rest l))
    (λ d m. bind_runs (fixity_at d) (λ f. Ok (image_constant_made k.name k.hidden k.type_vars k.scheme f.0, f.1)) k.fixity rest k rest (fixity_again k.fixity d rest h.fixity_fits m) (λ f n. (f, refl, n)))))

kinds_again : (w : Width) (ks : List PlainImageKind) (s : Left) (rest : List ℕ) → length ks ≤ 1048568 → IsNumber w (length ks) → Each IsImageKind [] ks → s.rest ≡ spelled_image_kinds w ks ++ rest → Runs (image_kinds_at w s) ks rest
unfolding image_kinds_at spelled_image_kinds
kinds_again w ks s rest le n h e =
    let R = flat_map spelled_image_kind ks in
    bind_runs (count_at w 1048568 s) (λ n. each_at image_kind_at [] n.0 n.1) (length ks) (R ++ rest) ks rest (count_again w 1048568 (length ks) s (R ++ rest) le n (next s (spelled_number w (length ks)) R rest e))
    (λ t i. each_again image_kind_at spelled_image_kind IsImageKind kind_again ks [] t rest h i)

constants_again : (w : Width) (arities : List ℕ) (ks : List PlainImageConstant) (s : Left) (rest : List ℕ) → length ks ≤ 1048544 → IsNumber w (length ks) → Each (IsImageConstant w arities) [] ks → s.rest ≡ spelled_image_constants w ks ++ rest
    → Runs (image_constants_at w arities s) ks rest
unfolding image_constants_at spelled_image_constants
constants_again w arities ks s rest le n h e =
    let R = flat_map (spelled_image_constant w) ks in
    bind_runs (count_at w 1048544 s) (λ n. each_at (image_constant_at w arities) [] n.0 n.1) (length ks) (R ++ rest) ks rest (count_again w 1048544 (length ks) s (R ++ rest) le n (next s (spelled_number w (length ks)) R rest e))
    (λ t i. each_again (image_constant_at w arities) (spelled_image_constant w) (IsImageConstant w arities) (constant_again w arities) ks [] t rest h i)

image_again : (w : Width) (i : PlainImage) (s : Left) (rest : List ℕ) → IsImage w i → s.rest ≡ spelled_parts w i ++ rest → Runs (image_at w s) i rest
unfolding image_at
image_again w i s rest h e =
    let R = spelled_records w i.records in
    let C = spelled_image_constants w i.constants ++ R in
    let K = spelled_image_kinds w i.kinds ++ C in
    let arities = map (λ k. k.arity) i.kinds in
    bind_runs (name_at s) (λ n. image_kinds_at w n.1 >>= λ ks. image_constants_at w (map (λ k. k.arity) ks.0) ks.1 >>= λ cs. records_at w 4294967295 cs.1 >>= λ rs. Ok (image_made n.0 ks.0 cs.0 rs.0, rs.1))
    i.name (K ++ rest) i rest (name_again i.name s (K ++ rest) h.name_fits.0 h.name_fits.1 (next s (spelled_text i.name) K rest (e ∙ ap (λ x. x ++ rest) (image_spelled w i))))
    (λ a j. bind_runs (image_kinds_at w a) (λ ks. image_constants_at w (map (λ k. k.arity) ks.0) ks.1 >>= λ cs. records_at w 4294967295 cs.1 >>= λ rs. Ok (image_made i.name ks.0 cs.0 rs.0, rs.1))
    i.kinds (C ++ rest) i rest (kinds_again w i.kinds a (C ++ rest) h.few_kinds h.kinds_fit_count h.kinds_fit (next a (spelled_image_kinds w i.kinds) C rest j))
    (λ b k. bind_runs (image_constants_at w arities b) (λ cs. records_at w 4294967295 cs.1 >>= λ rs. Ok (image_made i.name i.kinds cs.0 rs.0, rs.1))
    i.constants (R ++ rest) i rest (constants_again w arities i.constants b (R ++ rest) h.few_constants h.constants_fit_count h.constants_fit (next b (spelled_image_constants w i.constants) R rest k))
    (λ d l. bind_runs (records_at w 4294967295 d) (λ rs. Ok (image_made i.name i.kinds i.constants rs.0, rs.1)) i.records rest i rest (records_again w 4294967295 i.records d rest (omega arith) h.records_fit l) (λ f m. (f, refl, m)))))

expected_again : (fs : List (List ℕ)) (s : Left) (rest : List ℕ) → s.rest ≡ flat_map (λ f. f) fs ++ rest → (t : Left) × (all_expected_at fs s ≡ Ok t) × (t.rest ≡ rest)
unfolding all_expected_at expected_at
expected_again [] s rest e = (s, refl, e)
expected_again (f ∷ fs) s rest e =
    let R = flat_map (λ f. f) fs in
    let p = field_again f (length f) s (R ++ rest) refl (next s f R rest e) in
    let one : expected_at f s ≡ Ok p.0 = ap (λ r. r >>= λ x. cond (bytes_eq x.0 f) (Ok x.1) (Err (BadField s.at))) p.1 ∙ ap (λ b. cond b (Ok p.0) (Err (BadField s.at))) (bytes_eq_self f) in
    let q = expected_again fs p.0 rest p.2 in
    (q.0, ap (λ r. r >>= all_expected_at fs) one ∙ q.1, q.2)

image_1_only : (bs : List ℕ) (i : PlainImage) → length bs ≤ 16777216 → IsImage Two i → bs ≡ spelled_image_1 i → image_of bs ≡ Ok i
unfolding image_of spelled_image_1
image_1_only bs i le h e =
    let P = spelled_parts Two i in
    let M = image_magic in
    let m = magic_again M (left 0 bs) (spelled_two 1 ++ P) refl e in
    let v = two_again 1 m.0 P (omega arith) m.2 in
    let b = image_again Two i v.0 [] h (v.2 ∙ sym (append-nil P)) in
    ap (λ r. r >>= λ f. magic_at M f >>= λ m. two_at m >>= λ v. version_at v.0 v.1 >>= λ i. all_read i.1 >>= λ over. Ok i.0) (file_again bs le)
    ∙ ap (λ r. r >>= λ m. two_at m >>= λ v. version_at v.0 v.1 >>= λ i. all_read i.1 >>= λ over. Ok i.0) m.1
    ∙ ap (λ r. r >>= λ v. version_at v.0 v.1 >>= λ i. all_read i.1 >>= λ over. Ok i.0) v.1
    ∙ ap (λ r. r >>= λ i. all_read i.1 >>= λ over. Ok i.0) b.1 ∙ ap (λ r. r >>= λ over. Ok i) (is_over b.0 b.2)

image_2_only : (bs : List ℕ) (i : PlainImage) → length bs ≤ 16777216 → IsImage Four i → bs ≡ spelled_image i → image_of bs ≡ Ok i
unfolding image_of spelled_image
image_2_only bs i le h e =
    let P = spelled_parts Four i in
    let T = spelled_tables i.records in
    let M = image_magic in
    let m = magic_again M (left 0 bs) (spelled_two 2 ++ (P ++ T)) refl e in
    let v = two_again 2 m.0 (P ++ T) (omega arith) m.2 in
    let b = image_again Four i v.0 T h v.2 in
    let t = expected_again (table_fields i.records) b.0 [] (b.2 ∙ sym (table_fields_are i.records) ∙ sym (append-nil (flat_map (λ f. f) (table_fields i.records)))) in
    let both : version_at 2 v.0 ≡ Ok (i, t.0) = ap (λ r. r >>= λ j. tables_at j.0 j.1) b.1 ∙ ap (λ r. r >>= λ u. Ok (i, u)) t.1 in
    ap (λ r. r >>= λ f. magic_at M f >>= λ m. two_at m >>= λ v. version_at v.0 v.1 >>= λ i. all_read i.1 >>= λ over. Ok i.0) (file_again bs le)
    ∙ ap (λ r. r >>= λ m. two_at m >>= λ v. version_at v.0 v.1 >>= λ i. all_read i.1 >>= λ over. Ok i.0) m.1
    ∙ ap (λ r. r >>= λ v. version_at v.0 v.1 >>= λ i. all_read i.1 >>= λ over. Ok i.0) v.1
    ∙ ap (λ r. r >>= λ i. all_read i.1 >>= λ over. Ok i.0) both ∙ ap (λ r. r >>= λ over. Ok i) (is_over t.0 t.2)

pub image_only : (bs : List ℕ) (i : PlainImage) → length bs ≤ 16777216 → SpellsImage i bs → image_of bs ≡ Ok i
image_only bs i le (inl h) = image_1_only bs i le h.0 h.1
image_only bs i le (inr h) = image_2_only bs i le h.0 h.1
