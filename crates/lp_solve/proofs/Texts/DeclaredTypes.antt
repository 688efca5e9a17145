-- Of the program of texts there is a map of declared types: its own table.
use Rattle.std.proofs.Common.{◌≡◌, ℕ, ◌+◌, ◌-◌, List, [], ◌∷◌, ◌++◌, length, map, take, Some, refl, sym, ap, subst, ◌∙◌, arith, inl, inr}
use Rattle.std.specs.Prelude.{◌⊎◌, if◌then◌else◌, slice_get, string_bytes}
use Rattle.std.proofs.lemmas.Bool.{lt-ltb}
use Rattle.std.proofs.lemmas.List.{length-append, length-map}
use Rattle.std.proofs.lemmas.Option.{same_Some, slice_get_within, get_or_from_slice_get, slice_get_read}
use Rattle.lp_standard.specs.Schemes.{IsStandard, entry, standard_schemes}
use Rattle.lp_standard.specs.Constants.{first_declared}
use Rattle.lp_term.specs.Nodes.{Nodes}
use Rattle.lp_model.specs.Proofs.{Declared}
use Rattle.lp_model.specs.Readings.{scheme_of, declared_by}
use Rattle.lp_model.specs.declared.program.Declared as code
use Rattle.lp_sig.specs.Modules.{HasOwnFirst}
use Rattle.lp_sig.specs.Named.{SeesAlike, HasNamed, named_in}
use Rattle.lp_sig.specs.Rows.{kind_row}
use Rattle.lp_sig.specs.Same.{typed_row, AreSameSignatures}
use Rattle.lp_sig.specs.declared.entries.ConstantEntry.{ConstantEntry}
use Rattle.lp_sig.specs.declared.entries.KindEntry.{KindEntry}
use Rattle.lp_sig.specs.declared.signature.Signature.{Signature}
use Rattle.lp_sig.proofs.OwnNames.{own_first}
use Rattle.lp_module.specs.Joined.{AreJoined}
use Rattle.lp_module.specs.Orderly.{IsOrderly}
use Rattle.lp_module.specs.declared.module.Module.{Module}
use Rattle.lp_module.proofs.Joining.{program_declares}
use Rattle.lp_module.proofs.Joins.{same_entry}
use Rattle.lp_build.specs.Meant.{AreModules, IsSignatureOf, IsModuleAt, AreModulesAt, no_module, one_module}
use Rattle.lp_build.specs.Reads.{AreRead}
use Rattle.lp_build.specs.Sights.{signature_of}
use Rattle.lp_build.specs.declared.build.Built.{Built}
use Rattle.lp_build.specs.declared.sources.Sources.{Sources}
use Rattle.lp_load.specs.Loaded.{IsBuiltFrom}
use Rattle.lp_solve.specs.Schemes.{DeclaresSeen}
use Rattle.lp_solve.specs.Sources.{HasTypes}
use Rattle.lp_build.proofs.Joined.{get_at, last_or, apart, ordered, same_signature, modules_joined}
use Rattle.lp_solve.proofs.Texts.Queried.{queries_declared, queries_placed}

-- the table has the types of the language
table_standard : (b : Nodes) (ds : List code.Declared) → IsStandard (declared_by b ds)
table_standard b ds = record { at = λ c l. ap (λ t. if t then entry standard_schemes c else entry (map (λ x. Some (scheme_of b x)) ds) (c - first_declared)) (lt-ltb c first_declared l) }

-- the last module is that of the first text
last_same : {A : Type 0} (xs ys : List A) (x y : A) → xs ++ x ∷ [] ≡ ys ++ y ∷ [] → x ≡ y
last_same [] [] x y e = cc
last_same [] (z ∷ []) x y e = absurd (cc)
last_same [] (z ∷ w ∷ ws) x y e = absurd (cc)
last_same (z ∷ []) [] x y e = absurd (cc)
last_same (z ∷ w ∷ ws) [] x y e = absurd (cc)
last_same (z ∷ zs) (w ∷ ws) x y e = let f : zs ++ x ∷ [] ≡ ws ++ y ∷ [] = cc in last_same zs ws x y f

module _ {sources : Sources} {every : List Module} (are : AreModules sources every) where
  last_module : (ps before : List ℕ) (ms : List Module) (root : ℕ) (m : Module) →
      AreModulesAt sources.files.items are.signatures are.texts ps ms → ps ≡ before ++ 0 ∷ [] → root + 1 ≡ length ms → slice_get ms root ≡ Some m → IsModuleAt sources.files.items are.signatures are.texts 0 m
  last_module ps before ms root m no_module e n at = absurd (cc)
  last_module ps before ms root m (one_module qs _ ns _ p last earlier is e f) first n at =
      let zero_is : p ≡ 0 = last_same qs before p 0 (sym e ∙ first) in
      let l = ap length f ∙ length-append ns (last ∷ []) in
      by zero_is (last_or ns last m root (ap (λ l. slice_get l root) (sym f) ∙ at)) (omega (arith, n, l))
    where
      by : p ≡ 0 → (slice_get ns root ≡ Some m) ⊎ ((root ≡ length ns) × (last ≡ m)) → root ≡ length ns → IsModuleAt sources.files.items are.signatures are.texts 0 m
      by z (inl h) same = let low = slice_get_within ns root m h in absurd (omega (arith, low, same))
      by z (inr h) same = subst (λ p. IsModuleAt sources.files.items are.signatures are.texts p m) z (subst (IsModuleAt sources.files.items are.signatures are.texts p) h.1 is)

-- two signatures that say the same
kind_names_same : (es fs : List KindEntry) → map kind_row es ≡ map kind_row fs → map (λ e. e.name.items) es ≡ map (λ e. e.name.items) fs
kind_names_same [] [] e = refl
kind_names_same [] (f ∷ fs) e = absurd (cc)
kind_names_same (x ∷ xs) [] e = absurd (cc)
kind_names_same (x ∷ xs) (f ∷ fs) e =
    let row : kind_row x ≡ kind_row f = cc in
    let h = ap (λ z. z.0) row in
    let t : map kind_row xs ≡ map kind_row fs = cc in
    let rest = kind_names_same xs fs t in
    λ i. h i ∷ rest i

constant_names_same : (b c : Nodes) (es fs : List ConstantEntry) → map (typed_row b) es ≡ map (typed_row c) fs → map (λ e. e.name.items) es ≡ map (λ e. e.name.items) fs
constant_names_same b c [] [] e = refl
constant_names_same b c [] (f ∷ fs) e = absurd (cc)
constant_names_same b c (x ∷ xs) [] e = absurd (cc)
constant_names_same b c (x ∷ xs) (f ∷ fs) e =
    let row : typed_row b x ≡ typed_row c f = cc in
    let h = ap (λ z. z.0) row in
    let t : map (typed_row b) xs ≡ map (typed_row c) fs = cc in
    let rest = constant_names_same b c xs fs t in
    λ i. h i ∷ rest i

same_first : (u own s : Signature) → AreSameSignatures u own → HasOwnFirst u s → HasOwnFirst own s
same_first u own s same first =
    let ks = kind_names_same u.kinds.items own.kinds.items same.kinds in
    let cs = constant_names_same u.bank own.bank u.constants.items own.constants.items same.constants in
    record {
      kinds = ap (λ n. take n (map (λ e. e.name.items) s.kinds.items)) (sym (length-map own.kinds.items (λ e. e.name.items)) ∙ ap length (sym ks) ∙
          length-map u.kinds.items (λ e. e.name.items)) ∙ first.kinds ∙ ks;
      constants = ap (λ n. take n (map (λ e. e.name.items) s.constants.items)) (sym (length-map own.constants.items (λ e. e.name.items)) ∙ ap length
          (sym cs) ∙ length-map u.constants.items (λ e. e.name.items)) ∙ first.constants ∙ cs;
    }

same_seen : (u own s : Signature) → AreSameSignatures u own → SeesAlike u s → SeesAlike own s
same_seen u own s same seen e (i, l, is) =
    let at = slice_get_read own.constants.items (length own.constants.items) i e refl l (sym is) in
    let (y, at_y, name, count, type) = same_entry u own same i e at in
    let h = seen y (i, slice_get_within u.constants.items i y at_y, get_or_from_slice_get u.constants.items i y y at_y) in
    subst (λ t. HasNamed s e.name.items e.type_vars t) type (subst (λ n. HasNamed s e.name.items n (named_in u y.scheme)) count (subst (λ w. HasNamed s w y.type_vars (named_in u y.scheme)) name h))

-- what the program of texts declares: types of all copies and of what queries see, whose constants have their numbers by their places
pub record HasDeclared {sources : Sources} {built : Built} (p : IsBuiltFrom sources built) : Type 0 where
  pub types : Declared
  pub are : HasTypes p types
  pub joined : AreJoined p.is.modules
  pub placed : (i : ℕ) (e : ConstantEntry) → slice_get built.signature.constants.items i ≡ Some e → e.number ≡ 32 + i

pub declared_types : (sources : Sources) (built : Built) (p : IsBuiltFrom sources built) → AreRead sources → HasDeclared p
declared_types sources built p read =
    let first = p.first in
    let is = p.is in
    let files = sources.files.items in
    let modules = is.modules in
    let a = first.assembled in
    let program = is.program.program in
    let j = modules_joined sources modules read is.are in
    let top = program.are.top in
    let m = last_module is.are is.are.meanings.order is.are.meanings.before modules is.program.root top
    is.are.meanings.meanings is.are.meanings.last is.program.last program.are.at in
    let name : string_bytes m.name ≡ string_bytes is.name = ap string_bytes (same_Some m.name is.name
    (sym (get_at is.are.texts.names.items 0 m.name m.at_name) ∙ get_at is.are.texts.names.items 0 is.name is.first)) in
    let number : m.own_is.number ≡ is.own_is.number = same_Some m.own_is.number is.own_is.number (sym m.own_is.first ∙ ap (signature_of files) name ∙ is.own_is.first) in
    let same : AreSameSignatures m.own is.own = same_signature files is.are.signatures is.are.signature_texts is.own_is.number m.own is.own
    (subst (λ n. IsSignatureOf is.are.signatures n m.own) number m.own_is.is) is.own_is.is in
    let own_apart = apart is.are.signatures m.own_is.number m.own m.own_is.is in
    let own_ordered = ordered is.are.signatures m.own_is.number m.own m.own_is.is in
    let counts_kinds = sym (length-map m.own.kinds.items (λ e. e.name.items)) ∙ ap length
    (kind_names_same m.own.kinds.items is.own.kinds.items same.kinds) ∙ length-map is.own.kinds.items (λ e. e.name.items) in
    let counts_constants = sym (length-map m.own.constants.items (λ e. e.name.items)) ∙ ap length
    (constant_names_same m.own.bank is.own.bank m.own.constants.items is.own.constants.items same.constants) ∙ length-map is.own.constants.items
    (λ e. e.name.items) in
    let d = declared_by a.program.bank a.program.constants.items in
    let is_apart = apart is.are.signatures is.own_is.number is.own is.own_is.is in
    let is_ordered = ordered is.are.signatures is.own_is.number is.own is.own_is.is in
    let its_first = same_first m.own is.own top.signature same (own_first m.own m.used m.source.items m.text.lines.items top.signature own_apart m.meaning.names) in
    let its_types = same_seen m.own is.own top.signature same (m.meaning.theirs.own_ones own_apart own_ordered) in
    let orderly : IsOrderly top = record {
      exported_kinds = length m.own.kinds.items;
      exported_constants = length m.own.constants.items;
      kinds = m.meaning.hidden_kinds;
      constants = m.meaning.hidden_constants;
    } in
    let queries : DeclaresSeen d first.signature = queries_declared modules is.program.root a program j is.own first.signature is.program.seen is_apart is_ordered its_first its_types
    orderly counts_kinds counts_constants in
    let placed = queries_placed modules is.program.root a program j is.own first.signature is.program.seen is_apart is_ordered its_first its_types orderly counts_kinds counts_constants in
    record {
      types = d;
      are = record {
        standard = table_standard a.program.bank a.program.constants.items;
        copies = program_declares modules is.program.root a program j;
        queries = subst (DeclaresSeen d) (sym p.grown.signature) queries;
      };
      joined = j;
      placed = subst (λ (s : Signature). (i : ℕ) (e : ConstantEntry) → slice_get s.constants.items i ≡ Some e → e.number ≡ 32 + i) (sym p.grown.signature) placed;
    }
