-- An image with the tables and records of a root's copies denotes their clauses.
use Rattle.std.proofs.Common.{◌≡◌, ◌∙◌, ◌+◌, ◌-◌, ◌<◌, ◌≤◌, ◌^◌, ℕ, zero, suc, Bool, true, false, if◌then◌else◌, List, [], ◌∷◌, ◌++◌, length, map, Some, ap, refl, sym, subst, arith}
use Rattle.std.specs.Prelude.{nat_lt, slice_get, slice_index_or, option_map}
use Rattle.std.proofs.lemmas.Bool.{le-ltb}
use Rattle.std.proofs.lemmas.List.{length-append}
use Rattle.lp_lemmas.specs.Each.{EachOf}
use Rattle.lp_calculus.specs.Types.{Ty, Tys, var, param as type_param, con, arrow, no_types, types}
use Rattle.lp_calculus.specs.Typing.{Scheme}
use Rattle.lp_standard.specs.declared.constant.Constant.{Constant}
use Rattle.lp_standard.specs.declared.constant.Constant.TheVariants as on
use Rattle.lp_standard.specs.Constants.{language}
use Rattle.lp_standard.specs.Kinds.{arity, numbered}
use Rattle.lp_standard.specs.Schemes.{scheme, standard_schemes, entry}
use Rattle.lp_term.specs.Mapped.{mapped_type, mapped_types}
use Rattle.lp_model.specs.Flat.{Clause}
use Rattle.lp_code.specs.declared.instruction.Instr.{Instr}
use Rattle.lp_code.specs.declared.record.Record.{Record}
use Rattle.lp_code.specs.declared.object.Object.{Object}
use Rattle.lp_code.specs.declared.image.Image.{Image}
use Rattle.lp_code.specs.declared.image.ImageConstant.{ImageConstant}
use Rattle.lp_code.specs.Symbolic.{Tables}
use Rattle.lp_code.specs.Rules.{names_of, names_in}
use Rattle.lp_code.specs.Denote.{denote}
use Rattle.lp_code.specs.Naming.{scheme_in, tables_of, object_tables, image_tables}
use Rattle.lp_link.specs.declared.image.Making.{Making}
use Rattle.lp_link.specs.Uses.{uses_of}
use Rattle.lp_link.specs.Ends.{kind_counts, constant_counts}
use Rattle.lp_link.specs.Numbers.{renumbered}
use Rattle.lp_link.specs.Refusals.{CanBeLinked}
use Rattle.lp_link.specs.Renumbering.{AreMoved, KeepsStandard, moved_scheme}
use Rattle.lp_link.specs.Linked.{Copy, Ends, map_of, records_of, AreDenoted, IsLinked, first_ends}
use Rattle.lp_link.specs.Put.{ArePut}
use Rattle.lp_link.specs.inner.Parts.{AllHaveRoom}
use Rattle.lp_link.specs.Names.{IsNamed, kind_row, constant_row, schemes_of, moved_schemes}
use Rattle.lp_link.specs.inner.Tabled.{arities_of, all_arities, all_schemes, made_arities, made_schemes, AreRecords, AreTabled, IsMade}
use Rattle.lp_link.specs.inner.Named.{rows_of_kinds, rows_of_constants}
use Rattle.lp_link.specs.inner.ToldNames.{IsTold}
use Rattle.lp_link.specs.inner.Entering.{AreFirst, AreFew, IsPlan}
use Rattle.lp_link.proofs.ToldNames.{told_at, big_at, behind_table}
use Rattle.lp_link.proofs.TabledCopies.{read_kind, read_constant}
use Rattle.lp_link.proofs.EnteredCopies.{each_parts, copies_planned}
use Rattle.lp_link.proofs.ReachedRecords.{all_names, all_below}
use Rattle.lp_link.proofs.LinkedCode.{linked_denotes}

-- the records that a copy's records name have numbers
module _ (n b : ℕ) (few : n + b ≤ 4294967296) where
  room_here : (ks : List ℕ) → EachOf (λ k. k < b) ks → EachOf (λ r. n + r < 2 ^ 32) ks
  room_here [] h = tt
  room_here (k ∷ ks) h = (let l = h.0 in omega (arith, l, few), room_here ks h.1)

  room_code : (is : List Instr) → EachOf (λ k. k < b) (names_in is) → AllHaveRoom n is
  room_code [] h = tt
  room_code (i ∷ is) h = let parts = each_parts (λ k. k < b) (names_of i) (names_in is) h in (room_here (names_of i) parts.0, room_code is parts.1)

  pub room_records : (rs : List Record) → EachOf (λ k. k < b) (all_names rs) → EachOf (λ (r : Record). AllHaveRoom n r.code.items) rs
  room_records [] h = tt
  room_records (r ∷ rs) h = let parts = each_parts (λ k. k < b) (names_in r.code.items) (all_names rs) h in (room_code r.code.items parts.0, room_records rs parts.1)

-- a type is changed alike whatever becomes of logic variables
mutual
  type_alike : (n : ℕ) (c : Copy) (T : Ty) → mapped_type (map_of n c) T ≡ mapped_type (map_of 0 c) T
  type_alike n c (var i) = refl
  type_alike n c (type_param k) = refl
  type_alike n c (con k ts) = ap (con (renumbered 8 c.kinds k)) (types_alike n c ts)
  type_alike n c (arrow a b) = let x = type_alike n c a in let y = type_alike n c b in λ i. arrow (x i) (y i)

  types_alike : (n : ℕ) (c : Copy) (ts : Tys) → mapped_types (map_of n c) ts ≡ mapped_types (map_of 0 c) ts
  types_alike n c no_types = refl
  types_alike n c (types t ts) = let x = type_alike n c t in let y = types_alike n c ts in λ i. types (x i) (y i)

scheme_alike : (n : ℕ) (c : Copy) (s : Scheme) → moved_scheme (map_of n c) s ≡ moved_scheme (map_of 0 c) s
scheme_alike n c s = let e = type_alike n c s.body in λ i. record { count = s.count; body = e i }

-- the types of the language stay
scheme_stays : (n : ℕ) (c : Copy) (k : Constant) → option_map (moved_scheme (map_of n c)) (scheme k) ≡ scheme k
scheme_stays n c on.And = refl
scheme_stays n c on.Or = refl
scheme_stays n c on.Implies = refl
scheme_stays n c on.If = refl
scheme_stays n c on.ForAll = refl
scheme_stays n c on.Exists = refl
scheme_stays n c on.True = refl
scheme_stays n c on.Cut = refl
scheme_stays n c on.Equal = refl
scheme_stays n c on.Is = refl
scheme_stays n c on.Less = refl
scheme_stays n c on.Greater = refl
scheme_stays n c on.AtMost = refl
scheme_stays n c on.AtLeast = refl
scheme_stays n c on.Cons = refl
scheme_stays n c on.Nil = refl
scheme_stays n c on.Add = refl
scheme_stays n c on.Subtract = refl
scheme_stays n c on.Multiply = refl
scheme_stays n c on.Divide = refl
scheme_stays n c on.Remainder = refl
scheme_stays n c on.Negate = refl
scheme_stays n c on.Concatenate = refl
scheme_stays n c on.Size = refl
scheme_stays n c on.Not = refl
scheme_stays n c on.Print = refl

entry_stays : (n : ℕ) (c : Copy) (ks : List Constant) (i : ℕ) → option_map (moved_scheme (map_of n c)) (entry (map scheme ks) i) ≡ entry (map scheme ks) i
entry_stays n c [] i = refl
entry_stays n c (k ∷ ks) zero = scheme_stays n c k
entry_stays n c (k ∷ ks) (suc i) = entry_stays n c ks i

map_at : {A B : Type 0} (f g : A → B) → ((x : A) → f x ≡ g x) → (xs : List A) (i : ℕ) → slice_get (map f xs) i ≡ option_map g (slice_get xs i)
map_at f g e [] i = refl
map_at f g e (x ∷ xs) zero = ap Some (e x)
map_at f g e (x ∷ xs) (suc i) = map_at f g e xs i

module _ (ks : List ℕ) (cs : List Scheme) (few_kinds : 8 + length ks ≤ 1048576) (few_constants : 32 + length cs ≤ 1048576) where
  abbrev u : Tables
  u = tables_of ks cs

  keeps : (c : Copy) → IsTold u c → KeepsStandard (renumbered 8 c.kinds) (renumbered 32 c.constants)
  keeps c told = record {
    kinds = λ k l. ap (λ b. if b then k else slice_index_or c.kinds (k - 8) 4294967295) l;
    constants = λ k l. ap (λ b. if b then k else slice_index_or c.constants (k - 32) 4294967295) l;
    declared = λ k l. ap (λ x. nat_lt x 32) (ap (λ b. if b then k else slice_index_or c.constants (k - 32) 4294967295) l)
        ∙ le-ltb (slice_index_or c.constants (k - 32) 4294967295) 32 (big_at 32 u.constants c.constants (moved_schemes c) told.constants 4294967295 (omega arith) (k - 32));
  }

  moved : (n : ℕ) (c : Copy) → IsTold u c → AreMoved (map_of n c) (object_tables c.object) u
  moved n c told = record { kinds = λ k. kind_moved k (nat_lt k 8) refl; constants = λ k. constant_moved k (nat_lt k 32) refl }
    where
      kind_moved : (k : ℕ) (b : Bool) → nat_lt k 8 ≡ b → u.kinds (if b then k else slice_index_or c.kinds (k - 8) 4294967295) ≡
          (if b then option_map arity (numbered k) else slice_get (arities_of c.object) (k - 8))
      kind_moved k true e = ap (λ b. if b then option_map arity (numbered k) else slice_get ks (k - 8)) e
      kind_moved k false e = told_at 8 u.kinds c.kinds (arities_of c.object) told.kinds 4294967295 (behind_table 8 u.kinds ks (read_kind ks cs) 4294967295 (omega (arith, few_kinds))) (k - 8)

      constant_moved : (k : ℕ) (b : Bool) → nat_lt k 32 ≡ b → u.constants (if b then k else slice_index_or c.constants (k - 32) 4294967295)
          ≡ option_map (moved_scheme (map_of n c)) (if b then entry standard_schemes k else slice_get (schemes_of c.object) (k - 32))
      constant_moved k true e = ap (λ b. if b then entry standard_schemes k else slice_get cs (k - 32)) e ∙ sym (entry_stays n c language k)
      constant_moved k false e =
          told_at 32 u.constants c.constants (moved_schemes c) told.constants 4294967295 (behind_table 32 u.constants cs (read_constant ks cs) 4294967295 (omega (arith, few_constants))) (k - 32)
          ∙ map_at (moved_scheme (map_of 0 c)) (moved_scheme (map_of n c)) (λ s. sym (scheme_alike n c s)) (schemes_of c.object) (k - 32)

  pub are_put : (n : ℕ) (copies : List Copy) (rs : List Record) (ds : List Clause) → n + length rs < 4294967296 → EachOf (IsTold u) copies →
      AreRecords n copies rs → AreDenoted n copies ds → ArePut u n copies rs
  are_put n [] rs ds few told are denoted = are
  are_put n (c ∷ copies) rs ds few told (own, more, is, count, moves, rest) (es, fs, denotes, others, all) =
      let long = ap length is ∙ length-append own more in
      let room = room_records n (length (records_of c)) (omega (arith, few, long, count)) (records_of c) (all_below (object_tables c.object) (records_of c) es denotes) in
      (own, more, is, keeps c told.0, moved n c told.0, moves room, are_put (n + length (records_of c)) copies more fs (omega (arith, few, long, count)) told.1 rest others)

-- the image of a root that can be linked
pub image_linked : (os : List Object) (root : ℕ) (firsts : List Ends) (m : Making) (rs : List Record) (i : Image) → CanBeLinked os root
    → ((o : Object) (all : List Ends) (end : Ends) → slice_get os root ≡ Some o → AreFirst (uses_of os) (kind_counts os) (constant_counts os)
    (root ∷ []) (first_ends o) all end → AreFew end → firsts ≡ all)
    → ((c : Copy) (below : List Copy) → IsPlan os root firsts c below → IsMade c below m rs) → length rs < 4294967296 → image_tables i ≡ tables_of
    (made_arities m) (made_schemes m) → i.code.records.items ≡ rs → IsLinked os root i
image_linked os root firsts m rs i can first made few tables records = λ o end copies ds at d are.
    let p = copies_planned os root can o end copies at d in
    let firsts_are = first o p.firsts end at p.are_first p.few in
    let is_made = made p.root_copy p.below (subst (λ l. IsPlan os root l p.root_copy p.below) (sym firsts_are) p.plan) in
    let recorded : AreRecords 0 copies rs = subst (λ l. AreRecords 0 l rs) (sym p.parts) is_made.records in
    let ks = all_arities p.root_copy copies in
    let cs = all_schemes p.root_copy copies in
    let put = are_put ks cs p.kinds_few p.constants_few 0 copies rs ds (omega (arith, few)) p.told recorded are in
    let tables_are : image_tables i ≡ tables_of ks cs = tables
    ∙ (λ j. tables_of (is_made.tables.kinds j) (is_made.tables.constants j)) ∙ (λ j. tables_of (all_arities p.root_copy (sym p.parts j)) (all_schemes p.root_copy (sym p.parts j))) in
    (λ j. denote (tables_are j) (records j)) ∙ linked_denotes (tables_of ks cs) copies rs ds put are

-- it has the names of its copies
pub image_named : (os : List Object) (root : ℕ) (firsts : List Ends) (m : Making) (i : Image) (made : (c : Copy) (below : List Copy) → IsPlan os root firsts c below → AreTabled c (below ++ c ∷ []) m)
    → CanBeLinked os root → ((o : Object) (all : List Ends) (end : Ends) → slice_get os root ≡ Some o → AreFirst (uses_of os) (kind_counts os) (constant_counts os)
    (root ∷ []) (first_ends o) all end → AreFew end → firsts ≡ all)
    → map kind_row i.kinds.items ≡ rows_of_kinds m → map constant_row i.constants.items ≡ rows_of_constants m
    → map (λ (c : ImageConstant). scheme_in i.bank c.type_vars c.scheme.0) i.constants.items ≡ made_schemes m → IsNamed os root i
image_named os root firsts m i made can first kinds constants typed = λ o end copies at d.
    let p = copies_planned os root can o end copies at d in
    let firsts_are = first o p.firsts end at p.are_first p.few in
    let tabled = made p.root_copy p.below (subst (λ l. IsPlan os root l p.root_copy p.below) (sym firsts_are) p.plan) in
    let is_tabled : AreTabled p.root_copy copies m = subst (λ l. AreTabled p.root_copy l m) (sym p.parts) tabled in
    record {
      below = p.below;
      root = p.root_copy;
      last = p.parts;
      kinds = kinds ∙ is_tabled.names.kinds_are;
      constants = constants ∙ is_tabled.names.constants_are;
      types = typed ∙ is_tabled.constants;
    }
