-- What sights of constants tell: their types here against those that their names have first.
use Rattle.std.proofs.Common.{◌≡◌, ℕ, zero, suc, ◌+◌, ◌<◌, ◌≤◌, List, [], ◌∷◌, ◌++◌, length, map, get_or, take, drop, Bool, true, false, true≢false, Some, None, refl, sym, ap, subst, ◌∙◌, arith, inl, inr, cond, append_assoc, append-nil}
use Rattle.std.specs.Prelude.{◌⊎◌, ◌&&◌, ◌||◌, codes, is_some, if◌then◌else◌, nat_lt, slice_get, slice_index_or, Contains, All}
use Rattle.std.specs.Str.{bytes_eq}
use Rattle.std.proofs.lemmas.Bool.{ltb-true, or_parts}
use Rattle.std.proofs.lemmas.List.{length-append, length-map, map-append, take-append-drop}
use Rattle.std.proofs.lemmas.List.Elements.{All-push, Contains-append_cases}
use Rattle.std.proofs.lemmas.Option.{same_Some}
use Rattle.std.proofs.lemmas.Slice.Eq.{bytes_eq-Decides}
use Rattle.lp_lemmas.proofs.Elements.{Contains_single}
use Rattle.lp_base.specs.declared.limits.TheConstants.{END_OF_NUMBERS}
use Rattle.lp_calculus.specs.Types.{Ty, Tys, var, param, con, arrow, no_types, types}
use Rattle.lp_calculus.specs.Typing.{o_type}
use Rattle.lp_term.specs.Nodes.{Nodes, Extends, type_tree}
use Rattle.lp_term.specs.declared.node.TypeId.{TypeId}
use Rattle.lp_sig.specs.Rows.{Row, found}
use Rattle.lp_sig.specs.Said.{Said, is_among, names_in}
use Rattle.lp_sig.specs.Standard.{standard_constants}
use Rattle.lp_sig.specs.Constants.{standard_types, standard_tree}
use Rattle.lp_sig.specs.Modules.{first_names}
use Rattle.lp_sig.specs.Named.{NamedTy, named, all_named, named_in, kind_name, kind_names, IsWhole}
use Rattle.lp_sig.specs.Sighted.{PutsBehind}
use Rattle.lp_sig.specs.Worded.{HasWords, is_met_word}
use Rattle.lp_sig.specs.GoingTogether.{named_constant, standard_typed, constant_count, entry_names, AreNumberedConstants, IsSameConstant, ConstantsGo, IsOtherConstant, HasNoConstantNumber}
use Rattle.lp_sig.specs.Differing.{number_here, numbered_by, all_numbered}
use Rattle.lp_sig.specs.inner.Telling.{first_sight, TellsNext, ConstantsTell, ConstantTells, HasNumberHere, EachKind, AllKinds, IsTypeHere, FitsHere, IsTypedHere, AreTypedHere, IsRoomSight, IsTypeOfName, of_language, of_constant, CanSee, CanSeeAll}
use Rattle.lp_sig.specs.declared.constants.Constant.{Constant}
use Rattle.lp_sig.specs.declared.constants.Constants.{Constants}
use Rattle.lp_sig.specs.declared.entries.ConstantEntry.{ConstantEntry}
use Rattle.lp_sig.specs.declared.see.Sight.{Sight}
use Rattle.lp_sig.specs.declared.see.Sight.TheVariants.{Alike, Otherwise, TooMany}
use Rattle.lp_sig.specs.declared.signature.Signature.{Signature}
use Rattle.lp_sig.proofs.Firsts.{found_among}
use Rattle.lp_sig.proofs.Growing.{found_more}
use Rattle.lp_sig.proofs.Sighting.{found_last}
use Rattle.lp_sig.proofs.ToldKinds.{tells_more, taken_more}
use Rattle.lp_sig.proofs.TypesHere.{low_here, has_number, number_is, types_in_bank, types_same, names_same}
use Rattle.lp_sig.proofs.Worded.{names_more}

-- a name that is not among some rows is found behind them
pub found_behind : {A : Type 0} (name : List ℕ) (rows more : List (Row A)) → is_among name (names_in rows) ≡ false → found name (rows ++ more) ≡ found name more
found_behind name [] more h = refl
found_behind {A} name (x ∷ xs) more h = by (bytes_eq name x.0) (λ h. found_behind name xs more h) h
  where
    by : (t : Bool) → (is_among name (names_in xs) ≡ false → found name (xs ++ more) ≡ found name more) → (t || is_among name (names_in xs)) ≡ false → cond t (Some x.1) (found name (xs ++ more)) ≡ found name more
    by true f h = absurd (true≢false h)
    by false f h = f h

found_only : {A : Type 0} (name : List ℕ) (a : A) → found name ((name, a) ∷ []) ≡ Some a
found_only name a = ap (λ t. cond t (Some a) None) ((bytes_eq-Decides name name).1 refl)

-- standard names
found_mapped : {A B : Type 0} (f : Row A → B) (name : List ℕ) (rows : List (Row A)) (a : A) → found name rows ≡ Some a → (r : Row A) × (r.1 ≡ a) × (found name (map (λ r. (r.0, f r)) rows) ≡ Some (f r))
found_mapped f name [] a e = absurd (cc)
found_mapped {A} {B} f name (x ∷ xs) a e = by (bytes_eq name x.0) (λ e. found_mapped f name xs a e) e
  where
    by : (t : Bool) → (found name xs ≡ Some a → (r : Row A) × (r.1 ≡ a) × (found name (map (λ r. (r.0, f r)) xs) ≡ Some (f r))) → cond t (Some x.1) (found name xs) ≡ Some a →
        (r : Row A) × (r.1 ≡ a) × (cond t (Some (f x)) (found name (map (λ r. (r.0, f r)) xs)) ≡ Some (f r))
    by true h e = (x, same_Some x.1 a e, refl)
    by false h e = h e

standard_found : (name : List ℕ) (n : ℕ) → found name standard_constants ≡ Some n → found name standard_typed ≡ Some (named (kind_name []) (standard_tree n))
standard_found name n e = let (r, is, at) = found_mapped (λ r. named (kind_name []) (standard_tree r.1)) name standard_constants n e in at ∙ ap (λ n. Some (named (kind_name []) (standard_tree n))) is

-- types of the language
abbrev mutual
  low : Ty → Bool
  low (var x) = true
  low (param k) = true
  low (con k ts) = nat_lt k 4 && lows ts
  low (arrow a b) = low a && low b

  lows : Tys → Bool
  lows no_types = true
  lows (types t ts) = low t && lows ts

abbrev all_low : List Ty → Bool
all_low [] = true
all_low (t ∷ ts) = low t && all_low ts

both : (a b : Bool) → (a && b) ≡ true → (a ≡ true) × (b ≡ true)
both true b e = (refl, e)
both false b e = absurd (true≢false (sym e))

one_low : (ts : List Ty) (i : ℕ) (d : Ty) → all_low ts ≡ true → low d ≡ true → low (slice_index_or ts i d) ≡ true
one_low [] i d h e = e
one_low (t ∷ ts) zero d h e = (both (low t) (all_low ts) h).0
one_low (t ∷ ts) (suc i) d h e = one_low ts i d (both (low t) (all_low ts) h).1 e

module _ (said : List (Row Said)) where
  low_kind : (k : ℕ) → nat_lt k 4 ≡ true → HasNumberHere said (kind_name [] k) × (number_here said (kind_name [] k) ≡ k)
  low_kind zero l = let h = low_here said [] (codes "o") 0 (omega arith) refl in (has_number said (codes "o") 0 h, number_is said (codes "o") 0 h)
  low_kind (suc zero) l = let h = low_here said [] (codes "int") 1 (omega arith) refl in (has_number said (codes "int") 1 h, number_is said (codes "int") 1 h)
  low_kind (suc (suc zero)) l = let h = low_here said [] (codes "string") 2 (omega arith) refl in (has_number said (codes "string") 2 h, number_is said (codes "string") 2 h)
  low_kind (suc (suc (suc zero))) l = let h = low_here said [] (codes "list") 3 (omega arith) refl in (has_number said (codes "list") 3 h, number_is said (codes "list") 3 h)
  low_kind (suc (suc (suc (suc k)))) l = let z = ltb-true (suc (suc (suc (suc k)))) 4 l in absurd (omega (arith, z))

  mutual
    low_tree : (T : Ty) → low T ≡ true → T ≡ numbered_by (number_here said) (named (kind_name []) T)
    low_tree (var x) h = refl
    low_tree (param k) h = refl
    low_tree (con k ts) h =
        let p = both (nat_lt k 4) (lows ts) h in
        let f = (low_kind k p.0).1 in
        let g = low_trees ts p.1 in
        λ i. con (sym f i) (g i)
    low_tree (arrow a b) h =
        let p = both (low a) (low b) h in
        let f = low_tree a p.0 in
        let g = low_tree b p.1 in
        λ i. arrow (f i) (g i)

    low_trees : (ts : Tys) → lows ts ≡ true → ts ≡ all_numbered (number_here said) (all_named (kind_name []) ts)
    low_trees no_types h = refl
    low_trees (types t ts) h =
        let p = both (low t) (lows ts) h in
        let f = low_tree t p.0 in
        let g = low_trees ts p.1 in
        λ i. types (f i) (g i)

  mutual
    low_known : (T : Ty) → low T ≡ true → EachKind (HasNumberHere said) (named (kind_name []) T)
    low_known (var x) h = tt
    low_known (param k) h = tt
    low_known (con k ts) h = let p = both (nat_lt k 4) (lows ts) h in ((low_kind k p.0).0, lows_known ts p.1)
    low_known (arrow a b) h = let p = both (low a) (low b) h in (low_known a p.0, low_known b p.1)

    lows_known : (ts : Tys) → lows ts ≡ true → AllKinds (HasNumberHere said) (all_named (kind_name []) ts)
    lows_known no_types h = tt
    lows_known (types t ts) h = let p = both (low t) (lows ts) h in (low_known t p.0, lows_known ts p.1)

  standard_here : (n : ℕ) → IsTypeHere said (standard_tree n) (named (kind_name []) (standard_tree n))
  standard_here n =
      let h = one_low standard_types n (arrow o_type o_type) refl refl in
      record { tree = low_tree (standard_tree n) h; known = low_known (standard_tree n) h }

-- constants that are known, while more are
typed_later : (b now : Nodes) (said : List (Row Said)) (rows more : List (Row NamedTy)) (k : Constant) → Extends b now → IsTypedHere b said rows k → IsTypedHere now said (rows ++ more) k
typed_later b now said rows more k x h =
    let l = h.inside in
    let m = x.more_types in
    record {
      type = h.type;
      declared = h.declared;
      inside = omega (arith, l, m);
      name = h.name;
      first = found_more k.name.items rows more h.name h.first;
      is = subst (λ T. IsTypeHere said T h.name) (sym (x.same_types h.type.scheme.0 l)) h.is;
    }

pub all_typed_later : (b now : Nodes) (c : Constants) (said : List (Row Said)) (rows more : List (Row NamedTy)) → Extends b now → AreTypedHere b c said rows → AreTypedHere now c said (rows ++ more)
all_typed_later b now c said rows more x all k has = typed_later b now said rows more k x (all k has)

-- a name that is met is standard, or among some rows
met_parts : (name : List ℕ) (words : List (List ℕ)) → is_met_word name words ≡ false → (is_among name (names_in standard_constants) ≡ false) × (is_among name words ≡ false)
met_parts name words e = or_parts (is_among name (names_in standard_constants)) (is_among name words) e

unmet : (name : List ℕ) → found name standard_constants ≡ None → is_among name (names_in standard_constants) ≡ false
unmet name e = sym (found_among name standard_constants) ∙ ap is_some e

-- one constant
module _ (b now : Nodes) (old : Constants) (said : List (Row Said)) (rows : List (Row NamedTy)) (made : List TypeId) (e : ConstantEntry) (t : NamedTy) (s : TypeId)
    (can : CanSee b old said rows made e t) (at : slice_get made e.scheme.0 ≡ Some s) (x : Extends b now) where
  scheme_inside : s.0 < length now.types
  scheme_inside = let l = (can.here s at).0 in let m = x.more_types in omega (arith, l, m)

  scheme_here : IsTypeHere said (type_tree now s.0) t
  scheme_here = let h = can.here s at in subst (λ T. IsTypeHere said T t) (sym (x.same_types s.0 h.0)) h.1

  pub constant_stays : AreTypedHere now old said (rows ++ (e.name.items, t) ∷ [])
  constant_stays = all_typed_later b now old said rows ((e.name.items, t) ∷ []) x can.typed

  -- a new one
  module _ (fresh : is_met_word e.name.items (names_in rows) ≡ false) where
    new_found : found e.name.items (rows ++ (e.name.items, t) ∷ []) ≡ Some t
    new_found = found_behind e.name.items rows ((e.name.items, t) ∷ []) (met_parts e.name.items (names_in rows) fresh).1 ∙ found_only e.name.items t

    pub constant_put : (new : Constants) (vars : ℕ) → PutsBehind old new e.name.items (record { type_vars = vars; scheme = s }) → AreTypedHere now new said (rows ++ (e.name.items, t) ∷ [])
    constant_put new vars (k, name, declared, pushed) j has = by (Contains-append_cases old.constants.items (k ∷ []) j (subst (λ l. Contains l j) pushed has))
      where
        by : Contains old.constants.items j ⊎ Contains (k ∷ []) j → IsTypedHere now said (rows ++ (e.name.items, t) ∷ []) j
        by (inl c) = constant_stays j c
        by (inr c) = subst (IsTypedHere now said (rows ++ (e.name.items, t) ∷ [])) (Contains_single k j c) (record {
          type = record { type_vars = vars; scheme = s };
          declared = declared;
          inside = scheme_inside;
          name = t;
          first = ap (λ n. found n (rows ++ (e.name.items, t) ∷ [])) name ∙ new_found;
          is = scheme_here;
        })

    pub new_told : (sight : Sight) → IsRoomSight (length old.constants.items) sight → ConstantTells rows e.name.items t sight
    new_told Alike l =
        let n = count in
        (found_behind e.name.items standard_typed (rows ++ (e.name.items, t) ∷ []) (met_parts e.name.items (names_in rows) fresh).0 ∙ new_found, inr (omega (arith, l, n)))
      where
        count : length old.constants.items ≡ constant_count (names_in rows)
        count = sym (length-map old.constants.items (λ k. k.name.items)) ∙ ap length can.met.are
    new_told Otherwise l = absurd l
    new_told TooMany l =
        let n = sym (length-map old.constants.items (λ k. k.name.items)) ∙ ap length can.met.are in
        let z : length old.constants.items ≡ constant_count (names_in rows) = n in
        (fresh, omega (arith, l, z))

  -- one that is known, with its type
  first_type : (known : TypeId) → IsTypeOfName now old e.name.items known → (first : NamedTy) × (found e.name.items (standard_typed ++ (rows ++ (e.name.items, t) ∷ [])) ≡ Some first) × (known.0 < length now.types) × IsTypeHere said (type_tree now known.0) first
  first_type known (of_language n is inside tree) = (
    named (kind_name []) (standard_tree n),
    found_more e.name.items standard_typed (rows ++ (e.name.items, t) ∷ []) (named (kind_name []) (standard_tree n)) (standard_found e.name.items n is),
    inside,
    subst (λ T. IsTypeHere said T (named (kind_name []) (standard_tree n))) (sym tree) (standard_here said n),
  )
  first_type known (of_constant k has name none d declared is) =
      let h = constant_stays k has in
      let same : h.type ≡ d = same_Some h.type d (sym h.declared ∙ declared) in
      let scheme : h.type.scheme ≡ known = ap (λ d. d.scheme) same ∙ sym is in (
        h.name,
        found_behind e.name.items standard_typed (rows ++ (e.name.items, t) ∷ []) (unmet e.name.items none) ∙ ap (λ n. found n (rows ++ (e.name.items, t) ∷ [])) (sym name) ∙ h.first,
        subst (λ i. i.0 < length now.types) scheme h.inside,
        subst (λ i. IsTypeHere said (type_tree now i.0) h.name) scheme h.is,
      )

  pub known_told : (known : TypeId) → IsTypeOfName now old e.name.items known → EachKind (FitsHere said) t → is_met_word e.name.items (names_in rows) ≡ true → (same : Bool) → (same ≡ true → known.0 ≡ s.0) →
      (same ≡ false → known.0 < length now.types → s.0 < length now.types → type_tree now known.0 ≡ type_tree now s.0 → ⊥) → (sight : Sight) → sight ≡ (if same then Alike else Otherwise) → ConstantTells rows e.name.items t sight
  known_told known has fits met true one apart sight is =
      let (first, at_first, inside, here) = first_type known has in
      subst (ConstantTells rows e.name.items t) (sym is) (at_first ∙ ap (λ n. Some n) (names_same said (type_tree now known.0) (type_tree now s.0) first t here scheme_here fits (ap (type_tree now) (one refl))), inl met)
  known_told known has fits met false one apart sight is =
      let (first, at_first, inside, here) = first_type known has in
      subst (ConstantTells rows e.name.items t) (sym is) (λ later. apart refl inside scheme_inside (types_same said (type_tree now known.0) (type_tree now s.0) first t here scheme_here (same_Some first t (sym at_first ∙ later))))

  pub never_told : (k : Constant) → Contains old.constants.items k → k.declared ≡ None → ⊥
  never_told k has none = let h = can.typed k has in let z : None ≡ Some h.type = sym none ∙ h.declared in absurd (cc)

-- the names of rows
pub names_of_rows : (u : Signature) (rows : List (Row NamedTy)) (es : List ConstantEntry) → names_in (rows ++ map (named_constant u) es) ≡ names_in rows ++ entry_names es
names_of_rows u [] [] = refl
names_of_rows u [] (e ∷ es) = ap (λ l. e.name.items ∷ l) (names_of_rows u [] es)
names_of_rows u (r ∷ rs) es = ap (λ l. r.0 ∷ l) (names_of_rows u rs es)

-- one more entry
module _ (u : Signature) (rows : List (Row NamedTy)) (front : List ConstantEntry) (e : ConstantEntry) (rest : List (Row NamedTy)) where
  abbrev before : List (Row NamedTy)
  before = rows ++ map (named_constant u) front

  abbrev all : List (Row NamedTy)
  all = (before ++ named_constant u e ∷ []) ++ rest

  grown : (t : NamedTy) → found e.name.items (standard_typed ++ (before ++ named_constant u e ∷ [])) ≡ Some t → found e.name.items (standard_typed ++ all) ≡ Some t
  grown t h = ap (found e.name.items) (sym (append_assoc standard_typed (before ++ named_constant u e ∷ []) rest)) ∙ found_more e.name.items (standard_typed ++ (before ++ named_constant u e ∷ [])) rest t h

  some_found : (t : NamedTy) × (found e.name.items (standard_typed ++ (before ++ named_constant u e ∷ [])) ≡ Some t)
  some_found = let (t, h) = found_last e.name.items (standard_typed ++ before) (named_in u e.scheme) in (t, ap (found e.name.items) (sym (append_assoc standard_typed before (named_constant u e ∷ []))) ∙ h)

  names : names_in before ≡ names_in rows ++ entry_names front
  names = names_of_rows u rows front

  count_more : (is_met_word e.name.items (names_in rows ++ entry_names front) ≡ true) ⊎ (32 + constant_count (names_in rows ++ entry_names front) < END_OF_NUMBERS) → AreNumberedConstants (names_in rows) front → AreNumberedConstants (names_in rows) (front ++ e ∷ [])
  count_more room so = by (is_met_word e.name.items (names_in rows ++ entry_names front)) refl
    where
      step : first_names (names_in standard_constants) (names_in rows ++ entry_names (front ++ e ∷ [])) ≡ (if is_met_word e.name.items (names_in rows ++ entry_names front) then first_names (names_in standard_constants) (names_in rows ++ entry_names front) else first_names (names_in standard_constants) (names_in rows ++ entry_names front) ++ e.name.items ∷ [])
      step = ap (λ l. first_names (names_in standard_constants) l) (ap (λ l. names_in rows ++ l) (map-append (λ e. e.name.items) front (e ∷ [])) ∙ sym (append_assoc (names_in rows) (entry_names front) (e.name.items ∷ []))) ∙
          names_more (names_in standard_constants) (names_in rows ++ entry_names front) e.name.items

      counts : (t : Bool) → is_met_word e.name.items (names_in rows ++ entry_names front) ≡ t → constant_count (names_in rows ++ entry_names (front ++ e ∷ [])) ≡ length (if t then first_names (names_in standard_constants) (names_in rows ++ entry_names front) else first_names (names_in standard_constants) (names_in rows ++ entry_names front) ++ e.name.items ∷ [])
      counts t s = ap length step ∙ ap (λ t. length (if t then first_names (names_in standard_constants) (names_in rows ++ entry_names front) else first_names (names_in standard_constants) (names_in rows ++ entry_names front) ++ e.name.items ∷ [])) s

      low_room : is_met_word e.name.items (names_in rows ++ entry_names front) ≡ false → (is_met_word e.name.items (names_in rows ++ entry_names front) ≡ true) ⊎ (32 + constant_count (names_in rows ++ entry_names front) < END_OF_NUMBERS) → 32 + constant_count (names_in rows ++ entry_names front) < END_OF_NUMBERS
      low_room s (inl m) = absurd (true≢false (sym m ∙ s))
      low_room s (inr l) = l

      same : constant_count (names_in rows ++ entry_names (front ++ e ∷ [])) ≡ constant_count (names_in rows ++ entry_names front) → AreNumberedConstants (names_in rows) front → AreNumberedConstants (names_in rows) (front ++ e ∷ [])
      same c (inl q) = inl (c ∙ q)
      same c (inr l) = inr (omega (arith, c, l))

      by : (t : Bool) → is_met_word e.name.items (names_in rows ++ entry_names front) ≡ t → AreNumberedConstants (names_in rows) (front ++ e ∷ [])
      by true s = same (counts true s) so
      by false s =
          let c = counts false s in
          let n = length-append (first_names (names_in standard_constants) (names_in rows ++ entry_names front)) (e.name.items ∷ []) in
          let l = low_room s room in
          inr (omega (arith, c, n, l))

  constant_next : (s : Sight) → ConstantTells before e.name.items (named_in u e.scheme) s → ConstantsGo (names_in rows) all u front →
      TellsNext (ConstantsGo (names_in rows) all u) (IsOtherConstant all u) (HasNoConstantNumber (names_in rows)) front e s
  constant_next Alike (same, room) go = record {
    same = All-push (IsSameConstant all u) front e go.same (grown (named_in u e.scheme) same);
    numbered = count_more (subst (λ ns. (is_met_word e.name.items ns ≡ true) ⊎ (32 + constant_count ns < END_OF_NUMBERS)) names room) go.numbered;
  }
  constant_next Otherwise never go = λ later.
      let (t, h) = some_found in
      let z : t ≡ named_in u e.scheme = same_Some t (named_in u e.scheme) (sym (grown t h) ∙ later) in
      never (h ∙ ap (λ t. Some t) z)
  constant_next TooMany many go = subst (λ ns. (is_met_word e.name.items ns ≡ false) × (END_OF_NUMBERS ≤ 32 + constant_count ns)) names many

module _ (u : Signature) (rows : List (Row NamedTy)) (es : List ConstantEntry) (i : ℕ) (e : ConstantEntry) (l : i < length es) (at : e ≡ get_or es i e) where
  all_rows : ((rows ++ map (named_constant u) (take i es)) ++ named_constant u e ∷ []) ++ map (named_constant u) (drop (i + 1) es) ≡ rows ++ map (named_constant u) es
  all_rows =
      ap (λ r. r ++ map (named_constant u) (drop (i + 1) es)) (append_assoc rows (map (named_constant u) (take i es)) (named_constant u e ∷ []) ∙ ap (λ r. rows ++ r) (sym (map-append (named_constant u) (take i es) (e ∷ [])) ∙ ap (map (named_constant u)) (taken_more es i e l at))) ∙
      append_assoc rows (map (named_constant u) (take (i + 1) es)) (map (named_constant u) (drop (i + 1) es)) ∙ ap (λ r. rows ++ r)
      (sym (map-append (named_constant u) (take (i + 1) es) (drop (i + 1) es)) ∙ ap (map (named_constant u)) (take-append-drop (i + 1) es))

  pub constants_told : (s t r : Sight) → r ≡ first_sight s t → ConstantTells (rows ++ map (named_constant u) (take i es)) e.name.items (named_in u e.scheme) t →
      ConstantsTell (names_in rows) (rows ++ map (named_constant u) es) u (take i es) s → ConstantsTell (names_in rows) (rows ++ map (named_constant u) es) u (take (i + 1) es) r
  constants_told s t r is this now =
      let w = ((rows ++ map (named_constant u) (take i es)) ++ named_constant u e ∷ []) ++ map (named_constant u) (drop (i + 1) es) in
      subst (λ now. ConstantsTell (names_in rows) (rows ++ map (named_constant u) es) u now r) (taken_more es i e l at)
      (subst (λ w. ConstantsTell (names_in rows) w u (take i es ++ e ∷ []) r) all_rows
      (tells_more (ConstantsGo (names_in rows) w u) (IsOtherConstant w u) (HasNoConstantNumber (names_in rows)) (take i es) e s t r is
      (subst (λ w. ConstantsTell (names_in rows) w u (take i es) s) (sym all_rows) now)
      (constant_next u rows (take i es) e (map (named_constant u) (drop (i + 1) es)) t this)))

  pub more_rows : (rows ++ map (named_constant u) (take i es)) ++ named_constant u e ∷ [] ≡ rows ++ map (named_constant u) (take (i + 1) es)
  more_rows = append_assoc rows (map (named_constant u) (take i es)) (named_constant u e ∷ []) ∙ ap (λ r. rows ++ r) (sym (map-append (named_constant u) (take i es) (e ∷ [])) ∙ ap (map (named_constant u)) (taken_more es i e l at))

pub no_constants_told : (u : Signature) (words : List (List ℕ)) (rows : List (Row NamedTy)) → All (IsSameConstant rows u) [] → ConstantsTell words rows u [] Alike
no_constants_told u words rows none = record { same = none; numbered = inl (ap constant_count (append-nil words)) }

-- what is known where the next one is seen
pub can_see_next : (first b : Nodes) (old c : Constants) (u : Signature) (said : List (Row Said)) (rows : List (Row NamedTy)) (made : List TypeId) (es : List ConstantEntry) (i : ℕ) (e : ConstantEntry) → i < length es → e ≡ get_or es i e → Extends first b →
    CanSeeAll first old u said rows made es → HasWords c (names_in rows ++ entry_names (take i es)) → AreTypedHere b c said (rows ++ map (named_constant u) (take i es)) → CanSee b c said (rows ++ map (named_constant u) (take i es)) made e (named_in u e.scheme)
can_see_next first b old c u said rows made es i e l at x can words typed = record {
  met = subst (HasWords c) (sym (names_of_rows u rows (take i es))) words;
  typed = typed;
  here = λ id there.
      let h = types_in_bank u.bank first b (kind_names u) said made x can.here e.scheme.0 id there in
      (h.0, h.1 (subst (λ e. IsWhole (named_in u e.scheme)) (sym at) (can.whole i e l)));
}
