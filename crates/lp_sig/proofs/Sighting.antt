-- Kinds, types and constants of a signature that is seen.
use Rattle.std.proofs.Common.{◌≡◌, ℕ, zero, suc, ◌+◌, ◌-◌, ◌<◌, ◌≤◌, min, List, [], ◌∷◌, ◌++◌, length, map, refl, sym, ap, subst, ◌∙◌, arith, Bool, true, false, true≢false, Option, Some, None, inl, inr, cond, append_assoc}
use Rattle.std.specs.Prelude.{◌⊎◌, nat_lt, if◌then◌else◌, option_map, slice_get}
use Rattle.std.specs.Str.{bytes_eq}
use Rattle.std.proofs.lemmas.Bool.{le-ltb, lt-ltb}
use Rattle.std.proofs.lemmas.List.{length-append}
use Rattle.std.proofs.lemmas.Option.{same_Some, slice_get_within}
use Rattle.std.proofs.lemmas.Slice.Eq.{bytes_eq-Decides}
use Rattle.lp_base.specs.declared.limits.TheConstants.{END_OF_NUMBERS}
use Rattle.lp_calculus.specs.Types.{var, con, arrow, tys}
use Rattle.lp_term.specs.Node.{TypeShape, var_node, con_node, arrow_node}
use Rattle.lp_term.specs.Nodes.{Nodes, Extends, type_tree, type_node_tree}
use Rattle.lp_term.specs.declared.node.TypeId.{TypeId}
use Rattle.lp_sig.specs.Rows.{Row, found}
use Rattle.lp_sig.specs.Said.{Said, a_kind, names_in, kinds_among, declared_names, numbered}
use Rattle.lp_sig.specs.Standard.{standard_kinds}
use Rattle.lp_sig.specs.Words.{standard_said, meaning_of, number_said}
use Rattle.lp_sig.specs.Types.{one_or, kind_number_of}
use Rattle.lp_sig.specs.Named.{NamedTy, NamedTys, more_named, named_con, named_arrow, named, all_named, kind_name}
use Rattle.lp_sig.specs.Sighted.{said_kinds, IsKind, HasItsNumber, AreSeenTypes}
use Rattle.lp_sig.specs.declared.see.Sight.{Sight}
use Rattle.lp_sig.specs.declared.see.Sight.TheVariants.{Alike, Otherwise}
use Rattle.lp_sig.proofs.Growing.{firsts_front, kinds_append, meaning_more}

-- rows that have their numbers by their places
abbrev pub InPlace : ℕ → List (Row (ℕ × ℕ)) → Type 0
InPlace k [] = Unit {0}
InPlace k (r ∷ rs) = (r.1.0 ≡ k) × InPlace (suc k) rs

pub numbered_in_place : (k : ℕ) (rows : List (Row ℕ)) → InPlace k (numbered k rows)
numbered_in_place k [] = tt
numbered_in_place k (r ∷ rs) = (refl, numbered_in_place (suc k) rs)

pub numbered_names : (k : ℕ) (rows : List (Row ℕ)) → names_in (numbered k rows) ≡ names_in rows
numbered_names k [] = refl
numbered_names k (r ∷ rs) = ap (λ l. r.0 ∷ l) (numbered_names (suc k) rs)

pub found_in_place : (name : List ℕ) (k : ℕ) (rows : List (Row (ℕ × ℕ))) (r : ℕ × ℕ) → InPlace k rows → found name rows ≡ Some r → (i : ℕ) × (r.0 ≡ k + i) × (slice_get (names_in rows) i ≡ Some name)
found_in_place name k [] r are e = absurd (cc)
found_in_place name k (x ∷ xs) r (at, are) e = by (bytes_eq name x.0) refl (found_in_place name (suc k) xs r are) e
  where
    by : (t : Bool) → bytes_eq name x.0 ≡ t → (found name xs ≡ Some r → (i : ℕ) × (r.0 ≡ suc k + i) × (slice_get (names_in xs) i ≡ Some name)) → cond
        t (Some x.1) (found name xs) ≡ Some r → (i : ℕ) × (r.0 ≡ k + i) × (slice_get (x.0 ∷ names_in xs) i ≡ Some name)
    by true s h e =
        let same : x.1 ≡ r = same_Some x.1 r e in
        let n : r.0 ≡ k = ap (λ p. p.0) (sym same) ∙ at in
        (0, (let z : r.0 ≡ k + 0 = omega (arith, n) in z), ap (λ w. Some w) (sym ((bytes_eq-Decides name x.0).0 s)))
    by false s h e = let (i, n, there) = h e in (suc i, (let z : r.0 ≡ k + suc i = omega (arith, n) in z), there)

pub name_below : (names : List (List ℕ)) (k i : ℕ) (name : List ℕ) → k ≡ 0 + i → i < 8 → slice_get (names_in standard_kinds) i ≡ Some name → kind_name names k ≡ Some name
name_below names k i name e l at =
    let z : i ≡ k = omega (arith, e) in
    let t = lt-ltb k 8 (omega (arith, e, l)) in
    ap (λ b. if b then slice_get (names_in standard_kinds) k else slice_get names (k - 8)) t ∙ ap (slice_get (names_in standard_kinds)) (sym z) ∙ at

pub name_above : (names : List (List ℕ)) (k i : ℕ) (name : List ℕ) → k ≡ 8 + i → slice_get names i ≡ Some name → kind_name names k ≡ Some name
name_above names k i name e at =
    let z : k - 8 ≡ i = omega (arith, e) in
    ap (λ b. if b then slice_get (names_in standard_kinds) k else slice_get names (k - 8)) (le-ltb k 8 (omega (arith, e))) ∙ ap (slice_get names) z ∙ at

-- the number of a kind is that of its name, where numbers do not end before
pub kind_numbered : (name : List ℕ) (said : List (Row Said)) (n : ℕ) → kind_number_of name said ≡ Some n → (n < END_OF_NUMBERS) ⊎
    (8 + length (said_kinds said) ≤ END_OF_NUMBERS) → kind_name (said_kinds said) n ≡ Some name
unfolding kind_number_of number_said
kind_numbered name said n e fits = standard (found name standard_kinds) refl e
  where
    declared : (o : Option (ℕ × ℕ)) → found name (numbered 8 (kinds_among (declared_names said))) ≡ o → option_map (λ n. min n 4294967295)
        (option_map (λ r. r.0) o) ≡ Some n → kind_name (said_kinds said) n ≡ Some name
    declared None s e = absurd (cc)
    declared (Some r) s e =
        let (i, at, there) = found_in_place name 8 (numbered 8 (kinds_among (declared_names said))) r (numbered_in_place 8 (kinds_among (declared_names said))) s in
        let there_said : slice_get (said_kinds said) i ≡ Some name = ap (λ l. slice_get l i) (sym (numbered_names 8 (kinds_among (declared_names said)))) ∙ there in
        let l = slice_get_within (said_kinds said) i name there_said in
        let m : min r.0 4294967295 ≡ n = same_Some (min r.0 4294967295) n e in
        name_above (said_kinds said) n i name (small r.0 i at l m fits) there_said
      where
        small : (k i : ℕ) → k ≡ 8 + i → i < length (said_kinds said) → min k 4294967295 ≡ n → (n < END_OF_NUMBERS) ⊎ (8 + length (said_kinds said) ≤ END_OF_NUMBERS) → n ≡ 8 + i
        small k i at l m (inl f) = omega (arith, at, m, f)
        small k i at l m (inr f) = omega (arith, at, m, f, l)

    standard : (o : Option (ℕ × ℕ)) → found name standard_kinds ≡ o → one_or (option_map (λ r. r.0) o)
        (option_map (λ n. min n 4294967295) (option_map (λ r. r.0) (found name (numbered 8 (kinds_among (declared_names said)))))) ≡ Some n →
        kind_name (said_kinds said) n ≡ Some name
    standard None s e = declared (found name (numbered 8 (kinds_among (declared_names said)))) refl e
    standard (Some r) s e =
        let (i, at, there) = found_in_place name 0 standard_kinds r (refl, (refl, (refl, (refl, tt)))) s in
        let l = slice_get_within (names_in standard_kinds) i name there in
        let m : r.0 ≡ n = same_Some r.0 n e in
        let four : length (names_in standard_kinds) ≡ 4 = refl in
        name_below (said_kinds said) n i name (omega (arith, at, m)) (omega (arith, l, four)) there

-- a kind that is seen
pub number_alike : (said : List (Row Said)) (name : List ℕ) (n : ℕ) (s : Sight) → kind_number_of name said ≡ Some n → n < END_OF_NUMBERS → HasItsNumber said name (n, s)
number_alike said name n s e l h = kind_numbered name said n e (inl l)

pub number_past : (said : List (Row Said)) (name : List ℕ) (n : ℕ) (s : Sight) → kind_number_of name said ≡ Some n → (s ≡ Alike → ⊥) → HasItsNumber said name (n, s)
number_past said name n s e never (inl h) = absurd (never h)
number_past said name n s e never (inr k) = kind_numbered name said n e (inr k.fits)

pub number_none : (said : List (Row Said)) (name : List ℕ) (n : ℕ) (o : Option Said) → meaning_of name said ≡ o → ((c : ℕ) → o ≡ Some (a_kind c) → ⊥) → HasItsNumber said name (n, Otherwise)
number_none said name n o e never (inl h) = absurd (cc)
number_none said name n o e never (inr k) = absurd (never k.arity (sym e ∙ k.means))

-- more kinds change no name
pub name_stays : (names more : List (List ℕ)) (k : ℕ) (name : List ℕ) → kind_name names k ≡ Some name → kind_name (names ++ more) k ≡ Some name
name_stays names more k name e = by (nat_lt k 8) refl e
  where
    front : (xs : List (List ℕ)) (j : ℕ) → slice_get xs j ≡ Some name → slice_get (xs ++ more) j ≡ Some name
    front [] j e = absurd (cc)
    front (x ∷ xs) zero e = e
    front (x ∷ xs) (suc j) e = front xs j e

    by : (t : Bool) → nat_lt k 8 ≡ t → (if t then slice_get (names_in standard_kinds) k else slice_get names (k - 8)) ≡ Some name → kind_name (names ++ more) k ≡ Some name
    by true s e = ap (λ b. if b then slice_get (names_in standard_kinds) k else slice_get (names ++ more) (k - 8)) s ∙ e
    by false s e = ap (λ b. if b then slice_get (names_in standard_kinds) k else slice_get (names ++ more) (k - 8)) s ∙ front names (k - 8) e

-- more that is said brings more kinds
names_append : {A : Type 0} (xs ys : List (Row A)) → names_in (xs ++ ys) ≡ names_in xs ++ names_in ys
names_append [] ys = refl
names_append (x ∷ xs) ys = ap (λ l. x.0 ∷ l) (names_append xs ys)

pub kinds_more : (said more : List (Row Said)) → (rest : List (List ℕ)) × (said_kinds (said ++ more) ≡ said_kinds said ++ rest)
kinds_more said more =
    let f = firsts_front (names_in standard_kinds) said more in
    (names_in (kinds_among f.0), ap (λ z. names_in (kinds_among z)) f.1 ∙ ap names_in (kinds_append (declared_names said) f.0) ∙ names_append (kinds_among (declared_names said)) (kinds_among f.0))

pub name_later : (said more : List (Row Said)) (k : ℕ) (name : List ℕ) → kind_name (said_kinds said) k ≡ Some name → kind_name (said_kinds (said ++ more)) k ≡ Some name
name_later said more k name e = let (rest, f) = kinds_more said more in ap (λ l. kind_name l k) f ∙ name_stays (said_kinds said) rest k name e

-- what was said last of a name, or something before it, is what it means
pub found_last : {A : Type 0} (name : List ℕ) (rows : List (Row A)) (a : A) → (b : A) × (found name (rows ++ (name, a) ∷ []) ≡ Some b)
found_last name [] a = (a, ap (λ t. cond t (Some a) None) ((bytes_eq-Decides name name).1 refl))
found_last {A} name (x ∷ xs) a = by (found_last name xs a) (bytes_eq name x.0)
  where
    by : (b : A) × (found name (xs ++ (name, a) ∷ []) ≡ Some b) → (t : Bool) → (b : A) × (cond t (Some x.1) (found name (xs ++ (name, a) ∷ [])) ≡ Some b)
    by h true = (x.1, refl)
    by h false = h

kind_earlier : (said more : List (Row Said)) (name : List ℕ) (b : Said) → meaning_of name said ≡ Some b → IsKind (said ++ more) name → IsKind said name
kind_earlier said more name b now h =
    let later = meaning_more said more name b now in
    let same : b ≡ a_kind h.arity = same_Some b (a_kind h.arity) (sym later ∙ h.means) in
    let (rest, f) = kinds_more said more in
    let l = ap length f ∙ length-append (said_kinds said) rest in
    let fits = h.fits in
    record { arity = h.arity; means = now ∙ ap (λ s. Some s) same; fits = omega (arith, fits, l) }

pub kind_then : (said more : List (Row Said)) (name : List ℕ) (m : Said) → IsKind ((said ++ (name, m) ∷ []) ++ more) name → IsKind (said ++ (name, m) ∷ []) name
unfolding meaning_of
kind_then said more name m h =
    let (b, e) = found_last name (standard_said ++ said) m in
    kind_earlier (said ++ (name, m) ∷ []) more name b (ap (found name) (sym (append_assoc standard_said said ((name, m) ∷ []))) ∙ e) h

-- kinds of which something was said are kinds by then
found_among : {A : Type 0} (name : List ℕ) (front : List (Row A)) (rows back : List (Row A)) (i : ℕ) → slice_get (names_in rows) i ≡ Some name →
    (b : A) × (found name (front ++ (rows ++ back)) ≡ Some b)
found_among name [] [] back i e = absurd (cc)
found_among {A} name [] (x ∷ xs) back i e = by (bytes_eq name x.0) refl (λ j f. found_among name [] xs back j f) i e
  where
    by : (t : Bool) → bytes_eq name x.0 ≡ t → ((j : ℕ) → slice_get (names_in xs) j ≡ Some name → (b : A) × (found name (xs ++ back) ≡ Some b)) →
        (i : ℕ) → slice_get (x.0 ∷ names_in xs) i ≡ Some name → (b : A) × (cond t (Some x.1) (found name (xs ++ back)) ≡ Some b)
    by true s h i e = (x.1, refl)
    by false s h zero e = absurd (true≢false (sym ((bytes_eq-Decides name x.0).1 (sym (same_Some x.0 name e))) ∙ s))
    by false s h (suc i) e = h i e
found_among {A} name (x ∷ xs) rows back i e = by (found_among name xs rows back i e) (bytes_eq name x.0)
  where
    by : (b : A) × (found name (xs ++ (rows ++ back)) ≡ Some b) → (t : Bool) → (b : A) × (cond t (Some x.1) (found name (xs ++ (rows ++ back))) ≡ Some b)
    by h true = (x.1, refl)
    by h false = h

pub kind_among : (said rows back more : List (Row Said)) (name : List ℕ) (i : ℕ) → slice_get (names_in rows) i ≡ Some name → IsKind
    ((said ++ (rows ++ back)) ++ more) name → IsKind (said ++ (rows ++ back)) name
unfolding meaning_of
kind_among said rows back more name i e h =
    let (b, f) = found_among name (standard_said ++ said) rows back i e in
    kind_earlier (said ++ (rows ++ back)) more name b (ap (found name) (sym (append_assoc standard_said said (rows ++ back))) ∙ f) h

-- kinds of the language have their names everywhere
pub low_name : (names here : List (List ℕ)) (k : ℕ) → k < 8 → kind_name here k ≡ kind_name names k
low_name names here k l =
    let t = lt-ltb k 8 l in
    ap (λ b. if b then slice_get (names_in standard_kinds) k else slice_get here (k - 8)) t ∙ sym (ap (λ b. if b then slice_get (names_in standard_kinds) k else slice_get names (k - 8)) t)

-- types that are made of parts that were made
two_named : (a x : NamedTy) (ps xs : NamedTys) → a ≡ x → ps ≡ xs → more_named a ps ≡ more_named x xs
two_named a x ps xs e f = cc

two_arrows : (a x b y : NamedTy) → a ≡ x → b ≡ y → named_arrow a b ≡ named_arrow x y
two_arrows a x b y e f = cc

first_is : (o : Option TypeId) (t : TypeId) (os : List (Option TypeId)) (ts : List (Option TypeId)) → o ∷ os ≡ Some t ∷ ts → o ≡ Some t
first_is o t os ts e = cc

rest_is : (o p : Option TypeId) (os ps : List (Option TypeId)) → o ∷ os ≡ p ∷ ps → os ≡ ps
rest_is o p os ps e = cc

module _ (there here : Nodes) (names new : List (List ℕ)) (made : List TypeId) (seen : AreSeenTypes there here names new made) where
  parts_seen : (ids parts : List TypeId) → map (λ t. slice_get made t.0) ids ≡ map (λ t. Some t) parts →
      all_named (kind_name new) (tys (map (type_tree here) (map (λ t. t.0) parts))) ≡ all_named (kind_name names) (tys (map (type_tree there) (map (λ t. t.0) ids)))
  parts_seen [] [] e = refl
  parts_seen [] (p ∷ ps) e = absurd (cc)
  parts_seen (t ∷ ts) [] e = absurd (cc)
  parts_seen (t ∷ ts) (p ∷ ps) e =
      two_named (named (kind_name new) (type_tree here p.0)) (named (kind_name names) (type_tree there t.0)) _ _
      (seen t.0 p (first_is (slice_get made t.0) p (map (λ t. slice_get made t.0) ts) (map (λ t. Some t) ps) e)).1
      (parts_seen ts ps (rest_is (slice_get made t.0) (Some p) (map (λ t. slice_get made t.0) ts) (map (λ t. Some t) ps) e))

  module _ (id : ℕ) (shape : TypeShape) (tree : type_node_tree there shape ≡ type_tree there id) where
    pub con_seen : (k n : ℕ) (ids parts : List TypeId) → shape ≡ con_node k (map (λ t. t.0) ids) → map (λ t. slice_get made t.0) ids ≡ map (λ t. Some t) parts → kind_name new n ≡ kind_name names k →
        named (kind_name new) (con n (tys (map (type_tree here) (map (λ t. t.0) parts)))) ≡ named (kind_name names) (type_tree there id)
    con_seen k n ids parts is e name =
        (λ i. named_con (name i) (parts_seen ids parts e i)) ∙ ap (named (kind_name names)) (sym (sym tree ∙ ap (type_node_tree there) is))

    pub arrow_seen : (f t l r : TypeId) → shape ≡ arrow_node f.0 t.0 → slice_get made f.0 ≡ Some l → slice_get made t.0 ≡ Some r → named
        (kind_name new) (arrow (type_tree here l.0) (type_tree here r.0)) ≡ named (kind_name names) (type_tree there id)
    arrow_seen f t l r is e g =
        two_arrows (named (kind_name new) (type_tree here l.0)) (named (kind_name names) (type_tree there f.0))
        (named (kind_name new) (type_tree here r.0)) (named (kind_name names) (type_tree there t.0)) (seen f.0 l e).1 (seen t.0 r g).1 ∙
        ap (named (kind_name names)) (sym (sym tree ∙ ap (type_node_tree there) is))

    pub var_seen : (n : ℕ) → shape ≡ var_node n → named (kind_name new) (var n) ≡ named (kind_name names) (type_tree there id)
    var_seen n is = ap (named (kind_name names)) (sym (sym tree ∙ ap (type_node_tree there) is))

-- one more type was made
pub seen_later : (there here now : Nodes) (names new : List (List ℕ)) (made : List TypeId) → Extends here now → AreSeenTypes there here names new made → AreSeenTypes there now names new made
seen_later there here now names new made x s i t e =
    let h = s i t e in
    let l = h.0 in
    let m = x.more_types in
    (omega (arith, l, m), ap (named (kind_name new)) (x.same_types t.0 h.0) ∙ h.1)

pub seen_push : (there here : Nodes) (names new : List (List ℕ)) (made made_then : List TypeId) (i : ℕ) (t : TypeId) → made_then ≡ made ++ t ∷ [] →
    length made ≡ i → (t.0 < length here.types) × (named (kind_name new) (type_tree here t.0) ≡ named (kind_name names) (type_tree there i)) →
    AreSeenTypes there here names new made → AreSeenTypes there here names new made_then
seen_push there here names new made made_then i t e n h s j u at = by (last_or made j (ap (λ l. slice_get l j) (sym e) ∙ at))
  where
    last_or : (xs : List TypeId) (j : ℕ) → slice_get (xs ++ t ∷ []) j ≡ Some u → (slice_get xs j ≡ Some u) ⊎ ((j ≡ length xs) × (t ≡ u))
    last_or [] zero e = inr (refl, same_Some t u e)
    last_or [] (suc j) e = absurd (cc)
    last_or (x ∷ xs) zero e = inl e
    last_or (x ∷ xs) (suc j) e = next (last_or xs j e)
      where
        next : (slice_get xs j ≡ Some u) ⊎ ((j ≡ length xs) × (t ≡ u)) → (slice_get xs j ≡ Some u) ⊎ ((suc j ≡ suc (length xs)) × (t ≡ u))
        next (inl a) = inl a
        next (inr b) = inr (ap (λ n. suc n) b.0, b.1)

    by : (slice_get made j ≡ Some u) ⊎ ((j ≡ length made) × (t ≡ u)) → (u.0 < length here.types) × (named (kind_name new) (type_tree here u.0) ≡ named (kind_name names) (type_tree there j))
    by (inl a) = s j u a
    by (inr b) = subst (λ u. (u.0 < length here.types) × (named (kind_name new) (type_tree here u.0) ≡ named (kind_name names) (type_tree there j)))
        b.1 (subst (λ k. (t.0 < length here.types) × (named (kind_name new) (type_tree here t.0) ≡ named (kind_name names) (type_tree there k)))
        (sym (b.0 ∙ n)) h)
