-- What is known of constants, one more declaration after the other.
use Rattle.std.proofs.Common.{◌≡◌, ℕ, zero, suc, ◌+◌, ◌<◌, ◌≤◌, List, [], ◌∷◌, ◌++◌, Bool, true, false, length, get_or, arith, map, Option, Some, None, refl, sym, ap, subst, ◌∙◌, cond, true≢false}
use Rattle.std.specs.Prelude.{if◌then◌else◌, option_map, is_some, IfSome, ◌||◌}
use Rattle.std.specs.Str.{bytes_eq}
use Rattle.std.proofs.lemmas.List.{map-append}
use Rattle.std.proofs.lemmas.Option.{IfSome_then}
use Rattle.lp_lemmas.proofs.Options.{none_from_is_some}
use Rattle.lp_calculus.specs.Types.{Ty}
use Rattle.lp_term.specs.Nodes.{Nodes, Extends, type_tree}
use Rattle.lp_term.specs.declared.node.TypeId.{TypeId}
use Rattle.lp_sig.specs.Places.{first_place, place_of, HasPlaces}
use Rattle.lp_sig.specs.Rows.{Row, found}
use Rattle.lp_sig.specs.Standard.{standard_constants}
use Rattle.lp_sig.specs.Said.{Said, is_among, names_in, firsts}
use Rattle.lp_sig.specs.Types.{Definition}
use Rattle.lp_sig.specs.Abbreviations.{Seen}
use Rattle.lp_sig.specs.Standing.{TypeStands}
use Rattle.lp_sig.specs.Holding.{IsTree}
use Rattle.lp_sig.specs.Constants.{Written, declared_constants, IsSchemeOf, standard_tree, HasType, standard_one, declared_one, AreInStep, IsTyped, IsNoted, IfTyped, AreTypedIf, FirstStands, KnowsConstants, IsDeclared, IsKnownAs}
use Rattle.lp_sig.specs.declared.constants.Constant.{Constant}
use Rattle.lp_sig.specs.declared.constants.Constants.{Constants}
use Rattle.lp_sig.specs.declared.constants.DeclaredType.{DeclaredType}
use Rattle.lp_sig.specs.declared.constants.Known.TheVariants as known
use Rattle.lp_sig.proofs.Firsts.{same_known, firsts_more, place_among, found_among}
use Rattle.lp_sig.proofs.Growing.{found_more, type_stays}

-- lists in step
module _ {A B : Type 0} (P : ℕ → A → B → Type 0) where
  pub in_step_length : (n : ℕ) (xs : List A) (ys : List B) → AreInStep P n xs ys → length xs ≡ length ys
  in_step_length n [] [] h = refl
  in_step_length n [] (y ∷ ys) h = absurd h
  in_step_length n (x ∷ xs) [] h = absurd h
  in_step_length n (x ∷ xs) (y ∷ ys) h = ap (λ n. suc n) (in_step_length (suc n) xs ys h.1)

  pub in_step_more : (n m : ℕ) (xs : List A) (ys : List B) (x : A) (y : B) → AreInStep P n xs ys → m ≡ n + length xs → P m x y → AreInStep P n (xs ++ x ∷ []) (ys ++ y ∷ [])
  in_step_more n m [] [] x y h e p = (subst (λ m. P m x y) (let f : m ≡ n = omega (arith, e) in f) p, tt)
  in_step_more n m [] (z ∷ ys) x y h e p = absurd h
  in_step_more n m (z ∷ xs) [] x y h e p = absurd h
  in_step_more n m (z ∷ xs) (v ∷ ys) x y h e p = (h.0, in_step_more (suc n) m xs ys x y h.1 (omega (arith, e)) p)

  pub in_step_map : (Q : ℕ → A → B → Type 0) → ((n : ℕ) (x : A) (y : B) → P n x y → Q n x y) → (n : ℕ) (xs : List A) (ys : List B) → AreInStep P n xs ys → AreInStep Q n xs ys
  in_step_map Q f n [] [] h = h
  in_step_map Q f n [] (y ∷ ys) h = h
  in_step_map Q f n (x ∷ xs) [] h = h
  in_step_map Q f n (x ∷ xs) (y ∷ ys) h = (f n x y h.0, in_step_map Q f (suc n) xs ys h.1)

  pub in_step_both : (Q : ℕ → A → B → Type 0) (n : ℕ) (xs : List A) (ys : List B) → AreInStep P n xs ys → AreInStep Q n xs ys → AreInStep (λ n x y. P n x y × Q n x y) n xs ys
  in_step_both Q n [] [] h k = h
  in_step_both Q n [] (y ∷ ys) h k = h
  in_step_both Q n (x ∷ xs) [] h k = h
  in_step_both Q n (x ∷ xs) (y ∷ ys) h k = ((h.0, k.0), in_step_both Q (suc n) xs ys h.1 k.1)

  pub in_step_at : (n m : ℕ) (xs : List A) (ys : List B) (i : ℕ) (d : A) (e : B) → AreInStep P n xs ys → i < length ys → m ≡ n + i → P m (get_or xs i d) (get_or ys i e)
  in_step_at n m [] [] i d e h l is = absurd (omega (arith, l))
  in_step_at n m [] (y ∷ ys) i d e h l is = absurd h
  in_step_at n m (x ∷ xs) [] i d e h l is = absurd h
  in_step_at n m (x ∷ xs) (y ∷ ys) zero d e h l is = subst (λ m. P m x y) (let f : n ≡ m = omega (arith, is) in f) h.0
  in_step_at n m (x ∷ xs) (y ∷ ys) (suc i) d e h l is = in_step_at (suc n) m xs ys i d e h.1 (omega (arith, l)) (omega (arith, is))

-- more types and more sentences change nothing
pub scheme_stays : (said more : List (Row Said)) (defs others : List (Row Definition)) (w : Written) (n : ℕ) (t : Ty) → IsSchemeOf said defs w n t → IsSchemeOf (said ++ more) (defs ++ others) w n t
scheme_stays said more defs others w n t h = record {
  number = h.number;
  numbering = h.numbering;
  replaced = h.replaced;
  is = type_stays said more defs others w.text h.number w.raw.nodes.items w.raw.root h.replaced h.is;
  counted = h.counted;
  numbered = h.numbered;
}

pub typed_kept : (b c : Nodes) (said : List (Row Said)) (defs : List (Row Definition)) (w : Written) (d : DeclaredType) → Extends b c → IsTyped b said defs w d → IsTyped c said defs w d
typed_kept b c said defs w d x h =
    let more = x.more_types in
    let here = h.inside in
    record {
      inside = omega (arith, more, here);
      scheme = subst (IsSchemeOf said defs w d.type_vars) (sym (x.same_types d.scheme.0 here)) h.scheme;
    }

typed_stays : (b : Nodes) (said more : List (Row Said)) (defs others : List (Row Definition)) (w : Written) (d : DeclaredType) → IsTyped b said defs w d → IsTyped b (said ++ more) (defs ++ others) w d
typed_stays b said more defs others w d h = record {
  inside = h.inside;
  scheme = scheme_stays said more defs others w d.type_vars (type_tree b d.scheme.0) h.scheme;
}

pub constants_kept : (b c : Nodes) (constants : Constants) (said : List (Row Said)) (defs : List (Row Definition)) (rows : List (Row Written)) → Extends b c → KnowsConstants b constants said defs rows → KnowsConstants c constants said defs rows
constants_kept b c constants said defs rows x k = record {
  are = in_step_map (IsNoted b said defs) (IsNoted c said defs)
      (λ n r e h. record { name = h.name; typed = IfSome_then e.declared h.typed (λ d g. typed_kept b c said defs r.1 d x g) }) 32 (declared_constants rows) constants.constants.items k.are;
  places = k.places;
}

pub constants_stay : (b : Nodes) (constants : Constants) (said more : List (Row Said)) (defs others : List (Row Definition)) (rows : List (Row Written)) → KnowsConstants b constants said defs rows → KnowsConstants b constants (said ++ more) (defs ++ others) rows
constants_stay b constants said more defs others rows k = record {
  are = in_step_map (IsNoted b said defs) (IsNoted b (said ++ more) (defs ++ others))
      (λ n r e h. record { name = h.name; typed = IfSome_then e.declared h.typed (λ d g. typed_stays b said more defs others r.1 d g) }) 32 (declared_constants rows) constants.constants.items k.are;
  places = k.places;
}

-- a name that is not known is found among the first rows where it is found among all
pub firsts_found : {A : Type 0} (n : List ℕ) (known : List (List ℕ)) (rows : List (Row A)) → is_among n known ≡ false → found n (firsts known rows) ≡ found n rows
firsts_found n known [] h = refl
firsts_found {A} n known (r ∷ rs) h = by (is_among r.0 known) (bytes_eq n r.0) refl refl (firsts_found n known rs h) (firsts_found n (r.0 ∷ known) rs)
  where
    by : (t b : Bool) → is_among r.0 known ≡ t → bytes_eq n r.0 ≡ b → found n (firsts known rs) ≡ found n rs → ((b || is_among n known) ≡ false → found n (firsts (r.0 ∷ known) rs) ≡ found n rs) →
        found n (if t then firsts known rs else r ∷ firsts (r.0 ∷ known) rs) ≡ cond b (Some r.1) (found n rs)
    by true true p q f g = absurd (true≢false (sym (same_known n r.0 known p q) ∙ h))
    by true false p q f g = f
    by false true p q f g = ap (λ b. cond b (Some r.1) (found n (firsts (r.0 ∷ known) rs))) q
    by false false p q f g = ap (λ b. cond b (Some r.1) (found n (firsts (r.0 ∷ known) rs))) q ∙ g h

pub not_among : {A : Type 0} (n : List ℕ) (rows : List (Row A)) → found n rows ≡ None → is_among n (names_in rows) ≡ false
not_among n rows e = sym (found_among n rows) ∙ ap is_some e

pub found_first : (name : List ℕ) (rows : List (Row Written)) → found name standard_constants ≡ None → found name (declared_constants rows) ≡ found name rows
found_first name rows e = firsts_found name (names_in standard_constants) rows (not_among name standard_constants e)

-- constants in step with rows, each with the name of its row: the first constant of a name is that of the first row
module _ (P : ℕ → Row Written → Constant → Type 0) (named : (n : ℕ) (row : Row Written) (c : Constant) → P n row c → c.name.items ≡ row.0) where
  names_same : (n : ℕ) (rows : List (Row Written)) (cs : List Constant) → AreInStep P n rows cs → map (λ c. c.name.items) cs ≡ names_in rows
  names_same n [] [] h = refl
  names_same n [] (c ∷ cs) h = absurd h
  names_same n (r ∷ rs) [] h = absurd h
  names_same n (r ∷ rs) (c ∷ cs) h = ap (λ x. x ∷ map (λ c. c.name.items) cs) (named n r c h.0) ∙ ap (λ xs. r.0 ∷ xs) (names_same (suc n) rs cs h.1)

  IsOfFirst : List ℕ → List (Row Written) → Constant → Type 0
  IsOfFirst name rows c = (n : ℕ) × (row : Row Written) × (found name rows ≡ Some row.1) × P n row c

  behind : (name : List ℕ) (r : Row Written) (rs : List (Row Written)) (c : Constant) → bytes_eq name r.0 ≡ false → IsOfFirst name rs c → IsOfFirst name (r ∷ rs) c
  unfolding IsOfFirst
  behind name r rs c e h = (h.0, h.1, ap (λ b. cond b (Some r.1) (found name rs)) e ∙ h.2, h.3)

  of_first : (name : List ℕ) (n : ℕ) (rows : List (Row Written)) (cs : List Constant) (i : ℕ) (c : Constant) → AreInStep P n rows cs → first_place name (map (λ c. c.name.items) cs) ≡ Some i → c ≡ get_or cs i c → IsOfFirst name rows c
  unfolding IsOfFirst
  of_first name n [] [] i c h e is = absurd (cc)
  of_first name n [] (x ∷ cs) i c h e is = absurd h
  of_first name n (r ∷ rs) [] i c h e is = absurd h
  of_first name n (r ∷ rs) (x ∷ cs) i c h e is = by (λ i p q. of_first name (suc n) rs cs i c h.1 p q) (bytes_eq name x.name.items) refl (first_place name (map (λ c. c.name.items) cs)) refl i e is
    where
      same : (t : Bool) → bytes_eq name x.name.items ≡ t → bytes_eq name r.0 ≡ t
      same t f = ap (bytes_eq name) (sym (named n r x h.0)) ∙ f

      by : ((i : ℕ) → first_place name (map (λ c. c.name.items) cs) ≡ Some i → c ≡ get_or cs i c → IsOfFirst name rs c) → (t : Bool) → bytes_eq name
          x.name.items ≡ t → (o : Option ℕ) → first_place name (map (λ c. c.name.items) cs) ≡ o → (i : ℕ) →
          (if t then Some 0 else option_map (λ i. suc i) o) ≡ Some i → c ≡ get_or (x ∷ cs) i c → IsOfFirst name (r ∷ rs) c
      by deeper true f o g zero e is = (n, r, ap (λ b. cond b (Some r.1) (found name rs)) (same true f), subst (P n r) (sym is) h.0)
      by deeper true f o g (suc i) e is = absurd (cc)
      by deeper false f None g i e is = absurd (cc)
      by deeper false f (Some j) g zero e is = absurd (cc)
      by deeper false f (Some j) g (suc i) e is =
          let k : j ≡ i = cc in
          behind name r rs c (same false f) (deeper i (g ∙ ap (λ i. Some i) k) is)

-- what is known of a name
module _ (b : Nodes) (constants : Constants) (said : List (Row Said)) (defs : List (Row Definition)) (rows : List (Row Written)) (name : List ℕ) where
  pub known_standard : (now : Nodes) (n : ℕ) (id : TypeId) → Some n ≡ found name standard_constants → IsTree now (λ t. t ≡ standard_tree n) id → IsKnownAs now said defs rows name (known.Typed id)
  known_standard now n id e t = (t.0, standard_one n (sym e) t.1)

  module _ (k : KnowsConstants b constants said defs rows) (standard : None ≡ found name standard_constants) where
    all_names : List (List ℕ)
    all_names = map (λ c. c.name.items) constants.constants.items

    pub known_new : None ≡ place_of constants.places name → IsKnownAs b said defs rows name known.New
    unfolding all_names
    known_new e =
        let names = names_same (IsNoted b said defs) (λ n row c h. h.name) 32 (declared_constants rows) constants.constants.items k.are in
        let here : is_some (found name (declared_constants rows)) ≡ false =
        found_among name (declared_constants rows) ∙ ap (is_among name) (sym names) ∙ sym (place_among name all_names) ∙ ap is_some (sym (k.places name) ∙ sym e) in
        (sym standard, sym (found_first name rows (sym standard)) ∙ none_from_is_some (found name (declared_constants rows)) here)

    there : (i : ℕ) (c : Constant) → Some i ≡ place_of constants.places name → c ≡ get_or constants.constants.items i c → IsOfFirst (IsNoted b said defs) (λ n row c h. h.name) name (declared_constants rows) c
    there i c e is = of_first (IsNoted b said defs) (λ n row c h. h.name) name 32 (declared_constants rows) constants.constants.items i c k.are (sym (k.places name) ∙ sym e) is

    pub known_typed : (i : ℕ) (c : Constant) (d : DeclaredType) → Some i ≡ place_of constants.places name → c ≡ get_or constants.constants.items i c → c.declared ≡ Some d → IsKnownAs b said defs rows name (known.Typed d.scheme)
    unfolding IsOfFirst
    known_typed i c d e is some =
        let h = there i c e is in
        let t : IsTyped b said defs h.1.1 d = subst (λ o. IfSome o (IsTyped b said defs h.1.1)) some h.3.typed in
        (t.inside, declared_one (sym standard) h.1.1 (sym (found_first name rows (sym standard)) ∙ h.2) d.type_vars t.scheme)

    pub known_untyped : (i : ℕ) (c : Constant) → Some i ≡ place_of constants.places name → c ≡ get_or constants.constants.items i c → IsKnownAs b said defs rows name known.Untyped
    unfolding IsOfFirst
    known_untyped i c e is =
        let h = there i c e is in
        ap (λ t. t || is_among name (names_in rows)) (not_among name standard_constants (sym standard)) ∙ sym (found_among name rows) ∙ ap is_some (sym (found_first name rows (sym standard)) ∙ h.2)

-- a name with a type is declared
pub typed_declared : (said : List (Row Said)) (defs : List (Row Definition)) (rows : List (Row Written)) (name : List ℕ) (t : Ty) → HasType said defs rows name t → IsDeclared name rows
typed_declared said defs rows name t (standard_one n e f) = ap (λ t. t || is_among name (names_in rows)) (sym (found_among name standard_constants) ∙ ap is_some e)
typed_declared said defs rows name t (declared_one none w e n f) = ap (λ t. t || is_among name (names_in rows)) (not_among name standard_constants none) ∙ sym (found_among name rows) ∙ ap is_some e

declared_again : (rows : List (Row Written)) (r : Row Written) → IsDeclared r.0 rows → declared_constants (rows ++ r ∷ []) ≡ declared_constants rows
declared_again rows r h = firsts_more (names_in standard_constants) rows r ∙ ap (λ t. if t then declared_constants rows else declared_constants rows ++ r ∷ []) h

declared_new : (rows : List (Row Written)) (r : Row Written) → found r.0 standard_constants ≡ None → found r.0 rows ≡ None → declared_constants (rows ++ r ∷ []) ≡ declared_constants rows ++ r ∷ []
declared_new rows r e f =
    firsts_more (names_in standard_constants) rows r ∙ ap (λ t. if t || is_among r.0 (names_in rows) then declared_constants rows else declared_constants rows ++ r ∷ []) (not_among r.0 standard_constants e) ∙
    ap (λ t. if t then declared_constants rows else declared_constants rows ++ r ∷ []) (not_among r.0 rows f)

-- a name that is declared again
pub known_again : (b : Nodes) (constants : Constants) (said : List (Row Said)) (defs : List (Row Definition)) (rows : List (Row Written)) (r : Row Written) → IsDeclared r.0 rows → KnowsConstants b constants said defs rows → KnowsConstants b constants said defs (rows ++ r ∷ [])
known_again b constants said defs rows r h k = record {
  are = subst (λ rows. AreInStep (IsNoted b said defs) 32 rows constants.constants.items) (sym (declared_again rows r h)) k.are;
  places = k.places;
}

pub known_typed_again : (b : Nodes) (constants : Constants) (said : List (Row Said)) (defs : List (Row Definition)) (rows : List (Row Written))
    (r : Row Written) (t : Ty) → HasType said defs rows r.0 t → KnowsConstants b constants said defs rows → KnowsConstants b constants said defs
    (rows ++ r ∷ [])
known_typed_again b constants said defs rows r t h k = known_again b constants said defs rows r (typed_declared said defs rows r.0 t h) k

pub has_more : (said : List (Row Said)) (defs : List (Row Definition)) (rows more : List (Row Written)) (name : List ℕ) (t : Ty) → HasType said defs rows name t → HasType said defs (rows ++ more) name t
has_more said defs rows more name t (standard_one n e f) = standard_one n e f
has_more said defs rows more name t (declared_one none w e n f) = declared_one none w (found_more name rows more w e) n f

-- a new name
pub found_last : {A : Type 0} (name : List ℕ) (rows : List (Row A)) (a : A) → found name rows ≡ None → bytes_eq name name ≡ true → found name (rows ++ (name, a) ∷ []) ≡ Some a
found_last name [] a none same = ap (λ b. cond b (Some a) None) same
found_last {A} name (r ∷ rs) a none same = by (bytes_eq name r.0) none (found_last name rs a)
  where
    by : (b : Bool) → cond b (Some r.1) (found name rs) ≡ None → (found name rs ≡ None → bytes_eq name name ≡ true → found name (rs ++ (name, a) ∷ []) ≡ Some a) → cond b (Some r.1) (found name (rs ++ (name, a) ∷ [])) ≡ Some a
    by true e f = absurd (cc)
    by false e f = f e same

as_some : {X : Type 0} (o : Option X) (P : X → Type 0) → ((x : X) → o ≡ Some x → P x) → IfSome o P
as_some None P h = tt
as_some (Some x) P h = h x refl

module _ (b : Nodes) (old now : Constants) (said : List (Row Said)) (defs : List (Row Definition)) (rows : List (Row Written)) (word : List ℕ) (w : Written) (k : KnowsConstants b old said defs rows) (new : (found word standard_constants ≡ None) × (found word rows ≡ None)) where
  pub known_more : (c : Constant) → IfTyped c.declared (IsTyped b said defs w) → c.name.items ≡ word → now.constants.items ≡ old.constants.items ++ c ∷ [] → HasPlaces now.places (map (λ c. c.name.items) old.constants.items ++ word ∷ []) →
      KnowsConstants b now said defs (rows ++ (word, w) ∷ [])
  known_more c typed named are places =
      let l = in_step_length (IsNoted b said defs) 32 (declared_constants rows) old.constants.items k.are in
      record {
        are = subst (λ rs. AreInStep (IsNoted b said defs) 32 rs now.constants.items) (sym (declared_new rows (word, w) new.0 new.1))
            (subst (AreInStep (IsNoted b said defs) 32 (declared_constants rows ++ (word, w) ∷ [])) (sym are)
            (in_step_more (IsNoted b said defs) 32 (32 + length (declared_constants rows)) (declared_constants rows) old.constants.items (word, w) c k.are refl (record { name = named; typed = as_some c.declared (IsTyped b said defs w) typed })));
        places = subst (HasPlaces now.places) (ap (λ n. map (λ c. c.name.items) old.constants.items ++ n ∷ []) (sym named) ∙ sym (map-append (λ c. c.name.items) old.constants.items (c ∷ [])) ∙ ap (map (λ c. c.name.items)) (sym are)) places;
      }

pub no_number_left : (b : Nodes) (old : Constants) (said : List (Row Said)) (defs : List (Row Definition)) (rows : List (Row Written)) → KnowsConstants b old said defs rows → 65535 ≤ 32 + length old.constants.items → 65535 ≤ 32 + length (declared_constants rows)
no_number_left b old said defs rows k h =
    let l = in_step_length (IsNoted b said defs) 32 (declared_constants rows) old.constants.items k.are in
    omega (arith, h, l)

-- what was declared is not new
pub not_new : (rows : List (Row Written)) (name : List ℕ) → IsDeclared name rows → found name standard_constants ≡ None → found name rows ≡ None → ⊥
not_new rows name h e f = true≢false (sym h ∙ ap (λ t. t || is_among name (names_in rows)) (not_among name standard_constants e) ∙ not_among name rows f)

-- constants that have a type if that of their row stands
abbrev pub IsTypedIf : ℕ → Seen → ℕ → Row Written → Constant → Type 0
IsTypedIf from z n row c = TypeStands from z row.1.text row.1.raw → is_some c.declared ≡ true

module _ (from : ℕ) (z : Seen) (rows : List (Row Written)) where
  -- a name that is declared again, and a new one
  pub typed_if_again : (constants : Constants) (r : Row Written) → IsDeclared r.0 rows → AreTypedIf from z rows constants → AreTypedIf from z (rows ++ r ∷ []) constants
  typed_if_again constants r h typed = subst (λ rows. AreInStep (IsTypedIf from z) 32 rows constants.constants.items) (sym (declared_again rows r h)) typed

  pub typed_if_more : (old : Constants) (now : List Constant) (word : List ℕ) (w : Written) (c : Constant) → (found word standard_constants ≡ None) × (found word rows ≡ None) → now ≡ old.constants.items ++ c ∷ [] →
      (TypeStands from z w.text w.raw → is_some c.declared ≡ true) → AreTypedIf from z rows old → AreInStep (IsTypedIf from z) 32 (declared_constants (rows ++ (word, w) ∷ [])) now
  typed_if_more old now word w c new are some typed =
      subst (λ rs. AreInStep (IsTypedIf from z) 32 rs now) (sym (declared_new rows (word, w) new.0 new.1))
      (subst (AreInStep (IsTypedIf from z) 32 (declared_constants rows ++ (word, w) ∷ [])) (sym are)
      (in_step_more (IsTypedIf from z) 32 (32 + length (declared_constants rows)) (declared_constants rows) old.constants.items (word, w) c typed refl some))

  -- a constant without a type, though the first type of its name stands
  pub never_untyped : (b : Nodes) (constants : Constants) (name : List ℕ) (i : ℕ) (c : Constant) → KnowsConstants b constants z.said z.definitions rows → AreTypedIf from z rows constants → None ≡ found name standard_constants → Some i ≡ place_of constants.places name →
      c ≡ get_or constants.constants.items i c → c.declared ≡ None → FirstStands from z rows name → ⊥
  unfolding IsOfFirst
  never_untyped b constants name i c k typed standard e is none first =
      let both = in_step_both (IsNoted b z.said z.definitions) (IsTypedIf from z) 32 (declared_constants rows) constants.constants.items k.are typed in
      let h = of_first (λ n row c. IsNoted b z.said z.definitions n row c × IsTypedIf from z n row c) (λ n row c h. h.0.name) name 32 (declared_constants rows) constants.constants.items i c both (sym (k.places name) ∙ sym e) is in
      true≢false (sym (h.3.1 (first h.1.1 (sym standard) (sym (found_first name rows (sym standard)) ∙ h.2))) ∙ ap is_some none)
