-- What the bodies of abbreviations use, one more declaration after the other.
use Rattle.std.proofs.Common.{◌≡◌, ℕ, suc, ◌+◌, ◌<◌, ◌≤◌, List, [], ◌∷◌, ◌++◌, Bool, true, false, length, map, take, take_all, drop, get_or, arith, Option, Some, None, refl, sym, ap, subst, ◌∙◌, true≢false, append_assoc, append-nil, ⊎_elim}
use Rattle.std.specs.Prelude.{if◌then◌else◌, option_map, is_some, ◌||◌}
use Rattle.std.specs.Str.{bytes_eq}
use Rattle.std.proofs.lemmas.Slice.Eq.{bytes_eq-Decides}
use Rattle.std.proofs.lemmas.List.{map-append, length-map, take_more, take-append-drop}
use Rattle.lp_base.specs.declared.place.Spot.{Spot}
use Rattle.lp_syntax.specs.declared.text.Declaration.{Declaration}
use Rattle.lp_syntax.specs.declared.text.Declaration.TheVariants.{Kinds, LocalKinds, Constants, Locals, Abbreviation, Accumulate, AccumSig, Fixities}
use Rattle.std.specs.Global.{Global}
use Rattle.std.specs.Prelude.{Vec}
use Rattle.std.proofs.lemmas.Bool.{or_left, or_right, or_cases}
use Rattle.lp_lemmas.proofs.Booleans.{bytes_eq_self}
use Rattle.lp_syntax.specs.declared.text.RawType.{RawType}
use Rattle.lp_syntax.specs.declared.text.RawTypeNode.{RawTypeNode}
use Rattle.lp_syntax.specs.declared.text.RawTypeNode.TheVariants.{Word, Arrow}
use Rattle.lp_sig.specs.Pieces.{spelled, begins_variable}
use Rattle.lp_sig.specs.Places.{first_place, place_of}
use Rattle.lp_sig.specs.Rows.{Row, found}
use Rattle.lp_sig.specs.Standard.{standard_kinds}
use Rattle.lp_sig.specs.Said.{Said, a_kind, an_abbreviation, each, is_among, names_in, firsts, declared_names, abbreviations_among, said_by, said_in}
use Rattle.lp_sig.specs.Knowing.{Knows, is_known}
use Rattle.lp_sig.specs.Loading.{Way, ways_in}
use Rattle.lp_sig.specs.Abbreviations.{abbreviation_names, type_names, uses_in, Seen, bodies_by, bodies_in, seen_text, seen_line, one_body, uses_of, KnowsUses}
use Rattle.lp_sig.specs.declared.names.Names.{Names}
use Rattle.lp_sig.proofs.Firsts.{firsts_names, place_among, found_among}
use Rattle.lp_sig.proofs.Knowledge.{names_of, declared_new}
use Rattle.lp_sig.proofs.Spoken.{said_append, said_more}
use Rattle.lp_sig.proofs.Naming.{one_way, ways_append}

pub among_append : (n : List ℕ) (xs ys : List (List ℕ)) → is_among n (xs ++ ys) ≡ (is_among n xs || is_among n ys)
among_append n [] ys = refl
among_append n (x ∷ xs) ys = by (bytes_eq n x) (is_among n (xs ++ ys)) (is_among n xs) (is_among n ys) (among_append n xs ys)
  where
    by : (b r a k : Bool) → r ≡ (a || k) → (b || r) ≡ ((b || a) || k)
    by true r a k e = refl
    by false r a k e = e

names_append : {A : Type 0} (xs ys : List (Row A)) → names_in (xs ++ ys) ≡ names_in xs ++ names_in ys
names_append xs ys = map-append (λ r. r.0) xs ys

-- the names that are known behind rows
known_after : {A : Type 0} → List (List ℕ) → List (Row A) → List (List ℕ)
known_after known [] = known
known_after known (r ∷ rs) = if is_among r.0 known then known_after known rs else known_after (r.0 ∷ known) rs

module _ {A : Type 0} where
  firsts_append : (known : List (List ℕ)) (xs ys : List (Row A)) → firsts known (xs ++ ys) ≡ firsts known xs ++ firsts (known_after known xs) ys
  unfolding known_after
  firsts_append known [] ys = refl
  firsts_append known (x ∷ xs) ys = by (is_among x.0 known) _ _ _ _ _ _ (firsts_append known xs ys) (firsts_append (x.0 ∷ known) xs ys)
    where
      by : (t : Bool) (a b f g : List (Row A)) (k l : List (List ℕ)) → a ≡ f ++ firsts k ys → b ≡ g ++ firsts l ys → (if t then a else x ∷ b) ≡ (if t then f else x ∷ g) ++ firsts (if t then k else l) ys
      by true a b f g k l p q = p
      by false a b f g k l p q = ap (λ z. x ∷ z) q

  still_known : (n : List ℕ) (known : List (List ℕ)) (xs : List (Row A)) → is_among n known ≡ true → is_among n (known_after known xs) ≡ true
  unfolding known_after
  still_known n known [] h = h
  still_known n known (x ∷ xs) h = by (is_among x.0 known) (still_known n known xs h) (still_known n (x.0 ∷ known) xs (or_right (bytes_eq n x.0) (is_among n known) h))
    where
      by : (t : Bool) → is_among n (known_after known xs) ≡ true → is_among n (known_after (x.0 ∷ known) xs) ≡ true → is_among n (if t then known_after known xs else known_after (x.0 ∷ known) xs) ≡ true
      by true p q = p
      by false p q = q

  said_known : (n : List ℕ) (known : List (List ℕ)) (xs : List (Row A)) → is_among n (names_in xs) ≡ true → is_among n (known_after known xs) ≡ true
  unfolding known_after
  said_known n known [] h = absurd (true≢false (sym h))
  said_known n known (x ∷ xs) h = ⊎_elim (λ e. this (is_among x.0 known) refl ((bytes_eq-Decides n x.0).0 e)) (λ e. by (is_among x.0 known) (said_known n known xs e) (said_known n (x.0 ∷ known) xs e)) (or_cases (bytes_eq n x.0) (is_among n (names_in xs)) h)
    where
      by : (t : Bool) → is_among n (known_after known xs) ≡ true → is_among n (known_after (x.0 ∷ known) xs) ≡ true → is_among n (if t then known_after known xs else known_after (x.0 ∷ known) xs) ≡ true
      by true p q = p
      by false p q = q

      this : (t : Bool) → is_among x.0 known ≡ t → n ≡ x.0 → is_among n (if t then known_after known xs else known_after (x.0 ∷ known) xs) ≡ true
      this true e same = still_known n known xs (ap (λ m. is_among m known) same ∙ e)
      this false e same = still_known n (x.0 ∷ known) xs (or_left (bytes_eq n x.0) (is_among n known) (ap (λ m. bytes_eq m x.0) same ∙ bytes_eq_self x.0))

  -- what is known has no first row
  apart : (n : List ℕ) (known : List (List ℕ)) (xs : List (Row A)) → is_among n known ≡ true → is_among n (names_in (firsts known xs)) ≡ false
  apart n known [] h = refl
  apart n known (x ∷ xs) h = by (is_among x.0 known) refl (apart n known xs h) (apart n (x.0 ∷ known) xs (or_right (bytes_eq n x.0) (is_among n known) h))
    where
      other : (t : Bool) → bytes_eq n x.0 ≡ t → is_among x.0 known ≡ false → is_among n (names_in (firsts (x.0 ∷ known) xs)) ≡ false → (t || is_among n (names_in (firsts (x.0 ∷ known) xs))) ≡ false
      other true e f q = absurd (true≢false (sym h ∙ ap (λ m. is_among m known) ((bytes_eq-Decides n x.0).0 e) ∙ f))
      other false e f q = q

      by : (t : Bool) → is_among x.0 known ≡ t → is_among n (names_in (firsts known xs)) ≡ false → is_among n (names_in (firsts (x.0 ∷ known) xs)) ≡ false → is_among n (names_in (if t then firsts known xs else x ∷ firsts (x.0 ∷ known) xs)) ≡ false
      by true e p q = p
      by false e p q = other (bytes_eq n x.0) refl e q

heads_fewer : (n : List ℕ) (rows : List (Row Said)) → is_among n (names_in rows) ≡ false → is_among n (names_in (abbreviations_among rows)) ≡ false
heads_fewer n [] h = refl
heads_fewer n ((m, a_kind c) ∷ rs) h = by (bytes_eq n m) h (heads_fewer n rs)
  where
    by : (t : Bool) → (t || is_among n (names_in rs)) ≡ false → (is_among n (names_in rs) ≡ false → is_among n (names_in (abbreviations_among rs)) ≡ false) → is_among n (names_in (abbreviations_among rs)) ≡ false
    by true e f = absurd (true≢false e)
    by false e f = f e
heads_fewer n ((m, an_abbreviation p) ∷ rs) h = by (bytes_eq n m) h (heads_fewer n rs)
  where
    by : (t : Bool) → (t || is_among n (names_in rs)) ≡ false → (is_among n (names_in rs) ≡ false → is_among n (names_in (abbreviations_among rs)) ≡ false) → (t || is_among n (names_in (abbreviations_among rs))) ≡ false
    by true e f = absurd (true≢false e)
    by false e f = f e

heads_append : (xs ys : List (Row Said)) → abbreviations_among (xs ++ ys) ≡ abbreviations_among xs ++ abbreviations_among ys
heads_append [] ys = refl
heads_append ((m, a_kind c) ∷ rs) ys = heads_append rs ys
heads_append ((m, an_abbreviation p) ∷ rs) ys = ap (λ z. (m, p) ∷ z) (heads_append rs ys)

-- the abbreviations that come with more rows
later : List (Row Said) → List (Row Said) → List (List ℕ)
later xs ys = names_in (abbreviations_among (firsts (known_after (names_in standard_kinds) xs) ys))

names_later : (xs ys : List (Row Said)) → abbreviation_names (xs ++ ys) ≡ abbreviation_names xs ++ later xs ys
unfolding later
names_later xs ys =
    ap (λ z. names_in (abbreviations_among z)) (firsts_append (names_in standard_kinds) xs ys) ∙
    ap names_in (heads_append (firsts (names_in standard_kinds) xs) (firsts (known_after (names_in standard_kinds) xs) ys)) ∙
    names_append (abbreviations_among (firsts (names_in standard_kinds) xs)) (abbreviations_among (firsts (known_after (names_in standard_kinds) xs) ys))

not_later : (n : List ℕ) (xs ys : List (Row Said)) → is_known n xs ≡ true → is_among n (later xs ys) ≡ false
unfolding later
not_later n xs ys h = heads_fewer n (firsts known ys) (apart n known ys (⊎_elim (λ e. still_known n (names_in standard_kinds) xs e) (λ e. said_known n (names_in standard_kinds) xs e) (or_cases (is_among n (names_in standard_kinds)) (is_among n (names_in xs)) h)))
  where
    known : List (List ℕ)
    known = known_after (names_in standard_kinds) xs

-- a standard name is no abbreviation
pub standard_apart : (n : List ℕ) (said : List (Row Said)) → is_among n (names_in standard_kinds) ≡ true → is_among n (abbreviation_names said) ≡ false
standard_apart n said h = heads_fewer n (declared_names said) (apart n (names_in standard_kinds) said h)

no_place : (n : List ℕ) (ns : List (List ℕ)) → is_among n ns ≡ false → first_place n ns ≡ None
no_place n ns h = by (first_place n ns) (place_among n ns ∙ h)
  where
    by : (o : Option ℕ) → is_some o ≡ false → o ≡ None
    by None e = refl
    by (Some i) e = absurd (true≢false e)

pub heads_are : (names : Names) (said : List (Row Said)) → Knows names said → map (λ h. h.name.items) names.heads.items ≡ abbreviation_names said
heads_are names said k = sym (names_of (λ h. h.name.items) (λ h. h.parameters) names.heads.items) ∙ ap names_in k.heads

pub place_standard : (n : List ℕ) (said : List (Row Said)) (o : Option (ℕ × ℕ)) → is_some o ≡ true → o ≡ found n standard_kinds → None ≡ first_place n (abbreviation_names said)
place_standard n said o some is = sym (no_place n (abbreviation_names said) (standard_apart n said (sym (found_among n standard_kinds) ∙ ap is_some (sym is) ∙ some)))

pub place_head : (names : Names) (said : List (Row Said)) (n : List ℕ) (o : Option ℕ) → Knows names said → o ≡ place_of names.head_places n → o ≡ first_place n (abbreviation_names said)
place_head names said n o k is = is ∙ k.head_places n ∙ ap (first_place n) (heads_are names said k)

in_front : (n : List ℕ) (ms bs : List (List ℕ)) (i : ℕ) → is_among n ms ≡ true → first_place n (ms ++ bs) ≡ Some i → i < length ms
in_front n [] bs i h e = absurd (true≢false (sym h))
in_front n (a ∷ ms) bs i h e = by (λ j f q. in_front n ms bs j f q) (bytes_eq n a) h e (first_place n (ms ++ bs)) refl
  where
    some_of : (x y : ℕ) → Some x ≡ Some y → x ≡ y
    some_of x y e = cc

    by : ((j : ℕ) → is_among n ms ≡ true → first_place n (ms ++ bs) ≡ Some j → j < length ms) → (t : Bool) → (t || is_among n ms) ≡ true → (if t then Some 0 else option_map (λ i. suc i) (first_place n (ms ++ bs))) ≡ Some i → (o : Option ℕ) → first_place n (ms ++ bs) ≡ o → i < suc (length ms)
    by r true h e o q = let z : 0 ≡ i = some_of 0 i e in omega (arith, z)
    by r false h e None q = absurd (cc)
    by r false h e (Some j) q =
        let z : suc j ≡ i = some_of (suc j) i (ap (option_map (λ i. suc i)) (sym q) ∙ e) in
        let l = r j h q in
        omega (arith, z, l)

behind : (n : List ℕ) (ms bs : List (List ℕ)) → is_among n ms ≡ false → first_place n (ms ++ (n ∷ bs)) ≡ Some (length ms)
behind n [] bs h = ap (λ t. if t then Some 0 else option_map (λ i. suc i) (first_place n bs)) (bytes_eq_self n)
behind n (a ∷ ms) bs h = by (bytes_eq n a) h (behind n ms bs)
  where
    by : (t : Bool) → (t || is_among n ms) ≡ false → (is_among n ms ≡ false → first_place n (ms ++ (n ∷ bs)) ≡ Some (length ms)) → (if t then Some 0 else option_map (λ i. suc i) (first_place n (ms ++ (n ∷ bs)))) ≡ Some (suc (length ms))
    by true h f = absurd (true≢false h)
    by false h f = ap (option_map (λ i. suc i)) (f h)

uses_same : (bodies : List (Row (List Way))) (x : Row (List Way)) (n : List ℕ) → is_among n (names_in bodies) ≡ true → uses_of bodies n ≡ uses_of (bodies ++ x ∷ []) n
uses_same [] x n h = absurd (true≢false (sym h))
uses_same (b ∷ bs) x n h = by (bytes_eq n b.0) h (uses_same bs x n)
  where
    by : (t : Bool) → (t || is_among n (names_in bs)) ≡ true → (is_among n (names_in bs) ≡ true → uses_of bs n ≡ uses_of (bs ++ x ∷ []) n) → (if t then b.1 else uses_of bs n) ≡ (if t then b.1 else uses_of (bs ++ x ∷ []) n)
    by true h f = refl
    by false h f = f h

uses_new : (bodies : List (Row (List Way))) (n : List ℕ) (w : List Way) → is_among n (names_in bodies) ≡ false → uses_of (bodies ++ (n, w) ∷ []) n ≡ w
uses_new [] n w h = ap (λ t. if t then w else []) (bytes_eq_self n)
uses_new (b ∷ bs) n w h = by (bytes_eq n b.0) h (uses_new bs n w)
  where
    by : (t : Bool) → (t || is_among n (names_in bs)) ≡ false → (is_among n (names_in bs) ≡ false → uses_of (bs ++ (n, w) ∷ []) n ≡ w) → (if t then b.1 else uses_of (bs ++ (n, w) ∷ []) n) ≡ w
    by true h f = absurd (true≢false h)
    by false h f = f h

map_same : {A : Type 0} (f g : List ℕ → A) (ns : List (List ℕ)) → ((n : List ℕ) → is_among n ns ≡ true → f n ≡ g n) → map f ns ≡ map g ns
map_same f g [] h = refl
map_same f g (n ∷ ns) h = ap (λ y. y ∷ map f ns) (h n (or_left (bytes_eq n n) (is_among n ns) (bytes_eq_self n))) ∙ ap (λ z. g n ∷ z) (map_same f g ns (λ m e. h m (or_right (bytes_eq m n) (is_among m ns) e)))

-- a known name is declared again, and a new one for the first time
module _ (uses : List (List Way)) (z : Seen) (n : List ℕ) (p : ℕ) (w : List Way) (k : KnowsUses uses z) where
  more_bodies : (m : List ℕ) → is_among m (names_in z.bodies) ≡ true → is_among m (names_in (z.bodies ++ (n, w) ∷ [])) ≡ true
  more_bodies m h = ap (is_among m) (names_append z.bodies ((n, w) ∷ [])) ∙ among_append m (names_in z.bodies) (n ∷ []) ∙ or_left (is_among m (names_in z.bodies)) (is_among m (n ∷ [])) h

  more_said : (m : List ℕ) → is_among m (names_in (z.bodies ++ (n, w) ∷ [])) ≡ true → is_among m (names_in (z.said ++ (n, an_abbreviation p) ∷ [])) ≡ true
  more_said m h =
      ap (is_among m) (names_append z.said ((n, an_abbreviation p) ∷ [])) ∙ among_append m (names_in z.said) (n ∷ []) ∙
      ⊎_elim (λ e. or_left (is_among m (names_in z.said)) (is_among m (n ∷ [])) (k.said m e)) (λ e. or_right (is_among m (names_in z.said)) (is_among m (n ∷ [])) e)
      (or_cases (is_among m (names_in z.bodies)) (is_among m (n ∷ [])) (sym (among_append m (names_in z.bodies) (n ∷ [])) ∙ sym (ap (is_among m) (names_append z.bodies ((n, w) ∷ []))) ∙ h))

  same_uses : map (uses_of z.bodies) (abbreviation_names z.said) ≡ map (uses_of (z.bodies ++ (n, w) ∷ [])) (abbreviation_names z.said)
  same_uses = map_same (uses_of z.bodies) (uses_of (z.bodies ++ (n, w) ∷ [])) (abbreviation_names z.said) (λ m h. uses_same z.bodies (n, w) m (k.has m h))

  one_later : (m : List (List ℕ)) → later z.said ((n, an_abbreviation p) ∷ []) ≡ m → abbreviation_names (z.said ++ (n, an_abbreviation p) ∷ []) ≡ abbreviation_names z.said ++ m
  one_later m e = names_later z.said ((n, an_abbreviation p) ∷ []) ∙ ap (λ y. abbreviation_names z.said ++ y) e

  later_known : is_known n z.said ≡ true → later z.said ((n, an_abbreviation p) ∷ []) ≡ []
  unfolding later
  later_known h = ap (λ t. names_in (abbreviations_among (if t then [] else (n, an_abbreviation p) ∷ [])))
      (⊎_elim (λ e. still_known n (names_in standard_kinds) z.said e) (λ e. said_known n (names_in standard_kinds) z.said e)
      (or_cases (is_among n (names_in standard_kinds)) (is_among n (names_in z.said)) h))

  names_again : is_known n z.said ≡ true → abbreviation_names (z.said ++ (n, an_abbreviation p) ∷ []) ≡ abbreviation_names z.said
  names_again h = one_later [] (later_known h) ∙ append-nil (abbreviation_names z.said)

  pub again : is_known n z.said ≡ true → KnowsUses uses (one_body z n p w)
  again h = record {
    are = k.are ∙ same_uses ∙ ap (map (uses_of (z.bodies ++ (n, w) ∷ []))) (sym (names_again h));
    has = λ m e. more_bodies m (k.has m (ap (is_among m) (sym (names_again h)) ∙ e));
    said = more_said;
  }

  fresh_body : is_known n z.said ≡ false → is_among n (names_in z.bodies) ≡ false
  fresh_body h = by (is_among n (names_in z.bodies)) refl
    where
      by : (t : Bool) → is_among n (names_in z.bodies) ≡ t → is_among n (names_in z.bodies) ≡ false
      by true e = absurd (true≢false (sym (or_right (is_among n (names_in standard_kinds)) (is_among n (names_in z.said)) (k.said n e)) ∙ h))
      by false e = e

  names_new : is_known n z.said ≡ false → abbreviation_names (z.said ++ (n, an_abbreviation p) ∷ []) ≡ abbreviation_names z.said ++ n ∷ []
  names_new h = ap names_in (ap abbreviations_among (declared_new z.said (n, an_abbreviation p) h) ∙ heads_append (declared_names z.said) ((n, an_abbreviation p) ∷ [])) ∙ names_append (abbreviations_among (declared_names z.said)) ((n, p) ∷ [])

  pub fresh : is_known n z.said ≡ false → (new : List (List Way)) → new ≡ uses ++ w ∷ [] → KnowsUses new (one_body z n p w)
  fresh h new more = record {
    are = more ∙ ap (λ y. y ++ w ∷ []) (k.are ∙ same_uses) ∙ ap (λ y. map (uses_of (z.bodies ++ (n, w) ∷ [])) (abbreviation_names z.said) ++ y ∷ []) (sym (uses_new z.bodies n w (fresh_body h))) ∙
        sym (map-append (uses_of (z.bodies ++ (n, w) ∷ [])) (abbreviation_names z.said) (n ∷ [])) ∙ ap (map (uses_of (z.bodies ++ (n, w) ∷ []))) (sym (names_new h));
    has = λ m e. ⊎_elim (λ f. more_bodies m (k.has m f)) (λ f. ap (is_among m) (names_append z.bodies ((n, w) ∷ [])) ∙ among_append m (names_in z.bodies) (n ∷ []) ∙ or_right (is_among m (names_in z.bodies)) (is_among m (n ∷ [])) f)
        (or_cases (is_among m (abbreviation_names z.said)) (is_among m (n ∷ [])) (sym (among_append m (abbreviation_names z.said) (n ∷ [])) ∙ ap (is_among m) (sym (names_new h)) ∙ e));
    said = more_said;
  }

  count : length uses ≡ length (abbreviation_names z.said)
  count = ap length k.are ∙ length-map (abbreviation_names z.said) (uses_of z.bodies)

  some_same : (x y : ℕ) → Some x ≡ Some y → x ≡ y
  some_same x y e = cc

  module _ (more : List (Row Said)) (o : Option ℕ) (is : o ≡ first_place n (abbreviation_names ((z.said ++ (n, an_abbreviation p) ∷ []) ++ more))) where
    all_names : List (List ℕ)
    all_names = later (z.said ++ (n, an_abbreviation p) ∷ []) more

    known_then : is_known n (z.said ++ (n, an_abbreviation p) ∷ []) ≡ true
    known_then = or_right (is_among n (names_in standard_kinds)) (is_among n (names_in (z.said ++ (n, an_abbreviation p) ∷ [])))
        (ap (is_among n) (names_append z.said ((n, an_abbreviation p) ∷ [])) ∙ among_append n (names_in z.said) (n ∷ []) ∙ or_right (is_among n (names_in z.said)) (is_among n (n ∷ [])) (or_left (bytes_eq n n) false (bytes_eq_self n)))

    old_place : is_known n z.said ≡ true → o ≡ first_place n (abbreviation_names z.said ++ later (z.said ++ (n, an_abbreviation p) ∷ []) more)
    old_place h = is ∙ ap (first_place n) (names_later (z.said ++ (n, an_abbreviation p) ∷ []) more ∙ ap (λ y. y ++ later (z.said ++ (n, an_abbreviation p) ∷ []) more) (names_again h))

    new_place : is_known n z.said ≡ false → o ≡ Some (length uses)
    new_place h =
        is ∙ ap (first_place n) (names_later (z.said ++ (n, an_abbreviation p) ∷ []) more ∙ ap (λ y. y ++ later (z.said ++ (n, an_abbreviation p) ∷ []) more) (names_new h) ∙ append_assoc (abbreviation_names z.said) (n ∷ []) (later (z.said ++ (n, an_abbreviation p) ∷ []) more)) ∙
        behind n (abbreviation_names z.said) (later (z.said ++ (n, an_abbreviation p) ∷ []) more) (heads_fewer n (declared_names z.said) (unsaid h)) ∙ ap (λ i. Some i) (sym count)
      where
        unsaid : is_known n z.said ≡ false → is_among n (names_in (declared_names z.said)) ≡ false
        unsaid h = by (is_among n (names_in standard_kinds)) (is_among n (names_in (declared_names z.said))) (firsts_names n (names_in standard_kinds) z.said ∙ h)
          where
            by : (a b : Bool) → (a || b) ≡ false → b ≡ false
            by true b e = absurd (true≢false e)
            by false b e = e

    -- the name has no place, or one that is not new, or the next
    pub no_abbreviation : o ≡ None → KnowsUses uses (one_body z n p w)
    no_abbreviation none = by (is_known n z.said) refl
      where
        by : (t : Bool) → is_known n z.said ≡ t → KnowsUses uses (one_body z n p w)
        by true e = again e
        by false e = let q : Some (length uses) ≡ None = sym (new_place e) ∙ none in absurd (cc)

    pub old_abbreviation : (i : ℕ) → o ≡ Some i → i < length uses → KnowsUses uses (one_body z n p w)
    old_abbreviation i some less = by (is_known n z.said) refl
      where
        by : (t : Bool) → is_known n z.said ≡ t → KnowsUses uses (one_body z n p w)
        by true e = again e
        by false e = let q = some_same (length uses) i (sym (new_place e) ∙ some) in absurd (omega (arith, q, less))

    pub new_abbreviation : (i : ℕ) → o ≡ Some i → length uses ≤ i → (new : List (List Way)) → new ≡ uses ++ w ∷ [] → KnowsUses new (one_body z n p w)
    new_abbreviation i some less new one = by (is_known n z.said) refl
      where
        by : (t : Bool) → is_known n z.said ≡ t → KnowsUses new (one_body z n p w)
        by true e = at (is_among n (abbreviation_names z.said)) refl
          where
            at : (b : Bool) → is_among n (abbreviation_names z.said) ≡ b → KnowsUses new (one_body z n p w)
            at true f = let l = in_front n (abbreviation_names z.said) (later (z.said ++ (n, an_abbreviation p) ∷ []) more) i f (sym (old_place e) ∙ some) in absurd (omega (arith, l, less, count))
            at false f =
                let q : Some i ≡ None = sym some ∙ old_place e ∙ no_place n (abbreviation_names z.said ++ later (z.said ++ (n, an_abbreviation p) ∷ []) more)
                (among_append n (abbreviation_names z.said) (later (z.said ++ (n, an_abbreviation p) ∷ []) more) ∙ ap (λ t. t || is_among n (later (z.said ++ (n, an_abbreviation p) ∷ []) more)) f ∙ not_later n (z.said ++ (n, an_abbreviation p) ∷ []) more known_then) in
                absurd (cc)
        by false e = fresh e new one

kinds_first : (known : List (List ℕ)) (rs : List (Row Said)) → abbreviations_among rs ≡ [] → abbreviations_among (firsts known rs) ≡ []
kinds_first known [] h = refl
kinds_first known ((m, a_kind c) ∷ rs) h = by (is_among m known) (kinds_first known rs h) (kinds_first (m ∷ known) rs h)
  where
    by : (t : Bool) → abbreviations_among (firsts known rs) ≡ [] → abbreviations_among (firsts (m ∷ known) rs) ≡ [] → abbreviations_among (if t then firsts known rs else (m, a_kind c) ∷ firsts (m ∷ known) rs) ≡ []
    by true p q = p
    by false p q = q
kinds_first known ((m, an_abbreviation p) ∷ rs) h = absurd (cc)

kinds_only : (text : List ℕ) (c : ℕ) (names : List Spot) → abbreviations_among (each text (a_kind c) names) ≡ []
kinds_only text c [] = refl
kinds_only text c (n ∷ ns) = kinds_only text c ns

-- a sentence that declares no abbreviation
abbrev pub is_quiet : Declaration → Bool
is_quiet (Kinds ns n) = true
is_quiet (LocalKinds ns n) = true
is_quiet (Constants ns ty) = true
is_quiet (Locals ns ty) = true
is_quiet (Abbreviation name ps ty) = false
is_quiet (Accumulate words) = true
is_quiet (AccumSig words) = true
is_quiet (Fixities ns f n) = true

quiet_names : (text : List ℕ) (d : Declaration) → is_quiet d ≡ true → abbreviations_among (said_by text d) ≡ []
quiet_names text (Kinds ns n) h = kinds_only text n ns.items
quiet_names text (LocalKinds ns None) h = refl
quiet_names text (LocalKinds ns (Some n)) h = kinds_only text n ns.items
quiet_names text (Constants ns ty) h = refl
quiet_names text (Locals ns ty) h = refl
quiet_names text (Abbreviation name ps ty) h = absurd (true≢false (sym h))
quiet_names text (Accumulate words) h = refl
quiet_names text (AccumSig words) h = refl
quiet_names text (Fixities ns f n) h = refl

quiet_bodies : (names : List (List ℕ)) (text : List ℕ) (d : Declaration) → is_quiet d ≡ true → bodies_by names text d ≡ []
quiet_bodies names text (Kinds ns n) h = refl
quiet_bodies names text (LocalKinds ns n) h = refl
quiet_bodies names text (Constants ns ty) h = refl
quiet_bodies names text (Locals ns ty) h = refl
quiet_bodies names text (Abbreviation name ps ty) h = absurd (true≢false (sym h))
quiet_bodies names text (Accumulate words) h = refl
quiet_bodies names text (AccumSig words) h = refl
quiet_bodies names text (Fixities ns f n) h = refl

pub quiet : (uses : List (List Way)) (z : Seen) (names : List (List ℕ)) (text : List ℕ) (d : Declaration) → is_quiet d ≡ true → KnowsUses uses z → KnowsUses uses (seen_line names z text d)
unfolding later
quiet uses z names text d h k =
    let same : abbreviation_names (z.said ++ said_by text d) ≡ abbreviation_names z.said = names_later z.said (said_by text d) ∙ ap (λ y. abbreviation_names z.said ++ y) (nothing_later (said_by text d) (quiet_names text d h)) ∙ append-nil (abbreviation_names z.said) in
    let bodies : z.bodies ≡ z.bodies ++ bodies_by names text d = sym (append-nil z.bodies) ∙ ap (λ y. z.bodies ++ y) (sym (quiet_bodies names text d h)) in
    record {
      are = k.are ∙ ap (λ b. map (uses_of b) (abbreviation_names z.said)) bodies ∙ ap (map (uses_of (z.bodies ++ bodies_by names text d))) (sym same);
      has = λ m e. ap (λ b. is_among m (names_in b)) (sym bodies) ∙ k.has m (ap (is_among m) (sym same) ∙ e);
      said = λ m e. ap (is_among m) (names_append z.said (said_by text d)) ∙ among_append m (names_in z.said) (names_in (said_by text d)) ∙ or_left (is_among m (names_in z.said)) (is_among m (names_in (said_by text d))) (k.said m (ap (λ b. is_among m (names_in b)) bodies ∙ e));
    }
  where
    nothing_later : (rs : List (Row Said)) → abbreviations_among rs ≡ [] → later z.said rs ≡ []
    nothing_later rs e = ap names_in (kinds_first (known_after (names_in standard_kinds) z.said) rs e)

-- rows without an abbreviation
pub quiet_rows : (uses : List (List Way)) (z : Seen) (rows : List (Row Said)) → abbreviations_among rows ≡ [] → KnowsUses uses z → KnowsUses uses (record { said = z.said ++ rows; definitions = z.definitions; bodies = z.bodies })
unfolding later
quiet_rows uses z rows none k =
    let same : abbreviation_names (z.said ++ rows) ≡ abbreviation_names z.said =
    names_later z.said rows ∙ ap (λ y. abbreviation_names z.said ++ y) (ap names_in (kinds_first (known_after (names_in standard_kinds) z.said) rows none)) ∙ append-nil (abbreviation_names z.said) in
    record {
      are = k.are ∙ ap (map (uses_of z.bodies)) (sym same);
      has = λ m e. k.has m (ap (is_among m) (sym same) ∙ e);
      said = λ m e. ap (is_among m) (names_append z.said rows) ∙ among_append m (names_in z.said) (names_in rows) ∙ or_left (is_among m (names_in z.said)) (is_among m (names_in rows)) (k.said m e);
    }

-- one more word, node and sentence
module _ (ns : List (List ℕ)) (text : List ℕ) (w : Spot) (old : List Way) where
  pub word_variable : begins_variable (spelled text w) ≡ true → old ≡ old ++ ways_in ns text (if begins_variable (spelled text w) then [] else w ∷ [])
  word_variable e = sym (append-nil old) ∙ ap (λ t. old ++ ways_in ns text (if t then [] else w ∷ [])) (sym e)

  pub word_unknown : begins_variable (spelled text w) ≡ false → None ≡ first_place (spelled text w) ns → old ≡ old ++ ways_in ns text (if begins_variable (spelled text w) then [] else w ∷ [])
  word_unknown e none = sym (append-nil old) ∙ ap (λ y. old ++ y) (sym (one_way ns text w None none)) ∙ ap (λ t. old ++ ways_in ns text (if t then [] else w ∷ [])) (sym e)

  pub word_used : (i : ℕ) (new : List Way) → begins_variable (spelled text w) ≡ false → Some i ≡ first_place (spelled text w) ns → new ≡ old ++ (w, i) ∷ [] → new ≡ old ++ ways_in ns text (if begins_variable (spelled text w) then [] else w ∷ [])
  word_used i new e some more = more ∙ ap (λ y. old ++ y) (sym (one_way ns text w (Some i) some)) ∙ ap (λ t. old ++ ways_in ns text (if t then [] else w ∷ [])) (sym e)

module _ (ns : List (List ℕ)) (text : List ℕ) (node : RawTypeNode) (old : List Way) where
  pub node_arrow : (a b : ℕ) → node ≡ Arrow a b → old ≡ old ++ uses_in ns text (node ∷ [])
  node_arrow a b is = sym (append-nil old) ∙ ap (λ n. old ++ uses_in ns text (n ∷ [])) (sym is)

  pub node_word : (w : Spot) (args : Vec ℕ Global) (new : List Way) → node ≡ Word w args → new ≡ old ++ ways_in ns text (if begins_variable (spelled text w) then [] else w ∷ []) → new ≡ old ++ uses_in ns text (node ∷ [])
  node_word w args new is more = more ∙ ap (λ ws. old ++ ways_in ns text ws) (sym (append-nil (if begins_variable (spelled text w) then [] else w ∷ []))) ∙ ap (λ n. old ++ uses_in ns text (n ∷ [])) (sym is)

pub type_names_append : (text : List ℕ) (xs ys : List RawTypeNode) → type_names text (xs ++ ys) ≡ type_names text xs ++ type_names text ys
type_names_append text [] ys = refl
type_names_append text (Word s args ∷ ns) ys = ap (λ z. (if begins_variable (spelled text s) then [] else s ∷ []) ++ z) (type_names_append text ns ys) ∙ sym (append_assoc (if begins_variable (spelled text s) then [] else s ∷ []) (type_names text ns) (type_names text ys))
type_names_append text (Arrow a b ∷ ns) ys = type_names_append text ns ys

pub nodes_more : (ns : List (List ℕ)) (text : List ℕ) (nodes : List RawTypeNode) (i : ℕ) (d : RawTypeNode) (now new : List Way) → i < length nodes → d ≡ get_or nodes i d → now ≡ uses_in ns text (take i nodes) → new ≡ now ++ uses_in ns text (d ∷ []) → new ≡ uses_in ns text (take (i + 1) nodes)
nodes_more ns text nodes i d now new h is so more =
    more ∙ ap (λ z. z ++ uses_in ns text (d ∷ [])) so ∙ sym (ways_append ns text (type_names text (take i nodes)) (type_names text (d ∷ []))) ∙
    ap (ways_in ns text) (sym (type_names_append text (take i nodes) (d ∷ []))) ∙ ap (λ v. uses_in ns text (take i nodes ++ v ∷ [])) is ∙ ap (uses_in ns text) (sym (take_more nodes i d h))

-- what is seen behind so many sentences of a text
abbrev pub seen_to : Seen → List ℕ → List Declaration → ℕ → Seen
seen_to z text lines i = record { said = z.said ++ said_in text (take i lines); definitions = z.definitions; bodies = z.bodies ++ bodies_in (abbreviation_names (z.said ++ said_in text lines)) text (take i lines) }

pub bodies_append : (ns : List (List ℕ)) (text : List ℕ) (xs ys : List Declaration) → bodies_in ns text (xs ++ ys) ≡ bodies_in ns text xs ++ bodies_in ns text ys
bodies_append ns text [] ys = refl
bodies_append ns text (x ∷ xs) ys = ap (λ z. bodies_by ns text x ++ z) (bodies_append ns text xs ys) ∙ sym (append_assoc (bodies_by ns text x) (bodies_in ns text xs) (bodies_in ns text ys))

bodies_more : (ns : List (List ℕ)) (text : List ℕ) (lines : List Declaration) (i : ℕ) (d : Declaration) (bodies : List (Row (List Way))) → i < length lines → d ≡ get_or lines i d →
    (bodies ++ bodies_in ns text (take i lines)) ++ bodies_by ns text d ≡ bodies ++ bodies_in ns text (take (i + 1) lines)
bodies_more ns text lines i d bodies h is =
    append_assoc bodies (bodies_in ns text (take i lines)) (bodies_by ns text d) ∙
    ap (λ z. bodies ++ z) (ap (λ e. bodies_in ns text (take i lines) ++ bodies_by ns text e) is ∙ ap (λ z. bodies_in ns text (take i lines) ++ z) (sym (append-nil (bodies_by ns text (get_or lines i d)))) ∙
    sym (bodies_append ns text (take i lines) (get_or lines i d ∷ [])) ∙ ap (bodies_in ns text) (sym (take_more lines i d h)))

pub nothing_noted : (uses : List (List Way)) (z : Seen) (text : List ℕ) (lines : List Declaration) → KnowsUses uses z → KnowsUses uses (seen_to z text lines 0)
nothing_noted uses z text lines k = subst (λ a. KnowsUses uses (record { said = a; definitions = z.definitions; bodies = z.bodies ++ [] })) (sym (append-nil z.said)) (subst (λ b. KnowsUses uses (record { said = z.said; definitions = z.definitions; bodies = b })) (sym (append-nil z.bodies)) k)

pub all_noted : (uses : List (List Way)) (z : Seen) (text : List ℕ) (lines : List Declaration) (i : ℕ) → length lines ≤ i → KnowsUses uses (seen_to z text lines i) → KnowsUses uses (seen_text z text lines)
all_noted uses z text lines i h k =
    let all = subst (λ ls. KnowsUses uses (record { said = z.said ++ said_in text ls; definitions = z.definitions; bodies = z.bodies ++ bodies_in (abbreviation_names (z.said ++ said_in text lines)) text ls })) (take_all i lines h) k in
    record { are = all.are; has = all.has; said = all.said }

pub line_noted : (names : Names) (z : Seen) (text : List ℕ) (lines : List Declaration) (i : ℕ) (d : Declaration) (old new : List (List Way)) → i < length lines → d ≡ get_or lines i d → Knows names (z.said ++ said_in text lines) → KnowsUses old (seen_to z text lines i) →
    ((y : Seen) (more : List (Row Said)) → Knows names ((y.said ++ said_by text d) ++ more) → KnowsUses old y → KnowsUses new (seen_line (abbreviation_names ((y.said ++ said_by text d) ++ more)) y text d)) → KnowsUses new (seen_to z text lines (i + 1))
line_noted names z text lines i d old new h is knows k f =
    let more = said_in text (drop (i + 1) lines) in
    let now = seen_to z text lines i in
    let ns = abbreviation_names (z.said ++ said_in text lines) in
    let step = said_more text lines i d z.said h is in
    let whole : (now.said ++ said_by text d) ++ more ≡ z.said ++ said_in text lines =
    ap (λ y. y ++ more) step ∙ append_assoc z.said (said_in text (take (i + 1) lines)) more ∙ ap (λ y. z.said ++ y) (sym (said_append text (take (i + 1) lines) (drop (i + 1) lines)) ∙ ap (said_in text) (take-append-drop (i + 1) lines)) in
    let noted = f now more (subst (Knows names) (sym whole) knows) k in
    let named = subst (λ n. KnowsUses new (seen_line n now text d)) (ap abbreviation_names whole) noted in
    subst (λ a. KnowsUses new (record { said = a; definitions = z.definitions; bodies = z.bodies ++ bodies_in ns text (take (i + 1) lines) })) step
    (subst (λ b. KnowsUses new (record { said = now.said ++ said_by text d; definitions = z.definitions; bodies = b })) (bodies_more ns text lines i d z.bodies h is) named)

-- a sentence of typeabbrev
pub abbreviation_noted : (names : Names) (z : Seen) (more : List (Row Said)) (text : List ℕ) (line : Declaration) (name : Spot) (ps : Vec Spot Global) (ty : RawType) (old new : List (List Way)) → line ≡ Abbreviation name ps ty →
    Knows names ((z.said ++ said_by text line) ++ more) → KnowsUses old z →
    ((y : Seen) (p : ℕ) (rest : List (Row Said)) → Knows names ((y.said ++ (spelled text name, an_abbreviation p) ∷ []) ++ rest) → KnowsUses old y →
    KnowsUses new (one_body y (spelled text name) p (uses_in (abbreviation_names ((y.said ++ (spelled text name, an_abbreviation p) ∷ []) ++ rest)) text ty.nodes.items))) →
    KnowsUses new (seen_line (abbreviation_names ((z.said ++ said_by text line) ++ more)) z text line)
abbreviation_noted names z more text line name ps ty old new is k u f =
    subst (λ d. KnowsUses new (seen_line (abbreviation_names ((z.said ++ said_by text d) ++ more)) z text d)) (sym is)
    (f z (length ps.items) more (subst (λ d. Knows names ((z.said ++ said_by text d) ++ more)) is k) u)

-- the names of abbreviations behind one more sentence
pub names_quiet : (said : List (Row Said)) (text : List ℕ) (d : Declaration) → is_quiet d ≡ true → abbreviation_names (said ++ said_by text d) ≡ abbreviation_names said
unfolding later
names_quiet said text d h =
    names_later said (said_by text d) ∙ ap (λ y. abbreviation_names said ++ y) (ap names_in (kinds_first (known_after (names_in standard_kinds) said) (said_by text d) (quiet_names text d h))) ∙ append-nil (abbreviation_names said)

pub names_known : (said : List (Row Said)) (n : List ℕ) (p : ℕ) → is_known n said ≡ true → abbreviation_names (said ++ (n, an_abbreviation p) ∷ []) ≡ abbreviation_names said
unfolding later
names_known said n p h =
    names_later said ((n, an_abbreviation p) ∷ []) ∙
    ap (λ y. abbreviation_names said ++ y) (ap (λ t. names_in (abbreviations_among (if t then [] else (n, an_abbreviation p) ∷ [])))
    (⊎_elim (λ e. still_known n (names_in standard_kinds) said e) (λ e. said_known n (names_in standard_kinds) said e) (or_cases (is_among n (names_in standard_kinds)) (is_among n (names_in said)) h))) ∙ append-nil (abbreviation_names said)

pub names_fresh : (said : List (Row Said)) (n : List ℕ) (p : ℕ) → is_known n said ≡ false → abbreviation_names (said ++ (n, an_abbreviation p) ∷ []) ≡ abbreviation_names said ++ n ∷ []
names_fresh said n p h =
    ap names_in (ap abbreviations_among (declared_new said (n, an_abbreviation p) h) ∙ heads_append (declared_names said) ((n, an_abbreviation p) ∷ [])) ∙ names_append (abbreviations_among (declared_names said)) ((n, p) ∷ [])

-- names of one list that are among those of another, with one more of each
pub told_more : {A B : Type 0} (xs : List (Row A)) (ys : List (Row B)) (n : List ℕ) (a : A) (b : B) →
    ((m : List ℕ) → is_among m (names_in xs) ≡ true → is_among m (names_in ys) ≡ true) → (m : List ℕ) → is_among m (names_in (xs ++ (n, a) ∷ [])) ≡
    true → is_among m (names_in (ys ++ (n, b) ∷ [])) ≡ true
told_more xs ys n a b f m h =
    ap (is_among m) (names_append ys ((n, b) ∷ [])) ∙ among_append m (names_in ys) (n ∷ []) ∙
    ⊎_elim (λ e. or_left (is_among m (names_in ys)) (is_among m (n ∷ [])) (f m e)) (λ e. or_right (is_among m (names_in ys)) (is_among m (n ∷ [])) e)
    (or_cases (is_among m (names_in xs)) (is_among m (n ∷ [])) (sym (among_append m (names_in xs) (n ∷ [])) ∙ sym (ap (is_among m) (names_append xs ((n, a) ∷ []))) ∙ h))

pub told_again : {A B : Type 0} (xs : List (Row A)) (ys zs : List (Row B)) → ((m : List ℕ) → is_among m (names_in xs) ≡ true → is_among m (names_in ys) ≡ true) → (m : List ℕ) → is_among m (names_in (xs ++ [])) ≡ true → is_among m (names_in (ys ++ zs)) ≡ true
told_again xs ys zs f m h =
    ap (is_among m) (names_append ys zs) ∙ among_append m (names_in ys) (names_in zs) ∙ or_left (is_among m (names_in ys)) (is_among m (names_in zs)) (f m (ap (λ l. is_among m (names_in l)) (sym (append-nil xs)) ∙ h))

pub unknown_untold : (n : List ℕ) (said : List (Row Said)) → is_known n said ≡ false → is_among n (names_in said) ≡ false
unknown_untold n said h = by (is_among n (names_in standard_kinds)) (is_among n (names_in said)) h
  where
    by : (a b : Bool) → (a || b) ≡ false → b ≡ false
    by true b e = absurd (true≢false e)
    by false b e = e

-- a name whose place is behind all that were seen was not known before
pub new_unknown : (said more : List (Row Said)) (name : List ℕ) (place : ℕ) → first_place name (abbreviation_names (said ++ more)) ≡ Some place → length (abbreviation_names said) ≤ place → is_known name said ≡ false
new_unknown said more name place at l = by (is_known name said) (is_among name (abbreviation_names said)) refl refl
  where
    by : (t b : Bool) → is_known name said ≡ t → is_among name (abbreviation_names said) ≡ b → is_known name said ≡ false
    by true true e f = let h = in_front name (abbreviation_names said) (later said more) place f (ap (first_place name) (sym (names_later said more)) ∙ at) in absurd (omega (arith, h, l))
    by true false e f =
        let q : Some place ≡ None = sym at ∙ ap (first_place name) (names_later said more) ∙ no_place name (abbreviation_names said ++ later said more)
        (among_append name (abbreviation_names said) (later said more) ∙ ap (λ t. t || is_among name (later said more)) f ∙ not_later name said more e) in
        absurd (cc)
    by false b e f = e

-- the place of a new name
pub fresh_place : (said : List (Row Said)) (n : List ℕ) → is_known n said ≡ false → first_place n (abbreviation_names said ++ n ∷ []) ≡ Some (length (abbreviation_names said))
fresh_place said n h = behind n (abbreviation_names said) [] (heads_fewer n (declared_names said) (by (is_among n (names_in standard_kinds)) (is_among n (names_in (declared_names said))) (firsts_names n (names_in standard_kinds) said ∙ h)))
  where
    by : (a b : Bool) → (a || b) ≡ false → b ≡ false
    by true b e = absurd (true≢false e)
    by false b e = e
