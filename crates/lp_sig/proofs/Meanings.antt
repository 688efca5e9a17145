-- What a name means is what is found in the tables: among the standard names, else among the abbreviations, else among the kinds.
use Rattle.std.proofs.Common.{◌≡◌, ℕ, suc, List, [], ◌∷◌, Bool, true, false, Option, Some, None, refl, sym, ap, subst, ◌∙◌, true≢false, cond, map, get_or}
use Rattle.std.specs.Prelude.{if◌then◌else◌, option_map, ◌||◌}
use Rattle.std.specs.Str.{bytes_eq}
use Rattle.std.proofs.lemmas.Slice.Eq.{bytes_eq-Decides}
use Rattle.lp_sig.proofs.Constancy.{firsts_found, not_among}
use Rattle.lp_sig.proofs.Growing.{found_more}
use Rattle.lp_sig.specs.Places.{first_place}
use Rattle.lp_sig.specs.Rows.{Row, found}
use Rattle.lp_sig.specs.Standard.{standard_kinds}
use Rattle.lp_sig.specs.Said.{Said, a_kind, an_abbreviation, is_among, names_in, firsts, declared_names, kinds_among, abbreviations_among}
use Rattle.lp_sig.specs.Words.{standard_said, meaning_of}
use Rattle.lp_sig.specs.Knowing.{Knows, kinded_row, head_row}
use Rattle.lp_sig.specs.declared.names.Names.{Names}
use Rattle.lp_sig.specs.declared.names.Kinded.{Kinded}
use Rattle.lp_sig.specs.declared.names.Head.{Head}
use Rattle.lp_sig.proofs.Finding.{behind, absent, present, beside_found}

-- a table with other things beside its names
pub found_map : {A B : Type 0} (f : A → B) (name : List ℕ) (rows : List (Row A)) → found name (map (λ r. (r.0, f r.1)) rows) ≡ option_map f (found name rows)
found_map f name [] = refl
found_map f name (r ∷ rs) = by (found_map f name rs) (bytes_eq name r.0)
  where
    by : found name (map (λ r. (r.0, f r.1)) rs) ≡ option_map f (found name rs) → (t : Bool) → cond t (Some (f r.1)) (found name (map (λ r. (r.0, f r.1)) rs)) ≡ option_map f (cond t (Some r.1) (found name rs))
    by h true = refl
    by h false = h

-- a name that is known is no abbreviation behind
no_head : (name : List ℕ) (known : List (List ℕ)) (said : List (Row Said)) → is_among name known ≡ true → found name (abbreviations_among (firsts known said)) ≡ None
no_head name known [] old = refl
no_head name known ((n, w) ∷ ss) old = by (is_among n known) refl (no_head name known ss old) (λ g. no_head name (n ∷ known) ss g)
  where
    more : is_among name (n ∷ known) ≡ true
    more = by (bytes_eq name n) (is_among name known) old
      where
        by : (a b : Bool) → b ≡ true → (a || b) ≡ true
        by true b e = refl
        by false b e = e

    a_head : (p : ℕ) (b : Bool) → bytes_eq name n ≡ b → is_among n known ≡ false → found name (abbreviations_among (firsts (n ∷ known) ss)) ≡ None → cond b (Some p) (found name (abbreviations_among (firsts (n ∷ known) ss))) ≡ None
    a_head p true f e h = absurd (true≢false (sym old ∙ ap (λ x. is_among x known) ((bytes_eq-Decides name n).0 f) ∙ e))
    a_head p false f e h = h

    by_said : (w : Said) → is_among n known ≡ false → found name (abbreviations_among (firsts (n ∷ known) ss)) ≡ None → found name (abbreviations_among ((n, w) ∷ firsts (n ∷ known) ss)) ≡ None
    by_said (a_kind c) e h = h
    by_said (an_abbreviation p) e h = a_head p (bytes_eq name n) refl e h

    by : (t : Bool) → is_among n known ≡ t → found name (abbreviations_among (firsts known ss)) ≡ None → (is_among name (n ∷ known) ≡ true → found name (abbreviations_among (firsts (n ∷ known) ss)) ≡ None) →
        found name (abbreviations_among (if t then firsts known ss else (n, w) ∷ firsts (n ∷ known) ss)) ≡ None
    by true e h g = h
    by false e h g = by_said w e (g more)

-- an abbreviation, else a kind
joined : Option ℕ → Option ℕ → Option Said
joined (Some p) k = Some (an_abbreviation p)
joined None k = option_map a_kind k

parts_found : (name : List ℕ) (known : List (List ℕ)) (said : List (Row Said)) → found name (firsts known said) ≡ joined (found name (abbreviations_among (firsts known said))) (found name (kinds_among (firsts known said)))
unfolding joined
parts_found name known [] = refl
parts_found name known ((n, w) ∷ ss) = by (is_among n known) (parts_found name known ss) (parts_found name (n ∷ known) ss)
  where
    later : List (Row Said)
    later = firsts (n ∷ known) ss

    a_kind_here : (c : ℕ) (b : Bool) → bytes_eq name n ≡ b → found name later ≡ joined (found name (abbreviations_among later)) (found name (kinds_among later)) →
        cond b (Some (a_kind c)) (found name later) ≡ joined (found name (abbreviations_among later)) (cond b (Some c) (found name (kinds_among later)))
    a_kind_here c true f h = sym (ap (λ o. joined o (Some c)) (no_head name (n ∷ known) ss (ap (λ b. b || is_among name known) f)))
    a_kind_here c false f h = h

    a_head_here : (p : ℕ) (b : Bool) → found name later ≡ joined (found name (abbreviations_among later)) (found name (kinds_among later)) →
        cond b (Some (an_abbreviation p)) (found name later) ≡ joined (cond b (Some p) (found name (abbreviations_among later))) (found name (kinds_among later))
    a_head_here p true h = refl
    a_head_here p false h = h

    by_said : (w : Said) → found name later ≡ joined (found name (abbreviations_among later)) (found name (kinds_among later)) →
        found name ((n, w) ∷ later) ≡ joined (found name (abbreviations_among ((n, w) ∷ later))) (found name (kinds_among ((n, w) ∷ later)))
    by_said (a_kind c) h = a_kind_here c (bytes_eq name n) refl h
    by_said (an_abbreviation p) h = a_head_here p (bytes_eq name n) h

    by : (t : Bool) → found name (firsts known ss) ≡ joined (found name (abbreviations_among (firsts known ss))) (found name (kinds_among (firsts known ss))) → found name later ≡ joined (found name (abbreviations_among later)) (found name (kinds_among later)) →
        found name (if t then firsts known ss else (n, w) ∷ later) ≡ joined (found name (abbreviations_among (if t then firsts known ss else (n, w) ∷ later))) (found name (kinds_among (if t then firsts known ss else (n, w) ∷ later)))
    by true h g = h
    by false h g = by_said w g

-- a standard name
pub means_standard : (name : List ℕ) (said : List (Row Said)) (number count : ℕ) → Some (number, count) ≡ found name standard_kinds → Some (a_kind count) ≡ meaning_of name said
unfolding meaning_of
means_standard name said number count some = sym (found_more name standard_said said (a_kind count) (found_map (λ r. a_kind r.1) name standard_kinds ∙ ap (option_map (λ r. a_kind r.1)) (sym some)))

-- another name, by the tables
module _ (names : Names) (said : List (Row Said)) (name : List ℕ) (k : Knows names said) (standard : None ≡ found name standard_kinds) where
  not_standard : found name standard_said ≡ None
  not_standard = found_map (λ r. a_kind r.1) name standard_kinds ∙ ap (option_map (λ r. a_kind r.1)) (sym standard)

  by_tables : meaning_of name said ≡ joined (found name (map head_row names.heads.items)) (found name (map kinded_row names.kinds.items))
  unfolding meaning_of
  by_tables =
      behind name standard_said said not_standard ∙ sym (firsts_found name (names_in standard_kinds) said (not_among name standard_kinds (sym standard))) ∙ parts_found name (names_in standard_kinds) said ∙
      ap (λ r. joined (found name r) (found name (kinds_among (declared_names said)))) (sym k.heads) ∙ ap (λ r. joined (found name (map head_row names.heads.items)) (found name r)) (sym k.kinds)

  head_found : (heads : List Head) (i : ℕ) → first_place name (map (λ h. h.name.items) heads) ≡ Some i → found name (map head_row heads) ≡ Some (get_or (map head_row heads) i ([], 0)).1
  head_found [] i there = absurd (cc)
  head_found (x ∷ xs) i there = by (bytes_eq name x.name.items) there (head_found xs)
    where
      deeper : (o : Option ℕ) → o ≡ first_place name (map (λ h. h.name.items) xs) → option_map (λ i. suc i) o ≡ Some i → ((j : ℕ) → first_place name (map (λ h. h.name.items) xs) ≡ Some j → found name (map head_row xs) ≡ Some (get_or (map head_row xs) j ([], 0)).1) →
          found name (map head_row xs) ≡ Some (get_or (map head_row (x ∷ xs)) i ([], 0)).1
      deeper None e there h = absurd (cc)
      deeper (Some j) e there h =
          let r : suc j ≡ i = cc in
          h j (sym e) ∙ ap (λ i. Some (get_or (map head_row (x ∷ xs)) i ([], 0)).1) r

      by : (t : Bool) → (if t then Some 0 else option_map (λ i. suc i) (first_place name (map (λ h. h.name.items) xs))) ≡ Some i → ((j : ℕ) → first_place name (map (λ h. h.name.items) xs) ≡ Some j → found name (map head_row xs) ≡ Some (get_or (map head_row xs) j ([], 0)).1) →
          cond t (Some x.parameters) (found name (map head_row xs)) ≡ Some (get_or (map head_row (x ∷ xs)) i ([], 0)).1
      by true there h =
          let r : 0 ≡ i = cc in
          ap (λ i. Some (get_or (map head_row (x ∷ xs)) i ([], 0)).1) r
      by false there h = deeper (first_place name (map (λ h. h.name.items) xs)) refl there h

  no_head_found : (h : Option ℕ) → h ≡ None → h ≡ first_place name (map (λ h. h.name.items) names.heads.items) → found name (map head_row names.heads.items) ≡ None
  no_head_found h none a = beside_found (λ h. h.name.items) name (λ h. h.parameters) names.heads.items ∙ ap (option_map (λ h. h.parameters)) (absent (λ h. h.name.items) name names.heads.items (sym a ∙ none))

  -- an abbreviation
  pub says_head : (h : Option ℕ) (i : ℕ) → h ≡ Some i → h ≡ first_place name (map (λ h. h.name.items) names.heads.items) → Some (an_abbreviation (get_or (map head_row names.heads.items) i ([], 0)).1) ≡ meaning_of name said
  unfolding joined
  says_head h i some a = sym (by_tables ∙ ap (λ o. joined o (found name (map kinded_row names.kinds.items))) (head_found names.heads.items i (sym a ∙ some)))

  -- a kind
  pub says_kind : (h p : Option ℕ) (i : ℕ) (seen : List Kinded) (e : Kinded) → h ≡ None → h ≡ first_place name (map (λ h. h.name.items) names.heads.items) → p ≡ Some i → p ≡ first_place name (map (λ k. k.name.items) names.kinds.items) → seen ≡ names.kinds.items → e ≡ get_or seen i e →
      Some (a_kind e.arity) ≡ meaning_of name said
  unfolding joined
  says_kind h p i seen e none a some b same at =
      sym (by_tables ∙ ap (λ o. joined o (found name (map kinded_row names.kinds.items))) (no_head_found h none a) ∙
      ap (option_map a_kind) (beside_found (λ k. k.name.items) name (λ k. k.arity) names.kinds.items ∙ ap (option_map (λ k. k.arity)) (present (λ k. k.name.items) name names.kinds.items i e (sym b ∙ some) (subst (λ l. get_or l i e ≡ e) same (sym at)))))

  -- nothing
  pub says_nothing : (h p : Option ℕ) → h ≡ None → h ≡ first_place name (map (λ h. h.name.items) names.heads.items) → p ≡ None → p ≡ first_place name (map (λ k. k.name.items) names.kinds.items) → None ≡ meaning_of name said
  unfolding joined
  says_nothing h p none a nothing b =
      sym (by_tables ∙ ap (λ o. joined o (found name (map kinded_row names.kinds.items))) (no_head_found h none a) ∙
      ap (option_map a_kind) (beside_found (λ k. k.name.items) name (λ k. k.arity) names.kinds.items ∙ ap (option_map (λ k. k.arity)) (absent (λ k. k.name.items) name names.kinds.items (sym b ∙ nothing))))
