-- The bodies of abbreviations that signatures give: each is that of the first signature that has its name.
use Rattle.std.proofs.Common.{◌≡◌, ℕ, zero, suc, ◌<◌, List, [], ◌∷◌, ◌++◌, length, map, get_or, refl, sym, ap, subst, ◌∙◌, arith, Bool, true, false, true≢false, Option, Some, None, inl, inr}
use Rattle.std.specs.Prelude.{◌⊎◌, if◌then◌else◌}
use Rattle.std.proofs.lemmas.List.{append-nil, length-append, length-map, map-append, get_or_append_left}
use Rattle.std.proofs.lemmas.Slice.Eq.{bytes_eq-Decides}
use Rattle.lp_term.specs.Nodes.{Nodes, Extends, type_tree}
use Rattle.lp_term.specs.declared.node.TypeId.{TypeId}
use Rattle.lp_sig.specs.Abbreviations.{abbreviation_names}
use Rattle.lp_sig.specs.Holding.{body_of, line_at}
use Rattle.lp_sig.specs.Knowing.{is_known}
use Rattle.lp_sig.specs.Modules.{kind_said, abbreviation_said}
use Rattle.lp_sig.specs.Named.{NamedTy, named, kind_name, IsWhole}
use Rattle.lp_sig.specs.Places.{first_place}
use Rattle.lp_sig.specs.Rows.{Row, found}
use Rattle.lp_sig.specs.Said.{Said, a_kind, an_abbreviation, is_among, names_in, firsts, kinds_among, abbreviations_among}
use Rattle.lp_sig.specs.Sighted.{said_kinds}
use Rattle.lp_sig.specs.Standard.{standard_kinds}
use Rattle.lp_sig.specs.inner.Given.{IsGivenBody, GivesBodies}
use Rattle.lp_sig.specs.declared.bodies.Body.{Body}
use Rattle.lp_sig.specs.declared.entries.AbbreviationEntry.{AbbreviationEntry}
use Rattle.lp_sig.specs.declared.entries.KindEntry.{KindEntry}
use Rattle.lp_sig.proofs.Abbreviating.{names_known, names_fresh, told_more, told_again, unknown_untold}
use Rattle.lp_sig.proofs.Announcing.{place_front, place_last, found_new, at_end}
use Rattle.lp_sig.proofs.Growing.{found_more}
use Rattle.lp_sig.proofs.Heads.{place_below}
use Rattle.lp_sig.proofs.Settling.{before_or_at}
use Rattle.lp_sig.proofs.Sighting.{kinds_more}
use Rattle.lp_sig.proofs.Viewing.{whole_stays}

-- one more that is missing
pub none_more : (xs : List (Option ℕ)) → ((i : ℕ) → get_or xs i None ≡ None) → (i : ℕ) → get_or (xs ++ None ∷ []) i None ≡ None
none_more [] f zero = refl
none_more [] f (suc i) = refl
none_more (x ∷ xs) f zero = f 0
none_more (x ∷ xs) f (suc i) = none_more xs (λ i. f (suc i)) i

-- kinds are no abbreviations, and abbreviations no kinds
no_heads : (es : List KindEntry) (known : List (List ℕ)) → abbreviations_among (firsts known (map kind_said es)) ≡ []
no_heads [] known = refl
no_heads (e ∷ es) known = by (is_among e.name.items known) (no_heads es known) (no_heads es (e.name.items ∷ known))
  where
    by : (t : Bool) → abbreviations_among (firsts known (map kind_said es)) ≡ [] → abbreviations_among (firsts (e.name.items ∷ known) (map kind_said es)) ≡ [] →
        abbreviations_among (if t then firsts known (map kind_said es) else kind_said e ∷ firsts (e.name.items ∷ known) (map kind_said es)) ≡ []
    by true p q = p
    by false p q = q

no_kinds : (es : List AbbreviationEntry) (known : List (List ℕ)) → kinds_among (firsts known (map abbreviation_said es)) ≡ []
no_kinds [] known = refl
no_kinds (e ∷ es) known = by (is_among e.name.items known) (no_kinds es known) (no_kinds es (e.name.items ∷ known))
  where
    by : (t : Bool) → kinds_among (firsts known (map abbreviation_said es)) ≡ [] → kinds_among (firsts (e.name.items ∷ known) (map abbreviation_said es)) ≡ [] →
        kinds_among (if t then firsts known (map abbreviation_said es) else abbreviation_said e ∷ firsts (e.name.items ∷ known) (map abbreviation_said es)) ≡ []
    by true p q = p
    by false p q = q

pub heads_before : (es : List KindEntry) (known : List (List ℕ)) (said : List (Row Said)) → abbreviations_among (firsts known (said ++ map kind_said es)) ≡ abbreviations_among (firsts known said)
heads_before es known [] = no_heads es known
heads_before es known ((n, a_kind c) ∷ rs) = by (is_among n known) (heads_before es known rs) (heads_before es (n ∷ known) rs)
  where
    by : (t : Bool) → abbreviations_among (firsts known (rs ++ map kind_said es)) ≡ abbreviations_among (firsts known rs) → abbreviations_among (firsts (n ∷ known) (rs ++ map kind_said es)) ≡ abbreviations_among (firsts (n ∷ known) rs) →
        abbreviations_among (if t then firsts known (rs ++ map kind_said es) else (n, a_kind c) ∷ firsts (n ∷ known) (rs ++ map kind_said es)) ≡ abbreviations_among (if t then firsts known rs else (n, a_kind c) ∷ firsts (n ∷ known) rs)
    by true p q = p
    by false p q = q
heads_before es known ((n, an_abbreviation c) ∷ rs) = by (is_among n known) (heads_before es known rs) (heads_before es (n ∷ known) rs)
  where
    by : (t : Bool) → abbreviations_among (firsts known (rs ++ map kind_said es)) ≡ abbreviations_among (firsts known rs) → abbreviations_among (firsts (n ∷ known) (rs ++ map kind_said es)) ≡ abbreviations_among (firsts (n ∷ known) rs) →
        abbreviations_among (if t then firsts known (rs ++ map kind_said es) else (n, an_abbreviation c) ∷ firsts (n ∷ known) (rs ++ map kind_said es)) ≡ abbreviations_among (if t then firsts known rs else (n, an_abbreviation c) ∷ firsts (n ∷ known) rs)
    by true p q = p
    by false p q = ap (λ l. (n, c) ∷ l) q

kinds_before : (es : List AbbreviationEntry) (known : List (List ℕ)) (said : List (Row Said)) → kinds_among (firsts known (said ++ map abbreviation_said es)) ≡ kinds_among (firsts known said)
kinds_before es known [] = no_kinds es known
kinds_before es known ((n, a_kind c) ∷ rs) = by (is_among n known) (kinds_before es known rs) (kinds_before es (n ∷ known) rs)
  where
    by : (t : Bool) → kinds_among (firsts known (rs ++ map abbreviation_said es)) ≡ kinds_among (firsts known rs) → kinds_among (firsts (n ∷ known) (rs ++ map abbreviation_said es)) ≡ kinds_among (firsts (n ∷ known) rs) →
        kinds_among (if t then firsts known (rs ++ map abbreviation_said es) else (n, a_kind c) ∷ firsts (n ∷ known) (rs ++ map abbreviation_said es)) ≡ kinds_among (if t then firsts known rs else (n, a_kind c) ∷ firsts (n ∷ known) rs)
    by true p q = p
    by false p q = ap (λ l. (n, c) ∷ l) q
kinds_before es known ((n, an_abbreviation c) ∷ rs) = by (is_among n known) (kinds_before es known rs) (kinds_before es (n ∷ known) rs)
  where
    by : (t : Bool) → kinds_among (firsts known (rs ++ map abbreviation_said es)) ≡ kinds_among (firsts known rs) → kinds_among (firsts (n ∷ known) (rs ++ map abbreviation_said es)) ≡ kinds_among (firsts (n ∷ known) rs) →
        kinds_among (if t then firsts known (rs ++ map abbreviation_said es) else (n, an_abbreviation c) ∷ firsts (n ∷ known) (rs ++ map abbreviation_said es)) ≡ kinds_among (if t then firsts known rs else (n, an_abbreviation c) ∷ firsts (n ∷ known) rs)
    by true p q = p
    by false p q = q

pub kinds_unchanged : (said : List (Row Said)) (es : List AbbreviationEntry) → said_kinds (said ++ map abbreviation_said es) ≡ said_kinds said
kinds_unchanged said es = ap names_in (kinds_before es (names_in standard_kinds) said)

-- more types, and more kinds
pub given_bank : (b now : Nodes) (bodies : List Body) (said : List (Row Said)) (rows : List (Row NamedTy)) → Extends b now → GivesBodies b bodies said rows → GivesBodies now bodies said rows
given_bank b now bodies said rows x g = record {
  are = λ name place at.
      let r = g.are name place at in
      let l = r.inside in
      let m = x.more_types in
      record {
        id = r.id;
        at = r.at;
        inside = omega (arith, l, m);
        first = subst (λ t. found name rows ≡ Some (named (kind_name (said_kinds said)) t)) (sym (x.same_types r.id.0 l)) r.first;
        whole = subst (λ t. IsWhole (named (kind_name (said_kinds said)) t)) (sym (x.same_types r.id.0 l)) r.whole;
      };
  count = g.count;
  told = g.told;
  no_line = g.no_line;
}

pub given_kinds : (b : Nodes) (bodies : List Body) (said : List (Row Said)) (rows : List (Row NamedTy)) (es : List KindEntry) → GivesBodies b bodies said rows → GivesBodies b bodies (said ++ map kind_said es) rows
given_kinds b bodies said rows es g = record {
  are = λ name place at.
      let r = g.are name place (ap (first_place name) (sym same) ∙ at) in
      let (rest, f) = kinds_more said (map kind_said es) in
      let stays : named (kind_name (said_kinds (said ++ map kind_said es))) (type_tree b r.id.0) ≡ named (kind_name (said_kinds said)) (type_tree b r.id.0) =
      ap (λ l. named (kind_name l) (type_tree b r.id.0)) f ∙ whole_stays (said_kinds said) rest (type_tree b r.id.0) r.whole in
      record { id = r.id; at = r.at; inside = r.inside; first = r.first ∙ ap (λ t. Some t) (sym stays); whole = subst IsWhole (sym stays) r.whole };
  count = g.count ∙ ap length (sym same);
  told = λ n h. subst (λ l. is_among n (names_in l) ≡ true → is_among n (names_in (said ++ map kind_said es)) ≡ true) (append-nil rows) (told_again rows said (map kind_said es) g.told n) h;
  no_line = g.no_line;
}
  where
    same : abbreviation_names (said ++ map kind_said es) ≡ abbreviation_names said
    same = ap names_in (heads_before es (names_in standard_kinds) said)

-- one more abbreviation
module _ (b : Nodes) (bodies new : List Body) (said : List (Row Said)) (rows : List (Row NamedTy)) (n : List ℕ) (p : ℕ) (t : NamedTy) (g : GivesBodies b bodies said rows) (kinds : said_kinds (said ++ (n, an_abbreviation p) ∷ []) ≡ said_kinds said) where
  moved : (name : List ℕ) (place : ℕ) → IsGivenBody b bodies said rows name place → body_of new place ≡ body_of bodies place → IsGivenBody b new (said ++ (n, an_abbreviation p) ∷ []) (rows ++ (n, t) ∷ []) name place
  moved name place r same = record {
    id = r.id;
    at = same ∙ r.at;
    inside = r.inside;
    first = found_more name rows ((n, t) ∷ []) _ r.first ∙ ap (λ l. Some (named (kind_name l) (type_tree b r.id.0))) (sym kinds);
    whole = subst (λ l. IsWhole (named (kind_name l) (type_tree b r.id.0))) (sym kinds) r.whole;
  }

  pub given_again : is_known n said ≡ true → new ≡ bodies → GivesBodies b new (said ++ (n, an_abbreviation p) ∷ []) (rows ++ (n, t) ∷ [])
  given_again h is = record {
    are = λ name place at. moved name place (g.are name place (ap (first_place name) (sym names) ∙ at)) (ap (λ bs. body_of bs place) is);
    count = ap length is ∙ g.count ∙ ap length (sym names);
    told = told_more rows said n t (an_abbreviation p) g.told;
    no_line = λ i. ap (λ bs. line_at bs i) is ∙ g.no_line i;
  }
    where
      names : abbreviation_names (said ++ (n, an_abbreviation p) ∷ []) ≡ abbreviation_names said
      names = names_known said n p h

  pub given_new : (id : TypeId) → is_known n said ≡ false → new ≡ bodies ++ record { body = Some id; line = None } ∷ [] → id.0 < length b.types → named (kind_name (said_kinds said)) (type_tree b id.0) ≡ t → IsWhole t →
      GivesBodies b new (said ++ (n, an_abbreviation p) ∷ []) (rows ++ (n, t) ∷ [])
  given_new id fresh is inside tree whole = record {
    are = λ name place at. by name place at (place_below name (abbreviation_names said ++ n ∷ []) place (ap (first_place name) (sym names) ∙ at));
    count = (let a = ap length is in let c = length-append bodies (record { body = Some id; line = None } ∷ []) in let d = g.count in let e = ap length names in let f = length-append (abbreviation_names said) (n ∷ []) in omega (arith, a, c, d, e, f));
    told = told_more rows said n t (an_abbreviation p) g.told;
    no_line = λ i. ap (λ bs. line_at bs i) is ∙ ap (λ l. get_or l i None) (map-append (λ b. b.line) bodies (record { body = Some id; line = None } ∷ [])) ∙ none_more (map (λ b. b.line) bodies) g.no_line i;
  }
    where
      names : abbreviation_names (said ++ (n, an_abbreviation p) ∷ []) ≡ abbreviation_names said ++ n ∷ []
      names = names_fresh said n p fresh

      untold : is_among n (names_in rows) ≡ false
      untold = cases (is_among n (names_in rows)) refl
        where
          cases : (c : Bool) → is_among n (names_in rows) ≡ c → is_among n (names_in rows) ≡ false
          cases true e = absurd (true≢false (sym (g.told n e) ∙ unknown_untold n said fresh))
          cases false e = e

      bodies_are : map (λ b. b.body) new ≡ map (λ b. b.body) bodies ++ Some id ∷ []
      bodies_are = ap (map (λ b. b.body)) is ∙ map-append (λ b. b.body) bodies (record { body = Some id; line = None } ∷ [])

      front : (place : ℕ) → place < length bodies → body_of new place ≡ body_of bodies place
      front place l = let c = length-map bodies (λ b. b.body) in ap (λ bs. get_or bs place None) bodies_are ∙ get_or_append_left (map (λ b. b.body) bodies) (Some id ∷ []) None place (omega (arith, l, c))

      by : (name : List ℕ) (place : ℕ) → first_place name (abbreviation_names (said ++ (n, an_abbreviation p) ∷ [])) ≡ Some place → place < length (abbreviation_names said ++ n ∷ []) → IsGivenBody b new (said ++ (n, an_abbreviation p) ∷ []) (rows ++ (n, t) ∷ []) name place
      by name place at below = split (before_or_at (length (abbreviation_names said)) place (let f = length-append (abbreviation_names said) (n ∷ []) in omega (arith, below, f)))
        where
          split : (place < length (abbreviation_names said)) ⊎ (place ≡ length (abbreviation_names said)) → IsGivenBody b new (said ++ (n, an_abbreviation p) ∷ []) (rows ++ (n, t) ∷ []) name place
          split (inl l) =
              let c = g.count in
              moved name place (g.are name place (place_front name (abbreviation_names said) (n ∷ []) place (ap (first_place name) (sym names) ∙ at) l)) (front place (omega (arith, l, c)))
          split (inr e) =
              let same : name ≡ n = (bytes_eq-Decides name n).0 (place_last name n (abbreviation_names said) place (ap (first_place name) (sym names) ∙ at) e) in
              let c = g.count in
              let m = length-map bodies (λ b. b.body) in
              let here : place ≡ length (map (λ b. b.body) bodies) = omega (arith, e, c, m) in
              let κ = said_kinds (said ++ (n, an_abbreviation p) ∷ []) in
              let this : named (kind_name κ) (type_tree b id.0) ≡ t = ap (λ l. named (kind_name l) (type_tree b id.0)) kinds ∙ tree in
              record {
                id = id;
                at = ap (λ bs. get_or bs place None) bodies_are ∙ at_end (map (λ b. b.body) bodies) (Some id) place here;
                inside = inside;
                first = ap (λ m. found m (rows ++ (n, t) ∷ [])) same ∙ found_new n rows t untold ∙ ap (λ t. Some t) (sym this);
                whole = subst IsWhole (sym this) whole;
              }

-- at first there are none
pub none_given : (b : Nodes) (bodies : List Body) → bodies ≡ [] → GivesBodies b bodies [] []
none_given b bodies e = subst (λ bs. GivesBodies b bs [] []) (sym e) (record { are = λ name place at. absurd (cc); count = refl; told = λ n h. absurd (true≢false (sym h)); no_line = λ i. refl })
