-- What sights of abbreviations tell: their bodies here against those that their names are given first.
use Rattle.std.proofs.Common.{◌≡◌, ℕ, ◌+◌, ◌<◌, List, [], ◌∷◌, ◌++◌, length, map, get_or, take, drop, Bool, true, false, true≢false, Some, None, refl, sym, ap, subst, ◌∙◌, arith, inl, inr, append_assoc, append-nil}
use Rattle.std.specs.Str.{bytes_eq}
use Rattle.std.proofs.lemmas.Bool.{or_parts}
use Rattle.std.specs.Prelude.{◌⊎◌, ◌||◌, not, if◌then◌else◌}
use Rattle.std.proofs.lemmas.List.{length-append, length-map, map-append, get_or_append_left, take-append-drop}
use Rattle.std.proofs.lemmas.List.Elements.{All-push}
use Rattle.std.proofs.lemmas.Option.{same_Some}
use Rattle.std.proofs.lemmas.Slice.Eq.{bytes_eq-Decides}
use Rattle.lp_term.specs.Nodes.{Nodes, Extends, type_tree}
use Rattle.lp_term.specs.declared.node.TypeId.{TypeId}
use Rattle.lp_sig.specs.Abbreviations.{abbreviation_names}
use Rattle.lp_sig.specs.AsWritten.{named_body}
use Rattle.lp_sig.specs.Holding.{body_of, line_at, IsTree}
use Rattle.lp_sig.specs.Knowing.{is_known}
use Rattle.lp_sig.specs.Modules.{kind_said, abbreviation_said}
use Rattle.lp_sig.specs.Named.{NamedTy, named_in, kind_names, IsWhole}
use Rattle.lp_sig.specs.Places.{first_place}
use Rattle.lp_sig.specs.Rows.{Row, found}
use Rattle.lp_sig.specs.Said.{Said, a_kind, an_abbreviation, is_among, names_in}
use Rattle.lp_sig.specs.Standard.{standard_kinds}
use Rattle.lp_sig.specs.Words.{standard_said, meaning_of}
use Rattle.lp_sig.specs.GoingTogether.{IsSameAbbreviation, AbbreviationsGo, IsOtherAbbreviation}
use Rattle.lp_sig.specs.inner.Telling.{first_sight, TellsNext, NeverMany, AbbreviationsTell, AbbreviationTells, IsAbbreviationOf, EachKind, IsTypeHere, IsMadeHere, FitsHere, IsBodyHere, AreBodiesHere, CanSeeBodies}
use Rattle.lp_sig.specs.declared.bodies.Body.{Body}
use Rattle.lp_sig.specs.declared.entries.AbbreviationEntry.{AbbreviationEntry}
use Rattle.lp_sig.specs.declared.entries.KindEntry.{KindEntry}
use Rattle.lp_sig.specs.declared.see.Sight.{Sight}
use Rattle.lp_sig.specs.declared.see.Sight.TheVariants.{Alike, Otherwise, TooMany}
use Rattle.lp_sig.specs.declared.store.Types.{Types}
use Rattle.lp_sig.specs.declared.signature.Signature.{Signature}
use Rattle.lp_sig.proofs.Abbreviating.{names_known, names_fresh, told_more, told_again, unknown_untold}
use Rattle.lp_sig.proofs.Announcing.{place_front, place_last, found_new, at_end}
use Rattle.lp_sig.proofs.GivenBodies.{none_more, heads_before}
use Rattle.lp_sig.proofs.Growing.{found_more, meaning_more}
use Rattle.lp_sig.proofs.Heads.{place_below}
use Rattle.lp_sig.proofs.Settling.{before_or_at}
use Rattle.lp_sig.proofs.Sighting.{found_last}
use Rattle.lp_sig.proofs.ToldConstants.{found_behind}
use Rattle.lp_sig.proofs.ToldKinds.{tells_more, taken_more, known_last}
use Rattle.lp_sig.proofs.TypesHere.{type_later, types_later, types_same, names_same}

-- more types, and more kinds
pub bodies_in_bank : (b now : Nodes) (bodies : List Body) (said : List (Row Said)) (rows : List (Row NamedTy)) → Extends b now → AreBodiesHere b bodies said rows → AreBodiesHere now bodies said rows
bodies_in_bank b now bodies said rows x g = record {
  are = λ name place at.
      let r = g.are name place at in
      let l = r.inside in
      let m = x.more_types in
      record { id = r.id; at = r.at; inside = omega (arith, l, m); body = r.body; first = r.first; is = subst (λ T. IsTypeHere said T r.body) (sym (x.same_types r.id.0 l)) r.is };
  count = g.count;
  told = g.told;
  no_line = g.no_line;
}

pub bodies_of_kinds : (b : Nodes) (bodies : List Body) (said : List (Row Said)) (rows : List (Row NamedTy)) (es : List KindEntry) → AreBodiesHere b bodies said rows → AreBodiesHere b bodies (said ++ map kind_said es) rows
bodies_of_kinds b bodies said rows es g = record {
  are = λ name place at.
      let r = g.are name place (ap (first_place name) (sym same) ∙ at) in
      record { id = r.id; at = r.at; inside = r.inside; body = r.body; first = r.first; is = type_later said (map kind_said es) (type_tree b r.id.0) r.body r.is };
  count = g.count ∙ ap length (sym same);
  told = λ n h. subst (λ l. is_among n (names_in l) ≡ true → is_among n (names_in (said ++ map kind_said es)) ≡ true) (append-nil rows) (told_again rows said (map kind_said es) g.told n) h;
  no_line = g.no_line;
}
  where
    same : abbreviation_names (said ++ map kind_said es) ≡ abbreviation_names said
    same = ap names_in (heads_before es (names_in standard_kinds) said)

-- one more abbreviation
module _ (b : Nodes) (bodies new : List Body) (said : List (Row Said)) (rows : List (Row NamedTy)) (n : List ℕ) (p : ℕ) (t : NamedTy) (g : AreBodiesHere b bodies said rows) where
  moved : (name : List ℕ) (place : ℕ) → IsBodyHere b bodies said rows name place → body_of new place ≡ body_of bodies place → IsBodyHere b new (said ++ (n, an_abbreviation p) ∷ []) (rows ++ (n, t) ∷ []) name place
  moved name place r same = record {
    id = r.id;
    at = same ∙ r.at;
    inside = r.inside;
    body = r.body;
    first = found_more name rows ((n, t) ∷ []) r.body r.first;
    is = type_later said ((n, an_abbreviation p) ∷ []) (type_tree b r.id.0) r.body r.is;
  }

  pub body_again : is_known n said ≡ true → new ≡ bodies → AreBodiesHere b new (said ++ (n, an_abbreviation p) ∷ []) (rows ++ (n, t) ∷ [])
  body_again h is = record {
    are = λ name place at. moved name place (g.are name place (ap (first_place name) (sym names) ∙ at)) (ap (λ bs. body_of bs place) is);
    count = ap length is ∙ g.count ∙ ap length (sym names);
    told = told_more rows said n t (an_abbreviation p) g.told;
    no_line = λ i. ap (λ bs. line_at bs i) is ∙ g.no_line i;
  }
    where
      names : abbreviation_names (said ++ (n, an_abbreviation p) ∷ []) ≡ abbreviation_names said
      names = names_known said n p h

  untold : is_known n said ≡ false → is_among n (names_in rows) ≡ false
  untold fresh = cases (is_among n (names_in rows)) refl
    where
      cases : (c : Bool) → is_among n (names_in rows) ≡ c → is_among n (names_in rows) ≡ false
      cases true e = absurd (true≢false (sym (g.told n e) ∙ unknown_untold n said fresh))
      cases false e = e

  pub body_new : (id : TypeId) → is_known n said ≡ false → new ≡ bodies ++ record { body = Some id; line = None } ∷ [] → id.0 < length b.types → IsTypeHere said (type_tree b id.0) t →
      AreBodiesHere b new (said ++ (n, an_abbreviation p) ∷ []) (rows ++ (n, t) ∷ [])
  body_new id fresh is inside here = record {
    are = λ name place at. by name place at (place_below name (abbreviation_names said ++ n ∷ []) place (ap (first_place name) (sym names) ∙ at));
    count = (let a = ap length is in let c = length-append bodies (record { body = Some id; line = None } ∷ []) in let d = g.count in let e = ap length names in let f = length-append (abbreviation_names said) (n ∷ []) in omega (arith, a, c, d, e, f));
    told = told_more rows said n t (an_abbreviation p) g.told;
    no_line = λ i. ap (λ bs. line_at bs i) is ∙ ap (λ l. get_or l i None) (map-append (λ b. b.line) bodies (record { body = Some id; line = None } ∷ [])) ∙ none_more (map (λ b. b.line) bodies) g.no_line i;
  }
    where
      names : abbreviation_names (said ++ (n, an_abbreviation p) ∷ []) ≡ abbreviation_names said ++ n ∷ []
      names = names_fresh said n p fresh

      bodies_are : map (λ b. b.body) new ≡ map (λ b. b.body) bodies ++ Some id ∷ []
      bodies_are = ap (map (λ b. b.body)) is ∙ map-append (λ b. b.body) bodies (record { body = Some id; line = None } ∷ [])

      front : (place : ℕ) → place < length bodies → body_of new place ≡ body_of bodies place
      front place l = let c = length-map bodies (λ b. b.body) in ap (λ bs. get_or bs place None) bodies_are ∙ get_or_append_left (map (λ b. b.body) bodies) (Some id ∷ []) None place (omega (arith, l, c))

      by : (name : List ℕ) (place : ℕ) → first_place name (abbreviation_names (said ++ (n, an_abbreviation p) ∷ [])) ≡ Some place → place < length (abbreviation_names said ++ n ∷ []) → IsBodyHere b new (said ++ (n, an_abbreviation p) ∷ []) (rows ++ (n, t) ∷ []) name place
      by name place at below = split (before_or_at (length (abbreviation_names said)) place (let f = length-append (abbreviation_names said) (n ∷ []) in omega (arith, below, f)))
        where
          split : (place < length (abbreviation_names said)) ⊎ (place ≡ length (abbreviation_names said)) → IsBodyHere b new (said ++ (n, an_abbreviation p) ∷ []) (rows ++ (n, t) ∷ []) name place
          split (inl l) =
              let c = g.count in
              moved name place (g.are name place (place_front name (abbreviation_names said) (n ∷ []) place (ap (first_place name) (sym names) ∙ at) l)) (front place (omega (arith, l, c)))
          split (inr e) =
              let same : name ≡ n = (bytes_eq-Decides name n).0 (place_last name n (abbreviation_names said) place (ap (first_place name) (sym names) ∙ at) e) in
              let c = g.count in
              let m = length-map bodies (λ b. b.body) in
              let end : place ≡ length (map (λ b. b.body) bodies) = omega (arith, e, c, m) in
              record {
                id = id;
                at = ap (λ bs. get_or bs place None) bodies_are ∙ at_end (map (λ b. b.body) bodies) (Some id) place end;
                inside = inside;
                body = t;
                first = ap (λ m. found m (rows ++ (n, t) ∷ [])) same ∙ found_new n rows t (untold fresh);
                is = type_later said ((n, an_abbreviation p) ∷ []) (type_tree b id.0) t here;
              }

  -- a new one is what is said of it
  pub new_abbreviation : is_known n said ≡ false → IsAbbreviationOf (said ++ (n, an_abbreviation p) ∷ []) (rows ++ (n, t) ∷ []) n p t
  unfolding meaning_of
  new_abbreviation fresh = (
    ap (found n) (sym (append_assoc standard_said said ((n, an_abbreviation p) ∷ []))) ∙ found_behind n (standard_said ++ said) ((n, an_abbreviation p) ∷ []) unsaid ∙ found_new n [] (an_abbreviation p) refl,
    found_new n rows t (untold fresh),
  )
    where
      among : (xs ys : List (Row Said)) → is_among n (names_in xs) ≡ false → is_among n (names_in ys) ≡ false → is_among n (names_in (xs ++ ys)) ≡ false
      among [] ys a c = c
      among (x ∷ xs) ys a c =
          let q = or_parts (bytes_eq n x.0) (is_among n (names_in xs)) a in
          ap (λ t. t || is_among n (names_in (xs ++ ys))) q.0 ∙ among xs ys q.1 c

      unsaid : is_among n (names_in (standard_said ++ said)) ≡ false
      unsaid = let q = or_parts (is_among n (names_in standard_kinds)) (is_among n (names_in said)) fresh in among standard_said said q.0 q.1

-- an abbreviation that is known
no_abbreviation_said : (said : List (Row Said)) (name : List ℕ) (c p : ℕ) → Some (a_kind c) ≡ meaning_of name said → meaning_of name said ≡ Some (an_abbreviation p) → ⊥
no_abbreviation_said said name c p means other = let z : a_kind c ≡ an_abbreviation p = same_Some (a_kind c) (an_abbreviation p) (means ∙ other) in absurd (cc)

pub kind_told : (said : List (Row Said)) (rows : List (Row NamedTy)) (name : List ℕ) (c p : ℕ) (t : NamedTy) → Some (a_kind c) ≡ meaning_of name said → AbbreviationTells said rows name p t Otherwise
kind_told said rows name c p t means = λ q. no_abbreviation_said said name c p means q.0

pub nothing_told : (said : List (Row Said)) (rows : List (Row NamedTy)) (name : List ℕ) (p : ℕ) (t : NamedTy) → None ≡ meaning_of name said → AbbreviationTells said rows name p t Otherwise
nothing_told said rows name p t means = λ q. let z : None ≡ Some (an_abbreviation p) = means ∙ q.0 in absurd (cc)

parameters_apart : (p q : ℕ) → an_abbreviation p ≡ an_abbreviation q → p ≡ q
parameters_apart p q e = cc

pub other_parameters : (said : List (Row Said)) (rows : List (Row NamedTy)) (name : List ℕ) (known p : ℕ) (t : NamedTy) → Some (an_abbreviation known) ≡ meaning_of name said → (known ≡ p → ⊥) → AbbreviationTells said rows name p t Otherwise
other_parameters said rows name known p t means never = λ q. never (parameters_apart known p (same_Some (an_abbreviation known) (an_abbreviation p) (means ∙ q.0)))

module _ (b : Nodes) (bodies : List Body) (said : List (Row Said)) (rows : List (Row NamedTy)) (name : List ℕ) (place p : ℕ) (t : NamedTy) (body : TypeId)
    (g : AreBodiesHere b bodies said rows) (at : first_place name (abbreviation_names said) ≡ Some place) (means : meaning_of name said ≡ Some (an_abbreviation p)) (made : IsTree b (λ T. IsTypeHere said T t) body) (fits : EachKind (FitsHere said) t) where
  pub body_told : (other : Bool) →
      (other ≡ true → (known : TypeId) × (new : TypeId) × (body_of bodies place ≡ Some known) × (Some body ≡ Some new) × (known.0 < length b.types → new.0 < length b.types → type_tree b known.0 ≡ type_tree b new.0 → ⊥)) →
      (other ≡ false → (known new : TypeId) → body_of bodies place ≡ Some known → Some body ≡ Some new → known.0 < length b.types → known.0 ≡ new.0) → (s : Sight) → s ≡ (if not other then Alike else Otherwise) → AbbreviationTells said rows name p t s
  body_told true apart same s is = subst (AbbreviationTells said rows name p t) (sym is) (λ q.
      let r = g.are name place at in
      let (known, new, old, this, never) = apart refl in
      let a : known ≡ r.id = same_Some known r.id (sym old ∙ r.at) in
      let c : body ≡ new = same_Some body new this in
      let first : r.body ≡ t = same_Some r.body t (sym r.first ∙ q.1) in
      never (subst (λ i. i.0 < length b.types) (sym a) r.inside) (subst (λ i. i.0 < length b.types) c made.0)
      (ap (λ i. type_tree b i.0) a ∙ types_same said (type_tree b r.id.0) (type_tree b body.0) r.body t r.is made.1 first ∙ ap (λ i. type_tree b i.0) c))
  body_told false apart same s is = subst (AbbreviationTells said rows name p t) (sym is)
      (let r = g.are name place at in (means, r.first ∙ ap (λ n. Some n) (names_same said (type_tree b r.id.0) (type_tree b body.0) r.body t r.is made.1 fits (ap (type_tree b) (same refl r.id body r.at refl r.inside)))))

-- one more entry
module _ (u : Signature) (said more : List (Row Said)) (rows rest : List (Row NamedTy)) (front : List AbbreviationEntry) (e : AbbreviationEntry) where
  abbreviation_next : (s : Sight) → AbbreviationTells (said ++ abbreviation_said e ∷ []) (rows ++ named_body u e ∷ []) e.name.items e.type_vars (named_in u e.body) s →
      AbbreviationsGo ((said ++ abbreviation_said e ∷ []) ++ more) ((rows ++ named_body u e ∷ []) ++ rest) u front →
      TellsNext (AbbreviationsGo ((said ++ abbreviation_said e ∷ []) ++ more) ((rows ++ named_body u e ∷ []) ++ rest) u) (IsOtherAbbreviation ((said ++ abbreviation_said e ∷ []) ++ more) ((rows ++ named_body u e ∷ []) ++ rest) u) NeverMany front e s
  abbreviation_next Alike (m, f) go =
      All-push (IsSameAbbreviation ((said ++ abbreviation_said e ∷ []) ++ more) ((rows ++ named_body u e ∷ []) ++ rest) u) front e go
      (meaning_more (said ++ abbreviation_said e ∷ []) more e.name.items (an_abbreviation e.type_vars) m, found_more e.name.items (rows ++ named_body u e ∷ []) rest (named_in u e.body) f)
  abbreviation_next Otherwise never go = λ q.
      let (c, known) = known_last said e.name.items (an_abbreviation e.type_vars) in
      let (t, has) = found_last e.name.items rows (named_in u e.body) in
      let x : c ≡ an_abbreviation e.type_vars = same_Some c (an_abbreviation e.type_vars) (sym (meaning_more (said ++ abbreviation_said e ∷ []) more e.name.items c known) ∙ q.0) in
      let y : t ≡ named_in u e.body = same_Some t (named_in u e.body) (sym (found_more e.name.items (rows ++ named_body u e ∷ []) rest t has) ∙ q.1) in
      never (known ∙ ap (λ c. Some c) x, has ∙ ap (λ t. Some t) y)
  abbreviation_next TooMany many go = absurd many

module _ (u : Signature) (said : List (Row Said)) (rows : List (Row NamedTy)) (es : List AbbreviationEntry) (i : ℕ) (e : AbbreviationEntry) (l : i < length es) (at : e ≡ get_or es i e) where
  all_mapped : {B : Type 0} (f : AbbreviationEntry → B) (front : List B) → ((front ++ map f (take i es)) ++ f e ∷ []) ++ map f (drop (i + 1) es) ≡ front ++ map f es
  all_mapped f front =
      ap (λ r. r ++ map f (drop (i + 1) es)) (append_assoc front (map f (take i es)) (f e ∷ []) ∙ ap (λ r. front ++ r) (sym (map-append f (take i es) (e ∷ [])) ∙ ap (map f) (taken_more es i e l at))) ∙
      append_assoc front (map f (take (i + 1) es)) (map f (drop (i + 1) es)) ∙ ap (λ r. front ++ r) (sym (map-append f (take (i + 1) es) (drop (i + 1) es)) ∙ ap (map f) (take-append-drop (i + 1) es))

  pub abbreviations_told : (s t r : Sight) → r ≡ first_sight s t →
      AbbreviationTells ((said ++ map abbreviation_said (take i es)) ++ abbreviation_said e ∷ []) ((rows ++ map (named_body u) (take i es)) ++ named_body u e ∷ []) e.name.items e.type_vars (named_in u e.body) t →
      AbbreviationsTell (said ++ map abbreviation_said es) (rows ++ map (named_body u) es) u (take i es) s → AbbreviationsTell (said ++ map abbreviation_said es) (rows ++ map (named_body u) es) u (take (i + 1) es) r
  abbreviations_told s t r is this now =
      let w = ((said ++ map abbreviation_said (take i es)) ++ abbreviation_said e ∷ []) ++ map abbreviation_said (drop (i + 1) es) in
      let v = ((rows ++ map (named_body u) (take i es)) ++ named_body u e ∷ []) ++ map (named_body u) (drop (i + 1) es) in
      subst (λ now. AbbreviationsTell (said ++ map abbreviation_said es) (rows ++ map (named_body u) es) u now r) (taken_more es i e l at)
      (subst (λ w. AbbreviationsTell w (rows ++ map (named_body u) es) u (take i es ++ e ∷ []) r) (all_mapped abbreviation_said said)
      (subst (λ v. AbbreviationsTell w v u (take i es ++ e ∷ []) r) (all_mapped (named_body u) rows)
      (tells_more (AbbreviationsGo w v u) (IsOtherAbbreviation w v u) NeverMany (take i es) e s t r is
      (subst (λ w. AbbreviationsTell w v u (take i es) s) (sym (all_mapped abbreviation_said said)) (subst (λ v. AbbreviationsTell (said ++ map abbreviation_said es) v u (take i es) s) (sym (all_mapped (named_body u) rows)) now))
      (abbreviation_next u (said ++ map abbreviation_said (take i es)) (map abbreviation_said (drop (i + 1) es)) (rows ++ map (named_body u) (take i es)) (map (named_body u) (drop (i + 1) es)) (take i es) e t this))))

-- what was made of the next body
pub made_next : (old now : Types) (bodies : List Body) (u : Signature) (said : List (Row Said)) (rows : List (Row NamedTy)) (made : List TypeId) (es : List AbbreviationEntry) (i : ℕ) (e : AbbreviationEntry) → i < length es → e ≡ get_or es i e → old ≡ now →
    CanSeeBodies old.bank bodies u said rows made es → IsMadeHere now.bank (said ++ map abbreviation_said (take i es)) made e.body (named_in u e.body)
made_next old now bodies u said rows made es i e l at same can id there =
    let h = types_later said (map abbreviation_said (take i es)) u.bank old.bank (kind_names u) made can.here e.body.0 id there in
    let r : (id.0 < length old.bank.types) × IsTypeHere (said ++ map abbreviation_said (take i es)) (type_tree old.bank id.0) (named_in u e.body) = (h.0, h.1 (subst (λ e. IsWhole (named_in u e.body)) (sym at) (can.whole i e l))) in
    subst (λ b. (id.0 < length b.bank.types) × IsTypeHere (said ++ map abbreviation_said (take i es)) (type_tree b.bank id.0) (named_in u e.body)) same r
