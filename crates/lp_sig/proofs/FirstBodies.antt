-- An abbreviation of a text is that of its first sentence, so where this stands it can be settled.
use Rattle.std.proofs.Common.{◌≡◌, ℕ, suc, ◌<◌, ◌≤◌, List, [], ◌∷◌, ◌++◌, Bool, true, false, length, map, Option, Some, None, refl, sym, ap, subst, ◌∙◌, true≢false, cond}
use Rattle.std.specs.Prelude.{◌||◌, if◌then◌else◌, option_map, Contains}
use Rattle.std.specs.Str.{bytes_eq}
use Rattle.std.proofs.lemmas.Slice.Eq.{bytes_eq-Decides}
use Rattle.std.proofs.lemmas.Option.{same_Some}
use Rattle.lp_syntax.specs.declared.text.Declaration.{Declaration}
use Rattle.lp_syntax.specs.declared.text.Declaration.TheVariants.{Kinds, LocalKinds, Constants, Locals, Abbreviation, Accumulate, AccumSig, Fixities}
use Rattle.lp_sig.specs.Pieces.{spelled}
use Rattle.lp_sig.specs.Places.{first_place}
use Rattle.lp_sig.specs.Rows.{Row, found}
use Rattle.lp_sig.specs.Said.{is_among, names_in, said_in}
use Rattle.lp_sig.specs.Loading.{Way, ways_out, HasNoCircle, there}
use Rattle.lp_sig.specs.Types.{Definition, in_text, as_tree, definitions_in}
use Rattle.lp_sig.specs.Abbreviations.{abbreviation_names, uses_in, uses_of, bodies_in, Seen, seen_text, all_uses}
use Rattle.lp_sig.specs.Holding.{HoldsLines, line_of_text}
use Rattle.lp_sig.specs.Standing.{seen_count, BodyStands}
use Rattle.lp_sig.specs.Announced.{IsAnnounced, AreAnnounced, CanBeSettled, HasUsesInside}
use Rattle.lp_sig.specs.declared.bodies.Body.{Body}
use Rattle.lp_sig.proofs.Abbreviating.{new_unknown, unknown_untold}
use Rattle.lp_sig.proofs.UsesSettled.{use_inside}

-- what stands before has no such name
found_past : {A : Type 0} (name : List ℕ) (front back : List (Row A)) → is_among name (names_in front) ≡ false → found name (front ++ back) ≡ found name back
found_past name [] back h = refl
found_past {A} name (r ∷ rs) back h = by (bytes_eq name r.0) h (found_past name rs back)
  where
    by : (t : Bool) → (t || is_among name (names_in rs)) ≡ false → (is_among name (names_in rs) ≡ false → found name (rs ++ back) ≡ found name back) → cond t (Some r.1) (found name (rs ++ back)) ≡ found name back
    by true e f = absurd (true≢false e)
    by false e f = f e

uses_past : (name : List ℕ) (front back : List (Row (List Way))) → is_among name (names_in front) ≡ false → uses_of (front ++ back) name ≡ uses_of back name
uses_past name [] back h = refl
uses_past name (r ∷ rs) back h = by (bytes_eq name r.0) h (uses_past name rs back)
  where
    by : (t : Bool) → (t || is_among name (names_in rs)) ≡ false → (is_among name (names_in rs) ≡ false → uses_of (rs ++ back) name ≡ uses_of back name) → (if t then r.1 else uses_of (rs ++ back) name) ≡ uses_of back name
    by true e f = absurd (true≢false e)
    by false e f = f e

-- what the body of a definition uses
abbrev uses_by : List (List ℕ) → Definition → List Way
uses_by ns (in_text text ps ty) = uses_in ns text ty.nodes.items
uses_by ns (as_tree t) = []

-- the first sentence of a name in a text
uses_found : (ns : List (List ℕ)) (text : List ℕ) (lines : List Declaration) (name : List ℕ) (d : Definition) → found name (definitions_in text lines) ≡ Some d → uses_of (bodies_in ns text lines) name ≡ uses_by ns d
uses_found ns text [] name d e = absurd (cc)
uses_found ns text (Kinds a b ∷ ds) name d e = uses_found ns text ds name d e
uses_found ns text (LocalKinds a b ∷ ds) name d e = uses_found ns text ds name d e
uses_found ns text (Constants a b ∷ ds) name d e = uses_found ns text ds name d e
uses_found ns text (Locals a b ∷ ds) name d e = uses_found ns text ds name d e
uses_found ns text (Accumulate a ∷ ds) name d e = uses_found ns text ds name d e
uses_found ns text (AccumSig a ∷ ds) name d e = uses_found ns text ds name d e
uses_found ns text (Fixities a b c ∷ ds) name d e = uses_found ns text ds name d e
uses_found ns text (Abbreviation s ps ty ∷ ds) name d e = by (bytes_eq name (spelled text s)) e (uses_found ns text ds name d)
  where
    by : (t : Bool) → cond t (Some (in_text text ps.items ty)) (found name (definitions_in text ds)) ≡ Some d → (found name (definitions_in text ds) ≡ Some d → uses_of (bodies_in ns text ds) name ≡ uses_by ns d) →
        (if t then uses_in ns text ty.nodes.items else uses_of (bodies_in ns text ds) name) ≡ uses_by ns d
    by true e f = ap (uses_by ns) (same_Some (in_text text ps.items ty) d e)
    by false e f = f e

-- the uses at the place of a name
way_at : (f : List ℕ → List Way) (ns : List (List ℕ)) (name : List ℕ) (place : ℕ) → first_place name ns ≡ Some place → ways_out (map f ns) place ≡ f name
way_at f [] name place e = absurd (cc)
way_at f (n ∷ ns) name place e = by (bytes_eq name n) (first_place name ns) refl refl e (λ j g. way_at f ns name j g)
  where
    by : (t : Bool) (o : Option ℕ) → bytes_eq name n ≡ t → first_place name ns ≡ o → (if t then Some 0 else option_map (λ i. suc i) o) ≡ Some place → ((j : ℕ) → first_place name ns ≡ Some j → ways_out (map f ns) j ≡ f name) → ways_out (map f (n ∷ ns)) place ≡ f name
    by true o s p e r = let q : 0 ≡ place = same_Some 0 place e in ap (λ i. ways_out (map f (n ∷ ns)) i) (sym q) ∙ ap f (sym ((bytes_eq-Decides name n).0 s))
    by false None s p e r = absurd (cc)
    by false (Some j) s p e r = let q : suc j ≡ place = same_Some (suc j) place e in ap (λ i. ways_out (map f (n ∷ ns)) i) (sym q) ∙ r j p

module _ (z : Seen) (text : List ℕ) (lines : List Declaration) where
  -- an abbreviation of the text is that of its line
  pub line_defines : (bodies : List Body) (place : ℕ) → HoldsLines bodies (z.said ++ said_in text lines) (z.definitions ++ definitions_in text lines) text (line_of_text lines) → (a : IsAnnounced bodies (z.said ++ said_in text lines) text (line_of_text lines) place) →
      found (spelled text a.name) (z.definitions ++ definitions_in text lines) ≡ Some (in_text text a.parameters.items a.body)
  line_defines bodies place holds a = holds (spelled text a.name) place a.line a.name a.parameters a.body a.its_place a.at_line a.declares

  -- and it uses what the body there uses
  pub line_uses : (bodies : List Body) (place : ℕ) → ((n : List ℕ) → is_among n (names_in z.bodies) ≡ true → is_among n (names_in z.said) ≡ true) → ((n : List ℕ) → is_among n (names_in z.definitions) ≡ true → is_among n (names_in z.said) ≡ true) →
      HoldsLines bodies (z.said ++ said_in text lines) (z.definitions ++ definitions_in text lines) text (line_of_text lines) → seen_count z ≤ place → (a : IsAnnounced bodies (z.said ++ said_in text lines) text (line_of_text lines) place) →
      ways_out (all_uses (seen_text z text lines)) place ≡ uses_in (abbreviation_names (z.said ++ said_in text lines)) text a.body.nodes.items
  line_uses bodies place of_bodies of_definitions holds behind a =
      let ns = abbreviation_names (z.said ++ said_in text lines) in
      way_at (uses_of (z.bodies ++ bodies_in ns text lines)) ns (spelled text a.name) place a.its_place ∙
      uses_past (spelled text a.name) z.bodies (bodies_in ns text lines) (untold (is_among (spelled text a.name) (names_in z.bodies)) (of_bodies (spelled text a.name))) ∙
      uses_found ns text lines (spelled text a.name) (in_text text a.parameters.items a.body)
      (sym (found_past (spelled text a.name) z.definitions (definitions_in text lines) (untold (is_among (spelled text a.name) (names_in z.definitions)) (of_definitions (spelled text a.name)))) ∙ line_defines bodies place holds a)
    where
      unsaid : is_among (spelled text a.name) (names_in z.said) ≡ false
      unsaid = unknown_untold (spelled text a.name) z.said (new_unknown z.said (said_in text lines) (spelled text a.name) place a.its_place behind)

      untold : (b : Bool) → (b ≡ true → is_among (spelled text a.name) (names_in z.said) ≡ true) → b ≡ false
      untold true f = absurd (true≢false (sym (f refl) ∙ unsaid))
      untold false f = refl

  -- so it can be settled where it stands
  pub ready : (bodies : List Body) → ((n : List ℕ) → is_among n (names_in z.bodies) ≡ true → is_among n (names_in z.said) ≡ true) → ((n : List ℕ) → is_among n (names_in z.definitions) ≡ true → is_among n (names_in z.said) ≡ true) →
      HoldsLines bodies (z.said ++ said_in text lines) (z.definitions ++ definitions_in text lines) text (line_of_text lines) → AreAnnounced (seen_count z) bodies (z.said ++ said_in text lines) text (line_of_text lines) → (place : ℕ) → seen_count z ≤ place → place < length bodies →
      HasUsesInside (seen_text z text lines) place ×
      (BodyStands (seen_count z) (seen_text z text lines) place → CanBeSettled bodies (z.said ++ said_in text lines) (all_uses (seen_text z text lines)) text (line_of_text lines) place × HasNoCircle (all_uses (seen_text z text lines)) place)
  ready bodies of_bodies of_definitions holds all place behind l =
      let a = all place behind l in
      let are = line_uses bodies place of_bodies of_definitions holds behind a in (
        λ w c. use_inside (abbreviation_names (z.said ++ said_in text lines)) text a.body.nodes.items w (subst (λ us. Contains us w) are c),
        λ stands.
            let d = stands place (there refl) behind (spelled text a.name) text a.parameters.items a.body a.its_place (line_defines bodies place holds a) in
            (record { announced = a; apart = d.apart; words = d.words; are = are }, d.ends),
      )
