-- Where the sentences of a text have no fault, its abbreviations stand, since each is that of its first sentence; and where all stand,
-- each has a body.
use Rattle.std.proofs.Common.{◌≡◌, ℕ, zero, suc, ◌<◌, List, [], ◌∷◌, ◌++◌, Bool, true, false, length, get_or, Option, Some, None, refl, sym, ap, subst, ◌∙◌, arith}
use Rattle.std.specs.Global.{Global}
use Rattle.std.specs.Prelude.{if◌then◌else◌, option_map, is_some, Contains, Vec}
use Rattle.std.specs.Str.{bytes_eq}
use Rattle.std.proofs.lemmas.Slice.Eq.{bytes_eq-Decides}
use Rattle.std.proofs.lemmas.Option.{same_Some}
use Rattle.lp_base.specs.declared.place.Spot.{Spot}
use Rattle.lp_syntax.specs.declared.text.Declaration.{Declaration}
use Rattle.lp_syntax.specs.declared.text.Declaration.TheVariants.{Abbreviation}
use Rattle.lp_syntax.specs.declared.text.RawType.{RawType}
use Rattle.lp_sig.specs.Pieces.{spelled}
use Rattle.lp_sig.specs.Places.{first_place}
use Rattle.lp_sig.specs.Rows.{found}
use Rattle.lp_sig.specs.Said.{is_among, names_in, said_in}
use Rattle.lp_sig.specs.Standing.{DefinitionStands, seen_count, AllStand, BodyStands, TypeStands}
use Rattle.lp_sig.specs.Types.{Definition, in_text, as_tree, definitions_in}
use Rattle.lp_sig.specs.Abbreviations.{abbreviation_names, Seen, seen_text}
use Rattle.lp_sig.specs.Constants.{AreSettledIf}
use Rattle.lp_sig.specs.Faults.{IsSoundAbbreviation, IsSound, AreSound}
use Rattle.lp_sig.specs.Holding.{body_of, HoldsLines, line_of_text}
use Rattle.lp_sig.specs.Announced.{AreAnnounced}
use Rattle.lp_sig.specs.declared.bodies.Body.{Body}
use Rattle.lp_sig.proofs.FirstBodies.{line_defines, line_uses}
use Rattle.lp_sig.proofs.Heads.{place_below}

-- names with one first place are spelled alike
one_place : (m n : List ℕ) (ns : List (List ℕ)) (i : ℕ) → first_place m ns ≡ Some i → first_place n ns ≡ Some i → m ≡ n
one_place m n [] i e f = absurd (cc)
one_place m n (x ∷ xs) i e f = by (bytes_eq m x) (bytes_eq n x) (first_place m xs) (first_place n xs) refl refl refl refl e f (λ j p q. one_place m n xs j p q)
  where
    by : (s t : Bool) (o p : Option ℕ) → bytes_eq m x ≡ s → bytes_eq n x ≡ t → first_place m xs ≡ o → first_place n xs ≡ p → (if s then Some 0 else option_map (λ i. suc i) o) ≡ Some i → (if t then Some 0 else option_map (λ i. suc i) p) ≡ Some i →
        ((j : ℕ) → first_place m xs ≡ Some j → first_place n xs ≡ Some j → m ≡ n) → m ≡ n
    by true true o p s t c d e f r = (bytes_eq-Decides m x).0 s ∙ sym ((bytes_eq-Decides n x).0 t)
    by true false o None s t c d e f r = absurd (cc)
    by true false o (Some k) s t c d e f r = let a : 0 ≡ i = same_Some 0 i e in let b : suc k ≡ i = same_Some (suc k) i f in absurd (omega (arith, a, b))
    by false true None p s t c d e f r = absurd (cc)
    by false true (Some k) p s t c d e f r = let a : 0 ≡ i = same_Some 0 i f in let b : suc k ≡ i = same_Some (suc k) i e in absurd (omega (arith, a, b))
    by false false None p s t c d e f r = absurd (cc)
    by false false (Some j) None s t c d e f r = absurd (cc)
    by false false (Some j) (Some k) s t c d e f r =
        let a : suc j ≡ i = same_Some (suc j) i e in
        let b : suc k ≡ i = same_Some (suc k) i f in
        let l : k ≡ j = omega (arith, a, b) in
        r j c (d ∙ ap (λ k. Some k) l)

-- the sentence of a line
line_got : (lines : List Declaration) (i : ℕ) (d : Declaration) → line_of_text lines i ≡ Some d → (i < length lines) × (get_or lines i d ≡ d)
line_got [] i d e = absurd (cc)
line_got (x ∷ xs) zero d e = (omega arith, same_Some x d e)
line_got (x ∷ xs) (suc i) d e = let r = line_got xs i d e in let l = r.0 in (omega (arith, l), r.1)

module _ (z : Seen) (text : List ℕ) (lines : List Declaration) where
  its_sentence : (i : ℕ) (s : Spot) (ps : Vec Spot Global) (ty : RawType) → AreSound (seen_count z) text (seen_text z text lines) lines → line_of_text lines i ≡ Some (Abbreviation s ps ty) → IsSoundAbbreviation text (seen_text z text lines) s ps.items ty
  its_sentence i s ps ty all e =
      let r = line_got lines i (Abbreviation s ps ty) e in
      (subst (IsSound (seen_count z) text (seen_text z text lines)) r.1 (all i (Abbreviation s ps ty) r.0)).0

  -- a definition in a text stands
  abbrev IfInText : Seen → ℕ → Definition → Type 0
  IfInText z place (in_text text ps ty) = DefinitionStands z place text ps ty
  IfInText z place (as_tree t) = Unit {0}

  -- the abbreviations of a text whose sentences have no fault
  pub all_stand : (bodies : List Body) → ((n : List ℕ) → is_among n (names_in z.bodies) ≡ true → is_among n (names_in z.said) ≡ true) → ((n : List ℕ) → is_among n (names_in z.definitions) ≡ true → is_among n (names_in z.said) ≡ true) →
      HoldsLines bodies (z.said ++ said_in text lines) (z.definitions ++ definitions_in text lines) text (line_of_text lines) → length bodies ≡ length (abbreviation_names (z.said ++ said_in text lines)) →
      AreAnnounced (seen_count z) bodies (z.said ++ said_in text lines) text (line_of_text lines) → AreSound (seen_count z) text (seen_text z text lines) lines → AllStand (seen_count z) (seen_text z text lines)
  all_stand bodies of_bodies of_definitions holds count all sound place behind name written ps ty at is =
      let l = place_below name (abbreviation_names (z.said ++ said_in text lines)) place at in
      let a = all place behind (omega (arith, l, count)) in
      let s = its_sentence a.line a.name a.parameters a.body sound a.declares in
      let same = one_place name (spelled text a.name) (abbreviation_names (z.said ++ said_in text lines)) place at a.its_place in
      let this = same_Some (in_text text a.parameters.items a.body) (in_text written ps ty) (sym (line_defines z text lines bodies place holds a) ∙ ap (λ n. found n (z.definitions ++ definitions_in text lines)) (sym same) ∙ is) in
      let are = line_uses z text lines bodies place of_bodies of_definitions holds behind a in
      subst (IfInText (seen_text z text lines) place) this (record {
        apart = s.straight.head.1;
        words = s.words;
        ends = λ w c l. s.straight.ends (record { place = place; declared = a.its_place; way = w; word = subst (λ us. Contains us w) are c; leads = l });
      })

-- where all stand, each body and each type does
module _ (from : ℕ) (z : Seen) (all : AllStand from z) where
  pub all_bodies_stand : (place : ℕ) → BodyStands from z place
  all_bodies_stand place = λ i l h. all i h

  pub all_types_stand : (text : List ℕ) (ty : RawType) → TypeStands from z text ty
  all_types_stand text ty = λ w c i l h. all i h

  pub all_settled_bodies : (bodies : List Body) → length bodies ≡ length (abbreviation_names z.said) → AreSettledIf from z bodies → (place : ℕ) → place < length bodies → is_some (body_of bodies place) ≡ true
  all_settled_bodies bodies count settled place l = settled place (omega (arith, l, count)) (all_bodies_stand place)
