-- The entries of abbreviations are those of the declared names, each with the body at its place.
use Rattle.lp_sig.specs.declared.names.Names.{Names}
use Rattle.lp_sig.specs.inner.Reading.{AreSettled}
use Rattle.lp_sig.specs.Types.{Definition, HasBody}
use Rattle.lp_term.specs.Nodes.{Nodes}
use Rattle.std.proofs.Common.{◌≡◌, ℕ, zero, suc, ◌+◌, ◌<◌, List, [], ◌∷◌, ◌++◌, length, map, take, get_or, Bool, true, false, true≢false, Some, refl, sym, ap, subst, ◌∙◌, arith}
use Rattle.std.specs.Prelude.{if◌then◌else◌, option_map, ◌||◌, is_some}
use Rattle.std.specs.Str.{bytes_eq}
use Rattle.std.proofs.lemmas.Slice.Eq.{bytes_eq-Decides}
use Rattle.std.proofs.lemmas.List.{map-append, take_more, length-map}
use Rattle.lp_lemmas.proofs.Booleans.{or_false_right}
use Rattle.lp_sig.specs.Places.{first_place}
use Rattle.lp_sig.specs.Rows.{Row}
use Rattle.lp_sig.specs.Standard.{standard_kinds}
use Rattle.lp_sig.specs.Said.{Said, a_kind, an_abbreviation, is_among, names_in, firsts, abbreviations_among}
use Rattle.lp_sig.specs.Knowing.{head_row, Knows}
use Rattle.lp_sig.specs.Abbreviations.{abbreviation_names, Seen}
use Rattle.lp_sig.specs.Holding.{body_of, KnowsSeen, IsTree, HoldsBodies}
use Rattle.lp_sig.specs.Entries.{parameters_row, AreAbbreviations, HaveBodies}
use Rattle.lp_sig.specs.declared.bodies.Body.{Body}
use Rattle.lp_sig.specs.declared.names.Head.{Head}
use Rattle.lp_sig.specs.declared.making.Making.{Making}
use Rattle.lp_sig.specs.declared.entries.AbbreviationEntry.{AbbreviationEntry}

-- no name stands a second time
abbrev Distinct : List (List ℕ) → Type 0
Distinct [] = Unit {0}
Distinct (n ∷ ns) = (is_among n ns ≡ false) × Distinct ns

among_at : (ns : List (List ℕ)) (i : ℕ) (d : List ℕ) → i < length ns → is_among (get_or ns i d) ns ≡ true
among_at [] i d h = absurd (omega (arith, h))
among_at (n ∷ ns) zero d h = ap (λ t. t || is_among n ns) ((bytes_eq-Decides n n).1 refl)
among_at (n ∷ ns) (suc i) d h = by (bytes_eq (get_or ns i d) n) (among_at ns i d (omega (arith, h)))
  where
    by : (t : Bool) → is_among (get_or ns i d) ns ≡ true → (t || is_among (get_or ns i d) ns) ≡ true
    by true e = refl
    by false e = e

distinct_place : (ns : List (List ℕ)) (i : ℕ) (d : List ℕ) → Distinct ns → i < length ns → first_place (get_or ns i d) ns ≡ Some i
distinct_place [] i d k h = absurd (omega (arith, h))
distinct_place (n ∷ ns) zero d k h = ap (λ t. if t then Some 0 else option_map (λ i. suc i) (first_place n ns)) ((bytes_eq-Decides n n).1 refl)
distinct_place (n ∷ ns) (suc i) d k h = by (bytes_eq (get_or ns i d) n) refl (distinct_place ns i d k.1 (omega (arith, h)))
  where
    by : (t : Bool) → bytes_eq (get_or ns i d) n ≡ t → first_place (get_or ns i d) ns ≡ Some i → (if t then Some 0 else option_map (λ i. suc i) (first_place (get_or ns i d) ns)) ≡ Some (suc i)
    by true e f =
        let same : get_or ns i d ≡ n = (bytes_eq-Decides (get_or ns i d) n).0 e in
        absurd (true≢false (sym (among_at ns i d (omega (arith, h))) ∙ ap (λ m. is_among m ns) same ∙ k.0))
    by false e f = ap (option_map (λ i. suc i)) f

abbrev heads_behind : List (List ℕ) → List (Row Said) → List (List ℕ)
heads_behind known said = names_in (abbreviations_among (firsts known said))

-- the first rows of names are distinct, and none of them is known
heads_distinct : (known : List (List ℕ)) (said : List (Row Said)) → Distinct (heads_behind known said) × ((n : List ℕ) → is_among n (heads_behind known said) ≡ true → is_among n known ≡ false)
heads_distinct known [] = (tt, λ n e. absurd (true≢false (sym e)))
heads_distinct known ((m, a_kind c) ∷ rs) = by (is_among m known) refl (heads_distinct known rs) (heads_distinct (m ∷ known) rs)
  where
    by : (t : Bool) → is_among m known ≡ t → Distinct (heads_behind known rs) × ((n : List ℕ) → is_among n (heads_behind known rs) ≡ true → is_among n known ≡ false) →
        Distinct (heads_behind (m ∷ known) rs) × ((n : List ℕ) → is_among n (heads_behind (m ∷ known) rs) ≡ true → is_among n (m ∷ known) ≡ false) →
        Distinct (names_in (abbreviations_among (if t then firsts known rs else (m, a_kind c) ∷ firsts (m ∷ known) rs))) ×
        ((n : List ℕ) → is_among n (names_in (abbreviations_among (if t then firsts known rs else (m, a_kind c) ∷ firsts (m ∷ known) rs))) ≡ true → is_among n known ≡ false)
    by true e h k = h
    by false e h k = (k.0, λ n f. or_false_right (bytes_eq n m) (is_among n known) (k.1 n f))
heads_distinct known ((m, an_abbreviation p) ∷ rs) = by (is_among m known) refl (heads_distinct known rs) (heads_distinct (m ∷ known) rs)
  where
    fresh : (b : Bool) → is_among m (heads_behind (m ∷ known) rs) ≡ b → ((n : List ℕ) → is_among n (heads_behind (m ∷ known) rs) ≡ true → is_among n (m ∷ known) ≡ false) → is_among m (heads_behind (m ∷ known) rs) ≡ false
    fresh true e f = absurd (true≢false (sym (ap (λ t. t || is_among m known) ((bytes_eq-Decides m m).1 refl)) ∙ f m e))
    fresh false e f = e

    here : (n : List ℕ) (t : Bool) → bytes_eq n m ≡ t → is_among m known ≡ false → (is_among n (heads_behind (m ∷ known) rs) ≡ true → is_among n known ≡ false) → (t || is_among n (heads_behind (m ∷ known) rs)) ≡ true → is_among n known ≡ false
    here n true e f g h = ap (λ n. is_among n known) ((bytes_eq-Decides n m).0 e) ∙ f
    here n false e f g h = g h

    by : (t : Bool) → is_among m known ≡ t → Distinct (heads_behind known rs) × ((n : List ℕ) → is_among n (heads_behind known rs) ≡ true → is_among n known ≡ false) →
        Distinct (heads_behind (m ∷ known) rs) × ((n : List ℕ) → is_among n (heads_behind (m ∷ known) rs) ≡ true → is_among n (m ∷ known) ≡ false) →
        Distinct (names_in (abbreviations_among (if t then firsts known rs else (m, an_abbreviation p) ∷ firsts (m ∷ known) rs))) ×
        ((n : List ℕ) → is_among n (names_in (abbreviations_among (if t then firsts known rs else (m, an_abbreviation p) ∷ firsts (m ∷ known) rs))) ≡ true → is_among n known ≡ false)
    by true e h k = h
    by false e h k = (
      (fresh (is_among m (heads_behind (m ∷ known) rs)) refl k.1, k.0),
      λ n f. here n (bytes_eq n m) refl e (λ g. or_false_right (bytes_eq n m) (is_among n known) (k.1 n g)) f,
    )

-- an abbreviation stands first at its place
place_itself : (said : List (Row Said)) (i : ℕ) (d : List ℕ) → i < length (abbreviation_names said) → first_place (get_or (abbreviation_names said) i d) (abbreviation_names said) ≡ Some i
place_itself said i d h = distinct_place (abbreviation_names said) i d (heads_distinct (names_in standard_kinds) said).0 h

-- the bodies of entries, from a place on
bodies_more : (bodies : List Body) (n : ℕ) (es : List AbbreviationEntry) (e : AbbreviationEntry) (m : ℕ) → m ≡ n + length es → HaveBodies bodies n es → body_of bodies m ≡ Some e.body → HaveBodies bodies n (es ++ e ∷ [])
bodies_more bodies n [] e m same h is = (ap (body_of bodies) (let z : n ≡ m = omega (arith, same) in z) ∙ is, tt)
bodies_more bodies n (x ∷ xs) e m same h is = (h.0, bodies_more bodies (suc n) xs e m (omega (arith, same)) h.1 is)

body_at_place : (bodies : List Body) (n : ℕ) (es : List AbbreviationEntry) (k : ℕ) (d : AbbreviationEntry) (m : ℕ) → m ≡ n + k → k < length es → HaveBodies bodies n es → body_of bodies m ≡ Some (get_or es k d).body
body_at_place bodies n [] k d m same h b = absurd (omega (arith, h))
body_at_place bodies n (x ∷ xs) zero d m same h b = ap (body_of bodies) (let z : m ≡ n = omega (arith, same) in z) ∙ b.0
body_at_place bodies n (x ∷ xs) (suc k) d m same h b = body_at_place bodies (suc n) xs k d m (omega (arith, same)) (omega (arith, h)) b.1

-- one more entry
module _ (bodies : List Body) (heads : List Head) (i : ℕ) (head : Head) (now new : List AbbreviationEntry) (e : AbbreviationEntry) (h : i < length heads) (at : head ≡ get_or heads i head) (more : new ≡ now ++ e ∷ []) where
  pub rows_more : map parameters_row now ≡ map head_row (take i heads) → parameters_row e ≡ head_row head → map parameters_row new ≡ map head_row (take (i + 1) heads)
  rows_more rows row =
      ap (map parameters_row) more ∙ map-append parameters_row now (e ∷ []) ∙ ap (λ z. z ++ parameters_row e ∷ []) rows ∙ ap (λ r. map head_row (take i heads) ++ r ∷ []) (row ∙ ap head_row at) ∙
      sym (map-append head_row (take i heads) (get_or heads i head ∷ [])) ∙ ap (map head_row) (sym (take_more heads i head h))

  pub entry_bodies_more : map parameters_row now ≡ map head_row (take i heads) → HaveBodies bodies 0 now → body_of bodies i ≡ Some e.body → HaveBodies bodies 0 new
  entry_bodies_more rows have is =
      let l : i ≡ 0 + length now = counted rows in
      subst (HaveBodies bodies 0) (sym more) (bodies_more bodies 0 now e i l have is)
    where
      taken : (i : ℕ) (xs : List Head) → i < length xs → length (take i xs) ≡ i
      taken zero xs h = refl
      taken (suc i) [] h = absurd (omega (arith, h))
      taken (suc i) (x ∷ xs) h = ap (λ n. suc n) (taken i xs (omega (arith, h)))

      counted : map parameters_row now ≡ map head_row (take i heads) → i ≡ 0 + length now
      counted rows = let a = ap length rows in let b = length-map now parameters_row in let c = length-map (take i heads) head_row in let d = taken i heads h in omega (arith, a, b, c, d)

name_at : (es : List AbbreviationEntry) (k : ℕ) (d : AbbreviationEntry) → k < length es → (get_or es k d).name.items ≡ get_or (names_in (map parameters_row es)) k []
name_at [] k d h = absurd (omega (arith, h))
name_at (x ∷ xs) zero d h = refl
name_at (x ∷ xs) (suc k) d h = name_at xs k d (omega (arith, h))

-- the body of an entry is that of its name
pub body_listed : (names : Names) (b : Nodes) (bodies : List Body) (said : List (Row Said)) (defs : List (Row Definition)) (entries : List AbbreviationEntry) → Knows names said → HoldsBodies b bodies said defs → map parameters_row entries ≡ map head_row names.heads.items → HaveBodies bodies 0 entries →
    (i : ℕ) (d : AbbreviationEntry) → i < length entries → IsTree b (HasBody said defs (get_or entries i d).name.items) (get_or entries i d).body
body_listed names b bodies said defs entries k holds rows have i d h =
    let name = (get_or entries i d).name.items in
    let are : names_in (map parameters_row entries) ≡ abbreviation_names said = ap names_in (rows ∙ k.heads) in
    let there : name ≡ get_or (abbreviation_names said) i [] = name_at entries i d h ∙ ap (λ ns. get_or ns i []) are in
    let l : i < length (abbreviation_names said) = (let a = ap length are in let b = length-map (map parameters_row entries) (λ r. r.0) in let c = length-map entries parameters_row in omega (arith, a, b, c, h)) in
    let first : first_place name (abbreviation_names said) ≡ Some i = ap (λ n. first_place n (abbreviation_names said)) there ∙ place_itself said i [] l in
    holds name i (get_or entries i d).body first (body_at_place bodies 0 entries i d i (omega arith) h have)

-- all entries
pub all_listed : (making : Making) (z : Seen) (entries : List AbbreviationEntry) → KnowsSeen making z → map parameters_row entries ≡ map head_row making.names.heads.items → HaveBodies making.bodies.bodies.items 0 entries → AreAbbreviations making.bodies.types.bank z entries
all_listed making z entries k rows have = record {
  rows = rows ∙ k.names.heads;
  bodies = λ i d h.
      let tree = body_listed making.names making.bodies.types.bank making.bodies.bodies.items z.said z.definitions entries k.names k.types.holds rows have i d h in
      record { inside = tree.0; tree = tree.1 };
}

-- each has a body
pub all_settled : (names : Names) (bodies : List Body) (said : List (Row Said)) (entries : List AbbreviationEntry) → Knows names said → map parameters_row entries ≡ map head_row names.heads.items → HaveBodies bodies 0 entries → AreSettled bodies said
all_settled names bodies said entries k rows have place l =
    let are = ap length (ap names_in (rows ∙ k.heads)) in
    let b = length-map (map parameters_row entries) (λ r. r.0) in
    let c = length-map entries parameters_row in
    let inside : place < length entries = omega (arith, l, are, b, c) in
    let e = some_entry entries place inside in
    ap is_some (body_at_place bodies 0 entries place e place (omega arith) inside have)
  where
    some_entry : (es : List AbbreviationEntry) (i : ℕ) → i < length es → AbbreviationEntry
    some_entry [] i h = absurd (omega (arith, h))
    some_entry (x ∷ xs) i h = x
