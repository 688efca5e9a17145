-- Faults of names and of words: names one after the other, and the words of a type node by node.
use Rattle.std.proofs.Common.{◌≡◌, ℕ, ◌+◌, ◌<◌, ◌≤◌, List, [], ◌∷◌, ◌++◌, length, take, take_all, get_or, Bool, true, false, Option, Some, None, refl, sym, ap, subst, ◌∙◌, arith, inr, ⊎_elim, true≢false}
use Rattle.std.specs.Prelude.{◌≢◌, Contains, ◌⊎◌, if◌then◌else◌, nat_le, option_map, is_some}
use Rattle.std.proofs.lemmas.List.{take_more, get_or_default}
use Rattle.std.proofs.lemmas.List.Elements.{Contains-get_or, Contains-push, Contains-append_left, Contains-push_cases}
use Rattle.std.proofs.lemmas.Bool.{leb-true, leb-false}
use Rattle.lp_base.specs.declared.limit.Limit.TheVariants as limit
use Rattle.lp_base.specs.declared.place.Spot.{Spot}
use Rattle.lp_syntax.specs.declared.text.RawTypeNode.{RawTypeNode}
use Rattle.lp_sig.specs.Pieces.{spelled}
use Rattle.lp_sig.specs.Rows.{Row}
use Rattle.lp_sig.specs.Said.{Said, a_kind, an_abbreviation}
use Rattle.lp_sig.specs.Limits.{AreShort}
use Rattle.lp_sig.specs.Words.{meaning_of, word_fault, earlier_of, beginning, WordsStand, IsFirstFault, AreMeant, AreNumbered, IsNameFault, IsFirstName}
use Rattle.lp_sig.specs.declared.fault.SigFault.{SigFault}
use Rattle.lp_sig.specs.declared.fault.SigFault.TheVariants as fault

pub long_among : (text : List ℕ) (names : List Spot) (i : ℕ) (d : Spot) (e : SigFault) → i < length names → (e ≡ fault.Limit limit.NameLength) × (255 < length (spelled text (get_or names i d))) →
    (e ≡ fault.Limit limit.NameLength) × ((s : Spot) × Contains names s × (255 < length (spelled text s)))
long_among text names i d e h l = (l.0, (get_or names i d, Contains-get_or names i d h, l.1))

-- a name that means something else
module _ (text : List ℕ) (said : List (Row Said)) (name : Spot) (word : List ℕ) (same : word ≡ spelled text name) where
  pub other_count : (c d : ℕ) → Some (a_kind c) ≡ meaning_of word said → (c ≡ d → ⊥) → meaning_of (spelled text name) said ≢ Some (a_kind d)
  other_count c d means f e =
      let so : Some (a_kind c) ≡ Some (a_kind d) = means ∙ ap (λ w. meaning_of w said) same ∙ e in
      let is : c ≡ d = cc in
      f is

  pub not_a_kind : (p d : ℕ) → Some (an_abbreviation p) ≡ meaning_of word said → meaning_of (spelled text name) said ≢ Some (a_kind d)
  not_a_kind p d means e =
      let so : Some (an_abbreviation p) ≡ Some (a_kind d) = means ∙ ap (λ w. meaning_of w said) same ∙ e in
      absurd (cc)

  pub other_parameters : (p d : ℕ) → Some (an_abbreviation p) ≡ meaning_of word said → (p ≡ d → ⊥) → meaning_of (spelled text name) said ≢ Some (an_abbreviation d)
  other_parameters p d means f e =
      let so : Some (an_abbreviation p) ≡ Some (an_abbreviation d) = means ∙ ap (λ w. meaning_of w said) same ∙ e in
      let is : p ≡ d = cc in
      f is

  pub not_a_head : (c d : ℕ) → Some (a_kind c) ≡ meaning_of word said → meaning_of (spelled text name) said ≢ Some (an_abbreviation d)
  not_a_head c d means e =
      let so : Some (a_kind c) ≡ Some (an_abbreviation d) = means ∙ ap (λ w. meaning_of w said) same ∙ e in
      absurd (cc)

  pub no_meaning : (m : Said) → None ≡ meaning_of word said → meaning_of (spelled text name) said ≢ Some m
  no_meaning m means e =
      let so : None ≡ Some m = means ∙ ap (λ w. meaning_of w said) same ∙ e in
      absurd (cc)

  pub so_meant : (m n : Said) → Some m ≡ meaning_of word said → m ≡ n → meaning_of (spelled text name) said ≡ Some n
  so_meant m n means is = sym (means ∙ ap (λ w. meaning_of w said) same) ∙ ap (λ m. Some m) is

-- the first name that is refused
pub first_name : (text : List ℕ) (said : List (Row Said)) (m : Said) (names : List Spot) (i : ℕ) (d : Spot) (e : SigFault) → i < length names → AreMeant text said m (take i names) → AreNumbered text said (take i names) → IsNameFault text said m (get_or names i d) e → IsFirstName text said m names e
first_name text said m names i d e h before numbers this = record { k = i; name = get_or names i d; inside = h; at_name = get_or_default names i (get_or names i d) d h; refused = this; before = before; numbered_before = numbers }

pub all_meant : (text : List ℕ) (said : List (Row Said)) (m : Said) (names : List Spot) (i : ℕ) → length names ≤ i → AreMeant text said m (take i names) → AreMeant text said m names
all_meant text said m names i h all = subst (AreMeant text said m) (take_all i names h) all

pub all_numbered : (text : List ℕ) (said : List (Row Said)) (names : List Spot) (i : ℕ) → length names ≤ i → AreNumbered text said (take i names) → AreNumbered text said names
all_numbered text said names i h all = subst (AreNumbered text said) (take_all i names h) all

pub all_short : (text : List ℕ) (names : List Spot) (i : ℕ) → length names ≤ i → AreShort text (take i names) → AreShort text names
all_short text names i h all = subst (AreShort text) (take_all i names h) all

-- the first fault of the nodes so far, with its place
pub record IsFirstAt (text : List ℕ) (said : List (Row Said)) (variables : Option (List (List ℕ))) (nodes : List RawTypeNode) (f : ℕ × SigFault) : Type 0 where
  pub first : IsFirstFault text said variables nodes f.1
  pub there : beginning first.node ≡ f.0

abbrev pub Finds : List ℕ → List (Row Said) → Option (List (List ℕ)) → List RawTypeNode → Option (ℕ × SigFault) → Type 0
Finds text said variables nodes None = WordsStand text said variables nodes
Finds text said variables nodes (Some f) = IsFirstAt text said variables nodes f

pub finds_nothing : (text : List ℕ) (said : List (Row Said)) (vs : Option (List (List ℕ))) → WordsStand text said vs []
finds_nothing text said vs n c = let l = c.1 in absurd (omega (arith, l))

-- one more node
module _ (text : List ℕ) (said : List (Row Said)) (vs : Option (List (List ℕ))) (nodes : List RawTypeNode) (n : RawTypeNode) where
  in_both : (P : RawTypeNode → Type 0) → ((x : RawTypeNode) → Contains nodes x → P x) → P n → (x : RawTypeNode) → Contains (nodes ++ n ∷ []) x → P x
  in_both P f p x c = ⊎_elim (λ d. f x d) (λ e. subst P e p) (Contains-push_cases nodes n x c)

  not_some : {A : Type 0} (o : Option A) (B : Type 0) → o ≡ None → is_some o ≡ true → B
  not_some o B none some = absurd (true≢false (sym some ∙ ap is_some none))

  -- the first one stays
  still_first : (f : ℕ × SigFault) → IsFirstAt text said vs nodes f → (is_some (word_fault text said vs n) ≡ true → f.0 ≤ beginning n) → IsFirstAt text said vs (nodes ++ n ∷ []) f
  still_first f h before = record {
    first = record {
      node = h.first.node;
      among = Contains-append_left nodes (n ∷ []) h.first.node h.first.among;
      is = h.first.is;
      first = in_both (λ x. is_some (word_fault text said vs x) ≡ true → beginning h.first.node ≤ beginning x) h.first.first (λ some. subst (λ k. k ≤ beginning n) (sym h.there) (before some));
    };
    there = h.there;
  }

  -- this one is the first
  now_first : (e : SigFault) → word_fault text said vs n ≡ Some e → ((x : RawTypeNode) → Contains nodes x → is_some (word_fault text said vs x) ≡ true → beginning n ≤ beginning x) → IsFirstAt text said vs (nodes ++ n ∷ []) (beginning n, e)
  now_first e is before = record {
    first = record {
      node = n;
      among = Contains-push nodes n;
      is = is;
      first = in_both (λ x. is_some (word_fault text said vs x) ≡ true → beginning n ≤ beginning x) before (λ some. omega arith);
    };
    there = refl;
  }

  finds_one_more : (first : Option (ℕ × SigFault)) (o : Option SigFault) → Finds text said vs nodes first → o ≡ word_fault text said vs n → Finds text said vs (nodes ++ n ∷ []) (earlier_of first (option_map (λ e. (beginning n, e)) o))
  finds_one_more None None h is = in_both (λ x. word_fault text said vs x ≡ None) h (sym is)
  finds_one_more None (Some e) h is = now_first e (sym is) (λ x c some. not_some (word_fault text said vs x) (beginning n ≤ beginning x) (h x c) some)
  finds_one_more (Some f) None h is = still_first f h (λ some. not_some (word_fault text said vs n) (f.0 ≤ beginning n) (sym is) some)
  finds_one_more (Some f) (Some e) h is = by (nat_le f.0 (beginning n)) refl
    where
      by : (t : Bool) → nat_le f.0 (beginning n) ≡ t → Finds text said vs (nodes ++ n ∷ []) (if t then Some f else Some (beginning n, e))
      by true t = still_first f h (λ some. leb-true f.0 (beginning n) t)
      by false t = now_first e (sym is) (λ x c some.
          let a : beginning h.first.node ≤ beginning x = h.first.first x c some in
          let b : beginning h.first.node ≡ f.0 = h.there in
          let d : beginning n < f.0 = leb-false f.0 (beginning n) t in
          omega (arith, a, b, d))

pub finds_more : (text : List ℕ) (said : List (Row Said)) (vs : Option (List (List ℕ))) (all seen : List RawTypeNode) (i : ℕ) (n : RawTypeNode) (first now next : Option (ℕ × SigFault)) → seen ≡ all → i < length seen → n ≡ get_or seen i n →
    Finds text said vs (take i all) first → now ≡ option_map (λ e. (beginning n, e)) (word_fault text said vs n) → next ≡ earlier_of first now → Finds text said vs (take (i + 1) all) next
finds_more text said vs all seen i n first now next same h at so this is =
    let l : i < length all = subst (λ l. i < length l) same h in
    let e : n ≡ get_or all i n = at ∙ ap (λ l. get_or l i n) same in
    subst (Finds text said vs (take (i + 1) all)) (sym (is ∙ ap (earlier_of first) this))
    (subst (λ l. Finds text said vs l (earlier_of first (option_map (λ e. (beginning n, e)) (word_fault text said vs n)))) (ap (λ x. take i all ++ x ∷ []) e ∙ sym (take_more all i n l))
    (finds_one_more text said vs (take i all) n first (word_fault text said vs n) so refl))

-- behind the last node
pub finds_all : (text : List ℕ) (said : List (Row Said)) (vs : Option (List (List ℕ))) (all seen : List RawTypeNode) (i : ℕ) (now : Option (ℕ × SigFault)) → seen ≡ all → length seen ≤ i → Finds text said vs (take i all) now → Finds text said vs all now
finds_all text said vs all seen i now same h so = subst (λ l. Finds text said vs l now) (take_all i all (subst (λ l. length l ≤ i) same h)) so

pub first_found : (text : List ℕ) (said : List (Row Said)) (vs : Option (List (List ℕ))) (nodes : List RawTypeNode) (o : Option (ℕ × SigFault)) (at : ℕ) (e : SigFault) → o ≡ Some (at, e) → Finds text said vs nodes o → (e ≡ fault.Memory) ⊎ IsFirstFault text said vs nodes e
first_found text said vs nodes o at e is h =
    let g : IsFirstAt text said vs nodes (at, e) = subst (Finds text said vs nodes) is h in
    inr g.first

pub nothing_found : (text : List ℕ) (said : List (Row Said)) (vs : Option (List (List ℕ))) (nodes : List RawTypeNode) (o : Option (ℕ × SigFault)) → o ≡ None → Finds text said vs nodes o → WordsStand text said vs nodes
nothing_found text said vs nodes o is h = subst (Finds text said vs nodes) is h
