-- The constants so far, by their names: one more word.
use Rattle.std.proofs.Common.{◌≡◌, ℕ, suc, ◌+◌, ◌<◌, List, [], ◌∷◌, ◌++◌, length, map, take, get_or, Bool, true, false, Option, Some, None, refl, sym, ap, subst, ◌∙◌, true≢false, append_assoc, arith}
use Rattle.std.specs.Prelude.{if◌then◌else◌, is_some, ◌||◌}
use Rattle.std.specs.Str.{bytes_eq}
use Rattle.std.proofs.lemmas.Grind.{common_steps}
use Rattle.std.proofs.lemmas.List.{map-append, take_more}
use Rattle.lp_sig.specs.Places.{HasPlaces, place_of}
use Rattle.lp_sig.specs.Rows.{found, number_row}
use Rattle.lp_sig.specs.Standard.{standard_constants}
use Rattle.lp_sig.specs.Said.{is_among, names_in}
use Rattle.lp_sig.specs.Modules.{first_names, numbered_names}
use Rattle.lp_sig.specs.Worded.{names_so_far, HasWords, is_met_word, is_met}
use Rattle.lp_sig.specs.declared.constants.Constant.{Constant}
use Rattle.lp_sig.specs.declared.constants.Constants.{Constants}
use Rattle.lp_sig.specs.declared.constants.Known.{Known}
use Rattle.lp_sig.specs.declared.entries.ConstantEntry.{ConstantEntry}
use Rattle.lp_sig.proofs.Firsts.{same_known, place_among, found_among}

-- one more name behind the others
pub names_more : (known ws : List (List ℕ)) (w : List ℕ) → first_names known (ws ++ w ∷ []) ≡ (if is_among w known || is_among w ws then first_names known ws else first_names known ws ++ w ∷ [])
names_more known [] w = by (is_among w known)
  where
    by : (t : Bool) → (if t then [] else w ∷ []) ≡ (if t || false then [] else w ∷ [])
    by true = refl
    by false = refl
names_more known (s ∷ ss) w =
    by (is_among s known) (is_among w known) (bytes_eq w s) (is_among w ss) _ _ _ _ (λ t b. same_known w s known t b) (names_more known ss w) (names_more (s ∷ known) ss w)
  where
    by : (t a b c : Bool) (f g x y : List (List ℕ)) → (t ≡ true → b ≡ true → a ≡ true) → x ≡ (if a || c then f else f ++ w ∷ []) → y ≡ (if (b || a) || c then g else g ++ w ∷ []) →
        (if t then x else s ∷ y) ≡ (if a || (b || c) then (if t then f else s ∷ g) else (if t then f else s ∷ g) ++ w ∷ [])
    by true true b c f g x y h p q = p
    by true false true c f g x y h p q = absurd (true≢false (sym (h refl refl)))
    by true false false true f g x y h p q = p
    by true false false false f g x y h p q = p
    by false true true c f g x y h p q = ap (λ z. s ∷ z) q
    by false true false c f g x y h p q = ap (λ z. s ∷ z) q
    by false false true c f g x y h p q = ap (λ z. s ∷ z) q
    by false false false true f g x y h p q = ap (λ z. s ∷ z) q
    by false false false false f g x y h p q = ap (λ z. s ∷ z) q

-- each word is among the first ones, but for those that were known
pub names_among : (n : List ℕ) (known ws : List (List ℕ)) → (is_among n known || is_among n (first_names known ws)) ≡ (is_among n known || is_among n ws)
names_among n known [] = refl
names_among n known (s ∷ ss) =
    by (is_among s known) (is_among n known) (bytes_eq n s) (is_among n ss) (first_names known ss) (first_names (s ∷ known) ss)
    (λ t b. same_known n s known t b) (names_among n known ss) (names_among n (s ∷ known) ss) refl
  where
    by : (t a b q : Bool) (f g : List (List ℕ)) → (t ≡ true → b ≡ true → a ≡ true) → (a || is_among n f) ≡ (a || q) → ((b || a) || is_among n g) ≡ ((b || a) || q) → b ≡ bytes_eq n s →
        (a || is_among n (if t then f else s ∷ g)) ≡ (a || (b || q))
    by true true b q f g h p r e = refl
    by true false true q f g h p r e = absurd (true≢false (sym (h refl refl)))
    by true false false q f g h p r e = p
    by false true b q f g h p r e = refl
    by false false true q f g h p r e = ap (λ z. z || is_among n g) (sym e)
    by false false false q f g h p r e = ap (λ z. z || is_among n g) (sym e) ∙ r

-- a word that was met, and a new one
pub words_again : (c : Constants) (words : List (List ℕ)) (w : List ℕ) → is_met_word w words ≡ true → HasWords c words → HasWords c (words ++ w ∷ [])
words_again c words w met h = record {
  are = h.are ∙ sym (names_more (names_in standard_constants) words w ∙ ap (λ t. if t then first_names (names_in standard_constants) words else
      first_names (names_in standard_constants) words ++ w ∷ []) met);
  places = h.places;
}

pub words_new : (old new : Constants) (words : List (List ℕ)) (w : List ℕ) (k : Constant) → is_met_word w words ≡ false → k.name.items ≡ w →
    new.constants.items ≡ old.constants.items ++ k ∷ [] → HasPlaces new.places (names_so_far old ++ w ∷ []) → HasWords old words → HasWords new
    (words ++ w ∷ [])
words_new old new words w k met named pushed places h =
    let e : names_so_far new ≡ names_so_far old ++ w ∷ [] = ap (map (λ k. k.name.items)) pushed ∙ map-append (λ k. k.name.items) old.constants.items
    (k ∷ []) ∙ ap (λ n. names_so_far old ++ n ∷ []) named in
    record {
      are = e ∙ ap (λ l. l ++ w ∷ []) h.are ∙ sym (names_more (names_in standard_constants) words w ∙ ap
          (λ t. if t then first_names (names_in standard_constants) words else first_names (names_in standard_constants) words ++ w ∷ []) met);
      places = subst (HasPlaces new.places) (sym e) places;
    }

-- whether a word was met
or_true : (b : Bool) → (b || true) ≡ true
or_true true = refl
or_true false = refl

or_false : (b : Bool) → b ≡ false → (b || false) ≡ false
or_false true e = e
or_false false e = refl

pub met_standard : (w : List ℕ) (words : List (List ℕ)) (n : ℕ) → Some n ≡ found w standard_constants → is_met_word w words ≡ true
met_standard w words n e = ap (λ b. b || is_among w words) (sym (found_among w standard_constants) ∙ ap is_some (sym e))

pub met_by_place : (c : Constants) (w : List ℕ) (words : List (List ℕ)) (o : Option ℕ) → o ≡ place_of c.places w → HasWords c words → is_met_word w
    words ≡ (is_among w (names_in standard_constants) || is_some o)
met_by_place c w words o e h =
    sym (names_among w (names_in standard_constants) words) ∙
    ap (λ b. is_among w (names_in standard_constants) || b) (ap (is_among w) (sym h.are) ∙ sym (place_among w (names_so_far c)) ∙ ap is_some (sym (e ∙ h.places w)))

pub met_declared : (c : Constants) (w : List ℕ) (words : List (List ℕ)) (place : ℕ) → Some place ≡ place_of c.places w → HasWords c words → is_met_word w words ≡ true
met_declared c w words place e h = met_by_place c w words (Some place) e h ∙ or_true (is_among w (names_in standard_constants))

pub met_new : (c : Constants) (w : List ℕ) (words : List (List ℕ)) → None ≡ found w standard_constants → None ≡ place_of c.places w → HasWords c words → is_met_word w words ≡ false
met_new c w words none e h = met_by_place c w words None e h ∙ or_false (is_among w (names_in standard_constants)) (sym (found_among w standard_constants) ∙ ap is_some (sym none))

module _ (word name : List ℕ) (k : Known) (same : word ≡ name) (old : Constants) (met : (words : List (List ℕ)) → HasWords old words → is_met_word word words ≡ is_met k) where
  -- a word that was met is declared
  pub word_again : is_met k ≡ true → (words : List (List ℕ)) → HasWords old words → HasWords old (words ++ name ∷ [])
  word_again is words h = subst (λ n. HasWords old (words ++ n ∷ [])) same (words_again old words word (met words h ∙ is) h)

  -- a new one is
  pub word_new : (new : Constants) → is_met k ≡ false → ((words : List (List ℕ)) → is_met_word word words ≡ false → HasWords old words → HasWords new
      (words ++ word ∷ [])) → (words : List (List ℕ)) → HasWords old words → HasWords new (words ++ name ∷ [])
  word_new new is added words h = subst (λ n. HasWords new (words ++ n ∷ [])) same (added words (met words h ∙ is) h)

-- one more of a list that is mapped
pub mapped_more : {A B : Type 0} (f : A → B) (xs : List A) (i : ℕ) (d : A) (rows : List B) → i < length xs → (rows ++ map f (take i xs)) ++ f (get_or xs i d) ∷ [] ≡ rows ++ map f (take (i + 1) xs)
mapped_more f xs i d rows h =
    append_assoc rows (map f (take i xs)) (f (get_or xs i d) ∷ []) ∙
    ap (λ z. rows ++ z) (sym (map-append f (take i xs) (get_or xs i d ∷ [])) ∙ ap (map f) (sym (take_more xs i d h)))

pub mapped_at : {A B : Type 0} (f : A → B) (xs : List A) (i : ℕ) (x : A) (rows : List B) → i < length xs → x ≡ get_or xs i x → (rows ++ map f (take i xs)) ++ f x ∷ [] ≡ rows ++ map f (take (i + 1) xs)
mapped_at f xs i x rows h is = ap (λ y. (rows ++ map f (take i xs)) ++ f y ∷ []) is ∙ mapped_more f xs i x rows h

-- one more name with its number
numbered_behind : (k : ℕ) (ns : List (List ℕ)) (n : List ℕ) → numbered_names k (ns ++ n ∷ []) ≡ numbered_names k ns ++ (n, k + length ns) ∷ []
numbered_behind k [] n = let z : k ≡ k + 0 = omega arith in ap (λ k. (n, k) ∷ []) z
numbered_behind k (x ∷ xs) n =
    let z : suc k + length xs ≡ k + suc (length xs) = omega arith in
    ap (λ z. (x, k) ∷ z) (numbered_behind (suc k) xs n ∙ ap (λ m. numbered_names (suc k) xs ++ (n, m) ∷ []) z)

pub number_more : (ks : List Constant) (i : ℕ) (k : Constant) (now new : List ConstantEntry) (e : ConstantEntry) → i < length ks → k ≡ get_or ks i k →
    map number_row now ≡ numbered_names 32 (map (λ k. k.name.items) (take i ks)) → new ≡ now ++ e ∷ [] →
    number_row e ≡ (k.name.items, 32 + i) → map number_row new ≡ numbered_names 32 (map (λ k. k.name.items) (take (i + 1) ks))
number_more ks i k now new e h is so more this =
    ap (map number_row) more ∙ map-append number_row now (e ∷ []) ∙ ap (λ z. z ++ number_row e ∷ []) so ∙
    ap (λ z. numbered_names 32 (map (λ k. k.name.items) (take i ks)) ++ z ∷ []) (this ∙ ap (λ n. (k.name.items, 32 + n)) l) ∙
    sym (numbered_behind 32 (map (λ k. k.name.items) (take i ks)) k.name.items) ∙
    ap (numbered_names 32) (ap (λ x. map (λ k. k.name.items) (take i ks) ++ x.name.items ∷ []) is ∙ sym
    (map-append (λ k. k.name.items) (take i ks) (get_or ks i k ∷ [])) ∙ ap (map (λ k. k.name.items)) (sym (take_more ks i k h)))
  where
    l : i ≡ length (map (λ k. k.name.items) (take i ks))
    l = grind (arith, common_steps)
