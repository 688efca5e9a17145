-- Words with their numbers, and the signatures that they name, which go with those before them.
use Rattle.std.specs.Global.{Global}
use Rattle.std.proofs.Common.{◌≡◌, ℕ, zero, suc, ◌+◌, ◌<◌, ◌≤◌, List, [], ◌∷◌, ◌++◌, length, map, get_or, take, Bool, true, false, Option, Some, None, Vec, Bor, refl, sym, ap, subst, ◌∙◌, arith, true≢false, inl, inr, append_assoc, append-nil}
use Rattle.std.specs.Prelude.{◌⊎◌, if◌then◌else◌, is_some, option_map, option_copied, slice_get, Contains, All, ◌||◌, IfSome}
use Rattle.std.specs.Slice.{IsItemAt}
use Rattle.std.specs.Str.{bytes_eq}
use Rattle.std.specs.Map.{lookup}
use Rattle.std.proofs.lemmas.List.{length-append, map-append, take_more}
use Rattle.std.proofs.lemmas.List.Elements.{All-nil, All-append, All-push, Contains-append_cases, Contains-append_left, Contains-append_right}
use Rattle.std.proofs.lemmas.Option.{same_Some, slice_get-get_or, slice_get_past}
use Rattle.std.proofs.lemmas.Slice.Eq.{bytes_eq-Decides}
use Rattle.indexmap.specs.IndexMap.{IndexMap}
use Rattle.lp_lemmas.proofs.Elements.{Contains_head, Contains_tail, Contains_single}
use Rattle.lp_base.specs.declared.place.Spot.{Spot}
use Rattle.lp_syntax.specs.declared.text.Declaration.{Declaration}
use Rattle.lp_syntax.specs.declared.text.Declaration.TheVariants.{Kinds, LocalKinds, Constants, Locals, Abbreviation, Accumulate, AccumSig, Fixities}
use Rattle.lp_sig.specs.Places.{first_place}
use Rattle.lp_sig.specs.Pieces.{spelled}
use Rattle.lp_sig.specs.Said.{Said, is_among}
use Rattle.lp_sig.specs.Loading.{accum_words}
use Rattle.lp_sig.specs.Rows.{Row}
use Rattle.lp_sig.specs.Modules.{first_names, of_each, said_of}
use Rattle.lp_sig.specs.Named.{accumulate_in, many_words, IsOrdered}
use Rattle.lp_sig.specs.Sighted.{Grows, SeenSo}
use Rattle.lp_sig.specs.Sights.{HasNumbers, AreAlike, IsAlike, AreWordsAlike, AreTheirEntries, signature_words, module_words, IsSightOf}
use Rattle.lp_sig.specs.declared.constants.Constant.{Constant}
use Rattle.lp_sig.specs.declared.constants.DeclaredType.{DeclaredType}
use Rattle.lp_sig.specs.declared.entries.ConstantEntry.{ConstantEntry}
use Rattle.lp_sig.specs.declared.making.Making.{Making}
use Rattle.lp_sig.specs.declared.signature.Signature.{Signature}
use Rattle.lp_sig.specs.declared.see.Sight.{Sight}
use Rattle.lp_sig.specs.declared.see.Sight.TheVariants.{Alike}
use Rattle.lp_sig.proofs.Finding.{first_new}
use Rattle.lp_sig.proofs.Firsts.{place_among}
use Rattle.lp_sig.proofs.Naming.{accum_append}
use Rattle.lp_sig.proofs.Viewing.{seen_stays}
use Rattle.lp_sig.proofs.Worded.{names_more, names_among, mapped_more}

-- one more word: one that has a number, and a new one
same_first : (words : List (List ℕ)) (w : List ℕ) → is_among w words ≡ true → first_names [] (words ++ w ∷ []) ≡ first_names [] words
same_first words w e = names_more [] words w ∙ ap (λ t. if t then first_names [] words else first_names [] words ++ w ∷ []) e

more_first : (words : List (List ℕ)) (w : List ℕ) → is_among w words ≡ false → first_names [] (words ++ w ∷ []) ≡ first_names [] words ++ w ∷ []
more_first words w e = names_more [] words w ∙ ap (λ t. if t then first_names [] words else first_names [] words ++ w ∷ []) e

module _ {S : Type 0} (numbers : IndexMap (Vec ℕ Global) ℕ S) (words : List (List ℕ)) (h : HasNumbers numbers words) where
  -- whether a word has a number
  pub word_known : (w : List ℕ) (b : Bool) → is_some (lookup (λ k. bytes_eq w k.items) numbers.entries) ≡ b → is_among w words ≡ b
  word_known w b e = sym (names_among w [] words) ∙ sym (place_among w (first_names [] words)) ∙ ap is_some (sym (h.0 w)) ∙ e

  pub numbers_again : (w : List ℕ) → is_some (lookup (λ k. bytes_eq w k.items) numbers.entries) ≡ true → HasNumbers numbers (words ++ w ∷ [])
  numbers_again w e =
      let f = sym (same_first words w (word_known w true e)) in
      ((λ name. h.0 name ∙ ap (first_place name) f), h.1 ∙ ap length f)

  pub numbers_more : (w : List ℕ) (key : Vec ℕ Global) (next : ℕ) (new : IndexMap (Vec ℕ Global) ℕ S) → is_some
      (lookup (λ k. bytes_eq w k.items) numbers.entries) ≡ false → key.items ≡ w → next ≡ length numbers.entries →
      ((name : List ℕ) → lookup (λ k. bytes_eq name k.items) new.entries ≡ (if bytes_eq name key.items then Some next else lookup
      (λ k. bytes_eq name k.items) numbers.entries)) → length new.entries ≡ length numbers.entries + 1 → HasNumbers new (words ++ w ∷ [])
  numbers_more w key next new e is n added count =
      let among = word_known w false e in
      let f = sym (more_first words w among) in
      let l = length-append (first_names [] words) (w ∷ []) in (
        (λ name. added name ∙ ap (λ k. if bytes_eq name k then Some next else lookup (λ k. bytes_eq name k.items) numbers.entries) is ∙
            first_new w name (first_names [] words) next (lookup (λ k. bytes_eq name k.items) numbers.entries) (first_place w (first_names [] words))
            (n ∙ h.1) (h.0 name) (ap is_some (sym (h.0 w)) ∙ e) refl ∙
            ap (first_place name) f),
        count ∙ ap (λ n. n + 1) h.1 ∙ sym l ∙ ap length f,
      )

-- the words of more sentences
modules_append : (xs ys : List Declaration) → accumulate_in (xs ++ ys) ≡ accumulate_in xs ++ accumulate_in ys
modules_append [] ys = refl
modules_append (Kinds a b ∷ ds) ys = modules_append ds ys
modules_append (LocalKinds a b ∷ ds) ys = modules_append ds ys
modules_append (Constants a b ∷ ds) ys = modules_append ds ys
modules_append (Locals a b ∷ ds) ys = modules_append ds ys
modules_append (Abbreviation a b t ∷ ds) ys = modules_append ds ys
modules_append (Accumulate ws ∷ ds) ys = ap (λ l. ws.items ++ l) (modules_append ds ys) ∙ sym (append_assoc ws.items (accumulate_in ds) (accumulate_in ys))
modules_append (AccumSig ws ∷ ds) ys = modules_append ds ys
modules_append (Fixities a b n ∷ ds) ys = modules_append ds ys

pub signature_words_append : (text : List ℕ) (xs ys : List Declaration) → signature_words text (xs ++ ys) ≡ signature_words text xs ++ signature_words text ys
signature_words_append text xs ys = ap (map (λ s. spelled text s)) (accum_append xs ys) ∙ map-append (λ s. spelled text s) (accum_words xs) (accum_words ys)

pub module_words_append : (text : List ℕ) (xs ys : List Declaration) → module_words text (xs ++ ys) ≡ module_words text xs ++ module_words text ys
module_words_append text xs ys = ap (map (λ s. spelled text s)) (modules_append xs ys) ∙ map-append (λ s. spelled text s) (accumulate_in xs) (accumulate_in ys)

-- a sentence with no such words
pub no_numbers : {S : Type 0} (numbers : IndexMap (Vec ℕ Global) ℕ S) (words more : List (List ℕ)) → more ≡ [] → HasNumbers numbers words → HasNumbers numbers (words ++ more)
no_numbers numbers words more e h = subst (HasNumbers numbers) (sym (append-nil words) ∙ ap (λ m. words ++ m) (sym e)) h

-- words that are alike
pub none_alike : (P : List ℕ → Type 0) (more : List (List ℕ)) → more ≡ [] → All P more
none_alike P more e = subst (All P) (sym e) (All-nil P)

pub both_alike : (sights : List Sight) (text : List ℕ) (signatures modules : List (List ℕ)) (xs ys : List Declaration) → AreWordsAlike sights text
    signatures modules xs → AreWordsAlike sights text signatures modules ys → AreWordsAlike sights text signatures modules (xs ++ ys)
both_alike sights text signatures modules xs ys a b = (
  subst (All (IsAlike sights 0 signatures)) (sym (signature_words_append text xs ys)) (All-append (IsAlike sights 0 signatures) (signature_words text xs) (signature_words text ys) a.0 b.0),
  subst (All (IsAlike sights (length (first_names [] signatures)) modules)) (sym (module_words_append text xs ys))
      (All-append (IsAlike sights (length (first_names [] signatures)) modules) (module_words text xs) (module_words text ys) a.1 b.1),
)

-- first names are apart
pub new_name : (known ws : List (List ℕ)) (i : ℕ) (w : List ℕ) → slice_get (first_names known ws) i ≡ Some w → is_among w known ≡ false
new_name known [] i w e = absurd (cc)
new_name known (n ∷ ns) i w e = by (λ j f. new_name known ns j w f) (λ j f. new_name (n ∷ known) ns j w f) (is_among n known) refl i e
  where
    or_right : (a b : Bool) → (a || b) ≡ false → b ≡ false
    or_right true b f = absurd (true≢false f)
    or_right false b f = f

    by : ((j : ℕ) → slice_get (first_names known ns) j ≡ Some w → is_among w known ≡ false) →
        ((j : ℕ) → slice_get (first_names (n ∷ known) ns) j ≡ Some w → is_among w (n ∷ known) ≡ false) → (t : Bool) → is_among n known ≡ t → (i : ℕ) →
        slice_get (if t then first_names known ns else n ∷ first_names (n ∷ known) ns) i ≡ Some w → is_among w known ≡ false
    by g h true s i e = g i e
    by g h false s zero e = ap (λ w. is_among w known) (sym (same_Some n w e)) ∙ s
    by g h false s (suc i) e = or_right (bytes_eq w n) (is_among w known) (h i e)

apart_head : (n w : List ℕ) (known : List (List ℕ)) → is_among w (n ∷ known) ≡ false → bytes_eq w n ≡ false
apart_head n w known e = by (bytes_eq w n) e
  where
    by : (t : Bool) → (t || is_among w known) ≡ false → t ≡ false
    by true f = absurd (true≢false f)
    by false f = refl

pub place_first : (known ws : List (List ℕ)) (i : ℕ) (w : List ℕ) → slice_get (first_names known ws) i ≡ Some w → first_place w (first_names known ws) ≡ Some i
place_first known [] i w e = absurd (cc)
place_first known (n ∷ ns) i w e = by (λ j f. place_first known ns j w f) (λ j f. place_first (n ∷ known) ns j w f) (is_among n known) i e
  where
    by : ((j : ℕ) → slice_get (first_names known ns) j ≡ Some w → first_place w (first_names known ns) ≡ Some j) →
        ((j : ℕ) → slice_get (first_names (n ∷ known) ns) j ≡ Some w → first_place w (first_names (n ∷ known) ns) ≡ Some j) →
        (t : Bool) → (i : ℕ) → slice_get (if t then first_names known ns else n ∷ first_names (n ∷ known) ns) i ≡ Some w → first_place w
        (if t then first_names known ns else n ∷ first_names (n ∷ known) ns) ≡ Some i
    by g h true i e = g i e
    by g h false zero e = ap (λ t. if t then Some 0 else option_map (λ i. suc i) (first_place w (first_names (n ∷ known) ns))) ((bytes_eq-Decides w n).1 (sym (same_Some n w e)))
    by g h false (suc i) e =
        ap (λ t. if t then Some 0 else option_map (λ i. suc i) (first_place w (first_names (n ∷ known) ns))) (apart_head n w known (new_name (n ∷ known) ns i w e)) ∙
        ap (option_map (λ i. suc i)) (h i e)

pub first_among : (known ws : List (List ℕ)) (i : ℕ) (w : List ℕ) → slice_get (first_names known ws) i ≡ Some w → Contains ws w
first_among known [] i w e = absurd (cc)
first_among known (n ∷ ns) i w e = by (λ j f. first_among known ns j w f) (λ j f. first_among (n ∷ known) ns j w f) (is_among n known) i e
  where
    by : ((j : ℕ) → slice_get (first_names known ns) j ≡ Some w → Contains ns w) → ((j : ℕ) → slice_get (first_names (n ∷ known) ns) j ≡ Some w → Contains ns w) → (t : Bool) → (i : ℕ) →
        slice_get (if t then first_names known ns else n ∷ first_names (n ∷ known) ns) i ≡ Some w → Contains (n ∷ ns) w
    by g h true i e = Contains_tail n w ns (g i e)
    by g h false zero e = subst (Contains (n ∷ ns)) (same_Some n w e) (Contains_head n ns)
    by g h false (suc i) e = Contains_tail n w ns (h i e)

-- where the words of a text are alike, the signatures that they name are
alike_at : (sights : List Sight) (from : ℕ) (all : List (List ℕ)) → All (IsAlike sights from all) all → (i : ℕ) → i < length (first_names [] all) → slice_get sights (from + i) ≡ Some Alike
alike_at sights from all alike i l =
    let w = get_or (first_names [] all) i [] in
    let at = slice_get-get_or (first_names [] all) i [] l in
    let c = first_among [] all i w at in
    subst (IsAlike sights from all) c.2 (alike c.0 w c.1) i (place_first [] all i w at)

pub all_alike : (sights : List Sight) (text : List ℕ) (ds : List Declaration) → AreWordsAlike sights text (signature_words text ds) (module_words text ds) ds → AreAlike sights (many_words text ds)
all_alike sights text ds (s, m) i l = by (cut i (length (first_names [] (signature_words text ds))))
  where
    cut : (i n : ℕ) → (i < n) ⊎ ((j : ℕ) × (i ≡ n + j))
    cut i zero = inr (i, omega arith)
    cut zero (suc n) = inl (omega arith)
    cut (suc i) (suc n) = next (cut i n)
      where
        next : (i < n) ⊎ ((j : ℕ) × (i ≡ n + j)) → (suc i < suc n) ⊎ ((j : ℕ) × (suc i ≡ suc n + j))
        next (inl h) = inl (omega (arith, h))
        next (inr (j, h)) = inr (j, omega (arith, h))

    by : (i < length (first_names [] (signature_words text ds))) ⊎ ((j : ℕ) × (i ≡ length (first_names [] (signature_words text ds)) + j)) → slice_get sights i ≡ Some Alike
    by (inl h) = let z : i ≡ 0 + i = omega arith in ap (slice_get sights) z ∙ alike_at sights 0 (signature_words text ds) s i h
    by (inr (j, h)) = ap (slice_get sights) h ∙ alike_at sights (length (first_names [] (signature_words text ds))) (module_words text ds) m j (omega (arith, h, l))

-- a word with a number whose sight is known
pub alike_signature : (sights : List Sight) (all : List (List ℕ)) (word : List ℕ) (n : ℕ) → first_place word (first_names [] all) ≡ Some n → slice_get sights n ≡ Some Alike → IsAlike sights 0 all word
alike_signature sights all word n e at i f = let q = same_Some n i (sym e ∙ f) in let z : 0 + i ≡ n = omega (arith, q) in ap (slice_get sights) z ∙ at

pub alike_module : (sights : List Sight) (from : ℕ) (all : List (List ℕ)) (word : List ℕ) (n place : ℕ) → first_place word (first_names [] all) ≡ Some
    n → place ≡ from + n → slice_get sights place ≡ Some Alike → IsAlike sights from all word
alike_module sights from all word n place e is at i f =
    let z : n ≡ i = same_Some n i (sym e ∙ f) in
    ap (slice_get sights) (ap (λ i. from + i) (sym z) ∙ sym is) ∙ at

-- one more entry
pub entries_more : (ks : List Constant) (i : ℕ) (k : Constant) (now new : List ConstantEntry) (e : ConstantEntry) → i < length ks → k ≡ get_or ks i k
    → new ≡ now ++ e ∷ [] → AreTheirEntries (take i ks) now →
    e.name.items ≡ k.name.items → ((d : DeclaredType) → k.declared ≡ Some d → (e.type_vars ≡ d.type_vars) × (e.scheme ≡ d.scheme)) → AreTheirEntries (take (i + 1) ks) new
entries_more ks i k now new e l at is before name typed j has d declared = by (Contains-append_cases (take i ks) (k ∷ []) j
    (subst (λ l. Contains l j) (take_more ks i k l ∙ ap (λ k. take i ks ++ k ∷ []) (sym at)) has))
  where
    by : Contains (take i ks) j ⊎ Contains (k ∷ []) j → (e : ConstantEntry) × Contains new e × (e.name.items ≡ j.name.items) × (e.type_vars ≡ d.type_vars) × (e.scheme ≡ d.scheme)
    by (inl c) = let r = before j c d declared in (r.0, subst (λ l. Contains l r.0) (sym is) (Contains-append_left now (e ∷ []) r.0 r.1), r.2, r.3, r.4)
    by (inr c) =
        let z : k ≡ j = Contains_single k j c in
        let t = typed d (ap (λ k. k.declared) z ∙ declared) in
        (e, subst (λ l. Contains l e) (sym is) (Contains-append_right now (e ∷ []) e (Contains_head e [])), name ∙ ap (λ k. k.name.items) z, t.0, t.1)

-- one of a list
pub at_is : {A : Type 0} (P : A → Type 0) (xs : List A) (i : ℕ) (x : A) → i < length xs → x ≡ get_or xs i x → All P xs → P x
at_is P xs i x l is all = subst P (sym is) (all i x l)

-- one more sight
sights_front : (now new : List Sight) (s : Sight) (n : ℕ) → new ≡ now ++ s ∷ [] → n ≤ length now → AreAlike new n → AreAlike now n
sights_front now new s n is l alike i h = sym (front now i (omega (arith, h, l))) ∙ ap (λ l. slice_get l i) (sym is) ∙ alike i h
  where
    front : (xs : List Sight) (i : ℕ) → i < length xs → slice_get (xs ++ s ∷ []) i ≡ slice_get xs i
    front [] i h = absurd (omega (arith, h))
    front (x ∷ xs) zero h = refl
    front (x ∷ xs) (suc i) h = front xs i (omega (arith, h))

pub last_alike : (now new : List Sight) (s : Sight) (n : ℕ) → new ≡ now ++ s ∷ [] → length now ≡ n → AreAlike new (n + 1) → AreAlike now n × (s ≡ Alike)
last_alike now new s n is l alike = (
  sights_front now new s n is (omega (arith, l)) (λ i h. alike i (omega (arith, h))),
  same_Some s Alike
      (sym (last now) ∙ ap (λ l. slice_get l (length now)) (sym is) ∙ alike (length now) (omega (arith, l))),
)
  where
    last : (xs : List Sight) → slice_get (xs ++ s ∷ []) (length xs) ≡ Some s
    last [] = refl
    last (x ∷ xs) = last xs

module _ (old new : Making) (said : List (Row Said)) (used : List Signature) (at : ℕ) (x : Signature) (now news : List Sight) (s : Sight)
    (l : at < length used) (is : x ≡ get_or used at x) (pushed : news ≡ now ++ s ∷ []) (count : length now ≡ at) (g : Grows old new)
    (ordered : All IsOrdered used)
    (before : (n : ℕ) → n ≤ at → AreAlike now n → (i : ℕ) → i < n → (u : Signature) → slice_get used i ≡ Some u → SeenSo old (said ++ of_each said_of (take at used)) u)
    (this : AreAlike now at → s ≡ Alike → SeenSo new ((said ++ of_each said_of (take at used)) ++ said_of x) x) where
  -- the signatures that were seen before, and this one
  pub seen_so_far : (n : ℕ) → n ≤ at + 1 → AreAlike news n → (i : ℕ) → i < n → (u : Signature) → slice_get used i ≡ Some u → SeenSo new ((said ++ of_each said_of (take at used)) ++ said_of x) u
  seen_so_far n h alike i below u found = by (cut i at)
    where
      cut : (i n : ℕ) → (i < n) ⊎ (n ≤ i)
      cut i zero = inr (omega arith)
      cut zero (suc n) = inl (omega arith)
      cut (suc i) (suc n) = next (cut i n)
        where
          next : (i < n) ⊎ (n ≤ i) → (suc i < suc n) ⊎ (suc n ≤ suc i)
          next (inl h) = inl (omega (arith, h))
          next (inr h) = inr (omega (arith, h))

      earlier : i < at → SeenSo new ((said ++ of_each said_of (take at used)) ++ said_of x) u
      earlier low =
          let o : IsOrdered u = subst IsOrdered (same_Some (get_or used i u) u (sym (slice_get-get_or used i u (omega (arith, low, l))) ∙ found)) (ordered i u (omega (arith, low, l))) in
          seen_stays old new (said ++ of_each said_of (take at used)) (said_of x) u o g.bank g.constants
          (before (i + 1) (omega (arith, low)) (sights_front now news s (i + 1) pushed (omega (arith, low, count)) (λ j m. alike j (omega (arith, m, below)))) i (omega arith) u found)

      later : at ≤ i → SeenSo new ((said ++ of_each said_of (take at used)) ++ said_of x) u
      later high =
          let z : i ≡ at = omega (arith, high, below, h) in
          let y = last_alike now news s at pushed count (λ j m. alike j (omega (arith, m, z, below))) in
          let same : x ≡ u = same_Some x u (ap (λ y. Some y) is ∙ sym (slice_get-get_or used at x l) ∙ ap (slice_get used) (sym z) ∙ found) in
          subst (SeenSo new ((said ++ of_each said_of (take at used)) ++ said_of x)) same (this y.0 y.1)

      by : (i < at) ⊎ (at ≤ i) → SeenSo new ((said ++ of_each said_of (take at used)) ++ said_of x) u
      by (inl low) = earlier low
      by (inr high) = later high

-- the words of a declaration
pub none_words : (sights : List Sight) (text : List ℕ) (signatures modules : List (List ℕ)) (l d : Declaration) → l ≡ d → accum_words (d ∷ []) ≡ [] →
    accumulate_in (d ∷ []) ≡ [] → AreWordsAlike sights text signatures modules (l ∷ [])
none_words sights text signatures modules l d is a b = subst (λ l. AreWordsAlike sights text signatures modules (l ∷ [])) (sym is) (
  none_alike (IsAlike sights 0 signatures) (signature_words text (d ∷ [])) (ap (map (λ s. spelled text s)) a),
  none_alike (IsAlike sights (length (first_names [] signatures)) modules) (module_words text (d ∷ [])) (ap (map (λ s. spelled text s)) b),
)

pub its_modules : (sights : List Sight) (text : List ℕ) (signatures modules : List (List ℕ)) (l : Declaration) (words : Vec Spot Global) (ws : List Spot) → l ≡ Accumulate words → ws ≡ words.items →
    All (IsAlike sights (length (first_names [] signatures)) modules) (map (λ s. spelled text s) ws) → AreWordsAlike sights text signatures modules (l ∷ [])
its_modules sights text signatures modules l words ws is same all = subst (λ l. AreWordsAlike sights text signatures modules (l ∷ [])) (sym is) (
  All-nil (IsAlike sights 0 signatures),
  subst (λ ws. All (IsAlike sights (length (first_names [] signatures)) modules) (map (λ s. spelled text s) ws)) (same ∙ sym (append-nil words.items)) all,
)

pub its_signatures : (sights : List Sight) (text : List ℕ) (signatures modules : List (List ℕ)) (l : Declaration) (words : Vec Spot Global) (ws : List Spot) → l ≡ AccumSig words → ws ≡ words.items →
    All (IsAlike sights 0 signatures) (map (λ s. spelled text s) ws) → AreWordsAlike sights text signatures modules (l ∷ [])
its_signatures sights text signatures modules l words ws is same all = subst (λ l. AreWordsAlike sights text signatures modules (l ∷ [])) (sym is) (
  subst (λ ws. All (IsAlike sights 0 signatures) (map (λ s. spelled text s) ws)) (same ∙ sym (append-nil words.items)) all,
  All-nil (IsAlike sights (length (first_names [] signatures)) modules),
)

-- words of a declaration that have numbers
pub more_modules : {S : Type 0} (numbers : IndexMap (Vec ℕ Global) ℕ S) (text : List ℕ) (l : Declaration) (words : Vec Spot Global) (ws : List Spot) → l ≡ Accumulate words → ws ≡ words.items →
    (before : List (List ℕ)) → HasNumbers numbers (before ++ map (λ s. spelled text s) ws) → HasNumbers numbers (before ++ module_words text (l ∷ []))
more_modules numbers text l words ws is same before h = subst (λ l. HasNumbers numbers (before ++ module_words text (l ∷ []))) (sym is)
    (subst (λ ws. HasNumbers numbers (before ++ map (λ s. spelled text s) ws)) (same ∙ sym (append-nil words.items)) h)

pub more_signatures : {S : Type 0} (numbers : IndexMap (Vec ℕ Global) ℕ S) (text : List ℕ) (l : Declaration) (words : Vec Spot Global) (ws : List Spot) → l ≡ AccumSig words → ws ≡ words.items →
    (before : List (List ℕ)) → HasNumbers numbers (before ++ map (λ s. spelled text s) ws) → HasNumbers numbers (before ++ signature_words text (l ∷ []))
more_signatures numbers text l words ws is same before h = subst (λ l. HasNumbers numbers (before ++ signature_words text (l ∷ []))) (sym is)
    (subst (λ ws. HasNumbers numbers (before ++ map (λ s. spelled text s) ws)) (same ∙ sym (append-nil words.items)) h)

-- one that has none
pub nothing_heard : {S : Type 0} (numbers : IndexMap (Vec ℕ Global) ℕ S) (words : List ℕ → List Declaration → List (List ℕ)) (text : List ℕ) (l d : Declaration) → l ≡ d → words text (d ∷ []) ≡ [] →
    (before : List (List ℕ)) → HasNumbers numbers before → HasNumbers numbers (before ++ words text (l ∷ []))
nothing_heard numbers words text l d is none before h = no_numbers numbers before (words text (l ∷ [])) (ap (λ l. words text (l ∷ [])) is ∙ none) h

-- what a look at a list gives
copied_at : {X : Type 0} (xs : List X) (i : ℕ) (r : Option (Bor X)) → IsItemAt xs i r → option_copied r ≡ slice_get xs i
copied_at xs i None h = sym (slice_get_past xs i h.3)
copied_at xs i (Some x) h = sym (slice_get-get_or xs i x.now h.3.0 ∙ ap (λ y. Some y) (sym h.1))

-- how the signature that a word names goes with those before it
pub signature_at : {S : Type 0} (numbers : IndexMap (Vec ℕ Global) ℕ S) (sights : List Sight) (all : List (List ℕ)) (word : List ℕ)
    (r : Option (Bor ℕ)) (n : Bor ℕ) (there : Option (Bor Sight)) (sight : Option Sight) →
    HasNumbers numbers all → option_copied r ≡ lookup (λ k. bytes_eq word k.items) numbers.entries → r ≡ Some n → IsItemAt sights n.now there → sight
    ≡ option_copied there → sight ≡ Some Alike → IsAlike sights 0 all word
signature_at numbers sights all word r n there sight h looked is at copied alike =
    alike_signature sights all word n.now (sym (h.0 word) ∙ sym looked ∙ ap option_copied is) (sym (copied_at sights n.now there at) ∙ sym copied ∙ alike)

pub module_at : {S T : Type 0} (numbers : IndexMap (Vec ℕ Global) ℕ S) (signatures : IndexMap (Vec ℕ Global) ℕ T) (sights : List Sight)
    (words all : List (List ℕ)) (word : List ℕ) (r : Option (Bor ℕ)) (n : Bor ℕ) (place many : ℕ)
    (there : Option (Bor Sight)) (sight : Option Sight) → HasNumbers signatures words → HasNumbers numbers all → option_copied r ≡ lookup (λ k. bytes_eq word k.items) numbers.entries → r ≡ Some n →
    many ≡ length signatures.entries → place ≡ n.now + many → IsItemAt sights place there → sight ≡ option_copied there → sight ≡ Some Alike → IsAlike sights (length (first_names [] words)) all word
module_at numbers signatures sights words all word r n place many there sight k h looked is count sum at copied alike =
    let m = k.1 in
    alike_module sights (length (first_names [] words)) all word n.now place (sym (h.0 word) ∙ sym looked ∙ ap option_copied is)
    (omega (arith, sum, count, m)) (sym (copied_at sights place there at) ∙ sym copied ∙ alike)

-- the sight of a word, where it has one
sight_at : (sights : List Sight) (from : ℕ) (all : List (List ℕ)) (word : List ℕ) (n : ℕ) (o : Option Sight) → first_place word (first_names [] all) ≡ Some n → slice_get sights (from + n) ≡ o → IfSome o (IsSightOf sights from all word)
sight_at sights from all word n None e at = tt
sight_at sights from all word n (Some s) e at = (n, e, at)

pub signature_sight : {S : Type 0} (numbers : IndexMap (Vec ℕ Global) ℕ S) (sights : List Sight) (all : List (List ℕ)) (word : List ℕ) (r : Option (Bor ℕ)) (n : Bor ℕ) (there : Option (Bor Sight)) (sight : Option Sight) →
    HasNumbers numbers all → option_copied r ≡ lookup (λ k. bytes_eq word k.items) numbers.entries → r ≡ Some n → IsItemAt sights n.now there → sight ≡ option_copied there → IfSome sight (IsSightOf sights 0 all word)
signature_sight numbers sights all word r n there sight h looked is at copied =
    let z : 0 + n.now ≡ n.now = omega arith in
    sight_at sights 0 all word n.now sight (sym (h.0 word) ∙ sym looked ∙ ap option_copied is) (ap (slice_get sights) z ∙ sym (copied_at sights n.now there at) ∙ sym copied)

pub module_sight : {S T : Type 0} (numbers : IndexMap (Vec ℕ Global) ℕ S) (signatures : IndexMap (Vec ℕ Global) ℕ T) (sights : List Sight) (words all : List (List ℕ)) (word : List ℕ) (r : Option (Bor ℕ)) (n : Bor ℕ) (place many : ℕ)
    (there : Option (Bor Sight)) (sight : Option Sight) → HasNumbers signatures words → HasNumbers numbers all → option_copied r ≡ lookup (λ k. bytes_eq word k.items) numbers.entries → r ≡ Some n →
    many ≡ length signatures.entries → place ≡ n.now + many → IsItemAt sights place there → sight ≡ option_copied there → IfSome sight (IsSightOf sights (length (first_names [] words)) all word)
module_sight numbers signatures sights words all word r n place many there sight k h looked is count sum at copied =
    let m = k.1 in
    let z : length (first_names [] words) + n.now ≡ place = omega (arith, sum, count, m) in
    sight_at sights (length (first_names [] words)) all word n.now sight (sym (h.0 word) ∙ sym looked ∙ ap option_copied is) (ap (slice_get sights) z ∙ sym (copied_at sights place there at) ∙ sym copied)

-- one more word that is alike
pub alike_more : (P : List ℕ → Type 0) (f : Spot → List ℕ) (xs : List Spot) (i : ℕ) (d : Spot) (w : List ℕ) → i < length xs → w ≡ f (get_or xs i d) →
    All P (map f (take i xs)) → P w → All P (map f (take (i + 1) xs))
alike_more P f xs i d w l is all this = subst (All P) (ap (λ w. map f (take i xs) ++ w ∷ []) is ∙ mapped_more f xs i d [] l) (All-push P (map f (take i xs)) w all this)
