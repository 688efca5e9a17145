-- Signatures by their names, one file after the other, and what words name.
use Rattle.std.specs.Global.{Global}
use Rattle.std.proofs.Common.{◌≡◌, ℕ, suc, ◌+◌, ◌<◌, ◌≤◌, List, [], ◌∷◌, ◌++◌, length, map, take, drop, get_or, Option, Some, None, Bool, true, false, refl, sym, ap, ◌∙◌, true≢false, arith}
use Rattle.std.specs.Prelude.{if◌then◌else◌, option_map, is_some, string_bytes, filter_map, nat_eq, Vec}
use Rattle.std.specs.Option.{option_or}
use Rattle.std.specs.Str.{bytes_eq}
use Rattle.std.proofs.lemmas.List.{take_more, drop_more, drop_all, map-append, length-take-le}
use Rattle.std.specs.List.{cons_option}
use Rattle.indexmap.specs.IndexSet.{insert_key, insert_all}
use Rattle.lp_lemmas.proofs.Booleans.{bytes_eq_true}
use Rattle.lp_build.specs.Sights.{is_signature, signature_of}
use Rattle.lp_build.specs.inner.Linked.{lists_of}
use Rattle.lp_build.specs.declared.sources.File.{File}
use Rattle.lp_build.specs.declared.sources.Part.TheVariants as part

pub or_none : (o : Option ℕ) → option_or o None ≡ o
or_none None = refl
or_none (Some i) = refl

pub later : (a : Option ℕ) (t : Bool) (n : ℕ) → option_map (λ i. suc i) (option_or a (if t then Some n else None)) ≡ option_or (option_map (λ i. suc i) a) (if t then Some (suc n) else None)
later None true n = refl
later None false n = refl
later (Some a) t n = refl

-- one more file
signature_more : (name : List ℕ) (f : File) (fs : List File) → signature_of (fs ++ f ∷ []) name ≡ option_or (signature_of fs name)
    (if is_signature f.part (string_bytes f.module) name then Some (length fs) else None)
signature_more name f [] = refl
signature_more name f (g ∷ fs) = by (signature_more name f fs) (is_signature g.part (string_bytes g.module) name)
  where
    by : signature_of (fs ++ f ∷ []) name ≡ option_or (signature_of fs name) (if is_signature f.part (string_bytes f.module) name then Some (length fs) else None) → (t : Bool) →
        (if t then Some 0 else option_map (λ i. suc i) (signature_of (fs ++ f ∷ []) name)) ≡ option_or
        (if t then Some 0 else option_map (λ i. suc i) (signature_of fs name)) (if is_signature f.part (string_bytes f.module) name then Some
        (suc (length fs)) else None)
    by h true = refl
    by h false = ap (option_map (λ i. suc i)) h ∙ later (signature_of fs name) (is_signature f.part (string_bytes f.module) name) (length fs)

-- a signature behind the others is found where there is none before it
pub one_signature_more : (f : File) (fs : List File) (name : List ℕ) (number : ℕ) (new old : Option ℕ) → f.part ≡ part.Signature → number ≡ length fs → old ≡ signature_of fs name →
    new ≡ option_or old (if bytes_eq name (string_bytes f.module) then Some number else None) → new ≡ signature_of (fs ++ f ∷ []) name
one_signature_more f fs name number new old p n h e =
    e ∙ ap (λ o. option_or o (if bytes_eq name (string_bytes f.module) then Some number else None)) h ∙
    ap (λ k. option_or (signature_of fs name) (if bytes_eq name (string_bytes f.module) then Some k else None)) n ∙
    sym (signature_more name f fs ∙ ap (λ q. option_or (signature_of fs name) (if is_signature q (string_bytes f.module) name then Some (length fs) else None)) p)

-- a module's own file changes nothing
pub no_signature_more : (f : File) (fs : List File) (name : List ℕ) (old : Option ℕ) → f.part ≡ part.Module → old ≡ signature_of fs name → old ≡ signature_of (fs ++ f ∷ []) name
no_signature_more f fs name old p h =
    h ∙ sym (signature_more name f fs ∙ ap (λ q. option_or (signature_of fs name) (if is_signature q (string_bytes f.module) name then Some (length fs) else None)) p ∙ or_none (signature_of fs name))

-- a name that is there keeps its number
pub name_again : (at : List ℕ → Option ℕ) (name other : List ℕ) (number : ℕ) (o : Option ℕ) → o ≡ at name → is_some o ≡ true → at other ≡ option_or
    (at other) (if bytes_eq other name then Some number else None)
name_again at name other number None is some = absurd (true≢false (sym some))
name_again at name other number (Some i) is some = by (bytes_eq other name) refl
  where
    by : (t : Bool) → bytes_eq other name ≡ t → at other ≡ option_or (at other) (if bytes_eq other name then Some number else None)
    by true e = let p : at other ≡ Some i = ap at (bytes_eq_true other name e) ∙ sym is in p ∙ sym (ap (λ o. option_or o (if bytes_eq other name then Some number else None)) p)
    by false e = sym (ap (λ t. option_or (at other) (if t then Some number else None)) e ∙ or_none (at other))

-- a new name
pub name_new : (at : List ℕ → Option ℕ) (name other : List ℕ) (number : ℕ) (o : Option ℕ) → o ≡ at name → is_some o ≡ false →
    (if bytes_eq other name then Some number else at other) ≡ option_or (at other) (if bytes_eq other name then Some number else None)
name_new at name other number (Some i) is none = absurd (true≢false none)
name_new at name other number None is none = by (bytes_eq other name) refl
  where
    by : (t : Bool) → bytes_eq other name ≡ t → (if t then Some number else at other) ≡ option_or (at other) (if t then Some number else None)
    by true e = let p : at other ≡ None = ap at (bytes_eq_true other name e) ∙ sym is in sym (ap (λ o. option_or o (Some number)) p)
    by false e = sym (or_none (at other))

-- the first ones with one more
pub first_ones : {X : Type 0} (xs : List X) (i : ℕ) (x : X) → i < length xs → x ≡ get_or xs i x → take i xs ++ x ∷ [] ≡ take (i + 1) xs
first_ones xs i x h at = ap (λ y. take i xs ++ y ∷ []) at ∙ sym (take_more xs i x h)

pub so_many : {X : Type 0} (xs : List X) (i : ℕ) → i < length xs → i ≡ length (take i xs)
so_many xs i h = let le : i ≤ length xs = omega (arith, h) in sym (length-take-le i xs le)

-- one more list behind those so far
pub list_more : {X : Type 0} (f : X → List ℕ) (xs : List X) (i : ℕ) (x : X) (v : Vec ℕ Global) (old new : List (Vec ℕ Global)) → i < length xs → x ≡
    get_or xs i x → v.items ≡ f x → new ≡ old ++ v ∷ [] → lists_of old ≡ map f (take i xs) → lists_of new ≡ map f (take (i + 1) xs)
list_more f xs i x v old new h at is e so =
    ap lists_of e ∙ map-append (λ l. l.items) old (v ∷ []) ∙ ap (λ l. l ++ v.items ∷ []) so ∙ ap (λ y. map f (take i xs) ++ y ∷ []) is ∙ sym
    (map-append f (take i xs) (x ∷ [])) ∙ ap (map f) (first_ones xs i x h at)

-- what one word adds
abbrev pub with_one : Option ℕ → List ℕ → List ℕ
with_one None ks = ks
with_one (Some n) ks = insert_key nat_eq ks n

one_word : (o : Option ℕ) (ks rest : List ℕ) → insert_all nat_eq ks (cons_option o rest) ≡ insert_all nat_eq (with_one o ks) rest
one_word None ks rest = refl
one_word (Some n) ks rest = refl

-- one more word
pub word_more : {W : Type 0} (f : W → Option ℕ) (ws : List W) (i : ℕ) (w : W) (o : Option ℕ) (ks new all : List ℕ) → i < length ws → w ≡ get_or ws i w → o ≡ f w → new ≡ with_one o ks →
    insert_all nat_eq ks (filter_map f (drop i ws)) ≡ all → insert_all nat_eq new (filter_map f (drop (i + 1) ws)) ≡ all
word_more f ws i w o ks new all h at is e so =
    ap (λ l. insert_all nat_eq l (filter_map f (drop (i + 1) ws))) (e ∙ ap (λ p. with_one p ks) is) ∙
    sym (one_word (f w) ks (filter_map f (drop (i + 1) ws))) ∙
    ap (λ l. insert_all nat_eq ks (filter_map f l)) (sym (drop_more ws i w h ∙ ap (λ x. x ∷ drop (i + 1) ws) (sym at))) ∙ so

-- a word that names none
pub word_passed : {W : Type 0} (f : W → Option ℕ) (ws : List W) (i : ℕ) (w : W) (o : Option ℕ) (ks all : List ℕ) → i < length ws → w ≡ get_or ws i w → o ≡ f w → o ≡ None →
    insert_all nat_eq ks (filter_map f (drop i ws)) ≡ all → insert_all nat_eq ks (filter_map f (drop (i + 1) ws)) ≡ all
word_passed f ws i w o ks all h at is none so = word_more f ws i w o ks ks all h at is (sym (ap (λ p. with_one p ks) none)) so

pub word_taken : {W : Type 0} (f : W → Option ℕ) (ws : List W) (i : ℕ) (w : W) (o : Option ℕ) (n : ℕ) (ks new all : List ℕ) → i < length ws → w ≡
    get_or ws i w → o ≡ f w → o ≡ Some n → new ≡ insert_key nat_eq ks n →
    insert_all nat_eq ks (filter_map f (drop i ws)) ≡ all → insert_all nat_eq new (filter_map f (drop (i + 1) ws)) ≡ all
word_taken f ws i w o n ks new all h at is some e so = word_more f ws i w o ks new all h at is (e ∙ sym (ap (λ p. with_one p ks) some)) so

-- no word is left
pub words_done : {W : Type 0} (f : W → Option ℕ) (ws : List W) (i : ℕ) (ks all : List ℕ) → length ws ≤ i → insert_all nat_eq ks (filter_map f (drop i ws)) ≡ all → ks ≡ all
words_done f ws i ks all h so = sym (ap (λ l. insert_all nat_eq ks (filter_map f l)) (drop_all i ws h)) ∙ so
