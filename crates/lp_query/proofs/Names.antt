-- Names found among names, one by one.
use Rattle.std.proofs.Common.{◌≡◌, ◌≢◌, ℕ, ◌+◌, ◌<◌, ◌≤◌, List, [], ◌∷◌, ◌++◌, length, map, get_or, true, false, Some, sym, ap, ◌∙◌, subst, add-one}
use Rattle.std.specs.Prelude.{take, slice_get, option_map, All, Vec}
use Rattle.std.specs.Global.{Global}
use Rattle.std.specs.Str.{bytes_eq}
use Rattle.std.proofs.lemmas.List.{take_all}
use Rattle.std.proofs.lemmas.Option.{slice_get-get_or, slice_get-map}
use Rattle.lp_lemmas.proofs.Booleans.{bytes_eq_self, bytes_eq_true}
use Rattle.lp_lemmas.proofs.Lists.{take_suc, map_pushed, map_take}
use Rattle.lp_lemmas.proofs.Elements.{All_pushed}
use Rattle.lp_query.specs.Faults.{AreThere}

abbrev pub Name : Type 0
Name = Vec ℕ Global

abbrev pub bytes : Name → List ℕ
bytes n = n.items

pub read_at : (names : List Name) (k : ℕ) (d : Name) → k < length names → slice_get (map bytes names) k ≡ Some (get_or names k d).items
read_at names k d h = slice_get-map bytes names k ∙ ap (option_map bytes) (slice_get-get_or names k d h)

pub found_at : (names : List Name) (k : ℕ) (d : Name) (now name : List ℕ) → k < length names → now ≡ (get_or names k d).items → bytes_eq now name ≡ true → slice_get (map bytes names) k ≡ Some name
found_at names k d now name h e t = read_at names k d h ∙ ap Some (sym e ∙ bytes_eq_true now name t)

one_more : (names : List Name) (k : ℕ) (d : Name) → k < length names → map bytes (take (k + 1) names) ≡ map bytes (take k names) ++ (get_or names k d).items ∷ []
one_more names k d h = map_pushed bytes (take k names) (take (k + 1) names) (get_or names k d) (ap (λ n. take n names) (add-one k) ∙ take_suc names k (get_or names k d) (slice_get-get_or names k d h))

pub other_name : (names : List Name) (k : ℕ) (d : Name) (now name : List ℕ) → k < length names → now ≡ (get_or names k d).items → bytes_eq now name ≡ false
    → All (λ n. n ≢ name) (map bytes (take k names)) → All (λ n. n ≢ name) (map bytes (take (k + 1) names))
other_name names k d now name h e t a =
    All_pushed (λ n. n ≢ name) (map bytes (take (k + 1) names)) (map bytes (take k names)) (get_or names k d).items (one_more names k d h) a
    (λ same. let s : bytes_eq now name ≡ true = subst (λ z. bytes_eq z name ≡ true) (sym (e ∙ same)) (bytes_eq_self name) in absurd (cc))

pub no_name : (names : List Name) (k : ℕ) (name : List ℕ) → length names ≤ k → All (λ n. n ≢ name) (map bytes (take k names)) → All (λ n. n ≢ name) (map bytes names)
no_name names k name h a = subst (λ z. All (λ n. n ≢ name) (map bytes z)) (take_all k names h) a

pub found_more : (names : List (List ℕ)) (shown : List Name) (k : ℕ) (d : Name) (now : List ℕ) (place : ℕ) → k < length shown → now ≡ (get_or shown k d).items → slice_get names place ≡ Some now
    → AreThere names (map bytes (take k shown)) → AreThere names (map bytes (take (k + 1) shown))
found_more names shown k d now place h e g a =
    All_pushed (λ s. (at : ℕ) × (slice_get names at ≡ Some s)) (map bytes (take (k + 1) shown)) (map bytes (take k shown)) (get_or shown k d).items (one_more shown k d h) a (place, g ∙ ap Some e)

pub found_before : (names : List (List ℕ)) (shown : List Name) (k : ℕ) → AreThere names (map bytes (take k shown)) → AreThere names (take k (map bytes shown))
found_before names shown k a = subst (AreThere names) (map_take bytes k shown) a

pub found_all : (names : List (List ℕ)) (shown : List Name) (k : ℕ) → length shown ≤ k → AreThere names (map bytes (take k shown)) → AreThere names (map bytes shown)
found_all names shown k h a = subst (λ z. AreThere names (map bytes z)) (take_all k shown h) a

-- all of a list of numbers, and one more
pub all_pushed : (P : ℕ → Type 0) (all xs : List ℕ) (x : ℕ) → all ≡ xs ++ x ∷ [] → All P xs → P x → All P all
all_pushed P all xs x e a p = All_pushed P all xs x e a p
