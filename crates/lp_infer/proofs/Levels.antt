-- The levels of names when an abstraction is opened and closed.
use Rattle.std.proofs.Common.{◌≡◌, ℕ, suc, ◌-◌, ◌<◌, List, ◌∷◌, length, refl, sym, ap, ◌∙◌, arith, Option, Some, None, Bool, true, false, option_map}
use Rattle.std.specs.Prelude.{if◌then◌else◌}
use Rattle.std.specs.Str.{bytes_eq}
use Rattle.lp_sig.proofs.Heads.{place_below}
use Rattle.lp_lemmas.proofs.Booleans.{bytes_eq_true}
use Rattle.lp_sig.specs.Places.{first_place}
use Rattle.lp_infer.specs.Levels.{level_of, level_in, HasScope}
use Rattle.lp_infer.specs.declared.scope.Scope.{Scope}

pub no_level : (f : ℕ → ℕ) (o : Option ℕ) → None ≡ option_map f o → None ≡ o
no_level f None e = refl
no_level f (Some i) e = cc

suc_below : (n : ℕ) (o : Option ℕ) → ((i : ℕ) → o ≡ Some i → i < n) → (i : ℕ) → option_map (λ i. suc i) o ≡ Some i → i < suc n
suc_below n None h i e = cc
suc_below n (Some j) h i e = let f : suc j ≡ i = cc in let g = h j refl in omega (arith, f, g)

out_of : (depth n level : ℕ) (o : Option ℕ) → depth ≡ n → ((i : ℕ) → o ≡ Some i → i < n) → Some level ≡ option_map (λ i. n - suc i) o → Some (depth - level - 1) ≡ o
out_of depth n level None d h e = cc
out_of depth n level (Some i) d h e =
    let f : level ≡ n - suc i = cc in
    let g = h i refl in
    let k : depth - level - 1 ≡ i = omega (arith, d, f, g) in
    ap (λ j. Some j) k

-- the level leads back to the number of abstractions between
pub level_out : (name : List ℕ) (scope : List (List ℕ)) (s : Scope) (level : ℕ) → HasScope scope s → Some level ≡ level_in s name → Some (s.depth - level - 1) ≡ first_place name scope
level_out name scope s level H e = out_of s.depth (length scope) level (first_place name scope) H.depth (place_below name scope) (e ∙ H.levels name)

-- an abstraction more

inner_level : (n : ℕ) (o : Option ℕ) → option_map (λ i. suc n - suc i) (option_map (λ i. suc i) o) ≡ option_map (λ i. n - suc i) o
inner_level n None = refl
inner_level n (Some i) = let e : suc n - suc (suc i) ≡ n - suc i = omega arith in ap (λ j. Some j) e

level_more : (name other : List ℕ) (scope : List (List ℕ)) → level_of other (name ∷ scope) ≡ (if bytes_eq other name then Some (length scope) else level_of other scope)
level_more name other scope = go (bytes_eq other name) where
  go : (b : Bool) → option_map (λ i. suc (length scope) - suc i) (if b then Some 0 else option_map (λ i. suc i) (first_place other scope)) ≡ (if b then Some (length scope) else level_of other scope)
  go true = let e : suc (length scope) - 1 ≡ length scope = omega arith in ap (λ j. Some j) e
  go false = inner_level (length scope) (first_place other scope)

pub entered : (name : List ℕ) (scope : List (List ℕ)) (old new : Scope) → new.depth ≡ suc old.depth → ((other : List ℕ) → level_in new other ≡ (if bytes_eq other name then Some old.depth else level_in old other)) → HasScope scope old → HasScope (name ∷ scope) new
entered name scope old new d l H = record {
  depth = d ∙ ap (λ n. suc n) H.depth;
  levels = λ other.
      l other ∙ ap (λ n. if bytes_eq other name then Some n else level_in old other) H.depth ∙ ap (λ o. if bytes_eq other name then Some (length scope) else o) (H.levels other) ∙ sym (level_more name other scope);
}

pub left : (name : List ℕ) (scope : List (List ℕ)) (outside : Option ℕ) (old new : Scope) → new.depth ≡ old.depth - 1 →
    ((other : List ℕ) → level_in new other ≡ (if bytes_eq other name then outside else level_in old other)) → HasScope (name ∷ scope) old → outside ≡
    level_of name scope → HasScope scope new
left name scope outside old new d l H o = record {
  depth = d ∙ (let e : old.depth - 1 ≡ length scope = omega (arith, H.depth) in e);
  levels = λ other. l other ∙ go other (bytes_eq other name) refl;
} where
  go : (other : List ℕ) (b : Bool) → bytes_eq other name ≡ b → (if b then outside else level_in old other) ≡ level_of other scope
  go other true e = o ∙ ap (λ n. level_of n scope) (sym (bytes_eq_true other name e))
  go other false e = H.levels other ∙ level_more name other scope ∙ ap (λ b. if b then Some (length scope) else level_of other scope) e
