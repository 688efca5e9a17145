-- Two lists are merged, one entry behind the other.
use Rattle.std.proofs.Common.{◌≡◌, ◌∙◌, ℕ, suc, List, [], ◌∷◌, ◌++◌, append_assoc, map, drop, Option, Some, None, ap, refl, sym}
use Rattle.std.specs.Prelude.{option_map, slice_get}
use Rattle.std.proofs.lemmas.List.{drop-map}
use Rattle.lp_lemmas.proofs.Lists.{append_nil_sym}
use Rattle.lp_verify.specs.declared.loose.Entry.{Entry}
use Rattle.lp_verify.specs.declared.loose.Next.{Next}
use Rattle.lp_verify.specs.declared.loose.Next.TheVariants as next
use Rattle.lp_verify.specs.inner.Indices.{lowered_by, next_of, with_entry, merge_on, merge}

-- behind what is merged so far
abbrev pub behind : List Entry → Option (List Entry) → Option (List Entry)
behind done o = option_map (λ zs. done ++ zs) o

passes : (done : List Entry) (e : Entry) (o : Option (List Entry)) → behind (done ++ e ∷ []) o ≡ behind done (with_entry e o)
passes done e None = refl
passes done e (Some zs) = ap (λ l. Some l) (append_assoc done (e ∷ []) zs)

pub nothing_merged : (o : Option (List Entry)) → behind [] o ≡ o
nothing_merged None = refl
nothing_merged (Some zs) = refl

-- entries that are lowered, of which the next one is found
module _ (a b steps n : ℕ) (done : List Entry) (left right : List Entry) (all : Option (List Entry)) (x : Next) (one other : Option Entry) (found : x ≡ next_of one other) (first : one ≡ slice_get (map (lowered_by a) left) 0)
    (second : other ≡ slice_get (map (lowered_by b) right) 0) (inv : behind done (merge steps (map (lowered_by a) left) (map (lowered_by b) right)) ≡ all) (more : steps ≡ suc n) where
  abbrev ls : List Entry
  ls = map (lowered_by a) left

  abbrev rs : List Entry
  rs = map (lowered_by b) right

  next_step : (y : Next) → x ≡ y → behind done (merge_on y (merge n (drop 1 ls) rs) (merge n ls (drop 1 rs)) (merge n (drop 1 ls) (drop 1 rs))) ≡ all
  next_step y e =
      ap (λ z. behind done (merge_on z (merge n (drop 1 ls) rs) (merge n ls (drop 1 rs)) (merge n (drop 1 ls) (drop 1 rs)))) (sym e ∙ found ∙ (λ j. next_of (first j) (second j)))
      ∙ ap (λ k. behind done (merge k ls rs)) (sym more) ∙ inv

  pub from_left : (e : Entry) (so_far now : List Entry) → x ≡ next.Left e → so_far ≡ done ++ e ∷ [] → now ≡ drop 1 left → behind so_far (merge n (map (lowered_by a) now) rs) ≡ all
  from_left e so_far now h d k =
      (λ j. behind (d j) (merge n (map (lowered_by a) (k j)) rs)) ∙ ap (λ l. behind (done ++ e ∷ []) (merge n l rs)) (sym (drop-map (lowered_by a) 1 left)) ∙ passes done e (merge n (drop 1 ls) rs) ∙ next_step (next.Left e) h

  pub from_right : (e : Entry) (so_far now : List Entry) → x ≡ next.Right e → so_far ≡ done ++ e ∷ [] → now ≡ drop 1 right → behind so_far (merge n ls (map (lowered_by b) now)) ≡ all
  from_right e so_far now h d k =
      (λ j. behind (d j) (merge n ls (map (lowered_by b) (k j)))) ∙ ap (λ l. behind (done ++ e ∷ []) (merge n ls l)) (sym (drop-map (lowered_by b) 1 right)) ∙ passes done e (merge n ls (drop 1 rs)) ∙ next_step (next.Right e) h

  pub from_both : (e : Entry) (so_far now also : List Entry) → x ≡ next.Both e → so_far ≡ done ++ e ∷ [] → now ≡ drop 1 left → also ≡ drop 1 right → behind so_far (merge n (map (lowered_by a) now) (map (lowered_by b) also)) ≡ all
  from_both e so_far now also h d k l =
      (λ j. behind (d j) (merge n (map (lowered_by a) (k j)) (map (lowered_by b) (l j))))
      ∙ (λ j. behind (done ++ e ∷ []) (merge n (sym (drop-map (lowered_by a) 1 left) j) (sym (drop-map (lowered_by b) 1 right) j))) ∙ passes done e (merge n (drop 1 ls) (drop 1 rs)) ∙ next_step (next.Both e) h

  pub all_done : x ≡ next.Done → Some done ≡ all
  all_done h = ap (λ l. Some l) (append_nil_sym done) ∙ next_step next.Done h

  pub has_clash : x ≡ next.Clash → None ≡ all
  has_clash h = next_step next.Clash h

-- no step is left
pub no_steps : (steps : ℕ) (done ls rs : List Entry) (all : Option (List Entry)) → steps ≡ 0 → behind done (merge steps ls rs) ≡ all → Some done ≡ all
no_steps steps done ls rs all e inv = ap (λ l. Some l) (append_nil_sym done) ∙ ap (λ k. behind done (merge k ls rs)) (sym e) ∙ inv
