-- The pairs with which a clause is tried are those of the definition.
use Rattle.std.proofs.Common.{◌≡◌, ℕ, suc, ◌+◌, ◌<◌, List, [], ◌∷◌, ◌++◌, length, get_or, append_assoc, refl, ap, ◌∙◌, subst, arith, Bool, true, false, nat_lt, if◌then◌else◌}
use Rattle.std.proofs.lemmas.List.{get_or_at, length-append}
use Rattle.lp_calculus.specs.Term.{Term, index}
use Rattle.lp_model.specs.Index.{instantiate}
use Rattle.lp_model.specs.Pair.{Closing, closed}
use Rattle.lp_model.specs.Search.{pairs_of}
use Rattle.lp_plain.specs.Heads.{HaveBecome, is_first, pair_places, pairs_at}
use Rattle.lp_plain.specs.Meeting.{met_pairs}
use Rattle.lp_plain.proofs.HeadsJoined.{pairs_joined}

-- the terms are those of a list in these places
abbrev HaveTerms : List Term → List (ℕ × Term) → Type 0
HaveTerms hs [] = Unit {0}
HaveTerms hs (p ∷ ps) = (p.0 < length hs) × (get_or hs p.0 (index 0) ≡ p.1) × HaveTerms hs ps

both_have : (hs : List Term) (ps qs : List (ℕ × Term)) → HaveTerms hs ps → HaveTerms hs qs → HaveTerms hs (ps ++ qs)
both_have hs [] qs a b = b
both_have hs (p ∷ ps) qs a b = (a.0, a.1, both_have hs ps qs a.2 b)

places_have : (n p : ℕ) (es front hs : List Term) → length front ≡ p → HaveTerms (front ++ hs) (pair_places n p es hs)
places_have n p es front [] q = tt
places_have n p es front (h ∷ hs) q =
    let more : length (front ++ h ∷ []) ≡ suc p = (let c : length (front ++ h ∷ []) ≡ length front + 1 = length-append front (h ∷ []) in omega (arith, c, q)) in
    let rest = subst (λ xs. HaveTerms xs (pair_places n (suc p) (h ∷ es) hs)) (append_assoc front (h ∷ []) hs) (places_have n (suc p) (h ∷ es) (front ++ h ∷ []) hs more) in
    both_have (front ++ h ∷ hs) (if is_first n h es then [] else (p, h) ∷ []) (pair_places n (suc p) (h ∷ es) hs) (one (is_first n h es)) rest
  where
    one : (b : Bool) → HaveTerms (front ++ h ∷ hs) (if b then [] else (p, h) ∷ [])
    one true = tt
    one false = ((let c : length (front ++ h ∷ hs) ≡ length front + length (h ∷ hs) = length-append front (h ∷ hs) in omega (arith, c, q)), get_or_at front h hs (index 0) p q, tt)

same_met : (z : Closing) (f : Term → Term) (σ : ℕ → Term) (level : ℕ) (hs ks us : List Term) (ps : List (ℕ × Term)) → HaveTerms hs ps →
    ((i : ℕ) → i < length hs → instantiate σ (get_or ks i (index 0)) ≡ closed z (f (get_or hs i (index 0)))) →
    pairs_at σ level ks us ps ≡ met_pairs z f level us ps
same_met z f σ level hs ks us [] h e = refl
same_met z f σ level hs ks us (p ∷ ps) h e =
    let q : instantiate σ (get_or ks p.0 (index 0)) ≡ closed z (f p.1) = e p.0 h.0 ∙ ap (λ t. closed z (f t)) h.1 in
    let r = same_met z f σ level hs ks us ps h.2 e in
    λ i. (if nat_lt p.0 (length us) then record { left = get_or us p.0 (index 0); right = q i; level = level } ∷ [] else []) ++ r i

pub pairs_tried : (z : Closing) (f : Term → Term) (σ : ℕ → Term) (level n : ℕ) (hs ks us : List Term) → HaveBecome n hs ks →
    ((i : ℕ) → i < length hs → instantiate σ (get_or ks i (index 0)) ≡ closed z (f (get_or hs i (index 0)))) →
    pairs_of σ level [] ks us ≡ met_pairs z f level us (pair_places n 0 [] hs)
pairs_tried z f σ level n hs ks us b e = pairs_joined n level 0 σ [] [] hs ks [] [] us tt b refl refl ∙ same_met z f σ level hs ks us (pair_places n 0 [] hs) (places_have n 0 [] [] hs refl) e
