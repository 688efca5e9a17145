-- The words of an annotation are looked at one by one.
use Rattle.std.proofs.Common.{◌≡◌, ℕ, zero, suc, ◌+◌, ◌≤◌, ◌<◌, List, [], ◌∷◌, ◌++◌, length, get_or, take, refl, sym, ap, subst, ◌∙◌, arith, Option, inl, inr}
use Rattle.std.specs.Prelude.{Contains, ◌⊎◌}
use Rattle.std.proofs.Math.Seq.{take-suc}
use Rattle.std.proofs.lemmas.List.{append-nil, take_all}
use Rattle.std.proofs.lemmas.List.Elements.{Contains-append_left, Contains-append_right, Contains-append_cases}
use Rattle.std.proofs.Math.Numerals.{add-one}
use Rattle.lp_base.specs.declared.place.Spot.{Spot}
use Rattle.lp_syntax.specs.declared.text.RawTypeNode.{RawTypeNode}
use Rattle.lp_syntax.specs.declared.text.RawTypeNode.TheVariants.{Word, Arrow}
use Rattle.lp_infer.specs.Names.{words_of}
use Rattle.lp_infer.specs.Scanning.{Finds}
use Rattle.lp_infer.proofs.Finding.{finds_then}

pub no_words : (s : Spot) → Contains [] s → ⊥
no_words s c = omega (arith, c.1)

one_word : (x s : Spot) → Contains (x ∷ []) s → s ≡ x
one_word x s c = only x s c.0 c.1 c.2 where
  only : (x s : Spot) (i : ℕ) → i < 1 → get_or (x ∷ []) i s ≡ s → s ≡ x
  only x s zero h e = sym e
  only x s (suc i) h e = absurd (omega (arith, h))

words_append : (ms ns : List RawTypeNode) → words_of (ms ++ ns) ≡ words_of ms ++ words_of ns
words_append [] ns = refl
words_append (Word t args ∷ ms) ns = ap (λ l. t ∷ l) (words_append ms ns)
words_append (Arrow a b ∷ ms) ns = words_append ms ns

-- the words of one node more
pub one_more : (ns : List RawTypeNode) (i : ℕ) (n : RawTypeNode) → i < length ns → n ≡ get_or ns i n → words_of (take (i + 1) ns) ≡ words_of (take i ns) ++ words_of (n ∷ [])
one_more ns i n h at = ap (λ k. words_of (take k ns)) (add-one i) ∙ ap words_of (take-suc ns i n h) ∙ words_append (take i ns) (get_or ns i n ∷ []) ∙ ap (λ m. words_of (take i ns) ++ words_of (m ∷ [])) (sym at)

-- a word that is looked at
pub word_step : (K : Spot → Type 0) (ws more : List Spot) (a b c : Option Spot) (t : Spot) → more ≡ ws ++ t ∷ [] → Finds (λ s. Contains ws s × K s) a b → Finds (λ s. (s ≡ t) × K s) b c → Finds (λ s. Contains more s × K s) a c
word_step K ws more a b c t e first second =
    finds_then (λ s. Contains ws s × K s) (λ s. (s ≡ t) × K s) (λ s. Contains more s × K s) a b c
    (λ s q. (subst (λ l. Contains l s) (sym e) (Contains-append_left ws (t ∷ []) s q.0), q.1))
    (λ s q. (subst (λ l. Contains l s) (sym e) (Contains-append_right ws (t ∷ []) s (subst (λ x. Contains (x ∷ []) s) q.0 (0, omega arith, refl))), q.1))
    (λ s q. parted s q.1 (Contains-append_cases ws (t ∷ []) s (subst (λ l. Contains l s) e q.0)))
    first second where
      parted : (s : Spot) → K s → Contains ws s ⊎ Contains (t ∷ []) s → (Contains ws s × K s) ⊎ ((s ≡ t) × K s)
      parted s k (inl c) = inl (c, k)
      parted s k (inr c) = inr (one_word t s c, k)

-- a node that is no word
pub arrow_step : (K : Spot → Type 0) (ws more : List Spot) (a b c : Option Spot) → more ≡ ws → c ≡ b → Finds (λ s. Contains ws s × K s) a b → Finds (λ s. Contains more s × K s) a c
arrow_step K ws more a b c e same found = subst (λ l. Finds (λ s. Contains l s × K s) a c) (sym e) (subst (Finds (λ s. Contains ws s × K s) a) (sym same) found)

pub no_word : (ws : List Spot) (n : RawTypeNode) → ((s : Spot) (args : _) → n ≡ Word s args → ⊥) → ws ++ words_of (n ∷ []) ≡ ws
no_word ws (Word t args) none = absurd (none t args refl)
no_word ws (Arrow a b) none = append-nil ws

pub has_word : (ws : List Spot) (n : RawTypeNode) (s : Spot) (args : _) → n ≡ Word s args → ws ++ words_of (n ∷ []) ≡ ws ++ s ∷ []
has_word ws n s args is = ap (λ m. ws ++ words_of (m ∷ [])) is

-- all words were looked at
pub all_words : (ns : List RawTypeNode) (i : ℕ) → length ns ≤ i → words_of (take i ns) ≡ words_of ns
all_words ns i past = ap words_of (take_all i ns past)
