-- Each step of a load order is that of a text.
use Rattle.std.proofs.Common.{◌≡◌, ℕ, ◌<◌, ◌≤◌, List, [], ◌∷◌, ◌++◌, Bool, true, false, true≢false, length, get_or, ap, sym, subst, ◌∙◌, arith, inl, inr, refl}
use Rattle.std.specs.Global.{Global}
use Rattle.std.specs.Prelude.{◌⊎◌, ltb, replicate, Contains, Vec, slice_set}
use Rattle.std.proofs.lemmas.Bool.{ltb-true, ltb-false}
use Rattle.std.proofs.lemmas.List.{length-set, length-replicate, get_or_past}
use Rattle.std.proofs.lemmas.List.Elements.{Contains-append_cases, Contains-get_or}
use Rattle.lp_lemmas.proofs.Elements.{Contains_single}
use Rattle.lp_syntax.specs.declared.text.SignatureText.{SignatureText}
use Rattle.lp_sig.specs.Loading.{Way, ways_out, ways_between, Loads, again, first, LoadsAll, none, next, IsLoadOrder}
use Rattle.lp_sig.specs.Walking.{number_of_step, HasText}
use Rattle.lp_sig.specs.declared.walk.Step.{Step}
use Rattle.lp_sig.specs.declared.walk.Step.TheVariants.{Enter, Declare}

none_in : (s : Step) → Contains [] s → ⊥
none_in s (i, l, at) = absurd (omega (arith, l))

unmarked : (marks : List Bool) (i : ℕ) → get_or marks i true ≡ false → i < length marks
unmarked marks i e = by (ltb i (length marks)) refl
  where
    by : (t : Bool) → ltb i (length marks) ≡ t → i < length marks
    by true h = ltb-true i (length marks) h
    by false h = absurd (true≢false (sym (get_or_past marks i true (ltb-false i (length marks) h)) ∙ e))

first_within : (old new mid : List Bool) (i : ℕ) (steps inner : List Step) → i < length old → length mid ≡ length old → steps ≡ Enter i ∷ (inner ++ Declare i ∷ []) →
    (length new ≡ length mid) × ((s : Step) → Contains inner s → number_of_step s < length mid) → (length new ≡ length old) × ((s : Step) → Contains steps s → number_of_step s < length old)
first_within old new mid i steps inner here n e w = (w.0 ∙ n, λ s c. one s (Contains-append_cases (Enter i ∷ []) (inner ++ Declare i ∷ []) s (subst (λ l. Contains l s) e c)))
  where
    two : (s : Step) → Contains inner s ⊎ Contains (Declare i ∷ []) s → number_of_step s < length old
    two s (inl c) = subst (λ m. number_of_step s < m) n (w.1 s c)
    two s (inr c) = subst (λ s. number_of_step s < length old) (Contains_single (Declare i) s c) here

    one : (s : Step) → Contains (Enter i ∷ []) s ⊎ Contains (inner ++ Declare i ∷ []) s → number_of_step s < length old
    one s (inl c) = subst (λ s. number_of_step s < length old) (Contains_single (Enter i) s c) here
    one s (inr c) = two s (Contains-append_cases inner (Declare i ∷ []) s c)

next_within : (old mid new : List Bool) (steps a b : List Step) → steps ≡ a ++ b → (length mid ≡ length old) × ((s : Step) → Contains a s → number_of_step s < length old) →
    (length new ≡ length mid) × ((s : Step) → Contains b s → number_of_step s < length mid) → (length new ≡ length old) × ((s : Step) → Contains steps s → number_of_step s < length old)
next_within old mid new steps a b e one two = (two.0 ∙ one.0, λ s c. by s (Contains-append_cases a b s (subst (λ l. Contains l s) e c)))
  where
    by : (s : Step) → Contains a s ⊎ Contains b s → number_of_step s < length old
    by s (inl c) = one.1 s c
    by s (inr c) = subst (λ m. number_of_step s < m) one.0 (two.1 s c)

mutual
  loads_within : (ways : List (List Way)) (old new : List Bool) (i : ℕ) (steps : List Step) → Loads ways old i steps new → (length new ≡ length old) × ((s : Step) → Contains steps s → number_of_step s < length old)
  loads_within ways old new i steps (again h e f) = (ap length f, λ s c. absurd (none_in s (subst (λ l. Contains l s) e c)))
  loads_within ways old new i steps (first h inner r e) =
      first_within old new (slice_set old i true) i steps inner (unmarked old i h) (length-set old i true) e (all_within ways (slice_set old i true) new (ways_out ways i) inner r)

  all_within : (ways : List (List Way)) (old new : List Bool) (words : List Way) (steps : List Step) → LoadsAll ways old words steps new → (length new ≡ length old) × ((s : Step) → Contains steps s → number_of_step s < length old)
  all_within ways old new words steps (none e f g) = (ap length g, λ s c. absurd (none_in s (subst (λ l. Contains l s) f c)))
  all_within ways old new words steps (next w more e mid a b f g h) = next_within old mid new steps a b h (loads_within ways old mid w.1 a f) (all_within ways mid new more b g)

-- there are no more ways than sources, and than texts
between_sources : (ns : List (List ℕ)) (sources : List (Vec ℕ Global)) (texts : List SignatureText) → length (ways_between ns sources texts) ≤ length sources
between_sources ns sources [] = omega arith
between_sources ns [] (t ∷ ts) = omega arith
between_sources ns (s ∷ ss) (t ∷ ts) = let h = between_sources ns ss ts in omega (arith, h)

between_texts : (ns : List (List ℕ)) (sources : List (Vec ℕ Global)) (texts : List SignatureText) → length (ways_between ns sources texts) ≤ length texts
between_texts ns sources [] = omega arith
between_texts ns [] (t ∷ ts) = omega arith
between_texts ns (s ∷ ss) (t ∷ ts) = let h = between_texts ns ss ts in omega (arith, h)

pub step_within : (ns : List (List ℕ)) (sources : List (Vec ℕ Global)) (texts : List SignatureText) (root : ℕ) (graph : List (List Way)) (steps seen : List Step) (i : ℕ) (d : Step) →
    graph ≡ ways_between ns sources texts → IsLoadOrder graph root steps → seen ≡ steps → i < length seen → HasText sources texts (get_or seen i d)
step_within ns sources texts root graph steps seen i d same (new, loads) is h =
    let c = subst (λ l. Contains l (get_or seen i d)) is (Contains-get_or seen i d h) in
    let l = (loads_within graph (replicate (length graph) false) new root steps loads).1 (get_or seen i d) c in
    let n = length-replicate (length graph) false in
    let e = ap length same in
    let a = between_sources ns sources texts in
    let b = between_texts ns sources texts in
    record { source = omega (arith, l, n, e, a); text = omega (arith, l, n, e, b) }
