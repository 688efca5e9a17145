-- What a text reads as once all its tasks are done; and the numbers of the type variables of annotations.
use Rattle.std.proofs.Common.{◌≡◌, ℕ, suc, ◌+◌, ◌-◌, ◌<◌, ◌≤◌, List, [], ◌∷◌, ◌++◌, map, length, get_or, refl, sym, ap, subst, ◌∙◌, Option, Some, None, Bool, true, false, option_map, arith}
use Rattle.std.proofs.Common.{inl, inr}
use Rattle.std.specs.Prelude.{nat_lt, if◌then◌else◌, slice_get, ◌⊎◌}
use Rattle.std.specs.Str.{bytes_eq}
use Rattle.std.proofs.lemmas.List.{append-nil}
use Rattle.std.proofs.lemmas.Bool.{lt-ltb, le-ltb}
use Rattle.std.proofs.lemmas.Slice.Eq.{bytes_eq-Decides}
use Rattle.lp_base.specs.declared.place.Spot.{Spot}
use Rattle.lp_calculus.specs.Types.{Ty}
use Rattle.lp_calculus.specs.Typing.{o_type}
use Rattle.lp_syntax.specs.declared.text.RawNode.{RawNode}
use Rattle.lp_syntax.specs.declared.text.RawNode.TheVariants.{App, Abs}
use Rattle.lp_syntax.specs.declared.text.RawType.{RawType}
use Rattle.lp_sig.specs.declared.signature.Signature.{Signature}
use Rattle.lp_sig.specs.Pieces.{spelled}
use Rattle.lp_sig.specs.Places.{first_place}
use Rattle.lp_infer.specs.Typing.{Raw}
use Rattle.lp_infer.specs.Texts.{Notes, Reads, read_leaf}
use Rattle.lp_infer.specs.Levels.{HasScope}
use Rattle.lp_infer.specs.Postfix.{postfix}
use Rattle.lp_infer.specs.Visits.{Agrees, marks, Looked, LeafRead, TaskDone, HasNoNote, IsLookedUp, HasNoReading}
use Rattle.lp_infer.proofs.Visiting.{reads_nowhere, no_leaf, parts_older, body_older, reads_abs}
use Rattle.lp_infer.proofs.Passing.{past_leaf}
use Rattle.lp_infer.specs.declared.lookup.Task.{Task}
use Rattle.lp_infer.specs.declared.lookup.Task.TheVariants as task
use Rattle.lp_infer.specs.declared.lookup.Lookup.{Lookup}

-- the first place of a name has the name

at_suc : (w n : List ℕ) (ns : List (List ℕ)) (o : Option ℕ) (k : ℕ) → ((i : ℕ) → o ≡ Some i → get_or ns i [] ≡ w) → option_map (λ i. suc i) o ≡ Some k → get_or (n ∷ ns) k [] ≡ w
at_suc w n ns None k h e = cc
at_suc w n ns (Some i) k h e = let f : suc i ≡ k = cc in subst (λ j. get_or (n ∷ ns) j [] ≡ w) f (h i refl)

pub named_at : (w : List ℕ) (ns : List (List ℕ)) (k : ℕ) → first_place w ns ≡ Some k → get_or ns k [] ≡ w
named_at w [] k e = cc
named_at w (n ∷ ns) k e = go (bytes_eq w n) refl (named_at w ns) where
  go : (b : Bool) → bytes_eq w n ≡ b → ((i : ℕ) → first_place w ns ≡ Some i → get_or ns i [] ≡ w) → get_or (n ∷ ns) k [] ≡ w
  go true f h =
      let g : Some 0 ≡ Some k = sym (ap (λ t. if t then Some 0 else option_map (λ i. suc i) (first_place w ns)) f) ∙ e in
      let j : 0 ≡ k = cc in
      subst (λ i. get_or (n ∷ ns) i [] ≡ w) j (sym ((bytes_eq-Decides w n).0 f))
  go false f h = at_suc w n ns (first_place w ns) k h (sym (ap (λ t. if t then Some 0 else option_map (λ i. suc i) (first_place w ns)) f) ∙ e)

-- types for the numbers, from types for the names
abbrev pub numbered : List ℕ → List Spot → Notes → ℕ → Ty
numbered text places κ n = if nat_lt n (length text) then κ.blank n else κ.named (get_or (map (spelled text) places) (n - length text) [])

pub numbered_agrees : (text : List ℕ) (places : List Spot) (κ : Notes) → Agrees text places κ (numbered text places κ)
numbered_agrees text places κ = record {
  blank = λ i h. ap (λ b. if b then κ.blank i else κ.named (get_or (map (spelled text) places) (i - length text) [])) (lt-ltb i (length text) h);
  named = λ w k e.
      let past : length text ≤ length text + k = omega arith in
      let back : length text + k - length text ≡ k = omega arith in
      ap (λ b. if b then κ.blank (length text + k) else κ.named (get_or (map (spelled text) places) (length text + k - length text) [])) (le-ltb (length text + k) (length text) past) ∙
      ap (λ i. κ.named (get_or (map (spelled text) places) i [])) back ∙ ap κ.named (named_at w (map (spelled text) places) k e);
}

abbrev pub or_goal : (ℕ → Ty) → Option ℕ → Ty
or_goal f None = o_type
or_goal f (Some k) = f k

-- types for the names, from types for the numbers
abbrev pub notes_of : List ℕ → List Spot → (ℕ → Ty) → Notes
notes_of text places ρ = record { named = λ w. or_goal (λ k. ρ (length text + k)) (first_place w (map (spelled text) places)); blank = ρ }

pub notes_agree : (text : List ℕ) (places : List Spot) (ρ : ℕ → Ty) → Agrees text places (notes_of text places ρ) ρ
notes_agree text places ρ = record { blank = λ i h. refl; named = λ w k e. sym (ap (or_goal (λ k. ρ (length text + k))) e) }

-- the whole text

module _ (sig : Signature) (text : List ℕ) (nodes : List RawNode) (root : ℕ) where
  pub ended : (l : Lookup) → Looked sig text nodes root l [] → IsLookedUp sig text nodes root l
  ended l S = record {
    known = S.known;
    reads = λ κ ρ count A.
        let r = S.sound κ ρ count A [] l.variables.places.items (refl, refl) in
        let all = marks sig text count ρ l in (
          r.0,
          subst (λ m. Reads sig text nodes κ count [] [] root r.0 m) (sym r.5.1) r.4,
          sym (append-nil (postfix r.0)) ∙ ap (λ m. postfix r.0 ++ m) (sym r.5.0) ∙ sym r.3 ∙ append-nil all,
        );
    only = λ κ ρ count A R after reads.
        let r = S.complete κ ρ count A (postfix R ++ []) after (R, after, [], refl, reads, (refl, refl)) in
        let all = marks sig text count ρ l in
        (r.2.1, sym (append-nil (postfix R)) ∙ r.1 ∙ ap (λ m. all ++ m) r.2.0 ∙ append-nil all);
  }

  -- a node that has no reading
  pub failed : (l : Lookup) (n : ℕ) (ts : List Task) → Looked sig text nodes root l (task.Visit n ∷ ts) →
      ((names : List (List ℕ)) → HasScope names l.scope → (κ : Notes) (count : ℕ) (R : Raw) (after : List Spot) → Reads sig text nodes κ count names l.variables.places.items n R after → ⊥) →
      HasNoReading sig text nodes root
  failed l n ts S none κ count R after reads =
      let ρ = numbered text l.notes.places.items κ in
      let A = numbered_agrees text l.notes.places.items κ in
      let r = S.complete κ ρ count A (postfix R ++ []) after (R, after, [], refl, reads, (refl, refl)) in
      none S.scope S.has_scope κ count r.2.0 r.2.1 r.2.4

  -- the ends of a visit

  pub none_there : (l : Lookup) (n : ℕ) (ts : List Task) → slice_get nodes n ≡ None → Looked sig text nodes root l (task.Visit n ∷ ts) → HasNoReading sig text nodes root
  none_there l n ts at S = failed l n ts S (λ names H κ count R after r. reads_nowhere sig text nodes κ count names l.variables.places.items n R after at r)

  pub leaf_done : (old new : Lookup) (n : ℕ) (node : RawNode) (ts : List Task) (ok : Bool) → slice_get nodes n ≡ Some node → ((f x : ℕ) → node ≡ App f x → ⊥) → ((s : Spot) (o : Option RawType) (b : ℕ) → node ≡ Abs s o b → ⊥) →
      (S : Looked sig text nodes root old (task.Visit n ∷ ts)) → ((names : List (List ℕ)) → HasScope names old.scope → LeafRead ok sig text (λ count. read_leaf sig text count names node old.variables.places.items) old new) → TaskDone ok sig text nodes root new ts
  leaf_done old new n node ts true at app abs S L = past_leaf sig text nodes root old new n node ts S at L
  leaf_done old new n node ts false at app abs S L =
      failed old n ts S (λ names H κ count R after r. no_leaf sig text nodes κ count names old.variables.places.items n node R after at app abs (L names H count) r)

  pub part_not_older : (l : Lookup) (n f x : ℕ) (ts : List Task) → slice_get nodes n ≡ Some (App f x) → (n ≤ f) ⊎ (n ≤ x) → Looked sig text nodes root l (task.Visit n ∷ ts) → HasNoReading sig text nodes root
  part_not_older l n f x ts at h S = failed l n ts S (λ names H κ count R after r. by h (parts_older sig text nodes κ count names l.variables.places.items n f x R after at r)) where
    by : (n ≤ f) ⊎ (n ≤ x) → (f < n) × (x < n) → ⊥
    by (inl a) b = omega (arith, a, b.0)
    by (inr a) b = omega (arith, a, b.1)

  pub body_not_older : (l : Lookup) (n : ℕ) (s : Spot) (o : Option RawType) (b : ℕ) (ts : List Task) → slice_get nodes n ≡ Some (Abs s o b) → n ≤ b → Looked sig text nodes root l (task.Visit n ∷ ts) → HasNoReading sig text nodes root
  body_not_older l n s o b ts at h S =
      failed l n ts S (λ names H κ count R after r. let below = body_older sig text nodes κ count names l.variables.places.items n s o b R after at r in omega (arith, h, below))

  pub no_note : (l : Lookup) (n : ℕ) (s : Spot) (o : Option RawType) (b : ℕ) (ts : List Task) → slice_get nodes n ≡ Some (Abs s o b) → HasNoNote sig text o → Looked sig text nodes root l (task.Visit n ∷ ts) → HasNoReading sig text nodes root
  no_note l n s o b ts at none S =
      failed l n ts S (λ names H κ count R after r. let P = reads_abs sig text nodes κ count names l.variables.places.items n s o b R after at r in none κ P.given P.noted)
