-- What comes of one declared name, by what was known of it.
use Rattle.std.proofs.Common.{◌≡◌, ℕ, ◌+◌, ◌<◌, ◌≤◌, List, [], ◌∷◌, ◌++◌, length, take, get_or, Option, Some, None, arith, refl, sym, ap, subst, ◌∙◌, true≢false, inl, inr}
use Rattle.std.specs.Prelude.{◌⊎◌, true, is_some}
use Rattle.std.proofs.lemmas.List.{get_or_default}
use Rattle.std.proofs.lemmas.Slice.Eq.{bytes_eq-Decides}
use Rattle.lp_lemmas.proofs.Options.{one_value, some_from_is_some}
use Rattle.lp_base.specs.declared.limit.Limit.TheVariants as limit
use Rattle.lp_base.specs.declared.place.Spot.{Spot}
use Rattle.lp_term.specs.Nodes.{Nodes, Extends, type_tree}
use Rattle.lp_term.specs.declared.node.TypeId.{TypeId}
use Rattle.lp_sig.specs.Rows.{Row, found}
use Rattle.lp_sig.specs.Said.{Said, each}
use Rattle.lp_sig.specs.Standard.{standard_constants}
use Rattle.lp_sig.specs.Types.{Definition}
use Rattle.lp_sig.specs.Abbreviations.{Seen}
use Rattle.lp_sig.specs.Standing.{TypeStands}
use Rattle.lp_sig.specs.Constants.{Written, declared_constants, IsNoted, IsTyped, IfTyped, AreTypedIf, FirstStands, KnowsConstants, IsKnownAs, HasType, declared_one, IsTakenConstant, AreTakenConstants, IsConstantFault, other_type, no_number, IsFirstConstant}
use Rattle.lp_sig.specs.declared.constants.Constants.{Constants}
use Rattle.lp_sig.specs.declared.constants.DeclaredType.{DeclaredType}
use Rattle.lp_sig.specs.declared.constants.Known.{Known}
use Rattle.lp_sig.specs.declared.constants.Known.TheVariants as known
use Rattle.lp_sig.specs.declared.fault.SigFault.{SigFault}
use Rattle.lp_sig.specs.declared.fault.SigFault.TheVariants as fault
use Rattle.lp_sig.proofs.Constancy.{in_step_length, constants_kept, typed_kept, typed_declared, known_again, known_typed_again, has_more, found_last, no_number_left, not_new, typed_if_again}
use Rattle.lp_sig.proofs.Growing.{found_more}
use Rattle.lp_sig.specs.Pieces.{spelled}

module _ (b now : Nodes) (self : Constants) (word name : List ℕ) (k : Known) (kept : Extends b now) (same : word ≡ name)
    (seen : (said : List (Row Said)) (defs : List (Row Definition)) (rows : List (Row Written)) → KnowsConstants b self said defs rows → IsKnownAs now said defs rows word k) where
  IsSeen : Known → Type 0
  IsSeen j = (said : List (Row Said)) (defs : List (Row Definition)) (rows : List (Row Written)) → KnowsConstants b self said defs rows → IsKnownAs now said defs rows name j

  seen_as : (j : Known) → k ≡ j → IsSeen j
  unfolding IsSeen
  seen_as j e said defs rows h = subst (λ n. IsKnownAs now said defs rows n j) same (subst (IsKnownAs now said defs rows word) e (seen said defs rows h))

  kept_here : (said : List (Row Said)) (defs : List (Row Definition)) (rows : List (Row Written)) → KnowsConstants b self said defs rows → KnowsConstants now self said defs rows
  kept_here said defs rows h = constants_kept b now self said defs rows kept h

  -- a new name
  pub new_refused : (declared : Option DeclaredType) (s : Spot) (e : SigFault) → k ≡ known.New → (e ≡ fault.Memory) ⊎ ((e ≡ fault.Limit limit.Names) × ((d : DeclaredType) × (declared ≡ Some d)) × (65535 ≤ 32 + length self.constants.items)) →
      (e ≡ fault.Memory) ⊎ ((d : DeclaredType) × (declared ≡ Some d) × ((said : List (Row Said)) (defs : List (Row Definition)) (rows : List (Row Written)) → KnowsConstants b self said defs rows → d.scheme.0 < length b.types →
      IsConstantFault said defs rows name (type_tree b d.scheme.0) s e))
  unfolding IsSeen
  new_refused declared s e is (inl m) = inl m
  new_refused declared s e is (inr r) = inr (
    r.1.0,
    r.1.1,
    λ said defs rows h l.
        let n = seen_as known.New is said defs rows h in
        no_number r.0 n.0 n.1 (no_number_left b self said defs rows h r.2),
  )

  pub new_known : (made : Constants) (declared : Option DeclaredType) → k ≡ known.New →
      ((b : Nodes) (said : List (Row Said)) (defs : List (Row Definition)) (rows : List (Row Written)) (w : Written) → KnowsConstants b self said defs
      rows → IsKnownAs b said defs rows word known.New → IfTyped declared (IsTyped b said defs w) → KnowsConstants b made said defs
      (rows ++ (word, w) ∷ [])) →
      (said : List (Row Said)) (defs : List (Row Definition)) (rows : List (Row Written)) (w : Written) → KnowsConstants b self said defs rows → IfTyped declared (IsTyped b said defs w) → KnowsConstants now made said defs (rows ++ (name, w) ∷ [])
  new_known made declared is added said defs rows w h t =
      subst (λ n. KnowsConstants now made said defs (rows ++ (n, w) ∷ [])) same
      (added now said defs rows w (kept_here said defs rows h) (subst (IsKnownAs now said defs rows word) is (seen said defs rows h)) (λ d e. typed_kept b now said defs w d kept (t d e)))

  pub new_typed : (made : Constants) (declared : Option DeclaredType) → k ≡ known.New →
      ((from : ℕ) (z : Seen) (rows : List (Row Written)) (w : Written) → (found word standard_constants ≡ None) × (found word rows ≡ None) → AreTypedIf from z rows self → (TypeStands from z w.text w.raw → is_some declared ≡ true) → AreTypedIf from z (rows ++ (word, w) ∷ []) made) →
      (from : ℕ) (z : Seen) (rows : List (Row Written)) (w : Written) → KnowsConstants b self z.said z.definitions rows → AreTypedIf from z rows self → (TypeStands from z w.text w.raw → is_some declared ≡ true) → AreTypedIf from z (rows ++ (name, w) ∷ []) made
  new_typed made declared is added from z rows w h typed some =
      subst (λ n. AreTypedIf from z (rows ++ (n, w) ∷ []) made) same
      (added from z rows w (subst (IsKnownAs now z.said z.definitions rows word) is (seen z.said z.definitions rows h)) typed some)

  pub new_taken : (declared : Option DeclaredType) → k ≡ known.New → IfTyped declared (λ d. 32 + length self.constants.items < 65535) →
      (from : ℕ) (z : Seen) (rows : List (Row Written)) (w : Written) → KnowsConstants b self z.said z.definitions rows → IfTyped declared (IsTyped b z.said z.definitions w) → (TypeStands from z w.text w.raw → is_some declared ≡ true) → IsTakenConstant from z rows (name, w)
  unfolding IsSeen
  new_taken declared is room from z rows w h t some =
      let n = seen_as known.New is z.said z.definitions rows h in
      record {
        typed = λ stands first.
            let d = some_from_is_some declared (some stands) in
            let typed = t d.0 d.1 in
            record {
              count = d.0.type_vars;
              tree = type_tree b d.0.scheme.0;
              scheme = typed.scheme;
              first = declared_one n.0 w (found_last name rows w n.1 ((bytes_eq-Decides name name).1 refl)) d.0.type_vars typed.scheme;
            };
        number = λ stands none new.
            let d = some_from_is_some declared (some stands) in
            let left = room d.0 d.1 in
            let l = in_step_length (IsNoted b z.said z.definitions) 32 (declared_constants rows) self.constants.items h.are in
            omega (arith, l, left);
      }

  -- a name without a type
  pub untyped_known : k ≡ known.Untyped → (said : List (Row Said)) (defs : List (Row Definition)) (rows : List (Row Written)) (w : Written) → KnowsConstants b self said defs rows → KnowsConstants now self said defs (rows ++ (name, w) ∷ [])
  unfolding IsSeen
  untyped_known is said defs rows w h = known_again now self said defs rows (name, w) (seen_as known.Untyped is said defs rows h) (kept_here said defs rows h)

  pub untyped_typed : k ≡ known.Untyped → (from : ℕ) (z : Seen) (rows : List (Row Written)) (w : Written) → KnowsConstants b self z.said z.definitions rows → AreTypedIf from z rows self → AreTypedIf from z (rows ++ (name, w) ∷ []) self
  unfolding IsSeen
  untyped_typed is from z rows w h typed = typed_if_again from z rows self (name, w) (seen_as known.Untyped is z.said z.definitions rows h) typed

  pub untyped_taken : k ≡ known.Untyped → (k ≡ known.Untyped → (from : ℕ) (z : Seen) (rows : List (Row Written)) → KnowsConstants b self z.said z.definitions rows → AreTypedIf from z rows self → FirstStands from z rows word → ⊥) →
      (from : ℕ) (z : Seen) (rows : List (Row Written)) (w : Written) → KnowsConstants b self z.said z.definitions rows → AreTypedIf from z rows self → IsTakenConstant from z rows (name, w)
  unfolding IsSeen
  untyped_taken is never from z rows w h typed = record {
    typed = λ stands first. absurd (never is from z rows h typed (subst (FirstStands from z rows) (sym same) (λ v none e. first v none (found_more name rows ((name, w) ∷ []) v e))));
    number = λ stands none new. absurd (not_new rows name (seen_as known.Untyped is z.said z.definitions rows h) none new);
  }

  -- a name with a type
  module _ (t : TypeId) (is : k ≡ known.Typed t) where
    pub typed_known : (said : List (Row Said)) (defs : List (Row Definition)) (rows : List (Row Written)) (w : Written) → KnowsConstants b self said defs rows → KnowsConstants now self said defs (rows ++ (name, w) ∷ [])
    unfolding IsSeen
    typed_known said defs rows w h = known_typed_again now self said defs rows (name, w) (type_tree now t.0) (seen_as (known.Typed t) is said defs rows h).1 (kept_here said defs rows h)

    module _ (declared : Option DeclaredType) (new : DeclaredType) (some : declared ≡ Some new) where
      pub typed_refused : (s : Spot) → (t.0 < length now.types → new.scheme.0 < length now.types → type_tree now t.0 ≡ type_tree now new.scheme.0 → ⊥) →
          (d : DeclaredType) × (declared ≡ Some d) × ((said : List (Row Said)) (defs : List (Row Definition)) (rows : List (Row Written)) → KnowsConstants b self said defs rows → d.scheme.0 < length b.types →
          IsConstantFault said defs rows name (type_tree b d.scheme.0) s (fault.Differ s))
      unfolding IsSeen
      typed_refused s distinct = (
        new,
        some,
        λ said defs rows h l.
            let p = seen_as (known.Typed t) is said defs rows h in
            let more = kept.more_types in
            other_type refl (type_tree now t.0) p.1 (λ e. distinct p.0 (omega (arith, l, more)) (e ∙ sym (kept.same_types new.scheme.0 l))),
      )

      pub typed_taken : t.0 ≡ new.scheme.0 → (from : ℕ) (z : Seen) (rows : List (Row Written)) (w : Written) → KnowsConstants b self z.said z.definitions rows → IfTyped declared (IsTyped b z.said z.definitions w) → IsTakenConstant from z rows (name, w)
      unfolding IsSeen
      typed_taken one from z rows w h typed =
          let p = seen_as (known.Typed t) is z.said z.definitions rows h in
          let here = typed new some in
          let tree : type_tree now t.0 ≡ type_tree b new.scheme.0 = ap (type_tree now) one ∙ kept.same_types new.scheme.0 here.inside in
          record {
            typed = λ stands first. record {
              count = new.type_vars;
              tree = type_tree b new.scheme.0;
              scheme = here.scheme;
              first = has_more z.said z.definitions rows ((name, w) ∷ []) name (type_tree b new.scheme.0) (subst (HasType z.said z.definitions rows name) tree p.1);
            };
            number = λ stands none other. absurd (not_new rows name (typed_declared z.said z.definitions rows name (type_tree now t.0) p.1) none other);
          }

    pub typed_again : (from : ℕ) (z : Seen) (rows : List (Row Written)) (w : Written) → KnowsConstants b self z.said z.definitions rows → AreTypedIf from z rows self → AreTypedIf from z (rows ++ (name, w) ∷ []) self
    unfolding IsSeen
    typed_again from z rows w h typed = typed_if_again from z rows self (name, w) (typed_declared z.said z.definitions rows name (type_tree now t.0) (seen_as (known.Typed t) is z.said z.definitions rows h).1) typed

    -- one that comes without a type
    pub missing_taken : (declared : Option DeclaredType) → declared ≡ None → (from : ℕ) (z : Seen) (rows : List (Row Written)) (w : Written) → (TypeStands from z w.text w.raw → is_some declared ≡ true) → IsTakenConstant from z rows (name, w)
    missing_taken declared none from z rows w some = record {
      typed = λ stands first. absurd (true≢false (sym (some stands) ∙ ap is_some none));
      number = λ stands standard new. absurd (true≢false (sym (some stands) ∙ ap is_some none));
    }

-- the first name that is refused
pub name_refused : (b now : Nodes) (self here : Constants) (text : List ℕ) (names : List Spot) (i : ℕ) (x : Spot) (declared : Option DeclaredType) (e : SigFault) → i < length names → Extends b now →
    ((said : List (Row Said)) (defs : List (Row Definition)) (rows : List (Row Written)) (w : Written) → KnowsConstants b self said defs rows → IfTyped declared (IsTyped b said defs w) → KnowsConstants now here said defs (rows ++ each text w (take i names))) →
    ((from : ℕ) (z : Seen) (rows : List (Row Written)) (w : Written) → KnowsConstants b self z.said z.definitions rows → IfTyped declared (IsTyped b z.said z.definitions w) → AreTypedIf from z rows self → (TypeStands from z w.text w.raw → is_some declared ≡ true) →
    AreTakenConstants from z rows (each text w (take i names))) →
    (e ≡ fault.Memory) ⊎ ((d : DeclaredType) × (declared ≡ Some d) × ((said : List (Row Said)) (defs : List (Row Definition)) (rows : List (Row Written)) → KnowsConstants now here said defs rows → d.scheme.0 < length now.types →
    IsConstantFault said defs rows (spelled text (get_or names i x)) (type_tree now d.scheme.0) (get_or names i x) e)) →
    (e ≡ fault.Memory) ⊎ ((d : DeclaredType) × (declared ≡ Some d) × ((from : ℕ) (z : Seen) (rows : List (Row Written)) (w : Written) → KnowsConstants b self z.said z.definitions rows → IsTyped b z.said z.definitions w d → d.type_vars ≤ 255 → AreTypedIf from z rows self →
    IsFirstConstant from text z rows names w e))
name_refused b now self here text names i x declared e l kept known taken (inl m) = inl m
name_refused b now self here text names i x declared e l kept known taken (inr r) = inr (
  r.0,
  r.1,
  λ from z rows w k typed few all.
      let d = r.0 in
      let s = get_or names i x in
      let more = kept.more_types in
      let inside = typed.inside in
      let each_typed : IfTyped declared (IsTyped b z.said z.definitions w) = λ y f. subst (IsTyped b z.said z.definitions w) (one_value declared d y r.1 f) typed in
      record {
        type = record { count = d.type_vars; tree = type_tree b d.scheme.0; scheme = typed.scheme; few = few };
        k = i;
        name = s;
        inside = l;
        at_name = get_or_default names i s x l;
        before = taken from z rows w k each_typed all (λ stands. ap is_some r.1);
        refused = subst (λ t. IsConstantFault z.said z.definitions (rows ++ each text w (take i names)) (spelled text s) t s e) (kept.same_types d.scheme.0 inside)
            (r.2 z.said z.definitions (rows ++ each text w (take i names)) (known z.said z.definitions rows w k each_typed) (omega (arith, inside, more)));
      },
)
