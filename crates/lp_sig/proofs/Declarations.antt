-- A sentence of constants: what comes of its type and of its names.
use Rattle.std.proofs.Common.{◌≡◌, ℕ, ◌<◌, ◌≤◌, List, ◌++◌, length, Option, Some, Result, Ok, Err, subst, true, inl, inr}
use Rattle.std.specs.Prelude.{◌⊎◌, Contains, IfSome, IfOk, OnOk, is_some}
use Rattle.lp_lemmas.proofs.Options.{some_from_is_some}
use Rattle.lp_base.specs.declared.limit.Limit.TheVariants as limit
use Rattle.lp_base.specs.declared.place.Spot.{Spot}
use Rattle.lp_term.specs.Nodes.{Nodes, Extends, type_tree}
use Rattle.lp_syntax.specs.declared.text.RawType.{RawType}
use Rattle.lp_sig.specs.Pieces.{spelled}
use Rattle.lp_sig.specs.Rows.{Row}
use Rattle.lp_sig.specs.Said.{Said, each}
use Rattle.lp_sig.specs.Limits.{AreShort}
use Rattle.lp_sig.specs.Words.{IsSoundType}
use Rattle.lp_sig.specs.Types.{Definition}
use Rattle.lp_sig.specs.Abbreviations.{Seen}
use Rattle.lp_sig.specs.Standing.{TypeStands}
use Rattle.lp_sig.specs.Constants.{Written, written_in, IsTyped, IfTyped, KnowsConstants, AreTypedIf, AreTakenConstants, HasFewVariables, IsWrittenFault, IsFirstConstant, IsConstantsFault}
use Rattle.lp_sig.specs.Constants as constants
use Rattle.lp_sig.specs.declared.constants.Constants.{Constants}
use Rattle.lp_sig.specs.declared.constants.DeclaredType.{DeclaredType}
use Rattle.lp_sig.specs.declared.fault.SigFault.{SigFault}
use Rattle.lp_sig.specs.declared.fault.SigFault.TheVariants as fault
use Rattle.lp_sig.proofs.Constancy.{constants_kept}

pub as_typed : (declared : Option DeclaredType) (P : DeclaredType → Type 0) → IfSome declared P → IfTyped declared P
as_typed declared P typed d e = subst (λ o. IfSome o P) e typed

-- a declared type that was made has a tree, and few variables
pub few_variables : (b : Nodes) (said : List (Row Said)) (defs : List (Row Definition)) (w : Written) (declared : Option DeclaredType) → is_some declared ≡ true → IfSome declared (λ d. d.type_vars ≤ 255) → IfSome declared (IsTyped b said defs w) → HasFewVariables said defs w
few_variables b said defs w declared some few typed =
    let made = some_from_is_some declared some in
    let d = made.0 in
    let t = as_typed declared (IsTyped b said defs w) typed d made.1 in
    record { count = d.type_vars; tree = type_tree b d.scheme.0; scheme = t.scheme; few = as_typed declared (λ d. d.type_vars ≤ 255) few d made.1 }

module _ (from : ℕ) (text : List ℕ) (z : Seen) (rows : List (Row Written)) (names : List Spot) (ty : RawType) where
  pub refused_long : (e : SigFault) → (e ≡ fault.Limit limit.NameLength) × ((s : Spot) × Contains names s × (255 < length (spelled text s))) → IsConstantsFault from text z rows names ty e
  refused_long e l = constants.long_name l.0 l.1.0 l.1.1 l.1.2

  pub refused_type : (e : SigFault) → AreShort text names → (e ≡ fault.Memory) ⊎ IsWrittenFault text z.said z.definitions ty e → IsConstantsFault from text z rows names ty e
  refused_type e short (inl m) = constants.no_memory m
  refused_type e short (inr f) = constants.bad_type short f

  module _ (b now : Nodes) (known : Constants) (declared : Option DeclaredType) (kept : Extends b now) (k : KnowsConstants b known z.said z.definitions rows) (typed : IfSome declared (IsTyped now z.said z.definitions (written_in text ty))) (given : AreTypedIf from z rows known) where
    known_now : KnowsConstants now known z.said z.definitions rows
    known_now = constants_kept b now known z.said z.definitions rows kept k

    it_typed : IfTyped declared (IsTyped now z.said z.definitions (written_in text ty))
    it_typed = as_typed declared (IsTyped now z.said z.definitions (written_in text ty)) typed

    pub refused_name : (e : SigFault) → AreShort text names → IsSoundType text z.said ty → IfSome declared (λ d. d.type_vars ≤ 255) →
        (e ≡ fault.Memory) ⊎ ((d : DeclaredType) × (declared ≡ Some d) × ((from : ℕ) (z : Seen) (rows : List (Row Written)) (w : Written) → KnowsConstants now known z.said z.definitions rows → IsTyped now z.said z.definitions w d → d.type_vars ≤ 255 → AreTypedIf from z rows known →
        IsFirstConstant from text z rows names w e)) → IsConstantsFault from text z rows names ty e
    refused_name e short sound few (inl m) = constants.no_memory m
    refused_name e short sound few (inr r) = constants.bad_name short sound (r.2 from z rows (written_in text ty) known_now (it_typed r.0 r.1) (as_typed declared (λ d. d.type_vars ≤ 255) few r.0 r.1) given)

    pub declared_all : {T E : Type 0} (r : Result T E) (after : Constants) → (TypeStands from z text ty → is_some declared ≡ true) →
        OnOk r ((from : ℕ) (z : Seen) (rows : List (Row Written)) (w : Written) → KnowsConstants now known z.said z.definitions rows → IfTyped
        declared (IsTyped now z.said z.definitions w) → AreTypedIf from z rows known → (TypeStands from z w.text w.raw → is_some declared ≡ true)
        → AreTypedIf from z (rows ++ each text w names) after) →
        OnOk r ((from : ℕ) (z : Seen) (rows : List (Row Written)) (w : Written) → KnowsConstants now known z.said z.definitions rows → IfTyped
        declared (IsTyped now z.said z.definitions w) → AreTypedIf from z rows known → (TypeStands from z w.text w.raw → is_some declared ≡ true)
        → AreTakenConstants from z rows (each text w names)) →
        IfOk r (λ done. AreTypedIf from z (rows ++ each text (written_in text ty) names) after × AreTakenConstants from z rows (each text (written_in text ty) names))
    declared_all (Err e) after some f g = tt
    declared_all (Ok x) after some f g = (f from z rows (written_in text ty) known_now it_typed given some, g from z rows (written_in text ty) known_now it_typed given some)
