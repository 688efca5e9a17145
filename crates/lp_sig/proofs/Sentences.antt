-- Why a sentence is refused, by the call that refuses it.
use Rattle.std.proofs.Common.{◌≡◌, ℕ, List, length, Result, Ok, Err, inl, inr}
use Rattle.std.specs.Prelude.{◌⊎◌, IfOk}
use Rattle.lp_base.specs.declared.place.Spot.{Spot}
use Rattle.lp_syntax.specs.declared.text.RawType.{RawType}
use Rattle.lp_sig.specs.Limits.{IsRepeated}
use Rattle.lp_sig.specs.Words.{IsFirstFault, parameters_of}
use Rattle.lp_sig.specs.Abbreviations.{Seen}
use Rattle.lp_sig.specs.Faults.{IsStraight, IsStraightHead, IsAbbreviationFault}
use Rattle.lp_sig.specs.Faults as faults
use Rattle.lp_sig.specs.declared.fault.SigFault.{SigFault}
use Rattle.lp_sig.specs.declared.fault.SigFault.TheVariants as fault

pub ok_with : {T E : Type 0} (r : Result T E) (P : Type 0) → P → IfOk r (λ x. P)
ok_with (Ok x) P p = p
ok_with (Err e) P p = tt

module _ (text : List ℕ) (z : Seen) (name : Spot) (ps : List Spot) (ty : RawType) where
  pub abbreviation_repeated : (e : SigFault) → IsStraight text z name (length ps) ty → (e ≡ fault.Memory) ⊎ ((s : Spot) × (e ≡ fault.Differ s) × IsRepeated text ps s) → IsAbbreviationFault text z name ps ty e
  abbreviation_repeated e straight (inl m) = faults.memory m
  abbreviation_repeated e straight (inr r) = faults.repeated r.0 r.1 straight r.2

  pub abbreviation_word : (e : SigFault) → IsStraightHead text z name ps ty → (e ≡ fault.Memory) ⊎ IsFirstFault text z.said (parameters_of text ps) ty.nodes.items e → IsAbbreviationFault text z name ps ty e
  abbreviation_word e head (inl m) = faults.memory m
  abbreviation_word e head (inr f) = faults.a_word head f
