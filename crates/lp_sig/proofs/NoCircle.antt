-- No sentence is refused for a circle of accum_sig.
use Rattle.std.proofs.Common.{◌≡◌, ℕ, List, length, Bool, true, false, Option, Some, None, ap, ◌∙◌}
use Rattle.std.specs.Prelude.{if◌then◌else◌, nat_eq}
use Rattle.lp_base.specs.declared.place.Spot.{Spot}
use Rattle.lp_syntax.specs.declared.text.Declaration.{Declaration}
use Rattle.lp_syntax.specs.declared.text.Declaration.TheVariants as declaration
use Rattle.lp_syntax.specs.declared.text.RawType.{RawType}
use Rattle.lp_syntax.specs.declared.text.RawTypeNode.{RawTypeNode}
use Rattle.lp_syntax.specs.declared.text.RawTypeNode.TheVariants as node
use Rattle.lp_sig.specs.Pieces.{spelled, begins_variable}
use Rattle.lp_sig.specs.Rows.{Row}
use Rattle.lp_sig.specs.Said.{Said}
use Rattle.lp_sig.specs.Words.{meaning_of, may_stand, counted, by_meaning, fault_of_word, word_fault, IsFirstFault, IsNameFault, IsKindsFault}
use Rattle.lp_sig.specs.Words as words
use Rattle.lp_calculus.specs.Types.{Ty}
use Rattle.lp_sig.specs.Types.{Definition}
use Rattle.lp_sig.specs.Constants.{Written, IsWrittenFault, IsConstantFault, IsConstantsFault}
use Rattle.lp_sig.specs.Constants as constants
use Rattle.lp_sig.specs.Abbreviations.{Seen}
use Rattle.lp_sig.specs.Faults.{IsAbbreviationFault, IsSentenceFault}
use Rattle.lp_sig.specs.Faults as faults
use Rattle.lp_sig.specs.declared.fault.SigFault.{SigFault}
use Rattle.lp_sig.specs.declared.fault.SigFault.TheVariants as fault

of_name : (text : List ℕ) (said : List (Row Said)) (m : Said) (s c : Spot) (e : SigFault) → IsNameFault text said m s e → e ≡ fault.CyclicSignature c → ⊥
of_name text said m s c e (words.long f l) g = absurd (cc)
of_name text said m s c e (words.other f short differ) g = absurd (cc)
of_name text said m s c e (words.many f meant n is l) g = absurd (cc)

of_word : (text : List ℕ) (said : List (Row Said)) (vs : Option (List (List ℕ))) (s c : Spot) (n : ℕ) → fault_of_word text said vs s n ≡ Some (fault.CyclicSignature c) → ⊥
unfolding fault_of_word
of_word text said vs s c n e = by (begins_variable (spelled text s)) (may_stand vs (spelled text s)) (meaning_of (spelled text s) said) e
  where
    count : (t : Bool) → (if t then None else Some (fault.Arity s)) ≡ Some (fault.CyclicSignature c) → ⊥
    count true e = absurd (cc)
    count false e = absurd (cc)

    by : (a b : Bool) (m : Option Said) → (if a then (if b then None else Some (fault.UnknownKind s)) else by_meaning s n m) ≡ Some (fault.CyclicSignature c) → ⊥
    by true true m e = absurd (cc)
    by true false m e = absurd (cc)
    by false b None e = absurd (cc)
    by false b (Some m) e = count (nat_eq n (counted m)) e

of_first : (text : List ℕ) (said : List (Row Said)) (vs : Option (List (List ℕ))) (nodes : List RawTypeNode) (c : Spot) (e : SigFault) → IsFirstFault text said vs nodes e → e ≡ fault.CyclicSignature c → ⊥
of_first text said vs nodes c e h g = by h.node (h.is ∙ ap (λ e. Some e) g)
  where
    by : (n : RawTypeNode) → word_fault text said vs n ≡ Some (fault.CyclicSignature c) → ⊥
    by (node.Word s args) e = of_word text said vs s c (length args.items) e
    by (node.Arrow a b) e = absurd (cc)

of_kinds : (text : List ℕ) (said : List (Row Said)) (names : List Spot) (n : ℕ) (c : Spot) (e : SigFault) → IsKindsFault text said names n e → e ≡ fault.CyclicSignature c → ⊥
of_kinds text said names n c e (words.a_name f) g = of_name text said _ f.name c e f.refused g
of_kinds text said names n c e (words.arguments f meant numbered l) g = absurd (cc)

of_written : (text : List ℕ) (said : List (Row Said)) (defs : List (Row Definition)) (ty : RawType) (c : Spot) (e : SigFault) → IsWrittenFault text said defs ty e → e ≡ fault.CyclicSignature c → ⊥
of_written text said defs ty c e (constants.long_type f l) g = absurd (cc)
of_written text said defs ty c e (constants.word_of_type short f) g = of_first text said None ty.nodes.items c e f g
of_written text said defs ty c e (constants.many_variables f stand count t is l) g = absurd (cc)

of_constant : (said : List (Row Said)) (defs : List (Row Definition)) (rows : List (Row Written)) (name : List ℕ) (t : Ty) (s c : Spot) (e : SigFault) → IsConstantFault said defs rows name t s e → e ≡ fault.CyclicSignature c → ⊥
of_constant said defs rows name t s c e (constants.other_type f first has differ) g = absurd (cc)
of_constant said defs rows name t s c e (constants.no_number f none new l) g = absurd (cc)

of_constants : (from : ℕ) (text : List ℕ) (z : Seen) (rows : List (Row Written)) (names : List Spot) (ty : RawType) (c : Spot) (e : SigFault) → IsConstantsFault from text z rows names ty e → e ≡ fault.CyclicSignature c → ⊥
of_constants from text z rows names ty c e (constants.long_name f s among l) g = absurd (cc)
of_constants from text z rows names ty c e (constants.bad_type short f) g = of_written text z.said z.definitions ty c e f g
of_constants from text z rows names ty c e (constants.bad_name short stand f) g = of_constant z.said z.definitions _ _ f.type.tree f.name c e f.refused g
of_constants from text z rows names ty c e (constants.no_memory f) g = absurd (cc)

of_abbreviation : (text : List ℕ) (z : Seen) (name : Spot) (ps : List Spot) (ty : RawType) (c : Spot) (e : SigFault) → IsAbbreviationFault text z name ps ty e → e ≡ fault.CyclicSignature c → ⊥
of_abbreviation text z name ps ty c e (faults.a_name f) g = of_name text z.said _ name c e f g
of_abbreviation text z name ps ty c e (faults.circle f meant back) g = absurd (cc)
of_abbreviation text z name ps ty c e (faults.repeated s f straight again) g = absurd (cc)
of_abbreviation text z name ps ty c e (faults.arguments f straight apart l) g = absurd (cc)
of_abbreviation text z name ps ty c e (faults.a_word straight f) g = of_first text z.said _ ty.nodes.items c e f g
of_abbreviation text z name ps ty c e (faults.other f straight stand differ) g = absurd (cc)
of_abbreviation text z name ps ty c e (faults.memory f) g = absurd (cc)

pub of_sentence : (from : ℕ) (text : List ℕ) (z : Seen) (rows : List (Row Written)) (d : Declaration) (c : Spot) (e : SigFault) → IsSentenceFault from text z rows d e → e ≡ fault.CyclicSignature c → ⊥
of_sentence from text z rows (declaration.Kinds names n) c e f g = of_kinds text z.said names.items n c e f g
of_sentence from text z rows (declaration.LocalKinds names n) c e f g = absurd (cc)
of_sentence from text z rows (declaration.Constants names ty) c e f g = of_constants from text z rows names.items ty c e f g
of_sentence from text z rows (declaration.Locals names ty) c e f g = absurd (cc)
of_sentence from text z rows (declaration.Abbreviation name ps ty) c e f g = of_abbreviation text z name ps.items ty c e f g
of_sentence from text z rows (declaration.Accumulate ws) c e f g = absurd (cc)
of_sentence from text z rows (declaration.AccumSig ws) c e f g = absurd (cc)
of_sentence from text z rows (declaration.Fixities names fix n) c e f g = absurd (cc)
