-- What is made of a word tells its fault.
use Rattle.std.proofs.Common.{◌≡◌, ℕ, List, true, false, Option, Some, None, sym, ap, ◌∙◌}
use Rattle.std.specs.Prelude.{if◌then◌else◌, is_some, nat_eq}
use Rattle.std.proofs.lemmas.Bool.{eq-eqb, ne_eqb}
use Rattle.lp_base.specs.declared.place.Spot.{Spot}
use Rattle.lp_sig.specs.Pieces.{spelled, begins_variable}
use Rattle.lp_sig.specs.Rows.{Row}
use Rattle.lp_sig.specs.Said.{Said}
use Rattle.lp_sig.specs.Words.{meaning_of, may_stand, counted, on_count, by_meaning, fault_of_word}
use Rattle.lp_sig.specs.declared.fault.SigFault.{SigFault}
use Rattle.lp_sig.specs.declared.fault.SigFault.TheVariants as fault

module _ (text : List ℕ) (said : List (Row Said)) (vs : Option (List (List ℕ))) (s : Spot) (n : ℕ) (word : List ℕ) (same : word ≡ spelled text s) where
  abbrev of_word : Option SigFault
  of_word = if begins_variable word then (if may_stand vs word then None else Some (fault.UnknownKind s)) else by_meaning s n (meaning_of word said)

  as_spelled : of_word ≡ fault_of_word text said vs s n
  unfolding fault_of_word
  as_spelled = ap (λ w. if begins_variable w then (if may_stand vs w then None else Some (fault.UnknownKind s)) else by_meaning s n (meaning_of w said)) same

  -- a variable
  as_variable : (o : Option ℕ) → begins_variable word ≡ true → is_some o ≡ may_stand vs word → (if is_some o then None else Some (fault.UnknownKind s)) ≡ fault_of_word text said vs s n
  as_variable o var given =
      ap (λ b. if b then None else Some (fault.UnknownKind s)) given ∙ ap (λ b. if b then (if may_stand vs word then None else Some (fault.UnknownKind s)) else by_meaning s n (meaning_of word said)) (sym var) ∙ as_spelled

  pub variable_stands : (o : Option ℕ) (i : ℕ) → begins_variable word ≡ true → is_some o ≡ may_stand vs word → o ≡ Some i → None ≡ fault_of_word text said vs s n
  variable_stands o i var given is = ap (λ o. if is_some o then None else Some (fault.UnknownKind s)) (sym is) ∙ as_variable o var given

  pub variable_unknown : (o : Option ℕ) → begins_variable word ≡ true → is_some o ≡ may_stand vs word → o ≡ None → Some (fault.UnknownKind s) ≡ fault_of_word text said vs s n
  variable_unknown o var given is = ap (λ o. if is_some o then None else Some (fault.UnknownKind s)) (sym is) ∙ as_variable o var given

  -- a name
  pub as_name : (m : Option Said) → begins_variable word ≡ false → m ≡ meaning_of word said → by_meaning s n m ≡ fault_of_word text said vs s n
  as_name m name is = ap (by_meaning s n) is ∙ ap (λ b. if b then (if may_stand vs word then None else Some (fault.UnknownKind s)) else by_meaning s n (meaning_of word said)) (sym name) ∙ as_spelled

pub other_arity : (s : Spot) (n : ℕ) (m : Said) (c : ℕ) → counted m ≡ c → (n ≡ c → ⊥) → Some (fault.Arity s) ≡ on_count s n m
other_arity s n m c is other = sym (ap (λ b. if b then None else Some (fault.Arity s)) (ap (nat_eq n) is ∙ ne_eqb n c other))

pub same_arity : (s : Spot) (n : ℕ) (m : Said) (c : ℕ) → counted m ≡ c → n ≡ c → None ≡ on_count s n m
same_arity s n m c is same = sym (ap (λ b. if b then None else Some (fault.Arity s)) (ap (nat_eq n) is ∙ eq-eqb n c same))
