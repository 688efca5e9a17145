-- What is known of constants while the sentences of a module are taken up: names that differ, and numbers that are left.
use Rattle.std.proofs.Common.{◌≡◌, ℕ, zero, suc, ◌+◌, ◌<◌, ◌≤◌, List, [], ◌∷◌, ◌++◌, length, map, get_or, take, Bool, true, false, Option, Some, None, Result, Ok, Err, refl, sym, ap, subst, ◌∙◌, arith, inl, inr, append-nil, append_assoc}
use Rattle.std.specs.Prelude.{◌⊎◌, if◌then◌else◌, nat_eq, All, Contains, IfErr, IfSome, slice_index_or}
use Rattle.std.proofs.lemmas.List.{length-map, take_more, get_or_default}
use Rattle.std.proofs.lemmas.List.Elements.{Contains-append_left, Contains-append_right, Contains-append_cases, Contains-get_or}
use Rattle.std.proofs.lemmas.Option.{same_Some}
use Rattle.lp_lemmas.proofs.Elements.{Contains_single, Contains_head, Contains_tail}
use Rattle.lp_base.specs.declared.limits.TheConstants.{END_OF_NUMBERS}
use Rattle.lp_base.specs.declared.limit.Limit.TheVariants as limit
use Rattle.lp_base.specs.declared.place.Spot.{Spot}
use Rattle.lp_calculus.specs.Types.{Ty}
use Rattle.lp_term.specs.Nodes.{Nodes, Extends, type_tree}
use Rattle.lp_term.specs.declared.node.TypeId.{TypeId}
use Rattle.lp_term.proofs.Trees.{extends_same, extends-trans}
use Rattle.lp_syntax.specs.declared.text.Declaration.{Declaration}
use Rattle.lp_syntax.specs.declared.text.RawTerm.{RawTerm}
use Rattle.lp_syntax.specs.declared.text.RawType.{RawType}
use Rattle.lp_syntax.specs.declared.text.Sentence.{Sentence}
use Rattle.lp_syntax.specs.declared.text.Sentence.TheVariants.{Declares, Says}
use Rattle.lp_syntax.specs.declared.text.RawTypeNode.{RawTypeNode}
use Rattle.lp_syntax.specs.declared.text.RawTypeNode.TheVariants as node
use Rattle.lp_sig.specs.Constants.{Written, written_in, IsSchemeOf, IsTyped, IsWrittenFault, standard_tree}
use Rattle.lp_sig.specs.Constants as constants
use Rattle.lp_sig.specs.Differing.{IsKnownType, of_language, of_signatures, of_text, IsMetAt, DiffersFrom, HasManyVariables, HasNameCause, HasTypeCause, IsOtherBodyIf}
use Rattle.lp_sig.specs.Holding.{IsTree, HoldsBodies}
use Rattle.lp_sig.specs.Knowing.{Knows}
use Rattle.lp_sig.specs.Abbreviations.{Seen}
use Rattle.lp_sig.specs.AsWritten.{typed_locals, typed_by, typed_in}
use Rattle.lp_sig.specs.Limits.{IsRepeated}
use Rattle.lp_sig.specs.ModuleFaults.{IsTypeFault, long_type, word_of_type, many_variables, IsNewFault, other_type, no_number, IsNewLocal, IsFirstOf, IsLocalFault, is_exported, its_fault, IsLineFault, IsLineTaken, IsFaultAmong}
use Rattle.lp_sig.specs.Modules.{declarations, local_names, constant_names_by, constant_names_in, first_names}
use Rattle.lp_sig.specs.Pieces.{spelled, begins_variable}
use Rattle.lp_sig.specs.Places.{place_of}
use Rattle.lp_sig.specs.Rows.{Row, found}
use Rattle.lp_sig.specs.Said.{Said, each, names_in}
use Rattle.lp_sig.specs.Standard.{standard_constants}
use Rattle.lp_sig.specs.Types.{Definition}
use Rattle.lp_sig.specs.Words.{IsLongType, IsFirstFault, counted, word_fault, fault_of_word, may_stand, by_meaning, meaning_of}
use Rattle.lp_sig.specs.Worded.{HasWords, is_met_word, is_met}
use Rattle.lp_sig.specs.inner.Taking.{IsKnownId, standard_id, constant_id, IsOtherId, AreOtherIds, IsInside, AddsNames, AreKnownTypes, IsTaking, Takes, TakesOn}
use Rattle.lp_sig.specs.declared.bodies.Bodies.{Bodies}
use Rattle.lp_sig.specs.declared.constants.Constant.{Constant}
use Rattle.lp_sig.specs.declared.constants.Constants.{Constants}
use Rattle.lp_sig.specs.declared.constants.DeclaredType.{DeclaredType}
use Rattle.lp_sig.specs.declared.constants.Known.{Known}
use Rattle.lp_sig.specs.declared.constants.Known.TheVariants as known
use Rattle.lp_sig.specs.declared.making.Making.{Making}
use Rattle.lp_sig.specs.declared.names.Names.{Names}
use Rattle.lp_sig.specs.declared.signature.Signature.{Signature}
use Rattle.lp_sig.specs.declared.fault.SigFault.{SigFault}
use Rattle.lp_sig.specs.declared.fault.SigFault.TheVariants as fault
use Rattle.lp_sig.specs.declared.module_fault.ModuleSigFault.{ModuleSigFault}
use Rattle.lp_sig.specs.declared.module_fault.ModuleSigFault.TheVariants as wrong
use Rattle.lp_sig.proofs.KnownConstants.{named_at}
use Rattle.lp_sig.proofs.Refusing.{declared_more}
use Rattle.lp_sig.proofs.Typing.{bodies_stay}

-- any failure
pub err_with : {T E : Type 0} (r : Result T E) (P : E → Type 0) → ((e : E) → P e) → IfErr r P
err_with (Ok x) P h = tt
err_with (Err e) P h = h e

pub err_both : {T E : Type 0} (r : Result T E) (P Q R : E → Type 0) → ((e : E) → P e → Q e → R e) → IfErr r P → IfErr r Q → IfErr r R
err_both (Ok x) P Q R f p q = tt
err_both (Err e) P Q R f p q = f e p q

-- a fault of a word says of no name that it is declared otherwise
abbrev IsOfWord : SigFault → Type 0
IsOfWord (fault.Differ s) = ⊥
IsOfWord (fault.UnknownKind s) = Unit {0}
IsOfWord (fault.Arity s) = Unit {0}
IsOfWord (fault.CyclicAbbreviation s) = ⊥
IsOfWord (fault.CyclicSignature s) = ⊥
IsOfWord (fault.Limit l) = ⊥
IsOfWord fault.Memory = ⊥
IsOfWord (fault.Header s) = ⊥

of_word : (text : List ℕ) (said : List (Row Said)) (vs : Option (List (List ℕ))) (n : RawTypeNode) (f : SigFault) → word_fault text said vs n ≡ Some f → IsOfWord f
unfolding fault_of_word
of_word text said vs (node.Arrow a b) f e = absurd (cc)
of_word text said vs (node.Word s args) f e = by (begins_variable (spelled text s)) e
  where
    third : (t : Bool) → (if t then None else Some (fault.Arity s)) ≡ Some f → IsOfWord f
    third true e = absurd (cc)
    third false e = subst IsOfWord (same_Some (fault.Arity s) f e) tt

    second : (o : Option Said) → by_meaning s (length args.items) o ≡ Some f → IsOfWord f
    second None e = subst IsOfWord (same_Some (fault.UnknownKind s) f e) tt
    second (Some m) e = third (nat_eq (length args.items) (counted m)) e

    first : (t : Bool) → (if t then None else Some (fault.UnknownKind s)) ≡ Some f → IsOfWord f
    first true e = absurd (cc)
    first false e = subst IsOfWord (same_Some (fault.UnknownKind s) f e) tt

    by : (t : Bool) → (if t then (if may_stand vs (spelled text s) then None else Some (fault.UnknownKind s)) else by_meaning s (length args.items) (meaning_of (spelled text s) said)) ≡ Some f → IsOfWord f
    by true e = first (may_stand vs (spelled text s)) e
    by false e = second (meaning_of (spelled text s) said) e

pub long_not_full : (f : SigFault) → f ≡ fault.Limit limit.NameLength → f ≡ fault.Limit limit.Names → ⊥
long_not_full f m e = let z : fault.Limit limit.NameLength ≡ fault.Limit limit.Names = sym m ∙ e in absurd (cc)

pub long_not_other : (f : SigFault) (s : Spot) → f ≡ fault.Limit limit.NameLength → f ≡ fault.Differ s → ⊥
long_not_other f s m e = let z : fault.Limit limit.NameLength ≡ fault.Differ s = sym m ∙ e in absurd (cc)

pub type_not_full : (text : List ℕ) (said : List (Row Said)) (ty : RawType) (f : SigFault) → (f ≡ fault.Memory) ⊎ IsTypeFault text said ty f → f ≡ fault.Limit limit.Names → ⊥
type_not_full text said ty f (inl m) e = let z : fault.Memory ≡ fault.Limit limit.Names = sym m ∙ e in absurd (cc)
type_not_full text said ty f (inr (long_type m l)) e = let z : fault.Limit limit.Arguments ≡ fault.Limit limit.Names = sym m ∙ e in absurd (cc)
type_not_full text said ty f (inr (word_of_type l w)) e = subst IsOfWord e (of_word text said None w.node f w.is)
type_not_full text said ty f (inr (many_variables m s)) e = let z : fault.Limit limit.Arguments ≡ fault.Limit limit.Names = sym m ∙ e in absurd (cc)

pub type_not_other : (text : List ℕ) (said : List (Row Said)) (ty : RawType) (f : SigFault) (s : Spot) → (f ≡ fault.Memory) ⊎ IsTypeFault text said ty f → f ≡ fault.Differ s → ⊥
type_not_other text said ty f s (inl m) e = let z : fault.Memory ≡ fault.Differ s = sym m ∙ e in absurd (cc)
type_not_other text said ty f s (inr (long_type m l)) e = let z : fault.Limit limit.Arguments ≡ fault.Differ s = sym m ∙ e in absurd (cc)
type_not_other text said ty f s (inr (word_of_type l w)) e = subst IsOfWord e (of_word text said None w.node f w.is)
type_not_other text said ty f s (inr (many_variables m h)) e = let z : fault.Limit limit.Arguments ≡ fault.Differ s = sym m ∙ e in absurd (cc)

-- a fault that is no name's
pub no_name_cause : (text : List ℕ) (words : List (List ℕ)) (names : List Spot) (f : SigFault) → ((s : Spot) → f ≡ fault.Differ s → ⊥) → (f ≡ fault.Limit limit.Names → ⊥) → HasNameCause text words names f
no_name_cause text words names f d l = record { differs = λ s e. absurd (d s e); full = λ e. absurd (l e) }

pub memory_cause : (text : List ℕ) (words : List (List ℕ)) (names : List Spot) → HasNameCause text words names fault.Memory
memory_cause text words names = no_name_cause text words names fault.Memory (λ s e. absurd (cc)) (λ e. absurd (cc))

pub sig_is : (f g : SigFault) → wrong.Sig f ≡ wrong.Sig g → f ≡ g
sig_is f g e = cc

pub word_not_other : (text : List ℕ) (said : List (Row Said)) (vs : Option (List (List ℕ))) (nodes : List RawTypeNode) (f : SigFault) (s : Spot) → (f ≡ fault.Memory) ⊎ IsFirstFault text said vs nodes f → f ≡ fault.Differ s → ⊥
word_not_other text said vs nodes f s (inl m) e = let z : fault.Memory ≡ fault.Differ s = sym m ∙ e in absurd (cc)
word_not_other text said vs nodes f s (inr w) e = subst IsOfWord e (of_word text said vs w.node f w.is)

-- a parameter that stands twice
pub repeated_if : (text : List ℕ) (said : List (Row Said)) (defs : List (Row Definition)) (name : Spot) (ps : List Spot) (ty : RawType) (f : SigFault) → (f ≡ fault.Memory) ⊎ ((s : Spot) × (f ≡ fault.Differ s) × IsRepeated text ps s) → IsOtherBodyIf text said defs name ps ty f
repeated_if text said defs name ps ty f (inl m) e = let z : fault.Memory ≡ fault.Differ name = sym m ∙ e in absurd (cc)
repeated_if text said defs name ps ty f (inr r) e =
    let z : fault.Differ r.0 ≡ fault.Differ name = sym r.1 ∙ e in
    let one : r.0 ≡ name = cc in
    inr (inl (subst (IsRepeated text ps) one r.2))

-- what is told of a fault of the type
pub told_not_full : (text : List ℕ) (said : List (Row Said)) (ty : RawType) (g f : SigFault) → (g ≡ fault.Memory) ⊎ IsTypeFault text said ty g → (f ≡ fault.Memory) ⊎ ((f ≡ fault.Limit limit.NameLength) ⊎ (f ≡ g)) → f ≡ fault.Limit limit.Names → ⊥
told_not_full text said ty g f h (inl m) e = let z : fault.Memory ≡ fault.Limit limit.Names = sym m ∙ e in absurd (cc)
told_not_full text said ty g f h (inr (inl m)) e = long_not_full f m e
told_not_full text said ty g f h (inr (inr m)) e = type_not_full text said ty g h (sym m ∙ e)

pub told_not_other : (text : List ℕ) (said : List (Row Said)) (ty : RawType) (g f : SigFault) (s : Spot) → (g ≡ fault.Memory) ⊎ IsTypeFault text said ty g → (f ≡ fault.Memory) ⊎ ((f ≡ fault.Limit limit.NameLength) ⊎ (f ≡ g)) → f ≡ fault.Differ s → ⊥
told_not_other text said ty g f s h (inl m) e = let z : fault.Memory ≡ fault.Differ s = sym m ∙ e in absurd (cc)
told_not_other text said ty g f s h (inr (inl m)) e = long_not_other f s m e
told_not_other text said ty g f s h (inr (inr m)) e = type_not_other text said ty g s h (sym m ∙ e)

module _ (text : List ℕ) (words : List (List ℕ)) (names : List Spot) where
  pub long_cause : (f : SigFault) → f ≡ fault.Limit limit.NameLength → HasNameCause text words names f
  long_cause f m = no_name_cause text words names f (λ s e. long_not_other f s m e) (λ e. long_not_full f m e)

  pub type_cause : (said : List (Row Said)) (ty : RawType) (f : SigFault) → (f ≡ fault.Memory) ⊎ IsTypeFault text said ty f → HasNameCause text words names f
  type_cause said ty f h = no_name_cause text words names f (λ s e. type_not_other text said ty f s h e) (λ e. type_not_full text said ty f h e)

  pub told_cause : (said : List (Row Said)) (ty : RawType) (g f : SigFault) → (g ≡ fault.Memory) ⊎ IsTypeFault text said ty g → (f ≡ fault.Memory) ⊎ ((f ≡ fault.Limit limit.NameLength) ⊎ (f ≡ g)) → HasNameCause text words names f
  told_cause said ty g f h t = no_name_cause text words names f (λ s e. told_not_other text said ty g f s h t e) (λ e. told_not_full text said ty g f h t e)

-- the causes that lie in a type: it has too many arguments or type variables
module _ (text : List ℕ) (said : List (Row Said)) (defs : List (Row Definition)) (ty : RawType) where
  long_if : (f : SigFault) → (f ≡ fault.Memory) ⊎ IsWrittenFault text said defs ty f → f ≡ fault.Limit limit.Arguments → IsLongType ty.nodes.items ty.root ⊎ HasManyVariables said defs (written_in text ty)
  long_if f (inl m) e = let z : fault.Memory ≡ fault.Limit limit.Arguments = sym m ∙ e in absurd (cc)
  long_if f (inr (constants.long_type m l)) e = inl l
  long_if f (inr (constants.word_of_type l w)) e = absurd (subst IsOfWord e (of_word text said None w.node f w.is))
  long_if f (inr (constants.many_variables m sound count t is l)) e = inr (record { count = count; tree = t; is = is; many = l })

  module _ (given : List (Row Ty)) (rows : List (Row Written)) (names : List Spot) where
    no_type_cause : (f : SigFault) → ((s : Spot) → f ≡ fault.Differ s → ⊥) → (f ≡ fault.Limit limit.Arguments → ⊥) → HasTypeCause text said defs given rows names ty f
    no_type_cause f d l = record { differs = λ s e. absurd (d s e); long = λ e. absurd (l e) }

    pub long_type_cause : (f : SigFault) → f ≡ fault.Limit limit.NameLength → HasTypeCause text said defs given rows names ty f
    long_type_cause f m = no_type_cause f (λ s e. long_not_other f s m e) (λ e. let z : fault.Limit limit.NameLength ≡ fault.Limit limit.Arguments = sym m ∙ e in absurd (cc))

    pub written_cause : (f : SigFault) → (f ≡ fault.Memory) ⊎ IsTypeFault text said ty f → (f ≡ fault.Memory) ⊎ IsWrittenFault text said defs ty f → HasTypeCause text said defs given rows names ty f
    written_cause f h w = record { differs = λ s e. absurd (type_not_other text said ty f s h e); long = λ e. long_if f w e }

    pub told_type_cause : (g f : SigFault) → (g ≡ fault.Memory) ⊎ IsTypeFault text said ty g → (g ≡ fault.Memory) ⊎ IsWrittenFault text said defs ty g → (f ≡ fault.Memory) ⊎ ((f ≡ fault.Limit limit.NameLength) ⊎ (f ≡ g)) → HasTypeCause text said defs given rows names ty f
    told_type_cause g f h w (inl m) = no_type_cause f (λ s e. type_not_other text said ty f s (inl m) e) (λ e. let z : fault.Memory ≡ fault.Limit limit.Arguments = sym m ∙ e in absurd (cc))
    told_type_cause g f h w (inr (inl m)) = long_type_cause f m
    told_type_cause g f h w (inr (inr m)) = subst (HasTypeCause text said defs given rows names ty) (sym m) (written_cause g h w)

-- a name is no cause of too many arguments
pub new_not_long : (names : List Spot) (f : SigFault) → (f ≡ fault.Memory) ⊎ IsNewFault names f → f ≡ fault.Limit limit.Arguments → ⊥
new_not_long names f (inl m) e = let z : fault.Memory ≡ fault.Limit limit.Arguments = sym m ∙ e in absurd (cc)
new_not_long names f (inr (other_type s c m)) e = let z : fault.Differ s ≡ fault.Limit limit.Arguments = sym m ∙ e in absurd (cc)
new_not_long names f (inr (no_number m)) e = let z : fault.Limit limit.Names ≡ fault.Limit limit.Arguments = sym m ∙ e in absurd (cc)

pub local_not_long : (exports : List ℕ → Bool) (text : List ℕ) (Q : Spot → Type 0) (names : List Spot) (e : ModuleSigFault) (f : SigFault) →
    (e ≡ wrong.Sig fault.Memory) ⊎ IsFirstOf (IsLocalFault exports text (IsNewLocal text)) Q names e → e ≡ wrong.Sig f → f ≡ fault.Limit limit.Arguments → ⊥
local_not_long exports text Q names e f (inl m) is g = new_not_long names f (inl (sym (sig_is fault.Memory f (sym m ∙ is)))) g
local_not_long exports text Q names e f (inr r) is g = by r.refused
  where
    by : IsLocalFault exports text (IsNewLocal text) r.name e → ⊥
    by (is_exported x m) = let z : wrong.Exported r.name ≡ wrong.Sig f = sym m ∙ is in absurd (cc)
    by (its_fault x (inl (m, l))) = let h : fault.Limit limit.NameLength ≡ f = sig_is (fault.Limit limit.NameLength) f (sym m ∙ is) in let z : fault.Limit limit.NameLength ≡ fault.Limit limit.Arguments = h ∙ g in absurd (cc)
    by (its_fault x (inr (short, n))) = new_not_long (r.name ∷ []) n.0 (inr n.1) (sig_is n.0 f (sym n.2 ∙ is) ∙ g)

-- what a name is known as
pub standard_known : (b : Nodes) (c : Constants) (name : List ℕ) (n : ℕ) (first t : TypeId) → Some n ≡ found name standard_constants → IsTree b (λ T. T ≡ standard_tree n) first → known.Typed first ≡ known.Typed t → IsKnownId b c name t
standard_known b c name n first t e h is = let one : first ≡ t = cc in standard_id n (sym e) (subst (IsTree b (λ T. T ≡ standard_tree n)) one h)

pub constant_known : (b : Nodes) (c : Constants) (name : List ℕ) (words : List (List ℕ)) (i : ℕ) (k : Constant) (d : DeclaredType) (t : TypeId) → HasWords c words → Some i ≡ place_of c.places name → k ≡ get_or c.constants.items i k → k.declared ≡ Some d →
    known.Typed d.scheme ≡ known.Typed t → IsKnownId b c name t
constant_known b c name words i k d t h e at is same =
    let m = named_at name c.constants.items i k (sym (e ∙ h.places name)) at in
    let one : d.scheme ≡ t = cc in
    constant_id k m.0 m.1 d is (sym one)

pub new_not_other : (f : SigFault) (s : Spot) → (f ≡ fault.Memory) ⊎ (f ≡ fault.Limit limit.Names) → f ≡ fault.Differ s → ⊥
new_not_other f s (inl m) e = let z : fault.Memory ≡ fault.Differ s = sym m ∙ e in absurd (cc)
new_not_other f s (inr g) e = let z : fault.Limit limit.Names ≡ fault.Differ s = sym g ∙ e in absurd (cc)

-- a new name without a number
pub new_full : (text : List ℕ) (words : List (List ℕ)) (c : Constants) (s : Spot) (word : List ℕ) (k : Known) (f : SigFault) (P : Type 0) → word ≡ spelled text s → k ≡ known.New → is_met_word word words ≡ is_met k → HasWords c words →
    (f ≡ fault.Memory) ⊎ ((f ≡ fault.Limit limit.Names) × P × (END_OF_NUMBERS ≤ 32 + length c.constants.items)) → HasNameCause text words (s ∷ []) f
new_full text words c s word k f P same is met h (inl m) = subst (HasNameCause text words (s ∷ [])) (sym m) (memory_cause text words (s ∷ []))
new_full text words c s word k f P same is met h (inr g) =
    let l = length-map c.constants.items (λ k. k.name.items) in
    let a = ap length h.are in
    let r = g.2 in
    record {
      differs = λ z e. absurd (new_not_other f z (inr g.0) e);
      full = λ e. record {
        k = 0;
        name = s;
        inside = omega arith;
        at_name = refl;
        new = subst (λ ws. is_met_word (spelled text s) ws ≡ false) (sym (append-nil words)) (ap (λ w. is_met_word w words) (sym same) ∙ met ∙ ap is_met is);
        full = subst (λ ws. END_OF_NUMBERS ≤ 32 + length (first_names (names_in standard_constants) ws)) (sym (append-nil words)) (omega (arith, l, a, r));
      };
    }

-- a known name with another type
pub known_cause : (text : List ℕ) (words : List (List ℕ)) (s : Spot) (word : List ℕ) (k : Known) → word ≡ spelled text s → is_met k ≡ true → is_met_word word words ≡ is_met k → HasNameCause text words (s ∷ []) (fault.Differ s)
known_cause text words s word k same is met = record {
  differs = λ z e. by z (let one : s ≡ z = cc in one);
  full = λ e. absurd (cc);
}
  where
    by : (z : Spot) → s ≡ z → IsMetAt text words (s ∷ []) z
    by z one = record {
      k = 0;
      inside = omega arith;
      at_name = one;
      met = subst (λ ws. is_met_word (spelled text z) ws ≡ true) (sym (append-nil words)) (ap (λ w. is_met_word w words) (sym (same ∙ ap (λ s. spelled text s) one)) ∙ met ∙ is);
    }

pub other_known : (text : List ℕ) (b : Nodes) (c : Constants) (s z : Spot) (word : List ℕ) (declared : Option DeclaredType) (t : TypeId) (new : DeclaredType) → word ≡ spelled text s → IsKnownId b c word t → declared ≡ Some new →
    (t.0 < length b.types → new.scheme.0 < length b.types → type_tree b t.0 ≡ type_tree b new.scheme.0 → ⊥) → fault.Differ s ≡ fault.Differ z → Contains (s ∷ []) z × IsOtherId b c (spelled text z) declared
other_known text b c s z word declared t new same h some distinct is =
    let one : s ≡ z = cc in (
      subst (Contains (s ∷ [])) one (Contains_head s []),
      record { known = t; is = subst (λ w. IsKnownId b c w t) (same ∙ ap (spelled text) one) h; new = new; some = some; distinct = distinct },
    )

-- the name of a place among some
one_met : (text : List ℕ) (front : List (List ℕ)) (y s : Spot) (k : ℕ) → k < 1 → slice_index_or (y ∷ []) k s ≡ s → is_met_word (spelled text s) (front ++ map (λ s. spelled text s) (take k (y ∷ []))) ≡ true → (y ≡ s) × (is_met_word (spelled text s) front ≡ true)
one_met text front y s zero l at met = (at, subst (λ ws. is_met_word (spelled text s) ws ≡ true) (append-nil front) met)
one_met text front y s (suc k) l at met = absurd (omega (arith, l))

one_new : (text : List ℕ) (front : List (List ℕ)) (y n : Spot) (k : ℕ) → k < 1 → slice_index_or (y ∷ []) k n ≡ n → is_met_word (spelled text n) (front ++ map (λ s. spelled text s) (take k (y ∷ []))) ≡ false →
    END_OF_NUMBERS ≤ 32 + length (first_names (names_in standard_constants) (front ++ map (λ s. spelled text s) (take k (y ∷ [])))) →
    (is_met_word (spelled text y) front ≡ false) × (END_OF_NUMBERS ≤ 32 + length (first_names (names_in standard_constants) front))
one_new text front y n zero l at new full = (
  subst (λ s. is_met_word (spelled text s) front ≡ false) (sym at) (subst (λ ws. is_met_word (spelled text n) ws ≡ false) (append-nil front) new),
  subst (λ ws. END_OF_NUMBERS ≤ 32 + length (first_names (names_in standard_constants) ws)) (append-nil front) full,
)
one_new text front y n (suc k) l at new full = absurd (omega (arith, l))

pub cause_more : (text : List ℕ) (words : List (List ℕ)) (names : List Spot) (i : ℕ) (x : Spot) (f : SigFault) → i < length names → HasNameCause text (words ++ map (λ s. spelled text s) (take i names)) (get_or names i x ∷ []) f → HasNameCause text words names f
cause_more text words names i x f l h = record {
  differs = λ s e.
      let m = h.differs s e in
      let r = one_met text (words ++ map (λ s. spelled text s) (take i names)) (get_or names i x) s m.k m.inside m.at_name m.met in
      record { k = i; inside = l; at_name = get_or_default names i s x l ∙ r.0; met = r.1 };
  full = λ e.
      let n = h.full e in
      let r = one_new text (words ++ map (λ s. spelled text s) (take i names)) (get_or names i x) n.name n.k n.inside n.at_name n.new n.full in
      record { k = i; name = get_or names i x; inside = l; at_name = get_or_default names i (get_or names i x) x l; new = r.0; full = r.1 };
}

-- names that are added
pub one_added : (old new : List Constant) (word : List ℕ) (declared : Option DeclaredType) (x : Constant) → new ≡ old ++ x ∷ [] → x.name.items ≡ word → x.declared ≡ declared → (k : Constant) → Contains new k → Contains old k ⊎ ((k.name.items ≡ word) × (k.declared ≡ declared))
one_added old new word declared x e n d k has = by (Contains-append_cases old (x ∷ []) k (subst (λ l. Contains l k) e has))
  where
    by : Contains old k ⊎ Contains (x ∷ []) k → Contains old k ⊎ ((k.name.items ≡ word) × (k.declared ≡ declared))
    by (inl m) = inl m
    by (inr m) = let one : x ≡ k = Contains_single x k m in inr (ap (λ k. k.name.items) (sym one) ∙ n, ap (λ k. k.declared) (sym one) ∙ d)

pub name_added : (old new : Constants) (text : List ℕ) (s : Spot) (word : List ℕ) (declared : Option DeclaredType) → word ≡ spelled text s → ((k : Constant) → Contains new.constants.items k → Contains old.constants.items k ⊎ ((k.name.items ≡ word) × (k.declared ≡ declared))) →
    AddsNames old new text (s ∷ []) declared
name_added old new text s word declared same h k has = by (h k has)
  where
    by : Contains old.constants.items k ⊎ ((k.name.items ≡ word) × (k.declared ≡ declared)) → Contains old.constants.items k ⊎ ((z : Spot) × Contains (s ∷ []) z × (k.name.items ≡ spelled text z) × (k.declared ≡ declared))
    by (inl m) = inl m
    by (inr r) = inr (s, Contains_head s [], r.0 ∙ same, r.1)

pub adds_same : (c : Constants) (text : List ℕ) (names : List Spot) (declared : Option DeclaredType) → AddsNames c c text names declared
adds_same c text names declared k has = inl has

pub adds_more : (old mid new : Constants) (text : List ℕ) (names : List Spot) (i : ℕ) (x : Spot) (declared : Option DeclaredType) → i < length names → AddsNames old mid text (take i names) declared → AddsNames mid new text (get_or names i x ∷ []) declared →
    AddsNames old new text (take (i + 1) names) declared
adds_more old mid new text names i x declared l f g k has = by (g k has)
  where
    all : take i names ++ get_or names i x ∷ [] ≡ take (i + 1) names
    all = sym (take_more names i x l)

    first : Contains old.constants.items k ⊎ ((s : Spot) × Contains (take i names) s × (k.name.items ≡ spelled text s) × (k.declared ≡ declared)) → Contains old.constants.items k ⊎ ((s : Spot) × Contains (take (i + 1) names) s × (k.name.items ≡ spelled text s) × (k.declared ≡ declared))
    first (inl m) = inl m
    first (inr (s, c, n, d)) = inr (s, subst (λ l. Contains l s) all (Contains-append_left (take i names) (get_or names i x ∷ []) s c), n, d)

    by : Contains mid.constants.items k ⊎ ((s : Spot) × Contains (get_or names i x ∷ []) s × (k.name.items ≡ spelled text s) × (k.declared ≡ declared)) → Contains old.constants.items k ⊎ ((s : Spot) × Contains (take (i + 1) names) s × (k.name.items ≡ spelled text s) × (k.declared ≡ declared))
    by (inl m) = first (f k m)
    by (inr (s, c, n, d)) = inr (s, subst (λ l. Contains l s) all (Contains-append_right (take i names) (get_or names i x ∷ []) s c), n, d)

-- a name that differs from one of its own sentence would have another type than itself
other_before : (b now : Nodes) (old mid : Constants) (text : List ℕ) (front : List Spot) (name : List ℕ) (declared : Option DeclaredType) → Extends b now → IsInside b declared → AddsNames old mid text front declared → IsOtherId now mid name declared → IsOtherId now old name declared
other_before b now old mid text front name declared x inside adds o = record { known = o.known; is = by o.is; new = o.new; some = o.some; distinct = o.distinct }
  where
    never : (k : Constant) (d : DeclaredType) → k.declared ≡ Some d → o.known ≡ d.scheme → k.declared ≡ declared → ⊥
    never k d e t same =
        let one : d ≡ o.new = same_Some d o.new (sym e ∙ same ∙ o.some) in
        let eq : o.known.0 ≡ o.new.scheme.0 = ap (λ i. i.0) (t ∙ ap (λ d. d.scheme) one) in
        let l = inside o.new o.some in
        let m = x.more_types in
        o.distinct (omega (arith, l, m, eq)) (omega (arith, l, m)) (ap (type_tree now) eq)

    at : (k : Constant) (d : DeclaredType) → k.name.items ≡ name → k.declared ≡ Some d → o.known ≡ d.scheme → Contains old.constants.items k ⊎ ((s : Spot) × Contains front s × (k.name.items ≡ spelled text s) × (k.declared ≡ declared)) → IsKnownId now old name o.known
    at k d is e t (inl m) = constant_id k m is d e t
    at k d is e t (inr (s, c, n, same)) = absurd (never k d e t same)

    by : IsKnownId now mid name o.known → IsKnownId now old name o.known
    by (standard_id n e t) = standard_id n e t
    by (constant_id k has is d e t) = at k d is e t (adds k has)

pub others_more : (b now : Nodes) (old mid : Constants) (text : List ℕ) (names : List Spot) (i : ℕ) (x : Spot) (declared : Option DeclaredType) (f : SigFault) → i < length names → Extends b now → IsInside b declared → AddsNames old mid text (take i names) declared →
    AreOtherIds text now mid (get_or names i x ∷ []) declared f → AreOtherIds text now old names declared f
others_more b now old mid text names i x declared f l e inside adds h z is =
    let (c, o) = h z is in
    (subst (Contains names) (Contains_single (get_or names i x) z c) (Contains-get_or names i x l), other_before b now old mid text (take i names) (spelled text z) declared e inside adds o)

-- a name that differs, by its type as written
known_here : (b now : Nodes) (c : Constants) (said : List (Row Said)) (defs : List (Row Definition)) (given : List (Row Ty)) (rows : List (Row Written)) (name : List ℕ) (t : TypeId) → Extends b now → AreKnownTypes b c said defs given rows → IsKnownId now c name t →
    (t.0 < length now.types) × IsKnownType said defs given rows name (type_tree now t.0)
known_here b now c said defs given rows name t x all (standard_id n e h) = (h.0, of_language n e h.1)
known_here b now c said defs given rows name t x all (constant_id k has is d e same) =
    let (l, kt) = all k has d e in
    let m = x.more_types in
    let r : d.scheme.0 < length now.types = omega (arith, l, m) in
    let tree : type_tree now t.0 ≡ type_tree b d.scheme.0 = ap (λ i. type_tree now i.0) same ∙ x.same_types d.scheme.0 l in (
      subst (λ i. i.0 < length now.types) (sym same) r,
      subst (IsKnownType said defs given rows name) (sym tree) (subst (λ n. IsKnownType said defs given rows n (type_tree b d.scheme.0)) is kt),
    )

pub other_written : (b mid now : Nodes) (c : Constants) (said : List (Row Said)) (defs : List (Row Definition)) (given : List (Row Ty)) (rows : List (Row Written)) (text : List ℕ) (names : List Spot) (ty : RawType) (declared : Option DeclaredType) (f : SigFault) →
    Extends b now → Extends mid now → AreKnownTypes b c said defs given rows → IfSome declared (IsTyped mid said defs (written_in text ty)) → AreOtherIds text now c names declared f → (f ≡ fault.Limit limit.Arguments → ⊥) → HasTypeCause text said defs given rows names ty f
other_written b mid now c said defs given rows text names ty declared f x y all typed h never = record { differs = λ z is. by z (h z is); long = λ e. absurd (never e) }
  where
    by : (z : Spot) → Contains names z × IsOtherId now c (spelled text z) declared → Contains names z × DiffersFrom said defs given rows (spelled text z) (written_in text ty)
    by z (has, o) =
        let t : IsTyped mid said defs (written_in text ty) o.new = subst (λ o. IfSome o (IsTyped mid said defs (written_in text ty))) o.some typed in
        let k = known_here b now c said defs given rows (spelled text z) o.known x all o.is in
        let l = t.inside in
        let m = y.more_types in (
          has,
          record {
            known = type_tree now o.known.0;
            before = k.1;
            here = type_tree now o.new.scheme.0;
            count = o.new.type_vars;
            is = subst (IsSchemeOf said defs (written_in text ty) o.new.type_vars) (sym (y.same_types o.new.scheme.0 l)) t.scheme;
            differ = o.distinct k.0 (omega (arith, l, m));
          },
        )

pub typed_inside : (mid : Nodes) (said : List (Row Said)) (defs : List (Row Definition)) (w : Written) (declared : Option DeclaredType) → IfSome declared (IsTyped mid said defs w) → IsInside mid declared
typed_inside mid said defs w declared typed d is = (subst (λ o. IfSome o (IsTyped mid said defs w)) is typed).inside

-- more rows
known_more : (said : List (Row Said)) (defs : List (Row Definition)) (given : List (Row Ty)) (rows more : List (Row Written)) (name : List ℕ) (t : Ty) → IsKnownType said defs given rows name t → IsKnownType said defs given (rows ++ more) name t
known_more said defs given rows more name t (of_language n e is) = of_language n e is
known_more said defs given rows more name t (of_signatures c) = of_signatures c
known_more said defs given rows more name t (of_text w c count is) = of_text w (Contains-append_left rows more (name, w) c) count is

among_each : (text : List ℕ) (w : Written) (names : List Spot) (s : Spot) → Contains names s → Contains (each text w names) (spelled text s, w)
among_each text w [] s (i, l, at) = absurd (omega (arith, l))
among_each text w (n ∷ ns) s (zero, l, at) = subst (λ s. Contains (each text w (n ∷ ns)) (spelled text s, w)) at (Contains_head (spelled text n, w) (each text w ns))
among_each text w (n ∷ ns) s (suc i, l, at) = Contains_tail (spelled text n, w) (spelled text s, w) (each text w ns) (among_each text w ns s (i, omega (arith, l), at))

-- names with a type that is written
module _ (names : Names) (old mid new : Bodies) (c d : Constants) (text : List ℕ) (raw : RawType) (spots : List Spot) (declared : Option DeclaredType) (x : Extends old.types.bank mid.types.bank) (y : Extends mid.types.bank new.types.bank)
    (one : mid.bodies ≡ old.bodies) (two : new.bodies ≡ mid.bodies) where
  pub takes_typed : ((said : List (Row Said)) (defs : List (Row Definition)) → Knows names said → HoldsBodies old.types.bank old.bodies.items said defs → IfSome declared (IsTyped mid.types.bank said defs (written_in text raw))) →
      AddsNames c d text spots declared → ((words : List (List ℕ)) → HasWords c words → HasWords d (words ++ map (λ s. spelled text s) spots)) →
      Takes names old c new d (each text (written_in text raw) spots) (map (λ s. spelled text s) spots)
  takes_typed typed adds met said defs given before words r = record {
    knows = r.knows;
    holds = bodies_stay old.types.bank new.types.bank old.bodies.items new.bodies.items said defs kept (ap (λ v. v.items) (two ∙ one)) r.holds;
    met = met words r.met;
    types = λ k has t is. by k t is (adds k has);
  }
    where
      kept : Extends old.types.bank new.types.bank
      kept = extends-trans old.types.bank mid.types.bank new.types.bank x y

      by : (k : Constant) (t : DeclaredType) → k.declared ≡ Some t → Contains c.constants.items k ⊎ ((s : Spot) × Contains spots s × (k.name.items ≡ spelled text s) × (k.declared ≡ declared)) →
          (t.scheme.0 < length new.types.bank.types) × IsKnownType said defs given (before ++ each text (written_in text raw) spots) k.name.items (type_tree new.types.bank t.scheme.0)
      by k t is (inl m) =
          let (l, kt) = r.types k m t is in
          let n = kept.more_types in (
            omega (arith, l, n),
            subst (IsKnownType said defs given (before ++ each text (written_in text raw) spots) k.name.items) (sym (kept.same_types t.scheme.0 l)) (known_more said defs given before (each text (written_in text raw) spots) k.name.items (type_tree old.types.bank t.scheme.0) kt),
          )
      by k t is (inr (s, m, n, same)) =
          let h : IsTyped mid.types.bank said defs (written_in text raw) t = subst (λ o. IfSome o (IsTyped mid.types.bank said defs (written_in text raw))) (sym same ∙ is) (typed said defs r.knows r.holds) in
          let l = h.inside in
          let more = y.more_types in (
            omega (arith, l, more),
            of_text (written_in text raw) (subst (λ name. Contains (before ++ each text (written_in text raw) spots) (name, written_in text raw)) (sym n)
                (Contains-append_right before (each text (written_in text raw) spots) (spelled text s, written_in text raw) (among_each text (written_in text raw) spots s m)))
                t.type_vars (subst (IsSchemeOf said defs (written_in text raw) t.type_vars) (sym (y.same_types t.scheme.0 l)) h.scheme),
          )

-- nothing is declared
pub takes_none : (names : Names) (old new : Bodies) (c d : Constants) → Extends old.types.bank new.types.bank → new.bodies ≡ old.bodies → d ≡ c → Takes names old c new d [] []
takes_none names old new c d x bodies same said defs given before words r = record {
  knows = r.knows;
  holds = bodies_stay old.types.bank new.types.bank old.bodies.items new.bodies.items said defs x (ap (λ v. v.items) bodies) r.holds;
  met = subst (λ c. HasWords c (words ++ [])) (sym same) (subst (HasWords c) (sym (append-nil words)) r.met);
  types = λ k has t is. by k t (r.types k (subst (λ c. Contains c.constants.items k) same has) t is);
}
  where
    by : (k : Constant) (t : DeclaredType) → (t.scheme.0 < length old.types.bank.types) × IsKnownType said defs given before k.name.items (type_tree old.types.bank t.scheme.0) →
        (t.scheme.0 < length new.types.bank.types) × IsKnownType said defs given (before ++ []) k.name.items (type_tree new.types.bank t.scheme.0)
    by k t (l, kt) =
        let m = x.more_types in (
          omega (arith, l, m),
          subst (IsKnownType said defs given (before ++ []) k.name.items) (sym (x.same_types t.scheme.0 l)) (known_more said defs given before [] k.name.items (type_tree old.types.bank t.scheme.0) kt),
        )

pub takes_same : (m : Making) → TakesOn m m [] []
takes_same m = takes_none m.names m.bodies m.bodies m.constants m.constants (extends_same m.bodies.types.bank) refl refl

-- one behind the other
pub takes_so : (a b c : Making) (rows others : List (Row Written)) (more behind : List (List ℕ)) → b.names ≡ a.names → TakesOn a b rows more → TakesOn b c others behind → TakesOn a c (rows ++ others) (more ++ behind)
takes_so a b c rows others more behind same f h said defs given before words r =
    let s : IsTaking b.names b.bodies b.constants said defs given (before ++ rows) (words ++ more) = subst (λ n. IsTaking n b.bodies b.constants said defs given (before ++ rows) (words ++ more)) (sym same) (f said defs given before words r) in
    let t = h said defs given (before ++ rows) (words ++ more) s in
    subst (λ n. IsTaking n c.bodies c.constants said defs given (before ++ (rows ++ others)) (words ++ (more ++ behind))) same
    (subst (λ l. IsTaking b.names c.bodies c.constants said defs given l (words ++ (more ++ behind))) (append_assoc before rows others)
    (subst (IsTaking b.names c.bodies c.constants said defs given ((before ++ rows) ++ others)) (append_assoc words more behind) t))

-- of a declaration, of local constants and of a sentence
pub its_taken : (old new : Making) (text : List ℕ) (l d : Declaration) (rows : List (Row Written)) (more : List (List ℕ)) → l ≡ d → rows ≡ typed_by text d → more ≡ constant_names_by text d → TakesOn old new rows more → TakesOn old new (typed_by text l) (constant_names_by text l)
its_taken old new text l d rows more is f g h =
    subst (λ l. TakesOn old new (typed_by text l) (constant_names_by text l)) (sym is) (subst (λ r. TakesOn old new r (constant_names_by text d)) f (subst (TakesOn old new rows) g h))

pub local_taken : (old new : Making) (text : List ℕ) (names : List Spot) (o p : Option RawType) → o ≡ p → TakesOn old new (typed_locals text names p) (local_names text names p) → TakesOn old new (typed_locals text names o) (local_names text names o)
local_taken old new text names o p is h = subst (λ o. TakesOn old new (typed_locals text names o) (local_names text names o)) (sym is) h

pub sentence_taken : (old new : Making) (text : List ℕ) (l : Sentence) (d : Declaration) → l ≡ Declares d → TakesOn old new (typed_by text d) (constant_names_by text d) → TakesOn old new (typed_in text (declarations (l ∷ []))) (constant_names_in text (declarations (l ∷ [])))
sentence_taken old new text l d is h =
    subst (λ l. TakesOn old new (typed_in text (declarations (l ∷ []))) (constant_names_in text (declarations (l ∷ [])))) (sym is)
    (subst (λ r. TakesOn old new r (constant_names_by text d ++ [])) (sym (append-nil (typed_by text d))) (subst (TakesOn old new (typed_by text d)) (sym (append-nil (constant_names_by text d))) h))

pub none_taken : (m : Making) (text : List ℕ) (l : Sentence) (raw : RawTerm) → l ≡ Says raw → TakesOn m m (typed_in text (declarations (l ∷ []))) (constant_names_in text (declarations (l ∷ [])))
none_taken m text l raw is = subst (λ l. TakesOn m m (typed_in text (declarations (l ∷ []))) (constant_names_in text (declarations (l ∷ [])))) (sym is) (takes_same m)

pub one_declared : (l : Sentence) (c d : Declaration) → l ≡ Declares c → l ≡ Declares d → c ≡ d
one_declared l c d e f = let z : Declares c ≡ Declares d = sym e ∙ f in cc

-- the first sentence that is refused, with its cause
pub caused_among : (own : Signature) (used : List Signature) (text : List ℕ) (z : Seen) (ls : List Sentence) (i : ℕ) (l : Sentence) (e m : ModuleSigFault) (P : List Declaration → Declaration → ModuleSigFault → Type 0) → i < length ls → l ≡ get_or ls i l →
    All (IsLineTaken own used text z (declarations ls)) (declarations (take i ls)) → ((d : Declaration) → l ≡ Declares d → P (declarations (take i ls)) d e) →
    (e ≡ m) ⊎ ((d : Declaration) × (l ≡ Declares d) × IsLineFault own used text z (declarations ls) d e) →
    (e ≡ m) ⊎ ((f : IsFaultAmong own used text z (declarations ls) e) × P (take f.k (declarations ls)) f.line e)
caused_among own used text z ls i l e m P h at before cause (inl is) = inl is
caused_among own used text z ls i l e m P h at before cause (inr (d, is, why)) =
    let r = declared_more ls i d l h at is in
    inr (
      record { k = length (declarations (take i ls)); line = d; inside = r.0; at_line = r.1; why = why; before = subst (All (IsLineTaken own used text z (declarations ls))) (sym r.2) before },
      subst (λ ds. P ds d e) (sym r.2) (cause d is),
    )
