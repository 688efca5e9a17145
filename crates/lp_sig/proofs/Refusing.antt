-- Why a module's declarations are refused: sets of names, exported names, names one after the other, and sentences.
use Rattle.std.specs.Global.{Global}
use Rattle.std.proofs.Common.{◌≡◌, ℕ, zero, suc, ◌<◌, List, [], ◌∷◌, ◌++◌, length, map, get_or, take, Bool, true, false, Option, Some, None, Vec, Bor, refl, sym, ap, subst, ◌∙◌, arith, true≢false, inl, inr, append-nil, append_assoc}
use Rattle.std.specs.Prelude.{◌⊎◌, if◌then◌else◌, is_some, option_map, find, All, Contains, slice_index_or, ◌||◌}
use Rattle.std.specs.List.{list_any}
use Rattle.std.specs.Str.{bytes_eq}
use Rattle.std.proofs.lemmas.List.{get_or_default}
use Rattle.std.proofs.lemmas.List.Elements.{Contains-get_or}
use Rattle.std.proofs.lemmas.Slice.Eq.{bytes_eq-Decides}
use Rattle.indexmap.specs.IndexSet.{IndexSet}
use Rattle.lp_lemmas.proofs.Elements.{Contains_single}
use Rattle.lp_base.specs.declared.place.Spot.{Spot}
use Rattle.lp_syntax.specs.declared.text.Declaration.{Declaration}
use Rattle.lp_syntax.specs.declared.text.Declaration.TheVariants.{LocalKinds, Locals}
use Rattle.lp_syntax.specs.declared.text.RawType.{RawType}
use Rattle.lp_syntax.specs.declared.text.Sentence.{Sentence}
use Rattle.lp_syntax.specs.declared.text.Sentence.TheVariants.{Declares, Says}
use Rattle.lp_term.specs.declared.node.TypeId.{TypeId}
use Rattle.lp_sig.specs.Abbreviations.{Seen}
use Rattle.lp_sig.specs.Pieces.{spelled}
use Rattle.lp_sig.specs.Rows.{Row, found, kind_row, abbreviation_row}
use Rattle.lp_sig.specs.Standard.{standard_kinds, standard_constants}
use Rattle.lp_sig.specs.Said.{is_among, names_in}
use Rattle.lp_sig.specs.Modules.{declarations, said_of, constants_of, kind_said, abbreviation_said, constant_names_by}
use Rattle.lp_sig.specs.ModuleFaults.{differs_at, blamed_at, blamed_by, kind_names_by, kind_names_in, exports_kind, exports_constant, IsFirstOf, IsNewFault, other_type, no_number, IsLineFault, IsLineTaken, IsFaultAmong}
use Rattle.lp_sig.specs.Sights.{HasKeys}
use Rattle.lp_sig.specs.declared.entries.ConstantEntry.{ConstantEntry}
use Rattle.lp_sig.specs.declared.entries.KindEntry.{KindEntry}
use Rattle.lp_sig.specs.declared.entries.AbbreviationEntry.{AbbreviationEntry}
use Rattle.lp_sig.specs.declared.signature.Signature.{Signature}
use Rattle.lp_sig.specs.declared.fault.SigFault.{SigFault}
use Rattle.lp_sig.specs.declared.fault.SigFault.TheVariants as fault
use Rattle.lp_sig.specs.declared.module_fault.ModuleSigFault.{ModuleSigFault}
use Rattle.lp_sig.specs.declared.module_fault.ModuleSigFault.TheVariants as wrong
use Rattle.lp_sig.proofs.Abbreviating.{among_append}
use Rattle.lp_sig.proofs.Firsts.{found_among}

-- one more name of a set
or_turned : (a b : Bool) → (a || (b || false)) ≡ (b || a)
or_turned true true = refl
or_turned true false = refl
or_turned false true = refl
or_turned false false = refl

any_last : {K : Type 0} (test : K → Bool) (xs : List K) (k : K) → list_any test (xs ++ k ∷ []) ≡ (list_any test xs || (test k || false))
any_last test [] k = refl
any_last test (x ∷ xs) k = by (test x) (any_last test xs k)
  where
    by : (t : Bool) → list_any test (xs ++ k ∷ []) ≡ (list_any test xs || (test k || false)) → (t || list_any test (xs ++ k ∷ [])) ≡ ((t || list_any test xs) || (test k || false))
    by true e = refl
    by false e = e

any_more : (keys : List (Vec ℕ Global)) (k : Vec ℕ Global) (n : List ℕ) → list_any (λ x. bytes_eq n x.items) (if list_any (λ x. bytes_eq k.items x.items) keys then keys else keys ++ k ∷ []) ≡
    (list_any (λ x. bytes_eq n x.items) keys || (bytes_eq n k.items || false))
any_more keys k n = by (list_any (λ x. bytes_eq k.items x.items) keys) refl
  where
    there : (t : Bool) → bytes_eq n k.items ≡ t → list_any (λ x. bytes_eq k.items x.items) keys ≡ true → (a : Bool) → list_any (λ x. bytes_eq n x.items) keys ≡ a → a ≡ (a || (t || false))
    there t s e true f = refl
    there false s e false f = refl
    there true s e false f = absurd (true≢false (sym e ∙ ap (λ m. list_any (λ x. bytes_eq m x.items) keys) (sym ((bytes_eq-Decides n k.items).0 s)) ∙ f))

    by : (t : Bool) → list_any (λ x. bytes_eq k.items x.items) keys ≡ t → list_any (λ x. bytes_eq n x.items) (if t then keys else keys ++ k ∷ []) ≡
        (list_any (λ x. bytes_eq n x.items) keys || (bytes_eq n k.items || false))
    by true e = there (bytes_eq n k.items) refl e (list_any (λ x. bytes_eq n x.items) keys) refl
    by false e = any_last (λ x. bytes_eq n x.items) keys k

pub key_more : {S : Type 0} (old new : IndexSet (Vec ℕ Global) S) (words : List (List ℕ)) (key : Vec ℕ Global) (w : List ℕ) → key.items ≡ w →
    new.keys ≡ (if list_any (λ x. bytes_eq key.items x.items) old.keys then old.keys else old.keys ++ key ∷ []) → HasKeys old words → HasKeys new (words ++ w ∷ [])
key_more old new words key w is e h name =
    ap (list_any (λ x. bytes_eq name x.items)) e ∙ any_more old.keys key name ∙ ap (λ t. t || (bytes_eq name key.items || false)) (h name) ∙
    ap (λ k. is_among name words || (bytes_eq name k || false)) is ∙ sym (among_append name words (w ∷ []))

pub no_keys : {S : Type 0} (set : IndexSet (Vec ℕ Global) S) (words more : List (List ℕ)) → more ≡ [] → HasKeys set words → HasKeys set (words ++ more)
no_keys set words more e h = subst (HasKeys set) (sym (append-nil words) ∙ ap (λ m. words ++ m) (sym e)) h

-- local names with a count or a type
pub local_kind_names : (text : List ℕ) (names : Vec Spot Global) (ns : List Spot) (count : Option ℕ) (b : Bool) → ns ≡ names.items → b ≡ is_some count →
    (if b then map (λ s. spelled text s) ns else []) ≡ kind_names_by text (LocalKinds names count)
local_kind_names text names ns None b same is = ap (λ t. if t then map (λ s. spelled text s) ns else []) is
local_kind_names text names ns (Some n) b same is = ap (λ t. if t then map (λ s. spelled text s) ns else []) is ∙ ap (map (λ s. spelled text s)) same

pub local_constant_names : (text : List ℕ) (names : Vec Spot Global) (ns : List Spot) (raw : Option RawType) (b : Bool) → ns ≡ names.items → b ≡ is_some raw →
    (if b then map (λ s. spelled text s) ns else []) ≡ constant_names_by text (Locals names raw)
local_constant_names text names ns None b same is = ap (λ t. if t then map (λ s. spelled text s) ns else []) is
local_constant_names text names ns (Some ty) b same is = ap (λ t. if t then map (λ s. spelled text s) ns else []) is ∙ ap (map (λ s. spelled text s)) same

-- the names of more sentences
pub kinds_append : (text : List ℕ) (xs ys : List Declaration) → kind_names_in text (xs ++ ys) ≡ kind_names_in text xs ++ kind_names_in text ys
kinds_append text [] ys = refl
kinds_append text (x ∷ xs) ys = ap (λ z. kind_names_by text x ++ z) (kinds_append text xs ys) ∙ sym (append_assoc (kind_names_by text x) (kind_names_in text xs) (kind_names_in text ys))

-- a name that the own signature has
kind_rows : (es : List KindEntry) → names_in (map kind_row es) ≡ names_in (map kind_said es)
kind_rows [] = refl
kind_rows (e ∷ es) = ap (λ l. e.name.items ∷ l) (kind_rows es)

append_names : {A : Type 0} (xs ys : List (Row A)) → names_in (xs ++ ys) ≡ names_in xs ++ names_in ys
append_names [] ys = refl
append_names (x ∷ xs) ys = ap (λ l. x.0 ∷ l) (append_names xs ys)

module _ (own : Signature) (w : List ℕ) where
  among_said : is_among w (names_in (said_of own)) ≡ (is_among w (names_in (map kind_row own.kinds.items)) || is_among w (names_in (map abbreviation_said own.abbreviations.items)))
  among_said =
      ap (is_among w) (append_names (map kind_said own.kinds.items) (map abbreviation_said own.abbreviations.items)) ∙
      among_append w (names_in (map kind_said own.kinds.items)) (names_in (map abbreviation_said own.abbreviations.items)) ∙
      ap (λ l. is_among w l || is_among w (names_in (map abbreviation_said own.abbreviations.items))) (sym (kind_rows own.kinds.items))

  known_kind : is_some (found w (standard_kinds ++ map kind_row own.kinds.items)) ≡ (is_among w (names_in standard_kinds) || is_among w (names_in (map kind_row own.kinds.items)))
  known_kind =
      found_among w (standard_kinds ++ map kind_row own.kinds.items) ∙ ap (is_among w) (append_names standard_kinds (map kind_row own.kinds.items)) ∙
      among_append w (names_in standard_kinds) (names_in (map kind_row own.kinds.items))

  pub standard_kept : is_some (found w standard_kinds) ≡ true → false ≡ exports_kind own w
  standard_kept e = ap (λ t. if t then false else is_among w (names_in (said_of own))) (sym (sym (found_among w standard_kinds) ∙ e))

  module _ (new : is_some (found w standard_kinds) ≡ false) where
    other_kind : is_among w (names_in (said_of own)) ≡ exports_kind own w
    other_kind = ap (λ t. if t then false else is_among w (names_in (said_of own))) (sym (sym (found_among w standard_kinds) ∙ new))

    own_kind : is_some (found w (standard_kinds ++ map kind_row own.kinds.items)) ≡ is_among w (names_in (map kind_row own.kinds.items))
    own_kind = known_kind ∙ ap (λ t. t || is_among w (names_in (map kind_row own.kinds.items))) (sym (found_among w standard_kinds) ∙ new)

    pub kind_kept : is_some (found w (standard_kinds ++ map kind_row own.kinds.items)) ≡ true → true ≡ exports_kind own w
    kind_kept e = ap (λ t. t || is_among w (names_in (map abbreviation_said own.abbreviations.items))) (sym e ∙ own_kind) ∙ sym among_said ∙ other_kind

    pub abbreviation_kept : (b : Bool) → is_some (found w (standard_kinds ++ map kind_row own.kinds.items)) ≡ false → b ≡ is_among w
        (names_in (map abbreviation_said own.abbreviations.items)) → b ≡ exports_kind own w
    abbreviation_kept b e is = is ∙ ap (λ t. t || is_among w (names_in (map abbreviation_said own.abbreviations.items))) (sym e ∙ own_kind) ∙ sym among_said ∙ other_kind

  pub standard_constant_kept : is_some (found w standard_constants) ≡ true → false ≡ exports_constant own w
  standard_constant_kept e = ap (λ t. if t then false else is_among w (constants_of own)) (sym (sym (found_among w standard_constants) ∙ e))

  found_constant : (es : List ConstantEntry) → is_some (find (λ e. bytes_eq w e.name.items) es) ≡ is_among w (map (λ e. e.name.items) es)
  found_constant [] = refl
  found_constant (e ∷ es) = by (bytes_eq w e.name.items) (found_constant es)
    where
      by : (t : Bool) → is_some (find (λ e. bytes_eq w e.name.items) es) ≡ is_among w (map (λ e. e.name.items) es) → is_some
          (if t then Some e else find (λ e. bytes_eq w e.name.items) es) ≡ (t || is_among w (map (λ e. e.name.items) es))
      by true h = refl
      by false h = h

  pub constant_kept : (b : Bool) → is_some (found w standard_constants) ≡ false → b ≡ is_some (find (λ e. bytes_eq w e.name.items) own.constants.items) → b ≡ exports_constant own w
  constant_kept b new is = is ∙ found_constant own.constants.items ∙ ap (λ t. if t then false else is_among w (constants_of own)) (sym (sym (found_among w standard_constants) ∙ new))

-- the first of names that is refused
pub first_of : (P : Spot → ModuleSigFault → Type 0) (Q : Spot → Type 0) (names : List Spot) (i : ℕ) (d : Spot) (e : ModuleSigFault) → i < length names
    → All Q (take i names) → P (get_or names i d) e → IsFirstOf P Q names e
first_of P Q names i d e h before this = record { k = i; name = get_or names i d; inside = h; at_name = get_or_default names i (get_or names i d) d h; refused = this; before = before }

pub first_or : (P : Spot → ModuleSigFault → Type 0) (Q : Spot → Type 0) (names : List Spot) (i : ℕ) (d : Spot) (e m : ModuleSigFault) → i < length
    names → All Q (take i names) → (e ≡ m) ⊎ P (get_or names i d) e → (e ≡ m) ⊎ IsFirstOf P Q names e
first_or P Q names i d e m h before (inl is) = inl is
first_or P Q names i d e m h before (inr this) = inr (first_of P Q names i d e h before this)

-- a name of some is at fault
pub new_among : (names : List Spot) (i : ℕ) (d : Spot) (e : SigFault) → i < length names → IsNewFault (get_or names i d ∷ []) e → IsNewFault names e
new_among names i d e h (other_type s c is) = other_type (get_or names i d) (Contains-get_or names i d h) (is ∙ ap (λ s. fault.Differ s) (sym (single s c)))
  where
    single : (s : Spot) → Contains (get_or names i d ∷ []) s → get_or names i d ≡ s
    single s c = Contains_single (get_or names i d) s c
new_among names i d e h (no_number is) = no_number is

pub new_or : (names : List Spot) (i : ℕ) (d : Spot) (e m : SigFault) → i < length names → (e ≡ m) ⊎ IsNewFault (get_or names i d ∷ []) e → (e ≡ m) ⊎ IsNewFault names e
new_or names i d e m h (inl is) = inl is
new_or names i d e m h (inr f) = inr (new_among names i d e h f)

-- sentences
pub declared_more : (ls : List Sentence) (i : ℕ) (d : Declaration) (l : Sentence) → i < length ls → l ≡ get_or ls i l → l ≡ Declares d →
    (length (declarations (take i ls)) < length (declarations ls)) × (slice_index_or (declarations ls) (length (declarations (take i ls))) d ≡ d) ×
    (take (length (declarations (take i ls))) (declarations ls) ≡ declarations (take i ls))
declared_more [] i d l h at is = absurd (omega (arith, h))
declared_more (Declares x ∷ ls) zero d l h at is =
    let z : Declares x ≡ Declares d = sym at ∙ is in
    let y : x ≡ d = cc in
    (omega arith, y, refl)
declared_more (Says raw ∷ ls) zero d l h at is =
    let z : Says raw ≡ Declares d = sym at ∙ is in
    absurd (cc)
declared_more (Declares x ∷ ls) (suc i) d l h at is =
    let r = declared_more ls i d l (omega (arith, h)) at is in
    let b = r.0 in
    (omega (arith, b), r.1, ap (λ l. x ∷ l) r.2)
declared_more (Says raw ∷ ls) (suc i) d l h at is = declared_more ls i d l (omega (arith, h)) at is

pub fault_among : (own : Signature) (used : List Signature) (text : List ℕ) (z : Seen) (ls : List Sentence) (i : ℕ) (l : Sentence) (e m : ModuleSigFault) → i < length ls → l ≡ get_or ls i l →
    All (IsLineTaken own used text z (declarations ls)) (declarations (take i ls)) → (e ≡ m) ⊎
    ((d : Declaration) × (l ≡ Declares d) × IsLineFault own used text z (declarations ls) d e) → (e ≡ m) ⊎ IsFaultAmong own used text z
    (declarations ls) e
fault_among own used text z ls i l e m h at before (inl is) = inl is
fault_among own used text z ls i l e m h at before (inr (d, is, why)) =
    let r = declared_more ls i d l h at is in
    inr (record { k = length (declarations (take i ls)); line = d; inside = r.0; at_line = r.1; why = why; before = subst (All (IsLineTaken own used text z (declarations ls))) (sym r.2) before })

-- a fault that may call an exported name declared otherwise
module _ (exports : List ℕ → Bool) (text : List ℕ) (f : SigFault) (o : Option Spot) (is : o ≡ differs_at f) where
  pub blamed_none : o ≡ None → wrong.Sig f ≡ blamed_by exports text f
  blamed_none e = ap (blamed_at exports text f) (sym e ∙ is)

  pub blamed_some : (s : Spot) → o ≡ Some s → (b : Bool) → b ≡ exports (spelled text s) → (if b then wrong.Exported s else wrong.Sig f) ≡ blamed_by exports text f
  blamed_some s e b same = ap (λ t. if t then wrong.Exported s else wrong.Sig f) same ∙ ap (blamed_at exports text f) (sym e ∙ is)

-- an abbreviation that the own signature has
pub abbreviation_found : (w : List ℕ) (es : List AbbreviationEntry) (r : Option (ℕ × TypeId)) → option_map (λ a. (a.0, a.1.0)) r ≡ found w
    (map abbreviation_row es) → is_some r ≡ is_among w (names_in (map abbreviation_said es))
abbreviation_found w es r e = some r ∙ ap is_some e ∙ found_among w (map abbreviation_row es) ∙ ap (is_among w) (rows es)
  where
    some : (r : Option (ℕ × TypeId)) → is_some r ≡ is_some {T = ℕ × ℕ} (option_map (λ a. (a.0, a.1.0)) r)
    some None = refl
    some (Some a) = refl

    rows : (es : List AbbreviationEntry) → names_in (map abbreviation_row es) ≡ names_in (map abbreviation_said es)
    rows [] = refl
    rows (e ∷ es) = ap (λ l. e.name.items ∷ l) (rows es)

pub constant_found : (w : List ℕ) (es : List ConstantEntry) (r : Option (Bor ConstantEntry)) → option_map (λ e. e.now) r ≡ find
    (λ e. bytes_eq w e.name.items) es → is_some r ≡ is_some (find (λ e. bytes_eq w e.name.items) es)
constant_found w es None e = ap is_some e
constant_found w es (Some x) e = ap is_some e

pub blamed_or : (exports : List ℕ → Bool) (text : List ℕ) (P : SigFault → Type 0) (f : SigFault) (e : ModuleSigFault) → e ≡ blamed_by exports text f →
    (f ≡ fault.Memory) ⊎ P f → (e ≡ wrong.Sig fault.Memory) ⊎ ((g : SigFault) × P g × (e ≡ blamed_by exports text g))
blamed_or exports text P f e is (inl m) = inl (is ∙ ap (blamed_by exports text) m)
blamed_or exports text P f e is (inr p) = inr (f, p, is)

-- a fault that is no want of memory has its reason
pub its_reason : (f : SigFault) (A : Type 0) → (f ≡ fault.Memory → ⊥) → (f ≡ fault.Memory) ⊎ A → A
its_reason f A no_memory (inl m) = absurd (no_memory m)
its_reason f A no_memory (inr a) = a
