-- Where the kinds, the types of constants and the bodies of abbreviations of a signature are known, a text has with each typing also that in which the other kinds are
-- sealed; so its principal typing holds none of these, and its constants are those of the language and of the signature.
use Rattle.std.proofs.Common.{◌≡◌, ℕ, ℤ, suc, ◌≤◌, List, [], ◌∷◌, ◌++◌, map, length, Option, Some, None, Bool, true, false, refl, sym, ap, ◌∙◌, subst, inl, inr, arith}
use Rattle.std.specs.Prelude.{if◌then◌else◌, ◌⊎◌, ◌&&◌, nat_eq, nat_lt, option_map, find, Contains}
use Rattle.std.specs.Str.{bytes_eq}
use Rattle.std.proofs.lemmas.Bool.{eqb-true, ltb-true, ltb-false}
use Rattle.std.proofs.lemmas.List.{length-map}
use Rattle.std.proofs.lemmas.Option.{same_Some}
use Rattle.lp_lemmas.specs.Each.{EachOf}
use Rattle.lp_lemmas.proofs.Booleans.{and_true_left, and_true_right}
use Rattle.lp_lemmas.proofs.Elements.{Contains_head, Contains_tail}
use Rattle.lp_base.specs.declared.place.Spot.{Spot}
use Rattle.lp_calculus.specs.Types.{Ty, con, types, tys, instance}
use Rattle.lp_calculus.specs.Typing.{Scheme, o_type, type_at}
use Rattle.lp_standard.specs.Schemes.{standard_schemes, entry}
use Rattle.lp_syntax.specs.declared.text.RawNode.{RawNode}
use Rattle.lp_syntax.specs.declared.text.RawNode.TheVariants.{Name, Known, Number, Text, App, Abs}
use Rattle.lp_syntax.specs.declared.text.RawTerm.{RawTerm}
use Rattle.lp_syntax.specs.declared.text.RawType.{RawType}
use Rattle.lp_syntax.specs.declared.text.RawTypeNode.{RawTypeNode}
use Rattle.lp_term.specs.Nodes.{type_tree}
use Rattle.lp_sig.specs.Pieces.{spelled, begins_variable}
use Rattle.lp_sig.specs.Places.{first_place}
use Rattle.lp_sig.specs.Rows.{Row, found, abbreviation_row, kind_row, number_row}
use Rattle.lp_sig.specs.Standard.{standard_constants, standard_kinds}
use Rattle.lp_sig.specs.declared.entries.ConstantEntry.{ConstantEntry}
use Rattle.lp_sig.specs.declared.signature.Signature.{Signature}
use Rattle.lp_infer.specs.Texts.{Notes, is_blank, variable_type, abbreviated_type, kind_type, word_type, Means, word, function, AllMean, no_parts, more_parts, IsNoted, variable_index, string_bytes, entry_scheme, Read, read_constant, read_number, read_variable, read_free, read_bound, read_name, read_leaf, Reads, leaf, application, abstraction, IsTextTyping, IsPrincipalTyping}
use Rattle.lp_infer.specs.Typing.{Raw, raw_index, raw_constant, raw_integer, raw_text, raw_abs, raw_app, Typing}
use Rattle.lp_build.proofs.Sealed.{Test, Fits, RawFits, TermFits, count, formula_sealed, language_fits, sealed, all_sealed, sealed_raw, sealed_scheme, sealed_typing, typing_fits}

-- constants of texts

-- a constant with its declared type: one of the language, or one of the signature
abbrev pub IsConstantOf : Signature → ℕ → Scheme → Type 0
IsConstantOf sig c s = (entry standard_schemes c ≡ Some s) ⊎ ((e : ConstantEntry) × Contains sig.constants.items e × (e.number ≡ c) × (entry_scheme sig.bank e ≡ s))

abbrev are_low : List (Row ℕ) → Bool
are_low [] = true
are_low (r ∷ rs) = nat_lt r.1 32 && are_low rs

is_found : (w : List ℕ) (es : List ConstantEntry) (e : ConstantEntry) → find (λ x. bytes_eq w x.name.items) es ≡ Some e → Contains es e
is_found w [] e h = absurd (cc)
is_found w (x ∷ xs) e h = by (bytes_eq w x.name.items) (is_found w xs e) h
  where
    by : (t : Bool) → (find (λ x. bytes_eq w x.name.items) xs ≡ Some e → Contains xs e) → (if t then Some x else find (λ x. bytes_eq w x.name.items) xs) ≡ Some e → Contains (x ∷ xs) e
    by true k h = subst (λ y. Contains (x ∷ xs) y) (same_Some x e h) (Contains_head x xs)
    by false k h = Contains_tail x e xs (k h)

same_number : (w : List ℕ) (es : List ConstantEntry) (e : ConstantEntry) (c : ℕ) → found w (map number_row es) ≡ Some c → find (λ x. bytes_eq w x.name.items) es ≡ Some e → e.number ≡ c
same_number w [] e c f h = absurd (cc)
same_number w (x ∷ xs) e c f h = by (bytes_eq w x.name.items) (same_number w xs e c) f h
  where
    by : (t : Bool) → (found w (map number_row xs) ≡ Some c → find (λ x. bytes_eq w x.name.items) xs ≡ Some e → e.number ≡ c) →
        (if t then Some x.number else found w (map number_row xs)) ≡ Some c → (if t then Some x else find (λ x. bytes_eq w x.name.items) xs) ≡ Some e → e.number ≡ c
    by true k f h = ap (λ y. y.number) (sym (same_Some x e h)) ∙ same_Some x.number c f
    by false k f h = k f h

behind_low : (w : List ℕ) (rows : List (Row ℕ)) (es : List ConstantEntry) (e : ConstantEntry) (c : ℕ) → are_low rows ≡ true → 32 ≤ c → found w (rows ++ map number_row es) ≡ Some c →
    find (λ x. bytes_eq w x.name.items) es ≡ Some e → e.number ≡ c
behind_low w [] es e c low l f h = same_number w es e c f h
behind_low w (r ∷ rs) es e c low l f h = by (bytes_eq w r.0) (λ k. behind_low w rs es e c (and_true_right (nat_lt r.1 32) (are_low rs) low) l k h) f
  where
    by : (t : Bool) → (found w (rs ++ map number_row es) ≡ Some c → e.number ≡ c) → (if t then Some r.1 else found w (rs ++ map number_row es)) ≡ Some c → e.number ≡ c
    by true k g = let small = ltb-true r.1 32 (and_true_left (nat_lt r.1 32) (are_low rs) low) in let same = same_Some r.1 c g in absurd (omega (arith, small, same, l))
    by false k g = k g

-- what holds of the leaves of a text holds of all that is read
module _ (sig : Signature) (Q : Raw → Type 0) (of_index : (i : ℕ) → Q (raw_index i)) (of_integer : (z : ℤ) → Q (raw_integer z)) (of_text : (s : List ℕ) → Q (raw_text s))
    (of_constant : (c : ℕ) (s : Scheme) → IsConstantOf sig c s → Q (raw_constant c s)) where
  abbrev IfLeaf : Read → Type 0
  IfLeaf r = (R : Raw) (after : List Spot) → r ≡ Some (R, after) → Q R

  none_leaf : IfLeaf None
  none_leaf R after e = absurd (cc)

  some_leaf : (R : Raw) (after : List Spot) → Q R → IfLeaf (Some (R, after))
  some_leaf R after h S last e = subst Q (ap (λ p. p.0) (same_Some (R, after) (S, last) e)) h

  if_leaf : (b : Bool) (x y : Read) → IfLeaf x → IfLeaf y → IfLeaf (if b then x else y)
  if_leaf true x y h k = h
  if_leaf false x y h k = k

  scheme_leaf : (c : ℕ) (o : Option Scheme) (before : List Spot) → ((s : Scheme) → o ≡ Some s → IsConstantOf sig c s) → IfLeaf (read_constant c o before)
  scheme_leaf c None before h = none_leaf
  scheme_leaf c (Some s) before h = some_leaf (raw_constant c s) before (of_constant c s (h s refl))

  low_leaf : (c : ℕ) (before : List Spot) → IfLeaf (read_constant c (entry standard_schemes c) before)
  low_leaf c before = scheme_leaf c (entry standard_schemes c) before (λ s e. inl e)

  entry_leaf : (w : List ℕ) (c : ℕ) → 32 ≤ c → found w (standard_constants ++ map number_row sig.constants.items) ≡ Some c → (o : Option ConstantEntry) →
      find (λ x. bytes_eq w x.name.items) sig.constants.items ≡ o → (s : Scheme) → option_map (entry_scheme sig.bank) o ≡ Some s → IsConstantOf sig c s
  entry_leaf w c l f None h s e = absurd (cc)
  entry_leaf w c l f (Some x) h s e = inr (x, is_found w sig.constants.items x h, behind_low w standard_constants sig.constants.items x c refl l f h, same_Some (entry_scheme sig.bank x) s e)

  number_leaf : (w : List ℕ) (o : Option ℕ) → found w (standard_constants ++ map number_row sig.constants.items) ≡ o → (before : List Spot) → IfLeaf (read_number sig w o before)
  number_leaf w None f before = none_leaf
  number_leaf w (Some c) f before = by (nat_lt c 32) refl
    where
      by : (t : Bool) → nat_lt c 32 ≡ t → IfLeaf
          (read_constant c (if t then entry standard_schemes c else option_map (entry_scheme sig.bank) (find (λ x. bytes_eq w x.name.items) sig.constants.items)) before)
      by true e = low_leaf c before
      by false e =
          scheme_leaf c (option_map (entry_scheme sig.bank) (find (λ x. bytes_eq w x.name.items) sig.constants.items)) before
          (entry_leaf w c (ltb-false c 32 e) f (find (λ x. bytes_eq w x.name.items) sig.constants.items) refl)

  module _ (text : List ℕ) (total : ℕ) (scope : List (List ℕ)) where
    variable_leaf : (s : Spot) (o : Option ℕ) (before : List Spot) → IfLeaf (read_variable total scope s o before)
    variable_leaf s None before = some_leaf (variable_index total scope (length before)) (before ++ s ∷ []) (of_index _)
    variable_leaf s (Some j) before = some_leaf (variable_index total scope j) before (of_index _)

    free_leaf : (s : Spot) (before : List Spot) → IfLeaf (read_free sig text total scope s before)
    free_leaf s before =
        if_leaf (begins_variable (spelled text s)) (read_variable total scope s (first_place (spelled text s) (map (spelled text) before)) before)
        (read_number sig (spelled text s) (found (spelled text s) (standard_constants ++ map number_row sig.constants.items)) before)
        (variable_leaf s (first_place (spelled text s) (map (spelled text) before)) before)
        (number_leaf (spelled text s) (found (spelled text s) (standard_constants ++ map number_row sig.constants.items)) refl before)

    bound_leaf : (s : Spot) (o : Option ℕ) (before : List Spot) → IfLeaf (read_bound sig text total scope s o before)
    bound_leaf s None before = free_leaf s before
    bound_leaf s (Some i) before = some_leaf (raw_index i) before (of_index i)

    name_leaf : (s : Spot) (before : List Spot) → IfLeaf (read_name sig text total scope s before)
    name_leaf s before =
        if_leaf (is_blank (spelled text s)) (read_variable total scope s None before) (read_bound sig text total scope s (first_place (spelled text s) scope) before)
        (variable_leaf s None before) (bound_leaf s (first_place (spelled text s) scope) before)

    pub leaf_is : (node : RawNode) (before : List Spot) → IfLeaf (read_leaf sig text total scope node before)
    leaf_is (Name s) before = name_leaf s before
    leaf_is (Known c s) before = low_leaf c before
    leaf_is (Number z s) before = some_leaf (raw_integer z) before (of_integer z)
    leaf_is (Text s) before = some_leaf (raw_text (string_bytes (spelled text s))) before (of_text _)
    leaf_is (App f x) before = none_leaf
    leaf_is (Abs s written b) before = none_leaf

-- what holds of all constants of a text
abbrev pub EachConstant : (ℕ → Scheme → Type 0) → Raw → Type 0
EachConstant P (raw_index i) = Unit {0}
EachConstant P (raw_constant c s) = P c s
EachConstant P (raw_integer z) = Unit {0}
EachConstant P (raw_text t) = Unit {0}
EachConstant P (raw_abs given b) = EachConstant P b
EachConstant P (raw_app f u) = EachConstant P f × EachConstant P u

pub constants_are : (sig : Signature) (P : ℕ → Scheme → Type 0) → ((c : ℕ) (s : Scheme) → IsConstantOf sig c s → P c s) → (text : List ℕ) (nodes : List RawNode) (κ : Notes) (total : ℕ) {scope : List (List ℕ)}
    {before after : List Spot} {n : ℕ} {R : Raw} → Reads sig text nodes κ total scope before n R after → EachConstant P R
constants_are sig P h text nodes κ total (leaf scope before n node R after at is) = leaf_is sig (EachConstant P) (λ i. tt) (λ z. tt) (λ s. tt) h text total scope node before R after is
constants_are sig P h text nodes κ total (application scope before n f x F X middle after at lf lx rf rx) = (constants_are sig P h text nodes κ total rf, constants_are sig P h text nodes κ total rx)
constants_are sig P h text nodes κ total (abstraction scope before n s written b given R after at lb noted r) = constants_are sig P h text nodes κ total r

-- sealed texts

abbrev sealed_notes : Test → Notes → Notes
sealed_notes k κ = record { named = λ w. sealed k (κ.named w); blank = λ n. sealed k (κ.blank n) }

module _ (k : Test) where
  count_tys : (Ts : List Ty) → count (tys Ts) ≡ length Ts
  count_tys [] = refl
  count_tys (T ∷ Ts) = ap (λ n. suc n) (count_tys Ts)

  sealed_tys : (Ts : List Ty) → all_sealed k (tys Ts) ≡ tys (map (sealed k) Ts)
  sealed_tys [] = refl
  sealed_tys (T ∷ Ts) = ap (types (sealed k T)) (sealed_tys Ts)

  -- a signature whose kinds and bodies are known
  module _ (sig : Signature) (kinds : (w : List ℕ) (r : ℕ × ℕ) → found w (standard_kinds ++ map kind_row sig.kinds.items) ≡ Some r → k.known r.0 r.1 ≡ true)
      (bodies : (w : List ℕ) (a : ℕ × ℕ) → found w (map abbreviation_row sig.abbreviations.items) ≡ Some a → Fits k (type_tree sig.bank a.1)) (text : List ℕ) (κ : Notes) where
    variable_sealed : (s : Spot) (Ts : List Ty) (A : Ty) → variable_type text κ s Ts ≡ Some A → variable_type text (sealed_notes k κ) s (map (sealed k) Ts) ≡ Some (sealed k A)
    variable_sealed s [] A e = ap (λ T. Some T) (by (is_blank (spelled text s))) ∙ ap (option_map (sealed k)) e
      where
        by : (b : Bool) → (if b then sealed k (κ.blank s.from) else sealed k (κ.named (spelled text s))) ≡ sealed k (if b then κ.blank s.from else κ.named (spelled text s))
        by true = refl
        by false = refl
    variable_sealed s (T ∷ Ts) A e = absurd (cc)

    body_sealed : (Ts : List Ty) (a : ℕ × ℕ) (A : Ty) → Fits k (type_tree sig.bank a.1) → (b : Bool) → nat_eq (length Ts) a.0 ≡ b → (if b then Some (instance (type_at Ts) (type_tree sig.bank a.1)) else None) ≡ Some A →
        (if nat_eq (length (map (sealed k) Ts)) a.0 then Some (instance (type_at (map (sealed k) Ts)) (type_tree sig.bank a.1)) else None) ≡ Some (sealed k A)
    body_sealed Ts a A fits true same e =
        ap (λ n. if nat_eq n a.0 then Some (instance (type_at (map (sealed k) Ts)) (type_tree sig.bank a.1)) else None) (length-map Ts (sealed k)) ∙
        ap (λ b. if b then Some (instance (type_at (map (sealed k) Ts)) (type_tree sig.bank a.1)) else None) same ∙
        ap (λ T. Some T) (sym (sealed_scheme k Ts (type_tree sig.bank a.1) fits)) ∙ ap (option_map (sealed k)) e
    body_sealed Ts a A fits false same e = absurd (cc)

    abbreviation_sealed : (w : List ℕ) (Ts : List Ty) (o : Option (ℕ × ℕ)) (A : Ty) → found w (map abbreviation_row sig.abbreviations.items) ≡ o → abbreviated_type sig.bank Ts o ≡ Some A →
        abbreviated_type sig.bank (map (sealed k) Ts) o ≡ Some (sealed k A)
    abbreviation_sealed w Ts None A f e = absurd (cc)
    abbreviation_sealed w Ts (Some a) A f e = body_sealed Ts a A (bodies w a f) (nat_eq (length Ts) a.0) refl e

    constructor_sealed : (Ts : List Ty) (r : ℕ × ℕ) (A : Ty) → k.known r.0 r.1 ≡ true → (b : Bool) → nat_eq (length Ts) r.1 ≡ b → (if b then Some (con r.0 (tys Ts)) else None) ≡ Some A →
        (if nat_eq (length (map (sealed k) Ts)) r.1 then Some (con r.0 (tys (map (sealed k) Ts))) else None) ≡ Some (sealed k A)
    constructor_sealed Ts r A known true same e =
        let many : count (tys Ts) ≡ r.1 = count_tys Ts ∙ eqb-true (length Ts) r.1 same in
        let passes : k.known r.0 (count (tys Ts)) ≡ true = ap (k.known r.0) many ∙ known in
        let sealed_one : sealed k (con r.0 (tys Ts)) ≡ con r.0 (tys (map (sealed k) Ts)) = ap (λ b. if b then con r.0 (all_sealed k (tys Ts)) else o_type) passes ∙ ap (con r.0) (sealed_tys Ts) in
        ap (λ n. if nat_eq n r.1 then Some (con r.0 (tys (map (sealed k) Ts))) else None) (length-map Ts (sealed k)) ∙
        ap (λ b. if b then Some (con r.0 (tys (map (sealed k) Ts))) else None) same ∙ ap (λ T. Some T) (sym sealed_one) ∙ ap (option_map (sealed k)) e
    constructor_sealed Ts r A known false same e = absurd (cc)

    kind_sealed : (w : List ℕ) (Ts : List Ty) (o : Option (ℕ × ℕ)) (A : Ty) → found w (standard_kinds ++ map kind_row sig.kinds.items) ≡ o → kind_type sig w Ts o ≡ Some A → kind_type sig w (map (sealed k) Ts) o ≡ Some (sealed k A)
    kind_sealed w Ts None A f e = abbreviation_sealed w Ts (found w (map abbreviation_row sig.abbreviations.items)) A refl e
    kind_sealed w Ts (Some r) A f e = constructor_sealed Ts r A (kinds w r f) (nat_eq (length Ts) r.1) refl e

    word_sealed : (s : Spot) (Ts : List Ty) (A : Ty) → word_type sig text κ s Ts ≡ Some A → word_type sig text (sealed_notes k κ) s (map (sealed k) Ts) ≡ Some (sealed k A)
    word_sealed s Ts A e = by (begins_variable (spelled text s)) e
      where
        by : (b : Bool) → (if b then variable_type text κ s Ts else kind_type sig (spelled text s) Ts (found (spelled text s) (standard_kinds ++ map kind_row sig.kinds.items))) ≡ Some A →
            (if b then variable_type text (sealed_notes k κ) s (map (sealed k) Ts) else
            kind_type sig (spelled text s) (map (sealed k) Ts) (found (spelled text s) (standard_kinds ++ map kind_row sig.kinds.items))) ≡ Some (sealed k A)
        by true e = variable_sealed s Ts A e
        by false e = kind_sealed (spelled text s) Ts (found (spelled text s) (standard_kinds ++ map kind_row sig.kinds.items)) A refl e

    mutual
      means_sealed : {nodes : List RawTypeNode} {n : ℕ} {A : Ty} → Means sig text κ nodes n A → Means sig text (sealed_notes k κ) nodes n (sealed k A)
      means_sealed (word n s parts Ts A at older all is) = word n s parts (map (sealed k) Ts) (sealed k A) at older (all_means_sealed all) (word_sealed s Ts A is)
      means_sealed (function n a b A B at la lb l r) = function n a b (sealed k A) (sealed k B) at la lb (means_sealed l) (means_sealed r)

      all_means_sealed : {nodes : List RawTypeNode} {ns : List ℕ} {Ts : List Ty} → AllMean sig text κ nodes ns Ts → AllMean sig text (sealed_notes k κ) nodes ns (map (sealed k) Ts)
      all_means_sealed no_parts = no_parts
      all_means_sealed (more_parts n ns A Ts one more) = more_parts n ns (sealed k A) (map (sealed k) Ts) (means_sealed one) (all_means_sealed more)

    noted_sealed : (note : Option RawType) (given : Option Ty) → IsNoted sig text κ note given → IsNoted sig text (sealed_notes k κ) note (option_map (sealed k) given)
    noted_sealed None given e = ap (option_map (sealed k)) e
    noted_sealed (Some note) given (A, e, m) = (sealed k A, ap (option_map (sealed k)) e, means_sealed m)

    same_leaf : (c : ℕ) (s : Scheme) → IsConstantOf sig c s → sealed_raw k (raw_constant c s) ≡ raw_constant c s
    same_leaf c s h = refl

    pub reads_sealed : {nodes : List RawNode} {total : ℕ} {scope : List (List ℕ)} {before after : List Spot} {n : ℕ} {R : Raw} → Reads sig text nodes κ total scope before n R after →
        Reads sig text nodes (sealed_notes k κ) total scope before n (sealed_raw k R) after
    reads_sealed {total = total} (leaf scope before n node R after at is) =
        let same : sealed_raw k R ≡ R = leaf_is sig (λ R. sealed_raw k R ≡ R) (λ i. refl) (λ z. refl) (λ s. refl) same_leaf text total scope node before R after is in
        leaf scope before n node (sealed_raw k R) after at (subst (λ S. read_leaf sig text total scope node before ≡ Some (S, after)) (sym same) is)
    reads_sealed (application scope before n f x F X middle after at lf lx rf rx) =
        application scope before n f x (sealed_raw k F) (sealed_raw k X) middle after at lf lx (reads_sealed rf) (reads_sealed rx)
    reads_sealed (abstraction scope before n s written b given R after at lb noted r) =
        abstraction scope before n s written b (option_map (sealed k) given) (sealed_raw k R) after at lb (noted_sealed written given noted) (reads_sealed r)

  raw_fits : (R : Raw) → EachConstant (λ c s. Fits k s.body) R → RawFits k R
  raw_fits (raw_index i) h = tt
  raw_fits (raw_constant c s) h = h
  raw_fits (raw_integer z) h = tt
  raw_fits (raw_text s) h = tt
  raw_fits (raw_abs given b) h = raw_fits b h
  raw_fits (raw_app f u) (h, l) = (raw_fits f h, raw_fits u l)

  -- the principal typing of a text
  module _ (sig : Signature) (kinds : (w : List ℕ) (r : ℕ × ℕ) → found w (standard_kinds ++ map kind_row sig.kinds.items) ≡ Some r → k.known r.0 r.1 ≡ true)
      (bodies : (w : List ℕ) (a : ℕ × ℕ) → found w (map abbreviation_row sig.abbreviations.items) ≡ Some a → Fits k (type_tree sig.bank a.1))
      (schemes : (e : ConstantEntry) → Contains sig.constants.items e → Fits k (type_tree sig.bank e.scheme.0)) where
    constant_fits : (c : ℕ) (s : Scheme) → IsConstantOf sig c s → Fits k s.body
    constant_fits c s (inl e) = language_fits k c s e
    constant_fits c s (inr (e, there, n, is)) = subst (λ s. Fits k s.body) is (schemes e there)

    pub principal_fits : (text : List ℕ) (raw : RawTerm) (places : List Spot) (T : Typing) → IsPrincipalTyping sig text raw places T → EachOf (Fits k) T.free × TermFits k T.formula
    principal_fits text raw places T p =
        let t = p.typing in
        let constants = constants_are sig (λ c s. Fits k s.body) constant_fits text raw.nodes.items t.notes (length places) t.reads in
        let other : IsTextTyping sig text raw places (sealed_typing k T) = record {
          notes = sealed_notes k t.notes;
          looked_up = sealed_raw k t.looked_up;
          reads = reads_sealed sig kinds bodies text t.notes t.reads;
          many = length-map T.free (sealed k) ∙ t.many;
          elaborates = formula_sealed k T.free t.looked_up T.formula (raw_fits t.looked_up constants) t.elaborates;
        } in
        let (same, (θ, e)) = p.first places (sealed_typing k T) other in
        typing_fits k θ T e
