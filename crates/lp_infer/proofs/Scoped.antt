-- A text that was read has its indices in scope, and the type variables of its annotations below a number.
use Rattle.std.proofs.Common.{◌≡◌, ℕ, suc, ◌+◌, ◌<◌, ◌≤◌, List, [], ◌∷◌, ◌++◌, map, length, refl, sym, ap, subst, Option, Some, None, Bool, true, false, arith}
use Rattle.std.specs.Prelude.{nat_eq, if◌then◌else◌}
use Rattle.std.proofs.lemmas.List.{length-map, length-append}
use Rattle.std.proofs.lemmas.Option.{same_Some}
use Rattle.lp_sig.proofs.Heads.{place_below}
use Rattle.lp_base.specs.declared.place.Spot.{Spot}
use Rattle.lp_calculus.specs.Types.{Ty, con, tys, instance}
use Rattle.lp_calculus.specs.Typing.{Scheme, type_at}
use Rattle.lp_type_laws.specs.Equations.{Below, AllBelow}
use Rattle.lp_syntax.specs.declared.text.RawNode.{RawNode}
use Rattle.lp_syntax.specs.declared.text.RawNode.TheVariants.{Name, Known, Number, Text, App, Abs}
use Rattle.lp_syntax.specs.declared.text.RawType.{RawType}
use Rattle.lp_syntax.specs.declared.text.RawTypeNode.{RawTypeNode}
use Rattle.lp_sig.specs.declared.signature.Signature.{Signature}
use Rattle.lp_sig.specs.Pieces.{spelled, begins_variable}
use Rattle.lp_sig.specs.Places.{first_place}
use Rattle.lp_sig.specs.Rows.{found, kind_row, number_row, abbreviation_row}
use Rattle.lp_sig.specs.Standard.{standard_kinds, standard_constants}
use Rattle.lp_standard.specs.Schemes.{standard_schemes, entry}
use Rattle.lp_term.specs.Nodes.{type_tree}
use Rattle.lp_infer.specs.Typing.{Raw, raw_index, raw_constant, raw_integer, raw_text}
use Rattle.lp_infer.specs.Texts.{Notes, is_blank, variable_index, string_bytes, constant_scheme, variable_type, abbreviated_type, kind_type, word_type, Means, word, function, AllMean, no_parts, more_parts, IsNoted, Read, read_constant, read_number, read_variable, read_free, read_bound, read_name, read_leaf, Reads, leaf, application, abstraction}
use Rattle.lp_infer.specs.Generate.{IsGivenBelow, IsScoped}
use Rattle.lp_infer.proofs.Principal.{Belows, at_below, instance_below}

-- the type variables of annotations have types with type variables below k
pub record NotesBelow (k : ℕ) (text : List ℕ) (κ : Notes) : Type 0 where
  pub named : (w : List ℕ) → Below k (κ.named w)
  pub blank : (s : Spot) → is_blank (spelled text s) ≡ true → Below k (κ.blank s.from)

tys_below : (k : ℕ) (Ts : List Ty) → Belows k Ts → AllBelow k (tys Ts)
tys_below k [] h = tt
tys_below k (T ∷ Ts) h = (h.0, tys_below k Ts h.1)

-- what is read, where it is read, is below k
abbrev IfBelow : ℕ → Option Ty → Type 0
IfBelow k o = (A : Ty) → o ≡ Some A → Below k A

none_below : (k : ℕ) → IfBelow k None
none_below k A e = absurd (cc)

some_below : (k : ℕ) (T : Ty) → Below k T → IfBelow k (Some T)
some_below k T h A e = subst (Below k) (same_Some T A e) h

if_below : (k : ℕ) (b : Bool) (x y : Option Ty) → (b ≡ true → IfBelow k x) → (b ≡ false → IfBelow k y) → IfBelow k (if b then x else y)
if_below k true x y f g = f refl
if_below k false x y f g = g refl

module _ (k : ℕ) (sig : Signature) (text : List ℕ) (κ : Notes) (N : NotesBelow k text κ) where
  abbreviated_below : (Ts : List Ty) → Belows k Ts → (o : Option (ℕ × ℕ)) → IfBelow k (abbreviated_type sig.bank Ts o)
  abbreviated_below Ts h None = none_below k
  abbreviated_below Ts h (Some a) =
      if_below k (nat_eq (length Ts) a.0) (Some (instance (type_at Ts) (type_tree sig.bank a.1))) None
      (λ e. some_below k (instance (type_at Ts) (type_tree sig.bank a.1)) (instance_below k (type_at Ts) (λ x. at_below k Ts x h) (type_tree sig.bank a.1))) (λ e. none_below k)

  kind_below : (w : List ℕ) (Ts : List Ty) → Belows k Ts → (o : Option (ℕ × ℕ)) → IfBelow k (kind_type sig w Ts o)
  kind_below w Ts h None = abbreviated_below Ts h (found w (map abbreviation_row sig.abbreviations.items))
  kind_below w Ts h (Some c) = if_below k (nat_eq (length Ts) c.1) (Some (con c.0 (tys Ts))) None (λ e. some_below k (con c.0 (tys Ts)) (tys_below k Ts h)) (λ e. none_below k)

  chosen_below : (s : Spot) (b : Bool) → is_blank (spelled text s) ≡ b → Below k (if b then κ.blank s.from else κ.named (spelled text s))
  chosen_below s true e = N.blank s e
  chosen_below s false e = N.named (spelled text s)

  variable_below : (s : Spot) (Ts : List Ty) → IfBelow k (variable_type text κ s Ts)
  variable_below s [] = some_below k (if is_blank (spelled text s) then κ.blank s.from else κ.named (spelled text s)) (chosen_below s (is_blank (spelled text s)) refl)
  variable_below s (T ∷ Ts) = none_below k

  word_below : (s : Spot) (Ts : List Ty) → Belows k Ts → IfBelow k (word_type sig text κ s Ts)
  word_below s Ts h =
      if_below k (begins_variable (spelled text s)) (variable_type text κ s Ts) (kind_type sig (spelled text s) Ts (found (spelled text s) (standard_kinds ++ map kind_row sig.kinds.items)))
      (λ e. variable_below s Ts) (λ e. kind_below (spelled text s) Ts h (found (spelled text s) (standard_kinds ++ map kind_row sig.kinds.items)))

  mutual
    pub means_below : {nodes : List RawTypeNode} {n : ℕ} {A : Ty} → Means sig text κ nodes n A → Below k A
    means_below (word n s parts Ts A at below all is) = word_below s Ts (all_mean_below all) A is
    means_below (function n a b A B at la lb ma mb) = (means_below ma, means_below mb)

    all_mean_below : {nodes : List RawTypeNode} {ns : List ℕ} {Ts : List Ty} → AllMean sig text κ nodes ns Ts → Belows k Ts
    all_mean_below no_parts = tt
    all_mean_below (more_parts n ns A Ts m all) = (means_below m, all_mean_below all)

  given_below : (o : Option Ty) (A : Ty) → o ≡ Some A → Below k A → IsGivenBelow k o
  given_below o A e h = subst (IsGivenBelow k) (sym e) h

  pub noted_below : (note : Option RawType) (given : Option Ty) → IsNoted sig text κ note given → IsGivenBelow k given
  noted_below None given e = subst (IsGivenBelow k) (sym e) tt
  noted_below (Some note) given h = given_below given h.0 h.1 (means_below h.2)

-- a text that is in scope, with the variables before and behind it
pub record IsGood (n k : ℕ) (R : Raw) (before after : List Spot) : Type 0 where
  pub scoped : IsScoped n k R
  pub grows : length before ≤ length after

abbrev IfGood : (n k count : ℕ) → List Spot → Read → Type 0
IfGood n k count before r = (R : Raw) (after : List Spot) → r ≡ Some (R, after) → length after ≤ count → IsGood n k R before after

none_good : (n k count : ℕ) (before : List Spot) → IfGood n k count before None
none_good n k count before R after e l = absurd (cc)

some_good : (n k count : ℕ) (before : List Spot) (R : Raw) (after : List Spot) → (length after ≤ count → IsGood n k R before after) → IfGood n k count before (Some (R, after))
some_good n k count before R after h Q last e l =
    let f : (R, after) ≡ (Q, last) = same_Some (R, after) (Q, last) e in
    let g : after ≡ last = ap (λ p. p.1) f in
    subst (λ p. IsGood n k p.0 before p.1) f (h (subst (λ ps. length ps ≤ count) (sym g) l))

if_good : (n k count : ℕ) (before : List Spot) (b : Bool) (x y : Read) → (b ≡ true → IfGood n k count before x) → (b ≡ false → IfGood n k count before y) → IfGood n k count before (if b then x else y)
if_good n k count before true x y f g = f refl
if_good n k count before false x y f g = g refl

module _ (k count : ℕ) (sig : Signature) (text : List ℕ) (scope : List (List ℕ)) where
  top : ℕ
  top = length scope + count

  variable_good : (s : Spot) (o : Option ℕ) (before : List Spot) → ((j : ℕ) → o ≡ Some j → j < length before) → IfGood (length scope + count) k count before (read_variable count scope s o before)
  variable_good s None before h =
      some_good (length scope + count) k count before (variable_index count scope (length before)) (before ++ s ∷ [])
      (λ l. let e : length (before ++ s ∷ []) ≡ length before + 1 = length-append before (s ∷ []) in record { scoped = omega (arith, e, l); grows = omega (arith, e) })
  variable_good s (Some j) before h =
      some_good (length scope + count) k count before (variable_index count scope j) before (λ l. let f = h j refl in record { scoped = omega (arith, f, l); grows = omega arith })

  constant_good : (c : ℕ) (o : Option Scheme) (before : List Spot) → IfGood (length scope + count) k count before (read_constant c o before)
  constant_good c None before = none_good (length scope + count) k count before
  constant_good c (Some s) before = some_good (length scope + count) k count before (raw_constant c s) before (λ l. record { scoped = tt; grows = omega arith })

  number_good : (w : List ℕ) (o : Option ℕ) (before : List Spot) → IfGood (length scope + count) k count before (read_number sig w o before)
  number_good w None before = none_good (length scope + count) k count before
  number_good w (Some c) before = constant_good c (constant_scheme sig w c) before

  first_among : (w : List ℕ) (before : List Spot) (j : ℕ) → first_place w (map (spelled text) before) ≡ Some j → j < length before
  first_among w before j e = let f = place_below w (map (spelled text) before) j e in let g = length-map before (spelled text) in omega (arith, f, g)

  free_good : (s : Spot) (before : List Spot) → IfGood (length scope + count) k count before (read_free sig text count scope s before)
  free_good s before =
      if_good (length scope + count) k count before (begins_variable (spelled text s)) (read_variable count scope s (first_place (spelled text s) (map (spelled text) before)) before)
      (read_number sig (spelled text s) (found (spelled text s) (standard_constants ++ map number_row sig.constants.items)) before)
      (λ e. variable_good s (first_place (spelled text s) (map (spelled text) before)) before (first_among (spelled text s) before))
      (λ e. number_good (spelled text s) (found (spelled text s) (standard_constants ++ map number_row sig.constants.items)) before)

  bound_good : (s : Spot) (o : Option ℕ) (before : List Spot) → ((i : ℕ) → o ≡ Some i → i < length scope) → IfGood (length scope + count) k count before (read_bound sig text count scope s o before)
  bound_good s None before h = free_good s before
  bound_good s (Some i) before h =
      some_good (length scope + count) k count before (raw_index i) before (λ l. let f = h i refl in record { scoped = omega (arith, f); grows = omega arith })

  name_good : (s : Spot) (before : List Spot) → IfGood (length scope + count) k count before (read_name sig text count scope s before)
  name_good s before =
      if_good (length scope + count) k count before (is_blank (spelled text s)) (read_variable count scope s None before) (read_bound sig text count scope s (first_place (spelled text s) scope) before)
      (λ e. variable_good s None before (λ j f. absurd (cc))) (λ e. bound_good s (first_place (spelled text s) scope) before (place_below (spelled text s) scope))

  pub leaf_good : (node : RawNode) (before : List Spot) → IfGood (length scope + count) k count before (read_leaf sig text count scope node before)
  leaf_good (Name s) before = name_good s before
  leaf_good (Known c s) before = constant_good c (entry standard_schemes c) before
  leaf_good (Number z s) before = some_good (length scope + count) k count before (raw_integer z) before (λ l. record { scoped = tt; grows = omega arith })
  leaf_good (Text s) before = some_good (length scope + count) k count before (raw_text (string_bytes (spelled text s))) before (λ l. record { scoped = tt; grows = omega arith })
  leaf_good (App f x) before = none_good (length scope + count) k count before
  leaf_good (Abs s written b) before = none_good (length scope + count) k count before

module _ (k count : ℕ) (sig : Signature) (text : List ℕ) (nodes : List RawNode) (κ : Notes) (N : NotesBelow k text κ) where
  pub grows : {scope : List (List ℕ)} {before after : List Spot} {n : ℕ} {R : Raw} → Reads sig text nodes κ count scope before n R after → length after ≤ count → length before ≤ length after
  grows (leaf scope before n node R after at is) l = (leaf_good k count sig text scope node before R after is l).grows
  grows (application scope before n f x F X middle after at lf lx rf rx) l =
      let e = grows rx l in
      let d = grows rf (omega (arith, e, l)) in
      omega (arith, d, e)
  grows (abstraction scope before n s written b given R after at lb noted r) l = grows r l

  pub is_scoped : {scope : List (List ℕ)} {before after : List Spot} {n : ℕ} {R : Raw} → Reads sig text nodes κ count scope before n R after → length after ≤ count → IsScoped (length scope + count) k R
  is_scoped (leaf scope before n node R after at is) l = (leaf_good k count sig text scope node before R after is l).scoped
  is_scoped (application scope before n f x F X middle after at lf lx rf rx) l =
      let e = grows rx l in
      (is_scoped rf (omega (arith, e, l)), is_scoped rx l)
  is_scoped (abstraction scope before n s written b given R after at lb noted r) l =
      let e : suc (length scope) + count ≡ suc (length scope + count) = omega arith in
      (noted_below k sig text κ N written given noted, subst (λ m. IsScoped m k R) e (is_scoped r l))
