-- Each kind in the type of a constant that a module sees has a name.
use Rattle.std.proofs.Common.{◌≡◌, ◌⊎◌, inl, inr, ℕ, suc, List, [], ◌∷◌, ◌++◌, map, get_or, Bool, true, false, Some, None, refl, sym, ap, subst, ◌∙◌, arith, cond, append-nil, true≢false}
use Rattle.std.specs.Prelude.{All, Contains, slice_get, is_some}
use Rattle.std.specs.Str.{bytes_eq}
use Rattle.std.proofs.lemmas.List.{map-append}
use Rattle.std.proofs.lemmas.List.Elements.{All-contains, All-head, All-tail, All-append, All-map, All-nil, Contains-append_cases}
use Rattle.std.proofs.lemmas.Option.{same_Some, slice_get_within, slice_get-get_or}
use Rattle.lp_base.specs.declared.place.Spot.{Spot}
use Rattle.lp_lemmas.proofs.Lists.{get_map, get_from_map}
use Rattle.lp_calculus.specs.Types.{Ty}
use Rattle.lp_syntax.specs.declared.text.Declaration.{Declaration}
use Rattle.lp_syntax.specs.declared.text.Declaration.TheVariants.{Kinds, LocalKinds, Constants as OfType, Locals, Abbreviation, Accumulate, AccumSig, Fixities}
use Rattle.lp_syntax.specs.declared.text.Sentence.{Sentence}
use Rattle.lp_sig.specs.Abbreviations.{one_text}
use Rattle.lp_sig.specs.AsWritten.{typed_by, typed_in, bodies_of, HasWholeBodies, HasWholeTypes, as_trees, HasScheme, standard_scheme, declared_scheme, HasWrittenType, DeclaresAsWritten, AreReady, DeclaresTypes}
use Rattle.lp_sig.specs.Constants.{Written, written_in, IsSchemeOf}
use Rattle.lp_sig.specs.Modules.{declarations, of_each, said_in_module, constants_of, constant_names_by, constant_names_in, constant_names, first_names, HasSeen}
use Rattle.lp_sig.specs.Named.{named, kind_name, kind_names, named_in, IsWhole, HasNamed, standard_one, declared_one, SeesAlike, IsOrdered, SeesTheirs}
use Rattle.lp_sig.specs.Pieces.{spelled}
use Rattle.lp_sig.specs.Rows.{Row, found}
use Rattle.lp_sig.specs.Said.{each, names_in, kinds_among, declared_names}
use Rattle.lp_sig.specs.Sighted.{said_kinds}
use Rattle.lp_sig.specs.Standard.{standard_constants}
use Rattle.lp_sig.specs.Types.{as_tree, definitions_in}
use Rattle.lp_sig.specs.declared.entries.ConstantEntry.{ConstantEntry}
use Rattle.lp_sig.specs.declared.signature.Signature.{Signature}
use Rattle.lp_sig.proofs.Agreeing.{texts_have_no_tree}
use Rattle.lp_sig.proofs.Firsts.{found_among}
use Rattle.lp_sig.proofs.OrderedSignatures.{kind_names_are, AreTreesKnown, type_known, numbered_whole, whole_known}
use Rattle.lp_sig.proofs.OwnNames.{names_numbered, rows_names}
use Rattle.lp_sig.proofs.Sights.{new_name, place_first, first_among}

-- members and places
at_place : {A : Type 0} (xs : List A) (x : A) → Contains xs x → (i : ℕ) × (slice_get xs i ≡ Some x)
at_place xs x (i, l, e) = (i, slice_get-get_or xs i x l ∙ ap (λ y. Some y) e)

from_place : {A : Type 0} (xs : List A) (i : ℕ) (x : A) → slice_get xs i ≡ Some x → Contains xs x
from_place xs i x e =
    let l = slice_get_within xs i x e in
    (i, l, same_Some (get_or xs i x) x (sym (slice_get-get_or xs i x l) ∙ e))

from_map : {A B : Type 0} (f : A → B) (xs : List A) (y : B) → Contains (map f xs) y → (x : A) × Contains xs x × (y ≡ f x)
from_map f xs y c =
    let (i, e) = at_place (map f xs) y c in
    let (x, at, is) = get_from_map f xs i y e in
    (x, from_place xs i x at, is)

from_each : {A : Type 0} (f : Signature → List A) (used : List Signature) (x : A) → Contains (of_each f used) x → (i : ℕ) × (u : Signature) × (slice_get used i ≡ Some u) × Contains (f u) x
from_each f [] x (i, l, e) = absurd (omega (arith, l))
from_each {A} f (u ∷ us) x c = by (λ h. from_each f us x h) (Contains-append_cases (f u) (of_each f us) x c)
  where
    by : (Contains (of_each f us) x → (i : ℕ) × (v : Signature) × (slice_get us i ≡ Some v) × Contains (f v) x) → Contains (f u) x ⊎ Contains (of_each f us) x →
        (i : ℕ) × (v : Signature) × (slice_get (u ∷ us) i ≡ Some v) × Contains (f v) x
    by later (inl h) = (0, u, refl, h)
    by later (inr h) = let (i, v, at, there) = later h in (suc i, v, at, there)

found_of : {A : Type 0} (P : A → Type 0) (rows : List (Row A)) → All (λ r. P r.1) rows → (name : List ℕ) (a : A) → found name rows ≡ Some a → P a
found_of P [] all name a e = absurd (cc)
found_of {A} P (r ∷ rs) all name a e = by (λ f. found_of P rs (All-tail (λ r. P r.1) r rs all) name a f) (bytes_eq name r.0) e
  where
    by : (found name rs ≡ Some a → P a) → (t : Bool) → cond t (Some r.1) (found name rs) ≡ Some a → P a
    by later true f = subst P (same_Some r.1 a f) (All-head (λ r. P r.1) r rs all)
    by later false f = later f

-- the constants of a text, with their types and without
each_names : {A : Type 0} (text : List ℕ) (a : A) (names : List Spot) → names_in (each text a names) ≡ map (λ s. spelled text s) names
each_names text a [] = refl
each_names text a (s ∷ ss) = ap (λ l. spelled text s ∷ l) (each_names text a ss)

names_by : (text : List ℕ) (d : Declaration) → names_in (typed_by text d) ≡ constant_names_by text d
names_by text (Kinds names n) = refl
names_by text (LocalKinds names n) = refl
names_by text (OfType names ty) = each_names text (written_in text ty) names.items
names_by text (Locals names None) = refl
names_by text (Locals names (Some ty)) = each_names text (written_in text ty) names.items
names_by text (Abbreviation name ps ty) = refl
names_by text (Accumulate words) = refl
names_by text (AccumSig words) = refl
names_by text (Fixities names f n) = refl

names_of_text : (text : List ℕ) (ds : List Declaration) → names_in (typed_in text ds) ≡ constant_names_in text ds
names_of_text text [] = refl
names_of_text text (d ∷ ds) = map-append (λ r. r.0) (typed_by text d) (typed_in text ds) ∙ (λ i. names_by text d i ++ names_of_text text ds i)

-- bodies that signatures give are whole
given_whole : (s : Signature) → HasWholeBodies s → All (λ r. IsWhole r.1) (bodies_of s)
given_whole s h = All-map (λ r. IsWhole r.1) (λ e. (e.name.items, named_in s e.body)) s.abbreviations.items h

all_given_whole : (used : List Signature) → All HasWholeBodies used → All (λ r. IsWhole r.1) (of_each bodies_of used)
all_given_whole [] h = All-nil (λ r. IsWhole r.1)
all_given_whole (u ∷ us) h = All-append (λ r. IsWhole r.1) (bodies_of u) (of_each bodies_of us) (given_whole u (All-head HasWholeBodies u us h)) (all_given_whole us (All-tail HasWholeBodies u us h))

found_given : (text : List ℕ) (ds : List Declaration) (given : List (Row Ty)) (name : List ℕ) (t : Ty) → found name (as_trees given ++ definitions_in text ds) ≡ Some (as_tree t) → found name given ≡ Some t
found_given text ds [] name t e = absurd (texts_have_no_tree (one_text text ds) name t (ap (found name) (append-nil (definitions_in text ds)) ∙ e))
found_given text ds (r ∷ rs) name t e = by (λ f. found_given text ds rs name t f) (bytes_eq name r.0) e
  where
    by : (found name (as_trees rs ++ definitions_in text ds) ≡ Some (as_tree t) → found name rs ≡ Some t) → (b : Bool) →
        cond b (Some (as_tree r.1)) (found name (as_trees rs ++ definitions_in text ds)) ≡ Some (as_tree t) → cond b (Some r.1) (found name rs) ≡ Some t
    by later true f = let g : r.1 ≡ t = cc in ap (λ t. Some t) g
    by later false f = later f

module _ (own : Signature) (used : List Signature) (text : List ℕ) (lines : List Sentence) (s : Signature) (ready : AreReady own used text lines) (seen : HasSeen own used text lines s) where
  -- each name has one entry
  names_are : map (λ e. e.name.items) s.constants.items ≡ first_names (names_in standard_constants) (constant_names own used text lines)
  names_are = sym (rows_names (λ e. e.name.items) (λ e. e.number) s.constants.items) ∙ ap names_in seen.constants ∙ names_numbered 32 (first_names (names_in standard_constants) (constant_names own used text lines))

  name_at : (i : ℕ) (e : ConstantEntry) → slice_get s.constants.items i ≡ Some e → slice_get (first_names (names_in standard_constants) (constant_names own used text lines)) i ≡ Some e.name.items
  name_at i e at = ap (λ l. slice_get l i) (sym names_are) ∙ get_map (λ e. e.name.items) s.constants.items i e at

  module _ (i : ℕ) (e : ConstantEntry) (at : slice_get s.constants.items i ≡ Some e) where
    one_entry : (x : ConstantEntry) → Contains s.constants.items x → x.name.items ≡ e.name.items → x ≡ e
    one_entry x c same =
        let N = constant_names own used text lines in
        let (j, there) = at_place s.constants.items x c in
        let p = place_first (names_in standard_constants) N j e.name.items (name_at j x there ∙ ap (λ n. Some n) same) in
        let q = place_first (names_in standard_constants) N i e.name.items (name_at i e at) in
        let z : j ≡ i = same_Some j i (sym p ∙ q) in
        same_Some x e (sym there ∙ ap (slice_get s.constants.items) z ∙ at)

    not_standard : (n : ℕ) → found e.name.items standard_constants ≡ Some n → ⊥
    not_standard n f =
        let new = new_name (names_in standard_constants) (constant_names own used text lines) i e.name.items (name_at i e at) in
        true≢false (sym (ap is_some f) ∙ found_among e.name.items standard_constants ∙ new)

    -- one that a signature has with a whole type
    alike_whole : (u : Signature) → SeesAlike u s → IsOrdered u → Contains (constants_of u) e.name.items → IsWhole (named_in s e.scheme)
    alike_whole u alike ordered c =
        let (o, there, name) = from_map (λ e. e.name.items) u.constants.items e.name.items c in
        by o name (All-contains (λ e. IsWhole (named_in u e.scheme)) u.constants.items o ordered.whole there) (alike o there)
      where
        by : (o : ConstantEntry) → e.name.items ≡ o.name.items → IsWhole (named_in u o.scheme) → HasNamed s o.name.items o.type_vars (named_in u o.scheme) → IsWhole (named_in s e.scheme)
        by o name whole (standard_one n f t) = absurd (not_standard n (ap (λ n. found n standard_constants) name ∙ f))
        by o name whole (declared_one x c same vars t) = subst (λ x. IsWhole (named_in s x.scheme)) (one_entry x c (same ∙ sym name)) (subst IsWhole (sym t) whole)

    module _ (d : DeclaresAsWritten own used text lines s) where
      kinds_are : kind_names s ≡ said_kinds (said_in_module own used text lines)
      kinds_are = kind_names_are 8 s.kinds.items (kinds_among (declared_names (said_in_module own used text lines))) seen.kinds

      trees_known : AreTreesKnown (said_in_module own used text lines) (as_trees d.given ++ definitions_in text (declarations lines))
      trees_known name t f =
          let b = d.are.bodies name t (found_given text (declarations lines) d.given name t f) in
          let all = All-append (λ r. IsWhole r.1) (bodies_of own) (of_each bodies_of used) (given_whole own ready.whole) (all_given_whole used ready.used_whole) in
          whole_known (kind_name (said_kinds (said_in_module own used text lines))) t
          (subst (λ ns. IsWhole (named (kind_name ns) t)) kinds_are (found_of IsWhole (bodies_of own ++ of_each bodies_of used) all name (named (kind_name (kind_names s)) t) b))

      scheme_whole : (w : Written) (count : ℕ) (t : Ty) → IsSchemeOf (said_in_module own used text lines) (as_trees d.given ++ definitions_in text (declarations lines)) w count t → IsWhole (named (kind_name (kind_names s)) t)
      scheme_whole w count t h =
          let κ = kind_name (said_kinds (said_in_module own used text lines)) in
          subst (λ ns. IsWhole (named (kind_name ns) t)) (sym kinds_are)
          (subst (λ t. IsWhole (named κ t)) (sym h.numbered)
          (numbered_whole κ h.replaced (type_known (said_in_module own used text lines) (as_trees d.given ++ definitions_in text (declarations lines)) trees_known h.is)))

      -- one that the text declares
      written_whole : Contains (constant_names_in text (declarations lines)) e.name.items → IsWhole (named_in s e.scheme)
      written_whole c =
          let (row, there, name) = from_map (λ r. r.0) (typed_in text (declarations lines)) e.name.items (subst (λ ns. Contains ns e.name.items) (sym (names_of_text text (declarations lines))) c) in
          let w = All-contains (HasWrittenType s (said_in_module own used text lines) (as_trees d.given ++ definitions_in text (declarations lines))) (typed_in text (declarations lines)) row d.constants there in
          by row name w.count w.tree (scheme_whole row.1 w.count w.tree w.scheme) w.has
        where
          by : (row : Row Written) → e.name.items ≡ row.0 → (count : ℕ) (t : Ty) → IsWhole (named (kind_name (kind_names s)) t) → HasScheme s row.0 count t → IsWhole (named_in s e.scheme)
          by row name count t whole (standard_scheme n f same) = absurd (not_standard n (ap (λ n. found n standard_constants) name ∙ f))
          by row name count t whole (declared_scheme x c same vars tree) =
              subst (λ x. IsWhole (named_in s x.scheme)) (one_entry x c (same ∙ sym name)) (subst (λ t. IsWhole (named (kind_name (kind_names s)) t)) (sym tree) whole)

    entry_whole : SeesTheirs own used text lines s → DeclaresAsWritten own used text lines s → IsWhole (named_in s e.scheme)
    entry_whole theirs d =
        let theirs_and_own = constants_of own ++ of_each constants_of used in
        behind (Contains-append_cases theirs_and_own (constant_names_in text (declarations lines)) e.name.items (first_among (names_in standard_constants) (constant_names own used text lines) i e.name.items (name_at i e at)))
      where
        front : Contains (constants_of own) e.name.items ⊎ Contains (of_each constants_of used) e.name.items → IsWhole (named_in s e.scheme)
        front (inl c) = alike_whole own (theirs.own_ones ready.apart ready.ordered) ready.ordered c
        front (inr c) =
            let (k, u, there, has) = from_each constants_of used e.name.items c in
            let l = slice_get_within used k u there in
            let few = ready.few in
            alike_whole u (theirs.used_ones ready.apart ready.ordered ready.used_ordered k u there (omega (arith, l, few))) (All-contains IsOrdered used u ready.used_ordered (from_place used k u there)) has

        behind : Contains (constants_of own ++ of_each constants_of used) e.name.items ⊎ Contains (constant_names_in text (declarations lines)) e.name.items → IsWhole (named_in s e.scheme)
        behind (inl c) = front (Contains-append_cases (constants_of own) (of_each constants_of used) e.name.items c)
        behind (inr c) = written_whole d c

pub types_whole : (own : Signature) (used : List Signature) (text : List ℕ) (lines : List Sentence) (s : Signature) → AreReady own used text lines → HasSeen own used text lines s → SeesTheirs own used text lines s →
    DeclaresTypes own used text lines s → HasWholeTypes s
types_whole own used text lines s ready seen theirs declared i d l =
    entry_whole own used text lines s ready seen i (get_or s.constants.items i d) (slice_get-get_or s.constants.items i d l) theirs (declared ready)
