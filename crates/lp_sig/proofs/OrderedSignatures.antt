-- The signature of texts: kinds by their places, types of constants with as many variables as is said and with kinds that have names.
use Rattle.lp_sig.specs.AsWritten.{HasWholeBodies}
use Rattle.std.specs.Global.{Global}
use Rattle.std.proofs.Common.{◌≡◌, ℕ, zero, suc, ◌+◌, ◌-◌, ◌<◌, min, List, [], ◌∷◌, ◌++◌, map, length, refl, sym, ap, subst, ◌∙◌, arith, Bool, true, false, Option, Some, None, get_or}
use Rattle.std.specs.Prelude.{◌||◌, String, Vec, nat_eq, if◌then◌else◌, option_map, slice_get, All}
use Rattle.std.specs.List.{list_any, range_with_len}
use Rattle.std.proofs.lemmas.Bool.{eqb-true}
use Rattle.std.proofs.lemmas.List.Elements.{All-nil, All-cons}
use Rattle.std.proofs.lemmas.Option.{same_Some, slice_get_within}
use Rattle.lp_base.specs.declared.place.Spot.{Spot}
use Rattle.lp_calculus.specs.Types.{Ty, Tys, var, param, con, arrow, tys, no_types, types, instance, instances}
use Rattle.lp_standard.specs.declared.fixity.Fixity.{Fixity}
use Rattle.lp_syntax.specs.declared.text.RawTypeNode.{RawTypeNode}
use Rattle.lp_syntax.specs.declared.text.SignatureText.{SignatureText}
use Rattle.lp_term.specs.Nodes.{type_tree}
use Rattle.lp_sig.specs.Rows.{Row, found, kind_row}
use Rattle.lp_sig.specs.Said.{Said, names_in, kinds_among, declared_names, numbered, of_steps}
use Rattle.lp_sig.specs.Schemes.{type_variables, types_variables, met, AllMet, first_variables, place, numbered_type}
use Rattle.lp_sig.specs.Standard.{standard_kinds}
use Rattle.lp_sig.specs.Words.{number_said}
use Rattle.lp_sig.specs.Types.{Definition, given_for, one_or, kind_number_of, IsTypeOf, AreTypesOf, a_variable, kind_on, abbreviation_on, an_arrow, no_more, one_more, IsBodyOf, written_body, given_body, as_tree}
use Rattle.lp_sig.specs.Constants.{Written, IsConstant, AreInStep, declared_constants}
use Rattle.lp_sig.specs.Named.{named, all_named, kind_name, kind_names, named_in, IsWhole, AreWhole, IsOrdered}
use Rattle.lp_sig.specs.Abbreviations.{Text, nothing_seen, one_text, seen_after}
use Rattle.lp_sig.specs.Refusals.{IsAccepted, seen_in}
use Rattle.lp_sig.specs.Refusals.{constants_of as constants_of_steps}
use Rattle.lp_sig.specs.Sighted.{said_kinds}
use Rattle.lp_sig.specs.declared.entries.ConstantEntry.{ConstantEntry}
use Rattle.lp_sig.specs.declared.entries.KindEntry.{KindEntry}
use Rattle.lp_sig.specs.declared.signature.Signature.{Signature}
use Rattle.lp_sig.proofs.Agreeing.{texts_have_no_tree}
use Rattle.lp_sig.proofs.Meetings.{all_met}
use Rattle.lp_sig.proofs.OneScheme.{Renames, RenamesAll, renamed_same}
use Rattle.lp_sig.proofs.OneSignature.{said_together}
use Rattle.lp_sig.proofs.Sighting.{found_in_place, numbered_in_place, numbered_names, name_below, name_above}

-- numbers by places
numbers_by_place : (n k : ℕ) (es : List KindEntry) (rows : List (Row ℕ)) → n ≡ k → map kind_row es ≡ numbered n rows → map (λ e. e.number) es ≡ range_with_len k (length es)
numbers_by_place n k [] rows same e = refl
numbers_by_place n k (x ∷ xs) [] same e = absurd (cc)
numbers_by_place n k (x ∷ xs) (r ∷ rs) same e =
    let row : kind_row x ≡ (r.0, (n, r.1)) = cc in
    let h : x.number ≡ n = ap (λ p. p.1.0) row in
    let t : map kind_row xs ≡ numbered (suc n) rs = cc in
    let z : suc n ≡ k + 1 = omega (arith, same) in
    let rest = numbers_by_place (suc n) (k + 1) xs rs z t in
    λ i. (h ∙ same) i ∷ rest i

pub kind_names_are : (n : ℕ) (es : List KindEntry) (rows : List (Row ℕ)) → map kind_row es ≡ numbered n rows → map (λ e. e.name.items) es ≡ names_in rows
kind_names_are n [] [] e = refl
kind_names_are n [] (r ∷ rs) e = absurd (cc)
kind_names_are n (x ∷ xs) [] e = absurd (cc)
kind_names_are n (x ∷ xs) (r ∷ rs) e =
    let row : kind_row x ≡ (r.0, (n, r.1)) = cc in
    let h : x.name.items ≡ r.0 = ap (λ p. p.0) row in
    let t : map kind_row xs ≡ numbered (suc n) rs = cc in
    let rest = kind_names_are (suc n) xs rs t in
    λ i. h i ∷ rest i

-- a kind of a type has a name
kind_known : (name : List ℕ) (said : List (Row Said)) (k : ℕ) → kind_number_of name said ≡ Some k → (w : List ℕ) × (kind_name (said_kinds said) k ≡ Some w)
unfolding kind_number_of number_said
kind_known name said k e = standard (found name standard_kinds) refl e
  where
    there_at : (ns : List (List ℕ)) (i : ℕ) → i < length ns → (w : List ℕ) × (slice_get ns i ≡ Some w)
    there_at [] i l = absurd (omega (arith, l))
    there_at (n ∷ ns) zero l = (n, refl)
    there_at (n ∷ ns) (suc i) l = there_at ns i (omega (arith, l))

    declared : (o : Option (ℕ × ℕ)) → found name (numbered 8 (kinds_among (declared_names said))) ≡ o → option_map (λ n. min n 4294967295)
        (option_map (λ r. r.0) o) ≡ Some k → (w : List ℕ) × (kind_name (said_kinds said) k ≡ Some w)
    declared None s e = absurd (cc)
    declared (Some r) s e =
        let (i, at, there) = found_in_place name 8 (numbered 8 (kinds_among (declared_names said))) r (numbered_in_place 8 (kinds_among (declared_names said))) s in
        let there_said : slice_get (said_kinds said) i ≡ Some name = ap (λ l. slice_get l i) (sym (numbered_names 8 (kinds_among (declared_names said)))) ∙ there in
        let l = slice_get_within (said_kinds said) i name there_said in
        let m : min r.0 4294967295 ≡ k = same_Some (min r.0 4294967295) k e in
        let (w, here) = there_at (said_kinds said) (k - 8) (omega (arith, at, l, m)) in
        let z : k ≡ 8 + (k - 8) = omega (arith, at, m) in
        (w, name_above (said_kinds said) k (k - 8) w z here)

    standard : (o : Option (ℕ × ℕ)) → found name standard_kinds ≡ o → one_or (option_map (λ r. r.0) o)
        (option_map (λ n. min n 4294967295) (option_map (λ r. r.0) (found name (numbered 8 (kinds_among (declared_names said)))))) ≡ Some k →
        (w : List ℕ) × (kind_name (said_kinds said) k ≡ Some w)
    standard None s e = declared (found name (numbered 8 (kinds_among (declared_names said)))) refl e
    standard (Some r) s e =
        let (i, at, there) = found_in_place name 0 standard_kinds r (refl, (refl, (refl, (refl, tt)))) s in
        let l = slice_get_within (names_in standard_kinds) i name there in
        let m : r.0 ≡ k = same_Some r.0 k e in
        let four : length (names_in standard_kinds) ≡ 4 = refl in
        (name, name_below (said_kinds said) k i name (omega (arith, at, m)) (omega (arith, l, four)) there)

-- all kinds of a type are known
abbrev mutual
  pub KindsKnown : (ℕ → Option (List ℕ)) → Ty → Type 0
  KindsKnown κ (var x) = Unit {0}
  KindsKnown κ (param k) = Unit {0}
  KindsKnown κ (con c ts) = ((w : List ℕ) × (κ c ≡ Some w)) × AllKindsKnown κ ts
  KindsKnown κ (arrow a b) = KindsKnown κ a × KindsKnown κ b

  pub AllKindsKnown : (ℕ → Option (List ℕ)) → Tys → Type 0
  AllKindsKnown κ no_types = Unit {0}
  AllKindsKnown κ (types t ts) = KindsKnown κ t × AllKindsKnown κ ts

module _ (κ : ℕ → Option (List ℕ)) where
  mutual
    known_whole : (T : Ty) → KindsKnown κ T → IsWhole (named κ T)
    known_whole (var x) h = tt
    known_whole (param k) h = tt
    known_whole (con c ts) (h, hs) = (h, all_whole ts hs)
    known_whole (arrow a b) (h, k) = (known_whole a h, known_whole b k)

    all_whole : (ts : Tys) → AllKindsKnown κ ts → AreWhole (all_named κ ts)
    all_whole no_types h = tt
    all_whole (types t ts) (h, hs) = (known_whole t h, all_whole ts hs)

  mutual
    pub whole_known : (T : Ty) → IsWhole (named κ T) → KindsKnown κ T
    whole_known (var x) h = tt
    whole_known (param k) h = tt
    whole_known (con c ts) (h, hs) = (h, whole_all ts hs)
    whole_known (arrow a b) (h, k) = (whole_known a h, whole_known b k)

    whole_all : (ts : Tys) → AreWhole (all_named κ ts) → AllKindsKnown κ ts
    whole_all no_types h = tt
    whole_all (types t ts) (h, hs) = (whole_known t h, whole_all ts hs)

  module _ (θ : ℕ → Ty) (known : (x : ℕ) → KindsKnown κ (θ x)) where
    mutual
      instance_known : (T : Ty) → KindsKnown κ T → KindsKnown κ (instance θ T)
      instance_known (var x) h = known x
      instance_known (param k) h = tt
      instance_known (con c ts) (h, hs) = (h, instances_known ts hs)
      instance_known (arrow a b) (h, k) = (instance_known a h, instance_known b k)

      instances_known : (ts : Tys) → AllKindsKnown κ ts → AllKindsKnown κ (instances θ ts)
      instances_known no_types h = tt
      instances_known (types t ts) (h, hs) = (instance_known t h, instances_known ts hs)

  given_known : (ts : List Ty) (n : ℕ) (d : Ty) → AllKindsKnown κ (tys ts) → KindsKnown κ d → KindsKnown κ (given_for ts n d)
  given_known [] n d h k = k
  given_known (t ∷ ts) zero d (h, hs) k = h
  given_known (t ∷ ts) (suc n) d (h, hs) k = given_known ts n d hs k

-- the kinds of bodies that are given as trees
abbrev pub AreTreesKnown : List (Row Said) → List (Row Definition) → Type 0
AreTreesKnown said defs = (name : List ℕ) (t : Ty) → found name defs ≡ Some (as_tree t) → KindsKnown (kind_name (said_kinds said)) t

module _ (said : List (Row Said)) (defs : List (Row Definition)) (trees : AreTreesKnown said defs) where
  mutual
    pub type_known : {text : List ℕ} {ν : ℕ → Spot → Option ℕ} {nodes : List RawTypeNode} {i : ℕ} {t : Ty} → IsTypeOf said defs text ν nodes i t → KindsKnown (kind_name (said_kinds said)) t
    type_known (a_variable s args n at v is e) = subst (KindsKnown (kind_name (said_kinds said))) (sym e) tt
    type_known (kind_on s args k ts at v means number parts e) = subst (KindsKnown (kind_name (said_kinds said))) (sym e) (kind_known _ said k number, list_known parts)
    type_known (abbreviation_on s args d body ts at v means declared inner parts e) =
        let all = list_known parts in
        subst (KindsKnown (kind_name (said_kinds said))) (sym e)
        (instance_known (kind_name (said_kinds said)) (λ n. given_for ts n (var n)) (λ n. given_known (kind_name (said_kinds said)) ts n (var n) all tt) body (body_known _ declared inner))
    type_known (an_arrow a b x y at left right e) = subst (KindsKnown (kind_name (said_kinds said))) (sym e) (type_known left, type_known right)

    body_known : {d : Definition} {t : Ty} (name : List ℕ) → found name defs ≡ Some d → IsBodyOf said defs d t → KindsKnown (kind_name (said_kinds said)) t
    body_known name f (written_body text ps ty e apart is) = type_known is
    body_known name f (given_body u e g) = subst (KindsKnown (kind_name (said_kinds said))) (sym g) (trees name u (f ∙ ap (λ d. Some d) e))

    list_known : {text : List ℕ} {ν : ℕ → Spot → Option ℕ} {nodes : List RawTypeNode} {places : List ℕ} {ts : List Ty} → AreTypesOf said defs text ν
        nodes places ts → AllKindsKnown (kind_name (said_kinds said)) (tys ts)
    list_known (no_more e f) = subst (λ ts. AllKindsKnown (kind_name (said_kinds said)) (tys ts)) (sym f) tt
    list_known (one_more i rest t us e f first later) = subst (λ ts. AllKindsKnown (kind_name (said_kinds said)) (tys ts)) (sym f) (type_known first, list_known later)

-- a type with its variables numbered has as many of them
place_once : (N : List ℕ) (x y : ℕ) → list_any (nat_eq x) N ≡ true → list_any (nat_eq y) N ≡ true → place N x ≡ place N y → x ≡ y
place_once [] x y h k e = absurd (cc)
place_once (n ∷ N) x y h k e = by (nat_eq x n) refl (nat_eq y n) refl (place_once N x y) h k e
  where
    by : (t : Bool) → nat_eq x n ≡ t → (u : Bool) → nat_eq y n ≡ u → (list_any (nat_eq x) N ≡ true → list_any (nat_eq y) N ≡ true → place N x ≡ place
        N y → x ≡ y) → (t || list_any (nat_eq x) N) ≡ true →
        (u || list_any (nat_eq y) N) ≡ true → (if t then 0 else suc (place N x)) ≡ (if u then 0 else suc (place N y)) → x ≡ y
    by true a true b ih h k e = eqb-true x n a ∙ sym (eqb-true y n b)
    by true a false b ih h k e = absurd (omega (arith, e))
    by false a true b ih h k e = absurd (omega (arith, e))
    by false a false b ih h k e = ih h k (omega (arith, e))

module _ (N : List ℕ) where
  met_front : (xs ys : List ℕ) → AllMet N (xs ++ ys) → AllMet N xs × AllMet N ys
  met_front [] ys h = (tt, h)
  met_front (x ∷ xs) ys (h, hs) = let r = met_front xs ys hs in ((h, r.0), r.1)

  mutual
    numbered_renames : (T : Ty) → AllMet N (type_variables T) → Renames (λ x y. (list_any (nat_eq x) N ≡ true) × (y ≡ place N x)) T (instance (λ x. var (place N x)) T)
    numbered_renames (var x) (h, hs) = (h, refl)
    numbered_renames (param k) h = refl
    numbered_renames (con c ts) h = (refl, all_renames ts h)
    numbered_renames (arrow a b) h = let r = met_front (type_variables a) (type_variables b) h in (numbered_renames a r.0, numbered_renames b r.1)

    all_renames : (ts : Tys) → AllMet N (types_variables ts) → RenamesAll (λ x y. (list_any (nat_eq x) N ≡ true) × (y ≡ place N x)) ts (instances (λ x. var (place N x)) ts)
    all_renames no_types h = tt
    all_renames (types t ts) h = let r = met_front (type_variables t) (types_variables ts) h in (numbered_renames t r.0, all_renames ts r.1)

pub same_count : (T : Ty) → length (first_variables (numbered_type T)) ≡ length (first_variables T)
unfolding first_variables numbered_type
same_count T =
    let N = met [] (type_variables T) in
    sym (renamed_same (λ x y. (list_any (nat_eq x) N ≡ true) × (y ≡ place N x)) (λ x y z p q. p.1 ∙ sym q.1)
    (λ x y z p q. place_once N x y p.0 q.0 (sym p.1 ∙ q.1)) T (instance (λ x. var (place N x)) T)
    (numbered_renames N T (all_met (type_variables T) []))).0

pub numbered_whole : (κ : ℕ → Option (List ℕ)) (T : Ty) → KindsKnown κ T → IsWhole (named κ (numbered_type T))
unfolding numbered_type
numbered_whole κ T k = known_whole κ (instance (λ x. var (place (first_variables T) x)) T) (instance_known κ (λ x. var (place (first_variables T) x)) (λ x. tt) T k)

-- the constants
module _ (s : Signature) (said : List (Row Said)) (defs : List (Row Definition)) where
  each_inside : (n : ℕ) (rows : List (Row Written)) (es : List ConstantEntry) → AreInStep (IsConstant s.bank said defs) n rows es → All (λ e. e.scheme.0 < length s.bank.types) es
  each_inside n [] [] h = All-nil (λ e. e.scheme.0 < length s.bank.types)
  each_inside n [] (e ∷ es) h = absurd h
  each_inside n (r ∷ rs) [] h = All-nil (λ e. e.scheme.0 < length s.bank.types)
  each_inside n (r ∷ rs) (e ∷ es) (h, hs) = All-cons (λ e. e.scheme.0 < length s.bank.types) e es h.inside (each_inside (suc n) rs es hs)

  each_counted : (n : ℕ) (rows : List (Row Written)) (es : List ConstantEntry) → AreInStep (IsConstant s.bank said defs) n rows es → All
      (λ e. e.type_vars ≡ length (first_variables (type_tree s.bank e.scheme.0))) es
  each_counted n [] [] h = All-nil (λ e. e.type_vars ≡ length (first_variables (type_tree s.bank e.scheme.0)))
  each_counted n [] (e ∷ es) h = absurd h
  each_counted n (r ∷ rs) [] h = All-nil (λ e. e.type_vars ≡ length (first_variables (type_tree s.bank e.scheme.0)))
  each_counted n (r ∷ rs) (e ∷ es) (h, hs) =
      All-cons (λ e. e.type_vars ≡ length (first_variables (type_tree s.bank e.scheme.0))) e es
      (h.scheme.counted ∙ sym (same_count h.scheme.replaced) ∙ ap (λ T. length (first_variables T)) (sym h.scheme.numbered)) (each_counted (suc n) rs es hs)

  each_whole : AreTreesKnown said defs → kind_names s ≡ said_kinds said → (n : ℕ) (rows : List (Row Written)) (es : List ConstantEntry) → AreInStep
      (IsConstant s.bank said defs) n rows es → All (λ e. IsWhole (named_in s e.scheme)) es
  each_whole trees names n [] [] h = All-nil (λ e. IsWhole (named_in s e.scheme))
  each_whole trees names n [] (e ∷ es) h = absurd h
  each_whole trees names n (r ∷ rs) [] h = All-nil (λ e. IsWhole (named_in s e.scheme))
  each_whole trees names n (r ∷ rs) (e ∷ es) (h, hs) =
      All-cons (λ e. IsWhole (named_in s e.scheme)) e es
      (subst (λ ns. IsWhole (named (kind_name ns) (type_tree s.bank e.scheme.0))) (sym names)
      (subst (λ T. IsWhole (named (kind_name (said_kinds said)) T)) (sym h.scheme.numbered)
      (numbered_whole (kind_name (said_kinds said)) h.scheme.replaced (type_known said defs trees h.scheme.is))))
      (each_whole trees names (suc n) rs es hs)

texts_known : (said : List (Row Said)) (ts : List Text) → AreTreesKnown said (seen_after nothing_seen ts).definitions
texts_known said ts name t e = absurd (texts_have_no_tree ts name t (ap (found name) (sym (said_together nothing_seen ts).1) ∙ e))

pub signature_ordered : (names : List (String Global)) (sources : List (Vec ℕ Global)) (texts : List SignatureText) (root : ℕ) (fixities : List (Row (Fixity × ℕ))) (s : Signature) →
    IsAccepted names sources texts root (map kind_row s.kinds.items) fixities s.bank s.abbreviations.items s.constants.items → IsOrdered s
signature_ordered names sources texts root fixities s a =
    let z = seen_in names sources texts a.steps in
    let rows = declared_constants (constants_of_steps names sources texts a.steps) in
    record {
      kinds = numbers_by_place 8 8 s.kinds.items (kinds_among (declared_names z.said)) refl a.kinds_are;
      inside = each_inside s z.said z.definitions 32 rows s.constants.items a.constants_are;
      counts = each_counted s z.said z.definitions 32 rows s.constants.items a.constants_are;
      whole = each_whole s z.said z.definitions (texts_known z.said (of_steps one_text sources texts a.steps)) (kind_names_are 8 s.kinds.items (kinds_among (declared_names z.said)) a.kinds_are) 32 rows s.constants.items a.constants_are;
    }

pub bodies_whole : (names : List (String Global)) (sources : List (Vec ℕ Global)) (texts : List SignatureText) (root : ℕ) (fixities : List (Row (Fixity × ℕ))) (s : Signature) →
    IsAccepted names sources texts root (map kind_row s.kinds.items) fixities s.bank s.abbreviations.items s.constants.items → HasWholeBodies s
bodies_whole names sources texts root fixities s a k d l =
    let z = seen_in names sources texts a.steps in
    let e = get_or s.abbreviations.items k d in
    let body = a.abbreviations_are.bodies k d l in
    let known = body_known z.said z.definitions (texts_known z.said (of_steps one_text sources texts a.steps)) e.name.items body.tree.declared body.tree.is in
    subst (λ ns. IsWhole (named (kind_name ns) (type_tree s.bank e.body.0))) (sym (kind_names_are 8 s.kinds.items (kinds_among (declared_names z.said)) a.kinds_are)) (known_whole (kind_name (said_kinds z.said)) (type_tree s.bank e.body.0) known)
