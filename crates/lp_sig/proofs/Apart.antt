-- The names of a signature that was elaborated are apart.
use Rattle.std.specs.Global.{Global}
use Rattle.std.proofs.Common.{◌≡◌, ℕ, suc, List, [], ◌∷◌, ◌++◌, map, Bool, true, false, refl, sym, ap, subst, ◌∙◌, true≢false, Vec, String}
use Rattle.std.specs.Prelude.{if◌then◌else◌, ◌||◌}
use Rattle.std.specs.Str.{bytes_eq}
use Rattle.std.proofs.lemmas.Slice.Eq.{bytes_eq-Decides}
use Rattle.lp_standard.specs.declared.fixity.Fixity.{Fixity}
use Rattle.lp_syntax.specs.declared.text.SignatureText.{SignatureText}
use Rattle.lp_term.specs.Nodes.{Nodes}
use Rattle.lp_sig.specs.Rows.{Row, kind_row}
use Rattle.lp_sig.specs.Standard.{standard_kinds, standard_constants}
use Rattle.lp_sig.specs.Said.{Said, a_kind, an_abbreviation, is_among, names_in, firsts, kinds_among, abbreviations_among, declared_names, numbered}
use Rattle.lp_sig.specs.Entries.{parameters_row}
use Rattle.lp_sig.specs.Modules.{kind_said, abbreviation_said, constants_of, first_names, IsApart}
use Rattle.lp_sig.specs.Types.{Definition}
use Rattle.lp_sig.specs.Constants.{Written, AreInStep, IsConstant, declared_constants}
use Rattle.lp_sig.specs.Refusals.{IsAccepted, seen_in, constants_of as constants_of_steps}
use Rattle.lp_sig.specs.declared.entries.ConstantEntry.{ConstantEntry}
use Rattle.lp_sig.specs.declared.entries.KindEntry.{KindEntry}
use Rattle.lp_sig.specs.declared.entries.AbbreviationEntry.{AbbreviationEntry}
use Rattle.lp_sig.specs.declared.signature.Signature.{Signature}

-- rows whose names are new, one after the other
abbrev pub AreNew : {A : Type 0} → List (List ℕ) → List (Row A) → Type 0
AreNew known [] = Unit {0}
AreNew known (r ∷ rs) = (is_among r.0 known ≡ false) × AreNew (r.0 ∷ known) rs

pub firsts_new : {A : Type 0} (known : List (List ℕ)) (rows : List (Row A)) → AreNew known (firsts known rows)
firsts_new known [] = tt
firsts_new {A} known (r ∷ rs) = by (is_among r.0 known) refl (firsts_new known rs) (firsts_new (r.0 ∷ known) rs)
  where
    by : (t : Bool) → is_among r.0 known ≡ t → AreNew known (firsts known rs) → AreNew (r.0 ∷ known) (firsts (r.0 ∷ known) rs) → AreNew known
        (if t then firsts known rs else r ∷ firsts (r.0 ∷ known) rs)
    by true e h k = h
    by false e h k = (e, k)

pub new_firsts : {A : Type 0} (known : List (List ℕ)) (rows : List (Row A)) → AreNew known rows → firsts known rows ≡ rows
new_firsts known [] n = refl
new_firsts known (r ∷ rs) (e, n) = ap (λ t. if t then firsts known rs else r ∷ firsts (r.0 ∷ known) rs) e ∙ ap (λ l. r ∷ l) (new_firsts (r.0 ∷ known) rs n)

-- which names are known does not hang on their order
pub new_same : {A : Type 0} (known other : List (List ℕ)) (rows : List (Row A)) → ((n : List ℕ) → is_among n known ≡ is_among n other) → AreNew known rows → AreNew other rows
new_same known other [] same n = tt
new_same known other (r ∷ rs) same (e, n) = (sym (same r.0) ∙ e, new_same (r.0 ∷ known) (r.0 ∷ other) rs (λ m. ap (λ b. bytes_eq m r.0 || b) (same m)) n)

swapped : (a b c : Bool) → (a || (b || c)) ≡ (b || (a || c))
swapped true true c = refl
swapped true false c = refl
swapped false true c = refl
swapped false false c = refl

or_left : (a b : Bool) → (a || b) ≡ false → a ≡ false
or_left true b e = e
or_left false b e = refl

or_right : (a b : Bool) → (a || b) ≡ false → b ≡ false
or_right true b e = absurd (true≢false e)
or_right false b e = e

turned : (n m : List ℕ) → bytes_eq n m ≡ false → bytes_eq m n ≡ false
turned n m e = by (bytes_eq m n) refl
  where
    by : (t : Bool) → bytes_eq m n ≡ t → t ≡ false
    by false f = refl
    by true f = let s : m ≡ n = (bytes_eq-Decides m n).0 f in absurd (true≢false (sym ((bytes_eq-Decides n m).1 (sym s)) ∙ e))

-- a row may come later
pub new_later : {A : Type 0} (known : List (List ℕ)) (r : Row A) (xs ys : List (Row A)) → is_among r.0 known ≡ false → AreNew (r.0 ∷ known) (xs ++ ys) → AreNew known (xs ++ r ∷ ys)
new_later known r [] ys e n = (e, n)
new_later known r (x ∷ xs) ys e (f, n) = (
  or_right (bytes_eq x.0 r.0) (is_among x.0 known) f,
  new_later (x.0 ∷ known) r xs ys (both (turned x.0 r.0 (or_left (bytes_eq x.0 r.0) (is_among x.0 known) f)) e)
      (new_same (x.0 ∷ r.0 ∷ known) (r.0 ∷ x.0 ∷ known) (xs ++ ys) (λ m. swapped (bytes_eq m x.0) (bytes_eq m r.0) (is_among m known)) n),
)
  where
    both : bytes_eq r.0 x.0 ≡ false → is_among r.0 known ≡ false → (bytes_eq r.0 x.0 || is_among r.0 known) ≡ false
    both p q = ap (λ b. b || is_among r.0 known) p ∙ q

abbrev pub kind_again : Row ℕ → Row Said
kind_again r = (r.0, a_kind r.1)

abbrev pub abbreviation_again : Row ℕ → Row Said
abbreviation_again r = (r.0, an_abbreviation r.1)

-- first the kinds, then the abbreviations
pub new_parted : (known : List (List ℕ)) (rows : List (Row Said)) → AreNew known rows → AreNew known (map kind_again (kinds_among rows) ++ map abbreviation_again (abbreviations_among rows))
new_parted known [] n = tt
new_parted known ((m, a_kind c) ∷ rs) (e, n) = (e, new_parted (m ∷ known) rs n)
new_parted known ((m, an_abbreviation p) ∷ rs) (e, n) = new_later known (m, an_abbreviation p) (map kind_again (kinds_among rs))
    (map abbreviation_again (abbreviations_among rs)) e (new_parted (m ∷ known) rs n)

kinds_back : (n : ℕ) (es : List KindEntry) (rows : List (Row ℕ)) → map kind_row es ≡ numbered n rows → map kind_said es ≡ map kind_again rows
kinds_back n [] [] e = refl
kinds_back n [] (r ∷ rs) e = absurd (cc)
kinds_back n (x ∷ xs) [] e = absurd (cc)
kinds_back n (x ∷ xs) (r ∷ rs) e =
    let h : kind_row x ≡ (r.0, (n, r.1)) = cc in
    let t : map kind_row xs ≡ numbered (suc n) rs = cc in
    ap (λ y. (y.0, a_kind y.1.1) ∷ map kind_said xs) h ∙ ap (λ l. (r.0, a_kind r.1) ∷ l) (kinds_back (suc n) xs rs t)

abbreviations_back : (es : List AbbreviationEntry) (rows : List (Row ℕ)) → map parameters_row es ≡ rows → map abbreviation_said es ≡ map abbreviation_again rows
abbreviations_back [] rows e = ap (map abbreviation_again) e
abbreviations_back (x ∷ xs) [] e = absurd (cc)
abbreviations_back (x ∷ xs) (r ∷ rs) e =
    let h : parameters_row x ≡ r = cc in
    let t : map parameters_row xs ≡ rs = cc in
    ap (λ y. (y.0, an_abbreviation y.1) ∷ map abbreviation_said xs) h ∙ ap (λ l. (r.0, an_abbreviation r.1) ∷ l) (abbreviations_back xs rs t)

pub said_apart : (said : List (Row Said)) (kinds : List KindEntry) (abbreviations : List AbbreviationEntry) → map kind_row kinds ≡ numbered 8
    (kinds_among (declared_names said)) → map parameters_row abbreviations ≡ abbreviations_among (declared_names said) →
    declared_names (map kind_said kinds ++ map abbreviation_said abbreviations) ≡ map kind_said kinds ++ map abbreviation_said abbreviations
said_apart said kinds abbreviations k a =
    let e : map kind_said kinds ++ map abbreviation_said abbreviations ≡ map kind_again (kinds_among (declared_names said)) ++ map abbreviation_again (abbreviations_among (declared_names said)) =
    ap (λ l. l ++ map abbreviation_said abbreviations) (kinds_back 8 kinds (kinds_among (declared_names said)) k) ∙ ap
    (λ l. map kind_again (kinds_among (declared_names said)) ++ l) (abbreviations_back abbreviations (abbreviations_among (declared_names said))
    a) in
    new_firsts (names_in standard_kinds) (map kind_said kinds ++ map abbreviation_said abbreviations)
    (subst (AreNew (names_in standard_kinds)) (sym e) (new_parted (names_in standard_kinds) (declared_names said) (firsts_new (names_in standard_kinds) said)))

-- names by themselves
pub names_again : {A : Type 0} (known : List (List ℕ)) (rows : List (Row A)) → AreNew known rows → first_names known (names_in rows) ≡ names_in rows
names_again known [] n = refl
names_again known (r ∷ rs) (e, n) = ap (λ t. if t then first_names known (names_in rs) else r.0 ∷ first_names (r.0 ∷ known) (names_in rs)) e ∙ ap (λ l. r.0 ∷ l) (names_again (r.0 ∷ known) rs n)

step_names : (b : Nodes) (said : List (Row Said)) (defs : List (Row Definition)) (n : ℕ) (rows : List (Row Written)) (es : List ConstantEntry) →
    AreInStep (IsConstant b said defs) n rows es → map (λ e. e.name.items) es ≡ names_in rows
step_names b said defs n [] [] a = refl
step_names b said defs n [] (e ∷ es) a = absurd (a)
step_names b said defs n (r ∷ rs) [] a = absurd (a)
step_names b said defs n (r ∷ rs) (e ∷ es) (a, more) = ap (λ m. m ∷ map (λ e. e.name.items) es) a.name ∙ ap (λ l. r.0 ∷ l) (step_names b said defs (suc n) rs es more)

pub names_apart : (names : List (String Global)) (sources : List (Vec ℕ Global)) (texts : List SignatureText) (root : ℕ) (fixities : List (Row (Fixity × ℕ))) (s : Signature) →
    IsAccepted names sources texts root (map kind_row s.kinds.items) fixities s.bank s.abbreviations.items s.constants.items → IsApart s
names_apart names sources texts root fixities s a =
    let rows = constants_of_steps names sources texts a.steps in
    let e : constants_of s ≡ names_in (declared_constants rows) = step_names s.bank (seen_in names sources texts a.steps).said
    (seen_in names sources texts a.steps).definitions 32 (declared_constants rows) s.constants.items a.constants_are in
    record {
      kinds = said_apart (seen_in names sources texts a.steps).said s.kinds.items s.abbreviations.items a.kinds_are a.abbreviations_are.rows;
      constants = ap (first_names (names_in standard_constants)) e ∙ names_again (names_in standard_constants) (declared_constants rows) (firsts_new (names_in standard_constants) rows) ∙ sym e;
    }
